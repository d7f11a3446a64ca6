-- A tunnel is opened, and so is the machine's.
use Rattle.std.proofs.Common.{◌≡◌, ◌⊎◌, ⊎_elim, ℕ, suc, ◌+◌, ◌<◌, ◌≤◌, Bool, true, false, List, [], ◌∷◌, ◌++◌, refl, sym, ap, ap₂, ◌∙◌, subst, Option, Some, None, arith, append-nil, eq-eqb, ne_eqb, lt-ltb}
use Rattle.std.specs.Prelude.{if◌then◌else◌, ◌==◌, ◌&&◌}
use Rattle.id_table.specs.Ids.{at, put}
use Rattle.session_book.specs.Books.{Kept}
use Rattle.tunnel_fsm.specs.Rows.{state_number}
use Rattle.tunnel_fsm.specs.declared.table.TunnelState.TheVariants.{WaitCtlReply}
use Rattle.control_message.specs.declared.message.Message.TheVariants.{Sccrq}
use Rattle.end_names.specs.Names.{node_of}
use Rattle.end_model.specs.declared.event.Event.{Event}
use Rattle.end_model.specs.declared.moves.Opened.{Opened}
use Rattle.end_model.specs.declared.moves.Restored.{Restored}
use Rattle.end_model.specs.declared.moves.Froze.{Froze}
use Rattle.end_model.specs.declared.moves.Move.{Move}
use Rattle.end_model.specs.declared.moves.Move.TheVariants as move
use Rattle.end_model.specs.Messages.{opening_of}
use Rattle.end_model.specs.Tunnels.{Tunnel, new_tunnel}
use Rattle.end_model.specs.End.{End}
use Rattle.world_model.specs.declared.standing.Standing.{Standing}
use Rattle.world_model.specs.World.{World, Node, Sender, Deed, config_of, epoch_of, moved}
use Rattle.step_laws.specs.Letters.{Letter}
use Rattle.step_laws.specs.Moves.{with_letter, begun}
use Rattle.book_laws.specs.Books.{Mirrors}
use Rattle.epoch_machine.specs.Letters as machine_letters
use Rattle.epoch_machine.specs.Names.{is_new}
use Rattle.epoch_machine.specs.Tunnels.{Tunnels, Phase, WaitReply, opened}
use Rattle.epoch_machine.specs.Worlds as machine
use Rattle.epoch_machine.specs.Worlds.{all_rules, gives}
use Rattle.epoch_machine.specs.Moves as moves
use Rattle.epoch_machine.specs.Moves.{step, may_open, opens}
use Rattle.stop_laws.specs.Records as records
use Rattle.session_laws.specs.Names.{name, name_of, phase_of}
use Rattle.channel_laws.specs.Accounts.{Part, Opener, Account, no_account, History, about, declines_of, entered_by, attempts_by, answers_by, after}
use Rattle.channel_laws.specs.Steps.{with_end, moves_on}
use Rattle.channel_laws.proofs.Deeds as deeds
use Rattle.recovery_laws.specs.Asking as asking
use Rattle.recovery_laws.specs.Growing.{ChannelsGrow}
use Rattle.recovery_laws.specs.Joined as joined
use Rattle.recovery_laws.proofs.Asking.{gave_one, gave_calls}
use Rattle.join_laws.specs.Steps as steps
use Rattle.join_laws.specs.Steps.{with_book, Follows, Joins}
use Rattle.join_laws.proofs.Channel.{gives_is}
use Rattle.join_laws.proofs.Finish.{Went, went_one, follows}
use Rattle.join_laws.proofs.Made as made
use Rattle.join_laws.proofs.NewTunnel as new_tunnels
use Rattle.join_laws.proofs.NewTunnel.{Makes}
use Rattle.join_laws.proofs.OneTunnel.{NameStays}
use Rattle.join_laws.proofs.PlainOne.{RestStays}

-- ---- in the machine

abbrev with_opened : machine.World → ℕ → ℕ → ℕ → machine.World
with_opened w n m x = record w { tunnels = opened w.tunnels n m x }

opens_is : (w : machine.World) (n m x : ℕ) → w.tunnels.up n ≡ true → 0 < x → w.tunnels.drawn x ≡ false
    → step all_rules w (moves.Opens n m x) ≡ gives (with_opened w n m x) x machine_letters.Sccrq
unfolding step may_open opens
opens_is w n m x up some new = rw (up, lt-ltb 0 x some, new) refl

opens_node : (w : machine.World) (n m x : ℕ) → records.node_of w (moves.Opens n m x) ≡ n
unfolding records.node_of
opens_node w n m x = refl

-- what is so of the tunnels before it gives the letter
record IsOpened (w : machine.World) (n m x : ℕ) : Type 0 where
  drawn : (opened w.tunnels n m x).drawn x ≡ true
  opener : (opened w.tunnels n m x).opener x ≡ true
  node : (opened w.tunnels n m x).node x ≡ n
  peer : (opened w.tunnels n m x).peer x ≡ m
  phase : (opened w.tunnels n m x).phase x ≡ WaitReply
  learned : (y : ℕ) → (opened w.tunnels n m x).learned y ≡ w.tunnels.learned y
  booked : (y : ℕ) → (opened w.tunnels n m x).booked y ≡ w.tunnels.booked y
  entered : (y : ℕ) → (opened w.tunnels n m x).entered y ≡ w.tunnels.entered y
  entered_by : (y e : ℕ) → (opened w.tunnels n m x).entered_by y e ≡ w.tunnels.entered_by y e
  other_drawn : (y : ℕ) → (y ≡ x → ⊥) → (opened w.tunnels n m x).drawn y ≡ w.tunnels.drawn y
  other_opener : (y : ℕ) → (y ≡ x → ⊥) → (opened w.tunnels n m x).opener y ≡ w.tunnels.opener y
  other_node : (y : ℕ) → (y ≡ x → ⊥) → (opened w.tunnels n m x).node y ≡ w.tunnels.node y
  other_peer : (y : ℕ) → (y ≡ x → ⊥) → (opened w.tunnels n m x).peer y ≡ w.tunnels.peer y
  other_phase : (y : ℕ) → (y ≡ x → ⊥) → (opened w.tunnels n m x).phase y ≡ w.tunnels.phase y
  rest : RestStays w (with_opened w n m x)

is_opened : (w : machine.World) (n m x : ℕ) → IsOpened w n m x
unfolding opened
is_opened w n m x = record {
  drawn = ap (λ b. if b then true else w.tunnels.drawn x) (eq-eqb x x refl);
  opener = ap (λ b. if b then true else w.tunnels.opener x) (eq-eqb x x refl);
  node = ap (λ b. if b then n else w.tunnels.node x) (eq-eqb x x refl);
  peer = ap (λ b. if b then m else w.tunnels.peer x) (eq-eqb x x refl);
  phase = ap (λ b. if b then WaitReply else w.tunnels.phase x) (eq-eqb x x refl);
  learned = λ y. refl;
  booked = λ y. refl;
  entered = λ y. refl;
  entered_by = λ y e. refl;
  other_drawn = λ y other. ap (λ b. if b then true else w.tunnels.drawn y) (ne_eqb y x other);
  other_opener = λ y other. ap (λ b. if b then true else w.tunnels.opener y) (ne_eqb y x other);
  other_node = λ y other. ap (λ b. if b then n else w.tunnels.node y) (ne_eqb y x other);
  other_peer = λ y other. ap (λ b. if b then m else w.tunnels.peer y) (ne_eqb y x other);
  other_phase = λ y other. ap (λ b. if b then WaitReply else w.tunnels.phase y) (ne_eqb y x other);
  rest = record {
    epochs = λ y. refl;
    attempts = λ y. refl;
    answers = λ y. refl;
    answered = λ y. refl;
    makes_it = λ y. refl;
    confirmed = λ y. refl;
    giver_first = λ y. refl;
    other_first = λ y. refl;
    ups = λ y. refl;
  };
}

-- with letters that are given and taken, of its channel of epoch 0
pub makes_by : (m y z : machine.World) (x : ℕ) (opener : Bool) (node peer learned : ℕ) (phase : Phase) (says : List machine_letters.Letter)
    (took : ℕ) → Makes m y x opener node peer learned phase [] 0 → asking.GoesOn y z x 0 says took → z.calls ≡ y.calls
    → Makes m z x opener node peer learned phase says took
makes_by m y z x opener node peer learned phase says took k g calls = record {
  drawn = ap (λ (T : Tunnels). T.drawn x) g.tunnels ∙ k.drawn;
  opener_is = ap (λ (T : Tunnels). T.opener x) g.tunnels ∙ k.opener_is;
  node_is = ap (λ (T : Tunnels). T.node x) g.tunnels ∙ k.node_is;
  peer_is = ap (λ (T : Tunnels). T.peer x) g.tunnels ∙ k.peer_is;
  learned_is = ap (λ (T : Tunnels). T.learned x) g.tunnels ∙ k.learned_is;
  phase_is = ap (λ (T : Tunnels). T.phase x) g.tunnels ∙ k.phase_is;
  sent = g.sent ∙ ap (λ ls. ls ++ says) (k.sent ∙ append-nil (m.channels.sent x 0));
  taken = g.taken ∙ ap (λ c. c + took) (k.taken ∙ omega arith);
  later_sent = λ e other. g.others_sent x e (λ same is. other is) ∙ k.later_sent e other;
  later_taken = λ e other. g.others_taken x e (λ same is. other is) ∙ k.later_taken e other;
  other_drawn = λ q other. ap (λ (T : Tunnels). T.drawn q) g.tunnels ∙ k.other_drawn q other;
  stays = λ q other.
      (let s = k.stays q other in record {
        opener = ap (λ (T : Tunnels). T.opener q) g.tunnels ∙ s.opener;
        node = ap (λ (T : Tunnels). T.node q) g.tunnels ∙ s.node;
        peer = ap (λ (T : Tunnels). T.peer q) g.tunnels ∙ s.peer;
        learned = ap (λ (T : Tunnels). T.learned q) g.tunnels ∙ s.learned;
        phase = ap (λ (T : Tunnels). T.phase q) g.tunnels ∙ s.phase;
        booked = ap (λ (T : Tunnels). T.booked q) g.tunnels ∙ s.booked;
        entered = ap (λ (T : Tunnels). T.entered q) g.tunnels ∙ s.entered;
        entered_by = λ e. ap (λ (T : Tunnels). T.entered_by q e) g.tunnels ∙ s.entered_by e;
        sent = λ e. g.others_sent q e (λ same. absurd (other same)) ∙ s.sent e;
        taken = λ e. g.others_taken q e (λ same. absurd (other same)) ∙ s.taken e;
        refused = ap (λ f. f q) g.refused ∙ s.refused;
      });
  booked = ap (λ (T : Tunnels). T.booked x) g.tunnels ∙ k.booked;
  entered = λ q. ap (λ (T : Tunnels). T.entered q) g.tunnels ∙ k.entered q;
  entered_by = λ e. ap (λ (T : Tunnels). T.entered_by x e) g.tunnels ∙ k.entered_by e;
  refused = ap (λ f. f x) g.refused ∙ k.refused;
  rest = record {
    epochs = λ q. ap (λ (T : Tunnels). T.epochs q) g.tunnels ∙ k.rest.epochs q;
    attempts = λ q. ap (λ (T : Tunnels). T.attempts q) g.tunnels ∙ k.rest.attempts q;
    answers = λ q. ap (λ (T : Tunnels). T.answers q) g.tunnels ∙ k.rest.answers q;
    answered = λ q. ap (λ (T : Tunnels). T.answered q) g.tunnels ∙ k.rest.answered q;
    makes_it = λ q. ap (λ (T : Tunnels). T.makes q) g.tunnels ∙ k.rest.makes_it q;
    confirmed = λ q. ap (λ (T : Tunnels). T.confirmed q) g.tunnels ∙ k.rest.confirmed q;
    giver_first = λ q. ap (λ (T : Tunnels). T.giver_first q) g.tunnels ∙ k.rest.giver_first q;
    other_first = λ q. ap (λ (T : Tunnels). T.other_first q) g.tunnels ∙ k.rest.other_first q;
    ups = λ q. ap (λ (T : Tunnels). T.up q) g.tunnels ∙ k.rest.ups q;
  };
  calls = calls ∙ k.calls;
}

opened_makes : (w : machine.World) (n m x : ℕ) → Makes w (with_opened w n m x) x true n m (w.tunnels.learned x) WaitReply [] 0
opened_makes w n m x =
    let o = is_opened w n m x in
    record {
      drawn = o.drawn;
      opener_is = o.opener;
      node_is = o.node;
      peer_is = o.peer;
      learned_is = o.learned x;
      phase_is = o.phase;
      sent = sym (append-nil (w.channels.sent x 0));
      taken = omega arith;
      later_sent = λ e other. refl;
      later_taken = λ e other. refl;
      other_drawn = o.other_drawn;
      stays = λ y other. record {
        opener = o.other_opener y other;
        node = o.other_node y other;
        peer = o.other_peer y other;
        learned = o.learned y;
        phase = o.other_phase y other;
        booked = o.booked y;
        entered = o.entered y;
        entered_by = λ e. o.entered_by y e;
        sent = λ e. refl;
        taken = λ e. refl;
        refused = refl;
      };
      booked = o.booked x;
      entered = o.entered;
      entered_by = λ e. o.entered_by x e;
      refused = refl;
      rest = o.rest;
      calls = refl;
    }

-- ---- the move

module _ (grow : ChannelsGrow) (w : World) (h : History) (n : ℕ) (node : Node) (sender : Option Sender) (moment : ℕ) (ev : Event)
    (m : Opened) (x : End) (d : Deed) (k : Kept) (j : machine.World)
    (q : steps.IsMade w h n node sender moment ev (move.Opened m) x d k j) (b : Kept) (new : Mirrors x b) where
  abbrev mv : Move
  mv = move.Opened m

  abbrev i : ℕ
  i = m.tunnel

  abbrev p : ℕ
  p = node_of m.peer

  abbrev g : History
  g = after h d

  abbrev r : Tunnel
  r = with_letter 0 (Sccrq (opening_of node.end.role node.end.config m.challenge None m.tunnel))
      (new_tunnel (begun m.tunnel m.peer 0 WaitCtlReply moment m.challenge))

  -- the SCCRQ
  abbrev first : Letter
  first = record {
    tunnel = m.tunnel;
    place = m.given;
    session = 0;
    message = Sccrq (opening_of node.end.role (config_of n 0 None false) m.challenge None m.tunnel);
    hidden = None;
  }

  abbrev account : Account
  account = record no_account { part = Opener; peer = p; given = first ∷ [] }

  abbrev X : ℕ
  X = name n i

  abbrev y : machine.World
  y = with_opened j n p X

  abbrev z : machine.World
  z = gives y X machine_letters.Sccrq

  same : moves_on w n node mv x ≡ with_end w n node x
  unfolding moved
  same = refl

  unmade : h.accounts n i 0 ≡ no_account
  unmade = new_tunnels.new_unmade w h n node sender moment ev mv x d k j q i q.moved.does.drawn

  epoch : d.epoch ≡ 0
  epoch = made.epoch_is w h n node sender moment ev mv x d k j q same
      ∙ ap (λ (s : Standing). s.epoch) (new_tunnels.new_epoch w h n node sender moment ev mv x d k j q i q.moved.does.drawn)

  becomes : entered_by d d.move (h.accounts n i 0) ≡ account
  becomes = ap (λ o. entered_by d o (h.accounts n i 0)) q.moved.deed.move_is
      ∙ ap₂ (λ (a : Account) ls. record a { part = Opener; peer = p; given = a.given ++ ls }) unmade
      (gives_is d n node.end.role sender mv q.moved.deed)

  declines : (f c : ℕ) → declines_of d.move f c ≡ false
  declines f c = ap (λ o. declines_of o f c) q.moved.deed.move_is

  attempts : (f c : ℕ) (o : Option Restored) → attempts_by d d.move f c o ≡ o
  attempts f c o = ap (λ v. attempts_by d v f c o) q.moved.deed.move_is

  answers : (f c : ℕ) (o : Option Froze) → answers_by d d.move f c o ≡ o
  answers f c o = ap (λ v. answers_by d v f c o) q.moved.deed.move_is

  is : g.accounts n i 0 ≡ account
  is = deeds.here h d n i 0 account q.moved.deed.node_is (ap about q.moved.deed.move_is) epoch becomes declines attempts answers

  none_learned : j.tunnels.learned X ≡ 0
  none_learned = new_tunnels.new_learned w h n node sender moment ev mv x d k j q i q.moved.does.drawn

  goes : asking.GoesOn y z X 0 (machine_letters.Sccrq ∷ []) 0
  goes = subst (λ e. asking.GoesOn y z X e (machine_letters.Sccrq ∷ []) 0)
      ((is_opened j n p X).entered X ∙ new_tunnels.new_entered w h n node sender moment ev mv x d k j q i q.moved.does.drawn)
      (gave_one y X machine_letters.Sccrq)

  is_new_one : new_tunnels.IsNew w h n node sender moment ev mv x d k j q i q.moved.does.drawn g b z r account
      (machine_letters.Sccrq ∷ []) 0 p (j.tunnels.learned X)
  is_new_one = record {
    mirrors = new;
    tunnels = ap (λ (v : End). v.tunnels) q.moved.does.after;
    empty = refl;
    recovery = refl;
    early = omega arith;
    unopen = refl;
    ids = ap (λ (v : End). v.session_ids) q.moved.does.after;
    is = is;
    others = deeds.others h d n i 0 account q.moved.deed.node_is (ap about q.moved.deed.move_is) epoch becomes declines attempts answers;
    attempts = λ f c. attempts f c (h.attempts f c);
    answers = λ f c. answers f c (h.answers f c);
    part = refl;
    answer = refl;
    declined = refl;
    sent = refl;
    taken = refl;
    peer_is = refl;
    learned_so = joined.ByLetter (none_learned ∙ sym (ap joined.learned_name is));
    makes = makes_by j y z X true n p (j.tunnels.learned X) WaitReply (machine_letters.Sccrq ∷ []) 0 (opened_makes j n p X) goes
        (gave_calls y X machine_letters.Sccrq).0;
  }

  went : Went ev n j z
  went = went_one ev n j z (moves.Opens n p X) (opens_node j n p X) refl tt
      (opens_is j n p X (made.up_before w h n node sender moment ev mv x d k j q)
      (new_tunnels.new_name w h n node sender moment ev mv x d k j q i q.moved.does.drawn)
      (new_tunnels.new_unused w h n node sender moment ev mv x d k j q i q.moved.does.drawn))

  pub opened_follows : Follows ev (with_book (moves_on w n node mv x) n b) (after h d) n j
  opened_follows = follows ev w h n node mv x d k b j z same went
      (λ js goes_on. new_tunnels.new_joined w h n node sender moment ev mv x d k j q i q.moved.does.drawn grow.stay g b z r account
      (machine_letters.Sccrq ∷ []) 0 p (j.tunnels.learned X) is_new_one js goes_on)
      (new_tunnels.new_queries w h n node sender moment ev mv x d k j q i q.moved.does.drawn grow.stay g b z r account
      (machine_letters.Sccrq ∷ []) 0 p (j.tunnels.learned X) is_new_one)
      (new_tunnels.new_named w h n node sender moment ev mv x d k j q i q.moved.does.drawn grow.stay g b z r account
      (machine_letters.Sccrq ∷ []) 0 p (j.tunnels.learned X) is_new_one)

pub opened_joins : ChannelsGrow → (m : Opened) → Joins (move.Opened m)
opened_joins grow m w h n node sender moment ev x d k j q b new = opened_follows grow w h n node sender moment ev m x d k j q b new
