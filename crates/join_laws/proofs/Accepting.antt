-- A tunnel accepts an SCCRQ, and so does the machine's: the opener that gave it goes to this node.
use Rattle.std.proofs.Common.{◌≡◌, ◌⊎◌, ⊎_elim, ℕ, suc, ◌+◌, ◌<◌, ◌≤◌, Bool, true, false, List, [], ◌∷◌, ◌++◌, refl, sym, ap, ap₂, ◌∙◌, subst, Option, Some, None, arith, append-nil, eq-eqb, ne_eqb, lt-ltb}
use Rattle.std.specs.Prelude.{take, ◌||◌, is_some, if◌then◌else◌, ◌==◌, ◌&&◌}
use Rattle.id_table.specs.Ids.{at, put}
use Rattle.session_book.specs.Books.{Kept, tunnel_at}
use Rattle.tunnel_fsm.specs.Rows.{state_number}
use Rattle.tunnel_fsm.specs.declared.table.TunnelState.TheVariants.{WaitCtlConn}
use Rattle.control_message.specs.declared.message.Message.TheVariants.{Sccrq, Sccrp}
use Rattle.end_names.specs.Names.{node_of}
use Rattle.end_model.specs.declared.event.Event.{Event}
use Rattle.end_model.specs.declared.moves.Accepted.{Accepted}
use Rattle.end_model.specs.declared.moves.Restored.{Restored}
use Rattle.end_model.specs.declared.moves.Froze.{Froze}
use Rattle.end_model.specs.declared.moves.Move.{Move}
use Rattle.end_model.specs.declared.moves.Move.TheVariants as move
use Rattle.control_channel.specs.Numbers.{learnt_by}
use Rattle.end_model.specs.declared.tunnel.Control.{Control}
use Rattle.end_model.specs.Channels.{counts_taken}
use Rattle.end_model.specs.Moments.{is_open}
use Rattle.end_model.specs.Messages.{flags_of, opening_of}
use Rattle.end_model.specs.Tunnels.{Tunnel, new_tunnel}
use Rattle.end_model.specs.End.{End}
use Rattle.world_model.specs.declared.standing.Standing.{Standing}
use Rattle.world_model.specs.World.{World, Node, Sender, Deed, config_of, epoch_of, moved}
use Rattle.step_laws.specs.Letters.{Letter}
use Rattle.step_laws.specs.Moves.{with_letter, begun, learns_window}
use Rattle.book_laws.specs.Books.{Mirrors}
use Rattle.epoch_machine.specs.Letters as machine_letters
use Rattle.epoch_machine.specs.Names.{is_new}
use Rattle.epoch_machine.specs.Tunnels.{Tunnels, WaitConnect, accepted}
use Rattle.epoch_machine.specs.Worlds as machine
use Rattle.epoch_machine.specs.Worlds.{all_rules, gives, took_one}
use Rattle.epoch_machine.specs.Moves as moves
use Rattle.epoch_machine.specs.Moves.{step, may_accept, accepts}
use Rattle.stop_laws.specs.Records as records
use Rattle.session_laws.specs.Names.{name, name_of, phase_of}
use Rattle.session_laws.proofs.Names.{known_name}
use Rattle.channel_laws.specs.Accounts.{Part, Opener, Acceptor, Taken, Account, heeded, no_account, History, about, declines_of, entered_by, attempts_by, answers_by, after}
use Rattle.channel_laws.specs.Steps.{with_end, moves_on}
use Rattle.channel_laws.specs.Facts.{IsMade, IsOpener, IsAcceptor, partner_in}
use Rattle.channel_laws.proofs.Deeds as deeds
use Rattle.channel_laws.proofs.Linked.{opener_of, acceptor_of}
use Rattle.recovery_laws.specs.Asking as asking
use Rattle.recovery_laws.specs.Growing.{ChannelsGrow}
use Rattle.recovery_laws.specs.Joined.{TunnelJoined, live_in, kept_in}
use Rattle.recovery_laws.specs.Joined as joined
use Rattle.recovery_laws.specs.Queries.{letters_in, question_of, questions_in, weigh, weight}
use Rattle.recovery_laws.proofs.Asking.{gave_one, gave_calls, took_it, took_calls, more}
use Rattle.join_laws.specs.Steps as steps
use Rattle.join_laws.specs.Steps.{with_book, Follows, Joins}
use Rattle.join_laws.proofs.Channel.{gives_is}
use Rattle.join_laws.proofs.Finish.{Went, went_one, follows}
use Rattle.join_laws.proofs.Hearing.{hears_said}
use Rattle.join_laws.proofs.Made as made
use Rattle.join_laws.proofs.NewTunnel as new_tunnels
use Rattle.join_laws.proofs.NewTunnel.{Makes}
use Rattle.join_laws.proofs.Opening.{makes_by}
use Rattle.join_laws.proofs.OneTunnel.{NameStays}
use Rattle.join_laws.proofs.PlainOne.{RestStays}

-- ---- a window

pub window_state : (window : ℕ) (c : Control) → (learns_window window c).state ≡ c.state
window_state window c = by (window == 0)
  where
    by : (o : Bool) → (if o then c else record c { channel = learnt_by c.channel window }).state ≡ c.state
    by true = refl
    by false = refl

-- ---- in the machine

abbrev with_accepted : machine.World → ℕ → ℕ → machine.World
with_accepted w s x = record w { tunnels = accepted w.tunnels s x }

accepts_is : (w : machine.World) (s x : ℕ) → w.tunnels.up (w.tunnels.peer s) ≡ true → w.tunnels.drawn s ≡ true → w.tunnels.opener s ≡ true
    → 0 < x → w.tunnels.drawn x ≡ false
    → step all_rules w (moves.Accepts s x) ≡ took_one (gives (with_accepted w s x) x machine_letters.Sccrp) x
unfolding step may_accept accepts
accepts_is w s x up drawn opener some new = rw (up, drawn, opener, lt-ltb 0 x some, new) refl

accepts_node : (w : machine.World) (s x : ℕ) → records.node_of w (moves.Accepts s x) ≡ w.tunnels.peer s
unfolding records.node_of
accepts_node w s x = refl

accepted_makes : (w : machine.World) (s x : ℕ)
    → Makes w (with_accepted w s x) x (w.tunnels.opener x) (w.tunnels.peer s) (w.tunnels.node s) s WaitConnect [] 0
unfolding accepted
accepted_makes w s x = record {
  drawn = ap (λ b. if b then true else w.tunnels.drawn x) (eq-eqb x x refl);
  opener_is = refl;
  node_is = ap (λ b. if b then w.tunnels.peer s else w.tunnels.node x) (eq-eqb x x refl);
  peer_is = ap (λ b. if b then w.tunnels.node s else w.tunnels.peer x) (eq-eqb x x refl);
  learned_is = ap (λ b. if b then s else w.tunnels.learned x) (eq-eqb x x refl);
  phase_is = ap (λ b. if b then WaitConnect else w.tunnels.phase x) (eq-eqb x x refl);
  sent = sym (append-nil (w.channels.sent x 0));
  taken = omega arith;
  later_sent = λ e other. refl;
  later_taken = λ e other. refl;
  other_drawn = λ y other. ap (λ b. if b then true else w.tunnels.drawn y) (ne_eqb y x other);
  stays = λ y other. record {
    opener = refl;
    node = ap (λ b. if b then w.tunnels.peer s else w.tunnels.node y) (ne_eqb y x other);
    peer = ap (λ b. if b then w.tunnels.node s else w.tunnels.peer y) (ne_eqb y x other);
    learned = ap (λ b. if b then s else w.tunnels.learned y) (ne_eqb y x other);
    phase = ap (λ b. if b then WaitConnect else w.tunnels.phase y) (ne_eqb y x other);
    booked = refl;
    entered = refl;
    entered_by = λ e. refl;
    sent = λ e. refl;
    taken = λ e. refl;
    refused = refl;
  };
  booked = refl;
  entered = λ y. refl;
  entered_by = λ e. refl;
  refused = refl;
  rest = record {
    epochs = λ y. refl;
    attempts = λ y. refl;
    answers = λ y. refl;
    answered = λ y. refl;
    makes_it = λ y. refl;
    confirmed = λ y. refl;
    giver_first = λ y. refl;
    other_first = λ y. refl;
    ups = λ y. refl;
  };
  calls = refl;
}

accepted_entered : (w : machine.World) (s x : ℕ) → (with_accepted w s x).tunnels.entered x ≡ w.tunnels.entered x
unfolding accepted
accepted_entered w s x = refl

-- ---- the move

module _ (grow : ChannelsGrow) (w : World) (h : History) (n : ℕ) (node : Node) (sender : Option Sender) (moment : ℕ) (ev : Event)
    (m : Accepted) (x : End) (d : Deed) (k : Kept) (j : machine.World)
    (q : steps.IsMade w h n node sender moment ev (move.Accepted m) x d k j) (b : Kept) (new : Mirrors x b) where
  abbrev mv : Move
  mv = move.Accepted m

  abbrev i : ℕ
  i = m.tunnel

  abbrev p : ℕ
  p = node_of m.peer

  abbrev g : History
  g = after h d

  abbrev r : Tunnel
  r = with_letter 0 (Sccrp (opening_of node.end.role node.end.config m.challenge m.response m.tunnel))
      (new_tunnel (counts_taken (learns_window m.window (record (begun m.tunnel m.peer m.remote WaitCtlConn moment m.challenge) {
        flags = flags_of q.moved.does.opening.failover;
      }))))

  -- the SCCRP
  abbrev first : Letter
  first = record {
    tunnel = m.tunnel;
    place = m.given;
    session = 0;
    message = Sccrp (opening_of node.end.role (config_of n 0 None false) m.challenge m.response m.tunnel);
    hidden = None;
  }

  abbrev tk : Taken
  tk = record { sender = d.sender; number = m.taken.number; move = d.move }

  abbrev account : Account
  account = record no_account { part = Acceptor; peer = p; remote = m.remote; given = first ∷ []; taken = tk ∷ [] }

  abbrev X : ℕ
  X = name n i

  abbrev S : ℕ
  S = name p m.remote

  abbrev y : machine.World
  y = with_accepted j S X

  abbrev v : machine.World
  v = gives y X machine_letters.Sccrp

  abbrev z : machine.World
  z = took_one v X

  same : moves_on w n node mv x ≡ with_end w n node x
  unfolding moved
  same = refl

  unmade : h.accounts n i 0 ≡ no_account
  unmade = new_tunnels.new_unmade w h n node sender moment ev mv x d k j q i q.moved.does.drawn

  epoch : d.epoch ≡ 0
  epoch = made.epoch_is w h n node sender moment ev mv x d k j q same
      ∙ ap (λ (s : Standing). s.epoch) (new_tunnels.new_epoch w h n node sender moment ev mv x d k j q i q.moved.does.drawn)

  becomes : entered_by d d.move (h.accounts n i 0) ≡ account
  becomes = ap (λ o. entered_by d o (h.accounts n i 0)) q.moved.deed.move_is
      ∙ ap₂ (λ (a : Account) ls. record a {
        part = Acceptor;
        peer = p;
        remote = m.remote;
        given = a.given ++ ls;
        taken = a.taken ++ tk ∷ [];
      }) unmade (gives_is d n node.end.role sender mv q.moved.deed)

  declines : (f c : ℕ) → declines_of d.move f c ≡ false
  declines f c = ap (λ o. declines_of o f c) q.moved.deed.move_is

  attempts : (f c : ℕ) (o : Option Restored) → attempts_by d d.move f c o ≡ o
  attempts f c o = ap (λ a. attempts_by d a f c o) q.moved.deed.move_is

  answers : (f c : ℕ) (o : Option Froze) → answers_by d d.move f c o ≡ o
  answers f c o = ap (λ a. answers_by d a f c o) q.moved.deed.move_is

  is : g.accounts n i 0 ≡ account
  is = deeds.here h d n i 0 account q.moved.deed.node_is (ap about q.moved.deed.move_is) epoch becomes declines attempts answers

  others : (f c e : ℕ) → ((f ≡ n) × (c ≡ i) × (e ≡ 0) → ⊥) → g.accounts f c e ≡ h.accounts f c e
  others = deeds.others h d n i 0 account q.moved.deed.node_is (ap about q.moved.deed.move_is) epoch becomes declines attempts answers

  -- ---- the opener, by what holds behind the move

  accepts_it : IsAcceptor g.accounts n i (g.accounts n i 0)
  accepts_it = (acceptor_of (moves_on w n node mv x) g n i 0 (g.accounts n i 0) (q.later.accounts n i 0)
      (ap (λ (a : Account). a.part) is)).1

  some_remote : 0 < m.remote
  some_remote = by m.remote (λ none. accepts_it.known (ap (λ (a : Account). a.remote) is ∙ none))
    where
      by : (c : ℕ) → (c ≡ 0 → ⊥) → 0 < c
      by c some = omega (arith, some)

  partner_is : partner_in g.accounts 0 (g.accounts n i 0) ≡ g.accounts p m.remote 0
  partner_is = ap (λ (a : Account). partner_in g.accounts 0 a) is

  opens_now : (g.accounts p m.remote 0).part ≡ Opener
  opens_now = sym (ap (λ (a : Account). a.part) partner_is) ∙ accepts_it.part

  apart : (p ≡ n) × (m.remote ≡ i) × (◌≡◌ {A = ℕ} 0 0) → ⊥
  apart s =
      let two : Acceptor ≡ Opener = sym (ap (λ (a : Account). a.part) is)
      ∙ (sym (ap₂ (λ f c. (g.accounts f c 0).part) s.0 s.1) ∙ opens_now) in
      absurd cc

  opener_same : g.accounts p m.remote 0 ≡ h.accounts p m.remote 0
  opener_same = others p m.remote 0 apart

  opens : (h.accounts p m.remote 0).part ≡ Opener
  opens = sym (ap (λ (a : Account). a.part) opener_same) ∙ opens_now

  goes_here : (h.accounts p m.remote 0).peer ≡ n
  goes_here = sym (ap (λ (a : Account). a.peer) opener_same) ∙ (sym (ap (λ (a : Account). a.peer) partner_is) ∙ accepts_it.peer)

  opener_made : IsMade (h.accounts p m.remote 0)
  opener_made none = (let two : Opener ≡ _ = sym opens ∙ none in absurd cc)

  pfits : p < 256
  pfits = (q.moved.holds.accounts p m.remote 0).node opener_made

  rfits : m.remote < 65536
  rfits = (q.moved.holds.accounts p m.remote 0).id opener_made

  opener_is : IsOpener h.accounts p m.remote (h.accounts p m.remote 0)
  opener_is = (opener_of w h p m.remote 0 (h.accounts p m.remote 0) (q.moved.holds.accounts p m.remote 0) opens).1

  told_there : TunnelJoined j (with_book w n k) h p m.remote (live_in (at (with_book w n k).nodes p) m.remote)
      (kept_in (at (with_book w n k).nodes p) m.remote)
  told_there = q.joined.joined.tunnels p m.remote pfits rfits

  -- ---- in the machine

  told : TunnelJoined j (with_book w n k) h n i None (tunnel_at k i)
  told = new_tunnels.new_told w h n node sender moment ev mv x d k j q i q.moved.does.drawn

  opener_here : j.tunnels.opener X ≡ false
  opener_here = told.opener ∙ ap (λ (a : Account). joined.is_opener a.part) unmade

  node_there : j.tunnels.node S ≡ p
  node_there = told_there.node opener_made

  peer_there : j.tunnels.peer S ≡ n
  peer_there = told_there.peer opener_made ∙ goes_here

  drawn_there : j.tunnels.drawn S ≡ true
  drawn_there = q.joined.joined.drawn p m.remote pfits rfits
      ∙ ap (λ o. joined.is_made o || (is_some (h.attempts p m.remote) || is_some (h.answers p m.remote))) opens

  entered_now : y.tunnels.entered X ≡ 0
  entered_now = accepted_entered j S X
      ∙ new_tunnels.new_entered w h n node sender moment ev mv x d k j q i q.moved.does.drawn

  gave : asking.GoesOn y v X 0 (machine_letters.Sccrp ∷ []) 0
  gave = subst (λ e. asking.GoesOn y v X e (machine_letters.Sccrp ∷ []) 0) entered_now (gave_one y X machine_letters.Sccrp)

  goes : asking.GoesOn y z X 0 (machine_letters.Sccrp ∷ []) 1
  goes = more y v z X 0 (machine_letters.Sccrp ∷ []) [] 0 1 gave
      (subst (λ e. asking.GoesOn v z X e [] 1) (ap (λ (T : Tunnels). T.entered X) gave.tunnels ∙ entered_now) (took_it v X))

  calls : z.calls ≡ y.calls
  calls = (took_calls v X).0 ∙ (gave_calls y X machine_letters.Sccrp).0

  begins_so : Makes j y X false n p S WaitConnect [] 0
  begins_so =
      subst (λ o. Makes j y X false n o S WaitConnect [] 0) node_there
      (subst (λ o. Makes j y X false o (j.tunnels.node S) S WaitConnect [] 0) peer_there
      (subst (λ o. Makes j y X o (j.tunnels.peer S) (j.tunnels.node S) S WaitConnect [] 0) opener_here (accepted_makes j S X)))

  took_first : weigh (take (heeded account) (partner_in g.accounts 0 account).given) ≡ 1
  took_first =
      ap (λ (a : Account). weigh (take 1 a.given)) opener_same
      ∙ (ap (λ ls. weigh (take 1 ls)) opener_is.begins.are ∙ ap (λ o. weight o + 0) opener_is.begins.says_so)

  -- whatever window it learned, it waits
  state_is : r.control.state ≡ WaitCtlConn
  state_is = window_state m.window (record (begun m.tunnel m.peer m.remote WaitCtlConn moment m.challenge) {
    flags = flags_of q.moved.does.opening.failover;
  })

  is_new_one : new_tunnels.IsNew w h n node sender moment ev mv x d k j q i q.moved.does.drawn g b z r account
      (machine_letters.Sccrp ∷ []) 1 p S
  is_new_one = record {
    mirrors = new;
    tunnels = ap (λ (a : End). a.tunnels) q.moved.does.after;
    empty = refl;
    recovery = refl;
    early = subst (λ o. state_number o < 3) (sym state_is) (omega arith);
    unopen = ap is_open state_is;
    ids = ap (λ (a : End). a.session_ids) q.moved.does.after;
    is = is;
    others = others;
    attempts = λ f c. attempts f c (h.attempts f c);
    answers = λ f c. answers f c (h.answers f c);
    part = refl;
    answer = refl;
    declined = refl;
    sent = ap (λ o. letters_in n p (o ++ []) (first ∷ [])) (ap question_of q.moved.deed.move_is);
    taken = took_first;
    peer_is = refl;
    learned_so = joined.ByLetter (sym (ap joined.learned_name is ∙ known_name p m.remote some_remote));
    makes = subst (λ o. Makes j z X false n p S o (machine_letters.Sccrp ∷ []) 1) (sym (ap phase_of state_is))
        (makes_by j y z X false n p S WaitConnect (machine_letters.Sccrp ∷ []) 1 begins_so goes calls);
  }

  went : Went ev n j z
  went = went_one ev n j z (moves.Accepts S X) (accepts_node j S X ∙ peer_there) refl
      (hears_said ev q.moved.does.hears.1.letter q.moved.does.hears.1.came (Sccrq q.moved.does.opening) q.moved.does.hears.1.says.said)
      (accepts_is j S X (ap (λ o. j.tunnels.up o) peer_there ∙ made.up_before w h n node sender moment ev mv x d k j q) drawn_there
      (told_there.opener ∙ ap joined.is_opener opens)
      (new_tunnels.new_name w h n node sender moment ev mv x d k j q i q.moved.does.drawn)
      (new_tunnels.new_unused w h n node sender moment ev mv x d k j q i q.moved.does.drawn))

  pub accepted_follows : Follows ev (with_book (moves_on w n node mv x) n b) (after h d) n j
  accepted_follows = follows ev w h n node mv x d k b j z same went
      (λ js goes_on. new_tunnels.new_joined w h n node sender moment ev mv x d k j q i q.moved.does.drawn grow.stay g b z r account
      (machine_letters.Sccrp ∷ []) 1 p S is_new_one js goes_on)
      (new_tunnels.new_queries w h n node sender moment ev mv x d k j q i q.moved.does.drawn grow.stay g b z r account
      (machine_letters.Sccrp ∷ []) 1 p S is_new_one)
      (new_tunnels.new_named w h n node sender moment ev mv x d k j q i q.moved.does.drawn grow.stay g b z r account
      (machine_letters.Sccrp ∷ []) 1 p S is_new_one)

pub accepted_joins : ChannelsGrow → (m : Accepted) → Joins (move.Accepted m)
accepted_joins grow m w h n node sender moment ev x d k j q b new = accepted_follows grow w h n node sender moment ev m x d k j q b new
