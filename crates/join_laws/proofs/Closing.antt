-- A tunnel is closed with a StopCCN, and so is the machine's.
use Rattle.std.proofs.Common.{◌≡◌, ◌⊎◌, inl, inr, ⊎_elim, ℕ, ◌+◌, ◌<◌, ◌≤◌, Bool, true, false, List, [], ◌∷◌, ◌++◌, length, refl, sym, ap, ap₂, ◌∙◌, subst, Option, Some, None, arith, eq-eqb, ne_eqb}
use Rattle.std.proofs.lemmas.Bool.{eqb-true}
use Rattle.std.specs.Prelude.{unwrap_or, if◌then◌else◌, ◌==◌}
use Rattle.id_table.specs.Ids.{at, put}
use Rattle.id_table.specs.Order.{at_new, at_other, same_or_not}
use Rattle.session_book.specs.Books.{Kept, tunnel_at}
use Rattle.tunnel_fsm.specs.declared.table.TunnelState.{TunnelState}
use Rattle.tunnel_fsm.specs.declared.table.TunnelState.TheVariants as tunnel_state
use Rattle.tunnel_fsm.specs.declared.table.TunnelEvent.{TunnelEvent}
use Rattle.tunnel_fsm.specs.declared.table.TunnelEvent.TheVariants as event
use Rattle.tunnel_fsm.specs.declared.table.TunnelAction.{TunnelAction}
use Rattle.tunnel_fsm.specs.declared.table.TunnelAction.TheVariants as action
use Rattle.tunnel_fsm.specs.Rows.{rows, row_of, state_number}
use Rattle.control_message.specs.declared.message.Message.TheVariants.{StopCcn}
use Rattle.end_model.specs.declared.event.Event.{Event}
use Rattle.end_model.specs.declared.moves.Closed.{Closed}
use Rattle.end_model.specs.declared.moves.Restored.{Restored}
use Rattle.end_model.specs.declared.moves.Froze.{Froze}
use Rattle.end_model.specs.declared.moves.Move.{Move}
use Rattle.end_model.specs.declared.moves.Move.TheVariants as move
use Rattle.end_model.specs.Tunnels.{Tunnel, mode_of, is_current}
use Rattle.end_model.specs.End.{End}
use Rattle.world_model.specs.World.{World, Node, Sender, Deed, epoch_of, moved}
use Rattle.step_laws.specs.Letters.{Letter}
use Rattle.step_laws.specs.Moves.{with_letter, WhyCloses, ByOperator, ByLetter}
use Rattle.book_laws.specs.Books.{Mirrors}
use Rattle.epoch_machine.specs.Letters as machine_letters
use Rattle.epoch_machine.specs.Tunnels as phases
use Rattle.epoch_machine.specs.Tunnels.{is_active}
use Rattle.epoch_machine.specs.Worlds as machine
use Rattle.epoch_machine.specs.Worlds.{all_rules, leaves, gives}
use Rattle.epoch_machine.specs.Moves as moves
use Rattle.epoch_machine.specs.Moves.{step}
use Rattle.stop_laws.specs.Records.{node_of}
use Rattle.session_laws.specs.Names.{name, name_of, phase_of}
use Rattle.channel_laws.specs.Accounts.{Part, Unmade, Opener, Acceptor, Renewed, Account, heeded, History, about, attempts_by, answers_by, declines_of, entered_by, after}
use Rattle.channel_laws.specs.Facts.{IsOpen, ChannelOk, LiveOk, IsOpener}
use Rattle.channel_laws.specs.Steps.{with_end, moves_on}
use Rattle.channel_laws.proofs.Alone.{open_unless_shut}
use Rattle.channel_laws.proofs.Anew.{here_or_not}
use Rattle.channel_laws.proofs.Deeds as deeds
use Rattle.channel_laws.proofs.Linked.{opener_of}
use Rattle.recovery_laws.specs.Asking as asking
use Rattle.recovery_laws.specs.Growing.{ChannelsGrow}
use Rattle.recovery_laws.specs.Joined.{is_early, learned_name, LearnedSo, TunnelJoined}
use Rattle.recovery_laws.specs.Joined as joined
use Rattle.recovery_laws.specs.Queries.{letters_in, questions_in}
use Rattle.recovery_laws.proofs.Asking.{gave_one, gave_calls}
use Rattle.recovery_laws.proofs.Epochs.{current_phase}
use Rattle.join_laws.specs.Steps as steps
use Rattle.join_laws.specs.Steps.{with_book, Follows, Joins}
use Rattle.join_laws.proofs.Channel.{gives_is, heeds_all}
use Rattle.join_laws.proofs.Finish.{Went, went_one, follows}
use Rattle.join_laws.proofs.Made as made
use Rattle.join_laws.proofs.Shutting as shutting
use Rattle.join_laws.proofs.Shutting.{Shuts}

-- ---- what the machine does

pub closes_is : (w : machine.World) (x : ℕ) → is_active (w.tunnels.phase x) ≡ true
    → step all_rules w (moves.Closes x) ≡ leaves (gives w x machine_letters.StopCcn) x phases.Closed
unfolding step
closes_is w x works = rw works refl

pub closes_node : (w : machine.World) (x : ℕ) → node_of w (moves.Closes x) ≡ w.tunnels.node x
unfolding node_of
closes_node w x = refl

-- ---- by its table

-- a closed tunnel isn't closed once more
closed_row : (on : TunnelEvent) → row_of rows tunnel_state.Closed on ≡ (tunnel_state.Closed, action.SendStopCcn) → ⊥
closed_row event.LocalOpen is = let no_row = ap (λ (p : TunnelState × TunnelAction). p.1) is in cc
closed_row event.SccrqAcc is = let no_row = ap (λ (p : TunnelState × TunnelAction). p.1) is in cc
closed_row event.SccrqNotAcc is = let no_row = ap (λ (p : TunnelState × TunnelAction). p.1) is in cc
closed_row event.SccrpAcc is = let no_row = ap (λ (p : TunnelState × TunnelAction). p.1) is in cc
closed_row event.SccrpNotAcc is = let no_row = ap (λ (p : TunnelState × TunnelAction). p.1) is in cc
closed_row event.ScccnAcc is = let no_row = ap (λ (p : TunnelState × TunnelAction). p.1) is in cc
closed_row event.ScccnNotAcc is = let no_row = ap (λ (p : TunnelState × TunnelAction). p.1) is in cc
closed_row event.AdminClose is = let no_row = ap (λ (p : TunnelState × TunnelAction). p.1) is in cc
closed_row event.StopCcnCame is = let no_row = ap (λ (p : TunnelState × TunnelAction). p.1) is in cc

not_four : (s : TunnelState) (on : TunnelEvent) → row_of rows s on ≡ (tunnel_state.Closed, action.SendStopCcn) → state_number s ≡ 4 → ⊥
not_four tunnel_state.Idle on is four = absurd cc
not_four tunnel_state.WaitCtlReply on is four = absurd cc
not_four tunnel_state.WaitCtlConn on is four = absurd cc
not_four tunnel_state.Established on is four = absurd cc
not_four tunnel_state.Closed on is four = closed_row on is

-- a tunnel that is neither idle nor closed works
pub works : (s : TunnelState) → 1 ≤ state_number s → (state_number s ≡ 4 → ⊥) → is_active (phase_of s) ≡ true
works tunnel_state.Idle some other = absurd (omega (arith, some))
works tunnel_state.WaitCtlReply some other = refl
works tunnel_state.WaitCtlConn some other = refl
works tunnel_state.Established some other = refl
works tunnel_state.Closed some other = absurd (other refl)

-- ---- what it has learned

not_early : (p : Part) → is_early p None ≡ false
not_early Unmade = refl
not_early Opener = refl
not_early Acceptor = refl
not_early Renewed = refl

-- a channel that is closed has learned what it had learned, where an opener that took nothing knows none
pub closed_learned : (a : Account) (r : ℕ) → IsOpen a → r ≡ a.remote → (a.part ≡ Opener → length a.taken ≡ 0 → a.remote ≡ 0)
    → learned_name (record a { remote = r; closed = Some (length a.taken) }) ≡ learned_name a
closed_learned a r is_open same none =
    ap (λ y. if is_early a.part (Some (length a.taken)) then 0 else name_of a.peer y) same
    ∙ (by a.part refl
    ∙ sym (ap (λ c. if is_early a.part c then 0 else name_of a.peer a.remote) is_open
    ∙ ap (λ b. if b then 0 else name_of a.peer a.remote) (not_early a.part)))
  where
    opener : a.part ≡ Opener → (b : Bool) → (length a.taken == 0) ≡ b → (if b then 0 else name_of a.peer a.remote) ≡ name_of a.peer a.remote
    opener is true zero = sym (ap (λ y. name_of a.peer y) (none is (eqb-true (length a.taken) 0 zero)))
    opener is false zero = refl

    by : (p : Part) → a.part ≡ p → (if is_early p (Some (length a.taken)) then 0 else name_of a.peer a.remote) ≡ name_of a.peer a.remote
    by Unmade is = refl
    by Opener is = opener is (length a.taken == 0) refl
    by Acceptor is = refl
    by Renewed is = refl

-- ---- the move

module _ (grow : ChannelsGrow) (w : World) (h : History) (n : ℕ) (node : Node) (sender : Option Sender) (moment : ℕ) (ev : Event)
    (m : Closed) (x : End) (d : Deed) (k : Kept) (j : machine.World)
    (q : steps.IsMade w h n node sender moment ev (move.Closed m) x d k j) (b : Kept) (new : Mirrors x b) where
  abbrev mv : Move
  mv = move.Closed m

  abbrev i : ℕ
  i = m.tunnel

  abbrev e : ℕ
  e = epoch_of w n m.tunnel

  abbrev t : Tunnel
  t = q.moved.does.tunnel

  abbrev a : Account
  a = h.accounts n m.tunnel (epoch_of w n m.tunnel)

  abbrev g : History
  g = after h d

  abbrev last : Letter
  last = record { tunnel = m.tunnel; place = m.given; session = 0; message = StopCcn m.tunnel m.result m.error; hidden = None }

  abbrev told_it : Tunnel
  told_it = with_letter 0 (StopCcn m.tunnel m.result m.error) (record t {
    control = record t.control { state = tunnel_state.Closed; remote = m.remote; closed = moment };
  })

  abbrev r : Tunnel
  r = record told_it { calls = [] }

  abbrev X : ℕ
  X = name n i

  abbrev y : machine.World
  y = gives j X machine_letters.StopCcn

  abbrev z : machine.World
  z = leaves y X phases.Closed

  same : moves_on w n node mv x ≡ with_end w n node x
  unfolding moved
  same = refl

  at_t : at node.end.tunnels i ≡ Some t
  at_t = q.moved.does.there

  live : LiveOk w h n i t
  live = made.live_ok w h n node sender moment ev mv x d k j q i t at_t

  channel : ChannelOk h.accounts n i e a t
  channel = made.channel_ok w h n node sender moment ev mv x d k j q i t at_t q.moved.does.current

  not_shut : state_number t.control.state ≡ 4 → ⊥
  not_shut = not_four t.control.state q.moved.does.on q.moved.does.row

  is_open_now : IsOpen a
  is_open_now = open_unless_shut h.accounts i e a t a.part channel.state not_shut

  knows_by : WhyCloses node.end.config.secret t ev q.moved.does.on m → m.remote ≡ t.control.remote
  knows_by (ByOperator is on remote result error) = remote
  knows_by (ByLetter told c next takes closes other remote) = remote

  knows : m.remote ≡ a.remote
  knows = knows_by q.moved.does.why ∙ channel.remote

  abbrev closed : Account
  closed = record a { remote = m.remote; closed = Some (length a.taken) }

  abbrev shut : Account
  shut = record closed { given = a.given ++ last ∷ [] }

  becomes : entered_by d d.move a ≡ shut
  becomes = ap (λ o. entered_by d o a) q.moved.deed.move_is
      ∙ ap (λ ls. record closed { given = a.given ++ ls }) (gives_is d n node.end.role sender mv q.moved.deed)

  epoch : d.epoch ≡ e
  epoch = made.epoch_is w h n node sender moment ev mv x d k j q same

  declines : (p f : ℕ) → declines_of d.move p f ≡ false
  declines p f = ap (λ o. declines_of o p f) q.moved.deed.move_is

  attempts : (p f : ℕ) (o : Option Restored) → attempts_by d d.move p f o ≡ o
  attempts p f o = ap (λ v. attempts_by d v p f o) q.moved.deed.move_is

  answers : (p f : ℕ) (o : Option Froze) → answers_by d d.move p f o ≡ o
  answers p f o = ap (λ v. answers_by d v p f o) q.moved.deed.move_is

  is : g.accounts n i e ≡ shut
  is = deeds.here h d n i e shut q.moved.deed.node_is (ap about q.moved.deed.move_is) epoch becomes declines attempts answers

  other_accounts : (p f u : ℕ) → ((p ≡ n) × (f ≡ i) × (u ≡ e) → ⊥) → g.accounts p f u ≡ h.accounts p f u
  other_accounts = deeds.others h d n i e shut q.moved.deed.node_is (ap about q.moved.deed.move_is) epoch becomes declines attempts answers

  -- an opener that took nothing knows no other end
  knows_none : (v : ℕ) → e ≡ v → (h.accounts n i v).part ≡ Opener → length (h.accounts n i v).taken ≡ 0 → (h.accounts n i v).remote ≡ 0
  knows_none v at_v part none = by (same_or_not (h.accounts n i v).remote 0)
    where
      by : ((h.accounts n i v).remote ≡ 0) ⊎ ((h.accounts n i v).remote ≡ 0 → ⊥) → (h.accounts n i v).remote ≡ 0
      by (inl zero_is) = zero_is
      by (inr some) =
          let few = (opener_of w h n i v (h.accounts n i v) (q.moved.holds.accounts n i v) part).1.some some in
          absurd (omega (arith, few, none))

  learned_name_as : e ≡ 0 → learned_name (g.accounts n i 0) ≡ learned_name (h.accounts n i 0)
  learned_name_as first =
      subst (λ v. learned_name (g.accounts n i v) ≡ learned_name (h.accounts n i v)) first
      (ap learned_name is ∙ closed_learned a m.remote is_open_now knows (λ part none. knows_none e refl part none))

  remote_as : (v : ℕ) → (g.accounts n i v).remote ≡ (h.accounts n i v).remote
  remote_as v = ⊎_elim
      (λ (p : v ≡ e). subst (λ u. (g.accounts n i u).remote ≡ (h.accounts n i u).remote) (sym p)
      (ap (λ (c : Account). c.remote) is ∙ knows))
      (λ other. ap (λ (c : Account). c.remote) (other_accounts n i v (λ p. other p.2)))
      (same_or_not v e)

  roots_as : (p f u : ℕ) → ((g.accounts p f u).part ≡ (h.accounts p f u).part) × ((g.accounts p f u).peer ≡ (h.accounts p f u).peer)
      × ((g.accounts p f u).remote ≡ (h.accounts p f u).remote)
  roots_as p f u = ⊎_elim
      (λ (s : (p ≡ n) × (f ≡ i) × (u ≡ e)).
      rw (s.0, s.1, s.2) (ap (λ (c : Account). c.part) is, ap (λ (c : Account). c.peer) is, remote_as e))
      (λ other.
      let s = other_accounts p f u other in
      (ap (λ (c : Account). c.part) s, ap (λ (c : Account). c.peer) s, ap (λ (c : Account). c.remote) s))
      (here_or_not p f u n i e)

  learned : (v : ℕ) → LearnedSo h.accounts n i v → LearnedSo g.accounts n i v
  learned v (joined.ByLetter so) = joined.ByLetter (so ∙ ⊎_elim
      (λ (first : e ≡ 0). sym (learned_name_as first))
      (λ later. ap learned_name (sym (other_accounts n i 0 (λ p. later (sym p.2)))))
      (same_or_not e 0))
  learned v (joined.ByRecord c part none some so accepts back own) =
      let s = roots_as n i 0 in
      let there = roots_as (h.accounts n i 0).peer c 0 in
      joined.ByRecord c (s.0 ∙ part) (s.2 ∙ none) some (so ∙ ap (λ p. name p c) (sym s.1))
      (ap (λ p. (g.accounts p c 0).part) s.1 ∙ (there.0 ∙ accepts))
      (ap (λ p. (g.accounts p c 0).peer) s.1 ∙ (there.1 ∙ back))
      (ap (λ p. (g.accounts p c 0).remote) s.1 ∙ (there.2 ∙ own))

  tunnels : x.tunnels ≡ put node.end.tunnels i r
  tunnels = ap (λ (v : End). v.tunnels) q.moved.does.after

  shuts : Shuts w h g n node x j y i e t r (last ∷ []) (machine_letters.StopCcn ∷ [])
  shuts = record {
    at_t = at_t;
    at_r = ap (λ ts. at ts i) tunnels ∙ at_new node.end.tunnels i r;
    current = q.moved.does.current;
    closed = refl;
    empty = refl;
    others = λ f other. ap (λ ts. at ts f) tunnels ∙ at_other node.end.tunnels i r f other;
    ids = ap (λ (v : End). v.session_ids) q.moved.does.after;
    goes = subst (λ v. asking.GoesOn j y X v (machine_letters.StopCcn ∷ []) 0)
        (made.entered_is w h n node sender moment ev mv x d k j q i t at_t) (gave_one j X machine_letters.StopCcn);
    calls = (gave_calls j X machine_letters.StopCcn).0;
    accounts = other_accounts;
    attempts = λ p f. attempts p f (h.attempts p f);
    answers = λ p f. answers p f (h.answers p f);
    part = ap (λ (c : Account). c.part) is;
    peer = ap (λ (c : Account). c.peer) is;
    answer = ap (λ (c : Account). c.answer) is;
    declined = ap (λ (c : Account). c.declined) is;
    given = ap (λ (c : Account). c.given) is;
    sent = ap (λ (c : Account). letters_in n a.peer (questions_in c.taken) c.given) is
        ∙ grow.letters n a.peer (questions_in a.taken) a.given last refl;
    heeds = ap heeded is ∙ sym (heeds_all a is_open_now);
    remote = inl (remote_as e);
    learned = learned (j.tunnels.learned X);
  }

  told : TunnelJoined j (with_book w n k) h n i (Some t) (tunnel_at k i)
  told = made.told w h n node sender moment ev mv x d k j q i t at_t

  went : Went ev n j z
  went = went_one ev n j z (moves.Closes X) (closes_node j X ∙ told.node live.made) refl tt
      (closes_is j X (ap is_active (told.phase ∙ current_phase n t t.recovery q.moved.does.current)
      ∙ works t.control.state (made.is_busy w h n i t live) not_shut))

  pub closed_follows : Follows ev (with_book (moves_on w n node mv x) n b) (after h d) n j
  closed_follows = follows ev w h n node mv x d k b j z same went
      (λ js goes. shutting.shut_joined grow.stay w h g n node sender moment ev mv x d k j q b new y i e t r (last ∷ [])
      (machine_letters.StopCcn ∷ []) shuts q.joined.joined js goes)
      (shutting.shut_queries grow.stay w h g n node sender moment ev mv x d k j q b new y i e t r (last ∷ [])
      (machine_letters.StopCcn ∷ []) shuts)
      (shutting.shut_named grow.stay w h g n node sender moment ev mv x d k j q b new y i e t r (last ∷ [])
      (machine_letters.StopCcn ∷ []) shuts)

pub closed_joins : ChannelsGrow → (m : Closed) → Joins (move.Closed m)
closed_joins grow m w h n node sender moment ev x d k j q b new = closed_follows grow w h n node sender moment ev m x d k j q b new
