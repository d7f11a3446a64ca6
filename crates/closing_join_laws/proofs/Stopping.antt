-- A tunnel of epoch 0 is closed by a StopCCN that it takes, and so is the machine's: by that letter, or as it takes that it was refused.
use Rattle.std.proofs.Common.{◌≡◌, ⊎_elim, ℕ, ◌<◌, ◌≤◌, true, false, List, [], ◌∷◌, ◌++◌, length, slice_get, refl, sym, ap, ◌∙◌, subst, Option, Some, arith, append-nil, ◌⊎◌, inl, inr, zero, suc, ap₂, eq-eqb, ne_eqb, lt-ltb, Bool, None}
use Rattle.std.proofs.lemmas.Option.{none-some, same_Some, slice_get_within}
use Rattle.std.specs.Prelude.{take, if◌then◌else◌, ◌==◌}
use Rattle.id_table.specs.Ids.{at, put, at-none}
use Rattle.id_table.specs.Order.{at_new, at_other, same_or_not}
use Rattle.control_message.specs.declared.message.Message.{Message}
use Rattle.session_book.specs.Books.{Kept, tunnel_at}
use Rattle.tunnel_fsm.specs.declared.table.TunnelState.TheVariants as state
use Rattle.tunnel_fsm.specs.Rows.{state_number}
use Rattle.end_model.specs.declared.event.Event.{Event}
use Rattle.end_model.specs.declared.moves.ClosedBy.{ClosedBy}
use Rattle.end_model.specs.declared.moves.Move.{Move}
use Rattle.end_model.specs.declared.moves.Move.TheVariants as move
use Rattle.end_model.specs.Channels.{counts_taken}
use Rattle.end_model.specs.Tunnels.{Tunnel}
use Rattle.end_model.specs.End.{End}
use Rattle.world_model.specs.World.{World, Node, Sender, Deed, epoch_of, moved}
use Rattle.step_laws.specs.Moves.{ClosesBy, without_calls}
use Rattle.book_laws.specs.Books.{Mirrors}
use Rattle.frame_laws.specs.Codecs.{Codecs}
use Rattle.connection_laws.specs.Facts.{IsStopCcn, AllWait}
use Rattle.connection_laws.specs.Facts as calm_facts
use Rattle.connection_laws.specs.Steps as calm_steps
use Rattle.connection_laws.specs.Steps.{StopLetter, StopOfNone, StopIsHeard}
use Rattle.epoch_laws.specs.Epochs.{EpochsHold, EpochsOfRuns}
use Rattle.epoch_machine.specs.Tunnels.{WaitReply, Closed, is_active}
use Rattle.epoch_machine.specs.Channels.{Channels}
use Rattle.epoch_machine.specs.Worlds as machine
use Rattle.epoch_machine.specs.Worlds.{all_rules, leaves}
use Rattle.epoch_machine.specs.Moves.{TakesRefusal, step, Delivers, reaches, may_take, delivers}
use Rattle.session_laws.specs.Names.{name, name_of, phase_of}
use Rattle.session_laws.proofs.Names.{name_some, known_name}
use Rattle.channel_laws.specs.Accounts.{Part, Unmade, Opener, Acceptor, Renewed, Taken, Account, History, after, no_account}
use Rattle.channel_laws.specs.Facts.{Accounts, IsAcceptor, IsLost, IsPart, partner_in, IsMade, IsOpen, IsShut, IsInState, HasStopped, AccountOk, ChannelOk, LiveOk}
use Rattle.channel_laws.specs.Recoveries.{WrittenIsRead, WrittenHasRoom}
use Rattle.channel_laws.specs.Steps.{with_end, moves_on}
use Rattle.channel_laws.proofs.Alone.{alone_there, taking_bare, open_unless_shut}
use Rattle.channel_laws.proofs.Calm.{bare, calm_of, opener_back}
use Rattle.channel_laws.proofs.FirstMoves as calm_moves
use Rattle.channel_laws.proofs.FirstMoves.{alone_in}
use Rattle.channel_laws.proofs.Linked.{opener_of, acceptor_of, renewed_of}
use Rattle.recovery_laws.specs.Growing.{TakenStay}
use Rattle.recovery_laws.specs.Joined.{is_early, TunnelJoined, CallsJoined, is_opener, learned_name, LearnedSo, ByLetter, ByRecord, live_in, kept_in}
use Rattle.recovery_laws.specs.Queries.{letters_in, question_of, weigh, QueriesJoined, said_in, weight, questions_in}
use Rattle.recovery_laws.proofs.Epochs.{current_phase, learned_so}
use Rattle.join_laws.specs.Steps as steps
use Rattle.join_laws.specs.Steps.{with_book, Follows}
use Rattle.join_laws.proofs.Ahead as ahead
use Rattle.join_laws.proofs.Ahead.{behind, nodes_hold}
use Rattle.join_laws.proofs.Apart.{elsewhere}
use Rattle.join_laws.proofs.Asks.{asks_on, one_asked}
use Rattle.join_laws.proofs.Bounds.{fit_bounded}
use Rattle.join_laws.proofs.Calls.{call_in, sessions_joined}
use Rattle.join_laws.proofs.Channel.{questions_stay, heeds_all}
use Rattle.join_laws.proofs.Finish.{Went, went_one}
use Rattle.join_laws.proofs.Leaving.{leaves_here, leaves_phase, leaves_booked, ends_call, elsewhere_stays, left_sessions}
use Rattle.join_laws.proofs.Hearing.{heard_none}
use Rattle.join_laws.proofs.Made as made
use Rattle.join_laws.proofs.OneTunnel.{this_or_not}
use Rattle.join_laws.proofs.Roots.{IsPlain}
use Rattle.closing_join_laws.proofs.Settling as settling
use Rattle.closing_join_laws.proofs.Settling.{Goes, goes_none, Settled, Waits, Settles, settles_follow}
use Rattle.std.proofs.lemmas.Bool.{true≢false, or_right}
use Rattle.wire_base.specs.declared.pair.Pair.{Pair}
use Rattle.tunnel_fsm.specs.declared.table.TunnelState.{TunnelState}
use Rattle.end_model.specs.Moments.{is_closed}
use Rattle.connection_laws.proofs.States.{not_closed}
use Rattle.join_laws.proofs.CallMoves.{delivers_node}
use Rattle.join_laws.proofs.Said.{says_one}
use Rattle.control_message.specs.declared.message.Message.TheVariants as message
use Rattle.epoch_machine.specs.Letters as machine_letters
use Rattle.closing_join_laws.specs.Lost.{LostLearnNone, LostOfRuns}
use Rattle.closing_join_laws.proofs.Knowing.{acceptor_knows, first_weighs, none_weighs, waiting_phase}
use Rattle.letter_laws.specs.Letters.{LettersOfRuns}
use Rattle.closing_join_laws.proofs.Lost.{lost_of_runs}
use Rattle.closing_join_laws.proofs.Refusals.{takes_refusal, refusal_node, left_settled, no_stop_first}

-- ---- in the machine

-- by the tunnel that the sender has learned, or where it has learned none and was learned
reached : (w : machine.World) (s x : ℕ) → (w.tunnels.learned s ≡ x) ⊎ ((w.tunnels.learned s ≡ 0) × (w.tunnels.learned x ≡ s))
    → reaches w.tunnels s x machine_letters.StopCcn ≡ true
reached w s x by = ⊎_elim
    (λ (is : w.tunnels.learned s ≡ x). rw (is, eq-eqb x x refl) refl)
    (λ (lost : (w.tunnels.learned s ≡ 0) × (w.tunnels.learned x ≡ s)). rw (lost.0, lost.1, eq-eqb s s refl) (or_right (0 == x) true refl))
    by

may_stop : (w : machine.World) (x s k : ℕ) → is_active (w.tunnels.phase x) ≡ true → 0 < s
    → reaches w.tunnels s x machine_letters.StopCcn ≡ true → w.tunnels.entered x ≡ 0 → w.channels.taken x 0 ≡ k
    → may_take all_rules w x s 0 k machine_letters.StopCcn ≡ true
unfolding may_take
may_stop w x s k active some by now next = rw (active, lt-ltb 0 s some, by, now, next, eq-eqb k k refl) refl

stops_it : (w : machine.World) (x s k : ℕ) → slice_get (w.channels.sent s 0) k ≡ Some machine_letters.StopCcn
    → may_take all_rules w x s 0 k machine_letters.StopCcn ≡ true → step all_rules w (Delivers x s 0 k 0) ≡ leaves w x Closed
unfolding step delivers
stops_it w x s k there may = rw (there, may) refl

pub stop_said : (n m : ℕ) (asked : List Pair) (header : ℕ) (q : Message) → IsStopCcn q → said_in n m asked header q ≡
    machine_letters.StopCcn
    ∷ []
stop_said n m asked header (message.StopCcn tunnel result error) stops = refl
stop_said n m asked header (message.Sccrq o) stops = absurd stops
stop_said n m asked header (message.Sccrp o) stops = absurd stops
stop_said n m asked header (message.Scccn response) stops = absurd stops
stop_said n m asked header message.Hello stops = absurd stops
stop_said n m asked header (message.Ocrq session) stops = absurd stops
stop_said n m asked header message.Ocrp stops = absurd stops
stop_said n m asked header message.Occn stops = absurd stops
stop_said n m asked header message.Wen stops = absurd stops
stop_said n m asked header message.Sli stops = absurd stops
stop_said n m asked header (message.Fsq sessions) stops = absurd stops
stop_said n m asked header (message.Fsr sessions) stops = absurd stops
stop_said n m asked header (message.Icrq session serial calling) stops = absurd stops
stop_said n m asked header (message.Icrp session) stops = absurd stops
stop_said n m asked header (message.Iccn speed framing sequenced) stops = absurd stops
stop_said n m asked header (message.Cdn session result error) stops = absurd stops

-- ---- states, and what is learned

active_phase : (s : TunnelState) → 1 ≤ state_number s → is_closed s ≡ false → is_active (phase_of s) ≡ true
active_phase state.Idle some live = let no : ⊥ = omega (arith, some) in absurd no
active_phase state.WaitCtlReply some live = refl
active_phase state.WaitCtlConn some live = refl
active_phase state.Established some live = refl
active_phase state.Closed some live = absurd (true≢false live)

open_early : (p : Part) → is_early p None ≡ false
open_early Unmade = refl
open_early Opener = refl
open_early Acceptor = refl
open_early Renewed = refl

-- one that closes in epoch 0 has learned what it had
closing_learned : (a : Account) → (a.part ≡ Opener → (a.remote ≡ 0 → ⊥) → 1 ≤ length a.taken) → (p : Part) → a.part ≡ p
    → (if is_early p (Some (length a.taken)) then 0 else name_of a.peer a.remote) ≡ name_of a.peer a.remote
closing_learned a some Unmade own = refl
closing_learned a some Acceptor own = refl
closing_learned a some Renewed own = refl
closing_learned a some Opener own = ⊎_elim
    (λ (none : a.remote ≡ 0). by_none (length a.taken == 0) none)
    (λ (known : a.remote ≡ 0 → ⊥).
    let le = some own known in
    ap (λ b. if b then 0 else name_of a.peer a.remote) (ne_eqb (length a.taken) 0 (λ z. let no : ⊥ = omega (arith, le, z) in no)))
    (same_or_not a.remote 0)
  where
    by_none : (b : Bool) → a.remote ≡ 0 → (if b then 0 else name_of a.peer a.remote) ≡ name_of a.peer a.remote
    by_none true none = sym (ap (name_of a.peer) none)
    by_none false none = refl

-- an acceptor's first letter is one of the machine's
acceptor_weighs : (accs : Accounts) (n i : ℕ) (a : Account) → IsAcceptor accs n i a → weigh (take 1 a.given) ≡ 1
acceptor_weighs accs n i a acc = first_weighs a.given acc.begins.rest acc.begins.first acc.begins.are (ap weight acc.begins.says_so)

-- ---- the move

module _ (keep : calm_steps.MovesKeep) (stops : StopIsHeard) (codecs : Codecs) (again : WrittenIsRead) (room : WrittenHasRoom)
    (epochs : EpochsOfRuns) (lost : LostOfRuns) (stay : TakenStay) (w : World) (h : History) (n : ℕ) (node : Node)
    (sender : Option Sender) (moment : ℕ)
    (ev : Event)
    (m : ClosedBy) (x : End) (d : Deed) (k : Kept) (j : machine.World)
    (q : steps.IsMade w h n node sender moment ev (move.ClosedBy m) x d k j) (first : epoch_of w n m.tunnel ≡ 0)
    (b : Kept) (mirrors : Mirrors x b) where
  abbrev mv : Move
  mv = move.ClosedBy m

  abbrev t : Tunnel
  t = q.moved.does.tunnel

  abbrev a : Account
  a = h.accounts n m.tunnel 0

  abbrev g : History
  g = after h d

  abbrev u : World
  u = behind w n node x b

  abbrev tk : Taken
  tk = record { sender = d.sender; number = m.taken.number; move = d.move }

  abbrev new : Account
  new = record a { closed = Some (length a.taken); taken = a.taken ++ tk ∷ [] }

  abbrev shut : Tunnel
  shut = record t { control = record (counts_taken t.control) { state = state.Closed; closed = moment } }

  abbrev r : Tunnel
  r = record shut { calls = [] }

  plain : IsPlain d mv
  plain = record { declines = λ y f. refl; attempts = λ y c o. refl; answers = λ y c o. refl }

  same : moves_on w n node mv x ≡ with_end w n node x
  unfolding moved
  same = refl

  at_t : at node.end.tunnels m.tunnel ≡ Some t
  at_t = q.moved.does.there

  told : TunnelJoined j (with_book w n k) h n m.tunnel (Some t) (tunnel_at k m.tunnel)
  told = made.told w h n node sender moment ev mv x d k j q m.tunnel t at_t

  now : g.accounts n m.tunnel 0 ≡ new
  now = settling.settled_is w h n node sender moment ev mv x d k j q first same plain new refl

  others_are : (p f e : ℕ) → ((p ≡ n) × (f ≡ m.tunnel) × (e ≡ 0) → ⊥) → g.accounts p f e ≡ h.accounts p f e
  others_are = settling.settled_others w h n node sender moment ev mv x d k j q first same plain new refl

  live : LiveOk w h n m.tunnel t
  live = made.live_ok w h n node sender moment ev mv x d k j q m.tunnel t at_t

  channel : ChannelOk h.accounts n m.tunnel 0 a t
  channel = calm_moves.channel_zero keep codecs again room w h n node sender moment ev mv x d q.moved t at_t q.moved.does.current first

  is_open : a.closed ≡ None
  is_open = open_unless_shut h.accounts m.tunnel 0 a t a.part channel.state (not_closed t.control.state q.moved.does.live)

  own_ok : AccountOk w h n m.tunnel 0 a
  own_ok = q.moved.holds.accounts n m.tunnel 0

  unrenewed : (p f : ℕ) → (h.accounts p f 0).part ≡ Renewed → ⊥
  unrenewed p f is = let lt = (renewed_of w h p f 0 (h.accounts p f 0) (q.moved.holds.accounts p f 0) is).later in omega (arith, lt)

  -- it took a letter where it has learned its other end
  took_some : a.part ≡ Opener → (a.remote ≡ 0 → ⊥) → 1 ≤ length a.taken
  took_some own known = (opener_of w h n m.tunnel 0 a own_ok own).1.some known

  here : 0 < m.tunnel
  here = made.some w h n node sender moment ev mv x d k j q m.tunnel t at_t

  -- ---- what it takes

  closes : ClosesBy (alone_in node.end m.tunnel t) moment ev m (without_calls (alone_in node.end m.tunnel t) m.tunnel (bare shut) t.calls)
  closes = record {
    tunnel = bare t;
    there = alone_there node.end m.tunnel t;
    current = refl;
    live = q.moved.does.live;
    letter = q.moved.does.letter;
    takes = taking_bare ev t q.moved.does.letter m.taken q.moved.does.takes;
    says = q.moved.does.says;
    booked = q.moved.does.booked;
    after = refl;
  }

  within : calm_facts.Within (calm_of h) n (alone_in node.end m.tunnel t) sender ev
  within = record {
    accounts = calm_moves.accounts_to keep codecs again room w h n node sender moment ev mv x d q.moved t at_t q.moved.does.current first;
    end = calm_moves.end_to keep codecs again room w h n node sender moment ev mv x d q.moved t at_t q.moved.does.current first;
    comes = calm_moves.comes_zero keep codecs again room w h n node sender moment ev mv x d q.moved t at_t q.moved.does.current first
        q.moved.does.letter
        q.moved.does.takes.next.comes;
  }

  stop : StopLetter (calm_of h) n m.tunnel sender ⊎ StopOfNone (calm_of h) n m.tunnel sender
  stop = stops (calm_of h) n (alone_in node.end m.tunnel t) (without_calls (alone_in node.end m.tunnel t) m.tunnel
      (bare shut) t.calls) sender
      moment ev within m closes

  -- ---- in the machine

  abbrev X : ℕ
  X = name n m.tunnel

  abbrev z : machine.World
  z = leaves j X Closed

  phase_is : j.tunnels.phase X ≡ phase_of t.control.state
  phase_is = told.phase ∙ current_phase n t t.recovery q.moved.does.current

  active : is_active (j.tunnels.phase X) ≡ true
  active = ap is_active phase_is ∙ active_phase t.control.state (made.is_busy w h n m.tunnel t live) q.moved.does.live

  at_first : j.tunnels.entered X ≡ 0
  at_first = made.entered_is w h n node sender moment ev mv x d k j q m.tunnel t at_t ∙ first

  -- an opener that has learned none waits
  waits_one : a.part ≡ Opener → a.remote ≡ 0 → state_number t.control.state ≡ 1
  waits_one own none = ⊎_elim
      (λ (y : (state_number t.control.state ≡ 1) × (a.remote ≡ 0) × IsOpen a × AllWait t.calls). y.0)
      (λ y. ⊎_elim
      (λ (f : (state_number t.control.state ≡ 3) × (a.remote ≡ 0 → ⊥) × IsOpen a). absurd (f.1 none))
      (λ (f : IsShut a t). absurd (none-some f.1.0 (sym is_open ∙ f.1.1)))
      y)
      (subst (IsInState h.accounts m.tunnel 0 a t) own channel.state)

  waits_there : state_number t.control.state ≡ 1 → j.tunnels.phase X ≡ WaitReply
  waits_there one = phase_is ∙ waiting_phase t.control.state one

  open_name : learned_name a ≡ name_of a.peer a.remote
  open_name = ap (λ c. if is_early a.part c then 0 else name_of a.peer a.remote) is_open
      ∙ ap (λ f. if f then 0 else name_of a.peer a.remote) (open_early a.part)

  -- it has learned the other end by a letter, or none
  learned_is : j.tunnels.learned X ≡ name_of a.peer a.remote
  learned_is = by (j.tunnels.learned X) refl told.learned
    where
      by : (y : ℕ) → j.tunnels.learned X ≡ y → LearnedSo h.accounts n m.tunnel (j.tunnels.learned X)
          → j.tunnels.learned X ≡ name_of a.peer a.remote
      by y is (ByLetter letter) = letter ∙ open_name
      by y is (ByRecord f own none lt to accepts back it) =
          let hold = subst (λ (v : machine.World). EpochsHold v.tunnels) (sym q.joined.joined.run)
          (epochs.hold all_rules q.joined.joined.moves) in
          (hold.waits_reply X (waits_there (waits_one own none))).1 ∙ sym (ap (name_of a.peer) none)

  taken_before : j.channels.taken X 0 ≡ weigh (take (length a.taken) (partner_in h.accounts 0 a).given)
  taken_before = told.taken 0 ∙ ap (λ f. weigh (take f (partner_in h.accounts 0 a).given)) (heeds_all a is_open)

  -- ---- by one of no tunnel

  refusal : StopOfNone (calm_of h) n m.tunnel sender → Went ev n j z
  refusal s =
      let own : a.part ≡ Opener = opener_back a.part s.opener in
      went_one ev n j z (TakesRefusal X) (refusal_node j X ∙ told.node live.made) refl tt
      (takes_refusal j X (told.refused ∙ s.declined) (waits_there (waits_one own s.remote))
      (taken_before ∙ (ap (λ (ts : List Taken). weigh (take (length ts) (partner_in h.accounts 0 a).given)) s.nothing
      ∙ none_weighs (partner_in h.accounts 0 a).given)))

  -- ---- by a letter of the tunnel that sent it

  module _ (s : StopLetter (calm_of h) n m.tunnel sender) where
    abbrev from : Sender
    from = s.from

    abbrev c : Account
    c = h.accounts s.from.node s.from.tunnel 0

    abbrev S : ℕ
    S = name s.from.node s.from.tunnel

    there_ok : AccountOk w h from.node from.tunnel 0 c
    there_ok = q.moved.holds.accounts from.node from.tunnel 0

    there : slice_get c.given (length a.taken) ≡ Some s.letter
    there = s.there

    made_there : IsMade c
    made_there unmade =
        let same : c ≡ no_account = subst (IsPart w h from.node from.tunnel 0 c) unmade there_ok.part in
        none-some s.letter (sym (ap (λ (y : Account). slice_get y.given (length a.taken)) same) ∙ there)

    some : 0 < from.tunnel
    some = there_ok.some made_there

    told_there : TunnelJoined j (with_book w n k) h from.node from.tunnel (live_in (at (with_book w n k).nodes from.node) from.tunnel)
        (kept_in (at (with_book w n k).nodes from.node) from.tunnel)
    told_there = q.joined.joined.tunnels from.node from.tunnel (there_ok.node made_there) (there_ok.id made_there)

    -- it is no first letter
    behind_first : 1 ≤ length a.taken
    behind_first = by (length a.taken) refl
      where
        by : (count : ℕ) → length a.taken ≡ count → 1 ≤ count
        by zero is = absurd (no_stop_first w h q.moved.holds from.node from.tunnel s.letter
            (ap (λ f. slice_get c.given f) (sym is) ∙ there) s.stops)
        by (suc count) is = omega arith

    within_given : length a.taken < length c.given
    within_given = slice_get_within c.given (length a.taken) s.letter there

    -- an opener that knows this tunnel is known to it
    known_back : c.part ≡ Opener → c.remote ≡ m.tunnel → a.remote ≡ from.tunnel
    known_back opens known =
        ap₂ (λ y f. (h.accounts y f 0).remote) (sym s.goes) (sym known)
        ∙ (opener_of w h from.node from.tunnel 0 c there_ok opens).1.remote (λ z. let some_here = here in let no : ⊥ = omega
        (arith, z, known, some_here) in no)

    same_account : a.remote ≡ from.tunnel → partner_in h.accounts 0 a ≡ c
    same_account known = ap₂ (λ y f. h.accounts y f 0) s.peer known

    -- the place of the letter, as this end counts and as its giver does; of an acceptor that this opener didn't choose it is the second
    unchosen : (a.remote ≡ from.tunnel → ⊥) → weigh (take (length a.taken) (partner_in h.accounts 0 a).given) ≡ weigh (take
        (length a.taken) c.given)
    unchosen other = ⊎_elim
        (λ (known : c.remote ≡ m.tunnel). by c.part refl known)
        (λ (gone : (c.remote ≡ 0) × (a.remote ≡ from.tunnel)). absurd (other gone.1))
        s.reaches
      where
        by : (p : Part) → c.part ≡ p → c.remote ≡ m.tunnel
            → weigh (take (length a.taken) (partner_in h.accounts 0 a).given) ≡ weigh (take (length a.taken) c.given)
        by Unmade is known = absurd (made_there is)
        by Renewed is known = absurd (unrenewed from.node from.tunnel is)
        by Opener is known = absurd (other (known_back is known))
        by Acceptor is known =
            let acc = (acceptor_of w h from.node from.tunnel 0 c there_ok is).1 in
            let a_is : partner_in h.accounts 0 c ≡ a = ap₂ (λ y f. h.accounts y f 0) s.goes known in
            let opens : a.part ≡ Opener = ap (λ (y : Account). y.part) (sym a_is) ∙ acc.part in
            let few : length c.given ≤ 2 = ⊎_elim
            (λ (one : length c.given ≡ 1). let no : length c.given ≤ 2 = omega (arith, one) in no)
            (λ (stopped : HasStopped c). stopped.few)
            (acc.one_given (λ same. other (ap (λ (y : Account). y.remote) (sym a_is) ∙ same))) in
            let one : length a.taken ≡ 1 = (let lt = within_given in let le = behind_first in omega (arith, lt, le, few)) in
            let own = (opener_of w h n m.tunnel 0 a own_ok opens).1 in
            let learned : a.remote ≡ 0 → ⊥ = λ none. ⊎_elim
            (λ (nothing : a.taken ≡ []). let empty = ap length nothing in let no : ⊥ = omega (arith, one, empty) in no)
            (λ (gone : IsLost a × (length a.taken ≤ 2)). none-some 0 (sym is_open ∙ gone.0.0))
            (own.none none) in
            let chosen = (acceptor_of w h a.peer a.remote 0 (partner_in h.accounts 0 a) (q.moved.holds.accounts a.peer a.remote 0)
            (own.part learned)).1 in
            let this : weigh (take (length a.taken) (partner_in h.accounts 0 a).given) ≡ 1 =
            ap (λ f. weigh (take f (partner_in h.accounts 0 a).given)) one
            ∙ acceptor_weighs h.accounts a.peer a.remote (partner_in h.accounts 0 a) chosen in
            let that : weigh (take (length a.taken) c.given) ≡ 1 =
            ap (λ f. weigh (take f c.given)) one ∙ acceptor_weighs h.accounts from.node from.tunnel c acc in
            this ∙ sym that

    same_place : weigh (take (length a.taken) (partner_in h.accounts 0 a).given) ≡ weigh (take (length a.taken) c.given)
    same_place = ⊎_elim
        (λ (known : a.remote ≡ from.tunnel). ap (λ (y : Account). weigh (take (length a.taken) y.given)) (same_account known))
        (λ other. unchosen other)
        (same_or_not a.remote from.tunnel)

    abbrev place : ℕ
    place = weigh (take (length a.taken) c.given)

    stands : slice_get (j.channels.sent S 0) place ≡ Some machine_letters.StopCcn
    stands =
        ap (λ ls. slice_get ls place) (told_there.sent 0)
        ∙ says_one from.node c.peer (questions_in c.taken) c.given (length a.taken) s.letter machine_letters.StopCcn there
        (λ asked. stop_said from.node c.peer asked s.letter.session s.letter.message s.stops)

    learned_here : a.remote ≡ from.tunnel → j.tunnels.learned X ≡ S
    learned_here known = learned_is ∙ (ap₂ (λ y f. name_of y f) s.peer known ∙ known_name from.node from.tunnel some)

    abbrev Knows : Type 0
    Knows = (j.tunnels.learned S ≡ X) ⊎ ((j.tunnels.learned S ≡ 0) × (j.tunnels.learned X ≡ S))

    -- it has learned this tunnel; an opener that rejected its SCCRP has learned none
    by_known : c.remote ≡ m.tunnel → (p : Part) → c.part ≡ p → Knows
    by_known known Unmade is = absurd (made_there is)
    by_known known Renewed is = absurd (unrenewed from.node from.tunnel is)
    by_known known Acceptor is = inl (acceptor_knows h.accounts n m.tunnel from.node from.tunnel
        (j.tunnels.learned S) told_there.learned is s.goes known here)
    by_known known Opener is = by c.closed refl
      where
        late : (o : Option ℕ) → c.closed ≡ o → (o ≡ Some 0 → ⊥) → Knows
        late o closed other = inl (learned_so h.accounts from.node from.tunnel n m.tunnel (j.tunnels.learned S) told_there.learned s.goes
            known here
            (λ z. other (sym closed ∙ z)))

        early : c.closed ≡ Some 0 → LearnedSo h.accounts from.node from.tunnel (j.tunnels.learned S) → j.tunnels.learned S ≡ 0
        early closed (ByLetter letter) =
            letter
            ∙ (ap (λ f. if is_early c.part f then 0 else name_of c.peer c.remote) closed
            ∙ ap (λ f. if is_early f (Some 0) then 0 else name_of c.peer c.remote) is)
        early closed (ByRecord f own none lt to accepts back it) = let some_here = here in absurd (omega (arith, none, known, some_here))

        by : (o : Option ℕ) → c.closed ≡ o → Knows
        by None closed = late None closed (λ z. none-some 0 z)
        by (Some zero) closed = inr (early closed told_there.learned, learned_here (known_back is known))
        by (Some (suc count)) closed = late (Some (suc count)) closed (λ z. let same = same_Some (suc count) 0 z in let no : ⊥ = omega
            (arith, same) in no)

    -- it gave up before it learned one
    by_lost : c.remote ≡ 0 → a.remote ≡ from.tunnel → (p : Part) → c.part ≡ p → Knows
    by_lost none known Unmade is = absurd (made_there is)
    by_lost none known Renewed is = absurd (unrenewed from.node from.tunnel is)
    by_lost none known Acceptor is = absurd ((acceptor_of w h from.node from.tunnel 0 c there_ok is).1.known none)
    by_lost none known Opener is =
        let opener = (opener_of w h from.node from.tunnel 0 c there_ok is).1 in
        let few : length c.given ≤ 2 = ⊎_elim
        (λ (one : length c.given ≡ 1). let no : length c.given ≤ 2 = omega (arith, one) in no)
        (λ (gone : IsLost c × (length c.given ≤ 2)). gone.1)
        (opener.one_given none) in
        let one : length a.taken ≡ 1 = (let lt = within_given in let le = behind_first in omega (arith, lt, le, few)) in
        let second : place ≡ 1 = ap (λ f. weigh (take f c.given)) one
        ∙ first_weighs c.given opener.begins.rest opener.begins.first opener.begins.are (ap weight opener.begins.says_so) in
        let law = subst (λ (v : machine.World). LostLearnNone v.tunnels v.channels) (sym q.joined.joined.run)
        (lost q.joined.joined.moves) in
        inr (
          law S (told_there.opener ∙ ap is_opener is) (ap (λ f. slice_get (j.channels.sent S 0) f) (sym second)
              ∙ stands),
          learned_here known,
        )

    knows : Knows
    knows = ⊎_elim
        (λ (known : c.remote ≡ m.tunnel). by_known known c.part refl)
        (λ (gone : (c.remote ≡ 0) × (a.remote ≡ from.tunnel)). by_lost gone.0 gone.1 c.part refl)
        s.reaches

    delivery : Went ev n j z
    delivery = went_one ev n j z (Delivers X S 0 place 0) (delivers_node j X S 0 place 0 ∙ told.node live.made) refl
        (heard_none ev j X S 0 place 0 machine_letters.StopCcn stands refl)
        (stops_it j X S place stands
        (may_stop j X S place active (name_some from.node from.tunnel some) (reached j S X knows) at_first (taken_before ∙ same_place)))

  went : Went ev n j z
  went = ⊎_elim (λ s. delivery s) (λ s. refusal s) stop

  goes : Goes j z X [] 0
  goes = goes_none j z X (leaves_here j X Closed).channels

  -- ---- the tunnel

  tunnels : x.tunnels ≡ put node.end.tunnels m.tunnel r
  tunnels = ap (λ (y : End). y.tunnels) q.moved.does.after

  at_r : at x.tunnels m.tunnel ≡ Some r
  at_r = ap (λ ts. at ts m.tunnel) tunnels ∙ at_new node.end.tunnels m.tunnel r

  others : (f : ℕ) → (f ≡ m.tunnel → ⊥) → at x.tunnels f ≡ at node.end.tunnels f
  others f other = ap (λ ts. at ts f) tunnels ∙ at_other node.end.tunnels m.tunnel r f other

  peers : (y f : ℕ) → (g.accounts y f 0).peer ≡ (h.accounts y f 0).peer
  peers y f = ⊎_elim
      (λ (both : (y ≡ n) × (f ≡ m.tunnel)). rw (both.0, both.1) (ap (λ (e : Account). e.peer) now))
      (λ off. ap (λ (e : Account). e.peer) (others_are y f 0 (λ both. off (both.0, both.1))))
      (this_or_not y f n m.tunnel)

  -- it gives nothing
  given_as : (y f : ℕ) → (g.accounts y f 0).given ≡ (h.accounts y f 0).given
  given_as y f = ⊎_elim
      (λ (both : (y ≡ n) × (f ≡ m.tunnel)). rw (both.0, both.1) (ap (λ (e : Account). e.given) now))
      (λ off. ap (λ (e : Account). e.given) (others_are y f 0 (λ both. off (both.0, both.1))))
      (this_or_not y f n m.tunnel)

  fits : m.tunnel < 65536
  fits = made.id_fits w h n node sender moment ev mv x d k j q m.tunnel t at_t

  calls : CallsJoined z g n (ahead.left node x b)
  calls = sessions_joined node x k b j z h g n
      (left_sessions node x k b j h g n m.tunnel Closed t fits q.mirrors mirrors (fit_bounded x q.fit) (fit_bounded node.end q.moved.fit)
      (peers n) (ap (λ (y : End). y.session_ids) q.moved.does.after) at_t (λ s. ap (λ y. call_in y s) at_r ∙ at-none s) others
      (made.calls_before w h n node sender moment ev mv x d k j q))
      (made.calls_before w h n node sender moment ev mv x d k j q)

  queries : QueriesJoined u g z
  queries = asks_on (with_book w n k) u h g j z (record {
    peers = peers;
    asks = λ y s. (ends_call j X Closed y).asks s;
    held = λ y f s. (ends_call j X Closed y).held f s;
    entered = (left_settled j X).entered;
    asked = one_asked w n node q.moved.there x k b m.tunnel others
        (λ v at_v current three.
        (let this : r ≡ v = same_Some r v (sym at_r ∙ at_v) in
        let number = ap (λ (y : Tunnel). state_number y.control.state) this in
        absurd (omega (arith, number, three))));
  }) q.joined.queries

  settles : Settles ev w h n node mv x d b j z t r new [] [] 0
  settles = record {
    same = same;
    plain = plain;
    at_t = at_t;
    current = q.moved.does.current;
    first = first;
    at_r = at_r;
    recovery = refl;
    others = others;
    becomes = refl;
    part = refl;
    to = refl;
    answer = refl;
    declined = refl;
    given = sym (append-nil a.given);
    remote = λ accepted. refl;
    settled = left_settled j X;
    goes = goes;
    learned = (leaves_here j X Closed).learned ∙ (learned_is ∙ sym (closing_learned a took_some a.part refl));
    phase = leaves_phase j X Closed;
    booked = leaves_booked j X Closed;
    sent = ap (λ (c : Channels). c.sent X 0) (leaves_here j X Closed).channels
        ∙ (told.sent 0 ∙ ap (λ f. letters_in n a.peer f a.given) (sym (questions_stay a.taken tk (ap question_of q.moved.deed.move_is))));
    taken = (let took = goes.taken in
        let was = taken_before in
        let weighs = ap (λ ls. weigh (take (length a.taken) ls)) (given_as a.peer a.remote) in
        omega (arith, took, was, weighs));
    calls = calls;
    calls_stay = λ p s no pfits sfits.
        elsewhere_stays j X Closed (name p s)
        (elsewhere (with_book w n k) h j q.joined.joined n m.tunnel fits p pfits no
        (λ c has. nodes_hold w n node q.moved.there x k b q.nodes p c no has) s sfits);
    births = ((ends_call j X Closed 0).births, λ y. (ends_call j X Closed y).birth);
    queries = queries;
    named = λ y is. q.joined.named y (sym (ends_call j X Closed y).drawn ∙ is);
    went = went;
  }

  pub stopped_follows : Follows ev (with_book (moves_on w n node mv x) n b) (after h d) n j
  stopped_follows = settles_follow stay w h n node sender moment ev mv x d k j q b mirrors z t r new [] [] 0 settles

pub stopped_first : calm_steps.MovesKeep → StopIsHeard → Codecs → WrittenIsRead → WrittenHasRoom → EpochsOfRuns → LettersOfRuns → TakenStay
    → (m : ClosedBy) (w : World) (h : History) (n : ℕ) (node : Node) (sender : Option Sender) (moment : ℕ) (ev : Event) (x : End) (d : Deed)
    (k : Kept) (j : machine.World) → steps.IsMade w h n node sender moment ev (move.ClosedBy m) x d k j → epoch_of w n m.tunnel ≡ 0 →
    (b : Kept)
    → Mirrors x b → Follows ev (with_book (moves_on w n node (move.ClosedBy m) x) n b) (after h d) n j
stopped_first keep stops codecs again room epochs letters stay m w h n node sender moment ev x d k j q first b mirrors =
    stopped_follows keep stops codecs again room epochs (lost_of_runs epochs letters) stay w h n node sender moment ev m x d k j q first b
    mirrors
