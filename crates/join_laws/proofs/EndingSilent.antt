-- A call ends and nobody is told, in the machine too: it waits for its tunnel, or the tunnel is frozen or restored. An open tunnel's call
-- that is asked for hears of no connection before it has a reply: only who took its reply gives one.
use Rattle.std.proofs.Common.{◌≡◌, ◌⊎◌, inl, inr, ⊎_elim, ℕ, Bool, true, false, [], refl, sym, ap, ◌∙◌, subst, Option, Some, None}
use Rattle.std.proofs.lemmas.Bool.{true≢false}
use Rattle.std.specs.Prelude.{◌||◌, not, if◌then◌else◌}
use Rattle.id_table.specs.Ids.{at, put, without}
use Rattle.id_table.specs.Order.{Ascends, at_new, at_other, at_without_other, at_without_same}
use Rattle.control_message.specs.declared.message.Message.TheVariants as message
use Rattle.session_book.specs.Books.{Kept, tunnel_at}
use Rattle.call_fsm.specs.declared.table.CallState.{CallState}
use Rattle.call_fsm.specs.declared.table.CallState.TheVariants.{Idle, WaitTunnel, WaitReply, WaitConnect, Established}
use Rattle.call_fsm.specs.declared.table.CallEvent.TheVariants as call_event
use Rattle.end_names.specs.declared.role.Role.{Role}
use Rattle.end_names.specs.declared.role.Role.TheVariants.{Lac, Lns}
use Rattle.end_model.specs.declared.event.Event.{Event}
use Rattle.end_model.specs.declared.moves.EndSilent.{EndSilent}
use Rattle.end_model.specs.declared.moves.Move.{Move}
use Rattle.end_model.specs.declared.moves.Move.TheVariants as move
use Rattle.end_model.specs.declared.tunnel.Call.{Call}
use Rattle.end_model.specs.Calls.{call_row, row_for, is_told, is_clean_up}
use Rattle.end_model.specs.Reading.{CallFault}
use Rattle.end_model.specs.Tunnels.{Tunnel, Recovering, ByAttempt, ByAnswer, is_finished, mode_of, is_current}
use Rattle.end_model.specs.End.{End}
use Rattle.world_model.specs.World.{World, Node, Sender, Deed, epoch_of, moved}
use Rattle.step_laws.specs.Left.{CanBe}
use Rattle.step_laws.specs.Moves.{InTunnel, WhyEnds, IsLate, IsDropped, IsHungUp, IsAsked, IsReplied, IsConnected, IsEnded, HasFault, fault_event}
use Rattle.book_laws.specs.Books.{Mirrors}
use Rattle.birth_laws.specs.Births.{BirthsOfRuns}
use Rattle.frame_laws.specs.Codecs.{Codecs}
use Rattle.connection_laws.specs.Steps as calm
use Rattle.epoch_machine.specs.Letters as machine_letters
use Rattle.epoch_machine.specs.Calls as calls
use Rattle.epoch_machine.specs.Calls.{Calls, NoCall, Waits, WaitsReply, is_call, lives}
use Rattle.epoch_machine.specs.Tunnels.{Attempts, Answers, is_active}
use Rattle.epoch_machine.specs.Worlds as machine
use Rattle.epoch_machine.specs.Worlds.{all_rules}
use Rattle.epoch_machine.specs.Moves as moves
use Rattle.epoch_machine.specs.Moves.{step, may_end_silent, ends_call}
use Rattle.stop_laws.specs.Records.{node_of}
use Rattle.session_laws.specs.Names.{name, phase_of, state_of}
use Rattle.session_laws.specs.Joined.{FitsRole}
use Rattle.session_laws.proofs.CallLaws.{WorldHolds, world_holds}
use Rattle.session_laws.proofs.CallRows.{IsSilent, silent_row, else_waits}
use Rattle.channel_laws.specs.Accounts.{History, attempts_by, answers_by, after}
use Rattle.channel_laws.specs.Recoveries.{WrittenIsRead, WrittenHasRoom}
use Rattle.channel_laws.specs.Steps.{with_end, moves_on}
use Rattle.recovery_laws.specs.Growing.{ChannelsGrow}
use Rattle.recovery_laws.specs.Joined.{phase_by, TunnelJoined, CallJoined, CallsJoined}
use Rattle.join_laws.specs.Steps as steps
use Rattle.join_laws.specs.Steps.{with_book, Follows, Joins}
use Rattle.join_laws.proofs.Books.{booked}
use Rattle.join_laws.proofs.Finish.{went_one}
use Rattle.join_laws.proofs.HeardAny.{WasGiven, was_given, stands_there, fault_is}
use Rattle.join_laws.proofs.Letters.{Talks}
use Rattle.join_laws.proofs.Made as made
use Rattle.join_laws.proofs.Roots.{account_stays}
use Rattle.join_laws.proofs.Silent.{KnowsNoMore, silent_talks}
use Rattle.join_laws.proofs.Talking.{talks_follow}
use Rattle.join_laws.proofs.Turning as turning
use Rattle.join_laws.proofs.Turning.{fits_role, ended_turns, Turned}

-- ---- in the machine

abbrev ended : machine.World → ℕ → machine.World
ended w z = record w { calls = calls.ends w.calls (is_call z) }

either : (b : Bool) → (b || true) ≡ true
either true = refl
either false = refl

-- a call that waits, or one of a tunnel that isn't active
silent_waits : (w : machine.World) (z : ℕ) → w.calls.state z ≡ Waits → step all_rules w (moves.EndsSilent z) ≡ ended w z
unfolding step may_end_silent ends_call
silent_waits w z waits = rw (waits, either (not (is_active (w.tunnels.phase (w.calls.tunnel z))))) refl

silent_lives : (w : machine.World) (z x : ℕ) → w.calls.tunnel z ≡ x → is_active (w.tunnels.phase x) ≡ false
    → lives (w.calls.state z) ≡ true
    → step all_rules w (moves.EndsSilent z) ≡ ended w z
unfolding step may_end_silent ends_call
silent_lives w z x tunnel inactive alive = rw (tunnel, inactive, alive) refl

silent_node : (w : machine.World) (z : ℕ) → node_of w (moves.EndsSilent z) ≡ w.tunnels.node (w.calls.tunnel z)
unfolding node_of
silent_node w z = refl

-- ---- in the end

-- a frozen or restored tunnel isn't active in the machine
pub inactive_phase : (n : ℕ) (t : Tunnel) (r : Option Recovering) → is_current (mode_of r) ≡ false → is_active (phase_by n t r) ≡ false
inactive_phase n t None current = let no : true ≡ false = current in absurd cc
inactive_phase n t (Some (ByAttempt c)) current = by (is_finished (ByAttempt c)) refl
  where
    by : (b : Bool) → is_finished (ByAttempt c) ≡ b → is_active (if b then phase_of t.control.state else Attempts (name n c.local)) ≡ false
    by true is = let no : true ≡ false = rw is at current in absurd cc
    by false is = refl
inactive_phase n t (Some (ByAnswer a)) current = by (is_finished (ByAnswer a)) refl
  where
    by : (b : Bool) → is_finished (ByAnswer a) ≡ b
        → is_active (if b then phase_of t.control.state else Answers (name n a.connection.local)) ≡ false
    by true is = let no : true ≡ false = rw is at current in absurd cc
    by false is = refl

-- a live call isn't idle
lives_so : (r : Role) (s : CallState) → CanBe r s → lives (state_of s) ≡ true
lives_so Lac Idle can = absurd can
lives_so Lns Idle can = absurd can
lives_so r WaitTunnel can = refl
lives_so r WaitReply can = refl
lives_so r WaitConnect can = refl
lives_so r Established can = refl

never : {X : Type 0} → false ≡ true → X
never h = absurd (true≢false (sym h))

-- one that ends without a word on a connection waits, for its tunnel or its reply
connection_row : (r : Role) (s : CallState) → FitsRole r s → is_clean_up (call_row r s call_event.IccnAcc).1 ≡ true
    → (state_of s ≡ Waits) ⊎ (state_of s ≡ WaitsReply)
unfolding call_row
connection_row Lac Idle fits h = absurd fits
connection_row Lac WaitTunnel fits h = inl refl
connection_row Lac WaitReply fits h = inr refl
connection_row Lac WaitConnect fits h = absurd fits
connection_row Lac Established fits h = never h
connection_row Lns Idle fits h = absurd fits
connection_row Lns WaitTunnel fits h = absurd fits
connection_row Lns WaitReply fits h = absurd fits
connection_row Lns WaitConnect fits h = never h
connection_row Lns Established fits h = never h

module _ (keep : calm.MovesKeep) (codecs : Codecs) (again : WrittenIsRead) (room : WrittenHasRoom) (grow : ChannelsGrow)
    (births : BirthsOfRuns) (w : World) (h : History) (n : ℕ) (node : Node) (sender : Option Sender) (moment : ℕ) (ev : Event)
    (m : EndSilent) (x : End) (d : Deed) (k : Kept) (j : machine.World)
    (q : steps.IsMade w h n node sender moment ev (move.EndSilent m) x d k j) (b : Kept) (new : Mirrors x b) where
  abbrev mv : Move
  mv = move.EndSilent m

  abbrev i : ℕ
  i = m.tunnel

  abbrev s : ℕ
  s = m.session

  abbrev e : ℕ
  e = epoch_of w n m.tunnel

  abbrev t : Tunnel
  t = q.moved.does.tunnel

  abbrev was : Call
  was = q.moved.does.call

  abbrev r : Tunnel
  r = record t { calls = without t.calls m.session }

  abbrev Z : ℕ
  Z = name n m.session

  abbrev z : machine.World
  z = ended j Z

  at_t : at node.end.tunnels m.tunnel ≡ Some t
  at_t = q.moved.does.there

  same : moves_on w n node mv x ≡ with_end w n node x
  unfolding moved
  same = refl

  before : CallsJoined j h n (booked node k)
  before = made.calls_before w h n node sender moment ev mv x d k j q

  was_joined : CallJoined j n m.tunnel (h.accounts n m.tunnel 0).peer m.session was
  was_joined = before.live m.tunnel t at_t m.session was q.moved.does.live

  can : CanBe node.end.role was.state
  can = (q.sound i t at_t s was q.moved.does.live).1

  hold : WorldHolds j
  hold = world_holds births j q.joined.joined.moves q.joined.joined.run

  -- a call that hears of a connection has a mate
  no_connection : is_current (mode_of t.recovery) ≡ true → state_of was.state ≡ WaitsReply → (speed framing : ℕ) (sequenced : Bool)
      → InTunnel ev t.control m.session (message.Iccn speed framing sequenced)
      → ⊥
  no_connection current waits speed framing sequenced hears =
      let says = message.Iccn speed framing sequenced in
      let g : WasGiven h n e s says =
      was_given keep codecs again room w h n node sender moment ev mv x d k j q t at_t current s says hears tt tt tt in
      let stands = stands_there keep codecs again room w h n node sender moment ev mv x d k j q t at_t current s says g
      (machine_letters.Connect Z) (λ asked. refl) in
      let means = hold.letters.means _ _ _ (machine_letters.Connect Z) stands in
      means.0 (hold.calls.waits_reply Z (was_joined.state ∙ waits)).1

  -- where the tunnel is neither frozen nor restored the call waits for its tunnel
  waits_by : is_current (mode_of t.recovery) ≡ true → is_clean_up (row_for node.end.role was q.moved.does.on).1 ≡ true
      → IsSilent node.end.role was.state q.moved.does.on
      → WhyEnds node.end t ev moment m.session was q.moved.does.on q.moved.does.result q.moved.does.error
      → state_of was.state ≡ Waits
  waits_by current row silent (HasFault header f faulty is result error) =
      let one = fault_is keep codecs again room w h n node sender moment ev mv x d k j q t at_t current header f faulty in
      else_waits node.end.role was.state q.moved.does.on call_event.IcrqNotAcc silent
      (is ∙ ap (λ (y : CallFault). fault_event y.kind) one.1) refl
  waits_by current row silent (IsLate late is result error) =
      else_waits node.end.role was.state q.moved.does.on call_event.Close silent is refl
  waits_by current row silent (IsEnded why done is result error) =
      else_waits node.end.role was.state q.moved.does.on call_event.Close silent is refl
  waits_by current row silent (IsDropped dropped is result error) =
      else_waits node.end.role was.state q.moved.does.on call_event.Close silent is refl
  waits_by current row silent (IsHungUp hung is result error) =
      else_waits node.end.role was.state q.moved.does.on call_event.LineDrop silent is refl
  waits_by current row silent (IsAsked remote serial calling hears is result error) =
      else_waits node.end.role was.state q.moved.does.on call_event.IcrqAcc silent is refl
  waits_by current row silent (IsReplied remote hears is result error) =
      else_waits node.end.role was.state q.moved.does.on call_event.IcrpAcc silent is refl
  waits_by current row silent (IsConnected speed framing sequenced hears is result error) = ⊎_elim
      (λ waits. waits)
      (λ waits. absurd (no_connection current waits speed framing sequenced hears))
      (connection_row node.end.role was.state (fits_role node.end.role was.state can)
      (subst (λ on. is_clean_up (row_for node.end.role was on).1 ≡ true) is row))

  -- where it is current, the other end isn't to be told
  clean : is_current (mode_of t.recovery) ≡ true → is_clean_up (row_for node.end.role was q.moved.does.on).1 ≡ true
  clean current = ⊎_elim
      (λ row. row)
      (λ (k : (is_told (row_for node.end.role was q.moved.does.on).1 ≡ true) × (is_current (mode_of t.recovery) ≡ false)).
      absurd (true≢false (sym current ∙ k.1)))
      q.moved.does.row

  told : TunnelJoined j (with_book w n k) h n m.tunnel (Some t) (tunnel_at k m.tunnel)
  told = made.told w h n node sender moment ev mv x d k j q i t at_t

  does : step all_rules j (moves.EndsSilent Z) ≡ z
  does = by (is_current (mode_of t.recovery)) refl
    where
      by : (current : Bool) → is_current (mode_of t.recovery) ≡ current → step all_rules j (moves.EndsSilent Z) ≡ z
      by true current = silent_waits j Z (was_joined.state
          ∙ waits_by current (clean current)
          (silent_row node.end.role was.state q.moved.does.on (fits_role node.end.role was.state can) (clean current)) q.moved.does.why)
      by false current = silent_lives j Z (name n i) was_joined.tunnel
          (ap is_active told.phase ∙ inactive_phase n t t.recovery current)
          (ap lives was_joined.state ∙ lives_so node.end.role was.state can)

  order : Ascends t.calls
  order = (q.moved.fit.tables.tunnels i t at_t).order

  knows : KnowsNoMore h (after h d)
  knows = record {
    accounts = account_stays h d mv q.moved.deed.move_is (λ a. refl) (λ y f. refl);
    attempts = λ y f. ap (λ e. attempts_by d e y f (h.attempts y f)) q.moved.deed.move_is;
    answers = λ y f. ap (λ e. answers_by d e y f (h.answers y f)) q.moved.deed.move_is;
  }

  peers : (p f : ℕ) → ((after h d).accounts p f 0).peer ≡ (h.accounts p f 0).peer
  peers p f = ap (λ a. a.peer) (knows.accounts p f 0)

  tunnels : x.tunnels ≡ put node.end.tunnels m.tunnel r
  tunnels = ap (λ (y : End). y.tunnels) q.moved.does.after

  at_r : at x.tunnels m.tunnel ≡ Some r
  at_r = ap (λ ts. at ts m.tunnel) tunnels ∙ at_new node.end.tunnels m.tunnel r

  others : (f : ℕ) → (f ≡ m.tunnel → ⊥) → at x.tunnels f ≡ at node.end.tunnels f
  others f other = ap (λ ts. at ts f) tunnels ∙ at_other node.end.tunnels m.tunnel r f other

  turned : Turned w h n node x d k b j z i s t
  turned = record {
    new = new;
    at_t = at_t;
    was = was;
    live = q.moved.does.live;
    tunnel = r;
    at_r = at_r;
    others = others;
    ids = ap (λ (y : End). y.session_ids) q.moved.does.after;
    sessions = λ y other. at_without_other t.calls s y other;
    then_is = None;
    this = at_without_same t.calls s order;
    peers = peers;
    machine_tunnels = refl;
    state = NoCall;
    remote = j.calls.remote Z;
    in_book = false;
    turns = ended_turns j.calls Z;
    turned = (refl, refl);
  }

  talks : Talks w h (after h d) n node x k b j z i (epoch_of w n i) t r [] [] 0
  talks = silent_talks w h n node sender moment ev mv x d k j q b z i t r (after h d) (record {
    new = new;
    at_t = at_t;
    at_r = at_r;
    state = refl;
    recovery = refl;
    others = others;
    knows = knows;
    tunnels = refl;
    channels = refl;
    calls = turning.turned_calls w h n node sender moment ev mv x d k j q b z i s t turned;
    calls_stay = turning.turned_stay w h n node sender moment ev mv x d k j q b z i s t turned;
    births = turning.turned_births w h n node sender moment ev mv x d k j q b z i s t turned;
  })

  pub end_silent_follows : Follows ev (with_book (moves_on w n node mv x) n b) (after h d) n j
  end_silent_follows = talks_follow grow w h n node sender moment ev mv x d k b j z q t r [] [] 0 talks peers (record {
    same = same;
    query = refl;
    asks = turning.turned_asks w h n node sender moment ev mv x d k j q b z i s t turned;
    held = turning.turned_held w h n node sender moment ev mv x d k j q b z i s t turned;
    named = turning.turned_named w h n node sender moment ev mv x d k j q b z i s t turned;
    went = went_one ev n j z (moves.EndsSilent Z)
        (silent_node j Z ∙ (ap (λ y. j.tunnels.node y) was_joined.tunnel
        ∙ told.node (made.live_ok w h n node sender moment ev mv x d k j q i t at_t).made))
        refl tt does;
  })

pub end_silent_joins : calm.MovesKeep → Codecs → WrittenIsRead → WrittenHasRoom → ChannelsGrow → BirthsOfRuns → (m : EndSilent)
    → Joins (move.EndSilent m)
end_silent_joins keep codecs again room grow births m w h n node sender moment ev x d k j q b new =
    end_silent_follows keep codecs again room grow births w h n node sender moment ev m x d k j q b new
