-- Which tunnels are frozen or restored as a step goes on: one is restored by no step, and one that a step freezes isn't reset by that step. So no move
-- behind one that gives or takes a letter, or that resets a tunnel, makes it enter an epoch.
use Rattle.std.proofs.Common.{◌≡◌, ◌⊎◌, inl, inr, ⊎_elim, ℕ, Bool, true, false, refl, sym, ap, ap₂, ◌∙◌, subst, Some, Ok}
use Rattle.std.proofs.lemmas.Bool.{true≢false}
use Rattle.id_table.specs.Ids.{at, put}
use Rattle.id_table.specs.Order.{Ascends, at_new, at_other, same_or_not, found_without}
use Rattle.l2tp_header.specs.Reading.{header_of, body_of}
use Rattle.control_message.specs.declared.message.Message.TheVariants.{Sccrq}
use Rattle.control_message.specs.declared.message.Opening.{Opening}
use Rattle.control_channel.specs.Channel.{Channel}
use Rattle.end_model.specs.declared.event.Event.{Event}
use Rattle.end_model.specs.declared.event.Event.TheVariants.{Datagram}
use Rattle.end_model.specs.declared.moves.Froze.{Froze}
use Rattle.end_model.specs.declared.moves.Move.{Move}
use Rattle.end_model.specs.declared.moves.Move.TheVariants as move
use Rattle.end_model.specs.Reading.{message_in}
use Rattle.end_model.specs.Tunnels.{Tunnel, Recovering, ByAttempt, ByAnswer, connection_of, with_connection, mode_of, is_current}
use Rattle.end_model.specs.End.{End}
use Rattle.step_laws.specs.Arrivals.{Came, CameIn}
use Rattle.step_laws.specs.Moves.{Does}
use Rattle.step_laws.specs.Steps.{IsOfNoStart}
use Rattle.channel_laws.specs.Accounts.{about}
use Rattle.channel_laws.specs.Steps.{IsStill}
use Rattle.channel_laws.proofs.Waiting.{waits_inactive, reset_current}

-- a move that resets a tunnel
abbrev pub IsReset : Move → Type 0
IsReset (move.ResetAttempting m) = Unit {0}
IsReset (move.ResetAnswering m) = Unit {0}
IsReset m = ⊥

-- a tunnel is frozen or restored
pub record IsInactive (e : End) (i : ℕ) : Type 0 where
  pub tunnel : Tunnel
  pub there : at e.tunnels i ≡ Some tunnel
  pub inactive : is_current (mode_of tunnel.recovery) ≡ false

-- what comes asks for a recovery, or opens a tunnel
pub record IsAsking (ev : Event) : Type 0 where
  pub letter : Came
  pub came : CameIn ev letter
  pub opening : Opening
  pub said : message_in letter.body ≡ Ok (Sccrq opening)

abbrev active : Tunnel → Type 0
active t = is_current (mode_of t.recovery) ≡ true

not_both : (t : Tunnel) → active t → is_current (mode_of t.recovery) ≡ false → ⊥
not_both t on off = true≢false (sym on ∙ off)

tunnels_are : (x y : End) → x ≡ y → x.tunnels ≡ y.tunnels
tunnels_are x y same = ap (λ (e : End). e.tunnels) same

module _ (e x : End) (i : ℕ) where
  -- a tunnel is put that is as active as it was
  kept_so : (k : ℕ) (t u : Tunnel) → at e.tunnels k ≡ Some t → x.tunnels ≡ put e.tunnels k u → is_current (mode_of u.recovery) ≡ is_current (mode_of t.recovery)
      → IsInactive x i → IsInactive e i
  kept_so k t u there puts same h = ⊎_elim
      (λ (here : i ≡ k).
      let one : Some u ≡ Some h.tunnel = sym (at_new e.tunnels k u) ∙ (subst (λ q. at (put e.tunnels k u) q ≡ Some h.tunnel) here (ap (λ l. at l i) (sym puts) ∙ h.there)) in
      let both : u ≡ h.tunnel = cc in
      record { tunnel = t; there = ap (at e.tunnels) here ∙ there; inactive = sym same ∙ (ap (λ (q : Tunnel). is_current (mode_of q.recovery)) both ∙ h.inactive) })
      (λ (o : i ≡ k → ⊥). record { tunnel = h.tunnel; there = sym (at_other e.tunnels k u i o) ∙ (ap (λ l. at l i) (sym puts) ∙ h.there); inactive = h.inactive })
      (same_or_not i k)

  -- or one that is active
  active_put : (k : ℕ) (u : Tunnel) → x.tunnels ≡ put e.tunnels k u → active u → IsInactive x i → (i ≡ k → ⊥) × IsInactive e i
  active_put k u puts current h = ⊎_elim
      (λ (here : i ≡ k).
      let one : Some u ≡ Some h.tunnel = sym (at_new e.tunnels k u) ∙ (subst (λ q. at (put e.tunnels k u) q ≡ Some h.tunnel) here (ap (λ l. at l i) (sym puts) ∙ h.there)) in
      let both : u ≡ h.tunnel = cc in
      absurd (not_both h.tunnel (subst (λ (q : Tunnel). active q) both current) h.inactive))
      (λ (o : i ≡ k → ⊥). (o, record { tunnel = h.tunnel; there = sym (at_other e.tunnels k u i o) ∙ (ap (λ l. at l i) (sym puts) ∙ h.there); inactive = h.inactive }))
      (same_or_not i k)

  same_so : x.tunnels ≡ e.tunnels → IsInactive x i → IsInactive e i
  same_so same h = record { tunnel = h.tunnel; there = ap (λ l. at l i) (sym same) ∙ h.there; inactive = h.inactive }

-- a recovery tunnel that goes on is as finished as it was
pub same_mode : (channel : Channel) (closed : Bool) (remote : ℕ) (r : Recovering)
    → is_current (mode_of (Some (with_connection (record (connection_of r) { channel = channel; closed = closed; remote = remote }) r))) ≡ is_current (mode_of (Some r))
same_mode channel closed remote (ByAttempt c) = refl
same_mode channel closed remote (ByAnswer a) = refl

-- ---- each move

-- a tunnel that is frozen or restored after a move was so before, or the move freezes one
abbrev WasSo : End → ℕ → Move → Type 0
WasSo e i m = IsInactive e i ⊎ ((f : Froze) × (m ≡ move.Froze f))

pub inactive_before : (e x : End) (moment : ℕ) (ev : Event) (m : Move) → IsOfNoStart m → Ascends e.tunnels → Does e moment ev m x → (i : ℕ) → IsInactive x i → WasSo e i m
inactive_before e x moment ev (move.Opened m) start order h i k = inl (active_put e x i m.tunnel _ (tunnels_are x _ h.after) refl k).1
inactive_before e x moment ev (move.Accepted m) start order h i k = inl (active_put e x i m.tunnel _ (tunnels_are x _ h.after) refl k).1
inactive_before e x moment ev (move.Connected m) start order h i k = inl (kept_so e x i m.tunnel h.tunnel _ h.there (tunnels_are x _ h.after) refl k)
inactive_before e x moment ev (move.Confirmed m) start order h i k = inl (kept_so e x i m.tunnel h.tunnel _ h.there (tunnels_are x _ h.after) refl k)
inactive_before e x moment ev (move.Added m) start order h i k = inl (kept_so e x i m.tunnel h.tunnel _ h.there (tunnels_are x _ h.after) refl k)
inactive_before e x moment ev (move.Requested m) start order h i k = inl (kept_so e x i m.tunnel h.tunnel _ h.there (tunnels_are x _ h.after) refl k)
inactive_before e x moment ev (move.Replied m) start order h i k = inl (kept_so e x i m.tunnel h.tunnel _ h.there (tunnels_are x _ h.after) refl k)
inactive_before e x moment ev (move.FirstUp m) start order h i k = inl (kept_so e x i m.tunnel h.tunnel _ h.there (tunnels_are x _ h.after) refl k)
inactive_before e x moment ev (move.SecondUp m) start order h i k = inl (kept_so e x i m.tunnel h.tunnel _ h.there (tunnels_are x _ h.after) refl k)
inactive_before e x moment ev (move.Refused m) start order h i k = inl (kept_so e x i m.tunnel h.tunnel _ h.there (tunnels_are x _ h.after) refl k)
inactive_before e x moment ev (move.EndTold m) start order h i k = inl (kept_so e x i m.tunnel h.tunnel _ h.there (tunnels_are x _ h.after) refl k)
inactive_before e x moment ev (move.EndHeard m) start order h i k = inl (kept_so e x i m.tunnel h.tunnel _ h.there (tunnels_are x _ h.after) refl k)
inactive_before e x moment ev (move.EndSilent m) start order h i k = inl (kept_so e x i m.tunnel h.tunnel _ h.there (tunnels_are x _ h.after) refl k)
inactive_before e x moment ev (move.Closed m) start order h i k = inl (kept_so e x i m.tunnel h.tunnel _ h.there (tunnels_are x _ h.after) refl k)
inactive_before e x moment ev (move.Rejected m) start order h i k = inl (kept_so e x i m.tunnel h.tunnel _ h.there (tunnels_are x _ h.after) refl k)
inactive_before e x moment ev (move.ClosedBy m) start order h i k = inl (kept_so e x i m.tunnel h.tunnel _ h.there (tunnels_are x _ h.after) refl k)
inactive_before e x moment ev (move.Greeted m) start order h i k = inl (kept_so e x i m.tunnel h.tunnel _ h.there (tunnels_are x _ h.after) refl k)
inactive_before e x moment ev (move.TookPlain m) start order h i k = inl (kept_so e x i m.tunnel h.tunnel _ h.there (tunnels_are x _ h.after) refl k)
inactive_before e x moment ev (move.NrRead m) start order h i k = inl (kept_so e x i m.tunnel h.tunnel _ h.there (tunnels_are x _ h.after) refl k)
inactive_before e x moment ev (move.Queried m) start order h i k =
    inl (kept_so e x i m.tunnel h.tunnel _ h.there (tunnels_are x _ h.after) refl k)
inactive_before e x moment ev (move.AnsweredQuery m) start order h i k =
    inl (kept_so e x i m.tunnel h.tunnel _ h.there (tunnels_are x _ h.after) refl k)
inactive_before e x moment ev (move.TookAnswer m) start order h i k =
    inl (kept_so e x i m.tunnel h.tunnel _ h.there (tunnels_are x _ h.after) refl k)
inactive_before e x moment ev (move.LetGo m) start order h i k = inl (kept_so e x i m.tunnel h.tunnel _ h.there (tunnels_are x _ h.after) refl k)
inactive_before e x moment ev (move.Repeated m) start order h i k = inl (kept_so e x i m.tunnel h.tunnel _ h.there (tunnels_are x _ h.after) refl k)
inactive_before e x moment ev (move.Negotiated m) start order h i k = inl (kept_so e x i m.tunnel h.tunnel _ h.there (tunnels_are x _ h.after) refl k)
inactive_before e x moment ev (move.Counted m) start order h i k = inl (kept_so e x i m.tunnel h.tunnel _ h.there (tunnels_are x _ h.after) refl k)
inactive_before e x moment ev (move.Declined m) start order h i k = inl (same_so e x i (tunnels_are x _ h.after) k)
inactive_before e x moment ev (move.Quiet j) start order h i k = inl (same_so e x i (tunnels_are x _ h.after) k)
inactive_before e x moment ev (move.FrameSent m) start order h i k = inl (same_so e x i (tunnels_are x _ h.after) k)
inactive_before e x moment ev (move.FrameUp m) start order h i k = inl (same_so e x i (tunnels_are x _ h.after) k)
inactive_before e x moment ev (move.Cleared j booked) start order h i k =
    inl (record { tunnel = k.tunnel; there = (found_without e.tunnels j i k.tunnel order (ap (λ l. at l i) (sym (tunnels_are x _ h.after)) ∙ k.there)).1; inactive = k.inactive })
inactive_before e x moment ev (move.Ignored j) start order h i k = inl (kept_so e x i j h.tunnel _ h.there (tunnels_are x _ h.after) refl k)
inactive_before e x moment ev (move.RecoveryWentOn j) start order h i k =
    inl (kept_so e x i j h.tunnel _ h.there (tunnels_are x _ h.after)
    (same_mode h.channel h.closed h.remote h.old ∙ sym (ap (λ r. is_current (mode_of r)) h.has)) k)
inactive_before e x moment ev (move.RecoveryEnded j) start order h i k = inl (active_put e x i j _ (tunnels_are x _ h.after) refl k).1
inactive_before e x moment ev (move.ResetAttempting m) start order h i k =
    inl (active_put e x i m.tunnel _ (tunnels_are x _ h.after) (reset_current (ByAttempt h.new) moment h.same.3) k).1
inactive_before e x moment ev (move.ResetAnswering m) start order h i k =
    inl (active_put e x i m.tunnel _ (tunnels_are x _ h.after) (reset_current (ByAnswer h.new) moment h.same.2) k).1
inactive_before e x moment ev (move.Froze m) start order h i k = inr (m, refl)
inactive_before e x moment ev (move.Restored m) start order h i k = absurd start
inactive_before e x moment ev (move.Forgot m) start order h i k = absurd start

-- one that a move is about which gives or takes a letter, or enters an epoch, is neither after it, unless it is frozen by it
pub active_after : (e x : End) (moment : ℕ) (ev : Event) (m : Move) → IsOfNoStart m → (IsStill m → ⊥) → ((f : Froze) → m ≡ move.Froze f → ⊥)
    → ((t : Tunnel) → at x.tunnels 0 ≡ Some t → ⊥) → Does e moment ev m x → IsInactive x (about m) → ⊥
active_after e x moment ev (move.Opened m) start still other zero h k = (active_put e x m.tunnel m.tunnel _ (tunnels_are x _ h.after) refl k).0 refl
active_after e x moment ev (move.Accepted m) start still other zero h k = (active_put e x m.tunnel m.tunnel _ (tunnels_are x _ h.after) refl k).0 refl
active_after e x moment ev (move.Connected m) start still other zero h k = (active_put e x m.tunnel m.tunnel _ (tunnels_are x _ h.after) h.current k).0 refl
active_after e x moment ev (move.Confirmed m) start still other zero h k = (active_put e x m.tunnel m.tunnel _ (tunnels_are x _ h.after) h.current k).0 refl
active_after e x moment ev (move.Added m) start still other zero h k = (active_put e x m.tunnel m.tunnel _ (tunnels_are x _ h.after) h.current k).0 refl
active_after e x moment ev (move.Requested m) start still other zero h k = (active_put e x m.tunnel m.tunnel _ (tunnels_are x _ h.after) h.current k).0 refl
active_after e x moment ev (move.Replied m) start still other zero h k = (active_put e x m.tunnel m.tunnel _ (tunnels_are x _ h.after) h.current k).0 refl
active_after e x moment ev (move.FirstUp m) start still other zero h k = (active_put e x m.tunnel m.tunnel _ (tunnels_are x _ h.after) h.current k).0 refl
active_after e x moment ev (move.SecondUp m) start still other zero h k = (active_put e x m.tunnel m.tunnel _ (tunnels_are x _ h.after) h.current k).0 refl
active_after e x moment ev (move.Refused m) start still other zero h k = (active_put e x m.tunnel m.tunnel _ (tunnels_are x _ h.after) h.current k).0 refl
active_after e x moment ev (move.EndTold m) start still other zero h k = (active_put e x m.tunnel m.tunnel _ (tunnels_are x _ h.after) h.current k).0 refl
active_after e x moment ev (move.EndHeard m) start still other zero h k = (active_put e x m.tunnel m.tunnel _ (tunnels_are x _ h.after) h.current k).0 refl
active_after e x moment ev (move.Closed m) start still other zero h k = (active_put e x m.tunnel m.tunnel _ (tunnels_are x _ h.after) h.current k).0 refl
active_after e x moment ev (move.Rejected m) start still other zero h k = (active_put e x m.tunnel m.tunnel _ (tunnels_are x _ h.after) h.current k).0 refl
active_after e x moment ev (move.ClosedBy m) start still other zero h k = (active_put e x m.tunnel m.tunnel _ (tunnels_are x _ h.after) h.current k).0 refl
active_after e x moment ev (move.Greeted m) start still other zero h k = (active_put e x m.tunnel m.tunnel _ (tunnels_are x _ h.after) h.current k).0 refl
active_after e x moment ev (move.TookPlain m) start still other zero h k = (active_put e x m.tunnel m.tunnel _ (tunnels_are x _ h.after) h.current k).0 refl
active_after e x moment ev (move.NrRead m) start still other zero h k = (active_put e x m.tunnel m.tunnel _ (tunnels_are x _ h.after) h.current k).0 refl
active_after e x moment ev (move.Queried m) start still other zero h k =
    (active_put e x m.tunnel m.tunnel _ (tunnels_are x _ h.after) h.current k).0 refl
active_after e x moment ev (move.AnsweredQuery m) start still other zero h k =
    (active_put e x m.tunnel m.tunnel _ (tunnels_are x _ h.after) h.current k).0 refl
active_after e x moment ev (move.TookAnswer m) start still other zero h k =
    (active_put e x m.tunnel m.tunnel _ (tunnels_are x _ h.after) h.current k).0 refl
active_after e x moment ev (move.Declined m) start still other zero h k = zero k.tunnel k.there
active_after e x moment ev (move.ResetAttempting m) start still other zero h k =
    (active_put e x m.tunnel m.tunnel _ (tunnels_are x _ h.after) (reset_current (ByAttempt h.new) moment h.same.3) k).0 refl
active_after e x moment ev (move.ResetAnswering m) start still other zero h k =
    (active_put e x m.tunnel m.tunnel _ (tunnels_are x _ h.after) (reset_current (ByAnswer h.new) moment h.same.2) k).0 refl
active_after e x moment ev (move.Froze m) start still other zero h k = other m refl
active_after e x moment ev (move.Restored m) start still other zero h k = absurd start
active_after e x moment ev m start still other zero h k = absurd (still tt)

-- ---- what asks for a recovery answers none

came_same : (ev : Event) (a b : Came) (x : CameIn ev a) (y : CameIn ev b) → a.body ≡ b.body
came_same ev a b x y =
    let both : Datagram a.peer x.bytes ≡ Datagram b.peer y.bytes = sym x.is ∙ y.is in
    let bytes : x.bytes ≡ y.bytes = cc in
    let headers = sym x.read ∙ (ap header_of bytes ∙ y.read) in
    let header : a.header ≡ b.header = cc in
    x.body_is ∙ (ap₂ (λ bs h. body_of bs h) bytes header ∙ sym y.body_is)

-- so nothing that it makes a tunnel do resets one that it froze
pub asks_no_reset : (e x : End) (moment : ℕ) (ev : Event) (m : Move) → IsAsking ev → Does e moment ev m x → IsReset m → ⊥
asks_no_reset e x moment ev (move.ResetAttempting m) asks h of =
    let same = came_same ev asks.letter h.letter asks.came h.comes.came in
    let both = sym asks.said ∙ (ap message_in same ∙ h.said) in
    absurd cc
asks_no_reset e x moment ev (move.ResetAnswering m) asks h of =
    let same = came_same ev asks.letter h.letter asks.came h.comes.came in
    let both = sym asks.said ∙ (ap message_in same ∙ h.said) in
    absurd cc
asks_no_reset e x moment ev m asks h of = absurd of

-- a reset is of a tunnel that was frozen or restored
pub reset_before : (e x : End) (moment : ℕ) (ev : Event) (m : Move) → Does e moment ev m x → IsReset m → IsInactive e (about m)
reset_before e x moment ev (move.ResetAttempting m) h of = record {
  tunnel = h.tunnel;
  there = h.there;
  inactive = ap (λ r. is_current (mode_of r)) h.attempts ∙ waits_inactive (ByAttempt h.old) h.waits;
}
reset_before e x moment ev (move.ResetAnswering m) h of = record {
  tunnel = h.tunnel;
  there = h.there;
  inactive = ap (λ r. is_current (mode_of r)) h.answers ∙ waits_inactive (ByAnswer h.old) h.waits;
}
reset_before e x moment ev m h of = absurd of

pub froze_asks : (e x : End) (moment : ℕ) (ev : Event) (f : Froze) → Does e moment ev (move.Froze f) x → IsAsking ev
froze_asks e x moment ev f h = record { letter = h.letter; came = h.came; opening = h.opening; said = h.said }

-- ---- a chain

-- a tunnel is not reset by the moves of a chain that begins so
abbrev pub StaysSo : End → Event → ℕ → Type 0
StaysSo e ev i = (IsInactive e i → ⊥) ⊎ IsAsking ev

froze_or_not : (m : Move) → ((f : Froze) × (m ≡ move.Froze f)) ⊎ ((f : Froze) → m ≡ move.Froze f → ⊥)
froze_or_not (move.Froze f) = inl (f, refl)
froze_or_not m = inr (λ f is. absurd cc)

pub stays_so : (e x : End) (moment : ℕ) (ev : Event) (m : Move) → IsOfNoStart m → Ascends e.tunnels → Does e moment ev m x → (i : ℕ) → StaysSo e ev i → StaysSo x ev i
stays_so e x moment ev m start order h i (inr asks) = inr asks
stays_so e x moment ev m start order h i (inl never) = ⊎_elim
    (λ k. inr (froze_asks e x moment ev k.0 (subst (λ z. Does e moment ev z x) k.1 h)))
    (λ other. inl (λ k. ⊎_elim (λ was. never was) (λ q. other q.0 q.1) (inactive_before e x moment ev m start order h i k)))
    (froze_or_not m)

-- no reset of the tunnel is there
pub never_reset : (e x : End) (moment : ℕ) (ev : Event) (m : Move) → Does e moment ev m x → (i : ℕ) → StaysSo e ev i → IsReset m → about m ≡ i → ⊥
never_reset e x moment ev m h i (inr asks) of same = asks_no_reset e x moment ev m asks h of
never_reset e x moment ev m h i (inl never) of same = never (subst (IsInactive e) same (reset_before e x moment ev m h of))

-- it begins so behind a move that gives or takes a letter, or enters an epoch
pub begins_so : (e x : End) (moment : ℕ) (ev : Event) (m : Move) → IsOfNoStart m → (IsStill m → ⊥) → ((t : Tunnel) → at x.tunnels 0 ≡ Some t → ⊥) → Does e moment ev m x
    → StaysSo x ev (about m)
begins_so e x moment ev m start still zero h = ⊎_elim
    (λ k. inr (froze_asks e x moment ev k.0 (subst (λ z. Does e moment ev z x) k.1 h)))
    (λ other. inl (λ k. active_after e x moment ev m start still other zero h k))
    (froze_or_not m)
