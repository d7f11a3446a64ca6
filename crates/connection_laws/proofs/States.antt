-- What the state of a live tunnel says of its account, and what the tables' rows say of states.
use Rattle.std.proofs.Common.{◌≡◌, ◌⊎◌, inl, inr, ⊎_elim, ℕ, true, false, List, [], length, refl, sym, ap, ◌∙◌, subst, Some, arith}
use Rattle.std.proofs.lemmas.Bool.{eqb-true, eqb-false}
use Rattle.std.proofs.lemmas.Option.{none-some}
use Rattle.id_table.specs.Ids.{at, at-none}
use Rattle.tunnel_fsm.specs.declared.table.TunnelState.{TunnelState}
use Rattle.tunnel_fsm.specs.declared.table.TunnelState.TheVariants as state
use Rattle.tunnel_fsm.specs.declared.table.TunnelEvent.{TunnelEvent}
use Rattle.tunnel_fsm.specs.declared.table.TunnelEvent.TheVariants as event
use Rattle.tunnel_fsm.specs.declared.table.TunnelAction.{TunnelAction}
use Rattle.tunnel_fsm.specs.declared.table.TunnelAction.TheVariants as action
use Rattle.tunnel_fsm.specs.Rows.{rows, row_of, state_number}
use Rattle.call_fsm.specs.declared.table.CallState.TheVariants.{WaitTunnel}
use Rattle.call_fsm.specs.declared.table.CallEvent.{CallEvent}
use Rattle.call_fsm.specs.declared.table.CallEvent.TheVariants as call_event
use Rattle.end_model.specs.declared.tunnel.Call.{Call}
use Rattle.end_names.specs.declared.role.Role.{Role}
use Rattle.end_names.specs.declared.role.Role.TheVariants.{Lac, Lns}
use Rattle.end_model.specs.Calls.{call_row, is_told, rung, advanced}
use Rattle.end_model.specs.Tunnels.{Tunnel}
use Rattle.end_model.specs.Moments.{is_closed}
use Rattle.connection_laws.specs.Accounts.{Part, Unmade, Opener, Acceptor, Account, heeded}
use Rattle.connection_laws.specs.Facts.{Accounts, partner_in, IsOpen, IsClosed, IsLost, AllWait, IsShut, IsInState}

-- ---- closed or not

pub not_closed : (s : TunnelState) → is_closed s ≡ false → state_number s ≡ 4 → ⊥
not_closed s h four = eqb-false (state_number s) 4 h four

pub closed_so : (s : TunnelState) → is_closed s ≡ true → state_number s ≡ 4
closed_so s h = eqb-true (state_number s) 4 h

pub open_unless : (a : Account) → IsOpen a → IsClosed a → ⊥
open_unless a is_open closed = let is = closed.1 in let clash : ⊥ = cc in clash

-- an opener that is closed isn't established
pub closed_still : (accs : Accounts) (i : ℕ) (a : Account) (t : Tunnel) → a.part ≡ Opener → IsInState accs i a t a.part → a.closed ≡ Some 0
    → state_number t.control.state ≡ 3 → ⊥
closed_still accs i a t own state closed three = ⊎_elim
    (λ (w : (state_number t.control.state ≡ 1) × (a.remote ≡ 0) × IsOpen a × AllWait t.calls). let one = w.0 in omega (arith, one, three))
    (λ rest. ⊎_elim
    (λ (k : (state_number t.control.state ≡ 3) × (a.remote ≡ 0 → ⊥) × IsOpen a). let open_is = k.2 in let no : ⊥ = cc in no)
    (λ (k : IsShut a t). let four = k.0 in omega (arith, four, three))
    rest)
    (subst (IsInState accs i a t) own state)

pub lost_unless : (a : Account) → IsOpen a → IsLost a → ⊥
lost_unless a is_open lost = let is = lost.0 in let clash : ⊥ = cc in clash

-- how many letters it took as long as it wasn't closed
pub heeded_open : (a : Account) → IsOpen a → heeded a ≡ length a.taken
heeded_open a is_open = rw is_open refl

pub heeded_closed : (a : Account) (count : ℕ) → a.closed ≡ Some count → heeded a ≡ count
heeded_closed a count is = rw is refl

-- ---- calls

-- where there are none, there is none of this session
pub no_call : (calls : List (ℕ × Call)) (s : ℕ) (c : Call) → at calls s ≡ Some c → calls ≡ [] → ⊥
no_call calls s c there none = none-some c (sym (at-none s) ∙ subst (λ (cs : List (ℕ × Call)). at cs s ≡ Some c) none there)

-- ---- where a tunnel stands

pub opener_in : (accs : Accounts) (i : ℕ) (a : Account) (t : Tunnel) → IsInState accs i a t Opener → (state_number t.control.state ≡ 4 → ⊥)
    → ((state_number t.control.state ≡ 1) × (a.remote ≡ 0) × IsOpen a × AllWait t.calls)
    ⊎ ((state_number t.control.state ≡ 3) × (a.remote ≡ 0 → ⊥) × IsOpen a)
opener_in accs i a t h other = ⊎_elim
    (λ (k : (state_number t.control.state ≡ 1) × (a.remote ≡ 0) × IsOpen a × AllWait t.calls). inl k)
    (λ rest. ⊎_elim
    (λ (k : (state_number t.control.state ≡ 3) × (a.remote ≡ 0 → ⊥) × IsOpen a). inr k)
    (λ (k : IsShut a t). absurd (other k.0))
    rest)
    h

pub acceptor_in : (accs : Accounts) (i : ℕ) (a : Account) (t : Tunnel) → IsInState accs i a t Acceptor → (state_number t.control.state ≡ 4 → ⊥)
    → ((state_number t.control.state ≡ 2) × (t.calls ≡ []) × IsOpen a)
    ⊎ ((state_number t.control.state ≡ 3) × ((partner_in accs a).remote ≡ i) × IsOpen a)
acceptor_in accs i a t h other = ⊎_elim
    (λ (k : (state_number t.control.state ≡ 2) × (t.calls ≡ []) × IsOpen a). inl k)
    (λ rest. ⊎_elim
    (λ (k : (state_number t.control.state ≡ 3) × ((partner_in accs a).remote ≡ i) × IsOpen a). inr k)
    (λ (k : IsShut a t). absurd (other k.0))
    rest)
    h

-- one that isn't closed is open
pub is_open_so : (accs : Accounts) (i : ℕ) (a : Account) (t : Tunnel) (r : Part) → IsInState accs i a t r → (state_number t.control.state ≡ 4 → ⊥) → IsOpen a
is_open_so accs i a t Unmade h other = absurd h
is_open_so accs i a t Opener h other = ⊎_elim
    (λ (k : (state_number t.control.state ≡ 1) × (a.remote ≡ 0) × IsOpen a × AllWait t.calls). k.2)
    (λ (k : (state_number t.control.state ≡ 3) × (a.remote ≡ 0 → ⊥) × IsOpen a). k.2)
    (opener_in accs i a t h other)
is_open_so accs i a t Acceptor h other = ⊎_elim
    (λ (k : (state_number t.control.state ≡ 2) × (t.calls ≡ []) × IsOpen a). k.2)
    (λ (k : (state_number t.control.state ≡ 3) × ((partner_in accs a).remote ≡ i) × IsOpen a). k.2)
    (acceptor_in accs i a t h other)

-- one that is closed has no calls
pub is_shut_so : (accs : Accounts) (i : ℕ) (a : Account) (t : Tunnel) (r : Part) → IsInState accs i a t r → state_number t.control.state ≡ 4 → IsShut a t
is_shut_so accs i a t Unmade h four = absurd h
is_shut_so accs i a t Opener h four = ⊎_elim
    (λ (k : (state_number t.control.state ≡ 1) × (a.remote ≡ 0) × IsOpen a × AllWait t.calls). let one = k.0 in absurd (omega (arith, one, four)))
    (λ rest. ⊎_elim
    (λ (k : (state_number t.control.state ≡ 3) × (a.remote ≡ 0 → ⊥) × IsOpen a). let three = k.0 in absurd (omega (arith, three, four)))
    (λ (k : IsShut a t). k)
    rest)
    h
is_shut_so accs i a t Acceptor h four = ⊎_elim
    (λ (k : (state_number t.control.state ≡ 2) × (t.calls ≡ []) × IsOpen a). let two = k.0 in absurd (omega (arith, two, four)))
    (λ rest. ⊎_elim
    (λ (k : (state_number t.control.state ≡ 3) × ((partner_in accs a).remote ≡ i) × IsOpen a). let three = k.0 in absurd (omega (arith, three, four)))
    (λ (k : IsShut a t). k)
    rest)
    h

pub shut_stands : (accs : Accounts) (i : ℕ) (a : Account) (t : Tunnel) (r : Part) → (r ≡ Unmade → ⊥) → IsShut a t → IsInState accs i a t r
shut_stands accs i a t Unmade made k = absurd (made refl)
shut_stands accs i a t Opener made k = inr (inr k)
shut_stands accs i a t Acceptor made k = inr (inr k)

-- one that is open knows its partner, and an acceptor's has learned it
pub opener_known : (accs : Accounts) (i : ℕ) (a : Account) (t : Tunnel) → IsInState accs i a t Opener → state_number t.control.state ≡ 3 → a.remote ≡ 0 → ⊥
opener_known accs i a t h three = ⊎_elim
    (λ (k : (state_number t.control.state ≡ 1) × (a.remote ≡ 0) × IsOpen a × AllWait t.calls). let one = k.0 in absurd (omega (arith, one, three)))
    (λ (k : (state_number t.control.state ≡ 3) × (a.remote ≡ 0 → ⊥) × IsOpen a). k.1)
    (opener_in accs i a t h (λ four. let no : ⊥ = omega (arith, four, three) in no))

pub acceptor_chosen : (accs : Accounts) (i : ℕ) (a : Account) (t : Tunnel) → IsInState accs i a t Acceptor → state_number t.control.state ≡ 3
    → (partner_in accs a).remote ≡ i
acceptor_chosen accs i a t h three = ⊎_elim
    (λ (k : (state_number t.control.state ≡ 2) × (t.calls ≡ []) × IsOpen a). let two = k.0 in absurd (omega (arith, two, three)))
    (λ (k : (state_number t.control.state ≡ 3) × ((partner_in accs a).remote ≡ i) × IsOpen a). k.1)
    (acceptor_in accs i a t h (λ four. let no : ⊥ = omega (arith, four, three) in no))

-- an opener that isn't answered
pub record IsWaiting (a : Account) (t : Tunnel) (r : Part) : Type 0 where
  pub part : r ≡ Opener
  pub remote : a.remote ≡ 0
  pub is_open : IsOpen a
  pub calls : AllWait t.calls

pub is_waiting : (accs : Accounts) (i : ℕ) (a : Account) (t : Tunnel) (r : Part) → IsInState accs i a t r → state_number t.control.state ≡ 1
    → IsWaiting a t r
is_waiting accs i a t Unmade h one = absurd h
is_waiting accs i a t Opener h one = ⊎_elim
    (λ (k : (state_number t.control.state ≡ 1) × (a.remote ≡ 0) × IsOpen a × AllWait t.calls).
    record { part = refl; remote = k.1; is_open = k.2; calls = k.3 })
    (λ (k : (state_number t.control.state ≡ 3) × (a.remote ≡ 0 → ⊥) × IsOpen a). let three = k.0 in absurd (omega (arith, one, three)))
    (opener_in accs i a t h (λ four. let no : ⊥ = omega (arith, four, one) in no))
is_waiting accs i a t Acceptor h one = ⊎_elim
    (λ (k : (state_number t.control.state ≡ 2) × (t.calls ≡ []) × IsOpen a). let two = k.0 in absurd (omega (arith, one, two)))
    (λ (k : (state_number t.control.state ≡ 3) × ((partner_in accs a).remote ≡ i) × IsOpen a). let three = k.0 in absurd (omega (arith, one, three)))
    (acceptor_in accs i a t h (λ four. let no : ⊥ = omega (arith, four, one) in no))

-- ---- rows

-- what a row says, and what it is to say
abbrev Says : TunnelState × TunnelAction → TunnelState × TunnelAction → Type 0
Says p q = p ≡ q

told_not : (a : TunnelAction) (s : TunnelState) → Says (s, a) (state.Closed, action.SendStopCcn) → a ≡ action.SendStopCcn
told_not a s h = ap (λ (p : TunnelState × TunnelAction). p.1) h

-- a closed tunnel isn't closed once more
pub closes_open : (s : TunnelState) (on : TunnelEvent) → row_of rows s on ≡ (state.Closed, action.SendStopCcn) → state_number s ≡ 4 → ⊥
closes_open state.Idle on h four = absurd (omega arith)
closes_open state.WaitCtlReply on h four = absurd (omega arith)
closes_open state.WaitCtlConn on h four = absurd (omega arith)
closes_open state.Established on h four = absurd (omega arith)
closes_open state.Closed event.LocalOpen h four = let is = told_not action.Nothing state.Closed h in let clash : ⊥ = cc in clash
closes_open state.Closed event.SccrqAcc h four = let is = told_not action.Nothing state.Closed h in let clash : ⊥ = cc in clash
closes_open state.Closed event.SccrqNotAcc h four = let is = told_not action.Nothing state.Closed h in let clash : ⊥ = cc in clash
closes_open state.Closed event.SccrpAcc h four = let is = told_not action.Nothing state.Closed h in let clash : ⊥ = cc in clash
closes_open state.Closed event.SccrpNotAcc h four = let is = told_not action.Nothing state.Closed h in let clash : ⊥ = cc in clash
closes_open state.Closed event.ScccnAcc h four = let is = told_not action.Nothing state.Closed h in let clash : ⊥ = cc in clash
closes_open state.Closed event.ScccnNotAcc h four = let is = told_not action.Nothing state.Closed h in let clash : ⊥ = cc in clash
closes_open state.Closed event.AdminClose h four = let is = told_not action.Nothing state.Closed h in let clash : ⊥ = cc in clash
closes_open state.Closed event.StopCcnCame h four = let is = told_not action.CleanUp state.Closed h in let clash : ⊥ = cc in clash

-- an SCCRP that is acceptable doesn't close a tunnel that waits for it
pub reply_connects : (s : TunnelState) → row_of rows s event.SccrpAcc ≡ (state.Closed, action.SendStopCcn) → state_number s ≡ 1 → ⊥
reply_connects state.Idle h one = absurd (omega arith)
reply_connects state.WaitCtlReply h one = let is = told_not action.SendScccn state.Established h in let clash : ⊥ = cc in clash
reply_connects state.WaitCtlConn h one = absurd (omega arith)
reply_connects state.Established h one = absurd (omega arith)
reply_connects state.Closed h one = absurd (omega arith)

-- of a call that waits for its tunnel the peer isn't told
pub waits_untold : (r : Role) (on : CallEvent) → is_told (call_row r WaitTunnel on).1 ≡ false
unfolding call_row
waits_untold Lac call_event.Ring = refl
waits_untold Lac call_event.TunnelOpen = refl
waits_untold Lac call_event.IcrqAcc = refl
waits_untold Lac call_event.IcrqNotAcc = refl
waits_untold Lac call_event.IcrpAcc = refl
waits_untold Lac call_event.IcrpNotAcc = refl
waits_untold Lac call_event.IccnAcc = refl
waits_untold Lac call_event.IccnNotAcc = refl
waits_untold Lac call_event.CdnCame = refl
waits_untold Lac call_event.Close = refl
waits_untold Lac call_event.LineDrop = refl
waits_untold Lns call_event.Ring = refl
waits_untold Lns call_event.TunnelOpen = refl
waits_untold Lns call_event.IcrqAcc = refl
waits_untold Lns call_event.IcrqNotAcc = refl
waits_untold Lns call_event.IcrpAcc = refl
waits_untold Lns call_event.IcrpNotAcc = refl
waits_untold Lns call_event.IccnAcc = refl
waits_untold Lns call_event.IccnNotAcc = refl
waits_untold Lns call_event.CdnCame = refl
waits_untold Lns call_event.Close = refl
waits_untold Lns call_event.LineDrop = refl

-- a call that a port rings for waits
pub rung_waits : (r : Role) (who : List ℕ) (moment : ℕ) → r ≡ Lac → (rung r who moment).state ≡ WaitTunnel
unfolding rung advanced call_row
rung_waits Lac who moment is = refl
rung_waits Lns who moment is = absurd cc
