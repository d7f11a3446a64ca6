-- The rows that a call went through lead from the state in which it began to its state.
use Rattle.std.specs.Prelude.{◌≡◌, ℕ, Bool, true, ◌==◌, ◌&&◌, ◌||◌, ◌++◌, List, [], ◌∷◌, Option, Some, None}
use Rattle.std.specs.Prelude.{IfSome}
use Rattle.std.proofs.Common.{refl, ap, sym, subst, ◌∙◌, ⊎_elim}
use Rattle.id_table.specs.Ids.{at, put, without, at-none}
use Rattle.std.proofs.lemmas.Option.{none-some}
use Rattle.id_table.specs.Order.{Ascends, found_put, found_without}
use Rattle.std.proofs.lemmas.Bool.{and_from, and_parts}
use Rattle.std.proofs.Math.Bool.{or-true}
use Rattle.call_fsm.specs.declared.table.CallState.{CallState}
use Rattle.call_fsm.specs.declared.table.CallState.TheVariants as call
use Rattle.call_fsm.specs.declared.table.CallEvent.{CallEvent}
use Rattle.call_fsm.specs.declared.table.CallEvent.TheVariants as event
use Rattle.call_fsm.specs.Rows.{lac_rows, lns_rows, row_of, state_number}
use Rattle.end_names.specs.declared.role.Role.{Role}
use Rattle.end_names.specs.declared.role.Role.TheVariants.{Lac, Lns}
use Rattle.end_model.specs.declared.tunnel.Call.{Call}
use Rattle.end_model.specs.declared.tunnel.CallStep.{CallStep}
use Rattle.end_model.specs.Calls.{call_row, advanced, rung, asked_for}
use Rattle.end_model.specs.Links.{with_link}
use Rattle.call_link.specs.Link.{Link}

abbrev pub same : CallState → CallState → Bool
same s n = state_number s == state_number n

-- a row of one of the two tables
abbrev pub is_row : CallStep → Bool
is_row x = same (row_of lac_rows x.state x.event).0 x.next || same (row_of lns_rows x.state x.event).0 x.next

-- each is a row, they follow on each other, and lead from a state to another
abbrev pub leads : CallState → List CallStep → CallState → Bool
leads s [] n = same s n
leads s (x ∷ xs) n = same s x.state && (is_row x && leads x.next xs n)

abbrev pub began_by : List CallStep → CallState → CallState
began_by [] s = s
began_by (x ∷ xs) s = x.state

-- the state in which a call began: idle, or established where it was kept over a start
abbrev pub began : Call → CallState
began c = began_by c.steps c.state

abbrev pub is_beginning : CallState → Bool
is_beginning s = state_number s == 0 || state_number s == 4

unfoldable pub replays : Call → Bool
replays c = is_beginning (began c) && leads (began c) c.steps c.state

unfoldable pub AllReplay : List (ℕ × Call) → Type 0
AllReplay calls = (s : ℕ) (c : Call) → at calls s ≡ Some c → replays c ≡ true

-- ---- a call goes on

same_self : (s : CallState) → same s s ≡ true
same_self call.Idle = refl
same_self call.WaitTunnel = refl
same_self call.WaitReply = refl
same_self call.WaitConnect = refl
same_self call.Established = refl

row_ok : (r : Role) (s : CallState) (e : CallEvent) → is_row (record { state = s; event = e; next = (call_row r s e).0 }) ≡ true
unfolding call_row
row_ok Lac s e = ap (λ b. b || same (row_of lns_rows s e).0 (row_of lac_rows s e).0) (same_self (row_of lac_rows s e).0)
row_ok Lns s e =
    ap (λ b. same (row_of lac_rows s e).0 (row_of lns_rows s e).0 || b) (same_self (row_of lns_rows s e).0)
    ∙ or-true (same (row_of lac_rows s e).0 (row_of lns_rows s e).0)

leads_on : (s : CallState) (xs : List CallStep) (x : CallStep) → leads s xs x.state ≡ true → is_row x ≡ true → leads s (xs ++ x ∷ []) x.next ≡ true
leads_on s [] x h r = and_from _ _ h (and_from _ _ r (same_self x.next))
leads_on s (y ∷ ys) x h r =
    let p = and_parts _ _ h in
    let q = and_parts _ _ p.1 in
    and_from _ _ p.0 (and_from _ _ q.0 (leads_on y.next ys x q.1 r))

abbrev replayed : List CallStep → CallState → Bool
replayed xs n = is_beginning (began_by xs n) && leads (began_by xs n) xs n

goes_on : (xs : List CallStep) (x : CallStep) → replayed xs x.state ≡ true → is_row x ≡ true → replayed (xs ++ x ∷ []) x.next ≡ true
goes_on [] x h r = let p = and_parts _ _ h in and_from _ _ p.0 (and_from _ _ (same_self x.state) (and_from _ _ r (same_self x.next)))
goes_on (y ∷ ys) x h r = let p = and_parts _ _ h in and_from _ _ p.0 (leads_on y.state (y ∷ ys) x p.1 r)

-- a call that replays does so after an event of its table
pub replays_advanced : (r : Role) (e : CallEvent) (moment : ℕ) (c : Call) → replays c ≡ true → replays (advanced r e moment c) ≡ true
unfolding replays advanced
replays_advanced r e moment c h = goes_on c.steps (record { state = c.state; event = e; next = (call_row r c.state e).0 }) h (row_ok r c.state e)

pub replays_known : (c : Call) (remote : ℕ) → replays c ≡ true → replays (record c { remote = remote }) ≡ true
unfolding replays
replays_known c remote h = h

pub replays_linked : (l : Link) (c : Call) → replays c ≡ true → replays (with_link l c) ≡ true
unfolding replays
replays_linked l c h = h

pub replays_rung : (r : Role) (who : List ℕ) (moment : ℕ) → replays (rung r who moment) ≡ true
unfolding replays rung advanced
replays_rung r who moment = goes_on [] (record { state = call.Idle; event = event.Ring; next = (call_row r call.Idle event.Ring).0 }) refl (row_ok r call.Idle event.Ring)

pub replays_asked_for : (r : Role) (remote : ℕ) (moment : ℕ) → replays (asked_for r remote moment) ≡ true
unfolding replays asked_for advanced
replays_asked_for r remote moment = goes_on [] (record { state = call.Idle; event = event.IcrqAcc; next = (call_row r call.Idle event.IcrqAcc).0 }) refl (row_ok r call.Idle event.IcrqAcc)

-- ---- the calls of a tunnel

pub all_replay_none : AllReplay []
unfolding AllReplay
all_replay_none s c h = absurd (none-some c (sym (at-none s) ∙ h))

pub all_replay_put : (calls : List (ℕ × Call)) (s : ℕ) (c : Call) → AllReplay calls → replays c ≡ true → AllReplay (put calls s c)
unfolding AllReplay
all_replay_put calls s c all mine q x h =
    ⊎_elim (λ (k : (q ≡ s) × (c ≡ x)). subst (λ (y : Call). replays y ≡ true) k.1 mine)
    (λ (k : (q ≡ s → ⊥) × (at calls q ≡ Some x)). all q x k.1) (found_put calls s c q x h)

pub all_replay_without : (calls : List (ℕ × Call)) (s : ℕ) → Ascends calls → AllReplay calls → AllReplay (without calls s)
unfolding AllReplay
all_replay_without calls s up all q x h = all q x (found_without calls s q x up h).1

pub found_replays : (calls : List (ℕ × Call)) (s : ℕ) (o : Option Call) → AllReplay calls → o ≡ at calls s → IfSome o (λ c. replays c ≡ true)
unfolding AllReplay
found_replays calls s None all h = tt
found_replays calls s (Some c) all h = all s c (sym h)

pub replays_moved : (r : Role) (e : CallEvent) (moment remote : ℕ) (c d : Call) → replays c ≡ true → d ≡ advanced r e moment (record c { remote = remote }) → replays d ≡ true
replays_moved r e moment remote c d h is = subst (λ (x : Call). replays x ≡ true) (sym is) (replays_advanced r e moment (record c { remote = remote }) (replays_known c remote h))
