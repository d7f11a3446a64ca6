-- The connection of a recovery tunnel: what stays as its channel goes on, and why it refuses.
use Rattle.std.proofs.Common.{◌≡◌, ◌⊎◌, inl, inr, ⊎_elim, ℕ, ◌^◌, ◌<◌, Bool, true, false, zero, suc, List, [], ◌∷◌, ◌++◌, refl, sym, subst, Option, Some, None, length, arith}
use Rattle.std.specs.Prelude.{drop}
use Rattle.std.specs.List.{AllByRecursion}
use Rattle.wire_base.specs.declared.cause.Cause.{Cause}
use Rattle.wire_base.specs.declared.cause.Cause.TheVariants as cause
use Rattle.wire_base.specs.declared.letter.Letter.{Letter}
use Rattle.l2tp_header.specs.declared.header.Header.{Header}
use Rattle.recv_window.specs.Window.{on_wire}
use Rattle.control_channel.specs.Channel.{Channel}
use Rattle.recovery_tunnel.specs.declared.progress.Progress.{Progress}
use Rattle.recovery_tunnel.specs.declared.progress.Progress.TheVariants as progress
use Rattle.recovery_tunnel.specs.Connections.{ControlConnection, refuses, told_by_refusal}
use Rattle.end_names.specs.declared.role.Role.{Role}
use Rattle.end_model.specs.declared.tunnel.Config.{Config}
use Rattle.end_model.specs.declared.tunnel.Call.{Call}
use Rattle.end_model.specs.declared.event.Event.{Event}
use Rattle.end_model.specs.Reading.{TunnelFault, tunnel_fault_in, CallFault, call_fault_in}
use Rattle.end_model.specs.Tunnels.{Turn, Recovering, ByAttempt, ByAnswer, connection_of, with_connection, is_finished, mode_of, is_current}
use Rattle.end_model.specs.Stopping.{clears}
use Rattle.end_model.specs.Recovering.{cause_by, cause_in}
use Rattle.end_model.specs.End.{End}
use Rattle.step_laws.specs.Causes.{Stands, IsRefusedOnLine}
use Rattle.step_laws.specs.Letters.{IsRecoveryLetter}
use Rattle.step_laws.specs.Moves.{IsForLine}
use Rattle.step_laws.proofs.Faults.{IsOfFault, of_tunnel, call_fault}
use Rattle.step_laws.proofs.Progressing.{IsLineCause, refused_line, refuses_is, told_refusal}
use Rattle.step_laws.proofs.Leaving.{IsLineKept}
use Rattle.step_laws.proofs.OnLine.{on_channel}

-- with another channel, closed or not, and with the other end's id
abbrev pub as_line : Channel → Bool → ℕ → Recovering → Recovering
as_line channel closed remote r = with_connection (record (connection_of r) { channel = channel; closed = closed; remote = remote }) r

-- of that the same is said
pub line_letter : (role : Role) (config : Config) (i : ℕ) (channel : Channel) (closed : Bool) (remote : ℕ) (r : Recovering) (l : Letter)
    → IsRecoveryLetter role config i r l → IsRecoveryLetter role config i (as_line channel closed remote r) l
line_letter role config i channel closed remote (ByAttempt c) l h = h
line_letter role config i channel closed remote (ByAnswer a) l h = h

pub line_current : (channel : Channel) (closed : Bool) (remote : ℕ) (r : Recovering)
    → is_current (mode_of (Some (as_line channel closed remote r))) ≡ is_current (mode_of (Some r))
line_current channel closed remote (ByAttempt c) = refl
line_current channel closed remote (ByAnswer a) = refl

pub line_channel : (channel : Channel) (closed : Bool) (remote : ℕ) (r : Recovering) → (connection_of (as_line channel closed remote r)).channel ≡ channel
line_channel channel closed remote (ByAttempt c) = refl
line_channel channel closed remote (ByAnswer a) = refl

-- a connection has the ids of a recovery tunnel
abbrev pub IsAlikeTo : Recovering → ControlConnection → Type 0
IsAlikeTo r c = (c.local ≡ (connection_of r).local) × (c.remote ≡ (connection_of r).remote)

pub alike_line : (channel other : Channel) (closed : Bool) (r : Recovering)
    → IsAlikeTo (as_line channel closed (connection_of r).remote r) (connection_of (on_channel other r))
alike_line channel other closed (ByAttempt c) = (refl, refl)
alike_line channel other closed (ByAnswer a) = (refl, refl)

pub one_line : (role : Role) (config : Config) (i : ℕ) (r : Recovering) → AllByRecursion (IsRecoveryLetter role config i r) (connection_of r).channel.outbox.letters
    → IsLineKept role config i (Some r)
one_line role config i r h q same =
    let is : r ≡ q = cc in subst (λ (x : Recovering). AllByRecursion (IsRecoveryLetter role config i x) (connection_of x).channel.outbox.letters) is h

pub channel_letter : (role : Role) (config : Config) (i : ℕ) (channel : Channel) (r : Recovering) (l : Letter) → IsRecoveryLetter role config i r l
    → IsRecoveryLetter role config i (on_channel channel r) l
channel_letter role config i channel (ByAttempt c) l h = h
channel_letter role config i channel (ByAnswer a) l h = h

pub alike_channel : (channel other : Channel) (r : Recovering) → IsAlikeTo (on_channel channel r) (connection_of (on_channel other r))
alike_channel channel other (ByAttempt c) = (refl, refl)
alike_channel channel other (ByAnswer a) = (refl, refl)

pub alike_after : (channel other : Channel) (r q : Recovering) → IsAlikeTo q (connection_of (on_channel other r)) → IsAlikeTo q (connection_of (on_channel channel r))
alike_after channel other (ByAttempt c) q h = h
alike_after channel other (ByAnswer a) q h = h

-- what comes for it comes for it still
pub for_line : (h : Header) (body : List ℕ) (channel : Channel) (closed : Bool) (r : Recovering) → IsForLine h body (connection_of r)
    → IsForLine h body (connection_of (as_line channel closed (connection_of r).remote r))
for_line h body channel closed (ByAttempt c) line = line
for_line h body channel closed (ByAnswer a) line = line

-- a recovery tunnel that reset its tunnel leaves it current
pub finished_current : (r : Recovering) → is_finished r ≡ true → is_current (mode_of (Some r)) ≡ true
finished_current r finished = rw finished refl

pub none_left : (xs : List Letter) → drop (length xs) xs ++ [] ≡ []
none_left [] = refl
none_left (x ∷ xs) = none_left xs

pub small_wire : (n : ℕ) → on_wire n < 2 ^ 64
small_wire n = omega arith

-- its cause stands
pub stands_on_line : (e : End) (moment : ℕ) (ev : Event) (x : Cause) → IsLineCause x → IsRefusedOnLine e ev x → Stands e moment ev x
stands_on_line e moment ev x is h = ⊎_elim
    (λ (a : x ≡ cause.Version). subst (Stands e moment ev) (sym a) (inr (subst (IsRefusedOnLine e ev) a h)))
    (λ rest. ⊎_elim
    (λ (a : x ≡ cause.Secret). subst (Stands e moment ev) (sym a) (inr (inr (inr (subst (IsRefusedOnLine e ev) a h)))))
    (λ rest. ⊎_elim
    (λ (a : x ≡ cause.State). subst (Stands e moment ev) (sym a) (inr (inr (inr (subst (IsRefusedOnLine e ev) a h)))))
    (λ rest. ⊎_elim
    (λ (a : x ≡ cause.Avp). subst (Stands e moment ev) (sym a) (inr (subst (IsRefusedOnLine e ev) a h)))
    (λ rest. ⊎_elim
    (λ (a : x ≡ cause.Value). subst (Stands e moment ev) (sym a) (inr (inr (inr (subst (IsRefusedOnLine e ev) a h)))))
    (λ (a : x ≡ cause.Mandatory). subst (Stands e moment ev) (sym a) (inr (inr (inr (subst (IsRefusedOnLine e ev) a h)))))
    rest) rest) rest) rest)
    is

-- a closed one passes over what it would refuse, and another one refuses it
pub closed_refusal : (x : Cause) (c : ControlConnection) → c.closed ≡ true → ◌≡◌ {A = Progress × ControlConnection} (told_by_refusal x c, refuses x c) (progress.Waiting, c)
unfolding refuses
closed_refusal x c closed = rw closed refl

pub both_same : (p q : Progress) (c d : ControlConnection) → p ≡ q → c ≡ d → ◌≡◌ {A = Progress × ControlConnection} (p, c) (q, d)
both_same p q c d first second = rw (first, second) refl

pub open_refusal : (x : Cause) (c : ControlConnection) → c.closed ≡ false → ◌≡◌ {A = Progress × ControlConnection} (told_by_refusal x c, refuses x c) (progress.Given x, refused_line x c)
open_refusal x c live = both_same _ _ _ _ (told_refusal x c.closed live) (refuses_is x c live)

-- the cause of a fault
pub fault_is : (body : List ℕ) (g : Option TunnelFault) (f : Option CallFault) (x : Cause) → tunnel_fault_in body ≡ g → call_fault_in body ≡ f → cause_by g f ≡ Some x
    → (x ≡ cause.Avp) ⊎ IsOfFault x
fault_is body (Some g) f x tunnel call h = let same : g.cause ≡ x = cc in subst (λ y. (y ≡ cause.Avp) ⊎ IsOfFault y) same (of_tunnel body g tunnel).cause
fault_is body None (Some f) x tunnel call h = let same : f.cause ≡ x = cc in subst (λ y. (y ≡ cause.Avp) ⊎ IsOfFault y) same (inr (call_fault body f call).cause)
fault_is body None None x tunnel call h = absurd cc

pub fault_cause : (body : List ℕ) (x : Cause) → cause_in body ≡ Some x → IsLineCause x
fault_cause body x h = ⊎_elim
    (λ avp. inr (inr (inr (inl avp))))
    (λ other. ⊎_elim (λ value. inr (inr (inr (inr (inl value))))) (λ mandatory. inr (inr (inr (inr (inr mandatory))))) other)
    (fault_is body (tunnel_fault_in body) (call_fault_in body) x refl refl h)

pub is_cleared : (calls : List (ℕ × Call)) (u : Turn) → (clears calls u).cleared ≡ true
unfolding clears
is_cleared calls u = refl

-- with the channel that it has
pub own_channel : (r : Recovering) → on_channel (connection_of r).channel r ≡ r
own_channel (ByAttempt c) = refl
own_channel (ByAnswer a) = refl

pub own_alike : (channel : Channel) (r : Recovering) → IsAlikeTo (on_channel channel r) (connection_of r)
own_alike channel (ByAttempt c) = (refl, refl)
own_alike channel (ByAnswer a) = (refl, refl)

-- an attempt is named by its id
abbrev pub IsNamedBy : Recovering → Header → Type 0
IsNamedBy (ByAttempt c) h = h.tunnel ≡ c.local
IsNamedBy (ByAnswer a) h = Unit {0}

-- letters that are acknowledged go
pub all_dropped : {X : Type 0} (P : X → Type 0) (n : ℕ) (xs : List X) → AllByRecursion P xs → AllByRecursion P (drop n xs)
all_dropped P zero xs h = h
all_dropped P (suc n) [] h = tt
all_dropped P (suc n) (x ∷ xs) h = all_dropped P n xs h.1
