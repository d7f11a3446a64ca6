-- Each call tells to reset the tunnel exactly where it counts as reset then and didn't before, and refuses exactly where it is closed then and
-- wasn't before.
use Rattle.std.proofs.Common.{◌≡◌, ℕ, ◌+◌, Bool, true, false, List, [], ◌∷◌, Option, Some, None, refl, subst, ap, arith}
use Rattle.std.specs.Prelude.{◌≤◌, ◌&&◌, not, if◌then◌else◌, is_none, is_some}
use Rattle.wire_base.specs.declared.cause.Cause.{Cause}
use Rattle.wire_base.specs.declared.cause.Cause.TheVariants as cause
use Rattle.control_message.specs.declared.message.Message.{Message}
use Rattle.control_message.specs.declared.message.Message.TheVariants.{Sccrq, Sccrp, Scccn, StopCcn, Hello, Ocrq, Ocrp, Occn, Icrq, Icrp, Iccn, Cdn, Wen, Sli, Fsq, Fsr}
use Rattle.control_message.specs.declared.message.Opening.{Opening}
use Rattle.control_message.specs.declared.message.Suggested.{Suggested}
use Rattle.recovery_tunnel.specs.declared.progress.Progress.{Progress}
use Rattle.recovery_tunnel.specs.declared.progress.Progress.TheVariants.{Waiting, Given, Cleared}
use Rattle.recovery_tunnel.specs.Secrets.{is_wrong}
use Rattle.recovery_tunnel.specs.Connections.{ControlConnection, is_waiting, gives, stop_of, refuses, told_by_refusal, one_where, is_lost, told_by_time}
use Rattle.recovery_tunnel.specs.Attempts.{new_attempt, against, told_by_reply, after_reply, told_to_attempt, attempt_after}
use Rattle.recovery_tunnel.specs.Answers.{Answering, new_answer, told_by_confirmation, after_confirmation, told_to_answer, answer_after}
use Rattle.recovery_tunnel.specs.History.{Call, Receives, Takes, Pumps, Ticks, Hears, Faults, Waits, attempt_after_call, attempt_tells, answer_after_call, answer_tells, is_reset, is_given, told_by_attempt, told_by_answer, attempt_run, answer_run, IsOnce, TellsOnce, AttemptTellsOnce, AnswerTellsOnce}

-- a call that tells this makes it count as reset where it tells so, and as closed where it refuses
abbrev Counts : ControlConnection → Progress → ControlConnection → Type 0
Counts c p d =
    (one_where (is_some c.reset) + one_where (is_reset p) ≡ one_where (is_some d.reset))
    × (one_where c.closed + one_where (is_given p) ≡ one_where d.closed)

same : (n : ℕ) → n + 0 ≡ n
same n = omega arith

still : (c : ControlConnection) → Counts c Waiting c
still c = (same (one_where (is_some c.reset)), same (one_where c.closed))

-- ---- refusals

refusal : (x : Cause) (c : ControlConnection) → Counts c (told_by_refusal x c) (refuses x c)
unfolding refuses
refusal x c = by c.closed refl
  where
    by : (b : Bool) → c.closed ≡ b → Counts c (if b then Waiting else Given x) (if b then c else record (gives (stop_of c.local x) c) { closed = true })
    by true h = still c
    by false h = (same (one_where (is_some c.reset)), ap (λ b. one_where b + 1) h)

-- ---- the message that is waited for

not_reset : (r : Option ℕ) (b : Bool) → (is_none r && not b) ≡ true → one_where (is_some r) ≡ 0
not_reset None b h = refl
not_reset (Some x) b h = grind arith

not_closed : (r : Option ℕ) (b : Bool) → (is_none r && not b) ≡ true → b ≡ false
not_closed None true h = grind arith
not_closed None false h = refl
not_closed (Some x) b h = grind arith

told_open : (x : Cause) (c : ControlConnection) → is_waiting c ≡ true → told_by_refusal x c ≡ Given x
told_open x c h = ap (λ b. if b then Waiting else Given x) (not_closed c.reset c.closed h)

first_refusal : (x : Cause) (c : ControlConnection) → is_waiting c ≡ true → Counts c (Given x) (refuses x c)
first_refusal x c h = subst (λ p. Counts c p (refuses x c)) (told_open x c h) (refusal x c)

reply : (secret : Option (List ℕ)) (moment : ℕ) (o : Opening) (c : ControlConnection) (r : Option Cause) → is_waiting c ≡ true
    → Counts c (told_by_reply r o) (after_reply r secret moment o c)
reply secret moment o c None h = (ap (λ n. n + 1) (not_reset c.reset c.closed h), same (one_where c.closed))
reply secret moment o c (Some x) h = first_refusal x c h

sccrp : (secret : Option (List ℕ)) (moment : ℕ) (o : Opening) (c : ControlConnection) (w : Bool) → is_waiting c ≡ w
    → Counts c (if w then told_by_reply (against secret c.challenge o) o else told_by_refusal cause.State c)
    (if w then after_reply (against secret c.challenge o) secret moment o c else refuses cause.State c)
sccrp secret moment o c true h = reply secret moment o c (against secret c.challenge o) h
sccrp secret moment o c false h = refusal cause.State c

confirmation : (s : Suggested) (moment : ℕ) (c : ControlConnection) (wrong : Bool) → is_waiting c ≡ true
    → Counts c (told_by_confirmation wrong s) (after_confirmation wrong moment c)
confirmation s moment c true h = first_refusal cause.Secret c h
confirmation s moment c false h = (ap (λ n. n + 1) (not_reset c.reset c.closed h), same (one_where c.closed))

scccn : (secret given : Option (List ℕ)) (moment : ℕ) (s : Suggested) (c : ControlConnection) (w : Bool) → is_waiting c ≡ w
    → Counts c (if w then told_by_confirmation (is_wrong 3 secret c.challenge given) s else told_by_refusal cause.State c)
    (if w then after_confirmation (is_wrong 3 secret c.challenge given) moment c else refuses cause.State c)
scccn secret given moment s c true h = confirmation s moment c (is_wrong 3 secret c.challenge given) h
scccn secret given moment s c false h = refusal cause.State c

-- ---- messages

attempt_hears : (secret : Option (List ℕ)) (moment : ℕ) (m : Message) (c : ControlConnection)
    → Counts c (told_to_attempt secret m c) (attempt_after secret moment m c)
unfolding told_to_attempt attempt_after
attempt_hears secret moment (Sccrp o) c = sccrp secret moment o c (is_waiting c) refl
attempt_hears secret moment (Sccrq o) c = refusal cause.State c
attempt_hears secret moment (Scccn response) c = refusal cause.State c
attempt_hears secret moment (StopCcn tunnel code error) c = still c
attempt_hears secret moment Hello c = still c
attempt_hears secret moment (Ocrq session) c = still c
attempt_hears secret moment Ocrp c = still c
attempt_hears secret moment Occn c = still c
attempt_hears secret moment (Icrq session serial calling) c = still c
attempt_hears secret moment (Icrp session) c = still c
attempt_hears secret moment (Iccn speed framing sequenced) c = still c
attempt_hears secret moment (Cdn session code error) c = still c
attempt_hears secret moment Wen c = still c
attempt_hears secret moment Sli c = still c
attempt_hears secret moment (Fsq sessions) c = still c
attempt_hears secret moment (Fsr sessions) c = still c

answer_hears : (secret : Option (List ℕ)) (moment : ℕ) (m : Message) (a : Answering)
    → Counts a.connection (told_to_answer secret m a) (answer_after secret moment m a).connection
unfolding told_to_answer answer_after
answer_hears secret moment (Scccn response) a = scccn secret response moment a.suggested a.connection (is_waiting a.connection) refl
answer_hears secret moment (Sccrq o) a = refusal cause.State a.connection
answer_hears secret moment (Sccrp o) a = refusal cause.State a.connection
answer_hears secret moment (StopCcn tunnel code error) a = still a.connection
answer_hears secret moment Hello a = still a.connection
answer_hears secret moment (Ocrq session) a = still a.connection
answer_hears secret moment Ocrp a = still a.connection
answer_hears secret moment Occn a = still a.connection
answer_hears secret moment (Icrq session serial calling) a = still a.connection
answer_hears secret moment (Icrp session) a = still a.connection
answer_hears secret moment (Iccn speed framing sequenced) a = still a.connection
answer_hears secret moment (Cdn session code error) a = still a.connection
answer_hears secret moment Wen a = still a.connection
answer_hears secret moment Sli a = still a.connection
answer_hears secret moment (Fsq sessions) a = still a.connection
answer_hears secret moment (Fsr sessions) a = still a.connection

-- ---- calls

by_time : (c : ControlConnection) (b : Bool) → Counts c (if b then Cleared else Waiting) c
by_time c true = still c
by_time c false = still c

time : (moment : ℕ) (c : ControlConnection) → Counts c (told_by_time moment c) c
time moment c = by_time c (is_lost moment c)

attempt_step : (call : Call) (c : ControlConnection) → Counts c (attempt_tells call c) (attempt_after_call call c)
attempt_step (Hears secret m moment) c = attempt_hears secret moment m c
attempt_step (Faults x) c = refusal x c
attempt_step (Waits moment) c = time moment c
attempt_step (Receives nr moment) c = still c
attempt_step Takes c = still c
attempt_step (Pumps moment) c = still c
attempt_step (Ticks moment) c = still c

answer_step : (call : Call) (a : Answering) → Counts a.connection (answer_tells call a) (answer_after_call call a).connection
answer_step (Hears secret m moment) a = answer_hears secret moment m a
answer_step (Faults x) a = refusal x a.connection
answer_step (Waits moment) a = time moment a.connection
answer_step (Receives nr moment) a = still a.connection
answer_step Takes a = still a.connection
answer_step (Pumps moment) a = still a.connection
answer_step (Ticks moment) a = still a.connection

joined : (a b c d e : ℕ) → a + b ≡ c → c + d ≡ e → a + (b + d) ≡ e
joined a b c d e g h = omega (arith, g, h)

-- how often calls tell both, from a connection to one
abbrev CountsAll : ControlConnection → ℕ → ℕ → ControlConnection → Type 0
CountsAll c resets refusals d = (one_where (is_some c.reset) + resets ≡ one_where (is_some d.reset)) × (one_where c.closed + refusals ≡ one_where d.closed)

joined_all : (c d e : ControlConnection) (p : Progress) (resets refusals : ℕ) → Counts c p d → CountsAll d resets refusals e
    → CountsAll c (one_where (is_reset p) + resets) (one_where (is_given p) + refusals) e
joined_all c d e p resets refusals g h = (
  joined (one_where (is_some c.reset)) (one_where (is_reset p)) (one_where (is_some d.reset)) resets (one_where (is_some e.reset)) g.0 h.0,
  joined (one_where c.closed) (one_where (is_given p)) (one_where d.closed) refusals (one_where e.closed) g.1 h.1,
)

attempt_all : (calls : List Call) (c : ControlConnection) → CountsAll c (told_by_attempt is_reset calls c) (told_by_attempt is_given calls c) (attempt_run calls c)
attempt_all [] c = still c
attempt_all (call ∷ calls) c =
    let d = attempt_after_call call c in
    joined_all c d (attempt_run calls d) (attempt_tells call c) (told_by_attempt is_reset calls d) (told_by_attempt is_given calls d)
    (attempt_step call c) (attempt_all calls d)

answer_all : (calls : List Call) (a : Answering) → CountsAll a.connection (told_by_answer is_reset calls a) (told_by_answer is_given calls a) (answer_run calls a).connection
answer_all [] a = still a.connection
answer_all (call ∷ calls) a =
    let b = answer_after_call call a in
    joined_all a.connection b.connection (answer_run calls b).connection (answer_tells call a) (told_by_answer is_reset calls b) (told_by_answer is_given calls b)
    (answer_step call a) (answer_all calls b)

-- ----

one_at_most : (b : Bool) → one_where b ≤ 1
one_at_most true = omega arith
one_at_most false = omega arith

once : (n : ℕ) (b : Bool) → 0 + n ≡ one_where b → IsOnce n b
once n b h =
    let is : n ≡ one_where b = omega (arith, h) in
    record { few = rw is (one_at_most b); counted = is }

both : (resets refusals : ℕ) (c : ControlConnection) → (0 + resets ≡ one_where (is_some c.reset)) × (0 + refusals ≡ one_where c.closed) → TellsOnce resets refusals c
both resets refusals c h = record { reset = once resets (is_some c.reset) h.0; closed = once refusals c.closed h.1 }

pub attempt_once : AttemptTellsOnce
unfolding new_attempt
attempt_once local main draw o moment calls =
    let c = new_attempt local main draw o moment in
    both (told_by_attempt is_reset calls c) (told_by_attempt is_given calls c) (attempt_run calls c) (attempt_all calls c)

pub answer_once : AnswerTellsOnce
unfolding new_answer
answer_once local remote s o window draw moment calls =
    let a = new_answer local remote s o window draw moment in
    both (told_by_answer is_reset calls a) (told_by_answer is_given calls a) (answer_run calls a).connection (answer_all calls a)
