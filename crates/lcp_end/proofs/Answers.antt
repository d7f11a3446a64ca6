-- What a packet leaves as it was, and which packets answer it.
use Rattle.std.proofs.Common.{◌≡◌, ℕ, Bool, true, false, ◌==◌, ◌||◌, ◌⊎◌, inl, inr, if◌then◌else◌, List, Option, Some, None, refl}
use Rattle.lcp_wire.specs.declared.packet.Lcp.{Lcp}
use Rattle.lcp_wire.specs.declared.packet.LcpOption.{LcpOption}
use Rattle.lcp_end.specs.declared.table.LcpEvent.TheVariants.{Ruc}
use Rattle.lcp_end.specs.declared.options.Verdict.{Verdict}
use Rattle.lcp_end.specs.declared.options.Verdict.TheVariants.{Ack, Nak, RejectBad, RejectUnknown}
use Rattle.lcp_end.specs.declared.state.EndState.{EndState}
use Rattle.lcp_end.specs.declared.hearing.Heard.{Heard}
use Rattle.lcp_end.specs.Options.{has_kind, verdict_on, code_of}
use Rattle.lcp_end.specs.Hearing.{own_magic, heard_as, request_heard, answer_heard, answers_last, ack_heard, nak_heard, reject_heard, without_mru, is_answer}
use Rattle.lcp_end.specs.Laws.{is_begun}

-- a packet leaves the state to the automaton, and the counter as it was
pub record Alike (x k : EndState) : Type 0 where
  pub state : x.state ≡ k.state
  pub last : x.last_id ≡ k.last_id

-- a packet that this end begins answers only a code that isn't known
abbrev pub IsAnswer : Heard → Type 0
IsAnswer h = (is_begun h.answer.code ≡ false) ⊎ (h.event ≡ Ruc)

pub record KeepsOf (k : EndState) (h : Heard) : Type 0 where
  pub kept : Alike h.kept k
  pub answer : IsAnswer h

abbrev pub Keeps : EndState → Option Heard → Type 0
Keeps k None = Unit {0}
Keeps k (Some h) = KeepsOf k h

same : (k : EndState) → Alike k k
same k = record { state = refl; last = refl }

if_keeps : (b : Bool) (k : EndState) (x y : Option Heard) → Keeps k x → Keeps k y → Keeps k (if b then x else y)
if_keeps true k x y f g = f
if_keeps false k x y f g = g

if_alike : (b : Bool) (k x y : EndState) → Alike x k → Alike y k → Alike (if b then x else y) k
if_alike true k x y f g = f
if_alike false k x y f g = g

no_begun_code : (v : Verdict) → is_begun (code_of v) ≡ false
no_begun_code Ack = refl
no_begun_code Nak = refl
no_begun_code RejectBad = refl
no_begun_code RejectUnknown = refl

request_keeps : (block : List ℕ) (k : EndState) (id : ℕ) (o : Option (List LcpOption)) → Keeps k (request_heard block k id o)
unfolding request_heard
request_keeps block k id (Some options) =
    record { kept = same k; answer = inl (no_begun_code (verdict_on (own_magic k) k.naks options)) }
request_keeps block k id None = tt

ack_keeps : (k : EndState) (id : ℕ) (o : Option (List LcpOption)) → Keeps k (ack_heard k id o)
unfolding ack_heard
ack_keeps k id (Some options) = record { kept = same k; answer = inl refl }
ack_keeps k id None = tt

without_mru_alike : (options : List LcpOption) (k : EndState) → Alike (without_mru options k) k
without_mru_alike options k = record { state = refl; last = refl }

nak_keeps : (block : List ℕ) (k : EndState) (id : ℕ) (o : Option (List LcpOption)) → Keeps k (nak_heard block k id o)
unfolding nak_heard
nak_keeps block k id (Some options) =
    record {
      kept = if_alike (has_kind 5 options) k _ (without_mru options k) (record { state = refl; last = refl }) (without_mru_alike options k);
      answer = inl refl;
    }
nak_keeps block k id None = tt

reject_keeps : (k : EndState) (id : ℕ) (o : Option (List LcpOption)) → Keeps k (reject_heard k id o)
unfolding reject_heard
reject_keeps k id (Some options) =
    record {
      kept = if_alike (has_kind 5 options) k _ (without_mru options k) (record { state = refl; last = refl }) (without_mru_alike options k);
      answer = inl refl;
    }
reject_keeps k id None = tt

answer_keeps : (block : List ℕ) (k : EndState) (p : Lcp) → Keeps k (answer_heard block k p)
unfolding answer_heard
answer_keeps block k p =
    if_keeps (p.code == 2) k _ _ (ack_keeps k p.id _) (
    if_keeps (p.code == 3) k _ _ (nak_keeps block k p.id _) (
    if_keeps (p.code == 4) k _ _ (reject_keeps k p.id _) (record { kept = same k; answer = inl refl })
    )
    )

last_keeps : (k : EndState) (id : ℕ) (h : Option Heard) → Keeps k h → Keeps k (answers_last k id h)
unfolding answers_last
last_keeps k id h keeps = if_keeps (id == k.request) k h None keeps tt

pub heard_keeps : (block : List ℕ) (k : EndState) (p : Lcp) → Keeps k (heard_as block k p)
unfolding heard_as
heard_keeps block k p =
    if_keeps (is_answer p.code) k _ _ (last_keeps k p.id _ (answer_keeps block k p)) (
    if_keeps (p.code == 1) k _ _ (request_keeps block k p.id _) (
    if_keeps (p.code == 5) k _ _ (record { kept = same k; answer = inl refl }) (
    if_keeps (p.code == 7) k _ _ (record { kept = same k; answer = inl refl }) (
    if_keeps (p.code == 8) k _ _ (record { kept = same k; answer = inl refl }) (
    if_keeps (p.code == 9) k _ _ (record { kept = same k; answer = inl refl }) (
    if_keeps (p.code == 10 || p.code == 11) k None _ tt (record { kept = same k; answer = inr refl })
    )
    )
    )
    )
    )
    )
