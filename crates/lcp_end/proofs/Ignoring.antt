-- An answer to another request than the last one is ignored.
use Rattle.std.proofs.Common.{◌≡◌, ◌≢◌, ℕ, true, false, IsTrue, if◌then◌else◌, List, length, nat_lt, Option, None, Ok, refl}
use Rattle.std.proofs.lemmas.Bool.{ne_eqb}
use Rattle.std.specs.Result.{result_ok}
use Rattle.lcp_wire.specs.declared.packet.Lcp.{Lcp}
use Rattle.lcp_wire.specs.Reading.{packet_of}
use Rattle.lcp_end.specs.declared.state.EndState.{EndState}
use Rattle.lcp_end.specs.declared.hearing.Heard.{Heard}
use Rattle.lcp_end.specs.Hearing.{heard_as, answers_last, is_answer}
use Rattle.lcp_end.specs.Steps.{begun, after_packet, after_read, after_heard}
use Rattle.lcp_end.specs.Laws.{IgnoresOthers}

other_id : (k : EndState) (id : ℕ) (h : Option Heard) → id ≢ k.request → answers_last k id h ≡ None
unfolding answers_last
other_id k id h ne = rw (ne_eqb id k.request ne) refl

not_heard : (block : List ℕ) (k : EndState) (p : Lcp) → IsTrue (is_answer p.code) → p.id ≢ k.request → heard_as block k p ≡ None
unfolding heard_as
not_heard block k p answers ne = rw answers (other_id k p.id _ ne)

not_read : (bytes block : List ℕ) (moment : ℕ) (k : EndState) (p : Lcp) → packet_of bytes ≡ Ok p → heard_as block k p ≡ None →
    after_read block moment k (result_ok (packet_of bytes)) ≡ begun k
unfolding after_read after_heard
not_read bytes block moment k p read none = rw (read, none) refl

pub ignores : IgnoresOthers
unfolding after_packet
ignores bytes block moment k p read answers ne =
    elim (nat_lt 2048 (length bytes)) as (λ b. (if b then begun k else after_read block moment k (result_ok (packet_of bytes))) ≡ begun k) [
      | true ↦ refl
      | false ↦ not_read bytes block moment k p read (not_heard block k p answers ne)
    ]
