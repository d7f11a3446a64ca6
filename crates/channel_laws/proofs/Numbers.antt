-- What numbers of 16 bits tell of numbers without an end.
use Rattle.std.proofs.Common.{◌≡◌, ⊎_elim, ℕ, ◌+◌, ◌-◌, ◌%◌, ◌^◌, ◌<◌, ◌≤◌, cond, sym, ◌∙◌, arith}
use Rattle.std.proofs.lemmas.Bool.{cases_lt}
use Rattle.std.proofs.lemmas.Bool.Decides.{nat_tests}
use Rattle.std.specs.Prelude.{nat_le}
use Rattle.send_window.specs.Kept.{Window}
use Rattle.send_window.specs.Window.{distance, count_acked}
use Rattle.recv_window.specs.declared.Class.TheVariants.{Next}
use Rattle.recv_window.specs.Window.{Inbox, on_wire, class_of, true_class, ClassIsTrue}
use Rattle.connection_laws.specs.Channels.{true_count}

-- ---- Ns

-- the class of a number without an end is Next for the one that is expected alone
next_truly : (n : ℕ) (i : Inbox) → true_class n i ≡ Next → n ≡ i.taken
next_truly n i h = grind (arith, nat_tests)

-- so is that of the number on the wire, as long as the two are near
pub next_is_expected : ClassIsTrue → (n : ℕ) (i : Inbox) → n ≤ i.taken + 32767 → i.taken ≤ n + 32768 → class_of (on_wire n) i ≡ Next → n ≡ i.taken
next_is_expected classes n i above below next = next_truly n i (sym (classes n i (above, below)) ∙ next)

-- ---- Nr

-- its distance on the wire, where it is past the first letter that isn't acknowledged
ahead_by : (acked nr : ℕ) → acked ≤ nr → nr ≤ acked + 16384 → distance (acked % 2 ^ 16) (on_wire nr) ≡ nr - acked
ahead_by acked nr le few = omega arith

-- and where it is before
behind_by : (acked nr : ℕ) → nr < acked → acked ≤ nr + 32767 → 8192 < distance (acked % 2 ^ 16) (on_wire nr)
behind_by acked nr lt near = omega arith

-- a distance, where so many are on the wire
counted_ahead : (w : Window) (nr d : ℕ) → w.acked ≤ nr → d ≡ nr - w.acked → cond (nat_le d w.outstanding) d 0 ≡ true_count w nr
counted_ahead w nr d le e = grind (arith, nat_tests)

counted_behind : (w : Window) (nr d : ℕ) → nr < w.acked → w.outstanding < d → cond (nat_le d w.outstanding) d 0 ≡ true_count w nr
counted_behind w nr d lt far = grind (arith, nat_tests)

-- as many letters as the number without an end acknowledges
pub count_is_true : (w : Window) (nr : ℕ) → w.acked ≤ nr + 32767 → nr ≤ w.acked + 16384 → w.outstanding ≤ 8192
    → count_acked w (on_wire nr) ≡ true_count w nr
count_is_true w nr near few out = ⊎_elim
    (λ (lt : nr < w.acked). counted_behind w nr _ lt (let far = behind_by w.acked nr lt near in omega arith))
    (λ (le : w.acked ≤ nr). counted_ahead w nr _ le (ahead_by w.acked nr le few))
    (cases_lt nr w.acked)
