-- The count of faults, and the stop.
use Rattle.std.proofs.Common.{◌≡◌, ℕ, ◌+◌, ◌-◌, ◌<◌, ◌==◌, min, true, nat_le, Option, Some, None, Result, Ok, Err, subst, ◌∙◌, arith}
use Rattle.std.proofs.lemmas.Bool.Decides.{nat_tests}
use Rattle.wire_base.specs.Causes.{Rose}
use Rattle.checkpoint_journal.specs.State.{State}
use Rattle.step_hub.specs.declared.stop.Stop.{Stop}
use Rattle.step_hub.specs.declared.stop.Stop.TheVariants as stop
use Rattle.step_hub.specs.declared.stop.StepError.{StepError}
use Rattle.step_hub.specs.declared.stop.StepError.TheVariants as error
use Rattle.step_hub.specs.Hubs.{Settles}
use Rattle.shared_store.specs.Stops.{fits_journal, fits_count, Tells}

same_count : (begun now : ℕ) → (now == begun) ≡ true → now ≡ begun
same_count begun now h = grind (arith, nat_tests)

count_is : (begun now : ℕ) → now ≡ begun → (now == begun) ≡ true
count_is begun now h = grind (arith, nat_tests)

rose_is : (begun now : ℕ) → Rose begun now → nat_le (min (begun + 1) 18446744073709551615) now ≡ true
rose_is begun now h = grind (arith, nat_tests)

is_rise : (begun now : ℕ) → nat_le (min (begun + 1) 18446744073709551615) now ≡ true → Rose begun now
is_rise begun now h = grind (arith, nat_tests)

-- as long as there is no stop, the disk has counted none
pub none_counted : (begun now : ℕ) (s : Option Stop) → s ≡ None → fits_count begun now s ≡ true → now ≡ begun
none_counted begun now s none fits = same_count begun now (subst (λ (o : Option Stop). fits_count begun now o ≡ true) none fits)

pub begun_fits : (begun now : ℕ) (s : Option Stop) → s ≡ None → now ≡ begun → fits_count begun now s ≡ true
begun_fits begun now s none same = rw none (count_is begun now same)

-- a turn is settled, or refused, of what had no stop
pub settled_fits : {T : Type 0} (r : Result T StepError) (begun count before after : ℕ) (s : Option Stop) (faults now : ℕ) → faults ≡ begun
    → Settles r count before after s faults now → fits_count begun now s ≡ true
settled_fits (Ok given) begun count before after s faults now first h = begun_fits begun now s h.4 (h.5 ∙ first)
settled_fits (Err error.StoreFault) begun count before after s faults now first h =
    rw h.0 (rose_is begun now (subst (λ (n : ℕ). Rose n now) first h.1))
settled_fits (Err (error.StoreFull records)) begun count before after s faults now first h = rw h.4 (count_is begun now (h.5 ∙ first))
settled_fits (Err error.Halted) begun count before after s faults now first h = absurd h
settled_fits (Err error.NoMemory) begun count before after s faults now first h = begun_fits begun now s h.1 (h.2 ∙ first)

-- so it is with the count from before
pub count_settles : {T : Type 0} (r : Result T StepError) (begun count before after : ℕ) (s old : Option Stop) (faults now : ℕ)
    → Settles r count before after s faults now → old ≡ None → fits_count begun faults old ≡ true → fits_count begun now s ≡ true
count_settles r begun count before after s old faults now h none fits =
    settled_fits r begun count before after s faults now (none_counted begun faults old none fits) h

over : (records wanted : ℕ) (j : State) → fits_journal (Some (stop.Full records wanted)) j ≡ true → 1048576 - 16384 < records
over records wanted j h = grind (arith, nat_tests)

-- what the type of a hub keeps tells of a stop
pub stop_tells : (s : Option Stop) (begun now : ℕ) (j : State) → fits_count begun now s ≡ true → fits_journal s j ≡ true → Tells s begun now
stop_tells None begun now j count fits = same_count begun now count
stop_tells (Some stop.Fault) begun now j count fits = is_rise begun now count
stop_tells (Some (stop.Full records wanted)) begun now j count fits = (over records wanted j fits, same_count begun now count)
