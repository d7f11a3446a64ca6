use Rattle.std.proofs.Common.{rules, ◌≡◌, ◌≤◌, ◌∙◌, ap, sym, subst, length, false, List, arith}
use Rattle.std.specs.Prelude.{⊤}
use Rattle.std.proofs.lemmas.Result.{err_from_is_err_and}
use Rattle.session_book.specs.declared.record.Record.{Record}
use Rattle.step_records.specs.Leaving.{leaves}
use Rattle.step_records.proofs.Unmarked.{leaves_unmarked}
use Rattle.shared_store.specs.Shared.{Shared}
use Rattle.shared_store.proofs.Settling.{is_running, settled_made, settled_refused, fits_refused, unmade_on_disk}
use Rattle.shared_store.proofs.shared.SharedStore.settle.Goals as goal

pub returns-in_err-records-clause-disk : goal.returns-in_err-records-clause-disk
returns-in_err-records-clause-disk g c =
    let p = err_from_is_err_and c.from_residual.result c.from_residual.ensures.1 in
    rw (p.1, p.2) (unmade_on_disk g.D.Disk.holds _ c.args.self.now.store c.args.disk.now _)

pub commit_step-requires-clause-unmarked : goal.commit_step-requires-clause-unmarked
commit_step-requires-clause-unmarked g c = grind (arith, leaves_unmarked)

pub returns-in-Ok-clause-settled : goal.returns-in-Ok-clause-settled
returns-in-Ok-clause-settled g c =
    let few : length c.as_slice.result.now ≤ 16384 = subst (λ (l : List Record). length l ≤ 16384) (sym c.as_slice.ensures) c.in_ok-records.ensures.few in
    settled_made (leaves c.args.self.now.spaces c.args.env.ids c.args.env.moves) c.args.self.now.store _ _ _ _ _ c.self.inside.stop
    c.in-Ok.ensures.cause c.in-Ok.ensures.state (search rules) (search rules) few (search rules)

pub invariant_of-self-in-Err : goal.invariant_of-self-in-Err
invariant_of-self-in-Err g c =
    let few : length c.as_slice.result.now ≤ 16384 = subst (λ (l : List Record). length l ≤ 16384) (sym c.as_slice.ensures) c.in_ok-records.ensures.few in
    let wants : c.len-wanted.result ≡ length c.as_slice.result.now = c.len-wanted.ensures ∙ sym (ap (λ (l : List Record). length l) c.as_slice.ensures) in
    let none = ap (λ (s : Shared). s.stop) c.self.view_is ∙ c.requires.going in
    let inside = is_running c.self.inside.stop c.self.inside.store.journal c.self.invariant.stopped none in
    let running : c.args.self.now.store.journal.halted ≡ false = sym (ap (λ (s : Shared). s.store.journal.halted) c.self.view_is) ∙ inside in
    record {
      tunnels = c.self.invariant.tunnels;
      sessions = c.self.invariant.sessions;
      stopped = fits_refused (leaves c.args.self.now.spaces c.args.env.ids c.args.env.moves) c.args.self.now.store _ c.self.inside.store _ _ _ c.in-Err.stop c.len-wanted.result _ _
          c.in-Err.ensures.cause c.in-Err.ensures.refused running (ap (λ (s : Shared). s.store) c.self.view_is) wants few c.stop_by-self-inside.result c.stop_by-self-inside.ensures;
    }

pub returns-clause-settled : goal.returns-clause-settled
returns-clause-settled g c =
    let few : length c.as_slice.result.now ≤ 16384 = subst (λ (l : List Record). length l ≤ 16384) (sym c.as_slice.ensures) c.in_ok-records.ensures.few in
    let wants : c.len-wanted.result ≡ length c.as_slice.result.now = c.len-wanted.ensures ∙ sym (ap (λ (l : List Record). length l) c.as_slice.ensures) in
    let none = ap (λ (s : Shared). s.stop) c.self.view_is ∙ c.requires.going in
    let inside = is_running c.self.inside.stop c.self.inside.store.journal c.self.invariant.stopped none in
    let running : c.args.self.now.store.journal.halted ≡ false = sym (ap (λ (s : Shared). s.store.journal.halted) c.self.view_is) ∙ inside in
    settled_refused (leaves c.args.self.now.spaces c.args.env.ids c.args.env.moves) c.args.self.now.store _ c.self.inside.store _ _ _ c.in-Err.stop c.len-wanted.result _ _
    c.in-Err.ensures.cause c.in-Err.ensures.refused running (ap (λ (s : Shared). s.store) c.self.view_is) wants few ⊤ c.stop_by-self-inside.result c.error_by.result
    (search rules) c.stop_by-self-inside.ensures c.error_by.ensures
