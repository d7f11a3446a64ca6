use Rattle.std.proofs.Common.{◌≡◌, ◌≤◌, ◌∙◌, ap, inr, ℕ, List, [], ◌∷◌, length}
use Rattle.std.specs.Prelude.{Some, option_map}
use Rattle.disk_core.specs.Disk.{Held, durable, wrote, settled}
use Rattle.checkpoint_journal.specs.Format.{spelling}
use Rattle.checkpoint_journal.proofs.Options.{of_err, on_err, on_ok, on_map, on_some, of_some, map_of, map_map}
use Rattle.checkpoint_journal.proofs.Fresh.{made_new}
use Rattle.checkpoint_journal.proofs.head.make.Goals as goal

pub returns-clause-made : goal.returns-clause-made
returns-clause-made g c = on_ok c.sync-2.result (λ last.
    let first = map_map (wrote 1 c.fresh_bytes.result) settled _ _ _ c.write_at.ensures.pending c.in_ok-sync.ensures.durable in
    let second = map_map (λ (h : Held). settled (wrote 1 c.fresh_bytes.result h)) (wrote 0 (79 ∷ [])) _ _ _ first c.write_at-2.ensures.pending in
    let all = map_map (λ (h : Held). wrote 0 (79 ∷ []) (settled (wrote 1 c.fresh_bytes.result h))) settled _ _ _ second last in
    on_map (λ (h : Held). settled (wrote 0 (79 ∷ []) (settled (wrote 1 c.fresh_bytes.result h))))
    (g.D.Disk.holds c.args.disk.now) (g.D.Disk.holds c.sync-2.new.self)
    (λ (h : Held). length h.bytes ≤ 33) (λ (h : Held). h ≡ durable (spelling c.args.kind c.args.number [])) all
    (λ h short. ap durable (made_new c.args.kind c.args.number c.fresh_bytes.result h.bytes c.fresh_bytes.ensures short)) c.requires.short) c.sync-2.ensures.durable

pub returns-clause-tells : goal.returns-clause-tells
returns-clause-tells g c = on_ok c.sync-2.result (λ last.
    let first = map_map (wrote 1 c.fresh_bytes.result) settled _ _ _ c.write_at.ensures.pending c.in_ok-sync.ensures.durable in
    let second = map_map (λ (h : Held). settled (wrote 1 c.fresh_bytes.result h)) (wrote 0 (79 ∷ [])) _ _ _ first c.write_at-2.ensures.pending in
    let all = map_map (λ (h : Held). wrote 0 (79 ∷ []) (settled (wrote 1 c.fresh_bytes.result h))) settled _ _ _ second last in
    on_some (g.D.Disk.holds c.args.disk.now) (λ (h : Held). g.D.Disk.holds c.sync-2.new.self ≡ Some (durable (spelling c.args.kind c.args.number [])))
    (λ h is. map_of (λ (x : Held). settled (wrote 0 (79 ∷ []) (settled (wrote 1 c.fresh_bytes.result x)))) _ _ h is all
    ∙ ap (λ l. Some (durable l)) (made_new c.args.kind c.args.number c.fresh_bytes.result h.bytes c.fresh_bytes.ensures
    (of_some (g.D.Disk.holds c.args.disk.now) (λ (x : Held). length x.bytes ≤ 33) h is c.requires.short)))) c.sync-2.ensures.durable

pub returns-in_err-write_at-2-clause-stopped : goal.returns-in_err-write_at-2-clause-stopped
returns-in_err-write_at-2-clause-stopped g c = of_err c.from_residual-in_err-write_at-2.result (
    let first = map_map (wrote 1 c.fresh_bytes.result) settled _ _ _ c.write_at.ensures.pending c.in_ok-sync.ensures.durable in
    let second = map_map (λ (h : Held). settled (wrote 1 c.fresh_bytes.result h)) (wrote 0 (79 ∷ [])) _ _ _ first c.write_at-2.ensures.pending in
    inr (second ∙ ap (λ (l : List ℕ). option_map (λ (h : Held). wrote 0 (79 ∷ []) (settled (wrote 1 l h))) (g.D.Disk.holds c.args.disk.now)) c.fresh_bytes.ensures))

pub returns-clause-stopped : goal.returns-clause-stopped
returns-clause-stopped g c = on_err c.sync-2.result (λ kept.
    let first = map_map (wrote 1 c.fresh_bytes.result) settled _ _ _ c.write_at.ensures.pending c.in_ok-sync.ensures.durable in
    let second = map_map (λ (h : Held). settled (wrote 1 c.fresh_bytes.result h)) (wrote 0 (79 ∷ [])) _ _ _ first c.write_at-2.ensures.pending in
    inr (kept ∙ second ∙ ap (λ (l : List ℕ). option_map (λ (h : Held). wrote 0 (79 ∷ []) (settled (wrote 1 l h))) (g.D.Disk.holds c.args.disk.now)) c.fresh_bytes.ensures)) c.sync-2.ensures.failed
