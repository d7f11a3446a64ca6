use Rattle.std.proofs.Common.{ℕ, List, [], ◌∷◌, ◌++◌, sym, ap, ◌∙◌}
use Rattle.std.proofs.lemmas.Result.{on_ok_weaker}
use Rattle.id_table.specs.Ids.{at, put}
use Rattle.session_book.specs.declared.record.BookCall.{BookCall}
use Rattle.end_core.specs.Keeping.{calls_in}
use Rattle.end_core.proofs.ByTunnel.{put_behind}
use Rattle.end_core.proofs.keeping.put_call.Goals as goal

pub returns-in-Some : goal.returns-in-Some
returns-in-Some c =
    let es = c.args.table.now.entries in
    let k = c.from-tunnel.result in
    on_ok_weaker c.push.result
    (λ h i. ap (λ (xs : List BookCall). calls_in (at (put es k xs) i)) h
    ∙ put_behind es k i c.args.call.now c.in-Some.calls.now (sym c.from-tunnel.ensures) (ap calls_in (sym c.in-Some.ensures.value)))
    c.push.ensures.ok

pub returns : goal.returns
returns c i =
    let es = c.args.table.now.entries in
    let k = c.from-tunnel.result in
    let filled = c.fill.ensures.entries ∙ ap (λ (xs : List (ℕ × List BookCall)). put xs k c.push-2.new.self) c.in_ok-make_room.ensures.entries
    ∙ ap (λ (xs : List BookCall). put es k xs) (c.in_ok-push.ensures.ok ∙ ap (λ (xs : List BookCall). xs ++ c.args.call.now ∷ []) c.new-calls.ensures) in
    ap (λ (xs : List (ℕ × List BookCall)). calls_in (at xs i)) filled
    ∙ put_behind es k i c.args.call.now [] (sym c.from-tunnel.ensures) (ap calls_in (sym c.in_default.ensures.value))
