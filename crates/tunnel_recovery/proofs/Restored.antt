-- A tunnel comes back, part by part.
use Rattle.std.proofs.Common.{◌≡◌, ℕ, List, [], ◌∷◌, refl, ap, ◌∙◌}
use Rattle.session_book.specs.declared.record.BookCall.{BookCall}
use Rattle.session_book.specs.declared.record.BookTunnel.{BookTunnel}
use Rattle.end_names.specs.declared.role.Role.{Role}
use Rattle.end_model.specs.declared.tunnel.Config.{Config}
use Rattle.end_model.specs.declared.moves.Move.TheVariants as move
use Rattle.end_model.specs.Secrets.{challenge_by}
use Rattle.end_model.specs.Tunnels.{Turn, Ground, Recovering}
use Rattle.end_model.specs.Turn.{with_move, with_looks_of}
use Rattle.end_model.specs.Starting.{keeps_calls, opens_links, restored_move, restores}
use Rattle.end_model.specs.Recovering.{RecoveryTurn, with_recovery, attempted}

-- the links are opened behind what the recovery tunnel sends
opens_behind : (role : Role) (calls : List BookCall) (v : RecoveryTurn) (r : Recovering) (t u : Turn) → with_recovery r t ≡ v → u ≡ opens_links role calls t
    → with_recovery r u ≡ record v { turn = opens_links role calls v.turn }
opens_behind role calls v r t u is opened = rw (opened, ← is) refl

-- what the step stands on stays as calls come back
stands : (role : Role) (calls : List BookCall) (t : Turn) → (keeps_calls role calls t).on ≡ t.on
unfolding keeps_calls with_looks_of
stands role [] t = refl
stands role (c ∷ cs) t = stands role cs _

told : (role : Role) (c : Config) (calls : List BookCall) (b : BookTunnel) (local draw : ℕ) (t : Turn)
    → restored_move c calls b local draw (keeps_calls role calls t) ≡ restored_move c calls b local draw t
told role c calls b local draw t =
    ap (λ (g : Ground). move.Restored (record { tunnel = b; calls = calls; attempt = local; draw = draw; challenge = challenge_by c.secret g.block })) (stands role calls t)

-- the calls are there, it is told, its recovery is attempted, and the links are opened
pub restored_through : (role : Role) (c : Config) (calls : List BookCall) (b : BookTunnel) (local draw : ℕ) (r : Recovering) (t kept said asked opened : Turn)
    → kept ≡ keeps_calls role calls t
    → said ≡ with_move (restored_move c calls b local draw kept) kept
    → with_recovery r asked ≡ attempted role c local draw said
    → opened ≡ opens_links role calls asked
    → with_recovery r opened ≡ restores role c calls b local draw t
unfolding restores
restored_through role c calls b local draw r t kept said asked opened calls_are tells attempts opens =
    let told_so : said ≡ with_move (restored_move c calls b local draw t) (keeps_calls role calls t) =
    tells ∙ ap (λ x. with_move (restored_move c calls b local draw x) x) calls_are ∙ ap (λ m. with_move m (keeps_calls role calls t)) (told role c calls b local draw t) in
    opens_behind role calls (attempted role c local draw said) r asked opened attempts opens
    ∙ ap (λ x. record (attempted role c local draw x) { turn = opens_links role calls (attempted role c local draw x).turn }) told_so
