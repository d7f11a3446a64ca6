-- One tunnel more behind its lock.
use Rattle.std.proofs.Common.{◌≡◌, List, [], ◌∷◌, ◌++◌, map, sym, ap, ◌∙◌}
use Rattle.std.proofs.lemmas.List.{map-append}
use Rattle.end_names.specs.declared.role.Role.{Role}
use Rattle.tunnel_core.specs.Cores.{Core}
use Rattle.locked_tunnels.specs.Kept.{Kept, Known, known}
use Rattle.node_pool.specs.Keeping.{kept_known, AreKept}

pub one_more : (role : Role) (cores : List Core) (kept : List Kept) (c : Core) (k : Kept) → AreKept role cores kept → known k ≡ kept_known role c → AreKept role (cores ++ c ∷ []) (kept ++ k ∷ [])
one_more role cores kept c k h e =
    let a = map-append (λ (x : Kept). known x) kept (k ∷ []) in
    let b = map-append (λ (x : Core). kept_known role x) cores (c ∷ []) in
    a
    ∙ (ap (λ (l : List Known). l ++ known k ∷ []) h
    ∙ (ap (λ (x : Known). map (λ (y : Core). kept_known role y) cores ++ x ∷ []) e ∙ sym b))
