use Rattle.std.proofs.Common.{◌≡◌, ◌++◌, drop}
use Rattle.std.specs.Prelude.{codes}
use Rattle.std.specs.List.{flat_map}
use Rattle.node_notes.specs.Texts.{octet_text}
use Rattle.node_notes.proofs.pieces.push_mac.Given as goal

abbrev pub invariant-loop-byte : goal.invariant-loop-byte
invariant-loop-byte l =
    l.out ++ flat_map (λ byte. codes ":" ++ octet_text byte) (drop l.byte-index l.behind)
    ≡ l.initial.out ++ flat_map (λ byte. codes ":" ++ octet_text byte) l.behind
