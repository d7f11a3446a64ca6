-- What a step leaves in the checkpoint of its end, by where the end draws from before it and after it, and by its moves.
use Rattle.std.specs.Prelude.{List, ◌++◌}
use Rattle.std.specs.List.{flat_map}
use Rattle.session_book.specs.declared.record.Record.{Record}
use Rattle.end_model.specs.declared.moves.Move.{Move}
use Rattle.end_model.specs.Tunnels.{Drawing}
use Rattle.end_model.specs.Contents.{ceilings_of, records_of}

-- the ceilings first, by space and then rising, and behind them what the moves leave, in their order
abbrev pub leaves : Drawing → Drawing → List Move → List Record
leaves before after moves =
    ceilings_of 1 before.tunnels after.tunnels
    ++ (ceilings_of 2 before.sessions after.sessions
    ++ (ceilings_of 3 before.recoveries after.recoveries ++ flat_map (λ m. records_of m) moves))
