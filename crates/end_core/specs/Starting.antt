-- A tunnel that comes back with the calls that were found for it.
use Rattle.std.specs.Prelude.{List, if◌then◌else◌}
use Rattle.id_source.specs.Spaces.{takes_id}
use Rattle.session_book.specs.declared.record.BookTunnel.{BookTunnel}
use Rattle.session_book.specs.declared.record.BookCall.{BookCall}
use Rattle.end_model.specs.Tunnels.{Env}
use Rattle.end_model.specs.End.{End, Stepped}
use Rattle.end_model.specs.Starting.{can_recover, forgets, restored_by}

-- or is given up with them
abbrev pub restored_with : List BookCall → End → Env → BookTunnel → Stepped
restored_with calls e env b =
    if can_recover b then restored_by e env calls b (takes_id env.ids.tunnels) (takes_id env.ids.recoveries) else forgets e calls b
