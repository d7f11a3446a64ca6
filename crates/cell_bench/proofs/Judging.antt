-- What a data message comes to whose header is known, where each session has a cell.
use Rattle.std.proofs.Common.{◌≡◌, ℕ, ◌<◌, false, List, Some, Ok, arith}
use Rattle.l2tp_header.specs.declared.header.Header.{Header}
use Rattle.l2tp_header.specs.Reading.{header_of}
use Rattle.end_names.specs.declared.role.Role.{Role}
use Rattle.session_cells.specs.declared.entry.Entry.{Entry}
use Rattle.session_cells.specs.Logs.{look_after}
use Rattle.data_plane.specs.declared.carry.Carry.{Carry}
use Rattle.data_plane.specs.Carries.{carry_of, load_of, load_by, look_at}

-- each session has a cell
seen_at : (count session : ℕ) (log : List Entry) → session < count → look_at count log session ≡ look_after log session
seen_at count session log below = grind arith

pub judged_of : (role : Role) (count : ℕ) (log : List Entry) (peer : ℕ) (bytes read : List ℕ) (h : Header) (r : Carry)
    → bytes ≡ read → header_of read ≡ Ok h → h.control ≡ false → h.session < count → load_of role (look_at count log) peer bytes ≡ Some r
    → r ≡ carry_of role (look_after log h.session) peer h read
unfolding load_by
judged_of role count log peer bytes read h r is known no_control below got = let same = seen_at count h.session log below in grind arith
