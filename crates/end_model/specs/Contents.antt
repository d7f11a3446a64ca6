-- What a step leaves in the checkpoint of its end: ceilings of ids that rose, tunnels and calls that came up or went.
use Rattle.std.specs.Prelude.{ℕ, ◌+◌, ◌-◌, ◌*◌, ◌/◌, min, List, [], ◌∷◌, ◌++◌, map, replicate, Bool, true, false}
use Rattle.std.specs.List.{flat_map}
use Rattle.id_source.specs.Spaces.{Space, counting_from}
use Rattle.session_book.specs.declared.record.Record.{Record}
use Rattle.session_book.specs.declared.record.Record.TheVariants.{Ceiling, TunnelUp, TunnelDown, CallUp, CallDown, Mark}
use Rattle.end_model.specs.declared.moves.Move.{Move}
use Rattle.end_model.specs.declared.moves.Move.TheVariants as move
use Rattle.end_model.specs.End.{End, Stepped}

-- the ceilings that a space passed, each 64 above the one before, the last one no higher than the last number
abbrev pub ceilings_of : ℕ → Space → Space → List Record
ceilings_of space before after =
    map (λ k. Ceiling space (min before.last (before.ceiling + 64 * k))) (counting_from 1 ((after.ceiling - before.ceiling + 63) / 64))

-- a tunnel or a call goes, where the checkpoint has it
abbrev pub tunnel_down : Bool → ℕ → List Record
tunnel_down true i = TunnelDown i ∷ []
tunnel_down false i = []

abbrev pub call_down : Bool → ℕ → List Record
call_down true s = CallDown s ∷ []
call_down false s = []

abbrev pub mark_by : Bool → ℕ → ℕ → List Record
mark_by true i mark = Mark i mark ∷ []
mark_by false i mark = []

-- what a move leaves. A tunnel goes with its calls; of a tunnel that is removed after it was closed nothing is there any more
unfoldable pub records_of : Move → List Record
records_of (move.Connected m) =
    TunnelUp (record { local = m.tunnel; remote = m.remote; peer = m.peer; window = m.window; flags = m.flags; mark = 0 }) ∷ []
records_of (move.Confirmed m) =
    TunnelUp (record { local = m.tunnel; remote = m.remote; peer = m.peer; window = m.window; flags = m.flags; mark = 0 }) ∷ []
records_of (move.FirstUp m) =
    CallUp (record { local = m.session; tunnel = m.tunnel; remote = m.remote; subscriber = m.subscriber; sequenced = false }) ∷ []
records_of (move.SecondUp m) =
    CallUp (record { local = m.session; tunnel = m.tunnel; remote = m.remote; subscriber = replicate 6 0; sequenced = m.sequenced }) ∷ []
records_of (move.EndTold m) = call_down m.booked m.session
records_of (move.EndHeard m) = call_down m.booked m.session
records_of (move.EndSilent m) = call_down m.booked m.session
records_of (move.Closed m) = tunnel_down m.booked m.tunnel
records_of (move.ClosedBy m) = tunnel_down m.booked m.tunnel
records_of (move.Cleared i booked) = tunnel_down booked i
records_of (move.Forgot m) = TunnelDown m.tunnel ∷ []
records_of (move.Froze m) = mark_by m.marked m.tunnel m.asked
records_of (move.ResetAttempting m) = mark_by m.marked m.tunnel m.draw
records_of (move.TookAnswer m) = map (λ s. CallDown s) m.ended
records_of m = []

-- what a step leaves: the ceilings first, by space and then rising, and behind them what its moves leave, in their order
unfoldable pub contents_of : End → Stepped → List Record
contents_of e s =
    ceilings_of 1 e.tunnel_ids s.end.tunnel_ids
    ++ (ceilings_of 2 e.session_ids s.end.session_ids
    ++ (ceilings_of 3 e.recovery_ids s.end.recovery_ids ++ flat_map (λ m. records_of m) s.moves))
