-- What an end does at each call: the next state, and what it gives (RFC 1661 sections 4.3 to 4.6).
use Rattle.std.specs.Prelude.{ℕ, ◌+◌, ◌-◌, ◌%◌, ◌^◌, Bool, true, false, ◌==◌, ◌&&◌, ◌||◌, nat_lt, nat_le, min, if◌then◌else◌, List, [], ◌∷◌, ◌++◌, length, Option, Some, None}
use Rattle.lcp_wire.specs.declared.packet.Lcp.{Lcp}
use Rattle.std.specs.Result.{result_ok}
use Rattle.lcp_wire.specs.Spelling.{packet_bytes}
use Rattle.lcp_wire.specs.Reading.{packet_of}
use Rattle.lcp_end.specs.declared.table.LcpState.TheVariants.{Initial}
use Rattle.lcp_end.specs.declared.table.LcpEvent.{LcpEvent}
use Rattle.lcp_end.specs.declared.table.LcpEvent.TheVariants.{Up, Opens, Closes, ToMore, ToLast}
use Rattle.lcp_end.specs.declared.table.LcpActions.{LcpActions}
use Rattle.lcp_end.specs.declared.state.EndState.{EndState}
use Rattle.lcp_end.specs.declared.out.LcpOut.{LcpOut}
use Rattle.lcp_end.specs.declared.hearing.Heard.{Heard}
use Rattle.lcp_end.specs.Table.{entry, state_number}
use Rattle.lcp_end.specs.Options.{asked, not_zero}
use Rattle.lcp_end.specs.Hearing.{packet, heard_as}

-- an end whose link isn't opened yet, with a magic number
abbrev pub fresh : ℕ → EndState
fresh magic = record {
  state = Initial;
  asks_mru = true;
  magic = Some (not_zero magic);
  restarts = 0;
  since = 0;
  last_id = 0;
  request = 0;
  naks = 0;
}

-- the link carries frames of the network's protocols
abbrev pub is_opened : EndState → Bool
is_opened k = state_number k.state == 9

abbrev pub no_output : LcpOut
no_output = record { packets = []; up = false; down = false; finished = false }

-- an output behind an earlier one
abbrev pub joined : LcpOut → LcpOut → LcpOut
joined o p = record { packets = o.packets ++ p.packets; up = o.up || p.up; down = o.down || p.down; finished = o.finished || p.finished }

-- an end in a step, with what it gives so far
pub record Turn : Type 0 where
  pub kept : EndState
  pub out : LcpOut

abbrev pub begun : EndState → Turn
begun k = record { kept = k; out = no_output }

-- ---- packets that are sent

unfoldable pub sent : ℕ → ℕ → List ℕ → Turn → Turn
sent code id body t = record t { out = record t.out { packets = t.out.packets ++ packet_bytes (packet code id body) ∷ [] } }

-- one counter gives the identifiers of all packets that this end begins
abbrev pub next_id : EndState → ℕ
next_id k = (k.last_id + 1) % 2 ^ 8

-- a request that the peer is to answer lowers the restart count, and starts the timer
unfoldable pub requesting : ℕ → EndState → EndState
requesting moment k = record k { last_id = next_id k; request = next_id k; restarts = k.restarts - 1; since = moment }

unfoldable pub requested : ℕ → List ℕ → ℕ → Turn → Turn
requested code body moment t = sent code (next_id t.kept) body (record t { kept = requesting moment t.kept })

-- ---- the actions of an entry that need no packet

-- Max-Terminate is 2, Max-Configure 10
unfoldable pub counted : LcpActions → Turn → Turn
counted a t = if a.irc then record t { kept = record t.kept { restarts = if a.stq then 2 else 10 } } else t

unfoldable pub zeroed : LcpActions → ℕ → Turn → Turn
zeroed a moment t = if a.zrc then record t { kept = record t.kept { restarts = 0; since = moment } } else t

unfoldable pub configured : LcpActions → ℕ → Turn → Turn
configured a moment t = if a.scr then requested 1 (asked t.kept.asks_mru t.kept.magic) moment t else t

unfoldable pub terminated : LcpActions → ℕ → Turn → Turn
terminated a moment t = if a.stq then requested 5 [] moment t else t

unfoldable pub signalled : LcpActions → Turn → Turn
signalled a t = record t { out = record t.out { up = t.out.up || a.tlu; down = t.out.down || a.tld; finished = t.out.finished || a.tlf } }

unfoldable pub acted : LcpActions → ℕ → Turn → Turn
acted a moment t = signalled a (terminated a moment (configured a moment (zeroed a moment (counted a t))))

-- the entry of the table for an event
unfoldable pub stepped : LcpEvent → ℕ → Turn → Turn
stepped event moment t =
    let given = entry t.kept.state event in acted given.1 moment (record t { kept = record t.kept { state = given.0 } })

-- ---- the actions that answer a packet

unfoldable pub acked : LcpActions → Lcp → Turn → Turn
acked a p t = if a.sca then sent p.code p.id p.body (record t { kept = record t.kept { naks = 0 } }) else t

-- a Nak is counted, a Reject isn't
unfoldable pub naks_after : ℕ → ℕ → ℕ
naks_after code naks = if code == 3 && nat_lt naks 5 then naks + 1 else naks

unfoldable pub refused : LcpActions → Lcp → Turn → Turn
refused a p t = if a.scn then sent p.code p.id p.body (record t { kept = record t.kept { naks = naks_after p.code t.kept.naks } }) else t

unfoldable pub confirmed : LcpActions → Lcp → Turn → Turn
confirmed a p t = if a.sta then sent 6 p.id [] t else t

unfoldable pub code_rejected : LcpActions → Lcp → Turn → Turn
code_rejected a p t = if a.scj then sent 7 (next_id t.kept) p.body (record t { kept = record t.kept { last_id = next_id t.kept } }) else t

unfoldable pub echoed : LcpActions → Lcp → Turn → Turn
echoed a p t = if a.ser then sent p.code p.id p.body t else t

unfoldable pub answered : LcpActions → Lcp → Turn → Turn
answered a p t = echoed a p (code_rejected a p (confirmed a p (refused a p (acked a p t))))

-- ---- the calls

unfoldable pub opened : ℕ → EndState → Turn
opened moment k = stepped Up moment (stepped Opens moment (begun k))

unfoldable pub closed : ℕ → EndState → Turn
closed moment k = stepped Closes moment (begun k)

-- the timer runs while an answer is waited for
abbrev pub is_timed : EndState → Bool
is_timed k = nat_le 4 (state_number k.state) && nat_le (state_number k.state) 8

-- 3 seconds have passed since it was started; where the moment is below the kept one, no time has
abbrev pub is_due : ℕ → EndState → Bool
is_due moment k = is_timed k && nat_le 3000 (moment - k.since)

-- the moment from which on they have, which stops at the last one of 64 bits: none where nothing is waited for
abbrev pub due_of : EndState → Option ℕ
due_of k = if is_timed k then Some (min (k.since + 3000) (2 ^ 64 - 1)) else None

abbrev pub time_out : EndState → LcpEvent
time_out k = if nat_lt 0 k.restarts then ToMore else ToLast

unfoldable pub ticked : ℕ → EndState → Turn
ticked moment k = if is_due moment k then stepped (time_out k) moment (begun k) else begun k

unfoldable pub after_heard : ℕ → EndState → Option Heard → Turn
after_heard moment k (Some h) =
    answered (entry h.kept.state h.event).1 h.answer (stepped h.event moment (begun h.kept))
after_heard moment k None = begun k

unfoldable pub after_read : List ℕ → ℕ → EndState → Option Lcp → Turn
after_read block moment k (Some p) = after_heard moment k (heard_as block k p)
after_read block moment k None = begun k

unfoldable pub after_packet : List ℕ → List ℕ → ℕ → EndState → Turn
after_packet bytes block moment k =
    if nat_lt 2048 (length bytes) then begun k else after_read block moment k (result_ok (packet_of bytes))
