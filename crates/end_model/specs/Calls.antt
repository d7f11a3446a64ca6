-- Calls.
use Rattle.std.specs.Prelude.{ℕ, ◌+◌, List, [], ◌∷◌, ◌++◌, map, filter, replicate, Bool, true, false, ◌==◌, nat_le, nat_lt, length, ◌&&◌, ◌%◌, Option, Some, None}
use Rattle.call_fsm.specs.declared.table.CallState.{CallState}
use Rattle.call_fsm.specs.declared.table.CallState.TheVariants.{Idle}
use Rattle.call_fsm.specs.declared.table.CallState.TheVariants as call
use Rattle.call_fsm.specs.declared.table.CallEvent.{CallEvent}
use Rattle.call_fsm.specs.declared.table.CallEvent.TheVariants.{Ring, IcrqAcc}
use Rattle.call_fsm.specs.declared.table.CallAction.{CallAction}
use Rattle.call_fsm.specs.declared.table.CallAction.TheVariants.{SendIcrq, SendIcrp, SendIccn, SendCdn, CleanUp}
use Rattle.call_fsm.specs.Rows.{lac_rows, lns_rows, row_of, state_number}
use Rattle.end_names.specs.declared.role.Role.{Role}
use Rattle.end_names.specs.declared.role.Role.TheVariants.{Lac, Lns}
use Rattle.wire_base.specs.declared.pair.Pair.{Pair}
use Rattle.end_model.specs.declared.tunnel.Call.{Call}

abbrev pub is_lac : Role → Bool
is_lac Lac = true
is_lac Lns = false

-- ---- the tables drive the calls

-- the row of the end's table
unfoldable pub call_row : Role → CallState → CallEvent → CallState × CallAction
call_row Lac s e = row_of lac_rows s e
call_row Lns s e = row_of lns_rows s e

-- the row of a call's table, and that of a call that there isn't
abbrev pub row_for : Role → Call → CallEvent → CallState × CallAction
row_for role c e = call_row role c.state e

abbrev pub row_of_none : Role → CallEvent → CallState × CallAction
row_of_none role e = call_row role Idle e

-- the call goes to a state by an event, at a moment
abbrev pub gone_to : CallState → CallEvent → ℕ → Call → Call
gone_to next e moment c = record c { state = next; since = moment; steps = c.steps ++ record { state = c.state; event = e; next = next } ∷ [] }

-- the call goes where its table says
unfoldable pub advanced : Role → CallEvent → ℕ → Call → Call
advanced role e moment c = gone_to (call_row role c.state e).0 e moment c

-- a call that nothing came to yet
abbrev pub idle_call : ℕ → List ℕ → Call
idle_call remote who = record { remote = remote; state = Idle; since = 0; subscriber = who; steps = []; link = None; sequence = None }

-- a call that a subscriber rings for, and one that the peer asks for
unfoldable pub rung : Role → List ℕ → ℕ → Call
rung role who moment = advanced role Ring moment (idle_call 0 who)

unfoldable pub asked_for : Role → ℕ → ℕ → Call
asked_for role remote moment = advanced role IcrqAcc moment (idle_call remote (replicate 6 0))

abbrev pub is_request : CallAction → Bool
is_request SendIcrq = true
is_request a = false

abbrev pub is_reply : CallAction → Bool
is_reply SendIcrp = true
is_reply a = false

abbrev pub is_connection : CallAction → Bool
is_connection SendIccn = true
is_connection a = false

-- the peer is told that the call ends
abbrev pub is_told : CallAction → Bool
is_told SendCdn = true
is_told a = false

-- the peer knows of its end, or nothing of the call
abbrev pub is_clean_up : CallAction → Bool
is_clean_up CleanUp = true
is_clean_up a = false

abbrev pub is_up : CallState → Bool
is_up s = state_number s == 4

-- it is neither idle nor established
abbrev pub is_set_up : CallState → Bool
is_set_up s = nat_lt 0 (state_number s) && nat_lt (state_number s) 4

-- ---- sessions

-- a call as a session: by its own id, and the one that the peer assigned
abbrev pub pair_of : ℕ × Call → Pair
pair_of c = record { sender = c.0; receiver = c.1.remote }

abbrev pub is_session : ℕ × Call → Bool
is_session c = is_up c.1.state

-- those that are established, by local ids
unfoldable pub sessions_of : List (ℕ × Call) → List Pair
sessions_of calls = map pair_of (filter is_session calls)

-- ---- letters that are owed

-- how many letters the tunnel may still have to give for a call: its request, its connection and its end
abbrev pub owes : CallState → ℕ
owes call.Idle = 0
owes call.WaitTunnel = 3
owes call.WaitReply = 2
owes call.WaitConnect = 1
owes call.Established = 1

-- and for all calls of a tunnel
abbrev pub owed_by : List (ℕ × Call) → ℕ
owed_by [] = 0
owed_by (c ∷ cs) = owes c.1.state + owed_by cs

-- a tunnel has 4,096 live calls at most
abbrev pub are_too_many : List (ℕ × Call) → Bool
are_too_many calls = nat_le 4096 (length calls)

-- ---- frames

-- the number of the first data message of a call, where its ICCN had Sequencing Required (RFC 2661 section 5.4)
abbrev pub first_number : Bool → Option ℕ
first_number true = Some 0
first_number false = None

-- of the one that goes next, in its header
abbrev pub number_of : Option ℕ → Option ℕ
number_of None = None
number_of (Some n) = Some (n % 65536)

-- and of the one behind it, and behind these
abbrev pub number_after : Option ℕ → Option ℕ
number_after None = None
number_after (Some n) = Some ((n + 1) % 65536)

abbrev pub number_behind : List (List ℕ) → Option ℕ → Option ℕ
number_behind [] n = n
number_behind (p ∷ ps) n = number_behind ps (number_after n)

-- the call is connected by an ICCN, which may have had Sequencing Required
abbrev pub with_numbers : Bool → Call → Call
with_numbers sequenced c = record c { sequence = first_number sequenced }

-- the call after one data message, and after these
abbrev pub counted : Call → Call
counted c = record c { sequence = number_after c.sequence }

abbrev pub counted_all : List (List ℕ) → Call → Call
counted_all ps c = record c { sequence = number_behind ps c.sequence }

-- a PPP frame has 2 to 1,494 bytes, with its protocol field
abbrev pub is_short : List ℕ → Bool
is_short frame = nat_lt (length frame) 2

abbrev pub is_long : List ℕ → Bool
is_long frame = nat_lt 1494 (length frame)
