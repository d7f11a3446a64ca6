-- The run of a schedule, and its report.
use Rattle.std.specs.Prelude.{ℕ, ◌+◌, count_by, List, [], ◌∷◌, ◌++◌, Bool, true, false, ◌==◌, ◌&&◌, if◌then◌else◌, codes, Option, Some, None, Result, Ok, Err}
use Rattle.std.specs.List.{flat_map}
use Rattle.std.specs.Fmt.{decimal}
use Rattle.id_table.specs.Ids.{at, ids_of}
use Rattle.wire_base.specs.declared.why.Why.{Why}
use Rattle.wire_base.specs.Words.{why_word}
use Rattle.schedule_text.specs.declared.line.Line.{Line}
use Rattle.tunnel_fsm.specs.Words.{state_word}
use Rattle.tunnel_fsm.specs.declared.table.TunnelState.{TunnelState}
use Rattle.tunnel_fsm.specs.Rows.{state_number}
use Rattle.call_fsm.specs.Words as call_words
use Rattle.control_channel.specs.Numbers.{next_given}
use Rattle.session_query.specs.Queries.{is_complete}
use Rattle.world_model.specs.declared.refusal.Refusal.{Refusal}
use Rattle.world_model.specs.declared.refusal.Refusal.TheVariants.{Unfit, HalfSpace, Stale, StoreFull}
use Rattle.end_model.specs.declared.tunnel.Call.{Call}
use Rattle.end_model.specs.declared.tunnel.Control.{Control}
use Rattle.end_names.specs.Names.{node_of}
use Rattle.end_model.specs.Calls.{is_lac, is_up}
use Rattle.end_model.specs.declared.tunnel.Mode.{Mode}
use Rattle.end_model.specs.declared.tunnel.Mode.TheVariants.{Current, Frozen, Restored}
use Rattle.end_model.specs.Tunnels.{Tunnel, mode_of, is_current}
use Rattle.world_model.specs.Texts.{◌&◌, ended, Entry, entries_text}
use Rattle.world_model.specs.World.{World, Node, Deed, Lined, empty_world, line, count_at, standing_in}

-- a run, which ends at the first line that is refused
pub record Run : Type 0 where
  pub world : World
  -- the entries of its report, before the tables at the end
  pub entries : List Entry
  -- what its lines did
  pub done : List Deed
  -- the number of the line that is refused, and why it is
  pub fault : Option (ℕ × Refusal)

abbrev pub empty_run : Run
empty_run = record { world = empty_world; entries = []; done = []; fault = None }

abbrev pub after_line : Run → Lined → Run
after_line r l = record r { world = l.world; entries = r.entries ++ l.entries; done = r.done ++ l.done }

unfoldable pub goes_on : (Run → Run) → Run → ℕ → Result Lined Refusal → Run
goes_on rest r number (Ok l) = rest (after_line r l)
goes_on rest r number (Err x) = record r { fault = Some (number, x) }

-- the lines from a number on, behind a run
unfoldable pub run_from : ℕ → List Line → Run → Run
run_from number [] r = r
run_from number (l ∷ ls) r = goes_on (run_from (number + 1) ls) r number (line r.world number l)

-- lines are numbered from 1
abbrev pub run : List Line → Run
run lines = run_from 1 lines empty_run

-- ---- the tables at the end

abbrev pub mode_word : Mode → List ℕ
mode_word Current = codes "current"
mode_word Frozen = codes "frozen"
mode_word Restored = codes "restored"

-- whether it is known of each session that was established at the tunnel's last reset whether the peer has it
abbrev pub query_word : Bool → List ℕ
query_word true = codes "complete"
query_word false = codes "asking"

unfoldable pub tunnel_text : ℕ → Control → ℕ → Mode → Bool → List ℕ
tunnel_text n t epoch mode complete =
    ended (codes "end" & decimal n & codes "tunnel" & decimal t.local & decimal (node_of t.peer) & decimal t.remote & state_word t.state & decimal epoch & mode_word mode & query_word complete)

-- a call of a tunnel, with its birth
unfoldable pub call_text : ℕ → ℕ → ℕ → Call → ℕ → List ℕ
call_text n tunnel session c birth =
    ended (codes "end" & decimal n & codes "call" & decimal tunnel & decimal session & decimal c.remote & call_words.state_word c.state & decimal birth)

abbrev pub call_line : ℕ → ℕ → List (ℕ × ℕ) → ℕ → Option Call → List ℕ
call_line n i births session None = []
call_line n i births session (Some c) = call_text n i session c (count_at births session)

-- the calls of a tunnel, by local id
unfoldable pub call_table : ℕ → ℕ → List (ℕ × ℕ) → List (ℕ × Call) → List ℕ
call_table n i births calls = flat_map (λ s. call_line n i births s (at calls s)) (ids_of calls)

unfoldable pub tunnel_line : ℕ → Node → ℕ → Option Tunnel → List ℕ
tunnel_line n node i None = []
tunnel_line n node i (Some t) =
    tunnel_text n t.control (standing_in (Some node) i).epoch (mode_of t.recovery) (is_complete t.query) ++ call_table n i node.births t.calls

-- a node that is down
unfoldable pub down_text : ℕ → List ℕ
down_text n = ended (codes "end" & decimal n & codes "down")

-- the tunnels of a node with their calls, or that it is down
unfoldable pub node_table : ℕ → Option Node → List ℕ
node_table n None = []
node_table n (Some node) =
    if node.up then flat_map (λ i. tunnel_line n node i (at node.end.tunnels i)) (ids_of node.end.tunnels) else down_text n

-- those of each node, in the order of nodes and of local ids
unfoldable pub end_table : List (ℕ × Node) → List ℕ
end_table nodes = flat_map (λ n. node_table n (at nodes n)) (ids_of nodes)

abbrev pub is_established : TunnelState → Bool
is_established s = state_number s == 3

-- the tunnel with this id, at an LNS
unfoldable pub lns_tunnel : ℕ → Option Node → Option Tunnel
lns_tunnel i None = None
lns_tunnel i (Some node) = if is_lac node.end.role then None else at node.end.tunnels i

-- the LNS's tunnel that a LAC's tunnel has learned
unfoldable pub partner_of : List (ℕ × Node) → Control → Option Tunnel
partner_of nodes t = lns_tunnel t.remote (at nodes (node_of t.peer))

-- two tunnels that have learned each other, are established and in the same epoch, and each took all that the other was given to send
unfoldable pub agree : ℕ → Control → Control → Bool
agree n t u =
    is_established t.state && is_established u.state
    && u.remote == t.local && node_of u.peer == n
    && u.channel.inbox.taken == next_given t.channel && t.channel.inbox.taken == next_given u.channel

-- a tunnel whose channel carries messages, and which knows of its sessions since its last reset
abbrev pub is_resynchronised : Tunnel → Bool
is_resynchronised t = is_current (mode_of t.recovery) && is_complete t.query

abbrev pub are_alike : List (ℕ × Node) → ℕ → Tunnel → Tunnel → Bool
are_alike nodes n t u =
    (is_resynchronised t && is_resynchronised u)
    && ((standing_in (at nodes n) t.control.local).epoch == (standing_in (at nodes (node_of t.control.peer)) u.control.local).epoch
    && agree n t.control u.control)

abbrev pub is_session : Option Call → Bool
is_session None = false
is_session (Some c) = is_up c.state

-- how many sessions a tunnel has: calls that are up
unfoldable pub session_count : List (ℕ × Call) → ℕ
session_count calls = count_by (λ s. is_session (at calls s)) (ids_of calls)

unfoldable pub agree_text : ℕ → Control → Control → ℕ → List ℕ
agree_text n t u count =
    ended (codes "agree" & decimal n & decimal t.local & decimal (node_of t.peer) & decimal u.local & decimal count)

unfoldable pub agree_with : List (ℕ × Node) → ℕ → Tunnel → Option Tunnel → List ℕ
agree_with nodes n t None = []
agree_with nodes n t (Some u) = if are_alike nodes n t u then agree_text n t.control u.control (session_count t.calls) else []

unfoldable pub agree_line : List (ℕ × Node) → ℕ → Option Tunnel → List ℕ
agree_line nodes n None = []
agree_line nodes n (Some t) = agree_with nodes n t (partner_of nodes t.control)

unfoldable pub node_agreements : List (ℕ × Node) → ℕ → Option Node → List ℕ
node_agreements nodes n None = []
node_agreements nodes n (Some node) =
    if is_lac node.end.role then flat_map (λ i. agree_line nodes n (at node.end.tunnels i)) (ids_of node.end.tunnels) else []

-- the tunnels of each LAC that agree with their partners at an LNS
unfoldable pub agreement_table : List (ℕ × Node) → List ℕ
agreement_table nodes = flat_map (λ n. node_agreements nodes n (at nodes n)) (ids_of nodes)

-- ---- the report

unfoldable pub tables : World → List ℕ
tables w = end_table w.nodes ++ agreement_table w.nodes

unfoldable pub unfit_text : ℕ → Why → List ℕ
unfit_text number x = codes "unfit line " ++ decimal number ++ codes ": " ++ why_word x ++ codes "\n"

-- the line, and the number of the packet that is more than half of the numbers below what its tunnel counts
unfoldable pub half_space_text : ℕ → ℕ → ℕ → List ℕ
half_space_text line number count =
    codes "half space line " ++ decimal line ++ codes ": number " ++ decimal number ++ codes ", at " ++ decimal count ++ codes "\n"

-- the line, the epoch in which the packet was sent, and the one that the tunnel is in which it is for
unfoldable pub stale_text : ℕ → ℕ → ℕ → List ℕ
stale_text line sent own =
    codes "stale line " ++ decimal line ++ codes ": packet epoch " ++ decimal sent ++ codes ", own epoch " ++ decimal own ++ codes "\n"

-- how many records the node's checkpoint has
unfoldable pub store_full_text : ℕ → List ℕ
store_full_text records = codes "store full: " ++ decimal records ++ codes "\n"

unfoldable pub refusal_text : ℕ → Refusal → List ℕ
refusal_text line (Unfit x) = unfit_text line x
refusal_text line (HalfSpace number count) = half_space_text line number count
refusal_text line (Stale sent own) = stale_text line sent own
refusal_text line (StoreFull records) = store_full_text records

-- the tables, or the text of the line that is refused
abbrev pub ending : World → Option (ℕ × Refusal) → List ℕ
ending w None = tables w
ending w (Some f) = refusal_text f.0 f.1

-- the texts of the entries, and the ending
unfoldable pub report_of : Run → List ℕ
report_of r = entries_text r.entries ++ ending r.world r.fault
