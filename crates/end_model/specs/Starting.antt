-- What an end is after a crash, and how it starts again over what its checkpoint kept.
use Rattle.std.specs.Prelude.{ℕ, ◌+◌, ◌%◌, ◌&&◌, ◌==◌, List, [], ◌∷◌, ◌++◌, map, Bool, true, false, if◌then◌else◌, Option, Some, None, Result, Ok, Err}
use Rattle.id_source.specs.Spaces.{space_from, takes_id}
use Rattle.id_source.specs.declared.IdError.{IdError}
use Rattle.session_book.specs.declared.record.BookTunnel.{BookTunnel}
use Rattle.session_book.specs.declared.record.BookCall.{BookCall}
use Rattle.session_book.specs.Books.{Kept, calls_of}
use Rattle.session_looks.specs.declared.look.CellChange.{CellChange}
use Rattle.session_looks.specs.declared.look.CellChange.TheVariants as cell
use Rattle.control_channel.specs.Numbers.{opened_at, frozen_so}
use Rattle.tunnel_fsm.specs.declared.table.TunnelState.TheVariants as state
use Rattle.call_fsm.specs.declared.table.CallState.TheVariants as call
use Rattle.call_link.specs.Link.{Link, new_link}
use Rattle.call_link.specs.Turns.{linked, Opens}
use Rattle.pppoe_session.specs.declared.Subscriber.{Subscriber}
use Rattle.pppoe_session.specs.Subscribers.{subscriber}
use Rattle.end_names.specs.declared.role.Role.{Role}
use Rattle.end_names.specs.declared.role.Role.TheVariants.{Lac, Lns}
use Rattle.end_model.specs.declared.tunnel.Call.{Call}
use Rattle.end_model.specs.declared.tunnel.Config.{Config}
use Rattle.end_model.specs.declared.tunnel.Control.{Control}
use Rattle.end_model.specs.declared.out.Out.{Out}
use Rattle.end_model.specs.declared.out.Out.TheVariants.{Gone}
use Rattle.end_model.specs.declared.moves.Move.{Move}
use Rattle.end_model.specs.declared.moves.Move.TheVariants.{Restored, Forgot}
use Rattle.end_model.specs.Access.{Access, holds}
use Rattle.end_model.specs.Calls.{idle_call, first_number}
use Rattle.end_model.specs.End.{End, Stepped, env_of, after_turn}
use Rattle.end_model.specs.Linking.{links}
use Rattle.end_model.specs.Links.{link_env}
use Rattle.end_model.specs.Openings.{fresh}
use Rattle.end_model.specs.Recovering.{RecoveryTurn, attempted}
use Rattle.end_model.specs.Secrets.{challenge_by}
use Rattle.end_model.specs.Tunnels.{Ground, Env, Turn, turn_of}
use Rattle.end_model.specs.Turn.{with_move, with_looks_of}

-- it has no tunnel, and draws above the ceilings that it committed
abbrev pub bare_end : Role → Config → Kept → End
bare_end r c k = record {
  role = r;
  config = c;
  tunnel_ids = space_from 65535 k.tunnel_ceiling;
  session_ids = space_from 65534 k.session_ceiling;
  recovery_ids = space_from 4294967295 k.draw_ceiling;
  tunnels = [];
  calls = [];
}

-- ---- a start

-- a tunnel that was kept: its channel does nothing until it is reset
abbrev pub kept_control : ℕ → BookTunnel → Control
kept_control moment b = record (fresh b.peer moment) {
  local = b.local;
  remote = b.remote;
  state = state.Established;
  channel = frozen_so (opened_at 0 0 b.window);
  flags = b.flags;
  mark = b.mark;
}

-- a call that was kept; at an LNS its link begins anew
abbrev pub kept_link : Role → Ground → Option Link
kept_link Lac g = None
kept_link Lns g = Some (new_link (link_env g))

abbrev pub kept_call : Role → Ground → BookCall → Call
kept_call r g c = record (idle_call c.remote c.subscriber) {
  state = call.Established;
  since = g.moment;
  link = kept_link r g;
  sequence = first_number c.sequenced;
}

-- at a LAC frames pass in it at once
abbrev pub kept_looks : Role → ℕ → ℕ → ℕ → List CellChange
kept_looks Lac s tunnel peer = cell.Bind s tunnel peer ∷ cell.Establish s ∷ []
kept_looks Lns s tunnel peer = cell.Bind s tunnel peer ∷ []

-- the calls of a tunnel come back, by local ids
unfoldable pub keeps_calls : Role → List BookCall → Turn → Turn
keeps_calls r [] t = t
keeps_calls r (c ∷ cs) t =
    keeps_calls r cs
    (with_looks_of (kept_looks r c.local t.control.local t.control.peer)
    (record t { changed = t.changed ++ (c.local, Some (kept_call r t.on c)) ∷ []; added = t.added ++ c.local ∷ [] }))

-- and the link of each is opened
unfoldable pub opens_link : Role → ℕ → Call → Option Link → Turn → Turn
opens_link r s c None t = t
opens_link r s c (Some l) t = links r [] s c (linked (link_env t.on) Opens l) t

unfoldable pub opens_links : Role → List BookCall → Turn → Turn
opens_links r [] t = t
opens_links r (c ∷ cs) t = let k = kept_call r t.on c in opens_links r cs (opens_link r c.local k k.link t)

abbrev pub restored_move : Config → List BookCall → BookTunnel → ℕ → ℕ → Turn → Move
restored_move c calls b local draw t =
    Restored (record { tunnel = b; calls = calls; attempt = local; draw = draw; challenge = challenge_by c.secret t.on.block })

-- the calls are there, the SCCRQ that asks for the recovery goes, and then the links are opened
unfoldable pub restores : Role → Config → List BookCall → BookTunnel → ℕ → ℕ → Turn → RecoveryTurn
restores r c calls b local draw t =
    let u = attempted r c local draw (with_move (restored_move c calls b local draw t) (keeps_calls r calls t)) in
    record u { turn = opens_links r calls u.turn }

-- the calls that go with a tunnel, by local ids
abbrev pub gone_with : List BookCall → List Out
gone_with calls = map (λ (c : BookCall). Gone c.local) calls

-- it is given up with its calls: its peer isn't told, as the numbers of its control channel are lost
unfoldable pub forgets : End → List BookCall → BookTunnel → Stepped
forgets e calls b = record { end = e; outputs = gone_with calls; moves = Forgot (record { tunnel = b.local }) ∷ [] }

-- its peer can recover its control channel
abbrev pub can_recover : BookTunnel → Bool
can_recover b = b.flags % 2 == 1

unfoldable pub restored_by : End → Env → List BookCall → BookTunnel → Result ℕ IdError → Result ℕ IdError → Stepped
restored_by e env calls b (Ok local) (Ok draw) =
    let r = restores e.role e.config calls b local draw (turn_of (kept_control env.on.moment b) env) in
    after_turn e b.local [] [] r.recovery r.turn
restored_by e env calls b local draw = forgets e calls b

unfoldable pub restored : Kept → End → Env → BookTunnel → Stepped
restored k e env b =
    if can_recover b then restored_by e env (calls_of b.local k.calls) b (takes_id env.ids.tunnels) (takes_id env.ids.recoveries)
    else forgets e (calls_of b.local k.calls) b

abbrev pub behind_all : Stepped → Stepped → Stepped
behind_all first s = record s { outputs = first.outputs ++ s.outputs; moves = first.moves ++ s.moves }

unfoldable pub restored_all : Kept → ℕ → List ℕ → List BookTunnel → Stepped → Stepped
restored_all k moment block [] s = s
restored_all k moment block (b ∷ bs) s =
    restored_all k moment block bs (behind_all s (restored k s.end (env_of s.end moment block) b))

-- each tunnel that was kept, by local ids
unfoldable pub starts : Role → Config → Kept → ℕ → List ℕ → Stepped
starts r c k moment block = restored_all k moment block k.tunnels (record { end = bare_end r c k; outputs = []; moves = [] })

-- ---- the hosts of calls that were kept

-- the bytes of a subscriber that aren't an Ethernet address: what stands in its place for a port
abbrev pub is_port : List ℕ → Bool
is_port (a ∷ b ∷ who) = (a == 255) && (b == 255)
is_port who = false

-- its PADR is lost, and with it the Host-Uniq
abbrev pub kept_host : BookCall → List (ℕ × Subscriber) → List (ℕ × Subscriber)
kept_host c es = if is_port c.subscriber then es else holds es c.local (subscriber c.subscriber None)

unfoldable pub kept_hosts : List BookCall → List (ℕ × Subscriber) → List (ℕ × Subscriber)
kept_hosts [] es = es
kept_hosts (c ∷ cs) es = kept_hosts cs (kept_host c es)

-- a LAC starts with a new key for its cookies, and an LNS has no hosts
abbrev pub access_over : Role → List ℕ → Kept → Option Access
access_over Lac key k = Some (record { key = key; held = []; kept = kept_hosts k.calls [] })
access_over Lns key k = None
