-- What Ethernet frames are to a LAC, which PPPoE hosts come to (RFC 2516).
use Rattle.std.specs.Cmp.Lexicographic.{pointwise}
use Rattle.std.specs.Prelude.{ℕ, nat_eq, ◌-◌, ◌%◌, List, [], ◌∷◌, length, take, drop, Bool, true, false, nat_lt, if◌then◌else◌, Option, Some, None, is_some, Result, Ok, Err}
use Rattle.id_table.specs.Ids.{at}
use Rattle.id_source.specs.Spaces.{takes_id}
use Rattle.id_source.specs.declared.IdError.{IdError}
use Rattle.wire_base.specs.declared.why.Why.{Why}
use Rattle.wire_base.specs.declared.why.Why.TheVariants as why
use Rattle.wire_base.specs.declared.cause.Cause.{Cause}
use Rattle.wire_base.specs.declared.cause.Cause.TheVariants as cause
use Rattle.pppoe_wire.specs.Spelling.{frame_bytes}
use Rattle.pppoe_session.specs.declared.Subscriber.{Subscriber}
use Rattle.pppoe_session.specs.Subscribers.{subscriber_of, subscriber, holder_of, admitted, dropped, repeat_in}
use Rattle.pppoe_discovery.specs.declared.outcome.Discovered.{Discovered}
use Rattle.pppoe_discovery.specs.declared.outcome.Discovered.TheVariants as outcome
use Rattle.pppoe_discovery.specs.Discovery.{discovered}
use Rattle.pppoe_discovery.specs.Replies.{padt}
use Rattle.pppoe_discovery.specs.Told.{pads_to}
use Rattle.end_model.specs.declared.event.Event.{Event}
use Rattle.end_model.specs.declared.event.Event.TheVariants.{Payload, Hang, Frame, Admitted}
use Rattle.end_model.specs.declared.out.Out.{Out}
use Rattle.end_model.specs.declared.out.Out.TheVariants.{Drop, Cause as Refused}
use Rattle.end_names.specs.declared.role.Role.{Role}
use Rattle.end_names.specs.declared.role.Role.TheVariants.{Lac, Lns}
use Rattle.end_names.specs.Names.{host_name, mac_of}
use Rattle.end_model.specs.declared.moves.Move.{Move}
use Rattle.end_model.specs.End.{End, Stepped, step}

-- the key of the cookies, and the hosts that were admitted, by the sessions of their calls. A host whose call ended stays until it
-- comes again: no session is drawn twice, so it stands in nobody's way.
pub record Access : Type 0 where
  pub key : List ℕ
  pub held : List (ℕ × Subscriber)
  -- the hosts of the calls that were kept over a start; their PADRs aren't known any more
  pub kept : List (ℕ × Subscriber)

abbrev pub new_access : List ℕ → Access
new_access key = record { key = key; held = []; kept = [] }

-- a LAC is made with no hosts, and an LNS has none
abbrev pub access_with : Role → List ℕ → Option Access
access_with Lac key = Some (new_access key)
access_with Lns key = None

-- what a frame is to a LAC
pub data Coming : Type 0 where
  -- it is ignored
  Ignores : (word : Why) → Coming
  -- it is answered by a frame, where there is a cause by one that refuses
  Answers : (because : Option Cause) (frame : List ℕ) → Coming
  -- the host of a call sends a frame in it, or leaves
  Runs : (ev : Event) → Coming
  -- a host that was admitted wants a call
  Enters : (src : List ℕ) (uniq : Option (List ℕ)) (asked : Discovered) → Coming

-- ---- frames of calls

abbrev pub of_call : Bool → Bool → Event → Coming
of_call false is ev = Ignores why.Call
of_call true false ev = Ignores why.Address
of_call true true ev = Runs ev

-- the host of a call, or that of one that was kept
abbrev pub or_kept : List (ℕ × Subscriber) → ℕ → Option (List ℕ) → Option (List ℕ)
or_kept kept session (Some mac) = Some mac
or_kept kept session None = holder_of kept session

unfoldable pub holder : Access → ℕ → Option (List ℕ)
holder a session = or_kept a.kept session (holder_of a.held session)

-- a frame with this source comes from that host
abbrev pub is_mac : List ℕ → Option (List ℕ) → Bool
is_mac src None = false
is_mac src (Some mac) = pointwise nat_eq mac src

abbrev pub is_host : Access → List ℕ → ℕ → Bool
is_host a src session = is_mac src (holder a session)

-- the call is to be live, and its host the source
abbrev pub about_call : Access → End → List ℕ → ℕ → Event → Coming
about_call a e src session ev = of_call (is_some (at e.calls session)) (is_host a src session) ev

-- ---- hosts that want a call

-- one that repeats the PADR of a live call gets the session of that call again
abbrev pub wants_call : Access → End → List ℕ → Option (List ℕ) → Discovered → Option ℕ → Coming
wants_call a e src uniq asked None = Enters src uniq asked
wants_call a e src uniq asked (Some session) =
    if is_some (at e.calls session) then Answers None (pads_to (mac_of e.config.number) asked session None) else Enters src uniq asked

-- ---- what came

unfoldable pub led_to : Access → End → List ℕ → Discovered → Coming
led_to a e bytes (outcome.Ignored word) = Ignores word
led_to a e bytes (outcome.Reply because frame) = Answers because frame
led_to a e bytes (outcome.Admit src service uniq relay) =
    wants_call a e src uniq (outcome.Admit src service uniq relay) (repeat_in a.held src uniq)
led_to a e bytes (outcome.Left src session) = about_call a e src session (Hang session)
led_to a e bytes (outcome.Carried src session start stop) = about_call a e src session (Payload session (take (stop - start) (drop start bytes)))

-- a frame of more than 2,048 bytes is ignored whatever it is
unfoldable pub coming : Access → End → List ℕ → Coming
coming a e bytes =
    if nat_lt 2048 (length bytes) then Ignores why.Long
    else led_to a e bytes (discovered a.key (mac_of e.config.number) (host_name e.role e.config.number) bytes)

-- ---- a host that was admitted

-- the session that was drawn for it, where the step made a call
abbrev pub live_in : End → Result ℕ IdError → Option ℕ
live_in e (Err x) = None
live_in e (Ok session) = if is_some (at e.calls session) then Some session else None

abbrev pub session_got : End → Stepped → Option ℕ
session_got before s = live_in s.end (takes_id before.session_ids)

-- a ring is refused for these alone
abbrev pub ring_cause : Cause → Cause
ring_cause cause.Tunnels = cause.Tunnels
ring_cause cause.Calls = cause.Calls
ring_cause cause.Queue = cause.Queue
ring_cause cause.Recovering = cause.Recovering
ring_cause other = cause.Ids

-- why it was, by what the step gave
unfoldable pub refusal_in : List Out → Cause
refusal_in [] = cause.Ids
refusal_in (Refused c ∷ os) = ring_cause c
refusal_in (o ∷ os) = refusal_in os

abbrev pub pads_for : End → Discovered → List Out → Option ℕ → List ℕ
pads_for e asked outputs (Some session) = pads_to (mac_of e.config.number) asked session None
pads_for e asked outputs None = pads_to (mac_of e.config.number) asked 0 (Some (refusal_in outputs))

-- what its PADR is answered by
unfoldable pub pads_of : End → Discovered → Stepped → List ℕ
pads_of before asked s = pads_for before asked s.outputs (session_got before s)

abbrev pub holds : List (ℕ × Subscriber) → ℕ → Subscriber → List (ℕ × Subscriber)
holds es session who = if is_some (subscriber_of es session) then es else admitted es session who

-- where it had a call before, it isn't the holder of that one any more
abbrev pub forgets : Option ℕ → List (ℕ × Subscriber) → List (ℕ × Subscriber)
forgets None es = es
forgets (Some old) es = dropped es old

abbrev pub with_host : Access → List ℕ → Option (List ℕ) → Option ℕ → Access
with_host a src uniq None = a
with_host a src uniq (Some session) = record a { held = forgets (repeat_in a.held src uniq) (holds a.held session (subscriber src uniq)) }

unfoldable pub entered : Access → End → List ℕ → Option (List ℕ) → Stepped → Access
entered a before src uniq s = with_host a src uniq (session_got before s)

-- ---- a call that ended

abbrev pub padt_to : ℕ → ℕ → Option (List ℕ) → Option (List ℕ)
padt_to n session None = None
padt_to n session (Some mac) = Some (frame_bytes (padt (mac_of n) mac session))

-- the PADT to its host, where a host had it; a session id has 16 bits
unfoldable pub farewell : ℕ → Access → ℕ → Option (List ℕ)
farewell n a session = padt_to n (session % 65536) (holder a (session % 65536))

-- ---- what a LAC does

-- a LAC is an end, with what it keeps of hosts
pub record Concentrator : Type 0 where
  pub end : End
  pub access : Access

-- the next LAC, what the step gave, and the frame that answers a host behind all that
pub record Served : Type 0 where
  pub lac : Concentrator
  pub outputs : List Out
  pub moves : List Move
  pub reply : Option (List ℕ)

abbrev pub as_it_was : Concentrator → List Out → Option (List ℕ) → Served
as_it_was l outputs reply = record { lac = l; outputs = outputs; moves = []; reply = reply }

abbrev pub of_step : Access → Option (List ℕ) → Stepped → Served
of_step a reply s = record { lac = record { end = s.end; access = a }; outputs = s.outputs; moves = s.moves; reply = reply }

abbrev pub told_because : Option Cause → List Out
told_because None = []
told_because (Some c) = Refused c ∷ []

unfoldable pub admits : Concentrator → List ℕ → Option (List ℕ) → Discovered → Stepped → Served
admits l src uniq asked s = of_step (entered l.access l.end src uniq s) (Some (pads_of l.end asked s)) s

unfoldable pub does : Concentrator → ℕ → List ℕ → Coming → Served
does l moment block (Ignores word) = as_it_was l (Drop word ∷ []) None
does l moment block (Answers because frame) = as_it_was l (told_because because) (Some frame)
does l moment block (Runs ev) = of_step l.access None (step l.end moment block ev)
does l moment block (Enters src uniq asked) = admits l src uniq asked (step l.end moment block (Admitted src))

-- a frame is what it is to the LAC; that a host was admitted is for the LAC alone to say
unfoldable pub serves : Concentrator → ℕ → List ℕ → Event → Served
serves l moment block (Frame bytes) = does l moment block (coming l.access l.end bytes)
serves l moment block (Admitted mac) = as_it_was l (Drop why.Node ∷ []) None
serves l moment block ev = of_step l.access None (step l.end moment block ev)
