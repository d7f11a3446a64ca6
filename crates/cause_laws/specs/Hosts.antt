-- That each host is answered which asks for a service or for a session (RFC 2516 sections 5.1 to 5.4), apart from the functions that read its
-- frame and choose what is done.
use Rattle.std.specs.Prelude.{◌+◌, ◌-◌, take, drop, ◌≡◌, ℕ, ◌≤◌, true, false, List, [], ◌∷◌, ◌++◌, length, map, is_some, Option, Some, None, Ok}
use Rattle.std.specs.List.{flat_map}
use Rattle.id_table.specs.Ids.{at}
use Rattle.id_source.specs.Spaces.{takes_id}
use Rattle.wire_base.specs.declared.cause.Cause.{Cause}
use Rattle.schedule_text.specs.declared.line.Line.{Line}
use Rattle.schedule_text.specs.declared.line.Line.TheVariants.{Frame}
use Rattle.schedule_text.specs.Grammar.{AreLines}
use Rattle.pppoe_wire.specs.declared.frame.Pppoe.{Pppoe}
use Rattle.pppoe_wire.specs.declared.frame.Tag.{Tag}
use Rattle.pppoe_wire.specs.Reading.{frame_of, tags_of}
use Rattle.pppoe_wire.specs.Spelling.{frame_bytes}
use Rattle.pppoe_discovery.specs.Cookie.{cookie_of}
use Rattle.pppoe_discovery.specs.Discovery.{is_for}
use Rattle.pppoe_discovery.specs.Replies.{sent, pado, pads, refusal}
use Rattle.pppoe_discovery.specs.Told.{pads_to}
use Rattle.pppoe_discovery.specs.declared.outcome.Discovered.{Discovered}
use Rattle.pppoe_discovery.specs.declared.outcome.Discovered.TheVariants.{Admit}
use Rattle.pppoe_session.specs.declared.Subscriber.{Subscriber}
use Rattle.end_names.specs.Names.{host_name, mac_of}
use Rattle.end_model.specs.declared.event.Event.{Event}
use Rattle.end_model.specs.declared.event.Event.TheVariants as event
use Rattle.end_model.specs.End.{End, Stepped, step}
use Rattle.end_model.specs.Access.{Access, is_host}
use Rattle.world_model.specs.Texts.{Entry, Frames, Causes}
use Rattle.world_model.specs.World.{World, Deed, Lined, block_of, line}
use Rattle.world_model.specs.Run.{run}
use Rattle.step_laws.specs.Answers.{causes_of}
use Rattle.step_laws.specs.Rings.{IsRingCause}
use Rattle.step_laws.specs.Hosts.{LacAt}
use Rattle.cause_laws.specs.Refusals.{IsPadr, NoneIsOf, IsFirst, AsksFor, IsServed, IsRefusedFor}

-- ---- what hosts ask

-- a PADI with these tags, from one host, to this address or to all
pub record IsPadi (mac bytes src : List ℕ) (tags : List Tag) : Type 0 where
  pub frame : Pppoe
  pub reads : frame_of bytes ≡ Ok frame
  pub to : is_for mac frame ≡ true
  pub discovery : frame.session_stage ≡ false
  pub code : frame.code ≡ 0x09
  pub source : frame.src ≡ src
  pub reads_tags : tags_of frame.payload ≡ Ok tags

-- the value of the first tag of a kind, or that there is none
pub data HasValue (kind : ℕ) (tags : List Tag) : Option (List ℕ) → Type 0 where
  AtNone : NoneIsOf kind tags → HasValue kind tags None
  AtFirst : (t : Tag) → IsFirst kind t tags → HasValue kind tags (Some t.value)

-- its one Service-Name is of a service that is served, and these are its Host-Uniq (0103) and Relay-Session-Id (0110)
pub record IsAsked (tags : List Tag) (service : List ℕ) (uniq relay : Option (List ℕ)) : Type 0 where
  pub served : IsServed service
  pub asks : AsksFor tags service
  pub uniq_is : HasValue 0x0103 tags uniq
  pub relay_is : HasValue 0x0110 tags relay

-- its first AC-Cookie holds the cookie of its host
pub record HasCookie (key src : List ℕ) (tags : List Tag) : Type 0 where
  pub tag : Tag
  pub first : IsFirst 0x0104 tag tags
  pub value : tag.value ≡ cookie_of key src

-- ---- hosts that came before

abbrev pub CameBy : List ℕ → Option (List ℕ) → ℕ × Subscriber → Type 0
CameBy src uniq held = (held.1.mac ≡ src) × (held.1.uniq ≡ uniq)

-- a host that a LAC holds came by this address and Host-Uniq, and has this session
pub record IsHeld (a : Access) (src : List ℕ) (uniq : Option (List ℕ)) (session : ℕ) : Type 0 where
  pub before : List (ℕ × Subscriber)
  pub who : Subscriber
  pub after : List (ℕ × Subscriber)
  pub held : a.held ≡ before ++ (session, who) ∷ after
  pub came : CameBy src uniq (session, who)

-- there is one such session at most: as a host enters that came so before, it isn't the holder of the session that it had
abbrev pub IsHeldOnce : Access → Type 0
IsHeldOnce a = (src : List ℕ) (uniq : Option (List ℕ)) (s t : ℕ) → IsHeld a src uniq s → IsHeld a src uniq t → s ≡ t

-- the host of no live call
abbrev pub IsNew : Access → End → List ℕ → Option (List ℕ) → Type 0
IsNew a e src uniq = (session : ℕ) → IsHeld a src uniq session → is_some (at e.calls session) ≡ true → ⊥

-- ---- what a frame brings

-- a frame to this address about a call that is live, from the call's host
pub record IsOfCall (a : Access) (e : End) (bytes : List ℕ) (f : Pppoe) : Type 0 where
  pub reads : frame_of bytes ≡ Ok f
  pub to : is_for (mac_of e.config.number) f ≡ true
  pub live : is_some (at e.calls f.session) ≡ true
  pub holds : is_host a f.src f.session ≡ true

-- what the host of a call does: it sends a session frame (00), whose payload goes into the call, or leaves by a PADT (a7)
pub data HostActs (a : Access) (e : End) (bytes : List ℕ) : Event → Type 0 where
  HostSends : (f : Pppoe) → IsOfCall a e bytes f → f.session_stage ≡ true → f.code ≡ 0
      → HostActs a e bytes (event.Payload f.session (take (f.end - f.start) (drop f.start bytes)))
  HostLeaves : (f : Pppoe) → IsOfCall a e bytes f → f.session_stage ≡ false → f.code ≡ 0xa7 → HostActs a e bytes (event.Hang f.session)

-- the event that an Ethernet frame of no more than 2,048 bytes is for the LAC to which it comes: what the host of a call does in it, or that a
-- host wants one, by a PADR with its cookie that doesn't repeat that of a live call
pub data FrameBrings (w : World) (n : ℕ) (bytes : List ℕ) (ev : Event) : Type 0 where
  ByItsHost : (l : LacAt w n) → length bytes ≤ 2048 → HostActs l.access l.node.end bytes ev → FrameBrings w n bytes ev
  ByAPadr : (l : LacAt w n) (src service : List ℕ) (tags : List Tag) (uniq relay : Option (List ℕ)) → length bytes ≤ 2048
      → IsPadr (mac_of l.node.end.config.number) bytes src tags → IsAsked tags service uniq relay → HasCookie l.access.key src tags
      → IsNew l.access l.node.end src uniq → ev ≡ event.Admitted src → FrameBrings w n bytes ev

-- ---- answers

-- a host that entered gets the PADS of the session that was drawn for it, where its call lives after the step; else the step tells one cause,
-- of those for which a ring is refused, and no other, no call is made, and the host gets the PADS that refuses so
pub data AnswersEntry (before : End) (asked : Discovered) (s : Stepped) (frame : List ℕ) : Type 0 where
  WithSession : (session : ℕ) → takes_id before.session_ids ≡ Ok session → is_some (at s.end.calls session) ≡ true
      → frame ≡ pads_to (mac_of before.config.number) asked session None → AnswersEntry before asked s frame
  WithCause : (c : Cause) → IsRingCause c → causes_of s.outputs ≡ c ∷ [] → s.end.calls ≡ before.calls
      → ((session : ℕ) → takes_id before.session_ids ≡ Ok session → is_some (at s.end.calls session) ≡ false)
      → frame ≡ pads_to (mac_of before.config.number) asked 0 (Some c) → AnswersEntry before asked s frame

abbrev pub frame_in : Entry → List Entry
frame_in (Frames number n bytes) = Frames number n bytes ∷ []
frame_in e = []

-- the entries of frames to hosts
abbrev pub frames_in : List Entry → List Entry
frames_in es = flat_map frame_in es

abbrev pub cause_in : Entry → List Entry
cause_in (Causes number n c) = Causes number n c ∷ []
cause_in e = []

-- and those of causes
abbrev pub causes_in : List Entry → List Entry
causes_in es = flat_map cause_in es

-- the line tells this frame to the host, and nothing else, and nothing is done
pub record TellsOnly (number n : ℕ) (frame : List ℕ) (x : Lined) : Type 0 where
  pub entries : x.entries ≡ Frames number n frame ∷ []
  pub done : x.done ≡ []

-- among whatever else the line tells, one frame goes to a host, and no more than one: a PADS (65) to this host
pub record TellsPads (number n : ℕ) (mac src : List ℕ) (x : Lined) : Type 0 where
  pub session : ℕ
  pub payload : List ℕ
  pub only : frames_in x.entries ≡ Frames number n (frame_bytes (sent mac src 0x65 session payload)) ∷ []

-- the line tells this cause and this frame to the host, and nothing else, and nothing is done
pub record TellsRefusal (number n : ℕ) (c : Cause) (frame : List ℕ) (x : Lined) : Type 0 where
  pub entries : x.entries ≡ Causes number n c ∷ Frames number n frame ∷ []
  pub done : x.done ≡ []

-- the host's address rings at the LAC: what is done are the moves of that step, and its causes are told and no other; and one frame goes to
-- the host, and no more than one, by what the ring came to
pub record HostEnters (w : World) (number n : ℕ) (bytes : List ℕ) (l : LacAt w n) (src : List ℕ) (asked : Discovered) (x : Lined) : Type 0 where
  pub brings : FrameBrings w n bytes (event.Admitted src)
  pub done : map (λ (d : Deed). d.move) x.done ≡ (step l.node.end l.node.clock (block_of n number) (event.Admitted src)).moves
  pub causes : causes_in x.entries ≡ map (λ c. Causes number n c) (causes_of (step l.node.end l.node.clock (block_of n number) (event.Admitted src)).outputs)
  pub frame : List ℕ
  pub only : frames_in x.entries ≡ Frames number n frame ∷ []
  pub answers : AnswersEntry l.node.end asked (step l.node.end l.node.clock (block_of n number) (event.Admitted src)) frame

-- What follows on a frame of no more than 2,048 bytes to a LAC. A PADI for a service that is served is answered by its PADO alone; each PADR by
-- one PADS. Where discovery refuses it, that is the PADS with the cause, which is told, and nothing is done; where it has the cookie of its
-- host and repeats that of a live call, it is the PADS of that call alone; and else the host enters. Of these only the step of a host that
-- enters may be cut off by a stop; a step that a stop cut off is left out there.
pub record HostIsAnswered (w : World) (number n : ℕ) (bytes : List ℕ) (l : LacAt w n) (x : Lined) : Type 0 where
  pub padi : (src service : List ℕ) (tags : List Tag) (uniq relay : Option (List ℕ)) → IsPadi (mac_of l.node.end.config.number) bytes src tags
      → IsAsked tags service uniq relay
      → TellsOnly number n
      (frame_bytes (pado (mac_of l.node.end.config.number) src service (host_name l.node.end.role l.node.end.config.number) (cookie_of l.access.key src) uniq relay))
      x
  pub padr : x.cut ≡ false → (src : List ℕ) (tags : List Tag) → IsPadr (mac_of l.node.end.config.number) bytes src tags
      → TellsPads number n (mac_of l.node.end.config.number) src x
  pub refused : (src : List ℕ) (tags : List Tag) (uniq relay : Option (List ℕ)) (c : Cause) → IsPadr (mac_of l.node.end.config.number) bytes src tags
      → HasValue 0x0103 tags uniq → HasValue 0x0110 tags relay → IsRefusedFor l.access.key src tags c
      → TellsRefusal number n c (frame_bytes (refusal (mac_of l.node.end.config.number) src c uniq relay)) x
  pub repeated : (src service : List ℕ) (tags : List Tag) (uniq relay : Option (List ℕ)) (session : ℕ)
      → IsPadr (mac_of l.node.end.config.number) bytes src tags → IsAsked tags service uniq relay → HasCookie l.access.key src tags
      → IsHeld l.access src uniq session → is_some (at l.node.end.calls session) ≡ true
      → TellsOnly number n (frame_bytes (pads (mac_of l.node.end.config.number) src session service uniq relay)) x
  pub entered : x.cut ≡ false → (src service : List ℕ) (tags : List Tag) (uniq relay : Option (List ℕ))
      → IsPadr (mac_of l.node.end.config.number) bytes src tags → IsAsked tags service uniq relay → HasCookie l.access.key src tags
      → IsNew l.access l.node.end src uniq → HostEnters w number n bytes l src (Admit src service uniq relay) x

-- so it is where a line brings the frame
abbrev pub AnswersHosts : World → ℕ → Line → Type 0
AnswersHosts w number l = (x : Lined) → line w number l ≡ Ok x → (n : ℕ) (bytes : List ℕ) → l ≡ Frame n bytes → length bytes ≤ 2048
    → (lac : LacAt w n) → HostIsAnswered w number n bytes lac x

-- the host of a call is held on as long as the call lives and the LAC is up: it is held after a line if it was held before it, and the
-- call lived then
abbrev pub IsHeldOn : World → ℕ → Line → Type 0
IsHeldOn w number l = (x : Lined) → line w number l ≡ Ok x → (n : ℕ) (before : LacAt w n) (after : LacAt x.world n)
    → (src : List ℕ) (uniq : Option (List ℕ)) (session : ℕ) → IsHeld before.access src uniq session
    → is_some (at before.node.end.calls session) ≡ true → IsHeld after.access src uniq session

-- of each LAC of each run
abbrev pub HostsOfRuns : Type 0
HostsOfRuns = (lines : List Line) → AreLines lines → (n : ℕ) (lac : LacAt (run lines).world n) → IsHeldOnce lac.access

-- at each line of each run
abbrev pub HostsAreHeldOn : Type 0
HostsAreHeldOn = (lines : List Line) → AreLines lines → (before after : List Line) (l : Line) → lines ≡ before ++ l ∷ after
    → IsHeldOn (run before).world (length before + 1) l
