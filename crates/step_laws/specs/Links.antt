-- Frames that come up a call and go down one, and what its link is called for (RFC 1661).
use Rattle.std.specs.Prelude.{◌≡◌, ◌⊎◌, ℕ, true, false, List, Some, Ok}
use Rattle.l2tp_header.specs.declared.header.Header.{Header}
use Rattle.l2tp_header.specs.Reading.{header_of, body_of}
use Rattle.wire_base.specs.declared.cause.Cause.{Cause}
use Rattle.call_link.specs.Link.{Link, new_link}
use Rattle.call_link.specs.Turns.{Opens, Ticks, Hears}
use Rattle.call_link.specs.Laws.{LinkStep, turn_at}
use Rattle.end_model.specs.declared.event.Event.{Event}
use Rattle.end_model.specs.declared.event.Event.TheVariants.{Datagram, Payload, Lower, Lcp, Tick}
use Rattle.end_model.specs.declared.tunnel.Call.{Call}
use Rattle.end_model.specs.declared.tunnel.Control.{Control}
use Rattle.session_looks.specs.declared.look.Look.{Look}
use Rattle.session_looks.specs.declared.look.Look.TheVariants as look
use Rattle.end_names.specs.declared.role.Role.{Role}
use Rattle.end_names.specs.declared.role.Role.TheVariants.{Lns}
use Rattle.session_looks.specs.Frames.{frame_of, is_lcp}
use Rattle.end_model.specs.Links.{is_passing}
use Rattle.step_laws.specs.Letters.{Among}

-- a frame that a peer sent
pub record HearsFrame (ev : Event) (peer tunnel session : ℕ) (frame : List ℕ) : Type 0 where
  pub bytes : List ℕ
  pub is : ev ≡ Datagram peer bytes
  pub header : Header
  pub read : header_of bytes ≡ Ok header
  pub data_is : header.control ≡ false
  pub tunnel_is : header.tunnel ≡ tunnel
  pub session_is : header.session ≡ session
  pub frame_is : frame ≡ frame_of (body_of bytes header)

-- a frame of a peer for the link of a call, from its protocol field on
abbrev pub HearsLcp : Event → ℕ → ℕ → ℕ → List ℕ → Type 0
HearsLcp ev peer tunnel session frame =
    (ev ≡ Lcp session frame) ⊎ (HearsFrame ev peer tunnel session frame × (is_lcp frame ≡ true))

-- what the link of a call in a tunnel is called for: to be opened, as the call was connected; for its timer; or for a frame; with some random block
pub data IsCalled (ev : Event) (moment : ℕ) (c : Control) (session : ℕ) (l : Link) (by : LinkStep) : Type 0 where
  ToOpen : l ≡ new_link by.env → by.call ≡ Opens → IsCalled ev moment c session l by
  ForTime : ev ≡ Tick → by.call ≡ Ticks → IsCalled ev moment c session l by
  ForFrame : (peer : ℕ) (frame : List ℕ) → HearsLcp ev peer c.local session frame → by.call ≡ Hears frame → IsCalled ev moment c session l by

-- the link of a call, as it is called at the moment
pub record Calls (ev : Event) (moment : ℕ) (c : Control) (session : ℕ) (k : Call) : Type 0 where
  pub link : Link
  pub has : k.link ≡ Some link
  pub by : LinkStep
  pub at_moment : by.env.moment ≡ moment
  pub called : IsCalled ev moment c session link by

-- it gives such a frame
pub record GivesFrame (ev : Event) (moment : ℕ) (c : Control) (session : ℕ) (k : Call) (frame : List ℕ) : Type 0 where
  pub calls : Calls ev moment c session k
  pub among : Among frame (turn_at calls.by calls.link).frames

-- it ends the call for this cause
pub record EndsCall (ev : Event) (moment : ℕ) (c : Control) (session : ℕ) (k : Call) (why : Cause) : Type 0 where
  pub calls : Calls ev moment c session k
  pub ends : (turn_at calls.by calls.link).ends ≡ Some why

-- why a frame is sent in a call: the event gives it, and frames of the network pass; or the call's link does
pub data WhySent (ev : Event) (moment : ℕ) (c : Control) (session : ℕ) (k : Call) (frame : List ℕ) : Type 0 where
  IsGiven : (ev ≡ Payload session frame) ⊎ (ev ≡ Lower session frame) → is_passing k.link ≡ true → WhySent ev moment c session k frame
  IsOfLink : GivesFrame ev moment c session k frame → WhySent ev moment c session k frame

-- why a frame is handed up that came in a tunnel from a peer: all frames pass, or it is one of LCP and the peer knows the LNS's call
pub data Passes (role : Role) (seen : Look) (tunnel peer : ℕ) (frame : List ℕ) : Type 0 where
  AsAll : seen ≡ look.Established tunnel peer → Passes role seen tunnel peer frame
  AsLcp : seen ≡ look.Bound tunnel peer → role ≡ Lns → is_lcp frame ≡ true → Passes role seen tunnel peer frame
