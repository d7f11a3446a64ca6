-- What came to an end: a control message, whom it is for, and what it says.
use Rattle.std.specs.Prelude.{◌≡◌, refl, ℕ, ◌⊎◌, true, List, length, Some, unwrap_or, Ok}
use Rattle.l2tp_header.specs.declared.header.Header.{Header}
use Rattle.l2tp_header.specs.Reading.{header_of, body_of}
use Rattle.control_message.specs.declared.message.Message.{Message}
use Rattle.recv_window.specs.declared.Class.TheVariants.{Next}
use Rattle.recv_window.specs.Window.{class_of}
use Rattle.end_model.specs.declared.tunnel.Control.{Control}
use Rattle.end_model.specs.declared.event.Event.{Event}
use Rattle.end_model.specs.declared.event.Event.TheVariants.{Datagram}
use Rattle.end_model.specs.declared.event.Addressee.TheVariants.{Stops}
use Rattle.end_model.specs.declared.event.Addressee.TheVariants as addressee
use Rattle.end_model.specs.Reading.{message_in, CallFault, call_fault_in, at_zero}
use Rattle.end_model.specs.Tunnels.{Tunnel}

-- a control message as an end has it: who sent it, its header, and what follows the header
pub record Came : Type 0 where
  pub peer : ℕ
  pub header : Header
  pub body : List ℕ

-- it is the datagram of an event
pub record CameIn (ev : Event) (k : Came) : Type 0 where
  pub bytes : List ℕ
  pub is : ev ≡ Datagram k.peer bytes
  pub read : header_of bytes ≡ Ok k.header
  pub control : k.header.control ≡ true
  pub body_is : k.body ≡ body_of bytes k.header

-- it says this, with the session id of its header
pub record Says (k : Came) (session : ℕ) (m : Message) : Type 0 where
  pub session_is : k.header.session ≡ session
  pub said : message_in k.body ≡ Ok m

-- it has this fault, and is about a call
pub record SaysFaulty (k : Came) (session : ℕ) (f : CallFault) : Type 0 where
  pub session_is : k.header.session ≡ session
  pub fault : call_fault_in k.body ≡ Some f

-- it names no tunnel, as an SCCRQ doesn't, faulty or not, and is for the one whose peer assigned the id that it tells
pub record IsAgain (h : Header) (body : List ℕ) (c : Control) : Type 0 where
  pub none : h.tunnel ≡ 0
  pub opens : at_zero body ≡ addressee.Opens c.remote

-- it names no tunnel, as a StopCCN may, and is for the one whose peer assigned the id that it tells
pub record IsStop (h : Header) (body : List ℕ) (c : Control) : Type 0 where
  pub none : h.tunnel ≡ 0
  pub stops : at_zero body ≡ Stops c.remote

-- it names the tunnel, or is an SCCRQ that comes again, or a StopCCN
abbrev pub IsFor : Header → List ℕ → Control → Type 0
IsFor h body c = (h.tunnel ≡ c.local) ⊎ (IsAgain h body c ⊎ IsStop h body c)

-- what came is a message of the tunnel's peer, for the tunnel
pub record ComesTo (ev : Event) (c : Control) (k : Came) : Type 0 where
  pub came : CameIn ev k
  pub peer : k.peer ≡ c.peer
  pub tunnel : IsFor k.header k.body c

-- it is the next letter of the tunnel's peer, and no acknowledgement alone
pub record IsNext (ev : Event) (t : Tunnel) (k : Came) : Type 0 where
  pub comes : ComesTo ev t.control k
  pub some : length k.body ≡ 0 → ⊥
  pub next : class_of (unwrap_or k.header.ns 0) t.control.channel.inbox ≡ Next

-- the next letter, and what it says
pub record HearsNext (ev : Event) (t : Tunnel) (session : ℕ) (m : Message) : Type 0 where
  pub letter : Came
  pub next : IsNext ev t letter
  pub says : Says letter session m

-- the next letter, with what its body says
abbrev pub heard_so : (ev : Event) (t : Tunnel) (k : Came) (m : Message) → IsNext ev t k → message_in k.body ≡ Ok m → HearsNext ev t k.header.session m
heard_so ev t k m next said = record { letter = k; next = next; says = record { session_is = refl; said = said } }

-- a message for the tunnel, the next one or not, and what it says
pub record InTunnel (ev : Event) (c : Control) (session : ℕ) (m : Message) : Type 0 where
  pub letter : Came
  pub comes : ComesTo ev c letter
  pub says : Says letter session m

-- one about a call that has a fault
pub record IsFaulty (ev : Event) (c : Control) (session : ℕ) (f : CallFault) : Type 0 where
  pub letter : Came
  pub comes : ComesTo ev c letter
  pub says : SaysFaulty letter session f

-- a message of a peer, and what it says
pub record Hears (ev : Event) (peer session : ℕ) (m : Message) : Type 0 where
  pub letter : Came
  pub came : CameIn ev letter
  pub peer_is : letter.peer ≡ peer
  pub says : Says letter session m

-- such is the next letter of a tunnel's peer
abbrev pub heard_from : (ev : Event) (t : Tunnel) (k : Came) (m : Message) → IsNext ev t k → message_in k.body ≡ Ok m
    → Hears ev t.control.peer k.header.session m
heard_from ev t k m next said = record {
  letter = k;
  came = next.comes.came;
  peer_is = next.comes.peer;
  says = record { session_is = refl; said = said };
}

-- a message for the tunnel, with this Nr
pub record TellsNr (ev : Event) (c : Control) (nr : ℕ) : Type 0 where
  pub letter : Came
  pub comes : ComesTo ev c letter
  pub tells : nr ≡ unwrap_or letter.header.nr 0
