-- What is wrong with a message: the first fault of its pairs, by the codec's relations, and the cause that tells of it. It stands apart from
-- the functions that choose the cause.
use Rattle.std.specs.Prelude.{◌≡◌, ◌⊎◌, ℕ, List, Ok}
use Rattle.wire_base.specs.declared.cause.Cause.{Cause as CauseOf}
use Rattle.wire_base.specs.declared.cause.Cause.TheVariants as cause
use Rattle.avp_codec.specs.declared.avp.Avp.{Avp}
use Rattle.avp_codec.specs.Reading.{avps_of}
use Rattle.avp_codec.specs.Spelling.{spelling, AreAvps}
use Rattle.control_message.specs.declared.kind.Kinds.TheVariants.{Queries}
use Rattle.control_message.specs.declared.kind.Kind.{Kind}
use Rattle.control_message.specs.declared.kind.Kind.TheVariants as kind
use Rattle.control_message.specs.declared.message.MessageError.{MessageError}
use Rattle.control_message.specs.declared.message.MessageError.TheVariants.{NoType, UnknownType, UnknownMandatory, HiddenWithoutVector, BadValue, Missing}
use Rattle.control_message.specs.Faults.{IsOfKind, IsFault}
use Rattle.control_message.specs.Grammar.{HasNoPlainShort}
use Rattle.tunnel_fsm.specs.declared.table.TunnelEvent.{TunnelEvent}
use Rattle.tunnel_fsm.specs.declared.table.TunnelEvent.TheVariants as event

-- ---- the first fault

-- it is the spelling of no list of pairs (RFC 2661 section 4.1)
abbrev pub IsUnreadable : List ℕ → Type 0
IsUnreadable body = (avps : List Avp) → AreAvps avps → body ≡ spelling avps → ⊥

-- the first fault of its pairs: the type comes first, then the pairs from the front, then what isn't there
pub record HasFirst (body : List ℕ) (x : MessageError) : Type 0 where
  pub pairs : List Avp
  pub read : avps_of body ≡ Ok pairs
  pub fault : IsFault Queries pairs x

-- the fault of a message that a cause tells: a value that it needs isn't there, has another form or can't be uncovered, or is hidden with no
-- Random Vector before it; a pair, or the type, has to be understood and isn't known; the type is wanting; or the bytes are no list of pairs
pub data TellsFault (body : List ℕ) : CauseOf → Type 0 where
  ValueIsWanting : (n : ℕ) → HasFirst body (Missing n) → TellsFault body cause.Value
  ValueIsBad : (n : ℕ) → HasFirst body (BadValue n) → TellsFault body cause.Value
  ValueIsHidden : (n : ℕ) → HasFirst body (HiddenWithoutVector n) → TellsFault body cause.Value
  PairIsUnknown : (vendor n : ℕ) → HasFirst body (UnknownMandatory vendor n) → TellsFault body cause.Mandatory
  TypeIsUnknown : (n : ℕ) → HasFirst body (UnknownType n) → TellsFault body cause.Mandatory
  TypeIsWanting : HasFirst body NoType → TellsFault body cause.Avp
  IsNoList : IsUnreadable body → TellsFault body cause.Avp

-- ---- what it is about

-- its Message Type names this kind, whatever else its pairs say
pub record IsOf (body : List ℕ) (k : Kind) : Type 0 where
  pub pairs : List Avp
  pub read : avps_of body ≡ Ok pairs
  pub names : IsOfKind Queries pairs k

-- about a call
abbrev pub IsAboutCall : Kind → Type 0
IsAboutCall kind.Icrq = Unit {0}
IsAboutCall kind.Icrp = Unit {0}
IsAboutCall kind.Iccn = Unit {0}
IsAboutCall kind.Cdn = Unit {0}
IsAboutCall kind.Wen = Unit {0}
IsAboutCall kind.Sli = Unit {0}
IsAboutCall kind.Ocrq = Unit {0}
IsAboutCall k = ⊥

-- about the setting up or the end of a tunnel
abbrev pub IsAboutTunnel : Kind → Type 0
IsAboutTunnel kind.Sccrq = Unit {0}
IsAboutTunnel kind.Sccrp = Unit {0}
IsAboutTunnel kind.Scccn = Unit {0}
IsAboutTunnel kind.StopCcn = Unit {0}
IsAboutTunnel k = ⊥

-- a request for a call, of which a value is wrong, and which tells no session id: no CDN can answer it
pub record CantBeAnswered (body : List ℕ) (k : Kind) (c : CauseOf) : Type 0 where
  pub asks : (k ≡ kind.Icrq) ⊎ (k ≡ kind.Ocrq)
  pub value : c ≡ cause.Value
  pub none : (pairs : List Avp) → avps_of body ≡ Ok pairs → HasNoPlainShort 14 pairs

-- the event of the tunnel's table that a faulty message is: an opening or a connection isn't acceptable, a StopCCN came, and for any other
-- the tunnel is to be closed
pub data IsEventOf (body : List ℕ) : TunnelEvent → Type 0 where
  OfSccrq : IsOf body kind.Sccrq → IsEventOf body event.SccrqNotAcc
  OfSccrp : IsOf body kind.Sccrp → IsEventOf body event.SccrpNotAcc
  OfScccn : IsOf body kind.Scccn → IsEventOf body event.ScccnNotAcc
  OfStopCcn : IsOf body kind.StopCcn → IsEventOf body event.StopCcnCame
  OfOther : ((k : Kind) → IsOf body k → IsAboutTunnel k → ⊥) → IsEventOf body event.AdminClose
