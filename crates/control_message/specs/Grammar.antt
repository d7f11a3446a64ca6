-- What a list of pairs says: a relation apart from the reader (RFC 2661 sections 4.1, 4.4 and 6, RFC 4951 sections 5.1 to 5.4).
use Rattle.std.specs.Prelude.{◌≡◌, ◌≢◌, ℕ, ◌≤◌, ◌⊎◌, Bool, true, false, List, [], ◌∷◌, ◌++◌, length, drop, Option, Some, None, ⊤}
use Rattle.std.specs.List.{AllByRecursion}
use Rattle.byteorder.specs.Endian.{big_number}
use Rattle.wire_base.specs.declared.pair.Pair.{Pair}
use Rattle.avp_codec.specs.declared.avp.Avp.{Avp}
use Rattle.control_message.specs.declared.kind.Kinds.{Kinds}
use Rattle.control_message.specs.declared.kind.Kinds.TheVariants.{Base}
use Rattle.control_message.specs.declared.message.Message.{Message}
use Rattle.control_message.specs.declared.message.Message.TheVariants.{Sccrq, Sccrp, Scccn, StopCcn, Hello, Ocrq, Ocrp, Occn, Icrq, Icrp, Iccn, Cdn, Wen, Sli, Fsq, Fsr}
use Rattle.control_message.specs.declared.message.Opening.{Opening}
use Rattle.control_message.specs.declared.message.Failover.{Failover}
use Rattle.control_message.specs.declared.message.Recovery.{Recovery}
use Rattle.control_message.specs.declared.message.Suggested.{Suggested}
use Rattle.control_message.specs.declared.message.Read.{Read}
use Rattle.control_message.specs.declared.message.Read.TheVariants.{Known, Ignored}
use Rattle.control_message.specs.Table.{kind_of}

-- ---- pairs

-- a pair of an attribute of the IETF
abbrev pub IsAt : ℕ → Avp → Type 0
IsAt n a = (a.vendor ≡ 0) × (a.attribute ≡ n) × (a.reserved ≡ 0)

-- the attributes that are known: those of the IETF (vendor 0), and this project's draw number (vendor 65535)
abbrev pub IsOfIetf : ℕ → Type 0
IsOfIetf n = (n ≤ 19) ⊎ (((21 ≤ n) × (n ≤ 39)) ⊎ ((76 ≤ n) × (n ≤ 79)))

abbrev pub IsListed : ℕ → ℕ → Type 0
IsListed vendor n = ((vendor ≡ 0) × IsOfIetf n) ⊎ ((vendor ≡ 65535) × (n ≡ 1))

-- a reserved bit that is set makes a pair unrecognised
abbrev pub IsRecognised : Avp → Type 0
IsRecognised a = (a.reserved ≡ 0) × IsListed a.vendor a.attribute

-- the first pair of some sort: no other one of the sort stands before it
pub record IsFirstWith (P : Avp → Type 0) (a : Avp) (avps : List Avp) : Type 0 where
  pub before : List Avp
  pub after : List Avp
  pub parts : avps ≡ before ++ a ∷ after
  pub is : P a
  pub none : AllByRecursion (λ b. ¬ P b) before

-- the first pair of an attribute
abbrev pub StandsFirst : ℕ → Avp → List Avp → Type 0
StandsFirst n a avps = IsFirstWith (λ b. IsAt n b) a avps

-- no pair of an attribute is there
abbrev pub IsAbsent : ℕ → List Avp → Type 0
IsAbsent n avps = AllByRecursion (λ a. ¬ IsAt n a) avps

-- this project's Draw Number
abbrev pub IsDraw : Avp → Type 0
IsDraw a = (a.vendor ≡ 65535) × (a.attribute ≡ 1) × (a.reserved ≡ 0)

-- none is there
abbrev pub HasNoDraw : List Avp → Type 0
HasNoDraw avps = AllByRecursion (λ a. ¬ IsDraw a) avps

-- each pair that isn't recognised may be passed over
abbrev pub NoneIsUnknown : List Avp → Type 0
NoneIsUnknown avps = AllByRecursion (λ a. IsRecognised a ⊎ (a.mandatory ≡ false)) avps

-- ---- values

-- the first pair of an attribute is plain, and has that value
pub record HasValue (n : ℕ) (value : List ℕ) (avps : List Avp) : Type 0 where
  pub pair : Avp
  pub first : StandsFirst n pair avps
  pub plain : pair.hidden ≡ false
  pub same : pair.value ≡ value

-- its value is a number of so many bytes, the highest first
pub record HasNumber (n width x : ℕ) (avps : List Avp) : Type 0 where
  pub value : List ℕ
  pub has : HasValue n value avps
  pub wide : length value ≡ width
  pub number : big_number width value ≡ x

-- the first pair of an attribute is plain, whatever its value
abbrev pub HasSome : ℕ → List Avp → Type 0
HasSome n avps = (value : List ℕ) × HasValue n value avps

-- Failover Capability: two bytes of flags, then four of milliseconds
pub record HasFailover (f : Failover) (avps : List Avp) : Type 0 where
  pub value : List ℕ
  pub has : HasValue 76 value avps
  pub wide : length value ≡ 6
  pub flags : big_number 2 value ≡ f.flags
  pub time : big_number 4 (drop 2 value) ≡ f.time

-- Tunnel Recovery: two reserved bytes, which aren't looked at, then the sender's id and the receiver's, in four each
pub record HasRecovery (r : Recovery) (avps : List Avp) : Type 0 where
  pub value : List ℕ
  pub has : HasValue 77 value avps
  pub wide : length value ≡ 10
  pub sender : big_number 4 (drop 2 value) ≡ r.sender
  pub receiver : big_number 4 (drop 6 value) ≡ r.receiver

-- Suggested Control Sequence: two reserved bytes, which aren't looked at, then Ns and Nr, in two each
pub record HasSuggested (s : Suggested) (avps : List Avp) : Type 0 where
  pub value : List ℕ
  pub has : HasValue 78 value avps
  pub wide : length value ≡ 6
  pub ns : big_number 2 (drop 2 value) ≡ s.ns
  pub nr : big_number 2 (drop 4 value) ≡ s.nr

-- the first Draw Number is plain, and that number in four bytes
pub record HasDraw (x : ℕ) (avps : List Avp) : Type 0 where
  pub pair : Avp
  pub first : IsFirstWith (λ b. IsDraw b) pair avps
  pub plain : pair.hidden ≡ false
  pub wide : length pair.value ≡ 4
  pub number : big_number 4 pair.value ≡ x

-- Error Code: two bytes behind the result, then any text; there is none where the result is all
abbrev pub HasErrorCode : List ℕ → Option ℕ → Type 0
HasErrorCode value None = length value ≡ 2
HasErrorCode value (Some x) = (4 ≤ length value) × (big_number 2 (drop 2 value) ≡ x)

-- Result Code: two bytes of result, then Error Code where it is told (RFC 2661 section 4.4.2)
pub record HasResultCode (code : ℕ) (error : Option ℕ) (avps : List Avp) : Type 0 where
  pub value : List ℕ
  pub has : HasValue 1 value avps
  pub result : big_number 2 value ≡ code
  pub error_code : HasErrorCode value error

-- ---- messages

-- the text of an attribute, where it is told
abbrev pub SaysText : ℕ → List Avp → Option (List ℕ) → Type 0
SaysText n avps None = IsAbsent n avps
SaysText n avps (Some value) = HasValue n value avps

-- Receive Window Size, which is 4 where it isn't told
abbrev pub SaysWindow : List Avp → ℕ → Type 0
SaysWindow avps window = (HasNumber 10 2 window avps × (window ≢ 0)) ⊎ (IsAbsent 10 avps × (window ≡ 4))

abbrev pub SaysFailover : List Avp → Option Failover → Type 0
SaysFailover avps None = IsAbsent 76 avps
SaysFailover avps (Some f) = HasFailover f avps

abbrev pub SaysRecovery : List Avp → Option Recovery → Type 0
SaysRecovery avps None = IsAbsent 77 avps
SaysRecovery avps (Some r) = HasRecovery r avps

abbrev pub SaysSuggested : List Avp → Option Suggested → Type 0
SaysSuggested avps None = IsAbsent 78 avps
SaysSuggested avps (Some s) = HasSuggested s avps

abbrev pub SaysDraw : List Avp → Option ℕ → Type 0
SaysDraw avps None = HasNoDraw avps
SaysDraw avps (Some x) = HasDraw x avps

-- Challenge Response, in sixteen bytes
abbrev pub SaysResponse : List Avp → Option (List ℕ) → Type 0
SaysResponse avps None = IsAbsent 13 avps
SaysResponse avps (Some r) = HasValue 13 r avps × (length r ≡ 16)

-- What a request and a reply say alike, but for the Draw Number. Tunnel Recovery, which only a request tells, and Challenge Response
-- and Suggested Control Sequence, which only a reply tells, aren't among it.
pub record SaysOpening (avps : List Avp) (o : Opening) : Type 0 where
  pub version : HasNumber 2 2 o.version avps
  pub framing : HasNumber 3 4 o.framing avps
  pub name : HasValue 7 o.name avps
  pub tunnel : HasNumber 9 2 o.tunnel avps
  pub tunnel_not_zero : o.tunnel ≢ 0
  pub window : SaysWindow avps o.window
  pub failover : SaysFailover avps o.failover
  pub challenge : SaysText 11 avps o.challenge

-- Sequencing Required stands for itself, whatever its value
abbrev pub SaysSequenced : List Avp → Bool → Type 0
SaysSequenced avps false = IsAbsent 39 avps
SaysSequenced avps true = HasSome 39 avps

-- An Assigned Tunnel ID of 0 is good here: an opening may be refused by an end that has assigned none.
pub record SaysStopCcn (avps : List Avp) (id code : ℕ) (error : Option ℕ) : Type 0 where
  pub result : HasResultCode code error avps
  pub tunnel : HasNumber 9 2 id avps

-- Assigned Session ID needn't be there, and isn't 0 where it is
abbrev pub SaysOcrp : List Avp → Type 0
SaysOcrp avps = ((id : ℕ) × HasNumber 14 2 id avps × (id ≢ 0)) ⊎ IsAbsent 14 avps

pub record SaysIcrq (avps : List Avp) (id count : ℕ) (caller : Option (List ℕ)) : Type 0 where
  pub session : HasNumber 14 2 id avps
  pub serial : HasNumber 15 4 count avps
  pub calling : SaysText 22 avps caller

pub record SaysIcrp (avps : List Avp) (id : ℕ) : Type 0 where
  pub session : HasNumber 14 2 id avps
  pub session_not_zero : id ≢ 0

pub record SaysIccn (avps : List Avp) (bits bearer : ℕ) (asked : Bool) : Type 0 where
  pub speed : HasNumber 24 4 bits avps
  pub framing : HasNumber 19 4 bearer avps
  pub sequenced : SaysSequenced avps asked

-- An Assigned Session ID of 0 is good here: a call may be refused by an end that has assigned none.
pub record SaysCdn (avps : List Avp) (id code : ℕ) (error : Option ℕ) : Type 0 where
  pub result : HasResultCode code error avps
  pub session : HasNumber 14 2 id avps

-- Failover Session State: two reserved bytes, which aren't looked at, then the sender's id of a session and the receiver's, in four each
pub record TellsSession (a : Avp) (p : Pair) : Type 0 where
  pub is : IsAt 79 a
  pub plain : a.hidden ≡ false
  pub wide : length a.value ≡ 10
  pub sender : big_number 4 (drop 2 a.value) ≡ p.sender
  pub receiver : big_number 4 (drop 6 a.value) ≡ p.receiver

-- the sessions that are told, in order: each Failover Session State tells one
abbrev pub SaysSessions : List Avp → List Pair → Type 0
SaysSessions [] sessions = sessions ≡ []
SaysSessions (a ∷ avps) sessions =
    ((¬ IsAt 79 a) × SaysSessions avps sessions)
    ⊎ ((p : Pair) × (others : List Pair) × TellsSession a p × (sessions ≡ p ∷ others) × SaysSessions avps others)

abbrev pub SaysMessage : List Avp → Message → Type 0
SaysMessage avps (Sccrq o) = SaysOpening avps o × SaysRecovery avps o.recovery × SaysDraw avps o.attempt × (o.response ≡ None) × (o.suggested ≡ None)
SaysMessage avps (Sccrp o) = SaysOpening avps o × SaysResponse avps o.response × SaysSuggested avps o.suggested × SaysDraw avps o.attempt × (o.recovery ≡ None)
SaysMessage avps (Scccn response) = SaysResponse avps response
SaysMessage avps (StopCcn tunnel result error) = SaysStopCcn avps tunnel result error
SaysMessage avps Hello = ⊤
SaysMessage avps (Ocrq session) = HasNumber 14 2 session avps
SaysMessage avps Ocrp = SaysOcrp avps
SaysMessage avps Occn = ⊤
SaysMessage avps (Icrq session serial calling) = SaysIcrq avps session serial calling
SaysMessage avps (Icrp session) = SaysIcrp avps session
SaysMessage avps (Iccn speed framing sequenced) = SaysIccn avps speed framing sequenced
SaysMessage avps (Cdn session result error) = SaysCdn avps session result error
-- Call Errors and ACCM have to be there, whatever their values
SaysMessage avps Wen = HasSome 34 avps
SaysMessage avps Sli = HasSome 35 avps
SaysMessage avps (Fsq sessions) = SaysSessions avps sessions
SaysMessage avps (Fsr sessions) = SaysSessions avps sessions

-- the Message Type of each message
abbrev pub number_of : Message → ℕ
number_of (Sccrq o) = 1
number_of (Sccrp o) = 2
number_of (Scccn response) = 3
number_of (StopCcn tunnel result error) = 4
number_of Hello = 6
number_of (Ocrq session) = 7
number_of Ocrp = 8
number_of Occn = 9
number_of (Icrq session serial calling) = 10
number_of (Icrp session) = 11
number_of (Iccn speed framing sequenced) = 12
number_of (Cdn session result error) = 14
number_of Wen = 15
number_of Sli = 16
number_of (Fsq sessions) = 21
number_of (Fsr sessions) = 22

-- the messages that a reader knows
abbrev pub IsKnownTo : Message → Kinds → Type 0
IsKnownTo (Fsq sessions) Base = ⊥
IsKnownTo (Fsr sessions) Base = ⊥
IsKnownTo m kinds = ⊤

-- a message that the reader knows: its type, its values, and nothing unknown that is mandatory
pub record SaysKnown (kinds : Kinds) (avps : List Avp) (m : Message) : Type 0 where
  pub kind : IsKnownTo m kinds
  pub number : HasNumber 0 2 (number_of m) avps
  pub known : NoneIsUnknown avps
  pub says : SaysMessage avps m

-- a message of an unknown type that may be passed over
pub record SaysIgnored (kinds : Kinds) (avps : List Avp) (n : ℕ) : Type 0 where
  pub pair : Avp
  pub first : StandsFirst 0 pair avps
  pub plain : pair.hidden ≡ false
  pub wide : length pair.value ≡ 2
  pub number : big_number 2 pair.value ≡ n
  pub unknown : kind_of kinds n ≡ None
  pub optional : pair.mandatory ≡ false

abbrev pub Says : Kinds → List Avp → Read → Type 0
Says kinds avps (Known m) = SaysKnown kinds avps m
Says kinds avps (Ignored n) = SaysIgnored kinds avps n

-- ---- ids that are looked for whatever else the pairs say

-- a plain pair of an attribute with two bytes
abbrev pub IsPlainShort : ℕ → Avp → Type 0
IsPlainShort n a = IsAt n a × (a.hidden ≡ false) × (length a.value ≡ 2)

-- the first such pair has that number
pub record HasPlainShort (n x : ℕ) (avps : List Avp) : Type 0 where
  pub pair : Avp
  pub first : IsFirstWith (λ a. IsPlainShort n a) pair avps
  pub number : big_number 2 pair.value ≡ x

abbrev pub HasNoPlainShort : ℕ → List Avp → Type 0
HasNoPlainShort n avps = AllByRecursion (λ a. ¬ IsPlainShort n a) avps
