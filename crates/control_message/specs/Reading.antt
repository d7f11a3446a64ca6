-- What a list of pairs says, or the first fault.
use Rattle.std.specs.Prelude.{◌≡◌, ℕ, ◌==◌, ◌&&◌, ◌||◌, nat_le, not, Bool, true, false, List, [], ◌∷◌, ◌++◌, length, drop, find, Option, Some, None, is_some, option_map, Result, Ok, Err, if◌then◌else◌}
use Rattle.byteorder.specs.Endian.{big_number}
use Rattle.wire_base.specs.Answers.{◌>>=◌}
use Rattle.wire_base.specs.declared.pair.Pair.{Pair}
use Rattle.avp_codec.specs.declared.avp.Avp.{Avp}
use Rattle.control_message.specs.declared.kind.Kinds.{Kinds}
use Rattle.control_message.specs.declared.kind.Kinds.TheVariants.{Base}
use Rattle.control_message.specs.declared.kind.Kind.{Kind}
use Rattle.control_message.specs.declared.kind.Kind.TheVariants as kind
use Rattle.control_message.specs.declared.kind.Shape.{Shape}
use Rattle.control_message.specs.declared.kind.Shape.TheVariants.{Long}
use Rattle.control_message.specs.declared.message.Message.{Message}
use Rattle.control_message.specs.declared.message.Message.TheVariants.{Sccrq, Sccrp, Scccn, StopCcn, Hello, Ocrq, Ocrp, Occn, Icrq, Icrp, Iccn, Cdn, Wen, Sli, Fsq, Fsr}
use Rattle.control_message.specs.declared.message.Opening.{Opening}
use Rattle.control_message.specs.declared.message.Failover.{Failover}
use Rattle.control_message.specs.declared.message.Recovery.{Recovery}
use Rattle.control_message.specs.declared.message.Suggested.{Suggested}
use Rattle.control_message.specs.declared.message.Read.{Read}
use Rattle.control_message.specs.declared.message.Read.TheVariants.{Known, Ignored}
use Rattle.control_message.specs.declared.message.MessageError.{MessageError}
use Rattle.control_message.specs.declared.message.MessageError.TheVariants.{NoType, UnknownType, UnknownMandatory, HiddenWithoutVector, BadValue, Missing, NoMemory}
use Rattle.control_message.specs.Table.{kind_of, shape_of, uses_draw, fits}

-- what a call that failed tells of the reading: nothing where memory was wanting
abbrev pub Told : {Y : Type 0} → MessageError → Result Y MessageError → Type 0
Told NoMemory read = Unit {0}
Told e read = read ≡ Err e

-- ---- pairs

-- the attributes that are known: those of the IETF (vendor 0), and this project's draw number (vendor 65535)
abbrev pub is_listed : ℕ → ℕ → Bool
is_listed vendor n =
    if vendor == 0 then (nat_le n 19 || (nat_le 21 n && nat_le n 39)) || (nat_le 76 n && nat_le n 79)
    else (vendor == 65535 && n == 1)

-- whether a pair is recognised; a reserved bit that is set makes it unrecognised
abbrev pub is_recognised : Avp → Bool
is_recognised a = a.reserved == 0 && is_listed a.vendor a.attribute

-- whether a pair is one of an attribute of the IETF
abbrev pub is_at : ℕ → Avp → Bool
is_at n a = (a.vendor == 0 && a.attribute == n) && a.reserved == 0

-- the first pair of an attribute
abbrev pub first : ℕ → List Avp → Option Avp
first n avps = find (λ a. is_at n a) avps

-- whether a pair is this project's Draw Number
abbrev pub is_draw : Avp → Bool
is_draw a = (a.vendor == 65535 && a.attribute == 1) && a.reserved == 0

-- the first one
abbrev pub first_draw : List Avp → Option Avp
first_draw avps = find (λ a. is_draw a) avps

-- whether a pair is a Random Vector, which is never hidden (RFC 2661 section 4.3)
abbrev pub is_vector : Avp → Bool
is_vector a = is_at 36 a && not a.hidden

-- whether one is there
abbrev pub has_vector : List Avp → Bool
has_vector avps = is_some (find (λ a. is_vector a) avps)

-- ---- the first fault along the list

-- a value that the message uses, where a Random Vector stands before it or not
abbrev pub checked_value : Shape → Bool → Avp → Result (Unit {0}) MessageError
checked_value s vector a =
    if a.hidden then (if vector then Err (BadValue a.attribute) else Err (HiddenWithoutVector a.attribute))
    else if fits s a.value then Ok tt
    else Err (BadValue a.attribute)

-- of a repeated attribute only the first place counts, but each Failover Session State does
abbrev pub counts_once : ℕ → Bool
counts_once n = not (n == 79)

-- a pair of an attribute with that shape, where the message uses it
abbrev pub checked_use : Option Shape → List Avp → Avp → Result (Unit {0}) MessageError
checked_use None before a = Ok tt
checked_use (Some s) before a =
    if counts_once a.attribute && is_some (first a.attribute before) then Ok tt else checked_value s (has_vector before) a

-- a Draw Number, where the message uses it; only its first place counts
abbrev pub checked_draw : Bool → List Avp → Avp → Result (Unit {0}) MessageError
checked_draw false before a = Ok tt
checked_draw true before a =
    if is_some (first_draw before) then Ok tt else checked_value Long (has_vector before) a

-- a pair behind others
unfoldable pub checked : Kind → List Avp → Avp → Result (Unit {0}) MessageError
checked k before a =
    if is_recognised a then (if a.vendor == 0 then checked_use (shape_of k a.attribute) before a else checked_draw (uses_draw k) before a)
    else if a.mandatory then Err (UnknownMandatory a.vendor a.attribute)
    else Ok tt

-- pairs behind others
abbrev pub checked_all : Kind → List Avp → List Avp → Result (Unit {0}) MessageError
checked_all k before [] = Ok tt
checked_all k before (a ∷ rest) = checked k before a >>= λ _. checked_all k (before ++ a ∷ []) rest

-- ---- values, in the order of their attributes

abbrev pub value_in : ℕ → Option Avp → Result (List ℕ) MessageError
value_in n None = Err (Missing n)
value_in n (Some a) = Ok a.value

abbrev pub value_at : ℕ → List Avp → Result (List ℕ) MessageError
value_at n avps = value_in n (first n avps)

-- a number of some bytes, the highest first
abbrev pub number_in : ℕ → ℕ → List ℕ → Result ℕ MessageError
number_in width n value = if length value == width then Ok (big_number width value) else Err (BadValue n)

unfoldable pub u16_at : ℕ → List Avp → Result ℕ MessageError
u16_at n avps = value_at n avps >>= λ v. number_in 2 n v

unfoldable pub u32_at : ℕ → List Avp → Result ℕ MessageError
u32_at n avps = value_at n avps >>= λ v. number_in 4 n v

-- the text of an attribute, where it is told
abbrev pub text_at : ℕ → List Avp → Option (List ℕ)
text_at n avps = option_map (λ (a : Avp). a.value) (first n avps)

-- Receive Window Size, which is 4 where it isn't told
abbrev pub window_in : Option Avp → Result ℕ MessageError
window_in None = Ok 4
window_in (Some a) = number_in 2 10 a.value

unfoldable pub window_at : List Avp → Result ℕ MessageError
window_at avps = window_in (first 10 avps)

-- Failover Capability: the flags, then the milliseconds
abbrev pub failover_value : List ℕ → Option Failover
failover_value value =
    if length value == 6 then Some (record { flags = big_number 2 value; time = big_number 4 (drop 2 value) }) else None

abbrev pub failover_read : Option Failover → Result (Option Failover) MessageError
failover_read None = Err (BadValue 76)
failover_read (Some f) = Ok (Some f)

abbrev pub failover_in : Option Avp → Result (Option Failover) MessageError
failover_in None = Ok None
failover_in (Some a) = failover_read (failover_value a.value)

unfoldable pub failover_at : List Avp → Result (Option Failover) MessageError
failover_at avps = failover_in (first 76 avps)

-- Tunnel Recovery: two reserved bytes, which aren't looked at, then the sender's id and the receiver's
abbrev pub recovery_value : List ℕ → Option Recovery
recovery_value value =
    if length value == 10 then Some (record { sender = big_number 4 (drop 2 value); receiver = big_number 4 (drop 6 value) }) else None

abbrev pub recovery_read : Option Recovery → Result (Option Recovery) MessageError
recovery_read None = Err (BadValue 77)
recovery_read (Some r) = Ok (Some r)

abbrev pub recovery_in : Option Avp → Result (Option Recovery) MessageError
recovery_in None = Ok None
recovery_in (Some a) = recovery_read (recovery_value a.value)

unfoldable pub recovery_at : List Avp → Result (Option Recovery) MessageError
recovery_at avps = recovery_in (first 77 avps)

-- Suggested Control Sequence: two reserved bytes, which aren't looked at, then Ns and Nr
abbrev pub suggested_value : List ℕ → Option Suggested
suggested_value value =
    if length value == 6 then Some (record { ns = big_number 2 (drop 2 value); nr = big_number 2 (drop 4 value) }) else None

abbrev pub suggested_read : Option Suggested → Result (Option Suggested) MessageError
suggested_read None = Err (BadValue 78)
suggested_read (Some s) = Ok (Some s)

abbrev pub suggested_in : Option Avp → Result (Option Suggested) MessageError
suggested_in None = Ok None
suggested_in (Some a) = suggested_read (suggested_value a.value)

unfoldable pub suggested_at : List Avp → Result (Option Suggested) MessageError
suggested_at avps = suggested_in (first 78 avps)

-- Draw Number: four bytes
abbrev pub draw_value : List ℕ → Option ℕ
draw_value value = if length value == 4 then Some (big_number 4 value) else None

abbrev pub draw_read : Option ℕ → Result (Option ℕ) MessageError
draw_read None = Err (BadValue 1)
draw_read (Some x) = Ok (Some x)

abbrev pub draw_in : Option Avp → Result (Option ℕ) MessageError
draw_in None = Ok None
draw_in (Some a) = draw_read (draw_value a.value)

unfoldable pub draw_at : List Avp → Result (Option ℕ) MessageError
draw_at avps = draw_in (first_draw avps)

-- Challenge Response: sixteen bytes
abbrev pub response_value : List ℕ → Option (List ℕ)
response_value value = if length value == 16 then Some value else None

abbrev pub response_read : Option (List ℕ) → Result (Option (List ℕ)) MessageError
response_read None = Err (BadValue 13)
response_read (Some r) = Ok (Some r)

abbrev pub response_in : Option Avp → Result (Option (List ℕ)) MessageError
response_in None = Ok None
response_in (Some a) = response_read (response_value a.value)

unfoldable pub response_at : List Avp → Result (Option (List ℕ)) MessageError
response_at avps = response_in (first 13 avps)

-- an opening, with the response that it gives, the recovery that it asks for, the numbers that it suggests, and its draw number
unfoldable pub opening_at : List Avp → Option (List ℕ) → Option Recovery → Option Suggested → Option ℕ → Result Opening MessageError
opening_at avps response recovery suggested attempt = do
  version ← u16_at 2 avps
  framing ← u32_at 3 avps
  name ← value_at 7 avps
  tunnel ← u16_at 9 avps
  window ← window_at avps
  failover ← failover_at avps
  Ok (record {
    version = version;
    framing = framing;
    name = name;
    tunnel = tunnel;
    window = window;
    failover = failover;
    challenge = text_at 11 avps;
    response = response;
    recovery = recovery;
    suggested = suggested;
    attempt = attempt;
  })

unfoldable pub icrq_at : List Avp → Result Message MessageError
icrq_at avps = do
  session ← u16_at 14 avps
  serial ← u32_at 15 avps
  Ok (Icrq session serial (text_at 22 avps))

unfoldable pub icrp_at : List Avp → Result Message MessageError
icrp_at avps = do
  session ← u16_at 14 avps
  Ok (Icrp session)

-- Sequencing Required stands for itself, whatever its value
unfoldable pub iccn_at : List Avp → Result Message MessageError
iccn_at avps = do
  framing ← u32_at 19 avps
  speed ← u32_at 24 avps
  Ok (Iccn speed framing (is_some (first 39 avps)))

-- Result Code: the result, then Error Code where it is told, then any text
abbrev pub result_code_in : List ℕ → Result (ℕ × Option ℕ) MessageError
result_code_in value =
    if length value == 2 then Ok (big_number 2 value, None)
    else if nat_le 4 (length value) then Ok (big_number 2 value, Some (big_number 2 (drop 2 value)))
    else Err (BadValue 1)

unfoldable pub result_code_at : List Avp → Result (ℕ × Option ℕ) MessageError
result_code_at avps = value_at 1 avps >>= λ v. result_code_in v

unfoldable pub stop_ccn_at : List Avp → Result Message MessageError
stop_ccn_at avps = do
  code ← result_code_at avps
  tunnel ← u16_at 9 avps
  Ok (StopCcn tunnel code.0 code.1)

unfoldable pub ocrq_at : List Avp → Result Message MessageError
ocrq_at avps = do
  session ← u16_at 14 avps
  Ok (Ocrq session)

unfoldable pub cdn_at : List Avp → Result Message MessageError
cdn_at avps = do
  code ← result_code_at avps
  session ← u16_at 14 avps
  Ok (Cdn session code.0 code.1)

-- Call Errors and ACCM have to be there, and nothing of them is kept
unfoldable pub wen_at : List Avp → Result Message MessageError
wen_at avps = value_at 34 avps >>= λ v. Ok Wen

unfoldable pub sli_at : List Avp → Result Message MessageError
sli_at avps = value_at 35 avps >>= λ v. Ok Sli

-- Failover Session State: two reserved bytes, which aren't looked at, then the sender's id of a session and the receiver's
abbrev pub session_value : List ℕ → Option Pair
session_value value =
    if length value == 10 then Some (record { sender = big_number 4 (drop 2 value); receiver = big_number 4 (drop 6 value) }) else None

-- the session that a pair tells, if it tells one
abbrev pub session_in : Avp → Option Pair
session_in a = if is_at 79 a then session_value a.value else None

abbrev pub with_session : Option Pair → List Pair → List Pair
with_session None sessions = sessions
with_session (Some p) sessions = p ∷ sessions

-- the sessions that pairs tell, in order
abbrev pub sessions_in : List Avp → List Pair
sessions_in [] = []
sessions_in (a ∷ avps) = with_session (session_in a) (sessions_in avps)

-- ---- messages

-- a message of a kind
abbrev pub of_kind : Kind → List Avp → Result Message MessageError
of_kind kind.Sccrq avps = recovery_at avps >>= λ r. draw_at avps >>= λ d. opening_at avps None r None d >>= λ o. Ok (Sccrq o)
of_kind kind.Sccrp avps = response_at avps >>= λ r. suggested_at avps >>= λ s. draw_at avps >>= λ d. opening_at avps r None s d >>= λ o. Ok (Sccrp o)
of_kind kind.Scccn avps = response_at avps >>= λ r. Ok (Scccn r)
of_kind kind.StopCcn avps = stop_ccn_at avps
of_kind kind.Hello avps = Ok Hello
of_kind kind.Ocrq avps = ocrq_at avps
of_kind kind.Ocrp avps = Ok Ocrp
of_kind kind.Occn avps = Ok Occn
of_kind kind.Icrq avps = icrq_at avps
of_kind kind.Icrp avps = icrp_at avps
of_kind kind.Iccn avps = iccn_at avps
of_kind kind.Cdn avps = cdn_at avps
of_kind kind.Wen avps = wen_at avps
of_kind kind.Sli avps = sli_at avps
of_kind kind.Fsq avps = Ok (Fsq (sessions_in avps))
of_kind kind.Fsr avps = Ok (Fsr (sessions_in avps))

-- the number of a Message Type
abbrev pub type_number : Avp → Result ℕ MessageError
type_number a = if not a.hidden && length a.value == 2 then Ok (big_number 2 a.value) else Err NoType

-- the kind that the first type names to a reader that knows such messages, whatever else the pairs say
abbrev pub kind_named : Kinds → Result ℕ MessageError → Option Kind
kind_named known (Ok n) = kind_of known n
kind_named known (Err e) = None

abbrev pub kind_told : Kinds → Option Avp → Option Kind
kind_told known None = None
kind_told known (Some a) = kind_named known (type_number a)

unfoldable pub kind_by : Kinds → List Avp → Option Kind
kind_by known avps = kind_told known (first 0 avps)

-- a message whose type has a number, which names a kind or not
abbrev pub of_type : ℕ → Bool → Option Kind → List Avp → Result Read MessageError
of_type n mandatory None avps = if mandatory then Err (UnknownType n) else Ok (Ignored n)
of_type n mandatory (Some k) avps = do
  _ ← checked_all k [] avps
  m ← of_kind k avps
  Ok (Known m)

abbrev pub with_type : Kinds → Option Avp → List Avp → Result Read MessageError
with_type known None avps = Err NoType
with_type known (Some a) avps = type_number a >>= λ n. of_type n a.mandatory (kind_of known n) avps

-- what the pairs say to a reader that knows such messages
unfoldable pub message_by : Kinds → List Avp → Result Read MessageError
message_by known avps = with_type known (first 0 avps) avps

-- to one that knows those of RFC 2661 alone
abbrev pub kind_of_pairs : List Avp → Option Kind
kind_of_pairs avps = kind_by Base avps

abbrev pub message_of : List Avp → Result Read MessageError
message_of avps = message_by Base avps

-- ---- ids that are looked for whatever else the pairs say

abbrev pub is_plain_short : ℕ → Avp → Bool
is_plain_short n a = is_at n a && (not a.hidden && length a.value == 2)

abbrev pub short_in : Option Avp → Option ℕ
short_in None = None
short_in (Some a) = if length a.value == 2 then Some (big_number 2 a.value) else None

-- the number of the first plain pair of an attribute with two bytes
abbrev pub plain_short : ℕ → List Avp → Option ℕ
plain_short n avps = short_in (find (λ a. is_plain_short n a) avps)
