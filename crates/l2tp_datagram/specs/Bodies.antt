-- The body of a control message, with the pairs that it spells.
use Rattle.std.specs.Prelude.{◌≡◌, ℕ, ◌+◌, ◌-◌, ◌≤◌, true, List, [], ◌∷◌, length, Result, Ok, Err, IfOk}
use Rattle.wire_base.specs.Answers.{Gives}
use Rattle.avp_codec.specs.declared.avp.Avp.{Avp}
use Rattle.avp_codec.specs.declared.error.AvpError.{AvpError}
use Rattle.avp_codec.specs.declared.lent.Place.{Place}
use Rattle.avp_codec.specs.Places.{pairs_in}
use Rattle.avp_codec.specs.Reading.{avps_of, Told}
use Rattle.l2tp_header.specs.declared.header.Header.{Header}
use Rattle.l2tp_header.specs.declared.header.HeaderError.{HeaderError}
use Rattle.l2tp_header.specs.Reading.{body_of}

-- a body's pairs as they were read: those that it spells, or their first fault, or that memory was wanting
abbrev pub AreRead : List ℕ → Result (List Avp) AvpError → Type 0
AreRead body pairs = Gives Told (λ v. v) pairs (avps_of body)

-- places in a body, which are those of its pairs
abbrev pub ArePlaces : List ℕ → Result (List Place) AvpError → Type 0
ArePlaces body places = Gives Told (λ v. pairs_in body v) places (avps_of body)

-- those of a control message
abbrev pub AreReadOf : List ℕ → Result Header HeaderError → Result (List Place) AvpError → Type 0
AreReadOf bytes (Ok h) places = h.control ≡ true → ArePlaces (body_of bytes h) places
AreReadOf bytes (Err e) places = Unit {0}

-- the body lies in the datagram
abbrev pub LiesInside : List ℕ → Result Header HeaderError → Type 0
LiesInside bytes header = IfOk header (λ h. (h.start ≤ h.end) × (h.end ≤ length bytes))

-- that of a control message stands behind twelve bytes at least, and its end in two (RFC 2661 section 3.1)
abbrev pub IsShort : Result Header HeaderError → Type 0
IsShort header = IfOk header (λ h. h.control ≡ true → h.end - h.start ≤ 65523)

-- how many bytes pairs take, each with the six of its head
abbrev pub room_of : List Avp → ℕ
room_of [] = 0
room_of (a ∷ avps) = 6 + length a.value + room_of avps
