-- The pairs of each message as it is written, and which messages have such a form.
use Rattle.std.specs.Prelude.{◌≡◌, ℕ, ◌+◌, ◌-◌, ◌%◌, ◌<◌, ◌≤◌, ◌^◌, true, false, List, [], ◌∷◌, ◌++◌, length, Option, Some, None, IsSome, IsSomeAnd, IfSome, ⊤}
use Rattle.std.specs.List.{AllByRecursion}
use Rattle.wire_base.specs.Numbers.{u16_bytes, u32_bytes}
use Rattle.wire_base.specs.declared.pair.Pair.{Pair}
use Rattle.avp_codec.specs.declared.avp.Avp.{Avp}
use Rattle.tunnel_secret.specs.Hiding.{hidden}
use Rattle.control_message.specs.declared.message.Message.{Message}
use Rattle.control_message.specs.declared.message.Message.TheVariants.{Sccrq, Sccrp, Scccn, StopCcn, Hello, Ocrq, Ocrp, Occn, Icrq, Icrp, Iccn, Cdn, Wen, Sli, Fsq, Fsr}
use Rattle.control_message.specs.declared.message.Opening.{Opening}
use Rattle.control_message.specs.declared.message.Failover.{Failover}
use Rattle.control_message.specs.declared.message.Recovery.{Recovery}
use Rattle.control_message.specs.declared.message.Suggested.{Suggested}

-- a mandatory pair, and one that may be passed over
abbrev pub pair : ℕ → List ℕ → Avp
pair n v = record { mandatory = true; hidden = false; reserved = 0; vendor = 0; attribute = n; value = v }

abbrev pub optional_pair : ℕ → List ℕ → Avp
optional_pair n v = record { mandatory = false; hidden = false; reserved = 0; vendor = 0; attribute = n; value = v }

-- Failover Capability
abbrev pub failover_pairs : Option Failover → List Avp
failover_pairs None = []
failover_pairs (Some f) = optional_pair 76 (u16_bytes f.flags ++ u32_bytes f.time) ∷ []

-- Tunnel Recovery: two zeros, the sender's id, the receiver's
abbrev pub recovery_pairs : Option Recovery → List Avp
recovery_pairs None = []
recovery_pairs (Some r) = pair 77 (u16_bytes 0 ++ u32_bytes r.sender ++ u32_bytes r.receiver) ∷ []

-- Suggested Control Sequence: two zeros, Ns, Nr
abbrev pub suggested_pairs : Option Suggested → List Avp
suggested_pairs None = []
suggested_pairs (Some s) = pair 78 (u16_bytes 0 ++ u16_bytes s.ns ++ u16_bytes s.nr) ∷ []

-- this project's Draw Number, which may be passed over
abbrev pub draw_pair : List ℕ → Avp
draw_pair v = record { mandatory = false; hidden = false; reserved = 0; vendor = 65535; attribute = 1; value = v }

abbrev pub draw_pairs : Option ℕ → List Avp
draw_pairs None = []
draw_pairs (Some x) = draw_pair (u32_bytes x) ∷ []

-- Challenge
abbrev pub challenge_pairs : Option (List ℕ) → List Avp
challenge_pairs None = []
challenge_pairs (Some v) = pair 11 v ∷ []

-- Challenge Response
abbrev pub response_pairs : Option (List ℕ) → List Avp
response_pairs None = []
response_pairs (Some r) = pair 13 r ∷ []

-- Message Type, Protocol Version, Framing Capabilities, Host Name, Assigned Tunnel ID, Receive Window Size
abbrev pub opening_front : ℕ → Opening → List Avp
opening_front number o =
    pair 0 (u16_bytes number)
    ∷ pair 2 (u16_bytes o.version)
    ∷ pair 3 (u32_bytes o.framing)
    ∷ pair 7 o.name
    ∷ pair 9 (u16_bytes o.tunnel)
    ∷ pair 10 (u16_bytes o.window)
    ∷ []

-- what a recovery tells
abbrev pub recovering_pairs : Opening → List Avp
recovering_pairs o = recovery_pairs o.recovery ++ suggested_pairs o.suggested ++ draw_pairs o.attempt

-- what is told of secrets
abbrev pub secret_pairs : Opening → List Avp
secret_pairs o = challenge_pairs o.challenge ++ response_pairs o.response

-- what is told beside the numbers and the name
abbrev pub told_pairs : Opening → List Avp
told_pairs o = failover_pairs o.failover ++ recovering_pairs o ++ secret_pairs o

abbrev pub opening_pairs : ℕ → Opening → List Avp
opening_pairs number o = opening_front number o ++ told_pairs o

-- Calling Number
abbrev pub calling_pairs : Option (List ℕ) → List Avp
calling_pairs None = []
calling_pairs (Some v) = pair 22 v ∷ []

-- Result Code: the result, then Error Code where it is told
abbrev pub result_code_bytes : ℕ → Option ℕ → List ℕ
result_code_bytes result None = u16_bytes result
result_code_bytes result (Some error) = u16_bytes result ++ u16_bytes error

-- Failover Session State: two zeros, the sender's id of the session, the receiver's
abbrev pub session_pair : Pair → Avp
session_pair p = pair 79 (u16_bytes 0 ++ u32_bytes p.sender ++ u32_bytes p.receiver)

-- one for each session
abbrev pub session_pairs : List Pair → List Avp
session_pairs [] = []
session_pairs (p ∷ sessions) = session_pair p ∷ session_pairs sessions

abbrev pub pairs_of : Message → List Avp
pairs_of (Sccrq o) = opening_pairs 1 o
pairs_of (Sccrp o) = opening_pairs 2 o
pairs_of (Scccn response) = pair 0 (u16_bytes 3) ∷ response_pairs response
-- Assigned Tunnel ID, Result Code
pairs_of (StopCcn tunnel result error) = pair 0 (u16_bytes 4) ∷ pair 9 (u16_bytes tunnel) ∷ pair 1 (result_code_bytes result error) ∷ []
pairs_of Hello = pair 0 (u16_bytes 6) ∷ []
-- Assigned Session ID, Call Serial Number
pairs_of (Icrq session serial calling) = pair 0 (u16_bytes 10) ∷ pair 14 (u16_bytes session) ∷ pair 15 (u32_bytes serial) ∷ calling_pairs calling
-- Assigned Session ID
pairs_of (Icrp session) = pair 0 (u16_bytes 11) ∷ pair 14 (u16_bytes session) ∷ []
-- Connect Speed, Framing Type
pairs_of (Iccn speed framing sequenced) = pair 0 (u16_bytes 12) ∷ pair 24 (u32_bytes speed) ∷ pair 19 (u32_bytes framing) ∷ []
-- Result Code, Assigned Session ID
pairs_of (Cdn session result error) = pair 0 (u16_bytes 14) ∷ pair 1 (result_code_bytes result error) ∷ pair 14 (u16_bytes session) ∷ []
pairs_of (Fsq sessions) = pair 0 (u16_bytes 21) ∷ session_pairs sessions
pairs_of (Fsr sessions) = pair 0 (u16_bytes 22) ∷ session_pairs sessions
-- those that are only read
pairs_of (Ocrq session) = []
pairs_of Ocrp = []
pairs_of Occn = []
pairs_of Wen = []
pairs_of Sli = []

-- version 1.0, no id or window that is 0, a name and a challenge that fit into a pair, and the failover capability told
pub record IsWrittenOpening (o : Opening) : Type 0 where
  pub version : o.version ≡ 256
  pub framing : o.framing < 2 ^ 32
  pub name : length o.name ≤ 1017
  pub tunnel : o.tunnel < 2 ^ 16
  pub tunnel_not_zero : 0 < o.tunnel
  pub window : o.window < 2 ^ 16
  pub window_not_zero : 0 < o.window
  pub failover : IsSomeAnd o.failover (λ f. (f.flags < 2 ^ 16) × (f.time < 2 ^ 32))
  pub challenge : IfSome o.challenge (λ v. length v ≤ 1017)
  pub response : IfSome o.response (λ r. length r ≡ 16)
  pub recovery : IfSome o.recovery (λ r. (r.sender < 2 ^ 32) × (r.receiver < 2 ^ 32))
  pub suggested : IfSome o.suggested (λ s. (s.ns < 2 ^ 16) × (s.nr < 2 ^ 16))
  pub attempt : IfSome o.attempt (λ x. x < 2 ^ 32)

-- as many sessions as have room in one message, with ids in four bytes
pub record AreWrittenSessions (sessions : List Pair) : Type 0 where
  pub few : length sessions ≤ 4094
  pub ids : AllByRecursion (λ p. (p.sender < 2 ^ 32) × (p.receiver < 2 ^ 32)) sessions

-- the messages that are written
abbrev pub IsWritten : Message → Type 0
-- a request answers no challenge and suggests no numbers
IsWritten (Sccrq o) = IsWrittenOpening o × (o.response ≡ None) × (o.suggested ≡ None)
-- a reply asks for no recovery
IsWritten (Sccrp o) = IsWrittenOpening o × (o.recovery ≡ None)
IsWritten (Scccn response) = IfSome response (λ r. length r ≡ 16)
IsWritten (StopCcn tunnel result error) = (tunnel < 2 ^ 16) × (result < 2 ^ 16) × IfSome error (λ x. x < 2 ^ 16)
IsWritten Hello = ⊤
IsWritten (Icrq session serial calling) = (session < 2 ^ 16) × (serial < 2 ^ 32) × IsSomeAnd calling (λ v. length v ≤ 1017)
IsWritten (Icrp session) = (session < 2 ^ 16) × (0 < session)
IsWritten (Iccn speed framing sequenced) = (speed < 2 ^ 32) × (framing < 2 ^ 32) × (sequenced ≡ false)
IsWritten (Cdn session result error) = (session < 2 ^ 16) × (result < 2 ^ 16) × IfSome error (λ x. x < 2 ^ 16)
IsWritten (Fsq sessions) = AreWrittenSessions sessions
IsWritten (Fsr sessions) = AreWrittenSessions sessions
IsWritten (Ocrq session) = ⊥
IsWritten Ocrp = ⊥
IsWritten Occn = ⊥
IsWritten Wen = ⊥
IsWritten Sli = ⊥

-- ---- with a secret and a random vector (RFC 2661 section 4.3)

-- a mandatory pair whose value is hidden
abbrev pub hidden_pair : ℕ → List ℕ → Avp
hidden_pair n cipher = record { mandatory = true; hidden = true; reserved = 0; vendor = 0; attribute = n; value = cipher }

-- as many zeros as fill a value with its length in two bytes to blocks of 16
abbrev pub padding_of : List ℕ → ℕ
padding_of v = 15 - (length v + 1) % 16

-- Calling Number, hidden behind a Random Vector where there are a secret and a vector
abbrev pub number_pairs : Option (List ℕ) → Option (List ℕ) → List ℕ → List Avp
number_pairs (Some secret) (Some vector) number = pair 36 vector ∷ hidden_pair 22 (hidden 22 secret vector number (padding_of number)) ∷ []
number_pairs secret vector number = pair 22 number ∷ []

abbrev pub calling_pairs_with : Option (List ℕ) → Option (List ℕ) → Option (List ℕ) → List Avp
calling_pairs_with secret vector None = []
calling_pairs_with secret vector (Some number) = number_pairs secret vector number

-- the pairs of a message that is written with a secret and a vector, which is used where a value is hidden
abbrev pub pairs_with : Option (List ℕ) → Option (List ℕ) → Message → List Avp
pairs_with secret vector (Icrq session serial calling) = pair 0 (u16_bytes 10) ∷ pair 14 (u16_bytes session) ∷ pair 15 (u32_bytes serial) ∷ calling_pairs_with secret vector calling
pairs_with secret vector m = pairs_of m

-- the same pairs, with the vector and without what hides a value
abbrev pub calling_pairs_behind : List ℕ → Option (List ℕ) → List Avp
calling_pairs_behind vector None = []
calling_pairs_behind vector (Some number) = pair 36 vector ∷ pair 22 number ∷ []

abbrev pub plain_pairs_with : List ℕ → Message → List Avp
plain_pairs_with vector (Icrq session serial calling) = pair 0 (u16_bytes 10) ∷ pair 14 (u16_bytes session) ∷ pair 15 (u32_bytes serial) ∷ calling_pairs_behind vector calling
plain_pairs_with vector m = pairs_of m

-- what is hidden of a message, where a vector is there
abbrev pub hidden_of : Message → Option (List ℕ)
hidden_of (Icrq session serial calling) = calling
hidden_of m = None

-- a vector of 16 bytes, a secret to hide by, and a number that fits into a pair with its length and the padding
pub record CanHide (secret : Option (List ℕ)) (vector : List ℕ) (m : Message) : Type 0 where
  pub sized : length vector ≡ 16
  pub secret_there : IsSome secret
  pub fits : IfSome (hidden_of m) (λ v. length v ≤ 990)

abbrev pub IsWrittenWith : Option (List ℕ) → Option (List ℕ) → Message → Type 0
IsWrittenWith secret None m = IsWritten m
IsWrittenWith secret (Some vector) m = IsWritten m × CanHide secret vector m
