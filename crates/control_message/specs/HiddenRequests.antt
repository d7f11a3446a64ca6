-- A request whose number is hidden, as an end with any secret, or none, reads it (RFC 2661 section 4.3).
use Rattle.std.specs.Prelude.{◌≡◌, ℕ, ◌≤◌, List, length, Option, Some, Ok, Err}
use Rattle.avp_codec.specs.declared.avp.Avp.{Avp}
use Rattle.avp_codec.specs.Spelling.{spelling, AreAvps}
use Rattle.control_message.specs.declared.kind.Kind.TheVariants as kind
use Rattle.control_message.specs.declared.message.Message.TheVariants.{Icrq}
use Rattle.control_message.specs.declared.message.Read.TheVariants.{Known}
use Rattle.control_message.specs.declared.message.MessageError.TheVariants.{BadValue}
use Rattle.control_message.specs.Pairs.{pairs_with, IsWrittenWith}
use Rattle.control_message.specs.Reading.{message_of, kind_of_pairs, plain_short}
use Rattle.control_message.specs.Uncovering.{uncovered}

-- the request for that session with some number, or with a number that can't be had
pub data IsReadAnyway (own serial : ℕ) (avps : List Avp) : Type 0 where
  WithANumber : (other : List ℕ) → length other ≤ 1017 → message_of avps ≡ Ok (Known (Icrq own serial (Some other))) → IsReadAnyway own serial avps
  WithoutANumber : message_of avps ≡ Err (BadValue 22) → kind_of_pairs avps ≡ Some kind.Icrq → plain_short 14 avps ≡ Some own → IsReadAnyway own serial avps

-- the pairs of a request that hides its number
abbrev pub hidden_pairs : List ℕ → List ℕ → List ℕ → ℕ → ℕ → List Avp
hidden_pairs secret vector number own serial = pairs_with (Some secret) (Some vector) (Icrq own serial (Some number))

-- what such pairs are to an end that has this secret, or none
pub record ReadsAnyway (reader : Option (List ℕ)) (secret vector number : List ℕ) (own serial : ℕ) : Type 0 where
  pub fit : AreAvps (uncovered reader (hidden_pairs secret vector number own serial))
  pub room : length (spelling (uncovered reader (hidden_pairs secret vector number own serial))) ≤ 65523
  pub read : IsReadAnyway own serial (uncovered reader (hidden_pairs secret vector number own serial))

abbrev pub HiddenRequestsAreRead : Type 0
HiddenRequestsAreRead = (reader : Option (List ℕ)) (secret vector number : List ℕ) (own serial : ℕ)
    → IsWrittenWith (Some secret) (Some vector) (Icrq own serial (Some number)) → ReadsAnyway reader secret vector number own serial
