-- What a shared secret asks and answers, and the calling numbers that a LAC hides.
use Rattle.std.specs.Prelude.{◌≡◌, ℕ, true, List, ◌∷◌, ◌++◌, length, Option, Some, None, is_some}
use Rattle.md5.specs.Md5.{md5}
use Rattle.avp_codec.specs.Spelling.{spelling}
use Rattle.control_message.specs.Pairs.{pairs_with}
use Rattle.end_model.specs.declared.tunnel.Config.{Config}
use Rattle.end_model.specs.Messages.{request_of}

-- ---- secrets (RFC 2661 sections 4.4.3 and 5.1.1)

-- what an end asks its peer to answer: 16 bytes where it has a secret, and nothing where it has none
abbrev pub Asks : Option (List ℕ) → Option (List ℕ) → Type 0
Asks None challenge = challenge ≡ None
Asks (Some secret) challenge = (bytes : List ℕ) × (challenge ≡ Some bytes) × (length bytes ≡ 16)

-- the right answer in a message of this type, which is 2 for an SCCRP and 3 for an SCCCN: MD5 over the type, the secret and what was asked
abbrev pub right_answer : ℕ → List ℕ → List ℕ → List ℕ
right_answer kind secret asked = md5 (kind ∷ secret ++ asked)

-- an end that has a secret answers what it was asked
abbrev pub Responds : ℕ → Option (List ℕ) → Option (List ℕ) → Option (List ℕ) → Type 0
Responds kind None asked response = response ≡ None
Responds kind (Some secret) None response = response ≡ None
Responds kind (Some secret) (Some asked) response = response ≡ Some (right_answer kind secret asked)

-- an end that has a secret, and asked, wants the right answer
abbrev pub IsRight : ℕ → Option (List ℕ) → Option (List ℕ) → Option (List ℕ) → Type 0
IsRight kind None asked given = Unit {0}
IsRight kind (Some secret) None given = Unit {0}
IsRight kind (Some secret) (Some asked) given = given ≡ Some (right_answer kind secret asked)

-- one that has none can't answer
abbrev pub LacksSecret : Option (List ℕ) → Option (List ℕ) → Type 0
LacksSecret secret asked = (is_some asked ≡ true) × (secret ≡ None)

-- ---- hidden values

-- an end that is to hide its calling numbers, and has a secret, hides that of a request behind a Random Vector of 16 bytes (section 4.3);
-- another one sends it plainly
pub data HidesNumber (c : Config) (session : ℕ) (who : List ℕ) (hidden : Option (List ℕ)) : Type 0 where
  InPlain : (c.hide ≡ true → c.secret ≡ None) → hidden ≡ None → HidesNumber c session who hidden
  ByVector : (secret vector : List ℕ) → c.hide ≡ true → c.secret ≡ Some secret → length vector ≡ 16
      → hidden ≡ Some (spelling (pairs_with (Some secret) (Some vector) (request_of session who))) → HidesNumber c session who hidden
