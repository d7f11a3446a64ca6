-- The response to a challenge (RFC 2661 sections 4.4.3 and 5.1.1).
use Rattle.std.specs.Prelude.{ℕ, Bool, List, ◌∷◌, ◌++◌, nat_eq}
use Rattle.std.specs.Cmp.Lexicographic.{pointwise}
use Rattle.md5.specs.Md5.{md5}

-- MD5 over the kind in one byte, the secret and the challenge
abbrev pub response_of : ℕ → List ℕ → List ℕ → List ℕ
response_of kind secret challenge = md5 (kind ∷ secret ++ challenge)

-- whether what is given is that response, byte by byte
unfoldable pub is_response : ℕ → List ℕ → List ℕ → List ℕ → Bool
is_response kind secret challenge given = pointwise nat_eq given (response_of kind secret challenge)
