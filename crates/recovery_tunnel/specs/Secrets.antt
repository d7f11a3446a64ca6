-- What the two ends ask of one another and answer by a secret that both know (RFC 2661 section 5.1.1).
use Rattle.std.specs.Prelude.{ℕ, Bool, true, false, not, ◌&&◌, List, Option, Some, None, is_some, is_none}
use Rattle.tunnel_secret.specs.Response.{response_of, is_response}

-- what an end answers, where it was asked and has a secret, in a message of this type: 3 for an SCCCN
abbrev pub response_by : ℕ → Option (List ℕ) → Option (List ℕ) → Option (List ℕ)
response_by kind None asked = None
response_by kind (Some secret) None = None
response_by kind (Some secret) (Some asked) = Some (response_of kind secret asked)

-- an end that has no secret can't answer
abbrev pub lacks_secret : Option (List ℕ) → Option (List ℕ) → Bool
lacks_secret secret asked = is_some asked && is_none secret

-- an end that asked finds the answer wrong, or none
abbrev pub is_wrong : ℕ → Option (List ℕ) → Option (List ℕ) → Option (List ℕ) → Bool
is_wrong kind None asked given = false
is_wrong kind (Some secret) None given = false
is_wrong kind (Some secret) (Some asked) None = true
is_wrong kind (Some secret) (Some asked) (Some given) = not (is_response kind secret asked given)
