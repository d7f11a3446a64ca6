-- PPP frames that are for a link, and those that it gives, from their protocol field on (RFC 1661 section 2).
use Rattle.std.specs.Prelude.{ℕ, Bool, List, [], ◌∷◌, bytes_eq, take}

-- LCP has the protocol c021
abbrev pub is_for_link : List ℕ → Bool
is_for_link frame = bytes_eq (take 2 frame) (192 ∷ 33 ∷ [])

abbrev pub lcp_frame : List ℕ → List ℕ
lcp_frame packet = 192 ∷ 33 ∷ packet
