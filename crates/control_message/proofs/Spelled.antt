-- What is appended to bytes, one list of pairs after the other.
use Rattle.std.proofs.Common.{◌≡◌, ℕ, List, ◌++◌, ◌∙◌, sym, ap, append_assoc}
use Rattle.std.proofs.lemmas.Grind.{flat_map-append}
use Rattle.avp_codec.specs.declared.avp.Avp.{Avp}
use Rattle.avp_codec.specs.Spelling.{spelling_of, spelling}

pub both_appended : (out : List ℕ) (v w : List Avp) → (out ++ spelling v) ++ spelling w ≡ out ++ spelling (v ++ w)
both_appended out v w = append_assoc out (spelling v) (spelling w) ∙ ap (λ (t : List ℕ). out ++ t) (sym (flat_map-append spelling_of v w))

-- bytes that grew by two lists
pub grown_twice : (out one two : List ℕ) (v w : List Avp) → one ≡ out ++ spelling v → two ≡ one ++ spelling w → two ≡ out ++ spelling (v ++ w)
grown_twice out one two v w first second = second ∙ ap (λ (t : List ℕ). t ++ spelling w) first ∙ both_appended out v w
