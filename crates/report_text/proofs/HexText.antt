-- The hex text of bytes, piece by piece.
use Rattle.std.proofs.Common.{◌≡◌, ℕ, ◌/◌, ◌%◌, List, [], ◌∷◌, ◌++◌, length, take, drop, refl, sym, ap, ◌∙◌, append_assoc}
use Rattle.std.specs.Prelude.{slice_index}
use Rattle.std.proofs.lemmas.List.{append-nil, nil_from_length, take-append-drop}
use Rattle.hex.specs.Hex.{encode_with, encode_lower, lower_digits}

encode_with-append : (digits xs ys : List ℕ) → encode_with digits (xs ++ ys) ≡ encode_with digits xs ++ encode_with digits ys
unfolding encode_with
encode_with-append digits [] ys = refl
encode_with-append digits (x ∷ xs) ys =
    ap (λ (text : List ℕ). slice_index digits (x / 16) ∷ slice_index digits (x % 16) ∷ text) (encode_with-append digits xs ys)

encode_nothing : encode_lower [] ≡ []
unfolding encode_with
encode_nothing = refl

-- a piece of what is left was appended
pub goes_on : (before after left piece rest : List ℕ) (n : ℕ) → piece ≡ take n left → rest ≡ drop n left → after ≡ before ++ encode_lower piece → after ++ encode_lower rest ≡ before ++ encode_lower left
goes_on before after left piece rest n front back is =
    let both = sym (encode_with-append lower_digits (take n left) (drop n left)) ∙ ap encode_lower (take-append-drop n left) in
    rw (is, front, back) (append_assoc before (encode_lower (take n left)) (encode_lower (drop n left)) ∙ ap (λ (text : List ℕ). before ++ text) both)

-- nothing is left
pub ends : (text left : List ℕ) → length left ≡ 0 → text ++ encode_lower left ≡ text
ends text left none = rw (nil_from_length left none, encode_nothing) (append-nil text)
