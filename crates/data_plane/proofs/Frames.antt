-- The bytes from the place of a frame to the end of its body are the frame.
use Rattle.std.proofs.Common.{◌≡◌, ℕ, ◌+◌, ◌-◌, ◌≤◌, min, Bool, true, false, List, [], ◌∷◌, length, take, drop, if◌then◌else◌, refl, sym, ap, ◌∙◌, arith}
use Rattle.std.specs.Str.{bytes_eq}
use Rattle.std.proofs.lemmas.List.{drop-take, drop-drop, length-take}
use Rattle.std.proofs.lemmas.Slice.Eq.{bytes_eq-Decides}
use Rattle.session_looks.specs.Frames.{frame_of}
use Rattle.data_plane.specs.Carries.{place_in}

-- without its first two bytes
shorter : (start stop : ℕ) (bytes : List ℕ) → 2 ≤ stop - start → take (stop - (start + 2)) (drop (start + 2) bytes) ≡ drop 2 (take (stop - start) (drop start bytes))
shorter start stop bytes two =
    let rest : stop - start ≡ 2 + (stop - (start + 2)) = omega (arith, two) in
    sym (ap (λ n. drop 2 (take n (drop start bytes))) rest ∙ (drop-take 2 (stop - (start + 2)) (drop start bytes) ∙ ap (take (stop - (start + 2))) (drop-drop 2 start bytes)))

-- a body that begins with two bytes has two
has_two : (n : ℕ) (xs : List ℕ) → bytes_eq (take 2 (take n xs)) (255 ∷ 3 ∷ []) ≡ true → 2 ≤ n
has_two n xs is =
    let same : take 2 (take n xs) ≡ 255 ∷ 3 ∷ [] = (bytes_eq-Decides (take 2 (take n xs)) (255 ∷ 3 ∷ [])).0 is in
    let two : min 2 (length (take n xs)) ≡ 2 = sym (length-take 2 (take n xs)) ∙ ap length same in
    omega (arith, two, length-take n xs)

cut_by : (start stop : ℕ) (bytes : List ℕ) (b : Bool) → bytes_eq (take 2 (take (stop - start) (drop start bytes))) (255 ∷ 3 ∷ []) ≡ b
    → take (stop - (if b then start + 2 else start)) (drop (if b then start + 2 else start) bytes)
    ≡ (if b then drop 2 (take (stop - start) (drop start bytes)) else take (stop - start) (drop start bytes))
cut_by start stop bytes false is = refl
cut_by start stop bytes true is = shorter start stop bytes (has_two (stop - start) (drop start bytes) is)

pub cut_is : (start stop : ℕ) (bytes : List ℕ) →
    let body = take (stop - start) (drop start bytes) in
    take (stop - place_in start body) (drop (place_in start body) bytes) ≡ frame_of body
cut_is start stop bytes = cut_by start stop bytes (bytes_eq (take 2 (take (stop - start) (drop start bytes))) (255 ∷ 3 ∷ [])) refl
