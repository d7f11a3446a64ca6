-- Bytes in pieces from the front.
use Rattle.std.proofs.Common.{◌≡◌, ℕ, ◌+◌, ◌<◌, ◌≤◌, List, [], ◌∷◌, ◌++◌, length, get_or, take, drop, refl, sym, ap, ◌∙◌, append_assoc, arith}
use Rattle.std.proofs.lemmas.List.{take-append-drop, drop-drop, get_or-drop, length-drop}
use Rattle.byteorder.specs.Endian.{big_number}
use Rattle.wire_base.specs.Numbers.{u16_bytes}
use Rattle.wire_base.specs.NumberLaws.{AreBytes, u16_bytes-number, number-lt}

-- one piece more
pub and_next : (bytes front piece : List ℕ) (n at : ℕ) → bytes ≡ front ++ drop at bytes → piece ≡ take n (drop at bytes) → bytes ≡ (front ++ piece) ++ drop (at + n) bytes
and_next bytes front piece n at e p =
    let behind : drop at bytes ≡ piece ++ drop (at + n) bytes = sym (take-append-drop n (drop at bytes)) ∙ ap (λ (t : List ℕ). t ++ drop n (drop at bytes)) (sym p) ∙ ap (λ (t : List ℕ). piece ++ t) (drop-drop n at bytes) in
    e ∙ ap (λ (t : List ℕ). front ++ t) behind ∙ sym (append_assoc front piece (drop (at + n) bytes))

pub AreBytes-drop : (bytes : List ℕ) (n : ℕ) → AreBytes bytes → AreBytes (drop n bytes)
AreBytes-drop bytes n fits i = rw get_or-drop (fits (n + i))

-- the number in two bytes from a place, written again
pub word_at : (bytes : List ℕ) (at : ℕ) → AreBytes bytes → at + 2 ≤ length bytes → u16_bytes (big_number 2 (drop at bytes)) ≡ take 2 (drop at bytes)
word_at bytes at fits le = u16_bytes-number (drop at bytes) (AreBytes-drop bytes at fits) (let l = length-drop at bytes in omega arith)

pub word-lt : (bytes : List ℕ) (at : ℕ) → AreBytes bytes → big_number 2 (drop at bytes) < 65536
word-lt bytes at fits = number-lt (drop at bytes) (AreBytes-drop bytes at fits)

pair : (bytes : List ℕ) → 2 ≤ length bytes → get_or bytes 0 0 ∷ get_or bytes 1 0 ∷ [] ≡ take 2 bytes
pair (a ∷ b ∷ rest) two = refl
pair bytes two = absurd (omega arith)

-- the two bytes from a place
pub pair_at : (bytes : List ℕ) (at : ℕ) → at + 2 ≤ length bytes → get_or bytes at 0 ∷ get_or bytes (at + 1) 0 ∷ [] ≡ take 2 (drop at bytes)
pair_at bytes at le =
    let zeroth : get_or (drop at bytes) 0 0 ≡ get_or bytes at 0 = get_or-drop at bytes 0 0 ∙ ap (λ (i : ℕ). get_or bytes i 0) (let e : at + 0 ≡ at = omega arith in e) in
    rw (← zeroth, ← get_or-drop at bytes 1 0) (pair (drop at bytes) (let l = length-drop at bytes in omega arith))
