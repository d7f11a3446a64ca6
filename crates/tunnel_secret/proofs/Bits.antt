-- Bytes that are xored.
use Rattle.std.proofs.Common.{◌≡◌, ℕ, zero, suc, ◌+◌, ◌<◌, ◌≤◌, ◌≢◌, ◌↔◌, List, [], ◌∷◌, length, take, get_or, set, refl, ap, sym, ◌∙◌, arith, below_more, get_or-set_other, get_or-set_same, bit_xor, bit_or, length-take, Bool, IsTrue, nat_eq}
use Rattle.std.specs.Cmp.Lexicographic.{pointwise}
use Rattle.std.proofs.lemmas.Bool.Decides.{same_from_decides, Decides-eqb}
use Rattle.std.proofs.lemmas.Slice.Eq.{slice_eq-Decides}
use Rattle.std.proofs.lemmas.Grind.{same_number_lists}
use Rattle.std.proofs.lemmas.List.{get_or-take}
use Rattle.std.proofs.lemmas.Nat.{le_or_l, le_or_r}
use lib.Bits.{xor_assoc, xor_self, xor_zero_l, xor_zero_r, or_zero_l}
use Rattle.tunnel_secret.specs.Hiding.{xored}

-- a byte that is xored twice is as it was
pub xor_twice : (m b : ℕ) → bit_xor m (bit_xor m b) ≡ b
xor_twice m b = sym (xor_assoc m m b) ∙ ap (λ x. bit_xor x b) (xor_self m) ∙ xor_zero_l b

pub same_from_xor : (a b : ℕ) → bit_xor a b ≡ 0 → a ≡ b
same_from_xor a b e =
    sym (xor_zero_r a) ∙ ap (bit_xor a) (sym (xor_self b)) ∙ sym (xor_assoc a b b) ∙ ap (λ x. bit_xor x b) e ∙ xor_zero_l b

pub length-xored : (mask block : List ℕ) → length block ≤ length mask → length (xored mask block) ≡ length block
unfolding xored
length-xored mask [] h = refl
length-xored [] (b ∷ block) h = absurd (omega arith)
length-xored (m ∷ mask) (b ∷ block) h = ap suc (length-xored mask block (omega arith))

pub xored-xored : (mask block : List ℕ) → length block ≤ length mask → xored mask (xored mask block) ≡ block
unfolding xored
xored-xored mask [] h = refl
xored-xored [] (b ∷ block) h = absurd (omega arith)
xored-xored (m ∷ mask) (b ∷ block) h = rw (xor_twice m b, xored-xored mask block (omega arith)) refl

pub get_or-xored : (mask block : List ℕ) (k : ℕ) → k < length block → length block ≤ length mask → get_or (xored mask block) k 0 ≡ bit_xor (get_or mask k 0) (get_or block k 0)
unfolding xored
get_or-xored mask [] k lt h = absurd (omega arith)
get_or-xored [] (b ∷ block) k lt h = absurd (omega arith)
get_or-xored (m ∷ mask) (b ∷ block) zero lt h = refl
get_or-xored (m ∷ mask) (b ∷ block) (suc k) lt h = get_or-xored mask block k (omega arith) (omega arith)

or_is_zero : (a b : ℕ) → bit_or a b ≡ 0 → (a ≡ 0) × (b ≡ 0)
or_is_zero a b e = (omega (arith, e, le_or_l a b), omega (arith, e, le_or_r a b))

-- no byte differs so far, with one more
pub none_differs : (given wanted : List ℕ) (differing i : ℕ) → (differing ≡ 0) ↔ ((k : ℕ) → k < i → get_or given k 0 ≡ get_or wanted k 0) → (bit_or differing (bit_xor (get_or wanted i 0) (get_or given i 0)) ≡ 0) ↔ ((k : ℕ) → k < i + 1 → get_or given k 0 ≡ get_or wanted k 0)
none_differs given wanted differing i so_far = (
  (λ e. let z = or_is_zero differing (bit_xor (get_or wanted i 0) (get_or given i 0)) e in
      below_more _ _ (so_far.0 z.0) (sym (same_from_xor _ _ z.1))),
  (λ h. ap (λ d. bit_or d (bit_xor (get_or wanted i 0) (get_or given i 0))) (so_far.1 (λ k lt. h k (omega arith)))
      ∙ or_zero_l _ ∙ ap (bit_xor (get_or wanted i 0)) (h i (omega arith)) ∙ xor_self (get_or wanted i 0)),
)

-- the front of the cells, where each is xored
pub xored_front : (cells mask block : List ℕ) → length cells ≡ length mask → length block ≤ length mask → ((k : ℕ) → k < length block → get_or cells k 0 ≡ bit_xor (get_or mask k 0) (get_or block k 0)) → take (length block) cells ≡ xored mask block
xored_front cells mask block same fits each =
    same_number_lists (take (length block) cells) (xored mask block)
    (let long = length-xored mask block fits in simp length-take (omega arith))
    (λ k lt. let lt2 : k < length block = omega (arith, length-take (length block) cells) in
    get_or-take (length block) cells k 0 lt2 ∙ each k lt2 ∙ sym (get_or-xored mask block k lt2 fits))

-- one cell more is xored
pub xored_more : (cells mask block : List ℕ) (i : ℕ) → i < length cells → ((k : ℕ) → k < i → get_or cells k 0 ≡ bit_xor (get_or mask k 0) (get_or block k 0)) → ((k : ℕ) → i ≤ k → get_or cells k 0 ≡ get_or mask k 0) → (k : ℕ) → k < i + 1 → get_or (set cells i (bit_xor (get_or cells i 0) (get_or block i 0))) k 0 ≡ bit_xor (get_or mask k 0) (get_or block k 0)
xored_more cells mask block i within made rest =
    below_more _ _
    (λ k lt. let ne : k ≢ i = omega arith in rw get_or-set_other (made k lt))
    (rw get_or-set_same (ap (λ x. bit_xor x (get_or block i 0)) (rest i (omega arith))))

pub same_digests : (given wanted : List ℕ) (differing i : ℕ) → length given ≡ 16 → length wanted ≡ 16 → 16 ≤ i → (differing ≡ 0) ↔ ((k : ℕ) → k < i → get_or given k 0 ≡ get_or wanted k 0) → (differing ≡ 0) ↔ (given ≡ wanted)
same_digests given wanted differing i long long2 all so_far = (
  (λ e. same_number_lists given wanted (long ∙ sym long2) (λ k lt. so_far.0 e k (omega arith))),
  (λ e. so_far.1 (λ k lt. ap (λ xs. get_or xs k 0) e)),
)

-- a test of two lists, byte by byte
pub as_test : (r : Bool) (xs ys : List ℕ) → IsTrue r ↔ (xs ≡ ys) → r ≡ pointwise nat_eq xs ys
as_test r xs ys h = same_from_decides r (pointwise nat_eq xs ys) (h.0, h.1) (slice_eq-Decides Decides-eqb xs ys (pointwise nat_eq xs ys) refl)
