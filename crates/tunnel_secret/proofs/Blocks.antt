-- Texts block by block.
use Rattle.std.proofs.Common.{◌≡◌, ℕ, zero, suc, ◌+◌, ◌*◌, ◌/◌, ◌<◌, ◌≤◌, List, [], ◌∷◌, ◌++◌, length, take, drop, refl, ap, sym, ◌∙◌, arith, ◌⊎◌, inl, inr, min, Result, Ok, Err, IfOk, append_assoc, append-nil, length-append, length-take, length-drop}
use Rattle.std.proofs.lemmas.Grind.{common_steps}
use Rattle.std.proofs.lemmas.List.{drop_all, take-append-drop}
use Rattle.std.proofs.lemmas.Bool.{cases_lt}
use Rattle.md5.specs.Md5.{md5, digest_bytes}
use Rattle.tunnel_secret.specs.declared.hiding.Direction.{Direction}
use Rattle.tunnel_secret.specs.declared.hiding.Direction.TheVariants.{Hide, Unhide}
use Rattle.tunnel_secret.specs.Hiding.{xored, next_mask, cipher_block, blocks_of, text_of}
use Rattle.tunnel_secret.proofs.Bits.{length-xored, xored-xored}

pub length-md5 : (message : List ℕ) → length (md5 message) ≡ 16
unfolding md5 digest_bytes
length-md5 message = refl

-- behind the end there are no blocks
pub blocks_of-nil : (d : Direction) (secret mask : List ℕ) (n : ℕ) → blocks_of d secret mask n [] ≡ []
unfolding blocks_of xored
blocks_of-nil d secret mask zero = refl
blocks_of-nil d secret mask (suc n) = blocks_of-nil d secret (next_mask secret (cipher_block d [] [])) n

-- a text that isn't over goes on with a block
pub text_of-block : (d : Direction) (secret mask text : List ℕ) → 0 < length text → text_of d secret mask text ≡ xored mask (take 16 text) ++ text_of d secret (next_mask secret (cipher_block d (take 16 text) (xored mask (take 16 text)))) (drop 16 text)
unfolding text_of blocks_of
text_of-block d secret mask text some =
    let n : (length text + 15) / 16 ≡ suc ((length (drop 16 text) + 15) / 16) = omega (arith, length-drop 16 text) in
    ap (λ k. blocks_of d secret mask k text) n

pub text_of-nil : (d : Direction) (secret mask text : List ℕ) → length text ≡ 0 → text_of d secret mask text ≡ []
unfolding text_of
text_of-nil d secret mask [] none = blocks_of-nil d secret mask ((0 + 15) / 16)
text_of-nil d secret mask (b ∷ text) none = absurd (omega arith)

pub length-blocks_of : (d : Direction) (secret mask : List ℕ) (n : ℕ) (text : List ℕ) → length mask ≡ 16 → length text ≤ n * 16 → length (blocks_of d secret mask n text) ≡ length text
unfolding blocks_of
length-blocks_of d secret mask zero text sized fits = omega arith
length-blocks_of d secret mask (suc n) text sized fits =
    let made = xored mask (take 16 text) in
    let next = next_mask secret (cipher_block d (take 16 text) made) in
    let front : length made ≡ length (take 16 text) = length-xored mask (take 16 text) (omega (arith, length-take 16 text)) in
    let behind : length (blocks_of d secret next n (drop 16 text)) ≡ length (drop 16 text) =
    length-blocks_of d secret next n (drop 16 text) (length-md5 _) (omega (arith, length-drop 16 text)) in
    length-append made (blocks_of d secret next n (drop 16 text))
    ∙ omega (arith, front, behind, length-take 16 text, length-drop 16 text)

abbrev pub opposite : Direction → Direction
opposite Hide = Unhide
opposite Unhide = Hide

same_cipher : (d : Direction) (given made : List ℕ) → cipher_block (opposite d) made given ≡ cipher_block d given made
same_cipher Hide given made = refl
same_cipher Unhide given made = refl

-- what was put before is cut off again
cut_front : (n : ℕ) (made behind : List ℕ) → length made ≤ n → (length made ≡ n) ⊎ (behind ≡ []) → (take n (made ++ behind) ≡ made) × (drop n (made ++ behind) ≡ behind)
cut_front n made behind fits (inl whole) = (grind (arith, common_steps), grind (arith, common_steps))
cut_front n made behind fits (inr none) = rw none (grind (arith, common_steps), grind (arith, common_steps))

-- a block that was made, and what was made behind it
front_again : (d : Direction) (secret mask next : List ℕ) (n : ℕ) (text : List ℕ) → length mask ≡ 16 →
    (take 16 (xored mask (take 16 text) ++ blocks_of d secret next n (drop 16 text)) ≡ xored mask (take 16 text))
    × (drop 16 (xored mask (take 16 text) ++ blocks_of d secret next n (drop 16 text)) ≡ blocks_of d secret next n (drop 16 text))
front_again d secret mask next n text sized =
    let long : length (xored mask (take 16 text)) ≡ length (take 16 text) = length-xored mask (take 16 text) (omega (arith, length-take 16 text)) in
    cut_front 16 (xored mask (take 16 text)) (blocks_of d secret next n (drop 16 text)) (omega (arith, long, length-take 16 text))
    (elim (cases_lt (length text) 16) [
      | inl some ↦ inr (ap (blocks_of d secret next n) (drop_all 16 text (omega arith)) ∙ blocks_of-nil d secret next n)
      | inr all ↦ inl (omega (arith, long, length-take 16 text))
    ])

-- there and back
blocks_again : (d : Direction) (secret mask : List ℕ) (n : ℕ) (text : List ℕ) → length mask ≡ 16 → length text ≤ n * 16 → blocks_of (opposite d) secret mask n (blocks_of d secret mask n text) ≡ text
unfolding blocks_of
blocks_again d secret mask zero [] sized fits = refl
blocks_again d secret mask zero (b ∷ text) sized fits = absurd (omega arith)
blocks_again d secret mask (suc n) text sized fits =
    let given = take 16 text in
    let made = xored mask given in
    let next = next_mask secret (cipher_block d given made) in
    let front = front_again d secret mask next n text sized in
    rw (
      front.0,
      front.1,
      xored-xored mask given (omega (arith, length-take 16 text)),
      same_cipher d given made,
      blocks_again d secret next n (drop 16 text) (length-md5 _) (omega (arith, length-drop 16 text)),
    )
    (take-append-drop 16 text)

pub length-text_of : (d : Direction) (secret mask text : List ℕ) → length mask ≡ 16 → length (text_of d secret mask text) ≡ length text
unfolding text_of
length-text_of d secret mask text sized = length-blocks_of d secret mask ((length text + 15) / 16) text sized (omega arith)

pub text_again : (d : Direction) (secret mask text : List ℕ) → length mask ≡ 16 → text_of (opposite d) secret mask (text_of d secret mask text) ≡ text
unfolding text_of
text_again d secret mask text sized =
    rw (length-blocks_of d secret mask ((length text + 15) / 16) text sized (omega arith))
    (blocks_again d secret mask ((length text + 15) / 16) text sized (omega arith))

-- the front of what is left is its next block
next_block : (n : ℕ) (rest : List ℕ) → take (min (length rest) n) rest ≡ take n rest
next_block n rest = grind (arith, common_steps)

next_rest : (n : ℕ) (rest : List ℕ) → drop (min (length rest) n) rest ≡ drop n rest
next_rest n rest = grind (arith, common_steps)

-- a block more is made
pub goes_on : (d : Direction) (secret mask next rest block behind made out whole : List ℕ) (n : ℕ) → out ++ text_of d secret mask rest ≡ whole → 0 < length rest → n ≡ min (length rest) 16 → block ≡ take n rest → behind ≡ drop n rest → made ≡ xored mask block → next ≡ next_mask secret (cipher_block d block made) → (out ++ made) ++ text_of d secret next behind ≡ whole
goes_on d secret mask next rest block behind made out whole n so_far some cut e f g h =
    rw (h, g, f, e, cut, next_block 16 rest, next_rest 16 rest, append_assoc, ← text_of-block d secret mask rest some) so_far

pub is_over : (d : Direction) (secret mask rest out whole : List ℕ) → out ++ text_of d secret mask rest ≡ whole → length rest ≡ 0 → out ≡ whole
is_over d secret mask rest out whole so_far none =
    sym (append-nil out) ∙ ap (λ t. out ++ t) (sym (text_of-nil d secret mask rest none)) ∙ so_far

pub sized : {E : Type 0} (r : Result (List ℕ) E) (whole : List ℕ) (n : ℕ) → IfOk r (λ c. c ≡ whole) → length whole ≡ n → IfOk r (λ c. length c ≡ n)
sized (Ok c) whole n e l = ap length e ∙ l
sized (Err e) whole n u l = u
