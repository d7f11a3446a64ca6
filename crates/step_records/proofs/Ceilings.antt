-- The ceilings that a space passed, one after another.
use Rattle.std.proofs.Common.{◌≡◌, ℕ, zero, suc, ◌+◌, ◌*◌, min, List, [], ◌∷◌, ◌++◌, map, refl, sym, ap, ◌∙◌, arith}
use Rattle.std.proofs.lemmas.List.{append-nil, append_assoc, map-append}
use Rattle.id_source.specs.Spaces.{Space, counting_from}
use Rattle.session_book.specs.declared.record.Record.{Record}
use Rattle.session_book.specs.declared.record.Record.TheVariants.{Ceiling}

-- the first of them
abbrev pub passed : ℕ → Space → ℕ → List Record
passed space before n = map (λ k. Ceiling space (min before.last (before.ceiling + 64 * k))) (counting_from 1 n)

counting_more : (a n : ℕ) → counting_from a (n + 1) ≡ counting_from a n ++ (a + n) ∷ []
unfolding counting_from
counting_more a zero = let e : a + 0 ≡ a = omega arith in rw e refl
counting_more a (suc n) =
    let e : (a + 1) + n ≡ a + suc n = omega arith in
    let more : suc n + 1 ≡ suc (n + 1) = omega arith in
    ap (counting_from a) more ∙ ap (λ (t : List ℕ). a ∷ t) (counting_more (a + 1) n ∙ ap (λ (k : ℕ). counting_from (a + 1) n ++ k ∷ []) e)

one_more : (space : ℕ) (before : Space) (n : ℕ) → passed space before (n + 1) ≡ passed space before n ++ Ceiling space (min before.last (before.ceiling + 64 * (n + 1))) ∷ []
one_more space before n =
    let f : ℕ → Record = λ k. Ceiling space (min before.last (before.ceiling + 64 * k)) in
    let e : 1 + n ≡ n + 1 = omega arith in
    ap (map f) (counting_more 1 n) ∙ map-append f (counting_from 1 n) ((1 + n) ∷ []) ∙ ap (λ (k : ℕ). passed space before n ++ f k ∷ []) e

pub none_yet : (space : ℕ) (before : Space) (kept : List Record) → kept ≡ kept ++ passed space before 0
unfolding counting_from
none_yet space before kept = sym (append-nil kept)

pub goes_on : (space : ℕ) (before : Space) (n number : ℕ) (first kept next : List Record) → number ≡ min before.last (before.ceiling + 64 * (n + 1))
    → kept ≡ first ++ passed space before n → next ≡ kept ++ Ceiling space number ∷ [] → next ≡ first ++ passed space before (n + 1)
goes_on space before n number first kept next is so far =
    let last : List Record = Ceiling space number ∷ [] in
    far ∙ ap (λ (k : List Record). k ++ last) so ∙ append_assoc first (passed space before n) last
    ∙ ap (λ (t : List Record). first ++ t) (ap (λ (m : ℕ). passed space before n ++ Ceiling space m ∷ []) is ∙ sym (one_more space before n))
