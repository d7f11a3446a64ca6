-- The calls of a book, put by their tunnels one after the other.
use Rattle.std.proofs.Common.{◌≡◌, ℕ, Bool, true, false, List, [], ◌∷◌, ◌++◌, refl, ap, sym, subst, ◌∙◌}
use Rattle.std.proofs.lemmas.Bool.{eqb-true, eqb-false}
use Rattle.std.proofs.lemmas.List.{append-nil}
use Rattle.std.specs.Prelude.{◌==◌}
use Rattle.id_table.specs.Ids.{at, put}
use Rattle.id_table.specs.Order.{at_new, at_other}
use Rattle.session_book.specs.declared.record.BookCall.{BookCall}
use Rattle.session_book.specs.Books.{calls_of}
use Rattle.end_core.specs.Keeping.{calls_in}

one_of : (i : ℕ) (c : BookCall) → (c.tunnel == i) ≡ true → calls_of i (c ∷ []) ≡ c ∷ []
one_of i c is = rw is refl

none_of : (i : ℕ) (c : BookCall) → (c.tunnel == i) ≡ false → calls_of i (c ∷ []) ≡ []
none_of i c is = rw is refl

-- a call is put behind those of its tunnel
put_by : (es : List (ℕ × List BookCall)) (k i : ℕ) (c : BookCall) (calls : List BookCall) → c.tunnel ≡ k → calls_in (at es k) ≡ calls
    → (b : Bool) → (c.tunnel == i) ≡ b → calls_in (at (put es k (calls ++ c ∷ [])) i) ≡ calls_in (at es i) ++ calls_of i (c ∷ [])
put_by es k i c calls of is true same =
    let there : k ≡ i = sym of ∙ eqb-true c.tunnel i same in
    subst (λ (j : ℕ). calls_in (at (put es k (calls ++ c ∷ [])) j) ≡ calls_in (at es j) ++ calls_of i (c ∷ [])) there
    (ap calls_in (at_new es k (calls ++ c ∷ [])) ∙ ap (λ (xs : List BookCall). xs ++ c ∷ []) (sym is)
    ∙ ap (λ (ys : List BookCall). calls_in (at es k) ++ ys) (sym (one_of i c same)))
put_by es k i c calls of is false other =
    ap calls_in (at_other es k (calls ++ c ∷ []) i (λ e. eqb-false c.tunnel i other (of ∙ sym e)))
    ∙ sym (append-nil (calls_in (at es i))) ∙ ap (λ (ys : List BookCall). calls_in (at es i) ++ ys) (sym (none_of i c other))

pub put_behind : (es : List (ℕ × List BookCall)) (k i : ℕ) (c : BookCall) (calls : List BookCall) → c.tunnel ≡ k → calls_in (at es k) ≡ calls
    → calls_in (at (put es k (calls ++ c ∷ [])) i) ≡ calls_in (at es i) ++ calls_of i (c ∷ [])
put_behind es k i c calls of is = put_by es k i c calls of is (c.tunnel == i) refl
