-- A book's call is found by its place.
use Rattle.std.proofs.Common.{◌≡◌, ℕ, Option, Some, None, refl, sym, ◌∙◌, ap, subst}
use Rattle.std.proofs.lemmas.Option.{none-some}
use Rattle.id_table.specs.Ids.{at}
use Rattle.session_book.specs.declared.record.BookCall.{BookCall}
use Rattle.session_book.specs.Books.{Kept, call_at}
use Rattle.end_model.specs.declared.tunnel.Call.{Call}
use Rattle.end_model.specs.declared.tunnel.CallPlace.{CallPlace}
use Rattle.end_model.specs.End.{End}
use Rattle.end_model.specs.Tunnels.{Tunnel}
use Rattle.step_laws.specs.Looks.{LooksAreTrue}
use Rattle.book_laws.specs.Books.{Mirrors, call_record, record_in, place_record, CallsAreByPlace}

module _ (e : End) (k : Kept) (looks : LooksAreTrue e) (m : Mirrors e k) (s : ℕ) where
  -- a call that is recorded has its place
  placed : (i : ℕ) (b : BookCall) → record_in i s (at e.tunnels i) ≡ Some b → (p : CallPlace) × (at e.calls s ≡ Some p) × (p.tunnel ≡ i)
  placed i b is = by (at e.tunnels i) refl is
    where
      by : (o : Option Tunnel) → at e.tunnels i ≡ o → record_in i s o ≡ Some b → (p : CallPlace) × (at e.calls s ≡ Some p) × (p.tunnel ≡ i)
      by None there h = absurd (none-some b h)
      by (Some t) there h = by_call (at t.calls s) refl h
        where
          by_call : (d : Option Call) → at t.calls s ≡ d → call_record i s d ≡ Some b → (p : CallPlace) × (at e.calls s ≡ Some p) × (p.tunnel ≡ i)
          by_call None live g = absurd (none-some b g)
          by_call (Some c) live g = (_, looks.seen i t there s c live, refl)

  by_place : (o : Option CallPlace) → at e.calls s ≡ o → (c : Option BookCall) → call_at k s ≡ c → c ≡ place_record e s o
  by_place None is None had = refl
  by_place None is (Some b) had = (let w = placed b.tunnel b (m.calls s b had) in absurd (none-some w.0 (sym is ∙ w.1)))
  by_place (Some p) is (Some b) had =
      let w = placed b.tunnel b (m.calls s b had) in
      let same : w.0 ≡ p = (let q : Some w.0 ≡ Some p = sym w.1 ∙ is in cc) in
      let own : b.tunnel ≡ p.tunnel = sym w.2 ∙ ap (λ (z : CallPlace). z.tunnel) same in
      sym (subst (λ n. record_in n s (at e.tunnels n) ≡ Some b) own (m.calls s b had))
  by_place (Some p) is None had = by (record_in p.tunnel s (at e.tunnels p.tunnel)) refl
    where
      by : (o : Option BookCall) → record_in p.tunnel s (at e.tunnels p.tunnel) ≡ o → None ≡ o
      by None h = refl
      by (Some b) h = absurd (none-some b (sym had ∙ m.all_calls p.tunnel s b h))

pub calls_are_by_place : CallsAreByPlace
calls_are_by_place e k looks m s = by_place e k looks m s (at e.calls s) refl (call_at k s) refl
