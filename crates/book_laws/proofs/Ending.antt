-- What an end's book becomes as its peer answers which sessions it has: the calls that end are taken out, one after the other.
use Rattle.std.proofs.Common.{◌≡◌, ℕ, ◌≤◌, true, List, [], ◌∷◌, map, Some, refl, sym, ap, ◌∙◌, subst, arith}
use Rattle.std.specs.List.{AllByRecursion}
use Rattle.id_table.specs.Ids.{at, put, put-put, without}
use Rattle.id_table.specs.Order.{at_new, put-again}
use Rattle.session_query.specs.Queries.{Asking}
use Rattle.session_book.specs.declared.record.Record.{Record}
use Rattle.session_book.specs.declared.record.Record.TheVariants.{CallDown}
use Rattle.session_book.specs.Books.{Kept, stepped}
use Rattle.session_looks.specs.declared.look.CellChange.TheVariants as cell
use Rattle.end_model.specs.declared.tunnel.Call.{Call}
use Rattle.end_model.specs.declared.tunnel.Control.{Control}
use Rattle.end_model.specs.End.{End, with_look, with_looks}
use Rattle.end_model.specs.Tunnels.{Tunnel}
use Rattle.step_laws.specs.Moves.{with_tunnel}
use Rattle.step_laws.specs.Queries.{AreUpInTurn, without_each}
use Rattle.book_laws.specs.Books.{Mirrors, AreDrawn, TablesFit, LeavesNone}
use Rattle.book_laws.proofs.Fitting.{Grows}
use Rattle.book_laws.proofs.Changes.{GoesOn, SameControl, same_control, grows_so, nothing_goes, line_goes, call_ends}

-- with these calls ended
abbrev ended_end : List ℕ → End → ℕ → Tunnel → End
ended_end ss e i t =
    record e { tunnels = put e.tunnels i (record t { calls = without_each ss t.calls }); calls = with_looks (map cell.Kill ss) e.calls }

abbrev downs : List ℕ → List Record
downs ss = map (λ s. CallDown s) ss

grows_on : (e x y : End) → Grows e x → Grows x y → Grows e y
grows_on e x y g h = record {
  role = h.role ∙ g.role;
  tunnels = (let a = g.tunnels in let b = h.tunnels in omega (arith, a, b));
  sessions = (let a = g.sessions in let b = h.sessions in omega (arith, a, b));
}

-- after a change that leaves nothing
goes_behind : (e x y : End) (k : Kept) (rs : List Record) → GoesOn e x k [] → GoesOn x y k rs → GoesOn e y k rs
goes_behind e x y k rs g h =
    record { grows = grows_on e x y g.grows h.grows; fit = h.fit; in_place = h.in_place; book = h.book; calls = h.calls }

-- or one record
goes_after : (e x y : End) (k : Kept) (r : Record) (rs : List Record) → GoesOn e x k (r ∷ []) → GoesOn x y (stepped k r) rs
    → GoesOn e y k (r ∷ rs)
goes_after e x y k r rs g h = record {
  grows = grows_on e x y g.grows h.grows;
  fit = h.fit;
  in_place = (g.in_place.0, h.in_place);
  book = h.book;
  calls = (subst (λ q. LeavesNone q r) (sym h.grows.role) g.calls.0, h.calls);
}

each_ends : (ss : List ℕ) (e : End) (k : Kept) (fit : TablesFit e) (drawn : AreDrawn e k) (book : Mirrors e k) (i : ℕ) (t : Tunnel)
    → at e.tunnels i ≡ Some t
    → AreUpInTurn ss t.calls → GoesOn e (ended_end ss e i t) k (downs ss)
unfolding with_looks with_look
each_ends [] e k fit drawn book i t there up =
    nothing_goes e (ended_end [] e i t) k fit drawn book (ap (λ ts. record e { tunnels = ts }) (put-again i t e.tunnels fit.order there))
each_ends (s ∷ ss) e k fit drawn book i t there up =
    let u : Tunnel = record t { calls = without t.calls s } in
    let y : End = record e { tunnels = put e.tunnels i u; calls = without e.calls s } in
    let g = call_ends e y k fit drawn book i t t.control t.letters s up.0 there up.1 (grows_so e y refl refl refl) refl
    (same_control t.control) true (sym up.2) in
    let rest = each_ends ss y (stepped k (CallDown s)) g.fit (record { tunnels = drawn.tunnels; sessions = drawn.sessions }) g.book i u
    (at_new e.tunnels i u) up.3 in
    subst (λ ts. GoesOn e (record y { tunnels = ts; calls = with_looks (map cell.Kill ss) y.calls }) k (downs (s ∷ ss)))
    (put-put e.tunnels i u _)
    (goes_after e y (ended_end ss y i u) k (CallDown s) (downs ss) g rest)

-- a tunnel takes an answer
pub answer_goes : (e x : End) (k : Kept) → TablesFit e → AreDrawn e k → Mirrors e k
    → (i : ℕ) (t : Tunnel) (c : Control) (asks : Asking) (ss : List ℕ)
    → at e.tunnels i ≡ Some t → AreUpInTurn ss t.calls
    → x ≡ record (with_tunnel e i (record t { control = c; calls = without_each ss t.calls; query = asks })) {
      calls = with_looks
          (map cell.Kill ss) e.calls;
    }
    → SameControl t.control c → GoesOn e x k (downs ss)
answer_goes e x k fit drawn book i t c asks ss there up after same =
    let u : Tunnel = record t { control = c; query = asks } in
    let y = with_tunnel e i u in
    let g = line_goes e y k fit drawn book i t c t.letters t.recovery asks there refl same (fit.tunnels i t there).recovered in
    let h = each_ends ss y k g.fit (record { tunnels = drawn.tunnels; sessions = drawn.sessions }) g.book i u (at_new e.tunnels i u) up in
    subst (λ z. GoesOn e z k (downs ss)) (sym after)
    (subst (λ ts. GoesOn e (record e { tunnels = ts; calls = with_looks (map cell.Kill ss) e.calls }) k (downs ss))
    (put-put e.tunnels i u _)
    (goes_behind e y (ended_end ss y i u) k (downs ss) g h))
