-- Of a tunnel that is frozen the calls stay that are established.
use Rattle.std.proofs.Common.{◌≡◌, ℕ, ◌≤◌, suc, Bool, true, false, cond, eqb, List, [], ◌∷◌, length, refl, sym, ap, ◌∙◌, Option, Some, None, arith}
use Rattle.std.proofs.lemmas.Bool.{eqb-true}
use Rattle.std.proofs.lemmas.Option.{none-some}
use Rattle.id_table.specs.Ids.{at, at-none, at-cons}
use Rattle.id_table.specs.Order.{IsAbove, Ascends, at-above}
use Rattle.end_model.specs.declared.tunnel.Call.{Call}
use Rattle.end_model.specs.Calls.{is_up}
use Rattle.end_model.specs.End.{End}
use Rattle.end_model.specs.Tunnels.{Tunnel}
use Rattle.step_laws.specs.Moves.{finished_of}
use Rattle.book_laws.specs.Books.{booked_call, call_record, TunnelFits}

-- one that is established
abbrev if_up : Option Call → Option Call
if_up None = None
if_up (Some c) = cond (is_up c.state) (Some c) None

finished_above : (k : ℕ) (es : List (ℕ × Call)) → IsAbove k es → IsAbove k (finished_of es)
finished_above k [] above = tt
finished_above k (e ∷ es) above = by (is_up e.1.state) (finished_above k es above.1)
  where
    by : (b : Bool) → IsAbove k (finished_of es) → IsAbove k (cond b (e ∷ finished_of es) (finished_of es))
    by true later = (above.0, later)
    by false later = later

finished_ascends : (es : List (ℕ × Call)) → Ascends es → Ascends (finished_of es)
unfolding Ascends
finished_ascends [] order = tt
finished_ascends (e ∷ es) order = by (is_up e.1.state) (finished_ascends es order.1)
  where
    by : (b : Bool) → Ascends (finished_of es) → Ascends (cond b (e ∷ finished_of es) (finished_of es))
    by true later = (finished_above e.0 es order.0, later)
    by false later = later

finished_few : (es : List (ℕ × Call)) → length (finished_of es) ≤ length es
finished_few [] = omega arith
finished_few (e ∷ es) = by (is_up e.1.state) (finished_few es)
  where
    by : (b : Bool) → length (finished_of es) ≤ length es → length (cond b (e ∷ finished_of es) (finished_of es)) ≤ suc (length es)
    by true later = omega (arith, later)
    by false later = omega (arith, later)

at_finished : (es : List (ℕ × Call)) → Ascends es → (s : ℕ) → at (finished_of es) s ≡ if_up (at es s)
unfolding Ascends
at_finished [] order s = at-none s ∙ ap if_up (sym (at-none s))
at_finished (e ∷ es) order s = by (is_up e.1.state) refl (at_finished es order.1 s) ∙ ap if_up (sym (at-cons e es s))
  where
    none_behind : s ≡ e.0 → at es s ≡ None
    none_behind own = ap (at es) own ∙ at-above e.0 es order.0

    by : (b : Bool) → is_up e.1.state ≡ b → at (finished_of es) s ≡ if_up (at es s)
        → at (cond b (e ∷ finished_of es) (finished_of es)) s ≡ if_up (cond (eqb s e.0) (Some e.1) (at es s))
    by true up later = at-cons e (finished_of es) s ∙ here (eqb s e.0)
      where
        here : (q : Bool) → cond q (Some e.1) (at (finished_of es) s) ≡ if_up (cond q (Some e.1) (at es s))
        here true = ap (λ b. cond b (Some e.1) None) (sym up)
        here false = later
    by false down later = here (eqb s e.0) refl
      where
        here : (q : Bool) → eqb s e.0 ≡ q → at (finished_of es) s ≡ if_up (cond q (Some e.1) (at es s))
        here true own = later ∙ ap if_up (none_behind (eqb-true s e.0 own)) ∙ ap (λ b. cond b (Some e.1) None) (sym down)
        here false own = later

-- it was there
pub finished_found : (es : List (ℕ × Call)) → Ascends es → (s : ℕ) (c : Call) → at (finished_of es) s ≡ Some c → at es s ≡ Some c
finished_found es order s c is = by (at es s) (sym (at_finished es order s) ∙ is)
  where
    by : (o : Option Call) → if_up o ≡ Some c → o ≡ Some c
    by None h = absurd (none-some c h)
    by (Some d) h = up (is_up d.state) h
      where
        up : (b : Bool) → cond b (Some d) None ≡ Some c → Some d ≡ Some c
        up true g = g
        up false g = absurd (none-some c g)

-- what is recorded of each stays
pub finished_record : (i s : ℕ) (es : List (ℕ × Call)) → Ascends es → call_record i s (at (finished_of es) s) ≡ call_record i s (at es s)
finished_record i s es order = ap (call_record i s) (at_finished es order s) ∙ by (at es s)
  where
    by : (o : Option Call) → call_record i s (if_up o) ≡ call_record i s o
    by None = refl
    by (Some c) = up (is_up c.state) refl
      where
        up : (b : Bool) → is_up c.state ≡ b → call_record i s (cond b (Some c) None) ≡ cond b (Some (booked_call i s c)) None
        up true is = ap (λ q. cond q (Some (booked_call i s c)) None) is
        up false is = refl

pub finished_fits : (e : End) (i : ℕ) (t : Tunnel) → TunnelFits e i t → TunnelFits e i (record t { calls = finished_of t.calls })
finished_fits e i t h = record {
  some = h.some;
  drawn = h.drawn;
  order = finished_ascends t.calls h.order;
  few = (let most = finished_few t.calls in let few = h.few in omega (arith, most, few));
  remote = h.remote;
  window = h.window;
  unmarked = h.unmarked;
  recovered = h.recovered;
  calls = λ s c f. (let g = h.calls s c (finished_found t.calls h.order s c f) in record { some = g.some; drawn = g.drawn; none = g.none; up = g.up });
}
