-- What turns give, output by output.
use Rattle.std.proofs.Common.{◌≡◌, ℕ, ◌+◌, ◌<◌, List, [], ◌∷◌, ◌++◌, take, drop, get_or, length, sym, ap, subst, ◌∙◌}
use Rattle.std.proofs.lemmas.List.{append-nil, map-append, take_more, take-append-drop, drop_more}
use Rattle.end_model.specs.declared.out.Out.{Out}
use Rattle.port_events.specs.declared.end.Out.{Out as Going}
use Rattle.port_events.proofs.Gives.{Gave-then}
use Rattle.held_ports.specs.Around.{Around, Gives}
use Rattle.pool_giving.specs.Hosts.{Hosted, turn_out, turn_outs, IsFront}

pub gives_then : (xs ys : List Going) (a b c : Around) → Gives xs a b → Gives ys b c → Gives (xs ++ ys) a c
gives_then xs ys a b c p q = record {
  goes = Gave-then a.given.link b.given.link c.given.link a.given.ether b.given.ether c.given.ether a.given.up b.given.up c.given.up xs ys p.goes q.goes;
  rest = q.rest ∙ ap (λ (k : Around). record k { given = c.given }) p.rest;
}

pub gives_more : (h : Hosted) (all : List Out) (i : ℕ) (x : Out) (a b c : Around) → i < length all → x ≡ get_or all i x
    → Gives (turn_outs h (take i all)) a b → Gives (turn_out h x ∷ []) b c → Gives (turn_outs h (take (i + 1) all)) a c
gives_more h all i x a b c lt is p q =
    let more : take (i + 1) all ≡ take i all ++ x ∷ [] = take_more all i x lt ∙ ap (λ (y : Out). take i all ++ y ∷ []) (sym is) in
    let outs : turn_outs h (take (i + 1) all) ≡ turn_outs h (take i all) ++ turn_out h x ∷ [] =
    ap (turn_outs h) more ∙ map-append (turn_out h) (take i all) (x ∷ []) in
    subst (λ (k : List Going). Gives k a c) (sym outs) (gives_then (turn_outs h (take i all)) (turn_out h x ∷ []) a b c p q)

pub gives_front : (h : Hosted) (all : List Out) (i : ℕ) (x : Out) (a b c : Around) → i < length all → x ≡ get_or all i x
    → Gives (turn_outs h (take i all)) a b → Gives [] b c → IsFront (turn_outs h all) a c
gives_front h all i x a b c lt is p q =
    let rest : drop i all ≡ x ∷ drop (i + 1) all = drop_more all i x lt ∙ ap (λ (y : Out). y ∷ drop (i + 1) all) (sym is) in
    let cut : all ≡ take i all ++ x ∷ drop (i + 1) all = sym (take-append-drop i all) ∙ ap (λ (k : List Out). take i all ++ k) rest in
    record {
      part = turn_outs h (take i all);
      next = turn_out h x;
      left = turn_outs h (drop (i + 1) all);
      outs_are = ap (turn_outs h) cut ∙ map-append (turn_out h) (take i all) (x ∷ drop (i + 1) all);
      gives = subst (λ (k : List Going). Gives k a c) (append-nil (turn_outs h (take i all))) (gives_then (turn_outs h (take i all)) [] a b c p q);
    }
