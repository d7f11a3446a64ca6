-- What ports were given, call by call.
use Rattle.std.proofs.Common.{◌≡◌, ℕ, ◌+◌, ◌<◌, List, [], ◌∷◌, ◌++◌, take, drop, get_or, length, refl, sym, ap, subst, ◌∙◌, append_assoc}
use Rattle.std.specs.Prelude.{Option, Some, None}
use Rattle.std.proofs.lemmas.List.{append-nil, take_more, take-append-drop, drop_more}
use Rattle.std.proofs.lemmas.Grind.{flat_map-append}
use Rattle.port_traits.specs.declared.packets.Datagram.{Datagram}
use Rattle.port_traits.specs.declared.packets.LowerFrame.{LowerFrame}
use Rattle.port_traits.specs.Packets.{Gains}
use Rattle.port_events.specs.declared.end.Out.{Out}
use Rattle.port_events.specs.declared.giving.TurnFault.{TurnFault}
use Rattle.port_events.specs.Giving.{Gave, FailsAt, IsCut, to_link, to_ether, to_up}

pub Gains-none : {T : Type 0} (a : Option (List T)) → Gains a a []
Gains-none None = tt
Gains-none (Some xs) = (xs, refl, sym (append-nil xs))

some_same : {X : Type 0} (x y : X) → Some x ≡ Some y → x ≡ y
some_same x y e = cc

none_some : {X : Type 0} (y : X) → None ≡ Some y → ⊥
none_some y e = cc

pub Gains-then : {T : Type 0} (a b c : Option (List T)) (xs ys : List T) → Gains a b xs → Gains b c ys → Gains a c (xs ++ ys)
Gains-then a b None xs ys h g = tt
Gains-then a None (Some z) xs ys h g = absurd (none_some g.0 g.1)
Gains-then a (Some y) (Some z) xs ys h g =
    let same : y ≡ g.0 = some_same y g.0 g.1 in
    let more : z ≡ (h.0 ++ xs) ++ ys = g.2 ∙ ap (λ t. t ++ ys) (sym same ∙ h.2) in
    (h.0, h.1, more ∙ append_assoc h.0 xs ys)

pub Gave-none : (l : Option (List Datagram)) (e : Option (List (List ℕ))) (u : Option (List LowerFrame)) → Gave l l e e u u []
Gave-none l e u = record { link = Gains-none l; ether = Gains-none e; up = Gains-none u }

module _ (l m n : Option (List Datagram)) (e f g : Option (List (List ℕ))) (u v w : Option (List LowerFrame)) where
  pub Gave-then : (xs ys : List Out) → Gave l m e f u v xs → Gave m n f g v w ys → Gave l n e g u w (xs ++ ys)
  Gave-then xs ys a b = record {
    link = subst (Gains l n) (sym (flat_map-append to_link xs ys)) (Gains-then l m n _ _ a.link b.link);
    ether = subst (Gains e g) (sym (flat_map-append to_ether xs ys)) (Gains-then e f g _ _ a.ether b.ether);
    up = subst (Gains u w) (sym (flat_map-append to_up xs ys)) (Gains-then u v w _ _ a.up b.up);
  }

  pub Gave-more : (all : List Out) (i : ℕ) (x : Out) → i < length all → x ≡ get_or all i x
      → Gave l m e f u v (take i all) → Gave m n f g v w (x ∷ []) → Gave l n e g u w (take (i + 1) all)
  Gave-more all i x lt is a b =
      let more : take (i + 1) all ≡ take i all ++ x ∷ [] = take_more all i x lt ∙ ap (λ (y : Out). take i all ++ y ∷ []) (sym is) in
      subst (Gave l n e g u w) (sym more) (Gave-then (take i all) (x ∷ []) a b)

  -- the outputs before one went out, and at that one its port failed
  pub Gave-cut : {F : Type 0} (fault : TurnFault F) (all : List Out) (i : ℕ) (x : Out) → i < length all → x ≡ get_or all i x → FailsAt fault x
      → Gave l m e f u v (take i all) → Gave m n f g v w [] → (part : List Out) × IsCut fault all part × Gave l n e g u w part
  Gave-cut fault all i x lt is fails a b =
      let rest : drop i all ≡ x ∷ drop (i + 1) all = drop_more all i x lt ∙ ap (λ (y : Out). y ∷ drop (i + 1) all) (sym is) in
      let cut : all ≡ take i all ++ x ∷ drop (i + 1) all = sym (take-append-drop i all) ∙ ap (λ (k : List Out). take i all ++ k) rest in (
        take i all,
        record { next = x; left = drop (i + 1) all; outs_are = cut; fails = fails },
        subst (Gave l n e g u w) (append-nil (take i all)) (Gave-then (take i all) [] a b),
      )
