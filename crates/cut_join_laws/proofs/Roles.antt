-- A node that falls keeps its role, so requests are of LACs alone as they were.
use Rattle.std.proofs.Common.{◌≡◌, inl, ⊎_elim, ℕ, refl, sym, ap, ◌∙◌, subst}
use Rattle.std.proofs.lemmas.Option.{same_Some}
use Rattle.id_table.specs.Ids.{at}
use Rattle.id_table.specs.Order.{at_other, same_or_not}
use Rattle.end_model.specs.End.{End}
use Rattle.world_model.specs.World.{World, Node, Lined, fallen}
use Rattle.channel_laws.specs.Accounts.{History}
use Rattle.channel_laws.specs.Lines.{CutStep}
use Rattle.join_laws.specs.Roles.{RequestsAreOfLacs, HasRolesOf, RequestsStay}
use Rattle.cut_join_laws.specs.CutSteps.{CutStepsKeepRoles}
use Rattle.cut_join_laws.proofs.Down.{new, nodes_are, there, nothing_done}

module _ (w : World) (h : History) (number : ℕ) (x : Lined) (s : CutStep w number x) where
  abbrev down : Node
  down = new w number x s

  same_role : s.old.end.role ≡ down.end.role
  unfolding fallen
  same_role = ap (λ (e : End). e.role) (sym s.finds.end)

  pub roles_are : HasRolesOf w x.world h
  roles_are n node is = ⊎_elim
      (λ (e : n ≡ s.node).
      let one = same_Some node down (sym is ∙ (ap (λ y. at x.world.nodes y) e ∙ there w number x s)) in
      inl (s.old, ap (λ y. at w.nodes y) e ∙ s.was, same_role ∙ ap (λ (y : Node). y.end.role) (sym one)))
      (λ (o : n ≡ s.node → ⊥).
      inl (node, sym (at_other w.nodes s.node down n o) ∙ (ap (λ l. at l n) (sym (nodes_are w number x s)) ∙ is), refl))
      (same_or_not n s.node)

pub cut_steps_keep_roles : RequestsStay → CutStepsKeepRoles
cut_steps_keep_roles requests w h number x s roles =
    subst (RequestsAreOfLacs x.world) (sym (nothing_done w number x s h))
    (requests.others w x.world h (roles_are w h number x s) roles)
