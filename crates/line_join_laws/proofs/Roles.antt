-- Whose roles stay: a line in which no node makes a step keeps them, and so does a start. So requests are of LACs behind it again.
use Rattle.std.proofs.Common.{◌≡◌, ⊎_elim, inl, inr, ℕ, List, [], refl, sym, ap, ◌∙◌, subst, Some, None}
use Rattle.std.proofs.lemmas.Option.{same_Some}
use Rattle.id_table.specs.Ids.{at}
use Rattle.id_table.specs.Order.{at_new, at_other, same_or_not}
use Rattle.world_model.specs.World.{World, Node, Deed, Lined, with_node, with_stop, new_node, fallen, block_of, hand_deed, hand_move}
use Rattle.channel_laws.specs.Accounts.{Account, History, history_from}
use Rattle.channel_laws.specs.Facts.{NodeOk, Holds}
use Rattle.channel_laws.specs.Lines.{AreHands, OfNode, LineDoes, Nothing, ANode, Arms, Falls, Steps, Cuts, Starts}
use Rattle.channel_laws.proofs.Still.{same_history, nothing_by}
use Rattle.recovery_laws.specs.Standing.{Rests}
use Rattle.join_laws.specs.Roles.{RequestsAreOfLacs, HasRolesOf, RequestsStay}

-- each node of a world has the role that it had in another one
abbrev pub KeepsRoles : World → World → Type 0
KeepsRoles w v = (n : ℕ) (node : Node) → at v.nodes n ≡ Some node
    → (old : Node) × (at w.nodes n ≡ Some old) × (old.end.role ≡ node.end.role)

pub keeps_has : (w v : World) (h : History) → KeepsRoles w v → HasRolesOf w v h
keeps_has w v h keeps n node there = inl (keeps n node there)

-- where a node has the role that it had, so has each one
pub put_keeps : (w : World) (n : ℕ) (old new : Node) → at w.nodes n ≡ Some old → old.end.role ≡ new.end.role
    → KeepsRoles w (with_node w n new)
put_keeps w n old new was role p node there = ⊎_elim
    (λ (e : p ≡ n).
    let same : new ≡ node = same_Some new node (sym (at_new w.nodes n new) ∙ (ap (at (with_node w n new).nodes) (sym e) ∙ there)) in
    (old, ap (at w.nodes) e ∙ was, role ∙ ap (λ (y : Node). y.end.role) same))
    (λ (o : p ≡ n → ⊥). (node, sym (at_other w.nodes n new p o) ∙ there, refl))
    (same_or_not p n)

-- and where it is new
new_has : (w : World) (h : History) (n : ℕ) (new : Node) → Holds w h → at w.nodes n ≡ None → HasRolesOf w (with_node w n new) h
new_has w h n new holds none p node there = ⊎_elim
    (λ (e : p ≡ n). inr (λ i k. ap (λ (a : Account). a.given)
    (ap (λ q. h.accounts q i k) e ∙ (subst (NodeOk w h n) none (holds.nodes n)).0 i k)))
    (λ (o : p ≡ n → ⊥). inl (node, sym (at_other w.nodes n new p o) ∙ there, refl))
    (same_or_not p n)

-- a world with the same nodes
pub same_keeps : (w v : World) → v.nodes ≡ w.nodes → KeepsRoles w v
same_keeps w v same p node there = (node, ap (λ l. at l p) (sym same) ∙ there, refl)

-- ---- lines in which no node makes a step

-- a frame that is handed up is of no account
hands_history : (number : ℕ) (ds : List Deed) (h : History) → AreHands number ds → history_from ds h ≡ h
unfolding history_from
hands_history number ds h (inl none) = ap (λ q. history_from q h) none
hands_history number ds h (inr one) =
    let d = hand_deed number one.0 one.1 one.2 in
    ap (λ q. history_from q h) one.3 ∙ same_history h d (nothing_by d (hand_move one.2) tt refl)

module _ (requests : RequestsStay) (w : World) (h : History) (number : ℕ) (x : Lined) (holds : Holds w h)
    (roles : RequestsAreOfLacs w h) where
  abbrev g : History
  g = history_from x.done h

  stays : x.done ≡ [] → HasRolesOf w x.world h → RequestsAreOfLacs x.world g
  stays done has =
      subst (RequestsAreOfLacs x.world) (sym (hands_history number x.done h (inl done))) (requests.others w x.world h has roles)

  fell_keeps : (k : OfNode w) → KeepsRoles w (with_node w k.node (fallen (block_of k.node number) k.old.end k.old k.old.checkpoint))
  unfolding fallen
  fell_keeps k = put_keeps w k.node k.old (fallen (block_of k.node number) k.old.end k.old k.old.checkpoint) k.was refl

  pub rested_roles : (d : LineDoes w number x) → Rests d → RequestsAreOfLacs x.world g
  rested_roles (Nothing same hands none) rests =
      subst (RequestsAreOfLacs x.world) (sym (hands_history number x.done h hands))
      (requests.others w x.world h (keeps_has w x.world h (same_keeps w x.world same.nodes)) roles)
  rested_roles (ANode n role lns secret hide lt to fresh world done none) rests =
      stays done (subst (λ v. HasRolesOf w v h) (sym world) (new_has w h n (new_node number n role lns secret hide) holds fresh))
  rested_roles (Arms k stop world done none) rests =
      stays done (keeps_has w x.world h (subst (KeepsRoles w) (sym world)
      (put_keeps w k.node k.old (record k.old { checkpoint = with_stop (Some stop) k.old.checkpoint }) k.was refl)))
  rested_roles (Falls k world done none) rests =
      stays done (keeps_has w x.world h (subst (KeepsRoles w) (sym world) (fell_keeps k)))
  rested_roles (Steps k) rests = absurd rests
  rested_roles (Cuts k) rests = absurd rests
  rested_roles (Starts k) rests = absurd rests

-- ---- steps and starts

-- no letter was given, and roles stay
pub kept_roles : RequestsStay → (w v : World) (h g : History) → KeepsRoles w v → g.accounts ≡ h.accounts
    → RequestsAreOfLacs w h → RequestsAreOfLacs v g
kept_roles requests w v h g keeps same roles n i e node there lns =
    subst (λ f. RequestsAreOfLacs v (record h { accounts = f })) (sym same) (requests.others w v h (keeps_has w v h keeps) roles)
    n i e node there lns
