-- A live call that knows the session of the other end: that session has the birth of the call, and its node is of the other kind.
use Rattle.std.proofs.Common.{◌≡◌, ⊎_elim, ℕ, ◌<◌, refl, sym, ap, ap₂, ◌∙◌, subst, Option, Some, None, arith}
use Rattle.std.specs.Prelude.{◌≢◌}
use Rattle.id_table.specs.Ids.{at}
use Rattle.end_names.specs.declared.role.Role.{Role}
use Rattle.end_names.specs.declared.role.Role.TheVariants.{Lac, Lns}
use Rattle.end_model.specs.declared.tunnel.Call.{Call}
use Rattle.end_model.specs.Tunnels.{Tunnel}
use Rattle.world_model.specs.World.{World, Node, birth_in, birth_of}
use Rattle.epoch_machine.specs.Worlds as machine
use Rattle.session_laws.specs.Names.{name}
use Rattle.session_laws.proofs.Names.{name_some}
use Rattle.channel_laws.specs.Accounts.{History}
use Rattle.run_join_laws.specs.Births.{AreOfOneCall, other_role, KnowsItsMate}
use Rattle.run_join_laws.proofs.Calls as calls
use Rattle.run_join_laws.proofs.Calls.{Known}

-- the node of a session that has a birth is there
pub born_there : (w : World) (n s : ℕ) → 0 < birth_of w n s → (node : Node) × (at w.nodes n ≡ Some node)
unfolding birth_of
born_there w n s some = by (at w.nodes n) refl
  where
    by : (o : Option Node) → at w.nodes n ≡ o → (node : Node) × (at w.nodes n ≡ Some node)
    by None is = let none = ap (λ o. birth_in o s) is in absurd (omega (arith, some, none))
    by (Some node) is = (node, is)

module _ (w : World) (h : History) (m : machine.World) (k : Known w h m) (once : AreOfOneCall w) (n : ℕ) (node : Node)
    (there : at w.nodes n ≡ Some node) (i : ℕ) (t : Tunnel) (at_t : at node.end.tunnels i ≡ Some t) (s : ℕ) (c : Call)
    (at_c : at t.calls s ≡ Some c) (fits : s < 65536) (has : 0 < c.remote) where
  abbrev y : ℕ
  y = name n s

  abbrev peer : ℕ
  peer = (h.accounts n i 0).peer

  abbrev q : ℕ
  q = name peer c.remote

  known : m.calls.remote y ≡ q
  known = calls.known w h m k n node there i t at_t s c at_c has

  knows_one : m.calls.remote y ≢ 0
  knows_one none = (let some = name_some peer c.remote has in let is = known in omega (arith, some, is, none))

  is_some : y ≢ 0
  is_some none = (let some = name_some n s (calls.call w h m k n node there i t at_t s c at_c).some in omega (arith, some, none))

  -- the births at both ends
  here : m.calls.birth y ≡ birth_of w n s
  here = k.births n s (calls.node_at w h m k n node there) fits

  far : m.calls.birth q ≡ birth_of w peer c.remote
  far =
      k.births peer c.remote (calls.peer_fits w h m k n node there i t at_t s c at_c)
      (calls.remote_fits w h m k n node there i t at_t s c at_c)

  same : m.calls.birth q ≡ m.calls.birth y
  same = ⊎_elim
      (λ (mate : m.calls.mate y ≡ m.calls.remote y).
      ap m.calls.birth (sym known ∙ sym mate) ∙ sym (k.calls.mate_birth y (λ none. knows_one (sym mate ∙ none))))
      (λ (mate : m.calls.mate (m.calls.remote y) ≡ y).
      ap m.calls.birth (sym known)
      ∙ (k.calls.mate_birth (m.calls.remote y) (λ none. is_some (sym mate ∙ none)) ∙ ap m.calls.birth mate))
      (k.calls.remote_mates y knows_one)

  birth : birth_of w peer c.remote ≡ birth_of w n s
  birth = sym far ∙ (same ∙ here)

  some : 0 < birth_of w n s
  some = subst (λ b. 0 < b) here (k.calls.born_some y (calls.is_drawn w h m k n node there i t at_t s c at_c knows_one))

  -- it isn't its own mate
  apart : y ≡ q → ⊥
  apart e = ⊎_elim
      (λ (mate : m.calls.mate y ≡ m.calls.remote y). own (mate ∙ (known ∙ sym e)))
      (λ (mate : m.calls.mate (m.calls.remote y) ≡ y). own (ap m.calls.mate (e ∙ sym known) ∙ mate))
      (k.calls.remote_mates y knows_one)
    where
      own : m.calls.mate y ≡ y → ⊥
      own mate = is_some (sym mate ∙ (sym (ap m.calls.mate mate) ∙ k.calls.mate_asks y (λ none. is_some (sym mate ∙ none))))

  other : (z : Node) × (at w.nodes peer ≡ Some z)
  other = born_there w peer c.remote (subst (λ b. 0 < b) (sym birth) some)

  one_role : (r : Role) → node.end.role ≡ r → other.0.end.role ≡ r → ⊥
  one_role r mine its =
      let both = once r (birth_of w n s) n s peer c.remote
      (record { node = node; is = there; role = mine; birth_is = refl; some = some })
      (record { node = other.0; is = other.1; role = its; birth_is = birth; some = some }) in
      apart (ap₂ name both.0 both.1)

  roles : (r o : Role) → node.end.role ≡ r → other.0.end.role ≡ o → o ≡ other_role r
  roles Lac Lac mine its = absurd (one_role Lac mine its)
  roles Lac Lns mine its = refl
  roles Lns Lac mine its = refl
  roles Lns Lns mine its = absurd (one_role Lns mine its)

  pub knows_its_mate : KnowsItsMate w n node t s c
  knows_its_mate =
      let p = calls.peer_is w h m k n node there i t at_t s c at_c in
      record {
        other = other.0;
        there = ap (at w.nodes) p ∙ other.1;
        role = roles node.end.role other.0.end.role refl refl;
        birth = ap (λ z. birth_of w z c.remote) p ∙ birth;
        some = some;
      }
