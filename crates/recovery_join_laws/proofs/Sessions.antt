-- The machine's tunnel holds those sessions established that the end's tunnel does.
use Rattle.std.proofs.Common.{◌≡◌, ℕ, ◌<◌, Bool, true, false, refl, sym, ap, ◌∙◌, subst, Option, Some, None, eq-eqb}
use Rattle.std.proofs.lemmas.Bool.{true≢false, eqb-true}
use Rattle.std.proofs.lemmas.Option.{none-some, same_Some}
use Rattle.std.specs.Prelude.{◌==◌, ◌&&◌}
use Rattle.std.specs.List.{AllByRecursion, list_any}
use Rattle.id_table.specs.Ids.{at}
use Rattle.id_table.specs.Order.{Ascends}
use Rattle.wire_base.specs.declared.pair.Pair.{Pair}
use Rattle.end_model.specs.declared.tunnel.Call.{Call}
use Rattle.end_model.specs.Calls.{sessions_of}
use Rattle.end_model.specs.Tunnels.{Tunnel}
use Rattle.world_model.specs.World.{World, Node}
use Rattle.epoch_machine.specs.Worlds as machine
use Rattle.epoch_machine.specs.Calls as calls
use Rattle.epoch_machine.specs.Calls.{CallState, NoCall, Waits, WaitsReply, WaitsConnect, Up, lives}
use Rattle.birth_laws.specs.Births.{CallsHold, BirthsOfRuns}
use Rattle.session_laws.specs.Names.{name, name_of}
use Rattle.session_laws.proofs.Names.{same_name}
use Rattle.channel_laws.specs.Accounts.{History}
use Rattle.recovery_laws.specs.Queries.{CallsAreNamed}
use Rattle.recovery_laws.specs.Joined.{HasNoCall, CallsJoined, NodeJoined, AreJoined}
use Rattle.recovery_laws.proofs.Answers.{TunnelCalls}
use Rattle.recovery_laws.proofs.Covered.{same_id}
use Rattle.recovery_laws.proofs.Pairs.{up_state, state_up, no_call_up}
use Rattle.join_laws.proofs.Bounds.{Bounded}
use Rattle.recovery_join_laws.proofs.Names.{named, Session, session_of, is_listed, all_sessions}

both_true : (a b : Bool) → (a && b) ≡ true → (a ≡ true) × (b ≡ true)
both_true true true is = (refl, refl)
both_true true false is = absurd (true≢false (sym is))
both_true false b is = absurd (true≢false (sym is))

same_truth : (a b : Bool) → (a ≡ true → b ≡ true) → (b ≡ true → a ≡ true) → a ≡ b
same_truth true b to from = sym (to refl)
same_truth false true to from = from refl
same_truth false false to from = refl

is_up_state : (s : CallState) → calls.is_up s ≡ true → s ≡ Up
is_up_state NoCall is = absurd (true≢false (sym is))
is_up_state Waits is = absurd (true≢false (sym is))
is_up_state WaitsReply is = absurd (true≢false (sym is))
is_up_state WaitsConnect is = absurd (true≢false (sym is))
is_up_state Up is = refl

-- what the machine's laws say of calls
pub calls_hold : BirthsOfRuns → (v : World) (h : History) (j : machine.World) → AreJoined v h j → CallsHold j.tunnels j.calls
calls_hold births v h j joined = subst (λ m. CallsHold m.tunnels m.calls) (sym joined.run) (births.calls joined.moves)

module _ (v : World) (h : History) (j : machine.World) (joined : AreJoined v h j) (known : CallsHold j.tunnels j.calls)
    (names : CallsAreNamed j) (n : ℕ) (node : Node)
    (was : at v.nodes n ≡ Some node) (i : ℕ) (t : Tunnel) (at_t : at node.end.tunnels i ≡ Some t) (order : Ascends t.calls)
    (bounded : Bounded node.end)
    (before : CallsJoined j h n node) (own : j.tunnels.node (name n i) ≡ n) where
  abbrev X : ℕ
  X = name n i

  -- an established call of the tunnel's in the machine is one of the node's
  record Found (z : ℕ) : Type 0 where
    id : ℕ
    fits : id < 65536
    is : z ≡ name n id

  home_of : (z q s : ℕ) → q < 256 → s < 65536 → z ≡ name q s → j.calls.state z ≡ Up → j.calls.tunnel z ≡ X → q ≡ n
  home_of z q s qfits sfits is up its = by (at v.nodes q) (joined.nodes q qfits)
    where
      state : j.calls.state (name q s) ≡ Up
      state = ap (λ y. j.calls.state y) (sym is) ∙ up

      by : (o : Option Node) → NodeJoined j h q o → q ≡ n
      by None k = absurd (no_call_up (sym (k.1 s sfits).0 ∙ state))
      by (Some c) k =
          sym (k.1.home s sfits (ap lives state)) ∙ (ap (λ y. j.tunnels.node y) (ap (λ y. j.calls.tunnel y) (sym is) ∙ its) ∙ own)

  found : (z : ℕ) → j.calls.state z ≡ Up → j.calls.tunnel z ≡ X → Found z
  found z up its =
      let y = names z (drawn (j.calls.drawn z) refl) in
      let same = home_of z y.0 y.1 y.2 y.3 y.4 up its in
      record { id = y.1; fits = y.3; is = y.4 ∙ ap (λ q. name q y.1) same }
    where
      drawn : (b : Bool) → j.calls.drawn z ≡ b → j.calls.drawn z ≡ true
      drawn true is = is
      drawn false is = absurd (no_call_up (sym (known.nameless z is).state ∙ up))

  -- and no other tunnel of the node has it
  none_there : (s : ℕ) → j.calls.tunnel (name n s) ≡ X → at t.calls s ≡ None → HasNoCall node s
  none_there s its none q r at_r = by (at r.calls s) refl
    where
      by : (o : Option Call) → at r.calls s ≡ o → at r.calls s ≡ None
      by None is = is
      by (Some c) is =
          let y = before.live q r at_r s c is in
          let same : q ≡ i = (same_name n q n i (bounded.tunnels q r at_r) (bounded.tunnels i t at_t) (sym y.tunnel ∙ its)).1 in
          let r_is : r ≡ t = same_Some r t (sym at_r ∙ (ap (λ p. at node.end.tunnels p) same ∙ at_t)) in
          absurd (none-some c (sym none ∙ (ap (λ (u : Tunnel). at u.calls s) (sym r_is) ∙ is)))

  pub held_so : (z : ℕ) → ((j.calls.tunnel z == X) && calls.is_up (j.calls.state z)) ≡ list_any (named n z) (sessions_of t.calls)
  held_so z = same_truth ((j.calls.tunnel z == X) && calls.is_up (j.calls.state z)) (list_any (named n z) (sessions_of t.calls)) to from
    where
      to : ((j.calls.tunnel z == X) && calls.is_up (j.calls.state z)) ≡ true → list_any (named n z) (sessions_of t.calls) ≡ true
      to is =
          let both = both_true (j.calls.tunnel z == X) (calls.is_up (j.calls.state z)) is in
          let its = eqb-true (j.calls.tunnel z) X both.0 in
          let up = is_up_state (j.calls.state z) both.1 in
          let f = found z up its in
          is_listed t.calls n z (by f.id f.fits f.is (ap (λ y. j.calls.state y) (sym f.is) ∙ up)
          (ap (λ y. j.calls.tunnel y) (sym f.is) ∙ its)
          (at t.calls f.id) refl)
        where
          by : (s : ℕ) → s < 65536 → z ≡ name n s → j.calls.state (name n s) ≡ Up → j.calls.tunnel (name n s) ≡ X → (o : Option Call)
              → at t.calls s ≡ o
              → Session t.calls n z
          by s fits is up its None none = absurd (no_call_up (sym (before.gone s fits (none_there s its none)) ∙ up))
          by s fits is up its (Some c) there = record {
            id = s;
            call = c;
            there = there;
            up = state_up c.state (sym (before.live i t at_t s c there).state ∙ up);
            name_is = sym is;
          }

      from : list_any (named n z) (sessions_of t.calls) ≡ true → ((j.calls.tunnel z == X) && calls.is_up (j.calls.state z)) ≡ true
      from is =
          let s = session_of t.calls order n z is in
          let y = before.live i t at_t s.id s.call s.there in
          let its : j.calls.tunnel z ≡ X = ap (λ q. j.calls.tunnel q) (sym s.name_is) ∙ y.tunnel in
          let up : j.calls.state z ≡ Up = ap (λ q. j.calls.state q) (sym s.name_is) ∙ (y.state ∙ up_state s.call.state s.up) in
          ap (λ b. b && calls.is_up (j.calls.state z)) (eq-eqb (j.calls.tunnel z) X its) ∙ ap calls.is_up up

  -- each with the session that it knows of its peer's
  pub known_so : (P : ℕ → ℕ → Type 0)
      → ((s : ℕ) (c : Call) → at t.calls s ≡ Some c → j.calls.tunnel (name n s) ≡ X → j.calls.state (name n s) ≡ Up
      → j.calls.remote (name n s) ≡ name_of (h.accounts n i 0).peer c.remote → P s c.remote)
      → AllByRecursion (λ (p : Pair). P p.sender p.receiver) (sessions_of t.calls)
  known_so P each =
      all_sessions (λ (p : Pair). P p.sender p.receiver) t.calls order
      (λ s c there up. (let y = before.live i t at_t s c there in each s c there y.tunnel (y.state ∙ up_state c.state up) y.remote))

  -- the tunnel's calls are the machine's: by no id is there one that isn't known here
  pub calls_are : TunnelCalls (λ r. Unit {0}) j n i (h.accounts n i 0).peer t
  calls_are = record {
    known = known;
    order = order;
    live = λ r c there. before.live i t at_t r c there;
    gone = λ r any none its. not_up r none its (calls.is_up (j.calls.state (name n r))) refl;
  }
    where
      not_up : (r : ℕ) → at t.calls r ≡ None → j.calls.tunnel (name n r) ≡ X → (b : Bool) → calls.is_up (j.calls.state (name n r)) ≡ b → b
          ≡ false
      not_up r none its false is = refl
      not_up r none its true is =
          let up = is_up_state (j.calls.state (name n r)) is in
          let f = found (name n r) up its in
          let same : r ≡ f.id = same_id n r f.id f.is in
          let state = before.gone r (subst (λ y. y < 65536) (sym same) f.fits) (none_there r its none) in
          absurd (no_call_up (sym state ∙ up))
