-- A move of a step keeps it that no birth is of two sessions of ends of one kind. A LAC's call that is added gets a birth that no other
-- has; and an LNS's gets that of the one call to whose request it replies.
use Rattle.std.proofs.Common.{◌≡◌, ◌⊎◌, ⊎_elim, ℕ, ◌+◌, ◌-◌, ◌^◌, ◌<◌, ◌≤◌, true, List, refl, sym, ap, ◌∙◌, subst, Option, Some, None}
use Rattle.std.proofs.Common.{arith}
use Rattle.std.proofs.lemmas.Option.{none-some, same_Some}
use Rattle.std.specs.Prelude.{◌≢◌, min}
use Rattle.id_table.specs.Ids.{at, put}
use Rattle.id_table.specs.Order.{at_new, same_or_not}
use Rattle.control_message.specs.declared.message.Message.TheVariants.{Icrp}
use Rattle.end_names.specs.declared.role.Role.{Role}
use Rattle.end_names.specs.declared.role.Role.TheVariants.{Lac, Lns}
use Rattle.end_names.specs.Names.{node_of}
use Rattle.end_model.specs.declared.event.Event.{Event}
use Rattle.end_model.specs.declared.moves.Added.{Added}
use Rattle.end_model.specs.declared.moves.Replied.{Replied}
use Rattle.end_model.specs.declared.moves.Move.{Move}
use Rattle.end_model.specs.declared.moves.Move.TheVariants as move
use Rattle.end_model.specs.declared.tunnel.Call.{Call}
use Rattle.end_model.specs.Calls.{rung, asked_for}
use Rattle.end_model.specs.Channels.{counts_taken}
use Rattle.end_model.specs.Tunnels.{Tunnel}
use Rattle.end_model.specs.End.{End}
use Rattle.world_model.specs.World.{World, Node, Sender, Deed, birth_of, answer_in, with_birth, with_birth_at, is_born, moved}
use Rattle.step_laws.specs.Left.{AreSound}
use Rattle.step_laws.specs.Moves.{with_letter}
use Rattle.epoch_machine.specs.Worlds as machine
use Rattle.session_laws.specs.Names.{name, name_of, state_of}
use Rattle.session_laws.proofs.CallRows.{reply_role, reply_row, asked_state}
use Rattle.session_laws.proofs.Names.{same_name}
use Rattle.channel_laws.specs.Accounts.{History, after}
use Rattle.channel_laws.specs.Steps.{with_end, moves_on, IsMoved}
use Rattle.join_laws.proofs.RolesStay.{role_in, moves_role}
use Rattle.line_join_laws.proofs.Born as born
use Rattle.line_join_laws.proofs.Born.{end_born, makes_born, enters_born}
use Rattle.line_join_laws.proofs.Roles.{KeepsRoles}
use Rattle.run_join_laws.specs.Births.{IsBornTo, AreOfOneCall}
use Rattle.run_join_laws.proofs.Calls as calls
use Rattle.run_join_laws.proofs.Calls.{Known, some_number}

-- sessions with births have 16 bits, and no two of them at ends of one kind have one birth
pub record BirthsHold (w : World) : Type 0 where
  pub ids : (n s : ℕ) → 0 < birth_of w n s → s < 65536
  pub once : AreOfOneCall w

-- ---- births and roles stay

-- each session that has a birth has it before, at an end of the same kind
abbrev pub AreOlder : World → World → Type 0
AreOlder w v = (n s : ℕ) (node : Node) → at v.nodes n ≡ Some node → 0 < birth_of v n s
    → (old : Node) × (at w.nodes n ≡ Some old) × (old.end.role ≡ node.end.role)

pub roles_older : (w v : World) → KeepsRoles w v → AreOlder w v
roles_older w v keeps n s node there some = keeps n node there

module _ (w v : World) (births : (n s : ℕ) → birth_of v n s ≡ birth_of w n s) (older : AreOlder w v) where
  was : (r : Role) (n s b : ℕ) → IsBornTo v r n s b → IsBornTo w r n s b
  was r n s b is =
      let one = older n s is.node is.is (subst (λ k. 0 < k) (sym is.birth_is) is.some) in
      record { node = one.0; is = one.1; role = one.2 ∙ is.role; birth_is = sym (births n s) ∙ is.birth_is; some = is.some }

  pub births_stay : BirthsHold w → BirthsHold v
  births_stay b = record {
    ids = λ n s some. b.ids n s (subst (λ k. 0 < k) (births n s) some);
    once = λ r birth n s m o one two. b.once r birth n s m o (was r n s birth one) (was r m o birth two);
  }

-- ---- moves by which no call is born

abbrev GivesBirth : Move → Type 0
GivesBirth (move.Added m) = Unit {0}
GivesBirth (move.Replied m) = Unit {0}
GivesBirth m = ⊥

calm_births : (n : ℕ) (m : Move) (w : World) → (GivesBirth m → ⊥) → (q s : ℕ) → birth_of (moved n w m) q s ≡ birth_of w q s
unfolding moved
calm_births n (move.Added m) w none q s = absurd (none tt)
calm_births n (move.Replied m) w none q s = absurd (none tt)
calm_births n (move.Froze m) w none q s = (makes_born w n m.tunnel (node_of m.peer) m.remote m.answer).births q s
calm_births n (move.ResetAttempting m) w none q s = (enters_born w n m.tunnel (answer_in (at w.nodes (node_of m.peer)) m.answer)).births q s
calm_births n (move.ResetAnswering m) w none q s = (enters_born w n m.tunnel (answer_in (at w.nodes n) m.answer)).births q s
calm_births n m w none q s = refl

-- ---- a birth is given

given_here : (w : World) (n s b : ℕ) (node : Node) → at w.nodes n ≡ Some node → birth_of (with_birth w n s b) n s ≡ b
unfolding with_birth
given_here w n s b node there =
    ap (λ o. birth_of (with_birth_at w n s b o) n s) there ∙ born.own_birth n s b w node there

given_other : (w : World) (n s b : ℕ) (node : Node) → at w.nodes n ≡ Some node → (q r : ℕ) → ((q ≡ n) × (r ≡ s) → ⊥)
    → birth_of (with_birth w n s b) q r ≡ birth_of w q r
unfolding with_birth
given_other w n s b node there q r apart =
    ap (λ o. birth_of (with_birth_at w n s b o) q r) there ∙ born.other_birth n s b w node there q r apart

counted_births : (w : World) (count q r : ℕ) → birth_of (record w { born = count }) q r ≡ birth_of w q r
unfolding birth_of
counted_births w count q r = refl

roles_by : (w v : World) → ((p : ℕ) → role_in (at v.nodes p) ≡ role_in (at w.nodes p)) → KeepsRoles w v
roles_by w v same n node there = by (at w.nodes n) refl
  where
    by : (o : Option Node) → at w.nodes n ≡ o → (old : Node) × (at w.nodes n ≡ Some old) × (old.end.role ≡ node.end.role)
    by None is = absurd (none-some node.end.role (sym (ap role_in is) ∙ (sym (same n) ∙ ap role_in there)))
    by (Some old) is = (
      old,
      is,
      same_Some old.end.role node.end.role (sym (ap role_in is) ∙ (sym (same n) ∙ ap role_in there)),
    )

-- where a session of one node gets a birth that no other session of an end of its kind has
module _ (w v : World) (n s : ℕ) (fits : s < 65536) (keeps : KeepsRoles w v) (b : BirthsHold w)
    (others : (q r : ℕ) → ((q ≡ n) × (r ≡ s) → ⊥) → birth_of v q r ≡ birth_of w q r)
    (alone : (r : Role) (birth m o : ℕ) → IsBornTo v r n s birth → IsBornTo v r m o birth → (m ≡ n) × (o ≡ s)) where
  this : (q r : ℕ) → ((q ≡ n) × (r ≡ s)) ⊎ ((q ≡ n) × (r ≡ s) → ⊥)
  this q r = born.either n s 0 q r

  before : (r : Role) (m o birth : ℕ) → ((m ≡ n) × (o ≡ s) → ⊥) → IsBornTo v r m o birth → IsBornTo w r m o birth
  before r m o birth apart is =
      let one = keeps m is.node is.is in
      record { node = one.0; is = one.1; role = one.2 ∙ is.role; birth_is = sym (others m o apart) ∙ is.birth_is; some = is.some }

  as_this : (r : Role) (m o birth : ℕ) → (m ≡ n) × (o ≡ s) → IsBornTo v r m o birth → IsBornTo v r n s birth
  as_this r m o birth same is = record {
    node = is.node;
    is = ap (at v.nodes) (sym same.0) ∙ is.is;
    role = is.role;
    birth_is = ap (λ z. birth_of v z s) (sym same.0) ∙ (ap (birth_of v m) (sym same.1) ∙ is.birth_is);
    some = is.some;
  }

  once : AreOfOneCall v
  once r birth m o p q one two = ⊎_elim
      (λ (same : (m ≡ n) × (o ≡ s)).
      let it = alone r birth p q (as_this r m o birth same one) two in (same.0 ∙ sym it.0, same.1 ∙ sym it.1))
      (λ (apart : (m ≡ n) × (o ≡ s) → ⊥). ⊎_elim
      (λ (same : (p ≡ n) × (q ≡ s)).
      let it = alone r birth m o (as_this r p q birth same two) one in (it.0 ∙ sym same.0, it.1 ∙ sym same.1))
      (λ (other : (p ≡ n) × (q ≡ s) → ⊥). b.once r birth m o p q (before r m o birth apart one) (before r p q birth other two))
      (this p q))
      (this m o)

  births_with : BirthsHold v
  births_with = record {
    ids = λ q r some. ⊎_elim
        (λ (same : (q ≡ n) × (r ≡ s)). subst (λ z. z < 65536) (sym same.1) fits)
        (λ (apart : (q ≡ n) × (r ≡ s) → ⊥). b.ids q r (subst (λ k. 0 < k) (others q r apart) some))
        (this q r);
    once = once;
  }

-- ---- a call is added, or replies

module _ (u : World) (f : History) (n : ℕ) (node : Node) (sender : Option Sender) (moment : ℕ) (ev : Event) (x : End) (d : Deed)
    (mu mv : machine.World) (before : Known u f mu) (b : BirthsHold u) (room : u.born + 1 < 2 ^ 64) (sound : AreSound x) where
  abbrev base : World
  base = with_end u n node x

  base_births : at u.nodes n ≡ Some node → (q r : ℕ) → birth_of base q r ≡ birth_of u q r
  base_births there q r = (end_born u n node x there).births q r

  module _ (m : Added) (is : IsMoved u f n node sender moment ev (move.Added m) x d) where
    abbrev v : World
    v = moves_on u n node (move.Added m) x

    abbrev next : ℕ
    next = min (base.born + 1) (2 ^ 64 - 1)

    next_is : next ≡ u.born + 1
    next_is = omega (arith, room)

    abbrev counted : World
    counted = record base { born = next }

    base_here : at base.nodes n ≡ Some (record node { end = x })
    base_here = at_new u.nodes n (record node { end = x })

    own : birth_of v n m.session ≡ next
    unfolding moved is_born
    own = given_here counted n m.session next (record node { end = x }) base_here

    others : (q r : ℕ) → ((q ≡ n) × (r ≡ m.session) → ⊥) → birth_of v q r ≡ birth_of u q r
    unfolding moved is_born
    others q r apart =
        given_other counted n m.session next (record node { end = x }) base_here q r apart
        ∙ (counted_births base next q r ∙ base_births is.there q r)

    abbrev t : Tunnel
    t = is.does.tunnel

    abbrev c : Call
    c = rung node.end.role m.subscriber moment

    abbrev r : Tunnel
    r = record t { calls = put t.calls m.session c }

    at_r : at x.tunnels m.tunnel ≡ Some r
    at_r = ap (λ (e : End). at e.tunnels m.tunnel) is.does.after ∙ at_new node.end.tunnels m.tunnel r

    fits : m.session < 65536
    fits = (sound m.tunnel r at_r m.session c (at_new t.calls m.session c)).0

    keeps : KeepsRoles u v
    keeps = roles_by u v (moves_role u f n node sender moment ev (move.Added m) x d is)

    -- all births before were of those that were counted
    old_birth : (q s birth : ℕ) → q < 256 → birth_of u q s ≡ birth → 0 < birth → birth ≤ u.born
    old_birth q s birth lt is some =
        let fits = b.ids q s (subst (λ k. 0 < k) (sym is) some) in
        let one = before.births q s lt fits in
        let le = before.calls.born (name q s) in
        let counted = before.born in
        omega (arith, one, le, counted, is)

    alone : (k : Role) (birth p s : ℕ) → IsBornTo v k n m.session birth → IsBornTo v k p s birth → (p ≡ n) × (s ≡ m.session)
    alone k birth p s one two = ⊎_elim
        (λ same. same)
        (λ (apart : (p ≡ n) × (s ≡ m.session) → ⊥).
        let older = keeps p two.node two.is in
        let le = old_birth p s birth (calls.node_at u f mu before p older.0 older.1) (sym (others p s apart) ∙ two.birth_is) two.some in
        let new = sym one.birth_is ∙ (own ∙ next_is) in
        absurd (omega (arith, le, new)))
        (born.either n m.session 0 p s)

    pub added_keeps : BirthsHold (moves_on u n node (move.Added m) x)
    added_keeps = births_with u v n m.session fits keeps b others alone

  module _ (m : Replied) (is : IsMoved u f n node sender moment ev (move.Replied m) x d)
      (behind : Known (moves_on u n node (move.Replied m) x) (after f d) mv) (new : Node)
      (there : at (moves_on u n node (move.Replied m) x).nodes n ≡ Some new) (end : new.end ≡ x) where
    abbrev vr : World
    vr = moves_on u n node (move.Replied m) x

    abbrev g : History
    g = after f d

    abbrev birth : ℕ
    birth = birth_of base (node_of m.peer) m.remote

    reply_base : at base.nodes n ≡ Some (record node { end = x })
    reply_base = at_new u.nodes n (record node { end = x })

    reply_own : birth_of vr n m.session ≡ birth
    unfolding moved
    reply_own = given_here base n m.session birth (record node { end = x }) reply_base

    reply_others : (q r : ℕ) → ((q ≡ n) × (r ≡ m.session) → ⊥) → birth_of vr q r ≡ birth_of u q r
    unfolding moved
    reply_others q r apart =
        given_other base n m.session birth (record node { end = x }) reply_base q r apart ∙ base_births is.there q r

    abbrev tr : Tunnel
    tr = is.does.tunnel

    abbrev cr : Call
    cr = asked_for node.end.role m.remote moment

    abbrev calls_with : List (ℕ × Call)
    calls_with = put tr.calls m.session cr

    abbrev rr : Tunnel
    rr = with_letter m.remote (Icrp m.session) (record tr { control = counts_taken tr.control; calls = calls_with })

    at_rr : at x.tunnels m.tunnel ≡ Some rr
    at_rr = ap (λ (e : End). at e.tunnels m.tunnel) is.does.after ∙ at_new node.end.tunnels m.tunnel rr

    at_there : at new.end.tunnels m.tunnel ≡ Some rr
    at_there = ap (λ (e : End). at e.tunnels m.tunnel) end ∙ at_rr

    at_cr : at rr.calls m.session ≡ Some cr
    at_cr = at_new tr.calls m.session cr

    reply_fits : m.session < 65536
    reply_fits = (sound m.tunnel rr at_rr m.session cr at_cr).0

    reply_keeps : KeepsRoles u vr
    reply_keeps = roles_by u vr (moves_role u f n node sender moment ev (move.Replied m) x d is)

    lns : new.end.role ≡ Lns
    lns =
        let old = reply_keeps n new there in
        sym old.2 ∙ (ap (λ (z : Node). z.end.role) (same_Some old.0 node (sym old.1 ∙ is.there)) ∙ reply_role node.end.role is.does.row)

    abbrev y : ℕ
    y = name n m.session

    abbrev peer : ℕ
    peer = (g.accounts n m.tunnel 0).peer

    replied : mv.calls.mate y ≢ 0
    replied = behind.calls.waits_connect y
        ((calls.call vr g mv behind n new there m.tunnel rr at_there m.session cr at_cr).state
        ∙ (ap state_of (asked_state node.end.role m.remote moment) ∙ (reply_row node.end.role is.does.row).is))

    asker : (other : Node) × (at vr.nodes peer ≡ Some other) × (other.end.role ≡ Lac)
    asker = calls.replies vr g mv behind n new there m.tunnel rr at_there m.session cr at_cr replied

    knows : mv.calls.mate y ≡ mv.calls.remote y
    knows = sym (behind.calls.mate_remote y replied)

    remote_some : 0 < cr.remote
    remote_some = some_number cr.remote
        (λ (none : cr.remote ≡ 0).
        replied (knows ∙ ((calls.call vr g mv behind n new there m.tunnel rr at_there m.session cr at_cr).remote
        ∙ ap (name_of peer) none)))

    mate_is : mv.calls.mate y ≡ name peer cr.remote
    mate_is = knows ∙ calls.known vr g mv behind n new there m.tunnel rr at_there m.session cr at_cr remote_some

    -- the call to which it replies is asked for once, so no other call of an LNS's has that birth
    module _ (p s one_birth : ℕ) (one : IsBornTo vr Lns n m.session one_birth) (two : IsBornTo vr Lns p s one_birth) (s_fits : s < 65536)
      where
        abbrev z : ℕ
        z = name p s

        p_fits : p < 256
        p_fits = calls.node_at vr g mv behind p two.node two.is

        born_y : mv.calls.birth y ≡ one_birth
        born_y = behind.births n m.session (calls.node_at vr g mv behind n new there) reply_fits ∙ one.birth_is

        born_z : mv.calls.birth z ≡ one_birth
        born_z = behind.births p s p_fits s_fits ∙ two.birth_is

        drawn_z : mv.calls.drawn z ≡ true
        drawn_z = behind.drawn z (subst (λ k. 0 < k) (sym born_z) two.some)

        born_mate : mv.calls.birth (mv.calls.mate y) ≡ one_birth
        born_mate = sym (behind.calls.mate_birth y replied) ∙ born_y

        -- it isn't the call that asked, which is a LAC's
        no_asker : z ≡ mv.calls.mate y → ⊥
        no_asker same =
            let both = same_name p s peer cr.remote s_fits
            (calls.remote_fits vr g mv behind n new there m.tunnel rr at_there m.session cr at_cr) (same ∙ mate_is) in
            let node_is : two.node ≡ asker.0 = same_Some two.node asker.0 (sym two.is ∙ (ap (at vr.nodes) both.0 ∙ asker.1)) in
            let roles : Lns ≡ Lac = sym two.role ∙ (ap (λ (k : Node). k.end.role) node_is ∙ asker.2) in
            absurd cc

        only : (p ≡ n) × (s ≡ m.session)
        only = ⊎_elim
            (λ (asks : mv.calls.mate z ≡ 0).
            absurd (no_asker (behind.calls.birth_once z (mv.calls.mate y) drawn_z (behind.calls.mate_drawn y replied) asks
            (behind.calls.mate_asks y replied) (born_z ∙ sym born_mate))))
            (λ (replies : mv.calls.mate z ≡ 0 → ⊥).
            let mates : mv.calls.mate z ≡ mv.calls.mate y =
            behind.calls.birth_once (mv.calls.mate z) (mv.calls.mate y) (behind.calls.mate_drawn z replies)
            (behind.calls.mate_drawn y replied) (behind.calls.mate_asks z replies) (behind.calls.mate_asks y replied)
            (sym (behind.calls.mate_birth z replies) ∙ (born_z ∙ sym born_mate)) in
            same_name p s n m.session s_fits reply_fits (behind.calls.mate_once z y replies mates))
            (same_or_not (mv.calls.mate z) 0)

    reply_alone : (k : Role) (one_birth p s : ℕ) → IsBornTo vr k n m.session one_birth → IsBornTo vr k p s one_birth
        → (p ≡ n) × (s ≡ m.session)
    reply_alone k one_birth p s one two = ⊎_elim
        (λ same. same)
        (λ (apart : (p ≡ n) × (s ≡ m.session) → ⊥).
        let role : k ≡ Lns = sym one.role ∙ (ap (λ (z : Node). z.end.role) (same_Some one.node new (sym one.is ∙ there)) ∙ lns) in
        only p s one_birth (subst (λ z. IsBornTo vr z n m.session one_birth) role one)
        (subst (λ z. IsBornTo vr z p s one_birth) role two)
        (b.ids p s (subst (λ z. 0 < z) (sym two.birth_is ∙ reply_others p s apart) two.some)))
        (born.either n m.session 0 p s)

    pub replied_keeps : BirthsHold (moves_on u n node (move.Replied m) x)
    replied_keeps = births_with u vr n m.session reply_fits reply_keeps b reply_others reply_alone

  -- ---- any move

  module _ (y : Move) (is : IsMoved u f n node sender moment ev y x d) (none : GivesBirth y → ⊥) where
    pub calm_keeps : BirthsHold (moves_on u n node y x)
    calm_keeps =
        births_stay u (moves_on u n node y x) (λ q r. calm_births n y base none q r ∙ base_births is.there q r)
        (roles_older u (moves_on u n node y x) (roles_by u (moves_on u n node y x) (moves_role u f n node sender moment ev y x d is))) b

  pub move_keeps : (y : Move) → IsMoved u f n node sender moment ev y x d → Known (moves_on u n node y x) (after f d) mv → (new : Node)
      → at (moves_on u n node y x).nodes n ≡ Some new → new.end ≡ x → BirthsHold (moves_on u n node y x)
  move_keeps (move.Added m) is behind new there end = added_keeps m is
  move_keeps (move.Replied m) is behind new there end = replied_keeps m is behind new there end
  move_keeps y is behind new there end = calm_keeps y is (λ no. no)
