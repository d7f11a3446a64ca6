-- What is known of the calls of a world that is joined: which end asked for a call, and which one replied.
use Rattle.std.proofs.Common.{◌≡◌, ⊎_elim, ℕ, ◌<◌, Bool, true, false, refl, sym, ap, ◌∙◌, subst, Option, Some, None, arith}
use Rattle.std.proofs.lemmas.Bool.{true≢false}
use Rattle.std.proofs.lemmas.Option.{same_Some}
use Rattle.std.specs.Prelude.{◌≢◌, if◌then◌else◌, slice_get}
use Rattle.id_table.specs.Ids.{at}
use Rattle.id_table.specs.Order.{same_or_not}
use Rattle.end_names.specs.declared.role.Role.{Role}
use Rattle.end_names.specs.declared.role.Role.TheVariants.{Lac, Lns}
use Rattle.end_names.specs.Names.{node_of}
use Rattle.end_model.specs.declared.tunnel.Call.{Call}
use Rattle.end_model.specs.Tunnels.{Tunnel}
use Rattle.world_model.specs.World.{World, Node, birth_of}
use Rattle.frame_laws.proofs.Facts.{all_at}
use Rattle.epoch_machine.specs.Letters.{Request}
use Rattle.epoch_machine.specs.Channels.{Stands}
use Rattle.epoch_machine.specs.Tunnels.{Linked}
use Rattle.epoch_machine.specs.Worlds as machine
use Rattle.birth_laws.specs.Births.{CallsHold, LettersMean, BirthsOfRuns}
use Rattle.session_laws.specs.Names.{name, name_of}
use Rattle.session_laws.proofs.Names.{name_some, known_name, node_again}
use Rattle.channel_laws.specs.Accounts.{Part, Unmade, Acceptor, History}
use Rattle.channel_laws.specs.Facts.{LiveOk, EndOk, BookOk, NodeOk, Holds}
use Rattle.recovery_laws.specs.Joined.{is_early, LearnedSo, ByLetter, ByRecord, CallJoined, NodeJoined}
use Rattle.recovery_laws.specs.Queries.{questions_in, letters_in}
use Rattle.join_laws.specs.Roles.{AsksNone, RequestsAreOfLacs}
use Rattle.join_laws.specs.Steps.{IsJoined}
use Rattle.join_laws.proofs.Refusing.{NoRequest, letters_none}
use Rattle.run_join_laws.specs.Births.{AreDrawn, BirthsAreDrawn}

-- what the join says of calls and of letters, and what the machine's laws say of them
pub record Known (w : World) (h : History) (m : machine.World) : Type 0 where
  pub holds : Holds w h
  pub roles : RequestsAreOfLacs w h
  pub calls : CallsHold m.tunnels m.calls
  pub letters : LettersMean m.tunnels m.channels m.calls
  pub drawn : AreDrawn m.calls
  pub births : (n s : ℕ) → n < 256 → s < 65536 → m.calls.birth (name n s) ≡ birth_of w n s
  pub born : m.calls.births ≡ w.born
  pub sent : (n i e : ℕ) → n < 256 → i < 65536 → m.channels.sent (name n i) e
      ≡ letters_in n (h.accounts n i e).peer (questions_in (h.accounts n i e).taken) (h.accounts n i e).given
  pub learned : (n i : ℕ) → n < 256 → i < 65536 → LearnedSo h.accounts n i (m.tunnels.learned (name n i))
  pub live : (n : ℕ) (node : Node) → at w.nodes n ≡ Some node → (i : ℕ) (t : Tunnel) → at node.end.tunnels i ≡ Some t → (s : ℕ) (c : Call)
      → at t.calls s ≡ Some c → CallJoined m n i (h.accounts n i 0).peer s c

acceptor_made : {p : Part} → p ≡ Unmade → p ≡ Acceptor → ⊥
acceptor_made unmade is = let no : Unmade ≡ Acceptor = sym unmade ∙ is in absurd cc

pub some_number : (q : ℕ) → (q ≡ 0 → ⊥) → 0 < q
some_number q has = ⊎_elim (λ (z : q ≡ 0). absurd (has z)) (λ (z : q ≡ 0 → ⊥). omega (arith, z)) (same_or_not q 0)

-- each node has the same end in another world, which is joined, as one has amid a step
module _ (births : BirthsOfRuns) (drawn : BirthsAreDrawn) (w u : World) (h : History) (m : machine.World) (holds : Holds w h)
    (roles : RequestsAreOfLacs w h) (joined : IsJoined u h m) where
  pub known_by : ((n s : ℕ) → birth_of u n s ≡ birth_of w n s) → u.born ≡ w.born
      → ((n : ℕ) (node : Node) → at w.nodes n ≡ Some node → (k : Node) × (at u.nodes n ≡ Some k) × (k.end ≡ node.end)) → Known w h m
  known_by same born ends = record {
    holds = holds;
    roles = roles;
    calls = subst (λ (v : machine.World). CallsHold v.tunnels v.calls) (sym joined.joined.run) (births.calls joined.joined.moves);
    letters = subst (λ (v : machine.World). LettersMean v.tunnels v.channels v.calls) (sym joined.joined.run)
        (births.letters joined.joined.moves);
    drawn = subst (λ (v : machine.World). AreDrawn v.calls) (sym joined.joined.run) (drawn joined.joined.moves);
    births = λ n s lt fits. joined.joined.births.1 n s lt fits ∙ same n s;
    born = joined.joined.births.0 ∙ born;
    sent = λ n i e lt fits. (joined.joined.tunnels n i lt fits).sent e;
    learned = λ n i lt fits. (joined.joined.tunnels n i lt fits).learned;
    live = λ n node there i t at_t s c at_c.
        (let one = ends n node there in
        let ok : EndOk w h n node.end × BookOk h n node.checkpoint.book = subst (NodeOk w h n) there (holds.nodes n) in
        let calls : NodeJoined m h n (Some one.0) = subst (NodeJoined m h n) one.1 (joined.joined.nodes n ok.0.node) in
        calls.1.live i t (subst (λ e. at e.tunnels i ≡ Some t) (sym one.2) at_t) s c at_c);
  }

module _ (w : World) (h : History) (m : machine.World) (k : Known w h m) where
  pub node_at : (n : ℕ) (node : Node) → at w.nodes n ≡ Some node → n < 256
  node_at n node there =
      let ok : EndOk w h n node.end × BookOk h n node.checkpoint.book = subst (NodeOk w h n) there (k.holds.nodes n) in
      ok.0.node

  -- ---- who asks

  -- a tunnel that asked for a call is a LAC's
  no_ask : (n i e place z : ℕ) → n < 256 → i < 65536 → Stands m.channels (name n i) e place (Request z) → AsksNone (h.accounts n i e) → ⊥
  no_ask n i e place z lt fits stands none =
      let a = h.accounts n i e in
      let all = letters_none n a.peer (questions_in a.taken) a.given none in
      let there : slice_get (letters_in n a.peer (questions_in a.taken) a.given) place ≡ Some (Request z) =
      ap (λ ls. slice_get ls place) (sym (k.sent n i e lt fits)) ∙ stands in
      true≢false (all_at NoRequest (letters_in n a.peer (questions_in a.taken) a.given) place (Request z) there all)

  pub asks : (n i e place z : ℕ) → n < 256 → i < 65536 → Stands m.channels (name n i) e place (Request z)
      → (node : Node) × (at w.nodes n ≡ Some node) × (node.end.role ≡ Lac)
  asks n i e place z lt fits stands = by (at w.nodes n) refl
    where
      in_role : (node : Node) (r : Role) → at w.nodes n ≡ Some node → node.end.role ≡ r
          → (c : Node) × (at w.nodes n ≡ Some c) × (c.end.role ≡ Lac)
      in_role node Lac is role = (node, is, role)
      in_role node Lns is role = absurd (no_ask n i e place z lt fits stands (k.roles n i e node is role))

      by : (o : Option Node) → at w.nodes n ≡ o → (node : Node) × (at w.nodes n ≡ Some node) × (node.end.role ≡ Lac)
      by None is =
          let none = (subst (NodeOk w h n) is (k.holds.nodes n)).0 i e in
          absurd (no_ask n i e place z lt fits stands (subst AsksNone (sym none) tt))
      by (Some node) is = in_role node node.end.role is refl

  -- a tunnel that learned another one: of its peer
  other_end : (n i T : ℕ) → n < 256 → i < 65536 → T ≢ 0 → m.tunnels.learned (name n i) ≡ T
      → (j : ℕ) × (j < 65536) × (T ≡ name (h.accounts n i 0).peer j)
  other_end n i T lt fits some is = by (m.tunnels.learned (name n i)) is (k.learned n i lt fits)
    where
      by_letter : (b : Bool) (r : ℕ) → (h.accounts n i 0).remote ≡ r
          → T ≡ (if b then 0 else name_of (h.accounts n i 0).peer (h.accounts n i 0).remote)
          → (j : ℕ) × (j < 65536) × (T ≡ name (h.accounts n i 0).peer j)
      by_letter true r same learned = absurd (some learned)
      by_letter false r same learned = ⊎_elim
          (λ (none : r ≡ 0). absurd (some (learned ∙ ap (λ q. name_of (h.accounts n i 0).peer q) (same ∙ none))))
          (λ (has : r ≡ 0 → ⊥). (
            (h.accounts n i 0).remote,
            (k.holds.accounts n i 0).remote,
            learned ∙ known_name (h.accounts n i 0).peer (h.accounts n i 0).remote (some_number _ (λ none. has (sym same ∙ none))),
          ))
          (same_or_not r 0)

      by : (l : ℕ) → l ≡ T → LearnedSo h.accounts n i l → (j : ℕ) × (j < 65536) × (T ≡ name (h.accounts n i 0).peer j)
      by l same (ByLetter learned) =
          by_letter (is_early (h.accounts n i 0).part (h.accounts n i 0).closed) (h.accounts n i 0).remote refl (sym same ∙ learned)
      by l same (ByRecord j part none positive learned other peer back) = (
        j,
        (k.holds.accounts (h.accounts n i 0).peer j 0).id (λ unmade. acceptor_made unmade other),
        sym same ∙ learned,
      )

  -- ---- a live call

  module _ (n : ℕ) (node : Node) (there : at w.nodes n ≡ Some node) (i : ℕ) (t : Tunnel) (at_t : at node.end.tunnels i ≡ Some t) (s : ℕ)
      (c : Call) (at_c : at t.calls s ≡ Some c) where
    abbrev y : ℕ
    y = name n s

    abbrev peer : ℕ
    peer = (h.accounts n i 0).peer

    ok : EndOk w h n node.end × BookOk h n node.checkpoint.book
    ok = subst (NodeOk w h n) there (k.holds.nodes n)

    live : LiveOk w h n i t
    live = ok.0.live i t at_t

    id_fits : i < 65536
    id_fits = (k.holds.accounts n i 0).id live.made

    pub peer_fits : peer < 256
    peer_fits = (k.holds.accounts n i 0).peer

    -- by the address that the tunnel has
    pub peer_is : node_of t.control.peer ≡ peer
    peer_is = ap node_of live.peer ∙ node_again peer peer_fits

    pub remote_fits : c.remote < 65536
    remote_fits = live.calls s c at_c

    pub call : CallJoined m n i peer s c
    call = k.live n node there i t at_t s c at_c

    some : y ≢ 0
    some = λ none. (let positive = name_some n s call.some in omega (arith, positive, none))

    -- what it knows of the other end is a name
    pub known : 0 < c.remote → m.calls.remote y ≡ name peer c.remote
    known has = call.remote ∙ known_name peer c.remote has

    pub is_drawn : m.calls.remote y ≢ 0 → m.calls.drawn y ≡ true
    is_drawn has = by (m.calls.drawn y) refl
      where
        by : (b : Bool) → m.calls.drawn y ≡ b → m.calls.drawn y ≡ true
        by true is = is
        by false is = absurd (has (k.calls.nameless y is).remote)

    -- where it replies to one, that is a call of a LAC's
    pub replies : m.calls.mate y ≢ 0 → (other : Node) × (at w.nodes peer ≡ Some other) × (other.end.role ≡ Lac)
    replies replied = by (m.calls.made y) refl
      where
        link : Linked m.tunnels.learned (m.calls.tunnel (m.calls.mate y)) (m.calls.tunnel y)
        link = k.calls.mate_linked y replied

        by : (o : Option ℕ) → m.calls.made y ≡ o → (other : Node) × (at w.nodes peer ≡ Some other) × (other.end.role ≡ Lac)
        by None none = absurd ((k.calls.mate_made y replied).1 none)
        by (Some e) made =
            let request = k.letters.mate_taken y e replied made in
            let end = other_end n i (m.calls.tunnel (m.calls.mate y)) ok.0.node id_fits link.from_name
            (ap m.tunnels.learned (sym call.tunnel) ∙ link.back) in
            asks peer end.0 e request.place (m.calls.mate y) peer_fits end.1
            (subst (λ x. Stands m.channels x e request.place (Request (m.calls.mate y))) end.2 request.stands)

    -- where one replies to it, it is a call of a LAC's
    pub is_asked : (q : ℕ) → m.calls.mate q ≡ y → node.end.role ≡ Lac
    is_asked q mate = by (m.calls.made q) refl
      where
        replied : m.calls.mate q ≢ 0
        replied none = some (sym mate ∙ none)

        by : (o : Option ℕ) → m.calls.made q ≡ o → node.end.role ≡ Lac
        by None none = absurd ((k.calls.mate_made q replied).1 none)
        by (Some e) made =
            let request = k.letters.mate_taken q e replied made in
            let here : Stands m.channels (name n i) e request.place (Request (m.calls.mate q)) =
            subst (λ x. Stands m.channels x e request.place (Request (m.calls.mate q))) (ap m.calls.tunnel mate ∙ call.tunnel)
            request.stands in
            let lac = asks n i e request.place (m.calls.mate q) ok.0.node id_fits here in
            ap (λ (z : Node). z.end.role) (same_Some node lac.0 (sym there ∙ lac.1)) ∙ lac.2
