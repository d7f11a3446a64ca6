-- An opening is declined: nothing changes at the end that declines it; where it was the SCCRQ of a tunnel, that tunnel's account tells it.
use Rattle.std.proofs.Common.{◌≡◌, ◌⊎◌, inl, inr, ⊎_elim, ℕ, ◌≤◌, Bool, true, false, [], length, refl, sym, ap, ap₂, ◌∙◌, subst, Option, Some, None, arith, append-nil}
use Rattle.std.proofs.lemmas.Bool.{true≢false, eqb-true, eq-eqb}
use Rattle.std.specs.Prelude.{is_some, ◌==◌, ◌&&◌, if◌then◌else◌}
use Rattle.id_table.specs.Ids.{at}
use Rattle.id_table.specs.Order.{same_or_not}
use Rattle.end_names.specs.Names.{address_of, node_of}
use Rattle.end_model.specs.declared.event.Event.{Event}
use Rattle.end_model.specs.declared.moves.Declined.{Declined}
use Rattle.end_model.specs.declared.moves.Move.TheVariants as move
use Rattle.end_model.specs.Tunnels.{Tunnel, mode_of, is_current}
use Rattle.end_model.specs.End.{End}
use Rattle.world_model.specs.declared.standing.Standing.{Standing}
use Rattle.world_model.specs.World.{World, Node, Sender, Deed, epoch_of, moved}
use Rattle.channel_laws.specs.Accounts.{Part, Unmade, Opener, Acceptor, Renewed, Account, no_account, History, about, declines_of, declined_by, declined_in, entered_by, attempts_by, answers_by, after}
use Rattle.channel_laws.specs.Facts.{IsMade, partner_in, AreTaken, IsOpener, IsPart, IsAnswered, IsInState, AreAcked, KnowsBy, ByLetter, ByRecord, AccountOk, ChannelOk, LiveOk, IdsOk, EndOk, BookOk, NodeOk, Holds, QueryOk}
use Rattle.channel_laws.specs.Steps.{with_end, moves_on, IsMoved}
use Rattle.channel_laws.proofs.Entering.{base_here, base_other, base_same, base_makes}
use Rattle.channel_laws.proofs.Making.{SameNode, same_node}
use Rattle.channel_laws.proofs.Extending.{Extends, extends_same, got_given, all_extend, IsOnly}
use Rattle.channel_laws.proofs.Later.{IsAlike, IsUnbooked, StaysJoined, recovered_later, live_later, holds_later}
use Rattle.channel_laws.proofs.Linked.{opener_of, acceptor_of}

-- ---- accounts that differ in no more than that

pub record IsLike (a b : Account) : Type 0 where
  pub part : b.part ≡ a.part
  pub peer : b.peer ≡ a.peer
  pub remote : b.remote ≡ a.remote
  pub given : b.given ≡ a.given
  pub taken : b.taken ≡ a.taken
  pub closed : b.closed ≡ a.closed

like_part : (p : Part) (a : Account) → IsLike a (declined_by p a)
like_part Unmade a = record { part = refl; peer = refl; remote = refl; given = refl; taken = refl; closed = refl }
like_part Opener a = record { part = refl; peer = refl; remote = refl; given = refl; taken = refl; closed = refl }
like_part Acceptor a = record { part = refl; peer = refl; remote = refl; given = refl; taken = refl; closed = refl }
like_part Renewed a = record { part = refl; peer = refl; remote = refl; given = refl; taken = refl; closed = refl }

like_in : (b : Bool) (a : Account) → IsLike a (declined_in b a)
like_in true a = like_part a.part a
like_in false a = record { part = refl; peer = refl; remote = refl; given = refl; taken = refl; closed = refl }

either_way : (b : Bool) (a : Account) → (if b then a else a) ≡ a
either_way true a = refl
either_way false a = refl

three_true : (a b c : Bool) → (a && b) && c ≡ true → (a ≡ true) × (b ≡ true) × (c ≡ true)
three_true true true true is = (refl, refl, refl)
three_true true true false is = absurd (true≢false (sym is))
three_true true false c is = absurd (true≢false (sym is))
three_true false b c is = absurd (true≢false (sym is))

opener_or_not : (p : Part) → (p ≡ Opener) ⊎ ((a : Account) → declined_by p a ≡ a)
opener_or_not Unmade = inr (λ a. refl)
opener_or_not Opener = inl refl
opener_or_not Acceptor = inr (λ a. refl)
opener_or_not Renewed = inr (λ a. refl)

module _ (h : History) (d : Deed) (m : Declined) (is : d.move ≡ move.Declined m) where
  account_is : (p j u : ℕ) → (after h d).accounts p j u ≡ declined_in (((node_of m.peer == p) && (m.remote == j)) && (u == 0)) (h.accounts p j u)
  account_is p j u =
      ap (λ mv. declined_in (declines_of mv p j && (u == 0)) (if ((d.node == p) && (about mv == j)) && (d.epoch == u) then entered_by d mv (h.accounts p j u) else h.accounts p j u)) is
      ∙ ap (declined_in (((node_of m.peer == p) && (m.remote == j)) && (u == 0))) (either_way (((d.node == p) && (0 == j)) && (d.epoch == u)) (h.accounts p j u))

  pub like : (p j u : ℕ) → IsLike (h.accounts p j u) ((after h d).accounts p j u)
  like p j u = subst (IsLike (h.accounts p j u)) (sym (account_is p j u)) (like_in (((node_of m.peer == p) && (m.remote == j)) && (u == 0)) (h.accounts p j u))

  pub others : (p j u : ℕ) → ((p ≡ node_of m.peer) × (j ≡ m.remote) × (u ≡ 0) → ⊥) → (after h d).accounts p j u ≡ h.accounts p j u
  others p j u apart = account_is p j u ∙ by (((node_of m.peer == p) && (m.remote == j)) && (u == 0)) refl
    where
      by : (b : Bool) → ((node_of m.peer == p) && (m.remote == j)) && (u == 0) ≡ b → declined_in b (h.accounts p j u) ≡ h.accounts p j u
      by true true_is =
          let k = three_true (node_of m.peer == p) (m.remote == j) (u == 0) true_is in
          absurd (apart (sym (eqb-true (node_of m.peer) p k.0), sym (eqb-true m.remote j k.1), eqb-true u 0 k.2))
      by false false_is = refl

  pub declined_here : (after h d).accounts (node_of m.peer) m.remote 0 ≡ declined_by (h.accounts (node_of m.peer) m.remote 0).part (h.accounts (node_of m.peer) m.remote 0)
  declined_here =
      account_is (node_of m.peer) m.remote 0
      ∙ (ap (λ b. declined_in ((b && (m.remote == m.remote)) && (0 == 0)) (h.accounts (node_of m.peer) m.remote 0)) (eq-eqb (node_of m.peer) (node_of m.peer) refl)
      ∙ ap (λ b. declined_in ((true && b) && (0 == 0)) (h.accounts (node_of m.peer) m.remote 0)) (eq-eqb m.remote m.remote refl))

  pub attempts_same : (p a : ℕ) → (after h d).attempts p a ≡ h.attempts p a
  attempts_same p a = ap (λ mv. attempts_by d mv p a (h.attempts p a)) is

  pub answers_same : (p c : ℕ) → (after h d).answers p c ≡ h.answers p c
  answers_same p c = ap (λ mv. answers_by d mv p c (h.answers p c)) is

  -- ids are used as they were
  pub ids_same : (p : ℕ) (e : End) → IdsOk h p e → IdsOk (after h d) p e
  ids_same p e ids = record {
    tunnels = λ j was. ids.tunnels j (made_before j was);
    attempts = λ c some. ids.attempts c (ap is_some (sym (attempts_same p c)) ∙ some);
    answers = λ c some. ids.answers c (ap is_some (sym (answers_same p c)) ∙ some);
    no_attempt = λ j was. attempts_same p j ∙ ids.no_attempt j (made_before j was);
    no_answer = λ j was. answers_same p j ∙ ids.no_answer j (made_before j was);
    one = λ c some. answers_same p c ∙ ids.one c (ap is_some (sym (attempts_same p c)) ∙ some);
  }
    where
      made_before : (j : ℕ) → IsMade ((after h d).accounts p j 0) → IsMade (h.accounts p j 0)
      made_before j was none = was ((like p j 0).part ∙ none)

-- ---- the move

module _ (w : World) (h : History) (n : ℕ) (node : Node) (d : Deed) (m : Declined) (is : d.move ≡ move.Declined m) (there : at w.nodes n ≡ Some node) (holds : Holds w h) where
  abbrev q : ℕ
  q = node_of m.peer

  abbrev r : ℕ
  r = m.remote

  abbrev g : History
  g = after h d

  abbrev v : World
  v = with_end w n node node.end

  nodes_same : (p : ℕ) → at v.nodes p ≡ at w.nodes p
  nodes_same p = ⊎_elim
      (λ (same : p ≡ n). ap (at v.nodes) same ∙ (base_here w n node there node.end ∙ (sym there ∙ ap (at w.nodes) (sym same))))
      (λ (o : p ≡ n → ⊥). base_other w n node there node.end p o)
      (same_or_not p n)

  alike_at : (p : ℕ) (o : Node) → at w.nodes p ≡ Some o → IsAlike w v p o o.end
  alike_at p o at_p = record {
    standings = λ m1 j. base_same w n node there node.end m1 j;
    makes_as = λ m1 c. base_makes w n node there node.end m1 c;
    packets = refl;
    others = λ m1 other. subst (SameNode (at w.nodes m1)) (sym (nodes_same m1)) (same_node (at w.nodes m1));
    own = o;
    own_is = nodes_same p ∙ at_p;
    end_is = refl;
    checkpoint_is = refl;
  }

  -- ---- nothing changes

  module _ (none : (p j u : ℕ) → g.accounts p j u ≡ h.accounts p j u) where
    ok : EndOk w h n node.end × BookOk h n node.checkpoint.book
    ok = subst (NodeOk w h n) there (holds.nodes n)

    unmade : (e : ℕ) → h.accounts n 0 e ≡ no_account
    unmade e = by (h.accounts n 0 e).part refl
      where
        never : IsMade (h.accounts n 0 e) → ⊥
        never made = let lt = (holds.accounts n 0 e).some made in omega (arith, lt)

        by : (p : Part) → (h.accounts n 0 e).part ≡ p → h.accounts n 0 e ≡ no_account
        by Unmade own = subst (IsPart w h n 0 e (h.accounts n 0 e)) own (holds.accounts n 0 e).part
        by Opener own = absurd (never (λ z. let two : Opener ≡ Unmade = sym own ∙ z in absurd cc))
        by Acceptor own = absurd (never (λ z. let two : Acceptor ≡ Unmade = sym own ∙ z in absurd cc))
        by Renewed own = absurd (never (λ z. let two : Renewed ≡ Unmade = sym own ∙ z in absurd cc))

    still : IsOnly h g n 0 0
    still = record {
      here = subst (Extends (h.accounts n 0 0)) (sym (none n 0 0)) (extends_same (h.accounts n 0 0));
      others = λ p j u o. none p j u;
      attempts = attempts_same h d m is;
      answers = answers_same h d m is;
      later = λ lt. absurd (omega (arith, lt));
    }

    late_still : ◌≡◌ {A = ℕ} 0 0 → ((h.accounts n 0 0).remote ≡ 0 → ⊥) → (g.accounts n 0 0).closed ≡ Some 0 → (h.accounts n 0 0).closed ≡ Some 0
    late_still z known = absurd (known (ap (λ (y : Account). y.remote) (unmade 0)))

    settled_still : ◌≡◌ {A = ℕ} 0 0 → (h.accounts n 0 0).remote ≡ 0
        → (((g.accounts n 0 0).remote ≡ 0) × ((g.accounts n 0 0).closed ≡ Some 0 → (h.accounts n 0 0).closed ≡ Some 0)) ⊎ IsUnbooked h n 0 node.checkpoint.book
    settled_still z unknown = inl (ap (λ (y : Account). y.remote) (none n 0 0) ∙ unknown, λ closed. ap (λ (y : Account). y.closed) (sym (none n 0 0)) ∙ closed)

    joined_still : StaysJoined g n 0 (g.accounts n 0 0)
    joined_still own named =
        let two : Acceptor ≡ Unmade = sym own ∙ (ap (λ (y : Account). y.part) (none n 0 0) ∙ ap (λ (y : Account). y.part) (unmade 0)) in absurd cc

    no_account_ok : AccountOk v g n 0 0 no_account
    no_account_ok = record {
      part = refl;
      some = λ made. absurd (made refl);
      id = λ made. absurd (made refl);
      node = λ made. absurd (made refl);
      peer = omega arith;
      remote = omega arith;
      first_given = omega arith;
      first_taken = omega arith;
      from_none = λ z. (refl, refl);
      spelled = tt;
      told = tt;
      taken = λ place y found lt. let clash : ⊥ = cc in absurd clash;
      ignored = λ place y found le. let clash : ⊥ = cc in absurd clash;
      entered = λ made. absurd (made refl);
      declined = λ z. absurd (true≢false (sym z));
    }

    account_still : AccountOk v g n 0 0 (g.accounts n 0 0)
    account_still = subst (AccountOk v g n 0 0) (sym (none n 0 0 ∙ unmade 0)) no_account_ok

    live_still : (j : ℕ) (t : Tunnel) → LiveOk w h n j t → LiveOk v g n j t
    live_still j t live =
        live_later w v h g n 0 0 still holds node node.end (alike_at n node there) late_still settled_still there joined_still account_still n j
        (λ z. live.made (ap (λ y. (h.accounts n y 0).part) z.1 ∙ ap (λ (y : Account). y.part) (unmade 0))) t live

    pub nothing_changes : Holds (with_end w n node node.end) (after h d)
    nothing_changes =
        holds_later w v h g n 0 0 still holds node node.end (alike_at n node there) late_still settled_still there joined_still account_still
        (record {
          node = ok.0.node;
          number = ok.0.number;
          lns = ok.0.lns;
          ids = ids_same h d m is n node.end ok.0.ids;
          live = λ j t at_j. live_still j t (ok.0.live j t at_j);
          apart = ok.0.apart;
        })

  -- ---- an opener is told

  module _ (own : (h.accounts (node_of m.peer) m.remote 0).part ≡ Opener) (there_node : Node) (there_is : at w.nodes (node_of m.peer) ≡ Some there_node) where
    abbrev a : Account
    a = h.accounts q r 0

    abbrev b : Account
    b = record a { declined = true }

    account_is_now : g.accounts q r 0 ≡ b
    account_is_now = declined_here h d m is ∙ ap (λ p. declined_by p a) own

    made : IsMade a
    made none = let two : Opener ≡ Unmade = sym own ∙ none in absurd cc

    there_ok : EndOk w h q there_node.end × BookOk h q there_node.checkpoint.book
    there_ok = subst (NodeOk w h q) there_is (holds.nodes q)

    ok_a : AccountOk w h q r 0 a
    ok_a = holds.accounts q r 0

    extends : Extends a b
    extends = record {
      part = inr refl;
      peer = λ z. refl;
      remote = inr refl;
      answer = refl;
      first_given = refl;
      first_taken = refl;
      closed = inr refl;
      given = ([], sym (append-nil a.given));
      taken = ([], sym (append-nil a.taken));
      declined = λ z. refl;
    }

    only : IsOnly h g q r 0
    only = record {
      here = subst (Extends a) (sym account_is_now) extends;
      others = λ p j u o. others h d m is p j u o;
      attempts = attempts_same h d m is;
      answers = answers_same h d m is;
      later = λ lt. made;
    }

    alike_there : IsAlike w v q there_node there_node.end
    alike_there = alike_at q there_node there_is

    late : ◌≡◌ {A = ℕ} 0 0 → ((h.accounts q r 0).remote ≡ 0 → ⊥) → (g.accounts q r 0).closed ≡ Some 0 → (h.accounts q r 0).closed ≡ Some 0
    late z known closed = ap (λ (y : Account). y.closed) (sym account_is_now) ∙ closed

    settled : ◌≡◌ {A = ℕ} 0 0 → (h.accounts q r 0).remote ≡ 0
        → (((g.accounts q r 0).remote ≡ 0) × ((g.accounts q r 0).closed ≡ Some 0 → (h.accounts q r 0).closed ≡ Some 0)) ⊎ IsUnbooked h q r there_node.checkpoint.book
    settled z none = inl (ap (λ (y : Account). y.remote) account_is_now ∙ none, λ closed. ap (λ (y : Account). y.closed) (sym account_is_now) ∙ closed)

    joined : StaysJoined g q r (g.accounts q r 0)
    joined acceptor named = let two : Opener ≡ Acceptor = sym own ∙ (ap (λ (y : Account). y.part) (sym account_is_now) ∙ acceptor) in absurd cc

    before : IsOpener h.accounts q r a
    before = (opener_of w h q r 0 a ok_a own).1

    -- its acceptor is another tunnel
    stays : (a.remote ≡ 0 → ⊥) → partner_in g.accounts 0 a ≡ partner_in h.accounts 0 a
    stays known = others h d m is a.peer a.remote 0
        (λ z. (let two : Acceptor ≡ Opener = sym (before.part known) ∙ (ap₂ (λ y c. (h.accounts y c 0).part) z.0 z.1 ∙ own) in cc))

    opener : IsOpener g.accounts q r b
    opener = record {
      begins = before.begins;
      none = before.none;
      one_given = before.one_given;
      some = before.some;
      part = λ z. ap (λ (y : Account). y.part) (stays z) ∙ before.part z;
      peer = λ z. ap (λ (y : Account). y.peer) (stays z) ∙ before.peer z;
      remote = λ z. ap (λ (y : Account). y.remote) (stays z) ∙ before.remote z;
      joined = λ z. (let j = before.joined z in let same = ap (λ (y : Account). length y.given) (stays z) in let lens = ap (λ (y : Account). length y.taken) (stays z) in
          let there_le = j.there in let few_here = j.few_here in let few_there = j.few_there in
          record {
            here = ⊎_elim (λ (le : length a.taken ≤ length (partner_in h.accounts 0 a).given). inl (omega (arith, le, same))) (λ o. inr o) j.here;
            there = omega (arith, there_le, lens);
            few_here = omega (arith, few_here, lens);
            few_there = omega (arith, few_there, same);
          });
      early = before.early;
    }

    taken : AreTaken g.accounts 0 b
    taken place y found lt =
        let t = ok_a.taken place y found lt in
        record {
          numbered = t.numbered;
          partner = t.partner;
          learned = t.learned;
          sender = t.sender;
          letter = t.letter;
          there = got_given (h.accounts t.partner.node t.partner.tunnel 0) (g.accounts t.partner.node t.partner.tunnel 0) (all_extend h g q r 0 only t.partner.node t.partner.tunnel 0) place t.letter t.there;
          tells = t.tells;
        }

    account : AccountOk v g q r 0 b
    account = record {
      part = subst (IsPart v g q r 0 b) (sym own) (refl, opener);
      some = ok_a.some;
      id = ok_a.id;
      node = ok_a.node;
      peer = ok_a.peer;
      remote = ok_a.remote;
      first_given = ok_a.first_given;
      first_taken = ok_a.first_taken;
      from_none = ok_a.from_none;
      spelled = ok_a.spelled;
      told = ok_a.told;
      taken = taken;
      ignored = ok_a.ignored;
      entered = λ z. omega arith;
      declined = λ z. (refl, own);
    }

    account_there : AccountOk v g q r 0 (g.accounts q r 0)
    account_there = subst (AccountOk v g q r 0) (sym account_is_now) account

    -- ---- its tunnel

    module _ (t : Tunnel) (live : LiveOk w h q r t) where
      epochs : epoch_of v q r ≡ epoch_of w q r
      epochs = ap (λ (s : Standing). s.epoch) (alike_there.standings q r)

      first_channel : ChannelOk h.accounts q r 0 a t → ChannelOk g.accounts q r 0 b t
      first_channel c = record {
        peer = c.peer;
        remote = c.remote;
        state = subst (IsInState g.accounts r 0 b t) (sym own) (subst (IsInState h.accounts r 0 a t) own c.state);
        acked = c.acked;
        acked_is = c.acked_is;
        letters = c.letters;
        counted = c.counted;
        few = c.few;
        outstanding = c.outstanding;
        taken = c.taken;
        were_acked = subst (AreAcked g.accounts q r 0 b c.acked) (sym own) (acks (subst (AreAcked h.accounts q r 0 a c.acked) own c.were_acked));
      }
        where
          acks : AreAcked h.accounts q r 0 a c.acked Opener → AreAcked g.accounts q r 0 b c.acked Opener
          acks k = (
            λ none. ⊎_elim
                (λ z. inl z)
                (λ rest. inr (⊎_elim
                (λ (s : IsAnswered h.accounts q r a c.acked). inl (record {
                  acceptor = s.acceptor;
                  part = (like h d m is a.peer s.acceptor 0).part ∙ s.part;
                  peer = (like h d m is a.peer s.acceptor 0).peer ∙ s.peer;
                  remote = (like h d m is a.peer s.acceptor 0).remote ∙ s.remote;
                  enough = (let le = s.enough in let same = ap length (like h d m is a.peer s.acceptor 0).taken in omega (arith, le, same));
                }))
                (λ s. inr (s.0, refl))
                rest))
                (k.0 none),
            λ known. (let le = k.1 known in let same = ap (λ (y : Account). length y.taken) (stays known) in omega (arith, le, same)),
          )

      renewed_there : (u : ℕ) → (u ≡ 0 → ⊥) → IsMade (h.accounts q r u) → (h.accounts q r u).part ≡ Renewed
      renewed_there u later made_there = by (h.accounts q r u).part refl
        where
          by : (p : Part) → (h.accounts q r u).part ≡ p → (h.accounts q r u).part ≡ Renewed
          by Unmade is_so = absurd (made_there is_so)
          by Opener is_so = absurd (later (opener_of w h q r u (h.accounts q r u) (holds.accounts q r u) is_so).0)
          by Acceptor is_so = absurd (later (acceptor_of w h q r u (h.accounts q r u) (holds.accounts q r u) is_so).0)
          by Renewed is_so = is_so

      later_channel : (u : ℕ) → (u ≡ 0 → ⊥) → IsMade (h.accounts q r u) → ChannelOk h.accounts q r u (h.accounts q r u) t → ChannelOk g.accounts q r u (h.accounts q r u) t
      later_channel u later made_there c = record {
        peer = c.peer;
        remote = c.remote;
        state = subst (IsInState g.accounts r u (h.accounts q r u) t) (sym (renewed_there u later made_there)) (subst (IsInState h.accounts r u (h.accounts q r u) t) (renewed_there u later made_there) c.state);
        acked = c.acked;
        acked_is = c.acked_is;
        letters = c.letters;
        counted = c.counted;
        few = c.few;
        outstanding = c.outstanding;
        taken = c.taken;
        were_acked = subst (AreAcked g.accounts q r u (h.accounts q r u) c.acked) (sym (renewed_there u later made_there))
            (let le = subst (AreAcked h.accounts q r u (h.accounts q r u) c.acked) (renewed_there u later made_there) c.were_acked in
            let same = ap length (like h d m is (h.accounts q r u).peer (h.accounts q r u).remote u).taken in
            omega (arith, le, same));
      }

      channel_now : is_current (mode_of t.recovery) ≡ true → ChannelOk g.accounts q r (epoch_of v q r) (g.accounts q r (epoch_of v q r)) t
      channel_now current =
          let was = live.channel current in
          subst (λ u. ChannelOk g.accounts q r u (g.accounts q r u) t) (sym epochs)
          (⊎_elim
          (λ (zero : epoch_of w q r ≡ 0). subst (λ u. ChannelOk g.accounts q r u (g.accounts q r u) t) (sym zero)
          (subst (λ y. ChannelOk g.accounts q r 0 y t) (sym account_is_now) (first_channel (subst (λ u. ChannelOk h.accounts q r u (h.accounts q r u) t) zero was))))
          (λ (later : epoch_of w q r ≡ 0 → ⊥). subst (λ y. ChannelOk g.accounts q r (epoch_of w q r) y t) (sym (others h d m is q r (epoch_of w q r) (λ z. later z.2)))
          (later_channel (epoch_of w q r) later ((holds.standings q r).entered live.made) was))
          (same_or_not (epoch_of w q r) 0))

      knows_now : (remote : ℕ) → KnowsBy h.accounts q r remote → KnowsBy g.accounts q r remote
      knows_now remote (ByLetter z) = ByLetter ((like h d m is q r 0).remote ∙ z)
      knows_now remote (ByRecord part none acceptor home back) =
          let at_peer : g.accounts (g.accounts q r 0).peer remote 0 ≡ g.accounts a.peer remote 0 = ap (λ y. g.accounts y remote 0) (like h d m is q r 0).peer in
          let l = like h d m is a.peer remote 0 in
          ByRecord ((like h d m is q r 0).part ∙ part) ((like h d m is q r 0).remote ∙ none)
          (ap (λ (y : Account). y.part) at_peer ∙ (l.part ∙ acceptor)) (ap (λ (y : Account). y.peer) at_peer ∙ (l.peer ∙ home)) (ap (λ (y : Account). y.remote) at_peer ∙ (l.remote ∙ back))

      pub live_told : LiveOk v g q r t
      live_told = record {
        local = live.local;
        made = λ none. live.made (sym (like h d m is q r 0).part ∙ none);
        peer = live.peer ∙ ap address_of (sym (like h d m is q r 0).peer);
        channel = channel_now;
        kept = λ current. ap (λ (s : Standing). s.lost) (alike_there.standings q r) ∙ live.kept current;
        established = live.established;
        some = live.some;
        knows = λ current. knows_now t.control.remote (live.knows current);
        learned = λ current acceptor. (let two : Opener ≡ Acceptor = sym own ∙ (sym (like h d m is q r 0).part ∙ acceptor) in absurd cc);
        recovery = λ y is_so. recovered_later w v h g q r 0 only holds there_node there_node.end alike_there late settled there_is joined account_there q r live.made y (live.recovery y is_so);
        unattempted = λ early c y found. live.unattempted early c y (sym (attempts_same h d m is q c) ∙ found);
        calls = live.calls;
        query = subst (λ u. QueryOk u t.query) (sym epochs) live.query;
      }

    live_by : (j : ℕ) (t : Tunnel) → LiveOk w h q j t → LiveOk v g q j t
    live_by j t live = ⊎_elim
        (λ (same : j ≡ r). subst (λ z. LiveOk v g q z t) (sym same) (live_told t (subst (λ z. LiveOk w h q z t) same live)))
        (λ (o : j ≡ r → ⊥). live_later w v h g q r 0 only holds there_node there_node.end alike_there late settled there_is joined account_there q j (λ z. o z.1) t live)
        (same_or_not j r)

    pub opener_told : Holds (with_end w n node node.end) (after h d)
    opener_told =
        holds_later w v h g q r 0 only holds there_node there_node.end alike_there late settled there_is joined account_there
        (record {
          node = there_ok.0.node;
          number = there_ok.0.number;
          lns = there_ok.0.lns;
          ids = ids_same h d m is q there_node.end there_ok.0.ids;
          live = λ j t at_j. live_by j t (there_ok.0.live j t at_j);
          apart = there_ok.0.apart;
        })

  node_there : (h.accounts q r 0).part ≡ Opener → (o : Node) × (at w.nodes q ≡ Some o)
  node_there own_part = by (at w.nodes q) refl (holds.nodes q)
    where
      by : (o : Option Node) → at w.nodes q ≡ o → NodeOk w h q o → (z : Node) × (at w.nodes q ≡ Some z)
      by None is_so known = let two : Opener ≡ Unmade = sym own_part ∙ ap (λ (y : Account). y.part) (known.0 r 0) in absurd cc
      by (Some o) is_so known = (o, is_so)

  pub declining_holds : Holds (with_end w n node node.end) (after h d)
  declining_holds = ⊎_elim
      (λ (own : (h.accounts q r 0).part ≡ Opener). opener_told own (node_there own).0 (node_there own).1)
      (λ stays. nothing_changes (none_of stays))
      (opener_or_not (h.accounts q r 0).part)
    where
      three_or_not : (p j u : ℕ) → ((p ≡ q) × (j ≡ r) × (u ≡ 0)) ⊎ ((p ≡ q) × (j ≡ r) × (u ≡ 0) → ⊥)
      three_or_not p j u = ⊎_elim
          (λ (x : p ≡ q). ⊎_elim
          (λ (y : j ≡ r). ⊎_elim (λ (z : u ≡ 0). inl (x, y, z)) (λ (o : u ≡ 0 → ⊥). inr (λ k. o k.2)) (same_or_not u 0))
          (λ (o : j ≡ r → ⊥). inr (λ k. o k.1)) (same_or_not j r))
          (λ (o : p ≡ q → ⊥). inr (λ k. o k.0)) (same_or_not p q)

      none_of : ((y : Account) → declined_by (h.accounts q r 0).part y ≡ y) → (p j u : ℕ) → g.accounts p j u ≡ h.accounts p j u
      none_of stays p j u = ⊎_elim
          (λ (z : (p ≡ q) × (j ≡ r) × (u ≡ 0)).
          subst (λ y. g.accounts y j u ≡ h.accounts y j u) (sym z.0) (subst (λ y. g.accounts q y u ≡ h.accounts q y u) (sym z.1)
          (subst (λ y. g.accounts q r y ≡ h.accounts q r y) (sym z.2) (declined_here h d m is ∙ stays (h.accounts q r 0)))))
          (λ o. others h d m is p j u o)
          (three_or_not p j u)

pub declined_keeps : (w : World) (h : History) (n : ℕ) (node : Node) (sender : Option Sender) (moment : ℕ) (ev : Event) (m : Declined) (x : End) (d : Deed)
    → IsMoved w h n node sender moment ev (move.Declined m) x d → Holds (moves_on w n node (move.Declined m) x) (after h d)
unfolding moved
declined_keeps w h n node sender moment ev m x d k =
    subst (λ y. Holds (with_end w n node y) (after h d)) (sym k.does.after) (declining_holds w h n node d m k.deed.move_is k.there k.holds)
