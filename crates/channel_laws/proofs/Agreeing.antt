-- What moves make of a world's standings, answers and births doesn't depend on the ends of its nodes: two worlds that agree in these, agree after a move.
use Rattle.std.proofs.Common.{◌≡◌, ◌⊎◌, inl, inr, ⊎_elim, ℕ, ◌+◌, true, false, List, [], ◌∷◌, ◌++◌, refl, sym, ap, ap₂, ◌∙◌, subst, Option, Some, None}
use Rattle.std.specs.List.{AllByRecursion}
use Rattle.std.specs.Prelude.{is_some, min, unwrap_or, ◌^◌, ◌-◌}
use Rattle.id_table.specs.Ids.{at, put}
use Rattle.id_table.specs.Order.{Ascends, at_new, at_other, same_or_not}
use Rattle.end_names.specs.Names.{node_of}
use Rattle.end_model.specs.declared.event.Event.{Event}
use Rattle.end_model.specs.declared.moves.Move.{Move}
use Rattle.end_model.specs.declared.moves.Move.TheVariants as move
use Rattle.end_model.specs.End.{End}
use Rattle.step_laws.specs.Moves.{Chain}
use Rattle.step_laws.specs.Steps.{IsOfNoStart}
use Rattle.world_model.specs.declared.standing.Standing.{Standing}
use Rattle.world_model.specs.World.{World, Node, no_standing, standing_in, standing_of, epoch_of, answer_in, with_node, with_birth, with_birth_at, is_born, with_standing, with_standing_at, with_answer_at, has_made, makes_epoch, enters_epoch, birth_of, moved, moved_all}
use Rattle.channel_laws.specs.Facts.{makes}
use Rattle.channel_laws.specs.Accounts.{about}
use Rattle.channel_laws.proofs.Making.{has_made_only}
use Rattle.channel_laws.proofs.Inactive.{IsReset, StaysSo, stays_so, never_reset}

-- the same nodes are there, with the same standings and answers, and the same packets
pub record Agree (v u : World) : Type 0 where
  pub there : (m : ℕ) → is_some (at u.nodes m) ≡ is_some (at v.nodes m)
  pub standings : (m j : ℕ) → standing_of u m j ≡ standing_of v m j
  pub makes_as : (m c : ℕ) → makes u m c ≡ makes v m c
  pub packets : u.packets ≡ v.packets

pub agree_same : (v : World) → Agree v v
agree_same v = record { there = λ m. refl; standings = λ m j. refl; makes_as = λ m c. refl; packets = refl }

pub agree_back : (v u : World) → Agree v u → Agree u v
agree_back v u g = record { there = λ m. sym (g.there m); standings = λ m j. sym (g.standings m j); makes_as = λ m c. sym (g.makes_as m c); packets = sym g.packets }

pub agree_on : (a b c : World) → Agree a b → Agree b c → Agree a c
agree_on a b c g h = record {
  there = λ m. h.there m ∙ g.there m;
  standings = λ m j. h.standings m j ∙ g.standings m j;
  makes_as = λ m k. h.makes_as m k ∙ g.makes_as m k;
  packets = h.packets ∙ g.packets;
}

-- ---- a node is put in the place of one

module _ (w : World) (n : ℕ) (node new : Node) (there : at w.nodes n ≡ Some node) where
  abbrev v : World
  v = with_node w n new

  here : at v.nodes n ≡ Some new
  here = at_new w.nodes n new

  other : (m : ℕ) → (m ≡ n → ⊥) → at v.nodes m ≡ at w.nodes m
  other m o = at_other w.nodes n new m o

  pub put_there : (m : ℕ) → is_some (at v.nodes m) ≡ is_some (at w.nodes m)
  put_there m = ⊎_elim
      (λ (same : m ≡ n). ap (λ q. is_some (at v.nodes q)) same ∙ (ap is_some here ∙ (sym (ap is_some there) ∙ ap (λ q. is_some (at w.nodes q)) (sym same))))
      (λ (o : m ≡ n → ⊥). ap is_some (other m o))
      (same_or_not m n)

  pub put_standing : (m j : ℕ) → ((m ≡ n → ⊥) ⊎ ((m ≡ n) × (standing_in (Some new) j ≡ standing_in (Some node) j))) → standing_of v m j ≡ standing_of w m j
  unfolding standing_of
  put_standing m j (inl o) = ap (λ q. standing_in q j) (other m o)
  put_standing m j (inr s) =
      ap (λ q. standing_in (at v.nodes q) j) s.0
      ∙ (ap (λ q. standing_in q j) here ∙ (s.1 ∙ (sym (ap (λ q. standing_in q j) there) ∙ ap (λ q. standing_in (at w.nodes q) j) (sym s.0))))

  pub put_answer : (m c : ℕ) → ((m ≡ n → ⊥) ⊎ ((m ≡ n) × (answer_in (Some new) c ≡ answer_in (Some node) c))) → makes v m c ≡ makes w m c
  put_answer m c (inl o) = ap (λ q. answer_in q c) (other m o)
  put_answer m c (inr s) =
      ap (λ q. answer_in (at v.nodes q) c) s.0
      ∙ (ap (λ q. answer_in q c) here ∙ (s.1 ∙ (sym (ap (λ q. answer_in q c) there) ∙ ap (λ q. answer_in (at w.nodes q) c) (sym s.0))))

  -- which differs in neither
  pub put_agrees : new.standings ≡ node.standings → new.answers ≡ node.answers → Agree w v
  put_agrees standings answers = record {
    there = put_there;
    standings = λ m j. put_standing m j (⊎_elim
        (λ (same : m ≡ n). inr (same, ap (λ q. unwrap_or (at q j) no_standing) standings))
        (λ (o : m ≡ n → ⊥). inl o)
        (same_or_not m n));
    makes_as = λ m c. put_answer m c (⊎_elim
        (λ (same : m ≡ n). inr (same, ap (λ q. unwrap_or (at q c) 0) answers))
        (λ (o : m ≡ n → ⊥). inl o)
        (same_or_not m n));
    packets = refl;
  }

-- ---- births

birth_agrees : (w : World) (n s birth : ℕ) → Agree w (with_birth w n s birth)
unfolding with_birth
birth_agrees w n s birth = by (at w.nodes n) refl
  where
    by : (o : Option Node) → at w.nodes n ≡ o → Agree w (with_birth_at w n s birth o)
    by None none = agree_same w
    by (Some node) there = put_agrees w n node (record node { births = put node.births s birth }) there refl refl

born_agrees : (w : World) (n s : ℕ) → Agree w (is_born w n s)
unfolding is_born standing_of
born_agrees w n s =
    agree_on w (record w { born = _ }) _ (record { there = λ m. refl; standings = λ m j. refl; makes_as = λ m c. refl; packets = refl }) (birth_agrees (record w { born = _ }) n s _)

-- ---- standings

-- a standing is put where its node is there
module _ (n i : ℕ) (s : Standing) where
  module _ (w : World) (node : Node) (there : at w.nodes n ≡ Some node) where
    abbrev put_in : World
    put_in = with_node w n (record node { standings = put node.standings i s })

    own_put : standing_of put_in n i ≡ s
    unfolding standing_of
    own_put = ap (λ q. standing_in q i) (at_new w.nodes n (record node { standings = put node.standings i s })) ∙ ap (λ o. unwrap_or o no_standing) (at_new node.standings i s)

    other_put : (m j : ℕ) → ((m ≡ n) × (j ≡ i) → ⊥) → standing_of put_in m j ≡ standing_of w m j
    other_put m j apart = put_standing w n node (record node { standings = put node.standings i s }) there m j (⊎_elim
        (λ (same : m ≡ n). inr (same, ap (λ o. unwrap_or o no_standing) (at_other node.standings i s j (λ z. apart (same, z)))))
        (λ (o : m ≡ n → ⊥). inl o)
        (same_or_not m n))

  either : (m j : ℕ) → ((m ≡ n) × (j ≡ i)) ⊎ ((m ≡ n) × (j ≡ i) → ⊥)
  either m j = ⊎_elim
      (λ (p : m ≡ n). ⊎_elim (λ (q : j ≡ i). inl (p, q)) (λ no. inr (λ (r : (m ≡ n) × (j ≡ i)). no r.1)) (same_or_not j i))
      (λ no. inr (λ (r : (m ≡ n) × (j ≡ i)). no r.0))
      (same_or_not m n)

  standing_put : (v u : World) → Agree v u → Agree (with_standing v n i s) (with_standing u n i s)
  unfolding with_standing
  standing_put v u g = by (at v.nodes n) (at u.nodes n) refl refl
    where
      by : (a b : Option Node) → at v.nodes n ≡ a → at u.nodes n ≡ b → Agree (with_standing_at v n i s a) (with_standing_at u n i s b)
      by None None a b = g
      by None (Some y) a b = let no : true ≡ false = sym (ap is_some b) ∙ (g.there n ∙ ap is_some a) in absurd cc
      by (Some x) None a b = let no : false ≡ true = sym (ap is_some b) ∙ (g.there n ∙ ap is_some a) in absurd cc
      by (Some x) (Some y) a b = record {
        there = λ m. put_there u n y (record y { standings = put y.standings i s }) b m
            ∙ (g.there m ∙ sym (put_there v n x (record x { standings = put x.standings i s }) a m));
        standings = λ m j. ⊎_elim
            (λ (q : (m ≡ n) × (j ≡ i)).
            ap₂ (λ k l. standing_of (put_in u y b) k l) q.0 q.1 ∙ (own_put u y b ∙ (sym (own_put v x a) ∙ ap₂ (λ k l. standing_of (put_in v x a) k l) (sym q.0) (sym q.1))))
            (λ o. other_put u y b m j o ∙ (g.standings m j ∙ sym (other_put v x a m j o)))
            (either m j);
        makes_as = λ m c. put_answer u n y (record y { standings = put y.standings i s }) b m c (same_answer m y c)
            ∙ (g.makes_as m c ∙ sym (put_answer v n x (record x { standings = put x.standings i s }) a m c (same_answer m x c)));
        packets = g.packets;
      }
        where
          same_answer : (m : ℕ) (z : Node) (c : ℕ) → (m ≡ n → ⊥) ⊎ ((m ≡ n) × (answer_in (Some (record z { standings = put z.standings i s })) c ≡ answer_in (Some z) c))
          same_answer m z c = ⊎_elim (λ (same : m ≡ n). inr (same, refl)) (λ (o : m ≡ n → ⊥). inl o) (same_or_not m n)

-- ---- answers

module _ (n c e : ℕ) where
  answer_put : (v u : World) → Agree v u → Agree (with_answer_at v n c e (at v.nodes n)) (with_answer_at u n c e (at u.nodes n))
  answer_put v u g = by (at v.nodes n) (at u.nodes n) refl refl
    where
      by : (a b : Option Node) → at v.nodes n ≡ a → at u.nodes n ≡ b → Agree (with_answer_at v n c e a) (with_answer_at u n c e b)
      by None None a b = g
      by None (Some y) a b = let no : true ≡ false = sym (ap is_some b) ∙ (g.there n ∙ ap is_some a) in absurd cc
      by (Some x) None a b = let no : false ≡ true = sym (ap is_some b) ∙ (g.there n ∙ ap is_some a) in absurd cc
      by (Some x) (Some y) a b = record {
        there = λ m. put_there u n y (record y { answers = put y.answers c e }) b m ∙ (g.there m ∙ sym (put_there v n x (record x { answers = put x.answers c e }) a m));
        standings = λ m j. put_standing u n y (record y { answers = put y.answers c e }) b m j (same_standing m y j)
            ∙ (g.standings m j ∙ sym (put_standing v n x (record x { answers = put x.answers c e }) a m j (same_standing m x j)));
        makes_as = λ m k. answers_now m k;
        packets = g.packets;
      }
        where
          same_standing : (m : ℕ) (z : Node) (j : ℕ) → (m ≡ n → ⊥) ⊎ ((m ≡ n) × (standing_in (Some (record z { answers = put z.answers c e })) j ≡ standing_in (Some z) j))
          same_standing m z j = ⊎_elim (λ (same : m ≡ n). inr (same, refl)) (λ (o : m ≡ n → ⊥). inl o) (same_or_not m n)

          own : (w : World) (z : Node) → at w.nodes n ≡ Some z → makes (with_node w n (record z { answers = put z.answers c e })) n c ≡ e
          own w z is = ap (λ q. answer_in q c) (at_new w.nodes n (record z { answers = put z.answers c e })) ∙ ap (λ o. unwrap_or o 0) (at_new z.answers c e)

          others : (w : World) (z : Node) (is : at w.nodes n ≡ Some z) (m k : ℕ) → ((m ≡ n) × (k ≡ c) → ⊥) → makes (with_node w n (record z { answers = put z.answers c e })) m k ≡ makes w m k
          others w z is m k apart = put_answer w n z (record z { answers = put z.answers c e }) is m k (⊎_elim
              (λ (same : m ≡ n). inr (same, ap (λ o. unwrap_or o 0) (at_other z.answers c e k (λ q. apart (same, q)))))
              (λ (o : m ≡ n → ⊥). inl o)
              (same_or_not m n))

          answers_now : (m k : ℕ) → makes (with_node u n (record y { answers = put y.answers c e })) m k ≡ makes (with_node v n (record x { answers = put x.answers c e })) m k
          answers_now m k = ⊎_elim
              (λ (q : (m ≡ n) × (k ≡ c)).
              ap₂ (λ a1 b1. makes (with_node u n (record y { answers = put y.answers c e })) a1 b1) q.0 q.1
              ∙ (own u y b ∙ (sym (own v x a) ∙ ap₂ (λ a1 b1. makes (with_node v n (record x { answers = put x.answers c e })) a1 b1) (sym q.0) (sym q.1))))
              (λ o. others u y b m k o ∙ (g.makes_as m k ∙ sym (others v x a m k o)))
              (either n c no_standing m k)

-- ---- moves

made_put : (n i e : ℕ) (v u : World) → Agree v u → Agree (has_made v n i e) (has_made u n i e)
made_put n i e v u g =
    subst (λ (s : Standing). Agree (has_made v n i e) (with_standing u n i (record s { made = e }))) (sym (g.standings n i))
    (standing_put n i (record (standing_of v n i) { made = e }) v u g)

makes_put : (n i m j c : ℕ) (v u : World) → Agree v u → Agree (makes_epoch v n i m j c) (makes_epoch u n i m j c)
unfolding makes_epoch
makes_put n i m j c v u g =
    let e = min ((standing_of v n i).made + 1) (2 ^ 64 - 1) in
    let same : min ((standing_of u n i).made + 1) (2 ^ 64 - 1) ≡ e = ap (λ (s : Standing). min (s.made + 1) (2 ^ 64 - 1)) (g.standings n i) in
    subst (λ z. Agree (with_answer_at (has_made (has_made v n i e) m j e) n c e (at (has_made (has_made v n i e) m j e).nodes n))
    (with_answer_at (has_made (has_made u n i z) m j z) n c z (at (has_made (has_made u n i z) m j z).nodes n))) (sym same)
    (answer_put n c e (has_made (has_made v n i e) m j e) (has_made (has_made u n i e) m j e)
    (made_put m j e (has_made v n i e) (has_made u n i e) (made_put n i e v u g)))

enters_put : (n i e f : ℕ) → e ≡ f → (v u : World) → Agree v u → Agree (enters_epoch v n i e) (enters_epoch u n i f)
unfolding enters_epoch
enters_put n i e f same v u g =
    subst (λ z. Agree (with_standing v n i (record (standing_of v n i) { epoch = e; lost = None })) (with_standing u n i (record (standing_of u n i) { epoch = z; lost = None }))) same
    (subst (λ (s : Standing). Agree (with_standing v n i (record (standing_of v n i) { epoch = e; lost = None })) (with_standing u n i (record s { epoch = e; lost = None }))) (sym (g.standings n i))
    (standing_put n i (record (standing_of v n i) { epoch = e; lost = None }) v u g))

pub moved_agrees : (n : ℕ) (m : Move) (v u : World) → Agree v u → Agree (moved n v m) (moved n u m)
unfolding moved
moved_agrees n (move.Added m) v u g = agree_on _ u _ (agree_on _ v u (agree_back v _ (born_agrees v n m.session)) g) (born_agrees u n m.session)
moved_agrees n (move.Replied m) v u g =
    agree_on _ u _ (agree_on _ v u (agree_back v _ (birth_agrees v n m.session (birth_of v (node_of m.peer) m.remote))) g)
    (birth_agrees u n m.session (birth_of u (node_of m.peer) m.remote))
moved_agrees n (move.Froze m) v u g = makes_put n m.tunnel (node_of m.peer) m.remote m.answer v u g
moved_agrees n (move.ResetAttempting m) v u g =
    enters_put n m.tunnel (answer_in (at v.nodes (node_of m.peer)) m.answer) (answer_in (at u.nodes (node_of m.peer)) m.answer) (sym (g.makes_as (node_of m.peer) m.answer)) v u g
moved_agrees n (move.ResetAnswering m) v u g =
    enters_put n m.tunnel (answer_in (at v.nodes n) m.answer) (answer_in (at u.nodes n) m.answer) (sym (g.makes_as n m.answer)) v u g
moved_agrees n m v u g = g

-- ---- epochs

-- what is counted of an answer changes no standing
answer_standing : (w : World) (n c e m j : ℕ) → standing_of (with_answer_at w n c e (at w.nodes n)) m j ≡ standing_of w m j
answer_standing w n c e m j = by (at w.nodes n) refl
  where
    by : (o : Option Node) → at w.nodes n ≡ o → standing_of (with_answer_at w n c e o) m j ≡ standing_of w m j
    by None none = refl
    by (Some node) there = put_standing w n node (record node { answers = put node.answers c e }) there m j
        (⊎_elim (λ (same : m ≡ n). inr (same, refl)) (λ (o : m ≡ n → ⊥). inl o) (same_or_not m n))

makes_epochs : (w : World) (n i m j c p q : ℕ) → epoch_of (makes_epoch w n i m j c) p q ≡ epoch_of w p q
unfolding makes_epoch
makes_epochs w n i m j c p q =
    let e = min ((standing_of w n i).made + 1) (2 ^ 64 - 1) in
    ap (λ (s : Standing). s.epoch) (answer_standing (has_made (has_made w n i e) m j e) n c e p q)
    ∙ ((has_made_only (has_made w n i e) m j e).epochs p q ∙ (has_made_only w n i e).epochs p q)

enters_other : (w : World) (n k e i : ℕ) → (k ≡ i → ⊥) → epoch_of (enters_epoch w n k e) n i ≡ epoch_of w n i
unfolding enters_epoch with_standing
enters_other w n k e i apart = by (at w.nodes n) refl
  where
    by : (o : Option Node) → at w.nodes n ≡ o → epoch_of (with_standing_at w n k (record (standing_of w n k) { epoch = e; lost = None }) o) n i ≡ epoch_of w n i
    by None none = refl
    by (Some node) there =
        ap (λ (s : Standing). s.epoch) (other_put n k (record (standing_of w n k) { epoch = e; lost = None }) w node there n i (λ q. apart (sym q.1)))

-- ---- packets

standing_packets : (w : World) (n i : ℕ) (s : Standing) → (with_standing w n i s).packets ≡ w.packets
unfolding with_standing
standing_packets w n i s = by (at w.nodes n)
  where
    by : (o : Option Node) → (with_standing_at w n i s o).packets ≡ w.packets
    by None = refl
    by (Some node) = refl

answer_packets : (w : World) (n c e : ℕ) (o : Option Node) → (with_answer_at w n c e o).packets ≡ w.packets
answer_packets w n c e None = refl
answer_packets w n c e (Some node) = refl

makes_packets : (w : World) (n i m j c : ℕ) → (makes_epoch w n i m j c).packets ≡ w.packets
unfolding makes_epoch
makes_packets w n i m j c =
    let e = min ((standing_of w n i).made + 1) (2 ^ 64 - 1) in
    let v = has_made w n i e in
    let u = has_made v m j e in
    answer_packets u n c e (at u.nodes n)
    ∙ (standing_packets v m j (record (standing_of v m j) { made = e }) ∙ standing_packets w n i (record (standing_of w n i) { made = e }))

enters_packets : (w : World) (n i e : ℕ) → (enters_epoch w n i e).packets ≡ w.packets
unfolding enters_epoch
enters_packets w n i e = standing_packets w n i (record (standing_of w n i) { epoch = e; lost = None })

pub moved_packets : (n : ℕ) (m : Move) (w : World) → (moved n w m).packets ≡ w.packets
unfolding moved
moved_packets n (move.Added m) w = (born_agrees w n m.session).packets
moved_packets n (move.Replied m) w = (birth_agrees w n m.session (birth_of w (node_of m.peer) m.remote)).packets
moved_packets n (move.Froze m) w = makes_packets w n m.tunnel (node_of m.peer) m.remote m.answer
moved_packets n (move.ResetAttempting m) w = enters_packets w n m.tunnel (answer_in (at w.nodes (node_of m.peer)) m.answer)
moved_packets n (move.ResetAnswering m) w = enters_packets w n m.tunnel (answer_in (at w.nodes n) m.answer)
moved_packets n m w = refl

-- a tunnel is in its epoch until it is reset
pub moved_epoch : (n : ℕ) (m : Move) (w : World) (i : ℕ) → (IsReset m → about m ≡ i → ⊥) → epoch_of (moved n w m) n i ≡ epoch_of w n i
unfolding moved
moved_epoch n (move.Added m) w i never = ap (λ (s : Standing). s.epoch) ((born_agrees w n m.session).standings n i)
moved_epoch n (move.Replied m) w i never = ap (λ (s : Standing). s.epoch) ((birth_agrees w n m.session (birth_of w (node_of m.peer) m.remote)).standings n i)
moved_epoch n (move.Froze m) w i never = makes_epochs w n m.tunnel (node_of m.peer) m.remote m.answer n i
moved_epoch n (move.ResetAttempting m) w i never = enters_other w n m.tunnel (answer_in (at w.nodes (node_of m.peer)) m.answer) i (λ same. never tt same)
moved_epoch n (move.ResetAnswering m) w i never = enters_other w n m.tunnel (answer_in (at w.nodes n) m.answer) i (λ same. never tt same)
moved_epoch n m w i never = refl

-- so it is along a chain
pub chain_epoch : (n moment : ℕ) (ev : Event) (e x : End) (ms : List Move) → AllByRecursion IsOfNoStart ms → Chain moment ev e ms x
    → ((y : End) (made rest : List Move) → ms ≡ made ++ rest → Chain moment ev e made y → Ascends y.tunnels)
    → (i : ℕ) → StaysSo e ev i → (w : World) → epoch_of (moved_all n ms w) n i ≡ epoch_of w n i
unfolding moved_all
chain_epoch n moment ev e x [] starts chain order i stays w = refl
chain_epoch n moment ev e x (m ∷ ms) starts chain order i stays w =
    let first = order e [] (m ∷ ms) refl refl in
    chain_epoch n moment ev chain.0 x ms starts.1 chain.2
    (λ y made rest is comes. order y (m ∷ made) rest (ap (λ l. m ∷ l) is) (chain.0, chain.1, comes))
    i (stays_so e chain.0 moment ev m starts.0 first chain.1 i stays) (moved n w m)
    ∙ moved_epoch n m w i (never_reset e chain.0 moment ev m chain.1 i stays)
