-- How many calls are born in a move, and how many epochs are made: no more than ids are drawn.
use Rattle.std.proofs.Common.{◌≡◌, ◌⊎◌, inl, inr, ⊎_elim, ℕ, ◌+◌, ◌-◌, ◌^◌, ◌≤◌, refl, sym, ap, ap₂, ◌∙◌, subst, Option, Some, None, arith}
use Rattle.std.specs.Prelude.{min, unwrap_or, Result, Ok, Err}
use Rattle.id_source.specs.declared.IdError.{IdError}
use Rattle.id_source.specs.Spaces.{Space, takes_id, with_taken, after_id, draw_is, next_is}
use Rattle.id_table.specs.Ids.{at, put}
use Rattle.id_table.specs.Order.{at_new, at_other, same_or_not}
use Rattle.end_names.specs.Names.{node_of}
use Rattle.end_model.specs.declared.event.Event.{Event}
use Rattle.end_model.specs.declared.moves.Move.{Move}
use Rattle.end_model.specs.declared.moves.Move.TheVariants as move
use Rattle.end_model.specs.End.{End}
use Rattle.world_model.specs.declared.standing.Standing.{Standing}
use Rattle.world_model.specs.World.{World, Node, no_standing, birth_of, standing_in, standing_of, answer_in, with_node, with_birth}
use Rattle.world_model.specs.World.{with_birth_at, is_born, with_standing, with_standing_at, with_answer_at, has_made, makes_epoch}
use Rattle.world_model.specs.World.{enters_epoch, moved}
use Rattle.step_laws.specs.Moves.{Does}
use Rattle.book_laws.proofs.Steps.{Draws, does_draw}
use Rattle.channel_laws.proofs.Making.{has_made_only}
use Rattle.channel_laws.proofs.Agreeing.{put_standing}

-- ---- ids

drawn_next : (s : Space) (r : Result ℕ IdError) → takes_id s ≡ r → s.next ≤ (with_taken r s).next
drawn_next s (Ok k) is = let same = (draw_is s k is).0 in omega (arith, same)
drawn_next s (Err x) is = omega arith

pub not_less : (e x : Space) → (x ≡ e) ⊎ (x ≡ after_id e) → e.next ≤ x.next
not_less e x (inl same) = subst (λ (s : Space). e.next ≤ s.next) (sym same) (omega arith)
not_less e x (inr after) = subst (λ (s : Space). e.next ≤ s.next) (sym after) (drawn_next e (takes_id e) refl)

one_more : (s : Space) (k : ℕ) → takes_id s ≡ Ok k → s.next + 1 ≤ (after_id s).next
one_more s k is =
    let same = (draw_is s k is).0 in
    let after = ap (λ (x : Space). x.next) (next_is s k is) in
    omega (arith, same, after)

-- ---- births

birth_born : (w : World) (n s b : ℕ) → (with_birth w n s b).born ≡ w.born
unfolding with_birth
birth_born w n s b = by (at w.nodes n)
  where
    by : (o : Option Node) → (with_birth_at w n s b o).born ≡ w.born
    by None = refl
    by (Some node) = refl

standing_born : (w : World) (n i : ℕ) (s : Standing) → (with_standing w n i s).born ≡ w.born
unfolding with_standing
standing_born w n i s = by (at w.nodes n)
  where
    by : (o : Option Node) → (with_standing_at w n i s o).born ≡ w.born
    by None = refl
    by (Some node) = refl

enters_born : (w : World) (n i e : ℕ) → (enters_epoch w n i e).born ≡ w.born
unfolding enters_epoch
enters_born w n i e = standing_born w n i (record (standing_of w n i) { epoch = e; lost = None })

answer_born : (w : World) (n c e : ℕ) (o : Option Node) → (with_answer_at w n c e o).born ≡ w.born
answer_born w n c e None = refl
answer_born w n c e (Some node) = refl

-- ---- epochs

-- a birth makes no epoch
pub birth_standing : (w : World) (n s b q j : ℕ) → standing_of (with_birth w n s b) q j ≡ standing_of w q j
unfolding with_birth
birth_standing w n s b q j = by (at w.nodes n) refl
  where
    by : (o : Option Node) → at w.nodes n ≡ o → standing_of (with_birth_at w n s b o) q j ≡ standing_of w q j
    by None none = refl
    by (Some node) there =
        put_standing w n node (record node { births = put node.births s b }) there q j
        (⊎_elim (λ (same : q ≡ n). inr (same, refl)) (λ (o : q ≡ n → ⊥). inl o) (same_or_not q n))

pub born_standing : (w : World) (b q j : ℕ) → standing_of (record w { born = b }) q j ≡ standing_of w q j
unfolding standing_of
born_standing w b q j = refl

answer_standing : (w : World) (n c e q j : ℕ) → standing_of (with_answer_at w n c e (at w.nodes n)) q j ≡ standing_of w q j
answer_standing w n c e q j = by (at w.nodes n) refl
  where
    by : (o : Option Node) → at w.nodes n ≡ o → standing_of (with_answer_at w n c e o) q j ≡ standing_of w q j
    by None none = refl
    by (Some node) there =
        put_standing w n node (record node { answers = put node.answers c e }) there q j
        (⊎_elim (λ (same : q ≡ n). inr (same, refl)) (λ (o : q ≡ n → ⊥). inl o) (same_or_not q n))

made_below : (w : World) (n i e top : ℕ) → ((q j : ℕ) → (standing_of w q j).made ≤ top) → e ≤ top
    → (q j : ℕ) → (standing_of (has_made w n i e) q j).made ≤ top
made_below w n i e top all le q j = ⊎_elim
    (λ same. (let b = all q j in omega (arith, b, same)))
    (λ p. (let is = p.2 in omega (arith, is, le)))
    ((has_made_only w n i e).made q j)

-- a standing is put with as many epochs as it had
standing_made : (w : World) (n i : ℕ) (s : Standing) (q j : ℕ) → s.made ≡ (standing_of w n i).made
    → (standing_of (with_standing w n i s) q j).made ≡ (standing_of w q j).made
unfolding with_standing standing_of
standing_made w n i s q j same = by (at w.nodes n) refl
  where
    by : (o : Option Node) → at w.nodes n ≡ o → (standing_of (with_standing_at w n i s o) q j).made ≡ (standing_of w q j).made
    by None none = refl
    by (Some node) there = ⊎_elim
        (λ (p : q ≡ n). ⊎_elim (λ (r : j ≡ i). own p r) (λ (apart : j ≡ i → ⊥). other p apart) (same_or_not j i))
        (λ (o : q ≡ n → ⊥). ap (λ (x : Standing). x.made) (put_standing w n node new there q j (inl o)))
        (same_or_not q n)
      where
        new : Node
        new = record node { standings = put node.standings i s }

        here : (standing_of (with_node w n new) n i).made ≡ s.made
        here =
            ap (λ o. (standing_in o i).made) (at_new w.nodes n new)
            ∙ ap (λ (o : Option Standing). (unwrap_or o no_standing).made) (at_new node.standings i s)

        own : q ≡ n → j ≡ i → (standing_of (with_node w n new) q j).made ≡ (standing_of w q j).made
        own p r =
            ap₂ (λ x y. (standing_of (with_node w n new) x y).made) p r
            ∙ (here ∙ (same ∙ ap₂ (λ x y. (standing_of w x y).made) (sym p) (sym r)))

        other : q ≡ n → (j ≡ i → ⊥) → (standing_of (with_node w n new) q j).made ≡ (standing_of w q j).made
        other p apart =
            ap (λ (x : Standing). x.made)
            (put_standing w n node new there q j
            (inr (p, ap (λ (o : Option Standing). unwrap_or o no_standing) (at_other node.standings i s j apart))))

pub enters_made : (w : World) (n i e q j : ℕ) → (standing_of (enters_epoch w n i e) q j).made ≡ (standing_of w q j).made
unfolding enters_epoch
enters_made w n i e q j = standing_made w n i (record (standing_of w n i) { epoch = e; lost = None }) q j refl

-- ---- a move

-- of a node with such ends before and after it
pub record CountsOn (w v : World) (e x : End) (top : ℕ) : Type 0 where
  pub born : w.born ≤ top + e.session_ids.next → v.born ≤ top + x.session_ids.next
  pub made : ((q j : ℕ) → (standing_of w q j).made ≤ top + e.tunnel_ids.next) → (q j : ℕ)
      → (standing_of v q j).made ≤ top + x.tunnel_ids.next

module _ (e x : End) (moment : ℕ) (ev : Event) (m : Move) (does : Does e moment ev m x) (w : World) (n top : ℕ) where
  draws : Draws e x
  draws = does_draw e x moment ev m does

  sessions : e.session_ids.next ≤ x.session_ids.next
  sessions = not_less e.session_ids x.session_ids draws.sessions

  tunnels : e.tunnel_ids.next ≤ x.tunnel_ids.next
  tunnels = not_less e.tunnel_ids x.tunnel_ids draws.tunnels

  plain : (v : World) → v.born ≡ w.born → ((q j : ℕ) → (standing_of v q j).made ≡ (standing_of w q j).made) → CountsOn w v e x top
  plain v born made = record {
    born = λ le. (let more = sessions in omega (arith, le, born, more));
    made = λ all q j. (let le = all q j in let same = made q j in let more = tunnels in omega (arith, le, same, more));
  }

pub counts_on : (e x : End) (moment : ℕ) (ev : Event) (m : Move) → Does e moment ev m x → (w : World) (n top : ℕ)
    → CountsOn w (moved n w m) e x top
unfolding moved is_born makes_epoch
counts_on e x moment ev (move.Added m) h w n top =
    let b = min (w.born + 1) (2 ^ 64 - 1) in
    let v = record w { born = b } in
    record {
      born = λ le.
          (let more = one_more e.session_ids m.session h.drawn in
          let after = ap (λ (y : End). y.session_ids.next) h.after in
          let is = birth_born v n m.session b in
          omega (arith, le, more, after, is));
      made = λ all q j.
          (let le = all q j in
          let same : (standing_of (with_birth v n m.session b) q j).made ≡ (standing_of w q j).made =
          ap (λ (s : Standing). s.made) (birth_standing v n m.session b q j ∙ born_standing w b q j) in
          let more = tunnels e x moment ev (move.Added m) h w n top in
          omega (arith, le, same, more));
    }
counts_on e x moment ev (move.Replied m) h w n top =
    plain e x moment ev (move.Replied m) h w n top (moved n w (move.Replied m)) (birth_born w n m.session (birth_of w
    (node_of m.peer) m.remote))
    (λ q j. ap (λ (s : Standing). s.made) (birth_standing w n m.session (birth_of w (node_of m.peer) m.remote) q j))
counts_on e x moment ev (move.Froze m) h w n top =
    let c = min ((standing_of w n m.tunnel).made + 1) (2 ^ 64 - 1) in
    let u = has_made w n m.tunnel c in
    let v = has_made u (node_of m.peer) m.remote c in
    let more = one_more e.tunnel_ids m.answer h.local in
    let after = ap (λ (y : End). y.tunnel_ids.next) h.after in
    record {
      born = λ le.
          (let up = sessions e x moment ev (move.Froze m) h w n top in
          let one = standing_born w n m.tunnel (record (standing_of w n m.tunnel) { made = c }) in
          let two = standing_born u (node_of m.peer) m.remote (record (standing_of u (node_of m.peer) m.remote) { made = c }) in
          let three = answer_born v n m.answer c (at v.nodes n) in
          omega (arith, le, up, one, two, three));
      made = λ all q j.
          (let first = all n m.tunnel in
          let most : c ≤ top + x.tunnel_ids.next = omega (arith, first, more, after) in
          let less : (p i : ℕ) → (standing_of w p i).made ≤ top + x.tunnel_ids.next =
          (λ p i. (let le = all p i in omega (arith, le, more, after))) in
          let le = made_below u (node_of m.peer) m.remote c (top + x.tunnel_ids.next)
          (made_below w n m.tunnel c (top + x.tunnel_ids.next) less most) most q j in
          let same = ap (λ (s : Standing). s.made) (answer_standing v n m.answer c q j) in
          omega (arith, le, same));
    }
counts_on e x moment ev (move.ResetAttempting m) h w n top =
    let epoch = answer_in (at w.nodes (node_of m.peer)) m.answer in
    plain e x moment ev (move.ResetAttempting m) h w n top (enters_epoch w n m.tunnel epoch) (enters_born w n m.tunnel epoch)
    (enters_made w n m.tunnel epoch)
counts_on e x moment ev (move.ResetAnswering m) h w n top =
    let epoch = answer_in (at w.nodes n) m.answer in
    plain e x moment ev (move.ResetAnswering m) h w n top (enters_epoch w n m.tunnel epoch) (enters_born w n m.tunnel epoch)
    (enters_made w n m.tunnel epoch)
counts_on e x moment ev m h w n top = plain e x moment ev m h w n top (moved n w m) refl (λ q j. refl)
