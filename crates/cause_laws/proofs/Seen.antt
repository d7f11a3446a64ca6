-- What a step leaves of the nodes of a world, whatever births, standings and answers they have.
use Rattle.std.proofs.Common.{◌≡◌, ⊎_elim, ℕ, ◌+◌, ◌-◌, ◌^◌, List, [], ◌∷◌, refl, ap, ◌∙◌, Option, Some, None}
use Rattle.std.specs.Prelude.{min, option_map}
use Rattle.id_table.specs.Ids.{at, put}
use Rattle.id_table.specs.Order.{at_new, at_other, same_or_not}
use Rattle.end_model.specs.declared.moves.Move.{Move}
use Rattle.end_model.specs.declared.moves.Move.TheVariants as move
use Rattle.end_model.specs.End.{Stepped}
use Rattle.end_names.specs.Names.{node_of}
use Rattle.end_model.specs.declared.out.Out.{Out}
use Rattle.end_model.specs.declared.out.Out.TheVariants.{Send, Up, Gone, Drop, Cause}
use Rattle.world_model.specs.declared.standing.Standing.{Standing}
use Rattle.world_model.specs.World.{World, Node, Sender, with_node, with_birth_at, with_birth, is_born, standing_of, with_standing_at, with_standing, with_answer_at, answer_in, has_made, makes_epoch, enters_epoch, moved, moved_all, sent, shown, shown_all, given, after_step}

-- what is shown is nothing to the nodes
shown_nodes : (n : ℕ) (os : List Out) (w : World) → (shown_all n os w).nodes ≡ w.nodes
unfolding shown_all shown sent
shown_nodes n [] w = refl
shown_nodes n (Send peer bytes origin ∷ os) w = shown_nodes n os (sent w n (node_of peer) bytes origin)
shown_nodes n (Up session side frame ∷ os) w = shown_nodes n os w
shown_nodes n (Gone session ∷ os) w = shown_nodes n os w
shown_nodes n (Drop x ∷ os) w = shown_nodes n os w
shown_nodes n (Cause x ∷ os) w = shown_nodes n os w

module _ {X : Type 0} (see : Node → X)
    (still : (node : Node) (births : List (ℕ × ℕ)) (standings : List (ℕ × Standing)) (answers : List (ℕ × ℕ))
    → see (record node { births = births; standings = standings; answers = answers }) ≡ see node) where
  abbrev seen_at : World → ℕ → Option X
  seen_at w k = option_map see (at w.nodes k)

  abbrev Same : World → World → Type 0
  Same w v = (k : ℕ) → seen_at v k ≡ seen_at w k

  with_same : (w : World) (n : ℕ) (old new : Node) → at w.nodes n ≡ Some old → see new ≡ see old → Same w (with_node w n new)
  with_same w n old new was same k = ⊎_elim
      (λ (e : k ≡ n). rw (e, at_new w.nodes n new, was) (ap (λ x. Some x) same))
      (λ o. ap (λ x. option_map see x) (at_other w.nodes n new k o))
      (same_or_not k n)

  birth_same : (w : World) (n session birth : ℕ) → Same w (with_birth w n session birth)
  unfolding with_birth
  birth_same w n session birth = by (at w.nodes n) refl
    where
      by : (o : Option Node) → at w.nodes n ≡ o → Same w (with_birth_at w n session birth o)
      by None is = λ k. refl
      by (Some node) is =
          let births = put node.births session birth in
          with_same w n node (record node { births = births }) is (still node births node.standings node.answers)

  born_same : (w : World) (n session : ℕ) → Same w (is_born w n session)
  unfolding is_born
  born_same w n session = birth_same (record w { born = _ }) n session _

  standing_same : (w : World) (n i : ℕ) (s : Standing) → Same w (with_standing w n i s)
  unfolding with_standing
  standing_same w n i s = by (at w.nodes n) refl
    where
      by : (o : Option Node) → at w.nodes n ≡ o → Same w (with_standing_at w n i s o)
      by None is = λ k. refl
      by (Some node) is =
          let standings = put node.standings i s in
          with_same w n node (record node { standings = standings }) is (still node node.births standings node.answers)

  answer_same : (w : World) (n answer epoch : ℕ) → Same w (with_answer_at w n answer epoch (at w.nodes n))
  answer_same w n answer epoch = by (at w.nodes n) refl
    where
      by : (o : Option Node) → at w.nodes n ≡ o → Same w (with_answer_at w n answer epoch o)
      by None is = λ k. refl
      by (Some node) is =
          let answers = put node.answers answer epoch in
          with_same w n node (record node { answers = answers }) is (still node node.births node.standings answers)

  made_same : (w : World) (n i epoch : ℕ) → Same w (has_made w n i epoch)
  made_same w n i epoch = standing_same w n i (record (standing_of w n i) { made = epoch })

  epoch_same : (w : World) (n i m j answer : ℕ) → Same w (makes_epoch w n i m j answer)
  unfolding makes_epoch
  epoch_same w n i m j answer k =
      let epoch = min ((standing_of w n i).made + 1) (2 ^ 64 - 1) in
      let one = has_made w n i epoch in
      let both = has_made one m j epoch in
      answer_same both n answer epoch k ∙ made_same one m j epoch k ∙ made_same w n i epoch k

  enters_same : (w : World) (n i epoch : ℕ) → Same w (enters_epoch w n i epoch)
  unfolding enters_epoch
  enters_same w n i epoch = standing_same w n i (record (standing_of w n i) { epoch = epoch; lost = None })

  move_same : (n : ℕ) (w : World) (m : Move) → Same w (moved n w m)
  unfolding moved
  move_same n w (move.Added m) = born_same w n m.session
  move_same n w (move.Replied m) = birth_same w n m.session _
  move_same n w (move.Opened m) = λ k. refl
  move_same n w (move.Accepted m) = λ k. refl
  move_same n w (move.Connected m) = λ k. refl
  move_same n w (move.Confirmed m) = λ k. refl
  move_same n w (move.Requested m) = λ k. refl
  move_same n w (move.FirstUp m) = λ k. refl
  move_same n w (move.SecondUp m) = λ k. refl
  move_same n w (move.Refused m) = λ k. refl
  move_same n w (move.EndTold m) = λ k. refl
  move_same n w (move.EndHeard m) = λ k. refl
  move_same n w (move.EndSilent m) = λ k. refl
  move_same n w (move.Declined m) = λ k. refl
  move_same n w (move.Closed m) = λ k. refl
  move_same n w (move.Rejected m) = λ k. refl
  move_same n w (move.ClosedBy m) = λ k. refl
  move_same n w (move.Cleared i booked) = λ k. refl
  move_same n w (move.Greeted m) = λ k. refl
  move_same n w (move.TookPlain m) = λ k. refl
  move_same n w (move.NrRead m) = λ k. refl
  move_same n w (move.LetGo m) = λ k. refl
  move_same n w (move.Repeated m) = λ k. refl
  move_same n w (move.Quiet i) = λ k. refl
  move_same n w (move.Negotiated m) = λ k. refl
  move_same n w (move.Counted m) = λ k. refl
  move_same n w (move.FrameSent m) = λ k. refl
  move_same n w (move.FrameUp m) = λ k. refl
  move_same n w (move.Restored m) = λ k. refl
  move_same n w (move.Forgot m) = λ k. refl
  move_same n w (move.Froze m) = epoch_same w n m.tunnel (node_of m.peer) m.remote m.answer
  move_same n w (move.ResetAttempting m) = enters_same w n m.tunnel (answer_in (at w.nodes (node_of m.peer)) m.answer)
  move_same n w (move.ResetAnswering m) = enters_same w n m.tunnel (answer_in (at w.nodes n) m.answer)
  move_same n w (move.Queried m) = λ k. refl
  move_same n w (move.AnsweredQuery m) = λ k. refl
  move_same n w (move.TookAnswer m) = λ k. refl
  move_same n w (move.RecoveryWentOn i) = λ k. refl
  move_same n w (move.RecoveryEnded i) = λ k. refl
  move_same n w (move.Ignored i) = λ k. refl

  moves_same : (n : ℕ) (ms : List Move) (w : World) → Same w (moved_all n ms w)
  unfolding moved_all
  moves_same n [] w = λ k. refl
  moves_same n (m ∷ ms) w = λ k. moves_same n ms (moved n w m) k ∙ move_same n w m k

  -- a step leaves the node that makes it with its end
  pub stepped_seen : (w : World) (number n : ℕ) (node : Node) (sender : Option Sender) (s : Stepped)
      → option_map see (at (after_step w number n node sender s).world.nodes n) ≡ Some (see (record node { end = s.end }))
  unfolding after_step given
  stepped_seen w number n node sender s =
      let ended = record node { end = s.end } in
      let base = with_node w n ended in
      let v = moved_all n s.moves base in
      ap (λ ns. option_map see (at ns n)) (shown_nodes n s.outputs v) ∙ moves_same n s.moves base n ∙ ap (λ o. option_map see o) (at_new w.nodes n ended)

  -- and each other node as it was
  pub step_same : (w : World) (number n : ℕ) (node : Node) (sender : Option Sender) (s : Stepped)
      → Same (with_node w n (record node { end = s.end })) (after_step w number n node sender s).world
  unfolding after_step given
  step_same w number n node sender s k =
      let base = with_node w n (record node { end = s.end }) in
      ap (λ ns. option_map see (at ns k)) (shown_nodes n s.outputs (moved_all n s.moves base)) ∙ moves_same n s.moves base k
