-- What a stop leaves of a node is a node that fell, over the book that its records make.
use Rattle.std.proofs.Common.{◌≡◌, ℕ, ◌≤◌, List, refl, ap, ◌∙◌, arith}
use Rattle.std.specs.Prelude.{unwrap_or}
use Rattle.id_table.specs.Ids.{at, ids_of}
use Rattle.world_model.specs.declared.standing.Standing.{Standing}
use Rattle.world_model.specs.World.{Node, Checkpoint, no_standing, fallen}
use Rattle.node_laws.specs.Nodes.{HoldsUp}
use Rattle.channel_laws.specs.Lines.{Finds}
use Rattle.channel_laws.proofs.Resting.{after_loss}
use Rattle.line_join_laws.specs.Falls.{HasFallen}

module _ (block : List ℕ) (old found : Node) (finds : Finds old found) (up : HoldsUp old) (k : Checkpoint)
    (rises : old.checkpoint.book.session_ceiling ≤ k.book.session_ceiling) where
  -- found later, it has the standings that it had
  standing_was : (i : ℕ) → unwrap_or (at found.standings i) no_standing ≡ unwrap_or (at old.standings i) no_standing
  standing_was i = ap (λ xs. unwrap_or (at xs i) no_standing) finds.standings

  pub has_fallen : HasFallen old (fallen block found.end found k) k.book
  unfolding fallen
  has_fallen = record {
    tunnels = refl;
    up = refl;
    book = refl;
    next =
        (let drawn = up.fit.session_ids.drawn in
        let same = up.book.session_ceiling in
        let more = rises in
        omega (arith, drawn, same, more));
    births = λ s. ap (λ xs. unwrap_or (at xs s) 0) finds.births;
    epochs = λ i.
        (after_loss found.end i (ids_of found.end.tunnels) found.standings).0 ∙ ap (λ (x : Standing). x.epoch) (standing_was i);
    made = λ i.
        (after_loss found.end i (ids_of found.end.tunnels) found.standings).1.0 ∙ ap (λ (x : Standing). x.made) (standing_was i);
    answers = λ c. ap (λ xs. unwrap_or (at xs c) 0) finds.answers;
  }
