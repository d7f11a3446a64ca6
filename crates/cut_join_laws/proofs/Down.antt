-- The world that a step, or a start, leaves which a stop cut off: its node is down, with the records before the stop, and nothing was done.
use Rattle.std.proofs.Common.{◌≡◌, ℕ, ap, ◌∙◌, Some}
use Rattle.id_table.specs.Ids.{at, put}
use Rattle.id_table.specs.Order.{at_new}
use Rattle.world_model.specs.World.{World, Node, Lined, block_of, fallen, cut_line}
use Rattle.channel_laws.specs.Accounts.{History, history_from}
use Rattle.channel_laws.specs.Lines.{CutStep}

module _ (w : World) (number : ℕ) (x : Lined) (s : CutStep w number x) where
  -- the node that fell
  abbrev pub new : Node
  new = fallen (block_of s.node number) s.found.end s.found s.checkpoint

  pub nodes_are : x.world.nodes ≡ put w.nodes s.node new
  unfolding cut_line
  nodes_are = ap (λ (v : World). v.nodes) s.world ∙ ap (λ l. put l s.node new) s.same.nodes

  pub born_is : x.world.born ≡ w.born
  unfolding cut_line
  born_is = ap (λ (v : World). v.born) s.world ∙ s.same.born

  pub there : at x.world.nodes s.node ≡ Some new
  there = ap (λ l. at l s.node) nodes_are ∙ at_new w.nodes s.node new

  pub nothing_done : (h : History) → history_from x.done h ≡ h
  unfolding history_from
  nothing_done h = ap (λ ds. history_from ds h) s.done
