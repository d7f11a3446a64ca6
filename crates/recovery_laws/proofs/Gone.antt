-- What a line tells as gone: by the laws of a step, and of a start over a book that fits together.
use Rattle.std.proofs.Common.{◌≡◌, ◌⊎◌, inl, inr, ℕ, zero, suc, List, [], ◌∷◌, sym, ap, ◌∙◌, subst, Some, None, arith}
use Rattle.std.specs.Prelude.{All, AllPairs}
use Rattle.std.specs.List.{AllByRecursion}
use Rattle.id_table.specs.Ids.{at}
use Rattle.end_model.specs.Secrets.{uncovered_event}
use Rattle.end_model.specs.End.{End, Stepped, step}
use Rattle.end_model.specs.Starting.{starts}
use Rattle.world_model.specs.World.{World, Node, Lined, block_of}
use Rattle.book_laws.specs.Starts.{AreOnce, StartsAreBooked}
use Rattle.node_laws.specs.Nodes.{HoldsNode, NodesOfRuns}
use Rattle.step_laws.specs.Gone.{gone_in, GoesOnce, CallsGoOnce}
use Rattle.step_laws.specs.Letters.{Among}
use Rattle.channel_laws.specs.Lines.{gone_told, of_node, WholeStep, WholeStart, LineDoes, Nothing, ANode, Arms, Falls, Steps, Cuts, Starts, LinesDo}
use Rattle.channel_laws.proofs.Lines.{gone_after}
use Rattle.recovery_laws.specs.Gone.{GoOnce, SessionsGoOnce}

none_again : (q : ℕ) (qs : List ℕ) → AllByRecursion (λ r. q ≡ r → ⊥) qs → Among q qs → ⊥
none_again q [] all among = among
none_again q (r ∷ qs) all (inl e) = all.0 (sym e)
none_again q (r ∷ qs) all (inr more) = none_again q qs all.1 more

by_recursion : (P : ℕ → Type 0) (xs : List ℕ) → All P xs → AllByRecursion P xs
by_recursion P [] all = tt
by_recursion P (x ∷ xs) all = (all 0 x (omega arith), by_recursion P xs (λ k d inside. all (suc k) d (omega arith)))

are_once : (qs : List ℕ) → AllPairs (λ before after. before ≡ after → ⊥) qs → AreOnce qs
are_once [] pairs = tt
are_once (q ∷ qs) pairs = (
  λ among. none_again q qs (by_recursion (λ r. q ≡ r → ⊥) qs (λ k d inside. pairs zero (suc k) d (omega arith) (omega arith))) among,
  are_once qs (λ i j d lt inside. pairs (suc i) (suc j) d (omega arith) (omega arith)),
)

none_told : (w : World) (x : Lined) → gone_told x.entries ≡ [] → GoOnce w x
none_told w x none = record { node = 0; sessions = []; told = none; once = tt; had = λ q among. absurd among }

module _ (once : CallsGoOnce) (starting : StartsAreBooked) (w : World) (nodes : (n : ℕ) (node : Node) → at w.nodes n ≡ Some node → HoldsNode node)
    (number : ℕ) (x : Lined) where
  of_step : WholeStep w number x → GoOnce w x
  of_step k = by k.told
    where
      s : Stepped
      s = step k.found.end k.found.clock (block_of k.node number) k.event

      goes : GoesOnce k.old.end s
      goes =
          let u = (nodes k.node k.old k.was).up k.up in
          subst (λ (e : End). GoesOnce k.old.end (step e k.found.clock (block_of k.node number) k.event)) (sym k.finds.end)
          (once k.old.end u.kept u.looks k.found.clock (block_of k.node number) (uncovered_event k.old.end.config.secret k.event))

      by : (gone_told x.entries ≡ of_node k.node (gone_in s.outputs)) ⊎ (gone_told x.entries ≡ []) → GoOnce w x
      by (inl told) = record {
        node = k.node;
        sessions = gone_in s.outputs;
        told = told;
        once = are_once (gone_in s.outputs) goes.once;
        had = λ q among. (k.old, k.was, inl (goes.had q among));
      }
      by (inr none) = none_told w x none

  of_start : WholeStart w number x → GoOnce w x
  of_start k =
      let h = nodes k.node k.old k.was in
      let s = starts k.old.end.role k.old.end.config k.old.checkpoint.book k.old.clock (block_of k.node number) in
      let b = starting k.old.end.role k.old.end.config k.old.checkpoint.book h.sound h.suits k.old.clock (block_of k.node number) in
      record {
        node = k.node;
        sessions = gone_in s.outputs;
        told = ap (λ (l : Lined). gone_told l.entries) k.is ∙ gone_after w number k.node _ None s;
        once = b.gone.once;
        had = λ q among. (k.old, k.was, inr (b.gone.had q among).0);
      }

  of_line : LineDoes w number x → GoOnce w x
  of_line (Nothing same hands none) = none_told w x none
  of_line (ANode n role lns secret hide lt to fresh world done none) = none_told w x none
  of_line (Arms k s world done none) = none_told w x none
  of_line (Falls k world done none) = none_told w x none
  of_line (Steps k) = of_step k
  of_line (Cuts k) = none_told w x k.told
  of_line (Starts k) = of_start k

pub sessions_go_once : CallsGoOnce → StartsAreBooked → NodesOfRuns → LinesDo → SessionsGoOnce
sessions_go_once once starting nodes does_so lines fits number l x fit h =
    of_line once starting _ (λ n node is. nodes lines fits n node is) number x (does_so _ number l x fit h)
