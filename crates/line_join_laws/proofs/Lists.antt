-- Lists of the machine's moves that a node makes in a step.
use Rattle.std.proofs.Common.{◌≡◌, ℕ, List, [], ◌∷◌, ◌++◌, refl}
use Rattle.end_model.specs.declared.event.Event.{Event}
use Rattle.epoch_machine.specs.Worlds as machine
use Rattle.epoch_machine.specs.Worlds.{all_rules}
use Rattle.epoch_machine.specs.Moves as moves
use Rattle.epoch_machine.specs.Moves.{step, goes_on}
use Rattle.join_laws.specs.Steps.{AreOf}
use Rattle.join_laws.specs.Hearing.{AreHeard}

-- one list after another
pub goes_both : (m : machine.World) (js ks : List moves.Move) → goes_on all_rules m (js ++ ks) ≡ goes_on all_rules
    (goes_on all_rules m js) ks
unfolding goes_on
goes_both m [] ks = refl
goes_both m (j ∷ js) ks = goes_both (step all_rules m j) js ks

pub of_both : (n : ℕ) (m : machine.World) (js ks : List moves.Move) → AreOf n m js → AreOf n (goes_on all_rules m js) ks
    → AreOf n m (js ++ ks)
unfolding goes_on
of_both n m [] ks own more = more
of_both n m (j ∷ js) ks own more = (own.0, own.1, of_both n (step all_rules m j) js ks own.2 more)

pub heard_both : (ev : Event) (m : machine.World) (js ks : List moves.Move) → AreHeard ev m js → AreHeard ev (goes_on all_rules m js) ks
    → AreHeard ev m (js ++ ks)
unfolding goes_on
heard_both ev m [] ks all more = more
heard_both ev m (j ∷ js) ks all more = (all.0, heard_both ev (step all_rules m j) js ks all.1 more)
