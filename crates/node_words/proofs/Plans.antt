-- Words whose parse has a fault are no plan.
use Rattle.std.proofs.Common.{◌≡◌, ◌≢◌, ℕ, Bool, List, [], ◌∷◌, Option, Some, None, refl}
use Rattle.clap.specs.Words.{fault_of, matches_of}
use Rattle.node_words.specs.Options.{plan_app}
use Rattle.option_values.specs.Values.{◌>>=◌}
use Rattle.node_words.specs.Plans.{unless_faulty, plan_by, command_of, plan_of}

faulty : {A K : Type 0} (faults : List K) (plan : Option A) → faults ≢ [] → unless_faulty faults plan ≡ None
faulty [] plan some = absurd (some refl)
faulty (fault ∷ faults) plan some = refl

pub refused : (words : List (List ℕ)) → fault_of plan_app words ≢ [] → plan_of words ≡ None
unfolding plan_of
refused words some = go (command_of words)
  where
    go : (o : Option Bool) → (o >>= λ pool. unless_faulty (fault_of plan_app words) (plan_by pool (matches_of plan_app words))) ≡ None
    go None = refl
    go (Some pool) = faulty _ _ some
