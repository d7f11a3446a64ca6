-- The command is simple, and no argument has a rule on another.
use Rattle.std.proofs.Common.{◌≡◌, refl, true}
use Rattle.clap.specs.Words.{is_simple, is_simple_and_free}
use Rattle.node_words.specs.Options.{plan_app}

pub plan_is_simple : is_simple plan_app ≡ true
unfolding plan_app
plan_is_simple = refl

pub plan_is_free : is_simple_and_free plan_app ≡ true
unfolding plan_app
plan_is_free = refl
