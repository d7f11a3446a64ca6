-- What holds of births holds after every run.
use Rattle.std.proofs.Common.{◌≡◌, true, List, [], ◌∷◌, refl, arith}
use Rattle.epoch_machine.specs.Worlds.{World, Rules, all_rules, empty_world}
use Rattle.epoch_machine.specs.Moves.{Move, step, goes_on}
use Rattle.epoch_machine.proofs.Did.{step_did}
use Rattle.epoch_laws.specs.Epochs.{EpochsHold}
use Rattle.epoch_laws.proofs.Steps.{step_ok as epochs_step, empty_ok as epochs_empty}
use Rattle.epoch_laws.proofs.Growth.{did_grow}
use Rattle.letter_laws.specs.Letters.{LettersHold}
use Rattle.letter_laws.proofs.Steps.{did_ok as letters_step}
use Rattle.letter_laws.proofs.Next.{letters_empty}
use Rattle.birth_laws.specs.Births.{CallsHold, LettersMean, BirthsOfRuns}
use Rattle.birth_laws.proofs.Steps.{Goes}
use Rattle.birth_laws.proofs.Goings.{did_goes}

-- all that holds so far
pub record Sound (w : World) : Type 0 where
  pub epochs : EpochsHold w.tunnels
  pub given : LettersHold w.tunnels w.channels
  pub calls : CallsHold w.tunnels w.calls
  pub meant : LettersMean w.tunnels w.channels w.calls

pub step_goes : (r : Rules) (w : World) (m : Move) → r.reads_epochs ≡ true → Sound w → Goes w.calls (step r w m).tunnels (step r w m).channels (step r w m).calls
step_goes r w m reads s = did_goes r w (step r w m) reads (step_did r w m) s.epochs s.given s.calls s.meant (did_grow r w (step r w m) (step_did r w m) s.epochs)

pub sound_step : (r : Rules) (w : World) (m : Move) → r.reads_epochs ≡ true → Sound w → Sound (step r w m)
sound_step r w m reads s = let g = step_goes r w m reads s in record {
  epochs = epochs_step r w m s.epochs;
  given = letters_step r w (step r w m) reads (step_did r w m) s.epochs s.given;
  calls = g.calls;
  meant = g.letters;
}

calls_empty : CallsHold empty_world.tunnels empty_world.calls
calls_empty = record {
  zero = refl;
  nameless = λ z h. record { state = refl; remote = refl; booked = refl; mate = refl; made = refl; up = refl; over = refl };
  tunnel_drawn = grind arith;
  mate_drawn = grind arith;
  waits = grind arith;
  waits_reply = grind arith;
  waits_connect = grind arith;
  up_booked = grind arith;
  booked_up = grind arith;
  up_stays = grind arith;
  up_remote = grind arith;
  up_made = grind arith;
  over_gone = grind arith;
  gone_over = grind arith;
  remote_mates = grind arith;
  mate_remote = grind arith;
  mate_once = grind arith;
  mate_asks = grind arith;
  mate_birth = grind arith;
  mate_made = grind arith;
  mate_linked = grind arith;
  held_call = grind arith;
  born = grind arith;
  born_some = grind arith;
  birth_once = grind arith;
}

pub sound_empty : Sound empty_world
sound_empty = record {
  epochs = epochs_empty;
  given = letters_empty;
  calls = calls_empty;
  meant = record {
    means = λ x e k l h. absurd cc;
    request_once = λ x e j k z h g. absurd cc;
    mate_taken = λ y e h. absurd (h refl);
    refused = λ u e k z h. absurd cc;
    asks_held = λ x z h. absurd cc;
  };
}

pub sound_run : (r : Rules) (ms : List Move) (w : World) → r.reads_epochs ≡ true → Sound w → Sound (goes_on r w ms)
unfolding goes_on
sound_run r [] w reads s = s
sound_run r (m ∷ ms) w reads s = sound_run r ms (step r w m) reads (sound_step r w m reads s)

pub sound_after : (ms : List Move) → Sound (goes_on all_rules empty_world ms)
sound_after ms = sound_run all_rules ms empty_world refl sound_empty

pub of_runs : BirthsOfRuns
of_runs = record {
  calls = λ ms. (sound_after ms).calls;
  letters = λ ms. (sound_after ms).meant;
  one_mate = λ ms. let c = (sound_after ms).calls in record { once = c.mate_once; birth = c.mate_birth; other_births = c.birth_once; knows = c.remote_mates };
}
