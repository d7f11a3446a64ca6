-- A step that is cut after a prefix of its records is where a list of moves leads.
use Rattle.std.proofs.Common.{◌≡◌, ℕ, true, List, [], ◌∷◌, ◌++◌, ap, ◌∙◌, subst}
use Rattle.epoch_machine.specs.Worlds.{World, all_rules, empty_world}
use Rattle.epoch_machine.specs.Moves.{Move, Stops, Kept, falls, step, goes_on}
use Rattle.epoch_laws.proofs.Answering.{answers_after}
use Rattle.coverage_laws.proofs.Runs.{whole_after}
use Rattle.coverage_laws.proofs.Covered.{pairs_covered, ends_agree}
use Rattle.stop_laws.specs.Records.{node_of, records_of, writes, each_allowed}
use Rattle.stop_laws.specs.Stops.{IsReached, AllHolds, StopsAmidSteps, cut}
use Rattle.stop_laws.proofs.Lists.{prefix_allowed, allowed_kept, one_more}
use Rattle.stop_laws.proofs.Ups.{never_after}
use Rattle.stop_laws.proofs.Moves.{step_book}
use Rattle.stop_laws.proofs.Allowed.{step_allowed}

abbrev at : List Move → World
at ms = goes_on all_rules empty_world ms

each_prefix : (ms : List Move) (m : Move) (ks rest : List Kept) → ks ++ rest ≡ records_of (at ms) m → each_allowed (at ms) (node_of (at ms) m) ks ≡ true
each_prefix ms m ks rest e = prefix_allowed (at ms) (node_of (at ms) m) ks rest (ap (each_allowed (at ms) (node_of (at ms) m)) e ∙ step_allowed (at ms) (whole_after ms) m)

pub stop_is_cut : (w : World) (n : ℕ) (ks : List Kept) → each_allowed w n ks ≡ true → step all_rules w (Stops n ks) ≡ falls (writes w ks) n
unfolding step
stop_is_cut w n ks h = ap (λ (v : World). falls v n) (allowed_kept w n ks w h)

-- what is allowed is reached by a stop
pub by_stop : (ms : List Move) (n : ℕ) (ks : List Kept) → each_allowed (at ms) n ks ≡ true → IsReached (falls (writes (at ms) ks) n)
by_stop ms n ks h = record { moves = ms ++ Stops n ks ∷ []; reached = one_more all_rules ms (Stops n ks) empty_world ∙ stop_is_cut (at ms) n ks h }

reached : (ms : List Move) (m : Move) (ks rest : List Kept) → ks ++ rest ≡ records_of (at ms) m → IsReached (cut (at ms) m ks)
reached ms m ks rest e = by_stop ms (node_of (at ms) m) ks (each_prefix ms m ks rest e)

-- all holds where a list of moves leads
pub holds_at : (ms : List Move) → AllHolds (at ms)
holds_at ms =
    let h = whole_after ms in
    record {
      epochs = h.sound.epochs;
      answers = answers_after all_rules ms;
      letters = h.sound.given;
      births = h.sound.calls;
      meanings = h.sound.meant;
      states = h.states;
      queries = h.queries;
      pairs_covered = pairs_covered (at ms) h;
      ends_agree = ends_agree (at ms) h;
    }

pub stops_amid_steps : StopsAmidSteps
stops_amid_steps = record {
  same_book = λ ms m. step_book (at ms) (whole_after ms) (never_after ms) m;
  allowed = each_prefix;
  is_stop = λ ms m ks rest e. stop_is_cut (at ms) (node_of (at ms) m) ks (each_prefix ms m ks rest e);
  is_reached = reached;
  keeps_all = λ ms m ks rest e. (let r = reached ms m ks rest e in subst (λ (w : World). AllHolds w) r.reached (holds_at r.moves));
}
