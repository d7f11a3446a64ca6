-- What holds of a world that is joined holds of the world of each run.
use Rattle.std.proofs.Common.{ℕ, ◌+◌, ◌*◌, ◌^◌, ◌<◌, length, subst, arith}
use Rattle.world_model.specs.World.{World, epoch_of}
use Rattle.world_model.specs.Run.{run}
use Rattle.channel_laws.specs.Accounts.{History, history_of}
use Rattle.channel_laws.specs.Facts.{NodeOk}
use Rattle.channel_laws.specs.Whole.{Below}
use Rattle.recovery_laws.specs.Covered.{JoinedWorldsCover}
use Rattle.recovery_laws.specs.Epochs.{JoinedWorldsKnow, LettersOfJoined}
use Rattle.recovery_laws.specs.Same.{NumbersFit, JoinedWorldsAgree}
use Rattle.line_join_laws.specs.Chains.{IsStanding}
use Rattle.line_join_laws.specs.Lines.{CutStepsJoin}
use Rattle.line_join_laws.specs.Runs.{JoinedRunsStayBelow}
use Rattle.run_join_laws.specs.Runs.{WorldsAreJoined, RunsAgree, RunsCover, RunsKnow, RunsHear}
use Rattle.run_join_laws.proofs.Reported.{are_open, they_agree}

-- no number of a letter comes near the end of 64 bits where few letters were given
numbers_fit : (w : World) (h : History) (top most : ℕ) → IsStanding w h top → Below h most → most + 73728 < 2 ^ 64 → NumbersFit w
numbers_fit w h top most s below few n node there i t live current =
    let c = ((subst (λ o. NodeOk w h n o) there (s.holds.nodes n)).0.live i t live).channel current in
    let e = epoch_of w n i in
    let le = below n i e in
    let counted = c.counted in
    let acked = c.acked_is in
    let first = (s.holds.accounts n i e).first_given in
    omega (arith, le, counted, acked, first, few)

pub runs_agree : CutStepsJoin → WorldsAreJoined → JoinedRunsStayBelow → JoinedWorldsCover → JoinedWorldsAgree → RunsAgree
runs_agree cuts stand stay cover agree lines fits few n i k j t u both =
    let w = (run lines).world in
    let h = history_of (run lines).done in
    let s = stand lines fits few in
    let covered = cover w h s.machine s.nodes s.holds s.joined.joined s.joined.queries n i k j t u
    (are_open w h s.holds n i k j t u both) in
    agree w h s.machine s.nodes s.holds s.joined.joined s.joined.queries
    (numbers_fit w h (65536 * length lines) (81919 * length lines) s (stay cuts lines fits few) (omega (arith, few)))
    n i k j t u (they_agree w h s.holds n i k j t u both covered)

pub runs_cover : WorldsAreJoined → JoinedWorldsCover → RunsCover
runs_cover stand cover lines fits few =
    let s = stand lines fits few in
    cover (run lines).world (history_of (run lines).done) s.machine s.nodes s.holds s.joined.joined s.joined.queries

pub runs_know : WorldsAreJoined → JoinedWorldsKnow → RunsKnow
runs_know stand know lines fits few =
    let s = stand lines fits few in
    know (run lines).world (history_of (run lines).done) s.machine s.nodes s.holds s.joined.joined

pub runs_hear : WorldsAreJoined → LettersOfJoined → RunsHear
runs_hear stand letters lines fits few =
    let s = stand lines fits few in
    letters (run lines).world (history_of (run lines).done) s.machine s.nodes s.holds s.joined.joined
