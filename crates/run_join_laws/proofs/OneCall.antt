-- After every run no birth is of two sessions of ends of one kind, so the session by which a call knows the other end is that of its mate.
use Rattle.std.proofs.Common.{refl}
use Rattle.world_model.specs.Run.{run}
use Rattle.birth_laws.specs.Births.{BirthsOfRuns}
use Rattle.channel_laws.specs.Accounts.{history_of}
use Rattle.line_join_laws.specs.Lines.{CutStepsJoin}
use Rattle.line_join_laws.proofs.Runs.{RunLaws, runs_carry}
use Rattle.run_join_laws.specs.Runs.{WorldsAreJoined}
use Rattle.run_join_laws.specs.Births.{BirthsAreDrawn, BirthsAreOfOneCall, CallsKnowTheirMates}
use Rattle.run_join_laws.proofs.Calls.{known_by}
use Rattle.run_join_laws.proofs.Mates.{knows_its_mate}
use Rattle.run_join_laws.proofs.BirthMoves.{BirthsHold}
use Rattle.run_join_laws.proofs.BirthLines.{LineLaws, births_carried}

pub births_are_of_one_call : CutStepsJoin → RunLaws → LineLaws → BirthsAreOfOneCall
births_are_of_one_call cuts laws of_lines lines fits few =
    (runs_carry laws cuts (λ w h. BirthsHold w) (births_carried of_lines) lines fits few).once

pub calls_know_their_mates : BirthsOfRuns → BirthsAreDrawn → WorldsAreJoined → BirthsAreOfOneCall → CallsKnowTheirMates
calls_know_their_mates births drawn stand once lines fits few n node there i t at_t session c at_c has =
    let w = (run lines).world in
    let h = history_of (run lines).done in
    let s = stand lines fits few in
    let known = known_by births drawn w w h s.machine s.holds s.roles s.joined (λ p q. refl) refl (λ p one is. (one, is, refl)) in
    knows_its_mate w h s.machine known (once lines fits few) n node there i t at_t session c at_c
    (s.sound n node there i t at_t session c at_c).0 has
