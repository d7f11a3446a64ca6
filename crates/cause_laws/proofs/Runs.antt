-- So it is at each line of each run.
use Rattle.std.proofs.Common.{◌+◌, ◌∷◌, ◌++◌, length, subst}
use Rattle.schedule_text.specs.Grammar.{FitsLine, AreLines}
use Rattle.world_model.specs.Run.{run}
use Rattle.step_laws.specs.Room.{StepsRefuseTruly, FullAreRefused}
use Rattle.step_laws.specs.Causes.{CausesStand}
use Rattle.step_laws.specs.Rings.{RingsCome}
use Rattle.book_laws.specs.Starts.{StartsSendOnly}
use Rattle.node_laws.specs.Nodes.{EndsOfRuns}
use Rattle.cause_laws.specs.Causes.{CausesOfRuns, RoomInRuns}
use Rattle.cause_laws.specs.Hosts.{HostsOfRuns, HostsAreHeldOn}
use Rattle.cause_laws.proofs.Held.{held_once}
use Rattle.cause_laws.proofs.Nodes.{CallLaws, all_left, kept_in, goods_in, lac_apart}
use Rattle.cause_laws.proofs.Lines.{line_true}
use Rattle.cause_laws.proofs.Room.{room_told}
use Rattle.cause_laws.proofs.Hosts.{hosts_answered}
use Rattle.cause_laws.proofs.Staying.{held_on}

module _ (laws : CallLaws) (ends : EndsOfRuns) where
  pub room_in_runs : RoomInRuns
  room_in_runs lines fits n node is i t there =
      let k = (kept_in laws ends lines fits n node is).tunnels i t there in
      record { letters = λ live. rw k.letters (k.few live); most = rw k.letters k.most; shut = k.shut; calls = k.calls_few }

  pub hosts_of_runs : HostsOfRuns
  hosts_of_runs lines fits n lac src uniq s t =
      held_once lac.access (lac_apart (run lines).world (goods_in laws ends lines fits) n lac) src uniq s t

  pub hosts_held_on : HostsAreHeldOn
  hosts_held_on lines fits before after l split =
      let whole : AreLines (before ++ l ∷ after) = subst AreLines split fits in
      held_on (run before).world (goods_in laws ends before (all_left FitsLine before (l ∷ after) whole)) (length before + 1) l

  pub causes_of_runs : CausesStand → StepsRefuseTruly → StartsSendOnly → RingsCome → FullAreRefused → CausesOfRuns
  causes_of_runs causes room quiet rings full lines fits before after l split =
      let whole : AreLines (before ++ l ∷ after) = subst AreLines split fits in
      let first = all_left FitsLine before (l ∷ after) whole in
      let kept = kept_in laws ends before first in (
        line_true causes room quiet rings (run before).world kept (goods_in laws ends before first) (length before + 1) l,
        room_told full (run before).world kept (length before + 1) l,
        hosts_answered rings (run before).world kept (goods_in laws ends before first) (length before + 1) l,
      )
