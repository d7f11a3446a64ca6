use Rattle.std.proofs.Common.{◌≡◌, [], drop}
use Rattle.end_model.specs.Starting.{kept_hosts}
use Rattle.lac_core.proofs.kept.keep_hosts.Given as goal

abbrev pub invariant-loop-call : goal.invariant-loop-call
invariant-loop-call l = kept_hosts (drop l.call-index l.calls) l.hosts ≡ kept_hosts l.calls []
