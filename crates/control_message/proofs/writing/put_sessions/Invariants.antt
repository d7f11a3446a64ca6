use Rattle.std.proofs.Common.{◌≡◌, ◌++◌, drop}
use Rattle.avp_codec.specs.Spelling.{spelling}
use Rattle.control_message.specs.Pairs.{session_pairs}
use Rattle.control_message.proofs.writing.put_sessions.Given as goal

abbrev pub invariant-loop-session : goal.invariant-loop-session
invariant-loop-session l = l.out ++ spelling (session_pairs (drop l.session-index l.sessions)) ≡ l.fn.out ++ spelling (session_pairs l.sessions)
