-- A new link begins with a Configure-Request.
use Rattle.std.proofs.Common.{refl}
use Rattle.wire_base.specs.Numbers.{u16_bytes, u32_bytes}
use Rattle.lcp_end.specs.Options.{asked}
use Rattle.lcp_end.specs.Steps.{sent, requesting, requested, counted, zeroed, configured, terminated, signalled, acted, stepped, opened}
use Rattle.call_link.specs.Turns.{linked}
use Rattle.call_link.specs.Laws.{EachBeginsByAsking}

pub each_begins_by_asking : EachBeginsByAsking
unfolding linked opened stepped acted counted zeroed configured terminated requested requesting sent signalled asked u16_bytes u32_bytes
each_begins_by_asking e = record { shut = refl; frames = refl; opens = refl; ends = refl; link = refl; since = refl }
