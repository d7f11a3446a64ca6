use Rattle.std.proofs.Common.{◌≡◌, ◌++◌, drop}
use Rattle.avp_codec.specs.Spelling.{AreAvps, spelling}
use Rattle.avp_codec.proofs.writing.spell_avps.Given as goal

abbrev pub invariant-loop-avp : goal.invariant-loop-avp
invariant-loop-avp l =
    record {
      fits : AreAvps (drop l.avp-index l.avps);
      rest : l.out ++ spelling (drop l.avp-index l.avps) ≡ spelling l.avps;
    }
