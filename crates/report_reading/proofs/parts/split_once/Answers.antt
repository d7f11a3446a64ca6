use Rattle.std.proofs.Common.{sym, ◌∙◌}
use Rattle.std.proofs.lemmas.List.{take_rest}
use Rattle.schedule_text.proofs.Cuts.{cut_some}
use Rattle.report_reading.proofs.parts.split_once.Goals as goal

pub returns : goal.returns
returns c = rw take_rest (cut_some c.args.separator c.args.text.now c.in_ok-at.at (sym c.place_of.ensures ∙ c.in_ok-at.was))
