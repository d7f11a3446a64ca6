use Rattle.std.proofs.Common.{◌∙◌, sym, refl}
use Rattle.l2tp_capture.specs.declared.words.Asked.TheVariants as asked
use Rattle.l2tp_capture.specs.Texts.{help_text}
use Rattle.l2tp_capture.proofs.Ending.{written_asked, none_read, none_added}
use Rattle.l2tp_capture.proofs.top.capture_top.Goals as goal

pub returns-in-Help : goal.returns-in-Help
returns-in-Help g c =
    written_asked _ asked.Help c.put.result help_text _ (sym c.in-Help.is ∙ c.asked_of.ensures) (record { is_due = refl; is_read = none_read _; same = refl; quiet = (refl, none_added _) }) c.put.ensures
