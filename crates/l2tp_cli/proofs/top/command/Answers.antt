use Rattle.std.proofs.Common.{◌∙◌, sym, refl}
use Rattle.l2tp_cli.specs.declared.words.Asked.TheVariants as asked
use Rattle.l2tp_cli.specs.Texts.{help_text, version_text, usage_text}
use Rattle.l2tp_cli.proofs.Ending.{told_own, told_usage, none_read}
use Rattle.l2tp_cli.proofs.top.command.Goals as goal

pub returns-in-Help : goal.returns-in-Help
returns-in-Help g c =
    told_own _ asked.Help c.tell.result help_text _ (sym c.in-Help.is ∙ c.asked_of.ensures) (record { is_due = refl; is_read = none_read _; same = refl }) c.tell.ensures

pub returns-in-Version : goal.returns-in-Version
returns-in-Version g c =
    told_own _ asked.Version c.tell-in-Version.result version_text _ (sym c.in-Version.is ∙ c.asked_of.ensures) (record { is_due = refl; is_read = none_read _; same = refl }) c.tell-in-Version.ensures

pub returns-in-Nothing : goal.returns-in-Nothing
returns-in-Nothing g c =
    told_usage _ c.tell-in-Nothing.result usage_text _ (sym c.in-Nothing.is ∙ c.asked_of.ensures) (record { is_due = refl; is_read = none_read _; same = refl }) c.tell-in-Nothing.ensures
