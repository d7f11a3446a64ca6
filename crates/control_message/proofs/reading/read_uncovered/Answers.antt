use Rattle.std.proofs.Common.{subst, sym, ◌∙◌, List}
use Rattle.std.specs.List.{find}
use Rattle.wire_base.specs.Answers.{Gives}
use Rattle.avp_codec.specs.declared.avp.Avp.{Avp}
use Rattle.control_message.specs.Reading.{Told, message_by}
use Rattle.control_message.proofs.Plain.{none_found, nothing_uncovered}
use Rattle.control_message.proofs.reading.read_uncovered.Goals as goal

pub returns-then-not-has_hidden : goal.returns-then-not-has_hidden
returns-then-not-has_hidden c =
    let none = none_found (find (λ (a : Avp). a.hidden) c.args.pairs.now) (sym c.has_hidden.ensures ∙ c.if-not-has_hidden.true) in
    let same = nothing_uncovered c.args.secret.now c.args.pairs.now none in
    subst (λ (q : List Avp). Gives Told (λ x. x) c.read_pairs.result (message_by c.args.known q)) (sym same) c.read_pairs.ensures
