use Rattle.std.proofs.Common.{subst, sym}
use Rattle.std.specs.Prelude.{List}
use Rattle.std.specs.Option.{option_copied}
use Rattle.wire_base.specs.Answers.{Gives}
use Rattle.avp_codec.specs.declared.avp.Avp.{Avp}
use Rattle.control_message.specs.Reading.{Told, message_by}
use Rattle.control_message.proofs.Vectors.{uncovers_is}
use Rattle.control_message.proofs.Laws.{is_found, is_told, found_only, found_told}
use Rattle.control_message.proofs.reading.read_message.Goals as goal

pub returns-clause-found : goal.returns-clause-found
returns-clause-found c = λ plain u. is_found c.args.known plain c.read_with.result (subst (λ (q : List Avp). Gives Told (λ x. x) c.read_with.result (message_by c.args.known q)) (sym (uncovers_is (option_copied c.args.secret) c.args.avps.now plain u)) c.read_with.ensures)

pub returns-clause-fault : goal.returns-clause-fault
returns-clause-fault c = λ plain u. is_told c.args.known plain c.read_with.result (subst (λ (q : List Avp). Gives Told (λ x. x) c.read_with.result (message_by c.args.known q)) (sym (uncovers_is (option_copied c.args.secret) c.args.avps.now plain u)) c.read_with.ensures)

pub returns-clause-only : goal.returns-clause-only
returns-clause-only c = λ plain u r h. found_only c.args.known plain c.read_with.result r h (subst (λ (q : List Avp). Gives Told (λ x. x) c.read_with.result (message_by c.args.known q)) (sym (uncovers_is (option_copied c.args.secret) c.args.avps.now plain u)) c.read_with.ensures)

pub returns-clause-told : goal.returns-clause-told
returns-clause-told c = λ plain u e h. found_told c.args.known plain c.read_with.result e h (subst (λ (q : List Avp). Gives Told (λ x. x) c.read_with.result (message_by c.args.known q)) (sym (uncovers_is (option_copied c.args.secret) c.args.avps.now plain u)) c.read_with.ensures)
