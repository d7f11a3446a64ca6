use Rattle.control_message.specs.Pairs.{challenge_pairs, response_pairs}
use Rattle.control_message.proofs.Spelled.{grown_twice}
use Rattle.control_message.proofs.writing.put_secrets.Goals as goal

pub returns : goal.returns
returns c =
    let o = c.args.opening.now in
    grown_twice c.args.out.now _ _ (challenge_pairs o.challenge) (response_pairs o.response) c.in_ok-put_challenge.ensures c.in_ok-put_response.ensures
