use Rattle.tunnel_core.proofs.hearing.hear_letter.Goals as goal

pub returns-in-Sccrq : goal.returns-in-Sccrq
returns-in-Sccrq c = rw c.in-Sccrq.is (c.hear_sccrq.ensures c.args.session)

pub returns-in-Sccrp : goal.returns-in-Sccrp
returns-in-Sccrp c = rw c.in-Sccrp.is (c.hear_sccrp.ensures c.args.session)

pub returns-in-Scccn : goal.returns-in-Scccn
returns-in-Scccn c = rw c.in-Scccn.is (c.hear_scccn.ensures c.args.session)
