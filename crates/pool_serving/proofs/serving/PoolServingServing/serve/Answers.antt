use Rattle.std.proofs.Common.{refl}
use Rattle.pool_serving.proofs.Served.{serves_all, puts_all}
use Rattle.pool_serving.proofs.serving.PoolServingServing.serve.Goals as goal

pub returns-clause-serves : goal.returns-clause-serves
returns-clause-serves g c =
    let p = g.P.Ports in
    let s = c.serve_all-outcome in
    serves_all p.around p.counts c.args.self.now _ c.args.pass.now s.new.pass refl refl refl refl s.ensures.step s.result c.fault_of-self.ensures s.ensures.cause s.ensures.ok s.ensures.err

pub returns-clause-putting : goal.returns-clause-putting
returns-clause-putting g c =
    λ none.
    let p = g.P.Ports in
    let s = c.serve_all-outcome in
    puts_all p.around p.counts c.args.self.now _ c.args.pass.now s.new.pass refl refl refl refl s.ensures.step s.result c.fault_of-self.ensures s.ensures.cause s.ensures.ok s.ensures.err
