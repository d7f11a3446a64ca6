use Rattle.node_pool.proofs.Ends.{ran_opened}
use Rattle.node_pool.proofs.pool.run_opened.Goals as goal

pub returns-clause-ran : goal.returns-clause-ran
returns-clause-ran g c =
    let r = c.pool_run-tally.ensures in
    ran_opened g.P.Ports.around g.P.Ports.counts _ _ c.open_pool-opened.result.1 c.pool_run-tally.new.pass _ _ c.open_pool-opened.ensures.same.1 c.requires.none.0 c.requires.all r.serves c.requires.first.0 c.requires.first.1 r.puts r.tally.0 (λ alone. (r.all alone).0)
