use Rattle.node_pool.proofs.pool.lac_pool.Goals as goal

pub returns-clause-ran : goal.returns-clause-ran
returns-clause-ran g c = c.end_hub.ensures.ran _ _ _ _ c.run_hub-ran.ensures.ran

pub returns-clause-cause : goal.returns-clause-cause
returns-clause-cause g c = c.end_hub.ensures.cause _ _ _ c.requires.begun c.run_hub-ran.ensures.blamed
