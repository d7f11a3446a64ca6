use Rattle.node_pool.proofs.pool.node_pool.Given as goal

-- what the disk had counted when its hub was made
abbrev pub ghosts-lac_pool : goal.ghosts-lac_pool
ghosts-lac_pool g a = record { begun = g.D.Disk.faults a.disk }

abbrev pub ghosts-lns_pool : goal.ghosts-lns_pool
ghosts-lns_pool g a = record { begun = g.D.Disk.faults a.disk }
