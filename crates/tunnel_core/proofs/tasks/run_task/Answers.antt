use Rattle.tunnel_core.proofs.tasks.run_task.Goals as goal

pub returns-in-Event : goal.returns-in-Event
returns-in-Event c t letters calls recovery = rw c.in-Event.is (c.run_event.ensures t letters calls recovery)
