use Rattle.cut_join_laws.proofs.Roles.{cut_steps_keep_roles}
use Rattle.cut_join_laws.proofs.cut_steps_keep_roles.Goals as goal

pub returns : goal.returns
returns c = cut_steps_keep_roles c.laws_below.ensures.requests
