use Rattle.std.proofs.Common.{rules}
use Rattle.session_cells.specs.Tokens.{log_of, count_of}
use Rattle.data_plane.specs.Carries.{role_of}
use Rattle.cell_bench.proofs.Judging.{judged_of}
use Rattle.cell_bench.proofs.rounds.carry_once.Goals as goal

pub returns-clause-exact : goal.returns-clause-exact
returns-clause-exact c =
    let s = c.args.sample.now in
    judged_of (role_of s.lns) (count_of c.args.cells.now) (log_of c.carry_in.new.seen) s.peer c.as_slice.result.now s.datagram s.header c.carry_in.result c.as_slice.ensures s.known s.no_control (search rules) c.carry_in.ensures.exact
