use Rattle.line_join_laws.proofs.Runs.{joined_runs_stay_below}
use Rattle.line_join_laws.proofs.joined_runs_stay_below.Goals as goal

pub returns : goal.returns
returns c =
    let runs = c.laws_of_runs.ensures in
    let laws = c.laws_below.ensures in
    joined_runs_stay_below (record {
      chains = runs.chains;
      looks = runs.looks;
      begin = runs.begin;
      booked = runs.booked;
      starting = runs.starting;
      new = runs.new;
      sound = runs.sound;
      allowed = runs.allowed;
      lines = runs.lines;
      answers = laws.answers;
      closes = laws.closes;
      requests = laws.requests;
      first = laws.first;
      keep = c.joined_lines_keep.ensures;
    })
