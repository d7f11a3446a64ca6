use Rattle.run_join_laws.proofs.OneCall.{births_are_of_one_call}
use Rattle.run_join_laws.proofs.births_are_of_one_call.Goals as goal

pub returns : goal.returns
returns c =
    let runs = c.laws_of_runs.ensures in
    let lines = c.laws_of_lines.ensures in
    births_are_of_one_call c.cut_steps_join.ensures (record {
      chains = runs.chains;
      looks = runs.looks;
      begin = runs.begin;
      booked = runs.booked;
      starting = lines.starting;
      new = runs.new;
      sound = runs.sound;
      allowed = runs.allowed;
      lines = runs.lines;
      answers = lines.answers;
      closes = lines.closes;
      requests = lines.requests;
      first = runs.first;
      keep = runs.keep;
    }) (record {
      runs = lines.births;
      drawn = c.births_are_drawn.ensures;
      once = lines.once;
      answers = lines.answers;
      closes = lines.closes;
      requests = lines.requests;
      steps = lines.steps;
      join = lines.join;
      starting = lines.starting;
      of_books = lines.of_books;
      starts = lines.starts;
    })
