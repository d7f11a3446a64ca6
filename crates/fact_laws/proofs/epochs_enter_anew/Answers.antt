use Rattle.fact_laws.proofs.Entered.{epochs_enter_anew}
use Rattle.fact_laws.proofs.epochs_enter_anew.Goals as goal

pub returns : goal.returns
returns c =
    let channels = c.laws_of_channels.ensures in
    let runs = c.laws_of_runs.ensures in
    let lines = c.laws_of_lines.ensures in
    epochs_enter_anew
    (record {
      codecs = channels.codecs;
      again = channels.again;
      room = channels.room;
      steps = channels.steps;
      of_books = lines.of_books;
      cuts = c.cut_steps_join.ensures;
      know = runs.know;
      stand = runs.stand;
      below = runs.below;
      lines = lines.lines;
    })
