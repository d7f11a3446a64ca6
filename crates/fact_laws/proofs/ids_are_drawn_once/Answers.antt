use Rattle.step_laws.specs.Looks.{LooksBeginTrue, LooksStayTrue}
use Rattle.step_laws.specs.Starts.{StartsAreChains}
use Rattle.step_laws.specs.Steps.{StepsAreChains}
use Rattle.book_laws.specs.Books.{NewEndsAreBooked, StepsAreBooked}
use Rattle.book_laws.specs.Starts.{StartsAreBooked}
use Rattle.channel_laws.specs.Lines.{LinesDo}
use Rattle.fact_laws.proofs.Numbers.{NumberLaws, ids_are_drawn_anew, ids_rise}
use Rattle.fact_laws.proofs.ids_are_drawn_once.Goals as goal

laws_of : StepsAreChains → StartsAreChains → StartsAreBooked → LooksStayTrue → LooksBeginTrue → StepsAreBooked → NewEndsAreBooked
    → LinesDo → NumberLaws
laws_of chains starting started looks begin booked new lines = record {
  chains = chains;
  starting = starting;
  started = started;
  looks = looks;
  begin = begin;
  booked = booked;
  new = new;
  lines = lines;
}

pub returns-clause-anew : goal.returns-clause-anew
returns-clause-anew c =
    let e = c.laws_of_ends.ensures in
    let l = c.laws_of_lines.ensures in
    ids_are_drawn_anew (laws_of e.chains l.starting e.starting e.looks e.begin e.booked e.new l.lines)

pub returns-clause-order : goal.returns-clause-order
returns-clause-order c =
    let e = c.laws_of_ends.ensures in
    let l = c.laws_of_lines.ensures in
    ids_rise (laws_of e.chains l.starting e.starting e.looks e.begin e.booked e.new l.lines)
