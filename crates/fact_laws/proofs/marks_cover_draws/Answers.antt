use Rattle.step_laws.specs.Looks.{LooksBeginTrue, LooksStayTrue}
use Rattle.step_laws.specs.Starts.{StartsAreChains, StartsAreOfBooks}
use Rattle.step_laws.specs.Steps.{StepsAreChains, StepsAreNoStarts}
use Rattle.book_laws.specs.Books.{MovesAreBooked, NewEndsAreBooked, StepsAreBooked}
use Rattle.book_laws.specs.Starts.{StartsAreBooked}
use Rattle.channel_laws.specs.Lines.{LinesDo}
use Rattle.fact_laws.proofs.Draws.{RunLaws, deeds_are_covered, answers_are_covered, none_is_older}
use Rattle.fact_laws.proofs.marks_cover_draws.Goals as goal

laws_of : StepsAreChains → StepsAreNoStarts → MovesAreBooked → StartsAreChains → StartsAreBooked → StartsAreOfBooks → LooksStayTrue
    → LooksBeginTrue → StepsAreBooked → NewEndsAreBooked → LinesDo → RunLaws
laws_of chains no_starts moves starting started of_books looks begin booked new lines = record {
  line_laws = record { chains = chains; no_starts = no_starts; moves = moves; starting = starting; started = started };
  of_books = of_books;
  looks = looks;
  begin = begin;
  booked = booked;
  new = new;
  lines = lines;
}

pub returns-clause-deeds : goal.returns-clause-deeds
returns-clause-deeds c =
    let e = c.laws_of_ends.ensures in
    let l = c.laws_of_lines.ensures in
    deeds_are_covered (laws_of e.chains l.no_starts l.moves l.starting e.starting l.of_books e.looks e.begin e.booked e.new l.lines)

pub returns-clause-answers : goal.returns-clause-answers
returns-clause-answers c = answers_are_covered (returns-clause-deeds c)

pub returns-clause-order : goal.returns-clause-order
returns-clause-order c =
    let e = c.laws_of_ends.ensures in
    let l = c.laws_of_lines.ensures in
    none_is_older (laws_of e.chains l.no_starts l.moves l.starting e.starting l.of_books e.looks e.begin e.booked e.new l.lines)
