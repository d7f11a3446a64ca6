use Rattle.frame_laws.proofs.laws_of_steps.Goals as goal

pub returns : goal.returns
returns c =
    record {
      chains = c.steps_are_chains.ensures;
      looks = c.looks_are_true.ensures.stay;
      ups = c.ups_are_moves.ensures;
      begin = c.looks_are_true.ensures.begin;
      starts = c.steps_are_no_starts.ensures;
      start_chains = c.starts_are_chains.ensures;
      start_moves = c.starts_are_of_books.ensures;
      booked = c.steps_are_booked.ensures.each;
      start_booked = c.starts_are_booked.ensures.booked;
      start_sends = c.starts_are_booked.ensures.quiet;
      new_booked = c.steps_are_booked.ensures.new;
    }
