use Rattle.l2tp_cli.proofs.Counts.{few_lines}
use Rattle.l2tp_cli.proofs.top.replay_top.Goals as goal

pub returns-clause-ends : goal.returns-clause-ends
returns-clause-ends g c = c.command.ensures

pub returns-clause-headline : goal.returns-clause-headline
returns-clause-headline g c = record {
  of_lines = λ lines fits few. record {
    frames = record {
      told = c.reports_tell_the_past.ensures lines fits;
      sent = c.frames_were_sent.ensures lines fits;
      given = c.sent_frames_are_packets.ensures.given lines fits;
      carried = c.sent_frames_are_packets.ensures.packets lines fits;
    };
    sessions = c.runs_agree.ensures lines fits few;
    requests = record {
      answers = c.requests_are_answered_in_runs.ensures lines fits;
      causes = c.reports_tell_true_causes.ensures lines fits;
    };
  };
  of_texts = λ text lines within h.
      let is = c.lines_are_a_schedule.ensures text lines h in
      (is.fits, few_lines text lines within is);
}

pub returns-clause-facts : goal.returns-clause-facts
returns-clause-facts g c = λ lines fits. record {
  nodes = record {
    room = c.tunnels_have_room.ensures lines fits;
    few = c.no_end_has_too_many_tunnels.ensures lines fits;
    none_left = c.no_call_is_left.ensures lines fits;
    books = c.books_are_of_ends.ensures.nodes lines fits;
    records = c.records_are_in_place.ensures lines fits;
    ids = c.ids_are_above_ceilings.ensures lines fits;
    drawn = c.ids_are_drawn_once.ensures.order lines fits;
    restarts = c.tunnels_outlive_crashes.ensures lines fits;
  };
  next = record {
    gone = c.sessions_go_once.ensures lines fits;
    marks = c.marks_never_fall.ensures lines fits;
    strangers = c.strangers_change_no_call.ensures.lines lines fits;
    others = c.lines_leave_others_alone.ensures lines fits;
    ids = c.ids_are_drawn_once.ensures.anew lines fits;
  };
  epochs = λ few. record {
    rise = c.epochs_rise.ensures lines fits few;
    entered = c.epochs_enter_anew.ensures lines fits few;
    known = c.runs_know.ensures lines fits few;
    taken = λ n i e. ((c.worlds_are_joined.ensures lines fits few).holds.accounts n i e).taken;
    heard = c.runs_hear.ensures lines fits few;
  };
  marks = record { covered = c.marks_cover_draws.ensures.deeds lines fits; none_older = c.marks_cover_draws.ensures.order lines fits };
  calls = λ few. record {
    births = c.births_are_of_one_call.ensures lines fits few;
    mates = c.calls_know_their_mates.ensures lines fits few;
    books = λ n node there. ((c.facts_hold.ensures lines fits).nodes n node there).book;
    covered = c.runs_cover.ensures lines fits few;
  };
  cells = record {
    looks = c.looks_are_true.ensures lines fits;
    booked = c.cells_are_booked.ensures lines fits;
    held = c.held_frames_were_sent.ensures lines fits;
  };
}

pub returns-clause-origins : goal.returns-clause-origins
returns-clause-origins g c = λ lines fits. record {
  frames = record {
    told = c.reports_tell_the_past.ensures lines fits;
    sent = c.frames_were_sent.ensures lines fits;
    given = c.sent_frames_are_packets.ensures.given lines fits;
    carried = c.sent_frames_are_packets.ensures.packets lines fits;
  };
  requests = record {
    answers = c.requests_are_answered_in_runs.ensures lines fits;
    causes = c.reports_tell_true_causes.ensures lines fits;
  };
}

pub returns-clause-calm : goal.returns-clause-calm
returns-clause-calm g c = λ lines fits calm few. record {
  sessions = c.ends_that_agree_hold_the_same.ensures lines fits calm few;
  channels = record {
    letters = c.letters_are_carried.ensures lines fits calm few;
    acks = c.acks_are_true.ensures lines fits calm few;
    numbers = c.numbers_are_read.ensures lines fits calm few;
    asked = c.calls_are_asked_for_once.ensures lines fits calm;
    made = c.requests_are_taken_once.ensures lines fits calm few;
    main = c.moves_are_main.ensures lines fits calm;
  };
}
