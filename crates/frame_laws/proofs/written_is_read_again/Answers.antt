use Rattle.control_message.specs.declared.kind.Kinds.TheVariants.{Queries}
use Rattle.frame_laws.proofs.Whole.{whole, whole_read}
use Rattle.frame_laws.proofs.written_is_read_again.Goals as goal

pub returns : goal.returns
returns c =
    record {
      control = c.reads_what_was_written.ensures.control;
      frame = c.reads_what_was_written.ensures.data_message;
      pairs = c.reads_what_was_written-2.ensures;
      message = λ m w. c.reads_what_was_written-3.ensures Queries m (whole_read m) (whole m w);
      whole = λ m w. c.reads_what_was_written-3.ensures Queries m (whole_read m) w;
      room = λ m w. c.has_room.ensures m (whole m w);
      whole_room = λ m w. c.has_room.ensures m w;
      hidden = c.hidden_requests_are_read.ensures;
      digits = c.twelve_digits.ensures;
    }
