-- The texts of what was sent, in both spellings.
use Rattle.std.proofs.Common.{◌≡◌, ℕ, ◌+◌, List, [], ◌∷◌, ◌++◌, codes, ap, ◌∙◌, append_assoc}
use Rattle.std.specs.Fmt.{decimal}
use Rattle.hex.specs.Hex.{encode_lower}
use Rattle.schedule_text.specs.Reading.{text_lines}
use Rattle.world_model.specs.Texts.{◌&◌, ended, send_text, frame_text}
use Rattle.report_reading.specs.declared.entry.Entry.TheVariants.{Datagram, Frame}
use Rattle.report_reading.specs.Grammar.{sent_text, FitsSent}
use Rattle.report_reading.specs.Reading.{put_front, entries_from}
use Rattle.report_reading.proofs.Again.{text_again}
use Rattle.capture_laws.specs.Texts.{SendsAreRead, FramesAreRead}

send_is : (line packet from to : ℕ) (bytes rest : List ℕ) → send_text line packet from to bytes ++ rest ≡ sent_text (Datagram line packet from to bytes) ++ 10 ∷ rest
unfolding send_text
send_is line packet from to bytes rest = simp append_assoc

frame_is : (line node : ℕ) (bytes rest : List ℕ) → frame_text line node bytes ++ rest ≡ sent_text (Frame line node bytes) ++ 10 ∷ rest
unfolding frame_text
frame_is line node bytes rest = simp append_assoc

pub sends_are_read : SendsAreRead
sends_are_read line packet from to bytes h number rest =
    ap (λ (t : List ℕ). entries_from number (text_lines t)) (send_is line packet from to bytes rest)
    ∙ text_again (Datagram line packet from to bytes) number rest h

pub frames_are_read : FramesAreRead
frames_are_read line node bytes h number rest =
    ap (λ (t : List ℕ). entries_from number (text_lines t)) (frame_is line node bytes rest)
    ∙ text_again (Frame line node bytes) number rest h
