-- Frames that are under way as an end crashes come up in the call that they were sent in, as it is back.
use Rattle.std.specs.Prelude.{◌≡◌, List, [], ◌∷◌, ◌++◌}
use Rattle.schedule_text.specs.declared.line.Line.{Line}
use Rattle.schedule_text.specs.declared.line.Line.TheVariants.{FromSub, Deliver, Crash, Start}
use Rattle.end_names.specs.declared.role.Role.TheVariants.{Lac, Lns}
use Rattle.frame_laws.specs.Past.{past_of}
use Rattle.run_examples.specs.Crossing.{asked, granted, passage}
use Rattle.run_examples.specs.Endings.{connected}

-- Session 2 of node 9, the second call that was born, is session 1 of the LNS, node 4; packet 9 is the LNS's request in it. The LAC falls
-- before it hears that, and then the LNS before it hears an answer, packet 12.
abbrev pub lines : List Line
lines = connected ++ Crash 9 ∷ Start 9 ∷ Deliver 9 ∷ FromSub 9 2 (granted 18) ∷ Crash 4 ∷ Start 4 ∷ Deliver 12 ∷ []

-- As the LNS starts, the link of its call is opened anew, and asks: that frame comes of no line that gives one. Birth and sessions are
-- those from before
pub record FramesOutliveCrashes : Type 0 where
  pub past : past_of lines ≡ record {
    sent = passage 12 4 Lns 9 1 2 (asked 12) ∷ passage 16 9 Lac 4 2 2 (granted 18) ∷ passage 18 4 Lns 9 1 2 (asked 18) ∷ [];
    handed = passage 15 9 Lac 4 2 2 (asked 12) ∷ passage 19 4 Lns 9 1 2 (granted 18) ∷ [];
  }
