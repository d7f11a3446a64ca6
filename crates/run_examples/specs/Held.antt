-- A frame that is held as its call is hung up comes up in that call.
use Rattle.std.specs.Prelude.{◌≡◌, ℕ, List, [], ◌∷◌, ◌++◌, None}
use Rattle.wire_base.specs.declared.cause.Cause.TheVariants as cause
use Rattle.wire_base.specs.declared.letter.Side.TheVariants.{Sub}
use Rattle.schedule_text.specs.declared.line.Line.{Line}
use Rattle.schedule_text.specs.declared.line.Line.TheVariants.{Hang, Load, Hand}
use Rattle.control_message.specs.declared.message.Message.TheVariants.{Cdn}
use Rattle.end_names.specs.declared.role.Role.TheVariants.{Lac}
use Rattle.world_model.specs.Texts.{HandsUp, Holds, Ends, Causes}
use Rattle.world_model.specs.Run.{run}
use Rattle.frame_laws.specs.Past.{past_of}
use Rattle.run_examples.specs.Endings.{connected}
use Rattle.run_examples.specs.Entries.{entries_since, message}

-- session 2 of node 9, the second call that was born, is session 1 of the LNS; packet 9 is the LNS's request in it
abbrev pub lines : List Line
lines = connected ++ Load 9 9 ∷ Hang 9 2 ∷ Hand 9 1 ∷ []

abbrev pub request : List ℕ
request = 192 ∷ 33 ∷ 1 ∷ 1 ∷ 0 ∷ 14 ∷ 1 ∷ 4 ∷ 5 ∷ 212 ∷ 5 ∷ 6 ∷ 0 ∷ 0 ∷ 0 ∷ 12 ∷ []

pub record FramesAreHeld : Type 0 where
  pub entries : entries_since 13 (run lines).entries ≡
      Holds 13 9 1
      ∷ Causes 14 9 cause.Line ∷ Ends 14 9 2 None ∷ message 14 11 9 4 1 1 4 2 (Cdn 2 1 None)
      ∷ HandsUp 15 9 2 2 Sub request
      ∷ []
  -- the LNS sent it in that call, as it was connected
  pub sent : (past_of lines).handed ≡ record { line = 15; node = 9; role = Lac; peer = 4; session = 2; birth = 2; frame = request } ∷ []
