-- A call that is dropped at one end while it is hung up at the other: their CDNs cross.
use Rattle.std.specs.Prelude.{◌≡◌, ℕ, List, [], ◌∷◌, ◌++◌, codes, Option, Some, None, option_map, false}
use Rattle.id_table.specs.Ids.{at}
use Rattle.wire_base.specs.declared.cause.Cause.TheVariants as cause
use Rattle.wire_base.specs.declared.why.Why.TheVariants as why
use Rattle.schedule_text.specs.declared.line.Line.{Line}
use Rattle.schedule_text.specs.declared.line.Line.TheVariants.{Lac, Lns, OpenUp, Ring, Hang, DropCall, Deliver}
use Rattle.control_message.specs.declared.message.Message.TheVariants.{Cdn}
use Rattle.end_model.specs.declared.tunnel.CallPlace.{CallPlace}
use Rattle.world_model.specs.Texts.{Ends, Drops, Causes}
use Rattle.world_model.specs.World.{World}
use Rattle.world_model.specs.Run.{run, tables}
use Rattle.run_examples.specs.Entries.{entries_since, message, acknowledgement}

-- Session 1 of node 9 waits in its tunnel 1, which is never answered. Its session 2 is session 1 of the LNS, node 4, and its
-- tunnel 2 the LNS's tunnel 1.
abbrev pub connected : List Line
connected =
    Lns 4 None ∷ Lac 9 4 None false ∷ Ring 9 70
    ∷ OpenUp 9 ∷ Deliver 2 ∷ Deliver 3 ∷ Deliver 4 ∷ Deliver 5
    ∷ Ring 9 71 ∷ Deliver 6 ∷ Deliver 7 ∷ Deliver 8
    ∷ []

-- each end tells that the call ends before it hears so, and hears it twice; the call that waits is hung up too
abbrev pub ending : List Line
ending = DropCall 4 1 ∷ Hang 9 2 ∷ Deliver 11 ∷ Deliver 12 ∷ Hang 9 1 ∷ Deliver 11 ∷ Deliver 12 ∷ []

abbrev pub lines : List Line
lines = connected ++ ending

-- what the data plane of a node sees
abbrev pub places : World → ℕ → Option (List (ℕ × CallPlace))
places w n = option_map (λ node. node.end.calls) (at w.nodes n)

-- Each call is gone once at each end that had it. The peer of the call that waited never heard of it, and isn't told.
pub record CallsEndOnce : Type 0 where
  pub entries : entries_since 13 (run lines).entries ≡
      Causes 13 4 cause.Operator ∷ Ends 13 4 1 None ∷ message 13 11 4 9 2 2 2 4 (Cdn 1 3 None)
      ∷ Causes 14 9 cause.Line ∷ Ends 14 9 2 None ∷ message 14 12 9 4 1 1 4 2 (Cdn 2 1 None)
      ∷ Drops 15 9 why.Session ∷ acknowledgement 15 13 9 4 1 5 3
      ∷ Drops 16 4 why.Session ∷ acknowledgement 16 14 4 9 2 3 5
      ∷ Ends 17 9 1 None
      ∷ acknowledgement 18 15 9 4 1 5 3
      ∷ acknowledgement 19 16 4 9 2 3 5
      ∷ []
  pub of_lns : places (run lines).world 4 ≡ Some []
  pub of_lac : places (run lines).world 9 ≡ Some []
  pub tables : tables (run lines).world ≡
      codes "end 4 tunnel 1 9 2 established 0 current complete\n"
      ++ codes "end 9 tunnel 1 4 0 wait-ctl-reply 0 current complete\n"
      ++ codes "end 9 tunnel 2 4 1 established 0 current complete\n"
      ++ codes "agree 9 2 4 1 0\n"
