-- Two LACs that name each other as their LNS: neither takes calls, so what one asks for the other refuses.
use Rattle.std.specs.Prelude.{◌≡◌, List, [], ◌∷◌, ◌++◌, codes, Some, None, false}
use Rattle.wire_base.specs.declared.cause.Cause.TheVariants.{State}
use Rattle.schedule_text.specs.declared.line.Line.{Line}
use Rattle.schedule_text.specs.declared.line.Line.TheVariants.{Lac, OpenUp, Ring, Deliver}
use Rattle.control_message.specs.declared.message.Message.TheVariants.{Icrq, Cdn}
use Rattle.end_names.specs.Names.{subscriber, calling_number}
use Rattle.world_model.specs.Texts.{Ends, Causes}
use Rattle.world_model.specs.Run.{run, tables}
use Rattle.run_examples.specs.Entries.{entries_since, message, acknowledgement}

-- Session 1 of node 6 waits in a tunnel that is never answered. Node 9's tunnel 1 is tunnel 2 of node 6.
abbrev pub openings : List Line
openings = Lac 9 6 None false ∷ Lac 6 9 None false ∷ Ring 6 80 ∷ OpenUp 9 ∷ Deliver 2 ∷ Deliver 3 ∷ Deliver 4 ∷ Deliver 5 ∷ []

-- two calls of node 9 are asked for, and one of node 6 in the same tunnel
abbrev pub calls : List Line
calls =
    Ring 9 70 ∷ Ring 9 71 ∷ Deliver 6 ∷ Deliver 7 ∷ Deliver 8 ∷ Deliver 9 ∷ Deliver 11
    ∷ Ring 6 81 ∷ Deliver 12 ∷ Deliver 13
    ∷ []

abbrev pub lines : List Line
lines = openings ++ calls

-- The end that is asked has no call to name, and tells the CDN to the session of the end that asks, with the codes of a general
-- error: 2, and 5 for a value that fits no state. That end's call is gone.
pub record CallsAreRefused : Type 0 where
  pub entries : entries_since 9 (run lines).entries ≡
      message 9 6 9 6 2 0 2 1 (Icrq 1 1 (Some (calling_number (subscriber 70))))
      ∷ message 10 7 9 6 2 0 3 1 (Icrq 2 2 (Some (calling_number (subscriber 71))))
      ∷ Causes 11 6 State ∷ message 11 8 6 9 1 1 1 3 (Cdn 0 2 (Some 5))
      ∷ Causes 12 6 State ∷ message 12 9 6 9 1 2 2 4 (Cdn 0 2 (Some 5))
      ∷ Ends 13 9 1 None ∷ acknowledgement 13 10 9 6 2 4 2
      ∷ Ends 14 9 2 None ∷ acknowledgement 14 11 9 6 2 4 3
      ∷ message 16 12 6 9 1 0 3 4 (Icrq 2 2 (Some (calling_number (subscriber 81))))
      ∷ Causes 17 9 State ∷ message 17 13 9 6 2 2 4 4 (Cdn 0 2 (Some 5))
      ∷ Ends 18 6 2 None ∷ acknowledgement 18 14 6 9 1 4 5
      ∷ []
  pub tables : tables (run lines).world ≡
      codes "end 6 tunnel 1 9 0 wait-ctl-reply 0 current complete\n"
      ++ codes "end 6 call 1 1 0 wait-tunnel 1\n"
      ++ codes "end 6 tunnel 2 9 1 established 0 current complete\n"
      ++ codes "end 9 tunnel 1 6 2 established 0 current complete\n"
