-- Questions and answers that no end sends: what comes of each in a run's world, and what is committed.
use Rattle.std.specs.Prelude.{◌≡◌, ℕ, ◌+◌, List, [], ◌∷◌, ◌++◌, codes, length, Option, Some, None, false}
use Rattle.std.proofs.Common.{refl}
use Rattle.id_table.specs.Ids.{at}
use Rattle.schedule_text.specs.declared.line.Line.{Line}
use Rattle.schedule_text.specs.declared.line.Line.TheVariants.{Close, Crash, Deliver, Lac, Lns, OpenUp, Ring, Start}
use Rattle.session_book.specs.declared.record.Record.{Record}
use Rattle.session_book.specs.declared.record.Record.TheVariants.{TunnelDown, CallDown}
use Rattle.end_model.specs.declared.event.Event.TheVariants.{Datagram}
use Rattle.end_names.specs.Names.{address_of}
use Rattle.end_model.specs.End.{Stepped, plain_step}
use Rattle.end_model.specs.Contents.{contents_of}
use Rattle.world_model.specs.Texts.{entries_text}
use Rattle.world_model.specs.World.{World, Node, block_of, entries_of}
use Rattle.world_model.specs.Run.{run}
use Rattle.recovery_runs.proofs.Computing.{computing}

pub record Came : Type 0 where
  pub text : List ℕ
  pub records : List Record

abbrev came_of : World → ℕ → ℕ → Node → Stepped → Came
came_of w line n node s = record { text = entries_text (entries_of line n s.outputs w); records = contents_of node.end s }

abbrev came_to : World → ℕ → ℕ → ℕ → List ℕ → Option Node → Came
came_to w line n from bytes None = record { text = []; records = [] }
came_to w line n from bytes (Some node) =
    came_of w line n node (plain_step node.end node.clock (block_of n line) (Datagram (address_of from) bytes))

-- what comes of a datagram from a node, as it comes to another one behind these lines
abbrev came : List Line → ℕ → ℕ → List ℕ → Came
came lines n from bytes = let w = (run lines).world in came_to w (length lines + 1) n from bytes (at w.nodes n)

abbrev before_unasked : List Line
before_unasked =
    Lns 2 None ∷ Lac 1 2 None false ∷ Ring 1 1 ∷ Deliver 1 ∷ Deliver 2 ∷ Deliver 3 ∷ Deliver 4 ∷ Deliver 6 ∷ Deliver 7 ∷ []

-- nothing was asked for in a tunnel that was never reset
unasked : came before_unasked 1 2
    (200 ∷ 2 ∷ 0 ∷ 36 ∷ 0 ∷ 1 ∷ 0 ∷ 0 ∷ 0 ∷ 2 ∷ 0 ∷ 4 ∷ 128 ∷ 8 ∷ 0 ∷ 0 ∷ 0 ∷ 0 ∷ 0 ∷ 22 ∷ 128 ∷ 16 ∷ 0 ∷ 0 ∷ 0 ∷ 79 ∷ 0 ∷ 0 ∷ 0 ∷ 0 ∷
    0 ∷ 1 ∷ 0 ∷ 0 ∷ 0 ∷ 1 ∷ []) ≡ record {
      text =
          codes "10 cause 1 query\n"
          ++ codes "10 gone 1 1\n"
          ++ codes "10 send 10 1 2 c80200240001000000040003800800000000000480080000000900018008000000010007\n";
      records = TunnelDown 1 ∷ [];
    }
unfolding computing
unasked = refl

-- nor by an answer that has nothing
unasked_none : came before_unasked 2 1
    (200 ∷ 2 ∷ 0 ∷ 20 ∷ 0 ∷ 1 ∷ 0 ∷ 0 ∷ 0 ∷ 4 ∷ 0 ∷ 2 ∷ 128 ∷ 8 ∷ 0 ∷ 0 ∷ 0 ∷ 0 ∷ 0 ∷ 22 ∷ []) ≡ record {
      text =
          codes "10 cause 2 query\n"
          ++ codes "10 gone 2 1\n"
          ++ codes "10 send 10 2 1 c80200240001000000020005800800000000000480080000000900018008000000010007\n";
      records = TunnelDown 1 ∷ [];
    }
unfolding computing
unasked_none = refl

abbrev before_other_session : List Line
before_other_session =
    Lns 2 None ∷ Lac 1 2 None false ∷ Ring 1 1 ∷ Deliver 1 ∷ Deliver 2 ∷ Deliver 3 ∷ Deliver 4 ∷ Deliver 6 ∷ Deliver 7 ∷ Ring 1 2 ∷
    Deliver 10 ∷ Deliver 11 ∷ Deliver 12 ∷ Deliver 14 ∷ Crash 2 ∷ Start 2 ∷ Deliver 15 ∷ Deliver 18 ∷ Deliver 19 ∷ Deliver 20 ∷
    Deliver 21 ∷ Deliver 22 ∷ Deliver 23 ∷ Deliver 24 ∷ []

-- the second place names another session of the peer
other_session : came before_other_session 2 1
    (200 ∷ 2 ∷ 0 ∷ 52 ∷ 0 ∷ 1 ∷ 0 ∷ 0 ∷ 0 ∷ 7 ∷ 0 ∷ 5 ∷ 128 ∷ 8 ∷ 0 ∷ 0 ∷ 0 ∷ 0 ∷ 0 ∷ 22 ∷ 128 ∷ 16 ∷ 0 ∷ 0 ∷ 0 ∷ 79 ∷ 0 ∷ 0 ∷ 0 ∷ 0 ∷
    0 ∷ 1 ∷ 0 ∷ 0 ∷ 0 ∷ 1 ∷ 128 ∷ 16 ∷ 0 ∷ 0 ∷ 0 ∷ 79 ∷ 0 ∷ 0 ∷ 0 ∷ 0 ∷ 0 ∷ 3 ∷ 0 ∷ 0 ∷ 0 ∷ 2 ∷ []) ≡ record {
      text =
          codes "25 cause 2 query\n"
          ++ codes "25 gone 2 1\n"
          ++ codes "25 gone 2 2\n"
          ++ codes "25 send 27 2 1 c80200240001000000050008800800000000000480080000000900018008000000010007\n";
      records = TunnelDown 1 ∷ [];
    }
unfolding computing
other_session = refl

-- the first place names another session of this end
other_own : came before_other_session 1 2
    (200 ∷ 2 ∷ 0 ∷ 52 ∷ 0 ∷ 1 ∷ 0 ∷ 0 ∷ 0 ∷ 4 ∷ 0 ∷ 8 ∷ 128 ∷ 8 ∷ 0 ∷ 0 ∷ 0 ∷ 0 ∷ 0 ∷ 22 ∷ 128 ∷ 16 ∷ 0 ∷ 0 ∷ 0 ∷ 79 ∷ 0 ∷ 0 ∷ 0 ∷ 0 ∷
    0 ∷ 1 ∷ 0 ∷ 0 ∷ 0 ∷ 2 ∷ 128 ∷ 16 ∷ 0 ∷ 0 ∷ 0 ∷ 79 ∷ 0 ∷ 0 ∷ 0 ∷ 0 ∷ 0 ∷ 2 ∷ 0 ∷ 0 ∷ 0 ∷ 2 ∷ []) ≡ record {
      text =
          codes "25 cause 1 query\n"
          ++ codes "25 gone 1 1\n"
          ++ codes "25 gone 1 2\n"
          ++ codes "25 send 27 1 2 c80200240001000000080005800800000000000480080000000900018008000000010007\n";
      records = TunnelDown 1 ∷ [];
    }
unfolding computing
other_own = refl

-- too few
too_few : came before_other_session 2 1
    (200 ∷ 2 ∷ 0 ∷ 36 ∷ 0 ∷ 1 ∷ 0 ∷ 0 ∷ 0 ∷ 7 ∷ 0 ∷ 5 ∷ 128 ∷ 8 ∷ 0 ∷ 0 ∷ 0 ∷ 0 ∷ 0 ∷ 22 ∷ 128 ∷ 16 ∷ 0 ∷ 0 ∷ 0 ∷ 79 ∷ 0 ∷ 0 ∷ 0 ∷ 0 ∷
    0 ∷ 1 ∷ 0 ∷ 0 ∷ 0 ∷ 1 ∷ []) ≡ record {
      text =
          codes "25 cause 2 query\n"
          ++ codes "25 gone 2 1\n"
          ++ codes "25 gone 2 2\n"
          ++ codes "25 send 27 2 1 c80200240001000000050008800800000000000480080000000900018008000000010007\n";
      records = TunnelDown 1 ∷ [];
    }
unfolding computing
too_few = refl

-- too many
too_many : came before_other_session 2 1
    (200 ∷ 2 ∷ 0 ∷ 68 ∷ 0 ∷ 1 ∷ 0 ∷ 0 ∷ 0 ∷ 7 ∷ 0 ∷ 5 ∷ 128 ∷ 8 ∷ 0 ∷ 0 ∷ 0 ∷ 0 ∷ 0 ∷ 22 ∷ 128 ∷ 16 ∷ 0 ∷ 0 ∷ 0 ∷ 79 ∷ 0 ∷ 0 ∷ 0 ∷ 0 ∷
    0 ∷ 1 ∷ 0 ∷ 0 ∷ 0 ∷ 1 ∷ 128 ∷ 16 ∷ 0 ∷ 0 ∷ 0 ∷ 79 ∷ 0 ∷ 0 ∷ 0 ∷ 0 ∷ 0 ∷ 2 ∷ 0 ∷ 0 ∷ 0 ∷ 2 ∷ 128 ∷ 16 ∷ 0 ∷ 0 ∷ 0 ∷ 79 ∷ 0 ∷ 0 ∷ 0 ∷
    0 ∷ 0 ∷ 3 ∷ 0 ∷ 0 ∷ 0 ∷ 3 ∷ []) ≡ record {
      text =
          codes "25 cause 2 query\n"
          ++ codes "25 gone 2 1\n"
          ++ codes "25 gone 2 2\n"
          ++ codes "25 send 27 2 1 c80200240001000000050008800800000000000480080000000900018008000000010007\n";
      records = TunnelDown 1 ∷ [];
    }
unfolding computing
too_many = refl

-- in another order
in_other_order : came before_other_session 2 1
    (200 ∷ 2 ∷ 0 ∷ 52 ∷ 0 ∷ 1 ∷ 0 ∷ 0 ∷ 0 ∷ 7 ∷ 0 ∷ 5 ∷ 128 ∷ 8 ∷ 0 ∷ 0 ∷ 0 ∷ 0 ∷ 0 ∷ 22 ∷ 128 ∷ 16 ∷ 0 ∷ 0 ∷ 0 ∷ 79 ∷ 0 ∷ 0 ∷ 0 ∷ 0 ∷
    0 ∷ 2 ∷ 0 ∷ 0 ∷ 0 ∷ 2 ∷ 128 ∷ 16 ∷ 0 ∷ 0 ∷ 0 ∷ 79 ∷ 0 ∷ 0 ∷ 0 ∷ 0 ∷ 0 ∷ 1 ∷ 0 ∷ 0 ∷ 0 ∷ 1 ∷ []) ≡ record {
      text =
          codes "25 cause 2 query\n"
          ++ codes "25 gone 2 1\n"
          ++ codes "25 gone 2 2\n"
          ++ codes "25 send 27 2 1 c80200240001000000050008800800000000000480080000000900018008000000010007\n";
      records = TunnelDown 1 ∷ [];
    }
unfolding computing
in_other_order = refl

-- the first isn't there any more, the second is
not_here : came before_other_session 2 1
    (200 ∷ 2 ∷ 0 ∷ 52 ∷ 0 ∷ 1 ∷ 0 ∷ 0 ∷ 0 ∷ 7 ∷ 0 ∷ 5 ∷ 128 ∷ 8 ∷ 0 ∷ 0 ∷ 0 ∷ 0 ∷ 0 ∷ 22 ∷ 128 ∷ 16 ∷ 0 ∷ 0 ∷ 0 ∷ 79 ∷ 0 ∷ 0 ∷ 0 ∷ 0 ∷
    0 ∷ 0 ∷ 0 ∷ 0 ∷ 0 ∷ 1 ∷ 128 ∷ 16 ∷ 0 ∷ 0 ∷ 0 ∷ 79 ∷ 0 ∷ 0 ∷ 0 ∷ 0 ∷ 0 ∷ 2 ∷ 0 ∷ 0 ∷ 0 ∷ 2 ∷ []) ≡ record {
      text =
          codes "25 gone 2 1\n"
          ++ codes "25 send 27 2 1 c802000c0001000000050008\n";
      records = CallDown 1 ∷ [];
    }
unfolding computing
not_here = refl

-- none is there
none_here : came before_other_session 1 2
    (200 ∷ 2 ∷ 0 ∷ 52 ∷ 0 ∷ 1 ∷ 0 ∷ 0 ∷ 0 ∷ 4 ∷ 0 ∷ 8 ∷ 128 ∷ 8 ∷ 0 ∷ 0 ∷ 0 ∷ 0 ∷ 0 ∷ 22 ∷ 128 ∷ 16 ∷ 0 ∷ 0 ∷ 0 ∷ 79 ∷ 0 ∷ 0 ∷ 0 ∷ 0 ∷
    0 ∷ 0 ∷ 0 ∷ 0 ∷ 0 ∷ 1 ∷ 128 ∷ 16 ∷ 0 ∷ 0 ∷ 0 ∷ 79 ∷ 0 ∷ 0 ∷ 0 ∷ 0 ∷ 0 ∷ 0 ∷ 0 ∷ 0 ∷ 0 ∷ 2 ∷ []) ≡ record {
      text =
          codes "25 gone 1 1\n"
          ++ codes "25 gone 1 2\n"
          ++ codes "25 send 27 1 2 c802000c0001000000080005\n";
      records = CallDown 1 ∷ CallDown 2 ∷ [];
    }
unfolding computing
none_here = refl

abbrev before_fsr_wait_conn : List Line
before_fsr_wait_conn =
    Lns 2 None ∷ Lac 1 2 None false ∷ OpenUp 1 ∷ Deliver 1 ∷ []

-- a tunnel that waits for its SCCCN
fsr_wait_conn : came before_fsr_wait_conn 2 1
    (200 ∷ 2 ∷ 0 ∷ 36 ∷ 0 ∷ 1 ∷ 0 ∷ 0 ∷ 0 ∷ 1 ∷ 0 ∷ 1 ∷ 128 ∷ 8 ∷ 0 ∷ 0 ∷ 0 ∷ 0 ∷ 0 ∷ 22 ∷ 128 ∷ 16 ∷ 0 ∷ 0 ∷ 0 ∷ 79 ∷ 0 ∷ 0 ∷ 0 ∷ 0 ∷
    0 ∷ 1 ∷ 0 ∷ 0 ∷ 0 ∷ 1 ∷ []) ≡ record {
      text =
          codes "5 cause 2 query\n"
          ++ codes "5 send 3 2 1 c80200240001000000010002800800000000000480080000000900018008000000010007\n";
      records = [];
    }
unfolding computing
fsr_wait_conn = refl

-- a tunnel that waits for its SCCRP, and doesn't know the peer's id
fsr_wait_reply : came before_fsr_wait_conn 1 2
    (200 ∷ 2 ∷ 0 ∷ 36 ∷ 0 ∷ 1 ∷ 0 ∷ 0 ∷ 0 ∷ 0 ∷ 0 ∷ 1 ∷ 128 ∷ 8 ∷ 0 ∷ 0 ∷ 0 ∷ 0 ∷ 0 ∷ 22 ∷ 128 ∷ 16 ∷ 0 ∷ 0 ∷ 0 ∷ 79 ∷ 0 ∷ 0 ∷ 0 ∷ 0 ∷
    0 ∷ 1 ∷ 0 ∷ 0 ∷ 0 ∷ 1 ∷ []) ≡ record {
      text =
          codes "5 cause 1 query\n"
          ++ codes "5 send 3 1 2 c80200240000000000010001800800000000000480080000000900018008000000010007\n";
      records = [];
    }
unfolding computing
fsr_wait_reply = refl

-- a question is taken there, and not answered
fsq_wait_conn : came before_fsr_wait_conn 2 1
    (200 ∷ 2 ∷ 0 ∷ 36 ∷ 0 ∷ 1 ∷ 0 ∷ 0 ∷ 0 ∷ 1 ∷ 0 ∷ 1 ∷ 128 ∷ 8 ∷ 0 ∷ 0 ∷ 0 ∷ 0 ∷ 0 ∷ 21 ∷ 128 ∷ 16 ∷ 0 ∷ 0 ∷ 0 ∷ 79 ∷ 0 ∷ 0 ∷ 0 ∷ 0 ∷
    0 ∷ 1 ∷ 0 ∷ 0 ∷ 0 ∷ 1 ∷ []) ≡ record {
      text =
          codes "5 send 3 2 1 c802000c0001000000010002\n";
      records = [];
    }
unfolding computing
fsq_wait_conn = refl

-- nor here
fsq_wait_reply : came before_fsr_wait_conn 1 2
    (200 ∷ 2 ∷ 0 ∷ 36 ∷ 0 ∷ 1 ∷ 0 ∷ 0 ∷ 0 ∷ 0 ∷ 0 ∷ 1 ∷ 128 ∷ 8 ∷ 0 ∷ 0 ∷ 0 ∷ 0 ∷ 0 ∷ 21 ∷ 128 ∷ 16 ∷ 0 ∷ 0 ∷ 0 ∷ 79 ∷ 0 ∷ 0 ∷ 0 ∷ 0 ∷
    0 ∷ 1 ∷ 0 ∷ 0 ∷ 0 ∷ 1 ∷ []) ≡ record {
      text =
          codes "5 send 3 1 2 c802000c0000000000010001\n";
      records = [];
    }
unfolding computing
fsq_wait_reply = refl

abbrev before_fsr_closed : List Line
before_fsr_closed =
    Lns 2 None ∷ Lac 1 2 None false ∷ OpenUp 1 ∷ Deliver 1 ∷ Deliver 2 ∷ Deliver 3 ∷ Deliver 4 ∷ Close 1 1 ∷ []

-- a closed tunnel takes an answer
fsr_closed : came before_fsr_closed 1 2
    (200 ∷ 2 ∷ 0 ∷ 36 ∷ 0 ∷ 1 ∷ 0 ∷ 0 ∷ 0 ∷ 1 ∷ 0 ∷ 3 ∷ 128 ∷ 8 ∷ 0 ∷ 0 ∷ 0 ∷ 0 ∷ 0 ∷ 22 ∷ 128 ∷ 16 ∷ 0 ∷ 0 ∷ 0 ∷ 79 ∷ 0 ∷ 0 ∷ 0 ∷ 0 ∷
    0 ∷ 1 ∷ 0 ∷ 0 ∷ 0 ∷ 1 ∷ []) ≡ record {
      text =
          codes "9 send 6 1 2 c802000c0001000000030002\n";
      records = [];
    }
unfolding computing
fsr_closed = refl

-- and a question
fsq_closed : came before_fsr_closed 1 2
    (200 ∷ 2 ∷ 0 ∷ 36 ∷ 0 ∷ 1 ∷ 0 ∷ 0 ∷ 0 ∷ 1 ∷ 0 ∷ 3 ∷ 128 ∷ 8 ∷ 0 ∷ 0 ∷ 0 ∷ 0 ∷ 0 ∷ 21 ∷ 128 ∷ 16 ∷ 0 ∷ 0 ∷ 0 ∷ 79 ∷ 0 ∷ 0 ∷ 0 ∷ 0 ∷
    0 ∷ 1 ∷ 0 ∷ 0 ∷ 0 ∷ 1 ∷ []) ≡ record {
      text =
          codes "9 send 6 1 2 c802000c0001000000030002\n";
      records = [];
    }
unfolding computing
fsq_closed = refl

-- a session is here by both of its ids, however often it is asked for
questions : came before_unasked 2 1
    (200 ∷ 2 ∷ 0 ∷ 132 ∷ 0 ∷ 1 ∷ 0 ∷ 0 ∷ 0 ∷ 4 ∷ 0 ∷ 2 ∷ 128 ∷ 8 ∷ 0 ∷ 0 ∷ 0 ∷ 0 ∷ 0 ∷ 21 ∷ 128 ∷ 16 ∷ 0 ∷ 0 ∷ 0 ∷ 79 ∷ 0 ∷ 0 ∷ 0 ∷ 0 ∷
    0 ∷ 1 ∷ 0 ∷ 0 ∷ 0 ∷ 1 ∷ 128 ∷ 16 ∷ 0 ∷ 0 ∷ 0 ∷ 79 ∷ 0 ∷ 0 ∷ 0 ∷ 0 ∷ 0 ∷ 1 ∷ 0 ∷ 0 ∷ 0 ∷ 2 ∷ 128 ∷ 16 ∷ 0 ∷ 0 ∷ 0 ∷ 79 ∷ 0 ∷ 0 ∷ 0 ∷
    0 ∷ 0 ∷ 2 ∷ 0 ∷ 0 ∷ 0 ∷ 1 ∷ 128 ∷ 16 ∷ 0 ∷ 0 ∷ 0 ∷ 79 ∷ 0 ∷ 0 ∷ 0 ∷ 0 ∷ 0 ∷ 0 ∷ 0 ∷ 0 ∷ 0 ∷ 1 ∷ 128 ∷ 16 ∷ 0 ∷ 0 ∷ 0 ∷ 79 ∷ 0 ∷ 0 ∷
    0 ∷ 0 ∷ 0 ∷ 1 ∷ 0 ∷ 0 ∷ 0 ∷ 1 ∷ 128 ∷ 16 ∷ 0 ∷ 0 ∷ 0 ∷ 79 ∷ 0 ∷ 0 ∷ 0 ∷ 0 ∷ 0 ∷ 1 ∷ 0 ∷ 0 ∷ 0 ∷ 0 ∷ 128 ∷ 16 ∷ 0 ∷ 0 ∷ 0 ∷ 79 ∷ 0 ∷
    0 ∷ 255 ∷ 255 ∷ 255 ∷ 255 ∷ 0 ∷ 0 ∷ 0 ∷ 1 ∷ []) ≡ record {
      text =
          codes "10 send 10 2 1 c80200840001000000020005800800000000001680100000004f0000000000010000000180100000004f000000000000000000018"
          ++ codes "0100000004f0000000000000000000280100000004f0000000000000000000080100000004f0000000000010000000180100000004f0000000000000"
          ++ codes "000000180100000004f000000000000ffffffff\n";
      records = [];
    }
unfolding computing
questions = refl

-- a question for none
question_of_none : came before_unasked 2 1
    (200 ∷ 2 ∷ 0 ∷ 20 ∷ 0 ∷ 1 ∷ 0 ∷ 0 ∷ 0 ∷ 4 ∷ 0 ∷ 2 ∷ 128 ∷ 8 ∷ 0 ∷ 0 ∷ 0 ∷ 0 ∷ 0 ∷ 21 ∷ []) ≡ record {
      text =
          codes "10 send 10 2 1 c802001400010000000200058008000000000016\n";
      records = [];
    }
unfolding computing
question_of_none = refl

abbrev before_of_other_tunnel : List Line
before_of_other_tunnel =
    Lns 7 None ∷ Lac 12 7 None false ∷ Lac 3 7 None false ∷ Ring 12 5 ∷ Deliver 1 ∷ Deliver 2 ∷ Deliver 3 ∷ Deliver 4 ∷ Deliver 5 ∷
    Deliver 6 ∷ Deliver 7 ∷ Deliver 9 ∷ Ring 3 9 ∷ Deliver 10 ∷ Deliver 11 ∷ Deliver 12 ∷ Deliver 13 ∷ Deliver 14 ∷ Deliver 15 ∷
    Deliver 16 ∷ Deliver 18 ∷ Ring 3 8 ∷ Deliver 19 ∷ Deliver 20 ∷ Deliver 21 ∷ Deliver 23 ∷ []

-- a session of another tunnel is not here
of_other_tunnel : came before_of_other_tunnel 7 3
    (200 ∷ 2 ∷ 0 ∷ 100 ∷ 0 ∷ 2 ∷ 0 ∷ 0 ∷ 0 ∷ 6 ∷ 0 ∷ 3 ∷ 128 ∷ 8 ∷ 0 ∷ 0 ∷ 0 ∷ 0 ∷ 0 ∷ 21 ∷ 128 ∷ 16 ∷ 0 ∷ 0 ∷ 0 ∷ 79 ∷ 0 ∷ 0 ∷ 0 ∷ 0 ∷
    0 ∷ 1 ∷ 0 ∷ 0 ∷ 0 ∷ 2 ∷ 128 ∷ 16 ∷ 0 ∷ 0 ∷ 0 ∷ 79 ∷ 0 ∷ 0 ∷ 0 ∷ 0 ∷ 0 ∷ 2 ∷ 0 ∷ 0 ∷ 0 ∷ 3 ∷ 128 ∷ 16 ∷ 0 ∷ 0 ∷ 0 ∷ 79 ∷ 0 ∷ 0 ∷ 0 ∷
    0 ∷ 0 ∷ 1 ∷ 0 ∷ 0 ∷ 0 ∷ 1 ∷ 128 ∷ 16 ∷ 0 ∷ 0 ∷ 0 ∷ 79 ∷ 0 ∷ 0 ∷ 0 ∷ 0 ∷ 0 ∷ 2 ∷ 0 ∷ 0 ∷ 0 ∷ 1 ∷ 128 ∷ 16 ∷ 0 ∷ 0 ∷ 0 ∷ 79 ∷ 0 ∷ 0 ∷
    0 ∷ 0 ∷ 0 ∷ 1 ∷ 0 ∷ 0 ∷ 0 ∷ 3 ∷ []) ≡ record {
      text =
          codes "27 send 24 7 3 c80200640001000000030007800800000000001680100000004f0000000000020000000180100000004f000000000003000000028"
          ++ codes "0100000004f0000000000000000000180100000004f0000000000000000000280100000004f00000000000000000001\n";
      records = [];
    }
unfolding computing
of_other_tunnel = refl

abbrev before_unfinished : List Line
before_unfinished =
    Lns 2 None ∷ Lac 1 2 None false ∷ Ring 1 1 ∷ Deliver 1 ∷ Deliver 2 ∷ Deliver 3 ∷ Deliver 4 ∷ Deliver 6 ∷ Deliver 7 ∷ Ring 1 2 ∷
    Deliver 10 ∷ []

-- a call that is not established is not here
unfinished : came before_unfinished 2 1
    (200 ∷ 2 ∷ 0 ∷ 52 ∷ 0 ∷ 1 ∷ 0 ∷ 0 ∷ 0 ∷ 5 ∷ 0 ∷ 3 ∷ 128 ∷ 8 ∷ 0 ∷ 0 ∷ 0 ∷ 0 ∷ 0 ∷ 21 ∷ 128 ∷ 16 ∷ 0 ∷ 0 ∷ 0 ∷ 79 ∷ 0 ∷ 0 ∷ 0 ∷ 0 ∷
    0 ∷ 1 ∷ 0 ∷ 0 ∷ 0 ∷ 1 ∷ 128 ∷ 16 ∷ 0 ∷ 0 ∷ 0 ∷ 79 ∷ 0 ∷ 0 ∷ 0 ∷ 0 ∷ 0 ∷ 2 ∷ 0 ∷ 0 ∷ 0 ∷ 2 ∷ []) ≡ record {
      text =
          codes "12 send 12 2 1 c80200340001000000030006800800000000001680100000004f0000000000010000000180100000004f00000000000000000002\n";
      records = [];
    }
unfolding computing
unfinished = refl

-- nor one that waits for its ICRP
unfinished_lac : came before_unfinished 1 2
    (200 ∷ 2 ∷ 0 ∷ 52 ∷ 0 ∷ 1 ∷ 0 ∷ 0 ∷ 0 ∷ 2 ∷ 0 ∷ 5 ∷ 128 ∷ 8 ∷ 0 ∷ 0 ∷ 0 ∷ 0 ∷ 0 ∷ 21 ∷ 128 ∷ 16 ∷ 0 ∷ 0 ∷ 0 ∷ 79 ∷ 0 ∷ 0 ∷ 0 ∷ 0 ∷
    0 ∷ 1 ∷ 0 ∷ 0 ∷ 0 ∷ 1 ∷ 128 ∷ 16 ∷ 0 ∷ 0 ∷ 0 ∷ 79 ∷ 0 ∷ 0 ∷ 0 ∷ 0 ∷ 0 ∷ 0 ∷ 0 ∷ 0 ∷ 0 ∷ 2 ∷ []) ≡ record {
      text =
          codes "12 send 12 1 2 c80200340001000000050003800800000000001680100000004f0000000000010000000180100000004f00000000000000000000\n";
      records = [];
    }
unfolding computing
unfinished_lac = refl

-- the session in the header is nothing to an answer
with_session : came before_other_session 2 1
    (200 ∷ 2 ∷ 0 ∷ 52 ∷ 0 ∷ 1 ∷ 0 ∷ 1 ∷ 0 ∷ 7 ∷ 0 ∷ 5 ∷ 128 ∷ 8 ∷ 0 ∷ 0 ∷ 0 ∷ 0 ∷ 0 ∷ 22 ∷ 128 ∷ 16 ∷ 0 ∷ 0 ∷ 0 ∷ 79 ∷ 0 ∷ 0 ∷ 0 ∷ 0 ∷
    0 ∷ 0 ∷ 0 ∷ 0 ∷ 0 ∷ 1 ∷ 128 ∷ 16 ∷ 0 ∷ 0 ∷ 0 ∷ 79 ∷ 0 ∷ 0 ∷ 0 ∷ 0 ∷ 0 ∷ 2 ∷ 0 ∷ 0 ∷ 0 ∷ 2 ∷ []) ≡ record {
      text =
          codes "25 gone 2 1\n"
          ++ codes "25 send 27 2 1 c802000c0001000000050008\n";
      records = CallDown 1 ∷ [];
    }
unfolding computing
with_session = refl

-- a session of nine bytes is a wrong value
short_value : came before_unasked 2 1
    (200 ∷ 2 ∷ 0 ∷ 51 ∷ 0 ∷ 1 ∷ 0 ∷ 0 ∷ 0 ∷ 4 ∷ 0 ∷ 2 ∷ 128 ∷ 8 ∷ 0 ∷ 0 ∷ 0 ∷ 0 ∷ 0 ∷ 21 ∷ 128 ∷ 16 ∷ 0 ∷ 0 ∷ 0 ∷ 79 ∷ 0 ∷ 0 ∷ 0 ∷ 0 ∷
    0 ∷ 1 ∷ 0 ∷ 0 ∷ 0 ∷ 1 ∷ 128 ∷ 15 ∷ 0 ∷ 0 ∷ 0 ∷ 79 ∷ 0 ∷ 0 ∷ 0 ∷ 0 ∷ 0 ∷ 0 ∷ 0 ∷ 0 ∷ 0 ∷ []) ≡ record {
      text =
          codes "10 cause 2 value\n"
          ++ codes "10 gone 2 1\n"
          ++ codes "10 send 10 2 1 c8020026000100000002000580080000000000048008000000090001800a0000000100020003\n";
      records = TunnelDown 1 ∷ [];
    }
unfolding computing
short_value = refl

-- in an answer too
short_answer : came before_unasked 2 1
    (200 ∷ 2 ∷ 0 ∷ 35 ∷ 0 ∷ 1 ∷ 0 ∷ 0 ∷ 0 ∷ 4 ∷ 0 ∷ 2 ∷ 128 ∷ 8 ∷ 0 ∷ 0 ∷ 0 ∷ 0 ∷ 0 ∷ 22 ∷ 128 ∷ 15 ∷ 0 ∷ 0 ∷ 0 ∷ 79 ∷ 0 ∷ 0 ∷ 0 ∷ 0 ∷
    0 ∷ 0 ∷ 0 ∷ 0 ∷ 0 ∷ []) ≡ record {
      text =
          codes "10 cause 2 value\n"
          ++ codes "10 gone 2 1\n"
          ++ codes "10 send 10 2 1 c8020026000100000002000580080000000000048008000000090001800a0000000100020003\n";
      records = TunnelDown 1 ∷ [];
    }
unfolding computing
short_answer = refl

-- an unknown pair that is mandatory
unknown_pair : came before_unasked 2 1
    (200 ∷ 2 ∷ 0 ∷ 26 ∷ 0 ∷ 1 ∷ 0 ∷ 0 ∷ 0 ∷ 4 ∷ 0 ∷ 2 ∷ 128 ∷ 8 ∷ 0 ∷ 0 ∷ 0 ∷ 0 ∷ 0 ∷ 21 ∷ 128 ∷ 6 ∷ 0 ∷ 0 ∷ 0 ∷ 99 ∷ []) ≡ record {
      text =
          codes "10 cause 2 mandatory\n"
          ++ codes "10 gone 2 1\n"
          ++ codes "10 send 10 2 1 c8020026000100000002000580080000000000048008000000090001800a0000000100020008\n";
      records = TunnelDown 1 ∷ [];
    }
unfolding computing
unknown_pair = refl

abbrev before_on_recovery_tunnel : List Line
before_on_recovery_tunnel =
    Lns 2 None ∷ Lac 1 2 None false ∷ Ring 1 1 ∷ Deliver 1 ∷ Deliver 2 ∷ Deliver 3 ∷ Deliver 4 ∷ Deliver 6 ∷ Deliver 7 ∷ Crash 2 ∷
    Start 2 ∷ Deliver 10 ∷ []

-- a recovery tunnel takes it, and passes over it
on_recovery_tunnel : came before_on_recovery_tunnel 1 2
    (200 ∷ 2 ∷ 0 ∷ 36 ∷ 0 ∷ 2 ∷ 0 ∷ 0 ∷ 0 ∷ 1 ∷ 0 ∷ 1 ∷ 128 ∷ 8 ∷ 0 ∷ 0 ∷ 0 ∷ 0 ∷ 0 ∷ 22 ∷ 128 ∷ 16 ∷ 0 ∷ 0 ∷ 0 ∷ 79 ∷ 0 ∷ 0 ∷ 0 ∷ 0 ∷
    0 ∷ 1 ∷ 0 ∷ 0 ∷ 0 ∷ 1 ∷ []) ≡ record {
      text =
          codes "13 send 13 1 2 c802000c0041000000010002\n";
      records = [];
    }
unfolding computing
on_recovery_tunnel = refl

-- one that names no tunnel is for none
at_tunnel_0 : came before_unasked 2 1
    (200 ∷ 2 ∷ 0 ∷ 36 ∷ 0 ∷ 0 ∷ 0 ∷ 0 ∷ 0 ∷ 0 ∷ 0 ∷ 0 ∷ 128 ∷ 8 ∷ 0 ∷ 0 ∷ 0 ∷ 0 ∷ 0 ∷ 21 ∷ 128 ∷ 16 ∷ 0 ∷ 0 ∷ 0 ∷ 79 ∷ 0 ∷ 0 ∷ 0 ∷ 0 ∷
    0 ∷ 1 ∷ 0 ∷ 0 ∷ 0 ∷ 1 ∷ []) ≡ record {
      text =
          codes "10 drop 2 tunnel\n";
      records = [];
    }
unfolding computing
at_tunnel_0 = refl
