-- Tunnels that are recovered after a crash (RFC 4951): what goes over the wire, what is refused, and what the tables tell.
use Rattle.std.specs.Prelude.{◌≡◌, ℕ, ◌==◌, List, [], ◌∷◌, ◌++◌, filter, codes, Some, None, false}
use Rattle.wire_base.specs.declared.why.Why.TheVariants as why
use Rattle.schedule_text.specs.declared.line.Line.{Line}
use Rattle.schedule_text.specs.declared.line.Line.TheVariants.{Lac, Lns, OpenUp, Ring, Hang, Deliver, Crash, Start}
use Rattle.world_model.specs.declared.refusal.Refusal.TheVariants.{Stale}
use Rattle.world_model.specs.Texts.{Entry, Drops, Ends, entries_text}
use Rattle.world_model.specs.Run.{run, tables}
use Rattle.run_examples.specs.Entries.{line_in, entries_since}

-- a LAC and an LNS have an open tunnel
abbrev pub open_tunnel : List Line
open_tunnel = Lns 2 None ∷ Lac 1 2 None false ∷ OpenUp 1 ∷ Deliver 1 ∷ Deliver 2 ∷ Deliver 3 ∷ Deliver 4 ∷ []

-- a call is up in it
abbrev pub open_call : List Line
open_call = Lns 2 None ∷ Lac 1 2 None false ∷ Ring 1 1 ∷ Deliver 1 ∷ Deliver 2 ∷ Deliver 3 ∷ Deliver 4 ∷ Deliver 6 ∷ Deliver 7 ∷ []

-- the entries of one line
abbrev pub entries_at : ℕ → List Entry → List Entry
entries_at line entries = filter (λ x. line_in x == line) entries

-- The LNS crashes and attempts the recovery. A message that the LAC sent before the reset, in epoch 0, comes to the LNS behind it.
abbrev pub stale : List Line
stale = open_tunnel ++ Crash 2 ∷ Start 2 ∷ Deliver 5 ∷ Deliver 6 ∷ Deliver 3 ∷ []

pub record OldEpochsAreRefused : Type 0 where
  pub fault : (run stale).fault ≡ Some (12, Stale 0 1)

-- Both crash. The LAC attempts the same, so it drops the LNS's attempt, and the LNS answers the LAC's. The LNS's SCCRQ that comes again
-- then has a draw number below the LAC's mark.
abbrev pub both : List Line
both = open_tunnel ++ Crash 2 ∷ Start 2 ∷ Crash 1 ∷ Start 1 ∷ Deliver 5 ∷ Deliver 6 ∷ Deliver 7 ∷ Deliver 8 ∷ Deliver 5 ∷ []

pub record BothEndsRecover : Type 0 where
  pub tied : entries_at 12 (run both).entries ≡ Drops 12 1 why.Tie ∷ []
  pub marked : entries_at 16 (run both).entries ≡ Drops 16 1 why.Mark ∷ []
  pub tables : tables (run both).world ≡
      codes "end 1 tunnel 1 2 1 established 1 current complete\n"
      ++ codes "end 2 tunnel 1 1 1 established 1 current complete\n"
      ++ codes "agree 1 1 2 1 0\n"

-- A call is hung up at the end that answers, while its tunnel is frozen: the call ends, and no message tells the other end.
abbrev pub leaving : List Line
leaving = open_call ++ Crash 2 ∷ Start 2 ∷ Deliver 10 ∷ Hang 1 1 ∷ []

pub record FrozenCallsEndSilently : Type 0 where
  pub entries : entries_since 13 (run leaving).entries ≡ Ends 13 1 1 None ∷ []
  pub tables : tables (run leaving).world ≡
      codes "end 1 tunnel 1 2 1 established 0 frozen complete\n"
      ++ codes "end 2 tunnel 1 1 1 established 0 restored complete\n"
      ++ codes "end 2 call 1 1 1 established 1\n"

-- Of two calls one is hung up at the LAC before the LNS, which isn't told, crashes. As it starts, its SCCRQ goes out, and an LCP request
-- in each call. The LAC answers with the numbers to go on with: the LNS is to send 3 first and to expect 7. The LNS confirms it, and asks for both
-- calls, of which the LAC has one.
abbrev pub day : List Line
day = open_call ++ Ring 1 2 ∷ Deliver 10 ∷ Deliver 11 ∷ Deliver 12 ∷ Hang 1 2 ∷ Crash 2 ∷ Start 2 ∷ Deliver 16 ∷ Deliver 19 ∷ []

pub record TunnelsAreRecovered : Type 0 where
  pub entries : entries_text (entries_since 16 (run day).entries) ≡
      codes "16 send 16 2 1 c8020066000000000000000080080000000000018008000000020100800a0000000300000003800a000000076c6e7332"
      ++ codes "800800000009004180080000000a0008000c0000004c00030000753080100000004d00000000000100000001000affff000100000001\n"
      ++ codes "16 send 17 2 1 000200010001ff03c0210101000e010405d4050600000010\n"
      ++ codes "16 send 18 2 1 000200010002ff03c0210101000e010405d4050600000010\n"
      ++ codes "17 send 19 1 2 c8020062004100000000000180080000000000028008000000020100800a0000000300000003800a000000076c616331"
      ++ codes "800800000009000280080000000a0008000c0000004c000300007530800c0000004e000000030007000affff000100000001\n"
      ++ codes "18 send 20 2 1 c802001400020000000100018008000000000003\n"
      ++ codes "18 send 21 2 1 c80200340001000000030007800800000000001580100000004f0000000000010000000180100000004f00000000000200000002\n"
