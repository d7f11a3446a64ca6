-- What a link does at each call: the link after it, and what it gives to the call around it.
use Rattle.std.specs.Prelude.{ℕ, Bool, false, not, ◌&&◌, ◌||◌, if◌then◌else◌, List, [], map, drop, Option, Some, None}
use Rattle.wire_base.specs.declared.cause.Cause.{Cause}
use Rattle.wire_base.specs.declared.cause.Cause.TheVariants as cause
use Rattle.lcp_end.specs.declared.out.LcpOut.{LcpOut}
use Rattle.lcp_end.specs.declared.state.EndState.{EndState}
use Rattle.lcp_end.specs.Steps.{Turn as LcpTurn, opened, ticked, after_packet}
use Rattle.call_link.specs.declared.env.LinkEnv.{LinkEnv}
use Rattle.call_link.specs.declared.turn.LinkTurn.{LinkTurn}
use Rattle.call_link.specs.Link.{Link}
use Rattle.call_link.specs.Frames.{is_for_link, lcp_frame}

pub data LinkCall : Type 0 where
  -- the call was connected
  Opens : LinkCall
  -- time passes
  Ticks : LinkCall
  -- a PPP frame came up the call
  Hears : List ℕ → LinkCall

-- a link that is over does nothing more, and a frame of another protocol is nothing to it
abbrev pub is_called : LinkCall → Link → Bool
is_called Opens l = not l.over
is_called Ticks l = not l.over
is_called (Hears frame) l = not l.over && is_for_link frame

-- what its LCP end does then
abbrev pub lcp_turn : LinkEnv → LinkCall → EndState → LcpTurn
lcp_turn e Opens k = opened e.moment k
lcp_turn e Ticks k = ticked e.moment k
lcp_turn e (Hears frame) k = after_packet (drop 2 frame) e.block e.moment k

-- once LCP was open, frames of the network pass as long as the call lives
abbrev pub link_after : Link → LcpTurn → Link
link_after l v = record { lcp = v.kept; network = l.network || v.out.up; over = v.out.finished }

-- LCP is open for the first time in the call
abbrev pub is_first_open : Link → LcpOut → Bool
is_first_open l out = out.up && not l.network

-- the call ends where LCP is finished
abbrev pub end_by : Bool → Option Cause
end_by finished = if finished then Some cause.Lcp else None

abbrev pub turned : Link → LcpTurn → LinkTurn
turned l v = record {
  link = link_after l v;
  frames = map lcp_frame v.out.packets;
  opens = is_first_open l v.out;
  ends = end_by v.out.finished;
  up = v.out.up;
  down = v.out.down;
}

-- nothing comes of the call
abbrev pub still : Link → LinkTurn
still l = record { link = l; frames = []; opens = false; ends = None; up = false; down = false }

unfoldable pub linked : LinkEnv → LinkCall → Link → LinkTurn
linked e c l = if is_called c l then turned l (lcp_turn e c l.lcp) else still l
