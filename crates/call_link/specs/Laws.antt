-- What holds of every call of a link, and of every run of its calls.
use Rattle.std.specs.Prelude.{◌≡◌, ℕ, ◌+◌, false, true, not, ◌&&◌, ◌||◌, IsTrue, if◌then◌else◌, List, [], ◌∷◌, Contains, map, Some, None, is_some}
use Rattle.wire_base.specs.declared.cause.Cause.{Cause}
use Rattle.wire_base.specs.declared.cause.Cause.TheVariants as cause
use Rattle.wire_base.specs.Numbers.{u32_bytes}
use Rattle.lcp_wire.specs.declared.packet.Lcp.{Lcp}
use Rattle.lcp_wire.specs.Spelling.{packet_bytes}
use Rattle.lcp_end.specs.Options.{not_zero}
use Rattle.lcp_end.specs.Steps.{is_opened}
use Rattle.call_link.specs.declared.env.LinkEnv.{LinkEnv}
use Rattle.call_link.specs.declared.turn.LinkTurn.{LinkTurn}
use Rattle.call_link.specs.Link.{Link, magic_of, new_link, is_due, due_of, has_come}
use Rattle.call_link.specs.Frames.{is_for_link, lcp_frame}
use Rattle.call_link.specs.Turns.{LinkCall, Opens, Ticks, Hears, is_called, lcp_turn, still, linked}

-- ---- frames

-- who makes a frame of a link: its LCP end gives the packet in it, where it is called as the link is, in the same step
pub data IsMade (e : LinkEnv) (c : LinkCall) (l : Link) (frame : List ℕ) : Type 0 where
  ByLcp : (p : Lcp) → Contains (lcp_turn e c l.lcp).out.packets (packet_bytes p) → frame ≡ lcp_frame (packet_bytes p) → IsMade e c l frame

abbrev pub EachFrameIsMade : Type 0
EachFrameIsMade = (e : LinkEnv) (c : LinkCall) (l : Link) (frame : List ℕ) → Contains (linked e c l).frames frame → IsMade e c l frame

-- all packets that its LCP end gives are given, in order
abbrev pub EachPacketIsGiven : Type 0
EachPacketIsGiven = (e : LinkEnv) (c : LinkCall) (l : Link) → is_called c l ≡ true
    → (linked e c l).frames ≡ map lcp_frame (lcp_turn e c l.lcp).out.packets

-- its peer takes each of them as one for its own link
abbrev pub EachFrameIsForLink : Type 0
EachFrameIsForLink = (e : LinkEnv) (c : LinkCall) (l : Link) (frame : List ℕ) → Contains (linked e c l).frames frame → is_for_link frame ≡ true

-- ---- runs

-- a call in a step
pub record LinkStep : Type 0 where
  pub env : LinkEnv
  pub call : LinkCall

abbrev pub turn_at : LinkStep → Link → LinkTurn
turn_at s l = linked s.env s.call l

-- the link after all of these steps
abbrev pub last : List LinkStep → Link → Link
last [] l = l
last (s ∷ ss) l = last ss (turn_at s l).link

-- how often it is told that the network opens
abbrev pub openings : List LinkStep → Link → ℕ
openings [] l = 0
openings (s ∷ ss) l = (if (turn_at s l).opens then 1 else 0) + openings ss (turn_at s l).link

-- it is told exactly where frames of the network pass after the call and didn't before; once they pass, they do for good
pub record TellsOpening (l : Link) (t : LinkTurn) : Type 0 where
  pub told : t.opens ≡ (not l.network && t.link.network)
  pub stays : l.network ≡ true → t.link.network ≡ true

abbrev pub EachTellsOpening : Type 0
EachTellsOpening = (e : LinkEnv) (c : LinkCall) (l : Link) → TellsOpening l (linked e c l)

-- so in all steps it is told once, where they pass in the end and didn't before, and else never
pub record OpensOnce (steps : List LinkStep) (l : Link) : Type 0 where
  pub told : openings steps l ≡ (if not l.network && (last steps l).network then 1 else 0)
  pub stays : l.network ≡ true → (last steps l).network ≡ true

abbrev pub EachOpensOnce : Type 0
EachOpensOnce = (steps : List LinkStep) (l : Link) → OpensOnce steps l

-- nothing comes of any of these steps
abbrev pub AreStill : List LinkStep → Link → Type 0
AreStill [] l = Unit {0}
AreStill (s ∷ ss) l = (turn_at s l ≡ still l) × AreStill ss l

-- a link is over from the call on that ends it; nothing comes of it any more
pub record EndsForGood (l : Link) : Type 0 where
  pub over : (s : LinkStep) → (turn_at s l).link.over ≡ (l.over || is_some (turn_at s l).ends)
  pub stays : l.over ≡ true → (steps : List LinkStep) → AreStill steps l

abbrev pub EachEndsForGood : Type 0
EachEndsForGood = (l : Link) → EndsForGood l

-- ---- what is told

-- a call ends for LCP alone, whose end is finished then; nothing is sent beside it, and the network doesn't open
pub record EndsByLcp (e : LinkEnv) (c : LinkCall) (l : Link) (t : LinkTurn) (why : Cause) : Type 0 where
  pub is : why ≡ cause.Lcp
  pub finished : (lcp_turn e c l.lcp).out.finished ≡ true
  pub frames : t.frames ≡ []
  pub opens : t.opens ≡ false

abbrev pub EachEndsByLcp : Type 0
EachEndsByLcp = (e : LinkEnv) (c : LinkCall) (l : Link) (why : Cause) → (linked e c l).ends ≡ Some why → EndsByLcp e c l (linked e c l) why

-- and it ends wherever LCP is finished
abbrev pub EachEndIsTold : Type 0
EachEndIsTold = (e : LinkEnv) (c : LinkCall) (l : Link) → is_called c l ≡ true → (lcp_turn e c l.lcp).out.finished ≡ true
    → (linked e c l).ends ≡ Some cause.Lcp

-- LCP is open where it came up, or was open and didn't go down; it comes up only where it wasn't open, and goes down only where
-- it was
pub record TellsLcp (l : Link) (t : LinkTurn) : Type 0 where
  pub opened : is_opened t.link.lcp ≡ (t.up || (is_opened l.lcp && not t.down))
  pub up : IsTrue t.up → is_opened l.lcp ≡ false
  pub down : IsTrue t.down → is_opened l.lcp ≡ true

abbrev pub EachTellsLcp : Type 0
EachTellsLcp = (e : LinkEnv) (c : LinkCall) (l : Link) → TellsLcp l (linked e c l)

-- ---- what changes nothing

pub record StaysAsItWas (e : LinkEnv) (l : Link) : Type 0 where
  -- a frame of another protocol
  pub foreign : (frame : List ℕ) → is_for_link frame ≡ false → linked e (Hears frame) l ≡ still l
  -- time that passes before the timer runs out
  pub early : is_due e.moment l ≡ false → linked e Ticks l ≡ still l
  -- another block, but where a frame is heard
  pub opening : (block : List ℕ) → linked (record e { block = block }) Opens l ≡ linked e Opens l
  pub ticking : (block : List ℕ) → linked (record e { block = block }) Ticks l ≡ linked e Ticks l

abbrev pub EachStaysAsItWas : Type 0
EachStaysAsItWas = (e : LinkEnv) (l : Link) → StaysAsItWas e l

-- ---- its timer

-- it has run out from the moment on that is told, and at no other
abbrev pub EachTellsDue : Type 0
EachTellsDue = (moment : ℕ) (l : Link) → is_due moment l ≡ has_come moment (due_of l)

-- ---- how a link begins

-- the Configure-Request that asks for an MRU of 1,492 bytes and this magic number
abbrev pub first_frame : ℕ → List ℕ
first_frame magic = 0xc0 ∷ 0x21 ∷ 1 ∷ 1 ∷ 0 ∷ 14 ∷ 1 ∷ 4 ∷ 0x05 ∷ 0xd4 ∷ 5 ∷ 6 ∷ u32_bytes magic

-- it is sent as a new link is opened, and nothing else comes of that; the timer runs from then on
pub record BeginsByAsking (e : LinkEnv) (t : LinkTurn) : Type 0 where
  pub shut : (new_link e).network ≡ false
  pub frames : t.frames ≡ first_frame (not_zero (magic_of e.block)) ∷ []
  pub opens : t.opens ≡ false
  pub ends : t.ends ≡ None
  pub link : t.link ≡ record (new_link e) { lcp = t.link.lcp }
  pub since : t.link.lcp.since ≡ e.moment

abbrev pub EachBeginsByAsking : Type 0
EachBeginsByAsking = (e : LinkEnv) → BeginsByAsking e (linked e Opens (new_link e))
