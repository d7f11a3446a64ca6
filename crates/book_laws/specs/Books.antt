-- The book of an end's checkpoint, and the end whose book it is.
use Rattle.std.specs.Prelude.{◌≡◌, ℕ, ◌+◌, ◌≤◌, ◌<◌, true, false, List, [], ◌∷◌, ◌++◌, length, map, replicate, Option, Some, None, is_some, Ok, if◌then◌else◌}
use Rattle.std.specs.List.{AllByRecursion}
use Rattle.id_table.specs.Ids.{at}
use Rattle.id_table.specs.Order.{Ascends}
use Rattle.id_source.specs.Spaces.{Space}
use Rattle.tunnel_fsm.specs.Rows.{state_number}
use Rattle.end_names.specs.declared.role.Role.{Role}
use Rattle.end_names.specs.declared.role.Role.TheVariants.{Lac, Lns}
use Rattle.session_book.specs.declared.record.BookTunnel.{BookTunnel}
use Rattle.session_book.specs.declared.record.BookCall.{BookCall}
use Rattle.session_book.specs.declared.record.Record.{Record}
use Rattle.session_book.specs.declared.record.Record.TheVariants.{CallUp}
use Rattle.session_book.specs.Books.{Kept, nothing_kept, AreRising, tunnel_at, call_at, fits, stepped, book_of}
use Rattle.session_book.specs.Spelling.{content_of, FitsBytes}
use Rattle.end_model.specs.declared.event.Event.{Event}
use Rattle.end_model.specs.declared.moves.Move.{Move}
use Rattle.end_model.specs.declared.tunnel.Call.{Call}
use Rattle.end_model.specs.declared.tunnel.CallPlace.{CallPlace}
use Rattle.end_model.specs.declared.tunnel.Config.{Config}
use Rattle.end_model.specs.declared.tunnel.Control.{Control}
use Rattle.end_model.specs.Calls.{is_up}
use Rattle.end_model.specs.Channels.{peer_window}
use Rattle.end_model.specs.Contents.{records_of, contents_of}
use Rattle.end_model.specs.End.{End, Stepped, new_end, plain_step}
use Rattle.end_model.specs.Moments.{is_open}
use Rattle.end_model.specs.Tunnels.{Tunnel, mode_of, is_current}
use Rattle.step_laws.specs.Looks.{LooksAreTrue}
use Rattle.step_laws.specs.Moves.{Does}
use Rattle.step_laws.specs.Steps.{AreKept, IsOfNoStart}

-- ---- what a book has of an end

-- an established tunnel, with its mark
abbrev pub booked_control : ℕ → Control → BookTunnel
booked_control i c = record { local = i; remote = c.remote; peer = c.peer; window = peer_window c; flags = c.flags; mark = c.mark }

abbrev pub tunnel_record : ℕ → Option Tunnel → Option BookTunnel
tunnel_record i (Some t) = if is_open t.control.state then Some (booked_control i t.control) else None
tunnel_record i None = None

-- an established call of a tunnel
abbrev pub booked_call : ℕ → ℕ → Call → BookCall
booked_call i s c = record { local = s; tunnel = i; remote = c.remote; subscriber = c.subscriber; sequenced = is_some c.sequence }

abbrev pub call_record : ℕ → ℕ → Option Call → Option BookCall
call_record i s (Some c) = if is_up c.state then Some (booked_call i s c) else None
call_record i s None = None

abbrev pub record_in : ℕ → ℕ → Option Tunnel → Option BookCall
record_in i s (Some t) = call_record i s (at t.calls s)
record_in i s None = None

-- the lists of the book have the established tunnels of the end and their established calls, and no others, each once and in order
pub record Mirrors (e : End) (k : Kept) : Type 0 where
  pub tunnels : (i : ℕ) → tunnel_at k i ≡ tunnel_record i (at e.tunnels i)
  pub calls : (s : ℕ) (b : BookCall) → call_at k s ≡ Some b → record_in b.tunnel s (at e.tunnels b.tunnel) ≡ Some b
  pub all_calls : (i s : ℕ) (b : BookCall) → record_in i s (at e.tunnels i) ≡ Some b → call_at k s ≡ Some b
  pub tunnels_rise : AreRising (λ t. t.local) k.tunnels
  pub calls_rise : AreRising (λ c. c.local) k.calls

-- and its ceilings are those of the end's ids
pub record IsBook (e : End) (k : Kept) : Type 0 where
  pub mirrors : Mirrors e k
  pub tunnel_ceiling : k.tunnel_ceiling ≡ e.tunnel_ids.ceiling
  pub session_ceiling : k.session_ceiling ≡ e.session_ids.ceiling
  pub draw_ceiling : k.draw_ceiling ≡ e.recovery_ids.ceiling

-- the ids that the end has drawn are within the ceilings that the book has
pub record AreDrawn (e : End) (k : Kept) : Type 0 where
  pub tunnels : e.tunnel_ids.next ≤ k.tunnel_ceiling + 1
  pub sessions : e.session_ids.next ≤ k.session_ceiling + 1

-- ---- what an end keeps, so that it may have a book

-- a LAC's call has no numbers, and an LNS's no subscriber
abbrev pub HasNone : Role → Call → Type 0
HasNone Lac c = c.sequence ≡ None
HasNone Lns c = c.subscriber ≡ replicate 6 0

-- the id of a call isn't 0 and was drawn, and an established call is in an open tunnel
pub record CallFits (e : End) (t : Tunnel) (s : ℕ) (c : Call) : Type 0 where
  pub some : 0 < s
  pub drawn : s < e.session_ids.next
  pub none : HasNone e.role c
  pub up : is_up c.state ≡ true → state_number t.control.state ≡ 3

-- so is that of a tunnel; it has 4,096 calls at most. The id of its peer's is known where it waits for its SCCCN, and the peer's window
-- always is. It has no mark before it is established, and is established where it is frozen or restored
pub record TunnelFits (e : End) (i : ℕ) (t : Tunnel) : Type 0 where
  pub some : 0 < i
  pub drawn : i < e.tunnel_ids.next
  pub order : Ascends t.calls
  pub few : length t.calls ≤ 4096
  pub remote : state_number t.control.state ≡ 2 → 0 < t.control.remote
  pub window : 0 < peer_window t.control
  pub unmarked : state_number t.control.state < 3 → t.control.mark ≡ 0
  pub recovered : is_current (mode_of t.recovery) ≡ false → state_number t.control.state ≡ 3
  pub calls : (s : ℕ) (c : Call) → at t.calls s ≡ Some c → CallFits e t s c

-- a call is in one tunnel
abbrev pub AreApart : End → Type 0
AreApart e =
    (i : ℕ) (t : Tunnel) → at e.tunnels i ≡ Some t → (j : ℕ) (u : Tunnel) → at e.tunnels j ≡ Some u
    → (s : ℕ) (c : Call) → at t.calls s ≡ Some c → (d : Call) → at u.calls s ≡ Some d → i ≡ j

pub record TablesFit (e : End) : Type 0 where
  pub order : Ascends e.tunnels
  -- 1,024 tunnels at most, the closed ones among them
  pub few : length e.tunnels ≤ 1024
  pub tunnels : (i : ℕ) (t : Tunnel) → at e.tunnels i ≡ Some t → TunnelFits e i t
  pub apart : AreApart e
  pub first_tunnel : 0 < e.tunnel_ids.next
  pub first_session : 0 < e.session_ids.next

-- the numbers of a space end with a last one, and those that were drawn are within its ceiling
pub record SpaceFits (number : ℕ) (s : Space) : Type 0 where
  pub last : s.last ≡ number
  pub drawn : s.next ≤ s.ceiling + 1
  pub within : s.ceiling ≤ number

pub record Fits (e : End) : Type 0 where
  pub tables : TablesFit e
  pub tunnel_ids : SpaceFits 65535 e.tunnel_ids
  pub session_ids : SpaceFits 65534 e.session_ids
  pub recovery_ids : SpaceFits 4294967295 e.recovery_ids

-- ---- records in their places

-- each one fits the book that those before it make
abbrev pub AreInPlace : Kept → List Record → Type 0
AreInPlace k [] = Unit {0}
AreInPlace k (r ∷ rs) = (fits k r ≡ true) × AreInPlace (stepped k r) rs

abbrev pub book_after : Kept → List Record → Kept
book_after k [] = k
book_after k (r ∷ rs) = book_after (stepped k r) rs

-- records in place, whose fields fit their bytes, are spelled as contents that make that book
abbrev pub ContentsHaveTheBook : Type 0
ContentsHaveTheBook =
    (rs : List Record) → AllByRecursion FitsBytes rs → AreInPlace nothing_kept rs → book_of (map (λ r. content_of r) rs) ≡ Ok (book_after nothing_kept rs)

-- ---- what is recorded of the calls of a role

-- a LAC's call has no numbers, and an LNS's no subscriber
abbrev pub RecordsNone : Role → BookCall → Type 0
RecordsNone Lac c = c.sequenced ≡ false
RecordsNone Lns c = c.subscriber ≡ replicate 6 0

-- so it is of each call of a book, and of one that comes up by a record
abbrev pub SuitsRole : Role → Kept → Type 0
SuitsRole r k = AllByRecursion (RecordsNone r) k.calls

abbrev pub LeavesNone : Role → Record → Type 0
LeavesNone r (CallUp c) = RecordsNone r c
LeavesNone r x = Unit {0}

-- ---- the laws

-- the records of a move, and the book after them
pub record MoveIsBooked (x : End) (k : Kept) (m : Move) : Type 0 where
  pub in_place : AreInPlace k (records_of m)
  pub mirrors : Mirrors x (book_after k (records_of m))
  pub fit : TablesFit x

-- of each move of a step; the two that only a start makes are about tunnels that the book has and the end has no more
abbrev pub MovesAreBooked : Type 0
MovesAreBooked =
    (e : End) (k : Kept) → TablesFit e → AreDrawn e k → Mirrors e k → (moment : ℕ) (ev : Event) (m : Move) (x : End) → IsOfNoStart m
    → Does e moment ev m x → MoveIsBooked x k m

-- the records of a step, and the book after them
pub record StepIsBooked (e : End) (k : Kept) (s : Stepped) : Type 0 where
  pub in_place : AreInPlace k (contents_of e s)
  pub book : IsBook s.end (book_after k (contents_of e s))
  pub fit : Fits s.end
  pub calls : AllByRecursion (LeavesNone e.role) (contents_of e s)
  pub role : s.end.role ≡ e.role

abbrev pub StepsAreBooked : Type 0
StepsAreBooked =
    (e : End) (k : Kept) → AreKept e → Fits e → IsBook e k → (moment : ℕ) (block : List ℕ) (ev : Event)
    → StepIsBooked e k (plain_step e moment block ev)

-- what comes to an end, at a moment, with a block of random bytes
pub record Coming : Type 0 where
  pub moment : ℕ
  pub block : List ℕ
  pub event : Event

abbrev pub step_on : End → Coming → Stepped
step_on e c = plain_step e c.moment c.block c.event

-- an end after all that came, and what it left in its checkpoint
abbrev pub end_after : End → List Coming → End
end_after e [] = e
end_after e (c ∷ cs) = end_after (step_on e c).end cs

abbrev pub left_by : End → List Coming → List Record
left_by e [] = []
left_by e (c ∷ cs) = contents_of e (step_on e c) ++ left_by (step_on e c).end cs

pub record RunIsBooked (e : End) (k : Kept) (cs : List Coming) : Type 0 where
  pub in_place : AreInPlace k (left_by e cs)
  pub book : IsBook (end_after e cs) (book_after k (left_by e cs))
  pub fit : Fits (end_after e cs)

-- from an end and its book on
abbrev pub RunsAreBooked : Type 0
RunsAreBooked = (e : End) (k : Kept) → AreKept e → Fits e → IsBook e k → (cs : List Coming) → RunIsBooked e k cs

-- a new end has a book without records
abbrev pub NewEndsAreBooked : Type 0
NewEndsAreBooked = (r : Role) (c : Config) (cs : List Coming) → RunIsBooked (new_end r c) nothing_kept cs

-- what is recorded of the call at a session's place
abbrev pub place_record : End → ℕ → Option CallPlace → Option BookCall
place_record e s (Some p) = record_in p.tunnel s (at e.tunnels p.tunnel)
place_record e s None = None

-- it is the one that the book has
abbrev pub CallsAreByPlace : Type 0
CallsAreByPlace = (e : End) (k : Kept) → LooksAreTrue e → Mirrors e k → (s : ℕ) → call_at k s ≡ place_record e s (at e.calls s)
