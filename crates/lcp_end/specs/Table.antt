-- The table of the LCP automaton (RFC 1661 section 4.1), as rows.
use Rattle.std.specs.Prelude.{ℕ, Bool, true, false, ◌==◌, ◌&&◌, not, if◌then◌else◌, List, [], ◌∷◌, length, slice_index_or, Option, Some, None}
use Rattle.std.specs.List.{list_any, list_all}
use Rattle.lcp_end.specs.declared.table.LcpState.{LcpState}
use Rattle.lcp_end.specs.declared.table.LcpState.TheVariants.{Initial, Starting, Closed, Stopped, Closing, Stopping, ReqSent, AckRcvd, AckSent, Opened}
use Rattle.lcp_end.specs.declared.table.LcpEvent.{LcpEvent}
use Rattle.lcp_end.specs.declared.table.LcpEvent.TheVariants.{Up, Down, Opens, Closes, ToMore, ToLast, RcrGood, RcrBad, Rca, Rcn, Rtr, Rta, Ruc, RxjGood, RxjBad, Rxr}
use Rattle.lcp_end.specs.declared.table.LcpActions.{LcpActions}

-- the actions, by the abbreviations of the standard
pub data Action : Type 0 where
  Tlu : Action
  Tld : Action
  Tls : Action
  Tlf : Action
  Irc : Action
  Zrc : Action
  Scr : Action
  Sca : Action
  Scn : Action
  Stq : Action
  Sta : Action
  Scj : Action
  Ser : Action

abbrev pub nothing : LcpActions
nothing = record {
  tlu = false;
  tld = false;
  tls = false;
  tlf = false;
  irc = false;
  zrc = false;
  scr = false;
  sca = false;
  scn = false;
  stq = false;
  sta = false;
  scj = false;
  ser = false;
}

abbrev pub with_action : Action → LcpActions → LcpActions
with_action Tlu a = record a { tlu = true }
with_action Tld a = record a { tld = true }
with_action Tls a = record a { tls = true }
with_action Tlf a = record a { tlf = true }
with_action Irc a = record a { irc = true }
with_action Zrc a = record a { zrc = true }
with_action Scr a = record a { scr = true }
with_action Sca a = record a { sca = true }
with_action Scn a = record a { scn = true }
with_action Stq a = record a { stq = true }
with_action Sta a = record a { sta = true }
with_action Scj a = record a { scj = true }
with_action Ser a = record a { ser = true }

abbrev pub actions_of : List Action → LcpActions
actions_of [] = nothing
actions_of (x ∷ xs) = with_action x (actions_of xs)

-- what is done, and the next state
pub record Cell : Type 0 where
  pub actions : List Action
  pub next : LcpState

abbrev pub to : List Action → LcpState → Option Cell
to a n = Some (record { actions = a; next = n })

-- a pair that can't come
abbrev pub dash : Option Cell
dash = None

-- on this event, by the states in their order
pub record Row : Type 0 where
  pub on : LcpEvent
  pub cells : List (Option Cell)

abbrev pub row : LcpEvent → List (Option Cell) → Row
row e c = record { on = e; cells = c }

abbrev pub rows : List Row
rows =
    row Up (
    to [] Closed ∷ to (Irc ∷ Scr ∷ []) ReqSent
    ∷ dash ∷ dash ∷ dash ∷ dash ∷ dash ∷ dash ∷ dash ∷ dash ∷ []
    )
    ∷ row Down (
    dash ∷ dash
    ∷ to [] Initial ∷ to (Tls ∷ []) Starting ∷ to [] Initial ∷ to [] Starting
    ∷ to [] Starting ∷ to [] Starting ∷ to [] Starting ∷ to (Tld ∷ []) Starting ∷ []
    )
    ∷ row Opens (
    to (Tls ∷ []) Starting ∷ to [] Starting
    ∷ to (Irc ∷ Scr ∷ []) ReqSent ∷ to [] Stopped ∷ to [] Stopping ∷ to [] Stopping
    ∷ to [] ReqSent ∷ to [] AckRcvd ∷ to [] AckSent ∷ to [] Opened ∷ []
    )
    ∷ row Closes (
    to [] Initial ∷ to (Tlf ∷ []) Initial
    ∷ to [] Closed ∷ to [] Closed ∷ to [] Closing ∷ to [] Closing
    ∷ to (Irc ∷ Stq ∷ []) Closing ∷ to (Irc ∷ Stq ∷ []) Closing ∷ to (Irc ∷ Stq ∷ []) Closing
    ∷ to (Tld ∷ Irc ∷ Stq ∷ []) Closing ∷ []
    )
    ∷ row ToMore (
    dash ∷ dash ∷ dash ∷ dash
    ∷ to (Stq ∷ []) Closing ∷ to (Stq ∷ []) Stopping
    ∷ to (Scr ∷ []) ReqSent ∷ to (Scr ∷ []) ReqSent ∷ to (Scr ∷ []) AckSent ∷ dash ∷ []
    )
    ∷ row ToLast (
    dash ∷ dash ∷ dash ∷ dash
    ∷ to (Tlf ∷ []) Closed ∷ to (Tlf ∷ []) Stopped
    ∷ to (Tlf ∷ []) Stopped ∷ to (Tlf ∷ []) Stopped ∷ to (Tlf ∷ []) Stopped ∷ dash ∷ []
    )
    ∷ row RcrGood (
    dash ∷ dash
    ∷ to (Sta ∷ []) Closed ∷ to (Irc ∷ Scr ∷ Sca ∷ []) AckSent ∷ to [] Closing ∷ to [] Stopping
    ∷ to (Sca ∷ []) AckSent ∷ to (Sca ∷ Tlu ∷ []) Opened ∷ to (Sca ∷ []) AckSent
    ∷ to (Tld ∷ Scr ∷ Sca ∷ []) AckSent ∷ []
    )
    ∷ row RcrBad (
    dash ∷ dash
    ∷ to (Sta ∷ []) Closed ∷ to (Irc ∷ Scr ∷ Scn ∷ []) ReqSent ∷ to [] Closing ∷ to [] Stopping
    ∷ to (Scn ∷ []) ReqSent ∷ to (Scn ∷ []) AckRcvd ∷ to (Scn ∷ []) ReqSent
    ∷ to (Tld ∷ Scr ∷ Scn ∷ []) ReqSent ∷ []
    )
    ∷ row Rca (
    dash ∷ dash
    ∷ to (Sta ∷ []) Closed ∷ to (Sta ∷ []) Stopped ∷ to [] Closing ∷ to [] Stopping
    ∷ to (Irc ∷ []) AckRcvd ∷ to (Scr ∷ []) ReqSent ∷ to (Irc ∷ Tlu ∷ []) Opened
    ∷ to (Tld ∷ Scr ∷ []) ReqSent ∷ []
    )
    ∷ row Rcn (
    dash ∷ dash
    ∷ to (Sta ∷ []) Closed ∷ to (Sta ∷ []) Stopped ∷ to [] Closing ∷ to [] Stopping
    ∷ to (Irc ∷ Scr ∷ []) ReqSent ∷ to (Scr ∷ []) ReqSent ∷ to (Irc ∷ Scr ∷ []) AckSent
    ∷ to (Tld ∷ Scr ∷ []) ReqSent ∷ []
    )
    ∷ row Rtr (
    dash ∷ dash
    ∷ to (Sta ∷ []) Closed ∷ to (Sta ∷ []) Stopped ∷ to (Sta ∷ []) Closing ∷ to (Sta ∷ []) Stopping
    ∷ to (Sta ∷ []) ReqSent ∷ to (Sta ∷ []) ReqSent ∷ to (Sta ∷ []) ReqSent
    ∷ to (Tld ∷ Zrc ∷ Sta ∷ []) Stopping ∷ []
    )
    ∷ row Rta (
    dash ∷ dash
    ∷ to [] Closed ∷ to [] Stopped ∷ to (Tlf ∷ []) Closed ∷ to (Tlf ∷ []) Stopped
    ∷ to [] ReqSent ∷ to [] ReqSent ∷ to [] AckSent ∷ to (Tld ∷ Scr ∷ []) ReqSent ∷ []
    )
    ∷ row Ruc (
    dash ∷ dash
    ∷ to (Scj ∷ []) Closed ∷ to (Scj ∷ []) Stopped ∷ to (Scj ∷ []) Closing ∷ to (Scj ∷ []) Stopping
    ∷ to (Scj ∷ []) ReqSent ∷ to (Scj ∷ []) AckRcvd ∷ to (Scj ∷ []) AckSent ∷ to (Scj ∷ []) Opened ∷ []
    )
    ∷ row RxjGood (
    dash ∷ dash
    ∷ to [] Closed ∷ to [] Stopped ∷ to [] Closing ∷ to [] Stopping
    ∷ to [] ReqSent ∷ to [] ReqSent ∷ to [] AckSent ∷ to [] Opened ∷ []
    )
    ∷ row RxjBad (
    dash ∷ dash
    ∷ to (Tlf ∷ []) Closed ∷ to (Tlf ∷ []) Stopped ∷ to (Tlf ∷ []) Closed ∷ to (Tlf ∷ []) Stopped
    ∷ to (Tlf ∷ []) Stopped ∷ to (Tlf ∷ []) Stopped ∷ to (Tlf ∷ []) Stopped
    ∷ to (Tld ∷ Irc ∷ Stq ∷ []) Stopping ∷ []
    )
    ∷ row Rxr (
    dash ∷ dash
    ∷ to [] Closed ∷ to [] Stopped ∷ to [] Closing ∷ to [] Stopping
    ∷ to [] ReqSent ∷ to [] AckRcvd ∷ to [] AckSent ∷ to (Ser ∷ []) Opened ∷ []
    )
    ∷ []

-- the number of a state in the standard's table
abbrev pub state_number : LcpState → ℕ
state_number Initial = 0
state_number Starting = 1
state_number Closed = 2
state_number Stopped = 3
state_number Closing = 4
state_number Stopping = 5
state_number ReqSent = 6
state_number AckRcvd = 7
state_number AckSent = 8
state_number Opened = 9

abbrev pub state_at : ℕ → LcpState
state_at n =
    slice_index_or (Initial ∷ Starting ∷ Closed ∷ Stopped ∷ Closing ∷ Stopping ∷ ReqSent ∷ AckRcvd ∷ AckSent ∷ Opened ∷ []) n Opened

-- to tell events apart
abbrev pub event_number : LcpEvent → ℕ
event_number Up = 0
event_number Down = 1
event_number Opens = 2
event_number Closes = 3
event_number ToMore = 4
event_number ToLast = 5
event_number RcrGood = 6
event_number RcrBad = 7
event_number Rca = 8
event_number Rcn = 9
event_number Rtr = 10
event_number Rta = 11
event_number Ruc = 12
event_number RxjGood = 13
event_number RxjBad = 14
event_number Rxr = 15

abbrev pub is_for : LcpEvent → Row → Bool
is_for e r = event_number r.on == event_number e

-- the cells of the first row for the event
abbrev pub cells_of : LcpEvent → List Row → List (Option Cell)
cells_of e [] = []
cells_of e (r ∷ rs) = if is_for e r then r.cells else cells_of e rs

-- a pair that can't come is ignored: the state stays, and nothing is done
abbrev pub told : LcpState → Option Cell → LcpState × LcpActions
told s (Some c) = (c.next, actions_of c.actions)
told s None = (s, nothing)

abbrev pub entry : LcpState → LcpEvent → LcpState × LcpActions
entry s e = told s (slice_index_or (cells_of e rows) (state_number s) dash)

-- by the numbers of the states
abbrev pub entry_at : ℕ → LcpEvent → ℕ × LcpActions
entry_at n e = let given = entry (state_at n) e in (state_number given.0, given.1)

-- ---- the table is whole

-- the event has a row, and one alone
abbrev pub one_row : LcpEvent → List Row → Bool
one_row e [] = false
one_row e (r ∷ rs) = if is_for e r then not (list_any (is_for e) rs) else one_row e rs

abbrev pub has_ten_cells : Row → Bool
has_ten_cells r = length r.cells == 10

abbrev pub is_whole : LcpEvent → Bool
is_whole e = one_row e rows && list_all has_ten_cells rows
