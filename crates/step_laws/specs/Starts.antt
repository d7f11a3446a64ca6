-- A start over a book is a chain of moves too: each tunnel that was kept comes back or is forgotten, and the links of its calls are opened.
use Rattle.std.specs.Prelude.{ℕ, ◌<◌, ◌≤◌, true, List, length, ◌≡◌, None, is_some}
use Rattle.session_book.specs.declared.record.BookTunnel.{BookTunnel}
use Rattle.session_book.specs.Books.{Kept, AreRising, tunnel_at, calls_of}
use Rattle.end_names.specs.declared.role.Role.{Role}
use Rattle.end_model.specs.declared.tunnel.Config.{Config}
use Rattle.end_model.specs.declared.event.Event.{Event}
use Rattle.end_model.specs.declared.moves.Move.{Move}
use Rattle.end_model.specs.declared.moves.Move.TheVariants as move
use Rattle.end_model.specs.Starting.{bare_end, starts}
use Rattle.step_laws.specs.Steps.{IsChain}
use Rattle.step_laws.specs.Looks.{LooksAreTrue}
use Rattle.end_model.specs.End.{End, Stepped}
use Rattle.step_laws.specs.Left.{AreFew, AreSound, AreAsked}
use Rattle.std.specs.List.{AllByRecursion, AllPairs}
use Rattle.id_table.specs.Ids.{at}
use Rattle.session_book.specs.declared.record.BookCall.{BookCall}
use Rattle.step_laws.specs.Gone.{gone_in}
use Rattle.step_laws.specs.Letters.{Among}

-- ---- books of which an end may start

-- a tunnel that may stand in a book, and a call in one of its tunnels
pub record IsSoundTunnel (ceiling : ℕ) (t : BookTunnel) : Type 0 where
  pub some : 0 < t.local
  pub within : t.local ≤ ceiling
  pub remote : 0 < t.remote
  pub window : 0 < t.window

pub record IsSoundCall (ceiling : ℕ) (c : BookCall) : Type 0 where
  pub some : 0 < c.local
  pub within : c.local ≤ ceiling

-- what a book holds fits together: its ceilings are within their spaces, and the ids of its tunnels and calls within them; its lists rise, and
-- have no more than there may be; and each of its calls is in one of its tunnels
pub record IsSoundBook (k : Kept) : Type 0 where
  pub tunnel_ceiling : k.tunnel_ceiling ≤ 65535
  pub session_ceiling : k.session_ceiling ≤ 65534
  pub draw_ceiling : k.draw_ceiling ≤ 4294967295
  pub tunnels : AllByRecursion (IsSoundTunnel k.tunnel_ceiling) k.tunnels
  pub calls : AllByRecursion (IsSoundCall k.session_ceiling) k.calls
  pub tunnels_rise : AreRising (λ t. t.local) k.tunnels
  pub calls_rise : AreRising (λ c. c.local) k.calls
  pub homes : AllByRecursion (λ (c : BookCall). is_some (tunnel_at k c.tunnel) ≡ true) k.calls
  pub few_tunnels : length k.tunnels ≤ 1024
  pub few_calls : (i : ℕ) → length (calls_of i k.calls) ≤ 4096

-- ---- starts

-- over a sound book; no event is part of a start: it is a chain whatever comes then
abbrev pub StartsAreChains : Type 0
StartsAreChains =
    (r : Role) (c : Config) (k : Kept) → IsSoundBook k → (moment : ℕ) (block : List ℕ) (ev : Event) → IsChain (bare_end r c k) moment ev (starts r c k moment block)

-- a move of a call's link, as it is opened: it is called, a data message is counted, or a frame goes
abbrev pub IsOfLink : Move → Type 0
IsOfLink (move.Negotiated m) = Unit {0}
IsOfLink (move.Counted m) = Unit {0}
IsOfLink (move.FrameSent m) = Unit {0}
IsOfLink m = ⊥

-- a move of a start: a tunnel of the book comes back, with the calls that the book has of it; a tunnel is forgotten; or it is of a link
abbrev pub IsOfStart : Kept → Move → Type 0
IsOfStart k (move.Restored m) = Among m.tunnel k.tunnels × (m.calls ≡ calls_of m.tunnel.local k.calls)
IsOfStart k (move.Forgot m) = Unit {0}
IsOfStart k m = IsOfLink m

abbrev pub StartsAreOfBooks : Type 0
StartsAreOfBooks =
    (r : Role) (c : Config) (k : Kept) → IsSoundBook k → (moment : ℕ) (block : List ℕ)
    → AllByRecursion (IsOfStart k) (starts r c k moment block).moves

-- what the data plane sees of each session is so then
abbrev pub StartsLookTrue : Type 0
StartsLookTrue = (r : Role) (c : Config) (k : Kept) → IsSoundBook k → (moment : ℕ) (block : List ℕ) → LooksAreTrue (starts r c k moment block).end

-- so many tunnels and such calls are there as there may be, and no call waits for its tunnel
pub record AreAllowed (e : End) : Type 0 where
  pub few : AreFew e
  pub sound : AreSound e
  pub asked : AreAsked e

abbrev pub StartsAreAllowed : Type 0
StartsAreAllowed = (r : Role) (c : Config) (k : Kept) → IsSoundBook k → (moment : ℕ) (block : List ℕ) → AreAllowed (starts r c k moment block).end

-- what a start tells as gone: no session twice, and each that of a call of the book, which has no place then
pub record TellsForgotten (k : Kept) (s : Stepped) : Type 0 where
  pub once : AllPairs (λ before after. before ≡ after → ⊥) (gone_in s.outputs)
  pub had : (q : ℕ) → Among q (gone_in s.outputs) → (c : BookCall) × (Among c k.calls × (q ≡ c.local))
  pub left : (q : ℕ) → Among q (gone_in s.outputs) → at s.end.calls q ≡ None

abbrev pub StartsTellForgotten : Type 0
StartsTellForgotten = (r : Role) (c : Config) (k : Kept) → IsSoundBook k → (moment : ℕ) (block : List ℕ) → TellsForgotten k (starts r c k moment block)
