-- The book of an end: the fold of its checkpoint's records, in order.
use Rattle.std.specs.Prelude.{◌≡◌, ℕ, ◌+◌, ◌<◌, ◌≤◌, ◌==◌, nat_lt, nat_le, ◌&&◌, not, Bool, false, List, [], ◌∷◌, ◌++◌, length, map, filter, insert, AllPairs, slice_get, Option, Some, None, is_some, Result, Ok, Err, if◌then◌else◌}
use Rattle.std.specs.List.{prefix_len}
use Rattle.session_book.specs.declared.record.BookTunnel.{BookTunnel}
use Rattle.session_book.specs.declared.record.BookCall.{BookCall}
use Rattle.session_book.specs.declared.record.Record.{Record}
use Rattle.session_book.specs.declared.record.Record.TheVariants.{Ceiling, TunnelUp, TunnelDown, CallUp, CallDown, Mark}
use Rattle.session_book.specs.declared.book.BookError.{BookError}
use Rattle.session_book.specs.declared.book.BookError.TheVariants.{BadRecord}
use Rattle.session_book.specs.Records.{record_of}

-- what a book has of the records: the ceilings of the three spaces of ids, and the tunnels and the calls that are up,
-- each in the order of the local ids
pub record Kept : Type 0 where
  pub tunnel_ceiling : ℕ
  pub session_ceiling : ℕ
  pub draw_ceiling : ℕ
  pub tunnels : List BookTunnel
  pub calls : List BookCall

abbrev pub nothing_kept : Kept
nothing_kept = record { tunnel_ceiling = 0; session_ceiling = 0; draw_ceiling = 0; tunnels = []; calls = [] }

-- a book, and for how many more contents it has room
pub record Held : Type 0 where
  pub kept : Kept
  pub spare : ℕ

-- ---- lists in the order of their ids

module _ {X : Type 0} (id_of : X → ℕ) where
  -- each id is below those after it, so none stands twice
  abbrev pub AreRising : List X → Type 0
  AreRising entries = AllPairs (λ x y. id_of x < id_of y) entries

  -- how many come before an id
  abbrev pub place : ℕ → List X → ℕ
  place id entries = prefix_len (λ e. nat_lt (id_of e) id) entries

  abbrev pub with_id : ℕ → Option X → Option X
  with_id id (Some e) = if id_of e == id then Some e else None
  with_id id None = None

  -- the one with an id
  abbrev pub entry : ℕ → List X → Option X
  entry id entries = with_id id (slice_get entries (place id entries))

  -- one more, at its place
  abbrev pub put : X → List X → List X
  put e entries = insert entries (place (id_of e) entries) e

abbrev pub tunnel_at : Kept → ℕ → Option BookTunnel
tunnel_at k id = entry (λ t. t.local) id k.tunnels

abbrev pub call_at : Kept → ℕ → Option BookCall
call_at k id = entry (λ c. c.local) id k.calls

abbrev pub calls_of : ℕ → List BookCall → List BookCall
calls_of tunnel calls = filter (λ c. c.tunnel == tunnel) calls

-- ---- spaces of ids: 1 has the tunnel ids, 2 the session ids, 3 the draw numbers

abbrev pub ceiling : Kept → ℕ → ℕ
ceiling k space =
    if space == 1 then k.tunnel_ceiling else if space == 2 then k.session_ceiling else if space == 3 then k.draw_ceiling else 0

-- the last number of a space; no other space has numbers
abbrev pub last : ℕ → ℕ
last space = if space == 1 then 65535 else if space == 2 then 65534 else if space == 3 then 4294967295 else 0

abbrev pub raised : ℕ → ℕ → Kept → Kept
raised space number k =
    if space == 1 then record k { tunnel_ceiling = number }
    else if space == 2 then record k { session_ceiling = number }
    else if space == 3 then record k { draw_ceiling = number }
    else k

-- ---- which record may come next

-- an id that was drawn, and that no one has
abbrev pub is_free : ℕ → ℕ → Bool → Bool
is_free id ceiling taken = (nat_lt 0 id && nat_le id ceiling) && not taken

abbrev pub tunnel_fits : Kept → BookTunnel → Bool
tunnel_fits k t =
    is_free t.local k.tunnel_ceiling (is_some (tunnel_at k t.local))
    && (nat_lt (length k.tunnels) 1024 && (nat_lt 0 t.remote && nat_lt 0 t.window))

abbrev pub call_fits : Kept → BookCall → Bool
call_fits k c =
    is_free c.local k.session_ceiling (is_some (call_at k c.local))
    && (is_some (tunnel_at k c.tunnel) && nat_lt (length (calls_of c.tunnel k.calls)) 4096)

-- a tunnel is there, and has a lesser mark
abbrev pub is_marked_below : ℕ → Option BookTunnel → Bool
is_marked_below mark (Some t) = nat_lt t.mark mark
is_marked_below mark None = false

abbrev pub fits : Kept → Record → Bool
fits k (Ceiling space number) = nat_lt (ceiling k space) number && nat_le number (last space)
fits k (TunnelUp t) = tunnel_fits k t
fits k (TunnelDown id) = is_some (tunnel_at k id)
fits k (CallUp c) = call_fits k c
fits k (CallDown id) = is_some (call_at k id)
fits k (Mark id mark) = is_marked_below mark (tunnel_at k id)

-- ---- the fold

abbrev pub tunnels_without : ℕ → List BookTunnel → List BookTunnel
tunnels_without id tunnels = filter (λ t. not (t.local == id)) tunnels

abbrev pub calls_without : ℕ → List BookCall → List BookCall
calls_without id calls = filter (λ c. not (c.local == id)) calls

abbrev pub calls_not_of : ℕ → List BookCall → List BookCall
calls_not_of tunnel calls = filter (λ c. not (c.tunnel == tunnel)) calls

abbrev pub mark_on : ℕ → ℕ → BookTunnel → BookTunnel
mark_on id mark t = if t.local == id then record t { mark = mark } else t

abbrev pub marked : ℕ → ℕ → List BookTunnel → List BookTunnel
marked id mark tunnels = map (λ t. mark_on id mark t) tunnels

-- a record joins those before it
abbrev pub stepped : Kept → Record → Kept
stepped k (Ceiling space number) = raised space number k
stepped k (TunnelUp t) = record k { tunnels = put (λ x. x.local) t k.tunnels }
stepped k (TunnelDown id) = record k { tunnels = tunnels_without id k.tunnels; calls = calls_not_of id k.calls }
stepped k (CallUp c) = record k { calls = put (λ x. x.local) c k.calls }
stepped k (CallDown id) = record k { calls = calls_without id k.calls }
stepped k (Mark id mark) = record k { tunnels = marked id mark k.tunnels }

abbrev pub is_record_in_place : Kept → Option Record → Bool
is_record_in_place k (Some r) = fits k r
is_record_in_place k None = false

-- a content is in place after those that the book has: it spells a record, and the record fits
abbrev pub is_in_place : Kept → List ℕ → Bool
is_in_place k content = is_record_in_place k (record_of content)

abbrev pub after_record : Kept → Option Record → Kept
after_record k (Some r) = stepped k r
after_record k None = k

-- after a content; one that isn't in place changes nothing
abbrev pub after_content : Kept → List ℕ → Kept
after_content k content = if is_in_place k content then after_record k (record_of content) else k

-- the book of contents from a place on, after those before it, or the first place of a content that isn't in place
abbrev pub folded : Kept → ℕ → List (List ℕ) → Result Kept BookError
folded k at [] = Ok k
folded k at (content ∷ contents) =
    if is_in_place k content then folded (after_content k content) (at + 1) contents else Err (BadRecord at)

-- the book of a checkpoint's contents
abbrev pub book_of : List (List ℕ) → Result Kept BookError
book_of contents = folded nothing_kept 0 contents

-- the lists are in the order of their ids, and there is room for so many further tunnels and calls
pub record IsSound (tunnels : List BookTunnel) (calls : List BookCall) (spare tunnel_capacity call_capacity : ℕ) : Type 0 where
  pub for_tunnels : length tunnels + spare ≤ tunnel_capacity
  pub for_calls : length calls + spare ≤ call_capacity
  pub tunnels_in_order : AreRising (λ t. t.local) tunnels
  pub calls_in_order : AreRising (λ c. c.local) calls

-- how many calls each of the tunnels has
abbrev pub counts_of : List BookTunnel → List BookCall → List ℕ
counts_of tunnels calls = map (λ t. length (calls_of t.local calls)) tunnels

-- the counts say how many calls each tunnel has, and there is room for so many further ones
pub record IsCounted (tunnels : List BookTunnel) (calls : List BookCall) (counts : List ℕ) (spare capacity : ℕ) : Type 0 where
  pub each : counts ≡ counts_of tunnels calls
  pub for_counts : length tunnels + spare ≤ capacity

-- the answer for one content more, where those before it make a book
abbrev pub one_more : Kept → ℕ → List ℕ → Result Kept BookError
one_more k at content = if is_in_place k content then Ok (after_content k content) else Err (BadRecord at)

-- the book of one content more is one step from the book of those before it
abbrev pub EachContentIsAStep : Type 0
EachContentIsAStep =
    (contents : List (List ℕ)) (content : List ℕ) (k : Kept) → book_of contents ≡ Ok k → book_of (contents ++ content ∷ []) ≡ one_more k (length contents) content
