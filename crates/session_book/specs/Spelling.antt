-- Records as the contents that spell them, and the contents that a book is compacted to.
use Rattle.std.specs.Prelude.{◌≡◌, ℕ, ◌<◌, ◌≤◌, ◌^◌, ◌==◌, Bool, true, List, [], ◌∷◌, ◌++◌, length, map, replicate, Some, is_some, Ok, if◌then◌else◌}
use Rattle.std.specs.List.{AllByRecursion}
use Rattle.wire_base.specs.Numbers.{u16_bytes, u32_bytes}
use Rattle.session_book.specs.declared.record.BookTunnel.{BookTunnel}
use Rattle.session_book.specs.declared.record.BookCall.{BookCall}
use Rattle.session_book.specs.declared.record.Record.{Record}
use Rattle.session_book.specs.declared.record.Record.TheVariants.{Ceiling, TunnelUp, TunnelDown, CallUp, CallDown, Mark}
use Rattle.session_book.specs.Records.{record_of}
use Rattle.session_book.specs.Books.{Kept, nothing_kept, AreRising, entry, calls_of, fits, stepped, book_of}

abbrev pub flag : Bool → ℕ
flag b = if b then 1 else 0

-- a byte for the kind, then the fields, then zeros up to 31 bytes
unfoldable pub content_of : Record → List ℕ
content_of (Ceiling space number) = 1 ∷ space ∷ (u32_bytes number ++ replicate 25 0)
content_of (TunnelUp t) =
    2 ∷ (u16_bytes t.local ++ (u16_bytes t.remote ++ (u32_bytes t.peer ++ (u16_bytes t.window ++ (u16_bytes t.flags ++ replicate 18 0)))))
content_of (TunnelDown local) = 3 ∷ (u16_bytes local ++ replicate 28 0)
content_of (CallUp c) =
    4 ∷ (u16_bytes c.local ++ (u16_bytes c.tunnel ++ (u16_bytes c.remote ++ (c.subscriber ++ (flag c.sequenced ∷ replicate 17 0)))))
content_of (CallDown local) = 5 ∷ (u16_bytes local ++ replicate 28 0)
content_of (Mark tunnel mark) = 6 ∷ (u16_bytes tunnel ++ (u32_bytes mark ++ replicate 24 0))

-- the fields fit their bytes
pub record FitsTunnel (t : BookTunnel) : Type 0 where
  pub local : t.local < 2 ^ 16
  pub remote : t.remote < 2 ^ 16
  pub peer : t.peer < 2 ^ 32
  pub window : t.window < 2 ^ 16
  pub flags : t.flags < 2 ^ 16
  pub mark : t.mark < 2 ^ 32

pub record FitsCall (c : BookCall) : Type 0 where
  pub local : c.local < 2 ^ 16
  pub tunnel : c.tunnel < 2 ^ 16
  pub remote : c.remote < 2 ^ 16
  pub subscriber : length c.subscriber ≡ 6

-- the fields of a record fit their bytes
abbrev pub FitsFields : Record → Type 0
FitsFields (Ceiling space number) = number < 2 ^ 32
FitsFields (TunnelUp t) = FitsTunnel t
FitsFields (TunnelDown local) = local < 2 ^ 16
FitsFields (CallUp c) = FitsCall c
FitsFields (CallDown local) = local < 2 ^ 16
FitsFields (Mark tunnel mark) = (tunnel < 2 ^ 16) × (mark < 2 ^ 32)

-- and a tunnel comes up without a mark
abbrev pub FitsBytes : Record → Type 0
FitsBytes (Ceiling space number) = number < 2 ^ 32
FitsBytes (TunnelUp t) = FitsTunnel t × (t.mark ≡ 0)
FitsBytes (TunnelDown local) = local < 2 ^ 16
FitsBytes (CallUp c) = FitsCall c
FitsBytes (CallDown local) = local < 2 ^ 16
FitsBytes (Mark tunnel mark) = (tunnel < 2 ^ 16) × (mark < 2 ^ 32)

-- what is spelled is read again
abbrev pub RecordsAreReadAgain : Type 0
RecordsAreReadAgain = (r : Record) → FitsBytes r → record_of (content_of r) ≡ Some r

-- ---- the records that a book is compacted to

-- one for a ceiling that isn't 0
abbrev pub ceiling_records : ℕ → ℕ → List Record
ceiling_records space number = if number == 0 then [] else Ceiling space number ∷ []

-- a tunnel comes up, and has its mark where that isn't 0
abbrev pub tunnel_records : BookTunnel → List Record
tunnel_records t = TunnelUp (record t { mark = 0 }) ∷ (if t.mark == 0 then [] else Mark t.local t.mark ∷ [])

abbrev pub tunnels_records : List BookTunnel → List Record
tunnels_records [] = []
tunnels_records (t ∷ tunnels) = tunnel_records t ++ tunnels_records tunnels

abbrev pub calls_records : List BookCall → List Record
calls_records [] = []
calls_records (c ∷ calls) = CallUp c ∷ calls_records calls

-- ceilings by space, then the tunnels and then the calls, each by its local id
abbrev pub records_of : Kept → List Record
records_of k =
    ceiling_records 1 k.tunnel_ceiling ++ (ceiling_records 2 k.session_ceiling ++ (ceiling_records 3 k.draw_ceiling
    ++ (tunnels_records k.tunnels ++ calls_records k.calls)))

abbrev pub contents_of : Kept → List (List ℕ)
contents_of k = map (λ r. content_of r) (records_of k)

-- ---- the book of these contents

-- a tunnel that may stand in a book, and a call over one of these tunnels
pub record IsKeptTunnel (ceiling : ℕ) (t : BookTunnel) : Type 0 where
  pub drawn : 0 < t.local
  pub within : t.local ≤ ceiling
  pub remote : 0 < t.remote
  pub window : 0 < t.window
  pub fits : FitsTunnel t

pub record IsKeptCall (ceiling : ℕ) (tunnels : List BookTunnel) (c : BookCall) : Type 0 where
  pub drawn : 0 < c.local
  pub within : c.local ≤ ceiling
  pub over : is_some (entry (λ t. t.local) c.tunnel tunnels) ≡ true
  pub fits : FitsCall c

-- what a book holds fits together
pub record IsWhole (k : Kept) : Type 0 where
  pub tunnel_ceiling : k.tunnel_ceiling ≤ 65535
  pub session_ceiling : k.session_ceiling ≤ 65534
  pub draw_ceiling : k.draw_ceiling ≤ 4294967295
  pub tunnels : AllByRecursion (IsKeptTunnel k.tunnel_ceiling) k.tunnels
  pub tunnels_in_order : AreRising (λ t. t.local) k.tunnels
  pub few_tunnels : length k.tunnels ≤ 1024
  pub calls : AllByRecursion (IsKeptCall k.session_ceiling k.tunnels) k.calls
  pub calls_in_order : AreRising (λ c. c.local) k.calls
  pub few_calls : (tunnel : ℕ) → length (calls_of tunnel k.calls) ≤ 4096

-- the contents that a whole book is compacted to have the same book
abbrev pub ContentsKeepTheBook : Type 0
ContentsKeepTheBook = (k : Kept) → IsWhole k → book_of (contents_of k) ≡ Ok k

-- no records have a whole book, and a record that fits, also one of a tunnel that comes up with a mark, keeps it whole
abbrev pub RecordsKeepItWhole : Type 0
RecordsKeepItWhole = IsWhole nothing_kept × ((k : Kept) (r : Record) → IsWhole k → FitsFields r → fits k r ≡ true → IsWhole (stepped k r))
