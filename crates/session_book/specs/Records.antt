-- The records of a checkpoint as bytes: a content is 31 bytes, a byte for the kind, then the fields, the highest byte of a
-- number first, then zeros.
use Rattle.std.specs.Prelude.{ℕ, ◌+◌, ◌==◌, nat_le, ◌&&◌, Bool, List, ◌++◌, length, drop, take, slice_index, Option, Some, None, if◌then◌else◌}
use Rattle.std.specs.List.{list_all}
use Rattle.byteorder.specs.Endian.{big_number}
use Rattle.session_book.specs.declared.record.Record.{Record}
use Rattle.session_book.specs.declared.record.Record.TheVariants.{Ceiling, TunnelUp, TunnelDown, CallUp, CallDown, Mark}

-- the number in the n bytes from a place
abbrev pub number : ℕ → List ℕ → ℕ → ℕ
number n content at = big_number n (drop at content)

-- all bytes from a place on are 0
abbrev pub is_zero_from : List ℕ → ℕ → Bool
is_zero_from content at = list_all (λ byte. byte == 0) (drop at content)

-- 1: the space in a byte, and the ceiling
abbrev pub ceiling_of : List ℕ → Option Record
ceiling_of c = if is_zero_from c 6 then Some (Ceiling (slice_index c 1) (number 4 c 2)) else None

-- 2: local id, remote id, peer, the peer's window, and the failover flags
abbrev pub tunnel_up_of : List ℕ → Option Record
tunnel_up_of c =
    if is_zero_from c 13
    then Some (TunnelUp (record { local = number 2 c 1; remote = number 2 c 3; peer = number 4 c 5; window = number 2 c 9; flags = number 2 c 11; mark = 0 }))
    else None

-- 3: local id
abbrev pub tunnel_down_of : List ℕ → Option Record
tunnel_down_of c = if is_zero_from c 3 then Some (TunnelDown (number 2 c 1)) else None

-- 4: local id, its tunnel's local id, remote id, the subscriber's address, and whether it is sequenced
abbrev pub call_up_of : List ℕ → Option Record
call_up_of c =
    if is_zero_from c 14 && nat_le (slice_index c 13) 1
    then Some (CallUp (record { local = number 2 c 1; tunnel = number 2 c 3; remote = number 2 c 5; subscriber = take 6 (drop 7 c); sequenced = slice_index c 13 == 1 }))
    else None

-- 5: local id
abbrev pub call_down_of : List ℕ → Option Record
call_down_of c = if is_zero_from c 3 then Some (CallDown (number 2 c 1)) else None

-- 6: the tunnel's local id, and the mark
abbrev pub mark_of : List ℕ → Option Record
mark_of c = if is_zero_from c 7 then Some (Mark (number 2 c 1) (number 4 c 3)) else None

abbrev pub record_by : ℕ → List ℕ → Option Record
record_by kind c =
    if kind == 1 then ceiling_of c
    else if kind == 2 then tunnel_up_of c
    else if kind == 3 then tunnel_down_of c
    else if kind == 4 then call_up_of c
    else if kind == 5 then call_down_of c
    else if kind == 6 then mark_of c
    else None

-- the record that a content spells, where it spells one
unfoldable pub record_of : List ℕ → Option Record
record_of c = record_by (slice_index c 0) c

-- with other bytes from a place on
abbrev pub with_bytes : List ℕ → ℕ → List ℕ → List ℕ
with_bytes content at bytes = take at content ++ bytes ++ drop (at + length bytes) content
