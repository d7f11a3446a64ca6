-- A classic pcap file, each number the highest byte first.
use Rattle.std.specs.Prelude.{ℕ, List, ◌++◌, length}
use Rattle.wire_base.specs.Numbers.{u16_bytes, u32_bytes}

-- The head of the file: the magic number of files whose records have microseconds, version 2.4, no correction of the time zone, no
-- accuracy of moments, as many bytes as a record has at most, and Ethernet.
unfoldable pub file_head : List ℕ
file_head =
    u32_bytes 0xa1b2c3d4 ++ u16_bytes 2 ++ u16_bytes 4 ++ u32_bytes 0 ++ u32_bytes 0 ++ u32_bytes 262144 ++ u32_bytes 1

-- a whole frame that was seen in this second: seconds, microseconds, how many of its bytes are here, how many it has
unfoldable pub record_bytes : ℕ → List ℕ → List ℕ
record_bytes second frame =
    u32_bytes second ++ u32_bytes 0 ++ u32_bytes (length frame) ++ u32_bytes (length frame) ++ frame
