-- What becomes of a data message, as places in its datagram.
use Rattle.std.specs.Prelude.{ℕ, ◌+◌, ◌-◌, ◌≡◌, List, [], ◌∷◌, Bool, true, false, nat_lt, bytes_eq, take, drop, if◌then◌else◌, Option, Some, None, Result, Ok, Err}
use Rattle.l2tp_header.specs.declared.header.Header.{Header}
use Rattle.l2tp_header.specs.declared.header.HeaderError.{HeaderError}
use Rattle.l2tp_header.specs.Reading.{header_of, body_of}
use Rattle.end_names.specs.declared.role.Role.{Role}
use Rattle.end_names.specs.declared.role.Role.TheVariants.{Lac, Lns}
use Rattle.session_looks.specs.declared.look.Look.{Look}
use Rattle.session_looks.specs.declared.look.Look.TheVariants as look
use Rattle.session_looks.specs.Frames.{Carried, Upward, Dropped, carry_look, frame_of, header_why}
use Rattle.session_cells.specs.declared.entry.Entry.{Entry}
use Rattle.session_cells.specs.Logs.{look_after}
use Rattle.data_plane.specs.declared.carry.Carry.{Carry}
use Rattle.data_plane.specs.declared.carry.Carry.TheVariants as carry

abbrev pub role_of : Bool → Role
role_of true = Lns
role_of false = Lac

-- where the frame of a body stands that begins at a place
abbrev pub place_in : ℕ → List ℕ → ℕ
place_in start body = if bytes_eq (take 2 body) (255 ∷ 3 ∷ []) then start + 2 else start

abbrev pub carry_as : Header → List ℕ → Carried → Carry
carry_as h bytes (Upward tunnel peer side frame) = carry.Up h.session side (place_in h.start (body_of bytes h)) h.end
carry_as h bytes (Dropped why) = carry.Dropped why

-- what becomes of a data message with this header, by what is seen of its session
unfoldable pub carry_of : Role → Look → ℕ → Header → List ℕ → Carry
carry_of role seen peer h bytes = carry_as h bytes (carry_look role seen peer h (frame_of (body_of bytes h)))

-- the bytes that go up are these
abbrev pub HasFrame : Carry → List ℕ → List ℕ → Type 0
HasFrame (carry.Up session side start stop) bytes frame = take (stop - start) (drop start bytes) ≡ frame
HasFrame (carry.Dropped why) bytes frame = Unit {0}

-- what is seen of a session after a log, where there are so many cells
abbrev pub look_at : ℕ → List Entry → ℕ → Look
look_at count log session = if nat_lt session count then look_after log session else look.Unborn

-- what becomes of a datagram, by what is seen of sessions; nothing is said of a control message
unfoldable pub load_by : Role → (ℕ → Look) → ℕ → List ℕ → Result Header HeaderError → Option Carry
load_by role looks peer bytes (Err x) = Some (carry.Dropped (header_why x))
load_by role looks peer bytes (Ok h) = if h.control then None else Some (carry_of role (looks h.session) peer h bytes)

abbrev pub load_of : Role → (ℕ → Look) → ℕ → List ℕ → Option Carry
load_of role looks peer bytes = load_by role looks peer bytes (header_of bytes)

-- a header that is read isn't that of a control message
abbrev pub IsData : List ℕ → Type 0
IsData bytes = (h : Header) → header_of bytes ≡ Ok h → h.control ≡ false
