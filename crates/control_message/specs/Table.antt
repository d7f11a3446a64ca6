-- The table of messages and attributes (RFC 2661 sections 3.2, 4.4 and 6, RFC 4951 section 5).
use Rattle.std.specs.Prelude.{ℕ, ◌==◌, ◌&&◌, ◌||◌, nat_le, not, Bool, true, false, List, [], ◌∷◌, ◌++◌, length, find, Option, Some, None, option_map}
use Rattle.byteorder.specs.Endian.{big_number}
use Rattle.control_message.specs.declared.kind.Kinds.{Kinds}
use Rattle.control_message.specs.declared.kind.Kinds.TheVariants.{Base, Queries}
use Rattle.control_message.specs.declared.kind.Kind.{Kind}
use Rattle.control_message.specs.declared.kind.Kind.TheVariants.{Sccrq, Sccrp, Scccn, StopCcn, Hello, Ocrq, Ocrp, Occn, Icrq, Icrp, Iccn, Cdn, Wen, Sli, Fsq, Fsr}
use Rattle.control_message.specs.declared.kind.Shape.{Shape}
use Rattle.control_message.specs.declared.kind.Shape.TheVariants.{Text, Short, Nonzero, Long, ShortLong, ShortShortShort, ShortLongLong, Sixteen, ResultCode}

-- what stands beside a number in a table
abbrev pub look_up : {V : Type 0} → ℕ → List (ℕ × V) → Option V
look_up {V} n rows = option_map (λ (row : ℕ × V). row.1) (find (λ (row : ℕ × V). n == row.0) rows)

-- the Message Types of RFC 2661
abbrev pub kinds : List (ℕ × Kind)
kinds =
    (1, Sccrq)
    ∷ (2, Sccrp)
    ∷ (3, Scccn)
    ∷ (4, StopCcn)
    ∷ (6, Hello)
    ∷ (7, Ocrq)
    ∷ (8, Ocrp)
    ∷ (9, Occn)
    ∷ (10, Icrq)
    ∷ (11, Icrp)
    ∷ (12, Iccn)
    ∷ (14, Cdn)
    ∷ (15, Wen)
    ∷ (16, Sli)
    ∷ []

-- those of the queries of sessions of RFC 4951
abbrev pub query_kinds : List (ℕ × Kind)
query_kinds = (21, Fsq) ∷ (22, Fsr) ∷ []

-- the kind that a number names to a reader that knows such messages
abbrev pub or_query : Option Kind → Kinds → ℕ → Option Kind
or_query (Some k) known n = Some k
or_query None Queries n = look_up n query_kinds
or_query None Base n = None

abbrev pub kind_of : Kinds → ℕ → Option Kind
kind_of known n = or_query (look_up n kinds) known n

-- Protocol Version, Framing Capabilities, Host Name, Assigned Tunnel ID, Receive Window Size, Challenge, Failover Capability
abbrev pub opening_uses : List (ℕ × Shape)
opening_uses = (2, Short) ∷ (3, Long) ∷ (7, Text) ∷ (9, Nonzero) ∷ (10, Nonzero) ∷ (11, Text) ∷ (76, ShortLong) ∷ []

-- the attributes that a message uses beside its type, and the shapes of their values
abbrev pub uses_of : Kind → List (ℕ × Shape)
-- Tunnel Recovery too
uses_of Sccrq = opening_uses ++ (77, ShortLongLong) ∷ []
-- Challenge Response and Suggested Control Sequence too
uses_of Sccrp = opening_uses ++ (13, Sixteen) ∷ (78, ShortShortShort) ∷ []
-- Challenge Response
uses_of Scccn = (13, Sixteen) ∷ []
-- Result Code, Assigned Tunnel ID
uses_of StopCcn = (1, ResultCode) ∷ (9, Short) ∷ []
uses_of Hello = []
-- Assigned Session ID
uses_of Ocrq = (14, Short) ∷ []
uses_of Ocrp = (14, Nonzero) ∷ []
uses_of Occn = []
-- Assigned Session ID, Call Serial Number, Calling Number
uses_of Icrq = (14, Short) ∷ (15, Long) ∷ (22, Text) ∷ []
-- Assigned Session ID
uses_of Icrp = (14, Nonzero) ∷ []
-- Framing Type, Connect Speed, Sequencing Required
uses_of Iccn = (19, Long) ∷ (24, Long) ∷ (39, Text) ∷ []
-- Result Code, Assigned Session ID
uses_of Cdn = (1, ResultCode) ∷ (14, Short) ∷ []
-- Call Errors
uses_of Wen = (34, Text) ∷ []
-- ACCM
uses_of Sli = (35, Text) ∷ []
-- Failover Session State
uses_of Fsq = (79, ShortLongLong) ∷ []
uses_of Fsr = (79, ShortLongLong) ∷ []

-- the messages that use this project's Draw Number too, an attribute of vendor 65535
abbrev pub uses_draw : Kind → Bool
uses_draw Sccrq = true
uses_draw Sccrp = true
uses_draw k = false

-- those that it needs, in order
abbrev pub needs_of : Kind → List ℕ
needs_of Sccrq = 2 ∷ 3 ∷ 7 ∷ 9 ∷ []
needs_of Sccrp = 2 ∷ 3 ∷ 7 ∷ 9 ∷ []
needs_of Scccn = []
needs_of StopCcn = 1 ∷ 9 ∷ []
needs_of Hello = []
needs_of Ocrq = 14 ∷ []
needs_of Ocrp = []
needs_of Occn = []
needs_of Icrq = 14 ∷ 15 ∷ []
needs_of Icrp = 14 ∷ []
needs_of Iccn = 19 ∷ 24 ∷ []
needs_of Cdn = 1 ∷ 14 ∷ []
needs_of Wen = 34 ∷ []
needs_of Sli = 35 ∷ []
needs_of Fsq = []
needs_of Fsr = []

-- the shape of an attribute's value in a message of a kind, where it uses the attribute
abbrev pub shape_of : Kind → ℕ → Option Shape
shape_of k n = look_up n (uses_of k)

-- whether a value has a shape
abbrev pub fits : Shape → List ℕ → Bool
fits Text value = true
fits Short value = length value == 2
fits Nonzero value = length value == 2 && not (big_number 2 value == 0)
fits Long value = length value == 4
fits ShortLong value = length value == 6
fits ShortShortShort value = length value == 6
fits ShortLongLong value = length value == 10
fits Sixteen value = length value == 16
fits ResultCode value = length value == 2 || nat_le 4 (length value)
