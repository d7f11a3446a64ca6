-- What the PPP link of an LNS's call keeps (RFC 1661).
use Rattle.std.specs.Prelude.{ℕ, ◌+◌, ◌-◌, ◌^◌, Bool, false, not, ◌&&◌, nat_le, min, if◌then◌else◌, List, drop, Option, Some, None}
use Rattle.byteorder.specs.Endian.{big_number}
use Rattle.lcp_end.specs.declared.state.EndState.{EndState}
use Rattle.lcp_end.specs.Steps.{fresh, is_timed, is_due as is_lcp_due}
use Rattle.call_link.specs.declared.env.LinkEnv.{LinkEnv}

pub record Link : Type 0 where
  pub lcp : EndState
  -- frames of the network pass
  pub network : Bool
  -- it told that the call is to end
  pub over : Bool

-- the magic number that a new link's LCP end asks for is the last four bytes of the step's block
abbrev pub magic_of : List ℕ → ℕ
magic_of block = big_number 4 (drop 12 block)

-- the link of a call that was just connected, before it is opened
abbrev pub new_link : LinkEnv → Link
new_link e = record { lcp = fresh (magic_of e.block); network = false; over = false }

-- its timer ran out
abbrev pub is_due : ℕ → Link → Bool
is_due moment l = not l.over && is_lcp_due moment l.lcp

-- the moment from which on it has run out, which has no end: none where nothing is waited for
abbrev pub due_of : Link → Option ℕ
due_of l = if not l.over && is_timed l.lcp then Some (l.lcp.since + 3000) else None

abbrev pub has_come : ℕ → Option ℕ → Bool
has_come moment None = false
has_come moment (Some due) = nat_le due moment

-- a moment as 64 bits hold it
abbrev pub in_64_bits : Option ℕ → Option ℕ
in_64_bits None = None
in_64_bits (Some due) = Some (min due (2 ^ 64 - 1))
