-- The inbox of a control channel: the number that is expected next, and the class of a number that comes
-- (RFC 2661 section 5.8).
use Rattle.std.specs.Prelude.{◌≡◌, ℕ, zero, suc, ◌+◌, ◌-◌, ◌%◌, ◌^◌, ◌≤◌, ◌==◌, nat_lt, Bool, true, false, if◌then◌else◌, List, [], ◌∷◌, length}
use Rattle.recv_window.specs.declared.Class.{Class}
use Rattle.recv_window.specs.declared.Class.TheVariants.{Next, Duplicate, Ahead}

-- the number of the message that is expected next: all below it were taken. The code counts it modulo 2^64
pub record Inbox : Type 0 where
  pub taken : ℕ

-- numbers stand modulo 65536 on the wire
abbrev pub on_wire : ℕ → ℕ
on_wire n = n % 65536

abbrev pub inbox_from : ℕ → Inbox
inbox_from n = record { taken = n }

abbrev pub after_take : Inbox → Inbox
after_take i = record { taken = (i.taken + 1) % 2 ^ 64 }

-- the same of a count without an end
abbrev pub one_further : Inbox → Inbox
one_further i = record { taken = i.taken + 1 }

-- what the code holds of it
abbrev pub kept_of : Inbox → Inbox
kept_of i = record { taken = i.taken % 2 ^ 64 }

-- ---- the class of a number on the wire

-- how far an Ns is past the one that is expected, modulo 65536
abbrev pub distance : ℕ → Inbox → ℕ
distance ns i = (ns + 65536 - on_wire i.taken) % 65536

abbrev pub class_at : ℕ → Class
class_at d = if d == 0 then Next else if nat_lt d 32768 then Ahead d else Duplicate

abbrev pub class_of : ℕ → Inbox → Class
class_of ns i = class_at (distance ns i)

-- the count modulo 2^64 tells the classes that the count without an end does, and counts as it does
pub record IsKept (i : Inbox) : Type 0 where
  pub class : (ns : ℕ) → class_of ns (kept_of i) ≡ class_of ns i
  pub count : after_take (kept_of i) ≡ kept_of (one_further i)

abbrev pub CountHasNoEnd : Type 0
CountHasNoEnd = (i : Inbox) → IsKept i

-- ---- the class of a number without an end

abbrev pub true_class : ℕ → Inbox → Class
true_class n i = if n == i.taken then Next else if nat_lt i.taken n then Ahead (n - i.taken) else Duplicate

-- it is within half the numbers of the one that is expected
abbrev pub IsNear : ℕ → Inbox → Type 0
IsNear n i = (n ≤ i.taken + 32767) × (i.taken ≤ n + 32768)

-- then the class of what stands on the wire is its true class
abbrev pub ClassIsTrue : Type 0
ClassIsTrue = (n : ℕ) (i : Inbox) → IsNear n i → class_of (on_wire n) i ≡ true_class n i

-- ---- what is taken of a list of arrivals, each taken where it is the next one, on a count without an end

abbrev pub is_next : Class → Bool
is_next Next = true
is_next Duplicate = false
is_next (Ahead by) = false

abbrev pub takes : ℕ → Inbox → Bool
takes n i = is_next (class_of (on_wire n) i)

abbrev pub after_arrival : ℕ → Inbox → Inbox
after_arrival n i = if takes n i then one_further i else i

unfoldable pub after_arrivals : List ℕ → Inbox → Inbox
after_arrivals [] i = i
after_arrivals (n ∷ ns) i = after_arrivals ns (after_arrival n i)

unfoldable pub numbers_taken : List ℕ → Inbox → List ℕ
numbers_taken [] i = []
numbers_taken (n ∷ ns) i =
    if takes n i then n ∷ numbers_taken ns (after_arrival n i) else numbers_taken ns (after_arrival n i)

-- each is near when it comes
unfoldable pub AreNear : List ℕ → Inbox → Type 0
AreNear [] i = Unit
AreNear (n ∷ ns) i = IsNear n i × AreNear ns (after_arrival n i)

-- so many numbers, from one on
unfoldable pub counting_from : ℕ → ℕ → List ℕ
counting_from n zero = []
counting_from n (suc k) = n ∷ counting_from (n + 1) k

-- numbers that count on from one on, up to the one before another
pub record CountsOn (ns : List ℕ) (first last : ℕ) : Type 0 where
  pub in_order : ns ≡ counting_from first (length ns)
  pub counted : last ≡ first + length ns

-- what is taken counts on from the number that was expected first to the one that is expected then
abbrev pub TakenInOrder : Type 0
TakenInOrder =
    (ns : List ℕ) (i : Inbox) → AreNear ns i → CountsOn (numbers_taken ns i) i.taken (after_arrivals ns i).taken
