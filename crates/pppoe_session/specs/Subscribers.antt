-- Who holds which PPPoE session (RFC 2516 sections 5.2 to 5.4): entries of a session and its subscriber, in the order of
-- the sessions.
use Rattle.std.specs.Prelude.{ℕ, Bool, ◌&&◌, List, Option, Some, None, Result, Ok, Err, ⊤, ◌≡◌, ◌<◌, ◌^◌, ◌≤◌, true, false}
use Rattle.std.specs.declared.cmp.Ordering.{Ordering}
use Rattle.std.specs.Ordering.{nat_cmp, ordering_then, is_gt}
use Rattle.std.specs.List.{list_any, find, All}
use Rattle.std.specs.List.Sorted.{IsStrictlySortedBy}
use Rattle.std.specs.Option.{option_eq, option_map}
use Rattle.std.specs.Cmp.Lexicographic.{pointwise, slice_cmp}
use Rattle.std.specs.Map.{lookup, remove_entry, keys_of}
use Rattle.std.specs.BTreeMap.{is_at, insert_entry}
use Rattle.std.specs.Bool.{nat_eq}
use Rattle.pppoe_session.specs.declared.Subscriber.{Subscriber}
use Rattle.pppoe_session.specs.declared.AdmitError.{AdmitError}
use Rattle.pppoe_session.specs.declared.AdmitError.TheVariants.{Taken, NoMemory}

-- the subscriber of this session
unfoldable pub subscriber_of : List (ℕ × Subscriber) → ℕ → Option Subscriber
subscriber_of es session = lookup (is_at (nat_cmp session)) es

unfoldable pub holder_of : List (ℕ × Subscriber) → ℕ → Option (List ℕ)
holder_of es session = option_map (λ s. s.mac) (subscriber_of es session)

abbrev pub subscriber : List ℕ → Option (List ℕ) → Subscriber
subscriber mac uniq = record { mac = mac; uniq = uniq }

-- with this subscriber at this session
unfoldable pub admitted : List (ℕ × Subscriber) → ℕ → Subscriber → List (ℕ × Subscriber)
admitted es session who = insert_entry nat_cmp es session who

unfoldable pub dropped : List (ℕ × Subscriber) → ℕ → List (ℕ × Subscriber)
dropped es session = remove_entry (is_at (nat_cmp session)) es

-- whether a PADR with this MAC and Host-Uniq, or with none, repeats the one that this subscriber came by
unfoldable pub is_repeat : List ℕ → Option (List ℕ) → Subscriber → Bool
is_repeat mac uniq who = pointwise nat_eq who.mac mac && option_eq (pointwise nat_eq) who.uniq uniq

-- of what a session's subscriber is: whether one is there who came from this MAC
abbrev pub is_from : List ℕ → Option Subscriber → Bool
is_from mac None = false
is_from mac (Some who) = pointwise nat_eq who.mac mac

-- whether one is there whose PADR it repeats
abbrev pub is_repeat_of : List ℕ → Option (List ℕ) → Option Subscriber → Bool
is_repeat_of mac uniq None = false
is_repeat_of mac uniq (Some who) = is_repeat mac uniq who

-- the least session whose subscriber came by a PADR that this one repeats
unfoldable pub repeat_in : List (ℕ × Subscriber) → List ℕ → Option (List ℕ) → Option ℕ
repeat_in es mac uniq = option_map (λ e. e.0) (find (λ e. is_repeat mac uniq e.1) es)

-- no session from one on and below another has the property
abbrev pub NoneBetween : ℕ → ℕ → (ℕ → Bool) → Type 0
NoneBetween low high property = (session : ℕ) → low ≤ session → session < high → property session ≡ false

-- the least session with the property, or none where none has it
abbrev pub IsLeast : (ℕ → Bool) → Option ℕ → Type 0
IsLeast property None = NoneBetween 0 (2 ^ 16) property
IsLeast property (Some session) = (property session ≡ true) × NoneBetween 0 session property

-- the order of the pairs of a MAC and a session
abbrev pub pair_cmp : List ℕ × ℕ → List ℕ × ℕ → Ordering
pair_cmp p q = ordering_then (slice_cmp nat_cmp p.0 q.0) (nat_cmp p.1 q.1)

-- the pairs are those of the entries
abbrev pub IsIndexOf : List (ℕ × Subscriber) → List (List ℕ × ℕ) → Type 0
IsIndexOf es pairs = (mac : List ℕ) (session : ℕ) → list_any (is_at (pair_cmp (mac, session))) pairs ≡ is_from mac (lookup (is_at (nat_cmp session)) es)

-- the sessions ascend, and each fits its 16 bits
abbrev pub IsInOrder : List (ℕ × Subscriber) → Type 0
IsInOrder es = IsStrictlySortedBy nat_cmp (keys_of es) × All (λ session. session < 2 ^ 16) (keys_of es)

-- the address of a pair holds its session
abbrev pub IsHeld : List (ℕ × Subscriber) → List ℕ × ℕ → Type 0
IsHeld es pair = is_from pair.0 (subscriber_of es pair.1) ≡ true

-- not before the start, and not after a pair that is held
abbrev pub IsNextPair : List (ℕ × Subscriber) → List ℕ × ℕ → List ℕ × ℕ → Type 0
IsNextPair es start pair = (is_gt (pair_cmp start pair) ≡ false) × ((q : List ℕ × ℕ) → is_gt (pair_cmp start q) ≡ false → IsHeld es q → is_gt (pair_cmp pair q) ≡ false)

abbrev pub HasNoPair : List (ℕ × Subscriber) → List ℕ × ℕ → Type 0
HasNoPair es start = (q : List ℕ × ℕ) → is_gt (pair_cmp start q) ≡ false → is_from q.0 (subscriber_of es q.1) ≡ false

-- Taken comes exactly where someone holds the session, and with that session
abbrev pub AnswersTaken : {A : Type 0} → ℕ → Option Subscriber → Result A AdmitError → Type 0
AnswersTaken session (Some who) (Ok x) = ⊥
AnswersTaken session (Some who) (Err e) = e ≡ Taken session
AnswersTaken session None (Ok x) = ⊤
AnswersTaken session None (Err e) = e ≡ NoMemory
