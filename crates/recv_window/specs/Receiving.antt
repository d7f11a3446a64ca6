-- Histories of an inbox that keeps what comes less than 8 ahead, on a count without an end.
use Rattle.std.specs.Prelude.{◌≡◌, ℕ, ◌+◌, ◌<◌, nat_lt, ◌==◌, if◌then◌else◌, List, [], ◌∷◌, ◌++◌, map, take, length, Option, Some, None}
use Rattle.std.specs.List.{All, Contains}
use Rattle.recv_window.specs.declared.Class.{Class}
use Rattle.recv_window.specs.declared.Class.TheVariants.{Next, Duplicate, Ahead}
use Rattle.recv_window.specs.Window.{Inbox, IsNear, AreNear, CountsOn, class_of, on_wire, one_further, numbers_taken}
use Rattle.recv_window.specs.Ahead.{none_kept, kept_at, after_keep, after_shift}

-- a message and its number, which has no end
pub record Numbered (T : Type 0) : Type 0 where
  pub number : ℕ
  pub message : T

-- an inbox, what is kept ahead of it, what it admitted and what was taken so far, each in its order
pub record Receiver (T : Type 0) : Type 0 where
  pub inbox : Inbox
  pub places : List (Option T)
  pub admitted : List (Numbered T)
  pub taken : List (Numbered T)

-- a message comes, or the one that has become next is taken, where it is kept
pub data Event (T : Type 0) : Type 0 where
  Comes : Numbered T → Event T
  TakesNext : Event T

module _ {T : Type 0} where
  abbrev pub begun : Inbox → Receiver T
  begun i = record { inbox = i; places = none_kept; admitted = []; taken = [] }

  -- the message that is expected is taken
  abbrev pub having_taken : Numbered T → Receiver T → Receiver T
  having_taken a r = record r { inbox = one_further r.inbox; places = after_shift r.places; taken = r.taken ++ a ∷ [] }

  abbrev pub having_admitted : Numbered T → Receiver T → Receiver T
  having_admitted a r = record r { admitted = r.admitted ++ a ∷ [] }

  abbrev pub having_kept : Numbered T → ℕ → Receiver T → Receiver T
  having_kept a by r = record r { places = after_keep r.places by a.message }

  -- a message of a class comes: the next one is taken, one that is less than 8 ahead is kept, and no other is admitted
  abbrev pub after_class : Class → Numbered T → Receiver T → Receiver T
  after_class Next a r = having_taken a (having_admitted a r)
  after_class (Ahead by) a r = if nat_lt by 8 then having_kept a by (having_admitted a r) else r
  after_class Duplicate a r = r

  abbrev pub after_take_kept : Option T → Receiver T → Receiver T
  after_take_kept (Some message) r = having_taken (record { number = r.inbox.taken; message = message }) r
  after_take_kept None r = r

  abbrev pub after_event : Event T → Receiver T → Receiver T
  after_event (Comes a) r = after_class (class_of (on_wire a.number) r.inbox) a r
  after_event TakesNext r = after_take_kept (kept_at r.places 0) r

  unfoldable pub after_events : List (Event T) → Receiver T → Receiver T
  after_events [] r = r
  after_events (e ∷ es) r = after_events es (after_event e r)

  abbrev pub ComesNear : Event T → Inbox → Type 0
  ComesNear (Comes a) i = IsNear a.number i
  ComesNear TakesNext i = Unit

  -- each message is near when it comes
  unfoldable pub ComeNear : List (Event T) → Receiver T → Type 0
  ComeNear [] r = Unit
  ComeNear (e ∷ es) r = ComesNear e r.inbox × ComeNear es (after_event e r)

  -- the first message with a number
  unfoldable pub first_with : ℕ → List (Numbered T) → Option T
  first_with n [] = None
  first_with n (a ∷ messages) = if n == a.number then Some a.message else first_with n messages

  abbrev pub numbers_of : List (Numbered T) → List ℕ
  numbers_of messages = map (λ a. a.number) messages

  -- what was taken is each number once and in order, up to the one that is expected, and each of it came. At each place past
  -- the one that is expected the message is kept that came first with its number, so that no later copy replaces it; and
  -- nothing was admitted that lies further ahead
  pub record TakesInOrder (first : ℕ) (r : Receiver T) : Type 0 where
    pub in_order : CountsOn (numbers_of r.taken) first r.inbox.taken
    pub came : All (Contains r.admitted) r.taken
    pub kept : (by : ℕ) → by < 8 → kept_at r.places by ≡ first_with (r.inbox.taken + by) r.admitted
    pub places : length r.places ≡ 8
    pub within : All (λ a. a.number < r.inbox.taken + 8) r.admitted

  abbrev pub ComesInTurn : Event T → Receiver T → Type 0
  ComesInTurn (Comes a) r = kept_at r.places 0 ≡ None
  ComesInTurn TakesNext r = Unit

  -- before a message comes, each that is kept and has become next was taken
  unfoldable pub ComeInTurn : List (Event T) → Receiver T → Type 0
  ComeInTurn [] r = Unit
  ComeInTurn (e ∷ es) r = ComesInTurn e r × ComeInTurn es (after_event e r)

  -- of each number what was taken is the message that came first
  abbrev pub AreTheFirst : Receiver T → Type 0
  AreTheFirst r = All (λ a. first_with a.number r.admitted ≡ Some a.message) r.taken

  unfoldable pub numbers_that_come : List (Event T) → List ℕ
  numbers_that_come [] = []
  numbers_that_come (Comes a ∷ es) = a.number ∷ numbers_that_come es
  numbers_that_come (TakesNext ∷ es) = numbers_that_come es

abbrev pub BeginsWith : List ℕ → List ℕ → Type 0
BeginsWith ns front = take (length front) ns ≡ front

abbrev pub KeptAreTakenInOrder : Type 0 → Type 0
KeptAreTakenInOrder T =
    (es : List (Event T)) (i : Inbox) → ComeNear es (begun i) → TakesInOrder i.taken (after_events es (begun i))

abbrev pub CopiesReplaceNone : Type 0 → Type 0
CopiesReplaceNone T =
    (es : List (Event T)) (i : Inbox) → ComeNear es (begun i) → ComeInTurn es (begun i) → AreTheFirst (after_events es (begun i))

-- the numbers that are taken of the same messages where none is kept are the first that are taken where they are
abbrev pub TakesTheSameFirst : Type 0 → Type 0
TakesTheSameFirst T =
    (es : List (Event T)) (i : Inbox) → ComeNear es (begun i) → AreNear (numbers_that_come es) i
    → BeginsWith (numbers_of (after_events es (begun i)).taken) (numbers_taken (numbers_that_come es) i)
