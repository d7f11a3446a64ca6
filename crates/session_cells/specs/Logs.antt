-- The log of the cells: what a cell is after it, and which logs are legal.
use Rattle.std.specs.Prelude.{◌≡◌, ◌≢◌, ◌⊎◌, ◌==◌, ℕ, ◌<◌, ◌^◌, cond, List, [], ◌∷◌, ◌++◌, slice_get, Option, Some, None}
use Rattle.session_cells.specs.declared.entry.Entry.{Entry}
use Rattle.session_cells.specs.declared.entry.Entry.TheVariants.{Bind, Establish, Kill}
use Rattle.session_looks.specs.declared.look.Look.{Look}
use Rattle.session_looks.specs.declared.look.Look.TheVariants.{Unborn, Bound, Established, Dead}

-- the cell that an entry changes
abbrev pub session_of : Entry → ℕ
session_of (Bind i d t p) = i
session_of (Establish i d) = i
session_of (Kill i d) = i

-- the draw of the session that an entry is about
abbrev pub draw_of : Entry → ℕ
draw_of (Bind i d t p) = d
draw_of (Establish i d) = d
draw_of (Kill i d) = d

-- what the entry makes of its cell
abbrev pub changed : Look → Entry → Look
changed l (Bind i d t p) = Bound t p
changed (Bound t p) (Establish i d) = Established t p
changed l (Establish i d) = l
changed l (Kill i d) = Dead

-- what cell i is after these entries, where it was l before
abbrev pub look_from : Look → List Entry → ℕ → Look
look_from l [] i = l
look_from l (e ∷ es) i = look_from (cond (session_of e == i) (changed l e) l) es i

-- what cell i is after this log
abbrev pub look_after : List Entry → ℕ → Look
look_after log i = look_from Unborn log i

-- a cell goes from unborn to bound, from bound to established or dead, from established to dead, and never otherwise; a session id
-- is drawn once, so each draw is the first
abbrev pub MayFollow : Look → Entry → Type 0
MayFollow Unborn (Bind i d t p) = (d ≡ 0) × (t < 2 ^ 16) × (p < 2 ^ 32)
MayFollow (Bound t p) (Establish i d) = d ≡ 0
MayFollow (Bound t p) (Kill i d) = d ≡ 0
MayFollow (Established t p) (Kill i d) = d ≡ 0
MayFollow l e = ⊥

-- each entry may follow on what stands before it
abbrev pub IsLegal : List Entry → Type 0
IsLegal log = (before : List Entry) (e : Entry) (rest : List Entry) → log ≡ before ++ e ∷ rest → MayFollow (look_after before (session_of e)) e

abbrev pub IsBound : Look → Type 0
IsBound (Bound t p) = Unit {0}
IsBound l = ⊥

abbrev pub IsLive : Look → Type 0
IsLive (Bound t p) = Unit {0}
IsLive (Established t p) = Unit {0}
IsLive l = ⊥

-- the entry stands in the log
abbrev pub Has : List Entry → Entry → Type 0
Has log e = (k : ℕ) × (slice_get log k ≡ Some e)

-- the log binds the cell
abbrev pub HasBind : List Entry → ℕ → Type 0
HasBind log i = (t : ℕ) × (p : ℕ) × Has log (Bind i 0 t p)

-- what the log has of the cell
abbrev pub Story : List Entry → ℕ → Look → Type 0
Story w i Unborn = Unit {0}
Story w i (Bound t p) = HasBind w i
Story w i (Established t p) = HasBind w i × Has w (Establish i 0)
Story w i Dead = HasBind w i × Has w (Kill i 0)

-- ---- changes that are entered

-- the cell was born in the old log, or one of these changes binds it
abbrev pub IsBorn : List Entry → List Entry → ℕ → Type 0
IsBorn old before i = (look_after old i ≢ Unborn) ⊎ HasBind before i

-- what these changes bind, the log binds
abbrev pub HasAllBinds : List Entry → List Entry → Type 0
HasAllBinds before log = (i t p : ℕ) → Has before (Bind i 0 t p) → HasBind log i

-- the new log has the change, or what overtook it. Nothing is said of a cell that was never born
abbrev pub Entered : List Entry → List Entry → List Entry → Entry → Type 0
Entered old before new (Bind i d t p) = HasBind new i
Entered old before new (Establish i d) = IsBorn old before i → Has new (Establish i 0) ⊎ Has new (Kill i 0)
Entered old before new (Kill i d) = IsBorn old before i → Has new (Kill i 0)

-- each of the changes is entered, behind those before it
abbrev pub AllEntered : List Entry → List Entry → List Entry → Type 0
AllEntered old changes new = (before : List Entry) (e : Entry) (rest : List Entry) → changes ≡ before ++ e ∷ rest → Entered old before new e

-- what is to be entered, where there is something
abbrev pub IsEntered : List Entry → List Entry → List Entry → Option Entry → Type 0
IsEntered old before new None = Unit {0}
IsEntered old before new (Some e) = Entered old before new e
