-- A cell's word: the state in bits 63 and 62, the tunnel in bits 61 to 46, the peer in bits 45 to 14, and in the lower ones how
-- often the session's id was drawn before.
use Rattle.std.specs.Prelude.{ℕ, zero, suc, ◌+◌, ◌*◌, ◌/◌, ◌%◌, ◌^◌, List}
use Rattle.session_cells.specs.declared.entry.Entry.{Entry}
use Rattle.session_looks.specs.declared.look.Look.{Look}
use Rattle.session_looks.specs.declared.look.Look.TheVariants.{Unborn, Bound, Established, Dead}
use Rattle.session_cells.specs.Logs.{look_after}

abbrev pub packed : ℕ → ℕ → ℕ → ℕ → ℕ
packed state tunnel peer draw = ((state * 2 ^ 62 + tunnel * 2 ^ 46) + peer * 2 ^ 14) + draw

-- the word of a state; each id is drawn once
abbrev pub word_of : Look → ℕ
word_of Unborn = 0
word_of (Bound t p) = packed 1 t p 0
word_of (Established t p) = packed 2 t p 0
word_of Dead = packed 3 0 0 0

abbrev pub look_as : ℕ → ℕ → ℕ → Look
look_as zero t p = Unborn
look_as (suc zero) t p = Bound t p
look_as (suc (suc zero)) t p = Established t p
look_as (suc (suc (suc n))) t p = Dead

-- the state that a word stands for
abbrev pub look_in : ℕ → Look
look_in w = look_as (w / 2 ^ 62) (w / 2 ^ 46 % 2 ^ 16) (w / 2 ^ 14 % 2 ^ 32)

-- the word of cell i after this log
abbrev pub word_after : List Entry → ℕ → ℕ
word_after log i = word_of (look_after log i)
