-- What a table becomes, where one of its values is lent.
use Rattle.std.specs.Prelude.{ℕ, Option}
use Rattle.std.specs.Borrow.{LendsIf, Fml, RattleType, MutBor}
use Rattle.id_table.specs.Tables.{Kept, kept_with}
use Rattle.id_table.specs.contracts.Table.{the_row}

-- when the loan r ends, the table has at the id what was left behind r, and all else as before; where nothing is lent, it
-- stays as it is
abbrev pub LendsAt : (V : RattleType) → MutBor (Kept V.Denot) → ℕ → Option (MutBor V.Denot) → Fml
LendsAt V t id r = LendsIf (the_row V) V t r (kept_with t.now id) t.now
