-- Fields and the words that are left.
use Rattle.std.proofs.Common.{◌≡◌, ℕ, ◌<◌, false, List, [], ◌∷◌, length, None, refl, arith}
use Rattle.schedule_text.specs.Reading.{cut}
use Rattle.report_reading.specs.declared.fields.Field.{Field}
use Rattle.report_reading.specs.Fields.{fits}

-- a field wants a word of its own, and a space behind it
pub lacks_word : (fields : List Field) (last : Field) (rest : List ℕ) → 0 < length fields → cut 32 rest ≡ None → false ≡ fits fields last rest
lacks_word [] last rest some e = absurd (omega arith)
lacks_word (f ∷ fields) last rest some e = rw e refl
