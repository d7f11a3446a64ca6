-- Lines that tell nothing of what was sent: of each the words alone are looked at, as what they are.
use Rattle.std.specs.Prelude.{ℕ, ◌%◌, Bool, false, not, ◌&&◌, ◌||◌, nat_le, ◌==◌, List, [], ◌∷◌, length, Option, Some, None, is_some}
use Rattle.std.specs.List.{list_all}
use Rattle.schedule_text.specs.Reading.{cut, number_of}
use Rattle.report_reading.specs.declared.fields.Field.{Field}
use Rattle.report_reading.specs.declared.fields.Field.TheVariants as field

-- a lower-case letter, or a dash
abbrev pub is_letter : ℕ → Bool
is_letter c = (nat_le 97 c && nat_le c 122) || (c == 45)

abbrev pub is_word : List ℕ → Bool
is_word word = not (length word == 0) && list_all is_letter word

abbrev pub is_hex_digit : ℕ → Bool
is_hex_digit c = (nat_le 48 c && nat_le c 57) || (nat_le 97 c && nat_le c 102)

-- pairs of digits, one at least
abbrev pub is_hex : List ℕ → Bool
is_hex word = not (length word == 0) && (length word % 2 == 0) && list_all is_hex_digit word

abbrev pub fits_field : Field → List ℕ → Bool
fits_field field.Node word = is_some (number_of 1 255 word)
fits_field field.Id word = is_some (number_of 1 65535 word)
fits_field field.Count word = is_some (number_of 0 4294967295 word)
fits_field field.Word word = is_word word
fits_field field.Hex word = is_hex word

-- a word, and those behind it
abbrev pub fits_both : Field → Option (List ℕ × List ℕ) → (List ℕ → Bool) → Bool
fits_both f None others = false
fits_both f (Some parts) others = fits_field f parts.0 && others parts.1

-- words that are parted by one space: what these fields want, and then the last one
abbrev pub fits : List Field → Field → List ℕ → Bool
fits [] last words = fits_field last words
fits (f ∷ fields) last words = fits_both f (cut 32 words) (fits fields last)
