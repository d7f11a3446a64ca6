-- The calls of an outbox, exactly, on what it keeps.
use Rattle.std.specs.Prelude.{ℕ, ◌-◌, max, [], ◌∷◌, ◌++◌, drop, slice_get, Option}
use Rattle.wire_base.specs.declared.letter.Letter.{Letter}
use Rattle.send_window.specs.Kept.{Kept}
use Rattle.send_window.specs.Window as window

abbrev pub emptied : ℕ → ℕ → Kept
emptied first peer_window = record { letters = []; window = window.opened_at first peer_window; spare = 0 }

abbrev pub reserved : Kept → ℕ → Kept
reserved k count = record k { spare = max k.spare count }

abbrev pub put_into : Kept → Letter → Kept
put_into k letter = record { letters = k.letters ++ letter ∷ []; window = window.one_more k.window; spare = k.spare - 1 }

abbrev pub acked_at : Kept → ℕ → ℕ → Kept
acked_at k nr moment = record k { letters = drop (window.count_acked k.window nr) k.letters; window = window.acked_at k.window nr moment }

abbrev pub let_go_at : Kept → ℕ → Kept
let_go_at k moment = record k { window = window.let_go_at k.window moment }

abbrev pub ticked_at : Kept → ℕ → Kept
ticked_at k moment = record k { window = window.ticked_at k.window moment }

-- the letters are forgotten, and the numbers go on from the first; the peer's window and the room stay
abbrev pub reset_at : Kept → ℕ → Kept
reset_at k first = record k { letters = []; window = window.opened_at first k.window.congestion.peer_window }

abbrev pub learnt_by : Kept → ℕ → Kept
learnt_by k peer_window = record k { window = window.learnt_by k.window peer_window }

-- the letter with a number, where it is unacknowledged
abbrev pub letter_at : Kept → ℕ → Option Letter
letter_at k number = slice_get k.letters (window.place_of k.window number)
