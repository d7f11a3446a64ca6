-- Letters that are given, taken, let go, repeated and acknowledged.
use Rattle.std.specs.Prelude.{ℕ, zero, suc, List, [], ◌∷◌, ◌++◌, drop, slice_get, Bool, true, false, ◌==◌, ◌&&◌, ◌||◌, nat_le, length, if◌then◌else◌, Option, Some, None}
use Rattle.wire_base.specs.declared.why.Why.{Why}
use Rattle.wire_base.specs.declared.letter.Letter.{Letter}
use Rattle.control_message.specs.declared.message.Message.{Message}
use Rattle.control_channel.specs.Numbers.{count_acked, next_to_go, next_unsent, place_of}
use Rattle.end_model.specs.declared.moves.Move.TheVariants as move
use Rattle.end_model.specs.Tunnels.{Turn}
use Rattle.end_model.specs.Channels.{place, taken_place, letter_of, letter_as, counts_given, counts_taken, counts_acked, sends, counts_sent, counts_repeated}
use Rattle.end_model.specs.Turn.{with_output, with_move, drops}

-- one more letter is given to the channel
unfoldable pub gives : ℕ → Message → Turn → Turn
gives session m t = record t { control = counts_given t.control; given = t.given ++ letter_of session m ∷ [] }

-- one whose pairs hide a value
unfoldable pub gives_as : ℕ → Message → Option (List ℕ) → Turn → Turn
gives_as session m hidden t = record t { control = counts_given t.control; given = t.given ++ letter_as session m hidden ∷ [] }

-- the next letter of the peer is taken
unfoldable pub takes_one : Turn → Turn
takes_one t = record t { control = counts_taken t.control; took = true }

-- what the peer expects next is read, and it was heard: letters are acknowledged
unfoldable pub reads_nr : ℕ → Turn → Turn
reads_nr nr t =
    with_move (move.NrRead (record { tunnel = t.control.local; nr = nr }))
    (record t { control = record (counts_acked nr t.on.moment t.control) { heard = t.on.moment }; acked = count_acked t.control.channel nr })

-- the letters that the tunnel had, without those that are acknowledged, and those that the step gave
abbrev pub letters_after : Turn → List Letter → List Letter
letters_after t letters = drop t.acked letters ++ t.given

-- the letter with a number, of those
abbrev pub letter_in : List Letter → Turn → ℕ → Option Letter
letter_in letters t number = slice_get (letters_after t letters) (place_of t.control.channel number)

-- a message has at most 65,535 bytes, of which 12 are its header
unfoldable pub sends_letter : ℕ → Option Letter → Turn → Turn
sends_letter number None t = t
sends_letter number (Some l) t =
    if nat_le (length l.avps) 65523 then with_output (sends t.control l.session number false l.avps) t else t

-- the letter with a number goes out
unfoldable pub sends_now : List Letter → ℕ → Turn → Turn
sends_now letters number t = sends_letter number (letter_in letters t number) t

-- the next letter that was never on the wire goes out
unfoldable pub lets_go : List Letter → ℕ → Turn → Turn
lets_go letters number t =
    sends_now letters number
    (with_move (move.LetGo (record { tunnel = t.control.local; sent = place number }))
    (record t { control = counts_sent t.on.moment t.control }))

unfoldable pub goes_by : (Turn → Turn) → List Letter → Option ℕ → Turn → Turn
goes_by rest letters None t = t
goes_by rest letters (Some number) t = rest (lets_go letters number t)

-- the oldest letter that isn't acknowledged goes out again
unfoldable pub repeats : List Letter → ℕ → Turn → Turn
repeats letters number t =
    sends_now letters number
    (with_move (move.Repeated (record { tunnel = t.control.local; sent = place number }))
    (record t { control = counts_repeated t.on.moment t.control }))

-- as many as the windows allow, and so many at most
unfoldable pub lets_all_go : ℕ → List Letter → Turn → Turn
lets_all_go zero letters t = t
lets_all_go (suc most) letters t = goes_by (lets_all_go most letters) letters (next_to_go t.control.channel) t

-- an acknowledgement alone: its number is that of the next letter to go out, which it doesn't use up
unfoldable pub acknowledges : Turn → Turn
acknowledges t =
    with_output (sends t.control 0 (next_unsent t.control.channel) true []) (with_move (move.Quiet t.control.local) t)

-- what came again is acknowledged always, what was taken where no letter goes out that says so
abbrev pub outstanding : Turn → ℕ
outstanding t = t.control.channel.window.outstanding

unfoldable pub acknowledged_after : Bool → ℕ → Turn → Turn
acknowledged_after again before t = if again || (t.took && (outstanding t == before)) then acknowledges t else t

-- the end of each step of the tunnel's channel
unfoldable pub settles : Bool → List Letter → Turn → Turn
settles again letters t = acknowledged_after again (outstanding t) (lets_all_go t.control.channel.window.queued letters t)

-- a letter that changes nothing else
unfoldable pub takes_plain : Turn → Turn
takes_plain t =
    with_move (move.TookPlain (record { tunnel = t.control.local; taken = taken_place t.control }))
    (takes_one t)

-- and is ignored
unfoldable pub ignores : Why → Turn → Turn
ignores w t = drops w (takes_plain t)
