-- Parts of reports.
use Rattle.std.specs.Prelude.{ℕ, List, [], ◌∷◌, nat_le, if◌then◌else◌}
use Rattle.world_model.specs.Texts.{Entry, Sends, HandsUp, Holds, Ends, Frames, Drops, Causes, Stopped}

abbrev pub line_of : Entry → ℕ
line_of (Sends line packet from to bytes) = line
line_of (HandsUp line node session birth side frame) = line
line_of (Holds line node number) = line
line_of (Ends line node session padt) = line
line_of (Frames line node bytes) = line
line_of (Drops line node why) = line
line_of (Causes line node cause) = line
line_of (Stopped line node) = line

-- the entries of the lines from a number on
abbrev pub since : ℕ → List Entry → List Entry
since n [] = []
since n (e ∷ es) = if nat_le n (line_of e) then e ∷ since n es else since n es
