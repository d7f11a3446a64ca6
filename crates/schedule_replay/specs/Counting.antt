-- What is counted over a run: the frames that its ends hand up, and the tunnels that agree at its end.
use Rattle.std.specs.Prelude.{ℕ, ◌+◌, ◌-◌, ◌^◌, min, count_by, ◌==◌, List, [], ◌∷◌}
use Rattle.world_model.specs.Texts.{Entry, Sends, HandsUp, Holds, Ends, Frames, Drops, Causes, Stopped}
use Rattle.world_model.specs.World.{World}
use Rattle.world_model.specs.Run.{Run, agreement_table}

-- how many frames were handed up, with those that an entry tells of, up to the last number of 64 bits
abbrev pub ups_with : ℕ → Entry → ℕ
ups_with n (HandsUp line node session birth side frame) = min (n + 1) (2 ^ 64 - 1)
ups_with n (Sends line packet from to bytes) = n
ups_with n (Holds line node number) = n
ups_with n (Ends line node session padt) = n
ups_with n (Frames line node bytes) = n
ups_with n (Drops line node why) = n
ups_with n (Causes line node cause) = n
ups_with n (Stopped line node) = n

abbrev pub ups_after : ℕ → List Entry → ℕ
ups_after n [] = n
ups_after n (e ∷ es) = ups_after (ups_with n e) es

-- how many `up` lines the report of a run has
abbrev pub ups_of : Run → ℕ
ups_of r = ups_after 0 r.entries

-- how many `agree` lines end the report of a run that comes to this world: each ends with a line feed
unfoldable pub agreements_of : World → ℕ
agreements_of w = count_by (λ c. c == 10) (agreement_table w.nodes)
