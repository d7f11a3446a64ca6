-- Two LACs whose tunnels and calls cross at one LNS, LCP in a call of each, and a frame each way for both.
use Rattle.std.specs.Prelude.{◌≡◌, ℕ, List, [], ◌∷◌, ◌++◌, None, false}
use Rattle.schedule_text.specs.declared.line.Line.{Line}
use Rattle.schedule_text.specs.declared.line.Line.TheVariants.{Lac, Lns, OpenUp, Ring, FromSub, Down, Deliver}
use Rattle.end_names.specs.declared.role.Role.{Role}
use Rattle.end_names.specs.declared.role.Role.TheVariants as role
use Rattle.frame_laws.specs.Past.{Passage, past_of}

-- the LNS is node 4; node 9 opens its tunnel first, and node 6 has the first births
abbrev pub openings : List Line
openings =
    Lns 4 None ∷ Lac 9 4 None false ∷ Lac 6 4 None false
    ∷ OpenUp 9 ∷ Deliver 1 ∷ Deliver 2 ∷ Deliver 3
    ∷ Ring 6 80 ∷ Ring 6 81 ∷ Ring 9 70 ∷ Ring 9 71
    ∷ []

-- The two rings of node 9 are one letter more than its window lets go, and so are those of node 6: packets 9 and 21 wait for
-- an acknowledgement. All four calls come up but those of node 6 at the LNS, which packets 22 and 24 connect. As a call comes up
-- there, its LCP end asks for a magic number that is the number of the line.
abbrev pub calls : List Line
calls =
    Deliver 5 ∷ Deliver 6 ∷ Deliver 8 ∷ Deliver 9 ∷ Deliver 10 ∷ Deliver 11 ∷ Deliver 14
    ∷ Deliver 7 ∷ Deliver 17 ∷ Deliver 18 ∷ Deliver 20 ∷ Deliver 21 ∷ Deliver 23
    ∷ []

abbrev pub up_c2 : List ℕ
up_c2 = 0 ∷ 33 ∷ 194 ∷ []

abbrev pub down_d2 : List ℕ
down_d2 = 0 ∷ 33 ∷ 210 ∷ []

abbrev pub down_d9 : List ℕ
down_d9 = 0 ∷ 33 ∷ 217 ∷ []

abbrev pub up_c9 : List ℕ
up_c9 = 0 ∷ 33 ∷ 201 ∷ []

-- a Configure-Request of the LNS with its first identifier, which asks for an MRU of 1,492 bytes and a magic number below 256; and
-- the Ack of one
abbrev pub asked : ℕ → List ℕ
asked magic = 192 ∷ 33 ∷ 1 ∷ 1 ∷ 0 ∷ 14 ∷ 1 ∷ 4 ∷ 5 ∷ 212 ∷ 5 ∷ 6 ∷ 0 ∷ 0 ∷ 0 ∷ magic ∷ []

abbrev pub granted : ℕ → List ℕ
granted magic = 192 ∷ 33 ∷ 2 ∷ 1 ∷ 0 ∷ 14 ∷ 1 ∷ 4 ∷ 5 ∷ 212 ∷ 5 ∷ 6 ∷ 0 ∷ 0 ∷ 0 ∷ magic ∷ []

-- a Configure-Request of a subscriber with an identifier, which asks for a magic number alone; and the Ack of one
abbrev pub wished : ℕ → ℕ → List ℕ
wished id magic = 192 ∷ 33 ∷ 1 ∷ id ∷ 0 ∷ 10 ∷ 5 ∷ 6 ∷ 0 ∷ 0 ∷ 0 ∷ magic ∷ []

abbrev pub conceded : ℕ → ℕ → List ℕ
conceded id magic = 192 ∷ 33 ∷ 2 ∷ id ∷ 0 ∷ 10 ∷ 5 ∷ 6 ∷ 0 ∷ 0 ∷ 0 ∷ magic ∷ []

-- the first frame is delivered before the message that connects its call, which comes ahead of its turn, once more in turn,
-- and again; then the frame once more
abbrev pub connecting : List Line
connecting = FromSub 6 2 up_c2 ∷ Deliver 25 ∷ Deliver 24 ∷ Deliver 22 ∷ Deliver 24 ∷ Deliver 24 ∷ Deliver 25 ∷ []

-- LCP opens in a call of each LAC, while the network sends a frame down one of them
abbrev pub linking : List Line
linking =
    Deliver 15 ∷ Deliver 28
    ∷ FromSub 9 2 (granted 18) ∷ FromSub 6 2 (granted 29) ∷ Deliver 31 ∷ Deliver 32
    ∷ Down 4 4 down_d2
    ∷ FromSub 6 2 (wished 6 194) ∷ FromSub 9 2 (wished 7 201) ∷ Deliver 33 ∷ Deliver 34
    ∷ []

-- the first frame comes a third time, and one goes each other way
abbrev pub frames : List Line
frames =
    Deliver 25
    ∷ Down 4 4 down_d2 ∷ Deliver 37
    ∷ Down 4 2 down_d9 ∷ Deliver 38
    ∷ FromSub 9 2 up_c9 ∷ Deliver 39
    ∷ []

abbrev pub crossing : List Line
crossing = openings ++ calls ++ connecting ++ linking ++ frames

abbrev pub passage : ℕ → ℕ → Role → ℕ → ℕ → ℕ → List ℕ → Passage
passage line node r peer session birth frame =
    record { line = line; node = node; role = r; peer = peer; session = session; birth = birth; frame = frame }

-- Session 2 of node 6 was born second, and is session 4 of the LNS. Session 2 of the LNS is session 2 of node 9, which was
-- born fourth. The frame that came before its call was connected isn't handed up, nor as it comes before LCP is open in the call;
-- the third time it is. Nor is the frame sent that the network sends down before.
pub record FramesCross : Type 0 where
  pub past : past_of crossing ≡ record {
    sent =
        passage 16 4 role.Lns 9 1 3 (asked 16)
        ∷ passage 18 4 role.Lns 9 2 4 (asked 18)
        ∷ passage 25 6 role.Lac 4 2 2 up_c2
        ∷ passage 28 4 role.Lns 6 3 1 (asked 28)
        ∷ passage 29 4 role.Lns 6 4 2 (asked 29)
        ∷ passage 34 9 role.Lac 4 2 4 (granted 18)
        ∷ passage 35 6 role.Lac 4 2 2 (granted 29)
        ∷ passage 39 6 role.Lac 4 2 2 (wished 6 194)
        ∷ passage 40 9 role.Lac 4 2 4 (wished 7 201)
        ∷ passage 41 4 role.Lns 6 4 2 (conceded 6 194)
        ∷ passage 42 4 role.Lns 9 2 4 (conceded 7 201)
        ∷ passage 44 4 role.Lns 6 4 2 down_d2
        ∷ passage 46 4 role.Lns 9 2 4 down_d9
        ∷ passage 48 9 role.Lac 4 2 4 up_c9
        ∷ [];
    handed =
        passage 32 9 role.Lac 4 2 4 (asked 18)
        ∷ passage 33 6 role.Lac 4 2 2 (asked 29)
        ∷ passage 36 4 role.Lns 9 2 4 (granted 18)
        ∷ passage 37 4 role.Lns 6 4 2 (granted 29)
        ∷ passage 41 4 role.Lns 6 4 2 (wished 6 194)
        ∷ passage 42 4 role.Lns 9 2 4 (wished 7 201)
        ∷ passage 43 4 role.Lns 6 4 2 up_c2
        ∷ passage 45 6 role.Lac 4 2 2 down_d2
        ∷ passage 47 9 role.Lac 4 2 4 down_d9
        ∷ passage 49 4 role.Lns 9 2 4 up_c9
        ∷ [];
  }
