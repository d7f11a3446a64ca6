use Rattle.std.specs.Prelude.{◌≡◌, ℕ, ◌==◌, ◌-◌, nat_lt, drop, length, if◌then◌else◌, List, [], ◌∷◌, ◌++◌, codes, Option, Some, None, false, true}
use Rattle.std.proofs.Common.{refl}
use Rattle.schedule_text.specs.declared.line.Line.{Line}
use Rattle.schedule_text.specs.declared.line.Line.TheVariants.{Lac, Lns, OpenUp, Close, Ring, Hang, Deliver, Tick, Crash, Start}
use Rattle.wire_base.specs.declared.why.Why.TheVariants as why
use Rattle.world_model.specs.declared.refusal.Refusal.TheVariants.{Stale, Unfit}
use Rattle.world_model.specs.Texts.{Entry, Sends, Drops, Ends}
use Rattle.world_model.specs.World.{World}
use Rattle.world_model.specs.Run.{run, tables}
use Rattle.recovery_runs.proofs.Computing.{computing}

abbrev p1 : List Line
p1 = Lns 2 None ∷ Lac 1 2 None false ∷ OpenUp 1 ∷ Deliver 1 ∷ Deliver 2 ∷ Deliver 3 ∷ Deliver 4 ∷ []

-- the packet of the epoch before is refused
stale : (run (p1 ++ Crash 2 ∷ Start 2 ∷ Deliver 5 ∷ Deliver 6 ∷ Deliver 3 ∷ [])).fault ≡ Some (12, Stale 0 1)
unfolding computing
stale = refl

abbrev drops_in : List Entry → List (ℕ)
drops_in [] = []
drops_in (Drops line n why.Tie ∷ es) = line ∷ 1 ∷ drops_in es
drops_in (Drops line n why.Mark ∷ es) = line ∷ 2 ∷ drops_in es
drops_in (e ∷ es) = drops_in es

abbrev both : List Line
both = p1 ++ Crash 2 ∷ Start 2 ∷ Crash 1 ∷ Start 1 ∷ Deliver 5 ∷ Deliver 6 ∷ Deliver 7 ∷ Deliver 8 ∷ Deliver 5 ∷ []

tied : drops_in (run both).entries ≡ 12 ∷ 1 ∷ 16 ∷ 2 ∷ []
unfolding computing
tied = refl

tables_of_both : tables (run both).world ≡
    codes "end 1 tunnel 1 2 1 established 1 current complete\nend 2 tunnel 1 1 1 established 1 current complete\nagree 1 1 2 1 0\n"
unfolding computing
tables_of_both = refl

abbrev p2 : List Line
p2 = Lns 2 None ∷ Lac 1 2 None false ∷ Ring 1 1 ∷ Deliver 1 ∷ Deliver 2 ∷ Deliver 3 ∷ Deliver 4 ∷ Deliver 6 ∷ Deliver 7 ∷ []

abbrev leaving : List Line
leaving = p2 ++ Crash 2 ∷ Start 2 ∷ Deliver 10 ∷ Hang 1 1 ∷ []

left : (run leaving).fault ≡ None
unfolding computing
left = refl

abbrev at_line : ℕ → List Entry → List Entry
at_line n [] = []
at_line n (Ends l k s b ∷ es) = if l == n then Ends l k s b ∷ at_line n es else at_line n es
at_line n (Sends l p k m b ∷ es) = if l == n then Sends l p k m [] ∷ at_line n es else at_line n es
at_line n (e ∷ es) = at_line n es

ends : at_line 13 (run leaving).entries ≡ Ends 13 1 1 None ∷ []
unfolding computing
ends = refl

tables_of_leaving : tables (run leaving).world ≡
    codes "end 1 tunnel 1 2 1 established 0 frozen complete\nend 2 tunnel 1 1 1 established 0 restored complete\nend 2 call 1 1 1 established 1\n"
unfolding computing
tables_of_leaving = refl

abbrev day : List Line
day = p2 ++ Ring 1 2 ∷ Deliver 10 ∷ Deliver 11 ∷ Deliver 12 ∷ Hang 1 2 ∷ Crash 2 ∷ Start 2 ∷ Deliver 16 ∷ Deliver 19 ∷ []

abbrev sent_in : ℕ → List Entry → List (ℕ × List ℕ)
sent_in n [] = []
sent_in n (Sends l p k m b ∷ es) = if p == n then (l, b) ∷ sent_in n es else sent_in n es
sent_in n (e ∷ es) = sent_in n es

request : sent_in 16 (run day).entries ≡ (16, 200 ∷ 2 ∷ 0 ∷ 102 ∷ 0 ∷ 0 ∷ 0 ∷ 0 ∷ 0 ∷ 0 ∷ 0 ∷ 0 ∷ 128 ∷ 8 ∷ 0 ∷ 0 ∷ 0 ∷ 0 ∷ 0 ∷ 1 ∷ 128 ∷ 8 ∷ 0 ∷ 0 ∷ 0 ∷ 2 ∷ 1 ∷ 0 ∷ 128 ∷ 10 ∷ 0 ∷ 0 ∷ 0 ∷ 3 ∷ 0 ∷ 0 ∷ 0 ∷ 3 ∷ 128 ∷ 10 ∷ 0 ∷ 0 ∷ 0 ∷ 7 ∷ 108 ∷ 110 ∷ 115 ∷ 50 ∷ 128 ∷ 8 ∷ 0 ∷ 0 ∷ 0 ∷ 9 ∷ 0 ∷ 65 ∷ 128 ∷ 8 ∷ 0 ∷ 0 ∷ 0 ∷ 10 ∷ 0 ∷ 8 ∷ 0 ∷ 12 ∷ 0 ∷ 0 ∷ 0 ∷ 76 ∷ 0 ∷ 3 ∷ 0 ∷ 0 ∷ 117 ∷ 48 ∷ 128 ∷ 16 ∷ 0 ∷ 0 ∷ 0 ∷ 77 ∷ 0 ∷ 0 ∷ 0 ∷ 0 ∷ 0 ∷ 1 ∷ 0 ∷ 0 ∷ 0 ∷ 1 ∷ 0 ∷ 10 ∷ 255 ∷ 255 ∷ 0 ∷ 1 ∷ 0 ∷ 0 ∷ 0 ∷ 1 ∷ []) ∷ []
unfolding computing
request = refl

abbrev places : List Entry → List (ℕ × ℕ × ℕ)
places [] = []
places (Sends l p k m b ∷ es) = (l, p, k) ∷ places es
places (e ∷ es) = places es

abbrev late : List (ℕ × ℕ × ℕ) → List (ℕ × ℕ × ℕ)
late [] = []
late (x ∷ xs) = if nat_lt 15 x.0 then x ∷ late xs else late xs

-- line 16: the SCCRQ and two LCP requests; line 17: the SCCRP; line 18: the SCCCN, and the FSQ
sends : late (places (run day).entries) ≡ (16, 16, 2) ∷ (16, 17, 2) ∷ (16, 18, 2) ∷ (17, 19, 1) ∷ (18, 20, 2) ∷ (18, 21, 2) ∷ []
unfolding computing
sends = refl

abbrev tail_of : ℕ → List ℕ → List ℕ
tail_of n b = drop (length b - n) b

abbrev last_of : List (ℕ × List ℕ) → List ℕ
last_of [] = []
last_of (x ∷ xs) = x.1

reply : tail_of 22 (last_of (sent_in 19 (run day).entries)) ≡ 128 ∷ 12 ∷ 0 ∷ 0 ∷ 0 ∷ 78 ∷ 0 ∷ 0 ∷ 0 ∷ 3 ∷ 0 ∷ 7 ∷ 0 ∷ 10 ∷ 255 ∷ 255 ∷ 0 ∷ 1 ∷ 0 ∷ 0 ∷ 0 ∷ 1 ∷ []
unfolding computing
reply = refl
