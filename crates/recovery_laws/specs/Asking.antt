-- An FSQ, its answer, and what is heard of that, are moves of the machine: one for each session.
use Rattle.std.specs.Prelude.{◌≡◌, ◌≢◌, ℕ, suc, ◌+◌, ◌&&◌, if◌then◌else◌, not, Bool, true, List, [], ◌∷◌, ◌++◌, map, length}
use Rattle.std.specs.List.{AllByRecursion}
use Rattle.epoch_machine.specs.Letters.{Letter, Fsq, Fsr}
use Rattle.epoch_machine.specs.Tunnels.{Open}
use Rattle.epoch_machine.specs.Channels.{Stands}
use Rattle.epoch_machine.specs.Calls.{Calls, ends, is_call, is_told, stands_with}
use Rattle.epoch_machine.specs.Worlds.{World, Rules, all_rules}
use Rattle.epoch_machine.specs.Moves.{Move, Delivers, Queries, goes_on}

-- a tunnel gave letters in its epoch, and took so many, and no other channel went on
pub record GoesOn (w v : World) (x e : ℕ) (ls : List Letter) (took : ℕ) : Type 0 where
  pub tunnels : v.tunnels ≡ w.tunnels
  pub refused : v.channels.refused ≡ w.channels.refused
  pub sent : v.channels.sent x e ≡ w.channels.sent x e ++ ls
  pub taken : v.channels.taken x e ≡ w.channels.taken x e + took
  pub others_sent : (y d : ℕ) → (y ≡ x → d ≡ e → ⊥) → v.channels.sent y d ≡ w.channels.sent y d
  pub others_taken : (y d : ℕ) → (y ≡ x → d ≡ e → ⊥) → v.channels.taken y d ≡ w.channels.taken y d

-- ---- asking

-- a session that is asked for: the own call's name, and the other end's
pub record Asked : Type 0 where
  pub own : ℕ
  pub other : ℕ

abbrev pub asking : ℕ → List Asked → List Move
asking x qs = map (λ (q : Asked). Queries x q.own) qs

abbrev pub IsToAsk : World → ℕ → Asked → Type 0
IsToAsk w x q = (w.calls.asks x q.own ≡ true) × (w.calls.held x (w.tunnels.entered x) q.own ≡ q.other)

abbrev pub AsksByMoves : Type 0
AsksByMoves = (r : Rules) (w : World) (x : ℕ) (qs : List Asked) → w.tunnels.phase x ≡ Open → AllByRecursion (IsToAsk w x) qs
    → GoesOn w (goes_on r w (asking x qs)) x (w.tunnels.entered x) (map (λ (q : Asked). Fsq q.own q.other) qs) 0
    × ((goes_on r w (asking x qs)).calls ≡ w.calls)

-- ---- what is delivered

-- letters of another tunnel's, from a place of its list of an epoch on
abbrev pub delivered : ℕ → ℕ → ℕ → ℕ → List Letter → List Move
delivered x s e place [] = []
delivered x s e place (l ∷ ls) = Delivers x s e place 0 ∷ delivered x s e (suc place) ls

-- they stand there
abbrev pub StandFrom : World → ℕ → ℕ → ℕ → List Letter → Type 0
StandFrom w s e place [] = Unit {0}
StandFrom w s e place (l ∷ ls) = Stands w.channels s e place l × StandFrom w s e (suc place) ls

-- an open tunnel is to take them next, of the other end of its link
pub record TakesFrom (w : World) (x s e place : ℕ) : Type 0 where
  pub open_is : w.tunnels.phase x ≡ Open
  pub entered : w.tunnels.entered x ≡ e
  pub learned : w.tunnels.learned s ≡ x
  pub some : s ≢ 0
  pub apart : s ≢ x
  pub next : w.channels.taken x e ≡ place

-- what is asked for is answered by what stands
abbrev pub answers : Calls → ℕ → List Asked → List Letter
answers c x qs = map (λ (q : Asked). Fsr q.other q.own (stands_with c x q.other q.own)) qs

abbrev pub AnswersByMoves : Type 0
AnswersByMoves = (w : World) (x s e place : ℕ) (qs : List Asked) → TakesFrom w x s e place → StandFrom w s e place
    (map (λ (q : Asked). Fsq q.own q.other) qs)
    → GoesOn w (goes_on all_rules w (delivered x s e place (map (λ (q : Asked). Fsq q.own q.other) qs))) x e (answers w.calls x qs)
    (length qs)
    × ((goes_on all_rules w (delivered x s e place (map (λ (q : Asked). Fsq q.own q.other) qs))).calls ≡ w.calls)

-- ---- what is heard

-- an answer: the call of the end that gives it, that of the one that asked, and whether it's here
pub record Told : Type 0 where
  pub own : ℕ
  pub call : ℕ
  pub here : Bool

abbrev pub told_one : Calls → ℕ → Told → Calls
told_one c x a = if not a.here && stands_with c x a.call a.own then ends (is_told c x a.call) (is_call a.call) else is_told c x a.call

abbrev pub told_all : Calls → ℕ → List Told → Calls
told_all c x [] = c
told_all c x (a ∷ later) = told_all (told_one c x a) x later

abbrev pub HearsByMoves : Type 0
HearsByMoves = (w : World) (x s e place : ℕ) (told : List Told) → TakesFrom w x s e place
    → StandFrom w s e place (map (λ (a : Told). Fsr a.own a.call a.here) told)
    → GoesOn w (goes_on all_rules w (delivered x s e place (map (λ (a : Told). Fsr a.own a.call a.here) told))) x e [] (length told)
    × ((goes_on all_rules w (delivered x s e place (map (λ (a : Told). Fsr a.own a.call a.here) told))).calls ≡ told_all w.calls x told)

pub record QueriesAreMoves : Type 0 where
  pub asks : AsksByMoves
  pub answers : AnswersByMoves
  pub hears : HearsByMoves
