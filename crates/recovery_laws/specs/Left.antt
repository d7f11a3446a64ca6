-- What a tunnel asks for, and what is left of that once it heard an answer.
use Rattle.std.specs.Prelude.{◌≡◌, ℕ, ◌==◌, Bool, List, map, drop, Some, Ok}
use Rattle.std.specs.List.{AllByRecursion, list_any}
use Rattle.wire_base.specs.declared.pair.Pair.{Pair}
use Rattle.session_query.specs.Queries.{Asking, left_of, next_batch, unanswered, told_in, answered}
use Rattle.end_model.specs.Querying.{unless_complete}
use Rattle.end_model.specs.Tunnels.{Tunnel}
use Rattle.step_laws.specs.Queries.{IsQuery}
use Rattle.epoch_machine.specs.Letters.{Fsq}
use Rattle.epoch_machine.specs.Worlds as machine
use Rattle.epoch_machine.specs.Calls.{Calls}
use Rattle.session_laws.specs.Names.{name, name_of}
use Rattle.recovery_laws.specs.Queries.{asks_in, QueryJoined}
use Rattle.recovery_laws.specs.Asking.{Asked, IsToAsk, Told}
use Rattle.recovery_laws.specs.Hearing.{EndsCalls, told_for}

-- whether a session of a node, by its name, is one of these
abbrev pub names_one : ℕ → List Pair → ℕ → Bool
names_one n pairs z = list_any (λ (p : Pair). name n p.sender == z) pairs

-- where the machine's tunnel asks for what an end's does, it still does once both heard the answer
abbrev pub AskedIsLeft : Type 0
AskedIsLeft = (c d : Calls) (n x peer : ℕ) (q : Asking) (answers gone : List Pair)
    (ended : ℕ → Bool) → IsQuery q → told_in q answers ≡ Ok gone
    → EndsCalls c d x ended (λ z. list_any (λ (a : Told). a.call == z) (told_for n peer (unanswered q) answers))
    → ((z : ℕ) → c.asks x z ≡ names_one n (left_of q) z) → (z : ℕ) → d.asks x z ≡ names_one n (left_of (unless_complete (answered q))) z

-- what is left is what was, behind what was answered
abbrev pub LeftIsAsked : Type 0
LeftIsAsked = (q : Asking) → left_of (unless_complete (answered q)) ≡ drop q.asked (left_of q)

-- a session of a node that a tunnel asks for, whose peer is another node
abbrev pub asked_of : ℕ → ℕ → Pair → Asked
asked_of n peer p = record { own = name n p.sender; other = name_of peer p.receiver }

-- what the next batch asks for the machine's tunnel is to ask for, in the same letters
abbrev pub BatchIsToAsk : Type 0
BatchIsToAsk = (m : machine.World) (n i peer : ℕ) (t : Tunnel)
    (pairs : List Pair) → QueryJoined m n i peer t → next_batch t.query ≡ Some pairs
    → AllByRecursion (IsToAsk m (name n i)) (map (λ p. asked_of n peer p) pairs)
    × (map (λ (q : Asked). Fsq q.own q.other) (map (λ p. asked_of n peer p) pairs) ≡ asks_in n peer pairs)

pub record QueriesGoOn : Type 0 where
  pub batches : BatchIsToAsk
  pub asked : AskedIsLeft
  pub left : LeftIsAsked
