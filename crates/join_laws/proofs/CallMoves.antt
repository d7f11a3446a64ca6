-- What the machine does where an open tunnel takes a letter about a call, and gives one: the channel, and the call.
use Rattle.std.proofs.Common.{◌≡◌, ℕ, suc, ◌+◌, true, List, [], ◌∷◌, ◌++◌, slice_get, refl, sym, ap, ◌∙◌, subst, Some}
use Rattle.std.specs.Prelude.{if◌then◌else◌}
use Rattle.epoch_machine.specs.Letters.{Letter}
use Rattle.epoch_machine.specs.Tunnels.{Tunnels}
use Rattle.epoch_machine.specs.Calls.{Calls}
use Rattle.epoch_machine.specs.Worlds.{World, all_rules, gives, took_one, takes}
use Rattle.epoch_machine.specs.Moves.{Delivers, may_take, delivers, step}
use Rattle.stop_laws.specs.Records.{node_of}
use Rattle.recovery_laws.specs.Asking.{GoesOn, TakesFrom}
use Rattle.recovery_laws.proofs.Asking.{gave_one, gave_calls, took_calls, more, heard_one}

-- the world in which a letter was taken, with these calls
abbrev pub with_calls : World → ℕ → Calls → World
with_calls w x c = record (took_one w x) { calls = c }

-- and in which one was given besides
abbrev pub then_gives : World → ℕ → Calls → Letter → World
then_gives w x c l = gives (with_calls w x c) x l

pub with_calls_tunnels : (w : World) (x : ℕ) (c : Calls) → (with_calls w x c).tunnels ≡ w.tunnels
with_calls_tunnels w x c = (took_calls w x).1

pub then_gives_tunnels : (w : World) (x : ℕ) (c : Calls) (l : Letter) → (then_gives w x c l).tunnels ≡ w.tunnels
then_gives_tunnels w x c l = (gave_calls (with_calls w x c) x l).1 ∙ with_calls_tunnels w x c

pub then_gives_calls : (w : World) (x : ℕ) (c : Calls) (l : Letter) → (then_gives w x c l).calls ≡ c
then_gives_calls w x c l = (gave_calls (with_calls w x c) x l).0

-- the channel takes one, and gives one
pub then_gives_goes : (w : World) (x s e place : ℕ) (c : Calls) (l : Letter) → TakesFrom w x s e place
    → GoesOn w (then_gives w x c l) x e (l ∷ []) 1
then_gives_goes w x s e place c l t =
    more w (with_calls w x c) (then_gives w x c l) x e [] (l ∷ []) 1 0 (heard_one w x s e place c t)
    (subst (λ f. GoesOn (with_calls w x c) (then_gives w x c l) x f (l ∷ []) 0)
    (ap (λ (T : Tunnels). T.entered x) (with_calls_tunnels w x c) ∙ t.entered) (gave_one (with_calls w x c) x l))

-- the node of a delivery is that of the tunnel
pub delivers_node : (w : World) (x s e k z : ℕ) → node_of w (Delivers x s e k z) ≡ w.tunnels.node x
unfolding node_of
delivers_node w x s e k z = refl
