-- A control message for a recovery tunnel, part by part.
use Rattle.std.proofs.Common.{◌≡◌, ℕ, Bool, List, Option, Some, refl, ap, ◌∙◌}
use Rattle.wire_base.specs.declared.letter.Letter.{Letter}
use Rattle.recv_window.specs.declared.Class.{Class}
use Rattle.control_channel.specs.Channel.{class_told}
use Rattle.recovery_tunnel.specs.Either.{channel_of}
use Rattle.end_model.specs.declared.tunnel.Call.{Call}
use Rattle.end_model.specs.declared.tunnel.Config.{Config}
use Rattle.end_model.specs.declared.moves.Move.TheVariants as move
use Rattle.end_model.specs.Querying.{asks_next}
use Rattle.end_model.specs.Stopping.{clears}
use Rattle.end_model.specs.Turn.{with_move}
use Rattle.end_model.specs.Tunnels.{Turn, Recovering, ByAttempt, ByAnswer, connection_of}
use Rattle.end_model.specs.Recovering.{RecoveryTurn, with_recovery, begins_to_ask, hears_class, outstanding_of, settles_on, ends_attempt, hears_read, reads_nr_on}

-- Nr doesn't tell what a message is
pub class_same : (r : Recovering) (nr moment ns : ℕ) (empty : Bool) → class_told (connection_of (reads_nr_on nr moment r)).channel ns empty ≡ class_told (channel_of r) ns empty
class_same (ByAttempt c) nr moment ns empty = refl
class_same (ByAnswer a) nr moment ns empty = refl

-- the tunnel is cleared behind what the recovery tunnel sends
pub clears_behind : (calls : List (ℕ × Call)) (v : RecoveryTurn) (r : Recovering) (t u : Turn) → with_recovery r t ≡ v → u ≡ clears calls t → with_recovery r u ≡ record v { turn = clears calls v.turn }
clears_behind calls v r t u is cleared = rw (cleared, ← is) refl

-- the tunnel begins to ask behind what the recovery tunnel sends
pub asks_behind : (letters : List Letter) (v : RecoveryTurn) (r : Recovering) (t u : Turn) → with_recovery r t ≡ v → u ≡ asks_next letters t → with_recovery r u ≡ begins_to_ask letters v
asks_behind letters v r t u is asked = rw (asked, ← is) refl

-- a message is heard, acknowledged, and may end the recovery tunnel
pub heard_through : (c : Config) (letters : List Letter) (calls : List (ℕ × Call)) (body : List ℕ) (class : Option Class) (before : ℕ) (r s : Recovering) (t u v : Turn) (x : RecoveryTurn)
    → before ≡ outstanding_of r
    → with_recovery s u ≡ hears_class c letters calls body class r (with_move (move.RecoveryWentOn t.control.local) t)
    → with_recovery s v ≡ settles_on class before (Some s) u
    → x ≡ ends_attempt (Some s) v
    → x ≡ hears_read c letters calls body class r t
unfolding hears_read
heard_through c letters calls body class before r s t u v x count heard settled left =
    left
    ∙ ap (λ (y : RecoveryTurn). ends_attempt y.recovery y.turn) (settled ∙ ap (λ n. settles_on class n (Some s) u) count)
    ∙ ap (λ (w : RecoveryTurn). ends_attempt (settles_on class (outstanding_of r) w.recovery w.turn).recovery (settles_on class (outstanding_of r) w.recovery w.turn).turn) heard
