-- The records that each step writes, and what they make of the book.
use Rattle.std.specs.Prelude.{◌≡◌, ℕ, Bool, true, if◌then◌else◌, ◌==◌, ◌&&◌, ◌||◌, not, List, [], ◌∷◌, slice_get, Option, Some, None}
use Rattle.epoch_machine.specs.Names.{is_name}
use Rattle.epoch_machine.specs.Letters.{Letter, Sccrp, Scccn, StopCcn, Reply, Connect, Cdn, Fsr}
use Rattle.epoch_machine.specs.Tunnels.{is_open, is_active, is_established, is_wait_reply, is_wait_connect}
use Rattle.epoch_machine.specs.Calls.{waits_reply, waits_connect, stands_with}
use Rattle.epoch_machine.specs.Worlds.{World, all_rules}
use Rattle.epoch_machine.specs.Moves.{Move, Opens, Accepts, Refuses, TakesRefusal, Delivers, SaysHello, Closes, Clears, AddsCall, Asks, EndsTold, EndsSilent, Queries, Freezes, ResetsAttempting, ResetsAnswering, Restores, Stops, Starts, Kept, TunnelUp, TunnelDown, CallUp, CallDown, may_keep, keeps, may_take, may_take_refusal, may_clear, may_end_told, may_end_silent}

-- the node whose step it is
unfoldable pub node_of : World → Move → ℕ
node_of w (Opens n m x) = n
node_of w (Accepts s x) = w.tunnels.peer s
node_of w (Refuses s) = w.tunnels.peer s
node_of w (TakesRefusal x) = w.tunnels.node x
node_of w (Delivers x s e k z) = w.tunnels.node x
node_of w (SaysHello x) = w.tunnels.node x
node_of w (Closes x) = w.tunnels.node x
node_of w (Clears x) = w.tunnels.node x
node_of w (AddsCall x z) = w.tunnels.node x
node_of w (Asks z) = w.tunnels.node (w.calls.tunnel z)
node_of w (EndsTold z) = w.tunnels.node (w.calls.tunnel z)
node_of w (EndsSilent z) = w.tunnels.node (w.calls.tunnel z)
node_of w (Queries x z) = w.tunnels.node x
node_of w (Freezes x a c own theirs) = w.tunnels.node x
node_of w (ResetsAttempting x c) = w.tunnels.node x
node_of w (ResetsAnswering x c) = w.tunnels.node x
node_of w (Restores x a) = w.tunnels.node x
node_of w (Stops n ks) = n
node_of w (Starts n) = n

-- a tunnel that leaves, with its calls, if it's established or stands in the book
abbrev pub of_leaving : World → ℕ → List Kept
of_leaving w x = if is_established (w.tunnels.phase x) || w.tunnels.booked x then TunnelDown x ∷ [] else []

-- a call that ends, if it stands in the book
abbrev pub of_ending : World → ℕ → List Kept
of_ending w z = if w.calls.booked z then CallDown z ∷ [] else []

-- an open tunnel takes a letter about calls, from this place
abbrev pub of_call_letter : World → ℕ → ℕ → Letter → List Kept
of_call_letter w x k (Reply own z) = if (w.calls.tunnel z == x) && waits_reply (w.calls.state z) then CallUp z own k ∷ [] else []
of_call_letter w x k (Connect z) = if (w.calls.tunnel z == x) && waits_connect (w.calls.state z) then CallUp z (w.calls.remote z) k ∷ [] else []
of_call_letter w x k (Cdn own z) = if is_name z && (w.calls.tunnel z == x) then of_ending w z else []
of_call_letter w x k (Fsr own z here) = if not here && stands_with w.calls x z own then of_ending w z else []
of_call_letter w x k l = []

-- a tunnel takes a letter of this sender's
abbrev pub of_letter : World → ℕ → ℕ → ℕ → Letter → List Kept
of_letter w x s k StopCcn = of_leaving w x
of_letter w x s k Sccrp = if is_wait_reply (w.tunnels.phase x) then TunnelUp x s ∷ [] else []
of_letter w x s k Scccn = if is_wait_connect (w.tunnels.phase x) then TunnelUp x s ∷ [] else []
of_letter w x s k l = if is_open (w.tunnels.phase x) then of_call_letter w x k l else []

unfoldable pub of_delivery : World → ℕ → ℕ → ℕ → ℕ → Option Letter → List Kept
of_delivery w x s e k None = []
of_delivery w x s e k (Some l) = if may_take all_rules w x s e k l then of_letter w x s k l else []

-- of a stop those that it keeps
unfoldable pub kept_of : World → ℕ → List Kept → List Kept
kept_of w n [] = []
kept_of w n (k ∷ ks) = if may_keep w n k then k ∷ kept_of w n ks else kept_of w n ks

-- the records that a step writes, in order, on the world before it
unfoldable pub records_of : World → Move → List Kept
records_of w (TakesRefusal x) = if may_take_refusal w x then of_leaving w x else []
records_of w (Delivers x s e k z) = of_delivery w x s e k (slice_get (w.channels.sent s e) k)
records_of w (Closes x) = if is_active (w.tunnels.phase x) then of_leaving w x else []
records_of w (Clears x) = if may_clear w x then of_leaving w x else []
records_of w (EndsTold z) = if may_end_told w z then of_ending w z else []
records_of w (EndsSilent z) = if may_end_silent w z then of_ending w z else []
records_of w (Stops n ks) = kept_of w n ks
records_of w m = []

-- the records are written one after the other
unfoldable pub writes : World → List Kept → World
writes w [] = w
writes w (k ∷ ks) = writes (keeps w k) ks

-- each of these records may be kept by a stop of the node
unfoldable pub each_allowed : World → ℕ → List Kept → Bool
each_allowed w n [] = true
each_allowed w n (k ∷ ks) = may_keep w n k && each_allowed w n ks

-- the same tunnels and calls stand in both books, with the same other ends
pub record SameBook (v w : World) : Type 0 where
  pub tunnels : (x : ℕ) → v.tunnels.booked x ≡ w.tunnels.booked x
  pub links : (x : ℕ) → w.tunnels.booked x ≡ true → v.tunnels.learned x ≡ w.tunnels.learned x
  pub calls : (z : ℕ) → v.calls.booked z ≡ w.calls.booked z
  pub names : (z : ℕ) → w.calls.booked z ≡ true → v.calls.remote z ≡ w.calls.remote z
