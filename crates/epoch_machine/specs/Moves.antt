-- The moves of the world, and its runs.
use Rattle.std.specs.Prelude.{ℕ, Bool, true, false, if◌then◌else◌, ◌==◌, ◌&&◌, ◌||◌, not, nat_le, List, [], ◌∷◌, slice_get, Option, Some, None}
use Rattle.epoch_machine.specs.Names.{is_new, is_name}
use Rattle.epoch_machine.specs.Letters.{Letter, Sccrq, Sccrp, StopCcn, Hello, Request, Reply, Connect, Cdn, Fsq}
use Rattle.epoch_machine.specs.Tunnels.{Tunnels, Gone, Closed, is_live, is_active, is_open, is_established, is_wait_reply, is_wait_connect, attempts_by, answers_by, opened, accepted, restored, frozen, confirms, is_confirmed, goes_down, comes_up, keeps_up, keeps_down}
use Rattle.epoch_machine.specs.Channels.{refuses}
use Rattle.epoch_machine.specs.Calls.{ends, loses, of_tunnel, unfinished, is_call, comes_back, is_born, is_asked_for, keeps_call, resets, lives, waits, waits_reply, waits_connect}
use Rattle.epoch_machine.specs.Worlds.{World, Rules, empty_world, gives, took_one, leaves, takes, is_sccrp, is_scccn, is_stop}

-- a record that a step writes
pub data Kept : Type 0 where
  -- tunnel, the other end
  TunnelUp : ℕ → ℕ → Kept
  TunnelDown : ℕ → Kept
  -- call, the other end's name, and the place of the letter that establishes it
  CallUp : ℕ → ℕ → ℕ → Kept
  CallDown : ℕ → Kept

pub data Move : Type 0 where
  -- a LAC's node opens a tunnel to a peer's: node, peer's node, new tunnel
  Opens : ℕ → ℕ → ℕ → Move
  -- an opener's SCCRQ makes a tunnel at the peer's node: opener, new tunnel
  Accepts : ℕ → ℕ → Move
  -- it's refused, by a StopCCN of no tunnel
  Refuses : ℕ → Move
  -- the opener takes that
  TakesRefusal : ℕ → Move
  -- a letter is delivered: to this tunnel, the sender, its epoch, its place, and for a request the name of a new call, one that isn't new, or 0
  Delivers : ℕ → ℕ → ℕ → ℕ → ℕ → Move
  SaysHello : ℕ → Move
  Closes : ℕ → Move
  -- the tunnel is removed, with no letter
  Clears : ℕ → Move
  -- a new call that asks, at either end of a link: tunnel, call
  AddsCall : ℕ → ℕ → Move
  Asks : ℕ → Move
  -- a call is ended by its own end, with a CDN
  EndsTold : ℕ → Move
  -- or without
  EndsSilent : ℕ → Move
  -- the next letter of a tunnel's query: tunnel, call
  Queries : ℕ → ℕ → Move
  -- an attempt of the other end's is answered: tunnel, attempt, new answer, the first numbers of the tunnel's letters and of the other end's
  Freezes : ℕ → ℕ → ℕ → ℕ → ℕ → Move
  -- the attempting end takes an answer: tunnel, answer
  ResetsAttempting : ℕ → ℕ → Move
  -- the answering end takes the confirmation of its answer
  ResetsAnswering : ℕ → ℕ → Move
  -- a tunnel in the book comes back: tunnel, new attempt
  Restores : ℕ → ℕ → Move
  -- a node goes down, and these records of the step that it was in are kept
  Stops : ℕ → List Kept → Move
  Starts : ℕ → Move

-- the letter stands there
abbrev pub is_there : (Letter → Bool) → Option Letter → Bool
is_there test None = false
is_there test (Some l) = test l

abbrev pub is_reply : ℕ → ℕ → Letter → Bool
is_reply own z (Reply a b) = (a == own) && (b == z)
is_reply own z l = false

abbrev pub is_connect : ℕ → Letter → Bool
is_connect z (Connect b) = b == z
is_connect z l = false

-- a letter of this sender's reaches the tunnel: by the tunnel that its header names; or, a StopCCN of a sender that has learned nothing, by tunnel 0
abbrev pub reaches : Tunnels → ℕ → ℕ → Letter → Bool
reaches t s x l = (t.learned s == x) || (is_stop l && ((t.learned s == 0) && (t.learned x == s)))

-- the tunnel may take the letter at this place of the sender's list of this epoch
unfoldable pub may_take : Rules → World → ℕ → ℕ → ℕ → ℕ → Letter → Bool
may_take r w x s e k l =
    is_active (w.tunnels.phase x)
    && ((is_name s && reaches w.tunnels s x l)
    && ((if r.reads_epochs then nat_le (w.tunnels.entered x) e else true)
    && (k == w.channels.taken x (w.tunnels.entered x))))

-- a StopCCN closes the tunnel, and what a closed tunnel takes isn't counted
unfoldable pub delivers : Rules → World → ℕ → ℕ → ℕ → ℕ → ℕ → Option Letter → World
delivers r w x s e k z None = w
delivers r w x s e k z (Some StopCcn) = if may_take r w x s e k StopCcn then leaves w x Closed else w
delivers r w x s e k z (Some l) = if may_take r w x s e k l then takes r (took_one w x) x s l z else w

unfoldable pub may_clear : World → ℕ → Bool
may_clear w x = is_live (w.tunnels.phase x) || (w.tunnels.booked x && w.tunnels.up (w.tunnels.node x))

-- a step of node n may write this record: it's that node's, and the letter behind it stands
unfoldable pub may_keep : World → ℕ → Kept → Bool
may_keep w n (TunnelUp x s) =
    (w.tunnels.node x == n)
    && ((is_name s && (w.tunnels.learned s == x))
    && ((is_wait_reply (w.tunnels.phase x) && is_there is_sccrp (slice_get (w.channels.sent s 0) 0))
    || (is_wait_connect (w.tunnels.phase x) && is_there is_scccn (slice_get (w.channels.sent s 0) 1))))
may_keep w n (TunnelDown x) = (w.tunnels.node x == n) && may_clear w x
may_keep w n (CallUp z own k) =
    (w.tunnels.node (w.calls.tunnel z) == n)
    && (is_open (w.tunnels.phase (w.calls.tunnel z))
    && ((waits_reply (w.calls.state z) && is_there (is_reply own z) (slice_get (w.channels.sent (w.tunnels.learned (w.calls.tunnel z)) (w.tunnels.entered (w.calls.tunnel z))) k))
    || (waits_connect (w.calls.state z)
    && ((w.calls.remote z == own)
    && is_there (is_connect z) (slice_get (w.channels.sent (w.tunnels.learned (w.calls.tunnel z)) (w.tunnels.entered (w.calls.tunnel z))) k)))))
may_keep w n (CallDown z) = (w.tunnels.node (w.calls.tunnel z) == n) && lives (w.calls.state z)

-- the record is written; a tunnel learns its other end once, and a call that has ended isn't established
unfoldable pub keeps : World → Kept → World
keeps w (TunnelUp x s) = if (w.tunnels.learned x == 0) || (w.tunnels.learned x == s) then record w { tunnels = keeps_up w.tunnels x s } else w
keeps w (TunnelDown x) = record w { tunnels = keeps_down w.tunnels x; calls = ends w.calls (of_tunnel w.calls x) }
keeps w (CallUp z own k) = if lives (w.calls.state z) then record w { calls = keeps_call w.calls z own } else w
keeps w (CallDown z) = record w { calls = ends w.calls (is_call z) }

-- of these records those that the world before allows
unfoldable pub keeps_all : World → ℕ → List Kept → World → World
keeps_all before n [] w = w
keeps_all before n (k ∷ ks) w = keeps_all before n ks (if may_keep before n k then keeps w k else w)

-- a node goes down, and all that it holds but its records
unfoldable pub falls : World → ℕ → World
falls w n = record w { tunnels = goes_down w.tunnels n; calls = loses w.calls (λ z. w.tunnels.node (w.calls.tunnel z) == n) }

unfoldable pub may_open : World → ℕ → ℕ → Bool
may_open w n x = w.tunnels.up n && is_new w.tunnels.drawn x

unfoldable pub may_accept : World → ℕ → ℕ → Bool
may_accept w s x = w.tunnels.up (w.tunnels.peer s) && ((w.tunnels.drawn s && w.tunnels.opener s) && is_new w.tunnels.drawn x)

unfoldable pub may_take_refusal : World → ℕ → Bool
may_take_refusal w x = w.channels.refused x && (is_wait_reply (w.tunnels.phase x) && (w.channels.taken x 0 == 0))

-- an opener may have calls before it's open; both ends may ask, since what accepts a LAC's tunnel may be a LAC too
unfoldable pub may_add : World → ℕ → ℕ → Bool
may_add w x z = (is_open (w.tunnels.phase x) || is_wait_reply (w.tunnels.phase x)) && is_new w.calls.drawn z

unfoldable pub may_ask : World → ℕ → Bool
may_ask w z = is_open (w.tunnels.phase (w.calls.tunnel z)) && waits (w.calls.state z)

unfoldable pub may_end_told : World → ℕ → Bool
may_end_told w z = is_open (w.tunnels.phase (w.calls.tunnel z)) && (lives (w.calls.state z) && not (waits (w.calls.state z)))

unfoldable pub may_end_silent : World → ℕ → Bool
may_end_silent w z = lives (w.calls.state z) && (not (is_active (w.tunnels.phase (w.calls.tunnel z))) || waits (w.calls.state z))

unfoldable pub may_query : World → ℕ → ℕ → Bool
may_query w x z = is_open (w.tunnels.phase x) && w.calls.asks x z

unfoldable pub may_freeze : World → ℕ → ℕ → ℕ → Bool
may_freeze w x a c =
    is_established (w.tunnels.phase x)
    && ((is_name (w.tunnels.attempts a) && (w.tunnels.learned (w.tunnels.attempts a) == x))
    && ((w.tunnels.learned x == w.tunnels.attempts a) && is_new w.tunnels.drawn c))

unfoldable pub may_reset_attempting : World → ℕ → ℕ → Bool
may_reset_attempting w x c = attempts_by (w.tunnels.phase x) (w.tunnels.answered c) && is_name (w.tunnels.answers c)

unfoldable pub may_reset_answering : World → ℕ → ℕ → Bool
may_reset_answering w x c = answers_by (w.tunnels.phase x) c && w.tunnels.confirmed c

unfoldable pub may_restore : World → ℕ → ℕ → Bool
may_restore w x a = (w.tunnels.booked x && not (is_live (w.tunnels.phase x))) && (w.tunnels.up (w.tunnels.node x) && is_new w.tunnels.drawn a)

-- what each move does where it's allowed
unfoldable pub opens : World → ℕ → ℕ → ℕ → World
opens w n m x = gives (record w { tunnels = opened w.tunnels n m x }) x Sccrq

unfoldable pub accepts : World → ℕ → ℕ → World
accepts w s x = took_one (gives (record w { tunnels = accepted w.tunnels s x }) x Sccrp) x

unfoldable pub adds_call : World → ℕ → ℕ → World
adds_call w x z = record w { calls = is_born w.calls x z }

unfoldable pub asks_for : World → ℕ → World
asks_for w z = gives (record w { calls = is_asked_for w.calls z (w.tunnels.entered (w.calls.tunnel z)) }) (w.calls.tunnel z) (Request z)

unfoldable pub ends_call : World → ℕ → World
ends_call w z = record w { calls = ends w.calls (is_call z) }

unfoldable pub ends_told : Rules → World → ℕ → World
ends_told r w z = if r.tells_ends then gives (ends_call w z) (w.calls.tunnel z) (Cdn z (w.calls.remote z)) else ends_call w z

unfoldable pub queries : World → ℕ → ℕ → World
queries w x z = gives w x (Fsq z (w.calls.held x (w.tunnels.entered x) z))

unfoldable pub freezes : Rules → World → ℕ → ℕ → ℕ → ℕ → ℕ → World
freezes r w x a c own theirs = record w { tunnels = frozen w.tunnels x a c own theirs; calls = if r.ends_at_freezes then ends w.calls (unfinished w.calls x) else w.calls }

unfoldable pub resets_attempting : Rules → World → ℕ → ℕ → World
resets_attempting r w x c = record w { tunnels = confirms w.tunnels x c; calls = resets r.asks_after_resets w.calls x (w.tunnels.makes c) }

unfoldable pub resets_answering : Rules → World → ℕ → ℕ → World
resets_answering r w x c = record w { tunnels = is_confirmed w.tunnels x c; calls = resets r.asks_after_resets w.calls x (w.tunnels.makes c) }

unfoldable pub restores : World → ℕ → ℕ → World
restores w x a = record w { tunnels = restored w.tunnels x a; calls = comes_back w.calls x }

-- a move that isn't allowed changes nothing
unfoldable pub step : Rules → World → Move → World
step r w (Opens n m x) = if may_open w n x then opens w n m x else w
step r w (Accepts s x) = if may_accept w s x then accepts w s x else w
step r w (Refuses s) = if w.tunnels.opener s then record w { channels = refuses w.channels s } else w
step r w (TakesRefusal x) = if may_take_refusal w x then leaves w x Closed else w
step r w (Delivers x s e k z) = delivers r w x s e k z (slice_get (w.channels.sent s e) k)
step r w (SaysHello x) = if is_open (w.tunnels.phase x) then gives w x Hello else w
step r w (Closes x) = if is_active (w.tunnels.phase x) then leaves (gives w x StopCcn) x Closed else w
step r w (Clears x) = if may_clear w x then leaves w x Gone else w
step r w (AddsCall x z) = if may_add w x z then adds_call w x z else w
step r w (Asks z) = if may_ask w z then asks_for w z else w
step r w (EndsTold z) = if may_end_told w z then ends_told r w z else w
step r w (EndsSilent z) = if may_end_silent w z then ends_call w z else w
step r w (Queries x z) = if may_query w x z then queries w x z else w
step r w (Freezes x a c own theirs) = if may_freeze w x a c then freezes r w x a c own theirs else w
step r w (ResetsAttempting x c) = if may_reset_attempting w x c then resets_attempting r w x c else w
step r w (ResetsAnswering x c) = if may_reset_answering w x c then resets_answering r w x c else w
step r w (Restores x a) = if may_restore w x a then restores w x a else w
step r w (Stops n ks) = falls (keeps_all w n ks w) n
step r w (Starts n) = record w { tunnels = comes_up w.tunnels n }

unfoldable pub goes_on : Rules → World → List Move → World
goes_on r w [] = w
goes_on r w (m ∷ ms) = goes_on r (step r w m) ms

-- the world after a run
abbrev pub after : Rules → List Move → World
after r ms = goes_on r empty_world ms
