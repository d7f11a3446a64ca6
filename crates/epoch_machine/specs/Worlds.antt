-- The world, and what one end does in it.
use Rattle.std.specs.Prelude.{ℕ, Bool, true, false, if◌then◌else◌, ◌==◌, ◌&&◌, not}
use Rattle.epoch_machine.specs.Names.{is_new, is_name}
use Rattle.epoch_machine.specs.Letters.{Letter, Sccrp, Scccn, StopCcn, Request, Reply, Connect, Cdn, Fsq, Fsr}
use Rattle.epoch_machine.specs.Tunnels.{Tunnels, no_tunnels, Phase, is_wait_reply, is_wait_connect, is_open, established_with, established, left}
use Rattle.epoch_machine.specs.Channels.{Channels, no_channels, puts, counts}
use Rattle.epoch_machine.specs.Calls.{Calls, no_calls, ends, of_tunnel, replies, is_first_up, is_second_up, is_told, stands_with, is_named, is_call, waits_reply, waits_connect}

pub record World : Type 0 where
  pub tunnels : Tunnels
  pub channels : Channels
  pub calls : Calls

abbrev pub empty_world : World
empty_world = record { tunnels = no_tunnels; channels = no_channels; calls = no_calls }

-- the rules that are kept
pub record Rules : Type 0 where
  -- a delivery looks at the epoch
  pub reads_epochs : Bool
  -- a query is answered by what stands
  pub answers_truly : Bool
  -- a reset is followed by a query
  pub asks_after_resets : Bool
  -- a call of an open tunnel ends with a CDN
  pub tells_ends : Bool
  -- a freeze ends the calls that aren't established
  pub ends_at_freezes : Bool

abbrev pub all_rules : Rules
all_rules = record { reads_epochs = true; answers_truly = true; asks_after_resets = true; tells_ends = true; ends_at_freezes = true }

-- the tunnel's epoch
abbrev pub now_in : World → ℕ → ℕ
now_in w x = w.tunnels.entered x

-- the tunnel gives a letter, in its epoch
unfoldable pub gives : World → ℕ → Letter → World
gives w x l = record w { channels = puts w.channels x (w.tunnels.entered x) l }

-- the tunnel's next letter of the other end's counts as taken
unfoldable pub took_one : World → ℕ → World
took_one w x = record w { channels = counts w.channels x (w.tunnels.entered x) }

-- all calls of the tunnel end, and it's closed, or gone
unfoldable pub leaves : World → ℕ → Phase → World
leaves w x p = record w { tunnels = left w.tunnels x p; calls = ends w.calls (of_tunnel w.calls x) }

unfoldable pub connects : World → ℕ → ℕ → World
connects w x s = gives (record w { tunnels = established_with w.tunnels x s }) x Scccn

unfoldable pub is_connected : World → ℕ → World
is_connected w x = record w { tunnels = established w.tunnels x }

-- a request is answered by a new call, or refused; or it's ignored, by an end that has no id left, or takes no calls
unfoldable pub answers_request : World → ℕ → ℕ → ℕ → World
answers_request w x own z =
    if is_new w.calls.drawn z
    then gives (record w { calls = replies w.calls x (w.tunnels.entered x) z own }) x (Reply z own)
    else if is_name z
    then gives w x (Cdn 0 own)
    else w

unfoldable pub takes_reply : World → ℕ → ℕ → ℕ → World
takes_reply w x own z =
    if (w.calls.tunnel z == x) && waits_reply (w.calls.state z)
    then gives (record w { calls = is_first_up w.calls z own }) x (Connect own)
    else w

unfoldable pub takes_connect : World → ℕ → ℕ → World
takes_connect w x z =
    if (w.calls.tunnel z == x) && waits_connect (w.calls.state z)
    then record w { calls = is_second_up w.calls z }
    else w

unfoldable pub takes_cdn : World → ℕ → ℕ → ℕ → World
takes_cdn w x own header = record w { calls = ends w.calls (is_named w.calls x own header) }

-- the pair is here exactly where the tunnel's call stands with that name
unfoldable pub answers_query : Rules → World → ℕ → ℕ → ℕ → World
answers_query r w x own z = gives w x (Fsr z own (if r.answers_truly then stands_with w.calls x z own else true))

unfoldable pub takes_answer : World → ℕ → ℕ → ℕ → Bool → World
takes_answer w x own z here =
    if not here && stands_with w.calls x z own
    then record w { calls = ends (is_told w.calls x z) (is_call z) }
    else record w { calls = is_told w.calls x z }

-- what an open tunnel does with a letter about calls; the last name is for the call that answers a request
unfoldable pub takes_open : Rules → World → ℕ → Letter → ℕ → World
takes_open r w x (Request own) z = answers_request w x own z
takes_open r w x (Reply own y) z = takes_reply w x own y
takes_open r w x (Connect y) z = takes_connect w x y
takes_open r w x (Cdn own y) z = takes_cdn w x own y
takes_open r w x (Fsq own y) z = answers_query r w x own y
takes_open r w x (Fsr own y here) z = takes_answer w x own y here
takes_open r w x l z = w

-- what an active tunnel does with a letter of this sender that it takes, other than a StopCCN
unfoldable pub takes : Rules → World → ℕ → ℕ → Letter → ℕ → World
takes r w x s Sccrp z = if is_wait_reply (w.tunnels.phase x) then connects w x s else w
takes r w x s Scccn z = if is_wait_connect (w.tunnels.phase x) then is_connected w x else w
takes r w x s l z = if is_open (w.tunnels.phase x) then takes_open r w x l z else w

abbrev pub is_sccrp : Letter → Bool
is_sccrp Sccrp = true
is_sccrp l = false

abbrev pub is_scccn : Letter → Bool
is_scccn Scccn = true
is_scccn l = false

abbrev pub is_stop : Letter → Bool
is_stop StopCcn = true
is_stop l = false
