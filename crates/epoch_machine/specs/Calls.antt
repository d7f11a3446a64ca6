-- The calls of all tunnels, with what outlives them: births, mates, who was up and who is over, and the pairs held at a reset.
use Rattle.std.specs.Prelude.{ℕ, suc, Bool, true, false, if◌then◌else◌, ◌==◌, ◌&&◌, ◌||◌, not, Option, Some, None}
use Rattle.epoch_machine.specs.Names.{assign, assign_all, is_name}

pub data CallState : Type 0 where
  -- it doesn't live
  NoCall : CallState
  -- its request wasn't put yet
  Waits : CallState
  -- its request was put
  WaitsReply : CallState
  -- its reply was put
  WaitsConnect : CallState
  Up : CallState

abbrev pub lives : CallState → Bool
lives NoCall = false
lives s = true

abbrev pub waits : CallState → Bool
waits Waits = true
waits s = false

abbrev pub waits_reply : CallState → Bool
waits_reply WaitsReply = true
waits_reply s = false

abbrev pub waits_connect : CallState → Bool
waits_connect WaitsConnect = true
waits_connect s = false

abbrev pub is_up : CallState → Bool
is_up Up = true
is_up s = false

pub record Calls : Type 0 where
  pub drawn : ℕ → Bool
  -- the call's tunnel
  pub tunnel : ℕ → ℕ
  pub state : ℕ → CallState
  -- the call's name at the other end, once it's known
  pub remote : ℕ → ℕ
  -- the call's record stands
  pub booked : ℕ → Bool
  -- births are counted from 1; a replying call has that of its mate, the call that asked for it
  pub births : ℕ
  pub birth : ℕ → ℕ
  pub mate : ℕ → ℕ
  -- the epoch in which the request was put, or taken
  pub made : ℕ → Option ℕ
  -- it was established, or its record stood
  pub up : ℕ → Bool
  -- it lived or was in the book, and is neither now
  pub over : ℕ → Bool
  -- the pairs established at the reset by which this tunnel entered this epoch: own name to the other end's
  pub held : ℕ → ℕ → ℕ → ℕ
  -- the pairs of the tunnel's query that aren't answered, by own name
  pub asks : ℕ → ℕ → Bool

abbrev pub no_calls : Calls
no_calls = record {
  drawn = λ k. false;
  tunnel = λ z. 0;
  state = λ z. NoCall;
  remote = λ z. 0;
  booked = λ z. false;
  births = 0;
  birth = λ z. 0;
  mate = λ z. 0;
  made = λ z. None;
  up = λ z. false;
  over = λ z. false;
  held = λ x e z. 0;
  asks = λ x z. false;
}

-- these calls end, with their records
unfoldable pub ends : Calls → (ℕ → Bool) → Calls
ends c kind = record c {
  state = assign_all c.state kind NoCall;
  booked = assign_all c.booked kind false;
  over = λ z. if kind z && (lives (c.state z) || c.booked z) then true else c.over z;
}

-- these calls are lost with their node; those in the book come back
unfoldable pub loses : Calls → (ℕ → Bool) → Calls
loses c kind = record c {
  state = assign_all c.state kind NoCall;
  over = λ z. if kind z && (lives (c.state z) && not (c.booked z)) then true else c.over z;
}

abbrev pub of_tunnel : Calls → ℕ → ℕ → Bool
of_tunnel c x z = c.tunnel z == x

-- the calls of a tunnel that aren't established
abbrev pub unfinished : Calls → ℕ → ℕ → Bool
unfinished c x z = (c.tunnel z == x) && (lives (c.state z) && not (is_up (c.state z)))

abbrev pub is_call : ℕ → ℕ → Bool
is_call y z = z == y

unfoldable pub comes_back : Calls → ℕ → Calls
comes_back c x = record c { state = λ z. if (c.tunnel z == x) && c.booked z then Up else c.state z }

unfoldable pub is_born : Calls → ℕ → ℕ → Calls
is_born c x z = record c {
  drawn = assign c.drawn z true;
  tunnel = assign c.tunnel z x;
  state = assign c.state z Waits;
  births = suc c.births;
  birth = assign c.birth z (suc c.births);
}

unfoldable pub is_asked_for : Calls → ℕ → ℕ → Calls
is_asked_for c z e = record c { state = assign c.state z WaitsReply; made = assign c.made z (Some e) }

-- a new call of this tunnel replies to that one
unfoldable pub replies : Calls → ℕ → ℕ → ℕ → ℕ → Calls
replies c x e z own = record c {
  drawn = assign c.drawn z true;
  tunnel = assign c.tunnel z x;
  state = assign c.state z WaitsConnect;
  remote = assign c.remote z own;
  birth = assign c.birth z (c.birth own);
  mate = assign c.mate z own;
  made = assign c.made z (Some e);
}

unfoldable pub is_first_up : Calls → ℕ → ℕ → Calls
is_first_up c z own = record c { state = assign c.state z Up; remote = assign c.remote z own; booked = assign c.booked z true; up = assign c.up z true }

unfoldable pub is_second_up : Calls → ℕ → Calls
is_second_up c z = record c { state = assign c.state z Up; booked = assign c.booked z true; up = assign c.up z true }

-- the record of an establishing is kept, and no more of the step
unfoldable pub keeps_call : Calls → ℕ → ℕ → Calls
keeps_call c z own = record c { remote = assign c.remote z own; booked = assign c.booked z true; up = assign c.up z true }

-- at a reset: the pairs that the tunnel holds established, and its query over them
unfoldable pub resets : Bool → Calls → ℕ → ℕ → Calls
resets asked c x e = record c {
  held = assign c.held x (assign (c.held x) e (λ z. if (c.tunnel z == x) && is_up (c.state z) then c.remote z else 0));
  asks = assign c.asks x (λ z. asked && ((c.tunnel z == x) && is_up (c.state z)));
}

unfoldable pub is_told : Calls → ℕ → ℕ → Calls
is_told c x z = record c { asks = assign c.asks x (assign (c.asks x) z false) }

-- the tunnel's call stands with this name of the other end's
abbrev pub stands_with : Calls → ℕ → ℕ → ℕ → Bool
stands_with c x z own = (c.tunnel z == x) && (is_up (c.state z) && (c.remote z == own))

-- the calls of this tunnel that a CDN names: by its header, or, where that is 0, by its own name
abbrev pub is_named : Calls → ℕ → ℕ → ℕ → ℕ → Bool
is_named c x own header z = (c.tunnel z == x) && (if is_name header then z == header else (is_name own && (c.remote z == own)))
