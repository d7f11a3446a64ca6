-- Turn after turn, from where a tunnel may have been opened.
use Rattle.std.proofs.Common.{◌≡◌, ℕ, ◌+◌, ◌≤◌, inl, Bool, true, false, List, [], ◌∷◌, ◌++◌, length, refl, sym, ap, subst, ◌∙◌, append_assoc, append-nil, arith}
use Rattle.std.specs.Prelude.{None}
use Rattle.port_turn.specs.Turns.{Turn}
use Rattle.held_ports.specs.Around.{Around}
use Rattle.pool_turns.specs.Turns.{Put, MakesTurn, Runs, StopsIn, Begins, MayBegin, Serves, BreaksOff}
use Rattle.pool_turns.proofs.Drawing.{goes_none, draws_none}
use Rattle.pool_turns.proofs.Following.{one_turn_more, so_many, turns_broke}
use Rattle.worker_pool.specs.declared.pass.PoolPass.{PoolPass}
use Rattle.pool_serving.specs.Handing.{puts_in}

-- a turn that ends where it began
stops_there : (a : Around) → StopsIn [] a a
stops_there a = record {
  t = record { now = 0; datagram = None; frame = None; lower = None };
  breaks = record { link = inl refl; ether = inl refl; up = inl refl; outs = []; gave = goes_none a.given };
  block = [];
  puts = inl refl;
}

pub may_begin : (opens : Bool) (a b : Around) → Begins opens a b → MayBegin opens a b
may_begin true a b h = (h.waits, h.asks, (h.outs, h.gave))
may_begin false a b h = h

pub all_served : (opens : Bool) (turns : ℕ) (ts : List Turn) (ps : List Put) (a b c : Around) → Begins opens a b → length ts ≡ turns → Runs ts ps b c → Serves opens turns ps a c
all_served opens turns ts ps a b c begins all runs = record { start = b; begins = begins; ts = ts; all = all; last = c; runs = runs; after = draws_none c }

-- it wasn't opened
pub never_began : (opens : Bool) (turns : ℕ) (a b : Around) → MayBegin opens a b → BreaksOff opens turns [] a b
never_began opens turns a b h = record {
  start = b;
  begins = h;
  ts = [];
  few = omega arith;
  whole = [];
  mid = b;
  runs = (refl, refl);
  last = [];
  stops = stops_there b;
  puts = refl;
}

-- it was, and turns were broken off
pub broke_later : (opens : Bool) (turns : ℕ) (ps : List Put) (a b c : Around) → Begins opens a b → BreaksOff false turns ps b c → BreaksOff opens turns ps a c
broke_later opens turns ps a b c begins h = record {
  start = h.start;
  begins = subst (λ (k : Around). MayBegin opens a k) (sym h.begins) (may_begin opens a b begins);
  ts = h.ts;
  few = h.few;
  whole = h.whole;
  mid = h.mid;
  runs = h.runs;
  last = h.last;
  stops = h.stops;
  puts = h.puts;
}

-- what one pass put, and what it put before
pub puts_then : (p q r : PoolPass) (xs ys : List Put) → puts_in q ≡ puts_in p ++ xs → puts_in r ≡ puts_in q ++ ys → puts_in r ≡ puts_in p ++ (xs ++ ys)
puts_then p q r xs ys a b = b ∙ (ap (λ (k : List Put). k ++ ys) a ∙ append_assoc (puts_in p) xs ys)

-- ---- one turn

abbrev pub HasStopped : PoolPass → PoolPass → Around → Around → Type 0
HasStopped p q a b = (ps : List Put) × StopsIn ps a b × (puts_in q ≡ puts_in p ++ ps)

pub has_stopped : (p q : PoolPass) (a b : Around) (ps : List Put) → StopsIn ps a b → puts_in q ≡ puts_in p ++ ps → HasStopped p q a b
has_stopped p q a b ps h e = (ps, h, e)

pub stopped_bare : (p q : PoolPass) (a b : Around) → StopsIn [] a b → puts_in q ≡ puts_in p → HasStopped p q a b
stopped_bare p q a b h e = ([], h, e ∙ sym (append-nil (puts_in p)))

-- ---- so many turns

abbrev pub HasRun : ℕ → PoolPass → PoolPass → Around → Around → Type 0
HasRun n p q a b = (ts : List Turn) × (ps : List Put) × (length ts ≡ n) × Runs ts ps a b × (puts_in q ≡ puts_in p ++ ps)

pub one_more : (n m : ℕ) (t : Turn) (qs : List Put) (p q r : PoolPass) (a b c : Around) → m ≡ n + 1 → HasRun n p q a b → MakesTurn t qs b c → puts_in r ≡ puts_in q ++ qs → HasRun m p r a c
one_more n m t qs p q r a b c is h made puts = (
  h.0 ++ t ∷ [],
  h.1 ++ qs,
  so_many h.0 t n h.2 ∙ sym is,
  one_turn_more h.0 t h.1 qs a b c h.3 made,
  puts_then p q r h.1 qs h.4 puts,
)

pub broke : (n turns : ℕ) (qs : List Put) (p q r : PoolPass) (a b c : Around) → n ≤ turns → HasRun n p q a b → StopsIn qs b c → puts_in r ≡ puts_in q ++ qs
    → (ps : List Put) × BreaksOff false turns ps a c × (puts_in r ≡ puts_in p ++ ps)
broke n turns qs p q r a b c few h stops puts = (
  h.1 ++ qs,
  turns_broke turns h.0 h.1 qs a b c (let l = h.2 in omega arith) h.3 stops,
  puts_then p q r h.1 qs h.4 puts,
)

-- ---- from the beginning

abbrev pub HasServed : Bool → ℕ → PoolPass → PoolPass → Around → Around → Type 0
HasServed opens turns p q a b = (ps : List Put) × Serves opens turns ps a b × (puts_in q ≡ puts_in p ++ ps)

abbrev pub HasBroken : Bool → ℕ → PoolPass → PoolPass → Around → Around → Type 0
HasBroken opens turns p q a b = (ps : List Put) × BreaksOff opens turns ps a b × (puts_in q ≡ puts_in p ++ ps)

module _ (opens : Bool) (turns : ℕ) (p q : PoolPass) (same : puts_in q ≡ puts_in p) (a b : Around) where
  pub never : MayBegin opens a b → HasBroken opens turns p q a b
  never h = ([], never_began opens turns a b h, same ∙ sym (append-nil (puts_in p)))

  module _ (begins : Begins opens a b) (r : PoolPass) (c : Around) where
    from_there : (ps : List Put) → puts_in r ≡ puts_in q ++ ps → puts_in r ≡ puts_in p ++ ps
    from_there ps e = e ∙ ap (λ (k : List Put). k ++ ps) same

    pub served : HasRun turns q r b c → HasServed opens turns p r a c
    served h = (h.1, all_served opens turns h.0 h.1 a b c begins h.2 h.3, from_there h.1 h.4)

    pub broken : HasBroken false turns q r b c → HasBroken opens turns p r a c
    broken h = (h.0, broke_later opens turns h.0 a b c begins h.1, from_there h.0 h.2)
