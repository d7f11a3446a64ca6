-- What follows of turns that were made.
use Rattle.std.proofs.Common.{◌≡◌, ℕ, ◌+◌, ◌≤◌, inl, Bool, true, false, List, [], ◌∷◌, ◌++◌, length, refl, sym, ap, subst, ◌∙◌, arith, length-append, append_assoc}
use Rattle.std.specs.Prelude.{Option, Some, None}
use Rattle.std.proofs.lemmas.List.{append-nil}
use Rattle.port_events.specs.declared.end.Event.{Event}
use Rattle.port_events.specs.declared.end.Event.TheVariants.{Datagram, Frame, Lower, Open, Tick}
use Rattle.port_events.specs.Taking.{datagram_event, frame_event, lower_event}
use Rattle.port_turn.specs.Turns.{Turn, Waits}
use Rattle.held_ports.specs.Around.{Around}
use Rattle.pool_turns.specs.Turns.{Put, put_of, Draws, MakesTurn, Runs, Begins, MayBegin, Serves, Took, StopsIn, BreaksOff}
use Rattle.pool_turns.specs.Laws.{took_one, datagrams}
use Rattle.pool_turns.proofs.Drawing.{goes_then, draws_then}

one_put : (now : ℕ) (block : List ℕ) (e : Option Event) → length (put_of now block e) ≡ took_one e
one_put now block None = refl
one_put now block (Some (Datagram peer bytes)) = refl
one_put now block (Some (Frame bytes)) = refl
one_put now block (Some (Lower session frame)) = refl
one_put now block (Some Open) = refl
one_put now block (Some Tick) = refl

pub puts_all : (ts : List Turn) (ps : List Put) (old new : Around) → Runs ts ps old new → length ps ≡ datagrams ts
puts_all [] ps old new h = ap length h.0
puts_all (t ∷ ts) ps old new h =
    let first : length h.0 ≡ took_one t.datagram = ap length h.3.puts ∙ one_put t.now _ t.datagram in
    let later : length h.1 ≡ datagrams ts = puts_all ts h.1 h.2 new h.5 in
    let all : length ps ≡ length h.0 + length h.1 = ap length h.4 ∙ length-append h.0 h.1 in
    all ∙ (ap (λ n. n + length h.1) first ∙ ap (λ n. took_one t.datagram + n) later)

pub gives_more : (opens : Bool) (turns : ℕ) (ps : List Put) (old mid new : Around) → Serves opens turns ps old mid → Draws 0 mid new → Serves opens turns ps old new
gives_more opens turns ps old mid new h d = record {
  start = h.start;
  begins = h.begins;
  ts = h.ts;
  all = h.all;
  last = h.last;
  runs = h.runs;
  after = draws_then 0 0 h.last mid new h.after d;
}

may_begin : (opens : Bool) (old new : Around) → Begins opens old new → MayBegin opens old new
may_begin true old new h = (h.waits, h.asks, (h.outs, h.gave))
may_begin false old new h = h

nothing_more : (old new : Around) → Draws 0 old new → StopsIn [] old new
nothing_more old new d =
    let same : new.waits ≡ old.waits = ap (λ (a : Around). a.waits) d.rest in
    record {
      t = record { now = 0; datagram = None; frame = None; lower = None };
      breaks = record {
        link = inl (ap (λ (w : Waits). w.link) same);
        ether = inl (ap (λ (w : Waits). w.ether) same);
        up = inl (ap (λ (w : Waits). w.up) same);
        outs = d.outs;
        gave = d.gave;
      };
      block = [];
      puts = inl refl;
    }

at_most : (n m : ℕ) → n ≡ m → n ≤ m
at_most n m e = omega (arith, e)

pub is_one_of : (opens : Bool) (turns : ℕ) (ps : List Put) (old mid new : Around) → Serves opens turns ps old mid → Draws 0 mid new → BreaksOff opens turns ps old new
is_one_of opens turns ps old mid new h d = record {
  start = h.start;
  begins = may_begin opens old h.start h.begins;
  ts = h.ts;
  few = at_most (length h.ts) turns h.all;
  whole = ps;
  mid = h.last;
  runs = h.runs;
  last = [];
  stops = nothing_more h.last new (draws_then 0 0 h.last mid new h.after d);
  puts = sym (append-nil ps);
}

pub stops_then : (ps : List Put) (old mid new : Around) → StopsIn ps old mid → Draws 0 mid new → StopsIn ps old new
stops_then ps old mid new h d =
    let same : mid.waits ≡ new.waits = sym (ap (λ (a : Around). a.waits) d.rest) in
    record {
      t = h.t;
      breaks = record {
        link = subst (λ (w : Waits). Took datagram_event old.waits.link w.link h.t.datagram) same h.breaks.link;
        ether = subst (λ (w : Waits). Took frame_event old.waits.ether w.ether h.t.frame) same h.breaks.ether;
        up = subst (λ (w : Waits). Took lower_event old.waits.up w.up h.t.lower) same h.breaks.up;
        outs = h.breaks.outs ++ d.outs;
        gave = goes_then old.given mid.given new.given h.breaks.outs d.outs h.breaks.gave d.gave;
      };
      block = h.block;
      puts = h.puts;
    }

pub breaks_then : (opens : Bool) (turns : ℕ) (ps : List Put) (old mid new : Around) → BreaksOff opens turns ps old mid → Draws 0 mid new → BreaksOff opens turns ps old new
breaks_then opens turns ps old mid new h d = record {
  start = h.start;
  begins = h.begins;
  ts = h.ts;
  few = h.few;
  whole = h.whole;
  mid = h.mid;
  runs = h.runs;
  last = h.last;
  stops = stops_then h.last h.mid mid new h.stops d;
  puts = h.puts;
}

-- one turn more
pub one_turn_more : (ts : List Turn) (t : Turn) (ps qs : List Put) (old mid new : Around) → Runs ts ps old mid → MakesTurn t qs mid new → Runs (ts ++ t ∷ []) (ps ++ qs) old new
one_turn_more [] t ps qs old mid new h m =
    let same : ps ++ qs ≡ qs ++ [] = ap (λ (k : List Put). k ++ qs) h.0 ∙ sym (append-nil qs) in
    (qs, [], new, subst (λ (k : Around). MakesTurn t qs k new) h.1 m, same, (refl, refl))
one_turn_more (u ∷ ts) t ps qs old mid new h m =
    (h.0, h.1 ++ qs, h.2, h.3, ap (λ (k : List Put). k ++ qs) h.4 ∙ append_assoc h.0 h.1 qs, one_turn_more ts t h.1 qs h.2 mid new h.5 m)

pub so_many : (ts : List Turn) (t : Turn) (n : ℕ) → length ts ≡ n → length (ts ++ t ∷ []) ≡ n + 1
so_many ts t n e = let l = length-append ts (t ∷ []) in omega arith

-- whole turns, and one that ended early
pub turns_broke : (turns : ℕ) (ts : List Turn) (ps qs : List Put) (old mid new : Around) → length ts ≤ turns → Runs ts ps old mid → StopsIn qs mid new → BreaksOff false turns (ps ++ qs) old new
turns_broke turns ts ps qs old mid new few h s = record {
  start = old;
  begins = refl;
  ts = ts;
  few = few;
  whole = ps;
  mid = mid;
  runs = h;
  last = qs;
  stops = s;
  puts = refl;
}
