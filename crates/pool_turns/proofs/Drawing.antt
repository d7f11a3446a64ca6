-- What is drawn and given, one after another.
use Rattle.std.proofs.Common.{◌≡◌, ℕ, zero, suc, ◌+◌, List, [], ◌++◌, refl, sym, ap, ◌∙◌, arith}
use Rattle.rand_core.specs.Stream.{Stream, fill_bytes}
use Rattle.port_events.specs.declared.end.Out.{Out}
use Rattle.port_events.specs.Feeding.{Given, Goes}
use Rattle.port_events.proofs.Gives.{Gave-none, Gave-then}
use Rattle.held_ports.specs.Around.{Around, Gives}
use Rattle.pool_turns.specs.Turns.{blocks, Draws}

pub goes_then : (p q r : Given) (xs ys : List Out) → Goes p q xs → Goes q r ys → Goes p r (xs ++ ys)
goes_then p q r xs ys a b = Gave-then p.link q.link r.link p.ether q.ether r.ether p.up q.up r.up xs ys a b

pub goes_none : (p : Given) → Goes p p []
goes_none p = Gave-none p.link p.ether p.up

pub blocks_add : (n m : ℕ) (s : Stream) → blocks (n + m) s ≡ blocks m (blocks n s)
blocks_add zero m s =
    let e : 0 + m ≡ m = omega arith in
    ap (λ (k : ℕ). blocks k s) e
blocks_add (suc n) m s =
    let e : suc n + m ≡ suc (n + m) = omega arith in
    ap (λ (k : ℕ). blocks k s) e ∙ blocks_add n m (fill_bytes 16 s).1

pub draws_then : (n m : ℕ) (a b c : Around) → Draws n a b → Draws m b c → Draws (n + m) a c
draws_then n m a b c x y = record {
  outs = x.outs ++ y.outs;
  gave = goes_then a.given b.given c.given x.outs y.outs x.gave y.gave;
  rest =
      y.rest
      ∙ (ap (λ (k : Around). record k { stream = blocks m k.stream; given = c.given }) x.rest
      ∙ ap (λ (s : Stream). record a { stream = s; given = c.given }) (sym (blocks_add n m a.stream)));
}

pub draws_none : (a : Around) → Draws 0 a a
draws_none a = record { outs = []; gave = goes_none a.given; rest = refl }

-- what was given goes with it
pub gives_draws : (outs : List Out) (a b : Around) → Gives outs a b → Draws 0 a b
gives_draws outs a b h = record { outs = outs; gave = h.goes; rest = h.rest }
