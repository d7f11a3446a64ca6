-- An open tunnel puts a letter, or takes one.
use Rattle.std.proofs.Common.{◌≡◌, inr, ⊎_elim, ℕ, true, refl, sym, ap, arith}
use Rattle.std.proofs.lemmas.Bool.Decides.{nat_tests}
use Rattle.epoch_machine.specs.Letters.{Letter}
use Rattle.epoch_machine.specs.Tunnels.{Tunnels, Open, is_established}
use Rattle.epoch_machine.specs.Channels.{Channels}
use Rattle.epoch_machine.proofs.Places.{Put, Gave, SameSent, Counted, SameTaken}
use Rattle.epoch_laws.specs.Epochs.{EpochsHold}
use Rattle.letter_laws.specs.Letters.{LettersHold}

drawn_by : (t : Tunnels) (x y : ℕ) → EpochsHold t → t.phase x ≡ Open → y ≡ x → t.drawn y ≡ true
drawn_by t x y ep p e = let n = ep.nameless x in grind (arith, nat_tests)

pub open_puts : (t : Tunnels) (c d : Channels) (x : ℕ) (l : Letter) → EpochsHold t → LettersHold t c → Gave c d x (t.entered x) l → SameTaken c d → (t.phase x ≡ Open) → LettersHold (t) d
open_puts t c d x l ep ok gs ts p0 =
    record {
      given_drawn = λ y f k m h. ⊎_elim (λ a. ok.given_drawn y f k m a) (λ (p : Put c x (t.entered x) l y f k m). drawn_by t x y ep p0 p.tunnel) (gs.before y f k m h);
      given_entered = λ y f k m h. ⊎_elim (λ a. ok.given_entered y f k m a) (λ (p : Put c x (t.entered x) l y f k m). let q = p.tunnel in let w = p.epoch in grind arith) (gs.before y f k m h);
      taken_drawn = λ y f h. let b = ok.taken_drawn y f in let s = ts.counts y f in grind (arith, nat_tests);
      taken_entered = λ y f h. let b = ok.taken_entered y f in let s = ts.counts y f in grind (arith, nat_tests);
      taken_learned = λ y f h. let b = ok.taken_learned y f in let s = ts.counts y f in grind (arith, nat_tests);
      waits_reply = λ y q. let b = ok.waits_reply y in let s = gs.longer y 0 in let r = ts.counts y 0 in grind (arith, nat_tests);
      waits_connect = λ y q. let b = ok.waits_connect y in let s = gs.longer y 0 in let r = ts.counts y 0 in grind (arith, nat_tests);
      open_taken = λ y q z. let b = ok.open_taken y in let r = ts.counts y 0 in grind (arith, nat_tests);
      open_given = λ y q z. let b = ok.open_given y in let s = gs.longer y 0 in grind (arith, nat_tests);
      opener_given = λ y q. let b = ok.opener_given y in let s = gs.longer y 0 in grind (arith, nat_tests);
      opener_first = λ y k m o h. ⊎_elim (λ a. ok.opener_first y k m o a) (λ (p : Put c x (t.entered x) l y 0 k m). let w = ok.open_given x p0 (sym p.epoch) in let q = p.place in let v = p.tunnel in inr (inr (grind (arith, nat_tests)))) (gs.before y 0 k m h);
      acceptor_first = λ y k m o h. ⊎_elim (λ a. ok.acceptor_first y k m o a) (λ (p : Put c x (t.entered x) l y 0 k m). let w = ok.open_given x p0 (sym p.epoch) in let q = p.place in inr (grind (arith, nat_tests))) (gs.before y 0 k m h);
      unchosen = λ y k m o n h. ⊎_elim (λ a. ok.unchosen y k m o n a) (λ (p : Put c x (t.entered x) l y 0 k m). absurd (let b = (ep.established_linked x (ap is_established p0)).back in n (rw p.tunnel b))) (gs.before y 0 k m h);
    }

pub open_takes : (t : Tunnels) (c d : Channels) (x : ℕ) → EpochsHold t → LettersHold t c → SameSent c d → Counted c d x (t.entered x) → (t.phase x ≡ Open) → LettersHold (t) d
open_takes t c d x ep ok gs ts p0 =
    record {
      given_drawn = λ y f k m h. let a = gs.before y f k m h in ok.given_drawn y f k m a;
      given_entered = λ y f k m h. let a = gs.before y f k m h in ok.given_entered y f k m a;
      taken_drawn = λ y f h. let b = ok.taken_drawn y f in let s = ts.counts y f in let n = drawn_by t x x ep p0 refl in grind (arith, nat_tests);
      taken_entered = λ y f h. let b = ok.taken_entered y f in let s = ts.counts y f in grind (arith, nat_tests);
      taken_learned = λ y f h. let b = ok.taken_learned y f in let s = ts.counts y f in let q = (ep.established_linked x (ap is_established p0)).to_name in grind (arith, nat_tests);
      waits_reply = λ y q. let b = ok.waits_reply y in let s = gs.lengths y 0 in let r = ts.counts y 0 in grind (arith, nat_tests);
      waits_connect = λ y q. let b = ok.waits_connect y in let s = gs.lengths y 0 in let r = ts.counts y 0 in grind (arith, nat_tests);
      open_taken = λ y q z. let b = ok.open_taken y in let r = ts.counts y 0 in grind (arith, nat_tests);
      open_given = λ y q z. let b = ok.open_given y in let s = gs.lengths y 0 in grind (arith, nat_tests);
      opener_given = λ y q. let b = ok.opener_given y in let s = gs.lengths y 0 in grind (arith, nat_tests);
      opener_first = λ y k m o h. let a = gs.before y 0 k m h in ok.opener_first y k m o a;
      acceptor_first = λ y k m o h. let a = gs.before y 0 k m h in ok.acceptor_first y k m o a;
      unchosen = λ y k m o n h. let a = gs.before y 0 k m h in ok.unchosen y k m o n a;
    }
