-- An opener connects, and an acceptor is connected.
use Rattle.std.proofs.Common.{◌≡◌, ◌≢◌, inl, inr, ⊎_elim, ℕ, true, false, sym, ◌∙◌, arith}
use Rattle.std.proofs.lemmas.Bool.Decides.{nat_tests}
use Rattle.epoch_machine.specs.Letters.{Scccn}
use Rattle.epoch_machine.specs.Tunnels.{Tunnels, Gone, WaitReply, WaitConnect, established_with, established}
use Rattle.epoch_machine.specs.Channels.{Channels}
use Rattle.epoch_machine.proofs.Places.{Put, Gave, SameSent, Counted}
use Rattle.epoch_machine.specs.Names.{assign}
use Rattle.epoch_laws.specs.Epochs.{EpochsHold}
use Rattle.letter_laws.proofs.Begins.{not_entered, drawn_there}
use Rattle.letter_laws.specs.Letters.{LettersHold}

opener_there : (t : Tunnels) (x : ℕ) → EpochsHold t → t.phase x ≡ WaitReply → (t.entered x ≡ 0) × (t.drawn x ≡ true) × (t.opener x ≡ true) × (t.learned x ≡ 0)
opener_there t x ep p = let w = ep.waits_reply x p in (not_entered t x ep (let e = ep.epochs_linked x in grind (arith, e)), drawn_there t x ep (λ g. let k : WaitReply ≡ Gone = sym p ∙ g in cc), w.0, w.1)

acceptor_there : (t : Tunnels) (x : ℕ) → EpochsHold t → t.phase x ≡ WaitConnect → (t.entered x ≡ 0) × (t.drawn x ≡ true) × (t.opener x ≡ false)
acceptor_there t x ep p = let w = ep.waits_connect x p in (not_entered t x ep w.1, drawn_there t x ep (λ g. let k : WaitConnect ≡ Gone = sym p ∙ g in cc), w.0)

unchosen_before : (t : Tunnels) (s x y : ℕ) → t.learned x ≡ 0 → t.opener x ≡ true → t.opener y ≡ false → y ≢ 0 → assign t.learned x s (assign t.learned x s y) ≢ y → t.learned (t.learned y) ≢ y
unchosen_before t s x y u o p n h e = grind (arith, nat_tests)

a_name : (t : Tunnels) (y : ℕ) → EpochsHold t → t.drawn y ≡ true → y ≢ 0
a_name t y ep d e = let z = ep.zero in let k : t.drawn 0 ≡ true = rw (← e) d in cc

pub connects_ok : (t : Tunnels) (c d : Channels) (x s : ℕ) → EpochsHold t → LettersHold t c → Gave c d x (t.entered x) Scccn → Counted c d x (t.entered x) → (t.phase x ≡ WaitReply) → (s ≢ 0) → LettersHold (established_with t x s) d
unfolding established_with
connects_ok t c d x s ep ok gs ts p0 p1 =
    let w = opener_there t x ep p0 in
    record {
      given_drawn = λ y f k m h. ⊎_elim (λ a. ok.given_drawn y f k m a) (λ (p : Put c x (t.entered x) Scccn y f k m). let q = p.tunnel in let w0 = w.0 in let w1 = w.1 in let w2 = w.2 in grind (arith, nat_tests)) (gs.before y f k m h);
      given_entered = λ y f k m h. ⊎_elim (λ a. ok.given_entered y f k m a) (λ (p : Put c x (t.entered x) Scccn y f k m). let q = p.tunnel in let w = p.epoch in grind arith) (gs.before y f k m h);
      taken_drawn = λ y f h. let b = ok.taken_drawn y f in let s = ts.counts y f in let w0 = w.0 in let w1 = w.1 in let w2 = w.2 in grind (arith, nat_tests);
      taken_entered = λ y f h. let b = ok.taken_entered y f in let s = ts.counts y f in grind (arith, nat_tests);
      taken_learned = λ y f h. let b = ok.taken_learned y f in let s = ts.counts y f in grind (arith, nat_tests);
      waits_reply = λ y q. let b = ok.waits_reply y in let s = gs.longer y 0 in let r = ts.counts y 0 in grind (arith, nat_tests);
      waits_connect = λ y q. let b = ok.waits_connect y in let s = gs.longer y 0 in let r = ts.counts y 0 in grind (arith, nat_tests);
      open_taken = λ y q z. let b = ok.open_taken y in let r = ts.counts y 0 in let r1 = ts.one_more in let w0 = w.0 in let w1 = w.1 in let w2 = w.2 in grind (arith, nat_tests);
      open_given = λ y q z. let b = ok.open_given y in let s = gs.longer y 0 in let s1 = gs.one_longer in let b0 = ok.waits_reply x p0 in let w0 = w.0 in let w1 = w.1 in let w2 = w.2 in grind (arith, nat_tests);
      opener_given = λ y q. let b = ok.opener_given y in let s = gs.longer y 0 in grind (arith, nat_tests);
      opener_first = λ y k m o h. ⊎_elim (λ a. ok.opener_first y k m o a) (λ (p : Put c x (t.entered x) Scccn y 0 k m). let q = p.place in let b = ok.waits_reply x p0 in let w0 = w.0 in let w1 = w.1 in let w2 = w.2 in inr (inl (grind (arith, nat_tests), inl p.letter))) (gs.before y 0 k m h);
      acceptor_first = λ y k m o h. ⊎_elim (λ a. ok.acceptor_first y k m o a) (λ (p : Put c x (t.entered x) Scccn y 0 k m). absurd (let q = p.tunnel in let w0 = w.0 in let w1 = w.1 in let w2 = w.2 in grind (arith, nat_tests))) (gs.before y 0 k m h);
      unchosen = λ y k m o n h. ⊎_elim (λ a. let d = ok.given_drawn y 0 k m a in ok.unchosen y k m o (unchosen_before t s x y w.3 w.2 o (a_name t y ep d) n) a) (λ (p : Put c x (t.entered x) Scccn y 0 k m). absurd (let q = p.tunnel in let w0 = w.0 in let w1 = w.1 in let w2 = w.2 in grind (arith, nat_tests))) (gs.before y 0 k m h);
    }

pub confirms_ok : (t : Tunnels) (c d : Channels) (x : ℕ) → EpochsHold t → LettersHold t c → SameSent c d → Counted c d x (t.entered x) → (t.phase x ≡ WaitConnect) → LettersHold (established t x) d
unfolding established
confirms_ok t c d x ep ok gs ts p0 =
    let w = acceptor_there t x ep p0 in
    record {
      given_drawn = λ y f k m h. let a = gs.before y f k m h in ok.given_drawn y f k m a;
      given_entered = λ y f k m h. let a = gs.before y f k m h in ok.given_entered y f k m a;
      taken_drawn = λ y f h. let b = ok.taken_drawn y f in let s = ts.counts y f in let w0 = w.0 in let w1 = w.1 in let w2 = w.2 in grind (arith, nat_tests);
      taken_entered = λ y f h. let b = ok.taken_entered y f in let s = ts.counts y f in grind (arith, nat_tests);
      taken_learned = λ y f h. let b = ok.taken_learned y f in let s = ts.counts y f in let q = (ep.waits_connect x p0).2 in grind (arith, nat_tests);
      waits_reply = λ y q. let b = ok.waits_reply y in let s = gs.lengths y 0 in let r = ts.counts y 0 in grind (arith, nat_tests);
      waits_connect = λ y q. let b = ok.waits_connect y in let s = gs.lengths y 0 in let r = ts.counts y 0 in grind (arith, nat_tests);
      open_taken = λ y q z. let b = ok.open_taken y in let r = ts.counts y 0 in let r1 = ts.one_more in let w0 = w.0 in let w1 = w.1 in let w2 = w.2 in grind (arith, nat_tests);
      open_given = λ y q z. let b = ok.open_given y in let s = gs.lengths y 0 in let b0 = ok.waits_connect x p0 in let w0 = w.0 in let w1 = w.1 in let w2 = w.2 in grind (arith, nat_tests);
      opener_given = λ y q. let b = ok.opener_given y in let s = gs.lengths y 0 in grind (arith, nat_tests);
      opener_first = λ y k m o h. let a = gs.before y 0 k m h in ok.opener_first y k m o a;
      acceptor_first = λ y k m o h. let a = gs.before y 0 k m h in ok.acceptor_first y k m o a;
      unchosen = λ y k m o n h. let a = gs.before y 0 k m h in ok.unchosen y k m o n a;
    }
