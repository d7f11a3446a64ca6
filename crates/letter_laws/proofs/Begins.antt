-- A new tunnel, and its first letter.
use Rattle.std.proofs.Common.{◌≡◌, ◌≢◌, inl, ⊎_elim, ℕ, true, false, List, [], ◌∷◌, length, slice_get, Some, refl, arith}
use Rattle.std.proofs.lemmas.Bool.Decides.{nat_tests}
use Rattle.epoch_machine.specs.Letters.{Letter, Sccrq, Sccrp}
use Rattle.epoch_machine.specs.Tunnels.{Tunnels, Gone, opened, accepted}
use Rattle.epoch_machine.specs.Channels.{Channels, Stands}
use Rattle.epoch_machine.proofs.Places.{Put, Gave, Counted, SameTaken}
use Rattle.epoch_machine.specs.Names.{assign}
use Rattle.epoch_laws.specs.Epochs.{EpochsHold}
use Rattle.letter_laws.specs.Letters.{LettersHold}

-- nothing stands in an empty list
none_given : (c : Channels) (x e : ℕ) → ((k : ℕ) (l : Letter) → Stands c x e k l → ⊥) → length (c.sent x e) ≡ 0
none_given c x e none = by (c.sent x e) (λ l h. none 0 l h)
  where
    by : (xs : List Letter) → ((l : Letter) → slice_get xs 0 ≡ Some l → ⊥) → length xs ≡ 0
    by [] h = refl
    by (l ∷ xs) h = absurd (h l refl)

pub not_entered : (t : Tunnels) (x : ℕ) → EpochsHold t → t.epochs x ≡ 0 → t.entered x ≡ 0
not_entered t x ep h = let a = ep.entered_made x in omega arith

-- what is known of a name that wasn't drawn
record Unused (t : Tunnels) (c : Channels) (x : ℕ) : Type 0 where
  entered : t.entered x ≡ 0
  given : length (c.sent x 0) ≡ 0
  taken : c.taken x 0 ≡ 0
  opener : t.opener x ≡ false

unused : (t : Tunnels) (c : Channels) (x : ℕ) → EpochsHold t → LettersHold t c → t.drawn x ≡ false → Unused t c x
unused t c x ep ok new = record {
  entered = not_entered t x ep (ep.nameless x new).epochs;
  given = none_given c x 0 (λ k l h. let d = ok.given_drawn x 0 k l h in absurd cc);
  taken = let d = ok.taken_drawn x 0 in grind (arith, nat_tests);
  opener = (ep.nameless x new).opener;
}

still_unchosen : (t : Tunnels) (s x y : ℕ) → EpochsHold t → t.drawn x ≡ false → t.drawn y ≡ true → assign t.learned x s (assign t.learned x s y) ≢ y → t.learned (t.learned y) ≢ y
still_unchosen t s x y ep new d n e = let a = ep.learned_drawn y in let z = ep.zero in let b = (ep.nameless x new).learned in grind (arith, nat_tests)

pub drawn_there : (t : Tunnels) (x : ℕ) → EpochsHold t → t.phase x ≢ Gone → t.drawn x ≡ true
drawn_there t x ep h = let n = ep.nameless x in grind arith

pub opens_ok : (t : Tunnels) (c d : Channels) (n m0 x : ℕ) → EpochsHold t → LettersHold t c → Gave c d x (t.entered x) Sccrq → SameTaken c d → (t.drawn x ≡ false) → LettersHold (opened t n m0 x) d
unfolding opened
opens_ok t c d n m0 x ep ok gs ts p0 =
    let u = unused t c x ep ok p0 in
    record {
      given_drawn = λ y f k m h. ⊎_elim (λ a. let b = ok.given_drawn y f k m a in grind (arith, nat_tests)) (λ (p : Put c x (t.entered x) Sccrq y f k m). let q = p.tunnel in grind (arith, nat_tests)) (gs.before y f k m h);
      given_entered = λ y f k m h. ⊎_elim (λ a. ok.given_entered y f k m a) (λ (p : Put c x (t.entered x) Sccrq y f k m). let q = p.tunnel in let w = p.epoch in grind arith) (gs.before y f k m h);
      taken_drawn = λ y f h. let b = ok.taken_drawn y f in let s = ts.counts y f in grind (arith, nat_tests);
      taken_entered = λ y f h. let b = ok.taken_entered y f in let s = ts.counts y f in grind (arith, nat_tests);
      taken_learned = λ y f h. let b = ok.taken_learned y f in let s = ts.counts y f in grind (arith, nat_tests);
      waits_reply = λ y q. let b = ok.waits_reply y in let s = gs.longer y 0 in let r = ts.counts y 0 in let s1 = gs.one_longer in let u0 = u.entered in let u1 = u.given in let u2 = u.taken in let u3 = u.opener in grind (arith, nat_tests);
      waits_connect = λ y q. let b = ok.waits_connect y in let s = gs.longer y 0 in let r = ts.counts y 0 in grind (arith, nat_tests);
      open_taken = λ y q z. let b = ok.open_taken y in let r = ts.counts y 0 in grind (arith, nat_tests);
      open_given = λ y q z. let b = ok.open_given y in let s = gs.longer y 0 in grind (arith, nat_tests);
      opener_given = λ y q. let b = ok.opener_given y in let s = gs.longer y 0 in let s1 = gs.one_longer in let u0 = u.entered in let u1 = u.given in let u2 = u.taken in let u3 = u.opener in grind (arith, nat_tests);
      opener_first = λ y k m o h. ⊎_elim (λ a. let d = ok.given_drawn y 0 k m a in ok.opener_first y k m (grind (arith, nat_tests)) a) (λ (p : Put c x (t.entered x) Sccrq y 0 k m). let q = p.place in let u0 = u.entered in let u1 = u.given in let u2 = u.taken in let u3 = u.opener in inl (grind (arith, nat_tests), p.letter)) (gs.before y 0 k m h);
      acceptor_first = λ y k m o h. ⊎_elim (λ a. let d = ok.given_drawn y 0 k m a in ok.acceptor_first y k m (grind (arith, nat_tests)) a) (λ (p : Put c x (t.entered x) Sccrq y 0 k m). absurd (let q = p.tunnel in grind (arith, nat_tests))) (gs.before y 0 k m h);
      unchosen = λ y k m o n h. ⊎_elim (λ a. let d = ok.given_drawn y 0 k m a in ok.unchosen y k m (grind (arith, nat_tests)) n a) (λ (p : Put c x (t.entered x) Sccrq y 0 k m). absurd (let q = p.tunnel in grind (arith, nat_tests))) (gs.before y 0 k m h);
    }

pub accepts_ok : (t : Tunnels) (c d : Channels) (s x : ℕ) → EpochsHold t → LettersHold t c → Gave c d x (t.entered x) Sccrp → Counted c d x (t.entered x) → (t.drawn x ≡ false) → (s ≢ 0) → LettersHold (accepted t s x) d
unfolding accepted
accepts_ok t c d s x ep ok gs ts p0 p1 =
    let u = unused t c x ep ok p0 in
    record {
      given_drawn = λ y f k m h. ⊎_elim (λ a. let b = ok.given_drawn y f k m a in grind (arith, nat_tests)) (λ (p : Put c x (t.entered x) Sccrp y f k m). let q = p.tunnel in grind (arith, nat_tests)) (gs.before y f k m h);
      given_entered = λ y f k m h. ⊎_elim (λ a. ok.given_entered y f k m a) (λ (p : Put c x (t.entered x) Sccrp y f k m). let q = p.tunnel in let w = p.epoch in grind arith) (gs.before y f k m h);
      taken_drawn = λ y f h. let b = ok.taken_drawn y f in let s = ts.counts y f in grind (arith, nat_tests);
      taken_entered = λ y f h. let b = ok.taken_entered y f in let s = ts.counts y f in grind (arith, nat_tests);
      taken_learned = λ y f h. let b = ok.taken_learned y f in let s = ts.counts y f in grind (arith, nat_tests);
      waits_reply = λ y q. let b = ok.waits_reply y in let s = gs.longer y 0 in let r = ts.counts y 0 in grind (arith, nat_tests);
      waits_connect = λ y q. let b = ok.waits_connect y in let s = gs.longer y 0 in let r = ts.counts y 0 in let s1 = gs.one_longer in let r1 = ts.one_more in let u0 = u.entered in let u1 = u.given in let u2 = u.taken in let u3 = u.opener in grind (arith, nat_tests);
      open_taken = λ y q z. let b = ok.open_taken y in let r = ts.counts y 0 in grind (arith, nat_tests);
      open_given = λ y q z. let b = ok.open_given y in let s = gs.longer y 0 in grind (arith, nat_tests);
      opener_given = λ y q. let b = ok.opener_given y in let s = gs.longer y 0 in grind (arith, nat_tests);
      opener_first = λ y k m o h. ⊎_elim (λ a. ok.opener_first y k m o a) (λ (p : Put c x (t.entered x) Sccrp y 0 k m). absurd (let q = p.tunnel in let u0 = u.entered in let u1 = u.given in let u2 = u.taken in let u3 = u.opener in grind (arith, nat_tests))) (gs.before y 0 k m h);
      acceptor_first = λ y k m o h. ⊎_elim (λ a. ok.acceptor_first y k m o a) (λ (p : Put c x (t.entered x) Sccrp y 0 k m). let q = p.place in let u0 = u.entered in let u1 = u.given in let u2 = u.taken in let u3 = u.opener in inl (grind (arith, nat_tests), p.letter)) (gs.before y 0 k m h);
      unchosen = λ y k m o n h. ⊎_elim (λ a. let d = ok.given_drawn y 0 k m a in ok.unchosen y k m o (still_unchosen t s x y ep p0 d n) a) (λ (p : Put c x (t.entered x) Sccrp y 0 k m). let q = p.place in let u0 = u.entered in let u1 = u.given in let u2 = u.taken in let u3 = u.opener in inl (grind (arith, nat_tests))) (gs.before y 0 k m h);
    }
