-- What a step that is no outage leaves of names, phases and calls.
use Rattle.std.proofs.Common.{◌≡◌, ◌≢◌, ◌⊎◌, inl, inr, ⊎_elim, ℕ, Bool, true, false, refl, ◌∙◌, arith}
use Rattle.std.proofs.lemmas.Bool.Decides.{nat_tests}
use Rattle.epoch_machine.specs.Tunnels.{Tunnels, Gone, WaitReply, WaitConnect, Closed, opened, accepted, established_with, established, left, frozen, confirms, is_confirmed}
use Rattle.epoch_machine.specs.Calls.{Calls, Waits, WaitsReply, WaitsConnect, lives, ends, is_born, is_asked_for, replies, is_first_up, is_second_up, resets, is_told}
use Rattle.epoch_machine.specs.Worlds.{World}

-- of tunnels that were drawn
pub record TunnelsStay (t u : Tunnels) : Type 0 where
  pub drawn : (x : ℕ) → t.drawn x ≡ true → u.drawn x ≡ true
  pub node : (x : ℕ) → t.drawn x ≡ true → u.node x ≡ t.node x
  pub up : (n : ℕ) → u.up n ≡ t.up n
  pub opener : (x : ℕ) → t.drawn x ≡ true → u.opener x ≡ t.opener x
  -- none begins to wait, or to live, and only who waits for a reply learns its other end
  pub waits_reply : (x : ℕ) → t.drawn x ≡ true → u.phase x ≡ WaitReply → t.phase x ≡ WaitReply
  pub waits_connect : (x : ℕ) → t.drawn x ≡ true → u.phase x ≡ WaitConnect → t.phase x ≡ WaitConnect
  pub live : (x : ℕ) → t.drawn x ≡ true → u.phase x ≢ Gone → t.phase x ≢ Gone
  pub learned : (x : ℕ) → t.drawn x ≡ true → (u.learned x ≡ t.learned x) ⊎ (t.phase x ≡ WaitReply)

-- of calls that were drawn: none begins to live or to wait, but by its own request
pub record CallsStay (c d : Calls) : Type 0 where
  pub drawn : (z : ℕ) → c.drawn z ≡ true → d.drawn z ≡ true
  pub tunnel : (z : ℕ) → c.drawn z ≡ true → d.tunnel z ≡ c.tunnel z
  pub lives : (z : ℕ) → c.drawn z ≡ true → lives (d.state z) ≡ true → lives (c.state z) ≡ true
  pub waits : (z : ℕ) → c.drawn z ≡ true → d.state z ≡ Waits → c.state z ≡ Waits
  pub asked : (z : ℕ) → c.drawn z ≡ true → d.state z ≡ WaitsReply → ((c.state z ≡ WaitsReply) × (d.made z ≡ c.made z)) ⊎ (c.state z ≡ Waits)
  pub replied : (z : ℕ) → c.drawn z ≡ true → d.state z ≡ WaitsConnect → (c.state z ≡ WaitsConnect) × (d.made z ≡ c.made z) × (d.remote z ≡ c.remote z)

pub record Stays (w v : World) : Type 0 where
  pub tunnels : TunnelsStay w.tunnels v.tunnels
  pub calls : CallsStay w.calls v.calls

pub same_tunnels : (t : Tunnels) → TunnelsStay t t
same_tunnels t = record { drawn = λ x h. h; node = λ x h. refl; up = λ n. refl; opener = λ x h. refl; waits_reply = λ x h p. p; waits_connect = λ x h p. p; live = λ x h p. p; learned = λ x h. inl refl }

pub same_calls : (c : Calls) → CallsStay c c
same_calls c = record { drawn = λ z h. h; tunnel = λ z h. refl; lives = λ z h l. l; waits = λ z h s. s; asked = λ z h s. inl (s, refl); replied = λ z h s. (s, refl, refl) }

tunnels_on : (s t u : Tunnels) → TunnelsStay s t → TunnelsStay t u → TunnelsStay s u
tunnels_on s t u a b = record {
  drawn = λ x h. b.drawn x (a.drawn x h);
  node = λ x h. b.node x (a.drawn x h) ∙ a.node x h;
  up = λ n. b.up n ∙ a.up n;
  opener = λ x h. b.opener x (a.drawn x h) ∙ a.opener x h;
  waits_reply = λ x h p. a.waits_reply x h (b.waits_reply x (a.drawn x h) p);
  waits_connect = λ x h p. a.waits_connect x h (b.waits_connect x (a.drawn x h) p);
  live = λ x h p. a.live x h (b.live x (a.drawn x h) p);
  learned = λ x h. ⊎_elim (λ i. ⊎_elim (λ j. inl (i ∙ j)) (λ j. inr j) (a.learned x h)) (λ i. inr (a.waits_reply x h i)) (b.learned x (a.drawn x h));
}

pub calls_on : (b c d : Calls) → CallsStay b c → CallsStay c d → CallsStay b d
calls_on b c d p q = record {
  drawn = λ z h. q.drawn z (p.drawn z h);
  tunnel = λ z h. q.tunnel z (p.drawn z h) ∙ p.tunnel z h;
  lives = λ z h l. p.lives z h (q.lives z (p.drawn z h) l);
  waits = λ z h s. p.waits z h (q.waits z (p.drawn z h) s);
  asked = λ z h s. ⊎_elim (λ i. ⊎_elim (λ j. inl (j.0, i.1 ∙ j.1)) (λ j. inr j) (p.asked z h i.0)) (λ i. inr (p.waits z h i)) (q.asked z (p.drawn z h) s);
  replied = λ z h s. (let i = q.replied z (p.drawn z h) s in let j = p.replied z h i.0 in (j.0, i.1 ∙ j.1, i.2 ∙ j.2));
}

pub stays_on : (w v u : World) → Stays w v → Stays v u → Stays w u
stays_on w v u a b = record { tunnels = tunnels_on w.tunnels v.tunnels u.tunnels a.tunnels b.tunnels; calls = calls_on w.calls v.calls u.calls a.calls b.calls }

module _ (t : Tunnels) where
  pub opened_stays : (n m x : ℕ) → t.drawn x ≡ false → TunnelsStay t (opened t n m x)
  unfolding opened
  opened_stays n m x new = record { drawn = grind (arith, nat_tests); node = grind (arith, nat_tests); up = λ k. refl; opener = grind (arith, nat_tests); waits_reply = grind (arith, nat_tests); waits_connect = grind (arith, nat_tests); live = grind (arith, nat_tests); learned = λ y h. inl refl }

  pub accepted_stays : (s x : ℕ) → t.drawn x ≡ false → TunnelsStay t (accepted t s x)
  unfolding accepted
  accepted_stays s x new = record { drawn = grind (arith, nat_tests); node = grind (arith, nat_tests); up = λ k. refl; opener = λ y h. refl; waits_reply = grind (arith, nat_tests); waits_connect = grind (arith, nat_tests); live = grind (arith, nat_tests); learned = λ y h. inl (grind (arith, nat_tests)) }

  pub connected_stays : (x s : ℕ) → t.phase x ≡ WaitReply → TunnelsStay t (established_with t x s)
  unfolding established_with
  connected_stays x s p = record { drawn = λ y h. h; node = λ y h. refl; up = λ k. refl; opener = λ y h. refl; waits_reply = grind (arith, nat_tests); waits_connect = grind (arith, nat_tests); live = grind (arith, nat_tests); learned = grind (arith, nat_tests) }

  pub confirmed_stays : (x : ℕ) → t.phase x ≡ WaitConnect → TunnelsStay t (established t x)
  unfolding established
  confirmed_stays x p = record { drawn = λ y h. h; node = λ y h. refl; up = λ k. refl; opener = λ y h. refl; waits_reply = grind (arith, nat_tests); waits_connect = grind (arith, nat_tests); live = grind (arith, nat_tests); learned = λ y h. inl refl }

  pub closed_stays : (x : ℕ) → t.phase x ≢ Gone → TunnelsStay t (left t x Closed)
  unfolding left
  closed_stays x p = record { drawn = λ y h. h; node = λ y h. refl; up = λ k. refl; opener = λ y h. refl; waits_reply = grind (arith, nat_tests); waits_connect = grind (arith, nat_tests); live = grind (arith, nat_tests); learned = λ y h. inl refl }

  pub cleared_stays : (x : ℕ) → TunnelsStay t (left t x Gone)
  unfolding left
  cleared_stays x = record { drawn = λ y h. h; node = λ y h. refl; up = λ k. refl; opener = λ y h. refl; waits_reply = grind (arith, nat_tests); waits_connect = grind (arith, nat_tests); live = grind (arith, nat_tests); learned = λ y h. inl refl }

  pub frozen_stays : (x a c own theirs : ℕ) → t.phase x ≢ Gone → TunnelsStay t (frozen t x a c own theirs)
  unfolding frozen
  frozen_stays x a c own theirs p = record { drawn = grind (arith, nat_tests); node = λ y h. refl; up = λ k. refl; opener = λ y h. refl; waits_reply = grind (arith, nat_tests); waits_connect = grind (arith, nat_tests); live = grind (arith, nat_tests); learned = λ y h. inl refl }

  pub confirms_stays : (x c : ℕ) → t.phase x ≢ Gone → TunnelsStay t (confirms t x c)
  unfolding confirms
  confirms_stays x c p = record { drawn = λ y h. h; node = λ y h. refl; up = λ k. refl; opener = λ y h. refl; waits_reply = grind (arith, nat_tests); waits_connect = grind (arith, nat_tests); live = grind (arith, nat_tests); learned = λ y h. inl refl }

  pub is_confirmed_stays : (x c : ℕ) → t.phase x ≢ Gone → TunnelsStay t (is_confirmed t x c)
  unfolding is_confirmed
  is_confirmed_stays x c p = record { drawn = λ y h. h; node = λ y h. refl; up = λ k. refl; opener = λ y h. refl; waits_reply = grind (arith, nat_tests); waits_connect = grind (arith, nat_tests); live = grind (arith, nat_tests); learned = λ y h. inl refl }

module _ (c : Calls) where
  pub ends_stays : (kind : ℕ → Bool) → CallsStay c (ends c kind)
  unfolding ends
  ends_stays kind = record { drawn = λ z h. h; tunnel = λ z h. refl; lives = grind (arith, nat_tests); waits = grind (arith, nat_tests); asked = λ z h s. inl (grind (arith, nat_tests), refl); replied = λ z h s. (grind (arith, nat_tests), refl, refl) }

  pub born_stays : (x z : ℕ) → c.drawn z ≡ false → CallsStay c (is_born c x z)
  unfolding is_born
  born_stays x z new = record { drawn = grind (arith, nat_tests); tunnel = grind (arith, nat_tests); lives = grind (arith, nat_tests); waits = grind (arith, nat_tests); asked = λ y h s. inl (grind (arith, nat_tests), refl); replied = λ y h s. (grind (arith, nat_tests), refl, refl) }

  pub asked_stays : (z e : ℕ) → c.state z ≡ Waits → CallsStay c (is_asked_for c z e)
  unfolding is_asked_for
  asked_stays z e p = record { drawn = λ y h. h; tunnel = λ y h. refl; lives = grind (arith, nat_tests); waits = grind (arith, nat_tests); asked = grind (arith, nat_tests); replied = λ y h s. (grind (arith, nat_tests), grind (arith, nat_tests), refl) }

  pub replies_stays : (x e z own : ℕ) → c.drawn z ≡ false → CallsStay c (replies c x e z own)
  unfolding replies
  replies_stays x e z own new = record { drawn = grind (arith, nat_tests); tunnel = grind (arith, nat_tests); lives = grind (arith, nat_tests); waits = grind (arith, nat_tests); asked = λ y h s. inl (grind (arith, nat_tests), grind (arith, nat_tests)); replied = λ y h s. (grind (arith, nat_tests), grind (arith, nat_tests), grind (arith, nat_tests)) }

  pub first_stays : (z own : ℕ) → c.state z ≡ WaitsReply → CallsStay c (is_first_up c z own)
  unfolding is_first_up
  first_stays z own p = record { drawn = λ y h. h; tunnel = λ y h. refl; lives = grind (arith, nat_tests); waits = grind (arith, nat_tests); asked = λ y h s. inl (grind (arith, nat_tests), refl); replied = λ y h s. (grind (arith, nat_tests), refl, grind (arith, nat_tests)) }

  pub second_stays : (z : ℕ) → c.state z ≡ WaitsConnect → CallsStay c (is_second_up c z)
  unfolding is_second_up
  second_stays z p = record { drawn = λ y h. h; tunnel = λ y h. refl; lives = grind (arith, nat_tests); waits = grind (arith, nat_tests); asked = λ y h s. inl (grind (arith, nat_tests), refl); replied = λ y h s. (grind (arith, nat_tests), refl, refl) }

  pub resets_stays : (asked : Bool) (x e : ℕ) → CallsStay c (resets asked c x e)
  unfolding resets
  resets_stays asked x e = record { drawn = λ z h. h; tunnel = λ z h. refl; lives = λ z h l. l; waits = λ z h s. s; asked = λ z h s. inl (s, refl); replied = λ z h s. (s, refl, refl) }

  pub told_stays : (x z : ℕ) → CallsStay c (is_told c x z)
  unfolding is_told
  told_stays x z = record { drawn = λ y h. h; tunnel = λ y h. refl; lives = λ y h l. l; waits = λ y h s. s; asked = λ y h s. inl (s, refl); replied = λ y h s. (s, refl, refl) }
