-- A node's fall, with the records of calls that are kept.
use Rattle.std.proofs.Common.{◌≡◌, ◌≢◌, ◌⊎◌, inl, inr, ⊎_elim, ℕ, Bool, true, false, cond, eqb, List, None, refl, sym, ap, ◌∙◌, arith}
use Rattle.std.proofs.lemmas.Bool.Decides.{nat_tests}
use Rattle.epoch_machine.specs.Letters.{Hello, Reply}
use Rattle.epoch_machine.specs.Tunnels.{goes_down, keeps_up, keeps_down}
use Rattle.epoch_machine.specs.Calls.{CallState, NoCall, WaitsReply, WaitsConnect, lives, ends, loses, keeps_call, of_tunnel, is_call}
use Rattle.epoch_machine.specs.Worlds.{World}
use Rattle.epoch_machine.specs.Moves.{Kept, TunnelDown, CallUp, may_keep, keeps, falls, keeps_all}
use Rattle.epoch_machine.proofs.Tells.{same_test}
use Rattle.epoch_machine.proofs.Stops.{Amid, amid_first, CallTells, call_tells, all_kept}
use Rattle.epoch_laws.proofs.Growth.{TunnelsGrow}
use Rattle.birth_laws.specs.Births.{CallsHold, LettersMean}
use Rattle.birth_laws.proofs.Means.{CallsGrow, means_step}
use Rattle.birth_laws.proofs.Growths.{idle_grows}
use Rattle.birth_laws.proofs.Growing.{loses_grow}
use Rattle.birth_laws.proofs.Tunnels.{tunnels_ok}
use Rattle.birth_laws.proofs.Endings.{loses_ok}
use Rattle.birth_laws.proofs.Establishings.{keeps_call_ok}
use Rattle.birth_laws.proofs.Fallings.{ends_lost_ok, ends_lost_grow, keeps_call_grow}
use Rattle.birth_laws.proofs.Steps.{Goes, known, lives_here, live_drawn, name_of}

-- the calls of the node
abbrev pub of_node : World → ℕ → ℕ → Bool
of_node v n z = eqb (v.tunnels.node (v.calls.tunnel z)) n

-- between the records of a stop, seen as if the node fell now
pub record Fallen (before v : World) (n : ℕ) : Type 0 where
  pub hold : CallsHold before.tunnels (loses v.calls (of_node v n))
  pub grow : CallsGrow before.calls (loses v.calls (of_node v n))
  pub over : (z : ℕ) → v.calls.over z ≡ true → lives (v.calls.state z) ≡ false
  pub state : (z : ℕ) → lives (v.calls.state z) ≡ true → v.calls.state z ≡ before.calls.state z
  pub tunnel : (z : ℕ) → v.calls.tunnel z ≡ before.calls.tunnel z
  pub mate : (z : ℕ) → v.calls.mate z ≡ before.calls.mate z
  pub made : (z : ℕ) → v.calls.made z ≡ before.calls.made z
  pub remote : (z : ℕ) → before.calls.remote z ≢ 0 → v.calls.remote z ≡ before.calls.remote z
  pub asks : (x z : ℕ) → v.calls.asks x z ≡ before.calls.asks x z
  pub held : (x e z : ℕ) → v.calls.held x e z ≡ before.calls.held x e z
  pub entered : (x : ℕ) → v.tunnels.entered x ≡ before.tunnels.entered x
  pub channels : v.channels ≡ before.channels

not_living : (s : CallState) → s ≡ NoCall → lives s ≡ false
not_living s e = rw e refl

module _ (before : World) (n : ℕ) (ch : CallsHold before.tunnels before.calls) (lm : LettersMean before.tunnels before.channels before.calls) where
  first : Fallen before before n
  first = record {
    hold = loses_ok before.tunnels before.calls (of_node before n) ch;
    grow = loses_grow before.tunnels before.calls (of_node before n) ch;
    over = λ z h. not_living (before.calls.state z) (ch.over_gone z h).0;
    state = λ z h. refl;
    tunnel = λ z. refl;
    mate = λ z. refl;
    made = λ z. refl;
    remote = λ z h. refl;
    asks = λ x z. refl;
    held = λ x e z. refl;
    entered = λ x. refl;
    channels = refl;
  }

  up : (v : World) (x s : ℕ) → Fallen before v n → Fallen before (record v { tunnels = keeps_up v.tunnels x s }) n
  unfolding keeps_up
  up v x s f = record { hold = f.hold; grow = f.grow; over = f.over; state = f.state; tunnel = f.tunnel; mate = f.mate; made = f.made; remote = f.remote; asks = f.asks; held = f.held; entered = f.entered; channels = f.channels }

  ended : (v : World) (k1 : ℕ → Bool) → Fallen before v n → Fallen before (record v { calls = ends v.calls k1 }) n
  unfolding ends
  ended v k1 f = record {
    hold = ends_lost_ok before.tunnels v.calls (of_node v n) k1 f.hold;
    grow = ends_lost_grow before.calls v.calls (of_node v n) k1 f.grow;
    over = λ z h. let a = f.over z in grind (arith, nat_tests);
    state = λ z h. let a = f.state z in grind (arith, nat_tests);
    tunnel = f.tunnel;
    mate = f.mate;
    made = f.made;
    remote = f.remote;
    asks = f.asks;
    held = f.held;
    entered = f.entered;
    channels = f.channels;
  }

  down : (v : World) (x : ℕ) → Fallen before v n → Fallen before (keeps v (TunnelDown x)) n
  unfolding keeps keeps_down
  down v x f = let g = ended v (of_tunnel v.calls x) f in record { hold = g.hold; grow = g.grow; over = g.over; state = g.state; tunnel = g.tunnel; mate = g.mate; made = g.made; remote = g.remote; asks = g.asks; held = g.held; entered = g.entered; channels = g.channels }

  call : (v : World) (z own k : ℕ) → Fallen before v n → Amid before v → may_keep before n (CallUp z own k) ≡ true → lives (v.calls.state z) ≡ true → Fallen before (record v { calls = keeps_call v.calls z own }) n
  unfolding keeps_call
  call v z own k f a may alive = record {
    hold = keeps_call_ok before.tunnels v.calls (of_node v n) z own f.hold here alive not_over name made reason;
    grow = keeps_call_grow before.calls v.calls (of_node v n) z own f.grow was_not_over (remote_known known_by);
    over = f.over;
    state = f.state;
    tunnel = f.tunnel;
    mate = f.mate;
    made = f.made;
    remote = λ y h. remote_still y h;
    asks = f.asks;
    held = f.held;
    entered = f.entered;
    channels = f.channels;
  }
    where
      t : CallTells before n z own k
      t = call_tells before n z own k may

      here : of_node v n z ≡ true
      here = same_test _ n (ap v.tunnels.node (f.tunnel z) ∙ a.node (before.calls.tunnel z) ∙ t.node)

      was : v.calls.state z ≡ before.calls.state z
      was = f.state z alive

      lived : lives (before.calls.state z) ≡ true
      lived = rw (← was) alive

      drawn : before.calls.drawn z ≡ true
      drawn = live_drawn before.tunnels before.calls z ch (lives_here (before.calls.state z) (before.calls.state z) refl lived)

      name : z ≢ 0
      name = name_of before.tunnels before.calls z ch drawn

      by : (b : Bool) → v.calls.over z ≡ b → b ≡ false
      by true e = let g = f.over z e in cc
      by false e = refl

      not_over : v.calls.over z ≡ false
      not_over = by (v.calls.over z) refl

      was_not_over : before.calls.over z ≡ true → ⊥
      was_not_over h = let g = not_living (before.calls.state z) (ch.over_gone z h).0 in let l = lived in cc

      made_before : ((before.calls.state z ≡ WaitsReply) ⊎ (before.calls.state z ≡ WaitsConnect)) → before.calls.made z ≢ None
      made_before (inl s) = (ch.waits_reply z s).2
      made_before (inr s) = (ch.mate_made z (ch.waits_connect z s)).1

      made : v.calls.made z ≢ None
      made e = made_before (⊎_elim (λ d. inl d.0) (λ d. inr d.0) t.why) (sym (f.made z) ∙ e)

      reason : (((v.calls.mate own ≡ z) × (own ≢ 0) × (v.calls.mate z ≡ 0)) ⊎ ((v.calls.remote z ≡ own) × (v.calls.mate z ≢ 0)))
      reason = ⊎_elim
          (λ d. let m = lm.means _ _ k (Reply own z) d.1 in inl (f.mate own ∙ m.1, (λ e. m.0 (sym m.1 ∙ ap before.calls.mate e ∙ (ch.nameless 0 ch.zero).mate)), f.mate z ∙ (ch.waits_reply z d.0).1))
          (λ d. let m = ch.waits_connect z d.0 in inr (f.remote z (λ e. m (sym (ch.mate_remote z m) ∙ e)) ∙ d.1, (λ e. m (sym (f.mate z) ∙ e))))
          t.why

      remote_known : (before.calls.state z ≡ WaitsReply) ⊎ (before.calls.remote z ≡ own) → before.calls.remote z ≢ 0 → before.calls.remote z ≡ own
      remote_known (inl d) h = absurd (h (ch.waits_reply z d).0)
      remote_known (inr d) h = d

      known_by : (before.calls.state z ≡ WaitsReply) ⊎ (before.calls.remote z ≡ own)
      known_by = ⊎_elim (λ d. inl d.0) (λ d. inr d.1) t.why

      remote_still : (y : ℕ) → before.calls.remote y ≢ 0 → cond (eqb y z) own (v.calls.remote y) ≡ before.calls.remote y
      remote_still y h = let g = f.remote y h in let q = remote_known known_by in grind (arith, nat_tests)

  pub fallen : (ks : List Kept) → Fallen before (keeps_all before n ks before) n
  unfolding keeps
  fallen ks = all_kept (λ v. Fallen before v n) before n record { up = λ v x s f a u h. up v x s f; down = λ v x f a at. down v x f; call = λ v z own k f a h g. call v z own k f a h g; ended = λ v z f a h. ended v (is_call z) f } ks before first (amid_first before)

  goes_by : (v : World) → Fallen before v n → TunnelsGrow before.tunnels (goes_down v.tunnels n) → Goes before.calls (goes_down v.tunnels n) v.channels (loses v.calls (of_node v n))
  unfolding loses goes_down
  goes_by v f g = record {
    calls = tunnels_ok before.tunnels (goes_down v.tunnels n) (loses v.calls (of_node v n)) g f.hold;
    letters = rw f.channels (means_step before.tunnels (goes_down v.tunnels n) before.channels before.channels before.calls (loses v.calls (of_node v n)) 0 0 Hello g f.grow (known before.tunnels before.calls ch) (idle_grows before.channels 0 0 Hello) record {
      means = tt;
      request = λ y h. absurd cc;
      mates = λ y h. inl (λ e. h (f.mate y ∙ e));
      refusal = λ y h. absurd cc;
      unanswered = λ u e y a r h. r.unanswered a (sym (f.mate a) ∙ h);
      asks = λ x z h e. lm.asks_held x z (sym (f.asks x z) ∙ h) (ap (λ (q : ℕ). before.calls.held x q z) (sym (f.entered x)) ∙ sym (f.held x (v.tunnels.entered x) z) ∙ e);
    } lm);
    grow = f.grow;
  }

  pub stop_goes : (ks : List Kept) → TunnelsGrow before.tunnels (falls (keeps_all before n ks before) n).tunnels → Goes before.calls (falls (keeps_all before n ks before) n).tunnels (falls (keeps_all before n ks before) n).channels (falls (keeps_all before n ks before) n).calls
  unfolding falls
  stop_goes ks g = goes_by (keeps_all before n ks before) (fallen ks) g
