-- Each move keeps what holds of the calls and of the letters about them.
use Rattle.std.proofs.Common.{◌≡◌, ◌≢◌, inl, ℕ, ◌<◌, Bool, true, false, cond, eqb, ◌&&◌, Some, refl, sym, ap, ◌∙◌, subst, arith}
use Rattle.std.proofs.lemmas.Bool.Decides.{nat_tests}
use Rattle.epoch_machine.specs.Names.{assign}
use Rattle.epoch_machine.specs.Letters.{Letter, Hello, Request, Reply, Connect, Cdn, Fsq, Fsr}
use Rattle.epoch_machine.specs.Tunnels.{Tunnels, Open}
use Rattle.epoch_machine.specs.Channels.{Channels, Stands, puts, counts}
use Rattle.epoch_machine.specs.Calls.{Calls, CallState, NoCall, WaitsReply, WaitsConnect, lives, is_up, ends, replies, is_first_up, is_second_up, resets, is_told, is_call}
use Rattle.epoch_machine.specs.Worlds.{World, Rules, gives, took_one, answers_query, takes_answer}
use Rattle.epoch_machine.proofs.Splits.{chosen, at_name, assigned_now, assigned_else}
use Rattle.epoch_machine.proofs.Tells.{both, up_state}
use Rattle.epoch_machine.proofs.Did.{Takes}
use Rattle.epoch_laws.specs.Epochs.{EpochsHold}
use Rattle.epoch_laws.proofs.Growth.{TunnelsGrow}
use Rattle.letter_laws.specs.Letters.{LettersHold}
use Rattle.birth_laws.specs.Births.{CallsHold, Meant, TakenRequest, Refused, LettersMean}
use Rattle.birth_laws.proofs.Means.{CallsGrow, Known, LettersGrow, Shows, means_step, trans_grow}
use Rattle.birth_laws.proofs.Growths.{answered_taken, idle_grows, took_grows, answered_grows}
use Rattle.birth_laws.proofs.Growing.{same_calls, ends_grow, replies_grow, is_first_up_grow, is_second_up_grow, resets_grow, is_told_grow}
use Rattle.birth_laws.proofs.Tunnels.{tunnels_ok}
use Rattle.birth_laws.proofs.Endings.{ends_ok}
use Rattle.birth_laws.proofs.Makings.{replies_ok}
use Rattle.birth_laws.proofs.Establishings.{is_first_up_ok, is_second_up_ok, resets_ok, is_told_ok}
use Rattle.birth_laws.proofs.Replying.{reply_meant, reply_free, reply_asks, reply_asked, reply_mates}
use Rattle.birth_laws.proofs.Replies.{FromPartner, partner, means, unanswered, unrefused}

-- what a step gives
pub record Goes (c : Calls) (u : Tunnels) (g : Channels) (d : Calls) : Type 0 where
  pub calls : CallsHold u d
  pub letters : LettersMean u g d
  pub grow : CallsGrow c d

drawn_when : (t : Tunnels) (c : Calls) (z : ℕ) → CallsHold t c → (c.drawn z ≡ false → ⊥) → c.drawn z ≡ true
drawn_when t c z ok h = by (c.drawn z) refl
  where
    by : (b : Bool) → c.drawn z ≡ b → c.drawn z ≡ true
    by true e = e
    by false e = absurd (h e)

pub live_drawn : (t : Tunnels) (c : Calls) (z : ℕ) → CallsHold t c → (c.state z ≡ NoCall → ⊥) → c.drawn z ≡ true
live_drawn t c z ok h = drawn_when t c z ok (λ e. h (ok.nameless z e).state)

pub name_of : (t : Tunnels) (c : Calls) (z : ℕ) → CallsHold t c → c.drawn z ≡ true → z ≢ 0
name_of t c z ok d e = let a = ok.zero in let b : c.drawn 0 ≡ true = rw (← e) d in cc

pub known : (t : Tunnels) (c : Calls) → CallsHold t c → Known c
known t c ok = record { mate = λ z h. (drawn_when t c z ok (λ e. h (ok.nameless z e).mate), ok.mate_drawn z h); made = λ z h. (ok.mate_made z h).1 }

pub lives_here : (s t : CallState) → t ≡ s → lives s ≡ true → t ≡ NoCall → ⊥
lives_here NoCall t a b e = cc
lives_here s t a b e = cc

module _ (t u : Tunnels) (h g : Channels) (c d : Calls) (x e : ℕ) (l : Letter) (tg : TunnelsGrow t u) (cg : CallsGrow c d) (lg : LettersGrow h g x e l) (ch : CallsHold t c) (lm : LettersMean t h c) where
  pub goes : CallsHold u d → Shows t u h g c d x e l → Goes c u g d
  goes ok s = record { calls = ok; letters = means_step t u h g c d x e l tg cg (known t c ch) lg s lm; grow = cg }

  -- a step whose letter neither asks for a call nor refuses one, and that makes no mates
  pub quiet : CallsHold u d → Meant u d x e l → ((z : ℕ) → l ≡ Request z → ⊥) → ((z : ℕ) → l ≡ Cdn 0 z → ⊥) → ((y : ℕ) → d.mate y ≡ c.mate y) → ((y z : ℕ) → d.asks y z ≡ true → d.held y (u.entered y) z ≢ 0) → Goes c u g d
  quiet ok m no_request no_cdn same asks = goes ok record {
    means = m;
    request = λ z f. absurd (no_request z f);
    mates = λ y n. inl (λ f. n (same y ∙ f));
    refusal = λ z f. absurd (no_cdn z f);
    unanswered = λ v f z y r k. r.unanswered y (sym (same y) ∙ k);
    asks = asks;
  }

-- a step of tunnels, or of letters that say nothing of calls
module _ (t u : Tunnels) (h g : Channels) (c : Calls) (x e : ℕ) (l : Letter) (tg : TunnelsGrow t u) (lg : LettersGrow h g x e l) (ch : CallsHold t c) (lm : LettersMean t h c) where
  pub says : Meant u c x e l → ((z : ℕ) → l ≡ Request z → ⊥) → ((z : ℕ) → l ≡ Cdn 0 z → ⊥) → ((y : ℕ) → u.entered y ≡ t.entered y) → Goes c u g c
  says m a b same = quiet t u h g c c x e l tg (same_calls c) lg ch lm (tunnels_ok t u c tg ch) m a b (λ y. refl) (λ y z k. rw (same y) (lm.asks_held y z k))

-- a step that only ends calls, besides
module _ (t u : Tunnels) (h g : Channels) (c : Calls) (kind : ℕ → Bool) (x e : ℕ) (l : Letter) (tg : TunnelsGrow t u) (lg : LettersGrow h g x e l) (ch : CallsHold t c) (lm : LettersMean t h c) where
  pub says_ended : Meant u (ends c kind) x e l → ((z : ℕ) → l ≡ Request z → ⊥) → ((z : ℕ) → l ≡ Cdn 0 z → ⊥) → ((y : ℕ) → u.entered y ≡ t.entered y) → Goes c u g (ends c kind)
  unfolding ends
  says_ended m a b same = quiet t u h g c (ends c kind) x e l tg (ends_grow t c kind ch) lg ch lm (ends_ok u c kind (tunnels_ok t u c tg ch)) m a b (λ y. refl) (λ y z k. rw (same y) (lm.asks_held y z k))

-- a reset: what is held there, and the query over it
asks_now : (t : Tunnels) (c : Calls) (x z : ℕ) (asked : Bool) → CallsHold t c → (asked && (eqb (c.tunnel z) x && is_up (c.state z))) ≡ true → cond (eqb (c.tunnel z) x && is_up (c.state z)) (c.remote z) 0 ≢ 0
asks_now t c x z asked ok k e =
    let a = both asked (eqb (c.tunnel z) x && is_up (c.state z)) k in
    let b = both (eqb (c.tunnel z) x) (is_up (c.state z)) a.1 in
    ok.up_remote z (ok.booked_up z (ok.up_booked z (up_state (c.state z) b.1))) (sym (ap (λ (q : Bool). cond q (c.remote z) 0) a.1) ∙ e)

pub held_now : (c : Calls) (asked : Bool) (x e y f z : ℕ) → y ≡ x → f ≡ e → (resets asked c x e).held y f z ≡ cond (eqb (c.tunnel z) x && is_up (c.state z)) (c.remote z) 0
unfolding resets
held_now c asked x e y f z a b = at_name c.held x (λ g. cond (eqb g e) (λ v. cond (eqb (c.tunnel v) x && is_up (c.state v)) (c.remote v) 0) (c.held x g)) y (λ k. k f z ≡ cond (eqb (c.tunnel z) x && is_up (c.state z)) (c.remote z) 0)
    (λ same. at_name (c.held x) e (λ v. cond (eqb (c.tunnel v) x && is_up (c.state v)) (c.remote v) 0) f (λ k. k z ≡ cond (eqb (c.tunnel z) x && is_up (c.state z)) (c.remote z) 0) (λ here. refl) (λ other. absurd (other b)))
    (λ other. absurd (other a))

pub held_else : (c : Calls) (asked : Bool) (x e y f z : ℕ) → (y ≡ x → ⊥) → (resets asked c x e).held y f z ≡ c.held y f z
unfolding resets
held_else c asked x e y f z n = ap (λ (k : ℕ → ℕ → ℕ). k f z) (assigned_else c.held x (λ g. cond (eqb g e) (λ v. cond (eqb (c.tunnel v) x && is_up (c.state v)) (c.remote v) 0) (c.held x g)) y n)

module _ (t u : Tunnels) (h : Channels) (c : Calls) (asked : Bool) (x e : ℕ) (tg : TunnelsGrow t u) (ch : CallsHold t c) (lm : LettersMean t h c) where
  reset_asks : u.entered x ≡ e → ((y : ℕ) → (y ≡ x → ⊥) → u.entered y ≡ t.entered y) → (y z : ℕ) → (resets asked c x e).asks y z ≡ true → (resets asked c x e).held y (u.entered y) z ≢ 0
  unfolding resets
  reset_asks here there y z = at_name c.asks x (λ v. asked && (eqb (c.tunnel v) x && is_up (c.state v))) y (λ (g : ℕ → Bool). g z ≡ true → (resets asked c x e).held y (u.entered y) z ≢ 0)
      (λ same k f. asks_now t c x z asked ch k (sym (held_now c asked x e y (u.entered y) z same (ap u.entered same ∙ here)) ∙ f))
      (λ other k f. lm.asks_held y z k (ap (λ (n : ℕ). c.held y n z) (sym (there y other)) ∙ sym (held_else c asked x e y (u.entered y) z other) ∙ f))

  reset_mates : (y : ℕ) → (resets asked c x e).mate y ≡ c.mate y
  unfolding resets
  reset_mates y = refl

  pub resets_goes : t.entered x < e → u.entered x ≡ e → ((y : ℕ) → (y ≡ x → ⊥) → u.entered y ≡ t.entered y) → Goes c u h (resets asked c x e)
  resets_goes above here there = quiet t u h h c (resets asked c x e) x e Hello tg (resets_grow t c asked x e ch above) (idle_grows h x e Hello) ch lm (resets_ok u c asked x e (tunnels_ok t u c tg ch) (rw here (omega arith))) tt (λ z f. absurd cc) (λ z f. absurd cc) reset_mates (reset_asks here there)

ended_mate : (c : Calls) (kind : ℕ → Bool) (y : ℕ) → (ends c kind).mate y ≡ c.mate y
unfolding ends
ended_mate c kind y = refl

ended_asks : (c : Calls) (kind : ℕ → Bool) (y v : ℕ) → (ends c kind).asks y v ≡ true → c.asks y v ≡ true
unfolding ends
ended_asks c kind y v h = h

ended_held : (c : Calls) (kind : ℕ → Bool) (y f v : ℕ) → (ends c kind).held y f v ≡ c.held y f v
unfolding ends
ended_held c kind y f v = refl

pub open_drawn : (t : Tunnels) (x : ℕ) → EpochsHold t → t.phase x ≡ Open → t.drawn x ≡ true
open_drawn t x ep p = let n = ep.nameless x in grind (arith, nat_tests)

module _ (r : Rules) (w : World) (reads : r.reads_epochs ≡ true) (ep : EpochsHold w.tunnels) (lh : LettersHold w.tunnels w.channels) (ch : CallsHold w.tunnels w.calls) (lm : LettersMean w.tunnels w.channels w.calls) where
  abbrev GoesTo : World → Type 0
  GoesTo v = Goes w.calls v.tunnels v.channels v.calls

  abbrev Grows : World → Type 0
  Grows v = TunnelsGrow w.tunnels v.tunnels

  same_tunnels : Grows w
  same_tunnels = record { drawn = λ x h. h; opener = λ x h. refl; learned = λ x h. refl; entered = λ x. omega arith }

  -- a request that is answered by a new call
  pub reply_goes : (x s e k own z : ℕ) → Takes r w x s e k (Request own) → w.tunnels.phase x ≡ Open → w.calls.drawn z ≡ false → z ≢ 0 → GoesTo (gives (record w { channels = (took_one w x).channels; calls = replies w.calls x (w.tunnels.entered x) z own }) x (Reply z own))
  unfolding gives took_one
  reply_goes x s e k own z t p new name =
      goes w.tunnels w.tunnels w.channels g w.calls d x now (Reply z own) same_tunnels (replies_grow w.tunnels w.calls x now z own ch new) (answered_grows w.channels x now (Reply z own)) ch lm
      (replies_ok w.tunnels w.calls x now z own ch new name drawn m.0 m.1 (m.3 ∙ ap Some from.epoch) m.4 (unanswered w x s e k own ch lm from t.stands) (rw m.2 from.linked))
      record { means = reply_meant w.calls x now z own w.tunnels m.0; request = λ y f. absurd cc; mates = reply_mates w.calls x now z own w.channels s k apart m.2 (subst (λ (q : ℕ). Stands w.channels s q k (Request own)) from.epoch t.stands) t.next; refusal = λ y f. absurd cc; unanswered = λ v f y a rf. reply_free w.calls x now z own w.tunnels w.channels v f y a (unrefused w x s e k own ch lm from t.stands v f y rf) rf; asks = λ y v q. reply_asks w.calls x now z own y v (w.tunnels.entered y) (lm.asks_held y v (reply_asked w.calls x now z own y v q)) }
    where
      now : ℕ
      now = w.tunnels.entered x

      d : Calls
      d = replies w.calls x now z own

      g : Channels
      g = puts (counts w.channels x now) x now (Reply z own)

      from : FromPartner w x s e k
      from = partner r w x s e k (Request own) reads ep lh t p refl

      m : (own ≢ 0) × (w.calls.drawn own ≡ true) × (w.calls.tunnel own ≡ s) × (w.calls.made own ≡ Some e) × (w.calls.mate own ≡ 0) × (w.tunnels.drawn s ≡ true)
      m = means w x s e k own ch lm from t.stands

      drawn : w.tunnels.drawn x ≡ true
      drawn = open_drawn w.tunnels x ep p

      apart : own ≡ z → ⊥
      apart e = let a : w.calls.drawn z ≡ true = rw (← e) m.1 in cc

  -- a request that is refused
  pub decline_goes : (x s e k own : ℕ) → Takes r w x s e k (Request own) → w.tunnels.phase x ≡ Open → GoesTo (gives (took_one w x) x (Cdn 0 own))
  unfolding gives took_one
  decline_goes x s e k own t p =
      goes w.tunnels w.tunnels w.channels g w.calls w.calls x now (Cdn 0 own) same_tunnels (same_calls w.calls) (answered_grows w.channels x now (Cdn 0 own)) ch lm ch
      record {
        means = inl refl;
        request = λ z f. absurd cc;
        mates = λ y n. inl n;
        refusal = λ z f. refused z f;
        unanswered = λ v f z y rf. rf.unanswered y;
        asks = lm.asks_held;
      }
    where
      now : ℕ
      now = w.tunnels.entered x

      g : Channels
      g = puts (counts w.channels x now) x now (Cdn 0 own)

      from : FromPartner w x s e k
      from = partner r w x s e k (Request own) reads ep lh t p refl

      taken : TakenRequest g s x now own
      taken = let a = answered_grows w.channels x now (Cdn 0 own) in let b = answered_taken w.channels x now (Cdn 0 own) in let f = t.next in record { place = k; stands = a.later s now k (Request own) (subst (λ (q : ℕ). Stands w.channels s q k (Request own)) from.epoch t.stands); taken = omega arith }

      refused : (z : ℕ) → Cdn 0 own ≡ Cdn 0 z → Refused w.tunnels g w.calls x now z
      refused z f = let same : own ≡ z = cc in subst (λ (q : ℕ). Refused w.tunnels g w.calls x now q) same record { sender = s; linked = from.linked; request = taken; unanswered = unanswered w x s e k own ch lm from t.stands }

  pub first_goes : (x s e k own z : ℕ) → Takes r w x s e k (Reply own z) → w.tunnels.phase x ≡ Open → w.calls.tunnel z ≡ x → w.calls.state z ≡ WaitsReply → GoesTo (gives (record w { channels = (took_one w x).channels; calls = is_first_up w.calls z own }) x (Connect own))
  unfolding gives took_one is_first_up
  first_goes x s e k own z t p at waits =
      quiet w.tunnels w.tunnels w.channels (puts (counts w.channels x now) x now (Connect own)) w.calls (is_first_up w.calls z own) x now (Connect own) same_tunnels (is_first_up_grow w.tunnels w.calls z own ch waits) (answered_grows w.channels x now (Connect own)) ch lm
      (is_first_up_ok w.tunnels w.calls z own ch waits m.1 name m.0)
      ((λ f. m.0 (sym m.1 ∙ f)), ap w.calls.tunnel m.1 ∙ at, m.3 ∙ ap Some from.epoch, ap (assign w.calls.up z true) m.1 ∙ assigned_now w.calls.up z true)
      (λ y f. absurd cc) (λ y f. absurd cc) (λ y. refl) lm.asks_held
    where
      now : ℕ
      now = w.tunnels.entered x

      from : FromPartner w x s e k
      from = partner r w x s e k (Reply own z) reads ep lh t p refl

      m : (z ≢ 0) × (w.calls.mate own ≡ z) × (w.calls.tunnel own ≡ s) × (w.calls.made own ≡ Some e)
      m = lm.means s e k (Reply own z) t.stands

      name : own ≢ 0
      name f = let a = (ch.nameless 0 ch.zero).mate in m.0 (sym m.1 ∙ ap w.calls.mate f ∙ a)

  pub second_goes : (x z : ℕ) → w.calls.state z ≡ WaitsConnect → GoesTo (record w { channels = (took_one w x).channels; calls = is_second_up w.calls z })
  unfolding took_one is_second_up
  second_goes x z waits = quiet w.tunnels w.tunnels w.channels (counts w.channels x (w.tunnels.entered x)) w.calls (is_second_up w.calls z) x (w.tunnels.entered x) Hello same_tunnels (is_second_up_grow w.tunnels w.calls z ch) (took_grows w.channels x (w.tunnels.entered x) Hello) ch lm (is_second_up_ok w.tunnels w.calls z ch waits) tt (λ y f. absurd cc) (λ y f. absurd cc) (λ y. refl) lm.asks_held

  pub answer_goes : (x s e k own y : ℕ) → Takes r w x s e k (Fsq own y) → w.tunnels.phase x ≡ Open → GoesTo (answers_query r (took_one w x) x own y)
  unfolding answers_query gives took_one
  answer_goes x s e k own y t p =
      says w.tunnels w.tunnels w.channels _ w.calls x now (Fsr y own _) same_tunnels (answered_grows w.channels x now (Fsr y own _)) ch lm (m.0, (λ f. from.linked.from_name (sym from.linked.back ∙ f)), ap (λ (q : ℕ). w.calls.held q now own) from.linked.back ∙ ap (λ (q : ℕ). w.calls.held s q own) (sym from.epoch) ∙ m.1) (λ z f. absurd cc) (λ z f. absurd cc) (λ z. refl)
    where
      now : ℕ
      now = w.tunnels.entered x

      from : FromPartner w x s e k
      from = partner r w x s e k (Fsq own y) reads ep lh t p refl

      m : (y ≢ 0) × (w.calls.held s e own ≡ y)
      m = lm.means s e k (Fsq own y) t.stands

  told_asks : (c : Calls) (x z y v : ℕ) → (is_told c x z).asks y v ≡ true → c.asks y v ≡ true
  unfolding is_told
  told_asks c x z y v = at_name c.asks x (λ q. cond (eqb q z) false (c.asks x q)) y (λ g. g v ≡ true → c.asks y v ≡ true)
      (λ same. at_name (c.asks x) z false v (λ b. b ≡ true → c.asks y v ≡ true) (λ here h. absurd cc) (λ other h. rw same h))
      (λ other h. h)

  told_mate : (c : Calls) (x z y : ℕ) → (is_told c x z).mate y ≡ c.mate y
  unfolding is_told
  told_mate c x z y = refl

  told_held : (c : Calls) (x z y f v : ℕ) → (is_told c x z).held y f v ≡ c.held y f v
  unfolding is_told
  told_held c x z y f v = refl

  pub learn_goes : (x own z : ℕ) (here : Bool) → GoesTo (takes_answer (took_one w x) x own z here)
  unfolding takes_answer took_one
  learn_goes x own z here = chosen GoesTo _ _ _
      (λ q. quiet w.tunnels w.tunnels w.channels (counts w.channels x now) w.calls (ends (is_told w.calls x z) (is_call z)) x now Hello same_tunnels (trans_grow w.calls (is_told w.calls x z) (ends (is_told w.calls x z) (is_call z)) (is_told_grow w.tunnels w.calls x z ch) (ends_grow w.tunnels (is_told w.calls x z) (is_call z) (is_told_ok w.tunnels w.calls x z ch))) (took_grows w.channels x now Hello) ch lm (ends_ok w.tunnels (is_told w.calls x z) (is_call z) (is_told_ok w.tunnels w.calls x z ch)) tt (λ y f. absurd cc) (λ y f. absurd cc) (λ y. ended_mate (is_told w.calls x z) (is_call z) y ∙ told_mate w.calls x z y) (λ y v k f. lm.asks_held y v (told_asks w.calls x z y v (ended_asks (is_told w.calls x z) (is_call z) y v k)) (sym (told_held w.calls x z y (w.tunnels.entered y) v) ∙ sym (ended_held (is_told w.calls x z) (is_call z) y (w.tunnels.entered y) v) ∙ f)))
      (λ q. quiet w.tunnels w.tunnels w.channels (counts w.channels x now) w.calls (is_told w.calls x z) x now Hello same_tunnels (is_told_grow w.tunnels w.calls x z ch) (took_grows w.channels x now Hello) ch lm (is_told_ok w.tunnels w.calls x z ch) tt (λ y f. absurd cc) (λ y f. absurd cc) (λ y. told_mate w.calls x z y) (λ y v k f. lm.asks_held y v (told_asks w.calls x z y v k) (sym (told_held w.calls x z y (w.tunnels.entered y) v) ∙ f)))
    where
      now : ℕ
      now = w.tunnels.entered x

pub held_before : (c : Calls) (asked : Bool) (x e y f z : ℕ) → y ≡ x → (f ≡ e → ⊥) → (resets asked c x e).held y f z ≡ c.held y f z
unfolding resets
held_before c asked x e y f z a n = at_name c.held x (λ g. cond (eqb g e) (λ v. cond (eqb (c.tunnel v) x && is_up (c.state v)) (c.remote v) 0) (c.held x g)) y (λ k. k f z ≡ c.held y f z)
    (λ same. at_name (c.held x) e (λ v. cond (eqb (c.tunnel v) x && is_up (c.state v)) (c.remote v) 0) f (λ k. k z ≡ c.held y f z) (λ here. absurd (n here)) (λ other. rw same refl))
    (λ other. refl)
