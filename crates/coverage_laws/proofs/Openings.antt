-- Openings, and tunnels that leave, keep what holds of queries.
use Rattle.std.proofs.Common.{◌≡◌, ◌≢◌, inl, inr, ⊎_elim, ℕ, ◌<◌, ◌≤◌, Bool, true, false, cond, eqb, ◌||◌, List, [], ◌∷◌, length, slice_get, Some, refl, sym, ap, ◌∙◌, subst, arith}
use Rattle.std.proofs.lemmas.Bool.Decides.{nat_tests}
use Rattle.epoch_machine.specs.Names.{assign}
use Rattle.epoch_machine.specs.Letters.{Letter, Sccrq, Sccrp, Scccn, StopCcn, Hello}
use Rattle.epoch_machine.specs.Tunnels.{Tunnels, Phase, WaitReply, WaitConnect, Open, Closed, left, opened, accepted, established_with, established, comes_up}
use Rattle.epoch_machine.specs.Channels.{Channels, Stands, puts, counts, refuses}
use Rattle.epoch_machine.specs.Calls.{Calls, lives, ends, of_tunnel}
use Rattle.epoch_machine.specs.Worlds.{World, Rules, is_stop, is_sccrp, gives, took_one, leaves, connects, is_connected}
use Rattle.epoch_machine.specs.Moves.{opens, accepts}
use Rattle.epoch_machine.proofs.Splits.{at_name, assigned_now}
use Rattle.epoch_machine.proofs.Did.{Takes}
use Rattle.epoch_laws.proofs.Growth.{TunnelsGrow}
use Rattle.letter_laws.proofs.Sources.{source}
use Rattle.letter_laws.proofs.Begins.{not_entered}
use Rattle.birth_laws.proofs.Means.{CallsGrow, LettersGrow}
use Rattle.birth_laws.proofs.Growths.{idle_grows, took_grows, gave_grows, answered_grows, accepted_grows, refused_grows}
use Rattle.birth_laws.proofs.Growing.{same_calls}
use Rattle.birth_laws.proofs.Steps.{known}
use Rattle.birth_laws.proofs.Runs.{Sound}
use Rattle.coverage_laws.specs.Coverage.{LivedIn, Known, StatesHold, QueriesHold}
use Rattle.coverage_laws.proofs.Takings.{Takings, none_taken, one_taken, longer_put, longer_answered, longer_accepted, longer_took, counted_took, counted_answered, counted_accepted, put_taken}
use Rattle.coverage_laws.proofs.Present.{OpenBefore, same_connected, same_asked, same_ended, ends_connected, ends_asked, ends_ended}
use Rattle.coverage_laws.proofs.Simple.{take_quiet, Puts, Tooks, puts_quiet, tooks_quiet, finish_same, was_open}

-- tunnel 0 gives no letters
pub nameless : (w : World) → Sound w → (f j : ℕ) (m : Letter) → Stands w.channels 0 f j m → ⊥
nameless w s f j m st = let a = s.given.given_drawn 0 f j m st in let b = s.epochs.zero in cc

first_there : (c : Channels) (x : ℕ) → 0 < length (c.sent x 0) → (m : Letter) × Stands c x 0 0 m
first_there c x h = by (c.sent x 0) h
  where
    by : (xs : List Letter) → 0 < length xs → (m : Letter) × (slice_get xs 0 ≡ Some m)
    by [] h = absurd (omega arith)
    by (l ∷ xs) h = (l, refl)

zero_or : (k : ℕ) → (k ≢ 0 → ⊥) → k ≡ 0
zero_or k h = grind (arith, h)

refused_taken : (h : Channels) (a y f : ℕ) → (refuses h a).taken y f ≡ h.taken y f
unfolding refuses
refused_taken h a y f = refl

longer_refused : (h : Channels) (a y f : ℕ) → length (h.sent y f) ≤ length ((refuses h a).sent y f)
unfolding refuses
longer_refused h a y f = omega arith

left_open : (t : Tunnels) (x : ℕ) (p : Phase) (y : ℕ) → (p ≡ Open → ⊥) → assign t.phase x p y ≡ Open → t.phase y ≡ Open
left_open t x p y n = at_name t.phase x p y (λ q. q ≡ Open → t.phase y ≡ Open) (λ same h. absurd (n h)) (λ other h. h)

not_left : (t : Tunnels) (x : ℕ) (p : Phase) (y : ℕ) → (p ≡ Open → ⊥) → eqb y x ≡ true → assign t.phase x p y ≡ Open → ⊥
not_left t x p y n k h = n (sym (ap (λ (b : Bool). cond b p (t.phase y)) k) ∙ h)

pub ended_mate : (c : Calls) (kind : ℕ → Bool) (y : ℕ) → (ends c kind).mate y ≡ c.mate y
unfolding ends
ended_mate c kind y = refl

-- a letter that is no StopCCN was taken in the tunnel's epoch, and, where it's no SCCRP, from the end that it had learned
pub taken_epoch : (r : Rules) (w : World) (x a f k : ℕ) (l : Letter) → r.reads_epochs ≡ true → Sound w → Takes r w x a f k l → f ≡ w.tunnels.entered x
taken_epoch r w x a f k l reads s t = ⊎_elim (λ b. b.epoch) (λ b. ⊎_elim (λ q. q.epoch) (λ q. q.epoch.0 ∙ sym q.epoch.1) b) (source r w x a f k l reads s.epochs s.given t)

pub taken_from : (r : Rules) (w : World) (x a f k : ℕ) (l : Letter) → r.reads_epochs ≡ true → Sound w → Takes r w x a f k l → is_stop l ≡ false → is_sccrp l ≡ false → w.tunnels.learned x ≡ a
taken_from r w x a f k l reads s t n m = ⊎_elim (λ b. b.learned) (λ b. ⊎_elim (λ q. absurd (let v = ap is_sccrp q.letter in cc)) (λ q. absurd (let v = ap is_stop q.letter in cc)) b) (source r w x a f k l reads s.epochs s.given t)

module _ (r : Rules) (w : World) (reads : r.reads_epochs ≡ true) (s : Sound w) (st : StatesHold w.tunnels w.calls) (qh : QueriesHold w.tunnels w.channels w.calls) where
  abbrev To : World → Type 0
  To v = QueriesHold v.tunnels v.channels v.calls

  abbrev Grows : World → Type 0
  Grows v = TunnelsGrow w.tunnels v.tunnels

  pub same_grows : TunnelsGrow w.tunnels w.tunnels
  same_grows = record { drawn = λ x h. h; opener = λ x h. refl; learned = λ x h. refl; entered = λ x. omega arith }

  -- a step of tunnels and of letters that aren't about calls
  module _ (u : Tunnels) (g : Channels) (x e : ℕ) (l l1 : Letter) (tg : TunnelsGrow w.tunnels u) (lg : LettersGrow w.channels g x e l) (tk : Takings w.tunnels u w.channels g l1) (longer : (y f : ℕ) → length (w.channels.sent y f) ≤ length (g.sent y f)) (zero_gives : (f j : ℕ) (m : Letter) → Stands g 0 f j m → ⊥) where
    pub simple : Puts w.tunnels u w.channels g w.calls w.calls x e l l1 → Tooks w.tunnels u w.channels g w.calls w.calls x e l l1 → ((y : ℕ) → u.phase y ≡ Open → OpenBefore w.tunnels u y) → QueriesHold u g w.calls
    simple p q before = finish_same w.tunnels u w.channels g w.calls w.calls x e l l1 tg (same_calls w.calls) (known w.tunnels w.calls s.calls) lg qh tk longer zero_gives p q (λ y. refl) (same_connected w.tunnels u w.calls s.calls st g before) (same_asked w.tunnels u w.calls s.calls st g before) (same_ended w.tunnels u w.calls s.calls st g before)

    pub simple_ended : (kind : ℕ → Bool) → CallsGrow w.calls (ends w.calls kind) → Puts w.tunnels u w.channels g w.calls (ends w.calls kind) x e l l1 → Tooks w.tunnels u w.channels g w.calls (ends w.calls kind) x e l l1 → ((y : ℕ) → u.phase y ≡ Open → OpenBefore w.tunnels u y) → ((z : ℕ) → kind z ≡ true → (lives (w.calls.state z) || w.calls.booked z) ≡ true → u.phase (w.calls.tunnel z) ≡ Open → LivedIn w.calls (w.calls.tunnel z) (u.entered (w.calls.tunnel z)) z → Known u g (ends w.calls kind) (w.calls.tunnel z) (u.entered (w.calls.tunnel z)) z) → QueriesHold u g (ends w.calls kind)
    simple_ended kind cg p q before told = finish_same w.tunnels u w.channels g w.calls (ends w.calls kind) x e l l1 tg cg (known w.tunnels w.calls s.calls) lg qh tk longer zero_gives p q (ended_mate w.calls kind) (ends_connected w.tunnels u w.calls s.calls st g before kind) (ends_asked w.tunnels u w.calls s.calls st g before kind) (ends_ended w.tunnels u w.calls s.calls st g before kind told)

  pub opens_queries : (n m x : ℕ) → Grows (opens w n m x) → Sound (opens w n m x) → To (opens w n m x)
  unfolding opens gives opened
  opens_queries n m x tg sv = simple (opened w.tunnels n m x) (puts w.channels x e Sccrq) x e Sccrq Hello tg (gave_grows w.channels x e Sccrq) (none_taken w.tunnels (opened w.tunnels n m x) w.channels tg s.given qh.within _ Hello (put_taken w.channels x e Sccrq)) (longer_put w.channels x e Sccrq) (nameless _ sv) (puts_quiet _ _ _ _ _ _ x e Sccrq Hello refl) (tooks_quiet _ _ _ _ _ _ x e Sccrq Hello refl) (λ y p. inl (was_open w.tunnels (opened w.tunnels n m x) y s.epochs (grind (arith, nat_tests, p)) refl))
    where
      e : ℕ
      e = w.tunnels.entered x

  pub accepts_queries : (a x : ℕ) → w.tunnels.opener a ≡ true → w.tunnels.drawn x ≡ false → Grows (accepts w a x) → Sound (accepts w a x) → To (accepts w a x)
  unfolding accepts gives took_one accepted
  accepts_queries a x o new tg sv = simple (accepted w.tunnels a x) (counts (puts w.channels x e Sccrp) x e) x e Sccrp m.0 tg (accepted_grows w.channels x e Sccrp) (one_taken w.tunnels (accepted w.tunnels a x) w.channels tg s.given qh.within _ x e a 0 m.0 (counted_accepted w.channels x e Sccrp) (assigned_now w.tunnels.learned x a) (sym none) (subst (λ (q : ℕ). Stands w.channels a q 0 m.0) (sym e0) m.1)) (longer_accepted w.channels x e Sccrp) (nameless _ sv) (puts_quiet _ _ _ _ _ _ x e Sccrp m.0 refl) (tooks_quiet _ _ _ _ _ _ x e Sccrp m.0 quiet) (λ y p. inl (was_open w.tunnels (accepted w.tunnels a x) y s.epochs (grind (arith, nat_tests, p)) refl))
    where
      e : ℕ
      e = w.tunnels.entered x

      e0 : e ≡ 0
      e0 = not_entered w.tunnels x s.epochs (s.epochs.nameless x new).epochs

      m : (m : Letter) × Stands w.channels a 0 0 m
      m = first_there w.channels a (s.given.opener_given a o)

      quiet : take_quiet m.0 ≡ true
      quiet = ⊎_elim (λ q. ap take_quiet q.1) (λ q. ⊎_elim (λ v. absurd (let b = v.0 in omega arith)) (λ v. absurd (omega arith)) q) (s.given.opener_first a 0 m.0 o m.1)

      none : w.channels.taken x e ≡ 0
      none = zero_or (w.channels.taken x e) (λ h. (let d = s.given.taken_drawn x e h in cc))

  pub refuses_queries : (a : ℕ) → Sound (record w { channels = refuses w.channels a }) → To (record w { channels = refuses w.channels a })
  refuses_queries a sv = simple w.tunnels (refuses w.channels a) 0 0 Hello Hello same_grows (refused_grows w.channels a 0 0 Hello) (none_taken w.tunnels w.tunnels w.channels same_grows s.given qh.within _ Hello (refused_taken w.channels a)) (longer_refused w.channels a) (nameless _ sv) (puts_quiet _ _ _ _ _ _ 0 0 Hello Hello refl) (tooks_quiet _ _ _ _ _ _ 0 0 Hello Hello refl) (λ y p. inl (was_open w.tunnels w.tunnels y s.epochs p refl))

  pub leaves_queries : (x : ℕ) (p : Phase) → (p ≡ Open → ⊥) → CallsGrow w.calls (ends w.calls (of_tunnel w.calls x)) → Grows (leaves w x p) → Sound (leaves w x p) → To (leaves w x p)
  unfolding leaves left
  leaves_queries x p closed cg tg sv = simple_ended (left w.tunnels x p) w.channels 0 0 Hello Hello tg (idle_grows w.channels 0 0 Hello) (none_taken w.tunnels (left w.tunnels x p) w.channels tg s.given qh.within w.channels Hello (λ y f. refl)) (λ y f. omega arith) (nameless _ sv) (of_tunnel w.calls x) cg (puts_quiet _ _ _ _ _ _ 0 0 Hello Hello refl) (tooks_quiet _ _ _ _ _ _ 0 0 Hello Hello refl) (λ y q. inl (was_open w.tunnels (left w.tunnels x p) y s.epochs (left_open w.tunnels x p y closed q) refl)) (λ z k a q l. absurd (not_left w.tunnels x p (w.calls.tunnel z) closed k q))

  pub closes_queries : (x : ℕ) → CallsGrow w.calls (ends w.calls (of_tunnel w.calls x)) → Grows (leaves (gives w x StopCcn) x Closed) → Sound (leaves (gives w x StopCcn) x Closed) → To (leaves (gives w x StopCcn) x Closed)
  unfolding leaves left gives
  closes_queries x cg tg sv = simple_ended (left w.tunnels x Closed) (puts w.channels x e StopCcn) x e StopCcn Hello tg (gave_grows w.channels x e StopCcn) (none_taken w.tunnels (left w.tunnels x Closed) w.channels tg s.given qh.within _ Hello (put_taken w.channels x e StopCcn)) (longer_put w.channels x e StopCcn) (nameless _ sv) (of_tunnel w.calls x) cg (puts_quiet _ _ _ _ _ _ x e StopCcn Hello refl) (tooks_quiet _ _ _ _ _ _ x e StopCcn Hello refl) (λ y q. inl (was_open w.tunnels (left w.tunnels x Closed) y s.epochs (left_open w.tunnels x Closed y not_open q) refl)) (λ z k a q l. absurd (not_left w.tunnels x Closed (w.calls.tunnel z) not_open k q))
    where
      e : ℕ
      e = w.tunnels.entered x

      not_open : Closed ≡ Open → ⊥
      not_open h = cc

  pub connects_queries : (x a f k : ℕ) → Takes r w x a f k Sccrp → w.tunnels.phase x ≡ WaitReply → w.tunnels.learned a ≡ x → Grows (connects (took_one w x) x a) → Sound (connects (took_one w x) x a) → To (connects (took_one w x) x a)
  unfolding connects took_one gives established_with
  connects_queries x a f k t p la tg sv = simple (established_with w.tunnels x a) (puts (counts w.channels x e) x e Scccn) x e Scccn Sccrp tg (answered_grows w.channels x e Scccn) (one_taken w.tunnels (established_with w.tunnels x a) w.channels tg s.given qh.within _ x e a k Sccrp (counted_answered w.channels x e Scccn) (assigned_now w.tunnels.learned x a) t.next (subst (λ (q : ℕ). Stands w.channels a q k Sccrp) same t.stands)) (longer_answered w.channels x e Scccn) (nameless _ sv) (puts_quiet _ _ _ _ _ _ x e Scccn Sccrp refl) (tooks_quiet _ _ _ _ _ _ x e Scccn Sccrp refl) before
    where
      e : ℕ
      e = w.tunnels.entered x

      e0 : e ≡ 0
      e0 = not_entered w.tunnels x s.epochs (let q = s.epochs.epochs_linked x in let n = (s.epochs.waits_reply x p).1 in grind (arith, q))

      same : f ≡ e
      same = taken_epoch r w x a f k Sccrp reads s t

      before : (y : ℕ) → assign w.tunnels.phase x Open y ≡ Open → OpenBefore w.tunnels (established_with w.tunnels x a) y
      before y = at_name w.tunnels.phase x Open y (λ q. q ≡ Open → OpenBefore w.tunnels (established_with w.tunnels x a) y) (λ here q. inr (inl (ap w.tunnels.phase here ∙ p), ap w.tunnels.entered here ∙ e0)) (λ other q. inl (was_open w.tunnels (established_with w.tunnels x a) y s.epochs q refl))

  pub confirms_queries : (x a f k : ℕ) → Takes r w x a f k Scccn → w.tunnels.phase x ≡ WaitConnect → Grows (is_connected (took_one w x) x) → Sound (is_connected (took_one w x) x) → To (is_connected (took_one w x) x)
  unfolding is_connected took_one established
  confirms_queries x a f k t p tg sv = simple (established w.tunnels x) (counts w.channels x e) x e Hello Scccn tg (took_grows w.channels x e Hello) (one_taken w.tunnels (established w.tunnels x) w.channels tg s.given qh.within _ x e a k Scccn (counted_took w.channels x e) (taken_from r w x a f k Scccn reads s t refl refl) t.next (subst (λ (q : ℕ). Stands w.channels a q k Scccn) same t.stands)) (longer_took w.channels x e) (nameless _ sv) (puts_quiet _ _ _ _ _ _ x e Hello Scccn refl) (tooks_quiet _ _ _ _ _ _ x e Hello Scccn refl) before
    where
      e : ℕ
      e = w.tunnels.entered x

      e0 : e ≡ 0
      e0 = not_entered w.tunnels x s.epochs (s.epochs.waits_connect x p).1

      same : f ≡ e
      same = taken_epoch r w x a f k Scccn reads s t

      before : (y : ℕ) → assign w.tunnels.phase x Open y ≡ Open → OpenBefore w.tunnels (established w.tunnels x) y
      before y = at_name w.tunnels.phase x Open y (λ q. q ≡ Open → OpenBefore w.tunnels (established w.tunnels x) y) (λ here q. inr (inr (ap w.tunnels.phase here ∙ p), ap w.tunnels.entered here ∙ e0)) (λ other q. inl (was_open w.tunnels (established w.tunnels x) y s.epochs q refl))

  pub hello_queries : (x : ℕ) → Sound (gives w x Hello) → To (gives w x Hello)
  unfolding gives
  hello_queries x sv = simple w.tunnels (puts w.channels x e Hello) x e Hello Hello same_grows (gave_grows w.channels x e Hello) (none_taken w.tunnels w.tunnels w.channels same_grows s.given qh.within _ Hello (put_taken w.channels x e Hello)) (longer_put w.channels x e Hello) (nameless _ sv) (puts_quiet _ _ _ _ _ _ x e Hello Hello refl) (tooks_quiet _ _ _ _ _ _ x e Hello Hello refl) (λ y p. inl (was_open w.tunnels w.tunnels y s.epochs p refl))
    where
      e : ℕ
      e = w.tunnels.entered x

  pub starts_queries : (n : ℕ) → Grows (record w { tunnels = comes_up w.tunnels n }) → Sound (record w { tunnels = comes_up w.tunnels n }) → To (record w { tunnels = comes_up w.tunnels n })
  unfolding comes_up
  starts_queries n tg sv = simple (comes_up w.tunnels n) w.channels 0 0 Hello Hello tg (idle_grows w.channels 0 0 Hello) (none_taken w.tunnels (comes_up w.tunnels n) w.channels tg s.given qh.within w.channels Hello (λ y f. refl)) (λ y f. omega arith) (nameless _ sv) (puts_quiet _ _ _ _ _ _ 0 0 Hello Hello refl) (tooks_quiet _ _ _ _ _ _ 0 0 Hello Hello refl) (λ y p. inl (was_open w.tunnels (comes_up w.tunnels n) y s.epochs p refl))
