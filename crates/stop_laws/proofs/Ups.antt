-- A call that was ended with no header was never established.
use Rattle.std.proofs.Common.{◌≡◌, ◌≢◌, ◌⊎◌, inl, inr, ⊎_elim, ℕ, Bool, true, false, not, ◌&&◌, List, [], ◌∷◌, refl, sym, ap, ◌∙◌, subst}
use Rattle.epoch_machine.specs.Letters.{Letter, Sccrq, Sccrp, Scccn, StopCcn, Hello, Request, Reply, Connect, Cdn, Fsq, Fsr}
use Rattle.epoch_machine.specs.Channels.{Channels, Stands, puts, counts, refuses}
use Rattle.epoch_machine.specs.Calls.{Calls, CallState, NoCall, WaitsReply, WaitsConnect, lives, ends, loses, unfinished, comes_back, is_born, is_asked_for, replies, is_first_up, is_second_up, keeps_call, resets, is_told, stands_with}
use Rattle.epoch_machine.specs.Worlds.{World, Rules, all_rules, empty_world, gives, took_one, leaves, connects, is_connected, takes_cdn, answers_query, takes_answer}
use Rattle.epoch_machine.specs.Moves.{Move, Kept, TunnelDown, CallDown, keeps, keeps_all, falls, opens, accepts, adds_call, asks_for, ends_call, ends_told, queries, freezes, resets_attempting, resets_answering, restores, step, goes_on}
use Rattle.epoch_machine.proofs.Splits.{chosen, at_name}
use Rattle.epoch_machine.proofs.Places.{put_or_before}
use Rattle.epoch_machine.proofs.Stops.{amid_first, all_kept, call_tells}
use Rattle.epoch_machine.proofs.Did.{Did, did_open, did_accept, did_connect, did_reply, did_decline, did_first_up, did_second_up, did_answer, did_learn, did_hello, did_close, did_ask, did_end_told, did_query, did_freeze, did_stop, step_did}
use Rattle.birth_laws.specs.Births.{Meant}
use Rattle.birth_laws.proofs.Stops.{fallen}
use Rattle.birth_laws.proofs.Runs.{Sound}
use Rattle.coverage_laws.proofs.Runs.{Whole, whole_after, whole_step}

pub record NeverUp (w : World) : Type 0 where
  pub no_header : (x e k own : ℕ) → Stands w.channels x e k (Cdn own 0) → own ≢ 0 → w.calls.up own ≡ false
  -- and it's over
  pub over : (x e k own : ℕ) → Stands w.channels x e k (Cdn own 0) → own ≢ 0 → lives (w.calls.state own) ≡ false

not_up : (b : Bool) → (b ≡ true → ⊥) → b ≡ false
not_up true h = absurd (h refl)
not_up false h = refl

no_call : (s : CallState) → s ≡ NoCall → lives s ≡ false
no_call s e = ap lives e

-- a letter that isn't put now stood before
before : (c : Channels) (x e : ℕ) (l : Letter) (y f k : ℕ) (m : Letter) → (m ≡ l → ⊥) → Stands (puts c x e l) y f k m → Stands c y f k m
before c x e l y f k m n h = ⊎_elim (λ a. a) (λ p. absurd (n p.letter)) (put_or_before c x e l y f k m h)

-- only a call that lives comes up
abbrev UpBefore : World → World → Type 0
UpBefore w v = (own : ℕ) → v.calls.up own ≡ true → (w.calls.up own ≡ true) ⊎ (lives (w.calls.state own) ≡ true)

stop_ups : (w : World) (n : ℕ) (ks : List Kept) → UpBefore w (keeps_all w n ks w)
unfolding keeps ends keeps_call
stop_ups w n ks = all_kept (λ v. UpBefore w v) w n record { up = λ v x s p a u h. p; down = λ v x p a at. down v x p; call = λ v z own k p a h g. call v z own k p (call_tells w n z own k h).why; ended = λ v z p a h. ended v z p } ks w (λ own h. inl h) (amid_first w)
  where
    down : (v : World) (x : ℕ) → UpBefore w v → UpBefore w (keeps v (TunnelDown x))
    down v x p = p

    ended : (v : World) (z : ℕ) → UpBefore w v → UpBefore w (keeps v (CallDown z))
    ended v z p = p

    call : (v : World) (z own k : ℕ) → UpBefore w v → ((w.calls.state z ≡ WaitsReply) × Stands w.channels (w.tunnels.learned (w.calls.tunnel z)) (w.tunnels.entered (w.calls.tunnel z)) k (Reply own z)) ⊎ ((w.calls.state z ≡ WaitsConnect) × (w.calls.remote z ≡ own) × Stands w.channels (w.tunnels.learned (w.calls.tunnel z)) (w.tunnels.entered (w.calls.tunnel z)) k (Connect z)) → UpBefore w (record v { calls = keeps_call v.calls z own })
    call v z own k p why y = at_name v.calls.up z true y (λ (b : Bool). b ≡ true → (w.calls.up y ≡ true) ⊎ (lives (w.calls.state y) ≡ true)) (λ e h. inr (ap lives (ap w.calls.state e) ∙ alive why)) (λ e h. p y h)
      where
        alive : ((w.calls.state z ≡ WaitsReply) × Stands w.channels (w.tunnels.learned (w.calls.tunnel z)) (w.tunnels.entered (w.calls.tunnel z)) k (Reply own z)) ⊎ ((w.calls.state z ≡ WaitsConnect) × (w.calls.remote z ≡ own) × Stands w.channels (w.tunnels.learned (w.calls.tunnel z)) (w.tunnels.entered (w.calls.tunnel z)) k (Connect z)) → lives (w.calls.state z) ≡ true
        alive (inl a) = ap lives a.0
        alive (inr a) = ap lives a.0

ups : (r : Rules) (w v : World) → Did r w v → UpBefore w v
unfolding gives took_one leaves connects is_connected takes_cdn answers_query takes_answer opens accepts adds_call asks_for ends_call ends_told queries freezes resets_attempting resets_answering restores falls ends loses comes_back is_born is_asked_for replies is_first_up is_second_up resets is_told
ups r w v (did_first_up x s e k own z t p l at st) y h = at_name w.calls.up z true y (λ (b : Bool). b ≡ true → (w.calls.up y ≡ true) ⊎ (lives (w.calls.state y) ≡ true)) (λ i g. inr (ap lives (ap w.calls.state i) ∙ ap lives st)) (λ i g. inl g) h
ups r w v (did_second_up x s e k z t p l at st) y h = at_name w.calls.up z true y (λ (b : Bool). b ≡ true → (w.calls.up y ≡ true) ⊎ (lives (w.calls.state y) ≡ true)) (λ i g. inr (ap lives (ap w.calls.state i) ∙ ap lives st)) (λ i g. inl g) h
ups r w v (did_learn x s e k own y here t p l) z h = chosen (λ (u : World). u.calls.up z ≡ true → (w.calls.up z ≡ true) ⊎ (lives (w.calls.state z) ≡ true)) (not here && stands_with w.calls x y own) _ _ (λ i g. inl g) (λ i g. inl g) h
ups r w v (did_end_told z p a b) y h = chosen (λ (u : World). u.calls.up y ≡ true → (w.calls.up y ≡ true) ⊎ (lives (w.calls.state y) ≡ true)) r.tells_ends _ _ (λ i g. inl g) (λ i g. inl g) h
ups r w v (did_freeze x a c own theirs p n l f new) y h = chosen (λ (q : Calls). q.up y ≡ true → (w.calls.up y ≡ true) ⊎ (lives (w.calls.state y) ≡ true)) r.ends_at_freezes (ends w.calls (unfinished w.calls x)) w.calls (λ i g. inl g) (λ i g. inl g) h
ups r w v (did_stop n ks) y h = stop_ups w n ks y h
ups r w v d y h = inl h

-- a CDN with no header that is put now is of a call that was never established, or of no call
abbrev PutBefore : World → World → Type 0
PutBefore w v = (y f k own : ℕ) → Stands v.channels y f k (Cdn own 0) → own ≢ 0 → Stands w.channels y f k (Cdn own 0) ⊎ (v.calls.remote own ≡ 0)

same_names : (a b : ℕ) → Cdn a 0 ≡ Cdn 0 b → a ≡ 0
same_names a b h = cc

told_put : (w : World) (z e : ℕ) (y f k own : ℕ) → Stands (puts w.channels (w.calls.tunnel z) e (Cdn z (w.calls.remote z))) y f k (Cdn own 0) → Stands w.channels y f k (Cdn own 0) ⊎ (w.calls.remote own ≡ 0)
told_put w z e y f k own h = ⊎_elim (λ a. inl a) (λ p. inr (which (w.calls.remote z) refl p.letter)) (put_or_before w.channels (w.calls.tunnel z) e (Cdn z (w.calls.remote z)) y f k (Cdn own 0) h)
  where
    which : (q : ℕ) → w.calls.remote z ≡ q → Cdn own 0 ≡ Cdn z q → w.calls.remote own ≡ 0
    which q e g = let a : own ≡ z = cc in let b : q ≡ 0 = cc in ap w.calls.remote a ∙ e ∙ b

news : (r : Rules) (w v : World) → Did r w v → Sound w → PutBefore w v
unfolding gives took_one leaves connects is_connected takes_cdn answers_query takes_answer opens accepts adds_call asks_for ends_call ends_told queries freezes resets_attempting resets_answering restores falls counts refuses ends puts
news r w v (did_open n m x new) s y f k own h z = inl (before w.channels x _ Sccrq y f k (Cdn own 0) (λ i. cc) h)
news r w v (did_accept a x d o new) s y f k own h z = inl (before w.channels x _ Sccrp y f k (Cdn own 0) (λ i. cc) h)
news r w v (did_connect x a e j t p l) s y f k own h z = inl (before w.channels x _ Scccn y f k (Cdn own 0) (λ i. cc) h)
news r w v (did_reply x a e j o q t p l new) s y f k own h z = inl (before w.channels x _ (Reply q o) y f k (Cdn own 0) (λ i. cc) h)
news r w v (did_decline x a e j o t p l) s y f k own h z = inl (before w.channels x _ (Cdn 0 o) y f k (Cdn own 0) (λ i. z (same_names own o i)) h)
news r w v (did_first_up x a e j o q t p l b d) s y f k own h z = inl (before w.channels x _ (Connect o) y f k (Cdn own 0) (λ i. cc) h)
news r w v (did_answer x a e j o q t p l) s y f k own h z = inl (before w.channels x _ (Fsr q o _) y f k (Cdn own 0) (λ i. cc) h)
news r w v (did_learn x a e j o q here t p l) s y f k own h z = inl (chosen (λ (u : World). Stands u.channels y f k (Cdn own 0) → Stands w.channels y f k (Cdn own 0)) (not here && stands_with w.calls x q o) _ _ (λ i g. g) (λ i g. g) h)
news r w v (did_hello x p) s y f k own h z = inl (before w.channels x _ Hello y f k (Cdn own 0) (λ i. cc) h)
news r w v (did_close x a) s y f k own h z = inl (before w.channels x _ StopCcn y f k (Cdn own 0) (λ i. cc) h)
news r w v (did_ask q p a) s y f k own h z = inl (before w.channels (w.calls.tunnel q) _ (Request q) y f k (Cdn own 0) (λ i. cc) h)
news r w v (did_end_told q p a b) s y f k own h z = chosen (λ (u : World). Stands u.channels y f k (Cdn own 0) → Stands w.channels y f k (Cdn own 0) ⊎ (u.calls.remote own ≡ 0)) r.tells_ends _ _ (λ i g. told_put w q _ y f k own g) (λ i g. inl g) h
news r w v (did_query x q p a) s y f k own h z = inl (before w.channels x _ (Fsq q _) y f k (Cdn own 0) (λ i. cc) h)
news r w v (did_stop n ks) s y f k own h z = inl (subst (λ (c : Channels). Stands c y f k (Cdn own 0)) (fallen w n s.calls s.meant ks).channels h)
news r w v d s y f k own h z = inl h

over_state : (w : World) → Whole w → (x e k own : ℕ) → Stands w.channels x e k (Cdn own 0) → own ≢ 0 → lives (w.calls.state own) ≡ false
over_state w h x e k own st n = by (h.sound.meant.means x e k (Cdn own 0) st)
  where
    by : Meant w.tunnels w.calls x e (Cdn own 0) → lives (w.calls.state own) ≡ false
    by (inl a) = absurd (n a)
    by (inr a) = no_call (w.calls.state own) (h.sound.calls.over_gone own a.3).0

step_never : (w v : World) → Whole v → PutBefore w v → UpBefore w v → NeverUp w → NeverUp v
step_never w v h put up ok = record { no_header = no_header; over = over_state v h }
  where
    stood : (x e k own : ℕ) → Stands w.channels x e k (Cdn own 0) → own ≢ 0 → (w.calls.up own ≡ true) ⊎ (lives (w.calls.state own) ≡ true) → ⊥
    stood x e k own st n (inl u) = let a = ok.no_header x e k own st n in let b : true ≡ false = sym u ∙ a in cc
    stood x e k own st n (inr l) = let a = ok.over x e k own st n in let b : true ≡ false = sym l ∙ a in cc

    no_header : (x e k own : ℕ) → Stands v.channels x e k (Cdn own 0) → own ≢ 0 → v.calls.up own ≡ false
    no_header x e k own st n = not_up (v.calls.up own) (λ u. ⊎_elim (λ a. stood x e k own a n (up own u)) (λ a. h.sound.calls.up_remote own u a) (put x e k own st n))

pub never_on : (w : World) (m : Move) → Whole w → NeverUp w → NeverUp (step all_rules w m)
never_on w m h ok = let v = step all_rules w m in step_never w v (whole_step all_rules w m record { reads = refl; truly = refl; asks = refl; tells = refl; freezes = refl } h) (news all_rules w v (step_did all_rules w m) h.sound) (ups all_rules w v (step_did all_rules w m)) ok

never_run : (ms : List Move) (w : World) → Whole w → NeverUp w → NeverUp (goes_on all_rules w ms)
unfolding goes_on
never_run [] w h ok = ok
never_run (m ∷ ms) w h ok = never_run ms (step all_rules w m) (whole_step all_rules w m record { reads = refl; truly = refl; asks = refl; tells = refl; freezes = refl } h) (never_on w m h ok)

pub never_after : (ms : List Move) → NeverUp (goes_on all_rules empty_world ms)
unfolding goes_on
never_after ms = never_run ms empty_world (whole_after []) record { no_header = λ x e k own st n. refl; over = λ x e k own st n. refl }
