-- Calls that are made, established or ended by their own end keep what holds of queries.
use Rattle.std.proofs.Common.{◌≡◌, ◌≢◌, ◌⊎◌, inl, inr, ⊎_elim, ℕ, true, false, ◌||◌, length, Option, Some, None, refl, sym, ap, ◌∙◌, subst, arith}
use Rattle.epoch_machine.specs.Names.{assign}
use Rattle.epoch_machine.specs.Letters.{Letter, Hello, Request, Reply, Connect, Cdn}
use Rattle.epoch_machine.specs.Tunnels.{Open, is_active}
use Rattle.epoch_machine.specs.Channels.{Channels, Stands, puts, counts}
use Rattle.epoch_machine.specs.Calls.{Calls, CallState, NoCall, Waits, WaitsReply, WaitsConnect, Up, lives, ends, is_born, is_asked_for, is_first_up, is_second_up, is_call}
use Rattle.epoch_machine.specs.Worlds.{World, Rules, gives, took_one}
use Rattle.epoch_machine.specs.Moves.{adds_call, asks_for, ends_call}
use Rattle.epoch_machine.proofs.Splits.{same_or_not, assigned_now, assigned_else}
use Rattle.epoch_machine.proofs.Tells.{same}
use Rattle.epoch_machine.proofs.Places.{put_here}
use Rattle.epoch_machine.proofs.Did.{Takes}
use Rattle.birth_laws.specs.Births.{NoCallYet}
use Rattle.birth_laws.proofs.Means.{CallsGrow}
use Rattle.birth_laws.proofs.Growths.{idle_grows, took_grows, gave_grows, answered_grows}
use Rattle.birth_laws.proofs.Replies.{FromPartner, partner}
use Rattle.birth_laws.proofs.Steps.{known, live_drawn, lives_here, name_of}
use Rattle.birth_laws.proofs.Runs.{Sound}
use Rattle.coverage_laws.specs.Coverage.{LivedIn, Known, ConnectPut, StatesHold, QueriesHold}
use Rattle.coverage_laws.proofs.Inputs.{WasOpen}
use Rattle.coverage_laws.proofs.Takings.{none_taken, one_taken, longer_put, longer_answered, longer_took, counted_took, counted_answered, put_taken}
use Rattle.coverage_laws.proofs.Present.{OpenBefore, Connected, Ended, same_connected, same_asked}
use Rattle.coverage_laws.proofs.Simple.{puts_quiet, tooks_quiet, finish_same, was_open}
use Rattle.coverage_laws.proofs.Openings.{nameless, simple, simple_ended, same_grows}
use Rattle.coverage_laws.specs.Coverage.{MadeBy}
use Rattle.coverage_laws.proofs.Present.{old_ended}

up_else : (c : Calls) (z v : ℕ) (q : CallState) → (v ≡ z → ⊥) → assign c.state z q v ≡ Up → c.state v ≡ Up
up_else c z v q n h = sym (assigned_else c.state z q v n) ∙ h

module _ (r : Rules) (w : World) (reads : r.reads_epochs ≡ true) (s : Sound w) (st : StatesHold w.tunnels w.calls) (qh : QueriesHold w.tunnels w.channels w.calls) where
  abbrev To : World → Type 0
  To v = QueriesHold v.tunnels v.channels v.calls

  before : (y : ℕ) → w.tunnels.phase y ≡ Open → OpenBefore w.tunnels w.tunnels y
  before y q = inl (was_open w.tunnels w.tunnels y s.epochs q refl)

  pub declines_queries : (x a f k own : ℕ) → Takes r w x a f k (Request own) → w.tunnels.phase x ≡ Open → Sound (gives (took_one w x) x (Cdn 0 own)) → To (gives (took_one w x) x (Cdn 0 own))
  unfolding gives took_one
  declines_queries x a f k own t p sv = simple r w reads s st qh w.tunnels (puts (counts w.channels x e) x e (Cdn 0 own)) x e (Cdn 0 own) (Request own) (same_grows r w reads s st qh) (answered_grows w.channels x e (Cdn 0 own)) (one_taken w.tunnels w.tunnels w.channels (same_grows r w reads s st qh) s.given qh.within _ x e a k (Request own) (counted_answered w.channels x e (Cdn 0 own)) from.linked.back t.next (subst (λ (q : ℕ). Stands w.channels a q k (Request own)) from.epoch t.stands)) (longer_answered w.channels x e (Cdn 0 own)) (nameless _ sv) record { request = λ z j i h g. absurd cc; header = λ o h n. absurd (n (no_own 0 own o 0 h)); after = λ o i h n. absurd (n (no_own 0 own o i h)); denial = λ o i h. absurd cc; answer = λ o i h. absurd cc } (tooks_quiet _ _ _ _ _ _ x e (Cdn 0 own) (Request own) refl) before
    where
      e : ℕ
      e = w.tunnels.entered x

      from : FromPartner w x a f k
      from = partner r w x a f k (Request own) reads s.epochs s.given t p refl

      no_own : (a b c d : ℕ) → Cdn a b ≡ Cdn c d → c ≡ a
      no_own a b c d h = cc

  pub second_queries : (x a f k z : ℕ) → Takes r w x a f k (Connect z) → w.tunnels.phase x ≡ Open → w.calls.state z ≡ WaitsConnect → CallsGrow w.calls (is_second_up w.calls z) → Sound (record w { channels = (took_one w x).channels; calls = is_second_up w.calls z }) → To (record w { channels = (took_one w x).channels; calls = is_second_up w.calls z })
  unfolding took_one is_second_up
  second_queries x a f k z t p waits cg sv = finish_same w.tunnels w.tunnels w.channels g w.calls (is_second_up w.calls z) x e Hello (Connect z) (same_grows r w reads s st qh) cg (known w.tunnels w.calls s.calls) (took_grows w.channels x e Hello) qh (one_taken w.tunnels w.tunnels w.channels (same_grows r w reads s st qh) s.given qh.within _ x e a k (Connect z) (counted_took w.channels x e) from.linked.back t.next (subst (λ (q : ℕ). Stands w.channels a q k (Connect z)) from.epoch t.stands)) (longer_took w.channels x e) (nameless _ sv) (puts_quiet _ _ _ _ _ _ x e Hello (Connect z) refl) record { cdn = λ o i v h n m. absurd cc; denial = λ o v h. absurd cc; connect = λ v h. inl (let same : z ≡ v = cc in subst (λ (i : ℕ). assign w.calls.up z true i ≡ true) same (assigned_now w.calls.up z true)) } (λ y. refl) connected (λ y v q n. same_asked w.tunnels w.tunnels w.calls s.calls st g before y v q n) (λ v q l o. inr (old_ended w.tunnels w.tunnels w.calls s.calls st g before v q l o))
    where
      e : ℕ
      e = w.tunnels.entered x

      g : Channels
      g = counts w.channels x e

      from : FromPartner w x a f k
      from = partner r w x a f k (Connect z) reads s.epochs s.given t p refl

      connected : Connected w.tunnels w.tunnels (counts w.channels x (w.tunnels.entered x)) w.calls (is_second_up w.calls z)
      connected v q up m made = ⊎_elim (λ i. absurd (s.calls.waits_connect z waits (ap w.calls.mate (sym i) ∙ m))) (λ i. same_connected w.tunnels w.tunnels w.calls s.calls st (counts w.channels x (w.tunnels.entered x)) before v q (up_else w.calls z v Up i up) m made) (same_or_not v z)

  pub first_queries : (x a f k own z : ℕ) → Takes r w x a f k (Reply own z) → w.tunnels.phase x ≡ Open → w.calls.tunnel z ≡ x → CallsGrow w.calls (is_first_up w.calls z own) → Sound (gives (record w { channels = (took_one w x).channels; calls = is_first_up w.calls z own }) x (Connect own)) → To (gives (record w { channels = (took_one w x).channels; calls = is_first_up w.calls z own }) x (Connect own))
  unfolding gives took_one is_first_up
  first_queries x a f k own z t p at cg sv = finish_same w.tunnels w.tunnels w.channels (puts (counts w.channels x e) x e (Connect own)) w.calls (is_first_up w.calls z own) x e (Connect own) (Reply own z) (same_grows r w reads s st qh) cg (known w.tunnels w.calls s.calls) (answered_grows w.channels x e (Connect own)) qh (one_taken w.tunnels w.tunnels w.channels (same_grows r w reads s st qh) s.given qh.within _ x e a k (Reply own z) (counted_answered w.channels x e (Connect own)) from.linked.back t.next (subst (λ (q : ℕ). Stands w.channels a q k (Reply own z)) from.epoch t.stands)) (longer_answered w.channels x e (Connect own)) (nameless _ sv) (puts_quiet _ _ _ _ _ _ x e (Connect own) (Reply own z) refl) (tooks_quiet _ _ _ _ _ _ x e (Connect own) (Reply own z) refl) (λ y. refl) connected (λ y v q n. same_asked w.tunnels w.tunnels w.calls s.calls st _ before y v q n) (λ v q l o. inr (old_ended w.tunnels w.tunnels w.calls s.calls st (puts (counts w.channels x e) x e (Connect own)) before v q l o))
    where
      e : ℕ
      e = w.tunnels.entered x

      from : FromPartner w x a f k
      from = partner r w x a f k (Reply own z) reads s.epochs s.given t p refl

      put : ConnectPut (puts (counts w.channels x (w.tunnels.entered x)) x (w.tunnels.entered x) (Connect own)) x (w.tunnels.entered x) own
      put = record { place = length ((counts w.channels x (w.tunnels.entered x)).sent x (w.tunnels.entered x)); stands = put_here (counts w.channels x (w.tunnels.entered x)) x (w.tunnels.entered x) (Connect own) }

      put_of : (v : ℕ) → v ≡ z → ConnectPut (puts (counts w.channels x (w.tunnels.entered x)) x (w.tunnels.entered x) (Connect own)) (w.calls.tunnel v) (w.tunnels.entered (w.calls.tunnel v)) (assign w.calls.remote z own v)
      put_of v i = subst (λ (q : ℕ). ConnectPut (puts (counts w.channels x (w.tunnels.entered x)) x (w.tunnels.entered x) (Connect own)) q (w.tunnels.entered q) (assign w.calls.remote z own v)) (sym (ap w.calls.tunnel i ∙ at)) (subst (λ (q : ℕ). ConnectPut (puts (counts w.channels x (w.tunnels.entered x)) x (w.tunnels.entered x) (Connect own)) x (w.tunnels.entered x) q) (sym (ap (assign w.calls.remote z own) i ∙ assigned_now w.calls.remote z own)) put)

      connected : Connected w.tunnels w.tunnels (puts (counts w.channels x (w.tunnels.entered x)) x (w.tunnels.entered x) (Connect own)) w.calls (is_first_up w.calls z own)
      connected v q up m made = ⊎_elim {C = ConnectPut (puts (counts w.channels x (w.tunnels.entered x)) x (w.tunnels.entered x) (Connect own)) (w.calls.tunnel v) (w.tunnels.entered (w.calls.tunnel v)) (assign w.calls.remote z own v) ⊎ (WasOpen w.tunnels w.tunnels (w.calls.tunnel v) × (w.calls.state v ≡ Up) × (w.calls.mate v ≡ 0) × (w.calls.made v ≡ Some (w.tunnels.entered (w.calls.tunnel v))) × (w.calls.tunnel v ≡ w.calls.tunnel v) × (assign w.calls.remote z own v ≡ w.calls.remote v))}
          (λ i. inl (put_of v i))
          (λ i. inr (was_open w.tunnels w.tunnels (w.calls.tunnel v) s.epochs q refl, up_else w.calls z v Up i up, m, made, refl, assigned_else w.calls.remote z own v i))
          (same_or_not v z)

  pub adds_queries : (x z : ℕ) → w.calls.drawn z ≡ false → CallsGrow w.calls (is_born w.calls x z) → Sound (adds_call w x z) → To (adds_call w x z)
  unfolding adds_call is_born
  adds_queries x z new cg sv = finish_same w.tunnels w.tunnels w.channels w.channels w.calls (is_born w.calls x z) 0 0 Hello Hello (same_grows r w reads s st qh) cg (known w.tunnels w.calls s.calls) (idle_grows w.channels 0 0 Hello) qh (none_taken w.tunnels w.tunnels w.channels (same_grows r w reads s st qh) s.given qh.within w.channels Hello (λ y f. refl)) (λ y f. omega arith) (nameless _ sv) (puts_quiet _ _ _ _ _ _ 0 0 Hello Hello refl) (tooks_quiet _ _ _ _ _ _ 0 0 Hello Hello refl) (λ y. refl) connected (λ y v q n. same_asked w.tunnels w.tunnels w.calls s.calls st w.channels before y v q n) ended
    where
      n : NoCallYet w.calls z
      n = s.calls.nameless z new

      connected : Connected w.tunnels w.tunnels w.channels w.calls (is_born w.calls x z)
      connected v q up m made = ⊎_elim (λ i. absurd (let b = assigned_now w.calls.state z Waits in let c : assign w.calls.state z Waits z ≡ Up = subst (λ (j : ℕ). assign w.calls.state z Waits j ≡ Up) i up in let d : Waits ≡ Up = sym b ∙ c in cc)) (λ i. (let e = assigned_else w.calls.tunnel z x v i in inr (was_open w.tunnels w.tunnels (w.calls.tunnel v) s.epochs (sym (ap w.tunnels.phase e) ∙ q) refl, up_else w.calls z v Waits i up, m, made ∙ ap Some (ap w.tunnels.entered e), e, refl))) (same_or_not v z)

      ended : Ended w.tunnels w.tunnels w.channels w.calls (is_born w.calls x z)
      ended v q l o = ⊎_elim (λ i. absurd (let a : w.calls.over z ≡ true = subst (λ (j : ℕ). w.calls.over j ≡ true) i o in let b = n.over in cc)) (λ i. (let e = assigned_else w.calls.tunnel z x v i in inr (was_open w.tunnels w.tunnels (w.calls.tunnel v) s.epochs (sym (ap w.tunnels.phase e) ∙ q) refl, subst (λ (j : ℕ). LivedIn w.calls j (w.tunnels.entered j) v) e l, o, e))) (same_or_not v z)

  pub asks_queries : (z : ℕ) → w.calls.state z ≡ Waits → CallsGrow w.calls (is_asked_for w.calls z (w.tunnels.entered (w.calls.tunnel z))) → Sound (asks_for w z) → To (asks_for w z)
  unfolding asks_for gives is_asked_for
  asks_queries z waits cg sv = finish_same w.tunnels w.tunnels w.channels (puts w.channels x e (Request z)) w.calls (is_asked_for w.calls z e) x e (Request z) Hello (same_grows r w reads s st qh) cg (known w.tunnels w.calls s.calls) (gave_grows w.channels x e (Request z)) qh (none_taken w.tunnels w.tunnels w.channels (same_grows r w reads s st qh) s.given qh.within _ Hello (put_taken w.channels x e (Request z))) (longer_put w.channels x e (Request z)) (nameless _ sv) record { request = λ y j i h g. request y j i h g; header = λ o h n. absurd cc; after = λ o i h n. absurd cc; denial = λ o i h. absurd cc; answer = λ o i h. absurd cc } (tooks_quiet _ _ _ _ _ _ x e (Request z) Hello refl) (λ y. refl) connected (λ y v q n. same_asked w.tunnels w.tunnels w.calls s.calls st _ before y v q n) ended
    where
      x : ℕ
      x = w.calls.tunnel z

      e : ℕ
      e = w.tunnels.entered x

      not_over : w.calls.over z ≡ true → ⊥
      not_over h = let a : NoCall ≡ Waits = sym (s.calls.over_gone z h).0 ∙ waits in cc

      name : z ≢ 0
      name q = let a : NoCall ≡ Waits = sym (s.calls.nameless 0 s.calls.zero).state ∙ ap w.calls.state (sym q) ∙ waits in cc

      request : (y j i : ℕ) → Request z ≡ Request y → Stands w.channels x e j (Cdn y i) → ⊥
      request y j i h g = let same : z ≡ y = cc in ⊎_elim (λ q. name (same ∙ q)) (λ q. not_over (subst (λ (v : ℕ). w.calls.over v ≡ true) (sym same) q.3)) (s.meant.means x e j (Cdn y i) g)

      connected : Connected w.tunnels w.tunnels (puts w.channels (w.calls.tunnel z) (w.tunnels.entered (w.calls.tunnel z)) (Request z)) w.calls (is_asked_for w.calls z (w.tunnels.entered (w.calls.tunnel z)))
      connected v q up m made = ⊎_elim (λ i. absurd (let b = assigned_now w.calls.state z WaitsReply in let c : assign w.calls.state z WaitsReply z ≡ Up = subst (λ (j : ℕ). assign w.calls.state z WaitsReply j ≡ Up) i up in let d : WaitsReply ≡ Up = sym b ∙ c in cc)) (λ i. inr (was_open w.tunnels w.tunnels (w.calls.tunnel v) s.epochs q refl, up_else w.calls z v WaitsReply i up, m, sym (assigned_else w.calls.made z (Some (w.tunnels.entered (w.calls.tunnel z))) v i) ∙ made, refl, refl)) (same_or_not v z)

      ended : Ended w.tunnels w.tunnels (puts w.channels (w.calls.tunnel z) (w.tunnels.entered (w.calls.tunnel z)) (Request z)) w.calls (is_asked_for w.calls z (w.tunnels.entered (w.calls.tunnel z)))
      ended v q l o = ⊎_elim (λ i. absurd (not_over (subst (λ (j : ℕ). w.calls.over j ≡ true) i o))) (λ i. inr (was_open w.tunnels w.tunnels (w.calls.tunnel v) s.epochs q refl, ⊎_elim (λ j. inl j) (λ j. inr (sym (assigned_else w.calls.made z (Some (w.tunnels.entered (w.calls.tunnel z))) v i) ∙ j)) l, o, refl)) (same_or_not v z)

  -- a call that is told to end
  module _ (z : ℕ) (p : w.tunnels.phase (w.calls.tunnel z) ≡ Open) (alive : lives (w.calls.state z) ≡ true) (asked : w.calls.state z ≡ Waits → ⊥) where
    abbrev x : ℕ
    x = w.calls.tunnel z

    abbrev e : ℕ
    e = w.tunnels.entered x

    abbrev l : Letter
    l = Cdn z (w.calls.remote z)

    made : MadeBy w.calls z e
    made = by (w.calls.made z) refl
      where
        some : (m : ℕ) → w.calls.made z ≡ Some m → MadeBy w.calls z e
        some m q = record { epoch = m; made = q; before = st.made_entered z m q }

        none : (q : CallState) → w.calls.state z ≡ q → lives q ≡ true → w.calls.made z ≢ None
        none NoCall a b = absurd cc
        none Waits a b = absurd (asked a)
        none WaitsReply a b = (s.calls.waits_reply z a).2
        none WaitsConnect a b = (s.calls.mate_made z (s.calls.waits_connect z a)).1
        none Up a b = s.calls.up_made z (s.calls.booked_up z (s.calls.up_booked z a))

        by : (o : Option ℕ) → w.calls.made z ≡ o → MadeBy w.calls z e
        by None q = absurd (none (w.calls.state z) refl alive q)
        by (Some m) q = some m q

    drawn : w.calls.drawn z ≡ true
    drawn = live_drawn w.tunnels w.calls z s.calls (lives_here (w.calls.state z) (w.calls.state z) refl alive)

    name : z ≢ 0
    name = name_of w.tunnels w.calls z s.calls drawn

    no_remote : w.calls.remote z ≡ 0 → w.calls.mate z ≡ 0
    no_remote q = zero_or (w.calls.mate z) (λ m. m (sym (s.calls.mate_remote z m) ∙ q))
      where
        zero_or : (k : ℕ) → (k ≢ 0 → ⊥) → k ≡ 0
        zero_or k h = grind (arith, h)

    pub told_queries : CallsGrow w.calls (ends w.calls (is_call z)) → ((f j : ℕ) (m : Letter) → Stands (puts w.channels x e l) 0 f j m → ⊥) → QueriesHold w.tunnels (puts w.channels x e l) (ends w.calls (is_call z))
    unfolding ends
    told_queries cg zero_gives = simple_ended r w reads s st qh w.tunnels (puts w.channels x e l) x e l Hello (same_grows r w reads s st qh) (gave_grows w.channels x e l) (none_taken w.tunnels w.tunnels w.channels (same_grows r w reads s st qh) s.given qh.within _ Hello (put_taken w.channels x e l)) (longer_put w.channels x e l) zero_gives (is_call z) cg
        record { request = λ y j i h g. absurd cc; header = λ o h n. (let a : z ≡ o = cc in let b : w.calls.remote z ≡ 0 = cc in subst (λ (v : ℕ). (w.calls.drawn v ≡ true) × (w.calls.mate v ≡ 0)) a (drawn, no_remote b)); after = λ o i h n. (let a : z ≡ o = cc in subst (λ (v : ℕ). MadeBy (ends w.calls (is_call z)) v e) a record { epoch = made.epoch; made = made.made; before = made.before }); denial = λ o i h. absurd cc; answer = λ o i h. absurd cc }
        (tooks_quiet _ _ _ _ _ _ x e l Hello refl) before told_end
      where
        told_end : (v : ℕ) → is_call z v ≡ true → (lives (w.calls.state v) || w.calls.booked v) ≡ true → w.tunnels.phase (w.calls.tunnel v) ≡ Open → LivedIn w.calls (w.calls.tunnel v) (w.tunnels.entered (w.calls.tunnel v)) v → Known w.tunnels (puts w.channels x e l) (ends w.calls (is_call z)) (w.calls.tunnel v) (w.tunnels.entered (w.calls.tunnel v)) v
        told_end v q a i j = let same_call : v ≡ z = same v z q in rw same_call (inl record { place = length (w.channels.sent x e); header = w.calls.remote z; stands = put_here w.channels x e l })

  pub silent_queries : (z : ℕ) → ((is_active (w.tunnels.phase (w.calls.tunnel z)) ≡ false) ⊎ (w.calls.state z ≡ Waits)) → CallsGrow w.calls (ends w.calls (is_call z)) → Sound (ends_call w z) → To (ends_call w z)
  unfolding ends_call
  silent_queries z why cg sv = simple_ended r w reads s st qh w.tunnels w.channels 0 0 Hello Hello (same_grows r w reads s st qh) (idle_grows w.channels 0 0 Hello) (none_taken w.tunnels w.tunnels w.channels (same_grows r w reads s st qh) s.given qh.within w.channels Hello (λ y f. refl)) (λ y f. omega arith) (nameless _ sv) (is_call z) cg (puts_quiet _ _ _ _ _ _ 0 0 Hello Hello refl) (tooks_quiet _ _ _ _ _ _ 0 0 Hello Hello refl) before (λ v q a p l. absurd (let same_call : v ≡ z = same v z q in not_lived (subst (λ (i : ℕ). w.tunnels.phase (w.calls.tunnel i) ≡ Open) same_call p) (subst (λ (i : ℕ). LivedIn w.calls (w.calls.tunnel i) (w.tunnels.entered (w.calls.tunnel i)) i) same_call l) why))
    where
      unmade : w.calls.state z ≡ Waits → (x e : ℕ) → LivedIn w.calls x e z → ⊥
      unmade h x e (inl n) = (s.calls.held_call x e z n).3 (s.calls.waits z h).0
      unmade h x e (inr m) = let a : None ≡ Some e = sym (s.calls.waits z h).0 ∙ m in cc

      not_lived : w.tunnels.phase (w.calls.tunnel z) ≡ Open → LivedIn w.calls (w.calls.tunnel z) (w.tunnels.entered (w.calls.tunnel z)) z → (is_active (w.tunnels.phase (w.calls.tunnel z)) ≡ false) ⊎ (w.calls.state z ≡ Waits) → ⊥
      not_lived p l (inl h) = let a : is_active Open ≡ false = ap is_active (sym p) ∙ h in cc
      not_lived p l (inr h) = unmade h (w.calls.tunnel z) (w.tunnels.entered (w.calls.tunnel z)) l
