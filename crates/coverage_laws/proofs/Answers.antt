-- Queries and their answers keep what holds of queries.
use Rattle.std.proofs.Common.{◌≡◌, ◌≢◌, ◌⊎◌, inl, inr, ⊎_elim, ℕ, ◌<◌, ◌≤◌, Bool, true, false, cond, eqb, not, ◌&&◌, ◌||◌, Some, None, refl, sym, ap, ◌∙◌, subst, arith}
use Rattle.epoch_machine.specs.Names.{assign}
use Rattle.epoch_machine.specs.Letters.{Letter, Hello, Fsq, Fsr}
use Rattle.epoch_machine.specs.Tunnels.{Tunnels, Gone, Open}
use Rattle.epoch_machine.specs.Channels.{Channels, Stands, puts, counts}
use Rattle.epoch_machine.specs.Calls.{Calls, CallState, NoCall, Waits, WaitsReply, WaitsConnect, Up, lives, is_up, ends, is_told, is_call, stands_with}
use Rattle.epoch_machine.specs.Worlds.{World, Rules, gives, took_one, answers_query, takes_answer}
use Rattle.epoch_machine.specs.Moves.{queries}
use Rattle.epoch_machine.proofs.Splits.{same_or_not, at_name, assigned_else}
use Rattle.epoch_machine.proofs.Tells.{both, same, same_test, turned, up_state}
use Rattle.epoch_machine.proofs.Did.{Takes}
use Rattle.birth_laws.specs.Births.{CallsHold}
use Rattle.birth_laws.proofs.Growths.{took_grows, gave_grows, answered_grows}
use Rattle.birth_laws.proofs.Replies.{FromPartner, partner}
use Rattle.birth_laws.proofs.Steps.{known}
use Rattle.birth_laws.proofs.Runs.{Sound}
use Rattle.coverage_laws.specs.Coverage.{LivedIn, Mates, DeniedOf, Known, AnswerTaken, StatesHold, QueriesHold, is_young}
use Rattle.coverage_laws.proofs.Inputs.{WasOpen}
use Rattle.coverage_laws.proofs.Takings.{Takings, none_taken, one_taken, longer_put, longer_answered, longer_took, counted_took, counted_answered, put_taken}
use Rattle.coverage_laws.proofs.Present.{OpenBefore, Asked, same_connected, same_ended, ends_connected, ends_ended}
use Rattle.coverage_laws.proofs.Simple.{puts_quiet, tooks_quiet, finish_same, was_open}
use Rattle.birth_laws.proofs.Growing.{is_told_grow, ends_grow}
use Rattle.birth_laws.proofs.Means.{trans_grow}
use Rattle.birth_laws.proofs.Establishings.{is_told_ok}
use Rattle.coverage_laws.proofs.Openings.{nameless, simple, same_grows}
use Rattle.coverage_laws.proofs.Calls.{is_told_ok as told_states}
use Rattle.coverage_laws.proofs.Ends.{drawn_mate, ended_over}

-- two calls that are mates know each other's names alone
pub one_name : (t : Tunnels) (c : Calls) (y z : ℕ) → CallsHold t c → Mates c y z → c.remote z ≢ 0 → c.remote z ≡ y
one_name t c y z ch (inl m) n = ⊎_elim (λ a. absurd (n (sym a ∙ ap c.mate (sym m.0) ∙ ch.mate_asks y (λ v. m.1 (sym m.0 ∙ v))))) (λ a. ch.mate_once (c.remote z) y (λ v. m.1 (sym a ∙ v)) (a ∙ sym m.0)) (ch.remote_mates z n)
one_name t c y z ch (inr m) n = ch.mate_remote z (λ v. m.1 (sym m.0 ∙ v)) ∙ m.0

told_held : (c : Calls) (x z i j v : ℕ) → (is_told c x z).held i j v ≡ c.held i j v
unfolding is_told
told_held c x z i j v = refl

module _ (r : Rules) (w : World) (reads : r.reads_epochs ≡ true) (s : Sound w) (st : StatesHold w.tunnels w.calls) (qh : QueriesHold w.tunnels w.channels w.calls) where
  abbrev To : World → Type 0
  To v = QueriesHold v.tunnels v.channels v.calls

  -- of an open tunnel: a call whose mate was held at the other end's reset into this epoch isn't young, so it's established or over
  held_mate : (x a e own z : ℕ) → w.tunnels.phase x ≡ Open → e ≡ w.tunnels.entered x → w.calls.tunnel z ≡ x → w.calls.held a e own ≢ 0 → Mates w.calls own z → w.calls.drawn z ≡ true → (w.calls.state z ≡ Up → ⊥) → w.calls.over z ≡ true
  held_mate x a e own z p here at held m d not_up = by (w.calls.state z) refl
    where
      open_z : w.tunnels.phase (w.calls.tunnel z) ≡ Open
      open_z = ap w.tunnels.phase at ∙ p

      made_same : w.calls.made own ≡ w.calls.made z
      made_same = ⊎_elim (λ q. (s.calls.mate_made own (λ v. q.1 (sym q.0 ∙ v))).0 ∙ ap w.calls.made q.0) (λ q. sym ((s.calls.mate_made z (λ v. q.1 (sym q.0 ∙ v))).0 ∙ ap w.calls.made q.0)) m

      old : is_young (w.calls.state z) ≡ true → ⊥
      old y = let b : w.calls.made own ≡ Some e = made_same ∙ st.young z open_z y ∙ ap Some (ap w.tunnels.entered at ∙ sym here) in let c = st.held_older a e own e held b in omega arith

      none : w.calls.state z ≡ NoCall → (b : Bool) → w.calls.booked z ≡ b → w.calls.over z ≡ true
      none q false b = s.calls.gone_over z d q b
      none q true b = absurd (not_up (st.booked_lives z b (λ g. (let v : Open ≡ Gone = sym open_z ∙ g in cc))))

      by : (q : CallState) → w.calls.state z ≡ q → w.calls.over z ≡ true
      by NoCall q = none q (w.calls.booked z) refl
      by Waits q = absurd ((s.calls.held_call a e own held).3 (made_same ∙ (s.calls.waits z q).0))
      by WaitsReply q = absurd (old (ap is_young q))
      by WaitsConnect q = absurd (old (ap is_young q))
      by Up q = absurd (not_up q)

  stands_if : (x z own : ℕ) → w.calls.tunnel z ≡ x → w.calls.remote z ≡ own → w.calls.state z ≡ Up → stands_with w.calls x z own ≡ true
  stands_if x z own a b c = rw (same_test (w.calls.tunnel z) x a, c, same_test (w.calls.remote z) own b) refl

  pub answers_queries : (x a f k own y : ℕ) → r.answers_truly ≡ true → Takes r w x a f k (Fsq own y) → w.tunnels.phase x ≡ Open → Sound (answers_query r (took_one w x) x own y) → To (answers_query r (took_one w x) x own y)
  unfolding answers_query gives took_one
  answers_queries x a f k own y rule t p sv = simple r w reads s st qh w.tunnels (puts (counts w.channels x e) x e (Fsr y own b)) x e (Fsr y own b) (Fsq own y) (same_grows r w reads s st qh) (answered_grows w.channels x e (Fsr y own b)) (one_taken w.tunnels w.tunnels w.channels (same_grows r w reads s st qh) s.given qh.within _ x e a k (Fsq own y) (counted_answered w.channels x e (Fsr y own b)) from.linked.back t.next (subst (λ (q : ℕ). Stands w.channels a q k (Fsq own y)) from.epoch t.stands)) (longer_answered w.channels x e (Fsr y own b)) (nameless _ sv) record { request = λ z j i h g. absurd cc; header = λ o h n. absurd cc; after = λ o i h n. absurd cc; denial = denial; answer = answer } (tooks_quiet _ _ _ _ _ _ x e (Fsr y own b) (Fsq own y) refl) (λ v q. inl (was_open w.tunnels w.tunnels v s.epochs q refl))
    where
      e : ℕ
      e = w.tunnels.entered x

      b : Bool
      b = cond r.answers_truly (stands_with w.calls x y own) true

      truly : b ≡ stands_with w.calls x y own
      truly = rw rule refl

      from : FromPartner w x a f k
      from = partner r w x a f k (Fsq own y) reads s.epochs s.given t p refl

      m : (y ≢ 0) × (w.calls.held a f own ≡ y)
      m = s.meant.means a f k (Fsq own y) t.stands

      held : w.calls.held a f own ≢ 0
      held h = m.0 (sym m.1 ∙ h)

      h : (w.calls.tunnel own ≡ a) × (w.calls.held a f own ≡ w.calls.remote own) × (f ≤ w.tunnels.entered a) × (w.calls.made own ≢ None)
      h = s.calls.held_call a f own held

      remote : w.calls.remote own ≡ y
      remote = sym h.1 ∙ m.1

      own_name : own ≢ 0
      own_name q = let z = (s.calls.nameless 0 s.calls.zero).remote in m.0 (sym remote ∙ ap w.calls.remote q ∙ z)

      mates : Mates w.calls own y
      mates = ⊎_elim (λ q. inl (q ∙ remote, m.0)) (λ q. inr (ap w.calls.mate (sym remote) ∙ q, own_name)) (s.calls.remote_mates own (λ q. m.0 (sym remote ∙ q)))

      drawn : w.calls.drawn y ≡ true
      drawn = ⊎_elim (λ q. subst (λ (v : ℕ). w.calls.drawn v ≡ true) q.0 (s.calls.mate_drawn own (λ v. q.1 (sym q.0 ∙ v)))) (λ q. drawn_mate w.tunnels w.calls y s.calls (λ v. q.1 (sym q.0 ∙ v))) mates

      at : w.calls.tunnel y ≡ x
      at = ⊎_elim (λ q. (let l = s.calls.mate_linked own (λ v. q.1 (sym q.0 ∙ v)) in sym (ap w.calls.tunnel q.0) ∙ sym (sym (ap w.tunnels.learned h.0) ∙ l.back) ∙ from.linked.forth)) (λ q. (let l = s.calls.mate_linked y (λ v. q.1 (sym q.0 ∙ v)) in sym (sym (ap w.tunnels.learned (ap w.calls.tunnel q.0 ∙ h.0)) ∙ l.forth) ∙ from.linked.forth)) mates

      denial : (o i : ℕ) → Fsr y own b ≡ Fsr o i false → w.calls.over o ≡ true
      denial o i q =
          let same : y ≡ o = cc in
          let no : b ≡ false = cc in
          subst (λ (v : ℕ). w.calls.over v ≡ true) same (held_mate x a f own y p from.epoch at held mates drawn (λ up. (let yes = stands_if x y own at (one_name w.tunnels w.calls own y s.calls mates (s.calls.up_remote y (s.calls.booked_up y (s.calls.up_booked y up)))) up in let v : true ≡ false = sym yes ∙ sym truly ∙ no in cc)))

      answer : (o i : ℕ) → Fsr y own b ≡ Fsr o i true → LivedIn w.calls x e o
      answer o i q =
          let same : y ≡ o = cc in
          let yes : b ≡ true = cc in
          let v = both (eqb (w.calls.tunnel y) x) (is_up (w.calls.state y) && eqb (w.calls.remote y) own) (sym truly ∙ yes) in
          let up = up_state (w.calls.state y) (both (is_up (w.calls.state y)) (eqb (w.calls.remote y) own) v.1).0 in
          subst (λ (j : ℕ). LivedIn w.calls x e j) same (subst (λ (j : ℕ). LivedIn w.calls j (w.tunnels.entered j) y) at (st.up_lived y (ap w.tunnels.phase at ∙ p) up))

  pub query_queries : (x z : ℕ) → Sound (queries w x z) → To (queries w x z)
  unfolding queries gives
  query_queries x z sv = simple r w reads s st qh w.tunnels (puts w.channels x e l) x e l Hello (same_grows r w reads s st qh) (gave_grows w.channels x e l) (none_taken w.tunnels w.tunnels w.channels (same_grows r w reads s st qh) s.given qh.within _ Hello (put_taken w.channels x e l)) (longer_put w.channels x e l) (nameless _ sv) (puts_quiet _ _ _ _ _ _ x e l Hello refl) (tooks_quiet _ _ _ _ _ _ x e l Hello refl) (λ y p. inl (was_open w.tunnels w.tunnels y s.epochs p refl))
    where
      e : ℕ
      e = w.tunnels.entered x

      l : Letter
      l = Fsq z (w.calls.held x e z)

  -- an answer that is taken
  module _ (x a f k own z : ℕ) (here : Bool) (t : Takes r w x a f k (Fsr own z here)) (p : w.tunnels.phase x ≡ Open) where
    abbrev e : ℕ
    e = w.tunnels.entered x

    from : FromPartner w x a f k
    from = partner r w x a f k (Fsr own z here) reads s.epochs s.given t p refl

    there : Stands w.channels a e k (Fsr own z here)
    there = subst (λ (q : ℕ). Stands w.channels a q k (Fsr own z here)) from.epoch t.stands

    m : (own ≢ 0) × (w.tunnels.learned a ≢ 0) × (w.calls.held (w.tunnels.learned a) e z ≡ own)
    m = s.meant.means a e k (Fsr own z here) there

    held_own : w.calls.held x e z ≡ own
    held_own = ap (λ (q : ℕ). w.calls.held q e z) (sym from.linked.forth) ∙ m.2

    held : w.calls.held x e z ≢ 0
    held h = m.0 (sym held_own ∙ h)

    h : (w.calls.tunnel z ≡ x) × (w.calls.held x e z ≡ w.calls.remote z) × (e ≤ w.tunnels.entered x) × (w.calls.made z ≢ None)
    h = s.calls.held_call x e z held

    drawn : w.calls.drawn z ≡ true
    drawn = by (w.calls.drawn z) refl
      where
        by : (b : Bool) → w.calls.drawn z ≡ b → w.calls.drawn z ≡ true
        by true q = q
        by false q = absurd (h.3 (s.calls.nameless z q).made)

    -- a pair that is held, and isn't established, is over
    over_if : (w.calls.state z ≡ Up → ⊥) → w.calls.over z ≡ true
    over_if not_up = by (w.calls.state z) refl
      where
        open_z : w.tunnels.phase (w.calls.tunnel z) ≡ Open
        open_z = ap w.tunnels.phase h.0 ∙ p

        old : is_young (w.calls.state z) ≡ true → ⊥
        old y = let b : w.calls.made z ≡ Some e = st.young z open_z y ∙ ap Some (ap w.tunnels.entered h.0) in let c = st.held_older x e z e held b in omega arith

        none : w.calls.state z ≡ NoCall → (b : Bool) → w.calls.booked z ≡ b → w.calls.over z ≡ true
        none q false b = s.calls.gone_over z drawn q b
        none q true b = absurd (not_up (st.booked_lives z b (λ g. (let v : Open ≡ Gone = sym open_z ∙ g in cc))))

        by : (q : CallState) → w.calls.state z ≡ q → w.calls.over z ≡ true
        by NoCall q = none q (w.calls.booked z) refl
        by Waits q = absurd (h.3 (s.calls.waits z q).0)
        by WaitsReply q = absurd (old (ap is_young q))
        by WaitsConnect q = absurd (old (ap is_young q))
        by Up q = absurd (not_up q)

    abbrev g : Channels
    g = counts w.channels x e

    told_asks : (y v : ℕ) → ((y ≡ x) × (v ≡ z)) ⊎ (w.calls.asks y v ≡ true → (is_told w.calls x z).asks y v ≡ true)
    unfolding is_told
    told_asks y v = ⊎_elim {C = ((y ≡ x) × (v ≡ z)) ⊎ (w.calls.asks y v ≡ true → (is_told w.calls x z).asks y v ≡ true)} (λ a. ⊎_elim (λ b. inl (a, b)) (λ b. inr (λ q. rw a (at_name w.calls.asks x (assign (w.calls.asks x) z false) x (λ (i : ℕ → Bool). i v ≡ true) (λ same. assigned_else (w.calls.asks x) z false v b ∙ subst (λ (i : ℕ). w.calls.asks i v ≡ true) a q) (λ other. absurd (other refl))))) (same_or_not v z)) (λ a. inr (λ q. ap (λ (i : ℕ → Bool). i v) (assigned_else w.calls.asks x (assign (w.calls.asks x) z false) y a) ∙ q)) (same_or_not y x)

    answered : (c : Calls) → ((i j v : ℕ) → c.held i j v ≡ w.calls.held i j v) → (y v : ℕ) → y ≡ x → v ≡ z → AnswerTaken w.tunnels g y (w.tunnels.entered y) (c.held y (w.tunnels.entered y) v) v
    answered c same_held y v a b = rw (a, b, same_held x e z, held_own) record { place = k; here = here; stands = ((took_grows w.channels x e Hello).later sender e k (Fsr own z here) (subst (λ (i : ℕ). Stands w.channels i e k (Fsr own z here)) (sym from.linked.back) there)); taken = below }
      where
        sender : ℕ
        sender = w.tunnels.learned x

        below : k < g.taken x e
        below = let c = (counted_took w.channels x e).one_more in let i = t.next in omega (arith, c, i)

    tk : Takings w.tunnels w.tunnels w.channels g (Fsr own z here)
    tk = one_taken w.tunnels w.tunnels w.channels (same_grows r w reads s st qh) s.given qh.within g x e a k (Fsr own z here) (counted_took w.channels x e) from.linked.back t.next there

    before : (y : ℕ) → w.tunnels.phase y ≡ Open → OpenBefore w.tunnels w.tunnels y
    before y q = inl (was_open w.tunnels w.tunnels y s.epochs q refl)

    told_asked : Asked w.tunnels w.tunnels g w.calls (is_told w.calls x z)
    told_asked y v q n = ⊎_elim {C = ((is_told w.calls x z).asks y v ≡ true) ⊎ (AnswerTaken w.tunnels g y (w.tunnels.entered y) ((is_told w.calls x z).held y (w.tunnels.entered y) v) v ⊎ (WasOpen w.tunnels w.tunnels y × (w.calls.held y (w.tunnels.entered y) v ≢ 0) × (w.calls.asks y v ≡ true → (is_told w.calls x z).asks y v ≡ true)))} (λ i. inr (inl (answered (is_told w.calls x z) (told_held w.calls x z) y v i.0 i.1))) (λ i. inr (inr (was_open w.tunnels w.tunnels y s.epochs q refl, (λ j. n (told_held w.calls x z y (w.tunnels.entered y) v ∙ j)), i))) (told_asks y v)

    told_here : (not here && stands_with w.calls x z own) ≡ false → (zero_gives : (i j : ℕ) (l : Letter) → Stands g 0 i j l → ⊥) → QueriesHold w.tunnels g (is_told w.calls x z)
    unfolding is_told
    told_here unmet zero_gives = finish_same w.tunnels w.tunnels w.channels g w.calls (is_told w.calls x z) x e Hello (Fsr own z here) (same_grows r w reads s st qh) (is_told_grow w.tunnels w.calls x z s.calls) (known w.tunnels w.calls s.calls) (took_grows w.channels x e Hello) qh tk (longer_took w.channels x e) zero_gives (puts_quiet _ _ _ _ _ _ x e Hello (Fsr own z here) refl) record { cdn = λ o i v q n j. absurd cc; denial = λ o v q. denied o v q; connect = λ v q. absurd cc } (λ y. refl) (same_connected w.tunnels w.tunnels w.calls s.calls st g before) told_asked (same_ended w.tunnels w.tunnels (is_told w.calls x z) (is_told_ok w.tunnels w.calls x z s.calls) (told_states w.tunnels w.calls x z st) g before)
      where
        denied : (o v : ℕ) → Fsr own z here ≡ Fsr o v false → w.calls.over v ≡ true
        denied o v q =
            let same : z ≡ v = cc in
            let is : here ≡ false = cc in
            subst (λ (i : ℕ). w.calls.over i ≡ true) same (over_if (λ up. (let yes = stands_if x z own h.0 (sym h.1 ∙ held_own) up in let b : (not here && stands_with w.calls x z own) ≡ true = rw (is, yes) refl in let i : true ≡ false = sym b ∙ unmet in cc)))

    ended_here : here ≡ false → (zero_gives : (i j : ℕ) (l : Letter) → Stands g 0 i j l → ⊥) → QueriesHold w.tunnels g (ends (is_told w.calls x z) (is_call z))
    unfolding is_told ends
    ended_here is zero_gives = finish_same w.tunnels w.tunnels w.channels g w.calls d x e Hello (Fsr own z here) (same_grows r w reads s st qh) (trans_grow w.calls (is_told w.calls x z) d (is_told_grow w.tunnels w.calls x z s.calls) (ends_grow w.tunnels (is_told w.calls x z) (is_call z) (is_told_ok w.tunnels w.calls x z s.calls))) (known w.tunnels w.calls s.calls) (took_grows w.channels x e Hello) qh tk (longer_took w.channels x e) zero_gives (puts_quiet _ _ _ _ _ _ x e Hello (Fsr own z here) refl) record { cdn = λ o i v q n j. absurd cc; denial = λ o v q. denied o v q; connect = λ v q. absurd cc } (λ y. refl) (ends_connected w.tunnels w.tunnels w.calls s.calls st g before (is_call z)) told_asked (ends_ended w.tunnels w.tunnels (is_told w.calls x z) (is_told_ok w.tunnels w.calls x z s.calls) (told_states w.tunnels w.calls x z st) g before (is_call z) told_end)
      where
        d : Calls
        d = ends (is_told w.calls x z) (is_call z)

        denied : (o v : ℕ) → Fsr own z here ≡ Fsr o v false → (ends w.calls (is_call z)).over v ≡ true
        denied o v q = let same : z ≡ v = cc in subst (λ (i : ℕ). (ends w.calls (is_call z)).over i ≡ true) same (ended_over w.tunnels w.calls (is_call z) z s.calls drawn (same_test z z refl))

        told_end : (v : ℕ) → is_call z v ≡ true → (lives (w.calls.state v) || w.calls.booked v) ≡ true → w.tunnels.phase (w.calls.tunnel v) ≡ Open → LivedIn w.calls (w.calls.tunnel v) (w.tunnels.entered (w.calls.tunnel v)) v → Known w.tunnels g (ends (is_told w.calls x z) (is_call z)) (w.calls.tunnel v) (w.tunnels.entered (w.calls.tunnel v)) v
        told_end v q alive i l = let same_call : v ≡ z = same v z q in rw (same_call, h.0) (inr (inr denial_here))
          where
            denial_here : DeniedOf w.tunnels g x e z
            denial_here = record { place = k; own = own; stands = subst (λ (b : Bool). Stands g (w.tunnels.learned x) e k (Fsr own z b)) is ((took_grows w.channels x e Hello).later (w.tunnels.learned x) e k (Fsr own z here) (subst (λ (i : ℕ). Stands w.channels i e k (Fsr own z here)) (sym from.linked.back) there)); taken = (let c = (counted_took w.channels x e).one_more in let i = t.next in omega (arith, c, i)) }

    pub learns_queries : Sound (takes_answer (took_one w x) x own z here) → To (takes_answer (took_one w x) x own z here)
    unfolding takes_answer took_one
    learns_queries sv = by (not here && stands_with w.calls x z own) refl sv
      where
        by : (b : Bool) → (not here && stands_with w.calls x z own) ≡ b → Sound (cond b (record { tunnels = w.tunnels; channels = g; calls = ends (is_told w.calls x z) (is_call z) }) (record { tunnels = w.tunnels; channels = g; calls = is_told w.calls x z })) → To (cond b (record { tunnels = w.tunnels; channels = g; calls = ends (is_told w.calls x z) (is_call z) }) (record { tunnels = w.tunnels; channels = g; calls = is_told w.calls x z }))
        by true q sound = ended_here (turned here (both (not here) (stands_with w.calls x z own) q).0) (nameless _ sound)
        by false q sound = told_here q (nameless _ sound)
