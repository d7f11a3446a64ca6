-- Letters that end calls, or leave them, keep what holds of queries.
use Rattle.std.proofs.Common.{◌≡◌, ◌≢◌, ◌⊎◌, inl, inr, ⊎_elim, ℕ, ◌<◌, Bool, true, false, cond, eqb, ◌&&◌, ◌||◌, refl, sym, ap, ◌∙◌, subst, arith}
use Rattle.std.proofs.lemmas.Bool.Decides.{nat_tests}
use Rattle.epoch_machine.specs.Letters.{Letter, Hello, Connect, Cdn}
use Rattle.epoch_machine.specs.Tunnels.{Tunnels, Open, is_open}
use Rattle.epoch_machine.specs.Channels.{Stands, counts}
use Rattle.epoch_machine.specs.Calls.{Calls, CallState, NoCall, Waits, WaitsReply, WaitsConnect, Up, lives, waits_connect, ends, is_named}
use Rattle.epoch_machine.specs.Worlds.{World, Rules, took_one, takes_cdn}
use Rattle.epoch_machine.proofs.Splits.{same_or_not}
use Rattle.epoch_machine.proofs.Tells.{same_test}
use Rattle.epoch_machine.proofs.Did.{Takes, Ignores}
use Rattle.letter_laws.proofs.Steps.{not_ignored}
use Rattle.birth_laws.specs.Births.{CallsHold}
use Rattle.birth_laws.proofs.Means.{CallsGrow}
use Rattle.birth_laws.proofs.Growths.{took_grows}
use Rattle.birth_laws.proofs.Replies.{FromPartner, partner}
use Rattle.birth_laws.proofs.Runs.{Sound}
use Rattle.coverage_laws.specs.Coverage.{LivedIn, Mates, Names, Known, StatesHold, QueriesHold}
use Rattle.coverage_laws.proofs.Takings.{one_taken, longer_took, counted_took}
use Rattle.coverage_laws.proofs.Simple.{puts_quiet, was_open}
use Rattle.coverage_laws.proofs.Openings.{nameless, simple, simple_ended, same_grows, ended_mate}

-- a call of a linked tunnel that has a mate, and isn't waiting to be connected, was established or is over
settled : (t : Tunnels) (c : Calls) (z : ℕ) → CallsHold t c → c.drawn z ≡ true → c.mate z ≢ 0 → (c.state z ≡ WaitsConnect → ⊥) → (c.up z ≡ true) ⊎ (c.over z ≡ true)
settled t c z ch d m n = by (c.state z) refl
  where
    up_if : c.booked z ≡ true → (c.up z ≡ true) ⊎ (c.over z ≡ true)
    up_if b = inl (ch.booked_up z b)

    none : c.state z ≡ NoCall → (b : Bool) → c.booked z ≡ b → (c.up z ≡ true) ⊎ (c.over z ≡ true)
    none s true b = up_if b
    none s false b = inr (ch.gone_over z d s b)

    by : (s : CallState) → c.state z ≡ s → (c.up z ≡ true) ⊎ (c.over z ≡ true)
    by NoCall s = none s (c.booked z) refl
    by Waits s = absurd (m (ch.waits z s).2)
    by WaitsReply s = absurd (m (ch.waits_reply z s).1)
    by WaitsConnect s = absurd (n s)
    by Up s = up_if (ch.up_booked z s)

-- a call that doesn't live, and isn't in the book, is over
gone_if : (t : Tunnels) (c : Calls) (z : ℕ) → CallsHold t c → c.drawn z ≡ true → (lives (c.state z) || c.booked z) ≡ false → c.over z ≡ true
gone_if t c z ch d h = by (c.state z) refl (c.booked z) refl h
  where
    by : (s : CallState) → c.state z ≡ s → (b : Bool) → c.booked z ≡ b → (lives s || b) ≡ false → c.over z ≡ true
    by NoCall s false b h = ch.gone_over z d s b
    by NoCall s true b h = absurd cc
    by Waits s b e h = absurd cc
    by WaitsReply s b e h = absurd cc
    by WaitsConnect s b e h = absurd cc
    by Up s b e h = absurd cc

pub ended_over : (t : Tunnels) (c : Calls) (kind : ℕ → Bool) (z : ℕ) → CallsHold t c → c.drawn z ≡ true → kind z ≡ true → (ends c kind).over z ≡ true
unfolding ends
ended_over t c kind z ch d k = by (lives (c.state z) || c.booked z) refl
  where
    by : (b : Bool) → (lives (c.state z) || c.booked z) ≡ b → cond (kind z && (lives (c.state z) || c.booked z)) true (c.over z) ≡ true
    by true h = rw (k, h) refl
    by false h = rw (k, h) (gone_if t c z ch d h)

pub drawn_mate : (t : Tunnels) (c : Calls) (z : ℕ) → CallsHold t c → c.mate z ≢ 0 → c.drawn z ≡ true
drawn_mate t c z ch m = by (c.drawn z) refl
  where
    by : (b : Bool) → c.drawn z ≡ b → c.drawn z ≡ true
    by true e = e
    by false e = absurd (m (ch.nameless z e).mate)

ended_names : (c : Calls) (kind : ℕ → Bool) (own y z : ℕ) → Names c own y z → Names (ends c kind) own y z
unfolding ends
ended_names c kind own y z h = h

module _ (r : Rules) (w : World) (reads : r.reads_epochs ≡ true) (s : Sound w) (st : StatesHold w.tunnels w.calls) (qh : QueriesHold w.tunnels w.channels w.calls) where
  abbrev To : World → Type 0
  To v = QueriesHold v.tunnels v.channels v.calls

  pub ignores_queries : (x a f k : ℕ) (l : Letter) → Takes r w x a f k l → Ignores w x l → Sound (took_one w x) → To (took_one w x)
  unfolding took_one
  ignores_queries x a f k l t i sv = simple r w reads s st qh w.tunnels (counts w.channels x e) x e Hello l (same_grows r w reads s st qh) (took_grows w.channels x e Hello) (one_taken w.tunnels w.tunnels w.channels (same_grows r w reads s st qh) s.given qh.within _ x e a k l (counted_took w.channels x e) from.linked.back t.next (subst (λ (q : ℕ). Stands w.channels a q k l) from.epoch t.stands)) (longer_took w.channels x e) (nameless _ sv) (puts_quiet _ _ _ _ _ _ x e Hello l refl) record { cdn = λ own y z h n m. absurd (shut (i.no_cdn own y h)); denial = λ own z h. absurd (shut (i.no_answer own z false h)); connect = connect } (λ y q. inl (was_open w.tunnels w.tunnels y s.epochs q refl))
    where
      e : ℕ
      e = w.tunnels.entered x

      p : w.tunnels.phase x ≡ Open
      p = not_ignored r w reads s.epochs s.given x a f k l t i

      from : FromPartner w x a f k
      from = partner r w x a f k l reads s.epochs s.given t p i.no_stop

      shut : is_open (w.tunnels.phase x) ≡ false → ⊥
      shut h = let b = ap is_open p in let q : true ≡ false = sym b ∙ h in cc

      connect : (z : ℕ) → l ≡ Connect z → (w.calls.up z ≡ true) ⊎ (w.calls.over z ≡ true)
      connect z h =
          let m = s.meant.means a f k (Connect z) (subst (λ (q : Letter). Stands w.channels a f k q) h t.stands) in
          let link = s.calls.mate_linked z m.0 in
          let at : w.calls.tunnel z ≡ x = sym (sym (ap w.tunnels.learned m.1) ∙ link.forth) ∙ from.linked.forth in
          settled w.tunnels w.calls z s.calls (drawn_mate w.tunnels w.calls z s.calls m.0) m.0 (λ waits. not_waiting z at waits (i.no_connecting z h (ap is_open p)))
        where
          not_waiting : (z : ℕ) → w.calls.tunnel z ≡ x → w.calls.state z ≡ WaitsConnect → (eqb (w.calls.tunnel z) x && waits_connect (w.calls.state z)) ≡ false → ⊥
          not_waiting z at waits n = let b : (eqb (w.calls.tunnel z) x && waits_connect (w.calls.state z)) ≡ true = rw (same_test (w.calls.tunnel z) x at, waits) refl in let q : true ≡ false = sym b ∙ n in cc

  pub hears_queries : (x a f k own y : ℕ) → Takes r w x a f k (Cdn own y) → w.tunnels.phase x ≡ Open → CallsGrow w.calls (ends w.calls (is_named w.calls x own y)) → Sound (takes_cdn (took_one w x) x own y) → To (takes_cdn (took_one w x) x own y)
  unfolding takes_cdn took_one
  hears_queries x a f k own y t p cg sv = simple_ended r w reads s st qh w.tunnels (counts w.channels x e) x e Hello (Cdn own y) (same_grows r w reads s st qh) (took_grows w.channels x e Hello) (one_taken w.tunnels w.tunnels w.channels (same_grows r w reads s st qh) s.given qh.within _ x e a k (Cdn own y) (counted_took w.channels x e) from.linked.back t.next there) (longer_took w.channels x e) (nameless _ sv) (is_named w.calls x own y) cg (puts_quiet _ _ _ _ _ _ x e Hello (Cdn own y) refl) record { cdn = λ o q z h n m. by_name o q z h n m; denial = λ o z h. absurd cc; connect = λ z h. absurd cc } (λ v q. inl (was_open w.tunnels w.tunnels v s.epochs q refl)) told
    where
      e : ℕ
      e = w.tunnels.entered x

      from : FromPartner w x a f k
      from = partner r w x a f k (Cdn own y) reads s.epochs s.given t p refl

      there : Stands w.channels a e k (Cdn own y)
      there = subst (λ (q : ℕ). Stands w.channels a q k (Cdn own y)) from.epoch t.stands

      named_by : (z : ℕ) → w.calls.tunnel z ≡ x → ((y ≢ 0) × (z ≡ y)) ⊎ ((y ≡ 0) × (own ≢ 0) × (w.calls.remote z ≡ own)) → is_named w.calls x own y z ≡ true
      named_by z at h = grind (arith, nat_tests)

      over : (z : ℕ) → own ≢ 0 → Mates w.calls own z → (ends w.calls (is_named w.calls x own y)).over z ≡ true
      over z n m = ended_over w.tunnels w.calls (is_named w.calls x own y) z s.calls (drawn m) (by_case m meant)
        where
          meant : (y ≡ 0) ⊎ (w.calls.remote own ≡ y)
          meant = ⊎_elim (λ q. absurd (n q)) (λ q. q.4) (s.meant.means a f k (Cdn own y) t.stands)

          sender : w.calls.tunnel own ≡ a
          sender = ⊎_elim (λ q. absurd (n q)) (λ q. q.2) (s.meant.means a f k (Cdn own y) t.stands)

          drawn : Mates w.calls own z → w.calls.drawn z ≡ true
          drawn (inl q) = subst (λ (v : ℕ). w.calls.drawn v ≡ true) q.0 (s.calls.mate_drawn own (λ v. q.1 (sym q.0 ∙ v)))
          drawn (inr q) = drawn_mate w.tunnels w.calls z s.calls (λ v. q.1 (sym q.0 ∙ v))

          by_case : Mates w.calls own z → (y ≡ 0) ⊎ (w.calls.remote own ≡ y) → is_named w.calls x own y z ≡ true
          by_case (inl q) h =
              let mate : w.calls.mate own ≢ 0 = (λ v. q.1 (sym q.0 ∙ v)) in
              let link = s.calls.mate_linked own mate in
              let at : w.calls.tunnel z ≡ x = sym (ap w.calls.tunnel q.0) ∙ sym (sym (ap w.tunnels.learned sender) ∙ link.back) ∙ from.linked.forth in
              let header : y ≢ 0 = (λ v. mate (qh.no_header a f k own (subst (λ (i : ℕ). Stands w.channels a f k (Cdn own i)) v t.stands) n).1) in
              named_by z at (inl (header, (⊎_elim (λ v. absurd (header v)) (λ v. sym q.0 ∙ sym (s.calls.mate_remote own mate) ∙ v) h)))
          by_case (inr q) h =
              let mate : w.calls.mate z ≢ 0 = (λ v. q.1 (sym q.0 ∙ v)) in
              let link = s.calls.mate_linked z mate in
              let at : w.calls.tunnel z ≡ x = sym (sym (ap w.tunnels.learned (ap w.calls.tunnel q.0 ∙ sender)) ∙ link.forth) ∙ from.linked.forth in
              named_by z at (⊎_elim (λ zero_y. inr (zero_y, n, s.calls.mate_remote z mate ∙ q.0)) (λ some. inl (some, by_remote q mate h some)) (same_or_not y 0))
            where
              by_remote : (w.calls.mate z ≡ own) × (own ≢ 0) → w.calls.mate z ≢ 0 → (y ≡ 0) ⊎ (w.calls.remote own ≡ y) → y ≢ 0 → z ≡ y
              by_remote q mate (inl v) some = absurd (some v)
              by_remote q mate (inr v) some = ⊎_elim (λ i. absurd (some (sym v ∙ sym i ∙ ap w.calls.mate (sym q.0) ∙ s.calls.mate_asks z mate))) (λ i. s.calls.mate_once z y mate (q.0 ∙ sym (ap w.calls.mate (sym v) ∙ i))) (s.calls.remote_mates own (λ j. some (sym v ∙ j)))

      by_name : (o q z : ℕ) → Cdn own y ≡ Cdn o q → o ≢ 0 → Mates (ends w.calls (is_named w.calls x own y)) o z → (ends w.calls (is_named w.calls x own y)).over z ≡ true
      by_name o q z h n m = let same : own ≡ o = cc in over z (λ v. n (sym same ∙ v)) (back (subst (λ (i : ℕ). Mates (ends w.calls (is_named w.calls x own y)) i z) (sym same) m))
        where
          back : Mates (ends w.calls (is_named w.calls x own y)) own z → Mates w.calls own z
          back (inl i) = inl (sym (ended_mate w.calls (is_named w.calls x own y) own) ∙ i.0, i.1)
          back (inr i) = inr (sym (ended_mate w.calls (is_named w.calls x own y) z) ∙ i.0, i.1)

      names : (z : ℕ) → is_named w.calls x own y z ≡ true → (w.calls.tunnel z ≡ x) × Names w.calls own y z
      names z h = grind (arith, nat_tests)

      told : (z : ℕ) → is_named w.calls x own y z ≡ true → (lives (w.calls.state z) || w.calls.booked z) ≡ true → w.tunnels.phase (w.calls.tunnel z) ≡ Open → LivedIn w.calls (w.calls.tunnel z) (w.tunnels.entered (w.calls.tunnel z)) z → Known w.tunnels (counts w.channels x e) (ends w.calls (is_named w.calls x own y)) (w.calls.tunnel z) (w.tunnels.entered (w.calls.tunnel z)) z
      told z kind alive q l = let n = names z kind in subst (λ (i : ℕ). Known w.tunnels (counts w.channels x e) (ends w.calls (is_named w.calls x own y)) i (w.tunnels.entered i) z) (sym n.0) (inr (inl record { place = k; own = own; header = y; stands = subst (λ (i : ℕ). Stands (counts w.channels x e) i e k (Cdn own y)) (sym from.linked.back) ((took_grows w.channels x e Hello).later a e k (Cdn own y) there); taken = below; names = still n.1 }))
        where
          below : k < (counts w.channels x e).taken x e
          below = let c = (counted_took w.channels x e).one_more in let i = t.next in omega arith

          still : Names w.calls own y z → Names (ends w.calls (is_named w.calls x own y)) own y z
          still i = ended_names w.calls (is_named w.calls x own y) own y z i
