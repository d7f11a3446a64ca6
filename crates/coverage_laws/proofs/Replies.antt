-- A call that replies keeps what holds of queries.
use Rattle.std.proofs.Common.{◌≡◌, ◌≢◌, inl, inr, ⊎_elim, ℕ, ◌<◌, ◌≤◌, true, false, Some, refl, sym, ap, ◌∙◌, subst, arith}
use Rattle.epoch_machine.specs.Names.{assign}
use Rattle.epoch_machine.specs.Letters.{Letter, Request, Reply, Cdn}
use Rattle.epoch_machine.specs.Tunnels.{Open}
use Rattle.epoch_machine.specs.Channels.{Channels, Stands, puts, counts}
use Rattle.epoch_machine.specs.Calls.{Calls, WaitsConnect, Up, replies}
use Rattle.epoch_machine.specs.Worlds.{World, Rules}
use Rattle.epoch_machine.proofs.Splits.{same_or_not, at_name, assigned_now, assigned_else}
use Rattle.epoch_machine.proofs.Did.{Takes}
use Rattle.birth_laws.specs.Births.{NoCallYet}
use Rattle.birth_laws.proofs.Means.{CallsGrow}
use Rattle.birth_laws.proofs.Growths.{answered_grows}
use Rattle.birth_laws.proofs.Replies.{FromPartner, partner}
use Rattle.birth_laws.proofs.Steps.{known}
use Rattle.birth_laws.proofs.Runs.{Sound}
use Rattle.coverage_laws.specs.Coverage.{LivedIn, Mates, StatesHold, QueriesHold}
use Rattle.coverage_laws.proofs.Inputs.{WasOpen}
use Rattle.coverage_laws.proofs.Takings.{one_taken, longer_answered, counted_answered}
use Rattle.coverage_laws.proofs.Present.{Connected, Asked, Ended}
use Rattle.coverage_laws.proofs.Simple.{puts_quiet, tooks_quiet, finish, was_open}
use Rattle.coverage_laws.proofs.Openings.{same_grows}

state_new : (c : Calls) (x e z own v : ℕ) → (replies c x e z own).state v ≡ Up → (v ≡ z → ⊥) × (c.state v ≡ Up)
unfolding replies
state_new c x e z own v h = at_name c.state z WaitsConnect v (λ q. q ≡ Up → (v ≡ z → ⊥) × (c.state v ≡ Up)) (λ same h. absurd cc) (λ other h. (other, h)) h

tunnel_old : (c : Calls) (x e z own v : ℕ) → (v ≡ z → ⊥) → (replies c x e z own).tunnel v ≡ c.tunnel v
unfolding replies
tunnel_old c x e z own v n = assigned_else c.tunnel z x v n

tunnel_new : (c : Calls) (x e z own v : ℕ) → v ≡ z → (replies c x e z own).tunnel v ≡ x
unfolding replies
tunnel_new c x e z own v i = ap (assign c.tunnel z x) i ∙ assigned_now c.tunnel z x

made_old : (c : Calls) (x e z own v : ℕ) → (v ≡ z → ⊥) → (replies c x e z own).made v ≡ c.made v
unfolding replies
made_old c x e z own v n = assigned_else c.made z (Some e) v n

mate_old : (c : Calls) (x e z own v : ℕ) → (v ≡ z → ⊥) → (replies c x e z own).mate v ≡ c.mate v
unfolding replies
mate_old c x e z own v n = assigned_else c.mate z own v n

mate_new : (c : Calls) (x e z own v : ℕ) → v ≡ z → (replies c x e z own).mate v ≡ own
unfolding replies
mate_new c x e z own v i = ap (assign c.mate z own) i ∙ assigned_now c.mate z own

remote_old : (c : Calls) (x e z own v : ℕ) → (v ≡ z → ⊥) → (replies c x e z own).remote v ≡ c.remote v
unfolding replies
remote_old c x e z own v n = assigned_else c.remote z own v n

same_held : (c : Calls) (x e z own i j v : ℕ) → (replies c x e z own).held i j v ≡ c.held i j v
unfolding replies
same_held c x e z own i j v = refl

same_asks : (c : Calls) (x e z own i v : ℕ) → (replies c x e z own).asks i v ≡ c.asks i v
unfolding replies
same_asks c x e z own i v = refl

same_over : (c : Calls) (x e z own v : ℕ) → (replies c x e z own).over v ≡ c.over v
unfolding replies
same_over c x e z own v = refl

module _ (r : Rules) (w : World) (reads : r.reads_epochs ≡ true) (s : Sound w) (st : StatesHold w.tunnels w.calls) (qh : QueriesHold w.tunnels w.channels w.calls) (x a f k own z : ℕ) (t : Takes r w x a f k (Request own)) (p : w.tunnels.phase x ≡ Open) (new : w.calls.drawn z ≡ false) (name : z ≢ 0) where
  abbrev e : ℕ
  e = w.tunnels.entered x

  abbrev d : Calls
  d = replies w.calls x e z own

  abbrev g : Channels
  g = puts (counts w.channels x e) x e (Reply z own)

  from : FromPartner w x a f k
  from = partner r w x a f k (Request own) reads s.epochs s.given t p refl

  n : NoCallYet w.calls z
  n = s.calls.nameless z new

  m : (own ≢ 0) × (w.calls.drawn own ≡ true) × (w.calls.tunnel own ≡ a) × (w.calls.made own ≡ Some f) × (w.calls.mate own ≡ 0) × (w.tunnels.drawn a ≡ true)
  m = s.meant.means a f k (Request own) t.stands

  open_then : (y : ℕ) → w.tunnels.phase y ≡ Open → WasOpen w.tunnels w.tunnels y
  open_then y q = was_open w.tunnels w.tunnels y s.epochs q refl

  reply_connected : Connected w.tunnels w.tunnels g w.calls d
  reply_connected v q up mt made = let i = state_new w.calls x e z own v up in let tv = tunnel_old w.calls x e z own v i.0 in inr (open_then (w.calls.tunnel v) (sym (ap w.tunnels.phase tv) ∙ q), i.1, sym (mate_old w.calls x e z own v i.0) ∙ mt, sym (made_old w.calls x e z own v i.0) ∙ made ∙ ap Some (ap w.tunnels.entered tv), tv, remote_old w.calls x e z own v i.0)

  reply_asked : Asked w.tunnels w.tunnels g w.calls d
  reply_asked y v q i = inr (inr (open_then y q, (λ j. i (same_held w.calls x e z own y (w.tunnels.entered y) v ∙ j)), λ j. same_asks w.calls x e z own y v ∙ j))

  reply_ended : Ended w.tunnels w.tunnels g w.calls d
  reply_ended v q l over = ⊎_elim (λ i. absurd (let b : w.calls.over z ≡ true = ap w.calls.over (sym i) ∙ sym (same_over w.calls x e z own v) ∙ over in let c = n.over in cc)) (λ i. let tv = tunnel_old w.calls x e z own v i in inr (open_then (w.calls.tunnel v) (sym (ap w.tunnels.phase tv) ∙ q), lived i tv l, sym (same_over w.calls x e z own v) ∙ over, tv)) (same_or_not v z)
    where
      lived : (v ≡ z → ⊥) → d.tunnel v ≡ w.calls.tunnel v → LivedIn d (d.tunnel v) (w.tunnels.entered (d.tunnel v)) v → LivedIn w.calls (w.calls.tunnel v) (w.tunnels.entered (w.calls.tunnel v)) v
      lived i tv (inl h) = inl (λ j. h (same_held w.calls x e z own (d.tunnel v) (w.tunnels.entered (d.tunnel v)) v ∙ ap (λ (y : ℕ). w.calls.held y (w.tunnels.entered y) v) tv ∙ j))
      lived i tv (inr h) = inr (sym (made_old w.calls x e z own v i) ∙ h ∙ ap Some (ap w.tunnels.entered tv))

  -- no CDN about the call that asks was taken
  not_ended : (j header : ℕ) (i : ℕ) → Stands w.channels (w.tunnels.learned x) i j (Cdn own header) → j < w.channels.taken x i → ⊥
  not_ended j header i sj below =
      let there : Stands w.channels a i j (Cdn own header) = subst (λ (q : ℕ). Stands w.channels q i j (Cdn own header)) from.linked.back sj in
      let mb = qh.made_before a i j own header there m.0 in
      let epoch : Some f ≡ Some mb.epoch = sym m.3 ∙ mb.made in
      let same_f : f ≡ mb.epoch = some_same f mb.epoch epoch in
      let up : i ≤ e = s.given.taken_entered x i (λ q. (omega (arith, below, q))) in
      let b = mb.before in
      let fe = from.epoch in
      let same_i : i ≡ f = omega (arith, same_f, up, b, fe) in
      let order = qh.request_first a f k j own header t.stands (subst (λ (q : ℕ). Stands w.channels a q j (Cdn own header)) same_i there) in
      let next = from.place in
      let low : j < w.channels.taken x f = subst (λ (q : ℕ). j < w.channels.taken x q) same_i below in
      omega (arith, order, next, low)
    where
      some_same : (p q : ℕ) → Some p ≡ Some q → p ≡ q
      some_same p q h = cc

  reply_mates : (y i j o header v : ℕ) → Stands w.channels (w.tunnels.learned y) i j (Cdn o header) → j < w.channels.taken y i → o ≢ 0 → d.tunnel v ≡ y → Mates d o v → Mates w.calls o v × (w.calls.tunnel v ≡ y)
  reply_mates y i j o header v sj below some at mt = by mt
    where
      drawn_o : w.calls.drawn o ≡ true
      drawn_o = ⊎_elim (λ q. absurd (some q)) (λ q. q.1) (s.meant.means (w.tunnels.learned y) i j (Cdn o header) sj)

      other : o ≡ z → ⊥
      other q = let b : w.calls.drawn z ≡ true = ap w.calls.drawn (sym q) ∙ drawn_o in cc

      known_v : (v ≡ z → ⊥) → w.calls.tunnel v ≡ y
      known_v q = sym (tunnel_old w.calls x e z own v q) ∙ at

      by : Mates d o v → Mates w.calls o v × (w.calls.tunnel v ≡ y)
      by (inl q) = let mo : w.calls.mate o ≡ v = sym (mate_old w.calls x e z own o other) ∙ q.0 in (inl (mo, q.1), known_v (λ h. (let b = s.calls.mate_drawn o (λ i. q.1 (sym mo ∙ i)) in let c : w.calls.drawn z ≡ true = ap w.calls.drawn (sym (mo ∙ h)) ∙ b in cc)))
      by (inr q) = ⊎_elim (λ same. absurd (ended same q.0)) (λ apart. (inr (sym (mate_old w.calls x e z own v apart) ∙ q.0, q.1), known_v apart)) (same_or_not v z)
        where
          ended : v ≡ z → d.mate v ≡ o → ⊥
          ended now q =
              let is_own : own ≡ o = sym (mate_new w.calls x e z own v now) ∙ q in
              let is_x : x ≡ y = sym (tunnel_new w.calls x e z own v now) ∙ at in
              not_ended j header i (subst (λ (b : ℕ). Stands w.channels (w.tunnels.learned b) i j (Cdn own header)) (sym is_x) (subst (λ (b : ℕ). Stands w.channels (w.tunnels.learned y) i j (Cdn b header)) (sym is_own) sj)) (subst (λ (b : ℕ). j < w.channels.taken b i) (sym is_x) below)

  pub replies_queries : CallsGrow w.calls d → ((f j : ℕ) (m : Letter) → Stands g 0 f j m → ⊥) → QueriesHold w.tunnels g d
  replies_queries cg zero_gives = finish w.tunnels w.tunnels w.channels g w.calls d x e (Reply z own) (Request own) (same_grows r w reads s st qh) cg (known w.tunnels w.calls s.calls) (answered_grows w.channels x e (Reply z own)) qh (one_taken w.tunnels w.tunnels w.channels (same_grows r w reads s st qh) s.given qh.within g x e a k (Request own) (counted_answered w.channels x e (Reply z own)) from.linked.back t.next (subst (λ (q : ℕ). Stands w.channels a q k (Request own)) from.epoch t.stands)) (longer_answered w.channels x e (Reply z own)) zero_gives (puts_quiet _ _ _ _ _ _ x e (Reply z own) (Request own) refl) (tooks_quiet _ _ _ _ _ _ x e (Reply z own) (Request own) refl) reply_mates reply_connected reply_asked reply_ended
