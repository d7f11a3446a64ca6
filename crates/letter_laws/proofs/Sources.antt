-- Where a letter comes from that a tunnel takes.
use Rattle.std.proofs.Common.{◌≡◌, ◌≢◌, ◌⊎◌, inl, inr, ⊎_elim, ℕ, ◌≤◌, Bool, true, false, eqb, ◌&&◌, refl, sym, ap, ◌∙◌, subst, arith}
use Rattle.epoch_machine.specs.Letters.{Letter, Sccrp, StopCcn}
use Rattle.epoch_machine.specs.Tunnels.{Tunnels, Linked, WaitReply, WaitConnect, Open, is_established}
use Rattle.epoch_machine.specs.Channels.{Stands}
use Rattle.epoch_machine.specs.Worlds.{World, Rules, is_stop}
use Rattle.epoch_machine.specs.Moves.{reaches}
use Rattle.epoch_machine.proofs.Splits.{same_or_not}
use Rattle.epoch_machine.proofs.Tells.{both, either, same, active_phase}
use Rattle.epoch_machine.proofs.Did.{Takes}
use Rattle.epoch_laws.specs.Epochs.{EpochsHold}
use Rattle.letter_laws.specs.Letters.{LettersHold}
use Rattle.letter_laws.proofs.Begins.{not_entered}

-- from the end that the tunnel has learned, in its own epoch
pub record FromLearned (w : World) (x s e : ℕ) : Type 0 where
  pub learned : w.tunnels.learned x ≡ s
  pub epoch : e ≡ w.tunnels.entered x

-- by this very letter the tunnel learns the other end
pub record FromNew (w : World) (x s e : ℕ) (l : Letter) : Type 0 where
  pub phase : w.tunnels.phase x ≡ WaitReply
  pub letter : l ≡ Sccrp
  pub learned : w.tunnels.learned s ≡ x
  pub epoch : e ≡ w.tunnels.entered x

-- from an acceptor that the opener didn't choose
pub record FromUnchosen (w : World) (x s e : ℕ) (l : Letter) : Type 0 where
  pub letter : l ≡ StopCcn
  pub epoch : (e ≡ 0) × (w.tunnels.entered x ≡ 0)
  pub opener : w.tunnels.opener x ≡ true
  pub acceptor : w.tunnels.opener s ≡ false

abbrev pub Source : World → ℕ → ℕ → ℕ → Letter → Type 0
Source w x s e l = FromLearned w x s e ⊎ (FromNew w x s e l ⊎ FromUnchosen w x s e l)

-- the way that a letter came: by the header, or by tunnel 0
abbrev Way : World → ℕ → ℕ → Type 0
Way w x s = (w.tunnels.learned s ≡ x) ⊎ ((w.tunnels.learned s ≡ 0) × (w.tunnels.learned x ≡ s))

way_of : (t : Tunnels) (s x : ℕ) (l : Letter) → reaches t s x l ≡ true → (t.learned s ≡ x) ⊎ ((t.learned s ≡ 0) × (t.learned x ≡ s))
way_of t s x l h = ⊎_elim (λ a. inl (same (t.learned s) x a)) (λ a. (let b = both (is_stop l) (eqb (t.learned s) 0 && eqb (t.learned x) s) a in let d = both (eqb (t.learned s) 0) (eqb (t.learned x) s) b.1 in inr (same (t.learned s) 0 d.0, same (t.learned x) s d.1))) (either (eqb (t.learned s) x) (is_stop l && (eqb (t.learned s) 0 && eqb (t.learned x) s)) h)

-- an end that isn't linked has entered no epoch
pub unlinked_end : (t : Tunnels) (y : ℕ) → EpochsHold t → (Linked t.learned y (t.learned y) → ⊥) → t.entered y ≡ 0
unlinked_end t y ep n = not_entered t y ep (let a = ep.epochs_linked y in zero_or (t.epochs y) (λ h. n (a h)))
  where
    zero_or : (m : ℕ) → (m ≢ 0 → ⊥) → m ≡ 0
    zero_or m h = grind (arith, h)

module _ (r : Rules) (w : World) (x s e k : ℕ) (l : Letter) (reads : r.reads_epochs ≡ true) (ep : EpochsHold w.tunnels) (ok : LettersHold w.tunnels w.channels) (t : Takes r w x s e k l) where
  abbrev T : Tunnels
  T = w.tunnels

  given : e ≤ T.entered s
  given = ok.given_entered s e k l t.stands

  unlinked : (y : ℕ) → (Linked T.learned y (T.learned y) → ⊥) → T.entered y ≡ 0
  unlinked y n = unlinked_end T y ep n

  kind : (y : ℕ) → (T.opener y ≡ true) ⊎ (T.opener y ≡ false)
  kind y = by (T.opener y)
    where
      by : (b : Bool) → (b ≡ true) ⊎ (b ≡ false)
      by true = inl refl
      by false = inr refl

  at_reply : T.phase x ≡ WaitReply → Way w x s → Source w x s e l
  at_reply p (inr h) = absurd (t.sender (sym h.1 ∙ (ep.waits_reply x p).1))
  at_reply p (inl h) = ⊎_elim {C = Source w x s e l} (λ o. absurd (let f = ep.opener_linked s o (λ z. f_name (sym h ∙ z)) in t.sender (sym (rw (← h) f.back) ∙ learned_none))) (λ o. acceptor o) (kind s)
    where
      learned_none : T.learned x ≡ 0
      learned_none = (ep.waits_reply x p).1

      f_name : x ≢ 0
      f_name z = let g = ep.nameless 0 ep.zero in let q : T.phase 0 ≡ WaitReply = rw (← z) p in let v = g.phase in cc

      unlinked_s : T.entered s ≡ 0
      unlinked_s = unlinked s (λ f. t.sender (sym (rw (← h) f.back) ∙ learned_none))

      acceptor : T.opener s ≡ false → Source w x s e l
      acceptor o =
          let zero_x : T.entered x ≡ 0 = unlinked x (λ f. f.to_name learned_none) in
          let e0 : e ≡ 0 = (let g = given in let u = unlinked_s in omega arith) in
          let k0 : k ≡ 0 = t.next ∙ ap (λ (m : ℕ). w.channels.taken x m) zero_x ∙ (ok.waits_reply x p).0 in
          let st : Stands w.channels s 0 0 l = subst (λ (m : ℕ). Stands w.channels s m 0 l) e0 (subst (λ (m : ℕ). Stands w.channels s e m l) k0 t.stands) in
          inr (inl record { phase = p; letter = ⊎_elim (λ a. a.1) (λ a. absurd (omega arith)) (ok.acceptor_first s 0 l o st); learned = h; epoch = e0 ∙ sym zero_x })

  at_connect : T.phase x ≡ WaitConnect → Way w x s → Source w x s e l
  at_connect p way = inl record { learned = from_learned way; epoch = e0 ∙ sym zero_x }
    where
      c : (T.opener x ≡ false) × (T.epochs x ≡ 0) × (T.learned x ≢ 0)
      c = ep.waits_connect x p

      f_name : x ≢ 0
      f_name z = let g = ep.nameless 0 ep.zero in let q : T.phase 0 ≡ WaitConnect = rw (← z) p in let v = g.phase in cc

      from_learned : Way w x s → T.learned x ≡ s
      from_learned (inr h) = h.1
      from_learned (inl h) = ⊎_elim (λ o. rw (← h) (ep.opener_linked s o (λ z. f_name (sym h ∙ z))).back) (λ o. absurd (let g = ep.acceptor_learned s o (λ z. f_name (sym h ∙ z)) in let u : T.opener x ≡ true = rw (← h) g in let v = c.0 in cc)) (kind s)

      zero_x : T.entered x ≡ 0
      zero_x = not_entered T x ep c.1

      zero_s : T.entered s ≡ 0
      zero_s = ⊎_elim {C = T.entered s ≡ 0} (λ a. not_entered T s ep (sym (ep.same_epochs x s record { forth = from_learned way; back = a; from_name = f_name; to_name = t.sender }) ∙ c.1)) (λ a. unlinked s (λ f. f.to_name a.0)) way

      e0 : e ≡ 0
      e0 = let g = given in let z = zero_s in omega arith

  at_open : T.phase x ≡ Open → Way w x s → Source w x s e l
  at_open p way = ⊎_elim (λ a. chosen a) (λ a. not_chosen a way) (same_or_not (T.learned x) s)
    where
      link : Linked T.learned x (T.learned x)
      link = ep.established_linked x (ap is_established p)

      fresh : T.entered x ≤ e
      fresh = t.fresh reads

      chosen : T.learned x ≡ s → Source w x s e l
      chosen a = let g = given in let f = fresh in let b = ep.open_above x (T.learned x) p link in let d : T.entered s ≤ T.entered x = rw (← a) b in inl record { learned = a; epoch = omega arith }

      not_chosen : (T.learned x ≡ s → ⊥) → Way w x s → Source w x s e l
      not_chosen n (inr h) = absurd (n h.1)
      not_chosen n (inl h) = ⊎_elim {C = Source w x s e l} (λ o. absurd (n (rw (← h) (ep.opener_linked s o (λ z. link.from_name (sym h ∙ z))).back))) (λ o. acceptor o) (kind s)
        where
          apart : T.learned (T.learned s) ≢ s
          apart f = n (rw (← h) f)

          zero_s : T.entered s ≡ 0
          zero_s = unlinked s (λ f. apart f.back)

          acceptor : T.opener s ≡ false → Source w x s e l
          acceptor o =
              let e0 : e ≡ 0 = (let g = given in let z = zero_s in omega arith) in
              let x0 : T.entered x ≡ 0 = (let f = fresh in omega (arith, e0)) in
              let k1 : k ≡ w.channels.taken x 0 = t.next ∙ ap (λ (m : ℕ). w.channels.taken x m) x0 in
              let k_not : k ≢ 0 = λ z. ok.open_taken x p x0 (sym k1 ∙ z) in
              let st : Stands w.channels s 0 k l = subst (λ (m : ℕ). Stands w.channels s m k l) e0 t.stands in
              inr (inr record {
                letter = ⊎_elim (λ a. absurd (k_not a)) (λ a. a.1) (ok.unchosen s k l o apart st);
                epoch = (e0, x0);
                opener = rw (← h) (ep.acceptor_learned s o (λ z. link.from_name (sym h ∙ z)));
                acceptor = o;
              })

  pub source : Source w x s e l
  source = ⊎_elim (λ p. at_reply p way) (λ q. ⊎_elim (λ p. at_connect p way) (λ p. at_open p way) q) (active_phase (T.phase x) t.active)
    where
      way : Way w x s
      way = way_of T s x l t.way
