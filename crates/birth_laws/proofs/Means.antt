-- What letters say stays true, and what a step must show of its own.
use Rattle.std.proofs.Common.{◌≡◌, ◌≢◌, ◌⊎◌, inl, inr, ⊎_elim, ℕ, ◌≤◌, true, Some, None, sym, ap, ◌∙◌, subst, arith}
use Rattle.epoch_machine.specs.Letters.{Letter, Sccrq, Sccrp, Scccn, StopCcn, Hello, Request, Reply, Connect, Cdn, Fsq, Fsr}
use Rattle.epoch_machine.specs.Tunnels.{Tunnels}
use Rattle.epoch_machine.specs.Channels.{Channels, Stands}
use Rattle.epoch_machine.specs.Calls.{Calls}
use Rattle.epoch_machine.proofs.Splits.{same_or_not}
use Rattle.epoch_machine.proofs.Places.{Put}
use Rattle.epoch_laws.proofs.Growth.{TunnelsGrow}
use Rattle.birth_laws.proofs.Tunnels.{still_linked}
use Rattle.birth_laws.specs.Births.{Meant, TakenRequest, Refused, LettersMean}

-- what is known of calls stays known
pub record CallsGrow (c d : Calls) : Type 0 where
  pub drawn : (z : ℕ) → c.drawn z ≡ true → d.drawn z ≡ true
  pub tunnel : (z : ℕ) → c.drawn z ≡ true → d.tunnel z ≡ c.tunnel z
  pub mate : (z : ℕ) → c.drawn z ≡ true → d.mate z ≡ c.mate z
  pub birth : (z : ℕ) → c.drawn z ≡ true → d.birth z ≡ c.birth z
  pub made : (z : ℕ) → c.made z ≢ None → d.made z ≡ c.made z
  pub remote : (z : ℕ) → c.remote z ≢ 0 → d.remote z ≡ c.remote z
  pub up : (z : ℕ) → c.up z ≡ true → d.up z ≡ true
  pub over : (z : ℕ) → c.over z ≡ true → d.over z ≡ true
  pub held : (x e z : ℕ) → c.held x e z ≢ 0 → d.held x e z ≡ c.held x e z

-- a call with a mate, and its mate, were drawn
pub record Known (c : Calls) : Type 0 where
  pub mate : (z : ℕ) → c.mate z ≢ 0 → (c.drawn z ≡ true) × (c.drawn (c.mate z) ≡ true)
  pub made : (z : ℕ) → c.mate z ≢ 0 → c.made z ≢ None

module _ (t u : Tunnels) (c d : Calls) (tg : TunnelsGrow t u) (cg : CallsGrow c d) (k : Known c) where
  made_later : (z e : ℕ) → c.made z ≡ Some e → d.made z ≡ Some e
  made_later z e m = cg.made z (λ n. let f : Some e ≡ None = sym m ∙ n in cc) ∙ m

  mate_later : (z : ℕ) → c.mate z ≢ 0 → d.mate z ≡ c.mate z
  mate_later z h = cg.mate z (k.mate z h).0

  mate_is : (z x : ℕ) → c.mate z ≡ x → x ≢ 0 → d.mate z ≡ x
  mate_is z x h n = mate_later z (λ e. n (sym h ∙ e)) ∙ h

  held_is : (x e z y : ℕ) → c.held x e z ≡ y → y ≢ 0 → d.held x e z ≡ y
  held_is x e z y h n = cg.held x e z (λ e. n (sym h ∙ e)) ∙ h

  pub means_later : (x e : ℕ) (l : Letter) → Meant t c x e l → Meant u d x e l
  means_later x e (Request z) m = (m.0, cg.drawn z m.1, cg.tunnel z m.1 ∙ m.2, made_later z e m.3, cg.mate z m.1 ∙ m.4, tg.drawn x m.5)
  means_later x e (Reply own z) m = let n : c.mate own ≢ 0 = (λ f. m.0 (sym m.1 ∙ f)) in (m.0, mate_is own z m.1 m.0, cg.tunnel own (k.mate own n).0 ∙ m.2, made_later own e m.3)
  means_later x e (Connect y) m = let f = mate_later y m.0 in let g = k.mate y m.0 in ((λ h. m.0 (sym f ∙ h)), ap d.tunnel f ∙ cg.tunnel (c.mate y) g.1 ∙ m.1, made_later y e m.2, ap d.up f ∙ cg.up (c.mate y) m.3)
  means_later x e (Cdn own y) (inl m) = inl m
  means_later x e (Cdn own y) (inr m) = inr (m.0, cg.drawn own m.1, cg.tunnel own m.1 ∙ m.2, cg.over own m.3, later_name m.4)
    where
      later_name : (y ≡ 0) ⊎ (c.remote own ≡ y) → (y ≡ 0) ⊎ (d.remote own ≡ y)
      later_name (inl h) = inl h
      later_name (inr h) = ⊎_elim (λ e. inl e) (λ n. inr (cg.remote own (λ e. n (sym h ∙ e)) ∙ h)) (same_or_not y 0)
  means_later x e (Fsq own y) m = (m.0, held_is x e own y m.1 m.0)
  means_later x e (Fsr own y here) m = let f = tg.learned x m.1 in (m.0, (λ h. m.1 (sym f ∙ h)), ap (λ (s : ℕ). d.held s e y) f ∙ held_is (t.learned x) e y own m.2 m.0)
  means_later x e Sccrq m = tt
  means_later x e Sccrp m = tt
  means_later x e Scccn m = tt
  means_later x e StopCcn m = tt
  means_later x e Hello m = tt

-- the letters and takings of a step: at most this letter is new
pub record LettersGrow (h g : Channels) (x e : ℕ) (l : Letter) : Type 0 where
  pub before : (y f k : ℕ) (m : Letter) → Stands g y f k m → Stands h y f k m ⊎ Put h x e l y f k m
  pub later : (y f k : ℕ) (m : Letter) → Stands h y f k m → Stands g y f k m
  pub taken : (y f : ℕ) → h.taken y f ≤ g.taken y f

pub taken_later : (h g : Channels) (x e : ℕ) (l : Letter) (s u f z : ℕ) → LettersGrow h g x e l → TakenRequest h s u f z → TakenRequest g s u f z
taken_later h g x e l s u f z lg r = let a = r.taken in let b = lg.taken u f in record { place = r.place; stands = lg.later s f r.place (Request z) r.stands; taken = omega arith }

-- what a step must show of its letter and its mates
pub record Shows (t u : Tunnels) (h g : Channels) (c d : Calls) (x e : ℕ) (l : Letter) : Type 0 where
  pub means : Meant u d x e l
  pub request : (z : ℕ) → l ≡ Request z → c.made z ≡ None
  pub mates : (y : ℕ) → d.mate y ≢ 0 → (c.mate y ≢ 0) ⊎ ((f : ℕ) → d.made y ≡ Some f → TakenRequest g (d.tunnel (d.mate y)) (d.tunnel y) f (d.mate y))
  pub refusal : (z : ℕ) → l ≡ Cdn 0 z → Refused u g d x e z
  pub unanswered : (v f z y : ℕ) → Refused t h c v f z → d.mate y ≢ z
  pub asks : (y z : ℕ) → d.asks y z ≡ true → d.held y (u.entered y) z ≢ 0

pub means_step : (t u : Tunnels) (h g : Channels) (c d : Calls) (x e : ℕ) (l : Letter) → TunnelsGrow t u → CallsGrow c d → Known c → LettersGrow h g x e l → Shows t u h g c d x e l → LettersMean t h c → LettersMean u g d
means_step t u h g c d x e l tg cg k lg s ok = record { means = means; request_once = request_once; mate_taken = mate_taken; refused = refused; asks_held = s.asks }
  where
    means : (y f j : ℕ) (m : Letter) → Stands g y f j m → Meant u d y f m
    means y f j m st = ⊎_elim (λ a. means_later t u c d tg cg k y f m (ok.means y f j m a)) (λ p. subst (λ (n : Letter). Meant u d y f n) (sym p.letter) (subst (λ (n : ℕ). Meant u d y n l) (sym p.epoch) (subst (λ (n : ℕ). Meant u d n e l) (sym p.tunnel) s.means))) (lg.before y f j m st)

    new_request : (y f i j z : ℕ) → Stands h y f i (Request z) → Put h x e l y f j (Request z) → ⊥
    new_request y f i j z a p = let b = s.request z (sym p.letter) in let n = (ok.means y f i (Request z) a).3 in (let q : None ≡ Some f = sym b ∙ n in cc)

    request_once : (y f i j z : ℕ) → Stands g y f i (Request z) → Stands g y f j (Request z) → i ≡ j
    request_once y f i j z a b = ⊎_elim
        (λ p. ⊎_elim (λ q. ok.request_once y f i j z p q) (λ q. absurd (new_request y f i j z p q)) (lg.before y f j (Request z) b))
        (λ p. ⊎_elim (λ q. absurd (new_request y f j i z q p)) (λ q. p.place ∙ sym q.place) (lg.before y f j (Request z) b))
        (lg.before y f i (Request z) a)

    mate_taken : (y f : ℕ) → d.mate y ≢ 0 → d.made y ≡ Some f → TakenRequest g (d.tunnel (d.mate y)) (d.tunnel y) f (d.mate y)
    mate_taken y f n m = ⊎_elim old (λ a. a f m) (s.mates y n)
      where
        old : c.mate y ≢ 0 → TakenRequest g (d.tunnel (d.mate y)) (d.tunnel y) f (d.mate y)
        old o =
            let drawn = k.mate y o in
            let same_mate : d.mate y ≡ c.mate y = cg.mate y drawn.0 in
            let same_tunnel : d.tunnel y ≡ c.tunnel y = cg.tunnel y drawn.0 in
            let same_sender : d.tunnel (d.mate y) ≡ c.tunnel (c.mate y) = ap d.tunnel same_mate ∙ cg.tunnel (c.mate y) drawn.1 in
            let r = ok.mate_taken y f o (was y f o m) in
            rw (same_sender, same_tunnel, same_mate) (taken_later h g x e l (c.tunnel (c.mate y)) (c.tunnel y) f (c.mate y) lg r)
          where
            was : (y f : ℕ) → c.mate y ≢ 0 → d.made y ≡ Some f → c.made y ≡ Some f
            was y f o m = sym (cg.made y (k.made y o)) ∙ m

    refused : (v f j z : ℕ) → Stands g v f j (Cdn 0 z) → Refused u g d v f z
    refused v f j z st = ⊎_elim old (λ p. subst (λ (n : ℕ). Refused u g d v n z) (sym p.epoch) (subst (λ (n : ℕ). Refused u g d n e z) (sym p.tunnel) (s.refusal z (sym p.letter)))) (lg.before v f j (Cdn 0 z) st)
      where
        old : Stands h v f j (Cdn 0 z) → Refused u g d v f z
        old a = let r = ok.refused v f j z a in record {
          sender = r.sender;
          linked = still_linked t u r.sender v tg r.linked;
          request = taken_later h g x e l r.sender v f z lg r.request;
          unanswered = λ y. s.unanswered v f z y r;
        }

-- growth goes on
pub trans_grow : (a b c : Calls) → CallsGrow a b → CallsGrow b c → CallsGrow a c
trans_grow a b c f g = record {
  drawn = λ z h. g.drawn z (f.drawn z h);
  tunnel = λ z h. g.tunnel z (f.drawn z h) ∙ f.tunnel z h;
  mate = λ z h. g.mate z (f.drawn z h) ∙ f.mate z h;
  birth = λ z h. g.birth z (f.drawn z h) ∙ f.birth z h;
  made = λ z h. g.made z (λ e. h (sym (f.made z h) ∙ e)) ∙ f.made z h;
  remote = λ z h. g.remote z (λ e. h (sym (f.remote z h) ∙ e)) ∙ f.remote z h;
  up = λ z h. g.up z (f.up z h);
  over = λ z h. g.over z (f.over z h);
  held = λ x e z h. g.held x e z (λ k. h (sym (f.held x e z h) ∙ k)) ∙ f.held x e z h;
}
