-- Steps whose letters end no calls.
use Rattle.std.proofs.Common.{◌≡◌, ◌≢◌, ◌⊎◌, inl, inr, ℕ, ◌<◌, ◌≤◌, Bool, true, false, length, refl, sym, ap, ◌∙◌, subst}
use Rattle.epoch_machine.specs.Letters.{Letter, Request, Connect, Cdn, Fsr}
use Rattle.epoch_machine.specs.Tunnels.{Tunnels, Open, is_established}
use Rattle.epoch_machine.specs.Channels.{Channels, Stands}
use Rattle.epoch_machine.specs.Calls.{Calls}
use Rattle.epoch_laws.specs.Epochs.{EpochsHold}
use Rattle.epoch_laws.proofs.Growth.{TunnelsGrow}
use Rattle.birth_laws.proofs.Means.{CallsGrow, LettersGrow, Known as Drawn}
use Rattle.coverage_laws.specs.Coverage.{MadeBy, LivedIn, Mates, QueriesHold}
use Rattle.coverage_laws.proofs.Inputs.{WasOpen, queries_step}
use Rattle.coverage_laws.proofs.Takings.{Takings}
use Rattle.coverage_laws.proofs.Present.{Connected, Asked, Ended}

-- a letter that neither asks for a call, ends one, nor answers a query
abbrev pub put_quiet : Letter → Bool
put_quiet (Request z) = false
put_quiet (Cdn own y) = false
put_quiet (Fsr own y b) = false
put_quiet l = true

-- a letter that neither ends a call, answers a query, nor connects a call
abbrev pub take_quiet : Letter → Bool
take_quiet (Cdn own y) = false
take_quiet (Fsr own y b) = false
take_quiet (Connect z) = false
take_quiet l = true

no_way : {A : Type 0} (f : Letter → Bool) (l m : Letter) → f l ≡ true → l ≡ m → f m ≡ false → A
no_way f l m a e b = absurd (let c : f m ≡ true = ap f (sym e) ∙ a in let d : true ≡ false = sym c ∙ b in cc)

module _ (t u : Tunnels) (h g : Channels) (c d : Calls) (x e : ℕ) (l l1 : Letter) where
  pub record Puts : Type 0 where
    pub request : (z j header : ℕ) → l ≡ Request z → Stands h x e j (Cdn z header) → ⊥
    pub header : (own : ℕ) → l ≡ Cdn own 0 → own ≢ 0 → (d.drawn own ≡ true) × (d.mate own ≡ 0)
    pub after : (own header : ℕ) → l ≡ Cdn own header → own ≢ 0 → MadeBy d own e
    pub denial : (own header : ℕ) → l ≡ Fsr own header false → d.over own ≡ true
    pub answer : (own header : ℕ) → l ≡ Fsr own header true → LivedIn d x e own

  pub record Tooks : Type 0 where
    pub cdn : (own header z : ℕ) → l1 ≡ Cdn own header → own ≢ 0 → Mates d own z → d.over z ≡ true
    pub denial : (own z : ℕ) → l1 ≡ Fsr own z false → d.over z ≡ true
    pub connect : (z : ℕ) → l1 ≡ Connect z → (d.up z ≡ true) ⊎ (d.over z ≡ true)

  pub puts_quiet : put_quiet l ≡ true → Puts
  puts_quiet q = record { request = λ z j y f st. no_way put_quiet l (Request z) q f refl; header = λ own f n. no_way put_quiet l (Cdn own 0) q f refl; after = λ own y f n. no_way put_quiet l (Cdn own y) q f refl; denial = λ own y f. no_way put_quiet l (Fsr own y false) q f refl; answer = λ own y f. no_way put_quiet l (Fsr own y true) q f refl }

  pub tooks_quiet : take_quiet l1 ≡ true → Tooks
  tooks_quiet q = record { cdn = λ own y z f n m. no_way take_quiet l1 (Cdn own y) q f refl; denial = λ own z f. no_way take_quiet l1 (Fsr own z false) q f refl; connect = λ z f. no_way take_quiet l1 (Connect z) q f refl }

  same_mates : ((y : ℕ) → d.mate y ≡ c.mate y) → (y z : ℕ) → Mates d y z → Mates c y z
  same_mates same y z (inl a) = inl (sym (same y) ∙ a.0, a.1)
  same_mates same y z (inr a) = inr (sym (same z) ∙ a.0, a.1)

  drawn_by : Drawn c → (y z : ℕ) → Mates c y z → c.drawn z ≡ true
  drawn_by k y z (inl a) = subst (λ (q : ℕ). c.drawn q ≡ true) a.0 (k.mate y (λ e. a.1 (sym a.0 ∙ e))).1
  drawn_by k y z (inr a) = (k.mate z (λ e. a.1 (sym a.0 ∙ e))).0

  pub finish : TunnelsGrow t u → CallsGrow c d → Drawn c → LettersGrow h g x e l → QueriesHold t h c → Takings t u h g l1 → ((y f : ℕ) → length (h.sent y f) ≤ length (g.sent y f)) → ((f j : ℕ) (m : Letter) → Stands g 0 f j m → ⊥) → Puts → Tooks → ((y f j own header z : ℕ) → Stands h (t.learned y) f j (Cdn own header) → j < h.taken y f → own ≢ 0 → d.tunnel z ≡ y → Mates d own z → Mates c own z × (c.tunnel z ≡ y)) → Connected t u g c d → Asked t u g c d → Ended t u g c d → QueriesHold u g d
  finish tg cg k lg ok tk longer nameless p q mates a b f = queries_step t u h g c d x e l l1 tg cg k lg record {
    behind = tk.behind;
    taken = tk.taken;
    longer = longer;
    nameless = nameless;
    put_request = p.request;
    put_header = p.header;
    put_after = p.after;
    put_denial = p.denial;
    put_answer = p.answer;
    took_cdn = q.cdn;
    took_denial = q.denial;
    took_connect = q.connect;
    mates = mates;
    connected = a;
    asked = b;
    ended = f;
  } ok

  pub finish_same : TunnelsGrow t u → CallsGrow c d → Drawn c → LettersGrow h g x e l → QueriesHold t h c → Takings t u h g l1 → ((y f : ℕ) → length (h.sent y f) ≤ length (g.sent y f)) → ((f j : ℕ) (m : Letter) → Stands g 0 f j m → ⊥) → Puts → Tooks → ((y : ℕ) → d.mate y ≡ c.mate y) → Connected t u g c d → Asked t u g c d → Ended t u g c d → QueriesHold u g d
  finish_same tg cg k lg ok tk longer nameless p q same a b f = finish tg cg k lg ok tk longer nameless p q (λ y f j own header z st below n at m. let v = same_mates same own z m in (v, sym (cg.tunnel z (drawn_by k own z v)) ∙ at)) a b f

pub was_open : (t u : Tunnels) (y : ℕ) → EpochsHold t → t.phase y ≡ Open → u.entered y ≡ t.entered y → WasOpen t u y
was_open t u y ep p e = record { phase = p; entered = e; learned = (ep.established_linked y (ap is_established p)).to_name }
