-- What a step must show to keep what holds of queries.
use Rattle.std.proofs.Common.{◌≡◌, ◌≢◌, ◌⊎◌, inl, inr, ⊎_elim, ℕ, ◌<◌, ◌≤◌, true, false, length, Some, None, sym, ap, ◌∙◌, subst, arith}
use Rattle.epoch_machine.specs.Letters.{Letter, Request, Connect, Cdn, Fsr}
use Rattle.epoch_machine.specs.Tunnels.{Tunnels, Open}
use Rattle.epoch_machine.specs.Channels.{Channels, Stands}
use Rattle.epoch_machine.specs.Calls.{Calls, Up}
use Rattle.epoch_machine.proofs.Places.{Put, stands_below}
use Rattle.epoch_laws.proofs.Growth.{TunnelsGrow}
use Rattle.birth_laws.proofs.Means.{CallsGrow, LettersGrow, Known as Drawn}
use Rattle.coverage_laws.specs.Coverage.{MadeBy, LivedIn, Mates, Known, ConnectPut, AnswerTaken, QueriesHold}

-- as before: the tunnel was open, in the same epoch
pub record WasOpen (t u : Tunnels) (x : ℕ) : Type 0 where
  pub phase : t.phase x ≡ Open
  pub entered : u.entered x ≡ t.entered x
  pub learned : t.learned x ≢ 0

module _ (t u : Tunnels) (h g : Channels) (c d : Calls) (x e : ℕ) (l : Letter) (l1 : Letter) where
  pub record Inputs : Type 0 where
    -- what is taken stood there before: it was taken before, or is the letter that is taken now
    pub behind : (y f : ℕ) → u.learned y ≢ 0 → g.taken y f ≤ length (h.sent (u.learned y) f)
    pub taken : (y f j : ℕ) (m : Letter) → j < g.taken y f → Stands h (u.learned y) f j m → ((j < h.taken y f) × (t.learned y ≡ u.learned y)) ⊎ (m ≡ l1)
    pub longer : (y f : ℕ) → length (h.sent y f) ≤ length (g.sent y f)
    pub nameless : (f j : ℕ) (m : Letter) → Stands g 0 f j m → ⊥
    -- of the letter that is put
    pub put_request : (z j header : ℕ) → l ≡ Request z → Stands h x e j (Cdn z header) → ⊥
    pub put_header : (own : ℕ) → l ≡ Cdn own 0 → own ≢ 0 → (d.drawn own ≡ true) × (d.mate own ≡ 0)
    pub put_after : (own header : ℕ) → l ≡ Cdn own header → own ≢ 0 → MadeBy d own e
    pub put_denial : (own header : ℕ) → l ≡ Fsr own header false → d.over own ≡ true
    pub put_answer : (own header : ℕ) → l ≡ Fsr own header true → LivedIn d x e own
    -- of the letter that is taken
    pub took_cdn : (own header z : ℕ) → l1 ≡ Cdn own header → own ≢ 0 → Mates d own z → d.over z ≡ true
    pub took_denial : (own z : ℕ) → l1 ≡ Fsr own z false → d.over z ≡ true
    pub took_connect : (z : ℕ) → l1 ≡ Connect z → (d.up z ≡ true) ⊎ (d.over z ≡ true)
    -- a call with a CDN taken has no new mate
    pub mates : (y f j own header z : ℕ) → Stands h (t.learned y) f j (Cdn own header) → j < h.taken y f → own ≢ 0 → d.tunnel z ≡ y → Mates d own z → Mates c own z × (c.tunnel z ≡ y)
    -- of the present
    pub connected : (z : ℕ) → u.phase (d.tunnel z) ≡ Open → d.state z ≡ Up → d.mate z ≡ 0 → d.made z ≡ Some (u.entered (d.tunnel z)) → ConnectPut g (d.tunnel z) (u.entered (d.tunnel z)) (d.remote z) ⊎ (WasOpen t u (c.tunnel z) × (c.state z ≡ Up) × (c.mate z ≡ 0) × (c.made z ≡ Some (t.entered (c.tunnel z))) × (d.tunnel z ≡ c.tunnel z) × (d.remote z ≡ c.remote z))
    pub asked : (y z : ℕ) → u.phase y ≡ Open → d.held y (u.entered y) z ≢ 0 → (d.asks y z ≡ true) ⊎ (AnswerTaken u g y (u.entered y) (d.held y (u.entered y) z) z ⊎ (WasOpen t u y × (c.held y (t.entered y) z ≢ 0) × (c.asks y z ≡ true → d.asks y z ≡ true)))
    pub ended : (z : ℕ) → u.phase (d.tunnel z) ≡ Open → LivedIn d (d.tunnel z) (u.entered (d.tunnel z)) z → d.over z ≡ true → Known u g d (d.tunnel z) (u.entered (d.tunnel z)) z ⊎ (WasOpen t u (c.tunnel z) × LivedIn c (c.tunnel z) (t.entered (c.tunnel z)) z × (c.over z ≡ true) × (d.tunnel z ≡ c.tunnel z))

  module _ (tg : TunnelsGrow t u) (cg : CallsGrow c d) (k : Drawn c) (lg : LettersGrow h g x e l) (s : Inputs) (ok : QueriesHold t h c) where
    -- a letter below what is taken stood before
    stood : (y f j : ℕ) (m : Letter) → u.learned y ≢ 0 → Stands g (u.learned y) f j m → j < g.taken y f → Stands h (u.learned y) f j m
    stood y f j m n st below = ⊎_elim (λ a. a) (λ p. absurd (let b = s.behind y f n in let q = p.place in let r : length (h.sent (u.learned y) f) ≡ length (h.sent x e) = ap length (ap (λ (a : ℕ). h.sent a f) p.tunnel ∙ ap (λ (a : ℕ). h.sent x a) p.epoch) in omega arith)) (lg.before (u.learned y) f j m st)

    known_later : (y f z : ℕ) → t.learned y ≢ 0 → Known t h c y f z → Known u g d y f z
    known_later y f z n (inl a) = inl record { place = a.place; header = a.header; stands = lg.later y f a.place _ a.stands }
    known_later y f z n (inr (inl a)) = inr (inl record {
      place = a.place;
      own = a.own;
      header = a.header;
      stands = rw (tg.learned y n) (lg.later (t.learned y) f a.place _ a.stands);
      taken = (let b = a.taken in let q = lg.taken y f in omega arith);
      names = ⊎_elim (λ b. inl b) (λ b. inr (b.0, b.1, cg.remote z (λ q. b.1 (sym b.2 ∙ q)) ∙ b.2)) a.names;
    })
    known_later y f z n (inr (inr a)) = inr (inr record { place = a.place; own = a.own; stands = rw (tg.learned y n) (lg.later (t.learned y) f a.place _ a.stands); taken = (let b = a.taken in let q = lg.taken y f in omega arith) })

    lived_later : (y f z : ℕ) → LivedIn c y f z → LivedIn d y f z
    lived_later y f z (inl a) = inl (λ q. a (sym (cg.held y f z a) ∙ q))
    lived_later y f z (inr a) = inr (cg.made z (λ q. (let b : Some f ≡ None = sym a ∙ q in cc)) ∙ a)

    other_end : (y f j : ℕ) (m : Letter) → Stands g (u.learned y) f j m → u.learned y ≢ 0
    other_end y f j m st e = s.nameless f j m (subst (λ (a : ℕ). Stands g a f j m) e st)

    -- what was taken before, or is taken now
    taken_or_now : (y f j : ℕ) (m : Letter) → Stands g (u.learned y) f j m → j < g.taken y f → ((j < h.taken y f) × Stands h (t.learned y) f j m) ⊎ (m ≡ l1)
    taken_or_now y f j m st below = let a = stood y f j m (other_end y f j m st) st below in ⊎_elim (λ b. inl (b.0, subst (λ (q : ℕ). Stands h q f j m) (sym b.1) a)) (λ b. inr b) (s.taken y f j m below a)

    at_put : (y f j : ℕ) (m : Letter) (P : ℕ → ℕ → Type 0) → Put h x e l y f j m → P x e → P y f
    at_put y f j m P p q = subst (λ (a : ℕ). P a f) (sym p.tunnel) (subst (λ (a : ℕ). P x a) (sym p.epoch) q)

    there : (y f i j : ℕ) (m n : Letter) → Put h x e l y f i m → Stands h y f j n → Stands h x e j n
    there y f i j m n p st = subst (λ (a : ℕ). Stands h a e j n) p.tunnel (subst (λ (a : ℕ). Stands h y a j n) p.epoch st)

    request_first : (y f i j z header : ℕ) → Stands g y f i (Request z) → Stands g y f j (Cdn z header) → i < j
    request_first y f i j z header a b = ⊎_elim
        (λ p. ⊎_elim (λ q. ok.request_first y f i j z header p q) (λ q. (let r = stands_below h x e i (Request z) (there y f j i (Cdn z header) (Request z) q p) in let v = q.place in omega arith)) (lg.before y f j (Cdn z header) b))
        (λ p. ⊎_elim (λ q. absurd (s.put_request z j header (sym p.letter) (there y f i j (Request z) (Cdn z header) p q))) (λ q. absurd (let r : Request z ≡ Cdn z header = p.letter ∙ sym q.letter in cc)) (lg.before y f j (Cdn z header) b))
        (lg.before y f i (Request z) a)

    no_header : (y f j own : ℕ) → Stands g y f j (Cdn own 0) → own ≢ 0 → (d.drawn own ≡ true) × (d.mate own ≡ 0)
    no_header y f j own st n = ⊎_elim (λ a. let b = ok.no_header y f j own a n in (cg.drawn own b.0, cg.mate own b.0 ∙ b.1)) (λ p. s.put_header own (sym p.letter) n) (lg.before y f j (Cdn own 0) st)

    made_before : (y f j own header : ℕ) → Stands g y f j (Cdn own header) → own ≢ 0 → MadeBy d own f
    made_before y f j own header st n = ⊎_elim {C = MadeBy d own f} (λ a. let b = ok.made_before y f j own header a n in record { epoch = b.epoch; made = cg.made own (λ q. (let v : Some b.epoch ≡ None = sym b.made ∙ q in cc)) ∙ b.made; before = b.before }) (λ p. subst (λ (q : ℕ). MadeBy d own q) (sym p.epoch) (s.put_after own header (sym p.letter) n)) (lg.before y f j (Cdn own header) st)

    not_here : (y f j own header : ℕ) → Stands g y f j (Fsr own header false) → d.over own ≡ true
    not_here y f j own header st = ⊎_elim (λ a. cg.over own (ok.not_here y f j own header a)) (λ p. s.put_denial own header (sym p.letter)) (lg.before y f j (Fsr own header false) st)

    is_here : (y f j own header : ℕ) → Stands g y f j (Fsr own header true) → LivedIn d y f own
    is_here y f j own header st = ⊎_elim {C = LivedIn d y f own} (λ a. lived_later y f own (ok.here y f j own header a)) (λ p. at_put y f j (Fsr own header true) (λ a b. LivedIn d a b own) p (s.put_answer own header (sym p.letter))) (lg.before y f j (Fsr own header true) st)

    cdn_taken : (y f j own header z : ℕ) → Stands g (u.learned y) f j (Cdn own header) → j < g.taken y f → own ≢ 0 → d.tunnel z ≡ y → Mates d own z → d.over z ≡ true
    cdn_taken y f j own header z st below n at m = ⊎_elim (λ a. let b = s.mates y f j own header z a.1 a.0 n at m in cg.over z (ok.cdn_taken y f j own header z a.1 a.0 n b.1 b.0)) (λ a. s.took_cdn own header z (sym a) n m) (taken_or_now y f j (Cdn own header) st below)

    denial_taken : (y f j own z : ℕ) → Stands g (u.learned y) f j (Fsr own z false) → j < g.taken y f → d.over z ≡ true
    denial_taken y f j own z st below = ⊎_elim (λ a. cg.over z (ok.denial_taken y f j own z a.1 a.0)) (λ a. s.took_denial own z (sym a)) (taken_or_now y f j (Fsr own z false) st below)

    connect_taken : (y f j z : ℕ) → Stands g (u.learned y) f j (Connect z) → j < g.taken y f → (d.up z ≡ true) ⊎ (d.over z ≡ true)
    connect_taken y f j z st below = ⊎_elim (λ a. ⊎_elim (λ b. inl (cg.up z b)) (λ b. inr (cg.over z b)) (ok.connect_taken y f j z a.1 a.0)) (λ a. s.took_connect z (sym a)) (taken_or_now y f j (Connect z) st below)

    connected : (z : ℕ) → u.phase (d.tunnel z) ≡ Open → d.state z ≡ Up → d.mate z ≡ 0 → d.made z ≡ Some (u.entered (d.tunnel z)) → ConnectPut g (d.tunnel z) (u.entered (d.tunnel z)) (d.remote z)
    connected z p up m made = ⊎_elim (λ a. a) old (s.connected z p up m made)
      where
        old : WasOpen t u (c.tunnel z) × (c.state z ≡ Up) × (c.mate z ≡ 0) × (c.made z ≡ Some (t.entered (c.tunnel z))) × (d.tunnel z ≡ c.tunnel z) × (d.remote z ≡ c.remote z) → ConnectPut g (d.tunnel z) (u.entered (d.tunnel z)) (d.remote z)
        old a = let b = ok.connected z a.0.phase a.1 a.2 a.3 in rw (a.4, a.5, a.0.entered) record { place = b.place; stands = lg.later (c.tunnel z) (t.entered (c.tunnel z)) b.place (Connect (c.remote z)) b.stands }

    asked : (y z : ℕ) → u.phase y ≡ Open → d.held y (u.entered y) z ≢ 0 → (d.asks y z ≡ true) ⊎ AnswerTaken u g y (u.entered y) (d.held y (u.entered y) z) z
    asked y z p n = ⊎_elim (λ a. inl a) (λ a. ⊎_elim (λ b. inr b) (λ b. ⊎_elim (λ q. inl (b.2 q)) (λ q. inr (answer b.0 b.1 q)) (ok.asked y z b.0.phase b.1)) a) (s.asked y z p n)
      where
        answer : WasOpen t u y → c.held y (t.entered y) z ≢ 0 → AnswerTaken t h y (t.entered y) (c.held y (t.entered y) z) z → AnswerTaken u g y (u.entered y) (d.held y (u.entered y) z) z
        answer o m q = rw (o.entered, cg.held y (t.entered y) z m) record { place = q.place; here = q.here; stands = rw (tg.learned y o.learned) (lg.later (t.learned y) (t.entered y) q.place (Fsr (c.held y (t.entered y) z) z q.here) q.stands); taken = (let a = q.taken in let b = lg.taken y (t.entered y) in omega arith) }

    no_silent_end : (z : ℕ) → u.phase (d.tunnel z) ≡ Open → LivedIn d (d.tunnel z) (u.entered (d.tunnel z)) z → d.over z ≡ true → Known u g d (d.tunnel z) (u.entered (d.tunnel z)) z
    no_silent_end z p lived over = ⊎_elim (λ a. a) old (s.ended z p lived over)
      where
        old : WasOpen t u (c.tunnel z) × LivedIn c (c.tunnel z) (t.entered (c.tunnel z)) z × (c.over z ≡ true) × (d.tunnel z ≡ c.tunnel z) → Known u g d (d.tunnel z) (u.entered (d.tunnel z)) z
        old a = let b = ok.no_silent_end z a.0.phase a.1 a.2 in let k = known_later (c.tunnel z) (t.entered (c.tunnel z)) z a.0.learned b in subst (λ (q : ℕ). Known u g d q (u.entered q) z) (sym a.3) (subst (λ (q : ℕ). Known u g d (c.tunnel z) q z) (sym a.0.entered) k)

    pub queries_step : QueriesHold u g d
    queries_step = record {
      within = λ y f n. (let a = s.behind y f n in let b = s.longer (u.learned y) f in omega arith);
      request_first = request_first;
      no_header = no_header;
      made_before = made_before;
      not_here = not_here;
      here = is_here;
      cdn_taken = cdn_taken;
      denial_taken = denial_taken;
      connect_taken = connect_taken;
      connected = connected;
      asked = asked;
      no_silent_end = no_silent_end;
    }
