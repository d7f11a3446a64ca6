-- An FSQ, its answer, and what is heard of that, are moves of the machine: one for each session.
use Rattle.std.proofs.Common.{◌≡◌, ◌≢◌, ⊎_elim, ℕ, suc, ◌+◌, Bool, true, false, not, ◌&&◌, List, [], ◌∷◌, ◌++◌, map, length, slice_get, refl, sym, ap, ◌∙◌, subst, Some, le-leb, lt-ltb, arith}
use Rattle.std.proofs.lemmas.Bool.{eq-eqb, ne_eqb}
use Rattle.std.proofs.lemmas.List.{append_assoc, append-nil}
use Rattle.std.specs.Prelude.{◌==◌, ◌||◌, nat_lt, if◌then◌else◌}
use Rattle.std.specs.List.{AllByRecursion}
use Rattle.id_table.specs.Order.{same_or_not}
use Rattle.epoch_machine.specs.Names.{assign}
use Rattle.epoch_machine.specs.Letters.{Letter, Fsq, Fsr}
use Rattle.epoch_machine.specs.Tunnels.{Phase, Open, is_open, is_active}
use Rattle.epoch_machine.specs.Channels.{puts, counts}
use Rattle.epoch_machine.specs.Calls.{Calls, ends, is_call, is_told, stands_with}
use Rattle.epoch_machine.specs.Worlds.{World, Rules, all_rules, gives, took_one, takes, takes_open, answers_query, takes_answer}
use Rattle.epoch_machine.specs.Moves.{Delivers, Queries, may_query, queries, may_take, delivers, step, goes_on}
use Rattle.recovery_laws.proofs.Pairs.{some_number}
use Rattle.recovery_laws.specs.Asking.{GoesOn, Asked, asking, IsToAsk, AsksByMoves, delivered, StandFrom, TakesFrom, answers, AnswersByMoves, Told, told_one, told_all, HearsByMoves, QueriesAreMoves}

-- ---- channels that go on

module _ {X : Type 0} where
  now : (f : ℕ → X) (k : ℕ) (v : X) → assign f k v k ≡ v
  now f k v = ap (λ b. if b then v else f k) (eq-eqb k k refl)

  otherwise : (f : ℕ → X) (k : ℕ) (v : X) (n : ℕ) → (n ≡ k → ⊥) → assign f k v n ≡ f n
  otherwise f k v n other = ap (λ b. if b then v else f n) (ne_eqb n k other)

  -- a table of two numbers, at another place
  apart : (f : ℕ → ℕ → X) (x e : ℕ) (v : X) (y d : ℕ) → (y ≡ x → d ≡ e → ⊥) → assign f x (assign (f x) e v) y d ≡ f y d
  apart f x e v y d other = ⊎_elim
      (λ (same : y ≡ x).
      ap (λ q. assign f x (assign (f x) e v) q d) same
      ∙ (ap (λ g. g d) (nows f x (assign (f x) e v)) ∙ (otherwise (f x) e v d (λ is. other same is) ∙ ap (λ q. f q d) (sym same))))
      (λ (not_same : y ≡ x → ⊥). by (y == x) (ne_eqb y x not_same))
      (same_or_not y x)
    where
      nows : (f : ℕ → ℕ → X) (k : ℕ) (v : ℕ → X) → assign f k v k ≡ v
      nows f k v = ap (λ b. if b then v else f k) (eq-eqb k k refl)

      by : (b : Bool) → b ≡ false → (if b then assign (f x) e v else f y) d ≡ f y d
      by b is = ap (λ c. (if c then assign (f x) e v else f y) d) is

  here : (f : ℕ → ℕ → X) (x e : ℕ) (v : X) → assign f x (assign (f x) e v) x e ≡ v
  here f x e v = ap (λ b. (if b then assign (f x) e v else f x) e) (eq-eqb x x refl) ∙ now (f x) e v

pub gave_one : (w : World) (x : ℕ) (l : Letter) → GoesOn w (gives w x l) x (w.tunnels.entered x) (l ∷ []) 0
unfolding gives puts
gave_one w x l = record {
  tunnels = refl;
  refused = refl;
  sent = here w.channels.sent x (w.tunnels.entered x) _;
  taken = omega arith;
  others_sent = λ y d other. apart w.channels.sent x (w.tunnels.entered x) _ y d other;
  others_taken = λ y d other. refl;
}

pub took_it : (w : World) (x : ℕ) → GoesOn w (took_one w x) x (w.tunnels.entered x) [] 1
unfolding took_one counts
took_it w x = record {
  tunnels = refl;
  refused = refl;
  sent = sym (append-nil (w.channels.sent x (w.tunnels.entered x)));
  taken = here w.channels.taken x (w.tunnels.entered x) _ ∙ omega arith;
  others_sent = λ y d other. refl;
  others_taken = λ y d other. apart w.channels.taken x (w.tunnels.entered x) _ y d other;
}

pub none : (w v : World) (x e : ℕ) → v.tunnels ≡ w.tunnels → v.channels ≡ w.channels → GoesOn w v x e [] 0
none w v x e tunnels channels = record {
  tunnels = tunnels;
  refused = ap (λ (c : Rattle.epoch_machine.specs.Channels.Channels). c.refused) channels;
  sent = ap (λ (c : Rattle.epoch_machine.specs.Channels.Channels). c.sent x e) channels ∙ sym (append-nil (w.channels.sent x e));
  taken = ap (λ (c : Rattle.epoch_machine.specs.Channels.Channels). c.taken x e) channels ∙ omega arith;
  others_sent = λ y d other. ap (λ (c : Rattle.epoch_machine.specs.Channels.Channels). c.sent y d) channels;
  others_taken = λ y d other. ap (λ (c : Rattle.epoch_machine.specs.Channels.Channels). c.taken y d) channels;
}

pub more : (w u v : World) (x e : ℕ) (ls ms : List Letter) (a b : ℕ) → GoesOn w u x e ls a → GoesOn u v x e ms b
    → GoesOn w v x e (ls ++ ms) (a + b)
more w u v x e ls ms a b p q = record {
  tunnels = q.tunnels ∙ p.tunnels;
  refused = q.refused ∙ p.refused;
  sent = q.sent ∙ (ap (λ s. s ++ ms) p.sent ∙ append_assoc (w.channels.sent x e) ls ms);
  taken = (let one = p.taken in let two = q.taken in omega (arith, one, two));
  others_sent = λ y d other. q.others_sent y d other ∙ p.others_sent y d other;
  others_taken = λ y d other. q.others_taken y d other ∙ p.others_taken y d other;
}

-- one that is taken more
more_one : (w u v : World) (x e : ℕ) (ls ms : List Letter) (b : ℕ) → GoesOn w u x e ls 1 → GoesOn u v x e ms b
    → GoesOn w v x e (ls ++ ms) (suc b)
more_one w u v x e ls ms b p q =
    let one : 1 + b ≡ suc b = omega arith in
    subst (λ c. GoesOn w v x e (ls ++ ms) c) one (more w u v x e ls ms 1 b p q)

-- ---- asking

asks_one : (r : Rules) (w : World) (x : ℕ) (q : Asked) → w.tunnels.phase x ≡ Open → w.calls.asks x q.own ≡ true
    → w.calls.held x (w.tunnels.entered x) q.own ≡ q.other → step r w (Queries x q.own) ≡ gives w x (Fsq q.own q.other)
unfolding step may_query queries
asks_one r w x q open_is asks held =
    ap (λ p. if is_open p && w.calls.asks x q.own then queries w x q.own else w) open_is
    ∙ (ap (λ b. if b then queries w x q.own else w) asks ∙ ap (λ y. gives w x (Fsq q.own y)) held)

pub gave_calls : (w : World) (x : ℕ) (l : Letter) → ((gives w x l).calls ≡ w.calls) × ((gives w x l).tunnels ≡ w.tunnels)
unfolding gives
gave_calls w x l = (refl, refl)

asks_all : AsksByMoves
unfolding goes_on
asks_all r w x [] open_is all = (none w w x (w.tunnels.entered x) refl refl, refl)
asks_all r w x (q ∷ qs) open_is all = subst
    (λ (u : World). GoesOn w (goes_on r u (asking x qs)) x (w.tunnels.entered x)
    (Fsq q.own q.other ∷ map (λ (q : Asked). Fsq q.own q.other) qs) 0
    × ((goes_on r u (asking x qs)).calls ≡ w.calls))
    (sym (asks_one r w x q open_is all.0.0 all.0.1))
    (let u = gives w x (Fsq q.own q.other) in
    let rest = asks_all r u x qs (later_open open_is) (later_asks qs all.1) in (
      more w u (goes_on r u (asking x qs)) x (w.tunnels.entered x) (Fsq q.own q.other ∷ []) _ 0 0 (gave_one w x (Fsq q.own q.other))
          (in_epoch rest.0),
      rest.1 ∙ (gave_calls w x (Fsq q.own q.other)).0,
    ))
  where
    later_open : w.tunnels.phase x ≡ Open → (gives w x (Fsq q.own q.other)).tunnels.phase x ≡ Open
    later_open is = ap (λ (t : Rattle.epoch_machine.specs.Tunnels.Tunnels). t.phase x) (gave_calls w x (Fsq q.own q.other)).1 ∙ is

    same_epoch : (gives w x (Fsq q.own q.other)).tunnels.entered x ≡ w.tunnels.entered x
    same_epoch = ap (λ (t : Rattle.epoch_machine.specs.Tunnels.Tunnels). t.entered x) (gave_calls w x (Fsq q.own q.other)).1

    in_epoch : {v : World} {ls : List Letter}
        → GoesOn (gives w x (Fsq q.own q.other)) v x ((gives w x (Fsq q.own q.other)).tunnels.entered x) ls 0
        → GoesOn (gives w x (Fsq q.own q.other)) v x (w.tunnels.entered x) ls 0
    in_epoch {v} {ls} g = subst (λ e. GoesOn (gives w x (Fsq q.own q.other)) v x e ls 0) same_epoch g

    later_asks : (more_asked : List Asked) → AllByRecursion (IsToAsk w x) more_asked
        → AllByRecursion (IsToAsk (gives w x (Fsq q.own q.other)) x) more_asked
    later_asks [] h = h
    later_asks (a ∷ later) h = (
      (
        ap (λ (c : Rattle.epoch_machine.specs.Calls.Calls). c.asks x a.own) (gave_calls w x (Fsq q.own q.other)).0 ∙ h.0.0,
        ap (λ (c : Rattle.epoch_machine.specs.Calls.Calls). c.held x ((gives w x (Fsq q.own q.other)).tunnels.entered x) a.own)
            (gave_calls w x (Fsq q.own q.other)).0
            ∙ (ap (λ e. w.calls.held x e a.own) same_epoch ∙ h.0.1),
      ),
      later_asks later h.1,
    )

-- ---- what is delivered

is_name_so : (s : ℕ) → s ≢ 0 → nat_lt 0 s ≡ true
is_name_so s some = lt-ltb 0 s (some_number s some)

both_true : (a b : Bool) → a ≡ true → b ≡ true → (a && b) ≡ true
both_true a b x y = ap (λ c. c && b) x ∙ y

either_true : (a b : Bool) → a ≡ true → (a || b) ≡ true
either_true a b x = ap (λ c. c || b) x

pub may_take_it : (w : World) (x s e place : ℕ) (l : Letter) → TakesFrom w x s e place → may_take all_rules w x s e place l ≡ true
unfolding may_take
may_take_it w x s e place l t =
    both_true _ _ (ap is_active t.open_is)
    (both_true _ _ (both_true _ _ (is_name_so s t.some) (either_true _ _ (eq-eqb (w.tunnels.learned s) x t.learned)))
    (both_true _ _ (le-leb (w.tunnels.entered x) e (let same = t.entered in omega (arith, same)))
    (eq-eqb place (w.channels.taken x (w.tunnels.entered x)) (sym (ap (w.channels.taken x) t.entered ∙ t.next)))))

pub took_calls : (w : World) (x : ℕ) → ((took_one w x).calls ≡ w.calls) × ((took_one w x).tunnels ≡ w.tunnels)
unfolding took_one
took_calls w x = (refl, refl)

-- what comes next, behind one that was taken
pub later_from : (w u : World) (x s e place : ℕ) (ls : List Letter) → TakesFrom w x s e place → GoesOn w u x e ls 1
    → TakesFrom u x s e (suc place)
later_from w u x s e place ls t g = record {
  open_is = ap (λ (t : Rattle.epoch_machine.specs.Tunnels.Tunnels). t.phase x) g.tunnels ∙ t.open_is;
  entered = ap (λ (t : Rattle.epoch_machine.specs.Tunnels.Tunnels). t.entered x) g.tunnels ∙ t.entered;
  learned = ap (λ (t : Rattle.epoch_machine.specs.Tunnels.Tunnels). t.learned s) g.tunnels ∙ t.learned;
  some = t.some;
  apart = t.apart;
  next = (let more = g.taken in let next = t.next in omega (arith, more, next));
}

later_stands : (w u : World) (x s e place : ℕ) (ls ms : List Letter) → s ≢ x → GoesOn w u x e ls 1 → StandFrom w s e place ms
    → StandFrom u s e place ms
later_stands w u x s e place ls [] apart g h = h
later_stands w u x s e place ls (m ∷ ms) apart g h =
    (ap (λ q. slice_get q place) (g.others_sent s e (λ same d. apart same)) ∙ h.0, later_stands w u x s e (suc place) ls ms apart g h.1)

-- ---- what is answered

answers_one : (w : World) (x s e place : ℕ) (q : Asked) → TakesFrom w x s e place
    → slice_get (w.channels.sent s e) place ≡ Some (Fsq q.own q.other)
    → step all_rules w (Delivers x s e place 0) ≡ gives (took_one w x) x (Fsr q.other q.own (stands_with w.calls x q.other q.own))
unfolding step delivers takes takes_open answers_query took_one
answers_one w x s e place q t is =
    ap (λ o. delivers all_rules w x s e place 0 o) is
    ∙ (ap (λ b. if b then takes all_rules (took_one w x) x s (Fsq q.own q.other) 0 else w) (may_take_it w x s e place (Fsq q.own q.other) t)
    ∙ ap (λ p. if is_open p then takes_open all_rules (took_one w x) x (Fsq q.own q.other) 0 else took_one w x) t.open_is)

pub answered_one : (w : World) (x s e place : ℕ) (l : Letter) → TakesFrom w x s e place → GoesOn w (gives (took_one w x) x l) x e (l ∷ []) 1
answered_one w x s e place l t =
    more w (took_one w x) (gives (took_one w x) x l) x e [] (l ∷ []) 1 0
    (subst (λ d. GoesOn w (took_one w x) x d [] 1) t.entered (took_it w x))
    (subst (λ d. GoesOn (took_one w x) (gives (took_one w x) x l) x d (l ∷ []) 0)
    (ap (λ (t : Rattle.epoch_machine.specs.Tunnels.Tunnels). t.entered x) (took_calls w x).1 ∙ t.entered) (gave_one (took_one w x) x l))

answers_all : AnswersByMoves
unfolding goes_on
answers_all w x s e place [] t stand = (none w w x e refl refl, refl)
answers_all w x s e place (q ∷ qs) t stand = subst
    (λ (u : World). GoesOn w (goes_on all_rules u (delivered x s e (suc place) (map (λ (q : Asked). Fsq q.own q.other) qs))) x e
    (answers w.calls x (q ∷ qs)) (suc (length qs))
    × ((goes_on all_rules u (delivered x s e (suc place) (map (λ (q : Asked). Fsq q.own q.other) qs))).calls ≡ w.calls))
    (sym (answers_one w x s e place q t stand.0))
    (let l = Fsr q.other q.own (stands_with w.calls x q.other q.own) in
    let u = gives (took_one w x) x l in
    let on = answered_one w x s e place l t in
    let calls : u.calls ≡ w.calls = (gave_calls (took_one w x) x l).0 ∙ (took_calls w x).0 in
    let rest = answers_all u x s e (suc place) qs (later_from w u x s e place (l ∷ []) t on)
    (later_stands w u x s e (suc place) (l ∷ []) _ t.apart on stand.1) in (
      subst (λ ms. GoesOn w (goes_on all_rules u (delivered x s e (suc place) (map (λ (q : Asked). Fsq q.own q.other) qs))) x e (l ∷ ms)
          (suc (length qs)))
          (ap (λ c. answers c x qs) calls) (more_one w u _ x e (l ∷ []) (answers u.calls x qs) (length qs) on rest.0),
      rest.1 ∙ calls,
    ))

-- ---- what is heard

hears_one : (w : World) (x s e place : ℕ) (a : Told) → TakesFrom w x s e place
    → slice_get (w.channels.sent s e) place ≡ Some (Fsr a.own a.call a.here)
    → step all_rules w (Delivers x s e place 0) ≡ record (took_one w x) { calls = told_one w.calls x a }
unfolding step delivers takes takes_open takes_answer took_one
hears_one w x s e place a t is =
    ap (λ o. delivers all_rules w x s e place 0 o) is
    ∙ (ap (λ b. if b then takes all_rules (took_one w x) x s (Fsr a.own a.call a.here) 0 else w)
    (may_take_it w x s e place (Fsr a.own a.call a.here) t)
    ∙ (ap (λ p. if is_open p then takes_open all_rules (took_one w x) x (Fsr a.own a.call a.here) 0 else took_one w x) t.open_is
    ∙ by (not a.here && stands_with w.calls x a.call a.own)))
  where
    by : (b : Bool)
        → (if b then record (took_one w x) { calls = ends (is_told w.calls x a.call) (is_call a.call) } else record
        (took_one w x) { calls = is_told w.calls x a.call })
        ≡ record (took_one w x) { calls = if b then ends (is_told w.calls x a.call) (is_call a.call) else is_told w.calls x a.call }
    by true = refl
    by false = refl

pub heard_one : (w : World) (x s e place : ℕ) (c : Calls) → TakesFrom w x s e place → GoesOn w (record (took_one w x) { calls = c }) x e [] 1
heard_one w x s e place c t =
    more w (took_one w x) (record (took_one w x) { calls = c }) x e [] [] 1 0
    (subst (λ d. GoesOn w (took_one w x) x d [] 1) t.entered (took_it w x))
    (none (took_one w x) (record (took_one w x) { calls = c }) x e refl refl)

hears_all : HearsByMoves
unfolding goes_on
hears_all w x s e place [] t stand = (none w w x e refl refl, refl)
hears_all w x s e place (a ∷ later) t stand = subst
    (λ (u : World). GoesOn w
    (goes_on all_rules u (delivered x s e (suc place) (map (λ (a : Told). Fsr a.own a.call a.here) later))) x e [] (suc (length later))
    × ((goes_on all_rules u (delivered x s e (suc place) (map (λ (a : Told). Fsr a.own a.call a.here) later))).calls ≡ told_all
    (told_one w.calls x a) x later))
    (sym (hears_one w x s e place a t stand.0))
    (let u = record (took_one w x) { calls = told_one w.calls x a } in
    let on = heard_one w x s e place (told_one w.calls x a) t in
    let rest = hears_all u x s e (suc place) later (later_from w u x s e place [] t on)
    (later_stands w u x s e (suc place) [] _ t.apart on stand.1) in
    (more_one w u _ x e [] [] (length later) on rest.0, rest.1))

pub queries_are_moves : QueriesAreMoves
queries_are_moves = record { asks = asks_all; answers = answers_all; hears = hears_all }
