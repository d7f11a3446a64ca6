-- What an end hears of an answer is what the machine hears, where a world is joined with it.
use Rattle.std.proofs.Common.{◌≡◌, ⊎_elim, ℕ, ◌<◌, Bool, true, false, not, ◌&&◌, List, [], ◌∷◌, map, refl, sym, ap, ap₂, ◌∙◌, subst, cond}
use Rattle.std.proofs.lemmas.Bool.{eqb-true, eq-eqb, ne_eqb}
use Rattle.std.specs.Prelude.{◌==◌, ◌||◌, filter, if◌then◌else◌}
use Rattle.std.specs.List.{AllByRecursion, list_any}
use Rattle.id_table.specs.Order.{same_or_not}
use Rattle.wire_base.specs.declared.pair.Pair.{Pair}
use Rattle.session_query.specs.Queries.{gone_if, gone_in}
use Rattle.end_model.specs.Querying.{stands, ended_of}
use Rattle.end_model.specs.Tunnels.{Tunnel}
use Rattle.epoch_machine.specs.Worlds as machine
use Rattle.birth_laws.specs.Births.{BirthsOfRuns}
use Rattle.coverage_laws.specs.Coverage.{CoverageOfRuns}
use Rattle.session_laws.specs.Names.{name}
use Rattle.epoch_machine.specs.Names.{assign}
use Rattle.epoch_machine.specs.Calls.{Calls, CallState, NoCall, is_up, ends, is_call, is_told, stands_with}
use Rattle.recovery_laws.specs.Asking.{Told, told_one, told_all}
use Rattle.recovery_laws.specs.Hearing.{EndsCalls, told_for, JoinedWorldsHear}
use Rattle.recovery_laws.proofs.Answers.{TunnelCalls, tunnel_calls, session_stands}
use Rattle.recovery_laws.proofs.Pairs.{ground_of}

-- whether an answer ends the call that it is about
abbrev ends_it : Calls → ℕ → Told → Bool
ends_it c x a = not a.here && stands_with c x a.call a.own

abbrev ends_this : Calls → ℕ → ℕ → Told → Bool
ends_this c x z a = (a.call == z) && ends_it c x a

-- one answer
one_ends : (c : Calls) (x : ℕ) (a : Told) → EndsCalls c (told_one c x a) x (λ z. ends_this c x z a) (λ z. a.call == z)
unfolding ends is_told
one_ends c x a = by (ends_it c x a)
  where
    turn : (p q : ℕ) → (p == q) ≡ (q == p)
    turn p q = ⊎_elim (λ (same : p ≡ q). eq-eqb p q same ∙ sym (eq-eqb q p (sym same)))
        (λ (other : p ≡ q → ⊥). ne_eqb p q other ∙ sym (ne_eqb q p (λ same. other (sym same))))
        (same_or_not p q)

    and_true : (b : Bool) → (b && true) ≡ b
    and_true true = refl
    and_true false = refl

    and_false : (b : Bool) → (b && false) ≡ false
    and_false true = refl
    and_false false = refl

    asks_so : (y z : ℕ) → assign c.asks x (assign (c.asks x) a.call false) y z ≡ (if (y == x) && (a.call == z) then false else c.asks y z)
    asks_so y z = ⊎_elim
        (λ (same : y ≡ x).
        ap (λ b. (if b then assign (c.asks x) a.call false else c.asks y) z) (eq-eqb y x same)
        ∙ (ap (λ b. if b then false else c.asks x z) (turn z a.call)
        ∙ (ap (λ q. if a.call == z then false else c.asks q z) (sym same) ∙ sym
        (ap (λ b. if b && (a.call == z) then false else c.asks y z) (eq-eqb y x same)))))
        (λ (other : y ≡ x → ⊥).
        ap (λ b. (if b then assign (c.asks x) a.call false else c.asks y) z) (ne_eqb y x other)
        ∙ sym (ap (λ b. if b && (a.call == z) then false else c.asks y z) (ne_eqb y x other)))
        (same_or_not y x)

    by : (b : Bool)
        → EndsCalls c (if b then ends (is_told c x a.call) (is_call a.call) else is_told c x a.call) x (λ z. (a.call == z) && b)
        (λ z. a.call == z)
    by true = record {
      state = λ z. ap (λ b. if b then NoCall else c.state z) (turn z a.call ∙ sym (and_true (a.call == z)));
      booked = λ z. ap (λ b. if b then false else c.booked z) (turn z a.call ∙ sym (and_true (a.call == z)));
      asks = asks_so;
      drawn = refl;
      tunnel = refl;
      remote = refl;
      births = refl;
      birth = refl;
      mate = refl;
      made = refl;
      up = refl;
      held = refl;
    }
    by false = record {
      state = λ z. sym (ap (λ b. if b then NoCall else c.state z) (and_false (a.call == z)));
      booked = λ z. sym (ap (λ b. if b then false else c.booked z) (and_false (a.call == z)));
      asks = asks_so;
      drawn = refl;
      tunnel = refl;
      remote = refl;
      births = refl;
      birth = refl;
      mate = refl;
      made = refl;
      up = refl;
      held = refl;
    }

-- one lot after another
both_end : (c d e : Calls) (x : ℕ) (k l p q : ℕ → Bool) → EndsCalls c d x k p → EndsCalls d e x l q
    → EndsCalls c e x (λ z. k z || l z) (λ z. p z || q z)
both_end c d e x k l p q a b = record {
  state = λ z. b.state z ∙ (ap (λ s. if l z then NoCall else s) (a.state z) ∙ over (k z) (l z) NoCall (c.state z));
  booked = λ z. b.booked z ∙ (ap (λ s. if l z then false else s) (a.booked z) ∙ over (k z) (l z) false (c.booked z));
  asks = λ y z. b.asks y z ∙ (ap (λ s. if (y == x) && q z then false else s) (a.asks y z) ∙ within (y == x) (p z) (q z) (c.asks y z));
  drawn = b.drawn ∙ a.drawn;
  tunnel = b.tunnel ∙ a.tunnel;
  remote = b.remote ∙ a.remote;
  births = b.births ∙ a.births;
  birth = b.birth ∙ a.birth;
  mate = b.mate ∙ a.mate;
  made = b.made ∙ a.made;
  up = b.up ∙ a.up;
  held = b.held ∙ a.held;
}
  where
    over : {X : Type 0} (k l : Bool) (v w : X) → (if l then v else if k then v else w) ≡ (if k || l then v else w)
    over true true v w = refl
    over true false v w = refl
    over false true v w = refl
    over false false v w = refl

    within : (y p q s : Bool) → (if y && q then false else if y && p then false else s) ≡ (if y && (p || q) then false else s)
    within true true true s = refl
    within true true false s = refl
    within true false true s = refl
    within true false false s = refl
    within false p q s = refl

-- which end by one and by another: the later ones end by what stood before, but for those that ended
later_same : (c d : Calls) (x z : ℕ) (told : ℕ → Bool) (a : Told) (rest : List Told) → EndsCalls c d x (λ z. ends_this c x z a) told
    → ends_this c x z a ≡ false
    → list_any (ends_this d x z) rest ≡ list_any (ends_this c x z) rest
later_same c d x z told a [] e not_this = refl
later_same c d x z told a (b ∷ rest) e not_this = ap₂ (λ p q. p || q) (by (b.call == z) refl) (later_same c d x z told a rest e not_this)
  where
    by : (s : Bool) → (b.call == z) ≡ s → (s && ends_it d x b) ≡ (s && ends_it c x b)
    by false is = refl
    by true is =
        let same = eqb-true b.call z is in
        let state : d.state b.call ≡ c.state b.call =
        e.state b.call ∙ ap (λ q. if q then NoCall else c.state b.call) (ap (λ q. ends_this c x q a) same ∙ not_this) in
        ap₂ (λ (f : ℕ → ℕ) (s : CallState). not b.here && ((f b.call == x) && (is_up s && (d.remote b.call == b.own)))) e.tunnel state
        ∙ ap (λ (f : ℕ → ℕ). not b.here && ((c.tunnel b.call == x) && (is_up (c.state b.call) && (f b.call == b.own)))) e.remote

pub all_end : (c : Calls) (x : ℕ) (told : List Told)
    → EndsCalls c (told_all c x told) x (λ z. list_any (ends_this c x z) told) (λ z. list_any (λ (a : Told). a.call == z) told)
all_end c x [] = record {
  state = λ z. refl;
  booked = λ z. refl;
  asks = λ y z. none (y == x) (c.asks y z);
  drawn = refl;
  tunnel = refl;
  remote = refl;
  births = refl;
  birth = refl;
  mate = refl;
  made = refl;
  up = refl;
  held = refl;
}
  where
    none : (b s : Bool) → s ≡ (if b && false then false else s)
    none true s = refl
    none false s = refl
all_end c x (a ∷ rest) =
    subst (λ k. EndsCalls c (told_all (told_one c x a) x rest) x k (λ z. (a.call == z) || list_any (λ (a : Told). a.call == z) rest))
    (λ j z. same z (ends_this c x z a) refl j)
    (both_end c (told_one c x a) (told_all (told_one c x a) x rest) x (λ z. ends_this c x z a)
    (λ z. list_any (ends_this (told_one c x a) x z) rest) (λ z. a.call == z)
    (λ z. list_any (λ (a : Told). a.call == z) rest) (one_ends c x a) (all_end (told_one c x a) x rest))
  where
    same : (z : ℕ) (b : Bool) → ends_this c x z a ≡ b
        → (ends_this c x z a || list_any (ends_this (told_one c x a) x z) rest) ≡ (ends_this c x z a || list_any (ends_this c x z) rest)
    same z true is = ap (λ b. b || list_any (ends_this (told_one c x a) x z) rest) is ∙ sym
        (ap (λ b. b || list_any (ends_this c x z) rest) is)
    same z false is = ap (λ b. ends_this c x z a || b) (later_same c (told_one c x a) x z (λ z. a.call == z) a rest (one_ends c x a) is)

-- ---- what an end ends

module _ (fits : ℕ → Type 0) (m : machine.World) (n i peer : ℕ) (t : Tunnel) (g : TunnelCalls fits m n i peer t) where
  ends_same : (z : ℕ) (asked answers : List Pair) → AllByRecursion (λ (p : Pair). fits p.sender) asked
      → list_any (ends_this m.calls (name n i) z) (told_for n peer asked answers)
      ≡ list_any (λ s. name n s == z) (ended_of t.calls (gone_in asked answers))
  unfolding ended_of
  ends_same z [] answers fit = refl
  ends_same z (q ∷ qs) [] fit = refl
  ends_same z (q ∷ qs) (a ∷ later) fit =
      ap (λ b. ((name n q.sender == z) && (not (not (a.sender == 0)) && b)) || list_any (ends_this m.calls (name n i) z)
      (told_for n peer qs later))
      (session_stands fits m n i peer t g q.sender q.receiver fit.0)
      ∙ (ap (λ b. ((name n q.sender == z) && (not (not (a.sender == 0)) && stands t.calls q)) || b) (ends_same z qs later fit.1)
      ∙ by (a.sender == 0))
    where
      others : List Pair
      others = filter (λ p. stands t.calls p) (gone_in qs later)

      said : List Pair → Bool
      said ps = list_any (λ s. name n s == z) (map (λ (p : Pair). p.sender) ps)

      none : (e : Bool) → (e && false) ≡ false
      none true = refl
      none false = refl

      all : (e : Bool) → (e && true) ≡ e
      all true = refl
      all false = refl

      here : (u : Bool) → stands t.calls q ≡ u
          → (((name n q.sender == z) && u) || said others) ≡ said (cond (stands t.calls q) (q ∷ others) others)
      here true is_it = ap (λ b. b || said others) (all (name n q.sender == z)) ∙ sym (ap (λ b. said (cond b (q ∷ others) others)) is_it)
      here false is_it = ap (λ b. b || said others) (none (name n q.sender == z)) ∙ sym (ap (λ b. said (cond b (q ∷ others) others)) is_it)

      by : (b : Bool) → (((name n q.sender == z) && (not (not b) && stands t.calls q)) || said others)
          ≡ said (filter (λ p. stands t.calls p) (gone_if b q (gone_in qs later)))
      by true = here (stands t.calls q) refl
      by false = ap (λ b. b || said others) (none (name n q.sender == z))

  pub hears_so : (asked answers : List Pair) → AllByRecursion (λ (p : Pair). fits p.sender) asked
      → EndsCalls m.calls (told_all m.calls (name n i) (told_for n peer asked answers)) (name n i)
      (λ z. list_any (λ s. name n s == z) (ended_of t.calls (gone_in asked answers)))
      (λ z. list_any (λ (a : Told). a.call == z) (told_for n peer asked answers))
  hears_so asked answers fit =
      subst (λ k. EndsCalls m.calls (told_all m.calls (name n i) (told_for n peer asked answers)) (name n i) k
      (λ z. list_any (λ (a : Told). a.call == z) (told_for n peer asked answers)))
      (λ j z. ends_same z asked answers fit j) (all_end m.calls (name n i) (told_for n peer asked answers))

pub joined_worlds_hear : BirthsOfRuns → CoverageOfRuns → JoinedWorldsHear
joined_worlds_hear births coverage w h m nodes holds joined n i t is asked answers fit =
    hears_so (λ r. r < 65536) m n i (h.accounts n i 0).peer t
    (tunnel_calls w h m (ground_of births coverage w h m nodes holds joined) n i t is) asked answers
    fit
