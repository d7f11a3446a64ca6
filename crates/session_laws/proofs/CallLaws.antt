-- What the machine's letters and calls tell of each other: whom a CDN names, and that no two calls know the same one.
use Rattle.std.proofs.Common.{◌≡◌, ◌≢◌, ◌⊎◌, ⊎_elim, ℕ, Bool, true, false, cond, ◌&&◌, List, refl, sym, ap, ◌∙◌, subst, Some, None, arith, eq-eqb}
use Rattle.std.specs.Prelude.{◌==◌}
use Rattle.std.proofs.lemmas.Bool.{true≢false, eqb-true, lt-ltb, ltb-true, ltb-false}
use Rattle.epoch_machine.specs.Names.{is_name}
use Rattle.epoch_machine.specs.Letters.{Request, Cdn}
use Rattle.epoch_machine.specs.Channels.{Stands}
use Rattle.epoch_machine.specs.Calls.{Calls, Waits, is_named}
use Rattle.epoch_machine.specs.Worlds.{World, all_rules}
use Rattle.epoch_machine.specs.Moves as moves
use Rattle.birth_laws.specs.Births.{CallsHold, LettersMean, Refused, BirthsOfRuns}

-- what holds of a world of a run
pub record WorldHolds (w : World) : Type 0 where
  pub calls : CallsHold w.tunnels w.calls
  pub letters : LettersMean w.tunnels w.channels w.calls

pub world_holds : BirthsOfRuns → (w : World) (ms : List moves.Move) → w ≡ moves.after all_rules ms → WorldHolds w
world_holds laws w ms run = subst (λ v. WorldHolds v) (sym run) (record { calls = laws.calls ms; letters = laws.letters ms })

module _ (w : World) (ok : WorldHolds w) where
  -- a call that is requested has a name, which was drawn
  pub request_own : (x e k z : ℕ) → Stands w.channels x e k (Request z) → (z ≢ 0) × (w.calls.drawn z ≡ true)
  request_own x e k z there = let m = ok.letters.means x e k (Request z) there in (m.0, m.1)

  -- so has one whose end is told with no header
  pub cdn_own : (x e k own : ℕ) → Stands w.channels x e k (Cdn own 0) → (own ≢ 0) × (w.calls.drawn own ≡ true)
  cdn_own x e k own there = ⊎_elim
      (λ (zero : own ≡ 0).
      let r = ok.letters.refused x e k 0 (rw zero at there) in
      absurd ((request_own r.sender e r.request.place 0 r.request.stands).0 refl))
      (λ (m : (own ≢ 0) × (w.calls.drawn own ≡ true) × (w.calls.tunnel own ≡ x) × (w.calls.over own ≡ true) × ((0 ≡ 0) ⊎ (w.calls.remote own ≡ 0))).
      (m.0, m.1))
      (ok.letters.means x e k (Cdn own 0) there)

  -- a call that waits was made at no epoch
  unmade : (y e : ℕ) → w.calls.state y ≡ Waits → w.calls.made y ≡ Some e → ⊥
  unmade y e waits made = let none = (ok.calls.waits y waits).0 in let no : None ≡ Some e = sym none ∙ made in absurd cc

  refused_waits : (x e y : ℕ) → Refused w.tunnels w.channels w.calls x e y → w.calls.state y ≡ Waits → ⊥
  refused_waits x e y r waits = unmade y e waits (ok.letters.means r.sender e r.request.place (Request y) r.request.stands).3

  -- nor does another one know it
  unknown : (own y : ℕ) → own ≢ 0 → y ≢ 0 → w.calls.remote own ≡ y → w.calls.state y ≡ Waits → ⊥
  unknown own y some named remote waits =
      let known : w.calls.remote own ≢ 0 = λ none. named (sym remote ∙ none) in
      ⊎_elim
      (λ (mate : w.calls.mate own ≡ w.calls.remote own).
      let is : w.calls.mate own ≡ y = mate ∙ remote in
      let made = ok.calls.mate_made own (λ none. named (sym is ∙ none)) in
      made.1 (made.0 ∙ ap w.calls.made is ∙ (ok.calls.waits y waits).0))
      (λ (mate : w.calls.mate (w.calls.remote own) ≡ own).
      some (sym mate ∙ ap w.calls.mate remote ∙ (ok.calls.waits y waits).2))
      (ok.calls.remote_mates own known)

  -- so no CDN names it
  pub waits_unnamed : (x e k own y : ℕ) → Stands w.channels x e k (Cdn own y) → y ≢ 0 → w.calls.state y ≡ Waits → ⊥
  waits_unnamed x e k own y there named waits = ⊎_elim
      (λ (zero : own ≡ 0). refused_waits x e y (ok.letters.refused x e k y (rw zero at there)) waits)
      (λ (m : (own ≢ 0) × (w.calls.drawn own ≡ true) × (w.calls.tunnel own ≡ x) × (w.calls.over own ≡ true) × ((y ≡ 0) ⊎ (w.calls.remote own ≡ y))).
      ⊎_elim (λ (none : y ≡ 0). named none) (λ (remote : w.calls.remote own ≡ y). unknown own y m.0 named remote waits) m.4)
      (ok.letters.means x e k (Cdn own y) there)

  -- two calls that know the same one are one
  pub remote_once : (y z r : ℕ) → y ≢ 0 → z ≢ 0 → r ≢ 0 → w.calls.remote y ≡ r → w.calls.remote z ≡ r → y ≡ z
  remote_once y z r ysome zsome some yknows zknows =
      let yknown : w.calls.remote y ≢ 0 = λ none. some (sym yknows ∙ none) in
      let zknown : w.calls.remote z ≢ 0 = λ none. some (sym zknows ∙ none) in
      ⊎_elim
      (λ (a : w.calls.mate y ≡ w.calls.remote y).
      let ya : w.calls.mate y ≡ r = a ∙ yknows in
      ⊎_elim
      (λ (b : w.calls.mate z ≡ w.calls.remote z). ok.calls.mate_once y z (λ none. some (sym ya ∙ none)) (ya ∙ sym zknows ∙ sym b))
      (λ (b : w.calls.mate (w.calls.remote z) ≡ z). absurd (replies_not y z r zsome some ya (sym (ap w.calls.mate zknows) ∙ b)))
      (ok.calls.remote_mates z zknown))
      (λ (a : w.calls.mate (w.calls.remote y) ≡ y).
      let ra : w.calls.mate r ≡ y = sym (ap w.calls.mate yknows) ∙ a in
      ⊎_elim
      (λ (b : w.calls.mate z ≡ w.calls.remote z). absurd (replies_not z y r ysome some (b ∙ zknows) ra))
      (λ (b : w.calls.mate (w.calls.remote z) ≡ z). sym ra ∙ sym (ap w.calls.mate zknows) ∙ b)
      (ok.calls.remote_mates z zknown))
      (ok.calls.remote_mates y yknown)
    where
      -- a call that replies has no reply
      replies_not : (y z r : ℕ) → z ≢ 0 → r ≢ 0 → w.calls.mate y ≡ r → w.calls.mate r ≡ z → ⊥
      replies_not y z r zsome some ya ra =
          let none = ok.calls.mate_asks y (λ none. some (sym ya ∙ none)) in
          zsome (sym ra ∙ sym (ap w.calls.mate ya) ∙ none)

-- ---- whom a CDN names

-- by its header, or, where that is 0, by its own name
pub data Named (c : Calls) (own header z : ℕ) : Type 0 where
  ByHeader : header ≢ 0 → z ≡ header → Named c own header z
  ByRemote : header ≡ 0 → own ≢ 0 → c.remote z ≡ own → Named c own header z

first_true : (a b : Bool) → (a && b) ≡ true → a ≡ true
first_true true b h = refl
first_true false b h = h

second_true : (a b : Bool) → (a && b) ≡ true → b ≡ true
second_true true b h = h
second_true false b h = absurd (true≢false (sym h))

some_name : (k : ℕ) → is_name k ≡ true → k ≢ 0
some_name k h none = let lt = ltb-true 0 k h in let no_such : ⊥ = omega arith in no_such

no_name : (k : ℕ) → is_name k ≡ false → k ≡ 0
no_name k h = let le = ltb-false 0 k h in omega arith

pub named_tells : (c : Calls) (x own header z : ℕ) → is_named c x own header z ≡ true → (c.tunnel z ≡ x) × Named c own header z
named_tells c x own header z h =
    (eqb-true (c.tunnel z) x (first_true _ _ h), by (is_name header) refl (second_true _ _ h))
  where
    by : (b : Bool) → is_name header ≡ b → cond b (z == header) (is_name own && (c.remote z == own)) ≡ true → Named c own header z
    by true is g = ByHeader (some_name header is) (eqb-true z header g)
    by false is g = ByRemote (no_name header is) (some_name own (first_true _ _ g)) (eqb-true (c.remote z) own (second_true _ _ g))

is_some_name : (k : ℕ) → k ≢ 0 → is_name k ≡ true
is_some_name k some = lt-ltb 0 k (omega (arith, some))

-- so named
pub tells_named : (c : Calls) (x own header z : ℕ) → c.tunnel z ≡ x → Named c own header z → is_named c x own header z ≡ true
tells_named c x own header z tunnel (ByHeader some is) = rw (tunnel, eq-eqb x x refl, is_some_name header some, is, eq-eqb header header refl) refl
tells_named c x own header z tunnel (ByRemote none some is) = rw (tunnel, eq-eqb x x refl, none, is_some_name own some, is, eq-eqb own own refl) refl
