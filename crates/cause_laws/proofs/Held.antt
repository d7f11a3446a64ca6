-- Of the hosts that a LAC holds no two came by one address and Host-Uniq: as a host enters that came so before, it isn't the holder of the
-- session that it had.
use Rattle.std.proofs.Common.{◌≡◌, ◌⊎◌, inl, inr, ⊎_elim, ℕ, ◌<◌, Bool, true, false, cond, ◌&&◌, List, [], ◌∷◌, ◌++◌, Option, Some, None, refl, sym, ap, ◌∙◌, subst, eqb, arith}
use Rattle.std.specs.Prelude.{find, is_some, if◌then◌else◌}
use Rattle.std.specs.Bool.{nat_eq}
use Rattle.std.specs.Cmp.Lexicographic.{pointwise}
use Rattle.std.specs.Option.{option_map, option_eq}
use Rattle.std.proofs.lemmas.Bool.{eqb-true, ne_eqb, eq-eqb, true≢false}
use Rattle.std.proofs.lemmas.Option.{none-some}
use Rattle.std.proofs.lemmas.Slice.Eq.{bytes_eq-Decides}
use Rattle.id_table.specs.Ids.{at, put, without, at-none, at-cons}
use Rattle.id_table.specs.Order.{IsAbove, Ascends, ascends-empty, ascends-put, ascends-without, at_other, at_without_other, found_put, found_without}
use Rattle.pppoe_session.specs.declared.Subscriber.{Subscriber}
use Rattle.pppoe_session.specs.Subscribers.{subscriber, subscriber_of, admitted, dropped, is_repeat, repeat_in}
use Rattle.end_model.specs.End.{End, Stepped}
use Rattle.end_model.specs.Access.{Access, holds, forgets, with_host, entered, session_got}
use Rattle.cause_laws.specs.Hosts.{CameBy, IsHeld}

-- ---- hosts that are held

same_uniq : (a b : Option (List ℕ)) → option_eq (pointwise nat_eq) a b ≡ true → a ≡ b
same_uniq None None h = refl
same_uniq None (Some y) h = absurd cc
same_uniq (Some x) None h = absurd cc
same_uniq (Some x) (Some y) h = ap (λ (v : List ℕ). Some v) ((bytes_eq-Decides x y).0 h)

uniq_same : (a : Option (List ℕ)) → option_eq (pointwise nat_eq) a a ≡ true
uniq_same None = refl
uniq_same (Some x) = (bytes_eq-Decides x x).1 refl

both_true : (a b : Bool) → (a && b) ≡ true → (a ≡ true) × (b ≡ true)
both_true true b h = (refl, h)
both_true false b h = absurd cc

module _ (src : List ℕ) (uniq : Option (List ℕ)) where
  repeats_by : (h : ℕ × Subscriber) → CameBy src uniq h → is_repeat src uniq h.1 ≡ true
  unfolding is_repeat
  repeats_by h came = rw (came.0, came.1, (bytes_eq-Decides src src).1 refl, uniq_same uniq) refl

  came_by : (h : ℕ × Subscriber) → is_repeat src uniq h.1 ≡ true → CameBy src uniq h
  unfolding is_repeat
  came_by h is =
      let both = both_true (pointwise nat_eq h.1.mac src) (option_eq (pointwise nat_eq) h.1.uniq uniq) is in
      ((bytes_eq-Decides h.1.mac src).0 both.0, same_uniq h.1.uniq uniq both.1)

  -- what is found is held
  pub found_held : (key : List ℕ) (es kept : List (ℕ × Subscriber)) (session : ℕ) → repeat_in es src uniq ≡ Some session
      → IsHeld (record { key = key; held = es; kept = kept }) src uniq session
  unfolding repeat_in
  found_held key [] kept session h = absurd cc
  found_held key (x ∷ es) kept session h = by (is_repeat src uniq x.1) refl h (found_held key es kept session)
    where
      by : (b : Bool) → is_repeat src uniq x.1 ≡ b
          → option_map (λ (e : ℕ × Subscriber). e.0) (cond b (Some x) (find (λ (e : ℕ × Subscriber). is_repeat src uniq e.1) es))
          ≡ Some session
          → (repeat_in es src uniq ≡ Some session → IsHeld (record { key = key; held = es; kept = kept }) src uniq session)
          → IsHeld (record { key = key; held = x ∷ es; kept = kept }) src uniq session
      by true is f later =
          let same : x.0 ≡ session = cc in
          record { before = []; who = x.1; after = es; held = ap (λ (s : ℕ). (s, x.1) ∷ es) same; came = came_by x is }
      by false is f later =
          let rest = later f in
          record {
            before = x ∷ rest.before;
            who = rest.who;
            after = rest.after;
            held = ap (λ hs. x ∷ hs) rest.held;
            came = rest.came;
          }

  -- what came so is found
  some_found : (before after : List (ℕ × Subscriber)) (session : ℕ) (who : Subscriber) → CameBy src uniq (session, who)
      → repeat_in (before ++ (session, who) ∷ after) src uniq ≡ None → ⊥
  unfolding repeat_in
  some_found [] after session who came none = let found = repeats_by (session, who) came in let e = rw found at none in cc
  some_found (h ∷ before) after session who came none = by (is_repeat src uniq h.1) none (some_found before after session who came)
    where
      by : (b : Bool)
          → option_map (λ (e : ℕ × Subscriber). e.0)
          (cond b (Some h) (find (λ (e : ℕ × Subscriber). is_repeat src uniq e.1) (before ++ (session, who) ∷ after))) ≡ None
          → (repeat_in (before ++ (session, who) ∷ after) src uniq ≡ None → ⊥) → ⊥
      by true none later = cc
      by false none later = later none

-- ---- each came once

-- their sessions ascend, and whoever came by one address and Host-Uniq has one session
pub record AreApart (es : List (ℕ × Subscriber)) : Type 0 where
  pub order : Ascends es
  pub one : (s t : ℕ) (who : Subscriber) → at es s ≡ Some who → at es t ≡ Some who → s ≡ t

pub none_apart : AreApart []
none_apart = record {
  order = ascends-empty [] refl;
  one = λ s t who here there. absurd (none-some who (sym (at-none s) ∙ here));
}

-- what stands in an ascending list is found under its session
above_all : (k : ℕ) (before after : List (ℕ × Subscriber)) (session : ℕ) (who : Subscriber)
    → IsAbove k (before ++ (session, who) ∷ after) → k < session
above_all k [] after session who h = h.0
above_all k (e ∷ before) after session who h = above_all k before after session who h.1

in_place : (before after : List (ℕ × Subscriber)) (session : ℕ) (who : Subscriber) → Ascends (before ++ (session, who) ∷ after)
    → at (before ++ (session, who) ∷ after) session ≡ Some who
unfolding Ascends
in_place [] after session who h = rw (at-cons (session, who) after session, eq-eqb session session refl) refl
in_place (e ∷ before) after session who h =
    let less = above_all e.0 before after session who h.0 in
    let other : session ≡ e.0 → ⊥ = λ same. omega (arith, less, same) in
    rw (at-cons e (before ++ (session, who) ∷ after) session, ne_eqb session e.0 other) (in_place before after session who h.1)

is_subscriber : (src : List ℕ) (uniq : Option (List ℕ)) (session : ℕ) (who : Subscriber) → CameBy src uniq (session, who)
    → who ≡ subscriber src uniq
is_subscriber src uniq session who came =
    let whole : subscriber who.mac who.uniq ≡ subscriber src uniq = rw (came.0, came.1) refl in whole

module _ (a : Access) (apart : AreApart a.held) (src : List ℕ) (uniq : Option (List ℕ)) where
  held_there : (session : ℕ) → IsHeld a src uniq session → at a.held session ≡ Some (subscriber src uniq)
  held_there session h =
      let order : Ascends (h.before ++ (session, h.who) ∷ h.after) = subst Ascends h.held apart.order in
      ap (λ es. at es session) h.held
      ∙ (in_place h.before h.after session h.who order ∙ ap (λ w. Some w) (is_subscriber src uniq session h.who h.came))

  -- so a PADR repeats that of one host at most
  pub held_once : (s t : ℕ) → IsHeld a src uniq s → IsHeld a src uniq t → s ≡ t
  held_once s t here there = apart.one s t (subscriber src uniq) (held_there s here) (held_there t there)

  pub held_found : (session : ℕ) → IsHeld a src uniq session → repeat_in a.held src uniq ≡ Some session
  held_found session h = by (repeat_in a.held src uniq) refl
    where
      by : (o : Option ℕ) → repeat_in a.held src uniq ≡ o → repeat_in a.held src uniq ≡ Some session
      by None none =
          absurd (some_found src uniq h.before h.after session h.who h.came (ap (λ es. repeat_in es src uniq) (sym h.held) ∙ none))
      by (Some q) found = found ∙ ap (λ s. Some s) (held_once q session (found_held src uniq a.key a.held a.kept q found) h)

-- ---- a host that enters

module _ (a : Access) (apart : AreApart a.held) (src : List ℕ) (uniq : Option (List ℕ)) (session : ℕ) where
  abbrev entrant : Subscriber
  entrant = subscriber src uniq

  -- what a list has was held before, or is the new one
  abbrev Grows : List (ℕ × Subscriber) → Type 0
  Grows fs = Ascends fs × ((q : ℕ) (x : Subscriber) → at fs q ≡ Some x → (at a.held q ≡ Some x) ⊎ ((entrant ≡ x) × (q ≡ session)))

  grown : Grows (holds a.held session entrant)
  unfolding admitted put
  grown = by (is_some (subscriber_of a.held session))
    where
      by : (b : Bool) → Grows (if b then a.held else admitted a.held session entrant)
      by true = (apart.order, λ q x there. inl there)
      by false = (
        ascends-put session entrant a.held apart.order,
        λ q x there. ⊎_elim (λ new. inr (new.1, new.0)) (λ old. inl old.1) (found_put a.held session entrant q x there),
      )

  -- where nobody in it was held before who came so, each has one session
  apart_so : (fs : List (ℕ × Subscriber)) → Grows fs → ((q : ℕ) → at fs q ≡ Some entrant → at a.held q ≡ Some entrant → ⊥) → AreApart fs
  apart_so fs grows none = record {
    order = grows.0;
    one = λ s t x here there.
        ⊎_elim
        (λ before. ⊎_elim (λ also. apart.one s t x before also) (λ new. absurd (came_before s x new.0 here before)) (grows.1 t x there))
        (λ new. ⊎_elim (λ before. absurd (came_before t x new.0 there before)) (λ also. new.1 ∙ sym also.1) (grows.1 t x there))
        (grows.1 s x here);
  }
    where
      came_before : (q : ℕ) (x : Subscriber) → entrant ≡ x → at fs q ≡ Some x → at a.held q ≡ Some x → ⊥
      came_before q x same there before = none q (there ∙ ap (λ y. Some y) (sym same)) (before ∙ ap (λ y. Some y) (sym same))

  -- who is held is found
  none_held : (es : List (ℕ × Subscriber)) (q : ℕ) → at es q ≡ Some entrant → repeat_in es src uniq ≡ None → ⊥
  unfolding repeat_in
  none_held [] q there none = none-some entrant (sym (at-none q) ∙ there)
  none_held (e ∷ es) q there none = by (eqb q e.0) (sym (at-cons e es q) ∙ there) (is_repeat src uniq e.1) refl none (none_held es q)
    where
      by : (b : Bool) → cond b (Some e.1) (at es q) ≡ Some entrant → (c : Bool) → is_repeat src uniq e.1 ≡ c
          → option_map (λ (h : ℕ × Subscriber). h.0) (cond c (Some e) (find (λ (h : ℕ × Subscriber). is_repeat src uniq h.1) es)) ≡ None
          → (at es q ≡ Some entrant → repeat_in es src uniq ≡ None → ⊥) → ⊥
      by b is true repeats none later = cc
      by true is false repeats none later =
          let same : e.1 ≡ entrant = cc in
          true≢false (sym (repeats_by src uniq e (ap (λ (y : Subscriber). y.mac) same, ap (λ (y : Subscriber). y.uniq) same)) ∙ repeats)
      by false is false repeats none later = later is none

  forgotten : (fs : List (ℕ × Subscriber)) → Grows fs → (o : Option ℕ) → repeat_in a.held src uniq ≡ o → AreApart (forgets o fs)
  unfolding dropped without
  forgotten fs grows None is = apart_so fs grows (λ q there before. none_held a.held q before is)
  forgotten fs grows (Some old) is =
      let host = held_there a apart src uniq old (found_held src uniq a.key a.held a.kept old is) in
      apart_so (without fs old) (
        ascends-without old fs grows.0,
        λ q x there. grows.1 q x (found_without fs old q x grows.0 there).1,
      ) (λ q there before. (found_without fs old q entrant grows.0 there).0 (apart.one q old entrant before host))

-- so it stays as a host enters
pub entered_apart : (a : Access) → AreApart a.held → (before : End) (src : List ℕ) (uniq : Option (List ℕ)) (s : Stepped)
    → AreApart (entered a before src uniq s).held
unfolding entered
entered_apart a apart before src uniq s = by (session_got before s)
  where
    by : (o : Option ℕ) → AreApart (with_host a src uniq o).held
    by None = apart
    by (Some session) =
        forgotten a apart src uniq session (holds a.held session (subscriber src uniq)) (grown a apart src uniq session)
        (repeat_in a.held src uniq) refl

-- ---- a host that stays

-- what is found under a session is held
there_held : (key : List ℕ) (es kept : List (ℕ × Subscriber)) (src : List ℕ) (uniq : Option (List ℕ)) (session : ℕ)
    → at es session ≡ Some (subscriber src uniq) → IsHeld (record { key = key; held = es; kept = kept }) src uniq session
there_held key [] kept src uniq session there = absurd (none-some (subscriber src uniq) (sym (at-none session) ∙ there))
there_held key (e ∷ es) kept src uniq session there =
    by (eqb session e.0) refl (sym (at-cons e es session) ∙ there) (there_held key es kept src uniq session)
  where
    by : (b : Bool) → eqb session e.0 ≡ b → cond b (Some e.1) (at es session) ≡ Some (subscriber src uniq)
        → (at es session ≡ Some (subscriber src uniq) → IsHeld (record { key = key; held = es; kept = kept }) src uniq session)
        → IsHeld (record { key = key; held = e ∷ es; kept = kept }) src uniq session
    by true is found later =
        let same : e.1 ≡ subscriber src uniq = cc in
        record {
          before = [];
          who = e.1;
          after = es;
          held = ap (λ (s : ℕ). (s, e.1) ∷ es) (sym (eqb-true session e.0 is));
          came = (ap (λ (y : Subscriber). y.mac) same, ap (λ (y : Subscriber). y.uniq) same);
        }
    by false is found later =
        let rest = later found in
        record { before = e ∷ rest.before; who = rest.who; after = rest.after; held = ap (λ hs. e ∷ hs) rest.held; came = rest.came }

-- what was held is there behind one that is new
still_held : (es : List (ℕ × Subscriber)) (new session : ℕ) (entrant who : Subscriber) → at es session ≡ Some who
    → at (holds es new entrant) session ≡ Some who
unfolding admitted put subscriber_of at
still_held es new session entrant who there = by (subscriber_of es new) refl
  where
    by : (o : Option Subscriber) → at es new ≡ o → at (if is_some o then es else admitted es new entrant) session ≡ Some who
    by (Some old) is = there
    by None is =
        at_other es new entrant session (λ same. none-some who (sym is ∙ (ap (at es) (sym same) ∙ there))) ∙ there

still_forgotten : (fs : List (ℕ × Subscriber)) (session : ℕ) (who : Subscriber) (o : Option ℕ) → (o ≡ Some session → ⊥)
    → at fs session ≡ Some who → at (forgets o fs) session ≡ Some who
unfolding dropped without
still_forgotten fs session who None other there = there
still_forgotten fs session who (Some old) other there =
    at_without_other fs old session (λ same. other (ap (λ q. Some q) (sym same))) ∙ there

-- a host stays as another one enters, or the same one again, but where its session is the one that is forgotten
pub entered_stays : (a : Access) → AreApart a.held → (before : End) (by_src : List ℕ) (by_uniq : Option (List ℕ)) (s : Stepped)
    (src : List ℕ) (uniq : Option (List ℕ)) (session : ℕ) → IsHeld a src uniq session → (repeat_in a.held by_src by_uniq ≡ Some session → ⊥)
    → IsHeld (entered a before by_src by_uniq s) src uniq session
unfolding entered
entered_stays a apart before by_src by_uniq s src uniq session held other = by (session_got before s)
  where
    there : at a.held session ≡ Some (subscriber src uniq)
    there = held_there a apart src uniq session held

    by : (o : Option ℕ) → IsHeld (with_host a by_src by_uniq o) src uniq session
    by None = held
    by (Some new) =
        let fs = holds a.held new (subscriber by_src by_uniq) in
        there_held a.key (forgets (repeat_in a.held by_src by_uniq) fs) a.kept src uniq session
        (still_forgotten fs session (subscriber src uniq) (repeat_in a.held by_src by_uniq) other
        (still_held a.held new session (subscriber by_src by_uniq) (subscriber src uniq) there))
