-- Which tunnel a control message reaches, of an end whose tunnels have other ends apart.
use Rattle.std.proofs.Common.{◌≡◌, inl, inr, ⊎_elim, ℕ, Bool, true, false, cond, eqb, List, [], ◌∷◌, refl, sym, ap, ◌∙◌, Option, Some, None, Ok}
use Rattle.std.proofs.lemmas.Bool.{true≢false, eqb-true, ne_eqb, eq-eqb}
use Rattle.std.proofs.lemmas.Option.{none-some}
use Rattle.std.specs.Prelude.{◌==◌}
use Rattle.std.specs.List.{find}
use Rattle.id_table.specs.Ids.{at, is_at-same, ids_of}
use Rattle.l2tp_header.specs.declared.header.Header.{Header}
use Rattle.l2tp_header.specs.Reading.{header_of, body_of}
use Rattle.end_model.specs.declared.event.Addressee.TheVariants.{Opens, Stops, Main}
use Rattle.end_model.specs.Reading.{at_zero, at_tunnel}
use Rattle.end_model.specs.Tunnels.{Tunnel}
use Rattle.end_model.specs.End.{End, is_known, known_as, opens_once, addressed, main_of, reached_by, reached_plain}
use Rattle.step_laws.specs.Letters.{Among}
use Rattle.step_laws.specs.Moves.{IsAgain, IsStop, IsFor}
use Rattle.connection_laws.proofs.Reached.{and_left, and_right}

-- ---- what is found

-- where one passes a test, one is found that passes
record IsFound {X : Type 0} (p : X → Bool) (xs : List X) : Type 0 where
  one : X
  found : find p xs ≡ Some one
  passes : p one ≡ true

finds : {X : Type 0} (p : X → Bool) (xs : List X) (x : X) → Among x xs → p x ≡ true → IsFound p xs
finds p [] x a pass = absurd a
finds p (y ∷ xs) x a pass = by (p y) refl (λ b. finds p xs x b pass)
  where
    by : (b : Bool) → p y ≡ b → (Among x xs → IsFound p xs) → IsFound p (y ∷ xs)
    by true is later = record { one = y; found = rw is refl; passes = is }
    by false is later =
        let k = later (⊎_elim (λ (e : y ≡ x). absurd (true≢false (sym pass ∙ (ap p (sym e) ∙ is)))) (λ b. b) a) in
        record { one = k.one; found = rw is k.found; passes = k.passes }

module _ {X : Type 0} where
  at_cons : (e : ℕ × X) (es : List (ℕ × X)) (q : ℕ) → at (e ∷ es) q ≡ cond (eqb q e.0) (Some e.1) (at es q)
  unfolding at
  at_cons e es q = ap (λ b. cond b (Some e.1) (at es q)) (is_at-same q e.0)

  at_nil : (q : ℕ) → at {X = X} [] q ≡ None
  unfolding at
  at_nil q = refl

  -- what a table has stands under one of its ids
  id_among : (es : List (ℕ × X)) (i : ℕ) (x : X) → at es i ≡ Some x → Among i (ids_of es)
  id_among [] i x h = absurd (none-some x (sym (at_nil i) ∙ h))
  id_among (e ∷ es) i x h = by (eqb i e.0) refl (sym (at_cons e es i) ∙ h) (id_among es i x)
    where
      by : (b : Bool) → eqb i e.0 ≡ b → cond b (Some e.1) (at es i) ≡ Some x → (at es i ≡ Some x → Among i (ids_of es)) → Among i (ids_of (e ∷ es))
      by true is h later = inl (sym (eqb-true i e.0 is))
      by false is h later = inr (later h)

-- ---- a tunnel that is known by its peer and the peer's id

record IsKnown (peer remote : ℕ) (o : Option Tunnel) : Type 0 where
  tunnel : Tunnel
  is : o ≡ Some tunnel
  peer_is : tunnel.control.peer ≡ peer
  remote_is : tunnel.control.remote ≡ remote

known_is : (peer remote : ℕ) (o : Option Tunnel) → is_known peer remote o ≡ true → IsKnown peer remote o
known_is peer remote None h = absurd (true≢false (sym h))
known_is peer remote (Some t) h =
    record {
      tunnel = t;
      is = refl;
      peer_is = eqb-true t.control.peer peer (and_left (t.control.peer == peer) (t.control.remote == remote) h);
      remote_is = eqb-true t.control.remote remote (and_right (t.control.peer == peer) (t.control.remote == remote) h);
    }

is_known_so : (peer remote : ℕ) (t : Tunnel) → t.control.peer ≡ peer → t.control.remote ≡ remote → is_known peer remote (Some t) ≡ true
is_known_so peer remote t p r = rw (p, r, eq-eqb peer peer refl, eq-eqb remote remote refl) refl

-- no two of its tunnels have the same other end
abbrev pub AreApart : End → Type 0
AreApart e = (i j : ℕ) (t u : Tunnel) → at e.tunnels i ≡ Some t → at e.tunnels j ≡ Some u → t.control.peer ≡ u.control.peer → t.control.remote ≡ u.control.remote
    → (t.control.remote ≡ 0 → ⊥) → i ≡ j

module _ (e : End) (apart : AreApart e) (i : ℕ) (t : Tunnel) (there : at e.tunnels i ≡ Some t) where
  -- no other one is
  known_here : (t.control.remote ≡ 0 → ⊥) → known_as t.control.peer t.control.remote e.tunnels ≡ Some i
  unfolding known_as
  known_here some =
      let peer = t.control.peer in
      let remote = t.control.remote in
      let f = finds (λ j. is_known peer remote (at e.tunnels j)) (ids_of e.tunnels) i (id_among e.tunnels i t there)
      (rw there (is_known_so peer remote t refl refl)) in
      let k = known_is peer remote (at e.tunnels f.one) f.passes in
      f.found ∙ ap (λ j. Some j) (sym (apart i f.one t k.tunnel there k.is (sym k.peer_is) (sym k.remote_is) some))

-- ---- what a control message is for

main_there : (e : End) (i : ℕ) (t : Tunnel) → at e.tunnels i ≡ Some t → main_of e (Main i) ≡ Some t.control
unfolding main_of
main_there e i t there = rw there refl

-- the one that is named
named_main : (e : End) (h : Header) (body : List ℕ) (i : ℕ) (t : Tunnel) → h.tunnel ≡ i → (i ≡ 0 → ⊥) → at e.tunnels i ≡ Some t
    → addressed e t.control.peer h body ≡ Main i
unfolding addressed at_tunnel
named_main e h body i t named some there = rw (named, ne_eqb i 0 some, there, eq-eqb t.control.peer t.control.peer refl) refl

-- an SCCRQ that comes again is for the tunnel that it opened
again_main : (e : End) (peer : ℕ) (h : Header) (body : List ℕ) (i r : ℕ) → h.tunnel ≡ 0 → at_zero body ≡ Opens r → known_as peer r e.tunnels ≡ Some i
    → addressed e peer h body ≡ Main i
unfolding addressed opens_once
again_main e peer h body i r none opens known = rw (none, opens, known) refl

-- a StopCCN is for the tunnel whose peer's id it tells
stop_main : (e : End) (peer : ℕ) (h : Header) (body : List ℕ) (i r : ℕ) → h.tunnel ≡ 0 → at_zero body ≡ Stops r → known_as peer r e.tunnels ≡ Some i
    → addressed e peer h body ≡ Main i
unfolding addressed opens_once
stop_main e peer h body i r none stops known = rw (none, stops, known) refl

main_reached : (e : End) (peer : ℕ) (bytes : List ℕ) (h : Header) (i : ℕ) (t : Tunnel) → at e.tunnels i ≡ Some t → header_of bytes ≡ Ok h → h.control ≡ true
    → addressed e peer h (body_of bytes h) ≡ Main i → reached_plain e peer bytes ≡ Some t.control
unfolding reached_plain reached_by
main_reached e peer bytes h i t there read control main = rw read
    (ap (λ b. cond b (main_of e (addressed e peer h (body_of bytes h))) None) control ∙ (ap (λ a. main_of e a) main ∙ main_there e i t there))

-- a control message that is for a live tunnel, and from its peer, reaches it
pub is_reached : (e : End) → AreApart e → (i : ℕ) (t : Tunnel) → at e.tunnels i ≡ Some t → t.control.local ≡ i → (i ≡ 0 → ⊥)
    → (bytes : List ℕ) (h : Header) → header_of bytes ≡ Ok h → h.control ≡ true
    → ((r : ℕ) → at_zero (body_of bytes h) ≡ Opens r → r ≡ 0 → ⊥) → ((r : ℕ) → at_zero (body_of bytes h) ≡ Stops r → r ≡ 0 → ⊥)
    → IsFor h (body_of bytes h) t.control → reached_plain e t.control.peer bytes ≡ Some t.control
is_reached e apart i t there local some bytes h read control opens stops is = ⊎_elim
    (λ (named : h.tunnel ≡ t.control.local).
    main_reached e t.control.peer bytes h i t there read control
    (named_main e h (body_of bytes h) i t (named ∙ local) some there))
    (λ other. ⊎_elim
    (λ (again : IsAgain h (body_of bytes h) t.control).
    main_reached e t.control.peer bytes h i t there read control
    (again_main e t.control.peer h (body_of bytes h) i t.control.remote again.none again.opens
    (known_here e apart i t there (opens t.control.remote again.opens))))
    (λ (stop : IsStop h (body_of bytes h) t.control).
    main_reached e t.control.peer bytes h i t there read control
    (stop_main e t.control.peer h (body_of bytes h) i t.control.remote stop.none stop.stops
    (known_here e apart i t there (stops t.control.remote stop.stops))))
    other)
    is
