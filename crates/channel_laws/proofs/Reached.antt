-- Which tunnel a datagram reaches, and how it is named.
use Rattle.std.proofs.Common.{◌≡◌, ◌⊎◌, inl, inr, ℕ, Bool, true, false, cond, eqb, List, refl, sym, ap, ◌∙◌, Option, Some, None, Ok, Err}
use Rattle.std.proofs.lemmas.Bool.{eqb-true, eqb-false}
use Rattle.std.specs.Prelude.{option_map, is_some, ◌==◌}
use Rattle.id_table.specs.Ids.{at}
use Rattle.wire_base.specs.declared.why.Why.TheVariants as why
use Rattle.l2tp_header.specs.declared.header.Header.{Header}
use Rattle.l2tp_header.specs.declared.header.HeaderError.{HeaderError}
use Rattle.l2tp_header.specs.Reading.{header_of, body_of}
use Rattle.end_model.specs.declared.event.Addressee.{Addressee}
use Rattle.end_model.specs.declared.event.Addressee.TheVariants.{Opens, Stops, Answers, Main, Recovery, Recovers, Nobody}
use Rattle.end_model.specs.declared.tunnel.Control.{Control}
use Rattle.end_model.specs.Reading.{at_zero, at_tunnel}
use Rattle.end_model.specs.Tunnels.{Tunnel}
use Rattle.end_model.specs.End.{End, opens_once, at_line, at_recovery, recovered_by, addressed, main_of, reached_by, reached_plain}

-- how a tunnel is named: by its id, and it goes to the sender's node, or not at all
abbrev pub IsNamed : ℕ → Header → ℕ → Tunnel → Type 0
IsNamed peer h i t =
    ((h.tunnel ≡ 0 → ⊥) × (h.tunnel ≡ i) × (t.control.peer ≡ peer)) ⊎ (h.tunnel ≡ 0)

named_peer : (peer k i p : ℕ) → at_tunnel peer k (Some p) ≡ Main i → (k ≡ i) × (p ≡ peer)
unfolding at_tunnel
named_peer peer k i p h = by (eqb p peer) refl h
  where
    by : (b : Bool) → eqb p peer ≡ b → cond b (Main k) (Nobody why.Peer) ≡ Main i → (k ≡ i) × (p ≡ peer)
    by true is g = (cc, eqb-true p peer is)
    by false is g = absurd cc

named_there : (peer k i : ℕ) (o : Option Tunnel) → at_tunnel peer k (option_map (λ (x : Tunnel). x.control.peer) o) ≡ Main i
    → (k ≡ i) × ((t : Tunnel) → o ≡ Some t → t.control.peer ≡ peer)
unfolding at_tunnel
named_there peer k i None h = absurd cc
named_there peer k i (Some u) h =
    let n = named_peer peer k i u.control.peer h in
    (n.0, λ t is. (let same : u ≡ t = cc in ap (λ (x : Tunnel). x.control.peer) (sym same) ∙ n.1))

-- a message for a recovery tunnel isn't for its tunnel
line_is : (e : End) (peer i j : ℕ) (o : Option Tunnel) → at_line peer j o ≡ Main i → ⊥
line_is e peer i j None h = cc
line_is e peer i j (Some t) h = by (t.control.peer == peer) h
  where
    by : (b : Bool) → cond b (Recovery j) (Nobody why.Peer) ≡ Main i → ⊥
    by true h = cc
    by false h = cc

recovery_is : (e : End) (peer : ℕ) (o : Option ℕ) (i : ℕ) → at_recovery e peer o ≡ Main i → ⊥
recovery_is e peer None i h = cc
recovery_is e peer (Some j) i h = line_is e peer i j (at e.tunnels j) h

of_main : (e : End) (peer : ℕ) (o : Option ℕ) (i : ℕ) (b : Bool) (a : Addressee) → cond b a (at_recovery e peer o) ≡ Main i → a ≡ Main i
of_main e peer o i true a h = h
of_main e peer o i false a h = absurd (recovery_is e peer o i h)

is_named : (e : End) (peer : ℕ) (h : Header) (body : List ℕ) (i : ℕ) (t : Tunnel) → at e.tunnels i ≡ Some t → addressed e peer h body ≡ Main i
    → IsNamed peer h i t
unfolding addressed
is_named e peer h body i t there main = by (eqb h.tunnel 0) refl main
  where
    by : (b : Bool) → eqb h.tunnel 0 ≡ b
        → cond b (opens_once e peer (at_zero body)) (cond (is_some (at e.tunnels h.tunnel))
        (at_tunnel peer h.tunnel (option_map (λ (x : Tunnel). x.control.peer) (at e.tunnels h.tunnel)))
        (at_recovery e peer (recovered_by h.tunnel e.tunnels))) ≡ Main i
        → IsNamed peer h i t
    by true is g = inr (eqb-true h.tunnel 0 is)
    by false is g =
        let n = named_there peer h.tunnel i (at e.tunnels h.tunnel)
        (of_main e peer (recovered_by h.tunnel e.tunnels) i (is_some (at e.tunnels h.tunnel)) _ g) in
        inl (eqb-false h.tunnel 0 is, n.0, n.1 t (rw n.0 there))

pub record IsReached (e : End) (peer : ℕ) (bytes : List ℕ) (h : Header) (c : Control) : Type 0 where
  pub id : ℕ
  pub tunnel : Tunnel
  pub there : at e.tunnels id ≡ Some tunnel
  pub same : c ≡ tunnel.control
  pub named : IsNamed peer h id tunnel

main_is : (e : End) (a : Addressee) (c : Control) → main_of e a ≡ Some c
    → (i : ℕ) × (a ≡ Main i) × (option_map (λ (t : Tunnel). t.control) (at e.tunnels i) ≡ Some c)
unfolding main_of
main_is e (Opens r) c h = absurd cc
main_is e (Stops r) c h = absurd cc
main_is e (Answers r) c h = absurd cc
main_is e (Main i) c h = (i, refl, h)
main_is e (Recovery i) c h = absurd cc
main_is e (Recovers r) c h = absurd cc
main_is e (Nobody w) c h = absurd cc

is_some_of : {X : Type 0} (b : Bool) (o : Option X) (x : X) → cond b o None ≡ Some x → o ≡ Some x
is_some_of true o x h = h
is_some_of false o x h = absurd cc

pub unreached : (e : End) (peer : ℕ) (bytes : List ℕ) (x : HeaderError) (c : Control) → header_of bytes ≡ Err x → reached_plain e peer bytes ≡ Some c → ⊥
unfolding reached_plain reached_by
unreached e peer bytes x c read is = (let g = rw read at is in absurd cc)

mapped : {A B : Type 0} (f : A → B) (o : Option A) (y : B) → option_map f o ≡ Some y → (x : A) × (o ≡ Some x) × (y ≡ f x)
mapped f None y h = absurd cc
mapped f (Some x) y h = (x, refl, (let e : f x ≡ y = cc in sym e))

pub reach_of : (e : End) (peer : ℕ) (bytes : List ℕ) (h : Header) (c : Control) → header_of bytes ≡ Ok h → reached_plain e peer bytes ≡ Some c
    → IsReached e peer bytes h c
unfolding reached_plain reached_by
reach_of e peer bytes h c read is =
    let g = rw read at is in
    let m = main_is e (addressed e peer h (body_of bytes h)) c (is_some_of h.control _ c g) in
    let k = mapped (λ (t : Tunnel). t.control) (at e.tunnels m.0) c m.2 in
    record { id = m.0; tunnel = k.0; there = k.1; same = k.2; named = is_named e peer h (body_of bytes h) m.0 k.0 k.1 m.1 }
