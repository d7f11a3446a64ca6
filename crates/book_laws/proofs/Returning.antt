-- What is seen of calls that came back is so, and they stand in the table of their tunnel.
use Rattle.std.proofs.Common.{◌≡◌, ◌⊎◌, inl, inr, ⊎_elim, ℕ, ◌<◌, ◌≤◌, Bool, true, false, cond, eqb, List, [], ◌∷◌, ◌++◌, refl, sym, ap, ◌∙◌, subst, Some, None, arith}
use Rattle.std.proofs.lemmas.Bool.{eqb-true, eq-eqb}
use Rattle.std.proofs.lemmas.Bool.Decides.{nat_tests}
use Rattle.std.proofs.lemmas.Option.{none-some}
use Rattle.std.specs.Prelude.{map}
use Rattle.std.specs.List.{AllByRecursion}
use Rattle.std.specs.declared.cmp.Ordering.TheVariants.{Less}
use Rattle.std.specs.Ordering.{nat_cmp}
use Rattle.id_table.specs.Ids.{at, at-none, at-cons, put, put-put}
use Rattle.id_table.specs.Order.{IsAbove, Ascends, at_new, at_other, found_put, same_or_not}
use Rattle.id_source.specs.Spaces.{after_id}
use Rattle.session_book.specs.declared.record.BookCall.{BookCall}
use Rattle.session_looks.specs.declared.look.CellChange.{CellChange}
use Rattle.session_looks.specs.declared.look.Look.TheVariants as look
use Rattle.end_names.specs.declared.role.Role.{Role}
use Rattle.end_names.specs.declared.role.Role.TheVariants.{Lac, Lns}
use Rattle.end_model.specs.declared.tunnel.Call.{Call}
use Rattle.end_model.specs.declared.tunnel.CallPlace.{CallPlace}
use Rattle.end_model.specs.declared.moves.Restored.{Restored}
use Rattle.end_model.specs.Tunnels.{Tunnel, new_tunnel, Ground}
use Rattle.end_model.specs.Starting.{kept_control, kept_call, kept_looks}
use Rattle.end_model.specs.End.{End, new_place, placed, with_look, with_looks}
use Rattle.step_laws.specs.Letters.{Among}
use Rattle.step_laws.specs.Looks.{look_of, LinkFits, IsLive, LooksAreTrue}
use Rattle.step_laws.specs.Moves.{Restores, with_tunnel, calls_back, looks_back}
use Rattle.step_laws.proofs.Looks.{next_risen}

-- ---- calls by their local ids

-- ids above one, each above the one before
abbrev pub CallsRise : ℕ → List BookCall → Type 0
CallsRise n [] = Unit {0}
CallsRise n (c ∷ cs) = (n < c.local) × CallsRise c.local cs

rise_from : (n m : ℕ) (cs : List BookCall) → n < m → CallsRise m cs → CallsRise n cs
rise_from n m [] less rise = tt
rise_from n m (c ∷ cs) less rise = ((let first = rise.0 in omega (arith, less, first)), rise.1)

under_other : (k n : ℕ) → k < n → nat_cmp k n ≡ Less
under_other k n less = grind (arith, nat_tests)

put_first : (k : ℕ) (v : Call) (es : List (ℕ × Call)) → IsAbove k es → put es k v ≡ (k, v) ∷ es
unfolding put
put_first k v [] above = refl
put_first k v (e ∷ es) above = rw (under_other k e.0 above.0) refl

other_id : (j k : ℕ) → k < j → eqb j k ≡ false
other_id j k less = grind (arith, nat_tests)

-- the entry that a table has under an id of its own
own_entries : (es : List (ℕ × Call)) → Ascends es → AllByRecursion (λ x. at es x.0 ≡ Some x.1) es
unfolding Ascends
own_entries [] sorted = tt
own_entries (e ∷ es) sorted = (at-cons e es e.0 ∙ rw (eq-eqb e.0 e.0 refl) refl, later es sorted.0 (own_entries es sorted.1))
  where
    later : (xs : List (ℕ × Call)) → IsAbove e.0 xs → AllByRecursion (λ x. at es x.0 ≡ Some x.1) xs → AllByRecursion (λ x. at (e ∷ es) x.0 ≡ Some x.1) xs
    later [] above h = tt
    later (x ∷ xs) above h = (at-cons e es x.0 ∙ rw (other_id x.0 e.0 above.0) h.0, later xs above.1 h.1)

with_looks-append : (xs ys : List CellChange) (places : List (ℕ × CallPlace)) → with_looks (xs ++ ys) places ≡ with_looks ys (with_looks xs places)
unfolding with_looks
with_looks-append [] ys places = refl
with_looks-append (x ∷ xs) ys places = with_looks-append xs ys (with_look x places)

module _ (r : Role) (g : Ground) where
  abbrev pub listed : List BookCall → List (ℕ × Call)
  listed cs = map (λ (c : BookCall). (c.local, kept_call r g c)) cs

  above_listed : (n : ℕ) (cs : List BookCall) → CallsRise n cs → IsAbove n (listed cs)
  above_listed n [] rise = tt
  above_listed n (c ∷ cs) rise = (rise.0, above_listed n cs (rise_from n c.local cs rise.0 rise.1))

  pub ascends_listed : (n : ℕ) (cs : List BookCall) → CallsRise n cs → Ascends (listed cs)
  unfolding Ascends
  ascends_listed n [] rise = tt
  ascends_listed n (c ∷ cs) rise = (above_listed c.local cs rise.1, ascends_listed c.local cs rise.1)

  pub back_listed : (n : ℕ) (cs : List BookCall) → CallsRise n cs → calls_back r g cs ≡ listed cs
  back_listed n [] rise = refl
  back_listed n (c ∷ cs) rise =
      ap (λ es. put es c.local (kept_call r g c)) (back_listed c.local cs rise.1)
      ∙ put_first c.local (kept_call r g c) (listed cs) (above_listed c.local cs rise.1)

  own_calls : (es : List (ℕ × Call)) (cs : List BookCall) → AllByRecursion (λ x. at es x.0 ≡ Some x.1) (listed cs)
      → AllByRecursion (λ (c : BookCall). at es c.local ≡ Some (kept_call r g c)) cs
  own_calls es [] h = tt
  own_calls es (c ∷ cs) h = (h.0, own_calls es cs h.1)

abbrev pub locals : List BookCall → List ℕ
locals cs = map (λ (c : BookCall). c.local) cs

-- a session of none of these
abbrev pub IsOther : ℕ → List BookCall → Type 0
IsOther q cs = AllByRecursion (λ (c : BookCall). q ≡ c.local → ⊥) cs

pub one_or_other : (q : ℕ) (cs : List BookCall) → ((c : BookCall) × (Among c cs × (q ≡ c.local))) ⊎ IsOther q cs
one_or_other q [] = inr tt
one_or_other q (c ∷ cs) = ⊎_elim
    (λ (same : q ≡ c.local). inl (c, (inl refl, same)))
    (λ (other : q ≡ c.local → ⊥). ⊎_elim
    (λ (a : (d : BookCall) × (Among d cs × (q ≡ d.local))). inl (a.0, (inr a.1.0, a.1.1)))
    (λ (o : IsOther q cs). inr (other, o))
    (one_or_other q cs))
    (same_or_not q c.local)

pub other_rise : (n q : ℕ) (cs : List BookCall) → q ≤ n → CallsRise n cs → IsOther q cs
other_rise n q [] low rise = tt
other_rise n q (c ∷ cs) low rise =
    ((λ same. let above = rise.0 in absurd (omega (arith, same, low, above))), other_rise c.local q cs (let above = rise.0 in omega (arith, low, above)) rise.1)

pub all_among : {X : Type 0} (P : X → Type 0) (xs : List X) (x : X) → AllByRecursion P xs → Among x xs → P x
all_among P [] x h a = absurd a
all_among P (y ∷ xs) x h a = ⊎_elim (λ (same : y ≡ x). subst P same h.0) (λ later. all_among P xs x h.1 later) a

-- ---- places

placed_other : (i : ℕ) (cs : List BookCall) (places : List (ℕ × CallPlace)) (q : ℕ) → IsOther q cs → at (placed i (locals cs) places) q ≡ at places q
unfolding placed
placed_other i [] places q o = refl
placed_other i (c ∷ cs) places q o = placed_other i cs (put places c.local (new_place i)) q o.1 ∙ at_other places c.local (new_place i) q o.0

abbrev HasPlace : List (ℕ × CallPlace) → ℕ → ℕ → Type 0
HasPlace places i s = (p : CallPlace) × ((at places s ≡ Some p) × (p.tunnel ≡ i))

put_place : (places : List (ℕ × CallPlace)) (i k s : ℕ) (z : CallPlace) → z.tunnel ≡ i → HasPlace places i s → HasPlace (put places k z) i s
put_place places i k s z of h = ⊎_elim
    (λ (same : s ≡ k). (z, (ap (λ j. at (put places k z) j) same ∙ at_new places k z, of)))
    (λ (other : s ≡ k → ⊥). (h.0, (at_other places k z s other ∙ h.1.0, h.1.1)))
    (same_or_not s k)

placed_kept : (i : ℕ) (ss : List ℕ) (places : List (ℕ × CallPlace)) (s : ℕ) → HasPlace places i s → HasPlace (placed i ss places) i s
unfolding placed
placed_kept i [] places s h = h
placed_kept i (x ∷ ss) places s h = placed_kept i ss (put places x (new_place i)) s (put_place places i x s (new_place i) refl h)

placed_own : (i : ℕ) (cs : List BookCall) (places : List (ℕ × CallPlace)) → AllByRecursion (λ (c : BookCall). HasPlace (placed i (locals cs) places) i c.local) cs
unfolding placed
placed_own i [] places = tt
placed_own i (c ∷ cs) places = (
  placed_kept i (locals cs) (put places c.local (new_place i)) c.local (new_place i, (at_new places c.local (new_place i), refl)),
  placed_own i cs (put places c.local (new_place i)),
)

abbrev kept_place : Role → ℕ → ℕ → CallPlace
kept_place Lac i peer = record { tunnel = i; look = look.Established i peer }
kept_place Lns i peer = record { tunnel = i; look = look.Bound i peer }

kept_tunnel : (r : Role) (i peer : ℕ) → (kept_place r i peer).tunnel ≡ i
kept_tunnel Lac i peer = refl
kept_tunnel Lns i peer = refl

kept_seen : (r : Role) (g : Ground) (c : BookCall) (i peer : ℕ) → kept_place r i peer ≡ record { tunnel = i; look = look_of (kept_call r g c) i peer }
kept_seen Lac g c i peer = refl
kept_seen Lns g c i peer = refl

kept_fits : (r : Role) (g : Ground) (c : BookCall) → LinkFits r (kept_call r g c).state (kept_call r g c).link
kept_fits Lac g c = refl
kept_fits Lns g c = refl

one_look : (r : Role) (i peer s : ℕ) (places : List (ℕ × CallPlace)) → HasPlace places i s → with_looks (kept_looks r s i peer) places ≡ put places s (kept_place r i peer)
unfolding with_looks with_look
one_look Lns i peer s places h = let is = h.1.0 in let of = h.1.1 in rw (is, of) refl
one_look Lac i peer s places h =
    let is = h.1.0 in
    let of = h.1.1 in
    let bound : CallPlace = record { tunnel = i; look = look.Bound i peer } in
    rw (is, of, at_new places s bound) (put-put places s bound (record { tunnel = i; look = look.Established i peer }))

module _ (r : Role) (i peer : ℕ) where
  abbrev kp : CallPlace
  kp = kept_place r i peer

  abbrev HavePlaces : List BookCall → List (ℕ × CallPlace) → Type 0
  HavePlaces cs places = AllByRecursion (λ (c : BookCall). HasPlace places i c.local) cs

  have_put : (k : ℕ) (cs : List BookCall) (places : List (ℕ × CallPlace)) → HavePlaces cs places → HavePlaces cs (put places k kp)
  have_put k [] places h = tt
  have_put k (c ∷ cs) places h = (put_place places i k c.local kp (kept_tunnel r i peer) h.0, have_put k cs places h.1)

  first_look : (c : BookCall) (cs : List BookCall) (places : List (ℕ × CallPlace)) → HasPlace places i c.local
      → with_looks (looks_back r i peer (c ∷ cs)) places ≡ with_looks (looks_back r i peer cs) (put places c.local kp)
  first_look c cs places h =
      with_looks-append (kept_looks r c.local i peer) (looks_back r i peer cs) places ∙ ap (λ ps. with_looks (looks_back r i peer cs) ps) (one_look r i peer c.local places h)

  back_other : (cs : List BookCall) (places : List (ℕ × CallPlace)) → HavePlaces cs places → (q : ℕ) → IsOther q cs
      → at (with_looks (looks_back r i peer cs) places) q ≡ at places q
  unfolding with_looks
  back_other [] places h q o = refl
  back_other (c ∷ cs) places h q o =
      ap (λ ps. at ps q) (first_look c cs places h.0) ∙ back_other cs (put places c.local kp) (have_put c.local cs places h.1) q o.1 ∙ at_other places c.local kp q o.0

  back_own : (n : ℕ) (cs : List BookCall) (places : List (ℕ × CallPlace)) → CallsRise n cs → HavePlaces cs places → (es : List (ℕ × CallPlace))
      → es ≡ with_looks (looks_back r i peer cs) places → AllByRecursion (λ (c : BookCall). at es c.local ≡ Some kp) cs
  back_own n [] places rise h es is = tt
  back_own n (c ∷ cs) places rise h es is =
      let first = is ∙ first_look c cs places h.0 in
      let rest = have_put c.local cs places h.1 in (
        ap (λ ps. at ps c.local) first ∙ back_other cs (put places c.local kp) rest c.local (other_rise c.local c.local cs (omega arith) rise.1)
            ∙ at_new places c.local kp,
        back_own c.local cs (put places c.local kp) rise.1 rest es first,
      )

-- ---- the calls

pub none_listed : (r : Role) (g : Ground) (cs : List BookCall) (q : ℕ) → IsOther q cs → at (listed r g cs) q ≡ None
none_listed r g [] q o = at-none q
none_listed r g (c ∷ cs) q o = at-cons (c.local, kept_call r g c) (listed r g cs) q ∙ by (eqb q c.local) refl (none_listed r g cs q o.1)
  where
    by : (b : Bool) → eqb q c.local ≡ b → at (listed r g cs) q ≡ None → cond b (Some (kept_call r g c)) (at (listed r g cs) q) ≡ None
    by true same none = absurd (o.0 (eqb-true q c.local same))
    by false other none = none

abbrev seen_at : ℕ → Call → ℕ → CallPlace
seen_at j k peer = record { tunnel = j; look = look_of k j peer }

-- ---- a tunnel comes back

module _ (x : End) (ok : LooksAreTrue x) (moment : ℕ) (m : Restored) (y : End) (h : Restores x moment m y) (rise : CallsRise 0 m.calls)
    (low : m.tunnel.local < x.tunnel_ids.next) (fresh : AllByRecursion (λ (c : BookCall). at x.calls c.local ≡ None) m.calls)
    (drawn : AllByRecursion (λ (c : BookCall). c.local < x.session_ids.next) m.calls) where
  abbrev i : ℕ
  i = m.tunnel.local

  abbrev r : Role
  r = x.role

  abbrev g : Ground
  g = h.ground

  abbrev T : Tunnel
  T = record (new_tunnel (kept_control moment m.tunnel)) { calls = calls_back r g m.calls; recovery = Some h.recovery }

  abbrev places : List (ℕ × CallPlace)
  places = with_looks (looks_back r i m.tunnel.peer m.calls) (placed i (locals m.calls) x.calls)

  abbrev z : End
  z = record (with_tunnel x i T) { tunnel_ids = after_id x.tunnel_ids; recovery_ids = after_id x.recovery_ids; calls = places }

  own_place : (c : BookCall) → Among c m.calls → at places c.local ≡ Some (kept_place r i m.tunnel.peer)
  own_place c a =
      all_among (λ (d : BookCall). at places d.local ≡ Some (kept_place r i m.tunnel.peer)) m.calls c
      (back_own r i m.tunnel.peer 0 m.calls (placed i (locals m.calls) x.calls) rise (placed_own i m.calls x.calls) places refl) a

  other_place : (q : ℕ) → IsOther q m.calls → at places q ≡ at x.calls q
  other_place q o =
      back_other r i m.tunnel.peer m.calls (placed i (locals m.calls) x.calls) (placed_own i m.calls x.calls) q o ∙ placed_other i m.calls x.calls q o

  pub own_call : (c : BookCall) → Among c m.calls → at T.calls c.local ≡ Some (kept_call r g c)
  own_call c a =
      ap (λ es. at es c.local) (back_listed r g 0 m.calls rise)
      ∙ all_among (λ (d : BookCall). at (listed r g m.calls) d.local ≡ Some (kept_call r g d)) m.calls c
      (own_calls r g (listed r g m.calls) m.calls (own_entries (listed r g m.calls) (ascends_listed r g 0 m.calls rise))) a

  -- a call of the tunnel is one that came back
  pub record IsOne (s : ℕ) (c : Call) : Type 0 where
    pub of : BookCall
    pub among : Among of m.calls
    pub session : s ≡ of.local
    pub call : kept_call r g of ≡ c

  pub which_call : (s : ℕ) (c : Call) → at T.calls s ≡ Some c → IsOne s c
  which_call s c live = ⊎_elim
      (λ (a : (d : BookCall) × (Among d m.calls × (s ≡ d.local))).
      let both : Some (kept_call r g a.0) ≡ Some c = sym (own_call a.0 a.1.0) ∙ ap (λ q. at T.calls q) (sym a.1.1) ∙ live in
      let same : kept_call r g a.0 ≡ c = cc in
      record { of = a.0; among = a.1.0; session = a.1.1; call = same })
      (λ (o : IsOther s m.calls). absurd (none-some c (sym (none_listed r g m.calls s o) ∙ ap (λ es. at es s) (sym (back_listed r g 0 m.calls rise)) ∙ live)))
      (one_or_other s m.calls)

  -- a session that has its place already is another
  old_other : (s : ℕ) (p : CallPlace) → at x.calls s ≡ Some p → IsOther s m.calls
  old_other s p there = ⊎_elim
      (λ (a : (d : BookCall) × (Among d m.calls × (s ≡ d.local))).
      absurd (none-some p (sym (all_among (λ (d : BookCall). at x.calls d.local ≡ None) m.calls a.0 fresh a.1.0) ∙ ap (λ q. at x.calls q) (sym a.1.1) ∙ there)))
      (λ o. o)
      (one_or_other s m.calls)

  live_here : (s : ℕ) (p : CallPlace) → at places s ≡ Some p → IsLive z p.tunnel s
  live_here s p there = ⊎_elim
      (λ (a : (d : BookCall) × (Among d m.calls × (s ≡ d.local))).
      let both : Some (kept_place r i m.tunnel.peer) ≡ Some p = sym (own_place a.0 a.1.0) ∙ ap (λ q. at places q) (sym a.1.1) ∙ there in
      let same : kept_place r i m.tunnel.peer ≡ p = cc in
      let of : i ≡ p.tunnel = sym (kept_tunnel r i m.tunnel.peer) ∙ ap (λ (k : CallPlace). k.tunnel) same in
      subst (λ j. IsLive z j s) of (record { tunnel = T; there = at_new x.tunnels i T; call = kept_call r g a.0; live = ap (λ q. at T.calls q) a.1.1 ∙ own_call a.0 a.1.0 }))
      (λ (o : IsOther s m.calls).
      let l = ok.live s p (sym (other_place s o) ∙ there) in
      record {
        tunnel = l.tunnel;
        there = at_other x.tunnels i T p.tunnel (λ same. none-some l.tunnel (sym h.none ∙ ap (λ j. at x.tunnels j) (sym same) ∙ l.there)) ∙ l.there;
        call = l.call;
        live = l.live;
      })
      (one_or_other s m.calls)

  pub restored_looks : LooksAreTrue y
  restored_looks =
      let rises = next_risen x.tunnel_ids in
      subst LooksAreTrue (sym h.after) (record {
        live = live_here;
        seen = λ j t there s c live. ⊎_elim
            (λ (a : (j ≡ i) × (T ≡ t)).
            let one = which_call s c (ap (λ (u : Tunnel). at u.calls s) a.1 ∙ live) in
            ap (λ q. at places q) one.session ∙ own_place one.of one.among ∙ ap Some (kept_seen r g one.of i m.tunnel.peer)
            ∙ ap (λ (k : Call). Some (seen_at i k m.tunnel.peer)) one.call
            ∙ ap (λ k. Some (seen_at k c m.tunnel.peer)) (sym a.0)
            ∙ ap (λ (u : Tunnel). Some (seen_at j c u.control.peer)) a.1)
            (λ (a : (j ≡ i → ⊥) × (at x.tunnels j ≡ Some t)).
            let old = ok.seen j t a.1 s c live in
            other_place s (old_other s _ old) ∙ old)
            (found_put x.tunnels i T j t there);
        links = λ j t there s c live. ⊎_elim
            (λ (a : (j ≡ i) × (T ≡ t)).
            let one = which_call s c (ap (λ (u : Tunnel). at u.calls s) a.1 ∙ live) in
            subst (λ (k : Call). LinkFits r k.state k.link) one.call (kept_fits r g one.of))
            (λ (a : (j ≡ i → ⊥) × (at x.tunnels j ≡ Some t)). ok.links j t a.1 s c live)
            (found_put x.tunnels i T j t there);
        tunnels = λ j t there. ⊎_elim
            (λ (a : (j ≡ i) × (T ≡ t)). let same = a.0 in omega (arith, same, low, rises))
            (λ (a : (j ≡ i → ⊥) × (at x.tunnels j ≡ Some t)). let old = ok.tunnels j t a.1 in omega (arith, old, rises))
            (found_put x.tunnels i T j t there);
        sessions = λ s p there. ⊎_elim
            (λ (a : (d : BookCall) × (Among d m.calls × (s ≡ d.local))).
            subst (λ q. q < x.session_ids.next) (sym a.1.1) (all_among (λ (d : BookCall). d.local < x.session_ids.next) m.calls a.0 drawn a.1.0))
            (λ (o : IsOther s m.calls). ok.sessions s p (sym (other_place s o) ∙ there))
            (one_or_other s m.calls);
      })
