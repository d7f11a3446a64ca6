-- A tunnel is taken out of a book with its calls, and these are told as gone.
use Rattle.std.proofs.Common.{◌≡◌, ◌⊎◌, inl, inr, ⊎_elim, ℕ, ◌<◌, true, false, cond, not, ◌==◌, ◌&&◌, List, [], ◌∷◌, ◌++◌, Option, Some, None, is_some, refl, sym, ◌∙◌, ap, subst, arith}
use Rattle.std.specs.Prelude.{map}
use Rattle.std.specs.List.{AllByRecursion}
use Rattle.std.proofs.lemmas.Bool.{true≢false, eqb-true}
use Rattle.std.proofs.lemmas.Grind.{flat_map-append}
use Rattle.std.proofs.lemmas.List.{append-nil}
use Rattle.std.proofs.lemmas.Option.{none-some}
use Rattle.id_table.specs.Order.{same_or_not}
use Rattle.session_book.specs.declared.record.BookTunnel.{BookTunnel}
use Rattle.session_book.specs.declared.record.BookCall.{BookCall}
use Rattle.session_book.specs.declared.record.Record.TheVariants.{TunnelDown}
use Rattle.session_book.specs.Books.{Kept, AreRising, tunnel_at, call_at, calls_of, stepped}
use Rattle.end_model.specs.End.{End, Stepped}
use Rattle.end_model.specs.Starting.{can_recover, gone_with, behind_all}
use Rattle.step_laws.specs.Gone.{gone_of_output, gone_in}
use Rattle.step_laws.specs.Letters.{Among}
use Rattle.book_laws.specs.Starts.{LacksIds, AreOnce, TellsGone}
use Rattle.book_laws.proofs.Lists.{other, same, entry_has, passing, entry_filter}
use Rattle.book_laws.proofs.Views.{id_of, session_of}
use Rattle.book_laws.proofs.Returning.{CallsRise}
use Rattle.book_laws.proofs.Pending.{among_filter, filter_among, filter_both, entry_among, among_entry, waits, waits_later, passes, passed}
use Rattle.book_laws.proofs.Restoring.{rise}

-- what became of the tunnels of a book of which it is decided
pub record AreDecided (e : End) (k j : Kept) (bs : List BookTunnel) : Type 0 where
  pub tunnels : (i : ℕ) (b : BookTunnel) → tunnel_at k i ≡ Some b → waits bs i ≡ false
      → ((can_recover b ≡ true) × (tunnel_at j i ≡ Some b)) ⊎ (((can_recover b ≡ false) ⊎ LacksIds e) × (tunnel_at j i ≡ None))
  pub only_tunnels : (i : ℕ) (b : BookTunnel) → tunnel_at j i ≡ Some b → tunnel_at k i ≡ Some b
  pub calls : (s : ℕ) (c : BookCall) → call_at k s ≡ Some c → is_some (tunnel_at j c.tunnel) ≡ true → call_at j s ≡ Some c
  pub only_calls : (s : ℕ) (c : BookCall) → call_at j s ≡ Some c → (call_at k s ≡ Some c) × (is_some (tunnel_at j c.tunnel) ≡ true)

-- one that waits is there with all its calls
abbrev pub StandsWhole : Kept → Kept → BookTunnel → Type 0
StandsWhole k j b = (tunnel_at j b.local ≡ Some b) × (calls_of b.local j.calls ≡ calls_of b.local k.calls)

-- ---- a tunnel of a book is taken out

module _ (j : Kept) (tunnels_up : AreRising id_of j.tunnels) (calls_up : AreRising session_of j.calls) (n : ℕ) where
  abbrev out : Kept
  out = stepped j (TunnelDown n)

  out_tunnel : (i : ℕ) → tunnel_at out i ≡ passing id_of (λ t. not (t.local == n)) (tunnel_at j i)
  out_tunnel i = entry_filter id_of (λ t. not (t.local == n)) i j.tunnels tunnels_up

  out_call : (s : ℕ) → call_at out s ≡ passing session_of (λ c. not (c.tunnel == n)) (call_at j s)
  out_call s = entry_filter session_of (λ c. not (c.tunnel == n)) s j.calls calls_up

  out_own : tunnel_at out n ≡ None
  out_own = out_tunnel n ∙ by (tunnel_at j n) refl
    where
      by : (o : Option BookTunnel) → tunnel_at j n ≡ o → passing id_of (λ (t : BookTunnel). not (t.local == n)) o ≡ None
      by None is = refl
      by (Some t) is = ap (λ q. cond (not q) (Some t) None) (same t.local n (entry_has id_of n j.tunnels t is))

  out_other : (i : ℕ) → (i ≡ n → ⊥) → tunnel_at out i ≡ tunnel_at j i
  out_other i apart = out_tunnel i ∙ by (tunnel_at j i) refl
    where
      by : (o : Option BookTunnel) → tunnel_at j i ≡ o → passing id_of (λ (t : BookTunnel). not (t.local == n)) o ≡ o
      by None is = refl
      by (Some t) is = ap (λ q. cond (not q) (Some t) None) (other t.local n (λ f. apart (sym (entry_has id_of i j.tunnels t is) ∙ f)))

  out_found : (s : ℕ) (c : BookCall) → call_at out s ≡ Some c → (call_at j s ≡ Some c) × (c.tunnel ≡ n → ⊥)
  out_found s c found =
      let p = passes session_of (λ (x : BookCall). not (x.tunnel == n)) (call_at j s) c (sym (out_call s) ∙ found) in
      (p.0, λ own. true≢false (sym p.1 ∙ ap not (same c.tunnel n own)))

  out_stays : (s : ℕ) (c : BookCall) → call_at j s ≡ Some c → (c.tunnel ≡ n → ⊥) → call_at out s ≡ Some c
  out_stays s c found apart = out_call s ∙ passed session_of (λ (x : BookCall). not (x.tunnel == n)) (call_at j s) c found (ap not (other c.tunnel n apart))

  out_calls : (i : ℕ) → (i ≡ n → ⊥) → calls_of i out.calls ≡ calls_of i j.calls
  out_calls i apart =
      filter_both (λ c. c.tunnel == i) (λ c. not (c.tunnel == n)) (λ c. c.tunnel == i) (λ c. both_tests c) j.calls
    where
      both_tests : (c : BookCall) → (not (c.tunnel == n) && (c.tunnel == i)) ≡ (c.tunnel == i)
      both_tests c = ⊎_elim
          (λ (own : c.tunnel ≡ n). ap (λ q. not q && (c.tunnel == i)) (same c.tunnel n own) ∙ sym (other c.tunnel i (λ f. apart (sym f ∙ own))))
          (λ (far : c.tunnel ≡ n → ⊥). ap (λ q. not q && (c.tunnel == i)) (other c.tunnel n far))
          (same_or_not c.tunnel n)

  pub out_waits : (k : Kept) (bs : List BookTunnel) → AllByRecursion (λ (b : BookTunnel). b.local ≡ n → ⊥) bs → AllByRecursion (StandsWhole k j) bs
      → AllByRecursion (StandsWhole k out) bs
  out_waits k [] apart all = tt
  out_waits k (b ∷ bs) apart all =
      ((out_other b.local apart.0 ∙ all.0.0, out_calls b.local apart.0 ∙ all.0.1), out_waits k bs apart.1 all.1)

  pub out_decided : (e : End) (k : Kept) (b : BookTunnel) (bs : List BookTunnel) → b.local ≡ n → tunnel_at j n ≡ Some b → (can_recover b ≡ false) ⊎ LacksIds e
      → AreDecided e k j (b ∷ bs) → AreDecided e k out bs
  out_decided e k b bs own there why d = record {
    tunnels = λ i t found decides. ⊎_elim
        (λ (mine : i ≡ n).
        let both : Some t ≡ Some b = sym found ∙ ap (tunnel_at k) mine ∙ d.only_tunnels n b there in
        let one : t ≡ b = cc in
        inr (subst (λ (x : BookTunnel). (can_recover x ≡ false) ⊎ LacksIds e) (sym one) why, ap (tunnel_at out) mine ∙ out_own))
        (λ (apart : i ≡ n → ⊥). ⊎_elim
        (λ (l : (can_recover t ≡ true) × (tunnel_at j i ≡ Some t)). inl (l.0, out_other i apart ∙ l.1))
        (λ (l : ((can_recover t ≡ false) ⊎ LacksIds e) × (tunnel_at j i ≡ None)). inr (l.0, out_other i apart ∙ l.1))
        (d.tunnels i t found (waits_later b bs i (λ f. apart (f ∙ own)) ∙ decides)))
        (same_or_not i n);
    only_tunnels = λ i t found.
        (let p = passes id_of (λ (x : BookTunnel). not (x.local == n)) (tunnel_at j i) t (sym (out_tunnel i) ∙ found) in d.only_tunnels i t p.0);
    calls = λ s c found home. ⊎_elim
        (λ (mine : c.tunnel ≡ n). absurd (true≢false (sym home ∙ ap is_some (ap (tunnel_at out) mine ∙ out_own))))
        (λ (apart : c.tunnel ≡ n → ⊥). out_stays s c (d.calls s c found (ap is_some (sym (out_other c.tunnel apart)) ∙ home)) apart)
        (same_or_not c.tunnel n);
    only_calls = λ s c found.
        (let o = out_found s c found in
        let old = d.only_calls s c o.0 in
        (old.0, ap is_some (out_other c.tunnel o.1) ∙ old.1));
  }

-- ---- what is told as gone

abbrev locals : List BookCall → List ℕ
locals cs = map (λ (x : BookCall). x.local) cs

pub gone_locals : (cs : List BookCall) → gone_in (gone_with cs) ≡ locals cs
gone_locals [] = refl
gone_locals (c ∷ cs) = ap (λ qs. c.local ∷ qs) (gone_locals cs)

local_of : (q : ℕ) (cs : List BookCall) → Among q (locals cs) → (c : BookCall) × (Among c cs × (c.local ≡ q))
local_of q [] a = absurd a
local_of q (c ∷ cs) a = ⊎_elim
    (λ (one : c.local ≡ q). (c, (inl refl, one)))
    (λ rest. let d = local_of q cs rest in (d.0, (inr d.1.0, d.1.1)))
    a

among_locals : (c : BookCall) (cs : List BookCall) → Among c cs → Among c.local (locals cs)
among_locals c [] a = absurd a
among_locals c (d ∷ cs) a = ⊎_elim (λ (one : d ≡ c). inl (ap (λ (x : BookCall). x.local) one)) (λ rest. inr (among_locals c cs rest)) a

above_locals : (n : ℕ) (cs : List BookCall) → CallsRise n cs → (q : ℕ) → Among q (locals cs) → n < q
above_locals n [] rise q a = absurd a
above_locals n (c ∷ cs) rise q a = ⊎_elim
    (λ (one : c.local ≡ q). let first = rise.0 in omega (arith, first, one))
    (λ rest. let first = rise.0 in let more = above_locals c.local cs rise.1 q rest in omega (arith, first, more))
    a

once_locals : (n : ℕ) (cs : List BookCall) → CallsRise n cs → AreOnce (locals cs)
once_locals n [] rise = tt
once_locals n (c ∷ cs) rise = ((λ a. let more = above_locals c.local cs rise.1 c.local a in omega (arith, more)), once_locals c.local cs rise.1)

among_either : (q : ℕ) (xs ys : List ℕ) → Among q (xs ++ ys) → Among q xs ⊎ Among q ys
among_either q [] ys a = inr a
among_either q (x ∷ xs) ys a = ⊎_elim
    (λ (one : x ≡ q). inl (inl one))
    (λ rest. ⊎_elim (λ l. inl (inr l)) (λ r. inr r) (among_either q xs ys rest))
    a

among_first : (q : ℕ) (xs ys : List ℕ) → Among q xs → Among q (xs ++ ys)
among_first q [] ys a = absurd a
among_first q (x ∷ xs) ys a = ⊎_elim (λ (one : x ≡ q). inl one) (λ rest. inr (among_first q xs ys rest)) a

among_last : (q : ℕ) (xs ys : List ℕ) → Among q ys → Among q (xs ++ ys)
among_last q [] ys a = a
among_last q (x ∷ xs) ys a = inr (among_last q xs ys a)

once_both : (xs ys : List ℕ) → AreOnce xs → AreOnce ys → ((q : ℕ) → Among q xs → Among q ys → ⊥) → AreOnce (xs ++ ys)
once_both [] ys h g apart = g
once_both (x ∷ xs) ys h g apart =
    ((λ a. ⊎_elim (λ l. h.0 l) (λ r. apart x (inl refl) r) (among_either x xs ys a)), once_both xs ys h.1 g (λ q l r. apart q (inr l) r))

gone_both : (s y : Stepped) → gone_in (s.outputs ++ y.outputs) ≡ gone_in s.outputs ++ gone_in y.outputs
gone_both s y = flat_map-append gone_of_output s.outputs y.outputs

pub none_more : (k j : Kept) (s y : Stepped) → gone_in y.outputs ≡ [] → TellsGone k j s → TellsGone k j (behind_all s y)
none_more k j s y none h =
    let same_ones : gone_in (s.outputs ++ y.outputs) ≡ gone_in s.outputs =
    gone_both s y ∙ ap (λ qs. gone_in s.outputs ++ qs) none ∙ append-nil (gone_in s.outputs) in
    record {
      once = subst AreOnce (sym same_ones) h.once;
      had = λ q a. h.had q (subst (λ (qs : List ℕ). Among q qs) same_ones a);
      told = λ q some gone. subst (λ (qs : List ℕ). Among q qs) (sym same_ones) (h.told q some gone);
    }

-- the calls of a tunnel that is taken out
module _ (k j : Kept) (tunnels_up : AreRising id_of j.tunnels) (calls_up : AreRising session_of j.calls) (k_up : AreRising session_of k.calls) (n : ℕ)
    (s y : Stepped) (only : (q : ℕ) (c : BookCall) → call_at j q ≡ Some c → (call_at k q ≡ Some c) × (is_some (tunnel_at j c.tunnel) ≡ true))
    (all : calls_of n j.calls ≡ calls_of n k.calls) (rise : CallsRise 0 (calls_of n k.calls)) (tells : gone_in y.outputs ≡ locals (calls_of n k.calls)) where
  abbrev mine : List BookCall
  mine = calls_of n k.calls

  abbrev next : Kept
  next = stepped j (TunnelDown n)

  told_both : gone_in (s.outputs ++ y.outputs) ≡ gone_in s.outputs ++ locals mine
  told_both = gone_both s y ∙ ap (λ qs. gone_in s.outputs ++ qs) tells

  -- one of them is in the book before
  in_before : (q : ℕ) → Among q (locals mine) → (c : BookCall) × ((call_at j q ≡ Some c) × (c.tunnel ≡ n))
  in_before q a =
      let d = local_of q mine a in
      let f = among_filter (λ (x : BookCall). x.tunnel == n) j.calls d.0 (subst (λ (cs : List BookCall). Among d.0 cs) (sym all) d.1.0) in
      (d.0, (ap (call_at j) (sym d.1.1) ∙ among_entry session_of j.calls calls_up d.0 f.0, eqb-true d.0.tunnel n f.1))

  not_after : (q : ℕ) (o : Option BookCall) → call_at j q ≡ o → ((c : BookCall) → o ≡ Some c → c.tunnel ≡ n) → call_at next q ≡ None
  not_after q None is own = out_call j tunnels_up calls_up n q ∙ ap (passing session_of (λ (x : BookCall). not (x.tunnel == n))) is
  not_after q (Some c) is own =
      out_call j tunnels_up calls_up n q ∙ ap (passing session_of (λ (x : BookCall). not (x.tunnel == n))) is
      ∙ ap (λ b. cond (not b) (Some c) None) (same c.tunnel n (own c refl))

  module _ (h : TellsGone k j s) where
    told_by : (q : ℕ) → is_some (call_at k q) ≡ true → call_at next q ≡ None → (o : Option BookCall) → call_at j q ≡ o
        → Among q (gone_in s.outputs ++ locals mine)
    told_by q some gone None is = among_first q (gone_in s.outputs) (locals mine) (h.told q some is)
    told_by q some gone (Some c) is = ⊎_elim
        (λ (own : c.tunnel ≡ n).
        let there = entry_among session_of q k.calls c (only q c is).0 in
        let local = entry_has session_of q k.calls c (only q c is).0 in
        among_last q (gone_in s.outputs) (locals mine)
        (subst (λ x. Among x (locals mine)) local (among_locals c mine (filter_among (λ (x : BookCall). x.tunnel == n) k.calls c there (same c.tunnel n own)))))
        (λ (far : c.tunnel ≡ n → ⊥). absurd (none-some c (sym gone ∙ out_stays j tunnels_up calls_up n q c is far)))
        (same_or_not c.tunnel n)

    pub out_gone : TellsGone k next (behind_all s y)
    out_gone = record {
      once = subst AreOnce (sym told_both) (once_both (gone_in s.outputs) (locals mine) h.once (once_locals 0 mine rise) (λ q l r.
          let c = in_before q r in none-some c.0 (sym (h.had q l).1 ∙ c.1.0)));
      had = λ q a. ⊎_elim
          (λ (l : Among q (gone_in s.outputs)).
          let f = h.had q l in (f.0, not_after q None f.1 (λ c is. absurd (none-some c is))))
          (λ (r : Among q (locals mine)).
          let c = in_before q r in
          (ap is_some (only q c.0 c.1.0).0, not_after q (Some c.0) c.1.0 (λ d is. let one : c.0 ≡ d = cc in ap (λ (x : BookCall). x.tunnel) (sym one) ∙ c.1.1)))
          (among_either q (gone_in s.outputs) (locals mine) (subst (λ (qs : List ℕ). Among q qs) told_both a));
      told = λ q some gone. subst (λ (qs : List ℕ). Among q qs) (sym told_both) (told_by q some gone (call_at j q) refl);
    }
