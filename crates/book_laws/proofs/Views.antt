-- What a book becomes where an end's tunnels and calls come up and go.
use Rattle.std.proofs.Common.{◌≡◌, ⊎_elim, ℕ, ◌+◌, ◌<◌, ◌≤◌, Bool, true, false, cond, ◌==◌, not, ◌∷◌, length, filter, Option, Some, None, is_some, refl, sym, ◌∙◌, ap, subst, arith}
use Rattle.std.specs.Prelude.{nat_eq, option_map}
use Rattle.std.proofs.lemmas.Option.{none-some}
use Rattle.std.proofs.lemmas.Bool.{eqb-true, eqb-false}
use Rattle.id_table.specs.Ids.{at}
use Rattle.id_table.specs.Order.{same_or_not}
use Rattle.session_book.specs.declared.record.BookTunnel.{BookTunnel}
use Rattle.session_book.specs.declared.record.BookCall.{BookCall}
use Rattle.session_book.specs.declared.record.Record.TheVariants.{TunnelUp, TunnelDown, CallUp, CallDown, Mark}
use Rattle.session_book.specs.Books.{Kept, entry, put, tunnel_at, call_at, calls_of, mark_on, is_marked_below, fits, stepped}
use Rattle.session_book.proofs.Orders.{marked_rises}
use Rattle.end_model.specs.declared.tunnel.Call.{Call}
use Rattle.end_model.specs.Calls.{is_up}
use Rattle.end_model.specs.End.{End}
use Rattle.end_model.specs.Moments.{is_open}
use Rattle.end_model.specs.Tunnels.{Tunnel}
use Rattle.book_laws.specs.Books.{Mirrors, booked_control, booked_call, tunnel_record, call_record, record_in}
use Rattle.book_laws.proofs.Lists.{below, within, same, other, both, filter_rises, put_rises, length_put, put_passes, entry_put, entry_put_other, entry_has, passing, entry_filter, entry_map, all_found, no_more}

abbrev pub id_of : BookTunnel → ℕ
id_of t = t.local

abbrev pub session_of : BookCall → ℕ
session_of c = c.local

-- ---- what is recorded of a tunnel and of a call

pub open_record : (i : ℕ) (t : Tunnel) (r : BookTunnel) → tunnel_record i (Some t) ≡ Some r → is_open t.control.state ≡ true
open_record i t r is = by (is_open t.control.state) is
  where
    by : (b : Bool) → cond b (Some (booked_control i t.control)) None ≡ Some r → b ≡ true
    by true h = refl
    by false h = absurd (none-some r h)

is_recorded : (i : ℕ) (o : Option Tunnel) (r : BookTunnel) → tunnel_record i o ≡ Some r → is_some o ≡ true
is_recorded i None r is = absurd (none-some r is)
is_recorded i (Some t) r is = refl

of_call : (i s : ℕ) (o : Option Call) (b : BookCall) → call_record i s o ≡ Some b → (is_some o ≡ true) × (b.tunnel ≡ i)
of_call i s None b is = absurd (none-some b is)
of_call i s (Some c) b is = (refl, by (is_up c.state) is)
  where
    by : (q : Bool) → cond q (Some (booked_call i s c)) None ≡ Some b → b.tunnel ≡ i
    by true h = (let e : booked_call i s c ≡ b = cc in ap (λ (x : BookCall). x.tunnel) (sym e))
    by false h = absurd (none-some b h)

pub tunnel_of : (i s : ℕ) (o : Option Tunnel) (b : BookCall) → record_in i s o ≡ Some b → b.tunnel ≡ i
tunnel_of i s None b is = absurd (none-some b is)
tunnel_of i s (Some t) b is = (of_call i s (at t.calls s) b is).1

none_is : {X : Type 0} (o : Option X) → ((x : X) → o ≡ Some x → ⊥) → o ≡ None
none_is None h = refl
none_is (Some x) h = absurd (h x refl)

-- ---- how many there are

module _ (e : End) (k : Kept) (book : Mirrors e k) where
  pub tunnels_few : length k.tunnels ≤ length e.tunnels
  tunnels_few = no_more id_of k.tunnels e.tunnels book.tunnels_rise (all_found id_of (λ r. is_some (at e.tunnels r.local) ≡ true) k.tunnels book.tunnels_rise (λ id r is.
      let own : r.local ≡ id = entry_has id_of id k.tunnels r is in
      subst (λ n. is_some (at e.tunnels n) ≡ true) (sym own) (is_recorded id (at e.tunnels id) r (sym (book.tunnels id) ∙ is))))

  pub calls_few : (i : ℕ) (t : Tunnel) → at e.tunnels i ≡ Some t → length (calls_of i k.calls) ≤ length t.calls
  calls_few i t there =
      let rises = filter_rises session_of (λ c. c.tunnel == i) k.calls book.calls_rise in
      no_more session_of (calls_of i k.calls) t.calls rises (all_found session_of (λ c. is_some (at t.calls c.local) ≡ true) (calls_of i k.calls) rises (λ s c is.
      let own : c.local ≡ s = entry_has session_of s (calls_of i k.calls) c is in
      let p = passed s (call_at k s) c (sym (entry_filter session_of (λ c. c.tunnel == i) s k.calls book.calls_rise) ∙ is) in
      let in_tunnel : record_in i s (at e.tunnels i) ≡ Some c = subst (λ n. record_in n s (at e.tunnels n) ≡ Some c) p.1 (book.calls s c p.0) in
      let found : call_record i s (at t.calls s) ≡ Some c = ap (record_in i s) (sym there) ∙ in_tunnel in
      subst (λ n. is_some (at t.calls n) ≡ true) (sym own) (of_call i s (at t.calls s) c found).0))
    where
      passed : (s : ℕ) (o : Option BookCall) (c : BookCall) → passing session_of (λ c. c.tunnel == i) o ≡ Some c → (o ≡ Some c) × (c.tunnel ≡ i)
      passed s None c is = absurd (none-some c is)
      passed s (Some d) c is = by (d.tunnel == i) refl is
        where
          by : (b : Bool) → nat_eq d.tunnel i ≡ b → cond b (Some d) None ≡ Some c → (Some d ≡ Some c) × (c.tunnel ≡ i)
          by true e h = (h, (let same_call : d ≡ c = cc in subst (λ (x : BookCall). x.tunnel ≡ i) same_call (eqb-true d.tunnel i e)))
          by false e h = absurd (none-some c h)

-- ---- an end that another one becomes

module _ (e x : End) (k : Kept) (book : Mirrors e k) where
  -- the tunnels that aren't this one are as they were
  abbrev pub SameTunnels : ℕ → Type 0
  SameTunnels i = (j : ℕ) → (j ≡ i → ⊥) → tunnel_record j (at x.tunnels j) ≡ tunnel_record j (at e.tunnels j)

  abbrev pub SameCalls : ℕ → ℕ → Type 0
  SameCalls i s = (j q : ℕ) → (j ≡ i → q ≡ s → ⊥) → record_in j q (at x.tunnels j) ≡ record_in j q (at e.tunnels j)

  pub same_book : ((i : ℕ) → tunnel_record i (at x.tunnels i) ≡ tunnel_record i (at e.tunnels i))
      → ((i s : ℕ) → record_in i s (at x.tunnels i) ≡ record_in i s (at e.tunnels i)) → Mirrors x k
  same_book ts cs = record {
    tunnels = λ i. book.tunnels i ∙ sym (ts i);
    calls = λ s b h. cs b.tunnel s ∙ book.calls s b h;
    all_calls = λ i s b h. book.all_calls i s b (sym (cs i s) ∙ h);
    tunnels_rise = book.tunnels_rise;
    calls_rise = book.calls_rise;
  }

  -- a tunnel comes up
  pub record TunnelComes (t : BookTunnel) : Type 0 where
    pub before : tunnel_record t.local (at e.tunnels t.local) ≡ None
    pub after : tunnel_record t.local (at x.tunnels t.local) ≡ Some t
    pub others : SameTunnels t.local
    pub calls : (i s : ℕ) → record_in i s (at x.tunnels i) ≡ record_in i s (at e.tunnels i)
    pub some : 0 < t.local
    pub drawn : t.local ≤ k.tunnel_ceiling
    pub remote : 0 < t.remote
    pub window : 0 < t.window
    pub few : length x.tunnels ≤ 1024

  module _ (t : BookTunnel) (h : TunnelComes t) where
    new_tunnel : is_some (tunnel_at k t.local) ≡ false
    new_tunnel = ap is_some (book.tunnels t.local ∙ h.before)

    pub tunnel_came : Mirrors x (stepped k (TunnelUp t))
    tunnel_came = record {
      tunnels = λ i. ⊎_elim
          (λ (is : i ≡ t.local). subst (λ n. entry id_of n (put id_of t k.tunnels) ≡ tunnel_record n (at x.tunnels n)) (sym is) (entry_put id_of t k.tunnels ∙ sym h.after))
          (λ o. entry_put_other id_of i t k.tunnels o ∙ book.tunnels i ∙ sym (h.others i o))
          (same_or_not i t.local);
      calls = λ s b is. h.calls b.tunnel s ∙ book.calls s b is;
      all_calls = λ i s b is. book.all_calls i s b (sym (h.calls i s) ∙ is);
      tunnels_rise = put_rises id_of t k.tunnels new_tunnel book.tunnels_rise;
      calls_rise = book.calls_rise;
    }

    pub tunnel_fits : fits k (TunnelUp t) ≡ true
    tunnel_fits =
        let most = tunnels_few x (stepped k (TunnelUp t)) tunnel_came in
        let longer = length_put id_of t k.tunnels in
        let few = h.few in
        let fewer : length k.tunnels < 1024 = omega (arith, most, longer, few) in
        both _ _ (both _ _ (both _ _ (below 0 t.local h.some) (within t.local k.tunnel_ceiling h.drawn)) (ap not new_tunnel))
        (both _ _ (below (length k.tunnels) 1024 fewer) (both _ _ (below 0 t.remote h.remote) (below 0 t.window h.window)))

  -- one goes with its calls
  pub record TunnelGoes (i : ℕ) : Type 0 where
    pub before : is_some (tunnel_record i (at e.tunnels i)) ≡ true
    pub after : tunnel_record i (at x.tunnels i) ≡ None
    pub others : SameTunnels i
    pub no_calls : (s : ℕ) → record_in i s (at x.tunnels i) ≡ None
    pub calls : (j s : ℕ) → (j ≡ i → ⊥) → record_in j s (at x.tunnels j) ≡ record_in j s (at e.tunnels j)

  module _ (i : ℕ) (h : TunnelGoes i) where
    pub tunnel_went_fits : fits k (TunnelDown i) ≡ true
    tunnel_went_fits = ap is_some (book.tunnels i) ∙ h.before

    left_tunnel : (j : ℕ) (o : Option BookTunnel) → tunnel_at k j ≡ o → passing id_of (λ t. not (t.local == i)) o ≡ tunnel_record j (at x.tunnels j)
    left_tunnel j None is = ⊎_elim
        (λ (e_is : j ≡ i). subst (λ n. None ≡ tunnel_record n (at x.tunnels n)) (sym e_is) (sym h.after))
        (λ o. sym (h.others j o ∙ sym (book.tunnels j) ∙ is))
        (same_or_not j i)
    left_tunnel j (Some r) is =
        let own : r.local ≡ j = entry_has id_of j k.tunnels r is in
        ⊎_elim
        (λ (e_is : j ≡ i). ap (λ b. cond (not b) (Some r) None) (same r.local i (own ∙ e_is)) ∙ subst (λ n. None ≡ tunnel_record n (at x.tunnels n)) (sym e_is) (sym h.after))
        (λ (o : j ≡ i → ⊥). ap (λ b. cond (not b) (Some r) None) (other r.local i (λ f. o (sym own ∙ f))) ∙ sym (h.others j o ∙ sym (book.tunnels j) ∙ is))
        (same_or_not j i)

    left_call : (s : ℕ) (o : Option BookCall) (b : BookCall) → passing session_of (λ c. not (c.tunnel == i)) o ≡ Some b → (o ≡ Some b) × (b.tunnel ≡ i → ⊥)
    left_call s None b is = absurd (none-some b is)
    left_call s (Some d) b is = by (d.tunnel == i) refl is
      where
        by : (q : Bool) → nat_eq d.tunnel i ≡ q → cond (not q) (Some d) None ≡ Some b → (Some d ≡ Some b) × (b.tunnel ≡ i → ⊥)
        by true e_is g = absurd (none-some b g)
        by false e_is g = (g, (let same_call : d ≡ b = cc in subst (λ (z : BookCall). z.tunnel ≡ i → ⊥) same_call (eqb-false d.tunnel i e_is)))

    pub tunnel_went : Mirrors x (stepped k (TunnelDown i))
    tunnel_went = record {
      tunnels = λ j. entry_filter id_of (λ t. not (t.local == i)) j k.tunnels book.tunnels_rise ∙ left_tunnel j (tunnel_at k j) refl;
      calls = λ s b is.
          let l = left_call s (call_at k s) b (sym (entry_filter session_of (λ c. not (c.tunnel == i)) s k.calls book.calls_rise) ∙ is) in
          h.calls b.tunnel s l.1 ∙ book.calls s b l.0;
      all_calls = λ j s b is.
          let o : j ≡ i → ⊥ = λ e_is. none-some b (sym (h.no_calls s) ∙ subst (λ n. record_in n s (at x.tunnels n) ≡ Some b) e_is is) in
          let there = book.all_calls j s b (sym (h.calls j s o) ∙ is) in
          let apart : b.tunnel ≡ i → ⊥ = λ e_is. o (sym (tunnel_of j s (at x.tunnels j) b is) ∙ e_is) in
          entry_filter session_of (λ c. not (c.tunnel == i)) s k.calls book.calls_rise ∙ ap (passing session_of (λ c. not (c.tunnel == i))) there
          ∙ ap (λ q. cond (not q) (Some b) None) (other b.tunnel i apart);
      tunnels_rise = filter_rises id_of (λ t. not (t.local == i)) k.tunnels book.tunnels_rise;
      calls_rise = filter_rises session_of (λ c. not (c.tunnel == i)) k.calls book.calls_rise;
    }

  -- the mark of an open tunnel rises
  pub record MarkRises (i mark : ℕ) (b : BookTunnel) : Type 0 where
    pub before : tunnel_record i (at e.tunnels i) ≡ Some b
    pub after : tunnel_record i (at x.tunnels i) ≡ Some (record b { mark = mark })
    pub others : SameTunnels i
    pub calls : (j s : ℕ) → record_in j s (at x.tunnels j) ≡ record_in j s (at e.tunnels j)
    pub higher : b.mark < mark

  module _ (i mark : ℕ) (b : BookTunnel) (h : MarkRises i mark b) where
    id_stays : (t : BookTunnel) → (mark_on i mark t).local ≡ t.local
    id_stays t = by (t.local == i)
      where
        by : (q : Bool) → (cond q (record t { mark = mark }) t).local ≡ t.local
        by true = refl
        by false = refl

    had : tunnel_at k i ≡ Some b
    had = book.tunnels i ∙ h.before

    marked_own : mark_on i mark b ≡ record b { mark = mark }
    marked_own = ap (λ q. cond q (record b { mark = mark }) b) (same b.local i (entry_has id_of i k.tunnels b had))

    marked_other : (j : ℕ) → (j ≡ i → ⊥) → (o : Option BookTunnel) → tunnel_at k j ≡ o → option_map (mark_on i mark) o ≡ o
    marked_other j apart None is = refl
    marked_other j apart (Some t) is =
        let own = entry_has id_of j k.tunnels t is in
        ap (λ q. Some (cond q (record t { mark = mark }) t)) (other t.local i (λ f. apart (sym own ∙ f)))

    pub tunnel_marked : Mirrors x (stepped k (Mark i mark))
    tunnel_marked = record {
      tunnels = λ j. entry_map id_of (mark_on i mark) id_stays j k.tunnels ∙ ⊎_elim
          (λ (own : j ≡ i). subst (λ n. option_map (mark_on i mark) (tunnel_at k n) ≡ tunnel_record n (at x.tunnels n)) (sym own)
          (ap (option_map (mark_on i mark)) had ∙ ap (λ (t : BookTunnel). Some t) marked_own ∙ sym h.after))
          (λ (o : j ≡ i → ⊥). marked_other j o (tunnel_at k j) refl ∙ book.tunnels j ∙ sym (h.others j o))
          (same_or_not j i);
      calls = λ s c f. h.calls c.tunnel s ∙ book.calls s c f;
      all_calls = λ j s c f. book.all_calls j s c (sym (h.calls j s) ∙ f);
      tunnels_rise = marked_rises i mark k.tunnels book.tunnels_rise;
      calls_rise = book.calls_rise;
    }

    pub mark_fits : fits k (Mark i mark) ≡ true
    mark_fits = ap (is_marked_below mark) had ∙ below b.mark mark h.higher

  -- a call comes up in an open tunnel
  pub record CallComes (c : BookCall) : Type 0 where
    pub before : (i : ℕ) → record_in i c.local (at e.tunnels i) ≡ None
    pub after : record_in c.tunnel c.local (at x.tunnels c.tunnel) ≡ Some c
    pub others : SameCalls c.tunnel c.local
    pub tunnels : (i : ℕ) → tunnel_record i (at x.tunnels i) ≡ tunnel_record i (at e.tunnels i)
    pub over : is_some (tunnel_record c.tunnel (at e.tunnels c.tunnel)) ≡ true
    pub some : 0 < c.local
    pub drawn : c.local ≤ k.session_ceiling
    pub tunnel : Tunnel
    pub there : at x.tunnels c.tunnel ≡ Some tunnel
    pub few : length tunnel.calls ≤ 4096

  module _ (c : BookCall) (h : CallComes c) where
    new_call : is_some (call_at k c.local) ≡ false
    new_call = ap is_some (none_is (call_at k c.local) (λ b is. none-some b (sym (h.before b.tunnel) ∙ book.calls c.local b is)))

    pub call_came : Mirrors x (stepped k (CallUp c))
    call_came = record {
      tunnels = λ i. book.tunnels i ∙ sym (h.tunnels i);
      calls = λ s b is. ⊎_elim
          (λ (own : s ≡ c.local).
          let there : Some c ≡ Some b = sym (entry_put session_of c k.calls) ∙ subst (λ n. entry session_of n (put session_of c k.calls) ≡ Some b) own is in
          let same_call : c ≡ b = cc in
          subst (λ (z : BookCall). record_in z.tunnel s (at x.tunnels z.tunnel) ≡ Some z) same_call (subst (λ n. record_in c.tunnel n (at x.tunnels c.tunnel) ≡ Some c) (sym own) h.after))
          (λ o. h.others b.tunnel s (λ f g. o g) ∙ book.calls s b (sym (entry_put_other session_of s c k.calls o) ∙ is))
          (same_or_not s c.local);
      all_calls = λ i s b is. ⊎_elim
          (λ (own : s ≡ c.local). ⊎_elim
          (λ (here : i ≡ c.tunnel).
          let at_c : record_in c.tunnel c.local (at x.tunnels c.tunnel) ≡ Some b = subst (λ n. record_in c.tunnel n (at x.tunnels c.tunnel) ≡ Some b) own (subst (λ n. record_in n s (at x.tunnels n) ≡ Some b) here is) in
          subst (λ n. entry session_of n (put session_of c k.calls) ≡ Some b) (sym own) (entry_put session_of c k.calls ∙ sym h.after ∙ at_c))
          (λ (far : i ≡ c.tunnel → ⊥).
          let was : record_in i c.local (at e.tunnels i) ≡ Some b = subst (λ n. record_in i n (at e.tunnels i) ≡ Some b) own (sym (h.others i s (λ f g. far f)) ∙ is) in
          absurd (none-some b (sym (h.before i) ∙ was)))
          (same_or_not i c.tunnel))
          (λ o. entry_put_other session_of s c k.calls o ∙ book.all_calls i s b (sym (h.others i s (λ f g. o g)) ∙ is))
          (same_or_not s c.local);
      tunnels_rise = book.tunnels_rise;
      calls_rise = put_rises session_of c k.calls new_call book.calls_rise;
    }

    pub call_fits : fits k (CallUp c) ≡ true
    call_fits =
        let most = calls_few x (stepped k (CallUp c)) call_came c.tunnel h.tunnel h.there in
        let longer = put_passes session_of (λ z. z.tunnel == c.tunnel) c k.calls in
        let first : length (filter (λ z. z.tunnel == c.tunnel) (c ∷ k.calls)) ≡ length (calls_of c.tunnel k.calls) + 1 =
        ap (λ b. length (cond b (c ∷ calls_of c.tunnel k.calls) (calls_of c.tunnel k.calls))) (same c.tunnel c.tunnel refl) ∙ omega arith in
        let few = h.few in
        let fewer : length (calls_of c.tunnel k.calls) < 4096 = omega (arith, most, longer, first, few) in
        both _ _ (both _ _ (both _ _ (below 0 c.local h.some) (within c.local k.session_ceiling h.drawn)) (ap not new_call))
        (both _ _ (ap is_some (book.tunnels c.tunnel) ∙ h.over) (below (length (calls_of c.tunnel k.calls)) 4096 fewer))

  -- one goes
  pub record CallGoes (i s : ℕ) : Type 0 where
    pub before : is_some (record_in i s (at e.tunnels i)) ≡ true
    pub alone : (j : ℕ) → (j ≡ i → ⊥) → record_in j s (at e.tunnels j) ≡ None
    pub after : record_in i s (at x.tunnels i) ≡ None
    pub others : SameCalls i s
    pub tunnels : (j : ℕ) → tunnel_record j (at x.tunnels j) ≡ tunnel_record j (at e.tunnels j)

  module _ (i s : ℕ) (h : CallGoes i s) where
    pub call_went_fits : fits k (CallDown s) ≡ true
    call_went_fits = by (record_in i s (at e.tunnels i)) refl h.before
      where
        by : (o : Option BookCall) → record_in i s (at e.tunnels i) ≡ o → is_some o ≡ true → is_some (call_at k s) ≡ true
        by (Some b) is some = ap is_some (book.all_calls i s b is)
        by None is some = absurd cc

    left_here : (q : ℕ) (o : Option BookCall) (b : BookCall) → call_at k q ≡ o → passing session_of (λ c. not (c.local == s)) o ≡ Some b → (o ≡ Some b) × (q ≡ s → ⊥)
    left_here q None b was is = absurd (none-some b is)
    left_here q (Some d) b was is =
        let own : d.local ≡ q = entry_has session_of q k.calls d was in
        by own (d.local == s) refl is
      where
        by : (d.local ≡ q) → (a : Bool) → nat_eq d.local s ≡ a → cond (not a) (Some d) None ≡ Some b → (Some d ≡ Some b) × (q ≡ s → ⊥)
        by own true e_is g = absurd (none-some b g)
        by own false e_is g = (g, λ f. eqb-false d.local s e_is (own ∙ f))

    gone_here : (j q : ℕ) (b : BookCall) → record_in j q (at x.tunnels j) ≡ Some b → q ≡ s → ⊥
    gone_here j q b is own = ⊎_elim
        (λ (here : j ≡ i). none-some b (sym h.after ∙ subst (λ n. record_in i n (at x.tunnels i) ≡ Some b) own (subst (λ n. record_in n q (at x.tunnels n) ≡ Some b) here is)))
        (λ (far : j ≡ i → ⊥). none-some b (sym (h.alone j far) ∙ subst (λ n. record_in j n (at e.tunnels j) ≡ Some b) own (sym (h.others j q (λ f g. far f)) ∙ is)))
        (same_or_not j i)

    pub call_went : Mirrors x (stepped k (CallDown s))
    call_went = record {
      tunnels = λ j. book.tunnels j ∙ sym (h.tunnels j);
      calls = λ q b is.
          let l = left_here q (call_at k q) b refl (sym (entry_filter session_of (λ c. not (c.local == s)) q k.calls book.calls_rise) ∙ is) in
          h.others b.tunnel q (λ f g. l.1 g) ∙ book.calls q b l.0;
      all_calls = λ j q b is.
          let o = gone_here j q b is in
          let there = book.all_calls j q b (sym (h.others j q (λ f g. o g)) ∙ is) in
          let own : b.local ≡ q = entry_has session_of q k.calls b there in
          entry_filter session_of (λ c. not (c.local == s)) q k.calls book.calls_rise ∙ ap (passing session_of (λ c. not (c.local == s))) there
          ∙ ap (λ a. cond (not a) (Some b) None) (other b.local s (λ f. o (sym own ∙ f)));
      tunnels_rise = book.tunnels_rise;
      calls_rise = filter_rises session_of (λ c. not (c.local == s)) k.calls book.calls_rise;
    }
