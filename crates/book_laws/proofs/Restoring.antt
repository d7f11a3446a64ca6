-- A tunnel that comes back: the end has what the book has of it, and its tables fit.
use Rattle.std.proofs.Common.{◌≡◌, ⊎_elim, ℕ, ◌<◌, ◌≤◌, suc, true, false, cond, ◌==◌, not, List, [], ◌∷◌, length, Option, Some, None, refl, sym, ◌∙◌, ap, subst, arith}
use Rattle.std.specs.List.{AllByRecursion}
use Rattle.std.proofs.lemmas.Bool.{true≢false, eqb-true}
use Rattle.std.proofs.lemmas.Option.{none-some}
use Rattle.id_table.specs.Ids.{at, put}
use Rattle.id_table.specs.Order.{Ascends, at_new, at_other, found_put, same_or_not, ascends-empty, ascends-put}
use Rattle.tunnel_fsm.specs.Rows.{state_number}
use Rattle.call_fsm.specs.declared.table.CallState.TheVariants.{Established}
use Rattle.session_book.specs.declared.record.BookTunnel.{BookTunnel}
use Rattle.session_book.specs.declared.record.BookCall.{BookCall}
use Rattle.session_book.specs.Books.{Kept, AreRising, tunnel_at, call_at, calls_of}
use Rattle.end_names.specs.declared.role.Role.{Role}
use Rattle.end_names.specs.declared.role.Role.TheVariants.{Lac, Lns}
use Rattle.end_model.specs.declared.tunnel.Call.{Call}
use Rattle.end_model.specs.declared.tunnel.CallPlace.{CallPlace}
use Rattle.end_model.specs.declared.moves.Restored.{Restored}
use Rattle.end_model.specs.Calls.{is_up}
use Rattle.end_model.specs.End.{End}
use Rattle.end_model.specs.Starting.{kept_control, kept_call}
use Rattle.end_model.specs.Tunnels.{Tunnel, Ground, new_tunnel}
use Rattle.step_laws.specs.Letters.{Among}
use Rattle.step_laws.specs.Looks.{LooksAreTrue}
use Rattle.step_laws.specs.Moves.{Restores, calls_back}
use Rattle.book_laws.specs.Books.{Mirrors, HasNone, CallFits, TunnelFits, TablesFit, RecordsNone, booked_call, booked_control, tunnel_record, call_record, record_in}
use Rattle.book_laws.specs.Starts.{AreUp}
use Rattle.book_laws.proofs.Lists.{same, put_most, entry_has, filter_rises, passing}
use Rattle.book_laws.proofs.Views.{id_of, session_of}
use Rattle.book_laws.proofs.Fitting.{Grows, put_fits, more_few}
use Rattle.book_laws.proofs.Changes.{up_record}
use Rattle.book_laws.proofs.Moves.{draws_tunnel}
use Rattle.book_laws.proofs.States.{numbers_first}
use Rattle.book_laws.proofs.Returning.{which_call, own_call, restored_looks, CallsRise}
use Rattle.book_laws.proofs.Pending.{among_filter, filter_among, all_among, each_among, entry_among, among_entry, calls_rise, waits, waits_first, waits_later, decided, decided_tunnel, decided_call, stays_tunnel, stays_call, passes, passed, not_waiting}

-- what is recorded of a call that comes back is what was
kept_record : (r : Role) (g : Ground) (i s : ℕ) (c : BookCall) → c.local ≡ s → c.tunnel ≡ i → booked_call i s (kept_call r g c) ≡ c
kept_record r g i s c local tunnel =
    let numbers = numbers_first c.sequenced in
    let l = sym local in
    let t = sym tunnel in
    rw (numbers, l, t) refl

none_kept : (r : Role) (g : Ground) (c : BookCall) → RecordsNone r c → HasNone r (kept_call r g c)
none_kept Lac g c none = rw none refl
none_kept Lns g c none = none

ascends_back : (r : Role) (g : Ground) (cs : List BookCall) → Ascends (calls_back r g cs)
ascends_back r g [] = ascends-empty [] refl
ascends_back r g (c ∷ cs) = ascends-put c.local _ (calls_back r g cs) (ascends_back r g cs)

few_back : (r : Role) (g : Ground) (cs : List BookCall) → length (calls_back r g cs) ≤ length cs
few_back r g [] = omega arith
few_back r g (c ∷ cs) =
    let later = few_back r g cs in
    let most = put_most (calls_back r g cs) c.local (kept_call r g c) in
    omega (arith, later, most)

module _ (e : End) (fit : TablesFit e) (up : AreUp e) (looks : LooksAreTrue e) (b : BookTunnel) (bs : List BookTunnel) (j : Kept)
    (mirrors : Mirrors e (decided (b ∷ bs) j)) (tunnels_up : AreRising id_of j.tunnels) (calls_up : AreRising session_of j.calls)
    (found_b : tunnel_at j b.local ≡ Some b) (decides : waits bs b.local ≡ false) (moment : ℕ) (m : Restored) (z : End) (h : Restores e moment m z)
    (is : m.tunnel ≡ b) (own_calls : m.calls ≡ calls_of b.local j.calls) (some : 0 < b.local) (low : b.local < e.tunnel_ids.next) (window : 0 < b.window)
    (few : length e.tunnels < 1024) (few_own : length (calls_of b.local j.calls) ≤ 4096)
    (sounds : AllByRecursion (λ (c : BookCall). (0 < c.local) × (c.local < e.session_ids.next)) j.calls)
    (none : AllByRecursion (RecordsNone e.role) j.calls) where
  abbrev i : ℕ
  i = b.local

  abbrev own : List BookCall
  own = calls_of b.local j.calls

  abbrev T : Tunnel
  T = record (new_tunnel (kept_control moment m.tunnel)) { calls = calls_back e.role h.ground m.calls; recovery = Some h.recovery }

  tunnels_are : z.tunnels ≡ put e.tunnels i T
  tunnels_are = subst (λ n. z.tunnels ≡ put e.tunnels n T) (ap (λ (t : BookTunnel). t.local) is) (ap (λ (x : End). x.tunnels) h.after)

  at_it : at z.tunnels i ≡ Some T
  at_it = ap (λ (ts : List (ℕ × Tunnel)). at ts i) tunnels_are ∙ at_new e.tunnels i T

  at_else : (n : ℕ) → (n ≡ i → ⊥) → at z.tunnels n ≡ at e.tunnels n
  at_else n apart = ap (λ (ts : List (ℕ × Tunnel)). at ts n) tunnels_are ∙ at_other e.tunnels i T n apart

  -- ---- its calls are those of the book

  among_own : (c : BookCall) → Among c m.calls → Among c j.calls × (c.tunnel ≡ i)
  among_own c a =
      let f = among_filter (λ (d : BookCall). d.tunnel == i) j.calls c (subst (λ (cs : List BookCall). Among c cs) own_calls a) in
      (f.0, eqb-true c.tunnel i f.1)

  own_among : (c : BookCall) → Among c j.calls → c.tunnel ≡ i → Among c m.calls
  own_among c a tunnel =
      subst (λ (cs : List BookCall). Among c cs) (sym own_calls) (filter_among (λ (d : BookCall). d.tunnel == i) j.calls c a (same c.tunnel i tunnel))

  -- ---- what the book has of other tunnels

  old_tunnel : (n : ℕ) → (n ≡ i → ⊥) → tunnel_at (decided bs j) n ≡ tunnel_at (decided (b ∷ bs) j) n
  old_tunnel n apart = decided_tunnel bs j tunnels_up calls_up n ∙ by (tunnel_at j n) refl ∙ sym (decided_tunnel (b ∷ bs) j tunnels_up calls_up n)
    where
      by : (o : Option BookTunnel) → tunnel_at j n ≡ o → passing id_of (stays_tunnel bs) o ≡ passing id_of (stays_tunnel (b ∷ bs)) o
      by None found = refl
      by (Some t) found =
          let local = entry_has id_of n j.tunnels t found in
          ap (λ q. cond (not q) (Some t) None) (sym (waits_later b bs t.local (λ f. apart (sym local ∙ f))))

  -- and of their calls
  old_call : (s : ℕ) (c : BookCall) → (c.tunnel ≡ i → ⊥) → call_at (decided bs j) s ≡ Some c → call_at (decided (b ∷ bs) j) s ≡ Some c
  old_call s c apart found =
      let p = passes session_of (stays_call bs) (call_at j s) c (sym (decided_call bs j tunnels_up calls_up s) ∙ found) in
      decided_call (b ∷ bs) j tunnels_up calls_up s
      ∙ passed session_of (stays_call (b ∷ bs)) (call_at j s) c p.0 (ap not (waits_later b bs c.tunnel apart) ∙ p.1)

  call_before : (s : ℕ) (c : BookCall) → call_at (decided (b ∷ bs) j) s ≡ Some c → (call_at j s ≡ Some c) × (c.tunnel ≡ i → ⊥)
  call_before s c found =
      let p = passes session_of (stays_call (b ∷ bs)) (call_at j s) c (sym (decided_call (b ∷ bs) j tunnels_up calls_up s) ∙ found) in
      (p.0, λ own. true≢false (sym (waits_first b bs) ∙ ap (waits (b ∷ bs)) (sym own) ∙ not_waiting (waits (b ∷ bs) c.tunnel) p.1))

  new_call : (s : ℕ) (c : BookCall) → call_at (decided (b ∷ bs) j) s ≡ Some c → call_at (decided bs j) s ≡ Some c
  new_call s c found =
      let p = passes session_of (stays_call (b ∷ bs)) (call_at j s) c (sym (decided_call (b ∷ bs) j tunnels_up calls_up s) ∙ found) in
      let apart = (call_before s c found).1 in
      decided_call bs j tunnels_up calls_up s
      ∙ passed session_of (stays_call bs) (call_at j s) c p.0 (ap not (sym (waits_later b bs c.tunnel apart)) ∙ p.1)

  -- ---- the book

  -- a call of another tunnel isn't one of those that come back
  elsewhere : (n : ℕ) (t : Tunnel) → at e.tunnels n ≡ Some t → (s : ℕ) (d : Call) → at t.calls s ≡ Some d → (c : BookCall) → call_at j s ≡ Some c
      → c.tunnel ≡ i → ⊥
  elsewhere n t there s d live c found tunnel =
      let state = (up n t there).1 s d live in
      let recorded : record_in n s (at e.tunnels n) ≡ Some (booked_call n s d) =
      ap (record_in n s) there ∙ ap (call_record n s) live ∙ up_record n s d (ap is_up state) in
      let before = call_before s (booked_call n s d) (mirrors.all_calls n s (booked_call n s d) recorded) in
      let both : Some (booked_call n s d) ≡ Some c = sym before.0 ∙ found in
      let one : booked_call n s d ≡ c = cc in
      before.1 (ap (λ (x : BookCall). x.tunnel) one ∙ tunnel)

  found_own : (c : BookCall) → Among c m.calls → call_at j c.local ≡ Some c
  found_own c a = among_entry session_of j.calls calls_up c (among_own c a).0

  pub rise : CallsRise 0 m.calls
  rise =
      subst (CallsRise 0) (sym own_calls) (calls_rise 0 own
      (each_among (λ (c : BookCall). 0 < c.local) own (λ c a.
      (all_among (λ (d : BookCall). (0 < d.local) × (d.local < e.session_ids.next)) j.calls c sounds (among_filter (λ (d : BookCall). d.tunnel == i) j.calls c a).0).0))
      (filter_rises session_of (λ (d : BookCall). d.tunnel == i) j.calls calls_up))

  low_m : m.tunnel.local < e.tunnel_ids.next
  low_m = subst (λ (t : BookTunnel). t.local < e.tunnel_ids.next) (sym is) low

  fresh : AllByRecursion (λ (c : BookCall). at e.calls c.local ≡ None) m.calls
  fresh = each_among (λ (c : BookCall). at e.calls c.local ≡ None) m.calls (λ c a. by c a (at e.calls c.local) refl)
    where
      by : (c : BookCall) → Among c m.calls → (o : Option CallPlace) → at e.calls c.local ≡ o → o ≡ None
      by c a None place = refl
      by c a (Some p) place =
          let l = looks.live c.local p place in
          absurd (elsewhere p.tunnel l.tunnel l.there c.local l.call l.live c (found_own c a) (among_own c a).1)

  drawn : AllByRecursion (λ (c : BookCall). c.local < e.session_ids.next) m.calls
  drawn = each_among (λ (c : BookCall). c.local < e.session_ids.next) m.calls (λ c a.
      (all_among (λ (d : BookCall). (0 < d.local) × (d.local < e.session_ids.next)) j.calls c sounds (among_own c a).0).1)

  pub back_looks : LooksAreTrue z
  back_looks = restored_looks e looks moment m z h rise low_m fresh drawn

  -- each of its calls is one of the book
  abbrev OneOf : ℕ → Call → Type 0
  OneOf s d = (c : BookCall) × (Among c m.calls × ((s ≡ c.local) × (kept_call e.role h.ground c ≡ d)))

  one_of : (s : ℕ) (d : Call) → at T.calls s ≡ Some d → OneOf s d
  one_of s d live =
      let o = which_call e looks moment m z h rise low_m fresh drawn s d live in
      (o.of, (o.among, (o.session, o.call)))

  -- ---- the book

  tunnel_back : tunnel_record i (Some T) ≡ Some b
  tunnel_back = ap (λ (t : BookTunnel). Some (booked_control i (kept_control moment t))) is

  call_back : (s : ℕ) (c : BookCall) → call_at j s ≡ Some c → c.tunnel ≡ i → call_record i s (at T.calls s) ≡ Some c
  call_back s c found tunnel =
      let local = entry_has session_of s j.calls c found in
      let live = own_call e looks moment m z h rise low_m fresh drawn c (own_among c (entry_among session_of s j.calls c found) tunnel) in
      ap (call_record i s) (ap (at T.calls) (sym local) ∙ live) ∙ up_record i s (kept_call e.role h.ground c) refl
      ∙ ap (λ (d : BookCall). Some d) (kept_record e.role h.ground i s c local tunnel)

  back_call : (s : ℕ) (c : BookCall) → record_in i s (at z.tunnels i) ≡ Some c → call_at (decided bs j) s ≡ Some c
  back_call s c is_recorded = by (at T.calls s) refl (ap (record_in i s) (sym at_it) ∙ is_recorded)
    where
      by : (o : Option Call) → at T.calls s ≡ o → call_record i s o ≡ Some c → call_at (decided bs j) s ≡ Some c
      by None live f = absurd (none-some c f)
      by (Some d) live f =
          let o = one_of s d live in
          let mine = among_own o.0 o.1.0 in
          let found : call_at j s ≡ Some o.0 = ap (call_at j) o.1.1.0 ∙ found_own o.0 o.1.0 in
          let same_one : Some o.0 ≡ Some c = sym (call_back s o.0 found mine.1) ∙ ap (call_record i s) live ∙ f in
          let one : o.0 ≡ c = cc in
          let stays : stays_call bs c ≡ true = ap (λ (x : BookCall). stays_call bs x) (sym one) ∙ ap (λ n. not (waits bs n)) mine.1 ∙ ap not decides in
          decided_call bs j tunnels_up calls_up s ∙ passed session_of (stays_call bs) (call_at j s) c (found ∙ same_one) stays

  pub back_mirrors : Mirrors z (decided bs j)
  back_mirrors = record {
    tunnels = λ n. ⊎_elim
        (λ (mine : n ≡ i). subst (λ q. tunnel_at (decided bs j) q ≡ tunnel_record q (at z.tunnels q)) (sym mine)
        (decided_tunnel bs j tunnels_up calls_up i ∙ passed id_of (stays_tunnel bs) (tunnel_at j i) b found_b (ap not decides)
        ∙ sym (ap (tunnel_record i) at_it ∙ tunnel_back)))
        (λ (apart : n ≡ i → ⊥). old_tunnel n apart ∙ mirrors.tunnels n ∙ sym (ap (tunnel_record n) (at_else n apart)))
        (same_or_not n i);
    calls = λ s c found. ⊎_elim
        (λ (mine : c.tunnel ≡ i).
        let p = passes session_of (stays_call bs) (call_at j s) c (sym (decided_call bs j tunnels_up calls_up s) ∙ found) in
        subst (λ q. record_in q s (at z.tunnels q) ≡ Some c) (sym mine) (ap (record_in i s) at_it ∙ call_back s c p.0 mine))
        (λ (apart : c.tunnel ≡ i → ⊥). ap (record_in c.tunnel s) (at_else c.tunnel apart) ∙ mirrors.calls s c (old_call s c apart found))
        (same_or_not c.tunnel i);
    all_calls = λ n s c recorded. ⊎_elim
        (λ (mine : n ≡ i). back_call s c (subst (λ q. record_in q s (at z.tunnels q) ≡ Some c) mine recorded))
        (λ (apart : n ≡ i → ⊥). new_call s c (mirrors.all_calls n s c (sym (ap (record_in n s) (at_else n apart)) ∙ recorded)))
        (same_or_not n i);
    tunnels_rise = filter_rises id_of (stays_tunnel bs) j.tunnels tunnels_up;
    calls_rise = filter_rises session_of (stays_call bs) j.calls calls_up;
  }

  -- ---- the tables

  pub back_grows : Grows e z
  back_grows =
      draws_tunnel e z m.attempt h.local (ap (λ (x : End). x.role) h.after) (ap (λ (x : End). x.tunnel_ids) h.after) (ap (λ (x : End). x.session_ids) h.after)

  call_fits : (s : ℕ) (d : Call) → at T.calls s ≡ Some d → CallFits z T s d
  call_fits s d live =
      let o = one_of s d live in
      let mine = among_own o.0 o.1.0 in
      let sound = all_among (λ (c : BookCall). (0 < c.local) × (c.local < e.session_ids.next)) j.calls o.0 sounds mine.0 in
      let session = o.1.1.0 in
      let more = back_grows.sessions in
      let first = sound.0 in
      let last = sound.1 in
      record {
        some = omega (arith, session, first);
        drawn = omega (arith, session, last, more);
        none = subst (λ r. HasNone r d) (sym back_grows.role) (subst (HasNone e.role) o.1.1.1
            (none_kept e.role h.ground o.0 (all_among (RecordsNone e.role) j.calls o.0 none mine.0)));
        up = λ is_up. refl;
      }

  back_fits_one : TunnelFits z i T
  back_fits_one = record {
    some = some;
    drawn = (let more = back_grows.tunnels in omega (arith, low, more));
    order = ascends_back e.role h.ground m.calls;
    few = (let most = few_back e.role h.ground m.calls in let long = ap length own_calls in omega (arith, most, long, few_own));
    remote = λ two. absurd (omega (arith, two));
    window = subst (λ (t : BookTunnel). 0 < t.window) (sym is) window;
    unmarked = λ under. absurd (omega (arith, under));
    recovered = λ apart. refl;
    calls = call_fits;
  }

  pub back_fits : TablesFit z
  back_fits =
      put_fits e z fit back_grows i T tunnels_are (more_few e z fit back_grows i T few tunnels_are) back_fits_one
      (λ s d live n t there apart d2 live2.
      let o = one_of s d live in
      elsewhere n t there s d2 live2 o.0 (ap (call_at j) o.1.1.0 ∙ found_own o.0 o.1.0) (among_own o.0 o.1.0).1)

  pub back_up : AreUp z
  back_up n t there = ⊎_elim
      (λ (a : (n ≡ i) × (T ≡ t)). subst (λ (u : Tunnel). (state_number u.control.state ≡ 3) × ((s : ℕ) (c : Call) → at u.calls s ≡ Some c → c.state ≡ Established)) a.1
      (refl, (λ s c live. let o = one_of s c live in ap (λ (x : Call). x.state) (sym o.1.1.1))))
      (λ (a : (n ≡ i → ⊥) × (at e.tunnels n ≡ Some t)). up n t a.1)
      (found_put e.tunnels i T n t (subst (λ (ts : List (ℕ × Tunnel)). at ts n ≡ Some t) tunnels_are there))

  pub back_few : length z.tunnels ≤ suc (length e.tunnels)
  back_few = (let same_length = ap (λ (ts : List (ℕ × Tunnel)). length ts) tunnels_are in let most = put_most e.tunnels i T in omega (arith, same_length, most))
