-- What an end's book becomes by each kind of change of its tunnels and calls.
use Rattle.std.proofs.Common.{◌≡◌, inl, inr, ⊎_elim, ℕ, ◌<◌, ◌≤◌, ◌==◌, Bool, true, false, cond, List, [], ◌∷◌, length, Option, Some, None, is_some, refl, sym, ◌∙◌, ap, subst, arith}
use Rattle.std.specs.Prelude.{max, nat_lt}
use Rattle.std.specs.List.{AllByRecursion}
use Rattle.std.proofs.lemmas.Bool.{true≢false}
use Rattle.std.proofs.lemmas.Bool.Decides.{nat_tests}
use Rattle.std.proofs.lemmas.Option.{none-some}
use Rattle.id_table.specs.Ids.{at, put, without, at-none}
use Rattle.id_table.specs.Order.{at_new, at_other, found_put, same_or_not, at_without_same, at_without_other, found_without}
use Rattle.id_source.specs.Spaces.{Space}
use Rattle.tunnel_fsm.specs.Rows.{state_number}
use Rattle.wire_base.specs.declared.letter.Letter.{Letter}
use Rattle.session_book.specs.declared.record.BookTunnel.{BookTunnel}
use Rattle.session_book.specs.declared.record.Record.{Record}
use Rattle.session_book.specs.declared.record.Record.TheVariants.{TunnelUp, CallUp}
use Rattle.session_book.specs.Books.{Kept}
use Rattle.end_model.specs.declared.tunnel.Call.{Call}
use Rattle.end_model.specs.declared.tunnel.Control.{Control}
use Rattle.end_model.specs.Calls.{is_up}
use Rattle.end_model.specs.Channels.{peer_window}
use Rattle.end_names.specs.declared.role.Role.{Role}
use Rattle.end_names.specs.declared.role.Role.TheVariants.{Lac, Lns}
use Rattle.end_model.specs.Contents.{tunnel_down, call_down, mark_by}
use Rattle.end_model.specs.End.{End}
use Rattle.end_model.specs.Moments.{is_open}
use Rattle.end_model.specs.Tunnels.{Tunnel, new_tunnel, Recovering, mode_of, is_current}
use Rattle.step_laws.specs.Moves.{with_tunnel}
use Rattle.book_laws.specs.Books.{Mirrors, AreDrawn, booked_control, booked_call, tunnel_record, call_record, record_in, HasNone, CallFits, TunnelFits, TablesFit, AreInPlace, book_after, RecordsNone, LeavesNone}
use Rattle.session_query.specs.Queries.{Asking}
use Rattle.book_laws.proofs.Lists.{put_most, put_there}
use Rattle.book_laws.proofs.Views.{same_book, TunnelComes, tunnel_came, tunnel_fits, TunnelGoes, tunnel_went_fits, tunnel_went, CallComes, call_came, call_fits, CallGoes, call_went_fits, call_went, MarkRises, tunnel_marked, mark_fits}
use Rattle.book_laws.proofs.Fitting.{Grows, tunnel_later, control_fits, call_put_fits, call_without_fits, bare_fits, put_fits, without_fits, only_in, only_new, same_few, fresh_tunnel, fresh_call, asks_fit}

-- a change leaves records, each in its place, and the book after them is that of the end after it
pub record GoesOn (e x : End) (k : Kept) (rs : List Record) : Type 0 where
  pub grows : Grows e x
  pub fit : TablesFit x
  pub in_place : AreInPlace k rs
  pub book : Mirrors x (book_after k rs)
  pub calls : AllByRecursion (LeavesNone x.role) rs

-- what is recorded of a control part is that of another
pub record SameControl (c d : Control) : Type 0 where
  pub state : d.state ≡ c.state
  pub remote : d.remote ≡ c.remote
  pub peer : d.peer ≡ c.peer
  pub window : peer_window d ≡ peer_window c
  pub flags : d.flags ≡ c.flags
  pub mark : d.mark ≡ c.mark

-- or all of it but the mark
pub record SameButMark (c d : Control) : Type 0 where
  pub state : d.state ≡ c.state
  pub remote : d.remote ≡ c.remote
  pub peer : d.peer ≡ c.peer
  pub window : peer_window d ≡ peer_window c
  pub flags : d.flags ≡ c.flags

lower_than : (a b : ℕ) → nat_lt a b ≡ true → a < b
lower_than a b is = grind (arith, nat_tests)

not_lower : (a b : ℕ) → nat_lt a b ≡ false → b ≤ a
not_lower a b is = grind (arith, nat_tests)

pub same_control : (c : Control) → SameControl c c
same_control c = record { state = refl; remote = refl; peer = refl; window = refl; flags = refl; mark = refl }

pub grows_so : (e x : End) → x.role ≡ e.role → x.tunnel_ids ≡ e.tunnel_ids → x.session_ids ≡ e.session_ids → Grows e x
grows_so e x role tunnels sessions = record {
  role = role;
  tunnels = (let q = ap (λ (s : Space). s.next) tunnels in omega (arith, q));
  sessions = (let q = ap (λ (s : Space). s.next) sessions in omega (arith, q));
}

same_record : (i : ℕ) (t u : Tunnel) → SameControl t.control u.control → tunnel_record i (Some u) ≡ tunnel_record i (Some t)
same_record i t u s = rw (s.state, s.remote, s.peer, s.window, s.flags, s.mark) refl

pub opened_record : (i : ℕ) (u : Tunnel) (r : BookTunnel) → state_number u.control.state ≡ 3 → booked_control i u.control ≡ r → tunnel_record i (Some u) ≡ Some r
opened_record i u r three is = ap (λ n. cond (n == 3) (Some (booked_control i u.control)) None) three ∙ ap (λ (b : BookTunnel). Some b) is

closed_record : (i : ℕ) (t : Tunnel) → is_open t.control.state ≡ false → tunnel_record i (Some t) ≡ None
closed_record i t shut = ap (λ b. cond b (Some (booked_control i t.control)) None) shut

pub up_record : (i s : ℕ) (c : Call) → is_up c.state ≡ true → call_record i s (Some c) ≡ Some (booked_call i s c)
up_record i s c up = ap (λ b. cond b (Some (booked_call i s c)) None) up

-- what is recorded of a call that has none
pub recorded_none : (r : Role) (i s : ℕ) (c : Call) → HasNone r c → RecordsNone r (booked_call i s c)
recorded_none Lac i s c none = ap is_some none
recorded_none Lns i s c none = none

pub down_record : (i s : ℕ) (c : Call) → is_up c.state ≡ false → call_record i s (Some c) ≡ None
down_record i s c down = ap (λ b. cond b (Some (booked_call i s c)) None) down

is_three : (n : ℕ) → (n == 3) ≡ false → n ≡ 3 → ⊥
is_three n apart three = absurd (let alike : true ≡ false = sym (ap (λ m. m == 3) three) ∙ apart in cc)

-- ---- a tunnel is put

module _ (e x : End) (i : ℕ) (u : Tunnel) (is : x.tunnels ≡ put e.tunnels i u) where
  at_it : at x.tunnels i ≡ Some u
  at_it = subst (λ (ts : List (ℕ × Tunnel)). at ts i ≡ Some u) (sym is) (at_new e.tunnels i u)

  at_else : (j : ℕ) → (j ≡ i → ⊥) → at x.tunnels j ≡ at e.tunnels j
  at_else j o = ap (λ (ts : List (ℕ × Tunnel)). at ts j) is ∙ at_other e.tunnels i u j o

  tunnels_else : (j : ℕ) → (j ≡ i → ⊥) → tunnel_record j (at x.tunnels j) ≡ tunnel_record j (at e.tunnels j)
  tunnels_else j o = ap (tunnel_record j) (at_else j o)

  calls_else : (j s : ℕ) → (j ≡ i → ⊥) → record_in j s (at x.tunnels j) ≡ record_in j s (at e.tunnels j)
  calls_else j s o = ap (record_in j s) (at_else j o)

  all_tunnels : tunnel_record i (Some u) ≡ tunnel_record i (at e.tunnels i) → (j : ℕ) → tunnel_record j (at x.tunnels j) ≡ tunnel_record j (at e.tunnels j)
  all_tunnels h j = ⊎_elim
      (λ own. subst (λ n. tunnel_record n (at x.tunnels n) ≡ tunnel_record n (at e.tunnels n)) (sym own) (ap (tunnel_record i) at_it ∙ h))
      (λ o. tunnels_else j o)
      (same_or_not j i)

  other_calls : (s : ℕ) → ((q : ℕ) → (q ≡ s → ⊥) → call_record i q (at u.calls q) ≡ record_in i q (at e.tunnels i))
      → (j q : ℕ) → (j ≡ i → q ≡ s → ⊥) → record_in j q (at x.tunnels j) ≡ record_in j q (at e.tunnels j)
  other_calls s h j q apart = ⊎_elim
      (λ own. subst (λ n. record_in n q (at x.tunnels n) ≡ record_in n q (at e.tunnels n)) (sym own) (ap (record_in i q) at_it ∙ h q (λ f. apart own f)))
      (λ o. calls_else j q o)
      (same_or_not j i)

  all_calls : ((q : ℕ) → call_record i q (at u.calls q) ≡ record_in i q (at e.tunnels i)) → (j q : ℕ) → record_in j q (at x.tunnels j) ≡ record_in j q (at e.tunnels j)
  all_calls h j q = ⊎_elim
      (λ own. subst (λ n. record_in n q (at x.tunnels n) ≡ record_in n q (at e.tunnels n)) (sym own) (ap (record_in i q) at_it ∙ h q))
      (λ o. calls_else j q o)
      (same_or_not j i)

module _ (e x : End) (k : Kept) (fit : TablesFit e) (drawn : AreDrawn e k) (book : Mirrors e k) where
  -- nothing changes
  pub nothing_goes : x ≡ e → GoesOn e x k []
  nothing_goes same = record {
    grows = grows_so e x (ap (λ (y : End). y.role) same) (ap (λ (y : End). y.tunnel_ids) same) (ap (λ (y : End). y.session_ids) same);
    fit = subst TablesFit (sym same) fit;
    in_place = tt;
    book = subst (λ (y : End). Mirrors y k) (sym same) book;
    calls = tt;
  }

  abbrev with_control : Tunnel → Control → List Letter → Tunnel
  with_control t c ls = record t { control = c; letters = ls }

  within_ceiling : (i : ℕ) (t : Tunnel) → at e.tunnels i ≡ Some t → i ≤ k.tunnel_ceiling
  within_ceiling i t there = let lt = (fit.tunnels i t there).drawn in let le = drawn.tunnels in omega (arith, lt, le)

  -- what isn't recorded of a control part changes, what the tunnel asks for, and its recovery tunnel, if only an open tunnel is frozen or
  -- restored
  pub line_goes : (i : ℕ) (t : Tunnel) (c : Control) (ls : List Letter) (q : Option Recovering) (asks : Asking) → at e.tunnels i ≡ Some t
      → x ≡ with_tunnel e i (record t { control = c; letters = ls; recovery = q; query = asks }) → SameControl t.control c
      → (is_current (mode_of q) ≡ false → state_number t.control.state ≡ 3) → GoesOn e x k []
  line_goes i t c ls q asks there after same recovered =
      let is = ap (λ (y : End). y.tunnels) after in
      let grows = grows_so e x (ap (λ (y : End). y.role) after) (ap (λ (y : End). y.tunnel_ids) after) (ap (λ (y : End). y.session_ids) after) in
      let u : Tunnel = record t { control = c; letters = ls; recovery = q; query = asks } in
      let old = fit.tunnels i t there in
      record {
        grows = grows;
        fit = put_fits e x fit grows i u is (same_few e x fit grows i t u there is)
            (tunnel_later e x grows i u
            (asks_fit e i (record t { control = c; letters = ls; recovery = q }) asks (control_fits e i t c ls q old
            (λ two. subst (λ n. 0 < n) (sym same.remote) (old.remote (sym (ap state_number same.state) ∙ two)))
            (subst (λ n. 0 < n) (sym same.window) old.window)
            (λ three. ap state_number same.state ∙ three)
            (λ low. same.mark ∙ old.unmarked (subst (λ n. n < 3) (ap state_number same.state) low))
            (λ apart. ap state_number same.state ∙ recovered apart))))
            (only_in e x fit grows i t u there (λ s d f. (d, f)));
        in_place = tt;
        book = same_book e x k book
            (all_tunnels e x i u is (same_record i t u same ∙ ap (tunnel_record i) (sym there)))
            (all_calls e x i u is (λ s. ap (record_in i s) (sym there)));
        calls = tt;
      }

  -- or only the control part does
  pub control_goes : (i : ℕ) (t : Tunnel) (c : Control) (ls : List Letter) → at e.tunnels i ≡ Some t → x ≡ with_tunnel e i (record t { control = c; letters = ls })
      → SameControl t.control c → GoesOn e x k []
  control_goes i t c ls there after same = line_goes i t c ls t.recovery t.query there after same (fit.tunnels i t there).recovered

  -- the mark of an open tunnel rises, or stays
  module _ (i : ℕ) (t u : Tunnel) (there : at e.tunnels i ≡ Some t) (grows : Grows e x) (is : x.tunnels ≡ put e.tunnels i u) (fitted : TunnelFits x i u)
      (some : (s : ℕ) (c : Call) → at u.calls s ≡ Some c → (d : Call) × (at t.calls s ≡ Some d))
      (alike : (s : ℕ) → call_record i s (at u.calls s) ≡ call_record i s (at t.calls s)) (rest : SameButMark t.control u.control)
      (open_is : state_number t.control.state ≡ 3) where
    marks_fit : TablesFit x
    marks_fit = put_fits e x fit grows i u is (same_few e x fit grows i t u there is) fitted (only_in e x fit grows i t u there some)

    marks_calls : (j q : ℕ) → record_in j q (at x.tunnels j) ≡ record_in j q (at e.tunnels j)
    marks_calls = all_calls e x i u is (λ q. alike q ∙ ap (record_in i q) (sym there))

    abbrev own : BookTunnel
    own = booked_control i t.control

    marks_before : tunnel_record i (at e.tunnels i) ≡ Some own
    marks_before = ap (tunnel_record i) there ∙ opened_record i t own open_is refl

    pub tunnel_marks : (marked : Bool) (mark : ℕ) → marked ≡ nat_lt t.control.mark mark → u.control.mark ≡ max t.control.mark mark
        → GoesOn e x k (mark_by marked i mark)
    tunnel_marks true mark rises new =
        let higher : t.control.mark < mark = lower_than t.control.mark mark (sym rises) in
        let top : u.control.mark ≡ mark = new ∙ omega (arith, higher) in
        let comes : MarkRises e x k book i mark own = record {
          before = marks_before;
          after = ap (tunnel_record i) (at_it e x i u is)
              ∙ opened_record i u (record own { mark = mark }) (ap state_number rest.state ∙ open_is) (rw (rest.remote, rest.peer, rest.window, rest.flags, top) refl);
          others = tunnels_else e x i u is;
          calls = marks_calls;
          higher = higher;
        } in
        record {
          grows = grows;
          fit = marks_fit;
          in_place = (mark_fits e x k book i mark own comes, tt);
          book = tunnel_marked e x k book i mark own comes;
          calls = (tt, tt);
        }
    tunnel_marks false mark rises new =
        let low : mark ≤ t.control.mark = not_lower t.control.mark mark (sym rises) in
        let stays : u.control.mark ≡ t.control.mark = new ∙ omega (arith, low) in
        let same : SameControl t.control u.control = record {
          state = rest.state;
          remote = rest.remote;
          peer = rest.peer;
          window = rest.window;
          flags = rest.flags;
          mark = stays;
        } in
        record {
          grows = grows;
          fit = marks_fit;
          in_place = tt;
          book = same_book e x k book (all_tunnels e x i u is (same_record i t u same ∙ ap (tunnel_record i) (sym there))) marks_calls;
          calls = tt;
        }

  -- a tunnel comes up
  pub tunnel_opens : (i : ℕ) (t : Tunnel) (c : Control) (ls : List Letter) (r : BookTunnel) → at e.tunnels i ≡ Some t
      → x ≡ with_tunnel e i (record t { control = c; letters = ls }) → is_open t.control.state ≡ false → state_number c.state ≡ 3
      → booked_control i c ≡ r → 0 < r.remote → 0 < r.window → GoesOn e x k (TunnelUp r ∷ [])
  tunnel_opens i t c ls r there after shut three recorded remote window =
      let is = ap (λ (y : End). y.tunnels) after in
      let grows = grows_so e x (ap (λ (y : End). y.role) after) (ap (λ (y : End). y.tunnel_ids) after) (ap (λ (y : End). y.session_ids) after) in
      let u = with_control t c ls in
      let old = fit.tunnels i t there in
      let few = same_few e x fit grows i t u there is in
      let own : i ≡ r.local = ap (λ (b : BookTunnel). b.local) recorded in
      let before : tunnel_record i (at e.tunnels i) ≡ None = ap (tunnel_record i) there ∙ closed_record i t shut in
      let after_record : tunnel_record i (at x.tunnels i) ≡ Some r = ap (tunnel_record i) (at_it e x i u is) ∙ opened_record i u r three recorded in
      let comes : TunnelComes e x k book r = record {
        before = subst (λ n. tunnel_record n (at e.tunnels n) ≡ None) own before;
        after = subst (λ n. tunnel_record n (at x.tunnels n) ≡ Some r) own after_record;
        others = λ j o. tunnels_else e x i u is j (λ f. o (f ∙ own));
        calls = all_calls e x i u is (λ q. ap (record_in i q) (sym there));
        some = subst (λ n. 0 < n) own old.some;
        drawn = subst (λ n. n ≤ k.tunnel_ceiling) own (within_ceiling i t there);
        remote = remote;
        window = window;
        few = few;
      } in
      record {
        grows = grows;
        fit = put_fits e x fit grows i u is few
            (tunnel_later e x grows i u (control_fits e i t c ls t.recovery old
            (λ two. absurd (omega (arith, two, three)))
            (subst (λ n. 0 < n) (sym (ap (λ (b : BookTunnel). b.window) recorded)) window)
            (λ open_is. three)
            (λ low. absurd (omega (arith, low, three)))
            (λ apart. three)))
            (only_in e x fit grows i t u there (λ s d f. (d, f)));
        in_place = (tunnel_fits e x k book r comes, tt);
        book = tunnel_came e x k book r comes;
        calls = (tt, tt);
      }

  -- one is made
  pub tunnel_born : (i : ℕ) (c : Control) (ls : List Letter) → Grows e x → i ≡ e.tunnel_ids.next → i < x.tunnel_ids.next
      → x.tunnels ≡ put e.tunnels i (record (new_tunnel c) { letters = ls }) → length x.tunnels ≤ 1024 → is_open c.state ≡ false
      → (state_number c.state ≡ 2 → 0 < c.remote) → 0 < peer_window c → c.mark ≡ 0 → GoesOn e x k []
  tunnel_born i c ls grows fresh later is few shut remote window unmarked =
      let u : Tunnel = record (new_tunnel c) { letters = ls } in
      let none = fresh_tunnel e fit i fresh in
      let some : 0 < i = (let first = fit.first_tunnel in omega (arith, first, fresh)) in
      record {
        grows = grows;
        fit = put_fits e x fit grows i u is few (bare_fits x i c ls None some later remote window (λ low. unmarked) (λ apart. absurd (true≢false apart)))
            (λ s d f. absurd (none-some d (sym (at-none s) ∙ f)));
        in_place = tt;
        book = same_book e x k book
            (all_tunnels e x i u is (closed_record i u shut ∙ ap (tunnel_record i) (sym none)))
            (all_calls e x i u is (λ q. ap (call_record i q) (at-none q) ∙ ap (record_in i q) (sym none)));
        calls = tt;
      }

  -- ---- its calls

  module _ (i : ℕ) (t : Tunnel) (c : Control) (ls : List Letter) (s : ℕ) (new : Call) (there : at e.tunnels i ≡ Some t) (grows : Grows e x)
      (is : x.tunnels ≡ put e.tunnels i (record t { control = c; letters = ls; calls = put t.calls s new })) (same : SameControl t.control c) where
    abbrev u : Tunnel
    u = record t { control = c; letters = ls; calls = put t.calls s new }

    here : tunnel_record i (Some u) ≡ tunnel_record i (at e.tunnels i)
    here = same_record i t u same ∙ ap (tunnel_record i) (sym there)

    not_here : (q : ℕ) → (q ≡ s → ⊥) → call_record i q (at u.calls q) ≡ record_in i q (at e.tunnels i)
    not_here q o = ap (call_record i q) (at_other t.calls s new q o) ∙ ap (record_in i q) (sym there)

    call_here : call_record i s (at u.calls s) ≡ call_record i s (Some new)
    call_here = ap (call_record i s) (at_new t.calls s new)

    u_fits : CallFits x (with_control t c ls) s new → length u.calls ≤ 4096 → TunnelFits x i u
    u_fits call few =
        let old = fit.tunnels i t there in
        call_put_fits x i (with_control t c ls) s new (tunnel_later e x grows i (with_control t c ls) (control_fits e i t c ls t.recovery old
        (λ two. subst (λ n. 0 < n) (sym same.remote) (old.remote (sym (ap state_number same.state) ∙ two)))
        (subst (λ n. 0 < n) (sym same.window) old.window)
        (λ three. ap state_number same.state ∙ three)
        (λ low. same.mark ∙ old.unmarked (subst (λ n. n < 3) (ap state_number same.state) low))
        (λ apart. ap state_number same.state ∙ old.recovered apart))) call few

    -- one that is there changes
    module _ (old : Call) (live : at t.calls s ≡ Some old) (call : CallFits x (with_control t c ls) s new) where
      few_calls : length u.calls ≤ 4096
      few_calls = let was = fit.tunnels i t there in let same_length = put_there t.calls s new old was.order live in let few = was.few in omega (arith, same_length, few)

      changed_fit : TablesFit x
      changed_fit = put_fits e x fit grows i u is (same_few e x fit grows i t u there is) (u_fits call few_calls)
          (only_in e x fit grows i t u there (λ q d f. ⊎_elim
          (λ (a : (q ≡ s) × (new ≡ d)). (old, subst (λ n. at t.calls n ≡ Some old) (sym a.0) live))
          (λ a. (d, a.1))
          (found_put t.calls s new q d f)))

      was_here : record_in i s (at e.tunnels i) ≡ call_record i s (Some old)
      was_here = ap (record_in i s) there ∙ ap (call_record i s) live

      -- what is recorded of it stays
      pub call_goes : call_record i s (Some new) ≡ call_record i s (Some old) → GoesOn e x k []
      call_goes alike = record {
        grows = grows;
        fit = changed_fit;
        in_place = tt;
        book = same_book e x k book (all_tunnels e x i u is here) (all_calls e x i u is (λ q. ⊎_elim
            (λ (own : q ≡ s). subst (λ n. call_record i n (at u.calls n) ≡ record_in i n (at e.tunnels i)) (sym own) (call_here ∙ alike ∙ sym was_here))
            (λ o. not_here q o)
            (same_or_not q s)));
        calls = tt;
      }

      -- it comes up
      pub call_rises : is_open t.control.state ≡ true → is_up old.state ≡ false → is_up new.state ≡ true → GoesOn e x k (CallUp (booked_call i s new) ∷ [])
      call_rises open_is down up =
          let none_before : (j : ℕ) → record_in j s (at e.tunnels j) ≡ None = λ j. ⊎_elim
          (λ (own : j ≡ i). subst (λ n. record_in n s (at e.tunnels n) ≡ None) (sym own) (was_here ∙ down_record i s old down))
          (λ o. none_elsewhere j o)
          (same_or_not j i) in
          let comes : CallComes e x k book (booked_call i s new) = record {
            before = none_before;
            after = ap (record_in i s) (at_it e x i u is) ∙ call_here ∙ up_record i s new up;
            others = other_calls e x i u is s not_here;
            tunnels = all_tunnels e x i u is here;
            over = ap is_some (ap (tunnel_record i) there ∙ ap (λ b. cond b (Some (booked_control i t.control)) None) open_is);
            some = call.some;
            drawn = (let lt = ((fit.tunnels i t there).calls s old live).drawn in let le = drawn.sessions in omega (arith, lt, le));
            tunnel = u;
            there = at_it e x i u is;
            few = few_calls;
          } in
          record {
            grows = grows;
            fit = changed_fit;
            in_place = (call_fits e x k book (booked_call i s new) comes, tt);
            book = call_came e x k book (booked_call i s new) comes;
            calls = (recorded_none x.role i s new call.none, tt);
          }
        where
          none_elsewhere : (j : ℕ) → (j ≡ i → ⊥) → record_in j s (at e.tunnels j) ≡ None
          none_elsewhere j o = by_tunnel (at e.tunnels j) refl
            where
              by_tunnel : (v : Option Tunnel) → at e.tunnels j ≡ v → record_in j s v ≡ None
              by_tunnel None f = refl
              by_tunnel (Some v) f = by_call (at v.calls s) refl
                where
                  by_call : (d : Option Call) → at v.calls s ≡ d → call_record j s d ≡ None
                  by_call None g = refl
                  by_call (Some d) g = absurd (o (fit.apart j v f i t there s d g old live))

    -- one is born
    pub call_born : s ≡ e.session_ids.next → length t.calls < 4096 → CallFits x (with_control t c ls) s new → is_up new.state ≡ false → GoesOn e x k []
    call_born fresh few call down =
        let none = fresh_call e fit i t there s fresh in
        record {
          grows = grows;
          fit = put_fits e x fit grows i u is (same_few e x fit grows i t u there is)
              (u_fits call (let most = put_most t.calls s new in omega (arith, most, few)))
              (only_new e x fit grows i t u s there fresh (λ q d f. ⊎_elim
              (λ (a : (q ≡ s) × (new ≡ d)). inl a.0)
              (λ a. inr (d, a.1))
              (found_put t.calls s new q d f)));
          in_place = tt;
          book = same_book e x k book (all_tunnels e x i u is here) (all_calls e x i u is (λ q. ⊎_elim
              (λ (own : q ≡ s). subst (λ n. call_record i n (at u.calls n) ≡ record_in i n (at e.tunnels i)) (sym own)
              (call_here ∙ down_record i s new down ∙ sym (ap (record_in i s) there ∙ ap (call_record i s) none)))
              (λ o. not_here q o)
              (same_or_not q s)));
          calls = tt;
        }

  -- ---- one ends

  module _ (i : ℕ) (t : Tunnel) (c : Control) (ls : List Letter) (s : ℕ) (old : Call) (there : at e.tunnels i ≡ Some t) (live : at t.calls s ≡ Some old) (grows : Grows e x)
      (is : x.tunnels ≡ put e.tunnels i (record t { control = c; letters = ls; calls = without t.calls s })) (same : SameControl t.control c) where
    abbrev rest : Tunnel
    rest = record t { control = c; letters = ls; calls = without t.calls s }

    left_fit : TablesFit x
    left_fit =
        let was = fit.tunnels i t there in
        put_fits e x fit grows i rest is (same_few e x fit grows i t rest there is)
        (call_without_fits x i (with_control t c ls) s (tunnel_later e x grows i (with_control t c ls) (control_fits e i t c ls t.recovery was
        (λ two. subst (λ n. 0 < n) (sym same.remote) (was.remote (sym (ap state_number same.state) ∙ two)))
        (subst (λ n. 0 < n) (sym same.window) was.window)
        (λ three. ap state_number same.state ∙ three)
        (λ low. same.mark ∙ was.unmarked (subst (λ n. n < 3) (ap state_number same.state) low))
        (λ apart. ap state_number same.state ∙ was.recovered apart))))
        (only_in e x fit grows i t rest there (λ q d f. (d, (found_without t.calls s q d was.order f).1)))

    rest_here : tunnel_record i (Some rest) ≡ tunnel_record i (at e.tunnels i)
    rest_here = same_record i t rest same ∙ ap (tunnel_record i) (sym there)

    gone_here : call_record i s (at rest.calls s) ≡ None
    gone_here = ap (call_record i s) (at_without_same t.calls s (fit.tunnels i t there).order)

    rest_calls : (q : ℕ) → (q ≡ s → ⊥) → call_record i q (at rest.calls q) ≡ record_in i q (at e.tunnels i)
    rest_calls q o = ap (call_record i q) (at_without_other t.calls s q o) ∙ ap (record_in i q) (sym there)

    had : record_in i s (at e.tunnels i) ≡ call_record i s (Some old)
    had = ap (record_in i s) there ∙ ap (call_record i s) live

    nowhere_else : (j : ℕ) → (j ≡ i → ⊥) → record_in j s (at e.tunnels j) ≡ None
    nowhere_else j o = by_tunnel (at e.tunnels j) refl
      where
        by_tunnel : (v : Option Tunnel) → at e.tunnels j ≡ v → record_in j s v ≡ None
        by_tunnel None f = refl
        by_tunnel (Some v) f = by_call (at v.calls s) refl
          where
            by_call : (d : Option Call) → at v.calls s ≡ d → call_record j s d ≡ None
            by_call None g = refl
            by_call (Some d) g = absurd (o (fit.apart j v f i t there s d g old live))

    pub call_ends : (booked : Bool) → booked ≡ is_up old.state → GoesOn e x k (call_down booked s)
    call_ends true up =
        let goes : CallGoes e x k book i s = record {
          before = ap is_some (had ∙ up_record i s old (sym up));
          alone = nowhere_else;
          after = ap (record_in i s) (at_it e x i rest is) ∙ gone_here;
          others = other_calls e x i rest is s rest_calls;
          tunnels = all_tunnels e x i rest is rest_here;
        } in
        record { grows = grows; fit = left_fit; in_place = (call_went_fits e x k book i s goes, tt); book = call_went e x k book i s goes; calls = (tt, tt) }
    call_ends false down = record {
      grows = grows;
      fit = left_fit;
      in_place = tt;
      book = same_book e x k book (all_tunnels e x i rest is rest_here) (all_calls e x i rest is (λ q. ⊎_elim
          (λ (own : q ≡ s). subst (λ n. call_record i n (at rest.calls n) ≡ record_in i n (at e.tunnels i)) (sym own)
          (gone_here ∙ sym (had ∙ down_record i s old (sym down))))
          (λ o. rest_calls q o)
          (same_or_not q s)));
      calls = tt;
    }

  -- ---- a tunnel goes with its calls

  module _ (i : ℕ) (t : Tunnel) (there : at e.tunnels i ≡ Some t) (grows : Grows e x) (fit_after : TablesFit x)
      (none_after : tunnel_record i (at x.tunnels i) ≡ None) (no_calls : (s : ℕ) → record_in i s (at x.tunnels i) ≡ None)
      (elsewhere : (j : ℕ) → (j ≡ i → ⊥) → at x.tunnels j ≡ at e.tunnels j) where
    -- one that isn't open has no established call
    none_up : is_open t.control.state ≡ false → (s : ℕ) → record_in i s (at e.tunnels i) ≡ None
    none_up shut s = ap (record_in i s) there ∙ by (at t.calls s) refl
      where
        by_state : (d : Call) → at t.calls s ≡ Some d → (b : Bool) → is_up d.state ≡ b → cond b (Some (booked_call i s d)) None ≡ None
        by_state d g false is = refl
        by_state d g true is = absurd (is_three (state_number t.control.state) shut (((fit.tunnels i t there).calls s d g).up is))

        by : (d : Option Call) → at t.calls s ≡ d → call_record i s d ≡ None
        by None g = refl
        by (Some d) g = by_state d g (is_up d.state) refl

    pub tunnel_ends : (booked : Bool) → booked ≡ is_open t.control.state → GoesOn e x k (tunnel_down booked i)
    tunnel_ends true up =
        let goes : TunnelGoes e x k book i = record {
          before = ap is_some (ap (tunnel_record i) there ∙ ap (λ b. cond b (Some (booked_control i t.control)) None) (sym up));
          after = none_after;
          others = λ j o. ap (tunnel_record j) (elsewhere j o);
          no_calls = no_calls;
          calls = λ j s o. ap (record_in j s) (elsewhere j o);
        } in
        record { grows = grows; fit = fit_after; in_place = (tunnel_went_fits e x k book i goes, tt); book = tunnel_went e x k book i goes; calls = (tt, tt) }
    tunnel_ends false shut = record {
      grows = grows;
      fit = fit_after;
      in_place = tt;
      book = same_book e x k book
          (λ j. ⊎_elim
          (λ (own : j ≡ i). subst (λ n. tunnel_record n (at x.tunnels n) ≡ tunnel_record n (at e.tunnels n)) (sym own)
          (none_after ∙ sym (ap (tunnel_record i) there ∙ closed_record i t (sym shut))))
          (λ o. ap (tunnel_record j) (elsewhere j o))
          (same_or_not j i))
          (λ j s. ⊎_elim
          (λ (own : j ≡ i). subst (λ n. record_in n s (at x.tunnels n) ≡ record_in n s (at e.tunnels n)) (sym own) (no_calls s ∙ sym (none_up (sym shut) s)))
          (λ o. ap (record_in j s) (elsewhere j o))
          (same_or_not j i));
      calls = tt;
    }

  -- it is closed
  pub tunnel_shuts : (i : ℕ) (t : Tunnel) (c : Control) (ls : List Letter) (booked : Bool) → at e.tunnels i ≡ Some t → Grows e x
      → x.tunnels ≡ put e.tunnels i (record t { control = c; letters = ls; calls = [] }) → state_number c.state ≡ 4 → 0 < peer_window c
      → is_current (mode_of t.recovery) ≡ true → booked ≡ is_open t.control.state → GoesOn e x k (tunnel_down booked i)
  tunnel_shuts i t c ls booked there grows is four window current established =
      let u : Tunnel = record t { control = c; letters = ls; calls = [] } in
      let old = fit.tunnels i t there in
      let shut : is_open c.state ≡ false = ap (λ n. n == 3) four in
      let later : i < x.tunnel_ids.next = (let lt = old.drawn in let le = grows.tunnels in omega (arith, lt, le)) in
      tunnel_ends i t there grows
      (put_fits e x fit grows i u is (same_few e x fit grows i t u there is)
      (asks_fit x i (record (new_tunnel c) { letters = ls; recovery = t.recovery }) t.query
      (bare_fits x i c ls t.recovery old.some later (λ two. absurd (omega (arith, two, four))) window
      (λ low. absurd (omega (arith, low, four))) (λ apart. absurd (true≢false (sym current ∙ apart)))))
      (λ s d f. absurd (none-some d (sym (at-none s) ∙ f))))
      (ap (tunnel_record i) (at_it e x i u is) ∙ closed_record i u shut)
      (λ s. ap (record_in i s) (at_it e x i u is) ∙ ap (call_record i s) (at-none s))
      (at_else e x i u is) booked established

  -- or removed
  pub tunnel_clears : (i : ℕ) (t : Tunnel) (booked : Bool) → at e.tunnels i ≡ Some t → Grows e x → x.tunnels ≡ without e.tunnels i
      → booked ≡ is_open t.control.state → GoesOn e x k (tunnel_down booked i)
  tunnel_clears i t booked there grows is established =
      let none : at x.tunnels i ≡ None = ap (λ (ts : List (ℕ × Tunnel)). at ts i) is ∙ at_without_same e.tunnels i fit.order in
      tunnel_ends i t there grows (without_fits e x fit grows i is) (ap (tunnel_record i) none) (λ s. ap (record_in i s) none)
      (λ j o. ap (λ (ts : List (ℕ × Tunnel)). at ts j) is ∙ at_without_other e.tunnels i j o) booked established
