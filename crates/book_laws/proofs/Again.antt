-- What was established before a crash is so again after the start.
use Rattle.std.proofs.Common.{◌≡◌, ◌⊎◌, inl, inr, ⊎_elim, ℕ, true, false, Option, Some, None, is_some, refl, sym, ◌∙◌, ap, subst}
use Rattle.std.proofs.lemmas.Option.{none-some}
use Rattle.id_table.specs.Ids.{at}
use Rattle.session_book.specs.Books.{Kept, tunnel_at}
use Rattle.end_model.specs.Calls.{is_up}
use Rattle.end_model.specs.Contents.{contents_of}
use Rattle.end_model.specs.End.{End}
use Rattle.end_model.specs.Starting.{bare_end, starts, can_recover}
use Rattle.end_model.specs.Tunnels.{Tunnel}
use Rattle.book_laws.specs.Books.{booked_control, booked_call, tunnel_record, call_record, record_in, Mirrors, book_after}
use Rattle.book_laws.specs.Starts.{AreUp, LacksIds, StartsBringBack}
use Rattle.book_laws.proofs.Views.{tunnel_of}
use Rattle.book_laws.proofs.Changes.{opened_record, up_record}
use Rattle.book_laws.proofs.Starts.{starts_are_booked}

module _ (e x : End) (k j : Kept) (before : Mirrors e k) (after : Mirrors x j) (up : AreUp x) where
  -- a tunnel that is there is recorded
  recorded : (i : ℕ) (t : Tunnel) → at x.tunnels i ≡ Some t → tunnel_at j i ≡ Some (booked_control i t.control)
  recorded i t there = after.tunnels i ∙ ap (tunnel_record i) there ∙ opened_record i t (booked_control i t.control) (up i t there).0 refl

  -- so one that isn't recorded isn't there
  unrecorded : (i : ℕ) → tunnel_at j i ≡ None → at x.tunnels i ≡ None
  unrecorded i none = by (at x.tunnels i) refl
    where
      by : (o : Option Tunnel) → at x.tunnels i ≡ o → o ≡ None
      by None is = refl
      by (Some t) is = absurd (none-some (booked_control i t.control) (sym none ∙ recorded i t is))

  home : (i : ℕ) → is_some (at x.tunnels i) ≡ true → is_some (tunnel_at j i) ≡ true
  home i there = by (at x.tunnels i) refl there
    where
      by : (o : Option Tunnel) → at x.tunnels i ≡ o → is_some o ≡ true → is_some (tunnel_at j i) ≡ true
      by None is some = absurd (cc)
      by (Some t) is some = ap is_some (recorded i t is)

pub starts_bring_back : StartsBringBack
starts_bring_back e k before sound suits moment block =
    let s = starts e.role e.config k moment block in
    let j = book_after k (contents_of (bare_end e.role e.config k) s) in
    let h = starts_are_booked e.role e.config k sound suits moment block in
    let after = h.book.mirrors in
    record {
      tunnels = λ i b was. ⊎_elim
          (λ (l : (can_recover b ≡ true) × (tunnel_at j i ≡ Some b)). inl (l.0, sym (after.tunnels i) ∙ l.1))
          (λ (l : ((can_recover b ≡ false) ⊎ LacksIds s.end) × (tunnel_at j i ≡ None)). inr (l.0, unrecorded e s.end k j before after h.up i l.1))
          (h.back.tunnels i b (before.tunnels i ∙ was));
      calls = λ i q c was there.
          (let own = tunnel_of i q (at e.tunnels i) c was in
          let kept = before.all_calls i q c was in
          let stays = h.back.calls q c kept (ap (λ n. is_some (tunnel_at j n)) own ∙ home e s.end k j before after h.up i there) in
          subst (λ n. record_in n q (at s.end.tunnels n) ≡ Some c) own (after.calls q c stays));
      only_tunnels = λ i t there.
          (let here = recorded e s.end k j before after h.up i t there in
          sym (before.tunnels i) ∙ h.back.only_tunnels i (booked_control i t.control) here
          ∙ sym (opened_record i t (booked_control i t.control) (h.up i t there).0 refl));
      only_calls = λ i q t d there live.
          (let state = (h.up i t there).1 q d live in
          let here : record_in i q (at s.end.tunnels i) ≡ Some (booked_call i q d) =
          ap (record_in i q) there ∙ ap (call_record i q) live ∙ up_record i q d (ap is_up state) in
          let kept = (h.back.only_calls q (booked_call i q d) (after.all_calls i q (booked_call i q d) here)).0 in
          before.calls q (booked_call i q d) kept ∙ sym (up_record i q d (ap is_up state)));
    }
