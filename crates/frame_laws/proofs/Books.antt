-- What a book has of calls: of the book of an end it is what the end has of them, and records by which nothing comes up leave it.
use Rattle.std.proofs.Common.{◌≡◌, inr, ℕ, ◌<◌, Bool, true, false, List, [], ◌∷◌, refl, sym, ap, ◌∙◌, subst, Option, Some, None}
use Rattle.std.proofs.lemmas.Option.{none-some}
use Rattle.std.specs.Prelude.{◌==◌, if◌then◌else◌}
use Rattle.std.specs.List.{AllByRecursion}
use Rattle.id_table.specs.Ids.{at}
use Rattle.session_book.specs.declared.record.BookTunnel.{BookTunnel}
use Rattle.session_book.specs.declared.record.BookCall.{BookCall}
use Rattle.session_book.specs.declared.record.Record.{Record}
use Rattle.session_book.specs.declared.record.Record.TheVariants.{Ceiling, TunnelUp, TunnelDown, CallUp, CallDown, Mark}
use Rattle.session_book.specs.Books.{Kept, raised, marked, tunnel_at, call_at, tunnels_without, stepped as with_record}
use Rattle.end_model.specs.declared.tunnel.Call.{Call}
use Rattle.end_model.specs.Calls.{is_up}
use Rattle.end_model.specs.Moments.{is_open}
use Rattle.end_model.specs.Tunnels.{Tunnel}
use Rattle.end_model.specs.End.{End}
use Rattle.book_laws.specs.Books.{Mirrors, booked_control, tunnel_record, booked_call, call_record, record_in, book_after}
use Rattle.book_laws.proofs.Lists.{all_found, all_filter}
use Rattle.frame_laws.proofs.Facts.{Nodes, CallBooked, BooksCall, BookOk, EndOk, all_map}

-- ---- the book of an end

-- what a book has of a tunnel is of an established one
record TunnelThere (o : Option Tunnel) (i : ℕ) (b : BookTunnel) : Type 0 where
  pub tunnel : Tunnel
  pub there : o ≡ Some tunnel
  pub is : booked_control i tunnel.control ≡ b

tunnel_there : (o : Option Tunnel) (i : ℕ) (b : BookTunnel) → tunnel_record i o ≡ Some b → TunnelThere o i b
tunnel_there None i b h = absurd (none-some b h)
tunnel_there (Some t) i b h = by (is_open t.control.state) h
  where
    by : (c : Bool) → (if c then Some (booked_control i t.control) else None) ≡ Some b → TunnelThere (Some t) i b
    by true h = record { tunnel = t; there = refl; is = cc }
    by false h = absurd (none-some b h)

-- and what it has of a call is of an established one in such a tunnel
record CallThere (o : Option Tunnel) (i s : ℕ) (c : BookCall) : Type 0 where
  pub tunnel : Tunnel
  pub there : o ≡ Some tunnel
  pub call : Call
  pub live : at tunnel.calls s ≡ Some call
  pub up : is_up call.state ≡ true
  pub is : booked_call i s call ≡ c

call_there : (o : Option Tunnel) (i s : ℕ) (c : BookCall) → record_in i s o ≡ Some c → CallThere o i s c
call_there None i s c h = absurd (none-some c h)
call_there (Some t) i s c h = by (at t.calls s) refl h
  where
    by : (q : Option Call) → at t.calls s ≡ q → call_record i s q ≡ Some c → CallThere (Some t) i s c
    by None is h = absurd (none-some c h)
    by (Some d) is h = up (is_up d.state) refl h
      where
        up : (b : Bool) → is_up d.state ≡ b → (if b then Some (booked_call i s d) else None) ≡ Some c → CallThere (Some t) i s c
        up true on h = record { tunnel = t; there = refl; call = d; live = is; up = on; is = cc }
        up false on h = absurd (none-some c h)

module _ (calm : Bool) (ns : Nodes) (n : ℕ) (e : End) (k : Kept) (ok : EndOk calm ns n e) (m : Mirrors e k) where
  tunnel_fits : (i : ℕ) (b : BookTunnel) → tunnel_at k i ≡ Some b → b.remote < 65536
  tunnel_fits i b is =
      let t = tunnel_there (at e.tunnels i) i b (sym (m.tunnels i) ∙ is) in
      subst (λ (q : BookTunnel). q.remote < 65536) t.is (ok.tunnels i t.tunnel t.there).remote

  call_fits : (s : ℕ) (c : BookCall) → call_at k s ≡ Some c → (i : ℕ) (b : BookTunnel) → tunnel_at k i ≡ Some b → b.local ≡ c.tunnel
      → CallBooked ns n b.peer c
  call_fits s c has i b is same =
      let t = tunnel_there (at e.tunnels i) i b (sym (m.tunnels i) ∙ is) in
      let q = call_there (at e.tunnels c.tunnel) c.tunnel s c (m.calls s c has) in
      let own : i ≡ c.tunnel = ap (λ (x : BookTunnel). x.local) t.is ∙ same in
      let both : Some t.tunnel ≡ Some q.tunnel = sym t.there ∙ (ap (at e.tunnels) own ∙ q.there) in
      let one : q.tunnel ≡ t.tunnel = cc in
      let call = (ok.tunnels i t.tunnel t.there).calls s q.call (subst (λ (x : Tunnel). at x.calls s ≡ Some q.call) one q.live) in
      subst (λ (x : BookTunnel). CallBooked ns n x.peer c) t.is
      (subst (CallBooked ns n t.tunnel.control.peer) q.is (record { remote = call.remote; mate = call.mate (inr q.up) }))

  -- what a book that mirrors an end has is as the end has it
  pub mirrored_book : BookOk ns n k
  mirrored_book = record {
    tunnels = all_found (λ (b : BookTunnel). b.local) (λ (b : BookTunnel). b.remote < 65536) k.tunnels m.tunnels_rise tunnel_fits;
    calls = all_found (λ (c : BookCall). c.local) (BooksCall ns n k.tunnels) k.calls m.calls_rise
        (λ s c has. all_found (λ (b : BookTunnel). b.local)
        (λ (b : BookTunnel). b.local ≡ c.tunnel → CallBooked ns n b.peer c) k.tunnels m.tunnels_rise
        (λ i b is same. call_fits s c has i b is same));
  }

-- ---- records by which nothing comes up

abbrev pub IsNoUp : Record → Type 0
IsNoUp (Ceiling space number) = Unit {0}
IsNoUp (TunnelUp t) = ⊥
IsNoUp (TunnelDown id) = Unit {0}
IsNoUp (CallUp c) = ⊥
IsNoUp (CallDown id) = Unit {0}
IsNoUp (Mark id mark) = Unit {0}

module _ (P : BookTunnel → Type 0) (like : (b : BookTunnel) (mark : ℕ) → P b → P (record b { mark = mark })) where
  all_marked : (id mark : ℕ) (ts : List BookTunnel) → AllByRecursion P ts → AllByRecursion P (marked id mark ts)
  all_marked id mark [] all = tt
  all_marked id mark (t ∷ ts) all = (by (t.local == id), all_marked id mark ts all.1)
    where
      by : (b : Bool) → P (if b then record t { mark = mark } else t)
      by true = like t mark all.0
      by false = all.0

module _ (ns : Nodes) (n : ℕ) where
  -- a book with other lists of tunnels and of calls
  pub lists_ok : (k j : Kept) → j.tunnels ≡ k.tunnels → j.calls ≡ k.calls → BookOk ns n k → BookOk ns n j
  lists_ok k j tunnels calls ok = record {
    tunnels = rw tunnels ok.tunnels;
    calls = rw (tunnels, calls) ok.calls;
  }

  raised_ok : (space number : ℕ) (k : Kept) → BookOk ns n k → BookOk ns n (raised space number k)
  raised_ok space number k ok = by (space == 1) (space == 2) (space == 3)
    where
      by : (a b c : Bool)
          → BookOk ns n (if a then record k { tunnel_ceiling = number }
          else if b then record k { session_ceiling = number }
          else if c then record k { draw_ceiling = number }
          else k)
      by true b c = record { tunnels = ok.tunnels; calls = ok.calls }
      by false true c = record { tunnels = ok.tunnels; calls = ok.calls }
      by false false true = record { tunnels = ok.tunnels; calls = ok.calls }
      by false false false = ok

  pub one_less : (k : Kept) (r : Record) → IsNoUp r → BookOk ns n k → BookOk ns n (with_record k r)
  one_less k (Ceiling space number) none ok = raised_ok space number k ok
  one_less k (TunnelUp t) none ok = absurd none
  one_less k (TunnelDown id) none ok = record {
    tunnels = all_filter _ _ k.tunnels ok.tunnels;
    calls = all_filter (BooksCall ns n (tunnels_without id k.tunnels)) _ k.calls
        (all_map (BooksCall ns n k.tunnels) (BooksCall ns n (tunnels_without id k.tunnels))
        (λ c all. all_filter _ _ k.tunnels all) k.calls ok.calls);
  }
  one_less k (CallUp c) none ok = absurd none
  one_less k (CallDown id) none ok = record { tunnels = ok.tunnels; calls = all_filter (BooksCall ns n k.tunnels) _ k.calls ok.calls }
  one_less k (Mark id mark) none ok = record {
    tunnels = all_marked (λ (b : BookTunnel). b.remote < 65536) (λ b m h. h) id mark k.tunnels ok.tunnels;
    calls = all_map (BooksCall ns n k.tunnels) (BooksCall ns n (marked id mark k.tunnels))
        (λ c all. all_marked (λ (b : BookTunnel). b.local ≡ c.tunnel → CallBooked ns n b.peer c) (λ b m h. h) id mark k.tunnels all)
        k.calls ok.calls;
  }

  pub all_less : (k : Kept) (rs : List Record) → AllByRecursion IsNoUp rs → BookOk ns n k → BookOk ns n (book_after k rs)
  all_less k [] none ok = ok
  all_less k (r ∷ rs) none ok = all_less (with_record k r) rs none.1 (one_less k r none.0 ok)
