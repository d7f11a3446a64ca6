-- The book of an end has the established tunnels of it, and what holds of them.
use Rattle.std.proofs.Common.{◌≡◌, ⊎_elim, ℕ, ◌<◌, Bool, true, false, refl, sym, ap, ◌∙◌, subst, Option, Some, None, arith}
use Rattle.std.proofs.lemmas.Bool.{eqb-true}
use Rattle.std.specs.Prelude.{if◌then◌else◌}
use Rattle.id_table.specs.Ids.{at}
use Rattle.session_book.specs.declared.record.BookTunnel.{BookTunnel}
use Rattle.session_book.specs.declared.record.BookCall.{BookCall}
use Rattle.session_book.specs.Books.{Kept, tunnel_at, call_at}
use Rattle.tunnel_fsm.specs.Rows.{state_number}
use Rattle.end_model.specs.declared.tunnel.Call.{Call}
use Rattle.end_model.specs.Calls.{is_up}
use Rattle.end_model.specs.Moments.{is_open}
use Rattle.end_model.specs.Tunnels.{Tunnel, mode_of, is_current}
use Rattle.end_model.specs.End.{End}
use Rattle.world_model.specs.World.{World, epoch_of}
use Rattle.book_laws.specs.Books.{booked_control, tunnel_record, booked_call, call_record, record_in, Mirrors}
use Rattle.connection_laws.specs.Facts.{AllWait}
use Rattle.channel_laws.specs.Accounts.{Part, Unmade, Opener, Acceptor, Renewed, Account, History}
use Rattle.channel_laws.specs.Facts.{IsOpen, IsShut, IsInState, BookedOk, ChannelOk, LiveOk, EndOk, BookOk, Holds}
use Rattle.channel_laws.proofs.Linked.{acceptor_of, renewed_of}
use Rattle.channel_laws.proofs.Established.{established_knows}

module _ (w : World) (h : History) (holds : Holds w h) (n : ℕ) (e : End) (ok : EndOk w h n e) where
  -- an established tunnel knows an id
  module _ (i : ℕ) (t : Tunnel) (live : LiveOk w h n i t) (three : state_number t.control.state ≡ 3) where
    abbrev u : ℕ
    u = epoch_of w n i

    abbrev a : Account
    a = h.accounts n i u

    known_by : ChannelOk h.accounts n i u a t → (p : Part) → a.part ≡ p → 0 < t.control.remote
    known_by c Unmade own = absurd (subst (IsInState h.accounts i u a t) own c.state)
    known_by c Opener own =
        let same = c.remote in
        ⊎_elim
        (λ (q : (state_number t.control.state ≡ 1) × (a.remote ≡ 0) × IsOpen a × AllWait t.calls). let one = q.0 in absurd (omega (arith, one, three)))
        (λ k. ⊎_elim
        (λ (q : (state_number t.control.state ≡ 3) × (a.remote ≡ 0 → ⊥) × IsOpen a). let some = q.1 in omega (arith, same, some))
        (λ (q : IsShut a t). let four = q.0 in absurd (omega (arith, four, three))) k)
        (subst (IsInState h.accounts i u a t) own c.state)
    known_by c Acceptor own = let same = c.remote in let some = (acceptor_of w h n i u a (holds.accounts n i u) own).1.known in omega (arith, same, some)
    known_by c Renewed own = let same = c.remote in let some = (renewed_of w h n i u a (holds.accounts n i u) own).linked.to_some in omega (arith, same, some)

    known : 0 < t.control.remote
    known = by (is_current (mode_of t.recovery)) refl
      where
        by : (b : Bool) → is_current (mode_of t.recovery) ≡ b → 0 < t.control.remote
        by true current = known_by (live.channel current) a.part refl
        by false inactive = live.some inactive

    booked_at : BookedOk h n (booked_control i t.control)
    booked_at =
        let k = established_knows w h holds n i t live three in
        record {
          made = live.made;
          peer = live.peer;
          remote = known;
          knows = k.knows;
          learned = k.learned;
          late = k.late;
        }

  module _ (k : Kept) (mirrors : Mirrors e k) where
    -- the tunnel of a record
    record IsOf (i : ℕ) (b : BookTunnel) : Type 0 where
      tunnel : Tunnel
      there : at e.tunnels i ≡ Some tunnel
      three : state_number tunnel.control.state ≡ 3
      is : booked_control i tunnel.control ≡ b

    of_book : (i : ℕ) (b : BookTunnel) → tunnel_at k i ≡ Some b → IsOf i b
    of_book i b found = by (at e.tunnels i) refl (sym (mirrors.tunnels i) ∙ found)
      where
        open_so : (t : Tunnel) → at e.tunnels i ≡ Some t → (q : Bool) → is_open t.control.state ≡ q → (if q then Some (booked_control i t.control) else None) ≡ Some b → IsOf i b
        open_so t there true open_is is = record {
          tunnel = t;
          there = there;
          three = eqb-true (state_number t.control.state) 3 open_is;
          is = cc;
        }
        open_so t there false open_is is = absurd cc

        by : (o : Option Tunnel) → at e.tunnels i ≡ o → tunnel_record i o ≡ Some b → IsOf i b
        by None none is = absurd cc
        by (Some t) there is = open_so t there (is_open t.control.state) refl is

    -- the other end's id of the call of a record
    call_fits : (s : ℕ) (b : BookCall) → call_at k s ≡ Some b → b.remote < 65536
    call_fits s b found = by (at e.tunnels b.tunnel) refl (mirrors.calls s b found)
      where
        up_so : (c : Call) → c.remote < 65536 → (q : Bool) → (if q then Some (booked_call b.tunnel s c) else None) ≡ Some b
            → b.remote < 65536
        up_so c lt true is = let same : booked_call b.tunnel s c ≡ b = cc in
            let remote = ap (λ (x : BookCall). x.remote) same in omega (arith, remote, lt)
        up_so c lt false is = absurd cc

        in_tunnel : (t : Tunnel) → ((q : ℕ) (c : Call) → at t.calls q ≡ Some c → c.remote < 65536) → (o : Option Call) → at t.calls s ≡ o
            → call_record b.tunnel s o ≡ Some b
            → b.remote < 65536
        in_tunnel t fits None none is = absurd cc
        in_tunnel t fits (Some c) there is = up_so c (fits s c there) (is_up c.state) is

        by : (o : Option Tunnel) → at e.tunnels b.tunnel ≡ o → record_in b.tunnel s o ≡ Some b → b.remote < 65536
        by None none is = absurd cc
        by (Some t) there is = in_tunnel t (ok.live b.tunnel t there).calls (at t.calls s) refl is

    pub book_ok : BookOk h n k
    book_ok = record {
      tunnels = λ i b found. (let o = of_book i b found in subst (BookedOk h n) o.is (booked_at i o.tunnel (ok.live i o.tunnel o.there) o.three));
      apart = λ i j b c found too peers remotes.
          (let o = of_book i b found in
          let p = of_book j c too in
          let live = ok.live i o.tunnel o.there in
          let some = known i o.tunnel live o.three in
          ok.apart i j o.tunnel p.tunnel o.there p.there
          (ap (λ (x : BookTunnel). x.peer) o.is ∙ (peers ∙ ap (λ (x : BookTunnel). x.peer) (sym p.is)))
          (ap (λ (x : BookTunnel). x.remote) o.is ∙ (remotes ∙ ap (λ (x : BookTunnel). x.remote) (sym p.is)))
          (λ z. let no : ⊥ = omega (arith, z, some) in no));
      calls = call_fits;
    }
