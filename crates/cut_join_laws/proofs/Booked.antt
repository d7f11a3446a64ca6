-- A call that the book of an end has is one of an established tunnel, which the book has too.
use Rattle.std.proofs.Common.{◌≡◌, ℕ, ◌<◌, Bool, true, false, refl, ap, ◌∙◌, Option, Some, None, eq-eqb}
use Rattle.std.proofs.lemmas.Option.{none-some}
use Rattle.std.specs.Prelude.{if◌then◌else◌}
use Rattle.id_table.specs.Ids.{at}
use Rattle.session_book.specs.declared.record.BookTunnel.{BookTunnel}
use Rattle.session_book.specs.declared.record.BookCall.{BookCall}
use Rattle.session_book.specs.Books.{Kept, tunnel_at, call_at}
use Rattle.call_fsm.specs.declared.table.CallState.{CallState}
use Rattle.call_fsm.specs.declared.table.CallState.TheVariants as call
use Rattle.end_model.specs.declared.tunnel.Call.{Call}
use Rattle.end_model.specs.Calls.{is_up}
use Rattle.end_model.specs.Moments.{is_open}
use Rattle.end_model.specs.Tunnels.{Tunnel}
use Rattle.end_model.specs.End.{End}
use Rattle.book_laws.specs.Books.{Mirrors, Fits, booked_control, booked_call, tunnel_record, call_record, record_in}
use Rattle.epoch_machine.specs.Calls.{lives}
use Rattle.session_laws.specs.Names.{state_of}
use Rattle.join_laws.proofs.Bounds.{fit_bounded}

pub record IsInEnd (e : End) (s : ℕ) (b : BookCall) : Type 0 where
  pub tunnel : Tunnel
  pub there : at e.tunnels b.tunnel ≡ Some tunnel
  pub call : Call
  pub has : at tunnel.calls s ≡ Some call
  pub up : is_up call.state ≡ true

-- an established call is up in the machine
pub up_state : (s : CallState) → is_up s ≡ true → lives (state_of s) ≡ true
up_state call.Idle is = absurd cc
up_state call.WaitTunnel is = refl
up_state call.WaitReply is = refl
up_state call.WaitConnect is = refl
up_state call.Established is = refl

module _ (e : End) (k : Kept) (mirrors : Mirrors e k) (s : ℕ) (b : BookCall) (is : call_at k s ≡ Some b) where
  up_so : (c : Call) (q : Bool) → is_up c.state ≡ q → (if q then Some (booked_call b.tunnel s c) else None) ≡ Some b → is_up c.state ≡ true
  up_so c true up has = up
  up_so c false up has = absurd (none-some b has)

  in_tunnel : (t : Tunnel) → at e.tunnels b.tunnel ≡ Some t → (o : Option Call) → at t.calls s ≡ o → call_record b.tunnel s o ≡ Some b
      → IsInEnd e s b
  in_tunnel t there None has same = absurd (none-some b same)
  in_tunnel t there (Some c) has same = record { tunnel = t; there = there; call = c; has = has; up = up_so c (is_up c.state) refl same }

  by : (o : Option Tunnel) → at e.tunnels b.tunnel ≡ o → record_in b.tunnel s o ≡ Some b → IsInEnd e s b
  by None there same = absurd (none-some b same)
  by (Some t) there same = in_tunnel t there (at t.calls s) refl same

  pub is_in_end : IsInEnd e s b
  is_in_end = by (at e.tunnels b.tunnel) refl (mirrors.calls s b is)

  module _ (fit : Fits e) where
    -- its id has 16 bits
    pub call_bound : s < 65536
    call_bound = (fit_bounded e fit).sessions b.tunnel is_in_end.tunnel is_in_end.there s is_in_end.call is_in_end.has

    open_there : is_open is_in_end.tunnel.control.state ≡ true
    open_there =
        eq-eqb _ 3 (((fit.tables.tunnels b.tunnel is_in_end.tunnel is_in_end.there).calls s is_in_end.call is_in_end.has).up is_in_end.up)

    -- its tunnel is there
    pub home_there : (t : BookTunnel) × (tunnel_at k b.tunnel ≡ Some t)
    home_there = (
      booked_control b.tunnel is_in_end.tunnel.control,
      mirrors.tunnels b.tunnel ∙ (ap (tunnel_record b.tunnel) is_in_end.there
          ∙ ap (λ q. if q then Some (booked_control b.tunnel is_in_end.tunnel.control) else None) open_there),
    )
