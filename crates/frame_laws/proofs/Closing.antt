-- The id of the peer's tunnel that a tunnel knows when it is closed has 16 bits.
use Rattle.std.proofs.Common.{ℕ, Bool, ◌<◌, List, Option, sym, ap, ◌∙◌, arith}
use Rattle.control_message.specs.declared.message.Message.TheVariants.{Sccrp}
use Rattle.tunnel_fsm.specs.declared.table.TunnelEvent.{TunnelEvent}
use Rattle.end_model.specs.declared.event.Event.{Event}
use Rattle.end_model.specs.declared.moves.Closed.{Closed}
use Rattle.end_model.specs.Reading.{tunnel_fault_in}
use Rattle.end_model.specs.Tunnels.{Tunnel}
use Rattle.step_laws.specs.Moves.{Came, IsNext, heard_from, LetterCloses, WhyCloses, ByOperator, ByLetter, BySccrq, BySccrp, ByScccn, ByFault, ByUnasked}
use Rattle.frame_laws.proofs.Facts.{Nodes}
use Rattle.frame_laws.proofs.Leads.{Heard, heard_letter, heard_told}

-- the id that a letter tells which closes the tunnel
pub told_fits : (calm : Bool) (ns : Nodes) (n : ℕ) (ev : Event) → Heard calm ns n ev → (secret : Option (List ℕ)) (t : Tunnel) (k : Came)
    → IsNext ev t k → (on : TunnelEvent)
    (told result : ℕ) (error : Option ℕ) → LetterCloses secret t.control t.query k on told result error → told < 65536
told_fits calm ns n ev heard secret t k next on told result error (BySccrq o said at_ none why) = rw none (omega arith)
told_fits calm ns n ev heard secret t k next on told result error (BySccrp o said at_ same why) =
    let fits = (heard_letter calm ns n ev heard t.control.peer k.header.session (Sccrp o)
    (heard_from ev t k (Sccrp o) next said)).0.0.tunnel in rw same fits
told_fits calm ns n ev heard secret t k next on told result error (ByScccn response said none why) = rw none (omega arith)
told_fits calm ns n ev heard secret t k next on told result error (ByFault g has at_ same r x) =
    let came = next.comes.came in
    let fits = heard_told calm ns n ev heard k.peer came.bytes k.header came.is came.read came.control g
    (ap tunnel_fault_in (sym came.body_is) ∙ has) in
    rw same fits
told_fits calm ns n ev heard secret t k next on told result error (ByUnasked answers place said differs at_ none r x) = rw none
    (omega arith)

-- a StopCCN of an administrator, or behind a letter, goes to the id that is known
pub closing_fits : (secret : Option (List ℕ)) (ev : Event) (t : Tunnel) (on : TunnelEvent) (m : Closed) → t.control.remote < 65536
    → WhyCloses secret t ev on m → m.remote < 65536
closing_fits secret ev t on m known (ByOperator is at_ same r x) = rw same known
closing_fits secret ev t on m known (ByLetter told k next spare why other same) = rw same known
