-- The session of a call that is refused has 16 bits, and so have the codes that tell it.
use Rattle.std.proofs.Common.{◌≡◌, ℕ, Bool, ◌<◌, sym, ap, ◌∙◌, Option, Ok}
use Rattle.std.specs.Prelude.{unwrap_or}
use Rattle.control_message.specs.declared.message.Message.{Message}
use Rattle.control_message.specs.declared.message.Message.TheVariants.{Icrq, Icrp, Ocrq}
use Rattle.end_model.specs.declared.event.Event.{Event}
use Rattle.end_model.specs.declared.moves.Refused.{Refused}
use Rattle.end_model.specs.Reading.{message_in, call_fault_in}
use Rattle.end_model.specs.End.{End}
use Rattle.step_laws.specs.Moves.{Hears, heard_from, WhyRefused, IsNotGranted, IsOutgoing, IsReplyToNone, IsWrong, Refuses}
use Rattle.step_laws.specs.Codes.{CodesFit, refusal_codes_fit}
use Rattle.frame_laws.proofs.Facts.{Nodes}
use Rattle.frame_laws.proofs.Leads.{Heard, heard_letter, heard_faulty}

pub refusal_fits : (calm : Bool) (ns : Nodes) (n : ℕ) (ev : Event) → Heard calm ns n ev → (e : End) (m : Refused) (y : End)
    → Refuses e ev m y
    → (m.remote < 65536) × CodesFit m.result m.error
refusal_fits calm ns n ev heard e m y h = (by h.why, refusal_codes_fit e h.tunnel h.letter.header.session _ _ m h.why)
  where
    came : (said : Message) → message_in h.letter.body ≡ Ok said → Hears ev h.tunnel.control.peer h.letter.header.session said
    came said is = heard_from ev h.tunnel h.letter said h.takes.next is

    told : (session : ℕ) → m.remote ≡ session → session < 65536 → m.remote < 65536
    told session same small = rw same small

    by : WhyRefused e h.tunnel h.letter.header.session (message_in h.letter.body) (call_fault_in h.letter.body) m → m.remote < 65536
    by (IsNotGranted remote serial calling said none same denied) =
        told remote same
        (heard_letter calm ns n ev heard h.tunnel.control.peer h.letter.header.session (Icrq remote serial calling)
        (came (Icrq remote serial calling) said)).0.0
    by (IsOutgoing remote said same result error) =
        absurd (heard_letter calm ns n ev heard h.tunnel.control.peer h.letter.header.session (Ocrq remote) (came (Ocrq remote) said)).0
    by (IsReplyToNone remote said none lns same result error) =
        told remote same (heard_letter calm ns n ev heard h.tunnel.control.peer h.letter.header.session (Icrp remote)
        (came (Icrp remote) said)).0.0
    by (IsWrong f fault same result error) =
        let c = h.takes.next.comes.came in
        let q = heard_faulty calm ns n ev heard h.letter.peer c.bytes h.letter.header c.is c.read c.control f
        (ap call_fault_in (sym c.body_is) ∙ fault) in
        told q.0 (same ∙ ap (λ (o : Option ℕ). unwrap_or o 0) q.1) q.2
