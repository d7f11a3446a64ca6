-- What a move of the machine takes is what the step hears: at a place stands one letter, and that is of the stage of what came in.
use Rattle.std.proofs.Common.{◌≡◌, ℕ, ◌<◌, List, refl, sym, ap, ap₂, ◌∙◌, subst, Option, Some, Result, Ok, Err, arith}
use Rattle.std.proofs.lemmas.Option.{same_Some}
use Rattle.std.specs.Prelude.{slice_get}
use Rattle.avp_codec.specs.declared.avp.Avp.{Avp}
use Rattle.avp_codec.specs.declared.error.AvpError.{AvpError}
use Rattle.avp_codec.specs.Reading.{avps_of}
use Rattle.l2tp_header.specs.Reading.{header_of, body_of}
use Rattle.control_message.specs.declared.message.Message.{Message}
use Rattle.control_message.specs.declared.message.Message.TheVariants as message
use Rattle.control_message.specs.declared.message.MessageError.{MessageError}
use Rattle.control_message.specs.declared.message.Read.{Read}
use Rattle.end_model.specs.declared.event.Event.{Event}
use Rattle.end_model.specs.declared.event.Event.TheVariants.{Datagram}
use Rattle.end_model.specs.Reading.{message_in, message_read, message_said, pairs_read, CallFault, call_fault_in, fault_read, fault_of_pairs}
use Rattle.step_laws.specs.Arrivals.{Came, CameIn}
use Rattle.frame_laws.specs.Plain.{without_number, AreAlike}
use Rattle.epoch_machine.specs.Letters.{Letter}
use Rattle.epoch_machine.specs.Worlds as machine
use Rattle.epoch_machine.specs.Moves.{Delivers}
use Rattle.session_laws.specs.Names.{spoken}
use Rattle.join_laws.specs.Hearing.{stage_of, stage, stage_of_kind, stage_of_fault, stage_said, stage_in, Hears, IsHeard}

-- ---- a step hears one message

pub hears_one : (ev : Event) (a b : ℕ) → Hears ev a → Hears ev b → a ≡ b
hears_one ev a b one two =
    let q = one.comes in
    let r = two.comes in
    let both : Datagram one.came.peer q.bytes ≡ Datagram two.came.peer r.bytes = sym q.is ∙ r.is in
    let bytes : q.bytes ≡ r.bytes = cc in
    let headers : Ok one.came.header ≡ Ok two.came.header = sym q.read ∙ (ap header_of bytes ∙ r.read) in
    let header : one.came.header ≡ two.came.header = cc in
    let body : one.came.body ≡ two.came.body = q.body_is ∙ (ap₂ body_of bytes header ∙ sym r.body_is) in
    sym one.is ∙ (ap stage_in body ∙ two.is)

-- ---- what came in

-- it is of the stage of the message that it says
pub stage_there : (body : List ℕ) (m : Message) → message_in body ≡ Ok m → stage_in body ≡ stage_of m
stage_there body m said = ap (λ r. stage_said r (call_fault_in body)) said

pub hears_said : (ev : Event) (came : Came) → CameIn ev came → (m : Message) → message_in came.body ≡ Ok m → Hears ev (stage_of m)
hears_said ev came comes m said = record { came = came; comes = comes; is = stage_there came.body m said }

-- what has a fault isn't read as a message
faulty_read : (avps : List Avp) (s : Result Read MessageError) (f : CallFault) (c : Option CallFault) → fault_read avps s ≡ Some f
    → stage_said (message_read s) c ≡ stage_of_fault c
unfolding message_read
faulty_read avps (Ok r) f c fault = absurd cc
faulty_read avps (Err e) f c fault = refl

faulty_pairs : (r : Result (List Avp) AvpError) (f : CallFault) (c : Option CallFault) → fault_of_pairs r ≡ Some f
    → stage_said (pairs_read r) c ≡ stage_of_fault c
unfolding pairs_read fault_of_pairs
faulty_pairs (Ok avps) f c fault = faulty_read avps (message_said avps) f c fault
faulty_pairs (Err e) f c fault = absurd cc

faulty_stage : (body : List ℕ) (f : CallFault) → call_fault_in body ≡ Some f → stage_in body ≡ stage_of_kind f.kind
unfolding message_in call_fault_in
faulty_stage body f fault =
    faulty_pairs (avps_of body) f (fault_of_pairs (avps_of body)) fault ∙ ap stage_of_fault fault

pub hears_fault : (ev : Event) (came : Came) → CameIn ev came → (f : CallFault) → call_fault_in came.body ≡ Some f
    → Hears ev (stage_of_kind f.kind)
hears_fault ev came comes f fault = record { came = came; comes = comes; is = faulty_stage came.body f fault }

-- ---- letters

-- at a place stands one letter
pub heard_at : (ev : Event) (w : machine.World) (x s e k z : ℕ) (l : Letter) → slice_get (w.channels.sent s e) k ≡ Some l
    → (0 < stage l → Hears ev (stage l)) → IsHeard ev w (Delivers x s e k z)
heard_at ev w x s e k z l there hears y stands up =
    let one : l ≡ y = same_Some l y (sym there ∙ stands) in
    subst (λ o. Hears ev (stage o)) one (hears (subst (λ o. 0 < stage o) (sym one) up))

-- it is what the step hears
pub heard_said : (ev : Event) (w : machine.World) (x s e k z : ℕ) (l : Letter) → slice_get (w.channels.sent s e) k ≡ Some l
    → (came : Came) → CameIn ev came → (m : Message) → message_in came.body ≡ Ok m → stage_of m ≡ stage l
    → IsHeard ev w (Delivers x s e k z)
heard_said ev w x s e k z l there came comes m said same =
    heard_at ev w x s e k z l there (λ up. subst (Hears ev) same (hears_said ev came comes m said))

-- or by no such letter a tunnel or a call comes up
pub heard_none : (ev : Event) (w : machine.World) (x s e k z : ℕ) (l : Letter) → slice_get (w.channels.sent s e) k ≡ Some l
    → stage l ≡ 0 → IsHeard ev w (Delivers x s e k z)
heard_none ev w x s e k z l there none = heard_at ev w x s e k z l there (λ up. absurd (omega (arith, up, none)))

-- ---- what letters say

pub stage_alike : (l m : Message) → AreAlike l m → stage_of l ≡ stage_of m
stage_alike l m alike = sym (without l) ∙ (ap stage_of alike ∙ without m)
  where
    without : (q : Message) → stage_of (without_number q) ≡ stage_of q
    without (message.Sccrq o) = refl
    without (message.Sccrp o) = refl
    without (message.Scccn response) = refl
    without (message.StopCcn tunnel result error) = refl
    without message.Hello = refl
    without (message.Ocrq remote) = refl
    without message.Ocrp = refl
    without message.Occn = refl
    without message.Wen = refl
    without message.Sli = refl
    without (message.Fsq sessions) = refl
    without (message.Fsr sessions) = refl
    without (message.Icrq remote serial calling) = refl
    without (message.Icrp remote) = refl
    without (message.Iccn speed framing sequenced) = refl
    without (message.Cdn remote code error) = refl

pub stage_spoken : (n p session : ℕ) (m : Message) → stage (spoken n p session m) ≡ stage_of m
stage_spoken n p session (message.Sccrq o) = refl
stage_spoken n p session (message.Sccrp o) = refl
stage_spoken n p session (message.Scccn response) = refl
stage_spoken n p session (message.StopCcn tunnel result error) = refl
stage_spoken n p session message.Hello = refl
stage_spoken n p session (message.Ocrq remote) = refl
stage_spoken n p session message.Ocrp = refl
stage_spoken n p session message.Occn = refl
stage_spoken n p session message.Wen = refl
stage_spoken n p session message.Sli = refl
stage_spoken n p session (message.Fsq sessions) = refl
stage_spoken n p session (message.Fsr sessions) = refl
stage_spoken n p session (message.Icrq remote serial calling) = refl
stage_spoken n p session (message.Icrp remote) = refl
stage_spoken n p session (message.Iccn speed framing sequenced) = refl
stage_spoken n p session (message.Cdn remote code error) = refl
