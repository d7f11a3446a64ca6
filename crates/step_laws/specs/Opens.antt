-- What comes for no tunnel and can be read is an SCCRQ where it opens by an id, and an empty body opens none.
use Rattle.std.proofs.Common.{◌≡◌, ℕ, Bool, true, false, cond, List, [], refl, sym, ap, ◌∙◌, Result, Ok, Err}
use Rattle.std.specs.Prelude.{◌==◌, is_some}
use Rattle.wire_base.specs.declared.why.Why.TheVariants as why
use Rattle.avp_codec.specs.declared.avp.Avp.{Avp}
use Rattle.avp_codec.specs.declared.error.AvpError.{AvpError}
use Rattle.avp_codec.specs.Reading.{avps_at, avps_of}
use Rattle.control_message.specs.declared.message.Message.{Message}
use Rattle.control_message.specs.declared.message.Message.TheVariants.{Sccrq, Sccrp, Scccn, StopCcn, Hello, Ocrq, Ocrp, Occn, Icrq, Icrp, Iccn, Cdn, Wen, Sli, Fsq, Fsr}
use Rattle.control_message.specs.declared.message.Opening.{Opening}
use Rattle.control_message.specs.declared.message.Read.{Read}
use Rattle.control_message.specs.declared.message.Read.TheVariants.{Known, Ignored}
use Rattle.control_message.specs.declared.message.MessageError.{MessageError}
use Rattle.control_message.specs.Reading.{message_by, kind_by}
use Rattle.end_model.specs.Reading.{message_said}
use Rattle.end_model.specs.declared.event.Addressee.TheVariants.{Opens, Recovers, Stops, Nobody}
use Rattle.end_model.specs.Reading.{message_read, pairs_read, message_in, zero_read, zero_pairs, at_zero}

-- a message is an SCCRQ that assigns the id and asks for no recovery
abbrev pub Assigns : Message → ℕ → Type 0
Assigns m remote = (o : Opening) × (m ≡ Sccrq o) × (remote ≡ o.tunnel) × (is_some o.recovery ≡ false)

known_opens : (avps : List Avp) (m : Message) (remote : ℕ) → zero_read avps (Ok (Known m)) ≡ Opens remote → Assigns m remote
unfolding zero_read
known_opens avps (Sccrq o) remote h = by (is_some o.recovery) refl h
  where
    by : (b : Bool) → is_some o.recovery ≡ b → cond b (Recovers o.tunnel) (Opens o.tunnel) ≡ Opens remote → Assigns (Sccrq o) remote
    by true asks is = absurd cc
    by false none is = (o, refl, (let same : o.tunnel ≡ remote = cc in sym same), none)
known_opens avps (StopCcn tunnel code error) remote h = by (tunnel == 0) h
  where
    by : (b : Bool) → cond b (Nobody why.Tunnel) (Stops tunnel) ≡ Opens remote → Assigns (StopCcn tunnel code error) remote
    by true is = absurd cc
    by false is = absurd cc
known_opens avps (Sccrp o) remote h = absurd cc
known_opens avps (Scccn response) remote h = absurd cc
known_opens avps Hello remote h = absurd cc
known_opens avps (Ocrq session) remote h = absurd cc
known_opens avps Ocrp remote h = absurd cc
known_opens avps Occn remote h = absurd cc
known_opens avps (Icrq session serial calling) remote h = absurd cc
known_opens avps (Icrp session) remote h = absurd cc
known_opens avps (Iccn speed framing sequenced) remote h = absurd cc
known_opens avps (Cdn session code error) remote h = absurd cc
known_opens avps Wen remote h = absurd cc
known_opens avps Sli remote h = absurd cc
known_opens avps (Fsq sessions) remote h = absurd cc
known_opens avps (Fsr sessions) remote h = absurd cc

read_opens : (avps : List Avp) (r : Result Read MessageError) (m : Message) (remote : ℕ) → zero_read avps r ≡ Opens remote → message_read r ≡ Ok m
    → Assigns m remote
unfolding message_read
read_opens avps (Ok (Known n)) m remote h said =
    let same : n ≡ m = cc in
    known_opens avps m remote (ap (λ (x : Message). zero_read avps (Ok (Known x))) (sym same) ∙ h)
read_opens avps (Ok (Ignored n)) m remote h said = absurd cc
read_opens avps (Err x) m remote h said = absurd cc

pairs_open : (r : Result (List Avp) AvpError) (m : Message) (remote : ℕ) → zero_pairs r ≡ Opens remote → pairs_read r ≡ Ok m → Assigns m remote
unfolding zero_pairs pairs_read
pairs_open (Ok avps) m remote h said = read_opens avps (message_said avps) m remote h said
pairs_open (Err x) m remote h said = absurd cc

pub opens_said : (body : List ℕ) (m : Message) (remote : ℕ) → at_zero body ≡ Opens remote → message_in body ≡ Ok m → Assigns m remote
unfolding at_zero message_in
opens_said body m remote h said = pairs_open (avps_of body) m remote h said

pub empty_opens_none : (remote : ℕ) → at_zero [] ≡ Opens remote → ⊥
unfolding at_zero zero_pairs zero_read avps_at message_by kind_by
empty_opens_none remote h = absurd cc
