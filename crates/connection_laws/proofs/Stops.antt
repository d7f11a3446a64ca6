-- What a StopCCN that names no tunnel tells.
use Rattle.std.proofs.Common.{◌≡◌, ℕ, Bool, true, false, cond, eqb, List, [], refl, subst, Option, Some, Result, Ok, Err}
use Rattle.std.proofs.lemmas.Bool.{eqb-false}
use Rattle.std.specs.Prelude.{is_some}
use Rattle.avp_codec.specs.declared.avp.Avp.{Avp}
use Rattle.avp_codec.specs.declared.error.AvpError.{AvpError}
use Rattle.avp_codec.specs.Reading.{avps_of}
use Rattle.wire_base.specs.declared.why.Why.TheVariants as why
use Rattle.control_message.specs.declared.message.Message.{Message}
use Rattle.control_message.specs.declared.message.Message.TheVariants.{Sccrq, Sccrp, Scccn, StopCcn, Hello, Ocrq, Ocrp, Occn, Icrq, Icrp, Iccn, Cdn, Wen, Sli, Fsq, Fsr}
use Rattle.control_message.specs.declared.message.MessageError.{MessageError}
use Rattle.control_message.specs.declared.message.Read.{Read}
use Rattle.control_message.specs.declared.message.Read.TheVariants.{Known, Ignored}
use Rattle.control_message.specs.Reading.{message_by, kind_by}
use Rattle.end_model.specs.declared.event.Addressee.TheVariants.{Opens, Recovers, Stops, Nobody}
use Rattle.end_model.specs.Reading.{message_in, pairs_read, message_read, stopped, at_zero, zero_pairs, zero_read, message_said}
use Rattle.frame_laws.specs.Codecs.{Codecs}

-- it is one that tells this id, which is none that is 0
pub record TellsStop (m : Message) (r : ℕ) : Type 0 where
  pub code : ℕ
  pub error : Option ℕ
  pub is : m ≡ StopCcn r code error
  pub some : r ≡ 0 → ⊥

stopped_tells : (tunnel code : ℕ) (error : Option ℕ) (r : ℕ) → stopped (Some tunnel) ≡ Stops r → TellsStop (StopCcn tunnel code error) r
stopped_tells tunnel code error r h = by (eqb tunnel 0) refl h
  where
    by : (b : Bool) → eqb tunnel 0 ≡ b → cond b (Nobody why.Tunnel) (Stops tunnel) ≡ Stops r → TellsStop (StopCcn tunnel code error) r
    by true is g = absurd cc
    by false is g =
        let same : tunnel ≡ r = cc in
        subst (λ q. TellsStop (StopCcn tunnel code error) q) same (record { code = code; error = error; is = refl; some = eqb-false tunnel 0 is })

message_tells : (avps : List Avp) (m : Message) (r : ℕ) → zero_read avps (Ok (Known m)) ≡ Stops r → TellsStop m r
unfolding zero_read
message_tells avps (Sccrq o) r h = by (is_some o.recovery) h
  where
    by : (b : Bool) → cond b (Recovers o.tunnel) (Opens o.tunnel) ≡ Stops r → TellsStop (Sccrq o) r
    by true is = absurd cc
    by false is = absurd cc
message_tells avps (Sccrp o) r h = absurd cc
message_tells avps (Scccn response) r h = absurd cc
message_tells avps (StopCcn tunnel code error) r h = stopped_tells tunnel code error r h
message_tells avps Hello r h = absurd cc
message_tells avps (Ocrq session) r h = absurd cc
message_tells avps Ocrp r h = absurd cc
message_tells avps Occn r h = absurd cc
message_tells avps Wen r h = absurd cc
message_tells avps Sli r h = absurd cc
message_tells avps (Fsq sessions) r h = absurd cc
message_tells avps (Fsr sessions) r h = absurd cc
message_tells avps (Icrq session serial calling) r h = absurd cc
message_tells avps (Icrp session) r h = absurd cc
message_tells avps (Iccn speed framing sequenced) r h = absurd cc
message_tells avps (Cdn session code error) r h = absurd cc

read_tells : (avps : List Avp) (x : Result Read MessageError) (m : Message) (r : ℕ) → message_read x ≡ Ok m → zero_read avps x ≡ Stops r → TellsStop m r
unfolding message_read
read_tells avps (Ok (Known k)) m r said h = let same : k ≡ m = cc in subst (λ q. TellsStop q r) same (message_tells avps k r h)
read_tells avps (Ok (Ignored k)) m r said h = absurd cc
read_tells avps (Err x) m r said h = absurd cc

pairs_tell : (x : Result (List Avp) AvpError) (m : Message) (r : ℕ) → pairs_read x ≡ Ok m → zero_pairs x ≡ Stops r → TellsStop m r
unfolding pairs_read zero_pairs
pairs_tell (Ok avps) m r said h = read_tells avps (message_said avps) m r said h
pairs_tell (Err x) m r said h = absurd cc

-- where it can be read
pub stops_by : (body : List ℕ) (m : Message) (r : ℕ) → message_in body ≡ Ok m → at_zero body ≡ Stops r → TellsStop m r
unfolding message_in at_zero
stops_by body m r said h = pairs_tell (avps_of body) m r said h

-- no pairs are no StopCCN
pub no_stop : Codecs → (r : ℕ) → at_zero [] ≡ Stops r → ⊥
unfolding at_zero zero_pairs zero_read message_by kind_by
no_stop codecs r h = let none = codecs.pairs [] tt in (let g = rw none at h in cc)
