-- What a message says that names no tunnel.
use Rattle.std.proofs.Common.{◌≡◌, ◌⊎◌, inl, inr, ℕ, Bool, true, false, cond, List, refl, sym, ◌∙◌, Option, Some, None, Result, Ok, Err}
use Rattle.std.proofs.lemmas.Bool.{eqb-false}
use Rattle.std.specs.Prelude.{◌==◌, is_some}
use Rattle.wire_base.specs.declared.why.Why.{Why}
use Rattle.wire_base.specs.declared.why.Why.TheVariants as why
use Rattle.avp_codec.specs.declared.avp.Avp.{Avp}
use Rattle.avp_codec.specs.declared.error.AvpError.{AvpError}
use Rattle.avp_codec.specs.Reading.{avps_of}
use Rattle.control_message.specs.declared.kind.Kind.{Kind}
use Rattle.control_message.specs.declared.kind.Kind.TheVariants as kind
use Rattle.control_message.specs.declared.message.Message.{Message}
use Rattle.control_message.specs.declared.message.Message.TheVariants.{Sccrq, Sccrp, Scccn, StopCcn, Hello, Ocrq, Ocrp, Occn, Icrq, Icrp, Iccn, Cdn, Wen, Sli, Fsq, Fsr}
use Rattle.control_message.specs.declared.message.Opening.{Opening}
use Rattle.control_message.specs.declared.message.Read.{Read}
use Rattle.control_message.specs.declared.message.Read.TheVariants.{Known, Ignored}
use Rattle.control_message.specs.declared.message.MessageError.{MessageError}
use Rattle.control_message.specs.Reading.{plain_short}
use Rattle.end_model.specs.declared.event.Addressee.{Addressee}
use Rattle.end_model.specs.declared.event.Addressee.TheVariants.{Opens, Recovers, Recovery, Stops, Answers, Main, Nobody}
use Rattle.end_model.specs.Reading.{message_read, pairs_read, message_in, TunnelFault, tunnel_fault_read, tunnel_fault_of_pairs, tunnel_fault_in, stopped, told_or_none, zero_faulty, zero_read, zero_pairs, at_zero, kind_said, message_said}
use Rattle.step_laws.proofs.Lists.{branch}
use Rattle.step_laws.proofs.Assigned.{message_assigns, inner_fault}
use Rattle.step_laws.proofs.Faults.{IsOfOpening, of_opening}

-- an SCCRQ that can't be read, and whose fault is one of its pairs, where that has codes
pub record IsFaultyOpening (body : List ℕ) : Type 0 where
  pub why : Why
  pub unread : message_in body ≡ Err why
  pub fault : (g : TunnelFault) → tunnel_fault_in body ≡ Some g → IsOfOpening body g

-- an SCCRQ that assigns the id and asks for no recovery, or one that can't be read
abbrev pub SaysOpening : List ℕ → ℕ → Type 0
SaysOpening body remote =
    ((o : Opening) × (message_in body ≡ Ok (Sccrq o)) × (remote ≡ o.tunnel) × (is_some o.recovery ≡ false)) ⊎ IsFaultyOpening body

-- one that opens a tunnel is an SCCRQ, and an SCCRP is for none, of an id that isn't 0; a StopCCN is no SCCRQ; none is for a tunnel of
-- this end by the end's own id, and where it is for none, that isn't for want of room
abbrev pub ZeroSays : List ℕ → Addressee → Type 0
ZeroSays body (Opens remote) = (remote ≡ 0 → ⊥) × SaysOpening body remote
ZeroSays body (Stops remote) = (o : Opening) → message_in body ≡ Ok (Sccrq o) → ⊥
ZeroSays body (Answers remote) = remote ≡ 0 → ⊥
ZeroSays body (Recovers remote) = (remote ≡ 0 → ⊥) × ((o : Opening) × (message_in body ≡ Ok (Sccrq o)) × (remote ≡ o.tunnel) × (is_some o.recovery ≡ true))
ZeroSays body (Main i) = ⊥
ZeroSays body (Recovery i) = ⊥
ZeroSays body (Nobody w) = w ≡ why.Queue → ⊥

module _ (body : List ℕ) where
  for_none : ZeroSays body (Nobody why.Tunnel)
  for_none = λ q. absurd cc

  abbrev NoOpening : Type 0
  NoOpening = (o : Opening) → message_in body ≡ Ok (Sccrq o) → ⊥

  -- a StopCCN
  says_stopped : NoOpening → (o : Option ℕ) → ZeroSays body (stopped o)
  says_stopped other None = for_none
  says_stopped other (Some i) = branch (ZeroSays body) (i == 0) _ _ (λ zero. for_none) (λ some. other)

  -- an SCCRQ or an SCCRP that can't be read
  says_told : (to : ℕ → Addressee) → ((i : ℕ) → (i ≡ 0 → ⊥) → ZeroSays body (to i)) → (o : Option ℕ) → ZeroSays body (told_or_none to o)
  says_told to says None = λ q. absurd cc
  says_told to says (Some i) = branch (ZeroSays body) (i == 0) _ _ (λ zero q. absurd cc) (λ some. says i (eqb-false i 0 some))

  -- what the pairs of the body make
  module _ (avps : List Avp) (pairs : avps_of body ≡ Ok avps) where
    made : message_in body ≡ message_read (message_said avps)
    unfolding message_in pairs_read
    made = rw pairs refl

    fault_made : tunnel_fault_in body ≡ tunnel_fault_read avps (message_said avps)
    unfolding tunnel_fault_in tunnel_fault_of_pairs
    fault_made = rw pairs refl

    module _ (x : MessageError) (is : message_said avps ≡ Err x) where
      unread : message_in body ≡ Err why.Avp
      unfolding message_read
      unread = made ∙ (rw is refl)

      no_opening : NoOpening
      no_opening o said = let both : Err why.Avp ≡ Ok (Sccrq o) = sym unread ∙ said in absurd cc

      faulty_opening : kind_said avps ≡ Some kind.Sccrq → IsFaultyOpening body
      faulty_opening named = record {
        why = why.Avp;
        unread = unread;
        fault = λ g has. of_opening body avps pairs x is g named (inner_fault avps x named is) (rw (fault_made, is) at has);
      }

      says_faulty : (o : Option Kind) → kind_said avps ≡ o → ZeroSays body (zero_faulty o avps)
      says_faulty (Some kind.Sccrq) named = says_told (λ i. Opens i) (λ i some. (some, inr (faulty_opening named))) (plain_short 9 avps)
      says_faulty (Some kind.Sccrp) named = says_told (λ i. Answers i) (λ i some. some) (plain_short 9 avps)
      says_faulty (Some kind.StopCcn) named = says_stopped no_opening (plain_short 9 avps)
      says_faulty None named = for_none
      says_faulty (Some kind.Scccn) named = for_none
      says_faulty (Some kind.Hello) named = for_none
      says_faulty (Some kind.Ocrq) named = for_none
      says_faulty (Some kind.Ocrp) named = for_none
      says_faulty (Some kind.Occn) named = for_none
      says_faulty (Some kind.Fsq) named = for_none
      says_faulty (Some kind.Fsr) named = for_none
      says_faulty (Some kind.Icrq) named = for_none
      says_faulty (Some kind.Icrp) named = for_none
      says_faulty (Some kind.Iccn) named = for_none
      says_faulty (Some kind.Cdn) named = for_none
      says_faulty (Some kind.Wen) named = for_none
      says_faulty (Some kind.Sli) named = for_none

    said : (m : Message) → message_said avps ≡ Ok (Known m) → message_in body ≡ Ok m
    unfolding message_read
    said m is = made ∙ (rw is refl)

    says_sccrq : (o : Opening) → message_said avps ≡ Ok (Known (Sccrq o)) → (b : Bool) → is_some o.recovery ≡ b
        → ZeroSays body (cond b (Recovers o.tunnel) (Opens o.tunnel))
    says_sccrq o is true asks = (message_assigns avps (Sccrq o) is, (o, said (Sccrq o) is, refl, asks))
    says_sccrq o is false none = (message_assigns avps (Sccrq o) is, inl (o, said (Sccrq o) is, refl, none))

    says_read : (r : Result Read MessageError) → message_said avps ≡ r → ZeroSays body (zero_read avps r)
    unfolding zero_read
    says_read (Ok (Known (Sccrq o))) is = says_sccrq o is (is_some o.recovery) refl
    says_read (Ok (Known (Sccrp o))) is = message_assigns avps (Sccrp o) is
    says_read (Ok (Known (StopCcn tunnel code error))) is =
        says_stopped (λ o again. let both : Ok (StopCcn tunnel code error) ≡ Ok (Sccrq o) = sym (said _ is) ∙ again in absurd cc) (Some tunnel)
    says_read (Ok (Known (Scccn response))) is = for_none
    says_read (Ok (Known Hello)) is = for_none
    says_read (Ok (Known (Cdn remote code error))) is = for_none
    says_read (Ok (Known (Icrq remote serial calling))) is = for_none
    says_read (Ok (Known (Icrp remote))) is = for_none
    says_read (Ok (Known (Iccn speed framing sequenced))) is = for_none
    says_read (Ok (Known (Ocrq remote))) is = for_none
    says_read (Ok (Known Ocrp)) is = for_none
    says_read (Ok (Known Occn)) is = for_none
    says_read (Ok (Known Wen)) is = for_none
    says_read (Ok (Known Sli)) is = for_none
    says_read (Ok (Known (Fsq sessions))) is = for_none
    says_read (Ok (Known (Fsr sessions))) is = for_none
    says_read (Ok (Ignored n)) is = for_none
    says_read (Err x) is = says_faulty x is (kind_said avps) refl

  says_pairs : (r : Result (List Avp) AvpError) → avps_of body ≡ r → ZeroSays body (zero_pairs r)
  unfolding zero_pairs
  says_pairs (Ok avps) is = says_read avps is (message_said avps) refl
  says_pairs (Err x) is = λ q. absurd cc

  pub zero_says : ZeroSays body (at_zero body)
  unfolding at_zero
  zero_says = says_pairs (avps_of body) refl
