-- What the body of a request for a call says that has a fault.
use Rattle.std.proofs.Common.{◌≡◌, ⊎_elim, ℕ, cond, List, refl, subst, Option, Some, None, Result, Ok, Err}
use Rattle.wire_base.specs.declared.why.Why.TheVariants as why
use Rattle.wire_base.specs.declared.cause.Cause.TheVariants as cause
use Rattle.avp_codec.specs.declared.avp.Avp.{Avp}
use Rattle.avp_codec.specs.declared.error.AvpError.{AvpError}
use Rattle.avp_codec.specs.Reading.{avps_of}
use Rattle.control_message.specs.declared.kind.Kind.TheVariants as kind
use Rattle.control_message.specs.declared.message.Read.{Read}
use Rattle.control_message.specs.declared.message.MessageError.{MessageError}
use Rattle.control_message.specs.declared.message.MessageError.TheVariants.{NoType, UnknownType, UnknownMandatory, HiddenWithoutVector, BadValue, Missing, NoMemory}
use Rattle.control_message.specs.Reading.{plain_short}
use Rattle.tunnel_fsm.specs.declared.table.TunnelEvent.TheVariants as event
use Rattle.end_model.specs.Reading.{message_read, pairs_read, message_in, is_for_call, with_cause, fault_of_kind, fault_read, fault_of_pairs, CallFault, call_fault_in, TunnelFault, closing, closing_by, tunnel_fault_of_kind, tunnel_fault_read, tunnel_fault_of_pairs, tunnel_fault_in, kind_said, message_said}
use Rattle.step_laws.specs.Answers.{AsksForCall}
use Rattle.step_laws.proofs.Assigned.{IsInner, inner_icrq, inner_ocrq}

-- ---- one that a CDN answers

read_unread : (avps : List Avp) (r : Result Read MessageError) (f : CallFault) → fault_read avps r ≡ Some f → message_read r ≡ Err why.Avp
unfolding message_read
read_unread avps (Ok r) f h = absurd cc
read_unread avps (Err x) f h = refl

pairs_unread : (r : Result (List Avp) AvpError) (f : CallFault) → fault_of_pairs r ≡ Some f → pairs_read r ≡ Err why.Avp
unfolding fault_of_pairs pairs_read
pairs_unread (Ok avps) f h = read_unread avps (message_said avps) f h
pairs_unread (Err x) f h = refl

-- it can't be read
pub fault_unread : (body : List ℕ) (f : CallFault) → call_fault_in body ≡ Some f → message_in body ≡ Err why.Avp
unfolding call_fault_in message_in
fault_unread body f h = pairs_unread (avps_of body) f h

-- ---- one that no CDN can answer

-- a value of it is wrong, and the tunnel is closed for it
pub record IsOfRequest (g : TunnelFault) : Type 0 where
  pub event : g.event ≡ event.AdminClose
  pub cause : g.cause ≡ cause.Value

pub record IsUnanswerable (body : List ℕ) (g : TunnelFault) : Type 0 where
  pub unread : message_in body ≡ Err why.Avp
  pub no_call : call_fault_in body ≡ None
  pub closes : IsOfRequest g

module _ (avps : List Avp) (g : TunnelFault) where
  -- an Icrq
  icrq_value : (s : Option ℕ) → cond (is_for_call kind.Icrq s (Some cause.Value)) None (closing_by kind.Icrq avps (Some cause.Value)) ≡ Some g
      → (cond (is_for_call kind.Icrq s (Some cause.Value)) (with_cause kind.Icrq s (Some cause.Value)) None ≡ None) × IsOfRequest g
  icrq_value (Some n) h = absurd cc
  icrq_value None h = let same : closing event.AdminClose cause.Value 0 ≡ g = cc in (refl, subst IsOfRequest same (record { event = refl; cause = refl }))

  icrq_says : (x : MessageError) → IsInner x → tunnel_fault_of_kind (Some kind.Icrq) x avps ≡ Some g
      → (fault_of_kind (Some kind.Icrq) x avps ≡ None) × IsOfRequest g
  icrq_says NoType inner h = absurd inner
  icrq_says (UnknownType n) inner h = absurd inner
  icrq_says (UnknownMandatory v n) inner h = absurd cc
  icrq_says (HiddenWithoutVector n) inner h = icrq_value (plain_short 14 avps) h
  icrq_says (BadValue n) inner h = icrq_value (plain_short 14 avps) h
  icrq_says (Missing n) inner h = icrq_value (plain_short 14 avps) h
  icrq_says NoMemory inner h = absurd cc

  icrq_read : (x : MessageError) → IsInner x → kind_said avps ≡ Some kind.Icrq → tunnel_fault_read avps (Err x) ≡ Some g
      → (fault_read avps (Err x) ≡ None) × IsOfRequest g
  icrq_read NoType inner is h = absurd inner
  icrq_read (UnknownType n) inner is h = absurd inner
  icrq_read (UnknownMandatory v n) inner is h = rw is (icrq_says (UnknownMandatory v n) inner (rw is at h))
  icrq_read (HiddenWithoutVector n) inner is h = rw is (icrq_says (HiddenWithoutVector n) inner (rw is at h))
  icrq_read (BadValue n) inner is h = rw is (icrq_says (BadValue n) inner (rw is at h))
  icrq_read (Missing n) inner is h = rw is (icrq_says (Missing n) inner (rw is at h))
  icrq_read NoMemory inner is h = rw is (icrq_says NoMemory inner (rw is at h))

  -- an Ocrq
  ocrq_value : (s : Option ℕ) → cond (is_for_call kind.Ocrq s (Some cause.Value)) None (closing_by kind.Ocrq avps (Some cause.Value)) ≡ Some g
      → (cond (is_for_call kind.Ocrq s (Some cause.Value)) (with_cause kind.Ocrq s (Some cause.Value)) None ≡ None) × IsOfRequest g
  ocrq_value (Some n) h = absurd cc
  ocrq_value None h = let same : closing event.AdminClose cause.Value 0 ≡ g = cc in (refl, subst IsOfRequest same (record { event = refl; cause = refl }))

  ocrq_says : (x : MessageError) → IsInner x → tunnel_fault_of_kind (Some kind.Ocrq) x avps ≡ Some g
      → (fault_of_kind (Some kind.Ocrq) x avps ≡ None) × IsOfRequest g
  ocrq_says NoType inner h = absurd inner
  ocrq_says (UnknownType n) inner h = absurd inner
  ocrq_says (UnknownMandatory v n) inner h = absurd cc
  ocrq_says (HiddenWithoutVector n) inner h = ocrq_value (plain_short 14 avps) h
  ocrq_says (BadValue n) inner h = ocrq_value (plain_short 14 avps) h
  ocrq_says (Missing n) inner h = ocrq_value (plain_short 14 avps) h
  ocrq_says NoMemory inner h = absurd cc

  ocrq_read : (x : MessageError) → IsInner x → kind_said avps ≡ Some kind.Ocrq → tunnel_fault_read avps (Err x) ≡ Some g
      → (fault_read avps (Err x) ≡ None) × IsOfRequest g
  ocrq_read NoType inner is h = absurd inner
  ocrq_read (UnknownType n) inner is h = absurd inner
  ocrq_read (UnknownMandatory v n) inner is h = rw is (ocrq_says (UnknownMandatory v n) inner (rw is at h))
  ocrq_read (HiddenWithoutVector n) inner is h = rw is (ocrq_says (HiddenWithoutVector n) inner (rw is at h))
  ocrq_read (BadValue n) inner is h = rw is (ocrq_says (BadValue n) inner (rw is at h))
  ocrq_read (Missing n) inner is h = rw is (ocrq_says (Missing n) inner (rw is at h))
  ocrq_read NoMemory inner is h = rw is (ocrq_says NoMemory inner (rw is at h))

  asked_read : (r : Result Read MessageError) → message_said avps ≡ r → AsksForCall (kind_said avps) → tunnel_fault_read avps r ≡ Some g
      → (message_read r ≡ Err why.Avp) × ((fault_read avps r ≡ None) × IsOfRequest g)
  unfolding message_read
  asked_read (Ok r) is asks h = absurd cc
  asked_read (Err x) is asks h = (
    refl,
    ⊎_elim
        (λ (a : kind_said avps ≡ Some kind.Icrq). icrq_read x (inner_icrq avps x a is) a h)
        (λ (a : kind_said avps ≡ Some kind.Ocrq). ocrq_read x (inner_ocrq avps x a is) a h)
        asks,
  )

pub too_faulty : (body : List ℕ) (avps : List Avp) (g : TunnelFault) → avps_of body ≡ Ok avps → AsksForCall (kind_said avps)
    → tunnel_fault_in body ≡ Some g → IsUnanswerable body g
unfolding message_in pairs_read call_fault_in fault_of_pairs tunnel_fault_in tunnel_fault_of_pairs
too_faulty body avps g pairs asks h =
    let both = asked_read avps g (message_said avps) refl asks (rw pairs at h) in
    record { unread = rw pairs both.0; no_call = rw pairs both.1.0; closes = both.1.1 }
