-- What a fault of a message is: of which kind the message is, what it is to the tunnel's table, and of which cause it is.
use Rattle.std.proofs.Common.{◌≡◌, ◌⊎◌, inl, inr, ⊎_elim, ℕ, Bool, true, false, cond, List, length, refl, sym, ap, ◌∙◌, subst, Option, Some, None, Result, Ok, Err}
use Rattle.std.proofs.lemmas.Bool.{true≢false, eq-eqb}
use Rattle.std.specs.Prelude.{◌&&◌, not, is_none, IsNone, IfSome}
use Rattle.wire_base.specs.declared.cause.Cause.{Cause as CauseOf}
use Rattle.wire_base.specs.declared.cause.Cause.TheVariants as cause
use Rattle.avp_codec.specs.declared.avp.Avp.{Avp}
use Rattle.avp_codec.specs.declared.error.AvpError.{AvpError}
use Rattle.avp_codec.specs.Reading.{avps_of}
use Rattle.avp_codec.proofs.Laws.{spelled_again}
use Rattle.control_message.specs.declared.kind.Kinds.TheVariants.{Queries}
use Rattle.control_message.specs.declared.kind.Kind.{Kind}
use Rattle.control_message.specs.declared.kind.Kind.TheVariants as kind
use Rattle.control_message.specs.declared.message.Read.{Read}
use Rattle.control_message.specs.declared.message.MessageError.{MessageError}
use Rattle.control_message.specs.declared.message.MessageError.TheVariants.{NoType, UnknownType, UnknownMandatory, HiddenWithoutVector, BadValue, Missing, NoMemory}
use Rattle.control_message.specs.Faults.{IsOfKind, HasNoType, HasUnknownType}
use Rattle.control_message.specs.Grammar.{HasNoPlainShort}
use Rattle.control_message.specs.Reading.{first, plain_short, kind_by}
use Rattle.control_message.proofs.Firsts.{first_stands, absent_first, plain_none, none_plain}
use Rattle.control_message.proofs.Laws.{fault, kind_there, there_kind}
use Rattle.tunnel_fsm.specs.declared.table.TunnelEvent.{TunnelEvent}
use Rattle.tunnel_fsm.specs.declared.table.TunnelEvent.TheVariants as event
use Rattle.end_model.specs.declared.event.Event.{Event}
use Rattle.end_model.specs.Reading.{fault_cause, is_about_call, is_value, is_for_call, with_cause, fault_of_kind, fault_read, fault_of_pairs, CallFault, call_fault_in, TunnelFault, event_of_kind, told_by_kind, closing, closing_by, tunnel_fault_of_kind, tunnel_fault_read, tunnel_fault_of_pairs, tunnel_fault_in, kind_said, message_said}
use Rattle.end_model.specs.End.{End}
use Rattle.step_laws.specs.Faults.{IsUnreadable, HasFirst, TellsFault, ValueIsWanting, ValueIsBad, ValueIsHidden, PairIsUnknown, TypeIsUnknown, TypeIsWanting, IsNoList, IsOf, IsAboutCall, IsAboutTunnel, CantBeAnswered, IsEventOf, OfSccrq, OfSccrp, OfScccn, OfStopCcn, OfOther}
use Rattle.step_laws.specs.Causes.{CameFaulty, CameClosing, CameFaultyOpening, Stands}
use Rattle.step_laws.proofs.Assigned.{IsInner}
use Rattle.step_laws.proofs.Lists.{and_left}

-- ---- the causes of faults

-- of a value, or of what has to be understood
abbrev pub IsOfFault : CauseOf → Type 0
IsOfFault c = (c ≡ cause.Value) ⊎ (c ≡ cause.Mandatory)

error_cause : (x : MessageError) (c : CauseOf) → fault_cause x ≡ Some c → IsOfFault c
error_cause (UnknownMandatory v n) c h = inr (let same : cause.Mandatory ≡ c = cc in sym same)
error_cause (HiddenWithoutVector n) c h = inl (let same : cause.Value ≡ c = cc in sym same)
error_cause (BadValue n) c h = inl (let same : cause.Value ≡ c = cc in sym same)
error_cause (Missing n) c h = inl (let same : cause.Value ≡ c = cc in sym same)
error_cause NoType c h = absurd cc
error_cause (UnknownType n) c h = absurd cc
error_cause NoMemory c h = absurd cc

-- the cause tells the first fault
error_tells : (body : List ℕ) (x : MessageError) (c : CauseOf) → HasFirst body x → fault_cause x ≡ Some c → TellsFault body c
error_tells body (UnknownMandatory v n) c has h = let same : cause.Mandatory ≡ c = cc in subst (TellsFault body) same (PairIsUnknown v n has)
error_tells body (HiddenWithoutVector n) c has h = let same : cause.Value ≡ c = cc in subst (TellsFault body) same (ValueIsHidden n has)
error_tells body (BadValue n) c has h = let same : cause.Value ≡ c = cc in subst (TellsFault body) same (ValueIsBad n has)
error_tells body (Missing n) c has h = let same : cause.Value ≡ c = cc in subst (TellsFault body) same (ValueIsWanting n has)
error_tells body NoType c has h = absurd cc
error_tells body (UnknownType n) c has h = absurd cc
error_tells body NoMemory c has h = absurd cc

-- ---- a message whose type can't be known is of no kind

no_type_no_kind : (avps : List Avp) (k : Kind) → IsOfKind Queries avps k → HasNoType avps → ⊥
no_type_no_kind avps k is none =
    let t = is.has.has in
    let here : first 0 avps ≡ Some t.pair = first_stands 0 t.pair avps t.first in
    ⊎_elim
    (λ absent. let both : None ≡ Some t.pair = sym (absent_first 0 avps absent) ∙ here in absurd cc)
    (λ other.
    let both : Some other.0 ≡ Some t.pair = sym (first_stands 0 other.0 avps other.1) ∙ here in
    let same : other.0 ≡ t.pair = cc in
    ⊎_elim
    (λ (hid : other.0.hidden ≡ true). true≢false (sym hid ∙ (ap (λ (a : Avp). a.hidden) same ∙ t.plain)))
    (λ wide. absurd (wide (ap (λ (a : Avp). length a.value) same ∙ (ap length t.same ∙ is.has.wide))))
    other.2)
    none

unknown_no_kind : (avps : List Avp) (n : ℕ) (k : Kind) → IsOfKind Queries avps k → HasUnknownType Queries avps n → ⊥
unfolding kind_by
unknown_no_kind avps n k is u =
    let none : kind_said avps ≡ None =
    rw (first_stands 0 u.pair avps u.first, u.plain, eq-eqb (length u.pair.value) 2 u.wide, u.number, u.unknown) refl in
    let both : None ≡ Some k = sym none ∙ there_kind Queries avps k is in
    absurd cc

-- ---- what the body of a message says

unreadable : (body : List ℕ) (x : AvpError) → avps_of body ≡ Err x → IsUnreadable body
unreadable body x failed avps fits is = let both : Err x ≡ Ok avps = sym failed ∙ (ap avps_of is ∙ spelled_again avps fits) in absurd cc

module _ (body : List ℕ) (avps : List Avp) (read : avps_of body ≡ Ok avps) where
  has_first : (x : MessageError) → message_said avps ≡ Err x → HasFirst body x
  has_first x failed = record { pairs = avps; read = read; fault = fault Queries avps x failed }

  pub is_of : (k : Kind) → kind_said avps ≡ Some k → IsOf body k
  is_of k named = record {
    pairs = avps;
    read = read;
    names = subst (λ (o : Option Kind). IfSome o (λ q. IsOfKind Queries avps q)) named
        (kind_there Queries avps);
  }

  -- it has one list of pairs
  same_pairs : (others : List Avp) → avps_of body ≡ Ok others → others ≡ avps
  same_pairs others again = let both : Ok others ≡ Ok avps = sym again ∙ read in cc

  -- and is of one kind
  kind_is : (k : Kind) → IsOf body k → kind_said avps ≡ Some k
  kind_is k is = ap kind_said (sym (same_pairs is.pairs is.read)) ∙ there_kind Queries is.pairs k is.names

  one_kind : (k j : Kind) → kind_said avps ≡ Some k → IsOf body j → j ≡ k
  one_kind k j named is = let both : Some j ≡ Some k = sym (kind_is j is) ∙ named in cc

  -- where it tells no session id
  none_told : IsNone (plain_short 14 avps) → (pairs : List Avp) → avps_of body ≡ Ok pairs → HasNoPlainShort 14 pairs
  none_told none pairs again = plain_none 14 pairs (subst (λ (v : List Avp). IsNone (plain_short 14 v)) (sym (same_pairs pairs again)) none)

  told_none : ((pairs : List Avp) → avps_of body ≡ Ok pairs → HasNoPlainShort 14 pairs) → IsNone (plain_short 14 avps)
  told_none none = none_plain 14 avps (none avps read)

-- ---- which messages a CDN can answer

about_call : (k : Kind) → is_about_call k ≡ true → IsAboutCall k
about_call kind.Icrq h = tt
about_call kind.Icrp h = tt
about_call kind.Iccn h = tt
about_call kind.Cdn h = tt
about_call kind.Wen h = tt
about_call kind.Sli h = tt
about_call kind.Ocrq h = tt
about_call kind.Sccrq h = absurd cc
about_call kind.Sccrp h = absurd cc
about_call kind.Scccn h = absurd cc
about_call kind.StopCcn h = absurd cc
about_call kind.Hello h = absurd cc
about_call kind.Ocrp h = absurd cc
about_call kind.Occn h = absurd cc
about_call kind.Fsq h = absurd cc
about_call kind.Fsr h = absurd cc

-- of its value it is, and it tells no session
value_alone : (c : CauseOf) (s : Option ℕ) → IsOfFault c → not (is_value (Some c) && is_none s) ≡ false → (c ≡ cause.Value) × IsNone s
value_alone c s is h = ⊎_elim
    (λ (value : c ≡ cause.Value). (value, by s (rw value at h)))
    (λ (mandatory : c ≡ cause.Mandatory). absurd (let two : true ≡ false = rw mandatory at h in cc))
    is
  where
    by : (s : Option ℕ) → not (is_value (Some cause.Value) && is_none s) ≡ false → IsNone s
    by None e = refl
    by (Some n) e = absurd cc

abbrev IsAlone : Kind → Option ℕ → CauseOf → Type 0
IsAlone k s c = ((k ≡ kind.Icrq) ⊎ (k ≡ kind.Ocrq)) × (c ≡ cause.Value) × IsNone s

-- one about a call that a CDN can't answer
for_none : (k : Kind) (s : Option ℕ) (c : CauseOf) → IsOfFault c → IsAboutCall k → is_for_call k s (Some c) ≡ false → IsAlone k s c
for_none kind.Icrq s c is about h = let both = value_alone c s is h in (inl refl, both.0, both.1)
for_none kind.Ocrq s c is about h = let both = value_alone c s is h in (inr refl, both.0, both.1)
for_none kind.Icrp s c is about h = absurd cc
for_none kind.Iccn s c is about h = absurd cc
for_none kind.Cdn s c is about h = absurd cc
for_none kind.Wen s c is about h = absurd cc
for_none kind.Sli s c is about h = absurd cc
for_none kind.Sccrq s c is about h = absurd about
for_none kind.Sccrp s c is about h = absurd about
for_none kind.Scccn s c is about h = absurd about
for_none kind.StopCcn s c is about h = absurd about
for_none kind.Hello s c is about h = absurd about
for_none kind.Ocrp s c is about h = absurd about
for_none kind.Occn s c is about h = absurd about
for_none kind.Fsq s c is about h = absurd about
for_none kind.Fsr s c is about h = absurd about

-- such a one isn't answered by a CDN
alone_none : (k : Kind) (s : Option ℕ) (c : CauseOf) → IsAlone k s c → is_for_call k s (Some c) ≡ false
alone_none k None c alone = ⊎_elim
    (λ (icrq : k ≡ kind.Icrq). rw (icrq, alone.1) refl)
    (λ (ocrq : k ≡ kind.Ocrq). rw (ocrq, alone.1) refl)
    alone.0
alone_none k (Some n) c alone = absurd (true≢false alone.2)

-- ---- faults of messages about calls

pub record IsOfCall (body : List ℕ) (f : CallFault) : Type 0 where
  pub cause : IsOfFault f.cause
  pub kind : IsOf body f.kind
  pub about : IsAboutCall f.kind
  pub fault : TellsFault body f.cause
  pub answered : CantBeAnswered body f.kind f.cause → ⊥

module _ (body : List ℕ) (avps : List Avp) (read : avps_of body ≡ Ok avps) (x : MessageError) (has : HasFirst body x) where
  abbrev session : Option ℕ
  session = plain_short 14 avps

  call_made : (k : Kind) (f : CallFault) → kind_said avps ≡ Some k → (o : Option CauseOf) → fault_cause x ≡ o
      → is_for_call k session o ≡ true
      → with_cause k session o ≡ Some f → IsOfCall body f
  call_made k f named None is may h = absurd cc
  call_made k f named (Some c) is may h =
      let g : CallFault = record { kind = k; cause = c; session = session } in
      let same : g ≡ f = cc in
      let good : IsOfCall body g = record {
        cause = error_cause x c is;
        kind = is_of body avps read k named;
        about = about_call k (and_left (is_about_call k) _ may);
        fault = error_tells body x c has is;
        answered = λ cant.
            true≢false (sym may ∙ alone_none k session c (cant.asks, cant.value, told_none body avps read cant.none));
      } in
      subst (IsOfCall body) same good

  of_call : (o : Option Kind) (f : CallFault) → kind_said avps ≡ o → fault_of_kind o x avps ≡ Some f → IsOfCall body f
  of_call None f named h = absurd cc
  of_call (Some k) f named h = by (is_for_call k session (fault_cause x)) refl h
    where
      by : (b : Bool) → is_for_call k session (fault_cause x) ≡ b → cond b (with_cause k session (fault_cause x)) None ≡ Some f → IsOfCall body f
      by true may is = call_made k f named (fault_cause x) refl may is
      by false may is = absurd cc

pub call_fault : (body : List ℕ) (f : CallFault) → call_fault_in body ≡ Some f → IsOfCall body f
unfolding call_fault_in fault_of_pairs
call_fault body f h = by (avps_of body) refl h
  where
    by : (r : Result (List Avp) AvpError) → avps_of body ≡ r → fault_of_pairs r ≡ Some f → IsOfCall body f
    by (Err x) read is = absurd cc
    by (Ok avps) read is = of (message_said avps) refl is
      where
        of : (r : Result Read MessageError) → message_said avps ≡ r → fault_read avps r ≡ Some f → IsOfCall body f
        of (Ok m) made e = absurd cc
        of (Err x) made e = of_call body avps read x (has_first body avps read x made) (kind_said avps) f refl e

-- its cause stands
pub fault_stands : (e : End) (moment : ℕ) (ev : Event) (c : CauseOf) → IsOfFault c → CameFaulty e ev c → Stands e moment ev c
fault_stands e moment ev c is came = ⊎_elim
    (λ (value : c ≡ cause.Value). subst (Stands e moment ev) (sym value) (inl (subst (CameFaulty e ev) value came)))
    (λ (mandatory : c ≡ cause.Mandatory). subst (Stands e moment ev) (sym mandatory) (inl (subst (CameFaulty e ev) mandatory came)))
    is

-- ---- faults of messages about tunnels

-- the events that they are: no message that has one is acceptable, and none opens a tunnel
abbrev pub IsEventOfFault : TunnelEvent → Type 0
IsEventOfFault event.SccrqNotAcc = Unit {0}
IsEventOfFault event.SccrpNotAcc = Unit {0}
IsEventOfFault event.ScccnNotAcc = Unit {0}
IsEventOfFault event.AdminClose = Unit {0}
IsEventOfFault event.StopCcnCame = Unit {0}
IsEventOfFault on = ⊥

pub record IsOfTunnel (body : List ℕ) (g : TunnelFault) : Type 0 where
  pub event : IsEventOfFault g.event
  pub event_is : IsEventOf body g.event
  pub cause : (g.cause ≡ cause.Avp) ⊎ IsOfFault g.cause
  pub fault : TellsFault body g.cause
  pub unanswered : (k : Kind) → IsOf body k → IsAboutCall k → CantBeAnswered body k g.cause

kind_event : (k : Kind) → IsEventOfFault (event_of_kind k)
kind_event kind.Sccrq = tt
kind_event kind.Sccrp = tt
kind_event kind.Scccn = tt
kind_event kind.StopCcn = tt
kind_event kind.Hello = tt
kind_event kind.Ocrq = tt
kind_event kind.Ocrp = tt
kind_event kind.Occn = tt
kind_event kind.Fsq = tt
kind_event kind.Fsr = tt
kind_event kind.Icrq = tt
kind_event kind.Icrp = tt
kind_event kind.Iccn = tt
kind_event kind.Cdn = tt
kind_event kind.Wen = tt
kind_event kind.Sli = tt

module _ (body : List ℕ) where
  other_event : (k : Kind) → ((j : Kind) → IsOf body j → j ≡ k) → (IsAboutTunnel k → ⊥) → IsEventOf body event.AdminClose
  other_event k one other = OfOther (λ j is about. other (subst IsAboutTunnel (one j is) about))

  event_by_kind : (k : Kind) → IsOf body k → ((j : Kind) → IsOf body j → j ≡ k) → IsEventOf body (event_of_kind k)
  event_by_kind kind.Sccrq is one = OfSccrq is
  event_by_kind kind.Sccrp is one = OfSccrp is
  event_by_kind kind.Scccn is one = OfScccn is
  event_by_kind kind.StopCcn is one = OfStopCcn is
  event_by_kind kind.Hello is one = other_event kind.Hello one (λ about. about)
  event_by_kind kind.Ocrq is one = other_event kind.Ocrq one (λ about. about)
  event_by_kind kind.Ocrp is one = other_event kind.Ocrp one (λ about. about)
  event_by_kind kind.Occn is one = other_event kind.Occn one (λ about. about)
  event_by_kind kind.Fsq is one = other_event kind.Fsq one (λ about. about)
  event_by_kind kind.Fsr is one = other_event kind.Fsr one (λ about. about)
  event_by_kind kind.Icrq is one = other_event kind.Icrq one (λ about. about)
  event_by_kind kind.Icrp is one = other_event kind.Icrp one (λ about. about)
  event_by_kind kind.Iccn is one = other_event kind.Iccn one (λ about. about)
  event_by_kind kind.Cdn is one = other_event kind.Cdn one (λ about. about)
  event_by_kind kind.Wen is one = other_event kind.Wen one (λ about. about)
  event_by_kind kind.Sli is one = other_event kind.Sli one (λ about. about)

  -- of no kind
  kindless : (c : CauseOf) (g : TunnelFault) → ((k : Kind) → IsOf body k → ⊥) → (c ≡ cause.Avp) ⊎ IsOfFault c → TellsFault body c
      → Some (closing event.AdminClose c 0) ≡ Some g → IsOfTunnel body g
  kindless c g none is tells h =
      let same : closing event.AdminClose c 0 ≡ g = cc in
      let good : IsOfTunnel body (closing event.AdminClose c 0) = record {
        event = tt;
        event_is = OfOther (λ k of about. none k of);
        cause = is;
        fault = tells;
        unanswered = λ k of about. absurd (none k of);
      } in
      subst (IsOfTunnel body) same good

  module _ (avps : List Avp) (read : avps_of body ≡ Ok avps) where
    module _ (x : MessageError) (has : HasFirst body x) where
      tunnel_made : (k : Kind) (g : TunnelFault) → kind_said avps ≡ Some k → (o : Option CauseOf) → fault_cause x ≡ o
          → is_for_call k (plain_short 14 avps) o ≡ false → closing_by k avps o ≡ Some g → IsOfTunnel body g
      tunnel_made k g named None is may h = absurd cc
      tunnel_made k g named (Some c) is may h =
          let d = closing (event_of_kind k) c (told_by_kind k avps) in
          let same : d ≡ g = cc in
          let one : (j : Kind) → IsOf body j → j ≡ k = λ j of. one_kind body avps read k j named of in
          let good : IsOfTunnel body d = record {
            event = kind_event k;
            event_is = event_by_kind k (is_of body avps read k named) one;
            cause = inr (error_cause x c is);
            fault = error_tells body x c has is;
            unanswered = λ j of about.
                let alone = for_none k (plain_short 14 avps) c (error_cause x c is) (subst IsAboutCall (one j of) about) may in
                record {
                  asks = subst (λ (q : Kind). (q ≡ kind.Icrq) ⊎ (q ≡ kind.Ocrq)) (sym (one j of)) alone.0;
                  value = alone.1;
                  none = none_told body avps read alone.2;
                };
          } in
          subst (IsOfTunnel body) same good

      tunnel_of : (o : Option Kind) (g : TunnelFault) → kind_said avps ≡ o → tunnel_fault_of_kind o x avps ≡ Some g → IsOfTunnel body g
      tunnel_of None g named h = absurd cc
      tunnel_of (Some k) g named h = by (is_for_call k (plain_short 14 avps) (fault_cause x)) refl h
        where
          by : (b : Bool) → is_for_call k (plain_short 14 avps) (fault_cause x) ≡ b → cond b None (closing_by k avps (fault_cause x)) ≡ Some g
              → IsOfTunnel body g
          by true may is = absurd cc
          by false may is = tunnel_made k g named (fault_cause x) refl may is

    -- it can't be of a kind
    no_kind : ((k : Kind) → IsOfKind Queries avps k → ⊥) → (k : Kind) → IsOf body k → ⊥
    no_kind none k is = none k (subst (λ v. IsOfKind Queries v k) (same_pairs body avps read is.pairs is.read) is.names)

    tunnel_read : (r : Result Read MessageError) (g : TunnelFault) → message_said avps ≡ r → tunnel_fault_read avps r ≡ Some g
        → IsOfTunnel body g
    tunnel_read (Ok m) g made h = absurd cc
    tunnel_read (Err NoType) g made h =
        let has = has_first body avps read NoType made in
        kindless cause.Avp g (no_kind (λ k is. no_type_no_kind avps k is (fault Queries avps NoType made))) (inl refl) (TypeIsWanting has) h
    tunnel_read (Err (UnknownType n)) g made h =
        let has = has_first body avps read (UnknownType n) made in
        kindless cause.Mandatory g (no_kind (λ k is. unknown_no_kind avps n k is (fault Queries avps (UnknownType n) made)))
        (inr (inr refl)) (TypeIsUnknown n has) h
    tunnel_read (Err (UnknownMandatory v n)) g made h = tunnel_of (UnknownMandatory v n) (has_first body avps read _ made)
        (kind_said avps) g refl h
    tunnel_read (Err (HiddenWithoutVector n)) g made h = tunnel_of (HiddenWithoutVector n) (has_first body avps read _ made)
        (kind_said avps) g refl h
    tunnel_read (Err (BadValue n)) g made h = tunnel_of (BadValue n) (has_first body avps read _ made) (kind_said avps) g refl h
    tunnel_read (Err (Missing n)) g made h = tunnel_of (Missing n) (has_first body avps read _ made) (kind_said avps) g refl h
    tunnel_read (Err NoMemory) g made h = tunnel_of NoMemory (has_first body avps read _ made) (kind_said avps) g refl h

  tunnel_pairs : (r : Result (List Avp) AvpError) (g : TunnelFault) → avps_of body ≡ r → tunnel_fault_of_pairs r ≡ Some g → IsOfTunnel body g
  unfolding tunnel_fault_of_pairs
  tunnel_pairs (Ok avps) g read h = tunnel_read avps read (message_said avps) g refl h
  tunnel_pairs (Err x) g read h =
      kindless cause.Avp g (λ k is. let both : Err x ≡ Ok is.pairs = sym read ∙ is.read in absurd cc) (inl refl) (IsNoList (unreadable body x read)) h

pub of_tunnel : (body : List ℕ) (g : TunnelFault) → tunnel_fault_in body ≡ Some g → IsOfTunnel body g
unfolding tunnel_fault_in
of_tunnel body g h = tunnel_pairs body (avps_of body) g refl h

-- its cause stands, where the tunnel is closed for it
pub closing_stands : (e : End) (moment : ℕ) (ev : Event) (c : CauseOf) → (c ≡ cause.Avp) ⊎ IsOfFault c → CameClosing e ev c → Stands e moment ev c
closing_stands e moment ev c is came = ⊎_elim
    (λ (avp : c ≡ cause.Avp). subst (Stands e moment ev) (sym avp) (inl (subst (CameClosing e ev) avp came)))
    (λ other. ⊎_elim
    (λ (value : c ≡ cause.Value). subst (Stands e moment ev) (sym value) (inr (inl (subst (CameClosing e ev) value came))))
    (λ (mandatory : c ≡ cause.Mandatory). subst (Stands e moment ev) (sym mandatory) (inr (inl (subst (CameClosing e ev) mandatory came))))
    other)
    is

-- ---- faults of openings

-- of an SCCRQ
pub record IsOfOpening (body : List ℕ) (g : TunnelFault) : Type 0 where
  pub event : g.event ≡ event.SccrqNotAcc
  pub cause : IsOfFault g.cause
  pub fault : TellsFault body g.cause
  pub kind : IsOf body kind.Sccrq

module _ (body : List ℕ) (avps : List Avp) (read : avps_of body ≡ Ok avps) (x : MessageError) (made : message_said avps ≡ Err x)
    (named : kind_said avps ≡ Some kind.Sccrq) (g : TunnelFault) where
  opening_made : (o : Option CauseOf) → fault_cause x ≡ o → closing_by kind.Sccrq avps o ≡ Some g → IsOfOpening body g
  opening_made None is h = absurd cc
  opening_made (Some c) is h =
      let same : closing event.SccrqNotAcc c 0 ≡ g = cc in
      let good : IsOfOpening body (closing event.SccrqNotAcc c 0) = record {
        event = refl;
        cause = error_cause x c is;
        fault = error_tells body x c (has_first body avps read x made) is;
        kind = is_of body avps read kind.Sccrq named;
      } in
      subst (IsOfOpening body) same good

  of_sccrq : tunnel_fault_of_kind (kind_said avps) x avps ≡ Some g → IsOfOpening body g
  of_sccrq h = opening_made (fault_cause x) refl (rw named at h)

-- the fault is of its pairs, and not of its type
pub of_opening : (body : List ℕ) (avps : List Avp) → avps_of body ≡ Ok avps → (x : MessageError) → message_said avps ≡ Err x
    → (g : TunnelFault)
    → kind_said avps ≡ Some kind.Sccrq → IsInner x → tunnel_fault_read avps (Err x) ≡ Some g → IsOfOpening body g
of_opening body avps read NoType made g named inner h = absurd inner
of_opening body avps read (UnknownType n) made g named inner h = absurd inner
of_opening body avps read (UnknownMandatory v n) made g named inner h = of_sccrq body avps read (UnknownMandatory v n) made named g h
of_opening body avps read (HiddenWithoutVector n) made g named inner h = of_sccrq body avps read (HiddenWithoutVector n) made named g h
of_opening body avps read (BadValue n) made g named inner h = of_sccrq body avps read (BadValue n) made named g h
of_opening body avps read (Missing n) made g named inner h = of_sccrq body avps read (Missing n) made named g h
of_opening body avps read NoMemory made g named inner h = of_sccrq body avps read NoMemory made named g h

-- its cause stands, where the opening is declined for it
pub opening_fault_stands : (e : End) (moment : ℕ) (ev : Event) (c : CauseOf) → IsOfFault c → CameFaultyOpening e ev c → Stands e moment ev c
opening_fault_stands e moment ev c is came = ⊎_elim
    (λ (value : c ≡ cause.Value). subst (Stands e moment ev) (sym value) (inr (inr (inl (subst (CameFaultyOpening e ev) value came)))))
    (λ (mandatory : c ≡ cause.Mandatory). subst (Stands e moment ev) (sym mandatory) (inr (inr (inl (subst (CameFaultyOpening e ev) mandatory came)))))
    is
