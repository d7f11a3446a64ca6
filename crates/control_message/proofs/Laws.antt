-- The laws of reading: what is read is what the pairs say, what they say is read, and a fault is told exactly where it stands.
use Rattle.std.proofs.Common.{◌≡◌, ◌≢◌, ℕ, true, false, List, [], ◌∷◌, length, Option, Some, None, Result, Ok, Err, refl, sym, ap, subst, ◌∙◌, inl, inr, ◌⊎◌}
use Rattle.std.specs.Prelude.{◌==◌, IfOk, IfErr, IsNone, IfSome}
use Rattle.std.specs.List.{AllByRecursion}
use Rattle.std.proofs.lemmas.Bool.{cases_Bool, eq-eqb, ne_eqb, eqb-true, eqb-false}
use Rattle.byteorder.specs.Endian.{big_number}
use Rattle.wire_base.specs.Answers.{◌>>=◌, Gives}
use Rattle.wire_base.specs.declared.pair.Pair.{Pair}
use Rattle.avp_codec.specs.declared.avp.Avp.{Avp}
use Rattle.control_message.specs.declared.kind.Kinds.{Kinds}
use Rattle.control_message.specs.declared.kind.Kinds.TheVariants.{Base, Queries}
use Rattle.control_message.specs.declared.kind.Kind.{Kind}
use Rattle.control_message.specs.declared.kind.Kind.TheVariants as kind
use Rattle.control_message.specs.declared.kind.Shape.TheVariants.{ShortShortShort, ShortLongLong, Sixteen}
use Rattle.control_message.specs.declared.message.Message.{Message}
use Rattle.control_message.specs.declared.message.Message.TheVariants.{Sccrq, Sccrp, Scccn, StopCcn, Hello, Ocrq, Ocrp, Occn, Icrq, Icrp, Iccn, Cdn, Wen, Sli, Fsq, Fsr}
use Rattle.control_message.specs.declared.message.Recovery.{Recovery}
use Rattle.control_message.specs.declared.message.Suggested.{Suggested}
use Rattle.control_message.specs.declared.message.Read.{Read}
use Rattle.control_message.specs.declared.message.Read.TheVariants.{Known, Ignored}
use Rattle.control_message.specs.declared.message.MessageError.{MessageError}
use Rattle.control_message.specs.declared.message.MessageError.TheVariants.{NoType, UnknownType, UnknownMandatory, HiddenWithoutVector, BadValue, Missing, NoMemory}
use Rattle.control_message.specs.Table.{kinds, query_kinds, look_up, or_query, kind_of, uses_of, uses_draw}
use Rattle.control_message.specs.Reading.{Told, first, checked_all, recovery_at, suggested_at, draw_at, response_at, opening_at, of_kind, type_number, sessions_in, kind_named, kind_told, kind_by, of_type, with_type, message_by}
use Rattle.control_message.specs.Grammar.{StandsFirst, HasNumber, SaysRecovery, SaysSuggested, SaysDraw, SaysResponse, SaysMessage, number_of, IsKnownTo, Says}
use Rattle.control_message.specs.Faults.{IsOfKind, IsSound, IsFirstAlong, IsFault, IsToldFault}
use Rattle.control_message.proofs.Firsts.{absent_first, first_absent, first_stands, stands_first}
use Rattle.control_message.proofs.Along.{row_holds, is_sound, sound_is, is_first, first_is}
use Rattle.control_message.proofs.Values.{bind_ok, ok_same, IsGood, IsDrawGood, AreStatesGood, sound_known, known_sound}
use Rattle.control_message.proofs.Calls.{icrq_says, says_icrq, icrq_good, icrq_made, icrp_says, says_icrp, icrp_good, icrp_made, iccn_says, says_iccn, iccn_good, iccn_made, cdn_says, says_cdn, cdn_good, cdn_made}
use Rattle.control_message.proofs.Stops.{stop_ccn_says, says_stop_ccn, stop_ccn_good, stop_ccn_made}
use Rattle.control_message.proofs.OnlyRead.{ocrq_says, says_ocrq, ocrq_good, ocrq_made, ocrp_says, ocrp_good, wen_says, says_wen, wen_good, wen_made, sli_says, says_sli, sli_good, sli_made}
use Rattle.control_message.proofs.Needs.{Made, made_of, made_missing}
use Rattle.control_message.proofs.Recoveries.{recovery_says, says_recovery, recovery_good, some_recovery}
use Rattle.control_message.proofs.Suggestions.{suggested_says, says_suggested, suggested_good, some_suggested}
use Rattle.control_message.proofs.Draws.{draw_says, says_draw, draw_good, some_draw}
use Rattle.control_message.proofs.Responses.{response_says, says_response, response_good, some_response}
use Rattle.control_message.proofs.Sessions.{sessions_says, says_sessions, sessions_good, first_good}
use Rattle.control_message.proofs.Openings.{IsOpening, opening_says, says_opening, opening_good, opening_made}

-- ---- kinds

abbrev kind_number : Kind → ℕ
kind_number kind.Sccrq = 1
kind_number kind.Sccrp = 2
kind_number kind.Scccn = 3
kind_number kind.StopCcn = 4
kind_number kind.Hello = 6
kind_number kind.Ocrq = 7
kind_number kind.Ocrp = 8
kind_number kind.Occn = 9
kind_number kind.Icrq = 10
kind_number kind.Icrp = 11
kind_number kind.Iccn = 12
kind_number kind.Cdn = 14
kind_number kind.Wen = 15
kind_number kind.Sli = 16
kind_number kind.Fsq = 21
kind_number kind.Fsr = 22

base_number : (n : ℕ) (k : Kind) → look_up n kinds ≡ Some k → n ≡ kind_number k
base_number n k h = row_holds (λ (row : ℕ × Kind). row.0 ≡ kind_number row.1) n k kinds (refl, (refl, (refl, (refl, (refl, (refl, (refl, (refl, (refl, (refl, (refl, (refl, (refl, (refl, tt)))))))))))))) h

number_or : (known : Kinds) (n : ℕ) (k : Kind) (o : Option Kind) → look_up n kinds ≡ o → or_query o known n ≡ Some k → n ≡ kind_number k
number_or known n k (Some j) is h = base_number n k (is ∙ h)
number_or Queries n k None is h = row_holds (λ (row : ℕ × Kind). row.0 ≡ kind_number row.1) n k query_kinds (refl, (refl, tt)) h
number_or Base n k None is h = absurd cc

number_is : (known : Kinds) (n : ℕ) (k : Kind) → kind_of known n ≡ Some k → n ≡ kind_number k
number_is known n k h = number_or known n k (look_up n kinds) refl h

abbrev message_kind : Message → Kind
message_kind (Sccrq o) = kind.Sccrq
message_kind (Sccrp o) = kind.Sccrp
message_kind (Scccn response) = kind.Scccn
message_kind (StopCcn tunnel result error) = kind.StopCcn
message_kind Hello = kind.Hello
message_kind (Ocrq session) = kind.Ocrq
message_kind Ocrp = kind.Ocrp
message_kind Occn = kind.Occn
message_kind (Icrq session serial calling) = kind.Icrq
message_kind (Icrp session) = kind.Icrp
message_kind (Iccn speed framing sequenced) = kind.Iccn
message_kind (Cdn session result error) = kind.Cdn
message_kind Wen = kind.Wen
message_kind Sli = kind.Sli
message_kind (Fsq sessions) = kind.Fsq
message_kind (Fsr sessions) = kind.Fsr

kind_is : (known : Kinds) (m : Message) → IsKnownTo m known → kind_of known (number_of m) ≡ Some (message_kind m)
kind_is known (Sccrq o) is = refl
kind_is known (Sccrp o) is = refl
kind_is known (Scccn response) is = refl
kind_is known (StopCcn tunnel result error) is = refl
kind_is known Hello is = refl
kind_is known (Ocrq session) is = refl
kind_is known Ocrp is = refl
kind_is known Occn is = refl
kind_is known (Icrq session serial calling) is = refl
kind_is known (Icrp session) is = refl
kind_is known (Iccn speed framing sequenced) is = refl
kind_is known (Cdn session result error) is = refl
kind_is known Wen is = refl
kind_is known Sli is = refl
kind_is Queries (Fsq sessions) is = refl
kind_is Base (Fsq sessions) is = absurd is
kind_is Queries (Fsr sessions) is = refl
kind_is Base (Fsr sessions) is = absurd is

-- a message of a kind that the reader knows is known to it
is_known : (known : Kinds) (m : Message) (k : Kind) → kind_of known (number_of m) ≡ Some k → IsKnownTo m known
is_known Base (Fsq sessions) k h = absurd cc
is_known Base (Fsr sessions) k h = absurd cc
is_known Queries (Fsq sessions) k h = tt
is_known Queries (Fsr sessions) k h = tt
is_known known m k h = tt

sccrq_opens : IsOpening kind.Sccrq
sccrq_opens = record { version = refl; framing = refl; name = refl; tunnel = refl; window = refl; challenge = refl; failover = refl; needs = refl }

sccrp_opens : IsOpening kind.Sccrp
sccrp_opens = record { version = refl; framing = refl; name = refl; tunnel = refl; window = refl; challenge = refl; failover = refl; needs = refl }

-- ---- the message of a kind

message_says : (k : Kind) (avps : List Avp) (m : Message) → IsSound k avps → of_kind k avps ≡ Ok m → (number_of m ≡ kind_number k) × SaysMessage avps m
message_says kind.Sccrq avps m sound h =
    let r = bind_ok (recovery_at avps) _ m h in
    let d = bind_ok (draw_at avps) _ m r.2 in
    let b = bind_ok (opening_at avps None r.0 None d.0) _ m d.2 in
    let s = opening_says kind.Sccrq avps None r.0 None d.0 b.0 sccrq_opens sound b.1 in
    let recovers = subst (SaysRecovery avps) (sym s.recovery) (recovery_says kind.Sccrq avps r.0 sound refl r.1) in
    let draws = subst (SaysDraw avps) (sym s.attempt) (draw_says kind.Sccrq avps d.0 sound refl d.1) in
    subst (λ (x : Message). (number_of x ≡ 1) × SaysMessage avps x) (ok_same b.2) (refl, (s.says, recovers, draws, s.response, s.suggested))
message_says kind.Sccrp avps m sound h =
    let r = bind_ok (response_at avps) _ m h in
    let n = bind_ok (suggested_at avps) _ m r.2 in
    let d = bind_ok (draw_at avps) _ m n.2 in
    let b = bind_ok (opening_at avps r.0 None n.0 d.0) _ m d.2 in
    let s = opening_says kind.Sccrp avps r.0 None n.0 d.0 b.0 sccrp_opens sound b.1 in
    let responds = subst (SaysResponse avps) (sym s.response) (response_says kind.Sccrp avps r.0 sound refl r.1) in
    let suggests = subst (SaysSuggested avps) (sym s.suggested) (suggested_says kind.Sccrp avps n.0 sound refl n.1) in
    let draws = subst (SaysDraw avps) (sym s.attempt) (draw_says kind.Sccrp avps d.0 sound refl d.1) in
    subst (λ (x : Message). (number_of x ≡ 2) × SaysMessage avps x) (ok_same b.2) (refl, (s.says, responds, suggests, draws, s.recovery))
message_says kind.Scccn avps m sound h =
    let r = bind_ok (response_at avps) _ m h in
    subst (λ (x : Message). (number_of x ≡ 3) × SaysMessage avps x) (ok_same r.2) (refl, response_says kind.Scccn avps r.0 sound refl r.1)
message_says kind.StopCcn avps m sound h = stop_ccn_says avps m sound h
message_says kind.Hello avps m sound h = subst (λ (x : Message). (number_of x ≡ 6) × SaysMessage avps x) (ok_same h) (refl, tt)
message_says kind.Ocrq avps m sound h = ocrq_says avps m sound h
message_says kind.Ocrp avps m sound h = subst (λ (x : Message). (number_of x ≡ 8) × SaysMessage avps x) (ok_same h) (refl, ocrp_says avps sound)
message_says kind.Occn avps m sound h = subst (λ (x : Message). (number_of x ≡ 9) × SaysMessage avps x) (ok_same h) (refl, tt)
message_says kind.Icrq avps m sound h = icrq_says avps m sound h
message_says kind.Icrp avps m sound h = icrp_says avps m sound h
message_says kind.Iccn avps m sound h = iccn_says avps m sound h
message_says kind.Cdn avps m sound h = cdn_says avps m sound h
message_says kind.Wen avps m sound h = wen_says avps m sound h
message_says kind.Sli avps m sound h = sli_says avps m sound h
message_says kind.Fsq avps m sound h =
    subst (λ (x : Message). (number_of x ≡ 21) × SaysMessage avps x) (ok_same h) (refl, sessions_says kind.Fsq avps sound refl)
message_says kind.Fsr avps m sound h =
    subst (λ (x : Message). (number_of x ≡ 22) × SaysMessage avps x) (ok_same h) (refl, sessions_says kind.Fsr avps sound refl)

says_message : (avps : List Avp) (m : Message) → SaysMessage avps m → of_kind (message_kind m) avps ≡ Ok m
says_message avps (Sccrq o) h =
    let alone : opening_at avps None o.recovery o.suggested o.attempt ≡ Ok o =
    subst (λ (r : Option (List ℕ)). opening_at avps r o.recovery o.suggested o.attempt ≡ Ok o) h.3 (says_opening avps o h.0) in
    let read : opening_at avps None o.recovery None o.attempt ≡ Ok o =
    subst (λ (s : Option Suggested). opening_at avps None o.recovery s o.attempt ≡ Ok o) h.4 alone in
    rw (says_recovery avps o.recovery h.1, says_draw avps o.attempt h.2, read) refl
says_message avps (Sccrp o) h =
    let read : opening_at avps o.response None o.suggested o.attempt ≡ Ok o =
    subst (λ (r : Option Recovery). opening_at avps o.response r o.suggested o.attempt ≡ Ok o) h.4 (says_opening avps o h.0) in
    rw (says_response avps o.response h.1, says_suggested avps o.suggested h.2, says_draw avps o.attempt h.3, read) refl
says_message avps (Scccn response) h = rw (says_response avps response h) refl
says_message avps (StopCcn tunnel result error) h = says_stop_ccn avps tunnel result error h
says_message avps Hello h = refl
says_message avps (Ocrq session) h = says_ocrq avps session h
says_message avps Ocrp h = refl
says_message avps Occn h = refl
says_message avps (Icrq session serial calling) h = says_icrq avps session serial calling h
says_message avps (Icrp session) h = says_icrp avps session h
says_message avps (Iccn speed framing sequenced) h = says_iccn avps speed framing sequenced h
says_message avps (Cdn session result error) h = says_cdn avps session result error h
says_message avps Wen h = says_wen avps h
says_message avps Sli h = says_sli avps h
says_message avps (Fsq sessions) h = ap (λ (x : List Pair). Ok (Fsq x)) (says_sessions avps sessions h)
says_message avps (Fsr sessions) h = ap (λ (x : List Pair). Ok (Fsr x)) (says_sessions avps sessions h)

message_good : (avps : List Avp) (m : Message) → SaysMessage avps m → AllByRecursion (IsGood avps) (uses_of (message_kind m))
message_good avps (Sccrq o) h = opening_good avps o ((77, ShortLongLong) ∷ []) h.0 (recovery_good avps o.recovery h.1, tt)
message_good avps (Sccrp o) h =
    opening_good avps o ((13, Sixteen) ∷ (78, ShortShortShort) ∷ []) h.0 (response_good avps o.response h.1, (suggested_good avps o.suggested h.2, tt))
message_good avps (Scccn response) h = (response_good avps response h, tt)
message_good avps (StopCcn tunnel result error) h = stop_ccn_good avps tunnel result error h
message_good avps Hello h = tt
message_good avps (Ocrq session) h = ocrq_good avps session h
message_good avps Ocrp h = ocrp_good avps h
message_good avps Occn h = tt
message_good avps (Icrq session serial calling) h = icrq_good avps session serial calling h
message_good avps (Icrp session) h = icrp_good avps session h
message_good avps (Iccn speed framing sequenced) h = iccn_good avps speed framing sequenced h
message_good avps (Cdn session result error) h = cdn_good avps session result error h
message_good avps Wen h = wen_good avps h
message_good avps Sli h = sli_good avps h
message_good avps (Fsq sessions) h = (first_good avps (sessions_good kind.Fsq avps sessions refl h ShortLongLong refl), tt)
message_good avps (Fsr sessions) h = (first_good avps (sessions_good kind.Fsr avps sessions refl h ShortLongLong refl), tt)

-- a message that uses Failover Session State says each
message_states : (avps : List Avp) (m : Message) → SaysMessage avps m → AreStatesGood (message_kind m) avps
message_states avps (Fsq sessions) h = sessions_good kind.Fsq avps sessions refl h
message_states avps (Fsr sessions) h = sessions_good kind.Fsr avps sessions refl h
message_states avps m h = λ s shape before after a parts is. absurd cc

-- a message that uses a Draw Number says it
message_draw : (avps : List Avp) (m : Message) → SaysMessage avps m → uses_draw (message_kind m) ≡ true → IsDrawGood avps
message_draw avps (Sccrq o) h used = draw_good avps o.attempt h.2
message_draw avps (Sccrp o) h used = draw_good avps o.attempt h.3
message_draw avps m h used = absurd cc

message_made : (k : Kind) (avps : List Avp) → IsSound k avps → Made k avps (of_kind k avps)
message_made kind.Sccrq avps sound =
    let r = some_recovery kind.Sccrq avps sound refl in
    let d = some_draw kind.Sccrq avps sound refl in
    rw (r.1, d.1) (made_of kind.Sccrq avps (opening_at avps None r.0 None d.0) Sccrq (opening_made kind.Sccrq avps None r.0 None d.0 sccrq_opens sound))
message_made kind.Sccrp avps sound =
    let r = some_response kind.Sccrp avps sound refl in
    let s = some_suggested kind.Sccrp avps sound refl in
    let d = some_draw kind.Sccrp avps sound refl in
    rw (r.1, s.1, d.1) (made_of kind.Sccrp avps (opening_at avps r.0 None s.0 d.0) Sccrp (opening_made kind.Sccrp avps r.0 None s.0 d.0 sccrp_opens sound))
message_made kind.Scccn avps sound = let r = some_response kind.Scccn avps sound refl in inl (Scccn r.0, rw r.1 refl, tt)
message_made kind.StopCcn avps sound = stop_ccn_made avps sound
message_made kind.Hello avps sound = inl (Hello, refl, tt)
message_made kind.Ocrq avps sound = ocrq_made avps sound
message_made kind.Ocrp avps sound = inl (Ocrp, refl, tt)
message_made kind.Occn avps sound = inl (Occn, refl, tt)
message_made kind.Icrq avps sound = icrq_made avps sound
message_made kind.Icrp avps sound = icrp_made avps sound
message_made kind.Iccn avps sound = iccn_made avps sound
message_made kind.Cdn avps sound = cdn_made avps sound
message_made kind.Wen avps sound = wen_made avps
message_made kind.Sli avps sound = sli_made avps
message_made kind.Fsq avps sound = inl (Fsq (sessions_in avps), refl, tt)
message_made kind.Fsr avps sound = inl (Fsr (sessions_in avps), refl, tt)

-- ---- the type

-- a type that can be read
record IsType (avps : List Avp) (a : Avp) (n : ℕ) : Type 0 where
  first : StandsFirst 0 a avps
  plain : a.hidden ≡ false
  wide : length a.value ≡ 2
  number : big_number 2 a.value ≡ n

type_is : (avps : List Avp) (a : Avp) (n : ℕ) → first 0 avps ≡ Some a → type_number a ≡ Ok n → IsType avps a n
type_is avps a n e h =
    elim (cases_Bool a.hidden) [
      | inl hid ↦ absurd (let h' : Err NoType ≡ Ok n = rw hid at h in cc)
      | inr plain ↦ elim (cases_Bool (length a.value == 2)) [
        | inl t ↦ record { first = stands_first 0 a avps e; plain = plain; wide = eqb-true (length a.value) 2 t; number = ok_same {E = MessageError} (rw (plain, t) at h) }
        | inr f ↦ absurd (let h' : Err NoType ≡ Ok n = rw (plain, f) at h in cc)
      ]
    ]

is_type : (known : Kinds) (avps : List Avp) (a : Avp) (n : ℕ) → IsType avps a n → message_by known avps ≡ of_type n a.mandatory (kind_of known n) avps
unfolding message_by
is_type known avps a n h = rw (first_stands 0 a avps h.first, h.plain, eq-eqb (length a.value) 2 h.wide, h.number) refl

type_of_number : (avps : List Avp) (n : ℕ) (h : HasNumber 0 2 n avps) → IsType avps h.has.pair n
type_of_number avps n h = record { first = h.has.first; plain = h.has.plain; wide = ap length h.has.same ∙ h.wide; number = ap (big_number 2) h.has.same ∙ h.number }

number_of_type : (avps : List Avp) (a : Avp) (n : ℕ) → IsType avps a n → HasNumber 0 2 n avps
number_of_type avps a n h = record { value = a.value; has = record { pair = a; first = h.first; plain = h.plain; same = refl }; wide = h.wide; number = h.number }

-- ---- the kind that the type names

kind_named_in : (known : Kinds) (avps : List Avp) (n : ℕ) (k : Option Kind) → HasNumber 0 2 n avps → kind_of known n ≡ k → IfSome k (λ q. IsOfKind known avps q)
kind_named_in known avps n None has names = tt
kind_named_in known avps n (Some k) has names = record { number = n; has = has; names = names }

kind_in : (known : Kinds) (avps : List Avp) (a : Avp) (r : Result ℕ MessageError) → first 0 avps ≡ Some a → type_number a ≡ r → IfSome (kind_named known r) (λ q. IsOfKind known avps q)
kind_in known avps a (Err e) f t = tt
kind_in known avps a (Ok n) f t = kind_named_in known avps n (kind_of known n) (number_of_type avps a n (type_is avps a n f t)) refl

kind_at : (known : Kinds) (avps : List Avp) (o : Option Avp) → first 0 avps ≡ o → IfSome (kind_told known o) (λ q. IsOfKind known avps q)
kind_at known avps None f = tt
kind_at known avps (Some a) f = kind_in known avps a (type_number a) f refl

pub kind_there : (known : Kinds) (avps : List Avp) → IfSome (kind_by known avps) (λ k. IsOfKind known avps k)
unfolding kind_by
kind_there known avps = kind_at known avps (first 0 avps) refl

pub there_kind : (known : Kinds) (avps : List Avp) (k : Kind) → IsOfKind known avps k → kind_by known avps ≡ Some k
unfolding kind_by
there_kind known avps k h =
    let t = type_of_number avps h.number h.has in
    rw (first_stands 0 h.has.has.pair avps t.first, t.plain, eq-eqb (length h.has.has.pair.value) 2 t.wide, t.number, h.names) refl

pub no_kind : (known : Kinds) (avps : List Avp) → IsNone (kind_by known avps) → (k : Kind) → ¬ IsOfKind known avps k
no_kind known avps none k h = let none' : IsNone (Some k) = rw (there_kind known avps k h) at none in absurd cc

none_of : (known : Kinds) (avps : List Avp) (o : Option Kind) → IfSome o (λ k. IsOfKind known avps k) → ((k : Kind) → ¬ IsOfKind known avps k) → IsNone o
none_of known avps None h none = refl
none_of known avps (Some k) h none = absurd (none k h)

pub kind_none : (known : Kinds) (avps : List Avp) → ((k : Kind) → ¬ IsOfKind known avps k) → IsNone (kind_by known avps)
kind_none known avps none = none_of known avps (kind_by known avps) (kind_there known avps) none

-- ---- what is read is what the pairs say

found_message : (known : Kinds) (avps : List Avp) (r : Read) (a : Avp) (n : ℕ) (k : Kind) → IsType avps a n → kind_of known n ≡ Some k → (checked_all k [] avps >>= λ _. of_kind k avps >>= λ m. Ok (Known m)) ≡ Ok r → Says known avps r
found_message known avps r a n k t names h =
    let c = bind_ok (checked_all k [] avps) _ r h in
    let m = bind_ok (of_kind k avps) _ r c.2 in
    let sound = is_sound k avps c.1 in
    let s = message_says k avps m.0 sound m.1 in
    let number : n ≡ number_of m.0 = number_is known n k names ∙ sym s.0 in
    let kind = is_known known m.0 k (ap (kind_of known) (sym number) ∙ names) in
    subst (Says known avps) (ok_same m.2) (record { kind = kind; number = subst (λ (x : ℕ). HasNumber 0 2 x avps) number (number_of_type avps a n t); known = sound_known k avps sound; says = s.1 })

found_kind : (known : Kinds) (avps : List Avp) (r : Read) (a : Avp) (n : ℕ) (k : Option Kind) → IsType avps a n → kind_of known n ≡ k → of_type n a.mandatory k avps ≡ Ok r → Says known avps r
found_kind known avps r a n None t names h =
    elim (cases_Bool a.mandatory) [
      | inl m ↦ absurd (let h' : Err (UnknownType n) ≡ Ok r = rw m at h in cc)
      | inr m ↦
          let same : Ignored n ≡ r = ok_same {E = MessageError} (rw m at h) in
          subst (Says known avps) same (record { pair = a; first = t.first; plain = t.plain; wide = t.wide; number = t.number; unknown = names; optional = m })
    ]
found_kind known avps r a n (Some k) t names h = found_message known avps r a n k t names h

found_first : (known : Kinds) (avps : List Avp) (r : Read) (o : Option Avp) → first 0 avps ≡ o → with_type known o avps ≡ Ok r → Says known avps r
found_first known avps r None e h = absurd cc
found_first known avps r (Some a) e h =
    let n = bind_ok (type_number a) _ r h in
    found_kind known avps r a n.0 (kind_of known n.0) (type_is avps a n.0 e n.1) refl n.2

pub found : (known : Kinds) (avps : List Avp) (r : Read) → message_by known avps ≡ Ok r → Says known avps r
unfolding message_by
found known avps r h = found_first known avps r (first 0 avps) refl h

-- ---- what the pairs say is read

pub only : (known : Kinds) (avps : List Avp) (r : Read) → Says known avps r → message_by known avps ≡ Ok r
only known avps (Known m) h =
    let t = type_of_number avps (number_of m) h.number in
    let sound = known_sound (message_kind m) avps h.known (message_good avps m h.says) (message_states avps m h.says) (message_draw avps m h.says) in
    is_type known avps h.number.has.pair (number_of m) t ∙ rw (kind_is known m h.kind, sound_is (message_kind m) avps sound, says_message avps m h.says) refl
only known avps (Ignored n) h =
    let t : IsType avps h.pair n = record { first = h.first; plain = h.plain; wide = h.wide; number = h.number } in
    is_type known avps h.pair n t ∙ rw (h.unknown, h.optional) refl

-- ---- a fault that is told stands there

along_fault : (known : Kinds) (avps : List Avp) (k : Kind) (e : MessageError) → IsOfKind known avps k → IsFirstAlong k avps e → IsFault known avps e
along_fault known avps k (UnknownMandatory v n) is h = (k, is, h)
along_fault known avps k (HiddenWithoutVector n) is h = (k, is, h)
along_fault known avps k (BadValue n) is h = (k, is, h)
along_fault known avps k e is h = absurd h.wrong

fault_made : (known : Kinds) (avps : List Avp) (k : Kind) (e : MessageError) → IsOfKind known avps k → IsSound k avps → Made k avps (of_kind k avps) → (of_kind k avps >>= λ m. Ok (Known m)) ≡ Err e → IsFault known avps e
fault_made known avps k e is sound (inl made) h = absurd (let h' : Ok (Known made.0) ≡ Err e = rw made.1 at h in cc)
fault_made known avps k e is sound (inr missing) h =
    let same : Missing missing.0 ≡ e = let h' : Err (Missing missing.0) ≡ Err e = rw missing.1 at h in cc in
    subst (IsFault known avps) same (k, is, (sound, missing.2))

fault_along : (known : Kinds) (avps : List Avp) (k : Kind) (e : MessageError) (r : Result (Unit {0}) MessageError) → IsOfKind known avps k → checked_all k [] avps ≡ r → (r >>= λ _. of_kind k avps >>= λ m. Ok (Known m)) ≡ Err e → IsFault known avps e
fault_along known avps k e (Ok u) is c h = let sound = is_sound k avps c in fault_made known avps k e is sound (message_made k avps sound) h
fault_along known avps k e (Err q) is c h = let same : q ≡ e = cc in along_fault known avps k e is (is_first k avps e (c ∙ ap (λ (x : MessageError). Err x) same))

fault_kind : (known : Kinds) (avps : List Avp) (e : MessageError) (a : Avp) (n : ℕ) (k : Option Kind) → IsType avps a n → kind_of known n ≡ k → of_type n a.mandatory k avps ≡ Err e → IsFault known avps e
fault_kind known avps e a n None t names h =
    elim (cases_Bool a.mandatory) [
      | inl m ↦
          let same : UnknownType n ≡ e = let h' : Err (UnknownType n) ≡ Err e = rw m at h in cc in
          subst (IsFault known avps) same (record { pair = a; first = t.first; plain = t.plain; wide = t.wide; number = t.number; unknown = names; mandatory = m })
      | inr m ↦ absurd (let h' : Ok (Ignored n) ≡ Err e = rw m at h in cc)
    ]
fault_kind known avps e a n (Some k) t names h = fault_along known avps k e (checked_all k [] avps) (record { number = n; has = number_of_type avps a n t; names = names }) refl h

-- why a type can't be read
type_fault : (a : Avp) (q : MessageError) → type_number a ≡ Err q → (q ≡ NoType) × ((a.hidden ≡ true) ⊎ (length a.value ≢ 2))
type_fault a q h =
    elim (cases_Bool a.hidden) [
      | inl hid ↦ (let h' : Err NoType ≡ Err q = rw hid at h in cc, inl hid)
      | inr plain ↦ elim (cases_Bool (length a.value == 2)) [
        | inl t ↦ absurd (let h' : Ok (big_number 2 a.value) ≡ Err q = rw (plain, t) at h in cc)
        | inr f ↦ (let h' : Err NoType ≡ Err q = rw (plain, f) at h in cc, inr (eqb-false (length a.value) 2 f))
      ]
    ]

fault_type : (known : Kinds) (avps : List Avp) (e : MessageError) (a : Avp) (r : Result ℕ MessageError) → first 0 avps ≡ Some a → type_number a ≡ r → (r >>= λ n. of_type n a.mandatory (kind_of known n) avps) ≡ Err e → IsFault known avps e
fault_type known avps e a (Ok n) f t h = fault_kind known avps e a n (kind_of known n) (type_is avps a n f t) refl h
fault_type known avps e a (Err q) f t h =
    let why = type_fault a q t in
    let same : NoType ≡ e = let p = why.0 in cc in
    subst (IsFault known avps) same (inr (a, stands_first 0 a avps f, why.1))

fault_first : (known : Kinds) (avps : List Avp) (e : MessageError) (o : Option Avp) → first 0 avps ≡ o → with_type known o avps ≡ Err e → IsFault known avps e
fault_first known avps e None f h = let same : NoType ≡ e = let h' : Err NoType ≡ Err e = h in cc in subst (IsFault known avps) same (inl (first_absent 0 avps f))
fault_first known avps e (Some a) f h = fault_type known avps e a (type_number a) f refl h

pub fault : (known : Kinds) (avps : List Avp) (e : MessageError) → message_by known avps ≡ Err e → IsFault known avps e
unfolding message_by
fault known avps e h = fault_first known avps e (first 0 avps) refl h

-- ---- a fault that stands there is told

with_kind : (known : Kinds) (avps : List Avp) (k : Kind) → IsOfKind known avps k → message_by known avps ≡ (checked_all k [] avps >>= λ _. of_kind k avps >>= λ m. Ok (Known m))
with_kind known avps k is = is_type known avps is.has.has.pair is.number (type_of_number avps is.number is.has) ∙ rw is.names refl

told_along : (known : Kinds) (avps : List Avp) (k : Kind) (e : MessageError) → IsOfKind known avps k → IsFirstAlong k avps e → message_by known avps ≡ Err e
told_along known avps k e is h = with_kind known avps k is ∙ rw (first_is k avps e h) refl

told_type : (a : Avp) → ((a.hidden ≡ true) ⊎ (length a.value ≢ 2)) → type_number a ≡ Err NoType
told_type a (inl hid) = rw hid refl
told_type a (inr wide) =
    elim (cases_Bool a.hidden) [
      | inl hid ↦ rw hid refl
      | inr plain ↦ rw (plain, ne_eqb (length a.value) 2 wide) refl
    ]

pub told : (known : Kinds) (avps : List Avp) (e : MessageError) → IsFault known avps e → message_by known avps ≡ Err e
unfolding message_by
told known avps NoType (inl absent) = rw (absent_first 0 avps absent) refl
told known avps NoType (inr h) = rw (first_stands 0 h.0 avps h.1, told_type h.0 h.2) refl
told known avps (UnknownType n) h =
    let t : IsType avps h.pair n = record { first = h.first; plain = h.plain; wide = h.wide; number = h.number } in
    is_type known avps h.pair n t ∙ rw (h.unknown, h.mandatory) refl
told known avps (UnknownMandatory v n) h = told_along known avps h.0 (UnknownMandatory v n) h.1 h.2
told known avps (HiddenWithoutVector n) h = told_along known avps h.0 (HiddenWithoutVector n) h.1 h.2
told known avps (BadValue n) h = told_along known avps h.0 (BadValue n) h.1 h.2
told known avps (Missing n) h =
    let sound = h.2.0 in
    with_kind known avps h.0 h.1 ∙ rw (sound_is h.0 avps sound, made_missing h.0 avps (of_kind h.0 avps) n h.2.1 (message_made h.0 avps sound)) refl
told known avps NoMemory h = absurd h

-- ---- of what a call answered

pub is_found : (known : Kinds) (avps : List Avp) (r : Result Read MessageError) → Gives Told (λ x. x) r (message_by known avps) → IfOk r (Says known avps)
is_found known avps (Ok r) given = found known avps r given
is_found known avps (Err e) given = tt

pub is_told : (known : Kinds) (avps : List Avp) (r : Result Read MessageError) → Gives Told (λ x. x) r (message_by known avps) → IfErr r (IsToldFault known avps)
is_told known avps (Ok r) given = tt
is_told known avps (Err NoMemory) given = tt
is_told known avps (Err e) given = fault known avps e given

pub found_only : (known : Kinds) (avps : List Avp) (r : Result Read MessageError) (x : Read) → Says known avps x → Gives Told (λ y. y) r (message_by known avps) → Gives Told (λ y. y) r (Ok x)
found_only known avps r x h given = subst (λ (q : Result Read MessageError). Gives Told (λ y. y) r q) (only known avps x h) given

pub found_told : (known : Kinds) (avps : List Avp) (r : Result Read MessageError) (e : MessageError) → IsFault known avps e → Gives Told (λ y. y) r (message_by known avps) → Gives Told (λ y. y) r (Err e)
found_told known avps r e h given = subst (λ (q : Result Read MessageError). Gives Told (λ y. y) r q) (told known avps e h) given
