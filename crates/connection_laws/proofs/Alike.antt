-- What a message that was sent is read as: it, but that a request may have another Calling Number, or none that can be had.
use Rattle.std.proofs.Common.{◌≡◌, ℕ, List, refl, sym, ap, ◌∙◌, subst, Option, Some, None, Ok}
use Rattle.control_message.specs.declared.message.Message.{Message}
use Rattle.control_message.specs.declared.message.Message.TheVariants.{Sccrq, Sccrp, Scccn, StopCcn, Hello, Ocrq, Ocrp, Occn, Icrq, Icrp, Iccn, Cdn, Wen, Sli, Fsq, Fsr}
use Rattle.end_model.specs.declared.event.Addressee.TheVariants.{Opens, Stops}
use Rattle.end_model.specs.Reading.{message_in, CallFault, call_fault_in, tunnel_fault_in, at_zero}
use Rattle.step_laws.specs.Opens.{Assigns, opens_said}
use Rattle.frame_laws.specs.Plain.{without_number, AreAlike, IsReadAs, AsAMessage, AsAFault, message_there, no_fault_there, no_tunnel_fault_there, number_fault, no_message_there, fault_there, for_its_call, for_no_tunnel}
use Rattle.frame_laws.specs.Written.{IsWritten}
use Rattle.connection_laws.specs.Facts.{IsNoOpening, IsNoStop, IsStopCcn}
use Rattle.connection_laws.proofs.Stops.{TellsStop, stops_by}

-- ---- messages that are alike

abbrev pub IsNoRequest : Message → Type 0
IsNoRequest (Icrq own serial calling) = ⊥
IsNoRequest (Sccrq o) = Unit {0}
IsNoRequest (Sccrp o) = Unit {0}
IsNoRequest (Scccn response) = Unit {0}
IsNoRequest (StopCcn tunnel code error) = Unit {0}
IsNoRequest Hello = Unit {0}
IsNoRequest (Ocrq own) = Unit {0}
IsNoRequest Ocrp = Unit {0}
IsNoRequest Occn = Unit {0}
IsNoRequest (Icrp own) = Unit {0}
IsNoRequest (Iccn speed framing sequenced) = Unit {0}
IsNoRequest (Cdn own code error) = Unit {0}
IsNoRequest Wen = Unit {0}
IsNoRequest Sli = Unit {0}
IsNoRequest (Fsq sessions) = Unit {0}
IsNoRequest (Fsr sessions) = Unit {0}

-- what holds of a message whatever its Calling Number
pub record IsOfAll (P : Message → Type 0) : Type 0 where
  pub without : (m : Message) → P m → P (without_number m)
  pub again : (m : Message) → P (without_number m) → P m

pub of_all : (P : Message → Type 0) → ((own serial : ℕ) (calling : Option (List ℕ)) → P (Icrq own serial calling) → P (Icrq own serial None))
    → ((own serial : ℕ) (calling : Option (List ℕ)) → P (Icrq own serial None) → P (Icrq own serial calling)) → IsOfAll P
of_all P to back = record { without = to_all; again = back_all }
  where
    to_all : (m : Message) → P m → P (without_number m)
    to_all (Icrq own serial calling) h = to own serial calling h
    to_all (Sccrq o) h = h
    to_all (Sccrp o) h = h
    to_all (Scccn response) h = h
    to_all (StopCcn tunnel code error) h = h
    to_all Hello h = h
    to_all (Ocrq own) h = h
    to_all Ocrp h = h
    to_all Occn h = h
    to_all (Icrp own) h = h
    to_all (Iccn speed framing sequenced) h = h
    to_all (Cdn own code error) h = h
    to_all Wen h = h
    to_all Sli h = h
    to_all (Fsq sessions) h = h
    to_all (Fsr sessions) h = h

    back_all : (m : Message) → P (without_number m) → P m
    back_all (Icrq own serial calling) h = back own serial calling h
    back_all (Sccrq o) h = h
    back_all (Sccrp o) h = h
    back_all (Scccn response) h = h
    back_all (StopCcn tunnel code error) h = h
    back_all Hello h = h
    back_all (Ocrq own) h = h
    back_all Ocrp h = h
    back_all Occn h = h
    back_all (Icrp own) h = h
    back_all (Iccn speed framing sequenced) h = h
    back_all (Cdn own code error) h = h
    back_all Wen h = h
    back_all Sli h = h
    back_all (Fsq sessions) h = h
    back_all (Fsr sessions) h = h

-- then it holds of each that is alike
pub carried : (P : Message → Type 0) → IsOfAll P → (m x : Message) → AreAlike m x → P x → P m
carried P all m x alike h = all.again m (subst P (sym alike) (all.without x h))

pub no_stop_alike : (m x : Message) → AreAlike m x → IsNoStop x → IsNoStop m
no_stop_alike m x alike h = carried IsNoStop (of_all IsNoStop (λ own serial calling k. k) (λ own serial calling k. k)) m x alike h

pub no_opening_alike : (m x : Message) → AreAlike m x → IsNoOpening x → IsNoOpening m
no_opening_alike m x alike h = carried IsNoOpening (of_all IsNoOpening (λ own serial calling k. k) (λ own serial calling k. k)) m x alike h

pub stop_alike : (m x : Message) → AreAlike m x → IsStopCcn x → IsStopCcn m
stop_alike m x alike h = carried IsStopCcn (of_all IsStopCcn (λ own serial calling k. k) (λ own serial calling k. k)) m x alike h

pub alike_back : (m x : Message) → AreAlike m x → AreAlike x m
alike_back m x alike = sym alike

-- what is no request is the same
itself : (m : Message) → IsNoRequest m → without_number m ≡ m
itself (Icrq own serial calling) h = absurd h
itself (Sccrq o) h = refl
itself (Sccrp o) h = refl
itself (Scccn response) h = refl
itself (StopCcn tunnel code error) h = refl
itself Hello h = refl
itself (Ocrq own) h = refl
itself Ocrp h = refl
itself Occn h = refl
itself (Icrp own) h = refl
itself (Iccn speed framing sequenced) h = refl
itself (Cdn own code error) h = refl
itself Wen h = refl
itself Sli h = refl
itself (Fsq sessions) h = refl
itself (Fsr sessions) h = refl

no_request_alike : (m x : Message) → AreAlike m x → IsNoRequest x → IsNoRequest m
no_request_alike m x alike h =
    carried IsNoRequest (of_all IsNoRequest (λ own serial calling k. k) (λ own serial calling k. k)) m x alike h

pub same_alike : (m x : Message) → AreAlike m x → IsNoRequest x → m ≡ x
same_alike m x alike h = sym (itself m (no_request_alike m x alike h)) ∙ alike ∙ itself x h

-- one that is a request is a request for the same session
pub record IsRequestFor (m : Message) (own serial : ℕ) : Type 0 where
  pub calling : Option (List ℕ)
  pub is : m ≡ Icrq own serial calling

request_by : (m : Message) (own serial : ℕ) → without_number m ≡ Icrq own serial None → IsRequestFor m own serial
request_by (Icrq a b calling) own serial h =
    let one : a ≡ own = cc in
    let two : b ≡ serial = cc in
    record { calling = calling; is = rw (one, two) refl }
request_by (Sccrq o) own serial h = absurd cc
request_by (Sccrp o) own serial h = absurd cc
request_by (Scccn response) own serial h = absurd cc
request_by (StopCcn tunnel code error) own serial h = absurd cc
request_by Hello own serial h = absurd cc
request_by (Ocrq x) own serial h = absurd cc
request_by Ocrp own serial h = absurd cc
request_by Occn own serial h = absurd cc
request_by (Icrp x) own serial h = absurd cc
request_by (Iccn speed framing sequenced) own serial h = absurd cc
request_by (Cdn x code error) own serial h = absurd cc
request_by Wen own serial h = absurd cc
request_by Sli own serial h = absurd cc
request_by (Fsq sessions) own serial h = absurd cc
request_by (Fsr sessions) own serial h = absurd cc

pub request_alike : (m : Message) (own serial : ℕ) (calling : Option (List ℕ)) → AreAlike m (Icrq own serial calling) → IsRequestFor m own serial
request_alike m own serial calling alike = request_by m own serial alike

-- ---- what pairs are read as

module _ (m : Message) (body : List ℕ) where
  -- as a message
  pub read_alike : IsReadAs m body → (x : Message) → message_in body ≡ Ok x → AreAlike m x
  read_alike (AsAMessage avps y pairs reads written alike) x said =
      let there = message_there body avps y pairs reads in
      let same : y ≡ x = cc in
      subst (AreAlike m) same alike
  read_alike (AsAFault avps own serial number is small pairs fault kind told) x said =
      let none = no_message_there body avps own pairs fault kind told in
      absurd cc

  pub read_same : IsReadAs m body → (x : Message) → message_in body ≡ Ok x → IsNoRequest x → m ≡ x
  read_same reads x said plain = same_alike m x (read_alike reads x said) plain

  pub read_written : IsReadAs m body → (x : Message) → message_in body ≡ Ok x → IsWritten x
  read_written (AsAMessage avps y pairs reads written alike) x said =
      let there = message_there body avps y pairs reads in
      let same : y ≡ x = cc in
      subst IsWritten same written
  read_written (AsAFault avps own serial number is small pairs fault kind told) x said =
      let none = no_message_there body avps own pairs fault kind told in
      absurd cc

  -- what is no request is read as it is
  pub read_plainly : IsReadAs m body → IsNoRequest m → message_in body ≡ Ok m
  read_plainly (AsAMessage avps y pairs reads written alike) plain =
      message_there body avps y pairs reads ∙ ap (λ (q : Message). Ok q) (same_alike y m (sym alike) plain)
  read_plainly (AsAFault avps own serial number is small pairs fault kind told) plain = absurd (subst IsNoRequest is plain)

  -- what opens, and what stops
  pub read_opens : IsReadAs m body → (r : ℕ) → at_zero body ≡ Opens r → Assigns m r
  read_opens (AsAMessage avps y pairs reads written alike) r opens =
      let asks = opens_said body y r opens (message_there body avps y pairs reads) in
      (asks.0, same_alike m y alike (subst IsNoRequest (sym asks.1) tt) ∙ asks.1, asks.2, asks.3)
  read_opens (AsAFault avps own serial number is small pairs fault kind told) r opens =
      let none = for_no_tunnel body avps own pairs fault kind told in
      absurd cc

  pub read_stops : IsReadAs m body → (r : ℕ) → at_zero body ≡ Stops r → TellsStop m r
  read_stops (AsAMessage avps y pairs reads written alike) r stops =
      let tells = stops_by body y r (message_there body avps y pairs reads) stops in
      record {
        code = tells.code;
        error = tells.error;
        is = same_alike m y alike (subst IsNoRequest (sym tells.is) tt) ∙ tells.is;
        some = tells.some;
      }
  read_stops (AsAFault avps own serial number is small pairs fault kind told) r stops =
      let none = for_no_tunnel body avps own pairs fault kind told in
      absurd cc

  -- a fault is that of a request's number
  pub read_faulty : IsReadAs m body → (f : CallFault) → call_fault_in body ≡ Some f
      → (own : ℕ) × (serial : ℕ) × (number : List ℕ) × (m ≡ Icrq own serial (Some number)) × (f ≡ number_fault own)
  read_faulty (AsAMessage avps y pairs reads written alike) f found =
      let none = no_fault_there body avps y pairs reads in
      absurd cc
  read_faulty (AsAFault avps own serial number is small pairs fault kind told) f found =
      let there = fault_there body avps own pairs fault kind told in
      (own, serial, number, is, cc)

  pub read_sound : IsReadAs m body → tunnel_fault_in body ≡ None
  read_sound (AsAMessage avps y pairs reads written alike) = no_tunnel_fault_there body avps y pairs reads
  read_sound (AsAFault avps own serial number is small pairs fault kind told) = for_its_call body avps own pairs fault kind told
