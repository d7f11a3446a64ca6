-- What an end reads of what another one sends, whatever secret it reads it with: what isn't hidden is the same, and a request whose number
-- is hidden is that request, with some number, or with one that can't be had.
use Rattle.std.proofs.Common.{◌≡◌, ℕ, ◌^◌, ◌<◌, ◌≤◌, true, false, List, [], ◌∷◌, ◌++◌, length, refl, ap, ◌∙◌, Option, Some, None, Ok, Err, inl, inr, arith}
use Rattle.std.proofs.lemmas.Bool.{cases_Bool, le-leb}
use Rattle.wire_base.specs.declared.cause.Cause.TheVariants as cause
use Rattle.wire_base.specs.declared.why.Why.TheVariants as why
use Rattle.l2tp_header.specs.declared.header.Header.{Header}
use Rattle.l2tp_header.specs.Again.{control_header}
use Rattle.l2tp_header.specs.Grammar.{FitsWord}
use Rattle.l2tp_header.specs.Spelling.{control_bytes, data_bytes}
use Rattle.wire_base.specs.declared.pair.Pair.{Pair}
use Rattle.avp_codec.specs.declared.avp.Avp.{Avp}
use Rattle.avp_codec.specs.Spelling.{spelling}
use Rattle.avp_codec.specs.Reading.{avps_of}
use Rattle.control_message.specs.declared.message.Message.{Message}
use Rattle.control_message.specs.declared.message.Message.TheVariants.{Sccrq, Sccrp, Scccn, StopCcn, Hello, Ocrq, Ocrp, Occn, Icrq, Icrp, Iccn, Cdn, Wen, Sli, Fsq, Fsr}
use Rattle.control_message.specs.declared.message.Opening.{Opening}
use Rattle.control_message.specs.declared.message.Failover.{Failover}
use Rattle.control_message.specs.declared.message.Recovery.{Recovery}
use Rattle.control_message.specs.declared.message.Suggested.{Suggested}
use Rattle.control_message.specs.declared.message.MessageError.TheVariants.{BadValue}
use Rattle.control_message.specs.declared.message.Read.TheVariants.{Known}
use Rattle.control_message.specs.declared.kind.Kind.TheVariants as kind
use Rattle.control_message.specs.HiddenRequests.{IsReadAnyway, WithANumber, WithoutANumber, hidden_pairs, ReadsAnyway}
use Rattle.control_message.specs.Pairs.{pairs_of, failover_pairs, recovery_pairs, suggested_pairs, draw_pairs, recovering_pairs, challenge_pairs, response_pairs, secret_pairs, opening_pairs, session_pairs, IsWrittenWith}
use Rattle.control_message.specs.Reading.{plain_short}
use Rattle.control_message.specs.Uncovering.{uncovered}
use Rattle.end_model.specs.Secrets.{has_hidden, uncovered_pairs, uncovered_by, uncovered_datagram}
use Rattle.end_model.specs.declared.event.Addressee.TheVariants.{Nobody}
use Rattle.end_model.specs.declared.tunnel.Config.{Config}
use Rattle.end_model.specs.Channels.{letter_as}
use Rattle.end_model.specs.Messages.{request_of}
use Rattle.end_names.specs.Names.{calling_number}
use Rattle.end_model.specs.Reading.{message_in, pairs_read, message_read, CallFault, call_fault_in, fault_of_pairs, tunnel_fault_in, tunnel_fault_of_pairs, at_zero, zero_pairs, zero_read, message_said, kind_said}
use Rattle.step_laws.specs.Hides.{HidesNumber, InPlain, ByVector}
use Rattle.frame_laws.specs.Codecs.{Codecs}
use Rattle.frame_laws.specs.Written.{IsWritten}
use Rattle.frame_laws.specs.Said.{known_said, bad_value_said, kind_known}

-- two lists of which neither hides a value hide none
both_plain : (v w : List Avp) → has_hidden v ≡ false → has_hidden w ≡ false → has_hidden (v ++ w) ≡ false
both_plain [] w h k = k
both_plain (a ∷ v) w h k =
    elim (cases_Bool a.hidden) [
      | inl t ↦ absurd (let h' : true ≡ false = rw t at h in cc)
      | inr f ↦ rw f (both_plain v w (rw f at h) k)
    ]

-- what an opening tells, where it tells it, is plain
failover_plain : (f : Option Failover) → has_hidden (failover_pairs f) ≡ false
failover_plain None = refl
failover_plain (Some f) = refl

recovery_plain : (r : Option Recovery) → has_hidden (recovery_pairs r) ≡ false
recovery_plain None = refl
recovery_plain (Some r) = refl

suggested_plain : (s : Option Suggested) → has_hidden (suggested_pairs s) ≡ false
suggested_plain None = refl
suggested_plain (Some s) = refl

draw_plain : (d : Option ℕ) → has_hidden (draw_pairs d) ≡ false
draw_plain None = refl
draw_plain (Some x) = refl

challenge_plain : (c : Option (List ℕ)) → has_hidden (challenge_pairs c) ≡ false
challenge_plain None = refl
challenge_plain (Some v) = refl

response_plain : (r : Option (List ℕ)) → has_hidden (response_pairs r) ≡ false
response_plain None = refl
response_plain (Some v) = refl

opening_plain : (number : ℕ) (o : Opening) → has_hidden (opening_pairs number o) ≡ false
opening_plain number o =
    let two = both_plain (recovery_pairs o.recovery) (suggested_pairs o.suggested) (recovery_plain o.recovery) (suggested_plain o.suggested) in
    let recovering = both_plain (recovery_pairs o.recovery ++ suggested_pairs o.suggested) (draw_pairs o.attempt) two (draw_plain o.attempt) in
    let secrets = both_plain (challenge_pairs o.challenge) (response_pairs o.response) (challenge_plain o.challenge) (response_plain o.response) in
    let both = both_plain (failover_pairs o.failover) (recovering_pairs o) (failover_plain o.failover) recovering in
    both_plain (failover_pairs o.failover ++ recovering_pairs o) (secret_pairs o) both secrets

sessions_plain : (sessions : List Pair) → has_hidden (session_pairs sessions) ≡ false
sessions_plain [] = refl
sessions_plain (p ∷ sessions) = sessions_plain sessions

-- no pair of a message that is written without a vector is hidden
pub hides_nothing : (m : Message) → has_hidden (pairs_of m) ≡ false
hides_nothing (Sccrq o) = opening_plain 1 o
hides_nothing (Sccrp o) = opening_plain 2 o
hides_nothing (Scccn None) = refl
hides_nothing (Scccn (Some r)) = refl
hides_nothing (StopCcn tunnel code error) = refl
hides_nothing Hello = refl
hides_nothing (Ocrq own) = refl
hides_nothing Ocrp = refl
hides_nothing Occn = refl
hides_nothing (Icrq own serial None) = refl
hides_nothing (Icrq own serial (Some calling)) = refl
hides_nothing (Icrp own) = refl
hides_nothing (Iccn speed framing sequenced) = refl
hides_nothing (Cdn own code error) = refl
hides_nothing Wen = refl
hides_nothing Sli = refl
hides_nothing (Fsq sessions) = sessions_plain sessions
hides_nothing (Fsr sessions) = sessions_plain sessions

-- ---- messages that hide a value

-- the pairs of a request whose Calling Number is hidden by some secret, as they are spelled
pub record HidesItsNumber (m : Message) (pairs : List ℕ) : Type 0 where
  pub own : ℕ
  pub serial : ℕ
  pub number : List ℕ
  pub secret : List ℕ
  pub vector : List ℕ
  pub is : m ≡ Icrq own serial (Some number)
  pub written : IsWrittenWith (Some secret) (Some vector) (Icrq own serial (Some number))
  pub are : pairs ≡ spelling (hidden_pairs secret vector number own serial)

-- no other message hides a value
abbrev pub HidesOk : Message → Option (List ℕ) → Type 0
HidesOk m None = Unit {0}
HidesOk m (Some pairs) = HidesItsNumber m pairs

-- a request apart from its Calling Number, which no end uses; every other message as it is
abbrev pub without_number : Message → Message
without_number (Icrq own serial calling) = Icrq own serial None
without_number (Sccrq o) = Sccrq o
without_number (Sccrp o) = Sccrp o
without_number (Scccn response) = Scccn response
without_number (StopCcn tunnel result error) = StopCcn tunnel result error
without_number Hello = Hello
without_number (Ocrq own) = Ocrq own
without_number Ocrp = Ocrp
without_number Occn = Occn
without_number (Icrp own) = Icrp own
without_number (Iccn speed framing sequenced) = Iccn speed framing sequenced
without_number (Cdn own result error) = Cdn own result error
without_number Wen = Wen
without_number Sli = Sli
without_number (Fsq sessions) = (Fsq sessions)
without_number (Fsr sessions) = (Fsr sessions)

-- two messages that are the same but for a Calling Number
abbrev pub AreAlike : Message → Message → Type 0
AreAlike m x = without_number m ≡ without_number x

-- what the pairs of a message that was sent are read as: it, or the same request with another number, or one without a number
pub data IsReadAs (m : Message) (body : List ℕ) : Type 0 where
  AsAMessage : (avps : List Avp) (x : Message) → avps_of body ≡ Ok avps → message_said avps ≡ Ok (Known x) → IsWritten x → AreAlike m x
      → IsReadAs m body
  AsAFault : (avps : List Avp) (own serial : ℕ) (number : List ℕ) → m ≡ Icrq own serial (Some number) → own < 2 ^ 16 → avps_of body ≡ Ok avps
      → message_said avps ≡ Err (BadValue 22) → kind_said avps ≡ Some kind.Icrq → plain_short 14 avps ≡ Some own → IsReadAs m body

-- a request that an end makes
pub number_hides : (c : Config) (session : ℕ) (who : List ℕ) (hidden : Option (List ℕ)) → session < 65536 → length (calling_number who) ≡ 12
    → HidesNumber c session who hidden → HidesOk (request_of session who) hidden
number_hides c session who hidden fits digits (InPlain why none) = rw none tt
number_hides c session who hidden fits digits (ByVector secret vector hides has sized is) = rw is (record {
  own = session;
  serial = session;
  number = calling_number who;
  secret = secret;
  vector = vector;
  is = refl;
  written = ((omega (arith, fits), omega (arith, fits), omega (arith, digits)), record { sized = sized; secret_there = refl; fits = omega (arith, digits) });
  are = refl;
})

-- ---- what is read in such pairs

-- a message that can be read
module _ (body : List ℕ) (avps : List Avp) (x : Message) (pairs : avps_of body ≡ Ok avps) (reads : message_said avps ≡ Ok (Known x)) where
  pub message_there : message_in body ≡ Ok x
  unfolding message_in pairs_read message_read
  message_there = rw (pairs, reads) refl

  pub no_fault_there : call_fault_in body ≡ None
  unfolding call_fault_in fault_of_pairs
  no_fault_there = rw (pairs, reads) refl

  pub no_tunnel_fault_there : tunnel_fault_in body ≡ None
  unfolding tunnel_fault_in tunnel_fault_of_pairs
  no_tunnel_fault_there = rw (pairs, reads) refl

  pub zero_there : at_zero body ≡ zero_read avps (Ok (Known x))
  unfolding at_zero zero_pairs
  zero_there = rw (pairs, reads) refl

-- the fault of a request whose number can't be had
abbrev pub number_fault : ℕ → CallFault
number_fault own = record { kind = kind.Icrq; cause = cause.Value; session = Some own }

module _ (body : List ℕ) (avps : List Avp) (own : ℕ) (pairs : avps_of body ≡ Ok avps) (fault : message_said avps ≡ Err (BadValue 22))
    (kind_is : kind_said avps ≡ Some kind.Icrq) (told : plain_short 14 avps ≡ Some own) where
  pub no_message_there : message_in body ≡ Err why.Avp
  unfolding message_in pairs_read message_read
  no_message_there = rw (pairs, fault) refl

  pub fault_there : call_fault_in body ≡ Some (number_fault own)
  unfolding call_fault_in fault_of_pairs
  fault_there = rw (pairs, fault, kind_is, told) refl

  pub for_its_call : tunnel_fault_in body ≡ None
  unfolding tunnel_fault_in tunnel_fault_of_pairs
  for_its_call = rw (pairs, fault, kind_is, told) refl

  pub for_no_tunnel : at_zero body ≡ Nobody why.Tunnel
  unfolding at_zero zero_pairs zero_read
  for_no_tunnel = rw (pairs, fault, kind_is) refl

-- ---- datagrams

-- where no pair is hidden
none_uncovered : (secret bytes : List ℕ) (h : Header) (avps : List Avp) → has_hidden avps ≡ false → uncovered_pairs secret bytes h (Ok avps) ≡ bytes
none_uncovered secret bytes h avps none = rw none refl

module _ (codecs : Codecs) (secret : Option (List ℕ)) where
  -- a control message whose pairs are plain
  pub stays_plain : (tunnel session ns nr : ℕ) (pairs : List ℕ) (avps : List Avp) → tunnel < 65536 → session < 65536 → ns < 65536 → nr < 65536
      → length pairs ≤ 65523 → avps_of pairs ≡ Ok avps → has_hidden avps ≡ false
      → uncovered_datagram secret (control_bytes tunnel session ns nr pairs) ≡ control_bytes tunnel session ns nr pairs
  unfolding uncovered_datagram
  stays_plain tunnel session ns nr pairs avps t s a b le read none = by secret
    where
      by : (k : Option (List ℕ)) → uncovered_datagram k (control_bytes tunnel session ns nr pairs) ≡ control_bytes tunnel session ns nr pairs
      by None = refl
      by (Some k) =
          let bytes = control_bytes tunnel session ns nr pairs in
          let c = codecs.control tunnel session ns nr pairs t s a b le in
          let h = control_header tunnel session ns nr (length pairs) in
          ap (uncovered_by k bytes) c.reads ∙ (ap (uncovered_pairs k bytes h) (ap avps_of c.bounds ∙ read) ∙ none_uncovered k bytes h avps none)

  -- one that spells a message
  pub letter_stays : (tunnel session ns nr : ℕ) (m : Message) → tunnel < 65536 → session < 65536 → ns < 65536 → nr < 65536 → IsWritten m
      → uncovered_datagram secret (control_bytes tunnel session ns nr (spelling (pairs_of m))) ≡ control_bytes tunnel session ns nr (spelling (pairs_of m))
  letter_stays tunnel session ns nr m t s a b w =
      stays_plain tunnel session ns nr (spelling (pairs_of m)) (pairs_of m) t s a b (codecs.room m w) (codecs.message m w).0 (hides_nothing m)

  -- a datagram of pairs, as it is read
  pub record IsUncovered (tunnel session ns nr : ℕ) (m : Message) (pairs : List ℕ) : Type 0 where
    pub body : List ℕ
    pub few : length body ≤ 65523
    pub is : uncovered_datagram secret (control_bytes tunnel session ns nr pairs) ≡ control_bytes tunnel session ns nr body
    pub reads : IsReadAs m body

  -- a request whose number is hidden
  request_uncovered : (tunnel session ns nr : ℕ) (m : Message) (pairs : List ℕ) → tunnel < 65536 → session < 65536 → ns < 65536 → nr < 65536
      → HidesItsNumber m pairs → IsUncovered tunnel session ns nr m pairs
  unfolding uncovered_datagram
  request_uncovered tunnel session ns nr m pairs t s a b h = record {
    body = spelling (uncovered secret hiding);
    few = read.room;
    is = rw h.are (is secret read.room);
    reads = by read.read;
  }
    where
      hiding : List Avp
      hiding = hidden_pairs h.secret h.vector h.number h.own h.serial

      read : ReadsAnyway secret h.secret h.vector h.number h.own h.serial
      read = codecs.hidden secret h.secret h.vector h.number h.own h.serial h.written

      plainly : ReadsAnyway None h.secret h.vector h.number h.own h.serial
      plainly = codecs.hidden None h.secret h.vector h.number h.own h.serial h.written

      again : avps_of (spelling (uncovered secret hiding)) ≡ Ok (uncovered secret hiding)
      again = codecs.pairs (uncovered secret hiding) read.fit

      by : IsReadAnyway h.own h.serial (uncovered secret hiding) → IsReadAs m (spelling (uncovered secret hiding))
      by (WithANumber other short reads) =
          AsAMessage (uncovered secret hiding) (Icrq h.own h.serial (Some other)) again
          (known_said (uncovered secret hiding) (Icrq h.own h.serial (Some other)) reads) (h.written.0.0, h.written.0.1, short)
          (rw h.is refl)
      by (WithoutANumber fault named told) =
          AsAFault (uncovered secret hiding) h.own h.serial h.number h.is h.written.0.0 again
          (bad_value_said (uncovered secret hiding) 22 fault) (kind_known (uncovered secret hiding) kind.Icrq named) told

      bytes : List ℕ
      bytes = control_bytes tunnel session ns nr (spelling hiding)

      is : (k : Option (List ℕ)) → length (spelling (uncovered k hiding)) ≤ 65523
          → uncovered_datagram k bytes ≡ control_bytes tunnel session ns nr (spelling (uncovered k hiding))
      is None few = refl
      is (Some k) few =
          let c = codecs.control tunnel session ns nr (spelling hiding) t s a b plainly.room in
          let header = control_header tunnel session ns nr (length (spelling hiding)) in
          ap (uncovered_by k bytes) c.reads
          ∙ (ap (uncovered_pairs k bytes header) (ap avps_of c.bounds ∙ codecs.pairs hiding plainly.fit)
          ∙ (rw (le-leb (length (spelling (uncovered (Some k) hiding))) 65523 few) refl))

  -- a letter as its channel keeps it
  pub letter_uncovered : (tunnel session ns nr : ℕ) (m : Message) (hidden : Option (List ℕ)) → tunnel < 65536 → session < 65536 → ns < 65536 → nr < 65536
      → IsWritten m → HidesOk m hidden → IsUncovered tunnel session ns nr m (letter_as session m hidden).avps
  letter_uncovered tunnel session ns nr m None t s a b w h = record {
    body = spelling (pairs_of m);
    few = codecs.room m w;
    is = letter_stays tunnel session ns nr m t s a b w;
    reads = AsAMessage (pairs_of m) m (codecs.message m w).0 (codecs.message m w).1 w refl;
  }
  letter_uncovered tunnel session ns nr m (Some pairs) t s a b w h = request_uncovered tunnel session ns nr m pairs t s a b h

  -- and a data message
  pub frame_stays : (tunnel session : ℕ) (number : Option ℕ) (frame : List ℕ) → tunnel < 65536 → session < 65536 → FitsWord number
      → uncovered_datagram secret (data_bytes tunnel session number frame) ≡ data_bytes tunnel session number frame
  unfolding uncovered_datagram
  frame_stays tunnel session number frame t s fits = by secret
    where
      by : (k : Option (List ℕ)) → uncovered_datagram k (data_bytes tunnel session number frame) ≡ data_bytes tunnel session number frame
      by None = refl
      by (Some k) = ap (uncovered_by k (data_bytes tunnel session number frame)) (codecs.frame tunnel session number frame t s fits).reads
