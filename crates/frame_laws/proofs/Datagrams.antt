-- What the bytes of a datagram that an end sends are read as.
use Rattle.std.proofs.Common.{◌≡◌, ◌⊎◌, ⊎_elim, ℕ, ◌<◌, ◌≤◌, Bool, true, false, cond, List, [], length, refl, sym, ap, ◌∙◌, subst, Option, Some, None, Ok, arith}
use Rattle.std.proofs.lemmas.Bool.{true≢false}
use Rattle.std.specs.Prelude.{◌==◌, is_some}
use Rattle.wire_base.specs.declared.why.Why.TheVariants as why
use Rattle.wire_base.specs.declared.cause.Cause.TheVariants as cause
use Rattle.l2tp_header.specs.declared.header.Header.{Header}
use Rattle.l2tp_header.specs.Again.{Carries, control_header}
use Rattle.l2tp_header.specs.Grammar.{FitsWord}
use Rattle.l2tp_header.specs.Spelling.{control_bytes, data_bytes}
use Rattle.l2tp_header.specs.Reading.{header_of, body_of}
use Rattle.avp_codec.specs.declared.avp.Avp.{Avp}
use Rattle.avp_codec.specs.Spelling.{spelling}
use Rattle.avp_codec.specs.Reading.{avps_of}
use Rattle.control_message.specs.Pairs.{pairs_of}
use Rattle.control_message.specs.Pairs as codec
use Rattle.control_message.specs.declared.message.Message.{Message}
use Rattle.control_message.specs.declared.message.Message.TheVariants.{Sccrq, Sccrp, Scccn, StopCcn, Hello, Ocrq, Ocrp, Occn, Icrq, Icrp, Iccn, Cdn, Wen, Sli, Fsq, Fsr}
use Rattle.control_message.specs.declared.message.Read.TheVariants.{Known}
use Rattle.control_message.specs.Reading.{message_by, kind_by}
use Rattle.recv_window.specs.Window.{on_wire}
use Rattle.tunnel_fsm.specs.declared.table.TunnelEvent.TheVariants as event
use Rattle.end_model.specs.declared.event.Addressee.{Addressee}
use Rattle.end_model.specs.declared.event.Addressee.TheVariants.{Opens, Recovers, Stops, Answers, Nobody}
use Rattle.end_model.specs.Channels.{letter_as}
use Rattle.end_model.specs.Reading.{message_said, message_in, pairs_read, message_read, CallFault, call_fault_in, fault_of_pairs, TunnelFault, tunnel_fault_in, tunnel_fault_of_pairs, closing, at_zero, zero_pairs, zero_read}
use Rattle.frame_laws.specs.Codecs.{Codecs}
use Rattle.frame_laws.specs.Plain.{HidesOk, without_number, AreAlike, hides_nothing, IsReadAs, AsAMessage, AsAFault, message_there, no_fault_there, no_tunnel_fault_there, zero_there, number_fault, no_message_there, fault_there, for_its_call, for_no_tunnel, stays_plain, letter_uncovered, frame_stays}
use Rattle.frame_laws.specs.Past.{Passage}
use Rattle.frame_laws.specs.Written.{IsWritten}
use Rattle.frame_laws.proofs.Whole.{whole}
use Rattle.frame_laws.proofs.Facts.{Nodes, ReadOk, BytesOk, WasSentInCall, NamesItsCall}

-- a request with another number names the same call
names_alike : (nodes : Nodes) (from to session : ℕ) (m x : Message) → AreAlike m x → NamesItsCall nodes from to session m
    → NamesItsCall nodes from to session x
names_alike nodes from to session m x alike names =
    names_without nodes from to session x (subst (NamesItsCall nodes from to session) alike (names_with nodes from to session m names))
  where
    names_with : (nodes : Nodes) (from to session : ℕ) (m : Message) → NamesItsCall nodes from to session m
        → NamesItsCall nodes from to session (without_number m)
    names_with nodes from to session (Icrq own serial calling) names = names
    names_with nodes from to session (Sccrq o) names = names
    names_with nodes from to session (Sccrp o) names = names
    names_with nodes from to session (Scccn response) names = names
    names_with nodes from to session (StopCcn tunnel code error) names = names
    names_with nodes from to session Hello names = names
    names_with nodes from to session (Ocrq own) names = names
    names_with nodes from to session Ocrp names = names
    names_with nodes from to session Occn names = names
    names_with nodes from to session (Icrp own) names = names
    names_with nodes from to session (Iccn speed framing sequenced) names = names
    names_with nodes from to session (Cdn own code error) names = names
    names_with nodes from to session Wen names = names
    names_with nodes from to session Sli names = names
    names_with nodes from to session (Fsq sessions) names = names
    names_with nodes from to session (Fsr sessions) names = names

    names_without : (nodes : Nodes) (from to session : ℕ) (m : Message) → NamesItsCall nodes from to session (without_number m)
        → NamesItsCall nodes from to session m
    names_without nodes from to session (Icrq own serial calling) names = names
    names_without nodes from to session (Sccrq o) names = names
    names_without nodes from to session (Sccrp o) names = names
    names_without nodes from to session (Scccn response) names = names
    names_without nodes from to session (StopCcn tunnel code error) names = names
    names_without nodes from to session Hello names = names
    names_without nodes from to session (Ocrq own) names = names
    names_without nodes from to session Ocrp names = names
    names_without nodes from to session Occn names = names
    names_without nodes from to session (Icrp own) names = names
    names_without nodes from to session (Iccn speed framing sequenced) names = names
    names_without nodes from to session (Cdn own code error) names = names
    names_without nodes from to session Wen names = names
    names_without nodes from to session Sli names = names
    names_without nodes from to session (Fsq sessions) names = names
    names_without nodes from to session (Fsr sessions) names = names

module _ (calm : Bool) (codecs : Codecs) where
  -- no fault is found in no pairs
  no_fault : call_fault_in [] ≡ None
  unfolding call_fault_in fault_of_pairs message_by kind_by
  no_fault = let none = codecs.pairs [] tt in rw none refl

  -- but that they make no message, which tells no id
  no_pairs : tunnel_fault_in [] ≡ Some (closing event.AdminClose cause.Avp 0)
  unfolding tunnel_fault_in tunnel_fault_of_pairs message_by
  no_pairs = let none = codecs.pairs [] tt in rw none refl

  no_id : (g : TunnelFault) → tunnel_fault_in [] ≡ Some g → g.remote < 65536
  no_id g h = let none = no_pairs in let same : closing event.AdminClose cause.Avp 0 ≡ g = cc in rw (← same) (omega arith)

  -- where it comes to no tunnel, the id that it tells has 16 bits
  abbrev TellsId : Addressee → ℕ → Type 0
  TellsId a i = (a ≡ Opens i) ⊎ (a ≡ Answers i)

  zero_fits : (m : Message) (avps : List Avp) → codec.IsWritten m → (i : ℕ) → TellsId (zero_read avps (Ok (Known m))) i → i < 65536
  unfolding zero_read
  zero_fits (Sccrq o) avps w i h = by (is_some o.recovery) h
    where
      by : (asks : Bool) → TellsId (cond asks (Recovers o.tunnel) (Opens o.tunnel)) i → i < 65536
      by true h = ⊎_elim (λ e. absurd cc) (λ e. absurd cc) h
      by false h = ⊎_elim (λ e. let same : o.tunnel ≡ i = cc in rw (← same) w.0.tunnel) (λ e. absurd cc) h
  zero_fits (Sccrp o) avps w i h = ⊎_elim (λ e. absurd cc) (λ e. let same : o.tunnel ≡ i = cc in rw (← same) w.0.tunnel) h
  zero_fits (StopCcn tunnel code error) avps w i h = by (tunnel == 0) h
    where
      by : (none : Bool) → TellsId (cond none (Nobody why.Tunnel) (Stops tunnel)) i → i < 65536
      by true h = ⊎_elim (λ e. absurd cc) (λ e. absurd cc) h
      by false h = ⊎_elim (λ e. absurd cc) (λ e. absurd cc) h
  zero_fits (Scccn response) avps w i h = ⊎_elim (λ e. absurd cc) (λ e. absurd cc) h
  zero_fits Hello avps w i h = ⊎_elim (λ e. absurd cc) (λ e. absurd cc) h
  zero_fits (Ocrq own) avps w i h = ⊎_elim (λ e. absurd cc) (λ e. absurd cc) h
  zero_fits Ocrp avps w i h = ⊎_elim (λ e. absurd cc) (λ e. absurd cc) h
  zero_fits Occn avps w i h = ⊎_elim (λ e. absurd cc) (λ e. absurd cc) h
  zero_fits (Icrq own serial calling) avps w i h = ⊎_elim (λ e. absurd cc) (λ e. absurd cc) h
  zero_fits (Icrp own) avps w i h = ⊎_elim (λ e. absurd cc) (λ e. absurd cc) h
  zero_fits (Iccn speed framing sequenced) avps w i h = ⊎_elim (λ e. absurd cc) (λ e. absurd cc) h
  zero_fits (Cdn own code error) avps w i h = ⊎_elim (λ e. absurd cc) (λ e. absurd cc) h
  zero_fits Wen avps w i h = ⊎_elim (λ e. absurd cc) (λ e. absurd cc) h
  zero_fits Sli avps w i h = ⊎_elim (λ e. absurd cc) (λ e. absurd cc) h
  zero_fits (Fsq sessions) avps w i h = ⊎_elim (λ e. absurd cc) (λ e. absurd cc) h
  zero_fits (Fsr sessions) avps w i h = ⊎_elim (λ e. absurd cc) (λ e. absurd cc) h

  -- no pairs tell none
  none_at_zero : at_zero [] ≡ Nobody why.Tunnel
  unfolding at_zero zero_pairs zero_read message_by kind_by
  none_at_zero = let none = codecs.pairs [] tt in rw none refl

  none_told : (i : ℕ) → TellsId (at_zero []) i → i < 65536
  none_told i h = let none = none_at_zero in ⊎_elim (λ e. absurd cc) (λ e. absurd cc) h

  -- no pairs make no message
  no_message : (m : Message) → message_in [] ≡ Ok m → ⊥
  unfolding message_in pairs_read message_read message_by
  no_message m h = let none = codecs.pairs [] tt in (let g = rw none at h in cc)

  same_header : (bytes : List ℕ) (h k : Header) (body : List ℕ) → Carries bytes k body → header_of bytes ≡ Ok h → h ≡ k
  same_header bytes h k body c e = let r = c.reads in cc

  -- of a control message the header's session and the pairs
  record ControlRead (session : ℕ) (pairs bytes : List ℕ) (h : Header) : Type 0 where
    pub control : h.control ≡ true
    pub session_is : h.session ≡ session
    pub body : body_of bytes h ≡ pairs

  module _ (tunnel session ns nr : ℕ) (t : tunnel < 65536) (s_fits : session < 65536) where
    control_read : (pairs : List ℕ) (h : Header) → length pairs ≤ 65523
        → header_of (control_bytes tunnel session (on_wire ns) (on_wire nr) pairs) ≡ Ok h
        → ControlRead session pairs (control_bytes tunnel session (on_wire ns) (on_wire nr) pairs) h
    control_read pairs h le e =
        let bytes = control_bytes tunnel session (on_wire ns) (on_wire nr) pairs in
        let c = codecs.control tunnel session (on_wire ns) (on_wire nr) pairs t s_fits (omega arith) (omega arith) le in
        let same = same_header bytes h (control_header tunnel session (on_wire ns) (on_wire nr) (length pairs)) pairs c e in
        rw same (record { control = refl; session_is = refl; body = c.bounds })

    -- as a message is read
    read_message : (nodes : Nodes) (gs : List Passage) (from to : ℕ) (body : List ℕ) → length body ≤ 65523
        → (avps : List Avp) (x : Message) → avps_of body ≡ Ok avps
        → message_said avps ≡ Ok (Known x) → codec.IsWritten x → (calm ≡ true → IsWritten x) → NamesItsCall nodes from to session x
        → ReadOk calm nodes gs from to (control_bytes tunnel session (on_wire ns) (on_wire nr) body)
    read_message nodes gs from to body few avps x pairs reads written plainly names =
        record {
          frames = λ h e c. absurd (true≢false (sym (control_read body h few e).control ∙ c));
          letters = λ h e c y r.
              let same : x ≡ y = (let again = message_there body avps x pairs reads in let g : message_in body ≡ Ok y = rw
              (← (control_read body h few e).body) r in cc) in
              rw (← same) (written, rw (control_read body h few e).session_is names);
          plainly = λ still h e c y r.
              let same : x ≡ y = (let again = message_there body avps x pairs reads in let g : message_in body ≡ Ok y = rw
              (← (control_read body h few e).body) r in cc) in
              rw (← same) (plainly still);
          faulty = λ h e c f r.
              let none = no_fault_there body avps x pairs reads in
              let some : call_fault_in body ≡ Some f = rw (← (control_read body h few e).body) r in
              absurd cc;
          told = λ h e c g f.
              let none = no_tunnel_fault_there body avps x pairs reads in
              let some : tunnel_fault_in body ≡ Some g = rw (← (control_read body h few e).body) f in
              absurd cc;
          zero = λ h e c i t.
              let body_is = (control_read body h few e).body in
              let here : TellsId (at_zero body) i = rw (← body_is) t in
              zero_fits x avps written i (rw (← zero_there body avps x pairs reads) here);
        }

    -- or a request whose number can't be had
    read_ok : (nodes : Nodes) (gs : List Passage) (from to : ℕ) (m : Message) (body : List ℕ) → length body ≤ 65523 → IsReadAs m body
        → NamesItsCall nodes from to session m → ReadOk calm nodes gs from to (control_bytes tunnel session (on_wire ns) (on_wire nr) body)
    read_ok nodes gs from to m body few (AsAMessage avps x pairs reads written alike) names =
        read_message nodes gs from to body few avps x pairs reads (whole x written) (λ still. written)
        (names_alike nodes from to session m x alike names)
    read_ok nodes gs from to m body few (AsAFault avps own serial number is small pairs fault kind_is told_is) names =
        record {
          frames = λ h e c. absurd (true≢false (sym (control_read body h few e).control ∙ c));
          letters = λ h e c y r.
              let none = no_message_there body avps own pairs fault kind_is told_is in
              let g : message_in body ≡ Ok y = rw (← (control_read body h few e).body) r in
              absurd cc;
          plainly = λ still h e c y r.
              let none = no_message_there body avps own pairs fault kind_is told_is in
              let g : message_in body ≡ Ok y = rw (← (control_read body h few e).body) r in
              absurd cc;
          faulty = λ h e c f r.
              let found = fault_there body avps own pairs fault kind_is told_is in
              let some : call_fault_in body ≡ Some f = rw (← (control_read body h few e).body) r in
              let same : number_fault own ≡ f = cc in
              (own, ap (λ (x : CallFault). x.session) (sym same), small);
          told = λ h e c g f.
              let none = for_its_call body avps own pairs fault kind_is told_is in
              let some : tunnel_fault_in body ≡ Some g = rw (← (control_read body h few e).body) f in
              absurd cc;
          zero = λ h e c i t.
              let nobody = for_no_tunnel body avps own pairs fault kind_is told_is in
              let here : TellsId (at_zero body) i = rw (← (control_read body h few e).body) t in
              ⊎_elim (λ e. absurd cc) (λ e. absurd cc) here;
        }

    plain_ok : (nodes : Nodes) (gs : List Passage) (from to : ℕ) (m : Message) (hidden : Option (List ℕ)) → IsWritten m → HidesOk m hidden
        → NamesItsCall nodes from to session m
        → BytesOk calm nodes gs from to (control_bytes tunnel session (on_wire ns) (on_wire nr) (letter_as session m hidden).avps)
    plain_ok nodes gs from to m hidden w hides names secret =
        let u = letter_uncovered codecs secret tunnel session (on_wire ns) (on_wire nr) m hidden t s_fits (omega arith)
        (omega arith) w hides in
        rw u.is (read_ok nodes gs from to m u.body u.few u.reads names)

    -- a message that hides nothing
    pub message_ok : (nodes : Nodes) (gs : List Passage) (from to : ℕ) (m : Message) → codec.IsWritten m → (calm ≡ true → IsWritten m)
        → NamesItsCall nodes from to session m
        → BytesOk calm nodes gs from to (control_bytes tunnel session (on_wire ns) (on_wire nr) (spelling (pairs_of m)))
    message_ok nodes gs from to m written plainly names secret =
        let w = codecs.whole m written in
        let few = codecs.whole_room m written in
        rw (stays_plain codecs secret tunnel session (on_wire ns) (on_wire nr) (spelling (pairs_of m)) (pairs_of m) t s_fits (omega arith)
        (omega arith) few w.0 (hides_nothing m))
        (read_message nodes gs from to (spelling (pairs_of m)) few (pairs_of m) m w.0 w.1 written plainly names)

    pub letter_ok : (nodes : Nodes) (gs : List Passage) (from to : ℕ) (m : Message) (hidden : Option (List ℕ)) → codec.IsWritten m
        → (calm ≡ true → IsWritten m) → HidesOk m hidden → NamesItsCall nodes from to session m
        → BytesOk calm nodes gs from to (control_bytes tunnel session (on_wire ns) (on_wire nr) (letter_as session m hidden).avps)
    letter_ok nodes gs from to m None written plainly hides names = message_ok nodes gs from to m written plainly names
    letter_ok nodes gs from to m (Some pairs) written plainly hides names =
        plain_ok nodes gs from to m (Some pairs) (subst IsWritten (sym hides.is) (subst codec.IsWritten hides.is written)) hides names

    read_alone : (nodes : Nodes) (gs : List Passage) (from to : ℕ)
        → ReadOk calm nodes gs from to (control_bytes tunnel session (on_wire ns) (on_wire nr) [])
    read_alone nodes gs from to =
        record {
          frames = λ h e c. absurd (true≢false (sym (control_read [] h (omega arith) e).control ∙ c));
          letters = λ h e c x r. absurd (no_message x (rw (← (control_read [] h (omega arith) e).body) r));
          plainly = λ still h e c x r. absurd (no_message x (rw (← (control_read [] h (omega arith) e).body) r));
          faulty = λ h e c f r.
              let none = no_fault in
              let some : call_fault_in [] ≡ Some f = rw (← (control_read [] h (omega arith) e).body) r in
              absurd cc;
          told = λ h e c g f. no_id g (rw (← (control_read [] h (omega arith) e).body) f);
          zero = λ h e c i t. none_told i (rw (← (control_read [] h (omega arith) e).body) t);
        }

    pub alone_ok : (nodes : Nodes) (gs : List Passage) (from to : ℕ)
        → BytesOk calm nodes gs from to (control_bytes tunnel session (on_wire ns) (on_wire nr) [])
    alone_ok nodes gs from to secret =
        rw (stays_plain codecs secret tunnel session (on_wire ns) (on_wire nr) [] [] t s_fits (omega arith) (omega arith) (omega arith)
        (codecs.pairs [] tt) refl)
        (read_alone nodes gs from to)

  -- a frame that is for a session
  read_frame : (ns : Nodes) (gs : List Passage) (from to tunnel session : ℕ) (number : Option ℕ) (frame : List ℕ) → tunnel < 65536
      → session < 65536
      → FitsWord number → WasSentInCall ns gs from to session frame → ReadOk calm ns gs from to (data_bytes tunnel session number frame)
  read_frame ns gs from to tunnel session number frame t s fits sent =
      let bytes = data_bytes tunnel session number frame in
      let c = codecs.frame tunnel session number frame t s fits in
      record {
        frames = λ h e k. rw (same_header bytes h _ _ c e, c.bounds) sent;
        plainly = λ still h e k m r. absurd (true≢false (sym k ∙ ap (λ (x : Header). x.control) (same_header bytes h _ _ c e)));
        letters = λ h e k m r. absurd (true≢false (sym k ∙ ap (λ (x : Header). x.control) (same_header bytes h _ _ c e)));
        faulty = λ h e k f r. absurd (true≢false (sym k ∙ ap (λ (x : Header). x.control) (same_header bytes h _ _ c e)));
        told = λ h e k g f. absurd (true≢false (sym k ∙ ap (λ (x : Header). x.control) (same_header bytes h _ _ c e)));
        zero = λ h e k i t. absurd (true≢false (sym k ∙ ap (λ (x : Header). x.control) (same_header bytes h _ _ c e)));
      }

  pub frame_ok : (ns : Nodes) (gs : List Passage) (from to tunnel session : ℕ) (number : Option ℕ) (frame : List ℕ) → tunnel < 65536
      → session < 65536
      → FitsWord number → WasSentInCall ns gs from to session frame → BytesOk calm ns gs from to (data_bytes tunnel session number frame)
  frame_ok ns gs from to tunnel session number frame t s fits sent secret =
      rw (frame_stays codecs secret tunnel session number frame t s fits)
      (read_frame ns gs from to tunnel session number frame t s fits sent)
