-- What comes in a step is near each tunnel that it is for, after each move as before it.
use Rattle.std.proofs.Common.{◌≡◌, ◌⊎◌, inl, inr, ⊎_elim, ℕ, ◌+◌, ◌-◌, ◌%◌, ◌^◌, ◌<◌, ◌≤◌, Bool, true, false, cond, eqb, List, refl, sym, ap, ap₂, ◌∙◌, subst, Option, Some, Result, Ok, Err, arith}
use Rattle.std.proofs.lemmas.Bool.{true≢false}
use Rattle.std.proofs.lemmas.Bool.Decides.{nat_tests}
use Rattle.std.specs.Prelude.{nat_le, slice_get, is_some, unwrap_or}
use Rattle.id_source.specs.Spaces.{draw_is}
use Rattle.id_table.specs.Ids.{at}
use Rattle.l2tp_header.specs.declared.header.Header.{Header}
use Rattle.l2tp_header.specs.Reading.{header_of, body_of}
use Rattle.avp_codec.specs.declared.avp.Avp.{Avp}
use Rattle.avp_codec.specs.declared.error.AvpError.{AvpError}
use Rattle.avp_codec.specs.Reading.{avps_of}
use Rattle.control_message.specs.declared.message.Message.TheVariants.{Sccrq, Scccn, StopCcn}
use Rattle.control_message.specs.declared.message.MessageError.{MessageError}
use Rattle.control_message.specs.declared.message.Opening.{Opening}
use Rattle.control_message.specs.declared.message.Read.{Read}
use Rattle.control_message.specs.declared.message.Read.TheVariants.{Known, Ignored}
use Rattle.send_window.specs.Kept.{Window}
use Rattle.send_window.specs.Window as sending
use Rattle.recv_window.specs.declared.Class.TheVariants.{Next}
use Rattle.recv_window.specs.Window.{Inbox, on_wire, class_of}
use Rattle.wire_base.specs.declared.why.Why.TheVariants as why
use Rattle.end_names.specs.Names.{address_of}
use Rattle.end_model.specs.declared.event.Event.{Event}
use Rattle.end_model.specs.declared.event.Event.TheVariants.{Datagram}
use Rattle.end_model.specs.declared.event.Addressee.TheVariants.{Nobody, Opens, Stops}
use Rattle.end_model.specs.declared.moves.Move.{Move}
use Rattle.end_model.specs.declared.moves.Move.TheVariants as move
use Rattle.end_model.specs.declared.out.Origin.{Origin}
use Rattle.end_model.specs.declared.out.Origin.TheVariants as origin
use Rattle.end_model.specs.declared.out.ControlOrigin.{ControlOrigin}
use Rattle.end_model.specs.declared.tunnel.Control.{Control}
use Rattle.end_model.specs.Reading.{message_in, pairs_read, message_read, at_zero, zero_pairs, zero_read, message_said}
use Rattle.end_model.specs.Secrets.{uncovered_datagram}
use Rattle.end_model.specs.Tunnels.{Tunnel, ByAttempt, ByAnswer, mode_of, is_current}
use Rattle.end_model.specs.End.{End}
use Rattle.world_model.specs.declared.packet.Packet.{Packet}
use Rattle.world_model.specs.declared.standing.Standing.{Standing}
use Rattle.world_model.specs.World.{World, Node, Sender, Deed, epoch_of}
use Rattle.step_laws.specs.Arrivals.{Came, CameIn, IsFor}
use Rattle.step_laws.specs.Callers.{WantsTunnel, LacWants, AsksLac}
use Rattle.step_laws.specs.Moves.{Does}
use Rattle.step_laws.specs.Steps.{IsOfNoStart}
use Rattle.frame_laws.specs.Codecs.{Codecs}
use Rattle.connection_laws.specs.Facts.{IsNoOpening}
use Rattle.connection_laws.proofs.Hearing.{no_message}
use Rattle.channel_laws.specs.Recoveries.{WrittenIsRead, WrittenHasRoom}
use Rattle.channel_laws.proofs.Spelled.{letter_same}
use Rattle.channel_laws.specs.Accounts.{Account, History, about}
use Rattle.channel_laws.specs.Facts.{IsMade, ChannelOk, LiveOk, EndOk, BookOk, NodeOk, IsCopy, IsRefusal, OriginOk, PacketOk, Holds}
use Rattle.channel_laws.specs.Steps.{IsNear, AreNear, IsPacket, Comes, with_end, moves_on, IsMoved}
use Rattle.channel_laws.proofs.Agreeing.{moved_packets, moved_epoch}
use Rattle.channel_laws.proofs.Coming.{refused_fits}
use Rattle.channel_laws.proofs.Entering.{base_same}
use Rattle.channel_laws.proofs.Inactive.{IsReset}
use Rattle.channel_laws.proofs.Linked.{first_or_later}
use Rattle.channel_laws.proofs.Naming.{reply_answers, copy_names}
use Rattle.channel_laws.proofs.Numbering.{IsActive, taken_of, acked_of, IsFirst, Counted, Stays, Takes, Reads, Begins, Resets, does_count}
use Rattle.channel_laws.proofs.Opening.{undrawn}
use Rattle.channel_laws.proofs.Readings.{IsLetterRead, IsNoneRead, copy_read, stop_read}
use Rattle.channel_laws.proofs.Told.{all_at}
use Rattle.channel_laws.proofs.Waiting.{waits_inactive}

-- ---- numbers of 16 bits

-- the next one on the wire is that of the letter that comes next, but for the bits above
next_wire : (n : ℕ) (i : Inbox) → n < 65536 → class_of n i ≡ Next → n ≡ i.taken % 65536
next_wire n i lt next = by (eqb ((n + 65536 - i.taken % 65536) % 65536) 0) refl
  where
    by : (b : Bool) → eqb ((n + 65536 - i.taken % 65536) % 65536) 0 ≡ b → n ≡ i.taken % 65536
    by true is = grind (arith, nat_tests)
    by false is = grind (arith, nat_tests)

-- so where it is near there is room for one more
one_near : (n taken : ℕ) → taken ≤ n + 32768 → n % 65536 ≡ taken % 65536 → taken + 1 ≤ n + 32768
one_near n taken near same = omega arith

-- no more is acknowledged than is told
ahead_near : (acked n : ℕ) → acked ≤ n + 32767 → sending.distance (acked % 2 ^ 16) (on_wire n) ≤ 8192 → acked + sending.distance (acked % 2 ^ 16) (on_wire n) ≤ n + 32767
ahead_near acked n near few = omega arith

count_near : (w : Window) (n : ℕ) → w.acked ≤ n + 32767 → w.outstanding ≤ 8192 → w.acked + sending.count_acked w (on_wire n) ≤ n + 32767
count_near w n near few = by (nat_le (sending.distance (w.acked % 2 ^ 16) (on_wire n)) w.outstanding) refl
  where
    by : (b : Bool) → nat_le (sending.distance (w.acked % 2 ^ 16) (on_wire n)) w.outstanding ≡ b
        → w.acked + cond b (sending.distance (w.acked % 2 ^ 16) (on_wire n)) 0 ≤ n + 32767
    by true is = ahead_near w.acked n near (grind (arith, nat_tests))
    by false is = omega arith

acked_near : (w : Window) (n moment : ℕ) → w.acked ≤ n + 32767 → w.outstanding ≤ 8192 → (sending.acked_at w (on_wire n) moment).acked ≤ n + 32767
acked_near w n moment near few =
    let count = sending.count_acked w (on_wire n) in
    let sum = count_near w n near few in
    by (eqb count 0) _ near (omega arith)
  where
    by : (b : Bool) (x : Window) → w.acked ≤ n + 32767 → x.acked ≤ n + 32767 → (cond b w x).acked ≤ n + 32767
    by true x p q = p
    by false x p q = q

-- for whom a message is, by its ids
is_for_same : (kh : Header) (body : List ℕ) (c e : Control) → e.local ≡ c.local → e.remote ≡ c.remote → IsFor kh body c → IsFor kh body e
is_for_same kh body c e local remote (inl names) = inl (names ∙ sym local)
is_for_same kh body c e local remote (inr (inl again)) = inr (inl (record { none = again.none; opens = again.opens ∙ ap (λ r. Opens r) (sym remote) }))
is_for_same kh body c e local remote (inr (inr stop)) = inr (inr (record { none = stop.none; stops = stop.stops ∙ ap (λ r. Stops r) (sym remote) }))

-- ---- an SCCCN that names no tunnel is for none

module _ (body : List ℕ) (r : Option (List ℕ)) where
  reads_so : (avps : List Avp) (q : Result Read MessageError) → message_read q ≡ Ok (Scccn r) → zero_read avps q ≡ Nobody why.Tunnel
  unfolding message_read zero_read
  reads_so avps (Ok (Known y)) said = let same : y ≡ Scccn r = cc in subst (λ z. zero_read avps (Ok (Known z)) ≡ Nobody why.Tunnel) (sym same) refl
  reads_so avps (Ok (Ignored n)) said = absurd cc
  reads_so avps (Err e) said = absurd cc

  pairs_so : (q : Result (List Avp) AvpError) → pairs_read q ≡ Ok (Scccn r) → zero_pairs q ≡ Nobody why.Tunnel
  unfolding pairs_read zero_pairs
  pairs_so (Ok avps) said = reads_so avps (message_said avps) said
  pairs_so (Err e) said = absurd cc

  pub confirmation_none : message_in body ≡ Ok (Scccn r) → at_zero body ≡ Nobody why.Tunnel
  unfolding message_in at_zero
  confirmation_none said = pairs_so (avps_of body) said

-- a LAC that wants a tunnel got no datagram
no_datagram : (ev : Event) (peer : ℕ) (bytes : List ℕ) → AsksLac ev → ev ≡ Datagram peer bytes → ⊥
no_datagram ev peer bytes asks is = by (subst AsksLac is asks)
  where
    by : AsksLac (Datagram peer bytes) → ⊥
    by (inl opens) = cc
    by (inr rings) = let r = rings.1 in cc

unwanted : (e : End) (ev : Event) (at_peer peer : ℕ) (bytes : List ℕ) → WantsTunnel e ev at_peer → ev ≡ Datagram peer bytes → ⊥
unwanted e ev at_peer peer bytes (LacWants lac lns asks) is = no_datagram ev peer bytes asks is

-- ---- after a move

module _ (codecs : Codecs) (again : WrittenIsRead) (room : WrittenHasRoom) (w : World) (h : History) (n : ℕ) (node : Node)
    (sender : Option Sender) (moment : ℕ) (ev : Event) (m : Move) (x : End) (d : Deed)
    (k : IsMoved w h n node sender moment ev m x d) (start : IsOfNoStart m) (g : History) (holds : Holds (moves_on w n node m x) g) (own : Node)
    (own_is : at (moves_on w n node m x).nodes n ≡ Some own) (end_is : own.end ≡ x) where
  abbrev v : World
  v = moves_on w n node m x

  both_ok : EndOk w h n node.end × BookOk h n node.checkpoint.book
  both_ok = subst (NodeOk w h n) k.there (k.holds.nodes n)

  end_then : EndOk v g n x
  end_then = subst (EndOk v g n) end_is (let ok : EndOk v g n own.end × BookOk g n own.checkpoint.book = subst (NodeOk v g n) own_is (holds.nodes n) in ok.0)

  packets_are : v.packets ≡ w.packets
  packets_are = moved_packets n m (with_end w n node x)

  -- one that isn't reset is in the epoch in which it was
  epoch_same : (i : ℕ) → (IsReset m → about m ≡ i → ⊥) → epoch_of v n i ≡ epoch_of w n i
  epoch_same i never = moved_epoch n m (with_end w n node x) i never ∙ ap (λ (s : Standing). s.epoch) (base_same w n node k.there x n i)

  module _ (peer : ℕ) (bytes : List ℕ) (is : ev ≡ Datagram peer bytes) where
    abbrev came : IsPacket w h n node.end sender peer bytes
    came = k.comes peer bytes is

    abbrev p : Packet
    p = came.packet

    ok_then : PacketOk v g p
    ok_then = all_at (PacketOk v g) v.packets came.place p (ap (λ l. slice_get l came.place) packets_are ∙ came.sent) holds.packets

    module _ (o : ControlOrigin) (origin_is : p.origin ≡ origin.Control o) where
      said_ok : IsCopy (h.accounts p.from o.tunnel p.epoch) p o ⊎ IsRefusal h p o
      said_ok = subst (OriginOk w h p) origin_is came.ok.sent

      module _ (kh : Header) (read : header_of bytes ≡ Ok kh) where
        read_there : header_of (uncovered_datagram came.secret p.bytes) ≡ Ok kh
        read_there = ap header_of (sym came.bytes_are) ∙ read

        -- its numbers
        record IsTold : Type 0 where
          ns : unwrap_or kh.ns 0 ≡ on_wire o.ns
          nr : unwrap_or kh.nr 0 ≡ on_wire o.nr

        told : IsTold
        told = ⊎_elim
            (λ (copy : IsCopy (h.accounts p.from o.tunnel p.epoch) p o).
            let a = h.accounts p.from o.tunnel p.epoch in
            let ok = k.holds.accounts p.from o.tunnel p.epoch in
            let c = copy_read codecs again room p.epoch a p o came.secret kh ok.remote ok.spelled copy read_there in
            record { ns = c.ns; nr = c.nr })
            (λ (r : IsRefusal h p o).
            let s = stop_read codecs r.tunnel o.nr r.result r.error p.bytes came.secret kh (refused_fits w h k.holds p o r) r.nr r.fit r.are read_there in
            record { ns = s.ns ∙ ap on_wire (sym r.ns); nr = s.nr ∙ (let lt = r.nr in omega (arith, lt)) })
            said_ok

        -- what it says is of epoch 0 where it opens a tunnel
        opening_first : (q : Opening) → message_in (body_of bytes kh) ≡ Ok (Sccrq q) → p.epoch ≡ 0
        opening_first q said = ⊎_elim
            (λ (copy : IsCopy (h.accounts p.from o.tunnel p.epoch) p o).
            let a = h.accounts p.from o.tunnel p.epoch in
            let ok = k.holds.accounts p.from o.tunnel p.epoch in
            let c = copy_read codecs again room p.epoch a p o came.secret kh ok.remote ok.spelled copy read_there in
            let said_there : message_in (body_of (uncovered_datagram came.secret p.bytes) kh) ≡ Ok (Sccrq q) = ap (λ bs. message_in (body_of bs kh)) (sym came.bytes_are) ∙ said in
            ⊎_elim
            (λ (first : p.epoch ≡ 0). first)
            (λ r. ⊎_elim
            (λ (l : IsLetterRead a o kh (uncovered_datagram came.secret p.bytes)).
            let message = letter_same l.letter (body_of (uncovered_datagram came.secret p.bytes) kh) l.reads (Sccrq q) said_there tt in
            absurd (subst IsNoOpening message (all_at (λ y. IsNoOpening y.message) a.given l.place l.letter l.there r.no_opening)))
            (λ (l : IsNoneRead o kh (uncovered_datagram came.secret p.bytes)). absurd (no_message codecs (Sccrq q) (ap message_in (sym l.body) ∙ said_there)))
            c.says)
            (first_or_later w h p.from o.tunnel p.epoch a ok copy.made))
            (λ (r : IsRefusal h p o). r.epoch)
            said_ok

        -- and it isn't for an attempt or an answer, unless it is a StopCCN
        not_for_line : (id : ℕ) → 0 < id → kh.tunnel ≡ id → ((is_some (h.attempts n id) ≡ true) ⊎ (is_some (h.answers n id) ≡ true))
            → ((result : ℕ) (error : Option ℕ) → message_in (body_of bytes kh) ≡ Ok (StopCcn 0 result error) → ⊥) → ⊥
        not_for_line id some names used other = ⊎_elim
            (λ (copy : IsCopy (h.accounts p.from o.tunnel p.epoch) p o).
            let a = h.accounts p.from o.tunnel p.epoch in
            let ok = k.holds.accounts p.from o.tunnel p.epoch in
            let c = copy_read codecs again room p.epoch a p o came.secret kh ok.remote ok.spelled copy read_there in
            let named : copy.tunnel ≡ id = sym c.tunnel_is ∙ names in
            let made = copy_names w h k.holds p o p.epoch copy (λ z. let no : ⊥ = omega (arith, named, z, some) in no) in
            let here : IsMade (h.accounts n id 0) = subst (λ q. IsMade (h.accounts n q 0)) named (subst (λ q. IsMade (h.accounts q copy.tunnel 0)) came.to made) in
            ⊎_elim
            (λ attempt. true≢false (sym attempt ∙ ap is_some (both_ok.0.ids.no_attempt id here)))
            (λ answer. true≢false (sym answer ∙ ap is_some (both_ok.0.ids.no_answer id here)))
            used)
            (λ (r : IsRefusal h p o).
            let s = stop_read codecs r.tunnel o.nr r.result r.error p.bytes came.secret kh (refused_fits w h k.holds p o r) r.nr r.fit r.are read_there in
            other r.result r.error (ap (λ bs. message_in (body_of bs kh)) came.bytes_are ∙ s.said))
            said_ok

        same_letter : (c : Came) (in_it : CameIn ev c) → (c.header ≡ kh) × (c.body ≡ body_of bytes kh)
        same_letter c in_it =
            let both : Datagram c.peer in_it.bytes ≡ Datagram peer bytes = sym in_it.is ∙ is in
            let bs : in_it.bytes ≡ bytes = cc in
            let headers = sym in_it.read ∙ (ap header_of bs ∙ read) in
            let same : c.header ≡ kh = cc in
            (same, in_it.body_is ∙ ap₂ (λ y z. body_of y z) bs same)

        module _ (i : ℕ) (u : Tunnel) (at_u : at x.tunnels i ≡ Some u) (active : IsActive u) where
          live_then : LiveOk v g n i u
          live_then = end_then.live i u at_u

          -- what is left to show
          finish : p.epoch ≡ epoch_of v n i → taken_of u ≤ o.ns + 32768 → acked_of u ≤ o.nr + 32767 → (p.epoch ≡ epoch_of v n i) × IsNear (g.accounts n i p.epoch) u o
          finish epoch taken acked = (
            epoch,
            subst (λ z. IsNear (g.accounts n i z) u o) (sym epoch)
                (record { taken = (let counts = (live_then.channel active).taken in omega (arith, counts, taken)); acked = acked }),
          )

          -- a tunnel that was there
          module _ (t : Tunnel) (was : at node.end.tunnels i ≡ Some t) (on : IsActive t) (peer_is : t.control.peer ≡ address_of p.from) (for_it : IsFor kh (body_of bytes kh) t.control) where
            near : (p.epoch ≡ epoch_of w n i) × IsNear (h.accounts n i p.epoch) t o
            near = subst (AreNear w h n node.end p bytes) origin_is came.near i t kh was on peer_is read for_it

            channel_before : ChannelOk h.accounts n i p.epoch (h.accounts n i p.epoch) t
            channel_before = subst (λ z. ChannelOk h.accounts n i z (h.accounts n i z) t) (sym near.0) ((both_ok.0.live i t was).channel on)

            taken_near : taken_of t ≤ o.ns + 32768
            taken_near = let counts = channel_before.taken in let le = near.1.taken in omega (arith, counts, le)

            few : t.control.channel.window.outstanding ≤ 8192
            few = let out = channel_before.outstanding in let le = channel_before.few in omega (arith, out, le)

          -- its epoch stays, unless it is reset
          stays : (t : Tunnel) → at node.end.tunnels i ≡ Some t → IsActive t → IsReset m → about m ≡ i → ⊥
          stays t was on = by m k.does
            where
              by : (q : Move) → Does node.end moment ev q x → IsReset q → about q ≡ i → ⊥
              by (move.ResetAttempting q) does of same =
                  let two = sym (ap (at node.end.tunnels) same ∙ was) ∙ does.there in
                  let one : t ≡ does.tunnel = cc in
                  true≢false (sym on ∙ (ap (λ (y : Tunnel). is_current (mode_of y.recovery)) one ∙ (ap (λ r. is_current (mode_of r)) does.attempts ∙ waits_inactive (ByAttempt does.old) does.waits)))
              by (move.ResetAnswering q) does of same =
                  let two = sym (ap (at node.end.tunnels) same ∙ was) ∙ does.there in
                  let one : t ≡ does.tunnel = cc in
                  true≢false (sym on ∙ (ap (λ (y : Tunnel). is_current (mode_of y.recovery)) one ∙ (ap (λ r. is_current (mode_of r)) does.answers ∙ waits_inactive (ByAnswer does.old) does.waits)))
              by q does of same = absurd of

          -- one that begins is of epoch 0, and so is what opens it
          begins : IsFirst m → about m ≡ i → p.epoch ≡ epoch_of v n i
          begins first it = by m first it k.does (λ of same. never m first of)
            where
              never : (q : Move) → IsFirst q → IsReset q → ⊥
              never (move.Opened q) f of = of
              never (move.Accepted q) f of = of
              never q f of = f

              by : (q : Move) → IsFirst q → about q ≡ i → Does node.end moment ev q x → (IsReset m → about m ≡ i → ⊥) → p.epoch ≡ epoch_of v n i
              by (move.Opened q) f same does none = absurd (unwanted node.end ev q.peer peer bytes does.wants is)
              by (move.Accepted q) f same does none =
                  let c = does.hears.1.letter in
                  let l = same_letter c does.hears.1.came in
                  let zero = opening_first does.opening (ap message_in (sym l.1) ∙ does.hears.1.says.said) in
                  let drawn = draw_is node.end.tunnel_ids q.tunnel does.drawn in
                  let unmade = undrawn w h n node.end k.holds both_ok.0.ids i (sym same ∙ drawn.0) in
                  zero ∙ sym (epoch_same i none ∙ ap (λ (s : Standing). s.epoch) ((k.holds.standings n i).none (ap (λ (a : Account). a.part) unmade)))
              by q f same does none = absurd f

          -- nothing of a tunnel resets one
          resets_none : IsReset m → ⊥
          resets_none reset = by m reset k.does
            where
              by : (q : Move) → IsReset q → Does node.end moment ev q x → ⊥
              by (move.ResetAttempting q) of does =
                  let l = same_letter does.letter does.comes.came in
                  let tried = (both_ok.0.live q.tunnel does.tunnel does.there).recovery (ByAttempt does.old) does.attempts in
                  let names : does.letter.header.tunnel ≡ does.old.local = ⊎_elim
                  (λ same. same)
                  (λ z. ⊎_elim
                  (λ to. (let two = sym to ∙ reply_answers does.letter.body does.opening does.said in absurd cc))
                  (λ to. (let two = sym to ∙ reply_answers does.letter.body does.opening does.said in absurd cc))
                  z.1)
                  does.comes.line in
                  not_for_line does.old.local (k.holds.attempts n does.old.local tried.0.0 tried.0.1).some (ap (λ (y : Header). y.tunnel) (sym l.0) ∙ names) (inl (ap is_some tried.0.1))
                  (λ result error stop. (let two = sym stop ∙ (ap message_in (sym l.1) ∙ does.said) in cc))
              by (move.ResetAnswering q) of does =
                  let l = same_letter does.letter does.comes.came in
                  let answered = (both_ok.0.live q.tunnel does.tunnel does.there).recovery (ByAnswer does.old) does.answers in
                  let names : does.letter.header.tunnel ≡ does.old.connection.local = ⊎_elim
                  (λ same. same)
                  (λ z. ⊎_elim
                  (λ to. (let two = sym to ∙ confirmation_none does.letter.body does.response does.said in absurd cc))
                  (λ to. (let two = sym to ∙ confirmation_none does.letter.body does.response does.said in absurd cc))
                  z.1)
                  does.comes.line in
                  not_for_line does.old.connection.local (k.holds.answers n does.old.connection.local answered.0 answered.1).some (ap (λ (y : Header). y.tunnel) (sym l.0) ∙ names)
                  (inr (ap is_some answered.1))
                  (λ result error stop. (let two = sym stop ∙ (ap message_in (sym l.1) ∙ does.said) in cc))
              by q of does = of

          near_then : u.control.peer ≡ address_of p.from → IsFor kh (body_of bytes kh) u.control → (p.epoch ≡ epoch_of v n i) × IsNear (g.accounts n i p.epoch) u o
          near_then peer_is for_it = by (does_count node.end x moment ev m start k.fit.tables.order k.does i u at_u active)
            where
              by : Counted node.end moment ev m i u → (p.epoch ≡ epoch_of v n i) × IsNear (g.accounts n i p.epoch) u o
              by (Stays t was on same) =
                  let goes = sym same.goes.peer ∙ peer_is in
                  let still = is_for_same kh (body_of bytes kh) u.control t.control (sym same.goes.local) (sym same.remote) for_it in
                  let q = near t was on goes still in
                  let taken = taken_near t was on goes still in
                  let acked = q.1.acked in
                  let a = same.taken in
                  let b = same.acked in
                  finish (q.0 ∙ sym (epoch_same i (stays t was on))) (omega (arith, taken, a)) (omega (arith, acked, b))
              by (Takes t c was on next goes more acked_same) =
                  let l = same_letter c next.comes.came in
                  let to_peer = sym goes.peer ∙ peer_is in
                  let its = subst (λ z. IsFor z (body_of bytes kh) t.control) l.0 (subst (λ z. IsFor c.header z t.control) l.1 next.comes.tunnel) in
                  let q = near t was on to_peer its in
                  let taken = taken_near t was on to_peer its in
                  let acked = q.1.acked in
                  let ns = ap (λ (y : Header). unwrap_or y.ns 0) l.0 ∙ told.ns in
                  let wire = next_wire (on_wire o.ns) t.control.channel.inbox (omega arith) (ap (λ z. class_of z t.control.channel.inbox) (sym ns) ∙ next.next) in
                  let room = one_near o.ns (taken_of t) taken wire in
                  finish (q.0 ∙ sym (epoch_same i (stays t was on))) (omega (arith, room, more)) (omega (arith, acked, acked_same))
              by (Reads t nr one was on tells goes remote taken_same acked_now) =
                  let l = same_letter tells.letter tells.comes.came in
                  let to_peer = sym goes.peer ∙ peer_is in
                  let its = subst (λ z. IsFor z (body_of bytes kh) t.control) l.0 (subst (λ z. IsFor tells.letter.header z t.control) l.1 tells.comes.tunnel) in
                  let q = near t was on to_peer its in
                  let taken = taken_near t was on to_peer its in
                  let out = few t was on to_peer its in
                  let wire : nr ≡ on_wire o.nr = tells.tells ∙ (ap (λ (y : Header). unwrap_or y.nr 0) l.0 ∙ told.nr) in
                  let acked = acked_near t.control.channel.window o.nr moment q.1.acked out in
                  let now = acked_now ∙ ap (λ z. (sending.acked_at t.control.channel.window z moment).acked) wire in
                  finish (q.0 ∙ sym (epoch_same i (stays t was on))) (omega (arith, taken, taken_same)) (omega (arith, acked, now))
              by (Begins first it taken acked) = finish (begins first it) (omega (arith, taken)) (omega (arith, acked))
              by (Resets t reset it was off state acked) = absurd (resets_none reset)

    near_by : (q : Origin) → p.origin ≡ q → AreNear v g n x p bytes q
    near_by (origin.Control o) same = λ i t kh there active peer_is read for_it. near_then o same kh read i t there active peer_is for_it
    near_by (origin.Data session) same = tt
    near_by (origin.Recovery line number empty) same = tt

    packet_then : IsPacket v g n x sender peer bytes
    packet_then = record {
      packet = p;
      place = came.place;
      sent = ap (λ l. slice_get l came.place) packets_are ∙ came.sent;
      ok = ok_then;
      to = came.to;
      peer_is = came.peer_is;
      secret = came.secret;
      bytes_are = came.bytes_are;
      sender_is = came.sender_is;
      near = near_by p.origin refl;
    }

  pub comes_then : Comes v g n x sender ev
  comes_then peer bytes is = packet_then peer bytes is
