-- What a tunnel that is neither frozen nor restored sends is a copy of a letter of its channel in its epoch, or of none.
use Rattle.std.proofs.Common.{◌≡◌, ◌⊎◌, inl, inr, ⊎_elim, ℕ, ◌+◌, ◌-◌, ◌%◌, ◌^◌, ◌<◌, ◌≤◌, true, false, List, [], length, drop, map, refl, sym, ap, ◌∙◌, subst, Option, Some, None, arith}
use Rattle.std.proofs.lemmas.Option.{slice_get-map, slice_get_within}
use Rattle.std.specs.Prelude.{slice_get}
use Rattle.id_table.specs.Ids.{at}
use Rattle.id_table.specs.Order.{same_or_not}
use Rattle.wire_base.specs.declared.letter.Letter as wire
use Rattle.l2tp_header.specs.Spelling.{control_bytes}
use Rattle.control_message.specs.declared.message.Message.{Message}
use Rattle.recv_window.specs.Window.{on_wire}
use Rattle.control_channel.specs.Numbers.{place_of}
use Rattle.end_names.specs.Names.{node_of}
use Rattle.end_model.specs.declared.out.Origin.{Origin}
use Rattle.end_model.specs.declared.out.Origin.TheVariants as origin
use Rattle.end_model.specs.declared.out.ControlOrigin.{ControlOrigin}
use Rattle.end_model.specs.Channels.{letter_as}
use Rattle.end_model.specs.Tunnels.{Tunnel, mode_of, is_current}
use Rattle.end_model.specs.End.{End}
use Rattle.world_model.specs.declared.packet.Packet.{Packet}
use Rattle.world_model.specs.World.{World, epoch_of, packet_from}
use Rattle.step_laws.specs.Letters.{Letter, letter_at}
use Rattle.connection_laws.specs.Facts.{kept_letter}
use Rattle.connection_laws.proofs.Sent.{got_dropped, mapped}
use Rattle.connection_laws.proofs.Written.{node_again}
use Rattle.channel_laws.specs.Accounts.{Opener, Acceptor, Renewed, Account, History}
use Rattle.channel_laws.specs.Facts.{IsMade, IsLost, ChannelOk, AccountOk, LiveOk, EndOk, Says, ALetter, Nothing, IsCopy, OriginOk, PacketOk, Holds}
use Rattle.channel_laws.proofs.Linked.{part_cases, opener_of, acceptor_of, renewed_of}

-- the letter that a tunnel keeps under a number
record IsLetter (a : Account) (number : ℕ) (l : wire.Letter) : Type 0 where
  letter : Letter
  place : ℕ
  at_place : number ≡ a.first_given + place
  there : slice_get a.given place ≡ Some letter
  same : l ≡ kept_letter letter

-- of a copy that isn't empty a letter was given
copy_there : (b : Account) (o : ControlOrigin) (tunnel : ℕ) (bytes : List ℕ) → Says b o tunnel bytes → o.empty ≡ false → o.ns < b.first_given + length b.given
copy_there b o tunnel bytes (ALetter l place full at_place there are) f = let lt = slice_get_within b.given place l there in omega (arith, at_place, lt)
copy_there b o tunnel bytes (Nothing empty are) f = absurd cc

-- a letter is kept with its session
kept_session : (session : ℕ) (m : Message) (hidden : Option (List ℕ)) → (letter_as session m hidden).session ≡ session
kept_session session m None = refl
kept_session session m (Some pairs) = refl

module _ (w : World) (h : History) (holds : Holds w h) (n : ℕ) (e : End) (ok : EndOk w h n e) (i : ℕ) (t : Tunnel) (there : at e.tunnels i ≡ Some t)
    (current : is_current (mode_of t.recovery) ≡ true) (epoch : ℕ) (epoch_is : epoch ≡ epoch_of w n i)
    (room : (h.accounts n i (epoch_of w n i)).first_given + length (h.accounts n i (epoch_of w n i)).given < 2 ^ 64) where
  abbrev u : ℕ
  u = epoch_of w n i

  abbrev a : Account
  a = h.accounts n i u

  live : LiveOk w h n i t
  live = ok.live i t there

  channel : ChannelOk h.accounts n i u a t
  channel = live.channel current

  account : AccountOk w h n i u a
  account = holds.accounts n i u

  made : IsMade a
  made = (holds.standings n i).entered live.made

  is_letter : (number : ℕ) (l : wire.Letter) → number < 2 ^ 64 → letter_at t number ≡ Some l → IsLetter a number l
  is_letter number l lt is =
      let acked = channel.acked in
      let place = place_of t.control.channel number in
      let kept : slice_get (map kept_letter (drop acked a.given)) place ≡ Some l = subst (λ ls. slice_get ls place ≡ Some l) channel.letters is in
      let k = mapped kept_letter (slice_get (drop acked a.given) place) l (sym (slice_get-map kept_letter (drop acked a.given) place) ∙ kept) in
      let found : slice_get a.given (acked + place) ≡ Some k.0 = sym (got_dropped acked a.given place) ∙ k.1 in
      let below = slice_get_within a.given (acked + place) k.0 found in
      let first = channel.acked_is in
      let fits = room in
      let place_is : place ≡ (number + (2 ^ 64 - t.control.channel.window.acked)) % 2 ^ 64 = refl in
      record {
        letter = k.0;
        place = acked + place;
        at_place = omega (arith, place_is, lt, below, first, fits);
        there = found;
        same = k.2;
      }

  -- one that doesn't know its other end
  unlearned : (c : ControlOrigin) → c.nr ≡ t.control.channel.inbox.taken → (c.empty ≡ false → c.ns < a.first_given + length a.given) → a.remote ≡ 0
      → (a.part ≡ Opener) × (IsLost a ⊎ ((c.nr ≡ 0) × (c.empty ≡ false → c.ns ≡ 0)))
  unlearned c nr below none = ⊎_elim
      (λ (own : a.part ≡ Opener).
      let o = (opener_of w h n i u a account own) in
      let zero = account.from_none o.0 in (
        own,
        ⊎_elim
            (λ (nothing : a.taken ≡ []). ⊎_elim
            (λ (one : length a.given ≡ 1). inr (
              (let taken = channel.taken in let z = zero.1 in let len = ap length nothing in omega (arith, nr, taken, z, len)),
              λ full. (let lt = below full in let z = zero.0 in omega (arith, lt, z, one)),
            ))
            (λ (lost : IsLost a × (length a.given ≤ 2)). inl lost.0)
            (o.1.one_given none))
            (λ (lost : IsLost a × (length a.taken ≤ 2)). inl lost.0)
            (o.1.none none),
      ))
      (λ k. ⊎_elim
      (λ (own : a.part ≡ Acceptor). absurd ((acceptor_of w h n i u a account own).1.known none))
      (λ (own : a.part ≡ Renewed). let some = (renewed_of w h n i u a account own).linked.to_some in absurd (omega (arith, some, none)))
      k)
      (part_cases a.part made)

  module _ (peer : ℕ) (peer_is : peer ≡ t.control.peer) (bytes : List ℕ) where
    abbrev packet : Origin → Packet
    packet o = packet_from n (node_of peer) bytes o epoch

    goes : node_of peer ≡ a.peer
    goes = ap node_of (peer_is ∙ channel.peer) ∙ node_again a.peer account.peer

    -- a copy, of whatever it says
    copy : (o : Origin) (c : ControlOrigin) → c.nr ≡ t.control.channel.inbox.taken → Says a c t.control.remote bytes → IsCopy a (packet o) c
    copy o c nr says = record {
      made = made;
      to = goes;
      nr = (let same = channel.taken in omega (arith, nr, same));
      tunnel = t.control.remote;
      named = ⊎_elim
          (λ (z : t.control.remote ≡ 0).
          let q = unlearned c nr (copy_there a c t.control.remote bytes says) (sym channel.remote ∙ z) in
          inl (z, q.0, q.1))
          (λ some. inr (some, channel.remote))
          (same_or_not t.control.remote 0);
      says = says;
    }

    packet_of : (o : Origin) (c : ControlOrigin) → c.tunnel ≡ t.control.local → o ≡ origin.Control c → IsCopy a (packet o) c → PacketOk w h (packet o)
    packet_of o c from is is_copy = record {
      from = ok.node;
      to = (let same = goes in let lt = account.peer in omega (arith, same, lt));
      sent = subst (OriginOk w h (packet o)) (sym is)
          (inl (subst (λ j. IsCopy (h.accounts n j epoch) (packet o) c) (sym (from ∙ live.local)) (subst (λ z. IsCopy (h.accounts n i z) (packet o) c) (sym epoch_is) is_copy)));
    }

    pub letter_sent : (o : Origin) (l : wire.Letter) (number : ℕ) → number < 2 ^ 64 → letter_at t number ≡ Some l
        → o ≡ origin.Control (record { tunnel = t.control.local; ns = number; nr = t.control.channel.inbox.taken; empty = false })
        → bytes ≡ control_bytes t.control.remote l.session (on_wire number) (on_wire t.control.channel.inbox.taken) l.avps → PacketOk w h (packet o)
    letter_sent o l number lt is origin_is are =
        let k = is_letter number l lt is in
        let c : ControlOrigin = record { tunnel = t.control.local; ns = number; nr = t.control.channel.inbox.taken; empty = false } in
        let nr = on_wire t.control.channel.inbox.taken in
        packet_of o c refl origin_is (copy o c refl (ALetter k.letter k.place refl k.at_place k.there (are
        ∙ ap (λ (q : wire.Letter). control_bytes t.control.remote q.session (on_wire number) nr q.avps) k.same
        ∙ ap (λ (q : ℕ). control_bytes t.control.remote q (on_wire number) nr (kept_letter k.letter).avps)
        (kept_session k.letter.session k.letter.message k.letter.hidden))))

    pub none_sent : (o : Origin) (number : ℕ) → o ≡ origin.Control (record { tunnel = t.control.local; ns = number; nr = t.control.channel.inbox.taken; empty = true })
        → bytes ≡ control_bytes t.control.remote 0 (on_wire number) (on_wire t.control.channel.inbox.taken) [] → PacketOk w h (packet o)
    none_sent o number origin_is are =
        let c : ControlOrigin = record { tunnel = t.control.local; ns = number; nr = t.control.channel.inbox.taken; empty = true } in
        packet_of o c refl origin_is (copy o c refl (Nothing refl are))
