-- What a step sends is a copy of a letter of its sender, or of none, or a data message.
use Rattle.std.proofs.Common.{◌≡◌, ◌⊎◌, inl, inr, ⊎_elim, ℕ, zero, suc, ◌+◌, ◌-◌, ◌%◌, ◌^◌, ◌<◌, ◌≤◌, true, false, List, [], ◌∷◌, length, drop, map, refl, sym, ap, ◌∙◌, subst, Option, Some, None, arith}
use Rattle.std.proofs.lemmas.Option.{none-some, slice_get-map, slice_get_within}
use Rattle.std.specs.Prelude.{slice_get, option_map}
use Rattle.id_table.specs.Ids.{at}
use Rattle.id_table.specs.Order.{same_or_not}
use Rattle.wire_base.specs.declared.letter.Letter as wire
use Rattle.l2tp_header.specs.Spelling.{control_bytes}
use Rattle.recv_window.specs.Window.{on_wire}
use Rattle.control_channel.specs.Numbers.{place_of}
use Rattle.end_model.specs.declared.event.Event.{Event}
use Rattle.end_model.specs.declared.moves.Move.{Move}
use Rattle.end_model.specs.declared.out.Origin.{Origin}
use Rattle.end_model.specs.declared.out.Origin.TheVariants as origin
use Rattle.end_model.specs.declared.out.ControlOrigin.{ControlOrigin}
use Rattle.world_model.specs.declared.packet.Packet.{Packet}
use Rattle.end_names.specs.Names.{node_of}
use Rattle.control_message.specs.declared.message.Message.{Message}
use Rattle.end_model.specs.Tunnels.{Tunnel}
use Rattle.end_model.specs.Channels.{letter_as}
use Rattle.end_model.specs.End.{End}
use Rattle.world_model.specs.World.{Sender, packet_from}
use Rattle.step_laws.specs.Letters.{Letter, letter_at, Carries}
use Rattle.step_laws.specs.Letters as carries
use Rattle.connection_laws.specs.Accounts.{Part, Unmade, Opener, Acceptor, Account}
use Rattle.connection_laws.specs.Facts.{Accounts, IsMade, IsLost, IsPart, AccountOk, kept_letter, LiveOk, Says, ALetter, Nothing, IsCopy, OriginOk, PacketOk, Within}
use Rattle.connection_laws.proofs.Written.{node_again}
use Rattle.connection_laws.proofs.Later.{live_made}
use Rattle.connection_laws.proofs.Budget.{GivenBelow}
use Rattle.connection_laws.proofs.Steps.{FramesFit}

-- what is behind the first ones
pub got_dropped : {X : Type 0} (k : ℕ) (xs : List X) (p : ℕ) → slice_get (drop k xs) p ≡ slice_get xs (k + p)
got_dropped zero xs p = (let e : 0 + p ≡ p = omega arith in rw e refl)
got_dropped (suc k) [] p = refl
got_dropped (suc k) (x ∷ xs) p = (let e : suc k + p ≡ suc (k + p) = omega arith in rw e (got_dropped k xs p))

-- the letter that a tunnel keeps at the place of a number
record IsLetter (a : Account) (number : ℕ) (l : wire.Letter) : Type 0 where
  letter : Letter
  there : slice_get a.given number ≡ Some letter
  same : l ≡ kept_letter letter

pub mapped : {A B : Type 0} (f : A → B) (o : Option A) (y : B) → option_map f o ≡ Some y → (x : A) × (o ≡ Some x) × (y ≡ f x)
mapped f None y h = absurd cc
mapped f (Some x) y h = (x, refl, (let e : f x ≡ y = cc in sym e))

-- its place is as far behind the first as its number is
number_there : (acked number count place : ℕ) → place ≡ (number + (2 ^ 64 - acked)) % 2 ^ 64 → number < 2 ^ 64 → acked + place < count → count < 2 ^ 64
    → acked + place ≡ number
number_there acked number count place is lt there room = omega (arith, is, lt, there, room)

-- a tunnel that has learned none is lost, or has given one letter and taken nothing
none_learned : (accs : Accounts) (n i : ℕ) (a : Account) (q : Part) → IsPart accs n i a q → (q ≡ Unmade → ⊥) → a.remote ≡ 0
    → IsLost a ⊎ ((length a.taken ≡ 0) × (length a.given ≡ 1))
none_learned accs n i a Unmade ok made z = absurd (made refl)
none_learned accs n i a Opener ok made z = ⊎_elim
    (λ (none : a.taken ≡ []).
    ⊎_elim (λ (one : length a.given ≡ 1). inr (ap length none, one)) (λ (k : IsLost a × (length a.given ≤ 2)). inl k.0) (ok.one_given z))
    (λ (k : IsLost a × (length a.taken ≤ 2)). inl k.0)
    (ok.none z)
none_learned accs n i a Acceptor ok made z = absurd (ok.known z)

-- a letter is kept with its session
kept_session : (session : ℕ) (m : Message) (hidden : Option (List ℕ)) → (letter_as session m hidden).session ≡ session
kept_session session m None = refl
kept_session session m (Some pairs) = refl

-- an acceptor has learned its opener
opener_only : (accs : Accounts) (n i : ℕ) (a : Account) (q : Part) → IsPart accs n i a q → (q ≡ Unmade → ⊥) → a.remote ≡ 0 → q ≡ Opener
opener_only accs n i a Unmade ok made z = absurd (made refl)
opener_only accs n i a Opener ok made z = refl
opener_only accs n i a Acceptor ok made z = absurd (ok.known z)

-- the letter of a copy that isn't empty was given
pub copy_there : (b : Account) (o : ControlOrigin) (tunnel : ℕ) (bytes : List ℕ) → Says b o tunnel bytes → o.empty ≡ false → o.ns < length b.given
copy_there b o tunnel bytes (ALetter l full there are) f = slice_get_within b.given o.ns l there
copy_there b o tunnel bytes (Nothing empty are) f = absurd cc

module _ (ms : Accounts) (n : ℕ) (x : End) (sender : Option Sender) (ev : Event) (most : ℕ) (within : Within ms n x sender ev) (given : GivenBelow ms most)
    (last : most + 1 < 2 ^ 64) (i : ℕ) (t : Tunnel) (there : at x.tunnels i ≡ Some t) where
  abbrev a : Account
  a = ms n i

  live : LiveOk ms n i a t
  live = within.end.live i t there

  ok : AccountOk ms n i a
  ok = within.accounts n i

  made : IsMade a
  made = live_made ms n i a t live

  is_letter : (number : ℕ) (l : wire.Letter) → number < 2 ^ 64 → letter_at t number ≡ Some l → IsLetter a number l
  is_letter number l lt is =
      let acked = t.control.channel.window.acked in
      let place = place_of t.control.channel number in
      let kept : slice_get (map kept_letter (drop acked a.given)) place ≡ Some l = subst (λ ls. slice_get ls place ≡ Some l) live.letters is in
      let k = mapped kept_letter (slice_get (drop acked a.given) place) l (sym (slice_get-map kept_letter (drop acked a.given) place) ∙ kept) in
      let found : slice_get a.given (acked + place) ≡ Some k.0 = sym (got_dropped acked a.given place) ∙ k.1 in
      let lt_given = slice_get_within a.given (acked + place) k.0 found in
      let le = given n i in
      let same = number_there acked number (length a.given) place refl lt lt_given (omega (arith, last)) in
      record { letter = k.0; there = subst (λ q. slice_get a.given q ≡ Some k.0) same found; same = k.2 }

  module _ (peer : ℕ) (peer_is : peer ≡ t.control.peer) (bytes : List ℕ) where
    abbrev packet : Origin → Packet
    packet o = packet_from n (node_of peer) bytes o 0

    -- a copy, of whatever it says
    copy : (o : Origin) (c : ControlOrigin) → c.nr ≡ t.control.channel.inbox.taken → Says a c t.control.remote bytes → IsCopy a (packet o) c
    copy o c nr says = record {
      made = made;
      to = ap node_of (peer_is ∙ live.peer) ∙ node_again a.peer ok.peer;
      nr = (let same = live.taken in omega arith);
      tunnel = t.control.remote;
      named = ⊎_elim
          (λ (z : t.control.remote ≡ 0). inl (
            z,
            opener_only ms n i a a.part ok.part made (sym live.remote ∙ z),
            ⊎_elim
                (λ (lost : IsLost a). inl lost)
                (λ (k : (length a.taken ≡ 0) × (length a.given ≡ 1)).
                inr (nr ∙ live.taken ∙ k.0, λ full. (let lt = copy_there a c t.control.remote bytes says full in let one = k.1 in omega arith)))
                (none_learned ms n i a a.part ok.part made (sym live.remote ∙ z)),
          ))
          (λ some. inr (some, live.remote)) (same_or_not t.control.remote 0);
      says = says;
    }

    -- the packet of one that the tunnel sends
    packet_of : (o : Origin) (c : ControlOrigin) → c.tunnel ≡ t.control.local → o ≡ origin.Control c → IsCopy a (packet o) c → PacketOk ms (packet o)
    packet_of o c from is is_copy = record {
      from = within.end.node;
      epoch = refl;
      sent = subst (λ q. OriginOk ms (packet o) q) (sym is)
          (inl (subst (λ j. IsCopy (ms n j) (packet o) c) (sym (from ∙ live.local)) is_copy));
    }

    pub carries_ok : (moves : List Move) → FramesFit moves → (o : Origin) → Carries x.role x.config t moves bytes o → PacketOk ms (packet o)
    carries_ok moves fit o (carries.ALetter current l number lt is origin_is are) =
        let k = is_letter number l lt is in
        let c : ControlOrigin = record { tunnel = t.control.local; ns = number; nr = t.control.channel.inbox.taken; empty = false } in
        let nr = on_wire t.control.channel.inbox.taken in
        packet_of o c refl origin_is (copy o c refl (ALetter k.letter refl k.there (are
        ∙ ap (λ (q : wire.Letter). control_bytes t.control.remote q.session (on_wire number) nr q.avps) k.same
        ∙ ap (λ (q : ℕ). control_bytes t.control.remote q (on_wire number) nr (kept_letter k.letter).avps)
        (kept_session k.letter.session k.letter.message k.letter.hidden))))
    carries_ok moves fit o (carries.Nothing current number origin_is are) =
        let c : ControlOrigin = record { tunnel = t.control.local; ns = number; nr = t.control.channel.inbox.taken; empty = true } in
        packet_of o c refl origin_is (copy o c refl (Nothing refl are))
    carries_ok moves fit o (carries.AFrame f among tunnel_is same number origin_is are) = record {
      from = within.end.node;
      epoch = refl;
      sent = subst (λ q. OriginOk ms (packet o) q) (sym origin_is) (record {
        tunnel = t.control.remote;
        tunnel_fits = rw live.remote ok.remote;
        session = f.remote;
        session_fits = fit f among;
        number = f.number;
        number_fits = number;
        frame = f.frame;
        are = are;
      });
    }
    -- it has no recovery tunnel
    carries_ok moves fit o (carries.InRecovery r has m said number nr small origin_is are) = absurd (none-some r (sym live.recovery ∙ has))
    carries_ok moves fit o (carries.NothingInRecovery r has number nr small origin_is are) = absurd (none-some r (sym live.recovery ∙ has))
