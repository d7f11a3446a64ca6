-- A control message that is for a live tunnel is none of a recovery tunnel, nor does it decline an attempt.
use Rattle.std.proofs.Common.{◌≡◌, ◌⊎◌, inl, inr, ⊎_elim, ℕ, ◌<◌, Bool, true, false, cond, List, [], refl, sym, ap, ◌∙◌, subst, Option, Some, None, Result, Ok, Err, arith}
use Rattle.std.proofs.lemmas.Bool.{true≢false, eqb-false}
use Rattle.std.specs.Prelude.{is_some, ◌==◌}
use Rattle.id_table.specs.Ids.{at}
use Rattle.avp_codec.specs.declared.avp.Avp.{Avp}
use Rattle.avp_codec.specs.declared.error.AvpError.{AvpError}
use Rattle.avp_codec.specs.Reading.{avps_of}
use Rattle.control_message.specs.declared.message.Message.{Message}
use Rattle.control_message.specs.declared.message.MessageError.{MessageError}
use Rattle.control_message.specs.declared.message.Read.{Read}
use Rattle.control_message.specs.declared.message.Read.TheVariants.{Known, Ignored}
use Rattle.end_names.specs.Names.{address_of}
use Rattle.end_model.specs.declared.event.Addressee.{Addressee}
use Rattle.wire_base.specs.declared.why.Why.TheVariants as why
use Rattle.end_model.specs.declared.event.Addressee.TheVariants.{Opens, Stops, Nobody}
use Rattle.end_model.specs.declared.event.Event.{Event}
use Rattle.end_model.specs.Reading.{message_in, pairs_read, message_read, at_zero, zero_pairs, zero_read, message_said}
use Rattle.end_model.specs.Tunnels.{Tunnel}
use Rattle.end_model.specs.End.{End}
use Rattle.world_model.specs.declared.packet.Packet.{Packet}
use Rattle.world_model.specs.World.{World, Node, Sender}
use Rattle.step_laws.specs.Arrivals.{Came, IsAgain, IsStop, ComesTo}
use Rattle.step_laws.specs.Opens.{empty_opens_none}
use Rattle.frame_laws.specs.Codecs.{Codecs}
use Rattle.connection_laws.proofs.Stops.{no_stop}
use Rattle.channel_laws.specs.Accounts.{Account, History}
use Rattle.channel_laws.specs.Facts.{IsMade, SaysRecovery, AsksFor, Suggests, Confirms, Refuses, LiveOk, NodeOk, Holds}
use Rattle.channel_laws.proofs.Coming.{OfNoTunnel, OfRecovery}

-- ---- whom a message is for that names no tunnel, by what it says

module _ (y : Message) where
  pub record IsZero (a : Addressee) : Type 0 where
    pub avps : List Avp
    pub is : a ≡ zero_read avps (Ok (Known y))

  reads_so : (avps : List Avp) (q : Result Read MessageError) → message_read q ≡ Ok y → IsZero (zero_read avps q)
  unfolding message_read
  reads_so avps (Ok (Known z)) said = let same : z ≡ y = cc in record { avps = avps; is = ap (λ u. zero_read avps (Ok (Known u))) same }
  reads_so avps (Ok (Ignored n)) said = absurd cc
  reads_so avps (Err e) said = absurd cc

  pairs_so : (r : Result (List Avp) AvpError) → pairs_read r ≡ Ok y → IsZero (zero_pairs r)
  unfolding pairs_read zero_pairs
  pairs_so (Ok avps) said = reads_so avps (message_said avps) said
  pairs_so (Err e) said = absurd cc

  pub zero_of : (body : List ℕ) → message_in body ≡ Ok y → IsZero (at_zero body)
  unfolding message_in at_zero
  zero_of body said = pairs_so (avps_of body) said

-- ---- messages of recoveries

module _ (w : World) (h : History) (p : Packet) (own named r : ℕ) (avps : List Avp) where
  -- none opens a tunnel
  pub opens_none : (m : Message) → SaysRecovery w h p own named m → zero_read avps (Ok (Known m)) ≡ Opens r → ⊥
  unfolding zero_read
  opens_none _ (AsksFor q o is peer id recovery draw) to = let no : ⊥ = (let same = recovery.1 in let two = rw same at to in cc) in no
  opens_none _ (Suggests f o is to_node id suggested attempt) to = cc
  opens_none _ (Confirms f response is attempt from le) to = cc
  opens_none _ (Refuses result error fit) to = by (own == 0) to
    where
      by : (b : Bool) → cond b (Nobody why.Tunnel) (Stops own) ≡ Opens r → ⊥
      by true to = cc
      by false to = cc

  -- one that stops a tunnel tells its own id
  stops_own : (m : Message) → SaysRecovery w h p own named m → zero_read avps (Ok (Known m)) ≡ Stops r → (own ≡ r) × (own ≡ 0 → ⊥)
  unfolding zero_read
  stops_own _ (AsksFor q o is peer id recovery draw) to = absurd (let same = recovery.1 in let two = rw same at to in cc)
  stops_own _ (Suggests f o is to_node id suggested attempt) to = absurd cc
  stops_own _ (Confirms f response is attempt from le) to = absurd cc
  stops_own _ (Refuses result error fit) to = by (own == 0) refl to
    where
      by : (b : Bool) → (own == 0) ≡ b → cond b (Nobody why.Tunnel) (Stops own) ≡ Stops r → (own ≡ r) × (own ≡ 0 → ⊥)
      by true is to = absurd cc
      by false is to = (cc, eqb-false own 0 is)

-- ---- a tunnel of a node

module _ (w : World) (h : History) (holds : Holds w h) where
  -- its id is that of no attempt and no answer
  pub used_once : (m j : ℕ) → IsMade (h.accounts m j 0) → (is_some (h.attempts m j) ≡ true) ⊎ (is_some (h.answers m j) ≡ true) → ⊥
  used_once m j made is = by (at w.nodes m) (holds.nodes m)
    where
      by : (o : Option Node) → NodeOk w h m o → ⊥
      by None ok = made (ap (λ (a : Account). a.part) (ok.0 j 0))
      by (Some node) ok = ⊎_elim
          (λ s. true≢false (sym s ∙ ap is_some (ok.0.ids.no_attempt j made)))
          (λ s. true≢false (sym s ∙ ap is_some (ok.0.ids.no_answer j made)))
          is

  module _ (codecs : Codecs) (n : ℕ) (sender : Option Sender) (ev : Event) (i : ℕ) (t : Tunnel) (live : LiveOk w h n i t)
      (other : (q : ℕ) → t.control.peer ≡ address_of q → (t.control.remote ≡ 0 → ⊥) → IsMade (h.accounts q t.control.remote 0))
      (k : Came) (to : ComesTo ev t.control k) where
    some : 0 < i
    some = (holds.accounts n i 0).some live.made

    -- the message is of no recovery tunnel
    pub not_recovery : OfRecovery w h n sender k → ⊥
    not_recovery f = ⊎_elim
        (λ (names : k.header.tunnel ≡ t.control.local).
        let named : f.sent.named ≡ i = sym f.tunnel_is ∙ (names ∙ live.local) in
        ⊎_elim
        (λ (z : f.sent.named ≡ 0). omega (arith, z, named, some))
        (λ s. used_once n i live.made (⊎_elim
        (λ a. inl (subst (λ q. is_some (h.attempts n q) ≡ true) named (subst (λ q. is_some (h.attempts q f.sent.named) ≡ true) f.to a)))
        (λ a. inr (subst (λ q. is_some (h.answers n q) ≡ true) named (subst (λ q. is_some (h.answers q f.sent.named) ≡ true) f.to a))) s))
        f.sent.names)
        (λ other_way. ⊎_elim
        (λ (again : IsAgain k.header k.body t.control). ⊎_elim
        (λ (none : k.body ≡ []). empty_opens_none t.control.remote (ap at_zero (sym none) ∙ again.opens))
        (λ q.
        let z = zero_of q.0 k.body q.2 in
        opens_none w h f.packet f.own f.sent.named t.control.remote z.avps q.0 q.1 (sym z.is ∙ again.opens))
        f.says)
        (λ (stop : IsStop k.header k.body t.control). ⊎_elim
        (λ (none : k.body ≡ []). no_stop codecs t.control.remote (ap at_zero (sym none) ∙ stop.stops))
        (λ q.
        let z = zero_of q.0 k.body q.2 in
        let told = stops_own w h f.packet f.own f.sent.named t.control.remote z.avps q.0 q.1 (sym z.is ∙ stop.stops) in
        let made = other f.packet.from (sym to.peer ∙ f.peer_is) (λ zero. told.1 (told.0 ∙ zero)) in
        used_once f.packet.from f.own (subst (λ y. IsMade (h.accounts f.packet.from y 0)) (sym told.0) made) f.sent.is)
        f.says)
        other_way)
        to.tunnel

    -- nor does it decline an attempt
    pub named_by_stop : (e : End) (bytes : List ℕ) → (f : OfNoTunnel w h n e sender k bytes) → f.refusal.tunnel ≡ i
    named_by_stop e bytes f = ⊎_elim
        (λ (names : k.header.tunnel ≡ t.control.local). sym f.read.tunnel_is ∙ (names ∙ live.local))
        (λ other_way. ⊎_elim
        (λ (again : IsAgain k.header k.body t.control). absurd (zero_not (sym f.read.tunnel_is ∙ again.none)))
        (λ (stop : IsStop k.header k.body t.control). absurd (zero_not (sym f.read.tunnel_is ∙ stop.none)))
        other_way)
        to.tunnel
      where
        zero_not : f.refusal.tunnel ≡ 0 → ⊥
        zero_not z = ⊎_elim
            (λ q. (let lt = (holds.accounts f.packet.to f.refusal.tunnel 0).some (λ none. let two = sym q.0 ∙ none in cc) in omega (arith, z, lt)))
            (λ q. (let lt = (holds.attempts f.packet.to f.refusal.tunnel q.0 q.1).some in omega (arith, z, lt)))
            f.refusal.asked
