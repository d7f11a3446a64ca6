-- The SCCCN that an end takes, which answered an attempt, was sent by its other end, which entered the epoch of that answer by it.
use Rattle.std.proofs.Common.{◌≡◌, inl, inr, ⊎_elim, ℕ, ◌≤◌, List, refl, sym, ap, ap₂, ◌∙◌, subst, Option, Some, Result, Ok, Err, arith}
use Rattle.avp_codec.specs.declared.avp.Avp.{Avp}
use Rattle.avp_codec.specs.declared.error.AvpError.{AvpError}
use Rattle.avp_codec.specs.Reading.{avps_of}
use Rattle.control_message.specs.declared.message.Message.{Message}
use Rattle.control_message.specs.declared.message.Message.TheVariants.{Scccn}
use Rattle.control_message.specs.declared.message.MessageError.{MessageError}
use Rattle.control_message.specs.declared.message.Read.{Read}
use Rattle.control_message.specs.declared.message.Read.TheVariants.{Known, Ignored}
use Rattle.wire_base.specs.declared.why.Why.TheVariants as why
use Rattle.end_names.specs.Names.{node_of}
use Rattle.end_model.specs.declared.event.Addressee.TheVariants.{Nobody}
use Rattle.end_model.specs.declared.event.Event.{Event}
use Rattle.end_model.specs.declared.moves.Froze.{Froze}
use Rattle.end_model.specs.declared.moves.ResetAnswering.{ResetAnswering}
use Rattle.end_model.specs.declared.moves.Move.TheVariants as move
use Rattle.end_model.specs.Reading.{message_in, pairs_read, message_read, at_zero, zero_pairs, zero_read, message_said}
use Rattle.end_model.specs.End.{End}
use Rattle.world_model.specs.declared.packet.Packet.{Packet}
use Rattle.world_model.specs.World.{World, Node, Sender, Deed, epoch_of}
use Rattle.step_laws.specs.Moves.{ResetsAnswering}
use Rattle.frame_laws.specs.Codecs.{Codecs}
use Rattle.connection_laws.proofs.Hearing.{no_message}
use Rattle.channel_laws.specs.Accounts.{Account, History}
use Rattle.channel_laws.specs.Facts.{IsMade, makes, AreLinked, AnswerOk, BeginsBy, AsGiver, AsPeer, IsRenewed, SaysRecovery, AsksFor, Suggests, Confirms, Refuses, EndOk, BookOk, NodeOk}
use Rattle.channel_laws.specs.Recoveries.{WrittenIsRead, WrittenHasRoom}
use Rattle.channel_laws.specs.Epochs.{OfOneLink}
use Rattle.channel_laws.specs.Steps.{IsMoved}
use Rattle.channel_laws.proofs.Linked.{part_cases, opener_of, acceptor_of, renewed_of}
use Rattle.channel_laws.proofs.Naming.{copy_names}
use Rattle.channel_laws.proofs.Coming.{FromTunnel, OfNoTunnel, OfRecovery, heard}
use Rattle.channel_laws.proofs.ResetsAnswering as channel
use Rattle.recovery_join_laws.proofs.Leading.{made_to}

-- ---- an SCCCN that names no tunnel is for none

module _ (body : List ℕ) (o : Option (List ℕ)) where
  reads_so : (avps : List Avp) (q : Result Read MessageError) → message_read q ≡ Ok (Scccn o) → zero_read avps q ≡ Nobody why.Tunnel
  unfolding message_read zero_read
  reads_so avps (Ok (Known y)) said = let same : y
      ≡ Scccn o = cc in subst (λ z. zero_read avps (Ok (Known z)) ≡ Nobody why.Tunnel) (sym same) refl
  reads_so avps (Ok (Ignored n)) said = absurd cc
  reads_so avps (Err e) said = absurd cc

  pairs_so : (r : Result (List Avp) AvpError) → pairs_read r ≡ Ok (Scccn o) → zero_pairs r ≡ Nobody why.Tunnel
  unfolding pairs_read zero_pairs
  pairs_so (Ok avps) said = reads_so avps (message_said avps) said
  pairs_so (Err e) said = absurd cc

  confirmation_names : message_in body ≡ Ok (Scccn o) → at_zero body ≡ Nobody why.Tunnel
  unfolding message_in at_zero
  confirmation_names said = pairs_so (avps_of body) said

-- ---- the other end

module _ (codecs : Codecs) (again : WrittenIsRead) (room : WrittenHasRoom) (w : World) (h : History) (n : ℕ) (node : Node)
    (sender : Option Sender)
    (moment : ℕ) (ev : Event) (m : ResetAnswering) (x : End) (d : Deed)
    (k : IsMoved w h n node sender moment ev (move.ResetAnswering m) x d) where
  abbrev does : ResetsAnswering node.end moment ev m x
  does = k.does

  abbrev f : Froze
  f = channel.f w h n node sender moment ev m x d k

  abbrev e : ℕ
  e = makes w n m.answer

  abbrev other : ℕ
  other = node_of f.peer

  is : h.answers n m.answer ≡ Some f
  is = channel.is w h n node sender moment ev m x d k

  ok : AnswerOk w h n m.answer f
  ok = channel.ok w h n node sender moment ev m x d k

  link : AreLinked h.accounts n m.tunnel other f.remote
  link = channel.link w h n node sender moment ev m x d k

  both_ok : EndOk w h n node.end × BookOk h n node.checkpoint.book
  both_ok = subst (NodeOk w h n) k.there (k.holds.nodes n)

  -- the message names the answer
  names_it : does.letter.header.tunnel ≡ m.answer
  names_it = ⊎_elim
      (λ to. to ∙ does.local)
      (λ q. ⊎_elim
      (λ to. (let two = sym to ∙ confirmation_names does.letter.body does.response does.said in absurd cc))
      (λ to. (let two = sym to ∙ confirmation_names does.letter.body does.response does.said in absurd cc))
      q.1)
      does.comes.line

  by_message : (p : Packet) (own named : ℕ) (q : Message) → SaysRecovery w h p own named q → q ≡ Scccn does.response → p.to ≡ n
      → does.letter.header.tunnel ≡ named → e ≤ epoch_of w other f.remote
  by_message p own named _ (Confirms g response answered attempt from le) same to names =
      let it : named ≡ m.answer = sym names ∙ names_it in
      let both : Some g ≡ Some f = sym answered ∙ (ap₂ h.answers to it ∙ is) in
      let g_is : g ≡ f = cc in
      let makes_same : makes w p.to named ≡ e = ap₂ (makes w) to it in
      let epoch_same : epoch_of w p.from g.remote ≡ epoch_of w other f.remote =
      ap (λ y. epoch_of w y g.remote) (from ∙ ap (λ (y : Froze). node_of y.peer) g_is)
      ∙ ap (λ (y : Froze). epoch_of w other y.remote) g_is in
      omega (arith, le, makes_same, epoch_same)
  by_message p own named _ (AsksFor r o asked peer id recovery draw) same to names = absurd cc
  by_message p own named _ (Suggests g o answered to_peer id suggested attempt) same to names = absurd cc
  by_message p own named _ (Refuses result error fit) same to names = absurd cc

  -- a tunnel names a tunnel, and not an answer
  not_from_tunnel : FromTunnel w h n node.end sender does.letter does.comes.came.bytes → ⊥
  not_from_tunnel g =
      let named : g.copy.tunnel ≡ m.answer = sym g.read.tunnel_is ∙ names_it in
      let some = ok.some in
      let made = copy_names w h k.holds g.packet g.o g.packet.epoch g.copy (λ z. let no : ⊥ = omega (arith, named, z, some) in no) in
      let here : IsMade (h.accounts n m.answer 0) = subst (λ q. IsMade (h.accounts n q 0)) named
      (subst (λ q. IsMade (h.accounts q g.copy.tunnel 0)) g.to made) in
      let none = both_ok.0.ids.no_answer m.answer here in
      let two = sym none ∙ is in
      cc

  entered : e ≤ epoch_of w other f.remote
  entered = ⊎_elim
      (λ g. absurd (not_from_tunnel g))
      (λ r. ⊎_elim
      (λ (g : OfNoTunnel w h n node.end sender does.letter does.comes.came.bytes).
      let both = sym g.read.said ∙ (ap message_in (sym does.comes.came.body_is) ∙ does.said) in absurd cc)
      (λ (g : OfRecovery w h n sender does.letter). ⊎_elim
      (λ none. absurd (no_message codecs (Scccn does.response) (ap message_in (sym none) ∙ does.said)))
      (λ q.
      let both = sym q.2 ∙ does.said in
      let same : q.0 ≡ Scccn does.response = cc in
      by_message g.packet g.own g.sent.named q.0 q.1 same g.to g.tunnel_is)
      g.says) r)
      (heard w h k.holds codecs again room n node.end sender ev k.comes does.letter does.comes.came)

  -- it is in no epoch above that
  same_epoch : epoch_of w other f.remote ≡ e
  same_epoch =
      let most = (k.known.frozen n m.tunnel other f.remote does.tunnel does.old (record { node = node; is = k.there; there = does.there })
      does.answers
      does.waits link).1 in
      let it = ap (makes w n) does.local in
      let le = entered in
      omega (arith, most, it, le)

  -- its channel of the epoch
  abbrev a : Account
  a = h.accounts other f.remote e

  made : IsMade a
  made = subst (λ y. IsMade (h.accounts other f.remote y)) same_epoch
      ((k.holds.standings other f.remote).entered (made_to h.accounts n m.tunnel other f.remote link))

  renewed : IsRenewed w h other f.remote e a
  renewed = ⊎_elim
      (λ p. (let z = (opener_of w h other f.remote e a (k.holds.accounts other f.remote e) p).0 in
      let lt = ok.epoch_some in absurd (omega (arith, z, lt))))
      (λ p. ⊎_elim
      (λ p. (let z = (acceptor_of w h other f.remote e a (k.holds.accounts other f.remote e) p).0 in
      let lt = ok.epoch_some in absurd (omega (arith, z, lt))))
      (λ p. renewed_of w h other f.remote e a (k.holds.accounts other f.remote e) p)
      p)
      (part_cases a.part made)

  -- it began by an answer of the link, which is this one
  goes_to : (a.peer ≡ n) × (a.remote ≡ m.tunnel)
  goes_to = (renewed.peer ∙ link.back_peer, renewed.remote ∙ link.back)

  by : BeginsBy h other f.remote a renewed.by.node renewed.by.tunnel renewed.froze → OfOneLink n f renewed.by.node renewed.froze
  by (AsGiver y z g s t p) = inr (y, z)
  by (AsPeer y z g s t p) = inl (sym (y ∙ goes_to.0), (channel.answered w h n node sender moment ev m x d k).2 ∙ sym (z ∙ goes_to.1))

  pub confirmed_by : (h.accounts (node_of (channel.f w h n node sender moment ev m x d k).peer)
      (channel.f w h n node sender moment ev m x d k).remote
      (makes w n m.answer)).answer ≡ Some (record { node = n; tunnel = m.answer })
  confirmed_by =
      let same = k.known.one n m.answer f renewed.by.node renewed.by.tunnel renewed.froze is renewed.answered (by renewed.begins)
      (sym renewed.makes_it) in
      renewed.answer ∙ ap₂ (λ (y z : ℕ). Some (record { node = y; tunnel = z })) (sym same.0) (sym same.1)
