-- An attempt that refuses an SCCRP learns of it the id of the answer that sent it.
use Rattle.std.proofs.Common.{◌≡◌, ⊎_elim, ℕ, true, sym, ap, ap₂, ◌∙◌, subst, Option, Some, arith}
use Rattle.std.specs.Prelude.{is_some}
use Rattle.control_message.specs.declared.message.Message.{Message}
use Rattle.control_message.specs.declared.message.Message.TheVariants.{Sccrp}
use Rattle.control_message.specs.declared.message.Opening.{Opening}
use Rattle.end_names.specs.Names.{address_of}
use Rattle.end_model.specs.declared.event.Event.{Event}
use Rattle.end_model.specs.declared.moves.Move.TheVariants as move
use Rattle.end_model.specs.Reading.{message_in}
use Rattle.end_model.specs.Tunnels.{ByAttempt}
use Rattle.end_model.specs.End.{End}
use Rattle.world_model.specs.declared.packet.Packet.{Packet}
use Rattle.world_model.specs.World.{World, Node, Sender, Deed}
use Rattle.step_laws.specs.Moves.{GoesOn, LearnsOfReply}
use Rattle.frame_laws.specs.Codecs.{Codecs}
use Rattle.connection_laws.proofs.Hearing.{no_message, same_address}
use Rattle.channel_laws.specs.Accounts.{History}
use Rattle.channel_laws.specs.Facts.{IsMade, IsRecovered, AttemptOk, LiveOk, EndOk, BookOk, NodeOk, SaysRecovery, AsksFor, Suggests, Confirms, Refuses}
use Rattle.channel_laws.specs.Recoveries.{WrittenIsRead, WrittenHasRoom}
use Rattle.channel_laws.specs.Steps.{IsMoved}
use Rattle.channel_laws.proofs.Naming.{reply_answers, copy_names}
use Rattle.channel_laws.proofs.Coming.{FromTunnel, OfNoTunnel, OfRecovery, heard}

module _ (codecs : Codecs) (again : WrittenIsRead) (room : WrittenHasRoom) (w : World) (h : History) (n : ℕ) (node : Node) (sender : Option Sender) (moment : ℕ) (ev : Event)
    (i : ℕ) (x : End) (d : Deed) (k : IsMoved w h n node sender moment ev (move.RecoveryWentOn i) x d) where
  abbrev does : GoesOn node.end ev i x
  does = k.does

  both_ok : EndOk w h n node.end × BookOk h n node.checkpoint.book
  both_ok = subst (NodeOk w h n) k.there (k.holds.nodes n)

  live : LiveOk w h n i does.tunnel
  live = both_ok.0.live i does.tunnel does.there

  module _ (l : LearnsOfReply ev does.tunnel.control.peer does.old does.remote) where
    tried : IsRecovered w h n i (ByAttempt l.connection)
    tried = live.recovery (ByAttempt l.connection) (does.has ∙ ap (λ r. Some r) l.is)

    tried_ok : AttemptOk h n l.connection.local tried.0.0
    tried_ok = k.holds.attempts n l.connection.local tried.0.0 tried.0.1

    -- the message names the attempt
    names_it : l.letter.header.tunnel ≡ l.connection.local
    names_it = ⊎_elim
        (λ is. is)
        (λ q. ⊎_elim
        (λ to. (let two = sym to ∙ reply_answers l.letter.body l.opening l.said in absurd cc))
        (λ to. (let two = sym to ∙ reply_answers l.letter.body l.opening l.said in absurd cc))
        q.1)
        l.comes.line

    by_message : (p : Packet) (own named : ℕ) (q : Message) → SaysRecovery w h p own named q → q ≡ Sccrp l.opening → l.letter.peer ≡ address_of p.from
        → is_some (h.answers (h.accounts n i 0).peer does.remote) ≡ true
    by_message p own named _ (Suggests f o is to id suggested attempt) same from =
        let one : o ≡ l.opening = cc in
        let node_is : (h.accounts n i 0).peer ≡ p.from = same_address _ _ (sym live.peer ∙ (sym l.comes.peer_is ∙ from)) in
        let answer_is : does.remote ≡ own = l.remote_is ∙ (ap (λ (y : Opening). y.tunnel) (sym one) ∙ id) in
        ap is_some (ap₂ h.answers node_is answer_is ∙ is)
    by_message p own named _ (AsksFor r o is peer id recovery draw) same from = absurd cc
    by_message p own named _ (Confirms f response is attempt from_is le) same from = absurd cc
    by_message p own named _ (Refuses result error fit) same from = absurd cc

    -- a tunnel names a tunnel, and not an attempt
    not_from_tunnel : FromTunnel w h n node.end sender l.letter l.comes.came.bytes → is_some (h.answers (h.accounts n i 0).peer does.remote) ≡ true
    not_from_tunnel f =
        let named : f.copy.tunnel ≡ l.connection.local = sym f.read.tunnel_is ∙ names_it in
        let some = tried_ok.some in
        let made = copy_names w h k.holds f.packet f.o f.packet.epoch f.copy (λ z. let no : ⊥ = omega (arith, named, z, some) in no) in
        let here : IsMade (h.accounts n l.connection.local 0) = subst (λ q. IsMade (h.accounts n q 0)) named (subst (λ q. IsMade (h.accounts q f.copy.tunnel 0)) f.to made) in
        let none = both_ok.0.ids.no_attempt l.connection.local here in
        let two = sym none ∙ tried.0.1 in
        absurd cc

    pub learned_answer : is_some (h.answers (h.accounts n i 0).peer does.remote) ≡ true
    learned_answer = ⊎_elim
        (λ f. not_from_tunnel f)
        (λ r. ⊎_elim
        (λ (f : OfNoTunnel w h n node.end sender l.letter l.comes.came.bytes).
        let both = sym f.read.said ∙ (ap message_in (sym l.comes.came.body_is) ∙ l.said) in absurd cc)
        (λ (f : OfRecovery w h n sender l.letter). ⊎_elim
        (λ none. absurd (no_message codecs (Sccrp l.opening) (ap message_in (sym none) ∙ l.said)))
        (λ q.
        let both = sym q.2 ∙ l.said in
        let same : q.0 ≡ Sccrp l.opening = cc in
        by_message f.packet f.own f.sent.named q.0 q.1 same f.peer_is)
        f.says) r)
        (heard w h k.holds codecs again room n node.end sender ev k.comes l.letter l.comes.came)
