-- The end that attempts resets its tunnel, by the answer that it takes, and enters the epoch of that answer.
use Rattle.std.proofs.Common.{◌≡◌, inl, inr, ⊎_elim, ℕ, ◌<◌, ◌≤◌, false, refl, sym, ap, ap₂, ◌∙◌, subst, Option, Some, arith}
use Rattle.std.specs.Prelude.{unwrap_or, max, is_some}
use Rattle.control_message.specs.declared.message.Message.{Message}
use Rattle.control_message.specs.declared.message.Message.TheVariants.{Sccrp}
use Rattle.control_message.specs.declared.message.Opening.{Opening}
use Rattle.control_message.specs.declared.message.Suggested.{Suggested}
use Rattle.recovery_tunnel.specs.Attempts.{suggested_in}
use Rattle.end_names.specs.Names.{address_of, node_of}
use Rattle.end_model.specs.declared.event.Event.{Event}
use Rattle.end_model.specs.declared.moves.Froze.{Froze}
use Rattle.end_model.specs.declared.moves.Restored.{Restored}
use Rattle.end_model.specs.declared.moves.ResetAttempting.{ResetAttempting}
use Rattle.end_model.specs.declared.moves.Move.TheVariants as move
use Rattle.end_model.specs.Reading.{message_in}
use Rattle.end_model.specs.Tunnels.{ByAttempt, mode_of, is_current}
use Rattle.end_model.specs.End.{End}
use Rattle.world_model.specs.declared.packet.Packet.{Packet}
use Rattle.world_model.specs.declared.standing.Standing.{Standing}
use Rattle.world_model.specs.World.{World, Node, Sender, Deed, epoch_of, standing_of, enters_epoch, moved}
use Rattle.step_laws.specs.Moves.{ResetsAttempting}
use Rattle.frame_laws.specs.Codecs.{Codecs}
use Rattle.connection_laws.proofs.Hearing.{no_message}
use Rattle.channel_laws.proofs.Sessions.{sessions_fit}
use Rattle.channel_laws.specs.Accounts.{Account, renewed, History, after}
use Rattle.channel_laws.specs.Facts.{IsMade, makes, AreLinked, AttemptOk, AnswerOk, BeginsBy, AsGiver, AsPeer, IsRenewed, IsRecovered, LiveOk, EndOk, BookOk, NodeOk, SaysRecovery, AsksFor, Suggests, Confirms, Refuses, Holds}
use Rattle.channel_laws.specs.Recoveries.{WrittenIsRead, WrittenHasRoom}
use Rattle.channel_laws.specs.Epochs.{OfOneLink}
use Rattle.channel_laws.specs.Steps.{with_end, moves_on, IsMoved}
use Rattle.channel_laws.proofs.Anew.{Begins, first}
use Rattle.channel_laws.proofs.Linked.{linked_back}
use Rattle.channel_laws.proofs.Resetting.{grows}
use Rattle.channel_laws.proofs.Deeds.{not_entered, attempting_begins}
use Rattle.channel_laws.proofs.Answering.{agrees, new_renewed}
use Rattle.channel_laws.proofs.Entering.{base_makes, world_then, enters_is, own_standing, other_standing, makes_then}
use Rattle.channel_laws.proofs.Waiting.{waits_inactive, reset_current, node_again, linked_knows}
use Rattle.channel_laws.proofs.Naming.{reply_answers, copy_names}
use Rattle.channel_laws.proofs.Coming.{FromTunnel, OfNoTunnel, OfRecovery, heard}
use Rattle.channel_laws.proofs.Begun.{resets_hold}

-- the answer that is taken
pub record IsReplied (h : History) (n peer answer attempt send_from expect : ℕ) : Type 0 where
  pub from : ℕ
  pub from_fits : from < 256
  pub address : peer ≡ address_of from
  pub froze : Froze
  pub there : h.answers from answer ≡ Some froze
  pub goes : node_of froze.peer ≡ n
  pub attempt_is : froze.attempt ≡ attempt
  pub ours : froze.expect ≡ send_from
  pub theirs : froze.send_from ≡ expect

module _ (codecs : Codecs) (again : WrittenIsRead) (room : WrittenHasRoom) (w : World) (h : History) (n : ℕ) (node : Node) (sender : Option Sender) (moment : ℕ) (ev : Event)
    (m : ResetAttempting) (x : End) (d : Deed) (k : IsMoved w h n node sender moment ev (move.ResetAttempting m) x d) where
  abbrev pub does : ResetsAttempting node.end moment ev m x
  does = k.does

  abbrev pub i : ℕ
  i = m.tunnel

  abbrev pub other : ℕ
  other = node_of m.peer

  abbrev pub e : ℕ
  e = makes w other m.answer

  abbrev pub v : World
  v = world_then w n node k.there x i e

  pub moves_is : moves_on w n node (move.ResetAttempting m) x ≡ v
  unfolding moved
  moves_is = ap (λ q. enters_epoch (with_end w n node x) n m.tunnel q) (base_makes w n node k.there x (node_of m.peer) m.answer) ∙ enters_is w n node k.there x m.tunnel e

  pub epoch_now : epoch_of v n i ≡ e
  epoch_now = ap (λ (s : Standing). s.epoch) (own_standing w n node k.there x i e)

  both_ok : EndOk w h n node.end × BookOk h n node.checkpoint.book
  both_ok = subst (NodeOk w h n) k.there (k.holds.nodes n)

  pub live : LiveOk w h n i does.tunnel
  live = both_ok.0.live i does.tunnel does.there

  -- ---- its attempt, and the answer to it

  pub tried : IsRecovered w h n i (ByAttempt does.old)
  tried = live.recovery (ByAttempt does.old) does.attempts

  tried_ok : AttemptOk h n does.old.local tried.0.0
  tried_ok = k.holds.attempts n does.old.local tried.0.0 tried.0.1

  -- the message names the attempt
  names_it : does.letter.header.tunnel ≡ does.old.local
  names_it = ⊎_elim
      (λ is. is)
      (λ q. ⊎_elim
      (λ to. (let two = sym to ∙ reply_answers does.letter.body does.opening does.said in absurd cc))
      (λ to. (let two = sym to ∙ reply_answers does.letter.body does.opening does.said in absurd cc))
      q.1)
      does.comes.line

  by_message : (p : Packet) (own named : ℕ) (q : Message) → SaysRecovery w h p own named q → q ≡ Sccrp does.opening → p.from < 256 → p.to ≡ n → m.peer ≡ address_of p.from
      → does.letter.header.tunnel ≡ named → IsReplied h n m.peer m.answer does.old.local m.send_from m.expect
  by_message p own named _ (Suggests f o is to id suggested attempt) same fits to_n from names =
      let one : o ≡ does.opening = cc in
      let numbers : ◌≡◌ {A = Suggested} (record { ns = m.send_from; nr = m.expect }) (record { ns = f.expect; nr = f.send_from }) =
      sym does.numbers ∙ (ap (λ (y : Opening). suggested_in y) (sym one) ∙ ap (λ q. unwrap_or q (record { ns = 0; nr = 0 })) suggested) in
      record {
        from = p.from;
        from_fits = fits;
        address = from;
        froze = f;
        there = ap (h.answers p.from) (does.answer ∙ (ap (λ (y : Opening). y.tunnel) (sym one) ∙ id)) ∙ is;
        goes = sym to ∙ to_n;
        attempt_is = sym attempt ∙ (sym names ∙ names_it);
        ours = ap (λ (s : Suggested). s.ns) (sym numbers);
        theirs = ap (λ (s : Suggested). s.nr) (sym numbers);
      }
  by_message p own named _ (AsksFor r o is peer id recovery draw) same fits to from names = absurd cc
  by_message p own named _ (Confirms f response is attempt from_is le) same fits to from names = absurd cc
  by_message p own named _ (Refuses result error fit) same fits to from names = absurd cc

  -- a tunnel names a tunnel, and not an attempt
  not_from_tunnel : FromTunnel w h n node.end sender does.letter does.comes.came.bytes → ⊥
  not_from_tunnel f =
      let named : f.copy.tunnel ≡ does.old.local = sym f.read.tunnel_is ∙ names_it in
      let some = tried_ok.some in
      let made = copy_names w h k.holds f.packet f.o f.packet.epoch f.copy (λ z. let no : ⊥ = omega (arith, named, z, some) in no) in
      let here : IsMade (h.accounts n does.old.local 0) = subst (λ q. IsMade (h.accounts n q 0)) named (subst (λ q. IsMade (h.accounts q f.copy.tunnel 0)) f.to made) in
      let none = both_ok.0.ids.no_attempt does.old.local here in
      let two = sym none ∙ tried.0.1 in
      cc

  pub replied : IsReplied h n m.peer m.answer does.old.local m.send_from m.expect
  replied = ⊎_elim
      (λ f. absurd (not_from_tunnel f))
      (λ r. ⊎_elim
      (λ (f : OfNoTunnel w h n node.end sender does.letter does.comes.came.bytes).
      let both = sym f.read.said ∙ (ap message_in (sym does.comes.came.body_is) ∙ does.said) in absurd cc)
      (λ (f : OfRecovery w h n sender does.letter). ⊎_elim
      (λ none. absurd (no_message codecs (Sccrp does.opening) (ap message_in (sym none) ∙ does.said)))
      (λ q.
      let both = sym q.2 ∙ does.said in
      let same : q.0 ≡ Sccrp does.opening = cc in
      by_message f.packet f.own f.sent.named q.0 q.1 same f.from f.to (sym does.comes.peer_is ∙ f.peer_is) f.tunnel_is)
      f.says) r)
      (heard w h k.holds codecs again room n node.end sender ev k.comes does.letter does.comes.came)

  abbrev pub f : Froze
  f = replied.froze

  other_is : other ≡ replied.from
  other_is = ap node_of replied.address ∙ node_again replied.from replied.from_fits

  pub is : h.answers other m.answer ≡ Some f
  is = ap (λ q. h.answers q m.answer) other_is ∙ replied.there

  pub ok : AnswerOk w h other m.answer f
  ok = k.holds.answers other m.answer f is

  -- it is to an attempt at this tunnel
  pub remote_here : f.remote ≡ i
  remote_here =
      let both = sym ok.attempted ∙ (ap₂ h.attempts replied.goes replied.attempt_is ∙ tried.0.1) in
      let same : ok.attempt ≡ tried.0.0 = cc in
      sym ok.attempts ∙ (ap (λ (r : Restored). r.tunnel.local) same ∙ tried.0.2)

  pub link : AreLinked h.accounts n i other f.tunnel
  link = subst (λ q. AreLinked h.accounts n q other f.tunnel) remote_here
      (subst (λ q. AreLinked h.accounts q f.remote other f.tunnel) replied.goes (linked_back h.accounts other f.tunnel (node_of f.peer) f.remote ok.linked))

  pub inactive : is_current (mode_of does.tunnel.recovery) ≡ false
  inactive = ap (λ r. is_current (mode_of r)) does.attempts ∙ waits_inactive (ByAttempt does.old) does.waits

  pub below : epoch_of w n i < e
  below = (k.known.attempted n i does.tunnel does.old (record { node = node; is = k.there; there = does.there }) does.attempts does.waits other m.answer f is replied.goes replied.attempt_is).0

  -- ---- its account

  abbrev pub new : Account
  new = renewed (node_of m.peer) m.remote (record { node = node_of m.peer; tunnel = m.answer }) m.send_from m.expect

  pub begins : Begins h (after h d) n i e new
  begins =
      attempting_begins h d m n e k.deed.move_is k.deed.node_is (k.epoch ∙ (ap (λ q. epoch_of q n i) moves_is ∙ epoch_now)) ok.epoch_some
      (not_entered w h k.holds n i e below)

  pub peer : new.peer ≡ (h.accounts n i 0).peer
  peer = ap node_of (does.peer ∙ live.peer) ∙ node_again (h.accounts n i 0).peer (k.holds.accounts n i 0).peer

  pub remote : new.remote ≡ (h.accounts n i 0).remote
  remote = does.remote ∙ sym (linked_knows h.accounts n i other f.tunnel does.tunnel.control.remote link (live.knows inactive))

  -- its other end entered the epoch by an answer of the same link
  of_one : (q j : ℕ) → (r : IsRenewed v h q j e (h.accounts q j e)) → (h.accounts q j e).peer ≡ n → (h.accounts q j e).remote ≡ i
      → OfOneLink other f r.by.node r.froze
  of_one q j r back_peer back = by r.begins
    where
      l : AreLinked h.accounts q j n i
      l = subst (λ z. AreLinked h.accounts q j n z) back (subst (λ z. AreLinked h.accounts q j z (h.accounts q j e).remote) back_peer r.linked)

      node_is : q ≡ other
      node_is = sym l.back_peer ∙ link.forth_peer

      id_is : j ≡ f.tunnel
      id_is = sym l.back ∙ link.forth

      by : BeginsBy h q j (h.accounts q j e) r.by.node r.by.tunnel r.froze → OfOneLink other f r.by.node r.froze
      by (AsGiver a b z g s t) = inl (sym (a ∙ node_is), sym (b ∙ id_is))
      by (AsPeer a b z g s t) = inr (a ∙ (back_peer ∙ sym replied.goes), b ∙ (back ∙ sym remote_here))

  pub makes_as : (p c : ℕ) → makes v p c ≡ makes w p c
  makes_as = makes_then w n node k.there x i e

  pub standings : (p j : ℕ) → ((p ≡ n) × (j ≡ i) → ⊥) → standing_of v p j ≡ standing_of w p j
  standings = other_standing w n node k.there x i e

  pub made_now : (standing_of v n i).made ≡ (standing_of w n i).made
  made_now = ap (λ (s : Standing). s.made) (own_standing w n node k.there x i e)

  enough : e ≤ (standing_of w n i).made
  enough = (let made = ok.epoch_made in let same = k.known.counted n i other f.tunnel link in omega (arith, made, same))

  up : epoch_of w n i ≤ e
  up = omega (arith, below)

  answered_now : (after h d).answers ((after h d).accounts n i 0).peer does.new.remote ≡ Some f
  answered_now =
      begins.answers _ does.new.remote ∙ (ap₂ h.answers (sym (peer ∙ ap (λ (a : Account). a.peer) (sym (first h (after h d) n i e new begins n i)))) does.same.2 ∙ is)

  recovered : IsRecovered v (after h d) n i (ByAttempt does.new)
  recovered = (
    (
      tried.0.0,
      begins.attempts n does.new.local ∙ (ap (h.attempts n) does.same.0 ∙ tried.0.1),
      tried.0.2,
      tried.0.3 ∙ sym does.same.1,
    ),
    λ reset. (
      f,
      answered_now,
      remote_here,
      replied.attempt_is ∙ sym does.same.0,
      (let now = epoch_now in
          let made = ap₂ (makes v) (sym (peer ∙ ap (λ (a : Account). a.peer) (sym (first h (after h d) n i e new begins n i)))) does.same.2 ∙ makes_as other m.answer in
          omega (arith, now, made)),
      replied.goes,
    ),
    inr (ap is_some answered_now),
  )

  pub reset_attempting : Holds (moves_on w n node (move.ResetAttempting m) x) (after h d)
  reset_attempting =
      let agree = agrees w v h k.holds k.known makes_as n i other m.answer f is other f.tunnel link of_one new refl in
      let grown = grows w v h (after h d) n i e new begins k.holds agree epoch_now up standings made_now enough makes_as refl live.made in
      subst (λ q. Holds q (after h d)) (sym moves_is)
      (resets_hold w h (after h d) n node k.there k.holds x i e new does.tunnel does.there inactive m.send_from m.expect (max does.tunnel.control.mark m.draw) (ByAttempt does.new) does.after
      (record {
        begins = begins;
        agrees = agree;
        up = up;
        enough = enough;
        renewed = new_renewed w v h k.holds k.known makes_as n i other m.answer f is other f.tunnel link of_one new refl grown (after h d) begins peer remote
            (AsPeer refl (sym (remote ∙ link.forth)) replied.goes remote_here (sym replied.ours) (sym replied.theirs));
        peer = peer;
        remote = sym does.remote;
        first_given = refl;
        first_taken = refl;
        send_from_fits = (let lt = ok.expect in let same = replied.ours in omega (arith, lt, same));
        expect_fits = (let lt = ok.send_from in let same = replied.theirs in omega (arith, lt, same));
        open_is = refl;
        undeclined = refl;
        current = reset_current (ByAttempt does.new) moment does.same.3;
        recovered = recovered;
        sessions = sessions_fit node.end k.fit i does.tunnel does.there live.calls;
      }))
