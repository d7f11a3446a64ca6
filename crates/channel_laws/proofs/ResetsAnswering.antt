-- The end that answers resets its tunnel, and enters the epoch of its answer.
use Rattle.std.proofs.Common.{◌≡◌, inl, inr, ℕ, ◌<◌, ◌≤◌, false, refl, sym, ap, ◌∙◌, subst, Option, Some, arith}
use Rattle.control_message.specs.declared.message.Suggested.{Suggested}
use Rattle.end_names.specs.Names.{node_of}
use Rattle.end_model.specs.declared.event.Event.{Event}
use Rattle.end_model.specs.declared.moves.Froze.{Froze}
use Rattle.end_model.specs.declared.moves.ResetAnswering.{ResetAnswering}
use Rattle.end_model.specs.declared.moves.Move.TheVariants as move
use Rattle.end_model.specs.Tunnels.{ByAnswer, mode_of, is_current}
use Rattle.end_model.specs.End.{End}
use Rattle.world_model.specs.declared.standing.Standing.{Standing}
use Rattle.world_model.specs.World.{World, Node, Sender, Deed, epoch_of, standing_of, enters_epoch, moved}
use Rattle.step_laws.specs.Moves.{ResetsAnswering}
use Rattle.channel_laws.proofs.Sessions.{sessions_fit}
use Rattle.channel_laws.specs.Accounts.{Account, renewed, History, after}
use Rattle.channel_laws.specs.Facts.{makes, AreLinked, AnswerOk, BeginsBy, AsGiver, AsPeer, IsRenewed, IsRecovered, LiveOk, EndOk, BookOk, NodeOk, Holds}
use Rattle.channel_laws.specs.Epochs.{OfOneLink}
use Rattle.channel_laws.specs.Steps.{with_end, moves_on, IsMoved}
use Rattle.channel_laws.proofs.Anew.{Begins}
use Rattle.channel_laws.proofs.Resetting.{grows}
use Rattle.channel_laws.proofs.Deeds.{not_entered, answering_begins}
use Rattle.channel_laws.proofs.Answering.{agrees, new_renewed}
use Rattle.channel_laws.proofs.Entering.{base_makes, world_then, enters_is, own_standing, other_standing, makes_then}
use Rattle.channel_laws.proofs.Waiting.{waits_inactive, reset_current, node_again, linked_knows}
use Rattle.channel_laws.proofs.Begun.{resets_hold}

module _ (w : World) (h : History) (n : ℕ) (node : Node) (sender : Option Sender) (moment : ℕ) (ev : Event) (m : ResetAnswering) (x : End) (d : Deed)
    (k : IsMoved w h n node sender moment ev (move.ResetAnswering m) x d) where
  abbrev pub does : ResetsAnswering node.end moment ev m x
  does = k.does

  abbrev pub i : ℕ
  i = m.tunnel

  abbrev pub e : ℕ
  e = makes w n m.answer

  abbrev pub v : World
  v = world_then w n node k.there x i e

  pub moves_is : moves_on w n node (move.ResetAnswering m) x ≡ v
  unfolding moved
  moves_is = ap (λ q. enters_epoch (with_end w n node x) n m.tunnel q) (base_makes w n node k.there x n m.answer) ∙ enters_is w n node k.there x m.tunnel e

  pub epoch_now : epoch_of v n i ≡ e
  epoch_now = ap (λ (s : Standing). s.epoch) (own_standing w n node k.there x i e)

  both_ok : EndOk w h n node.end × BookOk h n node.checkpoint.book
  both_ok = subst (NodeOk w h n) k.there (k.holds.nodes n)

  pub live : LiveOk w h n i does.tunnel
  live = both_ok.0.live i does.tunnel does.there

  -- ---- its answer

  pub answered : IsRecovered w h n i (ByAnswer does.old)
  answered = live.recovery (ByAnswer does.old) does.answers

  abbrev pub f : Froze
  f = answered.0

  pub is : h.answers n m.answer ≡ Some f
  is = ap (h.answers n) (sym does.local) ∙ answered.1

  pub ok : AnswerOk w h n m.answer f
  ok = k.holds.answers n m.answer f is

  pub link : AreLinked h.accounts n i (node_of f.peer) f.remote
  link = subst (λ q. AreLinked h.accounts n q (node_of f.peer) f.remote) answered.2 ok.linked

  numbers : ◌≡◌ {A = Suggested} (record { ns = m.expect; nr = m.send_from }) (record { ns = f.expect; nr = f.send_from })
  numbers = sym does.suggested ∙ answered.4

  send_from_is : m.send_from ≡ f.send_from
  send_from_is = ap (λ (s : Suggested). s.nr) numbers

  expect_is : m.expect ≡ f.expect
  expect_is = ap (λ (s : Suggested). s.ns) numbers

  pub inactive : is_current (mode_of does.tunnel.recovery) ≡ false
  inactive = ap (λ r. is_current (mode_of r)) does.answers ∙ waits_inactive (ByAnswer does.old) does.waits

  pub below : epoch_of w n i < e
  below =
      let lt = (k.known.frozen n i (node_of f.peer) f.remote does.tunnel does.old (record { node = node; is = k.there; there = does.there }) does.answers does.waits link).0 in
      subst (λ q. epoch_of w n i < makes w n q) does.local lt

  -- ---- its account

  abbrev pub new : Account
  new = renewed (node_of m.peer) m.remote (record { node = d.node; tunnel = m.answer }) m.send_from m.expect

  pub begins : Begins h (after h d) n i e new
  begins =
      answering_begins h d m n e k.deed.move_is k.deed.node_is (k.epoch ∙ (ap (λ q. epoch_of q n i) moves_is ∙ epoch_now)) ok.epoch_some
      (not_entered w h k.holds n i e below)

  pub answer : new.answer ≡ Some (record { node = n; tunnel = m.answer })
  answer = ap (λ q. Some (record { node = q; tunnel = m.answer })) k.deed.node_is

  pub peer : new.peer ≡ (h.accounts n i 0).peer
  peer = ap node_of (does.peer ∙ live.peer) ∙ node_again (h.accounts n i 0).peer (k.holds.accounts n i 0).peer

  pub remote : new.remote ≡ (h.accounts n i 0).remote
  remote = does.remote ∙ sym (linked_knows h.accounts n i (node_of f.peer) f.remote does.tunnel.control.remote link (live.knows inactive))

  -- its other end entered the epoch by an answer of the same link
  of_one : (q j : ℕ) → (r : IsRenewed v h q j e (h.accounts q j e)) → (h.accounts q j e).peer ≡ n → (h.accounts q j e).remote ≡ i
      → OfOneLink n f r.by.node r.froze
  of_one q j r back_peer back = by r.begins
    where
      l : AreLinked h.accounts q j n i
      l = subst (λ z. AreLinked h.accounts q j n z) back (subst (λ z. AreLinked h.accounts q j z (h.accounts q j e).remote) back_peer r.linked)

      node_is : q ≡ node_of f.peer
      node_is = sym l.back_peer ∙ link.forth_peer

      id_is : j ≡ f.remote
      id_is = sym l.back ∙ link.forth

      by : BeginsBy h q j (h.accounts q j e) r.by.node r.by.tunnel r.froze → OfOneLink n f r.by.node r.froze
      by (AsGiver a b z g s t) = inr (a ∙ node_is, b ∙ id_is)
      by (AsPeer a b z g s t) = inl (sym (a ∙ back_peer), answered.2 ∙ sym (b ∙ back))

  pub makes_as : (p c : ℕ) → makes v p c ≡ makes w p c
  makes_as = makes_then w n node k.there x i e

  pub standings : (p j : ℕ) → ((p ≡ n) × (j ≡ i) → ⊥) → standing_of v p j ≡ standing_of w p j
  standings = other_standing w n node k.there x i e

  pub made_now : (standing_of v n i).made ≡ (standing_of w n i).made
  made_now = ap (λ (s : Standing). s.made) (own_standing w n node k.there x i e)

  enough : e ≤ (standing_of w n i).made
  enough = subst (λ q. e ≤ (standing_of w n q).made) answered.2 ok.epoch_made

  up : epoch_of w n i ≤ e
  up = omega (arith, below)

  recovered : IsRecovered v (after h d) n i (ByAnswer does.new)
  recovered = (
    f,
    begins.answers n does.new.connection.local ∙ (ap (h.answers n) does.same.0 ∙ is),
    answered.2,
    answered.3 ∙ (does.attempt ∙ sym does.same.1),
    does.same.3 ∙ answered.4,
    λ reset. (let now = epoch_now in let made = ap (makes v n) does.same.0 ∙ makes_as n m.answer in omega (arith, now, made)),
    answered.6 ∙ sym does.same.4,
  )

  pub reset_answering : Holds (moves_on w n node (move.ResetAnswering m) x) (after h d)
  reset_answering =
      let agree = agrees w v h k.holds k.known makes_as n i n m.answer f is (node_of f.peer) f.remote link of_one new answer in
      let peer_is = peer ∙ link.forth_peer in
      let remote_is = remote ∙ link.forth in
      let grown = grows w v h (after h d) n i e new begins k.holds agree epoch_now up standings made_now enough makes_as refl live.made in
      subst (λ q. Holds q (after h d)) (sym moves_is)
      (resets_hold w h (after h d) n node k.there k.holds x i e new does.tunnel does.there inactive m.send_from m.expect does.tunnel.control.mark (ByAnswer does.new) does.after
      (record {
        begins = begins;
        agrees = agree;
        up = up;
        enough = enough;
        renewed = new_renewed w v h k.holds k.known makes_as n i n m.answer f is (node_of f.peer) f.remote link of_one new answer grown (after h d) begins peer remote
            (AsGiver refl answered.2 (sym peer_is) (sym remote_is) send_from_is expect_is);
        peer = peer;
        remote = sym does.remote;
        first_given = refl;
        first_taken = refl;
        send_from_fits = (let lt = ok.send_from in let same = send_from_is in omega (arith, lt, same));
        expect_fits = (let lt = ok.expect in let same = expect_is in omega (arith, lt, same));
        open_is = refl;
        undeclined = refl;
        current = reset_current (ByAnswer does.new) moment does.same.2;
        recovered = recovered;
        sessions = sessions_fit node.end k.fit i does.tunnel does.there live.calls;
      }))
