-- The end that attempts resets its tunnel, and so does the machine's, by the answer of that name.
use Rattle.std.proofs.Common.{◌≡◌, ℕ, true, refl, sym, ap, ap₂, ◌∙◌, subst, Option, Some}
use Rattle.std.specs.Prelude.{max}
use Rattle.id_table.specs.Ids.{at, put}
use Rattle.id_table.specs.Order.{at_new, at_other}
use Rattle.session_book.specs.Books.{Kept, tunnel_at}
use Rattle.end_names.specs.Names.{node_of}
use Rattle.end_model.specs.declared.event.Event.{Event}
use Rattle.end_model.specs.declared.moves.ResetAttempting.{ResetAttempting}
use Rattle.end_model.specs.declared.moves.Move.{Move}
use Rattle.end_model.specs.declared.moves.Move.TheVariants as move
use Rattle.end_model.specs.Tunnels.{Tunnel, ByAttempt}
use Rattle.end_model.specs.End.{End}
use Rattle.world_model.specs.World.{World, Node, Sender, Deed}
use Rattle.step_laws.specs.Moves.{begun_anew, ResetsAttempting}
use Rattle.frame_laws.specs.Codecs.{Codecs}
use Rattle.book_laws.specs.Books.{Mirrors}
use Rattle.epoch_machine.specs.Names.{is_name}
use Rattle.epoch_machine.specs.Worlds as machine
use Rattle.epoch_machine.specs.Worlds.{all_rules}
use Rattle.epoch_machine.specs.Moves as moves
use Rattle.epoch_machine.specs.Moves.{resets_attempting}
use Rattle.birth_laws.specs.Births.{BirthsOfRuns}
use Rattle.session_laws.specs.Names.{name}
use Rattle.channel_laws.specs.Accounts.{Account, History, renewed, after}
use Rattle.channel_laws.specs.Facts.{makes, LiveOk, AnswerOk}
use Rattle.channel_laws.specs.Recoveries.{WrittenIsRead, WrittenHasRoom}
use Rattle.channel_laws.specs.Steps.{moves_on}
use Rattle.channel_laws.proofs.Entering.{world_then}
use Rattle.channel_laws.proofs.ResetsAttempting as channel
use Rattle.channel_laws.proofs.Waiting.{reset_current}
use Rattle.recovery_laws.specs.Growing.{TakenStay}
use Rattle.recovery_laws.specs.Joined.{TunnelJoined, AnswerIs}
use Rattle.join_laws.specs.Steps as steps
use Rattle.join_laws.specs.Steps.{with_book, Follows, Joins}
use Rattle.join_laws.proofs.Books.{booked}
use Rattle.join_laws.proofs.Bounds.{fit_bounded}
use Rattle.join_laws.proofs.Finish.{Went, went_one, named_as}
use Rattle.join_laws.proofs.Made as made
use Rattle.join_laws.proofs.OneTunnel.{one_joined}
use Rattle.recovery_join_laws.proofs.Leading.{entered_leads, led, some_named, answer_is, epoch_is, attempts_phase}
use Rattle.recovery_join_laws.proofs.Renewing.{Renews, renews_one, queries_now}
use Rattle.recovery_join_laws.proofs.Resets.{Entered, attempting, attempts_is, attempts_node}
use Rattle.recovery_join_laws.proofs.Sessions.{calls_hold}

module _ (codecs : Codecs) (again : WrittenIsRead) (room : WrittenHasRoom) (births : BirthsOfRuns) (stay : TakenStay) (w : World)
    (h : History) (n : ℕ)
    (node : Node) (sender : Option Sender) (moment : ℕ) (ev : Event) (m : ResetAttempting) (x : End) (d : Deed) (k : Kept)
    (j : machine.World)
    (q : steps.IsMade w h n node sender moment ev (move.ResetAttempting m) x d k j) (b : Kept) (new_book : Mirrors x b) where
  abbrev mv : Move
  mv = move.ResetAttempting m

  abbrev does : ResetsAttempting node.end moment ev m x
  does = q.moved.does

  abbrev i : ℕ
  i = m.tunnel

  abbrev other : ℕ
  other = node_of m.peer

  abbrev e : ℕ
  e = makes w (node_of m.peer) m.answer

  abbrev X : ℕ
  X = name n m.tunnel

  abbrev c : ℕ
  c = name (node_of m.peer) m.answer

  abbrev v : World
  v = world_then w n node q.moved.there x m.tunnel e

  abbrev t : Tunnel
  t = does.tunnel

  abbrev r : Tunnel
  r = begun_anew m.send_from m.expect (max t.control.mark m.draw) (ByAttempt does.new) t

  abbrev z : machine.World
  z = resets_attempting all_rules j X c

  abbrev new : Account
  new = renewed (node_of m.peer) m.remote (record { node = node_of m.peer; tunnel = m.answer }) m.send_from m.expect

  live : LiveOk w h n i t
  live = made.live_ok w h n node sender moment ev mv x d k j q i t does.there

  told : TunnelJoined j (with_book w n k) h n i (Some t) (tunnel_at k i)
  told = made.told w h n node sender moment ev mv x d k j q i t does.there

  -- the answer that it took
  ok : AnswerOk w h other m.answer (channel.f codecs again room w h n node sender moment ev m x d q.moved)
  ok = channel.ok codecs again room w h n node sender moment ev m x d q.moved

  known : AnswerIs j (with_book w n k) h other m.answer (channel.f codecs again room w h n node sender moment ev m x d q.moved)
  known = answer_is w h q.moved.holds n node q.moved.there k j q.joined.joined other m.answer
      (channel.f codecs again room w h n node sender moment ev m x d q.moved)
      (channel.is codecs again room w h n node sender moment ev m x d q.moved)

  tunnels : x.tunnels ≡ put node.end.tunnels i r
  tunnels = ap (λ (y : End). y.tunnels) does.after

  entered : Entered j z X c e
  entered = subst (Entered j z X c)
      (epoch_is w h q.moved.holds n node q.moved.there k j q.joined.joined other m.answer
      (channel.f codecs again room w h n node sender moment ev m x d q.moved)
      (channel.is codecs again room w h n node sender moment ev m x d q.moved))
      (attempting j X c)

  renews : Renews w v h (after h d) n node x k b j z i e c new t r
  renews = record {
    node_fits = made.node_fits w h n node sender moment ev mv x d k j q;
    id_fits = made.id_fits w h n node sender moment ev mv x d k j q i t does.there;
    there = q.moved.there;
    old = q.mirrors;
    mirrors = new_book;
    bounded = fit_bounded node.end q.moved.fit;
    bounded_then = fit_bounded x q.fit;
    nodes = q.nodes;
    within = made.within w h n node sender moment ev mv x d k j q;
    leads = entered_leads w n node q.moved.there x i e;
    own_epoch = channel.epoch_now codecs again room w h n node sender moment ev m x d q.moved;
    own_made = channel.made_now codecs again room w h n node sender moment ev m x d q.moved;
    standings = channel.standings codecs again room w h n node sender moment ev m x d q.moved;
    makes_as = channel.makes_as codecs again room w h n node sender moment ev m x d q.moved;
    begins = channel.begins codecs again room w h n node sender moment ev m x d q.moved;
    answer = refl;
    open_is = refl;
    at_t = does.there;
    at_r = ap (λ ts. at ts i) tunnels ∙ at_new node.end.tunnels i r;
    others = λ p apart. ap (λ ts. at ts p) tunnels ∙ at_other node.end.tunnels i r p apart;
    state = refl;
    three = live.established (channel.inactive codecs again room w h n node sender moment ev m x d q.moved);
    current = reset_current (ByAttempt does.new) moment does.same.3;
    calls = refl;
    order = (q.moved.fit.tables.tunnels i t does.there).order;
    query = refl;
    ids = ap (λ (y : End). y.session_ids) does.after;
    told = told;
    own = told.node live.made;
    before = made.calls_before w h n node sender moment ev mv x d k j q;
    known = calls_hold births (with_book w n k) h j q.joined.joined;
    entered = entered;
  }

  went : Went ev n j z
  went = went_one ev n j z (moves.ResetsAttempting X c) (attempts_node j X c ∙ told.node live.made) refl tt
      (attempts_is j X c (name n does.old.local) (told.phase ∙ attempts_phase n t does.old does.attempts does.waits)
      (known.answered
      ∙ ap₂ name (channel.replied codecs again room w h n node sender moment ev m x d q.moved).goes
      (channel.replied codecs again room w h n node sender moment ev m x d q.moved).attempt_is)
      (subst (λ y. is_name y ≡ true) (sym known.given) (some_named other _ ok.linked.from_some)))

  pub attempting_follows : Follows ev (with_book (moves_on w n node mv x) n b) (after h d) n j
  attempting_follows = led ev w v h n node mv x d b j z
      (channel.moves_is codecs again room w h n node sender moment ev m x d q.moved) went
      (λ js goes. one_joined stay (with_book w n k) (with_book v n b) h (after h d) j z n i (booked node k)
      (booked renews.leads.after b) q.joined.joined
      (renews_one w v h (after h d) n node x k b j z i e c new t r renews q.joined) js goes)
      (queries_now w v h (after h d) n node x k b j z i e c new t r renews q.joined)
      (named_as j z entered.calls_drawn q.joined.named)

pub attempting_joins : Codecs → WrittenIsRead → WrittenHasRoom → BirthsOfRuns → TakenStay → (m : ResetAttempting)
    → Joins (move.ResetAttempting m)
attempting_joins codecs again room births stay m w h n node sender moment ev x d k j q b new =
    attempting_follows codecs again room births stay w h n node sender moment ev m x d k j q b new
