-- The moves by which a tunnel asks which sessions its other end still has, answers that, or is answered: only one that was reset asks.
use Rattle.std.proofs.Common.{◌≡◌, inr, ℕ, List, [], ◌∷◌, refl, sym, ap, subst, Option, Some, None, Ok, arith}
use Rattle.control_message.specs.declared.message.Message.TheVariants.{Fsq, Fsr}
use Rattle.recv_window.specs.Window.{ClassIsTrue}
use Rattle.session_looks.specs.declared.look.CellChange.TheVariants as cell
use Rattle.wire_base.specs.declared.pair.Pair.{Pair}
use Rattle.session_query.specs.Queries.{Asking, next_batch, with_batch, answered, told_in}
use Rattle.std.specs.Prelude.{map}
use Rattle.end_model.specs.declared.event.Event.{Event}
use Rattle.end_model.specs.declared.moves.Queried.{Queried}
use Rattle.end_model.specs.declared.moves.AnsweredQuery.{AnsweredQuery}
use Rattle.end_model.specs.declared.moves.TookAnswer.{TookAnswer}
use Rattle.end_model.specs.declared.moves.Move.TheVariants as move
use Rattle.end_model.specs.Calls.{sessions_of}
use Rattle.end_model.specs.Channels.{counts_taken}
use Rattle.end_model.specs.Querying.{unless_complete}
use Rattle.end_model.specs.Tunnels.{Tunnel, no_query}
use Rattle.end_model.specs.End.{End, with_looks}
use Rattle.world_model.specs.World.{World, Node, Sender, Deed, epoch_of, moved}
use Rattle.step_laws.specs.Letters.{Letter}
use Rattle.step_laws.specs.Moves.{with_tunnel, with_letter, without_each}
use Rattle.frame_laws.specs.Codecs.{Codecs}
use Rattle.connection_laws.specs.Steps as calm_steps
use Rattle.control_message.specs.Pairs.{AreWrittenSessions}
use Rattle.channel_laws.specs.Accounts.{History, after}
use Rattle.channel_laws.specs.Facts.{Holds}
use Rattle.channel_laws.specs.Recoveries.{WrittenIsRead, WrittenHasRoom}
use Rattle.channel_laws.specs.Steps.{with_end, moves_on, IsMoved}
use Rattle.channel_laws.proofs.Alone.{puts_so}
use Rattle.channel_laws.proofs.FirstMoves.{live_zero, none_asked}
use Rattle.channel_laws.proofs.Giving.{with_places, live_there, gives_hold}
use Rattle.channel_laws.proofs.Going.{GoesOn}
use Rattle.channel_laws.proofs.LaterMoves.{live_later, channel_so, next_so, takes_hold}
use Rattle.channel_laws.proofs.Open.{end_alike, takes_only, takes_and_gives}
use Rattle.frame_laws.proofs.Sessions.{found_each}
use Rattle.channel_laws.proofs.Sessions.{asks_none, batch_written, answers_written, query_left}
use Rattle.channel_laws.proofs.TakesLater.{deed_plain, took_goes, took_and_given_goes, says_query, says_same}

-- ---- a question

module _ (w : World) (h : History) (n : ℕ) (node : Node) (sender : Option Sender) (moment : ℕ) (ev : Event) (x : End) (d : Deed) where
  pub queried_keeps : (m : Queried) → IsMoved w h n node sender moment ev (move.Queried m) x d
      → Holds (moves_on w n node (move.Queried m) x) (after h d)
  unfolding moved
  queried_keeps m k =
      let o = k.does in
      let t = o.tunnel in
      let mv = move.Queried m in
      let e = epoch_of w n m.tunnel in
      let plain = deed_plain d mv k.deed.move_is (λ p j. refl) (λ p q z. refl) (λ p q z. refl) in
      let live = live_there w h n node sender moment ev mv x d k t o.there o.current refl plain in
      let later : e ≡ 0 → ⊥ = λ zero. asks_none m.pairs (subst (λ q. next_batch q ≡ Some m.pairs) (live.query.none zero) o.pairs) in
      gives_hold w h n node sender moment ev mv x d k t o.there o.current refl plain
      (record { tunnel = m.tunnel; place = m.given; session = 0; message = Fsq m.pairs; hidden = None })
      t.calls (with_batch t.query (Some m.pairs)) node.end.calls o.after (λ a. refl) refl
      (record {
        spelled = inr (
          omega (arith, later),
          record {
            query = tt;
            written = batch_written t.query m.pairs o.pairs live.query.fit;
            plain = refl;
            session = refl;
          },
        );
        query = record { none = λ zero. absurd (later zero); fit = live.query.fit };
        plain = tt;
        told = tt;
        room = o.room;
        remotes = live.calls;
        three = o.open_is;
      })

-- another query changes nothing else
asks_on : (t u : Tunnel) (more : List Letter) (count : ℕ) (q : Asking) → GoesOn t u more count
    → GoesOn t (record u { query = q }) more count
asks_on t u more count q g = record {
  local = g.local;
  peer = g.peer;
  remote = g.remote;
  three = g.three;
  letters = g.letters;
  acked = g.acked;
  queued = g.queued;
  few = g.few;
  outstanding = g.outstanding;
  taken = g.taken;
  calls = g.calls;
  recovery = g.recovery;
}

told_none : (answers gone : List Pair) → told_in no_query answers ≡ Ok gone → ⊥
unfolding told_in
told_none answers gone h = absurd cc

-- ---- a question that comes, and an answer

module _ (laws : calm_steps.MovesKeep) (codecs : Codecs) (again : WrittenIsRead) (room : WrittenHasRoom) (classes : ClassIsTrue) (w : World)
    (h : History) (n : ℕ) (node : Node) (sender : Option Sender)
    (moment : ℕ) (ev : Event) (x : End) (d : Deed) where
  pub answered_query_keeps : (m : AnsweredQuery) → IsMoved w h n node sender moment ev (move.AnsweredQuery m) x d
      → Holds (moves_on w n node (move.AnsweredQuery m) x) (after h d)
  unfolding moved
  answered_query_keeps m k =
      let o = k.does in
      let t = o.tunnel in
      let mv = move.AnsweredQuery m in
      let i = m.tunnel in
      let e = epoch_of w n m.tunnel in
      let later : e ≡ 0 → ⊥ = λ zero. none_asked laws codecs again room w h n node sender moment ev mv x d k t o.there o.current zero
      o.letter o.takes.next.comes m.pairs o.said in
      let v = with_end w n node x in
      let l : Letter = record { tunnel = m.tunnel; place = m.given; session = 0; message = Fsr m.answers; hidden = None } in
      let u : Tunnel = with_letter 0 (Fsr m.answers) (record t { control = counts_taken t.control }) in
      let plain = deed_plain d mv k.deed.move_is (λ p j. refl) (λ p q z. refl) (λ p q z. refl) in
      let alike = end_alike w n node x k.there in
      let live = live_later codecs again room classes w h n node sender moment ev mv x d k t o.there o.current later plain v refl alike in
      let channel = channel_so codecs again room classes w h n node sender moment ev mv x d k t o.there o.current later plain v refl alike
      in
      let s = next_so codecs again room classes w h n node sender moment ev mv x d k t o.there o.current later plain v refl alike o.letter
      o.takes.next m.taken o.takes.taken_is in
      let asked = says_query h n i e sender ev t o.letter o.takes.next s (Fsq m.pairs) o.said tt in
      let written = subst AreWrittenSessions (sym o.answers) (answers_written (sessions_of t.calls) m.pairs asked) in
      takes_hold codecs again room classes w h n node sender moment ev mv x d k t o.there o.current later plain v refl alike o.letter
      o.takes.next m.taken o.takes.taken_is
      (l ∷ []) u
      (took_and_given_goes h.accounts n i e (h.accounts n i e) t channel (k.counts i t o.there o.current) o.open_is t.calls live.calls l
      o.room)
      o.open_is (takes_and_gives d n node.end.role sender mv m.taken (h.accounts n i e) k.deed)
      (says_same h n i e sender ev t o.letter o.takes.next s (Fsq m.pairs) o.said tt)
      (inr (omega (arith, later), record { query = tt; written = written; plain = refl; session = refl }), tt) (tt, tt) (tt, tt)
      (puts_so node.end x (with_tunnel node.end i u) i u o.after (record { config = refl; role = refl; tunnels = refl }))
      (ap (λ (y : End). y.tunnel_ids) o.after) live.query

  pub took_answer_keeps : (m : TookAnswer) → IsMoved w h n node sender moment ev (move.TookAnswer m) x d
      → Holds (moves_on w n node (move.TookAnswer m) x) (after h d)
  unfolding moved
  took_answer_keeps m k =
      let o = k.does in
      let t = o.tunnel in
      let mv = move.TookAnswer m in
      let i = m.tunnel in
      let e = epoch_of w n m.tunnel in
      let later : e ≡ 0 → ⊥ = λ zero.
      told_none m.answers o.gone (subst (λ q. told_in q m.answers ≡ Ok o.gone)
      ((live_zero laws codecs again room w h n node sender moment ev mv x d k t o.there o.current zero).query.none zero) o.told) in
      let v = with_end w n node x in
      let calls = without_each m.ended t.calls in
      let asks = unless_complete (answered t.query) in
      let took : Tunnel = record t { control = counts_taken t.control; calls = calls } in
      let u : Tunnel = record took { query = asks } in
      let plain = deed_plain d mv k.deed.move_is (λ p j. refl) (λ p q z. refl) (λ p q z. refl) in
      let alike = end_alike w n node x k.there in
      let live = live_later codecs again room classes w h n node sender moment ev mv x d k t o.there o.current later plain v refl alike in
      let channel = channel_so codecs again room classes w h n node sender moment ev mv x d k t o.there o.current later plain v refl alike
      in
      let s = next_so codecs again room classes w h n node sender moment ev mv x d k t o.there o.current later plain v refl alike o.letter
      o.takes.next m.taken o.takes.taken_is in
      takes_hold codecs again room classes w h n node sender moment ev mv x d k t o.there o.current later plain v refl alike o.letter
      o.takes.next m.taken o.takes.taken_is
      [] u
      (asks_on t took [] 1 asks
      (took_goes h.accounts n i e (h.accounts n i e) t channel (k.counts i t o.there o.current) o.open_is calls
      (λ q c f. live.calls q c (found_each m.ended t.calls q c (k.fit.tables.tunnels i t o.there).order f))))
      o.open_is (takes_only d n node.end.role sender mv m.taken (h.accounts n i e) k.deed)
      (says_same h n i e sender ev t o.letter o.takes.next s (Fsr m.answers) o.said tt) tt tt tt
      (puts_so node.end x (with_places node.end i u (with_looks (map cell.Kill m.ended) node.end.calls)) i u o.after
      (record { config = refl; role = refl; tunnels = refl }))
      (ap (λ (y : End). y.tunnel_ids) o.after) (query_left e t.query later live.query.fit)
