-- An open tunnel that is in a later epoch takes a letter of its other end, and may be given one.
use Rattle.std.proofs.Common.{◌≡◌, ◌⊎◌, inl, inr, ⊎_elim, ℕ, ◌+◌, ◌<◌, true, false, List, [], ◌∷◌, refl, sym, ap, ◌∙◌, subst, Option, Some, None, Ok, arith, append-nil, ne_eqb}
use Rattle.std.proofs.lemmas.Bool.{ltb-true}
use Rattle.std.specs.Prelude.{unwrap_or, ◌^◌}
use Rattle.id_table.specs.Ids.{at, put, without}
use Rattle.id_table.specs.Order.{found_without, same_or_not}
use Rattle.id_source.specs.Spaces.{after_id, draw_is}
use Rattle.control_message.specs.declared.message.Message.{Message}
use Rattle.control_message.specs.declared.message.Message.TheVariants.{Ocrq, Icrq, Icrp, Iccn, Cdn}
use Rattle.recv_window.specs.Window.{ClassIsTrue}
use Rattle.tunnel_fsm.specs.Rows.{state_number}
use Rattle.call_fsm.specs.declared.table.CallEvent.TheVariants as call_event
use Rattle.call_link.specs.Link.{new_link}
use Rattle.session_looks.specs.declared.look.CellChange.TheVariants as cell
use Rattle.l2tp_header.specs.Reading.{body_of}
use Rattle.end_names.specs.Names.{node_of}
use Rattle.end_names.specs.declared.role.Role.{Role}
use Rattle.end_model.specs.declared.event.Event.{Event}
use Rattle.end_model.specs.declared.moves.Replied.{Replied}
use Rattle.end_model.specs.declared.moves.Refused.{Refused}
use Rattle.end_model.specs.declared.moves.FirstUp.{FirstUp}
use Rattle.end_model.specs.declared.moves.SecondUp.{SecondUp}
use Rattle.end_model.specs.declared.moves.EndHeard.{EndHeard}
use Rattle.end_model.specs.declared.moves.Restored.{Restored}
use Rattle.end_model.specs.declared.moves.Froze.{Froze}
use Rattle.end_model.specs.declared.moves.Move.{Move}
use Rattle.end_model.specs.declared.moves.Move.TheVariants as move
use Rattle.end_model.specs.declared.tunnel.Call.{Call}
use Rattle.end_model.specs.Calls.{advanced, with_numbers, asked_for}
use Rattle.end_model.specs.Asking.{session_named}
use Rattle.end_model.specs.Channels.{has_room, counts_taken}
use Rattle.end_model.specs.Messages.{connection}
use Rattle.end_model.specs.Links.{with_link}
use Rattle.end_model.specs.Reading.{message_in, CallFault, call_fault_in}
use Rattle.end_model.specs.Tunnels.{Tunnel}
use Rattle.end_model.specs.End.{End, new_place, with_look}
use Rattle.world_model.specs.World.{World, Node, Sender, Deed, epoch_of, birth_of, moved}
use Rattle.step_laws.specs.Arrivals.{Came, IsNext}
use Rattle.step_laws.specs.Codes.{refusal_codes_fit}
use Rattle.step_laws.specs.Letters.{Letter}
use Rattle.step_laws.specs.Moves.{with_tunnel, with_letter, with_letter_as, without_call, WhyRefused, IsNotGranted, IsOutgoing, IsReplyToNone, IsWrong}
use Rattle.frame_laws.specs.Codecs.{Codecs}
use Rattle.frame_laws.specs.Plain.{AreAlike}
use Rattle.control_message.specs.Pairs.{IsWritten as IsWrittenByCodec}
use Rattle.frame_laws.specs.Written.{IsWritten}
use Rattle.connection_laws.specs.Facts.{Tells}
use Rattle.connection_laws.proofs.Alike.{IsNoRequest, read_faulty, request_alike}
use Rattle.channel_laws.proofs.Spelled.{letter_same, letter_alike, letter_written, query_written, faultily_read}
use Rattle.channel_laws.specs.Accounts.{Account, History, declines_of, attempts_by, answers_by, after}
use Rattle.channel_laws.specs.Facts.{ChannelOk, Holds, IsOfQuery}
use Rattle.channel_laws.specs.Recoveries.{WrittenIsRead, WrittenHasRoom}
use Rattle.channel_laws.specs.Steps.{with_end, moves_on, IsMoved}
use Rattle.channel_laws.proofs.Alone.{puts_so}
use Rattle.channel_laws.proofs.Births.{birth_alike}
use Rattle.channel_laws.proofs.Giving.{IsPlainDeed, with_places, calls_put, advanced_remote}
use Rattle.channel_laws.proofs.Going.{GoesOn}
use Rattle.channel_laws.proofs.HeardLater.{NextLater}
use Rattle.channel_laws.proofs.LaterMoves.{live_later, channel_so, next_so, takes_hold}
use Rattle.channel_laws.proofs.Open.{end_alike, takes_only, takes_and_gives}

-- ---- deeds

pub deed_plain : (d : Deed) (m : Move) → d.move ≡ m → ((p j : ℕ) → declines_of m p j ≡ false) → ((p a : ℕ) (o : Option Restored) → attempts_by d m p a o ≡ o)
    → ((p c : ℕ) (o : Option Froze) → answers_by d m p c o ≡ o) → IsPlainDeed d
deed_plain d m is declines attempts answers = record {
  declines = λ p j. ap (λ q. declines_of q p j) is ∙ declines p j;
  attempts = λ p a o. ap (λ q. attempts_by d q p a o) is ∙ attempts p a o;
  answers = λ p c o. ap (λ q. answers_by d q p c o) is ∙ answers p c o;
}

-- ---- the tunnel that is left

module _ (accs : ℕ → ℕ → ℕ → Account) (n i e : ℕ) (a : Account) (t : Tunnel) (channel : ChannelOk accs n i e a t) (fits : t.control.channel.inbox.taken + 1 < 2 ^ 64)
    (three : state_number t.control.state ≡ 3) (calls : List (ℕ × Call)) (remotes : (s : ℕ) (c : Call) → at calls s ≡ Some c → c.remote < 65536) where
  pub took_goes : GoesOn t (record t { control = counts_taken t.control; calls = calls }) [] 1
  took_goes =
      let few = channel.few in
      let out = channel.outstanding in
      record {
        local = refl;
        peer = refl;
        remote = refl;
        three = three;
        letters = sym (append-nil t.letters);
        acked = refl;
        queued = omega arith;
        few = few;
        outstanding = out;
        taken = omega (arith, fits);
        calls = remotes;
        recovery = refl;
      }

  pub took_and_given_goes : (l : Letter) → has_room t.control ≡ true → GoesOn t (with_letter_as l.session l.message l.hidden (record t { control = counts_taken t.control; calls = calls })) (l ∷ []) 1
  took_and_given_goes l room =
      let lt = ltb-true t.control.channel.window.queued 8192 room in
      let out = channel.outstanding in
      record {
        local = refl;
        peer = refl;
        remote = refl;
        three = three;
        letters = refl;
        acked = refl;
        queued = refl;
        few = omega (arith, lt);
        outstanding = omega (arith, out);
        taken = omega (arith, fits);
        calls = remotes;
        recovery = refl;
      }

-- ---- what is said

module _ (h : History) (n i e : ℕ) (sender : Option Sender) (ev : Event) (t : Tunnel) (letter : Came) (next : IsNext ev t letter)
    (s : NextLater h n i e sender letter next.comes.came.bytes) (says : Message) (said : message_in letter.body ≡ Ok says) where
  said_there : message_in (body_of next.comes.came.bytes letter.header) ≡ Ok says
  said_there = ap message_in (sym next.comes.came.body_is) ∙ said

  pub says_alike : AreAlike s.letter.message says
  says_alike = letter_alike s.letter (body_of next.comes.came.bytes letter.header) s.reads says said_there

  pub says_written : (IsOfQuery says → ⊥) → IsWritten says
  says_written other = letter_written s.letter (body_of next.comes.came.bytes letter.header) s.reads says said_there other

  pub says_same : IsNoRequest says → s.letter.message ≡ says
  says_same plain = letter_same s.letter (body_of next.comes.came.bytes letter.header) s.reads says said_there plain

  -- a question for sessions, or an answer
  pub says_query : IsOfQuery says → IsWrittenByCodec says
  says_query of = (query_written s.letter (body_of next.comes.came.bytes letter.header) s.reads says said_there of).1

-- a call that was asked for has the id that the other end gave it
asked_remote : (r : Role) (remote moment : ℕ) → (asked_for r remote moment).remote ≡ remote
unfolding asked_for advanced
asked_remote r remote moment = refl

-- a CDN's header names the call that ends, or none
header_names : (calls : List (ℕ × Call)) (session remote s : ℕ) → s ≡ session_named calls session remote → (session ≡ s) ⊎ (session ≡ 0)
unfolding session_named
header_names calls session remote s named = ⊎_elim
    (λ (none : session ≡ 0). inr none)
    (λ (other : session ≡ 0 → ⊥). inl (sym (rw (ne_eqb session 0 other) at named)))
    (same_or_not session 0)

-- ---- the moves

module _ (codecs : Codecs) (again : WrittenIsRead) (room : WrittenHasRoom) (classes : ClassIsTrue) (w : World) (h : History) (n : ℕ) (node : Node) (sender : Option Sender)
    (moment : ℕ) (ev : Event) (x : End) (d : Deed) where
  pub end_heard_later : (m : EndHeard) → IsMoved w h n node sender moment ev (move.EndHeard m) x d → (epoch_of w n m.tunnel ≡ 0 → ⊥)
      → Holds (moves_on w n node (move.EndHeard m) x) (after h d)
  unfolding moved
  end_heard_later m k later =
      let o = k.does in
      let t = o.tunnel in
      let mv = move.EndHeard m in
      let i = m.tunnel in
      let e = epoch_of w n m.tunnel in
      let v = with_end w n node x in
      let calls = without t.calls m.session in
      let u : Tunnel = record t { control = counts_taken t.control; calls = calls } in
      let plain = deed_plain d mv k.deed.move_is (λ p j. refl) (λ p q z. refl) (λ p q z. refl) in
      let alike = end_alike w n node x k.there in
      let live = live_later codecs again room classes w h n node sender moment ev mv x d k t o.there o.current later plain v refl alike in
      let channel = channel_so codecs again room classes w h n node sender moment ev mv x d k t o.there o.current later plain v refl alike in
      let s = next_so codecs again room classes w h n node sender moment ev mv x d k t o.there o.current later plain v refl alike o.letter o.takes.next m.taken o.takes.taken_is in
      takes_hold codecs again room classes w h n node sender moment ev mv x d k t o.there o.current later plain v refl alike o.letter o.takes.next m.taken o.takes.taken_is
      [] u
      (took_goes h.accounts n i e (h.accounts n i e) t channel (k.counts i t o.there o.current) o.open_is calls
      (λ q c f. live.calls q c (found_without t.calls m.session q c (k.fit.tables.tunnels i t o.there).order f).1))
      o.open_is (takes_only d n node.end.role sender mv m.taken (h.accounts n i e) k.deed) (
        ⊎_elim (λ (is : o.letter.header.session ≡ m.session). inl (sym s.session ∙ is)) (λ (none : o.letter.header.session ≡ 0). inr (sym s.session ∙ none))
            (header_names t.calls o.letter.header.session o.remote m.session o.session_is),
        (o.remote, o.code, o.error, says_same h n i e sender ev t o.letter o.takes.next s (Cdn o.remote o.code o.error) o.said tt),
      )
      tt tt tt
      (puts_so node.end x (without_call node.end i (record t { control = counts_taken t.control }) m.session) i u o.after (record { config = refl; role = refl; tunnels = refl }))
      (ap (λ (y : End). y.tunnel_ids) o.after) live.query

  pub second_up_later : (m : SecondUp) → IsMoved w h n node sender moment ev (move.SecondUp m) x d → (epoch_of w n m.tunnel ≡ 0 → ⊥)
      → Holds (moves_on w n node (move.SecondUp m) x) (after h d)
  unfolding moved
  second_up_later m k later =
      let o = k.does in
      let t = o.tunnel in
      let mv = move.SecondUp m in
      let i = m.tunnel in
      let e = epoch_of w n m.tunnel in
      let v = with_end w n node x in
      let call = with_link (new_link (record { moment = moment; block = o.block })) (with_numbers m.sequenced (advanced node.end.role call_event.IccnAcc moment o.call)) in
      let calls = put t.calls m.session call in
      let u : Tunnel = record t { control = counts_taken t.control; calls = calls } in
      let plain = deed_plain d mv k.deed.move_is (λ p j. refl) (λ p q z. refl) (λ p q z. refl) in
      let alike = end_alike w n node x k.there in
      let live = live_later codecs again room classes w h n node sender moment ev mv x d k t o.there o.current later plain v refl alike in
      let channel = channel_so codecs again room classes w h n node sender moment ev mv x d k t o.there o.current later plain v refl alike in
      let s = next_so codecs again room classes w h n node sender moment ev mv x d k t o.there o.current later plain v refl alike o.letter o.takes.next m.taken o.takes.taken_is in
      takes_hold codecs again room classes w h n node sender moment ev mv x d k t o.there o.current later plain v refl alike o.letter o.takes.next m.taken o.takes.taken_is
      [] u
      (took_goes h.accounts n i e (h.accounts n i e) t channel (k.counts i t o.there o.current) o.open_is calls
      (calls_put t.calls m.session call live.calls (rw (advanced_remote node.end.role call_event.IccnAcc moment o.call) (live.calls m.session o.call o.made))))
      o.open_is (takes_only d n node.end.role sender mv m.taken (h.accounts n i e) k.deed) (
        sym s.session ∙ o.says.session_is,
        (o.speed, o.framing, says_same h n i e sender ev t o.letter o.takes.next s (Iccn o.speed o.framing m.sequenced) o.says.said tt),
      )
      tt tt tt
      (puts_so node.end x (with_places node.end i u (with_look (cell.Bind m.session m.tunnel t.control.peer) node.end.calls)) i u o.after (record { config = refl; role = refl; tunnels = refl }))
      (ap (λ (y : End). y.tunnel_ids) o.after) live.query

  pub first_up_later : (m : FirstUp) → IsMoved w h n node sender moment ev (move.FirstUp m) x d → (epoch_of w n m.tunnel ≡ 0 → ⊥)
      → Holds (moves_on w n node (move.FirstUp m) x) (after h d)
  unfolding moved
  first_up_later m k later =
      let o = k.does in
      let t = o.tunnel in
      let mv = move.FirstUp m in
      let i = m.tunnel in
      let e = epoch_of w n m.tunnel in
      let v = with_end w n node x in
      let call = advanced node.end.role call_event.IcrpAcc moment (record o.call { remote = m.remote }) in
      let calls = put t.calls m.session call in
      let l : Letter = record { tunnel = m.tunnel; place = m.given; session = m.remote; message = connection; hidden = None } in
      let u : Tunnel = with_letter m.remote connection (record t { control = counts_taken t.control; calls = calls }) in
      let plain = deed_plain d mv k.deed.move_is (λ p j. refl) (λ p q z. refl) (λ p q z. refl) in
      let alike = end_alike w n node x k.there in
      let live = live_later codecs again room classes w h n node sender moment ev mv x d k t o.there o.current later plain v refl alike in
      let channel = channel_so codecs again room classes w h n node sender moment ev mv x d k t o.there o.current later plain v refl alike in
      let s = next_so codecs again room classes w h n node sender moment ev mv x d k t o.there o.current later plain v refl alike o.letter o.takes.next m.taken o.takes.taken_is in
      let fits : m.remote < 65536 = (says_written h n i e sender ev t o.letter o.takes.next s (Icrp m.remote) o.says.said (λ z. z)).0 in
      takes_hold codecs again room classes w h n node sender moment ev mv x d k t o.there o.current later plain v refl alike o.letter o.takes.next m.taken o.takes.taken_is
      (l ∷ []) u
      (took_and_given_goes h.accounts n i e (h.accounts n i e) t channel (k.counts i t o.there o.current) o.open_is calls
      (calls_put t.calls m.session call live.calls (rw (advanced_remote node.end.role call_event.IcrpAcc moment (record o.call { remote = m.remote })) fits))
      l o.room)
      o.open_is (takes_and_gives d n node.end.role sender mv m.taken (h.accounts n i e) k.deed)
      (sym s.session ∙ o.says.session_is, says_same h n i e sender ev t o.letter o.takes.next s (Icrp m.remote) o.says.said tt)
      (inl (record { written = (omega arith, omega arith, refl); hides = tt; session = fits }), tt) (tt, tt) (tt, tt)
      (puts_so node.end x (with_places node.end i u (with_look (cell.Establish m.session) node.end.calls)) i u o.after (record { config = refl; role = refl; tunnels = refl }))
      (ap (λ (y : End). y.tunnel_ids) o.after) live.query

  pub replied_later : (m : Replied) → IsMoved w h n node sender moment ev (move.Replied m) x d → (epoch_of w n m.tunnel ≡ 0 → ⊥)
      → Holds (moves_on w n node (move.Replied m) x) (after h d)
  unfolding moved
  replied_later m k later =
      let o = k.does in
      let t = o.tunnel in
      let mv = move.Replied m in
      let i = m.tunnel in
      let e = epoch_of w n m.tunnel in
      let v = moves_on w n node mv x in
      let call = asked_for node.end.role m.remote moment in
      let calls = put t.calls m.session call in
      let l : Letter = record { tunnel = m.tunnel; place = m.given; session = m.remote; message = Icrp m.session; hidden = None } in
      let u : Tunnel = with_letter m.remote (Icrp m.session) (record t { control = counts_taken t.control; calls = calls }) in
      let plain = deed_plain d mv k.deed.move_is (λ p j. refl) (λ p q z. refl) (λ p q z. refl) in
      let alike = birth_alike w n node k.there x w.born m.session (birth_of (with_end w n node x) (node_of m.peer) m.remote) in
      let live = live_later codecs again room classes w h n node sender moment ev mv x d k t o.there o.current later plain v refl alike in
      let channel = channel_so codecs again room classes w h n node sender moment ev mv x d k t o.there o.current later plain v refl alike in
      let s = next_so codecs again room classes w h n node sender moment ev mv x d k t o.there o.current later plain v refl alike o.letter o.takes.next m.taken o.takes.taken_is in
      let fits : m.remote < 65536 = (says_written h n i e sender ev t o.letter o.takes.next s (Icrq m.remote o.serial o.calling) o.said
      (λ z. z)).0 in
      let r = request_alike s.letter.message m.remote o.serial o.calling (says_alike h n i e sender ev t o.letter o.takes.next s (Icrq m.remote o.serial o.calling) o.said) in
      let drawn = draw_is node.end.session_ids m.session o.drawn in
      let id = drawn.0 in
      let le = drawn.1 in
      let first = k.fit.tables.first_session in
      let last = k.fit.session_ids.last in
      takes_hold codecs again room classes w h n node sender moment ev mv x d k t o.there o.current later plain v refl alike o.letter o.takes.next m.taken o.takes.taken_is
      (l ∷ []) u
      (took_and_given_goes h.accounts n i e (h.accounts n i e) t channel (k.counts i t o.there o.current) o.open_is calls
      (calls_put t.calls m.session call live.calls (rw (asked_remote node.end.role m.remote moment) fits))
      l o.room)
      o.open_is (takes_and_gives d n node.end.role sender mv m.taken (h.accounts n i e) k.deed)
      (o.serial, r.calling, r.is)
      (inl (record { written = (omega (arith, le, last), omega (arith, id, first)); hides = tt; session = fits }), tt) (tt, tt) (tt, tt)
      (puts_so node.end x (record (with_tunnel node.end i u) { session_ids = after_id node.end.session_ids; calls = put node.end.calls m.session (new_place m.tunnel) }) i u o.after
      (record { config = refl; role = refl; tunnels = refl }))
      (ap (λ (y : End). y.tunnel_ids) o.after) live.query

  module _ (m : Refused) (k : IsMoved w h n node sender moment ev (move.Refused m) x d) (later : epoch_of w n m.tunnel ≡ 0 → ⊥) where
    abbrev t : Tunnel
    t = k.does.tunnel

    abbrev e : ℕ
    e = epoch_of w n m.tunnel

    abbrev v : World
    v = with_end w n node x

    abbrev body : List ℕ
    body = k.does.letter.body

    abbrev l : Letter
    l = record { tunnel = m.tunnel; place = m.given; session = m.remote; message = Cdn 0 m.result m.error; hidden = None }

    abbrev u : Tunnel
    u = with_letter m.remote (Cdn 0 m.result m.error) (record t { control = counts_taken t.control })

    world_is : moves_on w n node (move.Refused m) x ≡ with_end w n node x
    unfolding moved
    world_is = refl

    plain : IsPlainDeed d
    plain = deed_plain d (move.Refused m) k.deed.move_is (λ p j. refl) (λ p q z. refl) (λ p q z. refl)

    s : NextLater h n m.tunnel (epoch_of w n m.tunnel) sender k.does.letter k.does.takes.next.comes.came.bytes
    s =
        next_so codecs again room classes w h n node sender moment ev (move.Refused m) x d k t k.does.there k.does.current later plain v world_is (end_alike w n node x k.there)
        k.does.letter k.does.takes.next m.taken k.does.takes.taken_is

    -- what it refuses is told by the letter
    record IsTold : Type 0 where
      fits : m.remote < 65536
      tells : Tells s.letter (move.Refused m)

    session_told : (session : ℕ) → m.remote ≡ session → session < 65536 → m.remote < 65536
    session_told session same small = rw same small

    told : WhyRefused node.end t k.does.letter.header.session (message_in body) (call_fault_in body) m → IsTold
    told (IsNotGranted remote serial calling said none same denied) =
        let z = says_alike h n m.tunnel e sender ev t k.does.letter k.does.takes.next s (Icrq remote serial calling) said in
        let r = request_alike s.letter.message remote serial calling z in
        record {
          fits = session_told remote same (says_written h n m.tunnel e sender ev t k.does.letter k.does.takes.next s
              (Icrq remote serial calling) said (λ z. z)).0;
          tells = inl (serial, r.calling, r.is ∙ ap (λ q. Icrq q serial r.calling) (sym same));
        }
    told (IsOutgoing remote said same result error) = absurd
        (says_written h n m.tunnel e sender ev t k.does.letter k.does.takes.next s (Ocrq remote) said (λ z. z))
    told (IsReplyToNone remote said none lns same result error) = record {
      fits = session_told remote same (says_written h n m.tunnel e sender ev t k.does.letter k.does.takes.next s (Icrp remote) said
          (λ z. z)).0;
      tells = inr (says_same h n m.tunnel e sender ev t k.does.letter k.does.takes.next s (Icrp remote) said tt ∙ ap (λ q. Icrp q) (sym same));
    }
    told (IsWrong f fault same result error) =
        let came = k.does.takes.next.comes.came in
        let p = faultily_read s.letter (body_of came.bytes k.does.letter.header) s.reads f (ap call_fault_in (sym came.body_is) ∙ fault) in
        let r = read_faulty s.letter.message (body_of came.bytes k.does.letter.header) p.reads f
        (ap call_fault_in (sym came.body_is) ∙ fault) in
        let own : m.remote ≡ r.0 = same ∙ ap (λ (y : CallFault). unwrap_or y.session 0) r.4 in
        record {
          fits = session_told r.0 own (subst IsWritten r.3 p.spelled.written).0;
          tells = inl (r.1, Some r.2, r.3 ∙ ap (λ (y : ℕ). Icrq y r.1 (Some r.2)) (sym own));
        }

    pub refused_later : Holds (moves_on w n node (move.Refused m) x) (after h d)
    unfolding s
    refused_later =
        let o = k.does in
        let mv = move.Refused m in
        let is = told o.why in
        let codes = refusal_codes_fit node.end t o.letter.header.session (message_in body) (call_fault_in body) m o.why in
        let alike = end_alike w n node x k.there in
        let live = live_later codecs again room classes w h n node sender moment ev mv x d k t o.there o.current later plain v world_is alike in
        let channel = channel_so codecs again room classes w h n node sender moment ev mv x d k t o.there o.current later plain v world_is alike in
        takes_hold codecs again room classes w h n node sender moment ev mv x d k t o.there o.current later plain v world_is alike o.letter o.takes.next m.taken o.takes.taken_is
        (l ∷ []) u
        (took_and_given_goes h.accounts n m.tunnel e (h.accounts n m.tunnel e) t channel (k.counts m.tunnel t o.there o.current) o.open_is t.calls live.calls l o.room)
        o.open_is (takes_and_gives d n node.end.role sender mv m.taken (h.accounts n m.tunnel e) k.deed)
        is.tells
        (inl (record { written = (omega arith, codes.0, codes.1); hides = tt; session = is.fits }), tt) (tt, tt) (tt, tt)
        (puts_so node.end x (with_tunnel node.end m.tunnel u) m.tunnel u o.after (record { config = refl; role = refl; tunnels = refl }))
        (ap (λ (y : End). y.tunnel_ids) o.after) live.query
