-- A tunnel that was reset, and is in a later epoch, is closed by the StopCCN of its other end that it takes there, and so is the machine's.
use Rattle.std.proofs.Common.{Ok, ◌≡◌, ⊎_elim, ℕ, ◌<◌, true, [], ◌∷◌, ◌++◌, length, slice_get, refl, sym, ap, ◌∙◌, subst, Option, Some, arith, append-nil, ap₂, None}
use Rattle.std.proofs.lemmas.Option.{none-some, same_Some}
use Rattle.std.specs.Prelude.{take, is_some, ◌||◌}
use Rattle.id_table.specs.Ids.{at, put, at-none}
use Rattle.id_table.specs.Order.{at_new, at_other, same_or_not}
use Rattle.session_book.specs.Books.{Kept, tunnel_at}
use Rattle.tunnel_fsm.specs.Rows.{state_number}
use Rattle.end_model.specs.declared.event.Event.{Event}
use Rattle.end_model.specs.declared.moves.ClosedBy.{ClosedBy}
use Rattle.end_model.specs.declared.moves.Move.{Move}
use Rattle.end_model.specs.Channels.{counts_taken}
use Rattle.end_model.specs.Tunnels.{Tunnel}
use Rattle.end_model.specs.End.{End}
use Rattle.world_model.specs.World.{World, Node, Sender, Deed, epoch_of, moved}
use Rattle.step_laws.specs.Moves.{SaysStop}
use Rattle.book_laws.specs.Books.{Mirrors, tunnel_record}
use Rattle.frame_laws.specs.Codecs.{Codecs}
use Rattle.connection_laws.specs.Facts.{IsStopCcn}
use Rattle.epoch_machine.specs.Tunnels.{Closed}
use Rattle.epoch_machine.specs.Channels.{Channels}
use Rattle.epoch_machine.specs.Worlds.{all_rules, leaves}
use Rattle.epoch_machine.specs.Moves.{step, Delivers, may_take, delivers}
use Rattle.session_laws.specs.Names.{name}
use Rattle.session_laws.proofs.Names.{same_name, name_not_zero}
use Rattle.channel_laws.specs.Accounts.{entered_by, heeded, Renewed, Taken, Account, History, after, about, declines_of, attempts_by, answers_by}
use Rattle.channel_laws.specs.Facts.{partner_in, IsMade, IsOpen, IsShut, IsInState, AccountOk, ChannelOk, LiveOk, AreLinked, IsRenewed}
use Rattle.channel_laws.specs.Recoveries.{WrittenIsRead, WrittenHasRoom}
use Rattle.channel_laws.specs.Steps.{with_end, moves_on}
use Rattle.channel_laws.proofs.Linked.{opener_of, acceptor_of, renewed_of, part_cases, not_itself}
use Rattle.recovery_laws.specs.Growing.{TakenStay}
use Rattle.recovery_laws.specs.Joined.{TunnelJoined, CallsJoined, is_opener, learned_name, LearnedSo, ByLetter, ByRecord, live_in, kept_in, answer_name, is_made}
use Rattle.recovery_laws.specs.Queries.{letters_in, question_of, weigh, QueriesJoined, questions_in}
use Rattle.recovery_laws.proofs.Epochs.{current_phase, learned_so}
use Rattle.join_laws.specs.Steps.{with_book, Follows}
use Rattle.join_laws.proofs.Ahead.{behind, nodes_hold, left, standings}
use Rattle.join_laws.proofs.Apart.{elsewhere}
use Rattle.join_laws.proofs.Asks.{asks_on, one_asked}
use Rattle.join_laws.proofs.Bounds.{fit_bounded}
use Rattle.join_laws.proofs.Calls.{call_in, sessions_joined}
use Rattle.join_laws.proofs.Channel.{questions_stay, heeds_all}
use Rattle.join_laws.proofs.Finish.{Went, went_one, follows}
use Rattle.join_laws.proofs.Leaving.{leaves_here, leaves_phase, leaves_booked, ends_call, elsewhere_stays, left_sessions, leaves_stays, leaves_rest}
use Rattle.join_laws.proofs.OneTunnel.{one_joined}
use Rattle.join_laws.proofs.Roots.{IsPlain}
use Rattle.connection_laws.proofs.States.{not_closed}
use Rattle.join_laws.proofs.CallMoves.{delivers_node}
use Rattle.join_laws.proofs.Said.{says_one}
use Rattle.recv_window.specs.Window.{ClassIsTrue}
use Rattle.end_model.specs.Reading.{message_in, TunnelFault, tunnel_fault_in}
use Rattle.l2tp_header.specs.Reading.{body_of}
use Rattle.connection_laws.proofs.Alike.{read_sound}
use Rattle.channel_laws.proofs.HeardLater.{NextLater, next_later}
use Rattle.channel_laws.proofs.Spelled.{letter_same, closing_read}
use Rattle.world_model.specs.declared.standing.Standing.{Standing}
use Rattle.recovery_laws.specs.Asking.{TakesFrom}
use Rattle.recovery_laws.proofs.Asking.{may_take_it}
use Rattle.join_laws.proofs.Books.{booked}
use Rattle.join_laws.proofs.Letters.{is_booked}
use Rattle.join_laws.proofs.PlainOne.{Changes, changes_one}
use Rattle.closing_join_laws.proofs.Stopping.{stop_said}
use Rattle.step_laws.specs.Arrivals.{Came}
use Rattle.tunnel_fsm.specs.declared.table.TunnelState.TheVariants as state
use Rattle.end_model.specs.declared.moves.Move.TheVariants as move
use Rattle.epoch_machine.specs.Worlds as machine
use Rattle.join_laws.specs.Steps as steps
use Rattle.join_laws.proofs.Hearing.{heard_none}
use Rattle.join_laws.proofs.Made as made
use Rattle.control_message.specs.declared.message.Message.TheVariants as message
use Rattle.epoch_machine.specs.Letters as machine_letters
use Rattle.channel_laws.proofs.Deeds as deeds
use Rattle.join_laws.proofs.Entering as entering
use Rattle.tunnel_fsm.specs.declared.table.TunnelEvent.TheVariants as event

stops_at : (w : machine.World) (x s e k : ℕ) → slice_get (w.channels.sent s e) k ≡ Some machine_letters.StopCcn
    → may_take all_rules w x s e k machine_letters.StopCcn ≡ true → step all_rules w (Delivers x s e k 0) ≡ leaves w x Closed
unfolding step delivers
stops_at w x s e k there may = rw (there, may) refl

-- ---- the move

module _ (codecs : Codecs) (again : WrittenIsRead) (room : WrittenHasRoom) (classes : ClassIsTrue) (stay : TakenStay) (w : World)
    (h : History) (n : ℕ)
    (node : Node) (sender : Option Sender) (moment : ℕ) (ev : Event) (m : ClosedBy) (x : End) (d : Deed) (k : Kept) (j : machine.World)
    (q : steps.IsMade w h n node sender moment ev (move.ClosedBy m) x d k j) (later : epoch_of w n m.tunnel ≡ 0 → ⊥)
    (b : Kept) (mirrors : Mirrors x b) where
  abbrev mv : Move
  mv = move.ClosedBy m

  abbrev i : ℕ
  i = m.tunnel

  abbrev e : ℕ
  e = epoch_of w n m.tunnel

  abbrev t : Tunnel
  t = q.moved.does.tunnel

  abbrev a : Account
  a = h.accounts n m.tunnel (epoch_of w n m.tunnel)

  abbrev g : History
  g = after h d

  abbrev u : World
  u = behind w n node x b

  abbrev tk : Taken
  tk = record { sender = d.sender; number = m.taken.number; move = d.move }

  abbrev new : Account
  new = record a { closed = Some (length a.taken); taken = a.taken ++ tk ∷ [] }

  abbrev shut : Tunnel
  shut = record t { control = record (counts_taken t.control) { state = state.Closed; closed = moment } }

  abbrev r : Tunnel
  r = record shut { calls = [] }

  plain : IsPlain d mv
  plain = record { declines = λ y f. refl; attempts = λ y c o. refl; answers = λ y c o. refl }

  same : moves_on w n node mv x ≡ with_end w n node x
  unfolding moved
  same = refl

  at_t : at node.end.tunnels m.tunnel ≡ Some t
  at_t = q.moved.does.there

  told : TunnelJoined j (with_book w n k) h n m.tunnel (Some t) (tunnel_at k m.tunnel)
  told = made.told w h n node sender moment ev mv x d k j q m.tunnel t at_t

  live : LiveOk w h n m.tunnel t
  live = made.live_ok w h n node sender moment ev mv x d k j q m.tunnel t at_t

  now : g.accounts n i e ≡ new
  now = entering.account_now w h n node sender moment ev mv x d k j q
      (made.epoch_is w h n node sender moment ev mv x d k j q same) plain new refl

  others_are : (p f y : ℕ) → ((p ≡ n) × (f ≡ i) × (y ≡ e) → ⊥) → g.accounts p f y ≡ h.accounts p f y
  others_are = deeds.others h d n i e new q.moved.deed.node_is (ap about q.moved.deed.move_is)
      (made.epoch_is w h n node sender moment ev mv x d k j q same)
      (ap (λ y. entered_by d y a) q.moved.deed.move_is)
      (λ p f. ap (λ y. declines_of y p f) q.moved.deed.move_is)
      (λ p c o. ap (λ y. attempts_by d y p c o) q.moved.deed.move_is)
      (λ p c o. ap (λ y. answers_by d y p c o) q.moved.deed.move_is)

  -- what was known of epoch 0 stays
  first_are : (p f : ℕ) → g.accounts p f 0 ≡ h.accounts p f 0
  first_are p f = others_are p f 0 (λ all. later (sym all.2))

  -- ---- its channel

  channel : ChannelOk h.accounts n i e a t
  channel = made.channel_ok w h n node sender moment ev mv x d k j q i t at_t q.moved.does.current

  part : a.part ≡ Renewed
  part = ⊎_elim
      (λ own. absurd (later (opener_of w h n i e a (q.moved.holds.accounts n i e) own).0))
      (λ y. ⊎_elim
      (λ own. absurd (later (acceptor_of w h n i e a (q.moved.holds.accounts n i e) own).0))
      (λ own. own) y)
      (part_cases a.part (made.made_now w h n node sender moment ev mv x d k j q i t at_t))

  renewed : IsRenewed w h n i e a
  renewed = renewed_of w h n i e a (q.moved.holds.accounts n i e) part

  link : AreLinked h.accounts n i a.peer a.remote
  link = renewed.linked

  stands_open : (state_number t.control.state ≡ 3) × (a.closed ≡ None)
  stands_open = ⊎_elim
      (λ (y : (state_number t.control.state ≡ 3) × IsOpen a). y)
      (λ (y : IsShut a t). absurd (not_closed t.control.state q.moved.does.live y.0))
      (subst (IsInState h.accounts i e a t) part channel.state)

  -- ---- the letter

  abbrev letter : Came
  letter = q.moved.does.letter

  next : NextLater h n i e sender letter q.moved.does.takes.next.comes.came.bytes
  next = next_later codecs again room w h q.moved.holds n node q.moved.there sender ev q.moved.comes i e t at_t q.moved.does.current refl
      part classes
      letter q.moved.does.takes.next

  body : letter.body ≡ body_of q.moved.does.takes.next.comes.came.bytes letter.header
  body = q.moved.does.takes.next.comes.came.body_is

  stop_by : SaysStop letter.body → IsStopCcn next.letter.message
  stop_by says = ⊎_elim
      (λ (y : (id : ℕ) × (result : ℕ) × (error : Option ℕ) × (message_in letter.body ≡ Ok (message.StopCcn id result error))).
      subst IsStopCcn (sym (letter_same next.letter (body_of q.moved.does.takes.next.comes.came.bytes letter.header) next.reads
      (message.StopCcn y.0 y.1 y.2) (ap message_in (sym body) ∙ y.3) tt)) tt)
      (λ (y : (f : TunnelFault) × (tunnel_fault_in letter.body ≡ Some f) × (f.event ≡ event.StopCcnCame)).
      let fault = ap tunnel_fault_in (sym body) ∙ y.1 in
      let none = read_sound next.letter.message (body_of q.moved.does.takes.next.comes.came.bytes letter.header)
      (closing_read next.letter (body_of q.moved.does.takes.next.comes.came.bytes letter.header) next.reads y.0 fault).reads in
      absurd (none-some y.0 (sym none ∙ fault)))
      says

  stops : IsStopCcn next.letter.message
  stops = stop_by q.moved.does.says

  -- ---- in the machine

  abbrev X : ℕ
  X = name n m.tunnel

  abbrev S : ℕ
  S = name a.peer a.remote

  abbrev c : Account
  c = partner_in h.accounts e a

  abbrev z : machine.World
  z = leaves j X Closed

  made_there : IsMade (h.accounts a.peer a.remote 0)
  made_there none = ⊎_elim (λ y. let two = sym y.1 ∙ none in absurd cc) (λ y. let two = sym y.1 ∙ none in absurd cc) link.parts

  there_ok : AccountOk w h a.peer a.remote 0 (h.accounts a.peer a.remote 0)
  there_ok = q.moved.holds.accounts a.peer a.remote 0

  told_there : TunnelJoined j (with_book w n k) h a.peer a.remote (live_in (at (with_book w n k).nodes a.peer) a.remote)
      (kept_in (at (with_book w n k).nodes a.peer) a.remote)
  told_there = q.joined.joined.tunnels a.peer a.remote (there_ok.node made_there) (there_ok.id made_there)

  fits : i < 65536
  fits = made.id_fits w h n node sender moment ev mv x d k j q i t at_t

  abbrev place : ℕ
  place = weigh (take (length a.taken) c.given)

  taken_before : j.channels.taken X e ≡ place
  taken_before = told.taken e ∙ ap (λ f. weigh (take f c.given)) (heeds_all a stands_open.1)

  from : TakesFrom j X S e place
  from = record {
    open_is = made.open_is w h n node sender moment ev mv x d k j q i t at_t q.moved.does.current stands_open.0;
    entered = made.entered_is w h n node sender moment ev mv x d k j q i t at_t;
    learned = learned_so h.accounts a.peer a.remote n i (j.tunnels.learned S) told_there.learned link.back_peer link.back link.from_some
        link.to_late;
    some = name_not_zero a.peer a.remote link.to_some;
    apart = λ one. (let two = same_name a.peer a.remote n i (there_ok.id made_there) fits one in
        not_itself h.accounts n i a.peer a.remote link (sym two.0) (sym two.1));
    next = taken_before;
  }

  stands : slice_get (j.channels.sent S e) place ≡ Some machine_letters.StopCcn
  stands =
      ap (λ ls. slice_get ls place) (told_there.sent e)
      ∙ says_one a.peer c.peer (questions_in c.taken) c.given (length a.taken) next.letter machine_letters.StopCcn next.there
      (λ asked. stop_said a.peer c.peer asked next.letter.session next.letter.message stops)

  went : Went ev n j z
  went = went_one ev n j z (Delivers X S e place 0) (delivers_node j X S e place 0 ∙ told.node live.made) refl
      (heard_none ev j X S e place 0 machine_letters.StopCcn stands refl)
      (stops_at j X S e place stands (may_take_it j X S e place machine_letters.StopCcn from))

  -- ---- the tunnel

  tunnels : x.tunnels ≡ put node.end.tunnels m.tunnel r
  tunnels = ap (λ (y : End). y.tunnels) q.moved.does.after

  at_r : at x.tunnels m.tunnel ≡ Some r
  at_r = ap (λ ts. at ts m.tunnel) tunnels ∙ at_new node.end.tunnels m.tunnel r

  others : (f : ℕ) → (f ≡ m.tunnel → ⊥) → at x.tunnels f ≡ at node.end.tunnels f
  others f other = ap (λ ts. at ts f) tunnels ∙ at_other node.end.tunnels m.tunnel r f other

  peers : (y f : ℕ) → (g.accounts y f 0).peer ≡ (h.accounts y f 0).peer
  peers y f = ap (λ (o : Account). o.peer) (first_are y f)

  -- all but what it took, and that it is closed
  in_epoch : {Y : Type 0} (f : Account → Y) → f new ≡ f a → (p o y : ℕ) → f (g.accounts p o y) ≡ f (h.accounts p o y)
  in_epoch f is p o y = ⊎_elim
      (λ (one : p ≡ n). ⊎_elim
      (λ (two : o ≡ i). ⊎_elim
      (λ (three : y ≡ e). rw (one, two, three) (ap f now ∙ is))
      (λ other. ap f (others_are p o y (λ all. other all.2)))
      (same_or_not y e))
      (λ other. ap f (others_are p o y (λ all. other all.1)))
      (same_or_not o i))
      (λ other. ap f (others_are p o y (λ all. other all.0)))
      (same_or_not p n)

  given_as : (p o y : ℕ) → (g.accounts p o y).given ≡ (h.accounts p o y).given
  given_as = in_epoch (λ (y : Account). y.given) refl

  heeded_as : (p o y : ℕ) → heeded (g.accounts p o y) ≡ heeded (h.accounts p o y)
  heeded_as = in_epoch heeded (sym (heeds_all a stands_open.1))

  peer_as : (p o y : ℕ) → (g.accounts p o y).peer ≡ (h.accounts p o y).peer
  peer_as = in_epoch (λ (y : Account). y.peer) refl

  remote_as : (p o y : ℕ) → (g.accounts p o y).remote ≡ (h.accounts p o y).remote
  remote_as = in_epoch (λ (y : Account). y.remote) refl

  questions_as : (p o y : ℕ) → questions_in (g.accounts p o y).taken ≡ questions_in (h.accounts p o y).taken
  questions_as = in_epoch (λ (y : Account). questions_in y.taken) (questions_stay a.taken tk (ap question_of q.moved.deed.move_is))

  partner_as : (y : ℕ) → (partner_in g.accounts y (g.accounts n i y)).given ≡ (partner_in h.accounts y (h.accounts n i y)).given
  partner_as y = ap₂ (λ p o. (g.accounts p o y).given) (peer_as n i y) (remote_as n i y)
      ∙ given_as (h.accounts n i y).peer (h.accounts n i y).remote y

  learned_on : (y : ℕ) → LearnedSo h.accounts n i y → LearnedSo g.accounts n i y
  learned_on y (ByLetter is) = ByLetter (is ∙ sym (ap learned_name (first_are n i)))
  learned_on y (ByRecord f own none lt is to home back) =
      let p = ap (λ (o : Account). o.peer) (first_are n i) in
      ByRecord f (ap (λ (o : Account). o.part) (first_are n i) ∙ own) (ap (λ (o : Account). o.remote) (first_are n i) ∙ none) lt
      (is ∙ ap (λ o. name o f) (sym p))
      (ap (λ o. (g.accounts o f 0).part) p ∙ (ap (λ (o : Account). o.part) (first_are (h.accounts n i 0).peer f) ∙ to))
      (ap (λ o. (g.accounts o f 0).peer) p ∙ (ap (λ (o : Account). o.peer) (first_are (h.accounts n i 0).peer f) ∙ home))
      (ap (λ o. (g.accounts o f 0).remote) p ∙ (ap (λ (o : Account). o.remote) (first_are (h.accounts n i 0).peer f) ∙ back))

  here : TunnelJoined z u g n i (Some r) (tunnel_at b i)
  here =
      let s = leaves_here j X Closed in
      record {
        opener = s.opener ∙ (told.opener ∙ ap (λ (o : Account). is_opener o.part) (sym (first_are n i)));
        node = λ made. s.node X ∙ told.node live.made;
        peer = λ made. s.peer ∙ (told.peer live.made ∙ sym (peers n i));
        learned = subst (LearnedSo g.accounts n i) (sym s.learned) (learned_on (j.tunnels.learned X) told.learned);
        phase = leaves_phase j X Closed ∙ sym (current_phase n r r.recovery q.moved.does.current);
        booked = leaves_booked j X Closed ∙ sym (ap (λ o. is_some o) (mirrors.tunnels i ∙ ap (tunnel_record i) at_r) ∙ is_booked i r);
        entered = s.entered X ∙ (told.entered ∙ sym (ap (λ (y : Standing). y.epoch) (standings w n node q.moved.there x k b n i)));
        epochs = s.epochs ∙ (told.epochs ∙ sym (ap (λ (y : Standing). y.made) (standings w n node q.moved.there x k b n i)));
        entered_by = λ y. s.entered_by y ∙ (told.entered_by y ∙ ap answer_name (sym (in_epoch (λ (o : Account). o.answer) refl n i y)));
        sent = λ y. ap (λ (o : Channels). o.sent X y) s.channels
            ∙ (told.sent y
            ∙ sym (ap (λ f. letters_in n f (questions_in (g.accounts n i y).taken) (g.accounts n i y).given) (peer_as n i y)
            ∙ ap₂ (λ ts ls. letters_in n (h.accounts n i y).peer ts ls) (questions_as n i y) (given_as n i y)));
        taken = λ y. ap (λ (o : Channels). o.taken X y) s.channels
            ∙ (told.taken y ∙ sym (ap₂ (λ f ls. weigh (take f ls)) (heeded_as n i y) (partner_as y)));
        refused = ap (λ (o : Channels). o.refused X) s.channels ∙ (told.refused ∙ ap (λ (o : Account). o.declined) (sym (first_are n i)));
      }

  calls : CallsJoined z g n (left node x b)
  calls = sessions_joined node x k b j z h g n
      (left_sessions node x k b j h g n m.tunnel Closed t fits q.mirrors mirrors (fit_bounded x q.fit) (fit_bounded node.end q.moved.fit)
      (peers n) (ap (λ (y : End). y.session_ids) q.moved.does.after) at_t (λ s. ap (λ y. call_in y s) at_r ∙ at-none s) others
      (made.calls_before w h n node sender moment ev mv x d k j q))
      (made.calls_before w h n node sender moment ev mv x d k j q)

  queries : QueriesJoined u g z
  queries = asks_on (with_book w n k) u h g j z (record {
    peers = peers;
    asks = λ y s. (ends_call j X Closed y).asks s;
    held = λ y f s. (ends_call j X Closed y).held f s;
    entered = (leaves_here j X Closed).entered;
    asked = one_asked w n node q.moved.there x k b m.tunnel others
        (λ v at_v current three.
        (let this : r ≡ v = same_Some r v (sym at_r ∙ at_v) in
        let number = ap (λ (y : Tunnel). state_number y.control.state) this in
        absurd (omega (arith, number, three))));
  }) q.joined.queries

  changes : Changes w h g n node x k b j z i
  changes = record {
    node_fits = made.node_fits w h n node sender moment ev mv x d k j q;
    id_fits = fits;
    there = q.moved.there;
    old = q.mirrors;
    new = mirrors;
    nodes = q.nodes;
    within = made.within w h n node sender moment ev mv x d k j q;
    others = others;
    accounts = λ p f y apart. others_are p f y (λ all. apart (all.0, all.1));
    grown = λ y. record {
      given = ([], given_as n i y ∙ sym (append-nil (h.accounts n i y).given));
      acceptor = λ own. (in_epoch (λ (o : Account). o.part) refl n i y ∙ own, peer_as n i y, remote_as n i y);
    };
    history = record {
      attempts = λ p f. ap (λ y. attempts_by d y p f (h.attempts p f)) q.moved.deed.move_is;
      answers = λ p f. ap (λ y. answers_by d y p f (h.answers p f)) q.moved.deed.move_is;
      answer = in_epoch (λ (o : Account). o.answer) refl;
    };
    rest = leaves_rest j X Closed;
    drawn = λ p f pfits ffits. (leaves_here j X Closed).drawn (name p f)
        ∙ (q.joined.joined.drawn p f pfits ffits
        ∙ sym (ap (λ (o : Account). is_made o.part || (is_some (g.attempts p f) || is_some (g.answers p f))) (first_are p f)
        ∙ (ap (λ o. is_made (h.accounts p f 0).part || (is_some o || is_some (g.answers p f)))
        (ap (λ y. attempts_by d y p f (h.attempts p f)) q.moved.deed.move_is)
        ∙ ap (λ o. is_made (h.accounts p f 0).part || (is_some (h.attempts p f) || is_some o))
        (ap (λ y. answers_by d y p f (h.answers p f)) q.moved.deed.move_is))));
    stays = leaves_stays j X Closed;
    here = subst (λ o. TunnelJoined z u g n i o (tunnel_at b i)) (sym at_r) here;
    calls = calls;
    calls_stay = λ p s no pfits sfits.
        elsewhere_stays j X Closed (name p s)
        (elsewhere (with_book w n k) h j q.joined.joined n m.tunnel fits p pfits no
        (λ c has. nodes_hold w n node q.moved.there x k b q.nodes p c no has) s sfits);
    births = ((ends_call j X Closed 0).births, λ y. (ends_call j X Closed y).birth);
  }

  pub stopped_later : Follows ev (with_book (moves_on w n node mv x) n b) (after h d) n j
  stopped_later = follows ev w h n node mv x d k b j z same went
      (λ js goes.
      one_joined stay (with_book w n k) u h g j z n i (booked node k) (left node x b) q.joined.joined
      (changes_one w h g n node x k b j z i changes q.joined.joined) js goes)
      queries (λ y is. q.joined.named y (sym (ends_call j X Closed y).drawn ∙ is))
