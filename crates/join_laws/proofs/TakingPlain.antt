-- A letter is taken on which nothing is done. In an established tunnel it is delivered in the machine too, and nothing is done on it there;
-- what a closed tunnel takes isn't counted there. A tunnel that waits takes none so: it hears what it waits for, or a StopCCN.
use Rattle.std.proofs.Common.{◌≡◌, ◌⊎◌, inl, inr, ⊎_elim, ℕ, suc, ◌<◌, ◌≤◌, false, [], ◌∷◌, ◌++◌, length, refl, sym, ap, ap₂, ◌∙◌, subst, Option, Some, arith, ne_eqb, append-nil}
use Rattle.std.proofs.lemmas.Bool.{true≢false}
use Rattle.std.specs.Prelude.{slice_get, take, unwrap_or, if◌then◌else◌}
use Rattle.id_table.specs.Ids.{at, put}
use Rattle.id_table.specs.Order.{at_new, at_other}
use Rattle.id_source.specs.Spaces.{Space}
use Rattle.recv_window.specs.Window.{ClassIsTrue}
use Rattle.session_book.specs.Books.{Kept, tunnel_at}
use Rattle.control_message.specs.declared.message.Message.{Message}
use Rattle.control_message.specs.declared.message.Message.TheVariants as message
use Rattle.tunnel_fsm.specs.declared.table.TunnelState.{TunnelState}
use Rattle.tunnel_fsm.specs.declared.table.TunnelState.TheVariants as tunnel
use Rattle.tunnel_fsm.specs.Rows.{state_number}
use Rattle.end_model.specs.declared.event.Event.{Event}
use Rattle.end_model.specs.declared.moves.TookPlain.{TookPlain}
use Rattle.end_model.specs.declared.moves.Move.{Move}
use Rattle.end_model.specs.declared.moves.Move.TheVariants as move
use Rattle.end_model.specs.Channels.{counts_taken}
use Rattle.end_model.specs.Moments.{is_closed}
use Rattle.end_model.specs.Tunnels.{Tunnel}
use Rattle.end_model.specs.End.{End}
use Rattle.world_model.specs.World.{World, Node, Sender, Deed, epoch_of, moved}
use Rattle.step_laws.specs.Letters.{Letter}
use Rattle.step_laws.specs.Moves.{IsPlain}
use Rattle.book_laws.specs.Books.{Mirrors}
use Rattle.birth_laws.specs.Births.{BirthsOfRuns}
use Rattle.letter_laws.specs.Letters.{LettersHold, LettersOfRuns}
use Rattle.frame_laws.specs.Codecs.{Codecs}
use Rattle.frame_laws.specs.Written.{IsWritten}
use Rattle.connection_laws.specs.Facts.{AllWait, IsStopCcn}
use Rattle.connection_laws.specs.Steps as calm
use Rattle.connection_laws.proofs.Alike.{IsNoRequest, of_all, carried}
use Rattle.epoch_machine.specs.Letters as machine_letters
use Rattle.epoch_machine.specs.Tunnels.{Tunnels, WaitConnect}
use Rattle.epoch_machine.specs.Worlds as machine
use Rattle.epoch_machine.specs.Worlds.{all_rules, took_one, takes, is_scccn, is_stop}
use Rattle.epoch_machine.specs.Moves.{Delivers, delivers, may_take, step, goes_on}
use Rattle.session_laws.specs.Names.{name, spoken, phase_of}
use Rattle.session_laws.proofs.Alike.{alike_sized}
use Rattle.channel_laws.specs.Accounts.{Part, Unmade, Opener, Acceptor, Renewed, Taken, Account, heeded, partner_of, History, entered_by, after}
use Rattle.channel_laws.specs.Facts.{Accounts, IsOfQuery, IsMade, IsOpen, IsClosed, IsShut, IsInState, IsSpelledIn, IsTaken, AccountOk, ChannelOk, partner_in}
use Rattle.channel_laws.specs.Recoveries.{WrittenIsRead, WrittenHasRoom}
use Rattle.channel_laws.specs.Steps.{with_end, moves_on}
use Rattle.channel_laws.proofs.Linked.{acceptor_of}
use Rattle.frame_laws.proofs.Facts.{all_at}
use Rattle.recovery_laws.specs.Asking as asking
use Rattle.recovery_laws.specs.Growing.{ChannelsGrow}
use Rattle.recovery_laws.specs.Joined.{is_opener, TunnelJoined, live_in, kept_in}
use Rattle.recovery_laws.specs.Queries.{letters_in, question_of, questions_in, weigh}
use Rattle.recovery_laws.proofs.Asking.{none, may_take_it, heard_one}
use Rattle.recovery_laws.proofs.Epochs.{current_phase}
use Rattle.session_laws.proofs.Entering.{got_last}
use Rattle.join_laws.specs.Hearing.{stage, Hears}
use Rattle.join_laws.specs.Steps as steps
use Rattle.join_laws.specs.Steps.{with_book, Follows, Joins}
use Rattle.join_laws.proofs.Bounds.{fit_bounded}
use Rattle.join_laws.proofs.CallMoves.{with_calls, with_calls_tunnels, delivers_node}
use Rattle.join_laws.proofs.Calls.{AreLike, like_in, like_same, Sessions, sessions_joined, unchanged, same_stays}
use Rattle.join_laws.proofs.Channel.{heeds_one, heeds_all, sent_none}
use Rattle.join_laws.proofs.Entering as entering
use Rattle.join_laws.proofs.Finish.{Went, went_one, named_as}
use Rattle.join_laws.proofs.Hearing.{stage_spoken, heard_at}
use Rattle.join_laws.proofs.Letters.{Talks}
use Rattle.join_laws.proofs.Made as made
use Rattle.join_laws.proofs.Partners.{partner_some, no_self}
use Rattle.join_laws.proofs.PlainHeard.{IsHeard, heard_no_stop, heard_no_query, heard_said, weighs_one, heard_plain}
use Rattle.join_laws.proofs.PlainTakes.{PlainTakes, plain_by}
use Rattle.join_laws.proofs.Roots.{Roots, Speaks, IsPlain as IsPlainDeed}
use Rattle.join_laws.proofs.Said.{says_one}
use Rattle.join_laws.proofs.Taking as taking
use Rattle.join_laws.proofs.Taking.{Takes, TakesIn, TookLetter, spelled_session, spelled_so}
use Rattle.join_laws.proofs.Talking.{talks_follow}
use Rattle.join_laws.proofs.Within.{partner_by}

-- ---- in the machine

-- a letter that is no StopCCN is delivered
delivers_is : (w : machine.World) (x s e k : ℕ) (l : machine_letters.Letter) → is_stop l ≡ false
    → delivers all_rules w x s e k 0 (Some l) ≡ (if may_take all_rules w x s e k l then takes all_rules (took_one w x) x s l 0 else w)
unfolding delivers
delivers_is w x s e k machine_letters.Sccrq none = refl
delivers_is w x s e k machine_letters.Sccrp none = refl
delivers_is w x s e k machine_letters.Scccn none = refl
delivers_is w x s e k machine_letters.StopCcn none = absurd (true≢false none)
delivers_is w x s e k machine_letters.Hello none = refl
delivers_is w x s e k (machine_letters.Request own) none = refl
delivers_is w x s e k (machine_letters.Reply own z) none = refl
delivers_is w x s e k (machine_letters.Connect z) none = refl
delivers_is w x s e k (machine_letters.Cdn own z) none = refl
delivers_is w x s e k (machine_letters.Fsq own z) none = refl
delivers_is w x s e k (machine_letters.Fsr own z here) none = refl

plain_step : (w : machine.World) (x s e k : ℕ) (l : machine_letters.Letter) → asking.TakesFrom w x s e k
    → slice_get (w.channels.sent s e) k ≡ Some l → is_stop l ≡ false
    → step all_rules w (Delivers x s e k 0) ≡ takes all_rules (took_one w x) x s l 0
unfolding step
plain_step w x s e k l t stands none =
    ap (λ o. delivers all_rules w x s e k 0 o) stands
    ∙ (delivers_is w x s e k l none
    ∙ ap (λ b. if b then takes all_rules (took_one w x) x s l 0 else w) (may_take_it w x s e k l t))

-- ---- messages

-- what is plain in a tunnel that isn't closed confirms none, and stops none
no_opening : (e : End) (t : Tunnel) (session : ℕ) (m : Message) → is_closed t.control.state ≡ false
    → (IsNoRequest m → IsPlain e t session m) → (n p : ℕ)
    → (is_scccn (spoken n p session m) ≡ false) × (is_stop (spoken n p session m) ≡ false)
no_opening e t session (message.Sccrq o) works why n p = (refl, refl)
no_opening e t session (message.Sccrp o) works why n p = (refl, refl)
no_opening e t session (message.Scccn response) works why n p = absurd (true≢false (sym (why tt) ∙ works))
no_opening e t session (message.StopCcn tunnel result error) works why n p = absurd (true≢false (sym (why tt) ∙ works))
no_opening e t session message.Hello works why n p = (refl, refl)
no_opening e t session (message.Ocrq remote) works why n p = (refl, refl)
no_opening e t session message.Ocrp works why n p = (refl, refl)
no_opening e t session message.Occn works why n p = (refl, refl)
no_opening e t session message.Wen works why n p = (refl, refl)
no_opening e t session message.Sli works why n p = (refl, refl)
no_opening e t session (message.Fsq sessions) works why n p = (refl, refl)
no_opening e t session (message.Fsr sessions) works why n p = (refl, refl)
no_opening e t session (message.Icrq remote serial calling) works why n p = (refl, refl)
no_opening e t session (message.Icrp remote) works why n p = (refl, refl)
no_opening e t session (message.Iccn speed framing sequenced) works why n p = (refl, refl)
no_opening e t session (message.Cdn remote code error) works why n p = (refl, refl)

-- an established tunnel answers questions, and takes answers
no_query : (e : End) (t : Tunnel) (session : ℕ) (m : Message) → is_closed t.control.state ≡ false → state_number t.control.state ≡ 3
    → (IsNoRequest m → IsPlain e t session m) → IsOfQuery m → ⊥
no_query e t session (message.Fsq sessions) works three why query = why tt three
no_query e t session (message.Fsr sessions) works three why query = true≢false (sym (why tt) ∙ works)
no_query e t session m works three why query = absurd query

-- there are none in epoch 0
written_no_query : (m : Message) → IsWritten m → IsOfQuery m → ⊥
written_no_query (message.Fsq sessions) written query = written
written_no_query (message.Fsr sessions) written query = written
written_no_query m written query = absurd query

spelled_no_query : (e : ℕ) (l : Letter) → e ≡ 0 → IsSpelledIn e l → IsOfQuery l.message → ⊥
spelled_no_query e l first (inl s) query = written_no_query l.message s.written query
spelled_no_query e l first (inr s) query = let some = s.0 in omega (arith, some, first)

-- ---- states

-- a tunnel that waits: for its SCCRP it has learned none, and for its SCCCN it accepted
waits_first : (accs : Accounts) (i e : ℕ) (a : Account) (t : Tunnel) (p : Part) → IsInState accs i e a t p
    → state_number t.control.state ≡ 1
    → (a.remote ≡ 0) × IsOpen a
waits_first accs i e a t Unmade s one = absurd s
waits_first accs i e a t Opener s one = ⊎_elim
    (λ (q : (state_number t.control.state ≡ 1) × (a.remote ≡ 0) × IsOpen a × AllWait t.calls). (q.1, q.2))
    (λ k. ⊎_elim
    (λ (q : (state_number t.control.state ≡ 3) × (a.remote ≡ 0 → ⊥) × IsOpen a). let three = q.0 in absurd (omega (arith, three, one)))
    (λ (q : IsShut a t). let four = q.0 in absurd (omega (arith, four, one))) k)
    s
waits_first accs i e a t Acceptor s one = ⊎_elim
    (λ (q : (state_number t.control.state ≡ 2) × (t.calls ≡ []) × IsOpen a). let two = q.0 in absurd (omega (arith, two, one)))
    (λ k. ⊎_elim
    (λ (q : (state_number t.control.state ≡ 3) × ((partner_in accs 0 a).remote ≡ i) × IsOpen a).
    let three = q.0 in absurd (omega (arith, three, one)))
    (λ (q : IsShut a t). let four = q.0 in absurd (omega (arith, four, one))) k)
    s
waits_first accs i e a t Renewed s one = ⊎_elim
    (λ (q : (state_number t.control.state ≡ 3) × IsOpen a). let three = q.0 in absurd (omega (arith, three, one)))
    (λ (q : IsShut a t). let four = q.0 in absurd (omega (arith, four, one)))
    s

waits_second : (accs : Accounts) (i e : ℕ) (a : Account) (t : Tunnel) (p : Part) → IsInState accs i e a t p
    → state_number t.control.state ≡ 2
    → (p ≡ Acceptor) × IsOpen a
waits_second accs i e a t Unmade s two = absurd s
waits_second accs i e a t Opener s two = ⊎_elim
    (λ (q : (state_number t.control.state ≡ 1) × (a.remote ≡ 0) × IsOpen a × AllWait t.calls).
    let one = q.0 in absurd (omega (arith, one, two)))
    (λ k. ⊎_elim
    (λ (q : (state_number t.control.state ≡ 3) × (a.remote ≡ 0 → ⊥) × IsOpen a). let three = q.0 in absurd (omega (arith, three, two)))
    (λ (q : IsShut a t). let four = q.0 in absurd (omega (arith, four, two))) k)
    s
waits_second accs i e a t Acceptor s two = ⊎_elim
    (λ (q : (state_number t.control.state ≡ 2) × (t.calls ≡ []) × IsOpen a). (refl, q.2))
    (λ k. ⊎_elim
    (λ (q : (state_number t.control.state ≡ 3) × ((partner_in accs 0 a).remote ≡ i) × IsOpen a).
    let three = q.0 in absurd (omega (arith, three, two)))
    (λ (q : IsShut a t). let four = q.0 in absurd (omega (arith, four, two))) k)
    s
waits_second accs i e a t Renewed s two = ⊎_elim
    (λ (q : (state_number t.control.state ≡ 3) × IsOpen a). let three = q.0 in absurd (omega (arith, three, two)))
    (λ (q : IsShut a t). let four = q.0 in absurd (omega (arith, four, two)))
    s

-- the channel of a closed tunnel is closed
shut_account : (accs : Accounts) (i e : ℕ) (a : Account) (t : Tunnel) (p : Part) → IsInState accs i e a t p
    → state_number t.control.state ≡ 4
    → IsClosed a
shut_account accs i e a t Unmade s four = absurd s
shut_account accs i e a t Opener s four = ⊎_elim
    (λ (q : (state_number t.control.state ≡ 1) × (a.remote ≡ 0) × IsOpen a × AllWait t.calls).
    let one = q.0 in absurd (omega (arith, one, four)))
    (λ k. ⊎_elim
    (λ (q : (state_number t.control.state ≡ 3) × (a.remote ≡ 0 → ⊥) × IsOpen a). let three = q.0 in absurd (omega (arith, three, four)))
    (λ (q : IsShut a t). q.1) k)
    s
shut_account accs i e a t Acceptor s four = ⊎_elim
    (λ (q : (state_number t.control.state ≡ 2) × (t.calls ≡ []) × IsOpen a). let two = q.0 in absurd (omega (arith, two, four)))
    (λ k. ⊎_elim
    (λ (q : (state_number t.control.state ≡ 3) × ((partner_in accs 0 a).remote ≡ i) × IsOpen a).
    let three = q.0 in absurd (omega (arith, three, four)))
    (λ (q : IsShut a t). q.1) k)
    s
shut_account accs i e a t Renewed s four = ⊎_elim
    (λ (q : (state_number t.control.state ≡ 3) × IsOpen a). let three = q.0 in absurd (omega (arith, three, four)))
    (λ (q : IsShut a t). q.1)
    s

second_phase : (s : TunnelState) → state_number s ≡ 2 → phase_of s ≡ WaitConnect
second_phase tunnel.Idle is = absurd (omega (arith, is))
second_phase tunnel.WaitCtlReply is = absurd (omega (arith, is))
second_phase tunnel.WaitCtlConn is = refl
second_phase tunnel.Established is = absurd (omega (arith, is))
second_phase tunnel.Closed is = absurd (omega (arith, is))

-- ---- the move

module _ (keep : calm.MovesKeep) (plainly : calm.PlainIsHeard) (codecs : Codecs) (again : WrittenIsRead) (room : WrittenHasRoom)
    (classes : ClassIsTrue) (grow : ChannelsGrow) (births : BirthsOfRuns) (runs : LettersOfRuns) (w : World) (h : History) (n : ℕ)
    (node : Node) (sender : Option Sender) (moment : ℕ) (ev : Event) (m : TookPlain) (x : End) (d : Deed) (k : Kept) (j : machine.World)
    (q : steps.IsMade w h n node sender moment ev (move.TookPlain m) x d k j) (b : Kept) (new : Mirrors x b) where
  abbrev mv : Move
  mv = move.TookPlain m

  abbrev i : ℕ
  i = m.tunnel

  abbrev e : ℕ
  e = epoch_of w n m.tunnel

  abbrev t : Tunnel
  t = q.moved.does.tunnel

  abbrev r : Tunnel
  r = record t { control = counts_taken t.control }

  abbrev a : Account
  a = h.accounts n m.tunnel (epoch_of w n m.tunnel)

  abbrev tk : Taken
  tk = record { sender = d.sender; number = m.taken.number; move = d.move }

  abbrev then_is : Account
  then_is = record a { given = a.given ++ []; taken = a.taken ++ tk ∷ [] }

  abbrev X : ℕ
  X = name n m.tunnel

  abbrev session : ℕ
  session = q.moved.does.letter.header.session

  at_t : at node.end.tunnels m.tunnel ≡ Some t
  at_t = q.moved.does.there

  same : moves_on w n node mv x ≡ with_end w n node x
  unfolding moved
  same = refl

  tunnels : x.tunnels ≡ put node.end.tunnels m.tunnel r
  tunnels = ap (λ (y : End). y.tunnels) q.moved.does.after

  at_r : at x.tunnels m.tunnel ≡ Some r
  at_r = ap (λ ts. at ts m.tunnel) tunnels ∙ at_new node.end.tunnels m.tunnel r

  others : (f : ℕ) → (f ≡ m.tunnel → ⊥) → at x.tunnels f ≡ at node.end.tunnels f
  others f other = ap (λ ts. at ts f) tunnels ∙ at_other node.end.tunnels m.tunnel r f other

  ids : x.session_ids ≡ node.end.session_ids
  ids = ap (λ (y : End). y.session_ids) q.moved.does.after

  like : (s : ℕ) → AreLike node.end x s
  like s = like_in node.end x m.tunnel t r s at_t at_r others (like_same (at t.calls s) (at t.calls s) refl)

  channel : ChannelOk h.accounts n m.tunnel e a t
  channel = made.channel_ok w h n node sender moment ev mv x d k j q i t at_t q.moved.does.current

  told : TunnelJoined j (with_book w n k) h n m.tunnel (Some t) (tunnel_at k m.tunnel)
  told = made.told w h n node sender moment ev mv x d k j q i t at_t

  -- ---- its account

  epoch : d.epoch ≡ epoch_of w n m.tunnel
  epoch = made.epoch_is w h n node sender moment ev mv x d k j q same

  plain_deed : IsPlainDeed d mv
  plain_deed = record { declines = λ p f. refl; attempts = λ p a o. refl; answers = λ p c o. refl }

  enters : (a : Account) → entered_by d mv a
      ≡ record a {
        given = a.given ++ [];
        taken = a.taken ++ (record { sender = d.sender; number = m.taken.number; move = d.move }) ∷ [];
      }
  enters a =
      ap (λ ls. record a { given = ls; taken = a.taken ++ (record { sender = d.sender; number = m.taken.number; move = d.move }) ∷ [] })
      (sym (append-nil a.given))

  account_is : (after h d).accounts n m.tunnel (epoch_of w n m.tunnel) ≡ then_is
  account_is = entering.account_now w h n node sender moment ev mv x d k j q epoch plain_deed then_is (enters a)

  abbrev roots : Roots a then_is
  roots = record { part = refl; peer = refl; remote = refl; answer = refl; closed = refl; declined = refl }

  spoke : Speaks h (after h d) n m.tunnel (epoch_of w n m.tunnel) []
  spoke = entering.spoke w h n node sender moment ev mv x d k j q epoch plain_deed then_is (enters a) [] roots refl

  peers : (p f : ℕ) → ((after h d).accounts p f 0).peer ≡ (h.accounts p f 0).peer
  peers = entering.same_peers w h n node sender moment ev mv x d k j q epoch plain_deed then_is (enters a) [] roots refl

  -- ---- in an established tunnel

  module _ (three : state_number t.control.state ≡ 3) where
    works : is_closed t.control.state ≡ false
    works = ne_eqb (state_number t.control.state) 4 (λ four. (let no : ⊥ = omega (arith, four, three) in no))

    takes_it : Takes w h n node mv x d t m.taken.number []
    takes_it = record {
      epoch = epoch;
      plain = plain_deed;
      at_t = at_t;
      current = q.moved.does.current;
      three = three;
      enters = enters;
    }

    took : TookLetter w h n node sender moment ev mv x d k j q t m.taken.number [] takes_it
    took = taking.took_letter w h n node sender moment ev mv x d k j q t m.taken.number [] takes_it

    heard : IsHeard node.end t q.moved.does.letter took.letter
    heard = heard_plain keep plainly codecs again room classes w h n node sender moment ev mv x d k j q t at_t q.moved.does.current works
        q.moved.does.letter q.moved.does.next q.moved.does.why took.from took.letter took.sender_is took.partner took.there

    no_stop : IsStopCcn took.letter.message → ⊥
    no_stop = heard_no_stop node.end t q.moved.does.letter took.letter heard works

    none_asked : IsOfQuery heard.message → ⊥
    none_asked = no_query node.end t session heard.message works three heard.why

    none_said : IsOfQuery took.letter.message → ⊥
    none_said = heard_no_query node.end t q.moved.does.letter took.letter heard none_asked

    abbrev S : ℕ
    S = name took.from.node took.from.tunnel

    abbrev says : machine_letters.Letter
    says = spoken took.from.node n session heard.message

    abbrev place : ℕ
    place = taking.place w h n node sender moment ev mv x d k j q t m.taken.number [] takes_it took no_stop

    from : asking.TakesFrom j X S e place
    from = taking.takes_from w h n node sender moment ev mv x d k j q t m.taken.number [] takes_it took no_stop

    stands : slice_get (j.channels.sent S e) place ≡ Some says
    stands = taking.takes_stands w h n node sender moment ev mv x d k j q t m.taken.number [] takes_it took no_stop says
        (λ asked. heard_said node.end t q.moved.does.letter took.letter heard none_asked took.from.node n asked)

    plain : PlainTakes j X S says
    plain = plain_by births w h n node sender moment ev mv x d k j q i t at_t three
        (made.open_is w h n node sender moment ev mv x d k j q i t at_t q.moved.does.current three) took.from.node
        (taking.took_peer w h n node sender moment ev mv x d k j q t m.taken.number [] takes_it took no_stop) session
        (subst (λ s. s < 65536) heard.session_is (spelled_session e took.letter took.spelled)) S e place heard.message heard.why
        (alike_sized took.letter.message heard.message heard.alike (spelled_so e took.letter none_said took.spelled).written) stands

    hears_it : Hears ev (stage says)
    hears_it = record {
      came = q.moved.does.letter;
      comes = q.moved.does.next.comes.came;
      is = heard.stage_is ∙ sym (stage_spoken took.from.node n session heard.message);
    }

    abbrev z : machine.World
    z = with_calls j X plain.calls

    sessions : Sessions node x k b j z h (after h d) n
    sessions = record {
      old = q.mirrors;
      new = new;
      bounded = fit_bounded x q.fit;
      peers = peers n;
      nodes = λ y is. ap (λ (T : Tunnels). T.node y) (with_calls_tunnels j X plain.calls) ∙ is;
      rises = (let same = ap (λ (s : Space). s.next) ids in omega (arith, same));
      zero = (plain.stays (name n 0)).drawn;
      each = λ s fits. inl (record { like = like s; stays = plain.stays (name n s) });
    }

    in_tunnel : TakesIn h (after h d) n node mv x b j z m.tunnel e r [] [] 1 t
    in_tunnel = record {
      new = new;
      at_r = at_r;
      state = refl;
      recovery = refl;
      others = others;
      sent = λ tk is. sent_none n a.peer a.taken a.given tk (ap question_of is);
      goes = heard_one j X S e place plain.calls from;
      calls = sessions_joined node x k b j z h (after h d) n sessions (made.calls_before w h n node sender moment ev mv x d k j q);
      calls_stay = λ p s off pfits sfits. plain.stays (name p s);
      births = plain.births;
    }

    heeded_follows : Follows ev (with_book (moves_on w n node mv x) n b) (after h d) n j
    heeded_follows =
        talks_follow grow w h n node sender moment ev mv x d k b j z q t r [] [] 1
        (taking.takes_talks w h n node sender moment ev mv x d k j q t m.taken.number [] takes_it took no_stop grow b z r [] 1 in_tunnel
        (weighs_one took.letter.message none_said))
        peers (record {
          same = same;
          query = refl;
          asks = plain.asks;
          held = plain.held;
          named = named_as j z plain.drawn q.joined.named;
          went = went_one ev n j z (Delivers X S e place 0)
              (delivers_node j X S e place 0
              ∙ told.node (made.live_ok w h n node sender moment ev mv x d k j q m.tunnel t at_t).made)
              refl (heard_at ev j X S e place 0 says stands (λ up. hears_it))
              (plain_step j X S e place says from stands
              (no_opening node.end t session heard.message works heard.why took.from.node n).1 ∙ plain.is);
        })

  -- ---- in a closed one

  module _ (four : state_number t.control.state ≡ 4) where
    closed : IsClosed a
    closed = shut_account h.accounts i e a t a.part channel.state four

    heeds : heeded then_is ≡ heeded a
    heeds = ap (λ o. unwrap_or o (length then_is.taken)) closed.1 ∙ sym (ap (λ o. unwrap_or o (length a.taken)) closed.1)

    went_none : Went ev n j j
    unfolding goes_on
    went_none = record { moves = []; own = tt; heard = tt; goes = refl }

    within : (p f c : ℕ) → heeded (h.accounts p f c) ≤ length (partner_in h.accounts c (h.accounts p f c)).given
    within = made.within w h n node sender moment ev mv x d k j q

    talks : Talks w h (after h d) n node x k b j j i (epoch_of w n i) t r [] [] 0
    talks = record {
      node_fits = made.node_fits w h n node sender moment ev mv x d k j q;
      id_fits = made.id_fits w h n node sender moment ev mv x d k j q i t at_t;
      there = q.moved.there;
      old = q.mirrors;
      new = new;
      nodes = q.nodes;
      within = within;
      at_t = at_t;
      at_r = at_r;
      state = refl;
      recovery = refl;
      others = others;
      speaks = spoke;
      goes = none j j X e refl refl;
      sent = ap (λ (c : Account). letters_in n a.peer (questions_in c.taken) c.given) account_is
          ∙ sent_none n a.peer a.taken a.given tk (ap question_of q.moved.deed.move_is);
      taken = ap (λ (c : Account). weigh (take (heeded c) (partner_in h.accounts e a).given)) account_is
          ∙ (ap (λ c. weigh (take c (partner_in h.accounts e a).given)) heeds ∙ omega arith);
      most = subst (λ (c : Account). heeded c ≤ length (partner_in h.accounts e a).given) (sym account_is)
          (subst (λ c. c ≤ length (partner_in h.accounts e a).given) (sym heeds) (within n i e));
      calls = sessions_joined node x k b j j h (after h d) n
          (unchanged node x k b j j h (after h d) n q.mirrors new (fit_bounded x q.fit) (peers n) refl refl ids like)
          (made.calls_before w h n node sender moment ev mv x d k j q);
      calls_stay = λ p s off pfits sfits. same_stays j j (name p s) refl;
      births = (refl, λ y. refl);
    }

    ignored_follows : Follows ev (with_book (moves_on w n node mv x) n b) (after h d) n j
    ignored_follows = talks_follow grow w h n node sender moment ev mv x d k b j j q t r [] [] 0 talks peers (record {
      same = same;
      query = refl;
      asks = λ y s. refl;
      held = λ y f s. refl;
      named = q.joined.named;
      went = went_none;
    })

  -- ---- in one that waits

  module _ (is_open_now : IsOpen a) where
    heeds_more : heeded then_is ≡ suc (length a.taken)
    heeds_more = heeds_one a then_is tk is_open_now refl refl

    taken_it : IsTaken (after h d).accounts e then_is (length a.taken) tk
    taken_it =
        let ok : AccountOk (moves_on w n node mv x) (after h d) n i e then_is = subst (AccountOk (moves_on w n node mv x) (after h d) n i e)
        account_is (q.later.accounts n i e) in
        ok.taken (length a.taken) tk (got_last a.taken tk) (omega (arith, heeds_more))

    -- for its SCCRP
    no_first : a.remote ≡ 0 → ⊥
    no_first zero = partner_some then_is taken_it.partner taken_it.learned zero

    module _ (two : state_number t.control.state ≡ 2) (accepts : a.part ≡ Acceptor) where
      works_on : is_closed t.control.state ≡ false
      works_on = ne_eqb (state_number t.control.state) 4 (λ four. (let no : ⊥ = omega (arith, four, two) in no))

      abbrev giver : Sender
      giver = taken_it.partner

      abbrev letter : Letter
      letter = taken_it.letter

      abbrev c : Account
      c = h.accounts giver.node giver.tunnel e

      first : epoch_of w n m.tunnel ≡ 0
      first = (acceptor_of w h n i e a (q.moved.holds.accounts n i e) accepts).0

      made_a : IsMade a
      made_a = made.made_now w h n node sender moment ev mv x d k j q i t at_t

      partner : partner_of a ≡ Some giver
      partner = taken_it.learned

      apart : giver.node ≡ n → giver.tunnel ≡ i → ⊥
      apart = no_self (moves_on w n node mv x) (after h d) q.later n i e giver
          (λ none. made_a (sym (ap (λ (c : Account). c.part) account_is) ∙ none)) (ap partner_of account_is ∙ partner)

      there : slice_get (h.accounts giver.node giver.tunnel (epoch_of w n m.tunnel)).given (length a.taken) ≡ Some letter
      there = sym (ap (λ (c : Account). slice_get c.given (length a.taken)) (spoke.others giver.node giver.tunnel e (λ p. apart p.0 p.1)))
          ∙ taken_it.there

      partner_is : partner_in h.accounts e a ≡ c
      partner_is = let p = partner_by a giver partner in ap₂ (λ y z. h.accounts y z e) p.0 p.1

      heard_it : IsHeard node.end t q.moved.does.letter letter
      heard_it = heard_plain keep plainly codecs again room classes w h n node sender moment ev mv x d k j q t at_t q.moved.does.current
          works_on q.moved.does.letter q.moved.does.next q.moved.does.why giver letter
          (sym q.moved.deed.sender_is ∙ taken_it.sender) partner there

      no_queries : IsOfQuery heard_it.message → ⊥
      no_queries query = spelled_no_query e letter first
          (all_at (IsSpelledIn e) c.given (length a.taken) letter there (q.moved.holds.accounts giver.node giver.tunnel e).spelled)
          (carried IsOfQuery (of_all IsOfQuery (λ own serial calling k. k) (λ own serial calling k. k)) letter.message heard_it.message
          heard_it.alike query)

      opener : (h.accounts giver.node giver.tunnel 0).part ≡ Opener
      opener =
          subst (λ y. (h.accounts giver.node giver.tunnel y).part ≡ Opener) first
          (sym (ap (λ (y : Account). y.part) partner_is)
          ∙ (ap (λ y. (partner_in h.accounts y a).part) first
          ∙ (acceptor_of w h n i e a (q.moved.holds.accounts n i e) accepts).1.part))

      giver_made : IsMade (h.accounts giver.node giver.tunnel 0)
      giver_made unmade = let two : Opener ≡ Unmade = sym opener ∙ unmade in absurd cc

      told_there : TunnelJoined j (with_book w n k) h giver.node giver.tunnel (live_in (at (with_book w n k).nodes giver.node)
          giver.tunnel)
          (kept_in (at (with_book w n k).nodes giver.node) giver.tunnel)
      told_there = q.joined.joined.tunnels giver.node giver.tunnel
          ((q.moved.holds.accounts giver.node giver.tunnel 0).node giver_made)
          ((q.moved.holds.accounts giver.node giver.tunnel 0).id giver_made)

      holds : LettersHold j.tunnels j.channels
      holds = subst (λ (y : machine.World). LettersHold y.tunnels y.channels) (sym q.joined.joined.run) (runs.hold q.joined.joined.moves)

      waits : j.tunnels.phase X ≡ WaitConnect
      waits = told.phase ∙ (current_phase n t t.recovery q.moved.does.current ∙ second_phase t.control.state two)

      one : weigh (take (length a.taken) c.given) ≡ 1
      one =
          sym (told.taken e
          ∙ (ap (λ o. weigh (take o (partner_in h.accounts e a).given)) (heeds_all a is_open_now)
          ∙ ap (λ (y : Account). weigh (take (length a.taken) y.given)) partner_is))
          ∙ (ap (λ y. j.channels.taken X y) first ∙ (holds.waits_connect X waits).0)

      abbrev word : machine_letters.Letter
      word = spoken giver.node c.peer session heard_it.message

      stands_there : slice_get (j.channels.sent (name giver.node giver.tunnel) 0) 1 ≡ Some word
      stands_there =
          subst (λ y. slice_get (j.channels.sent (name giver.node giver.tunnel) y) 1 ≡ Some word) first
          (subst (λ y. slice_get (j.channels.sent (name giver.node giver.tunnel) e) y ≡ Some word) one
          (ap (λ ls. slice_get ls (weigh (take (length a.taken) c.given))) (told_there.sent e)
          ∙ says_one giver.node c.peer (questions_in c.taken) c.given (length a.taken) letter word there
          (λ asked. heard_said node.end t q.moved.does.letter letter heard_it no_queries giver.node c.peer asked)))

      -- the second letter of an opener is an SCCCN or a StopCCN
      no_second : ⊥
      no_second =
          let no = no_opening node.end t session heard_it.message works_on heard_it.why giver.node c.peer in
          ⊎_elim
          (λ (k : (1 ≡ 0) × (word ≡ machine_letters.Sccrq)). let zero = k.0 in let no : ⊥ = omega (arith, zero) in no)
          (λ more. ⊎_elim
          (λ (k : (1 ≡ 1) × ((word ≡ machine_letters.Scccn) ⊎ (word ≡ machine_letters.StopCcn))). ⊎_elim
          (λ is. true≢false (sym (ap is_scccn is) ∙ no.0))
          (λ is. true≢false (sym (ap is_stop is) ∙ no.1))
          k.1)
          (λ (lt : 1 < 1). let no : ⊥ = omega (arith, lt) in no)
          more)
          (holds.opener_first (name giver.node giver.tunnel) 1 word (told_there.opener ∙ ap is_opener opener) stands_there)

  pub took_plain_follows : Follows ev (with_book (moves_on w n node mv x) n b) (after h d) n j
  took_plain_follows = by t.control.state refl
    where
      by : (s : TunnelState) → q.moved.does.tunnel.control.state ≡ s → Follows ev (with_book (moves_on w n node mv x) n b) (after h d) n j
      by tunnel.Idle is =
          let some = made.is_busy w h n i t (made.live_ok w h n node sender moment ev mv x d k j q i t at_t) in
          let none = ap state_number is in
          absurd (omega (arith, some, none))
      by tunnel.WaitCtlReply is =
          let f = waits_first h.accounts i e a t a.part channel.state (ap state_number is) in absurd (no_first f.1 f.0)
      by tunnel.WaitCtlConn is =
          let f = waits_second h.accounts i e a t a.part channel.state (ap state_number is) in
          absurd (no_second f.1 (ap state_number is) f.0)
      by tunnel.Established is = heeded_follows (ap state_number is)
      by tunnel.Closed is = ignored_follows (ap state_number is)

pub took_plain_joins : calm.MovesKeep → calm.PlainIsHeard → Codecs → WrittenIsRead → WrittenHasRoom → ClassIsTrue → ChannelsGrow
    → BirthsOfRuns → LettersOfRuns
    → (m : TookPlain) → Joins (move.TookPlain m)
took_plain_joins keep plainly codecs again room classes grow births runs m w h n node sender moment ev x d k j q b new =
    took_plain_follows keep plainly codecs again room classes grow births runs w h n node sender moment ev m x d k j q b new
