-- A tunnel that waits for its SCCRP rejects what comes, with a StopCCN: the machine's takes nothing, and closes.
use Rattle.std.proofs.Common.{◌≡◌, ◌⊎◌, inl, inr, ⊎_elim, ℕ, ◌+◌, ◌<◌, ◌≤◌, Bool, true, false, List, [], ◌∷◌, ◌++◌, length, refl, sym, ap, ap₂, ◌∙◌, subst, Option, Some, None, arith, eq-eqb, ne_eqb}
use Rattle.std.proofs.lemmas.Bool.{eqb-true}
use Rattle.std.specs.Prelude.{unwrap_or, if◌then◌else◌, ◌==◌}
use Rattle.id_table.specs.Ids.{at, put}
use Rattle.id_table.specs.Order.{at_new, at_other, same_or_not}
use Rattle.session_book.specs.Books.{Kept, tunnel_at}
use Rattle.tunnel_fsm.specs.declared.table.TunnelState.{TunnelState}
use Rattle.tunnel_fsm.specs.declared.table.TunnelState.TheVariants as tunnel_state
use Rattle.tunnel_fsm.specs.Rows.{state_number}
use Rattle.control_message.specs.declared.message.Message.TheVariants.{StopCcn}
use Rattle.end_model.specs.declared.event.Event.{Event}
use Rattle.end_model.specs.declared.moves.Rejected.{Rejected}
use Rattle.end_model.specs.declared.moves.Restored.{Restored}
use Rattle.end_model.specs.declared.moves.Froze.{Froze}
use Rattle.end_model.specs.declared.moves.Move.{Move}
use Rattle.end_model.specs.declared.moves.Move.TheVariants as move
use Rattle.end_model.specs.Channels.{counts_taken}
use Rattle.end_model.specs.Tunnels.{Tunnel, mode_of, is_current}
use Rattle.end_model.specs.End.{End}
use Rattle.world_model.specs.World.{World, Node, Sender, Deed, epoch_of, moved}
use Rattle.step_laws.specs.Letters.{Letter}
use Rattle.step_laws.specs.Moves.{with_letter}
use Rattle.book_laws.specs.Books.{Mirrors}
use Rattle.epoch_machine.specs.Letters as machine_letters
use Rattle.epoch_machine.specs.Tunnels as phases
use Rattle.epoch_machine.specs.Tunnels.{is_active}
use Rattle.epoch_machine.specs.Worlds as machine
use Rattle.epoch_machine.specs.Worlds.{all_rules, leaves, gives}
use Rattle.epoch_machine.specs.Moves as moves
use Rattle.epoch_laws.specs.Epochs.{EpochsHold, EpochsOfRuns}
use Rattle.session_laws.specs.Names.{name, name_of, phase_of}
use Rattle.channel_laws.specs.Accounts.{Opener, Acceptor, Taken, Account, heeded, History, about, attempts_by, answers_by, declines_of, entered_by, after}
use Rattle.channel_laws.specs.Facts.{IsOpen, IsLost, ChannelOk, LiveOk, IsOpener}
use Rattle.channel_laws.specs.Steps.{with_end, moves_on}
use Rattle.channel_laws.proofs.Alone.{open_unless_shut, unlearned_waits}
use Rattle.channel_laws.proofs.Deeds as deeds
use Rattle.channel_laws.proofs.Linked.{opener_of}
use Rattle.recovery_laws.specs.Asking as asking
use Rattle.recovery_laws.specs.Growing.{ChannelsGrow}
use Rattle.recovery_laws.specs.Joined.{is_early, learned_name, LearnedSo, TunnelJoined}
use Rattle.recovery_laws.specs.Joined as joined
use Rattle.recovery_laws.specs.Queries.{letters_in, question_of, questions_in}
use Rattle.recovery_laws.proofs.Asking.{gave_one, gave_calls}
use Rattle.recovery_laws.proofs.Epochs.{current_phase}
use Rattle.join_laws.specs.Steps as steps
use Rattle.join_laws.specs.Steps.{with_book, Follows, Joins}
use Rattle.join_laws.proofs.Channel.{gives_is, heeds_all, sent_one}
use Rattle.join_laws.proofs.Closing.{closes_is, closes_node, works}
use Rattle.join_laws.proofs.Finish.{Went, went_one, follows}
use Rattle.join_laws.proofs.Made as made
use Rattle.join_laws.proofs.Shutting as shutting
use Rattle.join_laws.proofs.Shutting.{Shuts}

module _ (grow : ChannelsGrow) (epochs : EpochsOfRuns) (w : World) (h : History) (n : ℕ) (node : Node) (sender : Option Sender) (moment : ℕ)
    (ev : Event) (m : Rejected) (x : End) (d : Deed) (k : Kept) (j : machine.World)
    (q : steps.IsMade w h n node sender moment ev (move.Rejected m) x d k j) (b : Kept) (new : Mirrors x b) where
  abbrev mv : Move
  mv = move.Rejected m

  abbrev i : ℕ
  i = m.tunnel

  abbrev e : ℕ
  e = epoch_of w n m.tunnel

  abbrev t : Tunnel
  t = q.moved.does.tunnel

  abbrev a : Account
  a = h.accounts n m.tunnel (epoch_of w n m.tunnel)

  abbrev g : History
  g = after h d

  abbrev last : Letter
  last = record { tunnel = m.tunnel; place = m.given; session = 0; message = StopCcn m.tunnel m.result m.error; hidden = None }

  abbrev told_it : Tunnel
  told_it = with_letter 0 (StopCcn m.tunnel m.result m.error) (record t {
    control = record (counts_taken t.control) { state = tunnel_state.Closed; remote = m.remote; closed = moment };
  })

  abbrev r : Tunnel
  r = record told_it { calls = [] }

  abbrev X : ℕ
  X = name n i

  abbrev y : machine.World
  y = gives j X machine_letters.StopCcn

  abbrev z : machine.World
  z = leaves y X phases.Closed

  same : moves_on w n node mv x ≡ with_end w n node x
  unfolding moved
  same = refl

  at_t : at node.end.tunnels i ≡ Some t
  at_t = q.moved.does.there

  live : LiveOk w h n i t
  live = made.live_ok w h n node sender moment ev mv x d k j q i t at_t

  channel : ChannelOk h.accounts n i e a t
  channel = made.channel_ok w h n node sender moment ev mv x d k j q i t at_t q.moved.does.current

  not_shut : state_number t.control.state ≡ 4 → ⊥
  not_shut four = (let one = q.moved.does.waits in let no_state : ⊥ = omega (arith, one, four) in no_state)

  is_open_now : IsOpen a
  is_open_now = open_unless_shut h.accounts i e a t a.part channel.state not_shut

  -- it is an opener, which has taken nothing
  waits : (a.remote ≡ 0) × (a.part ≡ Opener)
  waits = unlearned_waits h.accounts i e a t a.part channel.state q.moved.does.waits

  opener : (e ≡ 0) × IsOpener h.accounts n i a
  opener = opener_of w h n i e a (q.moved.holds.accounts n i e) waits.1

  nothing : a.taken ≡ []
  nothing = ⊎_elim
      (λ empty. empty)
      (λ (lost : IsLost a × (length a.taken ≤ 2)). (let two = sym is_open_now ∙ lost.0.0 in absurd cc))
      (opener.1.none waits.0)

  abbrev tk : Taken
  tk = record { sender = d.sender; number = m.taken.number; move = d.move }

  abbrev closed : Account
  closed = record a { remote = m.remote; closed = Some (length a.taken) }

  abbrev shut : Account
  shut = record closed { given = a.given ++ last ∷ []; taken = a.taken ++ tk ∷ [] }

  becomes : entered_by d d.move a ≡ shut
  becomes = ap (λ o. entered_by d o a) q.moved.deed.move_is
      ∙ ap (λ ls. record closed { given = a.given ++ ls; taken = a.taken ++ tk ∷ [] })
      (gives_is d n node.end.role sender mv q.moved.deed)

  epoch : d.epoch ≡ e
  epoch = made.epoch_is w h n node sender moment ev mv x d k j q same

  declines : (p f : ℕ) → declines_of d.move p f ≡ false
  declines p f = ap (λ o. declines_of o p f) q.moved.deed.move_is

  attempts : (p f : ℕ) (o : Option Restored) → attempts_by d d.move p f o ≡ o
  attempts p f o = ap (λ v. attempts_by d v p f o) q.moved.deed.move_is

  answers : (p f : ℕ) (o : Option Froze) → answers_by d d.move p f o ≡ o
  answers p f o = ap (λ v. answers_by d v p f o) q.moved.deed.move_is

  is : g.accounts n i e ≡ shut
  is = deeds.here h d n i e shut q.moved.deed.node_is (ap about q.moved.deed.move_is) epoch becomes declines attempts answers

  other_accounts : (p f u : ℕ) → ((p ≡ n) × (f ≡ i) × (u ≡ e) → ⊥) → g.accounts p f u ≡ h.accounts p f u
  other_accounts = deeds.others h d n i e shut q.moved.deed.node_is (ap about q.moved.deed.move_is) epoch becomes declines attempts answers

  tunnels : x.tunnels ≡ put node.end.tunnels i r
  tunnels = ap (λ (v : End). v.tunnels) q.moved.does.after

  told : TunnelJoined j (with_book w n k) h n i (Some t) (tunnel_at k i)
  told = made.told w h n node sender moment ev mv x d k j q i t at_t

  phase_is : j.tunnels.phase X ≡ phase_of t.control.state
  phase_is = told.phase ∙ current_phase n t t.recovery q.moved.does.current

  waiting : (s : TunnelState) → state_number s ≡ 1 → phase_of s ≡ phases.WaitReply
  waiting tunnel_state.Idle one = absurd cc
  waiting tunnel_state.WaitCtlReply one = refl
  waiting tunnel_state.WaitCtlConn one = absurd cc
  waiting tunnel_state.Established one = absurd cc
  waiting tunnel_state.Closed one = absurd cc

  -- the machine's has learned none, and the account tells none
  unlearned : j.tunnels.learned X ≡ 0
  unlearned =
      let hold = subst (λ (v : machine.World). EpochsHold v.tunnels) (sym q.joined.joined.run)
      (epochs.hold all_rules q.joined.joined.moves) in
      (hold.waits_reply X (phase_is ∙ waiting t.control.state q.moved.does.waits)).1

  early : learned_name (g.accounts n i 0) ≡ 0
  early =
      subst (λ v. learned_name (g.accounts n i v) ≡ 0) opener.0
      (ap learned_name is
      ∙ (ap (λ p. if is_early p (Some (length a.taken)) then 0 else name_of a.peer m.remote) waits.1
      ∙ ap (λ (ts : List Taken). if length ts == 0 then 0 else name_of a.peer m.remote) nothing))

  shuts : Shuts w h g n node x j y i e t r (last ∷ []) (machine_letters.StopCcn ∷ [])
  shuts = record {
    at_t = at_t;
    at_r = ap (λ ts. at ts i) tunnels ∙ at_new node.end.tunnels i r;
    current = q.moved.does.current;
    closed = refl;
    empty = refl;
    others = λ f other. ap (λ ts. at ts f) tunnels ∙ at_other node.end.tunnels i r f other;
    ids = ap (λ (v : End). v.session_ids) q.moved.does.after;
    goes = subst (λ v. asking.GoesOn j y X v (machine_letters.StopCcn ∷ []) 0)
        (made.entered_is w h n node sender moment ev mv x d k j q i t at_t) (gave_one j X machine_letters.StopCcn);
    calls = (gave_calls j X machine_letters.StopCcn).0;
    accounts = other_accounts;
    attempts = λ p f. attempts p f (h.attempts p f);
    answers = λ p f. answers p f (h.answers p f);
    part = ap (λ (c : Account). c.part) is;
    peer = ap (λ (c : Account). c.peer) is;
    answer = ap (λ (c : Account). c.answer) is;
    declined = ap (λ (c : Account). c.declined) is;
    given = ap (λ (c : Account). c.given) is;
    sent = ap (λ (c : Account). letters_in n a.peer (questions_in c.taken) c.given) is
        ∙ sent_one grow n a.peer a.taken a.given tk last (ap question_of q.moved.deed.move_is) refl;
    heeds = ap heeded is ∙ sym (heeds_all a is_open_now);
    remote = inr (heeds_all a is_open_now ∙ ap length nothing, λ accepts. (let two = sym waits.1 ∙ accepts in absurd cc));
    learned = λ so. joined.ByLetter (unlearned ∙ sym early);
  }

  went : Went ev n j z
  went = went_one ev n j z (moves.Closes X) (closes_node j X ∙ told.node live.made) refl tt
      (closes_is j X (ap is_active phase_is ∙ works t.control.state (made.is_busy w h n i t live) not_shut))

  pub rejected_follows : Follows ev (with_book (moves_on w n node mv x) n b) (after h d) n j
  rejected_follows = follows ev w h n node mv x d k b j z same went
      (λ js goes. shutting.shut_joined grow.stay w h g n node sender moment ev mv x d k j q b new y i e t r (last ∷ [])
      (machine_letters.StopCcn ∷ []) shuts q.joined.joined js goes)
      (shutting.shut_queries grow.stay w h g n node sender moment ev mv x d k j q b new y i e t r (last ∷ [])
      (machine_letters.StopCcn ∷ []) shuts)
      (shutting.shut_named grow.stay w h g n node sender moment ev mv x d k j q b new y i e t r (last ∷ [])
      (machine_letters.StopCcn ∷ []) shuts)

pub rejected_joins : ChannelsGrow → EpochsOfRuns → (m : Rejected) → Joins (move.Rejected m)
rejected_joins grow epochs m w h n node sender moment ev x d k j q b new =
    rejected_follows grow epochs w h n node sender moment ev m x d k j q b new
