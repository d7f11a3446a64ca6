-- A tunnel that waits for its SCCRP takes it, learns its acceptor, and comes open: so does the machine's.
use Rattle.std.proofs.Common.{◌≡◌, ◌⊎◌, inl, inr, ⊎_elim, ℕ, suc, ◌+◌, ◌<◌, ◌≤◌, Bool, true, false, List, [], ◌∷◌, ◌++◌, length, slice_get, refl, sym, ap, ap₂, ◌∙◌, subst, Option, Some, None, arith, append-nil, eq-eqb, ne_eqb, lt-ltb}
use Rattle.std.proofs.lemmas.Option.{slice_get_within}
use Rattle.std.specs.Prelude.{take, if◌then◌else◌, ◌==◌, ◌&&◌}
use Rattle.id_table.specs.Ids.{at, put}
use Rattle.id_table.specs.Order.{at_new, at_other}
use Rattle.wire_base.specs.declared.pair.Pair.{Pair}
use Rattle.session_book.specs.Books.{Kept, tunnel_at}
use Rattle.tunnel_fsm.specs.Rows.{state_number}
use Rattle.tunnel_fsm.specs.declared.table.TunnelState.TheVariants.{WaitCtlReply, Established}
use Rattle.control_message.specs.declared.message.Message.TheVariants.{Sccrp, Scccn}
use Rattle.end_model.specs.declared.event.Event.{Event}
use Rattle.end_model.specs.declared.moves.Connected.{Connected}
use Rattle.end_model.specs.declared.moves.Restored.{Restored}
use Rattle.end_model.specs.declared.moves.Froze.{Froze}
use Rattle.end_model.specs.declared.moves.Move.{Move}
use Rattle.end_model.specs.declared.moves.Move.TheVariants as move
use Rattle.end_model.specs.Channels.{counts_taken}
use Rattle.end_model.specs.Tunnels.{Tunnel, mode_of, is_current}
use Rattle.end_model.specs.End.{End}
use Rattle.world_model.specs.declared.standing.Standing.{Standing}
use Rattle.world_model.specs.World.{World, Node, Sender, Deed, standing_of, epoch_of, moved}
use Rattle.step_laws.specs.Letters.{Letter}
use Rattle.step_laws.specs.Moves.{with_letter, learns_window}
use Rattle.book_laws.specs.Books.{Mirrors}
use Rattle.birth_laws.specs.Births.{BirthsOfRuns}
use Rattle.coverage_laws.specs.Coverage.{CoverageOfRuns}
use Rattle.connection_laws.specs.Facts.{IsStopCcn, AllWait, Tells}
use Rattle.epoch_machine.specs.Letters as machine_letters
use Rattle.epoch_machine.specs.Tunnels.{Tunnels, Open, WaitReply, is_active, is_wait_reply, established_with}
use Rattle.epoch_machine.specs.Worlds as machine
use Rattle.epoch_machine.specs.Worlds.{all_rules, took_one, gives, takes, connects}
use Rattle.epoch_machine.specs.Moves as moves
use Rattle.epoch_machine.specs.Moves.{Delivers, may_take, delivers, step}
use Rattle.session_laws.specs.Names.{name, name_of, phase_of}
use Rattle.session_laws.proofs.Names.{name_some, known_name}
use Rattle.channel_laws.specs.Accounts.{Part, Unmade, Opener, Acceptor, Renewed, Taken, Account, partner_of, heeded, History, about, declines_of, entered_by, attempts_by, answers_by, after}
use Rattle.channel_laws.specs.Facts.{Accounts, IsMade, IsOpen, IsShut, IsInState, IsTaken, IsLost, IsOpener, IsAcceptor, partner_in, ChannelOk, LiveOk, AccountOk, EndOk, BookOk, NodeOk}
use Rattle.channel_laws.specs.Steps.{with_end, moves_on}
use Rattle.session_laws.proofs.Entering.{got_last}
use Rattle.channel_laws.proofs.Deeds as deeds
use Rattle.channel_laws.proofs.Alone.{open_unless_shut, unlearned_waits}
use Rattle.channel_laws.proofs.Linked.{opener_of, acceptor_of}
use Rattle.recovery_laws.specs.Asking as asking
use Rattle.recovery_laws.specs.Growing.{ChannelsGrow}
use Rattle.recovery_laws.specs.Joined.{is_early, learned_name, LearnedSo, ByLetter, ByRecord, TunnelJoined, live_in, kept_in}
use Rattle.recovery_laws.specs.Queries.{said_in, letters_in, question_of, questions_in, weigh, weight}
use Rattle.recovery_laws.proofs.Asking.{took_it, took_calls, gave_one, gave_calls, more}
use Rattle.recovery_laws.proofs.Epochs.{current_phase}
use Rattle.join_laws.specs.Steps as steps
use Rattle.join_laws.specs.Steps.{with_book, Follows, Joins}
use Rattle.join_laws.proofs.Ahead.{end_standings}
use Rattle.join_laws.proofs.CallMoves.{delivers_node}
use Rattle.join_laws.proofs.Channel.{gives_is, heeds_one, heeds_all, sent_one}
use Rattle.join_laws.proofs.Accepting.{window_state}
use Rattle.join_laws.proofs.ComesOpen as opens
use Rattle.join_laws.proofs.ComesOpen.{Comes, comes_by, ComesOpen}
use Rattle.join_laws.proofs.Confirming.{takes_first}
use Rattle.join_laws.proofs.Finish.{Went, went_one, follows}
use Rattle.join_laws.proofs.Hearing.{heard_said}
use Rattle.join_laws.proofs.Made as made
use Rattle.join_laws.proofs.OneTunnel.{NameStays}
use Rattle.join_laws.proofs.Partners.{partner_some, no_self, accepted_so}
use Rattle.join_laws.proofs.PlainOne.{RestStays}
use Rattle.join_laws.proofs.Said.{says_one}
use Rattle.join_laws.proofs.Within.{partner_by}

-- ---- in the machine

connects_step : (w : machine.World) (x s k : ℕ) → w.tunnels.phase x ≡ WaitReply → 0 < s → w.tunnels.learned s ≡ x
    → w.tunnels.entered x ≡ 0 → w.channels.taken x 0 ≡ k → slice_get (w.channels.sent s 0) k ≡ Some machine_letters.Sccrp
    → step all_rules w (Delivers x s 0 k 0) ≡ connects (took_one w x) x s
unfolding step delivers takes took_one
connects_step w x s k phase some back first next stands =
    ap (λ o. delivers all_rules w x s 0 k 0 o) stands
    ∙ (ap (λ b. if b then takes all_rules (took_one w x) x s machine_letters.Sccrp 0 else w)
    (takes_first w x s k machine_letters.Sccrp (ap is_active phase) some back first next)
    ∙ ap (λ p. if is_wait_reply p then connects (took_one w x) x s else took_one w x) phase)

abbrev with_acceptor : machine.World → ℕ → ℕ → machine.World
with_acceptor w x s = record w { tunnels = established_with w.tunnels x s }

connected_comes : (w : machine.World) (x s : ℕ) → Comes w (with_acceptor w x s) x s [] 0
unfolding established_with
connected_comes w x s = record {
  phase = ap (λ b. if b then Open else w.tunnels.phase x) (eq-eqb x x refl);
  booked = ap (λ b. if b then true else w.tunnels.booked x) (eq-eqb x x refl);
  learned_is = ap (λ b. if b then s else w.tunnels.learned x) (eq-eqb x x refl);
  drawn = λ y. refl;
  opener = refl;
  node = λ y. refl;
  peer = refl;
  entered = λ y. refl;
  entered_by = λ e. refl;
  sent = sym (append-nil (w.channels.sent x 0));
  taken = omega arith;
  later_sent = λ e other. refl;
  later_taken = λ e other. refl;
  stays = λ y other. record {
    opener = refl;
    node = refl;
    peer = refl;
    learned = ap (λ b. if b then s else w.tunnels.learned y) (ne_eqb y x other);
    phase = ap (λ b. if b then Open else w.tunnels.phase y) (ne_eqb y x other);
    booked = ap (λ b. if b then true else w.tunnels.booked y) (ne_eqb y x other);
    entered = refl;
    entered_by = λ e. refl;
    sent = λ e. refl;
    taken = λ e. refl;
    refused = refl;
  };
  refused = refl;
  rest = record {
    epochs = λ y. refl;
    attempts = λ y. refl;
    answers = λ y. refl;
    answered = λ y. refl;
    makes_it = λ y. refl;
    confirmed = λ y. refl;
    giver_first = λ y. refl;
    other_first = λ y. refl;
    ups = λ y. refl;
  };
  calls = refl;
}

-- it takes one letter before it gives its own
abbrev and_took : machine.World → ℕ → ℕ → machine.World
and_took w x s = record (took_one w x) { tunnels = established_with w.tunnels x s }

and_took_goes : (w : machine.World) (x s e : ℕ) → asking.GoesOn w (took_one w x) x e [] 1
    → asking.GoesOn (with_acceptor w x s) (and_took w x s) x e [] 1
and_took_goes w x s e k = record {
  tunnels = refl;
  refused = k.refused;
  sent = k.sent;
  taken = k.taken;
  others_sent = k.others_sent;
  others_taken = k.others_taken;
}

connects_is : (w : machine.World) (x s : ℕ) → connects (took_one w x) x s ≡ gives (and_took w x s) x machine_letters.Scccn
unfolding connects took_one
connects_is w x s = refl

and_took_entered : (w : machine.World) (x s : ℕ) → (and_took w x s).tunnels.entered x ≡ w.tunnels.entered x
unfolding established_with
and_took_entered w x s = refl

-- ---- the move

module _ (grow : ChannelsGrow) (births : BirthsOfRuns) (coverage : CoverageOfRuns) (w : World) (h : History) (n : ℕ) (node : Node)
    (sender : Option Sender) (moment : ℕ) (ev : Event) (m : Connected) (x : End) (d : Deed) (k : Kept) (j : machine.World)
    (q : steps.IsMade w h n node sender moment ev (move.Connected m) x d k j) (b : Kept) (new : Mirrors x b) where
  abbrev mv : Move
  mv = move.Connected m

  abbrev i : ℕ
  i = m.tunnel

  abbrev t : Tunnel
  t = q.moved.does.tunnel

  abbrev r : Tunnel
  r = with_letter 0 (Scccn m.response) (record t {
    control = counts_taken (learns_window m.window (record t.control { remote = m.remote; flags = m.flags; state = Established }));
  })

  abbrev g : History
  g = after h d

  abbrev a : Account
  a = h.accounts n i 0

  abbrev last : Letter
  last = record { tunnel = m.tunnel; place = m.given; session = 0; message = Scccn m.response; hidden = None }

  abbrev tk : Taken
  tk = record { sender = d.sender; number = m.taken.number; move = d.move }

  abbrev account : Account
  account = record a { given = a.given ++ last ∷ []; taken = a.taken ++ tk ∷ []; remote = m.remote }

  same : moves_on w n node mv x ≡ with_end w n node x
  unfolding moved
  same = refl

  at_t : at node.end.tunnels i ≡ Some t
  at_t = q.moved.does.there

  tunnels : x.tunnels ≡ put node.end.tunnels i r
  tunnels = ap (λ (v : End). v.tunnels) q.moved.does.after

  at_r : at x.tunnels i ≡ Some r
  at_r = ap (λ ts. at ts i) tunnels ∙ at_new node.end.tunnels i r

  live : LiveOk w h n i t
  live = made.live_ok w h n node sender moment ev mv x d k j q i t at_t

  one : state_number t.control.state ≡ 1
  one = ap state_number q.moved.does.state

  channel : ChannelOk h.accounts n i (epoch_of w n i) (h.accounts n i (epoch_of w n i)) t
  channel = made.channel_ok w h n node sender moment ev mv x d k j q i t at_t q.moved.does.current

  not_shut : state_number t.control.state ≡ 4 → ⊥
  not_shut four = (let is_one = one in let no_state : ⊥ = omega (arith, is_one, four) in no_state)

  waits : ((h.accounts n i (epoch_of w n i)).remote ≡ 0) × ((h.accounts n i (epoch_of w n i)).part ≡ Opener)
  waits = unlearned_waits h.accounts i (epoch_of w n i) (h.accounts n i (epoch_of w n i)) t (h.accounts n i (epoch_of w n i)).part
      channel.state one

  first : epoch_of w n i ≡ 0
  first = (opener_of w h n i (epoch_of w n i) (h.accounts n i (epoch_of w n i)) (q.moved.holds.accounts n i (epoch_of w n i)) waits.1).0

  opens_it : a.part ≡ Opener
  opens_it = subst (λ e. (h.accounts n i e).part ≡ Opener) first waits.1

  unknown : a.remote ≡ 0
  unknown = subst (λ e. (h.accounts n i e).remote ≡ 0) first waits.0

  is_open_now : IsOpen a
  is_open_now = subst (λ e. IsOpen (h.accounts n i e)) first
      (open_unless_shut h.accounts i (epoch_of w n i) (h.accounts n i (epoch_of w n i)) t (h.accounts n i (epoch_of w n i)).part
      channel.state
      not_shut)

  opener : IsOpener h.accounts n i a
  opener = (opener_of w h n i 0 a (q.moved.holds.accounts n i 0) opens_it).1

  nothing : a.taken ≡ []
  nothing = ⊎_elim
      (λ empty. empty)
      (λ (lost : IsLost a × (length a.taken ≤ 2)). (let two = sym is_open_now ∙ lost.0.0 in absurd cc))
      (opener.none unknown)

  some_i : 0 < i
  some_i = made.some w h n node sender moment ev mv x d k j q i t at_t

  -- ---- the history

  becomes : entered_by d d.move a ≡ account
  becomes = ap (λ o. entered_by d o a) q.moved.deed.move_is
      ∙ ap (λ ls. record a { given = a.given ++ ls; taken = a.taken ++ tk ∷ []; remote = m.remote })
      (gives_is d n node.end.role sender mv q.moved.deed)

  epoch : d.epoch ≡ 0
  epoch = made.epoch_is w h n node sender moment ev mv x d k j q same ∙ first

  declines : (f c : ℕ) → declines_of d.move f c ≡ false
  declines f c = ap (λ o. declines_of o f c) q.moved.deed.move_is

  attempts : (f c : ℕ) (o : Option Restored) → attempts_by d d.move f c o ≡ o
  attempts f c o = ap (λ v. attempts_by d v f c o) q.moved.deed.move_is

  answers : (f c : ℕ) (o : Option Froze) → answers_by d d.move f c o ≡ o
  answers f c o = ap (λ v. answers_by d v f c o) q.moved.deed.move_is

  is : g.accounts n i 0 ≡ account
  is = deeds.here h d n i 0 account q.moved.deed.node_is (ap about q.moved.deed.move_is) epoch becomes declines attempts answers

  others : (f c e : ℕ) → ((f ≡ n) × (c ≡ i) × (e ≡ 0) → ⊥) → g.accounts f c e ≡ h.accounts f c e
  others = deeds.others h d n i 0 account q.moved.deed.node_is (ap about q.moved.deed.move_is) epoch becomes declines attempts answers

  heeds : heeded account ≡ suc (length a.taken)
  heeds = heeds_one a account tk is_open_now refl refl

  -- ---- the letter that it takes, by what holds behind the move

  taken_it : IsTaken g.accounts 0 account (length a.taken) tk
  taken_it =
      let ok : AccountOk (moves_on w n node mv x) g n i 0 account = subst (AccountOk (moves_on w n node mv x) g n i 0) is
      (q.later.accounts n i 0) in
      ok.taken (length a.taken) tk (got_last a.taken tk) (omega (arith, heeds))

  abbrev from : Sender
  from = taken_it.partner

  abbrev letter : Letter
  letter = taken_it.letter

  partner : partner_of account ≡ Some from
  partner = taken_it.learned

  apart : from.node ≡ n → from.tunnel ≡ i → ⊥
  apart = no_self (moves_on w n node mv x) g q.later n i 0 from (λ none. live.made (sym (ap (λ (c : Account). c.part) is) ∙ none))
      (ap partner_of is ∙ partner)

  there_same : g.accounts from.node from.tunnel 0 ≡ h.accounts from.node from.tunnel 0
  there_same = others from.node from.tunnel 0 (λ s. apart s.0 s.1)

  there : slice_get (h.accounts from.node from.tunnel 0).given (length a.taken) ≡ Some letter
  there = sym (ap (λ (c : Account). slice_get c.given (length a.taken)) there_same) ∙ taken_it.there

  tells : Tells letter mv
  tells = subst (Tells letter) q.moved.deed.move_is taken_it.tells

  peer : a.peer ≡ from.node
  peer = (partner_by account from partner).0

  remote : m.remote ≡ from.tunnel
  remote = (partner_by account from partner).1

  known : m.remote ≡ 0 → ⊥
  known = partner_some account from partner

  some_remote : 0 < from.tunnel
  some_remote = by from.tunnel (λ none. known (remote ∙ none))
    where
      by : (c : ℕ) → (c ≡ 0 → ⊥) → 0 < c
      by c some = omega (arith, some)

  opens_then : IsOpener g.accounts n i account
  opens_then = subst (IsOpener g.accounts n i) is
      ((opener_of (moves_on w n node mv x) g n i 0 (g.accounts n i 0) (q.later.accounts n i 0)
      (ap (λ (c : Account). c.part) is ∙ opens_it)).1)

  partner_then : partner_in g.accounts 0 account ≡ h.accounts from.node from.tunnel 0
  partner_then = ap₂ (λ f c. g.accounts f c 0) peer remote ∙ there_same

  accepts : (h.accounts from.node from.tunnel 0).part ≡ Acceptor
  accepts = sym (ap (λ (c : Account). c.part) partner_then) ∙ opens_then.part known

  goes_here : (h.accounts from.node from.tunnel 0).peer ≡ n
  goes_here = sym (ap (λ (c : Account). c.peer) partner_then) ∙ opens_then.peer known

  knows_it : (h.accounts from.node from.tunnel 0).remote ≡ i
  knows_it = sym (ap (λ (c : Account). c.remote) partner_then) ∙ opens_then.remote known

  made_there : IsMade (h.accounts from.node from.tunnel 0)
  made_there none = (let two : Acceptor ≡ Unmade = sym accepts ∙ none in absurd cc)

  pfits : from.node < 256
  pfits = (q.moved.holds.accounts from.node from.tunnel 0).node made_there

  rfits : from.tunnel < 65536
  rfits = (q.moved.holds.accounts from.node from.tunnel 0).id made_there

  acceptor : IsAcceptor h.accounts from.node from.tunnel (h.accounts from.node from.tunnel 0)
  acceptor = (acceptor_of w h from.node from.tunnel 0 (h.accounts from.node from.tunnel 0) (q.moved.holds.accounts from.node from.tunnel 0)
      accepts).1

  -- ---- in the machine

  abbrev X : ℕ
  X = name n i

  abbrev S : ℕ
  S = name from.node from.tunnel

  abbrev y : machine.World
  y = with_acceptor j X S

  abbrev v : machine.World
  v = and_took j X S

  abbrev z : machine.World
  z = gives v X machine_letters.Scccn

  abbrev P : List Letter
  P = (h.accounts from.node from.tunnel 0).given

  abbrev place : ℕ
  place = weigh (take (length a.taken) P)

  told : TunnelJoined j (with_book w n k) h n i (Some t) (tunnel_at k i)
  told = made.told w h n node sender moment ev mv x d k j q i t at_t

  told_there : TunnelJoined j (with_book w n k) h from.node from.tunnel (live_in (at (with_book w n k).nodes from.node) from.tunnel)
      (kept_in (at (with_book w n k).nodes from.node) from.tunnel)
  told_there = q.joined.joined.tunnels from.node from.tunnel pfits rfits

  back : j.tunnels.learned S ≡ X
  back = accepted_so h.accounts n i from.node from.tunnel (j.tunnels.learned S) told_there.learned accepts goes_here knows_it some_i

  phase : j.tunnels.phase X ≡ WaitReply
  phase = told.phase ∙ (current_phase n t t.recovery q.moved.does.current ∙ ap phase_of q.moved.does.state)

  entered : j.tunnels.entered X ≡ 0
  entered = made.entered_is w h n node sender moment ev mv x d k j q i t at_t ∙ first

  none_heeded : heeded a ≡ 0
  none_heeded = heeds_all a is_open_now ∙ ap length nothing

  place_zero : place ≡ 0
  place_zero = ap (λ (ts : List Taken). weigh (take (length ts) P)) nothing

  next : j.channels.taken X 0 ≡ place
  next = told.taken 0 ∙ (ap (λ c. weigh (take c (partner_in h.accounts 0 a).given)) none_heeded ∙ sym place_zero)

  stands : slice_get (j.channels.sent S 0) place ≡ Some machine_letters.Sccrp
  stands =
      ap (λ ls. slice_get ls place) (told_there.sent 0)
      ∙ says_one from.node (h.accounts from.node from.tunnel 0).peer (questions_in (h.accounts from.node from.tunnel 0).taken) P
      (length a.taken) letter machine_letters.Sccrp there
      (λ asked. ap (λ o. said_in from.node (h.accounts from.node from.tunnel 0).peer asked letter.session o) tells.1)

  goes : asking.GoesOn y z X 0 (machine_letters.Scccn ∷ []) 1
  goes = more y v z X 0 [] (machine_letters.Scccn ∷ []) 1 0
      (and_took_goes j X S 0 (subst (λ e. asking.GoesOn j (took_one j X) X e [] 1) entered (took_it j X)))
      (subst (λ e. asking.GoesOn v z X e (machine_letters.Scccn ∷ []) 0) (and_took_entered j X S
      ∙ entered) (gave_one v X machine_letters.Scccn))

  calls : z.calls ≡ y.calls
  calls = (gave_calls v X machine_letters.Scccn).0 ∙ (took_calls j X).0

  took_more : weigh (take (heeded account) (partner_in g.accounts 0 account).given)
      ≡ weigh (take (heeded a) (partner_in h.accounts 0 a).given) + 1
  took_more =
      ap (λ c. weigh (take c (partner_in g.accounts 0 account).given)) (heeds ∙ ap (λ (ts : List Taken). suc (length ts)) nothing)
      ∙ (ap (λ (c : Account). weigh (take 1 c.given)) partner_then
      ∙ (ap (λ ls. weigh (take 1 ls)) acceptor.begins.are
      ∙ (ap (λ o. weight o + 0) acceptor.begins.says_so
      ∙ sym (ap (λ c. weigh (take c (partner_in h.accounts 0 a).given) + 1) none_heeded))))

  comes_open : ComesOpen w h g n node x b j z i t r account (last ∷ []) (machine_letters.Scccn ∷ []) 1 S
  comes_open = record {
    mirrors = new;
    at_t = at_t;
    at_r = at_r;
    calls_same = refl;
    current = q.moved.does.current;
    state = window_state m.window (record t.control { remote = m.remote; flags = m.flags; state = Established });
    query = refl;
    others = λ f other. ap (λ ts. at ts f) tunnels ∙ at_other node.end.tunnels i r f other;
    ids = ap (λ (o : End). o.session_ids) q.moved.does.after;
    first = first;
    is = is;
    other_accounts = others;
    attempts = λ f c. attempts f c (h.attempts f c);
    answers = λ f c. answers f c (h.answers f c);
    part = refl;
    peer = refl;
    answer = refl;
    declined = refl;
    given = refl;
    accepted = λ so. (let two : Opener ≡ Acceptor = sym opens_it ∙ so in absurd cc);
    sent = sent_one grow n a.peer a.taken a.given tk last (ap question_of q.moved.deed.move_is) refl;
    taken = took_more;
    learned_so = ByLetter (sym (ap learned_name is ∙ (ap (λ o. if is_early o a.closed then 0 else name_of a.peer m.remote) opens_it
        ∙ (ap (λ o. if is_early Opener o then 0 else name_of a.peer m.remote) is_open_now
        ∙ (ap₂ name_of peer remote ∙ known_name from.node from.tunnel some_remote)))));
    comes = comes_by j y z X S (machine_letters.Scccn ∷ []) 1 (connected_comes j X S) goes calls;
  }

  went : Went ev n j z
  went = went_one ev n j z (Delivers X S 0 place 0) (delivers_node j X S 0 place 0 ∙ told.node live.made) refl
      (heard_said ev j X S 0 place 0 machine_letters.Sccrp stands q.moved.does.letter q.moved.does.takes.next.comes.came
      (Sccrp q.moved.does.opening) q.moved.does.said refl)
      (connects_step j X S place phase (name_some from.node from.tunnel some_remote) back entered next stands ∙ connects_is j X S)

  pub connected_follows : Follows ev (with_book (moves_on w n node mv x) n b) (after h d) n j
  connected_follows = follows ev w h n node mv x d k b j z same went
      (λ js goes_so. opens.open_joined grow.stay births coverage w h g n node sender moment ev mv x d k j q b z i t r account (last ∷ [])
      (machine_letters.Scccn ∷ []) 1 S comes_open js goes_so)
      (opens.open_queries grow.stay births coverage w h g n node sender moment ev mv x d k j q b z i t r account (last ∷ [])
      (machine_letters.Scccn ∷ []) 1 S comes_open)
      (opens.open_named grow.stay births coverage w h g n node sender moment ev mv x d k j q b z i t r account (last ∷ [])
      (machine_letters.Scccn ∷ []) 1 S comes_open)

pub connected_joins : ChannelsGrow → BirthsOfRuns → CoverageOfRuns → (m : Connected) → Joins (move.Connected m)
connected_joins grow births coverage m w h n node sender moment ev x d k j q b new =
    connected_follows grow births coverage w h n node sender moment ev m x d k j q b new
