-- A tunnel that waits for its SCCCN takes it, and comes open: so does the machine's.
use Rattle.std.proofs.Common.{◌≡◌, ◌⊎◌, inl, inr, ⊎_elim, ℕ, suc, ◌+◌, ◌<◌, ◌≤◌, Bool, true, false, List, [], ◌∷◌, ◌++◌, length, slice_get, refl, sym, ap, ap₂, ◌∙◌, subst, Option, Some, None, arith, append-nil, eq-eqb, ne_eqb, lt-ltb}
use Rattle.std.proofs.lemmas.Option.{slice_get_within}
use Rattle.std.specs.Prelude.{take, if◌then◌else◌, ◌==◌, ◌&&◌}
use Rattle.id_table.specs.Ids.{at, put}
use Rattle.id_table.specs.Order.{at_new, at_other}
use Rattle.wire_base.specs.declared.pair.Pair.{Pair}
use Rattle.session_book.specs.Books.{Kept, tunnel_at}
use Rattle.control_message.specs.declared.message.Message.TheVariants.{Scccn}
use Rattle.tunnel_fsm.specs.Rows.{state_number}
use Rattle.tunnel_fsm.specs.declared.table.TunnelState.TheVariants.{WaitCtlConn, Established}
use Rattle.end_model.specs.declared.event.Event.{Event}
use Rattle.end_model.specs.declared.moves.Confirmed.{Confirmed}
use Rattle.end_model.specs.declared.moves.Restored.{Restored}
use Rattle.end_model.specs.declared.moves.Froze.{Froze}
use Rattle.end_model.specs.declared.moves.Move.{Move}
use Rattle.end_model.specs.declared.moves.Move.TheVariants as move
use Rattle.end_model.specs.Channels.{counts_taken}
use Rattle.end_model.specs.Openings.{in_state}
use Rattle.end_model.specs.Tunnels.{Tunnel, mode_of, is_current}
use Rattle.end_model.specs.End.{End}
use Rattle.world_model.specs.declared.standing.Standing.{Standing}
use Rattle.world_model.specs.World.{World, Node, Sender, Deed, standing_of, epoch_of, moved}
use Rattle.step_laws.specs.Letters.{Letter}
use Rattle.book_laws.specs.Books.{Mirrors}
use Rattle.birth_laws.specs.Births.{BirthsOfRuns}
use Rattle.coverage_laws.specs.Coverage.{CoverageOfRuns}
use Rattle.connection_laws.specs.Facts.{IsStopCcn, AllWait, Tells}
use Rattle.epoch_machine.specs.Letters as machine_letters
use Rattle.epoch_machine.specs.Tunnels.{Tunnels, Open, WaitConnect, is_active, is_wait_connect, established}
use Rattle.epoch_machine.specs.Worlds as machine
use Rattle.epoch_machine.specs.Worlds.{all_rules, took_one, takes, is_connected}
use Rattle.epoch_machine.specs.Moves as moves
use Rattle.epoch_machine.specs.Moves.{Delivers, may_take, delivers, step}
use Rattle.session_laws.specs.Names.{name, name_of, phase_of}
use Rattle.session_laws.proofs.Names.{name_some}
use Rattle.channel_laws.specs.Accounts.{Part, Unmade, Opener, Acceptor, Renewed, Taken, Account, partner_of, heeded, History, about, declines_of, entered_by, attempts_by, answers_by, after}
use Rattle.channel_laws.specs.Facts.{Accounts, IsMade, IsOpen, IsShut, IsInState, IsTaken, IsAcceptor, partner_in, ChannelOk, LiveOk, AccountOk, EndOk, BookOk, NodeOk}
use Rattle.channel_laws.specs.Steps.{with_end, moves_on}
use Rattle.session_laws.proofs.Entering.{got_last}
use Rattle.channel_laws.proofs.Deeds as deeds
use Rattle.channel_laws.proofs.Linked.{acceptor_of}
use Rattle.recovery_laws.specs.Asking as asking
use Rattle.recovery_laws.specs.Growing.{ChannelsGrow}
use Rattle.recovery_laws.specs.Joined.{learned_name, LearnedSo, ByLetter, ByRecord, TunnelJoined, live_in, kept_in}
use Rattle.recovery_laws.specs.Queries.{said_in, letters_in, question_of, questions_in, weigh, weight}
use Rattle.recovery_laws.proofs.Asking.{took_it, took_calls}
use Rattle.recovery_laws.proofs.Epochs.{current_phase}
use Rattle.join_laws.specs.Steps as steps
use Rattle.join_laws.specs.Steps.{with_book, Follows, Joins}
use Rattle.join_laws.proofs.Ahead.{end_standings}
use Rattle.join_laws.proofs.CallMoves.{delivers_node}
use Rattle.join_laws.proofs.Channel.{heeds_one, heeds_all, questions_stay}
use Rattle.join_laws.proofs.ComesOpen as opens
use Rattle.join_laws.proofs.ComesOpen.{Comes, comes_by, ComesOpen}
use Rattle.join_laws.proofs.Finish.{Went, went_one, follows}
use Rattle.join_laws.proofs.Hearing.{heard_said}
use Rattle.join_laws.proofs.Made as made
use Rattle.join_laws.proofs.OneTunnel.{NameStays}
use Rattle.join_laws.proofs.Partners.{Partner, no_self, of_acceptor, accepted_so}
use Rattle.join_laws.proofs.PlainOne.{RestStays}
use Rattle.join_laws.proofs.Said.{says_one}
use Rattle.join_laws.proofs.Within.{partner_by}

-- ---- in the machine

-- an active tunnel of epoch 0 takes the next letter of a tunnel that has learned it
pub takes_first : (w : machine.World) (x s k : ℕ) (l : machine_letters.Letter) → is_active (w.tunnels.phase x) ≡ true → 0 < s
    → w.tunnels.learned s ≡ x → w.tunnels.entered x ≡ 0 → w.channels.taken x 0 ≡ k → may_take all_rules w x s 0 k l ≡ true
unfolding may_take
takes_first w x s k l active some back first next =
    rw (active, lt-ltb 0 s some, back, eq-eqb x x refl, first, next, eq-eqb k k refl) refl

confirms_step : (w : machine.World) (x s k : ℕ) → w.tunnels.phase x ≡ WaitConnect → 0 < s → w.tunnels.learned s ≡ x
    → w.tunnels.entered x ≡ 0 → w.channels.taken x 0 ≡ k → slice_get (w.channels.sent s 0) k ≡ Some machine_letters.Scccn
    → step all_rules w (Delivers x s 0 k 0) ≡ is_connected (took_one w x) x
unfolding step delivers takes took_one
confirms_step w x s k phase some back first next stands =
    ap (λ o. delivers all_rules w x s 0 k 0 o) stands
    ∙ (ap (λ b. if b then takes all_rules (took_one w x) x s machine_letters.Scccn 0 else w)
    (takes_first w x s k machine_letters.Scccn (ap is_active phase) some back first next)
    ∙ ap (λ p. if is_wait_connect p then is_connected (took_one w x) x else took_one w x) phase)

abbrev with_established : machine.World → ℕ → machine.World
with_established w x = record w { tunnels = established w.tunnels x }

established_comes : (w : machine.World) (x : ℕ) → Comes w (with_established w x) x (w.tunnels.learned x) [] 0
unfolding established
established_comes w x = record {
  phase = ap (λ b. if b then Open else w.tunnels.phase x) (eq-eqb x x refl);
  booked = ap (λ b. if b then true else w.tunnels.booked x) (eq-eqb x x refl);
  learned_is = refl;
  drawn = λ y. refl;
  opener = refl;
  node = λ y. refl;
  peer = refl;
  entered = λ y. refl;
  entered_by = λ e. refl;
  sent = sym (append-nil (w.channels.sent x 0));
  taken = omega arith;
  later_sent = λ e other. refl;
  later_taken = λ e other. refl;
  stays = λ y other. record {
    opener = refl;
    node = refl;
    peer = refl;
    learned = refl;
    phase = ap (λ b. if b then Open else w.tunnels.phase y) (ne_eqb y x other);
    booked = ap (λ b. if b then true else w.tunnels.booked y) (ne_eqb y x other);
    entered = refl;
    entered_by = λ e. refl;
    sent = λ e. refl;
    taken = λ e. refl;
    refused = refl;
  };
  refused = refl;
  rest = record {
    epochs = λ y. refl;
    attempts = λ y. refl;
    answers = λ y. refl;
    answered = λ y. refl;
    makes_it = λ y. refl;
    confirmed = λ y. refl;
    giver_first = λ y. refl;
    other_first = λ y. refl;
    ups = λ y. refl;
  };
  calls = refl;
}

-- and takes one letter
established_goes : (w : machine.World) (x e : ℕ) → asking.GoesOn w (took_one w x) x e [] 1
    → asking.GoesOn (with_established w x) (is_connected (took_one w x) x) x e [] 1
unfolding is_connected took_one
established_goes w x e k = record {
  tunnels = refl;
  refused = k.refused;
  sent = k.sent;
  taken = k.taken;
  others_sent = k.others_sent;
  others_taken = k.others_taken;
}

connected_calls : (w : machine.World) (x : ℕ) → (is_connected (took_one w x) x).calls ≡ w.calls
unfolding is_connected took_one
connected_calls w x = refl

-- ---- by its state

-- a tunnel that waits for its SCCCN accepted one
waits_open : (accs : Accounts) (i e : ℕ) (a : Account) (t : Tunnel) (p : Part) → IsInState accs i e a t p → state_number t.control.state ≡ 2
    → (p ≡ Acceptor) × IsOpen a
waits_open accs i e a t Unmade s two = absurd s
waits_open accs i e a t Opener s two = ⊎_elim
    (λ (q : (state_number t.control.state ≡ 1) × (a.remote ≡ 0) × IsOpen a × AllWait t.calls). let one = q.0 in absurd (omega (
      arith,
      one,
      two,
    )))
    (λ k. ⊎_elim
    (λ (q : (state_number t.control.state ≡ 3) × (a.remote ≡ 0 → ⊥) × IsOpen a). let three = q.0 in absurd (omega (arith, three, two)))
    (λ (q : IsShut a t). let four = q.0 in absurd (omega (arith, four, two))) k)
    s
waits_open accs i e a t Acceptor s two = ⊎_elim
    (λ (q : (state_number t.control.state ≡ 2) × (t.calls ≡ []) × IsOpen a). (refl, q.2))
    (λ k. ⊎_elim
    (λ (q : (state_number t.control.state ≡ 3) × ((partner_in accs 0 a).remote ≡ i) × IsOpen a). let three = q.0 in absurd (omega (
      arith,
      three,
      two,
    )))
    (λ (q : IsShut a t). let four = q.0 in absurd (omega (arith, four, two))) k)
    s
waits_open accs i e a t Renewed s two = ⊎_elim
    (λ (q : (state_number t.control.state ≡ 3) × IsOpen a). let three = q.0 in absurd (omega (arith, three, two)))
    (λ (q : IsShut a t). let four = q.0 in absurd (omega (arith, four, two)))
    s

-- once it is established its opener has learned it
opener_learned : (accs : Accounts) (i e : ℕ) (a : Account) (t : Tunnel) (p : Part) → IsInState accs i e a t p
    → state_number t.control.state ≡ 3
    → p ≡ Acceptor → (partner_in accs 0 a).remote ≡ i
opener_learned accs i e a t Unmade s three accepts = absurd s
opener_learned accs i e a t Opener s three accepts = absurd cc
opener_learned accs i e a t Acceptor s three accepts = ⊎_elim
    (λ (q : (state_number t.control.state ≡ 2) × (t.calls ≡ []) × IsOpen a). let two = q.0 in absurd (omega (arith, two, three)))
    (λ k. ⊎_elim
    (λ (q : (state_number t.control.state ≡ 3) × ((partner_in accs 0 a).remote ≡ i) × IsOpen a). q.1)
    (λ (q : IsShut a t). let four = q.0 in absurd (omega (arith, four, three))) k)
    s
opener_learned accs i e a t Renewed s three accepts = absurd cc

-- ---- the move

module _ (grow : ChannelsGrow) (births : BirthsOfRuns) (coverage : CoverageOfRuns) (w : World) (h : History) (n : ℕ) (node : Node)
    (sender : Option Sender) (moment : ℕ) (ev : Event) (m : Confirmed) (x : End) (d : Deed) (k : Kept) (j : machine.World)
    (q : steps.IsMade w h n node sender moment ev (move.Confirmed m) x d k j) (b : Kept) (new : Mirrors x b) where
  abbrev mv : Move
  mv = move.Confirmed m

  abbrev i : ℕ
  i = m.tunnel

  abbrev t : Tunnel
  t = q.moved.does.tunnel

  abbrev r : Tunnel
  r = record t { control = counts_taken (in_state Established t.control) }

  abbrev g : History
  g = after h d

  abbrev a : Account
  a = h.accounts n i 0

  abbrev tk : Taken
  tk = record { sender = d.sender; number = m.taken.number; move = d.move }

  abbrev account : Account
  account = record a { taken = a.taken ++ tk ∷ [] }

  same : moves_on w n node mv x ≡ with_end w n node x
  unfolding moved
  same = refl

  at_t : at node.end.tunnels i ≡ Some t
  at_t = q.moved.does.there

  tunnels : x.tunnels ≡ put node.end.tunnels i r
  tunnels = ap (λ (v : End). v.tunnels) q.moved.does.after

  at_r : at x.tunnels i ≡ Some r
  at_r = ap (λ ts. at ts i) tunnels ∙ at_new node.end.tunnels i r

  live : LiveOk w h n i t
  live = made.live_ok w h n node sender moment ev mv x d k j q i t at_t

  channel : ChannelOk h.accounts n i (epoch_of w n i) (h.accounts n i (epoch_of w n i)) t
  channel = made.channel_ok w h n node sender moment ev mv x d k j q i t at_t q.moved.does.current

  waits : ((h.accounts n i (epoch_of w n i)).part ≡ Acceptor) × IsOpen (h.accounts n i (epoch_of w n i))
  waits = waits_open h.accounts i (epoch_of w n i) (h.accounts n i (epoch_of w n i)) t (h.accounts n i (epoch_of w n i)).part channel.state
      (ap state_number q.moved.does.state)

  first : epoch_of w n i ≡ 0
  first = (acceptor_of w h n i (epoch_of w n i) (h.accounts n i (epoch_of w n i)) (q.moved.holds.accounts n i (epoch_of w n i)) waits.0).0

  accepts : a.part ≡ Acceptor
  accepts = subst (λ e. (h.accounts n i e).part ≡ Acceptor) first waits.0

  is_open_now : IsOpen a
  is_open_now = subst (λ e. IsOpen (h.accounts n i e)) first waits.1

  acceptor : IsAcceptor h.accounts n i a
  acceptor = (acceptor_of w h n i 0 a (q.moved.holds.accounts n i 0) accepts).1

  some_i : 0 < i
  some_i = made.some w h n node sender moment ev mv x d k j q i t at_t

  -- ---- the history

  becomes : entered_by d d.move a ≡ account
  becomes = ap (λ o. entered_by d o a) q.moved.deed.move_is

  epoch : d.epoch ≡ 0
  epoch = made.epoch_is w h n node sender moment ev mv x d k j q same ∙ first

  declines : (f c : ℕ) → declines_of d.move f c ≡ false
  declines f c = ap (λ o. declines_of o f c) q.moved.deed.move_is

  attempts : (f c : ℕ) (o : Option Restored) → attempts_by d d.move f c o ≡ o
  attempts f c o = ap (λ v. attempts_by d v f c o) q.moved.deed.move_is

  answers : (f c : ℕ) (o : Option Froze) → answers_by d d.move f c o ≡ o
  answers f c o = ap (λ v. answers_by d v f c o) q.moved.deed.move_is

  is : g.accounts n i 0 ≡ account
  is = deeds.here h d n i 0 account q.moved.deed.node_is (ap about q.moved.deed.move_is) epoch becomes declines attempts answers

  others : (f c e : ℕ) → ((f ≡ n) × (c ≡ i) × (e ≡ 0) → ⊥) → g.accounts f c e ≡ h.accounts f c e
  others = deeds.others h d n i 0 account q.moved.deed.node_is (ap about q.moved.deed.move_is) epoch becomes declines attempts answers

  heeds : heeded account ≡ suc (length a.taken)
  heeds = heeds_one a account tk is_open_now refl refl

  -- ---- the letter that it takes

  taken_it : IsTaken g.accounts 0 account (length a.taken) tk
  taken_it =
      let ok : AccountOk (moves_on w n node mv x) g n i 0 account = subst (AccountOk (moves_on w n node mv x) g n i 0) is
      (q.later.accounts n i 0) in
      ok.taken (length a.taken) tk (got_last a.taken tk) (omega (arith, heeds))

  abbrev from : Sender
  from = taken_it.partner

  abbrev letter : Letter
  letter = taken_it.letter

  partner : partner_of a ≡ Some from
  partner = taken_it.learned

  made_a : IsMade a
  made_a = live.made

  apart : from.node ≡ n → from.tunnel ≡ i → ⊥
  apart = no_self (moves_on w n node mv x) g q.later n i 0 from (λ none. made_a (sym (ap (λ (c : Account). c.part) is) ∙ none))
      (ap partner_of is ∙ partner)

  there_same : g.accounts from.node from.tunnel 0 ≡ h.accounts from.node from.tunnel 0
  there_same = others from.node from.tunnel 0 (λ s. apart s.0 s.1)

  there : slice_get (h.accounts from.node from.tunnel 0).given (length a.taken) ≡ Some letter
  there = sym (ap (λ (c : Account). slice_get c.given (length a.taken)) there_same) ∙ taken_it.there

  tells : Tells letter mv
  tells = subst (Tells letter) q.moved.deed.move_is taken_it.tells

  plain : IsStopCcn letter.message → ⊥
  plain stops = subst IsStopCcn tells.1 stops

  peer : a.peer ≡ from.node
  peer = (partner_by a from partner).0

  remote : a.remote ≡ from.tunnel
  remote = (partner_by a from partner).1

  partner_is : partner_in h.accounts 0 a ≡ h.accounts from.node from.tunnel 0
  partner_is = ap₂ (λ f c. h.accounts f c 0) peer remote

  partner_then : partner_in g.accounts 0 account ≡ partner_in h.accounts 0 a
  partner_then = ap₂ (λ f c. g.accounts f c 0) peer remote ∙ (there_same ∙ sym partner_is)

  -- the opener has learned it, by what holds behind the move
  ends_then : EndOk (with_end w n node x) g n x × BookOk g n node.checkpoint.book
  ends_then = subst (NodeOk (with_end w n node x) g n) (at_new w.nodes n (record node { end = x }))
      (subst (λ v. NodeOk v g n (at v.nodes n)) same (q.later.nodes n))

  epoch_then : epoch_of (with_end w n node x) n i ≡ 0
  epoch_then = ap (λ (s : Standing). s.epoch) (end_standings w n node q.moved.there x n i) ∙ first

  channel_then : ChannelOk g.accounts n i 0 account r
  channel_then =
      subst (λ c. ChannelOk g.accounts n i 0 c r) is
      (subst (λ e. ChannelOk g.accounts n i e (g.accounts n i e) r) epoch_then ((ends_then.0.live i r at_r).channel q.moved.does.current))

  learned_it : (partner_in h.accounts 0 a).remote ≡ i
  learned_it = sym (ap (λ (c : Account). c.remote) partner_then)
      ∙ opener_learned g.accounts i 0 account r a.part channel_then.state refl accepts

  opener : Partner h n i 0 from
  opener = of_acceptor w h q.moved.holds n i 0 from (length a.taken) letter partner made_a some_i there plain accepts learned_it
      acceptor.some

  -- ---- in the machine

  abbrev X : ℕ
  X = name n i

  abbrev S : ℕ
  S = name from.node from.tunnel

  abbrev y : machine.World
  y = with_established j X

  abbrev z : machine.World
  z = is_connected (took_one j X) X

  abbrev P : List Letter
  P = (h.accounts from.node from.tunnel 0).given

  abbrev place : ℕ
  place = weigh (take (length a.taken) P)

  told : TunnelJoined j (with_book w n k) h n i (Some t) (tunnel_at k i)
  told = made.told w h n node sender moment ev mv x d k j q i t at_t

  told_there : TunnelJoined j (with_book w n k) h from.node from.tunnel (live_in (at (with_book w n k).nodes from.node) from.tunnel)
      (kept_in (at (with_book w n k).nodes from.node) from.tunnel)
  told_there = q.joined.joined.tunnels from.node from.tunnel opener.node opener.fits

  back : j.tunnels.learned S ≡ X
  back = opener.learned (j.tunnels.learned S) told_there.learned

  phase : j.tunnels.phase X ≡ WaitConnect
  phase = told.phase ∙ (current_phase n t t.recovery q.moved.does.current ∙ ap phase_of q.moved.does.state)

  entered : j.tunnels.entered X ≡ 0
  entered = made.entered_is w h n node sender moment ev mv x d k j q i t at_t ∙ first

  next : j.channels.taken X 0 ≡ place
  next = told.taken 0
      ∙ (ap (λ c. weigh (take c (partner_in h.accounts 0 a).given)) (heeds_all a is_open_now)
      ∙ ap (λ (c : Account). weigh (take (length a.taken) c.given)) partner_is)

  stands : slice_get (j.channels.sent S 0) place ≡ Some machine_letters.Scccn
  stands =
      ap (λ ls. slice_get ls place) (told_there.sent 0)
      ∙ says_one from.node (h.accounts from.node from.tunnel 0).peer (questions_in (h.accounts from.node from.tunnel 0).taken) P
      (length a.taken) letter machine_letters.Scccn there
      (λ asked. ap (λ v. said_in from.node (h.accounts from.node from.tunnel 0).peer asked letter.session v) tells.1)

  goes : asking.GoesOn y z X 0 [] 1
  goes = established_goes j X 0 (subst (λ e. asking.GoesOn j (took_one j X) X e [] 1) entered (took_it j X))

  took_more : weigh (take (heeded account) (partner_in g.accounts 0 account).given)
      ≡ weigh (take (heeded a) (partner_in h.accounts 0 a).given) + 1
  took_more =
      let Q = (partner_in h.accounts 0 a).given in
      ap (λ (c : Account). weigh (take (heeded account) c.given)) partner_then
      ∙ (ap (λ c. weigh (take c Q)) heeds
      ∙ (grow.taken Q (length a.taken) letter (ap (λ (c : Account). slice_get c.given (length a.taken)) partner_is ∙ there)
      ∙ (ap (λ c. weigh (take c Q) + weight letter.message) (sym (heeds_all a is_open_now))
      ∙ ap (λ v. weigh (take (heeded a) Q) + weight v) tells.1)))

  acceptor_name : (v : ℕ) → LearnedSo h.accounts n i v → v ≡ learned_name a
  acceptor_name v (ByLetter so) = so
  acceptor_name v (ByRecord c part none some so there_part back own) =
      let two : Acceptor ≡ Opener = sym accepts ∙ part in absurd cc

  learned_stays : LearnedSo g.accounts n i (j.tunnels.learned X)
  learned_stays = ByLetter (acceptor_name (j.tunnels.learned X) told.learned ∙ sym (ap learned_name is))

  comes_open : ComesOpen w h g n node x b j z i t r account [] [] 1 (j.tunnels.learned X)
  comes_open = record {
    mirrors = new;
    at_t = at_t;
    at_r = at_r;
    calls_same = refl;
    current = q.moved.does.current;
    state = refl;
    query = refl;
    others = λ f other. ap (λ ts. at ts f) tunnels ∙ at_other node.end.tunnels i r f other;
    ids = ap (λ (v : End). v.session_ids) q.moved.does.after;
    first = first;
    is = is;
    other_accounts = others;
    attempts = λ f c. attempts f c (h.attempts f c);
    answers = λ f c. answers f c (h.answers f c);
    part = refl;
    peer = refl;
    answer = refl;
    declined = refl;
    given = sym (append-nil a.given);
    accepted = λ so. refl;
    sent = ap (λ v. letters_in n a.peer v a.given) (questions_stay a.taken tk (ap question_of q.moved.deed.move_is))
        ∙ sym (append-nil (letters_in n a.peer (questions_in a.taken) a.given));
    taken = took_more;
    learned_so = learned_stays;
    comes = comes_by j y z X (j.tunnels.learned X) [] 1 (established_comes j X) goes (connected_calls j X);
  }

  went : Went ev n j z
  went = went_one ev n j z (Delivers X S 0 place 0) (delivers_node j X S 0 place 0 ∙ told.node live.made) refl
      (heard_said ev j X S 0 place 0 machine_letters.Scccn stands q.moved.does.letter q.moved.does.takes.next.comes.came
      (Scccn q.moved.does.response) q.moved.does.said refl)
      (confirms_step j X S place phase (name_some from.node from.tunnel opener.some) back entered next stands)

  pub confirmed_follows : Follows ev (with_book (moves_on w n node mv x) n b) (after h d) n j
  confirmed_follows = follows ev w h n node mv x d k b j z same went
      (λ js goes_so. opens.open_joined grow.stay births coverage w h g n node sender moment ev mv x d k j q b z i t r account [] [] 1
      (j.tunnels.learned X) comes_open js goes_so)
      (opens.open_queries grow.stay births coverage w h g n node sender moment ev mv x d k j q b z i t r account [] [] 1
      (j.tunnels.learned X) comes_open)
      (opens.open_named grow.stay births coverage w h g n node sender moment ev mv x d k j q b z i t r account [] [] 1
      (j.tunnels.learned X) comes_open)

pub confirmed_joins : ChannelsGrow → BirthsOfRuns → CoverageOfRuns → (m : Confirmed) → Joins (move.Confirmed m)
confirmed_joins grow births coverage m w h n node sender moment ev x d k j q b new =
    confirmed_follows grow births coverage w h n node sender moment ev m x d k j q b new
