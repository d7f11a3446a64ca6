-- Moves that give and take no letter and neither make nor enter an epoch.
use Rattle.std.proofs.Common.{◌≡◌, ◌⊎◌, inl, inr, ⊎_elim, ℕ, ◌+◌, ◌≤◌, ◌<◌, Bool, true, false, List, [], refl, sym, ap, ◌∙◌, subst, Option, Some, None, arith}
use Rattle.std.proofs.lemmas.Bool.{true≢false}
use Rattle.std.proofs.lemmas.Option.{none-some}
use Rattle.std.specs.Prelude.{is_some, is_none, not, nat_lt, ◌==◌, ◌&&◌, if◌then◌else◌}
use Rattle.std.proofs.lemmas.Bool.Decides.{nat_tests}
use Rattle.id_source.specs.Spaces.{Space}
use Rattle.id_table.specs.Ids.{at, put, without, at-none}
use Rattle.id_table.specs.Order.{Ascends, at_new, at_other, same_or_not, found_without}
use Rattle.tunnel_fsm.specs.Rows.{state_number}
use Rattle.call_fsm.specs.declared.table.CallState.{CallState}
use Rattle.call_fsm.specs.declared.table.CallState.TheVariants.{WaitTunnel}
use Rattle.send_window.specs.Congestion.{halved}
use Rattle.send_window.specs.Window.{may_go, due_at}
use Rattle.control_channel.specs.Numbers.{Numbers, let_go_at, ticked_at}
use Rattle.call_link.specs.Laws.{turn_at}
use Rattle.end_model.specs.Links.{with_link}
use Rattle.control_channel.specs.Channel.{Channel}
use Rattle.recovery_tunnel.specs.Connections.{ControlConnection, is_waiting}
use Rattle.end_names.specs.Names.{node_of}
use Rattle.end_model.specs.declared.event.Event.{Event}
use Rattle.end_model.specs.declared.moves.Restored.{Restored}
use Rattle.end_model.specs.declared.moves.Froze.{Froze}
use Rattle.end_model.specs.declared.moves.Move.{Move}
use Rattle.end_model.specs.declared.moves.Move.TheVariants as move
use Rattle.end_model.specs.declared.tunnel.Call.{Call}
use Rattle.end_model.specs.declared.tunnel.Config.{Config}
use Rattle.end_model.specs.Calls.{is_up, counted}
use Rattle.end_model.specs.Tunnels.{Tunnel, Recovering, ByAttempt, ByAnswer, connection_of, with_connection, is_finished, mode_of, is_current}
use Rattle.end_model.specs.End.{End}
use Rattle.world_model.specs.World.{World, Node, Sender, Deed, moved, standing_in, standing_of, epoch_of}
use Rattle.step_laws.specs.Moves.{LearnsOfReply}
use Rattle.frame_laws.specs.Codecs.{Codecs}
use Rattle.connection_laws.specs.Facts.{AllWait}
use Rattle.channel_laws.specs.Accounts.{Part, Unmade, Opener, Acceptor, Renewed, Account, History, about, declined_in, declines_of, entered_by, after_deed, attempts_by, answers_by, after}
use Rattle.channel_laws.specs.Facts.{Accounts, IsOpen, IsShut, partner_in, KnowsBy, makes, IsInState, ChannelOk, IsRecovered, LiveOk, EndOk, BookOk, NodeOk, Holds, QueryOk}
use Rattle.channel_laws.specs.Steps.{with_end, moves_on, IsMoved, IsStill, StillMovesKeep}
use Rattle.channel_laws.specs.Recoveries.{WrittenIsRead, WrittenHasRoom}
use Rattle.channel_laws.proofs.Replying.{learned_answer}
use Rattle.channel_laws.proofs.Resting.{Rests, put_holds, end_rests, rests_but}

-- ---- the history

-- a deed that does nothing in any account
pub record DoesNothing (d : Deed) : Type 0 where
  account : (a : Account) → entered_by d d.move a ≡ a
  declines : (n i : ℕ) → declines_of d.move n i ≡ false
  attempts : (n a : ℕ) (o : Option Restored) → attempts_by d d.move n a o ≡ o
  answers : (n c : ℕ) (o : Option Froze) → answers_by d d.move n c o ≡ o

pub same_history : (h : History) (d : Deed) → DoesNothing d → after h d ≡ h
same_history h d none = λ j. record {
  accounts = λ n i e. account n i e (h.accounts n i e) j;
  attempts = λ n a. none.attempts n a (h.attempts n a) j;
  answers = λ n c. none.answers n c (h.answers n c) j;
}
  where
    by : (b : Bool) (a : Account) → (if b then entered_by d d.move a else a) ≡ a
    by true a = none.account a
    by false a = refl

    account : (n i e : ℕ) (a : Account) → after_deed d n i e a ≡ a
    account n i e a =
        ap (λ b. declined_in (b && (e == 0)) (if ((d.node == n) && (about d.move == i)) && (d.epoch == e) then entered_by d d.move a else a)) (none.declines n i)
        ∙ by (((d.node == n) && (about d.move == i)) && (d.epoch == e)) a

-- the deed of a move that is none of a letter or of a recovery
pub nothing_by : (d : Deed) (m : Move) → IsStill m → d.move ≡ m → DoesNothing d
nothing_by d (move.EndSilent m) still is = rw is (record { account = λ a. refl; declines = λ n i. refl; attempts = λ n a o. refl; answers = λ n c o. refl })
nothing_by d (move.Cleared i booked) still is = rw is (record { account = λ a. refl; declines = λ n i. refl; attempts = λ n a o. refl; answers = λ n c o. refl })
nothing_by d (move.Quiet i) still is = rw is (record { account = λ a. refl; declines = λ n i. refl; attempts = λ n a o. refl; answers = λ n c o. refl })
nothing_by d (move.LetGo m) still is = rw is (record { account = λ a. refl; declines = λ n i. refl; attempts = λ n a o. refl; answers = λ n c o. refl })
nothing_by d (move.Repeated m) still is = rw is (record { account = λ a. refl; declines = λ n i. refl; attempts = λ n a o. refl; answers = λ n c o. refl })
nothing_by d (move.Negotiated m) still is = rw is (record { account = λ a. refl; declines = λ n i. refl; attempts = λ n a o. refl; answers = λ n c o. refl })
nothing_by d (move.Counted m) still is = rw is (record { account = λ a. refl; declines = λ n i. refl; attempts = λ n a o. refl; answers = λ n c o. refl })
nothing_by d (move.FrameSent m) still is = rw is (record { account = λ a. refl; declines = λ n i. refl; attempts = λ n a o. refl; answers = λ n c o. refl })
nothing_by d (move.FrameUp m) still is = rw is (record { account = λ a. refl; declines = λ n i. refl; attempts = λ n a o. refl; answers = λ n c o. refl })
nothing_by d (move.Forgot m) still is = rw is (record { account = λ a. refl; declines = λ n i. refl; attempts = λ n a o. refl; answers = λ n c o. refl })
nothing_by d (move.RecoveryWentOn i) still is = rw is (record { account = λ a. refl; declines = λ n i. refl; attempts = λ n a o. refl; answers = λ n c o. refl })
nothing_by d (move.RecoveryEnded i) still is = rw is (record { account = λ a. refl; declines = λ n i. refl; attempts = λ n a o. refl; answers = λ n c o. refl })
nothing_by d (move.Ignored i) still is = rw is (record { account = λ a. refl; declines = λ n i. refl; attempts = λ n a o. refl; answers = λ n c o. refl })
nothing_by d m still is = absurd still

-- ---- the world

-- what an end that takes the place of another has to show: all of it, as the world was
module _ (w : World) (h : History) (n : ℕ) (node : Node) (there : at w.nodes n ≡ Some node) (holds : Holds w h) where
  node_ok : EndOk w h n node.end × BookOk h n node.checkpoint.book
  node_ok = subst (NodeOk w h n) there (holds.nodes n)

  module _ (x : End) where
    still_rests : Rests h n node (record node { end = x })
    still_rests = record { answers = refl; epochs = λ i. refl; made = λ i. refl; none = λ i unmade none. none }

    still_lost : (i : ℕ) → (standing_of (with_end w n node x) n i).lost ≡ (standing_of w n i).lost
    unfolding standing_of
    still_lost i = ap (λ q. (standing_in q i).lost) (at_new w.nodes n (record node { end = x })) ∙ sym (ap (λ q. (standing_in q i).lost) there)

    pub end_holds : EndOk w h n x → Holds (with_end w n node x) h
    end_holds ok =
        put_holds w h n node (record node { end = x }) there holds still_rests
        (end_rests w (with_end w n node x) h (rests_but w h n node (record node { end = x }) there holds still_rests) n x (λ i. still_lost i) ok, node_ok.1)

-- ---- the end

-- the same configuration, and ids that go on
record GoesFrom (e x : End) : Type 0 where
  config : x.config ≡ e.config
  role : x.role ≡ e.role
  ids : e.tunnel_ids.next ≤ x.tunnel_ids.next

module _ (w : World) (h : History) (n : ℕ) (e x : End) (ok : EndOk w h n e) (goes : GoesFrom e x) where
  -- all but the tunnels
  with_tunnels : ((i : ℕ) (t : Tunnel) → at x.tunnels i ≡ Some t → LiveOk w h n i t)
      → ((i : ℕ) (t : Tunnel) → at x.tunnels i ≡ Some t → (u : Tunnel) × (at e.tunnels i ≡ Some u) × (t.control.peer ≡ u.control.peer) × (t.control.remote ≡ u.control.remote))
      → EndOk w h n x
  with_tunnels live from = record {
    node = ok.node;
    number = ap (λ (c : Config). c.number) goes.config ∙ ok.number;
    lns = λ lac. (let l = ok.lns (sym goes.role ∙ lac) in (l.0, l.1, ap (λ (c : Config). c.lns) goes.config ∙ l.2));
    ids = record {
      tunnels = λ i made. (let lt = ok.ids.tunnels i made in let le = goes.ids in omega (arith, lt, le));
      attempts = λ a is. (let lt = ok.ids.attempts a is in let le = goes.ids in omega (arith, lt, le));
      answers = λ c is. (let lt = ok.ids.answers c is in let le = goes.ids in omega (arith, lt, le));
      no_attempt = ok.ids.no_attempt;
      no_answer = ok.ids.no_answer;
      one = ok.ids.one;
    };
    live = live;
    apart = λ i j t u at_i at_j peers remotes some.
        (let a = from i t at_i in let b = from j u at_j in
        ok.apart i j a.0 b.0 a.1 b.1 (sym a.2 ∙ (peers ∙ b.2)) (sym a.3 ∙ (remotes ∙ b.3)) (λ z. some (a.3 ∙ z)));
  }

  -- a tunnel takes the place of the one with its id
  put_ok : (j : ℕ) (t u : Tunnel) → at e.tunnels j ≡ Some t → x.tunnels ≡ put e.tunnels j u → u.control.peer ≡ t.control.peer → u.control.remote ≡ t.control.remote
      → LiveOk w h n j u → EndOk w h n x
  put_ok j t u was is peer remote live_u = with_tunnels live from
    where
      live : (i : ℕ) (q : Tunnel) → at x.tunnels i ≡ Some q → LiveOk w h n i q
      live i q at_i = ⊎_elim
          (λ (same : i ≡ j).
          let one : Some u ≡ Some q = sym (at_new e.tunnels j u) ∙ (subst (λ k. at (put e.tunnels j u) k ≡ Some q) same (ap (λ l. at l i) (sym is) ∙ at_i)) in
          let both : u ≡ q = cc in subst (λ k. LiveOk w h n k q) (sym same) (subst (LiveOk w h n j) both live_u))
          (λ (o : i ≡ j → ⊥). ok.live i q (sym (at_other e.tunnels j u i o) ∙ (ap (λ l. at l i) (sym is) ∙ at_i)))
          (same_or_not i j)

      from : (i : ℕ) (q : Tunnel) → at x.tunnels i ≡ Some q → (r : Tunnel) × (at e.tunnels i ≡ Some r) × (q.control.peer ≡ r.control.peer) × (q.control.remote ≡ r.control.remote)
      from i q at_i = ⊎_elim
          (λ (same : i ≡ j).
          let one : Some u ≡ Some q = sym (at_new e.tunnels j u) ∙ (subst (λ k. at (put e.tunnels j u) k ≡ Some q) same (ap (λ l. at l i) (sym is) ∙ at_i)) in
          let both : u ≡ q = cc in
          (t, subst (λ k. at e.tunnels k ≡ Some t) (sym same) was, ap (λ (k : Tunnel). k.control.peer) (sym both) ∙ peer, ap (λ (k : Tunnel). k.control.remote) (sym both) ∙ remote))
          (λ (o : i ≡ j → ⊥). (q, sym (at_other e.tunnels j u i o) ∙ (ap (λ l. at l i) (sym is) ∙ at_i), refl, refl))
          (same_or_not i j)

  -- a tunnel is taken out
  without_ok : (j : ℕ) → Ascends e.tunnels → x.tunnels ≡ without e.tunnels j → EndOk w h n x
  without_ok j order is = with_tunnels
      (λ i q at_i. ok.live i q (found_without e.tunnels j i q order (ap (λ l. at l i) (sym is) ∙ at_i)).1)
      (λ i q at_i. (q, (found_without e.tunnels j i q order (ap (λ l. at l i) (sym is) ∙ at_i)).1, refl, refl))

-- ---- tunnels

-- where a tunnel stands, with other calls
state_as : (accs : Accounts) (i e : ℕ) (a : Account) (t u : Tunnel) (k : Part) → u.control.state ≡ t.control.state → (AllWait t.calls → AllWait u.calls)
    → (t.calls ≡ [] → u.calls ≡ []) → IsInState accs i e a t k → IsInState accs i e a u k
state_as accs i e a t u Unmade state waits none is = is
state_as accs i e a t u Opener state waits none is = ⊎_elim
    (λ (q : (state_number t.control.state ≡ 1) × (a.remote ≡ 0) × IsOpen a × AllWait t.calls). inl (ap state_number state ∙ q.0, q.1, q.2, waits q.3))
    (λ k. ⊎_elim
    (λ (q : (state_number t.control.state ≡ 3) × (a.remote ≡ 0 → ⊥) × IsOpen a). inr (inl (ap state_number state ∙ q.0, q.1, q.2)))
    (λ (q : IsShut a t). inr (inr (ap state_number state ∙ q.0, q.1, none q.2))) k)
    is
state_as accs i e a t u Acceptor state waits none is = ⊎_elim
    (λ (q : (state_number t.control.state ≡ 2) × (t.calls ≡ []) × IsOpen a). inl (ap state_number state ∙ q.0, none q.1, q.2))
    (λ k. ⊎_elim
    (λ (q : (state_number t.control.state ≡ 3) × ((partner_in accs 0 a).remote ≡ i) × IsOpen a). inr (inl (ap state_number state ∙ q.0, q.1, q.2)))
    (λ (q : IsShut a t). inr (inr (ap state_number state ∙ q.0, q.1, none q.2))) k)
    is
state_as accs i e a t u Renewed state waits none is = ⊎_elim
    (λ (q : (state_number t.control.state ≡ 3) × IsOpen a). inl (ap state_number state ∙ q.0, q.1))
    (λ (q : IsShut a t). inr (ap state_number state ∙ q.0, q.1, none q.2))
    is

-- the same tunnel, but for its calls, for its recovery tunnel and for the moment at which it heard something
record IsAs (t u : Tunnel) : Type 0 where
  local : u.control.local ≡ t.control.local
  peer : u.control.peer ≡ t.control.peer
  remote : u.control.remote ≡ t.control.remote
  state : u.control.state ≡ t.control.state
  -- of its channel what the letters and counts say
  acked : u.control.channel.window.acked ≡ t.control.channel.window.acked
  queued : u.control.channel.window.queued ≡ t.control.channel.window.queued
  outstanding : t.control.channel.window.outstanding ≤ t.control.channel.window.queued → u.control.channel.window.outstanding ≤ u.control.channel.window.queued
  taken : u.control.channel.inbox.taken ≡ t.control.channel.inbox.taken
  letters : u.letters ≡ t.letters
  waits : AllWait t.calls → AllWait u.calls
  none : t.calls ≡ [] → u.calls ≡ []
  query : u.query ≡ t.query

channel_as : (accs : Accounts) (n i e : ℕ) (a : Account) (t u : Tunnel) → IsAs t u → ChannelOk accs n i e a t → ChannelOk accs n i e a u
channel_as accs n i e a t u s c = record {
  peer = s.peer ∙ c.peer;
  remote = s.remote ∙ c.remote;
  state = state_as accs i e a t u a.part s.state s.waits s.none c.state;
  acked = c.acked;
  acked_is = s.acked ∙ c.acked_is;
  letters = s.letters ∙ c.letters;
  counted = (let q = s.queued in let sum = c.counted in omega (arith, q, sum));
  few = (let q = s.queued in let le = c.few in omega (arith, q, le));
  outstanding = s.outstanding c.outstanding;
  taken = s.taken ∙ c.taken;
  were_acked = c.were_acked;
}

module _ (w : World) (h : History) (n i : ℕ) (t u : Tunnel) (live : LiveOk w h n i t) (s : IsAs t u) where
  live_as : is_current (mode_of u.recovery) ≡ is_current (mode_of t.recovery) → ((r : Recovering) → u.recovery ≡ Some r → IsRecovered w h n i r)
      → ((q : ℕ) (c : Call) → at u.calls q ≡ Some c → c.remote < 65536) → LiveOk w h n i u
  live_as mode recovered calls = record {
    local = s.local ∙ live.local;
    made = live.made;
    peer = s.peer ∙ live.peer;
    channel = λ current. channel_as h.accounts n i _ _ t u s (live.channel (sym mode ∙ current));
    kept = λ current. live.kept (sym mode ∙ current);
    established = λ inactive. ap state_number s.state ∙ live.established (sym mode ∙ inactive);
    some = λ inactive. (let lt = live.some (sym mode ∙ inactive) in let same = s.remote in omega (arith, lt, same));
    knows = λ inactive. subst (KnowsBy h.accounts n i) (sym s.remote) (live.knows (sym mode ∙ inactive));
    learned = λ inactive. live.learned (sym mode ∙ inactive);
    recovery = recovered;
    unattempted = λ early. live.unattempted (let e = ap state_number s.state in omega (arith, e, early));
    calls = calls;
    query = subst (QueryOk (epoch_of w n i)) (sym s.query) live.query;
  }

-- ---- recovery tunnels

-- one that goes on: its ids, its draw number and its reset stay, but for the id of the other end of an attempt that waits
module _ (w : World) (h : History) (n i : ℕ) (channel : Channel) (closed : Bool) (remote : ℕ) where
  abbrev gone_on : Recovering → Recovering
  gone_on r = with_connection (record (connection_of r) { channel = channel; closed = closed; remote = remote }) r

  same_mode : (r : Recovering) → mode_of (Some (gone_on r)) ≡ mode_of (Some r)
  same_mode (ByAttempt c) = refl
  same_mode (ByAnswer a) = refl

  waits_unreset : (c : ControlConnection) → is_waiting c ≡ true → is_some c.reset ≡ true → ⊥
  waits_unreset c waits reset = by c.reset waits reset
    where
      by : (o : Option ℕ) → is_none o && not c.closed ≡ true → is_some o ≡ true → ⊥
      by None waits reset = true≢false (sym reset)
      by (Some x) waits reset = true≢false (sym waits)

  goes_recovered : (ev : Event) (peer : ℕ) (r : Recovering) → (remote ≡ (connection_of r).remote) ⊎ LearnsOfReply ev peer r remote
      → (LearnsOfReply ev peer r remote → is_some (h.answers (h.accounts n i 0).peer remote) ≡ true) → IsRecovered w h n i r
      → IsRecovered w h n i (gone_on r)
  goes_recovered ev peer (ByAttempt c) learns replies (attempt, reset, named) = (
    attempt,
    λ is. ⊎_elim
        (λ (same : remote ≡ c.remote).
        subst (λ q. (f : Froze) × (h.answers (h.accounts n i 0).peer q ≡ Some f) × (f.remote ≡ i) × (f.attempt ≡ c.local) × (makes w (h.accounts n i 0).peer q ≤ epoch_of w n i) × (node_of f.peer ≡ n)) (sym same) (reset is))
        (λ (l : LearnsOfReply ev peer (ByAttempt c) remote).
        let one : ByAttempt c ≡ ByAttempt l.connection = l.is in
        let same : c ≡ l.connection = cc in
        absurd (waits_unreset l.connection l.waits (subst (λ (q : ControlConnection). is_some q.reset ≡ true) same is)))
        learns,
    ⊎_elim
        (λ (same : remote ≡ c.remote). subst (λ q. (q ≡ 0) ⊎ (is_some (h.answers (h.accounts n i 0).peer q) ≡ true)) (sym same) named)
        (λ l. inr (replies l))
        learns,
  )
  goes_recovered ev peer (ByAnswer a) learns replies k = ⊎_elim
      (λ (same : remote ≡ a.connection.remote). (k.0, k.1, k.2, k.3 ∙ sym same, k.4, k.5, k.6))
      (λ (l : LearnsOfReply ev peer (ByAnswer a) remote). let no : ByAnswer a ≡ ByAttempt l.connection = l.is in absurd cc)
      learns

-- one that has reset its tunnel doesn't freeze it any more
finished_current : (r : Recovering) → is_finished r ≡ true → is_current (mode_of (Some r)) ≡ true
finished_current r is = rw is refl

-- ---- moves

module _ (w : World) (h : History) (n : ℕ) (node : Node) (sender : Option Sender) (moment : ℕ) (ev : Event) (x : End) (d : Deed) where
  -- what the end after the move is to show
  by_end : (m : Move) → IsStill m → (k : IsMoved w h n node sender moment ev m x d) → moved n (with_end w n node x) m ≡ with_end w n node x → EndOk w h n x
      → Holds (moves_on w n node m x) (after h d)
  by_end m still k same ok =
      subst (λ v. Holds v (after h d)) (sym same)
      (subst (Holds (with_end w n node x)) (sym (same_history h d (nothing_by d m still k.deed.move_is))) (end_holds w h n node k.there k.holds x ok))

  module _ (m : Move) (k : IsMoved w h n node sender moment ev m x d) where
    ok : EndOk w h n node.end
    ok = (node_ok w h n node k.there k.holds).0

    -- the end is as it was
    same_end : x ≡ node.end → EndOk w h n x
    same_end is = subst (EndOk w h n) (sym is) ok

    -- a tunnel takes the place of one that it is like
    put_end : (j : ℕ) (t u : Tunnel) (y : End) → at node.end.tunnels j ≡ Some t → x ≡ y → y.tunnels ≡ put node.end.tunnels j u → GoesFrom node.end y → IsAs t u
        → is_current (mode_of u.recovery) ≡ is_current (mode_of t.recovery) → (LiveOk w h n j t → (r : Recovering) → u.recovery ≡ Some r → IsRecovered w h n j r)
        → (LiveOk w h n j t → (q : ℕ) (c : Call) → at u.calls q ≡ Some c → c.remote < 65536) → EndOk w h n x
    put_end j t u y there is tunnels goes as_it mode recovered calls =
        let live = ok.live j t there in
        subst (EndOk w h n) (sym is) (put_ok w h n node.end y ok goes j t u there tunnels as_it.peer as_it.remote (live_as w h n j t u live as_it mode (recovered live) (calls live)))

-- the calls of a tunnel in which one isn't there any more
fewer_wait : (calls : List (ℕ × Call)) (s : ℕ) → Ascends calls → AllWait calls → AllWait (without calls s)
fewer_wait calls s order wait q c there = wait q c (found_without calls s q c order there).1

fewer_none : (calls : List (ℕ × Call)) (s : ℕ) (c : Call) → at calls s ≡ Some c → calls ≡ [] → without calls s ≡ []
fewer_none calls s c there none = absurd (none-some c (sym (at-none s) ∙ (ap (λ q. at q s) (sym none) ∙ there)))

-- one that is up doesn't wait
up_waits : (calls : List (ℕ × Call)) (s : ℕ) (c new : Call) → at calls s ≡ Some c → is_up c.state ≡ true → AllWait calls → AllWait (put calls s new)
up_waits calls s c new there up wait = let no : is_up WaitTunnel ≡ true = subst (λ (q : CallState). is_up q ≡ true) (wait s c there) up in absurd cc

up_none : (calls : List (ℕ × Call)) (s : ℕ) (c new : Call) → at calls s ≡ Some c → calls ≡ [] → put calls s new ≡ []
up_none calls s c new there none = absurd (none-some c (sym (at-none s) ∙ (ap (λ q. at q s) (sym none) ∙ there)))

-- ids of the other end's calls, where one is put
put_fits : (calls : List (ℕ × Call)) (s : ℕ) (c new : Call) → at calls s ≡ Some c → new.remote ≡ c.remote → ((q : ℕ) (k : Call) → at calls q ≡ Some k → k.remote < 65536)
    → (q : ℕ) (k : Call) → at (put calls s new) q ≡ Some k → k.remote < 65536
put_fits calls s c new there same fits q k at_q = ⊎_elim
    (λ (e : q ≡ s).
    let one : Some new ≡ Some k = sym (at_new calls s new) ∙ subst (λ j. at (put calls s new) j ≡ Some k) e at_q in
    let both : new ≡ k = cc in
    let lt = fits s c there in
    let r = ap (λ (j : Call). j.remote) both in omega (arith, lt, same, r))
    (λ (o : q ≡ s → ⊥). fits q k (sym (at_other calls s new q o) ∙ at_q))
    (same_or_not q s)

-- in a tunnel a call that is up takes the place of the one with its session
module _ (w : World) (h : History) (n : ℕ) (e x : End) (ok : EndOk w h n e) (config : x.config ≡ e.config) (role : x.role ≡ e.role)
    (ids : x.tunnel_ids ≡ e.tunnel_ids) where
  pub call_end : (j s : ℕ) (t : Tunnel) (c new : Call) → at e.tunnels j ≡ Some t → at t.calls s ≡ Some c → is_up c.state ≡ true
      → new.remote ≡ c.remote
      → x.tunnels ≡ put e.tunnels j (record t { calls = put t.calls s new }) → EndOk w h n x
  call_end j s t c new there is up same tunnels =
      let u = record t { calls = put t.calls s new } in
      let live = ok.live j t there in
      let goes : GoesFrom e x = record {
        config = config;
        role = role;
        ids = (let next = ap (λ (q : Space). q.next) ids in omega (arith, next));
      } in
      put_ok w h n e x ok goes j t u there tunnels refl refl
      (live_as w h n j t u live
      (record {
        local = refl;
        peer = refl;
        remote = refl;
        state = refl;
        acked = refl;
        queued = refl;
        outstanding = λ le. le;
        taken = refl;
        letters = refl;
        waits = up_waits t.calls s c new is up;
        none = up_none t.calls s c new is;
        query = refl;
      })
      refl live.recovery (put_fits t.calls s c new is same live.calls))

-- a window of which a letter goes, once or again: what is acknowledged and queued stays
record WindowOnly (c k : Numbers) : Type 0 where
  acked : k.window.acked ≡ c.window.acked
  queued : k.window.queued ≡ c.window.queued
  outstanding : k.window.outstanding ≤ k.window.queued
  taken : k.inbox.taken ≡ c.inbox.taken

let_go_only : (c : Numbers) (moment : ℕ) → c.window.outstanding ≤ c.window.queued → WindowOnly c (let_go_at c moment)
let_go_only c moment le = by c.frozen (may_go c.window) refl
  where
    by : (f g : Bool) → may_go c.window ≡ g
        → WindowOnly c (if f then c else record c {
          window = (if g then record c.window {
            outstanding = c.window.outstanding + 1;
            since = if c.window.outstanding == 0 then moment else c.window.since;
            repetitions = if c.window.outstanding == 0 then 0 else c.window.repetitions;
          } else c.window);
        })
    by true g is = record { acked = refl; queued = refl; outstanding = le; taken = refl }
    by false true is = record { acked = refl; queued = refl; outstanding = grind (arith, nat_tests); taken = refl }
    by false false is = record { acked = refl; queued = refl; outstanding = le; taken = refl }

ticked_only : (c : Numbers) (moment : ℕ) → c.window.outstanding ≤ c.window.queued → WindowOnly c (ticked_at c moment)
ticked_only c moment le = by c.frozen (due_at c.window moment && nat_lt c.window.repetitions 5)
  where
    by : (f g : Bool) → WindowOnly c (if f then c else record c {
      window = (if g then record c.window {
        congestion = halved c.window.congestion;
        since = moment;
        repetitions = c.window.repetitions + 1;
      } else c.window);
    })
    by true g = record { acked = refl; queued = refl; outstanding = le; taken = refl }
    by false true = record { acked = refl; queued = refl; outstanding = le; taken = refl }
    by false false = record { acked = refl; queued = refl; outstanding = le; taken = refl }

-- a tunnel of whose channel a letter goes
window_as : (t : Tunnel) (c : Numbers) → (t.control.channel.window.outstanding ≤ t.control.channel.window.queued → WindowOnly t.control.channel c)
    → t.control.channel.window.outstanding ≤ t.control.channel.window.queued → IsAs t (record t { control = record t.control { channel = c } })
window_as t c only le =
    let o = only le in
    record {
      local = refl;
      peer = refl;
      remote = refl;
      state = refl;
      acked = o.acked;
      queued = o.queued;
      outstanding = λ less. (only less).outstanding;
      taken = o.taken;
      letters = refl;
      waits = λ q. q;
      none = λ q. q;
      query = refl;
    }

pub still_moves_keep : Codecs → WrittenIsRead → WrittenHasRoom → StillMovesKeep
unfolding moved
still_moves_keep codecs again room (move.Quiet i) still w h n node sender moment ev x d k =
    by_end w h n node sender moment ev x d (move.Quiet i) still k refl (same_end w h n node sender moment ev x d (move.Quiet i) k k.does.after)
still_moves_keep codecs again room (move.FrameSent m) still w h n node sender moment ev x d k =
    by_end w h n node sender moment ev x d (move.FrameSent m) still k refl (same_end w h n node sender moment ev x d (move.FrameSent m) k k.does.after)
still_moves_keep codecs again room (move.FrameUp m) still w h n node sender moment ev x d k =
    by_end w h n node sender moment ev x d (move.FrameUp m) still k refl (same_end w h n node sender moment ev x d (move.FrameUp m) k k.does.after)
still_moves_keep codecs again room (move.Forgot m) still w h n node sender moment ev x d k =
    by_end w h n node sender moment ev x d (move.Forgot m) still k refl (same_end w h n node sender moment ev x d (move.Forgot m) k k.does.after)
still_moves_keep codecs again room (move.Cleared i booked) still w h n node sender moment ev x d k =
    let c = k.does in
    by_end w h n node sender moment ev x d (move.Cleared i booked) still k refl
    (subst (EndOk w h n) (sym c.after)
    (without_ok w h n node.end _ (ok w h n node sender moment ev x d (move.Cleared i booked) k) (record { config = refl; role = refl; ids = omega arith }) i k.fit.tables.order refl))
still_moves_keep codecs again room (move.Ignored i) still w h n node sender moment ev x d k =
    let c = k.does in
    by_end w h n node sender moment ev x d (move.Ignored i) still k refl
    (put_end w h n node sender moment ev x d (move.Ignored i) k i c.tunnel _ _ c.there c.after refl (record { config = refl; role = refl; ids = omega arith })
    (record {
      local = refl;
      peer = refl;
      remote = refl;
      state = refl;
      acked = refl;
      queued = refl;
      outstanding = λ le. le;
      taken = refl;
      letters = refl;
      waits = λ q. q;
      none = λ q. q;
      query = refl;
    }) refl
    (λ live r is. live.recovery r is) (λ live q call is. live.calls q call is))
still_moves_keep codecs again room (move.RecoveryEnded i) still w h n node sender moment ev x d k =
    let c = k.does in
    by_end w h n node sender moment ev x d (move.RecoveryEnded i) still k refl
    (put_end w h n node sender moment ev x d (move.RecoveryEnded i) k i c.tunnel (record c.tunnel { recovery = None }) _ c.there c.after refl
    (record { config = refl; role = refl; ids = omega arith })
    (record {
      local = refl;
      peer = refl;
      remote = refl;
      state = refl;
      acked = refl;
      queued = refl;
      outstanding = λ le. le;
      taken = refl;
      letters = refl;
      waits = λ q. q;
      none = λ q. q;
      query = refl;
    })
    (sym (ap (λ r. is_current (mode_of r)) c.has ∙ finished_current c.old c.finished))
    (λ live r is. absurd cc) (λ live q call is. live.calls q call is))
still_moves_keep codecs again room (move.RecoveryWentOn i) still w h n node sender moment ev x d k =
    let c = k.does in
    let new = gone_on w h n i c.channel c.closed c.remote c.old in
    by_end w h n node sender moment ev x d (move.RecoveryWentOn i) still k refl
    (put_end w h n node sender moment ev x d (move.RecoveryWentOn i) k i c.tunnel (record c.tunnel { recovery = Some new }) _ c.there c.after refl
    (record { config = refl; role = refl; ids = omega arith })
    (record {
      local = refl;
      peer = refl;
      remote = refl;
      state = refl;
      acked = refl;
      queued = refl;
      outstanding = λ le. le;
      taken = refl;
      letters = refl;
      waits = λ q. q;
      none = λ q. q;
      query = refl;
    })
    (ap is_current (same_mode w h n i c.channel c.closed c.remote c.old) ∙ sym (ap (λ r. is_current (mode_of r)) c.has))
    (λ live r is. (let one : Some new ≡ Some r = is in let same : new ≡ r = cc in
    subst (IsRecovered w h n i) same (goes_recovered w h n i c.channel c.closed c.remote ev c.tunnel.control.peer c.old c.learns
    (learned_answer codecs again room w h n node sender moment ev i x d k) (live.recovery c.old c.has))))
    (λ live q call is. live.calls q call is))
still_moves_keep codecs again room (move.LetGo m) still w h n node sender moment ev x d k =
    let c = k.does in
    let numbers = let_go_at c.tunnel.control.channel moment in
    by_end w h n node sender moment ev x d (move.LetGo m) still k refl
    (put_end w h n node sender moment ev x d (move.LetGo m) k m.tunnel c.tunnel (record c.tunnel { control = record c.tunnel.control { channel = numbers } }) _ c.there c.after refl
    (record { config = refl; role = refl; ids = omega arith })
    (window_as c.tunnel numbers (let_go_only c.tunnel.control.channel moment) (((ok w h n node sender moment ev x d (move.LetGo m) k).live m.tunnel c.tunnel c.there).channel c.current).outstanding) refl
    (λ live r is. live.recovery r is) (λ live q call is. live.calls q call is))
still_moves_keep codecs again room (move.Repeated m) still w h n node sender moment ev x d k =
    let c = k.does in
    let numbers = ticked_at c.tunnel.control.channel moment in
    by_end w h n node sender moment ev x d (move.Repeated m) still k refl
    (put_end w h n node sender moment ev x d (move.Repeated m) k m.tunnel c.tunnel (record c.tunnel { control = record c.tunnel.control { channel = numbers } }) _ c.there c.after refl
    (record { config = refl; role = refl; ids = omega arith })
    (window_as c.tunnel numbers (ticked_only c.tunnel.control.channel moment) (((ok w h n node sender moment ev x d (move.Repeated m) k).live m.tunnel c.tunnel c.there).channel c.current).outstanding) refl
    (λ live r is. live.recovery r is) (λ live q call is. live.calls q call is))
still_moves_keep codecs again room (move.Negotiated m) still w h n node sender moment ev x d k =
    let c = k.does in
    by_end w h n node sender moment ev x d (move.Negotiated m) still k refl
    (subst (EndOk w h n) (sym c.after)
    (call_end w h n node.end _
    (ok w h n node sender moment ev x d (move.Negotiated m) k) refl refl refl m.tunnel m.session c.tunnel c.call
    (with_link (turn_at c.calls.by c.calls.link).link c.call)
    c.there c.live c.up refl refl))
still_moves_keep codecs again room (move.Counted m) still w h n node sender moment ev x d k =
    let c = k.does in
    by_end w h n node sender moment ev x d (move.Counted m) still k refl
    (subst (EndOk w h n) (sym c.after)
    (call_end w h n node.end _ (ok w h n node sender moment ev x d (move.Counted m) k) refl refl refl m.tunnel m.session c.tunnel c.call
    (counted c.call) c.there c.live c.up refl refl))
still_moves_keep codecs again room (move.EndSilent m) still w h n node sender moment ev x d k =
    let c = k.does in
    let order = (k.fit.tables.tunnels m.tunnel c.tunnel c.there).order in
    by_end w h n node sender moment ev x d (move.EndSilent m) still k refl
    (put_end w h n node sender moment ev x d (move.EndSilent m) k m.tunnel c.tunnel (record c.tunnel { calls = without c.tunnel.calls m.session }) _ c.there c.after refl
    (record { config = refl; role = refl; ids = omega arith })
    (record {
      local = refl;
      peer = refl;
      remote = refl;
      state = refl;
      acked = refl;
      queued = refl;
      outstanding = λ le. le;
      taken = refl;
      letters = refl;
      waits = fewer_wait c.tunnel.calls m.session order;
      none = fewer_none c.tunnel.calls m.session c.call c.live;
      query = refl;
    }) refl
    (λ live r is. live.recovery r is) (λ live q call is. live.calls q call (found_without c.tunnel.calls m.session q call order is).1))
still_moves_keep codecs again room m still w h n node sender moment ev x d k = absurd still
