-- What a move makes of the numbers of a tunnel that is neither frozen nor restored: of the first letter that isn't acknowledged, and of the one
-- that comes next.
use Rattle.std.proofs.Common.{◌≡◌, ⊎_elim, ℕ, ◌+◌, ◌%◌, ◌^◌, ◌<◌, ◌≤◌, Bool, true, false, cond, List, length, refl, sym, ap, ◌∙◌, subst, Option, Some, arith}
use Rattle.std.proofs.lemmas.Bool.{true≢false}
use Rattle.std.specs.Prelude.{◌&&◌, nat_lt}
use Rattle.id_table.specs.Ids.{at, put, without}
use Rattle.id_table.specs.Order.{Ascends, found_put, found_without}
use Rattle.tunnel_fsm.specs.Rows.{state_number}
use Rattle.tunnel_fsm.specs.declared.table.TunnelEvent.{TunnelEvent}
use Rattle.tunnel_fsm.specs.declared.table.TunnelState.TheVariants.{WaitCtlConn, Established}
use Rattle.send_window.specs.Kept.{Window}
use Rattle.send_window.specs.Window.{may_go, due_at}
use Rattle.recv_window.specs.Window.{Inbox}
use Rattle.control_channel.specs.Numbers.{Numbers, acked_at, let_go_at, ticked_at}
use Rattle.end_model.specs.declared.event.Event.{Event}
use Rattle.end_model.specs.declared.moves.Closed.{Closed}
use Rattle.end_model.specs.declared.moves.Move.{Move}
use Rattle.end_model.specs.declared.moves.Move.TheVariants as move
use Rattle.end_model.specs.Messages.{flags_of}
use Rattle.end_model.specs.Tunnels.{Tunnel, Recovering, ByAttempt, ByAnswer, is_finished, mode_of, is_current}
use Rattle.end_model.specs.End.{End}
use Rattle.step_laws.specs.Arrivals.{Came, IsNext, TellsNr}
use Rattle.step_laws.specs.Moves.{Does, WhyCloses, ByOperator, ByLetter, begun}
use Rattle.step_laws.specs.Steps.{IsOfNoStart}
use Rattle.step_laws.specs.Ups.{reads_of_move}
use Rattle.connection_laws.proofs.Connecting.{learnt}
use Rattle.channel_laws.specs.Accounts.{about}
use Rattle.channel_laws.proofs.Inactive.{IsReset, same_mode}
use Rattle.channel_laws.proofs.Waiting.{waits_inactive}

abbrev pub IsActive : Tunnel → Type 0
IsActive t = is_current (mode_of t.recovery) ≡ true

abbrev pub taken_of : Tunnel → ℕ
taken_of t = t.control.channel.inbox.taken

abbrev pub acked_of : Tunnel → ℕ
acked_of t = t.control.channel.window.acked

-- a tunnel under the same name of the same node; and one that isn't established wasn't before
pub record GoesTo (t u : Tunnel) : Type 0 where
  pub local : u.control.local ≡ t.control.local
  pub peer : u.control.peer ≡ t.control.peer
  pub early : state_number u.control.state < 3 → state_number t.control.state < 3

-- and of the same other end, with the same numbers
pub record SameCounts (t u : Tunnel) : Type 0 where
  pub goes : GoesTo t u
  pub remote : u.control.remote ≡ t.control.remote
  pub taken : taken_of u ≡ taken_of t
  pub acked : acked_of u ≡ acked_of t

-- a move that makes a tunnel
abbrev pub IsFirst : Move → Type 0
IsFirst (move.Opened m) = Unit {0}
IsFirst (move.Accepted m) = Unit {0}
IsFirst m = ⊥

-- of a tunnel that is active then
pub data Counted (e : End) (moment : ℕ) (ev : Event) (m : Move) (j : ℕ) (u : Tunnel) : Type 0 where
  Stays : (t : Tunnel) → at e.tunnels j ≡ Some t → IsActive t → SameCounts t u → Counted e moment ev m j u
  Takes : (t : Tunnel) (k : Came) → at e.tunnels j ≡ Some t → IsActive t → IsNext ev t k → GoesTo t u → taken_of u ≤ taken_of t + 1 → acked_of u ≡ acked_of t
      → Counted e moment ev m j u
  Reads : (t : Tunnel) (nr : ℕ) → length (reads_of_move m) ≡ 1 → at e.tunnels j ≡ Some t → IsActive t → TellsNr ev t.control nr → GoesTo t u → u.control.remote ≡ t.control.remote
      → taken_of u ≡ taken_of t → acked_of u ≡ (acked_at t.control.channel nr moment).window.acked → Counted e moment ev m j u
  Begins : IsFirst m → about m ≡ j → taken_of u ≤ 1 → acked_of u ≡ 0 → Counted e moment ev m j u
  Resets : (t : Tunnel) → IsReset m → about m ≡ j → at e.tunnels j ≡ Some t → is_current (mode_of t.recovery) ≡ false → u.control.state ≡ t.control.state
      → acked_of u ≤ 65535 → Counted e moment ev m j u

same_counts : (t : Tunnel) → SameCounts t t
same_counts t = record { goes = record { local = refl; peer = refl; early = λ lt. lt }; remote = refl; taken = refl; acked = refl }

goes_on : (t u : Tunnel) → u.control.local ≡ t.control.local → u.control.peer ≡ t.control.peer → u.control.state ≡ t.control.state → GoesTo t u
goes_on t u local peer state =
    record { local = local; peer = peer; early = λ lt. subst (λ s. state_number s < 3) state lt }

tunnels_are : (x y : End) → x ≡ y → x.tunnels ≡ y.tunnels
tunnels_are x y same = ap (λ (e : End). e.tunnels) same

-- by cases on a test
pub by_test : {X : Type 0} (P : X → Type 0) (b : Bool) (x y : X) → P x → P y → P (cond b x y)
by_test P true x y p q = p
by_test P false x y p q = q

-- a letter that goes, once or again, changes no number
go_acked : (c : Numbers) (moment : ℕ) → (let_go_at c moment).window.acked ≡ c.window.acked
go_acked c moment = by_test (λ (x : Numbers). x.window.acked ≡ c.window.acked) c.frozen c _ refl
    (by_test (λ (x : Window). x.acked ≡ c.window.acked) (may_go c.window) _ c.window refl refl)

go_inbox : (c : Numbers) (moment : ℕ) → (let_go_at c moment).inbox ≡ c.inbox
go_inbox c moment = by_test (λ (x : Numbers). x.inbox ≡ c.inbox) c.frozen c _ refl refl

tick_acked : (c : Numbers) (moment : ℕ) → (ticked_at c moment).window.acked ≡ c.window.acked
tick_acked c moment = by_test (λ (x : Numbers). x.window.acked ≡ c.window.acked) c.frozen c _ refl
    (by_test (λ (x : Window). x.acked ≡ c.window.acked) (due_at c.window moment && nat_lt c.window.repetitions 5) _ c.window refl refl)

tick_inbox : (c : Numbers) (moment : ℕ) → (ticked_at c moment).inbox ≡ c.inbox
tick_inbox c moment = by_test (λ (x : Numbers). x.inbox ≡ c.inbox) c.frozen c _ refl refl

-- one more is taken
one_more : (taken : ℕ) → (taken + 1) % 2 ^ 64 ≤ taken + 1
one_more taken = omega arith

-- why a tunnel is closed, it knows the other end that it knew
closed_remote : (secret : Option (List ℕ)) (t : Tunnel) (ev : Event) (on : TunnelEvent) (m : Closed) → WhyCloses secret t ev on m → m.remote ≡ t.control.remote
closed_remote secret t ev on m (ByOperator is row remote result error) = remote
closed_remote secret t ev on m (ByLetter told k next may why state remote) = remote

module _ (e x : End) (moment : ℕ) (ev : Event) (m : Move) (j : ℕ) (u : Tunnel) (there : at x.tunnels j ≡ Some u) (active : IsActive u) where
  abbrev Is : Type 0
  Is = Counted e moment ev m j u

  -- no tunnel changes
  nothing_put : x.tunnels ≡ e.tunnels → Is
  nothing_put same = Stays u (ap (λ l. at l j) (sym same) ∙ there) active (same_counts u)

  -- one is put
  is_put : (k : ℕ) (v : Tunnel) → x.tunnels ≡ put e.tunnels k v → (j ≡ k → v ≡ u → Is) → Is
  is_put k v puts here = ⊎_elim
      (λ (q : (j ≡ k) × (v ≡ u)). here q.0 q.1)
      (λ (q : (j ≡ k → ⊥) × (at e.tunnels j ≡ Some u)). Stays u q.1 active (same_counts u))
      (found_put e.tunnels k v j u (ap (λ l. at l j) (sym puts) ∙ there))

  abbrev from : (k : ℕ) (t : Tunnel) → at e.tunnels k ≡ Some t → j ≡ k → at e.tunnels j ≡ Some t
  from k t was same = ap (at e.tunnels) same ∙ was

  -- with the same counts
  put_stays : (k : ℕ) (t v : Tunnel) → at e.tunnels k ≡ Some t → x.tunnels ≡ put e.tunnels k v → (IsActive v → IsActive t) → SameCounts t v → Is
  put_stays k t v was puts modes same = is_put k v puts
      (λ here is. Stays t (from k t was here) (modes (subst IsActive (sym is) active)) (subst (SameCounts t) is same))

  -- as it takes a letter
  put_takes : (k : ℕ) (t v : Tunnel) → at e.tunnels k ≡ Some t → x.tunnels ≡ put e.tunnels k v → IsActive t → (c : Came) → IsNext ev t c → GoesTo t v
      → taken_of v ≤ taken_of t + 1 → acked_of v ≡ acked_of t → Is
  put_takes k t v was puts current c next goes taken acked = is_put k v puts
      (λ here is. Takes t c (from k t was here) current next (subst (GoesTo t) is goes) (subst (λ y. taken_of y ≤ taken_of t + 1) is taken) (subst (λ y. acked_of y ≡ acked_of t) is acked))

  put_reads : (k : ℕ) (t v : Tunnel) (nr : ℕ) → length (reads_of_move m) ≡ 1 → at e.tunnels k ≡ Some t → x.tunnels ≡ put e.tunnels k v → IsActive t → TellsNr ev t.control nr → GoesTo t v
      → v.control.remote ≡ t.control.remote → taken_of v ≡ taken_of t → acked_of v ≡ (acked_at t.control.channel nr moment).window.acked → Is
  put_reads k t v nr one was puts current tells goes remote taken acked = is_put k v puts
      (λ here is. Reads t nr one (from k t was here) current tells (subst (GoesTo t) is goes) (subst (λ (y : Tunnel). y.control.remote ≡ t.control.remote) is remote)
      (subst (λ y. taken_of y ≡ taken_of t) is taken) (subst (λ y. acked_of y ≡ (acked_at t.control.channel nr moment).window.acked) is acked))

  put_begins : (k : ℕ) (v : Tunnel) → x.tunnels ≡ put e.tunnels k v → IsFirst m → about m ≡ k → taken_of v ≤ 1 → acked_of v ≡ 0 → Is
  put_begins k v puts first it taken acked = is_put k v puts
      (λ here is. Begins first (it ∙ sym here) (subst (λ y. taken_of y ≤ 1) is taken) (subst (λ y. acked_of y ≡ 0) is acked))

  put_resets : (k : ℕ) (t v : Tunnel) → at e.tunnels k ≡ Some t → x.tunnels ≡ put e.tunnels k v → IsReset m → about m ≡ k → is_current (mode_of t.recovery) ≡ false
      → v.control.state ≡ t.control.state → acked_of v ≤ 65535 → Is
  put_resets k t v was puts reset it inactive state acked = is_put k v puts
      (λ here is. Resets t reset (it ∙ sym here) (from k t was here) inactive (subst (λ (y : Tunnel). y.control.state ≡ t.control.state) is state) (subst (λ y. acked_of y ≤ 65535) is acked))

  removed : (k : ℕ) → Ascends e.tunnels → x.tunnels ≡ without e.tunnels k → Is
  removed k order is = Stays u (found_without e.tunnels k j u order (ap (λ l. at l j) (sym is) ∙ there)).1 active (same_counts u)

-- one that has reset its tunnel doesn't freeze it any more
finished_on : (r : Recovering) → is_finished r ≡ true → is_current (mode_of (Some r)) ≡ true
finished_on r is = rw is refl

-- ---- each move

pub does_count : (e x : End) (moment : ℕ) (ev : Event) (m : Move) → IsOfNoStart m → Ascends e.tunnels → Does e moment ev m x → (j : ℕ) (u : Tunnel) → at x.tunnels j ≡ Some u
    → IsActive u → Counted e moment ev m j u
does_count e x moment ev (move.Opened m) start order h j u there active =
    put_begins e x moment ev (move.Opened m) j u there active m.tunnel _ (tunnels_are x _ h.after) tt refl (omega arith) refl
does_count e x moment ev (move.Accepted m) start order h j u there active =
    let l = learnt m.window (record (begun m.tunnel m.peer m.remote WaitCtlConn moment m.challenge) { flags = flags_of h.opening.failover }) in
    let taken = l.taken in
    put_begins e x moment ev (move.Accepted m) j u there active m.tunnel _ (tunnels_are x _ h.after) tt refl (omega (arith, taken)) l.acked
does_count e x moment ev (move.Connected m) start order h j u there active =
    let l = learnt m.window (record h.tunnel.control { remote = m.remote; flags = m.flags; state = Established }) in
    let taken = l.taken in
    put_takes e x moment ev (move.Connected m) j u there active m.tunnel h.tunnel _ h.there (tunnels_are x _ h.after) h.current h.letter h.takes.next
    (record { local = l.local; peer = l.peer; early = λ lt. (let three = ap state_number l.state in absurd (omega (arith, three, lt))) }) (omega (arith, taken)) l.acked
does_count e x moment ev (move.Confirmed m) start order h j u there active =
    put_takes e x moment ev (move.Confirmed m) j u there active m.tunnel h.tunnel _ h.there (tunnels_are x _ h.after) h.current h.letter h.takes.next
    (record { local = refl; peer = refl; early = λ lt. absurd (omega (arith, lt)) }) (one_more (taken_of h.tunnel)) refl
does_count e x moment ev (move.Added m) start order h j u there active =
    put_stays e x moment ev (move.Added m) j u there active m.tunnel h.tunnel _ h.there (tunnels_are x _ h.after) (λ on. on) (record { goes = goes_on h.tunnel _ refl refl refl; remote = refl; taken = refl; acked = refl })
does_count e x moment ev (move.Requested m) start order h j u there active =
    put_stays e x moment ev (move.Requested m) j u there active m.tunnel h.tunnel _ h.there (tunnels_are x _ h.after) (λ on. on) (record { goes = goes_on h.tunnel _ refl refl refl; remote = refl; taken = refl; acked = refl })
does_count e x moment ev (move.EndTold m) start order h j u there active =
    put_stays e x moment ev (move.EndTold m) j u there active m.tunnel h.tunnel _ h.there (tunnels_are x _ h.after) (λ on. on) (record { goes = goes_on h.tunnel _ refl refl refl; remote = refl; taken = refl; acked = refl })
does_count e x moment ev (move.EndSilent m) start order h j u there active =
    put_stays e x moment ev (move.EndSilent m) j u there active m.tunnel h.tunnel _ h.there (tunnels_are x _ h.after) (λ on. on) (record { goes = goes_on h.tunnel _ refl refl refl; remote = refl; taken = refl; acked = refl })
does_count e x moment ev (move.Greeted m) start order h j u there active =
    put_stays e x moment ev (move.Greeted m) j u there active m.tunnel h.tunnel _ h.there (tunnels_are x _ h.after) (λ on. on) (record { goes = goes_on h.tunnel _ refl refl refl; remote = refl; taken = refl; acked = refl })
does_count e x moment ev (move.Negotiated m) start order h j u there active =
    put_stays e x moment ev (move.Negotiated m) j u there active m.tunnel h.tunnel _ h.there (tunnels_are x _ h.after) (λ on. on) (record { goes = goes_on h.tunnel _ refl refl refl; remote = refl; taken = refl; acked = refl })
does_count e x moment ev (move.Counted m) start order h j u there active =
    put_stays e x moment ev (move.Counted m) j u there active m.tunnel h.tunnel _ h.there (tunnels_are x _ h.after) (λ on. on) (record { goes = goes_on h.tunnel _ refl refl refl; remote = refl; taken = refl; acked = refl })
does_count e x moment ev (move.Replied m) start order h j u there active =
    put_takes e x moment ev (move.Replied m) j u there active m.tunnel h.tunnel _ h.there (tunnels_are x _ h.after) h.current h.letter h.takes.next
    (goes_on h.tunnel _ refl refl refl) (one_more (taken_of h.tunnel)) refl
does_count e x moment ev (move.FirstUp m) start order h j u there active =
    put_takes e x moment ev (move.FirstUp m) j u there active m.tunnel h.tunnel _ h.there (tunnels_are x _ h.after) h.current h.letter h.takes.next
    (goes_on h.tunnel _ refl refl refl) (one_more (taken_of h.tunnel)) refl
does_count e x moment ev (move.SecondUp m) start order h j u there active =
    put_takes e x moment ev (move.SecondUp m) j u there active m.tunnel h.tunnel _ h.there (tunnels_are x _ h.after) h.current h.letter h.takes.next
    (goes_on h.tunnel _ refl refl refl) (one_more (taken_of h.tunnel)) refl
does_count e x moment ev (move.Refused m) start order h j u there active =
    put_takes e x moment ev (move.Refused m) j u there active m.tunnel h.tunnel _ h.there (tunnels_are x _ h.after) h.current h.letter h.takes.next
    (goes_on h.tunnel _ refl refl refl) (one_more (taken_of h.tunnel)) refl
does_count e x moment ev (move.EndHeard m) start order h j u there active =
    put_takes e x moment ev (move.EndHeard m) j u there active m.tunnel h.tunnel _ h.there (tunnels_are x _ h.after) h.current h.letter h.takes.next
    (goes_on h.tunnel _ refl refl refl) (one_more (taken_of h.tunnel)) refl
does_count e x moment ev (move.Queried m) start order h j u there active =
    put_stays e x moment ev (move.Queried m) j u there active m.tunnel h.tunnel _ h.there (tunnels_are x _ h.after) (λ on. on)
    (record { goes = goes_on h.tunnel _ refl refl refl; remote = refl; taken = refl; acked = refl })
does_count e x moment ev (move.AnsweredQuery m) start order h j u there active =
    put_takes e x moment ev (move.AnsweredQuery m) j u there active m.tunnel h.tunnel _ h.there (tunnels_are x _ h.after) h.current h.letter
    h.takes.next
    (goes_on h.tunnel _ refl refl refl) (one_more (taken_of h.tunnel)) refl
does_count e x moment ev (move.TookAnswer m) start order h j u there active =
    put_takes e x moment ev (move.TookAnswer m) j u there active m.tunnel h.tunnel _ h.there (tunnels_are x _ h.after) h.current h.letter
    h.takes.next
    (goes_on h.tunnel _ refl refl refl) (one_more (taken_of h.tunnel)) refl
does_count e x moment ev (move.TookPlain m) start order h j u there active =
    put_takes e x moment ev (move.TookPlain m) j u there active m.tunnel h.tunnel _ h.there (tunnels_are x _ h.after) h.current h.letter h.next
    (goes_on h.tunnel _ refl refl refl) (one_more (taken_of h.tunnel)) refl
does_count e x moment ev (move.Rejected m) start order h j u there active =
    put_takes e x moment ev (move.Rejected m) j u there active m.tunnel h.tunnel _ h.there (tunnels_are x _ h.after) h.current h.letter h.takes.next
    (record { local = refl; peer = refl; early = λ lt. absurd (omega (arith, lt)) }) (one_more (taken_of h.tunnel)) refl
does_count e x moment ev (move.ClosedBy m) start order h j u there active =
    put_takes e x moment ev (move.ClosedBy m) j u there active m.tunnel h.tunnel _ h.there (tunnels_are x _ h.after) h.current h.letter h.takes.next
    (record { local = refl; peer = refl; early = λ lt. absurd (omega (arith, lt)) }) (one_more (taken_of h.tunnel)) refl
does_count e x moment ev (move.Closed m) start order h j u there active =
    put_stays e x moment ev (move.Closed m) j u there active m.tunnel h.tunnel _ h.there (tunnels_are x _ h.after) (λ on. on) (record {
      goes = record { local = refl; peer = refl; early = λ lt. absurd (omega (arith, lt)) };
      remote = closed_remote e.config.secret h.tunnel ev h.on m h.why;
      taken = refl;
      acked = refl;
    })
does_count e x moment ev (move.NrRead m) start order h j u there active =
    put_reads e x moment ev (move.NrRead m) j u there active m.tunnel h.tunnel _ m.nr refl h.there (tunnels_are x _ h.after) h.current h.tells
    (goes_on h.tunnel _ refl refl refl) refl refl refl
does_count e x moment ev (move.LetGo m) start order h j u there active =
    put_stays e x moment ev (move.LetGo m) j u there active m.tunnel h.tunnel _ h.there (tunnels_are x _ h.after) (λ on. on) (record {
      goes = goes_on h.tunnel _ refl refl refl;
      remote = refl;
      taken = ap (λ (i : Inbox). i.taken) (go_inbox h.tunnel.control.channel moment);
      acked = go_acked h.tunnel.control.channel moment;
    })
does_count e x moment ev (move.Repeated m) start order h j u there active =
    put_stays e x moment ev (move.Repeated m) j u there active m.tunnel h.tunnel _ h.there (tunnels_are x _ h.after) (λ on. on) (record {
      goes = goes_on h.tunnel _ refl refl refl;
      remote = refl;
      taken = ap (λ (i : Inbox). i.taken) (tick_inbox h.tunnel.control.channel moment);
      acked = tick_acked h.tunnel.control.channel moment;
    })
does_count e x moment ev (move.Declined m) start order h j u there active =
    nothing_put e x moment ev (move.Declined m) j u there active (tunnels_are x _ h.after)
does_count e x moment ev (move.Quiet k) start order h j u there active =
    nothing_put e x moment ev (move.Quiet k) j u there active (tunnels_are x _ h.after)
does_count e x moment ev (move.FrameSent m) start order h j u there active =
    nothing_put e x moment ev (move.FrameSent m) j u there active (tunnels_are x _ h.after)
does_count e x moment ev (move.FrameUp m) start order h j u there active =
    nothing_put e x moment ev (move.FrameUp m) j u there active (tunnels_are x _ h.after)
does_count e x moment ev (move.Cleared k booked) start order h j u there active =
    removed e x moment ev (move.Cleared k booked) j u there active k order (tunnels_are x _ h.after)
does_count e x moment ev (move.Ignored k) start order h j u there active =
    put_stays e x moment ev (move.Ignored k) j u there active k h.tunnel _ h.there (tunnels_are x _ h.after) (λ on. on) (record { goes = goes_on h.tunnel _ refl refl refl; remote = refl; taken = refl; acked = refl })
does_count e x moment ev (move.Froze m) start order h j u there active =
    put_stays e x moment ev (move.Froze m) j u there active m.tunnel h.tunnel _ h.there (tunnels_are x _ h.after)
    (λ on. absurd (true≢false (sym on ∙ (ap (λ r. is_current (mode_of (Some r))) h.is.is ∙ waits_inactive (ByAnswer h.is.answering) h.is.waits))))
    (record { goes = goes_on h.tunnel _ refl refl refl; remote = refl; taken = refl; acked = refl })
does_count e x moment ev (move.ResetAttempting m) start order h j u there active =
    put_resets e x moment ev (move.ResetAttempting m) j u there active m.tunnel h.tunnel _ h.there (tunnels_are x _ h.after) tt refl
    (ap (λ r. is_current (mode_of r)) h.attempts ∙ waits_inactive (ByAttempt h.old) h.waits) refl (omega arith)
does_count e x moment ev (move.ResetAnswering m) start order h j u there active =
    put_resets e x moment ev (move.ResetAnswering m) j u there active m.tunnel h.tunnel _ h.there (tunnels_are x _ h.after) tt refl
    (ap (λ r. is_current (mode_of r)) h.answers ∙ waits_inactive (ByAnswer h.old) h.waits) refl (omega arith)
does_count e x moment ev (move.RecoveryWentOn k) start order h j u there active =
    put_stays e x moment ev (move.RecoveryWentOn k) j u there active k h.tunnel _ h.there (tunnels_are x _ h.after)
    (λ on. ap (λ r. is_current (mode_of r)) h.has ∙ (sym (same_mode h.channel h.closed h.remote h.old) ∙ on))
    (record { goes = goes_on h.tunnel _ refl refl refl; remote = refl; taken = refl; acked = refl })
does_count e x moment ev (move.RecoveryEnded k) start order h j u there active =
    put_stays e x moment ev (move.RecoveryEnded k) j u there active k h.tunnel _ h.there (tunnels_are x _ h.after)
    (λ on. ap (λ r. is_current (mode_of r)) h.has ∙ finished_on h.old h.finished)
    (record { goes = goes_on h.tunnel _ refl refl refl; remote = refl; taken = refl; acked = refl })
does_count e x moment ev (move.Restored m) start order h j u there active = absurd start
does_count e x moment ev (move.Forgot m) start order h j u there active = absurd start
