-- What each line keeps of each node: its calls and tunnels are as they have to be; no stop is armed that stops at no record, so that a step
-- which commits nothing isn't cut off; and no two hosts that a LAC holds came by one address and Host-Uniq.
use Rattle.std.proofs.Common.{◌≡◌, ⊎_elim, Bool, true, false, ℕ, ◌+◌, ◌-◌, ◌^◌, ◌≤◌, List, [], ◌∷◌, ◌++◌, length, take, refl, sym, ap, ◌∙◌, subst, Option, Some, None, Result, Ok, Err, arith}
use Rattle.std.specs.Prelude.{is_some, min, nat_le, slice_get, if◌then◌else◌}
use Rattle.std.specs.List.{AllByRecursion}
use Rattle.std.proofs.lemmas.Bool.{true≢false, leb-true, leb-false}
use Rattle.std.proofs.lemmas.Option.{none-some}
use Rattle.id_table.specs.Ids.{at, put, at-none}
use Rattle.id_table.specs.Order.{at_new, at_other, same_or_not}
use Rattle.wire_base.specs.declared.why.Why.{Why}
use Rattle.wire_base.specs.declared.why.Why.TheVariants as why
use Rattle.session_book.specs.declared.record.Record.{Record}
use Rattle.session_book.specs.Books.{Kept, fits, stepped as with_record}
use Rattle.schedule_text.specs.declared.line.Line.{Line}
use Rattle.schedule_text.specs.declared.line.Line.TheVariants.{Remark, Lac, Lns, OpenUp, Close, Ring, Frame, FromSub, Down, Hang, DropCall, Deliver, Load, Hand, Tick, Crash, Stop, Start}
use Rattle.schedule_text.specs.Grammar.{FitsLine, AreLines}
use Rattle.call_fsm.specs.declared.table.CallState.{CallState}
use Rattle.call_fsm.specs.declared.table.CallState.TheVariants.{WaitTunnel, Established}
use Rattle.end_names.specs.Names.{address_of, node_of}
use Rattle.end_names.specs.declared.role.Role.{Role}
use Rattle.end_names.specs.declared.role.Role.TheVariants as role
use Rattle.end_model.specs.declared.event.Event.{Event}
use Rattle.end_model.specs.declared.event.Event.TheVariants as event
use Rattle.end_model.specs.declared.moves.Move.{Move}
use Rattle.end_model.specs.declared.moves.Move.TheVariants as move
use Rattle.end_model.specs.declared.out.Out.{Out}
use Rattle.end_model.specs.declared.out.Out.TheVariants.{Send, Up, Gone, Drop, Cause}
use Rattle.end_model.specs.Contents.{contents_of}
use Rattle.end_model.specs.declared.tunnel.Config.{Config}
use Rattle.end_model.specs.Secrets.{uncovered_event}
use Rattle.end_model.specs.Tunnels.{Tunnel}
use Rattle.end_model.specs.End.{End, Stepped, plain_step, step}
use Rattle.end_model.specs.Starting.{bare_end, starts, kept_hosts, access_over}
use Rattle.end_model.specs.Access.{Access, new_access, access_with, entered}
use Rattle.world_model.specs.declared.refusal.Refusal.{Refusal}
use Rattle.world_model.specs.declared.refusal.Refusal.TheVariants.{Unfit}
use Rattle.world_model.specs.declared.standing.Standing.{Standing}
use Rattle.world_model.specs.declared.stop.StopAt.{StopAt}
use Rattle.world_model.specs.World.{World, Node, Checkpoint, Sender, Lined, Committed, IsFull, IsCut, IsWhole, quiet_line, with_node, with_birth_at, with_birth, birth_of, is_born, standing_of, with_standing_at, with_standing, with_answer_at, answer_in, has_made, makes_epoch, enters_epoch, moved, moved_all, sent, shown, shown_all, given, after_step, recorded, recorded_all, is_full, with_stop, kept_by, commits_by, commits, fallen, without_held, held_line, taken_up, cut_line, committed, declared, lac_at, lns_at, down_at, with_call, with_tunnel, later, new_node, added, block_of, stepped, sender_of, crashed, armed, opened, started, line}
use Rattle.world_model.specs.Run.{Run, empty_run, after_line, goes_on, run_from, run}
use Rattle.step_laws.specs.Lines.{tested_not, is_lac_at, is_lns_at, is_declared, is_down_at, has_call, has_tunnel, IsTimed, IsAt, at_moment, is_later, WasWhole, committed_line, step_line, deliver_line, load_line, IsHeldAt, hand_line}
use Rattle.step_laws.specs.Hosts.{LacAt, with_host, entering, OfFrame, frame_line}
use Rattle.step_laws.specs.Left.{CanBe, AreSound, AreAsked, AreFew, CallsStaySound, CallsAreAsked, LateCallsEnd, FailedTunnelsGo, TunnelsBeginFew, TunnelsStayFew}
use Rattle.step_laws.specs.Steps.{AreKept}
use Rattle.book_laws.specs.Starts.{StartsAreBooked}
use Rattle.node_laws.specs.Nodes.{HoldsNode, NodesOfRuns, EndsOfRuns}
use Rattle.cause_laws.proofs.Held.{AreApart, none_apart, entered_apart}

-- ---- laws of steps

-- what was proved of the calls and the tunnels that steps leave
pub record CallLaws : Type 0 where
  pub sound : CallsStaySound
  pub late : LateCallsEnd
  pub asked : CallsAreAsked
  pub gone : FailedTunnelsGo
  pub begin_few : TunnelsBeginFew
  pub stay_few : TunnelsStayFew
  -- and of the nodes of runs, and of starts
  pub nodes : NodesOfRuns
  pub starting : StartsAreBooked

-- the ends of a world are kept
abbrev pub EndsAreKept : World → Type 0
EndsAreKept w = (n : ℕ) (node : Node) → at w.nodes n ≡ Some node → AreKept node.end

-- and each node has the book of its end
abbrev pub NodesHold : World → Type 0
NodesHold w = (n : ℕ) (node : Node) → at w.nodes n ≡ Some node → HoldsNode node

-- ---- stops

-- a stop that is armed stops at a record
abbrev pub IsReal : Option StopAt → Type 0
IsReal o = (s : StopAt) → o ≡ Some s → 1 ≤ s.commit

none_real : IsReal None
none_real s h = absurd (none-some s h)

recorded_stop : (k : Checkpoint) (r : Record) → (recorded k r).stop ≡ k.stop
recorded_stop k r = by (fits k.book r)
  where
    by : (b : Bool) → (if b then record k { records = k.records + 1; book = with_record k.book r } else k).stop ≡ k.stop
    by true = refl
    by false = refl

all_stop : (k : Checkpoint) (rs : List Record) → (recorded_all k rs).stop ≡ k.stop
unfolding recorded_all
all_stop k [] = refl
all_stop k (r ∷ rs) = all_stop (recorded k r) rs ∙ recorded_stop k r

module _ (k : Checkpoint) (rs : List Record) (real : IsReal k.stop) where
  abbrev Leaves : Committed → Type 0
  Leaves (IsFull records) = Unit {0}
  Leaves (IsCut c) = Unit {0}
  Leaves (IsWhole c) = IsReal c.stop

  leaves : Leaves (commits k rs)
  unfolding commits commits_by
  leaves = by (is_full k rs) k.stop refl
    where
      by : (b : Bool) (o : Option StopAt) → k.stop ≡ o → Leaves (if b then IsFull k.records else commits_by k rs o)
      by true o is = tt
      by false None is = λ s h. none_real s (sym (all_stop k rs ∙ is) ∙ h)
      by false (Some s) is = reached (nat_le s.commit (length rs)) refl
        where
          reached : (c : Bool) → nat_le s.commit (length rs) ≡ c
              → Leaves (if c then IsCut (recorded_all k (take (kept_by s) rs)) else IsWhole (with_stop (Some (record s { commit = s.commit - length rs })) (recorded_all k rs)))
          reached true e = tt
          reached false e = λ t h.
              (let same : s.commit - length rs ≡ t.commit = cc in
              let more = leb-false s.commit (length rs) e in
              omega (arith, same, more))

  -- what is armed after the records were committed
  pub still_real : (c : Checkpoint) → commits k rs ≡ IsWhole c → IsReal c.stop
  still_real c is = subst Leaves is leaves

-- of no records none is cut off
pub never_cut : (k : Checkpoint) → IsReal k.stop → (c : Checkpoint) → commits k [] ≡ IsCut c → ⊥
unfolding commits commits_by
never_cut k real c is = subst Uncut is uncut
  where
    Uncut : Committed → Type 0
    Uncut (IsFull records) = Unit {0}
    Uncut (IsCut c) = ⊥
    Uncut (IsWhole c) = Unit {0}

    uncut : Uncut (commits k [])
    uncut = by (is_full k []) k.stop refl
      where
        by : (b : Bool) (o : Option StopAt) → k.stop ≡ o → Uncut (if b then IsFull k.records else commits_by k [] o)
        by true o is = tt
        by false None is = tt
        by false (Some s) is = reached (nat_le s.commit 0) refl
          where
            reached : (c : Bool) → nat_le s.commit 0 ≡ c
                → Uncut (if c then IsCut (recorded_all k (take (kept_by s) [])) else IsWhole (with_stop (Some (record s { commit = s.commit - 0 })) (recorded_all k [])))
            reached true e = absurd (let few = leb-true s.commit 0 e in let some = real s is in omega (arith, few, some))
            reached false e = tt

-- ---- nodes

-- the calls and the tunnels of an end
pub record IsFine (e : End) : Type 0 where
  pub sound : AreSound e
  pub asked : AreAsked e
  pub few : AreFew e

-- the hosts that a LAC holds
abbrev pub HostsApart : Option Access → Type 0
HostsApart o = (a : Access) → o ≡ Some a → AreApart a.held

-- and with them the stop that is armed, and the hosts
pub record IsGood (node : Node) : Type 0 where
  pub fine : IsFine node.end
  pub real : IsReal node.checkpoint.stop
  pub apart : HostsApart node.access

abbrev pub AreGood : World → Type 0
AreGood w = (n : ℕ) (node : Node) → at w.nodes n ≡ Some node → IsGood node

-- an end without tunnels has no calls
none_fine : (e : End) → e.tunnels ≡ [] → AreFew e → IsFine e
none_fine e none few = record {
  sound = λ i t there. absurd (none-some t (sym (ap (λ (ts : List (ℕ × Tunnel)). at ts i) none ∙ at-none i) ∙ there));
  asked = λ i t there. absurd (none-some t (sym (ap (λ (ts : List (ℕ × Tunnel)). at ts i) none ∙ at-none i) ∙ there));
  few = few;
}

bare_fine : (r : Role) (c : Config) (k : Kept) → IsFine (bare_end r c k)
bare_fine r c k = none_fine (bare_end r c k) refl (omega arith)

-- a call that is established can be that of either role
can_be_up : (r : Role) (s : CallState) → s ≡ Established → CanBe r s
can_be_up role.Lac s up = subst (CanBe role.Lac) (sym up) tt
can_be_up role.Lns s up = subst (CanBe role.Lns) (sym up) tt

-- after a start each call is established, and has an id that was drawn
start_fine : StartsAreBooked → (node : Node) → HoldsNode node → (moment : ℕ) (block : List ℕ)
    → IsFine (starts node.end.role node.end.config node.checkpoint.book moment block).end
start_fine starting node h moment block =
    let b = starting node.end.role node.end.config node.checkpoint.book h.sound h.suits moment block in
    let e = (starts node.end.role node.end.config node.checkpoint.book moment block).end in
    record {
      sound = λ i t there s c live.
          (let drawn = ((b.fit.tables.tunnels i t there).calls s c live).drawn in
          let next = b.fit.session_ids.drawn in
          let last = b.fit.session_ids.within in
          (omega (arith, drawn, next, last), can_be_up e.role c.state ((b.up i t there).1 s c live)));
      asked = λ i t there open_is s c live waits.
          (let both : WaitTunnel ≡ Established = sym waits ∙ (b.up i t there).1 s c live in cc);
      few = b.fit.tables.few;
    }

none_hosts : (a : Access) → a.held ≡ [] → HostsApart (Some a)
none_hosts a none b is = let same : a ≡ b = cc in subst (λ (c : Access). AreApart c.held) same (subst AreApart (sym none) none_apart)

-- a LAC that is made, falls or starts holds no hosts
new_apart : (r : Role) (key : List ℕ) → HostsApart (access_with r key)
new_apart role.Lac key = none_hosts (new_access key) refl
new_apart role.Lns key = λ a is. absurd (none-some a is)

started_apart : (r : Role) (key : List ℕ) (k : Kept) → HostsApart (access_over r key k)
started_apart role.Lac key k = none_hosts (record { key = key; held = []; kept = kept_hosts k.calls [] }) refl
started_apart role.Lns key k = λ a is. absurd (none-some a is)

-- and one that a host enters
entered_hosts : (a : Access) → AreApart a.held → (before : End) (src : List ℕ) (uniq : Option (List ℕ)) (s : Stepped)
    → HostsApart (Some (entered a before src uniq s))
entered_hosts a apart before src uniq s b is =
    let same : entered a before src uniq s ≡ b = cc in
    subst (λ (c : Access). AreApart c.held) same (entered_apart a apart before src uniq s)

-- ---- worlds

put_good : (w : World) (n : ℕ) (node : Node) → AreGood w → IsGood node → AreGood (with_node w n node)
put_good w n node goods is m x there = ⊎_elim
    (λ (e : m ≡ n).
    let here : at (put w.nodes n node) n ≡ Some x = subst (λ q. at (put w.nodes n node) q ≡ Some x) e there in
    let same : Some node ≡ Some x = sym (at_new w.nodes n node) ∙ here in
    let one : node ≡ x = cc in
    subst IsGood one is)
    (λ o. goods m x (sym (at_other w.nodes n node m o) ∙ there))
    (same_or_not m n)

-- a node with other births, standings or answers
other_good : (w : World) (n : ℕ) (node more : Node) → at w.nodes n ≡ Some node → more.end ≡ node.end → more.checkpoint ≡ node.checkpoint
    → more.access ≡ node.access → AreGood w → AreGood (with_node w n more)
other_good w n node more is end checkpoint access goods =
    let g = goods n node is in
    put_good w n more goods (record {
      fine = subst IsFine (sym end) g.fine;
      real = subst (λ (k : Checkpoint). IsReal k.stop) (sym checkpoint) g.real;
      apart = subst HostsApart (sym access) g.apart;
    })

birth_good : (w : World) (n session birth : ℕ) → AreGood w → AreGood (with_birth w n session birth)
unfolding with_birth
birth_good w n session birth goods = by (at w.nodes n) refl
  where
    by : (o : Option Node) → at w.nodes n ≡ o → AreGood (with_birth_at w n session birth o)
    by None is = goods
    by (Some node) is = other_good w n node (record node { births = put node.births session birth }) is refl refl refl goods

standing_good : (w : World) (n i : ℕ) (s : Standing) → AreGood w → AreGood (with_standing w n i s)
unfolding with_standing
standing_good w n i s goods = by (at w.nodes n) refl
  where
    by : (o : Option Node) → at w.nodes n ≡ o → AreGood (with_standing_at w n i s o)
    by None is = goods
    by (Some node) is = other_good w n node (record node { standings = put node.standings i s }) is refl refl refl goods

answer_good : (w : World) (n answer epoch : ℕ) → AreGood w → AreGood (with_answer_at w n answer epoch (at w.nodes n))
answer_good w n answer epoch goods = by (at w.nodes n) refl
  where
    by : (o : Option Node) → at w.nodes n ≡ o → AreGood (with_answer_at w n answer epoch o)
    by None is = goods
    by (Some node) is = other_good w n node (record node { answers = put node.answers answer epoch }) is refl refl refl goods

made_good : (w : World) (n i epoch : ℕ) → AreGood w → AreGood (has_made w n i epoch)
made_good w n i epoch goods = standing_good w n i (record (standing_of w n i) { made = epoch }) goods

epoch_good : (w : World) (n i m j answer : ℕ) → AreGood w → AreGood (makes_epoch w n i m j answer)
unfolding makes_epoch
epoch_good w n i m j answer goods =
    let epoch = min ((standing_of w n i).made + 1) (2 ^ 64 - 1) in
    answer_good (has_made (has_made w n i epoch) m j epoch) n answer epoch
    (made_good (has_made w n i epoch) m j epoch (made_good w n i epoch goods))

enters_good : (w : World) (n i epoch : ℕ) → AreGood w → AreGood (enters_epoch w n i epoch)
unfolding enters_epoch
enters_good w n i epoch goods = standing_good w n i (record (standing_of w n i) { epoch = epoch; lost = None }) goods

moved_good : (n : ℕ) (m : Move) (w : World) → AreGood w → AreGood (moved n w m)
unfolding moved is_born
moved_good n (move.Added m) w goods =
    birth_good (record w { born = min (w.born + 1) (2 ^ 64 - 1) }) n m.session (min (w.born + 1) (2 ^ 64 - 1)) goods
moved_good n (move.Replied m) w goods = birth_good w n m.session (birth_of w (node_of m.peer) m.remote) goods
moved_good n (move.Opened m) w goods = goods
moved_good n (move.Accepted m) w goods = goods
moved_good n (move.Connected m) w goods = goods
moved_good n (move.Confirmed m) w goods = goods
moved_good n (move.Requested m) w goods = goods
moved_good n (move.FirstUp m) w goods = goods
moved_good n (move.SecondUp m) w goods = goods
moved_good n (move.Refused m) w goods = goods
moved_good n (move.EndTold m) w goods = goods
moved_good n (move.EndHeard m) w goods = goods
moved_good n (move.EndSilent m) w goods = goods
moved_good n (move.Declined m) w goods = goods
moved_good n (move.Closed m) w goods = goods
moved_good n (move.Rejected m) w goods = goods
moved_good n (move.ClosedBy m) w goods = goods
moved_good n (move.Greeted m) w goods = goods
moved_good n (move.TookPlain m) w goods = goods
moved_good n (move.NrRead m) w goods = goods
moved_good n (move.LetGo m) w goods = goods
moved_good n (move.Repeated m) w goods = goods
moved_good n (move.Negotiated m) w goods = goods
moved_good n (move.Counted m) w goods = goods
moved_good n (move.FrameSent m) w goods = goods
moved_good n (move.FrameUp m) w goods = goods
moved_good n (move.Cleared i booked) w goods = goods
moved_good n (move.Quiet i) w goods = goods
moved_good n (move.Froze m) w goods = epoch_good w n m.tunnel (node_of m.peer) m.remote m.answer goods
moved_good n (move.ResetAttempting m) w goods = enters_good w n m.tunnel (answer_in (at w.nodes (node_of m.peer)) m.answer) goods
moved_good n (move.ResetAnswering m) w goods = enters_good w n m.tunnel (answer_in (at w.nodes n) m.answer) goods
moved_good n (move.Restored m) w goods = goods
moved_good n (move.Forgot m) w goods = goods
moved_good n (move.Queried m) w goods = goods
moved_good n (move.AnsweredQuery m) w goods = goods
moved_good n (move.TookAnswer m) w goods = goods
moved_good n (move.RecoveryWentOn i) w goods = goods
moved_good n (move.RecoveryEnded i) w goods = goods
moved_good n (move.Ignored i) w goods = goods

all_good : (n : ℕ) (ms : List Move) (w : World) → AreGood w → AreGood (moved_all n ms w)
unfolding moved_all
all_good n [] w goods = goods
all_good n (m ∷ ms) w goods = all_good n ms (moved n w m) (moved_good n m w goods)

shown_good : (n : ℕ) (os : List Out) (w : World) → AreGood w → AreGood (shown_all n os w)
unfolding shown_all shown sent
shown_good n [] w goods = goods
shown_good n (Send peer bytes origin ∷ os) w goods = shown_good n os (sent w n (node_of peer) bytes origin) goods
shown_good n (Up session side frame ∷ os) w goods = shown_good n os w goods
shown_good n (Gone session ∷ os) w goods = shown_good n os w goods
shown_good n (Drop x ∷ os) w goods = shown_good n os w goods
shown_good n (Cause x ∷ os) w goods = shown_good n os w goods

-- ---- lines that are cut off, and lines that aren't

pub was_cut : (w : World) (number n : ℕ) (node : Node) (k : Checkpoint) (x : Lined) → cut_line w number n node k ≡ x → x.cut ≡ true
unfolding cut_line
was_cut w number n node k x is = ap (λ (l : Lined). l.cut) (sym is)

pub was_whole : (w : World) (number n : ℕ) (node : Node) (sender : Option Sender) (s : Stepped) (x : Lined) → after_step w number n node sender s ≡ x → x.cut ≡ false
unfolding after_step given
was_whole w number n node sender s x is = ap (λ (l : Lined). l.cut) (sym is)

-- ---- lines

-- the hosts of a LAC
pub lac_apart : (w : World) → AreGood w → (n : ℕ) (l : LacAt w n) → AreApart l.access.held
lac_apart w goods n l = (goods n l.node l.there).apart l.access l.keeps

module _ (laws : CallLaws) (w : World) (number : ℕ) (kept : EndsAreKept w) (goods : AreGood w) where
  -- a node whose step may be made
  abbrev MayStep : Node → Type 0
  MayStep node = IsGood node × AreKept node.end

  step_fine : (node : Node) → MayStep node → (moment : ℕ) (block : List ℕ) (ev : Event) → IsFine (plain_step node.end moment block ev).end
  step_fine node may moment block ev =
      let fine = may.0.fine in
      record {
        sound = laws.sound node.end may.1 fine.sound moment block ev;
        asked = laws.asked node.end may.1 fine.sound fine.asked moment block ev;
        few = laws.stay_few node.end may.1 fine.few moment block ev;
      }

  after_good : (n : ℕ) (node : Node) (sender : Option Sender) (s : Stepped) → IsGood (record node { end = s.end })
      → AreGood (after_step w number n node sender s).world
  unfolding after_step given
  after_good n node sender s is =
      let ended = record node { end = s.end } in
      shown_good n s.outputs (moved_all n s.moves (with_node w n ended)) (all_good n s.moves (with_node w n ended) (put_good w n ended goods is))

  cut_good : (n : ℕ) (node : Node) (k : Checkpoint) → AreGood (cut_line w number n node k).world
  unfolding cut_line fallen
  cut_good n node k = put_good w n (fallen (block_of n number) node.end node k) goods (record {
    fine = bare_fine node.end.role node.end.config k.book;
    real = none_real;
    apart = new_apart node.end.role (block_of n number);
  })

  commit_good : (n : ℕ) (node : Node) (sender : Option Sender) (s : Stepped) → IsFine s.end → IsReal node.checkpoint.stop
      → HostsApart node.access → (x : Lined) → committed w number n node sender s ≡ Ok x → AreGood x.world
  commit_good n node sender s fine is apart x made =
      committed_line (AreGood x.world) w number n node sender s x
      (λ k whole e.
      subst (λ (l : Lined). AreGood l.world) e
      (after_good n (record node { checkpoint = k }) sender s
      (record { fine = fine; real = still_real node.checkpoint (contents_of node.end s) is k whole; apart = apart })))
      (λ k cut e. subst (λ (l : Lined). AreGood l.world) e (cut_good n node k))
      made

  stepped_good : (x : Lined) (n : ℕ) (ev : Event) (sender : Option Sender) (o : Result Node Why)
      → ((node : Node) → o ≡ Ok node → MayStep node) → stepped w number n ev sender o ≡ Ok x → AreGood x.world
  unfolding stepped
  stepped_good x n ev sender (Err y) is h = absurd (cc)
  stepped_good x n ev sender (Ok node) is h =
      let may = is node refl in
      commit_good n node sender (step node.end node.clock (block_of n number) ev)
      (step_fine node may node.clock (block_of n number) (uncovered_event node.end.config.secret ev)) may.0.real may.0.apart x h

  added_good : (n : ℕ) (r : Role) (lns : ℕ) (secret : Option (List ℕ)) (hide : Bool) (x : Lined) → added w number n r lns secret hide ≡ Ok x → AreGood x.world
  unfolding added
  added_good n r lns secret hide x h =
      let new = new_node number n r lns secret hide in
      let t = tested_not (is_some (at w.nodes n)) (quiet_line (with_node w n new)) (Unfit why.Twice) x h in
      subst (λ (l : Lined). AreGood l.world) t.1 (put_good w n new goods
      (record {
        fine = none_fine new.end refl (laws.begin_few r new.end.config);
        real = none_real;
        apart = new_apart r (block_of n number);
      }))

  -- a node at some moment, with some hosts
  at_good : (n : ℕ) (node : Node) → IsAt w n node → HostsApart node.access → MayStep node
  at_good n node is apart =
      let g = goods n is.before is.there in
      let same : node.end ≡ is.before.end = ap (λ (q : Node). q.end) is.same in
      let checkpoint : node.checkpoint ≡ is.before.checkpoint = ap (λ (q : Node). q.checkpoint) is.same in (
        record {
          fine = subst IsFine (sym same) g.fine;
          real = subst (λ (k : Checkpoint). IsReal k.stop) (sym checkpoint) g.real;
          apart = apart;
        },
        subst AreKept (sym same) (kept n is.before is.there),
      )

  there_good : (n : ℕ) (node : Node) → at w.nodes n ≡ Some node → MayStep node
  there_good n node there = (goods n node there, kept n node there)

  -- a node at another moment
  timed_good : (n : ℕ) (node : Node) → IsTimed w n node → MayStep node
  timed_good n node is =
      let access : node.access ≡ is.before.access = ap (λ (q : Node). q.access) is.same in
      at_good n node (at_moment w n node is) (subst HostsApart (sym access) (goods n is.before is.there).apart)

  one_good : (n : ℕ) (ev : Event) (node : Node) → MayStep node → (x : Lined) → stepped w number n ev None (Ok node) ≡ Ok x → AreGood x.world
  one_good n ev node may x h = stepped_good x n ev None (Ok node) (λ q e. (let same : node ≡ q = cc in subst MayStep same may)) h

  -- a node falls whose step is cut off
  off_good : (n : ℕ) (ev : Event) (node : Node) (x : Lined) → stepped w number n ev None (Ok node) ≡ Ok x → x.cut ≡ true → AreGood x.world
  off_good n ev node x h off =
      step_line (AreGood x.world) w number x n ev None (Ok node)
      (λ q e k whole made.
      absurd (true≢false (sym off ∙ was_whole w number n (record q { checkpoint = k }) None (step q.end q.clock (block_of n number) ev) x made)))
      (λ q e k cut made. subst (λ (l : Lined). AreGood l.world) made (cut_good n q k)) h

  of_frame : (n : ℕ) (bytes : List ℕ) → OfFrame (λ (x : Lined). AreGood x.world) w number n bytes
  of_frame n bytes = record {
    ignored = λ l word is x h u. one_good n (event.Frame bytes) l.node (there_good n l.node l.there) x h;
    answered = λ l because frame is x h u. one_good n (event.Frame bytes) l.node (there_good n l.node l.there) x h;
    done = λ l ev is does x h. one_good n ev l.node (there_good n l.node l.there) x h;
    entered = λ l src uniq asked is x h u. one_good n (event.Admitted src) (with_host w number n l src uniq) (enters n l src uniq) x h;
    cut = λ l ev node is x h c. off_good n ev node x h c;
  }
    where
      enters : (n : ℕ) (l : LacAt w n) (src : List ℕ) (uniq : Option (List ℕ)) → MayStep (with_host w number n l src uniq)
      enters n l src uniq =
          at_good n (with_host w number n l src uniq) (entering w number n l src uniq (with_host w number n l src uniq) refl)
          (entered_hosts l.access (lac_apart w goods n l) l.node.end src uniq
          (step l.node.end l.node.clock (block_of n number) (event.Admitted src)))

module _ (laws : CallLaws) (w : World) (number : ℕ) (kept : EndsAreKept w) (holds : NodesHold w) (goods : AreGood w) where
  line_good : (x : Lined) (l : Line) → FitsLine l → line w number l ≡ Ok x → AreGood x.world
  unfolding line crashed armed started fallen held_line
  line_good x (Remark text) f h = let e : quiet_line w ≡ x = cc in subst (λ (l : Lined). AreGood l.world) e goods
  line_good x (Lac n m secret hide) f h = added_good laws w number kept goods n role.Lac (address_of m) secret hide x h
  line_good x (Lns n secret) f h = added_good laws w number kept goods n role.Lns 0 secret false x h
  line_good x (OpenUp n) f h =
      stepped_good laws w number kept goods x n event.OpenTunnel None (lac_at (at w.nodes n)) (λ node e. there_good laws w number kept goods n node (is_lac_at (at w.nodes n) node e).0) h
  line_good x (Close n i) f h =
      stepped_good laws w number kept goods x n (event.CloseTunnel i) None (with_tunnel i (declared (at w.nodes n)))
      (λ node e. there_good laws w number kept goods n node (is_declared (at w.nodes n) node (has_tunnel i (declared (at w.nodes n)) node e))) h
  line_good x (Ring n port) f h =
      stepped_good laws w number kept goods x n (event.Ring port) None (lac_at (at w.nodes n)) (λ node e. there_good laws w number kept goods n node (is_lac_at (at w.nodes n) node e).0) h
  line_good x (Frame n bytes) f h = frame_line (λ (y : Lined). AreGood y.world) w number n bytes (of_frame laws w number kept goods n bytes) x h
  line_good x (FromSub n session frame) f h =
      stepped_good laws w number kept goods x n (event.Payload session frame) None (with_call session (lac_at (at w.nodes n)))
      (λ node e. there_good laws w number kept goods n node (is_lac_at (at w.nodes n) node (has_call session (lac_at (at w.nodes n)) node e)).0) h
  line_good x (Down n session frame) f h =
      stepped_good laws w number kept goods x n (event.Lower session frame) None (with_call session (lns_at (at w.nodes n)))
      (λ node e. there_good laws w number kept goods n node (is_lns_at (at w.nodes n) node (has_call session (lns_at (at w.nodes n)) node e)).0) h
  line_good x (Hang n session) f h =
      stepped_good laws w number kept goods x n (event.Hang session) None (with_call session (lac_at (at w.nodes n)))
      (λ node e. there_good laws w number kept goods n node (is_lac_at (at w.nodes n) node (has_call session (lac_at (at w.nodes n)) node e)).0) h
  line_good x (DropCall n session) f h =
      stepped_good laws w number kept goods x n (event.DropCall session) None (with_call session (declared (at w.nodes n)))
      (λ node e. there_good laws w number kept goods n node (is_declared (at w.nodes n) node (has_call session (declared (at w.nodes n)) node e))) h
  line_good x (Deliver p) f h = deliver_line (AreGood x.world) w number x (line w number (Deliver p)) (slice_get w.packets (p - 1))
      (λ q node found there up young so leads.
      stepped_good laws w number kept goods x q.to (event.Datagram (address_of q.from) q.bytes) (sender_of q.from q.origin) (Ok node)
      (λ y e. (let same : node ≡ y = cc in subst (λ (z : Node). IsGood z × AreKept z.end) same (there_good laws w number kept goods q.to node there))) leads)
      refl h
  line_good x (Load n p) f h = load_line (λ (y : Lined). AreGood y.world) w number n (slice_get w.packets (p - 1))
      (record { dropped = λ word other. goods; held = λ g is. goods }) x h
  line_good x (Hand n p) f h = hand_line (λ (y : Lined). AreGood y.world) w number n p
      (record {
        passed = λ k other. goods;
        heard = λ k y lcp steps whole. heard k y steps;
        cut = λ k y lcp steps off. heard k y steps;
      }) x h
    where
      heard : (k : IsHeldAt w n p) (y : Lined) → stepped (taken_up w n p) number n (event.Lcp k.frame.session k.frame.frame) None (Ok k.node) ≡ Ok y → AreGood y.world
      heard k y steps =
          stepped_good laws (taken_up w n p) number kept goods y n (event.Lcp k.frame.session k.frame.frame) None (Ok k.node)
          (λ q e. (let same : k.node ≡ q = cc in subst (λ (z : Node). IsGood z × AreKept z.end) same (there_good laws w number kept goods n k.node k.there))) steps
  line_good x (Tick n milliseconds) f h =
      stepped_good laws w number kept goods x n event.Tick None (later milliseconds (declared (at w.nodes n)))
      (λ node e. timed_good laws w number kept goods n node (is_later w n milliseconds node e)) h
  line_good x (Crash n) f h = by (declared (at w.nodes n)) h
    where
      by : (o : Result Node Why) → crashed w number n o ≡ Ok x → AreGood x.world
      by (Err y) h = absurd (cc)
      by (Ok node) h =
          let down = fallen (block_of n number) node.end node node.checkpoint in
          let e : quiet_line (without_held (with_node w n down) n) ≡ x = cc in
          subst (λ (l : Lined). AreGood l.world) e (put_good w n down goods
          (record {
            fine = bare_fine node.end.role node.end.config node.checkpoint.book;
            real = none_real;
            apart = new_apart node.end.role (block_of n number);
          }))
  line_good x (Stop n commit call keeps) f h = by (declared (at w.nodes n)) (λ node e. is_declared (at w.nodes n) node e) h
    where
      by : (o : Result Node Why) → ((node : Node) → o ≡ Ok node → at w.nodes n ≡ Some node)
          → armed w n (record { commit = commit; kept = keeps }) o ≡ Ok x → AreGood x.world
      by (Err y) is h = absurd (cc)
      by (Ok node) is h =
          let stop : StopAt = record { commit = commit; kept = keeps } in
          let with = record node { checkpoint = with_stop (Some stop) node.checkpoint } in
          let e : quiet_line (with_node w n with) ≡ x = cc in
          let real : IsReal (Some stop) = λ s one. (let same : commit ≡ s.commit = cc in subst (λ (k : ℕ). 1 ≤ k) same f.1.0) in
          subst (λ (l : Lined). AreGood l.world) e (put_good w n with goods (record {
            fine = (goods n node (is node refl)).fine;
            real = real;
            apart = (goods n node (is node refl)).apart;
          }))
  line_good x (Start n) f h = by (down_at (at w.nodes n)) (λ node e. is_down_at (at w.nodes n) node e) h
    where
      by : (o : Result Node Why) → ((node : Node) → o ≡ Ok node → (at w.nodes n ≡ Some node) × (node.up ≡ false)) → started w number n o ≡ Ok x → AreGood x.world
      by (Err y) is h = absurd (cc)
      by (Ok node) is h =
          let there = (is node refl).0 in
          let s = starts node.end.role node.end.config node.checkpoint.book node.clock (block_of n number) in
          commit_good laws w number kept goods n (opened (block_of n number) node) None s
          (start_fine laws.starting node (holds n node there) node.clock (block_of n number)) (goods n node there).real
          (started_apart node.end.role (block_of n number) node.checkpoint.book) x h

-- ---- runs

-- a run goes on where a line fits, and stays where it doesn't
where_it_fits : (P : Run → Type 0) (rest : Run → Run) (r : Run) (number : ℕ) (x : Result Lined Refusal)
    → ((fault : Option (ℕ × Refusal)) → P (record r { fault = fault })) → ((l : Lined) → x ≡ Ok l → P (rest (after_line r l)))
    → P (goes_on rest r number x)
unfolding goes_on
where_it_fits P rest r number (Err w) stops more = stops (Some (number, w))
where_it_fits P rest r number (Ok l) stops more = more l refl

-- a front of a list whose elements all have something
pub all_left : {X : Type 0} (P : X → Type 0) (xs ys : List X) → AllByRecursion P (xs ++ ys) → AllByRecursion P xs
all_left P [] ys h = tt
all_left P (x ∷ xs) ys h = (h.0, all_left P xs ys h.1)

-- the ends are kept after each front of the lines that follow a run, and the nodes have their books
abbrev AreHeld : World → Type 0
AreHeld w = EndsAreKept w × NodesHold w

abbrev KeptAlong : ℕ → List Line → Run → Type 0
KeptAlong number lines r = (front rest : List Line) → lines ≡ front ++ rest → AreHeld (run_from number front r).world

kept_here : (number : ℕ) (lines : List Line) (r : Run) → KeptAlong number lines r → AreHeld r.world
unfolding run_from
kept_here number lines r along = along [] lines refl

kept_next : (number : ℕ) (l : Line) (ls : List Line) (r : Run) (x : Lined) → line r.world number l ≡ Ok x → KeptAlong number (l ∷ ls) r
    → KeptAlong (number + 1) ls (after_line r x)
unfolding run_from goes_on
kept_next number l ls r x is along front rest split =
    subst (λ (o : Result Lined Refusal). AreHeld (goes_on (run_from (number + 1) front) r number o).world) is
    (along (l ∷ front) rest (ap (λ (ks : List Line). l ∷ ks) split))

module _ (laws : CallLaws) (ends : EndsOfRuns) where
  goods_from : (number : ℕ) (lines : List Line) (r : Run) → AreLines lines → KeptAlong number lines r → AreGood r.world
      → AreGood (run_from number lines r).world
  unfolding run_from
  goods_from number [] r fits along goods = goods
  goods_from number (l ∷ ls) r fits along goods =
      where_it_fits (λ (q : Run). AreGood q.world) _ r number (line r.world number l) (λ fault. goods)
      (λ x h.
      goods_from (number + 1) ls (after_line r x) fits.1 (kept_next number l ls r x h along)
      (let held = kept_here number (l ∷ ls) r along in line_good laws r.world number held.0 held.1 goods x l fits.0 h))

  pub kept_in : (lines : List Line) → AreLines lines → EndsAreKept (run lines).world
  kept_in lines fits n node is = (ends lines fits n node is).0

  pub goods_in : (lines : List Line) → AreLines lines → AreGood (run lines).world
  goods_in lines fits =
      goods_from 1 lines empty_run fits (λ front rest split.
      (let first = all_left FitsLine front rest (subst AreLines split fits) in
      (kept_in front first, λ n node is. laws.nodes front first n node is)))
      (λ n node h. absurd (none-some node (sym (at-none n) ∙ h)))

-- ---- lines that aren't cut off

-- of a line that isn't cut off all was committed
pub whole_step : (P : Type 0) (w : World) (number : ℕ) (x : Lined) (n : ℕ) (ev : Event) (sender : Option Sender) (o : Result Node Why)
    → ((node : Node) → o ≡ Ok node → WasWhole P w number n node sender (step node.end node.clock (block_of n number) ev) x)
    → x.cut ≡ false → stepped w number n ev sender o ≡ Ok x → P
whole_step P w number x n ev sender o whole uncut h =
    step_line P w number x n ev sender o whole
    (λ node e k cut made.
    absurd (true≢false (sym (was_cut w number n node k x made) ∙ uncut)))
    h
