-- Schedules without crashes: no node falls, and none is going to stop.
use Rattle.std.proofs.Common.{◌≡◌, ⊎_elim, Bool, true, false, ℕ, ◌+◌, ◌-◌, ◌^◌, List, [], ◌∷◌, refl, sym, ◌∙◌, subst, Option, Some, None, Result, Ok}
use Rattle.std.specs.Prelude.{is_some, min, slice_get, if◌then◌else◌}
use Rattle.std.specs.List.{AllByRecursion}
use Rattle.id_table.specs.Ids.{at, put}
use Rattle.id_table.specs.Order.{at_new, at_other, same_or_not}
use Rattle.wire_base.specs.declared.why.Why.{Why}
use Rattle.wire_base.specs.declared.why.Why.TheVariants as why
use Rattle.session_book.specs.declared.record.Record.{Record}
use Rattle.session_book.specs.Books.{fits, stepped as with_record}
use Rattle.schedule_text.specs.declared.line.Line.{Line}
use Rattle.schedule_text.specs.declared.line.Line.TheVariants.{Remark, Lac, Lns, OpenUp, Close, Ring, Frame, FromSub, Down, Hang, DropCall, Deliver, Load, Hand, Tick, Crash, Stop, Start}
use Rattle.end_names.specs.Names.{address_of, node_of}
use Rattle.end_names.specs.declared.role.Role.{Role}
use Rattle.end_names.specs.declared.role.Role.TheVariants as role
use Rattle.end_model.specs.declared.event.Event.{Event}
use Rattle.end_model.specs.declared.event.Event.TheVariants as event
use Rattle.end_model.specs.declared.moves.Move.{Move}
use Rattle.end_model.specs.declared.moves.Move.TheVariants as move
use Rattle.end_model.specs.declared.out.Out.{Out}
use Rattle.end_model.specs.declared.out.Out.TheVariants.{Send, Up, Gone, Drop, Cause}
use Rattle.end_model.specs.Contents.{contents_of}
use Rattle.end_model.specs.End.{Stepped, step}
use Rattle.world_model.specs.declared.refusal.Refusal.TheVariants.{Unfit}
use Rattle.world_model.specs.declared.packet.Packet.{Packet}
use Rattle.world_model.specs.declared.stop.StopAt.{StopAt}
use Rattle.world_model.specs.declared.held.Held.{Held}
use Rattle.world_model.specs.declared.standing.Standing.{Standing}
use Rattle.world_model.specs.World.{standing_of, with_standing, with_standing_at, with_answer_at, answer_in, has_made, makes_epoch, enters_epoch, World, Node, Checkpoint, Sender, Lined, Committed, IsFull, IsCut, IsWhole, quiet_line, with_node, with_birth_at, with_birth, birth_of, is_born, moved, moved_all, sent, shown, shown_all, given, after_step, recorded, recorded_all, is_full, commits_by, commits, declared, lac_at, lns_at, with_call, with_tunnel, later, new_node, added, block_of, stepped, sender_of, held_line, taken_up, line}
use Rattle.step_laws.specs.Lines.{tested_not, is_lac_at, is_lns_at, is_declared, has_call, has_tunnel, IsAt, is_at, at_moment, is_later, WasWhole, step_line, deliver_line, OfLoad, load_line, hand_line}
use Rattle.step_laws.specs.Hosts.{LacAt, with_host, entering, OfFrame, frame_line}

-- a line that crashes no node, arms no stop, and starts none again
abbrev pub IsCalm : Line → Type 0
IsCalm (Crash n) = ⊥
IsCalm (Stop n commit call kept) = ⊥
IsCalm (Start n) = ⊥
IsCalm (Remark text) = Unit {0}
IsCalm (Lac n m secret hide) = Unit {0}
IsCalm (Lns n secret) = Unit {0}
IsCalm (OpenUp n) = Unit {0}
IsCalm (Close n i) = Unit {0}
IsCalm (Ring n port) = Unit {0}
IsCalm (Frame n bytes) = Unit {0}
IsCalm (FromSub n session frame) = Unit {0}
IsCalm (Down n session frame) = Unit {0}
IsCalm (Hang n session) = Unit {0}
IsCalm (DropCall n session) = Unit {0}
IsCalm (Deliver p) = Unit {0}
IsCalm (Load n p) = Unit {0}
IsCalm (Hand n h) = Unit {0}
IsCalm (Tick n milliseconds) = Unit {0}

abbrev pub AreCalm : List Line → Type 0
AreCalm lines = AllByRecursion IsCalm lines

-- ---- calm worlds

-- a node that is up, and at which no stop is armed
pub record NodeIsCalm (node : Node) : Type 0 where
  pub up : node.up ≡ true
  pub stop : node.checkpoint.stop ≡ None

abbrev pub WorldIsCalm : World → Type 0
WorldIsCalm w = (n : ℕ) (node : Node) → at w.nodes n ≡ Some node → NodeIsCalm node

-- ---- commits

recorded_stop : (k : Checkpoint) (r : Record) → (recorded k r).stop ≡ k.stop
recorded_stop k r = by (fits k.book r)
  where
    by : (b : Bool) → (if b then record k { records = k.records + 1; book = with_record k.book r } else k).stop ≡ k.stop
    by true = refl
    by false = refl

all_stop : (k : Checkpoint) (rs : List Record) → (recorded_all k rs).stop ≡ k.stop
unfolding recorded_all
all_stop k [] = refl
all_stop k (r ∷ rs) = all_stop (recorded k r) rs ∙ recorded_stop k r

module _ (k : Checkpoint) (rs : List Record) (none : k.stop ≡ None) where
  by_none : (P : Committed → Type 0) → ((records : ℕ) → P (IsFull records)) → P (IsWhole (recorded_all k rs)) → P (commits k rs)
  unfolding commits commits_by
  by_none P full whole = by (is_full k rs) k.stop none
    where
      by : (b : Bool) (o : Option StopAt) → o ≡ None → P (if b then IsFull k.records else commits_by k rs o)
      by true o is = full k.records
      by false None is = whole
      by false (Some s) is = absurd cc

  -- where no stop is armed, none is reached, and none is armed after it
  pub no_cut : (c : Checkpoint) → commits k rs ≡ IsCut c → ⊥
  no_cut c is = subst Uncut is (by_none Uncut (λ records. tt) tt)
    where
      Uncut : Committed → Type 0
      Uncut (IsFull records) = Unit {0}
      Uncut (IsCut c) = ⊥
      Uncut (IsWhole c) = Unit {0}

  pub still_none : (c : Checkpoint) → commits k rs ≡ IsWhole c → c.stop ≡ None
  still_none c is = subst Unarmed is (by_none Unarmed (λ records. tt) (all_stop k rs ∙ none))
    where
      Unarmed : Committed → Type 0
      Unarmed (IsFull records) = Unit {0}
      Unarmed (IsCut c) = Unit {0}
      Unarmed (IsWhole c) = c.stop ≡ None

-- ---- lines

pub put_calm : (w : World) (n : ℕ) (node : Node) → WorldIsCalm w → NodeIsCalm node → WorldIsCalm (with_node w n node)
put_calm w n node calm is m x there = ⊎_elim
    (λ (e : m ≡ n).
    let here : at (put w.nodes n node) n ≡ Some x = subst (λ q. at (put w.nodes n node) q ≡ Some x) e there in
    let same : Some node ≡ Some x = sym (at_new w.nodes n node) ∙ here in
    let one : node ≡ x = cc in
    subst NodeIsCalm one is)
    (λ o. calm m x (sym (at_other w.nodes n node m o) ∙ there))
    (same_or_not m n)

birth_calm : (w : World) (n session birth : ℕ) → WorldIsCalm w → WorldIsCalm (with_birth w n session birth)
unfolding with_birth
birth_calm w n session birth calm = by (at w.nodes n) refl
  where
    by : (o : Option Node) → at w.nodes n ≡ o → WorldIsCalm (with_birth_at w n session birth o)
    by None is = calm
    by (Some node) is =
        let k = calm n node is in put_calm w n (record node { births = put node.births session birth }) calm (record { up = k.up; stop = k.stop })

standing_calm : (w : World) (n i : ℕ) (s : Standing) → WorldIsCalm w → WorldIsCalm (with_standing w n i s)
unfolding with_standing
standing_calm w n i s calm = by (at w.nodes n) refl
  where
    by : (o : Option Node) → at w.nodes n ≡ o → WorldIsCalm (with_standing_at w n i s o)
    by None is = calm
    by (Some node) is =
        let k = calm n node is in put_calm w n (record node { standings = put node.standings i s }) calm (record { up = k.up; stop = k.stop })

answer_calm : (w : World) (n answer epoch : ℕ) → WorldIsCalm w → WorldIsCalm (with_answer_at w n answer epoch (at w.nodes n))
answer_calm w n answer epoch calm = by (at w.nodes n) refl
  where
    by : (o : Option Node) → at w.nodes n ≡ o → WorldIsCalm (with_answer_at w n answer epoch o)
    by None is = calm
    by (Some node) is =
        let k = calm n node is in put_calm w n (record node { answers = put node.answers answer epoch }) calm (record { up = k.up; stop = k.stop })

made_calm : (w : World) (n i epoch : ℕ) → WorldIsCalm w → WorldIsCalm (has_made w n i epoch)
made_calm w n i epoch calm = standing_calm w n i (record (standing_of w n i) { made = epoch }) calm

epoch_calm : (w : World) (n i m j answer : ℕ) → WorldIsCalm w → WorldIsCalm (makes_epoch w n i m j answer)
unfolding makes_epoch
epoch_calm w n i m j answer calm =
    let epoch = min ((standing_of w n i).made + 1) (2 ^ 64 - 1) in
    answer_calm (has_made (has_made w n i epoch) m j epoch) n answer epoch
    (made_calm (has_made w n i epoch) m j epoch (made_calm w n i epoch calm))

enters_calm : (w : World) (n i epoch : ℕ) → WorldIsCalm w → WorldIsCalm (enters_epoch w n i epoch)
unfolding enters_epoch
enters_calm w n i epoch calm = standing_calm w n i (record (standing_of w n i) { epoch = epoch; lost = None }) calm

moved_calm : (n : ℕ) (m : Move) (w : World) → WorldIsCalm w → WorldIsCalm (moved n w m)
unfolding moved is_born
moved_calm n (move.Added m) w calm =
    birth_calm (record w { born = min (w.born + 1) (2 ^ 64 - 1) }) n m.session (min (w.born + 1) (2 ^ 64 - 1)) calm
moved_calm n (move.Replied m) w calm = birth_calm w n m.session (birth_of w (node_of m.peer) m.remote) calm
moved_calm n (move.Opened m) w calm = calm
moved_calm n (move.Accepted m) w calm = calm
moved_calm n (move.Connected m) w calm = calm
moved_calm n (move.Confirmed m) w calm = calm
moved_calm n (move.Requested m) w calm = calm
moved_calm n (move.FirstUp m) w calm = calm
moved_calm n (move.SecondUp m) w calm = calm
moved_calm n (move.Refused m) w calm = calm
moved_calm n (move.EndTold m) w calm = calm
moved_calm n (move.EndHeard m) w calm = calm
moved_calm n (move.EndSilent m) w calm = calm
moved_calm n (move.Declined m) w calm = calm
moved_calm n (move.Closed m) w calm = calm
moved_calm n (move.Rejected m) w calm = calm
moved_calm n (move.ClosedBy m) w calm = calm
moved_calm n (move.Greeted m) w calm = calm
moved_calm n (move.TookPlain m) w calm = calm
moved_calm n (move.NrRead m) w calm = calm
moved_calm n (move.LetGo m) w calm = calm
moved_calm n (move.Repeated m) w calm = calm
moved_calm n (move.Negotiated m) w calm = calm
moved_calm n (move.Counted m) w calm = calm
moved_calm n (move.FrameSent m) w calm = calm
moved_calm n (move.FrameUp m) w calm = calm
moved_calm n (move.Cleared i booked) w calm = calm
moved_calm n (move.Quiet i) w calm = calm
moved_calm n (move.Froze m) w calm = epoch_calm w n m.tunnel (node_of m.peer) m.remote m.answer calm
moved_calm n (move.ResetAttempting m) w calm = enters_calm w n m.tunnel (answer_in (at w.nodes (node_of m.peer)) m.answer) calm
moved_calm n (move.ResetAnswering m) w calm = enters_calm w n m.tunnel (answer_in (at w.nodes n) m.answer) calm
moved_calm n (move.Queried m) w calm = calm
moved_calm n (move.AnsweredQuery m) w calm = calm
moved_calm n (move.TookAnswer m) w calm = calm
moved_calm n (move.Restored m) w calm = calm
moved_calm n (move.Forgot m) w calm = calm
moved_calm n (move.RecoveryWentOn i) w calm = calm
moved_calm n (move.RecoveryEnded i) w calm = calm
moved_calm n (move.Ignored i) w calm = calm

all_calm : (n : ℕ) (ms : List Move) (w : World) → WorldIsCalm w → WorldIsCalm (moved_all n ms w)
unfolding moved_all
all_calm n [] w calm = calm
all_calm n (m ∷ ms) w calm = all_calm n ms (moved n w m) (moved_calm n m w calm)

shown_calm : (n : ℕ) (os : List Out) (w : World) → WorldIsCalm w → WorldIsCalm (shown_all n os w)
unfolding shown_all shown sent
shown_calm n [] w calm = calm
shown_calm n (Send peer bytes origin ∷ os) w calm = shown_calm n os (sent w n (node_of peer) bytes origin) calm
shown_calm n (Up session side frame ∷ os) w calm = shown_calm n os w calm
shown_calm n (Gone session ∷ os) w calm = shown_calm n os w calm
shown_calm n (Drop x ∷ os) w calm = shown_calm n os w calm
shown_calm n (Cause x ∷ os) w calm = shown_calm n os w calm

-- what a line of a calm schedule leads to
pub record LineIsCalm (x : Lined) : Type 0 where
  pub world : WorldIsCalm x.world
  pub whole : x.cut ≡ false

step_calm : (w : World) (number n : ℕ) (node : Node) (sender : Option Sender) (s : Stepped) → WorldIsCalm w → NodeIsCalm node
    → LineIsCalm (after_step w number n node sender s)
unfolding after_step given
step_calm w number n node sender s calm is =
    let ended = record node { end = s.end } in
    let base = put_calm w n ended calm (record { up = is.up; stop = is.stop }) in
    record { world = shown_calm n s.outputs (moved_all n s.moves (with_node w n ended)) (all_calm n s.moves (with_node w n ended) base); whole = refl }

-- a node at some moment is as calm as it is in the world
pub at_calm : (w : World) (n : ℕ) (node : Node) → WorldIsCalm w → IsAt w n node → NodeIsCalm node
at_calm w n node calm is =
    let k = calm n is.before is.there in
    subst NodeIsCalm (sym is.same) (record { up = k.up; stop = k.stop })

-- a step of a calm node isn't cut off
pub calm_step : (P : Type 0) (w : World) (number : ℕ) (x : Lined) (n : ℕ) (ev : Event) (sender : Option Sender) (o : Result Node Why)
    → ((node : Node) → o ≡ Ok node → NodeIsCalm node)
    → ((node : Node) → o ≡ Ok node → WasWhole P w number n node sender (step node.end node.clock (block_of n number) ev) x)
    → stepped w number n ev sender o ≡ Ok x → P
calm_step P w number x n ev sender o calm whole h =
    step_line P w number x n ev sender o whole
    (λ node is k cut made. absurd (no_cut node.checkpoint (contents_of node.end (step node.end node.clock (block_of n number) ev)) (calm node is).stop k cut)) h

module _ (w : World) (number : ℕ) (calm : WorldIsCalm w) where
  stepped_calm : (x : Lined) (n : ℕ) (ev : Event) (sender : Option Sender) (o : Result Node Why)
      → ((node : Node) → o ≡ Ok node → NodeIsCalm node) → stepped w number n ev sender o ≡ Ok x → LineIsCalm x
  stepped_calm x n ev sender o is h =
      calm_step (LineIsCalm x) w number x n ev sender o is
      (λ node e k whole made.
      let s = step node.end node.clock (block_of n number) ev in
      let one : NodeIsCalm (record node { checkpoint = k }) =
      record { up = (is node e).up; stop = still_none node.checkpoint (contents_of node.end s) (is node e).stop k whole } in
      subst LineIsCalm made (step_calm w number n (record node { checkpoint = k }) sender s calm one)) h

  there_calm : (n : ℕ) (node : Node) → at w.nodes n ≡ Some node → NodeIsCalm node
  there_calm n node there = calm n node there

  added_calm : (n : ℕ) (r : Role) (lns : ℕ) (secret : Option (List ℕ)) (hide : Bool) (x : Lined) → added w number n r lns secret hide ≡ Ok x → LineIsCalm x
  unfolding added
  added_calm n r lns secret hide x h =
      let new = new_node number n r lns secret hide in
      let t = tested_not (is_some (at w.nodes n)) (quiet_line (with_node w n new)) (Unfit why.Twice) x h in
      subst LineIsCalm t.1 (record { world = put_calm w n new calm (record { up = refl; stop = refl }); whole = refl })

  of_frame : (n : ℕ) (bytes : List ℕ) → OfFrame LineIsCalm w number n bytes
  of_frame n bytes = record {
    ignored = λ l word is x h u. (let k = one n l (event.Frame bytes) l.node (is_at w n l.node l.there) x h in record { world = k.world; whole = u });
    answered = λ l because frame is x h u. (let k = one n l (event.Frame bytes) l.node (is_at w n l.node l.there) x h in record { world = k.world; whole = u });
    done = λ l ev is does x h. one n l ev l.node (is_at w n l.node l.there) x h;
    entered = λ l src uniq asked is x h u.
        (let node = with_host w number n l src uniq in
        let k = one n l (event.Admitted src) node (entering w number n l src uniq node refl) x h in record { world = k.world; whole = u });
    cut = λ l ev node is x h c. one n l ev node is x h;
  }
    where
      one : (n : ℕ) (l : LacAt w n) (ev : Event) (node : Node) → IsAt w n node → (x : Lined) → stepped w number n ev None (Ok node) ≡ Ok x → LineIsCalm x
      one n l ev node is x h =
          stepped_calm x n ev None (Ok node) (λ q e. (let same : node ≡ q = cc in subst NodeIsCalm same (at_calm w n node calm is))) h

  of_load : (n : ℕ) (o : Option Packet) → OfLoad LineIsCalm w number n o
  unfolding held_line
  of_load n o = record {
    dropped = λ word other. record { world = calm; whole = refl };
    held = λ f is. record { world = calm; whole = refl };
  }

module _ (w : World) (number : ℕ) (calm : WorldIsCalm w) where
  -- a calm line leads from a calm world to a calm one, and its step isn't cut off
  pub calm_line : (x : Lined) (l : Line) → IsCalm l → line w number l ≡ Ok x → LineIsCalm x
  unfolding line
  calm_line x (Remark text) is h = let e : quiet_line w ≡ x = cc in subst LineIsCalm e (record { world = calm; whole = refl })
  calm_line x (Lac n m secret hide) is h = added_calm w number calm n role.Lac (address_of m) secret hide x h
  calm_line x (Lns n secret) is h = added_calm w number calm n role.Lns 0 secret false x h
  calm_line x (OpenUp n) is h =
      stepped_calm w number calm x n event.OpenTunnel None (lac_at (at w.nodes n)) (λ node e. calm n node (is_lac_at (at w.nodes n) node e).0) h
  calm_line x (Close n i) is h =
      stepped_calm w number calm x n (event.CloseTunnel i) None (with_tunnel i (declared (at w.nodes n)))
      (λ node e. calm n node (is_declared (at w.nodes n) node (has_tunnel i (declared (at w.nodes n)) node e))) h
  calm_line x (Ring n port) is h =
      stepped_calm w number calm x n (event.Ring port) None (lac_at (at w.nodes n)) (λ node e. calm n node (is_lac_at (at w.nodes n) node e).0) h
  calm_line x (Frame n bytes) is h = frame_line LineIsCalm w number n bytes (of_frame w number calm n bytes) x h
  calm_line x (FromSub n session frame) is h =
      stepped_calm w number calm x n (event.Payload session frame) None (with_call session (lac_at (at w.nodes n)))
      (λ node e. calm n node (is_lac_at (at w.nodes n) node (has_call session (lac_at (at w.nodes n)) node e)).0) h
  calm_line x (Down n session frame) is h =
      stepped_calm w number calm x n (event.Lower session frame) None (with_call session (lns_at (at w.nodes n)))
      (λ node e. calm n node (is_lns_at (at w.nodes n) node (has_call session (lns_at (at w.nodes n)) node e)).0) h
  calm_line x (Hang n session) is h =
      stepped_calm w number calm x n (event.Hang session) None (with_call session (lac_at (at w.nodes n)))
      (λ node e. calm n node (is_lac_at (at w.nodes n) node (has_call session (lac_at (at w.nodes n)) node e)).0) h
  calm_line x (DropCall n session) is h =
      stepped_calm w number calm x n (event.DropCall session) None (with_call session (declared (at w.nodes n)))
      (λ node e. calm n node (is_declared (at w.nodes n) node (has_call session (declared (at w.nodes n)) node e))) h
  calm_line x (Deliver p) is h = deliver_line (LineIsCalm x) w number x (line w number (Deliver p)) (slice_get w.packets (p - 1))
      (λ q node found there up young so leads.
      stepped_calm w number calm x q.to (event.Datagram (address_of q.from) q.bytes) (sender_of q.from q.origin) (Ok node)
      (λ y e. (let same : node ≡ y = cc in subst NodeIsCalm same (calm q.to node there))) leads)
      refl h
  calm_line x (Load n p) is h = load_line LineIsCalm w number n (slice_get w.packets (p - 1)) (of_load w number calm n (slice_get w.packets (p - 1))) x h
  calm_line x (Hand n k) is h = hand_line LineIsCalm w number n k (record {
    passed = λ f other. record { world = calm; whole = refl };
    heard = λ f y side steps uncut. (let c = heard_calm n k f.node f.there f.frame y steps in record { world = c.world; whole = c.whole });
    cut = λ f y side steps off. heard_calm n k f.node f.there f.frame y steps;
  }) x h
    where
      heard_calm : (n k : ℕ) (node : Node) → at w.nodes n ≡ Some node → (f : Held) (y : Lined)
          → stepped (taken_up w n k) number n (event.Lcp f.session f.frame) None (Ok node) ≡ Ok y → LineIsCalm y
      heard_calm n k node there f y steps =
          stepped_calm (taken_up w n k) number calm y n (event.Lcp f.session f.frame) None (Ok node)
          (λ q e. (let same : node ≡ q = cc in subst NodeIsCalm same (calm n node there))) steps
  calm_line x (Tick n milliseconds) is h =
      stepped_calm w number calm x n event.Tick None (later milliseconds (declared (at w.nodes n)))
      (λ node e. at_calm w n node calm (at_moment w n node (is_later w n milliseconds node e))) h
  calm_line x (Crash n) is h = absurd is
  calm_line x (Stop n commit call kept) is h = absurd is
  calm_line x (Start n) is h = absurd is
