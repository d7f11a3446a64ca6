-- What a line leaves of each node.
use Rattle.std.proofs.Common.{◌≡◌, ⊎_elim, Bool, true, false, ℕ, ◌+◌, ◌-◌, ◌^◌, zero, suc, List, [], ◌∷◌, length, take, refl, sym, ap, ◌∙◌, subst, Option, Some, None, Result, Ok, Err, arith}
use Rattle.std.specs.Prelude.{is_some, min, nat_le, slice_get, if◌then◌else◌}
use Rattle.std.specs.List.{AllByRecursion}
use Rattle.std.proofs.lemmas.Bool.{true≢false}
use Rattle.id_table.specs.Ids.{at, put}
use Rattle.id_table.specs.Order.{at_new, at_other, same_or_not}
use Rattle.wire_base.specs.declared.why.Why.{Why}
use Rattle.wire_base.specs.declared.why.Why.TheVariants as why
use Rattle.session_book.specs.declared.record.Record.{Record}
use Rattle.session_book.specs.Books.{Kept, nothing_kept, fits, stepped as with_record}
use Rattle.schedule_text.specs.declared.line.Line.{Line}
use Rattle.schedule_text.specs.declared.line.Line.TheVariants.{Remark, Lac, Lns, OpenUp, Close, Ring, Frame, FromSub, Down, Hang, DropCall, Deliver, Load, Hand, Tick, Crash, Stop, Start}
use Rattle.end_names.specs.Names.{address_of, node_of}
use Rattle.end_names.specs.declared.role.Role.{Role}
use Rattle.end_names.specs.declared.role.Role.TheVariants as role
use Rattle.end_model.specs.declared.event.Event.{Event}
use Rattle.end_model.specs.declared.event.Event.TheVariants as event
use Rattle.end_model.specs.declared.moves.Move.{Move}
use Rattle.end_model.specs.declared.moves.Move.TheVariants as move
use Rattle.end_model.specs.declared.out.Out.{Out}
use Rattle.end_model.specs.declared.out.Out.TheVariants.{Send, Up, Gone, Drop, Cause}
use Rattle.end_model.specs.Secrets.{uncovered_event}
use Rattle.end_model.specs.Contents.{contents_of}
use Rattle.end_model.specs.End.{End, Stepped, plain_step, step}
use Rattle.end_model.specs.Starting.{starts}
use Rattle.world_model.specs.declared.refusal.Refusal.TheVariants.{Unfit}
use Rattle.world_model.specs.declared.standing.Standing.{Standing}
use Rattle.world_model.specs.declared.stop.StopAt.{StopAt}
use Rattle.world_model.specs.World.{World, Node, Checkpoint, Sender, Lined, Committed, IsFull, IsCut, IsWhole, quiet_line, with_node, with_birth_at, with_birth, birth_of, standing_of, with_standing_at, with_standing, with_answer_at, answer_in, has_made, makes_epoch, enters_epoch, is_born, moved, moved_all, sent, shown, shown_all, given, after_step, recorded, recorded_all, is_full, with_stop, kept_by, commits_by, commits, fallen, without_held, held_line, taken_up, cut_line, committed, declared, lac_at, lns_at, down_at, with_call, with_tunnel, later, new_node, added, block_of, stepped, sender_of, crashed, armed, opened, started, line}
use Rattle.step_laws.specs.Looks.{LooksAreTrue, LooksStayTrue, LooksBeginTrue}
use Rattle.step_laws.specs.Steps.{AreKept, StepsAreChains}
use Rattle.step_laws.specs.Lines.{tested_not, is_running, is_lac_at, is_lns_at, is_declared, is_down_at, has_call, has_tunnel, IsAt, is_at, at_moment, is_later, committed_line, deliver_line, load_line, IsHeldAt, hand_line}
use Rattle.step_laws.specs.Hosts.{LacAt, with_host, entering, OfFrame, frame_line}
use Rattle.book_laws.specs.Books.{IsBook, Fits, AreInPlace, book_after, SuitsRole, LeavesNone, StepsAreBooked, NewEndsAreBooked}
use Rattle.book_laws.specs.Starts.{StartsAreBooked}
use Rattle.node_laws.specs.Nodes.{IsSoundBook, HoldsNode, CountsAll, StaysSo}
use Rattle.node_laws.proofs.Books.{records_keep, records_suit}
use Rattle.book_laws.proofs.Starts.{bare_kept}

-- ---- records that are committed

one_counted : (k : Checkpoint) (r : Record) → fits k.book r ≡ true → recorded k r ≡ record k { records = k.records + 1; book = with_record k.book r }
one_counted k r is = ap (λ (b : Bool). if b then record k { records = k.records + 1; book = with_record k.book r } else k) is

-- where all are in place, each is counted
pub all_counted : (k : Checkpoint) (rs : List Record) → AreInPlace k.book rs → CountsAll k rs
unfolding recorded_all
all_counted k [] in_place = record { in_place = tt; records = omega arith; book = refl }
all_counted k (r ∷ rs) in_place =
    let next = record k { records = k.records + 1; book = with_record k.book r } in
    let more = all_counted next rs in_place.1 in
    let one = one_counted k r in_place.0 in
    record {
      in_place = in_place;
      records = ap (λ (j : Checkpoint). (recorded_all j rs).records) one ∙ (let n = more.records in omega (arith, n));
      book = ap (λ (j : Checkpoint). (recorded_all j rs).book) one ∙ more.book;
    }

front_in_place : (n : ℕ) (k : Kept) (rs : List Record) → AreInPlace k rs → AreInPlace k (take n rs)
front_in_place zero k rs in_place = tt
front_in_place (suc n) k [] in_place = tt
front_in_place (suc n) k (r ∷ rs) in_place = (in_place.0, front_in_place n (with_record k r) rs in_place.1)

front_leaves : (r : Role) (n : ℕ) (rs : List Record) → AllByRecursion (LeavesNone r) rs → AllByRecursion (LeavesNone r) (take n rs)
front_leaves r zero rs leaves = tt
front_leaves r (suc n) [] leaves = tt
front_leaves r (suc n) (x ∷ rs) leaves = (leaves.0, front_leaves r n rs leaves.1)

module _ (k : Checkpoint) (rs : List Record) where
  -- what a checkpoint has where all were committed, and where a stop was reached
  abbrev Has : Committed → Type 0
  Has (IsFull records) = Unit {0}
  Has (IsCut c) = (n : ℕ) × (c.book ≡ (recorded_all k (take n rs)).book)
  Has (IsWhole c) = c.book ≡ (recorded_all k rs).book

  has : Has (commits k rs)
  unfolding commits commits_by
  has = by (is_full k rs) k.stop
    where
      by : (b : Bool) (o : Option StopAt) → Has (if b then IsFull k.records else commits_by k rs o)
      by true o = tt
      by false None = refl
      by false (Some s) = reached (nat_le s.commit (length rs))
        where
          reached : (c : Bool) → Has (if c then IsCut (recorded_all k (take (kept_by s) rs)) else IsWhole (with_stop (Some (record s { commit = s.commit - length rs })) (recorded_all k rs)))
          reached true = (kept_by s, refl)
          reached false = refl

  pub whole_book : AreInPlace k.book rs → (c : Checkpoint) → commits k rs ≡ IsWhole c → c.book ≡ book_after k.book rs
  whole_book in_place c is = subst Has is has ∙ (all_counted k rs in_place).book

  -- where it is cut off, some front of the records was counted
  pub cut_front : AreInPlace k.book rs → (c : Checkpoint) → commits k rs ≡ IsCut c
      → (n : ℕ) × AreInPlace k.book (take n rs) × (c.book ≡ book_after k.book (take n rs))
  cut_front in_place c is =
      let h : (n : ℕ) × (c.book ≡ (recorded_all k (take n rs)).book) = subst Has is has in
      let front = front_in_place h.0 k.book rs in_place in
      (h.0, front, h.1 ∙ (all_counted k (take h.0 rs) front).book)

  -- of a sound book each front of records in place makes a sound one
  pub cut_book : IsSoundBook k.book → AreInPlace k.book rs → (c : Checkpoint) → commits k rs ≡ IsCut c → IsSoundBook c.book
  cut_book sound in_place c is =
      let h = cut_front in_place c is in subst IsSoundBook (sym h.2) (records_keep k.book (take h.0 rs) sound h.1)

  -- and of one that suits a role, one that does
  pub cut_suits : (r : Role) → SuitsRole r k.book → AreInPlace k.book rs → AllByRecursion (LeavesNone r) rs → (c : Checkpoint) → commits k rs ≡ IsCut c
      → SuitsRole r c.book
  cut_suits r suits in_place leaves c is =
      let h = cut_front in_place c is in
      subst (SuitsRole r) (sym h.2) (records_suit r k.book (take h.0 rs) suits (front_leaves r h.0 rs leaves))

-- ---- nodes of a world

-- what holds of a node speaks of its end, of its checkpoint, and of whether it is up
pub holds_so : (x y : Node) → y.end ≡ x.end → y.up ≡ x.up → y.checkpoint.book ≡ x.checkpoint.book → HoldsNode x → HoldsNode y
holds_so x y end up book h = record {
  sound = subst IsSoundBook (sym book) h.sound;
  suits = subst (λ (e : End). SuitsRole e.role y.checkpoint.book) (sym end) (subst (SuitsRole x.end.role) (sym book) h.suits);
  up = λ is. (let u = h.up (sym up ∙ is) in record {
    kept = subst AreKept (sym end) u.kept;
    looks = subst LooksAreTrue (sym end) u.looks;
    fit = subst Fits (sym end) u.fit;
    book = subst (λ (e : End). IsBook e y.checkpoint.book) (sym end) (subst (IsBook x.end) (sym book) u.book);
  });
  down = λ is. (let d = h.down (sym up ∙ is) in rw (end, book) d);
}

module _ (P : End → Type 0) (so : StaysSo P) where
  abbrev pub HoldsWith : Node → Type 0
  HoldsWith node = HoldsNode node × P node.end

  abbrev pub WorldHolds : World → Type 0
  WorldHolds w = (n : ℕ) (node : Node) → at w.nodes n ≡ Some node → HoldsWith node

  pub put_holds : (w : World) (n : ℕ) (node : Node) → WorldHolds w → HoldsWith node → WorldHolds (with_node w n node)
  put_holds w n node holds is m x there = ⊎_elim
      (λ (e : m ≡ n).
      let here : at (put w.nodes n node) n ≡ Some x = subst (λ q. at (put w.nodes n node) q ≡ Some x) e there in
      let same : Some node ≡ Some x = sym (at_new w.nodes n node) ∙ here in
      let one : node ≡ x = cc in
      subst HoldsWith one is)
      (λ o. holds m x (sym (at_other w.nodes n node m o) ∙ there))
      (same_or_not m n)

  -- a node with other births, standings or answers
  other_holds : (w : World) (n : ℕ) (node more : Node) → at w.nodes n ≡ Some node → more.end ≡ node.end → more.up ≡ node.up
      → more.checkpoint.book ≡ node.checkpoint.book → WorldHolds w → WorldHolds (with_node w n more)
  other_holds w n node more is end up book holds =
      put_holds w n more holds (let h = holds n node is in (holds_so node more end up book h.0, subst P (sym end) h.1))

  birth_holds : (w : World) (n session birth : ℕ) → WorldHolds w → WorldHolds (with_birth w n session birth)
  unfolding with_birth
  birth_holds w n session birth holds = by (at w.nodes n) refl
    where
      by : (o : Option Node) → at w.nodes n ≡ o → WorldHolds (with_birth_at w n session birth o)
      by None is = holds
      by (Some node) is = other_holds w n node (record node { births = put node.births session birth }) is refl refl refl holds

  standing_holds : (w : World) (n i : ℕ) (s : Standing) → WorldHolds w → WorldHolds (with_standing w n i s)
  unfolding with_standing
  standing_holds w n i s holds = by (at w.nodes n) refl
    where
      by : (o : Option Node) → at w.nodes n ≡ o → WorldHolds (with_standing_at w n i s o)
      by None is = holds
      by (Some node) is = other_holds w n node (record node { standings = put node.standings i s }) is refl refl refl holds

  answer_holds : (w : World) (n answer epoch : ℕ) → WorldHolds w → WorldHolds (with_answer_at w n answer epoch (at w.nodes n))
  answer_holds w n answer epoch holds = by (at w.nodes n) refl
    where
      by : (o : Option Node) → at w.nodes n ≡ o → WorldHolds (with_answer_at w n answer epoch o)
      by None is = holds
      by (Some node) is = other_holds w n node (record node { answers = put node.answers answer epoch }) is refl refl refl holds

  made_holds : (w : World) (n i epoch : ℕ) → WorldHolds w → WorldHolds (has_made w n i epoch)
  made_holds w n i epoch holds = standing_holds w n i (record (standing_of w n i) { made = epoch }) holds

  epoch_holds : (w : World) (n i m j answer : ℕ) → WorldHolds w → WorldHolds (makes_epoch w n i m j answer)
  unfolding makes_epoch
  epoch_holds w n i m j answer holds =
      let epoch = min ((standing_of w n i).made + 1) (2 ^ 64 - 1) in
      answer_holds (has_made (has_made w n i epoch) m j epoch) n answer epoch
      (made_holds (has_made w n i epoch) m j epoch (made_holds w n i epoch holds))

  enters_holds : (w : World) (n i epoch : ℕ) → WorldHolds w → WorldHolds (enters_epoch w n i epoch)
  unfolding enters_epoch
  enters_holds w n i epoch holds = standing_holds w n i (record (standing_of w n i) { epoch = epoch; lost = None }) holds

  moved_holds : (n : ℕ) (m : Move) (w : World) → WorldHolds w → WorldHolds (moved n w m)
  unfolding moved is_born
  moved_holds n (move.Added m) w holds =
      birth_holds (record w { born = min (w.born + 1) (2 ^ 64 - 1) }) n m.session (min (w.born + 1) (2 ^ 64 - 1)) holds
  moved_holds n (move.Replied m) w holds = birth_holds w n m.session (birth_of w (node_of m.peer) m.remote) holds
  moved_holds n (move.Opened m) w holds = holds
  moved_holds n (move.Accepted m) w holds = holds
  moved_holds n (move.Connected m) w holds = holds
  moved_holds n (move.Confirmed m) w holds = holds
  moved_holds n (move.Requested m) w holds = holds
  moved_holds n (move.FirstUp m) w holds = holds
  moved_holds n (move.SecondUp m) w holds = holds
  moved_holds n (move.Refused m) w holds = holds
  moved_holds n (move.EndTold m) w holds = holds
  moved_holds n (move.EndHeard m) w holds = holds
  moved_holds n (move.EndSilent m) w holds = holds
  moved_holds n (move.Declined m) w holds = holds
  moved_holds n (move.Closed m) w holds = holds
  moved_holds n (move.Rejected m) w holds = holds
  moved_holds n (move.ClosedBy m) w holds = holds
  moved_holds n (move.Greeted m) w holds = holds
  moved_holds n (move.TookPlain m) w holds = holds
  moved_holds n (move.NrRead m) w holds = holds
  moved_holds n (move.LetGo m) w holds = holds
  moved_holds n (move.Repeated m) w holds = holds
  moved_holds n (move.Negotiated m) w holds = holds
  moved_holds n (move.Counted m) w holds = holds
  moved_holds n (move.FrameSent m) w holds = holds
  moved_holds n (move.FrameUp m) w holds = holds
  moved_holds n (move.Cleared i booked) w holds = holds
  moved_holds n (move.Quiet i) w holds = holds
  moved_holds n (move.Froze m) w holds = epoch_holds w n m.tunnel (node_of m.peer) m.remote m.answer holds
  moved_holds n (move.ResetAttempting m) w holds = enters_holds w n m.tunnel (answer_in (at w.nodes (node_of m.peer)) m.answer) holds
  moved_holds n (move.ResetAnswering m) w holds = enters_holds w n m.tunnel (answer_in (at w.nodes n) m.answer) holds
  moved_holds n (move.Restored m) w holds = holds
  moved_holds n (move.Forgot m) w holds = holds
  moved_holds n (move.Queried m) w holds = holds
  moved_holds n (move.AnsweredQuery m) w holds = holds
  moved_holds n (move.TookAnswer m) w holds = holds
  moved_holds n (move.RecoveryWentOn i) w holds = holds
  moved_holds n (move.RecoveryEnded i) w holds = holds
  moved_holds n (move.Ignored i) w holds = holds

  all_hold : (n : ℕ) (ms : List Move) (w : World) → WorldHolds w → WorldHolds (moved_all n ms w)
  unfolding moved_all
  all_hold n [] w holds = holds
  all_hold n (m ∷ ms) w holds = all_hold n ms (moved n w m) (moved_holds n m w holds)

  shown_holds : (n : ℕ) (os : List Out) (w : World) → WorldHolds w → WorldHolds (shown_all n os w)
  unfolding shown_all shown sent
  shown_holds n [] w holds = holds
  shown_holds n (Send peer bytes origin ∷ os) w holds = shown_holds n os (sent w n (node_of peer) bytes origin) holds
  shown_holds n (Up session side frame ∷ os) w holds = shown_holds n os w holds
  shown_holds n (Gone session ∷ os) w holds = shown_holds n os w holds
  shown_holds n (Drop x ∷ os) w holds = shown_holds n os w holds
  shown_holds n (Cause x ∷ os) w holds = shown_holds n os w holds

  -- ---- a step

  -- what is known of what a step of a node leaves
  pub record StepHolds (node : Node) (s : Stepped) : Type 0 where
    pub sound : IsSoundBook node.checkpoint.book
    pub suits : SuitsRole node.end.role node.checkpoint.book
    pub in_place : AreInPlace node.checkpoint.book (contents_of node.end s)
    pub kept : AreKept s.end
    pub looks : LooksAreTrue s.end
    pub fit : Fits s.end
    pub book : IsBook s.end (book_after node.checkpoint.book (contents_of node.end s))
    pub calls : AllByRecursion (LeavesNone node.end.role) (contents_of node.end s)
    pub role : s.end.role ≡ node.end.role
    pub up : node.up ≡ true
    pub has : P s.end

  fallen_holds : (block : List ℕ) (before : End) (node : Node) (k : Checkpoint) → IsSoundBook k.book → SuitsRole node.end.role k.book
      → HoldsWith (fallen block before node k)
  unfolding fallen
  fallen_holds block before node k sound suits =
      (record { sound = sound; suits = suits; up = λ is. absurd (true≢false (sym is)); down = λ is. refl }, so.bare node.end.role node.end.config k.book sound)

  module _ (w : World) (number : ℕ) (holds : WorldHolds w) where
    after_holds : (n : ℕ) (node : Node) (sender : Option Sender) (s : Stepped) → HoldsWith (record node { end = s.end })
        → WorldHolds (after_step w number n node sender s).world
    unfolding after_step given
    after_holds n node sender s is =
        let ended = record node { end = s.end } in
        shown_holds n s.outputs (moved_all n s.moves (with_node w n ended)) (all_hold n s.moves (with_node w n ended) (put_holds w n ended holds is))

    cut_holds : (n : ℕ) (node : Node) (k : Checkpoint) → HoldsWith (fallen (block_of n number) node.end node k) → WorldHolds (cut_line w number n node k).world
    unfolding cut_line
    cut_holds n node k is = put_holds w n (fallen (block_of n number) node.end node k) holds is

    step_holds : (n : ℕ) (node : Node) (sender : Option Sender) (s : Stepped) → StepHolds node s
        → (x : Lined) → committed w number n node sender s ≡ Ok x → WorldHolds x.world
    step_holds n node sender s h x made =
        let rs = contents_of node.end s in
        committed_line (WorldHolds x.world) w number n node sender s x
        (λ k whole is.
        let ended = record node { end = s.end; checkpoint = k } in
        let book = whole_book node.checkpoint rs h.in_place k whole in
        let good : HoldsNode ended = record {
          sound = subst IsSoundBook (sym book) (records_keep node.checkpoint.book rs h.sound h.in_place);
          suits = subst (SuitsRole s.end.role) (sym book)
              (subst (λ r. SuitsRole r (book_after node.checkpoint.book rs)) (sym h.role) (records_suit node.end.role node.checkpoint.book rs h.suits h.calls));
          up = λ up. record { kept = h.kept; looks = h.looks; fit = h.fit; book = subst (IsBook s.end) (sym book) h.book };
          down = λ down. absurd (true≢false (sym h.up ∙ down));
        } in
        subst (λ (l : Lined). WorldHolds l.world) is (after_holds n (record node { checkpoint = k }) sender s (good, h.has)))
        (λ k cut is.
        let fell = fallen_holds (block_of n number) node.end node k (cut_book node.checkpoint rs h.sound h.in_place k cut)
        (cut_suits node.checkpoint rs node.end.role h.suits h.in_place h.calls k cut) in
        subst (λ (l : Lined). WorldHolds l.world) is (cut_holds n node k fell))
        made

    -- a node at some moment, with some hosts
    at_holds : (n : ℕ) (node : Node) → IsAt w n node → HoldsWith node
    at_holds n node is =
        let h = holds n is.before is.there in (
          holds_so is.before node
              (ap (λ (x : Node). x.end) is.same) (ap (λ (x : Node). x.up) is.same) (ap (λ (x : Node). x.checkpoint.book) is.same) h.0,
          subst P (sym (ap (λ (x : Node). x.end) is.same)) h.1,
        )

    -- ---- the start of a node that is down

    refused_start : (n : ℕ) (y : Why) (x : Lined) → started w number n (Err y) ≡ Ok x → WorldHolds x.world
    unfolding started
    refused_start n y x h = absurd (cc)

    start_holds : StartsAreBooked → (n : ℕ) (node : Node) → at w.nodes n ≡ Some node → node.up ≡ false → (x : Lined)
        → started w number n (Ok node) ≡ Ok x → WorldHolds x.world
    unfolding started
    start_holds starting n node there down x made =
        let h = (holds n node there).0 in
        let k = node.checkpoint.book in
        let r = node.end.role in
        let c = node.end.config in
        let s = starts r c k node.clock (block_of n number) in
        let b = starting r c k h.sound h.suits node.clock (block_of n number) in
        let is = sym (h.down down) in
        step_holds n (opened (block_of n number) node) None s (record {
          sound = h.sound;
          suits = h.suits;
          in_place = subst (λ (e : End). AreInPlace k (contents_of e s)) is b.in_place;
          kept = b.kept;
          looks = b.looks;
          fit = b.fit;
          book = subst (λ (e : End). IsBook s.end (book_after k (contents_of e s))) is b.book;
          calls = subst (λ (e : End). AllByRecursion (LeavesNone r) (contents_of e s)) is b.calls;
          role = b.role;
          up = refl;
          has = so.starts_so r c k h.sound h.suits node.clock (block_of n number);
        }) x made

-- ---- lines

declared_up : (o : Option Node) (node : Node) → declared o ≡ Ok node → node.up ≡ true
declared_up None node h = absurd (cc)
declared_up (Some x) node h = (is_running x node h).1

later_up : (milliseconds : ℕ) (o : Option Node) (node : Node) → later milliseconds (declared o) ≡ Ok node → node.up ≡ true
later_up milliseconds None node h = absurd (cc)
later_up milliseconds (Some x) node h = by x.up refl h
  where
    by : (b : Bool) → x.up ≡ b → later milliseconds (if b then Ok x else Err why.Down) ≡ Ok node → node.up ≡ true
    by true up h =
        let same : record x { clock = min (x.clock + milliseconds) (2 ^ 64 - 1) } ≡ node = cc in subst (λ (y : Node). y.up ≡ true) same up
    by false up h = absurd (cc)

module _ (P : End → Type 0) (so : StaysSo P) where
  module _ (chains : StepsAreChains) (looks : LooksStayTrue) (begin : LooksBeginTrue) (booked : StepsAreBooked) (starting : StartsAreBooked)
      (new : NewEndsAreBooked) where
    -- a step of a node that is up
    pub up_steps : (node : Node) → HoldsWith P so node → node.up ≡ true → (moment : ℕ) (block : List ℕ) (ev : Event) → StepHolds P so node (plain_step node.end moment block ev)
    up_steps node h up moment block ev =
        let u = h.0.up up in
        let b = booked node.end node.checkpoint.book u.kept u.fit u.book moment block ev in
        record {
          sound = h.0.sound;
          suits = h.0.suits;
          in_place = b.in_place;
          kept = (chains node.end u.kept moment block ev).kept;
          looks = looks node.end u.kept u.looks moment block ev;
          fit = b.fit;
          book = b.book;
          calls = b.calls;
          role = b.role;
          up = up;
          has = so.stays node.end u.kept u.looks u.fit h.1 moment block ev;
        }

    new_holds : (number n : ℕ) (r : Role) (lns : ℕ) (secret : Option (List ℕ)) (hide : Bool) → HoldsWith P so (new_node number n r lns secret hide)
    new_holds number n r lns secret hide =
        let c = (new_node number n r lns secret hide).end.config in
        let b = new r c [] in (
          record {
            sound = record {
              tunnel_ceiling = omega arith;
              session_ceiling = omega arith;
              draw_ceiling = omega arith;
              tunnels = tt;
              calls = tt;
              tunnels_rise = b.book.mirrors.tunnels_rise;
              calls_rise = b.book.mirrors.calls_rise;
              homes = tt;
              few_tunnels = omega arith;
              few_calls = λ i. omega arith;
            };
            suits = tt;
            up = λ up. record { kept = bare_kept r c nothing_kept; looks = begin r c; fit = b.fit; book = b.book };
            down = λ down. absurd (true≢false down);
          },
          so.new r c,
        )

    module _ (w : World) (number : ℕ) (holds : WorldHolds P so w) where
      stepped_holds : (x : Lined) (n : ℕ) (ev : Event) (sender : Option Sender) (o : Result Node Why)
          → ((node : Node) → o ≡ Ok node → HoldsWith P so node × (node.up ≡ true)) → stepped w number n ev sender o ≡ Ok x → WorldHolds P so x.world
      unfolding stepped
      stepped_holds x n ev sender (Err y) is h = absurd (cc)
      stepped_holds x n ev sender (Ok node) is h =
          let k = is node refl in
          let s = step node.end node.clock (block_of n number) ev in
          step_holds P so w number holds n node sender s
          (up_steps node k.0 k.1 node.clock (block_of n number) (uncovered_event node.end.config.secret ev)) x h

      there : (n : ℕ) (node : Node) → at w.nodes n ≡ Some node → node.up ≡ true → HoldsWith P so node × (node.up ≡ true)
      there n node is up = (holds n node is, up)

      lac_there : (n : ℕ) (node : Node) → lac_at (at w.nodes n) ≡ Ok node → HoldsWith P so node × (node.up ≡ true)
      lac_there n node e = let l = is_lac_at (at w.nodes n) node e in there n node l.0 l.2

      lns_there : (n : ℕ) (node : Node) → lns_at (at w.nodes n) ≡ Ok node → HoldsWith P so node × (node.up ≡ true)
      lns_there n node e = let l = is_lns_at (at w.nodes n) node e in there n node l.0 l.2

      any_there : (n : ℕ) (node : Node) → declared (at w.nodes n) ≡ Ok node → HoldsWith P so node × (node.up ≡ true)
      any_there n node e = there n node (is_declared (at w.nodes n) node e) (declared_up (at w.nodes n) node e)

      added_holds : (n : ℕ) (r : Role) (lns : ℕ) (secret : Option (List ℕ)) (hide : Bool) (x : Lined) → added w number n r lns secret hide ≡ Ok x → WorldHolds P so x.world
      unfolding added
      added_holds n r lns secret hide x h =
          let fresh = new_node number n r lns secret hide in
          let t = tested_not (is_some (at w.nodes n)) (quiet_line (with_node w n fresh)) (Unfit why.Twice) x h in
          subst (λ (l : Lined). WorldHolds P so l.world) t.1 (put_holds P so w n fresh holds (new_holds number n r lns secret hide))

      one_holds : (n : ℕ) (l : LacAt w n) (ev : Event) (node : Node) → IsAt w n node → node.up ≡ true → (x : Lined) → stepped w number n ev None (Ok node) ≡ Ok x
          → WorldHolds P so x.world
      one_holds n l ev node is up x h =
          stepped_holds x n ev None (Ok node)
          (λ q e. (let same : node ≡ q = cc in subst (λ (y : Node). HoldsWith P so y × (y.up ≡ true)) same (at_holds P so w number holds n node is, up))) h

      of_frame : (n : ℕ) (bytes : List ℕ) → OfFrame (λ (x : Lined). WorldHolds P so x.world) w number n bytes
      of_frame n bytes = record {
        ignored = λ l word is x h u. one_holds n l (event.Frame bytes) l.node (is_at w n l.node l.there) l.up x h;
        answered = λ l because frame is x h u. one_holds n l (event.Frame bytes) l.node (is_at w n l.node l.there) l.up x h;
        done = λ l ev is does x h. one_holds n l ev l.node (is_at w n l.node l.there) l.up x h;
        entered = λ l src uniq asked is x h u.
            one_holds n l (event.Admitted src) (with_host w number n l src uniq) (entering w number n l src uniq (with_host w number n l src uniq) refl) l.up x h;
        cut = λ l ev node is x h c. one_holds n l ev node is (still_up l node is) x h;
      }
        where
          still_up : {n : ℕ} (l : LacAt w n) (node : Node) → IsAt w n node → node.up ≡ true
          still_up l node is =
              let both : Some is.before ≡ Some l.node = sym is.there ∙ l.there in
              let same : is.before ≡ l.node = cc in
              ap (λ (x : Node). x.up) is.same ∙ ap (λ (x : Node). x.up) same ∙ l.up

    module _ (w : World) (number : ℕ) (holds : WorldHolds P so w) where
      pub line_holds : (x : Lined) (l : Line) → line w number l ≡ Ok x → WorldHolds P so x.world
      unfolding line crashed armed held_line
      line_holds x (Remark text) h = let e : quiet_line w ≡ x = cc in subst (λ (l : Lined). WorldHolds P so l.world) e holds
      line_holds x (Lac n m secret hide) h = added_holds w number holds n role.Lac (address_of m) secret hide x h
      line_holds x (Lns n secret) h = added_holds w number holds n role.Lns 0 secret false x h
      line_holds x (OpenUp n) h = stepped_holds w number holds x n event.OpenTunnel None (lac_at (at w.nodes n)) (λ node e. lac_there w number holds n node e) h
      line_holds x (Close n i) h =
          stepped_holds w number holds x n (event.CloseTunnel i) None (with_tunnel i (declared (at w.nodes n)))
          (λ node e. any_there w number holds n node (has_tunnel i (declared (at w.nodes n)) node e)) h
      line_holds x (Ring n port) h = stepped_holds w number holds x n (event.Ring port) None (lac_at (at w.nodes n)) (λ node e. lac_there w number holds n node e) h
      line_holds x (Frame n bytes) h = frame_line (λ (y : Lined). WorldHolds P so y.world) w number n bytes (of_frame w number holds n bytes) x h
      line_holds x (FromSub n session frame) h =
          stepped_holds w number holds x n (event.Payload session frame) None (with_call session (lac_at (at w.nodes n)))
          (λ node e. lac_there w number holds n node (has_call session (lac_at (at w.nodes n)) node e)) h
      line_holds x (Down n session frame) h =
          stepped_holds w number holds x n (event.Lower session frame) None (with_call session (lns_at (at w.nodes n)))
          (λ node e. lns_there w number holds n node (has_call session (lns_at (at w.nodes n)) node e)) h
      line_holds x (Hang n session) h =
          stepped_holds w number holds x n (event.Hang session) None (with_call session (lac_at (at w.nodes n)))
          (λ node e. lac_there w number holds n node (has_call session (lac_at (at w.nodes n)) node e)) h
      line_holds x (DropCall n session) h =
          stepped_holds w number holds x n (event.DropCall session) None (with_call session (declared (at w.nodes n)))
          (λ node e. any_there w number holds n node (has_call session (declared (at w.nodes n)) node e)) h
      line_holds x (Deliver p) h = deliver_line (WorldHolds P so x.world) w number x (line w number (Deliver p)) (slice_get w.packets (p - 1))
          (λ q node found is up young comes leads.
          stepped_holds w number holds x q.to (event.Datagram (address_of q.from) q.bytes) (sender_of q.from q.origin) (Ok node)
          (λ y e. (let same : node ≡ y = cc in subst (λ (z : Node). HoldsWith P so z × (z.up ≡ true)) same (there w number holds q.to node is up))) leads)
          refl h
      line_holds x (Load n p) h = load_line (λ (y : Lined). WorldHolds P so y.world) w number n (slice_get w.packets (p - 1))
          (record { dropped = λ word other. holds; held = λ f is. holds }) x h
      line_holds x (Hand n p) h = hand_line (λ (y : Lined). WorldHolds P so y.world) w number n p
          (record {
            passed = λ k other. holds;
            heard = λ k y lcp steps whole. heard k y steps;
            cut = λ k y lcp steps off. heard k y steps;
          }) x h
        where
          heard : (k : IsHeldAt w n p) (y : Lined) → stepped (taken_up w n p) number n (event.Lcp k.frame.session k.frame.frame) None (Ok k.node) ≡ Ok y → WorldHolds P so y.world
          heard k y steps =
              stepped_holds (taken_up w n p) number holds y n (event.Lcp k.frame.session k.frame.frame) None (Ok k.node)
              (λ q e. (let same : k.node ≡ q = cc in subst (λ (z : Node). HoldsWith P so z × (z.up ≡ true)) same (there w number holds n k.node k.there k.up))) steps
      line_holds x (Tick n milliseconds) h =
          stepped_holds w number holds x n event.Tick None (later milliseconds (declared (at w.nodes n)))
          (λ node e. (at_holds P so w number holds n node (at_moment w n node (is_later w n milliseconds node e)), later_up milliseconds (at w.nodes n) node e)) h
      line_holds x (Crash n) h = by (declared (at w.nodes n)) (λ node e. is_declared (at w.nodes n) node e) h
        where
          by : (o : Result Node Why) → ((node : Node) → o ≡ Ok node → at w.nodes n ≡ Some node) → crashed w number n o ≡ Ok x → WorldHolds P so x.world
          by (Err y) is h = absurd (cc)
          by (Ok node) is h =
              let e : quiet_line (without_held (with_node w n (fallen (block_of n number) node.end node node.checkpoint)) n) ≡ x = cc in
              let h = (holds n node (is node refl)).0 in
              let fell = fallen_holds P so (block_of n number) node.end node node.checkpoint h.sound h.suits in
              subst (λ (l : Lined). WorldHolds P so l.world) e (put_holds P so w n (fallen (block_of n number) node.end node node.checkpoint) holds fell)
      line_holds x (Stop n commit call kept) h = by (declared (at w.nodes n)) (λ node e. is_declared (at w.nodes n) node e) h
        where
          by : (o : Result Node Why) → ((node : Node) → o ≡ Ok node → at w.nodes n ≡ Some node)
              → armed w n (record { commit = commit; kept = kept }) o ≡ Ok x → WorldHolds P so x.world
          by (Err y) is h = absurd (cc)
          by (Ok node) is h =
              let with = record node { checkpoint = with_stop (Some (record { commit = commit; kept = kept })) node.checkpoint } in
              let e : quiet_line (with_node w n with) ≡ x = cc in
              subst (λ (l : Lined). WorldHolds P so l.world) e (put_holds P so w n with holds (let h = holds n node (is node refl) in (holds_so node with refl refl refl h.0, h.1)))
      line_holds x (Start n) h = by (down_at (at w.nodes n)) (λ node e. is_down_at (at w.nodes n) node e) h
        where
          by : (o : Result Node Why) → ((node : Node) → o ≡ Ok node → (at w.nodes n ≡ Some node) × (node.up ≡ false)) → started w number n o ≡ Ok x → WorldHolds P so x.world
          by (Err y) is h = refused_start P so w number holds n y x h
          by (Ok node) is h = let k = is node refl in start_holds P so w number holds starting n node k.0 k.1 x h
