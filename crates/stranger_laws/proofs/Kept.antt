-- What a line leaves of the tunnels to other peers than the one from which it brings a packet, in ends and in checkpoints.
use Rattle.std.proofs.Common.{◌≡◌, ℕ, false, List, refl, sym, ap, ◌∙◌, subst, Option, Some, None, Result, Ok, Err}
use Rattle.std.proofs.lemmas.Bool.{true≢false}
use Rattle.std.specs.Prelude.{◌==◌}
use Rattle.id_table.specs.Ids.{at}
use Rattle.id_table.specs.Order.{at_new, at_other}
use Rattle.wire_base.specs.declared.why.Why.{Why}
use Rattle.l2tp_header.specs.declared.header.Header.{Header}
use Rattle.l2tp_header.specs.declared.header.HeaderError.{HeaderError}
use Rattle.l2tp_header.specs.Reading.{header_of}
use Rattle.session_book.specs.Books.{Kept}
use Rattle.session_looks.specs.Frames.{Carried, Upward, Dropped}
use Rattle.schedule_text.specs.declared.line.Line.{Line}
use Rattle.schedule_text.specs.declared.line.Line.TheVariants.{Remark, Lac, Lns, OpenUp, Close, Ring, Frame, FromSub, Down, Hang, DropCall, Deliver, Load, Hand, Tick, Crash, Stop, Start}
use Rattle.end_names.specs.Names.{address_of}
use Rattle.end_model.specs.declared.event.Event.TheVariants as event
use Rattle.end_model.specs.Contents.{contents_of}
use Rattle.end_model.specs.Secrets.{uncovered_datagram}
use Rattle.end_model.specs.Tunnels.{Tunnel}
use Rattle.end_model.specs.End.{End, Stepped, step}
use Rattle.world_model.specs.declared.packet.Packet.{Packet}
use Rattle.world_model.specs.declared.refusal.Refusal.{Refusal}
use Rattle.world_model.specs.World.{World, Node, Checkpoint, Sender, Lined, Committed, IsFull, IsCut, IsWhole, block_of, after_step, commits, cut_line, settled, committed, declared, stepped, sender_of, refused_by, addressee_of, arrival, arrives, delivers_it, delivers, held_line, held_or_dropped, loads_by, loads_it, loads, line}
use Rattle.world_model.specs.Run.{run}
use Rattle.step_laws.specs.Looks.{LooksAreTrue, LooksStayTrue}
use Rattle.book_laws.specs.Books.{Mirrors, tunnel_record, record_in, place_record, StepsAreBooked, CallsAreByPlace}
use Rattle.node_laws.specs.Nodes.{HoldsUp, HoldsNode, NodesOfRuns}
use Rattle.node_laws.proofs.Nodes.{whole_book}
use Rattle.recovery_laws.proofs.Alike.{stepped_like}
use Rattle.stranger_laws.specs.Lines.{Brings}
use Rattle.stranger_laws.specs.Others.{IsSame, DatagramsLeaveOthersAlone, IsSameInBook, KeepsTunnel, LeavesOthersAlone, LinesLeaveOthersAlone}
use Rattle.stranger_steps.proofs.Turns.{branch}

-- ---- books

-- where an end and a later one have the same tunnel, with the same places of its calls, their books have the same of it
same_in_books : CallsAreByPlace → (e x : End) (before after : Kept) → LooksAreTrue e → LooksAreTrue x → Mirrors e before → Mirrors x after
    → (i : ℕ) (t : Tunnel) → at e.tunnels i ≡ Some t → IsSame e i t x → IsSameInBook i t before after
same_in_books by_place e x before after looks later mirrors follows i t there same = record {
  tunnel = follows.tunnels i ∙ (ap (tunnel_record i) same.tunnel ∙ sym (mirrors.tunnels i ∙ ap (tunnel_record i) there));
  calls = λ q c live.
      (let seen = looks.seen i t there q c live in
      by_place x after later follows q
      ∙ (ap (place_record x q) (same.places q c live ∙ seen)
      ∙ (ap (record_in i q) (same.tunnel ∙ sym there) ∙ sym (by_place e before looks mirrors q ∙ ap (place_record e q) seen))));
}

-- ---- lines

module _ (stay : LooksStayTrue) (booked : StepsAreBooked) (by_place : CallsAreByPlace) (alone : DatagramsLeaveOthersAlone)
    (w : World) (number n peer : ℕ) where
  abbrev Right : Lined → Type 0
  Right x = x.cut ≡ false → LeavesOthersAlone w n peer x

  abbrev FitsLine : Result Lined Refusal → Type 0
  FitsLine (Err r) = Unit {0}
  FitsLine (Ok x) = Right x

  same_node : (k : ℕ) (a b : Node) → at w.nodes k ≡ Some a → at w.nodes k ≡ Some b → a ≡ b
  same_node k a b one two = let both : Some a ≡ Some b = sym one ∙ two in cc

  -- a tunnel of a node that is as it was
  keeps_itself : (node : Node) (i : ℕ) (t : Tunnel) → at node.end.tunnels i ≡ Some t → KeepsTunnel node i t node
  keeps_itself node i t there = record {
    end = record { tunnel = there; places = λ q c live. refl };
    book = record { tunnel = refl; calls = λ q c live. refl };
  }

  -- where the nodes are those that were
  still_right : (x : Lined) → x.world.nodes ≡ w.nodes → LeavesOthersAlone w n peer x
  still_right x is = record {
    tunnels = λ old new was now i t there other.
        subst (λ q. KeepsTunnel old i t q) (same_node n old new was (ap (λ q. at q n) (sym is) ∙ now)) (keeps_itself old i t there);
    nodes = λ m apart old new was now.
        (let same = same_node m old new was (ap (λ q. at q m) (sym is) ∙ now) in
        (ap (λ (q : Node). q.end) (sym same), ap (λ (q : Node). q.checkpoint) (sym same)));
  }

  module _ (node : Node) (there : at w.nodes n ≡ Some node) (holds : HoldsUp node) (bytes : List ℕ) where
    abbrev gave : Stepped
    gave = step node.end node.clock (block_of n number) (event.Datagram peer bytes)

    abbrev After : Checkpoint → Node
    After k = record node { checkpoint = k; end = gave.end }

    -- the step keeps such a tunnel, and so does the book with its records
    keeps_so : (k : Checkpoint) → commits node.checkpoint (contents_of node.end gave) ≡ IsWhole k → (i : ℕ) (t : Tunnel)
        → at node.end.tunnels i ≡ Some t → (t.control.peer ≡ peer → ⊥) → (new : Node) → new.end ≡ gave.end → new.checkpoint ≡ k
        → KeepsTunnel node i t new
    keeps_so k is i t tunnel other new end checkpoint =
        let block = block_of n number in
        let ev = event.Datagram peer (uncovered_datagram node.end.config.secret bytes) in
        let b = booked node.end node.checkpoint.book holds.kept holds.fit holds.book node.clock block ev in
        let book_is = whole_book node.checkpoint (contents_of node.end gave) b.in_place k is in
        let follows = subst (Mirrors gave.end) (sym book_is) b.book.mirrors in
        let same = (alone node.end holds.kept holds.looks node.clock block peer bytes i t tunnel other).same in
        let later = stay node.end holds.kept holds.looks node.clock block ev in
        let before = node.checkpoint.book in
        let books = same_in_books by_place node.end gave.end before k.book holds.looks later holds.book.mirrors follows i t tunnel same in
        record {
          end = subst (IsSame node.end i t) (sym end) same;
          book = subst (λ (c : Checkpoint). IsSameInBook i t node.checkpoint.book c.book) (sym checkpoint) books;
        }

    after_right : (k : Checkpoint) (sender : Option Sender) → commits node.checkpoint (contents_of node.end gave) ≡ IsWhole k
        → LeavesOthersAlone w n peer (after_step w number n (record node { checkpoint = k }) sender gave)
    after_right k sender is = record {
      tunnels = λ old new was now i t tunnel other.
          (let l = stepped_like w number n (record node { checkpoint = k }) sender gave n new now in
          let both : Some (After k) ≡ Some l.old = sym (at_new w.nodes n (After k)) ∙ l.was in
          let stepped_is : After k ≡ l.old = cc in
          let same = same_node n node old there was in
          subst (λ (q : Node). KeepsTunnel q i t new) same
          (keeps_so k is i t (subst (λ (q : Node). at q.end.tunnels i ≡ Some t) (sym same) tunnel) other new
          (l.like.end ∙ ap (λ (q : Node). q.end) (sym stepped_is)) (l.like.checkpoint ∙ ap (λ (q : Node). q.checkpoint) (sym stepped_is))));
      nodes = λ m apart old new was now.
          (let l = stepped_like w number n (record node { checkpoint = k }) sender gave m new now in
          let same = same_node m l.old old (sym (at_other w.nodes n (After k) m apart) ∙ l.was) was in
          (l.like.end ∙ ap (λ (q : Node). q.end) same, l.like.checkpoint ∙ ap (λ (q : Node). q.checkpoint) same));
    }

    committed_right : (sender : Option Sender) → FitsLine (committed w number n node sender gave)
    unfolding committed settled cut_line
    committed_right sender = by (commits node.checkpoint (contents_of node.end gave)) refl
      where
        by : (c : Committed) → commits node.checkpoint (contents_of node.end gave) ≡ c → FitsLine (settled w number n node sender gave c)
        by (IsFull records) is = tt
        by (IsCut k) is = λ uncut. absurd (true≢false uncut)
        by (IsWhole k) is = λ uncut. after_right k sender is

  module _ (holds : (node : Node) → at w.nodes n ≡ Some node → HoldsNode node) where
    -- ---- a packet that is delivered

    arrived_right : (node : Node) → at w.nodes n ≡ Some node → HoldsUp node → (p : Packet) → p.to ≡ n → address_of p.from ≡ peer
        → (o : Option Refusal) → FitsLine (arrives w number p node o)
    unfolding arrives stepped
    arrived_right node there up p to from (Some r) = tt
    arrived_right node there up p to from None =
        let sender = sender_of p.from p.origin in
        subst (λ m. FitsLine (stepped w number m (event.Datagram (address_of p.from) p.bytes) sender (Ok node))) (sym to)
        (subst (λ q. FitsLine (committed w number n node (sender_of p.from p.origin)
        (step node.end node.clock (block_of n number) (event.Datagram q p.bytes)))) (sym from)
        (committed_right node there up p.bytes (sender_of p.from p.origin)))

    delivered_right : (p : Packet) → p.to ≡ n → address_of p.from ≡ peer → FitsLine (delivers w number (Some p))
    unfolding delivers delivers_it arrival addressee_of
    delivered_right p to from =
        subst (λ o. FitsLine (delivers_it w number (addressee_of p o))) (sym (ap (λ m. at w.nodes m) to)) (by (at w.nodes n) refl)
      where
        by : (o : Option Node) → at w.nodes n ≡ o → FitsLine (delivers_it w number (addressee_of p o))
        by None is = tt
        by (Some node) is =
            branch (λ (q : Result (Packet × Node) Why). FitsLine (delivers_it w number q)) node.up _ _
            (λ up. arrived_right node is ((holds node is).up up) p to from (refused_by w p node p.origin))
            (λ down. tt)

    -- ---- a packet that is loaded: a frame is held, and nothing else

    carried_right : (session : ℕ) (c : Carried) → Right (held_or_dropped w number n session c)
    unfolding held_or_dropped held_line
    carried_right session (Dropped x) = λ uncut. still_right _ refl
    carried_right session (Upward tunnel to side f) = λ uncut. still_right _ refl

    loaded_by : (e : End) (from : ℕ) (bytes : List ℕ) (r : Result Header HeaderError) → FitsLine (loads_by w number n e from bytes r)
    unfolding loads_by
    loaded_by e from bytes (Err x) = λ uncut. still_right _ refl
    loaded_by e from bytes (Ok h) = branch FitsLine h.control _ _ (λ control. tt) (λ data_is. carried_right h.session _)

    loaded_right : (p : Packet) → FitsLine (loads w number n (Some p) (declared (at w.nodes n)))
    unfolding loads loads_it
    loaded_right p = by (at w.nodes n)
      where
        by : (o : Option Node) → FitsLine (loads w number n (Some p) (declared o))
        by None = tt
        by (Some node) =
            branch (λ (q : Result Node Why). FitsLine (loads w number n (Some p) q)) node.up _ _
            (λ up. branch FitsLine (p.to == n) _ _
            (λ here. loaded_by node.end (address_of p.from) p.bytes (header_of p.bytes))
            (λ elsewhere. tt))
            (λ down. tt)

    brought_right : (l : Line) (p : Packet) → Brings w l p n → address_of p.from ≡ peer → FitsLine (line w number l)
    unfolding line
    brought_right (Deliver k) p brings from = subst (λ o. FitsLine (delivers w number o)) (sym brings.0) (delivered_right p brings.1 from)
    brought_right (Load m k) p brings from =
        subst (λ o. FitsLine (loads w number m o (declared (at w.nodes m)))) (sym brings.0)
        (subst (λ q. FitsLine (loads w number q (Some p) (declared (at w.nodes q)))) (sym brings.1) (loaded_right p))
    brought_right (Remark text) p brings from = absurd brings
    brought_right (Lac k m secret hide) p brings from = absurd brings
    brought_right (Lns k secret) p brings from = absurd brings
    brought_right (OpenUp k) p brings from = absurd brings
    brought_right (Close k i) p brings from = absurd brings
    brought_right (Ring k port) p brings from = absurd brings
    brought_right (Frame k bytes) p brings from = absurd brings
    brought_right (FromSub k session frame) p brings from = absurd brings
    brought_right (Down k session frame) p brings from = absurd brings
    brought_right (Hang k session) p brings from = absurd brings
    brought_right (DropCall k session) p brings from = absurd brings
    brought_right (Hand k h) p brings from = absurd brings
    brought_right (Tick k milliseconds) p brings from = absurd brings
    brought_right (Crash k) p brings from = absurd brings
    brought_right (Stop k commit call kept) p brings from = absurd brings
    brought_right (Start k) p brings from = absurd brings

-- ---- after every list of lines

pub lines_leave_others_alone : LooksStayTrue → StepsAreBooked → CallsAreByPlace → DatagramsLeaveOthersAlone → NodesOfRuns
    → LinesLeaveOthersAlone
lines_leave_others_alone stay booked by_place alone nodes lines fits number l x h uncut packet n brings =
    let w = (run lines).world in
    let peer = address_of packet.from in
    subst (FitsLine stay booked by_place alone w number n peer) h
    (brought_right stay booked by_place alone w number n peer (λ node there. nodes lines fits n node there) l packet brings refl) uncut
