-- What a line does that brings a node a packet of a stranger.
use Rattle.std.proofs.Common.{◌≡◌, ℕ, suc, ◌≤◌, true, List, [], ◌∷◌, ◌++◌, map, length, refl, sym, ap, ◌∙◌, subst, Option, Some, None, Result, Ok, Err, is_some, arith}
use Rattle.std.proofs.lemmas.List.{append-nil, append_assoc}
use Rattle.std.specs.Prelude.{◌==◌}
use Rattle.std.specs.List.{AllByRecursion}
use Rattle.id_table.specs.Ids.{at}
use Rattle.id_table.specs.Order.{at_new, at_other}
use Rattle.wire_base.specs.declared.why.Why.{Why}
use Rattle.l2tp_header.specs.declared.header.Header.{Header}
use Rattle.l2tp_header.specs.declared.header.HeaderError.{HeaderError}
use Rattle.l2tp_header.specs.Reading.{header_of, body_of}
use Rattle.session_looks.specs.Frames.{Carried, Upward, Dropped, carry_look, frame_of, header_why}
use Rattle.schedule_text.specs.declared.line.Line.{Line}
use Rattle.schedule_text.specs.declared.line.Line.TheVariants.{Remark, Lac, Lns, OpenUp, Close, Ring, Frame, FromSub, Down, Hang, DropCall, Deliver, Load, Hand, Tick, Crash, Stop, Start}
use Rattle.end_names.specs.declared.role.Role.{Role}
use Rattle.end_names.specs.Names.{address_of, node_of}
use Rattle.end_model.specs.declared.event.Event.TheVariants as event
use Rattle.end_model.specs.declared.moves.Move.{Move}
use Rattle.end_model.specs.declared.out.Out.{Out}
use Rattle.end_model.specs.declared.out.Out.TheVariants.{Send, Up, Gone, Drop, Cause}
use Rattle.end_model.specs.Contents.{contents_of}
use Rattle.end_model.specs.End.{Stepped, look_in, step}
use Rattle.world_model.specs.declared.packet.Packet.{Packet}
use Rattle.world_model.specs.declared.refusal.Refusal.{Refusal}
use Rattle.world_model.specs.World.{World, Node, Checkpoint, Sender, Deed, Lined, Committed, IsFull, IsCut, IsWhole, with_node, deed_of, block_of, epoch_sent, packet_from, moved, moved_all, sent, shown, entry_of, shown_all, entries_of, given, after_step, commits, fallen, cut_line, settled, committed, declared, stepped, sender_of, refused_by, addressee_of, arrival, arrives, delivers_it, delivers, dropped_line, held_or_dropped, loads_by, loads_it, loads, line}
use Rattle.world_model.specs.Run.{run}
use Rattle.node_laws.specs.Nodes.{EndsOfRuns}
use Rattle.stranger_steps.specs.Strangers.{LooksFitTunnels, IsStranger, AsItWas, IsOnlyTo, sends_in, IsOfOpening, ChangesNothing, StrangersChangeNothing}
use Rattle.stranger_laws.specs.Looks.{TrueLooksFit}
use Rattle.stranger_laws.specs.Lines.{Brings, HasAllOf, NodeLeft, Stays, Stops, GoesBack, TellsOnly, ChangesNoCall, StrangersChangeNoCall, AddressesAreOfNodes}
use Rattle.stranger_steps.proofs.Turns.{branch}
use Rattle.stranger_steps.proofs.Strangers.{by_opening, none_upward}
use Rattle.stranger_laws.proofs.Committing.{all_of_itself, HasAll, committed_has}

-- ---- moves and outputs of such a step in a world

moved_same : (n : ℕ) (v : World) (m : Move) → IsOfOpening m → moved n v m ≡ v
unfolding moved
moved_same n v m of = by_opening (λ q. moved n v q ≡ v) (λ q. refl) (λ q. refl) (λ q. refl) (λ q. refl) m of

all_moved_same : (n : ℕ) (ms : List Move) (v : World) → AllByRecursion IsOfOpening ms → moved_all n ms v ≡ v
unfolding moved_all
all_moved_same n [] v of = refl
all_moved_same n (m ∷ ms) v of = all_moved_same n ms (moved n v m) of.1 ∙ moved_same n v m of.0

-- a world with more packets, which go back, and otherwise the same
record ShowsOnly (n peer : ℕ) (os : List Out) (v u : World) : Type 0 where
  nodes : u.nodes ≡ v.nodes
  born : u.born ≡ v.born
  loads : u.loads ≡ v.loads
  more : List Packet
  packets : u.packets ≡ v.packets ++ more
  back : AllByRecursion (GoesBack n peer) more
  count : length more ≡ sends_in os

shows_none : (n peer : ℕ) (v : World) → ShowsOnly n peer [] v v
unfolding sends_in
shows_none n peer v = record {
  nodes = refl;
  born = refl;
  loads = refl;
  more = [];
  packets = sym (append-nil v.packets);
  back = tt;
  count = refl;
}

-- what isn't sent changes nothing
shows_same : (n peer : ℕ) (o : Out) (os : List Out) (v u : World) → sends_in (o ∷ os) ≡ sends_in os → ShowsOnly n peer os v u
    → ShowsOnly n peer (o ∷ os) v u
shows_same n peer o os v u none h = record {
  nodes = h.nodes;
  born = h.born;
  loads = h.loads;
  more = h.more;
  packets = h.packets;
  back = h.back;
  count = h.count ∙ sym none;
}

all_shown : (n peer : ℕ) (os : List Out) (v : World) → AllByRecursion (IsOnlyTo peer) os → ShowsOnly n peer os v (shown_all n os v)
unfolding shown_all shown sent sends_in
all_shown n peer [] v only = shows_none n peer v
all_shown n peer (Send to bytes origin ∷ os) v only =
    let p = packet_from n (node_of to) bytes origin (epoch_sent v n origin) in
    let h = all_shown n peer os (record v { packets = v.packets ++ p ∷ [] }) only.1 in
    record {
      nodes = h.nodes;
      born = h.born;
      loads = h.loads;
      more = p ∷ h.more;
      packets = h.packets ∙ append_assoc v.packets (p ∷ []) h.more;
      back = ((refl, ap node_of only.0), h.back);
      count = ap suc h.count;
    }
all_shown n peer (Up session side frame ∷ os) v only = absurd only.0
all_shown n peer (Gone session ∷ os) v only = absurd only.0
all_shown n peer (Drop x ∷ os) v only = shows_same n peer (Drop x) os v (shown_all n os v) refl (all_shown n peer os v only.1)
all_shown n peer (Cause x ∷ os) v only = shows_same n peer (Cause x) os v (shown_all n os v) refl (all_shown n peer os v only.1)

all_told : (number n peer : ℕ) (os : List Out) (v : World) → AllByRecursion (IsOnlyTo peer) os
    → AllByRecursion (TellsOnly n peer) (entries_of number n os v)
unfolding entries_of entry_of shown
all_told number n peer [] v only = tt
all_told number n peer (Send to bytes origin ∷ os) v only =
    ((refl, ap node_of only.0), all_told number n peer os (sent v n (node_of to) bytes origin) only.1)
all_told number n peer (Up session side frame ∷ os) v only = absurd only.0
all_told number n peer (Gone session ∷ os) v only = absurd only.0
all_told number n peer (Drop x ∷ os) v only = (refl, all_told number n peer os v only.1)
all_told number n peer (Cause x ∷ os) v only = (refl, all_told number n peer os v only.1)

abbrev OfOpening : Deed → Type 0
OfOpening d = IsOfOpening d.move

all_done : (v : World) (number n : ℕ) (r : Role) (sender : Option Sender) (ms : List Move) → AllByRecursion IsOfOpening ms
    → AllByRecursion OfOpening (map (λ m. deed_of v number n r sender m) ms)
all_done v number n r sender [] of = tt
all_done v number n r sender (m ∷ ms) of = (of.0, all_done v number n r sender ms of.1)

-- ---- lines

module _ (w : World) (number n : ℕ) (node : Node) (there : at w.nodes n ≡ Some node) (peer : ℕ) where
  abbrev Right : Lined → Type 0
  Right x = ChangesNoCall w n node peer x

  abbrev Fits : Result Lined Refusal → Type 0
  Fits (Err r) = Unit {0}
  Fits (Ok x) = Right x

  -- what is shown behind a world in which the node is another
  given_right : (new : Node) (v : World) (r : Role) (sender : Option Sender) (s : Stepped) → NodeLeft node peer new
      → ChangesNothing node.end peer s → v ≡ with_node w n new → Right (given v number n r sender s)
  unfolding given
  given_right new v r sender s left h is =
      let g = all_shown n peer s.outputs v h.outputs in
      let nodes = g.nodes ∙ ap (λ (u : World). u.nodes) is in
      record {
        left = (new, ap (λ q. at q n) nodes ∙ at_new w.nodes n new, left);
        others = λ m apart. ap (λ q. at q m) nodes ∙ at_other w.nodes n new m apart;
        packets = (g.more, g.packets ∙ ap (λ (u : World). u.packets ++ g.more) is, g.back, subst (λ k. k ≤ 1) (sym g.count) h.packets);
        born = g.born ∙ ap (λ (u : World). u.born) is;
        loads = g.loads ∙ ap (λ (u : World). u.loads) is;
        entries = all_told number n peer s.outputs v h.outputs;
        done = all_done v number n r sender s.moves h.moves;
      }

  whole_right : (k : Checkpoint) (sender : Option Sender) (s : Stepped) → HasAllOf node.checkpoint.book k.book
      → ChangesNothing node.end peer s → Right (after_step w number n (record node { checkpoint = k }) sender s)
  unfolding after_step
  whole_right k sender s has h =
      let new = record node { checkpoint = k; end = s.end } in
      given_right new (moved_all n s.moves (with_node w n new)) node.end.role sender s (Stays s.end k h.end has refl) h
      (all_moved_same n s.moves (with_node w n new) h.moves)

  cut_right : (k : Checkpoint) → HasAllOf node.checkpoint.book k.book → is_some node.checkpoint.stop ≡ true
      → Right (cut_line w number n node k)
  unfolding cut_line fallen
  cut_right k has armed =
      let new = fallen (block_of n number) node.end node k in
      record {
        left = (new, at_new w.nodes n new, Stops armed refl has);
        others = λ m apart. at_other w.nodes n new m apart;
        packets = ([], sym (append-nil w.packets), tt, omega arith);
        born = refl;
        loads = refl;
        entries = (refl, tt);
        done = tt;
      }

  committed_right : (sender : Option Sender) (s : Stepped) → ChangesNothing node.end peer s → Fits (committed w number n node sender s)
  unfolding committed settled
  committed_right sender s h =
      by (commits node.checkpoint (contents_of node.end s)) (committed_has node.checkpoint (contents_of node.end s) h.records)
    where
      by : (c : Committed) → HasAll node.checkpoint c → Fits (settled w number n node sender s c)
      by (IsFull records) has = tt
      by (IsCut k) has = cut_right k has.0 has.1
      by (IsWhole k) has = whole_right k sender s has h

  -- nothing is there that is new
  dropped_right : (x : Why) → Right (dropped_line w number n x)
  dropped_right x = record {
    left = (node, there, Stays node.end node.checkpoint (AsItWas refl) (all_of_itself node.checkpoint.book) refl);
    others = λ m apart. refl;
    packets = ([], sym (append-nil w.packets), tt, omega arith);
    born = refl;
    loads = refl;
    entries = (refl, tt);
    done = tt;
  }

  -- ---- a packet that is delivered

  module _ (steps : StrangersChangeNothing) (looks : LooksFitTunnels node.end) (stranger : IsStranger node.end peer) where
    arrived_right : (p : Packet) → p.to ≡ n → address_of p.from ≡ peer → (o : Option Refusal) → Fits (arrives w number p node o)
    unfolding arrives stepped
    arrived_right p to from (Some r) = tt
    arrived_right p to from None =
        subst (λ m. Fits (stepped w number m (event.Datagram (address_of p.from) p.bytes) (sender_of p.from p.origin) (Ok node))) (sym to)
        (committed_right (sender_of p.from p.origin)
        (step node.end node.clock (block_of n number) (event.Datagram (address_of p.from) p.bytes))
        (subst (λ q. ChangesNothing node.end peer (step node.end node.clock (block_of n number) (event.Datagram q p.bytes))) (sym from)
        (steps node.end node.clock (block_of n number) (event.Datagram peer p.bytes) peer p.bytes refl looks stranger)))

    delivered_right : (p : Packet) → p.to ≡ n → address_of p.from ≡ peer → Fits (delivers w number (Some p))
    unfolding delivers delivers_it arrival addressee_of
    delivered_right p to from =
        subst (λ o. Fits (delivers_it w number (addressee_of p o))) (sym (ap (λ m. at w.nodes m) to ∙ there))
        (branch (λ (q : Result (Packet × Node) Why). Fits (delivers_it w number q)) node.up _ _
        (λ up. arrived_right p to from (refused_by w p node p.origin))
        (λ down. tt))

    -- ---- a packet that is loaded

    carried_right : (h : Header) (frame : List ℕ) (c : Carried)
        → carry_look node.end.role (look_in (at node.end.calls h.session)) peer h frame ≡ c → Right (held_or_dropped w number n h.session c)
    unfolding held_or_dropped
    carried_right h frame (Dropped x) is = dropped_right x
    carried_right h frame (Upward tunnel to side f) is = absurd (none_upward node.end looks peer stranger h frame tunnel to side f is)

    loaded_by : (bytes : List ℕ) (r : Result Header HeaderError) → Fits (loads_by w number n node.end peer bytes r)
    unfolding loads_by
    loaded_by bytes (Err x) = dropped_right (header_why x)
    loaded_by bytes (Ok h) =
        branch Fits h.control _ _ (λ control. tt) (λ data_is. carried_right h (frame_of (body_of bytes h)) _ refl)

    loaded_right : (p : Packet) → address_of p.from ≡ peer → Fits (loads w number n (Some p) (declared (at w.nodes n)))
    unfolding loads loads_it
    loaded_right p from =
        subst (λ o. Fits (loads w number n (Some p) (declared o))) (sym there)
        (branch (λ (q : Result Node Why). Fits (loads w number n (Some p) q)) node.up _ _
        (λ up. branch Fits (p.to == n) _ _
        (λ here.
        subst (λ q. Fits (loads_by w number n node.end q p.bytes (header_of p.bytes))) (sym from) (loaded_by p.bytes (header_of p.bytes)))
        (λ elsewhere. tt))
        (λ down. tt))

    brought_right : (l : Line) (p : Packet) → Brings w l p n → address_of p.from ≡ peer → Fits (line w number l)
    unfolding line
    brought_right (Deliver k) p brings from = subst (λ o. Fits (delivers w number o)) (sym brings.0) (delivered_right p brings.1 from)
    brought_right (Load m k) p brings from =
        subst (λ o. Fits (loads w number m o (declared (at w.nodes m)))) (sym brings.0)
        (subst (λ q. Fits (loads w number q (Some p) (declared (at w.nodes q)))) (sym brings.1) (loaded_right p from))
    brought_right (Remark text) p brings from = absurd brings
    brought_right (Lac k m secret hide) p brings from = absurd brings
    brought_right (Lns k secret) p brings from = absurd brings
    brought_right (OpenUp k) p brings from = absurd brings
    brought_right (Close k i) p brings from = absurd brings
    brought_right (Ring k port) p brings from = absurd brings
    brought_right (Frame k bytes) p brings from = absurd brings
    brought_right (FromSub k session frame) p brings from = absurd brings
    brought_right (Down k session frame) p brings from = absurd brings
    brought_right (Hang k session) p brings from = absurd brings
    brought_right (DropCall k session) p brings from = absurd brings
    brought_right (Hand k h) p brings from = absurd brings
    brought_right (Tick k milliseconds) p brings from = absurd brings
    brought_right (Crash k) p brings from = absurd brings
    brought_right (Stop k commit call kept) p brings from = absurd brings
    brought_right (Start k) p brings from = absurd brings

-- ---- after every list of lines

pub strangers_change_no_call : EndsOfRuns → TrueLooksFit → StrangersChangeNothing → StrangersChangeNoCall
strangers_change_no_call ends fit steps lines fits number l x h packet n brings node there stranger =
    let w = (run lines).world in
    let peer = address_of packet.from in
    subst (Fits w number n node there peer) h
    (brought_right w number n node there peer steps (fit node.end (ends lines fits n node there).1) stranger l packet brings refl)

pub addresses_are_of_nodes : AddressesAreOfNodes
unfolding node_of address_of
addresses_are_of_nodes n lt = omega arith
