-- What a step of a node, or a start, leaves of the world.
use Rattle.end_names.specs.declared.role.Role.TheVariants.{Lac, Lns}
use Rattle.std.proofs.Common.{◌≡◌, ◌⊎◌, inl, ⊎_elim, ℕ, Bool, true, ◌+◌, ◌-◌, ◌^◌, ◌<◌, ◌≤◌, List, [], ◌∷◌, ◌++◌, refl, sym, ap, ◌∙◌, subst, subst₂, Option, Some, None, arith, append_assoc, flat_map}
use Rattle.std.proofs.lemmas.List.{append-nil}
use Rattle.std.proofs.lemmas.Option.{none-some}
use Rattle.std.specs.Prelude.{unwrap_or}
use Rattle.std.specs.List.{AllByRecursion}
use Rattle.id_table.specs.Ids.{at}
use Rattle.id_table.specs.Order.{at_new, at_other, same_or_not}
use Rattle.l2tp_header.specs.Spelling.{control_bytes, data_bytes}
use Rattle.avp_codec.specs.Spelling.{spelling}
use Rattle.recv_window.specs.Window.{on_wire}
use Rattle.control_channel.specs.Numbers.{place_of}
use Rattle.control_message.specs.Pairs.{pairs_of}
use Rattle.control_message.specs.declared.message.Message.{Message}
use Rattle.control_message.specs.declared.message.Message.TheVariants.{StopCcn}
use Rattle.schedule_text.specs.declared.line.Line.{Line}
use Rattle.schedule_text.specs.declared.line.Line.TheVariants as line_of
use Rattle.end_model.specs.Access.{Access}
use Rattle.end_model.specs.declared.event.Event.{Event}
use Rattle.end_model.specs.declared.event.Event.TheVariants.{Datagram, Ring, Payload, Lower, Lcp, Hang, OpenTunnel, DropCall, CloseTunnel, Tick, Frame, Admitted}
use Rattle.end_model.specs.declared.moves.FrameSent.{FrameSent}
use Rattle.end_model.specs.declared.moves.FrameUp.{FrameUp}
use Rattle.end_model.specs.declared.moves.Move.{Move}
use Rattle.end_model.specs.declared.moves.Move.TheVariants as move
use Rattle.end_model.specs.declared.out.Out.{Out}
use Rattle.end_model.specs.declared.out.Out.TheVariants.{Send, Up, Gone, Drop, Cause}
use Rattle.end_model.specs.declared.out.Origin.{Origin}
use Rattle.end_model.specs.declared.out.Origin.TheVariants as origin
use Rattle.world_model.specs.declared.packet.Packet.{Packet}
use Rattle.end_names.specs.declared.role.Role.{Role}
use Rattle.end_names.specs.Names.{address_of, node_of}
use Rattle.l2tp_header.specs.Reading.{body_of}
use Rattle.end_model.specs.Tunnels.{Tunnel, Recovering, connection_of}
use Rattle.end_model.specs.End.{End, Stepped}
use Rattle.world_model.specs.World.{World, Node, Checkpoint, Sender, Deed, Lined, with_node, moved_all, epoch_sent, packet_from, sent, shown, shown_all, given, after_step}
use Rattle.step_laws.specs.Letters.{Among, IsOfRecovery, Carries, ALetter, Nothing, AFrame, InRecovery, NothingInRecovery, HasOutput}
use Rattle.step_laws.specs.Looks.{LooksAreTrue}
use Rattle.step_laws.specs.Ups.{ups_of_output, ups_of_move}
use Rattle.book_laws.specs.Books.{Mirrors}
use Rattle.step_laws.specs.Links.{WhySent, IsGiven, IsOfLink}
use Rattle.step_laws.specs.Steps.{InChain, IsOfMoves, IsDecline, IsChain, IsOfNoStart}
use Rattle.frame_laws.specs.Unrecovered.{IsMain}
use Rattle.step_laws.specs.Codes.{decline_codes_fit}
use Rattle.frame_laws.specs.Codecs.{Codecs}
use Rattle.frame_laws.specs.Past.{Passage, sent_in, handed_in}
use Rattle.frame_laws.specs.Frames.{WasSent, IsCarried, other_end, gives_frame, GivesByFrame, GivesInMoves, GivesByLink, GivesByStart}
use Rattle.frame_laws.proofs.Facts.{Nodes, Plays, Grows, Mates, WasSentInCall, ReadOk, BytesOk, PacketOk, LetterOk, EndOk, NodeOk, Holds, HeldIsSent, held_later, among_left, among_right, packets_later, node_later, node_like_ok, end_later, all_map, all_push, all_at, grows_on}
use Rattle.frame_laws.proofs.Changes.{birth_is, role_there, Changed, grows, NoBirth}
use Rattle.frame_laws.proofs.Births.{is_lns, Counted, counted_after}
use Rattle.frame_laws.proofs.Leads.{Heard, heard_later, At, node_again}
use Rattle.frame_laws.proofs.Alike.{AreLike}
use Rattle.frame_laws.proofs.EachMove.{Founded, all_later}
use Rattle.frame_laws.proofs.Books.{mirrored_book}
use Rattle.frame_laws.proofs.RecoveryLetters.{said_by}
use Rattle.frame_laws.proofs.Chains.{moved_more, FoundedAt, founded_then, Ran, ran, all_main, SentThen, sent_then, same_role}
use Rattle.frame_laws.proofs.Declining.{declined_fits}
use Rattle.frame_laws.proofs.Datagrams.{message_ok, letter_ok, alone_ok, frame_ok}
use Rattle.frame_laws.specs.Reports.{ups_in, told_of}
use Rattle.frame_laws.proofs.Held.{moved_held, shown_held}
use Rattle.frame_laws.proofs.Ups.{ups_told}
use Rattle.frame_laws.proofs.Deeds.{all_before, all_behind, all_among, done_among, deeds, each_done, sends, hands, each_sent, each_handed, sent_among}

-- ---- what is shown

pub shown_nodes : (n : ℕ) (os : List Out) (w : World) → (shown_all n os w).nodes ≡ w.nodes
unfolding shown_all shown sent
shown_nodes n [] w = refl
shown_nodes n (Send peer bytes origin ∷ os) w = shown_nodes n os (sent w n (node_of peer) bytes origin)
shown_nodes n (Up session side frame ∷ os) w = shown_nodes n os w
shown_nodes n (Gone session ∷ os) w = shown_nodes n os w
shown_nodes n (Drop x ∷ os) w = shown_nodes n os w
shown_nodes n (Cause x ∷ os) w = shown_nodes n os w

shown_born : (n : ℕ) (os : List Out) (w : World) → (shown_all n os w).born ≡ w.born
unfolding shown_all shown sent
shown_born n [] w = refl
shown_born n (Send peer bytes origin ∷ os) w = shown_born n os (sent w n (node_of peer) bytes origin)
shown_born n (Up session side frame ∷ os) w = shown_born n os w
shown_born n (Gone session ∷ os) w = shown_born n os w
shown_born n (Drop x ∷ os) w = shown_born n os w
shown_born n (Cause x ∷ os) w = shown_born n os w

-- what is to hold of the bytes that are sent
abbrev SendOk : (ℕ → List ℕ → Type 0) → Out → Type 0
SendOk B (Send peer bytes origin) = B (node_of peer) bytes
SendOk B (Up session side frame) = Unit {0}
SendOk B (Gone session) = Unit {0}
SendOk B (Drop x) = Unit {0}
SendOk B (Cause x) = Unit {0}

shown_packets : (calm : Bool) (ns : Nodes) (gs : List Passage) (n : ℕ) → n < 256 → (os : List Out) (w : World)
    → AllByRecursion (SendOk (λ to bytes. BytesOk calm ns gs n to bytes)) os → AllByRecursion (PacketOk calm ns gs) w.packets
    → AllByRecursion (PacketOk calm ns gs) (shown_all n os w).packets
unfolding shown_all shown sent
shown_packets calm ns gs n lt [] w ok had = had
shown_packets calm ns gs n lt (Send peer bytes origin ∷ os) w ok had =
    shown_packets calm ns gs n lt os (sent w n (node_of peer) bytes origin) ok.1
    (all_push (PacketOk calm ns gs) w.packets _ had (record { from = lt; bytes = ok.0 }))
shown_packets calm ns gs n lt (Up session side frame ∷ os) w ok had = shown_packets calm ns gs n lt os w ok.1 had
shown_packets calm ns gs n lt (Gone session ∷ os) w ok had = shown_packets calm ns gs n lt os w ok.1 had
shown_packets calm ns gs n lt (Drop x ∷ os) w ok had = shown_packets calm ns gs n lt os w ok.1 had
shown_packets calm ns gs n lt (Cause x ∷ os) w ok had = shown_packets calm ns gs n lt os w ok.1 had

-- packets are behind those that were there
abbrev pub HasMore : List Packet → List Packet → Type 0
HasMore before after = (ps : List Packet) × (after ≡ before ++ ps)

pub no_more : (ps : List Packet) → HasMore ps ps
no_more ps = ([], sym (append-nil ps))

pub carried_later : (before after : List Packet) → HasMore before after → (g : Passage) → IsCarried before g → IsCarried after g
carried_later before after more g c =
    record {
      packet = c.packet;
      there = subst (λ (ps : List Packet). Among c.packet ps) (sym more.1) (among_left c.packet before more.0 c.there);
      from = c.from;
      to = c.to;
      origin = c.origin;
      tunnel = c.tunnel;
      session = c.session;
      number = c.number;
      number_fits = c.number_fits;
      bytes = c.bytes;
    }

shown_more : (n : ℕ) (os : List Out) (w : World) → HasMore w.packets (shown_all n os w).packets
unfolding shown_all shown sent
shown_more n [] w = no_more w.packets
shown_more n (Send peer bytes origin ∷ os) w =
    let v = sent w n (node_of peer) bytes origin in
    let r = shown_more n os v in
    let one : Packet = packet_from n (node_of peer) bytes origin (epoch_sent w n origin) in
    (one ∷ r.0, r.1 ∙ append_assoc w.packets (one ∷ []) r.0)
shown_more n (Up session side frame ∷ os) w = shown_more n os w
shown_more n (Gone session ∷ os) w = shown_more n os w
shown_more n (Drop x ∷ os) w = shown_more n os w
shown_more n (Cause x ∷ os) w = shown_more n os w

-- what is sent is in a packet
record InPacket (ps : List Packet) (from to : ℕ) (bytes : List ℕ) (o : Origin) : Type 0 where
  packet : Packet
  there : Among packet ps
  from_is : packet.from ≡ from
  to_is : packet.to ≡ to
  bytes_are : packet.bytes ≡ bytes
  origin_is : packet.origin ≡ o

in_more : (before after : List Packet) → HasMore before after → (from to : ℕ) (bytes : List ℕ) (o : Origin)
    → InPacket before from to bytes o
    → InPacket after from to bytes o
in_more before after more from to bytes o h =
    record {
      packet = h.packet;
      there = subst (λ (ps : List Packet). Among h.packet ps) (sym more.1) (among_left h.packet before more.0 h.there);
      from_is = h.from_is;
      to_is = h.to_is;
      bytes_are = h.bytes_are;
      origin_is = h.origin_is;
    }

sent_there : (n : ℕ) (w : World) (peer : ℕ) (bytes : List ℕ) (o : Origin)
    → InPacket (sent w n (node_of peer) bytes o).packets n (node_of peer) bytes o
unfolding sent
sent_there n w peer bytes o = record {
  packet = packet_from n (node_of peer) bytes o (epoch_sent w n o);
  there = among_right _ w.packets _ (inl refl);
  from_is = refl;
  to_is = refl;
  bytes_are = refl;
  origin_is = refl;
}

shown_there : (n : ℕ) (os : List Out) (w : World) (peer : ℕ) (bytes : List ℕ) (o : Origin) → Among (Send peer bytes o) os
    → InPacket (shown_all n os w).packets n (node_of peer) bytes o
unfolding shown_all shown
shown_there n [] w peer bytes o a = absurd a
shown_there n (q ∷ os) w peer bytes o a = ⊎_elim
    (λ (e : q ≡ Send peer bytes o).
    let there = subst (λ x. InPacket (shown n w x).packets n (node_of peer) bytes o) (sym e) (first w) in
    in_more (shown n w q).packets (shown_all n os (shown n w q)).packets (shown_more n os (shown n w q)) n (node_of peer) bytes o there)
    (λ b. shown_there n os (shown n w q) peer bytes o b)
    a
  where
    first : (w : World) → InPacket (shown n w (Send peer bytes o)).packets n (node_of peer) bytes o
    first w = sent_there n w peer bytes o

-- ---- what a line adds

abbrev pub Below : ℕ → List Passage → Type 0
Below number gs = AllByRecursion (λ g. g.line < number) gs

-- a line gave the frame to its end
pub data LineGives (number : ℕ) (w : World) (l : Line) (g : Passage) : Type 0 where
  ByLine : g.line ≡ number → l ≡ gives_frame g.role g.node g.session g.frame → LineGives number w l g
  ByHost : g.line ≡ number → g.role ≡ Lac → (bytes : List ℕ) → l ≡ line_of.Frame g.node bytes → GivesByFrame w g bytes
      → LineGives number w l g
  ByLink : g.line ≡ number → g.role ≡ Lns → GivesByLink w l g → LineGives number w l g
  ByStart : g.line ≡ number → g.role ≡ Lns → l ≡ line_of.Start g.node → GivesByStart w g → LineGives number w l g

-- an event gave the frame to its end, or at an LNS the link of the call did, by one of these moves
pub data WhyGiven (e : End) (moment : ℕ) (ev : Event) (moves : List Move) (g : Passage) : Type 0 where
  ByEvent : (ev ≡ Payload g.session g.frame) ⊎ (ev ≡ Lower g.session g.frame) → WhyGiven e moment ev moves g
  ByLinkIn : e.role ≡ Lns → GivesInMoves e moment ev moves g → WhyGiven e moment ev moves g

pub record StepGives (number n : ℕ) (e : End) (moment : ℕ) (ev : Event) (moves : List Move) (g : Passage) : Type 0 where
  pub number_is : g.line ≡ number
  pub node_is : g.node ≡ n
  pub role_is : g.role ≡ e.role
  pub why : WhyGiven e moment ev moves g

-- what a line does to the count of births
pub record Counts (ns : Nodes) (born : ℕ) (after : World) : Type 0 where
  pub few : after.born ≤ born + 65536
  pub counted : born + 65536 < 2 ^ 64 - 1 → Counted ns born → Counted after.nodes after.born

pub record Goes (calm : Bool) (number : ℕ) (w : World) (gs : List Passage) (after : World) (more : List Deed) : Type 0 where
  pub holds : Holds calm after (gs ++ sent_in more)
  pub lines : Below (number + 1) (sent_in more)
  pub sent : AllByRecursion (WasSent (gs ++ sent_in more)) (handed_in more)
  pub counts : Counts w.nodes w.born after
  pub carried : AllByRecursion (IsCarried after.packets) (sent_in more)
  pub grown : HasMore w.packets after.packets
  pub grows : Grows w.nodes after.nodes
  pub held : HeldIsSent w gs → HeldIsSent after (gs ++ sent_in more)
  pub main : calm ≡ true → AllByRecursion (λ (d : Deed). IsMain d.move) more

-- no passage has a line that is later
pub earlier : (number : ℕ) (gs : List Passage) → Below number gs → (g : Passage) → Among g gs → g.line < number
earlier number [] h g a = absurd a
earlier number (q ∷ gs) h g a = ⊎_elim (λ e. rw (← e) h.0) (λ b. earlier number gs h.1 g b) a

-- what an event is, if it is real
pub record IsFrom (calm : Bool) (w : World) (gs : List Passage) (n peer : ℕ) (bytes : List ℕ) : Type 0 where
  pub from : ℕ
  pub number : from < 256
  pub address : peer ≡ address_of from
  pub bytes_ok : ReadOk calm w.nodes gs from n bytes

abbrev pub IsReal : Bool → World → List Passage → ℕ → Event → Type 0
IsReal calm w gs n (Datagram peer bytes) = IsFrom calm w gs n peer bytes
IsReal calm w gs n (Ring port) = Unit {0}
IsReal calm w gs n (Frame bytes) = Unit {0}
IsReal calm w gs n (Admitted mac) = Unit {0}
IsReal calm w gs n (Payload s frame) = Unit {0}
IsReal calm w gs n (Lower s frame) = Unit {0}
IsReal calm w gs n (Lcp s packet) = Unit {0}
IsReal calm w gs n (Hang s) = Unit {0}
IsReal calm w gs n OpenTunnel = Unit {0}
IsReal calm w gs n (DropCall s) = Unit {0}
IsReal calm w gs n (CloseTunnel i) = Unit {0}
IsReal calm w gs n Tick = Unit {0}

pub heard_of : (calm : Bool) (w : World) (gs : List Passage) (n : ℕ) (ev : Event) → IsReal calm w gs n ev → Heard calm w.nodes n ev
heard_of calm w gs n (Datagram peer bytes) h = record {
  from = h.from;
  number = h.number;
  address = h.address;
  letters = h.bytes_ok.letters;
  plainly = h.bytes_ok.plainly;
  faulty = h.bytes_ok.faulty;
  told = h.bytes_ok.told;
}
heard_of calm w gs n (Ring port) h = tt
heard_of calm w gs n (Frame bytes) h = tt
heard_of calm w gs n (Admitted mac) h = tt
heard_of calm w gs n (Payload s frame) h = tt
heard_of calm w gs n (Lower s frame) h = tt
heard_of calm w gs n (Lcp s packet) h = tt
heard_of calm w gs n (Hang s) h = tt
heard_of calm w gs n OpenTunnel h = tt
heard_of calm w gs n (DropCall s) h = tt
heard_of calm w gs n (CloseTunnel i) h = tt
heard_of calm w gs n Tick h = tt

-- what the moves of a node lead to, in a line
pub record StepOk (calm : Bool) (number : ℕ) (w : World) (gs : List Passage) (n : ℕ) (e : End) (moment : ℕ) (ev : Event)
    (moves : List Move) (x : Lined)
    : Type 0 where
  pub goes : Goes calm number w gs x.world x.done
  pub given : AllByRecursion (StepGives number n e moment ev moves) (sent_in x.done)
  pub told : ups_in x.entries ≡ told_of x.done

-- a chain of moves of an end, in a step or a start: none is of a start where nothing is recovered, and what comes back is founded. The
-- looks are true behind it, what is handed up is of its moves, and the book is that of the end
pub record IsStep (calm : Bool) (w : World) (n : ℕ) (old : Node) (moment : ℕ) (ev : Event) (s : Stepped)
    (checkpoint : Checkpoint) : Type 0 where
  pub chain : IsChain old.end moment ev s
  pub starts : calm ≡ true → AllByRecursion IsOfNoStart s.moves
  pub founded : AllByRecursion (Founded w.nodes n old.end.tunnel_ids.next old.end.session_ids.next) s.moves
  pub looks : LooksAreTrue s.end
  pub ups : flat_map ups_of_output s.outputs ≡ flat_map ups_of_move s.moves
  pub book : Mirrors s.end checkpoint.book

module _ (calm : Bool) (codecs : Codecs) (number : ℕ) (w : World) (gs : List Passage) (holds : Holds calm w gs) (below : Below number gs)
    (n : ℕ) (old : Node) (was : at w.nodes n ≡ Some old) (up : Bool) (clock : ℕ) (access : Option Access) (checkpoint : Checkpoint)
    (ev : Event)
    (real : IsReal calm w gs n ev) (moment : ℕ) (sender : Option Sender) (s : Stepped)
    (is_step : IsStep calm w n old moment ev s checkpoint) where
  ok : NodeOk calm w.nodes n old
  ok = holds.nodes n old was

  -- the node at the moment of the step, with what it committed
  abbrev timed : Node
  timed = record old { up = up; clock = clock; access = access; checkpoint = checkpoint }

  chain : IsChain old.end moment ev s
  chain = is_step.chain

  abbrev ended : Node
  ended = record timed { end = s.end }

  abbrev base : World
  base = with_node w n ended

  abbrev v : World
  v = moved_all n s.moves base

  abbrev after : World
  after = (after_step w number n timed sender s).world

  abbrev done : List Deed
  done = (after_step w number n timed sender s).done

  role : s.end.role ≡ old.end.role
  role = same_role moment ev old.end s.end s.moves chain.chain

  changed : Changed w.nodes base.nodes n old ended
  changed = record {
    was = was;
    is = at_new w.nodes n ended;
    others = λ m o. at_other w.nodes n ended m o;
    role = role;
    births = λ q b h. h;
  }

  begun : Grows w.nodes base.nodes
  begun = grows w.nodes base.nodes n old ended changed

  here : At calm n ended base old.end
  here =
      record {
        node = ended;
        is = at_new w.nodes n ended;
        end_is = refl;
        checkpoint_is = refl;
        role = role;
        end = end_later calm w.nodes base.nodes begun n old.end ok.end;
        births = ok.births;
      }

  heard : Heard calm base.nodes n ev
  heard = heard_later calm w.nodes base.nodes begun n ev (heard_of calm w gs n ev real)

  founded : FoundedAt calm codecs.digits n ended moment ev base old.end s.moves
  founded = all_later w.nodes base.nodes begun n old.end.tunnel_ids.next old.end.tunnel_ids.next
      old.end.session_ids.next old.end.session_ids.next
      (omega arith) (omega arith) s.moves is_step.founded

  r : Ran calm codecs.digits n ended moment ev base v old.end s.end
  r = ran calm codecs.digits n ended moment ev base old.end s.end here heard s.moves is_step.starts founded chain.chain

  -- a frame that it sends
  sent_here : (f : FrameSent) → Among (move.FrameSent f) s.moves → SentThen calm codecs.digits n ended moment ev v.nodes old.end s.moves f
  sent_here f a =
      sent_then calm codecs.digits n ended moment ev base old.end s.end here heard s.moves is_step.starts founded chain.chain f a

  grown : Grows w.nodes v.nodes
  grown = grows_on w.nodes base.nodes v.nodes begun r.grows.grows

  abbrev deeds_done : List Deed
  deeds_done = deeds v number n old.end.role sender s.moves

  abbrev more : List Passage
  more = sent_in deeds_done

  role_at_end : (q : Role) → Plays v.nodes n q → old.end.role ≡ q
  role_at_end q h = sym role ∙ sym (ap (λ (e : End). e.role) r.at_end.end_is) ∙ role_there v.nodes n q r.at_end.node r.at_end.is h

  -- ---- nodes

  last : NodeOk calm v.nodes n r.at_end.node
  last = record {
    number = ok.number;
    kept = rw r.at_end.end_is chain.kept;
    looks = rw r.at_end.end_is is_step.looks;
    end = rw r.at_end.end_is r.at_end.end;
    book = rw r.at_end.checkpoint_is (mirrored_book calm v.nodes n s.end checkpoint.book r.at_end.end is_step.book);
    births = rw r.at_end.end_is r.at_end.births;
  }

  -- another node, of which no more changes than what the world keeps of its tunnels
  other_ok : (m : ℕ) (node : Node) → (m ≡ n → ⊥) → at v.nodes m ≡ Some node → NodeOk calm v.nodes m node
  other_ok m node o f = by (at w.nodes m) refl (subst₂ AreLike (changed.others m o) f (r.grows.others m o))
    where
      by : (p : Option Node) → at w.nodes m ≡ p → AreLike (at w.nodes m) (Some node) → NodeOk calm v.nodes m node
      by None there like = absurd (subst (λ q. AreLike q (Some node)) there like)
      by (Some one) there like =
          let h = subst (λ q. AreLike q (Some node)) there like in
          node_like_ok calm v.nodes m one node h.0 h.1 h.2 (node_later calm w.nodes v.nodes grown m one (holds.nodes m one there))

  node_ok : (m : ℕ) (node : Node) → at v.nodes m ≡ Some node → NodeOk calm v.nodes m node
  node_ok m node f = ⊎_elim
      (λ (a : m ≡ n). (let g : at v.nodes n ≡ Some node = subst (λ q. at v.nodes q ≡ Some node) a f in
      let is = r.at_end.is in
      let k : r.at_end.node ≡ node = cc in
      subst (λ q. NodeOk calm v.nodes q node) (sym a) (subst (λ q. NodeOk calm v.nodes n q) k last)))
      (λ o. other_ok m node o f)
      (same_or_not m n)

  -- ---- packets

  sent_in_call : (f : FrameSent) → Among (move.FrameSent f) s.moves → (to remote : ℕ) → node_of f.peer ≡ to
      → Mates v.nodes n f.session to remote
      → WasSentInCall v.nodes (gs ++ more) n to remote f.frame
  sent_in_call f a to remote same mates =
      let told = birth_is v n f.session mates.birth mates.here in
      record {
        passage = sends v number n old.end.role sender f;
        there = among_right _ gs more (sent_among v number n old.end.role sender s.moves f a);
        frame_is = refl;
        birth = rw told mates.there;
        some = rw told mates.some;
        role = subst (λ q. Plays v.nodes to (other_end q)) (sym (role_at_end mates.role mates.mine)) mates.its;
        from_is = refl;
        to_is = same;
      }

  -- an end of the step's chain holds what ends do, in the nodes that the whole step leads to
  module _ (amid : InChain moment ev old.end s.moves s.end) where
    started : calm ≡ true → AllByRecursion IsOfNoStart (amid.made ++ amid.rest)
    started still = subst (AllByRecursion IsOfNoStart) amid.moves_are (is_step.starts still)

    abbrev FoundsAll : List Move → Type 0
    FoundsAll ms = FoundedAt calm codecs.digits n ended moment ev base old.end ms

    founds : FoundsAll (amid.made ++ amid.rest)
    founds = subst FoundsAll amid.moves_are founded

    abbrev reached : World
    reached = moved_all n amid.made base

    made_ran : Ran calm codecs.digits n ended moment ev base reached old.end amid.end
    made_ran = ran calm codecs.digits n ended moment ev base old.end amid.end here heard amid.made
        (λ still. all_before IsOfNoStart amid.made amid.rest (started still)) (all_before _ amid.made amid.rest founds) amid.comes

    rest_ran : Ran calm codecs.digits n ended moment ev reached (moved_all n amid.rest reached) amid.end s.end
    rest_ran = ran calm codecs.digits n ended moment ev reached amid.end s.end made_ran.at_end
        (heard_later calm base.nodes reached.nodes made_ran.grows.grows n ev heard) amid.rest
        (λ still. all_behind IsOfNoStart amid.made amid.rest (started still))
        (founded_then calm codecs.digits n ended moment ev base reached old.end amid.end made_ran.grows amid.rest
        (all_behind _ amid.made amid.rest founds))
        amid.goes

    whole : v ≡ moved_all n amid.rest reached
    whole = ap (λ ms. moved_all n ms base) amid.moves_are ∙ moved_more n amid.made amid.rest base

    amid_ok : EndOk calm v.nodes n amid.end
    amid_ok = end_later calm reached.nodes v.nodes
        (subst (λ (w : World). Grows reached.nodes w.nodes) (sym whole) rest_ran.grows.grows) n amid.end made_ran.at_end.end

    -- what was sent up to there was sent in the step
    in_step : (f : FrameSent) → Among (move.FrameSent f) amid.made → Among (move.FrameSent f) s.moves
    in_step f a = subst (Among (move.FrameSent f)) (sym amid.moves_are) (among_left (move.FrameSent f) amid.made amid.rest a)

    module _ (peer id : ℕ) (tunnel : Tunnel) (there : at amid.end.tunnels id ≡ Some tunnel) (peer_is : peer ≡ tunnel.control.peer) where
      abbrev bytes_ok : List ℕ → Type 0
      bytes_ok bytes = BytesOk calm v.nodes (gs ++ more) n (node_of peer) bytes

      -- a message of its recovery tunnel
      recovery_ok : (r : Recovering) → tunnel.recovery ≡ Some r → (m : Message)
          → IsOfRecovery amid.end.role amid.end.config tunnel.control.local r m
          → (number nr : ℕ) → nr < 65536 → bytes_ok (control_bytes (connection_of r).remote 0 (on_wire number) nr (spelling (pairs_of m)))
      recovery_ok r has m says number nr small =
          let to = amid_ok.tunnels id tunnel there in
          let line = to.line r has in
          let low = to.drawn in
          let most = amid_ok.most_tunnels in
          let local = to.local in
          let said = said_by amid.end.role amid.end.config amid_ok.number tunnel.control.local
          (omega (arith, low, most, local)) r line m says in
          let wire : on_wire nr ≡ nr = omega (arith, small) in
          subst (λ q. bytes_ok (control_bytes (connection_of r).remote 0 (on_wire number) q (spelling (pairs_of m)))) wire
          (subst (λ ps. bytes_ok (control_bytes (connection_of r).remote 0 (on_wire number) (on_wire nr) (spelling ps))) said.same
          (message_ok calm codecs (connection_of r).remote 0 number nr line.remote (omega arith) v.nodes (gs ++ more) n
          (node_of peer) said.message said.written
          (λ still. absurd (none-some r (sym (to.recovery still) ∙ has))) (said.names v.nodes n (node_of peer) 0)))

      nothing_ok : (r : Recovering) → tunnel.recovery ≡ Some r → (number nr : ℕ) → nr < 65536
          → bytes_ok (control_bytes (connection_of r).remote 0 (on_wire number) nr [])
      nothing_ok r has number nr small =
          let line = (amid_ok.tunnels id tunnel there).line r has in
          let wire : on_wire nr ≡ nr = omega (arith, small) in
          subst (λ q. bytes_ok (control_bytes (connection_of r).remote 0 (on_wire number) q [])) wire
          (alone_ok calm codecs (connection_of r).remote 0 number nr line.remote (omega arith) v.nodes (gs ++ more) n (node_of peer))

      carries_ok : (bytes : List ℕ) (o : Origin) → Carries amid.end.role amid.end.config tunnel amid.made bytes o → bytes_ok bytes
      carries_ok bytes o (ALetter current l number small among origin_is are) =
          let to = amid_ok.tunnels id tunnel there in
          let keeps = LetterOk calm v.nodes n tunnel.control.peer in
          let lo = all_at keeps tunnel.letters (place_of tunnel.control.channel number) l among to.letters in
          rw (are, lo.spelt)
          (letter_ok calm codecs tunnel.control.remote l.session number tunnel.control.channel.inbox.taken to.remote lo.session
          v.nodes (gs ++ more) n (node_of peer) lo.message lo.hidden lo.written lo.plainly lo.hides (rw peer_is lo.names))
      carries_ok bytes o (Nothing current number origin_is are) =
          let to = amid_ok.tunnels id tunnel there in
          rw are
          (alone_ok calm codecs tunnel.control.remote 0 number tunnel.control.channel.inbox.taken to.remote (omega arith) v.nodes
          (gs ++ more) n (node_of peer))
      carries_ok bytes o (AFrame f a tunnel_is same number origin_is are) =
          let to = amid_ok.tunnels id tunnel there in
          let b = in_step f a in
          let k = sent_here f b in
          let to_peer : f.peer ≡ peer = same ∙ sym peer_is in
          let mates : Mates v.nodes n f.session (node_of peer) f.remote = subst
          (λ q. Mates v.nodes n f.session (node_of q) f.remote) to_peer k.mates in
          let was_sent = sent_in_call f b (node_of peer) f.remote (ap node_of to_peer) mates in
          rw are (frame_ok calm codecs v.nodes (gs ++ more) n
          (node_of peer) tunnel.control.remote f.remote f.number f.frame to.remote k.fits number was_sent)
      carries_ok bytes o (InRecovery r has m says number nr small origin_is are) = rw are (recovery_ok r has m says number nr small)
      carries_ok bytes o (NothingInRecovery r has number nr small origin_is are) = rw are (nothing_ok r has number nr small)

  -- a StopCCN of no tunnel names no call
  declined_ok : (peer : ℕ) (bytes : List ℕ) (o : Origin) → IsDecline s.moves peer bytes o
      → BytesOk calm v.nodes (gs ++ more) n (node_of peer) bytes
  declined_ok peer bytes o h =
      let m = h.declined in
      let d = done_among moment ev old.end s.end s.moves chain.chain (move.Declined m) h.there in
      let why = d.does.why in
      let k : IsFrom calm w gs n m.peer d.does.bytes = subst (IsReal calm w gs n) d.does.is real in
      let fits = declined_fits calm w.nodes gs k.from n d.does.bytes k.bytes_ok d.does.header d.does.read d.does.control d.before m why in
      let codes = decline_codes_fit d.before (body_of d.does.bytes d.does.header) m why in
      rw (h.bytes_are, d.does.nr)
      (letter_ok calm codecs m.remote 0 0 (unwrap_or d.does.header.ns 0 + 1) fits (omega arith) v.nodes (gs ++ more) n (node_of peer)
      (StopCcn 0 m.result m.error) None (omega arith, codes.0, codes.1) (λ still. (omega arith, codes.0, codes.1)) tt tt)

  send_ok : (o : Out) → IsOfMoves moment ev old.end s.moves s.end o → SendOk (λ to bytes. BytesOk calm v.nodes (gs ++ more) n to bytes) o
  send_ok (Send peer bytes o) h =
      ⊎_elim (λ k. carries_ok k.amid peer k.id k.tunnel k.there k.peer_is bytes o k.carries) (λ k. declined_ok peer bytes o k) h
  send_ok (Up session side frame) h = tt
  send_ok (Gone session) h = tt
  send_ok (Drop x) h = tt
  send_ok (Cause x) h = tt

  -- ---- frames

  handed_ok : (f : FrameUp) → Among (move.FrameUp f) s.moves → WasSent (gs ++ more) (hands v number n old.end.role sender f)
  handed_ok f a =
      let d = done_among moment ev old.end s.end s.moves chain.chain (move.FrameUp f) a in
      let h = d.does.hears in
      let k : IsFrom calm w gs n f.peer h.bytes = subst (IsReal calm w gs n) h.is real in
      let original : WasSentInCall w.nodes gs k.from n f.session f.frame = subst
      (λ q. WasSentInCall w.nodes gs k.from n q f.frame) h.session_is
      (subst (λ q. WasSentInCall w.nodes gs k.from n h.header.session q) (sym h.frame_is) (k.bytes_ok.frames h.header h.read h.data_is)) in
      let from : node_of f.peer ≡ k.from = ap node_of k.address ∙ node_again k.from k.number in
      let told = birth_is v n f.session original.passage.birth (grown.births n f.session original.passage.birth original.birth) in
      record {
        passage = original.passage;
        there = among_left original.passage gs more original.there;
        is = record {
          frame = original.frame_is;
          birth = told;
          born = rw told original.some;
          end = role_there w.nodes n (other_end original.passage.role) old was original.role;
          sender = from ∙ sym original.from_is;
          receiver = original.to_is;
          earlier = earlier number gs below original.passage original.there;
        };
      }

  carried_ok : (f : FrameSent) → Among (move.FrameSent f) s.moves
      → IsCarried (shown_all n s.outputs v).packets (sends v number n old.end.role sender f)
  carried_ok f a =
      let h = all_among (HasOutput s.outputs) s.moves (move.FrameSent f) chain.frames a in
      let p = shown_there n s.outputs v f.peer (data_bytes h.0 f.remote f.number f.frame) (origin.Data f.session) h.2 in
      record {
        packet = p.packet;
        there = p.there;
        from = p.from_is;
        to = p.to_is;
        origin = p.origin_is;
        tunnel = h.0;
        session = f.remote;
        number = f.number;
        number_fits = h.1;
        bytes = p.bytes_are;
      }

  abbrev GivesIt : Passage → Type 0
  GivesIt g = StepGives number n old.end moment ev s.moves g

  given_ok : (f : FrameSent) → Among (move.FrameSent f) s.moves → GivesIt (sends v number n old.end.role sender f)
  given_ok f a =
      let k = sent_here f a in
      record { number_is = refl; node_is = refl; role_is = refl; why = by k k.does.given }
    where
      by : (k : SentThen calm codecs.digits n ended moment ev v.nodes old.end s.moves f)
          → WhySent ev moment k.does.tunnel.control f.session k.does.call f.frame
          → WhyGiven old.end moment ev s.moves (sends v number n old.end.role sender f)
      by k (IsGiven is passes) = ByEvent is
      by k (IsOfLink gives) = ByLinkIn
          (is_lns old.end.role
          (λ lac. none-some gives.calls.link (sym (k.link (same_role moment ev old.end k.end k.first k.leads ∙ lac)) ∙ gives.calls.has)))
          (record {
            first = k.first;
            end = k.end;
            leads = k.leads;
            id = f.tunnel;
            tunnel = k.does.tunnel;
            in_end = k.does.there;
            peer = ap node_of k.does.peer;
            call = k.does.call;
            live = k.does.calls;
            gives = gives;
            rest = k.rest;
            moves_are = rw (← k.does.peer, ← k.does.remote, ← k.does.number) k.moves;
          })

  -- ---- births

  counts_ok : Counts w.nodes w.born v
  counts_ok = record {
    few = (let b = r.grows.born in let most = r.at_end.end.most in omega arith);
    counted = λ few had. r.grows.counted (omega (arith, few))
        (counted_after w base.nodes w.born n old ended changed (omega (arith, few)) had (NoBirth refl refl));
  }

  -- ---- the step

  holds_ok : Holds calm (shown_all n s.outputs v) (gs ++ more)
  holds_ok = record {
    nodes = subst (λ (ns : Nodes). (m : ℕ) (node : Node) → at ns m ≡ Some node → NodeOk calm ns m node)
        (sym (shown_nodes n s.outputs v)) node_ok;
    packets = subst (λ (ns : Nodes). AllByRecursion (PacketOk calm ns (gs ++ more)) (shown_all n s.outputs v).packets)
        (sym (shown_nodes n s.outputs v))
        (shown_packets calm v.nodes (gs ++ more) n ok.number s.outputs v
        (all_map (IsOfMoves moment ev old.end s.moves s.end)
        (SendOk (λ to bytes. BytesOk calm v.nodes (gs ++ more) n to bytes)) send_ok s.outputs chain.outputs)
        (subst (λ ps. AllByRecursion (PacketOk calm v.nodes (gs ++ more)) ps) (sym r.grows.packets)
        (packets_later calm w.nodes v.nodes grown gs more w.packets holds.packets)));
  }

  counts_shown : Counts w.nodes w.born (shown_all n s.outputs v)
  counts_shown = record {
    few = (let k = counts_ok.few in let same = shown_born n s.outputs v in omega (arith, same));
    counted = λ few had. rw (shown_nodes n s.outputs v, shown_born n s.outputs v) (counts_ok.counted few had);
  }

  grown_packets : HasMore w.packets (shown_all n s.outputs v).packets
  grown_packets = let m = shown_more n s.outputs v in (m.0, m.1 ∙ ap (λ ps. ps ++ m.0) r.grows.packets)

  grown_shown : Grows w.nodes (shown_all n s.outputs v).nodes
  grown_shown = subst (λ (ns : Nodes). Grows w.nodes ns) (sym (shown_nodes n s.outputs v)) grown

  goes : Goes calm number w gs (shown_all n s.outputs v) deeds_done
  goes = record {
    holds = holds_ok;
    lines = each_sent v number n old.end.role sender (λ g. g.line < number + 1) s.moves (λ f a. omega arith);
    sent = each_handed v number n old.end.role sender (WasSent (gs ++ more)) s.moves handed_ok;
    counts = counts_shown;
    carried = each_sent v number n old.end.role sender (IsCarried (shown_all n s.outputs v).packets) s.moves carried_ok;
    grown = grown_packets;
    grows = grown_shown;
    held = held_later w (shown_all n s.outputs v) (shown_held n s.outputs v ∙ moved_held n s.moves base) grown_shown gs more;
    main = λ still. each_done v number n old.end.role sender IsMain s.moves
        (all_main calm codecs.digits n ended moment ev base old.end s.end here heard s.moves is_step.starts founded chain.chain still);
  }

  pub step_ok : StepOk calm number w gs n old.end moment ev s.moves (after_step w number n timed sender s)
  unfolding after_step given
  step_ok = record {
    goes = goes;
    given = each_sent v number n old.end.role sender GivesIt s.moves given_ok;
    told = ups_told number n old.end.role sender v s is_step.ups;
  }
