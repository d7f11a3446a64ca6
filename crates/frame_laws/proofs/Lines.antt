-- Each line of a schedule.
use Rattle.std.proofs.Common.{◌≡◌, ◌⊎◌, ⊎_elim, ℕ, ◌+◌, ◌-◌, ◌^◌, Bool, true, false, List, [], ◌∷◌, take, drop, refl, sym, ◌∙◌, subst, Option, Some, None, Result, Ok, Err, arith, ap}
use Rattle.std.proofs.lemmas.Bool.{true≢false}
use Rattle.std.proofs.lemmas.List.{append-nil}
use Rattle.std.specs.Prelude.{min, slice_get, if◌then◌else◌}
use Rattle.id_table.specs.Ids.{at}
use Rattle.wire_base.specs.declared.letter.Side.TheVariants as side
use Rattle.wire_base.specs.declared.why.Why.{Why}
use Rattle.wire_base.specs.declared.why.Why.TheVariants as why
use Rattle.wire_base.specs.declared.cause.Cause.{Cause}
use Rattle.schedule_text.specs.declared.line.Line.{Line}
use Rattle.schedule_text.specs.declared.line.Line.TheVariants.{Remark, Lac, Lns, OpenUp, Close, Ring, Frame, FromSub, Down, Hang, DropCall, Deliver, Load, Hand, Tick, Crash, Stop, Start}
use Rattle.schedule_text.specs.Grammar.{FitsLine}
use Rattle.end_model.specs.Access.{Access}
use Rattle.end_model.specs.declared.event.Event.{Event}
use Rattle.end_model.specs.declared.event.Event.TheVariants as event
use Rattle.end_model.specs.Secrets.{uncovered_event}
use Rattle.end_model.specs.Starting.{starts}
use Rattle.end_model.specs.End.{End, plain_step, step, step_in, gives_only}
use Rattle.end_names.specs.declared.role.Role.TheVariants as role
use Rattle.end_names.specs.Names.{address_of}
use Rattle.world_model.specs.declared.packet.Packet.{Packet}
use Rattle.world_model.specs.declared.stop.StopAt.{StopAt}
use Rattle.world_model.specs.Texts.{Entry, Drops, Frames}
use Rattle.world_model.specs.World.{World, Node, Sender, Lined, quiet_line, with_node, with_stop, fallen, without_held, cut_line, after_step, given, declared, lac_at, lns_at, down_at, with_call, with_tunnel, later, answer_entries, block_of, stepped, sender_of, delivers, held_line, taken_up, hand_entry, behind_hand, crashed, armed, opened, started, line}
use Rattle.step_laws.specs.Calm.{IsCalm}
use Rattle.step_laws.specs.Lines.{is_running, is_lac_at, is_lns_at, is_declared, is_down_at, has_call, has_tunnel, IsTimed, is_there, IsAt, at_moment, is_later, committed_line, step_line, deliver_line, OfLoad, load_line, IsHeldAt, OfHand, hand_line, hand_steps}
use Rattle.step_laws.specs.Hosts.{LacAt, with_host, entering, reply_to, HostDoes, HostSends, HostLeaves}
use Rattle.frame_laws.specs.Codecs.{Codecs}
use Rattle.frame_laws.specs.Past.{Passage, sent_in, handed_in}
use Rattle.frame_laws.specs.Frames.{GivesInStep, MakesStep, ByItself, BehindUp, IsNoDatagram}
use Rattle.frame_laws.specs.Reports.{ups_in, told_of}
use Rattle.frame_laws.proofs.Facts.{StepLaws, PacketOk, Holds, HeldIsSent, same_nodes, all_map, all_at}
use Rattle.frame_laws.proofs.Births.{not_lns}
use Rattle.frame_laws.proofs.Ups.{ups_in-append}
use Rattle.frame_laws.proofs.Held.{loaded_ok, one_more_held, one_less_held, hand_was_sent}
use Rattle.frame_laws.proofs.Worlds.{earlier, Below, LineGives, ByLine, ByHost, ByLink, WhyGiven, ByEvent, ByLinkIn, StepGives, Goes, IsReal}
use Rattle.frame_laws.proofs.Steps.{NodesHold, whole_ok, cut_ok, crash_ok, start_ok, start_gives, start_cut}
use Rattle.frame_laws.proofs.Frames.{OfFrame, frame_line}
use Rattle.frame_laws.proofs.LineParts.{LineOk, quiet_goes, uncounted, added_ok, armed_ok, falls_ok, off_ok, cut_line_ok}

-- ---- frames that lines give

-- an event that gives no frame
abbrev HasNoFrame : Event → Type 0
HasNoFrame (event.Datagram peer bytes) = Unit {0}
HasNoFrame (event.Ring port) = Unit {0}
HasNoFrame (event.Frame bytes) = Unit {0}
HasNoFrame (event.Admitted mac) = Unit {0}
HasNoFrame (event.Payload session frame) = ⊥
HasNoFrame (event.Lower session frame) = ⊥
HasNoFrame (event.Lcp session packet) = Unit {0}
HasNoFrame (event.Hang session) = Unit {0}
HasNoFrame event.OpenTunnel = Unit {0}
HasNoFrame (event.DropCall session) = Unit {0}
HasNoFrame (event.CloseTunnel i) = Unit {0}
HasNoFrame event.Tick = Unit {0}

-- what a line brings a node, as the node reads it, gave the frame to its end
abbrev NodeGives : ℕ → ℕ → Node → Event → Passage → Type 0
NodeGives number n node ev g =
    StepGives number n node.end node.clock (uncovered_event node.end.config.secret ev)
    (plain_step node.end node.clock (block_of n number) (uncovered_event node.end.config.secret ev)).moves g

-- an LNS makes the step of a line on such an event
abbrev IfLns : World → ℕ → Line → ℕ → Event → Option Sender → Node → Type 0
IfLns w number l n ev sender node = node.end.role ≡ role.Lns → IsTimed w n node × MakesStep w number l n ev sender node

module _ (w : World) (number n : ℕ) (l : Line) (ev : Event) (sender : Option Sender) (node : Node) where
  no_lns : node.end.role ≡ role.Lac → IfLns w number l n ev sender node
  no_lns lac lns = absurd (not_lns node.end.role lac lns)

  -- what the link of a call gave
  by_link : IfLns w number l n ev sender node → (g : Passage) → NodeGives number n node ev g → node.end.role ≡ role.Lns
      → GivesInStep node.end node.clock (block_of n number) (uncovered_event node.end.config.secret ev) g → LineGives number w l g
  by_link if_lns g h lns gives =
      let s = if_lns lns in
      let block_is : block_of n number ≡ block_of g.node g.line = rw (h.number_is, h.node_is) refl in
      ByLink h.number_is (h.role_is ∙ lns) (record {
        before = s.0.before;
        there = rw h.node_is s.0.there;
        node = node;
        same = s.0.same;
        event = ev;
        sender = sender;
        steps = rw (h.number_is, h.node_is) s.1;
        in_step = subst (λ b. GivesInStep node.end node.clock b (uncovered_event node.end.config.secret ev) g) block_is gives;
      })

  -- the event gives none
  abbrev GivesNone : Event → Type 0
  GivesNone q = (session : ℕ) (frame : List ℕ) → (q ≡ event.Payload session frame) ⊎ (q ≡ event.Lower session frame) → ⊥

  none_given : HasNoFrame ev → GivesNone (uncovered_event node.end.config.secret ev)
  none_given none session frame h = by ev none h
    where
      by : (q : Event) → HasNoFrame q → (uncovered_event node.end.config.secret q ≡ event.Payload session frame)
          ⊎ (uncovered_event node.end.config.secret q ≡ event.Lower session frame) → ⊥
      by (event.Datagram peer bytes) none h = ⊎_elim (λ e. absurd cc) (λ e. absurd cc) h
      by (event.Ring port) none h = ⊎_elim (λ e. absurd cc) (λ e. absurd cc) h
      by (event.Frame bytes) none h = ⊎_elim (λ e. absurd cc) (λ e. absurd cc) h
      by (event.Admitted mac) none h = ⊎_elim (λ e. absurd cc) (λ e. absurd cc) h
      by (event.Payload s f) none h = none
      by (event.Lower s f) none h = none
      by (event.Lcp s packet) none h = ⊎_elim (λ e. absurd cc) (λ e. absurd cc) h
      by (event.Hang s) none h = ⊎_elim (λ e. absurd cc) (λ e. absurd cc) h
      by event.OpenTunnel none h = ⊎_elim (λ e. absurd cc) (λ e. absurd cc) h
      by (event.DropCall s) none h = ⊎_elim (λ e. absurd cc) (λ e. absurd cc) h
      by (event.CloseTunnel i) none h = ⊎_elim (λ e. absurd cc) (λ e. absurd cc) h
      by event.Tick none h = ⊎_elim (λ e. absurd cc) (λ e. absurd cc) h

  -- the line gives what the event gave, and what a link gave
  each_gives : IfLns w number l n ev sender node → (g : Passage) → NodeGives number n node ev g
      → ((uncovered_event node.end.config.secret ev ≡ event.Payload g.session g.frame)
      ⊎ (uncovered_event node.end.config.secret ev ≡ event.Lower g.session g.frame) → LineGives number w l g) → LineGives number w l g
  each_gives if_lns g h given = by h.why
    where
      by : WhyGiven node.end node.clock (uncovered_event node.end.config.secret ev)
          (plain_step node.end node.clock (block_of n number) (uncovered_event node.end.config.secret ev)).moves g → LineGives number w l g
      by (ByEvent e) = given e
      by (ByLinkIn lns gives) = by_link if_lns g h lns gives

  no_frame : HasNoFrame ev → IfLns w number l n ev sender node → (g : Passage) → NodeGives number n node ev g → LineGives number w l g
  no_frame none if_lns g h = each_gives if_lns g h (λ e. absurd (none_given none g.session g.frame e))

from_sub : (w : World) (number n session : ℕ) (frame : List ℕ) (node : Node) → node.end.role ≡ role.Lac → (g : Passage)
    → NodeGives number n node (event.Payload session frame) g → LineGives number w (FromSub n session frame) g
from_sub w number n session frame node lac g h =
    let l = FromSub n session frame in
    let ev = event.Payload session frame in
    each_gives w number n l ev None node (no_lns w number n l ev None node lac) g h (λ k. ⊎_elim
    (λ (e : event.Payload session frame ≡ event.Payload g.session g.frame).
    let a : session ≡ g.session = cc in
    let b : frame ≡ g.frame = cc in
    ByLine h.number_is (rw (h.role_is, lac, h.node_is, a, b) refl))
    (λ (e : event.Payload session frame ≡ event.Lower g.session g.frame). absurd cc)
    k)

down_to : (w : World) (number n session : ℕ) (frame : List ℕ) (node : Node) → node.end.role ≡ role.Lns
    → IfLns w number (Down n session frame) n (event.Lower session frame) None node → (g : Passage)
    → NodeGives number n node (event.Lower session frame) g → LineGives number w (Down n session frame) g
down_to w number n session frame node lns if_lns g h =
    each_gives w number n (Down n session frame) (event.Lower session frame) None node if_lns g h (λ k. ⊎_elim
    (λ (e : event.Lower session frame ≡ event.Payload g.session g.frame). absurd cc)
    (λ (e : event.Lower session frame ≡ event.Lower g.session g.frame).
    let a : session ≡ g.session = cc in
    let b : frame ≡ g.frame = cc in
    ByLine h.number_is (rw (h.role_is, lns, h.node_is, a, b) refl))
    k)

-- what comes in a step that is no datagram
real_itself : (calm : Bool) (w : World) (gs : List Passage) (n : ℕ) (ev : Event) → IsNoDatagram ev → (secret : Option (List ℕ))
    → IsReal calm w gs n (uncovered_event secret ev)
real_itself calm w gs n (event.Datagram peer bytes) none secret = absurd none
real_itself calm w gs n (event.Ring port) none secret = tt
real_itself calm w gs n (event.Frame bytes) none secret = tt
real_itself calm w gs n (event.Admitted mac) none secret = tt
real_itself calm w gs n (event.Payload session frame) none secret = tt
real_itself calm w gs n (event.Lower session frame) none secret = tt
real_itself calm w gs n (event.Lcp session packet) none secret = tt
real_itself calm w gs n (event.Hang session) none secret = tt
real_itself calm w gs n event.OpenTunnel none secret = tt
real_itself calm w gs n (event.DropCall session) none secret = tt
real_itself calm w gs n (event.CloseTunnel i) none secret = tt
real_itself calm w gs n event.Tick none secret = tt

-- a node that a line finds is up
declared_up : (o : Option Node) (node : Node) → declared o ≡ Ok node → (o ≡ Some node) × (node.up ≡ true)
declared_up None node h = absurd (cc)
declared_up (Some x) node h = let u = is_running x node h in (ap (λ y. Some y) u.0, u.1)

later_up : (milliseconds : ℕ) (o : Option Node) (node : Node) → later milliseconds (declared o) ≡ Ok node → node.up ≡ true
later_up milliseconds None node h = absurd (cc)
later_up milliseconds (Some x) node h = by x.up refl h
  where
    by : (b : Bool) → x.up ≡ b → later milliseconds (if b then Ok x else Err why.Down) ≡ Ok node → node.up ≡ true
    by true up h =
        let same : record x { clock = min (x.clock + milliseconds) (2 ^ 64 - 1) } ≡ node = cc in subst (λ (y : Node). y.up ≡ true) same up
    by false up h = absurd (cc)

module _ (calm : Bool) (codecs : Codecs) (laws : StepLaws) (number : ℕ) (w : World) (gs : List Passage) (holds : Holds calm w gs)
    (below : Below number gs)
    (nodes : NodesHold w) (l : Line) where
  stepped_ok : (x : Lined) (n : ℕ) (ev : Event) (sender : Option Sender) (o : Result Node Why)
      → ((node : Node) → o ≡ Ok node → IsAt w n node × (node.up ≡ true) ×
      ((g : Passage) → NodeGives number n node ev g → LineGives number w l g))
      → ((secret : Option (List ℕ)) → IsReal calm w gs n (uncovered_event secret ev)) → stepped w number n ev sender o ≡ Ok x
      → LineOk calm number w gs l x
  stepped_ok x n ev sender o is real h =
      step_line (LineOk calm number w gs l x) w number x n ev sender o
      (λ node e c whole made.
      let was = is node e in
      let secret = node.end.config.secret in
      let k = whole_ok calm codecs laws number w gs holds below nodes n (uncovered_event secret ev) sender node was.0 was.1
      (real secret) c whole in
      subst (LineOk calm number w gs l) made (record {
        goes = k.goes;
        given = all_map (NodeGives number n node ev) (LineGives number w l) was.2
            (sent_in (after_step w number n (record node { checkpoint = c }) sender
            (step node.end node.clock (block_of n number) ev)).done) k.given;
        told = k.told;
      }))
      (λ node e c cut made.
      let was = is node e in
      let left = cut_ok calm codecs laws number w gs holds below nodes n (uncovered_event node.end.config.secret ev) node was.0 was.1
      (real node.end.config.secret) c cut in
      subst (LineOk calm number w gs l) made (cut_line_ok calm number w gs holds l n node was.0 c left))
      h

  -- a step that was cut off gives nothing
  stepped_off : (x : Lined) (n : ℕ) (ev : Event) (node : Node) → IsAt w n node → node.up ≡ true
      → ((secret : Option (List ℕ)) → IsReal calm w gs n (uncovered_event secret ev)) → stepped w number n ev None (Ok node) ≡ Ok x
      → x.cut ≡ true
      → LineOk calm number w gs l x
  unfolding after_step given
  stepped_off x n ev node is up real h off =
      step_line (LineOk calm number w gs l x) w number x n ev None (Ok node)
      (λ q e c whole made. absurd (true≢false (sym off ∙ ap (λ (y : Lined). y.cut) (sym made))))
      (λ q e c cut made.
      let same : node ≡ q = cc in
      let at_q = subst (IsAt w n) same is in
      let up_q = subst (λ (y : Node). y.up ≡ true) same up in
      let left = cut_ok calm codecs laws number w gs holds below nodes n (uncovered_event q.end.config.secret ev) q at_q up_q
      (real q.end.config.secret) c cut in
      subst (LineOk calm number w gs l) made (cut_line_ok calm number w gs holds l n q at_q c left))
      h

module _ (calm : Bool) (codecs : Codecs) (laws : StepLaws) (number : ℕ) (w : World) (gs : List Passage) (holds : Holds calm w gs)
    (below : Below number gs)
    (nodes : NodesHold w) where
  -- what is delivered is a packet that was sent
  delivers_ok : (l : Line) (x : Lined) (o : Option Packet) → ((p : Packet) → o ≡ Some p → PacketOk calm w.nodes gs p)
      → line w number l ≡ delivers w number o → line w number l ≡ Ok x → LineOk calm number w gs l x
  delivers_ok l x o sent is h = deliver_line (LineOk calm number w gs l x) w number x (line w number l) o
      (λ p node found there up young so leads.
      let ev = event.Datagram (address_of p.from) p.bytes in
      let from = sender_of p.from p.origin in
      let here = is_there w p.to node there in
      let ok = sent p found in
      stepped_ok calm codecs laws number w gs holds below nodes l x p.to ev from (Ok node)
      (λ q e. (let same : node ≡ q = cc in
      rw (← same) (at_moment w p.to node here, up, no_frame w number p.to l ev from node tt (λ lns. (here, ByItself so)))))
      (λ secret. record { from = p.from; number = ok.from; address = refl; bytes_ok = ok.bytes secret }) leads)
      is h

  -- no frame of a LAC on an event that gives none
  of_lac : (n : ℕ) (bytes : List ℕ) (ev : Event) (node : Node) → node.end.role ≡ role.Lac → HasNoFrame ev → (g : Passage)
      → NodeGives number n node ev g
      → LineGives number w (Frame n bytes) g
  of_lac n bytes ev node lac none =
      no_frame w number n (Frame n bytes) ev None node none (no_lns w number n (Frame n bytes) ev None node lac)

  -- what a host of a call does
  host_gives : (n : ℕ) (bytes : List ℕ) (l : LacAt w n) (ev : Event) → HostDoes l.access l.node.end bytes ev → (g : Passage)
      → NodeGives number n l.node ev g → LineGives number w (Frame n bytes) g
  host_gives n bytes l ev (HostLeaves src session is of) g h = of_lac n bytes (event.Hang session) l.node l.lac tt g h
  host_gives n bytes l ev (HostSends src session start stop is of) g h =
      let frame = take (stop - start) (drop start bytes) in
      let ev = event.Payload session frame in
      each_gives w number n (Frame n bytes) ev None l.node (no_lns w number n (Frame n bytes) ev None l.node l.lac) g h (λ k. ⊎_elim
      (λ (e : event.Payload session frame ≡ event.Payload g.session g.frame).
      let a : session ≡ g.session = cc in
      let b : frame ≡ g.frame = cc in
      ByHost h.number_is (h.role_is ∙ l.lac) bytes (rw h.node_is refl) (record {
        node = l.node;
        there = rw h.node_is l.there;
        access = l.access;
        keeps = l.keeps;
        src = src;
        start = start;
        stop = stop;
        found = rw (← a) is;
        of_host = rw (← a) of;
        frame = sym b;
      }))
      (λ (e : event.Payload session frame ≡ event.Lower g.session g.frame). absurd cc)
      k)

  host_real : (n : ℕ) (a : Access) (e : End) (bytes : List ℕ) (ev : Event) → HostDoes a e bytes ev → (secret : Option (List ℕ))
      → IsReal calm w gs n (uncovered_event secret ev)
  host_real n a e bytes ev (HostSends src session start stop is of) secret = tt
  host_real n a e bytes ev (HostLeaves src session is of) secret = tt

  no_ups : (n : ℕ) (because : Option Cause) (frame : List ℕ) → ups_in (answer_entries number n because frame) ≡ []
  unfolding ups_in
  no_ups n None frame = refl
  no_ups n (Some c) frame = refl

  -- a frame that an end doesn't see
  done_of : (n : ℕ) (bytes : List ℕ) (l : LacAt w n) (x : Lined) → stepped w number n (event.Frame bytes) None (Ok l.node) ≡ Ok x
      → x.done ≡ []
  unfolding after_step given plain_step step_in gives_only cut_line
  done_of n bytes l x h =
      step_line (x.done ≡ []) w number x n (event.Frame bytes) None (Ok l.node)
      (λ q e k whole made. ap (λ (y : Lined). y.done) (sym made))
      (λ q e k cut made. ap (λ (y : Lined). y.done) (sym made)) h

  only_told : (n : ℕ) (bytes : List ℕ) (l : LacAt w n) (es : List Entry) → ups_in es ≡ [] → (x : Lined)
      → stepped w number n (event.Frame bytes) None (Ok l.node) ≡ Ok x
      → LineOk calm number w gs (Frame n bytes) (record x { entries = es })
  unfolding told_of
  only_told n bytes l es none x h =
      let k =
      stepped_ok calm codecs laws number w gs holds below nodes (Frame n bytes) x n (event.Frame bytes) None (Ok l.node)
      (λ node e. (let same : l.node ≡ node = cc in
      rw (← same) (at_moment w n l.node (is_there w n l.node l.there), l.up, of_lac n bytes (event.Frame bytes) l.node l.lac tt)))
      (λ secret. tt) h in
      record { goes = k.goes; given = k.given; told = none ∙ sym (ap told_of (done_of n bytes l x h)) }

  of_frame : (n : ℕ) (bytes : List ℕ) → OfFrame (LineOk calm number w gs (Frame n bytes)) w number n bytes
  unfolding ups_in
  of_frame n bytes = record {
    ignored = λ l word is x h u. only_told n bytes l (Drops number n word ∷ []) refl x h;
    answered = λ l because frame is x h u. only_told n bytes l (answer_entries number n because frame) (no_ups n because frame) x h;
    done = λ l ev is does x h.
        stepped_ok calm codecs laws number w gs holds below nodes (Frame n bytes) x n ev None (Ok l.node)
        (λ node e. (let same : l.node ≡ node = cc in
        rw (← same) (at_moment w n l.node (is_there w n l.node l.there), l.up, host_gives n bytes l ev does)))
        (host_real n l.access l.node.end bytes ev does) h;
    entered = λ l src uniq asked is x h u.
        let k =
        stepped_ok calm codecs laws number w gs holds below nodes (Frame n bytes) x n (event.Admitted src) None
        (Ok (with_host w number n l src uniq))
        (λ node e. (let same : with_host w number n l src uniq ≡ node = cc in (
          entering w number n l src uniq node same,
          subst (λ (q : Node). q.up ≡ true) same l.up,
          of_lac n bytes (event.Admitted src) node (let e = ap (λ (q : Node). q.end.role) same in sym e ∙ l.lac) tt,
        )))
        (λ secret. tt) h in
        record {
          goes = k.goes;
          given = k.given;
          told = ups_in-append x.entries (Frames number n (reply_to w number n l src asked) ∷ []) ∙ append-nil (ups_in x.entries) ∙ k.told;
        };
    cut = λ l ev node is up none x h off.
        stepped_off calm codecs laws number w gs holds below nodes (Frame n bytes) x n ev node is up
        (real_itself calm w gs n ev none) h off;
  }

  -- a data packet is loaded
  load_ok : (n k : ℕ) → OfLoad (LineOk calm number w gs (Load n k)) w number n (slice_get w.packets (k - 1))
  unfolding held_line ups_in
  load_ok n k = record {
    dropped = λ word other. (let q = quiet_goes calm number w w gs (Load n k) holds (uncounted w) refl (same_nodes w.nodes) (λ h. h) in
        record { goes = q.goes; given = q.given; told = q.told });
    held = λ f is. (let ok = loaded_ok calm w gs n (slice_get w.packets (k - 1)) f is
        (all_at (PacketOk calm w.nodes gs) w.packets (k - 1) is.packet is.found holds.packets) in
        let v = (held_line w number n f).world in
        let q = quiet_goes calm number w v gs (Load n k) (record { nodes = holds.nodes; packets = holds.packets })
        (record { few = omega arith; counted = λ few had. had }) refl
        (same_nodes w.nodes) (λ h. one_more_held w gs h number n f ok) in
        record { goes = q.goes; given = q.given; told = q.told });
  }

  -- behind a frame that is handed up
  behind_ok : (l : Line) (n held : ℕ) (k : IsHeldAt w n held) → HeldIsSent w gs → (y : Lined) → LineOk calm number w gs l y
      → LineOk calm number w gs l (behind_hand number n k.node.end.role k.frame y)
  unfolding sent_in handed_in ups_in told_of
  behind_ok l n held k was y ok = record {
    goes = record {
      holds = ok.goes.holds;
      lines = ok.goes.lines;
      sent = (
        hand_was_sent w gs number n held k (was.sent n held k.frame k.held) (λ g a. earlier number gs below g a)
            (sent_in y.done),
        ok.goes.sent,
      );
      counts = ok.goes.counts;
      carried = ok.goes.carried;
      grown = ok.goes.grown;
      grows = ok.goes.grows;
      held = ok.goes.held;
      main = λ still. (tt, ok.goes.main still);
    };
    given = ok.given;
    told = ap (λ es. hand_entry number n k.frame ∷ es) ok.told;
  }

  -- the end's step on a frame of LCP
  heard_ok : (n held : ℕ) (k : IsHeldAt w n held) → k.frame.side ≡ side.Lcp → (y : Lined)
      → stepped (taken_up w n held) number n (event.Lcp k.frame.session k.frame.frame) None (Ok k.node) ≡ Ok y
      → LineOk calm number w gs (Hand n held) y
  unfolding line cut_line sent_in
  heard_ok n held k lcp y h =
      step_line (LineOk calm number w gs (Hand n held) y) v number y n ev None (Ok k.node)
      (λ q e c whole made.
      let same : q ≡ k.node = cc in
      let secret = q.end.config.secret in
      let at_q : IsTimed w n q = subst (IsTimed w n) (sym same) (is_there w n k.node k.there) in
      let up_q = subst (λ (z : Node). z.up ≡ true) (sym same) k.up in
      let o = whole_ok calm codecs laws number v gs holds_v below nodes n (uncovered_event secret ev) None q
      (at_moment v n q (record { before = at_q.before; there = at_q.there; same = at_q.same })) up_q tt c whole in
      let steps : MakesStep w number (Hand n held) n ev None q =
      subst (λ z. MakesStep w number (Hand n held) n ev None z) (sym same)
      (BehindUp held k.frame refl k.held refl (hand_steps w number n held k lcp)) in
      subst (LineOk calm number w gs (Hand n held)) made (record {
        goes = taken (after_step v number n (record q { checkpoint = c }) None (step q.end q.clock (block_of n number) ev)) o.goes;
        given = all_map (NodeGives number n q ev) (LineGives number w (Hand n held))
            (no_frame w number n (Hand n held) ev None q tt (λ lns. (at_q, steps)))
            (sent_in (after_step v number n (record q { checkpoint = c }) None (step q.end q.clock (block_of n number) ev)).done) o.given;
        told = o.told;
      }))
      (λ q e c cut made.
      let same : q ≡ k.node = cc in
      let at_q : IsTimed v n q = subst (IsTimed v n) (sym same) (record { before = k.node; there = k.there; same = refl }) in
      let here = at_moment v n q at_q in
      let up_q = subst (λ (z : Node). z.up ≡ true) (sym same) k.up in
      let left = cut_ok calm codecs laws number v gs holds_v below nodes n (uncovered_event q.end.config.secret ev) q here up_q tt c cut in
      let o = cut_line_ok calm number v gs holds_v (Hand n held) n q here c left in
      subst (LineOk calm number w gs (Hand n held)) made
      (record { goes = taken (cut_line v number n q c) o.goes; given = tt; told = o.told }))
      h
    where
      v : World
      v = taken_up w n held

      ev : Event
      ev = event.Lcp k.frame.session k.frame.frame

      holds_v : Holds calm v gs
      holds_v = record { nodes = holds.nodes; packets = holds.packets }

      taken : (z : Lined) → Goes calm number v gs z.world z.done → Goes calm number w gs z.world z.done
      taken z o = record {
        holds = o.holds;
        lines = o.lines;
        sent = o.sent;
        counts = o.counts;
        carried = o.carried;
        grown = o.grown;
        grows = o.grows;
        held = λ h. o.held (one_less_held w gs h n held);
        main = o.main;
      }

  hand_ok : (n held : ℕ) → HeldIsSent w gs → OfHand (LineOk calm number w gs (Hand n held)) w number n held
  hand_ok n held was = record {
    passed = λ k other. behind_ok (Hand n held) n held k was (quiet_line (taken_up w n held))
        (quiet_goes calm number w (taken_up w n held) gs (Hand n held) (record { nodes = holds.nodes; packets = holds.packets })
        (record { few = omega arith; counted = λ few had. had }) refl
        (same_nodes w.nodes) (λ h. one_less_held w gs h n held));
    heard = λ k y lcp steps whole. behind_ok (Hand n held) n held k was y (heard_ok n held k lcp y steps);
    cut = λ k y lcp steps off. heard_ok n held k lcp y steps;
  }

  -- a line that has a node make a step on an event which gives no frame
  without_frame : (l : Line) (x : Lined) (n : ℕ) (ev : Event) (o : Result Node Why)
      → ((node : Node) → o ≡ Ok node → IsTimed w n node × (node.up ≡ true))
      → HasNoFrame ev → ((secret : Option (List ℕ)) → IsReal calm w gs n (uncovered_event secret ev))
      → line w number l ≡ stepped w number n ev None o
      → stepped w number n ev None o ≡ Ok x → LineOk calm number w gs l x
  without_frame l x n ev o timed none real is h =
      stepped_ok calm codecs laws number w gs holds below nodes l x n ev None o
      (λ node e.
      let here = timed node e in (
        at_moment w n node here.0,
        here.1,
        no_frame w number n l ev None node none
            (λ lns. (here.0, ByItself (is ∙ ap (stepped w number n ev None) e))),
      ))
      real h

  lac_there : (n : ℕ) (node : Node) → lac_at (at w.nodes n) ≡ Ok node → IsTimed w n node × (node.up ≡ true)
  lac_there n node e = let l = is_lac_at (at w.nodes n) node e in (is_there w n node l.0, l.2)

  any_there : (n : ℕ) (node : Node) → declared (at w.nodes n) ≡ Ok node → IsTimed w n node × (node.up ≡ true)
  any_there n node e = let l = declared_up (at w.nodes n) node e in (is_there w n node l.0, l.1)

  -- ---- crashes, stops and starts

  crash_line : (x : Lined) (n : ℕ) → crashed w number n (declared (at w.nodes n)) ≡ Ok x → LineOk calm number w gs (Crash n) x
  unfolding crashed
  crash_line x n h = by (declared (at w.nodes n)) (λ node e. declared_up (at w.nodes n) node e) h
    where
      by : (o : Result Node Why) → ((node : Node) → o ≡ Ok node → (at w.nodes n ≡ Some node) × (node.up ≡ true))
          → crashed w number n o ≡ Ok x
          → LineOk calm number w gs (Crash n) x
      by (Err y) is h = absurd (cc)
      by (Ok node) is h =
          let k = is node refl in
          let e : quiet_line (without_held (with_node w n (fallen (block_of n number) node.end node node.checkpoint)) n) ≡ x = cc in
          subst (LineOk calm number w gs (Crash n)) e (falls_ok calm number w gs holds (Crash n) n node k.0 node refl refl node.checkpoint
          (crash_ok calm codecs laws number w gs holds below nodes n node k.0 k.1))

  stop_line : (x : Lined) (n commit call : ℕ) (kept : Bool)
      → armed w n (record { commit = commit; kept = kept }) (declared (at w.nodes n)) ≡ Ok x
      → LineOk calm number w gs (Stop n commit call kept) x
  unfolding armed
  stop_line x n commit call kept h = by (declared (at w.nodes n)) (λ node e. is_declared (at w.nodes n) node e) h
    where
      by : (o : Result Node Why) → ((node : Node) → o ≡ Ok node → at w.nodes n ≡ Some node)
          → armed w n (record { commit = commit; kept = kept }) o ≡ Ok x
          → LineOk calm number w gs (Stop n commit call kept) x
      by (Err y) is h = absurd (cc)
      by (Ok node) is h =
          let s : StopAt = record { commit = commit; kept = kept } in
          let e : quiet_line (with_node w n (record node { checkpoint = with_stop (Some s) node.checkpoint })) ≡ x = cc in
          subst (LineOk calm number w gs (Stop n commit call kept)) e
          (armed_ok calm number w gs holds (Stop n commit call kept) n node (is node refl) s)

  start_line : (x : Lined) (n : ℕ) → (calm ≡ true → ⊥) → started w number n (down_at (at w.nodes n)) ≡ Ok x
      → LineOk calm number w gs (Start n) x
  unfolding started
  start_line x n moves h = by (down_at (at w.nodes n)) (λ node e. is_down_at (at w.nodes n) node e) h
    where
      by : (o : Result Node Why) → ((node : Node) → o ≡ Ok node → (at w.nodes n ≡ Some node) × (node.up ≡ false))
          → started w number n o ≡ Ok x
          → LineOk calm number w gs (Start n) x
      by (Err y) is h = absurd (cc)
      by (Ok node) is h =
          let k = is node refl in
          let s = starts node.end.role node.end.config node.checkpoint.book node.clock (block_of n number) in
          committed_line (LineOk calm number w gs (Start n) x) w number n (opened (block_of n number) node) None s x
          (λ c whole made.
          let o = start_ok calm codecs laws number w gs holds below nodes n node k.0 k.1 moves
          (opened (block_of n number) node).access c whole in
          subst (LineOk calm number w gs (Start n)) made (record {
            goes = o.goes;
            given = all_map (StepGives number n node.end node.clock event.OpenTunnel s.moves) (LineGives number w (Start n))
                (start_gives calm codecs laws number w gs holds below nodes n node k.0 k.1 moves)
                (sent_in (after_step w number n (record (opened (block_of n number) node) { checkpoint = c }) None s).done) o.given;
            told = o.told;
          }))
          (λ c cut made.
          subst (LineOk calm number w gs (Start n)) made
          (off_ok calm number w gs holds (Start n) n node k.0 (opened (block_of n number) node) refl refl c
          (start_cut calm codecs laws number w gs holds below nodes n node k.0 k.1 moves c cut)))
          h

  pub line_ok : (x : Lined) (l : Line) → FitsLine l → (calm ≡ true → IsCalm l) → HeldIsSent w gs → line w number l ≡ Ok x
      → LineOk calm number w gs l x
  unfolding line
  line_ok x (Remark text) fits is_calm was h =
      let e : quiet_line w ≡ x = cc in subst (LineOk calm number w gs (Remark text)) e
      (quiet_goes calm number w w gs (Remark text) holds (uncounted w) refl (same_nodes w.nodes) (λ h. h))
  line_ok x (Lac n m secret hide) fits is_calm was h =
      added_ok calm number w gs holds (Lac n m secret hide) n role.Lac (address_of m) secret hide (omega (arith, fits.0.1)) x h
  line_ok x (Lns n secret) fits is_calm was h = added_ok calm number w gs holds (Lns n secret) n role.Lns 0 secret false
      (omega (arith, fits.0.1)) x h
  line_ok x (OpenUp n) fits is_calm was h =
      without_frame (OpenUp n) x n event.OpenTunnel (lac_at (at w.nodes n)) (λ node e. lac_there n node e) tt
      (λ secret. tt) refl h
  line_ok x (Close n i) fits is_calm was h =
      without_frame (Close n i) x n (event.CloseTunnel i) (with_tunnel i (declared (at w.nodes n)))
      (λ node e. any_there n node (has_tunnel i (declared (at w.nodes n)) node e)) tt (λ secret. tt) refl h
  line_ok x (Ring n port) fits is_calm was h =
      without_frame (Ring n port) x n (event.Ring port) (lac_at (at w.nodes n)) (λ node e. lac_there n node e) tt
      (λ secret. tt) refl h
  line_ok x (Frame n bytes) fits is_calm was h = frame_line (LineOk calm number w gs (Frame n bytes)) w number n bytes
      (of_frame n bytes) x h
  line_ok x (FromSub n session frame) fits is_calm was h =
      stepped_ok calm codecs laws number w gs holds below nodes (FromSub n session frame) x n (event.Payload session frame) None
      (with_call session (lac_at (at w.nodes n)))
      (λ node e.
      let is = is_lac_at (at w.nodes n) node (has_call session (lac_at (at w.nodes n)) node e) in
      (at_moment w n node (is_there w n node is.0), is.2, from_sub w number n session frame node is.1))
      (λ secret. tt) h
  line_ok x (Down n session frame) fits is_calm was h =
      stepped_ok calm codecs laws number w gs holds below nodes (Down n session frame) x n (event.Lower session frame) None
      (with_call session (lns_at (at w.nodes n)))
      (λ node e.
      let is = is_lns_at (at w.nodes n) node (has_call session (lns_at (at w.nodes n)) node e) in
      let here = is_there w n node is.0 in (
        at_moment w n node here,
        is.2,
        down_to w number n session frame node is.1
            (λ lns. (here, ByItself (ap (stepped w number n (event.Lower session frame) None) e))),
      ))
      (λ secret. tt) h
  line_ok x (Hang n session) fits is_calm was h =
      without_frame (Hang n session) x n (event.Hang session) (with_call session (lac_at (at w.nodes n)))
      (λ node e. lac_there n node (has_call session (lac_at (at w.nodes n)) node e)) tt (λ secret. tt) refl h
  line_ok x (DropCall n session) fits is_calm was h =
      without_frame (DropCall n session) x n (event.DropCall session) (with_call session (declared (at w.nodes n)))
      (λ node e. any_there n node (has_call session (declared (at w.nodes n)) node e)) tt (λ secret. tt) refl h
  line_ok x (Deliver k) fits is_calm was h =
      delivers_ok (Deliver k) x (slice_get w.packets (k - 1))
      (λ p e. all_at (PacketOk calm w.nodes gs) w.packets (k - 1) p e holds.packets) refl h
  line_ok x (Load n k) fits is_calm was h =
      load_line (LineOk calm number w gs (Load n k)) w number n (slice_get w.packets (k - 1)) (load_ok n k) x h
  line_ok x (Hand n k) fits is_calm was h = hand_line (LineOk calm number w gs (Hand n k)) w number n k (hand_ok n k was) x h
  line_ok x (Tick n milliseconds) fits is_calm was h =
      without_frame (Tick n milliseconds) x n event.Tick (later milliseconds (declared (at w.nodes n)))
      (λ node e. (is_later w n milliseconds node e, later_up milliseconds (at w.nodes n) node e)) tt (λ secret. tt) refl h
  line_ok x (Crash n) fits is_calm was h = crash_line x n h
  line_ok x (Stop n commit call kept) fits is_calm was h = stop_line x n commit call kept h
  line_ok x (Start n) fits is_calm was h = start_line x n is_calm h
