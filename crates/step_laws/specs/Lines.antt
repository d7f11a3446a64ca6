-- Which node a line is for, where it fits, and what comes to it.
use Rattle.std.proofs.Common.{◌≡◌, Bool, true, false, cond, ℕ, List, ◌+◌, ◌-◌, ◌^◌, refl, sym, ap, ◌∙◌, subst, Option, Some, None, Result, Ok, Err}
use Rattle.std.proofs.lemmas.Bool.{true≢false, eqb-true}
use Rattle.std.specs.Prelude.{is_some, min, if◌then◌else◌, ◌==◌, not, ◌||◌, nat_lt, length}
use Rattle.id_table.specs.Ids.{at}
use Rattle.wire_base.specs.declared.letter.Side.{Side}
use Rattle.wire_base.specs.declared.letter.Side.TheVariants as side
use Rattle.wire_base.specs.declared.why.Why.{Why}
use Rattle.wire_base.specs.declared.why.Why.TheVariants as why
use Rattle.l2tp_header.specs.declared.header.Header.{Header}
use Rattle.l2tp_header.specs.declared.header.HeaderError.{HeaderError}
use Rattle.l2tp_header.specs.declared.header.HeaderError.TheVariants as header
use Rattle.session_looks.specs.declared.look.Look.{Look}
use Rattle.session_looks.specs.declared.look.Look.TheVariants as look
use Rattle.l2tp_header.specs.Reading.{header_of, body_of}
use Rattle.session_looks.specs.Frames.{Carried, Upward, Dropped, carry_known, carry_look, frame_of, side_of, is_for_lcp, header_why}
use Rattle.end_names.specs.Names.{address_of}
use Rattle.end_names.specs.declared.role.Role.{Role}
use Rattle.end_names.specs.declared.role.Role.TheVariants as role
use Rattle.end_model.specs.Calls.{is_lac}
use Rattle.end_model.specs.declared.event.Event.{Event}
use Rattle.end_model.specs.declared.event.Event.TheVariants.{Datagram, Lcp}
use Rattle.world_model.specs.declared.packet.Packet.{Packet}
use Rattle.world_model.specs.declared.refusal.Refusal.{Refusal}
use Rattle.world_model.specs.declared.refusal.Refusal.TheVariants.{Unfit}
use Rattle.end_model.specs.Contents.{contents_of}
use Rattle.end_model.specs.End.{Stepped, step, is_not_closed, look_in}
use Rattle.world_model.specs.declared.held.Held.{Held}
use Rattle.world_model.specs.World.{World, Node, Checkpoint, Sender, Lined, Committed, IsFull, IsCut, IsWhole, running, declared, lac_at, lns_at, down_at, with_call, with_tunnel, later, after_step, commits, cut_line, settled, committed, block_of, stepped, addressee_of, arrival, refused_by, sender_of, arrives, delivers_it, delivers, birth_of, quiet_line, held_at, held_line, dropped_line, held_or_dropped, loads_by, loads_it, loads, taken_up, behind_hand, behind_up, hears, hands_it, hands}

-- ---- tests that end in an answer or a refusal

pub tested : {X Y : Type 0} (a : Bool) (x : X) (y : Y) (z : X) → cond a (Ok x) (Err y) ≡ Ok z → (a ≡ true) × (x ≡ z)
tested true x y z h = (refl, cc)
tested false x y z h = absurd (cc)

pub tested_not : {X Y : Type 0} (a : Bool) (x : X) (y : Y) (z : X) → cond a (Err y) (Ok x) ≡ Ok z → (a ≡ false) × (x ≡ z)
tested_not true x y z h = absurd (cc)
tested_not false x y z h = (refl, cc)

-- ---- nodes

is_lac_role : (r : Role) → is_lac r ≡ true → r ≡ role.Lac
is_lac_role role.Lac h = refl
is_lac_role role.Lns h = absurd (true≢false (sym h))

is_lns_role : (r : Role) → is_lac r ≡ false → r ≡ role.Lns
is_lns_role role.Lac h = absurd (true≢false h)
is_lns_role role.Lns h = refl

-- what is tested first
then_tested : {X Y : Type 0} (a : Bool) (r : Result X Y) (y : Y) (z : X) → cond a r (Err y) ≡ Ok z → (a ≡ true) × (r ≡ Ok z)
then_tested true r y z h = (refl, h)
then_tested false r y z h = absurd (cc)

then_tested_not : {X Y : Type 0} (a : Bool) (r : Result X Y) (y : Y) (z : X) → cond a (Err y) r ≡ Ok z → (a ≡ false) × (r ≡ Ok z)
then_tested_not true r y z h = absurd (cc)
then_tested_not false r y z h = (refl, h)

-- a node that is up
pub is_running : (x node : Node) → running x ≡ Ok node → (x ≡ node) × (node.up ≡ true)
is_running x node h = let t = tested x.up x why.Down node h in (t.1, subst (λ (y : Node). y.up ≡ true) t.1 t.0)

pub is_lac_at : (o : Option Node) (node : Node) → lac_at o ≡ Ok node → (o ≡ Some node) × (node.end.role ≡ role.Lac) × (node.up ≡ true)
is_lac_at None node h = absurd (cc)
is_lac_at (Some x) node h =
    let t = then_tested (is_lac x.end.role) (running x) why.Node node h in
    let u = is_running x node t.1 in
    (ap (λ y. Some y) u.0, subst (λ (y : Node). y.end.role ≡ role.Lac) u.0 (is_lac_role x.end.role t.0), u.1)

pub is_lns_at : (o : Option Node) (node : Node) → lns_at o ≡ Ok node → (o ≡ Some node) × (node.end.role ≡ role.Lns) × (node.up ≡ true)
is_lns_at None node h = absurd (cc)
is_lns_at (Some x) node h =
    let t = then_tested_not (is_lac x.end.role) (running x) why.Node node h in
    let u = is_running x node t.1 in
    (ap (λ y. Some y) u.0, subst (λ (y : Node). y.end.role ≡ role.Lns) u.0 (is_lns_role x.end.role t.0), u.1)

pub is_declared : (o : Option Node) (node : Node) → declared o ≡ Ok node → o ≡ Some node
is_declared None node h = absurd (cc)
is_declared (Some x) node h = ap (λ y. Some y) (is_running x node h).0

-- a node that is down
pub is_down_at : (o : Option Node) (node : Node) → down_at o ≡ Ok node → (o ≡ Some node) × (node.up ≡ false)
is_down_at None node h = absurd (cc)
is_down_at (Some x) node h =
    let t = tested_not x.up x why.Up node h in (ap (λ y. Some y) t.1, subst (λ (y : Node). y.up ≡ false) t.1 t.0)

-- one that has a live call of this session
pub has_call : (session : ℕ) (r : Result Node Why) (node : Node) → with_call session r ≡ Ok node → r ≡ Ok node
has_call session (Err x) node h = absurd (cc)
has_call session (Ok x) node h = ap (λ y. Ok y) (tested (is_some (at x.end.calls session)) x why.Call node h).1

-- one that has a tunnel which isn't closed
pub has_tunnel : (i : ℕ) (r : Result Node Why) (node : Node) → with_tunnel i r ≡ Ok node → r ≡ Ok node
has_tunnel i (Err x) node h = absurd (cc)
has_tunnel i (Ok x) node h = ap (λ y. Ok y) (tested (is_not_closed (at x.end.tunnels i)) x why.Tunnel node h).1

-- ---- nodes that make a step

-- none is there
pub none_there : {X : Type 0} (o : Option X) → is_some o ≡ false → o ≡ None
none_there None h = refl
none_there (Some x) h = absurd (true≢false h)

-- a node of the world, at some moment
pub record IsTimed (w : World) (n : ℕ) (node : Node) : Type 0 where
  pub before : Node
  pub there : at w.nodes n ≡ Some before
  pub same : node ≡ record before { clock = node.clock }

abbrev pub is_there : (w : World) (n : ℕ) (node : Node) → at w.nodes n ≡ Some node → IsTimed w n node
is_there w n node h = record { before = node; there = h; same = refl }

-- a LAC may keep more of its hosts, too
pub record IsAt (w : World) (n : ℕ) (node : Node) : Type 0 where
  pub before : Node
  pub there : at w.nodes n ≡ Some before
  pub same : node ≡ record before { clock = node.clock; access = node.access }

pub at_moment : (w : World) (n : ℕ) (node : Node) → IsTimed w n node → IsAt w n node
at_moment w n node t = subst (IsAt w n) (sym t.same) (record { before = t.before; there = t.there; same = refl })

pub is_at : (w : World) (n : ℕ) (node : Node) → at w.nodes n ≡ Some node → IsAt w n node
is_at w n node h = record { before = node; there = h; same = refl }

-- a tick puts the clock of its node on
abbrev pub put_on : ℕ → Node → Node
put_on milliseconds old = record old { clock = min (old.clock + milliseconds) (2 ^ 64 - 1) }

pub record IsPutOn (w : World) (n milliseconds : ℕ) (node : Node) : Type 0 where
  pub old : Node
  pub there : at w.nodes n ≡ Some old
  pub same : put_on milliseconds old ≡ node

pub is_put_on : (w : World) (n milliseconds : ℕ) (node : Node) → later milliseconds (declared (at w.nodes n)) ≡ Ok node → IsPutOn w n milliseconds node
is_put_on w n milliseconds node h = by (at w.nodes n) refl h
  where
    by : (o : Option Node) → at w.nodes n ≡ o → later milliseconds (declared o) ≡ Ok node → IsPutOn w n milliseconds node
    by None is e = absurd (cc)
    by (Some old) is e = running_on old is (old.up) refl e
      where
        running_on : (old : Node) → at w.nodes n ≡ Some old → (b : Bool) → old.up ≡ b
            → later milliseconds (if b then Ok old else Err why.Down) ≡ Ok node → IsPutOn w n milliseconds node
        running_on old is true up e =
            let same : record old { clock = min (old.clock + milliseconds) (2 ^ 64 - 1) } ≡ node = cc in record { old = old; there = is; same = same }
        running_on old is false up e = absurd (cc)

pub is_later : (w : World) (n milliseconds : ℕ) (node : Node) → later milliseconds (declared (at w.nodes n)) ≡ Ok node → IsTimed w n node
is_later w n milliseconds node h =
    let k = is_put_on w n milliseconds node h in subst (IsTimed w n) k.same (record { before = k.old; there = k.there; same = refl })

-- ---- what lines lead to

-- what comes of a step of a node: all its records were committed, or a stop cut it off
module _ (P : Type 0) (w : World) (number n : ℕ) (node : Node) (sender : Option Sender) (s : Stepped) (x : Lined) where
  abbrev pub WasWhole : Type 0
  WasWhole = (k : Checkpoint) → commits node.checkpoint (contents_of node.end s) ≡ IsWhole k
      → after_step w number n (record node { checkpoint = k }) sender s ≡ x → P

  abbrev pub WasCut : Type 0
  WasCut = (k : Checkpoint) → commits node.checkpoint (contents_of node.end s) ≡ IsCut k → cut_line w number n node k ≡ x → P

  pub committed_line : WasWhole → WasCut → committed w number n node sender s ≡ Ok x → P
  unfolding committed settled
  committed_line whole cut h = by (commits node.checkpoint (contents_of node.end s)) refl h
    where
      by : (c : Committed) → commits node.checkpoint (contents_of node.end s) ≡ c → settled w number n node sender s c ≡ Ok x → P
      by (IsFull records) is h = absurd (cc)
      by (IsCut k) is h = cut k is cc
      by (IsWhole k) is h = whole k is cc

-- a step of a node on an event
pub step_line : (P : Type 0) (w : World) (number : ℕ) (x : Lined) (n : ℕ) (ev : Event) (sender : Option Sender) (o : Result Node Why)
    → ((node : Node) → o ≡ Ok node → WasWhole P w number n node sender (step node.end node.clock (block_of n number) ev) x)
    → ((node : Node) → o ≡ Ok node → WasCut P w number n node sender (step node.end node.clock (block_of n number) ev) x)
    → stepped w number n ev sender o ≡ Ok x → P
unfolding stepped
step_line P w number x n ev sender (Err y) whole cut h = absurd (cc)
step_line P w number x n ev sender (Ok node) whole cut h =
    committed_line P w number n node sender (step node.end node.clock (block_of n number) ev) x (whole node refl) (cut node refl) h

-- a packet that is delivered: it may be, and its node makes a step on it
module _ (P : Type 0) (w : World) (number : ℕ) (x : Lined) (d : Result Lined Refusal) where
  abbrev pub comes_to : Packet → Node → Result Lined Refusal
  comes_to p node = stepped w number p.to (Datagram (address_of p.from) p.bytes) (sender_of p.from p.origin) (Ok node)

  abbrev pub Arrives : Option Packet → Type 0
  Arrives o = (p : Packet) (node : Node) → o ≡ Some p → at w.nodes p.to ≡ Some node → node.up ≡ true → refused_by w p node p.origin ≡ None
      → d ≡ comes_to p node → comes_to p node ≡ Ok x → P

  arrived : (p : Packet) (node : Node) (r : Option Refusal) → (r ≡ None → d ≡ comes_to p node → comes_to p node ≡ Ok x → P)
      → d ≡ arrives w number p node r → d ≡ Ok x → P
  unfolding arrives
  arrived p node (Some f) on is h = let e : Err f ≡ Ok x = sym is ∙ h in absurd cc
  arrived p node None on is h = on refl is (sym is ∙ h)

  pub deliver_line : (o : Option Packet) → Arrives o → d ≡ delivers w number o → d ≡ Ok x → P
  unfolding delivers delivers_it arrival addressee_of
  deliver_line None on is h = let e : Err (Unfit why.Packet) ≡ Ok x = sym is ∙ h in absurd cc
  deliver_line (Some p) on is h = by (at w.nodes p.to) refl is
    where
      by : (o : Option Node) → at w.nodes p.to ≡ o → d ≡ delivers_it w number (addressee_of p o) → P
      by None there e = let none : Err (Unfit why.Node) ≡ Ok x = sym e ∙ h in absurd cc
      by (Some node) there e = up_or_down node there (node.up) refl e
        where
          up_or_down : (node : Node) → at w.nodes p.to ≡ Some node → (b : Bool) → node.up ≡ b
              → d ≡ delivers_it w number (if b then Ok (p, node) else Err why.Down) → P
          up_or_down node there true up e = arrived p node (refused_by w p node p.origin) (λ young so leads. on p node refl there up young so leads) e h
          up_or_down node there false up e = let none : Err (Unfit why.Down) ≡ Ok x = sym e ∙ h in absurd cc

-- ---- data packets that are carried in two steps

-- a node that is up
declared_is : (o : Option Node) (node : Node) → declared o ≡ Ok node → (o ≡ Some node) × (node.up ≡ true)
declared_is None node h = absurd (cc)
declared_is (Some y) node h = let u = is_running y node h in (ap (λ z. Some z) u.0, u.1)

-- the frame of a data packet for a node, which passes by what the node's end sees of its session
pub record IsLoaded (w : World) (n : ℕ) (o : Option Packet) (f : Held) : Type 0 where
  pub packet : Packet
  pub found : o ≡ Some packet
  pub to : packet.to ≡ n
  pub node : Node
  pub there : at w.nodes n ≡ Some node
  pub up : node.up ≡ true
  pub header : Header
  pub read : header_of packet.bytes ≡ Ok header
  pub plain : header.control ≡ false
  pub carried : carry_look node.end.role (look_in (at node.end.calls header.session)) (address_of packet.from) header (frame_of (body_of packet.bytes header))
      ≡ Upward f.tunnel f.peer f.side f.frame
  pub session : f.session ≡ header.session
  pub birth : f.birth ≡ birth_of w n header.session

-- no frame is dropped for want of room
header_other : (e : HeaderError) → header_why e ≡ why.Queue → ⊥
header_other header.Short h = cc
header_other (header.Version seen) h = cc
header_other (header.ControlFlags word) h = cc
header_other (header.Length said have) h = cc

known_other : (role : Role) (up : Bool) (tunnel of peer from : ℕ) (frame : List ℕ) (word : Why) → carry_known role up tunnel of peer from frame ≡ Dropped word
    → word ≡ why.Queue → ⊥
unfolding carry_known
known_other role up tunnel of peer from frame word h queue =
    by (not (tunnel == of)) (not (peer == from)) (nat_lt (length frame) 2) (up || is_for_lcp role frame) h
  where
    by : (a b c d : Bool)
        → (if a then Dropped why.Tunnel else if b then Dropped why.Peer else if c then Dropped why.Short
        else if d then Upward tunnel peer (side_of role frame) frame else Dropped why.Closed) ≡ Dropped word → ⊥
    by true b c d h = cc
    by false true c d h = cc
    by false false true d h = cc
    by false false false true h = cc
    by false false false false h = cc

look_other : (role : Role) (l : Look) (from : ℕ) (h : Header) (frame : List ℕ) (word : Why) → carry_look role l from h frame ≡ Dropped word → word ≡ why.Queue → ⊥
unfolding carry_look
look_other role look.Unborn from h frame word is queue = cc
look_other role look.Dead from h frame word is queue = cc
look_other role (look.Bound tunnel peer) from h frame word is queue = known_other role false tunnel h.tunnel peer from frame word is queue
look_other role (look.Established tunnel peer) from h frame word is queue = known_other role true tunnel h.tunnel peer from frame word is queue

-- what is to be shown of a line that loads a packet
pub record OfLoad (P : Lined → Type 0) (w : World) (number n : ℕ) (o : Option Packet) : Type 1 where
  pub dropped : (word : Why) → (word ≡ why.Queue → ⊥) → P (dropped_line w number n word)
  pub held : (f : Held) → IsLoaded w n o f → P (held_line w number n f)

module _ (P : Lined → Type 0) (w : World) (number n : ℕ) (o : Option Packet) (of : OfLoad P w number n o) (x : Lined) where
  module _ (node : Node) (there : at w.nodes n ≡ Some node) (up : node.up ≡ true) (p : Packet) (found : o ≡ Some p) (to : p.to ≡ n) where
    by_carried : (h : Header) → header_of p.bytes ≡ Ok h → h.control ≡ false → (c : Carried)
        → carry_look node.end.role (look_in (at node.end.calls h.session)) (address_of p.from) h (frame_of (body_of p.bytes h)) ≡ c
        → P (held_or_dropped w number n h.session c)
    unfolding held_or_dropped
    by_carried h read plain (Upward tunnel peer side frame) is =
        of.held (record { session = h.session; birth = birth_of w n h.session; tunnel = tunnel; peer = peer; side = side; frame = frame }) (record {
          packet = p;
          found = found;
          to = to;
          node = node;
          there = there;
          up = up;
          header = h;
          read = read;
          plain = plain;
          carried = is;
          session = refl;
          birth = refl;
        })
    by_carried h read plain (Dropped word) is = of.dropped word (look_other node.end.role _ (address_of p.from) h (frame_of (body_of p.bytes h)) word is)

    by_header : (r : Result Header HeaderError) → header_of p.bytes ≡ r → loads_by w number n node.end (address_of p.from) p.bytes r ≡ Ok x → P x
    unfolding loads_by
    by_header (Err e) read h = let is : dropped_line w number n (header_why e) ≡ x = cc in subst P is (of.dropped (header_why e) (header_other e))
    by_header (Ok k) read h =
        let l = held_or_dropped w number n k.session (carry_look node.end.role (look_in (at node.end.calls k.session)) (address_of p.from) k (frame_of (body_of p.bytes k))) in
        let t = tested_not k.control l (Unfit why.Packet) x h in
        subst P t.1 (by_carried k read t.0 _ refl)

  by_packet : (node : Node) → at w.nodes n ≡ Some node → node.up ≡ true → (q : Option Packet) → o ≡ q → loads_it w number n node q ≡ Ok x → P x
  unfolding loads_it
  by_packet node there up None found h = absurd (cc)
  by_packet node there up (Some p) found h =
      let t = then_tested (p.to == n) (loads_by w number n node.end (address_of p.from) p.bytes (header_of p.bytes)) (Unfit why.Packet) x h in
      by_header node there up p found (eqb-true p.to n t.0) (header_of p.bytes) refl t.1

  pub load_line : loads w number n o (declared (at w.nodes n)) ≡ Ok x → P x
  unfolding loads
  load_line h = by (declared (at w.nodes n)) refl h
    where
      by : (r : Result Node Why) → declared (at w.nodes n) ≡ r → loads w number n o r ≡ Ok x → P x
      by (Err y) is h = absurd (cc)
      by (Ok node) is h = let d = declared_is (at w.nodes n) node is in by_packet node d.0 d.1 o refl h

-- a frame that is held at a node
pub record IsHeldAt (w : World) (n number : ℕ) : Type 0 where
  pub node : Node
  pub there : at w.nodes n ≡ Some node
  pub up : node.up ≡ true
  pub frame : Held
  pub held : at (held_at w n) number ≡ Some frame

-- what is to be shown of a line that hands up a frame; the end makes a step only on one of LCP, and where a stop cuts that off, no frame is handed up
pub record OfHand (P : Lined → Type 0) (w : World) (line n number : ℕ) : Type 1 where
  pub passed : (k : IsHeldAt w n number) → (k.frame.side ≡ side.Lcp → ⊥) → P (behind_hand line n k.node.end.role k.frame (quiet_line (taken_up w n number)))
  pub heard : (k : IsHeldAt w n number) (y : Lined) → k.frame.side ≡ side.Lcp → stepped (taken_up w n number) line n (Lcp k.frame.session k.frame.frame) None (Ok k.node) ≡ Ok y
      → y.cut ≡ false → P (behind_hand line n k.node.end.role k.frame y)
  pub cut : (k : IsHeldAt w n number) (y : Lined) → k.frame.side ≡ side.Lcp → stepped (taken_up w n number) line n (Lcp k.frame.session k.frame.frame) None (Ok k.node) ≡ Ok y
      → y.cut ≡ true → P y

module _ (P : Lined → Type 0) (w : World) (line n number : ℕ) (of : OfHand P w line n number) (x : Lined) where
  module _ (k : IsHeldAt w n number) where
    abbrev behind : Lined → Lined
    behind y = behind_hand line n k.node.end.role k.frame y

    abbrev leads : Lined → Result Lined Refusal
    leads y = Ok y

    by_cut : (y : Lined) → (y.cut ≡ false → P (behind y)) → (y.cut ≡ true → P y) → leads (if y.cut then y else behind y) ≡ leads x → P x
    by_cut y whole off h = by y.cut refl h
      where
        by : (b : Bool) → y.cut ≡ b → leads (if b then y else behind y) ≡ leads x → P x
        by true is h = let e : y ≡ x = cc in subst P e (off is)
        by false is h = let e : behind y ≡ x = cc in subst P e (whole is)

    by_step : (r : Result Lined Refusal) → ((y : Lined) → r ≡ Ok y → y.cut ≡ false → P (behind y)) → ((y : Lined) → r ≡ Ok y → y.cut ≡ true → P y)
        → behind_up line n k.node.end.role k.frame r ≡ Ok x → P x
    by_step (Err e) whole off h = absurd (cc)
    by_step (Ok y) whole off h = by_cut y (whole y refl) (off y refl) h

    by_side : (s : Side) → k.frame.side ≡ s → behind_up line n k.node.end.role k.frame (hears (taken_up w n number) line n k.node k.frame s) ≡ Ok x → P x
    unfolding hears
    by_side side.Sub is h = by_step (Ok (quiet_line (taken_up w n number))) (λ y e u. (let same : quiet_line (taken_up w n number) ≡ y = cc in subst (λ z. P (behind z)) same (of.passed k (λ lcp. let two = sym is ∙ lcp in cc))))
        (λ y e c. (let same : quiet_line (taken_up w n number) ≡ y = cc in absurd (true≢false (sym c ∙ sym (ap (λ (z : Lined). z.cut) same))))) h
    by_side side.Net is h = by_step (Ok (quiet_line (taken_up w n number))) (λ y e u. (let same : quiet_line (taken_up w n number) ≡ y = cc in subst (λ z. P (behind z)) same (of.passed k (λ lcp. let two = sym is ∙ lcp in cc))))
        (λ y e c. (let same : quiet_line (taken_up w n number) ≡ y = cc in absurd (true≢false (sym c ∙ sym (ap (λ (z : Lined). z.cut) same))))) h
    by_side side.Lcp is h = by_step (stepped (taken_up w n number) line n (Lcp k.frame.session k.frame.frame) None (Ok k.node))
        (λ y e u. of.heard k y is e u) (λ y e c. of.cut k y is e c) h

  by_held : (node : Node) → at w.nodes n ≡ Some node → node.up ≡ true → (o : Option Held) → at (held_at w n) number ≡ o → hands_it w line n number node o ≡ Ok x → P x
  unfolding hands_it
  by_held node there up None is h = absurd (cc)
  by_held node there up (Some f) is h = by_side (record { node = node; there = there; up = up; frame = f; held = is }) f.side refl h

  pub hand_line : hands w line n number (declared (at w.nodes n)) ≡ Ok x → P x
  unfolding hands
  hand_line h = by (declared (at w.nodes n)) refl h
    where
      by : (r : Result Node Why) → declared (at w.nodes n) ≡ r → hands w line n number r ≡ Ok x → P x
      by (Err y) is h = absurd (cc)
      by (Ok node) is h = let d = declared_is (at w.nodes n) node is in by_held node d.0 d.1 (at (held_at w n) number) refl h

-- the line of a frame of LCP is this step, with the frame behind which it comes
pub hand_steps : (w : World) (line n number : ℕ) (k : IsHeldAt w n number) → k.frame.side ≡ side.Lcp
    → hands w line n number (declared (at w.nodes n))
    ≡ behind_up line n k.node.end.role k.frame (stepped (taken_up w n number) line n (Lcp k.frame.session k.frame.frame) None (Ok k.node))
unfolding hands hands_it hears
hand_steps w line n number k is = rw (k.there, k.up, k.held, is) refl
