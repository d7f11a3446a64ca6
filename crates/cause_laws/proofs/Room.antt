-- A line that brings a message for which its tunnel has no room tells that it is dropped for that.
use Rattle.std.proofs.Common.{◌≡◌, inl, inr, ⊎_elim, false, ℕ, ◌-◌, List, [], ◌∷◌, refl, sym, ap, ◌∙◌, subst, Option, Some, Ok}
use Rattle.std.specs.Prelude.{slice_get}
use Rattle.id_table.specs.Ids.{at}
use Rattle.wire_base.specs.declared.why.Why.{Why}
use Rattle.wire_base.specs.declared.why.Why.TheVariants as why
use Rattle.schedule_text.specs.declared.line.Line.{Line}
use Rattle.schedule_text.specs.declared.line.Line.TheVariants.{Remark, Lac, Lns, OpenUp, Close, Ring, Frame, FromSub, Down, Hang, DropCall, Deliver, Load, Hand, Tick, Crash, Stop, Start}
use Rattle.end_model.specs.declared.event.Event.{Event}
use Rattle.end_model.specs.declared.event.Event.TheVariants as event
use Rattle.end_model.specs.declared.out.Out.{Out}
use Rattle.end_model.specs.declared.out.Out.TheVariants.{Drop}
use Rattle.world_model.specs.declared.packet.Packet.{Packet}
use Rattle.end_names.specs.Names.{address_of}
use Rattle.end_model.specs.Secrets.{uncovered_event}
use Rattle.end_model.specs.End.{End, step}
use Rattle.world_model.specs.Texts.{Drops}
use Rattle.world_model.specs.World.{World, Node, Checkpoint, Sender, Lined, after_step, given, entries_of, entry_of, shown, moved_all, with_node, block_of, sender_of, line}
use Rattle.step_laws.specs.Lines.{deliver_line}
use Rattle.step_laws.specs.Letters.{Among}
use Rattle.step_laws.specs.Room.{IsFull, FullAreRefused}
use Rattle.std.specs.Prelude.{take, drop}
use Rattle.cause_laws.specs.Hosts.{HostActs, HostSends, HostLeaves, FrameBrings, ByItsHost, ByAPadr}
use Rattle.cause_laws.specs.Causes.{moment_of, FindsNoRoom, TellsOfRoom}
use Rattle.cause_laws.proofs.Nodes.{EndsAreKept, whole_step}

-- what is dropped is told
told_dropped : (number n : ℕ) (x : Why) (os : List Out) (v : World) → Among (Drop x) os → Among (Drops number n x) (entries_of number n os v)
unfolding entries_of entry_of
told_dropped number n x [] v a = absurd a
told_dropped number n x (o ∷ os) v a = ⊎_elim
    (λ (is : o ≡ Drop x). inl (ap (λ (q : Out). entry_of number n v q) is))
    (λ rest. inr (told_dropped number n x os (shown n v o) rest))
    a

-- what finds no room is a datagram
comes_in : (e : End) (moment : ℕ) (ev : Event) → IsFull e moment ev → (peer : ℕ) × (bytes : List ℕ) × (ev ≡ event.Datagram peer bytes)
comes_in e moment ev f = (f.letter.peer, f.next.comes.came.bytes, f.next.comes.came.is)

module _ (full : FullAreRefused) (w : World) (kept : EndsAreKept w) (number : ℕ) (x : Lined) where
  module _ (l : Line) (n : ℕ) (f : FindsNoRoom w l n) where
    -- no other event does
    never : (ev : Event) → f.event ≡ ev → ((secret : Option (List ℕ)) (peer : ℕ) (bytes : List ℕ) → uncovered_event secret ev ≡ event.Datagram peer bytes → ⊥)
        → Among (Drops number n why.Queue) x.entries
    never ev is other =
        let secret = f.node.end.config.secret in
        let c = comes_in f.node.end (moment_of l f.node) (uncovered_event secret f.event) f.full in
        absurd (other secret c.0 c.1 (ap (uncovered_event secret) (sym is) ∙ c.2))

    -- the step that the line makes of the node
    of_step : (k : Checkpoint) (sender : Option Sender) → f.node.clock ≡ moment_of l f.node
        → after_step w number n (record f.node { checkpoint = k }) sender (step f.node.end f.node.clock (block_of n number) f.event) ≡ x → Among (Drops number n why.Queue) x.entries
    unfolding after_step given
    of_step k sender clock is =
        let s = step f.node.end f.node.clock (block_of n number) f.event in
        let v = moved_all n s.moves (with_node w n (record f.node { end = s.end; checkpoint = k })) in
        let dropped : Among (Drop why.Queue) (step f.node.end (moment_of l f.node) (block_of n number) f.event).outputs =
        full f.node.end (kept n f.node f.is) (moment_of l f.node) (block_of n number) (uncovered_event f.node.end.config.secret f.event) f.full f.named f.nr in
        subst (λ (q : Lined). Among (Drops number n why.Queue) q.entries) is
        (told_dropped number n why.Queue s.outputs v
        (subst (λ (m : ℕ). Among (Drop why.Queue) (step f.node.end m (block_of n number) f.event).outputs) (sym clock) dropped))

  -- a frame brings no datagram
  framed : (n : ℕ) (bytes : List ℕ) (f : FindsNoRoom w (Frame n bytes) n) → FrameBrings w n bytes f.event → Among (Drops number n why.Queue) x.entries
  framed n bytes f (ByItsHost lac short acts) = by f.event refl acts
    where
      by : (ev : Event) → f.event ≡ ev → HostActs lac.access lac.node.end bytes ev → Among (Drops number n why.Queue) x.entries
      by _ is (HostSends g of stage code) =
          never (Frame n bytes) n f (event.Payload g.session (take (g.end - g.start) (drop g.start bytes))) is (λ secret peer packet e. cc)
      by _ is (HostLeaves g of stage code) = never (Frame n bytes) n f (event.Hang g.session) is (λ secret peer packet e. cc)
  framed n bytes f (ByAPadr lac src service tags uniq relay short padr asked cookie new is) =
      never (Frame n bytes) n f (event.Admitted src) is (λ secret peer packet e. cc)

-- the step is that of the node that finds no room
alike : (w : World) (number : ℕ) (x : Lined) (n m : ℕ) (y z : Node) (k : Checkpoint) (sender : Option Sender) (ev comes : Event) → n ≡ m → z ≡ y → ev ≡ comes
    → after_step w number m (record y { checkpoint = k }) sender (step y.end y.clock (block_of m number) comes) ≡ x
    → after_step w number n (record z { checkpoint = k }) sender (step z.end z.clock (block_of n number) ev) ≡ x
alike w number x n m y z k sender ev comes to same is made = rw (to, same, is) made

-- a packet that arrives
arrived : FullAreRefused → (w : World) → EndsAreKept w → (number : ℕ) (x : Lined) (k n : ℕ) (f : FindsNoRoom w (Deliver k) n) (p : Packet)
    → slice_get w.packets (k - 1) ≡ Some p → n ≡ p.to → f.event ≡ event.Datagram (address_of p.from) p.bytes → x.cut ≡ false
    → line w number (Deliver k) ≡ Ok x → Among (Drops number n why.Queue) x.entries
unfolding line
arrived full w kept number x k n f p sent to is uncut h =
    deliver_line (Among (Drops number n why.Queue) x.entries) w number x (line w number (Deliver k)) (slice_get w.packets (k - 1))
    (λ q node found there up young so leads.
    let both : Some q ≡ Some p = sym found ∙ sent in
    let packet : q ≡ p = cc in
    let to_it : n ≡ q.to = to ∙ ap (λ (y : Packet). y.to) (sym packet) in
    let is_it : f.event ≡ event.Datagram (address_of q.from) q.bytes = is ∙ ap (λ (y : Packet). event.Datagram (address_of y.from) y.bytes) (sym packet) in
    whole_step (Among (Drops number n why.Queue) x.entries) w number x q.to (event.Datagram (address_of q.from) q.bytes) (sender_of q.from q.origin) (Ok node)
    (λ y e c whole made.
    let same : node ≡ y = cc in
    let nodes : Some f.node ≡ Some y = sym f.is ∙ (ap (at w.nodes) to_it ∙ (there ∙ ap (λ (z : Node). Some z) same)) in
    let one : f.node ≡ y = cc in
    of_step full w kept number x (Deliver k) n f c (sender_of q.from q.origin) refl
    (alike w number x n q.to y f.node c (sender_of q.from q.origin) f.event (event.Datagram (address_of q.from) q.bytes) to_it one is_it made))
    uncut leads)
    refl h

-- of each kind
pub room_told : FullAreRefused → (w : World) → EndsAreKept w → (number : ℕ) (l : Line) → TellsOfRoom w number l
unfolding line
room_told full w kept number (Remark text) x h uncut n f = absurd f.brings
room_told full w kept number (Lac m lns secret hide) x h uncut n f = absurd f.brings
room_told full w kept number (Lns m secret) x h uncut n f = absurd f.brings
room_told full w kept number (OpenUp m) x h uncut n f = never full w kept number x (OpenUp m) n f event.OpenTunnel f.brings.1 (λ secret peer bytes e. cc)
room_told full w kept number (Close m i) x h uncut n f = never full w kept number x (Close m i) n f (event.CloseTunnel i) f.brings.1 (λ secret peer bytes e. cc)
room_told full w kept number (Ring m port) x h uncut n f = never full w kept number x (Ring m port) n f (event.Ring port) f.brings.1 (λ secret peer bytes e. cc)
room_told full w kept number (Frame m bytes) x h uncut n f =
    at_its_lac n f.brings.0 f
  where
    at_its_lac : (q : ℕ) → q ≡ m → FindsNoRoom w (Frame m bytes) q → Among (Drops number q why.Queue) x.entries
    at_its_lac q to g =
        let here : FindsNoRoom w (Frame m bytes) m = subst (λ k. FindsNoRoom w (Frame m bytes) k) to g in
        subst (λ k. Among (Drops number k why.Queue) x.entries) (sym to) (framed full w kept number x m bytes here here.brings.1)
room_told full w kept number (FromSub m session frame) x h uncut n f =
    never full w kept number x (FromSub m session frame) n f (event.Payload session frame) f.brings.1 (λ secret peer bytes e. cc)
room_told full w kept number (Down m session frame) x h uncut n f =
    never full w kept number x (Down m session frame) n f (event.Lower session frame) f.brings.1 (λ secret peer bytes e. cc)
room_told full w kept number (Hang m session) x h uncut n f = never full w kept number x (Hang m session) n f (event.Hang session) f.brings.1 (λ secret peer bytes e. cc)
room_told full w kept number (DropCall m session) x h uncut n f =
    never full w kept number x (DropCall m session) n f (event.DropCall session) f.brings.1 (λ secret peer bytes e. cc)
room_told full w kept number (Deliver k) x h uncut n f = by f.brings
  where
    by : (p : Packet) × (slice_get w.packets (k - 1) ≡ Some p) × (n ≡ p.to) × (f.event ≡ event.Datagram (address_of p.from) p.bytes)
        → Among (Drops number n why.Queue) x.entries
    by (p, sent, to, is) = arrived full w kept number x k n f p sent to is uncut h
room_told full w kept number (Load m k) x h uncut n f = absurd f.brings
room_told full w kept number (Hand m k) x h uncut n f =
    let b = f.brings in never full w kept number x (Hand m k) n f (event.Lcp b.0.session b.0.frame) b.4 (λ secret peer bytes e. cc)
room_told full w kept number (Tick m milliseconds) x h uncut n f = never full w kept number x (Tick m milliseconds) n f event.Tick f.brings.1 (λ secret peer bytes e. cc)
room_told full w kept number (Crash m) x h uncut n f = absurd f.brings
room_told full w kept number (Stop m commit call keeps) x h uncut n f = absurd f.brings
room_told full w kept number (Start m) x h uncut n f = absurd f.brings
