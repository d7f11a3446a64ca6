-- What a tunnel hears in a later epoch: it is of its other end, in the same epoch, and the letter that comes next is the next one of its list.
use Rattle.std.proofs.Common.{◌≡◌, ◌⊎◌, ⊎_elim, ℕ, ◌+◌, ◌<◌, ◌≤◌, true, List, length, sym, ap, ap₂, ◌∙◌, subst, Option, Some, arith}
use Rattle.std.proofs.lemmas.Option.{slice_get_within}
use Rattle.std.specs.Prelude.{slice_get, unwrap_or}
use Rattle.id_table.specs.Ids.{at}
use Rattle.recv_window.specs.Window.{on_wire, class_of, ClassIsTrue}
use Rattle.recv_window.specs.declared.Class.TheVariants.{Next}
use Rattle.l2tp_header.specs.Reading.{body_of}
use Rattle.end_names.specs.Names.{address_of}
use Rattle.end_model.specs.declared.event.Event.{Event}
use Rattle.end_model.specs.declared.out.ControlOrigin.{ControlOrigin}
use Rattle.end_model.specs.Tunnels.{Tunnel, mode_of, is_current}
use Rattle.world_model.specs.World.{World, Node, Sender, epoch_of}
use Rattle.step_laws.specs.Letters.{Letter}
use Rattle.step_laws.specs.Arrivals.{Came, ComesTo, IsFor, IsNext, IsAgain, IsStop}
use Rattle.frame_laws.specs.Codecs.{Codecs}
use Rattle.connection_laws.proofs.Hearing.{same_address}
use Rattle.connection_laws.proofs.Numbers.{next_is_expected}
use Rattle.channel_laws.proofs.Spelled.{ReadsLetter}
use Rattle.channel_laws.specs.Accounts.{Unmade, Renewed, Account, History}
use Rattle.channel_laws.specs.Facts.{IsMade, partner_in, AreLinked, IsRenewed, ChannelOk, LiveOk, EndOk, BookOk, NodeOk, IsCopy, Holds}
use Rattle.channel_laws.specs.Recoveries.{WrittenIsRead, WrittenHasRoom}
use Rattle.channel_laws.specs.Steps.{IsNear, Comes}
use Rattle.channel_laws.proofs.Linked.{opener_of, renewed_of, first_or_later, renewed_alike, linked_back, BeginAlike}
use Rattle.channel_laws.proofs.Naming.{learned_made}
use Rattle.channel_laws.proofs.Coming.{FromTunnel, OfNoTunnel, heard}
use Rattle.channel_laws.proofs.Main.{not_recovery}
use Rattle.channel_laws.proofs.Readings.{IsLetterRead, IsNoneRead}

-- a control message of the other end, in the tunnel's own epoch
pub record HeardLater (h : History) (n i e : ℕ) (t : Tunnel) (sender : Option Sender) (k : Came) (bytes : List ℕ) : Type 0 where
  pub o : ControlOrigin
  pub near : IsNear (h.accounts n i e) t o
  pub sender_is : sender ≡ Some (record { node = (h.accounts n i e).peer; tunnel = (h.accounts n i e).remote })
  pub ns : unwrap_or k.header.ns 0 ≡ on_wire o.ns
  pub nr : unwrap_or k.header.nr 0 ≡ on_wire o.nr
  pub says : IsLetterRead (partner_in h.accounts e (h.accounts n i e)) o k.header bytes ⊎ IsNoneRead o k.header bytes
  -- it tells no more taken than was
  pub taken : o.nr ≤ (h.accounts n i e).first_given + length (partner_in h.accounts e (h.accounts n i e)).taken
  pub alike : (partner_in h.accounts e (h.accounts n i e)).first_given ≡ (h.accounts n i e).first_taken

-- and the next letter of it
pub record NextLater (h : History) (n i e : ℕ) (sender : Option Sender) (k : Came) (bytes : List ℕ) : Type 0 where
  pub letter : Letter
  pub there : slice_get (partner_in h.accounts e (h.accounts n i e)).given (length (h.accounts n i e).taken) ≡ Some letter
  pub sender_is : sender ≡ Some (record { node = (h.accounts n i e).peer; tunnel = (h.accounts n i e).remote })
  pub session : k.header.session ≡ letter.session
  pub reads : ReadsLetter letter (body_of bytes k.header)

module _ (codecs : Codecs) (again : WrittenIsRead) (room : WrittenHasRoom) (w : World) (h : History) (holds : Holds w h) (n : ℕ) (node : Node) (there : at w.nodes n ≡ Some node)
    (sender : Option Sender) (ev : Event) (comes : Comes w h n node.end sender ev) (i e : ℕ) (t : Tunnel) (at_t : at node.end.tunnels i ≡ Some t)
    (current : is_current (mode_of t.recovery) ≡ true) (epoch : epoch_of w n i ≡ e) (part : (h.accounts n i e).part ≡ Renewed) where
  abbrev a : Account
  a = h.accounts n i e

  abbrev p : Account
  p = partner_in h.accounts e a

  both_ok : EndOk w h n node.end × BookOk h n node.checkpoint.book
  both_ok = subst (NodeOk w h n) there (holds.nodes n)

  live : LiveOk w h n i t
  live = both_ok.0.live i t at_t

  pub channel_later : ChannelOk h.accounts n i e (h.accounts n i e) t
  channel_later = subst (λ z. ChannelOk h.accounts n i z (h.accounts n i z) t) epoch (live.channel current)

  r : IsRenewed w h n i e a
  r = renewed_of w h n i e a (holds.accounts n i e) part

  some : 0 < i
  some = (holds.accounts n i 0).some live.made

  made : IsMade a
  made none = let two : Renewed ≡ Unmade = sym part ∙ none in cc

  learned : (q : ℕ) → t.control.peer ≡ address_of q → (t.control.remote ≡ 0 → ⊥) → IsMade (h.accounts q t.control.remote 0)
  learned q peer known =
      let c = channel_later in
      let m = learned_made w h holds n i e made (λ z. known (c.remote ∙ z)) in
      subst (λ z. IsMade (h.accounts q z 0)) (sym c.remote) (subst (λ z. IsMade (h.accounts z a.remote 0)) (same_address _ _ (sym c.peer ∙ peer)) m)

  module _ (k : Came) (to : ComesTo ev t.control k) where
    is_for : IsFor k.header (body_of to.came.bytes k.header) t.control
    is_for = subst (λ bs. IsFor k.header bs t.control) to.came.body_is to.tunnel

    -- of a tunnel
    from_tunnel : FromTunnel w h n node.end sender k to.came.bytes → HeardLater h n i e t sender k to.came.bytes
    from_tunnel f =
        let close = f.near i t k.header at_t current (sym to.peer ∙ f.peer_is) to.came.read is_for in
        let same : f.packet.epoch ≡ e = close.0 ∙ epoch in
        let b = h.accounts f.packet.from f.o.tunnel e in
        let copy : IsCopy b f.packet f.o = subst (λ z. IsCopy (h.accounts f.packet.from f.o.tunnel z) f.packet f.o) same f.copy in
        let tells = ap (λ z. z) f.read.tunnel_is in
        let lt = r.later in
        let b_ok = holds.accounts f.packet.from f.o.tunnel e in
        let rb : IsRenewed w h f.packet.from f.o.tunnel e b = ⊎_elim (λ (z : e ≡ 0). absurd (omega (arith, z, lt))) (λ z. z) (first_or_later w h f.packet.from f.o.tunnel e b b_ok copy.made) in
        let named : (f.copy.tunnel ≡ 0 → ⊥) × (f.copy.tunnel ≡ b.remote) = ⊎_elim
        (λ z.
        let first = (opener_of w h f.packet.from f.o.tunnel f.packet.epoch (h.accounts f.packet.from f.o.tunnel f.packet.epoch) (holds.accounts f.packet.from f.o.tunnel f.packet.epoch) z.1).0 in
        absurd (omega (arith, first, same, lt)))
        (λ (z : (f.copy.tunnel ≡ 0 → ⊥) × (f.copy.tunnel ≡ (h.accounts f.packet.from f.o.tunnel f.packet.epoch).remote)).
        (z.0, z.1 ∙ ap (λ y. (h.accounts f.packet.from f.o.tunnel y).remote) same))
        f.copy.named in
        let header : k.header.tunnel ≡ t.control.local = ⊎_elim
        (λ z. z)
        (λ other. ⊎_elim
        (λ (z : IsAgain k.header k.body t.control). absurd (named.0 (sym f.read.tunnel_is ∙ z.none)))
        (λ (z : IsStop k.header k.body t.control). absurd (named.0 (sym f.read.tunnel_is ∙ z.none)))
        other)
        to.tunnel in
        let remote : b.remote ≡ i = sym named.1 ∙ (sym f.read.tunnel_is ∙ (header ∙ live.local)) in
        let peer : b.peer ≡ n = sym copy.to ∙ f.to in
        let l : AreLinked h.accounts f.packet.from f.o.tunnel n i = subst (λ z. AreLinked h.accounts f.packet.from f.o.tunnel n z) remote
        (subst (λ z. AreLinked h.accounts f.packet.from f.o.tunnel z b.remote) peer rb.linked) in
        let own_peer : a.peer ≡ f.packet.from = r.peer ∙ l.back_peer in
        let own_remote : a.remote ≡ f.o.tunnel = r.remote ∙ l.back in
        let it : p ≡ b = ap₂ (λ y z. h.accounts y z e) own_peer own_remote in
        let b_part : b.part ≡ Renewed = ⊎_elim (λ z. ap (λ (y : Account). y.part) (sym it) ∙ z)
        (λ none. absurd (copy.made (ap (λ (y : Account). y.part) (sym it ∙ none)))) r.other in
        let answers : a.answer ≡ b.answer = sym (r.same (ap (λ (y : Account). y.part) it ∙ b_part)) ∙ ap (λ (y : Account). y.answer) it in
        let begin : BeginAlike a b = renewed_alike w h n i f.packet.from f.o.tunnel e a b r rb (linked_back h.accounts f.packet.from f.o.tunnel n i l) answers in
        let here = begin.here in
        let nr = copy.nr in
        let lens = ap (λ (y : Account). length y.taken) it in
        record {
          o = f.o;
          near = subst (λ z. IsNear (h.accounts n i z) t f.o) same close.1;
          sender_is = f.sender_is ∙ ap₂ (λ y z. Some (record { node = y; tunnel = z })) (sym own_peer) (sym own_remote);
          ns = f.read.ns;
          nr = f.read.nr;
          says = subst (λ (y : Account). IsLetterRead y f.o k.header to.came.bytes ⊎ IsNoneRead f.o k.header to.came.bytes) (ap (h.accounts f.packet.from f.o.tunnel) same ∙ sym it) f.read.says;
          taken = omega (arith, nr, here, lens);
          alike = ap (λ (y : Account). y.first_given) it ∙ begin.there;
        }

    -- none other is for it
    not_refused : OfNoTunnel w h n node.end sender k to.came.bytes → ⊥
    not_refused f =
        let close = f.near i t k.header at_t current (sym to.peer ∙ f.peer_is) to.came.read is_for in
        let none = f.refusal.epoch in
        let same = close.0 in
        let lt = r.later in
        omega (arith, none, same, epoch, lt)

    pub heard_later : HeardLater h n i e t sender k to.came.bytes
    heard_later = ⊎_elim
        (λ f. from_tunnel f)
        (λ z. ⊎_elim
        (λ f. absurd (not_refused f))
        (λ f. absurd (not_recovery w h holds codecs n sender ev i t live learned k to f)) z)
        (heard w h holds codecs again room n node.end sender ev comes k to.came)

  pub next_later : (classes : ClassIsTrue) (k : Came) (next : IsNext ev t k) → NextLater h n i e sender k next.comes.came.bytes
  next_later classes k next =
      let f = heard_later k next.comes in
      ⊎_elim
      (λ (q : IsLetterRead p f.o k.header next.comes.came.bytes).
      let bound = slice_get_within p.given q.place q.letter q.there in
      let few = r.joined.few_there in
      let taken = channel_later.taken in
      let near = f.near.taken in
      let alike = f.alike in
      let at_place = q.at_place in
      let class : class_of (on_wire f.o.ns) t.control.channel.inbox ≡ Next = ap (λ z. class_of z t.control.channel.inbox) (sym f.ns) ∙ next.next in
      let number = next_is_expected classes f.o.ns t.control.channel.inbox (omega (arith, bound, few, taken, alike, at_place)) (omega (arith, near, taken)) class in
      let place : q.place ≡ length a.taken = omega (arith, number, taken, alike, at_place) in
      record {
        letter = q.letter;
        there = subst (λ z. slice_get p.given z ≡ Some q.letter) place q.there;
        sender_is = f.sender_is;
        session = q.session;
        reads = q.reads;
      })
      (λ (q : IsNoneRead f.o k.header next.comes.came.bytes). absurd (next.some (ap length (next.comes.came.body_is ∙ q.body))))
      f.says
