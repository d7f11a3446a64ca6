-- What is read of a packet: which tunnel sent it, and what that tunnel and the one that it is for know of each other.
use Rattle.std.proofs.Common.{◌≡◌, ◌⊎◌, inl, inr, ⊎_elim, ℕ, zero, suc, ◌<◌, ◌≤◌, true, false, List, [], ◌∷◌, length, refl, sym, ap, ap₂, ◌∙◌, subst, Option, Some, Ok, arith}
use Rattle.std.proofs.lemmas.Bool.{true≢false}
use Rattle.std.specs.Prelude.{slice_get, unwrap_or}
use Rattle.std.specs.List.{AllByRecursion}
use Rattle.id_table.specs.Ids.{at}
use Rattle.l2tp_header.specs.declared.header.Header.{Header}
use Rattle.l2tp_header.specs.Again.{control_header}
use Rattle.l2tp_header.specs.Spelling.{control_bytes, data_bytes}
use Rattle.l2tp_header.specs.Reading.{header_of, body_of}
use Rattle.control_message.specs.declared.message.Message.{Message}
use Rattle.control_message.specs.declared.message.Message.TheVariants.{Sccrq, Sccrp, StopCcn}
use Rattle.control_message.specs.declared.message.Opening.{Opening}
use Rattle.control_message.specs.Reading.{message_by}
use Rattle.recv_window.specs.Window.{on_wire}
use Rattle.end_model.specs.declared.event.Event.{Event}
use Rattle.end_model.specs.declared.event.Event.TheVariants.{Datagram, Ring, Frame, Admitted, Payload, Lower, Lcp, Hang, OpenTunnel, DropCall, CloseTunnel, Tick}
use Rattle.end_model.specs.declared.out.Origin.{Origin}
use Rattle.end_model.specs.declared.out.Origin.TheVariants as origin
use Rattle.end_model.specs.declared.out.ControlOrigin.{ControlOrigin}
use Rattle.world_model.specs.declared.packet.Packet.{Packet}
use Rattle.end_model.specs.declared.tunnel.Control.{Control}
use Rattle.end_names.specs.Names.{address_of}
use Rattle.end_model.specs.Reading.{message_in, pairs_read, message_read}
use Rattle.end_model.specs.Tunnels.{Tunnel}
use Rattle.end_model.specs.End.{End}
use Rattle.world_model.specs.World.{Sender, sender_of}
use Rattle.step_laws.specs.Letters.{Letter}
use Rattle.step_laws.specs.Moves.{Came, CameIn, IsFor, IsAgain, IsStop, ComesTo}
use Rattle.step_laws.specs.Opens.{empty_opens_none}
use Rattle.end_model.specs.Secrets.{uncovered_datagram}
use Rattle.frame_laws.specs.Codecs.{Codecs}
use Rattle.frame_laws.specs.Plain.{IsReadAs}
use Rattle.connection_laws.specs.Accounts.{Part, Unmade, Opener, Acceptor, Account}
use Rattle.connection_laws.specs.Facts.{Accounts, IsMade, IsSpelled, IsNoOpening, IsNoStop, IsStopCcn, TellsOwn, IsLost, BeginsWith, IsPart, IsOpener, IsAcceptor, partner_in, AccountOk, LiveOk, Says, ALetter, Nothing, IsCopy, IsRefusal, IsData, OriginOk, IsNear, AreNear, IsPacket, Comes, Within}
use Rattle.connection_laws.proofs.Later.{live_made}
use Rattle.connection_laws.proofs.Stops.{no_stop}
use Rattle.connection_laws.proofs.Alike.{read_opens, read_stops}
use Rattle.connection_laws.proofs.Plain.{letter_read, nothing_read, data_plain}
use Rattle.connection_laws.proofs.Refusals.{same_header, refusal_some, RefusalRead, refusal_read}
use Rattle.connection_laws.proofs.Puts.{NearAt, ComesNear}

-- ---- addresses

pub same_address : (m n : ℕ) → address_of m ≡ address_of n → m ≡ n
unfolding address_of
same_address m n e = omega arith

-- ---- the packet that comes in a step

pub record PacketAt (accs : Accounts) (n : ℕ) (e : End) (sender : Option Sender) (ev : Event) (comes : Comes accs n e sender ev) (peer : ℕ)
    (bytes : List ℕ) : Type 0 where
  pub is : IsPacket accs n e sender peer bytes
  pub again : (ms : Accounts) (i : ℕ) (u : Tunnel) → NearAt ms n i u is.packet bytes is.packet.origin → ComesNear accs n e sender ev comes ms i u

pub packet_at : (accs : Accounts) (n : ℕ) (e : End) (sender : Option Sender) (ev : Event) (comes : Comes accs n e sender ev) (peer : ℕ) (bytes : List ℕ)
    → ev ≡ Datagram peer bytes → PacketAt accs n e sender ev comes peer bytes
packet_at accs n e sender (Datagram q bs) comes peer bytes is =
    let p : q ≡ peer = cc in
    let b : bs ≡ bytes = cc in
    record {
      is = record {
        packet = comes.packet;
        ok = comes.ok;
        to = comes.to;
        peer_is = sym p ∙ comes.peer_is;
        secret = comes.secret;
        bytes_are = sym b ∙ comes.bytes_are;
        sender_is = comes.sender_is;
        near = subst (λ (y : List ℕ). AreNear accs n e comes.packet y comes.packet.origin) b comes.near;
      };
      again = λ ms i u h. subst (λ (y : List ℕ). NearAt ms n i u comes.packet y comes.packet.origin) (sym b) h;
    }
packet_at accs n e sender (Ring port) comes peer bytes is = absurd cc
packet_at accs n e sender (Frame frame) comes peer bytes is = absurd cc
packet_at accs n e sender (Admitted mac) comes peer bytes is = absurd cc
packet_at accs n e sender (Payload s frame) comes peer bytes is = absurd cc
packet_at accs n e sender (Lower s frame) comes peer bytes is = absurd cc
packet_at accs n e sender (Lcp s packet) comes peer bytes is = absurd cc
packet_at accs n e sender (Hang s) comes peer bytes is = absurd cc
packet_at accs n e sender OpenTunnel comes peer bytes is = absurd cc
packet_at accs n e sender (DropCall s) comes peer bytes is = absurd cc
packet_at accs n e sender (CloseTunnel k) comes peer bytes is = absurd cc
packet_at accs n e sender Tick comes peer bytes is = absurd cc

-- ---- what its bytes are read as

-- a control message is a letter of its sender's
pub record IsLetterRead (b : Account) (o : ControlOrigin) (h : Header) (bytes : List ℕ) : Type 0 where
  pub letter : Letter
  pub some : o.empty ≡ false
  pub there : slice_get b.given o.ns ≡ Some letter
  pub session : h.session ≡ letter.session
  pub reads : IsReadAs letter.message (body_of bytes h)
  pub spelled : IsSpelled letter

-- or none
pub record IsNoneRead (o : ControlOrigin) (h : Header) (bytes : List ℕ) : Type 0 where
  pub none : o.empty ≡ true
  pub body : body_of bytes h ≡ []

-- how it names the tunnel that it is for
abbrev pub NamesNone : Account → ControlOrigin → ℕ → Type 0
NamesNone b o tunnel = (tunnel ≡ 0) × (b.part ≡ Opener) × (IsLost b ⊎ ((o.nr ≡ 0) × (o.empty ≡ false → o.ns ≡ 0)))

abbrev pub IsNamedSo : Account → ControlOrigin → ℕ → Type 0
IsNamedSo b o tunnel = NamesNone b o tunnel ⊎ ((tunnel ≡ 0 → ⊥) × (tunnel ≡ b.remote))

pub record CopyRead (b : Account) (o : ControlOrigin) (h : Header) (bytes : List ℕ) : Type 0 where
  pub tunnel : IsNamedSo b o h.tunnel
  pub ns : unwrap_or h.ns 0 ≡ on_wire o.ns
  pub nr : unwrap_or h.nr 0 ≡ on_wire o.nr
  pub says : IsLetterRead b o h bytes ⊎ IsNoneRead o h bytes

-- ids that a tunnel names have 16 bits
pub named_fits : (b : Account) (o : ControlOrigin) (tunnel : ℕ) → b.remote < 65536 → IsNamedSo b o tunnel → tunnel < 65536
named_fits b o tunnel fits named = ⊎_elim
    (λ (k : NamesNone b o tunnel). let z = k.0 in omega arith)
    (λ (k : (tunnel ≡ 0 → ⊥) × (tunnel ≡ b.remote)). let z = k.1 in omega arith)
    named

-- where it names none, its sender is an opener
pub unnamed_opener : (b : Account) (o : ControlOrigin) (tunnel : ℕ) → IsNamedSo b o tunnel → tunnel ≡ 0 → b.part ≡ Opener
unnamed_opener b o tunnel named none = ⊎_elim
    (λ (k : NamesNone b o tunnel). k.1)
    (λ (k : (tunnel ≡ 0 → ⊥) × (tunnel ≡ b.remote)). absurd (k.0 none))
    named

-- which is lost, or it is the first letter and tells nothing taken
pub unnamed : (b : Account) (o : ControlOrigin) (tunnel : ℕ) → IsNamedSo b o tunnel → tunnel ≡ 0
    → IsLost b ⊎ ((o.nr ≡ 0) × (o.empty ≡ false → o.ns ≡ 0))
unnamed b o tunnel named none = ⊎_elim
    (λ (k : NamesNone b o tunnel). k.2)
    (λ (k : (tunnel ≡ 0 → ⊥) × (tunnel ≡ b.remote)). absurd (k.0 none))
    named

pub all_at : {X : Type 0} (P : X → Type 0) (xs : List X) (k : ℕ) (x : X) → slice_get xs k ≡ Some x → AllByRecursion P xs → P x
all_at P [] k x is h = absurd (cc)
all_at P (y ∷ xs) zero x is h = let e : y ≡ x = cc in subst P e h.0
all_at P (y ∷ xs) (suc k) x is h = all_at P xs k x is h.1

module _ (codecs : Codecs) where
  -- no pairs make no message
  pub no_message : (m : Message) → message_in [] ≡ Ok m → ⊥
  unfolding message_in pairs_read message_read message_by
  no_message m h = let none = codecs.pairs [] tt in (let g = rw none at h in cc)

  -- of a control message the header and the pairs
  record ControlRead (tunnel session ns nr : ℕ) (pairs bytes : List ℕ) (h : Header) : Type 0 where
    pub tunnel_is : h.tunnel ≡ tunnel
    pub session_is : h.session ≡ session
    pub ns_is : unwrap_or h.ns 0 ≡ on_wire ns
    pub nr_is : unwrap_or h.nr 0 ≡ on_wire nr
    pub body : body_of bytes h ≡ pairs

  control_read : (tunnel session ns nr : ℕ) (pairs bytes : List ℕ) (h : Header) → tunnel < 65536 → session < 65536 → length pairs ≤ 65523
      → bytes ≡ control_bytes tunnel session (on_wire ns) (on_wire nr) pairs → header_of bytes ≡ Ok h → ControlRead tunnel session ns nr pairs bytes h
  control_read tunnel session ns nr pairs bytes h t s le are e =
      let made = control_bytes tunnel session (on_wire ns) (on_wire nr) pairs in
      let k = control_header tunnel session (on_wire ns) (on_wire nr) (length pairs) in
      let c = codecs.control tunnel session (on_wire ns) (on_wire nr) pairs t s (omega arith) (omega arith) le in
      let same : h ≡ k = same_header codecs made h k pairs c (rw are at e) in
      rw (same, are) (record { tunnel_is = refl; session_is = refl; ns_is = refl; nr_is = refl; body = c.bounds })

  -- a data message is no control message
  frame_read : (bytes : List ℕ) (h : Header) → IsData bytes → header_of bytes ≡ Ok h → h.control ≡ true → ⊥
  frame_read bytes h d e k =
      let made = data_bytes d.tunnel d.session d.number d.frame in
      let c = codecs.frame d.tunnel d.session d.number d.frame d.tunnel_fits d.session_fits d.number_fits in
      true≢false (sym k ∙ ap (λ (x : Header). x.control) (same_header codecs made h _ _ c (let a = d.are in rw a at e)))

  data_read : (secret : Option (List ℕ)) (bytes : List ℕ) (h : Header) → IsData bytes → header_of (uncovered_datagram secret bytes) ≡ Ok h → h.control ≡ true → ⊥
  data_read secret bytes h d e k = frame_read bytes h d (ap header_of (sym (data_plain codecs secret bytes d)) ∙ e) k

  -- whatever secret it is read with
  pub copy_read : (b : Account) (p : Packet) (o : ControlOrigin) (secret : Option (List ℕ)) (h : Header) → b.remote < 65536
      → AllByRecursion IsSpelled b.given → IsCopy b p o → header_of (uncovered_datagram secret p.bytes) ≡ Ok h
      → CopyRead b o h (uncovered_datagram secret p.bytes)
  copy_read b p o secret h fits spelled copy e = by copy.says
    where
      t : copy.tunnel < 65536
      t = named_fits b o copy.tunnel fits copy.named

      bytes : List ℕ
      bytes = uncovered_datagram secret p.bytes

      by : Says b o copy.tunnel p.bytes → CopyRead b o h bytes
      by (ALetter l some there are) =
          let s = all_at IsSpelled b.given o.ns l there spelled in
          let u = letter_read codecs secret l copy.tunnel o.ns o.nr p.bytes t s are in
          let r = control_read copy.tunnel l.session o.ns o.nr u.body bytes h t s.session u.few u.is e in
          record {
            tunnel = rw r.tunnel_is copy.named;
            ns = r.ns_is;
            nr = r.nr_is;
            says = inl (record {
              letter = l;
              some = some;
              there = there;
              session = r.session_is;
              reads = rw r.body u.reads;
              spelled = s;
            });
          }
      by (Nothing none are) =
          let r = control_read copy.tunnel 0 o.ns o.nr [] bytes h t (omega arith) (omega arith) (nothing_read codecs secret copy.tunnel o.ns o.nr p.bytes t are) e in
          record { tunnel = rw r.tunnel_is copy.named; ns = r.ns_is; nr = r.nr_is; says = inr (record { none = none; body = r.body }) }

-- ---- which tunnels are partners

pub part_cases : (k : Part) → (k ≡ Unmade → ⊥) → (k ≡ Opener) ⊎ (k ≡ Acceptor)
part_cases Unmade h = absurd (h refl)
part_cases Opener h = inl refl
part_cases Acceptor h = inr refl

pub opener_of : (accs : Accounts) (n i : ℕ) (a : Account) → AccountOk accs n i a → a.part ≡ Opener → IsOpener accs n i a
opener_of accs n i a ok e = subst (IsPart accs n i a) e ok.part

pub acceptor_of : (accs : Accounts) (n i : ℕ) (a : Account) → AccountOk accs n i a → a.part ≡ Acceptor → IsAcceptor accs n i a
acceptor_of accs n i a ok e = subst (IsPart accs n i a) e ok.part

-- the first letter alone opens or accepts a tunnel
pub first_only : (i : ℕ) (says : Opening → Message) (given : List Letter) → BeginsWith i says given → (k : ℕ) (l : Letter) → slice_get given k ≡ Some l
    → (IsNoOpening l.message → ⊥) → (k ≡ 0) × ((opening : Opening) × (l.message ≡ says opening) × (opening.tunnel ≡ i))
first_only i says given begins k l there opens = by k (let a = begins.are in rw a at there)
  where
    by : (k : ℕ) → slice_get (begins.first ∷ begins.rest) k ≡ Some l → (k ≡ 0) × ((opening : Opening) × (l.message ≡ says opening) × (opening.tunnel ≡ i))
    by zero is =
        let same : begins.first ≡ l = cc in
        (refl, (begins.opening, subst (λ (x : Letter). x.message ≡ says begins.opening) same begins.says_so, begins.id))
    by (suc k) is = absurd (opens (all_at (λ (x : Letter). IsNoOpening x.message) begins.rest k l is begins.later))

-- the account of the tunnel that sent a control message to a tunnel
abbrev pub sender_in : Accounts → ℕ → ℕ → ControlOrigin → Account
sender_in accs n i o = accs (accs n i).peer o.tunnel

-- what an opener sends to an acceptor of its SCCRQ: it has learned it, or sends its SCCRQ, or is lost and sends a StopCCN
pub data Sends (b : Account) (i : ℕ) (o : ControlOrigin) : Type 0 where
  Chosen : b.remote ≡ i → Sends b i o
  Asks : o.ns ≡ 0 → IsLost b ⊎ (o.nr ≡ 0) → Sends b i o
  Leaves : IsLost b → ((l : Letter) → slice_get b.given o.ns ≡ Some l → IsStopCcn l.message) → Sends b i o

-- how the two are linked
pub data Linked (accs : Accounts) (n i : ℕ) (o : ControlOrigin) : Type 0 where
  FromOpener : (accs n i).part ≡ Acceptor → (accs n i).remote ≡ o.tunnel → (sender_in accs n i o).part ≡ Opener
      → Sends (sender_in accs n i o) i o → Linked accs n i o
  FromAcceptor : (accs n i).part ≡ Opener → (sender_in accs n i o).part ≡ Acceptor → (sender_in accs n i o).remote ≡ i
      → (sender_in accs n i o).peer ≡ n → Linked accs n i o

-- where the message names the tunnel
link_named : (accs : Accounts) (n i : ℕ) (o : ControlOrigin) → ((m j : ℕ) → AccountOk accs m j (accs m j)) → 0 < i → IsMade (sender_in accs n i o)
    → (sender_in accs n i o).remote ≡ i → (sender_in accs n i o).peer ≡ n → Linked accs n i o
link_named accs n i o all some made remote peer =
    let b = sender_in accs n i o in
    let ok = all (accs n i).peer o.tunnel in
    let known = λ (z : b.remote ≡ 0). let no : ⊥ = omega arith in no in
    let same : partner_in accs b ≡ accs n i = cc in
    ⊎_elim
    (λ (k : b.part ≡ Opener).
    let opener = opener_of accs (accs n i).peer o.tunnel b ok k in
    FromOpener (sym (ap (λ (x : Account). x.part) same) ∙ opener.part known) (sym (ap (λ (x : Account). x.remote) same) ∙ opener.remote known) k (Chosen remote))
    (λ (k : b.part ≡ Acceptor).
    let acceptor = acceptor_of accs (accs n i).peer o.tunnel b ok k in
    FromAcceptor (sym (ap (λ (x : Account). x.part) same) ∙ acceptor.part) k remote peer)
    (part_cases b.part made)

sccrq_opens : (m : Message) (opening : Opening) → m ≡ Sccrq opening → IsNoOpening m → ⊥
sccrq_opens m opening e h = subst IsNoOpening e h

-- an SCCRQ is the first letter of an opener, and tells its id
pub sccrq_of : (accs : Accounts) (m j : ℕ) → AccountOk accs m j (accs m j) → IsMade (accs m j) → (k : ℕ) (l : Letter) (opening : Opening)
    → slice_get (accs m j).given k ≡ Some l → l.message ≡ Sccrq opening → ((accs m j).part ≡ Opener) × (k ≡ 0) × (opening.tunnel ≡ j)
sccrq_of accs m j ok made k l opening there is =
    let b = accs m j in
    ⊎_elim
    (λ (own : b.part ≡ Opener).
    let first = first_only j Sccrq b.given (opener_of accs m j b ok own).begins k l there (sccrq_opens l.message opening is) in
    let says = first.1.1 in
    let same : opening ≡ first.1.0 = cc in
    (own, first.0, ap (λ (x : Opening). x.tunnel) same ∙ first.1.2))
    (λ (own : b.part ≡ Acceptor).
    let first = first_only j Sccrp b.given (acceptor_of accs m j b ok own).begins k l there (sccrq_opens l.message opening is) in
    let says = first.1.1 in
    let no : ⊥ = cc in absurd no)
    (part_cases b.part made)

-- where it is an SCCRQ that came again
link_again : (accs : Accounts) (n i : ℕ) (o : ControlOrigin) → ((m j : ℕ) → AccountOk accs m j (accs m j)) → IsMade (accs n i) → IsMade (sender_in accs n i o)
    → (l : Letter) (opening : Opening) → slice_get (sender_in accs n i o).given o.ns ≡ Some l → l.message ≡ Sccrq opening → (accs n i).remote ≡ opening.tunnel
    → IsLost (sender_in accs n i o) ⊎ (o.nr ≡ 0) → Linked accs n i o
link_again accs n i o all here made l opening there is remote how =
    let a = accs n i in
    let b = sender_in accs n i o in
    let asks = sccrq_of accs a.peer o.tunnel (all a.peer o.tunnel) made o.ns l opening there is in
    let some = (all a.peer o.tunnel).some made in
    let told : a.remote ≡ o.tunnel = remote ∙ asks.2 in
    let known = λ (z : a.remote ≡ 0). let no : ⊥ = omega arith in no in
    let partner : partner_in accs a ≡ b = ap (λ r. accs a.peer r) told in
    ⊎_elim
    (λ (j : a.part ≡ Opener).
    let part = (opener_of accs n i a (all n i) j).part known in
    let own = asks.0 in
    let no : ⊥ = (let p = ap (λ (x : Account). x.part) partner in cc) in absurd no)
    (λ (j : a.part ≡ Acceptor). FromOpener j told asks.0 (Asks asks.1 how))
    (part_cases a.part here)

-- where it is a StopCCN that names none
link_stop : (accs : Accounts) (n i : ℕ) (o : ControlOrigin) → ((m j : ℕ) → AccountOk accs m j (accs m j)) → IsMade (accs n i)
    → IsMade (sender_in accs n i o) → (sender_in accs n i o).peer ≡ n → (l : Letter) (r code : ℕ) (error : Option ℕ)
    → slice_get (sender_in accs n i o).given o.ns ≡ Some l → l.message ≡ StopCcn r code error → (accs n i).remote ≡ r
    → IsLost (sender_in accs n i o) ⊎ ((o.nr ≡ 0) × (o.ns ≡ 0)) → Linked accs n i o
link_stop accs n i o all here made peer l r code error there is remote how =
    let a = accs n i in
    let b = sender_in accs n i o in
    let own = all_at (λ (x : Letter). TellsOwn o.tunnel x.message) b.given o.ns l there (all a.peer o.tunnel).told in
    let same : r ≡ o.tunnel = subst (TellsOwn o.tunnel) is own in
    let told : a.remote ≡ o.tunnel = remote ∙ same in
    let some = (all a.peer o.tunnel).some made in
    let known = λ (z : a.remote ≡ 0). let no : ⊥ = omega arith in no in
    let partner : partner_in accs a ≡ b = ap (λ q. accs a.peer q) told in
    let stops = λ (x : Letter) (f : slice_get b.given o.ns ≡ Some x).
    let the : l ≡ x = cc in
    subst (λ (y : Letter). IsStopCcn y.message) the (subst IsStopCcn (sym is) tt) in
    ⊎_elim
    (λ (j : a.part ≡ Opener).
    let opener = opener_of accs n i a (all n i) j in
    FromAcceptor j (sym (ap (λ (x : Account). x.part) partner) ∙ opener.part known) (sym (ap (λ (x : Account). x.remote) partner) ∙ opener.remote known) peer)
    (λ (j : a.part ≡ Acceptor).
    FromOpener j told (sym (ap (λ (x : Account). x.part) partner) ∙ (acceptor_of accs n i a (all n i) j).part)
    (⊎_elim (λ (lost : IsLost b). Leaves lost stops) (λ (z : (o.nr ≡ 0) × (o.ns ≡ 0)). Asks z.1 (inr z.0)) how))
    (part_cases a.part here)

-- ---- what a peer's tunnel sent

-- a packet of the peer at an address
pub record FromPeer (accs : Accounts) (n : ℕ) (e : End) (sender : Option Sender) (ev : Event) (comes : Comes accs n e sender ev) (peer : ℕ) (h : Header)
    (bytes : List ℕ) : Type 0 where
  pub packet : Packet
  pub o : ControlOrigin
  pub copy : IsCopy (accs packet.from o.tunnel) packet o
  pub read : CopyRead (accs packet.from o.tunnel) o h bytes
  pub sender_is : sender ≡ Some (record { node = packet.from; tunnel = o.tunnel })
  pub from : packet.from < 256
  pub to : packet.to ≡ n
  pub peer_is : peer ≡ address_of packet.from
  pub near : AreNear accs n e packet bytes (origin.Control o)
  pub again : (ms : Accounts) (j : ℕ) (u : Tunnel) → IsNear (ms n j) u o → ComesNear accs n e sender ev comes ms j u

-- or it is a StopCCN of no tunnel, which declines the SCCRQ of a tunnel of this node
pub record DeclinedByPeer (accs : Accounts) (n : ℕ) (e : End) (sender : Option Sender) (ev : Event) (comes : Comes accs n e sender ev) (peer : ℕ) (h : Header)
    (bytes : List ℕ) : Type 0 where
  pub packet : Packet
  pub o : ControlOrigin
  pub refusal : IsRefusal accs packet o
  pub some : 0 < refusal.tunnel
  pub read : RefusalRead refusal.tunnel o h bytes
  pub sender_is : sender ≡ Some (record { node = packet.from; tunnel = o.tunnel })
  pub to : packet.to ≡ n
  pub peer_is : peer ≡ address_of packet.from
  pub near : AreNear accs n e packet bytes (origin.Control o)
  pub again : (ms : Accounts) (j : ℕ) (u : Tunnel) → IsNear (ms n j) u o → ComesNear accs n e sender ev comes ms j u

-- a packet that is a control message
record IsControl (accs : Accounts) (p : Packet) : Type 0 where
  o : ControlOrigin
  is : p.origin ≡ origin.Control o
  sent : IsCopy (accs p.from o.tunnel) p o ⊎ IsRefusal accs p o

-- it is read as a message that is written by the rules
pub record PeerSays (h : Header) (bytes : List ℕ) : Type 0 where
  pub message : Message
  pub reads : IsReadAs message (body_of bytes h)

-- a StopCCN of no tunnel says nothing that stops none
refusal_stops : (tunnel : ℕ) (o : ControlOrigin) (h : Header) (bytes : List ℕ) → RefusalRead tunnel o h bytes → (m : Message) → IsNoStop m
    → message_in (body_of bytes h) ≡ Ok m → ⊥
refusal_stops tunnel o h bytes r m plain said =
    let was = r.said in
    let same : m ≡ StopCcn 0 r.result r.error = cc in
    subst IsNoStop same plain

-- a control message with a body is a letter
pub letter_some : (b : Account) (o : ControlOrigin) (h : Header) (bytes : List ℕ) → CopyRead b o h bytes → (length (body_of bytes h) ≡ 0 → ⊥)
    → IsLetterRead b o h bytes
letter_some b o h bytes read some = ⊎_elim
    (λ (q : IsLetterRead b o h bytes). q)
    (λ (q : IsNoneRead o h bytes). absurd (some (ap (λ (ls : List ℕ). length ls) q.body)))
    read.says

module _ (codecs : Codecs) where
  -- where it says something, it is a letter
  pub letter_said : (b : Account) (o : ControlOrigin) (h : Header) (bytes : List ℕ) (m : Message) → CopyRead b o h bytes
      → message_in (body_of bytes h) ≡ Ok m → IsLetterRead b o h bytes
  letter_said b o h bytes m read said = ⊎_elim
      (λ (q : IsLetterRead b o h bytes). q)
      (λ (q : IsNoneRead o h bytes). absurd (no_message codecs m (let s = said in rw q.body at s)))
      read.says

  control_of : (accs : Accounts) (p : Packet) (secret : Option (List ℕ)) (h : Header) → header_of (uncovered_datagram secret p.bytes) ≡ Ok h
      → h.control ≡ true → (g : Origin) → p.origin ≡ g → OriginOk accs p g → IsControl accs p
  control_of accs p secret h read control (origin.Control o) is ok = record { o = o; is = is; sent = ok }
  control_of accs p secret h read control (origin.Data session) is ok = absurd (data_read codecs secret p.bytes h ok read control)
  control_of accs p secret h read control (origin.Recovery tunnel number empty) is ok = absurd ok

  pub from_peer : (accs : Accounts) (n : ℕ) (e : End) (sender : Option Sender) (ev : Event) (within : Within accs n e sender ev) (peer : ℕ) (h : Header)
      (bytes : List ℕ) → ev ≡ Datagram peer bytes → header_of bytes ≡ Ok h → h.control ≡ true
      → FromPeer accs n e sender ev within.comes peer h bytes ⊎ DeclinedByPeer accs n e sender ev within.comes peer h bytes
  from_peer accs n e sender ev within peer h bytes is reads control =
      let at_peer = packet_at accs n e sender ev within.comes peer bytes is in
      let p = at_peer.is.packet in
      let secret = at_peer.is.secret in
      let read : header_of (uncovered_datagram secret p.bytes) ≡ Ok h = (let r = reads in rw at_peer.is.bytes_are at r) in
      let c = control_of accs p secret h read control p.origin refl at_peer.is.ok.sent in
      let o = c.o in
      let sender_is = at_peer.is.sender_is ∙ ap (λ (g : Origin). sender_of p.from g) c.is in
      let near = subst (λ (g : Origin). AreNear accs n e p bytes g) c.is at_peer.is.near in
      let again = λ (ms : Accounts) (j : ℕ) (u : Tunnel) (k : IsNear (ms n j) u o).
      at_peer.again ms j u (subst (λ (g : Origin). NearAt ms n j u p bytes g) (sym c.is) (λ x q r s. k)) in
      ⊎_elim
      (λ (copy : IsCopy (accs p.from o.tunnel) p o).
      let ok = within.accounts p.from o.tunnel in
      inl (record {
        packet = p;
        o = o;
        copy = copy;
        read = subst (λ (bs : List ℕ). CopyRead (accs p.from o.tunnel) o h bs) (sym at_peer.is.bytes_are)
            (copy_read codecs (accs p.from o.tunnel) p o secret h ok.remote ok.spelled copy read);
        sender_is = sender_is;
        from = at_peer.is.ok.from;
        to = at_peer.is.to;
        peer_is = at_peer.is.peer_is;
        near = near;
        again = again;
      }))
      (λ (refusal : IsRefusal accs p o).
      inr (record {
        packet = p;
        o = o;
        refusal = refusal;
        some = refusal_some accs within.accounts p o refusal;
        read = subst (λ (bs : List ℕ). RefusalRead refusal.tunnel o h bs) (sym at_peer.is.bytes_are)
            (refusal_read codecs accs within.accounts p o refusal secret h read);
        sender_is = sender_is;
        to = at_peer.is.to;
        peer_is = at_peer.is.peer_is;
        near = near;
        again = again;
      }))
      c.sent

  -- where it stops no tunnel, it is of a tunnel of the peer's
  pub from_peer_said : (accs : Accounts) (n : ℕ) (e : End) (sender : Option Sender) (ev : Event) (within : Within accs n e sender ev) (peer : ℕ) (h : Header)
      (bytes : List ℕ) → ev ≡ Datagram peer bytes → header_of bytes ≡ Ok h → h.control ≡ true → (m : Message) → IsNoStop m
      → message_in (body_of bytes h) ≡ Ok m → FromPeer accs n e sender ev within.comes peer h bytes
  from_peer_said accs n e sender ev within peer h bytes is reads control m plain said = ⊎_elim
      (λ (f : FromPeer accs n e sender ev within.comes peer h bytes). f)
      (λ (r : DeclinedByPeer accs n e sender ev within.comes peer h bytes). absurd (refusal_stops r.refusal.tunnel r.o h bytes r.read m plain said))
      (from_peer accs n e sender ev within peer h bytes is reads control)

  -- whatever it is, it says something that is written by the rules, or nothing
  pub peer_says : (accs : Accounts) (n : ℕ) (e : End) (sender : Option Sender) (ev : Event) → Within accs n e sender ev → (peer : ℕ) (h : Header)
      (bytes : List ℕ) → ev ≡ Datagram peer bytes → header_of bytes ≡ Ok h → h.control ≡ true → PeerSays h bytes ⊎ (body_of bytes h ≡ [])
  peer_says accs n e sender ev within peer h bytes is reads control = ⊎_elim
      (λ (f : FromPeer accs n e sender ev within.comes peer h bytes).
      let b = accs f.packet.from f.o.tunnel in
      ⊎_elim
      (λ (q : IsLetterRead b f.o h bytes). inl (record { message = q.letter.message; reads = q.reads }))
      (λ (q : IsNoneRead f.o h bytes). inr q.body)
      f.read.says)
      (λ (r : DeclinedByPeer accs n e sender ev within.comes peer h bytes).
      inl (record { message = StopCcn 0 r.read.result r.read.error; reads = r.read.reads }))
      (from_peer accs n e sender ev within peer h bytes is reads control)

-- ---- what a live tunnel hears

-- a control message of the tunnel's peer that is for the tunnel
pub record IsHeard (ev : Event) (c : Control) (h : Header) (bytes : List ℕ) : Type 0 where
  pub is : ev ≡ Datagram c.peer bytes
  pub read : header_of bytes ≡ Ok h
  pub control : h.control ≡ true
  pub tunnel : IsFor h (body_of bytes h) c

pub heard_to : (ev : Event) (c : Control) (k : Came) (to : ComesTo ev c k) → IsHeard ev c k.header to.came.bytes
heard_to ev c k to = record {
  is = to.came.is ∙ ap (λ p. Datagram p to.came.bytes) to.peer;
  read = to.came.read;
  control = to.came.control;
  tunnel = subst (λ (body : List ℕ). IsFor k.header body c) to.came.body_is to.tunnel;
}

-- what it says is said in the datagram
pub said_in : (ev : Event) (k : Came) (came : CameIn ev k) (m : Message) → message_in k.body ≡ Ok m → message_in (body_of came.bytes k.header) ≡ Ok m
said_in ev k came m said = ap message_in (sym came.body_is) ∙ said

-- and where it says something there, it does here
pub some_in : (ev : Event) (k : Came) (came : CameIn ev k) → (length k.body ≡ 0 → ⊥) → length (body_of came.bytes k.header) ≡ 0 → ⊥
some_in ev k came some none = some (ap length came.body_is ∙ none)

-- it is a control message of a tunnel of the peer's
pub record Heard (accs : Accounts) (n : ℕ) (e : End) (sender : Option Sender) (ev : Event) (comes : Comes accs n e sender ev) (i : ℕ) (t : Tunnel)
    (h : Header) (bytes : List ℕ) : Type 0 where
  pub o : ControlOrigin
  pub made : IsMade (sender_in accs n i o)
  pub nr : o.nr ≤ length (sender_in accs n i o).taken
  pub sender_is : sender ≡ Some (record { node = (accs n i).peer; tunnel = o.tunnel })
  pub near : IsNear (accs n i) t o
  pub read : CopyRead (sender_in accs n i o) o h bytes
  pub linked : Linked accs n i o
  pub again : (ms : Accounts) (j : ℕ) (u : Tunnel) → IsNear (ms n j) u o → ComesNear accs n e sender ev comes ms j u

-- or it is a StopCCN of no tunnel, which declines the tunnel's SCCRQ: it counts as its first letter, and as one that took the SCCRQ
pub record HeardRefusal (accs : Accounts) (n : ℕ) (e : End) (sender : Option Sender) (ev : Event) (comes : Comes accs n e sender ev) (i : ℕ) (t : Tunnel)
    (h : Header) (bytes : List ℕ) : Type 0 where
  pub o : ControlOrigin
  pub ns : o.ns ≡ 0
  pub nr : o.nr ≡ 1
  pub sender_is : sender ≡ Some (record { node = (accs n i).peer; tunnel = 0 })
  pub near : IsNear (accs n i) t o
  pub opener : (accs n i).part ≡ Opener
  pub declined : (accs n i).declined ≡ true
  pub tunnel : ℕ
  pub read : RefusalRead tunnel o h bytes
  pub again : (ms : Accounts) (j : ℕ) (u : Tunnel) → IsNear (ms n j) u o → ComesNear accs n e sender ev comes ms j u

module _ (codecs : Codecs) where
  -- how the tunnel and the packet's sender are linked
  link_of : (accs : Accounts) (n i : ℕ) (t : Tunnel) (o : ControlOrigin) (h : Header) (bytes : List ℕ) → ((m j : ℕ) → AccountOk accs m j (accs m j))
      → LiveOk accs n i (accs n i) t → IsMade (sender_in accs n i o) → (sender_in accs n i o).peer ≡ n → CopyRead (sender_in accs n i o) o h bytes
      → IsFor h (body_of bytes h) t.control → Linked accs n i o
  link_of accs n i t o h bytes all live made peer read is_for =
      let here = live_made accs n i (accs n i) t live in
      let some = (all n i).some here in
      let b = sender_in accs n i o in
      ⊎_elim
      (λ (k : h.tunnel ≡ t.control.local).
      let local = live.local in
      ⊎_elim
      (λ (q : NamesNone b o h.tunnel). let z = q.0 in let no : ⊥ = omega arith in absurd no)
      (λ (q : (h.tunnel ≡ 0 → ⊥) × (h.tunnel ≡ b.remote)). link_named accs n i o all some made (sym q.1 ∙ k ∙ local) peer)
      read.tunnel)
      (λ other. ⊎_elim
      (λ (k : IsAgain h (body_of bytes h) t.control).
      let how : IsLost b ⊎ (o.nr ≡ 0) = ⊎_elim (λ (lost : IsLost b). inl lost) (λ (q : (o.nr ≡ 0) × (o.empty ≡ false → o.ns ≡ 0)). inr q.0)
      (unnamed b o h.tunnel read.tunnel k.none) in
      ⊎_elim
      (λ (q : IsLetterRead b o h bytes).
      let asks = read_opens q.letter.message (body_of bytes h) q.reads t.control.remote k.opens in
      link_again accs n i o all here made q.letter asks.0 q.there asks.1 (sym live.remote ∙ asks.2) how)
      (λ (q : IsNoneRead o h bytes). absurd (empty_opens_none t.control.remote (let s = k.opens in rw q.body at s)))
      read.says)
      (λ (k : IsStop h (body_of bytes h) t.control).
      ⊎_elim
      (λ (q : IsLetterRead b o h bytes).
      let tells = read_stops q.letter.message (body_of bytes h) q.reads t.control.remote k.stops in
      let how : IsLost b ⊎ ((o.nr ≡ 0) × (o.ns ≡ 0)) = ⊎_elim (λ (lost : IsLost b). inl lost)
      (λ (z : (o.nr ≡ 0) × (o.empty ≡ false → o.ns ≡ 0)). inr (z.0, z.1 q.some))
      (unnamed b o h.tunnel read.tunnel k.none) in
      link_stop accs n i o all here made peer q.letter t.control.remote tells.code tells.error q.there tells.is (sym live.remote) how)
      (λ (q : IsNoneRead o h bytes). absurd (no_stop codecs t.control.remote (let s = k.stops in rw q.body at s)))
      read.says)
      other)
      is_for

  -- a copy of a tunnel of the peer's
  heard_copy : (accs : Accounts) (n : ℕ) (e : End) (sender : Option Sender) (ev : Event) (within : Within accs n e sender ev) (i : ℕ) (t : Tunnel)
      → at e.tunnels i ≡ Some t → (h : Header) (bytes : List ℕ) → IsHeard ev t.control h bytes
      → FromPeer accs n e sender ev within.comes t.control.peer h bytes → Heard accs n e sender ev within.comes i t h bytes
  heard_copy accs n e sender ev within i t there h bytes hears f =
      let live = within.end.live i t there in
      let p = f.packet in
      let o = f.o in
      let from : p.from ≡ (accs n i).peer = same_address p.from (accs n i).peer (sym f.peer_is ∙ live.peer) in
      let copy : IsCopy (sender_in accs n i o) p o = subst (λ (q : ℕ). IsCopy (accs q o.tunnel) p o) from f.copy in
      let said : CopyRead (sender_in accs n i o) o h bytes = subst (λ (q : ℕ). CopyRead (accs q o.tunnel) o h bytes) from f.read in
      record {
        o = o;
        made = copy.made;
        nr = copy.nr;
        sender_is = f.sender_is ∙ ap (λ (q : ℕ). Some (record { node = q; tunnel = o.tunnel })) from;
        near = f.near i t h there f.peer_is hears.read hears.tunnel;
        read = said;
        linked = link_of accs n i t o h bytes within.accounts live copy.made (sym copy.to ∙ f.to) said hears.tunnel;
        again = f.again;
      }

  -- a StopCCN of no tunnel: it names the tunnel, whose SCCRQ it declines
  heard_refusal : (accs : Accounts) (n : ℕ) (e : End) (sender : Option Sender) (ev : Event) (within : Within accs n e sender ev) (i : ℕ) (t : Tunnel)
      → at e.tunnels i ≡ Some t → (h : Header) (bytes : List ℕ) → IsHeard ev t.control h bytes
      → DeclinedByPeer accs n e sender ev within.comes t.control.peer h bytes → HeardRefusal accs n e sender ev within.comes i t h bytes
  heard_refusal accs n e sender ev within i t there h bytes hears f =
      let live = within.end.live i t there in
      let p = f.packet in
      let o = f.o in
      let r = f.refusal in
      let some = f.some in
      let tells = f.read.tunnel_is in
      let from : p.from ≡ (accs n i).peer = same_address p.from (accs n i).peer (sym f.peer_is ∙ live.peer) in
      let named : r.tunnel ≡ i = ⊎_elim
      (λ (k : h.tunnel ≡ t.control.local). sym tells ∙ k ∙ live.local)
      (λ other. ⊎_elim
      (λ (k : IsAgain h (body_of bytes h) t.control). let z = k.none in absurd (omega arith))
      (λ (k : IsStop h (body_of bytes h) t.control). let z = k.none in absurd (omega arith))
      other)
      hears.tunnel in
      let it : accs p.to r.tunnel ≡ accs n i = ap₂ accs f.to named in
      record {
        o = o;
        ns = r.ns;
        nr = r.nr;
        sender_is = f.sender_is ∙ ap₂ (λ (q j : ℕ). Some (record { node = q; tunnel = j })) from r.none;
        near = f.near i t h there f.peer_is hears.read hears.tunnel;
        opener = sym (ap (λ (x : Account). x.part) it) ∙ r.opener;
        declined = sym (ap (λ (x : Account). x.declined) it) ∙ r.declined;
        read = f.read;
        tunnel = r.tunnel;
        again = f.again;
      }

  pub heard : (accs : Accounts) (n : ℕ) (e : End) (sender : Option Sender) (ev : Event) (within : Within accs n e sender ev) (i : ℕ) (t : Tunnel)
      → at e.tunnels i ≡ Some t → (h : Header) (bytes : List ℕ) → IsHeard ev t.control h bytes
      → Heard accs n e sender ev within.comes i t h bytes ⊎ HeardRefusal accs n e sender ev within.comes i t h bytes
  heard accs n e sender ev within i t there h bytes hears = ⊎_elim
      (λ (f : FromPeer accs n e sender ev within.comes t.control.peer h bytes). inl (heard_copy accs n e sender ev within i t there h bytes hears f))
      (λ (f : DeclinedByPeer accs n e sender ev within.comes t.control.peer h bytes). inr (heard_refusal accs n e sender ev within i t there h bytes hears f))
      (from_peer codecs accs n e sender ev within t.control.peer h bytes hears.is hears.read hears.control)

  -- where it stops no tunnel, it is a copy
  pub heard_said : (accs : Accounts) (n : ℕ) (e : End) (sender : Option Sender) (ev : Event) (within : Within accs n e sender ev) (i : ℕ) (t : Tunnel)
      → at e.tunnels i ≡ Some t → (h : Header) (bytes : List ℕ) → IsHeard ev t.control h bytes → (m : Message) → IsNoStop m
      → message_in (body_of bytes h) ≡ Ok m → Heard accs n e sender ev within.comes i t h bytes
  heard_said accs n e sender ev within i t there h bytes hears m plain said = ⊎_elim
      (λ (k : Heard accs n e sender ev within.comes i t h bytes). k)
      (λ (k : HeardRefusal accs n e sender ev within.comes i t h bytes). absurd (refusal_stops k.tunnel k.o h bytes k.read m plain said))
      (heard accs n e sender ev within i t there h bytes hears)
