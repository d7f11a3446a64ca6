-- A tunnel is accepted.
use Rattle.std.proofs.Common.{◌≡◌, ◌⊎◌, inl, inr, ⊎_elim, ℕ, ◌+◌, ◌<◌, ◌≤◌, false, List, [], ◌∷◌, refl, sym, ap, ap₂, ◌∙◌, subst, Option, Some, None, Ok, arith, ne_eqb}
use Rattle.std.proofs.lemmas.Bool.{true≢false}
use Rattle.std.proofs.lemmas.Option.{none-some, slice_get_within}
use Rattle.std.specs.Prelude.{slice_get}
use Rattle.id_source.specs.Spaces.{Space, after_id, draw_is, next_is}
use Rattle.id_table.specs.Ids.{at-none}
use Rattle.l2tp_header.specs.Reading.{body_of}
use Rattle.control_message.specs.declared.message.Message.{Message}
use Rattle.control_message.specs.declared.message.Message.TheVariants.{Sccrq, Sccrp, Scccn, StopCcn}
use Rattle.control_message.specs.declared.message.Opening.{Opening}
use Rattle.session_book.specs.declared.record.BookTunnel.{BookTunnel}
use Rattle.tunnel_fsm.specs.Rows.{state_number}
use Rattle.tunnel_fsm.specs.declared.table.TunnelState.TheVariants.{WaitCtlConn}
use Rattle.end_names.specs.Names.{address_of, node_of}
use Rattle.end_model.specs.declared.event.Event.{Event}
use Rattle.end_model.specs.declared.moves.Accepted.{Accepted}
use Rattle.end_model.specs.declared.moves.Place.{Place}
use Rattle.end_model.specs.declared.moves.Move.TheVariants as move
use Rattle.end_model.specs.declared.tunnel.Control.{Control}
use Rattle.end_model.specs.Tunnels.{Tunnel, new_tunnel}
use Rattle.end_model.specs.Channels.{letter_of, counts_taken}
use Rattle.end_model.specs.Messages.{flags_of, opening_of}
use Rattle.end_model.specs.Reading.{message_in}
use Rattle.end_model.specs.End.{End}
use Rattle.world_model.specs.declared.packet.Packet.{Packet}
use Rattle.world_model.specs.declared.standing.Standing.{Standing}
use Rattle.world_model.specs.World.{World, Node, Sender, Deed, config_of, standing_of, epoch_of, no_standing, moved}
use Rattle.step_laws.specs.Letters.{Letter}
use Rattle.step_laws.specs.Moves.{Came, with_tunnel, with_letter, begun, learns_window}
use Rattle.frame_laws.specs.Codecs.{Codecs}
use Rattle.book_laws.proofs.Lists.{entry_has}
use Rattle.connection_laws.specs.Facts.{IsNoOpening}
use Rattle.connection_laws.proofs.Connecting.{IsLearnt, learnt}
use Rattle.connection_laws.proofs.Hearing.{no_message, first_only}
use Rattle.connection_laws.proofs.Taking.{got_push}
use Rattle.connection_laws.proofs.Written.{asks_short, responds_sized, opening_written, same_opening, node_again, node_fits}
use Rattle.channel_laws.proofs.Spelled.{letter_same}
use Rattle.channel_laws.specs.Accounts.{Unmade, Opener, Acceptor, Renewed, Taken, Account, no_account, History, about, gives_also, takes_at, entered_by, after}
use Rattle.channel_laws.specs.Facts.{IsMade, partner_in, IsTaken, AreTaken, IsAcceptor, IsCopy, SaysRecovery, AsksFor, Suggests, Confirms, Refuses, AccountOk, ChannelOk, LiveOk, EndOk, BookOk, NodeOk, Holds}
use Rattle.channel_laws.specs.Recoveries.{WrittenIsRead, WrittenHasRoom}
use Rattle.channel_laws.specs.Steps.{with_end, moves_on, IsMoved}
use Rattle.channel_laws.proofs.Alone.{puts_so}
use Rattle.channel_laws.proofs.Coming.{FromTunnel, OfNoTunnel, OfRecovery, heard}
use Rattle.channel_laws.proofs.Ends.{Puts, put_end_apart}
use Rattle.channel_laws.proofs.Extending.{IsOnly}
use Rattle.channel_laws.proofs.Giving.{IsPlainDeed, becomes_so, only_so}
use Rattle.channel_laws.proofs.Later.{IsAlike, IsUnbooked, StaysJoined, live_later, holds_later}
use Rattle.channel_laws.proofs.Linked.{part_cases, opener_of, acceptor_of, renewed_of, first_or_later}
use Rattle.channel_laws.proofs.Open.{end_alike, taken_as, takes_and_gives}
use Rattle.channel_laws.proofs.Opening.{undrawn, drawn_ids, new_standing, never_attempted, begins_from}
use Rattle.channel_laws.proofs.Readings.{IsLetterRead, IsNoneRead}
use Rattle.channel_laws.proofs.TakesLater.{deed_plain}
use Rattle.channel_laws.proofs.Told.{all_at}

-- an SCCRQ that was given is the first letter of an opener, and tells its id
pub record IsAsking (h : History) (m j : ℕ) (place : ℕ) (o : Opening) : Type 0 where
  pub part : (h.accounts m j 0).part ≡ Opener
  pub at_first : place ≡ 0
  pub told : o.tunnel ≡ j

module _ (w : World) (h : History) (holds : Holds w h) (m j : ℕ) (place : ℕ) (l : Letter) (o : Opening) (there : slice_get (h.accounts m j 0).given place ≡ Some l) (is : l.message ≡ Sccrq o) where
  abbrev a : Account
  a = h.accounts m j 0

  ok : AccountOk w h m j 0 a
  ok = holds.accounts m j 0

  opens : IsNoOpening l.message → ⊥
  opens no_ = subst IsNoOpening is no_

  pub asks_first : IsMade (h.accounts m j 0) → IsAsking h m j place o
  asks_first made = ⊎_elim
      (λ (own : a.part ≡ Opener).
      let first = first_only j Sccrq a.given (opener_of w h m j 0 a ok own).1.begins place l there opens in
      let two : Sccrq o ≡ Sccrq first.1.0 = sym is ∙ first.1.1 in
      let same : o ≡ first.1.0 = cc in
      record { part = own; at_first = first.0; told = ap (λ (y : Opening). y.tunnel) same ∙ first.1.2 })
      (λ rest. ⊎_elim
      (λ (own : a.part ≡ Acceptor).
      let first = first_only j Sccrp a.given (acceptor_of w h m j 0 a ok own).1.begins place l there opens in
      let two : Sccrq o ≡ Sccrp first.1.0 = sym is ∙ first.1.1 in absurd cc)
      (λ (own : a.part ≡ Renewed). let lt = (renewed_of w h m j 0 a ok own).later in absurd (omega (arith, lt)))
      rest)
      (part_cases a.part made)

-- what a recovery tunnel asks for is a recovery
asks_recovery : (w : World) (h : History) (own named : ℕ) → (p : Packet) → (q : Message) → SaysRecovery w h p own named q → (o : Opening) → q ≡ Sccrq o → o.recovery ≡ None → ⊥
asks_recovery w h own named p _ (AsksFor r y is peer id recovery draw) o same none =
    let one : y ≡ o = cc in
    none-some recovery.0 (sym none ∙ (ap (λ (z : Opening). z.recovery) (sym one) ∙ recovery.1))
asks_recovery w h own named p _ (Suggests f y is to_node id suggested attempt) o same none = let two : Sccrp y ≡ Sccrq o = same in cc
asks_recovery w h own named p _ (Confirms f response is attempt from le) o same none = let two : Scccn response ≡ Sccrq o = same in cc
asks_recovery w h own named p _ (Refuses result error fit) o same none = let two : StopCcn own result error ≡ Sccrq o = same in cc

-- the opener whose SCCRQ comes
record IsAsked (h : History) (n : ℕ) (sender : Option Sender) (peer : ℕ) (o : Opening) : Type 0 where
  from : ℕ
  tunnel : ℕ
  fits : from < 256
  part : (h.accounts from tunnel 0).part ≡ Opener
  goes_to : (h.accounts from tunnel 0).peer ≡ n
  told : o.tunnel ≡ tunnel
  address : peer ≡ address_of from
  letter : Letter
  there : slice_get (h.accounts from tunnel 0).given 0 ≡ Some letter
  message : letter.message ≡ Sccrq o
  sender_is : sender ≡ Some (record { node = from; tunnel = tunnel })

-- ---- the move

module _ (codecs : Codecs) (again : WrittenIsRead) (room : WrittenHasRoom) (w : World) (h : History) (n : ℕ) (node : Node) (sender : Option Sender) (moment : ℕ) (ev : Event)
    (m : Accepted) (x : End) (d : Deed) (k : IsMoved w h n node sender moment ev (move.Accepted m) x d) where
  abbrev i : ℕ
  i = m.tunnel

  abbrev e : End
  e = node.end

  abbrev opening : Opening
  opening = k.does.opening

  abbrev came : Came
  came = k.does.hears.1.letter

  abbrev bytes : List ℕ
  bytes = k.does.hears.1.came.bytes

  said : message_in (body_of bytes came.header) ≡ Ok (Sccrq opening)
  said = ap message_in (sym k.does.hears.1.came.body_is) ∙ k.does.hears.1.says.said

  said_here : message_in came.body ≡ Ok (Sccrq opening)
  said_here = k.does.hears.1.says.said

  -- it is of a tunnel
  from_tunnel : FromTunnel w h n e sender came bytes → IsAsked h n sender m.peer opening
  from_tunnel f = ⊎_elim
      (λ (zero : f.packet.epoch ≡ 0).
      let a = h.accounts f.packet.from f.o.tunnel 0 in
      let copy : IsCopy a f.packet f.o = subst (λ z. IsCopy (h.accounts f.packet.from f.o.tunnel z) f.packet f.o) zero f.copy in
      let q : IsLetterRead a f.o came.header bytes = subst (λ z. IsLetterRead (h.accounts f.packet.from f.o.tunnel z) f.o came.header bytes) zero letter in
      let message = letter_same q.letter (body_of bytes came.header) q.reads (Sccrq opening) said tt in
      let asks = asks_first w h k.holds f.packet.from f.o.tunnel q.place q.letter opening q.there message copy.made in
      record {
        from = f.packet.from;
        tunnel = f.o.tunnel;
        fits = f.from;
        part = asks.part;
        goes_to = sym copy.to ∙ f.to;
        told = asks.told;
        address = sym k.does.hears.1.peer_is ∙ f.peer_is;
        letter = q.letter;
        there = subst (λ z. slice_get a.given z ≡ Some q.letter) asks.at_first q.there;
        message = message;
        sender_is = f.sender_is;
      })
      (λ r.
      let message = letter_same letter.letter (body_of bytes came.header) letter.reads (Sccrq opening) said tt in
      absurd (subst IsNoOpening message (all_at (λ (l : Letter). IsNoOpening l.message) (h.accounts f.packet.from f.o.tunnel f.packet.epoch).given letter.place letter.letter letter.there r.no_opening)))
      (first_or_later w h f.packet.from f.o.tunnel f.packet.epoch (h.accounts f.packet.from f.o.tunnel f.packet.epoch) (k.holds.accounts f.packet.from f.o.tunnel f.packet.epoch) f.copy.made)
    where
      letter : IsLetterRead (h.accounts f.packet.from f.o.tunnel f.packet.epoch) f.o came.header bytes
      letter = ⊎_elim
          (λ (q : IsLetterRead (h.accounts f.packet.from f.o.tunnel f.packet.epoch) f.o came.header bytes). q)
          (λ (q : IsNoneRead f.o came.header bytes). absurd (no_message codecs (Sccrq opening) (ap message_in (sym q.body) ∙ said)))
          f.read.says

  of_none : OfNoTunnel w h n e sender came bytes → ⊥
  of_none f =
      let two : ◌≡◌ {A = Message} (Sccrq opening) (StopCcn 0 f.refusal.result f.refusal.error) = (let both = sym said ∙ f.read.said in cc) in
      cc

  of_recovery : OfRecovery w h n sender came → ⊥
  of_recovery f = ⊎_elim
      (λ (none : came.body ≡ []). no_message codecs (Sccrq opening) (ap message_in (sym none) ∙ said_here))
      (λ q.
      let same : q.0 ≡ Sccrq opening = (let both = sym q.2 ∙ said_here in cc) in
      asks_recovery w h f.own f.sent.named f.packet q.0 q.1 opening same k.does.unrecovered)
      f.says

  asked : IsAsked h n sender m.peer opening
  asked = ⊎_elim
      (λ f. from_tunnel f)
      (λ z. ⊎_elim (λ f. absurd (of_none f)) (λ f. absurd (of_recovery f)) z)
      (heard w h k.holds codecs again room n e sender ev k.comes came k.does.hears.1.came)

  both_ok : EndOk w h n node.end × BookOk h n node.checkpoint.book
  both_ok = subst (NodeOk w h n) k.there (k.holds.nodes n)

  -- the opener
  abbrev p : Account
  p = h.accounts asked.from asked.tunnel 0

  p_made : IsMade p
  p_made none = let two : Opener ≡ Unmade = sym asked.part ∙ none in absurd cc

  some_there : 0 < asked.tunnel
  some_there = (k.holds.accounts asked.from asked.tunnel 0).some p_made

  told : m.remote ≡ asked.tunnel
  told = k.does.remote ∙ asked.told

  node_is : node_of m.peer ≡ asked.from
  node_is = ap node_of asked.address ∙ node_again asked.from asked.fits

  known : m.remote ≡ 0 → ⊥
  known z = let same = told in let some = some_there in omega (arith, z, same, some)

  -- ---- the id that is drawn

  drawn : (i ≡ e.tunnel_ids.next) × (i ≤ e.tunnel_ids.last)
  drawn = draw_is e.tunnel_ids m.tunnel k.does.drawn

  unmade : h.accounts n i 0 ≡ no_account
  unmade = undrawn w h n e k.holds both_ok.0.ids i drawn.0

  some : 0 < i
  some = let f = k.fit.tables.first_tunnel in let is = drawn.0 in omega (arith, f, is)

  fits : i < 65536
  fits = let f = k.fit.tunnel_ids.last in let le = drawn.1 in omega (arith, f, le)

  -- ---- what is known of it

  -- the SCCRP
  abbrev first : Letter
  first = record { tunnel = m.tunnel; place = m.given; session = 0; message = Sccrp (opening_of e.role (config_of n 0 None false) m.challenge m.response m.tunnel); hidden = None }

  abbrev tk : Taken
  tk = taken_as sender m.taken (move.Accepted m)

  abbrev b : Account
  b = record no_account { part = Acceptor; peer = node_of m.peer; remote = m.remote; given = first ∷ []; taken = tk ∷ [] }

  abbrev v : World
  v = with_end w n node x

  abbrev g : History
  g = after h d

  world_is : moves_on w n node (move.Accepted m) x ≡ v
  unfolding moved
  world_is = refl

  alike : IsAlike w v n node x
  alike = end_alike w n node x k.there

  standing_is : standing_of v n i ≡ no_standing
  standing_is = alike.standings n i ∙ new_standing w h n node x d i k.there k.holds unmade

  epoch_is : epoch_of v n i ≡ 0
  epoch_is = ap (λ (s : Standing). s.epoch) standing_is

  deed_epoch : d.epoch ≡ 0
  deed_epoch = k.epoch ∙ (ap (λ q. epoch_of q n i) world_is ∙ epoch_is)

  plain : IsPlainDeed d
  plain = deed_plain d (move.Accepted m) k.deed.move_is (λ p j. refl) (λ p q z. refl) (λ p q z. refl)

  becomes : entered_by d d.move (h.accounts n i 0) ≡ b
  becomes =
      ap (λ q. entered_by d q (h.accounts n i 0)) k.deed.move_is
      ∙ (ap (λ (a : Account). gives_also d (takes_at d m.taken (record a { part = Acceptor; peer = node_of m.peer; remote = m.remote }))) unmade
      ∙ takes_and_gives d n e.role sender (move.Accepted m) m.taken (record no_account { part = Acceptor; peer = node_of m.peer; remote = m.remote }) k.deed)

  is : g.accounts n i 0 ≡ b
  is = becomes_so h d n i 0 b k.deed.node_is (ap about k.deed.move_is) deed_epoch becomes plain

  only : IsOnly h g n i 0
  only = only_so h d n i 0 b k.deed.node_is (ap about k.deed.move_is) deed_epoch becomes plain (begins_from b refl refl refl (h.accounts n i 0) unmade) (λ lt. absurd (omega (arith, lt)))

  -- the opener is another tunnel, and stays
  stays : partner_in g.accounts 0 b ≡ p
  stays =
      ap₂ (λ y z. g.accounts y z 0) node_is told
      ∙ only.others asked.from asked.tunnel 0
      (λ (z : (asked.from ≡ n) × (asked.tunnel ≡ i) × (◌≡◌ {A = ℕ} 0 0)). p_made (ap₂ (λ y q. (h.accounts y q 0).part) z.0 z.1 ∙ ap (λ (a : Account). a.part) unmade))

  acceptor : IsAcceptor g.accounts n i b
  acceptor = record {
    begins = record {
      first = first;
      rest = [];
      are = refl;
      opening = opening_of e.role (config_of n 0 None false) m.challenge m.response m.tunnel;
      says_so = refl;
      id = refl;
      later = tt;
    };
    known = known;
    some = omega arith;
    part = ap (λ (a : Account). a.part) stays ∙ asked.part;
    peer = ap (λ (a : Account). a.peer) stays ∙ asked.goes_to;
    one_taken = λ no_. inl refl;
    one_given = λ no_. inl refl;
  }

  newly_taken : IsTaken g.accounts 0 b 0 tk
  newly_taken = record {
    numbered = ap (λ (q : Place). q.number) k.does.taken;
    partner = record { node = node_of m.peer; tunnel = m.remote };
    learned = rw (ne_eqb m.remote 0 known) refl;
    sender = asked.sender_is ∙ ap₂ (λ q r. Some (record { node = q; tunnel = r })) (sym node_is) (sym told);
    letter = asked.letter;
    there = ap (λ (y : Account). slice_get y.given 0) stays ∙ asked.there;
    tells = (opening, asked.message, k.does.remote, k.does.window);
  }

  taken : AreTaken g.accounts 0 b
  taken place y found lt = ⊎_elim
      (λ (q : slice_get [] place ≡ Some y). let no_ : ⊥ = cc in absurd no_)
      (λ (q : (place ≡ 0) × (tk ≡ y)). subst (λ z. IsTaken g.accounts 0 b z y) (sym q.0) (subst (IsTaken g.accounts 0 b 0) q.1 newly_taken))
      (got_push [] tk place y found)

  account : AccountOk v g n i 0 b
  account = record {
    part = (refl, acceptor);
    some = λ made. some;
    id = λ made. fits;
    node = λ made. both_ok.0.node;
    peer = node_fits m.peer;
    remote = (let le = (k.holds.accounts asked.from asked.tunnel 0).id p_made in let same = told in omega (arith, le, same));
    first_given = omega arith;
    first_taken = omega arith;
    from_none = λ zero. (refl, refl);
    spelled = (
      inl (record {
        written = opening_written e.role (config_of n 0 None false) m.challenge m.response m.tunnel both_ok.0.node some fits (asks_short e.config.secret m.challenge k.does.asks)
            (responds_sized 2 e.config.secret opening.challenge m.response k.does.responds);
        hides = tt;
        session = omega arith;
      }),
      tt,
    );
    told = (tt, tt);
    taken = taken;
    ignored = λ place y found le. (let lt = slice_get_within b.taken place y found in absurd (omega (arith, lt, le)));
    entered = λ made. omega arith;
    declined = λ z. absurd (true≢false (sym z));
  }

  -- ---- the tunnel

  -- before the window is learned
  abbrev first_control : Control
  first_control = record (begun m.tunnel m.peer m.remote WaitCtlConn moment m.challenge) { flags = flags_of opening.failover }

  abbrev c : Control
  c = learns_window m.window first_control

  abbrev u : Tunnel
  u = with_letter 0 (Sccrp (opening_of e.role e.config m.challenge m.response m.tunnel)) (new_tunnel (counts_taken c))

  learns : IsLearnt first_control c
  learns = learnt m.window first_control

  channel : ChannelOk g.accounts n i 0 b u
  channel =
      let acks = learns.acked in
      let queued = learns.queued in
      let outstanding = learns.outstanding in
      let counts = learns.taken in
      record {
        peer = learns.peer ∙ asked.address ∙ ap address_of (sym node_is);
        remote = learns.remote;
        state = inl (ap state_number learns.state, refl, refl);
        acked = 0;
        acked_is = learns.acked;
        letters = ap (λ o. letter_of 0 (Sccrp o) ∷ []) (same_opening e.role e.config (config_of n 0 None false) m.challenge m.response m.tunnel both_ok.0.number);
        counted = omega (arith, queued);
        few = omega (arith, queued);
        outstanding = omega (arith, queued, outstanding);
        taken = omega (arith, counts);
        were_acked = ((λ no_. inl refl), (λ yes. omega arith));
      }

  live : LiveOk v g n i u
  live = record {
    local = learns.local;
    made = λ none. (let two : Acceptor ≡ Unmade = ap (λ (y : Account). y.part) (sym is) ∙ none in absurd cc);
    peer = channel.peer ∙ ap (λ (y : Account). address_of y.peer) (sym is);
    channel = λ current. subst (λ z. ChannelOk g.accounts n i z (g.accounts n i z) u) (sym epoch_is) (subst (λ y. ChannelOk g.accounts n i 0 y u) (sym is) channel);
    kept = λ current. ap (λ (s : Standing). s.lost) standing_is;
    established = λ z. absurd (true≢false z);
    some = λ z. absurd (true≢false z);
    knows = λ z. absurd (true≢false z);
    learned = λ z. absurd (true≢false z);
    recovery = λ r none. absurd (none-some r none);
    unattempted = λ early a r found. never_attempted w h n node x d i k.there k.holds unmade a r (sym (only.attempts n a) ∙ found);
    calls = λ s y f. absurd (none-some y (sym (at-none s) ∙ f));
    query = record { none = λ z. refl; fit = tt };
  }

  puts : Puts node.end x i u
  puts = puts_so node.end x (record (with_tunnel node.end i u) { tunnel_ids = after_id node.end.tunnel_ids }) i u k.does.after (record { config = refl; role = refl; tunnels = refl })

  next : x.tunnel_ids.next ≡ i + 1
  next = ap (λ (y : End). y.tunnel_ids.next) k.does.after ∙ ap (λ (s : Space). s.next) (next_is e.tunnel_ids m.tunnel k.does.drawn)

  late : ◌≡◌ {A = ℕ} 0 0 → ((h.accounts n i 0).remote ≡ 0 → ⊥) → (g.accounts n i 0).closed ≡ Some 0 → (h.accounts n i 0).closed ≡ Some 0
  late z some_known = absurd (some_known (ap (λ (y : Account). y.remote) unmade))

  unbooked : IsUnbooked h n i node.checkpoint.book
  unbooked = record {
    book = λ q found. (both_ok.1.tunnels i q found).made
        (ap (λ z. (h.accounts n z 0).part) (entry_has (λ (t : BookTunnel). t.local) i node.checkpoint.book.tunnels q found) ∙ ap (λ (y : Account). y.part) unmade);
    attempts = never_attempted w h n node x d i k.there k.holds unmade;
  }

  settled : ◌≡◌ {A = ℕ} 0 0 → (h.accounts n i 0).remote ≡ 0
      → (((g.accounts n i 0).remote ≡ 0) × ((g.accounts n i 0).closed ≡ Some 0 → (h.accounts n i 0).closed ≡ Some 0)) ⊎ IsUnbooked h n i node.checkpoint.book
  settled z none = inr unbooked

  -- its opener hasn't learned it, since no tunnel had its id
  not_learned : p.remote ≡ i → ⊥
  not_learned z =
      let s = some in
      let opener = (opener_of w h asked.from asked.tunnel 0 p (k.holds.accounts asked.from asked.tunnel 0) asked.part).1 in
      let mate = opener.part (λ (q : p.remote ≡ 0). let no_ : ⊥ = omega (arith, q, z, s) in no_) in
      let same : partner_in h.accounts 0 p ≡ no_account = ap₂ (λ y q. h.accounts y q 0) asked.goes_to z ∙ unmade in
      let two : Acceptor ≡ Unmade = sym mate ∙ ap (λ (a : Account). a.part) same in
      cc

  joined : StaysJoined g n i (g.accounts n i 0)
  joined own named = absurd (not_learned (sym (ap (λ (a : Account). a.remote) stays) ∙ subst (λ (a : Account). (partner_in g.accounts 0 a).remote ≡ i) is named))

  account_there : AccountOk v g n i 0 (g.accounts n i 0)
  account_there = subst (AccountOk v g n i 0) (sym is) account

  pub accepted_keeps : Holds (moves_on w n node (move.Accepted m) x) (after h d)
  accepted_keeps = subst (λ q. Holds q (after h d)) (sym world_is)
      (holds_later w v h g n i 0 only k.holds node x alike late settled k.there joined account_there
      (put_end_apart w v h g n node.end x both_ok.0 i u puts (drawn_ids w h g n i only node.end x both_ok.0.ids drawn.0 next)
      (λ j q o was. live_later w v h g n i 0 only k.holds node x alike late settled k.there joined account_there n j (λ y. o y.1) q (both_ok.0.live j q was))
      live (λ j q o was peer remote other. k.does.alone j q was (sym peer ∙ learns.peer) (sym remote ∙ learns.remote))))
