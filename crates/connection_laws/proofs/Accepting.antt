-- A tunnel is accepted: its first letter, and the first that it takes, are known, and its opener knows it by no id yet.
use Rattle.std.proofs.Common.{Ok, ◌≡◌, inl, ⊎_elim, ℕ, ◌+◌, ◌<◌, ◌≤◌, false, [], ◌∷◌, map, drop, refl, sym, ap, ap₂, ◌∙◌, subst, Option, Some, None, arith, ne_eqb}
use Rattle.std.proofs.lemmas.Option.{none-some, slice_get_within}
use Rattle.std.specs.Prelude.{slice_get}
use Rattle.id_table.specs.Ids.{at-none}
use Rattle.id_table.specs.Order.{ascends-empty}
use Rattle.id_source.specs.Spaces.{Space, ceiling_for, draw_is, next_is}
use Rattle.control_message.specs.declared.message.Message.TheVariants.{Sccrq, Sccrp}
use Rattle.tunnel_fsm.specs.declared.table.TunnelState.TheVariants.{WaitCtlConn}
use Rattle.tunnel_fsm.specs.Rows.{state_number}
use Rattle.end_model.specs.declared.event.Event.{Event}
use Rattle.end_model.specs.declared.event.Event.TheVariants.{Datagram}
use Rattle.end_model.specs.declared.moves.Accepted.{Accepted}
use Rattle.end_model.specs.declared.moves.Place.{Place}
use Rattle.end_model.specs.declared.moves.Move.TheVariants as move
use Rattle.end_model.specs.declared.out.ControlOrigin.{ControlOrigin}
use Rattle.end_model.specs.declared.tunnel.Control.{Control}
use Rattle.end_names.specs.Names.{address_of, node_of}
use Rattle.end_model.specs.Tunnels.{Tunnel, new_tunnel}
use Rattle.end_model.specs.Channels.{letter_of, counts_taken, learns_window}
use Rattle.end_model.specs.Messages.{flags_of, opening_of}
use Rattle.end_model.specs.End.{End}
use Rattle.world_model.specs.World.{Sender, Deed, config_of}
use Rattle.step_laws.specs.Letters.{Letter}
use Rattle.step_laws.specs.Moves.{with_tunnel, with_letter, begun}
use Rattle.frame_laws.specs.Codecs.{Codecs}
use Rattle.connection_laws.specs.Accounts.{Opener, Acceptor, Taken, Account, no_account}
use Rattle.connection_laws.specs.Facts.{Accounts, IsTaken, AreTaken, partner_in, IsOpener, IsAcceptor, AccountOk, kept_letter, LiveOk, IsNear, Within}
use Rattle.connection_laws.proofs.Keeps.{after, IsMoved}
use Rattle.connection_laws.proofs.Puts.{IsOnly, StaysJoined}
use Rattle.connection_laws.proofs.Later.{after_move, only_after}
use Rattle.connection_laws.proofs.Put.{puts_keep}
use Rattle.connection_laws.proofs.Written.{asks_short, responds_sized, opening_written, same_opening, node_again, node_fits}
use Rattle.connection_laws.proofs.Beginning.{undrawn}
use Rattle.l2tp_header.specs.Reading.{body_of}
use Rattle.end_model.specs.Reading.{message_in}
use Rattle.connection_laws.proofs.Alike.{read_same}
use Rattle.connection_laws.proofs.Hearing.{opener_of, sccrq_of, IsLetterRead, FromPeer, letter_said, said_in, from_peer_said}
use Rattle.connection_laws.proofs.Taking.{got_push, with_taken, taken_as, takes_and_gives}
use Rattle.connection_laws.proofs.Connecting.{IsLearnt, learnt}

module _ (codecs : Codecs) (accs : Accounts) (n : ℕ) (e x : End) (sender : Option Sender) (moment : ℕ) (ev : Event) (d : Deed)
    (m : Accepted) (h : IsMoved accs n e x sender moment ev (move.Accepted m) d) where
  abbrev ms : Accounts
  ms = after accs d

  abbrev i : ℕ
  i = m.tunnel

  -- ---- the SCCRQ

  said : message_in (body_of h.does.hears.1.came.bytes h.does.hears.1.letter.header) ≡ Ok (Sccrq h.does.opening)
  said = let k = h.does.hears.1 in said_in ev k.letter k.came (Sccrq h.does.opening) k.says.said

  f : FromPeer accs n e sender ev h.within.comes m.peer h.does.hears.1.letter.header h.does.hears.1.came.bytes
  f =
      let k = h.does.hears.1 in
      from_peer_said codecs accs n e sender ev h.within m.peer k.letter.header k.came.bytes (k.came.is ∙ ap (λ p. Datagram p k.came.bytes) k.peer_is)
      k.came.read k.came.control (Sccrq h.does.opening) tt said

  abbrev o : ControlOrigin
  o = f.o

  abbrev from : ℕ
  from = f.packet.from

  -- the opener
  abbrev p : Account
  p = accs from o.tunnel

  letter : IsLetterRead p o h.does.hears.1.letter.header h.does.hears.1.came.bytes
  letter = letter_said codecs p o h.does.hears.1.letter.header h.does.hears.1.came.bytes (Sccrq h.does.opening) f.read said

  message : letter.letter.message ≡ Sccrq h.does.opening
  message = read_same letter.letter.message (body_of h.does.hears.1.came.bytes h.does.hears.1.letter.header) letter.reads (Sccrq h.does.opening) said tt

  asks : (p.part ≡ Opener) × (o.ns ≡ 0) × (h.does.opening.tunnel ≡ o.tunnel)
  asks = sccrq_of accs from o.tunnel (h.within.accounts from o.tunnel) f.copy.made o.ns letter.letter h.does.opening letter.there message

  opener : IsOpener accs from o.tunnel p
  opener = opener_of accs from o.tunnel p (h.within.accounts from o.tunnel) asks.0

  some_there : 0 < o.tunnel
  some_there = (h.within.accounts from o.tunnel).some f.copy.made

  told : m.remote ≡ o.tunnel
  told = h.does.remote ∙ asks.2

  node : node_of m.peer ≡ from
  node = ap node_of f.peer_is ∙ node_again from f.from

  known : m.remote ≡ 0 → ⊥
  known z = let same = told in let some = some_there in omega arith

  -- ---- the id that is drawn

  drawn : (i ≡ e.tunnel_ids.next) × (i ≤ e.tunnel_ids.last)
  drawn = draw_is e.tunnel_ids m.tunnel h.does.drawn

  unmade : accs n i ≡ no_account
  unmade = undrawn accs n e sender ev h.within i drawn.0

  some : 0 < i
  some = let first = h.within.end.first in let is = drawn.0 in omega arith

  fits : i < 65536
  fits = let last = h.within.end.last in let le = drawn.1 in omega arith

  -- ---- what is known of it

  -- the SCCRP
  abbrev first : Letter
  first = record { tunnel = m.tunnel; place = m.given; session = 0; message = Sccrp (opening_of e.role (config_of n 0 None false) m.challenge m.response m.tunnel); hidden = None }

  abbrev tk : Taken
  tk = taken_as sender m.taken (move.Accepted m)

  abbrev b : Account
  b = record no_account { part = Acceptor; peer = node_of m.peer; remote = m.remote; given = first ∷ []; taken = tk ∷ [] }

  only : IsOnly accs ms n i
  only = only_after accs d n (move.Accepted m) tt h.deed.node_is h.deed.move_is (
    ap (λ (a : Account). a.part) unmade,
    ap (λ (a : Account). a.remote) unmade,
    ap (λ (a : Account). a.closed) unmade,
  )

  is : ms n i ≡ b
  is = after_move accs d n (move.Accepted m) tt h.deed.node_is h.deed.move_is
      ∙ takes_and_gives d n e.role sender (move.Accepted m) m.taken (record (accs n i) { part = Acceptor; peer = node_of m.peer; remote = m.remote }) h.deed
      ∙ ap (λ (a : Account). with_taken tk (first ∷ []) (record a { part = Acceptor; peer = node_of m.peer; remote = m.remote })) unmade

  -- the opener is another tunnel, and stays
  stays : partner_in ms b ≡ p
  stays = ap₂ ms node told ∙ only.others from o.tunnel (λ both. f.copy.made (ap₂ (λ m j. (accs m j).part) both.0 both.1 ∙ ap (λ (a : Account). a.part) unmade))

  acceptor : IsAcceptor ms n i b
  acceptor = record {
    begins = record {
      first = first;
      rest = [];
      are = refl;
      opening = opening_of e.role (config_of n 0 None false) m.challenge m.response m.tunnel;
      says_so = refl;
      id = refl;
      later = tt;
    };
    known = known;
    some = omega arith;
    part = ap (λ (a : Account). a.part) stays ∙ asks.0;
    peer = ap (λ (a : Account). a.peer) stays ∙ sym f.copy.to ∙ f.to;
    one_taken = λ no. inl refl;
    one_given = λ no. inl refl;
  }

  newly_taken : IsTaken ms b 0 tk
  newly_taken = record {
    numbered = ap (λ (q : Place). q.number) h.does.taken;
    partner = record { node = node_of m.peer; tunnel = m.remote };
    learned = rw (ne_eqb m.remote 0 known) refl;
    sender = f.sender_is ∙ ap₂ (λ q r. Some (record { node = q; tunnel = r })) (sym node) (sym told);
    letter = letter.letter;
    there = rw stays (subst (λ (k : ℕ). slice_get p.given k ≡ Some letter.letter) asks.1 letter.there);
    tells = (h.does.opening, message, h.does.remote, h.does.window);
  }

  taken : AreTaken ms b
  taken number y found lt = ⊎_elim
      (λ (q : slice_get [] number ≡ Some y). let no : ⊥ = cc in absurd no)
      (λ (q : (number ≡ 0) × (tk ≡ y)). rw (q.0, ← q.1) newly_taken)
      (got_push [] tk number y found)

  account : AccountOk ms n i b
  account = record {
    part = acceptor;
    some = λ made. some;
    id = λ made. fits;
    node = λ made. h.within.end.node;
    peer = node_fits m.peer;
    remote = (let le = (h.within.accounts from o.tunnel).id f.copy.made in let same = told in omega arith);
    spelled = (
      record {
        written = opening_written e.role (config_of n 0 None false) m.challenge m.response m.tunnel h.within.end.node some fits
            (asks_short e.config.secret m.challenge h.does.asks) (responds_sized 2 e.config.secret h.does.opening.challenge m.response h.does.responds);
        hides = tt;
        session = omega arith;
      },
      tt,
    );
    told = (tt, tt);
    taken = taken;
    ignored = λ number y found le. (let lt = slice_get_within b.taken number y found in absurd (omega (arith, lt, le)));
  }

  -- ---- the tunnel

  -- before the window is learned
  abbrev first_control : Control
  first_control = record (begun m.tunnel m.peer m.remote WaitCtlConn moment m.challenge) { flags = flags_of h.does.opening.failover }

  abbrev c : Control
  c = learns_window m.window first_control

  abbrev u : Tunnel
  u = with_letter 0 (Sccrp (opening_of e.role e.config m.challenge m.response m.tunnel)) (new_tunnel (counts_taken c))

  learns : IsLearnt first_control c
  learns = learnt m.window first_control

  live : LiveOk ms n i b u
  live =
      let acks = learns.acked in
      let queued = learns.queued in
      let outstanding = learns.outstanding in
      let counts = learns.taken in
      record {
        local = learns.local;
        peer = learns.peer ∙ f.peer_is ∙ ap address_of (sym node);
        remote = learns.remote;
        state = inl (ap state_number learns.state, refl, refl);
        letters = ap (λ o. letter_of 0 (Sccrp o) ∷ []) (same_opening e.role e.config (config_of n 0 None false) m.challenge m.response m.tunnel h.within.end.number)
            ∙ ap (λ (j : ℕ). map kept_letter (drop j b.given)) (sym learns.acked);
        counted = omega arith;
        few = omega arith;
        outstanding = omega arith;
        taken = omega arith;
        acked = ((λ no. inl learns.acked), (λ yes. omega arith));
        calls = λ s k g. absurd (none-some k (sym (at-none s) ∙ g));
        order = ascends-empty [] refl;
        recovery = refl;
        query = refl;
      }

  near : IsNear b u o
  near = let acks = learns.acked in record { taken = omega arith; acked = omega arith }

  -- its opener hasn't learned it, since no tunnel had its id
  not_learned : p.remote ≡ i → ⊥
  not_learned z =
      let s = some in
      let mate = opener.part (λ (q : p.remote ≡ 0). let no : ⊥ = omega arith in no) in
      let same : partner_in accs p ≡ no_account = ap₂ accs (sym f.copy.to ∙ f.to) z ∙ unmade in
      let part = ap (λ (a : Account). a.part) same in
      cc

  joined : StaysJoined ms n i
  joined own names =
      absurd (not_learned (sym (ap (λ (a : Account). a.remote) stays) ∙ subst (λ (a : Account). (partner_in ms a).remote ≡ i) is names))

  abbrev after_it : End
  after_it = record (with_tunnel e i u) { tunnel_ids = record e.tunnel_ids { ceiling = ceiling_for e.tunnel_ids; next = i + 1 } }

  accepts : Within ms n after_it sender ev
  accepts =
      let next = drawn.0 in
      puts_keep accs ms n e after_it sender ev i u (record {
        within = h.within;
        only = only;
        end = record {
          role = refl;
          config = refl;
          tunnels = refl;
          next = omega arith;
          last = refl;
          sessions = omega arith;
          last_session = refl;
        };
        drawn = omega arith;
        account = rw is account;
        live = rw is live;
        joined = joined;
        apart = λ j v g peer remote known. absurd (h.does.alone j v g (sym peer ∙ learns.peer) (sym remote ∙ learns.remote));
        near = f.again ms i u (rw is near);
      })

  pub accepted_keeps : Within (after accs d) n x sender ev
  accepted_keeps =
      subst (λ (y : End). Within ms n y sender ev)
      (sym (h.does.after ∙ ap (λ (s : Space). record (with_tunnel e i u) { tunnel_ids = s }) (next_is e.tunnel_ids m.tunnel h.does.drawn)))
      accepts
