-- A tunnel is opened.
use Rattle.std.proofs.Common.{◌≡◌, inl, ℕ, ◌+◌, ◌<◌, ◌≤◌, [], ◌∷◌, ◌++◌, false, refl, sym, ap, ◌∙◌, subst, Option, None, arith, List}
use Rattle.std.proofs.lemmas.Option.{none-some}
use Rattle.id_source.specs.Spaces.{ceiling_for, draw_is, next_is}
use Rattle.id_table.specs.Ids.{at-none}
use Rattle.id_table.specs.Order.{ascends-empty}
use Rattle.control_message.specs.declared.message.Message.TheVariants.{Sccrq}
use Rattle.tunnel_fsm.specs.declared.table.TunnelState.TheVariants.{WaitCtlReply}
use Rattle.end_model.specs.declared.event.Event.{Event}
use Rattle.end_model.specs.declared.event.Event.TheVariants.{Datagram, Ring, Frame, Admitted, Payload, Lower, Lcp, Hang, OpenTunnel, DropCall, CloseTunnel, Tick}
use Rattle.end_model.specs.declared.moves.Opened.{Opened}
use Rattle.end_model.specs.declared.moves.Move.TheVariants as move
use Rattle.end_model.specs.declared.out.Origin.{Origin}
use Rattle.end_model.specs.declared.out.Origin.TheVariants as origin
use Rattle.world_model.specs.declared.packet.Packet.{Packet}
use Rattle.end_names.specs.Names.{address_of, node_of}
use Rattle.end_model.specs.Tunnels.{Tunnel, new_tunnel}
use Rattle.end_model.specs.Channels.{letter_of}
use Rattle.end_model.specs.Messages.{opening_of}
use Rattle.end_model.specs.End.{End}
use Rattle.world_model.specs.World.{Sender, Deed, config_of}
use Rattle.step_laws.specs.Callers.{WantsTunnel, LacWants}
use Rattle.step_laws.specs.Letters.{Letter}
use Rattle.step_laws.specs.Moves.{Asks, with_tunnel, with_letter, begun}
use Rattle.connection_laws.specs.Accounts.{Part, Unmade, Opener, Acceptor, Account, no_account, gives}
use Rattle.connection_laws.specs.Facts.{Accounts, IsMade, IsPart, AccountOk, LiveOk, EndOk, Comes, Within}
use Rattle.connection_laws.proofs.Keeps.{IsDeed, after, IsMoved}
use Rattle.connection_laws.proofs.Puts.{IsOnly, NearAt, ComesNear}
use Rattle.connection_laws.proofs.Later.{after_move, only_after}
use Rattle.connection_laws.proofs.Put.{puts_keep}
use Rattle.connection_laws.proofs.Written.{asks_short, opening_written, same_opening, node_again, node_fits}

-- the peer to which an end wants a tunnel is a node
wanted_node : (accs : Accounts) (n : ℕ) (e : End) (ev : Event) (peer : ℕ) → EndOk accs n e → WantsTunnel e ev peer
    → (m : ℕ) × (m < 256) × (peer ≡ address_of m)
wanted_node accs n e ev peer ok (LacWants lac lns asks) = let node = ok.lns lac in (node.0, node.1, lns ∙ node.2)

-- an id that wasn't drawn is that of no tunnel
pub undrawn : (accs : Accounts) (n : ℕ) (e : End) (sender : Option Sender) (ev : Event) → Within accs n e sender ev → (i : ℕ) → i ≡ e.tunnel_ids.next
    → accs n i ≡ no_account
undrawn accs n e sender ev within i is = by (accs n i).part refl (within.accounts n i).part
  where
    never : IsMade (accs n i) → accs n i ≡ no_account
    never made = let lt = within.end.drawn i made in absurd (omega (arith, is))

    by : (p : Part) → (accs n i).part ≡ p → IsPart accs n i (accs n i) p → accs n i ≡ no_account
    by Unmade e h = h
    by Opener e h = never (λ none. let clash : ⊥ = cc in clash)
    by Acceptor e h = never (λ none. let clash : ⊥ = cc in clash)

module _ (accs : Accounts) (n : ℕ) (e : End) (sender : Option Sender) (moment : ℕ) (ev : Event) (d : Deed) (within : Within accs n e sender ev) (m : Opened)
    (deed : IsDeed d n e.role sender (move.Opened m)) (next : m.tunnel ≡ e.tunnel_ids.next) (last : m.tunnel ≤ e.tunnel_ids.last)
    (number : ℕ) (number_fits : number < 256) (peer_is : m.peer ≡ address_of number) (asks : Asks e.config.secret m.challenge) where
  abbrev ms : Accounts
  ms = after accs d

  abbrev i : ℕ
  i = m.tunnel

  -- the SCCRQ
  abbrev first : Letter
  first = record { tunnel = m.tunnel; place = m.given; session = 0; message = Sccrq (opening_of e.role (config_of n 0 None false) m.challenge None m.tunnel); hidden = None }

  abbrev new_account : Account
  new_account = record no_account { part = Opener; peer = node_of m.peer; given = first ∷ [] }

  abbrev new : Tunnel
  new = with_letter 0 (Sccrq (opening_of e.role e.config m.challenge None m.tunnel)) (new_tunnel (begun m.tunnel m.peer 0 WaitCtlReply moment m.challenge))

  abbrev after_it : End
  after_it = record (with_tunnel e i new) { tunnel_ids = record e.tunnel_ids { ceiling = ceiling_for e.tunnel_ids; next = m.tunnel + 1 } }

  unmade : accs n i ≡ no_account
  unmade = undrawn accs n e sender ev within i next

  gives_is : gives d ≡ first ∷ []
  gives_is = rw (deed.role_is, deed.node_is, deed.move_is) refl

  is : ms n i ≡ new_account
  is =
      after_move accs d n (move.Opened m) tt deed.node_is deed.move_is
      ∙ ap (λ (a : Account). record a { part = Opener; peer = node_of m.peer; given = a.given ++ gives d }) unmade
      ∙ ap (λ ls. record new_account { given = ls }) gives_is

  only : IsOnly accs ms n i
  only = only_after accs d n (move.Opened m) tt deed.node_is deed.move_is (ap (λ (a : Account). a.part) unmade)

  some : 0 < i
  some = let f = within.end.first in omega (arith, next)

  fits : i < 65536
  fits = let f = within.end.last in omega (arith, last)

  account : AccountOk ms n i new_account
  account = record {
    part = record {
      begins = record {
        first = first;
        rest = [];
        are = refl;
        opening = opening_of e.role (config_of n 0 None false) m.challenge None m.tunnel;
        says_so = refl;
        id = refl;
        later = tt;
      };
      none = λ unknown. inl refl;
      one_given = λ unknown. inl refl;
      some = λ known. absurd (known refl);
      part = λ known. absurd (known refl);
      peer = λ known. absurd (known refl);
      remote = λ known. absurd (known refl);
      joined = λ known. absurd (known refl);
      early = λ z. (let no : ⊥ = cc in absurd no);
    };
    some = λ made. some;
    id = λ made. fits;
    node = λ made. within.end.node;
    peer = node_fits m.peer;
    remote = omega arith;
    spelled = (record { written = (opening_written e.role (config_of n 0 None false) m.challenge None m.tunnel within.end.node some fits (asks_short e.config.secret m.challenge asks) tt, refl); hides = tt; session = omega arith }, tt);
    told = (tt, tt);
    taken = λ k l f lt. let clash : ⊥ = cc in absurd clash;
    ignored = λ k l f le. let clash : ⊥ = cc in absurd clash;
  }

  live : LiveOk ms n i new_account new
  live = record {
    local = refl;
    peer = rw (peer_is, node_again number number_fits) refl;
    remote = refl;
    state = inl (refl, refl, refl, λ s c f. absurd (none-some c (sym (at-none s) ∙ f)));
    letters = ap (λ o. letter_of 0 (Sccrq o) ∷ []) (same_opening e.role e.config (config_of n 0 None false) m.challenge None m.tunnel within.end.number);
    counted = refl;
    few = omega arith;
    outstanding = omega arith;
    taken = refl;
    acked = ((λ unknown. inl refl), λ known. absurd (known refl));
    calls = λ s c f. absurd (none-some c (sym (at-none s) ∙ f));
    order = ascends-empty [] refl;
    recovery = refl;
    query = refl;
  }

  near_at : (p : Packet) (bytes : List ℕ) (o : Origin) → NearAt ms n i new p bytes o
  near_at p bytes (origin.Control o) = λ h peer read f. record { taken = rw is (omega arith); acked = omega arith }
  near_at p bytes (origin.Data session) = tt
  near_at p bytes (origin.Recovery tunnel number empty) = tt

  near : (v : Event) (c : Comes accs n e sender v) → ComesNear accs n e sender v c ms i new
  near (Datagram peer bytes) c = near_at c.packet bytes c.packet.origin
  near (Ring port) c = tt
  near (Frame bytes) c = tt
  near (Admitted mac) c = tt
  near (Payload s frame) c = tt
  near (Lower s frame) c = tt
  near (Lcp s packet) c = tt
  near (Hang s) c = tt
  near OpenTunnel c = tt
  near (DropCall s) c = tt
  near (CloseTunnel k) c = tt
  near Tick c = tt

  begins : Within ms n after_it sender ev
  begins = puts_keep accs ms n e after_it sender ev i new (record {
    within = within;
    only = only;
    end = record {
      role = refl;
      config = refl;
      tunnels = refl;
      next = omega (arith, next);
      last = refl;
      sessions = omega arith;
      last_session = refl;
    };
    drawn = omega arith;
    account = rw is account;
    live = rw is live;
    joined = λ accepted. let clash : Opener ≡ Acceptor = rw is at accepted in absurd cc;
    apart = λ j u f peer remote known. absurd (known refl);
    near = near ev within.comes;
  })

pub opened_keeps : (accs : Accounts) (n : ℕ) (e x : End) (sender : Option Sender) (moment : ℕ) (ev : Event) (m : Opened) (d : Deed)
    → IsMoved accs n e x sender moment ev (move.Opened m) d → Within (after accs d) n x sender ev
opened_keeps accs n e x sender moment ev m d h =
    let o = h.does in
    let drawn = draw_is e.tunnel_ids m.tunnel o.drawn in
    let node = wanted_node accs n e ev m.peer h.within.end o.wants in
    let t = with_letter 0 (Sccrq (opening_of e.role e.config m.challenge None m.tunnel)) (new_tunnel (begun m.tunnel m.peer 0 WaitCtlReply moment m.challenge)) in
    let same = o.after ∙ ap (λ s. record (with_tunnel e m.tunnel t) { tunnel_ids = s }) (next_is e.tunnel_ids m.tunnel o.drawn) in
    subst (λ y. Within (after accs d) n y sender ev) (sym same)
    (begins accs n e sender moment ev d h.within m h.deed drawn.0 drawn.1 node.0 node.1 node.2 o.asks)
