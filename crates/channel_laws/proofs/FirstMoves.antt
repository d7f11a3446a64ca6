-- A move of a live tunnel that is in epoch 0 keeps what holds, since it does in the words of connection_laws.
use Rattle.std.proofs.Common.{◌≡◌, ◌⊎◌, inl, inr, ⊎_elim, ℕ, ◌+◌, ◌<◌, ◌≤◌, Bool, true, false, List, [], length, refl, sym, ap, ap₂, ◌∙◌, subst, Option, Some, Ok, arith}
use Rattle.std.proofs.lemmas.Bool.{true≢false, eq-eqb}
use Rattle.std.proofs.lemmas.Option.{none-some}
use Rattle.std.specs.Prelude.{is_some, slice_get, ◌^◌, ◌==◌, ◌&&◌, if◌then◌else◌}
use Rattle.l2tp_header.specs.Spelling.{control_bytes}
use Rattle.avp_codec.specs.Spelling.{spelling}
use Rattle.control_message.specs.declared.message.Message.TheVariants.{StopCcn, Fsq}
use Rattle.control_message.specs.Pairs.{pairs_of}
use Rattle.id_table.specs.Ids.{at, put, at-none}
use Rattle.id_table.specs.Order.{Ascends, ascends-put, found_put, same_or_not}
use Rattle.id_source.specs.Spaces.{Space}
use Rattle.l2tp_header.specs.Reading.{body_of}
use Rattle.tunnel_fsm.specs.Rows.{state_number}
use Rattle.end_names.specs.Names.{address_of}
use Rattle.end_model.specs.declared.event.Event.{Event}
use Rattle.end_model.specs.declared.moves.Move.{Move}
use Rattle.end_model.specs.declared.out.Origin.TheVariants as origin
use Rattle.end_model.specs.declared.out.ControlOrigin.{ControlOrigin}
use Rattle.end_model.specs.Tunnels.{Tunnel, mode_of, is_current}
use Rattle.end_model.specs.End.{End}
use Rattle.world_model.specs.declared.packet.Packet.{Packet}
use Rattle.world_model.specs.declared.standing.Standing.{Standing}
use Rattle.world_model.specs.World.{World, Node, Sender, Deed, epoch_of, sender_of}
use Rattle.step_laws.specs.Arrivals.{Came, ComesTo, IsFor}
use Rattle.step_laws.specs.Moves.{Does}
use Rattle.frame_laws.specs.Codecs.{Codecs}
use Rattle.frame_laws.specs.Unrecovered.{IsMain}
use Rattle.connection_laws.specs.Facts.{AllWait}
use Rattle.connection_laws.proofs.Hearing.{same_address}
use Rattle.connection_laws.specs.Accounts as calm
use Rattle.connection_laws.specs.Facts as calm_facts
use Rattle.connection_laws.specs.Steps as calm_steps
use Rattle.session_query.specs.Queries.{Asking}
use Rattle.wire_base.specs.declared.pair.Pair.{Pair}
use Rattle.connection_laws.proofs.AnyHeard.{none_asks_for_sessions}
use Rattle.end_model.specs.Reading.{message_in}
use Rattle.channel_laws.specs.Accounts.{Part, Unmade, Opener, Acceptor, Renewed, Account, History, about, declined_in, entered_by, after}
use Rattle.channel_laws.specs.Facts.{IsMade, partner_in, IsOpen, IsClosed, IsShut, AreJoined, IsAcceptor, IsPart, AccountOk, IsInState, ChannelOk, LiveOk, IdsOk, EndOk, BookOk, NodeOk, Says, ALetter, Nothing, IsCopy, Holds, QueryOk}
use Rattle.channel_laws.specs.Recoveries.{WrittenIsRead, WrittenHasRoom}
use Rattle.channel_laws.specs.Steps.{AreNear, moves_on, IsMoved}
use Rattle.channel_laws.proofs.Linked.{acceptor_of, renewed_of}
use Rattle.channel_laws.proofs.Ends.{Puts, IsAlone, put_end_apart}
use Rattle.channel_laws.proofs.Extending.{Extends, IsOnly, made_on, part_on}
use Rattle.channel_laws.proofs.Later.{IsAlike, IsUnbooked, StaysJoined, recovered_later, live_later, holds_later}
use Rattle.channel_laws.proofs.Giving.{IsPlainDeed, becomes_so, only_so}
use Rattle.channel_laws.proofs.Coming.{FromTunnel, OfNoTunnel, heard}
use Rattle.channel_laws.proofs.Naming.{learned_made}
use Rattle.channel_laws.proofs.Main.{not_recovery, named_by_stop}
use Rattle.channel_laws.proofs.Calm.{calm_part, calm_account, calm_of, opener_from, account_to, account_from, bare, live_to, live_from}

-- the end that has one tunnel alone, without a recovery tunnel, and without a query
abbrev pub alone_in : End → ℕ → Tunnel → End
alone_in e i t = record e { tunnels = put [] i (bare t) }

-- ---- packets

copy_to : (h : History) (p : Packet) (o : ControlOrigin) → (h.accounts p.from o.tunnel 0).first_given ≡ 0 → (h.accounts p.from o.tunnel 0).first_taken ≡ 0
    → IsCopy (h.accounts p.from o.tunnel 0) p o → ((h.accounts p.from o.tunnel 0).part ≡ Renewed → ⊥) → calm_facts.IsCopy (calm_of h p.from o.tunnel) p o
copy_to h p o first_given first_taken c other = record {
  made = λ none. by (h.accounts p.from o.tunnel 0).part refl none;
  to = c.to;
  nr = (let le = c.nr in omega (arith, le, first_taken));
  tunnel = c.tunnel;
  named = ⊎_elim
      (λ k. inl (k.0, ap calm_part k.1, k.2))
      (λ k. inr k)
      c.named;
  says = says c.says;
}
  where
    by : (q : Part) → (h.accounts p.from o.tunnel 0).part ≡ q → calm_part (h.accounts p.from o.tunnel 0).part ≡ calm.Unmade → ⊥
    by Unmade is none = c.made is
    by Opener is none = let two : calm.Opener ≡ calm.Unmade = ap calm_part (sym is) ∙ none in cc
    by Acceptor is none = let two : calm.Acceptor ≡ calm.Unmade = ap calm_part (sym is) ∙ none in cc
    by Renewed is none = other is

    says : Says (h.accounts p.from o.tunnel 0) o c.tunnel p.bytes → calm_facts.Says (calm_of h p.from o.tunnel) o c.tunnel p.bytes
    says (ALetter l place full at_place there are) =
        let is : place ≡ o.ns = omega (arith, at_place, first_given) in
        calm_facts.ALetter l full (subst (λ z. slice_get (h.accounts p.from o.tunnel 0).given z ≡ Some l) is there) are
    says (Nothing empty are) = calm_facts.Nothing empty are

module _ (laws : calm_steps.MovesKeep) (codecs : Codecs) (again : WrittenIsRead) (room : WrittenHasRoom) (w : World) (h : History) (n : ℕ) (node : Node) (sender : Option Sender)
    (moment : ℕ) (ev : Event) (m : Move) (x : End) (d : Deed) (k : IsMoved w h n node sender moment ev m x d) (t : Tunnel) (there : at node.end.tunnels (about m) ≡ Some t)
    (current : is_current (mode_of t.recovery) ≡ true) (zero : epoch_of w n (about m) ≡ 0) where
  abbrev i : ℕ
  i = about m

  abbrev a : Account
  a = h.accounts n (about m) 0

  pub both_ok : EndOk w h n node.end × BookOk h n node.checkpoint.book
  both_ok = subst (NodeOk w h n) k.there (k.holds.nodes n)

  pub live_zero : LiveOk w h n (about m) t
  live_zero = both_ok.0.live i t there

  ok : AccountOk w h n i 0 a
  ok = k.holds.accounts n i 0

  pub channel_zero : ChannelOk h.accounts n (about m) 0 (h.accounts n (about m) 0) t
  channel_zero = subst (λ e. ChannelOk h.accounts n i e (h.accounts n i e) t) zero (live_zero.channel current)

  none_renewed : (p j : ℕ) → (h.accounts p j 0).part ≡ Renewed → ⊥
  none_renewed p j is = let lt = (renewed_of w h p j 0 (h.accounts p j 0) (k.holds.accounts p j 0) is).later in omega (arith, lt)

  from_none : (a.first_given ≡ 0) × (a.first_taken ≡ 0)
  from_none = ok.from_none refl

  -- ---- what comes, where it is for the tunnel

  learned : (q : ℕ) → t.control.peer ≡ address_of q → (t.control.remote ≡ 0 → ⊥) → IsMade (h.accounts q t.control.remote 0)
  learned q peer some =
      let c = channel_zero in
      let known = λ (z : a.remote ≡ 0). some (c.remote ∙ z) in
      let made = learned_made w h k.holds n i 0 live_zero.made known in
      subst (λ z. IsMade (h.accounts q z 0)) (sym c.remote) (subst (λ z. IsMade (h.accounts z a.remote 0)) (same_address _ _ (sym c.peer ∙ peer)) made)

  module _ (letter : Came) (to : ComesTo ev t.control letter) where
    near_first : (bytes : List ℕ) (p : Packet) (o : ControlOrigin) → AreNear w h n node.end p bytes (origin.Control o) → (p.epoch ≡ 0)
        → calm_facts.AreNear (calm_of h) n (alone_in node.end i t) p bytes (origin.Control o)
    near_first bytes p o near epoch j q g at_j peer read is_for = ⊎_elim
        (λ (s : (j ≡ i) × (bare t ≡ q)).
        let it : q.control ≡ t.control = ap (λ (y : Tunnel). y.control) (sym s.1) in
        let close = (near i t g there current (ap (λ c. c.peer) (sym it) ∙ peer) read (subst (IsFor g (body_of bytes g)) it is_for)).1 in
        let le = close.taken in
        let none = from_none.1 in
        let at_zero_epoch = ap (λ z. (h.accounts n i z).first_taken + length (h.accounts n i z).taken) epoch in
        let count : length a.taken ≤ o.ns + 32768 = omega (arith, le, none, at_zero_epoch) in
        record {
          taken = subst (λ z. length (h.accounts n z 0).taken ≤ o.ns + 32768) (sym s.0) count;
          acked = subst (λ c. c.channel.window.acked ≤ o.nr + 32767) (sym it) close.acked;
        })
        (λ s. absurd (none-some q (sym (at-none j) ∙ s.1)))
        (found_put [] i (bare t) j q at_j)

    -- of a tunnel
    from_tunnel : FromTunnel w h n node.end sender letter to.came.bytes → calm_facts.IsPacket (calm_of h) n (alone_in node.end i t) sender letter.peer to.came.bytes
    from_tunnel f =
        let is_for = subst (λ bs. IsFor letter.header bs t.control) to.came.body_is to.tunnel in
        let epoch : f.packet.epoch ≡ 0 = (f.near i t letter.header there current (sym to.peer ∙ f.peer_is) to.came.read is_for).0 ∙ zero in
        let sent = k.holds.accounts f.packet.from f.o.tunnel 0 in
        let copy = subst (λ z. IsCopy (h.accounts f.packet.from f.o.tunnel z) f.packet f.o) epoch f.copy in
        record {
          packet = f.packet;
          ok = record {
            from = f.from;
            epoch = epoch;
            sent = subst (calm_facts.OriginOk (calm_of h) f.packet) (sym f.origin_is)
                (inl (copy_to h f.packet f.o (sent.from_none refl).0 (sent.from_none refl).1 copy (none_renewed f.packet.from f.o.tunnel)));
          };
          to = f.to;
          peer_is = f.peer_is;
          secret = f.secret;
          bytes_are = f.bytes_are;
          sender_is = f.sender_is ∙ ap (sender_of f.packet.from) (sym f.origin_is);
          near = subst (calm_facts.AreNear (calm_of h) n (alone_in node.end i t) f.packet to.came.bytes) (sym f.origin_is) (near_first to.came.bytes f.packet f.o f.near epoch);
        }

    -- of none
    of_no_tunnel : OfNoTunnel w h n node.end sender letter to.came.bytes → calm_facts.IsPacket (calm_of h) n (alone_in node.end i t) sender letter.peer to.came.bytes
    of_no_tunnel f =
        let r = f.refusal in
        let named : r.tunnel ≡ i = named_by_stop w h k.holds codecs n sender ev i t live_zero learned letter to node.end to.came.bytes f in
        let asked : ((h.accounts f.packet.to r.tunnel 0).part ≡ Opener) × ((h.accounts f.packet.to r.tunnel 0).peer ≡ f.packet.from) × ((h.accounts f.packet.to r.tunnel 0).declined ≡ true)
        × (f.o.nr ≡ 1) =
        ⊎_elim (λ q. q)
        (λ q.
        let none = both_ok.0.ids.no_attempt i live_zero.made in
        absurd (none-some q.0 (sym none ∙ (ap₂ h.attempts (sym f.to) (sym named) ∙ q.1))))
        r.asked in
        record {
          packet = f.packet;
          ok = record {
            from = f.from;
            epoch = r.epoch;
            sent = subst (calm_facts.OriginOk (calm_of h) f.packet) (sym f.origin_is) (inr (record {
              none = r.none;
              ns = r.ns;
              nr = asked.3;
              some = r.some;
              tunnel = r.tunnel;
              opener = ap calm_part asked.0;
              peer = asked.1;
              declined = asked.2;
              result = r.result;
              error = r.error;
              fit = r.fit;
              are = r.are ∙ ap (λ z. control_bytes r.tunnel 0 0 z (spelling (pairs_of (StopCcn 0 r.result r.error)))) asked.3;
            }));
          };
          to = f.to;
          peer_is = f.peer_is;
          secret = f.secret;
          bytes_are = f.bytes_are;
          sender_is = f.sender_is ∙ ap (sender_of f.packet.from) (sym f.origin_is);
          near = subst (calm_facts.AreNear (calm_of h) n (alone_in node.end i t) f.packet to.came.bytes) (sym f.origin_is) (near_first to.came.bytes f.packet f.o f.near r.epoch);
        }

    pub comes_zero : calm_facts.Comes (calm_of h) n (alone_in node.end (about m) t) sender ev
    comes_zero = subst (calm_facts.Comes (calm_of h) n (alone_in node.end i t) sender) (sym to.came.is)
        (⊎_elim
        (λ f. from_tunnel f)
        (λ r. ⊎_elim
        (λ f. of_no_tunnel f)
        (λ f. absurd (not_recovery w h k.holds codecs n sender ev i t live_zero learned letter to f)) r)
        (heard w h k.holds codecs again room n node.end sender ev k.comes letter to.came))

  -- ---- the move, in the words of connection_laws

  pub accounts_to : (p j : ℕ) → calm_facts.AccountOk (calm_of h) p j (calm_of h p j)
  accounts_to p j = account_to w h p j (k.holds.accounts p j 0)

  live_bare : calm_facts.LiveOk (calm_of h) n i (calm_of h n i) (bare t)
  live_bare = live_to h n i t (none_renewed n i) from_none.0 from_none.1 live_zero.local live_zero.calls
      (k.fit.tables.tunnels i t there).order channel_zero

  one_there : (j : ℕ) (q : Tunnel) → at (put [] i (bare t)) j ≡ Some q → (j ≡ i) × (bare t ≡ q)
  one_there j q at_j = ⊎_elim
      (λ (s : (j ≡ i) × (bare t ≡ q)). s)
      (λ s. absurd (none-some q (sym (at-none j) ∙ s.1)))
      (found_put [] i (bare t) j q at_j)

  alone_ascends : Ascends (put [] i (bare t))
  unfolding Ascends
  alone_ascends = ascends-put i (bare t) [] tt

  pub end_to : calm_facts.EndOk (calm_of h) n (alone_in node.end i t)
  end_to = record {
    node = both_ok.0.node;
    number = both_ok.0.number;
    lns = both_ok.0.lns;
    first = k.fit.tables.first_tunnel;
    last = (let is = k.fit.tunnel_ids.last in omega (arith, is));
    first_session = k.fit.tables.first_session;
    last_session = (let is = k.fit.session_ids.last in omega (arith, is));
    order = alone_ascends;
    drawn = λ j made. both_ok.0.ids.tunnels j (λ none. made (ap calm_part none));
    live = λ j q at_j. (let s = one_there j q at_j in
        subst (λ z. calm_facts.LiveOk (calm_of h) n z (calm_of h n z) q) (sym s.0)
        (subst (calm_facts.LiveOk (calm_of h) n i (calm_of h n i)) s.1 live_bare));
    apart = λ j z p q at_j at_z peer remote some. (one_there j p at_j).0 ∙ sym (one_there z q at_z).0;
  }

  -- what comes asks for no sessions: the letters of epoch 0 don't
  pub none_asked : (letter : Came) → ComesTo ev t.control letter → (pairs : List Pair) → message_in letter.body ≡ Ok (Fsq pairs) → ⊥
  none_asked letter to pairs said =
      none_asks_for_sessions codecs (calm_of h) n (alone_in node.end i t) sender ev
      (record { accounts = accounts_to; end = end_to; comes = comes_zero letter to })
      letter.peer letter.header.session pairs (record {
        letter = letter;
        came = to.came;
        peer_is = refl;
        says = record { session_is = refl; said = said };
      })

  module _ (main : IsMain m) (plain : IsPlainDeed d) (v : World) (v_is : moves_on w n node m x ≡ v) (alike : IsAlike w v n node x)
      (comes : calm_facts.Comes (calm_of h) n (alone_in node.end (about m) t) sender ev)
      (x0 : End) (does : Does (alone_in node.end (about m) t) moment ev m x0) (u : Tunnel) (at_u : at x0.tunnels (about m) ≡ Some (bare u)) where
    moved_to : calm_facts.Within (calm_steps.after (calm_of h) d) n x0 sender ev
    moved_to = laws (calm_of h) n (alone_in node.end i t) x0 sender moment ev m d (record {
      within = record { accounts = accounts_to; end = end_to; comes = comes };
      numbers = λ j q at_j. (let s = one_there j q at_j in subst (λ (y : Tunnel). y.control.channel.window.acked + 8192 < 2 ^ 64) s.1 (k.numbers i t there current));
      counts = λ j q at_j. (let s = one_there j q at_j in subst (λ (y : Tunnel). y.control.channel.inbox.taken + 1 < 2 ^ 64) s.1 (k.counts i t there current));
      does = does;
      main = main;
      deed = k.deed;
    })

    epoch_zero : d.epoch ≡ 0
    epoch_zero = k.epoch ∙ (ap (λ q. epoch_of q n i) v_is ∙ (ap (λ (s : Standing). s.epoch) (alike.standings n i) ∙ zero))

    module _ (flat : (y : Account) → calm_account (entered_by d m y) ≡ calm.entered_by d m (calm_account y)) where
      flat_deed : (y : Account) → calm_account (entered_by d d.move y) ≡ calm.entered_by d d.move (calm_account y)
      flat_deed y = subst (λ q. calm_account (entered_by d q y) ≡ calm.entered_by d q (calm_account y)) (sym k.deed.move_is) (flat y)

      by_place : (p j : ℕ) → calm.after_deed d p j (calm_account (h.accounts p j 0)) ≡ calm_account ((after h d).accounts p j 0)
      by_place p j =
          let y = h.accounts p j 0 in
          let here_so = (d.node == p) && (about d.move == j) in
          ap (λ b. calm.declined_in b (if here_so then calm.entered_by d d.move (calm_account y) else calm_account y)) (plain.declines p j)
          ∙ (by here_so
          ∙ ap (λ b. calm_account (declined_in (b && (0 == 0)) (if here_so && (d.epoch == 0) then entered_by d d.move y else y))) (sym (plain.declines p j)))
        where
          by : (b : Bool) → (if b then calm.entered_by d d.move (calm_account (h.accounts p j 0)) else calm_account (h.accounts p j 0))
              ≡ calm_account (if b && (d.epoch == 0) then entered_by d d.move (h.accounts p j 0) else h.accounts p j 0)
          by true = sym (flat_deed (h.accounts p j 0)) ∙ ap (λ b. calm_account (if b then entered_by d d.move (h.accounts p j 0) else h.accounts p j 0)) (sym (eq-eqb d.epoch 0 epoch_zero))
          by false = refl

      same_after : calm_steps.after (calm_of h) d ≡ calm_of (after h d)
      same_after = λ z p j. by_place p j z

      accounts_then : (p j : ℕ) → calm_facts.AccountOk (calm_of (after h d)) p j (calm_of (after h d) p j)
      accounts_then = subst (λ f. (p j : ℕ) → calm_facts.AccountOk f p j (f p j)) same_after moved_to.accounts

      live_then : calm_facts.LiveOk (calm_of (after h d)) n i (calm_of (after h d) n i) (bare u)
      live_then = subst (λ f. calm_facts.LiveOk f n i (f n i) (bare u)) same_after (moved_to.end.live i (bare u) at_u)

      -- ---- what is known then

      module _ (extends : Extends (h.accounts n (about m) 0) (entered_by d m (h.accounts n (about m) 0)))
          (undeclined : (entered_by d m (h.accounts n (about m) 0)).declined ≡ (h.accounts n (about m) 0).declined)
          (late_so : ((h.accounts n (about m) 0).remote ≡ 0 → ⊥) → (entered_by d m (h.accounts n (about m) 0)).closed ≡ Some 0 → (h.accounts n (about m) 0).closed ≡ Some 0)
          (puts : Puts node.end x (about m) u) (ids_same : x.tunnel_ids ≡ node.end.tunnel_ids) (recovery : u.recovery ≡ t.recovery)
          (query : u.query ≡ t.query)
          (early_so : state_number u.control.state < 3 → state_number t.control.state < 3) where
        new_is : (after h d).accounts n i 0 ≡ entered_by d m a
        new_is = becomes_so h d n i 0 (entered_by d m a) k.deed.node_is (ap about k.deed.move_is) epoch_zero (ap (λ q. entered_by d q a) k.deed.move_is) plain

        pub only : IsOnly h (after h d) n (about m) 0
        only = only_so h d n i 0 (entered_by d m a) k.deed.node_is (ap about k.deed.move_is) epoch_zero (ap (λ q. entered_by d q a) k.deed.move_is) plain extends
            (λ lt. let none : ⊥ = omega (arith, lt) in absurd none)

        abbrev b : Account
        b = (after h d).accounts n (about m) 0

        grown : Extends a b
        grown = subst (Extends a) (sym new_is) extends

        pub made : IsMade ((after h d).accounts n (about m) 0)
        made = made_on a b grown live_zero.made

        unrenewed : b.part ≡ Renewed → ⊥
        unrenewed is = none_renewed n i (sym (part_on a b grown live_zero.made) ∙ is)

        pub account : AccountOk v (after h d) n (about m) 0 ((after h d).accounts n (about m) 0)
        account = account_from w h n i ok v (after h d) made (accounts_then n i) unrenewed (grown.first_given ∙ from_none.0) (grown.first_taken ∙ from_none.1)
            (λ is. part_on a b grown live_zero.made ∙ (ok.declined (sym undeclined ∙ (ap (λ (y : Account). y.declined) (sym new_is) ∙ is))).1)

        joined : StaysJoined (after h d) n i b
        joined own named =
            let acceptor : IsAcceptor (after h d).accounts n i b = (subst (IsPart v (after h d) n i 0 b) own account.part).1 in
            let p = partner_in (after h d).accounts 0 b in
            let opener = subst (calm_facts.IsPart (calm_of (after h d)) b.peer b.remote (calm_account p)) (ap calm_part acceptor.part) (accounts_then b.peer b.remote).part in
            let some = account.some made in
            let its = (opener_from (after h d) b.peer b.remote p opener).joined (λ z. let none : ⊥ = omega (arith, z, named, some) in none) in
            subst (AreJoined p) (ap₂ (λ y z. (after h d).accounts y z 0) acceptor.peer named) its

        late : ◌≡◌ {A = ℕ} 0 0 → ((h.accounts n i 0).remote ≡ 0 → ⊥) → ((after h d).accounts n i 0).closed ≡ Some 0 → (h.accounts n i 0).closed ≡ Some 0
        late zero_ known closed = late_so known (ap (λ (y : Account). y.closed) (sym new_is) ∙ closed)

        -- one that has learned none waits, or is closed
        settled : ◌≡◌ {A = ℕ} 0 0 → (h.accounts n i 0).remote ≡ 0
            → ((((after h d).accounts n i 0).remote ≡ 0) × (((after h d).accounts n i 0).closed ≡ Some 0 → (h.accounts n i 0).closed ≡ Some 0))
            ⊎ IsUnbooked h n i node.checkpoint.book
        settled zero_ none = by a.part refl channel_zero.state
          where
            waits : state_number t.control.state < 3 → IsUnbooked h n i node.checkpoint.book
            waits early = record {
              book = λ q is. none-some q (sym (k.unbooked i t there early) ∙ is);
              attempts = live_zero.unattempted early;
            }

            shut : IsClosed a → (b.remote ≡ 0) × (b.closed ≡ Some 0 → a.closed ≡ Some 0)
            shut closed = (
              ⊎_elim (λ q. absurd (none-some closed.0 (sym q.0 ∙ closed.1))) (λ same. same ∙ none) grown.remote,
              λ is. ⊎_elim (λ q. absurd (none-some closed.0 (sym q ∙ closed.1))) (λ same. sym same ∙ is) grown.closed,
            )

            by : (p : Part) → a.part ≡ p → IsInState h.accounts i 0 a t a.part
                → ((b.remote ≡ 0) × (b.closed ≡ Some 0 → a.closed ≡ Some 0)) ⊎ IsUnbooked h n i node.checkpoint.book
            by Unmade own state = absurd (live_zero.made own)
            by Opener own state = ⊎_elim
                (λ (q : (state_number t.control.state ≡ 1) × (a.remote ≡ 0) × IsOpen a × AllWait t.calls). inr (waits (let one = q.0 in omega (arith, one))))
                (λ r. ⊎_elim
                (λ (q : (state_number t.control.state ≡ 3) × (a.remote ≡ 0 → ⊥) × IsOpen a). absurd (q.1 none))
                (λ (q : IsShut a t). inl (shut q.1)) r)
                (subst (IsInState h.accounts i 0 a t) own state)
            by Acceptor own state = absurd ((acceptor_of w h n i 0 a ok own).1.known none)
            by Renewed own state = absurd (none_renewed n i own)

        epoch_there : epoch_of v n i ≡ 0
        epoch_there = ap (λ (s : Standing). s.epoch) (alike.standings n i) ∙ zero

        current_there : is_current (mode_of u.recovery) ≡ true
        current_there = ap (λ r. is_current (mode_of r)) recovery ∙ current

        live_on : LiveOk v (after h d) n i u
        live_on = record {
          local = live_then.local;
          made = made;
          peer = live_then.peer;
          channel = λ is. subst (λ e. ChannelOk (after h d).accounts n i e ((after h d).accounts n i e) u) (sym epoch_there)
              (live_from (after h d) n i u (grown.first_given ∙ from_none.0) (grown.first_taken ∙ from_none.1) live_then);
          kept = λ is. ap (λ (s : Standing). s.lost) (alike.standings n i) ∙ live_zero.kept current;
          established = λ is. absurd (true≢false (sym current_there ∙ is));
          some = λ is. absurd (true≢false (sym current_there ∙ is));
          knows = λ is. absurd (true≢false (sym current_there ∙ is));
          learned = λ is. absurd (true≢false (sym current_there ∙ is));
          recovery = λ r is. recovered_later w v h (after h d) n i 0 only k.holds node x alike late settled k.there joined account n i live_zero.made r (live_zero.recovery r (sym recovery ∙ is));
          unattempted = λ early q r is. live_zero.unattempted (early_so early) q r (sym (only.attempts n q) ∙ is);
          calls = live_then.calls;
          query = subst (λ (q : Asking). QueryOk (epoch_of v n i) q) (sym query)
              (subst (λ e. QueryOk e t.query) (sym (ap (λ (s : Standing). s.epoch) (alike.standings n i))) live_zero.query);
        }

        ids_on : IdsOk (after h d) n x
        ids_on =
            let ids = both_ok.0.ids in
            let next = ap (λ (s : Space). s.next) ids_same in
            record {
              tunnels = λ j was. (let lt = ids.tunnels j (made_before j was) in omega (arith, lt, next));
              attempts = λ c is. (let lt = ids.attempts c (ap is_some (sym (only.attempts n c)) ∙ is) in omega (arith, lt, next));
              answers = λ c is. (let lt = ids.answers c (ap is_some (sym (only.answers n c)) ∙ is) in omega (arith, lt, next));
              no_attempt = λ j was. only.attempts n j ∙ ids.no_attempt j (made_before j was);
              no_answer = λ j was. only.answers n j ∙ ids.no_answer j (made_before j was);
              one = λ c is. only.answers n c ∙ ids.one c (ap is_some (sym (only.attempts n c)) ∙ is);
            }
          where
            made_before : (j : ℕ) → IsMade ((after h d).accounts n j 0) → IsMade (h.accounts n j 0)
            made_before j was = ⊎_elim
                (λ (same : j ≡ i). subst (λ z. IsMade (h.accounts n z 0)) (sym same) live_zero.made)
                (λ (o : j ≡ i → ⊥). subst IsMade (only.others n j 0 (λ (q : (n ≡ n) × (j ≡ i) × (0 ≡ 0)). o q.1)) was)
                (same_or_not j i)

        pub remote_first : u.control.remote ≡ ((after h d).accounts n (about m) 0).remote
        remote_first = live_then.remote

        pub live_first : LiveOk v (after h d) n (about m) u
        live_first = live_on

        pub first_holds : IsAlone w v h (after h d) n node.end x both_ok.0 (about m) u puts → Holds (moves_on w n node m x) (after h d)
        first_holds alone = subst (λ q. Holds q (after h d)) (sym v_is)
            (holds_later w v h (after h d) n i 0 only k.holds node x alike late settled k.there joined account
            (put_end_apart w v h (after h d) n node.end x both_ok.0 i u puts ids_on
            (λ j q o was. live_later w v h (after h d) n i 0 only k.holds node x alike late settled k.there joined account n j (λ z. o z.1) q (both_ok.0.live j q was))
            live_on alone))
