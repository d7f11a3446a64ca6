-- A session that carries frames is that of a call in the book of its node, and each call of the book is so seen.
use Rattle.std.proofs.Common.{◌≡◌, ◌⊎◌, inl, inr, ⊎_elim, ℕ, Bool, true, false, List, length, Option, Some, None, refl, sym, ap, ap₂, ◌∙◌}
use Rattle.std.proofs.Common.{subst}
use Rattle.std.proofs.lemmas.Option.{none-some}
use Rattle.id_table.specs.Ids.{at, at-none}
use Rattle.session_book.specs.declared.record.BookCall.{BookCall}
use Rattle.session_book.specs.Books.{Kept, call_at}
use Rattle.call_fsm.specs.declared.table.CallState.{CallState}
use Rattle.call_fsm.specs.declared.table.CallState.TheVariants.{Idle, WaitTunnel, WaitReply, WaitConnect, Established}
use Rattle.call_link.specs.Link.{Link}
use Rattle.wire_base.specs.declared.letter.Side.{Side}
use Rattle.wire_base.specs.declared.why.Why.TheVariants as why
use Rattle.l2tp_header.specs.declared.header.Header.{Header}
use Rattle.session_looks.specs.Frames.{Upward, Dropped, side_of, is_for_lcp, carry_known, carry_look}
use Rattle.session_looks.specs.declared.look.Look.{Look}
use Rattle.session_looks.specs.declared.look.Look.TheVariants as look
use Rattle.tunnel_fsm.specs.Rows.{state_number}
use Rattle.end_names.specs.declared.role.Role.{Role}
use Rattle.end_names.specs.declared.role.Role.TheVariants.{Lac, Lns}
use Rattle.end_model.specs.declared.tunnel.Call.{Call}
use Rattle.end_model.specs.declared.tunnel.CallPlace.{CallPlace}
use Rattle.end_model.specs.Calls.{is_up}
use Rattle.end_model.specs.Links.{is_passing}
use Rattle.end_model.specs.Tunnels.{Tunnel}
use Rattle.end_model.specs.End.{End, look_in}
use Rattle.std.specs.Prelude.{nat_lt, not, ◌==◌, ◌||◌, if◌then◌else◌}
use Rattle.step_laws.specs.Left.{CanBe, AreSound, CallsStaySound}
use Rattle.step_laws.specs.Looks.{look_by, look_in_state, look_of, LinkFits, LooksAreTrue}
use Rattle.step_laws.specs.Starts.{StartsAreAllowed}
use Rattle.book_laws.specs.Books.{Mirrors, Fits, booked_control, booked_call, call_record, record_in, tunnel_record}
use Rattle.book_laws.proofs.Changes.{up_record}
use Rattle.book_laws.proofs.States.{up_state}
use Rattle.node_laws.specs.Nodes.{NodesOfRuns, StaysSo, PropertiesOfRuns}
use Rattle.fact_laws.specs.Cells.{IsSeen, IsInBook, CellsAreBooked}

-- ---- looks

-- what is seen tells the tunnel and the peer
abbrev Tells : ℕ → ℕ → Look → Type 0
Tells i q (look.Established tunnel peer) = (i ≡ tunnel) × (q ≡ peer)
Tells i q (look.Bound tunnel peer) = (i ≡ tunnel) × (q ≡ peer)
Tells i q look.Unborn = Unit {0}
Tells i q look.Dead = Unit {0}

told : (s : CallState) (l : Option Link) (i q : ℕ) → Tells i q (look_in_state s l i q)
told Idle l i q = tt
told WaitTunnel l i q = tt
told WaitReply l i q = (refl, refl)
told WaitConnect l i q = tt
told Established l i q = by (is_passing l)
  where
    by : (b : Bool) → Tells i q (look_by b i q)
    by true = (refl, refl)
    by false = (refl, refl)

-- where frames pass the call is established, and so it is at an LNS where only those of LCP do
passing_up : (s : CallState) (l : Option Link) (i q tunnel peer : ℕ)
    → look_in_state s l i q ≡ look.Established tunnel peer → is_up s ≡ true
passing_up Idle l i q tunnel peer h = absurd cc
passing_up WaitTunnel l i q tunnel peer h = absurd cc
passing_up WaitReply l i q tunnel peer h = absurd cc
passing_up WaitConnect l i q tunnel peer h = absurd cc
passing_up Established l i q tunnel peer h = refl

bound_up : (s : CallState) (l : Option Link) (i q tunnel peer : ℕ) → CanBe Lns s
    → look_in_state s l i q ≡ look.Bound tunnel peer → is_up s ≡ true
bound_up Idle l i q tunnel peer can h = absurd can
bound_up WaitTunnel l i q tunnel peer can h = absurd can
bound_up WaitReply l i q tunnel peer can h = absurd can
bound_up WaitConnect l i q tunnel peer can h = absurd cc
bound_up Established l i q tunnel peer can h = refl

-- ---- frames that are carried up

-- where a frame is carried up, in the tunnel and from the peer that are seen, all frames pass, or it is one of LCP at an LNS
known_upward : (role : Role) (up : Bool) (tunnel of peer from : ℕ) (frame : List ℕ) (t p : ℕ) (side : Side) (g : List ℕ)
    → carry_known role up tunnel of peer from frame ≡ Upward t p side g → (tunnel ≡ t) × (peer ≡ p) × (up || is_for_lcp role frame ≡ true)
unfolding carry_known
known_upward role up tunnel of peer from frame t p side g h =
    by (not (tunnel == of)) (not (peer == from)) (nat_lt (length frame) 2) (up || is_for_lcp role frame) refl h
  where
    by : (a b c d : Bool) → up || is_for_lcp role frame ≡ d
        → (if a then Dropped why.Tunnel else if b then Dropped why.Peer else if c then Dropped why.Short
        else if d then Upward tunnel peer (side_of role frame) frame else Dropped why.Closed) ≡ Upward t p side g
        → (tunnel ≡ t) × (peer ≡ p) × (up || is_for_lcp role frame ≡ true)
    by true b c d is h = absurd cc
    by false true c d is h = absurd cc
    by false false true d is h = absurd cc
    by false false false false is h = absurd cc
    by false false false true is h = (cc, cc, is)

is_lns : (role : Role) (frame : List ℕ) → is_for_lcp role frame ≡ true → role ≡ Lns
is_lns Lac frame h = absurd cc
is_lns Lns frame h = refl

carries_up : (role : Role) (l : Look) (from : ℕ) (h : Header) (frame : List ℕ) (t p : ℕ) (side : Side) (g : List ℕ)
    → carry_look role l from h frame ≡ Upward t p side g → (l ≡ look.Established t p) ⊎ ((role ≡ Lns) × (l ≡ look.Bound t p))
unfolding carry_look
carries_up role look.Unborn from h frame t p side g is = absurd cc
carries_up role look.Dead from h frame t p side g is = absurd cc
carries_up role (look.Bound tunnel peer) from h frame t p side g is =
    let k = known_upward role false tunnel h.tunnel peer from frame t p side g is in
    inr (is_lns role frame k.2, ap₂ (λ i q. look.Bound i q) k.0 k.1)
carries_up role (look.Established tunnel peer) from h frame t p side g is =
    let k = known_upward role true tunnel h.tunnel peer from frame t p side g is in
    inl (ap₂ (λ i q. look.Established i q) k.0 k.1)

-- ---- an end and its book

module _ (e : End) (k : Kept) (looks : LooksAreTrue e) (fit : Fits e) (mirrors : Mirrors e k) (sound : AreSound e) where
  -- a call that is established is in the book, in its tunnel
  up_booked : (i : ℕ) (t : Tunnel) → at e.tunnels i ≡ Some t → (s : ℕ) (c : Call) → at t.calls s ≡ Some c
      → is_up c.state ≡ true → IsInBook k s i t.control.peer
  up_booked i t there s c live up =
      let three = ((fit.tables.tunnels i t there).calls s c live).up up in
      record {
        call = booked_call i s c;
        there = mirrors.all_calls i s (booked_call i s c) (ap (record_in i s) there ∙ (ap (call_record i s) live ∙ up_record i s c up));
        of_tunnel = refl;
        home = booked_control i t.control;
        booked = mirrors.tunnels i ∙ (ap (tunnel_record i) there ∙ open_record three);
        peer_is = refl;
      }
    where
      open_record : state_number t.control.state ≡ 3 → tunnel_record i (Some t) ≡ Some (booked_control i t.control)
      open_record three = ap (λ (n : ℕ). if (n == 3) then Some (booked_control i t.control) else None) three

  -- what is seen of a session that has a place is so of its call
  module _ (s tunnel peer : ℕ) (p : CallPlace) (there : at e.calls s ≡ Some p) where
    home : (t : Tunnel) × (at e.tunnels p.tunnel ≡ Some t)
        × ((c : Call) × (at t.calls s ≡ Some c) × (look_in (at e.calls s) ≡ look_of c p.tunnel t.control.peer))
    home =
        let l = looks.live s p there in
        (l.tunnel, l.there, (l.call, l.live, ap look_in (looks.seen p.tunnel l.tunnel l.there s l.call l.live)))

    in_place : IsSeen e s tunnel peer → IsInBook k s tunnel peer
    in_place seen =
        let h = home in
        let t = h.0 in
        let c = h.2.0 in
        ⊎_elim
        (λ (est : look_in (at e.calls s) ≡ look.Established tunnel peer).
        let is : look_of c p.tunnel t.control.peer ≡ look.Established tunnel peer = sym h.2.2 ∙ est in
        let same : (p.tunnel ≡ tunnel) × (t.control.peer ≡ peer) =
        subst (Tells p.tunnel t.control.peer) is (told c.state c.link p.tunnel t.control.peer) in
        moved same (up_booked p.tunnel t h.1 s c h.2.1 (passing_up c.state c.link p.tunnel t.control.peer tunnel peer is)))
        (λ (bound : (e.role ≡ Lns) × (look_in (at e.calls s) ≡ look.Bound tunnel peer)).
        let is : look_of c p.tunnel t.control.peer ≡ look.Bound tunnel peer = sym h.2.2 ∙ bound.1 in
        let same : (p.tunnel ≡ tunnel) × (t.control.peer ≡ peer) =
        subst (Tells p.tunnel t.control.peer) is (told c.state c.link p.tunnel t.control.peer) in
        let can : CanBe Lns c.state = subst (λ r. CanBe r c.state) bound.0 (sound p.tunnel t h.1 s c h.2.1).1 in
        moved same (up_booked p.tunnel t h.1 s c h.2.1 (bound_up c.state c.link p.tunnel t.control.peer tunnel peer can is)))
        seen
      where
        moved : {i q : ℕ} → (i ≡ tunnel) × (q ≡ peer) → IsInBook k s i q → IsInBook k s tunnel peer
        moved {i} {q} same b = subst (λ j. IsInBook k s j peer) same.0 (subst (λ o. IsInBook k s i o) same.1 b)

  none_seen : (s tunnel peer : ℕ) → at e.calls s ≡ None → IsSeen e s tunnel peer → ⊥
  none_seen s tunnel peer none seen = ⊎_elim
      (λ (est : look_in (at e.calls s) ≡ look.Established tunnel peer).
      let no_look : look.Unborn ≡ look.Established tunnel peer = sym (ap look_in none) ∙ est in absurd cc)
      (λ (bound : (e.role ≡ Lns) × (look_in (at e.calls s) ≡ look.Bound tunnel peer)).
      let no_look : look.Unborn ≡ look.Bound tunnel peer = sym (ap look_in none) ∙ bound.1 in absurd cc)
      seen

  seen_booked : (s tunnel peer : ℕ) → IsSeen e s tunnel peer → IsInBook k s tunnel peer
  seen_booked s tunnel peer seen = by (at e.calls s) refl
    where
      by : (o : Option CallPlace) → at e.calls s ≡ o → IsInBook k s tunnel peer
      by None none = absurd (none_seen s tunnel peer none seen)
      by (Some p) there = in_place s tunnel peer p there seen

  -- a call of the book is seen: where its tunnel goes, and at an LNS also as one in which LCP wasn't open yet
  seen_by : (r : Role) (s i q : ℕ) (c : Call) → e.role ≡ r → c.state ≡ Established → LinkFits r c.state c.link
      → look_in (at e.calls s) ≡ look_of c i q → IsSeen e s i q
  seen_by Lac s i q c role up links seen =
      let none : c.link ≡ None = subst (λ (x : CallState). LinkFits Lac x c.link) up links in
      inl (seen ∙ (ap (λ (x : CallState). look_in_state x c.link i q) up ∙ ap (λ (l : Option Link). look_by (is_passing l) i q) none))
  seen_by Lns s i q c role up links seen = by (is_passing c.link) refl
    where
      is : look_in (at e.calls s) ≡ look_by (is_passing c.link) i q
      is = seen ∙ ap (λ (x : CallState). look_in_state x c.link i q) up

      by : (b : Bool) → is_passing c.link ≡ b → IsSeen e s i q
      by true passes = inl (is ∙ ap (λ b. look_by b i q) passes)
      by false waits = inr (role, is ∙ ap (λ b. look_by b i q) waits)

  booked_seen : (s : ℕ) (b : BookCall) → call_at k s ≡ Some b → (peer : ℕ) × IsSeen e s b.tunnel peer
  booked_seen s b had = by (at e.tunnels b.tunnel) refl (mirrors.calls s b had)
    where
      by : (o : Option Tunnel) → at e.tunnels b.tunnel ≡ o → record_in b.tunnel s o ≡ Some b → (peer : ℕ) × IsSeen e s b.tunnel peer
      by None there h = absurd (none-some b h)
      by (Some t) there h = by_call (at t.calls s) refl h
        where
          by_call : (d : Option Call) → at t.calls s ≡ d → call_record b.tunnel s d ≡ Some b → (peer : ℕ) × IsSeen e s b.tunnel peer
          by_call None live g = absurd (none-some b g)
          by_call (Some c) live g = by_state (is_up c.state) refl g
            where
              by_state : (u : Bool) → is_up c.state ≡ u → (if u then Some (booked_call b.tunnel s c) else None) ≡ Some b
                  → (peer : ℕ) × IsSeen e s b.tunnel peer
              by_state false down f = absurd (none-some b f)
              by_state true up f = (
                t.control.peer,
                seen_by e.role s b.tunnel t.control.peer c refl (up_state c.state up) (looks.links b.tunnel t there s c live)
                    (ap look_in (looks.seen b.tunnel t there s c live)),
              )

-- ---- runs

-- each call of each end of a run is in a state that one of the end's role can be in
sound_so : CallsStaySound → StartsAreAllowed → StaysSo AreSound
sound_so stay starts = record {
  new = λ r c i t there. absurd (none-some t (sym (at-none i) ∙ there));
  bare = λ r c k sound i t there. absurd (none-some t (sym (at-none i) ∙ there));
  starts_so = λ r c k sound suits moment block. (starts r c k sound moment block).sound;
  stays = λ e kept looks fit sound moment block ev. stay e kept sound moment block ev;
}

pub cells_are_booked : NodesOfRuns → PropertiesOfRuns → CallsStaySound → StartsAreAllowed → CellsAreBooked
cells_are_booked nodes properties stay allowed lines fits n node there up =
    let u = (nodes lines fits n node there).up up in
    let sound = properties AreSound (sound_so stay allowed) lines fits n node there in
    let e = node.end in
    let k = node.checkpoint.book in
    record {
      seen = λ s tunnel peer seen. seen_booked e k u.looks u.fit u.book.mirrors sound s tunnel peer seen;
      booked = λ s c had. booked_seen e k u.looks u.fit u.book.mirrors sound s c had;
      carried = λ from h frame tunnel peer side up_frame is.
          seen_booked e k u.looks u.fit u.book.mirrors sound h.session tunnel peer
          (carries_up e.role (look_in (at e.calls h.session)) from h frame tunnel peer side up_frame is);
    }
