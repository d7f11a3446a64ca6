-- A letter that an established tunnel takes plainly is counted in the machine, and no call is another one there.
use Rattle.std.proofs.Common.{◌≡◌, ◌≢◌, ⊎_elim, ℕ, zero, suc, ◌<◌, Bool, true, false, cond, eqb, ◌&&◌, refl, sym, ap, ap₂, ◌∙◌, subst, Option, Some, None, arith}
use Rattle.std.proofs.lemmas.Bool.{eqb-true}
use Rattle.std.proofs.lemmas.Option.{none-some, same_Some}
use Rattle.std.specs.Prelude.{◌==◌, is_some, slice_get}
use Rattle.id_table.specs.Ids.{at}
use Rattle.id_table.specs.Order.{same_or_not}
use Rattle.session_book.specs.declared.record.BookCall.{BookCall}
use Rattle.session_book.specs.Books.{Kept, call_at}
use Rattle.control_message.specs.declared.message.Message.{Message}
use Rattle.control_message.specs.declared.message.Message.TheVariants as message
use Rattle.tunnel_fsm.specs.Rows.{state_number}
use Rattle.end_model.specs.declared.event.Event.{Event}
use Rattle.end_model.specs.declared.moves.Move.{Move}
use Rattle.end_model.specs.declared.tunnel.Call.{Call}
use Rattle.end_model.specs.Asking.{session_named}
use Rattle.end_model.specs.Moments.{is_closed}
use Rattle.end_model.specs.Tunnels.{Tunnel}
use Rattle.end_model.specs.End.{End}
use Rattle.world_model.specs.World.{World, Node, Sender, Deed}
use Rattle.step_laws.specs.Moves.{IsPlain}
use Rattle.epoch_machine.specs.Letters.{Letter, Sccrq, Hello, Request, Reply, Connect, Cdn}
use Rattle.epoch_machine.specs.Tunnels.{Open, is_open}
use Rattle.epoch_machine.specs.Calls.{Calls, CallState, NoCall, Waits, WaitsReply, WaitsConnect, Up, lives, waits_reply, waits_connect, ends, is_named}
use Rattle.epoch_machine.specs.Worlds as machine
use Rattle.epoch_machine.specs.Worlds.{all_rules, took_one, takes, takes_open, answers_request, takes_reply, takes_connect, takes_cdn}
use Rattle.birth_laws.specs.Births.{BirthsOfRuns}
use Rattle.connection_laws.proofs.Alike.{IsNoRequest}
use Rattle.session_laws.specs.Names.{name, name_of, spoken, state_of}
use Rattle.session_laws.proofs.Alike.{IsSized}
use Rattle.session_laws.proofs.CallLaws.{WorldHolds, world_holds, waits_unnamed, Named, ByHeader, ByRemote, named_tells}
use Rattle.session_laws.proofs.CallNamed.{no_header, some_header, named_by_header, named_by_remote}
use Rattle.session_laws.proofs.CallRows.{no_first, no_second, no_end}
use Rattle.session_laws.proofs.Entering.{either_way}
use Rattle.session_laws.proofs.Names.{same_name, name_not_zero, known_name}
use Rattle.channel_laws.specs.Accounts.{History}
use Rattle.recovery_laws.specs.Joined.{CallJoined, CallsJoined}
use Rattle.join_laws.specs.Steps as steps
use Rattle.join_laws.specs.Steps.{with_book}
use Rattle.join_laws.proofs.Ahead.{nodes_hold}
use Rattle.join_laws.proofs.Apart.{elsewhere}
use Rattle.join_laws.proofs.Books.{booked}
use Rattle.join_laws.proofs.CallMoves.{with_calls}
use Rattle.join_laws.proofs.Calls.{booked_live}
use Rattle.join_laws.proofs.Made as made
use Rattle.join_laws.proofs.OneTunnel.{CallStays}
use Rattle.join_laws.proofs.Turning.{fits_role}

-- ---- in the machine

-- what it does with such a letter: it counts it, and no call looks otherwise
pub record PlainTakes (w : machine.World) (x s : ℕ) (l : Letter) : Type 0 where
  pub calls : Calls
  pub is : takes all_rules (took_one w x) x s l 0 ≡ with_calls w x calls
  pub stays : (y : ℕ) → CallStays w (with_calls w x calls) y
  pub drawn : calls.drawn ≡ w.calls.drawn
  pub asks : (y z : ℕ) → calls.asks y z ≡ w.calls.asks y z
  pub held : (y f z : ℕ) → calls.held y f z ≡ w.calls.held y f z
  pub births : (calls.births ≡ w.calls.births) × ((y : ℕ) → calls.birth y ≡ w.calls.birth y)

ignored : (w : machine.World) (x s : ℕ) (l : Letter) → takes all_rules (took_one w x) x s l 0 ≡ took_one w x → PlainTakes w x s l
unfolding took_one
ignored w x s l h = record {
  calls = w.calls;
  is = h;
  stays = λ y. record { drawn = refl; tunnel = refl; state = refl; remote = refl; booked = refl };
  drawn = refl;
  asks = λ y z. refl;
  held = λ y f z. refl;
  births = (refl, λ y. refl);
}

plain_sccrq : (w : machine.World) (x s : ℕ) → takes all_rules w x s Sccrq 0 ≡ w
unfolding takes takes_open
plain_sccrq w x s = either_way (is_open (w.tunnels.phase x)) w

plain_hello : (w : machine.World) (x s : ℕ) → takes all_rules w x s Hello 0 ≡ w
unfolding takes takes_open
plain_hello w x s = either_way (is_open (w.tunnels.phase x)) w

-- a request without a name for a new call is ignored
plain_request : (w : machine.World) (x s own : ℕ) → takes all_rules w x s (Request own) 0 ≡ w
unfolding takes takes_open answers_request
plain_request w x s own = either_way (is_open (w.tunnels.phase x)) w

both_false : (a b : ℕ) (t : Bool) → (a ≡ b → t ≡ false) → ((a == b) && t) ≡ false
both_false a b t h = by (eqb a b) refl
  where
    by : (is : Bool) → eqb a b ≡ is → (is && t) ≡ false
    by true is = h (eqb-true a b is)
    by false is = refl

-- a call that isn't this tunnel's, or waits for nothing, is as it was
plain_reply : (w : machine.World) (x s own z : ℕ) → (w.calls.tunnel z ≡ x → waits_reply (w.calls.state z) ≡ false)
    → takes all_rules (took_one w x) x s (Reply own z) 0 ≡ took_one w x
unfolding takes took_one takes_open takes_reply
plain_reply w x s own z h =
    rw (both_false (w.calls.tunnel z) x (waits_reply (w.calls.state z)) h) (either_way (is_open (w.tunnels.phase x)) (took_one w x))

plain_connect : (w : machine.World) (x s z : ℕ) → (w.calls.tunnel z ≡ x → waits_connect (w.calls.state z) ≡ false)
    → takes all_rules (took_one w x) x s (Connect z) 0 ≡ took_one w x
unfolding takes took_one takes_open takes_connect
plain_connect w x s z h =
    rw (both_false (w.calls.tunnel z) x (waits_connect (w.calls.state z)) h) (either_way (is_open (w.tunnels.phase x)) (took_one w x))

-- a CDN ends no call that lives, or is in the book
plain_cdn : (w : machine.World) (x s own z : ℕ) → w.tunnels.phase x ≡ Open
    → ((y : ℕ) → is_named w.calls x own z y ≡ true → (w.calls.state y ≡ NoCall) × (w.calls.booked y ≡ false))
    → PlainTakes w x s (Cdn own z)
unfolding takes took_one takes_open takes_cdn ends
plain_cdn w x s own z open_is gone = record {
  calls = ends w.calls (is_named w.calls x own z);
  is = rw open_is refl;
  stays = λ y. record {
    drawn = refl;
    tunnel = refl;
    state = by_state (is_named w.calls x own z y) (w.calls.state y) (λ is. (gone y is).0);
    remote = refl;
    booked = by_booked (is_named w.calls x own z y) (w.calls.booked y) (λ is. (gone y is).1);
  };
  drawn = refl;
  asks = λ y k. refl;
  held = λ y f k. refl;
  births = (refl, λ y. refl);
}
  where
    by_state : (b : Bool) (s : CallState) → (b ≡ true → s ≡ NoCall) → cond b NoCall s ≡ s
    by_state true s h = sym (h refl)
    by_state false s h = refl

    by_booked : (b s : Bool) → (b ≡ true → s ≡ false) → cond b false s ≡ s
    by_booked true s h = sym (h refl)
    by_booked false s h = refl

no_life : (s : CallState) → (lives s ≡ true → ⊥) → s ≡ NoCall
no_life NoCall none = refl
no_life Waits none = absurd (none refl)
no_life WaitsReply none = absurd (none refl)
no_life WaitsConnect none = absurd (none refl)
no_life Up none = absurd (none refl)

not_so : (b : Bool) → (b ≡ true → ⊥) → b ≡ false
not_so true none = absurd (none refl)
not_so false none = refl

-- what has a name has an id
known_some : (n i own : ℕ) → own ≢ 0 → name_of n i ≡ own → 0 < i
known_some n zero own some is = absurd (some (sym is))
known_some n (suc i) own some is = omega arith

-- ---- in an established tunnel

module _ (births : BirthsOfRuns) (w : World) (h : History) (n : ℕ) (node : Node) (sender : Option Sender) (moment : ℕ) (ev : Event)
    (mv : Move) (x : End) (d : Deed) (k : Kept) (j : machine.World) (q : steps.IsMade w h n node sender moment ev mv x d k j) (i : ℕ)
    (t : Tunnel) (at_t : at node.end.tunnels i ≡ Some t) (three : state_number t.control.state ≡ 3)
    (open_is : j.tunnels.phase (name n i) ≡ Open) (from : ℕ) (peer : (h.accounts n i 0).peer ≡ from) (session : ℕ)
    (fits : session < 65536) where
  abbrev X : ℕ
  X = name n i

  before : CallsJoined j h n (booked node k)
  before = made.calls_before w h n node sender moment ev mv x d k j q

  hold : WorldHolds j
  hold = world_holds births j q.joined.joined.moves q.joined.joined.run

  id_fits : i < 65536
  id_fits = made.id_fits w h n node sender moment ev mv x d k j q i t at_t

  joined : (s : ℕ) (c : Call) → at t.calls s ≡ Some c → CallJoined j n i (h.accounts n i 0).peer s c
  joined s c live = before.live i t at_t s c live

  -- a call that the machine has in this tunnel is the end's, or there is none
  same_tunnel : (s f : ℕ) (u : Tunnel) → at node.end.tunnels f ≡ Some u → (c : Call) → at u.calls s ≡ Some c
      → j.calls.tunnel (name n s) ≡ X → at t.calls s ≡ Some c
  same_tunnel s f u there c live tunnel =
      let one : f ≡ i = (same_name n f n i (made.id_fits w h n node sender moment ev mv x d k j q f u there) id_fits
      (sym (before.live f u there s c live).tunnel ∙ tunnel)).1 in
      let same : u ≡ t = same_Some u t (sym there ∙ (ap (at node.end.tunnels) one ∙ at_t)) in
      sym (ap (λ (y : Tunnel). at y.calls s) same) ∙ live

  gone_here : (s : ℕ) → s < 65536 → at t.calls s ≡ None → j.calls.tunnel (name n s) ≡ X
      → (j.calls.state (name n s) ≡ NoCall) × (j.calls.booked (name n s) ≡ false)
  gone_here s sfits none tunnel = (
    before.gone s sfits (λ f u there. no_other f u there (at u.calls s) refl),
    before.booked s sfits ∙ no_book (call_at k s) refl,
  )
    where
      no_other : (f : ℕ) (u : Tunnel) → at node.end.tunnels f ≡ Some u → (o : Option Call) → at u.calls s ≡ o → at u.calls s ≡ None
      no_other f u there None is = is
      no_other f u there (Some c) is = absurd (none-some c (sym none ∙ same_tunnel s f u there c is tunnel))

      no_book : (o : Option BookCall) → call_at k s ≡ o → is_some (call_at k s) ≡ false
      no_book None is = ap (λ o. is_some o) is
      no_book (Some c) is =
          let f = booked_live node.end k q.mirrors s c is in
          absurd (none-some f.call (sym none ∙ same_tunnel s c.tunnel f.tunnel f.there f.call f.live tunnel))

  -- a test of a state that no call fits that nothing is done with
  untested : (test : CallState → Bool) → test NoCall ≡ false
      → ((c : Call) → at t.calls session ≡ Some c → test (state_of c.state) ≡ false) → j.calls.tunnel (name n session) ≡ X
      → test (j.calls.state (name n session)) ≡ false
  untested test none each tunnel = by (at t.calls session) refl
    where
      by : (o : Option Call) → at t.calls session ≡ o → test (j.calls.state (name n session)) ≡ false
      by None is = ap test (gone_here session fits is tunnel).0 ∙ none
      by (Some c) is = ap test (joined session c is).state ∙ each c is

  -- ---- a CDN

  module _ (remote code : ℕ) (error : Option ℕ) (rfits : remote < 65536) (why : IsPlain node.end t session (message.Cdn remote code error))
      (s e place : ℕ)
      (stands : slice_get (j.channels.sent s e) place ≡ Some (Cdn (name_of from remote) (name_of n session))) where
    abbrev own : ℕ
    own = name_of from remote

    -- the call that the CDN names waits for its tunnel
    named_waits : (c : Call) → at t.calls (session_named t.calls session remote) ≡ Some c
        → j.calls.state (name n (session_named t.calls session remote)) ≡ Waits
    named_waits c live =
        let y = session_named t.calls session remote in
        (joined y c live).state
        ∙ no_end node.end.role c.state (fits_role node.end.role c.state (q.sound i t at_t y c live).1) (why three c live)

    -- by its header
    by_header : (session ≡ 0 → ⊥) → (y : ℕ) → y < 65536 → (c : Call) → at t.calls y ≡ Some c → name n y ≡ name n session → ⊥
    by_header some y yfits c live is =
        let same = same_name n y n session yfits fits is in
        let named = named_by_header t.calls session remote some in
        let waits = named_waits c (rw (named, ← same.1) live) in
        waits_unnamed j hold s e place own (name n session) (known some) (name_not_zero n session (above some)) (rw named at waits)
      where
        above : (session ≡ 0 → ⊥) → 0 < session
        above some = omega (arith, some)

        known : (session ≡ 0 → ⊥) → slice_get (j.channels.sent s e) place ≡ Some (Cdn own (name n session))
        known some = stands ∙ ap (λ y. Some (Cdn own y)) (known_name n session (above some))

    -- or by its own name
    by_remote : session ≡ 0 → (y : ℕ) (c : Call) → at t.calls y ≡ Some c → own ≢ 0 → j.calls.remote (name n y) ≡ own → ⊥
    by_remote none y c live some remote_is =
        let knows : name_of (h.accounts n i 0).peer c.remote ≡ own = sym (joined y c live).remote ∙ remote_is in
        let lt = known_some (h.accounts n i 0).peer c.remote own some knows in
        let pos = known_some from remote own some refl in
        let cfits = (made.live_ok w h n node sender moment ev mv x d k j q i t at_t).calls y c live in
        let same : c.remote ≡ remote =
        (same_name (h.accounts n i 0).peer c.remote from remote cfits rfits
        (sym (known_name (h.accounts n i 0).peer c.remote lt) ∙ knows ∙ known_name from remote pos)).1 in
        let it = named_by_remote t.calls remote y c live same (λ zero. (let no : ⊥ = omega (arith, zero, pos) in no)) in
        let name_is : session_named t.calls session remote ≡ session_named t.calls 0 remote =
        ap (λ o. session_named t.calls o remote) none in
        let waits = named_waits it.call (ap (at t.calls) name_is ∙ it.there) in
        let zero : j.calls.remote (name n (session_named t.calls session remote)) ≡ 0 =
        (hold.calls.waits (name n (session_named t.calls session remote)) waits).1 in
        let that = (joined (session_named t.calls 0 remote) it.call it.there).remote in
        some (ap₂ (λ p o. name_of p o) (sym peer) (sym it.knows)
        ∙ (sym that ∙ (ap (λ y. j.calls.remote (name n y)) (sym name_is) ∙ zero)))

    -- no call that lives
    named_here : (y : ℕ) → y < 65536 → (j.calls.tunnel (name n y) ≡ X) × Named j.calls own (name_of n session) (name n y)
        → (j.calls.state (name n y) ≡ NoCall) × (j.calls.booked (name n y) ≡ false)
    named_here y yfits tells = by (at t.calls y) refl tells.1
      where
        by : (o : Option Call) → at t.calls y ≡ o → Named j.calls own (name_of n session) (name n y)
            → (j.calls.state (name n y) ≡ NoCall) × (j.calls.booked (name n y) ≡ false)
        by None is named = gone_here y yfits is tells.0
        by (Some c) is (ByHeader some header) =
            let known = some_header n session some in
            let lt : 0 < session = omega (arith, known) in
            absurd (by_header known y yfits c is (header ∙ known_name n session lt))
        by (Some c) is (ByRemote none some knows) = absurd (by_remote (no_header n session none) y c is some knows)

    named_by : (o : Bool) → (y : ℕ) → j.calls.drawn y ≡ o → is_named j.calls X own (name_of n session) y ≡ true
        → (j.calls.state y ≡ NoCall) × (j.calls.booked y ≡ false)
    named_by false y undrawn named = let none = hold.calls.nameless y undrawn in (none.state, none.booked)
    named_by true y drawn named =
        let of = q.joined.named y drawn in
        let c = of.0 in
        let s = of.1 in
        let tells = named_tells j.calls X own (name_of n session) y named in
        ⊎_elim
        (λ (here : c ≡ n).
        let is : y ≡ name n s = of.4 ∙ ap (λ p. name p s) here in
        let gone = named_here s of.3 (
          ap (λ (p : ℕ). j.calls.tunnel p) (sym is) ∙ tells.0,
          subst (λ p. Named j.calls own (name_of n session) p) is tells.1,
        ) in
        (ap (λ p. j.calls.state p) is ∙ gone.0, ap (λ p. j.calls.booked p) is ∙ gone.1))
        (λ (off : c ≡ n → ⊥).
        let apart = elsewhere (with_book w n k) h j q.joined.joined n i id_fits c of.2 off
        (λ c has. nodes_hold w n node q.moved.there x k k q.nodes _ c off has) s of.3 in
        let tunnel : j.calls.tunnel (name c s) ≡ X = ap (λ (p : ℕ). j.calls.tunnel p) (sym of.4) ∙ tells.0 in (
          ap (λ p. j.calls.state p) of.4 ∙ no_life (j.calls.state (name c s)) (λ live. apart.live live tunnel),
          ap (λ p. j.calls.booked p) of.4 ∙ not_so (j.calls.booked (name c s)) (λ live. apart.booked live tunnel),
        ))
        (same_or_not c n)

    named_gone : (y : ℕ) → is_named j.calls X own (name_of n session) y ≡ true → (j.calls.state y ≡ NoCall) × (j.calls.booked y ≡ false)
    named_gone y named = named_by (j.calls.drawn y) y refl named

  -- ---- each letter that is plain

  open_not : is_closed t.control.state ≡ true → ⊥
  open_not closed =
      let four = eqb-true (state_number t.control.state) 4 closed in
      let no : ⊥ = omega (arith, three, four) in no

  pub plain_by : (s e place : ℕ) (m : Message) → (IsNoRequest m → IsPlain node.end t session m) → IsSized m
      → slice_get (j.channels.sent s e) place ≡ Some (spoken from n session m) → PlainTakes j (name n i) s (spoken from n session m)
  plain_by s e place (message.Sccrq o) why sized stands = ignored j X s Sccrq (plain_sccrq (took_one j X) X s)
  plain_by s e place (message.Sccrp o) why sized stands = absurd (open_not (why tt))
  plain_by s e place (message.Scccn response) why sized stands = absurd (open_not (why tt))
  plain_by s e place (message.StopCcn tunnel result error) why sized stands = absurd (open_not (why tt))
  plain_by s e place message.Hello why sized stands = ignored j X s Hello (plain_hello (took_one j X) X s)
  plain_by s e place (message.Ocrq remote) why sized stands = ignored j X s Hello (plain_hello (took_one j X) X s)
  plain_by s e place message.Ocrp why sized stands = ignored j X s Hello (plain_hello (took_one j X) X s)
  plain_by s e place message.Occn why sized stands = ignored j X s Hello (plain_hello (took_one j X) X s)
  plain_by s e place message.Wen why sized stands = ignored j X s Hello (plain_hello (took_one j X) X s)
  plain_by s e place message.Sli why sized stands = ignored j X s Hello (plain_hello (took_one j X) X s)
  plain_by s e place (message.Fsq sessions) why sized stands = ignored j X s Hello (plain_hello (took_one j X) X s)
  plain_by s e place (message.Fsr sessions) why sized stands = ignored j X s Hello (plain_hello (took_one j X) X s)
  plain_by s e place (message.Icrq remote serial calling) why sized stands =
      ignored j X s (Request (name from remote)) (plain_request (took_one j X) X s (name from remote))
  plain_by s e place (message.Icrp remote) why sized stands =
      ignored j X s (Reply (name from remote) (name n session))
      (plain_reply j X s (name from remote) (name n session)
      (untested waits_reply refl (λ c live. no_first node.end.role c.state
      (fits_role node.end.role c.state (q.sound i t at_t session c live).1) (why tt three c live))))
  plain_by s e place (message.Iccn speed framing sequenced) why sized stands =
      ignored j X s (Connect (name n session))
      (plain_connect j X s (name n session)
      (untested waits_connect refl (λ c live. no_second node.end.role c.state
      (fits_role node.end.role c.state (q.sound i t at_t session c live).1) (why tt three c live))))
  plain_by s e place (message.Cdn remote code error) why sized stands =
      plain_cdn j X s (name_of from remote) (name_of n session) open_is
      (named_gone remote code error sized.0 (why tt) s e place stands)
