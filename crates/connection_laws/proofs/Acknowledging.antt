-- Reading Nr keeps what is known: the letters before it were taken.
use Rattle.std.proofs.Common.{◌≡◌, inr, ⊎_elim, ℕ, ◌+◌, ◌<◌, ◌≤◌, true, List, map, drop, length, refl, sym, ap, ◌∙◌, subst, Option, Some, arith}
use Rattle.std.proofs.lemmas.List.{drop-drop, drop-map}
use Rattle.id_table.specs.Ids.{at}
use Rattle.send_window.specs.Kept.{Window}
use Rattle.send_window.specs.Window.{count_acked, without_first}
use Rattle.std.specs.Prelude.{unwrap_or}
use Rattle.l2tp_header.specs.declared.header.Header.{Header}
use Rattle.recv_window.specs.Window.{on_wire, ClassIsTrue}
use Rattle.end_model.specs.declared.out.ControlOrigin.{ControlOrigin}
use Rattle.wire_base.specs.declared.letter.Letter as wire
use Rattle.end_model.specs.declared.event.Event.{Event}
use Rattle.end_model.specs.declared.moves.NrRead.{NrRead}
use Rattle.end_model.specs.declared.moves.Move.TheVariants as move
use Rattle.end_model.specs.declared.tunnel.CallPlace.{CallPlace}
use Rattle.end_model.specs.Tunnels.{Tunnel}
use Rattle.end_model.specs.Channels.{counts_acked}
use Rattle.end_model.specs.End.{End}
use Rattle.world_model.specs.World.{Sender, Deed}
use Rattle.step_laws.specs.Letters.{Letter}
use Rattle.step_laws.specs.Moves.{with_tunnel}
use Rattle.frame_laws.specs.Codecs.{Codecs}
use Rattle.connection_laws.specs.Accounts.{Part, Unmade, Opener, Acceptor, Account}
use Rattle.connection_laws.specs.Facts.{Accounts, partner_in, AccountOk, IsInState, AreAcked, LiveOk, IsNear, kept_letter, Comes, Within}
use Rattle.connection_laws.proofs.Keeps.{after, IsMoved}
use Rattle.connection_laws.proofs.Puts.{ComesNear, EndPut, IsPut}
use Rattle.connection_laws.proofs.Later.{live_made, extends_same, same_after, joined_now}
use Rattle.connection_laws.proofs.Put.{puts_keep}
use Rattle.connection_laws.proofs.Numbers.{IsCount, is_count, IsWithout, without_count}
use Rattle.connection_laws.proofs.Hearing.{opener_of, acceptor_of, IsHeard, heard_to, Heard, HeardRefusal, heard}
use Rattle.connection_laws.proofs.NextHeard.{nr_few, nr_taken}

-- ---- an end that differs in one tunnel

pub put_of : (e x : End) (places : List (ℕ × CallPlace)) (i : ℕ) (u : Tunnel) → x ≡ record (with_tunnel e i u) { calls = places } → EndPut e x i u
put_of e x places i u is = subst (λ (y : End). EndPut e y i u) (sym is) (record {
  role = refl;
  config = refl;
  tunnels = refl;
  next = omega arith;
  last = refl;
  sessions = omega arith;
  last_session = refl;
})

-- a tunnel with the same partner stays apart from the others
pub still_apart : (accs : Accounts) (n : ℕ) (e : End) (sender : Option Sender) (ev : Event) → Within accs n e sender ev → (i : ℕ) (t u : Tunnel)
    → at e.tunnels i ≡ Some t → u.control.peer ≡ t.control.peer → u.control.remote ≡ t.control.remote → (j : ℕ) (v : Tunnel) → at e.tunnels j ≡ Some v
    → u.control.peer ≡ v.control.peer → u.control.remote ≡ v.control.remote → (u.control.remote ≡ 0 → ⊥) → j ≡ i
still_apart accs n e sender ev within i t u there peer remote j v f same goes some =
    sym (within.end.apart i j t v there f (sym peer ∙ same) (sym remote ∙ goes) (λ z. some (remote ∙ z)))

-- where a tunnel stands, by its state and its calls
pub in_state_like : (accs : Accounts) (i : ℕ) (a : Account) (t u : Tunnel) → u.control.state ≡ t.control.state → u.calls ≡ t.calls → (p : Part)
    → IsInState accs i a t p → IsInState accs i a u p
in_state_like accs i a t u state calls Unmade h = h
in_state_like accs i a t u state calls Opener h = rw (state, calls) h
in_state_like accs i a t u state calls Acceptor h = rw (state, calls) h

-- the letters that are kept, without the first
pub kept_on : (given : List Letter) (acked count : ℕ) → drop count (map kept_letter (drop acked given)) ≡ map kept_letter (drop (acked + count) given)
kept_on given acked count = drop-map kept_letter count (drop acked given) ∙ ap (λ (ls : List Letter). map kept_letter ls) (drop-drop count acked given)

-- ---- what a control message tells that a live tunnel hears

record TellsTaken (accs : Accounts) (n : ℕ) (e : End) (sender : Option Sender) (ev : Event) (comes : Comes accs n e sender ev) (i : ℕ) (t : Tunnel)
    (h : Header) : Type 0 where
  o : ControlOrigin
  near : IsNear (accs n i) t o
  nr : unwrap_or h.nr 0 ≡ on_wire o.nr
  few : o.nr ≤ length (accs n i).given + 2
  acked : AreAcked accs n i (accs n i) o.nr (accs n i).part
  again : (ms : Accounts) (j : ℕ) (u : Tunnel) → IsNear (ms n j) u o → ComesNear accs n e sender ev comes ms j u

-- one that declines its SCCRQ tells that one letter was taken
refusal_acked : (accs : Accounts) (n i acked : ℕ) → ((m j : ℕ) → AccountOk accs m j (accs m j)) → (accs n i).part ≡ Opener → (accs n i).declined ≡ true
    → acked ≡ 1 → AreAcked accs n i (accs n i) acked (accs n i).part
refusal_acked accs n i acked all here declined one =
    let a = accs n i in
    let opener = opener_of accs n i a (all n i) here in
    subst (AreAcked accs n i a acked) (sym here) (
      λ z. inr (inr (one, declined)),
      λ z.
          let some = (acceptor_of accs a.peer a.remote (partner_in accs a) (all a.peer a.remote) (opener.part z)).some in
          omega (arith, one, some),
    )

tells_taken : Codecs → ClassIsTrue → (accs : Accounts) (n : ℕ) (e : End) (sender : Option Sender) (ev : Event) (within : Within accs n e sender ev) (i : ℕ)
    (t : Tunnel) → at e.tunnels i ≡ Some t → (h : Header) (bytes : List ℕ) → IsHeard ev t.control h bytes
    → TellsTaken accs n e sender ev within.comes i t h
tells_taken codecs classes accs n e sender ev within i t there h bytes hears = ⊎_elim
    (λ (k : Heard accs n e sender ev within.comes i t h bytes). record {
      o = k.o;
      near = k.near;
      nr = k.read.nr;
      few = nr_few classes accs n e sender ev within i t there h bytes k;
      acked = nr_taken classes accs n e sender ev within i t there h bytes k;
      again = k.again;
    })
    (λ (k : HeardRefusal accs n e sender ev within.comes i t h bytes). record {
      o = k.o;
      near = k.near;
      nr = k.read.nr;
      few = (let one = k.nr in omega arith);
      acked = refusal_acked accs n i k.o.nr within.accounts k.opener k.declined k.nr;
      again = k.again;
    })
    (heard codecs accs n e sender ev within i t there h bytes hears)

module _ (codecs : Codecs) (classes : ClassIsTrue) (accs : Accounts) (n : ℕ) (e x : End) (sender : Option Sender) (moment : ℕ) (ev : Event) where
  module _ (m : NrRead) (d : Deed) (h : IsMoved accs n e x sender moment ev (move.NrRead m) d) where
    abbrev t : Tunnel
    t = h.does.tunnel

    abbrev a : Account
    a = accs n m.tunnel

    abbrev w : Window
    w = t.control.channel.window

    abbrev count : ℕ
    count = count_acked w m.nr

    abbrev v : Window
    v = without_first w count moment

    -- the tunnel as it is left
    abbrev u : Tunnel
    u = record t { control = record (counts_acked m.nr moment t.control) { heard = moment }; letters = drop count t.letters }

    live : LiveOk accs n m.tunnel a t
    live = h.within.end.live m.tunnel t h.does.there

    k : TellsTaken accs n e sender ev h.within.comes m.tunnel t h.does.tells.letter.header
    k =
        let came = h.does.tells in
        tells_taken codecs classes accs n e sender ev h.within m.tunnel t h.does.there came.letter.header came.comes.came.bytes (heard_to ev t.control came.letter came.comes)

    counted : IsCount w k.o.nr count
    counted =
        let near = k.near.acked in
        let outstanding = live.outstanding in
        let most = live.few in
        let all = live.counted in
        let given = k.few in
        subst (λ (nr : ℕ). IsCount w k.o.nr (count_acked w nr)) (sym (h.does.tells.tells ∙ k.nr))
        (is_count w k.o.nr near (omega arith) (omega arith))

    left : IsWithout w count v
    left =
        let outstanding = live.outstanding in
        let most = live.few in
        let fits = h.numbers m.tunnel t h.does.there in
        let le = counted.few in
        without_count w count moment le outstanding (omega arith)

    acked : AreAcked accs n m.tunnel a v.acked a.part
    acked = subst (λ (q : ℕ). AreAcked accs n m.tunnel a q a.part) (sym left.acked)
        (⊎_elim
        (λ (same : w.acked + count ≡ w.acked). subst (λ (q : ℕ). AreAcked accs n m.tunnel a q a.part) (sym same) live.acked)
        (λ (same : w.acked + count ≡ k.o.nr). subst (λ (q : ℕ). AreAcked accs n m.tunnel a q a.part) (sym same)
        k.acked)
        counted.leads)

    still_live : LiveOk accs n m.tunnel a u
    still_live =
        let outstanding = live.outstanding in
        let most = live.few in
        let all = live.counted in
        let le = counted.few in
        let x = left.acked in
        let y = left.queued in
        record {
          local = live.local;
          peer = live.peer;
          remote = live.remote;
          state = in_state_like accs m.tunnel a t u refl refl a.part live.state;
          letters = ap (λ (ls : List wire.Letter). drop count ls) live.letters ∙ kept_on a.given w.acked count
              ∙ ap (λ (q : ℕ). map kept_letter (drop q a.given)) (sym x);
          counted = omega arith;
          few = omega arith;
          outstanding = left.outstanding;
          taken = live.taken;
          acked = acked;
          calls = live.calls;
          order = live.order;
          recovery = live.recovery;
          query = live.query;
        }

    near : IsNear a u k.o
    near =
        let acks = k.near.acked in
        let x = left.acked in
        record {
          taken = k.near.taken;
          acked = ⊎_elim (λ (same : w.acked + count ≡ w.acked). omega arith) (λ (same : w.acked + count ≡ k.o.nr). omega arith) counted.leads;
        }

    put_is : IsPut accs accs n e x sender ev m.tunnel u
    put_is =
        let ok = h.within.accounts n m.tunnel in
        let made = live_made accs n m.tunnel a t live in
        record {
          within = h.within;
          only = record { here = extends_same a; others = λ p q other. refl };
          end = put_of e x e.calls m.tunnel u h.does.after;
          drawn = subst (λ (y : End). m.tunnel < y.tunnel_ids.next) (sym h.does.after) (h.within.end.drawn m.tunnel made);
          account = ok;
          live = still_live;
          joined = joined_now accs h.within.accounts n m.tunnel;
          apart = still_apart accs n e sender ev h.within m.tunnel t u h.does.there refl refl;
          near = k.again accs m.tunnel u near;
        }

    pub read_keeps : Within (after accs d) n x sender ev
    read_keeps =
        subst (λ (ms : Accounts). Within ms n x sender ev) (sym (same_after accs d n (move.NrRead m) tt h.deed.node_is h.deed.move_is refl))
        (puts_keep accs accs n e x sender ev m.tunnel u put_is)
