-- Tunnels that are known by the ids that their peers assigned, and openings that are for none of them.
use Rattle.std.proofs.Common.{◌≡◌, ⊎_elim, ℕ, true, List, refl, sym, ap, ◌∙◌, subst, Option, Some, None, Ok}
use Rattle.std.proofs.lemmas.Bool.{eqb-true, eq-eqb, true≢false}
use Rattle.std.specs.Prelude.{◌==◌}
use Rattle.id_table.specs.Ids.{at, ids_of}
use Rattle.l2tp_header.specs.declared.header.Header.{Header}
use Rattle.l2tp_header.specs.Reading.{header_of, body_of}
use Rattle.control_message.specs.declared.message.Message.TheVariants.{Sccrq, Sccrp}
use Rattle.control_message.specs.declared.message.Opening.{Opening}
use Rattle.end_model.specs.declared.event.Addressee.TheVariants.{Opens, Stops}
use Rattle.end_model.specs.declared.event.Event.{Event}
use Rattle.end_model.specs.declared.event.Event.TheVariants.{Datagram}
use Rattle.end_model.specs.Reading.{message_in, at_zero}
use Rattle.end_model.specs.Tunnels.{Tunnel, ByAnswer}
use Rattle.end_model.specs.End.{End, is_known, known_as, is_answered, answered_to}
use Rattle.step_laws.specs.Causes.{WouldOpen}
use Rattle.step_laws.specs.Opens.{opens_said}
use Rattle.step_laws.specs.Moves.{IsAgain, IsStop, HearsNext}
use Rattle.step_laws.proofs.Lists.{and_left, and_right, none_passes, found_among}
use Rattle.step_laws.proofs.Zero.{ZeroSays, zero_says}
use Rattle.recovery_tunnel.specs.Answers.{Answering}

-- a tunnel that is known by a peer's id goes to the peer
pub known_peer : (peer remote : ℕ) (o : Option Tunnel) → is_known peer remote o ≡ true → (t : Tunnel) → o ≡ Some t → t.control.peer ≡ peer
known_peer peer remote None known t is = absurd (true≢false (sym known))
known_peer peer remote (Some u) known t is =
    let same : u ≡ t = cc in
    ap (λ (x : Tunnel). x.control.peer) (sym same) ∙ eqb-true u.control.peer peer (and_left (u.control.peer == peer) (u.control.remote == remote) known)

-- and the peer assigned it the id
pub known_remote : (peer remote : ℕ) (o : Option Tunnel) → is_known peer remote o ≡ true → (t : Tunnel) → o ≡ Some t → t.control.remote ≡ remote
known_remote peer remote None known t is = absurd (true≢false (sym known))
known_remote peer remote (Some u) known t is =
    let same : u ≡ t = cc in
    ap (λ (x : Tunnel). x.control.remote) (sym same) ∙ eqb-true u.control.remote remote (and_right (u.control.peer == peer) (u.control.remote == remote) known)

-- one that goes to the peer and has the id is known by it
is_known_by : (peer remote : ℕ) (o : Option Tunnel) (t : Tunnel) → o ≡ Some t → t.control.peer ≡ peer → t.control.remote ≡ remote
    → is_known peer remote o ≡ true
is_known_by peer remote o t is goes has = rw (is, eq-eqb t.control.peer peer goes, eq-eqb t.control.remote remote has) refl

-- so where none is known, there is none
pub none_known : (peer remote : ℕ) (tunnels : List (ℕ × Tunnel)) → known_as peer remote tunnels ≡ None
    → (j : ℕ) (t : Tunnel) → at tunnels j ≡ Some t → t.control.peer ≡ peer → t.control.remote ≡ remote → ⊥
unfolding known_as
none_known peer remote tunnels none j t there goes has =
    none_passes (λ q. is_known peer remote (at tunnels q)) (ids_of tunnels) j none (found_among tunnels j t there)
    (is_known_by peer remote (at tunnels j) t there goes has)

-- ---- what comes for a tunnel opens none

-- what came once came from one peer, and has one header
record CameOnce (peer other : ℕ) (bytes more : List ℕ) (h k : Header) : Type 0 where
  one_peer : peer ≡ other
  one_packet : bytes ≡ more
  one_header : h ≡ k

came_once : (ev : Event) (peer other : ℕ) (bytes more : List ℕ) (h k : Header) → ev ≡ Datagram peer bytes → ev ≡ Datagram other more
    → header_of bytes ≡ Ok h → header_of more ≡ Ok k → CameOnce peer other bytes more h k
came_once ev peer other bytes more h k is so read reads =
    let both : Datagram peer bytes ≡ Datagram other more = sym is ∙ so in
    let from : peer ≡ other = cc in
    let same : bytes ≡ more = cc in
    let headers : Ok h ≡ Ok k = sym read ∙ ap header_of same ∙ reads in
    record { one_peer = from; one_packet = same; one_header = (let e : h ≡ k = cc in e) }

-- an SCCRQ that can be read opens by the id that it tells
sccrq_opens : (body : List ℕ) (remote : ℕ) (o : Opening) → at_zero body ≡ Opens remote → message_in body ≡ Ok (Sccrq o) → remote ≡ o.tunnel
sccrq_opens body remote o is said =
    let tells = opens_said body (Sccrq o) remote is said in
    let both : Sccrq o ≡ Sccrq tells.0 = tells.1 in
    let same : o ≡ tells.0 = cc in
    tells.2 ∙ ap (λ (x : Opening). x.tunnel) (sym same)

-- a StopCCN is no SCCRQ
stop_opens_none : (body : List ℕ) (remote : ℕ) (o : Opening) → at_zero body ≡ Stops remote → message_in body ≡ Ok (Sccrq o) → ⊥
stop_opens_none body remote o is said = subst (ZeroSays body) is (zero_says body) o said

module _ (e : End) (ev : Event) (i : ℕ) (t : Tunnel) (there : at e.tunnels i ≡ Some t) (some : t.control.local ≡ 0 → ⊥)
    (session : ℕ) (o : Opening) where
  pub sccrq_opens_none : HearsNext ev t session (Sccrq o) → WouldOpen e ev o → ⊥
  sccrq_opens_none heard would =
      let k = heard.letter in
      let came = heard.next.comes.came in
      let once = came_once ev k.peer would.peer came.bytes would.came.bytes k.header would.came.header came.is would.came.is came.read would.came.read in
      ⊎_elim
      (λ (named : k.header.tunnel ≡ t.control.local).
      some (sym named ∙ ap (λ (x : Header). x.tunnel) once.one_header ∙ would.came.none))
      (λ unnamed. ⊎_elim
      (λ (again : IsAgain k.header k.body t.control).
      would.alone i t there (sym heard.next.comes.peer ∙ once.one_peer) (sccrq_opens k.body t.control.remote o again.opens heard.says.said))
      (λ (stop : IsStop k.header k.body t.control). stop_opens_none k.body t.control.remote o stop.stops heard.says.said)
      unnamed)
      heard.next.comes.tunnel

  pub sccrp_opens_none : HearsNext ev t session (Sccrp o) → (p : Opening) → WouldOpen e ev p → ⊥
  sccrp_opens_none heard p would =
      let k = heard.letter in
      let came = heard.next.comes.came in
      let once = came_once ev k.peer would.peer came.bytes would.came.bytes k.header would.came.header came.is would.came.is came.read would.came.read in
      let bodies : k.body ≡ would.body =
      came.body_is ∙ ap (λ (x : Header). body_of came.bytes x) once.one_header ∙ ap (λ (b : List ℕ). body_of b would.came.header) once.one_packet ∙ sym would.came.body_is in
      let both : Ok (Sccrp o) ≡ Ok (Sccrq p) = sym heard.says.said ∙ ap message_in bodies ∙ would.said in
      absurd cc

-- ---- answers to attempts

-- where no tunnel is found whose recovery tunnel answers an attempt, there is none
pub none_answered : (peer remote : ℕ) (tunnels : List (ℕ × Tunnel)) → answered_to peer remote tunnels ≡ None
    → (i : ℕ) (t : Tunnel) (a : Answering) → at tunnels i ≡ Some t → t.control.peer ≡ peer → t.recovery ≡ Some (ByAnswer a) → a.connection.remote ≡ remote → ⊥
unfolding answered_to
none_answered peer remote tunnels none i t a there goes has is =
    none_passes (λ q. is_answered peer remote (at tunnels q)) (ids_of tunnels) i none (found_among tunnels i t there)
    (rw (there, goes, has, is, eq-eqb peer peer refl, eq-eqb remote remote refl) refl)
