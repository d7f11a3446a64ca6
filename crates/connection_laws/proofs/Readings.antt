-- How the numbers of a control message are read that reaches a live tunnel.
use Rattle.std.proofs.Common.{◌≡◌, ◌⊎◌, inl, inr, ⊎_elim, ℕ, ◌+◌, ◌<◌, ◌≤◌, Bool, true, false, cond, eqb, List, length, refl, sym, ap, ap₂, ◌∙◌, subst, Option, Some, None, Result, Ok, Err, arith}
use Rattle.std.proofs.lemmas.Bool.{eqb-true, eqb-false}
use Rattle.std.specs.Prelude.{option_map, is_some, ◌==◌}
use Rattle.id_table.specs.Ids.{at}
use Rattle.id_table.specs.Order.{same_or_not}
use Rattle.recv_window.specs.Window.{ClassIsTrue}
use Rattle.wire_base.specs.declared.why.Why.TheVariants as why
use Rattle.l2tp_header.specs.declared.header.Header.{Header}
use Rattle.l2tp_header.specs.declared.header.HeaderError.{HeaderError}
use Rattle.l2tp_header.specs.Reading.{header_of, body_of}
use Rattle.end_model.specs.Secrets.{uncovered_datagram}
use Rattle.end_model.specs.declared.event.Addressee.{Addressee}
use Rattle.end_model.specs.declared.event.Addressee.TheVariants.{Opens, Stops, Answers, Main, Recovery, Recovers, Nobody}
use Rattle.end_model.specs.declared.tunnel.Control.{Control}
use Rattle.end_model.specs.declared.out.Origin.{Origin}
use Rattle.end_model.specs.declared.out.Origin.TheVariants as origin
use Rattle.end_model.specs.declared.out.ControlOrigin.{ControlOrigin}
use Rattle.world_model.specs.declared.packet.Packet.{Packet}
use Rattle.end_names.specs.Names.{address_of}
use Rattle.end_model.specs.Reading.{at_zero, at_tunnel}
use Rattle.end_model.specs.Tunnels.{Tunnel}
use Rattle.end_model.specs.End.{reached, End, opens_once, at_line, at_recovery, recovered_by, addressed, main_of, reached_by, reached_plain}
use Rattle.world_model.specs.World.{Node, too_old}
use Rattle.world_model.specs.Run.{Run}
use Rattle.step_laws.specs.Steps.{AreKept}
use Rattle.frame_laws.specs.Codecs.{Codecs}
use Rattle.connection_laws.specs.Accounts.{Opener, Account, account_of}
use Rattle.connection_laws.specs.Facts.{Accounts, IsClosed, IsLost, HasStopped, AreJoined, partner_in, IsOpener, IsAcceptor, IsMade, AccountOk, LiveOk, EndOk, IsCopy, IsRefusal, OriginOk, PacketOk, NodeOk, Holds}
use Rattle.connection_laws.specs.Channels.{IsRead, NumbersAreRead}
use Rattle.connection_laws.proofs.Later.{live_made}
use Rattle.connection_laws.proofs.Told.{HeaderTells, copy_tells}
use Rattle.connection_laws.proofs.Starts.{IsYoung, is_young}
use Rattle.connection_laws.proofs.Numbers.{count_is_true}
use Rattle.connection_laws.proofs.Sent.{mapped, copy_there}
use Rattle.connection_laws.proofs.Worlds.{all_map}
use Rattle.connection_laws.proofs.Hearing.{NamesNone, unnamed, part_cases, opener_of, acceptor_of}
use Rattle.connection_laws.proofs.NextHeard.{IsSmall, unlearned_small}

-- ---- which tunnel was reached

-- how a tunnel is named: by its id, and it goes to the sender's node, or not at all
abbrev IsNamed : ℕ → Header → ℕ → Tunnel → Type 0
IsNamed peer h i t =
    ((h.tunnel ≡ 0 → ⊥) × (h.tunnel ≡ i) × (t.control.peer ≡ peer)) ⊎ (h.tunnel ≡ 0)

named_peer : (peer k i p : ℕ) → at_tunnel peer k (Some p) ≡ Main i → (k ≡ i) × (p ≡ peer)
unfolding at_tunnel
named_peer peer k i p h = by (eqb p peer) refl h
  where
    by : (b : Bool) → eqb p peer ≡ b → cond b (Main k) (Nobody why.Peer) ≡ Main i → (k ≡ i) × (p ≡ peer)
    by true is g = (cc, eqb-true p peer is)
    by false is g = absurd cc

named_there : (peer k i : ℕ) (o : Option Tunnel) → at_tunnel peer k (option_map (λ (x : Tunnel). x.control.peer) o) ≡ Main i
    → (k ≡ i) × ((t : Tunnel) → o ≡ Some t → t.control.peer ≡ peer)
unfolding at_tunnel
named_there peer k i None h = absurd cc
named_there peer k i (Some u) h =
    let n = named_peer peer k i u.control.peer h in
    (n.0, λ t is. (let same : u ≡ t = cc in ap (λ (x : Tunnel). x.control.peer) (sym same) ∙ n.1))

-- a message for a recovery tunnel isn't for its tunnel
line_is : (e : End) (peer i j : ℕ) (o : Option Tunnel) → at_line peer j o ≡ Main i → ⊥
line_is e peer i j None h = cc
line_is e peer i j (Some t) h = by (t.control.peer == peer) h
  where
    by : (b : Bool) → cond b (Recovery j) (Nobody why.Peer) ≡ Main i → ⊥
    by true h = cc
    by false h = cc

recovery_is : (e : End) (peer : ℕ) (o : Option ℕ) (i : ℕ) → at_recovery e peer o ≡ Main i → ⊥
recovery_is e peer None i h = cc
recovery_is e peer (Some j) i h = line_is e peer i j (at e.tunnels j) h

of_main : (e : End) (peer : ℕ) (o : Option ℕ) (i : ℕ) (b : Bool) (a : Addressee) → cond b a (at_recovery e peer o) ≡ Main i → a ≡ Main i
of_main e peer o i true a h = h
of_main e peer o i false a h = absurd (recovery_is e peer o i h)

is_named : (e : End) (peer : ℕ) (h : Header) (body : List ℕ) (i : ℕ) (t : Tunnel) → at e.tunnels i ≡ Some t → addressed e peer h body ≡ Main i
    → IsNamed peer h i t
unfolding addressed
is_named e peer h body i t there main = by (eqb h.tunnel 0) refl main
  where
    by : (b : Bool) → eqb h.tunnel 0 ≡ b
        → cond b (opens_once e peer (at_zero body)) (cond (is_some (at e.tunnels h.tunnel))
        (at_tunnel peer h.tunnel (option_map (λ (x : Tunnel). x.control.peer) (at e.tunnels h.tunnel)))
        (at_recovery e peer (recovered_by h.tunnel e.tunnels))) ≡ Main i
        → IsNamed peer h i t
    by true is g = inr (eqb-true h.tunnel 0 is)
    by false is g =
        let n = named_there peer h.tunnel i (at e.tunnels h.tunnel)
        (of_main e peer (recovered_by h.tunnel e.tunnels) i (is_some (at e.tunnels h.tunnel)) _ g) in
        inl (eqb-false h.tunnel 0 is, n.0, n.1 t (rw n.0 there))

record IsReached (e : End) (peer : ℕ) (bytes : List ℕ) (h : Header) (c : Control) : Type 0 where
  id : ℕ
  tunnel : Tunnel
  there : at e.tunnels id ≡ Some tunnel
  same : c ≡ tunnel.control
  named : IsNamed peer h id tunnel

main_is : (e : End) (a : Addressee) (c : Control) → main_of e a ≡ Some c
    → (i : ℕ) × (a ≡ Main i) × (option_map (λ (t : Tunnel). t.control) (at e.tunnels i) ≡ Some c)
unfolding main_of
main_is e (Opens r) c h = absurd cc
main_is e (Stops r) c h = absurd cc
main_is e (Answers r) c h = absurd cc
main_is e (Main i) c h = (i, refl, h)
main_is e (Recovery i) c h = absurd cc
main_is e (Recovers r) c h = absurd cc
main_is e (Nobody w) c h = absurd cc

is_some_of : {X : Type 0} (b : Bool) (o : Option X) (x : X) → cond b o None ≡ Some x → o ≡ Some x
is_some_of true o x h = h
is_some_of false o x h = absurd cc

unreached : (e : End) (peer : ℕ) (bytes : List ℕ) (x : HeaderError) (c : Control) → header_of bytes ≡ Err x → reached_plain e peer bytes ≡ Some c → ⊥
unfolding reached_plain reached_by
unreached e peer bytes x c read is = (let g = rw read at is in absurd cc)

reach_of : (e : End) (peer : ℕ) (bytes : List ℕ) (h : Header) (c : Control) → header_of bytes ≡ Ok h → reached_plain e peer bytes ≡ Some c
    → IsReached e peer bytes h c
unfolding reached_plain reached_by
reach_of e peer bytes h c read is =
    let g = rw read at is in
    let m = main_is e (addressed e peer h (body_of bytes h)) c (is_some_of h.control _ c g) in
    let k = mapped (λ (t : Tunnel). t.control) (at e.tunnels m.0) c m.2 in
    record { id = m.0; tunnel = k.0; there = k.1; same = k.2; named = is_named e peer h (body_of bytes h) m.0 k.0 k.1 m.1 }

-- ---- what a tunnel and the sender of what reaches it know of each other

-- no letter was given that is far ahead of those that were taken, and hardly one taken that wasn't given
record AreNearby (a b : Account) : Type 0 where
  given : length b.given ≤ length a.taken + 8192
  taken : length b.taken ≤ length a.given + 2

module _ (accs : Accounts) (accounts : (m j : ℕ) → AccountOk accs m j (accs m j)) (n i m j : ℕ) (some : 0 < i) (made : IsMade (accs m j))
    (peer : (accs m j).peer ≡ n) (remote : (accs m j).remote ≡ i) where
  abbrev a : Account
  a = accs n i

  abbrev b : Account
  b = accs m j

  partner : partner_in accs b ≡ a
  partner = ap₂ accs peer remote

  known : b.remote ≡ 0 → ⊥
  known z = absurd (omega (arith, remote, z, some))

  of_opener : IsOpener accs m j b → AreNearby a b
  of_opener k =
      let joined = subst (AreJoined b) partner (k.joined known) in
      record {
        given = joined.few_here;
        taken = ⊎_elim
            (λ (le : length b.taken ≤ length a.given). omega arith)
            (λ (two : IsClosed b × (length b.taken ≤ 2)). let le = two.1 in omega arith)
            joined.here;
      }

  of_acceptor : IsAcceptor accs m j b → AreNearby a b
  of_acceptor k =
      let part : a.part ≡ Opener = subst (λ (x : Account). x.part ≡ Opener) partner k.part in
      let back : a.peer ≡ m = subst (λ (x : Account). x.peer ≡ m) partner k.peer in
      let opener = opener_of accs n i a (accounts n i) part in
      ⊎_elim
      (λ (named : a.remote ≡ j).
      let lt = (accounts m j).some made in
      let joined = subst (AreJoined a) (ap₂ accs back named) (opener.joined (λ z. absurd (omega (arith, named, z, lt)))) in
      record { given = joined.few_there; taken = (let le = joined.there in omega arith) })
      (λ (no : a.remote ≡ j → ⊥).
      let apart = λ (named : (partner_in accs b).remote ≡ j). no (subst (λ (x : Account). x.remote ≡ j) partner named) in
      record {
        given = ⊎_elim
            (λ (one : length b.given ≡ 1). omega arith)
            (λ (s : HasStopped b). let two = s.few in omega arith)
            (k.one_given apart);
        taken = ⊎_elim
            (λ (one : length b.taken ≡ 1). omega arith)
            (λ (lost : IsLost (partner_in accs b) × (length b.taken ≤ 2)). let two = lost.1 in omega arith)
            (k.one_taken apart);
      })
      (same_or_not a.remote j)

  nearby : AreNearby a b
  nearby = ⊎_elim
      (λ is. of_opener (opener_of accs m j b (accounts m j) is))
      (λ is. of_acceptor (acceptor_of accs m j b (accounts m j) is))
      (part_cases b.part made)

-- ---- the numbers of a copy that reaches a tunnel

record Fit (a : Account) (o : ControlOrigin) : Type 0 where
  ns : o.empty ≡ false → o.ns ≤ length a.taken + 8192
  nr : o.nr ≤ length a.given + 2

module _ (codecs : Codecs) (accs : Accounts) (accounts : (m j : ℕ) → AccountOk accs m j (accs m j)) (n i : ℕ) (some : 0 < i) (p : Packet) (o : ControlOrigin)
    (copy : IsCopy (accs p.from o.tunnel) p o) (to : p.to ≡ n) (secret : Option (List ℕ)) (h : Header)
    (read : header_of (uncovered_datagram secret p.bytes) ≡ Ok h) where
  abbrev from : Account
  from = accs p.from o.tunnel

  tells : HeaderTells o copy.tunnel h
  tells = copy_tells codecs accs p.from o.tunnel from p o (accounts p.from o.tunnel) copy secret h read

  -- it names the tunnel
  fit_named : (h.tunnel ≡ 0 → ⊥) → h.tunnel ≡ i → Fit (accs n i) o
  fit_named not_zero is =
      let told = tells.tunnel_is in
      let remote : from.remote ≡ i = ⊎_elim
      (λ (z : NamesNone from o copy.tunnel). absurd (not_zero (told ∙ z.0)))
      (λ (z : (copy.tunnel ≡ 0 → ⊥) × (copy.tunnel ≡ from.remote)). sym z.1 ∙ (sym told ∙ is)) copy.named in
      let near = nearby accs accounts n i p.from o.tunnel some copy.made (sym copy.to ∙ to) remote in
      let le = near.given in
      let fewer = near.taken in
      let taken = copy.nr in
      record { ns = λ full. (let lt = copy_there from o copy.tunnel p.bytes copy.says full in omega arith); nr = omega arith }

  -- it names none: its sender is lost, or it is the first letter, which tells nothing taken
  fit_zero : h.tunnel ≡ 0 → Fit (accs n i) o
  fit_zero none = ⊎_elim
      (λ (lost : IsLost from).
      let small = lost_small lost in
      let two = small.taken in
      let few = small.given in
      let taken = copy.nr in
      record { ns = λ full. (let lt = copy_there from o copy.tunnel p.bytes copy.says full in omega arith); nr = omega arith })
      (λ (k : (o.nr ≡ 0) × (o.empty ≡ false → o.ns ≡ 0)).
      let nr = k.0 in
      record { ns = λ full. (let ns = k.1 full in omega arith); nr = omega arith })
      (unnamed from o copy.tunnel copy.named (sym tells.tunnel_is ∙ none))
    where
      lost_small : IsLost from → IsSmall from
      lost_small lost = ⊎_elim
          (λ (own : from.part ≡ Opener).
          unlearned_small accs p.from o.tunnel from (opener_of accs p.from o.tunnel from (accounts p.from o.tunnel) own) lost.1)
          (λ own. absurd ((acceptor_of accs p.from o.tunnel from (accounts p.from o.tunnel) own).known lost.1))
          (part_cases from.part copy.made)

  fits : (peer : ℕ) (t : Tunnel) → IsNamed peer h i t → Fit (accs n i) o
  fits peer t named = ⊎_elim
      (λ (k : (h.tunnel ≡ 0 → ⊥) × (h.tunnel ≡ i) × (t.control.peer ≡ peer)). fit_named k.0 k.1)
      (λ (none : h.tunnel ≡ 0). fit_zero none)
      named

-- those of a StopCCN of no tunnel are 0 and 1
refusal_fits : (accs : Accounts) (n i : ℕ) (p : Packet) (o : ControlOrigin) → IsRefusal accs p o → Fit (accs n i) o
refusal_fits accs n i p o r = let ns = r.ns in let nr = r.nr in record { ns = λ full. omega arith; nr = omega arith }

-- then they are read truly
is_read : ClassIsTrue → (accs : Accounts) (n i : ℕ) (t : Tunnel) (o : ControlOrigin) → LiveOk accs n i (accs n i) t → IsYoung o t.control → Fit (accs n i) o
    → IsRead t.control o
is_read classes accs n i t o live young fit =
    let taken = live.taken in
    let near = young.taken in
    let sum = live.counted in
    let few = live.few in
    let out = live.outstanding in
    let le = fit.nr in
    record {
      class = λ full. classes o.ns t.control.channel.inbox ((let ahead = fit.ns full in omega arith), omega arith);
      acked = count_is_true t.control.channel.window o.nr young.acked (omega arith) (omega arith);
    }

-- ---- in a run

module _ (codecs : Codecs) (classes : ClassIsTrue) (r : Run) (holds : Holds r.world (account_of r.done)) where
  abbrev known_accounts : Accounts
  known_accounts = account_of r.done

  packet_read : (p : Packet) → PacketOk known_accounts p → (o : ControlOrigin) → p.origin ≡ origin.Control o → (node : Node)
      → at r.world.nodes p.to ≡ Some node → (c : Control) → reached node.end (address_of p.from) p.bytes ≡ Some c
      → too_old p.epoch o r.world p.to (Some c) ≡ None → IsRead c o
  packet_read p ok o is node there c reached_it young = by (header_of bytes) refl
    where
      bytes : List ℕ
      bytes = uncovered_datagram node.end.config.secret p.bytes

      by : (x : Result Header HeaderError) → header_of bytes ≡ x → IsRead c o
      by (Err x) read = absurd (unreached node.end (address_of p.from) bytes x c read reached_it)
      by (Ok h) read =
          let k = reach_of node.end (address_of p.from) bytes h c read reached_it in
          let sent : OriginOk known_accounts p (origin.Control o) = subst (λ (q : Origin). OriginOk known_accounts p q) is ok.sent in
          let end : EndOk known_accounts p.to node.end × AreKept node.end = subst (NodeOk known_accounts p.to) there (holds.nodes p.to) in
          let live = end.0.live k.id k.tunnel k.there in
          let some = (holds.accounts p.to k.id).some (live_made known_accounts p.to k.id (known_accounts p.to k.id) k.tunnel live) in
          let fit : Fit (known_accounts p.to k.id) o = ⊎_elim
          (λ (copy : IsCopy (known_accounts p.from o.tunnel) p o).
          fits codecs known_accounts holds.accounts p.to k.id some p o copy refl node.end.config.secret h read (address_of p.from) k.tunnel k.named)
          (λ (r : IsRefusal known_accounts p o). refusal_fits known_accounts p.to k.id p o r)
          sent in
          let y = is_young r.world p.to p.epoch o k.tunnel.control ok.epoch (holds.standings p.to k.tunnel.control.local)
          (subst (λ (q : Control). too_old p.epoch o r.world p.to (Some q) ≡ None) k.same young) in
          subst (λ (q : Control). IsRead q o) (sym k.same) (is_read classes known_accounts p.to k.id k.tunnel o live y fit)

  pub numbers_read : NumbersAreRead r
  numbers_read = all_map (PacketOk known_accounts) _ packet_read r.world.packets holds.packets
