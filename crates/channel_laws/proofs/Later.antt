-- All that holds goes on to hold where more is known of one channel.
use Rattle.std.proofs.Common.{◌≡◌, ◌⊎◌, inl, inr, ⊎_elim, ℕ, ◌<◌, ◌≤◌, true, List, [], ◌∷◌, length, refl, sym, ap, ap₂, ◌∙◌, subst, Option, Some, None, arith}
use Rattle.std.specs.Prelude.{is_some}
use Rattle.std.specs.List.{AllByRecursion}
use Rattle.id_table.specs.Ids.{at}
use Rattle.id_table.specs.Order.{same_or_not}
use Rattle.session_book.specs.declared.record.BookTunnel.{BookTunnel}
use Rattle.session_book.specs.Books.{Kept, tunnel_at}
use Rattle.control_message.specs.declared.message.Message.{Message}
use Rattle.tunnel_fsm.specs.Rows.{state_number}
use Rattle.end_names.specs.Names.{address_of, node_of}
use Rattle.end_model.specs.declared.moves.Restored.{Restored}
use Rattle.end_model.specs.declared.moves.Froze.{Froze}
use Rattle.end_model.specs.declared.out.Origin.{Origin}
use Rattle.end_model.specs.declared.out.Origin.TheVariants as origin
use Rattle.end_model.specs.Tunnels.{Tunnel, Recovering, ByAttempt, ByAnswer}
use Rattle.end_model.specs.End.{End}
use Rattle.world_model.specs.declared.packet.Packet.{Packet}
use Rattle.world_model.specs.declared.standing.Standing.{Standing}
use Rattle.world_model.specs.World.{World, Node, Checkpoint, standing_of, epoch_of}
use Rattle.book_laws.proofs.Lists.{entry_has}
use Rattle.channel_laws.specs.Accounts.{Part, Unmade, Opener, Acceptor, Renewed, Account, no_account, History}
use Rattle.channel_laws.specs.Facts.{IsMade, partner_in, makes, AreTaken, IsOpen, IsLost, IsShut, AreJoined, AreEven, IsOpener, IsAcceptor, AreLinked, KnowsBy, ByLetter, ByRecord, BookedOk, AnswerOk, AttemptOk, BeginsBy, AsGiver, AsPeer, IsRenewed, IsPart, AccountOk, IsAnswered, IsInState, AreAcked, ChannelOk, IsRecovered, LiveOk, IdsOk, EndOk, BookOk, NodeOk, StandingOk, SaysRecovery, AsksFor, Suggests, Confirms, Refuses, OriginOk, PacketOk, Holds, QueryOk}
use Rattle.channel_laws.proofs.Anew.{here_or_not}
use Rattle.channel_laws.proofs.Linked.{not_itself}
use Rattle.channel_laws.proofs.Making.{SameNode}
use Rattle.channel_laws.proofs.Extending.{Extends, made_on, part_on, remote_on, lost_on, got_given, more_taken, copy_on, IsOnly, all_extend}

-- a world of the same epochs, in which one node may have another end
pub record IsAlike (w v : World) (n : ℕ) (node : Node) (x : End) : Type 0 where
  pub standings : (m j : ℕ) → standing_of v m j ≡ standing_of w m j
  pub makes_as : (m c : ℕ) → makes v m c ≡ makes w m c
  pub packets : v.packets ≡ w.packets
  pub others : (m : ℕ) → (m ≡ n → ⊥) → SameNode (at w.nodes m) (at v.nodes m)
  pub own : Node
  pub own_is : at v.nodes n ≡ Some own
  pub end_is : own.end ≡ x
  pub checkpoint_is : own.checkpoint ≡ node.checkpoint

-- no book and no attempt has the tunnel
pub record IsUnbooked (h : History) (n i : ℕ) (k : Kept) : Type 0 where
  pub book : (b : BookTunnel) → tunnel_at k i ≡ Some b → ⊥
  pub attempts : (a : ℕ) (m : Restored) → h.attempts n a ≡ Some m → m.tunnel.local ≡ i → ⊥

not_zero : (k j : ℕ) → k ≡ j → 0 < j → k ≡ 0 → ⊥
not_zero k j same some none = omega (arith, same, some, none)

opener_made : (a : Account) → a.part ≡ Opener → IsMade a
opener_made a h none = let two : Opener ≡ Unmade = sym h ∙ none in cc

acceptor_made : (a : Account) → a.part ≡ Acceptor → IsMade a
acceptor_made a h none = let two : Acceptor ≡ Unmade = sym h ∙ none in cc

renewed_made : (a : Account) → a.part ≡ Renewed → IsMade a
renewed_made a h none = let two : Renewed ≡ Unmade = sym h ∙ none in cc

-- what its opener needs to know of it
abbrev pub StaysJoined : History → ℕ → ℕ → Account → Type 0
StaysJoined k n i b = b.part ≡ Acceptor → (partner_in k.accounts 0 b).remote ≡ i → AreJoined (partner_in k.accounts 0 b) b

module _ (w v : World) (h k : History) (n i e : ℕ) (only : IsOnly h k n i e) (holds : Holds w h) (node : Node) (x : End) (alike : IsAlike w v n node x)
    -- one that knows its other end isn't closed so early
    (late : e ≡ 0 → ((h.accounts n i e).remote ≡ 0 → ⊥) → (k.accounts n i e).closed ≡ Some 0 → (h.accounts n i e).closed ≡ Some 0)
    -- one that doesn't is learned, or closed, only where no book has it
    (settled : e ≡ 0 → (h.accounts n i e).remote ≡ 0
    → (((k.accounts n i e).remote ≡ 0) × ((k.accounts n i e).closed ≡ Some 0 → (h.accounts n i e).closed ≡ Some 0)) ⊎ IsUnbooked h n i node.checkpoint.book)
    (node_is : at w.nodes n ≡ Some node) where
  grown : (m j u : ℕ) → Extends (h.accounts m j u) (k.accounts m j u)
  grown m j u = all_extend h k n i e only m j u

  epochs : (m j : ℕ) → epoch_of v m j ≡ epoch_of w m j
  epochs m j = ap (λ (s : Standing). s.epoch) (alike.standings m j)

  -- ---- links and books

  late_all : (m j : ℕ) → ((h.accounts m j 0).remote ≡ 0 → ⊥) → (k.accounts m j 0).closed ≡ Some 0 → (h.accounts m j 0).closed ≡ Some 0
  late_all m j some closed = ⊎_elim
      (λ (q : (m ≡ n) × (j ≡ i) × (0 ≡ e)).
      let own = λ (z : ℕ). (h.accounts n i z).closed in
      subst (λ z. (h.accounts z j 0).closed ≡ Some 0) (sym q.0) (subst (λ z. (h.accounts n z 0).closed ≡ Some 0) (sym q.1) (subst (λ z. (h.accounts n i z).closed ≡ Some 0) (sym q.2)
      (late (sym q.2)
      (λ none. some (subst (λ z. (h.accounts z j 0).remote ≡ 0) (sym q.0) (subst (λ z. (h.accounts n z 0).remote ≡ 0) (sym q.1) (subst (λ z. (h.accounts n i z).remote ≡ 0) (sym q.2) none))))
      (subst (λ z. (k.accounts n i z).closed ≡ Some 0) q.2 (subst (λ z. (k.accounts n z 0).closed ≡ Some 0) q.1 (subst (λ z. (k.accounts z j 0).closed ≡ Some 0) q.0 closed)))))))
      (λ o. ap (λ (a : Account). a.closed) (sym (only.others m j 0 o)) ∙ closed)
      (here_or_not m j 0 n i e)

  linked_made : (m j p q : ℕ) → AreLinked h.accounts m j p q → IsMade (h.accounts m j 0)
  linked_made m j p q l = ⊎_elim (λ z. opener_made (h.accounts m j 0) z.0) (λ z. acceptor_made (h.accounts m j 0) z.0) l.parts

  linked_other : (m j p q : ℕ) → AreLinked h.accounts m j p q → IsMade (h.accounts p q 0)
  linked_other m j p q l = ⊎_elim (λ z. acceptor_made (h.accounts p q 0) z.1) (λ z. opener_made (h.accounts p q 0) z.1) l.parts

  pub linked_later : (m j p q : ℕ) → AreLinked h.accounts m j p q → AreLinked k.accounts m j p q
  linked_later m j p q l =
      let g = grown m j 0 in
      let f = grown p q 0 in
      let made = linked_made m j p q l in
      let other = linked_other m j p q l in
      let known = not_zero (h.accounts m j 0).remote q l.forth l.to_some in
      let back_known = not_zero (h.accounts p q 0).remote j l.back l.from_some in
      record {
        forth_peer = g.peer made ∙ l.forth_peer;
        forth = remote_on (h.accounts m j 0) (k.accounts m j 0) g known ∙ l.forth;
        back_peer = f.peer other ∙ l.back_peer;
        back = remote_on (h.accounts p q 0) (k.accounts p q 0) f back_known ∙ l.back;
        from_some = l.from_some;
        to_some = l.to_some;
        from_late = λ closed. l.from_late (late_all m j known closed);
        to_late = λ closed. l.to_late (late_all p q back_known closed);
        parts = ⊎_elim
            (λ z. inl (part_on (h.accounts m j 0) (k.accounts m j 0) g made ∙ z.0, part_on (h.accounts p q 0) (k.accounts p q 0) f other ∙ z.1))
            (λ z. inr (part_on (h.accounts m j 0) (k.accounts m j 0) g made ∙ z.0, part_on (h.accounts p q 0) (k.accounts p q 0) f other ∙ z.1))
            l.parts;
      }

  -- a tunnel has learned no more than it had
  abbrev IsSettled : ℕ → ℕ → Type 0
  IsSettled m j = (h.accounts m j 0).remote ≡ 0 → ((k.accounts m j 0).remote ≡ 0) × ((k.accounts m j 0).closed ≡ Some 0 → (h.accounts m j 0).closed ≡ Some 0)

  settled_other : (m j : ℕ) → ((m ≡ n) × (j ≡ i) → ⊥) → IsSettled m j
  settled_other m j o none =
      let same = only.others m j 0 (λ (q : (m ≡ n) × (j ≡ i) × (0 ≡ e)). o (q.0, q.1)) in
      (ap (λ (a : Account). a.remote) same ∙ none, λ closed. ap (λ (a : Account). a.closed) (sym same) ∙ closed)

  settled_later : 0 < e → (m j : ℕ) → IsSettled m j
  settled_later lt m j none =
      let same = only.others m j 0 (λ (q : (m ≡ n) × (j ≡ i) × (0 ≡ e)). let z = q.2 in let no : ⊥ = omega (arith, z, lt) in no) in
      (ap (λ (a : Account). a.remote) same ∙ none, λ closed. ap (λ (a : Account). a.closed) (sym same) ∙ closed)

  -- of its own tunnel, where some book has it
  settled_own : (IsUnbooked h n i node.checkpoint.book → ⊥) → IsSettled n i
  settled_own booked = ⊎_elim
      (λ (z : e ≡ 0). λ none. ⊎_elim
      (λ q. (
        subst (λ u. (k.accounts n i u).remote ≡ 0) z q.0,
        λ closed. subst (λ u. (h.accounts n i u).closed ≡ Some 0) z (q.1 (subst (λ u. (k.accounts n i u).closed ≡ Some 0) (sym z) closed)),
      ))
      (λ un. absurd (booked un))
      (settled z (subst (λ u. (h.accounts n i u).remote ≡ 0) (sym z) none)))
      (λ (o : e ≡ 0 → ⊥). settled_later (omega (arith, o)) n i)
      (same_or_not e 0)

  own_or_not : (m j : ℕ) → ((m ≡ n) × (j ≡ i)) ⊎ ((m ≡ n) × (j ≡ i) → ⊥)
  own_or_not m j = ⊎_elim
      (λ (p : m ≡ n). ⊎_elim (λ (q : j ≡ i). inl (p, q)) (λ no. inr (λ (r : (m ≡ n) × (j ≡ i)). no r.1)) (same_or_not j i))
      (λ no. inr (λ (r : (m ≡ n) × (j ≡ i)). no r.0))
      (same_or_not m n)

  knows_later : (m j remote : ℕ) → 0 < remote → IsSettled m j → IsMade (h.accounts m j 0) → 0 < j → KnowsBy h.accounts m j remote → KnowsBy k.accounts m j remote
  knows_later m j remote some is made own_some (ByLetter known) =
      ByLetter (remote_on (h.accounts m j 0) (k.accounts m j 0) (grown m j 0) (not_zero (h.accounts m j 0).remote remote known some) ∙ known)
  knows_later m j remote some is made own_some (ByRecord part none acceptor home own) =
      let a = h.accounts m j 0 in
      let peer : (k.accounts m j 0).peer ≡ a.peer = (grown m j 0).peer made in
      let b = h.accounts a.peer remote 0 in
      let g = grown a.peer remote 0 in
      let b_made = acceptor_made b acceptor in
      ByRecord (part_on a (k.accounts m j 0) (grown m j 0) made ∙ part) ((is none).0)
      (ap (λ z. (k.accounts z remote 0).part) peer ∙ (part_on b (k.accounts a.peer remote 0) g b_made ∙ acceptor))
      (ap (λ z. (k.accounts z remote 0).peer) peer ∙ (g.peer b_made ∙ home))
      (ap (λ z. (k.accounts z remote 0).remote) peer ∙ (remote_on b (k.accounts a.peer remote 0) g (not_zero b.remote j own own_some) ∙ own))

  -- the other end of a tunnel that is known still names it
  named_later : (m j : ℕ) → IsMade (h.accounts m j 0) → ((h.accounts m j 0).remote ≡ 0 → ⊥) → 0 < j → (partner_in h.accounts 0 (h.accounts m j 0)).remote ≡ j
      → (partner_in k.accounts 0 (k.accounts m j 0)).remote ≡ j
  named_later m j made known some named =
      let a = h.accounts m j 0 in
      let g = grown a.peer a.remote 0 in
      ap₂ (λ y z. (k.accounts y z 0).remote) ((grown m j 0).peer made) (remote_on a (k.accounts m j 0) (grown m j 0) known)
      ∙ (remote_on (h.accounts a.peer a.remote 0) (k.accounts a.peer a.remote 0) g (not_zero (h.accounts a.peer a.remote 0).remote j named some) ∙ named)

  learned_later : (m j : ℕ) → IsMade (h.accounts m j 0) → 0 < j → ((h.accounts m j 0).part ≡ Acceptor → (partner_in h.accounts 0 (h.accounts m j 0)).remote ≡ j)
      → (k.accounts m j 0).part ≡ Acceptor → (partner_in k.accounts 0 (k.accounts m j 0)).remote ≡ j
  learned_later m j made some was acceptor =
      let own : (h.accounts m j 0).part ≡ Acceptor = sym (part_on (h.accounts m j 0) (k.accounts m j 0) (grown m j 0) made) ∙ acceptor in
      let ok : IsAcceptor h.accounts m j (h.accounts m j 0) = (subst (IsPart w h m j 0 (h.accounts m j 0)) own (holds.accounts m j 0).part).1 in
      named_later m j made ok.known some (was own)

  booked_later : (m : ℕ) (b : BookTunnel) → IsSettled m b.local → BookedOk h m b → BookedOk k m b
  booked_later m b is ok =
      let some = (holds.accounts m b.local 0).some ok.made in
      record {
        made = made_on (h.accounts m b.local 0) (k.accounts m b.local 0) (grown m b.local 0) ok.made;
        peer = ok.peer ∙ ap address_of (sym ((grown m b.local 0).peer ok.made));
        remote = ok.remote;
        knows = knows_later m b.local b.remote ok.remote is ok.made some ok.knows;
        learned = learned_later m b.local ok.made some ok.learned;
        late = λ closed. ⊎_elim
            (λ (none : (h.accounts m b.local 0).remote ≡ 0). ok.late ((is none).1 closed))
            (λ known. ok.late (late_all m b.local known closed))
            (same_or_not (h.accounts m b.local 0).remote 0);
      }

  attempt_later : (m a : ℕ) (r : Restored) → h.attempts m a ≡ Some r → AttemptOk h m a r → AttemptOk k m a r
  attempt_later m a r there ok = record {
    own = ok.own;
    some = ok.some;
    fits = ok.fits;
    draw_fits = ok.draw_fits;
    booked = booked_later m r.tunnel (⊎_elim
        (λ (q : (m ≡ n) × (r.tunnel.local ≡ i)).
        subst (λ z. IsSettled z r.tunnel.local) (sym q.0) (subst (IsSettled n) (sym q.1)
        (settled_own (λ un. un.attempts a r (subst (λ z. h.attempts z a ≡ Some r) q.0 there) q.1))))
        (λ o. settled_other m r.tunnel.local o)
        (own_or_not m r.tunnel.local)) ok.booked;
  }

  book_own : BookOk h n node.checkpoint.book → BookOk k n node.checkpoint.book
  book_own ok = record {
    tunnels = λ j b is. booked_later n b (⊎_elim
        (λ (same : b.local ≡ i). subst (IsSettled n) (sym same) (settled_own (λ un. un.book b (subst (λ z. tunnel_at node.checkpoint.book z ≡ Some b) (sym (ok_local j b is) ∙ same) is))))
        (λ o. settled_other n b.local (λ q. o q.1))
        (same_or_not b.local i)) (ok.tunnels j b is);
    apart = ok.apart;
    calls = ok.calls;
  }
    where
      ok_local : (j : ℕ) (b : BookTunnel) → tunnel_at node.checkpoint.book j ≡ Some b → b.local ≡ j
      ok_local j b is = entry_has (λ (t : BookTunnel). t.local) j node.checkpoint.book.tunnels b is

  book_other : (m : ℕ) → (m ≡ n → ⊥) → (q : Kept) → BookOk h m q → BookOk k m q
  book_other m o q ok = record {
    tunnels = λ j b is. booked_later m b (settled_other m b.local (λ z. o z.0))
        (ok.tunnels j b is);
    apart = ok.apart;
    calls = ok.calls;
  }

  -- ---- answers

  answer_later : (m c : ℕ) (f : Froze) → AnswerOk w h m c f → AnswerOk v k m c f
  answer_later m c f ok =
      let makes_it = alike.makes_as m c in
      let made = ap (λ (s : Standing). s.made) (alike.standings m f.tunnel) in
      let some = ok.epoch_some in
      let le = ok.epoch_made in
      record {
        own = ok.own;
        some = ok.some;
        fits = ok.fits;
        draw_fits = ok.draw_fits;
        peer_fits = ok.peer_fits;
        peer_is = ok.peer_is;
        linked = linked_later m f.tunnel (node_of f.peer) f.remote ok.linked;
        attempt = ok.attempt;
        attempted = only.attempts (node_of f.peer) f.attempt ∙ ok.attempted;
        attempts = ok.attempts;
        epoch_some = omega (arith, makes_it, some);
        epoch_made = omega (arith, makes_it, made, le);
        expect = ok.expect;
        send_from = ok.send_from;
      }

  -- ---- other channels

  pub are_taken_later : (u : ℕ) (a : Account) → AreTaken h.accounts u a → AreTaken k.accounts u a
  are_taken_later u a was place t is lt =
      let q = was place t is lt in
      record {
        numbered = q.numbered;
        partner = q.partner;
        learned = q.learned;
        sender = q.sender;
        letter = q.letter;
        there = got_given (h.accounts q.partner.node q.partner.tunnel u) (k.accounts q.partner.node q.partner.tunnel u) (grown q.partner.node q.partner.tunnel u) place q.letter q.there;
        tells = q.tells;
      }

  -- what the channel itself has to show
  module _ (joined : StaysJoined k n i (k.accounts n i e)) (account : AccountOk v k n i e (k.accounts n i e)) where
    module _ (m j : ℕ) (some : 0 < j) (same : k.accounts m j 0 ≡ h.accounts m j 0) where
      abbrev a : Account
      a = h.accounts m j 0

      abbrev b : Account
      b = partner_in h.accounts 0 a

      abbrev c : Account
      c = partner_in k.accounts 0 a

      g : Extends b c
      g = grown a.peer a.remote 0

      named_still : b.remote ≡ j → c.remote ≡ j
      named_still named = remote_on b c g (not_zero b.remote j named some) ∙ named

      opener_later : IsOpener h.accounts m j a → IsOpener k.accounts m j a
      opener_later o = record {
        begins = o.begins;
        none = o.none;
        one_given = o.one_given;
        some = o.some;
        part = part;
        peer = peer;
        remote = remote;
        joined = joined_so;
        early = o.early;
      }
        where
          part : (a.remote ≡ 0 → ⊥) → c.part ≡ Acceptor
          part z = part_on b c g (acceptor_made b (o.part z)) ∙ o.part z

          peer : (a.remote ≡ 0 → ⊥) → c.peer ≡ m
          peer z = g.peer (acceptor_made b (o.part z)) ∙ o.peer z

          remote : (a.remote ≡ 0 → ⊥) → c.remote ≡ j
          remote z = named_still (o.remote z)

          back : (a.remote ≡ 0 → ⊥) → partner_in k.accounts 0 c ≡ a
          back z = ap₂ (λ x y. k.accounts x y 0) (peer z) (remote z) ∙ same

          joined_so : (a.remote ≡ 0 → ⊥) → AreJoined a c
          joined_so z = ⊎_elim
              (λ (q : (a.peer ≡ n) × (a.remote ≡ i) × (0 ≡ e)).
              let own : c ≡ k.accounts n i e = ap₂ (λ x y. k.accounts x y 0) q.0 q.1 ∙ ap (k.accounts n i) q.2 in
              let accepted : (k.accounts n i e).part ≡ Acceptor = ap (λ (y : Account). y.part) (sym own) ∙ part z in
              let partner : partner_in k.accounts 0 (k.accounts n i e) ≡ a = ap (partner_in k.accounts 0) (sym own) ∙ back z in
              let found = joined accepted (ap (λ (y : Account). y.remote) partner ∙ q.1) in
              subst (AreJoined a) (sym own) (subst (λ y. AreJoined y (k.accounts n i e)) partner found))
              (λ o_. subst (AreJoined a) (sym (only.others a.peer a.remote 0 o_)) (o.joined z))
              (here_or_not a.peer a.remote 0 n i e)

      acceptor_later : IsAcceptor h.accounts m j a → IsAcceptor k.accounts m j a
      acceptor_later o =
          let made = opener_made b o.part in
          record {
            begins = o.begins;
            known = o.known;
            some = o.some;
            part = part_on b c g made ∙ o.part;
            peer = g.peer made ∙ o.peer;
            one_taken = λ no. ⊎_elim (λ one. inl one) (λ (lost : IsLost b × (length a.taken ≤ 2)). inr (lost_on b c g lost.0, lost.1))
                (o.one_taken (λ named. no (named_still named)));
            one_given = λ no. o.one_given (λ named. no (named_still named));
          }

    -- of a later epoch
    module _ (m j u : ℕ) (r : IsRenewed w h m j u (h.accounts m j u)) where
      abbrev ra : Account
      ra = h.accounts m j u

      first_made : IsMade (h.accounts m j 0)
      first_made = linked_made m j ra.peer ra.remote r.linked

      link : AreLinked k.accounts m j ra.peer ra.remote
      link = linked_later m j ra.peer ra.remote r.linked

      -- where its other end is the channel of which more is known
      even_own : (ra.peer ≡ n) × (ra.remote ≡ i) × (u ≡ e) → AreEven ra (k.accounts n i e)
      even_own q = by (k.accounts n i e).part refl
        where
          lt : 0 < e
          lt = let z = q.2 in let later = r.later in omega (arith, z, later)

          was : Account
          was = h.accounts n i e

          partner : partner_in h.accounts u ra ≡ h.accounts n i e
          partner = ap₂ (λ y z. h.accounts y z u) q.0 q.1 ∙ ap (h.accounts n i) q.2

          was_renewed : (h.accounts n i e).part ≡ Renewed
          was_renewed = ⊎_elim
              (λ is. ap (λ (y : Account). y.part) (sym partner) ∙ is)
              (λ none. absurd (only.later lt (ap (λ (y : Account). y.part) (sym partner ∙ none))))
              r.other

          now_renewed : (k.accounts n i e).part ≡ Renewed
          now_renewed = part_on (h.accounts n i e) (k.accounts n i e) only.here (only.later lt) ∙ was_renewed

          own : IsRenewed v k n i e (k.accounts n i e)
          own = subst (IsPart v k n i e (k.accounts n i e)) now_renewed account.part

          to_own : AreLinked k.accounts m j n i
          to_own = subst (λ z. AreLinked k.accounts m j n z) q.1 (subst (λ z. AreLinked k.accounts m j z ra.remote) q.0 link)

          its_partner : partner_in k.accounts e (k.accounts n i e) ≡ k.accounts m j e
          its_partner = ap₂ (λ y z. k.accounts y z e) (own.peer ∙ to_own.back_peer) (own.remote ∙ to_own.back)

          not_here : (m ≡ n) × (j ≡ i) × (u ≡ e) → ⊥
          not_here z = not_itself k.accounts m j n i to_own z.0 z.1

          same : k.accounts m j e ≡ ra
          same = ap (k.accounts m j) (sym q.2) ∙ only.others m j u not_here

          by : (p : Part) → (k.accounts n i e).part ≡ p → AreEven ra (k.accounts n i e)
          by p is =
              let f : AreEven (k.accounts n i e) ra = subst (AreEven (k.accounts n i e)) (its_partner ∙ same) own.joined in
              record { here = f.there; there = f.here; few_here = f.few_there; few_there = f.few_here }

      renewed_later : IsRenewed v k m j u ra
      renewed_later = record {
        later = r.later;
        peer = r.peer ∙ sym ((grown m j 0).peer first_made);
        remote = r.remote ∙ sym (remote_on (h.accounts m j 0) (k.accounts m j 0) (grown m j 0) (not_zero (h.accounts m j 0).remote ra.remote (sym r.remote) r.linked.to_some));
        linked = link;
        by = r.by;
        answer = r.answer;
        froze = r.froze;
        answered = only.answers r.by.node r.by.tunnel ∙ r.answered;
        makes_it = alike.makes_as r.by.node r.by.tunnel ∙ r.makes_it;
        begins = begins r.begins;
        other = ⊎_elim
            (λ (is : (partner_in h.accounts u ra).part ≡ Renewed).
            inl (part_on (partner_in h.accounts u ra) (partner_in k.accounts u ra) (grown ra.peer ra.remote u) (renewed_made (partner_in h.accounts u ra) is) ∙ is))
            (λ (none : partner_in h.accounts u ra ≡ no_account). ⊎_elim
            (λ (q : (ra.peer ≡ n) × (ra.remote ≡ i) × (u ≡ e)). absurd (absent q none))
            (λ o. inr (only.others ra.peer ra.remote u o ∙ none))
            (here_or_not ra.peer ra.remote u n i e))
            r.other;
        same = λ part. ⊎_elim
            (λ (is : (partner_in h.accounts u ra).part ≡ Renewed). (grown ra.peer ra.remote u).answer ∙ r.same is)
            (λ (none : partner_in h.accounts u ra ≡ no_account). ⊎_elim
            (λ (q : (ra.peer ≡ n) × (ra.remote ≡ i) × (u ≡ e)). absurd (absent q none))
            (λ o. absurd (no_part (ap (λ (y : Account). y.part) (sym (only.others ra.peer ra.remote u o ∙ none)) ∙ part)))
            (here_or_not ra.peer ra.remote u n i e))
            r.other;
        joined = ⊎_elim
            (λ (q : (ra.peer ≡ n) × (ra.remote ≡ i) × (u ≡ e)).
            subst (AreEven ra) (ap (k.accounts n i) (sym q.2) ∙ ap₂ (λ y z. k.accounts y z u) (sym q.0) (sym q.1)) (even_own q))
            (λ o. subst (AreEven ra) (sym (only.others ra.peer ra.remote u o)) r.joined)
            (here_or_not ra.peer ra.remote u n i e);
        no_opening = r.no_opening;
      }
        where
          no_part : Unmade ≡ Renewed → ⊥
          no_part is = cc

          absent : (ra.peer ≡ n) × (ra.remote ≡ i) × (u ≡ e) → partner_in h.accounts u ra ≡ no_account → ⊥
          absent q none =
              let z = q.2 in
              let later = r.later in
              let is : h.accounts n i e ≡ no_account = ap (h.accounts n i) (sym q.2) ∙ (ap₂ (λ y z. h.accounts y z u) (sym q.0) (sym q.1) ∙ none) in
              only.later (omega (arith, z, later)) (ap (λ (y : Account). y.part) is)

          begins : BeginsBy h m j ra r.by.node r.by.tunnel r.froze → BeginsBy k m j ra r.by.node r.by.tunnel r.froze
          begins (AsGiver x y z p q s) = AsGiver x y z p q s
          begins (AsPeer x y z p q s) = AsPeer x y z p q s

    part_later : (m j u : ℕ) → ((m ≡ n) × (j ≡ i) × (u ≡ e) → ⊥) → (p : Part) → (h.accounts m j u).part ≡ p
        → IsPart w h m j u (h.accounts m j u) p → IsPart v k m j u (h.accounts m j u) p
    part_later m j u o Unmade own is = is
    part_later m j u o Opener own is =
        let some = (holds.accounts m j u).some (opener_made (h.accounts m j u) own) in (
          is.0,
          subst (λ z. IsOpener k.accounts m j (h.accounts m j z)) (sym is.0)
              (opener_later m j some (only.others m j 0 (λ q. o (q.0, q.1, is.0 ∙ q.2))) (subst (λ z. IsOpener h.accounts m j (h.accounts m j z)) is.0 is.1)),
        )
    part_later m j u o Acceptor own is =
        let some = (holds.accounts m j u).some (acceptor_made (h.accounts m j u) own) in (
          is.0,
          subst (λ z. IsAcceptor k.accounts m j (h.accounts m j z)) (sym is.0)
              (acceptor_later m j some (only.others m j 0 (λ q. o (q.0, q.1, is.0 ∙ q.2))) (subst (λ z. IsAcceptor h.accounts m j (h.accounts m j z)) is.0 is.1)),
        )
    part_later m j u o Renewed own is = renewed_later m j u is

    account_later : (m j u : ℕ) → ((m ≡ n) × (j ≡ i) × (u ≡ e) → ⊥) → AccountOk w h m j u (h.accounts m j u) → AccountOk v k m j u (k.accounts m j u)
    account_later m j u o ok = subst (AccountOk v k m j u) (sym (only.others m j u o)) (record {
      part = part_later m j u o (h.accounts m j u).part refl ok.part;
      some = ok.some;
      id = ok.id;
      node = ok.node;
      peer = ok.peer;
      remote = ok.remote;
      first_given = ok.first_given;
      first_taken = ok.first_taken;
      from_none = ok.from_none;
      spelled = ok.spelled;
      told = ok.told;
      taken = are_taken_later u (h.accounts m j u) ok.taken;
      ignored = ok.ignored;
      entered = λ made. (let same = epochs m j in let le = ok.entered made in omega (arith, same, le));
      declined = ok.declined;
    })

    -- ---- recovery tunnels

    pub recovered_later : (m j : ℕ) → IsMade (h.accounts m j 0) → (r : Recovering) → IsRecovered w h m j r → IsRecovered v k m j r
    recovered_later m j made (ByAttempt c) (q, reset, named) = (
      (q.0, only.attempts m c.local ∙ q.1, q.2, q.3),
      λ is. (let s = reset is in
          let now = epochs m j in
          let makes_it = alike.makes_as (h.accounts m j 0).peer c.remote in
          let le = s.4 in
          subst (λ p. (f : Froze) × (k.answers p c.remote ≡ Some f) × (f.remote ≡ j) × (f.attempt ≡ c.local) × (makes v p c.remote ≤ epoch_of v m j) × (node_of f.peer ≡ m)) (sym ((grown m j 0).peer made))
          (s.0, only.answers (h.accounts m j 0).peer c.remote ∙ s.1, s.2, s.3, omega (arith, now, makes_it, le), s.5)),
      subst (λ p. (c.remote ≡ 0) ⊎ (is_some (k.answers p c.remote) ≡ true)) (sym ((grown m j 0).peer made))
          (⊎_elim (λ none. inl none) (λ is. inr (ap is_some (only.answers (h.accounts m j 0).peer c.remote) ∙ is)) named),
    )
    recovered_later m j made (ByAnswer a) q = (
      q.0,
      only.answers m a.connection.local ∙ q.1,
      q.2,
      q.3,
      q.4,
      λ is. (let now = epochs m j in let makes_it = alike.makes_as m a.connection.local in let le = q.5 is in omega (arith, now, makes_it, le)),
      q.6,
    )

    -- ---- other live tunnels

    module _ (m j : ℕ) (o : (m ≡ n) × (j ≡ i) → ⊥) (t : Tunnel) (live : LiveOk w h m j t) where
      some : 0 < j
      some = (holds.accounts m j 0).some live.made

      made_first : IsMade (h.accounts m j 0)
      made_first = live.made

      named_now : (u : ℕ) (a : Account) → (partner_in h.accounts u a).remote ≡ j → (partner_in k.accounts u a).remote ≡ j
      named_now u a named =
          remote_on (partner_in h.accounts u a) (partner_in k.accounts u a) (grown a.peer a.remote u) (not_zero (partner_in h.accounts u a).remote j named some) ∙ named

      state_later : (u : ℕ) (a : Account) (p : Part) → IsInState h.accounts j u a t p → IsInState k.accounts j u a t p
      state_later u a Unmade is = is
      state_later u a Opener is = is
      state_later u a Acceptor is = ⊎_elim
          (λ q. inl q)
          (λ r. ⊎_elim
          (λ (q : (state_number t.control.state ≡ 3) × ((partner_in h.accounts 0 a).remote ≡ j) × IsOpen a). inr (inl (q.0, named_now 0 a q.1, q.2)))
          (λ (q : IsShut a t). inr (inr q)) r) is
      state_later u a Renewed is = is

      answered_later : (a : Account) (acked : ℕ) → IsAnswered h.accounts m j a acked → IsAnswered k.accounts m j a acked
      answered_later a acked q =
          let b = h.accounts a.peer q.acceptor 0 in
          let g = grown a.peer q.acceptor 0 in
          let made = acceptor_made b q.part in
          record {
            acceptor = q.acceptor;
            part = part_on b (k.accounts a.peer q.acceptor 0) g made ∙ q.part;
            peer = g.peer made ∙ q.peer;
            remote = remote_on b (k.accounts a.peer q.acceptor 0) g (not_zero b.remote j q.remote some) ∙ q.remote;
            enough = (let le = q.enough in let more = more_taken b (k.accounts a.peer q.acceptor 0) g in omega (arith, le, more));
          }

      more_of : (u : ℕ) (a : Account) → length (partner_in h.accounts u a).taken ≤ length (partner_in k.accounts u a).taken
      more_of u a = more_taken (partner_in h.accounts u a) (partner_in k.accounts u a) (grown a.peer a.remote u)

      acked_later : (u : ℕ) (a : Account) (acked : ℕ) (p : Part) → AreAcked h.accounts m j u a acked p → AreAcked k.accounts m j u a acked p
      acked_later u a acked Unmade q = q
      acked_later u a acked Opener q = (
        λ none. ⊎_elim (λ z. inl z) (λ r. inr (⊎_elim (λ s. inl (answered_later a acked s)) (λ s. inr s) r)) (q.0 none),
        λ known. (let le = q.1 known in let more = more_of 0 a in omega (arith, le, more)),
      )
      acked_later u a acked Acceptor q = (
        λ no. ⊎_elim (λ z. inl z) (λ lost. inr (lost_on (partner_in h.accounts 0 a) (partner_in k.accounts 0 a) (grown a.peer a.remote 0) lost)) (q.0 (λ named. no (named_now 0 a named))),
        λ named. ⊎_elim
            (λ (before : (partner_in h.accounts 0 a).remote ≡ j). (let le = q.1 before in let more = more_of 0 a in omega (arith, le, more)))
            (λ no. ⊎_elim (λ (none : acked ≡ 0). omega (arith, none))
            (λ (lost : IsLost (partner_in h.accounts 0 a)).
            let z = (lost_on (partner_in h.accounts 0 a) (partner_in k.accounts 0 a) (grown a.peer a.remote 0) lost).1 in absurd (omega (arith, named, z, some)))
            (q.0 no))
            (same_or_not (partner_in h.accounts 0 a).remote j),
      )
      acked_later u a acked Renewed q = (let more = more_of u a in omega (arith, q, more))

      channel_later : (u : ℕ) (a : Account) → ChannelOk h.accounts m j u a t → ChannelOk k.accounts m j u a t
      channel_later u a c = record {
        peer = c.peer;
        remote = c.remote;
        state = state_later u a a.part c.state;
        acked = c.acked;
        acked_is = c.acked_is;
        letters = c.letters;
        counted = c.counted;
        few = c.few;
        outstanding = c.outstanding;
        taken = c.taken;
        were_acked = acked_later u a c.acked a.part c.were_acked;
      }

      pub live_later : LiveOk v k m j t
      live_later = record {
        local = live.local;
        made = made_on (h.accounts m j 0) (k.accounts m j 0) (grown m j 0) live.made;
        peer = live.peer ∙ ap address_of (sym ((grown m j 0).peer live.made));
        channel = λ current.
            (let same = only.others m j (epoch_of w m j) (λ q. o (q.0, q.1)) in
            subst (λ u. ChannelOk k.accounts m j u (k.accounts m j u) t) (sym (epochs m j))
            (subst (λ a. ChannelOk k.accounts m j (epoch_of w m j) a t) (sym same) (channel_later (epoch_of w m j) (h.accounts m j (epoch_of w m j)) (live.channel current))));
        kept = λ current. ap (λ (s : Standing). s.lost) (alike.standings m j) ∙ live.kept current;
        established = live.established;
        some = live.some;
        knows = λ inactive. knows_later m j t.control.remote (live.some inactive) (settled_other m j o) live.made some (live.knows inactive);
        learned = λ inactive. learned_later m j live.made some (live.learned inactive);
        recovery = λ r is. recovered_later m j live.made r (live.recovery r is);
        unattempted = λ early a r is. live.unattempted early a r (sym (only.attempts m a) ∙ is);
        calls = live.calls;
        query = subst (λ u. QueryOk u t.query) (sym (epochs m j)) live.query;
      }

    -- ---- nodes

    some_before : {X : Type 0} (y z : Option X) → y ≡ z → is_some y ≡ true → is_some z ≡ true
    some_before y z same is = ap is_some (sym same) ∙ is

    ids_later : (m : ℕ) (y : End) → (m ≡ n → ⊥) → IdsOk h m y → IdsOk k m y
    ids_later m y o ids =
        let same = λ (j : ℕ). only.others m j 0 (λ (q : (m ≡ n) × (j ≡ i) × (0 ≡ e)). o q.0) in
        record {
          tunnels = λ j made. ids.tunnels j (λ none. made (ap (λ (a : Account). a.part) (same j) ∙ none));
          attempts = λ a is. ids.attempts a (some_before (k.attempts m a) (h.attempts m a) (only.attempts m a) is);
          answers = λ c is. ids.answers c (some_before (k.answers m c) (h.answers m c) (only.answers m c) is);
          no_attempt = λ j made. only.attempts m j ∙ ids.no_attempt j (λ none. made (ap (λ (a : Account). a.part) (same j) ∙ none));
          no_answer = λ j made. only.answers m j ∙ ids.no_answer j (λ none. made (ap (λ (a : Account). a.part) (same j) ∙ none));
          one = λ a is. only.answers m a ∙ ids.one a (some_before (k.attempts m a) (h.attempts m a) (only.attempts m a) is);
        }

    other_node : (m : ℕ) → (m ≡ n → ⊥) → (a b : Option Node) → SameNode a b → NodeOk w h m a → NodeOk v k m b
    other_node m o None None s ok = (
      λ j u. only.others m j u (λ q. o q.0) ∙ ok.0 j u,
      ((λ a. only.attempts m a ∙ ok.1.0 a), (λ c. only.answers m c ∙ ok.1.1 c)),
    )
    other_node m o None (Some b) s ok = absurd s
    other_node m o (Some a) None s ok = absurd s
    other_node m o (Some a) (Some b) s ok = (
      subst (EndOk v k m) (sym s.0) (record {
        node = ok.0.node;
        number = ok.0.number;
        lns = ok.0.lns;
        ids = ids_later m a.end o ok.0.ids;
        live = λ j t there. live_later m j (λ q. o q.0) t (ok.0.live j t there);
        apart = ok.0.apart;
      }),
      subst (λ (c : Checkpoint). BookOk k m c.book) (sym s.1) (book_other m o a.checkpoint.book ok.1),
    )

    node_later : EndOk v k n x → (m : ℕ) → NodeOk v k m (at v.nodes m)
    node_later ok m = ⊎_elim
        (λ (same : m ≡ n). subst (λ q. NodeOk v k q (at v.nodes q)) (sym same)
        (subst (NodeOk v k n) (sym alike.own_is) (
          subst (EndOk v k n) (sym alike.end_is) ok,
          subst (λ (c : Checkpoint). BookOk k n c.book) (sym alike.checkpoint_is) (book_own (subst (NodeOk w h n) node_is (holds.nodes n)).1),
        )))
        (λ (o : m ≡ n → ⊥). other_node m o (at w.nodes m) (at v.nodes m) (alike.others m o) (holds.nodes m))
        (same_or_not m n)

    -- ---- standings and packets

    standing_later : (m j : ℕ) → StandingOk k m j (standing_of v m j)
    standing_later m j =
        let ok = holds.standings m j in
        let g = grown m j 0 in
        subst (StandingOk k m j) (sym (alike.standings m j)) (record {
          none = λ none. ok.none (unmade_before none (h.accounts m j 0).part refl);
          entered = λ made. by made (h.accounts m j 0).part refl;
          made = ok.made;
          fits = ok.fits;
        })
      where
        unmade_before : (k.accounts m j 0).part ≡ Unmade → (p : Part) → (h.accounts m j 0).part ≡ p → (h.accounts m j 0).part ≡ Unmade
        unmade_before none Unmade is = is
        unmade_before none Opener is = absurd (made_on (h.accounts m j 0) (k.accounts m j 0) (grown m j 0) (opener_made (h.accounts m j 0) is) none)
        unmade_before none Acceptor is = absurd (made_on (h.accounts m j 0) (k.accounts m j 0) (grown m j 0) (acceptor_made (h.accounts m j 0) is) none)
        unmade_before none Renewed is = absurd (made_on (h.accounts m j 0) (k.accounts m j 0) (grown m j 0) (renewed_made (h.accounts m j 0) is) none)

        was : IsMade (h.accounts m j 0) → IsMade (k.accounts m j (standing_of w m j).epoch)
        was made = made_on (h.accounts m j (standing_of w m j).epoch) (k.accounts m j (standing_of w m j).epoch) (grown m j (standing_of w m j).epoch) ((holds.standings m j).entered made)

        by : IsMade (k.accounts m j 0) → (p : Part) → (h.accounts m j 0).part ≡ p → IsMade (k.accounts m j (standing_of w m j).epoch)
        by made Unmade is =
            let none : (standing_of w m j).epoch ≡ 0 = ap (λ (s : Standing). s.epoch) ((holds.standings m j).none is) in
            subst (λ u. IsMade (k.accounts m j u)) (sym none) made
        by made Opener is = was (opener_made (h.accounts m j 0) is)
        by made Acceptor is = was (acceptor_made (h.accounts m j 0) is)
        by made Renewed is = was (renewed_made (h.accounts m j 0) is)

    says_later : (p : Packet) (own named : ℕ) (m : Message) → SaysRecovery w h p own named m → SaysRecovery v k p own named m
    says_later p own named _ (AsksFor r o is peer id recovery draw) = AsksFor r o (only.attempts p.from own ∙ is) peer id recovery draw
    says_later p own named _ (Suggests f o is to id suggested attempt) = Suggests f o (only.answers p.from own ∙ is) to id suggested attempt
    says_later p own named _ (Confirms f response is attempt from le) =
        let same = alike.makes_as p.to named in
        let now = epochs p.from f.remote in
        Confirms f response (only.answers p.to named ∙ is) attempt from (omega (arith, same, now, le))
    says_later p own named _ (Refuses result error fit) = Refuses result error fit

    there_on : {X : Type 0} (y z : Option X) → y ≡ z → is_some z ≡ true → is_some y ≡ true
    there_on y z same is = ap is_some same ∙ is

    origin_later : (p : Packet) (o : Origin) → OriginOk w h p o → OriginOk v k p o
    origin_later p (origin.Control o) (inl copy) = inl (copy_on (h.accounts p.from o.tunnel p.epoch) (k.accounts p.from o.tunnel p.epoch) (grown p.from o.tunnel p.epoch) p o copy)
    origin_later p (origin.Control o) (inr r) = inr (record {
      none = r.none;
      ns = r.ns;
      nr = r.nr;
      some = r.some;
      epoch = r.epoch;
      tunnel = r.tunnel;
      asked = ⊎_elim
          (λ q.
          let a = h.accounts p.to r.tunnel 0 in
          let g = grown p.to r.tunnel 0 in
          let made = opener_made a q.0 in
          inl (part_on a (k.accounts p.to r.tunnel 0) g made ∙ q.0, g.peer made ∙ q.1, g.declined q.2, q.3))
          (λ q. inr (q.0, only.attempts p.to r.tunnel ∙ q.1, q.2))
          r.asked;
      result = r.result;
      error = r.error;
      fit = r.fit;
      are = r.are;
    })
    origin_later p (origin.Data session) ok = ok
    origin_later p (origin.Recovery own number empty) r = record {
      named = r.named;
      names = ⊎_elim (λ z. inl z)
          (λ q. inr (⊎_elim (λ s. inl (there_on (k.attempts p.to r.named) (h.attempts p.to r.named) (only.attempts p.to r.named) s))
          (λ s. inr (there_on (k.answers p.to r.named) (h.answers p.to r.named) (only.answers p.to r.named) s)) q))
          r.names;
      is = ⊎_elim (λ s. inl (there_on (k.attempts p.from own) (h.attempts p.from own) (only.attempts p.from own) s))
          (λ s. inr (there_on (k.answers p.from own) (h.answers p.from own) (only.answers p.from own) s)) r.is;
      number = r.number;
      nr = r.nr;
      nr_fits = r.nr_fits;
      says = ⊎_elim (λ q. inl q) (λ q. inr (q.0, says_later p own r.named q.0 q.1, q.2, q.3)) r.says;
    }

    pub packet_later : (p : Packet) → PacketOk w h p → PacketOk v k p
    packet_later p ok = record { from = ok.from; to = ok.to; sent = origin_later p p.origin ok.sent }

    packets_later : (ps : List Packet) → AllByRecursion (PacketOk w h) ps → AllByRecursion (PacketOk v k) ps
    packets_later [] ok = tt
    packets_later (p ∷ ps) ok = (packet_later p ok.0, packets_later ps ok.1)

    -- ---- all of it

    pub holds_later : EndOk v k n x → Holds v k
    holds_later ok = record {
      accounts = λ m j u. ⊎_elim
          (λ (q : (m ≡ n) × (j ≡ i) × (u ≡ e)). rw (q.0, q.1, q.2) account)
          (λ o. account_later m j u o (holds.accounts m j u))
          (here_or_not m j u n i e);
      attempts = λ m a r is. (let was = sym (only.attempts m a) ∙ is in attempt_later m a r was (holds.attempts m a r was));
      answers = λ m c f is. (let was = sym (only.answers m c) ∙ is in answer_later m c f (holds.answers m c f was));
      standings = standing_later;
      nodes = node_later ok;
      packets = subst (AllByRecursion (PacketOk v k)) (sym alike.packets) (packets_later w.packets holds.packets);
    }
