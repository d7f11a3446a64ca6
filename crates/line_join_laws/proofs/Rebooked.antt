-- The world in which a node has a book of its end: what is known of epochs there is known without it; and of two books of one end either
-- one may be taken.
use Rattle.std.proofs.Common.{◌≡◌, ⊎_elim, ℕ, refl, sym, ap, ◌∙◌, subst, Option, Some, None, arith}
use Rattle.std.proofs.lemmas.Option.{none-some, same_Some}
use Rattle.std.specs.List.{AllByRecursion}
use Rattle.id_table.specs.Ids.{at}
use Rattle.id_table.specs.Order.{same_or_not}
use Rattle.session_book.specs.declared.record.BookCall.{BookCall}
use Rattle.session_book.specs.Books.{Kept, tunnel_at, call_at}
use Rattle.end_model.specs.Tunnels.{Tunnel}
use Rattle.end_model.specs.End.{End}
use Rattle.world_model.specs.declared.standing.Standing.{Standing}
use Rattle.world_model.specs.World.{World, Node, birth_in, birth_of, epoch_of}
use Rattle.book_laws.specs.Books.{Mirrors}
use Rattle.epoch_machine.specs.Worlds as machine
use Rattle.epoch_laws.specs.Answers.{AnswersOfRuns}
use Rattle.channel_laws.specs.Accounts.{History}
use Rattle.channel_laws.specs.Facts.{EndOk, BookOk, NodeOk, PacketOk, Holds}
use Rattle.channel_laws.specs.Epochs.{IsLive, EpochsKnown}
use Rattle.channel_laws.specs.Whole.{SameLook, CountAlike}
use Rattle.channel_laws.proofs.Looks.{same_look, end_agrees, node_agrees, packets_agree, holds_agrees}
use Rattle.channel_laws.proofs.OfEnds.{book_ok}
use Rattle.recovery_laws.specs.Joined.{AreJoined}
use Rattle.recovery_laws.proofs.Epochs.{known_so}
use Rattle.join_laws.specs.Steps.{with_book_at, with_book}
use Rattle.join_laws.proofs.Ahead.{book_standings, book_makes}
use Rattle.join_laws.proofs.Books.{booked, book_here, book_other, book_born, same_tunnels, same_call}
use Rattle.line_join_laws.proofs.Another.{SameJoin, same_join, AreSame}

module _ (w : World) (n : ℕ) (node : Node) (there : at w.nodes n ≡ Some node) (k : Kept) where
  abbrev u : World
  u = with_book w n k

  pub book_births : (q s : ℕ) → birth_of (with_book w n k) q s ≡ birth_of w q s
  unfolding birth_of
  book_births q s = ⊎_elim
      (λ (e : q ≡ n).
      ap (λ y. birth_in (at u.nodes y) s) e
      ∙ (ap (λ o. birth_in o s) (book_here w n k node there)
      ∙ sym (ap (λ y. birth_in (at w.nodes y) s) e ∙ ap (λ o. birth_in o s) there)))
      (λ o. ap (λ p. birth_in p s) (book_other w n k node there q o))
      (same_or_not q n)

  pub book_packets : (with_book w n k).packets ≡ w.packets
  book_packets = ap (λ (o : Option Node). (with_book_at w n k o).packets) there

  pub book_counts : CountAlike w (with_book w n k)
  book_counts = record { standings = book_standings w n node there k; makes_as = book_makes w n node there k }

  -- what lives in the world lives there
  pub live_there : (q i : ℕ) (t : Tunnel) → IsLive w q i t → IsLive (with_book w n k) q i t
  live_there q i t is = ⊎_elim
      (λ (e : q ≡ n).
      let same : is.node ≡ node = same_Some is.node node (sym is.is ∙ (ap (λ y. at w.nodes y) e ∙ there)) in
      record {
        node = booked node k;
        is = ap (λ y. at u.nodes y) e ∙ book_here w n k node there;
        there = subst (λ (y : Node). at y.end.tunnels i ≡ Some t) same is.there;
      })
      (λ (o : q ≡ n → ⊥). record { node = is.node; is = book_other w n k node there q o ∙ is.is; there = is.there })
      (same_or_not q n)

  -- all holds of channels there
  module _ (h : History) (holds : Holds w h) (mirrors : Mirrors node.end k) where
    own : EndOk w h n node.end × BookOk h n node.checkpoint.book
    own = subst (NodeOk w h n) there (holds.nodes n)

    nodes_there : (q : ℕ) → NodeOk u h q (at u.nodes q)
    nodes_there q = ⊎_elim
        (λ (e : q ≡ n).
        subst (λ y. NodeOk u h y (at u.nodes y)) (sym e)
        (subst (NodeOk u h n) (sym (book_here w n k node there))
        (end_agrees w u h book_counts n node.end own.0, book_ok w h holds n node.end own.0 k mirrors)))
        (λ (o : q ≡ n → ⊥).
        node_agrees w u h book_counts q (at w.nodes q) (at u.nodes q)
        (subst (SameLook (at w.nodes q)) (sym (book_other w n k node there q o)) (same_look (at w.nodes q))) (holds.nodes q))
        (same_or_not q n)

    pub book_holds : Holds (with_book w n k) h
    book_holds = holds_agrees w u h book_counts holds nodes_there
        (subst (λ ps. AllByRecursion (PacketOk u h) ps) (sym book_packets) (packets_agree w u h book_counts w.packets holds.packets))

    epoch_as : (q i : ℕ) → epoch_of (with_book w n k) q i ≡ epoch_of w q i
    epoch_as q i = ap (λ (s : Standing). s.epoch) (book_standings w n node there k q i)

    pub known_before : AnswersOfRuns → (m : machine.World) → AreJoined (with_book w n k) h m → EpochsKnown w h
    known_before once m joined =
        let e = known_so u h book_holds m joined once.hold in
        record {
          above = λ q i p j t is current l.
              (let le = e.above q i p j t (live_there q i t is) current l in
              let here = epoch_as q i in let other = epoch_as p j in omega (arith, le, here, other));
          attempted = λ q i t c is has waits p a f answered back attempt.
              (let le = e.attempted q i t c (live_there q i t is) has waits p a f answered back attempt in
              let here = epoch_as q i in let other = epoch_as p f.tunnel in let it = book_makes w n node there k p a in
              let one = le.0 in let two = le.1 in
              (omega (arith, one, here, it), omega (arith, two, other, it)));
          one = λ p a f l b g is so link same.
              e.one p a f l b g is so link (book_makes w n node there k p a ∙ (same ∙ sym (book_makes w n node there k l b)));
          frozen = λ q i p j t a is has waits l.
              (let le = e.frozen q i p j t a (live_there q i t is) has waits l in
              let here = epoch_as q i in let other = epoch_as p j in let it = book_makes w n node there k q a.connection.local in
              let one = le.0 in let two = le.1 in
              (omega (arith, one, here, it), omega (arith, two, other, it)));
          counted = λ q i p j l.
              ap (λ (s : Standing). s.made) (sym (book_standings w n node there k q i))
              ∙ (e.counted q i p j l ∙ ap (λ (s : Standing). s.made) (book_standings w n node there k p j));
        }

-- ---- two books of one end

module _ (e : End) (k b : Kept) (old : Mirrors e k) (new : Mirrors e b) where
  pub tunnels_same : (i : ℕ) → tunnel_at b i ≡ tunnel_at k i
  tunnels_same i = same_tunnels e e k b old new i refl

  pub calls_same : (s : ℕ) → call_at b s ≡ call_at k s
  calls_same s = by (call_at k s) (call_at b s) refl refl
    where
      by : (o p : Option BookCall) → call_at k s ≡ o → call_at b s ≡ p → p ≡ o
      by None None has is = refl
      by None (Some c) has is = absurd (none-some c (sym has ∙ same_call e e b k new old s c is refl))
      by (Some c) p has is = sym is ∙ same_call e e k b old new s c has refl

module _ (w : World) (n : ℕ) (node : Node) (there : at w.nodes n ≡ Some node) where
  book_nodes : (k b : Kept) → ((i : ℕ) → tunnel_at b i ≡ tunnel_at k i) → ((s : ℕ) → call_at b s ≡ call_at k s) → (q : ℕ)
      → SameJoin (at (with_book w n k).nodes q) (at (with_book w n b).nodes q)
  book_nodes k b tunnels calls q = ⊎_elim
      (λ (e : q ≡ n).
      subst (λ y. SameJoin (at (with_book w n k).nodes y) (at (with_book w n b).nodes y)) (sym e)
      (subst (λ o. SameJoin o (at (with_book w n b).nodes n)) (sym (book_here w n k node there))
      (subst (SameJoin (Some (booked node k))) (sym (book_here w n b node there)) (refl, refl, tunnels, calls))))
      (λ (o : q ≡ n → ⊥).
      subst (λ p. SameJoin p (at (with_book w n b).nodes q)) (sym (book_other w n k node there q o))
      (subst (SameJoin (at w.nodes q)) (sym (book_other w n b node there q o)) (same_join (at w.nodes q))))
      (same_or_not q n)

  -- the world is joined with the one where it is with the other
  pub other_book : (k b : Kept) → Mirrors node.end k → Mirrors node.end b → AreSame (with_book w n k) (with_book w n b)
  other_book k b old new = record {
    nodes = book_nodes k b (tunnels_same node.end k b old new) (calls_same node.end k b old new);
    standings = λ q i. book_standings w n node there b q i ∙ sym (book_standings w n node there k q i);
    makes_as = λ q c. book_makes w n node there b q c ∙ sym (book_makes w n node there k q c);
    births = λ q s. book_births w n node there b q s ∙ sym (book_births w n node there k q s);
    born = book_born w n b node there ∙ sym (book_born w n k node there);
  }

  -- it is so with the book that the node has
  pub own_book : AreSame w (with_book w n node.checkpoint.book)
  own_book =
      let k = node.checkpoint.book in
      record {
        nodes = λ q. ⊎_elim
            (λ (e : q ≡ n).
            subst (λ y. SameJoin (at w.nodes y) (at (with_book w n k).nodes y)) (sym e)
            (subst (λ o. SameJoin o (at (with_book w n k).nodes n)) (sym there)
            (subst (SameJoin (Some node)) (sym (book_here w n k node there)) (refl, refl, λ i. refl, λ s. refl))))
            (λ (o : q ≡ n → ⊥). subst (SameJoin (at w.nodes q)) (sym (book_other w n k node there q o)) (same_join (at w.nodes q)))
            (same_or_not q n);
        standings = book_standings w n node there k;
        makes_as = book_makes w n node there k;
        births = book_births w n node there k;
        born = book_born w n k node there;
      }
