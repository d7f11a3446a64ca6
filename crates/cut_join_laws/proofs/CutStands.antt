-- A step that a stop cuts off: the world in which its node is down is joined with the machine's.
use Rattle.std.proofs.Common.{◌≡◌, ⊎_elim, ℕ, ◌+◌, ◌≤◌, List, [], ◌∷◌, ◌++◌, take, refl, sym, ap, ◌∙◌, subst}
use Rattle.std.proofs.Common.{append-nil, append_assoc, Some, arith}
use Rattle.std.proofs.lemmas.Bool.{true≢false}
use Rattle.std.specs.Prelude.{is_some}
use Rattle.id_table.specs.Ids.{at}
use Rattle.id_table.specs.Order.{at_new, at_other, same_or_not}
use Rattle.session_book.specs.declared.record.BookTunnel.{BookTunnel}
use Rattle.session_book.specs.declared.record.Record.{Record}
use Rattle.session_book.specs.Books.{Kept, entry, tunnel_at}
use Rattle.end_model.specs.declared.moves.Move.{Move}
use Rattle.end_model.specs.declared.moves.Move.TheVariants as move
use Rattle.end_model.specs.declared.moves.TookAnswer.{TookAnswer}
use Rattle.end_model.specs.Contents.{records_of, contents_of}
use Rattle.end_model.specs.Secrets.{uncovered_event}
use Rattle.end_model.specs.End.{End}
use Rattle.world_model.specs.declared.standing.Standing.{Standing}
use Rattle.world_model.specs.World.{World, Node, Checkpoint, Lined, with_node, block_of, fallen, standing_of}
use Rattle.world_model.specs.World.{standing_in, birth_in, birth_of, answer_in}
use Rattle.step_laws.specs.Steps.{AreKept}
use Rattle.book_laws.specs.Books.{Mirrors, Fits, IsBook, AreInPlace, StepIsBooked, StepsAreBooked, book_after}
use Rattle.book_laws.proofs.Steps.{after_both, high}
use Rattle.node_laws.specs.Nodes.{HoldsUp}
use Rattle.epoch_machine.specs.Worlds as machine
use Rattle.epoch_machine.specs.Moves.{falls}
use Rattle.birth_laws.specs.Births.{CallsHold}
use Rattle.stop_laws.specs.Records.{writes}
use Rattle.channel_laws.specs.Accounts.{History}
use Rattle.channel_laws.specs.Facts.{BookedOk, EndOk, BookOk, NodeOk, NodesHold, Holds}
use Rattle.channel_laws.specs.Lines.{CutStep}
use Rattle.channel_laws.proofs.Committing.{cut_book, front_in_place}
use Rattle.recovery_laws.specs.Joined.{CallsJoined, NodeJoined}
use Rattle.join_laws.specs.Steps.{IsJoined}
use Rattle.line_join_laws.specs.Chains.{EndsSound, IsStanding}
use Rattle.line_join_laws.specs.Falls.{HasFallen, FallenNodesJoin}
use Rattle.line_join_laws.specs.Lines.{CutStepsJoin}
use Rattle.line_join_laws.proofs.Another.{SameJoin, same_join, AreSame, same_joined}
use Rattle.line_join_laws.proofs.CutNodes.{has_fallen}
use Rattle.cut_join_laws.proofs.Amidst.{CutLaws, IsCutOff, own, births, end, end_fits, goes, front_mirrors, cuts_at}
use Rattle.cut_join_laws.proofs.Booked.{call_bound}
use Rattle.cut_join_laws.proofs.CutBook.{CutsTo}
use Rattle.cut_join_laws.proofs.Down.{new, nodes_are, born_is, there, nothing_done}
use Rattle.cut_join_laws.proofs.Ended.{AreOrdered, all_cut}
use Rattle.cut_join_laws.proofs.Fronts.{of_moves, answer_records, IsFront, Between, Within, IsFrontBook, front_book}
use Rattle.cut_join_laws.proofs.Roles.{roles_are}
use Rattle.cut_join_laws.proofs.Rising.{sessions_rise, in_place_behind, downs, some_downs, downs_tunnels, downs_in_place}
use Rattle.cut_join_laws.proofs.SameLists.{SameLists, same_lists, tunnels_as, calls_as, same_mirrors}

-- ---- books of the same lists

cuts_as : (m : machine.World) (h : History) (n : ℕ) (a b : Kept) → SameLists a b → CutsTo m h n a → CutsTo m h n b
cuts_as m h n a b same cut = record {
  records = cut.records;
  allowed = cut.allowed;
  book = record {
    booked = λ i fits. cut.book.booked i fits ∙ ap (λ o. is_some o) (sym (tunnels_as a b same i));
    learned = cut.book.learned;
    calls = λ s fits. cut.book.calls s fits ∙ ap (λ o. is_some o) (sym (calls_as a b same s));
    kept = λ s c is. cut.book.kept s c (sym (calls_as a b same s) ∙ is);
  };
}

-- records of one list of moves behind another one
moves_both : (ms ns : List Move) → of_moves (ms ++ ns) ≡ of_moves ms ++ of_moves ns
moves_both [] ns = refl
moves_both (a ∷ ms) ns =
    ap (λ l. records_of a ++ l) (moves_both ms ns) ∙ sym (append_assoc (records_of a) (of_moves ms) (of_moves ns))

module _ (laws : CutLaws) (fallen_join : FallenNodesJoin) (books : StepsAreBooked) (w : World) (h : History) (number : ℕ) (x : Lined)
    (s : CutStep w number x) (top most : ℕ) (o : IsCutOff w h number x s top most) (nodes : NodesHold x.world) (sound : EndsSound x.world)
    (holds : Holds x.world h) where
  abbrev n : ℕ
  n = s.node

  abbrev m : machine.World
  m = o.stands.machine

  -- the book before the step, and the one that the stop left
  abbrev k0 : Kept
  k0 = s.old.checkpoint.book

  abbrev kc : Kept
  kc = s.checkpoint.book

  abbrev down : Node
  down = new w number x s

  up_old : HoldsUp s.old
  up_old = own laws w h number x s top most o

  book_of_down : down.checkpoint.book ≡ kc
  unfolding fallen
  book_of_down = refl

  book_ok : BookOk h n kc
  book_ok =
      let q : EndOk x.world h n down.end × BookOk h n down.checkpoint.book =
      subst (NodeOk x.world h n) (there w number x s) (holds.nodes n) in
      subst (BookOk h n) book_of_down q.1

  -- ---- what the step would have left

  abbrev c0 : Kept
  c0 = s.found.checkpoint.book

  abbrev contents : List Record
  contents = contents_of s.found.end s.stepped

  booked : StepIsBooked s.found.end c0 s.stepped
  booked =
      subst (StepIsBooked s.found.end c0) (sym o.is)
      (books s.found.end c0 (subst AreKept (sym s.finds.end) up_old.kept) (subst Fits (sym s.finds.end) up_old.fit)
      (subst (λ (e : End). IsBook e c0) (sym s.finds.end)
      (subst (λ (c : Checkpoint). IsBook s.old.end c.book) (sym s.finds.checkpoint) up_old.book))
      s.found.clock (block_of n number) (uncovered_event s.found.end.config.secret o.event))

  some_records : (r : ℕ) × (kc ≡ book_after c0 (take r contents))
  some_records = cut_book s.found.checkpoint contents booked.in_place s.checkpoint s.cut

  rises : k0.session_ceiling ≤ kc.session_ceiling
  rises =
      let same = ap (λ (c : Checkpoint). c.book.session_ceiling) s.finds.checkpoint in
      let book = ap (λ (k : Kept). k.session_ceiling) some_records.1 in
      let more = sessions_rise c0 (take some_records.0 contents) (front_in_place some_records.0 c0 contents booked.in_place) in
      omega (arith, same, book, more)

  fell : HasFallen s.old down kc
  fell = has_fallen (block_of n number) s.old s.found s.finds up_old s.checkpoint rises

  -- the lists of the book are those that the records of a front of the moves make
  front : IsFrontBook k0 kc s.stepped.moves
  front =
      subst (λ (k : Kept). IsFrontBook k kc s.stepped.moves) (ap (λ (c : Checkpoint). c.book) s.finds.checkpoint)
      (subst (λ (k : Kept). IsFrontBook c0 k s.stepped.moves) (sym some_records.1)
      (front_book some_records.0 s.found.end s.stepped c0))

  -- ---- between two moves

  module _ (made rest : List Move) (are : s.stepped.moves ≡ made ++ rest) where
    -- the end that the first moves lead to
    abbrev end_at : End
    end_at = end laws w h number x s top most o made rest are

    mirrors_at : Mirrors end_at (book_after k0 (of_moves made))
    mirrors_at = front_mirrors laws w h number x s top most o made rest are

    between : SameLists (book_after k0 (of_moves made)) kc → CutsTo m h n kc
    between same =
        cuts_at laws w h number x s top most o made rest are kc
        (same_mirrors (book_after k0 (of_moves made)) kc same end_at mirrors_at)
        (λ i b has. book_ok.tunnels i b has)

  -- ---- amid the answer to a query

  calls_before : CallsJoined m h n s.old
  calls_before =
      let q : EndOk w h n s.old.end × BookOk h n k0 = subst (NodeOk w h n) s.was (o.stands.holds.nodes n) in
      let j : NodeJoined m h n (Some s.old) = subst (NodeJoined m h n) s.was (o.stands.joined.joined.nodes n q.0.node) in
      j.1

  births_before : CallsHold m.tunnels m.calls
  births_before = births laws w h number x s top most o

  module _ (made : List Move) (a : TookAnswer) (rest : List Move) (count : ℕ) (are : s.stepped.moves ≡ made ++ (move.TookAnswer a ∷ rest))
      (same : SameLists (book_after k0 (of_moves made ++ take count (downs a.ended))) kc) where
    abbrev ended : List ℕ
    ended = take count a.ended

    -- the move itself
    abbrev here : List Move
    here = move.TookAnswer a ∷ []

    abbrev book_made : Kept
    book_made = book_after k0 (of_moves made)

    abbrev end_made : End
    end_made = end_at made (move.TookAnswer a ∷ rest) are

    mirrors_made : Mirrors end_made book_made
    mirrors_made = mirrors_at made (move.TookAnswer a ∷ rest) are

    same_ended : SameLists (book_after book_made (downs ended)) kc
    same_ended =
        subst (λ (b : Kept). SameLists b kc)
        (ap (λ l. book_after k0 (of_moves made ++ l)) (some_downs count a.ended) ∙ after_both k0 (of_moves made) (downs ended)) same

    tunnels_made : (i : ℕ) (b : BookTunnel) → tunnel_at book_made i ≡ Some b → BookedOk h n b
    tunnels_made i b has =
        book_ok.tunnels i b
        (tunnels_as (book_after book_made (downs ended)) kc same_ended i
        ∙ (ap (entry (λ (t : BookTunnel). t.local) i) (downs_tunnels ended book_made) ∙ has))

    cuts_made : CutsTo m h n book_made
    cuts_made = cuts_at laws w h number x s top most o made (move.TookAnswer a ∷ rest) are book_made mirrors_made tunnels_made

    ordered : AreOrdered h m births_before n s.old up_old calls_before book_made
    ordered = record {
      rise = mirrors_made.calls_rise;
      bound = λ q b has. call_bound end_made book_made mirrors_made q b has
          (end_fits laws w h number x s top most o made (move.TookAnswer a ∷ rest) are);
    }

    -- each of the calls was in the book as it ended
    in_place : AreInPlace book_made (downs ended)
    in_place =
        let are_more : s.stepped.moves ≡ (made ++ here) ++ rest = are ∙ sym (append_assoc made here rest) in
        let high_k = high (end_at (made ++ here) rest are_more) k0 in
        let last : of_moves here ≡ downs a.ended = append-nil (records_of (move.TookAnswer a)) ∙ answer_records a in
        let all = subst (AreInPlace high_k) (moves_both made here ∙ ap (λ l. of_moves made ++ l) last)
        (goes laws w h number x s top most o (made ++ here) rest are_more).in_place in
        let ends = downs_in_place a.ended (book_after high_k (of_moves made)) book_made
        (same_lists (of_moves made) high_k k0 (record { tunnels = refl; calls = refl }))
        (in_place_behind high_k (of_moves made) (downs a.ended) all) in
        subst (AreInPlace book_made) (some_downs count a.ended) (front_in_place count book_made (downs a.ended) ends)

    within : CutsTo m h n kc
    within =
        cuts_as m h n (book_after book_made (downs ended)) kc same_ended
        (all_cut h m births_before n s.old up_old calls_before ended book_made ordered cuts_made in_place)

  -- ---- either way

  cuts : CutsTo m h n kc
  cuts = by front.front
    where
      by : IsFront s.stepped.moves front.records → CutsTo m h n kc
      by (Between made rest are records) = between made rest are (subst (λ l. SameLists (book_after k0 l) kc) records front.same)
      by (Within made a rest count are records) =
          within made a rest count are (subst (λ l. SameLists (book_after k0 l) kc) records front.same)

  -- ---- the world

  abbrev v : World
  v = with_node w n down

  abbrev z : machine.World
  z = falls (writes m cuts.records) n

  in_v : IsJoined v h z
  in_v =
      fallen_join w h m o.stands.nodes o.stands.holds o.stands.joined n s.old down kc cuts.records s.was fell cuts.allowed cuts.book

  as_v : AreSame v x.world
  unfolding standing_of birth_of
  as_v =
      let are = nodes_are w number x s in
      record {
        nodes = λ q. subst (λ l. SameJoin (at v.nodes q) (at l q)) (sym are) (same_join (at v.nodes q));
        standings = λ q i. ap (λ l. standing_in (at l q) i) are;
        makes_as = λ q c. ap (λ l. answer_in (at l q) c) are;
        births = λ q r. ap (λ l. birth_in (at l q) r) are;
        born = born_is w number x s;
      }

  made_as : (q i : ℕ) → (standing_of v q i).made ≡ (standing_of w q i).made
  unfolding standing_of
  made_as q i = ⊎_elim
      (λ (e : q ≡ n).
      ap (λ y. (standing_in (at v.nodes y) i).made) e
      ∙ (ap (λ p. (standing_in p i).made) (at_new w.nodes n down)
      ∙ (fell.made i ∙ sym (ap (λ y. (standing_in (at w.nodes y) i).made) e ∙ ap (λ p. (standing_in p i).made) s.was))))
      (λ (other : q ≡ n → ⊥). ap (λ p. (standing_in p i).made) (at_other w.nodes n down q other))
      (same_or_not q n)

  pub stands_down : IsStanding x.world h (top + 65536)
  stands_down = record {
    nodes = nodes;
    sound = sound;
    holds = holds;
    machine = z;
    joined = same_joined v x.world h z as_v in_v;
    answers = o.stands.answers;
    closes = o.stands.closes;
    roles = laws.requests.others w x.world h (roles_are w h number x s) o.stands.roles;
    counts = record {
      born = (let le = o.stands.counts.born in let same = born_is w number x s in omega (arith, le, same));
      made = λ q i.
          (let le = o.stands.counts.made q i in
          let same = made_as q i in
          let is_so = ap (λ (y : Standing). y.made) (as_v.standings q i) in
          omega (arith, le, same, is_so));
    };
  }

pub cut_steps_join : CutLaws → FallenNodesJoin → StepsAreBooked → CutStepsJoin
cut_steps_join laws fallen_join books w h number x s top most up stands room below few nodes sound holds =
    let same = nothing_done w number x s h in
    subst (λ g. IsStanding x.world g (top + 65536)) (sym same)
    (⊎_elim
    (λ a.
    stands_down laws fallen_join books w h number x s top most
    (record {
      up = up;
      stands = stands;
      room = room;
      below = below;
      few = few;
      event = a.1.0;
      sender = a.1.1;
      comes = a.1.2;
      is = a.1.3;
    }) nodes sound
    (subst (λ g. Holds x.world g) same holds))
    (λ b. absurd (true≢false (sym up ∙ b.0)))
    s.of)
