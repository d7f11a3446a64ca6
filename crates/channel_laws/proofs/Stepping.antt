-- The moves of a step, one after another: all of it holds after each of them.
use Rattle.std.proofs.Common.{◌≡◌, ◌⊎◌, inl, inr, ⊎_elim, ℕ, ◌+◌, ◌*◌, ◌^◌, ◌<◌, ◌≤◌, Bool, true, false, List, [], ◌∷◌, ◌++◌, length, map, refl, sym, ap, ◌∙◌, subst, Option, Some, None, arith, append-nil, append_assoc, flat_map}
use Rattle.std.proofs.lemmas.Grind.{flat_map-append}
use Rattle.std.proofs.lemmas.List.{length-append}
use Rattle.std.specs.List.{AllByRecursion}
use Rattle.id_source.specs.Spaces.{draw_is}
use Rattle.id_table.specs.Ids.{at}
use Rattle.tunnel_fsm.specs.Rows.{state_number}
use Rattle.session_book.specs.declared.record.BookTunnel.{BookTunnel}
use Rattle.session_book.specs.Books.{tunnel_at}
use Rattle.end_model.specs.declared.event.Event.{Event}
use Rattle.end_model.specs.declared.moves.Move.{Move}
use Rattle.end_model.specs.declared.moves.Move.TheVariants as move
use Rattle.end_model.specs.Contents.{records_of}
use Rattle.end_model.specs.Tunnels.{Tunnel, mode_of, is_current}
use Rattle.end_model.specs.End.{End}
use Rattle.world_model.specs.declared.packet.Packet.{Packet}
use Rattle.world_model.specs.declared.standing.Standing.{Standing}
use Rattle.world_model.specs.World.{World, Node, Checkpoint, Sender, Deed, epoch_of, tunnel_of, deed_of, moved_all}
use Rattle.step_laws.specs.Moves.{Does, Chain}
use Rattle.step_laws.specs.Steps.{IsOfNoStart}
use Rattle.step_laws.specs.Ups.{reads_of_move}
use Rattle.frame_laws.specs.Codecs.{Codecs}
use Rattle.frame_laws.proofs.Chains.{same_role, moved_more}
use Rattle.frame_laws.proofs.Deeds.{all_before, all_behind}
use Rattle.book_laws.specs.Books.{IsBook, Mirrors, Fits}
use Rattle.book_laws.proofs.Ceilings.{rose_none}
use Rattle.book_laws.proofs.Lists.{entry_has}
use Rattle.book_laws.proofs.Steps.{SpacesRose, chain_spaces, high, high_drawn, ChainGoes, chain_goes}
use Rattle.connection_laws.specs.Steps.{IsDeed}
use Rattle.channel_laws.specs.Recoveries.{WrittenIsRead, WrittenHasRoom}
use Rattle.channel_laws.specs.Accounts.{Account, History, about, after, history_from}
use Rattle.channel_laws.specs.Facts.{EndOk, BookOk, NodeOk, PacketOk, Holds}
use Rattle.channel_laws.specs.Steps.{Comes, with_end, moves_on, IsMoved, Keeps, IsStill}
use Rattle.channel_laws.specs.Whole.{IsAlong}
use Rattle.channel_laws.proofs.Agreeing.{Agree, agree_back, agree_on, put_agrees, moved_agrees, chain_epoch}
use Rattle.channel_laws.proofs.Budgets.{ActiveBelow, active_then, Below, given_then, numbers_fit, counts_fit}
use Rattle.channel_laws.proofs.Entering.{base_here, base_other}
use Rattle.channel_laws.proofs.Inactive.{begins_so}
use Rattle.channel_laws.proofs.Looks.{SameLook, same_look, look_on, moved_look, looks_so}
use Rattle.channel_laws.proofs.Mailing.{mail_kept}
use Rattle.channel_laws.proofs.Nearness.{comes_then}
use Rattle.channel_laws.proofs.Numbering.{IsActive, Counted, Stays, Takes, Reads, Begins, Resets, IsFirst, does_count}
use Rattle.channel_laws.proofs.Opening.{undrawn}
use Rattle.channel_laws.proofs.Still.{same_history, nothing_by}

-- the tunnel of a deed is the one that its move is about
about_is : (m : Move) → tunnel_of m ≡ about m
about_is (move.Opened m) = refl
about_is m = refl

-- it gives or takes a letter, or enters an epoch, or not
still_or_not : (m : Move) → IsStill m ⊎ (IsStill m → ⊥)
still_or_not (move.EndSilent m) = inl tt
still_or_not (move.Cleared i booked) = inl tt
still_or_not (move.Quiet i) = inl tt
still_or_not (move.LetGo m) = inl tt
still_or_not (move.Repeated m) = inl tt
still_or_not (move.Negotiated m) = inl tt
still_or_not (move.Counted m) = inl tt
still_or_not (move.FrameSent m) = inl tt
still_or_not (move.FrameUp m) = inl tt
still_or_not (move.Forgot m) = inl tt
still_or_not (move.RecoveryWentOn i) = inl tt
still_or_not (move.RecoveryEnded i) = inl tt
still_or_not (move.Ignored i) = inl tt
still_or_not m = inr (λ z. z)

-- how often Nr is read
abbrev pub reads_in : List Move → ℕ
reads_in ms = length (flat_map reads_of_move ms)

pub reads_more : (ms ns : List Move) → reads_in (ms ++ ns) ≡ reads_in ms + reads_in ns
reads_more ms ns = ap length (flat_map-append reads_of_move ms ns) ∙ length-append (flat_map reads_of_move ms) (flat_map reads_of_move ns)

reads_one : (m : Move) → reads_in (m ∷ []) ≡ length (reads_of_move m)
reads_one m = ap length (append-nil (reads_of_move m))

-- one list of moves after another
pub chain_both : (moment : ℕ) (ev : Event) (e y x : End) (ms ns : List Move) → Chain moment ev e ms y → Chain moment ev y ns x → Chain moment ev e (ms ++ ns) x
chain_both moment ev e y x [] ns first second = subst (λ q. Chain moment ev q ns x) (sym first) second
chain_both moment ev e y x (m ∷ ms) ns first second = (first.0, first.1, chain_both moment ev first.0 y x ms ns first.2 second)

-- the parts of a list
front_on : (ms made rest : List Move) (m : Move) → ms ≡ made ++ (m ∷ rest) → ms ≡ (made ++ m ∷ []) ++ rest
front_on ms made rest m is = is ∙ sym (append_assoc made (m ∷ []) rest)

module _ (any : (m : Move) → IsOfNoStart m → Keeps m) (codecs : Codecs) (again : WrittenIsRead) (room_is : WrittenHasRoom)
    (J : World → History → List Move → Type 0) (n : ℕ) (sender : Option Sender) (moment : ℕ) (ev : Event)
    (along : IsAlong J n sender moment ev) (number : ℕ) (w0 b0 : World) (e0 z : End) (c0 : Checkpoint) (fit0 : Fits e0) (book0 : IsBook e0 c0.book) (ms : List Move)
    (starts : AllByRecursion IsOfNoStart ms) (chain : Chain moment ev e0 ms z) (top most : ℕ) (enough : 65535 ≤ top) (room : top + 16384 ≤ most)
    (small : most + 65540 < 2 ^ 64) (few : reads_in ms ≤ 1) where
  -- the world in which its births and epochs are told
  abbrev pub told : World
  told = moved_all n ms b0

  abbrev pub deed : Move → Deed
  deed m = deed_of told number n e0.role sender m

  -- ---- the ends of its chain

  module _ (made rest : List Move) (y : End) (are : ms ≡ made ++ rest) (comes : Chain moment ev e0 made y) where
    starts_here : AllByRecursion IsOfNoStart made
    starts_here = all_before IsOfNoStart made rest (subst (AllByRecursion IsOfNoStart) are starts)

    rose : SpacesRose e0 y
    rose = chain_spaces moment ev e0 e0 y made comes (record {
      tunnels = (fit0.tunnel_ids, rose_none 65535 e0.tunnel_ids fit0.tunnel_ids);
      sessions = (fit0.session_ids, rose_none 65534 e0.session_ids fit0.session_ids);
      recoveries = (fit0.recovery_ids, rose_none 4294967295 e0.recovery_ids fit0.recovery_ids);
    })

    mirrors : Mirrors e0 (high y c0.book)
    mirrors = let m = book0.mirrors in record { tunnels = m.tunnels; calls = m.calls; all_calls = m.all_calls; tunnels_rise = m.tunnels_rise; calls_rise = m.calls_rise }

    goes_to : ChainGoes y (high y c0.book) (flat_map (λ m. records_of m) made)
    goes_to = chain_goes moment ev e0 y made starts_here comes fit0.tables (high y c0.book) mirrors (high_drawn y c0.book)

    pub fits_there : Fits y
    fits_there = record { tables = goes_to.fit; tunnel_ids = rose.tunnels.0; session_ids = rose.sessions.0; recovery_ids = rose.recoveries.0 }

    reads_few : reads_in made ≤ 1
    reads_few = let sum = ap reads_in are ∙ reads_more made rest in let one = few in omega (arith, sum, one)

  -- ---- what holds at each of them

  pub record Amid (made : List Move) (x : End) (w : World) (h : History) : Type 0 where
    pub node : Node
    pub there : at w.nodes n ≡ Some node
    pub end : node.end ≡ x
    pub checkpoint : node.checkpoint ≡ c0
    pub holds : Holds w h
    pub keeps : J w h made
    pub comes : Comes w h n x sender ev
    pub unbooked : (i : ℕ) (t : Tunnel) → at x.tunnels i ≡ Some t → state_number t.control.state < 3 → tunnel_at c0.book i ≡ None
    pub active : ActiveBelow x (top + 8192 * reads_in made)
    pub below : Below h most
    pub agrees : Agree w (moved_all n made b0)
    pub others : (q : ℕ) → (q ≡ n → ⊥) → SameLook (at w0.nodes q) (at w.nodes q)

  module _ (made rest : List Move) (m : Move) (x y : End) (w : World) (h : History) (a : Amid made x w h) (are : ms ≡ made ++ (m ∷ rest)) (came : Chain moment ev e0 made x)
      (does : Does x moment ev m y) (goes : Chain moment ev y rest z) where
    abbrev node : Node
    node = a.node

    abbrev v : World
    v = moves_on w n node m y

    abbrev more : List Move
    more = made ++ m ∷ []

    are_more : ms ≡ more ++ rest
    are_more = front_on ms made rest m are

    came_more : Chain moment ev e0 more y
    came_more = chain_both moment ev e0 x y made (m ∷ []) came (y, does, refl)

    start : IsOfNoStart m
    start = (all_behind IsOfNoStart made (m ∷ rest) (subst (AllByRecursion IsOfNoStart) are starts)).0

    starts_rest : AllByRecursion IsOfNoStart rest
    starts_rest = (all_behind IsOfNoStart made (m ∷ rest) (subst (AllByRecursion IsOfNoStart) are starts)).1

    fit_here : Fits node.end
    fit_here = subst Fits (sym a.end) (fits_there made (m ∷ rest) x are came)

    fit_then : Fits y
    fit_then = fits_there more rest y are_more came_more

    does_here : Does node.end moment ev m y
    does_here = subst (λ q. Does q moment ev m y) (sym a.end) does

    both_ok : EndOk w h n node.end × BookOk h n node.checkpoint.book
    both_ok = subst (NodeOk w h n) a.there (a.holds.nodes n)

    top_here : ActiveBelow node.end (top + 8192 * reads_in made)
    top_here = subst (λ q. ActiveBelow q (top + 8192 * reads_in made)) (sym a.end) a.active

    few_here : reads_in made ≤ 1
    few_here = reads_few made (m ∷ rest) x are came

    -- ---- what it is told

    agrees_then : Agree v (moved_all n more b0)
    unfolding moved_all
    agrees_then =
        let base = with_end w n node y in
        let from = agree_on base w (moved_all n made b0) (agree_back w base (put_agrees w n node (record node { end = y }) a.there refl refl)) a.agrees in
        subst (Agree v) (sym (moved_more n made (m ∷ []) b0)) (moved_agrees n m base (moved_all n made b0) from)

    zero_none : (t : Tunnel) → at y.tunnels 0 ≡ Some t → ⊥
    zero_none t there = let lt = (fit_then.tables.tunnels 0 t there).some in omega (arith, lt)

    epoch_told : (IsStill m → ⊥) → (deed m).epoch ≡ epoch_of v n (about m)
    epoch_told still =
        ap (epoch_of told n) (about_is m)
        ∙ (ap (λ q. epoch_of q n (about m)) (ap (λ l. moved_all n l b0) are_more ∙ moved_more n more rest b0)
        ∙ (chain_epoch n moment ev y z rest starts_rest goes
        (λ q part left is from. (fits_there (more ++ part) left q (are_more ∙ (ap (λ l. more ++ l) is ∙ sym (append_assoc more part left)))
        (chain_both moment ev e0 y q more part came_more from)).tables.order)
        (about m) (begins_so node.end y moment ev m start still zero_none does_here) (moved_all n more b0)
        ∙ ap (λ (s : Standing). s.epoch) (agrees_then.standings n (about m))))

    -- ---- with some deed

    module _ (d : Deed) (is_deed : IsDeed d n node.end.role sender m) (epoch : d.epoch ≡ epoch_of v n (about m)) (same : after h d ≡ after h (deed m)) where
      is_moved : IsMoved w h n node sender moment ev m y d
      is_moved = record {
        there = a.there;
        holds = a.holds;
        known = along.knows w h made a.holds a.keeps;
        fit = fit_here;
        unbooked = λ i t there early. subst (λ (c : Checkpoint). tunnel_at c.book i ≡ None) (sym a.checkpoint) (a.unbooked i t (subst (λ (q : End). at q.tunnels i ≡ Some t) a.end there) early);
        comes = subst (λ q. Comes w h n q sender ev) (sym a.end) a.comes;
        numbers = numbers_fit w h a.holds most a.below n node.end both_ok.0 (top + 8192 * reads_in made) top_here (let one = few_here in omega (arith, one, room, small));
        counts = counts_fit w h a.holds most a.below n node.end both_ok.0 small;
        does = does_here;
        deed = is_deed;
        epoch = epoch;
      }

      holds_by : Holds v (after h d)
      holds_by = any m start w h n node sender moment ev y d is_moved

      holds_then : Holds v (after h (deed m))
      holds_then = subst (Holds v) same holds_by

      own : (b : Node) × (at v.nodes n ≡ Some b) × (b.end ≡ y) × (b.checkpoint ≡ node.checkpoint)
      own = looks_so (record node { end = y }) (at v.nodes n) (subst (λ o. SameLook o (at v.nodes n)) (base_here w n node a.there y) (moved_look n m (with_end w n node y) n))

      end_by : EndOk v (after h d) n y
      end_by = subst (EndOk v (after h d) n) own.2 (let ok : EndOk v (after h d) n own.0.end × BookOk (after h d) n own.0.checkpoint.book = subst (NodeOk v (after h d) n) own.1 (holds_by.nodes n) in ok.0)

      counts_by : (j : ℕ) (u : Tunnel) → at y.tunnels j ≡ Some u → IsActive u → Counted node.end moment ev m j u
      counts_by j u there active = does_count node.end y moment ev m start fit_here.tables.order does_here j u there active

      active_more : ActiveBelow y (top + 8192 * reads_in more)
      active_more i t there on =
          let le = active_then w h n node.end y both_ok.0 moment ev m (top + 8192 * reads_in made) top_here (let e = enough in omega (arith, e)) counts_by i t there on in
          let sum = reads_more made (m ∷ []) in
          let one = reads_one m in
          omega (arith, le, sum, one)

      below_then : Below (after h (deed m)) most
      below_then = subst (λ q. Below q most) same
          (given_then h d v n node.end y moment ev m start does_here is_deed.node_is is_deed.move_is epoch end_by (top + 8192 * reads_in more) most active_more
          (let one = reads_few more rest y are_more came_more in let r = room in omega (arith, one, r)) a.below)

      -- a packet stays as it is
      pub mail_then : (p : Packet) → PacketOk w h p → PacketOk v (after h (deed m)) p
      mail_then p ok = subst (λ q. PacketOk v q p) same (mail_kept w h p ok any n node sender moment ev m start y d is_moved)

      -- a tunnel that isn't established isn't booked
      unbooked_then : (i : ℕ) (t : Tunnel) → at y.tunnels i ≡ Some t → state_number t.control.state < 3 → tunnel_at c0.book i ≡ None
      unbooked_then i t there early = by_mode (is_current (mode_of t.recovery)) refl
        where
          as_kept : tunnel_at node.checkpoint.book i ≡ None → tunnel_at c0.book i ≡ None
          as_kept none = subst (λ (c : Checkpoint). tunnel_at c.book i ≡ None) a.checkpoint none

          new_id : i ≡ node.end.tunnel_ids.next → tunnel_at node.checkpoint.book i ≡ None
          new_id is = by_book (tunnel_at node.checkpoint.book i) refl
            where
              by_book : (o : Option BookTunnel) → tunnel_at node.checkpoint.book i ≡ o → o ≡ None
              by_book None found = refl
              by_book (Some b) found = absurd ((both_ok.1.tunnels i b found).made
                  (ap (λ q. (h.accounts n q 0).part) (entry_has (λ (q : BookTunnel). q.local) i node.checkpoint.book.tunnels b found)
                  ∙ ap (λ (q : Account). q.part) (undrawn w h n node.end a.holds both_ok.0.ids i is)))

          begun : (q : Move) → IsFirst q → about q ≡ i → Does node.end moment ev q y → tunnel_at node.checkpoint.book i ≡ None
          begun (move.Opened q) first it h = new_id (sym it ∙ (draw_is node.end.tunnel_ids q.tunnel h.drawn).0)
          begun (move.Accepted q) first it h = new_id (sym it ∙ (draw_is node.end.tunnel_ids q.tunnel h.drawn).0)
          begun q first it h = absurd first

          by_count : Counted node.end moment ev m i t → tunnel_at node.checkpoint.book i ≡ None
          by_count (Stays q was on s) = is_moved.unbooked i q was (s.goes.early early)
          by_count (Takes q c was on next g more_taken acked) = is_moved.unbooked i q was (g.early early)
          by_count (Reads q nr one was on tells g remote taken acked) = is_moved.unbooked i q was (g.early early)
          by_count (Begins first it taken acked) = begun m first it does_here
          by_count (Resets q reset it was off state acked) =
              let three = (both_ok.0.live i q was).established off in
              let here = ap state_number state in
              absurd (omega (arith, three, here, early))

          by_mode : (b : Bool) → is_current (mode_of t.recovery) ≡ b → tunnel_at c0.book i ≡ None
          by_mode true on = as_kept (by_count (counts_by i t there on))
          by_mode false off = let three = (end_by.live i t there).established off in absurd (omega (arith, three, early))

      pub amid_then : Amid more y v (after h (deed m))
      amid_then = record {
        node = own.0;
        there = own.1;
        end = own.2;
        checkpoint = own.3 ∙ a.checkpoint;
        holds = holds_then;
        keeps = subst (λ q. J v q more) same (along.moves w h made node m y d start is_moved a.keeps holds_by);
        comes = comes_then codecs again room_is w h n node sender moment ev m y d is_moved start (after h (deed m)) holds_then own.0 own.1
            own.2;
        unbooked = unbooked_then;
        active = active_more;
        below = below_then;
        agrees = agrees_then;
        others = λ q o. look_on (at w0.nodes q) (at w.nodes q) (at v.nodes q) (a.others q o)
            (look_on (at w.nodes q) (at (with_end w n node y).nodes q) (at v.nodes q)
            (subst (SameLook (at w.nodes q)) (sym (base_other w n node a.there y q o)) (same_look (at w.nodes q)))
            (moved_look n m (with_end w n node y) q));
      }

    role_is : e0.role ≡ node.end.role
    role_is = sym (same_role moment ev e0 x made came) ∙ ap (λ (q : End). q.role) (sym a.end)

    pub amid_on : Amid more y v (after h (deed m)) × ((p : Packet) → PacketOk w h p → PacketOk v (after h (deed m)) p)
    amid_on = ⊎_elim
        (λ (still : IsStill m).
        let d : Deed = record (deed m) { epoch = epoch_of v n (about m) } in
        let is_deed : IsDeed d n node.end.role sender m = record { node_is = refl; role_is = role_is; sender_is = refl; move_is = refl } in
        let same = same_history h d (nothing_by d m still refl) ∙ sym (same_history h (deed m) (nothing_by (deed m) m still refl)) in
        (amid_then d is_deed refl same, mail_then d is_deed refl same))
        (λ still.
        let is_deed : IsDeed (deed m) n node.end.role sender m = record { node_is = refl; role_is = role_is; sender_is = refl; move_is = refl } in
        (amid_then (deed m) is_deed (epoch_told still) refl, mail_then (deed m) is_deed (epoch_told still) refl))
        (still_or_not m)

  -- ---- all of them

  -- the world to which moves lead from one; what is as what was done says of packets stays so
  pub record Led (from : World) (before : History) (made : List Move) (x : End) (h : History) : Type 0 where
    pub world : World
    pub amid : Amid made x world h
    pub mail : (p : Packet) → PacketOk from before p → PacketOk world h p

  pub leads : (ns made rest : List Move) (x y : End) (w : World) (h : History) → Amid made x w h → ms ≡ made ++ (ns ++ rest) → Chain moment ev e0 made x → Chain moment ev x ns y
      → Chain moment ev y rest z → Led w h (made ++ ns) y (history_from (map deed ns) h)
  unfolding history_from
  leads [] made rest x y w h a are came steps goes =
      record { world = w; amid = subst (λ l. Amid l y w h) (sym (append-nil made)) (subst (λ q. Amid made q w h) steps a); mail = λ p ok. ok }
  leads (m ∷ ns) made rest x y w h a are came steps goes =
      let on = amid_on made (ns ++ rest) m x steps.0 w h a are came steps.1 (chain_both moment ev steps.0 y z ns rest steps.2 goes) in
      let led = leads ns (made ++ m ∷ []) rest steps.0 y _ (after h (deed m)) on.0 (front_on ms made (ns ++ rest) m are)
      (chain_both moment ev e0 x steps.0 made (m ∷ []) came (steps.0, steps.1, refl)) steps.2 goes in
      record {
        world = led.world;
        amid = subst (λ l. Amid l y led.world (history_from (map deed ns) (after h (deed m)))) (append_assoc made (m ∷ []) ns) led.amid;
        mail = λ p ok. led.mail p (on.1 p ok);
      }
