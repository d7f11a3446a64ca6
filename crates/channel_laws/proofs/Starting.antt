-- A start of a node: what its moves lead to, what it sends, and the book that it leaves; also where a stop cuts it off.
use Rattle.std.proofs.Common.{◌≡◌, inl, inr, ⊎_elim, ℕ, ◌+◌, ◌^◌, ◌<◌, ◌≤◌, false, List, [], ◌∷◌, ◌++◌, length, map, take, refl, sym, ap, ◌∙◌, subst, Some, None, arith, append-nil, append_assoc}
use Rattle.std.proofs.lemmas.Option.{none-some}
use Rattle.std.specs.List.{AllByRecursion}
use Rattle.id_table.specs.Ids.{at, at-none}
use Rattle.id_table.specs.Order.{at_new, at_other, same_or_not}
use Rattle.session_book.specs.Books.{Kept}
use Rattle.end_names.specs.Names.{node_of}
use Rattle.end_model.specs.declared.event.Event.TheVariants.{Tick}
use Rattle.end_model.specs.declared.moves.Move.{Move}
use Rattle.end_model.specs.declared.moves.Move.TheVariants as move
use Rattle.end_model.specs.declared.out.Out.{Out}
use Rattle.end_model.specs.declared.out.Out.TheVariants.{Send, Up, Gone, Drop, Cause}
use Rattle.end_model.specs.declared.out.Origin.{Origin}
use Rattle.end_model.specs.Contents.{contents_of}
use Rattle.end_model.specs.Starting.{bare_end, starts}
use Rattle.end_model.specs.Tunnels.{Tunnel, mode_of, is_current}
use Rattle.end_model.specs.End.{End, Stepped}
use Rattle.world_model.specs.declared.packet.Packet.{Packet}
use Rattle.world_model.specs.declared.standing.Standing.{Standing}
use Rattle.world_model.specs.World.{World, Node, Checkpoint, Deed, Lined, IsWhole, IsCut, with_node, block_of, commits, deed_of, moved_all, opened, epoch_sent, packet_from, shown_all, cut_line, after_step, given}
use Rattle.step_laws.specs.Letters.{Carries}
use Rattle.step_laws.specs.Moves.{Does, Chain}
use Rattle.step_laws.specs.Starts.{IsSoundBook, IsOfStart, StartsAreChains, StartsAreOfBooks}
use Rattle.step_laws.specs.Steps.{IsChain, IsDecline, IsOfMoves}
use Rattle.frame_laws.proofs.Chains.{same_role}
use Rattle.frame_laws.proofs.Deeds.{all_behind}
use Rattle.book_laws.specs.Books.{IsBook, Fits, SpaceFits, book_after}
use Rattle.book_laws.specs.Starts.{StartIsBooked, StartsAreBooked}
use Rattle.book_laws.proofs.Ceilings.{rose_none}
use Rattle.book_laws.proofs.Lists.{all_to}
use Rattle.book_laws.proofs.Pending.{all_among}
use Rattle.book_laws.proofs.Starts.{bare_fits}
use Rattle.book_laws.proofs.Steps.{SpacesRose, chain_spaces}
use Rattle.node_laws.specs.Nodes.{HoldsNode}
use Rattle.channel_laws.specs.Accounts.{Account, History, after, history_from}
use Rattle.channel_laws.specs.Facts.{BookedOk, EndOk, BookOk, NodeOk, PacketOk, NodesHold, Holds}
use Rattle.channel_laws.specs.Lines.{AreSame, Finds, WholeStart}
use Rattle.channel_laws.specs.Steps.{with_end, moves_on, IsStarted}
use Rattle.channel_laws.specs.Whole.{LeadsBack, NoMoveBack, OneMoreBack, Below, StartKept, StartsKeep}
use Rattle.channel_laws.proofs.Agreeing.{Agree, agree_same, agree_back, agree_on, put_agrees}
use Rattle.channel_laws.proofs.Committing.{whole_book, cut_book, front_in_place}
use Rattle.channel_laws.proofs.CutOff.{FitsCall, book_behind, cut_off}
use Rattle.channel_laws.proofs.Entering.{base_here, base_other}
use Rattle.channel_laws.proofs.Looks.{CountAlike, SameLook, same_look, look_back, look_on, count_alike, end_agrees, node_agrees, packets_agree, holds_agrees}
use Rattle.channel_laws.proofs.Mailing.{with_mail, mail_alike}
use Rattle.channel_laws.proofs.MoveLists.{split, deeds_more, OutOk, IsShown, shows}
use Rattle.channel_laws.proofs.OfEnds.{book_ok}
use Rattle.channel_laws.proofs.Records.{Brings, BringsCall, BringsNone, none_brings, none_brings_call, none_up, contents_so, ceilings_rise}
use Rattle.channel_laws.proofs.Restarted.{starts_nothing, starting_moves_keep, started_mail, started_accounts, started_back, started_next}
use Rattle.channel_laws.proofs.Sending.{FramesFit, carries_ok}
use Rattle.channel_laws.proofs.Stepping.{chain_both}

-- the laws of starts that are used
pub record StartLaws : Type 0 where
  pub chains : StartsAreChains
  pub of_books : StartsAreOfBooks
  pub booked : StartsAreBooked

-- no move of a start brings a tunnel or a call into the book
starts_bring_none : (b : Kept) (m : Move) → IsOfStart b m → BringsNone m
starts_bring_none b (move.Restored m) of = tt
starts_bring_none b (move.Forgot m) of = tt
starts_bring_none b (move.Negotiated m) of = tt
starts_bring_none b (move.Counted m) of = tt
starts_bring_none b (move.FrameSent m) of = tt
starts_bring_none b m of = absurd of

module _ (laws : StartLaws) (w : World) (h : History) (ok0 : Holds w h) (number n : ℕ) (old : Node) (was : at w.nodes n ≡ Some old)
    (node_ok : HoldsNode old) (down : old.up ≡ false) where
  abbrev pub moment : ℕ
  moment = old.clock

  abbrev pub e0 : End
  e0 = old.end

  abbrev pub c0 : Checkpoint
  c0 = old.checkpoint

  abbrev pub s : Stepped
  s = starts e0.role e0.config c0.book moment (block_of n number)

  bare : e0 ≡ bare_end e0.role e0.config c0.book
  bare = node_ok.down down

  is_chain : IsChain e0 moment Tick s
  is_chain = subst (λ q. IsChain q moment Tick s) (sym bare) (laws.chains e0.role e0.config c0.book node_ok.sound moment
      (block_of n number) Tick)

  of : AllByRecursion (IsOfStart c0.book) s.moves
  of = laws.of_books e0.role e0.config c0.book node_ok.sound moment (block_of n number)

  booked : StartIsBooked e0 c0.book s
  booked = subst (λ q. StartIsBooked q c0.book s) (sym bare) (laws.booked e0.role e0.config c0.book node_ok.sound node_ok.suits moment
      (block_of n number))

  fit0 : Fits e0
  fit0 = subst Fits (sym bare) (bare_fits e0.role e0.config c0.book node_ok.sound)

  both_ok : EndOk w h n e0 × BookOk h n c0.book
  both_ok = subst (NodeOk w h n) was (ok0.nodes n)

  none_there : (i : ℕ) → at e0.tunnels i ≡ None
  none_there i = ap (λ (q : End). at q.tunnels i) bare ∙ at-none i

  spaces : (made : List Move) (x : End) → Chain moment Tick e0 made x → SpacesRose e0 x
  spaces made x comes = chain_spaces moment Tick e0 e0 x made comes (record {
    tunnels = (fit0.tunnel_ids, rose_none 65535 e0.tunnel_ids fit0.tunnel_ids);
    sessions = (fit0.session_ids, rose_none 65534 e0.session_ids fit0.session_ids);
    recoveries = (fit0.recovery_ids, rose_none 4294967295 e0.recovery_ids fit0.recovery_ids);
  })

  -- ---- where a stop cuts it off

  module _ (found : Node) (finds : Finds old found) (base : World) (same : AreSame w base) (kc : Checkpoint)
      (cut : commits found.checkpoint (contents_of found.end s) ≡ IsCut kc) where
    cut_here : commits c0 (contents_of e0 s) ≡ IsCut kc
    cut_here = subst (λ (q : End). commits c0 (contents_of q s) ≡ IsCut kc) finds.end
        (subst (λ (q : Checkpoint). commits q (contents_of found.end s) ≡ IsCut kc) finds.checkpoint cut)

    some_records : (m : ℕ) × (kc.book ≡ book_after c0.book (take m (contents_of e0 s)))
    some_records = cut_book c0 (contents_of e0 s) booked.in_place kc cut_here

    book_cut : BookOk h n kc.book
    book_cut =
        subst (BookOk h n) (sym some_records.1)
        (book_behind w h ok0 n c0.book node_ok.sound.tunnels_rise node_ok.sound.calls_rise both_ok.1
        (take some_records.0 (contents_of e0 s))
        (contents_so (Brings (BookedOk h n)) (none_brings (BookedOk h n)) some_records.0 e0 s
        (λ m among. none_up (Brings (BookedOk h n)) (none_brings (BookedOk h n)) m
        (starts_bring_none c0.book m (all_among (IsOfStart c0.book) s.moves m of among))))
        (contents_so (BringsCall FitsCall) (none_brings_call FitsCall) some_records.0 e0 s
        (λ m among. none_up (BringsCall FitsCall) (none_brings_call FitsCall) m
        (starts_bring_none c0.book m (all_among (IsOfStart c0.book) s.moves m of among)))))

    ceiling_cut : c0.book.tunnel_ceiling ≤ kc.book.tunnel_ceiling
    ceiling_cut =
        subst (λ (b : Kept). c0.book.tunnel_ceiling ≤ b.tunnel_ceiling) (sym some_records.1)
        (ceilings_rise c0.book (take some_records.0 (contents_of e0 s))
        (front_in_place some_records.0 c0.book (contents_of e0 s) booked.in_place))

    above_cut : (i : ℕ) → i < e0.tunnel_ids.next → i < kc.book.tunnel_ceiling + 1
    above_cut i lt =
        let next = ap (λ (q : End). q.tunnel_ids.next) bare in
        let rises = ceiling_cut in
        omega (arith, lt, next, rises)

    pub start_cut : Holds (cut_line base number n found kc).world h
    start_cut = cut_off w h ok0 number n old was found finds base same kc
        (λ i unmade. ap (λ (q : End). at q.tunnels i) finds.end ∙ none_there i) above_cut book_cut

  -- ---- all of it is committed

  module _ (most : ℕ) (had : Below h most) (room : most + 65536 < 2 ^ 64) (k : Checkpoint) where
    -- the node behind the start, and the world in which its moves are told
    abbrev pub left : Node
    left = record (opened (block_of n number) old) { checkpoint = k; end = s.end }

    abbrev pub b0 : World
    b0 = with_node w n left

    abbrev pub w1 : World
    w1 = moved_all n s.moves b0

    still_all : (ms : List Move) → AllByRecursion (IsOfStart c0.book) ms → moved_all n ms b0 ≡ b0
    unfolding moved_all
    still_all [] all = refl
    still_all (m ∷ ms) all = ap (moved_all n ms) (starts_nothing c0.book m all.0 n b0) ∙ still_all ms all.1

    told_is : w1 ≡ b0
    told_is = still_all s.moves of

    abbrev pub deed_in : Move → Deed
    deed_in m = deed_of w1 number n e0.role None m

    abbrev pub h1 : History
    h1 = history_from (map deed_in s.moves) h

    -- ---- between two of its moves

    pub record Amid (made : List Move) (x : End) (v : World) (g : History) : Type 0 where
      pub node : Node
      pub there : at v.nodes n ≡ Some node
      pub end : node.end ≡ x
      pub checkpoint : node.checkpoint ≡ c0
      pub holds : Holds v g
      pub leads : LeadsBack n moment Tick w h made v g
      pub first : 0 < x.tunnel_ids.next
      pub back : (i : ℕ) (t : Tunnel) → at x.tunnels i ≡ Some t → is_current (mode_of t.recovery) ≡ false
      pub agrees : Agree w v
      pub accounts : g.accounts ≡ h.accounts
      pub others : (q : ℕ) → (q ≡ n → ⊥) → SameLook (at w.nodes q) (at v.nodes q)

    amid0 : Amid [] e0 w h
    amid0 = record {
      node = old;
      there = was;
      end = refl;
      checkpoint = refl;
      holds = ok0;
      leads = NoMoveBack;
      first = fit0.tables.first_tunnel;
      back = λ i t there. absurd (none-some t (sym (none_there i) ∙ there));
      agrees = agree_same w;
      accounts = refl;
      others = λ q o. same_look (at w.nodes q);
    }

    module _ (made rest : List Move) (m : Move) (x y : End) (v : World) (g : History) (a : Amid made x v g)
        (are : s.moves ≡ made ++ (m ∷ rest)) (came : Chain moment Tick e0 made x)
        (does : Does x moment Tick m y) where
      abbrev more : List Move
      more = made ++ m ∷ []

      of_it : IsOfStart c0.book m
      of_it = (all_behind (IsOfStart c0.book) made (m ∷ rest) (subst (AllByRecursion (IsOfStart c0.book)) are of)).0

      role_is : e0.role ≡ a.node.end.role
      role_is = sym (same_role moment Tick e0 x made came) ∙ ap (λ (q : End). q.role) (sym a.end)

      is_started : IsStarted v g n a.node moment Tick m y (deed_in m)
      is_started = record {
        there = a.there;
        holds = a.holds;
        sound = subst (λ (q : Checkpoint). IsSoundBook q.book) (sym a.checkpoint) node_ok.sound;
        first = subst (λ (q : End). 0 < q.tunnel_ids.next) (sym a.end) a.first;
        tunnel_ids = subst (λ (q : End). SpaceFits 65535 q.tunnel_ids) (sym a.end) (spaces made x came).tunnels.0;
        draws = subst (λ (q : End). SpaceFits 4294967295 q.recovery_ids) (sym a.end) (spaces made x came).recoveries.0;
        back = λ i t there. a.back i t (subst (λ (q : End). at q.tunnels i ≡ Some t) a.end there);
        of = subst (λ (q : Checkpoint). IsOfStart q.book m) (sym a.checkpoint) of_it;
        does = subst (λ q. Does q moment Tick m y) (sym a.end) does;
        deed = record { node_is = refl; role_is = role_is; sender_is = refl; move_is = refl };
      }

      abbrev later_world : World
      later_world = moves_on v n a.node m y

      later_is : later_world ≡ with_end v n a.node y
      later_is = starts_nothing c0.book m of_it n (with_end v n a.node y)

      pub amid_on : Amid more y later_world (after g (deed_in m))
      amid_on = record {
        node = record a.node { end = y };
        there = ap (λ (q : World). at q.nodes n) later_is ∙ base_here v n a.node a.there y;
        end = refl;
        checkpoint = a.checkpoint;
        holds = starting_moves_keep m v g n a.node moment Tick y (deed_in m) is_started;
        leads = OneMoreBack made v g a.node m y (deed_in m) a.leads is_started;
        first = started_next c0.book m of_it x y moment Tick does a.first;
        back = started_back c0.book m of_it x y moment Tick does a.back;
        agrees = subst (Agree w) (sym later_is) (agree_on w v (with_end v n a.node y) a.agrees
            (put_agrees v n a.node (record a.node { end = y }) a.there refl refl));
        accounts = started_accounts m v g n a.node moment Tick y (deed_in m) is_started ∙ a.accounts;
        others = λ q o. look_on (at w.nodes q) (at v.nodes q) (at later_world.nodes q) (a.others q o)
            (subst (λ (u : World). SameLook (at v.nodes q) (at u.nodes q)) (sym later_is)
            (subst (SameLook (at v.nodes q)) (sym (base_other v n a.node a.there y q o)) (same_look (at v.nodes q))));
      }

      pub mail_on : (p : Packet) → PacketOk v g p → PacketOk later_world (after g (deed_in m)) p
      mail_on = started_mail m v g n a.node moment Tick y (deed_in m) is_started

    -- ---- all of them

    pub record Led (v : World) (g : History) (made : List Move) (x : End) (k1 : History) : Type 0 where
      pub world : World
      pub amid : Amid made x world k1
      pub mail : (p : Packet) → PacketOk v g p → PacketOk world k1 p

    pub leads_on : (ns made rest : List Move) (x y : End) (v : World) (g : History) → Amid made x v g → s.moves ≡ made ++ (ns ++ rest)
        → Chain moment Tick e0 made x
        → Chain moment Tick x ns y → Led v g (made ++ ns) y (history_from (map deed_in ns) g)
    unfolding history_from
    leads_on [] made rest x y v g a are came steps =
        record {
          world = v;
          amid = subst (λ l. Amid l y v g) (sym (append-nil made))
              (subst (λ q. Amid made q v g) steps a);
          mail = λ p ok. ok;
        }
    leads_on (m ∷ ns) made rest x y v g a are came steps =
        let on = amid_on made (ns ++ rest) m x steps.0 v g a are came steps.1 in
        let led = leads_on ns (made ++ m ∷ []) rest steps.0 y _ (after g (deed_in m)) on
        (are ∙ sym (append_assoc made (m ∷ []) (ns ++ rest)))
        (chain_both moment Tick e0 x steps.0 made (m ∷ []) came (steps.0, steps.1, refl)) steps.2 in
        record {
          world = led.world;
          amid = subst (λ l. Amid l y led.world (history_from (map deed_in ns) (after g (deed_in m))))
              (append_assoc made (m ∷ []) ns) led.amid;
          mail = λ p ok. led.mail p (mail_on made (ns ++ rest) m x steps.0 v g a are came steps.1 p ok);
        }

    led_to : (made rest : List Move) (x : End) → s.moves ≡ made ++ rest → Chain moment Tick e0 made x
        → Led w h made x (history_from (map deed_in made) h)
    led_to made rest x are comes = leads_on made [] rest e0 x w h amid0 are refl comes

    pub all : Led w h s.moves s.end h1
    all = led_to s.moves [] s.end (sym (append-nil s.moves)) is_chain.chain

    end_there : (made : List Move) (x : End) (v : World) (g : History) → Amid made x v g → EndOk v g n x
    end_there made x v g amid =
        let both : EndOk v g n amid.node.end × BookOk g n amid.node.checkpoint.book = subst (NodeOk v g n) amid.there
        (amid.holds.nodes n) in
        subst (EndOk v g n) amid.end both.0

    -- the world in which it is told is alike
    told_agrees : (made : List Move) (x : End) (v : World) (g : History) → Amid made x v g → Agree v w1
    told_agrees made x v g amid = subst (Agree v) (sym told_is) (agree_on v w b0 (agree_back w v amid.agrees)
        (put_agrees w n old left was refl refl))

    told_alike : (made : List Move) (x : End) (v : World) (g : History) → Amid made x v g → CountAlike v w1
    told_alike made x v g amid = count_alike v w1 (told_agrees made x v g amid)

    module _ (whole : commits c0 (contents_of e0 s) ≡ IsWhole k) where
      book_then : IsBook s.end k.book
      book_then = subst (IsBook s.end) (sym (whole_book c0 (contents_of e0 s) booked.in_place k whole)) booked.book

      own : at w1.nodes n ≡ Some left
      own = ap (λ (q : World). at q.nodes n) told_is ∙ at_new w.nodes n left

      others_look : (q : ℕ) → (q ≡ n → ⊥) → SameLook (at w.nodes q) (at w1.nodes q)
      others_look q o = subst (SameLook (at w.nodes q)) (sym (ap (λ (u : World). at u.nodes q) told_is ∙ at_other w.nodes n left q o))
          (same_look (at w.nodes q))

      others_behind : (q : ℕ) → (q ≡ n → ⊥) → SameLook (at all.world.nodes q) (at w1.nodes q)
      others_behind q o =
          look_on (at all.world.nodes q) (at w.nodes q) (at w1.nodes q)
          (look_back (at w.nodes q) (at all.world.nodes q) (all.amid.others q o)) (others_look q o)

      alike1 : CountAlike all.world w1
      alike1 = told_alike s.moves s.end all.world h1 all.amid

      end1 : EndOk all.world h1 n s.end
      end1 = end_there s.moves s.end all.world h1 all.amid

      node1 : (q : ℕ) → NodeOk w1 h1 q (at w1.nodes q)
      node1 q = ⊎_elim
          (λ (is : q ≡ n).
          subst (λ z. NodeOk w1 h1 z (at w1.nodes z)) (sym is)
          (subst (NodeOk w1 h1 n) (sym own)
          (end_agrees all.world w1 h1 alike1 n s.end end1, book_ok all.world h1 all.amid.holds n s.end end1 k.book book_then.mirrors)))
          (λ (o : q ≡ n → ⊥). node_agrees all.world w1 h1 alike1 q (at all.world.nodes q) (at w1.nodes q) (others_behind q o)
          (all.amid.holds.nodes q))
          (same_or_not q n)

      holds1 : Holds w1 h1
      holds1 =
          holds_agrees all.world w1 h1 alike1 all.amid.holds node1
          (subst (AllByRecursion _) (sym (told_agrees s.moves s.end all.world h1 all.amid).packets)
          (packets_agree all.world w1 h1 alike1 all.world.packets all.amid.holds.packets))

      -- ---- what it sends

      module _ (made rest : List Move) (y : End) (are : s.moves ≡ made ++ rest) (comes : Chain moment Tick e0 made y)
          (goes : Chain moment Tick y rest s.end) where
        frames_fit : FramesFit made
        frames_fit f among =
            let sp = split moment Tick e0 y (move.FrameSent f) made among comes in
            let after_it = sp.behind ++ rest in
            let is : s.moves ≡ sp.before ++ (move.FrameSent f ∷ after_it) = are
            ∙ (ap (λ l. l ++ rest) sp.is ∙ append_assoc sp.before (move.FrameSent f ∷ sp.behind) rest) in
            let led = led_to sp.before (move.FrameSent f ∷ after_it) sp.from is sp.comes in
            let ok = end_there sp.before sp.from led.world (history_from (map deed_in sp.before) h) led.amid in
            let remote = sp.does.remote in
            let lt = (ok.live f.tunnel sp.does.tunnel sp.does.there).calls f.session sp.does.call sp.does.calls in
            omega (arith, remote, lt)

        abbrev g : History
        g = history_from (map deed_in made) h

        led : Led w h made y g
        led = led_to made rest y are comes

        below : Below g most
        below m i e = subst (λ (a : ℕ → ℕ → ℕ → Account). length (a m i e).given ≤ most) (sym led.amid.accounts) (had m i e)

        sent_ok : (peer : ℕ) (bytes : List ℕ) (o : Origin) (i : ℕ) (t : Tunnel) → at y.tunnels i ≡ Some t → peer ≡ t.control.peer
            → Carries y.role y.config t made bytes o
            → PacketOk w1 h1 (packet_from n (node_of peer) bytes o (epoch_sent w1 n o))
        sent_ok peer bytes o i t there peer_is carries =
            let p = packet_from n (node_of peer) bytes o (epoch_sent w1 n o) in
            let ok = carries_ok led.world g led.amid.holds n y (end_there made y led.world g led.amid) most below room w1 i t there
            (λ current. ap (λ (st : Standing). st.epoch)
            ((told_alike made y led.world g led.amid).standings n i)) peer peer_is bytes made frames_fit o carries in
            let on = leads_on rest made [] y s.end led.world g led.amid (are ∙ ap (λ l. made ++ l) (sym (append-nil rest))) comes goes in
            let k1 = history_from (map deed_in rest) g in
            let same : k1 ≡ h1 = deeds_more deed_in made rest h ∙ ap (λ l. history_from (map deed_in l) h) (sym are) in
            subst (λ q. PacketOk w1 q p) same
            (packets_agree on.world w1 k1 (told_alike (made ++ rest) s.end on.world k1 on.amid) (p ∷ []) (on.mail p ok, tt)).0

      -- it declines nothing
      no_decline : (peer : ℕ) (bytes : List ℕ) (o : Origin) → IsDecline s.moves peer bytes o → ⊥
      no_decline peer bytes o dec = all_among (IsOfStart c0.book) s.moves (move.Declined dec.declined) of dec.there

      out_ok : (o : Out) → IsOfMoves moment Tick e0 s.moves s.end o → OutOk n w1 (PacketOk w1 h1) o
      out_ok (Send peer bytes o) (inl q) =
          sent_ok q.amid.made q.amid.rest q.amid.end q.amid.moves_are q.amid.comes q.amid.goes
          peer bytes o q.id q.tunnel q.there q.peer_is q.carries
      out_ok (Send peer bytes o) (inr q) = absurd (no_decline peer bytes o q)
      out_ok (Up session side frame) q = tt
      out_ok (Gone session) q = tt
      out_ok (Drop x) q = tt
      out_ok (Cause x) q = tt

      all_shown : IsShown n w1 (PacketOk w1 h1) (shown_all n s.outputs w1)
      all_shown =
          shows n w1 (PacketOk w1 h1) s.outputs w1.packets
          (all_to (IsOfMoves moment Tick e0 s.moves s.end) (OutOk n w1 (PacketOk w1 h1)) out_ok s.outputs is_chain.outputs) holds1.packets

      abbrev pub w2 : World
      w2 = shown_all n s.outputs w1

      shown_alike : CountAlike w1 w2
      shown_alike = subst (CountAlike w1) (sym all_shown.is) (mail_alike w1 all_shown.mail)

      pub alike2 : CountAlike all.world w2
      alike2 = record {
        standings = λ m j. shown_alike.standings m j ∙ alike1.standings m j;
        makes_as = λ m c. shown_alike.makes_as m c ∙ alike1.makes_as m c;
      }

      pub holds2 : Holds w2 h1
      holds2 =
          subst (λ u. Holds u h1) (sym all_shown.is)
          (let u = with_mail w1 all_shown.mail in
          let alike = mail_alike w1 all_shown.mail in
          holds_agrees w1 u h1 alike holds1 (λ q. node_agrees w1 u h1 alike q (at w1.nodes q) (at w1.nodes q) (same_look (at w1.nodes q))
          (holds1.nodes q))
          (packets_agree w1 u h1 alike all_shown.mail all_shown.all))

      pub others2 : (q : ℕ) → (q ≡ n → ⊥) → SameLook (at all.world.nodes q) (at w2.nodes q)
      others2 q o = subst (λ (u : World). SameLook (at all.world.nodes q) (at u.nodes q)) (sym all_shown.is) (others_behind q o)

-- ---- the line

module _ (laws : StartLaws) (w : World) (h : History) (number : ℕ) (x : Lined) (s : WholeStart w number x) (most : ℕ)
    (nodes : NodesHold w) (holds : Holds w h) (had : Below h most)
    (room : most + 65536 < 2 ^ 64) where
  node_holds : HoldsNode s.old
  node_holds = nodes s.node s.old s.was

  abbrev k1 : History
  k1 = h1 laws w h holds number s.node s.old s.was node_holds s.down most had room s.checkpoint

  abbrev u2 : World
  u2 = w2 laws w h holds number s.node s.old s.was node_holds s.down most had room s.checkpoint s.whole

  world_is : x.world ≡ u2
  unfolding after_step given
  world_is = ap (λ (q : Lined). q.world) s.is

  done_is : history_from x.done h ≡ k1
  unfolding after_step given
  done_is = ap (λ (q : Lined). history_from q.done h) s.is

  abbrev led_all : Led laws w h holds number s.node s.old s.was node_holds s.down most had room s.checkpoint w h
      (starts s.old.end.role s.old.end.config s.old.checkpoint.book s.old.clock (block_of s.node number)).moves
      (starts s.old.end.role s.old.end.config s.old.checkpoint.book s.old.clock (block_of s.node number)).end k1
  led_all = all laws w h holds number s.node s.old s.was node_holds s.down most had room s.checkpoint

  start_kept : StartKept w h number x s
  start_kept = record {
    holds = subst (λ v. Holds v (history_from x.done h)) (sym world_is) (subst (Holds u2) (sym done_is)
        (holds2 laws w h holds number s.node s.old s.was node_holds s.down most had room s.checkpoint s.whole));
    accounts = ap (λ (q : History). q.accounts) done_is ∙ led_all.amid.accounts;
    behind = led_all.world;
    leads = subst (LeadsBack s.node s.old.clock Tick w h _ led_all.world) (sym done_is) led_all.amid.leads;
    holds_behind = subst (Holds led_all.world) (sym done_is) led_all.amid.holds;
    node = led_all.amid.node;
    there = led_all.amid.there;
    end = led_all.amid.end;
    checkpoint = led_all.amid.checkpoint;
    alike = subst (CountAlike led_all.world) (sym world_is)
        (alike2 laws w h holds number s.node s.old s.was node_holds s.down most had room s.checkpoint s.whole);
    others = λ p o. subst (λ (v : World). SameLook (at led_all.world.nodes p) (at v.nodes p)) (sym world_is)
        (others2 laws w h holds number s.node s.old s.was node_holds s.down most had room s.checkpoint s.whole p o);
  }

pub starts_keep : StartLaws → StartsKeep
starts_keep laws w h number x s most nodes holds had room = start_kept laws w h number x s most nodes holds had room
