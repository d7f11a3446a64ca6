-- A step of a node, all of which was committed: what its moves lead to, and what it sends.
use Rattle.std.proofs.Common.{◌⊎◌, ◌≡◌, inl, inr, ⊎_elim, ℕ, ◌+◌, ◌^◌, ◌<◌, ◌≤◌, Bool, true, false, List, [], ◌∷◌, ◌++◌, map, refl, sym, ap, ◌∙◌, subst, Option, Some, None, arith, append-nil, append_assoc, ap₂, Ok, take}
use Rattle.std.proofs.lemmas.Bool.{true≢false, eqb-true}
use Rattle.std.specs.Prelude.{is_some, if◌then◌else◌, ◌==◌, ◌&&◌}
use Rattle.std.specs.List.{AllByRecursion}
use Rattle.id_source.specs.Spaces.{draw_is}
use Rattle.id_table.specs.Ids.{at}
use Rattle.id_table.specs.Order.{Ascends, at_new, at_other, same_or_not}
use Rattle.recv_window.specs.Window.{ClassIsTrue}
use Rattle.session_book.specs.Books.{tunnel_at, Kept}
use Rattle.tunnel_fsm.specs.Rows.{state_number}
use Rattle.end_names.specs.Names.{address_of, node_of}
use Rattle.end_model.specs.declared.event.Event.{Event}
use Rattle.wire_base.specs.declared.why.Why.TheVariants as why
use Rattle.control_message.specs.declared.message.Message.{Message}
use Rattle.control_message.specs.declared.message.Message.TheVariants.{Sccrp, Scccn, StopCcn}
use Rattle.end_model.specs.declared.event.Addressee.TheVariants.{Opens, Stops, Answers, Nobody}
use Rattle.end_model.specs.declared.moves.Connected.{Connected}
use Rattle.end_model.specs.declared.moves.Confirmed.{Confirmed}
use Rattle.end_model.specs.Reading.{message_in, at_zero}
use Rattle.end_model.specs.declared.moves.Move.{Move}
use Rattle.end_model.specs.declared.moves.Move.TheVariants as move
use Rattle.end_model.specs.declared.out.Out.{Out}
use Rattle.end_model.specs.declared.out.Out.TheVariants.{Send, Up, Gone, Drop, Cause}
use Rattle.end_model.specs.declared.out.Origin.{Origin}
use Rattle.end_model.specs.Contents.{records_of, contents_of}
use Rattle.end_model.specs.Moments.{is_open}
use Rattle.end_model.specs.Secrets.{uncovered_event}
use Rattle.end_model.specs.Tunnels.{Tunnel, mode_of, is_current}
use Rattle.end_model.specs.End.{End, Stepped, plain_step}
use Rattle.world_model.specs.declared.packet.Packet.{Packet}
use Rattle.world_model.specs.declared.standing.Standing.{Standing}
use Rattle.world_model.specs.World.{World, Node, Checkpoint, Sender, Deed, IsWhole, epoch_of, with_node, block_of, commits, deed_of, moved_all, epoch_sent, packet_from, shown_all, IsCut, cut_line}
use Rattle.step_laws.specs.Arrivals.{Came, ComesTo, IsAgain, IsStop}
use Rattle.step_laws.specs.Letters.{Among, Carries}
use Rattle.step_laws.specs.Moves.{Does, Chain}
use Rattle.step_laws.specs.Steps.{AreKept, IsOfNoStart, IsChain, IsDecline, IsOfMoves, StepsAreChains, StepsAreNoStarts}
use Rattle.step_laws.specs.Ups.{ReadsAreFew}
use Rattle.frame_laws.specs.Codecs.{Codecs}
use Rattle.frame_laws.proofs.Chains.{moved_more}
use Rattle.frame_laws.proofs.Deeds.{all_behind}
use Rattle.book_laws.proofs.Lists.{and_left, and_right, all_to}
use Rattle.book_laws.specs.Books.{booked_control, tunnel_record, IsBook, Fits, StepIsBooked, StepsAreBooked, book_after}
use Rattle.node_laws.specs.Nodes.{HoldsUp}
use Rattle.call_fsm.specs.declared.table.CallEvent.TheVariants as call_event
use Rattle.end_model.specs.declared.tunnel.Call.{Call}
use Rattle.end_model.specs.declared.moves.FirstUp.{FirstUp}
use Rattle.end_model.specs.declared.moves.SecondUp.{SecondUp}
use Rattle.channel_laws.specs.Accounts.{Part, Unmade, Opener, Acceptor, Renewed, History, after, history_from, Account, about, entered_by}
use Rattle.channel_laws.specs.Facts.{IsMade, EndOk, BookOk, NodeOk, PacketOk, Holds, partner_in, ByLetter, ByRecord, BookedOk, LiveOk}
use Rattle.channel_laws.specs.Lines.{AreSame, Finds, ComesIn}
use Rattle.channel_laws.specs.Recoveries.{WrittenIsRead, WrittenHasRoom}
use Rattle.channel_laws.specs.Steps.{Comes, Keeps}
use Rattle.channel_laws.specs.Whole.{IsAlong}
use Rattle.channel_laws.proofs.Agreeing.{Agree, agree_on, put_agrees, chain_epoch}
use Rattle.channel_laws.proofs.Arriving.{comes_first}
use Rattle.channel_laws.proofs.Budgets.{Below, active_first}
use Rattle.channel_laws.proofs.Coming.{FromTunnel}
use Rattle.channel_laws.proofs.Committing.{whole_book, cut_book, front_in_place}
use Rattle.channel_laws.proofs.Cutting.{IsFrom, is_from, replies, sent_by, early_state, waits_accepted, knows_remote}
use Rattle.channel_laws.proofs.Earlier.{PartOf, SamePart, FirstPart, RenewedPart, part_of, part_after, made_along, attempts_along, answers_along}
use Rattle.channel_laws.proofs.Linked.{renewed_of}
use Rattle.channel_laws.proofs.Main.{used_once}
use Rattle.channel_laws.proofs.Naming.{reply_answers}
use Rattle.channel_laws.proofs.Nearness.{confirmation_none}
use Rattle.channel_laws.proofs.Numbering.{IsActive, IsFirst, Counted, Stays, Takes, Reads, Begins, Resets, does_count}
use Rattle.channel_laws.proofs.Records.{Brings, BringsCall, none_brings, none_brings_call, none_up, contents_so, ceilings_rise}
use Rattle.channel_laws.proofs.CutOff.{FitsCall, book_behind, cut_off}
use Rattle.channel_laws.proofs.Giving.{advanced_remote}
use Rattle.channel_laws.proofs.Inactive.{IsInactive}
use Rattle.channel_laws.proofs.Looks.{SameLook, CountAlike, same_look, look_back, look_on, all_look, looks_so, count_alike, end_agrees, node_agrees, packets_agree, holds_agrees}
use Rattle.channel_laws.proofs.Mailing.{with_mail, mail_alike}
use Rattle.channel_laws.proofs.OfEnds.{book_ok}
use Rattle.channel_laws.proofs.Refusing.{declined_for, decline_sent}
use Rattle.channel_laws.proofs.Sending.{FramesFit, carries_ok}
use Rattle.channel_laws.proofs.Stepping.{chain_both, reads_in, fits_there, Amid, Led, leads}
use Rattle.channel_laws.proofs.MoveLists.{IsSplit, split, deeds_more, deed_last, OutOk, IsShown, shows, reads_once, same_agree}

-- the laws of steps that are used
pub record StepLaws : Type 0 where
  pub chains : StepsAreChains
  pub no_starts : StepsAreNoStarts
  pub reads : ReadsAreFew
  pub booked : StepsAreBooked
  pub again : WrittenIsRead
  pub has_room : WrittenHasRoom

-- a tunnel isn't established, and neither frozen nor restored
record WasEarly (x : End) (i : ℕ) : Type 0 where
  tunnel : Tunnel
  there : at x.tunnels i ≡ Some tunnel
  active : IsActive tunnel
  early : state_number tunnel.control.state < 3

module _ (laws : StepLaws) (any : (m : Move) → IsOfNoStart m → Keeps m) (codecs : Codecs) (classes : ClassIsTrue) (J : World → History → List Move → Type 0) (w : World) (h : History)
    (holds : Holds w h) (number n : ℕ) (old : Node) (was : at w.nodes n ≡ Some old) (up : HoldsUp old) (found : Node) (finds : Finds old found) (base : World) (same : AreSame w base)
    (ev : Event) (sender : Option Sender) (comes : ComesIn w n old ev sender)
    (along : IsAlong J n sender found.clock (uncovered_event found.end.config.secret ev)) (first : J w h []) (most : ℕ) (had : Below h most) (room : most + 147460 < 2 ^ 64) (k : Checkpoint) where
  abbrev pub moment : ℕ
  moment = found.clock

  -- what comes, as the end reads it
  abbrev pub read : Event
  read = uncovered_event found.end.config.secret ev

  abbrev pub e0 : End
  e0 = found.end

  abbrev pub s : Stepped
  s = plain_step e0 moment (block_of n number) read

  abbrev pub c0 : Checkpoint
  c0 = found.checkpoint

  kept0 : AreKept e0
  kept0 = subst AreKept (sym finds.end) up.kept

  pub fit0 : Fits e0
  fit0 = subst Fits (sym finds.end) up.fit

  pub book0 : IsBook e0 c0.book
  book0 = subst (λ q. IsBook q c0.book) (sym finds.end) (subst (λ (c : Checkpoint). IsBook old.end c.book) (sym finds.checkpoint) up.book)

  pub is_chain : IsChain e0 moment read s
  is_chain = laws.chains e0 kept0 moment (block_of n number) read

  pub starts : AllByRecursion IsOfNoStart s.moves
  starts = laws.no_starts e0 moment (block_of n number) read

  pub few : reads_in s.moves ≤ 1
  few = let le = laws.reads e0 moment (block_of n number) read in let one = reads_once read in omega (arith, le, one)

  booked : StepIsBooked e0 c0.book s
  booked = laws.booked e0 c0.book kept0 fit0 book0 moment (block_of n number) read

  -- the node behind the step, and the world in which its moves are told
  abbrev pub left : Node
  left = record found { checkpoint = k; end = s.end }

  abbrev pub b0 : World
  b0 = with_node base n left

  abbrev pub top : ℕ
  top = most + 65535

  abbrev pub limit : ℕ
  limit = top + 16384

  base_has : at base.nodes n ≡ Some old
  base_has = ap (λ ns. at ns n) same.nodes ∙ was

  agrees0 : Agree w b0
  agrees0 = agree_on w base b0 (same_agree w base same) (put_agrees base n old left base_has finds.standings finds.answers)

  both_ok : EndOk w h n old.end × BookOk h n old.checkpoint.book
  both_ok = subst (NodeOk w h n) was (holds.nodes n)

  -- what isn't established isn't booked
  unbooked0 : (i : ℕ) (t : Tunnel) → at e0.tunnels i ≡ Some t → state_number t.control.state < 3 → tunnel_at c0.book i ≡ None
  unbooked0 i t there early = book0.mirrors.tunnels i ∙ (ap (tunnel_record i) there ∙ by (is_open t.control.state) refl)
    where
      by : (b : Bool) → is_open t.control.state ≡ b → (if b then Some (booked_control i t.control) else None) ≡ None
      by true is = let three = eqb-true (state_number t.control.state) 3 is in absurd (omega (arith, three, early))
      by false is = refl

  abbrev pub IsAmid : List Move → End → World → History → Type 0
  IsAmid made x v g =
      Amid any codecs laws.again laws.has_room J n sender moment read along number w b0 e0 s.end c0 fit0 book0 s.moves starts is_chain.chain
      top limit (omega arith) (omega arith) (omega (arith, room)) few made x v g

  abbrev pub IsLed : World → History → List Move → End → History → Type 0
  IsLed v g made x k1 =
      Led any codecs laws.again laws.has_room J n sender moment read along number w b0 e0 s.end c0 fit0 book0 s.moves starts is_chain.chain
      top limit (omega arith) (omega arith) (omega (arith, room)) few v g made x k1

  -- what comes, before its moves
  pub comes0 : Comes w h n e0 sender read
  comes0 =
      subst (λ (q : End). Comes w h n q sender (uncovered_event q.config.secret ev)) (sym finds.end)
      (comes_first codecs laws.again laws.has_room classes w h holds (along.knows w h [] holds first) n old was ev sender comes)

  amid0 : IsAmid [] e0 w h
  unfolding moved_all
  amid0 = record {
    node = old;
    there = was;
    end = sym finds.end;
    checkpoint = sym finds.checkpoint;
    holds = holds;
    keeps = first;
    comes = comes0;
    unbooked = unbooked0;
    active = λ i t there on.
        (let le = active_first w h holds most had n old.end both_ok.0 i t (subst (λ (q : End). at q.tunnels i ≡ Some t) finds.end there) on in omega (arith, le));
    below = λ m i e. (let le = had m i e in omega (arith, le));
    agrees = agrees0;
    others = λ q o. same_look (at w.nodes q);
  }

  abbrev pub w1 : World
  w1 = moved_all n s.moves b0

  abbrev pub deed_in : Move → Deed
  deed_in m = deed_of w1 number n e0.role sender m

  -- what a part of its moves leads to
  pub led_to : (made rest : List Move) (x : End) → s.moves ≡ made ++ rest → Chain moment read e0 made x → Chain moment read x rest s.end
      → IsLed w h made x (history_from (map deed_in made) h)
  led_to made rest x are comes_so goes =
      leads any codecs laws.again laws.has_room J n sender moment read along number w b0 e0 s.end c0 fit0 book0 s.moves starts
      is_chain.chain top limit (omega arith) (omega arith) (omega (arith, room)) few
      made [] rest e0 x w h amid0 are refl comes_so goes

  -- and from there on all of them
  pub led_on : (made rest : List Move) (x : End) (v : World) (g : History) → IsAmid made x v g → s.moves ≡ made ++ rest → Chain moment read e0 made x → Chain moment read x rest s.end
      → IsLed v g (made ++ rest) s.end (history_from (map deed_in rest) g)
  led_on made rest x v g amid are comes_so goes =
      leads any codecs laws.again laws.has_room J n sender moment read along number w b0 e0 s.end c0 fit0 book0 s.moves starts
      is_chain.chain top limit (omega arith) (omega arith) (omega (arith, room)) few
      rest made [] x s.end v g amid (are ∙ ap (λ l. made ++ l) (sym (append-nil rest))) comes_so goes refl

  abbrev pub h1 : History
  h1 = history_from (map deed_in s.moves) h

  pub all : IsLed w h s.moves s.end h1
  all = led_to s.moves [] s.end (sym (append-nil s.moves)) is_chain.chain refl

  -- the end of its node
  pub end_there : (made : List Move) (y : End) (v : World) (g : History) → IsAmid made y v g → EndOk v g n y
  end_there made y v g amid =
      let both : EndOk v g n amid.node.end × BookOk g n amid.node.checkpoint.book = subst (NodeOk v g n) amid.there (amid.holds.nodes n) in
      subst (EndOk v g n) amid.end both.0

  -- ---- what its records bring

  -- a tunnel that was there before the step
  module _ (i : ℕ) (made_i : IsMade (h.accounts n i 0)) where
    -- a part of its moves, and the next one
    module _ (pre rest : List Move) (m : Move) (x y : End) (are : s.moves ≡ pre ++ (m ∷ rest)) (comes_so : Chain moment read e0 pre x) (does : Does x moment read m y)
        (goes : Chain moment read y rest s.end) where
      abbrev g : History
      g = history_from (map deed_in pre) h

      led : IsLed w h pre x g
      led = led_to pre (m ∷ rest) x are comes_so (y, does, goes)

      ok : EndOk led.world g n x
      ok = end_there pre x led.world g led.amid

      start : IsOfNoStart m
      start = (all_behind IsOfNoStart pre (m ∷ rest) (subst (AllByRecursion IsOfNoStart) are starts)).0

      -- it doesn't begin then
      begun : IsFirst m → about m ≡ i → ⊥
      begun = by m does
        where
          drawn : (k1 : ℕ) → k1 ≡ x.tunnel_ids.next → k1 ≡ i → ⊥
          drawn k1 is it = let lt = ok.ids.tunnels i (made_along deed_in pre h n i 0 made_i) in omega (arith, is, it, lt)

          by : (q : Move) → Does x moment read q y → IsFirst q → about q ≡ i → ⊥
          by (move.Opened q) d first it = drawn q.tunnel (draw_is x.tunnel_ids q.tunnel d.drawn).0 it
          by (move.Accepted q) d first it = drawn q.tunnel (draw_is x.tunnel_ids q.tunnel d.drawn).0 it
          by q d first it = first

      -- where it isn't established behind the move, it wasn't before
      one_back : WasEarly y i → WasEarly x i
      one_back later = by (does_count x y moment read m start order does i later.tunnel later.there later.active)
        where
          order : Ascends x.tunnels
          order = (fits_there any codecs laws.again laws.has_room J n sender moment read along number w b0 e0 s.end c0 fit0 book0 s.moves starts is_chain.chain top limit (omega arith) (omega arith) (omega (arith, room)) few
              pre (m ∷ rest) x are comes_so).tables.order

          by : Counted x moment read m i later.tunnel → WasEarly x i
          by (Stays q there on same) = record { tunnel = q; there = there; active = on; early = same.goes.early later.early }
          by (Takes q c there on next to more acked) = record { tunnel = q; there = there; active = on; early = to.early later.early }
          by (Reads q nr one there on tells to remote taken acked) = record { tunnel = q; there = there; active = on; early = to.early later.early }
          by (Begins first it taken acked) = absurd (begun first it)
          by (Resets q reset it there off state acked) =
              let three = (ok.live i q there).established off in
              let alike = ap state_number state in
              let lt = later.early in
              absurd (omega (arith, three, alike, lt))

      abbrev its : Bool
      its = (((deed_in m).node == n) && (about (deed_in m).move == i)) && ((deed_in m).epoch == 0)

      -- it entered its first epoch as it did
      one_part : ((history_from (map deed_in (pre ++ m ∷ [])) h).accounts n i 0).part ≡ (g.accounts n i 0).part
      one_part = ap (λ (z : History). (z.accounts n i 0).part) (deed_last deed_in pre m h) ∙ (part_after g (deed_in m) n i 0 ∙ by its refl)
        where
          renews : (entered_by (deed_in m) m (g.accounts n i 0)).part ≡ Renewed → its ≡ true → ⊥
          renews renewed is =
              let made = pre ++ m ∷ [] in
              let behind_it = led_to made rest y (are ∙ sym (append_assoc pre (m ∷ []) rest)) (chain_both moment read e0 x y pre (m ∷ []) comes_so (y, does, refl)) goes in
              let g1 = history_from (map deed_in made) h in
              let part : (g1.accounts n i 0).part ≡ Renewed =
              ap (λ (z : History). (z.accounts n i 0).part) (deed_last deed_in pre m h) ∙ (part_after g (deed_in m) n i 0
              ∙ (ap (λ (z : Bool). (if z then entered_by (deed_in m) m (g.accounts n i 0) else g.accounts n i 0).part) is ∙ renewed)) in
              let lt = (renewed_of behind_it.world g1 n i 0 (g1.accounts n i 0) (behind_it.amid.holds.accounts n i 0) part).later in
              omega (arith, lt)

          by : (z : Bool) → its ≡ z → (if z then entered_by (deed_in m) m (g.accounts n i 0) else g.accounts n i 0).part ≡ (g.accounts n i 0).part
          by true is = kind (part_of (deed_in m) m (g.accounts n i 0))
            where
              kind : PartOf (deed_in m) m (g.accounts n i 0) → (entered_by (deed_in m) m (g.accounts n i 0)).part ≡ (g.accounts n i 0).part
              kind (SamePart alike) = alike
              kind (FirstPart first there) = absurd (begun first (eqb-true (about m) i (and_right (n == n) (about m == i) (and_left ((n == n) && (about m == i)) ((deed_in m).epoch == 0) is))))
              kind (RenewedPart reset renewed) = absurd (renews renewed is)
          by false is = refl

    -- so it is of more of its moves
    early_back : (ns pre rest : List Move) (x y : End) → s.moves ≡ pre ++ (ns ++ rest) → Chain moment read e0 pre x → Chain moment read x ns y → Chain moment read y rest s.end
        → WasEarly y i → WasEarly x i
    early_back [] pre rest x y are comes_so steps goes later = subst (λ q. WasEarly q i) (sym steps) later
    early_back (m ∷ ns) pre rest x y are comes_so steps goes later =
        let behind_it = early_back ns (pre ++ m ∷ []) rest steps.0 y (are ∙ sym (append_assoc pre (m ∷ []) (ns ++ rest)))
        (chain_both moment read e0 x steps.0 pre (m ∷ []) comes_so (steps.0, steps.1, refl)) steps.2 goes later in
        one_back pre (ns ++ rest) m x steps.0 are comes_so steps.1 (chain_both moment read steps.0 y s.end ns rest steps.2 goes) behind_it

    part_back : (ns pre rest : List Move) (x y : End) → s.moves ≡ pre ++ (ns ++ rest) → Chain moment read e0 pre x → Chain moment read x ns y → Chain moment read y rest s.end
        → ((history_from (map deed_in (pre ++ ns)) h).accounts n i 0).part ≡ ((history_from (map deed_in pre) h).accounts n i 0).part
    part_back [] pre rest x y are comes_so steps goes = ap (λ l. ((history_from (map deed_in l) h).accounts n i 0).part) (append-nil pre)
    part_back (m ∷ ns) pre rest x y are comes_so steps goes =
        ap (λ l. ((history_from (map deed_in l) h).accounts n i 0).part) (sym (append_assoc pre (m ∷ []) ns))
        ∙ (part_back ns (pre ++ m ∷ []) rest steps.0 y (are ∙ sym (append_assoc pre (m ∷ []) (ns ++ rest)))
        (chain_both moment read e0 x steps.0 pre (m ∷ []) comes_so (steps.0, steps.1, refl)) steps.2 goes
        ∙ one_part pre (ns ++ rest) m x steps.0 are comes_so steps.1 (chain_both moment read steps.0 y s.end ns rest steps.2 goes))

  -- a move by which a tunnel is established: what came
  module _ (mv : Move) (among : Among mv s.moves) where
    abbrev sp : IsSplit moment read e0 s.end mv s.moves
    sp = split moment read e0 s.end mv s.moves among is_chain.chain

    abbrev gs : History
    gs = history_from (map deed_in sp.before) h

    led_there : IsLed w h sp.before sp.from gs
    led_there = led_to sp.before (mv ∷ sp.behind) sp.from sp.is sp.comes (sp.to, sp.does, sp.goes)

    ok_there : EndOk led_there.world gs n sp.from
    ok_there = end_there sp.before sp.from led_there.world gs led_there.amid

    module _ (i : ℕ) (t : Tunnel) (there : at sp.from.tunnels i ≡ Some t) (current : is_current (mode_of t.recovery) ≡ true) (early : state_number t.control.state < 3) (came : Came)
        (to : ComesTo read t.control came) (msg : Message) (said : message_in came.body ≡ Ok msg) (other : (result : ℕ) (error : Option ℕ) → msg ≡ StopCcn 0 result error → ⊥)
        (no_again : (r : ℕ) → at_zero came.body ≡ Opens r → ⊥) (no_stops : (r : ℕ) → at_zero came.body ≡ Stops r → ⊥) where
      live_there : LiveOk led_there.world gs n i t
      live_there = ok_there.live i t there

      some_i : 0 < i
      some_i = (led_there.amid.holds.accounts n i 0).some live_there.made

      names : came.header.tunnel ≡ i
      names = ⊎_elim
          (λ (is : came.header.tunnel ≡ t.control.local). is ∙ live_there.local)
          (λ k1. ⊎_elim (λ (z : IsAgain came.header came.body t.control). absurd (no_again t.control.remote z.opens)) (λ (z : IsStop came.header came.body t.control). absurd (no_stops t.control.remote z.stops)) k1)
          to.tunnel

      unused_there : (is_some (gs.attempts n i) ≡ true) ⊎ (is_some (gs.answers n i) ≡ true) → ⊥
      unused_there = used_once led_there.world gs led_there.amid.holds n i live_there.made

      sent_before : FromTunnel w h n e0 sender came to.came.bytes
      sent_before = sent_by codecs laws.again laws.has_room w h holds n e0 sender read comes0 i some_i came to.came names msg said other
          (⊎_elim (λ k1. unused_there (inl (attempts_along deed_in sp.before h n i k1))) (λ k1. unused_there (inr (answers_along deed_in sp.before h n i k1))))

      sent_then : FromTunnel led_there.world gs n sp.from sender came to.came.bytes
      sent_then = sent_by codecs laws.again laws.has_room led_there.world gs led_there.amid.holds n sp.from sender read led_there.amid.comes i some_i came to.came names msg said other unused_there

      from_before : IsFrom h sender came.peer n i
      from_before = is_from w h holds n e0 sender i some_i came to.came.bytes sent_before names

      from_then : IsFrom gs sender came.peer n i
      from_then = is_from led_there.world gs led_there.amid.holds n sp.from sender i some_i came to.came.bytes sent_then names

      was_early : WasEarly e0 i
      was_early = early_back i from_before.made sp.before [] (mv ∷ sp.behind) e0 sp.from sp.is refl sp.comes (sp.to, sp.does, sp.goes)
          (record { tunnel = t; there = there; active = current; early = early })

      live_before : LiveOk w h n i was_early.tunnel
      live_before = both_ok.0.live i was_early.tunnel (subst (λ (q : End). at q.tunnels i ≡ Some was_early.tunnel) finds.end was_early.there)

      part_before : ((history_from (map deed_in sp.before) h).accounts n i 0).part ≡ (h.accounts n i 0).part
      unfolding history_from
      part_before = part_back i from_before.made sp.before [] (mv ∷ sp.behind) e0 sp.from sp.is refl sp.comes (sp.to, sp.does, sp.goes)

  connected_booked : (c : Connected) → Among (move.Connected c) s.moves
      → BookedOk h n (record { local = c.tunnel; remote = c.remote; peer = c.peer; window = c.window; flags = c.flags; mark = 0 })
  connected_booked c among =
      let mv = move.Connected c in
      let d = (sp mv among).does in
      let to = d.takes.next.comes in
      let one : state_number d.tunnel.control.state ≡ 1 = ap state_number d.state in
      let early : state_number d.tunnel.control.state < 3 = omega (arith, one) in
      let reply = reply_answers d.letter.body d.opening d.said in
      let no_again : (r : ℕ) → at_zero d.letter.body ≡ Opens r → ⊥ = (λ r z. (let two : Answers d.opening.tunnel ≡ Opens r = sym reply ∙ z in cc)) in
      let no_stops : (r : ℕ) → at_zero d.letter.body ≡ Stops r → ⊥ = (λ r z. (let two : Answers d.opening.tunnel ≡ Stops r = sym reply ∙ z in cc)) in
      let other : (result : ℕ) (error : Option ℕ) → Sccrp d.opening ≡ StopCcn 0 result error → ⊥ = (λ r x z. cc) in
      let f = sent_before mv among c.tunnel d.tunnel d.there d.current early d.letter to (Sccrp d.opening) d.said other no_again no_stops in
      let from = from_before mv among c.tunnel d.tunnel d.there d.current early d.letter to (Sccrp d.opening) d.said other no_again no_stops in
      let named = names mv among c.tunnel d.tunnel d.there d.current early d.letter to (Sccrp d.opening) d.said other no_again no_stops in
      let some = some_i mv among c.tunnel d.tunnel d.there d.current early d.letter to (Sccrp d.opening) d.said other no_again no_stops in
      let r = replies w h holds n e0 sender c.tunnel some d.letter to.came.bytes f named codecs d.opening (ap message_in (sym to.came.body_is) ∙ d.said) in
      let e = was_early mv among c.tunnel d.tunnel d.there d.current early d.letter to (Sccrp d.opening) d.said other no_again no_stops in
      let live = live_before mv among c.tunnel d.tunnel d.there d.current early d.letter to (Sccrp d.opening) d.said other no_again no_stops in
      let fresh = early_state w h holds n c.tunnel e.tunnel live e.active e.early in
      let both : ◌≡◌ {A = Sender} (record { node = from.from; tunnel = from.tunnel }) (record { node = f.packet.from; tunnel = f.o.tunnel }) = (let two = sym from.sender_is ∙ f.sender_is in cc) in
      let from_is : from.from ≡ f.packet.from = ap (λ (z : Sender). z.node) both in
      let tunnel_is : from.tunnel ≡ f.o.tunnel = ap (λ (z : Sender). z.tunnel) both in
      let remote_is : c.remote ≡ from.tunnel = d.remote ∙ (r.1 ∙ sym tunnel_is) in
      let acceptor : (h.accounts from.from from.tunnel 0).part ≡ Acceptor = ap₂ (λ x y. (h.accounts x y 0).part) from_is tunnel_is ∙ r.0 in
      let opener = from.acceptor acceptor in
      let there : h.accounts (h.accounts n c.tunnel 0).peer c.remote 0 ≡ h.accounts from.from from.tunnel 0 = ap₂ (λ x y. h.accounts x y 0) from.back_peer remote_is in
      record {
        made = from.made;
        peer = d.peer ∙ (sym to.peer ∙ (from.address ∙ ap address_of (sym from.back_peer)));
        remote = (let lt = from.some in omega (arith, lt, remote_is));
        knows = ByRecord opener (fresh.1 opener) (ap (λ (z : Account). z.part) there ∙ acceptor) (ap (λ (z : Account). z.peer) there ∙ from.peer_is)
            (ap (λ (z : Account). z.remote) there ∙ from.remote_is);
        learned = λ own. (let two : Opener ≡ Acceptor = sym opener ∙ own in absurd cc);
        late = λ closed. (let two = sym fresh.0 ∙ closed in cc);
      }

  confirmed_booked : (c : Confirmed) → Among (move.Confirmed c) s.moves
      → BookedOk h n (record { local = c.tunnel; remote = c.remote; peer = c.peer; window = c.window; flags = c.flags; mark = 0 })
  confirmed_booked c among =
      let mv = move.Confirmed c in
      let d = (sp mv among).does in
      let to = d.takes.next.comes in
      let state : state_number d.tunnel.control.state ≡ 2 = ap state_number d.state in
      let early : state_number d.tunnel.control.state < 3 = omega (arith, state) in
      let none = confirmation_none d.letter.body d.response d.said in
      let no_again : (r : ℕ) → at_zero d.letter.body ≡ Opens r → ⊥ = (λ r z. (let two : Nobody why.Tunnel ≡ Opens r = sym none ∙ z in cc)) in
      let no_stops : (r : ℕ) → at_zero d.letter.body ≡ Stops r → ⊥ = (λ r z. (let two : Nobody why.Tunnel ≡ Stops r = sym none ∙ z in cc)) in
      let other : (result : ℕ) (error : Option ℕ) → Scccn d.response ≡ StopCcn 0 result error → ⊥ = (λ r x z. cc) in
      let from = from_before mv among c.tunnel d.tunnel d.there d.current early d.letter to (Scccn d.response) d.said other no_again no_stops in
      let behind_it = from_then mv among c.tunnel d.tunnel d.there d.current early d.letter to (Scccn d.response) d.said other no_again no_stops in
      let e = was_early mv among c.tunnel d.tunnel d.there d.current early d.letter to (Scccn d.response) d.said other no_again no_stops in
      let live = live_before mv among c.tunnel d.tunnel d.there d.current early d.letter to (Scccn d.response) d.said other no_again no_stops in
      let fresh = early_state w h holds n c.tunnel e.tunnel live e.active e.early in
      let led1 = led_there mv among in
      let g1 = gs mv among in
      let live1 = live_there mv among c.tunnel d.tunnel d.there d.current early d.letter to (Scccn d.response) d.said other no_again no_stops in
      let accepted_then = waits_accepted led1.world g1 led1.amid.holds n c.tunnel d.tunnel live1 d.current early state in
      let accepted : (h.accounts n c.tunnel 0).part ≡ Acceptor =
      sym (part_before mv among c.tunnel d.tunnel d.there d.current early d.letter to (Scccn d.response) d.said other no_again no_stops) ∙ accepted_then in
      let knows_then = knows_remote led1.world g1 led1.amid.holds n c.tunnel d.tunnel live1 d.current early accepted_then in
      let both : ◌≡◌ {A = Sender} (record { node = from.from; tunnel = from.tunnel }) (record { node = behind_it.from; tunnel = behind_it.tunnel }) = (let two = sym from.sender_is ∙ behind_it.sender_is in cc) in
      let tunnel_is : from.tunnel ≡ behind_it.tunnel = ap (λ (z : Sender). z.tunnel) both in
      let back : (h.accounts n c.tunnel 0).remote ≡ from.tunnel = ⊎_elim (λ own. (let two : Opener ≡ Acceptor = sym (from.acceptor own) ∙ accepted in absurd cc)) (λ z. z) from.back in
      let back_then : (g1.accounts n c.tunnel 0).remote ≡ behind_it.tunnel = ⊎_elim (λ own. (let two : Opener ≡ Acceptor = sym (behind_it.acceptor own) ∙ accepted_then in absurd cc)) (λ z. z) behind_it.back in
      let remote_is : c.remote ≡ from.tunnel = d.remote ∙ (knows_then ∙ (back_then ∙ sym tunnel_is)) in
      let partner : partner_in h.accounts 0 (h.accounts n c.tunnel 0) ≡ h.accounts from.from from.tunnel 0 = ap₂ (λ x y. h.accounts x y 0) from.back_peer back in
      record {
        made = from.made;
        peer = d.peer ∙ (sym to.peer ∙ (from.address ∙ ap address_of (sym from.back_peer)));
        remote = (let lt = from.some in omega (arith, lt, remote_is));
        knows = ByLetter (back ∙ sym remote_is);
        learned = λ own. ap (λ (z : Account). z.remote) partner ∙ from.remote_is;
        late = λ closed. (let two = sym fresh.0 ∙ closed in cc);
      }

  pub moves_bring : (m : Move) → Among m s.moves → AllByRecursion (Brings (BookedOk h n)) (records_of m)
  unfolding records_of
  moves_bring (move.Connected c) among = (connected_booked c among, tt)
  moves_bring (move.Confirmed c) among = (confirmed_booked c among, tt)
  moves_bring (move.FirstUp c) among = (tt, tt)
  moves_bring (move.SecondUp c) among = (tt, tt)
  moves_bring m among = none_up (Brings (BookedOk h n)) (none_brings (BookedOk h n)) m tt

  -- a call that comes up: the other end's id of it has 16 bits
  module _ (mv : Move) (among : Among mv s.moves) where
    abbrev su : IsSplit moment read e0 s.end mv s.moves
    su = split moment read e0 s.end mv s.moves among is_chain.chain

    up_fits : (i q : ℕ) (t : Tunnel) (c : Call) → at su.to.tunnels i ≡ Some t → at t.calls q ≡ Some c → c.remote < 65536
    up_fits i q t c there is =
        let made = su.before ++ mv ∷ [] in
        let led = led_to made su.behind su.to (su.is ∙ sym (append_assoc su.before (mv ∷ []) su.behind))
        (chain_both moment read e0 su.from su.to su.before (mv ∷ []) su.comes (su.to, su.does, refl)) su.goes in
        ((end_there made su.to led.world (history_from (map deed_in made) h) led.amid).live i t there).calls q c is

  first_fits : (c : FirstUp) → Among (move.FirstUp c) s.moves → c.remote < 65536
  first_fits c among =
      let d = (su (move.FirstUp c) among).does in
      let old_call = record d.call { remote = c.remote } in
      let lt = up_fits (move.FirstUp c) among c.tunnel c.session _ _ (ap (λ (q : End). at q.tunnels c.tunnel) d.after
      ∙ at_new _ c.tunnel _) (at_new d.tunnel.calls c.session _) in
      let same = advanced_remote (su (move.FirstUp c) among).from.role call_event.IcrpAcc moment old_call in
      omega (arith, lt, same)

  second_fits : (c : SecondUp) → Among (move.SecondUp c) s.moves → c.remote < 65536
  second_fits c among =
      let d = (su (move.SecondUp c) among).does in
      let lt = up_fits (move.SecondUp c) among c.tunnel c.session _ _ (ap (λ (q : End). at q.tunnels c.tunnel) d.after
      ∙ at_new _ c.tunnel _) (at_new d.tunnel.calls c.session _) in
      let same = advanced_remote (su (move.SecondUp c) among).from.role call_event.IccnAcc moment d.call in
      let is = d.remote in
      omega (arith, lt, same, is)

  calls_bring : (m : Move) → Among m s.moves → AllByRecursion (BringsCall FitsCall) (records_of m)
  unfolding records_of
  calls_bring (move.Connected c) among = (tt, tt)
  calls_bring (move.Confirmed c) among = (tt, tt)
  calls_bring (move.FirstUp c) among = (first_fits c among, tt)
  calls_bring (move.SecondUp c) among = (second_fits c among, tt)
  calls_bring m among = none_up (BringsCall FitsCall) (none_brings_call FitsCall) m tt

  -- ---- where a stop cuts it off

  module _ (kc : Checkpoint) (cut : commits c0 (contents_of e0 s) ≡ IsCut kc) where
    some_records : (m : ℕ) × (kc.book ≡ book_after c0.book (take m (contents_of e0 s)))
    some_records = cut_book c0 (contents_of e0 s) booked.in_place kc cut

    booked_before : BookOk h n c0.book
    booked_before = subst (λ (c : Checkpoint). BookOk h n c.book) (sym finds.checkpoint) both_ok.1

    book_cut : BookOk h n kc.book
    book_cut =
        subst (BookOk h n) (sym some_records.1)
        (book_behind w h holds n c0.book book0.mirrors.tunnels_rise book0.mirrors.calls_rise booked_before
        (take some_records.0 (contents_of e0 s))
        (contents_so (Brings (BookedOk h n)) (none_brings (BookedOk h n)) some_records.0 e0 s moves_bring)
        (contents_so (BringsCall FitsCall) (none_brings_call FitsCall) some_records.0 e0 s calls_bring))

    ceiling_cut : c0.book.tunnel_ceiling ≤ kc.book.tunnel_ceiling
    ceiling_cut =
        subst (λ (b : Kept). c0.book.tunnel_ceiling ≤ b.tunnel_ceiling) (sym some_records.1)
        (ceilings_rise c0.book (take some_records.0 (contents_of e0 s)) (front_in_place some_records.0 c0.book (contents_of e0 s) booked.in_place))

    gone_unmade : (i : ℕ) → (h.accounts n i 0).part ≡ Unmade → at e0.tunnels i ≡ None
    gone_unmade i unmade = by (at e0.tunnels i) refl
      where
        by : (o : Option Tunnel) → at e0.tunnels i ≡ o → o ≡ None
        by None is = refl
        by (Some t) is = absurd ((both_ok.0.live i t (subst (λ (q : End). at q.tunnels i ≡ Some t) finds.end is)).made unmade)

    above_cut : (i : ℕ) → i < old.end.tunnel_ids.next → i < kc.book.tunnel_ceiling + 1
    above_cut i lt =
        let drawn = up.fit.tunnel_ids.drawn in
        let alike = up.book.tunnel_ceiling in
        let kept = ap (λ (c : Checkpoint). c.book.tunnel_ceiling) finds.checkpoint in
        let rises = ceiling_cut in
        omega (arith, lt, drawn, alike, kept, rises)

    pub cut_holds : Holds (cut_line base number n found kc).world h
    cut_holds = cut_off w h holds number n old was found finds base same kc gone_unmade above_cut book_cut

  -- ---- the world in which they are told

  module _ (whole : commits c0 (contents_of e0 s) ≡ IsWhole k) where
    book_then : IsBook s.end k.book
    book_then = subst (IsBook s.end) (sym (whole_book c0 (contents_of e0 s) booked.in_place k whole)) booked.book

    pub agrees1 : (g : History) (v : World) → IsAmid s.moves s.end v g → Agree v w1
    agrees1 g v amid = amid.agrees

    others_look : (q : ℕ) → (q ≡ n → ⊥) → SameLook (at w.nodes q) (at w1.nodes q)
    others_look q o =
        subst (λ x. SameLook x (at w1.nodes q)) (at_other base.nodes n left q o ∙ ap (λ ns. at ns q) same.nodes) (all_look n s.moves b0 q)

    own : (b : Node) × (at w1.nodes n ≡ Some b) × (b.end ≡ s.end) × (b.checkpoint ≡ k)
    own = looks_so left (at w1.nodes n) (subst (λ x. SameLook x (at w1.nodes n)) (at_new base.nodes n left) (all_look n s.moves b0 n))

    end1 : EndOk all.world h1 n s.end
    end1 =
        let both : EndOk all.world h1 n all.amid.node.end × BookOk h1 n all.amid.node.checkpoint.book = subst (NodeOk all.world h1 n) all.amid.there (all.amid.holds.nodes n) in
        subst (EndOk all.world h1 n) all.amid.end both.0

    node1 : (q : ℕ) → NodeOk w1 h1 q (at w1.nodes q)
    node1 q = ⊎_elim
        (λ (is : q ≡ n).
        subst (λ z. NodeOk w1 h1 z (at w1.nodes z)) (sym is)
        (subst (NodeOk w1 h1 n) (sym own.1) (
          subst (EndOk w1 h1 n) (sym own.2) (end_agrees all.world w1 h1 (count_alike all.world w1 all.amid.agrees) n s.end end1),
          subst (λ (c : Checkpoint). BookOk h1 n c.book) (sym own.3) (book_ok all.world h1 all.amid.holds n s.end end1 k.book book_then.mirrors),
        )))
        (λ (o : q ≡ n → ⊥).
        node_agrees all.world w1 h1 (count_alike all.world w1 all.amid.agrees) q (at all.world.nodes q) (at w1.nodes q)
        (look_on (at all.world.nodes q) (at w.nodes q) (at w1.nodes q) (look_back (at w.nodes q) (at all.world.nodes q) (all.amid.others q o)) (others_look q o)) (all.amid.holds.nodes q))
        (same_or_not q n)

    pub holds1 : Holds w1 h1
    holds1 =
        let alike = count_alike all.world w1 all.amid.agrees in
        holds_agrees all.world w1 h1 alike all.amid.holds node1
        (subst (AllByRecursion _) (sym all.amid.agrees.packets) (packets_agree all.world w1 h1 alike all.world.packets all.amid.holds.packets))

    pub below1 : Below h1 limit
    below1 = all.amid.below

    -- ---- what it sends

    -- a packet that is as what was done says up to some move, is so as the step leaves it
    carried_on : (p : Packet) (made rest : List Move) (y : End) (v : World) (g : History) → g ≡ history_from (map deed_in made) h → s.moves ≡ made ++ rest → Chain moment read e0 made y
        → Chain moment read y rest s.end → IsAmid made y v g → PacketOk v g p → PacketOk w1 h1 p
    carried_on p made rest y v g g_is are comes_so goes amid ok =
        let led = led_on made rest y v g amid are comes_so goes in
        let k1 = history_from (map deed_in rest) g in
        let at_end : IsAmid s.moves s.end led.world k1 = subst (λ l. IsAmid l s.end led.world k1) (sym are) led.amid in
        let same : k1 ≡ h1 = ap (history_from (map deed_in rest)) g_is ∙ (deeds_more deed_in made rest h ∙ ap (λ l. history_from (map deed_in l) h) (sym are)) in
        subst (λ q. PacketOk w1 q p) same (packets_agree led.world w1 k1 (count_alike led.world w1 at_end.agrees) (p ∷ []) (led.mail p ok, tt)).0

    module _ (made rest : List Move) (y : End) (are : s.moves ≡ made ++ rest) (comes_so : Chain moment read e0 made y) (goes : Chain moment read y rest s.end) where
      frames_fit : FramesFit made
      frames_fit f among =
          let sp = split moment read e0 y (move.FrameSent f) made among comes_so in
          let after_it = sp.behind ++ rest in
          let is : s.moves ≡ sp.before ++ (move.FrameSent f ∷ after_it) = are ∙ (ap (λ l. l ++ rest) sp.is ∙ append_assoc sp.before (move.FrameSent f ∷ sp.behind) rest) in
          let led = led_to sp.before (move.FrameSent f ∷ after_it) sp.from is sp.comes (sp.to, sp.does, chain_both moment read sp.to y s.end sp.behind rest sp.goes goes) in
          let ok = end_there sp.before sp.from led.world (history_from (map deed_in sp.before) h) led.amid in
          let remote = sp.does.remote in
          let lt = (ok.live f.tunnel sp.does.tunnel sp.does.there).calls f.session sp.does.call sp.does.calls in
          omega (arith, remote, lt)

      starts_rest : AllByRecursion IsOfNoStart rest
      starts_rest = all_behind IsOfNoStart made rest (subst (AllByRecursion IsOfNoStart) are starts)

      epoch_told : (v : World) (g : History) → IsAmid made y v g → (i : ℕ) (t : Tunnel) → at y.tunnels i ≡ Some t → is_current (mode_of t.recovery) ≡ true → epoch_of w1 n i ≡ epoch_of v n i
      epoch_told v g amid i t there current =
          ap (λ q. epoch_of q n i) (ap (λ l. moved_all n l b0) are ∙ moved_more n made rest b0)
          ∙ (chain_epoch n moment read y s.end rest starts_rest goes order i (inl never) (moved_all n made b0) ∙ ap (λ (st : Standing). st.epoch) (amid.agrees.standings n i))
        where
          order : (q : End) (part left : List Move) → rest ≡ part ++ left → Chain moment read y part q → Ascends q.tunnels
          order q part left is from =
              (fits_there any codecs laws.again laws.has_room J n sender moment read along number w b0 e0 s.end c0 fit0 book0 s.moves starts is_chain.chain top limit (omega arith) (omega arith) (omega (arith, room)) few
              (made ++ part) left q (are ∙ (ap (λ l. made ++ l) is ∙ sym (append_assoc made part left))) (chain_both moment read e0 y q made part comes_so from)).tables.order

          never : IsInactive y i → ⊥
          never k1 = let two = sym there ∙ k1.there in let one : t ≡ k1.tunnel = cc in
              true≢false (sym current ∙ (ap (λ (q : Tunnel). is_current (mode_of q.recovery)) one ∙ k1.inactive))

      amid_sent : (peer : ℕ) (bytes : List ℕ) (o : Origin) (i : ℕ) (t : Tunnel) → at y.tunnels i ≡ Some t → peer ≡ t.control.peer → Carries y.role y.config t made bytes o
          → PacketOk w1 h1 (packet_from n (node_of peer) bytes o (epoch_sent w1 n o))
      amid_sent peer bytes o i t there peer_is carries =
          let g = history_from (map deed_in made) h in
          let led = led_to made rest y are comes_so goes in
          carried_on (packet_from n (node_of peer) bytes o (epoch_sent w1 n o)) made rest y led.world g refl are comes_so goes led.amid
          (carries_ok led.world g led.amid.holds n y (end_there made y led.world g led.amid) limit led.amid.below (omega (arith, room)) w1 i t there
          (λ current. epoch_told led.world g led.amid i t there current) peer peer_is bytes made frames_fit o carries)

    -- a StopCCN of no tunnel tells no epoch
    no_epoch : epoch_of w1 n 0 ≡ 0
    no_epoch = ap (λ (st : Standing). st.epoch) ((holds1.standings n 0).none unmade)
      where
        unmade : (h1.accounts n 0 0).part ≡ Unmade
        unmade = by (h1.accounts n 0 0).part refl
          where
            never : IsMade (h1.accounts n 0 0) → ⊥
            never made = let lt = (holds1.accounts n 0 0).some made in omega (arith, lt)

            by : (p : Part) → (h1.accounts n 0 0).part ≡ p → p ≡ Unmade
            by Unmade own_part = refl
            by Opener own_part = absurd (never (λ z. let two : Opener ≡ Unmade = sym own_part ∙ z in absurd cc))
            by Acceptor own_part = absurd (never (λ z. let two : Acceptor ≡ Unmade = sym own_part ∙ z in absurd cc))
            by Renewed own_part = absurd (never (λ z. let two : Renewed ≡ Unmade = sym own_part ∙ z in absurd cc))

    decline_ok : (peer : ℕ) (bytes : List ℕ) (o : Origin) → IsDecline s.moves peer bytes o → PacketOk w1 h1 (packet_from n (node_of peer) bytes o (epoch_sent w1 n o))
    decline_ok peer bytes o dec =
        let m = dec.declined in
        let mv = move.Declined m in
        let sp = split moment read e0 s.end mv s.moves dec.there is_chain.chain in
        let g = history_from (map deed_in sp.before) h in
        let led = led_to sp.before (mv ∷ sp.behind) sp.from sp.is sp.comes (sp.to, sp.does, sp.goes) in
        let for = declined_for codecs laws.again laws.has_room led.world g led.amid.holds n sp.from sp.to sender read led.amid.comes m sp.does in
        let lt = (end_there sp.before sp.from led.world g led.amid).node in
        let made = sp.before ++ mv ∷ [] in
        let are : s.moves ≡ made ++ sp.behind = sp.is ∙ sym (append_assoc sp.before (mv ∷ []) sp.behind) in
        let came = chain_both moment read e0 sp.from sp.to sp.before (mv ∷ []) sp.comes (sp.to, sp.does, refl) in
        let led2 = led_to made sp.behind sp.to are came sp.goes in
        let g2 = history_from (map deed_in made) h in
        let last : g2 ≡ after g (deed_in mv) = deed_last deed_in sp.before mv h in
        let none : epoch_sent w1 n o ≡ 0 = ap (epoch_sent w1 n) dec.origin_is ∙ no_epoch in
        subst (λ u. PacketOk w1 h1 (packet_from n (node_of peer) bytes o u)) (sym none)
        (carried_on (packet_from n (node_of peer) bytes o 0) made sp.behind sp.to led2.world g2 refl are came sp.goes led2.amid
        (subst (λ q. PacketOk led2.world q (packet_from n (node_of peer) bytes o 0)) (sym last)
        (decline_sent led2.world g (deed_in mv) n m lt refl for peer bytes o dec.peer_is dec.bytes_are dec.origin_is)))

    out_ok : (o : Out) → IsOfMoves moment read e0 s.moves s.end o → OutOk n w1 (PacketOk w1 h1) o
    out_ok (Send peer bytes o) (inl k1) = amid_sent k1.amid.made k1.amid.rest k1.amid.end k1.amid.moves_are k1.amid.comes k1.amid.goes peer bytes o k1.id k1.tunnel k1.there k1.peer_is k1.carries
    out_ok (Send peer bytes o) (inr k1) = decline_ok peer bytes o k1
    out_ok (Up session side frame) k1 = tt
    out_ok (Gone session) k1 = tt
    out_ok (Drop x) k1 = tt
    out_ok (Cause x) k1 = tt

    all_shown : IsShown n w1 (PacketOk w1 h1) (shown_all n s.outputs w1)
    all_shown =
        shows n w1 (PacketOk w1 h1) s.outputs w1.packets
        (all_to (IsOfMoves moment read e0 s.moves s.end) (OutOk n w1 (PacketOk w1 h1)) out_ok s.outputs is_chain.outputs) holds1.packets

    abbrev pub w2 : World
    w2 = shown_all n s.outputs w1

    shown_alike : CountAlike w1 w2
    shown_alike = subst (CountAlike w1) (sym all_shown.is) (mail_alike w1 all_shown.mail)

    pub alike2 : CountAlike all.world w2
    alike2 = record {
      standings = λ m j. shown_alike.standings m j ∙ all.amid.agrees.standings m j;
      makes_as = λ m c. shown_alike.makes_as m c ∙ all.amid.agrees.makes_as m c;
    }

    pub holds2 : Holds w2 h1
    holds2 =
        subst (λ u. Holds u h1) (sym all_shown.is)
        (let u = with_mail w1 all_shown.mail in
        let alike = mail_alike w1 all_shown.mail in
        holds_agrees w1 u h1 alike holds1 (λ q. node_agrees w1 u h1 alike q (at w1.nodes q) (at w1.nodes q) (same_look (at w1.nodes q)) (holds1.nodes q))
        (packets_agree w1 u h1 alike all_shown.mail all_shown.all))

    pub others2 : (q : ℕ) → (q ≡ n → ⊥) → SameLook (at all.world.nodes q) (at w2.nodes q)
    others2 q o =
        subst (λ (u : World). SameLook (at all.world.nodes q) (at u.nodes q)) (sym all_shown.is)
        (look_on (at all.world.nodes q) (at w.nodes q) (at w1.nodes q) (look_back (at w.nodes q) (at all.world.nodes q) (all.amid.others q o)) (others_look q o))
