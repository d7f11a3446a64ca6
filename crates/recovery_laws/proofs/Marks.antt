-- No line makes the mark of a tunnel less that is established before and after it: a record raises it, or takes the tunnel out.
use Rattle.std.proofs.Common.{◌≡◌, ◌⊎◌, inl, inr, ℕ, zero, suc, ◌+◌, ◌<◌, ◌≤◌, Bool, true, false, cond, List, [], ◌∷◌, take, refl, sym, ap, ◌∙◌, subst, Option, Some, None, arith}
use Rattle.std.proofs.lemmas.Bool.{true≢false, eqb-true}
use Rattle.std.proofs.lemmas.Bool.Decides.{nat_tests}
use Rattle.std.proofs.lemmas.Option.{none-some}
use Rattle.std.specs.Prelude.{nat_lt, nat_le, is_some, not, ◌&&◌, ◌==◌, option_map, if◌then◌else◌}
use Rattle.std.specs.List.{AllByRecursion}
use Rattle.id_table.specs.Ids.{at, at-none}
use Rattle.tunnel_fsm.specs.declared.table.TunnelState.{TunnelState}
use Rattle.tunnel_fsm.specs.Rows.{state_number}
use Rattle.session_book.specs.declared.record.BookTunnel.{BookTunnel}
use Rattle.session_book.specs.declared.record.Record.{Record}
use Rattle.session_book.specs.declared.record.Record.TheVariants.{Ceiling, TunnelUp, TunnelDown, CallUp, CallDown, Mark}
use Rattle.session_book.specs.Books.{Kept, AreRising, entry, tunnel_at, raised, is_free, is_marked_below, mark_on, fits, stepped as with_record}
use Rattle.session_book.proofs.Orders.{marked_rises}
use Rattle.end_model.specs.declared.event.Event.{Event}
use Rattle.end_model.specs.Secrets.{uncovered_event}
use Rattle.end_model.specs.Contents.{contents_of}
use Rattle.end_model.specs.Moments.{is_open}
use Rattle.end_model.specs.Tunnels.{Tunnel}
use Rattle.end_model.specs.End.{End, Stepped, plain_step, step}
use Rattle.end_model.specs.Starting.{starts}
use Rattle.world_model.specs.World.{World, Node, Checkpoint, Sender, Lined, IsCut, IsWhole, recorded, recorded_all, commits, block_of}
use Rattle.step_laws.specs.Steps.{StepsAreChains, AreKept}
use Rattle.book_laws.specs.Books.{tunnel_record, booked_control, Mirrors, book_after, StepsAreBooked}
use Rattle.book_laws.proofs.Lists.{filter_rises, put_rises, entry_put_other, entry_has, passing, entry_filter, entry_map}
use Rattle.node_laws.specs.Nodes.{HoldsNode, NodesOfRuns, LeavesNoneOut, RecordsOfRuns}
use Rattle.channel_laws.specs.Lines.{ComesIn, WholeStep, WholeStart, LinesDo}
use Rattle.recovery_laws.specs.Marks.{HasMark, InItsEnd, InItsBook, MarksStay, MarksNeverFall}
use Rattle.recovery_laws.proofs.Established.{IsPast, chain_past, NotUp, contents_not_up}
use Rattle.recovery_laws.proofs.Nodes.{IsCommitted, whole_has, whole_all, cut_has, no_cut, Goes, AsItWas, IsNew, ByStep, ByCut, ByFall, ByStart, node_goes, NoneIsArmed, none_is_armed}

-- ---- records

-- where the book has the tunnel its mark is no less than this
pub record IsAtLeast (i mark : ℕ) (k : Kept) : Type 0 where
  pub rises : AreRising (λ t. t.local) k.tunnels
  pub least : (b : BookTunnel) → tunnel_at k i ≡ Some b → mark ≤ b.mark

-- other parts of a book don't matter
of_tunnels : (i mark : ℕ) (k j : Kept) → j.tunnels ≡ k.tunnels → IsAtLeast i mark k → IsAtLeast i mark j
of_tunnels i mark k j is h = record {
  rises = subst (λ ts. AreRising (λ (t : BookTunnel). t.local) ts) (sym is) h.rises;
  least = λ b there. h.least b (ap (λ ts. entry (λ (t : BookTunnel). t.local) i ts) (sym is) ∙ there);
}

raised_tunnels : (space number : ℕ) (k : Kept) → (raised space number k).tunnels ≡ k.tunnels
raised_tunnels space number k = by (space == 1) (space == 2) (space == 3)
  where
    by : (a b c : Bool) → (if a then record k { tunnel_ceiling = number } else if b then record k { session_ceiling = number }
        else if c then record k { draw_ceiling = number } else k).tunnels ≡ k.tunnels
    by true b c = refl
    by false true c = refl
    by false false true = refl
    by false false false = refl

passed : (p : BookTunnel → Bool) (o : Option BookTunnel) (b : BookTunnel) → passing (λ (t : BookTunnel). t.local) p o ≡ Some b → o ≡ Some b
passed p None b h = absurd (none-some b h)
passed p (Some t) b h = by (p t) h
  where
    by : (c : Bool) → cond c (Some t) None ≡ Some b → Some t ≡ Some b
    by true h = h
    by false h = absurd (none-some b h)

mapped : {A B : Type 0} (f : A → B) (o : Option A) (y : B) → option_map f o ≡ Some y → (x : A) × (o ≡ Some x) × (f x ≡ y)
mapped f None y h = absurd cc
mapped f (Some x) y h = (x, refl, cc)

and_left : (a b : Bool) → a && b ≡ true → a ≡ true
and_left true b h = refl
and_left false b h = absurd (true≢false (sym h))

and_right : (a b : Bool) → a && b ≡ true → b ≡ true
and_right true b h = h
and_right false b h = absurd (true≢false (sym h))

of_not : (b : Bool) → not b ≡ true → b ≡ false
of_not true is = absurd (true≢false (sym is))
of_not false is = refl

-- a record of a mark that fits raises it
marks_more : (i id mark more : ℕ) (k : Kept) → is_marked_below more (tunnel_at k id) ≡ true → IsAtLeast i mark k
    → (b : BookTunnel) → tunnel_at k i ≡ Some b → mark ≤ (mark_on id more b).mark
marks_more i id mark more k below h b there = by (b.local == id) refl
  where
    is : b.local ≡ i
    is = entry_has (λ (t : BookTunnel). t.local) i k.tunnels b there

    by : (c : Bool) → (b.local == id) ≡ c → mark ≤ (if c then record b { mark = more } else b).mark
    by true same =
        let one : i ≡ id = sym is ∙ eqb-true b.local id same in
        let lt : nat_lt b.mark more ≡ true = ap (is_marked_below more) (sym (subst (λ j. tunnel_at k j ≡ Some b) one there)) ∙ below in
        let le = h.least b there in
        let less : b.mark < more = grind (arith, nat_tests) in
        omega (arith, le, less)
    by false other = h.least b there

module _ (i mark : ℕ) where
  stepped_least : (k : Kept) (r : Record) → NotUp i r → fits k r ≡ true → IsAtLeast i mark k → IsAtLeast i mark (with_record k r)
  stepped_least k (Ceiling space number) apart fit h = of_tunnels i mark k (raised space number k) (raised_tunnels space number k) h
  stepped_least k (TunnelUp t) apart fit h =
      let free = and_left (is_free t.local k.tunnel_ceiling (is_some (tunnel_at k t.local))) _ fit in
      let none = of_not (is_some (tunnel_at k t.local)) (and_right (nat_lt 0 t.local && nat_le t.local k.tunnel_ceiling) _ free) in
      record {
        rises = put_rises (λ (x : BookTunnel). x.local) t k.tunnels none h.rises;
        least = λ b there. h.least b (sym (entry_put_other (λ (x : BookTunnel). x.local) i t k.tunnels (λ same. apart (sym same))) ∙ there);
      }
  stepped_least k (TunnelDown id) apart fit h = record {
    rises = filter_rises (λ (x : BookTunnel). x.local) (λ (t : BookTunnel). not (t.local == id)) k.tunnels h.rises;
    least = λ b there. h.least b (passed (λ (t : BookTunnel). not (t.local == id)) (tunnel_at k i) b
        (sym (entry_filter (λ (x : BookTunnel). x.local) (λ (t : BookTunnel). not (t.local == id)) i k.tunnels h.rises) ∙ there));
  }
  stepped_least k (CallUp c) apart fit h = of_tunnels i mark k (with_record k (CallUp c)) refl h
  stepped_least k (CallDown id) apart fit h = of_tunnels i mark k (with_record k (CallDown id)) refl h
  stepped_least k (Mark id more) apart fit h = record {
    rises = marked_rises id more k.tunnels h.rises;
    least = λ b there.
        (let m = mapped (mark_on id more) (tunnel_at k i) b (sym (entry_map (λ (x : BookTunnel). x.local) (mark_on id more) (own id more) i k.tunnels) ∙ there) in
        subst (λ (q : BookTunnel). mark ≤ q.mark) m.2 (marks_more i id mark more k fit h m.0 m.1));
  }
    where
      own : (id more : ℕ) (t : BookTunnel) → (mark_on id more t).local ≡ t.local
      own id more t = by (t.local == id)
        where
          by : (c : Bool) → (if c then record t { mark = more } else t).local ≡ t.local
          by true = refl
          by false = refl

  recorded_least : (k : Checkpoint) (r : Record) → NotUp i r → IsAtLeast i mark k.book → IsAtLeast i mark (recorded k r).book
  recorded_least k r apart h = by (fits k.book r) refl
    where
      by : (c : Bool) → fits k.book r ≡ c → IsAtLeast i mark (if c then record k { records = k.records + 1; book = with_record k.book r } else k).book
      by true fit = stepped_least k.book r apart fit h
      by false fit = h

  all_least : (k : Checkpoint) (rs : List Record) → AllByRecursion (NotUp i) rs → IsAtLeast i mark k.book → IsAtLeast i mark (recorded_all k rs).book
  unfolding recorded_all
  all_least k [] apart h = h
  all_least k (r ∷ rs) apart h = all_least (recorded k r) rs apart.1 (recorded_least k r apart.0 h)

front_apart : (i n : ℕ) (rs : List Record) → AllByRecursion (NotUp i) rs → AllByRecursion (NotUp i) (take n rs)
front_apart i zero rs apart = tt
front_apart i (suc n) [] apart = tt
front_apart i (suc n) (r ∷ rs) apart = (apart.0, front_apart i n rs apart.1)

-- what was committed of records of which none says that the tunnel came up
pub committed_least : (i mark : ℕ) (k : Checkpoint) (rs : List Record) (c : Checkpoint) → IsCommitted k rs c → AllByRecursion (NotUp i) rs → IsAtLeast i mark k.book
    → IsAtLeast i mark c.book
committed_least i mark k rs c is apart h =
    subst (IsAtLeast i mark) (sym is.book) (all_least i mark k (take is.count rs) (front_apart i is.count rs apart) h)

-- ---- ends

is_three : (s : TunnelState) → is_open s ≡ true → state_number s ≡ 3
is_three s h = grind (arith, nat_tests)

is_open_so : (s : TunnelState) → state_number s ≡ 3 → is_open s ≡ true
is_open_so s h = grind (arith, nat_tests)

-- the tunnel of an end that its book has
pub in_end : (e : End) (k : Kept) → Mirrors e k → (i : ℕ) (b : BookTunnel) → tunnel_at k i ≡ Some b → (t : Tunnel) × (at e.tunnels i ≡ Some t) × (state_number t.control.state ≡ 3)
in_end e k mirrors i b there = by (at e.tunnels i) refl (sym (mirrors.tunnels i) ∙ there)
  where
    by : (o : Option Tunnel) → at e.tunnels i ≡ o → tunnel_record i o ≡ Some b → (t : Tunnel) × (at e.tunnels i ≡ Some t) × (state_number t.control.state ≡ 3)
    by None is h = absurd (none-some b h)
    by (Some t) is h = open_or_not (is_open t.control.state) refl h
      where
        open_or_not : (c : Bool) → is_open t.control.state ≡ c → (if c then Some (booked_control i t.control) else None) ≡ Some b
            → (u : Tunnel) × (at e.tunnels i ≡ Some u) × (state_number u.control.state ≡ 3)
        open_or_not true three h = (t, is, is_three t.control.state three)
        open_or_not false three h = absurd (none-some b h)

-- and the other way round
pub in_book : (e : End) (k : Kept) → Mirrors e k → (i : ℕ) (t : Tunnel) → at e.tunnels i ≡ Some t → state_number t.control.state ≡ 3
    → (b : BookTunnel) × (tunnel_at k i ≡ Some b) × (b.mark ≡ t.control.mark)
in_book e k mirrors i t there three = (
  booked_control i t.control,
  mirrors.tunnels i ∙ ap (tunnel_record i) there
      ∙ ap (λ c. if c then Some (booked_control i t.control) else None) (is_open_so t.control.state three),
  refl,
)

-- a tunnel that the book has was made
book_past : (e : End) (k : Kept) → AreKept e → Mirrors e k → ((i : ℕ) (t : Tunnel) → at e.tunnels i ≡ Some t → i < e.tunnel_ids.next) → (i : ℕ) (b : BookTunnel)
    → tunnel_at k i ≡ Some b → IsPast e i
book_past e k kept mirrors drawn i b there =
    let h = in_end e k mirrors i b there in
    record {
      order = kept.order;
      drawn = drawn i h.0 h.1;
      state = λ t is. (let both : Some h.0 ≡ Some t = sym h.1 ∙ is in
          let same : h.0 ≡ t = cc in let also = subst (λ (q : Tunnel). state_number q.control.state ≡ 3) same h.2 in omega (arith, also));
    }

-- ---- lines

module _ (chains : StepsAreChains) (booked : StepsAreBooked) (w : World) (nodes : (n : ℕ) (node : Node) → at w.nodes n ≡ Some node → HoldsNode node)
    (records : (n : ℕ) (node : Node) → at w.nodes n ≡ Some node → LeavesNoneOut node) (unarmed : NoneIsArmed w) (number : ℕ) (x : Lined) where
  -- an established tunnel of an end is in the book of its node
  abbrev IsMirrored : Node → Type 0
  IsMirrored node = (i : ℕ) (t : Tunnel) → at node.end.tunnels i ≡ Some t → state_number t.control.state ≡ 3
      → (b : BookTunnel) × (tunnel_at node.checkpoint.book i ≡ Some b) × (b.mark ≡ t.control.mark)

  no_tunnels : (node : Node) → node.end.tunnels ≡ [] → IsMirrored node
  no_tunnels node none i t there three = absurd (none-some t (sym (at-none i) ∙ (ap (λ q. at q i) (sym none) ∙ there)))

  mirrored_by : (node : Node) → Mirrors node.end node.checkpoint.book → IsMirrored node
  mirrored_by node m i t there three = in_book node.end node.checkpoint.book m i t there three

  old_mirrored : (n : ℕ) (old : Node) → at w.nodes n ≡ Some old → IsMirrored old
  old_mirrored n old was = by old.up refl
    where
      by : (b : Bool) → old.up ≡ b → IsMirrored old
      by true up = mirrored_by old ((nodes n old was).up up).book.mirrors
      by false down = no_tunnels old (ap (λ (e : End). e.tunnels) ((nodes n old was).down down))

  as_it_was : (new old : Node) → new.end ≡ old.end → new.checkpoint.book ≡ old.checkpoint.book → IsMirrored old → IsMirrored new
  as_it_was new old end book m i t there three =
      let b = m i t (ap (λ (e : End). at e.tunnels i) (sym end) ∙ there) three in (b.0, ap (λ k. tunnel_at k i) book ∙ b.1, b.2)

  -- a step of a node that is up, on what comes
  step_of : (k : WholeStep w number x) → step k.found.end k.found.clock (block_of k.node number) k.event
      ≡ plain_step k.old.end k.found.clock (block_of k.node number) (uncovered_event k.old.end.config.secret k.event)
  step_of k = ap (λ (e : End). step e k.found.clock (block_of k.node number) k.event) k.finds.end

  abbrev leaves : (k : WholeStep w number x) → List Record
  leaves k = contents_of k.old.end (plain_step k.old.end k.found.clock (block_of k.node number) (uncovered_event k.old.end.config.secret k.event))

  step_committed : (k : WholeStep w number x) → commits k.old.checkpoint (leaves k) ≡ IsWhole k.checkpoint
  step_committed k =
      let s = step_of k in
      sym (ap (λ (c : Checkpoint). commits c (leaves k)) k.finds.checkpoint)
      ∙ (sym (ap (λ (e : End). commits k.found.checkpoint (contents_of e (plain_step k.old.end k.found.clock (block_of k.node number) (uncovered_event k.old.end.config.secret k.event)))) k.finds.end)
      ∙ (sym (ap (λ (q : Stepped). commits k.found.checkpoint (contents_of k.found.end q)) s) ∙ k.whole))

  step_book : (k : WholeStep w number x) → k.checkpoint.book ≡ book_after k.old.checkpoint.book (leaves k)
  step_book k =
      let ev = uncovered_event k.old.end.config.secret k.event in
      whole_all k.old.checkpoint (leaves k) k.checkpoint (step_committed k) ∙ ((records k.node k.old k.was).steps k.up k.found.clock (block_of k.node number) ev).book

  step_mirrors : (k : WholeStep w number x) → Mirrors (step k.found.end k.found.clock (block_of k.node number) k.event).end k.checkpoint.book
  step_mirrors k =
      let ev = uncovered_event k.old.end.config.secret k.event in
      let u = (nodes k.node k.old k.was).up k.up in
      let b = booked k.old.end k.old.checkpoint.book u.kept u.fit u.book k.found.clock (block_of k.node number) ev in
      subst (λ (s : Stepped). Mirrors s.end k.checkpoint.book) (sym (step_of k))
      (subst (λ q. Mirrors (plain_step k.old.end k.found.clock (block_of k.node number) ev).end q) (sym (step_book k)) b.book.mirrors)

  start_book : (k : WholeStart w number x)
      → k.checkpoint.book ≡ book_after k.old.checkpoint.book (contents_of k.old.end (starts k.old.end.role k.old.end.config k.old.checkpoint.book k.old.clock (block_of k.node number)))
  start_book k =
      whole_all k.old.checkpoint (contents_of k.old.end (starts k.old.end.role k.old.end.config k.old.checkpoint.book k.old.clock (block_of k.node number))) k.checkpoint k.whole
      ∙ ((records k.node k.old k.was).start k.down k.old.clock (block_of k.node number)).book

  new_mirrored : (n : ℕ) (new : Node) → Goes w number x n new → IsMirrored new
  new_mirrored n new (AsItWas old was end up book stop) = as_it_was new old end book (old_mirrored n old was)
  new_mirrored n new (IsNew fresh up bare) = no_tunnels new bare
  new_mirrored n new (ByStep k e end up checkpoint) =
      mirrored_by new (subst (λ (q : End). Mirrors q new.checkpoint.book) (sym end) (subst (λ (c : Checkpoint). Mirrors (step k.found.end k.found.clock (block_of k.node number) k.event).end c.book) (sym checkpoint) (step_mirrors k)))
  new_mirrored n new (ByCut k e up checkpoint none) = no_tunnels new none
  new_mirrored n new (ByFall k e up checkpoint none) = no_tunnels new none
  new_mirrored n new (ByStart k e end up checkpoint) =
      let s = starts k.old.end.role k.old.end.config k.old.checkpoint.book k.old.clock (block_of k.node number) in
      let b = (records k.node k.old k.was).back k.down k.old.clock (block_of k.node number) in
      mirrored_by new (subst (λ (q : End). Mirrors q new.checkpoint.book) (sym end) (subst (λ (c : Checkpoint). Mirrors s.end c.book) (sym checkpoint)
      (subst (λ q. Mirrors s.end q) (sym (start_book k)) b.book.mirrors)))

  -- a mark is that of the book
  mark_in_book : (node : Node) → IsMirrored node → (i mark : ℕ) → HasMark node i mark → (b : BookTunnel) × (tunnel_at node.checkpoint.book i ≡ Some b) × (b.mark ≡ mark)
  mark_in_book node m i mark (InItsEnd t there three is) = let b = m i t there three in (b.0, b.1, b.2 ∙ is)
  mark_in_book node m i mark (InItsBook b there is) = (b, there, is)

  -- ---- books

  at_least : (n : ℕ) (old : Node) → at w.nodes n ≡ Some old → (i : ℕ) (b : BookTunnel) → tunnel_at old.checkpoint.book i ≡ Some b → IsAtLeast i b.mark old.checkpoint.book
  at_least n old was i b there = record {
    rises = (nodes n old was).sound.tunnels_rise;
    least = λ c is. (let both : Some b ≡ Some c = sym there ∙ is in let same : b ≡ c = cc in let m = ap (λ (q : BookTunnel). q.mark) same in omega (arith, m));
  }

  -- none of the records of a step of a node that is up says that a tunnel came up which its book has
  step_apart : (n : ℕ) (old : Node) → at w.nodes n ≡ Some old → old.up ≡ true → (i : ℕ) (b : BookTunnel) → tunnel_at old.checkpoint.book i ≡ Some b
      → (moment : ℕ) (block : List ℕ) (ev : Event) → AllByRecursion (NotUp i) (contents_of old.end (step old.end moment block ev))
  step_apart n old was up i b there moment block ev =
      let u = (nodes n old was).up up in
      let raw = uncovered_event old.end.config.secret ev in
      let past = book_past old.end old.checkpoint.book u.kept u.book.mirrors u.looks.tunnels i b there in
      let c = chains old.end u.kept moment block raw in
      contents_not_up i old.end (step old.end moment block ev) (chain_past i moment raw old.end (step old.end moment block ev).moves (step old.end moment block ev).end past c.chain).1

  same_old : (n m : ℕ) (a b : Node) → n ≡ m → at w.nodes n ≡ Some a → at w.nodes m ≡ Some b → a ≡ b
  same_old n m a b e one two = let both : Some a ≡ Some b = sym one ∙ (ap (λ q. at w.nodes q) e ∙ two) in cc

  books_rise : (n : ℕ) (old new : Node) → at w.nodes n ≡ Some old → Goes w number x n new → (i : ℕ) (b c : BookTunnel) → tunnel_at old.checkpoint.book i ≡ Some b
      → tunnel_at new.checkpoint.book i ≡ Some c → b.mark ≤ c.mark
  books_rise n old new was (AsItWas node is end up book stop) i b c before after =
      let same = same_old n n old node refl was is in
      let there : tunnel_at new.checkpoint.book i ≡ Some b = ap (λ k. tunnel_at k i) (book ∙ ap (λ (q : Node). q.checkpoint.book) (sym same)) ∙ before in
      let both : Some b ≡ Some c = sym there ∙ after in let one : b ≡ c = cc in let m = ap (λ (q : BookTunnel). q.mark) one in omega (arith, m)
  books_rise n old new was (IsNew fresh up bare) i b c before after = absurd (none-some old (sym fresh ∙ was))
  books_rise n old new was (ByStep k e end up checkpoint) i b c before after =
      let same = same_old n k.node old k.old e was k.was in
      let there : tunnel_at k.old.checkpoint.book i ≡ Some b = ap (λ (q : Node). tunnel_at q.checkpoint.book i) (sym same) ∙ before in
      let apart = step_apart k.node k.old k.was k.up i b there k.found.clock (block_of k.node number) k.event in
      let l = committed_least i b.mark k.old.checkpoint (leaves k) k.checkpoint (whole_has k.old.checkpoint (leaves k) k.checkpoint (step_committed k)) apart (at_least k.node k.old k.was i b there) in
      l.least c (ap (λ (q : Checkpoint). tunnel_at q.book i) (sym checkpoint) ∙ after)
  books_rise n old new was (ByCut k e up checkpoint none) i b c before after = by k.of
    where
      same : old ≡ k.old
      same = same_old n k.node old k.old e was k.was

      there : tunnel_at k.old.checkpoint.book i ≡ Some b
      there = ap (λ (q : Node). tunnel_at q.checkpoint.book i) (sym same) ∙ before

      cut : commits k.old.checkpoint (contents_of k.old.end k.stepped) ≡ IsCut k.checkpoint
      cut = sym (ap (λ (q : Checkpoint). commits q (contents_of k.old.end k.stepped)) k.finds.checkpoint)
          ∙ (sym (ap (λ (q : End). commits k.found.checkpoint (contents_of q k.stepped)) k.finds.end) ∙ k.cut)

      by : ((k.old.up ≡ true)
          × ((event : Event) × (sender : Option Sender) × ComesIn w k.node k.old event sender × (k.stepped ≡ step k.found.end k.found.clock (block_of k.node number) event)))
          ⊎ ((k.old.up ≡ false) × (k.stepped ≡ starts k.old.end.role k.old.end.config k.old.checkpoint.book k.old.clock (block_of k.node number)))
          → b.mark ≤ c.mark
      by (inl (is_up, (event, sender, comes, is))) =
          let s : k.stepped ≡ step k.old.end k.found.clock (block_of k.node number) event = is ∙ ap (λ (q : End). step q k.found.clock (block_of k.node number) event) k.finds.end in
          let apart = subst (λ (q : Stepped). AllByRecursion (NotUp i) (contents_of k.old.end q)) (sym s)
          (step_apart k.node k.old k.was is_up i b there k.found.clock (block_of k.node number) event) in
          let l = committed_least i b.mark k.old.checkpoint (contents_of k.old.end k.stepped) k.checkpoint (cut_has k.old.checkpoint (contents_of k.old.end k.stepped) k.checkpoint cut) apart (at_least k.node k.old k.was i b there) in
          l.least c (ap (λ (q : Checkpoint). tunnel_at q.book i) (sym checkpoint) ∙ after)
      by (inr (down, is)) = absurd (no_cut k.old.checkpoint (contents_of k.old.end k.stepped) (unarmed k.node k.old k.was down) k.checkpoint cut)
  books_rise n old new was (ByFall k e up checkpoint none) i b c before after =
      let same = same_old n k.node old k.old e was k.was in
      let there : tunnel_at new.checkpoint.book i ≡ Some b = ap (λ (q : Checkpoint). tunnel_at q.book i) checkpoint ∙ (ap (λ (q : Node). tunnel_at q.checkpoint.book i) (sym same) ∙ before) in
      let both : Some b ≡ Some c = sym there ∙ after in let one : b ≡ c = cc in let m = ap (λ (q : BookTunnel). q.mark) one in omega (arith, m)
  books_rise n old new was (ByStart k e end up checkpoint) i b c before after =
      let same = same_old n k.node old k.old e was k.was in
      let back = ((records k.node k.old k.was).back k.down k.old.clock (block_of k.node number)).back in
      let there : tunnel_at k.old.checkpoint.book i ≡ Some b = ap (λ (q : Node). tunnel_at q.checkpoint.book i) (sym same) ∙ before in
      let now : tunnel_at k.checkpoint.book i ≡ Some c = ap (λ (q : Checkpoint). tunnel_at q.book i) (sym checkpoint) ∙ after in
      let was_so = back.only_tunnels i c (ap (λ q. tunnel_at q i) (sym (start_book k)) ∙ now) in
      let both : Some b ≡ Some c = sym there ∙ was_so in let one : b ≡ c = cc in let m = ap (λ (q : BookTunnel). q.mark) one in omega (arith, m)

  marks_stay : ((n : ℕ) (new : Node) → at x.world.nodes n ≡ Some new → Goes w number x n new) → MarksStay w x.world
  marks_stay goes n i before later old new was is one two =
      let g = goes n new is in
      let a = mark_in_book old (old_mirrored n old was) i before one in
      let b = mark_in_book new (new_mirrored n new g) i later two in
      let le = books_rise n old new was g i a.0 b.0 a.1 b.1 in
      let first = a.2 in let second = b.2 in omega (arith, le, first, second)

pub marks_never_fall : StepsAreChains → StepsAreBooked → NodesOfRuns → RecordsOfRuns → LinesDo → MarksNeverFall
marks_never_fall chains booked nodes records does_so lines fits number l x fit h =
    marks_stay chains booked _ (λ n node is. nodes lines fits n node is) (λ n node is. records lines fits n node is) (none_is_armed does_so lines fits) number x
    (λ n new is. node_goes _ number x (does_so _ number l x fit h) n new is)
