-- After each line of a run each established tunnel covers all draw numbers that it heeded, in the end of its node and in the node's book.
use Rattle.std.proofs.Common.{◌≡◌, ◌⊎◌, inl, inr, ℕ, ◌+◌, ◌≤◌, Bool, true, false, List, [], ◌∷◌, refl, sym, ap, ◌∙◌, subst, Option, Some}
use Rattle.std.proofs.Common.{None, arith}
use Rattle.std.proofs.lemmas.Option.{none-some}
use Rattle.std.specs.Prelude.{take, if◌then◌else◌}
use Rattle.std.specs.List.{AllByRecursion}
use Rattle.id_table.specs.Ids.{at, at-none}
use Rattle.id_table.specs.Order.{Ascends}
use Rattle.session_book.specs.declared.record.BookTunnel.{BookTunnel}
use Rattle.session_book.specs.declared.record.Record.{Record}
use Rattle.session_book.specs.Books.{Kept, tunnel_at, fits, stepped as with_record}
use Rattle.end_model.specs.declared.event.Event.{Event}
use Rattle.end_model.specs.declared.event.Event.TheVariants.{Tick}
use Rattle.end_model.specs.Contents.{contents_of}
use Rattle.end_model.specs.Secrets.{uncovered_event}
use Rattle.end_model.specs.Tunnels.{Tunnel}
use Rattle.end_model.specs.End.{End, Stepped, plain_step, step}
use Rattle.end_model.specs.Starting.{bare_end, starts}
use Rattle.world_model.specs.World.{World, Node, Checkpoint, Sender, Lined, IsCut, recorded, recorded_all, commits, block_of, with_stop}
use Rattle.step_laws.specs.Steps.{StepsAreChains, StepsAreNoStarts}
use Rattle.step_laws.specs.Starts.{StartsAreChains}
use Rattle.book_laws.specs.Books.{Mirrors, MovesAreBooked}
use Rattle.book_laws.specs.Starts.{StartIsBooked, StartsAreBooked}
use Rattle.node_laws.specs.Nodes.{HoldsNode}
use Rattle.node_laws.proofs.Nodes.{whole_book}
use Rattle.channel_laws.specs.Lines.{ComesIn, WholeStep, CutStep, WholeStart, OfNode}
use Rattle.channel_laws.proofs.Records.{ceilings_rise}
use Rattle.recovery_laws.specs.Marks.{HasMark, InItsEnd, InItsBook}
use Rattle.recovery_laws.proofs.Established.{IsPast, NotUp, chain_past, contents_not_up}
use Rattle.recovery_laws.proofs.Marks.{IsAtLeast, committed_least, in_book, in_end}
use Rattle.recovery_laws.proofs.Nodes.{IsCommitted, cut_has, no_cut, Goes, AsItWas, IsNew, ByStep, ByCut, ByFall, ByStart, NoneIsArmed}
use Rattle.fact_laws.proofs.Marked.{IsMarked, marked_on}

-- a tunnel of a node covers a number, in the node's end and in its book
pub record IsHeeded (i draw : ℕ) (node : Node) : Type 0 where
  pub marked : IsMarked node.end i draw
  pub book : (b : BookTunnel) → tunnel_at node.checkpoint.book i ≡ Some b → draw ≤ b.mark

pub in_mark : (i draw mark : ℕ) (node : Node) → IsHeeded i draw node → HasMark node i mark → draw ≤ mark
in_mark i draw mark node h (InItsEnd t there three is) = let le = h.marked.mark t there in omega (arith, le, is)
in_mark i draw mark node h (InItsBook b there is) = let le = h.book b there in omega (arith, le, is)

-- ---- ceilings

record_rises : (k : Checkpoint) (r : Record) → k.book.tunnel_ceiling ≤ (recorded k r).book.tunnel_ceiling
record_rises k r = by (fits k.book r) refl
  where
    by : (c : Bool) → fits k.book r ≡ c
        → k.book.tunnel_ceiling ≤ (if c then record k { records = k.records + 1; book = with_record k.book r } else k).book.tunnel_ceiling
    by true fit = ceilings_rise k.book (r ∷ []) (fit, tt)
    by false fit = omega arith

all_rise : (k : Checkpoint) (rs : List Record) → k.book.tunnel_ceiling ≤ (recorded_all k rs).book.tunnel_ceiling
unfolding recorded_all
all_rise k [] = omega arith
all_rise k (r ∷ rs) =
    let one = record_rises k r in
    let more = all_rise (recorded k r) rs in
    omega (arith, one, more)

-- ---- ends

-- a tunnel that an end drew was drawn by an end without tunnels that draws on from there
bare_marked : (e x : End) (i draw : ℕ) → IsPast e i → x.tunnels ≡ [] → e.tunnel_ids.next ≤ x.tunnel_ids.next → IsMarked x i draw
unfolding Ascends
bare_marked e x i draw past none le = record {
  past = record {
    order = subst (λ (q : List (ℕ × Tunnel)). Ascends q) (sym none) tt;
    drawn = (let d = past.drawn in omega (arith, d, le));
    state = λ t there. absurd (none-some t (sym (at-none i) ∙ (ap (λ q. at q i) (sym none) ∙ there)));
  };
  mark = λ t there. absurd (none-some t (sym (at-none i) ∙ (ap (λ q. at q i) (sym none) ∙ there)));
}

-- what an end covers its book does
pub in_its_book : (e : End) (k : Kept) → Mirrors e k → (i draw : ℕ) → IsMarked e i draw → (b : BookTunnel) → tunnel_at k i ≡ Some b
    → draw ≤ b.mark
in_its_book e k mirrors i draw marked b there =
    let t = in_end e k mirrors i b there in
    let again = in_book e k mirrors i t.0 t.1 t.2 in
    let both : Some again.0 ≡ Some b = sym again.1 ∙ there in
    let same : again.0 ≡ b = cc in
    let le = marked.mark t.0 t.1 in
    let is : again.0.mark ≡ t.0.control.mark = again.2 in
    let mark_is : again.0.mark ≡ b.mark = ap (λ (q : BookTunnel). q.mark) same in
    omega (arith, le, is, mark_is)

-- so the node of an end that is up covers what the end does
pub by_end : (i draw : ℕ) (new : Node) → HoldsNode new → new.up ≡ true → IsMarked new.end i draw → IsHeeded i draw new
by_end i draw new h up marked = record {
  marked = marked;
  book = λ b there. in_its_book new.end new.checkpoint.book (h.up up).book.mirrors i draw marked b there;
}

-- ---- a line

-- the laws that are used
pub record Laws : Type 0 where
  pub chains : StepsAreChains
  pub no_starts : StepsAreNoStarts
  pub moves : MovesAreBooked
  pub starting : StartsAreChains
  pub started : StartsAreBooked

-- a whole step of a node, with what is hidden uncovered
module _ (w : World) (number : ℕ) (x : Lined) where
  abbrev pub event_of : WholeStep w number x → Event
  event_of k = uncovered_event k.old.end.config.secret k.event

  abbrev pub plain_of : WholeStep w number x → Stepped
  plain_of k = plain_step k.old.end k.found.clock (block_of k.node number) (event_of k)

  pub plain_end : (k : WholeStep w number x) → (step k.found.end k.found.clock (block_of k.node number) k.event) ≡ plain_of k
  plain_end k = ap (λ (e : End). step e k.found.clock (block_of k.node number) k.event) k.finds.end

module _ (laws : Laws) (w : World) (number : ℕ) (x : Lined) (nodes : (n : ℕ) (node : Node) → at w.nodes n ≡ Some node → HoldsNode node)
    (unarmed : NoneIsArmed w) (i draw : ℕ) where
  -- a number names one node
  same_old : (n m : ℕ) (a b : Node) → n ≡ m → at w.nodes n ≡ Some a → at w.nodes m ≡ Some b → a ≡ b
  same_old n m a b e one two = let both : Some a ≡ Some b = sym one ∙ (ap (λ q. at w.nodes q) e ∙ two) in cc

  -- of a node that is up the ceiling of tunnels is no less than the ids that were drawn
  drawn_within : (n : ℕ) (old : Node) → at w.nodes n ≡ Some old → old.up ≡ true
      → old.end.tunnel_ids.next ≤ old.checkpoint.book.tunnel_ceiling + 1
  drawn_within n old was up =
      let u = (nodes n old was).up up in
      let d = u.fit.tunnel_ids.drawn in
      let c = u.book.tunnel_ceiling in
      omega (arith, d, c)

  -- one that is down draws above it
  drawn_down : (new : Node) → HoldsNode new → new.up ≡ false → new.end.tunnel_ids.next ≡ new.checkpoint.book.tunnel_ceiling + 1
  drawn_down new h down = ap (λ (e : End). e.tunnel_ids.next) (h.down down)

  -- a step
  step_marked : (k : WholeStep w number x) → IsMarked k.old.end i draw → IsMarked (plain_of w number x k).end i draw
  step_marked k marked =
      let u = (nodes k.node k.old k.was).up k.up in
      let ev = event_of w number x k in
      let s = plain_of w number x k in
      marked_on i draw k.found.clock ev k.old.end s.moves s.end
      (laws.no_starts k.old.end k.found.clock (block_of k.node number) ev)
      (laws.chains k.old.end u.kept k.found.clock (block_of k.node number) ev).chain
      marked

  -- a step that a stop cut off
  abbrev cut_records : CutStep w number x → List Record
  cut_records k = contents_of k.old.end k.stepped

  cut_so : (k : CutStep w number x) → commits k.old.checkpoint (cut_records k) ≡ IsCut k.checkpoint
  cut_so k =
      sym (ap (λ (q : Checkpoint). commits q (contents_of k.old.end k.stepped)) k.finds.checkpoint)
      ∙ (sym (ap (λ (q : End). commits k.found.checkpoint (contents_of q k.stepped)) k.finds.end) ∙ k.cut)

  abbrev OfCut : CutStep w number x → Type 0
  OfCut k = ((k.old.up ≡ true)
      × ((event : Event) × (sender : Option Sender) × ComesIn w k.node k.old event sender
      × (k.stepped ≡ step k.found.end k.found.clock (block_of k.node number) event)))
      ⊎ ((k.old.up ≡ false)
      × (k.stepped ≡ starts k.old.end.role k.old.end.config k.old.checkpoint.book k.old.clock (block_of k.node number)))

  cut_up : (k : CutStep w number x) → OfCut k → (k.old.up ≡ true) × (IsPast k.old.end i → AllByRecursion (NotUp i) (cut_records k))
  cut_up k (inr (down, is)) = absurd (no_cut k.old.checkpoint (cut_records k) (unarmed k.node k.old k.was down) k.checkpoint (cut_so k))
  cut_up k (inl (up, (event, sender, comes, is))) = (
    up,
    λ past.
        (let u = (nodes k.node k.old k.was).up up in
        let raw = uncovered_event k.old.end.config.secret event in
        let s = plain_step k.old.end k.found.clock (block_of k.node number) raw in
        let same : k.stepped ≡ s = is ∙ ap (λ (q : End). step q k.found.clock (block_of k.node number) event) k.finds.end in
        let c = laws.chains k.old.end u.kept k.found.clock (block_of k.node number) raw in
        subst (λ (q : Stepped). AllByRecursion (NotUp i) (contents_of k.old.end q)) (sym same)
        (contents_not_up i k.old.end s (chain_past i k.found.clock raw k.old.end s.moves s.end past c.chain).1)),
  )

  cut_heeded : (k : CutStep w number x) (new : Node) → HoldsNode new → new.up ≡ false → new.checkpoint ≡ with_stop None k.checkpoint
      → new.end.tunnels ≡ [] → IsHeeded i draw k.old → IsHeeded i draw new
  cut_heeded k new h down checkpoint none heeded =
      let c = cut_up k k.of in
      let has : IsCommitted k.old.checkpoint (cut_records k) k.checkpoint =
      cut_has k.old.checkpoint (cut_records k) k.checkpoint (cut_so k) in
      let first : IsAtLeast i draw k.old.checkpoint.book = record {
        rises = (nodes k.node k.old k.was).sound.tunnels_rise;
        least = heeded.book;
      } in
      let least = committed_least i draw k.old.checkpoint (cut_records k) k.checkpoint has (c.1 heeded.marked.past) first in
      let books : new.checkpoint.book ≡ k.checkpoint.book = ap (λ (q : Checkpoint). q.book) checkpoint in
      let before = drawn_within k.node k.old k.was c.0 in
      let behind = drawn_down new h down in
      let rose = all_rise k.old.checkpoint (take has.count (cut_records k)) in
      let same : new.checkpoint.book.tunnel_ceiling ≡ (recorded_all k.old.checkpoint (take has.count (cut_records k))).book.tunnel_ceiling =
      ap (λ (q : Kept). q.tunnel_ceiling) (books ∙ has.book) in
      record {
        marked = bare_marked k.old.end new.end i draw heeded.marked.past none (omega (arith, before, behind, rose, same));
        book = λ b there. least.least b (ap (λ (q : Kept). tunnel_at q i) (sym books) ∙ there);
      }

  -- a node that falls
  fall_heeded : (k : OfNode w) (new : Node) → HoldsNode new → new.up ≡ false → new.checkpoint ≡ with_stop None k.old.checkpoint
      → new.end.tunnels ≡ [] → IsHeeded i draw k.old → IsHeeded i draw new
  fall_heeded k new h down checkpoint none heeded =
      let books : new.checkpoint.book ≡ k.old.checkpoint.book = ap (λ (q : Checkpoint). q.book) checkpoint in
      let before = drawn_within k.node k.old k.was k.up in
      let behind = drawn_down new h down in
      let same : new.checkpoint.book.tunnel_ceiling ≡ k.old.checkpoint.book.tunnel_ceiling = ap (λ (q : Kept). q.tunnel_ceiling) books in
      record {
        marked = bare_marked k.old.end new.end i draw heeded.marked.past none (omega (arith, before, behind, same));
        book = λ b there. heeded.book b (ap (λ (q : Kept). tunnel_at q i) (sym books) ∙ there);
      }

  -- a start
  abbrev started_by : WholeStart w number x → Stepped
  started_by k = starts k.old.end.role k.old.end.config k.old.checkpoint.book k.old.clock (block_of k.node number)

  start_booked : (k : WholeStart w number x) → StartIsBooked k.old.end k.old.checkpoint.book (started_by k)
  start_booked k =
      let h = nodes k.node k.old k.was in
      let b = laws.started k.old.end.role k.old.end.config k.old.checkpoint.book h.sound h.suits k.old.clock (block_of k.node number) in
      subst (λ (e : End). StartIsBooked e k.old.checkpoint.book (started_by k)) (sym (h.down k.down)) b

  start_past : (k : WholeStart w number x) → IsPast k.old.end i → IsPast (started_by k).end i
  start_past k past =
      let h = nodes k.node k.old k.was in
      let r = k.old.end.role in
      let c = k.old.end.config in
      let j = k.old.checkpoint.book in
      let chain = (laws.starting r c j h.sound k.old.clock (block_of k.node number) Tick).chain in
      (chain_past i k.old.clock Tick (bare_end r c j) (started_by k).moves (started_by k).end
      (subst (λ (e : End). IsPast e i) (h.down k.down) past) chain).0

  start_heeded : (k : WholeStart w number x) (new : Node) → HoldsNode new → new.end ≡ (started_by k).end → new.up ≡ true
      → new.checkpoint ≡ k.checkpoint → IsHeeded i draw k.old → IsHeeded i draw new
  start_heeded k new h end up checkpoint heeded =
      record {
        marked = record {
          past = subst (λ (e : End). IsPast e i) (sym end) (start_past k heeded.marked.past);
          mark = mark_of;
        };
        book = book_of;
      }
    where
      b : StartIsBooked k.old.end k.old.checkpoint.book (started_by k)
      b = start_booked k

      books : new.checkpoint.book ≡ k.checkpoint.book
      books = ap (λ (q : Checkpoint). q.book) checkpoint

      book_of : (t : BookTunnel) → tunnel_at new.checkpoint.book i ≡ Some t → draw ≤ t.mark
      book_of t there =
          let whole = whole_book k.old.checkpoint (contents_of k.old.end (started_by k)) b.in_place k.checkpoint k.whole in
          heeded.book t (b.back.only_tunnels i t (ap (λ (q : Kept). tunnel_at q i) (sym (books ∙ whole)) ∙ there))

      mark_of : (t : Tunnel) → at new.end.tunnels i ≡ Some t → draw ≤ t.control.mark
      mark_of t there =
          let three = (b.up i t (ap (λ (e : End). at e.tunnels i) (sym end) ∙ there)).0 in
          let in_it = in_book new.end new.checkpoint.book (h.up up).book.mirrors i t there three in
          let le = book_of in_it.0 in_it.1 in
          let is : in_it.0.mark ≡ t.control.mark = in_it.2 in
          omega (arith, le, is)

  -- ---- any line

  own : (n m : ℕ) (old other : Node) → n ≡ m → at w.nodes n ≡ Some old → at w.nodes m ≡ Some other → IsHeeded i draw old
      → IsHeeded i draw other
  own n m old other e was there heeded = subst (IsHeeded i draw) (same_old n m old other e was there) heeded

  pub goes_heeded : (n : ℕ) (old new : Node) → at w.nodes n ≡ Some old → HoldsNode new → Goes w number x n new → IsHeeded i draw old
      → IsHeeded i draw new
  goes_heeded n old new was h (AsItWas before is end up book stop) heeded =
      let q = own n n old before refl was is heeded in
      record {
        marked = subst (λ (e : End). IsMarked e i draw) (sym end) q.marked;
        book = λ b there. q.book b (ap (λ (k : Kept). tunnel_at k i) (sym book) ∙ there);
      }
  goes_heeded n old new was h (IsNew fresh up bare) heeded = absurd (none-some old (sym fresh ∙ was))
  goes_heeded n old new was h (ByStep k e end up checkpoint) heeded =
      let q = own n k.node old k.old e was k.was heeded in
      by_end i draw new h up
      (subst (λ (y : End). IsMarked y i draw) (sym (end ∙ ap (λ (s : Stepped). s.end) (plain_end w number x k))) (step_marked k q.marked))
  goes_heeded n old new was h (ByCut k e up checkpoint none) heeded =
      cut_heeded k new h up checkpoint none (own n k.node old k.old e was k.was heeded)
  goes_heeded n old new was h (ByFall k e up checkpoint none) heeded =
      fall_heeded k new h up checkpoint none (own n k.node old k.old e was k.was heeded)
  goes_heeded n old new was h (ByStart k e end up checkpoint) heeded =
      start_heeded k new h end up checkpoint (own n k.node old k.old e was k.was heeded)
