-- What a line leaves of the nodes of a world, and that no stop is armed for a node that is down.
use Rattle.std.proofs.Common.{◌≡◌, ⊎_elim, ℕ, ◌+◌, ◌-◌, Bool, true, false, List, [], ◌∷◌, take, length, refl, sym, ap, ◌∙◌, subst, Option, Some, None, Result, Ok, Err}
use Rattle.std.proofs.lemmas.Bool.{true≢false}
use Rattle.std.proofs.lemmas.Option.{none-some}
use Rattle.std.specs.Prelude.{nat_le, if◌then◌else◌}
use Rattle.id_table.specs.Ids.{at, put, at-none}
use Rattle.id_table.specs.Order.{at_new, at_other, same_or_not}
use Rattle.schedule_text.specs.declared.line.Line.{Line}
use Rattle.schedule_text.specs.Grammar.{AreLines, FitsLine}
use Rattle.session_book.specs.declared.record.Record.{Record}
use Rattle.end_model.specs.End.{End, step}
use Rattle.end_model.specs.Starting.{starts}
use Rattle.world_model.specs.declared.refusal.Refusal.{Refusal}
use Rattle.world_model.specs.declared.stop.StopAt.{StopAt}
use Rattle.world_model.specs.World.{World, Node, Checkpoint, Lined, Committed, IsFull, IsCut, IsWhole, recorded_all, is_full, with_stop, kept_by, commits_by, commits, fallen, without_held, cut_line, block_of, opened, line}
use Rattle.world_model.specs.Run.{Run, empty_run, after_line, goes_on, run_from, run}
use Rattle.channel_laws.specs.Lines.{AreSame, WholeStep, CutStep, WholeStart, OfNode, LineDoes, Nothing, ANode, Arms, Falls, Steps, Cuts, Starts, LinesDo}
use Rattle.recovery_laws.proofs.Alike.{IsLike, stepped_like}

-- ---- what is committed

-- the records that were committed, and what is armed then
pub record IsCommitted (k : Checkpoint) (rs : List Record) (c : Checkpoint) : Type 0 where
  pub count : ℕ
  pub book : c.book ≡ (recorded_all k (take count rs)).book

all_front : {X : Type 0} (xs : List X) → take (length xs) xs ≡ xs
all_front [] = refl
all_front (x ∷ xs) = ap (λ q. x ∷ q) (all_front xs)

module _ (k : Checkpoint) (rs : List Record) where
  abbrev Has : Committed → Type 0
  Has (IsFull records) = Unit {0}
  Has (IsCut c) = IsCommitted k rs c
  Has (IsWhole c) = IsCommitted k rs c

  has : Has (commits k rs)
  unfolding commits commits_by
  has = by (is_full k rs) k.stop
    where
      whole : (c : Checkpoint) → c.book ≡ (recorded_all k rs).book → IsCommitted k rs c
      whole c is = record { count = length rs; book = is ∙ ap (λ q. (recorded_all k q).book) (sym (all_front rs)) }

      by : (b : Bool) (o : Option StopAt) → Has (if b then IsFull k.records else commits_by k rs o)
      by true o = tt
      by false None = whole (recorded_all k rs) refl
      by false (Some s) = reached (nat_le s.commit (length rs))
        where
          reached : (c : Bool) → Has (if c then IsCut (recorded_all k (take (kept_by s) rs)) else IsWhole (with_stop (Some (record s { commit = s.commit - length rs })) (recorded_all k rs)))
          reached true = record { count = kept_by s; book = refl }
          reached false = whole (with_stop (Some (record s { commit = s.commit - length rs })) (recorded_all k rs)) refl

  pub whole_has : (c : Checkpoint) → commits k rs ≡ IsWhole c → IsCommitted k rs c
  whole_has c is = subst Has is has

  -- all of them, where none was cut off
  abbrev HasAll : Committed → Type 0
  HasAll (IsFull records) = Unit {0}
  HasAll (IsCut c) = Unit {0}
  HasAll (IsWhole c) = c.book ≡ (recorded_all k rs).book

  pub whole_all : (c : Checkpoint) → commits k rs ≡ IsWhole c → c.book ≡ (recorded_all k rs).book
  unfolding commits commits_by
  whole_all c is = subst HasAll is (by (is_full k rs) k.stop)
    where
      by : (b : Bool) (o : Option StopAt) → HasAll (if b then IsFull k.records else commits_by k rs o)
      by true o = tt
      by false None = refl
      by false (Some s) = reached (nat_le s.commit (length rs))
        where
          reached : (c : Bool) → HasAll (if c then IsCut (recorded_all k (take (kept_by s) rs)) else IsWhole (with_stop (Some (record s { commit = s.commit - length rs })) (recorded_all k rs)))
          reached true = tt
          reached false = refl

  pub cut_has : (c : Checkpoint) → commits k rs ≡ IsCut c → IsCommitted k rs c
  cut_has c is = subst Has is has

  abbrev Uncut : Committed → Type 0
  Uncut (IsFull records) = Unit {0}
  Uncut (IsCut c) = ⊥
  Uncut (IsWhole c) = Unit {0}

  -- where no stop is armed none cuts a step
  pub no_cut : k.stop ≡ None → (c : Checkpoint) → commits k rs ≡ IsCut c → ⊥
  unfolding commits commits_by
  no_cut none c is = subst Uncut is (by (is_full k rs) (k.stop) none)
    where
      by : (b : Bool) (o : Option StopAt) → o ≡ None → Uncut (if b then IsFull k.records else commits_by k rs o)
      by true o e = tt
      by false None e = tt
      by false (Some s) e = absurd (none-some s (sym e))

-- ---- the nodes of worlds

-- a node that was put, or one that was there
pub put_node : (P : Node → Type 0) (w : World) (n m : ℕ) (node x : Node) → at (put w.nodes n node) m ≡ Some x → ((m ≡ n) → node ≡ x → P x)
    → ((m ≡ n → ⊥) → at w.nodes m ≡ Some x → P x) → P x
put_node P w n m node x there new old = ⊎_elim
    (λ (e : m ≡ n).
    let here : at (put w.nodes n node) n ≡ Some x = subst (λ q. at (put w.nodes n node) q ≡ Some x) e there in
    let same : Some node ≡ Some x = sym (at_new w.nodes n node) ∙ here in
    new e cc)
    (λ (o : m ≡ n → ⊥). old o (sym (at_other w.nodes n node m o) ∙ there))
    (same_or_not m n)

-- what a line leaves of a node: it is like it was before, or new, or it is the node of the line
pub data Goes (w : World) (number : ℕ) (x : Lined) (n : ℕ) (new : Node) : Type 0 where
  AsItWas : (old : Node) → at w.nodes n ≡ Some old → new.end ≡ old.end → new.up ≡ old.up → new.checkpoint.book ≡ old.checkpoint.book
      → (old.up ≡ false → new.checkpoint.stop ≡ old.checkpoint.stop) → Goes w number x n new
  IsNew : at w.nodes n ≡ None → new.up ≡ true → new.end.tunnels ≡ [] → Goes w number x n new
  ByStep : (k : WholeStep w number x) → n ≡ k.node → new.end ≡ (step k.found.end k.found.clock (block_of k.node number) k.event).end → new.up ≡ true
      → new.checkpoint ≡ k.checkpoint → Goes w number x n new
  ByCut : (k : CutStep w number x) → n ≡ k.node → new.up ≡ false → new.checkpoint ≡ with_stop None k.checkpoint
      → new.end.tunnels ≡ [] → Goes w number x n new
  ByFall : (k : OfNode w) → n ≡ k.node → new.up ≡ false → new.checkpoint ≡ with_stop None k.old.checkpoint → new.end.tunnels ≡ [] → Goes w number x n new
  ByStart : (k : WholeStart w number x) → n ≡ k.node
      → new.end ≡ (starts k.old.end.role k.old.end.config k.old.checkpoint.book k.old.clock (block_of k.node number)).end → new.up ≡ true
      → new.checkpoint ≡ k.checkpoint → Goes w number x n new

module _ (w : World) (number : ℕ) (x : Lined) where
  -- of another node than that of a step
  other_node : (base : World) (m : ℕ) (new old : Node) → AreSame w base → at base.nodes m ≡ Some old → IsLike old new → Goes w number x m new
  other_node base m new old same is like =
      AsItWas old (ap (λ q. at q m) (sym same.nodes) ∙ is) like.end like.up (ap (λ (c : Checkpoint). c.book) like.checkpoint) (λ down. ap (λ (c : Checkpoint). c.stop) like.checkpoint)

  after_whole : (k : WholeStep w number x) → (m : ℕ) (new : Node) → at x.world.nodes m ≡ Some new → Goes w number x m new
  after_whole k m new there =
      let s = step k.found.end k.found.clock (block_of k.node number) k.event in
      let node = record k.found { checkpoint = k.checkpoint } in
      let l = stepped_like k.base number k.node node k.sender s m new (ap (λ (v : World). at v.nodes m) (sym k.world) ∙ there) in
      put_node (λ (o : Node). IsLike o new → Goes w number x m new) k.base k.node m (record node { end = s.end }) l.old l.was
      (λ e same like.
      ByStep k e (like.end ∙ ap (λ (q : Node). q.end) (sym same)) (like.up ∙ ap (λ (q : Node). q.up) (sym same) ∙ k.still) (like.checkpoint ∙ ap (λ (q : Node). q.checkpoint) (sym same)))
      (λ o was like. other_node k.base m new l.old k.same was like)
      l.like

  cut_node : (base : World) (n : ℕ) (node : Node) (k : Checkpoint) (m : ℕ)
      → at (cut_line base number n node k).world.nodes m ≡ at (put base.nodes n (fallen (block_of n number) node.end node k)) m
  unfolding cut_line
  cut_node base n node k m = refl

  fallen_end : (block : List ℕ) (before : End) (node : Node) (k : Checkpoint) → (fallen block before node k).end.tunnels ≡ []
  unfolding fallen
  fallen_end block before node k = refl

  fallen_up : (block : List ℕ) (before : End) (node : Node) (k : Checkpoint) → (fallen block before node k).up ≡ false
  unfolding fallen
  fallen_up block before node k = refl

  fallen_checkpoint : (block : List ℕ) (before : End) (node : Node) (k : Checkpoint) → (fallen block before node k).checkpoint ≡ with_stop None k
  unfolding fallen
  fallen_checkpoint block before node k = refl

  after_cut : (k : CutStep w number x) → (m : ℕ) (new : Node) → at x.world.nodes m ≡ Some new → Goes w number x m new
  after_cut k m new there =
      let block = block_of k.node number in
      let node = fallen block k.found.end k.found k.checkpoint in
      put_node (λ q. Goes w number x m q) k.base k.node m node new
      (sym (cut_node k.base k.node k.found k.checkpoint m) ∙ (ap (λ (v : World). at v.nodes m) (sym k.world) ∙ there))
      (λ e same. ByCut k e (ap (λ (q : Node). q.up) (sym same) ∙ fallen_up block k.found.end k.found k.checkpoint)
      (ap (λ (q : Node). q.checkpoint) (sym same) ∙ fallen_checkpoint block k.found.end k.found k.checkpoint)
      (ap (λ (q : Node). q.end.tunnels) (sym same) ∙ fallen_end block k.found.end k.found k.checkpoint))
      (λ o was. other_node k.base m new new k.same was (record { end = refl; up = refl; checkpoint = refl }))

  after_start : (k : WholeStart w number x) → (m : ℕ) (new : Node) → at x.world.nodes m ≡ Some new → Goes w number x m new
  after_start k m new there =
      let s = starts k.old.end.role k.old.end.config k.old.checkpoint.book k.old.clock (block_of k.node number) in
      let node = record (opened (block_of k.node number) k.old) { checkpoint = k.checkpoint } in
      let l = stepped_like w number k.node node None s m new (ap (λ (v : Lined). at v.world.nodes m) (sym k.is) ∙ there) in
      put_node (λ (o : Node). IsLike o new → Goes w number x m new) w k.node m (record node { end = s.end }) l.old l.was
      (λ e same like.
      ByStart k e (like.end ∙ ap (λ (q : Node). q.end) (sym same)) (like.up ∙ ap (λ (q : Node). q.up) (sym same)) (like.checkpoint ∙ ap (λ (q : Node). q.checkpoint) (sym same)))
      (λ o was like. other_node w m new l.old (record { nodes = refl; packets = refl; born = refl }) was like)
      l.like

  held_nodes : (v : World) (n m : ℕ) → at (without_held v n).nodes m ≡ at v.nodes m
  held_nodes v n m = refl

  pub node_goes : LineDoes w number x → (m : ℕ) (new : Node) → at x.world.nodes m ≡ Some new → Goes w number x m new
  node_goes (Nothing same hands none) m new there =
      AsItWas new (ap (λ q. at q m) (sym same.nodes) ∙ there) refl refl refl (λ down. refl)
  node_goes (ANode n role lns secret hide lt to fresh world done none) m new there =
      put_node (λ q. Goes w number x m q) w n m _ new (ap (λ (v : World). at v.nodes m) (sym world) ∙ there)
      (λ e same. IsNew (subst (λ q. at w.nodes q ≡ None) (sym e) fresh) (ap (λ (q : Node). q.up) (sym same)) (ap (λ (q : Node). q.end.tunnels) (sym same)))
      (λ o was. AsItWas new was refl refl refl (λ down. refl))
  node_goes (Arms k s world done none) m new there =
      put_node (λ q. Goes w number x m q) w k.node m _ new (ap (λ (v : World). at v.nodes m) (sym world) ∙ there)
      (λ e same.
      AsItWas k.old (subst (λ q. at w.nodes q ≡ Some k.old) (sym e) k.was) (ap (λ (q : Node). q.end) (sym same)) (ap (λ (q : Node). q.up) (sym same))
      (ap (λ (q : Node). q.checkpoint.book) (sym same)) (λ down. absurd (true≢false (sym k.up ∙ down))))
      (λ o was. AsItWas new was refl refl refl (λ down. refl))
  node_goes (Falls k world done none) m new there =
      let block = block_of k.node number in
      put_node (λ q. Goes w number x m q) w k.node m (fallen block k.old.end k.old k.old.checkpoint) new (ap (λ (v : World). at v.nodes m) (sym world) ∙ there)
      (λ e same. ByFall k e (ap (λ (q : Node). q.up) (sym same) ∙ fallen_up block k.old.end k.old k.old.checkpoint)
      (ap (λ (q : Node). q.checkpoint) (sym same) ∙ fallen_checkpoint block k.old.end k.old k.old.checkpoint)
      (ap (λ (q : Node). q.end.tunnels) (sym same) ∙ fallen_end block k.old.end k.old k.old.checkpoint))
      (λ o was. AsItWas new was refl refl refl (λ down. refl))
  node_goes (Steps k) m new there = after_whole k m new there
  node_goes (Cuts k) m new there = after_cut k m new there
  node_goes (Starts k) m new there = after_start k m new there

-- ---- of a node that is down no stop is armed, so a start is never cut off

abbrev pub NoneIsArmed : World → Type 0
NoneIsArmed w = (n : ℕ) (node : Node) → at w.nodes n ≡ Some node → node.up ≡ false → node.checkpoint.stop ≡ None

goes_unarmed : (w : World) (number : ℕ) (x : Lined) (n : ℕ) (new : Node) → NoneIsArmed w → Goes w number x n new → new.up ≡ false → new.checkpoint.stop ≡ None
goes_unarmed w number x n new none (AsItWas old was end up book stop) down = let was_down = sym up ∙ down in stop was_down ∙ none n old was was_down
goes_unarmed w number x n new none (IsNew fresh up bare) down = absurd (true≢false (sym up ∙ down))
goes_unarmed w number x n new none (ByStep k e end up checkpoint) down = absurd (true≢false (sym up ∙ down))
goes_unarmed w number x n new none (ByCut k e up checkpoint tunnels) down = ap (λ (c : Checkpoint). c.stop) checkpoint
goes_unarmed w number x n new none (ByFall k e up checkpoint tunnels) down = ap (λ (c : Checkpoint). c.stop) checkpoint
goes_unarmed w number x n new none (ByStart k e end up checkpoint) down = absurd (true≢false (sym up ∙ down))

pub line_unarmed : LinesDo → (w : World) (number : ℕ) (l : Line) (x : Lined) → FitsLine l → line w number l ≡ Ok x → NoneIsArmed w → NoneIsArmed x.world
line_unarmed lines w number l x fits h none n new there = goes_unarmed w number x n new none (node_goes w number x (lines w number l x fits h) n new there)

-- a run goes on where a line fits, and stays where it doesn't
where_it_fits : (P : Run → Type 0) (rest : Run → Run) (r : Run) (number : ℕ) (x : Result Lined Refusal)
    → ((fault : Option (ℕ × Refusal)) → P (record r { fault = fault })) → ((l : Lined) → x ≡ Ok l → P (rest (after_line r l)))
    → P (goes_on rest r number x)
unfolding goes_on
where_it_fits P rest r number (Err f) stops more = stops (Some (number, f))
where_it_fits P rest r number (Ok l) stops more = more l refl

unarmed_from : LinesDo → (number : ℕ) (ls : List Line) (r : Run) → AreLines ls → NoneIsArmed r.world → NoneIsArmed (run_from number ls r).world
unfolding run_from
unarmed_from lines number [] r fits none = none
unarmed_from lines number (l ∷ ls) r fits none =
    where_it_fits (λ (q : Run). NoneIsArmed q.world) _ r number (line r.world number l) (λ fault. none)
    (λ x h. unarmed_from lines (number + 1) ls (after_line r x) fits.1 (line_unarmed lines r.world number l x fits.0 h none))

pub none_is_armed : LinesDo → (ls : List Line) → AreLines ls → NoneIsArmed (run ls).world
none_is_armed lines ls fits = unarmed_from lines 1 ls empty_run fits (λ n node is down. absurd (none-some node (sym (at-none n) ∙ is)))
