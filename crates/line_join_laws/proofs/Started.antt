-- A whole start: the world behind it is joined.
use Rattle.std.proofs.Common.{◌≡◌, ⊎_elim, ℕ, ◌+◌, ◌^◌, ◌<◌, true, false, List, [], ◌∷◌, ◌++◌, refl, sym, ap, ap₂, ◌∙◌, subst, Option}
use Rattle.std.proofs.Common.{Some, None, arith, eq-eqb}
use Rattle.std.proofs.lemmas.Bool.{true≢false}
use Rattle.std.proofs.lemmas.Option.{none-some, same_Some}
use Rattle.std.specs.Prelude.{is_some, if◌then◌else◌}
use Rattle.std.specs.List.{AllByRecursion}
use Rattle.id_table.specs.Ids.{at, at-none, put}
use Rattle.id_table.specs.Order.{at_new, at_other, same_or_not}
use Rattle.tunnel_fsm.specs.Rows.{state_number}
use Rattle.session_book.specs.Books.{Kept, tunnel_at}
use Rattle.end_names.specs.Names.{node_of}
use Rattle.end_model.specs.declared.event.Event.{Event}
use Rattle.end_model.specs.declared.event.Event.TheVariants.{Tick}
use Rattle.end_model.specs.declared.moves.Move.{Move}
use Rattle.end_model.specs.declared.moves.Move.TheVariants as move
use Rattle.end_model.specs.declared.out.Out.{Out}
use Rattle.end_model.specs.declared.out.Out.TheVariants.{Send, Up, Gone, Drop, Cause}
use Rattle.end_model.specs.Contents.{contents_of}
use Rattle.end_model.specs.Tunnels.{Tunnel}
use Rattle.end_model.specs.End.{End, Stepped}
use Rattle.world_model.specs.World.{World, Node, Lined, block_of, opened, with_node, moved, moved_all, sent, shown, shown_all, given}
use Rattle.world_model.specs.World.{after_step}
use Rattle.step_laws.specs.Moves.{Does}
use Rattle.step_laws.specs.Starts.{IsOfStart, StartsAreOfBooks}
use Rattle.frame_laws.proofs.Facts.{all_map, all_push}
use Rattle.book_laws.specs.Books.{Mirrors, book_after}
use Rattle.book_laws.specs.Starts.{StartIsBooked, StartsAreBooked, ComesBack}
use Rattle.node_laws.specs.Nodes.{HoldsNode}
use Rattle.channel_laws.specs.Accounts.{Account, History, history_from}
use Rattle.channel_laws.specs.Facts.{NodesHold}
use Rattle.channel_laws.specs.Lines.{WholeStart}
use Rattle.channel_laws.specs.Whole.{LeadsBack, NoMoveBack, OneMoreBack, Below, StartKept, StartsKeep, started_in}
use Rattle.channel_laws.proofs.Committing.{whole_book}
use Rattle.channel_laws.proofs.Restarted.{starts_nothing}
use Rattle.wire_base.specs.declared.pair.Pair.{Pair}
use Rattle.session_query.specs.Queries.{left_of}
use Rattle.end_model.specs.Tunnels.{mode_of, is_current}
use Rattle.book_laws.specs.Books.{booked_control, tunnel_record}
use Rattle.epoch_machine.specs.Worlds as machine
use Rattle.epoch_machine.specs.Worlds.{all_rules}
use Rattle.epoch_machine.specs.Moves.{goes_on}
use Rattle.session_laws.specs.Names.{name, name_of}
use Rattle.channel_laws.specs.Epochs.{IsLive}
use Rattle.channel_laws.proofs.Agreeing.{Agree, put_agrees}
use Rattle.channel_laws.proofs.Restarted.{started_back}
use Rattle.recovery_laws.specs.Queries.{QueryJoined, QueriesJoined}
use Rattle.recovery_laws.specs.Joined.{AreJoined}
use Rattle.world_model.specs.declared.standing.Standing.{Standing}
use Rattle.world_model.specs.World.{birth_in, birth_of, standing_in, standing_of, answer_in}
use Rattle.recovery_laws.specs.Answered.{AnswersAreToQuestions}
use Rattle.join_laws.specs.Steps.{ChannelsClose}
use Rattle.join_laws.specs.Roles.{RequestsStay}
use Rattle.line_join_laws.specs.Chains.{EndsSound, IsStanding}
use Rattle.line_join_laws.specs.Lines.{StartsJoin}
use Rattle.line_join_laws.proofs.Another.{SameJoin, same_join, AreSame as SameWorlds, same_joined}
use Rattle.line_join_laws.proofs.Back.{AmidBack, IsKept, AreKeptIn, all_back}
use Rattle.line_join_laws.proofs.Begun.{risen, ready, first_back, SameRoots, roots_stay}
use Rattle.line_join_laws.proofs.Born.{put_born}
use Rattle.line_join_laws.proofs.Cleared.{clears}
use Rattle.line_join_laws.proofs.Lost.{lost}
use Rattle.line_join_laws.proofs.Returned.{returned_joined}
use Rattle.line_join_laws.proofs.Nodes.{left_there}
use Rattle.line_join_laws.proofs.Roles.{KeepsRoles, put_keeps, kept_roles}

-- ---- outputs leave the nodes as they are

shown_nodes : (n : ℕ) (os : List Out) (w : World) → ((shown_all n os w).nodes ≡ w.nodes) × ((shown_all n os w).born ≡ w.born)
unfolding shown_all shown sent
shown_nodes n [] w = (refl, refl)
shown_nodes n (Send peer bytes origin ∷ os) w = shown_nodes n os (sent w n (node_of peer) bytes origin)
shown_nodes n (Up session side frame ∷ os) w = shown_nodes n os w
shown_nodes n (Gone session ∷ os) w = shown_nodes n os w
shown_nodes n (Drop x ∷ os) w = shown_nodes n os w
shown_nodes n (Cause x ∷ os) w = shown_nodes n os w

all_nothing : (b : Kept) (n : ℕ) (ms : List Move) → AllByRecursion (IsOfStart b) ms → (w : World) → moved_all n ms w ≡ w
unfolding moved_all
all_nothing b n [] of w = refl
all_nothing b n (m ∷ ms) of w = all_nothing b n ms of.1 (moved n w m) ∙ starts_nothing b m of.0 n w

-- ---- what came back is there

abbrev IsPresent : End → Move → Type 0
IsPresent e (move.Restored r) = is_some (at e.tunnels r.tunnel.local) ≡ true
IsPresent e m = Unit {0}

-- no tunnel goes
abbrev Stay : End → End → Type 0
Stay e x = (i : ℕ) → is_some (at e.tunnels i) ≡ true → is_some (at x.tunnels i) ≡ true

put_stay : (e x : End) (k : ℕ) (u : Tunnel) → x.tunnels ≡ put e.tunnels k u → Stay e x
put_stay e x k u tunnels i has = ⊎_elim
    (λ (same : i ≡ k). ap (λ o. is_some o) (ap (at x.tunnels) same ∙ (ap (λ ts. at ts k) tunnels ∙ at_new e.tunnels k u)))
    (λ (o : i ≡ k → ⊥). ap (λ q. is_some q) (ap (λ ts. at ts i) tunnels ∙ at_other e.tunnels k u i o) ∙ has)
    (same_or_not i k)

same_stay : (e x : End) → x ≡ e → Stay e x
same_stay e x same i has = ap (λ (y : End). is_some (at y.tunnels i)) same ∙ has

stays : (b : Kept) (m : Move) → IsOfStart b m → (e x : End) (moment : ℕ) (ev : Event) → Does e moment ev m x → Stay e x × IsPresent x m
stays b (move.Restored m) of e x moment ev does = (
  put_stay e x m.tunnel.local _ (ap (λ (y : End). y.tunnels) does.after),
  ap (λ o. is_some o) (ap (λ (y : End). at y.tunnels m.tunnel.local) does.after ∙ at_new e.tunnels m.tunnel.local _),
)
stays b (move.Forgot m) of e x moment ev does = (same_stay e x does.after, tt)
stays b (move.FrameSent m) of e x moment ev does = (same_stay e x does.after, tt)
stays b (move.Negotiated m) of e x moment ev does = (put_stay e x m.tunnel _ (ap (λ (y : End). y.tunnels) does.after), tt)
stays b (move.Counted m) of e x moment ev does = (put_stay e x m.tunnel _ (ap (λ (y : End). y.tunnels) does.after), tt)
stays b m of e x moment ev does = absurd of

present_on : (e x : End) → Stay e x → (m : Move) → IsPresent e m → IsPresent x m
present_on e x stay (move.Restored m) has = stay m.tunnel.local has
present_on e x stay m has = tt

-- what a tunnel is to ask for
abbrev Held : machine.World → ℕ → ℕ → ℕ → Pair → Type 0
Held m n i peer p = m.calls.held (name n i) (m.tunnels.entered (name n i)) (name n p.sender) ≡ name_of peer p.receiver

-- ---- a start

module _ (laws : StartsAreBooked) (of_books : StartsAreOfBooks) (keep : StartsKeep) (w : World) (h : History) (number : ℕ) (x : Lined)
    (s : WholeStart w number x) (top most : ℕ) (stands : IsStanding w h top) (below : Below h most) (few : most + 147460 < 2 ^ 64)
    (nodes : NodesHold x.world) (sound : EndsSound x.world) where
  abbrev n : ℕ
  n = s.node

  abbrev old : Node
  old = s.old

  abbrev k : Kept
  k = s.old.checkpoint.book

  abbrev q : Stepped
  q = started_in w number x s

  abbrev g : History
  g = history_from x.done h

  abbrev j : Kept
  j = s.checkpoint.book

  held : HoldsNode s.old
  held = stands.nodes s.node s.old s.was

  kept : StartKept w h number x s
  kept = keep w h number x s most stands.nodes stands.holds below (omega (arith, few))

  booked : StartIsBooked s.old.end k q
  booked = subst (λ (e : End). StartIsBooked e k q) (sym (held.down s.down))
      (laws s.old.end.role s.old.end.config k held.sound held.suits s.old.clock (block_of n number))

  book_is : s.checkpoint.book ≡ book_after k (contents_of s.old.end q)
  book_is = whole_book s.old.checkpoint (contents_of s.old.end q) booked.in_place s.checkpoint s.whole

  back : ComesBack q.end k s.checkpoint.book
  back = subst (ComesBack q.end k) (sym book_is) booked.back

  mirrors : Mirrors q.end s.checkpoint.book
  mirrors = subst (Mirrors q.end) (sym book_is) booked.book.mirrors

  -- ---- the world behind it

  abbrev left : Node
  left = record (record (opened (block_of n number) s.old) { checkpoint = s.checkpoint }) { end = q.end }

  abbrev u : World
  u = with_node w n left

  moves_of : AllByRecursion (IsOfStart k) q.moves
  moves_of = of_books s.old.end.role s.old.end.config k held.sound s.old.clock (block_of n number)

  behind_is : (x.world.nodes ≡ u.nodes) × (x.world.born ≡ w.born)
  unfolding after_step given
  behind_is =
      let l = shown_nodes n q.outputs (moved_all n q.moves u) in
      let same = all_nothing k n q.moves moves_of u in (
        ap (λ (y : Lined). y.world.nodes) s.is ∙ (l.0 ∙ ap (λ (y : World). y.nodes) same),
        ap (λ (y : Lined). y.world.born) s.is ∙ (l.1 ∙ ap (λ (y : World). y.born) same),
      )

  -- ---- what came back is in the book

  present : (made : List Move) (v : World) (f : History) → LeadsBack n s.old.clock Tick w h made v f → (node : Node)
      → at v.nodes n ≡ Some node
      → AllByRecursion (IsPresent node.end) made
  present made v f NoMoveBack node there = tt
  present made v f (OneMoreBack before y f1 was m e d leads is) node there =
      let here = left_there y n was is.there m e in
      let end : node.end ≡ e = ap (λ (z : Node). z.end) (same_Some node here.node (sym there ∙ here.there)) ∙ here.end in
      let one = stays was.checkpoint.book m is.of was.end e s.old.clock Tick is.does in
      subst (λ z. AllByRecursion (IsPresent z) (before ++ m ∷ [])) (sym end)
      (all_push (IsPresent e) before m
      (all_map (IsPresent was.end) (IsPresent e) (present_on was.end e one.0) before (present before y f1 leads was is.there)) one.1)

  all_present : AllByRecursion (IsPresent q.end) q.moves
  all_present = subst (λ e. AllByRecursion (IsPresent e) q.moves) kept.end (present q.moves kept.behind g kept.leads kept.node kept.there)

  -- so it is in the book that the start left
  abbrev m1 : machine.World
  m1 = goes_on all_rules (risen stands.machine n) (clears (lost n s.checkpoint.book s.old.checkpoint.book.tunnels))

  kept_in_book : (m : Move) → IsPresent q.end m → IsKept n m1 s.checkpoint.book s.old.checkpoint h s.old.end.session_ids.next m
  kept_in_book (move.Restored r) has = by (at q.end.tunnels r.tunnel.local) refl
    where
      by : (o : Option Tunnel) → at q.end.tunnels r.tunnel.local ≡ o → is_some (tunnel_at s.checkpoint.book r.tunnel.local) ≡ true
      by None none = absurd (true≢false (sym has ∙ ap (λ o. is_some o) none))
      by (Some t) there =
          let i = r.tunnel.local in
          let three = (booked.up i t there).0 in
          ap (λ o. is_some o) (mirrors.tunnels i ∙ ap (tunnel_record i) there)
          ∙ ap (λ b. is_some (if b then Some (booked_control i t.control) else None)) (eq-eqb (state_number t.control.state) 3 three)
  kept_in_book m has = tt

  all_kept : (ms : List Move) → AllByRecursion (IsPresent q.end) ms
      → AreKeptIn n m1 s.checkpoint.book s.old.checkpoint h s.old.end.session_ids.next ms
  all_kept [] all = tt
  all_kept (m ∷ ms) all = (kept_in_book m all.0, all_kept ms all.1)

  -- ---- in the machine

  came : AmidBack n m1 s.checkpoint.book s.old.checkpoint h s.old.end.session_ids.next kept.behind g
  came =
      all_back n m1 s.checkpoint.book s.old.checkpoint h s.old.end.session_ids.next w
      (ready w h stands.nodes stands.holds stands.machine stands.joined.joined n s.old s.was s.down q.end s.checkpoint.book back)
      (first_back w h stands.nodes stands.holds stands.machine stands.joined.joined n s.old s.was s.down q.end s.checkpoint.book back)
      s.old.clock Tick q.moves kept.behind g kept.leads (all_kept q.moves all_present)

  end_is : came.node.end ≡ q.end
  end_is = ap (λ (y : Node). y.end) (same_Some came.node kept.node (sym came.there ∙ kept.there)) ∙ kept.end

  abbrev z : machine.World
  z = goes_on all_rules m1 came.moves

  joined : AreJoined u g z
  joined = returned_joined w h stands.nodes stands.holds stands.machine stands.joined.joined n s.old s.was s.down q.end s.checkpoint back
      mirrors booked.fit booked.up left.access kept.behind g came end_is

  roots : SameRoots w h stands.nodes stands.holds stands.machine stands.joined.joined n s.old s.was s.down q.end s.checkpoint.book back z
  roots = roots_stay w h stands.nodes stands.holds stands.machine stands.joined.joined n
      s.old s.was s.down q.end s.checkpoint.book back z came.stays

  -- ---- what is asked for

  waiting : (made : List Move) (v : World) (f : History) → LeadsBack n s.old.clock Tick w h made v f → (node : Node)
      → at v.nodes n ≡ Some node
      → (i : ℕ) (t : Tunnel) → at node.end.tunnels i ≡ Some t → is_current (mode_of t.recovery) ≡ false
  waiting made v f NoMoveBack node there i t at_t =
      absurd (none-some t (sym (none_here i) ∙ (ap (λ (y : Node). at y.end.tunnels i) (same_Some s.old node (sym s.was ∙ there)) ∙ at_t)))
    where
      none_here : (i : ℕ) → at s.old.end.tunnels i ≡ None
      none_here i = ap (λ (y : End). at y.tunnels i) (held.down s.down) ∙ at-none i
  waiting made v f (OneMoreBack before y f1 was m e d leads is) node there i t at_t =
      let here = left_there y n was is.there m e in
      let end : node.end ≡ e = ap (λ (k : Node). k.end) (same_Some node here.node (sym there ∙ here.there)) ∙ here.end in
      started_back was.checkpoint.book m is.of was.end e s.old.clock Tick is.does is.back i t (ap (λ (k : End). at k.tunnels i) (sym end)
      ∙ at_t)

  queries : QueriesJoined u g z
  queries p i t is current three = ⊎_elim
      (λ (eq : p ≡ n).
      let same : is.node ≡ left = same_Some is.node left (sym is.is ∙ (ap (at u.nodes) eq ∙ at_new w.nodes n left)) in
      let at_t : at q.end.tunnels i ≡ Some t = ap (λ (y : Node). at y.end.tunnels i) (sym same) ∙ is.there in
      absurd (true≢false (sym current ∙
      waiting q.moves kept.behind g kept.leads kept.node kept.there i t (ap (λ (y : End). at y.tunnels i) kept.end ∙ at_t))))
      (λ (o : p ≡ n → ⊥).
      let live : IsLive w p i t = record { node = is.node; is = sym (at_other w.nodes n left p o) ∙ is.is; there = is.there } in
      let old_query = stands.joined.queries p i t live current three in
      let peer = ap (λ (f : ℕ → ℕ → ℕ → Account). (f p i 0).peer) came.accounts in
      subst (λ r. QueryJoined z p i r t) (sym peer) (query_as p i (h.accounts p i 0).peer t old_query))
      (same_or_not p n)
    where
      query_as : (p i peer : ℕ) (t : Tunnel) → QueryJoined stands.machine p i peer t → QueryJoined z p i peer t
      query_as p i peer t k = record {
        asks = λ y. ap (λ f. f (name p i) y) roots.asks ∙ k.asks y;
        held = all_map (Held stands.machine p i peer) (Held z p i peer)
            (λ (pair : Pair) is. ap₂ (λ f e. f (name p i) e (name p pair.sender)) roots.held (ap (λ f. f (name p i)) roots.entered) ∙ is)
            (left_of t.query) k.held;
      }

  -- ---- the world that the line leaves

  agrees : Agree w u
  agrees = put_agrees w n s.old left s.was refl refl

  same : SameWorlds u x.world
  unfolding standing_of birth_of
  same = record {
    nodes = λ p. subst (SameJoin (at u.nodes p)) (ap (λ l. at l p) (sym behind_is.0)) (same_join (at u.nodes p));
    standings = λ p i. ap (λ l. standing_in (at l p) i) behind_is.0;
    makes_as = λ p c. ap (λ l. answer_in (at l p) c) behind_is.0;
    births = λ p r. ap (λ l. birth_in (at l p) r) behind_is.0;
    born = behind_is.1;
  }

  pub started_keeps : KeepsRoles w x.world
  started_keeps = subst (λ l. KeepsRoles w (record w { nodes = l })) (sym behind_is.0)
      (put_keeps w n s.old left s.was (sym booked.role))

  pub started_births : (p r : ℕ) → birth_of x.world p r ≡ birth_of w p r
  started_births p r = same.births p r ∙ (put_born w n s.old left s.was refl).births p r

  pub started_stands : AnswersAreToQuestions → ChannelsClose → RequestsStay → IsStanding x.world g (top + 65536)
  started_stands answers closes requests = record {
    nodes = nodes;
    sound = sound;
    holds = kept.holds;
    machine = z;
    joined = same_joined u x.world g z same (record {
      joined = joined;
      queries = queries;
      named = λ y is. stands.joined.named y (ap (λ f. f y) (sym roots.calls_drawn) ∙ is);
    });
    answers = answers.later x.done h stands.answers;
    closes = closes.later x.done h stands.closes;
    roles = kept_roles requests w x.world h g started_keeps kept.accounts stands.roles;
    counts = record {
      born = (let le = stands.counts.born in let is = behind_is.1 in omega (arith, le, is));
      made = λ p i.
          (let le = stands.counts.made p i in
          let one = ap (λ (y : Standing). y.made) (same.standings p i) in
          let two = ap (λ (y : Standing). y.made) (agrees.standings p i) in
          omega (arith, le, one, two));
    };
  }

pub starts_join : StartsAreBooked → StartsAreOfBooks → StartsKeep → AnswersAreToQuestions → ChannelsClose → RequestsStay → StartsJoin
starts_join booked of_books keep answers closes requests w h number x s top most stands room below few nodes sound holds =
    started_stands booked of_books keep w h number x s top most stands below few nodes sound answers closes requests
