-- A whole step: behind its moves the world is joined, with the book that it committed.
use Rattle.std.proofs.Common.{◌≡◌, ⊎_elim, ℕ, ◌+◌, ◌^◌, ◌<◌, true, false, List, [], ◌∷◌, refl, sym, ap, ◌∙◌, subst, Option, Some, None}
use Rattle.std.proofs.Common.{arith}
use Rattle.std.proofs.lemmas.Option.{same_Some}
use Rattle.std.specs.Prelude.{is_some}
use Rattle.id_table.specs.Ids.{at}
use Rattle.id_table.specs.Order.{at_new, at_other, same_or_not}
use Rattle.end_model.specs.declared.event.Event.{Event}
use Rattle.end_model.specs.declared.moves.Move.{Move}
use Rattle.end_model.specs.Secrets.{uncovered_event}
use Rattle.end_model.specs.End.{End, Stepped}
use Rattle.world_model.specs.declared.standing.Standing.{Standing}
use Rattle.session_book.specs.Books.{tunnel_at, call_at}
use Rattle.book_laws.specs.Books.{Mirrors}
use Rattle.world_model.specs.World.{World, Node, Checkpoint, Sender, Lined, with_node, moved_all, given, after_step}
use Rattle.frame_laws.proofs.Chains.{moved_more}
use Rattle.epoch_machine.specs.Worlds.{all_rules}
use Rattle.epoch_machine.specs.Moves.{goes_on}
use Rattle.epoch_laws.specs.Answers.{AnswersOfRuns}
use Rattle.node_laws.specs.Nodes.{HoldsUp}
use Rattle.channel_laws.specs.Accounts.{History, history_from}
use Rattle.channel_laws.specs.Facts.{NodesHold}
use Rattle.channel_laws.specs.Lines.{WholeStep}
use Rattle.channel_laws.specs.Steps.{with_end, moves_on}
use Rattle.channel_laws.specs.Whole.{Leads, NoMove, OneMore, Below, WholeKept, WholeStepsKeep, stepped_in}
use Rattle.recovery_laws.specs.Answered.{AnswersAreToQuestions}
use Rattle.recovery_laws.proofs.Alike.{IsLike, WasLike, stepped_like}
use Rattle.join_laws.specs.Steps.{with_book, ChannelsClose}
use Rattle.join_laws.specs.Roles.{RequestsStay}
use Rattle.join_laws.proofs.Ahead.{book_standings, book_makes}
use Rattle.join_laws.proofs.Books.{booked, book_here, book_other, book_born}
use Rattle.line_join_laws.specs.Chains.{MovesJoin, EndsSound, IsStanding}
use Rattle.line_join_laws.specs.Lines.{JoinedStepsKeep}
use Rattle.line_join_laws.proofs.Amid.{Amid}
use Rattle.line_join_laws.proofs.Another.{SameJoin, AreSame, same_joined}
use Rattle.line_join_laws.proofs.Born.{AreBorn, born_back, born_on, end_born, nodes_born, put_born, moved_born, shown_born}
use Rattle.line_join_laws.proofs.Chain.{amid_along, joined_lines_know}
use Rattle.line_join_laws.proofs.Nodes.{left_others}
use Rattle.line_join_laws.proofs.Roles.{KeepsRoles, keeps_has}
use Rattle.line_join_laws.proofs.Rebooked.{tunnels_same, calls_same, book_births}

-- ---- along its moves

module _ (n : ℕ) (sender : Option Sender) (moment : ℕ) (ev : Event) (w : World) (h : History) where
  -- births are as they are told
  leads_born : (b0 : World) → AreBorn w b0 → (made : List Move) (v : World) (g : History) → Leads n sender moment ev w h made v g
      → AreBorn v (moved_all n made b0)
  unfolding moved_all
  leads_born b0 born made v g NoMove = born
  leads_born b0 born made v g (OneMore before u k node y x d start leads is) =
      let to = moved_all n before b0 in
      let base = with_end u n node x in
      subst (AreBorn (moves_on u n node y x)) (sym (moved_more n before (y ∷ []) b0))
      (moved_born n y base to (born_on base u to (born_back u base (end_born u n node x is.there)) (leads_born b0 born before u k leads)))

  -- each other node is like it was
  leads_others : (made : List Move) (v : World) (g : History) → Leads n sender moment ev w h made v g → (q : ℕ) (other : Node) → (q ≡ n → ⊥)
      → at v.nodes q ≡ Some other → WasLike w q other
  leads_others made v g NoMove q other o there =
      record { old = other; was = there; like = record { end = refl; up = refl; checkpoint = refl } }
  leads_others made v g (OneMore before u k node y x d start leads is) q other o there =
      let one = left_others u n node is.there y x q other o there in
      let all = leads_others before u k leads q one.old o one.was in
      record {
        old = all.old;
        was = all.was;
        like = record {
          end = one.like.end ∙ all.like.end;
          up = one.like.up ∙ all.like.up;
          checkpoint = one.like.checkpoint ∙ all.like.checkpoint;
        };
      }

-- ---- what it leaves

some_there : (o p : Option Node) (a : Node) → is_some p ≡ is_some o → o ≡ Some a → (b : Node) × (p ≡ Some b)
some_there o None a same is = let no : false ≡ true = same ∙ ap (λ q. is_some q) is in absurd cc
some_there o (Some b) a same is = (b, refl)

module _ (once : AnswersOfRuns) (answers : AnswersAreToQuestions) (closes : ChannelsClose) (requests : RequestsStay)
    (steps : WholeStepsKeep) (join : MovesJoin) (w : World) (h : History) (number : ℕ) (x : Lined) (s : WholeStep w number x) (top most : ℕ)
    (stands : IsStanding w h top) (room : top + 131072 < 2 ^ 64)
    (below : Below h most) (few : most + 147460 < 2 ^ 64) (nodes : NodesHold x.world) (sound : EndsSound x.world) where
  abbrev n : ℕ
  n = s.node

  abbrev read : Event
  read = uncovered_event s.found.end.config.secret s.event

  abbrev q : Stepped
  q = stepped_in w number x s

  abbrev g : History
  g = history_from x.done h

  pub kept : WholeKept w h number x s most
  kept =
      steps w h number x s most stands.nodes stands.holds below few
      (joined_lines_know once answers closes requests join w h top stands room s.node s.old s.found s.event s.sender s.was s.up s.finds
      s.comes)

  abbrev pub v : World
  v = kept.behind

  amid : Amid read n top stands.machine v g
  amid = amid_along answers closes requests w h top stands room n s.old s.was s.up s.sender s.found.clock read
      join q.moves v g kept.leads kept.holds_behind

  -- the world in which its moves are told
  abbrev left : Node
  left = record (record s.found { checkpoint = s.checkpoint }) { end = q.end }

  abbrev b0 : World
  b0 = with_node s.base n left

  base_was : at s.base.nodes n ≡ Some s.old
  base_was = ap (λ l. at l n) s.same.nodes ∙ s.was

  told : AreBorn w b0
  told = born_on w s.base b0 (nodes_born w s.base s.same.nodes s.same.born) (put_born s.base n s.old left base_was s.finds.births)

  abbrev after : World
  after = (after_step s.base number n (record s.found { checkpoint = s.checkpoint }) s.sender q).world

  shown_so : AreBorn v after
  unfolding after_step given
  shown_so =
      shown_born n q.outputs v (moved_all n q.moves b0) (leads_born n s.sender s.found.clock read w h b0 told q.moves v g kept.leads)

  pub born : AreBorn v x.world
  born = subst (AreBorn v) (sym s.world) shown_so

  -- its own node
  there : (b : Node) × (at x.world.nodes n ≡ Some b)
  there = some_there (at v.nodes n) (at x.world.nodes n) amid.node (born.there n) amid.there

  abbrev new : Node
  new = there.0

  like : (p : ℕ) (b : Node) → at x.world.nodes p ≡ Some b → WasLike b0 p b
  like p b is =
      stepped_like s.base number n (record s.found { checkpoint = s.checkpoint }) s.sender q p b (ap (λ (y : World). at y.nodes p)
      (sym s.world) ∙ is)

  own_like : IsLike left new
  own_like =
      let k = like n new there.1 in
      subst (λ y. IsLike y new) (same_Some k.old left (sym k.was ∙ at_new s.base.nodes n left)) k.like

  new_up : new.up ≡ true
  new_up = own_like.up ∙ s.still

  up_holds : HoldsUp new
  up_holds = (nodes n new there.1).up new_up

  end_is : new.end ≡ amid.node.end
  end_is = own_like.end ∙ (sym kept.end ∙ ap (λ (y : Node). y.end) (same_Some kept.node amid.node (sym kept.there ∙ amid.there)))

  same_here : SameJoin (Some (booked amid.node amid.book)) (Some new)
  same_here =
      let before = subst (λ e. Mirrors e amid.book) (sym end_is) amid.mirrors in (
        end_is,
        new_up ∙ sym amid.up,
        tunnels_same new.end amid.book new.checkpoint.book before up_holds.book.mirrors,
        calls_same new.end amid.book new.checkpoint.book before up_holds.book.mirrors,
      )

  -- each other node
  same_other : (p : ℕ) → (p ≡ n → ⊥) → SameJoin (at v.nodes p) (at x.world.nodes p)
  same_other p o = by (at v.nodes p) (at x.world.nodes p) refl refl
    where
      by : (a b : Option Node) → at v.nodes p ≡ a → at x.world.nodes p ≡ b → SameJoin a b
      by None None is so = tt
      by None (Some b) is so = let no : true ≡ false = sym (ap is_some so) ∙ (born.there p ∙ ap is_some is) in absurd cc
      by (Some a) None is so = let no : false ≡ true = sym (ap is_some so) ∙ (born.there p ∙ ap is_some is) in absurd cc
      by (Some a) (Some b) is so =
          let one = leads_others n s.sender s.found.clock read w h q.moves v g kept.leads p a o is in
          let two = like p b so in
          let was : at w.nodes p ≡ Some two.old = ap (λ l. at l p) (sym s.same.nodes) ∙ (sym (at_other s.base.nodes n left p o)
          ∙ two.was) in
          let same = same_Some one.old two.old (sym one.was ∙ was) in
          let book = two.like.checkpoint ∙ (ap (λ (y : Node). y.checkpoint) (sym same) ∙ sym one.like.checkpoint) in (
            two.like.end ∙ (ap (λ (y : Node). y.end) (sym same) ∙ sym one.like.end),
            two.like.up ∙ (ap (λ (y : Node). y.up) (sym same) ∙ sym one.like.up),
            λ i. ap (λ (c : Checkpoint). tunnel_at c.book i) book,
            λ r. ap (λ (c : Checkpoint). call_at c.book r) book,
          )

  abbrev u : World
  u = with_book v n amid.book

  same : AreSame u x.world
  same = record {
    nodes = λ p. ⊎_elim
        (λ (e : p ≡ n).
        subst (λ y. SameJoin (at u.nodes y) (at x.world.nodes y)) (sym e)
        (subst (λ y. SameJoin y (at x.world.nodes n)) (sym (book_here v n amid.book amid.node amid.there))
        (subst (SameJoin (Some (booked amid.node amid.book))) (sym there.1) same_here)))
        (λ (o : p ≡ n → ⊥).
        subst (λ y. SameJoin y (at x.world.nodes p)) (sym (book_other v n amid.book amid.node amid.there p o)) (same_other p o))
        (same_or_not p n);
    standings = λ p i. kept.alike.standings p i ∙ sym (book_standings v n amid.node amid.there amid.book p i);
    makes_as = λ p c. kept.alike.makes_as p c ∙ sym (book_makes v n amid.node amid.there amid.book p c);
    births = λ p r. born.births p r ∙ sym (book_births v n amid.node amid.there amid.book p r);
    born = born.born ∙ sym (book_born v n amid.book amid.node amid.there);
  }

  pub keeps_roles : KeepsRoles v x.world
  keeps_roles p b is = ⊎_elim
      (λ (e : p ≡ n).
      let one : new ≡ b = same_Some new b (sym there.1 ∙ (ap (at x.world.nodes) (sym e) ∙ is)) in
      (amid.node, ap (at v.nodes) e ∙ amid.there, ap (λ (y : End). y.role) (sym end_is) ∙ ap (λ (y : Node). y.end.role) one))
      (λ (o : p ≡ n → ⊥). of_other o (at v.nodes p) refl)
      (same_or_not p n)
    where
      of_other : (p ≡ n → ⊥) → (o : Option Node) → at v.nodes p ≡ o
          → (a : Node) × (at v.nodes p ≡ Some a) × (a.end.role ≡ b.end.role)
      of_other o None none = absurd (subst (λ q. SameJoin q (Some b)) none (subst (SameJoin (at v.nodes p)) is (same_other p o)))
      of_other o (Some a) was =
          let same = subst (λ q. SameJoin q (Some b)) was (subst (SameJoin (at v.nodes p)) is (same_other p o)) in
          (a, was, ap (λ (y : End). y.role) (sym same.0))

  pub stepped_stands : IsStanding x.world g (top + 65536)
  stepped_stands = record {
    nodes = nodes;
    sound = sound;
    holds = kept.holds;
    machine = goes_on all_rules stands.machine amid.moves;
    joined = same_joined u x.world g (goes_on all_rules stands.machine amid.moves) same amid.joined;
    answers = amid.answers;
    closes = amid.closes;
    roles = requests.others v x.world g (keeps_has v x.world g keeps_roles) amid.roles;
    counts = record {
      born =
          (let le = amid.born in
          let is = born.born in
          let drawn = amid.fit.session_ids.drawn in
          let within = amid.fit.session_ids.within in
          omega (arith, le, is, drawn, within));
      made = λ p i.
          (let le = amid.made p i in
          let is = ap (λ (y : Standing). y.made) (kept.alike.standings p i) in
          let drawn = amid.fit.tunnel_ids.drawn in
          let within = amid.fit.tunnel_ids.within in
          omega (arith, le, is, drawn, within));
    };
  }

pub joined_steps_keep : AnswersOfRuns → AnswersAreToQuestions → ChannelsClose → RequestsStay → WholeStepsKeep → MovesJoin → JoinedStepsKeep
joined_steps_keep once answers closes requests steps join w h number x s top most stands room below few nodes sound =
    stepped_stands once answers closes requests steps join w h number x s top most stands room below few nodes sound
