-- The world and the history behind the answer to an attempt.
use Rattle.std.proofs.Common.{◌≡◌, ◌⊎◌, inl, inr, ⊎_elim, ℕ, suc, ◌+◌, ◌<◌, ◌≤◌, Bool, true, false, refl, sym, ap, ap₂, ◌∙◌, subst, Option, Some, None, Ok, arith, eq-eqb}
use Rattle.std.proofs.lemmas.Bool.{true≢false, eqb-true}
use Rattle.std.proofs.lemmas.Option.{none-some}
use Rattle.std.specs.Prelude.{is_some, min, ◌^◌, ◌-◌, ◌==◌, ◌&&◌, ◌||◌, if◌then◌else◌}
use Rattle.id_source.specs.Spaces.{draw_is}
use Rattle.id_table.specs.Ids.{at}
use Rattle.id_table.specs.Order.{at_new, at_other, same_or_not}
use Rattle.session_book.specs.Books.{Kept}
use Rattle.end_names.specs.Names.{node_of}
use Rattle.end_model.specs.declared.event.Event.{Event}
use Rattle.end_model.specs.declared.moves.Froze.{Froze}
use Rattle.end_model.specs.declared.moves.Move.{Move}
use Rattle.end_model.specs.declared.moves.Move.TheVariants as move
use Rattle.end_model.specs.Tunnels.{Tunnel}
use Rattle.end_model.specs.End.{End}
use Rattle.world_model.specs.declared.standing.Standing.{Standing}
use Rattle.world_model.specs.World.{World, Node, Sender, Deed, standing_of, epoch_of, has_made, makes_epoch, with_answer_at, moved}
use Rattle.epoch_machine.specs.Worlds as machine
use Rattle.channel_laws.specs.Accounts.{Part, Account, no_account, History, answers_by, attempts_by, after}
use Rattle.channel_laws.specs.Facts.{Accounts, IsMade, AreLinked, AnswerOk, AttemptOk, EndOk, BookOk, NodeOk, makes, Holds}
use Rattle.channel_laws.specs.Steps.{with_end, moves_on}
use Rattle.channel_laws.proofs.Deeds.{not_entered}
use Rattle.channel_laws.proofs.Linked.{not_itself}
use Rattle.channel_laws.proofs.Opening.{undrawn}
use Rattle.recovery_laws.specs.Joined.{is_made, is_used}
use Rattle.join_laws.specs.Steps as steps
use Rattle.join_laws.specs.Steps.{with_book}
use Rattle.join_laws.proofs.Ahead.{book_standings, book_makes, end_standings, end_makes}
use Rattle.join_laws.proofs.Counting.{Counts, counts, Answered, answered, RestSame, rest_then, Stays, stays_there}
use Rattle.join_laws.proofs.Made as made
use Rattle.join_laws.proofs.Moved as moved_world
use Rattle.join_laws.proofs.OneTunnel.{this_or_not}
use Rattle.join_laws.proofs.Roots.{account_stays}

module _ (w : World) (h : History) (n : ℕ) (node : Node) (sender : Option Sender) (moment : ℕ) (ev : Event) (m : Froze) (x : End)
    (d : Deed) (k : Kept) (j : machine.World) (q : steps.IsMade w h n node sender moment ev (move.Froze m) x d k j) where
  abbrev mv : Move
  mv = move.Froze m

  abbrev i : ℕ
  i = m.tunnel

  abbrev p : ℕ
  p = node_of m.peer

  abbrev rem : ℕ
  rem = m.remote

  abbrev c : ℕ
  c = m.answer

  abbrev g : History
  g = after h d

  -- ---- the history

  pub accounts_same : (y f e : ℕ) → (after h d).accounts y f e ≡ h.accounts y f e
  accounts_same = account_stays h d mv q.moved.deed.move_is (λ a. refl) (λ y f. refl)

  pub all_accounts : (after h d).accounts ≡ h.accounts
  all_accounts = λ z. λ y f e. accounts_same y f e z

  pub attempts_same : (y f : ℕ) → (after h d).attempts y f ≡ h.attempts y f
  attempts_same y f = ap (λ z. attempts_by d z y f (h.attempts y f)) q.moved.deed.move_is

  answers_are : (y f : ℕ) → g.answers y f ≡ (if (d.node == y) && (c == f) then Some m else h.answers y f)
  answers_are y f = ap (λ z. answers_by d z y f (h.answers y f)) q.moved.deed.move_is

  pub own_answer : (after h d).answers n m.answer ≡ Some m
  own_answer =
      answers_are n c
      ∙ (ap (λ b. if b && (c == c) then Some m else h.answers n c) (eq-eqb d.node n q.moved.deed.node_is)
      ∙ ap (λ b. if true && b then Some m else h.answers n c) (eq-eqb c c refl))

  both_true : (a b : Bool) → a && b ≡ true → (a ≡ true) × (b ≡ true)
  both_true true true is = (refl, refl)
  both_true true false is = absurd (true≢false (sym is))
  both_true false b is = absurd (true≢false (sym is))

  pub other_answer : (y f : ℕ) → ((y ≡ n) × (f ≡ m.answer) → ⊥) → (after h d).answers y f ≡ h.answers y f
  other_answer y f apart = answers_are y f ∙ by ((d.node == y) && (c == f)) refl
    where
      by : (b : Bool) → (d.node == y) && (m.answer == f) ≡ b → (if b then Some m else h.answers y f) ≡ h.answers y f
      by true is = (let both = both_true (d.node == y) (m.answer == f) is in
          absurd (apart (sym (eqb-true d.node y both.0) ∙ q.moved.deed.node_is, sym (eqb-true m.answer f both.1))))
      by false is = refl

  -- the answer, by what holds behind the move
  pub answer_ok : AnswerOk (moves_on w n node (move.Froze m) x) (after h d) n m.answer m
  answer_ok = q.later.answers n c m own_answer

  pub link : AreLinked h.accounts n m.tunnel (node_of m.peer) m.remote
  link = subst (λ f. AreLinked f n i p rem) all_accounts answer_ok.linked

  pub tried : h.attempts (node_of m.peer) m.attempt ≡ Some answer_ok.attempt
  tried = sym (attempts_same p m.attempt) ∙ answer_ok.attempted

  pub attempt_fits : m.attempt < 65536
  attempt_fits = (q.later.attempts p m.attempt answer_ok.attempt answer_ok.attempted).fits

  pub made_there : IsMade (h.accounts (node_of m.peer) m.remote 0)
  made_there none = ⊎_elim (λ k. let two = sym k.1 ∙ none in absurd cc) (λ k. let two = sym k.1 ∙ none in absurd cc) link.parts

  pub remote_fits : m.remote < 65536
  remote_fits = (q.moved.holds.accounts p rem 0).id made_there

  pub apart : (node_of m.peer ≡ n) × (m.remote ≡ m.tunnel) → ⊥
  apart both = not_itself h.accounts n i p rem link (sym both.0) (sym both.1)

  -- its id is new
  both_ok : EndOk w h n node.end × BookOk h n node.checkpoint.book
  both_ok = made.both_ok w h n node sender moment ev mv x d k j q

  drawn : (m.answer ≡ node.end.tunnel_ids.next) × (m.answer ≤ node.end.tunnel_ids.last)
  drawn = draw_is node.end.tunnel_ids m.answer q.moved.does.local

  pub unused : is_used h n m.answer ≡ false
  unused =
      ap (λ (a : Account). is_made a.part || (is_some (h.attempts n c) || is_some (h.answers n c)))
      (undrawn w h n node.end q.moved.holds both_ok.0.ids c drawn.0)
      ∙ (ap (λ b. b || is_some (h.answers n c)) (none (is_some (h.attempts n c)) refl) ∙ none_answered (is_some (h.answers n c)) refl)
    where
      none : (b : Bool) → is_some (h.attempts n m.answer) ≡ b → is_some (h.attempts n m.answer) ≡ false
      none true is = (let lt = both_ok.0.ids.attempts m.answer is in let next = drawn.0 in absurd (omega (arith, lt, next)))
      none false is = is

      none_answered : (b : Bool) → is_some (h.answers n m.answer) ≡ b → is_some (h.answers n m.answer) ≡ false
      none_answered true is = (let lt = both_ok.0.ids.answers m.answer is in let next = drawn.0 in absurd (omega (arith, lt, next)))
      none_answered false is = is

  -- ---- the world

  abbrev base : World
  base = with_end w n node x

  abbrev epoch : ℕ
  epoch = min ((standing_of base n i).made + 1) (2 ^ 64 - 1)

  abbrev one : World
  one = has_made base n i epoch

  abbrev two : World
  two = has_made one p rem epoch

  -- the world to which the move leads
  abbrev pub led : World
  led = with_answer_at two n c epoch (at two.nodes n)

  pub moves_is : moves_on w n node (move.Froze m) x ≡ led
  unfolding moved makes_epoch
  moves_is = refl

  base_here : at base.nodes n ≡ Some (record node { end = x })
  base_here = at_new w.nodes n (record node { end = x })

  first : Counts base one n i (record (standing_of base n i) { made = epoch })
  first = counts base n i (record (standing_of base n i) { made = epoch }) (record node { end = x }) base_here

  -- the other end's node is there
  peer_node : (o : Option Node) → at w.nodes p ≡ o → (f : Node) × (at w.nodes p ≡ Some f)
  peer_node None is =
      let ok : NodeOk w h p None = subst (NodeOk w h p) is (q.moved.holds.nodes p) in
      absurd (made_there (ap (λ (a : Account). a.part) (ok.0 rem 0)))
  peer_node (Some f) is = (f, is)

  peer_base : (f : Node) × (at base.nodes p ≡ Some f)
  peer_base = ⊎_elim
      (λ (same : p ≡ n). (record node { end = x }, ap (at base.nodes) same ∙ base_here))
      (λ other. (let f = peer_node (at w.nodes p) refl in (f.0, at_other w.nodes n (record node { end = x }) p other ∙ f.1)))
      (same_or_not p n)

  peer_one : Stays peer_base.0 (at one.nodes p)
  peer_one = stays_there peer_base.0 (at one.nodes p) (subst (λ o. RestSame o (at one.nodes p)) peer_base.1 (first.rest p))

  second : Counts one two p rem (record (standing_of one p rem) { made = epoch })
  second = counts one p rem (record (standing_of one p rem) { made = epoch }) peer_one.node peer_one.is

  own_two : Stays (record node { end = x }) (at two.nodes n)
  own_two = stays_there (record node { end = x }) (at two.nodes n)
      (subst (λ o. RestSame o (at two.nodes n)) base_here (rest_then (at base.nodes n) (at one.nodes n) (at two.nodes n) (first.rest n)
      (second.rest n)))

  third : Answered two led n c epoch
  third = answered two n c epoch own_two.node own_two.is

  pub rest : (y : ℕ) → RestSame (at (with_end w n node x).nodes y) (at led.nodes y)
  rest y = rest_then (at base.nodes y) (at two.nodes y) (at led.nodes y)
      (rest_then (at base.nodes y) (at one.nodes y) (at two.nodes y) (first.rest y) (second.rest y)) (third.rest y)

  pub born : led.born ≡ w.born
  born = third.born ∙ (second.born ∙ first.born)

  -- ---- what it counts

  base_standing : (y f : ℕ) → standing_of base y f ≡ standing_of w y f
  base_standing = end_standings w n node q.moved.there x

  -- the next epoch of the link
  pub made_next : ℕ
  made_next = suc (standing_of w n m.tunnel).made

  epoch_is : epoch ≡ suc (standing_of w n m.tunnel).made
  epoch_is =
      let small = q.epochs n i in
      let same = ap (λ (s : Standing). s.made) (base_standing n i) in
      omega (arith, small, same)

  pub made_own : (standing_of led n m.tunnel).made ≡ suc (standing_of w n m.tunnel).made
  made_own =
      ap (λ (s : Standing). s.made) (third.standings n i ∙ (second.others n i (λ both. apart (sym both.0, sym both.1)) ∙ first.here))
      ∙ epoch_is

  pub made_peer : (standing_of led (node_of m.peer) m.remote).made ≡ suc (standing_of w n m.tunnel).made
  made_peer = ap (λ (s : Standing). s.made) (third.standings p rem ∙ second.here) ∙ epoch_is

  pub others_stand : (y f : ℕ) → ((y ≡ n) × (f ≡ m.tunnel) → ⊥) → ((y ≡ node_of m.peer) × (f ≡ m.remote) → ⊥)
      → standing_of led y f ≡ standing_of w y f
  others_stand y f not_own not_peer =
      third.standings y f ∙ (second.others y f not_peer ∙ (first.others y f not_own ∙ base_standing y f))

  pub epochs_stay : (y f : ℕ) → epoch_of led y f ≡ epoch_of w y f
  epochs_stay y f = ap (λ (s : Standing). s.epoch) (third.standings y f) ∙ ⊎_elim
      (λ (e : (y ≡ p) × (f ≡ rem)).
      rw (e.0, e.1) (ap (λ (s : Standing). s.epoch) second.here
      ∙ (ap (λ (s : Standing). s.epoch) (first.others p rem apart) ∙ ap (λ (s : Standing). s.epoch) (base_standing p rem))))
      (λ o. ap (λ (s : Standing). s.epoch) (second.others y f o) ∙ ⊎_elim
      (λ (e : (y ≡ n) × (f ≡ i)).
      rw (e.0, e.1) (ap (λ (s : Standing). s.epoch) first.here ∙ ap (λ (s : Standing). s.epoch) (base_standing n i)))
      (λ other. ap (λ (s : Standing). s.epoch) (first.others y f other) ∙ ap (λ (s : Standing). s.epoch) (base_standing y f))
      (this_or_not y f n i))
      (this_or_not y f p rem)

  pub makes_own : makes led n m.answer ≡ suc (standing_of w n m.tunnel).made
  makes_own = third.here ∙ epoch_is

  pub makes_other : (y f : ℕ) → ((y ≡ n) × (f ≡ m.answer) → ⊥) → makes led y f ≡ makes w y f
  makes_other y f other =
      third.others y f other ∙ (second.answers y f ∙ (first.answers y f ∙ end_makes w n node q.moved.there x y f))

  -- the other end has entered no such epoch
  pub unentered : h.accounts (node_of m.peer) m.remote (suc (standing_of w n m.tunnel).made) ≡ no_account
  unentered =
      let counted = q.moved.known.counted n i p rem link in
      let most = (q.moved.holds.standings p rem).made in
      not_entered w h q.moved.holds p rem (suc (standing_of w n i).made) (omega (arith, counted, most))
