-- Amid a step: the world to which some of its moves lead is joined, with a book of the end that they leave.
use Rattle.std.proofs.Common.{◌≡◌, ℕ, ◌+◌, ◌^◌, ◌<◌, ◌≤◌, true, List, [], ◌∷◌, ◌++◌, sym, ap, ◌∙◌, subst, Option, Some, arith}
use Rattle.std.proofs.lemmas.Option.{same_Some}
use Rattle.id_table.specs.Ids.{at}
use Rattle.session_book.specs.Books.{Kept}
use Rattle.end_model.specs.declared.event.Event.{Event}
use Rattle.end_model.specs.declared.moves.Move.{Move}
use Rattle.end_model.specs.End.{End}
use Rattle.world_model.specs.declared.standing.Standing.{Standing}
use Rattle.world_model.specs.World.{World, Node, Sender, Deed, standing_of}
use Rattle.epoch_machine.specs.Worlds as machine
use Rattle.epoch_machine.specs.Worlds.{all_rules}
use Rattle.epoch_machine.specs.Moves as moves
use Rattle.epoch_machine.specs.Moves.{goes_on}
use Rattle.step_laws.specs.Left.{AreSound}
use Rattle.step_laws.specs.Steps.{IsOfNoStart}
use Rattle.step_laws.proofs.Sound.{sound_then}
use Rattle.book_laws.specs.Books.{Mirrors, Fits}
use Rattle.node_laws.specs.Nodes.{HoldsNode}
use Rattle.channel_laws.specs.Accounts.{History, after, history_from}
use Rattle.channel_laws.specs.Facts.{Holds}
use Rattle.channel_laws.specs.Steps.{with_end, moves_on, IsMoved}
use Rattle.recovery_laws.specs.Answered.{AllAnswer, AnswersAreToQuestions}
use Rattle.join_laws.specs.Steps.{with_book, AllClose, ChannelsClose, IsJoined, IsMade, AreOf, Follows}
use Rattle.join_laws.specs.Hearing.{AreHeard}
use Rattle.join_laws.specs.Roles.{RequestsAreOfLacs, RequestsStay}
use Rattle.join_laws.proofs.Ahead.{end_standings}
use Rattle.line_join_laws.specs.Chains.{MovesJoin}
use Rattle.line_join_laws.proofs.Counting.{CountsOn, counts_on}
use Rattle.line_join_laws.proofs.Lists.{goes_both, of_both, heard_both}
use Rattle.line_join_laws.proofs.Nodes.{IsThere, left_there, left_others, like_holds}
use Rattle.line_join_laws.proofs.Spaces.{mirrors_then, fits_then}

module _ (ev : Event) (n top : ℕ) (j0 : machine.World) where
  -- a world amid a step of a node, which goes on from a world of the machine's
  pub record Amid (w : World) (h : History) : Type 0 where
    pub node : Node
    pub there : at w.nodes n ≡ Some node
    pub up : node.up ≡ true
    pub fit : Fits node.end
    pub sound : AreSound node.end
    pub nodes : (q : ℕ) (other : Node) → (q ≡ n → ⊥) → at w.nodes q ≡ Some other → HoldsNode other
    pub answers : AllAnswer h
    pub closes : AllClose h
    pub roles : RequestsAreOfLacs w h
    pub born : w.born ≤ top + node.end.session_ids.next
    pub made : (q i : ℕ) → (standing_of w q i).made ≤ top + node.end.tunnel_ids.next
    pub book : Kept
    pub mirrors : Mirrors node.end book
    pub moves : List moves.Move
    pub own : AreOf n j0 moves
    pub heard : AreHeard ev j0 moves
    pub joined : IsJoined (with_book w n book) h (goes_on all_rules j0 moves)

  module _ (join : MovesJoin) (answers : AnswersAreToQuestions) (closes : ChannelsClose)
      (requests : RequestsStay) (room : top + 131072 < 2 ^ 64)
      (w : World) (h : History) (a : Amid w h) (old : Node) (sender : Option Sender) (moment : ℕ) (m : Move) (x : End) (d : Deed)
      (start : IsOfNoStart m) (is : IsMoved w h n old sender moment ev m x d) (later : Holds (moves_on w n old m x) (after h d)) where
    same : a.node ≡ old
    same = same_Some a.node old (sym a.there ∙ is.there)

    abbrev v : World
    v = moves_on w n old m x

    abbrev base : World
    base = with_end w n old x

    up : old.up ≡ true
    up = ap (λ (y : Node). y.up) (sym same) ∙ a.up

    sound : AreSound old.end
    sound = subst (λ (y : Node). AreSound y.end) same a.sound

    mirrors : Mirrors old.end a.book
    mirrors = subst (λ (y : Node). Mirrors y.end a.book) same a.mirrors

    fit : Fits x
    fit = fits_then old.end x a.book moment ev m start is.does is.fit mirrors

    next : (b : Kept) × Mirrors x b
    next = (_, mirrors_then old.end x a.book moment ev m start is.does is.fit mirrors)

    sessions : a.node.end.session_ids.next ≤ 65535
    sessions =
        let drawn = a.fit.session_ids.drawn in
        let within = a.fit.session_ids.within in
        omega (arith, drawn, within)

    tunnels : a.node.end.tunnel_ids.next ≤ 65536
    tunnels =
        let drawn = a.fit.tunnel_ids.drawn in
        let within = a.fit.tunnel_ids.within in
        omega (arith, drawn, within)

    made : IsMade w h n old sender moment ev m x d a.book (goes_on all_rules j0 a.moves)
    made = record {
      moved = is;
      later = later;
      fit = fit;
      up = up;
      sound = sound;
      nodes = a.nodes;
      answers = a.answers;
      closes = a.closes;
      mirrors = mirrors;
      joined = a.joined;
      born = (let le = a.born in let few = sessions in omega (arith, le, few, room));
      epochs = λ q i. (let le = a.made q i in let few = tunnels in omega (arith, le, few, room));
    }

    follows : Follows ev (with_book v n next.0) (after h d) n (goes_on all_rules j0 a.moves)
    follows = join m start w h n old sender moment ev x d a.book (goes_on all_rules j0 a.moves) a.roles made next.0 next.1

    left : IsThere v n x old.up old.checkpoint
    left = left_there w n old is.there m x

    counts : CountsOn base v old.end x top
    counts = counts_on old.end x moment ev m is.does base n top

    base_made : (q i : ℕ) → (standing_of base q i).made ≤ top + old.end.tunnel_ids.next
    base_made q i =
        let le = a.made q i in
        let own = ap (λ (y : Node). y.end.tunnel_ids.next) same in
        let is_so = ap (λ (s : Standing). s.made) (end_standings w n old is.there x q i) in
        omega (arith, le, own, is_so)

    pub amid_then : Amid (moves_on w n old m x) (after h d)
    unfolding history_from
    amid_then = record {
      node = left.node;
      there = left.there;
      up = left.up ∙ up;
      fit = subst Fits (sym left.end) fit;
      sound = subst AreSound (sym left.end)
          (sound_then old.end x (let last = is.fit.session_ids.last in omega (arith, last)) is.fit.tables.order
          (λ i t at_t. (is.fit.tables.tunnels i t at_t).order) sound moment ev m start is.does);
      nodes = λ q other o there.
          (let k = left_others w n old is.there m x q other o there in like_holds k.old other k.like (a.nodes q k.old o k.was));
      answers = answers.later (d ∷ []) h a.answers;
      closes = closes.later (d ∷ []) h a.closes;
      roles = requests.moves w h n old sender moment ev m x d is a.roles;
      born =
          (let le = a.born in
          let own = ap (λ (y : Node). y.end.session_ids.next) same in
          let end = ap (λ (e : End). e.session_ids.next) left.end in
          let on = counts.born (omega (arith, le, own)) in
          omega (arith, on, end));
      made = λ q i.
          (let end = ap (λ (e : End). e.tunnel_ids.next) left.end in
          let on = counts.made base_made q i in
          omega (arith, on, end));
      book = next.0;
      mirrors = subst (λ e. Mirrors e next.0) (sym left.end) next.1;
      moves = a.moves ++ follows.moves;
      own = of_both n j0 a.moves follows.moves a.own follows.own;
      heard = heard_both ev j0 a.moves follows.moves a.heard follows.heard;
      joined = subst (IsJoined (with_book v n next.0) (after h d)) (sym (goes_both j0 a.moves follows.moves)) follows.joined;
    }
