-- The moves of a step, one after another: wherever they lead, the world is joined.
use Rattle.std.proofs.Common.{◌≡◌, ℕ, ◌+◌, ◌^◌, ◌<◌, true, List, [], Option, Some, arith}
use Rattle.id_table.specs.Ids.{at}
use Rattle.end_model.specs.declared.event.Event.{Event}
use Rattle.end_model.specs.declared.moves.Move.{Move}
use Rattle.end_model.specs.Secrets.{uncovered_event}
use Rattle.world_model.specs.World.{World, Node, Sender}
use Rattle.epoch_machine.specs.Worlds.{all_rules}
use Rattle.epoch_machine.specs.Moves.{goes_on}
use Rattle.epoch_laws.specs.Answers.{AnswersOfRuns}
use Rattle.node_laws.specs.Nodes.{HoldsUp}
use Rattle.channel_laws.specs.Accounts.{History}
use Rattle.channel_laws.specs.Facts.{Holds}
use Rattle.channel_laws.specs.Whole.{Leads, NoMove, OneMore, KnowsFrom}
use Rattle.recovery_laws.specs.Answered.{AnswersAreToQuestions}
use Rattle.join_laws.specs.Steps.{with_book, ChannelsClose}
use Rattle.join_laws.specs.Roles.{RequestsStay}
use Rattle.line_join_laws.specs.Chains.{MovesJoin, IsStanding, JoinedLinesKnow}
use Rattle.line_join_laws.proofs.Amid.{Amid, amid_then}
use Rattle.line_join_laws.proofs.Another.{same_joined}
use Rattle.line_join_laws.proofs.Rebooked.{known_before, own_book}

module _ (answers : AnswersAreToQuestions) (closes : ChannelsClose) (requests : RequestsStay)
    (w : World) (h : History) (top : ℕ) (s : IsStanding w h top) (room : top + 131072 < 2 ^ 64) (n : ℕ) (old : Node)
    (was : at w.nodes n ≡ Some old) (up : old.up ≡ true) where
  own : HoldsUp old
  own = (s.nodes n old was).up up

  -- before its moves
  pub amid_first : (ev : Event) → Amid ev n top s.machine w h
  unfolding goes_on
  amid_first ev = record {
    node = old;
    there = was;
    up = up;
    fit = own.fit;
    sound = s.sound n old was;
    nodes = λ q other o there. s.nodes q other there;
    answers = s.answers;
    closes = s.closes;
    roles = s.roles;
    born = (let le = s.counts.born in omega (arith, le));
    made = λ q i. (let le = s.counts.made q i in omega (arith, le));
    book = old.checkpoint.book;
    mirrors = own.book.mirrors;
    moves = [];
    own = tt;
    heard = tt;
    joined = same_joined w (with_book w n old.checkpoint.book) h s.machine (own_book w n old was) s.joined;
  }

  module _ (sender : Option Sender) (moment : ℕ) (ev : Event) (join : MovesJoin) where
    pub amid_along : (made : List Move) (v : World) (g : History) → Leads n sender moment ev w h made v g → Holds v g
        → Amid ev n top s.machine v g
    amid_along made v g NoMove holds = amid_first ev
    amid_along made v g (OneMore before u k node y x d start leads is) holds =
        amid_then ev n top s.machine join answers closes requests room u k (amid_along before u k leads is.holds) node sender moment y x d
        start is holds

    known_along : AnswersOfRuns → KnowsFrom w h n sender moment ev
    known_along once made v g leads holds =
        let a = amid_along made v g leads holds in
        known_before v n a.node a.there a.book g holds a.mirrors once (goes_on all_rules s.machine a.moves) a.joined.joined

pub joined_lines_know : AnswersOfRuns → AnswersAreToQuestions → ChannelsClose → RequestsStay → MovesJoin → JoinedLinesKnow
joined_lines_know once answers closes requests join w h top s room n old found event sender was up finds comes =
    let ev = uncovered_event found.end.config.secret event in
    known_along answers closes requests w h top s room n old was up sender found.clock ev join once
