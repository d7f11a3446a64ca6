-- The history behind a move that gives or takes letters in its tunnel's epoch.
use Rattle.std.proofs.Common.{◌≡◌, ℕ, List, ◌∷◌, ◌++◌, refl, sym, ap, ◌∙◌, Option}
use Rattle.session_book.specs.Books.{Kept}
use Rattle.end_model.specs.declared.event.Event.{Event}
use Rattle.end_model.specs.declared.moves.Move.{Move}
use Rattle.end_model.specs.End.{End}
use Rattle.world_model.specs.World.{World, Node, Sender, Deed, epoch_of}
use Rattle.step_laws.specs.Letters.{Letter}
use Rattle.epoch_machine.specs.Worlds as machine
use Rattle.channel_laws.specs.Accounts.{Account, History, about, entered_by, after}
use Rattle.channel_laws.specs.Steps.{with_end, moves_on}
use Rattle.join_laws.specs.Steps as steps
use Rattle.join_laws.proofs.Roots.{Roots, Speaks, IsPlain, account_is, speaks, all_roots}

module _ (w : World) (h : History) (n : ℕ) (node : Node) (sender : Option Sender) (moment : ℕ) (ev : Event) (m : Move) (x : End) (d :
    Deed) (k : Kept)
    (j : machine.World) (q : steps.IsMade w h n node sender moment ev m x d k j) (epoch : d.epoch ≡ epoch_of w n (about m))
    (plain : IsPlain d m)
    (new : Account) (becomes : entered_by d m (h.accounts n (about m) (epoch_of w n (about m))) ≡ new) where
  pub account_now : (after h d).accounts n (about m) (epoch_of w n (about m)) ≡ new
  account_now = account_is h d n (epoch_of w n (about m)) node.end.role sender m q.moved.deed epoch plain new becomes

  module _ (ls : List Letter) (roots : Roots (h.accounts n (about m) (epoch_of w n (about m))) new)
      (given : new.given ≡ (h.accounts n (about m) (epoch_of w n (about m))).given ++ ls) where
    pub spoke : Speaks h (after h d) n (about m) (epoch_of w n (about m)) ls
    spoke = speaks h d n (epoch_of w n (about m)) node.end.role sender m q.moved.deed epoch plain new becomes ls roots given

    pub same_roots : (p i f : ℕ) → Roots (h.accounts p i f) ((after h d).accounts p i f)
    same_roots = all_roots h (after h d) n (about m) (epoch_of w n (about m)) ls spoke

    pub same_peers : (p i : ℕ) → ((after h d).accounts p i 0).peer ≡ (h.accounts p i 0).peer
    same_peers p i = (same_roots p i 0).peer
