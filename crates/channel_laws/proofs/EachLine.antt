-- Each line keeps what holds of channels.
use Rattle.std.proofs.Common.{◌≡◌, ℕ, ◌+◌, ◌^◌, ◌<◌, ◌≤◌, List, [], ◌++◌, length, sym, ap, ◌∙◌, subst, arith, append-nil}
use Rattle.recv_window.specs.Window.{ClassIsTrue}
use Rattle.world_model.specs.World.{World, Deed, Lined}
use Rattle.frame_laws.specs.Codecs.{Codecs}
use Rattle.channel_laws.specs.Accounts.{Account, History, history_from}
use Rattle.channel_laws.specs.Facts.{NodesHold, Holds}
use Rattle.channel_laws.specs.Lines.{LineDoes, Nothing, ANode, Arms, Falls, Steps, Cuts, Starts}
use Rattle.channel_laws.specs.Whole.{Below, KnowsOfLine, LinesKeep}
use Rattle.channel_laws.proofs.Ending.{StepLaws}
use Rattle.channel_laws.proofs.Moving.{Kinds}
use Rattle.channel_laws.proofs.Starting.{StartLaws, starts_keep}
use Rattle.channel_laws.proofs.Resting.{same_holds, fall_holds, arm_holds, declared_holds}
use Rattle.channel_laws.proofs.Wholly.{hands_keep, whole_steps_keep, cut_steps_keep}

-- nothing was done
undone : (ds : List Deed) (h : History) → ds ≡ [] → history_from ds h ≡ h
unfolding history_from
undone ds h none = ap (λ l. history_from l h) none

undone_but : (ds : List Deed) (h : History) → history_from (ds ++ []) h ≡ history_from [] h → history_from ds h ≡ h
unfolding history_from
undone_but ds h is = ap (λ l. history_from l h) (sym (append-nil ds)) ∙ is

module _ (laws : StepLaws) (start_laws : StartLaws) (kinds : Kinds) (codecs : Codecs) (classes : ClassIsTrue) (w : World) (h : History)
    (number : ℕ) (x : Lined) (most : ℕ) (nodes : NodesHold w) (holds : Holds w h)
    (had : Below h most) (room : most + 147460 < 2 ^ 64) (known : KnowsOfLine w h) where
  abbrev Kept : Type 0
  Kept = Holds x.world (history_from x.done h) × Below (history_from x.done h) (most + 81919)

  more : Below h (most + 81919)
  more n i e = let le = had n i e in omega (arith, le)

  same_kept : history_from x.done h ≡ h → Holds x.world h → Kept
  same_kept same ok = (subst (Holds x.world) (sym same) ok, subst (λ k. Below k (most + 81919)) (sym same) more)

  kept : LineDoes w number x → Kept
  kept (Nothing same hands none) = same_kept (undone_but x.done h (hands_keep number x.done [] h hands))
      (same_holds w x.world h holds same.nodes same.packets)
  kept (ANode n role lns secret hide lt to fresh world done none) =
      same_kept (undone x.done h done) (subst (λ v. Holds v h) (sym world) (declared_holds w h number n role lns secret hide lt to fresh holds))
  kept (Arms k s world done none) = same_kept (undone x.done h done) (subst (λ v. Holds v h) (sym world)
      (arm_holds w h k.node k.old k.was holds s))
  kept (Falls k world done none) =
      same_kept (undone x.done h done) (subst (λ v. Holds v h) (sym world) (fall_holds w h number k.node k.old k.was k.up (nodes k.node k.old k.was) holds))
  kept (Steps k) =
      let q = whole_steps_keep laws kinds codecs classes w h number x k most nodes holds had room
      (known k.node k.old k.found k.event k.sender k.was k.up k.finds k.comes) in
      (q.holds, q.below)
  kept (Cuts k) = (
    cut_steps_keep laws start_laws kinds codecs classes w h number x k most nodes holds had room
        (λ ev sender up comes. known k.node k.old k.found ev sender k.was up k.finds comes),
    subst (λ g. Below g (most + 81919)) (sym (undone x.done h k.done)) more,
  )
  kept (Starts k) =
      let q = starts_keep start_laws w h number x k most nodes holds had (omega (arith, room)) in
      (q.holds, λ n i e. subst (λ (a : ℕ → ℕ → ℕ → Account). length (a n i e).given ≤ most + 81919) (sym q.accounts) (more n i e))

pub lines_keep : StepLaws → StartLaws → Kinds → Codecs → ClassIsTrue → LinesKeep
lines_keep laws start_laws kinds codecs classes w h number x most nodes holds had room does known = kept laws start_laws kinds codecs classes w h number x most nodes holds had room known does
