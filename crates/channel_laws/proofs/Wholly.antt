-- A whole step, with the frame that is handed up before it.
use Rattle.std.proofs.Common.{⊎_elim, ◌≡◌, inl, inr, ℕ, ◌+◌, ◌^◌, ◌<◌, List, ◌++◌, refl, sym, ap, ◌∙◌, subst, arith}
use Rattle.std.specs.Prelude.{true, Option}
use Rattle.id_table.specs.Ids.{at}
use Rattle.recv_window.specs.Window.{ClassIsTrue}
use Rattle.end_model.specs.declared.event.Event.{Event}
use Rattle.end_model.specs.declared.moves.Move.{Move}
use Rattle.end_model.specs.Contents.{contents_of}
use Rattle.end_model.specs.Secrets.{uncovered_event}
use Rattle.end_model.specs.End.{Stepped, step}
use Rattle.world_model.specs.World.{World, Deed, Lined, hand_deed, hand_move, block_of, after_step, given, Sender, IsCut, commits, cut_line}
use Rattle.step_laws.specs.Steps.{IsOfNoStart}
use Rattle.frame_laws.specs.Codecs.{Codecs}
use Rattle.node_laws.specs.Nodes.{HoldsUp}
use Rattle.channel_laws.specs.Accounts.{History, history_from}
use Rattle.channel_laws.specs.Facts.{NodesHold, Holds}
use Rattle.channel_laws.specs.Lines.{AreHands, ComesIn, WholeStep, CutStep}
use Rattle.channel_laws.specs.Steps.{Keeps}
use Rattle.channel_laws.specs.Whole.{IsAlong, NoMove, OneMore, Below, CountAlike, SameLook, LeadsIn, KnowsAlong, WholeKept, WholeStepsKeep, Leads, KnowsFrom, CutStepsKeep}
use Rattle.channel_laws.proofs.Ending.{StepLaws, w2, h1, IsLed, all, holds2, below1, alike2, others2, cut_holds}
use Rattle.channel_laws.proofs.Moving.{Kinds, each_keeps}
use Rattle.channel_laws.proofs.Starting.{StartLaws, start_cut}
use Rattle.channel_laws.proofs.Still.{same_history, nothing_by}

-- a frame that was held is of no account
pub hands_keep : (number : ℕ) (hs ds : List Deed) (h : History) → AreHands number hs → history_from (hs ++ ds) h ≡ history_from ds h
unfolding history_from
hands_keep number hs ds h (inl none) = ap (λ l. history_from (l ++ ds) h) none
hands_keep number hs ds h (inr one) =
    let d = hand_deed number one.0 one.1 one.2 in
    ap (λ l. history_from (l ++ ds) h) one.3 ∙ ap (history_from ds) (same_history h d (nothing_by d (hand_move one.2) tt refl))

module _ (laws : StepLaws) (kinds : Kinds) (codecs : Codecs) (classes : ClassIsTrue) (w : World) (h : History) (number : ℕ) (x : Lined) (s : WholeStep w number x) (most : ℕ)
    (nodes : NodesHold w) (holds : Holds w h) (had : Below h most) (room : most + 147460 < 2 ^ 64) (known : KnowsAlong w h number x s) where
  abbrev J : World → History → List Move → Type 0
  J v g made = LeadsIn w h number x s made v g

  abbrev read : Event
  read = uncovered_event s.found.end.config.secret s.event

  along : IsAlong J s.node s.sender s.found.clock read
  along = record {
    knows = λ v g made ok j. known made v g j ok;
    moves = λ v g made node m y d start moved j ok. OneMore made v g node m y d start j moved;
  }

  up : HoldsUp s.old
  up = (nodes s.node s.old s.was).up s.up

  any : (m : Move) → IsOfNoStart m → Keeps m
  any m start = each_keeps kinds m start

  abbrev k1 : History
  k1 = h1 laws any codecs classes J w h holds number s.node s.old s.was up s.found s.finds s.base s.same s.event s.sender s.comes along NoMove most had room s.checkpoint

  abbrev u2 : World
  u2 = w2 laws any codecs classes J w h holds number s.node s.old s.was up s.found s.finds s.base s.same s.event s.sender s.comes along NoMove most had room s.checkpoint s.whole

  world_is : x.world ≡ u2
  unfolding after_step given
  world_is = s.world

  done_is : history_from x.done h ≡ k1
  unfolding after_step given
  done_is = ap (λ ds. history_from ds h) s.done ∙ hands_keep number s.hands _ h s.are_hands

  abbrev q : Stepped
  q = step s.found.end s.found.clock (block_of s.node number) s.event

  abbrev led : IsLed laws any codecs classes J w h holds number s.node s.old s.was up s.found s.finds s.base s.same s.event s.sender s.comes along NoMove most had room s.checkpoint w h q.moves q.end k1
  led = all laws any codecs classes J w h holds number s.node s.old s.was up s.found s.finds s.base s.same s.event s.sender s.comes along NoMove most had room s.checkpoint

  pub whole_kept : WholeKept w h number x s most
  whole_kept = record {
    holds = subst (λ v. Holds v (history_from x.done h)) (sym world_is) (subst (Holds u2) (sym done_is)
        (holds2 laws any codecs classes J w h holds number s.node s.old s.was up s.found s.finds s.base s.same s.event s.sender s.comes along NoMove most had room s.checkpoint s.whole));
    below = subst (λ k. Below k (most + 81919)) (sym done_is) (λ n i e.
        (let le = below1 laws any codecs classes J w h holds number s.node s.old s.was up s.found s.finds s.base s.same s.event s.sender s.comes along NoMove most had room s.checkpoint s.whole n i e in
        omega (arith, le)));
    behind = led.world;
    leads = subst (λ k. LeadsIn w h number x s q.moves led.world k) (sym done_is) led.amid.keeps;
    holds_behind = subst (Holds led.world) (sym done_is) led.amid.holds;
    node = led.amid.node;
    there = led.amid.there;
    end = led.amid.end;
    checkpoint = led.amid.checkpoint;
    alike = subst (CountAlike led.world) (sym world_is)
        (alike2 laws any codecs classes J w h holds number s.node s.old s.was up s.found s.finds s.base s.same s.event s.sender s.comes along NoMove most had room s.checkpoint s.whole);
    others = λ p o. subst (λ (v : World). SameLook (at led.world.nodes p) (at v.nodes p)) (sym world_is)
        (others2 laws any codecs classes J w h holds number s.node s.old s.was up s.found s.finds s.base s.same s.event s.sender s.comes along NoMove most had room s.checkpoint s.whole p o);
  }

pub whole_steps_keep : StepLaws → Kinds → Codecs → ClassIsTrue → WholeStepsKeep
whole_steps_keep laws kinds codecs classes w h number x s most nodes holds had room known = whole_kept laws kinds codecs classes w h number x s most nodes holds had room known

-- ---- a step, or a start, that a stop cuts off

module _ (laws : StepLaws) (starts : StartLaws) (kinds : Kinds) (codecs : Codecs) (classes : ClassIsTrue) (w : World) (h : History)
    (number : ℕ) (x : Lined) (s : CutStep w number x) (most : ℕ)
    (nodes : NodesHold w) (holds : Holds w h) (had : Below h most) (room : most + 147460 < 2 ^ 64)
    (known : (event : Event) (sender : Option Sender) → s.old.up ≡ true → ComesIn w s.node s.old event sender
    → KnowsFrom w h s.node sender s.found.clock (uncovered_event s.found.end.config.secret event)) where
  -- nothing was done
  undone : Holds (cut_line s.base number s.node s.found s.checkpoint).world h → Holds x.world (history_from x.done h)
  unfolding history_from
  undone ok = subst (λ ds. Holds x.world (history_from ds h)) (sym s.done) (subst (λ v. Holds v h) (sym s.world) ok)

  module _ (is_up : s.old.up ≡ true) (ev : Event) (sender : Option Sender) (comes : ComesIn w s.node s.old ev sender)
      (is : s.stepped ≡ step s.found.end s.found.clock (block_of s.node number) ev) where
    abbrev Made : World → History → List Move → Type 0
    Made v g made = Leads s.node sender s.found.clock (uncovered_event s.found.end.config.secret ev) w h made v g

    led_so : IsAlong Made s.node sender s.found.clock (uncovered_event s.found.end.config.secret ev)
    led_so = record {
      knows = λ v g made ok j. known ev sender is_up comes made v g j ok;
      moves = λ v g made node m y d start moved j ok. OneMore made v g node m y d start j moved;
    }

    cut_is : commits s.found.checkpoint (contents_of s.found.end (step s.found.end s.found.clock (block_of s.node number) ev)) ≡ IsCut s.checkpoint
    cut_is = subst (λ q. commits s.found.checkpoint (contents_of s.found.end q) ≡ IsCut s.checkpoint) is s.cut

    cut_kept : Holds x.world (history_from x.done h)
    cut_kept =
        undone
        (cut_holds laws (λ m start. each_keeps kinds m start) codecs classes Made w h holds number s.node s.old s.was ((nodes s.node s.old s.was).up is_up) s.found s.finds s.base s.same ev
        sender comes led_so NoMove most had room s.found.checkpoint s.checkpoint cut_is)

  any_kept : Holds x.world (history_from x.done h)
  any_kept = ⊎_elim
      (λ k. cut_kept k.0 k.1.0 k.1.1 k.1.2 k.1.3)
      (λ k. undone
      (start_cut starts w h holds number s.node s.old s.was (nodes s.node s.old s.was) k.0 s.found s.finds s.base s.same s.checkpoint
      (subst (λ q. commits s.found.checkpoint (contents_of s.found.end q) ≡ IsCut s.checkpoint) k.1 s.cut)))
      s.of

pub cut_steps_keep : StepLaws → StartLaws → Kinds → Codecs → ClassIsTrue → CutStepsKeep
cut_steps_keep laws starts kinds codecs classes w h number x s most nodes holds had room known = any_kept laws starts kinds codecs classes w h number x s most nodes holds had room known
