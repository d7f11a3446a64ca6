-- The first moves of a step lead to a world in which all holds.
use Rattle.std.proofs.Common.{◌≡◌, ℕ, ◌+◌, ◌^◌, ◌<◌, true, List, [], ◌∷◌, ◌++◌, map, refl, sym, ap, ◌∙◌, subst, Option}
use Rattle.recv_window.specs.Window.{ClassIsTrue}
use Rattle.end_model.specs.declared.event.Event.{Event}
use Rattle.end_model.specs.declared.moves.Move.{Move}
use Rattle.end_model.specs.Secrets.{uncovered_event}
use Rattle.end_model.specs.End.{End, Stepped, step}
use Rattle.world_model.specs.World.{World, Lined, Sender, block_of}
use Rattle.step_laws.specs.Moves.{Chain}
use Rattle.frame_laws.specs.Codecs.{Codecs}
use Rattle.channel_laws.specs.Accounts.{History, history_from}
use Rattle.channel_laws.specs.Facts.{NodesHold, Holds}
use Rattle.channel_laws.specs.Lines.{ComesIn, CutStep}
use Rattle.channel_laws.specs.Whole.{IsAlong, Leads, NoMove, OneMore, Below, KnowsFrom, PartLeads, PartsLead}
use Rattle.channel_laws.proofs.Ending.{StepLaws, IsLed, deed_in, led_to, is_chain}
use Rattle.channel_laws.proofs.Moving.{Kinds, each_keeps}

-- a chain of two parts
chain_parts : (moment : ℕ) (ev : Event) (e z : End) (ms ns : List Move) → Chain moment ev e (ms ++ ns) z
    → (y : End) × Chain moment ev e ms y × Chain moment ev y ns z
chain_parts moment ev e z [] ns chain = (e, refl, chain)
chain_parts moment ev e z (m ∷ ms) ns chain =
    let r = chain_parts moment ev chain.0 z ms ns chain.2 in
    (r.0, (chain.0, chain.1, r.1), r.2)

module _ (laws : StepLaws) (kinds : Kinds) (codecs : Codecs) (classes : ClassIsTrue) (w : World) (h : History) (number : ℕ) (x : Lined)
    (s : CutStep w number x) (most : ℕ) (nodes : NodesHold w) (holds : Holds w h) (had : Below h most) (room : most + 147460 < 2 ^ 64)
    (up : s.old.up ≡ true) (ev : Event) (sender : Option Sender) (comes : ComesIn w s.node s.old ev sender)
    (is : s.stepped ≡ step s.found.end s.found.clock (block_of s.node number) ev)
    (known : KnowsFrom w h s.node sender s.found.clock (uncovered_event s.found.end.config.secret ev)) (made rest : List Move)
    (are : s.stepped.moves ≡ made ++ rest) where
  abbrev read : Event
  read = uncovered_event s.found.end.config.secret ev

  abbrev Made : World → History → List Move → Type 0
  Made v g ms = Leads s.node sender s.found.clock read w h ms v g

  along : IsAlong Made s.node sender s.found.clock read
  along = record {
    knows = λ v g ms ok j. known ms v g j ok;
    moves = λ v g ms node m y d start moved j ok. OneMore ms v g node m y d start j moved;
  }

  abbrev q : Stepped
  q = step s.found.end s.found.clock (block_of s.node number) ev

  moves_are : q.moves ≡ made ++ rest
  moves_are = ap (λ (r : Stepped). r.moves) (sym is) ∙ are

  chain : Chain s.found.clock read s.found.end q.moves q.end
  chain = (is_chain laws (λ m start. each_keeps kinds m start) codecs classes Made w h holds number s.node s.old s.was
      ((nodes s.node s.old s.was).up up) s.found s.finds s.base s.same ev sender comes along NoMove most had room s.checkpoint).chain

  parts : (y : End) × Chain s.found.clock read s.found.end made y × Chain s.found.clock read y rest q.end
  parts = chain_parts s.found.clock read s.found.end q.end made rest
      (subst (λ ms. Chain s.found.clock read s.found.end ms q.end) moves_are chain)

  abbrev g : History
  g = history_from
      (map (deed_in laws (λ m start. each_keeps kinds m start) codecs classes Made w h holds number s.node s.old s.was
      ((nodes s.node s.old s.was).up up) s.found s.finds s.base s.same ev sender comes along NoMove most had room s.checkpoint) made) h

  led : IsLed laws (λ m start. each_keeps kinds m start) codecs classes Made w h holds number s.node s.old s.was
      ((nodes s.node s.old s.was).up up) s.found s.finds s.base s.same ev sender comes
      along NoMove most had room s.checkpoint w h made parts.0 g
  led = led_to laws (λ m start. each_keeps kinds m start) codecs classes Made w h holds number s.node s.old s.was
      ((nodes s.node s.old s.was).up up) s.found s.finds s.base s.same ev sender comes along NoMove most had room s.checkpoint made rest
      parts.0 moves_are parts.1 parts.2

  pub part_leads : PartLeads w h s.node s.old sender s.found.clock (uncovered_event s.found.end.config.secret ev) made
  part_leads = record {
    world = led.world;
    history = g;
    leads = led.amid.keeps;
    holds = led.amid.holds;
    node = led.amid.node;
    there = led.amid.there;
    comes = subst (λ e. Chain s.found.clock read e made led.amid.node.end) s.finds.end
        (subst (Chain s.found.clock read s.found.end made) (sym led.amid.end) parts.1);
    checkpoint = led.amid.checkpoint ∙ s.finds.checkpoint;
    others = led.amid.others;
  }

pub parts_lead : StepLaws → Kinds → Codecs → ClassIsTrue → PartsLead
parts_lead laws kinds codecs classes w h number x s most nodes holds had room up ev sender comes is known made rest are =
    part_leads laws kinds codecs classes w h number x s most nodes holds had room up ev sender comes is known made rest are
