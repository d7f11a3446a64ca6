-- What a turn gives to the ports is what a node's step that gives the same gives to them.
use Rattle.std.specs.Prelude.{ℕ, ◌≡◌, List, [], ◌∷◌, map}
use Rattle.wire_base.specs.declared.letter.Side.TheVariants.{Sub}
use Rattle.end_model.specs.declared.out.Out.{Out}
use Rattle.end_model.specs.declared.out.Out.TheVariants as given
use Rattle.end_model.specs.Access.{Concentrator, new_access}
use Rattle.node_run.specs.Outs.{lac_out, lns_out}
use Rattle.pool_giving.specs.Hosts.{Hosted, turn_outs}

-- of an LNS, which has no hosts
abbrev pub GivesAsLns : Type 0
GivesAsLns = (number : ℕ) (key : List ℕ) (outs : List Out)
    → turn_outs (record { number = number; access = new_access key; told = [] }) outs ≡ map lns_out outs

-- no frame goes to a subscriber
abbrev pub AreOfTurns : List Out → Type 0
AreOfTurns [] = Unit {0}
AreOfTurns (given.Up session Sub frame ∷ outs) = ⊥
AreOfTurns (out ∷ outs) = AreOfTurns outs

-- of a LAC that knows these hosts
abbrev pub GivesAsLac : Type 0
GivesAsLac = (h : Hosted) (l : Concentrator) (outs : List Out)
    → h.number ≡ l.end.config.number → h.access ≡ l.access → AreOfTurns outs → turn_outs h outs ≡ map (lac_out l) outs
