-- A step of the definitions keeps a LAC from strangers.
use Rattle.std.proofs.Common.{◌≡◌, ℕ, List, None, Result, Ok, Err, refl, sym, ap, ◌∙◌, subst}
use Rattle.end_model.specs.declared.event.Event.{Event}
use Rattle.end_model.specs.declared.event.Event.TheVariants.{Datagram}
use Rattle.end_model.specs.Access.{Concentrator, Served, of_step, serves}
use Rattle.end_model.specs.End.{step}
use Rattle.stranger_steps.specs.Strangers.{ChangesNothing, StepKeepsFromStrangers}
use Rattle.stranger_steps.proofs.Strangers.{strangers_change_nothing, datagrams_are_of_ends}
use Rattle.lac_core.specs.declared.LacGiven.{LacGiven}
use Rattle.lac_core.specs.Gives.{GivesServed, end_step}
use Rattle.lac_core.specs.Strangers.{KeepsHosts, KeepsFromStrangers}

module _ (old new : Concentrator) (moment : ℕ) (block : List ℕ) (ev : Event) (g : LacGiven)
    (is : serves old moment block ev ≡ record { lac = new; outputs = g.outputs; moves = g.moves; reply = g.reply }) where
  abbrev gave : Served
  gave = record { lac = new; outputs = g.outputs; moves = g.moves; reply = g.reply }

  -- on a datagram it is a step of the end
  of_end : (peer : ℕ) (bytes : List ℕ) → ev ≡ Datagram peer bytes
      → of_step old.access None (step old.end moment block (Datagram peer bytes)) ≡ gave
  of_end peer bytes came =
      sym (datagrams_are_of_ends old moment block peer bytes) ∙ (ap (λ v. serves old moment block v) (sym came) ∙ is)

  keeps_hosts : KeepsHosts ev old g new
  keeps_hosts peer bytes came =
      let of = of_end peer bytes came in
      (sym (ap (λ (s : Served). s.lac.access) of), sym (ap (λ (s : Served). s.reply) of))

  keeps_end : StepKeepsFromStrangers ev old.end (record { end = new.end; outputs = g.outputs; moves = g.moves })
  keeps_end peer bytes came looks stranger =
      subst (ChangesNothing old.end peer) (ap end_step (of_end peer bytes came))
      (strangers_change_nothing old.end moment block (Datagram peer bytes) peer bytes refl looks stranger)

pub keeps_from_strangers : {F : Type 0} (r : Result LacGiven F) (old new : Concentrator) (moment : ℕ) (block : List ℕ) (ev : Event)
    → GivesServed r (serves old moment block ev) old new → KeepsFromStrangers r ev old new
keeps_from_strangers (Ok g) old new moment block ev is = (keeps_end old new moment block ev g is, keeps_hosts old new moment block ev g is)
keeps_from_strangers (Err e) old new moment block ev is = is
