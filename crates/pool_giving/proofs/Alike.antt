-- What turns give to the ports is what a node's steps give to them.
use Rattle.std.proofs.Common.{◌≡◌, ℕ, List, [], ◌∷◌, map, refl, ap, ◌∙◌}
use Rattle.wire_base.specs.declared.letter.Side.TheVariants.{Sub, Net, Lcp}
use Rattle.pppoe_session.specs.Subscribers.{holder_of, subscriber_of}
use Rattle.end_model.specs.declared.out.Out.{Out}
use Rattle.end_model.specs.declared.out.Out.TheVariants.{Send, Up, Gone, Drop, Cause}
use Rattle.end_model.specs.Access.{Access, Concentrator, new_access, holder, farewell}
use Rattle.port_events.specs.declared.end.Out.{Out as Going}
use Rattle.port_events.specs.declared.end.Out.TheVariants as going
use Rattle.node_run.specs.Outs.{by_ether, lac_out, lns_out}
use Rattle.pool_giving.specs.Hosts.{Hosted, turn_out, turn_outs}
use Rattle.pool_giving.specs.Laws.{AreOfTurns}

abbrev bare : ℕ → List ℕ → Hosted
bare number key = record { number = number; access = new_access key; told = [] }

no_farewell : (number session : ℕ) (key : List ℕ) → by_ether (farewell number (new_access key) session) ≡ going.Drop
unfolding farewell holder holder_of subscriber_of
no_farewell number session key = refl

lns_one : (number : ℕ) (key : List ℕ) (o : Out) → turn_out (bare number key) o ≡ lns_out o
lns_one number key (Send peer bytes origin) = refl
lns_one number key (Up session Sub frame) = refl
lns_one number key (Up session Net frame) = refl
lns_one number key (Up session Lcp frame) = refl
lns_one number key (Gone session) = no_farewell number session key
lns_one number key (Drop why) = refl
lns_one number key (Cause cause) = refl

pub as_lns : (number : ℕ) (key : List ℕ) (outs : List Out) → turn_outs (bare number key) outs ≡ map lns_out outs
as_lns number key [] = refl
as_lns number key (o ∷ os) =
    ap (λ (x : Going). x ∷ turn_outs (bare number key) os) (lns_one number key o) ∙ ap (λ (xs : List Going). lns_out o ∷ xs) (as_lns number key os)

module _ (h : Hosted) (l : Concentrator) (number : h.number ≡ l.end.config.number) (access : h.access ≡ l.access) where
  farewell_is : (session : ℕ) → by_ether (farewell h.number h.access session) ≡ by_ether (farewell l.end.config.number l.access session)
  farewell_is session =
      ap (λ (n : ℕ). by_ether (farewell n h.access session)) number ∙ ap (λ (a : Access). by_ether (farewell l.end.config.number a session)) access

  both : (o : Out) (os : List Out) → turn_out h o ≡ lac_out l o → turn_outs h os ≡ map (lac_out l) os → turn_outs h (o ∷ os) ≡ map (lac_out l) (o ∷ os)
  both o os e f = ap (λ (x : Going). x ∷ turn_outs h os) e ∙ ap (λ (xs : List Going). lac_out l o ∷ xs) f

  pub as_lac : (outs : List Out) → AreOfTurns outs → turn_outs h outs ≡ map (lac_out l) outs
  as_lac [] are = refl
  as_lac (Send peer bytes origin ∷ os) are = both (Send peer bytes origin) os refl (as_lac os are)
  as_lac (Up session Sub frame ∷ os) are = absurd are
  as_lac (Up session Net frame ∷ os) are = both (Up session Net frame) os refl (as_lac os are)
  as_lac (Up session Lcp frame ∷ os) are = both (Up session Lcp frame) os refl (as_lac os are)
  as_lac (Gone session ∷ os) are = both (Gone session) os (farewell_is session) (as_lac os are)
  as_lac (Drop why ∷ os) are = both (Drop why) os refl (as_lac os are)
  as_lac (Cause cause ∷ os) are = both (Cause cause) os refl (as_lac os are)
