-- What was served, and what is given back afterwards.
use Rattle.std.proofs.Common.{◌≡◌, ℕ, Bool, true, false, List, [], ◌++◌, Result, Ok, Err, OnOk, OnErr, is_some, refl, sym, ap, subst, ◌∙◌, arith}
use Rattle.std.specs.Prelude.{⊤, Option, Some, None}
use Rattle.step_hub.specs.declared.stop.StepError.{StepError}
use Rattle.port_events.specs.declared.giving.TurnFault.{TurnFault}
use Rattle.port_events.specs.declared.giving.TurnFault.TheVariants.{LinkFault, EtherFault, UplinkFault, NoMemory, Stopped}
use Rattle.port_events.specs.Giving.{Blames}
use Rattle.held_ports.specs.Around.{Around, PortCounts}
use Rattle.pool_turns.specs.Turns.{Put, Draws, BreaksOff, RanTo}
use Rattle.pool_turns.proofs.Following.{gives_more, is_one_of, breaks_then}
use Rattle.pool_serving.specs.declared.serving.PoolServing.{PoolServing}
use Rattle.pool_serving.specs.Faults.{is_of_port, is_cut_off, then_fault, fault_then, told_by, has_stopped, OnCalm, AreBlamed}
use Rattle.pool_giving.specs.Hosts.{KeepsTold}
use Rattle.worker_pool.specs.declared.pass.PoolPass.{PoolPass}
use Rattle.pool_serving.specs.Handing.{InStep, puts_in}
use Rattle.pool_serving.specs.Serving.{PoolServes, ServesPutting}
use Rattle.pool_serving.proofs.Passes.{told_then, puts_count, same_counts}
use Rattle.pool_serving.proofs.Turns.{HasServed, HasBroken}

-- ---- counts

-- no port failed
abbrev pub NotPort : Option (TurnFault StepError) → Type 0
NotPort None = ⊤
NotPort (Some f) = is_of_port f ≡ false

true_false : true ≡ false → ⊥
true_false e = cc

abbrev pub Calm : PortCounts → PortCounts → Type 0
Calm old new = (new.link ≡ old.link) × (new.ether ≡ old.ether) × (new.up ≡ old.up)

calm : (old new : PortCounts) (f : Option (TurnFault StepError)) → NotPort f → AreBlamed old new f → Calm old new
calm old new None n h = h
calm old new (Some NoMemory) n h = h
calm old new (Some (Stopped e)) n h = h
calm old new (Some LinkFault) n h = absurd (true_false n)
calm old new (Some EtherFault) n h = absurd (true_false n)
calm old new (Some UplinkFault) n h = absurd (true_false n)

-- of what stayed until then
from_there : (old mid new : PortCounts) (r : Result ⊤ (TurnFault StepError)) → Calm old mid
    → Blames mid.link new.link mid.ether new.ether mid.up new.up r → Blames old.link new.link old.ether new.ether old.up new.up r
from_there old mid new r c h =
    subst (λ k. Blames old.link new.link old.ether new.ether k new.up r) c.2
    (subst (λ k. Blames old.link new.link k new.ether mid.up new.up r) c.1
    (subst (λ k. Blames k new.link mid.ether new.ether mid.up new.up r) c.0 h))

-- nothing rose, whichever of two that are none of a port is told
pub blamed_then : (old mid new : PortCounts) (f : Option (TurnFault StepError)) (g : TurnFault StepError) → NotPort f
    → AreBlamed old mid f → AreBlamed mid new (Some g) → AreBlamed old new (Some (then_fault f g))
blamed_then old mid new None g n h k = from_there old mid new (Err g) (calm old mid None n h) k
blamed_then old mid new (Some NoMemory) LinkFault n h k = from_there old mid new (Err LinkFault) h k
blamed_then old mid new (Some NoMemory) EtherFault n h k = from_there old mid new (Err EtherFault) h k
blamed_then old mid new (Some NoMemory) UplinkFault n h k = from_there old mid new (Err UplinkFault) h k
blamed_then old mid new (Some NoMemory) NoMemory n h k = from_there old mid new (Err NoMemory) h k
blamed_then old mid new (Some NoMemory) (Stopped e) n h k = from_there old mid new (Err (Stopped e)) h k
blamed_then old mid new (Some (Stopped s)) LinkFault n h k = from_there old mid new (Err LinkFault) h k
blamed_then old mid new (Some (Stopped s)) EtherFault n h k = from_there old mid new (Err EtherFault) h k
blamed_then old mid new (Some (Stopped s)) UplinkFault n h k = from_there old mid new (Err UplinkFault) h k
blamed_then old mid new (Some (Stopped s)) NoMemory n h k = from_there old mid new (Err NoMemory) h k
blamed_then old mid new (Some (Stopped s)) (Stopped e) n h k = from_there old mid new (Err (Stopped e)) h k
blamed_then old mid new (Some LinkFault) g n h k = absurd (true_false n)
blamed_then old mid new (Some EtherFault) g n h k = absurd (true_false n)
blamed_then old mid new (Some UplinkFault) g n h k = absurd (true_false n)

pub not_port : (f : Option (TurnFault StepError)) → is_cut_off f ≡ false → NotPort f
not_port None e = tt
not_port (Some f) e = e

module _ (A : Bool → Type 0) (more : A false → A true) where
  -- what holds unless a port failed, of an earlier fault that is none of a port
  on_calm : (f : Option (TurnFault StepError)) → A false → OnCalm (told_by f) (A (has_stopped (told_by f)))
  on_calm None h = h
  on_calm (Some LinkFault) h = tt
  on_calm (Some EtherFault) h = tt
  on_calm (Some UplinkFault) h = tt
  on_calm (Some NoMemory) h = more h
  on_calm (Some (Stopped e)) h = more h

  pub calm_then : (f : Option (TurnFault StepError)) (r : Result ⊤ (TurnFault StepError)) → NotPort f → OnCalm r (A (has_stopped r))
      → OnCalm (told_by (fault_then f r)) (A (has_stopped (told_by (fault_then f r))))
  calm_then f (Ok x) n h = on_calm f h
  calm_then None (Err g) n h = h
  calm_then (Some NoMemory) (Err LinkFault) n h = tt
  calm_then (Some NoMemory) (Err EtherFault) n h = tt
  calm_then (Some NoMemory) (Err UplinkFault) n h = tt
  calm_then (Some NoMemory) (Err NoMemory) n h = h
  calm_then (Some NoMemory) (Err (Stopped e)) n h = h
  calm_then (Some (Stopped s)) (Err LinkFault) n h = tt
  calm_then (Some (Stopped s)) (Err EtherFault) n h = tt
  calm_then (Some (Stopped s)) (Err UplinkFault) n h = tt
  calm_then (Some (Stopped s)) (Err NoMemory) n h = h
  calm_then (Some (Stopped s)) (Err (Stopped e)) n h = h
  calm_then (Some LinkFault) (Err g) n h = absurd (true_false n)
  calm_then (Some EtherFault) (Err g) n h = absurd (true_false n)
  calm_then (Some UplinkFault) (Err g) n h = absurd (true_false n)

module _ (A : Type 0) where
  -- where a port had failed nothing is said
  pub calm_not : (f : Option (TurnFault StepError)) → is_cut_off f ≡ true → OnCalm (told_by f) A
  calm_not None e = absurd (true_false (sym e))
  calm_not (Some LinkFault) e = tt
  calm_not (Some EtherFault) e = tt
  calm_not (Some UplinkFault) e = tt
  calm_not (Some NoMemory) e = absurd (true_false (sym e))
  calm_not (Some (Stopped s)) e = absurd (true_false (sym e))

-- ---- how far it came

pub ran_on : (f : Option (TurnFault StepError)) (opens : Bool) (turns : ℕ) (ps : List Put) (old mid new : Around)
    → RanTo f opens turns ps old mid → Draws 0 mid new → RanTo f opens turns ps old new
ran_on None opens turns ps old mid new h d = gives_more opens turns ps old mid new h d
ran_on (Some f) opens turns ps old mid new h d = breaks_then opens turns ps old mid new h d

pub ran_short : (f : Option (TurnFault StepError)) (opens : Bool) (turns : ℕ) (ps : List Put) (old mid new : Around)
    → RanTo f opens turns ps old mid → Draws 0 mid new → BreaksOff opens turns ps old new
ran_short None opens turns ps old mid new h d = is_one_of opens turns ps old mid new h d
ran_short (Some f) opens turns ps old mid new h d = breaks_then opens turns ps old mid new h d

abbrev pub HasRanTo : Option (TurnFault StepError) → Bool → ℕ → PoolPass → PoolPass → Around → Around → Type 0
HasRanTo f opens turns p q a b = (ps : List Put) × RanTo f opens turns ps a b × (puts_in q ≡ puts_in p ++ ps)

ran_by : (f : Option (TurnFault StepError)) (opens : Bool) (turns : ℕ) (p q : PoolPass) (a b : Around)
    → OnOk (told_by f) (HasServed opens turns p q a b) → OnErr (told_by f) (HasBroken opens turns p q a b) → HasRanTo f opens turns p q a b
ran_by None opens turns p q a b ok err = ok
ran_by (Some f) opens turns p q a b ok err = err

-- ---- what is given back

module _ {P G : Type 0} (around : P → Around) (counts : P → PortCounts) where
  module _ (s a b : PoolServing P G) (h : PoolServes around counts s a) (ports : b.ports.ghost_name ≡ a.ports.ghost_name) (desk : b.desk.ghost_name ≡ a.desk.ghost_name) (turns : b.turns ≡ a.turns) (opens : b.opens ≡ a.opens)
      (told : KeepsTold a.desk.now.hosts b.desk.now.hosts) (puts : b.desk.now.puts ≡ a.desk.now.puts) (grows : Draws 0 (around a.ports.now) (around b.ports.now)) where
    -- nothing failed
    pub serves_on : b.fault ≡ a.fault → counts b.ports.now ≡ counts a.ports.now → PoolServes around counts s b
    serves_on same still = record {
      ports = ports ∙ h.ports;
      desk = desk ∙ h.desk;
      turns = turns ∙ h.turns;
      opens = opens ∙ h.opens;
      told = told_then s.desk.now.hosts a.desk.now.hosts b.desk.now.hosts h.told told;
      ps = h.ps;
      puts = puts ∙ h.puts;
      blames = λ n. subst (λ (k : PortCounts). AreBlamed (counts s.ports.now) k b.fault) (sym still) (subst (λ f. AreBlamed (counts s.ports.now) (counts a.ports.now) f) (sym same) (h.blames n));
      ran = λ n. subst (λ f. RanTo f s.opens s.turns h.ps (around s.ports.now) (around b.ports.now)) (sym same)
          (ran_on a.fault s.opens s.turns h.ps (around s.ports.now) (around a.ports.now) (around b.ports.now) (h.ran n) grows);
    }

    -- it stopped then, where no port had failed before
    pub serves_short : (g : TurnFault StepError) → NotPort a.fault → b.fault ≡ Some (then_fault a.fault g) → AreBlamed (counts a.ports.now) (counts b.ports.now) (Some g)
        → PoolServes around counts s b
    serves_short g calmly is blamed = record {
      ports = ports ∙ h.ports;
      desk = desk ∙ h.desk;
      turns = turns ∙ h.turns;
      opens = opens ∙ h.opens;
      told = told_then s.desk.now.hosts a.desk.now.hosts b.desk.now.hosts h.told told;
      ps = h.ps;
      puts = puts ∙ h.puts;
      blames = λ n. subst (λ f. AreBlamed (counts s.ports.now) (counts b.ports.now) f) (sym is) (blamed_then (counts s.ports.now) (counts a.ports.now) (counts b.ports.now) a.fault g calmly (h.blames n) blamed);
      ran = λ n. subst (λ f. RanTo f s.opens s.turns h.ps (around s.ports.now) (around b.ports.now)) (sym is)
          (ran_short a.fault s.opens s.turns h.ps (around s.ports.now) (around a.ports.now) (around b.ports.now) (h.ran n) grows);
    }

    -- whichever came of it
    pub serves_then : (r : Result ⊤ (TurnFault StepError)) → NotPort a.fault → b.fault ≡ fault_then a.fault r
        → Blames (counts a.ports.now).link (counts b.ports.now).link (counts a.ports.now).ether (counts b.ports.now).ether (counts a.ports.now).up (counts b.ports.now).up r
        → PoolServes around counts s b
    serves_then (Ok x) n is blamed = serves_on is (same_counts (counts a.ports.now) (counts b.ports.now) blamed)
    serves_then (Err g) n is blamed = serves_short g n is blamed

  -- where it had stopped nothing is done
  pub serves_none : (s : PoolServing P G) → is_some s.fault ≡ true → PoolServes around counts s s
  serves_none s some = record {
    ports = refl;
    desk = refl;
    turns = refl;
    opens = refl;
    told = λ session mac is. is;
    ps = [];
    puts = omega arith;
    blames = λ none. absurd (true_false (sym some ∙ ap is_some none));
    ran = λ none. absurd (true_false (sym some ∙ ap is_some none));
  }

  module _ (s b : PoolServing P G) (p q : PoolPass) (ports : b.ports.ghost_name ≡ s.ports.ghost_name) (desk : b.desk.ghost_name ≡ s.desk.ghost_name) (turns : b.turns ≡ s.turns) (opens : b.opens ≡ s.opens)
      (step : InStep s.desk.now b.desk.now p q) (r : Result ⊤ (TurnFault StepError)) (is : told_by b.fault ≡ r)
      (blamed : Blames (counts s.ports.now).link (counts b.ports.now).link (counts s.ports.now).ether (counts b.ports.now).ether (counts s.ports.now).up (counts b.ports.now).up r)
      (ok : OnOk r (HasServed s.opens s.turns p q (around s.ports.now) (around b.ports.now))) (err : OnErr r (HasBroken s.opens s.turns p q (around s.ports.now) (around b.ports.now))) where
    pub has_ran : HasRanTo b.fault s.opens s.turns p q (around s.ports.now) (around b.ports.now)
    has_ran = ran_by b.fault s.opens s.turns p q (around s.ports.now) (around b.ports.now)
        (subst (λ k. OnOk k (HasServed s.opens s.turns p q (around s.ports.now) (around b.ports.now))) (sym is) ok)
        (subst (λ k. OnErr k (HasBroken s.opens s.turns p q (around s.ports.now) (around b.ports.now))) (sym is) err)

    pub serves_all : PoolServes around counts s b
    serves_all = record {
      ports = ports;
      desk = desk;
      turns = turns;
      opens = opens;
      told = step.told;
      ps = has_ran.0;
      puts = let a = puts_count p q has_ran.0 has_ran.2 in let e = step.puts in omega arith;
      blames = λ none. subst (λ k. Blames (counts s.ports.now).link (counts b.ports.now).link (counts s.ports.now).ether (counts b.ports.now).ether (counts s.ports.now).up (counts b.ports.now).up k) (sym is) blamed;
      ran = λ none. has_ran.1;
    }

    pub puts_all : ServesPutting around counts s b p q
    puts_all = record { ps = has_ran.0; ran = has_ran.1; puts = has_ran.2 }
