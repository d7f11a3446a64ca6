-- What goes out of one answer.
use Rattle.std.proofs.Common.{◌≡◌, ℕ, inl, inr, Bool, true, false, List, [], ◌∷◌, Result, Ok, Err, OnOk, OnErr, refl, subst}
use Rattle.std.specs.Prelude.{⊤, Option}
use Rattle.std.specs.Result.{IsErr}
use Rattle.wire_base.specs.declared.letter.Side.TheVariants.{Sub, Net, Lcp}
use Rattle.data_plane.specs.declared.carry.Carry.TheVariants.{Up, Dropped}
use Rattle.session_cells.specs.declared.entry.Entry.{Entry}
use Rattle.session_workers.specs.declared.finished.Done.{Done}
use Rattle.session_workers.specs.declared.finished.Done.TheVariants.{Carried, Turned, Failed}
use Rattle.node_run.specs.Outs.{to_host}
use Rattle.step_hub.specs.declared.stop.StepError.{StepError}
use Rattle.port_events.specs.declared.end.Out.{Out as Going}
use Rattle.port_events.specs.declared.giving.TurnFault.{TurnFault}
use Rattle.port_events.specs.declared.giving.TurnFault.TheVariants.{LinkFault, EtherFault, UplinkFault, NoMemory, Stopped}
use Rattle.held_ports.specs.Around.{Around, Gives}
use Rattle.pool_turns.specs.Turns.{Draws}
use Rattle.pool_turns.proofs.Drawing.{goes_none, gives_draws}
use Rattle.pool_giving.specs.Hosts.{Hosted}
use Rattle.pool_serving.specs.Faults.{has_stopped, OnCalm}
use Rattle.pool_serving.specs.Handing.{host_of, GivesOr, HandsUp, HandsOn}

gives_none : (a : Around) → Gives [] a a
gives_none a = record { goes = goes_none a.given; rest = refl }

pub calm_any : {A : Type 0} (r : Result ⊤ (TurnFault StepError)) → A → OnCalm r A
calm_any (Ok x) h = h
calm_any (Err LinkFault) h = tt
calm_any (Err EtherFault) h = tt
calm_any (Err UplinkFault) h = tt
calm_any (Err NoMemory) h = h
calm_any (Err (Stopped e)) h = h

-- what went out, or nothing
pub grows_by : (r : Result ⊤ (TurnFault StepError)) (outs : List Going) (a b : Around) → OnOk r (Gives outs a b) → OnErr r (Gives [] a b) → Draws 0 a b
grows_by (Ok x) outs a b h k = gives_draws outs a b h
grows_by (Err e) outs a b h k = gives_draws [] a b k

-- of an LCP packet that wasn't heard nothing goes out
pub nothing_heard : (stopped : Bool) (h : Hosted) (log : List Entry) (session : ℕ) (packet : List ℕ) (a : Around) → HandsUp stopped h log session Lcp packet a a
nothing_heard stopped h log session packet a = ([], gives_none a)

false_true : false ≡ true → ⊥
false_true e = cc

-- nothing went out, of a pool that stops
pub gives_nothing : (r : Result ⊤ (TurnFault StepError)) (outs : List Going) (a : Around) → IsErr r → OnCalm r (GivesOr (has_stopped r) outs a a)
gives_nothing (Ok x) outs a is = absurd (false_true is)
gives_nothing (Err e) outs a is = calm_any (Err e) (inr (gives_none a))

-- this went out, or nothing, and then the pool stops
pub gives_or : (r : Result ⊤ (TurnFault StepError)) (outs : List Going) (a b : Around) → OnOk r (Gives outs a b) → OnErr r (Gives [] a b)
    → OnCalm r (GivesOr (has_stopped r) outs a b)
gives_or (Ok x) outs a b h k = h
gives_or (Err e) outs a b h k = calm_any (Err e) (inr k)

-- a frame went to the host that its call has
pub to_its_host : (r : Result ⊤ (TurnFault StepError)) (h : Hosted) (log : List Entry) (session : ℕ) (frame : List ℕ) (host : Option (List ℕ)) (a b : Around)
    → host ≡ host_of h log session → OnOk r (Gives (to_host h.number session frame host ∷ []) a b) → OnErr r (Gives [] a b)
    → OnCalm r (HandsUp (has_stopped r) h log session Sub frame a b)
to_its_host r h log session frame host a b is ok err =
    subst (λ k. OnCalm r (GivesOr (has_stopped r) (to_host h.number session frame k ∷ []) a b)) is (gives_or r (to_host h.number session frame host ∷ []) a b ok err)

-- what went out where nothing stopped the pool may have gone out where something did
pub hands_more : (h : Hosted) (log : List Entry) (bytes : List ℕ) (done : Done) (a b : Around) → HandsOn false h log bytes done a b → HandsOn true h log bytes done a b
hands_more h log bytes (Carried (Up session Net start stop)) a b x = x
hands_more h log bytes (Carried (Up session Sub start stop)) a b x = inl x
hands_more h log bytes (Carried (Up session Lcp start stop)) a b x = x
hands_more h log bytes (Carried (Dropped why)) a b x = x
hands_more h log bytes (Turned t) a b x = x
hands_more h log bytes (Failed error) a b x = x
