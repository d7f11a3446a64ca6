-- Lists of moves by which a tunnel of the machine asks, and takes questions and answers: they are of the tunnel's node, none is an outage,
-- and none takes a letter by which a tunnel or a call comes up.
use Rattle.std.proofs.Common.{◌≡◌, ℕ, suc, ◌+◌, Bool, true, false, arith, List, [], ◌∷◌, map, refl, ap, ◌∙◌, Option, Some, None, ne_eqb}
use Rattle.std.specs.Prelude.{slice_get, if◌then◌else◌, ◌==◌, ◌&&◌, not}
use Rattle.std.specs.List.{AllByRecursion}
use Rattle.end_model.specs.declared.event.Event.{Event}
use Rattle.epoch_machine.specs.Names.{assign, is_new, is_name}
use Rattle.epoch_machine.specs.Letters.{Letter, Sccrq, Sccrp, Scccn, StopCcn, Hello, Request, Reply, Connect, Cdn, Fsq, Fsr}
use Rattle.epoch_machine.specs.Tunnels.{Tunnels, is_open, is_wait_reply, is_wait_connect, established_with, established, left}
use Rattle.epoch_machine.specs.Channels.{puts, counts}
use Rattle.epoch_machine.specs.Calls.{stands_with, waits_reply, waits_connect}
use Rattle.epoch_machine.specs.Worlds.{World, all_rules, gives, took_one, leaves, connects, is_connected, takes, takes_open, answers_request, takes_reply, takes_connect, takes_cdn, answers_query, takes_answer}
use Rattle.epoch_machine.specs.Moves.{Queries, Delivers, may_query, queries, may_take, delivers, step}
use Rattle.stop_laws.specs.Records.{node_of}
use Rattle.recovery_laws.specs.Asking.{Asked, asking, Told, delivered, StandFrom}
use Rattle.join_laws.specs.Hearing.{stage, AreHeard}
use Rattle.join_laws.specs.Steps.{AreOf}
use Rattle.join_laws.proofs.CallMoves.{delivers_node}
use Rattle.join_laws.proofs.Hearing.{heard_none}

-- ---- asking

query_tunnels : (w : World) (x z : ℕ) → (step all_rules w (Queries x z)).tunnels ≡ w.tunnels
unfolding step queries gives
query_tunnels w x z = by (may_query w x z)
  where
    by : (b : Bool) → (if b then queries w x z else w).tunnels ≡ w.tunnels
    by true = refl
    by false = refl

query_node : (w : World) (x z : ℕ) → node_of w (Queries x z) ≡ w.tunnels.node x
unfolding node_of
query_node w x z = refl

pub asking_own : (n : ℕ) (w : World) (x : ℕ) (qs : List Asked) → w.tunnels.node x ≡ n → AreOf n w (asking x qs)
asking_own n w x [] own = tt
asking_own n w x (q ∷ qs) own = (
  query_node w x q.own ∙ own,
  refl,
  asking_own n (step all_rules w (Queries x q.own)) x qs (ap (λ (t : Tunnels). t.node x) (query_tunnels w x q.own) ∙ own),
)

pub asking_heard : (ev : Event) (w : World) (x : ℕ) (qs : List Asked) → AreHeard ev w (asking x qs)
asking_heard ev w x [] = tt
asking_heard ev w x (q ∷ qs) = (tt, asking_heard ev (step all_rules w (Queries x q.own)) x qs)

-- ---- taking

-- no letter changes whose tunnels are
one_of : (b : Bool) (u v w : World) → u.tunnels.node ≡ w.tunnels.node → v.tunnels.node ≡ w.tunnels.node → (if b then u else v).tunnels.node
    ≡ w.tunnels.node
one_of true u v w p q = p
one_of false u v w p q = q

open_node : (w : World) (x : ℕ) (l : Letter) (z : ℕ) → (takes_open all_rules w x l z).tunnels.node ≡ w.tunnels.node
unfolding takes_open answers_request takes_reply takes_connect takes_cdn answers_query takes_answer gives
open_node w x (Request own) z = one_of (is_new w.calls.drawn z) _ _ w refl (one_of (is_name z) _ w w refl refl)
open_node w x (Reply own y) z = one_of ((w.calls.tunnel y == x) && waits_reply (w.calls.state y)) _ w w refl refl
open_node w x (Connect y) z = one_of ((w.calls.tunnel y == x) && waits_connect (w.calls.state y)) _ w w refl refl
open_node w x (Cdn own y) z = refl
open_node w x (Fsq own y) z = refl
open_node w x (Fsr own y here) z = one_of (not here && stands_with w.calls x y own) _ _ w refl refl
open_node w x Sccrq z = refl
open_node w x Sccrp z = refl
open_node w x Scccn z = refl
open_node w x StopCcn z = refl
open_node w x Hello z = refl

takes_node : (w : World) (x s : ℕ) (l : Letter) (z : ℕ) → (takes all_rules w x s l z).tunnels.node ≡ w.tunnels.node
unfolding takes connects established_with gives is_connected established
takes_node w x s Sccrp z = one_of (is_wait_reply (w.tunnels.phase x)) _ w w refl refl
takes_node w x s Scccn z = one_of (is_wait_connect (w.tunnels.phase x)) _ w w refl refl
takes_node w x s (Request own) z = one_of (is_open (w.tunnels.phase x)) _ w w (open_node w x (Request own) z) refl
takes_node w x s (Reply own y) z = one_of (is_open (w.tunnels.phase x)) _ w w (open_node w x (Reply own y) z) refl
takes_node w x s (Connect y) z = one_of (is_open (w.tunnels.phase x)) _ w w (open_node w x (Connect y) z) refl
takes_node w x s (Cdn own y) z = one_of (is_open (w.tunnels.phase x)) _ w w (open_node w x (Cdn own y) z) refl
takes_node w x s (Fsq own y) z = one_of (is_open (w.tunnels.phase x)) _ w w (open_node w x (Fsq own y) z) refl
takes_node w x s (Fsr own y here) z = one_of (is_open (w.tunnels.phase x)) _ w w (open_node w x (Fsr own y here) z) refl
takes_node w x s Sccrq z = one_of (is_open (w.tunnels.phase x)) _ w w (open_node w x Sccrq z) refl
takes_node w x s StopCcn z = one_of (is_open (w.tunnels.phase x)) _ w w (open_node w x StopCcn z) refl
takes_node w x s Hello z = one_of (is_open (w.tunnels.phase x)) _ w w (open_node w x Hello z) refl

-- of a letter that isn't a StopCCN
plain_node : (w : World) (x s e k : ℕ) (l : Letter)
    → (if may_take all_rules w x s e k l then takes all_rules (took_one w x) x s l 0 else w).tunnels.node ≡ w.tunnels.node
unfolding took_one
plain_node w x s e k l = one_of (may_take all_rules w x s e k l) _ w w (takes_node (took_one w x) x s l 0) refl

delivers_same : (w : World) (x s e k : ℕ) (o : Option Letter) → (delivers all_rules w x s e k 0 o).tunnels.node ≡ w.tunnels.node
unfolding delivers leaves left
delivers_same w x s e k None = refl
delivers_same w x s e k (Some StopCcn) = one_of (may_take all_rules w x s e k StopCcn) _ w w refl refl
delivers_same w x s e k (Some Sccrq) = plain_node w x s e k Sccrq
delivers_same w x s e k (Some Sccrp) = plain_node w x s e k Sccrp
delivers_same w x s e k (Some Scccn) = plain_node w x s e k Scccn
delivers_same w x s e k (Some Hello) = plain_node w x s e k Hello
delivers_same w x s e k (Some (Request own)) = plain_node w x s e k (Request own)
delivers_same w x s e k (Some (Reply own y)) = plain_node w x s e k (Reply own y)
delivers_same w x s e k (Some (Connect y)) = plain_node w x s e k (Connect y)
delivers_same w x s e k (Some (Cdn own y)) = plain_node w x s e k (Cdn own y)
delivers_same w x s e k (Some (Fsq own y)) = plain_node w x s e k (Fsq own y)
delivers_same w x s e k (Some (Fsr own y here)) = plain_node w x s e k (Fsr own y here)

step_same : (w : World) (x s e k : ℕ) → (step all_rules w (Delivers x s e k 0)).tunnels.node ≡ w.tunnels.node
unfolding step
step_same w x s e k = delivers_same w x s e k (slice_get (w.channels.sent s e) k)

pub delivered_own : (n : ℕ) (w : World) (x s e place : ℕ) (ls : List Letter) → w.tunnels.node x ≡ n → AreOf n w (delivered x s e place ls)
delivered_own n w x s e place [] own = tt
delivered_own n w x s e place (l ∷ ls) own = (
  delivers_node w x s e place 0 ∙ own,
  refl,
  delivered_own n (step all_rules w (Delivers x s e place 0)) x s e (suc place) ls (ap (λ f. f x) (step_same w x s e place) ∙ own),
)

-- ---- what stands

pub stand_from : (w : World) (s e place : ℕ) (ls : List Letter)
    → ((r : ℕ) (y : Letter) → slice_get ls r ≡ Some y → slice_get (w.channels.sent s e) (place + r) ≡ Some y) → StandFrom w s e place ls
stand_from w s e place [] each = tt
stand_from w s e place (l ∷ ls) each = (
  ap (λ k. slice_get (w.channels.sent s e) k) (omega arith) ∙ each 0 l refl,
  stand_from w s e (suc place) ls (λ r y is. ap (λ k. slice_get (w.channels.sent s e) k) (omega arith) ∙ each (suc r) y is),
)

-- ---- what is heard

-- a question or an answer
abbrev pub IsOfSessions : Letter → Type 0
IsOfSessions (Fsq own y) = Unit {0}
IsOfSessions (Fsr own y here) = Unit {0}
IsOfSessions l = ⊥

pub all_questions : (qs : List Asked) → AllByRecursion IsOfSessions (map (λ (q : Asked). Fsq q.own q.other) qs)
all_questions [] = tt
all_questions (q ∷ qs) = (tt, all_questions qs)

pub all_answers : (told : List Told) → AllByRecursion IsOfSessions (map (λ (a : Told). Fsr a.own a.call a.here) told)
all_answers [] = tt
all_answers (a ∷ told) = (tt, all_answers told)

no_stage : (l : Letter) → IsOfSessions l → stage l ≡ 0
no_stage (Fsq own y) is = refl
no_stage (Fsr own y here) is = refl
no_stage l is = absurd is

-- a tunnel that takes one gives none but its own
other_list : (sent : ℕ → ℕ → List Letter) (x s f : ℕ) (given : ℕ → List Letter) → (s ≡ x → ⊥) → assign sent x given s f ≡ sent s f
other_list sent x s f given apart = ap (λ b. (if b then given else sent s) f) (ne_eqb s x apart)

sent_of : (b : Bool) (u v w : World) (s f : ℕ) → u.channels.sent s f ≡ w.channels.sent s f → v.channels.sent s f ≡ w.channels.sent s f
    → (if b then u else v).channels.sent s f ≡ w.channels.sent s f
sent_of true u v w s f p q = p
sent_of false u v w s f p q = q

taken_sent : (w : World) (x s e k f : ℕ) (l : Letter) → IsOfSessions l → (s ≡ x → ⊥)
    → (delivers all_rules w x s e k 0 (Some l)).channels.sent s f ≡ w.channels.sent s f
unfolding delivers takes takes_open answers_query takes_answer gives puts took_one counts
taken_sent w x s e k f (Fsq own y) is apart =
    sent_of (may_take all_rules w x s e k (Fsq own y)) _ w w s f
    (sent_of (is_open (w.tunnels.phase x)) _ (took_one w x) w s f (other_list w.channels.sent x s f _ apart) refl) refl
taken_sent w x s e k f (Fsr own y here) is apart =
    sent_of (may_take all_rules w x s e k (Fsr own y here)) _ w w s f
    (sent_of (is_open (w.tunnels.phase x)) _ (took_one w x) w s f
    (sent_of (not here && stands_with w.calls x y own) _ _ w s f refl refl) refl) refl
taken_sent w x s e k f l is apart = absurd is

step_sent : (w : World) (x s e k f : ℕ) (l : Letter) → IsOfSessions l → (s ≡ x → ⊥) → slice_get (w.channels.sent s e) k ≡ Some l
    → (step all_rules w (Delivers x s e k 0)).channels.sent s f ≡ w.channels.sent s f
unfolding step
step_sent w x s e k f l is apart there =
    ap (λ o. (delivers all_rules w x s e k 0 o).channels.sent s f) there ∙ taken_sent w x s e k f l is apart

stand_on : (w u : World) (s e place : ℕ) (ls : List Letter) → u.channels.sent s e ≡ w.channels.sent s e → StandFrom w s e place ls
    → StandFrom u s e place ls
stand_on w u s e place [] same stand = tt
stand_on w u s e place (l ∷ ls) same stand = (
  ap (λ ms. slice_get ms place) same ∙ stand.0,
  stand_on w u s e (suc place) ls same stand.1,
)

-- another tunnel's questions and answers, as they stand
pub delivered_heard : (ev : Event) (w : World) (x s e place : ℕ) (ls : List Letter) → (s ≡ x → ⊥) → AllByRecursion IsOfSessions ls
    → StandFrom w s e place ls → AreHeard ev w (delivered x s e place ls)
delivered_heard ev w x s e place [] apart all stand = tt
delivered_heard ev w x s e place (l ∷ ls) apart all stand = (
  heard_none ev w x s e place 0 l stand.0 (no_stage l all.0),
  delivered_heard ev (step all_rules w (Delivers x s e place 0)) x s e (suc place) ls apart all.1
      (stand_on w (step all_rules w (Delivers x s e place 0)) s e (suc place) ls (step_sent w x s e place e l all.0 apart stand.0) stand.1),
)
