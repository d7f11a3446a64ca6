-- What holds of queries holds after every run.
use Rattle.std.proofs.Common.{◌≡◌, ◌≢◌, ℕ, Bool, true, false, List, [], ◌∷◌, refl, sym, subst, arith}
use Rattle.epoch_machine.specs.Letters.{Letter, Request, Reply, Cdn}
use Rattle.epoch_machine.specs.Tunnels.{Tunnels, Gone, Open, Closed, confirms, is_confirmed}
use Rattle.epoch_machine.specs.Channels.{Stands}
use Rattle.epoch_machine.specs.Calls.{CallState, Waits, lives, waits, replies, resets, of_tunnel, is_call, is_named, unfinished}
use Rattle.epoch_machine.specs.Worlds.{World, Rules, gives, took_one}
use Rattle.epoch_machine.specs.Moves.{ends_call, ends_told, resets_attempting, resets_answering}
use Rattle.epoch_machine.proofs.Did.{Takes}
use Rattle.epoch_laws.proofs.Growth.{TunnelsGrow}
use Rattle.birth_laws.proofs.Runs.{Sound}
use Rattle.coverage_laws.specs.Coverage.{StatesHold, QueriesHold}
use Rattle.epoch_machine.specs.Worlds.{all_rules, empty_world}
use Rattle.epoch_machine.specs.Moves.{Move, step, goes_on}
use Rattle.epoch_machine.proofs.Did.{Did, idle, did_open, did_accept, did_refuse, did_take_refusal, did_take, did_take_stop, did_connect, did_confirm, did_reply, did_decline, did_first_up, did_second_up, did_hear, did_answer, did_learn, did_hello, did_close, did_clear, did_add, did_ask, did_end_told, did_end_silent, did_query, did_freeze, did_reset_attempting, did_reset_answering, did_restore, did_stop, did_start, step_did}
use Rattle.epoch_laws.proofs.Growth.{did_grow}
use Rattle.birth_laws.proofs.Growing.{ends_grow, comes_back_grow, is_born_grow, is_asked_for_grow, replies_grow, is_first_up_grow, is_second_up_grow, resets_grow}
use Rattle.birth_laws.proofs.Runs.{sound_step, sound_empty}
use Rattle.coverage_laws.proofs.Resets.{Resets}
use Rattle.coverage_laws.proofs.States.{did_states, confirms_resets, is_confirmed_resets}
use Rattle.coverage_laws.proofs.Openings.{nameless, opens_queries, accepts_queries, refuses_queries, leaves_queries, closes_queries, connects_queries, confirms_queries, hello_queries, starts_queries}
use Rattle.coverage_laws.proofs.Ends.{ignores_queries, hears_queries}
use Rattle.coverage_laws.proofs.Answers.{answers_queries, query_queries, learns_queries}
use Rattle.coverage_laws.proofs.Makings.{declines_queries, second_queries, first_queries, adds_queries, asks_queries, told_queries, silent_queries}
use Rattle.coverage_laws.proofs.Recoveries.{freezes_queries, reset_queries, restores_queries}
use Rattle.coverage_laws.proofs.Replies.{replies_queries}
use Rattle.coverage_laws.proofs.Stops.{stops_queries}

-- the rules that coverage rests on
pub record Kept (r : Rules) : Type 0 where
  pub reads : r.reads_epochs ≡ true
  pub truly : r.answers_truly ≡ true
  pub asks : r.asks_after_resets ≡ true
  pub tells : r.tells_ends ≡ true
  pub freezes : r.ends_at_freezes ≡ true

told_world : (r : Rules) (w : World) (z : ℕ) → r.tells_ends ≡ true → ends_told r w z ≡ gives (ends_call w z) (w.calls.tunnel z) (Cdn z (w.calls.remote z))
unfolding ends_told
told_world r w z rule = rw rule refl

told_inner : (r : Rules) (w : World) (z : ℕ) → Kept r → Sound w → StatesHold w.tunnels w.calls → QueriesHold w.tunnels w.channels w.calls → Sound (gives (ends_call w z) (w.calls.tunnel z) (Cdn z (w.calls.remote z))) → w.tunnels.phase (w.calls.tunnel z) ≡ Open → lives (w.calls.state z) ≡ true → (w.calls.state z ≡ Waits → ⊥) → QueriesHold (gives (ends_call w z) (w.calls.tunnel z) (Cdn z (w.calls.remote z))).tunnels (gives (ends_call w z) (w.calls.tunnel z) (Cdn z (w.calls.remote z))).channels (gives (ends_call w z) (w.calls.tunnel z) (Cdn z (w.calls.remote z))).calls
unfolding gives ends_call
told_inner r w z kept s st qh sound p alive asked = told_queries r w kept.reads s st qh z p alive asked (ends_grow w.tunnels w.calls (is_call z) s.calls) (nameless _ sound)

reply_step : (r : Rules) (w : World) → Kept r → Sound w → StatesHold w.tunnels w.calls → QueriesHold w.tunnels w.channels w.calls → (x a f j own z : ℕ) → Takes r w x a f j (Request own) → w.tunnels.phase x ≡ Open → w.calls.drawn z ≡ false → z ≢ 0 → Sound (gives (record w { channels = (took_one w x).channels; calls = replies w.calls x (w.tunnels.entered x) z own }) x (Reply z own)) → QueriesHold (gives (record w { channels = (took_one w x).channels; calls = replies w.calls x (w.tunnels.entered x) z own }) x (Reply z own)).tunnels (gives (record w { channels = (took_one w x).channels; calls = replies w.calls x (w.tunnels.entered x) z own }) x (Reply z own)).channels (gives (record w { channels = (took_one w x).channels; calls = replies w.calls x (w.tunnels.entered x) z own }) x (Reply z own)).calls
unfolding gives took_one
reply_step r w kept s st qh x a f j own z t p new name sv = replies_queries r w kept.reads s st qh x a f j own z t p new name (replies_grow w.tunnels w.calls x (w.tunnels.entered x) z own s.calls new) (nameless _ sv)

told_step : (r : Rules) (w : World) (z : ℕ) → Kept r → Sound w → StatesHold w.tunnels w.calls → QueriesHold w.tunnels w.channels w.calls → Sound (ends_told r w z) → w.tunnels.phase (w.calls.tunnel z) ≡ Open → lives (w.calls.state z) ≡ true → (w.calls.state z ≡ Waits → ⊥) → QueriesHold (ends_told r w z).tunnels (ends_told r w z).channels (ends_told r w z).calls
told_step r w z kept s st qh sv p alive asked = subst (λ (v : World). QueriesHold v.tunnels v.channels v.calls) (sym (told_world r w z kept.tells)) (inner (subst (λ (v : World). Sound v) (told_world r w z kept.tells) sv))
  where
    inner : Sound (gives (ends_call w z) (w.calls.tunnel z) (Cdn z (w.calls.remote z))) → QueriesHold (gives (ends_call w z) (w.calls.tunnel z) (Cdn z (w.calls.remote z))).tunnels (gives (ends_call w z) (w.calls.tunnel z) (Cdn z (w.calls.remote z))).channels (gives (ends_call w z) (w.calls.tunnel z) (Cdn z (w.calls.remote z))).calls
    inner sound = told_inner r w z kept s st qh sound p alive asked

waits_false : (q : CallState) → waits q ≡ false → q ≡ Waits → ⊥
waits_false Waits h e = cc
waits_false q h e = cc

gone_open : Gone ≡ Open → ⊥
gone_open h = cc

closed_open : Closed ≡ Open → ⊥
closed_open h = cc

reset_by : (r : Rules) (w : World) (x e : ℕ) (u : Tunnels) → Kept r → Sound w → StatesHold w.tunnels w.calls → QueriesHold w.tunnels w.channels w.calls → Resets w.tunnels u x e → TunnelsGrow w.tunnels u → ((f j : ℕ) (m : Letter) → Stands w.channels 0 f j m → ⊥) → QueriesHold u w.channels (resets r.asks_after_resets w.calls x e)
reset_by r w x e u kept s st qh rs tg zero_gives = subst (λ (b : Bool). QueriesHold u w.channels (resets b w.calls x e)) (sym kept.asks) (reset_queries r w kept.reads s st qh u x e rs tg (resets_grow w.tunnels w.calls true x e s.calls rs.above) zero_gives)

did_queries : (r : Rules) (w v : World) → Kept r → Did r w v → Sound w → StatesHold w.tunnels w.calls → QueriesHold w.tunnels w.channels w.calls → TunnelsGrow w.tunnels v.tunnels → Sound v → QueriesHold v.tunnels v.channels v.calls
unfolding resets_attempting resets_answering
did_queries r w v k idle s st qh g sv = qh
did_queries r w v k (did_open n m x new) s st qh g sv = opens_queries r w k.reads s st qh n m x g sv
did_queries r w v k (did_accept a x d o new) s st qh g sv = accepts_queries r w k.reads s st qh a x o new.undrawn g sv
did_queries r w v k (did_refuse a o) s st qh g sv = refuses_queries r w k.reads s st qh a sv
did_queries r w v k (did_take_refusal x p t) s st qh g sv = leaves_queries r w k.reads s st qh x Closed closed_open (ends_grow w.tunnels w.calls (of_tunnel w.calls x) s.calls) g sv
did_queries r w v k (did_take x a f j l t i) s st qh g sv = ignores_queries r w k.reads s st qh x a f j l t i sv
did_queries r w v k (did_take_stop x a f j t) s st qh g sv = leaves_queries r w k.reads s st qh x Closed closed_open (ends_grow w.tunnels w.calls (of_tunnel w.calls x) s.calls) g sv
did_queries r w v k (did_connect x a f j t p l) s st qh g sv = connects_queries r w k.reads s st qh x a f j t p l g sv
did_queries r w v k (did_confirm x a f j t p l) s st qh g sv = confirms_queries r w k.reads s st qh x a f j t p g sv
did_queries r w v k (did_reply x a f j own z t p l new) s st qh g sv = reply_step r w k s st qh x a f j own z t p new.undrawn new.name sv
did_queries r w v k (did_decline x a f j own t p l) s st qh g sv = declines_queries r w k.reads s st qh x a f j own t p sv
did_queries r w v k (did_first_up x a f j own z t p l b d) s st qh g sv = first_queries r w k.reads s st qh x a f j own z t p b (is_first_up_grow w.tunnels w.calls z own s.calls d) sv
did_queries r w v k (did_second_up x a f j z t p l b d) s st qh g sv = second_queries r w k.reads s st qh x a f j z t p d (is_second_up_grow w.tunnels w.calls z s.calls) sv
did_queries r w v k (did_hear x a f j own y t p l) s st qh g sv = hears_queries r w k.reads s st qh x a f j own y t p (ends_grow w.tunnels w.calls (is_named w.calls x own y) s.calls) sv
did_queries r w v k (did_answer x a f j own y t p l) s st qh g sv = answers_queries r w k.reads s st qh x a f j own y k.truly t p sv
did_queries r w v k (did_learn x a f j own y here t p l) s st qh g sv = learns_queries r w k.reads s st qh x a f j own y here t p sv
did_queries r w v k (did_hello x p) s st qh g sv = hello_queries r w k.reads s st qh x sv
did_queries r w v k (did_close x a) s st qh g sv = closes_queries r w k.reads s st qh x (ends_grow w.tunnels w.calls (of_tunnel w.calls x) s.calls) g sv
did_queries r w v k (did_clear x) s st qh g sv = leaves_queries r w k.reads s st qh x Gone gone_open (ends_grow w.tunnels w.calls (of_tunnel w.calls x) s.calls) g sv
did_queries r w v k (did_add x z p new) s st qh g sv = adds_queries r w k.reads s st qh x z new.undrawn (is_born_grow w.tunnels w.calls x z s.calls new.undrawn) sv
did_queries r w v k (did_ask z p a) s st qh g sv = asks_queries r w k.reads s st qh z a (is_asked_for_grow w.tunnels w.calls z (w.tunnels.entered (w.calls.tunnel z)) s.calls a) sv
did_queries r w v k (did_end_told z p a b) s st qh g sv = told_step r w z k s st qh sv p a (waits_false (w.calls.state z) b)
did_queries r w v k (did_end_silent z a b) s st qh g sv = silent_queries r w k.reads s st qh z b (ends_grow w.tunnels w.calls (is_call z) s.calls) sv
did_queries r w v k (did_query x z p a) s st qh g sv = query_queries r w k.reads s st qh x z sv
did_queries r w v k (did_freeze x a c own theirs p n l f new) s st qh g sv = freezes_queries r w k.reads s st qh x a c own theirs k.freezes (ends_grow w.tunnels w.calls (unfinished w.calls x) s.calls) g sv
did_queries r w v k (did_reset_attempting x c p n) s st qh g sv = reset_by r w x (w.tunnels.makes c) (confirms w.tunnels x c) k s st qh (confirms_resets w.tunnels x c s.epochs p n) g (nameless w s)
did_queries r w v k (did_reset_answering x c p n) s st qh g sv = reset_by r w x (w.tunnels.makes c) (is_confirmed w.tunnels x c) k s st qh (is_confirmed_resets w.tunnels x c s.epochs p) g (nameless w s)
did_queries r w v k (did_restore x a b p new) s st qh g sv = restores_queries r w k.reads s st qh x a (comes_back_grow w.tunnels w.calls x s.calls) g sv
did_queries r w v k (did_stop n ks) s st qh g sv = stops_queries w n ks s st qh g
did_queries r w v k (did_start n) s st qh g sv = starts_queries r w k.reads s st qh n g sv

-- all that holds
pub record Whole (w : World) : Type 0 where
  pub sound : Sound w
  pub states : StatesHold w.tunnels w.calls
  pub queries : QueriesHold w.tunnels w.channels w.calls

pub whole_step : (r : Rules) (w : World) (m : Move) → Kept r → Whole w → Whole (step r w m)
whole_step r w m k h =
    let sv = sound_step r w m k.reads h.sound in
    record {
      sound = sv;
      states = did_states r w (step r w m) k.reads k.freezes (step_did r w m) h.sound h.states;
      queries = did_queries r w (step r w m) k (step_did r w m) h.sound h.states h.queries (did_grow r w (step r w m) (step_did r w m) h.sound.epochs) sv;
    }

whole_empty : Whole empty_world
whole_empty = record {
  sound = sound_empty;
  states = record {
    state_fits = λ z. refl;
    young = grind arith;
    up_lived = λ z p up. absurd cc;
    made_entered = λ z m h. absurd cc;
    unmade = grind arith;
    held_older = grind arith;
    booked_lives = grind arith;
    up_first = grind arith;
  };
  queries = record {
    within = λ x e n. absurd (n refl);
    request_first = λ x e i j z header h g. absurd cc;
    no_header = λ x e k own h n. absurd cc;
    made_before = λ x e k own header h n. absurd cc;
    not_here = λ x e k own header h. absurd cc;
    here = λ x e k own header h. absurd cc;
    cdn_taken = λ x e k own header z h. absurd cc;
    denial_taken = λ x e k own z h. absurd cc;
    connect_taken = λ x e k z h. absurd cc;
    connected = λ z p. absurd cc;
    asked = λ x z p. absurd cc;
    no_silent_end = λ z p. absurd cc;
  };
}

pub whole_run : (r : Rules) (ms : List Move) (w : World) → Kept r → Whole w → Whole (goes_on r w ms)
unfolding goes_on
whole_run r [] w k h = h
whole_run r (m ∷ ms) w k h = whole_run r ms (step r w m) k (whole_step r w m k h)

pub whole_after : (ms : List Move) → Whole (goes_on all_rules empty_world ms)
whole_after ms = whole_run all_rules ms empty_world record { reads = refl; truly = refl; asks = refl; tells = refl; freezes = refl } whole_empty
