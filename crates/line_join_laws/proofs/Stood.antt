-- The letter by which a tunnel or a call comes up in a step stood before the step.
use Rattle.std.proofs.Common.{◌≡◌, ◌⊎◌, inl, inr, ⊎_elim, ℕ, suc, ◌<◌, true, false, List, [], ◌∷◌, refl, sym, ap, ◌∙◌, subst, Option}
use Rattle.std.proofs.Common.{Some, None, arith}
use Rattle.std.proofs.lemmas.Bool.{true≢false}
use Rattle.std.specs.Prelude.{if◌then◌else◌, slice_get, ◌&&◌, ◌==◌, not}
use Rattle.end_model.specs.declared.event.Event.{Event}
use Rattle.epoch_machine.specs.Names.{is_new, is_name}
use Rattle.epoch_machine.specs.Letters.{Letter, Sccrq, Sccrp, Scccn, StopCcn, Hello, Request, Reply, Connect, Cdn, Fsq, Fsr}
use Rattle.epoch_machine.specs.Tunnels.{Closed, is_open, is_active, is_wait_reply, is_wait_connect}
use Rattle.epoch_machine.specs.Channels.{Channels, Stands, puts, refuses}
use Rattle.epoch_machine.specs.Calls.{waits_reply, waits_connect, stands_with}
use Rattle.epoch_machine.specs.Worlds as machine
use Rattle.epoch_machine.specs.Worlds.{all_rules, gives, took_one, leaves, connects, is_connected, takes, takes_open, answers_request}
use Rattle.epoch_machine.specs.Worlds.{takes_reply, takes_connect, takes_cdn, answers_query, takes_answer}
use Rattle.epoch_machine.specs.Moves as moves
use Rattle.epoch_machine.specs.Moves.{may_take, delivers, step, may_open, may_accept, may_take_refusal, may_clear, may_add, may_ask}
use Rattle.epoch_machine.specs.Moves.{may_end_told, may_end_silent, may_query, may_freeze, may_reset_attempting, may_reset_answering}
use Rattle.epoch_machine.specs.Moves.{opens, accepts, adds_call, asks_for, ends_call, ends_told, queries, freezes, resets_attempting}
use Rattle.epoch_machine.specs.Moves.{resets_answering}
use Rattle.epoch_machine.proofs.Places.{Put, put_or_before, count_stands}
use Rattle.epoch_machine.proofs.Splits.{chosen}
use Rattle.stop_laws.specs.Records.{node_of}
use Rattle.stop_laws.specs.Steps.{is_outage, establishes, InStep, AllInStep}
use Rattle.join_laws.specs.Steps.{AreOf}
use Rattle.join_laws.specs.Hearing.{stage, Hears, IsHeard, AreHeard}
use Rattle.join_laws.proofs.Hearing.{hears_one}
use Rattle.line_join_laws.specs.Cuts.{HeardMovesStand}

-- ---- what a move gives

module _ (y f i : ℕ) (l : Letter) (up : establishes l ≡ true) where
  abbrev In : Channels → Type 0
  In c = Stands c y f i l

  -- a letter by which a tunnel or a call comes up is given by these moves alone: each takes one of the stage before
  abbrev NewIn : machine.World → moves.Move → Type 0
  NewIn w (moves.Accepts s x) = l ≡ Sccrp
  NewIn w (moves.Delivers x s e k z) = (before : Letter) × Stands w.channels s e k before × (suc (stage before) ≡ stage l)
  NewIn w m = ⊥

  put_this : (c : Channels) (x e : ℕ) (given : Letter) → In (puts c x e given) → In c ⊎ (l ≡ given)
  put_this c x e given h = ⊎_elim (λ a. inl a) (λ (p : Put c x e given y f i l). inr p.letter) (put_or_before c x e given y f i l h)

  put_other : (c : Channels) (x e : ℕ) (given : Letter) → establishes given ≡ false → In (puts c x e given) → In c
  put_other c x e given calm h = ⊎_elim
      (λ a. a)
      (λ same. absurd (true≢false (sym up ∙ (ap establishes same ∙ calm))))
      (put_this c x e given h)

  -- ---- what a delivery gives

  module _ (w : machine.World) (x s e k z : ℕ) where
    abbrev mv : moves.Move
    mv = moves.Delivers x s e k z

    abbrev Res : Type 0
    Res = In w.channels ⊎ NewIn w mv

    abbrev From : machine.World → Type 0
    From v = In v.channels → Res

    abbrev t : machine.World
    t = took_one w x

    took : From t
    unfolding took_one
    took h = inl (count_stands w.channels x (w.tunnels.entered x) y f i l h)

    gave : (v : machine.World) (given : Letter) → v.channels ≡ t.channels → establishes given ≡ false → From (gives v x given)
    unfolding gives
    gave v given same calm h = took (subst In same (put_other v.channels x (v.tunnels.entered x) given calm h))

    gave_next : (v : machine.World) (before given : Letter) → v.channels ≡ t.channels → Stands w.channels s e k before
        → suc (stage before) ≡ stage given → From (gives v x given)
    unfolding gives
    gave_next v before given same there next h = ⊎_elim
        (λ a. took (subst In same a))
        (λ (is : l ≡ given). inr (before, there, next ∙ ap stage (sym is)))
        (put_this v.channels x (v.tunnels.entered x) given h)

    -- an open tunnel takes a letter, or another one ignores it
    by_open : (v : machine.World) → From v → From (if is_open (t.tunnels.phase x) then v else t)
    by_open v h = chosen From (is_open (t.tunnels.phase x)) v t (λ is. h) (λ is. took)

    takes_it : (before : Letter) → Stands w.channels s e k before → From (takes all_rules t x s before z)
    unfolding takes takes_open connects is_connected answers_request takes_reply takes_connect takes_cdn answers_query takes_answer
    takes_it Sccrp there =
        chosen From (is_wait_reply (t.tunnels.phase x)) (connects t x s) t (λ is. gave_next _ Sccrp Scccn refl there refl) (λ is. took)
    takes_it Scccn there =
        chosen From (is_wait_connect (t.tunnels.phase x)) (is_connected t x) t (λ is. took) (λ is. took)
    takes_it Sccrq there = by_open t took
    takes_it StopCcn there = by_open t took
    takes_it Hello there = by_open t took
    takes_it (Request own) there =
        by_open (answers_request t x own z)
        (chosen From (is_new t.calls.drawn z) _ _
        (λ is. gave_next _ (Request own) (Reply z own) refl there refl)
        (λ is. chosen From (is_name z) _ _ (λ some. gave t (Cdn 0 own) refl refl) (λ none. took)))
    takes_it (Reply own call) there =
        by_open (takes_reply t x own call)
        (chosen From ((t.calls.tunnel call == x) && waits_reply (t.calls.state call)) _ _
        (λ is. gave_next _ (Reply own call) (Connect own) refl there refl) (λ is. took))
    takes_it (Connect call) there =
        by_open (takes_connect t x call)
        (chosen From ((t.calls.tunnel call == x) && waits_connect (t.calls.state call)) _ _ (λ is. took) (λ is. took))
    takes_it (Cdn own header) there = by_open (takes_cdn t x own header) took
    takes_it (Fsq own call) there = by_open (answers_query all_rules t x own call) (gave t (Fsr call own _) refl refl)
    takes_it (Fsr own call is_here) there =
        by_open (takes_answer t x own call is_here)
        (chosen From (not is_here && stands_with t.calls x call own) _ _ (λ is. took) (λ is. took))

    delivered : (o : Option Letter) → slice_get (w.channels.sent s e) k ≡ o → From (delivers all_rules w x s e k z o)
    unfolding delivers leaves
    delivered None is = λ h. inl h
    delivered (Some StopCcn) is =
        chosen From (may_take all_rules w x s e k StopCcn) (leaves w x Closed) w (λ may h. inl h) (λ may h. inl h)
    delivered (Some Sccrq) is =
        chosen From (may_take all_rules w x s e k Sccrq) _ w (λ may. takes_it Sccrq is) (λ may h. inl h)
    delivered (Some Sccrp) is =
        chosen From (may_take all_rules w x s e k Sccrp) _ w (λ may. takes_it Sccrp is) (λ may h. inl h)
    delivered (Some Scccn) is =
        chosen From (may_take all_rules w x s e k Scccn) _ w (λ may. takes_it Scccn is) (λ may h. inl h)
    delivered (Some Hello) is =
        chosen From (may_take all_rules w x s e k Hello) _ w (λ may. takes_it Hello is) (λ may h. inl h)
    delivered (Some (Request own)) is =
        chosen From (may_take all_rules w x s e k (Request own)) _ w (λ may. takes_it (Request own) is) (λ may h. inl h)
    delivered (Some (Reply own call)) is =
        chosen From (may_take all_rules w x s e k (Reply own call)) _ w (λ may. takes_it (Reply own call) is) (λ may h. inl h)
    delivered (Some (Connect call)) is =
        chosen From (may_take all_rules w x s e k (Connect call)) _ w (λ may. takes_it (Connect call) is) (λ may h. inl h)
    delivered (Some (Cdn own header)) is =
        chosen From (may_take all_rules w x s e k (Cdn own header)) _ w (λ may. takes_it (Cdn own header) is) (λ may h. inl h)
    delivered (Some (Fsq own call)) is =
        chosen From (may_take all_rules w x s e k (Fsq own call)) _ w (λ may. takes_it (Fsq own call) is) (λ may h. inl h)
    delivered (Some (Fsr own call is_here)) is =
        chosen From (may_take all_rules w x s e k (Fsr own call is_here)) _ w (λ may. takes_it (Fsr own call is_here) is) (λ may h. inl h)

  -- ---- any move

  abbrev By : machine.World → moves.Move → machine.World → Type 0
  By w m v = In v.channels → In w.channels ⊎ NewIn w m

  gives_by : (w : machine.World) (m : moves.Move) → is_outage m ≡ false → By w m (step all_rules w m)
  unfolding step opens accepts refuses gives took_one leaves adds_call asks_for ends_call ends_told queries
      freezes resets_attempting resets_answering
  gives_by w (moves.Opens n p x) calm =
      chosen (By w (moves.Opens n p x)) (may_open w n x) _ w
      (λ may h. inl (put_other w.channels x _ Sccrq refl h)) (λ may h. inl h)
  gives_by w (moves.Accepts s x) calm =
      chosen (By w (moves.Accepts s x)) (may_accept w s x) _ w
      (λ may h. put_this w.channels x _ Sccrp (count_stands _ x _ y f i l h)) (λ may h. inl h)
  gives_by w (moves.Refuses s) calm = chosen (By w (moves.Refuses s)) (w.tunnels.opener s) _ w (λ may h. inl h) (λ may h. inl h)
  gives_by w (moves.TakesRefusal x) calm = chosen (By w (moves.TakesRefusal x)) (may_take_refusal w x) _ w (λ may h. inl h) (λ may h. inl h)
  gives_by w (moves.Delivers x s e k z) calm = delivered w x s e k z (slice_get (w.channels.sent s e) k) refl
  gives_by w (moves.SaysHello x) calm =
      chosen (By w (moves.SaysHello x)) (is_open (w.tunnels.phase x)) _ w
      (λ may h. inl (put_other w.channels x _ Hello refl h)) (λ may h. inl h)
  gives_by w (moves.Closes x) calm =
      chosen (By w (moves.Closes x)) (is_active (w.tunnels.phase x)) _ w
      (λ may h. inl (put_other w.channels x _ StopCcn refl h)) (λ may h. inl h)
  gives_by w (moves.Clears x) calm = chosen (By w (moves.Clears x)) (may_clear w x) _ w (λ may h. inl h) (λ may h. inl h)
  gives_by w (moves.AddsCall x z) calm = chosen (By w (moves.AddsCall x z)) (may_add w x z) _ w (λ may h. inl h) (λ may h. inl h)
  gives_by w (moves.Asks z) calm =
      chosen (By w (moves.Asks z)) (may_ask w z) _ w
      (λ may h. inl (put_other w.channels (w.calls.tunnel z) _ (Request z) refl h)) (λ may h. inl h)
  gives_by w (moves.EndsTold z) calm =
      chosen (By w (moves.EndsTold z)) (may_end_told w z) _ w
      (λ may h. inl (put_other w.channels (w.calls.tunnel z) _ (Cdn z (w.calls.remote z)) refl h)) (λ may h. inl h)
  gives_by w (moves.EndsSilent z) calm = chosen (By w (moves.EndsSilent z)) (may_end_silent w z) _ w (λ may h. inl h) (λ may h. inl h)
  gives_by w (moves.Queries x z) calm =
      chosen (By w (moves.Queries x z)) (may_query w x z) _ w
      (λ may h. inl (put_other w.channels x _ (Fsq z _) refl h)) (λ may h. inl h)
  gives_by w (moves.Freezes x a c own theirs) calm =
      chosen (By w (moves.Freezes x a c own theirs)) (may_freeze w x a c) _ w (λ may h. inl h) (λ may h. inl h)
  gives_by w (moves.ResetsAttempting x c) calm =
      chosen (By w (moves.ResetsAttempting x c)) (may_reset_attempting w x c) _ w (λ may h. inl h) (λ may h. inl h)
  gives_by w (moves.ResetsAnswering x c) calm =
      chosen (By w (moves.ResetsAnswering x c)) (may_reset_answering w x c) _ w (λ may h. inl h) (λ may h. inl h)
  gives_by w (moves.Restores x a) calm = absurd (true≢false calm)
  gives_by w (moves.Stops n ks) calm = absurd (true≢false calm)
  gives_by w (moves.Starts n) calm = absurd (true≢false calm)

-- ---- along the moves

late : (l : Letter) → establishes l ≡ true → 1 < stage l
late Sccrp up = omega arith
late Scccn up = omega arith
late (Reply own z) up = omega arith
late (Connect z) up = omega arith
late l up = absurd (true≢false (sym up))

module _ (ev : Event) (n : ℕ) (w : machine.World) where
  -- such a letter stood before the step, or the step hears the stage before it
  abbrev Stood : machine.World → Type 0
  Stood v = (y f i : ℕ) (l : Letter) → establishes l ≡ true → Stands v.channels y f i l
      → Stands w.channels y f i l ⊎ ((c : ℕ) × Hears ev c × (suc c ≡ stage l))

  in_step : (v : machine.World) (m : moves.Move) → Stood v → node_of v m ≡ n → is_outage m ≡ false → IsHeard ev v m → InStep w n v m
  in_step v m stood node calm heard = record {
    node = node;
    no_outage = calm;
    stood = λ x s e k z l is up there.
        (let hears : Hears ev (stage l) = subst (IsHeard ev v) is heard l there (let lt = late l up in omega (arith, lt)) in
        ⊎_elim
        (λ before. before)
        (λ (c : (c : ℕ) × Hears ev c × (suc c ≡ stage l)).
        let same = hears_one ev c.0 (stage l) c.1 hears in
        let next = c.2 in
        absurd (omega (arith, same, next)))
        (stood s e k l up there));
  }

  new_hears : (v : machine.World) (m : moves.Move) → IsHeard ev v m → (y f i : ℕ) (l : Letter) (up : establishes l ≡ true)
      → NewIn y f i l up v m
      → (c : ℕ) × Hears ev c × (suc c ≡ stage l)
  new_hears v (moves.Accepts s x) heard y f i l up is = (1, heard, ap stage (sym is))
  new_hears v (moves.Delivers x s e k z) heard y f i l up is =
      (stage is.0, heard is.0 is.1 (let lt = late l up in let next = is.2 in omega (arith, lt, next)), is.2)
  new_hears v m heard y f i l up is = absurd is

  stood_on : (v : machine.World) (m : moves.Move) → Stood v → is_outage m ≡ false → IsHeard ev v m → Stood (step all_rules v m)
  stood_on v m stood calm heard y f i l up there = ⊎_elim
      (λ before. stood y f i l up before)
      (λ new. inr (new_hears v m heard y f i l up new))
      (gives_by y f i l up v m calm there)

  all_in : (js : List moves.Move) (v : machine.World) → Stood v → AreOf n v js → AreHeard ev v js → AllInStep w n v js
  all_in [] v stood own heard = tt
  all_in (j ∷ js) v stood own heard = (
    in_step v j stood own.0 own.1 heard.0,
    all_in js (step all_rules v j) (stood_on v j stood own.1 heard.0) own.2 heard.1,
  )

pub heard_moves_stand : HeardMovesStand
heard_moves_stand ev n m js own heard = all_in ev n m js m (λ y f i l up there. inl there) own heard
