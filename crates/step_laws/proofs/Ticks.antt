-- An end's tick is a chain of moves: those of each tunnel by itself, one tunnel after the other.
use Rattle.std.proofs.Common.{◌≡◌, inl, ℕ, Bool, true, false, List, [], ◌∷◌, ◌++◌, length, refl, sym, ap, ◌∙◌, subst, Option, Some, None, is_some, arith}
use Rattle.std.proofs.lemmas.Bool.{true≢false}
use Rattle.std.specs.Prelude.{nat_le, nat_lt}
use Rattle.std.specs.List.{AllByRecursion, flat_map}
use Rattle.id_table.specs.Ids.{at, ids_of}
use Rattle.id_table.specs.Order.{IsAbove, Ascends, at_other, at_without_other}
use Rattle.wire_base.specs.declared.letter.Letter.{Letter}
use Rattle.send_window.specs.declared.window.Tick.{Tick as Due}
use Rattle.send_window.specs.declared.window.Tick.TheVariants.{Quiet, Again, Failed}
use Rattle.send_window.specs.Window.{due_at}
use Rattle.send_window.specs.Outbox.{letter_at}
use Rattle.control_channel.specs.Numbers.{answer_to_tick}
use Rattle.control_channel.specs.Channel.{Channel, ticked_at, answer_to_tick as channel_tick}
use Rattle.recovery_tunnel.specs.Connections.{ControlConnection, is_failure, is_lost}
use Rattle.recovery_tunnel.specs.Answers.{is_kept_long as is_long}
use Rattle.end_model.specs.declared.tunnel.Call.{Call}
use Rattle.end_model.specs.declared.event.Event.TheVariants.{Tick}
use Rattle.end_model.specs.declared.out.Out.{Out}
use Rattle.end_model.specs.declared.moves.Move.TheVariants as move
use Rattle.end_model.specs.Tunnels.{Drawing, Tunnel, Env, Turn, turn_in, Recovering, ByAttempt, ByAnswer, connection_of, is_finished}
use Rattle.end_model.specs.Turn.{with_output, with_move, ends_all}
use Rattle.end_model.specs.Ticking.{ticks_by, ticks}
use Rattle.end_model.specs.Stopping.{clears}
use Rattle.end_model.specs.Sending.{repeats}
use Rattle.end_model.specs.Moments.{is_at_its_end, is_open}
use Rattle.end_model.specs.Events.{turns, tunnel_after, with_calls}
use Rattle.end_model.specs.Recovering.{RecoveryTurn, with_recovery, recovery_letter, repeats_on, ticked, is_kept_long, ticks_on, without_recovery, recovery_ticks, recovering_turns}
use Rattle.end_model.specs.End.{drawing_of, End, env_of, tunnels_after, after_turn, after_both, Turned, tick_of, ticks_of, end_after_all, after_all, ticks_all}
use Rattle.step_laws.specs.Failing.{HasFailed, IsUnanswered}
use Rattle.step_laws.specs.Letters.{IsRecoveryLetter}
use Rattle.step_laws.specs.Moves.{ByRecovery, ByTime, HasFailedItself}
use Rattle.step_laws.specs.Steps.{IsKept, AreKept, IsChain}
use Rattle.step_laws.proofs.Lists.{all_append, all_map, branch, or_left}
use Rattle.step_laws.proofs.Tells.{Tells}
use Rattle.step_laws.proofs.Shutting.{all_ended_is}
use Rattle.step_laws.proofs.Settling.{OutOk}
use Rattle.step_laws.proofs.Sending.{both_chain}
use Rattle.step_laws.proofs.Moments.{ended_failed, given_up}
use Rattle.step_laws.proofs.Ticking.{Ticking, quietly_ok, repeats_ok, repeated_changed}
use Rattle.step_laws.proofs.Leaving.{IsStep, whole_of, whole_chain, clears_chain, ends_line}
use Rattle.step_laws.proofs.OnLine.{on_channel, WholeAt, got_all, letter_ok, out_line}
use Rattle.step_laws.proofs.Ends.{begins_settled, removed_step}
use Rattle.step_laws.proofs.Recovered.{channel_letter, own_channel, own_alike, is_cleared, went_on}

-- ---- one tunnel

-- role, configuration and ids
record Like (e x : End) : Type 0 where
  role : x.role ≡ e.role
  config : x.config ≡ e.config
  tunnels : x.tunnel_ids ≡ e.tunnel_ids
  sessions : x.session_ids ≡ e.session_ids
  recoveries : x.recovery_ids ≡ e.recovery_ids

like_on : (e x y : End) → Like e x → Like x y → Like e y
like_on e x y a b = record { role = b.role ∙ a.role; config = b.config ∙ a.config; tunnels = b.tunnels ∙ a.tunnels; sessions = b.sessions ∙ a.sessions; recoveries = b.recoveries ∙ a.recoveries }

-- a turn of the tunnel with an id is a step from an end to another
record Ticked (e : End) (moment i : ℕ) (r : Turn) (y : End) : Type 0 where
  step : IsStep e moment Tick (record { end = y; outputs = r.outputs; moves = r.moves })
  like : Like e y
  others : (j : ℕ) → (j ≡ i → ⊥) → at y.tunnels j ≡ at e.tunnels j

-- calls that end draw no id
all_ids : (ss : List ℕ) (t : Turn) → (ends_all ss t).ids ≡ t.ids
all_ids ss t = ap (λ (u : Turn). u.ids) (all_ended_is ss t)

clears_ids : (calls : List (ℕ × Call)) (t : Turn) → (clears calls t).ids ≡ t.ids
unfolding clears with_move
clears_ids calls t = all_ids (ids_of calls) (with_move (move.Cleared t.control.local (is_open t.control.state)) t)

letter_ids : (c : ControlConnection) (number : ℕ) (o : Option Letter) (t : Turn) → (recovery_letter c number o t).ids ≡ t.ids
unfolding recovery_letter with_output
letter_ids c number None t = refl
letter_ids c number (Some l) t = branch (λ (u : Turn). u.ids ≡ t.ids) (nat_le (length l.avps) 65523) _ _ (λ fits. refl) (λ long. refl)

repeats_ids : (a : Due) (r : Recovering) (t : Turn) → (repeats_on a r t).ids ≡ t.ids
unfolding repeats_on with_move
repeats_ids Quiet r t = refl
repeats_ids (Again number) r t = letter_ids (connection_of r) number (letter_at (connection_of r).channel.outbox number) (with_move (move.RecoveryWentOn t.control.local) t)
repeats_ids (Failed first) r t = refl

-- the tunnel's own channel answers nothing that isn't due
not_due : (c : Channel) (moment : ℕ) → ((number : ℕ) → channel_tick c moment ≡ Again number → ⊥) → is_failure (channel_tick c moment) ≡ false → ticked_at c moment ≡ c
not_due c moment never fails = by c.frozen (due_at c.outbox.window moment) (nat_lt c.outbox.window.repetitions 5) refl refl refl
  where
    by : (a b d : Bool) → c.frozen ≡ a → due_at c.outbox.window moment ≡ b → nat_lt c.outbox.window.repetitions 5 ≡ d → ticked_at c moment ≡ c
    by true b d frozen due more = rw frozen refl
    by false false d frozen due more = rw (frozen, due) refl
    by false true true frozen due more = absurd (never c.outbox.window.acked (rw (frozen, due, more) refl))
    by false true false frozen due more = absurd (true≢false (sym (rw (frozen, due, more) refl) ∙ fails))

module _ (e : End) (kept : AreKept e) (moment : ℕ) (block : List ℕ) (i : ℕ) (t : Tunnel) (is : at e.tunnels i ≡ Some t) where
  abbrev k : IsKept e.role e.config i t
  k = kept.tunnels i t is

  abbrev start : Turn
  start = turn_in t (env_of e moment block)

  abbrev W : Option Recovering → Turn → Type 0
  W recovery u = WholeAt e kept moment Tick t.letters t.calls i k.some recovery u

  abbrev steps : RecoveryTurn → Type 0
  steps x = IsStep e moment Tick (after_both e i t x)

  -- what a turn leads to, with its recovery tunnel
  abbrev leads : RecoveryTurn → Type 0
  leads x = Ticked e moment i x.turn (after_both e i t x).end

  others_after : (b : Bool) (u : Tunnel) (j : ℕ) → (j ≡ i → ⊥) → at (tunnels_after e.tunnels i b u) j ≡ at e.tunnels j
  others_after true u j o = at_without_other e.tunnels i j o
  others_after false u j o = at_other e.tunnels i u j o

  ticked_so : (x : RecoveryTurn) → steps x → x.turn.ids ≡ drawing_of e → leads x
  unfolding after_turn
  ticked_so x step ids = record {
    step = step;
    like = record {
      role = refl;
      config = refl;
      tunnels = ap (λ (d : Drawing). d.tunnels) ids;
      sessions = ap (λ (d : Drawing). d.sessions) ids;
      recoveries = ap (λ (d : Drawing). d.recoveries) ids;
    };
    others = λ j o. others_after x.turn.cleared (tunnel_after x.turn t.letters t.calls x.recovery) j o;
  }

  -- ---- its recovery tunnel

  module _ (r : Recovering) (u : Turn) (h : W (Some r) u) where
    abbrev c : ControlConnection
    c = connection_of r

    now_is : u.on.moment ≡ moment
    now_is = h.stays.4

    abbrev own_letters : AllByRecursion (IsRecoveryLetter e.role e.config i r) c.channel.outbox.letters
    own_letters = h.recovering r refl

    -- what was sent stays so where its channel alone changes
    sent_line : (channel : Channel) (o : Out) → OutOk e.role e.config (tunnel_after u t.letters t.calls (Some r)) u.moves o
        → OutOk e.role e.config (tunnel_after u t.letters t.calls (Some (on_channel channel r))) (u.moves ++ move.RecoveryWentOn u.control.local ∷ []) o
    sent_line channel o is = out_line e kept moment Tick t.letters t.calls i k.some r channel u (move.RecoveryWentOn u.control.local ∷ []) o is

    -- the letter goes again, whatever its channel is then
    again_at : (number : ℕ) (channel : Channel) → AllByRecursion (IsRecoveryLetter e.role e.config i r) channel.outbox.letters
        → W (Some (on_channel channel r)) (repeats_on (Again number) r u)
    unfolding repeats_on
    again_at number channel says =
        let q = on_channel channel r in
        letter_ok e kept moment Tick t.letters t.calls i k.some q c (own_alike channel r) number (letter_at c.channel.outbox number)
        (with_move (move.RecoveryWentOn u.control.local) u)
        (λ l got. channel_letter e.role e.config i channel r l (got_all (IsRecoveryLetter e.role e.config i r) c.channel.outbox.letters _ l own_letters got))
        (went_on e kept moment Tick block i t is r u channel c.closed c.remote (inl refl) says
        (all_map _ _ (sent_line channel) u.outputs h.outs) h)

    -- with the same channel, or one that has had its timer
    repeated_same : (a : Due) → W (Some r) (repeats_on a r u)
    unfolding repeats_on
    repeated_same Quiet = h
    repeated_same (Failed first) = h
    repeated_same (Again number) = subst (λ (q : Recovering). W (Some q) (repeats_on (Again number) r u)) (own_channel r) (again_at number c.channel own_letters)

    ticked_letters : AllByRecursion (IsRecoveryLetter e.role e.config i r) (ticked_at c.channel moment).outbox.letters
    ticked_letters = branch (λ (x : Channel). AllByRecursion (IsRecoveryLetter e.role e.config i r) x.outbox.letters) c.channel.frozen _ _ (λ frozen. own_letters) (λ free. own_letters)

    repeated_ticked : (a : Due) → channel_tick c.channel moment ≡ a → is_failure a ≡ false → W (Some (on_channel (ticked_at c.channel moment) r)) (repeats_on a r u)
    unfolding repeats_on
    repeated_ticked Quiet due fails =
        subst (λ (x : Channel). W (Some (on_channel x r)) u) (sym (not_due c.channel moment (λ number again. absurd cc) (ap is_failure due ∙ fails)))
        (subst (λ (q : Recovering). W (Some q) u) (sym (own_channel r)) h)
    repeated_ticked (Failed first) due fails = absurd (true≢false fails)
    repeated_ticked (Again number) due fails = again_at number (ticked_at c.channel moment) ticked_letters

    -- that is due
    abbrev due_line : Due
    due_line = channel_tick c.channel u.on.moment

    abbrev again : Turn
    again = repeats_on due_line r u

    lost_steps : is_lost u.on.moment c ≡ true → steps (with_recovery r (clears (with_calls again.changed t.calls) again))
    lost_steps lost =
        clears_chain e kept moment Tick t.letters t.calls (Some r) i k.some again (Some r) (repeated_same due_line)
        (ByRecovery r refl (ByTime refl (ap (λ m. is_lost m c) (sym now_is) ∙ lost)))

    long_finished : (q : Recovering) (m : ℕ) → is_kept_long m q ≡ true → is_finished q ≡ true
    long_finished (ByAttempt d) m long = absurd (true≢false (sym long))
    long_finished (ByAnswer a) m long = by a.connection.reset long
      where
        by : (o : Option ℕ) → is_long m o ≡ true → is_some o ≡ true
        by None long = absurd (true≢false (sym long))
        by (Some at) long = refl

    line_steps : steps (ticks_on t.calls r u)
    unfolding ticks_on without_recovery
    line_steps =
        branch steps (is_lost u.on.moment c) _ _
        (λ lost. lost_steps lost)
        (λ going. branch steps (is_kept_long u.on.moment r) _ _
        (λ long. ends_line e kept moment Tick t.letters t.calls (Some r) i k.some again (repeated_same due_line) r refl (long_finished r u.on.moment long))
        (λ young. whole_chain e kept moment Tick t.letters t.calls (Some (ticked u.on.moment r)) i k.some again
        (subst (λ m. W (Some (on_channel (ticked_at c.channel m) r)) again) (sym now_is)
        (subst (λ m. W (Some (on_channel (ticked_at c.channel moment) r)) (repeats_on (channel_tick c.channel m) r u)) (sym now_is)
        (repeated_ticked (channel_tick c.channel moment) refl (subst (λ m. is_failure (channel_tick c.channel m) ≡ false) now_is (or_left _ _ going)))))))

    line_ids : u.ids ≡ drawing_of e → (ticks_on t.calls r u).turn.ids ≡ drawing_of e
    unfolding ticks_on without_recovery with_move
    line_ids ids =
        let same = repeats_ids due_line r u ∙ ids in
        branch (λ (x : RecoveryTurn). x.turn.ids ≡ drawing_of e) (is_lost u.on.moment c) _ _
        (λ lost. clears_ids (with_calls again.changed t.calls) again ∙ same)
        (λ going. branch (λ (x : RecoveryTurn). x.turn.ids ≡ drawing_of e) (is_kept_long u.on.moment r) _ _ (λ long. same) (λ young. same))

  -- ---- a turn of the tunnel, with its recovery tunnel behind it

  -- that isn't removed
  with_line : (u : Turn) → Ticking e moment t.letters t.calls t.recovery i u → leads (recovery_ticks t.calls t.recovery u)
  unfolding recovery_ticks
  with_line u h = by t.recovery refl
    where
      whole : W t.recovery u
      whole = whole_of e kept moment Tick t.letters t.calls t.recovery i k.some u k.recovering h.settled

      by : (o : Option Recovering) → t.recovery ≡ o → leads (recovery_ticks t.calls o u)
      by None none =
          ticked_so (record { turn = u; recovery = None })
          (whole_chain e kept moment Tick t.letters t.calls None i k.some u (subst (λ o. W o u) none whole)) h.none.ids
      by (Some r) has =
          branch leads u.cleared _ _
          (λ cleared. absurd (true≢false (sym cleared ∙ h.settled.stays.5)))
          (λ there. let w = subst (λ o. W o u) has whole in ticked_so (ticks_on t.calls r u) (line_steps r u w) (line_ids r u w h.none.ids))

  -- or that is
  cleared_leads : HasFailed moment t.control → leads (recovery_ticks t.calls t.recovery (clears t.calls start))
  unfolding recovery_ticks
  cleared_leads failed = by t.recovery refl
    where
      stepped : (left : Option Recovering) → steps (record { turn = clears t.calls start; recovery = left })
      stepped left = removed_step e kept moment Tick block i t is left (HasFailedItself refl failed)

      by : (o : Option Recovering) → t.recovery ≡ o → leads (recovery_ticks t.calls o (clears t.calls start))
      by None none = ticked_so (record { turn = clears t.calls start; recovery = None }) (stepped None) (clears_ids t.calls start)
      by (Some r) has =
          branch leads (clears t.calls start).cleared (with_recovery r (clears t.calls start)) (ticks_on t.calls r (clears t.calls start))
          (λ gone. ticked_so (with_recovery r (clears t.calls start)) (stepped (Some r)) (clears_ids t.calls start))
          (λ there. absurd (true≢false (sym (is_cleared t.calls start) ∙ there)))

  begun : Ticking e moment t.letters t.calls t.recovery i start
  begun = record {
    settled = begins_settled e kept moment Tick block i t is;
    none = record { ids = refl; added = refl };
  }

  abbrev leads_by : Turn → Type 0
  leads_by u = leads (recovery_ticks t.calls t.recovery u)

  ticks_by_lead : (a : Due) → answer_to_tick t.control.channel moment ≡ a → leads_by (ticks_by e.role t.letters t.calls a start)
  unfolding ticks_by
  ticks_by_lead Quiet due = with_line _ (quietly_ok e moment t.letters t.calls t.recovery i t.control t.query is k.calls start refl begun)
  ticks_by_lead (Again number) due =
      with_line _
      (quietly_ok e moment t.letters t.calls t.recovery i t.control t.query is k.calls (repeats t.letters number start)
      (repeated_changed e moment t.letters t.calls t.recovery i number start refl)
      (repeats_ok e moment t.letters t.calls t.recovery i number start due begun))
  ticks_by_lead (Failed first) due = cleared_leads (IsUnanswered (given_up moment t.control.channel first due))

  tick_leads : leads (recovering_turns e.role e.config t Tick start)
  unfolding turns ticks recovering_turns
  tick_leads =
      branch leads_by (is_at_its_end moment t.control) _ _
      (λ due. cleared_leads (ended_failed moment t.control due))
      (λ no. ticks_by_lead (answer_to_tick t.control.channel moment) refl)

  -- ---- the turn of the tunnel itself, where it isn't removed

  whole_by : (a : Due) → answer_to_tick t.control.channel moment ≡ a → (ticks_by e.role t.letters t.calls a start).cleared ≡ false
      → W t.recovery (ticks_by e.role t.letters t.calls a start)
  unfolding ticks_by
  whole_by Quiet due stays =
      whole_of e kept moment Tick t.letters t.calls t.recovery i k.some _ k.recovering
      (quietly_ok e moment t.letters t.calls t.recovery i t.control t.query is k.calls start refl begun).settled
  whole_by (Again number) due stays =
      whole_of e kept moment Tick t.letters t.calls t.recovery i k.some _ k.recovering
      (quietly_ok e moment t.letters t.calls t.recovery i t.control t.query is k.calls (repeats t.letters number start)
      (repeated_changed e moment t.letters t.calls t.recovery i number start refl)
      (repeats_ok e moment t.letters t.calls t.recovery i number start due begun)).settled
  whole_by (Failed first) due stays = absurd (true≢false (sym (is_cleared t.calls start) ∙ stays))

  pub tick_whole : (turns e.role e.config t.letters t.calls Tick start).cleared ≡ false → W t.recovery (turns e.role e.config t.letters t.calls Tick start)
  unfolding turns ticks
  tick_whole =
      branch (λ (u : Turn). u.cleared ≡ false → W t.recovery u) (is_at_its_end moment t.control) _ _
      (λ due stays. absurd (true≢false (sym (is_cleared t.calls start) ∙ stays)))
      (λ no. whole_by (answer_to_tick t.control.channel moment) refl)

-- ---- all of them

module _ (moment : ℕ) where
  -- turns of tunnels lead on from an end
  abbrev AllTicked : End → List Turned → Type 0
  AllTicked x ts = IsChain x moment Tick (record {
    end = end_after_all ts x;
    outputs = flat_map (λ t. t.turn.turn.outputs) ts;
    moves = flat_map (λ t. t.turn.turn.moves) ts;
  })

  none_ticked : (x : End) → AreKept x → AllTicked x []
  unfolding end_after_all
  none_ticked x kept = record { chain = refl; outputs = tt; frames = tt; kept = kept }

  -- the first, and then the rest
  one_ticked : (i : ℕ) (x : End) (first : Turned) (ts : List Turned) (y : End)
      → y ≡ (after_both x first.id first.tunnel first.turn).end → Ticked x moment i first.turn.turn y → AllTicked y ts
      → AllTicked x (first ∷ ts)
  unfolding end_after_all
  one_ticked i x first ts y is h rest =
      let same : end_after_all (first ∷ ts) x ≡ end_after_all ts y = ap (end_after_all ts) (sym is) in
      let outs = flat_map (λ (t : Turned). t.turn.turn.outputs) ts in
      let ms = flat_map (λ (t : Turned). t.turn.turn.moves) ts in
      subst (λ z. IsChain x moment Tick (record { end = z; outputs = first.turn.turn.outputs ++ outs; moves = first.turn.turn.moves ++ ms })) (sym same)
      (both_chain moment Tick x (record { end = y; outputs = first.turn.turn.outputs; moves = first.turn.turn.moves })
      (record { end = end_after_all ts y; outputs = outs; moves = ms }) h.step.chain rest)

  module _ (e : End) (block : List ℕ) where
    abbrev env : Env
    env = env_of e moment block

    abbrev Untouched : End → ℕ × Tunnel → Type 0
    Untouched x q = at x.tunnels q.0 ≡ at e.tunnels q.0

    -- the turn of a tunnel that is as it was
    as_it_was : (x : End) → Like e x → (t : Tunnel)
        → recovering_turns x.role x.config t Tick (turn_in t (env_of x moment block)) ≡ recovering_turns e.role e.config t Tick (turn_in t env)
    as_it_was x like t = rw (like.role, like.config, like.tunnels, like.sessions, like.recoveries) refl

    untouched_on : (q : ℕ × Tunnel) (x y : End) → ((j : ℕ) → (j ≡ q.0 → ⊥) → at y.tunnels j ≡ at x.tunnels j) → (es : List (ℕ × Tunnel))
        → IsAbove q.0 es → AllByRecursion (Untouched x) es → AllByRecursion (Untouched y) es
    untouched_on q x y others [] above h = tt
    untouched_on q x y others (p ∷ es) above h =
        (others p.0 (λ s. let lt = above.0 in absurd (omega (arith, s))) ∙ h.0, untouched_on q x y others es above.1 h.1)

    -- what the rest leads to, from each end that is like the first and has the rest of the tunnels as they were
    abbrev Rest : List (ℕ × Tunnel) → List Turned → Type 0
    Rest es ts = (y : End) → Like e y → AreKept y → AllByRecursion (Untouched y) es → AllTicked y ts

    first_ticked : (q : ℕ × Tunnel) (es : List (ℕ × Tunnel)) → IsAbove q.0 es → (ts : List Turned) → Rest es ts → (x : End) → Like e x → AreKept x
        → AllByRecursion (Untouched x) (q ∷ es) → (o : Option Tunnel) → at e.tunnels q.0 ≡ o → AllTicked x (tick_of e env q.0 o ++ ts)
    first_ticked q es above ts rest x like kept same None is = rest x like kept same.1
    first_ticked q es above ts rest x like kept same (Some t) is =
        let r = recovering_turns e.role e.config t Tick (turn_in t env) in
        let y = (after_both x q.0 t r).end in
        let h : Ticked x moment q.0 r.turn y =
        subst (λ (r : RecoveryTurn). Ticked x moment q.0 r.turn (after_both x q.0 t r).end) (as_it_was x like t) (tick_leads x kept moment block q.0 t (same.0 ∙ is)) in
        one_ticked q.0 x (record { id = q.0; tunnel = t; turn = r }) ts y refl h
        (rest y (like_on e x y like h.like) h.step.chain.kept (untouched_on q x y h.others es above same.1))

    all_ticked : (es : List (ℕ × Tunnel)) → Ascends es → Rest es (ticks_of e env (ids_of es))
    unfolding ticks_of Ascends
    all_ticked [] sorted x like kept same = none_ticked x kept
    all_ticked (q ∷ es) sorted x like kept same =
        first_ticked q es sorted.0 (ticks_of e env (ids_of es)) (all_ticked es sorted.1) x like kept same (at e.tunnels q.0) refl

    same_all : (es : List (ℕ × Tunnel)) → AllByRecursion (Untouched e) es
    same_all [] = tt
    same_all (q ∷ es) = (refl, same_all es)

    -- what is told is so of each tunnel as the step began
    module _ (kept : AreKept e) where
      tick_tells : (i : ℕ) (o : Option Tunnel) → at e.tunnels i ≡ o → (ts : List Turned)
          → AllByRecursion (Tells e moment Tick) (flat_map (λ (t : Turned). t.turn.turn.outputs) ts)
          → AllByRecursion (Tells e moment Tick) (flat_map (λ (t : Turned). t.turn.turn.outputs) (tick_of e env i o ++ ts))
      tick_tells i None is ts h = h
      tick_tells i (Some t) is ts h = all_append _ _ _ (tick_leads e kept moment block i t is).step.tells h

      ticks_tell : (ids : List ℕ) → AllByRecursion (Tells e moment Tick) (flat_map (λ (t : Turned). t.turn.turn.outputs) (ticks_of e env ids))
      unfolding ticks_of
      ticks_tell [] = tt
      ticks_tell (i ∷ ids) = tick_tells i (at e.tunnels i) refl (ticks_of e env ids) (ticks_tell ids)

      pub ticks_chain : IsStep e moment Tick (ticks_all e env)
      unfolding ticks_all after_all
      ticks_chain = record {
        chain = all_ticked e.tunnels kept.order e (record { role = refl; config = refl; tunnels = refl; sessions = refl; recoveries = refl }) kept (same_all e.tunnels);
        tells = ticks_tell (ids_of e.tunnels);
      }
