-- A start leads from what a crash left to the end whose tunnels came back.
use Rattle.std.proofs.Common.{◌≡◌, ℕ, ◌<◌, ◌≤◌, suc, Bool, true, false, List, [], ◌∷◌, ◌++◌, length, refl, sym, ap, ◌∙◌, subst, Option, Some, None, Result, Ok, Err, arith, ⊎_elim, inl, inr}
use Rattle.std.proofs.lemmas.Bool.{true≢false}
use Rattle.std.proofs.lemmas.Bool.Decides.{nat_tests}
use Rattle.std.proofs.lemmas.List.{append-nil, append_assoc}
use Rattle.std.proofs.lemmas.Option.{none-some}
use Rattle.std.specs.Prelude.{◌==◌, map, filter}
use Rattle.std.specs.List.{AllByRecursion, flat_map}
use Rattle.std.specs.declared.cmp.Ordering.TheVariants.{Less, Greater}
use Rattle.std.specs.Ordering.{nat_cmp}
use Rattle.id_table.specs.Ids.{at, at-none, put}
use Rattle.id_table.specs.Order.{IsAbove, Ascends, at_other, found_put, ascends-empty, found_without}
use Rattle.id_source.specs.Spaces.{takes_id, after_id}
use Rattle.id_source.specs.declared.IdError.{IdError}
use Rattle.session_book.specs.declared.record.BookTunnel.{BookTunnel}
use Rattle.session_book.specs.declared.record.BookCall.{BookCall}
use Rattle.session_book.specs.Books.{Kept, calls_of}
use Rattle.control_message.specs.declared.message.Message.TheVariants.{Sccrq}
use Rattle.control_channel.specs.Channel.{Channel}
use Rattle.recovery_tunnel.specs.Connections.{ControlConnection}
use Rattle.recovery_tunnel.specs.Attempts.{new_attempt, request_of}
use Rattle.lcp_end.specs.Steps.{opened, stepped, acted, counted, zeroed, configured, terminated, signalled, requested, requesting, sent}
use Rattle.call_link.specs.Link.{new_link}
use Rattle.call_link.specs.declared.env.LinkEnv.{LinkEnv}
use Rattle.call_link.specs.Turns.{Opens, linked}
use Rattle.call_link.specs.declared.turn.LinkTurn.{LinkTurn}
use Rattle.end_names.specs.declared.role.Role.{Role}
use Rattle.end_names.specs.declared.role.Role.TheVariants.{Lac, Lns}
use Rattle.end_model.specs.declared.tunnel.Call.{Call}
use Rattle.end_model.specs.declared.tunnel.Config.{Config}
use Rattle.end_model.specs.declared.tunnel.Mode.TheVariants.{Restored as IsRestored}
use Rattle.end_model.specs.declared.event.Event.{Event}
use Rattle.end_model.specs.declared.event.Event.TheVariants.{Tick}
use Rattle.end_model.specs.declared.moves.Move.{Move}
use Rattle.end_model.specs.declared.moves.Move.TheVariants as move
use Rattle.end_model.specs.Calls.{owed_by, counted as counted_call, counted_all}
use Rattle.end_model.specs.Tunnels.{Tunnel, Ground, Turn, turn_of, Recovering, ByAttempt}
use Rattle.end_model.specs.Events.{with_calls, tunnel_after}
use Rattle.end_model.specs.Frames.{sends_frame, counts, carried}
use Rattle.end_model.specs.Linking.{sends_frames, negotiated, links_by}
use Rattle.end_model.specs.Links.{link_env, looks_of}
use Rattle.end_model.specs.Messages.{opening_of}
use Rattle.end_model.specs.Secrets.{challenge_by}
use Rattle.end_model.specs.Turn.{with_output, with_move, with_call, with_looks_of}
use Rattle.end_model.specs.Recovering.{RecoveryTurn, goes, attempted}
use Rattle.end_model.specs.Starting.{bare_end, kept_control, kept_call, kept_looks, keeps_calls, opens_link, opens_links, restored_move, restores, gone_with, forgets, can_recover, restored_by, restored, behind_all, restored_all, starts}
use Rattle.end_model.specs.End.{End, Stepped, env_of, after_turn, tunnels_after}
use Rattle.step_laws.specs.Letters.{IsRecoveryLetter, Among}
use Rattle.step_laws.specs.Moves.{calls_back, looks_back}
use Rattle.step_laws.specs.Steps.{AreKept, IsChain, IsOfMoves, IsOfNoStart}
use Rattle.step_laws.specs.Starts.{IsOfLink, IsOfStart, StartsAreChains, StartsAreOfBooks}
use Rattle.step_laws.proofs.Booked.{TunnelsRise, CallsRise, IsBook, sound_book}
use Rattle.step_laws.proofs.Lists.{all_map, branch, all_push, all_append}
use Rattle.step_laws.proofs.Turns.{next_after}
use Rattle.step_laws.proofs.Settling.{Settled}
use Rattle.step_laws.proofs.Secrets.{asks_so}
use Rattle.step_laws.proofs.Sending.{both_chain}
use Rattle.step_laws.proofs.Linking.{negotiated_ok, negotiated_is, negotiated_put, linked_call}
use Rattle.step_laws.proofs.Leaving.{IsStep, whole_of, whole_chain}
use Rattle.step_laws.proofs.OnLine.{on_channel, WholeAt, goes_ok, goes_went}
use Rattle.step_laws.proofs.Recovered.{one_line, channel_letter, alike_channel}
use Rattle.step_laws.proofs.Finished.{own_entries}
use Rattle.step_laws.specs.Links.{ToOpen}
use Rattle.call_fsm.specs.declared.table.CallState.TheVariants as call
use Rattle.step_laws.proofs.Untold.{TellsIn, killed_by, negotiated_still}
use Rattle.step_laws.proofs.LineParts.{goes_still}
use Rattle.step_laws.proofs.Queries.{none_asks}

-- ---- the calls that come back

under_other : (k n : ℕ) → k < n → nat_cmp k n ≡ Less
under_other k n less = grind (arith, nat_tests)

over_other : (s k : ℕ) → k < s → nat_cmp s k ≡ Greater
over_other s k less = grind (arith, nat_tests)

put_first : (k : ℕ) (v : Call) (es : List (ℕ × Call)) → IsAbove k es → put es k v ≡ (k, v) ∷ es
unfolding put
put_first k v [] above = refl
put_first k v (e ∷ es) above = rw (under_other k e.0 above.0) refl

put_later : (e : ℕ × Call) (es : List (ℕ × Call)) (s : ℕ) (v : Call) → e.0 < s → put (e ∷ es) s v ≡ e ∷ put es s v
unfolding put
put_later e es s v less = rw (over_other s e.0 less) refl

rise_from : (n m : ℕ) (cs : List BookCall) → n < m → CallsRise m cs → CallsRise n cs
rise_from n m [] less rise = tt
rise_from n m (c ∷ cs) less rise = ((let first = rise.0 in omega (arith, less, first)), rise.1)

module _ (r : Role) (g : Ground) where
  abbrev pub listed : List BookCall → List (ℕ × Call)
  listed cs = map (λ (c : BookCall). (c.local, kept_call r g c)) cs

  abbrev entries : List BookCall → List (ℕ × Option Call)
  entries cs = map (λ (c : BookCall). (c.local, Some (kept_call r g c))) cs

  above_listed : (n : ℕ) (cs : List BookCall) → CallsRise n cs → IsAbove n (listed cs)
  above_listed n [] rise = tt
  above_listed n (c ∷ cs) rise = (rise.0, above_listed n cs (rise_from n c.local cs rise.0 rise.1))

  pub ascends_listed : (n : ℕ) (cs : List BookCall) → CallsRise n cs → Ascends (listed cs)
  unfolding Ascends
  ascends_listed n [] rise = tt
  ascends_listed n (c ∷ cs) rise = (above_listed c.local cs rise.1, ascends_listed c.local cs rise.1)

  length_listed : (cs : List BookCall) → length (listed cs) ≡ length cs
  length_listed [] = refl
  length_listed (c ∷ cs) = ap suc (length_listed cs)

  owed_listed : (cs : List BookCall) → owed_by (listed cs) ≡ length cs
  owed_listed [] = refl
  owed_listed (c ∷ cs) = let later = owed_listed cs in omega (arith, later)

  pub back_listed : (n : ℕ) (cs : List BookCall) → CallsRise n cs → calls_back r g cs ≡ listed cs
  back_listed n [] rise = refl
  back_listed n (c ∷ cs) rise =
      ap (λ es. put es c.local (kept_call r g c)) (back_listed c.local cs rise.1)
      ∙ put_first c.local (kept_call r g c) (listed cs) (above_listed c.local cs rise.1)

  entries_first : (cs : List BookCall) (e : ℕ × Call) (es : List (ℕ × Call)) → CallsRise e.0 cs → with_calls (entries cs) (e ∷ es) ≡ e ∷ with_calls (entries cs) es
  unfolding with_calls
  entries_first [] e es rise = refl
  entries_first (c ∷ cs) e es rise =
      ap (λ xs. with_calls (entries cs) xs) (put_later e es c.local (kept_call r g c) rise.0)
      ∙ entries_first cs e (put es c.local (kept_call r g c)) (rise_from e.0 c.local cs rise.0 rise.1)

  entries_listed : (n : ℕ) (cs : List BookCall) → CallsRise n cs → with_calls (entries cs) [] ≡ listed cs
  unfolding with_calls
  entries_listed n [] rise = refl
  entries_listed n (c ∷ cs) rise =
      ap (λ xs. with_calls (entries cs) xs) (put_first c.local (kept_call r g c) [] tt)
      ∙ entries_first cs (c.local, kept_call r g c) [] rise.1
      ∙ ap (λ es. (c.local, kept_call r g c) ∷ es) (entries_listed c.local cs rise.1)

  pub own_calls : (es : List (ℕ × Call)) (cs : List BookCall) → AllByRecursion (λ x. at es x.0 ≡ Some x.1) (listed cs)
      → AllByRecursion (λ (c : BookCall). at es c.local ≡ Some (kept_call r g c)) cs
  own_calls es [] h = tt
  own_calls es (c ∷ cs) h = (h.0, own_calls es cs h.1)

-- a turn with them
abbrev pub came_back : Role → List BookCall → Turn → Turn
came_back r cs t = record t {
  changed = t.changed ++ entries r t.on cs;
  added = t.added ++ map (λ (c : BookCall). c.local) cs;
  changes = t.changes ++ looks_back r t.control.local t.control.peer cs;
}

keeps_is : (r : Role) (cs : List BookCall) (t : Turn) → keeps_calls r cs t ≡ came_back r cs t
unfolding keeps_calls with_looks_of
keeps_is r [] t = rw (append-nil t.changed, append-nil t.added, append-nil t.changes) refl
keeps_is r (c ∷ cs) t =
    let looks = kept_looks r c.local t.control.local t.control.peer in
    keeps_is r cs (with_looks_of looks (record t { changed = t.changed ++ (c.local, Some (kept_call r t.on c)) ∷ []; added = t.added ++ c.local ∷ [] }))
    ∙ (let changed = append_assoc t.changed ((c.local, Some (kept_call r t.on c)) ∷ []) (entries r t.on cs) in
    let added = append_assoc t.added (c.local ∷ []) (map (λ (d : BookCall). d.local) cs) in
    let changes = append_assoc t.changes looks (looks_back r t.control.local t.control.peer cs) in
    rw (changed, added, changes) refl)

-- ---- links are opened in whatever mode

abbrev in_restored : Turn → Turn
in_restored t = record t { on = record t.on { mode = IsRestored } }

counts_mode : (s : ℕ) (c : Call) (o : Option ℕ) (t : Turn) → counts s c o (in_restored t) ≡ in_restored (counts s c o t)
unfolding counts with_move with_call
counts_mode s c None t = refl
counts_mode s c (Some n) t = refl

carried_mode : (s : ℕ) (frame : List ℕ) (c : Call) (t : Turn) → carried s frame c (in_restored t) ≡ in_restored (carried s frame c t)
unfolding carried sends_frame with_output with_move
carried_mode s frame c t = counts_mode s c c.sequence (sends_frame s frame c t)

frames_mode : (s : ℕ) (fs : List (List ℕ)) (c : Call) (t : Turn) → sends_frames s fs c (in_restored t) ≡ in_restored (sends_frames s fs c t)
unfolding sends_frames
frames_mode s [] c t = refl
frames_mode s (f ∷ fs) c t = ap (λ (u : Turn). sends_frames s fs (counted_call c) u) (carried_mode s f c t) ∙ frames_mode s fs (counted_call c) (carried s f c t)

negotiated_mode : (s : ℕ) (c : Call) (v : LinkTurn) (t : Turn) → negotiated s c v (in_restored t) ≡ in_restored (negotiated s c v t)
unfolding negotiated with_looks_of with_move with_call
negotiated_mode s c v t =
    ap (λ (u : Turn). with_looks_of (looks_of v.opens s) (with_move (move.Negotiated (record { tunnel = t.control.local; session = s })) (with_call s (linked_call c v) u)))
    (frames_mode s v.frames c t)

-- what is opened doesn't end
opens_ends : (e : LinkEnv) → (linked e Opens (new_link e)).ends ≡ None
unfolding linked opened stepped acted counted zeroed configured terminated signalled requested sent requesting
opens_ends e = refl

-- what is seen of calls that come back is no end
back_kills : (r : Role) (i peer : ℕ) (cs : List BookCall) → flat_map killed_by (looks_back r i peer cs) ≡ []
back_kills r i peer [] = refl
back_kills Lac i peer (c ∷ cs) = back_kills Lac i peer cs
back_kills Lns i peer (c ∷ cs) = back_kills Lns i peer cs

-- frames leave the state of a call
counted_state : (fs : List (List ℕ)) (c : Call) → (counted_all fs c).state ≡ c.state
counted_state [] c = refl
counted_state (f ∷ fs) c = counted_state fs (counted_call c)

-- a LAC's calls have no link
lac_opens : (cs : List BookCall) (t : Turn) → opens_links Lac cs t ≡ t
unfolding opens_links opens_link
lac_opens [] t = refl
lac_opens (c ∷ cs) t = lac_opens cs t

-- ---- one tunnel comes back

module _ (e : End) (kept : AreKept e) (moment : ℕ) (ev : Event) (block : List ℕ) (b : BookTunnel) (cs : List BookCall) (none : at e.tunnels b.local ≡ None)
    (some : b.local ≡ 0 → ⊥) (n : ℕ) (rise : CallsRise n cs) (few : length cs ≤ 4096) (can : can_recover b ≡ true)
    (local draw : ℕ) (drawn : takes_id e.tunnel_ids ≡ Ok local) (drew : takes_id e.recovery_ids ≡ Ok draw) where
  abbrev i : ℕ
  i = b.local

  abbrev start : Turn
  start = turn_of (kept_control moment b) (env_of e moment block)

  abbrev attempt : ControlConnection
  attempt = new_attempt local (record { sender = b.local; receiver = b.remote }) draw (opening_of e.role e.config (challenge_by e.config.secret block) None local) moment

  abbrev W : Option Recovering → Turn → Type 0
  W recovery u = WholeAt e kept moment ev [] [] i some recovery u

  abbrev pub back : Move
  back = restored_move e.config cs b local draw start

  abbrev pub back_turn : Turn
  back_turn =
      let t = with_move back (came_back e.role cs start) in
      record t { ids = record t.ids { tunnels = after_id t.ids.tunnels; recoveries = after_id t.ids.recoveries } }

  attempt_says : AllByRecursion (IsRecoveryLetter e.role e.config i (ByAttempt attempt)) attempt.channel.outbox.letters
  unfolding new_attempt
  attempt_says =
      let o = request_of local (record { sender = b.local; receiver = b.remote }) draw (opening_of e.role e.config (challenge_by e.config.secret block) None local) in (
        (
          Sccrq o,
          inl (record {
            named = record { sender = b.local; receiver = b.remote };
            sender = refl;
            challenge = challenge_by e.config.secret block;
            asks = asks_so e.config.secret block;
            is = refl;
          }),
          refl,
        ),
        tt,
      )

  back_whole : (channel : Channel) → AllByRecursion (IsRecoveryLetter e.role e.config i (ByAttempt attempt)) channel.outbox.letters
      → W (Some (on_channel channel (ByAttempt attempt))) back_turn
  unfolding with_move new_attempt
  back_whole channel says =
      let q = on_channel channel (ByAttempt attempt) in
      let calls = entries_listed e.role start.on n cs rise in
      let same = back_listed e.role start.on n cs rise in
      let long = length_listed e.role start.on cs in
      let owed = owed_listed e.role start.on cs in
      record {
        chain = (
          _,
          record {
            none = none;
            can = can;
            local = drawn;
            draw = drew;
            asks = asks_so e.config.secret block;
            ground = start.on;
            at_moment = refl;
            recovery = q;
            is = record { connection = record attempt { channel = channel }; is = refl; local_is = refl; remote_is = refl; draw_is = refl; waits = refl };
            after = rw (calls, same) refl;
          },
          refl,
        );
        outs = tt;
        tells = tt;
        frames = (tt, tt);
        stays = (refl, (λ z. absurd (omega (arith, z))), kept.sessions, next_after e.tunnel_ids kept.first, refl, refl, none_asks);
        frozen = λ inactive. (refl, refl);
        recovering = one_line e.role e.config i q (all_map (IsRecoveryLetter e.role e.config i (ByAttempt attempt)) (IsRecoveryLetter e.role e.config i q) (channel_letter e.role e.config i channel (ByAttempt attempt)) channel.outbox.letters says);
        held = (refl, omega arith, omega arith);
        fits = rw calls (
          ascends_listed e.role start.on n cs rise,
          omega (arith, long, few),
          (λ live. omega (arith, owed, few)),
          (λ open_is. omega (arith, owed, few)),
          omega arith,
          (λ closed. absurd (true≢false (sym closed))),
        );
      }

  -- its SCCRQ goes
  abbrev channel : Channel
  channel = attempt.channel

  abbrev gone : RecoveryTurn
  gone = goes (on_channel channel (ByAttempt attempt)) back_turn

  record HasGone : Type 0 where
    after : Channel
    is : gone.recovery ≡ Some (on_channel after (ByAttempt attempt))
    whole : W (Some (on_channel after (ByAttempt attempt))) gone.turn
    only : gone.turn ≡ record back_turn { outputs = gone.turn.outputs }

  has_gone : HasGone
  has_gone =
      let w = goes_went e kept moment ev [] [] i some (ByAttempt attempt) channel back_turn in
      let q = on_channel w.channel (ByAttempt attempt) in
      record {
        after = w.channel;
        is = w.is;
        whole = goes_ok e kept moment ev [] [] i some q (ByAttempt attempt) channel back_turn (alike_channel w.channel channel (ByAttempt attempt))
            (all_map (IsRecoveryLetter e.role e.config i (ByAttempt attempt)) (IsRecoveryLetter e.role e.config i q) (channel_letter e.role e.config i w.channel (ByAttempt attempt)) channel.outbox.letters attempt_says)
            (back_whole w.channel (subst (AllByRecursion (IsRecoveryLetter e.role e.config i (ByAttempt attempt))) (sym w.holds) attempt_says));
        only = w.only;
      }

  -- the links of its calls are opened

  module _ (after : Channel) where
    abbrev q : Recovering
    q = on_channel after (ByAttempt attempt)

    abbrev S : Turn → Type 0
    S u = Settled e moment ev [] [] (Some q) i (in_restored u)

    -- those that are to be opened
    abbrev Waiting : List BookCall → Turn → Type 0
    Waiting ds u = AllByRecursion (λ (c : BookCall). at (with_calls u.changed []) c.local ≡ Some (kept_call Lns u.on c)) ds

    settled_first : (u : Turn) → u.took ≡ false → W (Some q) u → S u
    unfolding new_attempt
    settled_first u took h = record {
      chain = h.chain;
      outs = h.outs;
      tells = h.tells;
      frames = h.frames;
      stays = (h.stays.0, h.stays.1, h.stays.2, h.stays.3, h.stays.4, h.stays.5, refl, h.stays.6);
      goes = inr (let frozen = h.frozen refl in (frozen.0, took, frozen.1));
      held = h.held;
      fits = h.fits;
    }

    abbrev opening : BookCall → Turn → LinkTurn
    opening c u = linked (link_env u.on) Opens (new_link (link_env u.on))

    one_settled : (c : BookCall) (u : Turn) → at (with_calls u.changed []) c.local ≡ Some (kept_call Lns u.on c) → S u
        → S (negotiated c.local (kept_call Lns u.on c) (opening c u) u)
    one_settled c u found h =
        let k = kept_call Lns u.on c in
        subst (λ (x : Turn). Settled e moment ev [] [] (Some q) i x) (negotiated_mode c.local k (opening c u) u)
        (negotiated_ok e moment ev [] [] (Some q) i c.local k (new_link (link_env u.on)) (record { env = link_env u.on; call = Opens }) (in_restored u)
        (record { found = found; has = refl; up = refl; at_moment = h.stays.4; called = ToOpen refl refl }) h)

    -- the others wait still
    still_wait : (c : BookCall) (ds : List BookCall) (m : ℕ) (u v : Turn) (d : Call) → c.local ≤ m → CallsRise m ds → v.on ≡ u.on
        → with_calls v.changed [] ≡ put (with_calls u.changed []) c.local d → Waiting ds u → Waiting ds v
    still_wait c [] m u v d low rise on is h = tt
    still_wait c (x ∷ ds) m u v d low rise on is h = (
      ap (λ es. at es x.local) is ∙ at_other (with_calls u.changed []) c.local d x.local (λ same. let above = rise.0 in absurd (omega (arith, same, low, above)))
          ∙ h.0 ∙ ap (λ (g : Ground). Some (kept_call Lns g x)) (sym on),
      still_wait c ds x.local u v d (let above = rise.0 in omega (arith, low, above)) rise.1 on is h.1,
    )

    links_settled : (m : ℕ) (ds : List BookCall) (u : Turn) → CallsRise m ds → Waiting ds u → S u → S (opens_links Lns ds u)
    unfolding opens_links opens_link links_by
    links_settled m [] u rise wait h = h
    links_settled m (c ∷ ds) u rise wait h =
        let k = kept_call Lns u.on c in
        let v = opening c u in
        let x = negotiated c.local k v u in
        subst (λ o. S (opens_links Lns ds (links_by Lns [] c.local k v o u))) (sym (opens_ends (link_env u.on)))
        (links_settled c.local ds x rise.1
        (still_wait c ds c.local u x (linked_call k v) (omega arith) rise.1 (ap (λ (y : Turn). y.on) (negotiated_is c.local k v u)) (negotiated_put [] c.local k v u) wait.1)
        (one_settled c u wait.0 h))

  -- its calls stand as they came back
  calls_back_there : gone.turn ≡ record back_turn { outputs = gone.turn.outputs }
      → AllByRecursion (λ (c : BookCall). at (with_calls gone.turn.changed []) c.local ≡ Some (kept_call e.role start.on c)) cs
  unfolding with_move
  calls_back_there only =
      subst (λ es. AllByRecursion (λ (c : BookCall). at es c.local ≡ Some (kept_call e.role start.on c)) cs)
      (sym (ap (λ (u : Turn). with_calls u.changed []) only ∙ entries_listed e.role start.on n cs rise))
      (own_calls e.role start.on (listed e.role start.on cs) cs (own_entries (listed e.role start.on cs) (ascends_listed e.role start.on n cs rise)))

  on_stays : gone.turn ≡ record back_turn { outputs = gone.turn.outputs } → gone.turn.on ≡ start.on
  unfolding with_move
  on_stays only = ap (λ (u : Turn). u.on) only

  took_none : gone.turn ≡ record back_turn { outputs = gone.turn.outputs } → gone.turn.took ≡ false
  unfolding with_move
  took_none only = ap (λ (u : Turn). u.took) only

  opened_step : (r : Role) → e.role ≡ r → (after : Channel) → W (Some (on_channel after (ByAttempt attempt))) gone.turn
      → gone.turn ≡ record back_turn { outputs = gone.turn.outputs }
      → IsStep e moment ev (after_turn e i [] [] (Some (on_channel after (ByAttempt attempt))) (opens_links r cs gone.turn))
  unfolding after_turn
  opened_step Lac role after h only =
      subst (λ (u : Turn). IsStep e moment ev (after_turn e i [] [] (Some (on_channel after (ByAttempt attempt))) u)) (sym (lac_opens cs gone.turn))
      (whole_chain e kept moment ev [] [] (Some (on_channel after (ByAttempt attempt))) i some gone.turn h)
  opened_step Lns role after h only =
      let waits : Waiting after cs gone.turn =
      subst (λ (g : Ground). AllByRecursion (λ (c : BookCall). at (with_calls gone.turn.changed []) c.local ≡ Some (kept_call Lns g c)) cs) (sym (on_stays only))
      (subst (λ (x : Role). AllByRecursion (λ (c : BookCall). at (with_calls gone.turn.changed []) c.local ≡ Some (kept_call x start.on c)) cs) role (calls_back_there only)) in
      let u = in_restored (opens_links Lns cs gone.turn) in
      let settled = links_settled after n cs gone.turn rise waits (settled_first after gone.turn (took_none only) h) in
      whole_chain e kept moment ev [] [] (Some (on_channel after (ByAttempt attempt))) i some u
      (whole_of e kept moment ev [] [] (Some (on_channel after (ByAttempt attempt))) i some u h.recovering settled)

  -- ---- its moves: it comes back first, and no other move is one of a start

  pub record FromBack (ms : List Move) : Type 0 where
    pub rest : List Move
    pub is : ms ≡ back ∷ rest
    pub so : AllByRecursion IsOfNoStart rest
    pub links : AllByRecursion IsOfLink rest

  from_on : (ms : List Move) (m : Move) → IsOfNoStart m → IsOfLink m → FromBack ms → FromBack (ms ++ m ∷ [])
  from_on ms m so link h = record {
    rest = h.rest ++ m ∷ [];
    is = ap (λ xs. xs ++ m ∷ []) h.is;
    so = all_push IsOfNoStart h.rest m h.so so;
    links = all_push IsOfLink h.rest m h.links link;
  }

  counts_from : (s : ℕ) (c : Call) (o : Option ℕ) (u : Turn) → FromBack u.moves → FromBack (counts s c o u).moves
  unfolding counts with_move with_call
  counts_from s c None u h = h
  counts_from s c (Some number) u h = from_on u.moves _ tt tt h

  carried_from : (s : ℕ) (frame : List ℕ) (c : Call) (u : Turn) → FromBack u.moves → FromBack (carried s frame c u).moves
  unfolding carried sends_frame with_output with_move
  carried_from s frame c u h = counts_from s c c.sequence (sends_frame s frame c u) (from_on u.moves _ tt tt h)

  frames_from : (s : ℕ) (fs : List (List ℕ)) (c : Call) (u : Turn) → FromBack u.moves → FromBack (sends_frames s fs c u).moves
  unfolding sends_frames
  frames_from s [] c u h = h
  frames_from s (f ∷ fs) c u h = frames_from s fs (counted_call c) (carried s f c u) (carried_from s f c u h)

  negotiated_from : (s : ℕ) (c : Call) (v : LinkTurn) (u : Turn) → FromBack u.moves → FromBack (negotiated s c v u).moves
  unfolding negotiated with_looks_of with_move with_call
  negotiated_from s c v u h = from_on (sends_frames s v.frames c u).moves _ tt tt (frames_from s v.frames c u h)

  links_from : (r : Role) (ds : List BookCall) (u : Turn) → FromBack u.moves → FromBack (opens_links r ds u).moves
  unfolding opens_links opens_link links_by
  links_from r [] u h = h
  links_from Lac (c ∷ ds) u h = links_from Lac ds u h
  links_from Lns (c ∷ ds) u h =
      let k = kept_call Lns u.on c in
      let v = linked (link_env u.on) Opens (new_link (link_env u.on)) in
      subst (λ o. FromBack (opens_links Lns ds (links_by Lns [] c.local k v o u)).moves) (sym (opens_ends (link_env u.on)))
      (links_from Lns ds (negotiated c.local k v u) (negotiated_from c.local k v u h))

  -- nothing else changes of ids, of the calls that are made and of where its tunnel goes
  pub record IsAsBack (u v : Turn) : Type 0 where
    pub ids : v.ids ≡ u.ids
    pub added : v.added ≡ u.added
    pub control : v.control ≡ u.control

  links_keep : (r : Role) (ds : List BookCall) (u : Turn) → IsAsBack u (opens_links r ds u)
  unfolding opens_links opens_link links_by
  links_keep r [] u = record { ids = refl; added = refl; control = refl }
  links_keep Lac (c ∷ ds) u = links_keep Lac ds u
  links_keep Lns (c ∷ ds) u =
      let k = kept_call Lns u.on c in
      let v = linked (link_env u.on) Opens (new_link (link_env u.on)) in
      let is = negotiated_is c.local k v u in
      let h = links_keep Lns ds (negotiated c.local k v u) in
      subst (λ o. IsAsBack u (opens_links Lns ds (links_by Lns [] c.local k v o u))) (sym (opens_ends (link_env u.on)))
      (record { ids = h.ids ∙ ap (λ (y : Turn). y.ids) is; added = h.added ∙ ap (λ (y : Turn). y.added) is; control = h.control ∙ ap (λ (y : Turn). y.control) is })

  abbrev pub restored_turn : Turn
  restored_turn = (restores e.role e.config cs b local draw start).turn

  -- it tells no call as gone
  links_still : (r : Role) (ds : List BookCall) (u : Turn) → TellsIn [] u → TellsIn [] (opens_links r ds u)
  unfolding opens_links opens_link links_by
  links_still r [] u h = h
  links_still Lac (c ∷ ds) u h = links_still Lac ds u h
  links_still Lns (c ∷ ds) u h =
      let k = kept_call Lns u.on c in
      let v = linked (link_env u.on) Opens (new_link (link_env u.on)) in
      subst (λ o. TellsIn [] (opens_links Lns ds (links_by Lns [] c.local k v o u))) (sym (opens_ends (link_env u.on)))
      (links_still Lns ds (negotiated c.local k v u) (negotiated_still [] c.local k v u h))

  pub restored_tells : TellsIn [] restored_turn
  unfolding restores attempted with_move
  restored_tells =
      let h = goes_still [] (on_channel channel (ByAttempt attempt)) back_turn (record { gone = refl; killed = back_kills e.role i b.peer cs }) in
      subst (λ (u : Turn). TellsIn [] (opens_links e.role cs (attempted e.role e.config local draw (with_move back u)).turn)) (sym (keeps_is e.role cs start))
      (links_still e.role cs gone.turn h)

  -- what holds of its calls as they came back, and after one that is established is put, holds of those that the turn leaves
  module _ (P : List (ℕ × Call) → Type 0) (on : (es : List (ℕ × Call)) (c : BookCall) → Among c cs → (d : Call) → d.state ≡ call.Established → P es → P (put es c.local d)) where
    links_hold : (r : Role) (ds : List BookCall) → ((c : BookCall) → Among c ds → Among c cs) → (u : Turn) → P (with_calls u.changed [])
        → P (with_calls (opens_links r ds u).changed [])
    unfolding opens_links opens_link links_by
    links_hold r [] within u h = h
    links_hold Lac (c ∷ ds) within u h = links_hold Lac ds (λ d a. within d (inr a)) u h
    links_hold Lns (c ∷ ds) within u h =
        let k = kept_call Lns u.on c in
        let v = linked (link_env u.on) Opens (new_link (link_env u.on)) in
        subst (λ o. P (with_calls (opens_links Lns ds (links_by Lns [] c.local k v o u)).changed [])) (sym (opens_ends (link_env u.on)))
        (links_hold Lns ds (λ d a. within d (inr a)) (negotiated c.local k v u)
        (subst P (sym (negotiated_put [] c.local k v u)) (on (with_calls u.changed []) c (within c (inl refl)) (linked_call k v) (counted_state v.frames k) h)))

    pub restored_hold : P (listed e.role start.on cs) → P (with_calls restored_turn.changed [])
    unfolding restores attempted with_move
    restored_hold h =
        let w = has_gone in
        subst (λ (u : Turn). P (with_calls (opens_links e.role cs (attempted e.role e.config local draw (with_move back u)).turn).changed [])) (sym (keeps_is e.role cs start))
        (links_hold e.role cs (λ c a. a) gone.turn
        (subst P (sym (ap (λ (u : Turn). with_calls u.changed []) w.only ∙ entries_listed e.role start.on n cs rise)) h))

  pub restored_keeps : IsAsBack back_turn restored_turn
  unfolding restores attempted with_move
  restored_keeps =
      let w = has_gone in
      let h = links_keep e.role cs gone.turn in
      let so : IsAsBack back_turn (opens_links e.role cs gone.turn) = record {
        ids = h.ids ∙ ap (λ (u : Turn). u.ids) w.only;
        added = h.added ∙ ap (λ (u : Turn). u.added) w.only;
        control = h.control ∙ ap (λ (u : Turn). u.control) w.only;
      } in
      subst (λ (u : Turn). IsAsBack back_turn (opens_links e.role cs (attempted e.role e.config local draw (with_move back u)).turn)) (sym (keeps_is e.role cs start)) so

  pub restored_from : FromBack (restored_by e (env_of e moment block) cs b (Ok local) (Ok draw)).moves
  unfolding restored_by restores attempted with_move after_turn
  restored_from =
      let w = has_gone in
      let moves : gone.turn.moves ≡ back ∷ [] = ap (λ (u : Turn). u.moves) w.only in
      let first : FromBack gone.turn.moves = record { rest = []; is = moves; so = tt; links = tt } in
      subst (λ (u : Turn). FromBack (opens_links e.role cs (attempted e.role e.config local draw (with_move back u)).turn).moves) (sym (keeps_is e.role cs start))
      (links_from e.role cs gone.turn first)

  pub restored_step : IsStep e moment ev (restored_by e (env_of e moment block) cs b (Ok local) (Ok draw))
  unfolding restored_by restores attempted with_move
  restored_step =
      let w = has_gone in
      let step = opened_step e.role refl w.after w.whole w.only in
      let so = subst (λ (x : Option Recovering). IsStep e moment ev (after_turn e i [] [] x (opens_links e.role cs gone.turn))) (sym w.is) step in
      subst (λ (u : Turn).
      let g = attempted e.role e.config local draw (with_move back u) in
      IsStep e moment ev (after_turn e i [] [] g.recovery (opens_links e.role cs g.turn))) (sym (keeps_is e.role cs start)) so

-- ---- or it is forgotten

gone_of_moves : (moment : ℕ) (ev : Event) (e x : End) (ms : List Move) (cs : List BookCall) → AllByRecursion (IsOfMoves moment ev e ms x) (gone_with cs)
gone_of_moves moment ev e x ms [] = tt
gone_of_moves moment ev e x ms (c ∷ cs) = (tt, gone_of_moves moment ev e x ms cs)

forgotten_chain : (e : End) → AreKept e → (moment : ℕ) (ev : Event) (b : BookTunnel) (cs : List BookCall) → at e.tunnels b.local ≡ None
    → IsChain e moment ev (forgets e cs b)
unfolding forgets
forgotten_chain e kept moment ev b cs none = record {
  chain = (e, record { none = none; after = refl }, refl);
  outputs = gone_of_moves moment ev e e _ cs;
  frames = (tt, tt);
  kept = kept;
}

-- ---- each of them

pub rise_filter : (p : BookCall → Bool) (n : ℕ) (cs : List BookCall) → CallsRise n cs → CallsRise n (filter p cs)
rise_filter p n [] rise = tt
rise_filter p n (c ∷ cs) rise =
    branch (CallsRise n) (p c) _ _
    (λ yes. (rise.0, rise_filter p c.local cs rise.1))
    (λ no. rise_from n c.local (filter p cs) rise.0 (rise_filter p c.local cs rise.1))

-- no tunnel has an id above
abbrev pub AreUpTo : ℕ → List (ℕ × Tunnel) → Type 0
AreUpTo n tunnels = (j : ℕ) (t : Tunnel) → at tunnels j ≡ Some t → j ≤ n

pub none_above : (n i : ℕ) (tunnels : List (ℕ × Tunnel)) → AreUpTo n tunnels → n < i → at tunnels i ≡ None
none_above n i tunnels up over = by (at tunnels i) refl
  where
    by : (o : Option Tunnel) → at tunnels i ≡ o → o ≡ None
    by None is = refl
    by (Some t) is = let low = up i t is in absurd (omega (arith, low, over))

pub up_after : (n i : ℕ) (tunnels : List (ℕ × Tunnel)) → Ascends tunnels → AreUpTo n tunnels → n < i → (cleared : Bool) (t : Tunnel)
    → AreUpTo i (tunnels_after tunnels i cleared t)
up_after n i tunnels order up over true t j u there = let low = up j u (found_without tunnels i j u order there).1 in omega (arith, low, over)
up_after n i tunnels order up over false t j u there = ⊎_elim
    (λ (a : (j ≡ i) × (t ≡ u)). let same = a.0 in omega (arith, same))
    (λ (a : (j ≡ i → ⊥) × (at tunnels j ≡ Some u)). let low = up j u a.1 in omega (arith, low, over))
    (found_put tunnels i t j u there)

module _ (k : Kept) (book : IsBook k) (moment : ℕ) (block : List ℕ) (ev : Event) where
  -- a tunnel that came back or was forgotten, and the ids that there are then
  pub record IsBack (x : End) (n : ℕ) (s : Stepped) : Type 0 where
    pub chain : IsChain x moment ev s
    pub up : AreUpTo n s.end.tunnels

  module _ (x : End) (kept : AreKept x) (n : ℕ) (up : AreUpTo n x.tunnels) (b : BookTunnel) (over : n < b.local) where
    abbrev own : List BookCall
    own = calls_of b.local k.calls

    forgotten : IsBack x b.local (forgets x own b)
    unfolding forgets
    forgotten = record {
      chain = forgotten_chain x kept moment ev b own (none_above n b.local x.tunnels up over);
      up = λ j t there. let low = up j t there in omega (arith, low, over);
    }

    by_ids : can_recover b ≡ true → (p q : Result ℕ IdError) → takes_id x.tunnel_ids ≡ p → takes_id x.recovery_ids ≡ q
        → IsBack x b.local (restored_by x (env_of x moment block) own b p q)
    unfolding restored_by after_turn
    by_ids can (Err y) q drawn drew = forgotten
    by_ids can (Ok local) (Err y) drawn drew = forgotten
    by_ids can (Ok local) (Ok draw) drawn drew = record {
      chain = (restored_step x kept moment ev block b own (none_above n b.local x.tunnels up over) (λ z. absurd (omega (arith, z, over))) 0
          (rise_filter (λ c. c.tunnel == b.local) 0 k.calls book.calls) (book.few b.local) can local draw drawn drew).chain;
      up = let r = restores x.role x.config own b local draw (turn_of (kept_control moment b) (env_of x moment block)) in
          up_after n b.local x.tunnels kept.order up over r.turn.cleared (tunnel_after r.turn [] [] r.recovery);
    }

    pub comes_back : IsBack x b.local (restored k x (env_of x moment block) b)
    unfolding restored
    comes_back =
        branch (IsBack x b.local) (can_recover b) _ _
        (λ can. by_ids can (takes_id x.tunnel_ids) (takes_id x.recovery_ids) refl refl)
        (λ cannot. forgotten)

  all_back : (x : End) (bs : List BookTunnel) (n : ℕ) (s : Stepped) → TunnelsRise n bs → IsBack x n s → IsChain x moment ev (restored_all k moment block bs s)
  unfolding restored_all
  all_back x [] n s rise h = h.chain
  all_back x (b ∷ bs) n s rise h =
      let y = restored k s.end (env_of s.end moment block) b in
      let one = comes_back s.end h.chain.kept n h.up b rise.0 in
      all_back x bs b.local (behind_all s y) rise.1 (record { chain = both_chain moment ev x s y h.chain one.chain; up = one.up })

pub bare_kept : (r : Role) (c : Config) (k : Kept) → AreKept (bare_end r c k)
bare_kept r c k = record {
  tunnels = λ i t there. absurd (none-some t (sym (at-none i) ∙ there));
  order = ascends-empty [] refl;
  places = ascends-empty [] refl;
  sessions = omega arith;
  first = omega arith;
}

pub starts_are_chains : StartsAreChains
unfolding starts
starts_are_chains r c k sound moment block ev =
    let book = sound_book k sound in
    all_back k book moment block ev (bare_end r c k) k.tunnels 0 (record { end = bare_end r c k; outputs = []; moves = [] }) book.tunnels (record {
      chain = record { chain = refl; outputs = tt; frames = tt; kept = bare_kept r c k };
      up = λ j t there. absurd (none-some t (sym (at-none j) ∙ there));
    })

-- ---- its moves are of the book

module _ (k : Kept) (book : IsBook k) (moment : ℕ) (block : List ℕ) (ev : Event) where
  links_of : (ms : List Move) → AllByRecursion IsOfLink ms → AllByRecursion (IsOfStart k) ms
  links_of [] so = tt
  links_of (m ∷ ms) so = (one m so.0, links_of ms so.1)
    where
      one : (m : Move) → IsOfLink m → IsOfStart k m
      one (move.Negotiated m) so = tt
      one (move.Counted m) so = tt
      one (move.FrameSent m) so = tt
      one m so = absurd so

  module _ (x : End) (kept : AreKept x) (n : ℕ) (up : AreUpTo n x.tunnels) (b : BookTunnel) (over : n < b.local)
      (among : Among b k.tunnels) where
    abbrev its_calls : List BookCall
    its_calls = calls_of b.local k.calls

    of_ids : can_recover b ≡ true → (p q : Result ℕ IdError) → takes_id x.tunnel_ids ≡ p → takes_id x.recovery_ids ≡ q
        → AllByRecursion (IsOfStart k) (restored_by x (env_of x moment block) its_calls b p q).moves
    unfolding restored_by forgets
    of_ids can (Err y) q drawn drew = (tt, tt)
    of_ids can (Ok local) (Err y) drawn drew = (tt, tt)
    of_ids can (Ok local) (Ok draw) drawn drew =
        let from = restored_from x kept moment ev block b its_calls (none_above n b.local x.tunnels up over)
        (λ z. absurd (omega (arith, z, over))) 0
        (rise_filter (λ c. c.tunnel == b.local) 0 k.calls book.calls) (book.few b.local) can local draw drawn drew in
        subst (AllByRecursion (IsOfStart k)) (sym from.is) ((among, refl), links_of from.rest from.links)

    of_one : AllByRecursion (IsOfStart k) (restored k x (env_of x moment block) b).moves
    unfolding restored forgets
    of_one =
        branch (λ (s : Stepped). AllByRecursion (IsOfStart k) s.moves) (can_recover b) _ _
        (λ can. of_ids can (takes_id x.tunnel_ids) (takes_id x.recovery_ids) refl refl)
        (λ cannot. (tt, tt))

  all_of : (x : End) (bs : List BookTunnel) (n : ℕ) (s : Stepped) → ((b : BookTunnel) → Among b bs → Among b k.tunnels) → TunnelsRise n bs
      → IsBack k book moment block ev x n s → AllByRecursion (IsOfStart k) s.moves
      → AllByRecursion (IsOfStart k) (restored_all k moment block bs s).moves
  unfolding restored_all
  all_of x [] n s within rise h so = so
  all_of x (b ∷ bs) n s within rise h so =
      let y = restored k s.end (env_of s.end moment block) b in
      let one = comes_back k book moment block ev s.end h.chain.kept n h.up b rise.0 in
      all_of x bs b.local (behind_all s y) (λ c a. within c (inr a)) rise.1
      (record { chain = both_chain moment ev x s y h.chain one.chain; up = one.up })
      (all_append (IsOfStart k) s.moves y.moves so (of_one s.end h.chain.kept n h.up b rise.0 (within b (inl refl))))

pub starts_are_of_books : StartsAreOfBooks
unfolding starts
starts_are_of_books r c k sound moment block =
    let book = sound_book k sound in
    all_of k book moment block Tick (bare_end r c k) k.tunnels 0 (record { end = bare_end r c k; outputs = []; moves = [] })
    (λ b a. a) book.tunnels (record {
      chain = record { chain = refl; outputs = tt; frames = tt; kept = bare_kept r c k };
      up = λ j t there. absurd (none-some t (sym (at-none j) ∙ there));
    }) tt
