-- What an end answers is what the machine does, where a world is joined with it.
use Rattle.std.proofs.Common.{◌≡◌, ◌≢◌, ⊎_elim, ℕ, ◌<◌, Bool, true, false, not, ◌&&◌, List, [], ◌∷◌, map, refl, sym, ap, ap₂, ◌∙◌, subst, Option, Some, None, cond, eqb, arith}
use Rattle.std.proofs.lemmas.Bool.{eqb-true, eqb-false, eq-eqb, ne_eqb}
use Rattle.std.specs.Prelude.{◌==◌, ◌||◌, filter, if◌then◌else◌}
use Rattle.std.specs.List.{AllByRecursion, list_any}
use Rattle.id_table.specs.Ids.{at, at-none, at-cons}
use Rattle.id_table.specs.Order.{IsAbove, Ascends, same_or_not}
use Rattle.wire_base.specs.declared.pair.Pair.{Pair}
use Rattle.call_fsm.specs.declared.table.CallState.{CallState}
use Rattle.call_fsm.specs.declared.table.CallState.TheVariants as call
use Rattle.session_query.specs.Queries.{is_pair, is_here, answer_to, answers_to}
use Rattle.end_model.specs.declared.tunnel.Call.{Call}
use Rattle.end_model.specs.Calls.{is_up, pair_of, is_session, sessions_of}
use Rattle.end_model.specs.Querying.{has_remote}
use Rattle.end_model.specs.Tunnels.{Tunnel}
use Rattle.world_model.specs.World.{World}
use Rattle.epoch_machine.specs.Letters.{Fsr}
use Rattle.epoch_machine.specs.Worlds as machine
use Rattle.epoch_machine.specs.Calls as calls
use Rattle.epoch_machine.specs.Calls.{stands_with}
use Rattle.birth_laws.specs.Births.{BirthsOfRuns, CallsHold}
use Rattle.coverage_laws.specs.Coverage.{CoverageOfRuns}
use Rattle.session_laws.specs.Names.{name, name_of, state_of}
use Rattle.channel_laws.specs.Accounts.{History}
use Rattle.channel_laws.specs.Facts.{IsMade, EndOk, BookOk, NodeOk}
use Rattle.channel_laws.specs.Epochs.{IsLive}
use Rattle.recovery_laws.specs.Joined.{CallJoined, CallsJoined, NodeJoined}
use Rattle.recovery_laws.specs.Queries.{answers_in}
use Rattle.recovery_laws.specs.Asking.{answers}
use Rattle.recovery_laws.specs.Answers.{asked_for, JoinedWorldsAnswer}
use Rattle.recovery_laws.proofs.Epochs.{known_name}
use Rattle.recovery_laws.proofs.Covered.{names_same}
use Rattle.recovery_laws.proofs.Pairs.{Ground, ground_of, no_other, some_number, up_state, ups}

-- ---- which sessions are here

above_none : (calls : List (ℕ × Call)) (p : Pair) → IsAbove p.receiver calls → is_here (sessions_of calls) p ≡ false
unfolding sessions_of
above_none [] p h = refl
above_none (c ∷ cs) p h = by (is_session c) (above_none cs p h.1)
  where
    other : (c.0 == p.receiver) ≡ false
    other = ne_eqb c.0 p.receiver (λ same. (let lt = h.0 in let no : ⊥ = omega (arith, lt, same) in no))

    by : (b : Bool) → list_any (λ x. is_pair p x) (map pair_of (filter is_session cs)) ≡ false
        → list_any (λ x. is_pair p x) (map pair_of (cond b (c ∷ filter is_session cs) (filter is_session cs))) ≡ false
    by true rest = ap (λ b. (b && c.1.remote == p.sender) || list_any (λ x. is_pair p x) (map pair_of (filter is_session cs))) other ∙ rest
    by false rest = rest

-- a session is here exactly where the call with its id is established, and has the other end's
here_is : (calls : List (ℕ × Call)) (p : Pair) → Ascends calls → is_here (sessions_of calls) p ≡ has_remote p.sender (at calls p.receiver)
unfolding sessions_of Ascends
here_is [] p h = sym (ap (has_remote p.sender) (at-none p.receiver))
here_is (c ∷ cs) p h = by (is_session c) refl (eqb p.receiver c.0) refl (here_is cs p h.1)
  where
    found : eqb p.receiver c.0 ≡ true → at (c ∷ cs) p.receiver ≡ Some c.1
    found is = at-cons c cs p.receiver ∙ ap (λ b. cond b (Some c.1) (at cs p.receiver)) is

    further : eqb p.receiver c.0 ≡ false → at (c ∷ cs) p.receiver ≡ at cs p.receiver
    further is = at-cons c cs p.receiver ∙ ap (λ b. cond b (Some c.1) (at cs p.receiver)) is

    none_behind : eqb p.receiver c.0 ≡ true → is_here (sessions_of cs) p ≡ false
    none_behind is = above_none cs p (subst (λ k. IsAbove k cs) (sym (eqb-true p.receiver c.0 is)) h.0)

    first : (b : Bool) → eqb p.receiver c.0 ≡ b → (c.0 == p.receiver) ≡ b
    first true is = eq-eqb c.0 p.receiver (sym (eqb-true p.receiver c.0 is))
    first false is = ne_eqb c.0 p.receiver (λ same. eqb-false p.receiver c.0 is (sym same))

    or_false : (b : Bool) → (b || false) ≡ b
    or_false true = refl
    or_false false = refl

    by : (u : Bool) → is_session c ≡ u → (b : Bool) → eqb p.receiver c.0 ≡ b
        → list_any (λ x. is_pair p x) (map pair_of (filter is_session cs)) ≡ has_remote p.sender (at cs p.receiver)
        → list_any (λ x. is_pair p x) (map pair_of (cond u (c ∷ filter is_session cs) (filter is_session cs))) ≡ has_remote p.sender
        (at (c ∷ cs) p.receiver)
    by true up true is rest =
        ap (λ b. (b && c.1.remote == p.sender) || list_any (λ x. is_pair p x) (map pair_of (filter is_session cs))) (first true is)
        ∙ (ap (λ b. (c.1.remote == p.sender) || b) (none_behind is) ∙ (or_false (c.1.remote == p.sender)
        ∙ sym (ap (has_remote p.sender) (found is) ∙ ap (λ b. b && c.1.remote == p.sender) up)))
    by true up false is rest =
        ap (λ b. (b && c.1.remote == p.sender) || list_any (λ x. is_pair p x) (map pair_of (filter is_session cs))) (first false is)
        ∙ (rest ∙ sym (ap (has_remote p.sender) (further is)))
    by false up true is rest = none_behind is ∙ sym (ap (has_remote p.sender) (found is) ∙ ap (λ b. b && c.1.remote == p.sender) up)
    by false up false is rest = rest ∙ sym (ap (has_remote p.sender) (further is))

-- ---- what stands

false_behind : (b : Bool) → (b && false) ≡ false
false_behind true = refl
false_behind false = refl

same_up : (s : CallState) → calls.is_up (state_of s) ≡ is_up s
same_up call.Idle = refl
same_up call.WaitTunnel = refl
same_up call.WaitReply = refl
same_up call.WaitConnect = refl
same_up call.Established = refl

-- the calls of a tunnel that goes to a peer are the machine's; `fits` says of which ids it is known that there is none by them
pub record TunnelCalls (fits : ℕ → Type 0) (m : machine.World) (n i peer : ℕ) (t : Tunnel) : Type 0 where
  pub known : CallsHold m.tunnels m.calls
  pub order : Ascends t.calls
  pub live : (r : ℕ) (c : Call) → at t.calls r ≡ Some c → CallJoined m n i peer r c
  pub gone : (r : ℕ) → fits r → at t.calls r ≡ None → m.calls.tunnel (name n r) ≡ name n i → calls.is_up (m.calls.state (name n r)) ≡ false

module _ (fits : ℕ → Type 0) (m : machine.World) (n i peer : ℕ) (t : Tunnel) (g : TunnelCalls fits m n i peer t) where
  -- a call that isn't established doesn't stand
  not_up : (z own : ℕ) → calls.is_up (m.calls.state z) ≡ false → stands_with m.calls (name n i) z own ≡ false
  not_up z own down =
      ap (λ b. (m.calls.tunnel z == name n i) && (b && (m.calls.remote z == own))) down ∙ false_behind (m.calls.tunnel z == name n i)

  none_stands : (r own : ℕ) → fits r → at t.calls r ≡ None → stands_with m.calls (name n i) (name n r) own ≡ false
  none_stands r own fits none = by (m.calls.tunnel (name n r) == name n i) refl
    where
      by : (b : Bool) → (m.calls.tunnel (name n r) == name n i) ≡ b → stands_with m.calls (name n i) (name n r) own ≡ false
      by false other = ap (λ b. b && (calls.is_up (m.calls.state (name n r)) && (m.calls.remote (name n r) == own))) other
      by true its =
          not_up (name n r) own (g.gone r fits none (eqb-true _ _ its))

  call_stands : (r s : ℕ) (c : Call) → at t.calls r ≡ Some c
      → stands_with m.calls (name n i) (name n r) (name peer s) ≡ (is_up c.state && c.remote == s)
  call_stands r s c there = by (is_up c.state) refl
    where
      j : CallJoined m n i peer r c
      j = g.live r c there

      up_is : calls.is_up (m.calls.state (name n r)) ≡ is_up c.state
      up_is = ap calls.is_up j.state ∙ same_up c.state

      by : (u : Bool) → is_up c.state ≡ u → stands_with m.calls (name n i) (name n r) (name peer s) ≡ (u && c.remote == s)
      by false down = not_up (name n r) (name peer s) (up_is ∙ down)
      by true up =
          let state : m.calls.state (name n r) ≡ calls.Up = j.state ∙ up_state c.state up in
          let some : m.calls.remote (name n r) ≢ 0 = g.known.up_remote (name n r)
          (g.known.booked_up (name n r) (g.known.up_booked (name n r) state)) in
          let remote_some : 0 < c.remote = some_number c.remote (λ z. some (j.remote ∙ ap (λ q. name_of peer q) z)) in
          ap (λ b. b && (calls.is_up (m.calls.state (name n r)) && (m.calls.remote (name n r) == name peer s)))
          (eq-eqb (m.calls.tunnel (name n r)) (name n i) j.tunnel)
          ∙ (ap (λ b. b && (m.calls.remote (name n r) == name peer s)) (up_is ∙ up)
          ∙ (ap (λ q. q == name peer s) (j.remote ∙ known_name peer c.remote remote_some) ∙ names_same peer c.remote s))

  pub session_stands : (r s : ℕ) → fits r → stands_with m.calls (name n i) (name n r) (name peer s) ≡ has_remote s (at t.calls r)
  session_stands r s fits = by (at t.calls r) refl
    where
      by : (o : Option Call) → at t.calls r ≡ o → stands_with m.calls (name n i) (name n r) (name peer s) ≡ has_remote s o
      by None none = none_stands r (name peer s) fits none
      by (Some c) there = call_stands r s c there

  -- no call has the name 0
  zero_stands : (own : ℕ) → stands_with m.calls (name n i) 0 own ≡ false
  zero_stands own = not_up 0 own (ap calls.is_up (g.known.nameless 0 g.known.zero).state)

  says_so : (p : Pair) → fits p.receiver → stands_with m.calls (name n i) (name_of n p.receiver) (name peer p.sender)
      ≡ not ((answer_to (sessions_of t.calls) p).sender == 0)
  says_so p fits = ⊎_elim
      (λ (none : p.receiver ≡ 0).
      ap (λ q. stands_with m.calls (name n i) (name_of n q) (name peer p.sender)) none
      ∙ (zero_stands (name peer p.sender) ∙ sym
      (ap (λ q. not ((if is_here (sessions_of t.calls) p then q else 0) == 0)) none ∙ nothing (is_here (sessions_of t.calls) p))))
      (λ (some : p.receiver ≡ 0 → ⊥).
      ap (λ z. stands_with m.calls (name n i) z (name peer p.sender)) (known_name n p.receiver (some_number p.receiver some))
      ∙ (session_stands p.receiver p.sender fits
      ∙ (sym (here_is t.calls p g.order) ∙ sym
      (something some (is_here (sessions_of t.calls) p)))))
      (same_or_not p.receiver 0)
    where
      nothing : (b : Bool) → not ((if b then 0 else 0) == 0) ≡ false
      nothing true = refl
      nothing false = refl

      something : (p.receiver ≡ 0 → ⊥) → (b : Bool) → not ((if b then p.receiver else 0) == 0) ≡ b
      something some true = ap not (ne_eqb p.receiver 0 some)
      something some false = refl

  pub all_so : (pairs : List Pair) → AllByRecursion (λ (p : Pair). fits p.receiver) pairs
      → answers m.calls (name n i) (map (λ p. asked_for n peer p) pairs) ≡ answers_in n peer pairs (answers_to (sessions_of t.calls) pairs)
  all_so [] fit = refl
  all_so (p ∷ ps) fit =
      ap₂ (λ b ls. Fsr (name_of n p.receiver) (name peer p.sender) b ∷ ls) (says_so p fit.0) (all_so ps fit.1)

-- so they are in a world that is joined
pub tunnel_calls : (w : World) (h : History) (m : machine.World) → Ground w h m → (n i : ℕ) (t : Tunnel) → IsLive w n i t
    → TunnelCalls (λ r. r < 65536) m n i (h.accounts n i 0).peer t
tunnel_calls w h m g n i t is = record {
  known = g.known;
  order = ((ups w h m g n i t is).kept.tunnels i t is.there).calls;
  live = λ r c there. calls_are.live i t is.there r c there;
  gone = λ r fits none its.
      ap calls.is_up (calls_are.gone r fits (no_other w h m g n i t is calls_are ((g.holds.accounts n i 0).id made) r none its));
}
  where
    made : IsMade (h.accounts n i 0)
    made =
        let k : EndOk w h n is.node.end × BookOk h n is.node.checkpoint.book = subst (NodeOk w h n) is.is (g.holds.nodes n) in
        (k.0.live i t is.there).made

    calls_are : CallsJoined m h n is.node
    calls_are =
        let c : NodeJoined m h n (Some is.node) = subst (NodeJoined m h n) is.is (g.joined.nodes n ((g.holds.accounts n i 0).node made)) in
        c.1

pub joined_worlds_answer : BirthsOfRuns → CoverageOfRuns → JoinedWorldsAnswer
joined_worlds_answer births coverage w h m nodes holds joined n i t is pairs fit =
    all_so (λ r. r < 65536) m n i (h.accounts n i 0).peer t
    (tunnel_calls w h m (ground_of births coverage w h m nodes holds joined) n i t is) pairs fit
