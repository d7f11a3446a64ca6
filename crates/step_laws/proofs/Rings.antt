-- Each ring comes to a call that lives after the step, or to one cause.
use Rattle.step_laws.proofs.Callers.{turns_ring, ring_no_tick}
use Rattle.step_laws.specs.Callers.{IsRing}
use Rattle.std.proofs.Common.{◌≡◌, ◌⊎◌, inl, inr, ⊎_elim, ℕ, Bool, true, false, zero, suc, List, [], ◌∷◌, refl, sym, ap, ◌∙◌, subst, arith, Option, Some, None, Result, Ok, Err}
use Rattle.std.proofs.lemmas.Bool.{true≢false, eqb-true}
use Rattle.std.specs.Prelude.{◌==◌, ◌&&◌, ◌||◌, nat_le, length, is_some}
use Rattle.id_table.specs.Ids.{at, put}
use Rattle.id_table.specs.Order.{at_new}
use Rattle.id_source.specs.Spaces.{takes_id, draw_is}
use Rattle.id_source.specs.declared.IdError.{IdError}
use Rattle.wire_base.specs.declared.cause.Cause.{Cause as CauseOf}
use Rattle.wire_base.specs.declared.cause.Cause.TheVariants as cause
use Rattle.wire_base.specs.declared.letter.Letter.{Letter}
use Rattle.control_channel.specs.Numbers.{next_to_go}
use Rattle.tunnel_fsm.specs.declared.table.TunnelState.TheVariants.{WaitCtlReply, Established}
use Rattle.tunnel_fsm.specs.Rows.{state_number}
use Rattle.call_fsm.specs.declared.table.CallEvent.TheVariants as call_event
use Rattle.session_looks.specs.declared.look.CellChange.{CellChange}
use Rattle.session_looks.specs.declared.look.CellChange.TheVariants as cell
use Rattle.session_looks.specs.declared.look.Look.TheVariants as look
use Rattle.end_model.specs.declared.event.Event.{Event}
use Rattle.end_model.specs.declared.event.Event.TheVariants.{Datagram, Ring, Frame, Admitted, Payload, Lower, Lcp, Hang, OpenTunnel, DropCall, CloseTunnel, Tick}
use Rattle.end_names.specs.declared.role.Role.TheVariants.{Lac}
use Rattle.end_model.specs.declared.tunnel.Call.{Call}
use Rattle.end_model.specs.declared.tunnel.CallPlace.{CallPlace}
use Rattle.end_model.specs.declared.out.Out.TheVariants.{Cause}
use Rattle.end_model.specs.Calls.{call_row, is_lac, advanced, rung, is_request, are_too_many}
use Rattle.end_model.specs.Tunnels.{Env, Turn, Tunnel, turn_of, turn_in, Recovering}
use Rattle.end_model.specs.Turn.{with_output, with_move, with_change, with_call, with_new}
use Rattle.end_model.specs.Openings.{with_local, fresh, opened}
use Rattle.end_model.specs.Sending.{gives, gives_as, sends_letter, sends_now, lets_go, goes_by, lets_all_go, acknowledges, outstanding, acknowledged_after, settles}
use Rattle.end_model.specs.Channels.{has_room, may_take}
use Rattle.end_model.specs.Ringing.{requested, requests, adds, rings_over, rings_by, rings_within, rings_new, rings}
use Rattle.end_model.specs.Events.{turns}
use Rattle.end_model.specs.End.{End, Stepped, env_of, gives_only, new_place, placed, with_look, with_looks, after_turn, after_new, in_new, has_all_tunnels, in_one_more, in_main, least_in, rings_in, rings_at, only_by, step_in, plain_step, are_recovering}
use Rattle.step_laws.specs.Steps.{AreKept}
use Rattle.step_laws.specs.Answers.{causes_of, cause_of_output}
use Rattle.step_laws.specs.Rings.{IsRingCause, ForTunnels, ForCalls, ForRoom, ForIds, RingComes, ToCall, ToCause, RingsCome, ForRecovery}
use Rattle.step_laws.proofs.Lists.{branch}
use Rattle.step_laws.proofs.Owing.{spare_room}
use Rattle.step_laws.proofs.States.{rung_asks}
use Rattle.step_laws.proofs.Still.{settled_told}
use Rattle.step_laws.proofs.Chosen.{least_open, least_opening}
use Rattle.end_model.specs.Recovering.{recovering_turns}

-- ---- what settles a turn adds no call, and changes no look

abbrev Seen : Type 0
Seen = ℕ × List ℕ × List CellChange

abbrev seen : Turn → Seen
seen t = (t.control.local, t.added, t.changes)

sent_seen : (number : ℕ) (o : Option Letter) (t : Turn) → seen (sends_letter number o t) ≡ seen t
unfolding sends_letter with_output
sent_seen number None t = refl
sent_seen number (Some l) t = branch (λ u. seen u ≡ seen t) (nat_le (length l.avps) 65523) _ _ (λ fits. refl) (λ long. refl)

gone_seen : (letters : List Letter) (number : ℕ) (t : Turn) → seen (lets_go letters number t) ≡ seen t
unfolding lets_go sends_now with_move
gone_seen letters number t = sent_seen number _ _

gone_by_seen : (rest : Turn → Turn) → ((u : Turn) → seen (rest u) ≡ seen u) → (letters : List Letter) (o : Option ℕ) (t : Turn)
    → seen (goes_by rest letters o t) ≡ seen t
unfolding goes_by
gone_by_seen rest on letters None t = refl
gone_by_seen rest on letters (Some number) t = on (lets_go letters number t) ∙ gone_seen letters number t

all_gone_seen : (most : ℕ) (letters : List Letter) (t : Turn) → seen (lets_all_go most letters t) ≡ seen t
unfolding lets_all_go
all_gone_seen zero letters t = refl
all_gone_seen (suc most) letters t = gone_by_seen (lets_all_go most letters) (all_gone_seen most letters) letters (next_to_go t.control.channel) t

settled_seen : (again : Bool) (letters : List Letter) (t : Turn) → seen (settles again letters t) ≡ seen t
unfolding settles acknowledged_after acknowledges with_output with_move
settled_seen again letters t =
    let u = lets_all_go t.control.channel.window.queued letters t in
    let same = all_gone_seen t.control.channel.window.queued letters t in
    branch (λ v. seen v ≡ seen t) (again || (u.took && (outstanding u == outstanding t))) _ _ (λ yes. same) (λ no. same)

-- ---- calls that live

-- a call that is added has its place, also where its look is bound then
abbrev IsBound : ℕ → List CellChange → Type 0
IsBound s cs = (cs ≡ []) ⊎ ((tunnel : ℕ) × (peer : ℕ) × (cs ≡ cell.Bind s tunnel peer ∷ []))

lives : (i s : ℕ) (cs : List CellChange) (places : List (ℕ × CallPlace)) → IsBound s cs → is_some (at (with_looks cs (placed i (s ∷ []) places)) s) ≡ true
unfolding placed with_looks with_look
lives i s cs places h = ⊎_elim
    (λ (none : cs ≡ []). rw (none, at_new places s (new_place i)) refl)
    (λ b. rw (b.2, at_new places s (new_place i), at_new (put places s (new_place i)) s (record (new_place i) { look = look.Bound b.0 b.1 })) refl)
    h

-- ---- what a turn comes to

-- it adds the call, in a tunnel of such an id, or tells a cause and does nothing
data Comes (e : End) (Q : ℕ → Type 0) (u : Turn) : Type 0 where
  Makes : (session : ℕ) → takes_id e.session_ids ≡ Ok session → u.added ≡ session ∷ [] → IsBound session u.changes → causes_of u.outputs ≡ []
      → Q u.control.local → Comes e Q u
  Tells : (c : CauseOf) → IsRingCause c → causes_of u.outputs ≡ c ∷ [] → u.added ≡ [] → u.changes ≡ [] → Comes e Q u

module _ (e : End) (Q : ℕ → Type 0) where
  same_comes : (u z : Turn) → seen z ≡ seen u → causes_of z.outputs ≡ causes_of u.outputs → Comes e Q u → Comes e Q z
  same_comes u z same told (Makes s drawn added bound none local) =
      Makes s drawn (ap (λ (q : Seen). q.1) same ∙ added) (subst (IsBound s) (sym (ap (λ (q : Seen). q.2) same)) bound) (told ∙ none)
      (subst Q (sym (ap (λ (q : Seen). q.0) same)) local)
  same_comes u z same told (Tells c is one added changes) =
      Tells c is (told ∙ one) (ap (λ (q : Seen). q.1) same ∙ added) (ap (λ (q : Seen). q.2) same ∙ changes)

  settled_comes : (letters : List Letter) (u : Turn) → Comes e Q u → Comes e Q (settles false letters u)
  settled_comes letters u h = same_comes u (settles false letters u) (settled_seen false letters u)
      (settled_told cause_of_output (λ peer bytes o. refl) false letters u) h

  after_comes : (i : ℕ) (letters : List Letter) (calls : List (ℕ × Call)) (recovery : Option Recovering) (u : Turn) → Comes e Q u
      → RingComes e (after_turn e i letters calls recovery u)
  unfolding after_turn placed with_looks
  after_comes i letters calls recovery u (Makes s drawn added bound none local) =
      ToCall s drawn (rw added (lives u.control.local s u.changes e.calls bound)) none
  after_comes i letters calls recovery u (Tells c is one added changes) = ToCause c is one (rw (added, changes) refl)

module _ (e : End) (kept : AreKept e) (lac : e.role ≡ Lac) (moment : ℕ) (block : List ℕ) (who : List ℕ) (ev : Event) (ring : IsRing ev who) where
  abbrev env : Env
  env = env_of e moment block

  -- ---- over a tunnel that is there

  module _ (i : ℕ) (t : Tunnel) (there : at e.tunnels i ≡ Some t) where
    abbrev start : Turn
    start = turn_in t env

    abbrev Old : Turn → Type 0
    Old u = Comes e (λ n. Unit {0}) u

    refused_old : (c : CauseOf) → IsRingCause c → Old (with_output (Cause c) start)
    unfolding with_output
    refused_old c is = Tells c is refl refl refl

    asked_old : (s : ℕ) → takes_id e.session_ids ≡ Ok s → may_take t.control t.calls ≡ true
        → Old (requests e.role e.config s (rung e.role who moment) (adds e.role who s start))
    unfolding requests requested gives_as with_change with_move with_call adds with_new rung advanced
    asked_old s drawn may =
        branch Old (is_request (call_row e.role (rung e.role who moment).state call_event.TunnelOpen).1) _ _
        (λ row. branch Old (has_room t.control) _ _
        (λ room. Makes s drawn refl (inr (t.control.local, t.control.peer, refl)) refl tt)
        (λ full. absurd (true≢false (sym (spare_room t.control t.calls may) ∙ full))))
        (λ none. absurd (true≢false (sym (rung_asks e.role who moment lac) ∙ none)))

    waits_old : (s : ℕ) → takes_id e.session_ids ≡ Ok s → Old (adds e.role who s start)
    unfolding adds with_move with_new
    waits_old s drawn = Makes s drawn refl (inl refl) refl tt

    drawn_old : may_take t.control t.calls ≡ true → (r : Result ℕ IdError) → takes_id e.session_ids ≡ r → Old (rings_by e.role e.config who r start)
    unfolding rings_by rings_over
    drawn_old may (Err x) drawn = refused_old cause.Ids ForIds
    drawn_old may (Ok s) drawn =
        branch Old (state_number t.control.state == 3) _ _ (λ is. asked_old s drawn may) (λ other. waits_old s drawn)

    rung_old : Old (turns e.role e.config t.letters t.calls ev start)
    unfolding rings rings_within
    rung_old =
        subst Old (sym (turns_ring e.role e.config t.letters t.calls ev who start ring))
        (settled_comes e (λ n. Unit {0}) t.letters _
        (branch Old (state_number t.control.state == 0) _ _
        (λ zero. absurd ((kept.tunnels i t there).busy (eqb-true (state_number t.control.state) 0 zero)))
        (λ some. branch Old (are_too_many t.calls) _ _
        (λ many. refused_old cause.Calls ForCalls)
        (λ few. branch Old (may_take t.control t.calls) _ _
        (λ may. drawn_old may (takes_id e.session_ids) refl)
        (λ full. refused_old cause.Queue ForRoom)))))

    old_comes : RingComes e (in_main e env ev i (at e.tunnels i))
    unfolding in_main recovering_turns
    old_comes =
        rw (there, ring_no_tick ev who ring)
        (after_comes e (λ n. Unit {0}) i t.letters t.calls t.recovery (turns e.role e.config t.letters t.calls ev start) rung_old)

  -- ---- over a tunnel that is opened for it

  abbrev blank : Turn
  blank = turn_of (fresh e.config.lns moment) env

  abbrev HasId : ℕ → Type 0
  HasId n = n ≡ 0 → ⊥

  abbrev New : Turn → Type 0
  New u = Comes e HasId u

  refused_new : (c : CauseOf) → IsRingCause c → New (with_output (Cause c) blank)
  unfolding with_output
  refused_new c is = Tells c is refl refl refl

  has_id : (n : ℕ) → takes_id e.tunnel_ids ≡ Ok n → HasId n
  has_id n drawn none = let d = draw_is e.tunnel_ids n drawn in let first = kept.first in let is = d.0 in omega (arith, none, first, is)

  opened_new : (s i : ℕ) → takes_id e.session_ids ≡ Ok s → takes_id e.tunnel_ids ≡ Ok i → New (adds e.role who s (opened e.role e.config i blank))
  unfolding adds with_new opened gives with_move with_local
  opened_new s i drawn got = Makes s drawn refl (inl refl) refl (has_id i got)

  ring_new : (r q : Result ℕ IdError) → takes_id e.session_ids ≡ r → takes_id e.tunnel_ids ≡ q → New (rings_new e.role e.config who r q blank)
  unfolding rings_new
  ring_new (Err x) q drawn got = refused_new cause.Ids ForIds
  ring_new (Ok s) (Err x) drawn got = refused_new cause.Ids ForIds
  ring_new (Ok s) (Ok i) drawn got =
      branch New (has_room blank.control) (adds e.role who s (opened e.role e.config i blank)) (with_output (Cause cause.Queue) blank)
      (λ may. opened_new s i drawn got)
      (λ full. refused_new cause.Queue ForRoom)

  made_new : New (turns e.role e.config [] [] ev blank)
  unfolding rings
  made_new =
      subst New (sym (turns_ring e.role e.config [] [] ev who blank ring))
      (settled_comes e HasId [] _ (ring_new (takes_id e.session_ids) (takes_id e.tunnel_ids) refl refl))

  abbrev IsSo : Stepped → Type 0
  IsSo s = RingComes e s

  unmade : (u : Turn) → u.control.local ≡ 0 → New u → RingComes e (record { end = e; outputs = u.outputs; moves = u.moves })
  unmade u none (Makes s drawn added bound told local) = absurd (local none)
  unmade u none (Tells c is one added changes) = ToCause c is one refl

  new_comes : RingComes e (in_one_more e env ev e.config.lns (Cause cause.Tunnels))
  unfolding in_one_more gives_only in_new after_new
  new_comes =
      let u = turns e.role e.config [] [] ev blank in
      branch IsSo (has_all_tunnels e.tunnels) _ _
      (λ all. ToCause cause.Tunnels ForTunnels refl refl)
      (λ fewer. branch IsSo (u.control.local == 0) _ _
      (λ zero. unmade u (eqb-true u.control.local 0 zero) made_new)
      (λ some. after_comes e HasId u.control.local [] [] None u made_new))

  -- ---- the step

  rung_in : (open_one opening : Option ℕ) → least_in Established e.config.lns e.tunnels ≡ open_one
      → least_in WaitCtlReply e.config.lns e.tunnels ≡ opening → RingComes e (rings_in e env ev open_one opening)
  unfolding rings_in gives_only
  rung_in (Some i) opening is next = let least = least_open e kept i is in old_comes i least.tunnel least.there
  rung_in None (Some i) is next = let least = least_opening e kept i next in old_comes i least.tunnel least.there
  rung_in None None is next =
      branch IsSo (are_recovering e.config.lns e.tunnels) _ _ (λ some. ToCause cause.Recovering ForRecovery refl refl) (λ none. new_comes)

  rung_lac : RingComes e (only_by Lac e (rings_at e env ev))
  unfolding only_by rings_at
  rung_lac =
      branch IsSo (is_lac e.role) _ _
      (λ yes. rung_in (least_in Established e.config.lns e.tunnels) (least_in WaitCtlReply e.config.lns e.tunnels) refl refl)
      (λ no. absurd (true≢false (sym (rw lac refl) ∙ no)))

pub rings_come : RingsCome
unfolding plain_step step_in
rings_come e kept lac moment block (Ring port) who ring = rung_lac e kept lac moment block who (Ring port) ring
rings_come e kept lac moment block (Admitted mac) who ring = rung_lac e kept lac moment block who (Admitted mac) ring
rings_come e kept lac moment block (Datagram peer bytes) who ring = absurd cc
rings_come e kept lac moment block (Frame bytes) who ring = absurd cc
rings_come e kept lac moment block (Payload s frame) who ring = absurd cc
rings_come e kept lac moment block (Lower s frame) who ring = absurd cc
rings_come e kept lac moment block (Lcp s packet) who ring = absurd cc
rings_come e kept lac moment block (Hang s) who ring = absurd cc
rings_come e kept lac moment block OpenTunnel who ring = absurd cc
rings_come e kept lac moment block (DropCall s) who ring = absurd cc
rings_come e kept lac moment block (CloseTunnel i) who ring = absurd cc
rings_come e kept lac moment block Tick who ring = absurd cc
