-- A message that its tunnel may not take, for the letters that it holds and those that its calls owe, is dropped for that.
use Rattle.std.proofs.Common.{◌≡◌, inl, ℕ, zero, suc, Bool, false, List, length, refl, sym, ap, ◌∙◌, subst, Option, Some, None}
use Rattle.std.proofs.lemmas.Bool.{true≢false, eqb-true, eqb-false}
use Rattle.std.specs.Prelude.{◌==◌, ◌&&◌, ◌||◌, nat_le, unwrap_or, option_map, not, is_some}
use Rattle.id_table.specs.Ids.{at}
use Rattle.wire_base.specs.declared.why.Why.TheVariants as why
use Rattle.wire_base.specs.declared.letter.Letter.{Letter}
use Rattle.l2tp_header.specs.declared.header.Header.{Header}
use Rattle.recv_window.specs.declared.Class.{Class}
use Rattle.recv_window.specs.declared.Class.TheVariants.{Next}
use Rattle.control_channel.specs.Numbers.{class_told, next_to_go}
use Rattle.tunnel_fsm.specs.Rows.{state_number}
use Rattle.end_model.specs.declared.event.Event.{Event}
use Rattle.end_model.specs.declared.event.Event.TheVariants.{Datagram}
use Rattle.end_model.specs.declared.event.Addressee.TheVariants.{Main}
use Rattle.end_model.specs.declared.out.Out.{Out}
use Rattle.end_model.specs.declared.out.Out.TheVariants.{Drop}
use Rattle.l2tp_header.specs.Reading.{body_of}
use Rattle.end_model.specs.Reading.{at_tunnel}
use Rattle.end_model.specs.Tunnels.{Env, Turn, Tunnel, turn_in, mode_of, is_current}
use Rattle.end_model.specs.Turn.{with_output, with_move, drops}
use Rattle.end_model.specs.Sending.{reads_nr, sends_letter, sends_now, lets_go, goes_by, lets_all_go, acknowledges, acknowledged_after, outstanding, settles}
use Rattle.end_model.specs.Hearing.{hears_letter, in_tunnel, hears_control, hears_datagram}
use Rattle.end_model.specs.Events.{turns}
use Rattle.end_model.specs.Channels.{may_take, counts_acked}
use Rattle.end_model.specs.End.{End, Stepped, env_of, after_turn, in_main, addressed, for_addressee, receives, step_in, plain_step}
use Rattle.step_laws.specs.Letters.{Among}
use Rattle.step_laws.specs.Steps.{AreKept}
use Rattle.step_laws.specs.Room.{IsFull, FullAreRefused}
use Rattle.step_laws.proofs.Lists.{branch, among_left, not_true}
use Rattle.end_model.specs.Recovering.{recovering_turns}

-- ---- what was given stays given as a turn settles

module _ (o : Out) where
  abbrev Gave : Turn → Type 0
  Gave t = Among o t.outputs

  letter_gave : (number : ℕ) (l : Option Letter) (t : Turn) → Gave t → Gave (sends_letter number l t)
  unfolding sends_letter with_output
  letter_gave number None t h = h
  letter_gave number (Some l) t h =
      branch Gave (nat_le (length l.avps) 65523) _ _ (λ fits. among_left o t.outputs _ h) (λ long. h)

  go_gave : (letters : List Letter) (number : ℕ) (t : Turn) → Gave t → Gave (lets_go letters number t)
  unfolding lets_go sends_now with_move
  go_gave letters number t h = letter_gave number _ _ h

  by_gave : (rest : Turn → Turn) (letters : List Letter) → ((t : Turn) → Gave t → Gave (rest t)) → (n : Option ℕ) (t : Turn) → Gave t
      → Gave (goes_by rest letters n t)
  unfolding goes_by
  by_gave rest letters later None t h = h
  by_gave rest letters later (Some number) t h = later (lets_go letters number t) (go_gave letters number t h)

  all_gave : (most : ℕ) (letters : List Letter) (t : Turn) → Gave t → Gave (lets_all_go most letters t)
  unfolding lets_all_go
  all_gave zero letters t h = h
  all_gave (suc most) letters t h = by_gave (lets_all_go most letters) letters (all_gave most letters) (next_to_go t.control.channel) t h

  settled_gave : (again : Bool) (letters : List Letter) (t : Turn) → Gave t → Gave (settles again letters t)
  unfolding settles acknowledged_after acknowledges with_output with_move
  settled_gave again letters t h =
      let u = lets_all_go t.control.channel.window.queued letters t in
      let g = all_gave t.control.channel.window.queued letters t h in
      branch Gave (again || (u.took && (outstanding u == outstanding t))) _ _ (λ yes. among_left o u.outputs _ g) (λ no. g)

-- ---- the step

module _ (e : End) (kept : AreKept e) (moment : ℕ) (block : List ℕ) (ev : Event) (f : IsFull e moment ev) (named : f.letter.header.tunnel ≡ f.id)
    (nr_is : f.nr ≡ unwrap_or f.letter.header.nr 0) where
  abbrev env : Env
  env = env_of e moment block

  abbrev t : Tunnel
  t = f.tunnel

  abbrev header : Header
  header = f.letter.header

  abbrev body : List ℕ
  body = f.letter.body

  abbrev bytes : List ℕ
  bytes = f.next.comes.came.bytes

  body_is : body ≡ body_of bytes header
  body_is = f.next.comes.came.body_is

  abbrev nr : ℕ
  nr = unwrap_or header.nr 0

  -- the turn once Nr is read
  abbrev read_turn : Turn
  read_turn = reads_nr nr (turn_in t env)

  full : may_take (counts_acked nr moment t.control) t.calls ≡ false
  full = ap (λ n. may_take (counts_acked n moment t.control) t.calls) (sym nr_is) ∙ f.full

  abbrev Dropped : Turn → Type 0
  Dropped u = Among (Drop why.Queue) u.outputs

  not_taken : Dropped (hears_letter e.role e.config t.calls header.session body (Some Next) read_turn)
  unfolding hears_letter reads_nr with_move drops with_output
  not_taken =
      branch Dropped (may_take (counts_acked nr moment t.control) t.calls) _ _
      (λ may. absurd (true≢false (sym may ∙ full)))
      (λ no. inl refl)

  class_is : class_told t.control.channel (unwrap_or header.ns 0) (length body == 0) ≡ Some Next
  class_is =
      branch (λ (o : Option Class). o ≡ Some Next) (length body == 0) _ _
      (λ none. absurd (f.next.some (eqb-true (length body) 0 none)))
      (λ some. ap (λ c. Some c) f.next.next)

  heard_dropped : Dropped (hears_control e.role e.config t.letters t.calls header body (turn_in t env))
  unfolding hears_control in_tunnel
  heard_dropped =
      branch Dropped (state_number t.control.state == 0) _ _
      (λ idle. absurd ((kept.tunnels f.id t f.there).busy (eqb-true (state_number t.control.state) 0 idle)))
      (λ some. branch Dropped (not (is_current (mode_of t.recovery))) _ _
      (λ inactive. absurd (true≢false (sym f.current ∙ not_true _ inactive)))
      (λ active. subst (λ o. Dropped (in_tunnel e.role e.config t.letters t.calls header.session body o read_turn)) (sym class_is)
      (settled_gave (Drop why.Queue) false t.letters (hears_letter e.role e.config t.calls header.session body (Some Next) read_turn) not_taken)))

  turn_dropped : Dropped (turns e.role e.config t.letters t.calls (Datagram t.control.peer bytes) (turn_in t env))
  unfolding turns hears_datagram
  turn_dropped =
      subst (λ q. Dropped (hears_datagram e.role e.config t.letters t.calls bytes q (turn_in t env))) (sym f.next.comes.came.read)
      (branch Dropped header.control _ _
      (λ c. subst (λ (b : List ℕ). Dropped (hears_control e.role e.config t.letters t.calls header b (turn_in t env))) body_is heard_dropped)
      (λ c. absurd (true≢false (sym f.next.comes.came.control ∙ c))))

  -- the message is for the tunnel
  abbrev DroppedIn : Stepped → Type 0
  DroppedIn s = Among (Drop why.Queue) s.outputs

  for_tunnel : addressed e t.control.peer header body ≡ Main f.id
  unfolding addressed at_tunnel
  for_tunnel =
      branch (λ a. a ≡ Main f.id) (header.tunnel == 0) _ _
      (λ none. absurd ((kept.tunnels f.id t f.there).some (sym named ∙ eqb-true header.tunnel 0 none)))
      (λ some. branch (λ a. a ≡ Main f.id) (is_some (at e.tunnels header.tunnel)) _ _
      (λ is. ap (λ i. at_tunnel t.control.peer i (option_map (λ (u : Tunnel). u.control.peer) (at e.tunnels i))) named
      ∙ (ap (λ o. at_tunnel t.control.peer f.id (option_map (λ (u : Tunnel). u.control.peer) o)) f.there
      ∙ branch (λ a. a ≡ Main f.id) (t.control.peer == t.control.peer) _ _
      (λ same. refl)
      (λ other. absurd (eqb-false t.control.peer t.control.peer other refl))))
      (λ none. absurd (true≢false (sym (ap (λ i. is_some (at e.tunnels i)) named ∙ ap (λ (o : Option Tunnel). is_some o) f.there) ∙ none))))

  main_dropped : DroppedIn (for_addressee e env (Datagram t.control.peer bytes) t.control.peer header body (addressed e t.control.peer header body))
  unfolding for_addressee in_main after_turn recovering_turns
  main_dropped =
      subst (λ a. DroppedIn (for_addressee e env (Datagram t.control.peer bytes) t.control.peer header body a)) (sym for_tunnel)
      (subst (λ o. DroppedIn (in_main e env (Datagram t.control.peer bytes) f.id o)) (sym f.there) turn_dropped)

  received_dropped : DroppedIn (plain_step e moment block (Datagram t.control.peer bytes))
  unfolding plain_step step_in receives
  received_dropped =
      subst (λ q. DroppedIn (receives e env t.control.peer bytes q)) (sym f.next.comes.came.read)
      (branch DroppedIn header.control _ _
      (λ c. subst (λ (b : List ℕ). DroppedIn (for_addressee e env (Datagram t.control.peer bytes) t.control.peer header b
      (addressed e t.control.peer header b))) body_is main_dropped)
      (λ c. absurd (true≢false (sym f.next.comes.came.control ∙ c))))

  step_dropped : DroppedIn (plain_step e moment block ev)
  step_dropped =
      let is : ev ≡ Datagram t.control.peer bytes = f.next.comes.came.is ∙ ap (λ p. Datagram p bytes) f.next.comes.peer in
      subst (λ x. DroppedIn (plain_step e moment block x)) (sym is) received_dropped

pub full_are_refused : FullAreRefused
full_are_refused e kept moment block ev f named nr_is = step_dropped e kept moment block ev f named nr_is
