-- The next letter of a tunnel, which its header names, is heard in the step that it comes in.
use Rattle.std.proofs.Common.{◌≡◌, ℕ, false, List, length, refl, sym, ap, ◌∙◌, subst, Option, Some, true}
use Rattle.std.proofs.lemmas.Bool.{true≢false, eqb-true, eqb-false}
use Rattle.std.specs.Prelude.{◌==◌, unwrap_or, option_map, not, is_some}
use Rattle.id_table.specs.Ids.{at}
use Rattle.l2tp_header.specs.declared.header.Header.{Header}
use Rattle.recv_window.specs.declared.Class.{Class}
use Rattle.recv_window.specs.declared.Class.TheVariants.{Next}
use Rattle.control_channel.specs.Numbers.{class_told}
use Rattle.tunnel_fsm.specs.Rows.{state_number}
use Rattle.end_model.specs.declared.event.Event.{Event}
use Rattle.end_model.specs.declared.event.Event.TheVariants.{Datagram}
use Rattle.end_model.specs.declared.event.Addressee.TheVariants.{Main}
use Rattle.end_model.specs.declared.moves.Move.{Move}
use Rattle.end_model.specs.declared.out.Out.{Out}
use Rattle.l2tp_header.specs.Reading.{body_of}
use Rattle.end_model.specs.Reading.{at_tunnel}
use Rattle.end_model.specs.Tunnels.{Env, Turn, Tunnel, turn_in, mode_of, is_current}
use Rattle.end_model.specs.Sending.{reads_nr, settles}
use Rattle.end_model.specs.Hearing.{hears_letter, in_tunnel, hears_control, hears_datagram}
use Rattle.end_model.specs.Events.{turns}
use Rattle.end_model.specs.End.{End, Stepped, env_of, after_turn, in_main, addressed, for_addressee, receives, step_in, plain_step}
use Rattle.step_laws.specs.Moves.{Came, IsNext}
use Rattle.step_laws.specs.Steps.{AreKept}
use Rattle.step_laws.proofs.Lists.{branch, not_true}
use Rattle.end_model.specs.Recovering.{recovering_turns}

-- what is so of the moves and the outputs of the turn that hears it is so of the step's
module _ (e : End) (kept : AreKept e) (moment : ℕ) (block : List ℕ) (ev : Event) (id : ℕ) (t : Tunnel) (there : at e.tunnels id ≡ Some t)
    (current : is_current (mode_of t.recovery) ≡ true) (letter : Came) (next : IsNext ev t letter) (named : letter.header.tunnel ≡ id) (P : List Move → List Out → Type 0) where
  abbrev env : Env
  env = env_of e moment block

  abbrev header : Header
  header = letter.header

  abbrev body : List ℕ
  body = letter.body

  abbrev bytes : List ℕ
  bytes = next.comes.came.bytes

  body_is : body ≡ body_of bytes header
  body_is = next.comes.came.body_is

  abbrev Right : Turn → Type 0
  Right u = P u.moves u.outputs

  -- the turn once Nr is read
  abbrev read_turn : Turn
  read_turn = reads_nr (unwrap_or header.nr 0) (turn_in t env)

  class_is : class_told t.control.channel (unwrap_or header.ns 0) (length body == 0) ≡ Some Next
  class_is =
      branch (λ (o : Option Class). o ≡ Some Next) (length body == 0) _ _
      (λ none. absurd (next.some (eqb-true (length body) 0 none)))
      (λ some. ap (λ c. Some c) next.next)

  -- the message is for the tunnel
  abbrev RightIn : Stepped → Type 0
  RightIn s = P s.moves s.outputs

  for_tunnel : addressed e t.control.peer header body ≡ Main id
  unfolding addressed at_tunnel
  for_tunnel =
      branch (λ a. a ≡ Main id) (header.tunnel == 0) _ _
      (λ zero. absurd ((kept.tunnels id t there).some (sym named ∙ eqb-true header.tunnel 0 zero)))
      (λ some. branch (λ a. a ≡ Main id) (is_some (at e.tunnels header.tunnel)) _ _
      (λ is. ap (λ i. at_tunnel t.control.peer i (option_map (λ (u : Tunnel). u.control.peer) (at e.tunnels i))) named
      ∙ (ap (λ o. at_tunnel t.control.peer id (option_map (λ (u : Tunnel). u.control.peer) o)) there
      ∙ branch (λ a. a ≡ Main id) (t.control.peer == t.control.peer) _ _
      (λ same. refl)
      (λ other. absurd (eqb-false t.control.peer t.control.peer other refl))))
      (λ none. absurd (true≢false (sym (ap (λ i. is_some (at e.tunnels i)) named ∙ ap (λ (o : Option Tunnel). is_some o) there) ∙ none))))

  module _ (taken_right : Right (settles false t.letters (hears_letter e.role e.config t.calls header.session body (Some Next) read_turn))) where
    heard_right : Right (hears_control e.role e.config t.letters t.calls header body (turn_in t env))
    unfolding hears_control in_tunnel
    heard_right =
        branch Right (state_number t.control.state == 0) _ _
        (λ zero. absurd ((kept.tunnels id t there).busy (eqb-true (state_number t.control.state) 0 zero)))
        (λ some. branch Right (not (is_current (mode_of t.recovery))) _ _
        (λ inactive. absurd (true≢false (sym current ∙ not_true _ inactive)))
        (λ active. subst (λ o. Right (in_tunnel e.role e.config t.letters t.calls header.session body o read_turn)) (sym class_is) taken_right))

    turn_right : Right (turns e.role e.config t.letters t.calls (Datagram t.control.peer bytes) (turn_in t env))
    unfolding turns hears_datagram
    turn_right =
        subst (λ q. Right (hears_datagram e.role e.config t.letters t.calls bytes q (turn_in t env))) (sym next.comes.came.read)
        (branch Right header.control _ _
        (λ c. subst (λ (b : List ℕ). Right (hears_control e.role e.config t.letters t.calls header b (turn_in t env))) body_is heard_right)
        (λ c. absurd (true≢false (sym next.comes.came.control ∙ c))))

    main_right : RightIn (for_addressee e env (Datagram t.control.peer bytes) t.control.peer header body (addressed e t.control.peer header body))
    unfolding for_addressee in_main after_turn recovering_turns
    main_right =
        subst (λ a. RightIn (for_addressee e env (Datagram t.control.peer bytes) t.control.peer header body a)) (sym for_tunnel)
        (subst (λ o. RightIn (in_main e env (Datagram t.control.peer bytes) id o)) (sym there) turn_right)

    received_right : RightIn (plain_step e moment block (Datagram t.control.peer bytes))
    unfolding plain_step step_in receives
    received_right =
        subst (λ q. RightIn (receives e env t.control.peer bytes q)) (sym next.comes.came.read)
        (branch RightIn header.control _ _
        (λ c. subst (λ (b : List ℕ). RightIn (for_addressee e env (Datagram t.control.peer bytes) t.control.peer header b
        (addressed e t.control.peer header b))) body_is main_right)
        (λ c. absurd (true≢false (sym next.comes.came.control ∙ c))))

    pub reached : RightIn (plain_step e moment block ev)
    reached =
        let is : ev ≡ Datagram t.control.peer bytes = next.comes.came.is ∙ ap (λ p. Datagram p bytes) next.comes.peer in
        subst (λ x. RightIn (plain_step e moment block x)) (sym is) received_right
