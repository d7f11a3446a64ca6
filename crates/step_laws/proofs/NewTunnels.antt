-- A tunnel that is new has no calls, or its SCCRQ isn't answered yet.
use Rattle.std.proofs.Common.{◌≡◌, ◌⊎◌, inl, inr, ⊎_elim, ℕ, false, List, [], refl, ap, ◌∙◌, Result, Ok, Err}
use Rattle.std.proofs.lemmas.Bool.{eqb-false}
use Rattle.std.specs.Prelude.{◌==◌}
use Rattle.id_source.specs.Spaces.{takes_id}
use Rattle.id_source.specs.declared.IdError.{IdError}
use Rattle.wire_base.specs.declared.why.Why.{Why}
use Rattle.wire_base.specs.declared.why.Why.TheVariants as why
use Rattle.wire_base.specs.declared.cause.Cause.{Cause as CauseOf}
use Rattle.wire_base.specs.declared.cause.Cause.TheVariants as cause
use Rattle.wire_base.specs.declared.letter.Letter.{Letter}
use Rattle.l2tp_header.specs.declared.header.Header.{Header}
use Rattle.l2tp_header.specs.declared.header.HeaderError.{HeaderError}
use Rattle.control_message.specs.declared.message.Message.{Message}
use Rattle.control_message.specs.declared.message.Message.TheVariants.{Sccrq, Sccrp, Scccn, StopCcn, Hello, Ocrq, Ocrp, Occn, Icrq, Icrp, Iccn, Cdn, Wen, Sli, Fsq, Fsr}
use Rattle.tunnel_fsm.specs.declared.table.TunnelState.TheVariants as state
use Rattle.tunnel_fsm.specs.Rows.{state_number}
use Rattle.end_model.specs.declared.tunnel.Config.{Config}
use Rattle.end_names.specs.declared.role.Role.{Role}
use Rattle.end_model.specs.declared.out.Out.TheVariants.{Cause}
use Rattle.session_looks.specs.Frames.{header_why}
use Rattle.l2tp_header.specs.Reading.{body_of}
use Rattle.end_model.specs.Reading.{message_in}
use Rattle.end_model.specs.Messages.{Told, told_by}
use Rattle.end_model.specs.Tunnels.{Turn}
use Rattle.end_model.specs.Turn.{with_output, with_move, with_new, drops}
use Rattle.end_model.specs.Openings.{with_local, opened, opens_by, opens, accepted, accepts_by, accepts}
use Rattle.end_model.specs.Ringing.{rings_new, adds, rings}
use Rattle.end_model.specs.Hearing.{first_said, hears_control, hears_datagram}
use Rattle.end_model.specs.Sending.{gives, settles, takes_one}
use Rattle.end_model.specs.Channels.{has_room}
use Rattle.step_laws.proofs.Lists.{branch}
use Rattle.step_laws.proofs.Keeping.{settled_keeps}
use Rattle.step_laws.proofs.Asking.{Idle}

abbrev pub IsNew : Turn → Type 0
IsNew r = (state_number r.control.state ≡ 1) ⊎ (r.changed ≡ [])

new_settled : (letters : List Letter) (t : Turn) → IsNew t → IsNew (settles false letters t)
new_settled letters t h =
    let g = settled_keeps false letters t in
    ⊎_elim (λ opening. inl (ap state_number g.state ∙ opening)) (λ none. inr (g.changed ∙ none)) h

drops_new : (w : Why) (t : Turn) → t.changed ≡ [] → IsNew (drops w t)
unfolding drops with_output
drops_new w t none = inr none

caused_new : (c : CauseOf) (t : Turn) → t.changed ≡ [] → IsNew (with_output (Cause c) t)
unfolding with_output
caused_new c t none = inr none

opened_new : (role : Role) (c : Config) (local : ℕ) (t : Turn) → t.changed ≡ [] → IsNew (opened role c local t)
unfolding opened gives with_move with_local
opened_new role c local t none = inr none

pub opens_new : (role : Role) (c : Config) (letters : List Letter) (t : Turn) → t.changed ≡ [] → IsNew (settles false letters (opens role c t))
unfolding opens opens_by
opens_new role c letters t none = new_settled letters (opens role c t) (by (takes_id t.ids.tunnels))
  where
    by : (x : Result ℕ IdError) → IsNew (opens_by role c x t)
    by (Err x) = caused_new cause.Ids t none
    by (Ok local) = branch IsNew (has_room t.control) _ _ (λ may. opened_new role c local t none) (λ full. caused_new cause.Queue t none)

accepted_new : (role : Role) (c : Config) (told : Told) (local : ℕ) (t : Turn) → t.changed ≡ []
    → IsNew (accepted role c told local t)
unfolding accepted gives with_move takes_one with_local
accepted_new role c told local t none = inr none

accepts_new : (role : Role) (c : Config) (told : Told) (t : Turn) → t.changed ≡ []
    → IsNew (accepts role c told t)
unfolding accepts accepts_by
accepts_new role c told t none = by (takes_id t.ids.tunnels)
  where
    by : (x : Result ℕ IdError) → IsNew (accepts_by role c told x t)
    by (Err x) = drops_new why.Tunnel t none
    by (Ok local) =
        branch IsNew (has_room t.control) _ _ (λ may. accepted_new role c told local t none) (λ full. drops_new why.Queue t none)

first_said_new : (role : Role) (c : Config) (r : Result Message Why) (t : Turn) → t.changed ≡ [] → IsNew (first_said role c r t)
unfolding first_said
first_said_new role c (Ok (Sccrq o)) t none = accepts_new role c (told_by o) t none
first_said_new role c (Ok (Sccrp o)) t none = drops_new why.Tunnel t none
first_said_new role c (Ok (Scccn response)) t none = drops_new why.Tunnel t none
first_said_new role c (Ok Hello) t none = drops_new why.Tunnel t none
first_said_new role c (Ok (Cdn remote code error)) t none = drops_new why.Tunnel t none
first_said_new role c (Ok (Icrq remote serial calling)) t none = drops_new why.Tunnel t none
first_said_new role c (Ok (Icrp remote)) t none = drops_new why.Tunnel t none
first_said_new role c (Ok (Iccn speed framing sequenced)) t none = drops_new why.Tunnel t none
first_said_new role c (Ok (StopCcn tunnel code error)) t none = drops_new why.Tunnel t none
first_said_new role c (Ok (Ocrq remote)) t none = drops_new why.Tunnel t none
first_said_new role c (Ok Ocrp) t none = drops_new why.Tunnel t none
first_said_new role c (Ok Occn) t none = drops_new why.Tunnel t none
first_said_new role c (Ok Wen) t none = drops_new why.Tunnel t none
first_said_new role c (Ok Sli) t none = drops_new why.Tunnel t none
first_said_new role c (Ok (Fsq sessions)) t none = drops_new why.Tunnel t none
first_said_new role c (Ok (Fsr sessions)) t none = drops_new why.Tunnel t none
first_said_new role c (Err w) t none = drops_new why.Tunnel t none

pub heard_new : (role : Role) (c : Config) (bytes : List ℕ) (r : Result Header HeaderError) (t : Turn) → Idle t → t.changed ≡ []
    → IsNew (hears_datagram role c [] [] bytes r t)
unfolding hears_datagram hears_control
heard_new role c bytes (Err x) t idle none = drops_new (header_why x) t none
heard_new role c bytes (Ok k) t idle none =
    branch IsNew k.control _ _
    (λ control. branch IsNew (state_number t.control.state == 0) _ _
    (λ is. let u = first_said role c (message_in (body_of bytes k)) t in new_settled [] u (first_said_new role c (message_in (body_of bytes k)) t none))
    (λ busy. absurd (eqb-false (state_number t.control.state) 0 busy idle)))
    (λ data_is. drops_new why.Session t none)

rung_new : (role : Role) (c : Config) (who : List ℕ) (s local : ℕ) (t : Turn) → t.control.state ≡ state.Idle → IsNew (adds role who s (opened role c local t))
unfolding adds opened gives with_move with_local with_new
rung_new role c who s local t idle = inl (rw idle refl)

rings_new_new : (role : Role) (c : Config) (who : List ℕ) (x y : Result ℕ IdError) (t : Turn) → t.control.state ≡ state.Idle → t.changed ≡ []
    → IsNew (rings_new role c who x y t)
unfolding rings_new
rings_new_new role c who (Err x) y t idle none = caused_new cause.Ids t none
rings_new_new role c who (Ok s) (Err y) t idle none = caused_new cause.Ids t none
rings_new_new role c who (Ok s) (Ok local) t idle none =
    branch IsNew (has_room t.control) _ _ (λ may. rung_new role c who s local t idle) (λ full. caused_new cause.Queue t none)

pub rings_is_new : (role : Role) (c : Config) (letters : List Letter) (who : List ℕ) (t : Turn) → t.control.state ≡ state.Idle → t.changed ≡ []
    → IsNew (settles false letters (rings role c [] who t))
unfolding rings
rings_is_new role c letters who t idle none =
    new_settled letters (rings role c [] who t)
    (branch IsNew (state_number t.control.state == 0) _ _
    (λ is. rings_new_new role c who (takes_id t.ids.sessions) (takes_id t.ids.tunnels) t idle none)
    (λ busy. absurd (eqb-false (state_number t.control.state) 0 busy (ap state_number idle))))
