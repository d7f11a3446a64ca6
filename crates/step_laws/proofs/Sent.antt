-- Each frame that a step sends down a call has its reason in the call as it is before the step.
use Rattle.std.proofs.Common.{◌≡◌, ◌⊎◌, inl, inr, ⊎_elim, ℕ, Bool, true, false, List, [], refl, sym, ap, ◌∙◌, subst, Option, Some, Ok}
use Rattle.std.proofs.lemmas.Option.{none-some}
use Rattle.id_table.specs.Ids.{at, at-none}
use Rattle.wire_base.specs.declared.letter.Side.TheVariants as side
use Rattle.l2tp_header.specs.declared.header.Header.{Header}
use Rattle.l2tp_header.specs.Reading.{header_of, body_of}
use Rattle.call_fsm.specs.declared.table.CallState.{CallState}
use Rattle.call_fsm.specs.declared.table.CallState.TheVariants as call
use Rattle.end_model.specs.declared.event.Event.{Event}
use Rattle.end_model.specs.declared.event.Event.TheVariants.{Datagram, Payload, Lower, Lcp, Tick}
use Rattle.end_model.specs.declared.moves.Move.TheVariants as move
use Rattle.end_model.specs.declared.tunnel.Call.{Call}
use Rattle.end_model.specs.declared.tunnel.CallPlace.{CallPlace}
use Rattle.call_link.specs.Link.{Link}
use Rattle.session_looks.specs.declared.look.Look.{Look}
use Rattle.session_looks.specs.declared.look.Look.TheVariants as look
use Rattle.end_names.specs.declared.role.Role.{Role}
use Rattle.session_looks.specs.Frames.{frame_of, side_of, Upward, carry_look}
use Rattle.end_model.specs.Links.{is_passing}
use Rattle.end_model.specs.Tunnels.{Ground, Tunnel}
use Rattle.end_model.specs.End.{End, env_of, look_in, plain_step, new_place}
use Rattle.step_laws.specs.Links.{HearsFrame, HearsLcp, Passes, AsAll, AsLcp}
use Rattle.step_laws.specs.Looks.{LooksAreTrue, look_by, look_in_state, look_of}
use Rattle.step_laws.specs.Steps.{AreKept}
use Rattle.step_laws.specs.Sent.{IsCallIn, WhySentIn, IsGivenIt, AsItOpens, AsTimePasses, AsItHears, FramesAreOfSteps}
use Rattle.step_laws.proofs.Tells.{of_all}
use Rattle.step_laws.proofs.Quiet.{SentSo}
use Rattle.step_laws.proofs.Events.{Allows}
use Rattle.step_laws.proofs.Steps.{look_is, side_lcp, IsSeen, place_seen}
use Rattle.step_laws.proofs.Ups.{MaySend, step_told}

-- ---- where what is seen of a call leads

-- it names the tunnel of the call and the peer to which that goes
abbrev Leads : Look → ℕ → ℕ → Type 0
Leads (look.Bound tunnel peer) i p = (tunnel ≡ i) × (peer ≡ p)
Leads (look.Established tunnel peer) i p = (tunnel ≡ i) × (peer ≡ p)
Leads l i p = Unit {0}

by_leads : (b : Bool) (i p : ℕ) → Leads (look_by b i p) i p
by_leads true i p = (refl, refl)
by_leads false i p = (refl, refl)

state_leads : (s : CallState) (link : Option Link) (i p : ℕ) → Leads (look_in_state s link i p) i p
state_leads call.Idle link i p = tt
state_leads call.WaitTunnel link i p = tt
state_leads call.WaitReply link i p = (refl, refl)
state_leads call.WaitConnect link i p = tt
state_leads call.Established link i p = by_leads (is_passing link) i p

passes_leads : (role : Role) (l : Look) (tunnel peer i p : ℕ) (frame : List ℕ) → Passes role l tunnel peer frame → Leads l i p → (tunnel ≡ i) × (peer ≡ p)
passes_leads role l tunnel peer i p frame (AsAll is) leads = subst (λ (x : Look). Leads x i p) is leads
passes_leads role l tunnel peer i p frame (AsLcp is lns lcp) leads = subst (λ (x : Look). Leads x i p) is leads

module _ (e : End) (kept : AreKept e) (looks : LooksAreTrue e) (moment : ℕ) (block : List ℕ) (ev : Event) where
  abbrev F : ℕ → List ℕ → Type 0
  F session frame = WhySentIn e moment block ev session frame

  abbrev on : Ground
  on = (env_of e moment block).on

  module _ (i : ℕ) (t : Tunnel) (there : at e.tunnels i ≡ Some t) where
    call_in : (s : ℕ) (c : Call) → at t.calls s ≡ Some c → IsCallIn e t s c
    call_in s c live = record { id = i; there = there; live = live }

    allowed : (x : Event) → ((s : ℕ) (frame : List ℕ) → (x ≡ Payload s frame) ⊎ (x ≡ Lower s frame) → F s frame) → (x ≡ Tick → ev ≡ Tick)
        → ((s : ℕ) (frame : List ℕ) → x ≡ Lcp s frame → HearsLcp ev t.control.peer t.control.local s frame) → Allows F on e.role t.calls x
    allowed x gives ticks hears = record {
      given = gives;
      opened = λ s c live up f a. AsItOpens t c (call_in s c live) up a;
      ticks = λ is s c l live has f a. AsTimePasses t c l (call_in s c live) has (ticks is) a;
      hears = λ s frame is c l live has f a. AsItHears t c l frame (call_in s c live) has (hears s frame is) a;
    }

  -- an event for a tunnel that is there
  there_allowed : (i : ℕ) (t : Tunnel) → at e.tunnels i ≡ Some t → Allows F on e.role t.calls ev
  there_allowed i t there = allowed i t there ev (λ s frame is. IsGivenIt is) (λ is. is) (λ s frame is. inl is)

  -- a tunnel that is made has no calls
  made_allowed : Allows F on e.role [] ev
  made_allowed = record {
    given = λ s frame is. IsGivenIt is;
    opened = λ s c live up p a. absurd (none-some c (sym (at-none s) ∙ live));
    ticks = λ is s c l live has p a. absurd (none-some c (sym (at-none s) ∙ live));
    hears = λ s frame is c l live has p a. absurd (none-some c (sym (at-none s) ∙ live));
  }

  -- a frame of LCP that is handed up came from the peer of its tunnel
  handed_allowed : (peer : ℕ) (bytes : List ℕ) (h : Header) → ev ≡ Datagram peer bytes → header_of bytes ≡ Ok h → h.control ≡ false
      → (tunnel of : ℕ) (frame : List ℕ)
      → carry_look e.role (look_in (at e.calls h.session)) peer h (frame_of (body_of bytes h)) ≡ Upward tunnel of side.Lcp frame
      → (t : Tunnel) → at e.tunnels tunnel ≡ Some t → Allows F on e.role t.calls (Lcp h.session frame)
  handed_allowed peer bytes h is read data_is tunnel of frame up t there =
      allowed tunnel t there (Lcp h.session frame)
      (λ s f given. absurd (⊎_elim (λ payload. cc) (λ lower. cc) given))
      (λ tick. absurd cc)
      (λ s f same.
      let session : h.session ≡ s = cc in
      let frames : frame ≡ f = cc in
      subst (λ q. HearsLcp ev t.control.peer t.control.local q f) session
      (subst (λ q. HearsLcp ev t.control.peer t.control.local h.session q) frames (inr (hears, side_lcp e.role frame (sym found.3)))))
    where
      found : (tunnel ≡ h.tunnel) × (of ≡ peer) × (frame ≡ frame_of (body_of bytes h)) × (side.Lcp ≡ side_of e.role frame) × Passes e.role (look_in (at e.calls h.session)) tunnel of frame
      found = (look_is e.role (look_in (at e.calls h.session)) peer h (frame_of (body_of bytes h))).up tunnel of side.Lcp frame up

      seen : IsSeen e.role e.calls h.session tunnel of frame
      seen = place_seen e.role e.calls h.session tunnel of frame (at e.calls h.session) refl found.4

      goes : of ≡ t.control.peer
      goes =
          let live = looks.live h.session seen.place seen.there in
          let both : Some seen.place ≡ Some (record (new_place seen.place.tunnel) { look = look_of live.call seen.place.tunnel live.tunnel.control.peer }) =
          sym seen.there ∙ looks.seen seen.place.tunnel live.tunnel live.there h.session live.call live.live in
          let look_is : seen.place.look ≡ look_of live.call seen.place.tunnel live.tunnel.control.peer = ap (λ (o : Option CallPlace). look_in o) both in
          let leads = passes_leads e.role seen.place.look tunnel of seen.place.tunnel live.tunnel.control.peer frame seen.seen
          (subst (λ (x : Look). Leads x seen.place.tunnel live.tunnel.control.peer) (sym look_is)
          (state_leads live.call.state live.call.link seen.place.tunnel live.tunnel.control.peer)) in
          let tunnels : Some live.tunnel ≡ Some t = sym live.there ∙ (ap (at e.tunnels) (sym leads.0) ∙ there) in
          let same : live.tunnel ≡ t = cc in
          leads.1 ∙ ap (λ (u : Tunnel). u.control.peer) same

      hears : HearsFrame ev t.control.peer t.control.local h.session frame
      hears = record {
        bytes = bytes;
        is = is ∙ ap (λ p. Datagram p bytes) (sym found.1 ∙ goes);
        header = h;
        read = read;
        data_is = data_is;
        tunnel_is = sym found.0 ∙ sym (kept.tunnels tunnel t there).local;
        session_is = refl;
        frame_is = found.2;
      }

  may_send : MaySend e moment block F ev
  may_send = record { there = there_allowed; made = made_allowed; handed = handed_allowed }

pub frames_are_of_steps : FramesAreOfSteps
frames_are_of_steps e kept looks moment block ev f a =
    of_all (SentSo (F e kept looks moment block ev)) (plain_step e moment block ev).moves (move.FrameSent f)
    (step_told e moment block (F e kept looks moment block ev) ev (may_send e kept looks moment block ev)).sent a
