-- A tunnel is closed with its calls as its peer's StopCCN comes, and so it is in the machine.
use Rattle.std.proofs.Common.{◌≡◌, ◌⊎◌, inl, inr, ⊎_elim, ℕ, ◌<◌, true, false, [], length, refl, sym, ap, ap₂, ◌∙◌, subst, slice_get, Option, Some, arith, eq-eqb}
use Rattle.std.proofs.lemmas.Bool.{lt-ltb, or_right, true≢false}
use Rattle.std.proofs.lemmas.Option.{slice_get-map}
use Rattle.std.specs.Prelude.{◌==◌}
use Rattle.id_table.specs.Order.{at_new}
use Rattle.control_message.specs.declared.message.Message.{Message}
use Rattle.control_message.specs.declared.message.Message.TheVariants as message
use Rattle.tunnel_fsm.specs.declared.table.TunnelState.{TunnelState}
use Rattle.tunnel_fsm.specs.declared.table.TunnelState.TheVariants as state
use Rattle.tunnel_fsm.specs.Rows.{state_number}
use Rattle.end_model.specs.declared.event.Event.{Event}
use Rattle.end_model.specs.declared.moves.ClosedBy.{ClosedBy}
use Rattle.end_model.specs.declared.moves.Move.TheVariants as move
use Rattle.end_model.specs.Tunnels.{Tunnel}
use Rattle.end_model.specs.Channels.{counts_taken}
use Rattle.end_model.specs.Moments.{is_closed}
use Rattle.end_model.specs.End.{End}
use Rattle.world_model.specs.World.{Sender, Deed}
use Rattle.epoch_machine.specs.Letters as letter
use Rattle.epoch_machine.specs.Tunnels.{WaitReply, Closed, is_active}
use Rattle.epoch_machine.specs.Worlds.{World, all_rules, leaves}
use Rattle.epoch_machine.specs.Moves as moves
use Rattle.epoch_machine.specs.Moves.{Delivers, TakesRefusal, reaches, may_take, may_take_refusal, delivers, step}
use Rattle.connection_laws.specs.Accounts.{Part, Unmade, Opener, Acceptor, Taken, Account}
use Rattle.connection_laws.specs.Facts as facts
use Rattle.connection_laws.specs.Facts.{Accounts, IsStopCcn, IsOpener, IsPart, AccountOk, IsInState, LiveOk}
use Rattle.connection_laws.specs.Steps.{after, StopLetter, StopOfNone}
use Rattle.session_laws.specs.Names.{is_early, name, name_of, spoken, letter_of, phase_of}
use Rattle.session_laws.specs.Joined.{Ends, tunnel_in, TunnelJoined}
use Rattle.session_laws.proofs.Learned.{early_or_not, late_learned, early_learned, none_learned, open_learned, closed_learned}
use Rattle.session_laws.proofs.Keeps.{with_end, Laws, IsMade, Follows}
use Rattle.session_laws.proofs.Entering.{after_here, with_taken, taken_as, takes_only}
use Rattle.session_laws.proofs.Names.{name_some, known_name}
use Rattle.session_laws.proofs.States.{IsAtWork, at_work, heeds_all}
use Rattle.session_laws.proofs.Letters.{no_letters, letters_joined}
use Rattle.session_laws.proofs.Heard.{giver_made, here_some, here_joined, here_active, here_took}
use Rattle.session_laws.proofs.Leaving.{leaves_elsewhere, leaves_phase, leaves_learned, leaves_up, leaves_letters, leaves_calls, left_put, left_follows}

-- ---- what the machine does

-- by the tunnel that the sender has learned, or where it has learned none and was learned
reached : (w : World) (s x : ℕ) → (w.tunnels.learned s ≡ x) ⊎ ((w.tunnels.learned s ≡ 0) × (w.tunnels.learned x ≡ s))
    → reaches w.tunnels s x letter.StopCcn ≡ true
reached w s x by = ⊎_elim
    (λ (is : w.tunnels.learned s ≡ x). rw (is, eq-eqb x x refl) refl)
    (λ (lost : (w.tunnels.learned s ≡ 0) × (w.tunnels.learned x ≡ s)). rw (lost.0, lost.1, eq-eqb s s refl) (or_right (0 == x) true refl))
    by

may_stop : (w : World) (x s k : ℕ) → is_active (w.tunnels.phase x) ≡ true → 0 < s → reaches w.tunnels s x letter.StopCcn ≡ true
    → w.tunnels.entered x ≡ 0 → w.channels.taken x 0 ≡ k → may_take all_rules w x s 0 k letter.StopCcn ≡ true
unfolding may_take
may_stop w x s k active some by now next = rw (active, lt-ltb 0 s some, by, now, next, eq-eqb k k refl) refl

stops_is : (w : World) (x s k : ℕ) → slice_get (w.channels.sent s 0) k ≡ Some letter.StopCcn → may_take all_rules w x s 0 k letter.StopCcn ≡ true
    → step all_rules w (Delivers x s 0 k 0) ≡ leaves w x Closed
unfolding step delivers
stops_is w x s k there may = rw (there, may) refl

-- an opener that waits and has taken nothing takes that it is refused
refusal_is : (w : World) (x : ℕ) → w.channels.refused x ≡ true → w.tunnels.phase x ≡ WaitReply → w.channels.taken x 0 ≡ 0
    → step all_rules w (TakesRefusal x) ≡ leaves w x Closed
unfolding step may_take_refusal
refusal_is w x refused waits nothing = rw (refused, waits, nothing) refl

-- some move leads from one world to the other
record Does (w v : World) : Type 0 where
  move : moves.Move
  does : step all_rules w move ≡ v

stop_spoken : (n m header : ℕ) (q : Message) → IsStopCcn q → spoken n m header q ≡ letter.StopCcn
stop_spoken n m header (message.StopCcn tunnel result error) stops = refl
stop_spoken n m header (message.Sccrq o) stops = absurd stops
stop_spoken n m header (message.Sccrp o) stops = absurd stops
stop_spoken n m header (message.Scccn response) stops = absurd stops
stop_spoken n m header message.Hello stops = absurd stops
stop_spoken n m header (message.Ocrq session) stops = absurd stops
stop_spoken n m header message.Ocrp stops = absurd stops
stop_spoken n m header message.Occn stops = absurd stops
stop_spoken n m header message.Wen stops = absurd stops
stop_spoken n m header message.Sli stops = absurd stops
stop_spoken n m header (message.Fsq sessions) stops = absurd stops
stop_spoken n m header (message.Fsr sessions) stops = absurd stops
stop_spoken n m header (message.Icrq session serial calling) stops = absurd stops
stop_spoken n m header (message.Icrp session) stops = absurd stops
stop_spoken n m header (message.Iccn speed framing sequenced) stops = absurd stops
stop_spoken n m header (message.Cdn session result error) stops = absurd stops

-- ---- an opener that has learned no tunnel

waiting_phase : (s : TunnelState) → state_number s ≡ 1 → phase_of s ≡ WaitReply
waiting_phase state.Idle is = absurd (omega (arith, is))
waiting_phase state.WaitCtlReply is = refl
waiting_phase state.WaitCtlConn is = absurd (omega (arith, is))
waiting_phase state.Established is = absurd (omega (arith, is))
waiting_phase state.Closed is = absurd (omega (arith, is))

-- it waits for its SCCRP, if it isn't closed
opener_waits : (accs : Accounts) (i : ℕ) (a : Account) (t : Tunnel) → is_closed t.control.state ≡ false → a.remote ≡ 0 → (p : Part) → p ≡ Opener
    → IsInState accs i a t p → state_number t.control.state ≡ 1
opener_waits accs i a t works none Unmade is h = absurd cc
opener_waits accs i a t works none Opener is h = ⊎_elim
    (λ one. one.0)
    (λ more. ⊎_elim
    (λ three. absurd (three.1 none))
    (λ four. absurd (true≢false (sym (eq-eqb (state_number t.control.state) 4 four.0) ∙ works)))
    more)
    h
opener_waits accs i a t works none Acceptor is h = absurd cc

-- ---- in the end

module _ (laws : Laws) (accs : Accounts) (ends : Ends) (w : World) (n : ℕ) (e x : End) (sender : Option Sender) (moment : ℕ) (ev : Event)
    (m : ClosedBy) (d : Deed) (h : IsMade accs ends w n e x sender moment ev (move.ClosedBy m) d) where
  abbrev i : ℕ
  i = m.tunnel

  abbrev t : Tunnel
  t = h.moved.does.tunnel

  abbrev a : Account
  a = accs n i

  abbrev tk : Taken
  tk = taken_as sender m.taken (move.ClosedBy m)

  abbrev closed : Account
  closed = record a { closed = Some (length a.taken) }

  abbrev b : Account
  b = with_taken tk [] closed

  is : after accs d n i ≡ b
  is = after_here accs d n (move.ClosedBy m) h.moved.deed.node_is h.moved.deed.move_is (λ k j. refl)
      ∙ takes_only d n e.role sender (move.ClosedBy m) m.taken closed h.moved.deed

  abbrev u : Tunnel
  u = record t { control = record (counts_taken t.control) { state = state.Closed; closed = moment }; calls = [] }

  live : LiveOk accs n i a t
  live = h.moved.within.end.live i t h.moved.does.there

  works : IsAtWork a t
  works = at_work accs n i a t live h.moved.does.live

  old : TunnelJoined w n i a (Some t)
  old = here_joined accs ends w n e x sender moment ev (move.ClosedBy m) d h i t h.moved.does.there

  abbrev X : ℕ
  X = name n i

  abbrev v : World
  v = leaves w X Closed

  -- ---- by a letter of the tunnel that sent it

  module _ (stop : StopLetter accs n i sender) where
    abbrev f : Sender
    f = stop.from

    abbrev c : Account
    c = accs f.node f.tunnel

    c_ok : AccountOk accs f.node f.tunnel c
    c_ok = h.moved.within.accounts f.node f.tunnel

    c_made : facts.IsMade c
    c_made = giver_made accs f.node f.tunnel (length a.taken) stop.letter c_ok stop.there

    c_joined : TunnelJoined w f.node f.tunnel c (tunnel_in (ends f.node) f.tunnel)
    c_joined = h.joined.tunnels f.node f.tunnel (c_ok.node c_made) (c_ok.id c_made)

    abbrev S : ℕ
    S = name f.node f.tunnel

    some : 0 < f.tunnel
    some = c_ok.some c_made

    stands : slice_get (w.channels.sent S 0) (length a.taken) ≡ Some letter.StopCcn
    stands = rw (c_joined.sent, slice_get-map (letter_of f.node c.peer) c.given (length a.taken), stop.there)
        (ap (λ l. Some l) (stop_spoken f.node c.peer stop.letter.session stop.letter.message stop.stops))

    here : 0 < i
    here = here_some accs ends w n e x sender moment ev (move.ClosedBy m) d h i t h.moved.does.there

    -- this one has learned it
    here_learned : a.remote ≡ f.tunnel → w.tunnels.learned X ≡ S
    here_learned known = old.learned ∙ open_learned a works.is_open ∙ ap₂ name_of stop.peer known ∙ known_name f.node f.tunnel some

    -- an opener that knows this one is known to it
    opener_known : c.remote ≡ i → c.part ≡ Opener → a.remote ≡ f.tunnel
    opener_known known opens =
        let opener : IsOpener accs f.node f.tunnel c = subst (IsPart accs f.node f.tunnel c) opens c_ok.part in
        ap₂ (λ k j. (accs k j).remote) (sym stop.goes) (sym known) ∙ opener.remote (λ z. (let some_here = here in let no : ⊥ = omega (arith, z, known) in no))

    -- it has learned this tunnel, or has learned none and is known to this one
    knows : (w.tunnels.learned S ≡ X) ⊎ ((w.tunnels.learned S ≡ 0) × (w.tunnels.learned X ≡ S))
    knows = ⊎_elim
        (λ (known : c.remote ≡ i). ⊎_elim
        (λ (e : (c.part ≡ Opener) × (c.closed ≡ Some 0)). inr (c_joined.learned ∙ early_learned c e.0 e.1, here_learned (opener_known known e.0)))
        (λ (late : is_early c.part c.closed ≡ false).
        inl (c_joined.learned ∙ late_learned c late ∙ ap₂ name_of stop.goes known ∙ known_name n i here))
        (early_or_not c.part c.closed))
        (λ (lost : (c.remote ≡ 0) × (a.remote ≡ f.tunnel)). inr (c_joined.learned ∙ none_learned c lost.0, here_learned lost.1))
        stop.reaches

    delivery : Does w v
    delivery = record {
      move = Delivers X S 0 (length a.taken) 0;
      does = stops_is w X S (length a.taken) stands
          (may_stop w X S (length a.taken)
          (here_active accs ends w n e x sender moment ev (move.ClosedBy m) d h i t h.moved.does.there h.moved.does.live)
          (name_some f.node f.tunnel some) (reached w S X knows) old.entered
          (here_took accs ends w n e x sender moment ev (move.ClosedBy m) d h i t h.moved.does.there h.moved.does.live));
    }

  -- ---- or by one of no tunnel, which declined its SCCRQ

  module _ (stop : StopOfNone accs n i sender) where
    waits : w.tunnels.phase X ≡ WaitReply
    waits = old.phase ∙ waiting_phase t.control.state (opener_waits accs i a t h.moved.does.live stop.remote a.part stop.opener live.state)

    nothing : w.channels.taken X 0 ≡ 0
    nothing = here_took accs ends w n e x sender moment ev (move.ClosedBy m) d h i t h.moved.does.there h.moved.does.live
        ∙ ap length stop.nothing

    refusal : Does w v
    refusal = record { move = TakesRefusal X; does = refusal_is w X (old.refused ∙ stop.declined) waits nothing }

  delivered : Does w v
  delivered = ⊎_elim (λ (stop : StopLetter accs n i sender). delivery stop) (λ (stop : StopOfNone accs n i sender). refusal stop)
      (laws.stop accs n e x sender moment ev h.moved.within m h.moved.does)

  tunnel : TunnelJoined v n i b (Some u)
  tunnel = letters_joined w v n i a b [] 0 (Some t) (Some u) old (leaves_letters w w X Closed [] 0 (no_letters w X))
      (record { part = refl; peer = refl; given = refl; heeds = sym (heeds_all a works.is_open) ∙ (omega arith); declined = refl })
      (ap (λ (g : ℕ → ℕ). g X) (leaves_learned w X Closed) ∙ old.learned ∙ open_learned a works.is_open
      ∙ sym (closed_learned accs n i a (h.moved.within.accounts n i).part)) (leaves_phase w X Closed)

  pub closed_by_follows : Follows w n e x (move.ClosedBy m) (after accs d) (with_end ends n x)
  closed_by_follows =
      let tunnels_are = ap (λ (y : End). y.tunnels) h.moved.does.after in
      left_follows accs ends w n e x sender moment ev (move.ClosedBy m) d h v t tt
      (left_put e x i t u h.moved.does.there tunnels_are refl (ap (λ (y : End). y.session_ids) h.moved.does.after)
      (ap (λ (y : End). y.role) h.moved.does.after))
      (leaves_calls w w X Closed refl)
      (record {
        tunnels = leaves_elsewhere w X Closed;
        tunnel = rw (tunnels_are, at_new e.tunnels i u, is) tunnel;
        up = leaves_up w X Closed;
        move = delivered.move;
        does = delivered.does;
      })
