-- What a step tells is so: that there is no room, and each cause.
use Rattle.std.proofs.Common.{◌≡◌, inl, inr, ⊎_elim, ℕ, Bool, true, false, cond, List, [], ◌∷◌, refl, sym, ◌∙◌, subst, Option, Some, None, is_some, Result, Ok, Err}
use Rattle.std.proofs.lemmas.Bool.{eqb-true, eq-eqb, true≢false}
use Rattle.std.specs.Prelude.{◌==◌, ◌||◌, not}
use Rattle.std.specs.List.{AllByRecursion}
use Rattle.id_source.specs.Spaces.{takes_id}
use Rattle.id_table.specs.Ids.{at}
use Rattle.id_source.specs.declared.IdError.{IdError}
use Rattle.wire_base.specs.declared.why.Why.{Why}
use Rattle.wire_base.specs.declared.why.Why.TheVariants as why
use Rattle.wire_base.specs.declared.cause.Cause.TheVariants as cause
use Rattle.avp_codec.specs.declared.avp.Avp.{Avp}
use Rattle.avp_codec.specs.declared.error.AvpError.{AvpError}
use Rattle.avp_codec.specs.Reading.{avps_of}
use Rattle.l2tp_header.specs.declared.header.HeaderError.{HeaderError}
use Rattle.l2tp_header.specs.declared.header.HeaderError.TheVariants as header
use Rattle.control_message.specs.declared.message.Read.{Read}
use Rattle.control_message.specs.declared.message.Read.TheVariants.{Known, Ignored}
use Rattle.control_message.specs.declared.message.MessageError.{MessageError}
use Rattle.call_fsm.specs.declared.table.CallEvent.TheVariants as call_event
use Rattle.end_model.specs.declared.event.Event.{Event}
use Rattle.end_model.specs.declared.tunnel.Call.{Call}
use Rattle.end_model.specs.declared.out.Out.{Out}
use Rattle.end_model.specs.declared.out.Out.TheVariants.{Send, Up, Gone, Drop, Cause}
use Rattle.session_looks.specs.Frames.{header_why}
use Rattle.end_model.specs.Reading.{message_read, pairs_read, message_in, message_said}
use Rattle.end_model.specs.Calls.{row_of_none, is_reply, are_too_many}
use Rattle.end_model.specs.Tunnels.{Tunnel}
use Rattle.end_model.specs.Reasons.{Reason, reason, out_of_state}
use Rattle.end_model.specs.Asking.{call_of, left_of, granted}
use Rattle.end_model.specs.End.{End}
use Rattle.step_laws.specs.Letters.{Among}
use Rattle.step_laws.specs.Room.{IsFull}
use Rattle.step_laws.specs.Moves.{IsIdInUse}
use Rattle.step_laws.proofs.Named.{found_call, none_found}
use Rattle.step_laws.proofs.States.{takes_none, none_taken}
use Rattle.step_laws.specs.Causes.{Asks, MayBeGranted, AskedInVain, ForRequest, Stands}

-- an output that tells why something isn't done
abbrev pub Founded : End → ℕ → Event → Why → Type 0
Founded e moment ev w = w ≡ why.Queue → IsFull e moment ev

abbrev pub Tells : End → ℕ → Event → Out → Type 0
Tells e moment ev (Drop w) = Founded e moment ev w
Tells e moment ev (Cause c) = Stands e moment ev c
Tells e moment ev (Send peer bytes o) = Unit {0}
Tells e moment ev (Up session side frame) = Unit {0}
Tells e moment ev (Gone session) = Unit {0}

pub of_all : {X : Type 0} (P : X → Type 0) (xs : List X) (x : X) → AllByRecursion P xs → Among x xs → P x
of_all P [] x h a = absurd a
of_all P (y ∷ xs) x h a = ⊎_elim (λ same. subst P same h.0) (λ later. of_all P xs x h.1 later) a

-- ---- words that don't tell of room

-- neither a header that can't be read, nor a body
pub header_other : (x : HeaderError) → header_why x ≡ why.Queue → ⊥
header_other header.Short h = absurd cc
header_other (header.Version seen) h = absurd cc
header_other (header.ControlFlags word) h = absurd cc
header_other (header.Length said have) h = absurd cc

message_other : (r : Result Read MessageError) (w : Why) → message_read r ≡ Err w → w ≡ why.Queue → ⊥
unfolding message_read
message_other (Ok (Known m)) w h q = absurd cc
message_other (Ok (Ignored n)) w h q = absurd cc
message_other (Err x) w h q = absurd cc

pairs_other : (r : Result (List Avp) AvpError) (w : Why) → pairs_read r ≡ Err w → w ≡ why.Queue → ⊥
unfolding pairs_read
pairs_other (Ok avps) w h q = message_other (message_said avps) w h q
pairs_other (Err x) w h q = absurd cc

pub body_other : (body : List ℕ) (w : Why) → message_in body ≡ Err w → w ≡ why.Queue → ⊥
unfolding message_in
body_other body w h q = pairs_other (avps_of body) w h q

-- ---- causes that stand

module _ (e : End) (moment : ℕ) (ev : Event) (t : Tunnel) where
  -- an id that is in use, or not
  pub in_use : (remote : ℕ) → (remote == 0 || is_some (call_of t.calls remote)) ≡ true → IsIdInUse t remote
  in_use remote h = by (remote == 0) (call_of t.calls remote) refl refl h
    where
      by : (a : Bool) (o : Option ℕ) → (remote == 0) ≡ a → call_of t.calls remote ≡ o → (a || is_some o) ≡ true → IsIdInUse t remote
      by true o zero is e = inl (eqb-true remote 0 zero)
      by false (Some s) zero is e = let found = found_call t.calls remote s is in inr (s, found.0, found.1, found.2)
      by false None zero is e = absurd (true≢false (sym e))

  pub free : (remote : ℕ) → (remote == 0 || is_some (call_of t.calls remote)) ≡ false → IsIdInUse t remote → ⊥
  free remote h used = by (remote == 0) (call_of t.calls remote) refl refl h
    where
      by : (a : Bool) (o : Option ℕ) → (remote == 0) ≡ a → call_of t.calls remote ≡ o → (a || is_some o) ≡ false → ⊥
      by true o zero is e = true≢false e
      by false (Some s) zero is e = true≢false e
      by false None zero is e = ⊎_elim
          (λ (none : remote ≡ 0). true≢false (sym (eq-eqb remote 0 none) ∙ zero))
          (λ (some : (s : ℕ) × (c : Call) × (at t.calls s ≡ Some c) × (c.remote ≡ remote)). none_found t.calls remote is some.0 (some.1, some.2, some.3))
          used

  abbrev refusal : Reason → Result ℕ Reason
  refusal q = Err q

  -- why a request isn't granted
  pub granted_stands : (remote : ℕ) → Asks e ev t remote → (r : Reason) → granted e.role t.calls remote e.session_ids ≡ Err r → Stands e moment ev r.cause
  unfolding granted
  granted_stands remote asks r h =
      by (is_reply (row_of_none e.role call_event.IcrqAcc).1) (remote == 0 || is_some (call_of t.calls remote)) (are_too_many t.calls)
      (takes_id e.session_ids) refl refl refl refl h
    where
      so : (q : Reason) → refusal q ≡ refusal r → Stands e moment ev q.cause → Stands e moment ev r.cause
      so q is stands = let same : q ≡ r = cc in subst (λ (x : Reason). Stands e moment ev x.cause) same stands

      by : (a b c : Bool) (d : Result ℕ IdError) → is_reply (row_of_none e.role call_event.IcrqAcc).1 ≡ a
          → (remote == 0 || is_some (call_of t.calls remote)) ≡ b → are_too_many t.calls ≡ c → takes_id e.session_ids ≡ d
          → cond (not a) (Err out_of_state) (cond b (Err (reason cause.Session 2 (Some 5))) (cond c (Err (reason cause.Calls 4 None)) (left_of d))) ≡ Err r
          → Stands e moment ev r.cause
      by false b c d row used many drawn is = so out_of_state is (inl (t, AskedInVain remote asks (takes_none e.role row)))
      by true true c d row used many drawn is =
          so (reason cause.Session 2 (Some 5)) is (t, remote, asks, (λ lac. true≢false (sym row ∙ none_taken e.role lac)), in_use remote used)
      by true false true d row used many drawn is =
          so (reason cause.Calls 4 None) is (inr (t, remote, asks, (λ lac. true≢false (sym row ∙ none_taken e.role lac)), free remote used, many))
      by true false false (Err x) row used many drawn is = so (reason cause.Ids 4 None) is (ForRequest t remote x asks (λ lac. true≢false (sym row ∙ none_taken e.role lac)) (free remote used) many drawn)
      by true false false (Ok s) row used many drawn is = absurd cc

  -- where it is, none of these stands
  pub granted_may : (remote s : ℕ) → granted e.role t.calls remote e.session_ids ≡ Ok s → MayBeGranted e t remote
  unfolding granted
  granted_may remote s h =
      by (is_reply (row_of_none e.role call_event.IcrqAcc).1) (remote == 0 || is_some (call_of t.calls remote)) (are_too_many t.calls)
      (takes_id e.session_ids) refl refl refl refl h
    where
      no_error : (n : ℕ) → takes_id e.session_ids ≡ Ok n → (x : IdError) → takes_id e.session_ids ≡ Err x → ⊥
      no_error n drawn x none = absurd cc

      by : (a b c : Bool) (d : Result ℕ IdError) → is_reply (row_of_none e.role call_event.IcrqAcc).1 ≡ a
          → (remote == 0 || is_some (call_of t.calls remote)) ≡ b → are_too_many t.calls ≡ c → takes_id e.session_ids ≡ d
          → cond (not a) (Err out_of_state) (cond b (Err (reason cause.Session 2 (Some 5))) (cond c (Err (reason cause.Calls 4 None)) (left_of d))) ≡ Ok s
          → MayBeGranted e t remote
      by false b c d row used many drawn is = absurd cc
      by true true c d row used many drawn is = absurd cc
      by true false true d row used many drawn is = absurd cc
      by true false false (Err x) row used many drawn is = absurd cc
      by true false false (Ok n) row used many drawn is =
          record { takes = λ lac. true≢false (sym row ∙ none_taken e.role lac); free = free remote used; few = many; ids = no_error n drawn }
