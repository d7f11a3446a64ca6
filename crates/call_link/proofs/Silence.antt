-- Where an LCP end is finished it sends nothing, and doesn't come up.
use Rattle.std.proofs.Common.{◌≡◌, ℕ, Bool, true, false, ◌||◌, nat_lt, if◌then◌else◌, List, [], ◌∷◌, length, Option, Some, None, refl, sym, ◌∙◌, ap}
use Rattle.std.specs.Result.{result_ok}
use Rattle.lcp_wire.specs.declared.packet.Lcp.{Lcp}
use Rattle.lcp_wire.specs.Reading.{packet_of}
use Rattle.lcp_end.specs.declared.table.LcpState.{LcpState}
use Rattle.lcp_end.specs.declared.table.LcpState.TheVariants.{Initial, Starting, Closed, Stopped, Closing, Stopping, ReqSent, AckRcvd, AckSent, Opened}
use Rattle.lcp_end.specs.declared.table.LcpEvent.{LcpEvent}
use Rattle.lcp_end.specs.declared.table.LcpEvent.TheVariants.{Up}
use Rattle.lcp_end.specs.declared.table.LcpActions.{LcpActions}
use Rattle.lcp_end.specs.declared.state.EndState.{EndState}
use Rattle.lcp_end.specs.declared.out.LcpOut.{LcpOut}
use Rattle.lcp_end.specs.declared.hearing.Heard.{Heard}
use Rattle.lcp_end.specs.Table.{entry}
use Rattle.lcp_end.specs.Hearing.{heard_as}
use Rattle.lcp_end.specs.Steps.{Turn, begun, no_output, sent, requested, requesting, counted, zeroed, configured, terminated, signalled, acted, stepped, acked, refused, confirmed, code_rejected, echoed, answered, opened, ticked, is_due, time_out, after_heard, after_read, after_packet}
use Rattle.call_link.specs.declared.env.LinkEnv.{LinkEnv}
use Rattle.call_link.specs.Turns.{LinkCall, Opens, Ticks, Hears, lcp_turn}

-- ---- the table

-- none of the actions that send a packet, nor This-Layer-Up
abbrev loud : LcpActions → List Bool
loud a = a.scr ∷ a.stq ∷ a.sca ∷ a.scn ∷ a.sta ∷ a.scj ∷ a.ser ∷ a.tlu ∷ []

abbrev none_of : List Bool → Bool
none_of [] = true
none_of (b ∷ bs) = if b then false else none_of bs

abbrev is_silent_at_end : LcpActions → Bool
is_silent_at_end a = if a.tlf then none_of (loud a) else true

abbrev IsSilent : LcpState → LcpEvent → Type 0
IsSilent s e = is_silent_at_end (entry s e).1 ≡ true

table_silent : (s : LcpState) (e : LcpEvent) → IsSilent s e
table_silent Initial e = elim e as (λ x. IsSilent Initial x) [ Up ↦ refl | _ ↦ refl ]
table_silent Starting e = elim e as (λ x. IsSilent Starting x) [ Up ↦ refl | _ ↦ refl ]
table_silent Closed e = elim e as (λ x. IsSilent Closed x) [ Up ↦ refl | _ ↦ refl ]
table_silent Stopped e = elim e as (λ x. IsSilent Stopped x) [ Up ↦ refl | _ ↦ refl ]
table_silent Closing e = elim e as (λ x. IsSilent Closing x) [ Up ↦ refl | _ ↦ refl ]
table_silent Stopping e = elim e as (λ x. IsSilent Stopping x) [ Up ↦ refl | _ ↦ refl ]
table_silent ReqSent e = elim e as (λ x. IsSilent ReqSent x) [ Up ↦ refl | _ ↦ refl ]
table_silent AckRcvd e = elim e as (λ x. IsSilent AckRcvd x) [ Up ↦ refl | _ ↦ refl ]
table_silent AckSent e = elim e as (λ x. IsSilent AckSent x) [ Up ↦ refl | _ ↦ refl ]
table_silent Opened e = elim e as (λ x. IsSilent Opened x) [ Up ↦ refl | _ ↦ refl ]

AreFalse : List Bool → Type 0
AreFalse [] = Unit {0}
AreFalse (b ∷ bs) = (b ≡ false) × AreFalse bs

are_false : (bs : List Bool) → none_of bs ≡ true → AreFalse bs
unfolding AreFalse
are_false [] h = tt
are_false (true ∷ bs) h = cc
are_false (false ∷ bs) h = (refl, are_false bs h)

-- the flags, one by one
record IsQuiet (a : LcpActions) : Type 0 where
  pub scr : a.scr ≡ false
  pub stq : a.stq ≡ false
  pub sca : a.sca ≡ false
  pub scn : a.scn ≡ false
  pub sta : a.sta ≡ false
  pub scj : a.scj ≡ false
  pub ser : a.ser ≡ false
  pub tlu : a.tlu ≡ false

quiet_of : (a : LcpActions) → AreFalse (loud a) → IsQuiet a
unfolding AreFalse
quiet_of a q =
    record {
      scr = q.0;
      stq = q.1.0;
      sca = q.1.1.0;
      scn = q.1.1.1.0;
      sta = q.1.1.1.1.0;
      scj = q.1.1.1.1.1.0;
      ser = q.1.1.1.1.1.1.0;
      tlu = q.1.1.1.1.1.1.1.0;
    }

if_ended : (b : Bool) (bs : List Bool) → b ≡ true → (if b then none_of bs else true) ≡ true → none_of bs ≡ true
if_ended true bs e h = h
if_ended false bs e h = cc

quiet_at_end : (s : LcpState) (e : LcpEvent) → (entry s e).1.tlf ≡ true → IsQuiet (entry s e).1
quiet_at_end s e ended =
    let a = (entry s e).1 in quiet_of a (are_false (loud a) (if_ended a.tlf (loud a) ended (table_silent s e)))

-- ---- what isn't done leaves a turn as it is

skipped : (b : Bool) (t u : Turn) → b ≡ false → (if b then u else t) ≡ t
skipped true t u e = cc
skipped false t u e = refl

configured_not : (a : LcpActions) (moment : ℕ) (t : Turn) → a.scr ≡ false → configured a moment t ≡ t
unfolding configured
configured_not a moment t e = skipped a.scr t _ e

terminated_not : (a : LcpActions) (moment : ℕ) (t : Turn) → a.stq ≡ false → terminated a moment t ≡ t
unfolding terminated
terminated_not a moment t e = skipped a.stq t _ e

acked_not : (a : LcpActions) (p : Lcp) (t : Turn) → a.sca ≡ false → acked a p t ≡ t
unfolding acked
acked_not a p t e = skipped a.sca t _ e

refused_not : (a : LcpActions) (p : Lcp) (t : Turn) → a.scn ≡ false → refused a p t ≡ t
unfolding refused
refused_not a p t e = skipped a.scn t _ e

confirmed_not : (a : LcpActions) (p : Lcp) (t : Turn) → a.sta ≡ false → confirmed a p t ≡ t
unfolding confirmed
confirmed_not a p t e = skipped a.sta t _ e

code_rejected_not : (a : LcpActions) (p : Lcp) (t : Turn) → a.scj ≡ false → code_rejected a p t ≡ t
unfolding code_rejected
code_rejected_not a p t e = skipped a.scj t _ e

echoed_not : (a : LcpActions) (p : Lcp) (t : Turn) → a.ser ≡ false → echoed a p t ≡ t
unfolding echoed
echoed_not a p t e = skipped a.ser t _ e

answered_not : (a : LcpActions) (p : Lcp) (t : Turn) → IsQuiet a → answered a p t ≡ t
unfolding answered
answered_not a p t q =
    let t1 = acked a p t in
    let t2 = refused a p t1 in
    let t3 = confirmed a p t2 in
    let t4 = code_rejected a p t3 in
    echoed_not a p t4 q.ser ∙ code_rejected_not a p t3 q.scj ∙ confirmed_not a p t2 q.sta ∙ refused_not a p t1 q.scn ∙ acked_not a p t q.sca

-- ---- whether it is finished

if_out : (b : Bool) (t u : Turn) → u.out ≡ t.out → (if b then u else t).out ≡ t.out
if_out true t u e = e
if_out false t u e = refl

counted_out : (a : LcpActions) (t : Turn) → (counted a t).out ≡ t.out
unfolding counted
counted_out a t = if_out a.irc t _ refl

zeroed_out : (a : LcpActions) (moment : ℕ) (t : Turn) → (zeroed a moment t).out ≡ t.out
unfolding zeroed
zeroed_out a moment t = if_out a.zrc t _ refl

if_same : (b : Bool) (t u : Turn) → u.out.finished ≡ t.out.finished → (if b then u else t).out.finished ≡ t.out.finished
if_same true t u e = e
if_same false t u e = refl

configured_same : (a : LcpActions) (moment : ℕ) (t : Turn) → (configured a moment t).out.finished ≡ t.out.finished
unfolding configured requested sent
configured_same a moment t = if_same a.scr t _ refl

terminated_same : (a : LcpActions) (moment : ℕ) (t : Turn) → (terminated a moment t).out.finished ≡ t.out.finished
unfolding terminated requested sent
terminated_same a moment t = if_same a.stq t _ refl

answered_same : (a : LcpActions) (p : Lcp) (t : Turn) → (answered a p t).out.finished ≡ t.out.finished
unfolding answered acked refused confirmed code_rejected echoed sent
answered_same a p t =
    let t1 = acked a p t in
    let t2 = refused a p t1 in
    let t3 = confirmed a p t2 in
    let t4 = code_rejected a p t3 in
    if_same a.ser t4 _ refl ∙ if_same a.scj t3 _ refl ∙ if_same a.sta t2 _ refl ∙ if_same a.scn t1 _ refl ∙ if_same a.sca t _ refl

stepped_same : (e : LcpEvent) (moment : ℕ) (k : EndState) → (stepped e moment (begun k)).out.finished ≡ (entry k.state e).1.tlf
unfolding stepped acted signalled
stepped_same e moment k =
    let given = entry k.state e in
    let a = given.1 in
    let t0 : Turn = record (begun k) { kept = record k { state = given.0 } } in
    let t1 = counted a t0 in
    let t2 = zeroed a moment t1 in
    let t3 = configured a moment t2 in
    let out : t2.out ≡ no_output = zeroed_out a moment t1 ∙ counted_out a t0 in
    ap (λ b. b || a.tlf) (terminated_same a moment t3 ∙ configured_same a moment t2 ∙ ap (λ (o : LcpOut). o.finished) out)

-- ---- a step that finishes it

pub record IsEnd (t : Turn) : Type 0 where
  pub packets : t.out.packets ≡ []
  pub up : t.out.up ≡ false

stepped_end : (e : LcpEvent) (moment : ℕ) (k : EndState) → IsQuiet (entry k.state e).1 → IsEnd (stepped e moment (begun k))
unfolding stepped acted signalled
stepped_end e moment k q =
    let given = entry k.state e in
    let a = given.1 in
    let t0 : Turn = record (begun k) { kept = record k { state = given.0 } } in
    let t1 = counted a t0 in
    let t2 = zeroed a moment t1 in
    let t3 = configured a moment t2 in
    let t4 = terminated a moment t3 in
    let same : t4 ≡ t2 = terminated_not a moment t3 q.stq ∙ configured_not a moment t2 q.scr in
    let out : t4.out ≡ no_output = ap (λ (t : Turn). t.out) same ∙ zeroed_out a moment t1 ∙ counted_out a t0 in
    record {
      packets = ap (λ (o : LcpOut). o.packets) out;
      up = ap (λ (o : LcpOut). o.up || a.tlu) out ∙ q.tlu;
    }

step_end : (e : LcpEvent) (moment : ℕ) (k : EndState) → (stepped e moment (begun k)).out.finished ≡ true → IsEnd (stepped e moment (begun k))
step_end e moment k h = stepped_end e moment k (quiet_at_end k.state e (sym (stepped_same e moment k) ∙ h))

same_end : (t u : Turn) → t ≡ u → IsEnd u → IsEnd t
same_end t u e h =
    record { packets = ap (λ (x : Turn). x.out.packets) e ∙ h.packets; up = ap (λ (x : Turn). x.out.up) e ∙ h.up }

heard_end : (moment : ℕ) (k : EndState) (h : Option Heard) → (after_heard moment k h).out.finished ≡ true → IsEnd (after_heard moment k h)
unfolding after_heard
heard_end moment k (Some h) f =
    let a = (entry h.kept.state h.event).1 in
    let t = stepped h.event moment (begun h.kept) in
    let ended : a.tlf ≡ true = sym (stepped_same h.event moment h.kept) ∙ sym (answered_same a h.answer t) ∙ f in
    let quiet = quiet_at_end h.kept.state h.event ended in
    same_end (answered a h.answer t) t (answered_not a h.answer t quiet) (stepped_end h.event moment h.kept quiet)
heard_end moment k None f = cc

read_end : (block : List ℕ) (moment : ℕ) (k : EndState) (p : Option Lcp) → (after_read block moment k p).out.finished ≡ true
    → IsEnd (after_read block moment k p)
unfolding after_read
read_end block moment k (Some p) f = heard_end moment k (heard_as block k p) f
read_end block moment k None f = cc

if_end : (b : Bool) (t u : Turn) → (t.out.finished ≡ true → IsEnd t) → (u.out.finished ≡ true → IsEnd u) →
    (if b then t else u).out.finished ≡ true → IsEnd (if b then t else u)
if_end true t u f g h = f h
if_end false t u f g h = g h

nothing_ends : (k : EndState) → (begun k).out.finished ≡ true → IsEnd (begun k)
nothing_ends k h = cc

packet_end : (bytes block : List ℕ) (moment : ℕ) (k : EndState) → (after_packet bytes block moment k).out.finished ≡ true
    → IsEnd (after_packet bytes block moment k)
unfolding after_packet
packet_end bytes block moment k =
    if_end (nat_lt 2048 (length bytes)) (begun k) (after_read block moment k (result_ok (packet_of bytes)))
    (nothing_ends k) (read_end block moment k (result_ok (packet_of bytes)))

ticked_end : (moment : ℕ) (k : EndState) → (ticked moment k).out.finished ≡ true → IsEnd (ticked moment k)
unfolding ticked
ticked_end moment k = if_end (is_due moment k) _ (begun k) (step_end (time_out k) moment k) (nothing_ends k)

-- an opening finishes nothing
opened_goes_on : (moment : ℕ) (k : EndState) → (opened moment k).out.finished ≡ false
unfolding opened stepped acted counted zeroed configured terminated requested requesting sent signalled
opened_goes_on moment k =
    elim k.state as (λ s. (opened moment (record k { state = s })).out.finished ≡ false) [ Initial ↦ refl | _ ↦ refl ]

opened_end : (moment : ℕ) (k : EndState) → (opened moment k).out.finished ≡ true → IsEnd (opened moment k)
opened_end moment k h = let goes_on = opened_goes_on moment k in cc

pub turn_end : (e : LinkEnv) (c : LinkCall) (k : EndState) → (lcp_turn e c k).out.finished ≡ true → IsEnd (lcp_turn e c k)
turn_end e Opens k = opened_end e.moment k
turn_end e Ticks k = ticked_end e.moment k
turn_end e (Hears frame) k = packet_end _ e.block e.moment k
