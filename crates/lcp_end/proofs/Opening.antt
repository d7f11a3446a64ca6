-- What a step gives tells whether the link is open.
use Rattle.std.proofs.Common.{◌≡◌, ℕ, Bool, true, false, ◌==◌, ◌&&◌, ◌||◌, not, nat_lt, IsTrue, if◌then◌else◌, List, [], length, Option, Some, None, refl, sym, ◌∙◌, ap}
use Rattle.std.specs.Result.{result_ok}
use Rattle.lcp_wire.specs.declared.packet.Lcp.{Lcp}
use Rattle.lcp_wire.specs.Reading.{packet_of}
use Rattle.lcp_end.specs.declared.table.LcpState.{LcpState}
use Rattle.lcp_end.specs.declared.table.LcpState.TheVariants.{Initial, Starting, Closed, Stopped, Closing, Stopping, ReqSent, AckRcvd, AckSent, Opened}
use Rattle.lcp_end.specs.declared.table.LcpEvent.{LcpEvent}
use Rattle.lcp_end.specs.declared.table.LcpEvent.TheVariants.{Up, Opens, Closes}
use Rattle.lcp_end.specs.declared.table.LcpActions.{LcpActions}
use Rattle.lcp_end.specs.declared.state.EndState.{EndState}
use Rattle.lcp_end.specs.declared.hearing.Heard.{Heard}
use Rattle.lcp_end.specs.Table.{entry, state_number}
use Rattle.lcp_end.specs.Hearing.{heard_as}
use Rattle.lcp_end.specs.Steps.{Turn, begun, sent, requested, requesting, counted, zeroed, configured, terminated, signalled, acted, stepped, acked, refused, confirmed, code_rejected, echoed, answered, opened, closed, ticked, is_due, time_out, after_heard, after_read, after_packet, is_opened}
use Rattle.lcp_end.proofs.Answers.{Keeps, heard_keeps}
use Rattle.lcp_end.specs.Laws.{OpenLink, CloseLink, OnTick, OnPacket, TellsOpen, EachTellsOpen}

-- ---- what changes neither the state nor what is told of the link

record IsQuiet (t u : Turn) : Type 0 where
  pub state : u.kept.state ≡ t.kept.state
  pub up : u.out.up ≡ t.out.up
  pub down : u.out.down ≡ t.out.down

same : (t : Turn) → IsQuiet t t
same t = record { state = refl; up = refl; down = refl }

then_quiet : (t u v : Turn) → IsQuiet t u → IsQuiet u v → IsQuiet t v
then_quiet t u v f g = record { state = g.state ∙ f.state; up = g.up ∙ f.up; down = g.down ∙ f.down }

if_quiet : (b : Bool) (t u : Turn) → IsQuiet t u → IsQuiet t (if b then u else t)
if_quiet true t u q = q
if_quiet false t u q = same t

sent_quiet : (code id : ℕ) (body : List ℕ) (t : Turn) → IsQuiet t (sent code id body t)
unfolding sent
sent_quiet code id body t = record { state = refl; up = refl; down = refl }

requested_quiet : (code : ℕ) (body : List ℕ) (moment : ℕ) (t : Turn) → IsQuiet t (requested code body moment t)
unfolding requested requesting sent
requested_quiet code body moment t = record { state = refl; up = refl; down = refl }

counted_quiet : (a : LcpActions) (t : Turn) → IsQuiet t (counted a t)
unfolding counted
counted_quiet a t = if_quiet a.irc t _ (record { state = refl; up = refl; down = refl })

zeroed_quiet : (a : LcpActions) (moment : ℕ) (t : Turn) → IsQuiet t (zeroed a moment t)
unfolding zeroed
zeroed_quiet a moment t = if_quiet a.zrc t _ (record { state = refl; up = refl; down = refl })

configured_quiet : (a : LcpActions) (moment : ℕ) (t : Turn) → IsQuiet t (configured a moment t)
unfolding configured
configured_quiet a moment t = if_quiet a.scr t _ (requested_quiet 1 _ moment t)

terminated_quiet : (a : LcpActions) (moment : ℕ) (t : Turn) → IsQuiet t (terminated a moment t)
unfolding terminated
terminated_quiet a moment t = if_quiet a.stq t _ (requested_quiet 5 [] moment t)

acked_quiet : (a : LcpActions) (p : Lcp) (t : Turn) → IsQuiet t (acked a p t)
unfolding acked sent
acked_quiet a p t = if_quiet a.sca t _ (record { state = refl; up = refl; down = refl })

refused_quiet : (a : LcpActions) (p : Lcp) (t : Turn) → IsQuiet t (refused a p t)
unfolding refused sent
refused_quiet a p t = if_quiet a.scn t _ (record { state = refl; up = refl; down = refl })

confirmed_quiet : (a : LcpActions) (p : Lcp) (t : Turn) → IsQuiet t (confirmed a p t)
unfolding confirmed
confirmed_quiet a p t = if_quiet a.sta t _ (sent_quiet 6 p.id [] t)

code_rejected_quiet : (a : LcpActions) (p : Lcp) (t : Turn) → IsQuiet t (code_rejected a p t)
unfolding code_rejected sent
code_rejected_quiet a p t = if_quiet a.scj t _ (record { state = refl; up = refl; down = refl })

echoed_quiet : (a : LcpActions) (p : Lcp) (t : Turn) → IsQuiet t (echoed a p t)
unfolding echoed
echoed_quiet a p t = if_quiet a.ser t _ (sent_quiet p.code p.id p.body t)

answered_quiet : (a : LcpActions) (p : Lcp) (t : Turn) → IsQuiet t (answered a p t)
unfolding answered
answered_quiet a p t =
    let t1 = acked a p t in
    let t2 = refused a p t1 in
    let t3 = confirmed a p t2 in
    let t4 = code_rejected a p t3 in
    then_quiet t t4 _ (
    then_quiet t t3 t4 (then_quiet t t2 t3 (then_quiet t t1 t2 (acked_quiet a p t) (refused_quiet a p t1)) (confirmed_quiet a p t2)) (code_rejected_quiet a p t3)
    ) (echoed_quiet a p t4)

-- ---- a step

record Moves (e : LcpEvent) (t u : Turn) : Type 0 where
  pub state : u.kept.state ≡ (entry t.kept.state e).0
  pub up : u.out.up ≡ (t.out.up || (entry t.kept.state e).1.tlu)
  pub down : u.out.down ≡ (t.out.down || (entry t.kept.state e).1.tld)

stepped_moves : (e : LcpEvent) (moment : ℕ) (t : Turn) → Moves e t (stepped e moment t)
unfolding stepped acted signalled
stepped_moves e moment t =
    let given = entry t.kept.state e in
    let a = given.1 in
    let t0 : Turn = record t { kept = record t.kept { state = given.0 } } in
    let t1 = counted a t0 in
    let t2 = zeroed a moment t1 in
    let t3 = configured a moment t2 in
    let quiet = then_quiet t0 t3 (terminated a moment t3) (
    then_quiet t0 t2 t3 (then_quiet t0 t1 t2 (counted_quiet a t0) (zeroed_quiet a moment t1)) (configured_quiet a moment t2)
    ) (terminated_quiet a moment t3) in
    record {
      state = quiet.state;
      up = ap (λ b. b || a.tlu) quiet.up;
      down = ap (λ b. b || a.tld) quiet.down;
    }

-- ---- the table

abbrev is_nine : LcpState → Bool
is_nine s = state_number s == 9

-- up exactly where the link becomes open, down exactly where it is open no more
record Told (was is came went : Bool) : Type 0 where
  pub up : came ≡ (not was && is)
  pub down : went ≡ (was && not is)

abbrev IsTold : LcpState → LcpEvent → Type 0
IsTold s e = Told (is_nine s) (is_nine (entry s e).0) (entry s e).1.tlu (entry s e).1.tld

table_told : (s : LcpState) (e : LcpEvent) → IsTold s e
table_told Initial e = elim e as (λ x. IsTold Initial x) [ Up ↦ record { up = refl; down = refl } | _ ↦ record { up = refl; down = refl } ]
table_told Starting e = elim e as (λ x. IsTold Starting x) [ Up ↦ record { up = refl; down = refl } | _ ↦ record { up = refl; down = refl } ]
table_told Closed e = elim e as (λ x. IsTold Closed x) [ Up ↦ record { up = refl; down = refl } | _ ↦ record { up = refl; down = refl } ]
table_told Stopped e = elim e as (λ x. IsTold Stopped x) [ Up ↦ record { up = refl; down = refl } | _ ↦ record { up = refl; down = refl } ]
table_told Closing e = elim e as (λ x. IsTold Closing x) [ Up ↦ record { up = refl; down = refl } | _ ↦ record { up = refl; down = refl } ]
table_told Stopping e = elim e as (λ x. IsTold Stopping x) [ Up ↦ record { up = refl; down = refl } | _ ↦ record { up = refl; down = refl } ]
table_told ReqSent e = elim e as (λ x. IsTold ReqSent x) [ Up ↦ record { up = refl; down = refl } | _ ↦ record { up = refl; down = refl } ]
table_told AckRcvd e = elim e as (λ x. IsTold AckRcvd x) [ Up ↦ record { up = refl; down = refl } | _ ↦ record { up = refl; down = refl } ]
table_told AckSent e = elim e as (λ x. IsTold AckSent x) [ Up ↦ record { up = refl; down = refl } | _ ↦ record { up = refl; down = refl } ]
table_told Opened e = elim e as (λ x. IsTold Opened x) [ Up ↦ record { up = refl; down = refl } | _ ↦ record { up = refl; down = refl } ]

-- the link is to be opened, and then the layer below is up
abbrev AreTold : LcpState → Type 0
AreTold s =
    let s1 = (entry s Opens).0 in
    Told (is_nine s) (is_nine (entry s1 Up).0) ((entry s Opens).1.tlu || (entry s1 Up).1.tlu) ((entry s Opens).1.tld || (entry s1 Up).1.tld)

both_told : (s : LcpState) → AreTold s
both_told s = elim s as (λ x. AreTold x) [ Initial ↦ record { up = refl; down = refl } | _ ↦ record { up = refl; down = refl } ]

-- ---- the calls

abbrev IsToldOf : EndState → Turn → Type 0
IsToldOf k t = Told (is_opened k) (is_opened t.kept) t.out.up t.out.down

as_before : (b : Bool) → Told b b false false
as_before true = record { up = refl; down = refl }
as_before false = record { up = refl; down = refl }

still : (was is : Bool) → is ≡ ((not was && is) || (was && not (was && not is)))
still true true = refl
still true false = refl
still false true = refl
still false false = refl

came_up : (was is : Bool) → IsTrue (not was && is) → was ≡ false
came_up true is h = cc
came_up false is h = refl

went_down : (was is : Bool) → IsTrue (was && not is) → was ≡ true
went_down true is h = refl
went_down false is h = cc

tells : (k : EndState) (t : Turn) → IsToldOf k t → TellsOpen k t
tells k t told =
    record {
      opened = rw (told.up, told.down) (still (is_opened k) (is_opened t.kept));
      up = λ h. came_up (is_opened k) (is_opened t.kept) (rw told.up at h);
      down = λ h. went_down (is_opened k) (is_opened t.kept) (rw told.down at h);
    }

-- a step of an end whose state is that one
step_told : (e : LcpEvent) (moment : ℕ) (k : EndState) → IsToldOf k (stepped e moment (begun k))
step_told e moment k =
    let m = stepped_moves e moment (begun k) in
    let told = table_told k.state e in
    record {
      up = m.up ∙ told.up ∙ ap (λ s. not (is_opened k) && is_nine s) (sym m.state);
      down = m.down ∙ told.down ∙ ap (λ s. is_opened k && not (is_nine s)) (sym m.state);
    }

opened_told : (moment : ℕ) (k : EndState) → IsToldOf k (opened moment k)
unfolding opened
opened_told moment k =
    let t1 = stepped Opens moment (begun k) in
    let m1 = stepped_moves Opens moment (begun k) in
    let m2 = stepped_moves Up moment t1 in
    let told = both_told k.state in
    let state : (stepped Up moment t1).kept.state ≡ (entry (entry k.state Opens).0 Up).0 = m2.state ∙ ap (λ s. (entry s Up).0) m1.state in
    let up = ap (λ b. b || (entry t1.kept.state Up).1.tlu) m1.up ∙ ap (λ s. (entry k.state Opens).1.tlu || (entry s Up).1.tlu) m1.state in
    let down = ap (λ b. b || (entry t1.kept.state Up).1.tld) m1.down ∙ ap (λ s. (entry k.state Opens).1.tld || (entry s Up).1.tld) m1.state in
    record {
      up = m2.up ∙ up ∙ told.up ∙ ap (λ s. not (is_opened k) && is_nine s) (sym state);
      down = m2.down ∙ down ∙ told.down ∙ ap (λ s. is_opened k && not (is_nine s)) (sym state);
    }

if_told : (b : Bool) (k : EndState) (t : Turn) → IsToldOf k t → IsToldOf k (if b then t else begun k)
if_told true k t h = h
if_told false k t h = as_before (is_opened k)

ticked_told : (moment : ℕ) (k : EndState) → IsToldOf k (ticked moment k)
unfolding ticked
ticked_told moment k = if_told (is_due moment k) k _ (step_told (time_out k) moment k)

heard_told : (moment : ℕ) (k : EndState) (h : Option Heard) → Keeps k h → IsToldOf k (after_heard moment k h)
unfolding after_heard
heard_told moment k (Some h) keeps =
    let t = stepped h.event moment (begun h.kept) in
    let told = step_told h.event moment h.kept in
    let q = answered_quiet (entry h.kept.state h.event).1 h.answer t in
    let was : is_opened h.kept ≡ is_opened k = ap is_nine keeps.kept.state in
    let is : is_opened t.kept ≡ is_opened (after_heard moment k (Some h)).kept = ap is_nine (sym q.state) in
    record {
      up = q.up ∙ told.up ∙ ap (λ b. not b && is_opened t.kept) was ∙ ap (λ b. not (is_opened k) && b) is;
      down = q.down ∙ told.down ∙ ap (λ b. b && not (is_opened t.kept)) was ∙ ap (λ b. is_opened k && not b) is;
    }
heard_told moment k None keeps = as_before (is_opened k)

read_told : (block : List ℕ) (moment : ℕ) (k : EndState) (p : Option Lcp) → IsToldOf k (after_read block moment k p)
unfolding after_read
read_told block moment k (Some p) = heard_told moment k (heard_as block k p) (heard_keeps block k p)
read_told block moment k None = as_before (is_opened k)

packet_told : (bytes block : List ℕ) (moment : ℕ) (k : EndState) → IsToldOf k (after_packet bytes block moment k)
unfolding after_packet
packet_told bytes block moment k =
    elim (nat_lt 2048 (length bytes)) as (λ b. IsToldOf k (if b then begun k else after_read block moment k (result_ok (packet_of bytes)))) [
      | true ↦ as_before (is_opened k)
      | false ↦ read_told block moment k (result_ok (packet_of bytes))
    ]

pub each_tells_open : EachTellsOpen
unfolding closed
each_tells_open (OpenLink moment) k = tells k _ (opened_told moment k)
each_tells_open (CloseLink moment) k = tells k _ (step_told Closes moment k)
each_tells_open (OnTick moment) k = tells k _ (ticked_told moment k)
each_tells_open (OnPacket bytes block moment) k = tells k _ (packet_told bytes block moment k)
