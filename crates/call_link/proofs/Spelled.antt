-- What an LCP end gives is a packet's spelling.
use Rattle.std.proofs.Common.{◌≡◌, ℕ, Bool, true, false, nat_lt, if◌then◌else◌, List, [], ◌∷◌, ◌++◌, length, Option, Some, None, refl}
use Rattle.std.specs.List.{AllByRecursion}
use Rattle.std.specs.Result.{result_ok}
use Rattle.lcp_wire.specs.declared.packet.Lcp.{Lcp}
use Rattle.lcp_wire.specs.Spelling.{packet_bytes}
use Rattle.lcp_wire.specs.Reading.{packet_of}
use Rattle.lcp_end.specs.declared.table.LcpEvent.{LcpEvent}
use Rattle.lcp_end.specs.declared.table.LcpEvent.TheVariants.{Up, Opens}
use Rattle.lcp_end.specs.declared.table.LcpActions.{LcpActions}
use Rattle.lcp_end.specs.declared.state.EndState.{EndState}
use Rattle.lcp_end.specs.declared.hearing.Heard.{Heard}
use Rattle.lcp_end.specs.Table.{entry}
use Rattle.lcp_end.specs.Hearing.{packet, heard_as}
use Rattle.lcp_end.specs.Steps.{Turn, begun, sent, next_id, requested, requesting, counted, zeroed, configured, terminated, signalled, acted, stepped, acked, refused, confirmed, code_rejected, echoed, answered, opened, ticked, is_due, time_out, after_heard, after_read, after_packet}
use Rattle.call_link.specs.declared.env.LinkEnv.{LinkEnv}
use Rattle.call_link.specs.Turns.{LinkCall, Opens as OpensLink, Ticks, Hears, lcp_turn}

abbrev pub IsSpelled : List ℕ → Type 0
IsSpelled bytes = (p : Lcp) × (bytes ≡ packet_bytes p)

abbrev pub AreSpelled : Turn → Type 0
AreSpelled t = AllByRecursion IsSpelled t.out.packets

one_more : (xs : List (List ℕ)) (x : List ℕ) → AllByRecursion IsSpelled xs → IsSpelled x → AllByRecursion IsSpelled (xs ++ x ∷ [])
one_more [] x all here = (here, tt)
one_more (y ∷ ys) x all here = (all.0, one_more ys x all.1 here)

if_spelled : (b : Bool) (t u : Turn) → AreSpelled t → AreSpelled u → AreSpelled (if b then u else t)
if_spelled true t u f g = g
if_spelled false t u f g = f

sent_spelled : (code id : ℕ) (body : List ℕ) (t : Turn) → AreSpelled t → AreSpelled (sent code id body t)
unfolding sent
sent_spelled code id body t s = one_more t.out.packets _ s (packet code id body, refl)

requested_spelled : (code : ℕ) (body : List ℕ) (moment : ℕ) (t : Turn) → AreSpelled t → AreSpelled (requested code body moment t)
unfolding requested
requested_spelled code body moment t s = sent_spelled code (next_id t.kept) body (record t { kept = requesting moment t.kept }) s

step_spelled : (e : LcpEvent) (moment : ℕ) (t : Turn) → AreSpelled t → AreSpelled (stepped e moment t)
unfolding stepped acted counted zeroed configured terminated signalled
step_spelled e moment t s =
    let next = entry t.kept.state e in
    let a = next.1 in
    let t0 : Turn = record t { kept = record t.kept { state = next.0 } } in
    let t1 = counted a t0 in
    let t2 = zeroed a moment t1 in
    let t3 = configured a moment t2 in
    let s1 : AreSpelled t1 = if_spelled a.irc t0 _ s s in
    let s2 : AreSpelled t2 = if_spelled a.zrc t1 _ s1 s1 in
    let s3 : AreSpelled t3 = if_spelled a.scr t2 _ s2 (requested_spelled 1 _ moment t2 s2) in
    if_spelled a.stq t3 _ s3 (requested_spelled 5 [] moment t3 s3)

answered_spelled : (a : LcpActions) (p : Lcp) (t : Turn) → AreSpelled t → AreSpelled (answered a p t)
unfolding answered acked refused confirmed code_rejected echoed
answered_spelled a p t s =
    let t1 = acked a p t in
    let t2 = refused a p t1 in
    let t3 = confirmed a p t2 in
    let t4 = code_rejected a p t3 in
    let s1 : AreSpelled t1 = if_spelled a.sca t _ s (sent_spelled p.code p.id p.body _ s) in
    let s2 : AreSpelled t2 = if_spelled a.scn t1 _ s1 (sent_spelled p.code p.id p.body _ s1) in
    let s3 : AreSpelled t3 = if_spelled a.sta t2 _ s2 (sent_spelled 6 p.id [] t2 s2) in
    let s4 : AreSpelled t4 = if_spelled a.scj t3 _ s3 (sent_spelled 7 (next_id t3.kept) p.body _ s3) in
    if_spelled a.ser t4 _ s4 (sent_spelled p.code p.id p.body t4 s4)

heard_spelled : (moment : ℕ) (k : EndState) (h : Option Heard) → AreSpelled (after_heard moment k h)
unfolding after_heard
heard_spelled moment k (Some h) =
    answered_spelled (entry h.kept.state h.event).1 h.answer _ (step_spelled h.event moment (begun h.kept) tt)
heard_spelled moment k None = tt

read_spelled : (block : List ℕ) (moment : ℕ) (k : EndState) (p : Option Lcp) → AreSpelled (after_read block moment k p)
unfolding after_read
read_spelled block moment k (Some p) = heard_spelled moment k (heard_as block k p)
read_spelled block moment k None = tt

packet_spelled : (bytes block : List ℕ) (moment : ℕ) (k : EndState) → AreSpelled (after_packet bytes block moment k)
unfolding after_packet
packet_spelled bytes block moment k =
    if_spelled (nat_lt 2048 (length bytes)) (after_read block moment k (result_ok (packet_of bytes))) (begun k)
    (read_spelled block moment k (result_ok (packet_of bytes))) tt

opened_spelled : (moment : ℕ) (k : EndState) → AreSpelled (opened moment k)
unfolding opened
opened_spelled moment k = step_spelled Up moment _ (step_spelled Opens moment (begun k) tt)

ticked_spelled : (moment : ℕ) (k : EndState) → AreSpelled (ticked moment k)
unfolding ticked
ticked_spelled moment k = if_spelled (is_due moment k) (begun k) _ tt (step_spelled (time_out k) moment (begun k) tt)

pub turn_spelled : (e : LinkEnv) (c : LinkCall) (k : EndState) → AreSpelled (lcp_turn e c k)
turn_spelled e OpensLink k = opened_spelled e.moment k
turn_spelled e Ticks k = ticked_spelled e.moment k
turn_spelled e (Hears frame) k = packet_spelled _ e.block e.moment k
