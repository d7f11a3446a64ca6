-- The packets that an end begins have the identifiers from 1 on.
use Rattle.std.proofs.Common.{◌≡◌, ℕ, ◌+◌, ◌%◌, ◌^◌, Bool, true, false, ◌⊎◌, inl, inr, nat_lt, if◌then◌else◌, List, [], ◌∷◌, ◌++◌, length, Option, Some, None, refl, sym, ◌∙◌, ap, subst}
use Rattle.std.specs.Bool.{OnTrue}
use Rattle.std.specs.Result.{result_ok}
use Rattle.lcp_wire.specs.declared.packet.Lcp.{Lcp}
use Rattle.lcp_wire.specs.Spelling.{packet_bytes}
use Rattle.lcp_wire.specs.Reading.{packet_of}
use Rattle.lcp_end.specs.declared.table.LcpState.{LcpState}
use Rattle.lcp_end.specs.declared.table.LcpState.TheVariants.{Initial}
use Rattle.lcp_end.specs.declared.table.LcpEvent.{LcpEvent}
use Rattle.lcp_end.specs.declared.table.LcpEvent.TheVariants.{Up, Opens, Closes, Ruc}
use Rattle.lcp_end.specs.declared.table.LcpActions.{LcpActions}
use Rattle.lcp_end.specs.declared.state.EndState.{EndState}
use Rattle.lcp_end.specs.declared.hearing.Heard.{Heard}
use Rattle.lcp_end.specs.Table.{entry}
use Rattle.lcp_end.specs.Hearing.{packet, heard_as}
use Rattle.lcp_end.specs.Steps.{Turn, begun, fresh, sent, next_id, requested, requesting, counted, zeroed, configured, terminated, signalled, acted, stepped, acked, refused, confirmed, code_rejected, echoed, answered, opened, closed, ticked, is_due, time_out, after_heard, after_read, after_packet}
use Rattle.lcp_end.specs.Laws.{Call, OpenLink, CloseLink, OnTick, OnPacket, after, given, code_in, is_begun, id_after, last_id_after, AreCounted, CountsIds}
use Rattle.lcp_end.proofs.Answers.{IsAnswer, Keeps, heard_keeps}

-- ---- lists of packets

joins : (last : ℕ) (xs ys : List (List ℕ)) → AreCounted last xs → AreCounted (last_id_after last xs) ys → AreCounted last (xs ++ ys)
joins last [] ys f g = g
joins last (x ∷ xs) ys f g = (f.0, joins (id_after last x) xs ys f.1 g)

last_joined : (last : ℕ) (xs ys : List (List ℕ)) → last_id_after last (xs ++ ys) ≡ last_id_after (last_id_after last xs) ys
last_joined last [] ys = refl
last_joined last (x ∷ xs) ys = last_joined (id_after last x) xs ys

-- ---- turns

-- the packets given since a counter was last are counted, and the counter is that of the last of them
record IsCounted (last : ℕ) (t : Turn) : Type 0 where
  pub each : AreCounted last t.out.packets
  pub counter : t.kept.last_id ≡ last_id_after last t.out.packets

if_counted : (b : Bool) (last : ℕ) (t u : Turn) → IsCounted last t → (b ≡ false) ⊎ IsCounted last u → IsCounted last (if b then u else t)
if_counted true last t u f (inl e) = cc
if_counted true last t u f (inr g) = g
if_counted false last t u f g = f

id_stays : (last : ℕ) (bytes : List ℕ) → is_begun (code_in bytes) ≡ false → id_after last bytes ≡ last
id_stays last bytes e = rw e refl

id_goes_on : (last : ℕ) (bytes : List ℕ) → is_begun (code_in bytes) ≡ true → id_after last bytes ≡ (last + 1) % 2 ^ 8
id_goes_on last bytes e = rw e refl

if_begun : (b : Bool) (P : Type 0) → b ≡ false → OnTrue b P
if_begun true P e = cc
if_begun false P e = tt

has_id : (b : Bool) (P : Type 0) → P → OnTrue b P
has_id true P p = p
has_id false P p = tt

-- an answer is sent
answer_counted : (last code id : ℕ) (body : List ℕ) (t : Turn) → is_begun code ≡ false → IsCounted last t → IsCounted last (sent code id body t)
unfolding sent
answer_counted last code id body t e c =
    let bytes : List ℕ = packet_bytes (packet code id body) in
    record {
      each = joins last t.out.packets (bytes ∷ []) c.each (if_begun (is_begun code) _ e, tt);
      counter =
          c.counter ∙ sym (id_stays (last_id_after last t.out.packets) bytes e) ∙ sym (last_joined last t.out.packets (bytes ∷ []));
    }

-- a packet is begun, with the next identifier
begun_counted : (last code : ℕ) (body : List ℕ) (t u : Turn) → is_begun code ≡ true → IsCounted last t →
    u.out.packets ≡ t.out.packets → u.kept.last_id ≡ next_id t.kept → IsCounted last (sent code (next_id t.kept) body u)
unfolding sent
begun_counted last code body t u e c same next =
    let bytes : List ℕ = packet_bytes (packet code (next_id t.kept) body) in
    let so_far : ℕ = last_id_after last t.out.packets in
    let here : next_id t.kept ≡ (so_far + 1) % 2 ^ 8 = ap (λ n. (n + 1) % 2 ^ 8) c.counter in
    let all : AreCounted last (t.out.packets ++ bytes ∷ []) = joins last t.out.packets (bytes ∷ []) c.each (has_id (is_begun code) _ here, tt) in
    let is_last : next_id t.kept ≡ last_id_after last (t.out.packets ++ bytes ∷ []) =
    here ∙ sym (id_goes_on so_far bytes e) ∙ sym (last_joined last t.out.packets (bytes ∷ [])) in
    record {
      each = subst (λ ps. AreCounted last (ps ++ bytes ∷ [])) (sym same) all;
      counter = next ∙ is_last ∙ ap (λ ps. last_id_after last (ps ++ bytes ∷ [])) (sym same);
    }

request_counted : (last code : ℕ) (body : List ℕ) (moment : ℕ) (t : Turn) → is_begun code ≡ true → IsCounted last t →
    IsCounted last (requested code body moment t)
unfolding requested requesting
request_counted last code body moment t e c = begun_counted last code body t _ e c refl refl

-- ---- a step

step_counted : (last : ℕ) (e : LcpEvent) (moment : ℕ) (t : Turn) → IsCounted last t → IsCounted last (stepped e moment t)
unfolding stepped acted counted zeroed configured terminated signalled
step_counted last e moment t c =
    let next = entry t.kept.state e in
    let a = next.1 in
    let t0 : Turn = record t { kept = record t.kept { state = next.0 } } in
    let t1 = counted a t0 in
    let t2 = zeroed a moment t1 in
    let t3 = configured a moment t2 in
    let c0 : IsCounted last t0 = record { each = c.each; counter = c.counter } in
    let c1 : IsCounted last t1 = if_counted a.irc last t0 _ c0 (inr (record { each = c.each; counter = c.counter })) in
    let c2 : IsCounted last t2 = if_counted a.zrc last t1 _ c1 (inr (record { each = c1.each; counter = c1.counter })) in
    let c3 : IsCounted last t3 = if_counted a.scr last t2 _ c2 (inr (request_counted last 1 _ moment t2 refl c2)) in
    let c4 : IsCounted last (terminated a moment t3) = if_counted a.stq last t3 _ c3 (inr (request_counted last 5 [] moment t3 refl c3)) in
    record { each = c4.each; counter = c4.counter }

-- ---- the answers

-- the answer isn't sent as it stands
abbrev IsKeptBack : LcpActions → Type 0
IsKeptBack a = (a.sca ≡ false) × (a.scn ≡ false) × (a.ser ≡ false)

-- the packet isn't one that this end begins, or isn't sent as it stands
abbrev Fits : LcpActions → Lcp → Type 0
Fits a p = (is_begun p.code ≡ false) ⊎ IsKeptBack a

ruc_answers : (s : LcpState) → IsKeptBack (entry s Ruc).1
ruc_answers s = elim s as (λ x. IsKeptBack (entry x Ruc).1) [ Initial ↦ (refl, refl, refl) | _ ↦ (refl, refl, refl) ]

fits : (s : LcpState) (h : Heard) → IsAnswer h → Fits (entry s h.event).1 h.answer
fits s h (inl e) = inl e
fits s h (inr e) = inr (subst (λ x. IsKeptBack (entry s x).1) (sym e) (ruc_answers s))

if_answered : (b : Bool) (last : ℕ) (p : Lcp) (t u : Turn) → IsCounted last t → IsCounted last u →
    (is_begun p.code ≡ false) ⊎ (b ≡ false) → IsCounted last (if b then sent p.code p.id p.body u else t)
if_answered true last p t u f g (inl e) = answer_counted last p.code p.id p.body u e g
if_answered true last p t u f g (inr e) = cc
if_answered false last p t u f g h = f

answers_counted : (last : ℕ) (a : LcpActions) (p : Lcp) (t : Turn) → Fits a p → IsCounted last t → IsCounted last (answered a p t)
unfolding answered acked refused confirmed code_rejected echoed
answers_counted last a p t f c =
    let t1 = acked a p t in
    let t2 = refused a p t1 in
    let t3 = confirmed a p t2 in
    let t4 = code_rejected a p t3 in
    let c1 : IsCounted last t1 =
    if_answered a.sca last p t _ c (record { each = c.each; counter = c.counter }) (elim f [ inl e ↦ inl e | inr e ↦ inr e.0 ]) in
    let c2 : IsCounted last t2 =
    if_answered a.scn last p t1 _ c1 (record { each = c1.each; counter = c1.counter }) (elim f [ inl e ↦ inl e | inr e ↦ inr e.1 ]) in
    let c3 : IsCounted last t3 = if_counted a.sta last t2 _ c2 (inr (answer_counted last 6 p.id [] t2 refl c2)) in
    let c4 : IsCounted last t4 = if_counted a.scj last t3 _ c3 (inr (begun_counted last 7 p.body t3 _ refl c3 refl refl)) in
    if_answered a.ser last p t4 t4 c4 c4 (elim f [ inl e ↦ inl e | inr e ↦ inr e.2 ])

-- ---- the calls

nothing_counted : (k : EndState) → IsCounted k.last_id (begun k)
nothing_counted k = record { each = tt; counter = refl }

heard_counted : (moment : ℕ) (k : EndState) (h : Option Heard) → Keeps k h → IsCounted k.last_id (after_heard moment k h)
unfolding after_heard
heard_counted moment k (Some h) keeps =
    let t = stepped h.event moment (begun h.kept) in
    let c = step_counted h.kept.last_id h.event moment (begun h.kept) (nothing_counted h.kept) in
    subst (λ n. IsCounted n (after_heard moment k (Some h))) keeps.kept.last (
    answers_counted h.kept.last_id (entry h.kept.state h.event).1 h.answer t (fits h.kept.state h keeps.answer) c
    )
heard_counted moment k None keeps = nothing_counted k

read_counted : (block : List ℕ) (moment : ℕ) (k : EndState) (p : Option Lcp) → IsCounted k.last_id (after_read block moment k p)
unfolding after_read
read_counted block moment k (Some p) = heard_counted moment k (heard_as block k p) (heard_keeps block k p)
read_counted block moment k None = nothing_counted k

call_counted : (c : Call) (k : EndState) → IsCounted k.last_id (after c k)
unfolding opened closed ticked after_packet
call_counted (OpenLink moment) k =
    step_counted k.last_id Up moment _ (step_counted k.last_id Opens moment (begun k) (nothing_counted k))
call_counted (CloseLink moment) k = step_counted k.last_id Closes moment (begun k) (nothing_counted k)
call_counted (OnTick moment) k =
    if_counted (is_due moment k) k.last_id (begun k) _ (nothing_counted k) (
    inr (step_counted k.last_id (time_out k) moment (begun k) (nothing_counted k))
    )
call_counted (OnPacket bytes block moment) k =
    if_counted (nat_lt 2048 (length bytes)) k.last_id _ (begun k) (read_counted block moment k (result_ok (packet_of bytes))) (inr (nothing_counted k))

run_counted : (calls : List Call) (k : EndState) → AreCounted k.last_id (given calls k)
run_counted [] k = tt
run_counted (c ∷ cs) k =
    let here = call_counted c k in
    joins k.last_id (after c k).out.packets _ here.each (subst (λ n. AreCounted n (given cs (after c k).kept)) here.counter (run_counted cs (after c k).kept))

pub counts_ids : CountsIds
counts_ids magic calls = run_counted calls (fresh magic)
