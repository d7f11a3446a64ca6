-- What the moves of a recovery, and those by which sessions are asked for, leave: the tunnel has the calls that it had, or some of them;
-- and what it and its recovery tunnel say may be read.
use Rattle.std.proofs.Common.{None, ◌≡◌, inr, ⊎_elim, ℕ, ◌+◌, ◌<◌, ◌≤◌, ◌^◌, Bool, true, List, [], ◌∷◌, ◌++◌, length, refl, sym, ap, ◌∙◌, subst, Option, Some, Ok, arith}
use Rattle.std.proofs.lemmas.Option.{none-some}
use Rattle.std.specs.Prelude.{max}
use Rattle.std.specs.List.{AllByRecursion}
use Rattle.id_source.specs.Spaces.{Space, takes_id, draw_is, next_is, after_id}
use Rattle.id_table.specs.Ids.{at}
use Rattle.id_table.specs.Order.{Ascends, ascends-empty, ascends-put}
use Rattle.control_message.specs.declared.message.Message.{Message}
use Rattle.control_message.specs.declared.message.Message.TheVariants.{Sccrq, Sccrp, Fsq, Fsr}
use Rattle.control_message.specs.declared.message.Suggested.{Suggested}
use Rattle.control_message.specs.Pairs.{AreWrittenSessions}
use Rattle.control_message.specs.Pairs as codec
use Rattle.session_book.specs.declared.record.BookCall.{BookCall}
use Rattle.end_model.specs.declared.event.Event.{Event}
use Rattle.end_model.specs.declared.moves.Restored.{Restored}
use Rattle.end_model.specs.declared.moves.Froze.{Froze}
use Rattle.end_model.specs.declared.moves.ResetAttempting.{ResetAttempting}
use Rattle.end_model.specs.declared.moves.ResetAnswering.{ResetAnswering}
use Rattle.end_model.specs.declared.moves.Queried.{Queried}
use Rattle.end_model.specs.declared.moves.AnsweredQuery.{AnsweredQuery}
use Rattle.end_model.specs.declared.moves.TookAnswer.{TookAnswer}
use Rattle.end_model.specs.declared.tunnel.CallPlace.{CallPlace}
use Rattle.end_names.specs.declared.role.Role.{Role}
use Rattle.end_names.specs.Names.{node_of, calling_number}
use Rattle.recovery_tunnel.specs.Connections.{ControlConnection}
use Rattle.control_channel.specs.declared.channel.Channel.{Channel}
use Rattle.end_model.specs.Reading.{message_in}
use Rattle.end_model.specs.Channels.{letter_of, counts_taken}
use Rattle.end_model.specs.Calls.{sessions_of}
use Rattle.end_model.specs.Querying.{unless_complete}
use Rattle.end_model.specs.Recovering.{frozen_control}
use Rattle.end_model.specs.Starting.{kept_control, kept_call}
use Rattle.end_model.specs.Tunnels.{Tunnel, Ground, new_tunnel, Recovering, ByAttempt, ByAnswer, connection_of, with_connection}
use Rattle.end_model.specs.End.{End}
use Rattle.session_query.specs.Queries.{with_batch, answered}
use Rattle.world_model.specs.World.{World, Node, answer_in, makes_epoch, enters_epoch}
use Rattle.step_laws.specs.Queries.{Questions, AnswersQuestion, HearsAnswer, without_each}
use Rattle.step_laws.specs.Moves.{Came, CameIn, with_tunnel, with_letter, IsAttempt, IsAnswer, calls_back, Restores, Freezes, finished_of, begun_anew, ResetsAttempting, ResetsAnswering, LearnsOfReply, GoesOn, EndsRecovery, IgnoresIt}
use Rattle.book_laws.proofs.Finished.{finished_found}
use Rattle.frame_laws.proofs.Facts.{Nodes, Grows, mates_later, NamesItsCall, CallOk, CallsOk, RecoveryOk, CallBooked, LetterOk, LettersOk, all_map, all_push}
use Rattle.frame_laws.proofs.Alike.{AreAlike, made_alike, entered_alike}
use Rattle.frame_laws.proofs.Leads.{Heard, heard_letter, At, Sets, calls_put}
use Rattle.frame_laws.proofs.Sessions.{sessions_fit, batch_written, answers_written, asked_left, found_each, ascends_each, finished_ascends}
use Rattle.frame_laws.proofs.WrittenLetters.{no_calls}
use Rattle.frame_laws.proofs.Moves.{Led, led_in, led_still, control_led, sets_tunnel}

-- ---- recovery tunnels

attempt_ok : (r : Recovering) (local draw : ℕ) → IsAttempt r local draw → 0 < local → local < 65536 → draw < 2 ^ 32 → RecoveryOk r
attempt_ok r local draw is some fits small = rw is.is (record {
  some = rw is.local_is some;
  local = rw is.local_is fits;
  remote = rw is.remote_is (omega arith);
  draw = rw is.draw_is small;
  suggests = tt;
})

answer_ok : (r : Recovering) (local remote draw : ℕ) (s : Suggested) → IsAnswer r local remote draw s → 0 < local → local < 65536
    → remote < 65536
    → draw < 2 ^ 32 → s.ns < 65536 → s.nr < 65536 → RecoveryOk r
answer_ok r local remote draw s is some fits known small ns nr = rw is.is (record {
  some = rw is.local_is some;
  local = rw is.local_is fits;
  remote = rw is.remote_is known;
  draw = rw is.draw_is small;
  suggests = (rw is.suggested_is ns, rw is.suggested_is nr);
})

-- one that was reset, or whose channel went on
attempt_later : (old new : ControlConnection) → RecoveryOk (ByAttempt old) → new.local ≡ old.local → new.draw ≡ old.draw
    → new.remote < 65536
    → RecoveryOk (ByAttempt new)
attempt_later old new ok local draw fits =
    record { some = rw local ok.some; local = rw local ok.local; remote = fits; draw = rw draw ok.draw; suggests = tt }

with_ok : (old : Recovering) (channel : Channel) (closed : Bool) (remote : ℕ) → RecoveryOk old → remote < 65536
    → RecoveryOk (with_connection (record (connection_of old) { channel = channel; closed = closed; remote = remote }) old)
with_ok (ByAttempt c) channel closed remote ok fits = record {
  some = ok.some;
  local = ok.local;
  remote = fits;
  draw = ok.draw;
  suggests = tt;
}
with_ok (ByAnswer a) channel closed remote ok fits = record {
  some = ok.some;
  local = ok.local;
  remote = fits;
  draw = ok.draw;
  suggests = ok.suggests;
}

-- ---- tunnels that come back

-- what a book has of a tunnel that a start brings back, and of its calls: their ids were drawn, and the sessions of the other end are
-- their mates
pub record IsFounded (ns : Nodes) (n tunnels sessions : ℕ) (m : Restored) : Type 0 where
  pub local : m.tunnel.local < tunnels
  pub remote : m.tunnel.remote < 65536
  pub calls : AllByRecursion (λ (c : BookCall). (c.local < sessions) × CallBooked ns n m.tunnel.peer c) m.calls

pub founded_later : (ns ms : Nodes) → Grows ns ms → (n tunnels more sessions longer : ℕ) (m : Restored) → tunnels ≤ more → sessions ≤ longer
    → IsFounded ns n tunnels sessions m → IsFounded ms n more longer m
founded_later ns ms g n tunnels more sessions longer m le lt h = record {
  local = (let low = h.local in omega (arith, low, le));
  remote = h.remote;
  calls = all_map (λ (c : BookCall). (c.local < sessions) × CallBooked ns n m.tunnel.peer c)
      (λ (c : BookCall). (c.local < longer) × CallBooked ms n m.tunnel.peer c)
      (λ c k. (
        (let low = k.0 in omega (arith, low, lt)),
        record { remote = k.1.remote; mate = mates_later ns ms g n c.local (node_of m.tunnel.peer) c.remote k.1.mate },
      ))
      m.calls h.calls;
}

call_back : (ns : Nodes) (n : ℕ) (r : Role) (g : Ground) (bound peer : ℕ) (c : BookCall) → c.local < bound → CallBooked ns n peer c
    → CallOk ns n r bound peer c.local (kept_call r g c)
call_back ns n r g bound peer c low booked = record {
  drawn = low;
  birth = booked.mate.birth;
  some = booked.mate.some;
  born = booked.mate.here;
  remote = booked.remote;
  known = inr booked.mate;
  mate = λ known. booked.mate;
  link = λ lac. rw lac refl;
}

all_back : (ns : Nodes) (n : ℕ) (r : Role) (g : Ground) (bound peer : ℕ) (cs : List BookCall)
    → AllByRecursion (λ (c : BookCall). (c.local < bound) × CallBooked ns n peer c) cs → CallsOk ns n r bound peer (calls_back r g cs)
all_back ns n r g bound peer [] h = no_calls ns n r bound peer
all_back ns n r g bound peer (c ∷ cs) h =
    calls_put ns n r bound peer c.local (kept_call r g c) (calls_back r g cs) (all_back ns n r g bound peer cs h.1)
    (call_back ns n r g bound peer c h.0.0 h.0.1)

back_ascends : (r : Role) (g : Ground) (cs : List BookCall) → Ascends (calls_back r g cs)
back_ascends r g [] = ascends-empty [] refl
back_ascends r g (c ∷ cs) = ascends-put c.local (kept_call r g c) (calls_back r g cs) (back_ascends r g cs)

module _ (calm : Bool) (digits : (who : List ℕ) → length (calling_number who) ≡ 12) (n : ℕ) (z : Node) (v : World) (x : End)
    (here : At calm n z v x) (ev : Event) (heard : Heard calm v.nodes n ev) (moves : calm ≡ true → ⊥) where
  abbrev Leads_to : World → End → Type 0
  Leads_to w y = Led calm digits n z v x here ev heard w y

  -- what a message says that came in
  came_written : (k : Came) → CameIn ev k → (m : Message) → message_in k.body ≡ Ok m → codec.IsWritten m
  came_written k came m said =
      (heard_letter calm v.nodes n ev heard k.peer k.header.session m
      (record { letter = k; came = came; peer_is = refl; says = record { session_is = refl; said = said } })).0

  -- the end with ids that it drew for a recovery
  abbrev with_drawn : Space → Space → List (ℕ × CallPlace) → ℕ → Tunnel → End
  with_drawn ids draws places i t = record (with_tunnel x i t) { tunnel_ids = ids; recovery_ids = draws; calls = places }

  module _ (local draw : ℕ) (takes : takes_id x.tunnel_ids ≡ Ok local) (draws : takes_id x.recovery_ids ≡ Ok draw) where
    local_some : 0 < local
    local_some = let d = draw_is x.tunnel_ids local takes in let first = here.end.first in omega (arith, d.0, first)

    local_fits : local < 65536
    local_fits = let d = draw_is x.tunnel_ids local takes in let last = here.end.last in let le = d.1 in omega (arith, le, last)

    draw_fits : draw < 2 ^ 32
    draw_fits = let d = draw_is x.recovery_ids draw draws in let last = here.end.last_draw in let le = d.1 in omega (arith, le, last)

    abbrev ids : Space
    ids = after_id x.tunnel_ids

    next : ids.next ≡ local + 1
    next = ap (λ (s : Space). s.next) (next_is x.tunnel_ids local takes)

    climbs : x.tunnel_ids.next ≤ ids.next
    climbs = let d = draw_is x.tunnel_ids local takes in let same = next in omega (arith, d.0, same)

    sets_drawn : (places : List (ℕ × CallPlace)) (i : ℕ) (t : Tunnel) → Sets x (with_drawn ids (after_id x.recovery_ids) places i t) i t
    sets_drawn places i t = record {
      role = refl;
      config = refl;
      tunnels = refl;
      next = climbs;
      last = ap (λ (s : Space). s.last) (next_is x.tunnel_ids local takes);
      most_tunnels = (let low = local_fits in let same = next in omega (arith, low, same));
      sessions = omega arith;
      last_session = refl;
      most = here.end.most;
      draws = ap (λ (s : Space). s.last) (next_is x.recovery_ids draw draws);
    }

  pub froze_led : (m : Froze) (y : End) → Freezes x ev m y → Leads_to (makes_epoch v n m.tunnel (node_of m.peer) m.remote m.answer) y
  froze_led m y h =
      let t = h.tunnel in
      let o = here.end.tunnels m.tunnel t h.there in
      let w = makes_epoch v n m.tunnel (node_of m.peer) m.remote m.answer in
      let opening = came_written h.letter h.came (Sccrq h.opening) h.said in
      let asked = opening.0.tunnel in
      let ns = ap (λ (s : Suggested). s.ns) h.suggests in
      let nr = ap (λ (s : Suggested). s.nr) h.suggests in
      let line : RecoveryOk h.recovery =
      answer_ok h.recovery m.answer m.attempt m.draw (record { ns = m.expect; nr = m.send_from }) h.is
      (local_some m.answer m.draw h.local h.draw) (local_fits m.answer m.draw h.local h.draw) (rw h.attempt asked)
      (draw_fits m.answer m.draw h.local h.draw) (omega (arith, ns)) (omega (arith, nr)) in
      let u : Tunnel = record t { control = frozen_control m.asked t.control; calls = finished_of t.calls; recovery = Some h.recovery } in
      let sets = sets_drawn m.answer m.draw h.local h.draw _ m.tunnel u in
      let up = climbs m.answer m.draw h.local h.draw in
      subst (λ e. Leads_to w e) (sym h.after)
      (led_in calm digits n z v x here ev heard w (made_alike v n m.tunnel (node_of m.peer) m.remote m.answer) _ m.tunnel u sets refl
      (record {
        local = o.local;
        drawn = (let d = o.drawn in omega (arith, d, up));
        remote = o.remote;
        letters = o.letters;
        calls = λ s c f. o.calls s c (finished_found t.calls o.order s c f);
        order = finished_ascends t.calls o.order;
        line = λ r has. (let same : h.recovery ≡ r = cc in subst RecoveryOk same line);
        asked = o.asked;
        recovery = λ still. absurd (moves still);
        query = λ still. absurd (moves still);
      }))

  -- a tunnel begins anew, by a recovery tunnel that may be read
  anew_led : (w : World) (y : End) (i : ℕ) (t : Tunnel) (send_from expect mark : ℕ) (r : Recovering) → at x.tunnels i ≡ Some t
      → y ≡ with_tunnel x i (begun_anew send_from expect mark r t) → AreAlike v w → RecoveryOk r → Leads_to w y
  anew_led w y i t send_from expect mark r there same alike line =
      let o = here.end.tunnels i t there in
      let u = begun_anew send_from expect mark r t in
      let most = here.end.most in
      subst (λ e. Leads_to w e) (sym same)
      (led_in calm digits n z v x here ev heard w alike (with_tunnel x i u) i u
      (sets_tunnel calm digits n z v x here ev heard x.calls i u) refl
      (record {
        local = o.local;
        drawn = o.drawn;
        remote = o.remote;
        letters = tt;
        calls = o.calls;
        order = o.order;
        line = λ q has. (let is : r ≡ q = cc in subst RecoveryOk is line);
        asked = sessions_fit t.calls o.order
            (λ s c f. (let k = o.calls s c f in let low = k.drawn in (omega (arith, low, most), k.remote)));
        recovery = λ still. absurd (moves still);
        query = λ still. absurd (moves still);
      }))

  pub reset_attempting_led : (moment : ℕ) (m : ResetAttempting) (y : End) → ResetsAttempting x moment ev m y
      → Leads_to (enters_epoch v n m.tunnel (answer_in (at v.nodes (node_of m.peer)) m.answer)) y
  reset_attempting_led moment m y h =
      let o = here.end.tunnels m.tunnel h.tunnel h.there in
      let told = (came_written h.letter h.comes.came (Sccrp h.opening) h.said).0.tunnel in
      let epoch = answer_in (at v.nodes (node_of m.peer)) m.answer in
      anew_led (enters_epoch v n m.tunnel epoch) y m.tunnel h.tunnel m.send_from m.expect (max h.tunnel.control.mark m.draw)
      (ByAttempt h.new) h.there h.after
      (entered_alike v n m.tunnel epoch)
      (attempt_later h.old h.new (o.line (ByAttempt h.old) h.attempts) h.same.0 h.same.1 (rw (h.same.2, h.answer) told))

  pub reset_answering_led : (moment : ℕ) (m : ResetAnswering) (y : End) → ResetsAnswering x moment ev m y
      → Leads_to (enters_epoch v n m.tunnel (answer_in (at v.nodes n) m.answer)) y
  reset_answering_led moment m y h =
      let o = here.end.tunnels m.tunnel h.tunnel h.there in
      let old = o.line (ByAnswer h.old) h.answers in
      let epoch = answer_in (at v.nodes n) m.answer in
      let local : h.new.connection.local ≡ h.old.connection.local = h.same.0 ∙ sym h.local in
      let remote : h.new.connection.remote ≡ h.old.connection.remote = h.same.1 ∙ sym h.attempt in
      let suggested = h.same.3 in
      anew_led (enters_epoch v n m.tunnel epoch) y m.tunnel h.tunnel m.send_from m.expect h.tunnel.control.mark
      (ByAnswer h.new) h.there h.after
      (entered_alike v n m.tunnel epoch)
      (record {
        some = rw local old.some;
        local = rw local old.local;
        remote = rw remote old.remote;
        draw = rw h.same.4 old.draw;
        suggests = (rw suggested old.suggests.0, rw suggested old.suggests.1);
      })

  -- the tunnel has another recovery tunnel, or none
  recovered_led : (y : End) (i : ℕ) (t : Tunnel) (r : Option Recovering) → at x.tunnels i ≡ Some t
      → y ≡ with_tunnel x i (record t { recovery = r })
      → ((q : Recovering) → r ≡ Some q → RecoveryOk q) → Leads_to v y
  recovered_led y i t r there same line =
      let o = here.end.tunnels i t there in
      let u : Tunnel = record t { recovery = r } in
      subst (λ e. Leads_to v e) (sym same)
      (led_still calm digits n z v x here ev heard (with_tunnel x i u) i u (sets_tunnel calm digits n z v x here ev heard x.calls i u) refl
      (record {
        local = o.local;
        drawn = o.drawn;
        remote = o.remote;
        letters = o.letters;
        calls = o.calls;
        order = o.order;
        line = line;
        asked = o.asked;
        recovery = λ still. absurd (moves still);
        query = λ still. absurd (moves still);
      }))

  pub went_on_led : (i : ℕ) (y : End) → GoesOn x ev i y → Leads_to v y
  went_on_led i y h =
      let o = here.end.tunnels i h.tunnel h.there in
      let ok = o.line h.old h.has in
      let fits : h.remote < 65536 = ⊎_elim
      (λ (same : h.remote ≡ (connection_of h.old).remote). rw same ok.remote)
      (λ (l : LearnsOfReply ev h.tunnel.control.peer h.old h.remote).
      (let told = (came_written l.letter l.comes.came (Sccrp l.opening) l.said).0.tunnel in rw l.remote_is told))
      h.learns in
      let new = with_connection (record (connection_of h.old) { channel = h.channel; closed = h.closed; remote = h.remote }) h.old in
      recovered_led y i h.tunnel (Some new) h.there h.after
      (λ q has. (let same : new ≡ q = cc in subst RecoveryOk same (with_ok h.old h.channel h.closed h.remote ok fits)))

  pub recovery_ended_led : (i : ℕ) (y : End) → EndsRecovery x i y → Leads_to v y
  recovery_ended_led i y h = recovered_led y i h.tunnel None h.there h.after (λ q has. absurd (none-some q has))

  pub ignored_led : (moment i : ℕ) (y : End) → IgnoresIt x moment ev i y → Leads_to v y
  ignored_led moment i y h =
      let o = here.end.tunnels i h.tunnel h.there in
      control_led calm digits n z v x here ev heard y i h.tunnel _ h.tunnel.letters h.there h.after refl refl o.remote o.letters

  -- ---- queries

  -- a letter that asks for sessions, or answers
  asks_more : (i : ℕ) (t : Tunnel) → at x.tunnels i ≡ Some t → (m : Message) → codec.IsWritten m
      → NamesItsCall v.nodes n (node_of t.control.peer) 0 m
      → LettersOk calm v.nodes n t.control.peer (t.letters ++ letter_of 0 m ∷ [])
  asks_more i t there m written names =
      all_push (LetterOk calm v.nodes n t.control.peer) t.letters (letter_of 0 m) (here.end.tunnels i t there).letters
      (record {
        message = m;
        hidden = None;
        hides = tt;
        spelt = refl;
        session = omega arith;
        written = written;
        plainly = λ still. absurd (moves still);
        names = names;
      })

  pub queried_led : (m : Queried) (y : End) → Questions x m y → Leads_to v y
  queried_led m y h =
      let t = h.tunnel in
      let o = here.end.tunnels m.tunnel t h.there in
      let u = with_letter 0 (Fsq m.pairs) (record t { query = with_batch t.query (Some m.pairs) }) in
      subst (λ e. Leads_to v e) (sym h.after)
      (led_still calm digits n z v x here ev heard (with_tunnel x m.tunnel u) m.tunnel u
      (sets_tunnel calm digits n z v x here ev heard x.calls m.tunnel u) refl
      (record {
        local = o.local;
        drawn = o.drawn;
        remote = o.remote;
        letters = asks_more m.tunnel t h.there (Fsq m.pairs) (batch_written t.query m.pairs h.pairs o.asked) tt;
        calls = o.calls;
        order = o.order;
        line = o.line;
        asked = o.asked;
        recovery = o.recovery;
        query = λ still. absurd (moves still);
      }))

  pub answered_query_led : (m : AnsweredQuery) (y : End) → AnswersQuestion x ev m y → Leads_to v y
  answered_query_led m y h =
      let t = h.tunnel in
      let o = here.end.tunnels m.tunnel t h.there in
      let asked = came_written h.letter h.takes.next.comes.came (Fsq m.pairs) h.said in
      let written = subst AreWrittenSessions (sym h.answers) (answers_written (sessions_of t.calls) m.pairs asked) in
      control_led calm digits n z v x here ev heard y m.tunnel t _ _ h.there h.after refl refl o.remote
      (asks_more m.tunnel t h.there (Fsr m.answers) written tt)

  pub took_answer_led : (m : TookAnswer) (y : End) → HearsAnswer x ev m y → Leads_to v y
  took_answer_led m y h =
      let t = h.tunnel in
      let o = here.end.tunnels m.tunnel t h.there in
      let u : Tunnel = record t {
        control = counts_taken t.control;
        calls = without_each m.ended t.calls;
        query = unless_complete (answered t.query);
      } in
      subst (λ e. Leads_to v e) (sym h.after)
      (led_still calm digits n z v x here ev heard _ m.tunnel u (sets_tunnel calm digits n z v x here ev heard _ m.tunnel u) refl
      (record {
        local = o.local;
        drawn = o.drawn;
        remote = o.remote;
        letters = o.letters;
        calls = λ s c f. o.calls s c (found_each m.ended t.calls s c o.order f);
        order = ascends_each m.ended t.calls o.order;
        line = o.line;
        asked = asked_left t.query o.asked;
        recovery = o.recovery;
        query = λ still. absurd (moves still);
      }))

  -- ---- starts

  pub restored_led : (moment : ℕ) (m : Restored) (y : End) → IsFounded v.nodes n x.tunnel_ids.next x.session_ids.next m
      → Restores x moment m y
      → Leads_to v y
  restored_led moment m y founded h =
      let line : RecoveryOk h.recovery =
      attempt_ok h.recovery m.attempt m.draw h.is (local_some m.attempt m.draw h.local h.draw) (local_fits m.attempt m.draw h.local h.draw)
      (draw_fits m.attempt m.draw h.local h.draw) in
      let i = m.tunnel.local in
      let u : Tunnel = record
      (new_tunnel (kept_control moment m.tunnel)) { calls = calls_back x.role h.ground m.calls; recovery = Some h.recovery } in
      let up = climbs m.attempt m.draw h.local h.draw in
      subst (λ e. Leads_to v e) (sym h.after)
      (led_still calm digits n z v x here ev heard _ i u (sets_drawn m.attempt m.draw h.local h.draw _ i u) refl
      (record {
        local = refl;
        drawn = (let low = founded.local in omega (arith, low, up));
        remote = founded.remote;
        letters = tt;
        calls = all_back v.nodes n x.role h.ground x.session_ids.next m.tunnel.peer m.calls founded.calls;
        order = back_ascends x.role h.ground m.calls;
        line = λ r has. (let same : h.recovery ≡ r = cc in subst RecoveryOk same line);
        asked = tt;
        recovery = λ still. absurd (moves still);
        query = λ still. absurd (moves still);
      }))
