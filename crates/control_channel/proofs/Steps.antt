-- Each call is a step of the whole channel.
use Rattle.std.proofs.Common.{◌≡◌, ℕ, ◌%◌, ◌^◌, ◌<◌, arith, Bool, true, false, List, [], ◌∷◌, Some, refl, ap, ◌∙◌}
use Rattle.send_window.specs.Whole.{Whole, IsInOrder, given_count}
use Rattle.send_window.specs.Whole as outgoing
use Rattle.send_window.specs.History as outgoing_history
use Rattle.send_window.specs.Outbox.{letter_at}
use Rattle.send_window.proofs.Whole.{each_call_is_a_step, lends_by_number}
use Rattle.recv_window.specs.Window.{Inbox, CountsOn, IsNear, on_wire, class_of, true_class, inbox_from, one_further, counting_from}
use Rattle.recv_window.specs.Window as incoming
use Rattle.recv_window.proofs.Order.{count_has_no_end, class_is_true}
use Rattle.send_window.specs.Kept.{Kept}
use Rattle.control_channel.specs.Channel.{Channel}
use Rattle.control_channel.specs.Channel as channel
use Rattle.control_channel.specs.Whole.{WholeChannel, begun, kept_of}
use Rattle.control_channel.specs.History.{Call, Reserves, Sends, Receives, Takes, Pumps, Ticks, Freezes, Resets, Learns, Classified, LetGo, Told, AllFit, IsStep, EachCallIsAStep, KeepsTheWhole, next_of, told_of, whole_after, whole_run, kept_run}

-- the inbox keeps its count modulo 2^64
class_kept : (n : ℕ) (i : Inbox) → IsNear n i → class_of (on_wire n) (incoming.kept_of i) ≡ true_class n i
class_kept n i near = (count_has_no_end i).class (on_wire n) ∙ class_is_true n i near

from_kept : {k l : Kept} {i j : Inbox} → k ≡ l → i ≡ j
    → ◌≡◌ {A = Channel} (record { outbox = k; inbox = i; frozen = false }) (record { outbox = l; inbox = j; frozen = false })
from_kept e h = rw (e, h) refl

kept_from : (n : ℕ) → n < 2 ^ 16 → inbox_from n ≡ incoming.kept_of (inbox_from n)
kept_from n lt = grind arith

-- a step of the outgoing side alone
with_outgoing : Inbox → Bool → Kept → Channel
with_outgoing i frozen k = record { outbox = k; inbox = incoming.kept_of i; frozen = frozen }

pumps : (moment : ℕ) (out : Whole) (i : Inbox) (frozen : Bool) → IsInOrder out
    → IsStep (Pumps moment) (record { outgoing = out; incoming = i; frozen = frozen })
unfolding with_outgoing
pumps moment out i true o = record { kept = refl; answer = refl; order = o }
pumps moment out i false o =
    let s = each_call_is_a_step (outgoing_history.Pumps moment) out o tt in
    record { kept = ap (with_outgoing i false) s.kept; answer = ap (λ a. LetGo (next_of a)) s.answer; order = s.order }

ticks : (moment : ℕ) (out : Whole) (i : Inbox) (frozen : Bool) → IsInOrder out
    → IsStep (Ticks moment) (record { outgoing = out; incoming = i; frozen = frozen })
unfolding with_outgoing
ticks moment out i true o = record { kept = refl; answer = refl; order = o }
ticks moment out i false o =
    let s = each_call_is_a_step (outgoing_history.Ticks moment) out o tt in
    record { kept = ap (with_outgoing i false) s.kept; answer = ap (λ a. Told (told_of a)) s.answer; order = s.order }

pub each_call_steps : EachCallIsAStep
unfolding with_outgoing
each_call_steps (Reserves count) w o f =
    let s = each_call_is_a_step (outgoing_history.Reserves count) w.outgoing o tt in
    record { kept = refl; answer = refl; order = s.order }
each_call_steps (Sends letter) w o f =
    let s = each_call_is_a_step (outgoing_history.Puts letter) w.outgoing o f in
    record { kept = ap (with_outgoing w.incoming w.frozen) s.kept; answer = refl; order = s.order }
each_call_steps (Receives ns nr true moment) w o f =
    let s = each_call_is_a_step (outgoing_history.Acks nr moment) w.outgoing o (f.0, f.1) in
    record { kept = ap (with_outgoing w.incoming w.frozen) s.kept; answer = refl; order = s.order }
each_call_steps (Receives ns nr false moment) w o f =
    let s = each_call_is_a_step (outgoing_history.Acks nr moment) w.outgoing o (f.0, f.1) in
    record { kept = ap (with_outgoing w.incoming w.frozen) s.kept; answer = ap (λ c. Classified (Some c)) (class_kept ns w.incoming f.2); order = s.order }
each_call_steps Takes w o f =
    record {
      kept = ap (λ i. record { outbox = outgoing.kept_of w.outgoing; inbox = i; frozen = w.frozen }) (count_has_no_end w.incoming).count;
      answer = refl;
      order = o;
    }
each_call_steps (Pumps moment) w o f = pumps moment w.outgoing w.incoming w.frozen o
each_call_steps (Ticks moment) w o f = ticks moment w.outgoing w.incoming w.frozen o
each_call_steps Freezes w o f = record { kept = refl; answer = refl; order = o }
each_call_steps (Resets send_from expect) w o f =
    let s = each_call_is_a_step (outgoing_history.Resets send_from) w.outgoing o f.0 in
    record { kept = from_kept s.kept (kept_from expect f.1); answer = refl; order = s.order }
each_call_steps (Learns peer) w o f =
    let s = each_call_is_a_step (outgoing_history.Learns peer) w.outgoing o tt in
    record { kept = refl; answer = refl; order = s.order }

-- ---- over every history

in_order : (calls : List Call) (w : WholeChannel) → IsInOrder w.outgoing → AllFit calls w → IsInOrder (whole_run calls w).outgoing
in_order [] w o f = o
in_order (call ∷ calls) w o f = in_order calls (whole_after call w) (each_call_steps call w o f.0).order f.1

runs : (calls : List Call) (w : WholeChannel) → IsInOrder w.outgoing → AllFit calls w → kept_run calls (kept_of w) ≡ kept_of (whole_run calls w)
runs [] w o f = refl
runs (call ∷ calls) w o f =
    let s = each_call_steps call w o f.0 in
    ap (kept_run calls) s.kept ∙ runs calls (whole_after call w) s.order f.1

pub begins : (send_from expect peer_window : ℕ) → send_from < 2 ^ 16 → expect < 2 ^ 16
    → channel.opened_at send_from expect peer_window ≡ kept_of (begun send_from expect peer_window)
begins send_from expect peer_window s e = grind arith

pub begun_in_order : (send_from peer_window : ℕ) → IsInOrder (outgoing.begun send_from peer_window)
begun_in_order send_from peer_window = record { begins = omega arith; goes = omega arith; there = omega arith; few = omega arith }

pub keeps_the_whole : KeepsTheWhole
keeps_the_whole send_from expect peer_window calls s e f =
    let o = begun_in_order send_from peer_window in
    let same = ap (kept_run calls) (begins send_from expect peer_window s e) ∙ runs calls (begun send_from expect peer_window) o f in
    let end = whole_run calls (begun send_from expect peer_window) in
    let order = in_order calls (begun send_from expect peer_window) o f in
    record {
      kept = same;
      acked = order.goes;
      went = order.there;
      few = order.few;
      lends = λ n lo hi. ap (λ c. letter_at c.outbox (n % 2 ^ 64)) same ∙ lends_by_number end.outgoing n order lo hi;
    }
