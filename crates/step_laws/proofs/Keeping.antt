-- What the end of each part of a turn leaves as it was.
use Rattle.std.proofs.Common.{◌≡◌, arith, ℕ, ◌+◌, Bool, false, zero, suc, List, refl, ◌∙◌, Option, Some, None}
use Rattle.std.proofs.lemmas.Bool.Decides.{nat_tests}
use Rattle.std.specs.Prelude.{◌==◌, ◌&&◌, ◌||◌, nat_le, nat_lt, length}
use Rattle.wire_base.specs.declared.letter.Letter.{Letter}
use Rattle.send_window.specs.Kept.{Window}
use Rattle.send_window.specs.Window as sending
use Rattle.control_channel.specs.Numbers.{Numbers, next_to_go}
use Rattle.end_model.specs.declared.tunnel.Control.{Control}
use Rattle.end_model.specs.declared.moves.Move.TheVariants as move
use Rattle.end_model.specs.Tunnels.{Turn}
use Rattle.end_model.specs.Turn.{with_output, with_move}
use Rattle.end_model.specs.Channels.{has_room, place, counts_given, counts_sent, counts_repeated}
use Rattle.end_model.specs.Sending.{letter_in, sends_letter, sends_now, lets_go, goes_by, lets_all_go, acknowledges, outstanding, acknowledged_after, settles}
use Rattle.step_laws.proofs.Lists.{branch}

-- one more letter makes no room
pub more_full : (c : Control) → has_room c ≡ false → has_room (counts_given c) ≡ false
more_full c full = still c.channel.window.queued full
  where
    still : (n : ℕ) → nat_lt n 8192 ≡ false → nat_lt (n + 1) 8192 ≡ false
    still n full = grind (arith, nat_tests)

-- nor does one that goes, or is repeated
gone_room : (moment : ℕ) (c : Control) → has_room (counts_sent moment c) ≡ has_room c
gone_room moment c =
    branch (λ (n : Numbers). nat_lt n.window.queued 8192 ≡ has_room c) c.channel.frozen _ _
    (λ frozen. refl)
    (λ free. branch (λ (w : Window). nat_lt w.queued 8192 ≡ has_room c) (sending.may_go c.channel.window) _ _ (λ may. refl) (λ no. refl))

pub repeated_room : (moment : ℕ) (c : Control) → has_room (counts_repeated moment c) ≡ has_room c
repeated_room moment c =
    branch (λ (n : Numbers). nat_lt n.window.queued 8192 ≡ has_room c) c.channel.frozen _ _
    (λ frozen. refl)
    (λ free. branch (λ (w : Window). nat_lt w.queued 8192 ≡ has_room c) (sending.due_at c.channel.window moment && nat_lt c.channel.window.repetitions 5) _ _
    (λ due. refl)
    (λ no. refl))

-- ---- what the end of each part leaves: what the turn stands on, where ids are drawn from, the calls, the tunnel's state, and whether
-- there is room

pub record Keeps (t u : Turn) : Type 0 where
  pub on : u.on ≡ t.on
  pub ids : u.ids ≡ t.ids
  pub changed : u.changed ≡ t.changed
  pub added : u.added ≡ t.added
  pub state : u.control.state ≡ t.control.state
  pub room : has_room u.control ≡ has_room t.control

keeps_all : (t : Turn) → Keeps t t
keeps_all t = record { on = refl; ids = refl; changed = refl; added = refl; state = refl; room = refl }

keeps_on : (t u v : Turn) → Keeps t u → Keeps u v → Keeps t v
keeps_on t u v h k = record {
  on = k.on ∙ h.on;
  ids = k.ids ∙ h.ids;
  changed = k.changed ∙ h.changed;
  added = k.added ∙ h.added;
  state = k.state ∙ h.state;
  room = k.room ∙ h.room;
}

pub sent_keeps : (number : ℕ) (o : Option Letter) (t : Turn) → Keeps t (sends_letter number o t)
unfolding sends_letter with_output
sent_keeps number None t = keeps_all t
sent_keeps number (Some l) t = branch (Keeps t) (nat_le (length l.avps) 65523) _ _
    (λ fits. record { on = refl; ids = refl; changed = refl; added = refl; state = refl; room = refl })
    (λ long. keeps_all t)

gone_keeps : (letters : List Letter) (number : ℕ) (t : Turn) → Keeps t (lets_go letters number t)
unfolding lets_go sends_now with_move
gone_keeps letters number t =
    let u = with_move (move.LetGo (record { tunnel = t.control.local; sent = place number })) (record t { control = counts_sent t.on.moment t.control }) in
    keeps_on t u (sends_letter number (letter_in letters u number) u) (record { on = refl; ids = refl; changed = refl; added = refl; state = refl; room = gone_room t.on.moment t.control })
    (sent_keeps number (letter_in letters u number) u)

all_gone_keeps : (most : ℕ) (letters : List Letter) (t : Turn) → Keeps t (lets_all_go most letters t)
unfolding lets_all_go goes_by
all_gone_keeps zero letters t = keeps_all t
all_gone_keeps (suc most) letters t = by (next_to_go t.control.channel) (all_gone_keeps most letters)
  where
    by : (o : Option ℕ) → ((u : Turn) → Keeps u (lets_all_go most letters u)) → Keeps t (goes_by (lets_all_go most letters) letters o t)
    by None rest = keeps_all t
    by (Some number) rest = let u = lets_go letters number t in keeps_on t u (lets_all_go most letters u) (gone_keeps letters number t) (rest u)

acknowledged_keeps : (again : Bool) (before : ℕ) (t : Turn) → Keeps t (acknowledged_after again before t)
unfolding acknowledged_after acknowledges with_output with_move
acknowledged_keeps again before t =
    branch (Keeps t) (again || (t.took && (outstanding t == before))) _ _
    (λ yes. record { on = refl; ids = refl; changed = refl; added = refl; state = refl; room = refl })
    (λ no. keeps_all t)

pub settled_keeps : (again : Bool) (letters : List Letter) (t : Turn) → Keeps t (settles again letters t)
unfolding settles
settled_keeps again letters t =
    let u = lets_all_go t.control.channel.window.queued letters t in
    keeps_on t u (acknowledged_after again (outstanding t) u) (all_gone_keeps t.control.channel.window.queued letters t) (acknowledged_keeps again (outstanding t) u)
