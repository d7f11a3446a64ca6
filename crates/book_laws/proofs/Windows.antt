-- What a step does with the numbers of a channel leaves the peer's window.
use Rattle.std.proofs.Common.{◌≡◌, ℕ, ◌+◌, zero, suc, Bool, true, false, cond, refl, ◌∙◌, ◌==◌, ◌&&◌}
use Rattle.std.specs.Prelude.{nat_lt}
use Rattle.send_window.specs.declared.congestion.Congestion.{Congestion}
use Rattle.send_window.specs.Congestion.{grown, times_grown}
use Rattle.send_window.specs.Window as window
use Rattle.send_window.specs.Kept.{Window}
use Rattle.control_channel.specs.Numbers.{Numbers}
use Rattle.end_model.specs.declared.tunnel.Control.{Control}
use Rattle.end_model.specs.Channels.{peer_window, counts_acked, counts_sent, counts_repeated}
use Rattle.step_laws.specs.Moves.{learns_window}
use Rattle.book_laws.proofs.Lists.{branch, other}

grown_leaves : (c : Congestion) → (grown c).peer_window ≡ c.peer_window
grown_leaves c = branch (λ (d : Congestion). d.peer_window ≡ c.peer_window) (nat_lt c.window c.threshold) _ _ (λ yes. refl)
    (λ no. branch (λ (d : Congestion). d.peer_window ≡ c.peer_window) (nat_lt (c.counter + 1) c.window) _ _ (λ yes. refl) (λ still. refl))

times_leaves : (n : ℕ) (c : Congestion) → (times_grown n c).peer_window ≡ c.peer_window
times_leaves zero c = refl
times_leaves (suc n) c = grown_leaves (times_grown n c) ∙ times_leaves n c

pub acked_leaves : (nr moment : ℕ) (c : Control) → peer_window (counts_acked nr moment c) ≡ peer_window c
acked_leaves nr moment c =
    let w = c.channel.window in
    let n = window.count_acked w nr in
    branch (λ (v : Window). v.congestion.peer_window ≡ w.congestion.peer_window) (n == 0) _ _ (λ none. refl) (λ some. times_leaves n w.congestion)

-- nor do those change what else is recorded
pub sent_leaves : (moment : ℕ) (c : Control) → peer_window (counts_sent moment c) ≡ peer_window c
sent_leaves moment c =
    branch (λ (n : Numbers). n.window.congestion.peer_window ≡ peer_window c) c.channel.frozen _ _ (λ frozen. refl)
    (λ not. branch (λ (v : Window). v.congestion.peer_window ≡ peer_window c) (window.may_go c.channel.window) _ _ (λ yes. refl) (λ no. refl))

pub repeated_leaves : (moment : ℕ) (c : Control) → peer_window (counts_repeated moment c) ≡ peer_window c
repeated_leaves moment c =
    branch (λ (n : Numbers). n.window.congestion.peer_window ≡ peer_window c) c.channel.frozen _ _ (λ frozen. refl)
    (λ not. branch (λ (v : Window). v.congestion.peer_window ≡ peer_window c) (window.due_at c.channel.window moment && nat_lt c.channel.window.repetitions 5) _ _ (λ yes. refl) (λ no. refl))

-- the window is the one that is learned, and the rest is as before
pub record Learns (w : ℕ) (c d : Control) : Type 0 where
  pub window : peer_window d ≡ w
  pub remote : d.remote ≡ c.remote
  pub peer : d.peer ≡ c.peer
  pub flags : d.flags ≡ c.flags
  pub state : d.state ≡ c.state
  pub mark : d.mark ≡ c.mark

pub learnt_is : (w : ℕ) (c : Control) → (w ≡ 0 → ⊥) → Learns w c (learns_window w c)
learnt_is w c some = by (w == 0) (other w 0 some)
  where
    by : (b : Bool) → b ≡ false → Learns w c (cond b c (record c { channel = record c.channel { window = window.learnt_by c.channel.window w } }))
    by false e = record { window = refl; remote = refl; peer = refl; flags = refl; state = refl; mark = refl }
    by true e = absurd cc
