-- The letters that a tunnel holds are those that its window counts; and what a draw leaves.
use Rattle.std.proofs.Common.{◌≡◌, ℕ, ◌+◌, ◌-◌, ◌%◌, ◌^◌, ◌<◌, ◌≤◌, List, [], ◌∷◌, ◌++◌, length, refl, ap, ◌∙◌, Result, Ok, Err, arith, rules}
use Rattle.std.proofs.lemmas.List.{length-append, length-drop}
use Rattle.std.specs.Prelude.{drop, ◌==◌}
use Rattle.std.proofs.lemmas.Bool.{eqb-true}
use Rattle.id_source.specs.Spaces.{Space, takes_id, with_taken, after_id}
use Rattle.id_source.specs.declared.IdError.{IdError}
use Rattle.wire_base.specs.declared.letter.Letter.{Letter}
use Rattle.send_window.specs.Kept.{Window}
use Rattle.send_window.specs.Window as sending
use Rattle.end_model.specs.declared.tunnel.Control.{Control}
use Rattle.end_model.specs.Channels.{learns_window, peer_window}
use Rattle.step_laws.proofs.Lists.{branch}

-- the letters that a tunnel keeps are those that its window counts, and their numbers have 64 bits
abbrev pub Held : Window → List Letter → Type 0
Held w ls = (length ls ≡ w.queued) × (w.outstanding ≤ w.queued) × (w.acked < 2 ^ 64)

-- a number that is counted modulo 2^64
pub has_64_bits : (n : ℕ) → n % 2 ^ 64 < 2 ^ 64
has_64_bits n = omega arith

-- one more letter
pub held_given : (w : Window) (ls : List Letter) (l : Letter) → Held w ls → Held (sending.one_more w) (ls ++ l ∷ [])
held_given w ls l h =
    let more = length-append ls (l ∷ []) in
    let count = h.0 in
    let few = h.1 in
    (omega (arith, more, count), omega (arith, few), h.2)

pub held_read : (w : Window) (ls : List Letter) (nr moment : ℕ) → Held w ls → Held (sending.acked_at w nr moment) (drop (sending.count_acked w nr) ls)
held_read w ls nr moment h =
    let count = sending.count_acked w nr in
    branch (λ (x : Window). Held x (drop count ls)) (count == 0) _ _
    (λ zero. rw (eqb-true count 0 zero) h)
    (λ some. (
      length-drop count ls ∙ ap (λ n. n - count) h.0,
      (let few = h.1 in omega (arith, few)),
      has_64_bits (w.acked + count),
    ))

pub held_learnt : (peer_window : ℕ) (c : Control) (ls : List Letter) → Held c.channel.window ls → Held (learns_window peer_window c).channel.window ls
held_learnt peer_window c ls h = branch (λ (d : Control). Held d.channel.window ls) (peer_window == 0) _ _ (λ none. h) (λ some. h)

pub last_after : (s : Space) → (after_id s).last ≡ s.last
last_after s = by (takes_id s)
  where
    by : (r : Result ℕ IdError) → (with_taken r s).last ≡ s.last
    by (Ok n) = refl
    by (Err x) = refl

pub small_draw : (s : Space) (n : ℕ) → takes_id s ≡ Ok n → s.last < 65536 → n < 65536
unfolding takes_id
small_draw s n is small = grind (arith, rules)

pub next_after : (s : Space) → 0 < s.next → 0 < (after_id s).next
next_after s some = by (takes_id s)
  where
    by : (r : Result ℕ IdError) → 0 < (with_taken r s).next
    by (Ok n) = omega arith
    by (Err x) = some
