-- What is taken counts on by one.
use Rattle.std.proofs.Common.{◌≡◌, ℕ, ◌+◌, arith, true, false, List, [], ◌∷◌, refl, ap}
use Rattle.recv_window.specs.Window.{CountsOn, counting_from}
use Rattle.control_channel.specs.History.{Reserves, Sends, Receives, Takes, Pumps, Ticks, Freezes, Resets, Learns, TakenCountsOn, whole_after}

one_more : (first : ℕ) (ns : List ℕ) (last : ℕ) → CountsOn ns (first + 1) last → CountsOn (first ∷ ns) first last
unfolding counting_from
one_more first ns last h = record { in_order = ap (λ ms. first ∷ ms) h.in_order; counted = omega (arith, h.counted) }

nothing : (first : ℕ) → CountsOn [] first first
unfolding counting_from
nothing first = record { in_order = refl; counted = omega arith }

not_false : true ≡ false → ⊥
not_false e = cc

pub taken_counts_on : TakenCountsOn
taken_counts_on [] w e = nothing w.incoming.taken
taken_counts_on (Reserves count ∷ calls) w e = taken_counts_on calls (whole_after (Reserves count) w) e
taken_counts_on (Sends letter ∷ calls) w e = taken_counts_on calls (whole_after (Sends letter) w) e
taken_counts_on (Receives ns nr empty moment ∷ calls) w e = taken_counts_on calls (whole_after (Receives ns nr empty moment) w) e
taken_counts_on (Takes ∷ calls) w e = one_more w.incoming.taken _ _ (taken_counts_on calls (whole_after Takes w) e)
taken_counts_on (Pumps moment ∷ calls) w e = taken_counts_on calls (whole_after (Pumps moment) w) e
taken_counts_on (Ticks moment ∷ calls) w e = taken_counts_on calls (whole_after (Ticks moment) w) e
taken_counts_on (Freezes ∷ calls) w e = taken_counts_on calls (whole_after Freezes w) e
taken_counts_on (Resets send_from expect ∷ calls) w e = absurd (not_false e)
taken_counts_on (Learns peer ∷ calls) w e = taken_counts_on calls (whole_after (Learns peer) w) e
