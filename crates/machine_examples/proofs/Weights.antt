-- Without one of the rules a law fails.
use Rattle.std.proofs.Common.{◌≡◌, ◌⊎◌, inl, inr, ⊎_elim, ℕ, zero, suc, slice_get, true, false, refl, sym, ap, ◌∙◌, subst, ◌++◌, List, [], ◌∷◌, Some, arith}
use Rattle.epoch_machine.specs.Letters.{Letter, Sccrq, StopCcn, Connect, Cdn, Fsq, Fsr}
use Rattle.epoch_machine.specs.Tunnels.{Tunnels, Linked, Open}
use Rattle.epoch_machine.specs.Calls.{Calls, NoCall, Up}
use Rattle.epoch_machine.specs.Worlds.{World, Rules, all_rules}
use Rattle.epoch_machine.specs.Moves.{EndsTold, Queries, Delivers, after, step}
use Rattle.letter_laws.specs.Letters.{TakesNext, IsNextOf, ClosesOpener}
use Rattle.coverage_laws.specs.Coverage.{StatesHold, EndsAgree, PairsCovered, is_young}
use Rattle.machine_examples.specs.Examples.{opening, asking, connecting, half_up, opener_recovers, acceptor_recovers, Settled, RulesCarryWeight}
use Rattle.machine_examples.proofs.Computed.{computing}

-- a world in which both ends are open and complete, with nothing outstanding, and one holds a pair that the other lost
record Apart (w : World) : Type 0 where
  settled : Settled w
  at : w.calls.tunnel 101 ≡ 11
  up : w.calls.state 101 ≡ Up
  remote : w.calls.remote 101 ≡ 201
  lost : w.calls.state 201 ≡ NoCall

not_agreed : (w : World) → Apart w → EndsAgree w → ⊥
not_agreed w a law =
    let s = a.settled in
    let h = law.agree 11 21 101 s.linked s.opener s.acceptor s.opener_complete s.acceptor_complete s.opener_taken s.acceptor_taken a.at a.up in
    let same : h.other ≡ 201 = sym h.known ∙ a.remote in
    let b : NoCall ≡ Up = sym a.lost ∙ ap w.calls.state (sym same) ∙ h.established in
    cc

abbrev unread : Rules
unread = record all_rules { reads_epochs = false }

zero_is : (a b : ℕ) → a ≡ 0 → b ≡ 1 → a ≡ b → ⊥
zero_is a b z o e = omega (arith, z, o, e)

not_next : (w v : World) → w.tunnels.entered 21 ≡ 1 → IsNextOf w v 21 11 0 0 Sccrq ⊎ ClosesOpener w v 21 11 0 Sccrq → ⊥
not_next w v one (inl a) = zero_is 0 1 refl refl (a.epoch ∙ one)
not_next w v one (inr a) = let l : Sccrq ≡ StopCcn = a.letter in cc

old_letter : TakesNext unread (after unread (opening ++ opener_recovers)) → ⊥
unfolding computing
old_letter law = not_next (after unread (opening ++ opener_recovers)) (step unread (after unread (opening ++ opener_recovers)) (Delivers 21 11 0 0 0)) refl (law.takes 21 11 0 0 0 Sccrq refl refl)

abbrev untrue : Rules
untrue = record all_rules { answers_truly = false }

-- a world in which both ends are open, one holds a pair that the other lost, and nothing about it is outstanding
record Uncovered (w : World) : Type 0 where
  linked : Linked w.tunnels.learned 11 21
  opener : w.tunnels.phase 11 ≡ Open
  acceptor : w.tunnels.phase 21 ≡ Open
  mates : w.calls.mate 201 ≡ 101
  at : w.calls.tunnel 101 ≡ 11
  up : w.calls.state 101 ≡ Up
  lost : w.calls.state 201 ≡ NoCall
  opener_gave : w.channels.sent 11 (w.tunnels.entered 11) ≡ Fsq 101 201 ∷ []
  acceptor_gave : w.channels.sent 21 (w.tunnels.entered 11) ≡ Fsr 201 101 true ∷ []
  answered : w.calls.asks 11 101 ≡ false

no_connect : (k : ℕ) → slice_get (Fsq 101 201 ∷ []) k ≡ Some (Connect 201) → ⊥
no_connect zero h = cc
no_connect (suc k) h = cc

no_cdn : (k y : ℕ) → slice_get (Fsr 201 101 true ∷ []) k ≡ Some (Cdn 201 y) → ⊥
no_cdn zero y h = cc
no_cdn (suc k) y h = cc

not_covered : (w : World) → Uncovered w → PairsCovered w → ⊥
not_covered w a law = ⊎_elim (λ c. no_connect c.place (subst (λ (xs : List Letter). slice_get xs c.place ≡ Some (Connect 201)) a.opener_gave c.outstanding.0)) (λ q. ⊎_elim (λ c. no_cdn c.place c.header (subst (λ (xs : List Letter). slice_get xs c.place ≡ Some (Cdn 201 c.header)) a.acceptor_gave c.outstanding.0)) (λ c. (let b : true ≡ false = sym c ∙ a.answered in cc)) q) (law.covered 11 21 101 201 a.linked a.opener a.acceptor (inr (a.mates, λ e. omega (arith, e))) a.at a.up (λ h. (let b : NoCall ≡ Up = sym a.lost ∙ h in cc)))

false_answer : PairsCovered (after untrue (opening ++ asking ++ half_up ++ acceptor_recovers ++ Queries 11 101 ∷ Delivers 21 11 1 0 0 ∷ Delivers 11 21 1 0 0 ∷ [])) → ⊥
unfolding computing
false_answer = not_covered _ record {
  linked = record { forth = refl; back = refl; from_name = omega arith; to_name = omega arith };
  opener = refl;
  acceptor = refl;
  mates = refl;
  at = refl;
  up = refl;
  lost = refl;
  opener_gave = refl;
  acceptor_gave = refl;
  answered = refl;
}

abbrev unasked : Rules
unasked = record all_rules { asks_after_resets = false }

no_query : EndsAgree (after unasked (opening ++ asking ++ half_up ++ acceptor_recovers)) → ⊥
unfolding computing
no_query = not_agreed _ record {
  settled = record {
    linked = record { forth = refl; back = refl; from_name = omega arith; to_name = omega arith };
    opener = refl;
    acceptor = refl;
    opener_complete = λ z. refl;
    acceptor_complete = λ z. refl;
    opener_taken = omega arith;
    acceptor_taken = omega arith;
  };
  at = refl;
  up = refl;
  remote = refl;
  lost = refl;
}

abbrev untold : Rules
untold = record all_rules { tells_ends = false }

silent_end : EndsAgree (after untold (opening ++ asking ++ connecting ++ EndsTold 201 ∷ [])) → ⊥
unfolding computing
silent_end = not_agreed _ record {
  settled = record {
    linked = record { forth = refl; back = refl; from_name = omega arith; to_name = omega arith };
    opener = refl;
    acceptor = refl;
    opener_complete = λ z. refl;
    acceptor_complete = λ z. refl;
    opener_taken = omega arith;
    acceptor_taken = omega arith;
  };
  at = refl;
  up = refl;
  remote = refl;
  lost = refl;
}

abbrev unended : Rules
unended = record all_rules { ends_at_freezes = false }

same_some : (a b : ℕ) → Some a ≡ Some b → a ≡ b
same_some a b h = cc

too_old : (t : Tunnels) (c : Calls) → StatesHold t c → t.phase (c.tunnel 201) ≡ Open → is_young (c.state 201) ≡ true → c.made 201 ≡ Some 0 → t.entered (c.tunnel 201) ≡ 1 → ⊥
too_old t c law p y made one = zero_is 0 1 refl refl (same_some 0 1 (sym made ∙ law.young 201 p y ∙ ap Some one))

old_call : StatesHold (after unended (opening ++ asking ++ opener_recovers)).tunnels (after unended (opening ++ asking ++ opener_recovers)).calls → ⊥
unfolding computing
old_call law = too_old _ _ law refl refl refl refl

pub rules_carry_weight : RulesCarryWeight
rules_carry_weight = record { epochs = old_letter; answers = false_answer; queries = no_query; ends = silent_end; freezes = old_call }
