-- What the tests tell.
use Rattle.std.proofs.Common.{◌≡◌, ◌≢◌, ◌⊎◌, inl, inr, ℕ, ◌≤◌, Bool, true, false, eqb, ltb, leb, not, ◌&&◌, ◌||◌, refl, ap, arith}
use Rattle.std.proofs.lemmas.Bool.Decides.{nat_tests}
use Rattle.epoch_machine.specs.Letters.{Letter, StopCcn}
use Rattle.epoch_machine.specs.Tunnels.{Phase, Gone, WaitReply, WaitConnect, Open, Attempts, Answers, is_live, is_active, is_open, is_wait_reply, is_wait_connect, attempts_by, answers_by}
use Rattle.epoch_machine.specs.Calls.{CallState, Waits, WaitsReply, WaitsConnect, Up, waits, waits_reply, waits_connect, is_up}
use Rattle.epoch_machine.specs.Worlds.{is_stop}

pub both : (x y : Bool) → (x && y) ≡ true → (x ≡ true) × (y ≡ true)
both true true h = (refl, refl)
both true false h = absurd cc
both false y h = absurd cc

pub either : (x y : Bool) → (x || y) ≡ true → (x ≡ true) ⊎ (y ≡ true)
either true y h = inl refl
either false true h = inr refl
either false false h = absurd cc

pub no_way : (b : Bool) → b ≡ true → b ≡ false → ⊥
no_way true h k = absurd cc
no_way false h k = absurd cc

pub turned : (b : Bool) → not b ≡ true → b ≡ false
turned true h = absurd cc
turned false h = refl

pub same : (a b : ℕ) → eqb a b ≡ true → a ≡ b
same a b h = grind (arith, nat_tests)

pub same_test : (a b : ℕ) → a ≡ b → eqb a b ≡ true
same_test a b h = grind (arith, nat_tests)

pub named : (k : ℕ) → ltb 0 k ≡ true → k ≢ 0
named k h = grind (arith, nat_tests)

pub not_above : (a b : ℕ) → leb a b ≡ true → a ≤ b
not_above a b h = grind (arith, nat_tests)

pub open_phase : (p : Phase) → is_open p ≡ true → p ≡ Open
open_phase Open h = refl
open_phase p h = absurd cc

pub reply_phase : (p : Phase) → is_wait_reply p ≡ true → p ≡ WaitReply
reply_phase WaitReply h = refl
reply_phase p h = absurd cc

pub connect_phase : (p : Phase) → is_wait_connect p ≡ true → p ≡ WaitConnect
connect_phase WaitConnect h = refl
connect_phase p h = absurd cc

pub gone_phase : (p : Phase) → is_live p ≡ false → p ≡ Gone
gone_phase Gone h = refl
gone_phase p h = absurd cc

pub attempts_phase : (p : Phase) (a : ℕ) → attempts_by p a ≡ true → p ≡ Attempts a
attempts_phase (Attempts b) a h = ap Attempts (same b a h)
attempts_phase p a h = absurd cc

pub answers_phase : (p : Phase) (c : ℕ) → answers_by p c ≡ true → p ≡ Answers c
answers_phase (Answers b) c h = ap Answers (same b c h)
answers_phase p c h = absurd cc

-- the phases of a tunnel whose channel is at work
pub active_phase : (p : Phase) → is_active p ≡ true → (p ≡ WaitReply) ⊎ ((p ≡ WaitConnect) ⊎ (p ≡ Open))
active_phase WaitReply h = inl refl
active_phase WaitConnect h = inr (inl refl)
active_phase Open h = inr (inr refl)
active_phase p h = absurd cc

pub waits_state : (s : CallState) → waits s ≡ true → s ≡ Waits
waits_state Waits h = refl
waits_state s h = absurd cc

pub reply_state : (s : CallState) → waits_reply s ≡ true → s ≡ WaitsReply
reply_state WaitsReply h = refl
reply_state s h = absurd cc

pub connect_state : (s : CallState) → waits_connect s ≡ true → s ≡ WaitsConnect
connect_state WaitsConnect h = refl
connect_state s h = absurd cc

pub up_state : (s : CallState) → is_up s ≡ true → s ≡ Up
up_state Up h = refl
up_state s h = absurd cc

pub stop_letter : (l : Letter) → is_stop l ≡ true → l ≡ StopCcn
stop_letter StopCcn h = refl
stop_letter l h = absurd cc
