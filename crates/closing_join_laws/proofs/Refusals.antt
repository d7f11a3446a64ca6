-- What the machine does where an opener takes that it was refused; and the first letter of a channel is no StopCCN.
use Rattle.std.proofs.Common.{◌≡◌, ℕ, true, false, List, ◌∷◌, slice_get, refl, sym, ap, ◌∙◌, subst, Some, arith}
use Rattle.std.proofs.lemmas.Option.{none-some, same_Some}
use Rattle.control_message.specs.declared.message.Message.{Message}
use Rattle.world_model.specs.World.{World}
use Rattle.step_laws.specs.Letters.{Letter}
use Rattle.connection_laws.specs.Facts.{IsStopCcn}
use Rattle.epoch_machine.specs.Tunnels.{WaitReply, Closed, left}
use Rattle.epoch_machine.specs.Worlds as machine
use Rattle.epoch_machine.specs.Worlds.{all_rules, leaves}
use Rattle.epoch_machine.specs.Moves.{TakesRefusal, may_take_refusal, step}
use Rattle.stop_laws.specs.Records.{node_of as step_node}
use Rattle.session_laws.proofs.Names.{assign_there}
use Rattle.channel_laws.specs.Accounts.{Part, Unmade, Opener, Acceptor, Renewed, Account, History}
use Rattle.channel_laws.specs.Facts.{IsPart, Holds}
use Rattle.channel_laws.proofs.Linked.{opener_of, acceptor_of, renewed_of}
use Rattle.closing_join_laws.proofs.Settling.{Settled}

-- ---- in the machine

pub takes_refusal : (w : machine.World) (x : ℕ) → w.channels.refused x ≡ true → w.tunnels.phase x ≡ WaitReply → w.channels.taken x 0 ≡ 0
    → step all_rules w (TakesRefusal x) ≡ leaves w x Closed
unfolding step may_take_refusal
takes_refusal w x refused waits nothing = rw (refused, waits, nothing) refl

pub refusal_node : (w : machine.World) (x : ℕ) → step_node w (TakesRefusal x) ≡ w.tunnels.node x
unfolding step_node
refusal_node w x = refl

pub left_settled : (w : machine.World) (x : ℕ) → Settled w (leaves w x Closed).tunnels x
unfolding leaves left
left_settled w x = record {
  drawn = λ y. refl;
  ups = λ y. refl;
  node = λ y. refl;
  peer = λ y. refl;
  opener = λ y. refl;
  phase = λ y o. assign_there w.tunnels.phase x Closed y o;
  learned = λ y o. refl;
  booked = λ y o. assign_there w.tunnels.booked x false y o;
  entered = λ y. refl;
  entered_by = λ y e. refl;
  epochs = λ y. refl;
  attempts = λ y. refl;
  answers = λ y. refl;
  answered = λ y. refl;
  makes_it = λ y. refl;
  confirmed = λ y. refl;
  giver_first = λ y. refl;
  other_first = λ y. refl;
}

-- ---- the first letter of a channel of epoch 0 opens a tunnel, or accepts one

pub no_stop_first : (w : World) (h : History) (holds : Holds w h) (p f : ℕ) (l : Letter)
    → slice_get (h.accounts p f 0).given 0 ≡ Some l → IsStopCcn l.message → ⊥
no_stop_first w h holds p f l there stops = by c.part refl
  where
    c : Account
    c = h.accounts p f 0

    by_first : (first : Letter) (rest : List Letter) (says : Message) → (h.accounts p f 0).given ≡ first ∷ rest → first.message ≡ says
        → (IsStopCcn says → ⊥) → ⊥
    by_first first rest says are is none =
        let one : first ≡ l = same_Some first l (sym (ap (λ ls. slice_get ls 0) are) ∙ there) in
        none (subst IsStopCcn (ap (λ (y : Letter). y.message) (sym one) ∙ is) stops)

    by : (q : Part) → (h.accounts p f 0).part ≡ q → ⊥
    by Unmade is =
        let same = subst (IsPart w h p f 0 (h.accounts p f 0)) is (holds.accounts p f 0).part in
        none-some l (sym (ap (λ (y : Account). slice_get y.given 0) same) ∙ there)
    by Opener is =
        let b = (opener_of w h p f 0 (h.accounts p f 0) (holds.accounts p f 0) is).1.begins in
        by_first b.first b.rest _ b.are b.says_so (λ none. none)
    by Acceptor is =
        let b = (acceptor_of w h p f 0 (h.accounts p f 0) (holds.accounts p f 0) is).1.begins in
        by_first b.first b.rest _ b.are b.says_so (λ none. none)
    by Renewed is =
        let lt = (renewed_of w h p f 0 (h.accounts p f 0) (holds.accounts p f 0) is).later in
        omega (arith, lt)
