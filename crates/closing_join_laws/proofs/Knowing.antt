-- What a waiting tunnel's partner has learned, what a first letter weighs, and the phase of a tunnel that waits for its reply.
use Rattle.channel_laws.specs.Accounts.{Acceptor, Account, History, Opener, heeded, no_account}
use Rattle.channel_laws.specs.Facts.{Accounts, partner_in}
use Rattle.epoch_machine.specs.Moves.{accepts}
use Rattle.epoch_machine.specs.Tunnels.{WaitReply}
use Rattle.join_laws.proofs.Ahead.{is}
use Rattle.recovery_laws.specs.Joined.{ByLetter, ByRecord, LearnedSo, is_early}
use Rattle.recovery_laws.specs.Queries.{weigh, weight}
use Rattle.session_laws.proofs.Names.{known_name}
use Rattle.session_laws.specs.Names.{name, name_of, phase_of}
use Rattle.std.proofs.Common.{List, [], ap, ap₂, arith, refl, sym, ℕ, ◌+◌, ◌<◌, ◌∙◌, ◌∷◌, ◌≡◌}
use Rattle.std.specs.Prelude.{take, if◌then◌else◌}
use Rattle.step_laws.specs.Letters.{Letter}
use Rattle.tunnel_fsm.specs.Rows.{state_number}
use Rattle.tunnel_fsm.specs.declared.table.TunnelState.{TunnelState}
use Rattle.tunnel_fsm.specs.declared.table.TunnelState.TheVariants as state

-- ---- what lists weigh

pub none_weighs : (ls : List Letter) → weigh (take 0 ls) ≡ 0
none_weighs [] = refl
none_weighs (l ∷ ls) = refl

-- of a channel that never began nothing was taken
pub unmade_weighs : (h : History) (a : Account) (e : ℕ) → a ≡ no_account → weigh (take (heeded a) (partner_in h.accounts e a).given) ≡ 0
unmade_weighs h a e none = ap (λ (c : Account). weigh (take (heeded c) (partner_in h.accounts e c).given)) none ∙ none_weighs
    (partner_in h.accounts e no_account).given

-- the first letter of a channel is one of the machine's
pub first_weighs : (ls rest : List Letter) (l : Letter) → ls ≡ l ∷ rest → weight l.message ≡ 1 → weigh (take 1 ls) ≡ 1
first_weighs ls rest l is one = ap (λ q. weigh (take 1 q)) is ∙ (ap (λ c. c + weigh (take 0 rest)) one
    ∙ (let none = none_weighs rest in omega (arith, none)))

-- ---- states

pub waiting_phase : (s : TunnelState) → state_number s ≡ 1 → phase_of s ≡ WaitReply
waiting_phase state.Idle one = let no : ⊥ = omega (arith, one) in absurd no
waiting_phase state.WaitCtlReply one = refl
waiting_phase state.WaitCtlConn one = let no : ⊥ = omega (arith, one) in absurd no
waiting_phase state.Established one = let no : ⊥ = omega (arith, one) in absurd no
waiting_phase state.Closed one = let no : ⊥ = omega (arith, one) in absurd no

-- ---- what an acceptor has learned

pub acceptor_knows : (accs : Accounts) (n i p f y : ℕ) → LearnedSo accs p f y → (accs p f 0).part ≡ Acceptor → (accs p f 0).peer ≡ n
    → (accs p f 0).remote ≡ i → 0 < i → y ≡ name n i
acceptor_knows accs n i p f y (ByLetter is) part peer remote some =
    is
    ∙ (ap (λ c. if is_early c (accs p f 0).closed then 0 else name_of (accs p f 0).peer (accs p f 0).remote) part
    ∙ (ap₂ (λ c e. name_of c e) peer remote ∙ known_name n i some))
acceptor_knows accs n i p f y (ByRecord c opened none lt is accepts back own) part peer remote some =
    let two : Acceptor ≡ Opener = sym part ∙ opened in absurd cc
