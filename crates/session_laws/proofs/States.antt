-- Where a live tunnel stands: it is at work, or closed; and how many letters an account heeds.
use Rattle.std.proofs.Common.{◌≡◌, ◌⊎◌, inl, inr, ⊎_elim, ℕ, ◌+◌, ◌<◌, ◌≤◌, Bool, true, false, [], ◌∷◌, length, refl, sym, ◌∙◌, arith, List, eq-eqb, ne_eqb}
use Rattle.std.proofs.lemmas.Bool.{eqb-true, ltb-true, ltb-false, true≢false}
use Rattle.std.proofs.lemmas.List.{length-append}
use Rattle.std.specs.Prelude.{nat_lt}
use Rattle.tunnel_fsm.specs.declared.table.TunnelState.{TunnelState}
use Rattle.tunnel_fsm.specs.Rows.{state_number}
use Rattle.end_model.specs.Tunnels.{Tunnel}
use Rattle.end_model.specs.Moments.{is_closed}
use Rattle.step_laws.specs.Letters as step
use Rattle.connection_laws.specs.Accounts.{Part, Unmade, Opener, Acceptor, Taken, Account, heeded}
use Rattle.connection_laws.specs.Facts.{Accounts, IsOpen, IsClosed, IsShut, IsInState, LiveOk}
use Rattle.session_laws.proofs.Entering.{with_taken}

-- ---- states

-- it isn't closed
pub record IsAtWork (a : Account) (t : Tunnel) : Type 0 where
  pub some : 1 ≤ state_number t.control.state
  pub few : state_number t.control.state ≤ 3
  pub is_open : IsOpen a

at_work_in : (a : Account) (t : Tunnel) (k : ℕ) → state_number t.control.state ≡ k → 1 ≤ k → k ≤ 3 → IsOpen a → IsAtWork a t
at_work_in a t k is some few open_is = record { some = omega arith; few = omega arith; is_open = open_is }

pub stands : (accs : Accounts) (i : ℕ) (a : Account) (t : Tunnel) (p : Part) → IsInState accs i a t p → IsAtWork a t ⊎ IsShut a t
stands accs i a t Unmade h = absurd h
stands accs i a t Opener h = ⊎_elim
    (λ one. inl (at_work_in a t 1 one.0 (omega arith) (omega arith) one.2))
    (λ more. ⊎_elim (λ three. inl (at_work_in a t 3 three.0 (omega arith) (omega arith) three.2)) (λ four. inr four) more)
    h
stands accs i a t Acceptor h = ⊎_elim
    (λ two. inl (at_work_in a t 2 two.0 (omega arith) (omega arith) two.2))
    (λ more. ⊎_elim (λ three. inl (at_work_in a t 3 three.0 (omega arith) (omega arith) three.2)) (λ four. inr four) more)
    h

-- in any other state than the fourth a tunnel isn't closed
pub not_closed : (s : TunnelState) (k : ℕ) → state_number s ≡ k → k < 4 → is_closed s ≡ false
not_closed s k is lt = rw is (ne_eqb k 4 (λ four. let no : ⊥ = omega (arith, four) in no))

module _ (accs : Accounts) (n i : ℕ) (a : Account) (t : Tunnel) (live : LiveOk accs n i a t) where
  pub at_work : is_closed t.control.state ≡ false → IsAtWork a t
  at_work open_is = ⊎_elim
      (λ (works : IsAtWork a t). works)
      (λ (shut : IsShut a t). absurd (true≢false (sym (eq-eqb (state_number t.control.state) 4 shut.0) ∙ open_is)))
      (stands accs i a t a.part live.state)

  pub is_shut : is_closed t.control.state ≡ true → IsShut a t
  is_shut closed = ⊎_elim
      (λ (works : IsAtWork a t).
      let four = eqb-true (state_number t.control.state) 4 closed in
      let few = works.few in
      absurd (omega (arith, four)))
      (λ (shut : IsShut a t). shut)
      (stands accs i a t a.part live.state)

  pub live_some : 1 ≤ state_number t.control.state
  live_some = ⊎_elim
      (λ (works : IsAtWork a t). works.some)
      (λ (shut : IsShut a t). let four = shut.0 in omega (arith, four))
      (stands accs i a t a.part live.state)

-- ---- letters that are heeded

pub below_or_not : (k m : ℕ) → (k < m) ⊎ (m ≤ k)
below_or_not k m = by (nat_lt k m) refl
  where
    by : (b : Bool) → nat_lt k m ≡ b → (k < m) ⊎ (m ≤ k)
    by true is = inl (ltb-true k m is)
    by false is = inr (ltb-false k m is)

-- as long as a tunnel isn't closed, it heeds all that it takes
pub heeds_all : (a : Account) → IsOpen a → heeded a ≡ length a.taken
heeds_all a is = rw is refl

pub heeds_one : (tk : Taken) (more : List step.Letter) (a : Account) → IsOpen a → heeded (with_taken tk more a) ≡ 1 + heeded a
heeds_one tk more a is = rw is (length-append a.taken (tk ∷ []) ∙ (omega arith))

-- a closed one heeds no more
pub heeds_none : (tk : Taken) (more : List step.Letter) (a : Account) → IsClosed a → heeded (with_taken tk more a) ≡ heeded a
heeds_none tk more a closed = rw closed.1 refl
