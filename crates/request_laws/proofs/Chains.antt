-- What holds of calls and of letters that ask for them, along the moves of a step.
use Rattle.std.proofs.Common.{◌≡◌, inl, inr, ⊎_elim, ℕ, List, [], ◌∷◌, length, sym, subst, Option}
use Rattle.std.specs.List.{AllByRecursion}
use Rattle.end_model.specs.declared.event.Event.{Event}
use Rattle.end_model.specs.declared.moves.Move.{Move}
use Rattle.end_model.specs.declared.moves.Move.TheVariants as move
use Rattle.end_names.specs.declared.role.Role.{Role}
use Rattle.end_model.specs.End.{End}
use Rattle.world_model.specs.World.{World, Sender}
use Rattle.step_laws.specs.Moves.{Does, Chain}
use Rattle.frame_laws.specs.Unrecovered.{IsMain}
use Rattle.connection_laws.specs.Accounts.{about, account_from}
use Rattle.request_laws.proofs.Asked.{Known, AskOk, IsNow, LettersGo, ask_goes_on}
use Rattle.request_laws.proofs.Deeds.{IsRequest, deeds, known_after, deed_asks}
use Rattle.request_laws.proofs.Moves.{does_calls, requested_now}

module _ (v : World) (number n : ℕ) (r : Role) (sender : Option Sender) (moment : ℕ) (ev : Event) where
  -- a move that asks for a call
  asks_now : (known : Known) (x y : End) → AskOk known x → (m : Move) → Does x moment ev m y → (s : ℕ) → IsRequest m s → IsNow x y (about m) s
  asks_now known x y ok (move.Opened m) h s q = absurd q
  asks_now known x y ok (move.Accepted m) h s q = absurd q
  asks_now known x y ok (move.Connected m) h s q = absurd q
  asks_now known x y ok (move.Confirmed m) h s q = absurd q
  asks_now known x y ok (move.Added m) h s q = absurd q
  asks_now known x y ok (move.Requested m) h s q = subst (λ k. IsNow x y m.tunnel k) (sym q) (requested_now x y ok.order known ok moment m h)
  asks_now known x y ok (move.Replied m) h s q = absurd q
  asks_now known x y ok (move.FirstUp m) h s q = absurd q
  asks_now known x y ok (move.SecondUp m) h s q = absurd q
  asks_now known x y ok (move.Refused m) h s q = absurd q
  asks_now known x y ok (move.EndTold m) h s q = absurd q
  asks_now known x y ok (move.EndHeard m) h s q = absurd q
  asks_now known x y ok (move.EndSilent m) h s q = absurd q
  asks_now known x y ok (move.Declined m) h s q = absurd q
  asks_now known x y ok (move.Closed m) h s q = absurd q
  asks_now known x y ok (move.Rejected m) h s q = absurd q
  asks_now known x y ok (move.ClosedBy m) h s q = absurd q
  asks_now known x y ok (move.Cleared i booked) h s q = absurd q
  asks_now known x y ok (move.Greeted m) h s q = absurd q
  asks_now known x y ok (move.TookPlain m) h s q = absurd q
  asks_now known x y ok (move.NrRead m) h s q = absurd q
  asks_now known x y ok (move.LetGo m) h s q = absurd q
  asks_now known x y ok (move.Repeated m) h s q = absurd q
  asks_now known x y ok (move.Quiet i) h s q = absurd q
  asks_now known x y ok (move.Negotiated m) h s q = absurd q
  asks_now known x y ok (move.Counted m) h s q = absurd q
  asks_now known x y ok (move.FrameSent m) h s q = absurd q
  asks_now known x y ok (move.FrameUp m) h s q = absurd q
  asks_now known x y ok m h s q = absurd q

  letters_go : (known : Known) (x y : End) → AskOk known x → (m : Move) → Does x moment ev m y
      → LettersGo known (known_after v number n r sender m known) x y (about m)
  letters_go known x y ok m h i k s a = ⊎_elim
      (λ b. inl b)
      (λ (b : (i ≡ about m) × (k ≡ length (known (about m)).given) × IsRequest m s). inr (b.0, b.1, asks_now known x y ok m h s b.2))
      (deed_asks v number n r sender m known i k s a)

  does_ask : (known : Known) (x y : End) → AskOk known x → (m : Move) → IsMain m → Does x moment ev m y → AskOk (known_after v number n r sender m known) y
  does_ask known x y ok m main h =
      ask_goes_on known (known_after v number n r sender m known) x y (about m) ok (does_calls x y ok.order moment ev m main h) (letters_go known x y ok m h)

  -- what is known after the deeds of a step
  abbrev pub known_then : List Move → Known → Known
  known_then ms known i = account_from (deeds v number n r sender ms) n i (known i)

  pub asks_on : (known : Known) (x y : End) → AskOk known x → (ms : List Move) → AllByRecursion IsMain ms → Chain moment ev x ms y
      → AskOk (known_then ms known) y
  unfolding account_from
  asks_on known x y ok [] mains h = subst (AskOk known) h ok
  asks_on known x y ok (m ∷ ms) mains h =
      asks_on (known_after v number n r sender m known) h.0 y (does_ask known x h.0 ok m mains.0 h.1) ms mains.1 h.2
