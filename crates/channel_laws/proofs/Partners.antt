-- Two tunnels of a node that have the same other end, and know it as a book does, are one.
use Rattle.std.proofs.Common.{◌≡◌, ⊎_elim, ℕ, ◌<◌, sym, ap₂, ◌∙◌, subst, arith}
use Rattle.session_book.specs.declared.record.BookTunnel.{BookTunnel}
use Rattle.world_model.specs.World.{World}
use Rattle.connection_laws.proofs.Hearing.{same_address}
use Rattle.channel_laws.specs.Accounts.{Opener, Acceptor, Renewed, Account, History}
use Rattle.channel_laws.specs.Facts.{IsMade, partner_in, KnowsBy, ByLetter, ByRecord, BookedOk, Holds}
use Rattle.channel_laws.proofs.Linked.{renewed_of, part_cases, opener_of}

module _ (w : World) (h : History) (holds : Holds w h) (n : ℕ) where
  -- the other end goes back to it
  pub known_back : (i remote : ℕ) → IsMade (h.accounts n i 0) → 0 < remote → KnowsBy h.accounts n i remote
      → ((h.accounts n i 0).part ≡ Acceptor → (partner_in h.accounts 0 (h.accounts n i 0)).remote ≡ i)
      → (h.accounts (h.accounts n i 0).peer remote 0).remote ≡ i
  known_back i remote made some knows learned = by knows
    where
      a : Account
      a = h.accounts n i 0

      by : KnowsBy h.accounts n i remote → (h.accounts (h.accounts n i 0).peer remote 0).remote ≡ i
      by (ByLetter same) =
          subst (λ r. (h.accounts (h.accounts n i 0).peer r 0).remote ≡ i) same
          (⊎_elim
          (λ (own : (h.accounts n i 0).part ≡ Opener).
          (opener_of w h n i 0 (h.accounts n i 0) (holds.accounts n i 0) own).1.remote
          (λ z. (let no : ⊥ = omega (arith, z, same, some) in no)))
          (λ k. ⊎_elim
          (λ (own : (h.accounts n i 0).part ≡ Acceptor). learned own)
          (λ (own : (h.accounts n i 0).part ≡ Renewed). let lt = (renewed_of w h n i 0 (h.accounts n i 0)
          (holds.accounts n i 0) own).later in absurd (omega (arith, lt)))
          k)
          (part_cases (h.accounts n i 0).part made))
      by (ByRecord part none acceptor peer back) = back

  pub one_of_two : (b c : BookTunnel) → BookedOk h n b → BookedOk h n c → b.peer ≡ c.peer → b.remote ≡ c.remote → b.local ≡ c.local
  one_of_two b c one two peers remotes =
      let nodes : (h.accounts n b.local 0).peer ≡ (h.accounts n c.local 0).peer = same_address _ _ (sym one.peer ∙ (peers ∙ two.peer)) in
      sym (known_back b.local b.remote one.made one.remote one.knows one.learned)
      ∙ (ap₂ (λ x y. (h.accounts x y 0).remote) nodes remotes ∙ known_back c.local c.remote two.made two.remote two.knows two.learned)
