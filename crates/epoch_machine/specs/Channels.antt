-- The letters that each tunnel gave and took, epoch by epoch.
use Rattle.std.specs.Prelude.{◌≡◌, ℕ, suc, Bool, true, false, List, [], ◌∷◌, ◌++◌, slice_get, Some}
use Rattle.epoch_machine.specs.Names.{assign}
use Rattle.epoch_machine.specs.Letters.{Letter}

pub record Channels : Type 0 where
  -- the letters that a tunnel gave in an epoch
  pub sent : ℕ → ℕ → List Letter
  -- how many of the other end's letters it took in an epoch
  pub taken : ℕ → ℕ → ℕ
  -- a StopCCN of no tunnel was sent to this opener
  pub refused : ℕ → Bool

abbrev pub no_channels : Channels
no_channels = record { sent = λ x e. []; taken = λ x e. 0; refused = λ x. false }

-- the letter stands in the tunnel's list of this epoch, at this place
abbrev pub Stands : Channels → ℕ → ℕ → ℕ → Letter → Type 0
Stands c x e k l = slice_get (c.sent x e) k ≡ Some l

unfoldable pub puts : Channels → ℕ → ℕ → Letter → Channels
puts c x e l = record c { sent = assign c.sent x (assign (c.sent x) e (c.sent x e ++ l ∷ [])) }

unfoldable pub counts : Channels → ℕ → ℕ → Channels
counts c x e = record c { taken = assign c.taken x (assign (c.taken x) e (suc (c.taken x e))) }

unfoldable pub refuses : Channels → ℕ → Channels
refuses c x = record c { refused = assign c.refused x true }
