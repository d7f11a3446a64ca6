-- Ids that are drawn are new ones.
use Rattle.std.proofs.Common.{◌≡◌, ℕ, ◌<◌, ◌≤◌, refl, Option, Some, None, Ok, arith}
use Rattle.id_source.specs.Spaces.{takes_id, draw_is}
use Rattle.id_table.specs.Ids.{at}
use Rattle.end_model.specs.declared.event.Event.{Event}
use Rattle.end_model.specs.Tunnels.{Tunnel}
use Rattle.end_model.specs.End.{End}
use Rattle.world_model.specs.World.{Sender}
use Rattle.connection_laws.specs.Accounts.{Part, Unmade, Opener, Acceptor, no_account}
use Rattle.connection_laws.specs.Facts.{Accounts, IsMade, IsPart, Within}
use Rattle.session_laws.proofs.Ground.{live_made}

-- ---- a tunnel's id

module _ (accs : Accounts) (n : ℕ) (e : End) (sender : Option Sender) (ev : Event) (within : Within accs n e sender ev) (i : ℕ)
    (drawn : takes_id e.tunnel_ids ≡ Ok i) where
  drawn_is : (i ≡ e.tunnel_ids.next) × (i ≤ e.tunnel_ids.last)
  drawn_is = draw_is e.tunnel_ids i drawn

  pub id_some : 0 < i
  id_some = let first = within.end.first in let is = drawn_is.0 in omega arith

  pub id_fits : i < 65536
  id_fits = let last = within.end.last in let le = drawn_is.1 in omega arith

  unmade : IsMade (accs n i) → ⊥
  unmade made = let lt = within.end.drawn i made in let is = drawn_is.0 in let no : ⊥ = omega arith in no

  pub no_account_yet : accs n i ≡ no_account
  no_account_yet = by (accs n i).part refl (within.accounts n i).part
    where
      by : (p : Part) → (accs n i).part ≡ p → IsPart accs n i (accs n i) p → accs n i ≡ no_account
      by Unmade e h = h
      by Opener e h = absurd (unmade (λ none. let clash : ⊥ = cc in clash))
      by Acceptor e h = absurd (unmade (λ none. let clash : ⊥ = cc in clash))

  pub no_tunnel_yet : at e.tunnels i ≡ None
  no_tunnel_yet = by (at e.tunnels i) refl
    where
      by : (o : Option Tunnel) → at e.tunnels i ≡ o → o ≡ None
      by None there = refl
      by (Some t) there = absurd (unmade (live_made accs n i (accs n i) t (within.end.live i t there)))
