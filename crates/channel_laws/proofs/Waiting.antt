-- A recovery tunnel that waits, and one that told to reset its tunnel; and what a tunnel that was frozen or restored knows of its other end.
use Rattle.std.proofs.Common.{◌≡◌, ℕ, ◌<◌, true, false, refl, sym, Option, Some, None, arith}
use Rattle.std.proofs.lemmas.Bool.{true≢false}
use Rattle.std.specs.Prelude.{is_some, is_none, not, ◌&&◌}
use Rattle.recovery_tunnel.specs.Connections.{ControlConnection, is_waiting}
use Rattle.end_names.specs.Names.{address_of, node_of}
use Rattle.end_model.specs.Tunnels.{Recovering, ByAttempt, ByAnswer, connection_of, mode_by, mode_of, is_current}
use Rattle.channel_laws.specs.Facts.{Accounts, AreLinked, KnowsBy, ByLetter, ByRecord}

pub not_reset : (c : ControlConnection) → is_waiting c ≡ true → is_some c.reset ≡ false
not_reset c waits = by c.reset waits
  where
    by : (o : Option ℕ) → is_none o && not c.closed ≡ true → is_some o ≡ false
    by None waits = refl
    by (Some x) waits = absurd (true≢false (sym waits))

by_its_kind : (r : Recovering) → is_current (mode_by r) ≡ false
by_its_kind (ByAttempt c) = refl
by_its_kind (ByAnswer a) = refl

-- a tunnel is frozen or restored as long as its recovery tunnel waits
pub waits_inactive : (r : Recovering) → is_waiting (connection_of r) ≡ true → is_current (mode_of (Some r)) ≡ false
waits_inactive r waits = rw (not_reset (connection_of r) waits) (by_its_kind r)

-- and no longer once it told to reset it
pub reset_current : (r : Recovering) (moment : ℕ) → (connection_of r).reset ≡ Some moment → is_current (mode_of (Some r)) ≡ true
reset_current r moment is = rw is refl

-- a node's address is its own
pub node_again : (from : ℕ) → from < 256 → node_of (address_of from) ≡ from
unfolding node_of address_of
node_again from lt = omega arith

-- an end of a link knows the id that its channel of epoch 0 learned
pub linked_knows : (accs : Accounts) (n i m j remote : ℕ) → AreLinked accs n i m j → KnowsBy accs n i remote → (accs n i 0).remote ≡ remote
linked_knows accs n i m j remote l (ByLetter is) = is
linked_knows accs n i m j remote l (ByRecord part none other peer own) =
    let forth = l.forth in
    let some = l.to_some in
    absurd (omega (arith, forth, none, some))
