-- What control connections carry, in every run.
use Rattle.std.specs.Prelude.{◌≡◌, ◌⊎◌, ℕ, ◌+◌, ◌-◌, ◌^◌, ◌<◌, ◌≤◌, ◌&&◌, nat_le, true, false, if◌then◌else◌, List, length, slice_get, Some, None}
use Rattle.std.specs.List.{AllByRecursion}
use Rattle.id_table.specs.Ids.{at}
use Rattle.send_window.specs.Kept.{Window}
use Rattle.recv_window.specs.Window.{on_wire, class_of, true_class}
use Rattle.control_channel.specs.Numbers.{count_acked}
use Rattle.schedule_text.specs.declared.line.Line.{Line}
use Rattle.schedule_text.specs.Grammar.{AreLines}
use Rattle.end_model.specs.declared.out.Origin.{Origin}
use Rattle.end_model.specs.declared.out.Origin.TheVariants as origin
use Rattle.end_model.specs.declared.out.ControlOrigin.{ControlOrigin}
use Rattle.world_model.specs.declared.packet.Packet.{Packet}
use Rattle.end_model.specs.declared.tunnel.Control.{Control}
use Rattle.end_names.specs.Names.{address_of}
use Rattle.end_model.specs.Tunnels.{Tunnel}
use Rattle.end_model.specs.End.{reached}
use Rattle.world_model.specs.World.{Node, Deed, too_old}
use Rattle.world_model.specs.Run.{Run, run}
use Rattle.step_laws.specs.Calm.{AreCalm}
use Rattle.connection_laws.specs.Accounts.{Taken, account_of}
use Rattle.connection_laws.specs.Facts.{IsCopy, IsRefusal, AreTaken, Holds}

-- ---- what is said and taken

-- a control message of a run: a copy of a letter, or of none; or a StopCCN of no tunnel, which declines an opening
abbrev pub IsCopied : List Deed → Packet → Type 0
IsCopied ds p = (o : ControlOrigin) → p.origin ≡ origin.Control o → IsCopy (account_of ds p.from o.tunnel) p o ⊎ IsRefusal (account_of ds) p o

-- no recovery tunnel sent it
abbrev pub IsOfNoRecovery : Origin → Type 0
IsOfNoRecovery (origin.Control o) = Unit {0}
IsOfNoRecovery (origin.Data session) = Unit {0}
IsOfNoRecovery (origin.Recovery tunnel number empty) = ⊥

pub record LettersAreCarried (r : Run) : Type 0 where
  -- each control message is a copy of the letter at its number in its sender's list, or of none
  pub copies : AllByRecursion (IsCopied r.done) r.world.packets
  -- and there are no other ones
  pub none_recovers : AllByRecursion (λ (p : Packet). IsOfNoRecovery p.origin) r.world.packets
  -- each tunnel took the first letters of its partner's list, in order and each once
  pub taken : (n i : ℕ) → AreTaken (account_of r.done) (account_of r.done n i)

-- ---- what is acknowledged

-- a tunnel of the node to which this one goes is its other end: this one has learned its id, or it has learned this one's, as an acceptor
-- of this one's SCCRQ does before its SCCRP is taken
pub data IsOtherEnd (ds : List Deed) (n i other : ℕ) : Type 0 where
  IsLearned : ((account_of ds n i).remote ≡ 0 → ⊥) → (account_of ds n i).remote ≡ other → IsOtherEnd ds n i other
  HasLearned : (account_of ds (account_of ds n i).peer other).remote ≡ i → IsOtherEnd ds n i other

-- another end of the tunnel goes to this node, and took the tunnel's letter with this number
pub record WasTaken (ds : List Deed) (n i number : ℕ) : Type 0 where
  pub other : ℕ
  pub is_other : IsOtherEnd ds n i other
  pub goes : (account_of ds (account_of ds n i).peer other).peer ≡ n
  pub letter : Taken
  pub there : slice_get (account_of ds (account_of ds n i).peer other).taken number ≡ Some letter
  pub from : letter.sender ≡ Some (record { node = n; tunnel = i })

-- another end of the tunnel, which goes to this node, had taken no more than so many letters when it was closed, and has acknowledged
-- since what it ignored
pub record WasIgnored (ds : List Deed) (n i number : ℕ) : Type 0 where
  pub other : ℕ
  pub is_other : IsOtherEnd ds n i other
  pub goes : (account_of ds (account_of ds n i).peer other).peer ≡ n
  pub count : ℕ
  pub closed : (account_of ds (account_of ds n i).peer other).closed ≡ Some count
  pub before : count ≤ number

-- it is the SCCRQ of a tunnel, which its peer declined
abbrev pub WasDeclined : List Deed → ℕ → ℕ → ℕ → Type 0
WasDeclined ds n i number = (number ≡ 0) × ((account_of ds n i).declined ≡ true)

-- each letter that a live tunnel counts as acknowledged
abbrev pub AcksAreTrue : Run → Type 0
AcksAreTrue r = (n : ℕ) (node : Node) → at r.world.nodes n ≡ Some node → (i : ℕ) (t : Tunnel) → at node.end.tunnels i ≡ Some t
    → (number : ℕ) → number < t.control.channel.window.acked
    → WasTaken r.done n i number ⊎ (WasIgnored r.done n i number ⊎ WasDeclined r.done n i number)

-- ---- how numbers on the wire are read

-- how many letters a number without an end acknowledges
abbrev pub true_count : Window → ℕ → ℕ
true_count w nr = if nat_le w.acked nr && nat_le nr (w.acked + w.outstanding) then nr - w.acked else 0

-- the 16 bits of both numbers are read as the numbers without an end are
pub record IsRead (c : Control) (o : ControlOrigin) : Type 0 where
  pub class : o.empty ≡ false → class_of (on_wire o.ns) c.channel.inbox ≡ true_class o.ns c.channel.inbox
  pub acked : count_acked c.channel (on_wire o.nr) ≡ true_count c.channel.window o.nr

-- each control message that may be delivered to a live tunnel
abbrev pub NumbersAreRead : Run → Type 0
NumbersAreRead r =
    AllByRecursion (λ (p : Packet). (o : ControlOrigin) → p.origin ≡ origin.Control o → (node : Node) → at r.world.nodes p.to ≡ Some node → (c : Control)
    → reached node.end (address_of p.from) p.bytes ≡ Some c → too_old p.epoch o r.world p.to (Some c) ≡ None → IsRead c o) r.world.packets

-- ---- in the run of each list of lines of the grammar in which no node crashes, is to stop, or starts; letters are counted in 64 bits,
-- and a line gives a tunnel 16,384 of them at most

abbrev pub HoldsInRuns : Type 0
HoldsInRuns = (lines : List Line) → AreLines lines → AreCalm lines → length lines < 2 ^ 47 → Holds (run lines).world (account_of (run lines).done)

abbrev pub LettersOfRuns : Type 0
LettersOfRuns = (lines : List Line) → AreLines lines → AreCalm lines → length lines < 2 ^ 47 → LettersAreCarried (run lines)

abbrev pub AcksOfRuns : Type 0
AcksOfRuns = (lines : List Line) → AreLines lines → AreCalm lines → length lines < 2 ^ 47 → AcksAreTrue (run lines)

abbrev pub NumbersOfRuns : Type 0
NumbersOfRuns = (lines : List Line) → AreLines lines → AreCalm lines → length lines < 2 ^ 47 → NumbersAreRead (run lines)
