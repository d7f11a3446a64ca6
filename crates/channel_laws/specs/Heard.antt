-- The letter that a tunnel hears: of which epoch it is, and which one of its sender's list.
use Rattle.std.specs.Prelude.{◌≡◌, ◌⊎◌, ℕ, true, false, length, slice_get, Some, None}
use Rattle.std.specs.List.{AllByRecursion}
use Rattle.id_table.specs.Ids.{at}
use Rattle.recv_window.specs.Window.{on_wire, class_of, true_class}
use Rattle.recv_window.specs.declared.Class.TheVariants.{Next}
use Rattle.control_channel.specs.Numbers.{count_acked}
use Rattle.end_model.specs.declared.out.Origin.TheVariants as origin
use Rattle.end_model.specs.declared.out.ControlOrigin.{ControlOrigin}
use Rattle.end_model.specs.declared.tunnel.Control.{Control}
use Rattle.end_names.specs.Names.{address_of}
use Rattle.end_model.specs.Tunnels.{Tunnel, mode_of, is_current}
use Rattle.end_model.specs.End.{reached}
use Rattle.world_model.specs.declared.packet.Packet.{Packet}
use Rattle.world_model.specs.World.{World, Node, epoch_of, too_old}
use Rattle.step_laws.specs.Letters.{Letter}
use Rattle.connection_laws.specs.Channels.{true_count}
use Rattle.channel_laws.specs.Accounts.{History}
use Rattle.channel_laws.specs.Facts.{Holds, IsCopy, IsRefusal}
use Rattle.channel_laws.specs.Epochs.{EpochsKnown}

-- the 16 bits of both numbers are read as the numbers without an end are
pub record IsRead (c : Control) (o : ControlOrigin) : Type 0 where
  pub class : o.empty ≡ false → class_of (on_wire o.ns) c.channel.inbox ≡ true_class o.ns c.channel.inbox
  pub acked : count_acked c.channel (on_wire o.nr) ≡ true_count c.channel.window o.nr

-- a packet that is delivered to a live tunnel of a node, which isn't too old for it
pub record IsDelivered (w : World) (p : Packet) (o : ControlOrigin) (node : Node) (i : ℕ) (t : Tunnel) : Type 0 where
  pub origin_is : p.origin ≡ origin.Control o
  pub there : at w.nodes p.to ≡ Some node
  pub live : at node.end.tunnels i ≡ Some t
  pub reached_it : reached node.end (address_of p.from) p.bytes ≡ Some t.control
  pub young : too_old p.epoch o w p.to (Some t.control) ≡ None

-- it is of the tunnel's own epoch, and was sent by a tunnel that has learned this one, or by one that names none (which is of epoch 0); the
-- letter with the number that comes next is the next one of those that its sender gave in that epoch
pub record IsOfItsEpoch (w : World) (h : History) (p : Packet) (o : ControlOrigin) (i : ℕ) (t : Tunnel) : Type 0 where
  pub copy : IsCopy (h.accounts p.from o.tunnel p.epoch) p o
  pub epoch : p.epoch ≡ epoch_of w p.to i
  pub read : IsRead t.control o
  pub next : o.empty ≡ false → class_of (on_wire o.ns) t.control.channel.inbox ≡ Next
      → (l : Letter) × (slice_get (h.accounts p.from o.tunnel p.epoch).given (length (h.accounts p.to i p.epoch).taken) ≡ Some l)

-- or it is a StopCCN of no tunnel, which declines an SCCRQ
abbrev pub NoneIsOfAnother : Type 0
NoneIsOfAnother = (w : World) (h : History) → Holds w h → EpochsKnown w h → AllByRecursion (λ (p : Packet). (o : ControlOrigin) (node : Node) (i : ℕ) (t : Tunnel)
    → IsDelivered w p o node i t → is_current (mode_of t.recovery) ≡ true → IsOfItsEpoch w h p o i t ⊎ IsRefusal h p o) w.packets
