-- The end of a node, of either kind, and which events fit it.
use Rattle.std.specs.Prelude.{ℕ, List, Bool, true, false, if◌then◌else◌, Option, Some, None, is_some, Result, Ok, Err, ◌≡◌}
use Rattle.std.proofs.Common.{refl}
use Rattle.id_table.specs.Ids.{at}
use Rattle.wire_base.specs.declared.why.Why.{Why}
use Rattle.wire_base.specs.declared.why.Why.TheVariants as why
use Rattle.end_names.specs.declared.role.Role.{Role}
use Rattle.end_names.specs.declared.role.Role.TheVariants as role
use Rattle.end_model.specs.declared.event.Event.{Event}
use Rattle.end_model.specs.declared.event.Event.TheVariants as event
use Rattle.end_model.specs.Access.{Access}
use Rattle.end_model.specs.End.{End, is_not_closed}
use Rattle.world_model.specs.World.{Node, lac_at, lns_at, with_call, with_tunnel}
use Rattle.end_core.specs.Fits.{fits, unless}
use Rattle.schedule_replay.specs.declared.kinds.Kind.{Kind}
use Rattle.schedule_replay.specs.declared.kinds.Kind.TheVariants.{Lac, Lns}

-- the end of a node, and where it is a LAC what it keeps of hosts
pub record Site : Type 0 where
  pub end : End
  pub access : Option Access

abbrev pub site_of : Kind → Site
site_of (Lac l) = record { end = l.end; access = Some l.access }
site_of (Lns e) = record { end = e; access = None }

abbrev pub site_in : Node → Site
site_in node = record { end = node.end; access = node.access }

-- a node of this kind
abbrev pub of_role : Role → Option Node → Result Node Why
of_role role.Lac o = lac_at o
of_role role.Lns o = lns_at o

abbrev pub unfit_as : Option Why → Node → Result Node Why
unfit_as None node = Ok node
unfit_as (Some w) node = Err w

-- a node whose end the event fits
abbrev pub fitting : Event → Result Node Why → Result Node Why
fitting ev (Err x) = Err x
fitting ev (Ok node) = unfit_as (fits node.end ev) node

told : (b : Bool) (w : Why) (node : Node) → unfit_as (unless b w) node ≡ (if b then Ok node else Err w)
told true w node = refl
told false w node = refl

module _ (s : ℕ) where
  -- an event of a call fits where the call is live
  pub payload_fits : (frame : List ℕ) (r : Result Node Why) → fitting (event.Payload s frame) r ≡ with_call s r
  unfolding fits
  payload_fits frame (Err x) = refl
  payload_fits frame (Ok node) = told (is_some (at node.end.calls s)) why.Call node

  pub lower_fits : (frame : List ℕ) (r : Result Node Why) → fitting (event.Lower s frame) r ≡ with_call s r
  unfolding fits
  lower_fits frame (Err x) = refl
  lower_fits frame (Ok node) = told (is_some (at node.end.calls s)) why.Call node

  pub hang_fits : (r : Result Node Why) → fitting (event.Hang s) r ≡ with_call s r
  unfolding fits
  hang_fits (Err x) = refl
  hang_fits (Ok node) = told (is_some (at node.end.calls s)) why.Call node

  pub drop_fits : (r : Result Node Why) → fitting (event.DropCall s) r ≡ with_call s r
  unfolding fits
  drop_fits (Err x) = refl
  drop_fits (Ok node) = told (is_some (at node.end.calls s)) why.Call node

  -- a close fits where the tunnel is live and isn't closed
  pub close_fits : (r : Result Node Why) → fitting (event.CloseTunnel s) r ≡ with_tunnel s r
  unfolding fits
  close_fits (Err x) = refl
  close_fits (Ok node) = told (is_not_closed (at node.end.tunnels s)) why.Tunnel node

-- the others name nothing
pub open_fits : (r : Result Node Why) → fitting event.OpenTunnel r ≡ r
unfolding fits
open_fits (Err x) = refl
open_fits (Ok node) = refl

pub ring_fits : (port : ℕ) (r : Result Node Why) → fitting (event.Ring port) r ≡ r
unfolding fits
ring_fits port (Err x) = refl
ring_fits port (Ok node) = refl
