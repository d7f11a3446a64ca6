-- A line that brings a frame, whose step may be cut off: then too what came in the step is no datagram.
use Rattle.std.proofs.Common.{◌≡◌, ℕ, Bool, true, false, List, [], ◌∷◌, ◌++◌, refl, subst, Option, Some, None, Result, Ok, Err}
use Rattle.std.specs.Prelude.{if◌then◌else◌}
use Rattle.id_table.specs.Ids.{at}
use Rattle.wire_base.specs.declared.cause.Cause.{Cause}
use Rattle.wire_base.specs.declared.why.Why.{Why}
use Rattle.pppoe_discovery.specs.declared.outcome.Discovered.{Discovered}
use Rattle.end_names.specs.declared.role.Role.TheVariants.{Lac}
use Rattle.end_model.specs.declared.event.Event.{Event}
use Rattle.end_model.specs.declared.event.Event.TheVariants as event
use Rattle.end_model.specs.Access.{Access, Coming, Ignores, Answers, Runs, Enters, coming}
use Rattle.world_model.specs.declared.refusal.Refusal.{Refusal}
use Rattle.world_model.specs.Texts.{Entry, Drops, Frames}
use Rattle.world_model.specs.World.{World, Node, Lined, lac_at, retold, answer_entries, replies, enters, comes, comes_by, framed, stepped}
use Rattle.step_laws.specs.Hosts.{LacAt, with_host, entering, reply_to, HostDoes, host_does}
use Rattle.step_laws.specs.Lines.{is_lac_at, IsAt, is_at}
use Rattle.frame_laws.specs.Frames.{IsNoDatagram}

-- what is to be shown of it; a step that a stop cuts off answers no host
pub record OfFrame (P : Lined → Type 0) (w : World) (number n : ℕ) (bytes : List ℕ) : Type 1 where
  pub ignored : (l : LacAt w n) (word : Why) → coming l.access l.node.end bytes ≡ Ignores word → (x : Lined)
      → stepped w number n (event.Frame bytes) None (Ok l.node) ≡ Ok x → x.cut ≡ false → P (record x { entries = Drops number n word ∷ [] })
  pub answered : (l : LacAt w n) (because : Option Cause) (frame : List ℕ) → coming l.access l.node.end bytes ≡ Answers because frame
      → (x : Lined) → stepped w number n (event.Frame bytes) None (Ok l.node) ≡ Ok x → x.cut ≡ false
      → P (record x { entries = answer_entries number n because frame })
  pub done : (l : LacAt w n) (ev : Event) → coming l.access l.node.end bytes ≡ Runs ev → HostDoes l.access l.node.end bytes ev
      → (x : Lined) → stepped w number n ev None (Ok l.node) ≡ Ok x → P x
  pub entered : (l : LacAt w n) (src : List ℕ) (uniq : Option (List ℕ)) (asked : Discovered)
      → coming l.access l.node.end bytes ≡ Enters src uniq asked
      → (x : Lined) → stepped w number n (event.Admitted src) None (Ok (with_host w number n l src uniq)) ≡ Ok x → x.cut ≡ false
      → P (record x { entries = x.entries ++ Frames number n (reply_to w number n l src asked) ∷ [] })
  pub cut : (l : LacAt w n) (ev : Event) (node : Node) → IsAt w n node → node.up ≡ true → IsNoDatagram ev → (x : Lined)
      → stepped w number n ev None (Ok node) ≡ Ok x → x.cut ≡ true → P x

module _ (P : Lined → Type 0) (w : World) (number n : ℕ) (bytes : List ℕ) (of : OfFrame P w number n bytes) (x : Lined) where
  abbrev led : Lined → Result Lined Refusal
  led y = Ok y

  -- a line whose step was cut off is as it is
  uncut : (y z : Lined) → (y.cut ≡ false → P z) → (y.cut ≡ true → P y) → led (if y.cut then y else z) ≡ led x → P x
  uncut y z whole off h = by y.cut refl h
    where
      by : (b : Bool) → y.cut ≡ b → led (if b then y else z) ≡ led x → P x
      by true is h = let e : y ≡ x = cc in subst P e (off is)
      by false is h = let e : z ≡ x = cc in subst P e (whole is)

  replied : (reply : List ℕ) (r : Result Lined Refusal)
      → ((y : Lined) → r ≡ Ok y → y.cut ≡ false → P (record y { entries = y.entries ++ Frames number n reply ∷ [] }))
      → ((y : Lined) → r ≡ Ok y → y.cut ≡ true → P y) → replies number n reply r ≡ Ok x → P x
  replied reply (Err e) f g h = absurd cc
  replied reply (Ok y) f g h = uncut y (record y { entries = y.entries ++ Frames number n reply ∷ [] }) (f y refl) (g y refl) h

  told_again : (es : List Entry) (r : Result Lined Refusal) → ((y : Lined) → r ≡ Ok y → y.cut ≡ false → P (record y { entries = es }))
      → ((y : Lined) → r ≡ Ok y → y.cut ≡ true → P y) → retold es r ≡ Ok x → P x
  told_again es (Err e) f g h = absurd cc
  told_again es (Ok y) f g h = uncut y (record y { entries = es }) (f y refl) (g y refl) h

  by_coming : (l : LacAt w n) (c : Coming) → coming l.access l.node.end bytes ≡ c → comes w number n bytes l.node l.access c ≡ Ok x → P x
  unfolding comes enters
  by_coming l (Ignores word) is h =
      told_again (Drops number n word ∷ []) (stepped w number n (event.Frame bytes) None (Ok l.node)) (λ y e u. of.ignored l word is y e u)
      (λ y e c. of.cut l (event.Frame bytes) l.node (is_at w n l.node l.there) l.up tt y e c) h
  by_coming l (Answers because frame) is h =
      told_again (answer_entries number n because frame) (stepped w number n (event.Frame bytes) None (Ok l.node))
      (λ y e u. of.answered l because frame is y e u)
      (λ y e c. of.cut l (event.Frame bytes) l.node (is_at w n l.node l.there) l.up tt y e c) h
  by_coming l (Runs ev) is h = of.done l ev is (host_does l.access l.node.end bytes ev is) x h
  by_coming l (Enters src uniq asked) is h =
      replied (reply_to w number n l src asked) (stepped w number n (event.Admitted src) None (Ok (with_host w number n l src uniq)))
      (λ y e u. of.entered l src uniq asked is y e u)
      (λ y e c. of.cut l (event.Admitted src) (with_host w number n l src uniq)
      (entering w number n l src uniq (with_host w number n l src uniq) refl) l.up tt y e c) h

  by_access : (node : Node) → at w.nodes n ≡ Some node → node.end.role ≡ Lac → node.up ≡ true → (o : Option Access) → node.access ≡ o
      → comes_by w number n bytes node o ≡ Ok x → P x
  unfolding comes_by
  by_access node there lac up None keeps h = absurd cc
  by_access node there lac up (Some a) keeps h =
      by_coming (record { node = node; access = a; there = there; lac = lac; up = up; keeps = keeps }) (coming a node.end bytes) refl h

  by_node : (r : Result Node Why) → lac_at (at w.nodes n) ≡ r → framed w number n bytes r ≡ Ok x → P x
  unfolding framed
  by_node (Err y) is h = absurd cc
  by_node (Ok node) is h = let l = is_lac_at (at w.nodes n) node is in by_access node l.0 l.1 l.2 node.access refl h

  pub frame_line : framed w number n bytes (lac_at (at w.nodes n)) ≡ Ok x → P x
  frame_line h = by_node (lac_at (at w.nodes n)) refl h
