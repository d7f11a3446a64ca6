-- What shows why a node ends: the disk's count of faults.
use Rattle.std.proofs.Common.{◌≡◌, inl, inr, ℕ, Bool, false, List, Result, Ok, Err, refl, sym, ap, subst, ◌∙◌}
use Rattle.std.specs.Prelude.{⊤, Option, Some, None}
use Rattle.std.proofs.lemmas.Bool.{true≢false}
use Rattle.rand_core.specs.Stream.{Stream, fill_bytes}
use Rattle.wire_base.specs.Causes.{Rose}
use Rattle.disk_core.specs.Disk.{Held}
use Rattle.end_model.specs.declared.event.Event.{Event}
use Rattle.end_store.specs.declared.store.StoreStop.{StoreStop}
use Rattle.end_store.specs.declared.store.StoreStop.TheVariants as stop
use Rattle.end_store.specs.Stored.{Stored}
use Rattle.port_events.specs.declared.end.Event.{Event as Waiting}
use Rattle.port_events.specs.declared.end.Out.{Out}
use Rattle.port_events.specs.declared.end.Out.TheVariants as out
use Rattle.port_events.specs.declared.giving.TurnFault.{TurnFault}
use Rattle.port_events.specs.declared.giving.TurnFault.TheVariants as turn
use Rattle.port_events.specs.Giving.{FailsAt, IsAround, Blames}
use Rattle.port_events.specs.Feeding.{Ends}
use Rattle.node_run.specs.declared.end.NodeEnd.{NodeEnd}
use Rattle.node_run.specs.declared.end.NodeEnd.TheVariants.{Lac, Lns}
use Rattle.node_run.specs.declared.end.NodeStop.{NodeStop}
use Rattle.node_run.specs.declared.end.NodeStop.TheVariants.{Store, Unsent}
use Rattle.node_run.specs.Faults.{faults, NodeBlames, told}
use Rattle.node_run.specs.Events.{event_of}
use Rattle.node_run.specs.Steps.{Running, store_of, Makes, Stays, Halts, NodeSteps, NodeStops}

-- the disk's count rose where the disk failed, and stayed otherwise
abbrev pub DiskCause : TurnFault NodeStop → ℕ → ℕ → Type 0
DiskCause turn.LinkFault old new = new ≡ old
DiskCause turn.EtherFault old new = new ≡ old
DiskCause turn.UplinkFault old new = new ≡ old
DiskCause turn.NoMemory old new = new ≡ old
DiskCause (turn.Stopped Unsent) old new = new ≡ old
DiskCause (turn.Stopped (Store stop.StoreFault)) old new = Rose old new
DiskCause (turn.Stopped (Store stop.Halted)) old new = ⊥
DiskCause (turn.Stopped (Store (stop.StoreFull records))) old new = new ≡ old
DiskCause (turn.Stopped (Store stop.NoMemory)) old new = new ≡ old

abbrev pub is_halted : NodeEnd → Bool
is_halted e = (store_of e).journal.halted

module _ {D : Type 0} (holds : D → Option Held) (reach calls_left count : D → ℕ) where
  -- a step that was made leaves the count and the store's state
  makes_calm : (disk now : D) (moment : ℕ) (block : List ℕ) (ev : Event) (before after : NodeEnd) → Makes holds reach calls_left count disk now moment block ev before after
      → (count now ≡ count disk) × (is_halted before ≡ false → is_halted after ≡ false)
  makes_calm disk now moment block ev (Lac b) (Lac a) h = (h.on_disk.cause.2, λ e. ap (λ (s : Stored). s.journal.halted) h.on_disk.state ∙ e)
  makes_calm disk now moment block ev (Lac b) (Lns a) h = absurd h
  makes_calm disk now moment block ev (Lns b) (Lac a) h = absurd h
  makes_calm disk now moment block ev (Lns b) (Lns a) h = (h.on_disk.cause.2, λ e. ap (λ (s : Stored). s.journal.halted) h.on_disk.state ∙ e)

  stays_cause : (disk now : D) (moment : ℕ) (block : List ℕ) (ev : Event) (s : StoreStop) (before after : NodeEnd) → Stays holds reach calls_left count disk now moment block ev s before after
      → is_halted before ≡ false → DiskCause (turn.Stopped (Store s)) (count disk) (count now)
  stays_cause disk now moment block ev stop.StoreFault (Lac b) (Lac a) h run = h.on_disk.cause.2
  stays_cause disk now moment block ev stop.StoreFault (Lns b) (Lns a) h run = h.on_disk.cause.2
  stays_cause disk now moment block ev stop.Halted (Lac b) (Lac a) h run = true≢false (sym h.on_disk.cause.0 ∙ run)
  stays_cause disk now moment block ev stop.Halted (Lns b) (Lns a) h run = true≢false (sym h.on_disk.cause.0 ∙ run)
  stays_cause disk now moment block ev (stop.StoreFull records) (Lac b) (Lac a) h run = h.on_disk.cause.3
  stays_cause disk now moment block ev (stop.StoreFull records) (Lns b) (Lns a) h run = h.on_disk.cause.3
  stays_cause disk now moment block ev stop.NoMemory (Lac b) (Lac a) h run = h.on_disk.cause.1
  stays_cause disk now moment block ev stop.NoMemory (Lns b) (Lns a) h run = h.on_disk.cause.1
  stays_cause disk now moment block ev s (Lac b) (Lns a) h run = absurd h
  stays_cause disk now moment block ev s (Lns b) (Lac a) h run = absurd h

  halts_cause : (disk now : D) (moment : ℕ) (block : List ℕ) (ev : Event) (s : NodeStop) (before after : NodeEnd) → Halts holds reach calls_left count disk now moment block ev s before after
      → is_halted before ≡ false → DiskCause (turn.Stopped s) (count disk) (count now)
  halts_cause disk now moment block ev Unsent before after h run = (makes_calm disk now moment block ev before after h).0
  halts_cause disk now moment block ev (Store s) before after h run = stays_cause disk now moment block ev s before after h run

  -- from one step to the next
  abbrev pub Calm : Running D → Running D → Type 0
  Calm x y = (count y.disk ≡ count x.disk) × (is_halted x.end ≡ false → is_halted y.end ≡ false)

  pub calm_same : (x : Running D) → Calm x x
  calm_same x = (refl, λ e. e)

  pub calm_then : (x y z : Running D) → Calm x y → Calm y z → Calm x z
  calm_then x y z a b = (b.0 ∙ a.0, λ e. b.1 (a.1 e))

  pub calm_one : (x y : Running D) (now : ℕ) (block : List ℕ) (e : Waiting) (outs : List Out) → NodeSteps holds reach calls_left count x now block e outs y → Calm x y
  calm_one x y now block e outs h = makes_calm x.disk y.disk now block (event_of e) x.end y.end h.makes

  -- up to where a turn ended early
  abbrev pub Caused : TurnFault NodeStop → Running D → Running D → Type 0
  Caused fault x y = is_halted x.end ≡ false → DiskCause fault (count x.disk) (count y.disk)

  pub caused_behind : (fault : TurnFault NodeStop) (x y z : Running D) → Calm x y → Caused fault y z → Caused fault x z
  caused_behind fault x y z a b run = subst (λ (n : ℕ). DiskCause fault n (count z.disk)) a.0 (b (a.1 run))

  around_cause : (fault : TurnFault NodeStop) (old new : ℕ) → IsAround fault → new ≡ old → DiskCause fault old new
  around_cause turn.LinkFault old new h e = e
  around_cause turn.EtherFault old new h e = e
  around_cause turn.UplinkFault old new h e = e
  around_cause turn.NoMemory old new h e = e
  around_cause (turn.Stopped s) old new h e = absurd h

  port_cause : (fault : TurnFault NodeStop) (next : Out) (old new : ℕ) → FailsAt fault next → new ≡ old → DiskCause fault old new
  port_cause fault (out.Send peer bytes) old new h e = subst (λ (f : TurnFault NodeStop). DiskCause f old new) (sym h) e
  port_cause fault (out.Ether bytes) old new h e = subst (λ (f : TurnFault NodeStop). DiskCause f old new) (sym h) e
  port_cause fault (out.Up session frame) old new h e = subst (λ (f : TurnFault NodeStop). DiskCause f old new) (sym h) e
  port_cause fault out.Drop old new h e = absurd h

  pub caused_ends : (fault : TurnFault NodeStop) (now : ℕ) (s : Stream) (x y : Running D) (last : Option Waiting) (part : List Out)
      → Ends (NodeSteps holds reach calls_left count) (NodeStops holds reach calls_left count) now fault s x y last part → Caused fault x y
  caused_ends fault now s x y None part h run = around_cause fault (count x.disk) (count y.disk) h.2 (ap (λ (k : Running D). count k.disk) h.0)
  caused_ends fault now s x y (Some e) part (inl h) run = port_cause fault h.cut.next (count x.disk) (count y.disk) h.cut.fails (calm_one x y now (fill_bytes 16 s).0 e h.outs h.made).0
  caused_ends fault now s x y (Some e) part (inr h) run =
      subst (λ (f : TurnFault NodeStop). DiskCause f (count x.disk) (count y.disk)) (sym h.fault_is)
      (halts_cause x.disk y.disk now (fill_bytes 16 s).0 (event_of e) h.stop x.end y.end h.why.halts run)

-- of an answer
abbrev pub DiskCauses : Result ⊤ (TurnFault NodeStop) → ℕ → ℕ → Type 0
DiskCauses (Ok done) old new = new ≡ old
DiskCauses (Err fault) old new = DiskCause fault old new

-- the counts of all four, where three are as before
module _ (d d' l l' e e' u u' : ℕ) where
  pub blames : (made : Result ⊤ (TurnFault NodeStop)) → Blames l l' e e' u u' made → DiskCauses made d d' → NodeBlames (faults d l e u) (faults d' l' e' u') (told made)
  blames (Ok done) h k = rw (h.0, h.1, h.2, k) refl
  blames (Err turn.LinkFault) h k = (h.0, rw (h.1, h.2, k) refl)
  blames (Err turn.EtherFault) h k = (h.1, rw (h.0, h.2, k) refl)
  blames (Err turn.UplinkFault) h k = (h.2, rw (h.0, h.1, k) refl)
  blames (Err turn.NoMemory) h k = rw (h.0, h.1, h.2, k) refl
  blames (Err (turn.Stopped Unsent)) h k = rw (h.0, h.1, h.2, k) refl
  blames (Err (turn.Stopped (Store stop.StoreFault))) h k = (k, rw (h.0, h.1, h.2) refl)
  blames (Err (turn.Stopped (Store stop.Halted))) h k = absurd k
  blames (Err (turn.Stopped (Store (stop.StoreFull records)))) h k = rw (h.0, h.1, h.2, k) refl
  blames (Err (turn.Stopped (Store stop.NoMemory))) h k = rw (h.0, h.1, h.2, k) refl
