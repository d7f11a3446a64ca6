-- A log has what it had, and maybe more behind it.
use Rattle.std.proofs.Common.{inl, inr, ℕ, List, [], ◌++◌, sym, ap, subst, ◌∙◌}
use Rattle.std.specs.Prelude.{Option, Some, None, take}
use Rattle.std.specs.Io.KnownBytes.{Appends}
use Rattle.std.proofs.lemmas.List.{append-nil, append_assoc}
use Rattle.rand_core.specs.Stream.{Stream, fill_bytes}
use Rattle.disk_core.specs.Disk.{Held}
use Rattle.port_events.specs.declared.end.Event.{Event as Waiting}
use Rattle.port_events.specs.declared.end.Out.{Out}
use Rattle.port_events.specs.declared.giving.TurnFault.{TurnFault}
use Rattle.port_events.specs.Feeding.{Ends}
use Rattle.node_run.specs.declared.end.NodeStop.{NodeStop}
use Rattle.node_run.specs.declared.end.NodeStop.TheVariants.{Store, Unsent}
use Rattle.node_run.specs.Events.{event_of}
use Rattle.node_run.specs.Logs.{Sunk, Takes, Noted, lost_text, Grows}
use Rattle.node_run.specs.Steps.{Running, lines_of, HaltNoted, NodeSteps, NodeStops}

appends_nothing : (xs : Option (List ℕ)) → Appends xs xs []
appends_nothing None = tt
appends_nothing (Some xs) = sym (append-nil xs)

appends_then : (xs ys zs : Option (List ℕ)) (a b : List ℕ) → Appends xs ys a → Appends ys zs b → Appends xs zs (a ++ b)
appends_then None ys zs a b h k = tt
appends_then (Some xs) None zs a b h k = absurd h
appends_then (Some xs) (Some ys) None a b h k = absurd k
appends_then (Some xs) (Some ys) (Some zs) a b h k = k ∙ (ap (λ (l : List ℕ). l ++ b) h ∙ append_assoc xs a b)

pub grows_same : (s : Sunk) → Grows s s
grows_same s = ([], appends_nothing s.taken)

pub grows_then : (s t u : Sunk) → Grows s t → Grows t u → Grows s u
grows_then s t u a b = (a.0 ++ b.0, appends_then s.taken t.taken u.taken a.0 b.0 a.1 b.1)

taken_grows : (text : List ℕ) (s t : Sunk) → Takes text s t → Grows s t
taken_grows text s t (inl h) = (text, h.1)
taken_grows text s t (inr h) = (take h.1.0 text, h.1.1)

pub noted_grows : (lines : List ℕ) (s t : Sunk) → Noted lines s t → Grows s t
noted_grows lines s t (inl h) = taken_grows lines s t h.takes
noted_grows lines s t (inr h) = taken_grows lost_text s t h.1.takes

halt_grows : (stop : NodeStop) (lines : List ℕ) (s t : Sunk) → HaltNoted stop lines s t → Grows s t
halt_grows (Store stop) lines s t h = subst (Grows s) (sym h) (grows_same s)
halt_grows Unsent lines s t h = noted_grows lines s t h

module _ {D : Type 0} (holds : D → Option Held) (reach calls_left count : D → ℕ) where
  abbrev pub LogGrows : Running D → Running D → Type 0
  LogGrows x y = Grows x.log y.log

  pub log_same : (x : Running D) → LogGrows x x
  log_same x = grows_same x.log

  pub log_then : (x y z : Running D) → LogGrows x y → LogGrows y z → LogGrows x z
  log_then x y z a b = grows_then x.log y.log z.log a b

  pub log_one : (x y : Running D) (now : ℕ) (block : List ℕ) (e : Waiting) (outs : List Out) → NodeSteps holds reach calls_left count x now block e outs y → LogGrows x y
  log_one x y now block e outs h = noted_grows (lines_of x.end now block (event_of e)) x.log y.log h.noted

  pub log_ends : (fault : TurnFault NodeStop) (now : ℕ) (s : Stream) (x y : Running D) (last : Option Waiting) (part : List Out)
      → Ends (NodeSteps holds reach calls_left count) (NodeStops holds reach calls_left count) now fault s x y last part → LogGrows x y
  log_ends fault now s x y None part h = subst (LogGrows x) (sym h.0) (log_same x)
  log_ends fault now s x y (Some e) part (inl h) = log_one x y now (fill_bytes 16 s).0 e h.outs h.made
  log_ends fault now s x y (Some e) part (inr h) = halt_grows h.stop (lines_of x.end now (fill_bytes 16 s).0 (event_of e)) x.log y.log h.why.noted
