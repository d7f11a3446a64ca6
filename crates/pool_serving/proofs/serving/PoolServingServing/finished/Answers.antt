use Rattle.std.proofs.Common.{Bool, true, false, refl, ap, sym, subst, ◌∙◌}
use Rattle.pool_turns.proofs.Drawing.{draws_none}
use Rattle.session_cells.specs.Tokens.{log_of}
use Rattle.pool_serving.specs.Faults.{told_by, has_stopped, OnCalm}
use Rattle.pool_serving.proofs.Giving.{hands_more}
use Rattle.pool_serving.specs.Handing.{HandsOver}
use Rattle.pool_serving.proofs.Passes.{told_same}
use Rattle.pool_serving.proofs.Served.{not_port, calm_then, serves_on, serves_then}
use Rattle.pool_serving.proofs.serving.PoolServingServing.finished.Goals as goal

pub returns-then-is_cut_off-clause-serves : goal.returns-then-is_cut_off-clause-serves
returns-then-is_cut_off-clause-serves g c = λ s h. serves_on g.P.Ports.around g.P.Ports.counts s c.args.self.now _ h refl refl refl refl (told_same _ _ (ap (λ d. d.hosts) c.count.ensures)) (ap (λ d. d.puts) c.count.ensures) (draws_none _) refl refl

pub returns-clause-serves : goal.returns-clause-serves
returns-clause-serves g c = λ s h.
    let t = c.take_back-outcome in
    serves_then g.P.Ports.around g.P.Ports.counts s c.args.self.now _ h refl refl refl refl t.ensures.told t.ensures.puts t.ensures.grows t.result (not_port c.args.self.now.fault (sym c.is_cut_off.ensures ∙ c.if-is_cut_off.false)) c.fault_then-self.ensures t.ensures.cause

pub returns-clause-handed : goal.returns-clause-handed
returns-clause-handed g c =
    let t = c.take_back-outcome in
    let a = g.P.Ports.around in
    let n = not_port c.args.self.now.fault (sym c.is_cut_off.ensures ∙ c.if-is_cut_off.false) in
    let old = a c.args.self.now.ports.now in
    let new = a t.new.ports in
    let f = c.args.finished in
    let h : Bool → Type 0 = λ stopped. HandsOver stopped t.new.self.hosts t.new.pass f old new in
    let more : h false → h true = hands_more t.new.self.hosts (log_of t.new.pass.pass.seen) f.item.bytes f.done old new in
    subst (λ fault. OnCalm (told_by fault) (h (has_stopped (told_by fault)))) (sym c.fault_then-self.ensures)
    (calm_then h more c.args.self.now.fault t.result n t.ensures.handed)
