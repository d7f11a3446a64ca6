use Rattle.std.proofs.Common.{◌≡◌, ◌∙◌, subst, IfOk}
use Rattle.id_table.specs.Tables.{Kept}
use Rattle.end_model.specs.declared.tunnel.Call.{Call}
use Rattle.end_model.specs.Calls.{sessions_of}
use Rattle.tunnel_calls.proofs.ById.{pairs_told}
use Rattle.tunnel_calls.proofs.TunnelCalls.established.Goals as goal

pub returns : goal.returns
returns c =
    subst (λ (k : Kept Call). IfOk c.pairs_at.result (λ pairs. pairs ≡ sessions_of k.entries)) c.self.view_is
    (pairs_told c.self.inside.table.entries _ c.pairs_at.result c.self.invariant.0 (c.as_slice.ensures ∙ c.in_ok-sessions.ensures.all) c.pairs_at.ensures)
