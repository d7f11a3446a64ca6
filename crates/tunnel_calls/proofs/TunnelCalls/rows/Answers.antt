use Rattle.std.proofs.Common.{◌≡◌, ◌∙◌, subst, IfOk}
use Rattle.id_table.specs.Tables.{Kept}
use Rattle.end_model.specs.declared.tunnel.Call.{Call}
use Rattle.tunnel_calls.specs.Telling.{rows_of}
use Rattle.tunnel_calls.proofs.ById.{rows_told}
use Rattle.tunnel_calls.proofs.TunnelCalls.rows.Goals as goal

pub returns : goal.returns
returns c =
    subst (λ (k : Kept Call). IfOk c.rows_at.result (λ rows. rows ≡ rows_of k.entries)) c.self.view_is
    (rows_told c.self.inside.table.entries _ c.rows_at.result c.self.invariant.0 (c.as_slice.ensures ∙ c.in_ok-sessions.ensures.all) c.rows_at.ensures)
