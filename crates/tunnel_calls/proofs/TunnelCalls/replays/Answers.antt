use Rattle.std.proofs.Common.{subst}
use Rattle.id_table.specs.Tables.{Kept}
use Rattle.end_model.specs.declared.tunnel.Call.{Call}
use Rattle.tunnel_calls.specs.Telling.{RowsLead}
use Rattle.tunnel_calls.proofs.ById.{rows_lead}
use Rattle.tunnel_calls.proofs.TunnelCalls.replays.Goals as goal

pub returns : goal.returns
returns c = subst (λ (k : Kept Call). RowsLead k.entries) c.self.view_is (rows_lead c.self.inside.table.entries c.self.invariant.0 c.self.invariant.5)
