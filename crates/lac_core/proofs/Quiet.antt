-- What changes nothing of a LAC leaves no record.
use Rattle.std.proofs.Common.{◌≡◌, ℕ, List, [], Option, ap, sym}
use Rattle.step_records.specs.Leaving.{leaves}
use Rattle.end_model.specs.declared.out.Out.{Out}
use Rattle.end_model.specs.Access.{Concentrator, as_it_was}
use Rattle.end_model.specs.Contents.{contents_of}
use Rattle.end_model.specs.End.{drawing_of}
use Rattle.lac_core.specs.Gives.{end_step}

pub quiet_records : (l k : Concentrator) (outputs : List Out) (reply : Option (List ℕ)) → k ≡ l
    → contents_of l.end (end_step (as_it_was l outputs reply)) ≡ leaves (drawing_of k.end) (drawing_of k.end) []
unfolding contents_of
quiet_records l k outputs reply same = ap (λ (c : Concentrator). leaves (drawing_of c.end) (drawing_of c.end) []) (sym same)
