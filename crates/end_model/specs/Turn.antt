-- What a turn gives, and how it changes calls.
use Rattle.std.specs.Prelude.{ℕ, List, [], ◌∷◌, ◌++◌, Some, None}
use Rattle.id_source.specs.Spaces.{after_id}
use Rattle.wire_base.specs.declared.why.Why.{Why}
use Rattle.end_model.specs.declared.tunnel.Call.{Call}
use Rattle.session_looks.specs.declared.look.CellChange.{CellChange}
use Rattle.session_looks.specs.declared.look.CellChange.TheVariants as cell
use Rattle.end_model.specs.declared.out.Out.{Out}
use Rattle.end_model.specs.declared.out.Out.TheVariants.{Gone, Drop}
use Rattle.end_model.specs.declared.moves.Move.{Move}
use Rattle.end_model.specs.Tunnels.{Env, Turn}

-- what a turn gave, behind what was there
unfoldable pub with_turn : Turn → Env → Env
with_turn t e = record e {
  ids = t.ids;
  outputs = e.outputs ++ t.outputs;
  changes = e.changes ++ t.changes;
  moves = e.moves ++ t.moves;
}

unfoldable pub with_output : Out → Turn → Turn
with_output o t = record t { outputs = t.outputs ++ o ∷ [] }

unfoldable pub with_move : Move → Turn → Turn
with_move m t = record t { moves = t.moves ++ m ∷ [] }

unfoldable pub with_change : CellChange → Turn → Turn
with_change c t = record t { changes = t.changes ++ c ∷ [] }

unfoldable pub with_looks_of : List CellChange → Turn → Turn
with_looks_of cs t = record t { changes = t.changes ++ cs }

unfoldable pub with_call : ℕ → Call → Turn → Turn
with_call s c t = record t { changed = t.changed ++ (s, Some c) ∷ [] }

-- a call that is made
unfoldable pub with_new : ℕ → Call → Turn → Turn
with_new s c t = record t { changed = t.changed ++ (s, Some c) ∷ []; added = t.added ++ s ∷ []; ids = record t.ids { sessions = after_id t.ids.sessions } }

unfoldable pub drops : Why → Turn → Turn
drops w t = with_output (Drop w) t

-- a call ends: it isn't there any more, and its look is dead
unfoldable pub ends_call : ℕ → Turn → Turn
ends_call s t = with_output (Gone s) (with_change (cell.Kill s) (record t { changed = t.changed ++ (s, None) ∷ [] }))

-- each of these calls ends
unfoldable pub ends_all : List ℕ → Turn → Turn
ends_all [] t = t
ends_all (s ∷ ss) t = ends_all ss (ends_call s t)
