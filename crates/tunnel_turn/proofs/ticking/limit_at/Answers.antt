use Rattle.std.proofs.Common.{◌≡◌, ℕ, ◌<◌, List, Option, Some, None, refl, arith, sym}
use Rattle.std.specs.Option.{option_copied}
use Rattle.wire_base.specs.declared.letter.Letter.{Letter}
use Rattle.end_names.specs.declared.role.Role.{Role}
use Rattle.end_model.specs.declared.tunnel.Call.{Call}
use Rattle.call_link.specs.Link.{Link}
use Rattle.end_model.specs.Tunnels.{Turn}
use Rattle.end_model.specs.Ticking.{limits_at}
use Rattle.end_model.specs.Linking.{ticks_link}
use Rattle.tunnel_turn.proofs.ticking.limit_at.Goals as goal

-- an id of more than 16 bits is no session: nothing is done for it
no_timer : (role : Role) (letters : List Letter) (s : ℕ) (c : Call) (l : Option Link) (t : Turn) → (s < 65536 → ⊥) → ticks_link role letters s c l t ≡ t
unfolding ticks_link
no_timer role letters s c None t far = refl
no_timer role letters s c (Some l) t far = grind arith

no_limit : (role : Role) (letters : List Letter) (s : ℕ) (c : Option Call) (t : Turn) → (s < 65536 → ⊥) → limits_at role letters s c t ≡ t
unfolding limits_at
no_limit role letters s None t far = refl
no_limit role letters s (Some c) t far =
    let h = no_timer role letters s c c.link t far in grind (arith, h)

pub returns-in_default-try_from : goal.returns-in_default-try_from
returns-in_default-try_from c =
    sym (no_limit c.args.role c.args.letters.now.letters c.args.id (option_copied c.args.call) c.args.turn.now c.in_default-try_from.ensures)
