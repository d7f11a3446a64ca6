-- The world takes the first lines.
use Rattle.std.proofs.Common.{◌≡◌, List, [], ◌∷◌, Some, None, false, refl, ap, ◌∙◌}
use Rattle.id_table.specs.Ids.{at, put}
use Rattle.schedule_text.specs.declared.line.Line.{Line}
use Rattle.schedule_text.specs.declared.line.Line.TheVariants.{Lac, Lns, OpenUp}
use Rattle.world_model.specs.World.{line, added}
use Rattle.world_model.specs.Run.{run_from, goes_on}
use Rattle.schedule_making.specs.Making.{settled, with_line, opening}
use Rattle.schedule_making.proofs.Computing.{computing}

first : settled [] (Some (Lns 2 None)) ≡ Lns 2 None
unfolding settled line added run_from goes_on at put
first = refl

second : settled (Lns 2 None ∷ []) (Some (Lac 1 2 None false)) ≡ Lac 1 2 None false
unfolding settled line added run_from goes_on at put
second = refl

third : settled (Lns 2 None ∷ Lac 1 2 None false ∷ []) (Some (OpenUp 1)) ≡ OpenUp 1
unfolding settled computing
third = refl

abbrev pub one : List Line
one = with_line [] (Some (Lns 2 None))

abbrev pub two : List Line
two = with_line one (Some (Lac 1 2 None false))

one_is : one ≡ Lns 2 None ∷ []
one_is = ap (λ (l : Line). l ∷ []) first

two_is : two ≡ Lns 2 None ∷ Lac 1 2 None false ∷ []
two_is = ap (λ (ls : List Line). with_line ls (Some (Lac 1 2 None false))) one_is ∙ ap (λ (l : Line). Lns 2 None ∷ l ∷ []) second

pub opening_is : with_line (with_line (with_line [] (Some (Lns 2 None))) (Some (Lac 1 2 None false))) (Some (OpenUp 1)) ≡ opening
opening_is = ap (λ (ls : List Line). with_line ls (Some (OpenUp 1))) two_is ∙ ap (λ (l : Line). Lns 2 None ∷ Lac 1 2 None false ∷ l ∷ []) third
