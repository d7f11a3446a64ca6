use Rattle.std.proofs.Common.{rules, ◌≡◌, ap, subst, ◌∙◌, sym, map, inl, inr, string_bytes, []}
use Rattle.clap.specs.Words.{App, app_of, fault_of, matches_of, is_simple, is_simple_and_free, HasKind}
use Rattle.node_words.proofs.Simple.{plan_is_simple, plan_is_free}
use Rattle.node_words.proofs.command.parse.Goals as goal

pub returns-in-Ok-clause-taken : goal.returns-in-Ok-clause-taken
returns-in-Ok-clause-taken c =
    let app = c.in_ok-command.ensures in
    ap (λ (a : App). fault_of a (map string_bytes c.args.words.now)) (sym app) ∙ c.in-Ok.ensures.kinds (ap is_simple_and_free app ∙ plan_is_free)

pub returns-in-Ok-clause-matches : goal.returns-in-Ok-clause-matches
returns-in-Ok-clause-matches c =
    let app = c.in_ok-command.ensures in
    (c.in-Ok.ensures.matches (ap is_simple app ∙ plan_is_simple)).0 ∙ ap (λ (a : App). matches_of a (map string_bytes c.args.words.now)) app

pub returns-clause-usage : goal.returns-clause-usage
returns-clause-usage c _ none =
    let app = c.in_ok-command.ensures in
    let kinds = c.in-Err-2.ensures.kinds (ap is_simple_and_free app ∙ plan_is_free) in
    let nothing : fault_of (app_of c.in_ok-command.command) (map string_bytes c.args.words.now) ≡ [] = ap (λ (a : App). fault_of a (map string_bytes c.args.words.now)) app ∙ none in
    let now = subst (λ k. HasKind k c.in-Err-2.field-0) nothing kinds in
    elim now [
      | inl memory ↦ search (rules, memory)
      | inr among ↦ absurd among
    ]
