use Rattle.std.proofs.Common.{rules, not, ◌==◌, ◌<◌}
use Rattle.std.proofs.lemmas.List.Kept.{AllPairs-filter}
use Rattle.std.proofs.lemmas.Fn.{filter_same}
use Rattle.session_book.proofs.book.retain_calls.Goals as goal

pub returns-clause-items : goal.returns-clause-items
returns-clause-items c = filter_same _ _ _ (λ x b f' k. search rules) _ _ c.retain.ensures.filtered

pub returns-clause-in_order : goal.returns-clause-in_order
returns-clause-in_order x =
    rw (returns-clause-items x) (AllPairs-filter (λ x y. x.local < y.local) (λ c. not (c.tunnel == x.args.tunnel)) _ x.requires)
