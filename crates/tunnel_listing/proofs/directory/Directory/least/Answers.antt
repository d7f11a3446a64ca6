use Rattle.std.proofs.Common.{◌≡◌, sym, subst, ◌∙◌}
use Rattle.id_table.specs.Ids.{ids_of}
use Rattle.tunnel_listing.specs.Listed.{first_of}
use Rattle.tunnel_listing.proofs.Finding.{least_is}
use Rattle.tunnel_listing.specs.Directory.{Directory, listed_at}
use Rattle.tunnel_listing.proofs.Standing.{found_first}
use Rattle.tunnel_listing.proofs.directory.Directory.least.Goals as goal

pub returns-in-Some-clause-found : goal.returns-in-Some-clause-found
returns-in-Some-clause-found c =
    sym
    (subst (λ (d : Directory). first_of c.args.wanted (λ i. listed_at d.places.entries i) (ids_of d.places.entries) ≡ c.in-Some.found)
    c.self.view_is
    (found_first c.self.inside.indexes c.args.wanted c.self.inside.entries.entries c.in-Some.found c.self.invariant
    (c.in-Some.ensures (λ i. listed_at c.self.inside.entries.entries i) c.self.invariant.0)))

pub returns-in-Some-clause-end : goal.returns-in-Some-clause-end
returns-in-Some-clause-end c = λ ts listed.
    least_is c.args.wanted (λ i. listed_at c.args.self.now.places.entries i) (ids_of c.args.self.now.places.entries) ts listed
    ∙ sym (returns-in-Some-clause-found c)

pub returns-in-None-clause-found : goal.returns-in-None-clause-found
returns-in-None-clause-found c =
    sym
    (subst
    (λ (d : Directory). first_of c.args.wanted (λ i. listed_at d.places.entries i) (ids_of d.places.entries) ≡ c.look_through.result)
    c.self.view_is
    (found_first c.self.inside.indexes c.args.wanted c.self.inside.entries.entries c.look_through.result c.self.invariant
    c.look_through.ensures))

pub returns-in-None-clause-end : goal.returns-in-None-clause-end
returns-in-None-clause-end c = λ ts listed.
    least_is c.args.wanted (λ i. listed_at c.args.self.now.places.entries i) (ids_of c.args.self.now.places.entries) ts listed
    ∙ sym (returns-in-None-clause-found c)
