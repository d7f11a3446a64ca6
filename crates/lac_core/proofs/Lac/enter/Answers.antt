use Rattle.std.proofs.Common.{rules, ◌≡◌, Some, None, sym, subst}
use Rattle.end_model.specs.declared.event.Event.TheVariants as events
use Rattle.end_model.specs.End.{step}
use Rattle.end_names.specs.Names.{mac_of}
use Rattle.end_core.specs.Sessions.{next_session}
use Rattle.lac_core.specs.Gives.{GivesServed, CommitsServed}
use Rattle.lac_core.proofs.Entering.{admits_with, admits_without}
use Rattle.lac_core.proofs.Lac.enter.Goals as goal

pub returns-in_default-clause-given : goal.returns-in_default-clause-given
returns-in_default-clause-given g c =
    let l = c.args.self.now in
    let s = step l.end c.args.moment c.args.block (events.Admitted c.args.src) in
    let own : c.mac_of-mac.result ≡ mac_of l.end.config.number = search rules in
    let next : next_session l.end.session_ids ≡ None = search rules in
    subst (λ x. GivesServed c.ring_without.result x l c.ring_without.new.self)
    (sym (admits_without l c.args.src c.args.uniq.now c.args.asked.now s c.in_ok-refusals.refusals c.mac_of-mac.result own c.in_ok-refusals.ensures next))
    c.ring_without.ensures.given

pub returns-in_default-clause-committed : goal.returns-in_default-clause-committed
returns-in_default-clause-committed g c =
    let l = c.args.self.now in
    let s = step l.end c.args.moment c.args.block (events.Admitted c.args.src) in
    let own : c.mac_of-mac.result ≡ mac_of l.end.config.number = search rules in
    let next : next_session l.end.session_ids ≡ None = search rules in
    subst (λ x. CommitsServed g.L.Ledger.commits_to c.ring_without.result x l c.args.ledger.now c.ring_without.new.ledger)
    (sym (admits_without l c.args.src c.args.uniq.now c.args.asked.now s c.in_ok-refusals.refusals c.mac_of-mac.result own c.in_ok-refusals.ensures next))
    c.ring_without.ensures.committed

pub returns-clause-given : goal.returns-clause-given
returns-clause-given g c =
    let l = c.args.self.now in
    let s = step l.end c.args.moment c.args.block (events.Admitted c.args.src) in
    let own : c.mac_of-mac.result ≡ mac_of l.end.config.number = search rules in
    let next : next_session l.end.session_ids ≡ Some c.in-Some.session = search rules in
    subst (λ x. GivesServed c.ring_with.result x l c.ring_with.new.self)
    (sym (admits_with l c.args.src c.args.uniq.now c.args.asked.now s c.in_ok-refusals.refusals c.mac_of-mac.result own c.in_ok-refusals.ensures c.in-Some.session c.in_ok-pads.pads next c.in_ok-pads.ensures))
    c.ring_with.ensures.given

pub returns-clause-committed : goal.returns-clause-committed
returns-clause-committed g c =
    let l = c.args.self.now in
    let s = step l.end c.args.moment c.args.block (events.Admitted c.args.src) in
    let own : c.mac_of-mac.result ≡ mac_of l.end.config.number = search rules in
    let next : next_session l.end.session_ids ≡ Some c.in-Some.session = search rules in
    subst (λ x. CommitsServed g.L.Ledger.commits_to c.ring_with.result x l c.args.ledger.now c.ring_with.new.ledger)
    (sym (admits_with l c.args.src c.args.uniq.now c.args.asked.now s c.in_ok-refusals.refusals c.mac_of-mac.result own c.in_ok-refusals.ensures c.in-Some.session c.in_ok-pads.pads next c.in_ok-pads.ensures))
    c.ring_with.ensures.committed
