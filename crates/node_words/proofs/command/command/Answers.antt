use Rattle.std.proofs.Common.{◌≡◌, ap, ◌∙◌, codes}
use Rattle.clap.specs.Words.{App, app_of, with_rule}
use Rattle.clap.specs.Simple.{app_of_fields, on_top}
use Rattle.std.proofs.Common.{true}
use Rattle.node_words.specs.Options.{option_rule, flag_rule, empty_app, plan_app}
use Rattle.node_words.proofs.command.command.Goals as goal

pub returns : goal.returns
unfolding plan_app
returns c =
    let e0 : app_of c.disable_help_flag-command.result ≡ empty_app = ap app_of_fields c.disable_help_flag-command.ensures ∙ ap (on_top (λ s. record s { disable_help_flag = true })) c.new.ensures.app in
    let e1 = c.in_ok-command.ensures ∙ ap (λ (a : App). with_rule a (option_rule (codes "role"))) e0 in
    let e2 = c.in_ok-command-2.ensures ∙ ap (λ (a : App). with_rule a (option_rule (codes "number"))) e1 in
    let e3 = c.in_ok-command-3.ensures ∙ ap (λ (a : App). with_rule a (option_rule (codes "listen"))) e2 in
    let e4 = c.in_ok-command-4.ensures ∙ ap (λ (a : App). with_rule a (option_rule (codes "peer"))) e3 in
    let e5 = c.in_ok-command-5.ensures ∙ ap (λ (a : App). with_rule a (option_rule (codes "store"))) e4 in
    let e6 = c.in_ok-command-6.ensures ∙ ap (λ (a : App). with_rule a (option_rule (codes "turns"))) e5 in
    let e7 = c.in_ok-command-7.ensures ∙ ap (λ (a : App). with_rule a (option_rule (codes "secret"))) e6 in
    let e8 = c.in_ok-command-8.ensures ∙ ap (λ (a : App). with_rule a (option_rule (codes "port"))) e7 in
    let e9 = c.in_ok-command-9.ensures ∙ ap (λ (a : App). with_rule a (option_rule (codes "ether"))) e8 in
    let e10 = c.in_ok-command-10.ensures ∙ ap (λ (a : App). with_rule a (option_rule (codes "uplink"))) e9 in
    let e11 = c.in_ok-command-11.ensures ∙ ap (λ (a : App). with_rule a (option_rule (codes "seed"))) e10 in
    let e12 = c.in_ok-command-12.ensures ∙ ap (λ (a : App). with_rule a (option_rule (codes "workers"))) e11 in
    let e13 = c.in_ok-command-13.ensures ∙ ap (λ (a : App). with_rule a (flag_rule (codes "hide"))) e12 in
    let e14 = c.in_ok-command-14.ensures ∙ ap (λ (a : App). with_rule a (flag_rule (codes "open"))) e13 in
    e14
