use Rattle.std.proofs.Common.{◌≡◌, List, [], ◌∷◌, ◌++◌, ◌+◌, map, take, sym, ap, ◌∙◌}
use Rattle.std.proofs.lemmas.List.{map-append, take_more}
use Rattle.clap.specs.Words.{App, Rule, with_rule, rule_of as clap_rule}
use Rattle.command_words.specs.Commands.{command_of, rule_of}
use Rattle.command_words.proofs.command.command.Goals as goal

pub loop-argument-preserved : goal.loop-argument-preserved
loop-argument-preserved c =
    let name = c.args.name.now in
    let all = c.args.arguments.now in
    let place = c.loop-argument.argument-index in
    let before = map rule_of (take place all) in
    c.in_ok-command.ensures.shape c.argument_of.ensures.own
    ∙ ap (λ (app : App). with_rule app (clap_rule c.argument_of.result)) c.loop-argument.invariant
    ∙ ap (λ (rule : Rule). command_of name (before ++ rule ∷ [])) c.argument_of.ensures.rule
    ∙ ap (command_of name)
    (sym (ap (map rule_of) (take_more all place _ c.loop-argument-test.true) ∙ map-append rule_of (take place all) _))
