use Rattle.std.proofs.Common.{◌≡◌, [], ap, ◌∙◌, map}
use Rattle.std.proofs.lemmas.Result.{IfOk-weaker}
use Rattle.std.specs.Option.{unwrap_or}
use Rattle.clap.specs.Words.{found_of}
use Rattle.clap.proofs.WalkLemmas.{raw_values-rows}
use Rattle.command_words.proofs.command.values.Goals as goal

pub returns-in-Some : goal.returns-in-Some
returns-in-Some c =
    let rows = raw_values-rows (found_of c.args.matches.now) c.args.name.now in
    IfOk-weaker c.texts.result _ _
    (λ texts same. same ∙ ap (λ found. unwrap_or found []) (c.in-Some.ensures ∙ rows)) c.texts.ensures

pub returns-in-None : goal.returns-in-None
returns-in-None c =
    let rows = raw_values-rows (found_of c.args.matches.now) c.args.name.now in
    ap (map (λ text. text.now)) c.new.ensures.items ∙ ap (λ found. unwrap_or found []) (c.in-None.ensures ∙ rows)
