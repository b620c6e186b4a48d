use Rattle.std.proofs.Common.{◌≡◌, true, rules, tests}
use Rattle.mc_text.proofs.Lone.{passes_lone}
use Rattle.mc_text.proofs.first.pass_line.Goals as goal

pub returns : goal.returns
returns c =
    let lone : c.is_lone.result ≡ true = search (rules, tests) in
    passes_lone c.args.text.now c.in_ok-behind.field-0-0.now c.in_ok-behind.behind.now c.in_ok-first.field-0.now
    c.in_ok-behind.ensures c.in_ok-first.ensures.value (c.is_lone.ensures lone)
