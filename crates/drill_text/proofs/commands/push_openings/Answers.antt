use Rattle.std.proofs.Common.{◌≡◌, ℕ, ◌++◌, ap, ◌∙◌, arith}
use Rattle.std.specs.List.{flat_map}
use Rattle.drill_text.specs.Drill.{below, keys, opening}
use Rattle.drill_text.proofs.Parts.{one_more}
use Rattle.drill_text.proofs.Sizes.{keys_are}
use Rattle.drill_text.proofs.commands.push_openings.Goals as goal

pub loop-key-preserved : goal.loop-key-preserved
loop-key-preserved c =
    one_more opening c.args.section.now.items c.loop-key.section.items c.push_opening.new.section.items c.loop-key.key c.loop-key.invariant
    c.in_ok-push_opening.ensures

pub returns : goal.returns
returns c =
    let all : c.loop-key.key ≡ keys = omega (arith, keys_are) in
    c.loop-key.invariant ∙ ap (λ (n : ℕ). c.args.section.now.items ++ flat_map opening (below n)) all
