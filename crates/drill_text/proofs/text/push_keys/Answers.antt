use Rattle.std.proofs.Common.{◌≡◌, ℕ, ◌++◌, ap, ◌∙◌, arith}
use Rattle.std.specs.List.{flat_map}
use Rattle.drill_text.specs.Drill.{below, keys}
use Rattle.drill_text.specs.Sums.{line_in}
use Rattle.drill_text.proofs.Parts.{one_more}
use Rattle.drill_text.proofs.Sizes.{keys_are}
use Rattle.drill_text.proofs.text.push_keys.Goals as goal

pub loop-key-preserved : goal.loop-key-preserved
loop-key-preserved c =
    one_more (line_in c.args.store.now) c.args.text.now.items c.loop-key.text.items c.push_key.new.text.items c.loop-key.key
    c.loop-key.invariant c.in_ok-push_key.ensures

pub returns : goal.returns
returns c =
    let all : c.loop-key.key ≡ keys = omega (arith, keys_are) in
    c.loop-key.invariant ∙ ap (λ (n : ℕ). c.args.text.now.items ++ flat_map (line_in c.args.store.now) (below n)) all
