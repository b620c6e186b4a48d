use Rattle.std.proofs.Common.{◌≡◌, ℕ, ◌%◌, ◌<◌, ◌≤◌, ◌+◌, List, ◌++◌, [], append-nil, ap, sym, ◌∙◌, arith}
use Rattle.std.specs.List.{flat_map}
use Rattle.std.proofs.lemmas.List.{flat_map_more}
use Rattle.drill_text.specs.Drill.{addition, additions}
use Rattle.drill_text.proofs.Sizes.{additions_are}
use Rattle.drill_text.proofs.Strides.{first_stride, last_stride, next_stride, with_rest}
use Rattle.drill_text.proofs.commands.push_additions.Goals as goal

pub loop-number-init : goal.loop-number-init
loop-number-init c =
    let before = c.args.section.now.items in
    let small : c.args.caller < 64 = c.requires in
    record {
      rest = omega (arith, small);
      near = omega (arith, small);
      items =
          sym (ap (λ (all : List ℕ). before ++ flat_map (addition c.args.drill) all) (first_stride c.args.caller small)
          ∙ append-nil before);
    }

pub loop-number-preserved : goal.loop-number-preserved
loop-number-preserved c =
    let before = c.args.section.now.items in
    let caller = c.args.caller in
    let number = c.loop-number.number in
    let more = addition c.args.drill in
    let rest : number % 64 ≡ caller = c.loop-number.invariant.rest in
    record {
      rest = omega (arith, rest);
      near = omega (arith, c.loop-number-test.true);
      items =
          c.in_ok-push_addition.ensures
          ∙ ap (λ (front : List ℕ). front ++ more number) c.loop-number.invariant.items
          ∙ flat_map_more more before (with_rest caller number) number
          ∙ ap (λ (all : List ℕ). before ++ flat_map more all) (sym (next_stride caller number rest));
    }

pub returns : goal.returns
returns c =
    let before = c.args.section.now.items in
    let number = c.loop-number.number in
    let near : number < 20064 = c.loop-number.invariant.near in
    c.loop-number.invariant.items
    ∙ ap (λ (all : List ℕ). before ++ flat_map (addition c.args.drill) all)
    (last_stride c.args.caller number additions c.loop-number.invariant.rest (omega (arith, c.loop-number-test.false, additions_are))
    (omega (arith, near, additions_are)))
