use Rattle.std.proofs.Common.{◌≡◌, ℕ, suc, ◌+◌, ◌-◌, ◌<◌, List, None, sym, ap, ◌∙◌, arith}
use Rattle.std.specs.Prelude.{option_and_then}
use Rattle.byte_text.specs.Views.{text_at}
use Rattle.run_check.specs.Readings.{at_space, behind_spaces}
use Rattle.run_check.proofs.reading.behind_spaces.Goals as goal

-- behind one space more
one_more : (spaces counter : ℕ) (text : List ℕ) → counter < spaces
    → behind_spaces (spaces - counter) text ≡ option_and_then (λ parts. behind_spaces (spaces - (counter + 1)) parts.1) (at_space text)
one_more spaces counter text below =
    let more : spaces - counter ≡ suc (spaces - (counter + 1)) = omega arith in
    ap (λ (n : ℕ). behind_spaces n text) more

pub loop-init : goal.loop-init
loop-init c = let all : c.args.spaces ≡ c.args.spaces - 0 = omega arith in ap (λ (n : ℕ). behind_spaces n c.args.text.now) all

pub returns-in_err-behind : goal.returns-in_err-behind
returns-in_err-behind c =
    let rest = c.loop.rest.now in
    let none : None ≡ at_space rest = c.in_err-behind.ensures in
    ap text_at c.from_residual.ensures
    ∙ ap (option_and_then (λ parts. behind_spaces (c.args.spaces - (c.loop.counter + 1)) parts.1)) none
    ∙ sym (one_more c.args.spaces c.loop.counter rest (omega arith))
    ∙ sym c.loop.invariant

pub loop-preserved : goal.loop-preserved
loop-preserved c =
    let rest = c.loop.rest.now in
    c.loop.invariant
    ∙ one_more c.args.spaces c.loop.counter rest (omega arith)
    ∙ ap (option_and_then (λ parts. behind_spaces (c.args.spaces - (c.loop.counter + 1)) parts.1)) (sym c.in_ok-behind.ensures)

pub returns : goal.returns
returns c =
    let none : c.args.spaces - c.loop.counter ≡ 0 = omega arith in
    sym (c.loop.invariant ∙ ap (λ (n : ℕ). behind_spaces n c.loop.rest.now) none)
