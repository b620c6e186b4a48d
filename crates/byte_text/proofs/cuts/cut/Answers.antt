use Rattle.std.proofs.Common.{◌≡◌, ◌+◌, ◌-◌, take, drop, length, sym, arith}
use Rattle.std.proofs.lemmas.List.{take_all, length-drop}
use Rattle.byte_text.specs.InClass.{in_class}
use Rattle.byte_text.proofs.CutLaws.{cut-none, cut-place}
use Rattle.byte_text.proofs.cuts.cut.Goals as goal

pub returns-then-has : goal.returns-then-has
returns-then-has c =
    let n = c.loop-place.place in
    let text = c.args.text.now in
    let whole : take (length text - (n + 1)) (drop (n + 1) text) ≡ drop (n + 1) text =
    take_all _ (drop (n + 1) text) (omega (arith, length-drop (n + 1) text)) in
    rw whole (sym (cut-place (in_class c.args.class) text n c.loop-place-test.true c.loop-place.invariant (sym c.if-has.ensures)))

pub returns : goal.returns
returns c = sym (cut-none (in_class c.args.class) c.args.text.now (λ k lt. c.loop-place.invariant k (omega arith)))
