use Rattle.std.proofs.Common.{sym, arith}
use Rattle.byte_text.specs.InClass.{in_class}
use Rattle.byte_text.proofs.CutLaws.{prefix_len-is}
use Rattle.byte_text.proofs.cuts.front_len.Goals as goal

pub returns-then-not-has : goal.returns-then-not-has
returns-then-not-has c =
    sym (prefix_len-is (in_class c.args.class) c.args.text.now c.loop-place.place (omega arith) c.loop-place.invariant
    (λ lt. sym c.if-not-has.ensures))

pub returns : goal.returns
returns c =
    sym (prefix_len-is (in_class c.args.class) c.args.text.now _ (omega arith) (λ k lt. c.loop-place.invariant k (omega arith))
    (λ lt. absurd (omega arith)))
