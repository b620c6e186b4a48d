use Rattle.std.proofs.Common.{arith, inl, inr}
use Rattle.cpu_set.proofs.SetSteps.{FirstBit, LastBit, range_none, range_more, range_all}
use Rattle.cpu_set.proofs.set.CpuSet.add_range.Goals as goal
use Rattle.cpu_set.proofs.set.CpuSet.add_range.Goals.{then-place-low, else-place-low, then-place-high, else-place-high}

pub words-init : goal.words-init
words-init c = range_none c.args.self.now c.args.low c.args.high

pub words-preserved : goal.words-preserved
words-preserved c =
    let first_is : FirstBit c.args.low c.words.place c.if-place-low.first =
    elim c.if-place-low.branch [
      | then-place-low w ↦ inl (w.if-place-low.true, w.first-is)
      | else-place-low w
          ↦ inr (w.if-place-low.false, w.first-is)
    ] in
    let last_is : LastBit c.args.high c.words.place c.if-place-high.last =
    elim c.if-place-high.branch [
      | then-place-high w ↦ inl (w.if-place-high.true, w.last-is)
      | else-place-high w
          ↦ inr (w.if-place-high.false, w.last-is)
    ] in
    range_more c.args.self.now c.words.self c.add_word.new.self c.args.low c.args.high c.words.place c.if-place-low.first
    c.if-place-high.last c.ones_between.result
    c.words.invariant c.words.auto.place (omega (arith, c.words-test.true)) first_is last_is c.ones_between.ensures c.add_word.ensures

pub returns : goal.returns
returns c = range_all c.args.self.now c.words.self c.args.low c.args.high c.words.place c.requires.ends c.words-test.false c.words.invariant
