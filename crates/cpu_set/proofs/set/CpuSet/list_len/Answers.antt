use Rattle.std.proofs.Common.{◌++◌, ◌∷◌, [], refl, arith}
use Rattle.std.proofs.lemmas.List.{length-append}
use Rattle.cpu_set.specs.Texts.{run_text}
use Rattle.cpu_set.proofs.ListText.{list_begin, list_first, list_next}
use Rattle.cpu_set.proofs.set.CpuSet.list_len.Goals as goal
use Rattle.cpu_set.proofs.set.CpuSet.list_len.Goals.{then-length-gt0, else-length-gt0}

pub loop-run-init : goal.loop-run-init
loop-run-init c = ([], refl, list_begin c.args.self.now)

pub loop-run-preserved : goal.loop-run-preserved
loop-run-preserved c =
    let text = c.loop-run.invariant.0 in
    let one = run_text (c.in-Some.run'.first, c.in-Some.run'.last) in
    elim c.if-length-gt0.branch [
      | then-length-gt0 w ↦ (
        (text ++ 44 ∷ []) ++ one,
        omega (
          arith,
          w.length-is,
          c.run_len-length.ensures.length,
          c.loop-run.invariant.1,
          length-append
              (text ++ 44 ∷ []) one,
          length-append text (44 ∷ []),
        ),
        list_next c.args.self.now c.loop-run.from c.in-Some.run'.first c.in-Some.run'.last text c.loop-run.invariant.2 c.in-Some.ensures.run
            c.in-Some.ensures.order c.in-Some.ensures.from c.in-Some.ensures.limit
            (omega (arith, c.loop-run.invariant.1, w.if-length-gt0.true)),
      )
      | else-length-gt0 w ↦ (
        text ++ one,
        omega (arith, w.length-is, c.run_len-length.ensures.length, c.loop-run.invariant.1, length-append text one),
        list_first c.args.self.now c.loop-run.from c.in-Some.run'.first c.in-Some.run'.last text c.loop-run.invariant.2
            c.in-Some.ensures.run c.in-Some.ensures.order c.in-Some.ensures.from c.in-Some.ensures.limit
            (omega (arith, c.loop-run.invariant.1, w.if-length-gt0.false)),
      )
    ]
