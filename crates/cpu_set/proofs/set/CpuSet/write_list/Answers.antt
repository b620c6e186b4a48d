use Rattle.std.proofs.Common.{◌≡◌, ◌≢◌, vec_len, sym, arith}
use Rattle.std.proofs.lemmas.Bool.{eqb-true, eqb-false}
use Rattle.cpu_set.proofs.ListText.{list_begin, list_first, list_next}
use Rattle.cpu_set.proofs.set.CpuSet.write_list.Goals as goal
use Rattle.cpu_set.proofs.set.CpuSet.write_list.Goals.{then-not-is_empty+in_ok-push, else-not-is_empty}

pub loop-run-init : goal.loop-run-init
loop-run-init c = rw c.in_ok-text.ensures.items (list_begin c.args.self.now)

pub loop-run-preserved : goal.loop-run-preserved
loop-run-preserved c =
    rw c.in_ok-push_run.ensures (elim c.if-not-is_empty.branch [
      | then-not-is_empty+in_ok-push w ↦ rw (w.text-is, w.in_ok-push.ensures.items)
          (list_next c.args.self.now c.loop-run.from c.in-Some.run'.first c.in-Some.run'.last c.loop-run.text.items c.loop-run.invariant
          c.in-Some.ensures.run c.in-Some.ensures.order c.in-Some.ensures.from c.in-Some.ensures.limit
          (let some : vec_len c.loop-run.text ≢ 0 = eqb-false (vec_len c.loop-run.text) 0 (sym w.if-not-is_empty.ensures) in
          omega (arith, c.loop-run.text.ok.0)))
      | else-not-is_empty w ↦ rw w.text-is
          (list_first c.args.self.now c.loop-run.from c.in-Some.run'.first c.in-Some.run'.last c.loop-run.text.items c.loop-run.invariant
          c.in-Some.ensures.run c.in-Some.ensures.order c.in-Some.ensures.from c.in-Some.ensures.limit
          (let none : vec_len c.loop-run.text ≡ 0 = eqb-true (vec_len c.loop-run.text) 0 (sym w.if-not-is_empty.ensures) in
          omega (arith, c.loop-run.text.ok.0)))
    ])
