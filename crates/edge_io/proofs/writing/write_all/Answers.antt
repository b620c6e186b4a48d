use Rattle.std.proofs.Common.{arith}
use Rattle.std.proofs.lemmas.Grind.{common_steps}
use Rattle.std.proofs.lemmas.List.{take_rest}
use Rattle.std.proofs.Math.Seq.{take-add}
use Rattle.edge_io.proofs.Taken.{gains_both, falls_both}
use Rattle.edge_io.proofs.writing.write_all.Goals as goal

pub loop-written-preserved : goal.loop-written-preserved
loop-written-preserved g c =
    record {
      within = grind (arith, common_steps);
      held = rw (take-add c.loop-written.written c.in-Ok.count c.args.bytes.now)
          (gains_both _ _ _ _ _ c.loop-written.invariant.held (rw take_rest at c.in-Ok.ensures.held));
      room = falls_both _ _ _ _ _ c.loop-written.invariant.room c.in-Ok.ensures.room;
      faults_stay = grind (arith, common_steps);
      stalls_stay = grind (arith, common_steps);
    }
