use Rattle.lock_harness.proofs.Returned.{all_again}
use Rattle.lock_harness.proofs.runs.run.Goals as goal

pub close-requires : goal.close-requires
close-requires g c = record {
  all = all_again _ _ _ _ _ c.in-Ok.ensures.passes c.by_all-passes.result.items c.by_all-passes.ensures.many c.by_all-passes.ensures.each;
}
