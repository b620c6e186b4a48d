use Rattle.std.proofs.Common.{ℕ, sym, subst}
use Rattle.own_payload.specs.Jobs.{AreEmpty}
use Rattle.own_payload.proofs.Worked.{passes_back}
use Rattle.plan_bench.proofs.jobs.closed.Goals as goal

pub gather-passes-requires : goal.gather-passes-requires
gather-passes-requires g c = record {
  emptied = subst (λ (n : ℕ). AreEmpty n c.args.lists) (sym c.requires.ended.many) c.requires.ended.emptied;
}

pub close-root-requires-clause-all : goal.close-root-requires-clause-all
close-root-requires-clause-all g c =
    passes_back _ _ _ _ (λ _. Unit {0}) c.args.jobs.items _ c.requires.ended.many c.requires.ended.each
    c.gather-passes.result.passes.items c.gather-passes.ensures.passes
