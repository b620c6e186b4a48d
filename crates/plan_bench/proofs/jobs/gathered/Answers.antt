use Rattle.std.proofs.Common.{◌∙◌}
use Rattle.own_payload.proofs.Worked.{all_ended}
use Rattle.plan_bench.proofs.jobs.gathered.Goals as goal

pub returns : goal.returns
returns g c =
    let did = c.requires in
    record {
      quotas = did.open_is.quotas;
      many = did.many ∙ did.open_is.many;
      each = all_ended _ _ _ _ (λ _. Unit {0}) did.before.items c.args.jobs.items did.many did.open_is.each did.each;
      emptied = did.open_is.emptied;
    }
