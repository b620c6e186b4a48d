use Rattle.std.proofs.Common.{◌∙◌}
use Rattle.tree_harness.proofs.Shifts.{all_ended}
use Rattle.tree_harness.proofs.jobs.gathered.Goals as goal

pub returns : goal.returns
returns g c =
    let did = c.requires.did in
    record {
      many = did.many ∙ did.open_is.many;
      each = all_ended _ _ _ _ did.before.items c.args.jobs.items did.many did.open_is.each did.each;
      empty = did.open_is.empty;
      room = did.open_is.room;
    }
