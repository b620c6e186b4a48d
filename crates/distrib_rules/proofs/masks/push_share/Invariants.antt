use Rattle.std.proofs.Common.{◌≡◌, ◌++◌, replicate}
use Rattle.distrib_rules.proofs.masks.push_share.Given as goal

abbrev pub invariant-loop : goal.invariant-loop
invariant-loop l = l.masks.items ≡ l.fn.masks.items ++ replicate l.counter l.set
