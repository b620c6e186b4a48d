use Rattle.std.proofs.Common.{◌≡◌, ◌+◌, ◌*◌, ◌≤◌, drop}
use Rattle.std.specs.List.{AllByRecursion}
use Rattle.synth_text.specs.Rules.{arities, product, tree_size}
use Rattle.synth_text.proofs.counts.count_objects.Given as goal

abbrev pub invariant-loop-level : goal.invariant-loop-level
invariant-loop-level l = record {
  few : l.last ≤ 4096;
  bound : l.objects ≤ 4096 * (l.level-index + 1);
  some_each : AllByRecursion (λ level. 1 ≤ level.arity) (drop l.level-index l.levels);
  product : l.last * product (arities (drop l.level-index l.levels)) ≡ product (arities l.levels);
  tree : l.objects + l.last * tree_size (arities (drop l.level-index l.levels)) ≡ tree_size (arities l.levels) + l.last;
}
