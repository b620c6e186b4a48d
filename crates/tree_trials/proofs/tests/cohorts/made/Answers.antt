use Rattle.std.proofs.Common.{◌≤◌, refl, subst, sym}
use Rattle.lock_rules.specs.Tag.{leaf}
use Rattle.tree_trials.proofs.Numbers.{once_le}
use Rattle.tree_trials.proofs.tests.cohorts.made.Goals as goal

pub make-requires-clause-distinct : goal.make-requires-clause-distinct
make-requires-clause-distinct g c x = subst (λ n. n ≤ 1) (sym (c.in_ok-callers.ensures.each x)) (once_le c.args.count x)

pub make-requires-clause-tag : goal.make-requires-clause-tag
make-requires-clause-tag g c = record { tag = leaf 0; each = λ i d within. refl }
