use Rattle.std.proofs.Common.{◌≡◌, ◌+◌, length, ap, subst, arith}
use Rattle.std.specs.Prelude.{IfSome}
use Rattle.lock_rules.specs.Tag.{Tag}
use Rattle.keep_local.specs.Shapes.{top_of}
use Rattle.level_handles.specs.Making.{AreBoxed, IsLockOf, IsNew}
use Rattle.level_handles.proofs.Ready.{may_make}
use Rattle.level_handles.proofs.boxes.boxes_for.Goals as goal

pub one_level-requires-clause-may : goal.one_level-requires-clause-may
one_level-requires-clause-may c =
    let made = c.in-Some.ensures in may_make c.in-Some.root _ _ made.shape made.recorded made.quotas made.shares

pub two_levels-requires-clause-may : goal.two_levels-requires-clause-may
two_levels-requires-clause-may c =
    let made = c.in-Some.ensures in may_make c.in-Some.root _ _ made.shape made.recorded made.quotas made.shares

pub three_levels-requires-clause-may : goal.three_levels-requires-clause-may
three_levels-requires-clause-may c =
    let made = c.in-Some.ensures in may_make c.in-Some.root _ _ made.shape made.recorded made.quotas made.shares

pub four_levels-requires-clause-may : goal.four_levels-requires-clause-may
four_levels-requires-clause-may c =
    let made = c.in-Some.ensures in may_make c.in-Some.root _ _ made.shape made.recorded made.quotas made.shares

pub five_levels-requires-clause-may : goal.five_levels-requires-clause-may
five_levels-requires-clause-may c =
    let made = c.in-Some.ensures in may_make c.in-Some.root _ _ made.shape made.recorded made.quotas made.shares

pub returns-then-levels-eq1-clause-callers : goal.returns-then-levels-eq1-clause-callers
returns-then-levels-eq1-clause-callers c =
    let many : 1 ≡ top_of c.args.shape.now + 1 = let many_kinds = ap length c.as_slice-levels.ensures in omega (arith, many_kinds) in
    subst (λ n. IfSome c.one_level.result (λ made. (lock : Tag) × IsLockOf c.args.shape.now lock × AreBoxed (IsNew lock n) made.items))
    many c.one_level.ensures.callers

pub returns-then-levels-eq2-clause-callers : goal.returns-then-levels-eq2-clause-callers
returns-then-levels-eq2-clause-callers c =
    let many : 2 ≡ top_of c.args.shape.now + 1 = let many_kinds = ap length c.as_slice-levels.ensures in omega (arith, many_kinds) in
    subst (λ n. IfSome c.two_levels.result (λ made. (lock : Tag) × IsLockOf c.args.shape.now lock × AreBoxed (IsNew lock n) made.items))
    many c.two_levels.ensures.callers

pub returns-then-levels-eq3-clause-callers : goal.returns-then-levels-eq3-clause-callers
returns-then-levels-eq3-clause-callers c =
    let many : 3 ≡ top_of c.args.shape.now + 1 = let many_kinds = ap length c.as_slice-levels.ensures in omega (arith, many_kinds) in
    subst (λ n. IfSome c.three_levels.result (λ made. (lock : Tag) × IsLockOf c.args.shape.now lock × AreBoxed (IsNew lock n) made.items))
    many c.three_levels.ensures.callers

pub returns-then-levels-eq4-clause-callers : goal.returns-then-levels-eq4-clause-callers
returns-then-levels-eq4-clause-callers c =
    let many : 4 ≡ top_of c.args.shape.now + 1 = let many_kinds = ap length c.as_slice-levels.ensures in omega (arith, many_kinds) in
    subst (λ n. IfSome c.four_levels.result (λ made. (lock : Tag) × IsLockOf c.args.shape.now lock × AreBoxed (IsNew lock n) made.items))
    many c.four_levels.ensures.callers

pub returns-else-levels-eq4-clause-callers : goal.returns-else-levels-eq4-clause-callers
returns-else-levels-eq4-clause-callers c =
    let many : 5 ≡ top_of c.args.shape.now + 1 = let many_kinds = ap length c.as_slice-levels.ensures in
    omega (
      arith,
      many_kinds,
      c.requires.plan,
      c.requires.levels,
      c.if-levels-eq1.false,
      c.if-levels-eq2.false,
      c.if-levels-eq3.false,
      c.if-levels-eq4.false,
    ) in
    subst (λ n. IfSome c.five_levels.result (λ made. (lock : Tag) × IsLockOf c.args.shape.now lock × AreBoxed (IsNew lock n) made.items))
    many c.five_levels.ensures.callers
