use Rattle.std.proofs.Common.{◌≡◌, refl, true, false}
use Rattle.keep_local.proofs.Trails.{blank}
use Rattle.keep_local.proofs.Checked.{lawful_more, lawful_at}
use Rattle.keep_local.proofs.checker.is_lawful.Goals as goal

pub returns-then-not-follows : goal.returns-then-not-follows
returns-then-not-follows c = (
  (λ e. absurd (let x : false ≡ true = e in cc)),
  (λ lawful. let follows = lawful_at c.args.shape.now c.args.turns.now c.loop-i.i blank c.loop-i-test.true lawful in
      c.if-not-follows.ensures.1 follows),
)

pub loop-i-preserved : goal.loop-i-preserved
loop-i-preserved c = lawful_more c.args.shape.now c.args.turns.now c.loop-i.i blank c.loop-i-test.true c.loop-i.invariant
    (c.if-not-follows.ensures.0 refl)
