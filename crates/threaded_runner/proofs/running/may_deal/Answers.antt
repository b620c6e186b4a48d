use Rattle.std.proofs.Common.{ap, sym, ◌∙◌, arith}
use Rattle.std.specs.Prelude.{slice_get}
use Rattle.std.specs.List.{enumerate_from}
use Rattle.clof_compose.specs.Courses.{course_of}
use Rattle.clof_compose.proofs.Shares.{as_many_shares, new_share_in}
use Rattle.threaded_runner.proofs.Crews.{none_made_at}
use Rattle.threaded_runner.proofs.Dealt.{callers_known, counts, quotas_known}
use Rattle.threaded_runner.proofs.running.may_deal.Goals as goal

pub returns-clause-shares : goal.returns-clause-shares
returns-clause-shares g c k s e =
    let course = course_of (g.C.Composed.tag c.args._lock.now) in
    let dealt = c.requires.dealt in
    let known = quotas_known course _ c.args._shares.now.items dealt in (
      new_share_in course c.args._shares.now.items known dealt.dealt k s e,
      none_made_at course.name
          (enumerate_from 0 course.quotas) k s (ap (λ l. slice_get l k) (sym dealt.dealt) ∙ e),
    )

pub returns-clause-many : goal.returns-clause-many
returns-clause-many g c =
    let course = course_of (g.C.Composed.tag c.args._lock.now) in
    let all = c.requires.passes.all in
    let count = c.requires.count in
    let known = quotas_known course _ c.args._shares.now.items c.requires.dealt in
    let callers = callers_known course c.args._sections.now c.args._shares.now.items c.requires.dealt in
    let share_many = as_many_shares course.name course.quotas c.args._shares.now.items c.requires.dealt.dealt in
    omega (arith, all, share_many, known, callers, count)

pub returns-clause-quotas : goal.returns-clause-quotas
returns-clause-quotas g c = c.requires.dealt.quotas ∙ sym (counts c.args._sections.now)
