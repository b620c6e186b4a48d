use Rattle.std.proofs.Common.{◌≡◌, ◌≤◌, length, rules, arith, vec_capacity}
use Rattle.clof_compose.specs.Courses.{course_of}
use Rattle.clof_compose.proofs.Shares.{as_many_shares}
use Rattle.threaded_runner.proofs.Dealt.{callers_known, quotas_known}
use Rattle.threaded_runner.proofs.running.prepare.Goals as goal

pub returns-clause-lists : goal.returns-clause-lists
returns-clause-lists g c =
    let course = course_of (g.C.Composed.tag c.args.lock.now) in
    let all = c.requires.passes.all in
    let share_many = as_many_shares course.name course.quotas c.args.shares.items c.requires.dealt.dealt in
    let known = quotas_known course _ c.args.shares.items c.requires.dealt in
    let callers = callers_known course c.args.sections.now c.args.shares.items c.requires.dealt in
    let count = c.requires.count in
    let asked : c.len.result ≡ length c.args.passes.items = search rules in
    let room = c.in-Some.ensures.stopped_room in
    let fits : length c.args.shares.items ≤ vec_capacity c.args.shares = search rules in
    let kept = c.deal-jobs.ensures.shares_room in
    record {
      no_passes = c.deal-jobs.ensures.passes_empty;
      passes_room = search rules;
      no_shares = c.deal-jobs.ensures.shares_empty;
      shares_room = omega (arith, fits, kept, share_many, known, callers, count);
      none_stopped = c.in-Some.ensures.stopped;
      stopped_room = omega (arith, asked, room, all);
    }
