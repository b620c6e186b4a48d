use Rattle.std.proofs.Common.{◌≡◌, ◌∷◌, [], ◌++◌, length, map, Some, rules, ap, sym, ◌∙◌, subst, arith}
use Rattle.std.specs.Prelude.{slice_get}
use mathlib.Core.Logic.{dite}
use native.Mathlib.Decide.{ℕ_discrete}
use Rattle.clof_compose.specs.Courses.{course_of}
use Rattle.clof_compose.specs.Passes.{IsNumber}
use Rattle.clof_compose.specs.Shares.{IsShareIn}
use Rattle.clof_compose.proofs.Lists.{length_more, one_before}
use Rattle.mc_text.specs.Commands.{commands_left}
use Rattle.threaded_runner.specs.Jobs.{HasLeft}
use Rattle.threaded_runner.proofs.Dealt.{all_left}
use Rattle.threaded_runner.proofs.Items.{from_first}
use Rattle.fresh_runner.specs.Books.{book_course, book_in}
use Rattle.fresh_runner.specs.Jobs.{IsAccount, IsFreshJob}
use Rattle.fresh_runner.specs.declared.account.Account.{Account}
use Rattle.fresh_runner.proofs.Brought.{fewer, fewer_passes, last_account, last_pass}
use Rattle.fresh_runner.proofs.dealing.deal.Goals as goal

pub loop-pass-preserved : goal.loop-pass-preserved
loop-pass-preserved g c =
    let tag = g.C.Composed.tag c.args._lock.now in
    let has = g.C.Composed.has c.args._lock.now in
    let level = g.C.Composed.level c.args._lock.now in
    let rest = g.C.Pass.Resting.rest in
    let course = course_of tag in
    let inv = c.loop-pass.invariant in
    let old = c.loop-pass.lists in
    let new = c.last_account-account.new.lists in
    let p = c.in-Some.pass in
    let a = c.last_account-account.result in
    let passes = c.in-Some.ensures.items ∙ ap (λ v. v.items ++ p ∷ []) (sym c.last_account-account.ensures.passes) in
    let shares = c.last_account-account.ensures.shares in
    let seens = c.last_account-account.ensures.seens in
    let marks = c.last_account-account.ensures.marks in
    let n = length new.passes.items in
    let one = fewer_passes rest has level tag old new p a inv.lists passes shares seens marks in
    let account = last_account rest has level tag old new p a inv.lists passes shares seens marks in
    let more = length_more c.loop-pass.jobs.items c.push_reserved.new.self.items _ c.push_reserved.ensures.items in
    let counted = inv.counted in
    let at : c.len.result ≡ n = search rules in
    let here = subst (λ k. slice_get (map (λ section. section.bytes.now) c.args.sections.now) k ≡ Some c.bytes_at-bytes.result.now) at
    c.bytes_at-bytes.ensures in
    let share_is = account.0.share_is in
    let own : IsShareIn (book_course course) n a.share =
    record { own = share_is.own; caller_is = share_is.caller_is; known = share_is.known; quota = share_is.quota } in
    let left = all_left (book_course course) n a.share c.args.sections.now c.bytes_at-bytes.result.now
    (commands_left c.job_of.result.commands) c.requires.sections c.requires.quotas here own account.1 c.job_of.ensures.commands in
    record {
      lists = fewer rest has level tag old new p a inv.lists passes shares seens marks;
      behind = one_before (λ k j. IsFreshJob rest has level tag k j) n _ c.loop-pass.jobs.items c.push_reserved.new.self.items _ one
          c.push_reserved.ensures.items
          (record {
            pass_is = subst (λ q. IsNumber has level tag n (rest q).context) (sym c.job_of.ensures.pass)
                (last_pass rest has level tag old new p a inv.lists passes shares seens marks);
            account_is = subst (IsAccount course n) (sym c.job_of.ensures.account) account.0;
            left_is = subst (λ (b : Account). HasLeft (book_in course.payload) b.share (commands_left c.job_of.result.commands))
                (sym c.job_of.ensures.account) left;
          }) inv.behind;
      counted = omega (arith, one, more, counted);
      room = c.push_reserved.ensures.capacity ∙ inv.room;
      passes_room = search rules;
      shares_room = search rules;
      seens_room = search rules;
      marks_room = search rules;
    }

pub returns-clause-each : goal.returns-clause-each
returns-clause-each g c =
    let none : length c.loop-pass.lists.passes.items ≡ 0 = dite (ℕ_discrete (length c.loop-pass.lists.passes.items) 0) (λ e. e) (λ ne.
    let ok = c.loop-pass.lists.passes.ok.0 in
    let some = c.in_default.ensures.variant.1 (omega (arith, ok, ne)) in absurd (cc)) in
    from_first (λ n j. IsFreshJob g.C.Pass.Resting.rest
    (g.C.Composed.has c.args._lock.now) (g.C.Composed.level c.args._lock.now) (g.C.Composed.tag c.args._lock.now) n j)
    (length c.loop-pass.lists.passes.items) _ _ none c.reverse.ensures.items c.loop-pass.invariant.behind
