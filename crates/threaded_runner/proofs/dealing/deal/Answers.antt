use Rattle.std.proofs.Common.{◌≡◌, ℕ, length, map, Some, rules, sym, ◌∙◌, subst, arith}
use Rattle.std.specs.Prelude.{slice_get}
use mathlib.Core.Logic.{dite}
use native.Mathlib.Decide.{ℕ_discrete}
use Rattle.clof_compose.specs.Courses.{course_of}
use Rattle.clof_compose.specs.Passes.{IsNumber}
use Rattle.clof_compose.specs.Shares.{IsShareIn}
use Rattle.clof_compose.proofs.Lists.{length_more, one_before}
use Rattle.mc_text.specs.Commands.{commands_left}
use Rattle.threaded_runner.specs.Jobs.{HasLeft, IsJob}
use Rattle.threaded_runner.proofs.Dealt.{all_left}
use Rattle.threaded_runner.proofs.Items.{at_end, from_first, in_front}
use Rattle.threaded_runner.proofs.dealing.deal.Goals as goal

pub loop-pass-preserved : goal.loop-pass-preserved
loop-pass-preserved g c =
    let course = course_of (g.C.Composed.tag c.args._lock.now) in
    let inv = c.loop-pass.invariant in
    let n = length c.pop.new.self.items in
    let fewer = length_more c.pop.new.self.items c.loop-pass.passes.items c.in-Some.pass c.in-Some.ensures.items in
    let fewer_shares = length_more c.pop-in-Some.new.self.items c.loop-pass.shares.items c.in-Some-pop.share c.in-Some-pop.ensures.items in
    let more = length_more c.loop-pass.jobs.items c.push_reserved.new.self.items _ c.push_reserved.ensures.items in
    let many = inv.many in
    let counted = inv.counted in
    let left : length c.pop-in-Some.new.self.items ≡ n = omega (arith, fewer, fewer_shares, many) in
    let number : ℕ → g.row.C-Pass.Denot → Type 0 = λ k p. IsNumber (g.C.Composed.has c.args._lock.now) (g.C.Composed.level c.args._lock.now)
    (g.C.Composed.tag c.args._lock.now) k (g.C.Pass.Resting.rest p).context in
    let share = subst (λ k. IsShareIn course k c.in-Some-pop.share × (c.in-Some-pop.share.made ≡ 0)) left
    (at_end (λ k s. IsShareIn course k s × (s.made ≡ 0)) c.loop-pass.shares.items c.pop-in-Some.new.self.items c.in-Some-pop.share
    c.in-Some-pop.ensures.items inv.shares) in
    let pass = at_end number c.loop-pass.passes.items c.pop.new.self.items c.in-Some.pass c.in-Some.ensures.items inv.passes in
    let at : c.len.result ≡ n = search rules in
    let here = subst (λ k. slice_get (map (λ section. section.bytes.now) c.args.sections.now) k ≡ Some c.bytes_at-bytes.result.now) at
    c.bytes_at-bytes.ensures in
    let all = all_left course n c.in-Some-pop.share c.args.sections.now c.bytes_at-bytes.result.now (commands_left c.job_of.result.commands)
    c.requires.sections c.requires.quotas here share.0 share.1 c.job_of.ensures.commands in
    record {
      passes = in_front number c.loop-pass.passes.items c.pop.new.self.items c.in-Some.pass c.in-Some.ensures.items inv.passes;
      shares = in_front (λ k s. IsShareIn course k s × (s.made ≡ 0)) c.loop-pass.shares.items c.pop-in-Some.new.self.items
          c.in-Some-pop.share c.in-Some-pop.ensures.items inv.shares;
      many = left;
      behind = one_before (λ k j. IsJob g.C.Pass.Resting.rest (g.C.Composed.has c.args._lock.now) (g.C.Composed.level c.args._lock.now)
          (g.C.Composed.tag c.args._lock.now) k j) n _ c.loop-pass.jobs.items c.push_reserved.new.self.items _ fewer
          c.push_reserved.ensures.items
          (record {
            pass_is = subst (number n) (sym c.job_of.ensures.pass) pass;
            share_is = subst (IsShareIn course n) (sym c.job_of.ensures.share) share.0;
            left_is = subst (λ s. HasLeft course.payload s (commands_left c.job_of.result.commands)) (sym c.job_of.ensures.share) all;
          }) inv.behind;
      counted = omega (arith, fewer, more, counted);
      room = c.push_reserved.ensures.capacity ∙ inv.room;
      passes_room = c.in-Some.ensures.capacity ∙ inv.passes_room;
      shares_room = c.in-Some-pop.ensures.capacity ∙ inv.shares_room;
    }

pub returns-clause-each : goal.returns-clause-each
returns-clause-each g c =
    let none : length c.loop-pass.passes.items ≡ 0 = dite (ℕ_discrete (length c.loop-pass.passes.items) 0) (λ e. e) (λ ne.
    let ok = c.loop-pass.passes.ok.0 in
    let some = c.in_default.ensures.variant.1 (omega (arith, ok, ne)) in absurd (cc)) in
    from_first (λ n j. IsJob g.C.Pass.Resting.rest
    (g.C.Composed.has c.args._lock.now) (g.C.Composed.level c.args._lock.now) (g.C.Composed.tag c.args._lock.now) n j)
    (length c.loop-pass.passes.items) _ _ none c.reverse.ensures.items c.loop-pass.invariant.behind
