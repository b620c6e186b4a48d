use Rattle.std.proofs.Common.{◌≡◌, length, ◌∙◌, subst, arith}
use mathlib.Core.Logic.{dite}
use native.Mathlib.Decide.{ℕ_discrete}
use Rattle.clof_compose.specs.Courses.{course_of}
use Rattle.clof_compose.specs.Passes.{IsNumber}
use Rattle.clof_compose.proofs.Lists.{length_more, one_before}
use Rattle.own_payload.specs.Jobs.{IsJob}
use Rattle.clof_compose.specs.Shares.{IsShareIn}
use Rattle.own_payload.proofs.Items.{at_end, from_first, in_front}
use Rattle.own_payload.proofs.jobs.pair.Goals as goal

pub loop-pass-preserved : goal.loop-pass-preserved
loop-pass-preserved g c =
    let inv = c.loop-pass.invariant in
    let fewer = length_more c.pop.new.self.items c.loop-pass.passes.items c.in-Some.pass c.in-Some.ensures.items in
    let fewer_shares = length_more c.pop-in-Some.new.self.items c.loop-pass.shares.items c.in-Some-pop.share c.in-Some-pop.ensures.items in
    let more = length_more c.loop-pass.jobs.items c.push_reserved.new.self.items _ c.push_reserved.ensures.items in
    let many = inv.many in
    let counted = inv.counted in
    let left : length c.pop-in-Some.new.self.items ≡ length c.pop.new.self.items = omega (arith, fewer, fewer_shares, many) in
    let share = subst (λ n. IsShareIn (course_of (g.C.Composed.tag c.args._lock.now)) n c.in-Some-pop.share) left
    (at_end (λ k s. IsShareIn (course_of (g.C.Composed.tag c.args._lock.now)) k s) c.loop-pass.shares.items c.pop-in-Some.new.self.items
    c.in-Some-pop.share c.in-Some-pop.ensures.items inv.shares) in
    let pass = at_end (λ k p. IsNumber (g.C.Composed.has c.args._lock.now) (g.C.Composed.level c.args._lock.now)
    (g.C.Composed.tag c.args._lock.now) k (g.C.Pass.Resting.rest p).context) c.loop-pass.passes.items c.pop.new.self.items c.in-Some.pass
    c.in-Some.ensures.items inv.passes in record {
      passes = in_front (λ k p. IsNumber (g.C.Composed.has c.args._lock.now) (g.C.Composed.level c.args._lock.now)
          (g.C.Composed.tag c.args._lock.now) k (g.C.Pass.Resting.rest p).context) c.loop-pass.passes.items c.pop.new.self.items
          c.in-Some.pass c.in-Some.ensures.items inv.passes;
      shares = in_front (λ k s. IsShareIn (course_of (g.C.Composed.tag c.args._lock.now)) k s) c.loop-pass.shares.items
          c.pop-in-Some.new.self.items c.in-Some-pop.share c.in-Some-pop.ensures.items inv.shares;
      many = left;
      behind = one_before (λ n j. IsJob g.C.Pass.Resting.rest
          (g.C.Composed.has c.args._lock.now) (g.C.Composed.level c.args._lock.now) (g.C.Composed.tag c.args._lock.now) n j)
          (length c.pop.new.self.items) _ c.loop-pass.jobs.items c.push_reserved.new.self.items _ fewer c.push_reserved.ensures.items
          (record {
            share_is = share;
            pass_is = pass;
          }) inv.behind;
      counted = omega (arith, fewer, more, counted);
      room = c.push_reserved.ensures.capacity ∙ inv.room;
      passes_kept = c.in-Some.ensures.capacity ∙ inv.passes_kept;
      shares_kept = c.in-Some-pop.ensures.capacity ∙ inv.shares_kept;
    }

pub returns-clause-each : goal.returns-clause-each
returns-clause-each g c =
    let none : length c.loop-pass.passes.items ≡ 0 = dite (ℕ_discrete (length c.loop-pass.passes.items) 0) (λ e. e) (λ ne.
    let ok = c.loop-pass.passes.ok.0 in
    let some = c.in_default.ensures.variant.1 (omega (arith, ok, ne)) in absurd (cc)) in
    from_first (λ n j. IsJob g.C.Pass.Resting.rest
    (g.C.Composed.has c.args._lock.now) (g.C.Composed.level c.args._lock.now) (g.C.Composed.tag c.args._lock.now) n j)
    (length c.loop-pass.passes.items) _ _ none c.reverse.ensures.items c.loop-pass.invariant.behind
