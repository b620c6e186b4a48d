use Rattle.std.proofs.Common.{◌≡◌, ◌+◌, [], ◌∷◌, ◌++◌, length, ap, sym, ◌∙◌, subst, arith}
use Rattle.std.proofs.lemmas.Grind.{common_steps}
use mathlib.Core.Logic.{dite}
use native.Mathlib.Decide.{ℕ_discrete}
use Rattle.std.specs.Arc.{arc_value}
use Rattle.lock_rules.specs.Tag.{Tag}
use Rattle.keep_local.specs.States.{ShareState}
use Rattle.clof_compose.specs.Courses.{course_of}
use Rattle.clof_compose.specs.Passes.{IsNumber}
use Rattle.clof_compose.specs.Shares.{IsShareIn}
use Rattle.clof_compose.proofs.Lists.{length_more, one_before}
use Rattle.clof_compose.proofs.Shares.{own_share}
use Rattle.own_payload.proofs.Items.{at_end, from_first, in_front}
use Rattle.level_callers.specs.Seen.{IsFresh}
use Rattle.level_callers.specs.Sound.{IsOwn}
use Rattle.level_callers.proofs.Dealt.{is_fresh, one_caller}
use Rattle.level_callers.proofs.making.callers_of.Goals as goal

pub new-requires : goal.new-requires
new-requires g c =
    let inv = c.loop-pass.invariant in
    let tag = g.C.Composed.tag (arc_value c.args.lock) in
    let has = g.C.Composed.has (arc_value c.args.lock) in
    let level = g.C.Composed.level (arc_value c.args.lock) in
    let same : arc_value c.in_ok-lock.lock ≡ arc_value c.args.lock = c.in_ok-lock.ensures in
    let fewer = length_more c.pop.new.self.items c.loop-pass.passes.items c.in-Some.pass c.in-Some.ensures.items in
    let fewer_shares = length_more c.pop-in-Some.new.self.items c.loop-pass.shares.items c.in-Some-pop.share c.in-Some-pop.ensures.items in
    let many = inv.many in
    let left : length c.pop-in-Some.new.self.items ≡ length c.pop.new.self.items = omega (arith, fewer, fewer_shares, many) in
    let share = subst (λ n. IsShareIn (course_of tag) n c.in-Some-pop.share) left
    (at_end (λ k s. IsShareIn (course_of tag) k s) c.loop-pass.shares.items c.pop-in-Some.new.self.items c.in-Some-pop.share
    c.in-Some-pop.ensures.items inv.shares) in
    let pass = at_end (λ k p. IsNumber has level tag k (g.C.Pass.Resting.rest p).context) c.loop-pass.passes.items
    c.pop.new.self.items c.in-Some.pass c.in-Some.ensures.items inv.passes in
    record {
      sound = subst g.C.Composed.sound (sym same) c.requires.sound;
      lowest = ap g.C.Composed.level same ∙ c.requires.lowest;
      share = subst (λ lock. IsShareIn (course_of (g.C.Composed.tag lock)) c.in-Some-pop.share.caller c.in-Some-pop.share) (sym same)
          (own_share (course_of tag) _ c.in-Some-pop.share share);
      unused = at_end (λ k s. s.made ≡ 0) c.loop-pass.shares.items c.pop-in-Some.new.self.items c.in-Some-pop.share
          c.in-Some-pop.ensures.items inv.unused;
      own = subst (λ lock. IsOwn (g.C.Composed.has lock) c.in-Some-pop.share (g.C.Pass.Resting.rest c.in-Some.pass).context) (sym same)
          (one_caller has level tag _ _ c.in-Some-pop.share pass share);
    }

pub loop-pass-preserved : goal.loop-pass-preserved
loop-pass-preserved g c =
    let inv = c.loop-pass.invariant in
    let tag = g.C.Composed.tag (arc_value c.args.lock) in
    let has = g.C.Composed.has (arc_value c.args.lock) in
    let level = g.C.Composed.level (arc_value c.args.lock) in
    let same : arc_value c.in_ok-lock.lock ≡ arc_value c.args.lock = c.in_ok-lock.ensures in
    let fewer = length_more c.pop.new.self.items c.loop-pass.passes.items c.in-Some.pass c.in-Some.ensures.items in
    let fewer_shares = length_more c.pop-in-Some.new.self.items c.loop-pass.shares.items c.in-Some-pop.share c.in-Some-pop.ensures.items in
    let many = inv.many in
    let counted = inv.counted in
    let left : length c.pop-in-Some.new.self.items ≡ length c.pop.new.self.items = omega (arith, fewer, fewer_shares, many) in
    let share = subst (λ n. IsShareIn (course_of tag) n c.in-Some-pop.share) left
    (at_end (λ k s. IsShareIn (course_of tag) k s) c.loop-pass.shares.items c.pop-in-Some.new.self.items c.in-Some-pop.share
    c.in-Some-pop.ensures.items inv.shares) in
    let pushed : c.push.new.self.items ≡ c.loop-pass.callers.items ++ c.new.result ∷ [] = grind (arith, common_steps) in
    let more = length_more c.loop-pass.callers.items c.push.new.self.items c.new.result pushed in
    record {
      passes = in_front (λ k p. IsNumber has level tag k (g.C.Pass.Resting.rest p).context) c.loop-pass.passes.items
          c.pop.new.self.items c.in-Some.pass c.in-Some.ensures.items inv.passes;
      shares = in_front (λ k s. IsShareIn (course_of tag) k s) c.loop-pass.shares.items c.pop-in-Some.new.self.items
          c.in-Some-pop.share c.in-Some-pop.ensures.items inv.shares;
      unused = in_front (λ k s. s.made ≡ 0) c.loop-pass.shares.items c.pop-in-Some.new.self.items c.in-Some-pop.share
          c.in-Some-pop.ensures.items inv.unused;
      many = left;
      behind = one_before (IsFresh tag) (length c.pop.new.self.items) _ c.loop-pass.callers.items c.push.new.self.items c.new.result fewer
          pushed (is_fresh tag _ _ c.in-Some-pop.share c.new.result (ap g.C.Composed.tag (sym same)) share c.new.ensures.idle) inv.behind;
      counted = omega (arith, fewer, more, counted);
    }

pub returns-clause-callers : goal.returns-clause-callers
returns-clause-callers g c =
    let none : length c.loop-pass.passes.items ≡ 0 = dite (ℕ_discrete (length c.loop-pass.passes.items) 0) (λ e. e) (λ ne.
    let ok = c.loop-pass.passes.ok.0 in
    let some = c.in_default.ensures.variant.1 (omega (arith, ok, ne)) in absurd (cc)) in
    from_first (IsFresh (g.C.Composed.tag (arc_value c.args.lock))) (length c.loop-pass.passes.items) _ _ none c.reverse.ensures.items
    c.loop-pass.invariant.behind
