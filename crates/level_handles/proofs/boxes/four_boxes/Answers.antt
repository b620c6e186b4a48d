use Rattle.std.proofs.Common.{◌≡◌, length, ap, ◌∙◌, subst, arith}
use mathlib.Core.Logic.{dite}
use native.Mathlib.Decide.{ℕ_discrete}
use Rattle.clof_compose.proofs.Lists.{length_more}
use Rattle.own_payload.proofs.Items.{in_front}
use Rattle.level_callers.specs.Seen.{IsFresh}
use Rattle.level_handles.specs.Calls.{levels_of, seen_of}
use Rattle.level_handles.specs.Making.{IsNew}
use Rattle.level_handles.proofs.Boxed.{boxed_more}
use Rattle.level_handles.proofs.boxes.four_boxes.Goals as goal

pub loop-caller-preserved : goal.loop-caller-preserved
loop-caller-preserved c =
    let inv = c.loop-caller.invariant in
    let counted = inv.counted in
    let cut = c.in-Some.ensures.items in
    let fewer = length_more c.pop.new.self.items c.loop-caller.callers.items c.in-Some.caller cut in
    let added = c.in_ok-add.ensures.added in
    let more = length_more c.loop-caller.boxes.items c.add.new.boxes.items added.0 added.1 in
    record {
      counted = omega (arith, fewer, more, counted);
      fresh = λ lock all. in_front (IsFresh lock) c.loop-caller.callers.items c.pop.new.self.items c.in-Some.caller cut
          (inv.fresh lock all);
      behind = λ lock all.
          boxed_more 4 lock c.loop-caller.callers.items c.pop.new.self.items c.in-Some.caller c.loop-caller.boxes.items
          c.add.new.boxes.items added.0 cut added.1 (ap seen_of added.2 ∙ c.of.ensures.same) (ap levels_of added.2)
          (inv.fresh lock all) (inv.behind lock all);
    }

pub returns-clause-callers : goal.returns-clause-callers
returns-clause-callers c =
    let none : length c.loop-caller.callers.items ≡ 0 = dite (ℕ_discrete (length c.loop-caller.callers.items) 0) (λ e. e) (λ ne.
    let ok = c.loop-caller.callers.ok.0 in
    let some = c.in_default.ensures.variant.1 (omega (arith, ok, ne)) in absurd (cc)) in
    λ lock all k b e. subst (λ n. IsNew lock 4 n b.value) (omega (arith, none)) (c.loop-caller.invariant.behind lock all k b e)
