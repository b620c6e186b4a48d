use Rattle.std.proofs.Common.{◌≡◌, length, subst}
use Rattle.std.specs.Prelude.{IfSome}
use Rattle.level_handles.specs.Making.{AreBoxed, IsNew}
use Rattle.level_handles.proofs.Ready.{of_lock}
use Rattle.level_handles.proofs.boxes.five_levels.Goals as goal

pub returns-clause-count : goal.returns-clause-count
returns-clause-count c =
    subst (λ n. IfSome c.five_boxes.result (λ made. length made.items ≡ n)) c.in_ok-callers.ensures.count c.five_boxes.ensures.count

pub returns-clause-callers : goal.returns-clause-callers
returns-clause-callers c =
    let callers = c.in_ok-callers.ensures.callers in
    of_lock c.args.shape.now callers.0 (λ lock made. AreBoxed (IsNew lock 5) made.items) c.five_boxes.result callers.1
    (c.five_boxes.ensures.callers callers.0 callers.2)
