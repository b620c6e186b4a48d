use Rattle.std.proofs.Common.{◌≡◌, length, refl, subst}
use Rattle.std.specs.Prelude.{IfSome}
use Rattle.level_callers.specs.Seen.{AreFresh}
use Rattle.level_handles.proofs.Ready.{of_lock, raised_ready}
use Rattle.level_handles.proofs.boxes.callers_for.Goals as goal

pub make_callers-requires : goal.make_callers-requires
make_callers-requires g c = record { ready = raised_ready c.requires.raised c.requires.may }

pub returns-clause-count : goal.returns-clause-count
returns-clause-count g c =
    subst (λ n. IfSome c.make_callers.result (λ made. length made.items ≡ n)) (c.requires.raised.contexts.lowest refl)
    c.make_callers.ensures.count

pub returns-clause-callers : goal.returns-clause-callers
returns-clause-callers g c =
    of_lock c.args._shape.now (g.C.Composed.tag c.args.lock) (λ lock made. AreFresh lock made.items) c.make_callers.result
    c.requires.may.lock c.make_callers.ensures.callers
