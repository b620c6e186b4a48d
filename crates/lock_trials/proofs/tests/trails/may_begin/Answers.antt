use Rattle.std.proofs.Common.{◌≡◌, ◌∷◌, [], sym, ◌∙◌, subst}
use Rattle.keep_local.specs.Turns.{last_turn, Begins}
use Rattle.keep_local.proofs.Checked.{begins_alike}
use Rattle.lock_trials.proofs.tests.trails.may_begin.Goals as goal

pub returns-in-Some : goal.returns-in-Some
returns-in-Some c = λ yes.
    let same : last_turn (c.in-Some.last ∷ []) ≡ last_turn c.args.trail.now.closed = sym c.in-Some.is ∙ c.last.ensures.last in
    subst (λ s. Begins s c.args.trail.now.closed c.args.turn) c.shape.ensures.shape
    (begins_alike _ (c.in-Some.last ∷ []) c.args.trail.now.closed c.args.turn same (c.begins.ensures.0 yes))

pub returns-in-None : goal.returns-in-None
returns-in-None c = λ yes.
    let same : last_turn [] ≡ last_turn c.args.trail.now.closed = sym c.in-None.is ∙ c.last.ensures.last in
    subst (λ s. Begins s c.args.trail.now.closed c.args.turn) c.shape-in-None.ensures.shape
    (begins_alike _ [] c.args.trail.now.closed c.args.turn same (c.begins-in-None.ensures.0 yes))
