use Rattle.std.proofs.Common.{◌≡◌, ◌^◌, ◌<◌, List, ℕ, sym, subst, rules}
use Rattle.std.specs.Prelude.{sum}
use Rattle.keep_local.specs.Shapes.{callers_of}
use Rattle.keep_local.specs.States.{free_quotas}
use Rattle.keep_local.proofs.Parts.{parts_fit}
use Rattle.keep_local.proofs.trail.Trail.unrecorded.Goals as goal

pub make-requires-clause-fits : goal.make-requires-clause-fits
make-requires-clause-fits c =
    let items : c.deref.result.now ≡ free_quotas (callers_of c.args.shape) = search rules in
    subst (λ (qs : List ℕ). sum qs < 2 ^ 64) (sym items) (parts_fit (callers_of c.args.shape))
