use Rattle.std.proofs.Common.{sym, ◌∙◌, refl}
use Rattle.keep_local.specs.Shapes.{callers_of}
use Rattle.keep_local.specs.States.{free_quotas, new_shares}
use Rattle.own_payload.proofs.Made.{name_of}
use Rattle.own_payload.proofs.roots.new_unrecorded_root.Goals as goal

pub returns-clause-shares : goal.returns-clause-shares
returns-clause-shares g c =
    let name = name_of c.new-2.result _ refl ∙ (λ i. (c.new-2.ensures.trail i).name) in
    c.in-Ok-unrecorded.ensures.shares ∙ (λ i. new_shares (sym name i) (free_quotas (callers_of (c.in-Ok.ensures i))))
