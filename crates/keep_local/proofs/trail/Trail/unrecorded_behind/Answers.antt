use Rattle.std.proofs.Common.{ap, sym, ◌∙◌, get_or, arith}
use Rattle.keep_local.proofs.Lone.{first_share, trail_is, shares_are}
use Rattle.keep_local.proofs.trail.Trail.unrecorded_behind.Goals as goal

pub begin_behind-requires-clause-own : goal.begin_behind-requires-clause-own
begin_behind-requires-clause-own c =
    let first = c.index_mut.ensures.value ∙ ap (λ shares. get_or shares 0 c.index_mut.result.now) c.in_ok-trail.ensures.shares
    ∙ first_share _ _ _ c.requires.caller in
    ap (λ s. s.name) first

pub begin_behind-requires-clause-quota : goal.begin_behind-requires-clause-quota
begin_behind-requires-clause-quota c =
    let first = c.index_mut.ensures.value ∙ ap (λ shares. get_or shares 0 c.index_mut.result.now) c.in_ok-trail.ensures.shares
    ∙ first_share _ _ _ c.requires.caller in
    let made = ap (λ s. s.made) first in
    let quota = ap (λ s. s.quota) first in
    let fits = c.requires.quota in
    omega (arith, made, quota, fits)

pub returns-clause-trail : goal.returns-clause-trail
returns-clause-trail c =
    let first = c.index_mut.ensures.value ∙ ap (λ shares. get_or shares 0 c.index_mut.result.now) c.in_ok-trail.ensures.shares
    ∙ first_share _ _ _ c.requires.caller in
    trail_is _ _ _ _ _ c.in_ok-trail.ensures.trail (ap (λ s. s.caller) first) c.begin_behind.ensures.behind

pub returns-clause-shares : goal.returns-clause-shares
returns-clause-shares c =
    let first = c.index_mut.ensures.value ∙ ap (λ shares. get_or shares 0 c.index_mut.result.now) c.in_ok-trail.ensures.shares
    ∙ first_share _ _ _ c.requires.caller in
    shares_are _ _ _ _ _ _ _ c.in_ok-trail.ensures.shares first c.begin_behind.ensures.share
    (sym (ap (λ s. s.name) c.begin_behind.ensures.behind))
