use Rattle.std.proofs.Common.{[], subst, sym}
use Rattle.cohort_desks.specs.Slots.{AreFit}
use Rattle.cohort_desks.proofs.Kept.{gone_home, other_slots}
use Rattle.cohort_desks.proofs.dealing.without_home.Goals as goal

pub returns-clause-hall : goal.returns-clause-hall
returns-clause-hall g c =
    let is = c.requires.hall in
    let gathered = c.gather-slots.ensures.gathered (g.T.Tells.told c.args._roll.now) is.own in
    other_slots _ _ (g.T.Tells.told c.args._roll.now) [] _ c.args.hall c.gather-slots.result.0 is gathered.many gathered.own
    (gone_home _ _ (g.T.Tells.told c.args._roll.now) c.args.hall.slots.items c.gather-slots.result.0.items c.gather-slots.result.1.items
    gathered)

pub returns-clause-fit : goal.returns-clause-fit
returns-clause-fit g c =
    let gathered = c.gather-slots.ensures.gathered (g.T.Tells.told c.args._roll.now) c.requires.hall.own in
    subst (λ n. AreFit g.J.Numbered.number g.J.Numbered.tag (g.T.Tells.told c.args._roll.now) n c.gather-slots.result.1.items) (sym
    gathered.many) gathered.fit

pub returns-clause-distinct : goal.returns-clause-distinct
returns-clause-distinct g c = (c.gather-slots.ensures.gathered (g.T.Tells.told c.args._roll.now) c.requires.hall.own).distinct

pub returns-clause-slots : goal.returns-clause-slots
returns-clause-slots g c = (c.gather-slots.ensures.gathered (g.T.Tells.told c.args._roll.now) c.requires.hall.own).many
