use Rattle.std.proofs.Common.{subst, sym}
use Rattle.drill_text.specs.Sums.{HoldsSums}
use Rattle.drill_text.proofs.Readings.{commands_are}
use Rattle.drill_text.proofs.Totals.{sums_held}
use Rattle.drill_text.proofs.text.summary.Goals as goal

pub told-requires : goal.told-requires
told-requires c =
    subst (HoldsSums c.args.drill) (sym c.store.ensures.value)
    (sums_held c.args.drill (commands_are c.one_reading.ensures.exists c.one_reading.ensures.only c.args.drill) c.args.journal.now
    c.requires.sections c.requires.given c.facts.ensures.callers c.facts.ensures.own_first (c.facts.ensures.history c.requires.whole))
