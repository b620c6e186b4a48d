use Rattle.std.proofs.Common.{subst, sym}
use Rattle.command_words.specs.Plain.{plain, plain_calculation, plain_distribution}
use Rattle.command_words.specs.declared.asked.Asked.{Asked}
use Rattle.clof_answers.specs.Answered.{AnswersUnrefused}
use Rattle.clof_answers.specs.Outcome.{WordsRefused}
use Rattle.command_texts.specs.declared.status.Status.{Status}
use Rattle.clof_answers.proofs.Unrefused.{calc_complete, distrib_complete, drill_complete, set_complete, topo_complete}
use Rattle.clof_tool.proofs.answer.answer.Goals as goal

pub returns-in-Set-clause-complete : goal.returns-in-Set-clause-complete
returns-in-Set-clause-complete g c words accepted calm =
    set_complete c.set_output.result c.in-Set.list c.in-Set.text.now c.set_output.ensures.err
    (subst (λ (a : Asked). (status : Status) → WordsRefused (plain a) status → ⊥) c.in-Set.is words)

pub returns-in-Topo-clause-complete : goal.returns-in-Topo-clause-complete
returns-in-Topo-clause-complete g c words accepted calm =
    topo_complete c.topo_output.result c.in-Topo.text.now c.topo_output.ensures.err
    (subst (λ (a : Asked). (status : Status) → WordsRefused (plain a) status → ⊥) c.in-Topo.is words)

pub returns-in-Calc-clause-complete : goal.returns-in-Calc-clause-complete
returns-in-Calc-clause-complete g c words accepted calm =
    calc_complete c.calc_output.result (plain_calculation c.in-Calc.asked) c.calc_output.ensures.err
    (subst (λ (a : Asked). (status : Status) → WordsRefused (plain a) status → ⊥) c.in-Calc.is words)

pub returns-in-Distrib-clause-complete : goal.returns-in-Distrib-clause-complete
returns-in-Distrib-clause-complete g c words accepted calm =
    distrib_complete c.distrib_output.result (plain_distribution c.in-Distrib.asked) c.distrib_output.ensures.err
    (subst (λ (a : Asked). (status : Status) → WordsRefused (plain a) status → ⊥) c.in-Distrib.is words)

pub returns-in-Run-clause-complete : goal.returns-in-Run-clause-complete
returns-in-Run-clause-complete g c =
    let source = g.S.Source in
    subst (λ (a : Asked). AnswersUnrefused (plain a) (source.left c.args.source.now) (source.faults c.args.source.now)
    (source.faults c.run_on.new.source) c.run_on.result) (sym c.in-Run.is) c.run_on.ensures.complete

pub returns-in-Select-clause-complete : goal.returns-in-Select-clause-complete
returns-in-Select-clause-complete g c =
    let source = g.S.Source in
    subst (λ (a : Asked). AnswersUnrefused (plain a) (source.left c.args.source.now) (source.faults c.args.source.now)
    (source.faults c.select_on.new.source) c.select_on.result) (sym c.in-Select.is) c.select_on.ensures.complete

pub returns-in-Drill-clause-complete : goal.returns-in-Drill-clause-complete
returns-in-Drill-clause-complete g c words accepted calm = drill_complete c.drill_text.result c.drill_text.ensures.err

pub returns-in-Check-clause-complete : goal.returns-in-Check-clause-complete
returns-in-Check-clause-complete g c =
    let source = g.S.Source in
    subst (λ (a : Asked). AnswersUnrefused (plain a) (source.left c.args.source.now) (source.faults c.args.source.now)
    (source.faults c.check_on.new.source) c.check_on.result) (sym c.in-Check.is) c.check_on.ensures.complete
