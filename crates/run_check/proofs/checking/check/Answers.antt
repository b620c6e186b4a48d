use Rattle.std.proofs.Common.{map, sym, ◌∙◌, subst}
use Rattle.run_texts.specs.Views.{section_view}
use Rattle.run_texts.proofs.Texts.{bytes_of}
use Rattle.run_check.specs.Broken.{IsVerdict}
use Rattle.run_check.specs.Runs.{IsCallersVerdict, Makes}
use Rattle.run_check.proofs.Comings.{come_more, come_none, end_broken, made_shorter, turn_broken}
use Rattle.run_check.proofs.Verdicts.{on_ok, to_verdict}
use Rattle.run_check.proofs.checking.check.Goals as goal

pub loop-run-init : goal.loop-run-init
loop-run-init c =
    come_none (map section_view c.args.sections.now) c.args.shape.now c.args.printed.now c.in_ok-run.run'
    (c.in_ok-run.ensures.under_way c.args.shape.now) c.in_ok-run.ensures.turns

pub returns-in_default : goal.returns-in_default
returns-in_default c =
    let sections = map section_view c.args.sections.now in
    turn_broken sections c.args.shape.now c.args.printed.now c.loop-run.rest.now c.loop-run.run c.loop-run.line c.loop-run.invariant
    (sym c.loop-run-test.ensures.value)
    (subst (Makes sections c.args.shape.now c.loop-run.run c.make.new.self c.loop-run.rest.now) c.in_default.is c.in_ok-behind.ensures)

pub loop-run-smaller : goal.loop-run-smaller
loop-run-smaller c =
    let sections = map section_view c.args.sections.now in
    made_shorter sections c.args.shape.now c.loop-run.run c.make.new.self c.loop-run.rest.now c.in-Some.behind.now
    (subst (Makes sections c.args.shape.now c.loop-run.run c.make.new.self c.loop-run.rest.now) c.in-Some.is c.in_ok-behind.ensures)

pub loop-run-preserved : goal.loop-run-preserved
loop-run-preserved c =
    let sections = map section_view c.args.sections.now in
    come_more sections c.args.shape.now c.args.printed.now c.loop-run.rest.now c.loop-run.run c.loop-run.line c.loop-run.invariant
    c.make.new.self c.in-Some.behind.now
    (subst (Makes sections c.args.shape.now c.loop-run.run c.make.new.self c.loop-run.rest.now) c.in-Some.is c.in_ok-behind.ensures)

pub returns-then-not-has_ended : goal.returns-then-not-has_ended
returns-then-not-has_ended c =
    let sections = map section_view c.args.sections.now in
    let tells = c.has_ended.ensures sections c.loop-run.invariant.under in
    let other = c.if-not-has_ended.true in
    end_broken sections c.args.shape.now c.args.printed.now c.loop-run.rest.now c.loop-run.run c.loop-run.line c.loop-run.invariant
    (sym c.loop-run-test.ensures.value) (λ ended. let also = tells.1 ended in cc)

pub check_callers-requires-clause-same : goal.check_callers-requires-clause-same
check_callers-requires-clause-same c = c.loop-run.invariant.under.same ∙ sym (bytes_of c.args.sections.now)

pub returns : goal.returns
returns c =
    let sections = map section_view c.args.sections.now in
    let shape = c.args.shape.now in
    let come = c.loop-run.invariant in
    let ended = (c.has_ended.ensures sections come.under).0 c.if-not-has_ended.false in
    on_ok (IsCallersVerdict sections c.loop-run.rest.now c.loop-run.line) (IsVerdict sections shape c.args.printed.now)
    c.check_callers.result
    (to_verdict sections shape c.args.printed.now c.loop-run.rest.now c.loop-run.run c.loop-run.line come
    (sym c.loop-run-test.ensures.value) ended c.facts.ensures.callers c.facts.ensures.own_first
    (c.facts.ensures.one_thread come.under.whole))
    c.check_callers.ensures
