use Rattle.std.proofs.Common.{sym, ◌∙◌}
use Rattle.synth_text.proofs.RuleLaws.{refused_empty, refused_again, refused_end, refused_many, refused_none}
use Rattle.synth_text.proofs.rules.check_items.Goals as goal

pub returns-then-levels-eq0 : goal.returns-then-levels-eq0
returns-then-levels-eq0 c = sym (refused_empty c.args.parts.now (sym c.count_levels-levels.ensures ∙ c.if-levels-eq0.true))

pub returns-in-Some : goal.returns-in-Some
returns-in-Some c =
    sym (refused_again c.args.parts.now c.in-Some.at (λ none. c.if-levels-eq0.false (c.count_levels-levels.ensures ∙ none))
    (sym c.in-Some.ensures))

pub returns-in-Some-wrong_end : goal.returns-in-Some-wrong_end
returns-in-Some-wrong_end c =
    sym (refused_end c.args.parts.now c.in-Some-wrong_end.at (λ none. c.if-levels-eq0.false (c.count_levels-levels.ensures ∙ none))
    (sym c.in_default.ensures)
    (sym (rw c.from_last_level.ensures at c.in-Some-wrong_end.ensures)))

pub returns-then-levels-gt-LEVEL_LIMIT : goal.returns-then-levels-gt-LEVEL_LIMIT
returns-then-levels-gt-LEVEL_LIMIT c =
    sym (refused_many c.args.parts.now (λ none. c.if-levels-eq0.false (c.count_levels-levels.ensures ∙ none)) (sym c.in_default.ensures)
    (sym (rw c.from_last_level.ensures at c.in_default-wrong_end.ensures))
    (rw c.count_levels-levels.ensures at c.if-levels-gt-LEVEL_LIMIT.true))

pub returns : goal.returns
returns c =
    sym (refused_none c.args.parts.now (λ none. c.if-levels-eq0.false (c.count_levels-levels.ensures ∙ none)) (sym c.in_default.ensures)
    (sym (rw c.from_last_level.ensures at c.in_default-wrong_end.ensures))
    (rw c.count_levels-levels.ensures at c.if-levels-gt-LEVEL_LIMIT.false))
