use Rattle.std.proofs.Common.{sym, ap, ◌∙◌}
use Rattle.std.proofs.lemmas.Bool.{lt-leb}
use Rattle.calc_query.specs.Picks.{is_wrapped}
use Rattle.calc_query.proofs.Wraps.{wraps, follows, none_before}
use Rattle.calc_query.proofs.picks.wraps_to.Goals as goal

pub returns-then-first-candidates : goal.returns-then-first-candidates
returns-then-first-candidates c =
    wraps c.args.first c.args.candidates c.args.number c.if-first-candidates.true (c.requires.within c.in-Logical.is) c.args.count
    ∙ ap (λ numbering. is_wrapped numbering c.args.first c.args.count c.args.candidates c.args.number) (sym c.in-Logical.is)

pub returns-then-first-number : goal.returns-then-first-number
returns-then-first-number c =
    follows c.args.first c.args.count c.args.number c.if-first-number.true
    ∙ ap (λ numbering. is_wrapped numbering c.args.first c.args.count c.args.candidates c.args.number) (sym c.in-Physical.is)

pub returns-else-first-number : goal.returns-else-first-number
returns-else-first-number c =
    lt-leb c.args.first c.args.number c.if-first-number.false
    ∙ none_before c.args.first c.args.count c.args.number c.if-first-number.false
    ∙ ap (λ numbering. is_wrapped numbering c.args.first c.args.count c.args.candidates c.args.number) (sym c.in-Physical.is)
