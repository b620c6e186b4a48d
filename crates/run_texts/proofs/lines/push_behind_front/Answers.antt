use Rattle.std.proofs.Common.{◌++◌, ℕ, List, map, ap, ◌∙◌, arith}
use Rattle.run_texts.specs.Views.{line_view, section_view}
use Rattle.run_texts.proofs.Fronts.{line_there}
use Rattle.run_texts.proofs.lines.push_behind_front.Goals as goal

pub returns : goal.returns
returns c =
    line_there c.push_behind.result (map section_view c.args.sections.now) c.args.number (line_view c.args.line.now) _ _ _ (omega arith)
    (c.in_ok-extend_from_slice.ensures.items ∙ ap (λ (front : List ℕ). c.args.out.now.items ++ front) c.requires) c.push_behind.ensures
