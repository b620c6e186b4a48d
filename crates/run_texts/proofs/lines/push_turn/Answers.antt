use Rattle.std.proofs.Common.{map, arith}
use Rattle.run_texts.specs.Views.{line_view, section_view}
use Rattle.run_texts.proofs.Fronts.{line_there}
use Rattle.run_texts.proofs.lines.push_turn.Goals as goal

pub returns : goal.returns
returns c =
    line_there c.push_behind.result (map section_view c.args.sections.now) c.args.number (line_view c.args.line.now) _ _ _ (omega arith)
    c.in_ok-push_front.ensures c.push_behind.ensures
