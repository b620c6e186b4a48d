use Rattle.std.proofs.Common.{◌≡◌, length, sym, ap, ◌∙◌}
use Rattle.mc_text.specs.Request.{WholeCommand}
use Rattle.mc_text.proofs.Beginnings.{begins_first, begins_count}
use Rattle.mc_text.proofs.laws.at_most_one_command.Goals as goal

pub returns : goal.returns
returns c = λ text first second m n begins other.
    let read = begins_first text first m begins in
    let read_other = begins_first text second n other in
    let same : first ≡ second = cc in
    (same, sym (begins_count text first m begins) ∙ ap (λ (w : WholeCommand). length w.spelling) same ∙ begins_count text second n other)
