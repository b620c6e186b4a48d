use Rattle.std.proofs.Common.{ℕ, List, length, ap, arith}
use Rattle.std.specs.List.{sum_by}
use Rattle.std.specs.Borrow.{Bor}
use Rattle.threaded_runner.proofs.Sums.{sum_sections, sum_texts}
use Rattle.threaded_runner.proofs.roots.journal_of.Goals as goal

pub reserve-requires : goal.reserve-requires
reserve-requires c =
    let texts = c.in_ok-bytes.bytes.items in
    let lent = ap (sum_by (λ (one : Bor (List ℕ)). length one.now)) c.deref.ensures.value in
    let same = ap (sum_by (λ (one : List ℕ). length one)) c.in_ok-bytes.ensures in
    omega (arith, lent, sum_texts texts, same, sum_sections c.args.sections.now, c.requires.small)
