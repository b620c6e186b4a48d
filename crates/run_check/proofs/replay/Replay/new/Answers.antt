use Rattle.std.proofs.Common.{◌≡◌, List, ℕ, length, map, sym, ap, ◌∙◌, arith}
use Rattle.std.specs.List.{sum_by}
use Rattle.std.specs.Borrow.{Bor}
use Rattle.mc_text.specs.Reading.{commands_of}
use Rattle.run_check.proofs.Endings.{all_left, commands_by, sum_lent, sum_sections}
use Rattle.run_check.proofs.replay.Replay.new.Goals as goal

pub reserve-requires : goal.reserve-requires
reserve-requires c =
    let lent = c.deref.result.now in
    let same : map (λ (one : Bor (List ℕ)). one.now) lent ≡ map (λ section. section.bytes.now) c.args.sections.now =
    ap (map (λ (one : Bor (List ℕ)). one.now)) c.deref.ensures.value ∙ c.in_ok-lent.ensures in
    omega (
      arith,
      c.requires,
      sum_lent lent,
      ap (sum_by (λ (one : List ℕ). length one)) same,
      sum_sections c.args.sections.now,
    )

pub invariant_of-result : goal.invariant_of-result
invariant_of-result c =
    let lent = c.deref.result.now in
    let same : map (λ (one : Bor (List ℕ)). one.now) lent ≡ map (λ section. section.bytes.now) c.args.sections.now =
    ap (map (λ (one : Bor (List ℕ)). one.now)) c.deref.ensures.value ∙ c.in_ok-lent.ensures in
    all_left c.in_ok-journal.journal c.in_ok-left.left.items
    (c.in_ok-left.ensures ∙ commands_by c.args.sections.now ∙ ap (map commands_of) (sym (c.in_ok-journal.ensures.sections ∙ same)))
    c.in_ok-journal.ensures.entries
