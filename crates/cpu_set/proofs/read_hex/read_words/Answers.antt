use Rattle.std.proofs.Common.{rules, ◌≡◌, ◌∷◌, ◌+◌, ◌-◌, length, Some, ap, arith}
use Rattle.cpu_set.proofs.PartLemmas.{parts_left, first_of_parts}
use Rattle.cpu_set.specs.Readings.{parts_of}
use Rattle.cpu_set.proofs.HexSteps.{HexSoFar, hex_none, hex_left, hex_added, hex_skipped, hex_all, hex_all_good}
use Rattle.cpu_set.proofs.read_hex.read_words.Goals as goal
use Rattle.cpu_set.proofs.read_hex.read_words.Goals.{then-value-ne0, else-value-ne0}

pub loop-rest-init : goal.loop-rest-init
loop-rest-init c = rw c.empty-set.ensures (hex_none c.args.text _ (ap (λ n. n + 1) c.commas-left.ensures))

pub loop-rest-preserved : goal.loop-rest-preserved
loop-rest-preserved c =
    let so_far : HexSoFar c.args.text.now (Some c.in-Some.words) c.loop-rest.at c.loop-rest.left c.loop-rest.set =
    rw c.in-Some.is at c.loop-rest.invariant in
    let left : c.loop-rest.left ≡ length (parts_left c.first_part.result.1) + 1 =
    hex_left c.args.text.now c.in-Some.words c.loop-rest.at c.loop-rest.left c.loop-rest.set c.first_part.result.0.now c.first_part.result.1
    so_far (first_of_parts c.in-Some.words.now c.first_part.result.0.now c.first_part.result.1 c.first_part.ensures) in
    elim c.if-value-ne0.branch [
      | then-value-ne0 w ↦ rw w.set-is (hex_added c.args.text.now c.in-Some.words c.loop-rest.at c.loop-rest.left c.loop-rest.set
          c.first_part.result.0.now c.first_part.result.1 so_far
          (first_of_parts c.in-Some.words.now c.first_part.result.0.now c.first_part.result.1 c.first_part.ensures)
          (c.loop-rest.left - 1) c.in_ok-value.value w.add_word.new.self
          (omega (arith, left)) c.in_ok-value.ensures.good c.in_ok-value.ensures.value w.add_word.ensures)
      | else-value-ne0 w ↦ rw w.set-is (hex_skipped c.args.text.now c.in-Some.words c.loop-rest.at c.loop-rest.left c.loop-rest.set
          c.first_part.result.0.now c.first_part.result.1 so_far
          (first_of_parts c.in-Some.words.now c.first_part.result.0.now c.first_part.result.1 c.first_part.ensures)
          (c.loop-rest.left - 1) c.in_ok-value.value
          (omega (arith, left)) c.in_ok-value.ensures.good c.in_ok-value.ensures.value w.if-value-ne0.false)
    ]

pub returns-clause-numbers : goal.returns-clause-numbers
returns-clause-numbers c =
    hex_all c.args.text.now c.loop-rest.at c.loop-rest.left c.loop-rest.set (rw c.in_default.is at c.loop-rest.invariant)

pub returns-clause-good : goal.returns-clause-good
returns-clause-good c =
    hex_all_good c.args.text.now c.loop-rest.at c.loop-rest.left c.loop-rest.set (rw c.in_default.is at c.loop-rest.invariant)

pub returns-in_err-value-clause-fault : goal.returns-in_err-value-clause-fault
returns-in_err-value-clause-fault c =
    let first : parts_of c.in-Some.words.now ≡ c.first_part.result.0.now ∷ parts_left c.first_part.result.1 =
    first_of_parts c.in-Some.words.now c.first_part.result.0.now c.first_part.result.1 c.first_part.ensures in
    search rules
