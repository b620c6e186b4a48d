-- Callers whose sections are tallied.
use Rattle.std.proofs.Common.{◌≡◌, ℕ, suc, ◌≤◌, List, [], ◌∷◌, length, arith}
use Rattle.std.proofs.lemmas.List.Sums.{sum_by-cons}
use Rattle.std.specs.Prelude.{map, sum_by}
use Rattle.std.specs.List.{All}
use denote.Bor.{Bor}
use Rattle.mc_text.specs.Reading.{commands_of}
use Rattle.kv_history.specs.declared.caller.Caller.{Caller}
use Rattle.kv_history.specs.Callers.{section_of, IsTallied}
use Rattle.kv_history.specs.Log.{command_count}

-- the tallies count all commands of the sections
pub sum-tallied : (callers : List Caller) → All IsTallied callers
    → sum_by (λ caller. caller.tally.commands) callers ≡ command_count (map section_of callers)
sum-tallied [] all = omega arith
sum-tallied (caller ∷ callers) all =
    let first : IsTallied caller = all 0 caller (omega arith) in
    omega (
      arith,
      first.commands,
      sum-tallied callers (λ k d within. all (suc k) d (omega arith)),
      sum_by-cons (λ (one : Caller). one.tally.commands) caller callers,
      sum_by-cons (λ (section : List ℕ). length (commands_of section)) caller.section.now (map section_of callers),
    )

-- and these are no more than the sections' bytes
pub sum-tallied-le : (callers : List Caller) → All IsTallied callers
    → sum_by (λ caller. caller.tally.commands) callers ≤ sum_by (λ section. length section) (map section_of callers)
sum-tallied-le [] all = omega arith
sum-tallied-le (caller ∷ callers) all =
    let first : IsTallied caller = all 0 caller (omega arith) in
    omega (
      arith,
      first.bound,
      sum-tallied-le callers (λ k d within. all (suc k) d (omega arith)),
      sum_by-cons (λ (one : Caller). one.tally.commands) caller callers,
      sum_by-cons (λ (one : List ℕ). length one) caller.section.now (map section_of callers),
    )

-- the lengths of lent sections
pub lengths-lent : (sections : List (Bor (List ℕ)))
    → sum_by (λ section. length section) (map (λ section. section.now) sections) ≡ sum_by (λ section. length section.now) sections
lengths-lent [] = omega arith
lengths-lent (section ∷ sections) =
    omega (
      arith,
      lengths-lent sections,
      sum_by-cons (λ (one : List ℕ). length one) section.now (map (λ one. one.now) sections),
      sum_by-cons (λ (one : Bor (List ℕ)). length one.now) section sections,
    )
