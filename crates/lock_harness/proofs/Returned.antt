-- The passes of a lock behind a run.
use Rattle.std.proofs.Common.{◌≡◌, ℕ, List, length, get_or, ◌∙◌, arith, Some}
use Rattle.std.specs.Prelude.{slice_get}
use Rattle.std.proofs.lemmas.Option.{slice_get_within, slice_get-get_or}
use Rattle.lock_rules.specs.Tag.{Tag}
use Rattle.lock_rules.specs.Meanings.{Place}
use Rattle.lock_rules.specs.Passes.{AreAll}

module _ {P : Type 0} (place : P → Place) (lock tag : Tag) (count : ℕ) (passes : List P) (all : AreAll place lock tag count passes) where
  -- they are all passes again where each that came back is in the place of the one that went
  pub all_again : (back : List P) → length back ≡ length passes
      → ((k : ℕ) (p q : P) → slice_get passes k ≡ Some p → slice_get back k ≡ Some q → place q ≡ place p)
      → AreAll place lock tag count back
  all_again back many same = record {
    all = many ∙ all.all;
    each = λ k q e.
        let within = slice_get_within back k q e in
        let at : slice_get passes k ≡ Some (get_or passes k q) = slice_get-get_or passes k q (omega (arith, within, many)) in
        same k (get_or passes k q) q at e ∙ all.each k (get_or passes k q) at;
  }
