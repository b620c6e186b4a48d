use Rattle.std.proofs.Common.{◌≡◌, ℕ, List, length, get_or, ◌∙◌, arith, Some}
use Rattle.std.specs.Prelude.{slice_get}
use Rattle.std.proofs.lemmas.Option.{slice_get_within, slice_get-get_or}
use Rattle.lock_rules.specs.Tag.{Tag}
use Rattle.lock_rules.specs.Meanings.{Place}
use Rattle.lock_rules.specs.Passes.{AreAll, IsOf}
use Rattle.example_counter.proofs.add_by_all.Goals as goal

module _ {P : Type 0} (place : P → Place) (lock tag : Tag) (count : ℕ) (passes : List P) (all : AreAll place lock tag count passes) where
  -- each pass is one of the lock
  each_of : (k : ℕ) (p : P) → slice_get passes k ≡ Some p → IsOf lock tag (place p)
  each_of k p e = let is = all.each k p e in record { lock_is = λ i. (is i).lock; tag_is = λ i. (is i).tag }

  -- where each that comes back is in the place of the one that went, they are all passes again
  all_again : (back : List P) → length back ≡ length passes
      → ((k : ℕ) (p q : P) → slice_get passes k ≡ Some p → slice_get back k ≡ Some q → place q ≡ place p)
      → AreAll place lock tag count back
  all_again back many same = record {
    all = many ∙ all.all;
    each = λ k q e.
        let within = slice_get_within back k q e in
        let at : slice_get passes k ≡ Some (get_or passes k q) = slice_get-get_or passes k q (omega (arith, within, many)) in
        same k (get_or passes k q) q at e ∙ all.each k (get_or passes k q) at;
  }

pub by_all-passes-requires-clause-allowed : goal.by_all-passes-requires-clause-allowed
by_all-passes-requires-clause-allowed g c κs within = each_of _ _ _ _ c.in-Ok.passes.items c.in-Ok.ensures.passes

pub close-requires : goal.close-requires
close-requires g c = record {
  all = all_again _ _ _ _ _ c.in-Ok.ensures.passes c.by_all-passes.result.items c.by_all-passes.ensures.many c.by_all-passes.ensures.each;
}
