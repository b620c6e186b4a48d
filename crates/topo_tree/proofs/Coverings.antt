-- Which PUs objects cover, and the tables of their sets.
use Rattle.std.proofs.Common.{◌≡◌, ℕ, ◌+◌, ◌*◌, ◌/◌, ◌<◌, List, [], ◌∷◌, ◌++◌, length, map, take, slice_range, sym, ap, ◌∙◌, arith}
use Rattle.std.proofs.Math.Nat.{mul_comm, mul_assoc, div-eq_of_eq-mul_left}
use Rattle.std.proofs.lemmas.List.{map_push}
use Rattle.std.proofs.lemmas.List.FromFn.{map-range_with_len_more}
use Rattle.std.specs.List.{range_with_len}
use Rattle.cpu_set.specs.Sets.{has, numbers_where}
use Rattle.synth_text.specs.declared.description.Level.{Level}
use Rattle.synth_text.specs.Rules.{arities, product}
use Rattle.topo_tree.proofs.CountLaws.{HaveArities, whole_counts}
use Rattle.topo_tree.specs.Coverage.{first_covered, set_covered}

pub first_covered_whole : (pus count index : ℕ) → 0 < count → count * (pus / count) ≡ pus
    → first_covered pus count index ≡ index * (pus / count)
first_covered_whole pus count index some whole =
    div-eq_of_eq-mul_left some (ap (λ n. index * n) (sym whole ∙ mul_comm count (pus / count)) ∙ sym (mul_assoc index (pus / count) count))

pub set_covered_whole : (numbers : List ℕ) (count index : ℕ) → 0 < count → count * (length numbers / count) ≡ length numbers
    → set_covered numbers count index ≡ numbers_where
    (has (slice_range numbers (index * (length numbers / count)) ((index + 1) * (length numbers / count))))
unfolding set_covered
set_covered_whole numbers count index some whole =
    ap (λ from. numbers_where (has (slice_range numbers from (first_covered (length numbers) count (index + 1)))))
    (first_covered_whole (length numbers) count index some whole)
    ∙ ap (λ to. numbers_where (has (slice_range numbers (index * (length numbers / count)) to)))
    (first_covered_whole (length numbers) count (index + 1) some whole)

-- one more depth
pub mapped_more : {V : Type 0} (items : V → List (List ℕ)) (f : ℕ → List (List ℕ)) (old new : List V) (next : V) (n : ℕ) → new ≡ old
    ++ next ∷ [] → map items old ≡ map f (range_with_len 0 n) → items next ≡ f n → map items new ≡ map f (range_with_len 0 (n + 1))
mapped_more items f old new next n pushed so_far here =
    ap (map items) pushed ∙ map_push items old next ∙ ap (λ sets. sets ++ items next ∷ []) so_far
    ∙ ap (λ set. map f (range_with_len 0 n) ++ set ∷ []) here ∙ sym (map-range_with_len_more f 0 n n (omega arith))

whole_for : (pus other count : ℕ) → other ≡ count → count * (pus / count) ≡ pus → other * (pus / other) ≡ pus
whole_for pus other count same whole = ap (λ n. n * (pus / n)) same ∙ whole

-- a count that is the product down to a depth divides the PUs
pub divides : (levels : List Level) (depth pus count : ℕ) → HaveArities levels → pus ≡ product (arities levels)
    → count ≡ product (take depth (arities levels)) → count * (pus / count) ≡ pus
divides levels depth pus count some all same =
    whole_for pus count (product (take depth (arities levels))) same
    (ap (λ n. product (take depth (arities levels)) * (n / product (take depth (arities levels)))) all ∙ whole_counts depth levels some
    ∙ sym all)
