-- Candidates that stand side by side, picked one after another.
use Rattle.std.proofs.Common.{◌≡◌, ◌⊎◌, inl, inr, ℕ, ◌+◌, ◌<◌, ◌≤◌, Bool, true, false, ◌&&◌, ◌==◌, List, [], ◌∷◌, length, slice_index, refl}
use Rattle.std.proofs.Common.{sym, ap, ◌∙◌, arith}
use Rattle.std.specs.List.{range_with_len}
use Rattle.std.proofs.lemmas.Bool.{and_right}
use Rattle.std.proofs.lemmas.List.FromFn.{length-range_with_len, get_or-range_with_len}
use Rattle.cpu_set.specs.Sets.{numbers_where, union}
use Rattle.synth_text.specs.declared.description.Description.{Description}
use Rattle.calc_query.specs.declared.query.Numbering.{Numbering}
use Rattle.calc_query.specs.declared.query.Part.{Part}
use Rattle.calc_query.specs.declared.query.Numbering.TheVariants as numberings
use Rattle.calc_query.specs.Picks.{is_picked, IsReach}
use Rattle.calc_query.specs.Candidates.{number_of, number_at}
use Rattle.calc_query.specs.Selection.{is_picked_among}
use Rattle.calc_query.proofs.SelectionLaws.{collected, collect_more, collect_same, collect_up, has_one}

-- whether the candidate at a place of a run is the object, and is picked
abbrev pub picked_at : Description → Numbering → Part → ℕ → ℕ → ℕ → ℕ → Bool
picked_at described numbering part first count index place =
    slice_index (range_with_len first count) place == index && is_picked numbering part.pick (length (range_with_len first count))
    (number_at described numbering part.layer (range_with_len first count) place)

module _ (described : Description) (numbering : Numbering) (part : Part) (first count : ℕ) where
  picked_here : (index place : ℕ) → place < count
      → picked_at described numbering part first count index place
      ≡ (first + place == index && is_picked numbering part.pick count (number_of described numbering part.layer (first + place) place))
  picked_here index place within =
      ap (λ n. n == index && is_picked numbering part.pick (length (range_with_len first count))
      (number_at described numbering part.layer (range_with_len first count) place)) (get_or-range_with_len first count place 0 within)
      ∙ ap (λ m. first + place == index && is_picked numbering part.pick m
      (number_at described numbering part.layer (range_with_len first count) place)) (length-range_with_len first count)
      ∙ ap (λ n. first + place == index && is_picked numbering part.pick count n)
      (ap (λ i. number_of described numbering part.layer i place) (get_or-range_with_len first count place 0 within))

  and_yes : (b : Bool) → (b && true) ≡ b
  and_yes true = refl
  and_yes false = refl

  pub pick_more : (chosen : List ℕ) (place number : ℕ) (picks : Bool) → place < count
      → number ≡ number_of described numbering part.layer (first + place) place → picks ≡ is_picked numbering part.pick count number
      → picks ≡ true
      → chosen ≡ collected (picked_at described numbering part first count) place
      → union chosen ((first + place) ∷ []) ≡ collected (picked_at described numbering part first count) (place + 1)
  pick_more chosen place number picks within numbered tells yes_a so_far =
      collect_more (picked_at described numbering part first count) chosen ((first + place) ∷ []) place so_far (λ index low.
      has_one (first + place) index ∙ sym (picked_here index place within
      ∙ ap (λ b. (first + place == index) && b) (ap (is_picked numbering part.pick count) (sym numbered) ∙ sym tells ∙ yes_a)
      ∙ and_yes (first + place == index)))

  pub pick_none : (chosen : List ℕ) (place number : ℕ) (picks : Bool) → place < count
      → number ≡ number_of described numbering part.layer (first + place) place → picks ≡ is_picked numbering part.pick count number
      → picks ≡ false
      → chosen ≡ collected (picked_at described numbering part first count) place
      → chosen ≡ collected (picked_at described numbering part first count) (place + 1)
  pick_none chosen place number picks within numbered tells no_a so_far =
      collect_same (picked_at described numbering part first count) chosen place so_far (λ index low.
      picked_here index place within ∙ and_right (first + place == index)
      (is_picked numbering part.pick count (number_of described numbering part.layer (first + place) place))
      (ap (is_picked numbering part.pick count) (sym numbered) ∙ sym tells ∙ no_a))

  -- places outside the reach add nothing
  pub outside : (ends : ℕ × ℕ) → (numbering ≡ numberings.Logical → IsReach part.pick count ends.0 ends.1)
      → (numbering ≡ numberings.Physical → ends ≡ (0, count)) → (place : ℕ) → place < count → (place < ends.0) ⊎ (ends.1 ≤ place)
      → is_picked numbering part.pick count (number_of described numbering part.layer (first + place) place) ≡ false
  outside ends logical physical place within out = outside_by numbering refl
    where
      outside_by : (n : Numbering) → numbering ≡ n
          → is_picked numbering part.pick count (number_of described numbering part.layer (first + place) place) ≡ false
      outside_by numberings.Logical is =
          ap (λ m. is_picked m part.pick count (number_of described m part.layer (first + place) place)) is
          ∙ logical is place within out
      outside_by numberings.Physical is =
          let low : ends.0 ≡ 0 = ap (λ (p : ℕ × ℕ). p.0) (physical is) in
          let high : ends.1 ≡ count = ap (λ (p : ℕ × ℕ). p.1) (physical is) in
          elim out [
            | inl before ↦ absurd (omega (arith, low, before))
            | inr behind ↦ absurd (omega (arith, high, behind, within))
          ]

  pub pick_up : (from to : ℕ) → from ≤ to → to ≤ count
      → ((place : ℕ) → from ≤ place → place < to
      → is_picked numbering part.pick count (number_of described numbering part.layer (first + place) place) ≡ false)
      → collected (picked_at described numbering part first count) from ≡ collected (picked_at described numbering part first count) to
  pick_up from to up within none =
      collect_up (picked_at described numbering part first count) from to up (λ place index on low below.
      picked_here index place (omega arith) ∙ and_right (first + place == index)
      (is_picked numbering part.pick count (number_of described numbering part.layer (first + place) place)) (none place on low))

  pub pick_all : (chosen : List ℕ) (place : ℕ) → place ≡ count → chosen ≡ collected (picked_at described numbering part first count) place
      → chosen ≡ numbers_where (is_picked_among described numbering part (range_with_len first count))
  unfolding is_picked_among
  pick_all chosen place all so_far =
      so_far ∙ ap (collected (picked_at described numbering part first count)) (all ∙ sym (length-range_with_len first count))
