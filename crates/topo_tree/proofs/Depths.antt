-- Depths of a kind, by their order.
use Rattle.std.proofs.Common.{◌≡◌, ℕ, suc, ◌+◌, ◌-◌, ◌<◌, Bool, true, false, List, ◌∷◌, refl, ap, ◌∙◌, arith}
use Rattle.std.specs.List.{range_with_len, filter, slice_get}
use Rattle.cpu_set.specs.SetLaws.{filter_in, filter_out}

-- what a range that isn't empty begins with
range_first : (depth count : ℕ) → depth < count
    → range_with_len depth (count - depth) ≡ depth ∷ range_with_len (depth + 1) (count - (depth + 1))
range_first depth count within =
    let more : count - depth ≡ suc (count - (depth + 1)) = omega arith in
    ap (range_with_len depth) more

module _ (test : ℕ → Bool) where
  -- the depths from one on that pass
  abbrev pub passing_from : ℕ → ℕ → List ℕ
  passing_from depth count = filter test (range_with_len depth (count - depth))

  passing_in : (depth count : ℕ) → depth < count → test depth ≡ true → passing_from depth count ≡ depth ∷ passing_from (depth + 1) count
  passing_in depth count within passes = ap (filter test) (range_first depth count within) ∙ filter_in test depth _ _ passes refl

  pub passing_out : (depth count : ℕ) → depth < count → test depth ≡ false → passing_from depth count ≡ passing_from (depth + 1) count
  passing_out depth count within fails = ap (filter test) (range_first depth count within) ∙ filter_out test depth _ fails

  pub numbered_later : (depth count number above : ℕ) → depth < count → test depth ≡ true → above < number
      → slice_get (passing_from depth count) (number - above) ≡ slice_get (passing_from (depth + 1) count) (number - (above + 1))
  numbered_later depth count number above within passes more =
      let next : number - above ≡ suc (number - (above + 1)) = omega arith in
      ap (λ xs. slice_get xs (number - above)) (passing_in depth count within passes)
      ∙ ap (slice_get (depth ∷ passing_from (depth + 1) count)) next

  pub numbered_first : (count number : ℕ)
      → slice_get (passing_from 0 count) (number - 0) ≡ slice_get (filter test (range_with_len 0 count)) number
  numbered_first count number =
      let all : count - 0 ≡ count = omega arith in
      let same : number - 0 ≡ number = omega arith in
      ap (λ n. slice_get (filter test (range_with_len 0 n)) (number - 0)) all ∙ ap (slice_get (filter test (range_with_len 0 count))) same
