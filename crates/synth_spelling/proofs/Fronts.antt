-- The bytes in front of a text that pass a test.
use Rattle.std.proofs.Common.{◌≡◌, ℕ, ◌+◌, suc, Bool, true, false, List, [], ◌∷◌, ◌++◌, length, take, drop, refl, sym, ap, ◌∙◌, inl, inr}
use Rattle.std.proofs.Common.{arith}
use Rattle.std.specs.List.{list_all, take_while, prefix_len}
use Rattle.std.proofs.Math.Seq.{take-append_seam, drop-append_seam}
use Rattle.std.proofs.lemmas.Bool.{cases_Bool, both_ways}
use Rattle.std.proofs.lemmas.List.{take-append-drop}
use Rattle.std.proofs.lemmas.List.Sums.{take_while-cons}
use Rattle.byte_text.specs.Cuts.{without_front}
use Rattle.synth_spelling.specs.Spelling.{Stops}

one_more : (n : ℕ) → 1 + n ≡ suc n
one_more n = omega arith

module _ (test : ℕ → Bool) where
  pub all_taken : (xs : List ℕ) → list_all test (take_while test xs) ≡ true
  all_taken [] = refl
  all_taken (x ∷ xs) =
      elim (cases_Bool (test x)) [
        | inl passes ↦ rw (take_while-cons, passes) (rw passes (all_taken xs))
        | inr fails ↦ rw (take_while-cons, fails) refl
      ]

  pub rest_stops : (xs : List ℕ) → Stops test (without_front test xs)
  rest_stops [] = tt
  rest_stops (x ∷ xs) =
      elim (cases_Bool (test x)) [
        | inl passes ↦ rw (passes, one_more) (rest_stops xs)
        | inr fails ↦ rw fails fails
      ]

  pub taken_and_rest : (xs : List ℕ) → xs ≡ take_while test xs ++ without_front test xs
  taken_and_rest xs = sym (take-append-drop (prefix_len test xs) xs)

  front_len : (front rest : List ℕ) → list_all test front ≡ true → Stops test rest → prefix_len test (front ++ rest) ≡ length front
  front_len [] [] all stops = refl
  front_len [] (x ∷ xs) all stops = rw stops refl
  front_len (x ∷ front) rest all stops =
      elim (cases_Bool (test x)) [
        | inl passes ↦ let others = rw passes at all in rw passes (omega (arith, front_len front rest others stops))
        | inr fails ↦ absurd (both_ways false (refl) (rw fails at all))
      ]

  pub front_taken : (front rest : List ℕ) → list_all test front ≡ true → Stops test rest → take_while test (front ++ rest) ≡ front
  front_taken front rest all stops = ap (λ n. take n (front ++ rest)) (front_len front rest all stops) ∙ take-append_seam front rest

  pub front_dropped : (front rest : List ℕ) → list_all test front ≡ true → Stops test rest → without_front test (front ++ rest) ≡ rest
  front_dropped front rest all stops = ap (λ n. drop n (front ++ rest)) (front_len front rest all stops) ∙ drop-append_seam front rest
