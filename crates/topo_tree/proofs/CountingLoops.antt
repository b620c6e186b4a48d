-- Loops of one number add nothing, so the others alone give each object its number.
use Rattle.std.proofs.Common.{
  ◌≡◌,
  ℕ,
  zero,
  suc,
  ◌+◌,
  ◌*◌,
  ◌/◌,
  ◌%◌,
  ◌<◌,
  ◌≤◌,
  List,
  [],
  ◌∷◌,
  length,
  map,
  refl,
  sym,
  ap,
  ◌∙◌,
  add-one,
  subst,
  inl,
  inr,
  arith,
}
use Rattle.std.proofs.Math.Nat.{mul-one, one-mul, mul-zero}
use Rattle.std.proofs.lemmas.Nat.{mod_below}
use Rattle.std.proofs.lemmas.Bool.{cases_lt, lt-ltb, le-ltb}
use Rattle.std.proofs.lemmas.List.Sums.{sum_by-cons}
use Rattle.std.specs.List.{AllByRecursion, range_with_len, sum}
use Rattle.synth_text.specs.declared.description.Loop.{Loop}
use Rattle.synth_text.specs.Sound.{IsSoundLoop}
use Rattle.topo_tree.specs.Numbers.{loop_product, loop_part, loops_number, counting_loops}

-- two sums that are so many times as much
both_times : (factor a b c d : ℕ) → a ≡ factor * c → b ≡ factor * d → a + b ≡ factor * (c + d)
both_times factor a b c d one other = omega (arith, one, other)

-- a sum whose places all stand one further, and are so many times as much
sum_shift : (f g : ℕ → ℕ) (factor start count : ℕ) → ((place : ℕ) → f (place + 1) ≡ factor * g place)
    → sum (map f (range_with_len (start + 1) count)) ≡ factor * sum (map g (range_with_len start count))
sum_shift f g factor start zero each = sym (mul-zero factor)
sum_shift f g factor start (suc count) each =
    let others = map f (range_with_len (start + 1 + 1) count) in
    let own = map g (range_with_len (start + 1) count) in
    sum_by-cons (λ n. n) (f (start + 1)) others
    ∙ both_times factor (f (start + 1)) (sum others) (g start) (sum own) (each start) (sum_shift f g factor (start + 1) count each)
    ∙ ap (λ n. factor * n) (sym (sum_by-cons (λ n. n) (g start) own))

-- the number that loops give an object, by the first loop and the others
loops_number-cons : (given : Loop) (loops : List Loop) (object : ℕ)
    → loops_number (given ∷ loops) object ≡ object / given.step % given.count + given.count * loops_number loops object
unfolding loops_number
loops_number-cons given loops object =
    let part : (place : ℕ) → loop_part (given ∷ loops) object (place + 1) ≡ given.count * loop_part loops object place =
    λ place. rw add-one (omega arith) in
    let first : loop_part (given ∷ loops) object 0 ≡ object / given.step % given.count = mul-one (object / given.step % given.count) in
    sum_by-cons (λ n. n) (loop_part (given ∷ loops) object 0) (map (loop_part (given ∷ loops) object) (range_with_len 1 (length loops)))
    ∙ ap (λ n. n + sum (map (loop_part (given ∷ loops) object) (range_with_len 1 (length loops)))) first
    ∙ ap (λ n. object / given.step % given.count + n)
    (sum_shift (loop_part (given ∷ loops) object) (loop_part loops object) given.count 0 (length loops) part)

-- a loop of more than one number counts, and one of one number doesn't
counts : (given : Loop) (loops : List Loop) → 1 < given.count → counting_loops (given ∷ loops) ≡ given ∷ counting_loops loops
counts given loops more = rw (lt-ltb 1 given.count more) refl

counts_not : (given : Loop) (loops : List Loop) → given.count ≤ 1 → counting_loops (given ∷ loops) ≡ counting_loops loops
counts_not given loops one = rw (le-ltb 1 given.count one) refl

pub counted_number : (loops : List Loop) (object : ℕ) → AllByRecursion IsSoundLoop loops
    → loops_number (counting_loops loops) object ≡ loops_number loops object
counted_number [] object sound = refl
counted_number (given ∷ loops) object sound =
    let rest = counted_number loops object sound.1 in
    elim (cases_lt 1 given.count) [
      | inl more ↦
          ap (λ ls. loops_number ls object) (counts given loops more) ∙ loops_number-cons given (counting_loops loops) object
          ∙ ap (λ n. object / given.step % given.count + given.count * n) rest ∙ sym (loops_number-cons given loops object)
      | inr one ↦
          let single : given.count ≡ 1 = omega (arith, sound.0.count.0) in
          let nothing : object / given.step % 1 ≡ 0 = omega (arith, mod_below (object / given.step) 1 (omega arith)) in
          let added : object / given.step % given.count + given.count * loops_number loops object ≡ loops_number loops object =
          ap (λ n. object / given.step % n + n * loops_number loops object) single ∙ omega (arith, nothing) in
          ap (λ ls. loops_number ls object) (counts_not given loops one) ∙ rest ∙ sym added ∙ sym (loops_number-cons given loops object)
    ]

pub counted_product : (loops : List Loop) → AllByRecursion IsSoundLoop loops → loop_product (counting_loops loops) ≡ loop_product loops
counted_product [] sound = refl
counted_product (given ∷ loops) sound =
    let rest = counted_product loops sound.1 in
    elim (cases_lt 1 given.count) [
      | inl more ↦ ap loop_product (counts given loops more) ∙ ap (λ n. given.count * n) rest
      | inr one ↦
          let single : given.count ≡ 1 = omega (arith, sound.0.count.0) in
          let same : given.count * loop_product loops ≡ loop_product loops =
          ap (λ n. n * loop_product loops) single ∙ one-mul (loop_product loops) in
          ap loop_product (counts_not given loops one) ∙ rest ∙ sym same
    ]

pub counted_sound : (loops : List Loop) → AllByRecursion IsSoundLoop loops → AllByRecursion IsSoundLoop (counting_loops loops)
counted_sound [] sound = tt
counted_sound (given ∷ loops) sound =
    let rest = counted_sound loops sound.1 in
    elim (cases_lt 1 given.count) [
      | inl more ↦ subst (λ ls. AllByRecursion IsSoundLoop ls) (sym (counts given loops more)) (sound.0, rest)
      | inr one ↦ subst (λ ls. AllByRecursion IsSoundLoop ls) (sym (counts_not given loops one)) rest
    ]
