-- Steps of the loops that find physical numbers.
use Rattle.std.proofs.Common.{
  ◌≡◌,
  ℕ,
  zero,
  suc,
  ◌+◌,
  ◌*◌,
  ◌/◌,
  ◌%◌,
  ◌<◌,
  ◌≤◌,
  min,
  List,
  [],
  ◌∷◌,
  length,
  map,
  take,
  get_or,
  sym,
  ap,
  ◌∙◌,
  inl,
  inr,
  arith,
}
use Rattle.std.proofs.Math.Nat.{mul_comm, mul-one, one-le-mul, mul-le-mul_left}
use Rattle.std.proofs.lemmas.Nat.{mod_below}
use Rattle.std.proofs.lemmas.Bool.{cases_lt}
use Rattle.std.proofs.lemmas.List.{map_more, get_or-map}
use Rattle.std.proofs.lemmas.List.FromFn.{sum_by-map-range_with_len_more}
use Rattle.std.proofs.lemmas.List.Elements.{All-from_recursion, All-get_or}
use Rattle.std.specs.List.{AllByRecursion, range_with_len, sum}
use Rattle.synth_text.specs.declared.description.Loop.{Loop}
use Rattle.synth_text.specs.Rules.{product}
use Rattle.synth_text.specs.Sound.{IsSoundLoop}
use Rattle.topo_tree.specs.Numbers.{loop_product, loop_part}
use Rattle.topo_tree.proofs.CountLaws.{product_push}

pub loop_product_some : (loops : List Loop) → AllByRecursion IsSoundLoop loops → 1 ≤ loop_product loops
loop_product_some [] sound = omega arith
loop_product_some (given ∷ later) sound = one-le-mul sound.0.count.0 (loop_product_some later sound.1)

-- the first loops have no greater product than all
loop_product_within : (n : ℕ) (loops : List Loop) → AllByRecursion IsSoundLoop loops → loop_product (take n loops) ≤ loop_product loops
loop_product_within zero loops sound = loop_product_some loops sound
loop_product_within (suc n) [] sound = omega arith
loop_product_within (suc n) (given ∷ later) sound = mul-le-mul_left given.count (loop_product_within n later sound.1)

digit_below : (digit count factor : ℕ) → digit < count → digit * factor + factor ≤ factor * count
digit_below digit count factor below =
    let more = mul-le-mul_left factor (let next : digit + 1 ≤ count = omega arith in next) in
    omega (arith, more, mul_comm digit factor)

-- a product that stops at a limit goes on as the product itself
pub capped_more : (product factor limit : ℕ) → 1 ≤ factor → min (min product limit * factor) limit ≡ min (product * factor) limit
capped_more product factor limit some =
    elim (cases_lt product limit) [
      | inl low ↦ ap (λ p. min (p * factor) limit) (omega arith)
      | inr high ↦
          let capped : min product limit ≡ limit = omega arith in
          let one = mul-le-mul_left limit some in
          let other = mul-le-mul_left product some in
          ap (λ p. min (p * factor) limit) capped ∙ omega (arith, one, other, mul-one limit, mul-one product)
    ]

pub loop_product_more : (loops : List Loop) (place : ℕ) (d : Loop) → place < length loops
    → loop_product (take (place + 1) loops) ≡ loop_product (take place loops) * (get_or loops place d).count
loop_product_more loops place d within = ap product (map_more (λ (given : Loop). given.count) loops place d within) ∙ product_push _ _

pub sound_at : (loops : List Loop) (place : ℕ) (d : Loop) → place < length loops → AllByRecursion IsSoundLoop loops
    → IsSoundLoop (get_or loops place d)
sound_at loops place d within sound = All-get_or IsSoundLoop loops place d within (All-from_recursion IsSoundLoop loops sound)

-- no loop: what reading past the end gives
abbrev pub no_loop : Loop
no_loop = record { step = 0; count = 0 }

-- what one loop adds, and what stays true
pub record LoopTurn (loops : List Loop) (place so_far product object : ℕ) (given : Loop) : Type 0 where
  pub part : (object / given.step) % given.count * product ≤ 4096
  pub next : product * given.count ≤ 4096
  pub number : so_far + (object / given.step) % given.count * product ≡ sum (map (loop_part loops object) (range_with_len 0 (place + 1)))
  pub factor : product * given.count ≡ loop_product (take (place + 1) loops)
  pub below : so_far + (object / given.step) % given.count * product < product * given.count

-- what a loop adds
part_at : (loops : List Loop) (place factor object : ℕ) → place < length loops → factor ≡ loop_product (take place loops)
    → (object / (get_or loops place no_loop).step) % (get_or loops place no_loop).count * factor ≡ loop_part loops object place
part_at loops place factor object within is =
    let step = get_or-map (λ (given : Loop). given.step) loops place no_loop 0 within in
    let count = get_or-map (λ (given : Loop). given.count) loops place no_loop 0 within in
    ap (λ n. (object / n) % (get_or loops place no_loop).count * factor) (sym step)
    ∙ ap (λ n. (object / get_or (map (λ (given : Loop). given.step) loops) place 0) % n * factor) (sym count)
    ∙ ap (λ n. (object / get_or (map (λ (given : Loop). given.step) loops) place 0) % get_or
    (map (λ (given : Loop). given.count) loops) place 0 * n) is

pub loop_turn : (loops : List Loop) (place number factor object : ℕ) → place < length loops → AllByRecursion IsSoundLoop loops
    → loop_product loops ≤ 4096 → number ≡ sum (map (loop_part loops object) (range_with_len 0 place))
    → factor ≡ loop_product (take place loops) → number < factor → LoopTurn loops place number factor object (get_or loops place no_loop)
loop_turn loops place number factor object within sound few so_far is below =
    let given = get_or loops place no_loop in
    let good = sound_at loops place no_loop within sound in
    let some : 0 < given.count = omega (arith, good.count.0) in
    let turn = digit_below ((object / given.step) % given.count) given.count factor (mod_below (object / given.step) given.count some) in
    let more : factor * given.count ≡ loop_product (take (place + 1) loops) =
    ap (λ n. n * given.count) is ∙ sym (loop_product_more loops place no_loop within) in
    let fits : factor * given.count ≤ 4096 = omega (arith, more, loop_product_within (place + 1) loops sound, few) in
    record {
      part = omega (arith, turn, fits);
      next = fits;
      number =
          ap (λ n. n + (object / given.step) % given.count * factor) so_far
          ∙ ap (λ n. sum (map (loop_part loops object) (range_with_len 0 place)) + n) (part_at loops place factor object within is)
          ∙ sym (sum_by-map-range_with_len_more (λ x. x) (loop_part loops object) 0 place place (omega arith));
      factor = more;
      below = omega (arith, turn);
    }
