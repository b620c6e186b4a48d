-- Laws of the rules on all items.
use Rattle.std.proofs.Common.{
  ◌≡◌,
  ℕ,
  zero,
  suc,
  ◌+◌,
  ◌*◌,
  ◌<◌,
  ◌≤◌,
  Bool,
  true,
  false,
  cond,
  List,
  [],
  ◌∷◌,
  length,
  take,
  Option,
  Some,
  None,
  ◌≢◌,
  refl,
  sym,
  ◌∙◌,
  zero-add,
  arith,
  inl,
  inr,
}
use Rattle.std.specs.List.{list_any, cons_option, AllByRecursion}
use mir.Val.{bool_byte}
use Rattle.std.specs.Prelude.{◌==◌, nat_lt, option_map, is_some}
use Rattle.std.proofs.lemmas.Bool.{or_parts, cases_Bool, eqb-false, ltb-false, eq-eqb, ne_eqb, lt-ltb, le-ltb}
use Rattle.std.proofs.Math.Nat.{mul-le-mul_left}
use Rattle.std.proofs.Math.Seq.{take-nil}
use Rattle.synth_text.specs.declared.description.Level.{Level}
use Rattle.synth_text.specs.declared.description.Memory.{Memory}
use Rattle.synth_text.specs.declared.parts.Placed.{Placed}
use Rattle.synth_text.specs.declared.fault.SynthRule.{SynthRule}
use Rattle.synth_text.specs.declared.fault.SynthRule.TheVariants as rules
use Rattle.synth_text.specs.Rules.{
  is_level,
  from_last,
  wrong_end,
  first_again,
  levels_of,
  description_of,
  arities,
  product,
  first_of,
  when,
  is_large,
  broken,
  broken_items,
}

-- the first memory of two
abbrev pub or_memory : Option Memory → Option Memory → Option Memory
or_memory None other = other
or_memory (Some memory) other = Some memory

-- where no item gives a level, all items are from the last on
pub from_last-none : (items : List Placed) → list_any is_level items ≡ false → from_last items ≡ items
from_last-none [] h = refl
from_last-none (item ∷ items) h = let none = (or_parts (is_level item) (list_any is_level items) h).1 in rw none refl

mul_some : (m n : ℕ) → 1 ≤ m → 1 ≤ n → 1 ≤ m * n
mul_some m n hm hn = grind arith

-- with at least one object under each, there is one at least
pub product_some : (levels : List Level) → AllByRecursion (λ level. 1 ≤ level.arity) levels → 1 ≤ product (arities levels)
product_some [] h = omega arith
product_some (level ∷ levels) h = mul_some level.arity (product (arities levels)) h.0 (product_some levels h.1)

pub last_found : (items : List Placed) → cond (list_any is_level items) (from_last items) items ≡ from_last items
last_found items =
    elim (cases_Bool (list_any is_level items)) [ inl some ↦ rw some refl | inr none ↦ rw none (sym (from_last-none items none)) ]

-- ---- counting objects

-- the objects of one more level
pub product_goes_on : (last arity below total : ℕ) → last * (arity * below) ≡ total → last * arity * below ≡ total
product_goes_on last arity below total h = grind arith

pub tree_goes_on : (objects last arity below total : ℕ) → objects + last * (1 + arity * below) ≡ total + last
    → objects + last * arity + last * arity * below ≡ total + last * arity
tree_goes_on objects last arity below total h = omega arith

pub product_over : (limit last below total : ℕ) → limit < last → 1 ≤ below → last * below ≡ total → limit < total
product_over limit last below total over some h = grind arith

-- fewer levels have no more objects
pub product-take-le : (levels : List Level) (n : ℕ) → AllByRecursion (λ level. 1 ≤ level.arity) levels
    → product (arities (take n levels)) ≤ product (arities levels)
product-take-le [] n h = rw take-nil (omega arith)
product-take-le (level ∷ levels) zero h = product_some (level ∷ levels) h
product-take-le (level ∷ levels) (suc n) h = mul-le-mul_left level.arity (product-take-le levels n h.1)

pub some_each-take : (levels : List Level) (n : ℕ) → AllByRecursion (λ level. 1 ≤ level.arity) levels
    → AllByRecursion (λ level. 1 ≤ level.arity) (take n levels)
some_each-take [] n h = rw take-nil tt
some_each-take (level ∷ levels) zero h = tt
some_each-take (level ∷ levels) (suc n) h = (h.0, some_each-take levels n h.1)

-- ---- the first broken rule

pub broken-last : (parts : List Placed) → broken parts ≡ first_of
    (broken_items parts ∷ when (is_large (description_of parts)) rules.TooManyObjects ∷ [])
unfolding broken
broken-last parts = refl

-- which rules an unbroken list keeps
pub record KeepsAll (a b c d : Option SynthRule) : Type 0 where
  pub first : a ≡ None
  pub second : b ≡ None
  pub third : c ≡ None
  pub fourth : d ≡ None

first_of-none : (a b c d : Option SynthRule) → first_of (a ∷ b ∷ c ∷ d ∷ []) ≡ None → KeepsAll a b c d
first_of-none (Some f) b c d h = absurd cc
first_of-none None (Some f) c d h = absurd cc
first_of-none None None (Some f) d h = absurd cc
first_of-none None None None (Some f) h = absurd cc
first_of-none None None None None h = record { first = refl; second = refl; third = refl; fourth = refl }

when-none : (test : Bool) (fault : SynthRule) → when test fault ≡ None → test ≡ false
when-none true fault h = absurd cc
when-none false fault h = refl

option_map-none : {A : Type 0} (f : A → SynthRule) (o : Option A) → option_map f o ≡ None → o ≡ None
option_map-none f None h = refl
option_map-none f (Some x) h = absurd cc

-- the rules that hold where none is broken on the items
pub record ItemsHold (parts : List Placed) : Type 0 where
  pub some : 0 < length (levels_of parts)
  pub differ : first_again [] parts ≡ None
  pub ends : wrong_end (from_last parts) ≡ None
  pub few : length (levels_of parts) ≤ 16

pub items_hold : (parts : List Placed) → broken_items parts ≡ None → ItemsHold parts
unfolding broken_items
items_hold parts h =
    let k =
    first_of-none
    (when (length (levels_of parts) == 0) rules.Empty) (option_map (λ at. rules.RepeatedType at) (first_again [] parts))
    (option_map (λ at. rules.LastNotPu at) (wrong_end (from_last parts)))
    (when (nat_lt 16 (length (levels_of parts))) rules.TooManyLevels) h
    in
    let not_none = eqb-false (length (levels_of parts)) 0 (when-none _ _ k.first) in
    record {
      some = omega arith;
      differ = option_map-none (λ at. rules.RepeatedType at) (first_again [] parts) k.second;
      ends = option_map-none (λ at. rules.LastNotPu at) (wrong_end (from_last parts)) k.third;
      few = ltb-false 16 (length (levels_of parts)) (when-none _ _ k.fourth);
    }

pub broken_first : (parts : List Placed) (fault : SynthRule) → broken_items parts ≡ Some fault → broken parts ≡ Some fault
broken_first parts fault h = rw (broken-last parts, h) refl

pub broken_large : (parts : List Placed) → broken_items parts ≡ None → is_large (description_of parts) ≡ true
    → broken parts ≡ Some rules.TooManyObjects
broken_large parts h large = rw (broken-last parts, h, large) refl

pub broken_none : (parts : List Placed) → broken_items parts ≡ None → is_large (description_of parts) ≡ false → broken parts ≡ None
broken_none parts h small = rw (broken-last parts, h, small) refl

-- ---- the checks on the items, one by one

pub length_cons_option : {X : Type 0} (o : Option X) (xs : List X) → length (cons_option o xs) ≡ bool_byte (is_some o) + length xs
length_cons_option None xs = sym (zero-add (length xs))
length_cons_option (Some x) xs = omega arith

pub refused_empty : (parts : List Placed) → length (levels_of parts) ≡ 0 → broken_items parts ≡ Some rules.Empty
unfolding broken_items
refused_empty parts none = rw (eq-eqb (length (levels_of parts)) 0 none) refl

some_levels : (parts : List Placed) → length (levels_of parts) ≢ 0 → when (length (levels_of parts) == 0) rules.Empty ≡ None
some_levels parts some = rw (ne_eqb (length (levels_of parts)) 0 some) refl

pub refused_again : (parts : List Placed) (at : ℕ) → length (levels_of parts) ≢ 0 → first_again [] parts ≡ Some at
    → broken_items parts ≡ Some (rules.RepeatedType at)
unfolding broken_items
refused_again parts at some again = rw (some_levels parts some, again) refl

pub refused_end : (parts : List Placed) (at : ℕ) → length (levels_of parts) ≢ 0 → first_again [] parts ≡ None
    → wrong_end (from_last parts) ≡ Some at → broken_items parts ≡ Some (rules.LastNotPu at)
unfolding broken_items
refused_end parts at some differ end = rw (some_levels parts some, differ, end) refl

pub refused_many : (parts : List Placed) → length (levels_of parts) ≢ 0 → first_again [] parts ≡ None → wrong_end (from_last parts) ≡ None
    → 16 < length (levels_of parts) → broken_items parts ≡ Some rules.TooManyLevels
unfolding broken_items
refused_many parts some differ end many = rw (some_levels parts some, differ, end, lt-ltb 16 (length (levels_of parts)) many) refl

pub refused_none : (parts : List Placed) → length (levels_of parts) ≢ 0 → first_again [] parts ≡ None → wrong_end (from_last parts) ≡ None
    → length (levels_of parts) ≤ 16 → broken_items parts ≡ None
unfolding broken_items
refused_none parts some differ end few = rw (some_levels parts some, differ, end, le-ltb 16 (length (levels_of parts)) few) refl

-- what holds where nothing is broken
only_last : (o : Option SynthRule) → first_of (o ∷ []) ≡ None → o ≡ None
only_last None k = refl
only_last (Some f) k = absurd cc

last_two : (a b : Option SynthRule) → first_of (a ∷ b ∷ []) ≡ None → (a ≡ None) × (b ≡ None)
last_two (Some f) b k = absurd cc
last_two None b k = (refl, only_last b k)

pub nothing_broken : (parts : List Placed) → broken parts ≡ None → (broken_items parts ≡ None) × (is_large (description_of parts) ≡ false)
nothing_broken parts h =
    let two = last_two (broken_items parts) (when (is_large (description_of parts)) rules.TooManyObjects) (sym (broken-last parts) ∙ h) in
    (two.0, when-none (is_large (description_of parts)) rules.TooManyObjects two.1)
