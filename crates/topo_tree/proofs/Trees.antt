-- The printed tree, by the positions of the PUs.
use Rattle.std.proofs.Common.{
  ◌≡◌,
  ℕ,
  zero,
  suc,
  ◌+◌,
  ◌-◌,
  ◌*◌,
  ◌/◌,
  ◌%◌,
  ◌<◌,
  ◌≤◌,
  false,
  ◌==◌,
  if◌then◌else◌,
  List,
  [],
  ◌∷◌,
  ◌++◌,
  length,
  drop,
  refl,
  sym,
  ap,
  ◌∙◌,
  arith,
  append_assoc,
}
use Rattle.std.proofs.Math.Nat.{mul_assoc, one-le-mul}
use Rattle.std.specs.List.{range_with_len, flat_map, AllByRecursion}
use Rattle.std.proofs.lemmas.Bool.{eq-eqb, ne_eqb}
use Rattle.std.proofs.lemmas.List.{append-nil, drop-drop, length-map}
use Rattle.std.proofs.lemmas.List.Concat.{flat_map-append}
use Rattle.std.proofs.lemmas.Nat.{div-mul-add, mod-mul-add}
use Rattle.synth_text.specs.declared.description.Level.{Level}
use Rattle.synth_text.specs.declared.description.Description.{Description}
use Rattle.synth_text.specs.Rules.{arities, product}
use Rattle.topo_tree.specs.Objects.{depth_count}
use Rattle.topo_tree.specs.declared.layer.Object.{Object}
use Rattle.topo_tree.specs.Order.{object_at, tree_objects, tree_order}
use Rattle.topo_tree.specs.Beginnings.{width_at, objects_from, objects_at}
use Rattle.topo_tree.proofs.CountLaws.{HaveArities}

-- ---- ranges and joined lists

range_append : (start count more : ℕ) → range_with_len start (count + more) ≡ range_with_len start count
    ++ range_with_len (start + count) more
range_append start zero more =
    let none : zero + more ≡ more = omega arith in
    let here : start ≡ start + zero = omega arith in
    ap (range_with_len start) none ∙ ap (λ from. range_with_len from more) here
range_append start (suc count) more =
    let first : suc count + more ≡ suc (count + more) = omega arith in
    let from : (start + 1) + count ≡ start + suc count = omega arith in
    ap (range_with_len start) first ∙ ap (λ rest. start ∷ rest)
    (range_append (start + 1) count more ∙ ap (λ to. range_with_len (start + 1) count ++ range_with_len to more) from)

-- one more of a range
pub flat_map-range_more : {X : Type 0} (f : ℕ → List X) (count : ℕ)
    → flat_map f (range_with_len 0 (count + 1)) ≡ flat_map f (range_with_len 0 count) ++ f count
flat_map-range_more f count =
    let last : zero + count ≡ count = omega arith in
    ap (flat_map f) (range_append 0 count 1) ∙ flat_map-append f (range_with_len 0 count) (range_with_len (zero + count) 1)
    ∙ ap (λ n. flat_map f (range_with_len 0 count) ++ (f n ++ [])) last
    ∙ ap (λ xs. flat_map f (range_with_len 0 count) ++ xs) (append-nil (f count))

flat_map-same : {X : Type 0} (f g : ℕ → List X) → ((x : ℕ) → f x ≡ g x) → (xs : List ℕ) → flat_map f xs ≡ flat_map g xs
flat_map-same f g same [] = refl
flat_map-same f g same (x ∷ xs) = ap (λ ys. ys ++ flat_map f xs) (same x) ∙ ap (λ ys. g x ++ ys) (flat_map-same f g same xs)

-- what each child of a run covers is together what the run covers
flat_map-children : {X : Type 0} (f : ℕ → List X) (width count start : ℕ)
    → flat_map (λ child. flat_map f (range_with_len (child * width) width)) (range_with_len start count) ≡ flat_map f
    (range_with_len (start * width) (count * width))
flat_map-children f width zero start =
    let none : zero ≡ zero * width = omega arith in
    ap (λ n. flat_map f (range_with_len (start * width) n)) none
flat_map-children f width (suc count) start =
    let next : (start + 1) * width ≡ start * width + width = omega arith in
    let all : width + count * width ≡ suc count * width = omega arith in
    ap (λ ys. flat_map f (range_with_len (start * width) width) ++ ys)
    (flat_map-children f width count (start + 1) ∙ ap (λ from. flat_map f (range_with_len from (count * width))) next)
    ∙ sym (flat_map-append f (range_with_len (start * width) width) (range_with_len (start * width + width) (count * width)))
    ∙ ap (flat_map f) (sym (range_append (start * width) width (count * width)) ∙ ap (range_with_len (start * width)) all)

-- ---- the first position that an object covers

module _ (own others : ℕ → List Object) (width : ℕ) where
  abbrev starting : ℕ → List Object
  starting position = (if position % width == 0 then own (position / width) else []) ++ others position

  -- behind its first position an object doesn't start
  starting-later : (index count start : ℕ) → index * width < start → start + count ≤ index * width + width
      → flat_map starting (range_with_len start count) ≡ flat_map others (range_with_len start count)
  starting-later index zero start after within = refl
  starting-later index (suc count) start after within =
      let rest : start ≡ index * width + (start - index * width) = omega arith in
      let left : start % width ≡ start - index * width =
      ap (λ n. n % width) rest ∙ mod-mul-add index width (start - index * width) (omega arith) in
      let no : (start % width == 0) ≡ false = ne_eqb (start % width) 0 (λ none. absurd (omega (arith, left, none))) in
      ap (λ b. ((if b then own (start / width) else []) ++ others start) ++ flat_map starting (range_with_len (start + 1) count)) no
      ∙ ap (λ ys. others start ++ ys) (starting-later index count (start + 1) (omega arith) (omega arith))

  starting-first : (index : ℕ) → 0 < width → flat_map starting (range_with_len (index * width) width) ≡ own index
      ++ flat_map others (range_with_len (index * width) width)
  starting-first index some =
      let more : width ≡ suc (width - 1) = omega arith in
      let here : index * width ≡ index * width + 0 = omega arith in
      let left : (index * width) % width ≡ 0 = ap (λ n. n % width) here ∙ mod-mul-add index width 0 some in
      let number : (index * width) / width ≡ index = ap (λ n. n / width) here ∙ div-mul-add index width 0 some in
      ap (λ n. flat_map starting (range_with_len (index * width) n)) more
      ∙ ap (λ b. ((if b then own (index * width / width) else []) ++ others (index * width))
      ++ flat_map starting (range_with_len (index * width + 1) (width - 1))) (eq-eqb ((index * width) % width) 0 left)
      ∙ ap (λ n. (own n ++ others (index * width)) ++ flat_map starting (range_with_len (index * width + 1) (width - 1))) number
      ∙ ap (λ ys. (own index ++ others (index * width)) ++ ys)
      (starting-later index (width - 1) (index * width + 1) (omega arith) (omega arith))
      ∙ append_assoc (own index) (others (index * width)) (flat_map others (range_with_len (index * width + 1) (width - 1)))
      ∙ ap (λ n. own index ++ flat_map others (range_with_len (index * width) n)) (sym more)

-- ---- the tree

drop-next : (xs ys : List ℕ) (y depth : ℕ) → drop depth xs ≡ y ∷ ys → drop (depth + 1) xs ≡ ys
drop-next xs ys y depth at = sym (drop-drop 1 depth xs) ∙ ap (drop 1) at

some_product : (xs : List ℕ) → AllByRecursion (λ x. 1 ≤ x) xs → 1 ≤ product xs
some_product [] some = omega arith
some_product (x ∷ xs) some = one-le-mul some.0 (some_product xs some.1)

-- what a position begins from a depth on
abbrev objects_below : Description → ℕ → ℕ → ℕ → List Object
objects_below described depth count position = flat_map (objects_from described position) (range_with_len depth count)

objects_from-width : (described : Description) (position depth width : ℕ) → width_at described depth ≡ width
    → objects_from described position depth ≡ (if position % width == 0 then object_at depth (position / width) ∷ [] else [])
objects_from-width described position depth width is = ap (λ w. if position % w == 0 then object_at depth (position / w) ∷ [] else []) is

tree-by_position : (described : Description) (below : List ℕ) (depth index : ℕ) → drop depth (arities described.levels) ≡ below
    → AllByRecursion (λ arity. 1 ≤ arity) below
    → tree_objects below depth index ≡ flat_map (objects_below described depth (length below + 1))
    (range_with_len (index * product below) (product below))
tree-by_position described [] depth index at some =
    let one : index * 1 ≡ index = omega arith in
    let left : (index * 1) % 1 ≡ 0 = omega arith in
    let whole : (index * 1) / 1 ≡ index = omega arith in
    let here : objects_from described (index * 1) depth ≡ object_at depth index ∷ [] =
    objects_from-width described (index * 1) depth 1 (ap product at)
    ∙ ap (λ b. if b then object_at depth (index * 1 / 1) ∷ [] else []) (eq-eqb ((index * 1) % 1) 0 left)
    ∙ ap (λ n. object_at depth n ∷ []) whole in
    sym (append-nil (objects_from described (index * 1) depth ++ []) ∙ append-nil (objects_from described (index * 1) depth) ∙ here)
tree-by_position described (arity ∷ below) depth index at some =
    let inner = objects_below described (depth + 1) (length below + 1) in
    let width = arity * product below in
    let next = drop-next (arities described.levels) below arity depth at in
    let more : suc (length below) + 1 ≡ suc (length below + 1) = omega arith in
    let at_each = λ (position : ℕ). ap (λ n. objects_below described depth n position) more
    ∙ ap (λ ys. ys ++ inner position) (objects_from-width described position depth width (ap product at)) in
    ap (λ ys. object_at depth index ∷ [] ++ ys)
    (flat_map-same (λ child. tree_objects below (depth + 1) child)
    (λ child. flat_map inner (range_with_len (child * product below) (product below)))
    (λ child. tree-by_position described below (depth + 1) child next some.1) (range_with_len (index * arity) arity)
    ∙ flat_map-children inner (product below) arity (index * arity)
    ∙ ap (λ from. flat_map inner (range_with_len from width)) (mul_assoc index arity (product below)))
    ∙ sym (starting-first (λ i. object_at depth i ∷ []) inner width index (some_product (arity ∷ below) some))
    ∙ sym (flat_map-same (objects_below described depth (suc (length below) + 1))
    (starting (λ i. object_at depth i ∷ []) inner width) at_each (range_with_len (index * width) width))

arities_some : (levels : List Level) → HaveArities levels → AllByRecursion (λ arity. 1 ≤ arity) (arities levels)
arities_some [] some = tt
arities_some (level ∷ levels) some = (some.0, arities_some levels some.1)

pub order-by_position : (described : Description) → HaveArities described.levels
    → tree_order described ≡ flat_map (objects_at described) (range_with_len 0 (product (arities described.levels)))
unfolding tree_order objects_at
order-by_position described some =
    let none : 0 * product (arities described.levels) ≡ 0 = omega arith in
    let long : length (arities described.levels) + 1 ≡ depth_count described =
    ap (λ n. n + 1) (length-map described.levels (λ (level : Level). level.arity)) in
    tree-by_position described (arities described.levels) 0 0 refl (arities_some described.levels some)
    ∙ ap (λ from. flat_map (objects_below described 0 (length (arities described.levels) + 1))
    (range_with_len from (product (arities described.levels)))) none
    ∙ ap (λ count. flat_map (objects_below described 0 count) (range_with_len 0 (product (arities described.levels)))) long
