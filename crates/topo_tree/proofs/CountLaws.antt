-- Laws of the counts of objects, as products of arities.
use Rattle.std.proofs.Common.{
  ◌≡◌,
  ℕ,
  zero,
  suc,
  ◌+◌,
  ◌-◌,
  ◌*◌,
  ◌/◌,
  ◌<◌,
  ◌≤◌,
  List,
  [],
  ◌∷◌,
  ◌++◌,
  length,
  take,
  drop,
  get_or,
  Option,
  Some,
  None,
  refl,
  sym,
  ap,
  ◌∙◌,
  subst,
  inl,
  inr,
  arith,
}
use Rattle.std.proofs.Math.Nat.{mul_comm, mul_assoc, one-mul, mul-one, one-le-mul, mul-le-mul_left, mul-le-mul_right, div-eq_of_eq-mul_left}
use Rattle.std.proofs.lemmas.Bool.{cases_lt}
use Rattle.std.proofs.lemmas.Nat.{div-mul-add}
use Rattle.std.proofs.lemmas.List.{get_or_past, take_more, take_all, length-map, length-take-le, get_or-map, get_or-take}
use Rattle.std.specs.List.{AllByRecursion}
use Rattle.synth_text.specs.declared.description.Level.{Level}
use Rattle.synth_text.specs.declared.description.Memory.{Memory}
use Rattle.synth_text.specs.declared.description.Description.{Description}
use Rattle.synth_text.specs.Rules.{arities, product, node_count}
use Rattle.topo_tree.specs.Objects.{arity_at, count_at}
use Rattle.synth_text.specs.Sound.{IsSound, IsSoundLevel}

-- each level has an arity
abbrev pub HaveArities : List Level → Type 0
HaveArities levels = AllByRecursion (λ level. 1 ≤ level.arity) levels

pub product_some : (levels : List Level) → HaveArities levels → 1 ≤ product (arities levels)
product_some [] some = omega arith
product_some (level ∷ levels) some = one-le-mul some.0 (product_some levels some.1)

pub count_some : (depth : ℕ) (levels : List Level) → HaveArities levels → 1 ≤ product (take depth (arities levels))
count_some zero levels some = omega arith
count_some (suc depth) [] some = omega arith
count_some (suc depth) (level ∷ levels) some = one-le-mul some.0 (count_some depth levels some.1)

pub width_some : (depth : ℕ) (levels : List Level) → HaveArities levels → 1 ≤ product (drop depth (arities levels))
width_some zero levels some = product_some levels some
width_some (suc depth) [] some = omega arith
width_some (suc depth) (level ∷ levels) some = width_some depth levels some.1

pub product_split : (n : ℕ) (xs : List ℕ) → product (take n xs) * product (drop n xs) ≡ product xs
product_split zero xs = one-mul (product xs)
product_split (suc n) [] = refl
product_split (suc n) (x ∷ xs) = mul_assoc x (product (take n xs)) (product (drop n xs)) ∙ ap (λ p. x * p) (product_split n xs)

pub product_push : (xs : List ℕ) (x : ℕ) → product (xs ++ x ∷ []) ≡ product xs * x
product_push [] x = mul-one x ∙ sym (one-mul x)
product_push (y ∷ ys) x = ap (λ p. y * p) (product_push ys x) ∙ sym (mul_assoc y (product ys) x)

-- no depth has more objects than there are PUs
pub count_within : (depth : ℕ) (levels : List Level) → HaveArities levels → product (take depth (arities levels)) ≤ product (arities levels)
count_within depth levels some =
    let p = product (take depth (arities levels)) in
    omega (arith, product_split depth (arities levels), mul-le-mul_left p (width_some depth levels some), mul-one p)

-- the next depth
pub count_more : (depth : ℕ) (levels : List Level) → depth < length levels
    → product (take (depth + 1) (arities levels)) ≡ product (take depth (arities levels)) * get_or (arities levels) depth 0
count_more depth levels within =
    ap product (take_more (arities levels) depth 0 (omega (arith, length-map levels (λ level. level.arity))))
    ∙ product_push (take depth (arities levels)) (get_or (arities levels) depth 0)

-- one more level
pub count_next : (levels : List Level) (place : ℕ) (level : Level) → place < length levels → level ≡ get_or levels place level
    → product (take (place + 1) (arities levels)) ≡ product (take place (arities levels)) * level.arity
count_next levels place level within here =
    count_more place levels within
    ∙ ap (λ arity. product (take place (arities levels)) * arity)
    (get_or-map (λ (l : Level). l.arity) levels place level 0 within ∙ ap (λ (l : Level). l.arity) (sym here))

-- one more level among the first so many
pub count_step : (levels : List Level) (depth place : ℕ) (level : Level) → depth ≤ length levels → place < length (take depth levels)
    → level ≡ get_or (take depth levels) place level
    → product (take (place + 1) (arities levels)) ≡ product (take place (arities levels)) * level.arity
count_step levels depth place level within below here =
    let long : length (take depth levels) ≡ depth = length-take-le depth levels within in
    let before : place < depth = omega arith in
    count_next levels place level (omega arith) (here ∙ get_or-take depth levels place level before)

-- ---- what a description keeps

have_arities_of : (levels : List Level) → AllByRecursion IsSoundLevel levels → HaveArities levels
have_arities_of [] sound = tt
have_arities_of (level ∷ levels) sound = (sound.0.arity.0, have_arities_of levels sound.1)

pub have_arities : (described : Description) → IsSound described → HaveArities described.levels
have_arities described sound = have_arities_of described.levels sound.levels

pub few_objects : (described : Description) (depth : ℕ) → IsSound described → product (take depth (arities described.levels)) ≤ 4096
few_objects described depth sound = omega (arith, count_within depth described.levels (have_arities described sound), sound.pus)

pub some_objects : (described : Description) (depth : ℕ) → IsSound described → 1 ≤ product (take depth (arities described.levels))
some_objects described depth sound = count_some depth described.levels (have_arities described sound)

pub few_nodes : (described : Description) → IsSound described → node_count described.levels described.memory ≤ 4096
few_nodes described sound = nodes_of described.memory
  where
    nodes_of : (memory : Option Memory) → node_count described.levels memory ≤ 4096
    nodes_of None = omega arith
    nodes_of (Some memory) = few_objects described memory.above sound

-- the PUs are divided among the objects of a depth without a rest
pub divided : (depth : ℕ) (levels : List Level) → HaveArities levels
    → product (arities levels) / product (take depth (arities levels)) ≡ product (drop depth (arities levels))
divided depth levels some =
    div-eq_of_eq-mul_left (count_some depth levels some)
    (sym (product_split depth (arities levels))
    ∙ mul_comm (product (take depth (arities levels))) (product (drop depth (arities levels))))

pub whole_counts : (depth : ℕ) (levels : List Level) → HaveArities levels
    → product (take depth (arities levels)) * (product (arities levels) / product (take depth (arities levels))) ≡ product (arities levels)
whole_counts depth levels some =
    ap (λ width. product (take depth (arities levels)) * width) (divided depth levels some) ∙ product_split depth (arities levels)

-- the last depth has the PUs
pub last_count : (levels : List Level) → product (take (length levels) (arities levels)) ≡ product (arities levels)
last_count levels =
    ap product (take_all (length levels) (arities levels) (omega (arith, length-map levels (λ (level : Level). level.arity))))

-- ---- children

arity_in : (levels : List Level) (depth : ℕ) → HaveArities levels → depth < length levels → 1 ≤ get_or (arities levels) depth 0
arity_in [] depth some within = absurd (omega arith)
arity_in (level ∷ levels) zero some within = some.0
arity_in (level ∷ levels) (suc depth) some within = arity_in levels depth some.1 (omega arith)

-- each object of a depth above the last has a child
pub arity_some : (described : Description) (depth : ℕ) → IsSound described → depth < length described.levels → 1 ≤ arity_at described depth
arity_some described depth sound within = arity_in described.levels depth (have_arities described sound) within

-- the children of an object of a depth above the last are objects of the next depth
pub children_within : (described : Description) (depth index : ℕ) → depth < length described.levels → index < count_at described depth
    → index * arity_at described depth + arity_at described depth ≤ count_at described (depth + 1)
children_within described depth index within below =
    let more = mul-le-mul_right (arity_at described depth) (let next : index + 1 ≤ count_at described depth = omega arith in next) in
    omega (arith, more, count_more depth described.levels within)

-- the number of children fits, and is 0 at the last depth
pub children_few : (described : Description) (depth index : ℕ) → IsSound described → index < count_at described depth
    → index * arity_at described depth ≤ 4096
children_few described depth index sound below =
    elim (cases_lt depth (length described.levels)) [
      | inl within ↦ omega (arith, children_within described depth index within below, few_objects described (depth + 1) sound)
      | inr past ↦
          let none : arity_at described depth ≡ 0 =
          get_or_past (arities described.levels) depth 0
          (subst (λ n. n ≤ depth) (sym (length-map described.levels (λ (level : Level). level.arity))) past) in
          omega (arith, ap (λ arity. index * arity) none)
    ]

-- a child is an object, and has the parent whose child it is
pub child-parent : (described : Description) (depth index child : ℕ) → IsSound described → depth < length described.levels
    → index < count_at described depth → index * arity_at described depth ≤ child
    → child < index * arity_at described depth + arity_at described depth → (child < count_at described (depth + 1))
    × (child / arity_at described depth ≡ index)
child-parent described depth index child sound within below from to =
    let place : child ≡ index * arity_at described depth + (child - index * arity_at described depth) = omega arith in (
      omega (arith, children_within described depth index within below),
      ap (λ n. n / arity_at described depth) place
          ∙ div-mul-add index (arity_at described depth) (child - index * arity_at described depth) (omega arith),
    )
