-- Steps of printing.
use Rattle.std.proofs.Common.{
  ◌≡◌,
  ◌≢◌,
  ℕ,
  ◌+◌,
  ◌/◌,
  ◌%◌,
  ◌<◌,
  ◌==◌,
  if◌then◌else◌,
  List,
  [],
  ◌∷◌,
  ◌++◌,
  length,
  take,
  get_or,
  slice_index,
  sym,
  ap,
  ◌∙◌,
  append_assoc,
  arith,
}
use Rattle.std.proofs.lemmas.Bool.{eq-eqb, ne_eqb}
use Rattle.std.proofs.lemmas.List.{take_more, flat_map_more}
use Rattle.std.proofs.lemmas.List.FromFn.{length-map-range_with_len, get_or-map-range_with_len}
use Rattle.std.specs.List.{range_with_len, flat_map}
use Rattle.synth_text.specs.declared.description.Description.{Description}
use Rattle.synth_text.specs.Rules.{arities, product}
use Rattle.topo_tree.specs.Objects.{depth_count}
use Rattle.topo_tree.specs.declared.layer.Object.{Object}
use Rattle.topo_tree.specs.Lines.{group_number, group_numbers}
use Rattle.topo_tree.specs.Order.{object_at}
use Rattle.topo_tree.specs.Beginnings.{width_at, objects_from}
use Rattle.topo_tree.proofs.CountLaws.{HaveArities, divided, width_some}
use Rattle.topo_tree.proofs.Trees.{flat_map-range_more}

-- the parts of a line, appended one after another
pub joined_line : (out indent name label index behind end : List ℕ) → ((((out ++ indent) ++ name) ++ (label ++ index)) ++ behind)
    ++ end ≡ out ++ (((((indent ++ name) ++ label) ++ index) ++ behind) ++ end)
joined_line out indent name label index behind end = simp append_assoc

-- the numbers of all depths have that of each
pub length-group_numbers : (described : Description) → length (group_numbers described) ≡ depth_count described
unfolding group_numbers
length-group_numbers described = length-map-range_with_len (group_number described) 0 (depth_count described)

pub group_numbers-at : (described : Description) (groups : List ℕ) (depth : ℕ) → groups ≡ group_numbers described
    → depth < depth_count described → slice_index groups depth ≡ group_number described depth
unfolding group_numbers
group_numbers-at described groups depth same within =
    ap (λ numbers. slice_index numbers depth) same
    ∙ get_or-map-range_with_len (group_number described) 0 (depth_count described) depth depth 0 within (omega arith)

-- how many PUs an object of a depth covers, found by a division
pub found_width : (described : Description) (depth pus count : ℕ) → HaveArities described.levels → pus ≡ product (arities described.levels)
    → count ≡ product (take depth (arities described.levels)) → pus / count ≡ width_at described depth
found_width described depth pus count some all here =
    ap (λ n. n / count) all ∙ ap (λ n. product (arities described.levels) / n) here ∙ divided depth described.levels some

pub some_width : (described : Description) (depth pus count : ℕ) → HaveArities described.levels → pus ≡ product (arities described.levels)
    → count ≡ product (take depth (arities described.levels)) → 0 < pus / count
some_width described depth pus count some all here =
    omega (arith, found_width described depth pus count some all here, width_some depth described.levels some)

pub objects_from-first : (described : Description) (position depth width : ℕ) → width ≡ width_at described depth → position % width ≡ 0
    → objects_from described position depth ≡ object_at depth (position / width) ∷ []
objects_from-first described position depth width is first =
    ap (λ w. if position % w == 0 then object_at depth (position / w) ∷ [] else []) (sym is)
    ∙ ap (λ b. if b then object_at depth (position / width) ∷ [] else []) (eq-eqb (position % width) 0 first)

pub objects_from-later : (described : Description) (position depth width : ℕ) → width ≡ width_at described depth → position % width ≢ 0
    → objects_from described position depth ≡ []
objects_from-later described position depth width is later =
    ap (λ w. if position % w == 0 then object_at depth (position / w) ∷ [] else []) (sym is)
    ∙ ap (λ b. if b then object_at depth (position / width) ∷ [] else []) (ne_eqb (position % width) 0 later)

-- the objects of one depth more
pub objects_more : (described : Description) (out : List Object) (position depth : ℕ) (found : List Object)
    → objects_from described position depth ≡ found → (out ++ flat_map (objects_from described position) (range_with_len 0 depth))
    ++ found ≡ out ++ flat_map (objects_from described position) (range_with_len 0 (depth + 1))
objects_more described out position depth found is =
    append_assoc out (flat_map (objects_from described position) (range_with_len 0 depth)) found
    ∙ ap (λ ys. out ++ ys) (ap (λ ys. flat_map (objects_from described position) (range_with_len 0 depth) ++ ys) (sym is)
    ∙ sym (flat_map-range_more (objects_from described position) depth))

-- the lines of one object more
pub lines_more : {X : Type 0} (f : X → List ℕ) (xs : List X) (i : ℕ) (x : X) (out : List ℕ) → i < length xs → x ≡ get_or xs i x
    → out ≡ flat_map f (take i xs) → out ++ f x ≡ flat_map f (take (i + 1) xs)
lines_more f xs i x out within here so_far =
    ap (λ ys. ys ++ f x) so_far ∙ flat_map_more f [] (take i xs) x ∙ ap (λ y. flat_map f (take i xs ++ y ∷ [])) here
    ∙ ap (flat_map f) (sym (take_more xs i x within))
