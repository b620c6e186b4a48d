-- Laws of the objects over PUs.
use Rattle.std.proofs.Common.{◌≡◌, ℕ, zero, suc, ◌+◌, ◌-◌, ◌*◌, ◌/◌, ◌<◌, ◌≤◌, length, drop, ap, sym, ◌∙◌, subst, arith}
use Rattle.std.proofs.Math.Nat.{mul_comm, div-one, div-eq_of_lt, div-mul-le_self, lt-div-mul-add, div-div-eq-div-mul}
use Rattle.std.proofs.Math.Nat.{div-lt_iff_lt-mul}
use Rattle.std.proofs.Math.Seq.{drop-cons}
use Rattle.std.proofs.lemmas.List.{length-map}
use Rattle.synth_text.specs.declared.description.Description.{Description}
use Rattle.synth_text.specs.declared.description.Level.{Level}
use Rattle.synth_text.specs.Rules.{arities, product, pu_count}
use Rattle.synth_text.specs.Sound.{IsSound}
use Rattle.topo_tree.specs.Objects.{depth_count, arity_at, count_at}
use Rattle.topo_tree.specs.Coverage.{object_over}
use Rattle.topo_tree.specs.Laws.{ObjectsOverPusCoverThem, CommonObjectsNestUpwards}
use Rattle.topo_tree.proofs.CountLaws.{have_arities, width_some, some_objects, divided, whole_counts}
use Rattle.topo_tree.proofs.Coverings.{first_covered_whole}

-- how many PUs an object of a depth covers
abbrev pub width_of : Description → ℕ → ℕ
width_of described depth = pu_count described / count_at described depth

width_is : (described : Description) (depth : ℕ) → IsSound described
    → width_of described depth ≡ product (drop depth (arities described.levels))
width_is described depth sound = divided depth described.levels (have_arities described sound)

pub width_positive : (described : Description) (depth : ℕ) → IsSound described → 0 < width_of described depth
width_positive described depth sound =
    omega (arith, width_is described depth sound, width_some depth described.levels (have_arities described sound))

width_up : (described : Description) (depth : ℕ) → IsSound described → depth < length described.levels
    → width_of described depth ≡ arity_at described depth * width_of described (depth + 1)
width_up described depth sound within =
    let long : depth < length (arities described.levels) = omega (arith, length-map described.levels (λ (level : Level). level.arity)) in
    width_is described depth sound
    ∙ ap product (drop-cons (arities described.levels) depth 0 long)
    ∙ ap (λ (n : ℕ). arity_at described depth * product (drop n (arities described.levels)))
    (let e : suc depth ≡ depth + 1 = omega arith in e)
    ∙ ap (λ (w : ℕ). arity_at described depth * w) (sym (width_is described (depth + 1) sound))

-- the object above
over_up : (described : Description) (depth pu : ℕ) → IsSound described → depth < length described.levels
    → object_over described depth pu ≡ object_over described (depth + 1) pu / arity_at described depth
over_up described depth pu sound within =
    ap (λ (w : ℕ). pu / w)
    (width_up described depth sound within ∙ mul_comm (arity_at described depth) (width_of described (depth + 1)))
    ∙ sym (div-div-eq-div-mul pu (width_of described (depth + 1)) (arity_at described depth))

-- PUs under one object are under one object at each depth above it
same_up_by : (described : Description) (depth gap pu next : ℕ) → IsSound described → depth + gap ≤ length described.levels
    → object_over described (depth + gap) pu ≡ object_over described (depth + gap) next
    → object_over described depth pu ≡ object_over described depth next
same_up_by described depth zero pu next sound within same =
    let e : depth + 0 ≡ depth = omega arith in
    subst (λ (n : ℕ). object_over described n pu ≡ object_over described n next) e same
same_up_by described depth (suc gap) pu next sound within same =
    let e : depth + suc gap ≡ depth + 1 + gap = omega arith in
    let below : object_over described (depth + 1) pu ≡ object_over described (depth + 1) next =
    same_up_by described (depth + 1) gap pu next sound (omega arith)
    (subst (λ (n : ℕ). object_over described n pu ≡ object_over described n next) e same) in
    over_up described depth pu sound (omega arith)
    ∙ ap (λ (n : ℕ). n / arity_at described depth) below
    ∙ sym (over_up described depth next sound (omega arith))

pub same_up : (described : Description) (depth lower pu next : ℕ) → IsSound described → depth ≤ lower → lower < depth_count described
    → object_over described lower pu ≡ object_over described lower next
    → object_over described depth pu ≡ object_over described depth next
same_up described depth lower pu next sound above within same =
    let e : lower ≡ depth + (lower - depth) = omega arith in
    same_up_by described depth (lower - depth) pu next sound (omega arith)
    (subst (λ (n : ℕ). object_over described n pu ≡ object_over described n next) e same)

-- all PUs are under Machine
pub over_machine : (described : Description) (pu : ℕ) → pu < pu_count described → object_over described 0 pu ≡ 0
over_machine described pu within = ap (λ (w : ℕ). pu / w) (div-one (pu_count described)) ∙ div-eq_of_lt within

pub over_within : (described : Description) (depth pu : ℕ) → IsSound described → pu < pu_count described
    → object_over described depth pu < count_at described depth
over_within described depth pu sound within =
    let whole = whole_counts depth described.levels (have_arities described sound) in
    let inside : pu < count_at described depth * width_of described depth = omega (arith, whole, within) in
    (div-lt_iff_lt-mul (width_positive described depth sound)).1 inside

pub covered : ObjectsOverPusCoverThem
covered described depth pu built within =
    let sound = built.sound in
    let w : ℕ = width_of described depth in
    let whole = whole_counts depth described.levels (have_arities described sound) in
    let some : 0 < count_at described depth = omega (arith, some_objects described depth sound) in
    let at = first_covered_whole (pu_count described) (count_at described depth) (object_over described depth pu) some whole in
    let next = first_covered_whole (pu_count described) (count_at described depth) (object_over described depth pu + 1) some whole in
    let low = div-mul-le_self pu w in
    let high : pu < pu / w * w + w = lt-div-mul-add (width_positive described depth sound) in
    record { fit = over_within described depth pu sound within; from = omega (arith, at, low); to = omega (arith, next, high) }

pub nest_upwards : CommonObjectsNestUpwards
nest_upwards described depth lower pu other built above within same =
    same_up described depth lower pu other built.sound above within same
