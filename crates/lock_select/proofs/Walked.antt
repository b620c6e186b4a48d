-- The walk over the turns of a trace tells what they cost.
use Rattle.std.proofs.Common.{◌≡◌, ℕ, zero, suc, ◌+◌, ◌-◌, ◌<◌, ◌≤◌, Bool, true, false, ◌&&◌, List, [], ◌∷◌, ◌++◌, length, take, get_or}
use Rattle.std.proofs.Common.{refl, ap, sym}
use Rattle.std.proofs.Common.{◌∙◌, subst, arith, nat_lt, Some, eq-eqb, inl, inr}
use Rattle.std.specs.Prelude.{slice_get, slice_index, ◌==◌}
use Rattle.std.specs.List.{sum_by, range_with_len}
use Rattle.std.proofs.lemmas.Bool.{cases_lt, cases_order, eqb-true, ltb-true}
use Rattle.std.proofs.lemmas.Bool.Decides.{nat_tests}
use Rattle.std.proofs.lemmas.List.{take_more, take_all}
use Rattle.std.proofs.lemmas.List.Elements.{All-get_or}
use Rattle.std.proofs.lemmas.List.FromFn.{length-range_with_len, get_or-range_with_len}
use Rattle.std.proofs.lemmas.List.Sums.{position_or_len_is, sum_by_push}
use Rattle.std.proofs.lemmas.Option.{slice_get-get_or}
use Rattle.synth_text.specs.declared.description.Description.{Description}
use Rattle.synth_text.specs.Rules.{pu_count}
use Rattle.topo_tree.specs.Objects.{depth_count}
use Rattle.keep_local.specs.declared.shape.Shape.{Shape}
use Rattle.keep_local.specs.declared.turn.Turn.{Turn}
use Rattle.keep_local.specs.Shapes.{top_of, node_of}
use Rattle.keep_local.specs.Turns.{run, climb_after}
use Rattle.keep_local.proofs.Runs.{run_none, run_same, run_lower, run_higher}
use Rattle.lock_select.specs.Traces.{Visits}
use Rattle.lock_select.specs.Nodes.{AreLevels, shape_of}
use Rattle.lock_select.specs.IdealTurns.{can_stay, ideal_left, ideal_turn}
use Rattle.lock_select.specs.Costs.{climb_cost, cost_of}
use Rattle.lock_select.specs.Walks.{IsCommon, IsHandedOn, HasWalked, turns_of}
use Rattle.lock_select.proofs.Ideals.{length-ideal_turns, turn_at, climb_behind}
use Rattle.lock_select.proofs.NodeLaws.{top_is, keep_is, node_is}

both_true : (a b : Bool) → a ≡ true → b ≡ true → (a && b) ≡ true
both_true true b h k = k
both_true false b h k = absurd cc

not_true : (b : Bool) → (b ≡ true → ⊥) → b ≡ false
not_true true h = absurd (h refl)
not_true false h = refl

from_both : (a b : Bool) → (a && b) ≡ true → (a ≡ true) × (b ≡ true)
from_both true b h = (refl, h)
from_both false b h = absurd cc

module _ (described : Description) (weights depths : List ℕ) (keep : ℕ) (trace : List ℕ) where
  abbrev shape : Shape
  shape = shape_of described depths keep

  abbrev turns : List Turn
  turns = turns_of described depths keep trace

  abbrev price : Turn → ℕ
  price turn = climb_cost weights depths turn.climb

  abbrev no_turn : Turn
  no_turn = record { caller = 0; climb = 0; tests = 0; left = 0 }

  abbrev turn : ℕ → Turn
  turn n = get_or turns n no_turn

  abbrev before : ℕ → List Turn
  before n = take n turns

  long : length turns ≡ length trace
  long = length-ideal_turns shape trace

  one_more : (n : ℕ) → n < length trace → before (n + 1) ≡ before n ++ turn n ∷ []
  one_more n h = let l = long in take_more turns n no_turn (omega (arith, l, h))

  turn_is : (n : ℕ) → n < length trace
      → turn n ≡ ideal_turn shape (before n) (slice_index trace n) (slice_get trace (n + 1))
  turn_is n h = turn_at shape trace n no_turn h

  -- the first turn climbs to the top
  pub starts : (runs : List ℕ) (cost : ℕ) → 0 < length trace → ((level : ℕ) → slice_index runs level ≡ 0)
      → cost ≡ climb_cost weights depths (length depths - 1) → HasWalked described weights depths keep trace 0 runs cost
  starts runs cost some none is =
      let first : before 1 ≡ turn 0 ∷ [] = one_more 0 some in
      let climb : (turn 0).climb ≡ length depths - 1 =
      ap (λ (t : Turn). t.climb) (turn_is 0 some) ∙ top_is described depths keep in
      record {
        runs_are = λ level h. none level ∙ sym (run_none level);
        cost_is =
            let paid = ap (climb_cost weights depths) climb in
            let whole = ap (sum_by price) first in
            omega (arith, is, paid, whole, sum_by_push price [] (turn 0));
      }

  module _ (levels : AreLevels described depths) (visits : Visits described trace) (n common : ℕ) (runs after : List ℕ) (left cost : ℕ)
      (within : n + 1 < length trace)
      (is_common : IsCommon described (slice_index trace n) (slice_index trace (n + 1)) common)
      (walked : HasWalked described weights depths keep trace n runs cost)
      (handed : IsHandedOn depths keep common runs after left) where
    abbrev caller : ℕ
    caller = slice_index trace n

    abbrev next : ℕ
    next = slice_index trace (n + 1)

    caller_known : caller < pu_count described
    caller_known = All-get_or (λ (pu : ℕ). pu < pu_count described) trace n 0 (omega (arith, within)) visits.within

    next_known : next < pu_count described
    next_known = All-get_or (λ (pu : ℕ). pu < pu_count described) trace (n + 1) 0 within visits.within

    depth_known : (level : ℕ) → level < length depths → slice_index depths level < depth_count described
    depth_known level h = All-get_or (λ (depth : ℕ). depth < depth_count described) depths level 0 h levels.within

    abbrev stays : ℕ → Bool
    stays level = can_stay shape (before n) caller (Some next) level

    is_near : (level : ℕ) → level < length depths → slice_index depths level ≤ common
        → (node_of shape caller level == node_of shape next level) ≡ true
    is_near level h near =
        eq-eqb _ _
        (node_is described depths keep caller level caller_known h
        ∙ is_common.same (slice_index depths level) near
        ∙ sym (node_is described depths keep next level next_known h))

    near_is : (level : ℕ) → level < length depths → (node_of shape caller level == node_of shape next level) ≡ true
        → slice_index depths level ≤ common
    near_is level h near = elim (cases_lt common (slice_index depths level)) [
      | inl apart ↦ absurd (is_common.apart (slice_index depths level) apart (depth_known level h)
          (sym (node_is described depths keep caller level caller_known h)
          ∙ eqb-true _ _ near
          ∙ node_is described depths keep next level next_known h))
      | inr low ↦ low
    ]

    few_is : (level : ℕ) → level < length depths - 1 → slice_index runs level < keep
        → nat_lt (run level (before n)) (slice_index shape.keeps level) ≡ true
    few_is level h few =
        let runs_are = walked.runs_are level h in
        let keeps = keep_is described depths keep level h in
        let less : run level (before n) < slice_index shape.keeps level = omega (arith, runs_are, keeps, few) in
        grind (arith, nat_tests)

    is_few : (level : ℕ) → level < length depths - 1 → nat_lt (run level (before n)) (slice_index shape.keeps level) ≡ true
        → slice_index runs level < keep
    is_few level h few =
        let runs_are = walked.runs_are level h in
        let keeps = keep_is described depths keep level h in
        let less : run level (before n) < slice_index shape.keeps level = ltb-true _ _ few in
        omega (arith, runs_are, keeps, less)

    leaves : ideal_left shape (before n) caller (Some next) ≡ left
    leaves =
        let top = top_is described depths keep in
        let size = length-range_with_len 0 (top_of shape) in
        let bound = handed.within in
        let at : (level : ℕ) → level < top_of shape → get_or (range_with_len 0 (top_of shape)) level 0 ≡ level = λ level h.
        get_or-range_with_len 0 (top_of shape) level 0 h ∙ (let e : 0 + level ≡ level = omega arith in e) in
        position_or_len_is stays (range_with_len 0 (top_of shape)) left 0 (omega (arith, top, size, bound))
        (λ level h.
        let below : level < length depths - 1 = omega (arith, h, bound) in
        ap stays (at level (omega (arith, top, below)))
        ∙ not_true (stays level) (λ yes.
        let both = from_both _ _ yes in
        handed.least level h (near_is level (omega (arith, below)) both.0) (is_few level below both.1)))
        (λ h.
        let below : left < length depths - 1 = omega (arith, h, top, size) in
        let there = handed.stays below in
        ap stays (at left (omega (arith, top, below)))
        ∙ both_true _ _ (is_near left (omega (arith, below)) there.0) (few_is left below there.1))

    turn_left : (turn n).left ≡ left
    turn_left =
        ap (λ (t : Turn). t.left) (turn_is n (omega (arith, within)))
        ∙ ap (ideal_left shape (before n) caller) (slice_get-get_or trace (n + 1) 0 within)
        ∙ leaves

    more : before (n + 1) ≡ before n ++ turn n ∷ []
    more = one_more n (omega (arith, within))

    next_climb : (turn (n + 1)).climb ≡ left
    next_climb =
        ap (λ (t : Turn). t.climb) (turn_is (n + 1) within)
        ∙ ap (climb_after shape) more ∙ climb_behind shape (before n) (turn n) ∙ turn_left

    runs_on : (level : ℕ) → level < length depths - 1 → slice_index after level ≡ run level (before (n + 1))
    runs_on level h =
        let was = walked.runs_are level h in
        let is_left = turn_left in
        let now = ap (run level) more in
        elim (cases_order level left) [
          | inl same ↦
              let grown : slice_index after level ≡ slice_index runs level + 1 =
              subst (λ (k : ℕ). slice_index after k ≡ slice_index runs k + 1) (sym same) (handed.grown (omega (arith, same, h))) in
              let one = run_same level (before n) (turn n) (is_left ∙ sym same) in
              omega (arith, was, now, grown, one)
          | inr other ↦ elim other [
            | inl lower ↦
                let ended = handed.ended level lower in
                let none = run_higher level (before n) (turn n) (omega (arith, is_left, lower)) in
                omega (arith, now, ended, none)
            | inr higher ↦
                let kept = handed.others level higher in
                let same = run_lower level (before n) (turn n) (omega (arith, is_left, higher)) in
                omega (arith, was, now, kept, same)
          ]
        ]

    -- one more turn
    pub goes_on : (n' paid : ℕ) → n' ≡ n + 1 → paid ≡ climb_cost weights depths left
        → HasWalked described weights depths keep trace n' after (cost + paid)
    goes_on n' paid same paid_is =
        let so_far = walked.cost_is in
        let longer : before (n + 1 + 1) ≡ before (n + 1) ++ turn (n + 1) ∷ [] = one_more (n + 1) within in
        let added = ap (sum_by price) longer ∙ sum_by_push price (before (n + 1)) (turn (n + 1)) in
        let climbed = ap (climb_cost weights depths) next_climb in
        subst (λ (k : ℕ). HasWalked described weights depths keep trace k after (cost + paid)) (sym same)
        (record { runs_are = runs_on; cost_is = omega (arith, so_far, added, climbed, paid_is) })

  -- behind the last turn
  pub ends : (n : ℕ) (runs : List ℕ) (cost : ℕ) → n + 1 ≡ length trace → HasWalked described weights depths keep trace n runs cost
      → cost ≡ cost_of described weights depths keep trace
  unfolding cost_of
  ends n runs cost last walked =
      let l = long in
      let all : before (n + 1) ≡ turns = take_all (n + 1) turns (omega (arith, l, last)) in
      walked.cost_is ∙ ap (sum_by price) all

-- no turn costs nothing
pub none_cost : (described : Description) (weights depths : List ℕ) (keep : ℕ) (trace : List ℕ) → length trace ≡ 0
    → 0 ≡ cost_of described weights depths keep trace
unfolding cost_of
none_cost described weights depths keep [] none = refl
none_cost described weights depths keep (pu ∷ trace) none = absurd (omega (arith, none))

-- no turn was handed on yet
pub no_runs : (level : ℕ) → slice_index (0 ∷ 0 ∷ 0 ∷ 0 ∷ 0 ∷ []) level ≡ 0
no_runs zero = refl
no_runs (suc zero) = refl
no_runs (suc (suc zero)) = refl
no_runs (suc (suc (suc zero))) = refl
no_runs (suc (suc (suc (suc zero)))) = refl
no_runs (suc (suc (suc (suc (suc level))))) = refl
