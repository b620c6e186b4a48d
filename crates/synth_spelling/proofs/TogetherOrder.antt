-- The first rule that the tests on all items find broken is the first that they break.
use Rattle.std.proofs.Common.{◌≡◌, ℕ, ◌<◌, ◌≤◌, false, List, [], length, Option, Some, None, refl, sym, subst, ◌∙◌, inl, inr, arith}
use Rattle.std.specs.Prelude.{◌≢◌, ◌==◌, nat_lt}
use Rattle.std.specs.List.{AllByRecursion}
use Rattle.std.proofs.lemmas.Bool.{cases_Bool, both_ways, eqb-true, eqb-false, ltb-true, ltb-false}
use Rattle.synth_text.specs.declared.fault.SynthRule.{SynthRule}
use Rattle.synth_text.specs.declared.fault.SynthRule.TheVariants as rules
use Rattle.synth_text.specs.declared.parts.Placed.{Placed}
use Rattle.synth_text.specs.Limits.{level_limit}
use Rattle.synth_text.specs.Rules.{levels_of, description_of, first_again, from_last, wrong_end, is_large, broken}
use Rattle.synth_text.proofs.RuleLaws.{
  refused_empty,
  refused_again,
  refused_end,
  refused_many,
  refused_none,
  broken_first,
  broken_large,
  broken_none,
}
use Rattle.synth_spelling.specs.Together.{LacksLevel, FirstRepeat, EndsWrong, IsTooLarge, Break, order, BreakFirst, KeepRules}
use Rattle.synth_spelling.proofs.TogetherRules.{
  lack,
  lacking,
  first_repeat,
  repeat_first,
  no_repeat,
  ends_wrong,
  wrong_ends,
  no_wrong_end,
  too_large,
  large_too,
}

-- no rule before a place of the order is broken, where each of them isn't
none_before : (items : List Placed) (place : ℕ) → (1 < place → ¬ (AllByRecursion LacksLevel items))
    → (2 < place → (at : ℕ) → ¬ (FirstRepeat [] items at)) → (3 < place → (at : ℕ) → ¬ (EndsWrong items at))
    → (4 < place → ¬ (level_limit < length (description_of items).levels)) → (5 < place → ¬ (IsTooLarge items))
    → (other : SynthRule) → order other < place → ¬ (Break items other)
none_before items place some differ ends few small rules.Empty less = some less
none_before items place some differ ends few small (rules.RepeatedType at) less = differ less at
none_before items place some differ ends few small (rules.LastNotPu at) less = ends less at
none_before items place some differ ends few small rules.TooManyLevels less = few less
none_before items place some differ ends few small rules.TooManyObjects less = small less
none_before items place some differ ends few small (rules.BadType at) less = λ h. h
none_before items place some differ ends few small (rules.BadArity at) less = λ h. h
none_before items place some differ ends few small (rules.BadAttr at) less = λ h. h
none_before items place some differ ends few small (rules.BadIndexes at) less = λ h. h

-- what the tests find: a first broken rule, or none
abbrev Finding : List Placed → Option SynthRule → Type 0
Finding items None = KeepRules items
Finding items (Some rule) = BreakFirst items rule

empty_found : (items : List Placed) → length (levels_of items) ≡ 0 → Finding items (broken items)
empty_found items none =
    subst (Finding items) (sym (broken_first items rules.Empty (refused_empty items none)))
    (record {
      broken = lack items none;
      first = none_before items 1 (λ less. absurd (omega arith)) (λ less. absurd (omega arith)) (λ less. absurd (omega arith))
          (λ less. absurd (omega arith)) (λ less. absurd (omega arith));
    })

module _ (items : List Placed) (some : length (levels_of items) ≢ 0) where
  has_some : ¬ (AllByRecursion LacksLevel items)
  has_some h = some (lacking items h)

  repeat_found : (at : ℕ) → first_again [] items ≡ Some at → Finding items (broken items)
  repeat_found at again =
      subst (Finding items) (sym (broken_first items (rules.RepeatedType at) (refused_again items at some again)))
      (record {
        broken = first_repeat [] items at again;
        first = none_before items 2 (λ less. has_some) (λ less. absurd (omega arith)) (λ less. absurd (omega arith))
            (λ less. absurd (omega arith)) (λ less. absurd (omega arith));
      })

  module _ (differ : first_again [] items ≡ None) where
    none_repeated : (at : ℕ) → ¬ (FirstRepeat [] items at)
    none_repeated at h = let is = sym differ ∙ repeat_first [] items at h in absurd cc

    end_found : (at : ℕ) → wrong_end (from_last items) ≡ Some at → Finding items (broken items)
    end_found at end =
        subst (Finding items) (sym (broken_first items (rules.LastNotPu at) (refused_end items at some differ end)))
        (record {
          broken = ends_wrong items at has_some end;
          first = none_before items 3 (λ less. has_some) (λ less. none_repeated) (λ less. absurd (omega arith))
              (λ less. absurd (omega arith)) (λ less. absurd (omega arith));
        })

    module _ (ends : wrong_end (from_last items) ≡ None) where
      ends_well : (at : ℕ) → ¬ (EndsWrong items at)
      ends_well at h = let is = sym ends ∙ wrong_ends items at h in absurd cc

      many_found : level_limit < length (levels_of items) → Finding items (broken items)
      many_found many =
          subst (Finding items) (sym (broken_first items rules.TooManyLevels (refused_many items some differ ends many)))
          (record {
            broken = many;
            first = none_before items 4 (λ less. has_some) (λ less. none_repeated) (λ less. ends_well)
                (λ less. absurd (omega arith)) (λ less. absurd (omega arith));
          })

      module _ (few : length (levels_of items) ≤ level_limit) where
        few_levels : ¬ (level_limit < length (levels_of items))
        few_levels many = absurd (omega arith)

        size_found : Finding items (broken items)
        size_found =
            elim (cases_Bool (is_large (description_of items))) [
              | inl large ↦
                  subst (Finding items) (sym (broken_large items (refused_none items some differ ends few) large))
                  (record {
                    broken = too_large items large;
                    first = none_before items 5 (λ less. has_some) (λ less. none_repeated) (λ less. ends_well)
                        (λ less. few_levels) (λ less. absurd (omega arith));
                  })
              | inr small ↦
                  subst (Finding items) (sym (broken_none items (refused_none items some differ ends few) small))
                  (λ rule. kept small rule (below rule))
            ]
          where
            kept : is_large (description_of items) ≡ false → (rule : SynthRule) → order rule < 6 → ¬ (Break items rule)
            kept small = none_before items 6 (λ less. has_some) (λ less. none_repeated) (λ less. ends_well) (λ less. few_levels)
                (λ less h. both_ways (is_large (description_of items)) small (large_too items h))

            below : (rule : SynthRule) → order rule < 6
            below rules.Empty = omega arith
            below (rules.RepeatedType at) = omega arith
            below (rules.LastNotPu at) = omega arith
            below rules.TooManyLevels = omega arith
            below rules.TooManyObjects = omega arith
            below (rules.BadType at) = omega arith
            below (rules.BadArity at) = omega arith
            below (rules.BadAttr at) = omega arith
            below (rules.BadIndexes at) = omega arith

pub finding : (items : List Placed) → Finding items (broken items)
finding items =
    elim (cases_Bool (length (levels_of items) == 0)) [
      | inl none ↦ empty_found items (eqb-true (length (levels_of items)) 0 none)
      | inr some ↦ by_repeat (eqb-false (length (levels_of items)) 0 some) (first_again [] items) refl
    ]
  where
    by_levels : (some : length (levels_of items) ≢ 0) (differ : first_again [] items ≡ None)
        → wrong_end (from_last items) ≡ None → Finding items (broken items)
    by_levels some differ ends =
        elim (cases_Bool (nat_lt level_limit (length (levels_of items)))) [
          | inl many ↦ many_found items some differ ends (ltb-true level_limit (length (levels_of items)) many)
          | inr few ↦ size_found items some differ ends (ltb-false level_limit (length (levels_of items)) few)
        ]

    by_end : (some : length (levels_of items) ≢ 0) (differ : first_again [] items ≡ None) (o : Option ℕ)
        → wrong_end (from_last items) ≡ o → Finding items (broken items)
    by_end some differ None is = by_levels some differ is
    by_end some differ (Some at) is = end_found items some differ at is

    by_repeat : (some : length (levels_of items) ≢ 0) (o : Option ℕ) → first_again [] items ≡ o → Finding items (broken items)
    by_repeat some None is = by_end some is (wrong_end (from_last items)) refl
    by_repeat some (Some at) is = repeat_found items some at is

pub rule_first : (items : List Placed) (rule : SynthRule) → broken items ≡ Some rule → BreakFirst items rule
rule_first items rule is = subst (Finding items) is (finding items)

pub rules_kept : (items : List Placed) → broken items ≡ None → KeepRules items
rules_kept items is = subst (Finding items) is (finding items)

-- ---- the other way round

pub kept_rules : (items : List Placed) → KeepRules items → broken items ≡ None
kept_rules items keep = by (broken items) refl
  where
    by : (o : Option SynthRule) → broken items ≡ o → o ≡ None
    by None is = refl
    by (Some rule) is = absurd (keep rule (rule_first items rule is).broken)

-- what isn't broken before a rule that is broken first
module _ (items : List Placed) (rule : SynthRule) (first : BreakFirst items rule) where
  levels_before : 1 < order rule → length (levels_of items) ≢ 0
  levels_before less none = first.first rules.Empty less (lack items none)

  differ_before : 2 < order rule → first_again [] items ≡ None
  differ_before less = no_repeat [] items (λ at. first.first (rules.RepeatedType at) less)

  ends_before : 1 < order rule → 3 < order rule → wrong_end (from_last items) ≡ None
  ends_before some less =
      no_wrong_end items (first.first rules.Empty some) (λ at. first.first (rules.LastNotPu at) less)

  few_before : 4 < order rule → length (levels_of items) ≤ level_limit
  few_before less = let no_more : ¬ (level_limit < length (levels_of items)) = first.first rules.TooManyLevels less in omega arith

pub first_rule : (items : List Placed) (rule : SynthRule) → BreakFirst items rule → broken items ≡ Some rule
first_rule items rules.Empty h = broken_first items rules.Empty (refused_empty items (lacking items h.broken))
first_rule items (rules.RepeatedType at) h =
    let rule = rules.RepeatedType at in
    broken_first items rule
    (refused_again items at (levels_before items rule h (omega arith)) (repeat_first [] items at h.broken))
first_rule items (rules.LastNotPu at) h =
    let rule = rules.LastNotPu at in
    broken_first items rule
    (refused_end items at (levels_before items rule h (omega arith)) (differ_before items rule h (omega arith))
    (wrong_ends items at h.broken))
first_rule items rules.TooManyLevels h =
    let rule = rules.TooManyLevels in
    broken_first items rule
    (refused_many items (levels_before items rule h (omega arith)) (differ_before items rule h (omega arith))
    (ends_before items rule h (omega arith) (omega arith)) h.broken)
first_rule items rules.TooManyObjects h =
    let rule = rules.TooManyObjects in
    broken_large items
    (refused_none items (levels_before items rule h (omega arith)) (differ_before items rule h (omega arith))
    (ends_before items rule h (omega arith) (omega arith)) (few_before items rule h (omega arith)))
    (large_too items h.broken)
first_rule items (rules.BadType at) h = absurd h.broken
first_rule items (rules.BadArity at) h = absurd h.broken
first_rule items (rules.BadAttr at) h = absurd h.broken
first_rule items (rules.BadIndexes at) h = absurd h.broken
