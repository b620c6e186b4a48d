-- The tests of the rules on all items find what breaks them.
use Rattle.std.proofs.Common.{◌≡◌, ◌⊎◌, ℕ, Bool, true, false, List, [], ◌∷◌, ◌++◌, length, Option, Some, None, refl, sym, ap}
use Rattle.std.proofs.Common.{subst, ◌∙◌, inl, inr, arith}
use Rattle.std.specs.Prelude.{◌≢◌, ◌&&◌, ◌||◌, not, nat_lt, Contains, is_some}
use Rattle.std.specs.List.{list_any, cons_option, AllByRecursion}
use Rattle.std.proofs.lemmas.Bool.{cases_Bool, and_parts, and_from, or_cases, or_parts, or_from, or_left, or_right, both_ways}
use Rattle.std.proofs.lemmas.Bool.{false_from_ne_true, ltb-true, lt-ltb}
use Rattle.synth_text.specs.declared.kind.Kind.{Kind}
use Rattle.synth_text.specs.declared.kind.Kind.TheVariants.{Group, Pu}
use Rattle.synth_text.specs.declared.description.Level.{Level}
use Rattle.synth_text.specs.declared.parts.Nodes.{Nodes}
use Rattle.synth_text.specs.declared.parts.Placed.{Placed}
use Rattle.synth_text.specs.Kinds.{same_kind}
use Rattle.synth_text.specs.Limits.{pu_limit, object_limit}
use Rattle.synth_text.specs.Rules.{
  levels_of,
  is_level,
  has_nodes,
  description_of,
  pu_count,
  object_count,
  has_kind,
  any_of_kind,
  is_kind_again,
  is_again,
  first_again,
  from_last,
  wrong_end,
  is_large,
}
use Rattle.synth_text.proofs.Bound.{some_is}
use Rattle.synth_text.proofs.KindLaws.{same_kind-true, same_kind-equal, same_kind-false}
use Rattle.synth_spelling.specs.Together.{LacksLevel, GivesKind, Attaches, RepeatsKind}
use Rattle.synth_spelling.specs.Together.{Repeats, FirstRepeat, BeginAt, EndsWrong, IsTooLarge}
use Rattle.synth_spelling.proofs.Words.{first, later, split}

-- ---- elements that pass a test

found : {X : Type 0} (p : X → Bool) (xs : List X) → list_any p xs ≡ true → (x : X) × Contains xs x × (p x ≡ true)
found p [] e = absurd cc
found p (x ∷ xs) e =
    elim (cases_Bool (p x)) [
      | inl passes ↦ (x, first x xs x refl, passes)
      | inr fails ↦ let others = found p xs (rw fails at e) in (others.0, later x xs others.0 others.1, others.2)
    ]

passed : {X : Type 0} (p : X → Bool) (xs : List X) (x : X) → Contains xs x → p x ≡ true → list_any p xs ≡ true
passed p [] x among passes = absurd (omega (arith, among.1))
passed p (y ∷ ys) x among passes =
    elim (split y ys x among) [
      | inl is ↦ or_left (p y) (list_any p ys) (ap p is ∙ passes)
      | inr more ↦ or_right (p y) (list_any p ys) (passed p ys x more passes)
    ]

-- ---- what an item gives

kind_given : (kind : Kind) (item : Placed) → has_kind kind item.part.level ≡ true → GivesKind item kind
kind_given kind item e = by item.part.level refl e
  where
    by : (level : Option Level) → item.part.level ≡ level → has_kind kind level ≡ true → GivesKind item kind
    by None is h = absurd cc
    by (Some level) is h = record { level = level; given = is; same = same_kind-true level.kind kind h }

gives_kind : (kind : Kind) (item : Placed) → GivesKind item kind → has_kind kind item.part.level ≡ true
gives_kind kind item h = ap (has_kind kind) h.given ∙ same_kind-equal h.level.kind kind h.same

nodes_given : (item : Placed) → has_nodes item ≡ true → Attaches item
nodes_given item e = by item.part.nodes refl e
  where
    by : (nodes : Option Nodes) → item.part.nodes ≡ nodes → is_some nodes ≡ true → Attaches item
    by None is h = absurd cc
    by (Some nodes) is h = record { nodes = nodes; given = is }

gives_nodes : (item : Placed) → Attaches item → has_nodes item ≡ true
gives_nodes item h = ap is_some h.given

-- ---- repetitions

kind_again : (before : List Placed) (item : Placed) → is_kind_again before item.part.level ≡ true → RepeatsKind before item
kind_again before item e = by item.part.level refl e
  where
    by : (level : Option Level) → item.part.level ≡ level → is_kind_again before level ≡ true → RepeatsKind before item
    by None is h = absurd cc
    by (Some level) is h =
        let both = and_parts (not (same_kind level.kind Group)) (any_of_kind level.kind before) h in
        let one = found (λ (other : Placed). has_kind level.kind other.part.level) before both.1 in
        record {
          kind = level.kind;
          other = one.0;
          gives = record { level = level; given = is; same = refl };
          no_group = λ is_group. let same = same_kind-equal level.kind Group is_group in let wrong = rw same at both.0 in absurd cc;
          among = one.1;
          same = kind_given level.kind one.0 one.2;
        }

again_kind : (before : List Placed) (item : Placed) → RepeatsKind before item → is_kind_again before item.part.level ≡ true
again_kind before item h =
    let level = h.gives.level in
    let differs : same_kind level.kind Group ≡ false =
    same_kind-false level.kind Group (λ is_group. h.no_group (sym h.gives.same ∙ is_group)) in
    let there : has_kind level.kind h.other.part.level ≡ true =
    ap (λ (kind : Kind). has_kind kind h.other.part.level) h.gives.same ∙ gives_kind h.kind h.other h.same in
    ap (is_kind_again before) h.gives.given
    ∙ and_from (not (same_kind level.kind Group)) (any_of_kind level.kind before) (ap not differs)
    (passed (λ (other : Placed). has_kind level.kind other.part.level) before h.other h.among there)

repeats : (before : List Placed) (item : Placed) → is_again before item ≡ true → Repeats before item
repeats before item e =
    elim (or_cases (has_nodes item && list_any has_nodes before) (is_kind_again before item.part.level) e) [
      | inl memory ↦
          let both = and_parts (has_nodes item) (list_any has_nodes before) memory in
          let one = found has_nodes before both.1 in
          inr (record { other = one.0; attaches = nodes_given item both.0; among = one.1; same = nodes_given one.0 one.2 })
      | inr again ↦ inl (kind_again before item again)
    ]

repeated : (before : List Placed) (item : Placed) → Repeats before item → is_again before item ≡ true
repeated before item (inl h) =
    or_right (has_nodes item && list_any has_nodes before) (is_kind_again before item.part.level) (again_kind before item h)
repeated before item (inr h) =
    or_left (has_nodes item && list_any has_nodes before) (is_kind_again before item.part.level)
    (and_from (has_nodes item) (list_any has_nodes before) (gives_nodes item h.attaches)
    (passed has_nodes before h.other h.among (gives_nodes h.other h.same)))

pub first_repeat : (before items : List Placed) (at : ℕ) → first_again before items ≡ Some at → FirstRepeat before items at
first_repeat before [] at e = absurd cc
first_repeat before (item ∷ items) at e =
    elim (cases_Bool (is_again before item)) [
      | inl again ↦ inl (repeats before item again, some_is item.at at (rw again at e))
      | inr none ↦
          inr (
            λ h. both_ways (is_again before item) none (repeated before item h),
            first_repeat (before ++ item ∷ []) items at (rw none at e),
          )
    ]

pub repeat_first : (before items : List Placed) (at : ℕ) → FirstRepeat before items at → first_again before items ≡ Some at
repeat_first before [] at h = absurd h
repeat_first before (item ∷ items) at (inl h) = rw (repeated before item h.0) (ap Some h.1)
repeat_first before (item ∷ items) at (inr h) =
    let none = false_from_ne_true (is_again before item) (λ again. h.0 (repeats before item again)) in
    rw none (repeat_first (before ++ item ∷ []) items at h.1)

pub no_repeat : (before items : List Placed) → ((at : ℕ) → ¬ (FirstRepeat before items at)) → first_again before items ≡ None
no_repeat before items none = by (first_again before items) refl
  where
    by : (o : Option ℕ) → first_again before items ≡ o → o ≡ None
    by None is = refl
    by (Some at) is = absurd (none at (first_repeat before items at is))

-- ---- levels

pub lack : (items : List Placed) → length (levels_of items) ≡ 0 → AllByRecursion LacksLevel items
lack [] e = tt
lack (item ∷ items) e = by item.part.level refl e (lack items)
  where
    by : (o : Option Level) → item.part.level ≡ o → length (cons_option o (levels_of items)) ≡ 0
        → (length (levels_of items) ≡ 0 → AllByRecursion LacksLevel items) → LacksLevel item × AllByRecursion LacksLevel items
    by None is h others = (is, others h)
    by (Some level) is h others = absurd (omega arith)

pub lacking : (items : List Placed) → AllByRecursion LacksLevel items → length (levels_of items) ≡ 0
lacking [] h = refl
lacking (item ∷ items) h = ap (λ (o : Option Level). length (cons_option o (levels_of items))) h.0 ∙ lacking items h.1

none_lack : (items : List Placed) → list_any is_level items ≡ false → AllByRecursion LacksLevel items
none_lack [] e = tt
none_lack (item ∷ items) e =
    let both = or_parts (is_level item) (list_any is_level items) e in (none item.part.level both.0, none_lack items both.1)
  where
    none : (o : Option Level) → is_some o ≡ false → o ≡ None
    none None h = refl
    none (Some level) h = absurd cc

lack_none : (items : List Placed) → AllByRecursion LacksLevel items → list_any is_level items ≡ false
lack_none [] h = refl
lack_none (item ∷ items) h = or_from (is_level item) (list_any is_level items) (ap is_some h.0) (lack_none items h.1)

-- ---- the end

-- the last item that gives a level
record HasLast (items : List Placed) : Type 0 where
  pub before : List Placed
  pub last : Placed
  pub behind : List Placed
  pub level : Level
  pub parts : items ≡ before ++ last ∷ behind
  pub given : last.part.level ≡ Some level
  pub no_more : AllByRecursion LacksLevel behind
  pub found : from_last items ≡ last ∷ behind

has_last : (items : List Placed) → list_any is_level items ≡ true → HasLast items
has_last [] e = absurd cc
has_last (item ∷ items) e =
    elim (cases_Bool (list_any is_level items)) [
      | inl more ↦
          let h = has_last items more in
          record {
            before = item ∷ h.before;
            last = h.last;
            behind = h.behind;
            level = h.level;
            parts = ap (λ (others : List Placed). item ∷ others) h.parts;
            given = h.given;
            no_more = h.no_more;
            found = rw more h.found;
          }
      | inr none ↦ by item.part.level refl none (rw none at e)
    ]
  where
    by : (o : Option Level) → item.part.level ≡ o → list_any is_level items ≡ false → (is_some item.part.level || false) ≡ true
        → HasLast (item ∷ items)
    by None is none h = let wrong = rw is at h in absurd cc
    by (Some level) is none h = record {
      before = [];
      last = item;
      behind = items;
      level = level;
      parts = refl;
      given = is;
      no_more = none_lack items none;
      found = rw none refl;
    }

level_within : (before : List Placed) (last : Placed) (behind : List Placed) → is_level last ≡ true
    → list_any is_level (before ++ last ∷ behind) ≡ true
level_within [] last behind here = or_left (is_level last) (list_any is_level behind) here
level_within (item ∷ before) last behind here =
    or_right (is_level item) (list_any is_level (before ++ last ∷ behind)) (level_within before last behind here)

last_from : (before : List Placed) (last : Placed) (behind : List Placed) → is_level last ≡ true → AllByRecursion LacksLevel behind
    → from_last (before ++ last ∷ behind) ≡ last ∷ behind
last_from [] last behind here no_more = rw (lack_none behind no_more) refl
last_from (item ∷ before) last behind here no_more = rw (level_within before last behind here) (last_from before last behind here no_more)

-- what is wrong at the end
wrong_told : (last : Placed) (level : Level) (behind : List Placed) (at : ℕ) → last.part.level ≡ Some level
    → wrong_end (last ∷ behind) ≡ Some at
    → ((level.kind ≢ Pu) × (last.at ≡ at)) ⊎ ((level.kind ≡ Pu) × BeginAt behind at)
wrong_told last level [] at given e =
    elim (cases_Bool (same_kind level.kind Pu)) [
      | inl last_is ↦ let wrong = rw (given, last_is) at e in absurd cc
      | inr other ↦
          inl (
            λ same. both_ways (same_kind level.kind Pu) other (same_kind-equal level.kind Pu same),
            some_is last.at at (rw (given, other) at e),
          )
    ]
wrong_told last level (next ∷ others) at given e =
    elim (cases_Bool (same_kind level.kind Pu)) [
      | inl last_is ↦ inr (same_kind-true level.kind Pu last_is, some_is next.at at (rw (given, last_is) at e))
      | inr other ↦
          inl (
            λ same. both_ways (same_kind level.kind Pu) other (same_kind-equal level.kind Pu same),
            some_is last.at at (rw (given, other) at e),
          )
    ]

told_wrong : (last : Placed) (level : Level) (behind : List Placed) (at : ℕ) → last.part.level ≡ Some level
    → ((level.kind ≢ Pu) × (last.at ≡ at)) ⊎ ((level.kind ≡ Pu) × BeginAt behind at)
    → wrong_end (last ∷ behind) ≡ Some at
told_wrong last level [] at given (inl h) = rw (given, same_kind-false level.kind Pu h.0) (ap Some h.1)
told_wrong last level [] at given (inr h) = absurd h.1
told_wrong last level (next ∷ others) at given (inl h) = rw (given, same_kind-false level.kind Pu h.0) (ap Some h.1)
told_wrong last level (next ∷ others) at given (inr h) = rw (given, same_kind-equal level.kind Pu h.0) (ap Some h.1)

some_level : (items : List Placed) → ¬ (AllByRecursion LacksLevel items) → list_any is_level items ≡ true
some_level items some =
    elim (cases_Bool (list_any is_level items)) [ inl any ↦ any | inr lacking_all ↦ absurd (some (none_lack items lacking_all)) ]

pub ends_wrong : (items : List Placed) (at : ℕ) → ¬ (AllByRecursion LacksLevel items) → wrong_end (from_last items) ≡ Some at
    → EndsWrong items at
ends_wrong items at some e =
    let h = has_last items (some_level items some) in
    record {
      before = h.before;
      last = h.last;
      behind = h.behind;
      kind = h.level.kind;
      parts = h.parts;
      gives = record { level = h.level; given = h.given; same = refl };
      no_more = h.no_more;
      wrong = wrong_told h.last h.level h.behind at h.given (sym (ap wrong_end h.found) ∙ e);
    }

pub wrong_ends : (items : List Placed) (at : ℕ) → EndsWrong items at → wrong_end (from_last items) ≡ Some at
wrong_ends items at h =
    let level = h.gives.level in
    ap (λ (xs : List Placed). wrong_end (from_last xs)) h.parts
    ∙ ap wrong_end (last_from h.before h.last h.behind (ap is_some h.gives.given) h.no_more)
    ∙ told_wrong h.last level h.behind at h.gives.given
    (subst (λ (kind : Kind). ((kind ≢ Pu) × (h.last.at ≡ at)) ⊎ ((kind ≡ Pu) × BeginAt h.behind at)) (sym h.gives.same) h.wrong)

pub no_wrong_end : (items : List Placed) → ¬ (AllByRecursion LacksLevel items) → ((at : ℕ) → ¬ (EndsWrong items at))
    → wrong_end (from_last items) ≡ None
no_wrong_end items some none = by (wrong_end (from_last items)) refl
  where
    by : (o : Option ℕ) → wrong_end (from_last items) ≡ o → o ≡ None
    by None is = refl
    by (Some at) is = absurd (none at (ends_wrong items at some is))

-- ---- too many objects

pub too_large : (items : List Placed) → is_large (description_of items) ≡ true → IsTooLarge items
too_large items e =
    let pus = pu_count (description_of items) in
    let objects = object_count (description_of items) in
    elim (or_cases (nat_lt pu_limit pus) (nat_lt object_limit objects) e) [
      | inl many ↦ inl (ltb-true pu_limit pus many)
      | inr more ↦ inr (ltb-true object_limit objects more)
    ]

pub large_too : (items : List Placed) → IsTooLarge items → is_large (description_of items) ≡ true
large_too items (inl many) =
    let pus = pu_count (description_of items) in
    or_left (nat_lt pu_limit pus) (nat_lt object_limit (object_count (description_of items))) (lt-ltb pu_limit pus many)
large_too items (inr more) =
    let objects = object_count (description_of items) in
    or_right (nat_lt pu_limit (pu_count (description_of items))) (nat_lt object_limit objects) (lt-ltb object_limit objects more)
