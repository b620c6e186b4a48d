-- Words that go to positionals in turn stand in order.
use Rattle.std.proofs.Common.{◌≡◌, Bool, cond, true, false, List, [], ◌∷◌, ◌++◌, Some, None, refl, sym, ap, subst, ◌∙◌, inl, inr}
use Rattle.std.proofs.Common.{arith, length}
use Rattle.std.proofs.Common.{append-nil, append_assoc}
use Rattle.std.specs.Prelude.{◌||◌, not, unwrap_or, fold}
use Rattle.std.specs.List.{AllByRecursion, filter, list_all}
use Rattle.std.specs.Str.{bytes_eq}
use Rattle.std.proofs.lemmas.Bool.{and_parts, and_from, both_ways, cases_Bool, eqb-true, false_from_ne_true, not-true}
use Rattle.std.proofs.lemmas.Slice.Eq.{bytes_eq-Decides}
use Rattle.clap.specs.declared.builder.action.ArgAction.TheVariants as action
use Rattle.clap.specs.Walk.{Row, Rule, Text, action_of, all_of, default_rows, has_row, is_empty, reading_by, used, with_default}
use Rattle.command_words.specs.Commands.{taken_by}
use Rattle.word_laws.specs.Positionals.{given, have_own_ids, is_set, keeps_words, takes_all, with_defaults, StandInOrder}
use Rattle.word_laws.proofs.Rows.{kinds_of, used_once, used_more, used_other, values_other}

-- ---- ids

pub turned : (one other : Text) → bytes_eq one other ≡ false → bytes_eq other one ≡ false
turned one other differ = false_from_ne_true (bytes_eq other one)
    (λ same. both_ways (bytes_eq one other) differ ((bytes_eq-Decides one other).1 (sym ((bytes_eq-Decides other one).0 same))))

-- no argument has the id
abbrev pub lack_id : Text → List Rule → Bool
lack_id id rules = list_all (λ other. not (bytes_eq id other.id)) rules

-- ---- one use

-- each word finds a positional
abbrev pub Fit : List Rule → List Text → Type 0
Fit rules [] = Unit {0}
Fit [] (word ∷ words) = ⊥
Fit (rule ∷ rules) (word ∷ words) = cond (takes_all rule) (Unit {0}) (Fit rules words)

-- none of the arguments has a word
abbrev pub HaveNone : List Row → List Rule → Type 0
HaveNone rows rules = AllByRecursion (λ (rule : Rule). all_of rule.id rows ≡ None) rules

pub have_none : (rule : Rule) (word : Text) (rows : List Row) → keeps_words rule ≡ true → (rules : List Rule) → lack_id rule.id rules ≡ true
    → HaveNone rows rules → HaveNone (used rule (word ∷ []) rows) rules
have_none rule word rows keeps [] differ none = tt
have_none rule word rows keeps (other ∷ rules) differ none =
    let both = and_parts (not (bytes_eq rule.id other.id)) _ differ in (
      used_other rule (word ∷ []) other.id rows (not-true _ both.0) ∙ none.0,
      have_none rule word rows keeps rules both.1 none.1,
    )

-- words that go to others are none of an argument's
given_other : (id : Text) (rules : List Rule) (words : List Text) (rows : List Row) → list_all keeps_words rules ≡ true
    → lack_id id rules ≡ true → all_of id (given rules words rows) ≡ all_of id rows
given_other id rules [] rows keeps differ = refl
given_other id [] (word ∷ words) rows keeps differ = refl
given_other id (rule ∷ rules) (word ∷ words) rows keeps differ =
    let keep = and_parts (keeps_words rule) _ keeps in
    let both = and_parts (not (bytes_eq id rule.id)) _ differ in
    let here = used_other rule (word ∷ []) id rows (turned id rule.id (not-true _ both.0)) in
    elim (cases_Bool (takes_all rule)) [
      | inl all ↦ rw all (given_other id (rule ∷ rules) words (used rule (word ∷ []) rows) keeps differ ∙ here)
      | inr once ↦ rw once (given_other id rules words (used rule (word ∷ []) rows) keep.1 both.1 ∙ here)
    ]

module _ (rule : Rule) (rules : List Rule) (all : takes_all rule ≡ true) (is : action_of rule ≡ action.Append) where
  -- one that takes any number takes all
  all_given : (words : List Text) (rows : List Row)
      → taken_by rule.id (given (rule ∷ rules) words rows) ≡ taken_by rule.id rows ++ words
  all_given [] rows = sym (append-nil (taken_by rule.id rows))
  all_given (word ∷ words) rows =
      rw all (all_given words (used rule (word ∷ []) rows) ∙ ap (λ own. own ++ words) (used_more rule word rows is)
      ∙ append_assoc (taken_by rule.id rows) (word ∷ []) words)

  -- so that the others have none
  none_given : keeps_words rule ≡ true → (id : Text) → bytes_eq rule.id id ≡ false → (words : List Text) (rows : List Row)
      → all_of id (given (rule ∷ rules) words rows) ≡ all_of id rows
  none_given keeps id differ [] rows = refl
  none_given keeps id differ (word ∷ words) rows =
      rw all (none_given keeps id differ words (used rule (word ∷ []) rows) ∙ used_other rule (word ∷ []) id rows differ)

-- ---- order

-- the arguments have in the end what the words give them
abbrev pub EndWith : List Row → List Row → List Rule → Type 0
EndWith final rows rules = AllByRecursion (λ (rule : Rule). all_of rule.id final ≡ all_of rule.id rows) rules

none_in_order : (final : List Row) (rules : List Rule) → HaveNone final rules → StandInOrder final rules []
none_in_order final [] none = refl
none_in_order final (rule ∷ rules) none =
    elim (cases_Bool (takes_all rule)) [
      | inl all ↦ rw all (ap (λ o. unwrap_or o []) none.0, none_in_order final rules none.1)
      | inr once ↦ rw once (ap (λ o. unwrap_or o []) none.0, none_in_order final rules none.1)
    ]

end_none : (final rows : List Row) (rules : List Rule) → EndWith final rows rules → HaveNone rows rules → HaveNone final rules
end_none final rows [] ends none = tt
end_none final rows (rule ∷ rules) ends none = (ends.0 ∙ none.0, end_none final rows rules ends.1 none.1)

-- behind one that takes all
behind_all : (rule : Rule) (others : List Rule) (all : takes_all rule ≡ true) (is : action_of rule ≡ action.Append)
    → keeps_words rule ≡ true → (words : List Text) (rows : List Row) (rules : List Rule) → lack_id rule.id rules ≡ true
    → HaveNone rows rules → HaveNone (given (rule ∷ others) words rows) rules
behind_all rule others all is keeps words rows [] differ none = tt
behind_all rule others all is keeps words rows (other ∷ rules) differ none =
    let both = and_parts (not (bytes_eq rule.id other.id)) _ differ in (
      none_given rule others all is keeps other.id (not-true _ both.0) words rows ∙ none.0,
      behind_all rule others all is keeps words rows rules both.1 none.1,
    )

pub in_order : (final : List Row) (rules : List Rule) (words : List Text) (rows : List Row) → list_all keeps_words rules ≡ true
    → have_own_ids rules ≡ true → HaveNone rows rules → Fit rules words → EndWith final (given rules words rows) rules
    → StandInOrder final rules words
in_order final [] [] rows keeps own none fit ends = refl
in_order final [] (word ∷ words) rows keeps own none fit ends = absurd fit
in_order final (rule ∷ rules) [] rows keeps own none fit ends =
    none_in_order final (rule ∷ rules) (end_none final rows (rule ∷ rules) ends none)
in_order final (rule ∷ rules) (word ∷ words) rows keeps own none fit ends =
    let keep = and_parts (keeps_words rule) _ keeps in
    let ids = and_parts (lack_id rule.id rules) _ own in
    elim (kinds_of rule keep.0) [
      | inl once ↦
          let rest = used rule (word ∷ []) rows in
          let is : given (rule ∷ rules) (word ∷ words) rows ≡ given rules words rest = rw once.0 refl in
          let after = subst (λ (rs : List Row). EndWith final rs (rule ∷ rules)) is ends in
          let fits : Fit rules words = rw once.0 at fit in
          let has : all_of rule.id final ≡ Some (word ∷ []) =
          after.0 ∙ given_other rule.id rules words rest keep.1 ids.0 ∙ used_once rule word rows once.1 none.0 in
          rw once.0 (
            ap (λ o. unwrap_or o []) has,
            in_order final rules words rest keep.1 ids.1 (have_none rule word rows keep.0 rules ids.0 none.1) fits after.1,
          )
      | inr more ↦
          let has : taken_by rule.id final ≡ word ∷ words =
          ap (λ o. unwrap_or o []) ends.0 ∙ all_given rule rules more.0 more.1 (word ∷ words) rows
          ∙ ap (λ o. unwrap_or o [] ++ word ∷ words) none.0 in
          let others : HaveNone final rules =
          end_none final (given (rule ∷ rules) (word ∷ words) rows) rules ends.1
          (behind_all rule rules more.0 more.1 keep.0 (word ∷ words) rows rules ids.0 none.1) in
          rw more.0 (has, none_in_order final rules others)
    ]

-- ---- defaults

-- an argument with the id has no default
abbrev pub Silent : Text → List Rule → Type 0
Silent id rules = AllByRecursion (λ (rule : Rule). bytes_eq rule.id id ≡ true → rule.defaults ≡ []) rules

default_other : (id : Text) (rule : Rule) (rows : List Row) → (bytes_eq rule.id id ≡ true → rule.defaults ≡ [])
    → all_of id (with_default rows rule) ≡ all_of id rows
default_other id rule rows silent =
    elim (cases_Bool (has_row rule.id rows)) [
      | inl has ↦ rw has refl
      | inr lacks ↦ rw lacks (
          elim (cases_Bool (bytes_eq rule.id id)) [
            | inl same ↦ rw (silent same) refl
            | inr differ ↦ by differ rule.defaults
          ]
          )
    ]
  where
    by : bytes_eq rule.id id ≡ false → (values : List Text)
        → all_of id (default_rows rule.id (reading_by rule) values rows) ≡ all_of id rows
    by differ [] = refl
    by differ (value ∷ values) = values_other rule.id _ _ (value ∷ values) id differ rows

defaults_other : (id : Text) (rules : List Rule) (rows : List Row) → Silent id rules
    → all_of id (fold with_default rows rules) ≡ all_of id rows
defaults_other id [] rows silent = refl
defaults_other id (rule ∷ rules) rows silent =
    defaults_other id rules (with_default rows rule) silent.1 ∙ default_other id rule rows silent.0

pub empty_is : {X : Type 0} (xs : List X) → is_empty xs ≡ true → xs ≡ []
empty_is [] e = refl
empty_is (x ∷ xs) e = let wrong = eqb-true (length (x ∷ xs)) 0 e in absurd (omega arith)

module _ (test : Rule → Bool) where
  pub all_filtered : (p : Rule → Bool) (rules : List Rule) → list_all p rules ≡ true → list_all p (filter test rules) ≡ true
  all_filtered p [] e = refl
  all_filtered p (rule ∷ rules) e =
      let both = and_parts (p rule) _ e in
      elim (cases_Bool (test rule)) [
        | inl in_it ↦ rw in_it (and_from (p rule) _ both.0 (all_filtered p rules both.1))
        | inr out ↦ rw out (all_filtered p rules both.1)
      ]

  pub own_filtered : (rules : List Rule) → have_own_ids rules ≡ true → have_own_ids (filter test rules) ≡ true
  own_filtered [] e = refl
  own_filtered (rule ∷ rules) e =
      let both = and_parts (lack_id rule.id rules) _ e in
      elim (cases_Bool (test rule)) [
        | inl in_it ↦
            rw in_it (and_from (lack_id rule.id (filter test rules)) _
            (all_filtered (λ other. not (bytes_eq rule.id other.id)) rules both.0)
            (own_filtered rules both.1))
        | inr out ↦ rw out (own_filtered rules both.1)
      ]

  -- none but the argument itself has its id
  silent_others : (id : Text) (rules : List Rule) → lack_id id rules ≡ true → Silent id rules
  silent_others id [] differ = tt
  silent_others id (other ∷ rules) differ =
      let both = and_parts (not (bytes_eq id other.id)) _ differ in (
        λ same. absurd (both_ways (bytes_eq other.id id) (turned id other.id (not-true _ both.0)) same),
        silent_others id rules both.1,
      )

  silent_more : (rule : Rule) (all kept : List Rule) → lack_id rule.id kept ≡ true
      → AllByRecursion (λ (r : Rule). Silent r.id all) kept → AllByRecursion (λ (r : Rule). Silent r.id (rule ∷ all)) kept
  silent_more rule all [] differ silent = tt
  silent_more rule all (other ∷ kept) differ silent =
      let both = and_parts (not (bytes_eq rule.id other.id)) _ differ in (
        (λ same. absurd (both_ways (bytes_eq rule.id other.id) (not-true _ both.0) same), silent.0),
        silent_more rule all kept both.1 silent.1,
      )

  silent_kept : (rules : List Rule) → have_own_ids rules ≡ true → list_all keeps_words (filter test rules) ≡ true
      → AllByRecursion (λ (r : Rule). Silent r.id rules) (filter test rules)
  silent_kept [] own keeps = tt
  silent_kept (rule ∷ rules) own keeps =
      let both = and_parts (lack_id rule.id rules) _ own in
      let apart = all_filtered (λ other. not (bytes_eq rule.id other.id)) rules both.0 in
      elim (cases_Bool (test rule)) [
        | inl in_it ↦
            let keep = and_parts (keeps_words rule) (list_all keeps_words (filter test rules)) (rw in_it at keeps) in
            let none = empty_is rule.defaults (and_parts (is_set (action_of rule) || takes_all rule) _ keep.0).1 in
            rw in_it (
              (λ same. none, silent_others rule.id rules both.0),
              silent_more rule rules (filter test rules) apart (silent_kept rules both.1 keep.1),
            )
        | inr out ↦ rw out (silent_more rule rules (filter test rules) apart (silent_kept rules both.1 (rw out at keeps)))
      ]

  pub end_with : (rules : List Rule) (rows : List Row) → have_own_ids rules ≡ true → list_all keeps_words (filter test rules) ≡ true
      → EndWith (with_defaults rules rows) rows (filter test rules)
  end_with rules rows own keeps = by (filter test rules) (silent_kept rules own keeps)
    where
      by : (kept : List Rule) → AllByRecursion (λ (r : Rule). Silent r.id rules) kept → EndWith (with_defaults rules rows) rows kept
      by [] silent = tt
      by (rule ∷ kept) silent = (defaults_other rule.id rules rows silent.0, by kept silent.1)
