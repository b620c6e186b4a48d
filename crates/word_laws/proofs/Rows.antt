-- What a use of an argument with one word does to the words that each argument has.
use Rattle.std.proofs.Common.{◌≡◌, ℕ, ◌⊎◌, Bool, true, false, List, [], ◌∷◌, ◌++◌, Some, None, refl, ap, ◌∙◌, inl, inr}
use Rattle.std.specs.Prelude.{◌+◌, ◌||◌, min, unwrap_or}
use Rattle.std.specs.Str.{bytes_eq}
use Rattle.std.proofs.lemmas.Bool.{and_parts}
use Rattle.std.proofs.lemmas.Slice.Eq.{bytes_eq-Decides}
use Rattle.clap.specs.Walk.{Row, Rule, Text, action_of, all_of, at_row, is_append, reading_by, used, used_as, values_or_missing}
use Rattle.clap.specs.Matches.{count_text}
use Rattle.clap.specs.Walk.{count_of, more_values, new_count, with_count, with_values, without}
use Rattle.clap.specs.declared.builder.action.ArgAction.{ArgAction}
use Rattle.clap.specs.declared.builder.action.ArgAction.TheVariants as action
use Rattle.clap.specs.declared.builder.value_parser.Reading.{Reading}
use Rattle.clap.specs.declared.parser.matches.ValueSource.{ValueSource}
use Rattle.clap.specs.declared.parser.matches.ValueSource.TheVariants.{CommandLine}
use Rattle.command_words.specs.Commands.{taken_by}
use Rattle.word_laws.specs.Positionals.{is_set, takes_all, keeps_words}

pub same_text : (text : Text) → bytes_eq text text ≡ true
same_text text = (bytes_eq-Decides text text).1 refl

-- two texts that one text is told from and the same as
apart : (id own other : Text) → bytes_eq id own ≡ true → bytes_eq own other ≡ false → bytes_eq id other ≡ false
apart id own other same differ = ap (λ text. bytes_eq text other) ((bytes_eq-Decides id own).0 same) ∙ differ

module _ (id : Text) (how : Reading) (source : ValueSource) (values : List Text) where
  -- the argument has the words behind those that it had
  values_more : (rows : List Row) → all_of id (with_values id how source values rows) ≡ Some (unwrap_or (all_of id rows) [] ++ values)
  values_more [] = rw (same_text id) refl
  values_more (row ∷ rows) = go (bytes_eq row.id id) refl (values_more rows)
    where
      go : (b : Bool) → bytes_eq row.id id ≡ b
          → all_of id (with_values id how source values rows) ≡ Some (unwrap_or (all_of id rows) [] ++ values)
          → all_of id (with_values id how source values (row ∷ rows)) ≡ Some (unwrap_or (all_of id (row ∷ rows)) [] ++ values)
      go true is rest = simp is refl
      go false is rest = simp is rest

-- a change of an argument's row leaves what another has
at_row_other : (id other : Text) → bytes_eq id other ≡ false → (change : Row → List Row) (missing : List Row)
    → ((row : Row) (rows : List Row) → bytes_eq row.id other ≡ false → all_of other (change row ++ rows) ≡ all_of other rows)
    → all_of other missing ≡ None → (rows : List Row) → all_of other (at_row id change missing rows) ≡ all_of other rows
at_row_other id other differ change missing keeps none [] = none
at_row_other id other differ change missing keeps none (row ∷ rows) =
    go (bytes_eq row.id id) refl (bytes_eq row.id other) refl (at_row_other id other differ change missing keeps none rows)
  where
    go : (b : Bool) → bytes_eq row.id id ≡ b → (d : Bool) → bytes_eq row.id other ≡ d
        → all_of other (at_row id change missing rows) ≡ all_of other rows
        → all_of other (at_row id change missing (row ∷ rows)) ≡ all_of other (row ∷ rows)
    go true is d at rest =
        let not_it = apart row.id id other is differ in rw (is, not_it) (keeps row rows not_it)
    go false is true at rest = simp (is, at) refl
    go false is false at rest = simp (is, at) rest

pub values_other : (id : Text) (how : Reading) (source : ValueSource) (values : List Text) (other : Text) → bytes_eq id other ≡ false
    → (rows : List Row) → all_of other (with_values id how source values rows) ≡ all_of other rows
values_other id how source values other differ rows =
    at_row_other id other differ (more_values source values)
    (record { id = id; values = values; count = None; source = Some source; reading = how } ∷ []) (λ row others not_it. rw not_it refl)
    (rw differ refl) rows

count_other : (id : Text) (how : Reading) (source : ValueSource) (count : ℕ) (other : Text) → bytes_eq id other ≡ false
    → (rows : List Row) → all_of other (with_count id how source count rows) ≡ all_of other rows
count_other id how source count other differ rows =
    at_row_other id other differ (new_count source count)
    (record { id = id; values = count_text count ∷ []; count = Some count; source = Some source; reading = how } ∷ [])
    (λ row others not_it. rw not_it refl) (rw differ refl) rows

without_none : (id : Text) (rows : List Row) → all_of id rows ≡ None → without id rows ≡ rows
without_none id [] none = refl
without_none id (row ∷ rows) none = go (bytes_eq row.id id) refl (without_none id rows)
  where
    go : (b : Bool) → bytes_eq row.id id ≡ b → (all_of id rows ≡ None → without id rows ≡ rows) → without id (row ∷ rows) ≡ row ∷ rows
    go true is rest = let wrong = simp is at none in absurd cc
    go false is rest = simp is (ap (λ others. row ∷ others) (rest (simp is at none)))

without_other : (id other : Text) → bytes_eq id other ≡ false → (rows : List Row) → all_of other (without id rows) ≡ all_of other rows
without_other id other differ rows = at_row_other id other differ (λ row. []) [] (λ row others not_it. refl) refl rows

-- ---- uses

-- the argument sets its word, or appends it
pub kinds_of : (rule : Rule) → keeps_words rule ≡ true
    → ((takes_all rule ≡ false) × (action_of rule ≡ action.Set)) ⊎ ((takes_all rule ≡ true) × (action_of rule ≡ action.Append))
kinds_of rule keeps = by (action_of rule) refl (and_parts (is_set (action_of rule) || takes_all rule) _ keeps).0
  where
    by : (a : ArgAction) → action_of rule ≡ a → (is_set a || is_append a) ≡ true
        → ((takes_all rule ≡ false) × (action_of rule ≡ action.Set)) ⊎ ((takes_all rule ≡ true) × (action_of rule ≡ action.Append))
    by action.Set is e = inl (ap is_append is, is)
    by action.Append is e = inr (ap is_append is, is)
    by action.SetTrue is e = absurd cc
    by action.SetFalse is e = absurd cc
    by action.Count is e = absurd cc
    by action.Help is e = absurd cc
    by action.HelpShort is e = absurd cc
    by action.HelpLong is e = absurd cc
    by action.Version is e = absurd cc

-- an argument that takes one word has it
pub used_once : (rule : Rule) (word : Text) (rows : List Row) → action_of rule ≡ action.Set → all_of rule.id rows ≡ None
    → all_of rule.id (used rule (word ∷ []) rows) ≡ Some (word ∷ [])
used_once rule word rows is none =
    rw (is, without_none rule.id rows none) (values_more rule.id _ _ (word ∷ []) rows ∙ ap (λ o. Some (unwrap_or o [] ++ word ∷ [])) none)

-- one that takes any number has the word behind the others
pub used_behind : (rule : Rule) (word : Text) (rows : List Row) → action_of rule ≡ action.Append
    → all_of rule.id (used rule (word ∷ []) rows) ≡ Some (unwrap_or (all_of rule.id rows) [] ++ word ∷ [])
used_behind rule word rows is = rw is (values_more rule.id _ _ (word ∷ []) rows)

pub used_more : (rule : Rule) (word : Text) (rows : List Row) → action_of rule ≡ action.Append
    → taken_by rule.id (used rule (word ∷ []) rows) ≡ taken_by rule.id rows ++ word ∷ []
used_more rule word rows is = ap (λ o. unwrap_or o []) (used_behind rule word rows is)

-- and no other argument has another word than before
pub used_other : (rule : Rule) (values : List Text) (other : Text) (rows : List Row) → bytes_eq rule.id other ≡ false
    → all_of other (used rule values rows) ≡ all_of other rows
used_other rule values other rows differ = by (action_of rule) (values_or_missing rule values)
  where
    anew : (given : List Text)
        → all_of other (with_values rule.id (reading_by rule) CommandLine given (without rule.id rows)) ≡ all_of other rows
    anew given =
        values_other rule.id (reading_by rule) CommandLine given other differ (without rule.id rows)
        ∙ without_other rule.id other differ rows

    by : (a : ArgAction) (given : List Text) → all_of other (used_as a rule.id (reading_by rule) given rows) ≡ all_of other rows
    by action.Set given = anew given
    by action.SetTrue given = anew given
    by action.SetFalse given = anew given
    by action.Append given = values_other rule.id (reading_by rule) CommandLine given other differ rows
    by action.Count [] =
        count_other rule.id (reading_by rule) CommandLine (min (count_of rule.id rows + 1) 255) other differ (without rule.id rows)
        ∙ without_other rule.id other differ rows
    by action.Count (value ∷ given) = anew (value ∷ given)
    by action.Help given = refl
    by action.HelpShort given = refl
    by action.HelpLong given = refl
    by action.Version given = refl
