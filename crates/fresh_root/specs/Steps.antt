-- The two kinds of step on the word of a counted history, and what each tells the home seat. Splitting and joining seats are the table's
-- own.
use Rattle.std.specs.Prelude.{◌≡◌, ℕ, [], ◌∷◌, ◌++◌, length, All}
use Rattle.atomic_table.specs.Table.{Me, Step}
use Rattle.fresh_root.specs.Prefixes.{IsPrefixOf}
use Rattle.fresh_root.specs.declared.view.View.{View}

abbrev pub Seated : Type 0
Seated = Me (Unit {0}) View

-- one more caller at the end of the history
abbrev pub with_call : View → ℕ → View
with_call v caller = record v { list = v.list ++ caller ∷ [] }

-- the addition to the count by the home seat
abbrev pub appended : ℕ → Step (Unit {0}) → Seated → ℕ → Seated → Type 0
appended caller st me found me' = me' ≡ (with_call me.0 caller, me.1)

-- the load of the count by the home seat. Nothing changes; the number found is the length of the history, and every older list is a
-- beginning of it
pub record Looked (me : Seated) (found : ℕ) (me' : Seated) : Type 0 where
  pub view : me' ≡ me
  pub count : found ≡ length me.0.list
  pub older : All (λ xs. IsPrefixOf xs me.0.list) me.0.older

abbrev pub looked : Step (Unit {0}) → Seated → ℕ → Seated → Type 0
looked st me found me' = Looked me found me'
