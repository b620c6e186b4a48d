-- The kinds of step on the word of a trail's table, and what each tells the home seat. Splitting and joining seats are the table's own.
use Rattle.std.specs.Prelude.{◌≡◌, ℕ, ◌+◌, ◌≤◌, length, sum, All}
use Rattle.atomic_table.specs.Table.{Me, Step}
use Rattle.keep_local.specs.Tie.{IsTallyOf}
use Rattle.keep_local.specs.Views.{with_turns}
use Rattle.keep_local.specs.declared.view.View.{View}

abbrev pub Seated : Type 0
Seated = Me (Unit {0}) View

-- what the home seat learns at a step that found this number: it is how many turns there are, and its tallies are right
pub record IsTold (v : View) (found : ℕ) : Type 0 where
  pub count : found ≡ length v.callers
  pub tallies : All (IsTallyOf v.quotas v.callers) v.tallies

-- the addition of a number: so many more turns, of the first tally's caller, and there was room for them
pub record Appended (n : ℕ) (me : Seated) (found : ℕ) (me' : Seated) : Type 0 where
  pub view : me' ≡ (with_turns n me.0, me.1)
  pub told : IsTold me.0 found
  pub room : length me.0.callers + n ≤ sum me.0.quotas

abbrev pub appended : Step (Unit {0}) → Seated → ℕ → Seated → Type 0
appended st me found me' = Appended st.first me found me'

-- the load: nothing changes
pub record Looked (me : Seated) (found : ℕ) (me' : Seated) : Type 0 where
  pub view : me' ≡ me
  pub told : IsTold me.0 found

abbrev pub looked : Step (Unit {0}) → Seated → ℕ → Seated → Type 0
looked st me found me' = Looked me found me'
