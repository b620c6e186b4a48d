-- How the words of a lock lie in the one row of its table.
use Rattle.std.specs.Prelude.{◌≡◌, ℕ, ◌+◌, ◌*◌}
use Rattle.atomic_table.specs.Seated.{TableId}
use Rattle.lock_rules.specs.declared.view.Algorithm.{Algorithm}
use Rattle.lock_rules.specs.declared.view.Algorithm.TheVariants.{Ticket, Mcs, Clh, Hemlock}
use Rattle.lock_rules.specs.declared.view.View.{View}

-- Words of one line may be close. Words of two lines stand at least 15 words apart, and a line's first words of two lines 16, which is
-- 128 bytes.
-- The word that counts the waiters of a counted lock, by itself before the first line
abbrev pub waiting : ℕ
waiting = 0

-- The first word of the line k; 16 words stand before the first line
abbrev pub line : ℕ → ℕ
line k = 16 * (k + 1)

-- how many lines a lock with n passes has: `next` and `serving`; `tail` and a line a pass; `tail` and a line a node
abbrev pub lines_of : Algorithm → ℕ → ℕ
lines_of Ticket n = 2
lines_of Mcs n = n + 1
lines_of Clh n = n + 2
lines_of Hemlock n = n + 1

-- the words of a row with all its lines
abbrev pub row_of : Algorithm → ℕ → ℕ
row_of a n = line (lines_of a n)

-- the table has the row of a lock as the view knows it
abbrev pub IsRowOf : View → TableId → Type 0
IsRowOf v z = z.words ≡ row_of v.algorithm v.count
