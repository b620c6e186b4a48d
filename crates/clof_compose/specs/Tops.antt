-- What the top lock and its tokens mean.
use Rattle.std.specs.Prelude.{◌≡◌, ℕ, ◌≤◌, List, [], All}
use Rattle.lock_rules.specs.Tag.{Tag}
use Rattle.lock_rules.specs.Meanings.{Place}
use Rattle.lock_rules.specs.Passes.{IsOf}
use Rattle.keep_local.specs.Shapes.{top_of}
use Rattle.clof_compose.specs.Contexts.{Context}
use Rattle.clof_compose.specs.Courses.{course_of}
use Rattle.clof_compose.specs.Reports.{no_report}
use Rattle.clof_compose.specs.declared.top_tokens.TopPass.{TopPass}

-- a context of the top lock has the pass of its number, under the one node 0, and the lock's tag is the root's
abbrev pub top_context : ℕ → Place → Context
top_context level place = record { level = level; node = 0; number = place.number; pass = place; tag = place.tag }

-- the top lock is at the top of the shape that its tag names, and has an empty list with room for its passes
pub record IsTop {L : Type 0} (level count : ℕ) (tag : Tag) (list : List L) (capacity : ℕ) : Type 0 where
  pub level_is : level ≡ top_of (course_of tag).shape
  pub empty : list ≡ []
  pub room : count ≤ capacity

-- the context is one of the top lock whose basic lock has this name and this tag
pub record IsOfTop (level : ℕ) (name tag : Tag) (c : Context) : Type 0 where
  pub pass_is : IsOf name tag c.pass
  pub context_is : c ≡ top_context level c.pass

-- a pass as it is made
abbrev pub fresh_pass : {L : Type 0} → ℕ → L → TopPass L
fresh_pass level low = record { low = low; level = level; report = no_report }

-- passes that have released nothing yet
abbrev pub AreFresh : {L : Type 0} → List (TopPass L) → Type 0
AreFresh passes = All (λ p. p.report.tests ≡ 0) passes
