-- What a caller has to do, and what it keeps of its turns.
use Rattle.std.specs.Prelude.{◌≡◌, ◌≤◌, ℕ, false, true, [], length, vec_capacity}
use Rattle.lock_rules.specs.Tag.{Tag}
use Rattle.clof_compose.specs.Contexts.{Context}
use Rattle.clof_compose.specs.Courses.{Course, course_of}
use Rattle.clof_compose.specs.Meanings.{Rest}
use Rattle.clof_compose.specs.Passes.{IsNumber}
use Rattle.clof_compose.specs.Shares.{IsShareIn}
use Rattle.fresh_root.specs.States.{IsOf}
use Rattle.mc_text.specs.Commands.{commands_left}
use Rattle.threaded_runner.specs.Jobs.{HasLeft}
use Rattle.fresh_runner.specs.Books.{book_in, fresh_in}
use Rattle.fresh_runner.specs.Places.{places_of}
use Rattle.fresh_runner.specs.declared.account.Account.{Account}
use Rattle.fresh_runner.specs.declared.account.Marks.{Marks}
use Rattle.fresh_runner.specs.declared.job.FreshJob.{FreshJob}

-- The caller's share of the trail, which keeps its turns in memory, and its token of the Fresh at the root. Its marks are the places at
-- which it stands in what its token last saw, one for each turn that it has made, and there is room for all its turns
pub record IsAccount (course : Course) (caller : ℕ) (a : Account) : Type 0 where
  pub recorded : course.recorded ≡ true
  pub share_is : IsShareIn course caller a.share
  pub seen_is : IsOf (fresh_in course.payload) caller a.seen
  pub marks_are : a.marks.turns.items ≡ places_of caller a.seen.list
  pub as_many : length a.marks.turns.items ≡ a.share.made
  pub room : a.share.quota ≤ vec_capacity a.marks.turns

-- no marks yet, and room for so many
pub record IsBlank (quota : ℕ) (m : Marks) : Type 0 where
  pub none : m.turns.items ≡ []
  pub room : quota ≤ vec_capacity m.turns

module _ {P : Type 0} (rest : P → Rest) (has : Context → Type 0) (level : ℕ) (tag : Tag) where
  -- the job is that of the caller with this number: its pass, its account, and what is left of its section
  pub record IsFreshJob (number : ℕ) (j : FreshJob P) : Type 0 where
    pub pass_is : IsNumber has level tag number (rest j.pass).context
    pub account_is : IsAccount (course_of tag) number j.account
    pub left_is : HasLeft (book_in (course_of tag).payload) j.account.share (commands_left j.commands)

  -- the caller's pass and account are back, and it has given all its commands unless it stopped
  pub record IsFreshServed (number : ℕ) (j : FreshJob P) : Type 0 where
    pub pass_is : IsNumber has level tag number (rest j.pass).context
    pub account_is : IsAccount (course_of tag) number j.account
    pub made : j.stopped ≡ false → j.account.share.made ≡ j.account.share.quota

-- what a worker asks of a job: the lock is sound and of the lowest level, and the job is one of its callers'
pub record MayServeFresh {P : Type 0} (rest : P → Rest) (has : Context → Type 0) (level : ℕ) (tag : Tag) (sound : Type 0) (j : FreshJob P) :
    Type 0 where
  pub sound_is : sound
  pub lowest : level ≡ 0
  pub job : IsFreshJob rest has level tag j.account.share.caller j
