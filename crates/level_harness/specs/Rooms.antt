-- Which locks have room for all calls of a roll.
use Rattle.std.specs.Prelude.{◌≡◌, ℕ, ◌≤◌, true, sum, vec_capacity}
use Rattle.lock_rules.specs.Tag.{Tag, leaf}
use Rattle.clof_compose.specs.Courses.{Course}
use Rattle.level_harness.specs.declared.roll.Roll.{Roll}

abbrev pub roll_tag : Roll → Tag
roll_tag r = leaf (vec_capacity r.callers)

-- the trail keeps its turns in memory, and the roll has room for a call at each turn
pub record HasRoom (course : Course) : Type 0 where
  pub recorded : course.recorded ≡ true
  pub room : ℕ
  pub payload_is : course.payload ≡ leaf room
  pub enough : sum course.quotas ≤ room
