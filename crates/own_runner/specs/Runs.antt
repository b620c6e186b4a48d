-- What the callers of a run bring to its lock, what they are before and behind their threads, and what is left.
use Rattle.std.specs.Prelude.{◌≡◌, ℕ, List, Some, length, slice_get}
use Rattle.std.specs.declared.alloc.Global.{Global}
use Rattle.std.specs.declared.vec.Vec.{Vec}
use Rattle.lock_rules.specs.Tag.{Tag, leaf}
use Rattle.keep_local.specs.Shapes.{callers_of}
use Rattle.keep_local.specs.States.{ShareState, new_shares}
use Rattle.clof_compose.specs.Contexts.{Context}
use Rattle.clof_compose.specs.Courses.{Course, course_of}
use Rattle.clof_compose.specs.Meanings.{Rest}
use Rattle.clof_compose.specs.Roots.{IsFit, root_tag, trail_of}
use Rattle.clof_compose.specs.declared.root.Root.{Root}
use Rattle.own_payload.specs.Jobs.{AreEmpty, EachEnded, IsEnded, IsJob}
use Rattle.own_payload.specs.declared.jobs.Job.{Job}
use Rattle.own_payload.specs.declared.jobs.Lists.{Lists}
use Rattle.own_payload.specs.declared.noted.Noted.{Noted}

-- a trail has a quota for each caller, and these are all its shares
pub record AreDealt (course : Course) (shares : List ShareState) : Type 0 where
  pub quotas : length course.quotas ≡ callers_of course.shape
  pub dealt : shares ≡ new_shares course.name course.quotas

-- this is what callers bring whose shares are all of the trail's
abbrev pub AreBrought : Course → Vec ShareState Global → Type 0
AreBrought course shares = AreDealt course shares.items

module _ {P : Type 0} (rest : P → Rest) where
  -- each caller, of whom each has a quota, has its job, and the lists are empty and have room for what comes back
  pub record AreOpen (has : Context → Type 0) (level count : ℕ) (tag : Tag) (jobs : List (Job P)) (lists : Lists P) : Type 0 where
    pub quotas : count ≡ length (course_of tag).quotas
    pub many : length jobs ≡ count
    pub each : (k : ℕ) (j : Job P) → slice_get jobs k ≡ Some j → IsJob rest has level tag k j
    pub emptied : AreEmpty count lists

  -- and each has made all its turns, unless it may stop
  pub record HaveEnded (stops : ℕ → Type 0) (has : Context → Type 0) (level count : ℕ) (tag : Tag) (jobs : List (Job P)) (lists : Lists P)
      : Type 0 where
    pub quotas : count ≡ length (course_of tag).quotas
    pub many : length jobs ≡ count
    pub each : (k : ℕ) (j : Job P) → slice_get jobs k ≡ Some j → IsEnded rest stops has level tag k j
    pub emptied : AreEmpty count lists

-- a run leaves a fit root with the tag of its lock, at which each caller has made all its turns, but for those that may stop
pub record IsLeft {T : Type 0} (stops : ℕ → Type 0) (tag : Tag) (root : Root (Noted T)) : Type 0 where
  pub fit : IsFit (λ n. n.calls.callers) root
  pub tagged : root_tag (λ _. leaf 0) root ≡ tag
  pub ended : EachEnded stops (trail_of root)
