-- What a contract sees of a caller.
use Rattle.std.specs.Prelude.{◌≡◌, ℕ, List, Some, refl, slice_get, slice_index}
use Rattle.std.specs.Coded.{Coded, code_by, coded×, coded_ℕ}
use Rattle.lock_rules.specs.Tag.{Tag, tag_code}
use Rattle.clof_compose.specs.Courses.{course_of}
use Rattle.lock_callers.specs.Seen.{standing_code}
use Rattle.lock_callers.specs.declared.standing.Standing.{Standing}
use Rattle.lock_callers.specs.declared.standing.Standing.TheVariants.{Idle}

-- Where it stands, the tag of its lock's root, which names the root's trail, its number among the lock's callers, how many turns it has
-- made and may make, and what its token tells: the level at which it is queued or leaves, 0 for any other, and how many loads it recorded
-- there
pub record Seen : Type 0 where
  pub standing : Standing
  pub lock : Tag
  pub caller : ℕ
  pub made : ℕ
  pub allowed : ℕ
  pub level : ℕ
  pub loads : ℕ

-- a caller that has made no turn and waits for nothing
abbrev pub idle_of : Tag → ℕ → ℕ → Seen
idle_of lock allowed caller = record {
  standing = Idle;
  lock = lock;
  caller = caller;
  made = 0;
  allowed = allowed;
  level = 0;
  loads = 0;
}

-- the callers of a lock in order, each with its quota, as they are made
abbrev pub IsFresh : Tag → ℕ → Seen → Type 0
IsFresh lock number c = c ≡ idle_of lock (slice_index (course_of lock).quotas number) number

abbrev pub AreFresh : Tag → List Seen → Type 0
AreFresh lock callers = (number : ℕ) (c : Seen) → slice_get callers number ≡ Some c → IsFresh lock number c

abbrev pub seen_code : Coded Seen
seen_code = code_by ((Standing × Tag) × ((ℕ × ℕ) × (ℕ × (ℕ × ℕ))))
    (coded× (coded× standing_code tag_code) (coded× (coded× coded_ℕ coded_ℕ) (coded× coded_ℕ (coded× coded_ℕ coded_ℕ))))
    (λ s. ((s.standing, s.lock), ((s.caller, s.made), (s.allowed, (s.level, s.loads)))))
    (λ p. record {
      standing = p.0.0;
      lock = p.0.1;
      caller = p.1.0.0;
      made = p.1.0.1;
      allowed = p.1.1.0;
      level = p.1.1.1.0;
      loads = p.1.1.1.1;
    }) (λ _. refl)
