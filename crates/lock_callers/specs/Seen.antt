-- What a contract sees of a caller.
use Rattle.std.specs.Prelude.{◌≡◌, ℕ, zero, suc, List, refl}
use Rattle.std.specs.List.{All}
use Rattle.std.specs.Coded.{Coded, code_by, coded×, coded_ℕ}
use Rattle.lock_rules.specs.Tag.{Tag, tag_code}
use Rattle.lock_rules.specs.declared.step.Answer.{Answer}
use Rattle.lock_rules.specs.declared.step.Answer.TheVariants.{Open, No, Yes}
use Rattle.lock_callers.specs.declared.standing.Standing.{Standing}
use Rattle.lock_callers.specs.declared.standing.Standing.TheVariants.{Idle, Queued, Holding, Leaving, Spent}

-- where it stands, the name of its lock, how many loads its token recorded, and what the last `waiters` of this hold answered
pub record Seen : Type 0 where
  pub standing : Standing
  pub lock : Tag
  pub loads : ℕ
  pub tested : Answer

-- a caller that waits for nothing, with no load and no answer
abbrev pub idle_of : Tag → Seen
idle_of lock = record { standing = Idle; lock = lock; loads = 0; tested = Open }

-- idle callers of one lock
abbrev pub AreOf : Tag → List Seen → Type 0
AreOf lock = All (λ (c : Seen). c ≡ idle_of lock)

abbrev pub number_of : Standing → ℕ
number_of Idle = 0
number_of Queued = 1
number_of Holding = 2
number_of Leaving = 3
number_of Spent = 4

abbrev pub standing_at : ℕ → Standing
standing_at zero = Idle
standing_at (suc zero) = Queued
standing_at (suc (suc zero)) = Holding
standing_at (suc (suc (suc zero))) = Leaving
standing_at (suc (suc (suc (suc n)))) = Spent

pub standing_back : (s : Standing) → standing_at (number_of s) ≡ s
standing_back Idle = refl
standing_back Queued = refl
standing_back Holding = refl
standing_back Leaving = refl
standing_back Spent = refl

abbrev pub answer_number : Answer → ℕ
answer_number Open = 0
answer_number No = 1
answer_number Yes = 2

abbrev pub answer_at : ℕ → Answer
answer_at zero = Open
answer_at (suc zero) = No
answer_at (suc (suc n)) = Yes

pub answer_back : (a : Answer) → answer_at (answer_number a) ≡ a
answer_back Open = refl
answer_back No = refl
answer_back Yes = refl

abbrev pub standing_code : Coded Standing
standing_code = code_by ℕ coded_ℕ number_of standing_at standing_back

abbrev pub answer_code : Coded Answer
answer_code = code_by ℕ coded_ℕ answer_number answer_at answer_back

abbrev pub seen_code : Coded Seen
seen_code = code_by ((Standing × Tag) × (ℕ × Answer)) (coded× (coded× standing_code tag_code) (coded× coded_ℕ answer_code))
    (λ s. ((s.standing, s.lock), (s.loads, s.tested)))
    (λ p. record { standing = p.0.0; lock = p.0.1; loads = p.1.0; tested = p.1.1 }) (λ _. refl)
