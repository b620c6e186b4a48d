-- What a level's token that went up to the high lock tells.
use Rattle.std.proofs.Common.{◌≡◌, ℕ, ◌<◌, ◌≤◌, inl, ⊎_elim, ap, ◌∙◌, arith}
use Rattle.lock_rules.specs.Steps.{IfNot}
use Rattle.lock_rules.specs.Tag.{Tag}
use Rattle.lock_rules.specs.declared.step.Step.{Step}
use Rattle.lock_rules.specs.declared.step.Step.TheVariants.{Not, Got}
use Rattle.clof_compose.specs.Calls.{HasClimbed, HasEntered}
use Rattle.clof_compose.specs.Contexts.{own_tag}
use Rattle.clof_compose.specs.Levels.{IsClimbing}
use Rattle.clof_compose.specs.Meanings.{Climb, Rest}

module _ {N G : Type 0} (climb : N → Climb) (level own : ℕ) (same : own ≡ level) where
  pub above_level : (s : Step N G) → IfNot s (λ q. own < (climb q).level) → IfNot s (λ q. level ≤ (climb q).level)
  above_level (Not q) above = omega (arith, same, above)
  above_level (Got h) above = tt

  pub entered_above : (rest : Rest) (s : Step N G) → IfNot s (λ q. own < (climb q).level) → IfNot s (λ q. 0 < (climb q).entries)
      → IfNot s (λ q. HasEntered level rest (climb q))
  entered_above rest (Not q) above some = record { lowest = λ here. absurd (omega (arith, same, above, here)); entered = some }
  entered_above rest (Got h) above some = tt

  pub climbed_above : (old : Climb) → old.level ≡ level → (s : Step N G) → IfNot s (λ q. own < (climb q).level)
      → IfNot s (λ q. 0 < (climb q).entries) → IfNot s (λ q. HasClimbed old (climb q))
  climbed_above old at (Not q) above some = inl (omega (arith, same, at, above), some)
  climbed_above old at (Got h) above some = tt

-- a value that is away while its high lock is taken still is so when the high lock's token waits on
pub climbing_on : (level node : ℕ) (t : Tag) (climbs climbs' : Type 0) (old new : Climb) → IsClimbing level node t climbs old
    → new.context ≡ old.context → HasClimbed old new → climbs' → IsClimbing level node t climbs' new
climbing_on level node t climbs climbs' old new was same on still = record {
  climbs_is = still;
  above = let above = was.above in ⊎_elim (λ higher. let h = higher.0 in omega (arith, above, h))
      (λ here. let h = here.0 in omega (arith, above, h)) on;
  tag_same = ap (own_tag node) same ∙ was.tag_same;
}
