-- A pass and a share as they are given out.
use Rattle.std.proofs.Common.{◌≡◌, ℕ, zero, suc, List, [], ◌∷◌, map, ap, sym, ◌∙◌, subst, Some}
use Rattle.std.specs.Prelude.{slice_get}
use Rattle.atomic_table.specs.Seated.{TableId}
use Rattle.lock_rules.specs.Tag.{Tag}
use Rattle.keep_local.specs.States.{ShareState, new_share}
use Rattle.clof_compose.specs.Contexts.{Context}
use Rattle.clof_compose.specs.Courses.{course_of}
use Rattle.clof_compose.specs.Passes.{IsNumber}
use Rattle.clof_compose.specs.Shares.{IsShareIn}
use Rattle.level_callers.specs.Seen.{IsFresh, Seen, idle_of}
use Rattle.level_callers.specs.Sound.{IsOwn}

-- a share has made no turn
pub unused : (name : TableId) (given : List (ℕ × ℕ)) (k : ℕ) (s : ShareState) → slice_get (map (new_share name) given) k ≡ Some s
    → s.made ≡ 0
unused name [] k s e = absurd (cc)
unused name (one ∷ more) zero s e = let is : new_share name one ≡ s = cc in ap (λ (t : ShareState). t.made) (sym is)
unused name (one ∷ more) (suc k) s e = unused name more k s e

module _ (has : Context → Type 0) (level : ℕ) (tag : Tag) (k : ℕ) (c : Context) (s : ShareState) (pass : IsNumber has level tag k c)
    (share : IsShareIn (course_of tag) k s) where
  -- a pass and a share of one number are one caller's
  pub one_caller : IsOwn has s c
  one_caller = record { own = pass.own; number = pass.number_is ∙ sym share.caller_is }

-- a caller that is made of them is the one with their number
pub is_fresh : (tag same : Tag) (k : ℕ) (s : ShareState) (made : Seen) → tag ≡ same → IsShareIn (course_of tag) k s
    → made ≡ idle_of same s.quota s.caller → IsFresh tag k made
is_fresh tag same k s made e share is = is ∙ (λ i. idle_of (sym e i) (share.quota i) (share.caller_is i))
