-- The jobs that a Cohort is made of, and its first view while they are given.
use Rattle.std.specs.Prelude.{◌≡◌, ◌⊎◌, ℕ, List, [], ◌∷◌, All, map}
use Rattle.lock_rules.specs.Tag.{Tag}
use Rattle.cohort_queue.specs.Views.{tagged_by}
use Rattle.cohort_queue.specs.declared.view.View.{View}

-- the first view, before any other is split off
pub record IsUnsplit (v : View) : Type 0 where
  pub alone : v.numbers ≡ 0 ∷ []
  pub first : v.split ≡ 1
  pub none_out : v.outs ≡ []

-- nothing was given before, or the tag is this one
abbrev pub MayTag : View → Tag → Type 0
MayTag v t = (v.given ≡ []) ⊎ (v.tag ≡ tagged_by t)

module _ {J : Type 0} (tag_of : J → Tag) where
  -- all of them have the same tag
  pub record HaveOneTag (jobs : List J) : Type 0 where
    pub tag : Tag
    pub each : All (λ j. tag_of j ≡ tag) jobs

  -- the first view once these jobs were given
  pub record IsGiven (number : J → ℕ) (jobs : List J) (v : View) : Type 0 where
    pub unsplit : IsUnsplit v
    pub given : v.given ≡ map number jobs
    pub tagged : All (λ j. v.tag ≡ tagged_by (tag_of j)) jobs
