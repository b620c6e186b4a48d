-- What comes back of a run.
use Rattle.std.proofs.Common.{◌≡◌, ℕ, zero, suc, false, Bool, List, [], ◌∷◌, length, map, refl, ap, sym, ◌∙◌, subst, Some}
use Rattle.std.specs.Prelude.{All, slice_get}
use Rattle.std.proofs.lemmas.List.{length-map}
use Rattle.std.proofs.lemmas.List.Elements.{All-nil, All-cons}
use Rattle.atomic_table.specs.Seated.{TableId}
use Rattle.lock_rules.specs.Tag.{Tag}
use Rattle.keep_local.specs.States.{ShareState, new_share}
use Rattle.clof_compose.specs.Contexts.{Context}
use Rattle.clof_compose.specs.Courses.{course_of}
use Rattle.clof_compose.specs.Meanings.{Rest}
use Rattle.clof_compose.specs.Passes.{AreAll, IsNumber}
use Rattle.clof_compose.specs.Shares.{IsShareIn}
use Rattle.threaded_runner.specs.Jobs.{IsServed}
use Rattle.threaded_runner.specs.declared.job.Job.{Job}

-- the shares as they are given out have made no turn
pub none_made : (name : TableId) (at : List (ℕ × ℕ)) → All (λ (s : ShareState). s.made ≡ 0) (map (new_share name) at)
none_made name [] = All-nil (λ (s : ShareState). s.made ≡ 0)
none_made name (one ∷ at) =
    All-cons (λ (s : ShareState). s.made ≡ 0) (new_share name one) (map (new_share name) at) refl (none_made name at)

pub none_made_at : (name : TableId) (at : List (ℕ × ℕ)) (k : ℕ) (s : ShareState) → slice_get (map (new_share name) at) k ≡ Some s
    → s.made ≡ 0
none_made_at name [] k s e = absurd (cc)
none_made_at name (one ∷ at) zero s e =
    let same : new_share name one ≡ s = cc in sym (ap (λ (t : ShareState). t.made) same)
none_made_at name (one ∷ at) (suc k) s e = none_made_at name at k s e

-- what stands in a list that was made of another stands for an item of that
pub stands_for : {A B : Type 0} (f : A → B) (xs : List A) (k : ℕ) (b : B) → slice_get (map f xs) k ≡ Some b
    → (a : A) × (slice_get xs k ≡ Some a) × (f a ≡ b)
stands_for f [] k b e = absurd (cc)
stands_for f (x ∷ xs) zero b e = (x, refl, (let same : f x ≡ b = cc in same))
stands_for f (x ∷ xs) (suc k) b e = stands_for f xs k b e

module _ {P : Type 0} (rest : P → Rest) (has : Context → Type 0) (level : ℕ) (tag : Tag) (count : ℕ) (jobs : List (Job P))
    (each : (k : ℕ) (j : Job P) → slice_get jobs k ≡ Some j → IsServed rest has level tag k j) (many : length jobs ≡ count) where
  -- the passes of served jobs are all passes
  pub passes_back : (passes : List P) → passes ≡ map (λ (j : Job P). j.pass) jobs → AreAll (λ p. (rest p).context) has level tag count
      passes
  passes_back passes are = record {
    all = ap length are ∙ length-map jobs (λ (j : Job P). j.pass) ∙ many;
    each = λ k p e.
        let found = stands_for (λ (j : Job P). j.pass) jobs k p (ap (λ (l : List P). slice_get l k) (sym are) ∙ e) in
        subst (λ q. IsNumber has level tag k (rest q).context) found.2 (each k found.0 found.1).pass_is;
  }

  pub shares_many : (shares : List ShareState) → shares ≡ map (λ (j : Job P). j.share) jobs → length shares ≡ count
  shares_many shares are = ap length are ∙ length-map jobs (λ (j : Job P). j.share) ∙ many

  pub stopped_many : (stopped : List Bool) → stopped ≡ map (λ (j : Job P). j.stopped) jobs → length stopped ≡ count
  stopped_many stopped are = ap length are ∙ length-map jobs (λ (j : Job P). j.stopped) ∙ many

  -- the shares are those of the callers
  pub shares_back : (shares : List ShareState) → shares ≡ map (λ (j : Job P). j.share) jobs → (k : ℕ) (s : ShareState)
      → slice_get shares k ≡ Some s → IsShareIn (course_of tag) k s
  shares_back shares are k s e =
      let found = stands_for (λ (j : Job P). j.share) jobs k s (ap (λ (l : List ShareState). slice_get l k) (sym are) ∙ e) in
      subst (IsShareIn (course_of tag) k) found.2 (each k found.0 found.1).share_is

  -- and each that didn't stop has made all its turns
  pub all_made : (stopped : List Bool) (shares : List ShareState) → stopped ≡ map (λ (j : Job P). j.stopped) jobs
      → shares ≡ map (λ (j : Job P). j.share) jobs → (k : ℕ) (s : ShareState) → slice_get stopped k ≡ Some false
      → slice_get shares k ≡ Some s → s.made ≡ s.quota
  all_made stopped shares are those k s going e =
      let one = stands_for (λ (j : Job P). j.stopped) jobs k false (ap (λ (l : List Bool). slice_get l k) (sym are) ∙ going) in
      let other = stands_for (λ (j : Job P). j.share) jobs k s (ap (λ (l : List ShareState). slice_get l k) (sym those) ∙ e) in
      let both : ◌≡◌ {A = Rattle.std.specs.Prelude.Option (Job P)} (Some one.0) (Some other.0) = sym one.1 ∙ other.1 in
      let same : one.0 ≡ other.0 = cc in
      let done = (each k other.0 other.1).made (ap (λ (j : Job P). j.stopped) (sym same) ∙ one.2) in
      subst (λ (t : ShareState). t.made ≡ t.quota) other.2 done
