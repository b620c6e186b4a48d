-- What comes back of a run.
use Rattle.std.proofs.Common.{◌≡◌, ℕ, List, [], ◌∷◌, length, map, refl, ap, sym, ◌∙◌, subst, Option, Some}
use Rattle.std.specs.Prelude.{slice_get}
use Rattle.std.proofs.lemmas.List.{length-map}
use Rattle.lock_rules.specs.Tag.{Tag}
use Rattle.clof_compose.specs.Contexts.{Context}
use Rattle.clof_compose.specs.Courses.{course_of}
use Rattle.clof_compose.specs.Meanings.{Rest}
use Rattle.fresh_root.specs.States.{AreAll, IsOf, SeenState}
use Rattle.keep_local.specs.States.{ShareState}
use Rattle.threaded_runner.specs.Jobs.{IsServed}
use Rattle.threaded_runner.specs.declared.job.Job.{Job}
use Rattle.threaded_runner.proofs.Crews.{stands_for}
use Rattle.fresh_runner.specs.Books.{fresh_in}
use Rattle.fresh_runner.specs.Jobs.{IsFreshServed}
use Rattle.fresh_runner.specs.Places.{places_of}
use Rattle.fresh_runner.specs.declared.account.Marks.{Marks}
use Rattle.fresh_runner.specs.declared.job.FreshJob.{FreshJob}

-- a job without its token and its marks
abbrev pub job_in : {P : Type 0} → FreshJob P → Job P
job_in j = record { pass = j.pass; share = j.account.share; commands = j.commands; stopped = j.stopped }

pub in_jobs : {P A : Type 0} (f : Job P → A) (jobs : List (FreshJob P)) → map (λ (j : FreshJob P). f (job_in j)) jobs
    ≡ map f (map job_in jobs)
in_jobs f [] = refl
in_jobs f (j ∷ jobs) = ap (λ rest. f (job_in j) ∷ rest) (in_jobs f jobs)

some_same : {A : Type 0} (x y : A) → ◌≡◌ {A = Option A} (Some x) (Some y) → x ≡ y
some_same x y e = cc

module _ {P : Type 0} (rest : P → Rest) (has : Context → Type 0) (level : ℕ) (tag : Tag) (count : ℕ) (jobs : List (FreshJob P))
    (each : (k : ℕ) (j : FreshJob P) → slice_get jobs k ≡ Some j → IsFreshServed rest has level tag k j) (many : length jobs ≡ count) where
  -- without tokens and marks they are jobs that were served
  pub served_in : (k : ℕ) (j : Job P) → slice_get (map job_in jobs) k ≡ Some j → IsServed rest has level tag k j
  served_in k j e =
      let found = stands_for job_in jobs k j e in
      let is = each k found.0 found.1 in
      let one : IsServed rest has level tag k (job_in found.0) =
      record { pass_is = is.pass_is; share_is = is.account_is.share_is; made = is.made } in
      subst (λ (i : Job P). IsServed rest has level tag k i) found.2 one

  pub many_in : length (map job_in jobs) ≡ count
  many_in = length-map jobs job_in ∙ many

  -- the tokens are all of them
  pub seens_back : (seens : List SeenState) → seens ≡ map (λ (j : FreshJob P). j.account.seen) jobs
      → AreAll (fresh_in (course_of tag).payload) count seens
  seens_back seens are = record {
    all = ap length are ∙ length-map jobs (λ (j : FreshJob P). j.account.seen) ∙ many;
    each = λ k s e.
        let found = stands_for (λ (j : FreshJob P). j.account.seen) jobs k s (ap (λ (l : List SeenState). slice_get l k) (sym are) ∙ e) in
        subst (λ (t : SeenState). IsOf (fresh_in (course_of tag).payload) k t) found.2 (each k found.0 found.1).account_is.seen_is;
  }

  pub marks_many : (marks : List Marks) → marks ≡ map (λ (j : FreshJob P). j.account.marks) jobs → length marks ≡ count
  marks_many marks are = ap length are ∙ length-map jobs (λ (j : FreshJob P). j.account.marks) ∙ many

  module _ (marks : List Marks) (are : marks ≡ map (λ (j : FreshJob P). j.account.marks) jobs) where
    -- the marks are the places of their callers in what the tokens last saw
    pub marked_back : (seens : List SeenState) → seens ≡ map (λ (j : FreshJob P). j.account.seen) jobs → (k : ℕ) (s : SeenState) (m : Marks)
        → slice_get seens k ≡ Some s → slice_get marks k ≡ Some m → m.turns.items ≡ places_of k s.list
    marked_back seens those k s m here there =
        let one = stands_for (λ (j : FreshJob P). j.account.seen) jobs k s (ap (λ (l : List SeenState). slice_get l k) (sym those)
        ∙ here) in
        let other = stands_for (λ (j : FreshJob P). j.account.marks) jobs k m (ap (λ (l : List Marks). slice_get l k) (sym are) ∙ there) in
        let same = some_same other.0 one.0 (sym other.1 ∙ one.1) in
        ap (λ (n : Marks). n.turns.items) (sym other.2) ∙ (each k other.0 other.1).account_is.marks_are
        ∙ ap (λ (t : SeenState). places_of k t.list) (ap (λ (j : FreshJob P). j.account.seen) same ∙ one.2)

    -- as many as the turns that they made
    pub as_many_back : (shares : List ShareState) → shares ≡ map (λ (j : FreshJob P). j.account.share) jobs → (k : ℕ) (s : ShareState)
        (m : Marks) → slice_get shares k ≡ Some s → slice_get marks k ≡ Some m → length m.turns.items ≡ s.made
    as_many_back shares those k s m here there =
        let one = stands_for (λ (j : FreshJob P). j.account.share) jobs k s (ap (λ (l : List ShareState). slice_get l k) (sym those)
        ∙ here) in
        let other = stands_for (λ (j : FreshJob P). j.account.marks) jobs k m (ap (λ (l : List Marks). slice_get l k) (sym are) ∙ there) in
        let same = some_same other.0 one.0 (sym other.1 ∙ one.1) in
        ap (λ (n : Marks). length n.turns.items) (sym other.2) ∙ (each k other.0 other.1).account_is.as_many
        ∙ ap (λ (t : ShareState). t.made) (ap (λ (j : FreshJob P). j.account.share) same ∙ one.2)
