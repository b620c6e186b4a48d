-- Callers on one roll.
use Rattle.std.proofs.Common.{◌≡◌, ℕ, zero, suc, List, [], ◌∷◌, map, refl, ap, sym, ◌∙◌, subst, Some, true}
use Rattle.std.specs.Prelude.{option_map, slice_get}
use Rattle.std.proofs.lemmas.Option.{slice_get-map}
use Rattle.lock_rules.specs.Tag.{Tag}
use Rattle.clof_compose.specs.Contexts.{Context, own_tag}
use Rattle.clof_compose.specs.Courses.{course_of, left_of, right_of}
use Rattle.clof_compose.specs.Meanings.{Rest}
use Rattle.clof_compose.specs.Passes.{IsNumber}
use Rattle.clof_compose.specs.Shares.{IsShareIn}
use Rattle.clof_compose.proofs.Contexts.{own_tag-tells}
use Rattle.mc_text.specs.Commands.{commands_left}
use Rattle.threaded_runner.specs.Jobs.{HasLeft, IsJob, IsServed}
use Rattle.threaded_runner.specs.declared.job.Job.{Job}
use Rattle.cohort_runner.specs.Callers.{IsCaller}
use Rattle.cohort_runner.specs.Rolls.{IsRoll, contexts_of, roll_tag}

-- a roll is told by its tag
pub roll_tag-tells : (one other : List Context) → roll_tag one ≡ roll_tag other → one ≡ other
roll_tag-tells [] [] e = refl
roll_tag-tells [] (d ∷ ds) e = absurd (cc)
roll_tag-tells (c ∷ cs) [] e = absurd (cc)
roll_tag-tells (c ∷ cs) (d ∷ ds) e =
    let first : own_tag 0 c ≡ own_tag 0 d = ap left_of e in
    let behind : roll_tag cs ≡ roll_tag ds = ap right_of e in
    let same : c ≡ d = (own_tag-tells 0 0 c d first).1 in
    let others : cs ≡ ds = roll_tag-tells cs ds behind in
    cc

-- an item of a list of values of a function
pub value_at : {A B : Type 0} (f : A → B) (xs : List A) (k : ℕ) (b : B) → slice_get (map f xs) k ≡ Some b
    → (a : A) × (slice_get xs k ≡ Some a) × (f a ≡ b)
value_at f [] k b e = absurd (cc)
value_at f (x ∷ xs) zero b e = (x, refl, (let same : f x ≡ b = cc in same))
value_at f (x ∷ xs) (suc k) b e = value_at f xs k b e

module _ {P : Type 0} (rest : P → Rest) (has : Context → Type 0) (level : ℕ) (tag : Tag) where
  -- the number of a job is that of its share
  pub own_number : (k : ℕ) (j : Job P) → IsJob rest has level tag k j → IsJob rest has level tag j.share.caller j
  own_number k j is = subst (λ (n : ℕ). IsJob rest has level tag n j) (sym is.share_is.caller_is) is

  -- a caller with the tag of a lock's roll is one of that lock
  pub job_is : (run roll : List Context) (k : ℕ) (j : Job P) → IsRoll has level tag run → roll_tag roll ≡ roll_tag run
      → IsCaller rest roll j → j.share.caller ≡ k → IsJob rest has level tag k j
  job_is run roll k j all same is mine =
      let at : slice_get run j.share.caller ≡ Some (rest j.pass).context = subst (λ (l : List Context). slice_get l j.share.caller ≡ Some
      (rest j.pass).context) (roll_tag-tells roll run same) is.at in
      let known = all j.share.caller (rest j.pass).context at in
      subst (λ (n : ℕ). IsJob rest has level tag n j) mine (record {
        pass_is = known;
        share_is = subst (λ (t : Tag). IsShareIn (course_of t) j.share.caller j.share) known.tag_is is.share_is;
        left_is = subst (λ (t : Tag). HasLeft (course_of t).payload j.share (commands_left j.commands)) known.tag_is is.left_is;
      })

  pub place_is : (run roll : List Context) (k : ℕ) (j : Job P) → roll_tag roll ≡ roll_tag run → IsCaller rest roll j → j.share.caller ≡ k
      → slice_get run k ≡ Some (rest j.pass).context
  place_is run roll k j same is mine =
      subst (λ (n : ℕ). slice_get run n ≡ Some (rest j.pass).context) mine
      (subst (λ (l : List Context). slice_get l j.share.caller ≡ Some (rest j.pass).context) (roll_tag-tells roll run same) is.at)

  -- and the other way round
  pub caller_is : (run : List Context) (k : ℕ) (j : Job P) → IsJob rest has level tag k j → slice_get run k ≡ Some (rest j.pass).context
      → IsCaller rest run j
  caller_is run k j is at = record {
    at = subst (λ (n : ℕ). slice_get run n ≡ Some (rest j.pass).context) (sym is.share_is.caller_is) at;
    share_is = subst (λ (t : Tag). IsShareIn (course_of t) j.share.caller j.share) (sym is.pass_is.tag_is)
        (subst (λ (n : ℕ). IsShareIn (course_of tag) n j.share) (sym is.share_is.caller_is) is.share_is);
    left_is = subst (λ (t : Tag). HasLeft (course_of t).payload j.share (commands_left j.commands)) (sym is.pass_is.tag_is) is.left_is;
  }

  -- the roll of all jobs of a lock
  pub roll_is : (jobs : List (Job P)) → ((k : ℕ) (j : Job P) → slice_get jobs k ≡ Some j → IsJob rest has level tag k j)
      → IsRoll has level tag (contexts_of rest jobs)
  roll_is jobs each k c e =
      let there = value_at (λ (j : Job P). (rest j.pass).context) jobs k c e in
      subst (λ (d : Context). IsNumber has level tag k d) there.2 (each k there.0 there.1).pass_is

  -- all of them are callers on it
  pub on_roll : (jobs : List (Job P)) → ((k : ℕ) (j : Job P) → slice_get jobs k ≡ Some j → IsJob rest has level tag k j)
      → (k : ℕ) (j : Job P) → slice_get jobs k ≡ Some j → IsCaller rest (contexts_of rest jobs) j × (j.share.caller ≡ k)
  on_roll jobs each k j e =
      let f : Job P → Context = λ j. (rest j.pass).context in
      (caller_is (contexts_of rest jobs) k j (each k j e) (slice_get-map f jobs k ∙ ap (option_map f) e), (each k j e).share_is.caller_is)

  -- a caller that stopped
  pub stopped_served : (k : ℕ) (j : Job P) → IsJob rest has level tag k j → j.stopped ≡ true
      → IsServed rest has level tag k j
  stopped_served k j is stops = record { pass_is = is.pass_is; share_is = is.share_is; made = λ going. absurd (cc) }
