-- What a thread knows at its desk.
use Rattle.std.proofs.Common.{◌≡◌, ◌<◌, ◌≤◌, ℕ, List, length, refl, sym, ◌∙◌, subst, arith, Some, vec_capacity}
use Rattle.std.specs.Prelude.{slice_get}
use Rattle.std.specs.declared.alloc.Global.{Global}
use Rattle.std.specs.declared.vec.Vec.{Vec}
use Rattle.std.proofs.lemmas.Option.{slice_get_within}
use Rattle.lock_rules.specs.Tag.{Tag}
use Rattle.cohort_queue.specs.States.{CohortState}
use Rattle.cohort_desks.specs.declared.desk.Desk.{Desk}
use Rattle.cohort_desks.specs.Desks.{HasTakenAt}
use Rattle.cohort_desks.specs.Halls.{IsCohortOf}
use Rattle.cohort_desks.proofs.Items.{item_at}
use Rattle.clof_compose.specs.Contexts.{Context}
use Rattle.cohort_runner.specs.Callers.{CallerState}
use Rattle.clof_compose.specs.Meanings.{Rest}
use Rattle.cohort_runner.specs.Rolls.{contexts_of, roll_tag}
use Rattle.cohort_runner.specs.Runs.{HasSat, IsOpen, MaySit, number_of, tag_of}
use Rattle.cohort_runner.specs.declared.run.Run.{Run}

-- a caller that was taken has the tag that all Cohorts have
pub taken_tag : (cohorts : List CohortState) (desk : Desk CallerState) (at x : ℕ) (tag all : Tag) → at < length cohorts
    → HasTakenAt number_of tag_of cohorts desk at x tag
    → ((i : ℕ) (c : CohortState) → slice_get cohorts i ≡ Some c → c.tag ≡ all) → tag ≡ all
taken_tag cohorts desk at x tag all within taken tags =
    let many = taken.many in
    let c = item_at cohorts at within in
    let p = item_at desk.places.items at (omega (arith, within, many)) in
    (taken.here c.0 p.0 c.1 p.1).0.tag_is ∙ tags at c.0 c.1

-- and is out at the desk under its number and its tag, whatever was done with it
pub still_taken : (cohorts : List CohortState) (desk : Desk CallerState) (at : ℕ) (before after : CallerState)
    → HasTakenAt number_of tag_of cohorts desk at before.number before.tag → after.number ≡ before.number → after.tag ≡ before.tag
    → HasTakenAt number_of tag_of cohorts desk at after.number after.tag
still_taken cohorts desk at before after taken number tag =
    subst (λ (t : Tag). HasTakenAt number_of tag_of cohorts desk at after.number t) (sym tag)
    (subst (λ (n : ℕ). HasTakenAt number_of tag_of cohorts desk at n before.tag) (sym number) taken)

module _ (has : Context → Type 0) (level : ℕ) (tag : Tag) (sound : Type 0) (roll : List Context) (cohorts : List CohortState) where
  -- a desk that came back may be sat at again
  pub may_sit_again : (before after : Desk CallerState) → MaySit has level tag sound roll cohorts before → HasSat cohorts before after
      → MaySit has level tag sound roll cohorts after
  may_sit_again before after may sat = record {
    sound_is = may.sound_is;
    lowest = may.lowest;
    roll_is = may.roll_is;
    cohorts_are = may.cohorts_are;
    desk_is = sat.desk_is;
  }

  pub not_sat : (desk : Desk CallerState) → MaySit has level tag sound roll cohorts desk → HasSat cohorts desk desk
  not_sat desk may = record { number_is = refl; desk_is = may.desk_is }

-- one visit after another
pub sat_again : (cohorts : List CohortState) (first before after : Desk CallerState) → HasSat cohorts first before
    → HasSat cohorts before after → HasSat cohorts first after
sat_again cohorts first before after one two = record { number_is = two.number_is ∙ one.number_is; desk_is = two.desk_is }

module _ {P : Type 0} (rest : P → Rest) (has : Context → Type 0) (level count : ℕ) (tag : Tag) (run : Run P)
    (opened : IsOpen rest has level count tag run) where
  -- each thread may sit at its desk in an open run
  pub may_sit : (sound : Type 0) → sound → level ≡ 0 → (i : ℕ) (d : Desk CallerState) → slice_get run.hall.desks.items i ≡ Some d
      → MaySit has level tag sound (contexts_of rest run.roll.told.value.items) run.hall.cohorts.items d
  may_sit sound is low i d at = record {
    sound_is = is;
    lowest = low;
    roll_is = opened.roll_is;
    cohorts_are = λ k c e. (opened.hall_is.cohorts_are k c e).tag_is;
    desk_is = (opened.hall_is.desks_are.each i d at).1;
  }

  -- and it is open still with the desks that come back
  pub still_open : (desks : Vec (Desk CallerState) Global) → length desks.items ≡ length run.hall.desks.items
      → ((i : ℕ) (d e : Desk CallerState) → slice_get run.hall.desks.items i ≡ Some d → slice_get desks.items i ≡ Some e
      → HasSat run.hall.cohorts.items d e)
      → IsOpen rest has level count tag (record run { hall = record run.hall { desks = desks } })
  still_open desks many sat = record {
    roll_is = opened.roll_is;
    all = opened.all;
    hall_is = record {
      own = opened.hall_is.own;
      cohorts_are = λ i c e. subst (λ (n : ℕ). IsCohortOf (roll_tag (contexts_of rest run.roll.told.value.items))
          (length run.hall.slots.items) n c) (sym many) (opened.hall_is.cohorts_are i c e);
      known = opened.hall_is.known;
      desks_are = record {
        all = refl;
        each = λ k e at.
            let within = slice_get_within desks.items k e at in
            let there = item_at run.hall.desks.items k (omega (arith, within, many)) in
            let was = opened.hall_is.desks_are.each k there.0 there.1 in
            let now = sat k there.0 e there.1 at in
            (now.number_is ∙ was.0, now.desk_is);
      };
      lists_many = opened.hall_is.lists_many;
      lists_empty = λ i v e.
          let were = opened.hall_is.lists_empty i v e in
          (were.0, subst (λ (n : ℕ). n ≤ vec_capacity v) (sym many) were.1);
    };
    no_jobs = opened.no_jobs;
    jobs_room = opened.jobs_room;
    lists_are = opened.lists_are;
  }
