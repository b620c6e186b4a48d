-- What a thread has made of its job.
use Rattle.std.proofs.Common.{◌≡◌, ℕ, List, length, get_or, ap, sym, ◌∙◌, subst, arith, Some}
use Rattle.std.specs.Prelude.{slice_get}
use Rattle.std.proofs.lemmas.Option.{slice_get_within, slice_get-get_or}
use Rattle.lock_rules.specs.Tag.{Tag}
use Rattle.keep_local.specs.States.{ShareState}
use Rattle.clof_compose.specs.Contexts.{Context}
use Rattle.clof_compose.specs.Courses.{course_of}
use Rattle.clof_compose.specs.Meanings.{Rest}
use Rattle.clof_compose.specs.Passes.{IsNumber}
use Rattle.level_harness.specs.Jobs.{IsEnded, IsJob}
use Rattle.level_harness.specs.Rooms.{HasRoom}
use Rattle.level_harness.specs.declared.holds.Job.{Job}
use Rattle.tree_harness.specs.Shifts.{HasWorked, MayWork}

module _ {P : Type 0} (rest : P → Rest) (has : Context → Type 0) (level : ℕ) (tag : Tag) where
  -- the job of a caller is one that a thread may be given
  pub may_work : (sound : Type 0) → sound → level ≡ 0 → HasRoom (course_of tag) → (k : ℕ) (j : Job P) → IsJob rest has level tag k j
      → MayWork rest has level tag sound j
  may_work sound s lowest room k j is = record {
    sound_is = s;
    lowest = lowest;
    room = room;
    job = subst (λ (n : ℕ). IsJob rest has level tag n j) (sym is.share_is.caller_is) is;
  }

  ended : (k : ℕ) (j j' : Job P) → IsJob rest has level tag k j → HasWorked rest j j' → IsEnded rest has level tag k j'
  ended k j j' is worked =
      let share = worked.share in record {
        job_is = record {
          pass_is = subst (IsNumber has level tag k) (sym worked.pass) is.pass_is;
          share_is = record {
            own = ap (λ (s : ShareState). s.name) share ∙ is.share_is.own;
            caller_is = ap (λ (s : ShareState). s.caller) share ∙ is.share_is.caller_is;
            known = is.share_is.known;
            quota = ap (λ (s : ShareState). s.quota) share ∙ is.share_is.quota;
          };
        };
        made = ap (λ (s : ShareState). s.made) share ∙ sym (ap (λ (s : ShareState). s.quota) share);
      }

  -- each job that comes back is that of its caller, with all turns made
  pub all_ended : (jobs done : List (Job P)) → length done ≡ length jobs
      → ((k : ℕ) (j : Job P) → slice_get jobs k ≡ Some j → IsJob rest has level tag k j)
      → ((k : ℕ) (j j' : Job P) → slice_get jobs k ≡ Some j → slice_get done k ≡ Some j' → HasWorked rest j j')
      → (k : ℕ) (j' : Job P) → slice_get done k ≡ Some j' → IsEnded rest has level tag k j'
  all_ended jobs done many each worked k j' e =
      let within = slice_get_within done k j' e in
      let at : slice_get jobs k ≡ Some (get_or jobs k j') = slice_get-get_or jobs k j' (omega (arith, within, many)) in
      ended k (get_or jobs k j') j' (each k (get_or jobs k j') at) (worked k (get_or jobs k j') j' at e)
