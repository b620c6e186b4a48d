-- What a thread has made of its job.
use Rattle.std.proofs.Common.{◌≡◌, ℕ, List, length, get_or, sym, subst, arith, Some}
use Rattle.std.specs.Prelude.{slice_get}
use Rattle.std.proofs.lemmas.Option.{slice_get_within, slice_get-get_or}
use Rattle.lock_rules.specs.Tag.{Tag}
use Rattle.clof_compose.specs.Contexts.{Context}
use Rattle.clof_compose.specs.Meanings.{Rest}
use Rattle.fresh_runner.specs.Jobs.{IsFreshJob, IsFreshServed, MayServeFresh}
use Rattle.fresh_runner.specs.declared.job.FreshJob.{FreshJob}

module _ {P : Type 0} (rest : P → Rest) (has : Context → Type 0) (level : ℕ) (tag : Tag) where
  -- the job of a caller is one that a thread may be given
  pub may_serve : (sound : Type 0) → sound → level ≡ 0 → (k : ℕ) (j : FreshJob P) → IsFreshJob rest has level tag k j
      → MayServeFresh rest has level tag sound j
  may_serve sound s lowest k j is = record {
    sound_is = s;
    lowest = lowest;
    job = subst (λ (n : ℕ). IsFreshJob rest has level tag n j) (sym is.account_is.share_is.caller_is) is;
  }

  -- each job that comes back is that of its caller, with all turns made unless the caller stopped
  pub all_served : (jobs done : List (FreshJob P)) → length done ≡ length jobs
      → ((k : ℕ) (j : FreshJob P) → slice_get jobs k ≡ Some j → IsFreshJob rest has level tag k j)
      → ((k : ℕ) (j j' : FreshJob P) → slice_get jobs k ≡ Some j → slice_get done k ≡ Some j'
      → IsFreshServed rest has level tag j.account.share.caller j')
      → (k : ℕ) (j' : FreshJob P) → slice_get done k ≡ Some j' → IsFreshServed rest has level tag k j'
  all_served jobs done many each worked k j' e =
      let within = slice_get_within done k j' e in
      let j = get_or jobs k j' in
      let at : slice_get jobs k ≡ Some j = slice_get-get_or jobs k j' (omega (arith, within, many)) in
      subst (λ (n : ℕ). IsFreshServed rest has level tag n j') (each k j at).account_is.share_is.caller_is (worked k j j' at e)
