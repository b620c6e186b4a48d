-- What threads have made of jobs, whatever these are.
use Rattle.std.proofs.Common.{◌≡◌, ℕ, List, length, get_or, arith, Some}
use Rattle.std.specs.Prelude.{slice_get}
use Rattle.std.proofs.lemmas.Option.{slice_get_within, slice_get-get_or}

-- each job that comes back is as its caller brings it
pub all_served : {J : Type 0} (is_job is_served : ℕ → J → Type 0) (jobs done : List J) → length done ≡ length jobs
    → ((k : ℕ) (j : J) → slice_get jobs k ≡ Some j → is_job k j)
    → ((k : ℕ) (j j' : J) → slice_get jobs k ≡ Some j → slice_get done k ≡ Some j' → (n : ℕ) → is_job n j → is_served n j')
    → (k : ℕ) (j' : J) → slice_get done k ≡ Some j' → is_served k j'
all_served is_job is_served jobs done many each worked k j' e =
    let within = slice_get_within done k j' e in
    let j = get_or jobs k j' in
    let at : slice_get jobs k ≡ Some j = slice_get-get_or jobs k j' (omega (arith, within, many)) in
    worked k j j' at e k (each k j at)
