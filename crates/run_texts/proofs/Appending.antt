-- What is appended to a text.
use Rattle.std.proofs.Common.{◌≡◌, ℕ, List, ◌++◌, Ok, Err, ◌∙◌}
use Rattle.std.specs.Prelude.{Result, OnOk, if◌then◌else◌}
use Rattle.std.specs.Result.{is_ok}

-- what a text is once more has been appended, where it could be
pub appended : {T E : Type 0} (pushed : Result T E) (new before more all : List ℕ) → new ≡ (if is_ok pushed then before ++ more else before)
    → before ++ more ≡ all → OnOk pushed (new ≡ all)
appended (Ok value) new before more all is same = is ∙ same
appended (Err error) new before more all is same = tt
