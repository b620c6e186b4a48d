-- What holds of a value that a call has handed on.
use Rattle.std.proofs.Common.{◌≡◌, subst, Option, Some, Result, Ok, Err}
use Rattle.std.specs.Prelude.{IfOk}
use Rattle.std.specs.Result.{result_ok}

-- what holds of a value, if there is one, holds of it once `ok` has kept it
pub passed_on : {A E : Type 0} (P : A → Type 0) (r : Result A E) (o : Option A) (a : A) → IfOk r P → o ≡ result_ok r → o ≡ Some a → P a
passed_on P (Ok b) o a is same some = let at : b ≡ a = cc in subst P at is
passed_on P (Err e) o a is same some = absurd (cc)
