-- The verdict on a text, by that on what stands behind the lines of turns.
use Rattle.std.proofs.Common.{◌≡◌, ℕ, false, List, Ok, Err, Result, sym, subst}
use Rattle.std.specs.Prelude.{IfOk}
use Rattle.keep_local.specs.declared.shape.Shape.{Shape}
use Rattle.kv_history.specs.Log.{EachHasSection, EachOwnFirst, IsOneThread}
use Rattle.run_texts.specs.Callers.{Placed}
use Rattle.run_check.specs.Broken.{HaveEnded, IsFirstBroken, IsVerdict}
use Rattle.run_check.specs.Lines.{begins_turn}
use Rattle.run_check.specs.Runs.{Course, IsCallersVerdict, holds_of}
use Rattle.run_check.specs.declared.verdict.Verdict.{Verdict}
use Rattle.run_check.specs.declared.verdict.Verdict.TheVariants.{Yes, No}
use Rattle.run_check.proofs.Comings.{Come, caller_broken, run_ended}

pub to_verdict : (sections : List Placed) (shape : Shape) (printed rest : List ℕ) (course : Course) (number : ℕ)
    → Come sections shape printed rest course number → begins_turn rest ≡ false → HaveEnded sections shape (holds_of course.turns)
    → EachHasSection course.log → EachOwnFirst course.log → IsOneThread course.log.entries → (verdict : Verdict)
    → IsCallersVerdict sections rest number verdict → IsVerdict sections shape printed verdict
to_verdict sections shape printed rest course number come other ended have own thread Yes is =
    run_ended sections shape printed rest course number come have own thread ended is
to_verdict sections shape printed rest course number come other ended have own thread (No line) is =
    subst (IsFirstBroken sections shape printed) (sym is.1)
    (caller_broken sections shape printed rest course number come other ended is.0 is.2)

pub on_ok : {A E : Type 0} (P Q : A → Type 0) (result : Result A E) → ((value : A) → P value → Q value) → IfOk result P → IfOk result Q
on_ok P Q (Ok value) step is = step value is
on_ok P Q (Err refused) step is = tt
