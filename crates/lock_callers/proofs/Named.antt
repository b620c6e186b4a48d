-- What holds at one lock holds at some lock.
use Rattle.std.proofs.Common.{IfSome, None, Some}
use Rattle.std.specs.Prelude.{Option}
use Rattle.lock_rules.specs.Tag.{Tag}

pub at_some_lock : {X : Type 0} (P : Tag → X → Type 0) (made : Option X) (lock : Tag) → IfSome made (P lock)
    → IfSome made (λ x. (l : Tag) × P l x)
at_some_lock P None lock holds = tt
at_some_lock P (Some x) lock holds = (lock, holds)
