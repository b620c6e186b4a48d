-- The numbers that stand once by the sums stand in exactly one seat.
use Rattle.std.proofs.Common.{◌≡◌, ℕ, ◌<◌, cond, List, nat_lt, ◌∙◌, arith}
use Rattle.std.proofs.lemmas.Bool.Decides.{nat_tests}
use Rattle.lock_rules.specs.declared.view.View.{View}
use Rattle.lock_tables.specs.Numbers.{by_pass, HasNumbers}
use Rattle.lock_tables.specs.Points.{IsAt, Has, HasOneSeat}
use Rattle.lock_tables.proofs.Numbers.{number_below}
use Rattle.lock_tables.proofs.Stands.{has_stands, one_seat_has}

pub one_seat : (n : ℕ) (views : List View) → HasNumbers n views → (k : ℕ) → k < n → HasOneSeat by_pass k views
one_seat n views had k below =
    let is_one : cond (nat_lt k n) 1 0 ≡ 1 = grind (arith, nat_tests) in one_seat_has by_pass k views (had.once k ∙ is_one)

pub no_other : (n : ℕ) (views : List View) → HasNumbers n views → (k j : ℕ) (v : View) → IsAt views j v → Has by_pass k v → k < n
no_other n views had k j v at has = number_below n views j v k had at.at (has_stands by_pass k v at.unspent has)
