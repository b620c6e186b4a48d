-- The numbers of a lock's passes, and others that are given out like them, over all views of its table.
use Rattle.std.specs.Prelude.{◌≡◌, ℕ, ◌+◌, ◌-◌, cond, ◌&&◌, List, length, nat_le, nat_lt, ◌==◌}
use Rattle.std.specs.List.{sum_by, count_by}
use Rattle.lock_rules.specs.declared.view.View.{View}

-- A way to number views: a seat has a number of its own and those that it took over by joining, and each pass that was not split off yet
-- will have its own pass's number
pub record Numbering : Type 0 where
  pub own : View → ℕ
  pub taken : View → List ℕ

-- the numbers of passes
abbrev pub by_pass : Numbering
by_pass = record { own = λ v. v.number; taken = λ v. v.joined }

-- the nodes of a CLH lock
abbrev pub by_node : Numbering
by_node = record { own = λ v. v.node; taken = λ v. v.nodes }

-- how many passes a seat has: its own, those that were not split off yet, and those that it took over
abbrev pub passes_of : View → ℕ
passes_of v = cond v.spent 0 (1 + (v.to - v.from) + length v.joined)

-- how often the number k stands in a seat
abbrev pub stands_in : Numbering → ℕ → View → ℕ
stands_in m k v = cond v.spent 0 (cond (m.own v == k) 1 0 + cond (nat_le v.from k && nat_lt k v.to) 1 0 + count_by (λ x. x == k)
    (m.taken v))

-- the seats have n passes in all: each number below n once, and no other
pub record HasNumbers (n : ℕ) (views : List View) : Type 0 where
  pub in_all : sum_by passes_of views ≡ n
  pub once : (k : ℕ) → sum_by (stands_in by_pass k) views ≡ cond (nat_lt k n) 1 0
