-- The words of a Ticket lock, its part of the rule, and its queue as a function of words and views.
use Rattle.std.specs.Prelude.{◌≡◌, ℕ, zero, suc, ◌+◌, ◌-◌, ◌%◌, ◌^◌, false, cond, ◌&&◌, List, [], ◌∷◌, length, replicate, slice_index, ◌==◌}
use mathlib.Core.Option.{some}
use lib.ListN.{get_elem?}
use Rattle.lock_rules.specs.Rows.{line, row_of}
use Rattle.lock_rules.specs.declared.view.Algorithm.TheVariants.{Ticket}
use Rattle.lock_rules.specs.declared.view.View.{View}
use Rattle.lock_tables.specs.Rule.{Discipline, is_busy}

-- the word of the next ticket, and the word of the ticket that is served
abbrev pub next : ℕ
next = line 0

abbrev pub serving : ℕ
serving = line 1

-- the pass that has the ticket t
abbrev pub pass_with : List View → ℕ → ℕ
pass_with [] t = 0
pass_with (v ∷ vs) t = cond (is_busy false v.phase && v.ticket == t) v.number (pass_with vs t)

-- the passes that have the count tickets from t on
abbrev pub passes_from : List View → ℕ → ℕ → List ℕ
passes_from views t zero = []
passes_from views t (suc count) = pass_with views (t % 2 ^ 64) ∷ passes_from views (t + 1) count

-- how many tickets are out: next - serving, modulo 2 ^ 64
abbrev pub tickets_out : List ℕ → ℕ
tickets_out words = (slice_index words next + (2 ^ 64 - slice_index words serving)) % 2 ^ 64

-- the passes by their distance, ticket - serving
abbrev pub queue_of : List ℕ → List View → List ℕ
queue_of words views = passes_from views (slice_index words serving) (tickets_out words)

-- where `first` holds have ended, tickets are drawn and served in turn: the seat with the place i in the queue has the ticket first + i
pub record HasTickets (n : ℕ) (words : List ℕ) (seats : List ℕ) (views : List View) : Type 0 where
  pub first : ℕ
  pub next_is : slice_index words next ≡ (first + length seats) % 2 ^ 64
  pub serving_is : slice_index words serving ≡ first % 2 ^ 64
  pub tickets : (i j : ℕ) (v : View) → get_elem? seats i ≡ some j → get_elem? views j ≡ some v → v.ticket ≡ (first + i) % 2 ^ 64

abbrev pub ticket_discipline : Discipline
ticket_discipline = record {
  algorithm = Ticket;
  lingers = false;
  opens = λ n. replicate (row_of Ticket n) 0;
  Core = HasTickets;
  queue = queue_of;
}
