use Rattle.std.proofs.Common.{◌≡◌, ◌≤◌, [], vec_capacity}
use Rattle.lock_rules.specs.Passes.{AreAll}
use Rattle.lock_rules.specs.Tokens.{badge_place}
use Rattle.lock_rules.specs.Views.{first_view, lock_name}
use Rattle.lock_tables.proofs.table.split_passes.Given as goal

-- the passes below the counter are in the list, and the first seat has the others
abbrev pub invariant-loop-number : goal.invariant-loop-number
invariant-loop-number g l = record {
  table : l.seat.table_id ≡ l.words.table_id;
  seat : l.seat.me ≡ (
    record (first_view g.D.Disciplined.discipline.algorithm l.words.key.waiters l.passes (g.V.Cargo.tag l.words.key.value.value)) {
      from =
          l.number;
    },
    [],
  );
  listed : AreAll (λ p. badge_place p.badge) (lock_name g.D.Disciplined.discipline.algorithm l.words.key.waiters l.words.table_id)
      (g.V.Cargo.tag l.words.key.value.value) l.number l.list.items;
  room : l.passes ≤ vec_capacity l.list;
}
