use Rattle.std.proofs.Common.{◌≡◌, ◌+◌, false, length, vec_len}
use Rattle.lock_rules.specs.Passes.{AreAll}
use Rattle.lock_rules.specs.Tokens.{badge_place}
use Rattle.lock_rules.specs.Views.{lock_name}
use Rattle.lock_rules.specs.declared.view.Phase.TheVariants.{Idle}
use Rattle.lock_tables.specs.Numbers.{passes_of}
use Rattle.lock_tables.proofs.table.join_passes.Given as goal

-- the seat has the numbers of the passes that have left the list
abbrev pub invariant-loop-pass : goal.invariant-loop-pass
invariant-loop-pass g l = record {
  table : l.seat.table_id ≡ l.words.table_id;
  idle : l.seat.me.0.phase ≡ Idle;
  silent : l.seat.me.0.announced ≡ false;
  unspent : l.seat.me.0.spent ≡ false;
  numbers : passes_of l.seat.me.0 + length l.passes.items ≡ l.words.key.passes;
  listed : AreAll (λ p. badge_place p.badge) (lock_name g.D.Disciplined.discipline.algorithm l.words.key.waiters l.words.table_id)
      (g.V.Cargo.tag l.words.key.value.value) (length l.passes.items) l.passes.items;
}

abbrev pub decreases-loop-pass : goal.decreases-loop-pass
decreases-loop-pass g l = vec_len l.passes
