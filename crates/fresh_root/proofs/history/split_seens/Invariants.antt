use Rattle.std.proofs.Common.{◌≡◌, ◌≤◌, [], vec_capacity}
use Rattle.fresh_root.specs.Views.{first_view}
use Rattle.fresh_root.proofs.Tokens.{Given}
use Rattle.fresh_root.proofs.history.split_seens.Given as goal

-- the callers below the counter have their tokens, and the home seat is as it was
abbrev pub invariant-loop-caller : goal.invariant-loop-caller
invariant-loop-caller l = record {
  own : l.home.table_id ≡ l.words.table_id;
  seat : l.home.me ≡ (first_view, []);
  given : Given l.words.table_id l.caller l.seens.items;
  room : l.tokens ≤ vec_capacity l.seens;
}
