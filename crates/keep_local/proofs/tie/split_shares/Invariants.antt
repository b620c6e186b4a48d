use Rattle.std.proofs.Common.{◌≡◌, ◌≤◌, [], length, take, vec_capacity}
use Rattle.keep_local.specs.States.{new_shares}
use Rattle.keep_local.specs.Views.{home_view}
use Rattle.keep_local.proofs.Splits.{tallies_from}
use Rattle.keep_local.proofs.tie.split_shares.Given as goal

-- the quotas below the counter have their shares, and the home seat has the tallies of the others
abbrev pub invariant-loop-caller : goal.invariant-loop-caller
invariant-loop-caller l = record {
  own : l.home.table_id ≡ l.words.table_id;
  seat : l.home.me ≡ (home_view l.quotas [] (tallies_from l.caller l.quotas), []);
  listed : l.shares.items ≡ new_shares l.words.table_id (take l.caller l.quotas);
  count : length l.shares.items ≡ l.caller;
  room : length l.quotas ≤ vec_capacity l.shares;
}
