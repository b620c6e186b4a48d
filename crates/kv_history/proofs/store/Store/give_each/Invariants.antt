use Rattle.std.proofs.Common.{◌≡◌, List, ℕ, ◌++◌, length}
use Rattle.std.specs.List.{flat_map}
use Rattle.mc_text.specs.Keys.{keys_left}
use Rattle.kv_history.specs.Answer.{written_key}
use Rattle.kv_history.proofs.store.Store.give_each.Given as goal

abbrev pub invariant-loop-key : goal.invariant-loop-key
invariant-loop-key l = record {
  part : List ℕ;
  appended : l.reply.items ≡ l.initial.reply.items ++ part;
  whole : part ++ flat_map (written_key l.self.items l.uniques) (keys_left l.keys) ≡ flat_map (written_key l.self.items l.uniques)
      (keys_left l.initial.keys);
}

abbrev pub decreases-loop-key : goal.decreases-loop-key
decreases-loop-key l = length (keys_left l.keys)
