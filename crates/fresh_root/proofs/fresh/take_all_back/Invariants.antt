use Rattle.std.proofs.Common.{◌≡◌, ◌++◌}
use Rattle.std.specs.Prelude.{All}
use Rattle.fresh_root.specs.Prefixes.{IsPrefixOf}
use Rattle.fresh_root.proofs.fresh.take_all_back.Given as goal

-- the tokens so far have lists that begin the history, which stays
abbrev pub invariant-loop-seen : goal.invariant-loop-seen
invariant-loop-seen l = record {
  all : l.fn.tokens.items ≡ l.yielded ++ l.seen-iterator.rest.items;
  history : l.history ≡ l.fn.history;
  shown : All (λ s. IsPrefixOf s.list l.fn.history.list) l.yielded;
}
