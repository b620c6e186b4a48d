use Rattle.std.proofs.Common.{ap}
use Rattle.lock_rules.specs.Holders.{held_view}
use Rattle.lock_tables.proofs.Owned.{own_from}
use Rattle.lock_tables.proofs.lock_words.LockWords.held_parts.Goals as goal

pub returns-clause-own : goal.returns-clause-own
returns-clause-own g c =
    own_from _ _ _ _ _ _ (held_view c.args.held) c.requires.of c.args.held.seat.plain c.args.held.seat.row c.args.self.now.few
    (ap (λ s. s.table_id) c.into_parts.ensures.seat) (ap (λ s. s.me.0) c.into_parts.ensures.seat)
