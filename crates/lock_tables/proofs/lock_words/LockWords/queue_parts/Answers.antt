use Rattle.std.proofs.Common.{ap}
use Rattle.lock_rules.specs.Tokens.{view_of}
use Rattle.lock_tables.proofs.Owned.{own_from}
use Rattle.lock_tables.proofs.lock_words.LockWords.queue_parts.Goals as goal

pub returns-clause-own : goal.returns-clause-own
returns-clause-own g c =
    own_from _ _ _ _ _ _ (view_of c.args.queue.badge) c.requires.of c.args.queue.queued.plain c.args.queue.queued.row c.args.self.now.few
    c.into_parts.ensures.table (ap (λ m. m.0) c.into_parts.ensures.view)
