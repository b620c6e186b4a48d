use Rattle.std.proofs.Common.{refl}
use Rattle.lock_rules.specs.Holders.{held_view}
use Rattle.lock_tables.proofs.Owned.{own_from}
use Rattle.lock_tables.proofs.lock_words.LockWords.held_mark.Goals as goal

pub returns-clause-own : goal.returns-clause-own
returns-clause-own g c =
    own_from _ _ _ _ _ _ (held_view c.args.held.now) c.requires.of c.args.held.now.seat.plain c.args.held.now.seat.row c.args.self.now.few
    refl refl
