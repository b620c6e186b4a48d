-- How a Hemlock learns of waiters.
use Rattle.lock_rules.specs.declared.view.Waiters.{Waiters}
use Rattle.lock_tables.specs.Words.{words_key}
use Rattle.hemlock_lock.specs.declared.lock.Hemlock.{Hemlock}

abbrev pub hemlock_waiters : {V : Type 0} → Hemlock V → Waiters
hemlock_waiters l = (words_key l.words).waiters
