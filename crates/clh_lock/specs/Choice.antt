-- How a CLH lock learns of waiters.
use Rattle.lock_rules.specs.declared.view.Waiters.{Waiters}
use Rattle.lock_tables.specs.Words.{words_key}
use Rattle.clh_lock.specs.declared.lock.Clh.{Clh}

abbrev pub clh_waiters : {V : Type 0} → Clh V → Waiters
clh_waiters l = (words_key l.words).waiters
