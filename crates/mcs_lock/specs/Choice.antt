-- How an MCS lock learns of waiters.
use Rattle.lock_rules.specs.declared.view.Waiters.{Waiters}
use Rattle.lock_tables.specs.Words.{words_key}
use Rattle.mcs_lock.specs.declared.lock.Mcs.{Mcs}

abbrev pub mcs_waiters : {V : Type 0} → Mcs V → Waiters
mcs_waiters l = (words_key l.words).waiters
