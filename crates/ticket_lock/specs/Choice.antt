-- How a Ticket lock learns of waiters.
use Rattle.lock_rules.specs.declared.view.Waiters.{Waiters}
use Rattle.lock_tables.specs.Words.{words_key}
use Rattle.ticket_lock.specs.declared.lock.Ticket.{Ticket}

abbrev pub ticket_waiters : {V : Type 0} → Ticket V → Waiters
ticket_waiters l = (words_key l.words).waiters
