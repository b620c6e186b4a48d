-- The kinds of atomic step of a Ticket lock: the word, what the step does to the view of its seat, and its event in the queue.
use Rattle.std.specs.Prelude.{◌≡◌, ℕ, ◌+◌, ◌%◌, ◌^◌, Bool, false, ◌==◌, not}
use Rattle.lock_rules.specs.Views.{is_counted}
use Rattle.lock_rules.specs.declared.view.Phase.TheVariants.{Idle, Queued, Holding}
use Rattle.lock_rules.specs.declared.view.View.{View}
use Rattle.lock_tables.specs.Happened.{missed_view, took_view, tested_view}
use Rattle.lock_tables.specs.Kinds.{StepKind, load, store, add, no_event, enter, take, leave, always, showing}
use Rattle.ticket_lock.specs.Rule.{next, serving}

-- the ticket behind this one
abbrev pub after : ℕ → ℕ
after ticket = (ticket + 1) % 2 ^ 64

-- the pass is queued with the ticket that it found
abbrev pub queued_view : View → ℕ → View
queued_view v ticket = record v { phase = Queued; steps = v.steps + 1; entries = v.entries + 1; ticket = ticket; predecessor = 0 }

-- the pass is idle again
abbrev pub left_view : View → View
left_view v = record v { phase = Idle; steps = v.steps + 1; followed = false }

-- `waiter` says yes where `next` is not the ticket behind the holder's
abbrev pub others_wait : View → ℕ → Bool
others_wait v found = not (found == after v.ticket)

-- Addition to `next` by an idle pass, which is announced where the lock counts: Enter
abbrev pub add_next : StepKind
add_next = record {
  form = add;
  word = λ v. next;
  operand = λ v. 1;
  asks = λ v. (v.phase ≡ Idle) × (v.announced ≡ is_counted v.waiters);
  tells = λ v found. Unit {0};
  outcome = always (record { event = enter; after = queued_view });
}

-- Load of `serving` by a queued pass: Take where it is the ticket, else no event
abbrev pub load_serving : StepKind
load_serving = record {
  form = load;
  word = λ v. serving;
  operand = λ v. 0;
  asks = λ v. v.phase ≡ Queued;
  tells = λ v found. Unit {0};
  outcome = showing (λ v. v.ticket) (record { event = take; after = λ v found. took_view v })
      (record { event = no_event; after = λ v found. missed_view v });
}

-- Load of `next` by `waiter`: no event
abbrev pub load_next : StepKind
load_next = record {
  form = load;
  word = λ v. next;
  operand = λ v. 0;
  asks = λ v. (v.phase ≡ Holding) × (v.announced ≡ false);
  tells = λ v found. Unit {0};
  outcome = always (record { event = no_event; after = λ v found. tested_view v (others_wait v found) });
}

-- Store of the next ticket in `serving` by a holder: Leave
abbrev pub store_serving : StepKind
store_serving = record {
  form = store;
  word = λ v. serving;
  operand = λ v. after v.ticket;
  asks = λ v. (v.phase ≡ Holding) × (v.announced ≡ false);
  tells = λ v found. Unit {0};
  outcome = always (record { event = leave; after = λ v found. left_view v });
}
