-- The kinds of atomic step of a CLH lock: the word, what the step does to the view of its seat, and its event in the queue.
use Rattle.std.specs.Prelude.{◌≡◌, ℕ, ◌+◌, ◌≤◌, Bool, true, false, ◌==◌, not}
use Rattle.lock_rules.specs.Views.{is_counted}
use Rattle.lock_rules.specs.declared.view.Phase.TheVariants.{Idle, Queued, Holding}
use Rattle.lock_rules.specs.declared.view.View.{View}
use Rattle.lock_tables.specs.Happened.{missed_view, took_view, tested_view}
use Rattle.lock_tables.specs.Kinds.{StepKind, load, store, swap, no_event, enter, take, leave, always, showing}
use Rattle.clh_lock.specs.Rule.{tail, flag, pending, granted}

-- the pass has stored its flag
abbrev pub raised_view : View → View
raised_view v = record v { steps = v.steps + 1; raised = true }

-- the pass is queued behind the node that it found
abbrev pub queued_view : View → ℕ → View
queued_view v found = record v { phase = Queued; steps = v.steps + 1; entries = v.entries + 1; predecessor = found; raised = false }

-- the pass is idle again, with the node that it watched
abbrev pub left_view : View → View
left_view v = record v { phase = Idle; steps = v.steps + 1; node = v.predecessor; followed = false; raised = false }

-- `waiter` says yes where `tail` is not the holder's own node
abbrev pub others_wait : View → ℕ → Bool
others_wait v found = not (found == v.node)

-- Store of own flag by an idle pass: no event
abbrev pub store_pending : StepKind
store_pending = record {
  form = store;
  word = λ v. flag v.node;
  operand = λ v. pending;
  asks = λ v. v.phase ≡ Idle;
  tells = λ v found. Unit {0};
  outcome = always (record { event = no_event; after = λ v found. raised_view v });
}

-- Swap of `tail` with the own node by an idle pass, announced where the lock counts, that has stored its flag: Enter. It finds a node
abbrev pub fetch_and_store_tail : StepKind
fetch_and_store_tail = record {
  form = swap;
  word = λ v. tail;
  operand = λ v. v.node;
  asks = λ v. (v.phase ≡ Idle) × (v.raised ≡ true) × (v.announced ≡ is_counted v.waiters);
  tells = λ v found. found ≤ v.count;
  outcome = always (record { event = enter; after = queued_view });
}

-- Load of the predecessor's flag by a queued pass: Take where it is granted, else no event
abbrev pub load_watched : StepKind
load_watched = record {
  form = load;
  word = λ v. flag v.predecessor;
  operand = λ v. 0;
  asks = λ v. v.phase ≡ Queued;
  tells = λ v found. Unit {0};
  outcome = showing (λ v. granted) (record { event = take; after = λ v found. took_view v })
      (record { event = no_event; after = λ v found. missed_view v });
}

-- Load of `tail` by `waiter`: no event
abbrev pub load_tail : StepKind
load_tail = record {
  form = load;
  word = λ v. tail;
  operand = λ v. 0;
  asks = λ v. (v.phase ≡ Holding) × (v.announced ≡ false);
  tells = λ v found. Unit {0};
  outcome = always (record { event = no_event; after = λ v found. tested_view v (others_wait v found) });
}

-- Store of own flag by a holder, by which the predecessor's node becomes own: Leave
abbrev pub store_granted : StepKind
store_granted = record {
  form = store;
  word = λ v. flag v.node;
  operand = λ v. granted;
  asks = λ v. (v.phase ≡ Holding) × (v.announced ≡ false);
  tells = λ v found. Unit {0};
  outcome = always (record { event = leave; after = λ v found. left_view v });
}
