-- The kinds of atomic step of an MCS lock: the word, what the step does to the view of its seat, and its event in the queue.
use Rattle.std.specs.Prelude.{◌≡◌, ◌≢◌, ℕ, ◌+◌, ◌≤◌, Bool, true, false, ◌==◌, not}
use Rattle.lock_rules.specs.Views.{is_counted}
use Rattle.lock_rules.specs.declared.step.Answer.TheVariants.{Open}
use Rattle.lock_rules.specs.declared.view.Phase.TheVariants.{Idle, Queued, Holding, Leaving}
use Rattle.lock_rules.specs.declared.view.View.{View}
use Rattle.lock_tables.specs.Happened.{missed_view, took_view, tested_view}
use Rattle.lock_tables.specs.Kinds.{StepKind, load, store, swap, exchange, no_event, enter, take, enter_and_take, leave, always, showing}
use Rattle.lock_tables.specs.Rule.{is_holder}
use Rattle.mcs_lock.specs.Rule.{tail, next, locked, name, pass_named}

-- the pass has stored 0 in its `next`
abbrev pub cleared_view : View → View
cleared_view v = record v { steps = v.steps + 1; unlinked = true }

-- the pass has stored 1 in its `locked`
abbrev pub raised_view : View → View
raised_view v = record v { steps = v.steps + 1; raised = true }

-- after its swap: the word that it found, and nothing stored for a swap to come
abbrev pub swapped_view : View → ℕ → View
swapped_view v found = record v {
  steps = v.steps + 1;
  entries = v.entries + 1;
  predecessor = found;
  unlinked = false;
  raised = false;
  linked = false;
  successor = 0;
}

-- the pass is queued behind the one that its swap found
abbrev pub queued_view : View → ℕ → View
queued_view v found = record (swapped_view v found) { phase = Queued }

-- the pass holds: its swap found none
abbrev pub entered_view : View → View
entered_view v = record (swapped_view v 0) { phase = Holding; tested = Open; followed = false }

-- the pass has stored its link
abbrev pub linked_view : View → View
linked_view v = record v { steps = v.steps + 1; linked = true }

-- the holder looked at its `next`
abbrev pub looked_view : View → ℕ → View
looked_view v found = record v { steps = v.steps + 1; loads = v.loads + 1; ready = not (found == 0); successor = found }

-- the holder's exchange found another pass
abbrev pub followed_view : View → View
followed_view v = record v { phase = Leaving; steps = v.steps + 1; followed = true }

-- the pass is idle again
abbrev pub left_view : View → View
left_view v = record v { phase = Idle; steps = v.steps + 1; followed = false }

-- `waiter` says yes where `tail` names another than the holder
abbrev pub others_wait : View → ℕ → Bool
others_wait v found = not (found == name v.number)

-- Store of own `next` by an idle pass: no event
abbrev pub store_next : StepKind
store_next = record {
  form = store;
  word = λ v. next v.number;
  operand = λ v. 0;
  asks = λ v. v.phase ≡ Idle;
  tells = λ v found. Unit {0};
  outcome = always (record { event = no_event; after = λ v found. cleared_view v });
}

-- Store of own `locked` by an idle pass: no event
abbrev pub store_locked : StepKind
store_locked = record {
  form = store;
  word = λ v. locked v.number;
  operand = λ v. 1;
  asks = λ v. v.phase ≡ Idle;
  tells = λ v found. Unit {0};
  outcome = always (record { event = no_event; after = λ v found. raised_view v });
}

-- Swap of `tail` by an idle pass, which has stored both words and is announced where the lock counts: Enter; Enter and Take where it found
-- none
abbrev pub fetch_and_store_tail : StepKind
fetch_and_store_tail = record {
  form = swap;
  word = λ v. tail;
  operand = λ v. name v.number;
  asks = λ v. (v.phase ≡ Idle) × (v.announced ≡ is_counted v.waiters) × (v.unlinked ≡ true) × (v.raised ≡ true);
  tells = λ v found. found ≤ v.count;
  outcome = showing (λ v. 0) (record { event = enter_and_take; after = λ v found. entered_view v })
      (record { event = enter; after = queued_view });
}

-- Store of the predecessor's `next` by a queued pass, which hasn't stored its link: no event
abbrev pub store_predecessor_next : StepKind
store_predecessor_next = record {
  form = store;
  word = λ v. next (pass_named v.predecessor);
  operand = λ v. name v.number;
  asks = λ v. (v.phase ≡ Queued) × (v.linked ≡ false);
  tells = λ v found. Unit {0};
  outcome = always (record { event = no_event; after = λ v found. linked_view v });
}

-- Load of own `locked` by a queued pass: Take where it is 0, else no event
abbrev pub load_locked : StepKind
load_locked = record {
  form = load;
  word = λ v. locked v.number;
  operand = λ v. 0;
  asks = λ v. v.phase ≡ Queued;
  tells = λ v found. Unit {0};
  outcome = showing (λ v. 0) (record { event = take; after = λ v found. took_view v })
      (record { event = no_event; after = λ v found. missed_view v });
}

-- Load of `tail` by `waiter`: no event
abbrev pub load_tail : StepKind
load_tail = record {
  form = load;
  word = λ v. tail;
  operand = λ v. 0;
  asks = λ v. (v.phase ≡ Holding) × (v.announced ≡ false);
  tells = λ v found. Unit {0};
  outcome = always (record { event = no_event; after = λ v found. tested_view v (others_wait v found) });
}

-- Load of own `next` by a holder: no event
abbrev pub load_next : StepKind
load_next = record {
  form = load;
  word = λ v. next v.number;
  operand = λ v. 0;
  asks = λ v. is_holder true v.phase ≡ true;
  tells = λ v found. found ≤ v.count;
  outcome = always (record { event = no_event; after = looked_view });
}

-- Store of the successor's `locked` by a holder, which has seen its successor: Leave
abbrev pub store_successor_locked : StepKind
store_successor_locked = record {
  form = store;
  word = λ v. locked (pass_named v.successor);
  operand = λ v. 0;
  asks = λ v. (is_holder true v.phase ≡ true) × (v.announced ≡ false) × (v.successor ≢ 0);
  tells = λ v found. Unit {0};
  outcome = always (record { event = leave; after = λ v found. left_view v });
}

-- Exchange of `tail` from the holder's name to 0: Leave where done, else no event
abbrev pub compare_and_swap_tail : StepKind
compare_and_swap_tail = record {
  form = exchange;
  word = λ v. tail;
  operand = λ v. 0;
  asks = λ v. (v.phase ≡ Holding) × (v.announced ≡ false);
  tells = λ v found. Unit {0};
  outcome = showing (λ v. name v.number) (record { event = leave; after = λ v found. left_view v })
      (record { event = no_event; after = λ v found. followed_view v });
}
