-- The kinds of atomic step of a Hemlock: the word, what the step does to the view of its seat, and its event in the queue.
use Rattle.std.specs.Prelude.{◌≡◌, ◌≢◌, ℕ, ◌+◌, ◌≤◌, Bool, true, false, ◌==◌, not}
use Rattle.lock_rules.specs.Views.{is_counted}
use Rattle.lock_rules.specs.declared.step.Answer.TheVariants.{Open}
use Rattle.lock_rules.specs.declared.view.Phase.{Phase}
use Rattle.lock_rules.specs.declared.view.Phase.TheVariants.{Idle, Queued, Holding, Leaving}
use Rattle.lock_rules.specs.declared.view.View.{View}
use Rattle.lock_tables.specs.Happened.{missed_view, took_view, tested_view}
use Rattle.lock_tables.specs.Kinds.{StepKind, load, store, swap, exchange, no_event, enter, take, enter_and_take, leave, always, showing}
use Rattle.hemlock_lock.specs.Rule.{tail, grant}

-- the name of a seat's own pass
abbrev pub own_name : View → ℕ
own_name v = v.number + 1

-- the pass is queued behind the one that it found
abbrev pub queued_view : View → ℕ → View
queued_view v found = record v { phase = Queued; steps = v.steps + 1; entries = v.entries + 1; predecessor = found }

-- the pass found none, and holds
abbrev pub entered_view : View → View
entered_view v = record (queued_view v 0) { phase = Holding; tested = Open; followed = false }

-- a load that showed the grant, by which the pass takes. It still names the one that it found, and owes it that the grant is cleared: such
-- a view is not plain, so no token of a holder has it
abbrev pub granted_view : View → View
granted_view v = record (took_view v) { owes = true }

-- the pass no longer names the one that it found
abbrev pub cleared_view : View → View
cleared_view v = record v { steps = v.steps + 1; predecessor = 0; owes = false }

-- an exchange of `tail` found another
abbrev pub followed_view : View → View
followed_view v = record v { steps = v.steps + 1; followed = true }

-- the pass left: it is idle or, where its grant stands, leaving
abbrev pub left_view : Phase → View → View
left_view phase v = record v { phase = phase; steps = v.steps + 1; followed = false }

-- a load that showed that the grant was cleared
abbrev pub done_view : View → View
done_view v = record v { phase = Idle; steps = v.steps + 1; loads = v.loads + 1; ready = true }

-- `waiter` says yes where `tail` names another
abbrev pub others_wait : View → ℕ → Bool
others_wait v found = not (found == own_name v)

-- Swap of `tail` by an idle pass, which is announced where the lock counts: Enter and Take where it was 0, else Enter
abbrev pub swap_tail : StepKind
swap_tail = record {
  form = swap;
  word = λ v. tail;
  operand = own_name;
  asks = λ v. (v.phase ≡ Idle) × (v.announced ≡ is_counted v.waiters);
  tells = λ v found. found ≤ v.count;
  outcome = showing (λ v. 0) (record { event = enter_and_take; after = λ v found. entered_view v })
      (record { event = enter; after = queued_view });
}

-- Load of the predecessor's grant by a queued pass, which has one: Take where it is 1, else no event
abbrev pub load_predecessor_grant : StepKind
load_predecessor_grant = record {
  form = load;
  word = λ v. grant v.predecessor;
  operand = λ v. 0;
  asks = λ v. v.phase ≡ Queued;
  tells = λ v found. v.predecessor ≢ 0;
  outcome = showing (λ v. 1) (record { event = take; after = λ v found. granted_view v })
      (record { event = no_event; after = λ v found. missed_view v });
}

-- Store of 0 in the predecessor's grant by a holder that names one: no event
abbrev pub clear_predecessor_grant : StepKind
clear_predecessor_grant = record {
  form = store;
  word = λ v. grant v.predecessor;
  operand = λ v. 0;
  asks = λ v. (v.phase ≡ Holding) × (v.predecessor ≢ 0);
  tells = λ v found. Unit {0};
  outcome = always (record { event = no_event; after = λ v found. cleared_view v });
}

-- Load of `tail` by `waiter`: no event
abbrev pub load_tail : StepKind
load_tail = record {
  form = load;
  word = λ v. tail;
  operand = λ v. 0;
  asks = λ v. (v.phase ≡ Holding) × (v.announced ≡ false);
  tells = λ v found. Unit {0};
  outcome = always (record { event = no_event; after = λ v found. tested_view v (others_wait v found) });
}

-- Exchange of `tail` from own to 0 by a holder that owes nothing: Leave where it is done, else no event
abbrev pub exchange_tail : StepKind
exchange_tail = record {
  form = exchange;
  word = λ v. tail;
  operand = λ v. 0;
  asks = λ v. (v.phase ≡ Holding) × (v.announced ≡ false) × (v.owes ≡ false);
  tells = λ v found. Unit {0};
  outcome = showing own_name (record { event = leave; after = λ v found. left_view Idle v })
      (record { event = no_event; after = λ v found. followed_view v });
}

-- Store of 1 in the own grant by a holder that owes nothing and was told of another: Leave
abbrev pub store_grant : StepKind
store_grant = record {
  form = store;
  word = λ v. grant (own_name v);
  operand = λ v. 1;
  asks = λ v. (v.phase ≡ Holding) × (v.announced ≡ false) × (v.owes ≡ false) × (v.followed ≡ true);
  tells = λ v found. Unit {0};
  outcome = always (record { event = leave; after = λ v found. left_view Leaving v });
}

-- Load of the own grant by a pass that is leaving: no event. The pass is idle where it is 0
abbrev pub load_grant : StepKind
load_grant = record {
  form = load;
  word = λ v. grant (own_name v);
  operand = λ v. 0;
  asks = λ v. v.phase ≡ Leaving;
  tells = λ v found. Unit {0};
  outcome = showing (λ v. 0) (record { event = no_event; after = λ v found. done_view v })
      (record { event = no_event; after = λ v found. missed_view v });
}
