-- What the seats of a lock's table know, and what is read off them.
use Rattle.std.specs.Prelude.{◌≡◌, ℕ, ◌+◌, ◌-◌, ◌<◌, ◌≤◌, Bool, true, false, not, List, [], ◌∷◌, ◌++◌, ◌==◌}
use Rattle.atomic_table.specs.Seated.{TableId}
use Rattle.lock_rules.specs.Tag.{Tag, leaf, fork}
use Rattle.lock_rules.specs.Meanings.{Place, Waiting}
use Rattle.lock_rules.specs.declared.step.Answer.{Answer}
use Rattle.lock_rules.specs.declared.step.Answer.TheVariants.{Open, No, Yes}
use Rattle.lock_rules.specs.declared.view.Algorithm.{Algorithm}
use Rattle.lock_rules.specs.declared.view.Algorithm.TheVariants.{Ticket, Mcs, Clh, Hemlock}
use Rattle.lock_rules.specs.declared.view.Phase.{Phase}
use Rattle.lock_rules.specs.declared.view.Phase.TheVariants.{Idle, Queued, Holding, Leaving}
use Rattle.lock_rules.specs.declared.view.View.{View}
use Rattle.lock_rules.specs.declared.view.Waiters.{Waiters}
use Rattle.lock_rules.specs.declared.view.Waiters.TheVariants.{Queue, Count}

-- a seat that is not spent, with its own number alone, numbers that name passes and nodes of its lock, and no grant to clear
pub record IsPlain (v : View) : Type 0 where
  pub unspent : v.spent ≡ false
  pub split : v.from ≡ v.to
  pub alone : v.joined ≡ []
  pub nodeless : v.nodes ≡ []
  pub below : v.number < v.count
  pub node_within : v.node ≤ v.count
  pub predecessor_within : v.predecessor ≤ v.count
  pub paid : v.owes ≡ false

-- the lock counts its waiters
abbrev pub is_counted : Waiters → Bool
is_counted Queue = false
is_counted Count = true

-- the token of a pass in this phase is of one that is announced: in a counted lock those in the queue are, and no others
abbrev pub announces : Phase → Waiters → Bool
announces Idle c = false
announces Queued c = is_counted c
announces Holding c = false
announces Leaving c = false

abbrev pub IsTold : View → Type 0
IsTold v = v.announced ≡ announces v.phase v.waiters

-- the number by which the words of a lock name a pass
abbrev pub mark_by : Algorithm → View → ℕ
mark_by Ticket v = v.ticket
mark_by Mcs v = v.number
mark_by Clh v = v.node
mark_by Hemlock v = v.number

abbrev pub mark_of : View → ℕ
mark_of v = mark_by v.algorithm v

-- the answer of `waiter` as it is noted
abbrev pub answer_of : Bool → Answer
answer_of true = Yes
answer_of false = No

abbrev pub algorithm_number : Algorithm → ℕ
algorithm_number Ticket = 0
algorithm_number Mcs = 1
algorithm_number Clh = 2
algorithm_number Hemlock = 3

abbrev pub waiters_number : Waiters → ℕ
waiters_number Queue = 0
waiters_number Count = 1

abbrev pub tree_of : List ℕ → Tag
tree_of [] = leaf 0
tree_of (n ∷ ns) = fork (leaf n) (tree_of ns)

-- the name of a lock: its algorithm, how it learns of waiters, and what tells its table from all others
unfoldable pub lock_name : Algorithm → Waiters → TableId → Tag
lock_name a c z = fork (leaf (algorithm_number a)) (fork (leaf (waiters_number c))
    (tree_of (z.words ∷ z.slots ∷ z.views_name ∷ z.atom ∷ z.block ∷ z.offset ∷ z.slot_names)))

-- what a view means at the table z
abbrev pub place_of : TableId → View → Place
place_of z v = record { lock = lock_name v.algorithm v.waiters z; tag = v.tag.tag; number = v.number }

-- `preceded` is for MCS and Hemlock, whose predecessors are never 0: a predecessor of CLH may be the node 0, and a Ticket lock has none
abbrev pub waiting_of : TableId → View → Waiting
waiting_of z v = record {
  place = place_of z v;
  entries = v.entries;
  loads = v.loads;
  ready = v.ready;
  preceded = not (v.predecessor == 0);
  followed = v.followed;
}

-- a seat whose pass is idle and whose view is as at the start
abbrev pub fresh_view : Algorithm → Waiters → ℕ → Tag → ℕ → ℕ → ℕ → Bool → View
fresh_view algorithm waiters count tag number from to spent = record {
  algorithm = algorithm;
  waiters = waiters;
  count = count;
  tag = record { tag = tag };
  number = number;
  from = from;
  to = to;
  joined = [];
  spent = spent;
  phase = Idle;
  steps = 0;
  announced = false;
  entries = 0;
  loads = 0;
  ready = false;
  tested = Open;
  ticket = number;
  node = number;
  nodes = [];
  predecessor = 0;
  unlinked = false;
  raised = false;
  linked = false;
  successor = 0;
  followed = false;
  owes = false;
}

-- the first seat of a lock with n passes: the last pass, and the others not split off yet
abbrev pub first_view : Algorithm → Waiters → ℕ → Tag → View
first_view a c n tag = fresh_view a c n tag (n - 1) 0 (n - 1) false

-- the first seat without the pass that it gives up, and the seat of that pass
abbrev pub without_next : View → View
without_next v = record v { from = v.from + 1 }

abbrev pub next_split : View → View
next_split v = fresh_view v.algorithm v.waiters v.count v.tag.tag v.from 0 0 false

-- a seat that took over another's numbers and nodes, and what is left of the other
abbrev pub joined_view : View → View → View
joined_view v w = record v { joined = w.number ∷ w.joined ++ v.joined; nodes = w.node ∷ w.nodes ++ v.nodes }

abbrev pub spent_view : View
spent_view = fresh_view Ticket Queue 0 (leaf 0) 0 0 0 true
