use Rattle.std.proofs.Common.{◌≡◌, ◌+◌, vec_len}
use Rattle.lock_harness.specs.Tokens.{ArePair}
use Rattle.lock_harness.proofs.script.make_moves.Given as goal

-- the pair is of the lock, and each move has its answer
abbrev pub invariant-loop-next : goal.invariant-loop-next
invariant-loop-next g l = record {
  pair : ArePair g.B.Pass.Placed.place g.B.Queue.Queueing.waiting g.B.Held.Holding.holder g.B.Leave.Departing.waiting
      g.B.Leave.Departing.rests (g.B.Basic.name l.lock) (g.B.Basic.tag l.lock) l.pair.first l.pair.second;
  answered : vec_len l.told ≡ vec_len l.initial.told + l.next-index;
}
