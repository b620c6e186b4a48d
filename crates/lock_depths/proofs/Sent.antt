-- Composed locks may go to another thread: the top, and one level more below a lock whose parts may.
use denote.RattleType.{RattleType}
use denote.Builtin.{unit}
use denote.Param.Send.{IsSend, IsSync, sendable}
use Rattle.lock_rules.specs.declared.cargo.Cargo.{Ghosts}
use Rattle.lock_rules.proofs.Shared.{pass_shared}
use Rattle.lock_rules.proofs.tokens.Pass.TheSendSync as pass
use Rattle.lock_rules.proofs.tokens.Queue.TheSendSync as queue
use Rattle.lock_rules.specs.contracts.tokens.Pass as Pass
use Rattle.lock_rules.specs.contracts.tokens.Queue as Queue
use Rattle.keep_local.proofs.Shared.{receipt_shared}
use Rattle.keep_local.proofs.share.Share.TheSendSync as share
use Rattle.clof_compose.proofs.own.Own.TheSendSync as own
use Rattle.clof_compose.proofs.root.Root.TheSendSync as root
use Rattle.clof_compose.proofs.top.Top.TheSendSync as top
use Rattle.clof_compose.proofs.top_tokens.TopPass.TheSendSync as top_pass
use Rattle.clof_compose.proofs.top_tokens.TopQueue.TheSendSync as top_queue
use Rattle.clof_compose.proofs.top_tokens.TopHeld.TheSendSync as top_held
use Rattle.clof_compose.proofs.top_tokens.TopLeave.TheSendSync as top_leave
use Rattle.clof_compose.proofs.level.Level.TheSendSync as level
use Rattle.clof_compose.proofs.level_tokens.LevelPass.TheSendSync as level_pass
use Rattle.clof_compose.proofs.level_tokens.LevelQueue.TheSendSync as level_queue
use Rattle.clof_compose.proofs.level_tokens.LevelHeld.TheSendSync as level_held
use Rattle.clof_compose.proofs.level_tokens.LevelLeave.TheSendSync as level_leave
use Rattle.clof_compose.specs.contracts.own.Own as Own
use Rattle.clof_compose.specs.contracts.root.Root as Root
use Rattle.clof_compose.specs.contracts.top.Top as Top
use Rattle.clof_compose.specs.contracts.top_tokens.TopPass as TopPass
use Rattle.clof_compose.specs.contracts.top_tokens.TopQueue as TopQueue
use Rattle.clof_compose.specs.contracts.top_tokens.TopHeld as TopHeld
use Rattle.clof_compose.specs.contracts.top_tokens.TopLeave as TopLeave
use Rattle.clof_compose.specs.contracts.level.Level as Level
use Rattle.clof_compose.specs.contracts.level_tokens.LevelPass as LevelPass
use Rattle.clof_compose.specs.contracts.level_tokens.LevelQueue as LevelQueue
use Rattle.clof_compose.specs.contracts.level_tokens.LevelHeld as LevelHeld
use Rattle.clof_compose.specs.contracts.level_tokens.LevelLeave as LevelLeave
use Rattle.lock_levels.proofs.any_lock.AnyLock.TheSendSync as any_lock
use Rattle.lock_rules.proofs.leave.Leave.TheSendSync as leave
use Rattle.lock_levels.specs.contracts.any_lock.AnyLock as AnyLock
use Rattle.lock_rules.specs.contracts.leave.Leave as Leave
use Rattle.own_payload.specs.contracts.noted.Noted as Noted
use Rattle.lock_depths.specs.Crossing.{Crosses, TokensCross}

top_pass_shared : IsSync (TopPass.the_row Pass.the_row)
top_pass_shared = let one = pass_shared in let two = receipt_shared in search sendable depth 20

pub low_pass_shared : IsSync (LevelPass.the_row Pass.the_row)
low_pass_shared = let one = pass_shared in let two = receipt_shared in search sendable depth 20

pub low_pass_sent : IsSend (LevelPass.the_row Pass.the_row)
low_pass_sent = level_pass.the_send _ pass.the_send

module _ (N : RattleType) (sent : IsSend N) where
  root_sent : IsSend (Root.the_row N)
  root_sent = root.the_send N sent

  pub top_tokens : TokensCross (TopPass.the_row Pass.the_row) (TopQueue.the_row Queue.the_row) (TopHeld.the_row N)
      (TopLeave.the_row (Leave.the_row (Root.the_row N)))
  top_tokens = record {
    pass_sent = top_pass.the_send _ pass.the_send;
    pass_shared_is = top_pass_shared;
    queue_sent = top_queue.the_send _ queue.the_send;
    held_sent = top_held.the_send N sent;
    leave_sent = top_leave.the_send _ (leave.the_send _ root_sent);
  }

  -- the top
  pub top_crosses : (g : Ghosts (Root.the_row N).Denot) → Crosses (Top.the_row (AnyLock.the_row (Root.the_row N) g) Pass.the_row)
      (TopPass.the_row Pass.the_row) (TopQueue.the_row Queue.the_row) (TopHeld.the_row N)
      (TopLeave.the_row (Leave.the_row (Root.the_row N)))
  top_crosses g = record {
    lock_sent = top.the_send _ _ (any_lock.the_send _ g root_sent) pass.the_send;
    lock_shared = top.the_sync _ _ (any_lock.the_sync _ g root_sent) pass_shared;
    tokens = top_tokens;
  }

  -- a level below a lock
  pub below : (L P Q H E : RattleType) → Crosses L P Q H E → (g : Ghosts (Own.the_row N P H).Denot)
      → Crosses (Level.the_row (AnyLock.the_row (Own.the_row N P H) g) L Pass.the_row P) (LevelPass.the_row Pass.the_row)
      (LevelQueue.the_row N Queue.the_row P H Q) (LevelHeld.the_row N P H) (LevelLeave.the_row N (Leave.the_row (Own.the_row N P H)) P H E)
  below L P Q H E c g = let t = c.tokens in let o : IsSend (Own.the_row N P H) = own.the_send N P H t.pass_sent t.held_sent in record {
    lock_sent = level.the_send _ _ _ _ (any_lock.the_send _ g o) c.lock_sent pass.the_send t.pass_sent;
    lock_shared = level.the_sync _ _ _ _ (any_lock.the_sync _ g o) c.lock_shared pass_shared t.pass_shared_is;
    tokens = record {
      pass_sent = low_pass_sent;
      pass_shared_is = low_pass_shared;
      queue_sent = level_queue.the_send _ _ _ _ _ queue.the_send t.pass_sent t.held_sent t.queue_sent;
      held_sent = level_held.the_send _ _ _ t.pass_sent t.held_sent;
      leave_sent = level_leave.the_send _ _ _ _ _ (leave.the_send _ o) t.pass_sent t.held_sent t.leave_sent;
    };
  }

  -- the tokens of a level, as fields
  module _ {P Q H E : RattleType} (t : TokensCross P Q H E) where
    own_inside : IsSend (Own.the_row N P H)
    own_inside = own.the_send N P H t.pass_sent t.held_sent

    pub queue_inside : IsSend (LevelQueue.the_field N Queue.the_row P H Q).row
    queue_inside = level_queue.the_field_send _ _ _ _ _ queue.the_send t.pass_sent t.held_sent t.queue_sent

    pub held_inside : IsSend (LevelHeld.the_field N P H).row
    held_inside = level_held.the_field_send _ _ _ t.pass_sent t.held_sent

    pub leave_inside : IsSend (LevelLeave.the_field N (Leave.the_row (Own.the_row N P H)) P H E).row
    leave_inside = level_leave.the_field_send _ _ _ _ _ (leave.the_send _ own_inside) t.pass_sent t.held_sent t.leave_sent

  -- a level, as a field
  pub lock_inside : (L P H : RattleType) → IsSend L → IsSend P → IsSend H → (g : Ghosts (Own.the_row N P H).Denot)
      → IsSend (Level.the_field (AnyLock.the_row (Own.the_row N P H) g) L Pass.the_row P).row
  lock_inside L P H l p h g = level.the_field_send _ _ _ _ (any_lock.the_send _ g (own.the_send N P H p h)) l pass.the_send p

  pub shared_inside : (L P H : RattleType) → IsSync L → IsSync P → IsSend P → IsSend H → (g : Ghosts (Own.the_row N P H).Denot)
      → IsSync (Level.the_field (AnyLock.the_row (Own.the_row N P H) g) L Pass.the_row P).row
  shared_inside L P H l y p h g = level.the_field_sync _ _ _ _ (any_lock.the_sync _ g (own.the_send N P H p h)) l pass_shared y

pub noted_sent : IsSend (Noted.the_row unit)
noted_sent = search sendable depth 20

module _ (g : Ghosts (Root.the_row (Noted.the_row unit)).Denot) where
  pub noted_top : Crosses (Top.the_row (AnyLock.the_row (Root.the_row (Noted.the_row unit)) g) Pass.the_row)
      (TopPass.the_row Pass.the_row) (TopQueue.the_row Queue.the_row) (TopHeld.the_row (Noted.the_row unit))
      (TopLeave.the_row (Leave.the_row (Root.the_row (Noted.the_row unit))))
  noted_top = top_crosses (Noted.the_row unit) noted_sent g

  pub noted_top_sent : IsSend (Top.the_row (AnyLock.the_row (Root.the_row (Noted.the_row unit)) g) Pass.the_row)
  noted_top_sent = noted_top.lock_sent

  pub noted_top_shared : IsSync (Top.the_row (AnyLock.the_row (Root.the_row (Noted.the_row unit)) g) Pass.the_row)
  noted_top_shared = noted_top.lock_shared

pub noted_top_tokens : TokensCross (TopPass.the_row Pass.the_row) (TopQueue.the_row Queue.the_row) (TopHeld.the_row (Noted.the_row unit))
    (TopLeave.the_row (Leave.the_row (Root.the_row (Noted.the_row unit))))
noted_top_tokens = top_tokens (Noted.the_row unit) noted_sent
