-- A lock of each depth and its tokens may go to another thread.
use denote.RattleType.{RattleType}
use denote.Builtin.{unit}
use denote.Struct.Declared.{shape}
use denote.Param.Send.{IsSend, IsSync, recorded_send, recorded_sync, sendable, struct_send, struct_sync}
use Rattle.lock_rules.specs.contracts.tokens.Pass as Pass
use Rattle.clof_compose.specs.contracts.level_tokens.LevelPass as LevelPass
use Rattle.clof_compose.specs.contracts.top_tokens.TopPass as TopPass
use Rattle.clof_compose.specs.contracts.top_tokens.TopHeld as TopHeld
use Rattle.own_payload.specs.contracts.noted.Noted as Noted
use Rattle.lock_depths.specs.Crossing.{Crosses, TokensCross}
use Rattle.lock_depths.specs.contracts.two.LockOfTwo as LockOfTwo
use Rattle.lock_depths.specs.contracts.two.QueueOfTwo as QueueOfTwo
use Rattle.lock_depths.specs.contracts.two.HeldOfTwo as HeldOfTwo
use Rattle.lock_depths.specs.contracts.two.LeaveOfTwo as LeaveOfTwo
use Rattle.lock_depths.specs.contracts.three.LockOfThree as LockOfThree
use Rattle.lock_depths.specs.contracts.three.QueueOfThree as QueueOfThree
use Rattle.lock_depths.specs.contracts.three.HeldOfThree as HeldOfThree
use Rattle.lock_depths.specs.contracts.three.LeaveOfThree as LeaveOfThree
use Rattle.lock_depths.specs.contracts.four.LockOfFour as LockOfFour
use Rattle.lock_depths.specs.contracts.four.QueueOfFour as QueueOfFour
use Rattle.lock_depths.specs.contracts.four.HeldOfFour as HeldOfFour
use Rattle.lock_depths.specs.contracts.four.LeaveOfFour as LeaveOfFour
use Rattle.lock_depths.proofs.Sent.{low_pass_sent, low_pass_shared, noted_sent, noted_top_tokens, noted_top_sent, noted_top_shared}
use Rattle.lock_depths.proofs.Sent.{queue_inside, held_inside, leave_inside, lock_inside, shared_inside}

abbrev N : RattleType
N = Noted.the_row unit

abbrev LowPass : RattleType
LowPass = LevelPass.the_row Pass.the_row

two_tokens : TokensCross LowPass QueueOfTwo.the_row HeldOfTwo.the_row LeaveOfTwo.the_row
two_tokens = let t = noted_top_tokens in record {
  pass_sent = low_pass_sent;
  pass_shared_is = low_pass_shared;
  queue_sent =
      recorded_send _ _ _ QueueOfTwo.the_type.to_one (struct_send (shape QueueOfTwo.the_type) (queue_inside N noted_sent t, tt));
  held_sent = recorded_send _ _ _ HeldOfTwo.the_type.to_one (struct_send (shape HeldOfTwo.the_type) (held_inside N noted_sent t, tt));
  leave_sent =
      recorded_send _ _ _ LeaveOfTwo.the_type.to_one (struct_send (shape LeaveOfTwo.the_type) (leave_inside N noted_sent t, tt));
}

two_sent : IsSend LockOfTwo.the_row
two_sent =
    let inside = lock_inside N noted_sent in let t = noted_top_tokens in
    let p : IsSend (TopPass.the_row Pass.the_row) = t.pass_sent in let h : IsSend (TopHeld.the_row N) = t.held_sent in
    recorded_send _ _ _ LockOfTwo.the_type.to_one
    (struct_send (shape LockOfTwo.the_type) (search (inside, noted_top_sent) depth 12, (search sendable, tt)))

two_shared : IsSync LockOfTwo.the_row
two_shared =
    let inside = shared_inside N noted_sent in let t = noted_top_tokens in
    let y : IsSync (TopPass.the_row Pass.the_row) = t.pass_shared_is in
    let p : IsSend (TopPass.the_row Pass.the_row) = t.pass_sent in let h : IsSend (TopHeld.the_row N) = t.held_sent in
    recorded_sync _ _ _ LockOfTwo.the_type.to_one
    (struct_sync (shape LockOfTwo.the_type) (search (inside, noted_top_shared) depth 12, (search sendable, tt)))

pub two_crosses : Crosses LockOfTwo.the_row LowPass QueueOfTwo.the_row HeldOfTwo.the_row LeaveOfTwo.the_row
two_crosses = record { lock_sent = two_sent; lock_shared = two_shared; tokens = two_tokens }

three_tokens : TokensCross LowPass QueueOfThree.the_row HeldOfThree.the_row LeaveOfThree.the_row
three_tokens = let t = two_tokens in record {
  pass_sent = low_pass_sent;
  pass_shared_is = low_pass_shared;
  queue_sent =
      recorded_send _ _ _ QueueOfThree.the_type.to_one (struct_send (shape QueueOfThree.the_type) (queue_inside N noted_sent t, tt));
  held_sent = recorded_send _ _ _ HeldOfThree.the_type.to_one (struct_send (shape HeldOfThree.the_type) (held_inside N noted_sent t, tt));
  leave_sent =
      recorded_send _ _ _ LeaveOfThree.the_type.to_one (struct_send (shape LeaveOfThree.the_type) (leave_inside N noted_sent t, tt));
}

three_sent : IsSend LockOfThree.the_row
three_sent =
    let inside = lock_inside N noted_sent in let t = two_tokens in
    let p : IsSend LowPass = t.pass_sent in let h : IsSend HeldOfTwo.the_row = t.held_sent in
    recorded_send _ _ _ LockOfThree.the_type.to_one
    (struct_send (shape LockOfThree.the_type) (search (inside, two_sent) depth 12, (search sendable, tt)))

three_shared : IsSync LockOfThree.the_row
three_shared =
    let inside = shared_inside N noted_sent in let t = two_tokens in
    let y : IsSync LowPass = t.pass_shared_is in
    let p : IsSend LowPass = t.pass_sent in let h : IsSend HeldOfTwo.the_row = t.held_sent in
    recorded_sync _ _ _ LockOfThree.the_type.to_one
    (struct_sync (shape LockOfThree.the_type) (search (inside, two_shared) depth 12, (search sendable, tt)))

pub three_crosses : Crosses LockOfThree.the_row LowPass QueueOfThree.the_row HeldOfThree.the_row LeaveOfThree.the_row
three_crosses = record { lock_sent = three_sent; lock_shared = three_shared; tokens = three_tokens }

four_tokens : TokensCross LowPass QueueOfFour.the_row HeldOfFour.the_row LeaveOfFour.the_row
four_tokens = let t = three_tokens in record {
  pass_sent = low_pass_sent;
  pass_shared_is = low_pass_shared;
  queue_sent =
      recorded_send _ _ _ QueueOfFour.the_type.to_one (struct_send (shape QueueOfFour.the_type) (queue_inside N noted_sent t, tt));
  held_sent = recorded_send _ _ _ HeldOfFour.the_type.to_one (struct_send (shape HeldOfFour.the_type) (held_inside N noted_sent t, tt));
  leave_sent =
      recorded_send _ _ _ LeaveOfFour.the_type.to_one (struct_send (shape LeaveOfFour.the_type) (leave_inside N noted_sent t, tt));
}

four_sent : IsSend LockOfFour.the_row
four_sent =
    let inside = lock_inside N noted_sent in let t = three_tokens in
    let p : IsSend LowPass = t.pass_sent in let h : IsSend HeldOfThree.the_row = t.held_sent in
    recorded_send _ _ _ LockOfFour.the_type.to_one
    (struct_send (shape LockOfFour.the_type) (search (inside, three_sent) depth 12, (search sendable, tt)))

four_shared : IsSync LockOfFour.the_row
four_shared =
    let inside = shared_inside N noted_sent in let t = three_tokens in
    let y : IsSync LowPass = t.pass_shared_is in
    let p : IsSend LowPass = t.pass_sent in let h : IsSend HeldOfThree.the_row = t.held_sent in
    recorded_sync _ _ _ LockOfFour.the_type.to_one
    (struct_sync (shape LockOfFour.the_type) (search (inside, three_shared) depth 12, (search sendable, tt)))

pub four_crosses : Crosses LockOfFour.the_row LowPass QueueOfFour.the_row HeldOfFour.the_row LeaveOfFour.the_row
four_crosses = record { lock_sent = four_sent; lock_shared = four_shared; tokens = four_tokens }
