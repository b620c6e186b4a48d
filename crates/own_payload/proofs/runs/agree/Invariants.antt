use Rattle.std.proofs.Common.{◌≡◌, ◌++◌, List, vec_len}
use Rattle.std.specs.Prelude.{All}
use Rattle.keep_local.specs.States.{IsShareOf, ShareState}
use Rattle.own_payload.proofs.runs.agree.Given as goal

-- the trail is as it was, and the shares that have left the list are counted
abbrev pub invariant-loop-share : goal.invariant-loop-share
invariant-loop-share l = record {
  trail : l.trail ≡ l.fn.trail;
  left : (gone : List ShareState) × (l.fn.shares.items ≡ l.shares.items ++ gone) × All (IsShareOf l.fn.trail) gone;
}

abbrev pub decreases-loop-share : goal.decreases-loop-share
decreases-loop-share l = vec_len l.shares
