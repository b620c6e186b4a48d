-- An idle pass may be shared between threads: it owns a view alone, and a view may go to another thread.
use denote.RattleType.{RattleType}
use denote.Param.Send.{IsSync, part_keyless, sendable}
use Rattle.atomic_table.proofs.badge.Badge.TheSendSync as badge
use Rattle.atomic_table.specs.contracts.badge.Badge as Badge
use Rattle.lock_rules.specs.contracts.tokens.Pass as Pass
use Rattle.lock_rules.specs.contracts.view.View as View

badge_shared : (V : RattleType) → IsSync (Badge.the_row V)
badge_shared V = record { shared = λ d b o κ q. part_keyless (Badge.the_row V) (badge.the_send V) q d b o }

pub pass_shared : IsSync Pass.the_row
pass_shared = let view = badge_shared View.the_row in search sendable depth 20
