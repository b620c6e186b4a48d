-- What a step makes of a caller.
use Rattle.std.specs.Prelude.{◌≡◌, ◌⊎◌, ◌+◌, ◌∷◌, true}
use Rattle.clof_compose.specs.Calls.{HasClimbed, HasDescended}
use Rattle.clof_compose.specs.Meanings.{Climb, Descent}
use Rattle.mc_text.specs.Commands.{commands_left}
use Rattle.mc_text.specs.Request.{WholeCommand}
use Rattle.walked_runner.specs.declared.walker.State.{State}
use Rattle.walked_runner.specs.declared.walker.State.TheVariants.{Idle, Queued, Holding, Leaving, Stepping}
use Rattle.walked_runner.specs.declared.walker.Task.{Task}
use Rattle.walked_runner.specs.declared.walker.Walker.{Walker}

-- the caller has no command left: it stopped, or it has made all its turns
abbrev pub HasNone : Task → Type 0
HasNone t = (t.stopped ≡ true) ⊎ (t.share.made ≡ t.share.quota)

-- the share has counted one turn more, and all else is the same
abbrev pub HasBegunOne : Task → Task → Type 0
HasBegunOne t t' = t' ≡ record t { share = record t.share { made = t.share.made + 1 } }

-- the next command was given, and the share is the same
abbrev pub HasGivenOne : Task → Task → Type 0
HasGivenOne t t' = (t'.share ≡ t.share) × ((command : WholeCommand) × (commands_left t.commands ≡ command ∷ commands_left t'.commands))

module _ {P Q H L : Type 0} where
  -- a caller that was idle: it stays where it has no command left, and else it is queued or holds
  abbrev pub FromIdle : State P Q H L → Task → Task → Type 0
  FromIdle (Idle p) t t' = HasNone t × (t' ≡ t)
  FromIdle (Queued q) t t' = (¬ HasNone t) × (t' ≡ t)
  FromIdle (Holding h) t t' = (¬ HasNone t) × HasBegunOne t t'
  FromIdle (Leaving l) t t' = ⊥
  FromIdle Stepping t t' = ⊥

  -- one that was queued: it waits higher or by one load more, or it holds
  abbrev pub FromQueued : (Q → Climb) → Q → State P Q H L → Task → Task → Type 0
  FromQueued climb q (Idle p) t t' = ⊥
  FromQueued climb q (Queued q') t t' = HasClimbed (climb q) (climb q') × (t' ≡ t)
  FromQueued climb q (Holding h) t t' = HasBegunOne t t'
  FromQueued climb q (Leaving l) t t' = ⊥
  FromQueued climb q Stepping t t' = ⊥

  -- one that held: it has given its next command, and leaves or has left
  abbrev pub FromHolding : State P Q H L → Task → Task → Type 0
  FromHolding (Idle p) t t' = HasGivenOne t t'
  FromHolding (Queued q) t t' = ⊥
  FromHolding (Holding h) t t' = ⊥
  FromHolding (Leaving l) t t' = HasGivenOne t t'
  FromHolding Stepping t t' = ⊥

  -- one that was leaving: it leaves lower or by one load more, or it has left
  abbrev pub FromLeaving : (L → Descent) → L → State P Q H L → Type 0
  FromLeaving descent l (Idle p) = Unit {0}
  FromLeaving descent l (Queued q) = ⊥
  FromLeaving descent l (Holding h) = ⊥
  FromLeaving descent l (Leaving l') = HasDescended (descent l) (descent l')
  FromLeaving descent l Stepping = ⊥

  module _ (climb : Q → Climb) (descent : L → Descent) where
    -- what a caller in this state with this task has become
    abbrev pub HasMoved : State P Q H L → Task → Walker P Q H L → Type 0
    HasMoved (Idle p) t w = FromIdle w.state t w.task
    HasMoved (Queued q) t w = FromQueued climb q w.state t w.task
    HasMoved (Holding h) t w = FromHolding w.state t w.task
    HasMoved (Leaving l) t w = FromLeaving descent l w.state × (w.task ≡ t)
    HasMoved Stepping t w = ⊥

    -- the caller has made its step of a round
    abbrev pub HasStepped : Walker P Q H L → Walker P Q H L → Type 0
    HasStepped old new = HasMoved old.state old.task new
