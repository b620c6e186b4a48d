-- From which standing a call goes, and what it answers.
use Rattle.std.specs.Prelude.{◌≡◌, ◌+◌, ◌<◌, ◌⊎◌, Bool, true, false}
use Rattle.std.specs.declared.option.Option.{Option}
use Rattle.std.specs.declared.option.Option.TheVariants.{None, Some}
use Rattle.lock_rules.specs.Views.{answer_of}
use Rattle.lock_rules.specs.declared.step.Answer.TheVariants.{Open}
use Rattle.lock_callers.specs.Seen.{Seen}
use Rattle.lock_callers.specs.declared.call.Call.{Call}
use Rattle.lock_callers.specs.declared.call.Call.TheVariants.{Begin, Enter, Poll, BeginRelease, PollRelease, MayFree}
use Rattle.lock_callers.specs.declared.standing.Standing.{Standing}
use Rattle.lock_callers.specs.declared.standing.Standing.TheVariants.{Idle, Queued, Holding, Leaving, Spent}
use Rattle.lock_callers.specs.declared.standing.Reply.{Reply}
use Rattle.lock_callers.specs.declared.standing.Reply.TheVariants.{NotYet, Done, Elsewhere}

abbrev pub is_idle : Standing → Bool
is_idle Idle = true
is_idle Queued = false
is_idle Holding = false
is_idle Leaving = false
is_idle Spent = false

abbrev pub is_queued : Standing → Bool
is_queued Idle = false
is_queued Queued = true
is_queued Holding = false
is_queued Leaving = false
is_queued Spent = false

abbrev pub is_holding : Standing → Bool
is_holding Idle = false
is_holding Queued = false
is_holding Holding = true
is_holding Leaving = false
is_holding Spent = false

abbrev pub is_leaving : Standing → Bool
is_leaving Idle = false
is_leaving Queued = false
is_leaving Holding = false
is_leaving Leaving = true
is_leaving Spent = false

-- `here` says that the caller stands where the call goes from. Then it stays one of its lock and goes to `waits`, and the answer is not
-- yet, or to `ends`, and the answer is done. Else nothing changes, and the answer says so
abbrev pub Goes : Bool → Standing → Standing → Seen → Seen → Reply → Type 0
Goes true waits ends old new reply = (new.lock ≡ old.lock) × (new.tested ≡ Open)
    × (((new.standing ≡ waits) × (reply ≡ NotYet)) ⊎ ((new.standing ≡ ends) × (reply ≡ Done)))
Goes false waits ends old new reply = (new ≡ old) × (reply ≡ Elsewhere)

-- not yet is answered only where this call made one load that the token records
abbrev pub LoadedOnce : Seen → Seen → Reply → Type 0
LoadedOnce old new NotYet = new.loads ≡ old.loads + 1
LoadedOnce old new Done = Unit {0}
LoadedOnce old new Elsewhere = Unit {0}

-- not yet is answered only where a load was made since the caller entered the queue
abbrev pub WasLoaded : Seen → Reply → Type 0
WasLoaded new NotYet = 0 < new.loads
WasLoaded new Done = Unit {0}
WasLoaded new Elsewhere = Unit {0}

-- a holder is told by one load, which its token notes; any other caller is told nothing, and nothing changes
abbrev pub Tells : Bool → Seen → Seen → Option Bool → Type 0
Tells true old new None = ⊥
Tells true old new (Some told) = new ≡ record old { loads = old.loads + 1; tested = answer_of told }
Tells false old new told = (new ≡ old) × (told ≡ None)

-- whether a caller may be let go: done from idle
abbrev pub TellsIdle : Bool → Reply → Type 0
TellsIdle true reply = reply ≡ Done
TellsIdle false reply = reply ≡ Elsewhere

-- what each call does with a caller, and what it answers
abbrev pub Begins : Seen → Seen → Reply → Type 0
Begins old new reply = Goes (is_idle old.standing) Queued Holding old new reply

abbrev pub Enters : Seen → Seen → Reply → Type 0
Enters old new reply = Goes (is_idle old.standing) Queued Holding old new reply × WasLoaded new reply

abbrev pub Polls : Seen → Seen → Reply → Type 0
Polls old new reply = Goes (is_queued old.standing) Queued Holding old new reply × LoadedOnce old new reply

abbrev pub BeginsRelease : Seen → Seen → Reply → Type 0
BeginsRelease old new reply = Goes (is_holding old.standing) Leaving Idle old new reply × LoadedOnce old new reply

abbrev pub PollsRelease : Seen → Seen → Reply → Type 0
PollsRelease old new reply = Goes (is_leaving old.standing) Leaving Idle old new reply × LoadedOnce old new reply

abbrev pub Acts : Call → Seen → Seen → Reply → Type 0
Acts Begin old new reply = Begins old new reply
Acts Enter old new reply = Enters old new reply
Acts Poll old new reply = Polls old new reply
Acts BeginRelease old new reply = BeginsRelease old new reply
Acts PollRelease old new reply = PollsRelease old new reply
Acts MayFree old new reply = (new ≡ old) × TellsIdle (is_idle old.standing) reply
