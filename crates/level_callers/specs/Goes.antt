-- From which standing a call goes, and what it answers.
use Rattle.std.specs.Prelude.{◌≡◌, ℕ, ◌+◌, ◌<◌, ◌⊎◌, Bool, true, false, nat_lt}
use Rattle.keep_local.specs.Shapes.{top_of}
use Rattle.clof_compose.specs.Courses.{course_of}
use Rattle.lock_callers.specs.Goes.{is_idle, is_queued, is_holding, is_leaving}
use Rattle.lock_callers.specs.declared.call.Call.{Call}
use Rattle.lock_callers.specs.declared.call.Call.TheVariants.{Begin, Enter, Poll, BeginRelease, PollRelease, MayFree}
use Rattle.lock_callers.specs.declared.standing.Standing.{Standing}
use Rattle.lock_callers.specs.declared.standing.Standing.TheVariants.{Idle, Queued, Holding, Leaving}
use Rattle.level_callers.specs.Seen.{Seen}
use Rattle.level_callers.specs.declared.reply.Reply.{Reply}
use Rattle.level_callers.specs.declared.reply.Reply.TheVariants.{NotYet, Done, Elsewhere, NoTurn}

-- a caller stays the same one of its lock
pub record IsSame (old new : Seen) : Type 0 where
  pub lock : new.lock ≡ old.lock
  pub caller : new.caller ≡ old.caller
  pub allowed : new.allowed ≡ old.allowed

-- it goes to `waits`, and the answer is not yet, or to `ends`, having made so many turns, and the answer is done
abbrev pub Steps : Standing → Standing → ℕ → Seen → Seen → Reply → Type 0
Steps waits ends turns old new reply = IsSame old new
    × (((new.standing ≡ waits) × (new.made ≡ old.made) × (reply ≡ NotYet))
    ⊎ ((new.standing ≡ ends) × (new.made ≡ old.made + turns) × (reply ≡ Done)))

-- nothing changes, and the answer says why
abbrev pub Stays : Reply → Seen → Seen → Reply → Type 0
Stays why old new reply = (new ≡ old) × (reply ≡ why)

-- `here` says that the caller stands where the call goes from
abbrev pub Goes : Bool → Standing → Standing → ℕ → Seen → Seen → Reply → Type 0
Goes true waits ends turns old new reply = Steps waits ends turns old new reply
Goes false waits ends turns old new reply = Stays Elsewhere old new reply

-- a call that enters asks besides that the caller may make another turn
abbrev pub Enters : Bool → Bool → Seen → Seen → Reply → Type 0
Enters true true old new reply = Steps Queued Holding 1 old new reply
Enters true false old new reply = Stays NoTurn old new reply
Enters false left old new reply = Stays Elsewhere old new reply

-- not yet is answered only where the caller is queued higher now, or where this call made one load there that the token records
abbrev pub HasClimbed : Seen → Seen → Reply → Type 0
HasClimbed old new NotYet = (old.level < new.level) ⊎ ((new.level ≡ old.level) × (new.loads ≡ old.loads + 1))
HasClimbed old new Done = Unit {0}
HasClimbed old new Elsewhere = Unit {0}
HasClimbed old new NoTurn = Unit {0}

-- not yet is answered only where the caller is queued above its lowest level, or has made a load there since it entered
abbrev pub HasLooked : Seen → Reply → Type 0
HasLooked new NotYet = (0 < new.level) ⊎ (0 < new.loads)
HasLooked new Done = Unit {0}
HasLooked new Elsewhere = Unit {0}
HasLooked new NoTurn = Unit {0}

-- not yet is answered at the lowest level only by a load, which comes behind one that asked for waiters where there are higher levels
abbrev pub HasBegunToLeave : Seen → Seen → Reply → Type 0
HasBegunToLeave old new NotYet =
    (new.level ≡ 0 → top_of (course_of new.lock).shape ≡ 0 → new.loads ≡ old.loads + 1)
    × (new.level ≡ 0 → 0 < top_of (course_of new.lock).shape → new.loads ≡ old.loads + 2)
HasBegunToLeave old new Done = Unit {0}
HasBegunToLeave old new Elsewhere = Unit {0}
HasBegunToLeave old new NoTurn = Unit {0}

-- not yet is answered only where the caller leaves lower now, or where this call made one load there
abbrev pub HasDescended : Seen → Seen → Reply → Type 0
HasDescended old new NotYet = (new.level < old.level) ⊎ ((new.level ≡ old.level) × (new.loads ≡ old.loads + 1))
HasDescended old new Done = Unit {0}
HasDescended old new Elsewhere = Unit {0}
HasDescended old new NoTurn = Unit {0}

-- what each call does with a caller, and what it answers
abbrev pub Begins : Seen → Seen → Reply → Type 0
Begins old new reply = Enters (is_idle old.standing) (nat_lt old.made old.allowed) old new reply

abbrev pub Polls : Seen → Seen → Reply → Type 0
Polls old new reply = Goes (is_queued old.standing) Queued Holding 1 old new reply

abbrev pub BeginsRelease : Seen → Seen → Reply → Type 0
BeginsRelease old new reply = Goes (is_holding old.standing) Leaving Idle 0 old new reply

abbrev pub PollsRelease : Seen → Seen → Reply → Type 0
PollsRelease old new reply = Goes (is_leaving old.standing) Leaving Idle 0 old new reply

-- whether a caller may be let go: done from idle
abbrev pub TellsIdle : Bool → Reply → Type 0
TellsIdle true reply = reply ≡ Done
TellsIdle false reply = reply ≡ Elsewhere

abbrev pub Acts : Call → Seen → Seen → Reply → Type 0
Acts Begin old new reply = Begins old new reply
Acts Enter old new reply = Begins old new reply × HasLooked new reply
Acts Poll old new reply = Polls old new reply × HasClimbed old new reply
Acts BeginRelease old new reply = BeginsRelease old new reply × HasBegunToLeave old new reply
Acts PollRelease old new reply = PollsRelease old new reply × HasDescended old new reply
Acts MayFree old new reply = (new ≡ old) × TellsIdle (is_idle old.standing) reply
