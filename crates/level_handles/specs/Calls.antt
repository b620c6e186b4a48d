-- What a contract sees of a caller of a lock of any depth, and what a call on a handle does.
use Rattle.std.specs.Prelude.{◌≡◌, ℕ, Bool, true, false}
use Rattle.std.specs.declared.option.Option.{Option}
use Rattle.std.specs.declared.option.Option.TheVariants.{None, Some}
use Rattle.lock_callers.specs.Goes.{is_idle}
use Rattle.lock_handles.specs.Calls.{IsSomeThat}
use Rattle.level_callers.specs.Seen.{Seen}
use Rattle.level_callers.specs.declared.reply.Reply.{Reply}
use Rattle.level_callers.specs.declared.reply.Reply.TheVariants.{Done, Elsewhere}
use Rattle.level_handles.specs.declared.any_depth.AnyDepth.{AnyDepth}
use Rattle.level_handles.specs.declared.any_depth.AnyDepth.TheVariants.{One, Two, Three, Four, Five}

abbrev pub seen_of : AnyDepth → Seen
seen_of (One c) = c
seen_of (Two c) = c
seen_of (Three c) = c
seen_of (Four c) = c
seen_of (Five c) = c

-- how many levels its lock has
abbrev pub levels_of : AnyDepth → ℕ
levels_of (One c) = 1
levels_of (Two c) = 2
levels_of (Three c) = 3
levels_of (Four c) = 4
levels_of (Five c) = 5

-- an empty handle stays empty, and the answer says so; else the handle has a caller, with which the call does what it does
abbrev pub HandleDoes : (Seen → Seen → Reply → Type 0) → Option AnyDepth → Option AnyDepth → Option Reply → Type 0
HandleDoes does None new answer = (new ≡ None) × (answer ≡ None)
HandleDoes does (Some old) new answer = IsSomeThat new (λ c. IsSomeThat answer (λ r. does (seen_of old) (seen_of c) r))

abbrev pub FreesAt : Bool → AnyDepth → Option AnyDepth → Option Reply → Type 0
FreesAt true old new answer = (new ≡ None) × (answer ≡ Some Done)
FreesAt false old new answer = (new ≡ Some old) × (answer ≡ Some Elsewhere)

-- an idle caller is let go, and the handle is empty; any other stays as it is
abbrev pub HandleFrees : Option AnyDepth → Option AnyDepth → Option Reply → Type 0
HandleFrees None new answer = (new ≡ None) × (answer ≡ None)
HandleFrees (Some old) new answer = FreesAt (is_idle (seen_of old).standing) old new answer
