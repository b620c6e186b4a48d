-- What a contract sees of a caller of any of the four locks, and what a call on a handle does.
use Rattle.std.specs.Prelude.{◌≡◌, Bool, true, false}
use Rattle.std.specs.declared.option.Option.{Option}
use Rattle.std.specs.declared.option.Option.TheVariants.{None, Some}
use Rattle.lock_callers.specs.Seen.{Seen}
use Rattle.lock_callers.specs.Goes.{Tells, is_idle, is_holding}
use Rattle.lock_callers.specs.declared.standing.Reply.{Reply}
use Rattle.lock_callers.specs.declared.standing.Reply.TheVariants.{Done, Elsewhere}
use Rattle.lock_handles.specs.declared.any.AnyCaller.{AnyCaller}
use Rattle.lock_handles.specs.declared.any.AnyCaller.TheVariants.{Ticket, Mcs, Clh, Hemlock}
use Rattle.lock_handles.specs.declared.any.Kind.{Kind}
use Rattle.lock_handles.specs.declared.any.Kind.TheVariants as of

abbrev pub seen_of : AnyCaller → Seen
seen_of (Ticket c) = c
seen_of (Mcs c) = c
seen_of (Clh c) = c
seen_of (Hemlock c) = c

abbrev pub kind_of : Kind → Seen → AnyCaller
kind_of of.Ticket c = Ticket c
kind_of of.Mcs c = Mcs c
kind_of of.Clh c = Clh c
kind_of of.Hemlock c = Hemlock c

-- which of the four locks it is a caller of
abbrev pub lock_of : AnyCaller → Kind
lock_of (Ticket c) = of.Ticket
lock_of (Mcs c) = of.Mcs
lock_of (Clh c) = of.Clh
lock_of (Hemlock c) = of.Hemlock

-- what `waiters` does with a caller, and what it tells
abbrev pub Waits : Seen → Seen → Option Bool → Type 0
Waits old new told = Tells (is_holding old.standing) old new told

abbrev pub IsSomeThat : {X : Type 0} → Option X → (X → Type 0) → Type 0
IsSomeThat None P = ⊥
IsSomeThat (Some x) P = P x

-- an empty handle stays empty, and the answer says so; else the handle has a caller, with which the call does what it does
abbrev pub HandleDoes : {R : Type 0} → (Seen → Seen → R → Type 0) → Option AnyCaller → Option AnyCaller → Option R → Type 0
HandleDoes does None new answer = (new ≡ None) × (answer ≡ None)
HandleDoes does (Some old) new answer = IsSomeThat new (λ c. IsSomeThat answer (λ r. does (seen_of old) (seen_of c) r))

abbrev pub FreesAt : Bool → AnyCaller → Option AnyCaller → Option Reply → Type 0
FreesAt true old new answer = (new ≡ None) × (answer ≡ Some Done)
FreesAt false old new answer = (new ≡ Some old) × (answer ≡ Some Elsewhere)

-- an idle caller is let go, and the handle is empty; any other stays as it is
abbrev pub HandleFrees : Option AnyCaller → Option AnyCaller → Option Reply → Type 0
HandleFrees None new answer = (new ≡ None) × (answer ≡ None)
HandleFrees (Some old) new answer = FreesAt (is_idle (seen_of old).standing) old new answer
