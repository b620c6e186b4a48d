-- When an item expires, by the moment at which it is stored or touched.
-- By memcached's protocol.txt, with a moment in the place of its clock.
use Rattle.std.specs.Prelude.{ℕ, ◌+◌, ℤ, pos, int_lt, unsigned_abs, Bool, true, false, nat_le, ◌==◌, if◌then◌else◌}
use Rattle.kv_history.specs.declared.expiry.Expiry.{Expiry}
use Rattle.kv_history.specs.declared.expiry.Expiry.TheVariants.{Never, At}

-- the greatest expiry time that counts from the moment on: 30 days, in seconds
abbrev pub relative_limit : ℕ
relative_limit = 2592000

-- an expiry time without a sign: 0 is never, up to the limit it counts from the moment on, and beyond that it is a moment itself
abbrev pub expiry_behind : ℕ → ℕ → Expiry
expiry_behind moment time = if time == 0 then Never else if nat_le time relative_limit then At (moment + time) else At time

-- a negative expiry time is the moment itself: such an item expires at once
abbrev pub expiry_of : ℕ → ℤ → Expiry
expiry_of moment exptime = if int_lt exptime (pos 0) then At moment else expiry_behind moment (unsigned_abs exptime)

abbrev pub same_expiry : Expiry → Expiry → Bool
same_expiry Never Never = true
same_expiry Never (At time) = false
same_expiry (At time) Never = false
same_expiry (At time) (At other) = time == other

-- the expiry is this number
abbrev pub is_time : ℕ → Expiry → Bool
is_time time Never = false
is_time time (At other) = time == other

-- the expiry is a number, and at most the moment
abbrev pub is_due : ℕ → Expiry → Bool
is_due moment Never = false
is_due moment (At time) = nat_le time moment
