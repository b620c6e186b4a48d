-- What `--single` leaves of a set.
use Rattle.std.specs.Prelude.{ℕ, Bool, List, take, if◌then◌else◌}

-- a set, or its first number alone
abbrev pub chosen : (single : Bool) → List ℕ → List ℕ
chosen single set = if single then take 1 set else set
