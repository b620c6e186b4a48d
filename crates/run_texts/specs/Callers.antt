-- The callers of a run, each with its section.
use Rattle.std.specs.Prelude.{ℕ, List}

-- how many callers a run may have
abbrev pub caller_limit : ℕ
caller_limit = 256

-- a section with its caller's PU
pub record Placed : Type 0 where
  pub pu : ℕ
  pub bytes : List ℕ
