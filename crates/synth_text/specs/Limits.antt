-- How large a description may be (this project's profile).
use Rattle.std.specs.Prelude.{ℕ}

-- how many levels it has at most
abbrev pub level_limit : ℕ
level_limit = 16

-- how many PUs it has at most
abbrev pub pu_limit : ℕ
pu_limit = 4096

-- how many objects it has at most, Machine and the nodes of memory included
abbrev pub object_limit : ℕ
object_limit = 16384
