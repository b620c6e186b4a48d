-- What a contract says of an answer that want of memory may take the place of.
use Rattle.std.specs.Prelude.{◌≡◌, ◌⊎◌}

-- the fact, unless the answer is the one that tells that memory was refused
abbrev pub UnlessMemory : {A : Type 0} → A → A → Type 0 → Type 0
UnlessMemory refused answer Fact = Fact ⊎ (answer ≡ refused)
