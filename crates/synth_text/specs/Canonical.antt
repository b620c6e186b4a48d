-- The canonical text of a description.
use Rattle.std.specs.Prelude.{ℕ, List, [], ◌∷◌, ◌++◌, map, take, drop, codes, decimal, Option, Some, None}
use Rattle.std.specs.List.{join_with_byte}
use Rattle.synth_text.specs.declared.description.Loop.{Loop}
use Rattle.synth_text.specs.declared.description.Indexes.{Indexes}
use Rattle.synth_text.specs.declared.description.Indexes.TheVariants as indexes
use Rattle.synth_text.specs.declared.description.Level.{Level}
use Rattle.synth_text.specs.declared.description.Memory.{Memory}
use Rattle.synth_text.specs.declared.description.Description.{Description}
use Rattle.synth_text.specs.Kinds.{long_name_of}

-- texts with a byte behind each
abbrev pub joined_before : ℕ → List (List ℕ) → List ℕ
joined_before byte [] = []
joined_before byte (text ∷ texts) = join_with_byte byte (text ∷ texts) ++ byte ∷ []

-- texts with a byte in front of each
abbrev pub joined_behind : ℕ → List (List ℕ) → List ℕ
joined_behind byte [] = []
joined_behind byte (text ∷ texts) = byte ∷ join_with_byte byte (text ∷ texts)

-- `step*count`
abbrev pub loop_text : Loop → List ℕ
loop_text given = decimal given.step ++ 42 ∷ decimal given.count

-- a key, `=` and a size in bytes, where there is one
abbrev pub size_texts : List ℕ → Option ℕ → List (List ℕ)
size_texts key None = []
size_texts key (Some size) = (key ++ 61 ∷ decimal size) ∷ []

-- `indexes=` and the list or the loops, where they are given
abbrev pub indexes_text : Indexes → List ℕ
indexes_text indexes.Ordered = []
indexes_text (indexes.List numbers) = codes "indexes=" ++ join_with_byte 44 (map decimal numbers)
indexes_text (indexes.Loops loops) = codes "indexes=" ++ join_with_byte 58 (map loop_text loops)

abbrev pub indexes_texts : Indexes → List (List ℕ)
indexes_texts indexes.Ordered = []
indexes_texts (indexes.List numbers) = indexes_text (indexes.List numbers) ∷ []
indexes_texts (indexes.Loops loops) = indexes_text (indexes.Loops loops) ∷ []

-- the attributes in parentheses with one space between them, if there are any
abbrev pub in_parentheses : List (List ℕ) → List ℕ
in_parentheses [] = []
in_parentheses (first ∷ others) = (40 ∷ join_with_byte 32 (first ∷ others)) ++ 41 ∷ []

-- a level: its long name, `:`, its arity, and the attributes that are given
abbrev pub level_text : Level → List ℕ
level_text level =
    (long_name_of level.kind ++ 58 ∷ decimal level.arity)
    ++ in_parentheses (size_texts (codes "size") level.size ++ indexes_texts level.indexes)

-- the memory, in brackets
abbrev pub memory_text : Memory → List ℕ
memory_text memory =
    (codes "[NUMANode" ++ in_parentheses (size_texts (codes "memory") memory.size ++ indexes_texts memory.indexes)) ++ 93 ∷ []

-- the items: the levels, and the memory directly behind the level that carries it
abbrev pub item_texts : List Level → Option Memory → List (List ℕ)
item_texts levels None = map level_text levels
item_texts levels (Some memory) =
    map level_text (take memory.above levels) ++ memory_text memory ∷ map level_text (drop memory.above levels)

-- the items with one space between them
unfoldable pub canonical : Description → List ℕ
canonical described = join_with_byte 32 (item_texts described.levels described.memory)
