-- What every description keeps that a text describes.
use Rattle.std.specs.Prelude.{◌≡◌, ◌≢◌, ◌⊎◌, ℕ, ◌^◌, ◌<◌, ◌≤◌, true, List, [], ◌∷◌, length, IfSome}
use Rattle.std.specs.List.{AllByRecursion}
use Rattle.synth_text.specs.declared.kind.Kind.TheVariants.{Machine, Group, Pu, NumaNode}
use Rattle.synth_text.specs.declared.description.Loop.{Loop}
use Rattle.synth_text.specs.declared.description.Indexes.{Indexes}
use Rattle.synth_text.specs.declared.description.Indexes.TheVariants as indexes
use Rattle.synth_text.specs.declared.description.Level.{Level}
use Rattle.synth_text.specs.declared.description.Memory.{Memory}
use Rattle.synth_text.specs.declared.description.Description.{Description}
use Rattle.synth_text.specs.Kinds.{is_cache}
use Rattle.synth_text.specs.Limits.{level_limit, pu_limit, object_limit}
use Rattle.synth_text.specs.Rules.{pu_count, object_count}

-- a loop that a text can write
pub record IsSoundLoop (given : Loop) : Type 0 where
  pub step : (1 ≤ given.step) × (given.step < 2 ^ 32)
  pub count : (1 ≤ given.count) × (given.count < 2 ^ 32)

-- no numbers, or one number or loop at least
abbrev pub AreSoundIndexes : Indexes → Type 0
AreSoundIndexes indexes.Ordered = Unit {0}
AreSoundIndexes (indexes.List numbers) = (0 < length numbers) × AllByRecursion (λ number. number < 2 ^ 32) numbers
AreSoundIndexes (indexes.Loops loops) = (0 < length loops) × AllByRecursion IsSoundLoop loops

-- a level that an item can give
pub record IsSoundLevel (level : Level) : Type 0 where
  pub no_machine : level.kind ≢ Machine
  pub no_node : level.kind ≢ NumaNode
  pub arity : (1 ≤ level.arity) × (level.arity < 2 ^ 32)
  pub size : IfSome level.size (λ size. (is_cache level.kind ≡ true) × (size < 2 ^ 64))
  pub given : AreSoundIndexes level.indexes
  pub indexed : level.kind ≢ Pu → level.indexes ≡ indexes.Ordered

-- No level below one is of its kind, unless that is Group.
abbrev pub KindsDiffer : List Level → Type 0
KindsDiffer [] = Unit {0}
KindsDiffer (level ∷ below) = ((level.kind ≡ Group) ⊎ AllByRecursion (λ other. other.kind ≢ level.kind) below) × KindsDiffer below

-- the last level is of PUs
abbrev pub EndsInPus : List Level → Type 0
EndsInPus [] = ⊥
EndsInPus (level ∷ []) = level.kind ≡ Pu
EndsInPus (level ∷ next ∷ below) = EndsInPus (next ∷ below)

-- memory that is attached above the last of so many levels
pub record IsSoundMemory (levels : ℕ) (memory : Memory) : Type 0 where
  pub above : memory.above < levels
  pub size : IfSome memory.size (λ size. size < 2 ^ 64)
  pub given : AreSoundIndexes memory.indexes

pub record IsSound (described : Description) : Type 0 where
  pub few : length described.levels ≤ level_limit
  pub levels : AllByRecursion IsSoundLevel described.levels
  pub differ : KindsDiffer described.levels
  pub ends : EndsInPus described.levels
  pub memory : IfSome described.memory (IsSoundMemory (length described.levels))
  pub pus : pu_count described ≤ pu_limit
  pub objects : object_count described ≤ object_limit
