-- The rules on all items of a text together, each by what breaks it. `specs/Rules.antt` of `synth_text` tests the same.
use Rattle.std.specs.Prelude.{◌≡◌, ◌≢◌, ◌⊎◌, ℕ, ◌<◌, List, [], ◌∷◌, ◌++◌, length, Contains, Some, None}
use Rattle.std.specs.List.{AllByRecursion}
use Rattle.synth_text.specs.declared.kind.Kind.{Kind}
use Rattle.synth_text.specs.declared.kind.Kind.TheVariants.{Group, Pu}
use Rattle.synth_text.specs.declared.description.Level.{Level}
use Rattle.synth_text.specs.declared.fault.SynthRule.{SynthRule}
use Rattle.synth_text.specs.declared.fault.SynthRule.TheVariants as rules
use Rattle.synth_text.specs.declared.parts.Nodes.{Nodes}
use Rattle.synth_text.specs.declared.parts.Placed.{Placed}
use Rattle.synth_text.specs.Limits.{level_limit, pu_limit, object_limit}
use Rattle.synth_text.specs.Rules.{description_of, pu_count, object_count}

-- an item gives no level
abbrev pub LacksLevel : Placed → Type 0
LacksLevel item = item.part.level ≡ None

-- an item gives a level of the kind
pub record GivesKind (item : Placed) (kind : Kind) : Type 0 where
  pub level : Level
  pub given : item.part.level ≡ Some level
  pub same : level.kind ≡ kind

-- an item attaches memory
pub record Attaches (item : Placed) : Type 0 where
  pub nodes : Nodes
  pub given : item.part.nodes ≡ Some nodes

-- an item gives a level of a kind, other than Group, that one before it has
pub record RepeatsKind (before : List Placed) (item : Placed) : Type 0 where
  pub kind : Kind
  pub other : Placed
  pub gives : GivesKind item kind
  pub no_group : kind ≢ Group
  pub among : Contains before other
  pub same : GivesKind other kind

-- an item attaches memory behind one that does
pub record RepeatsMemory (before : List Placed) (item : Placed) : Type 0 where
  pub other : Placed
  pub attaches : Attaches item
  pub among : Contains before other
  pub same : Attaches other

abbrev pub Repeats : List Placed → Placed → Type 0
Repeats before item = RepeatsKind before item ⊎ RepeatsMemory before item

-- the first of these items, behind others, that repeats something begins there
abbrev pub FirstRepeat : List Placed → List Placed → ℕ → Type 0
FirstRepeat before [] at = ⊥
FirstRepeat before (item ∷ items) at =
    (Repeats before item × (item.at ≡ at)) ⊎ ((¬ (Repeats before item)) × FirstRepeat (before ++ item ∷ []) items at)

-- the first of these items begins there
abbrev pub BeginAt : List Placed → ℕ → Type 0
BeginAt [] at = ⊥
BeginAt (item ∷ items) at = item.at ≡ at

-- the last item that gives a level begins there and isn't of PUs; or it is of PUs, and the item behind it begins there
pub record EndsWrong (items : List Placed) (at : ℕ) : Type 0 where
  pub before : List Placed
  pub last : Placed
  pub behind : List Placed
  pub kind : Kind
  pub parts : items ≡ before ++ last ∷ behind
  pub gives : GivesKind last kind
  pub no_more : AllByRecursion LacksLevel behind
  pub wrong : ((kind ≢ Pu) × (last.at ≡ at)) ⊎ ((kind ≡ Pu) × BeginAt behind at)

-- there are more PUs, or more objects, than there may be
abbrev pub IsTooLarge : List Placed → Type 0
IsTooLarge items = (pu_limit < pu_count (description_of items)) ⊎ (object_limit < object_count (description_of items))

-- the items break the rule, wherever it stands in the order; the four rules on one item are none of these
abbrev pub Break : List Placed → SynthRule → Type 0
Break items rules.Empty = AllByRecursion LacksLevel items
Break items (rules.RepeatedType at) = FirstRepeat [] items at
Break items (rules.LastNotPu at) = EndsWrong items at
Break items rules.TooManyLevels = level_limit < length (description_of items).levels
Break items rules.TooManyObjects = IsTooLarge items
Break items (rules.BadType at) = ⊥
Break items (rules.BadArity at) = ⊥
Break items (rules.BadAttr at) = ⊥
Break items (rules.BadIndexes at) = ⊥

-- the order of the rules: those on one item go first
abbrev pub order : SynthRule → ℕ
order rules.Empty = 1
order (rules.RepeatedType at) = 2
order (rules.LastNotPu at) = 3
order rules.TooManyLevels = 4
order rules.TooManyObjects = 5
order (rules.BadType at) = 0
order (rules.BadArity at) = 0
order (rules.BadAttr at) = 0
order (rules.BadIndexes at) = 0

-- the items break the rule, and none that goes before it
pub record BreakFirst (items : List Placed) (rule : SynthRule) : Type 0 where
  pub broken : Break items rule
  pub first : (other : SynthRule) → order other < order rule → ¬ (Break items other)

-- the items break no rule
abbrev pub KeepRules : List Placed → Type 0
KeepRules items = (rule : SynthRule) → ¬ (Break items rule)
