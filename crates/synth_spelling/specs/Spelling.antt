-- How items are spelled: of which bytes an item is made that says this or that. `specs/Parts.antt` tells the same by reading an item
-- from the left; the laws say that the two agree.
use Rattle.std.specs.Prelude.{
  ◌≡◌,
  ◌≢◌,
  ◌⊎◌,
  ◌↔◌,
  ℕ,
  ◌<◌,
  ◌≤◌,
  ◌*◌,
  ◌-◌,
  ◌^◌,
  Bool,
  true,
  false,
  List,
  [],
  ◌∷◌,
  ◌++◌,
  codes,
  length,
  drop,
  Contains,
  Option,
  Some,
  None,
  Ok,
}
use Rattle.std.specs.Char.{is_ascii_alphanumeric, is_ascii_digit}
use Rattle.std.specs.List.{list_all, join_with_byte, slice_split}
use Rattle.std.specs.Str.Parse.{IsNumeral, digits_value}
use Rattle.byte_text.specs.Classes.{is_white}
use Rattle.byte_text.specs.Cuts.{IsCutAt}
use Rattle.synth_text.specs.declared.kind.Kind.{Kind}
use Rattle.synth_text.specs.declared.kind.Kind.TheVariants.{Machine, Group, NumaNode}
use Rattle.synth_text.specs.declared.name.Name.{Name}
use Rattle.synth_text.specs.declared.name.Name.TheVariants as names
use Rattle.synth_text.specs.declared.attributes.Attributes.{Attributes}
use Rattle.synth_text.specs.declared.attributes.Key.{Key}
use Rattle.synth_text.specs.declared.attributes.Key.TheVariants as keys
use Rattle.synth_text.specs.declared.description.Loop.{Loop}
use Rattle.synth_text.specs.declared.description.Indexes.{Indexes}
use Rattle.synth_text.specs.declared.description.Indexes.TheVariants as indexes
use Rattle.synth_text.specs.declared.description.Description.{Description}
use Rattle.synth_text.specs.declared.items.Item.{Item}
use Rattle.synth_text.specs.declared.parts.Part.{Part}
use Rattle.synth_text.specs.declared.parts.Placed.{Placed}
use Rattle.synth_text.specs.Names.{name_of}
use Rattle.synth_text.specs.Tables.{entry_of}
use Rattle.synth_text.specs.Sizes.{units, size_of}
use Rattle.synth_text.specs.IndexTexts.{indexes_of}
use Rattle.synth_text.specs.Attributes.{takes, words_of, no_attributes, attributes_in}
use Rattle.synth_text.specs.Items.{AreItems, body_of}
use Rattle.synth_text.specs.Parts.{untyped_kind, level_part, memory_part, level_of, memory_of}
use Rattle.synth_text.specs.Rules.{description_of}
use Rattle.synth_text.specs.Descriptions.{level_items, Describes}
use Rattle.synth_spelling.specs.Together.{KeepRules}

-- ---- heads

-- a decimal numeral of a number from `low` to `high`
pub record IsNumber (low high number : ℕ) (text : List ℕ) : Type 0 where
  pub numeral : IsNumeral 10 text
  pub value : digits_value 10 text ≡ number
  pub above : low ≤ number
  pub below : number ≤ high

-- a name of a level's kind; the digits behind `group` are ignored, and no level is a Machine
abbrev pub NamesLevel : Option Name → Kind → Type 0
NamesLevel None kind = ⊥
NamesLevel (Some (names.Kind named)) kind = (named ≡ kind) × (kind ≢ Machine)
NamesLevel (Some (names.Group number)) kind = Group ≡ kind

-- `name:arity`
pub record SpellsNamed (head : List ℕ) (kind : Kind) (arity : ℕ) : Type 0 where
  pub name : List ℕ
  pub numeral : List ℕ
  pub cut : IsCutAt 58 head name numeral
  pub named : NamesLevel (name_of name) kind
  pub number : IsNumber 1 (2 ^ 32 - 1) arity numeral

-- an arity alone, of a level whose kind its place gives
pub record SpellsBare (untyped : Kind) (head : List ℕ) (kind : Kind) (arity : ℕ) : Type 0 where
  pub lacks : ¬ (Contains head 58)
  pub placed : untyped ≡ kind
  pub number : IsNumber 1 (2 ^ 32 - 1) arity head

abbrev pub SpellsHead : Kind → List ℕ → Kind → ℕ → Type 0
SpellsHead untyped head kind arity = SpellsNamed head kind arity ⊎ SpellsBare untyped head kind arity

-- ---- attributes

abbrev pub key_text : Key → List ℕ
key_text keys.Size = codes "size"
key_text keys.Memory = codes "memory"
key_text keys.Indexes = codes "indexes"

-- no byte of the text's front passes the test
abbrev pub Stops : (ℕ → Bool) → List ℕ → Type 0
Stops test [] = Unit {0}
Stops test (byte ∷ bytes) = test byte ≡ false

-- digits as far as they go, and a unit, without regard to case; the size is below 2^64
pub record SpellsSize (text : List ℕ) (bytes : ℕ) : Type 0 where
  pub numeral : List ℕ
  pub suffix : List ℕ
  pub number : ℕ
  pub unit : ℕ
  pub parts : text ≡ numeral ++ suffix
  pub counted : IsNumber 0 (2 ^ 64 - 1) number numeral
  pub whole : Stops is_ascii_digit suffix
  pub named : entry_of units suffix ≡ Some unit
  pub product : number * unit ≡ bytes
  pub small : bytes < 2 ^ 64

-- texts that spell things, one each
abbrev pub SpellEach : {X : Type 0} → (X → List ℕ → Type 0) → List X → List (List ℕ) → Type 0
SpellEach Spells [] [] = Unit {0}
SpellEach Spells [] (piece ∷ pieces) = ⊥
SpellEach Spells (x ∷ xs) [] = ⊥
SpellEach Spells (x ∷ xs) (piece ∷ pieces) = Spells x piece × SpellEach Spells xs pieces

-- things, one at least, with a byte between each two
pub record SpellJoined {X : Type 0} (Spells : X → List ℕ → Type 0) (byte : ℕ) (text : List ℕ) (given : List X) : Type 0 where
  pub pieces : List (List ℕ)
  pub some : 0 < length pieces
  pub joined : join_with_byte byte pieces ≡ text
  pub each : SpellEach Spells given pieces

-- a number of a list
abbrev pub SpellsIndex : ℕ → List ℕ → Type 0
SpellsIndex number text = IsNumber 0 (2 ^ 32 - 1) number text

-- `step*count`
pub record SpellsLoop (given : Loop) (text : List ℕ) : Type 0 where
  pub step : List ℕ
  pub count : List ℕ
  pub cut : IsCutAt 42 text step count
  pub stepped : IsNumber 1 (2 ^ 32 - 1) given.step step
  pub counted : IsNumber 1 (2 ^ 32 - 1) given.count count

-- a list `n,n,..`, or loops `s*n:s*n:..`
abbrev pub SpellsIndexes : List ℕ → Indexes → Type 0
SpellsIndexes text indexes.Ordered = ⊥
SpellsIndexes text (indexes.List numbers) = SpellJoined SpellsIndex 44 text numbers
SpellsIndexes text (indexes.Loops loops) = SpellJoined SpellsLoop 58 text loops

-- a value of a key: a size, or a list or loops
abbrev pub IsValue : Key → List ℕ → Type 0
IsValue keys.Size value = (bytes : ℕ) × SpellsSize value bytes
IsValue keys.Memory value = (bytes : ℕ) × SpellsSize value bytes
IsValue keys.Indexes value = (given : Indexes) × SpellsIndexes value given

-- the word of a key and a value
abbrev pub word_of : Key → List ℕ → List ℕ
word_of key value = key_text key ++ 61 ∷ value

-- no word has the key
abbrev pub HaveNo : Key → List (List ℕ) → Type 0
HaveNo key words = (value : List ℕ) → ¬ (Contains words (word_of key value))

-- a word `key=value` behind others: the kind takes the key, which none of the others has
pub record IsWord (kind : Kind) (before : List (List ℕ)) (word : List ℕ) : Type 0 where
  pub key : Key
  pub value : List ℕ
  pub parts : word ≡ word_of key value
  pub taken : takes kind key ≡ true
  pub new : HaveNo key before
  pub valued : IsValue key value

abbrev pub AreWords : Kind → List (List ℕ) → List (List ℕ) → Type 0
AreWords kind before [] = Unit {0}
AreWords kind before (word ∷ words) = IsWord kind before word × AreWords kind (before ++ word ∷ []) words

-- what the word of a key spells, or nothing where no word has it
abbrev pub SaysSize : Key → List (List ℕ) → Option ℕ → Type 0
SaysSize key words None = HaveNo key words
SaysSize key words (Some bytes) = (value : List ℕ) × Contains words (word_of key value) × SpellsSize value bytes

abbrev pub SaysIndexes : List (List ℕ) → Indexes → Type 0
SaysIndexes words indexes.Ordered = HaveNo keys.Indexes words
SaysIndexes words (indexes.List numbers) =
    (value : List ℕ) × Contains words (word_of keys.Indexes value) × SpellsIndexes value (indexes.List numbers)
SaysIndexes words (indexes.Loops loops) =
    (value : List ℕ) × Contains words (word_of keys.Indexes value) × SpellsIndexes value (indexes.Loops loops)

-- the words say the attributes
pub record SayAttributes (words : List (List ℕ)) (attributes : Attributes) : Type 0 where
  pub size : SaysSize keys.Size words attributes.size
  pub memory : SaysSize keys.Memory words attributes.memory
  pub indexes : SaysIndexes words attributes.indexes

-- words with gaps of white space between them, which say the attributes
pub record SpellsWords (kind : Kind) (text : List ℕ) (attributes : Attributes) : Type 0 where
  pub words : AreWords kind [] (words_of (slice_split is_white text))
  pub say : SayAttributes (words_of (slice_split is_white text)) attributes

-- what stands behind a `(`: words up to the first `)`, and white space behind it
pub record SpellsEnclosed (kind : Kind) (text : List ℕ) (attributes : Attributes) : Type 0 where
  pub inner : List ℕ
  pub behind : List ℕ
  pub cut : IsCutAt 41 text inner behind
  pub blank : list_all is_white behind ≡ true
  pub words : SpellsWords kind inner attributes

abbrev pub SpellsAttributes : Kind → Option (List ℕ) → Attributes → Type 0
SpellsAttributes kind None attributes = no_attributes ≡ attributes
SpellsAttributes kind (Some text) attributes = SpellsEnclosed kind text attributes

-- ---- items

-- what stands before the first such byte, and what stands behind it, where there is one
abbrev pub IsFront : ℕ → List ℕ → List ℕ → Option (List ℕ) → Type 0
IsFront byte text front None = (¬ (Contains text byte)) × (text ≡ front)
IsFront byte text front (Some behind) = IsCutAt byte text front behind

-- a level item: a head, and attributes behind the first `(`, where there is one
pub record SpellsLevel (untyped : Kind) (text : List ℕ) (part : Part) : Type 0 where
  pub head : List ℕ
  pub given : Option (List ℕ)
  pub kind : Kind
  pub arity : ℕ
  pub attributes : Attributes
  pub front : IsFront 40 text head given
  pub spelled : SpellsHead untyped head kind arity
  pub attributed : SpellsAttributes kind given attributes
  pub says : level_part kind arity attributes ≡ part

-- what follows a name in brackets: white space alone, or a `(` and what stands behind it
abbrev pub Opens : List ℕ → Option (List ℕ) → Type 0
Opens text None = list_all is_white text ≡ true
Opens text (Some behind) = text ≡ 40 ∷ behind

-- a memory item: between its first byte, a `[`, and the first `]`, white space, a name of NUMANode, and attributes or white space
pub record SpellsMemory (text : List ℕ) (part : Part) : Type 0 where
  pub inner : List ℕ
  pub behind : List ℕ
  pub gap : List ℕ
  pub name : List ℕ
  pub rest : List ℕ
  pub given : Option (List ℕ)
  pub attributes : Attributes
  pub cut : IsCutAt 93 (drop 1 text) inner behind
  pub parts : inner ≡ gap ++ (name ++ rest)
  pub blank : list_all is_white gap ≡ true
  pub letters : list_all is_ascii_alphanumeric name ≡ true
  pub whole : Stops is_ascii_alphanumeric rest
  pub named : name_of name ≡ Some (names.Kind NumaNode)
  pub opened : Opens rest given
  pub attributed : SpellsAttributes NumaNode given attributes
  pub says : memory_part attributes ≡ part

-- ---- texts

-- an item with so many level items behind it
abbrev pub SpellsItem : List ℕ → Bool → ℕ → Part → Type 0
SpellsItem body true behind part = SpellsMemory body part
SpellsItem body false behind part = SpellsLevel (untyped_kind behind) body part

-- items, each with the place at which it begins
abbrev pub SpellItems : List ℕ → List Item → List Placed → Type 0
SpellItems text [] [] = Unit {0}
SpellItems text [] (part ∷ parts) = ⊥
SpellItems text (item ∷ items) [] = ⊥
SpellItems text (item ∷ items) (part ∷ parts) =
    (item.start ≡ part.at) × SpellsItem (body_of text item) item.is_memory (level_items items) part.part × SpellItems text items parts

-- a list of items with gaps between them, which spell parts that break no rule together and make up the description
pub record SpellsDescription (text : List ℕ) (described : Description) : Type 0 where
  pub items : List Item
  pub parts : List Placed
  pub cut : AreItems text 0 items
  pub spelled : SpellItems text items parts
  pub kept : KeepRules parts
  pub says : description_of parts ≡ described

-- ---- the laws

abbrev pub SizesAreSpelled : Type 0
SizesAreSpelled = (text : List ℕ) (bytes : ℕ) → (size_of text ≡ Some bytes) ↔ SpellsSize text bytes

abbrev pub IndexesAreSpelled : Type 0
IndexesAreSpelled = (text : List ℕ) (given : Indexes) → (indexes_of text ≡ Some given) ↔ SpellsIndexes text given

abbrev pub AttributesAreSpelled : Type 0
AttributesAreSpelled = (kind : Kind) (text : List ℕ) (attributes : Attributes) → (attributes_in kind text ≡ Ok attributes)
    ↔ SpellsWords kind text attributes

abbrev pub LevelItemsAreSpelled : Type 0
LevelItemsAreSpelled = (untyped : Kind) (text : List ℕ) (part : Part) → (level_of untyped text ≡ Ok part) ↔ SpellsLevel untyped text part

abbrev pub MemoryItemsAreSpelled : Type 0
MemoryItemsAreSpelled = (text : List ℕ) (part : Part) → (memory_of text ≡ Ok part) ↔ SpellsMemory text part

abbrev pub DescriptionsAreSpelled : Type 0
DescriptionsAreSpelled = (text : List ℕ) (described : Description) → Describes text described ↔ SpellsDescription text described
