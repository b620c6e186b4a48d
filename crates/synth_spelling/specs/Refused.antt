-- Which rule a text breaks first: that of its leftmost wrong item, or else the first on all items together.
use Rattle.std.specs.Prelude.{◌≡◌, ◌⊎◌, ◌↔◌, ℕ, Bool, true, false, List, [], ◌∷◌, ◌++◌, drop, Option, Some, None}
use Rattle.std.specs.Char.{is_ascii_alphanumeric}
use Rattle.std.specs.List.{list_all, slice_split}
use Rattle.byte_text.specs.Classes.{is_white}
use Rattle.byte_text.specs.Cuts.{IsCutAt}
use Rattle.synth_text.specs.declared.kind.Kind.{Kind}
use Rattle.synth_text.specs.declared.kind.Kind.TheVariants.{NumaNode}
use Rattle.synth_text.specs.declared.name.Name.TheVariants as names
use Rattle.synth_text.specs.declared.attributes.Key.{Key}
use Rattle.synth_text.specs.declared.attributes.Key.TheVariants as keys
use Rattle.synth_text.specs.declared.fault.Flaw.{Flaw}
use Rattle.synth_text.specs.declared.fault.Flaw.TheVariants as flaws
use Rattle.synth_text.specs.declared.fault.SynthRule.{SynthRule}
use Rattle.synth_text.specs.declared.fault.SynthFault.{SynthFault}
use Rattle.synth_text.specs.declared.items.Item.{Item}
use Rattle.synth_text.specs.declared.parts.Part.{Part}
use Rattle.synth_text.specs.declared.parts.Placed.{Placed}
use Rattle.synth_text.specs.Names.{name_of}
use Rattle.synth_text.specs.Attributes.{takes, words_of}
use Rattle.synth_text.specs.Items.{AreItems, body_of}
use Rattle.synth_text.specs.Parts.{untyped_kind}
use Rattle.synth_text.specs.Flaws.{rule_at}
use Rattle.synth_text.specs.Descriptions.{level_items}
use Rattle.synth_text.specs.Faults.{fault_of, SynthRefused}
use Rattle.synth_spelling.specs.Spelling.{
  NamesLevel,
  SpellsHead,
  word_of,
  HaveNo,
  IsValue,
  IsWord,
  IsFront,
  Stops,
  Opens,
  SpellsItem,
  SpellItems,
}
use Rattle.synth_spelling.specs.Together.{BreakFirst}

-- ---- heads

-- what stands before the first `:` names no kind of a level
pub record HasNoName (head : List ℕ) : Type 0 where
  pub name : List ℕ
  pub behind : List ℕ
  pub cut : IsCutAt 58 head name behind
  pub unknown : (kind : Kind) → ¬ (NamesLevel (name_of name) kind)

-- the name isn't at fault, and yet the head gives no kind and arity: the arity is wrong
pub record HasNoArity (untyped : Kind) (head : List ℕ) : Type 0 where
  pub named : ¬ (HasNoName head)
  pub wrong : (kind : Kind) (arity : ℕ) → ¬ (SpellsHead untyped head kind arity)

abbrev pub HeadFlaw : Kind → List ℕ → Flaw → Type 0
HeadFlaw untyped head flaws.Name = HasNoName head
HeadFlaw untyped head flaws.Arity = HasNoArity untyped head
HeadFlaw untyped head flaws.Attribute = ⊥
HeadFlaw untyped head flaws.Indexes = ⊥

-- ---- attributes

-- a word `key=value` whose key the kind takes, and no word before it has
pub record HasKey (kind : Kind) (before : List (List ℕ)) (word : List ℕ) (key : Key) (value : List ℕ) : Type 0 where
  pub parts : word ≡ word_of key value
  pub taken : takes kind key ≡ true
  pub new : HaveNo key before

-- what is wrong with a value that is none of the key's
abbrev pub value_flaw : Key → Flaw
value_flaw keys.Size = flaws.Attribute
value_flaw keys.Memory = flaws.Attribute
value_flaw keys.Indexes = flaws.Indexes

-- the word is none with such a key
pub record HasNoKey (kind : Kind) (before : List (List ℕ)) (word : List ℕ) (flaw : Flaw) : Type 0 where
  pub none : (key : Key) (value : List ℕ) → ¬ (HasKey kind before word key value)
  pub told : flaw ≡ flaws.Attribute

-- the word has such a key, and a value that is none of the key's
pub record HasNoValue (kind : Kind) (before : List (List ℕ)) (word : List ℕ) (flaw : Flaw) : Type 0 where
  pub key : Key
  pub value : List ℕ
  pub keyed : HasKey kind before word key value
  pub wrong : ¬ (IsValue key value)
  pub told : flaw ≡ value_flaw key

abbrev pub WordFlaw : Kind → List (List ℕ) → List ℕ → Flaw → Type 0
WordFlaw kind before word flaw = HasNoKey kind before word flaw ⊎ HasNoValue kind before word flaw

-- the flaw of the leftmost wrong word behind others
abbrev pub WordsFlaw : Kind → List (List ℕ) → List (List ℕ) → Flaw → Type 0
WordsFlaw kind before [] flaw = ⊥
WordsFlaw kind before (word ∷ words) flaw =
    WordFlaw kind before word flaw ⊎ (IsWord kind before word × WordsFlaw kind (before ++ word ∷ []) words flaw)

-- what stands behind a `(` is closed by its first `)`, with at most white space behind that
pub record IsEnclosed (text inner : List ℕ) : Type 0 where
  pub behind : List ℕ
  pub cut : IsCutAt 41 text inner behind
  pub blank : list_all is_white behind ≡ true

-- the parentheses aren't closed, or not last
pub record IsOpen (text : List ℕ) (flaw : Flaw) : Type 0 where
  pub none : (inner : List ℕ) → ¬ (IsEnclosed text inner)
  pub told : flaw ≡ flaws.Attribute

-- a word in the parentheses is wrong; white space alone is a wrong word
pub record EnclosesFlaw (kind : Kind) (text : List ℕ) (flaw : Flaw) : Type 0 where
  pub inner : List ℕ
  pub closed : IsEnclosed text inner
  pub wrong : WordsFlaw kind [] (words_of (slice_split is_white inner)) flaw

abbrev pub AttributesFlaw : Kind → Option (List ℕ) → Flaw → Type 0
AttributesFlaw kind None flaw = ⊥
AttributesFlaw kind (Some text) flaw = IsOpen text flaw ⊎ EnclosesFlaw kind text flaw

-- ---- items

-- a good head, and what is wrong with the attributes behind it
pub record BehindHead (untyped : Kind) (head : List ℕ) (given : Option (List ℕ)) (flaw : Flaw) : Type 0 where
  pub kind : Kind
  pub arity : ℕ
  pub spelled : SpellsHead untyped head kind arity
  pub wrong : AttributesFlaw kind given flaw

-- what is wrong with a level item: its head, up to the first `(`, or else the attributes behind that
pub record LevelFlaw (untyped : Kind) (text : List ℕ) (flaw : Flaw) : Type 0 where
  pub head : List ℕ
  pub given : Option (List ℕ)
  pub front : IsFront 40 text head given
  pub wrong : HeadFlaw untyped head flaw ⊎ BehindHead untyped head given flaw

-- a memory item is closed by its first `]`; behind its `[` stands white space and a name of NUMANode, and then the rest
pub record NamesNode (text rest : List ℕ) : Type 0 where
  pub inner : List ℕ
  pub behind : List ℕ
  pub gap : List ℕ
  pub name : List ℕ
  pub cut : IsCutAt 93 (drop 1 text) inner behind
  pub parts : inner ≡ gap ++ (name ++ rest)
  pub blank : list_all is_white gap ≡ true
  pub letters : list_all is_ascii_alphanumeric name ≡ true
  pub whole : Stops is_ascii_alphanumeric rest
  pub named : name_of name ≡ Some (names.Kind NumaNode)

-- the bracket isn't closed, or doesn't begin with a name of NUMANode
pub record NamesNoNode (text : List ℕ) (flaw : Flaw) : Type 0 where
  pub none : (rest : List ℕ) → ¬ (NamesNode text rest)
  pub told : flaw ≡ flaws.Name

-- behind the name stands neither white space alone nor a `(`
pub record HasStray (rest : List ℕ) (flaw : Flaw) : Type 0 where
  pub none : (given : Option (List ℕ)) → ¬ (Opens rest given)
  pub told : flaw ≡ flaws.Attribute

-- behind the name stands a `(`, and wrong attributes
pub record HasWrong (rest : List ℕ) (flaw : Flaw) : Type 0 where
  pub given : Option (List ℕ)
  pub opened : Opens rest given
  pub wrong : AttributesFlaw NumaNode given flaw

-- a name of NUMANode, and what is wrong behind it
pub record BehindName (text : List ℕ) (flaw : Flaw) : Type 0 where
  pub rest : List ℕ
  pub names : NamesNode text rest
  pub wrong : HasStray rest flaw ⊎ HasWrong rest flaw

abbrev pub MemoryFlaw : List ℕ → Flaw → Type 0
MemoryFlaw text flaw = NamesNoNode text flaw ⊎ BehindName text flaw

-- ---- texts

-- what is wrong with an item that has so many level items behind it
abbrev pub ItemFlaw : List ℕ → Bool → ℕ → Flaw → Type 0
ItemFlaw body true behind flaw = MemoryFlaw body flaw
ItemFlaw body false behind flaw = LevelFlaw (untyped_kind behind) body flaw

-- the item breaks the rule
pub record BreaksRule (text : List ℕ) (item : Item) (behind : ℕ) (rule : SynthRule) : Type 0 where
  pub flaw : Flaw
  pub wrong : ItemFlaw (body_of text item) item.is_memory behind flaw
  pub told : rule_at item.start flaw ≡ rule

-- the leftmost item that breaks a rule on one item breaks this one
abbrev pub FirstBreaks : List ℕ → List Item → SynthRule → Type 0
FirstBreaks text [] rule = ⊥
FirstBreaks text (item ∷ items) rule =
    BreaksRule text item (level_items items) rule
    ⊎ ((part : Part) × SpellsItem (body_of text item) item.is_memory (level_items items) part × FirstBreaks text items rule)

-- no item breaks a rule on one item, and this is the first rule that they break together
pub record TogetherBreak (text : List ℕ) (items : List Item) (rule : SynthRule) : Type 0 where
  pub parts : List Placed
  pub spelled : SpellItems text items parts
  pub broken : BreakFirst parts rule

-- the first rule that a text breaks
pub record BreaksFirst (text : List ℕ) (rule : SynthRule) : Type 0 where
  pub items : List Item
  pub cut : AreItems text 0 items
  pub broken : FirstBreaks text items rule ⊎ TogetherBreak text items rule

-- the fault tells of the first rule that the text breaks
pub record IsRefused (text : List ℕ) (fault : SynthFault) : Type 0 where
  pub rule : SynthRule
  pub first : BreaksFirst text rule
  pub told : fault ≡ fault_of rule

-- ---- the law

abbrev pub RefusalsAreSpelled : Type 0
RefusalsAreSpelled = (text : List ℕ) (fault : SynthFault) → SynthRefused text fault ↔ IsRefused text fault
