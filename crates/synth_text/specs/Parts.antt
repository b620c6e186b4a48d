-- What one item says.
use Rattle.std.specs.Prelude.{ℕ, zero, suc, ◌-◌, ◌^◌, ◌==◌, List, drop, slice_index, Option, Some, None, Result, Ok, Err, if◌then◌else◌}
use Rattle.std.specs.List.{list_all, take_while}
use Rattle.std.specs.Char.{is_ascii_alphanumeric}
use Rattle.synth_text.specs.declared.kind.Kind.{Kind}
use Rattle.synth_text.specs.declared.kind.Kind.TheVariants.{Machine, Group, Core, Pu, NumaNode}
use Rattle.synth_text.specs.declared.name.Name.{Name}
use Rattle.synth_text.specs.declared.name.Name.TheVariants as names
use Rattle.synth_text.specs.declared.description.Indexes.TheVariants as indexes
use Rattle.synth_text.specs.declared.attributes.Attributes.{Attributes}
use Rattle.synth_text.specs.declared.parts.Part.{Part}
use Rattle.synth_text.specs.declared.fault.Flaw.{Flaw}
use Rattle.synth_text.specs.declared.fault.Flaw.TheVariants as flaws
use Rattle.byte_text.specs.Classes.{is_white}
use Rattle.synth_text.specs.Names.{name_of}
use Rattle.byte_text.specs.Numerals.{number_in}
use Rattle.byte_text.specs.Cuts.{first_piece, without_front}
use Rattle.synth_text.specs.Flaws.{◌>>=◌, or_flaw}
use Rattle.synth_text.specs.Attributes.{attributes_of}

-- the kind of a level without a name that has so many level items behind it
abbrev pub untyped_kind : ℕ → Kind
untyped_kind zero = Pu
untyped_kind (suc zero) = Core
untyped_kind (suc (suc behind)) = Group

-- the kind that a level's name gives; digits behind `group` are ignored
abbrev pub level_name : Option Name → Result Kind Flaw
level_name None = Err flaws.Name
level_name (Some (names.Kind Machine)) = Err flaws.Name
level_name (Some (names.Kind kind)) = Ok kind
level_name (Some (names.Group number)) = Ok Group

-- A head is `name:arity`, or an arity alone: then the kind is that of a level without a name.
abbrev pub head_kind : Kind → List ℕ → Option (List ℕ) → Result Kind Flaw
head_kind untyped name None = Ok untyped
head_kind untyped name (Some arity) = level_name (name_of name)

abbrev pub head_arity : List ℕ → Option (List ℕ) → List ℕ
head_arity arity None = arity
head_arity name (Some arity) = arity

-- a kind and an arity
abbrev pub with_arity : Kind → List ℕ → Result (Kind × ℕ) Flaw
with_arity kind text = or_flaw flaws.Arity (number_in 1 (2 ^ 32 - 1) text) >>= λ arity. Ok (kind, arity)

-- the kind and the arity that a head gives, cut at its first `:`
abbrev pub cut_head : Kind → List ℕ × Option (List ℕ) → Result (Kind × ℕ) Flaw
cut_head untyped parts = head_kind untyped parts.0 parts.1 >>= λ kind. with_arity kind (head_arity parts.0 parts.1)

unfoldable pub head_of : Kind → List ℕ → Result (Kind × ℕ) Flaw
head_of untyped head = cut_head untyped (first_piece (λ byte. byte == 58) head)

-- A level `numa:k` is a Group level with one node of memory at each object, which has the attributes.
abbrev pub level_part : Kind → ℕ → Attributes → Part
level_part NumaNode arity attributes =
    record {
      level = Some (record { kind = Group; arity = arity; size = None; indexes = indexes.Ordered });
      nodes = Some (record { size = attributes.memory; indexes = attributes.indexes });
    }
level_part kind arity attributes =
    record { level = Some (record { kind = kind; arity = arity; size = attributes.size; indexes = attributes.indexes }); nodes = None }

-- what the head and the text behind the first `(` give
abbrev pub cut_level : Kind → List ℕ × Option (List ℕ) → Result Part Flaw
cut_level untyped parts = do
  head ← head_of untyped parts.0
  attributes ← attributes_of head.0 parts.1
  Ok (level_part head.0 head.1 attributes)

-- A level item is a head up to its first `(` or its end, and the attributes behind that.
unfoldable pub level_of : Kind → List ℕ → Result Part Flaw
level_of untyped text = cut_level untyped (first_piece (λ byte. byte == 40) text)

-- the name of a NUMANode
abbrev pub node_name : Option Name → Result Kind Flaw
node_name (Some (names.Kind NumaNode)) = Ok NumaNode
node_name _ = Err flaws.Name

-- what stands behind the `(` that follows a name, if one does; else there is at most white space
abbrev pub opened : List ℕ → Result (Option (List ℕ)) Flaw
opened text =
    if list_all is_white text then Ok None
    else if slice_index text 0 == 40 then Ok (Some (drop 1 text))
    else Err flaws.Attribute

abbrev pub memory_part : Attributes → Part
memory_part attributes = record { level = None; nodes = Some (record { size = attributes.memory; indexes = attributes.indexes }) }

-- a name and the attributes that may stand directly behind it
abbrev pub named_memory : List ℕ → List ℕ → Result Part Flaw
named_memory name behind = do
  kind ← node_name (name_of name)
  given ← opened behind
  attributes ← attributes_of kind given
  Ok (memory_part attributes)

-- what stands in brackets: white space, a name as far as letters and digits go, and attributes
unfoldable pub memory_in_brackets : List ℕ → Result Part Flaw
memory_in_brackets text =
    named_memory (take_while is_ascii_alphanumeric (without_front is_white text))
    (without_front is_ascii_alphanumeric (without_front is_white text))

-- what stands behind a `[`, up to the first `]`
abbrev pub cut_memory : List ℕ × Option (List ℕ) → Result Part Flaw
cut_memory (text, None) = Err flaws.Name
cut_memory (text, Some behind) = memory_in_brackets text

-- A memory item is a name of NUMANode in brackets, with optional attributes.
unfoldable pub memory_of : List ℕ → Result Part Flaw
memory_of text = cut_memory (first_piece (λ byte. byte == 93) (drop 1 text))
