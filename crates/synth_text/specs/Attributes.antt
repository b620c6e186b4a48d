-- Attributes of an item: `key=value` words in parentheses, with white space between them.
use Rattle.std.specs.Prelude.{
  ◌≡◌,
  ℕ,
  Bool,
  true,
  false,
  ◌&&◌,
  not,
  ◌==◌,
  List,
  [],
  ◌∷◌,
  ◌++◌,
  codes,
  Option,
  Some,
  None,
  option_map,
  Result,
  Ok,
  Err,
  is_some,
  if◌then◌else◌,
}
use Rattle.std.specs.Option.{option_and_then, option_or}
use Rattle.std.specs.List.{list_all, slice_split}
use Rattle.std.specs.Str.{bytes_eq}
use Rattle.synth_text.specs.declared.kind.Kind.{Kind}
use Rattle.synth_text.specs.declared.kind.Kind.TheVariants.{Pu, NumaNode}
use Rattle.synth_text.specs.declared.description.Indexes.{Indexes}
use Rattle.synth_text.specs.declared.description.Indexes.TheVariants as indexes
use Rattle.synth_text.specs.declared.attributes.Attributes.{Attributes}
use Rattle.synth_text.specs.declared.attributes.Key.{Key}
use Rattle.synth_text.specs.declared.attributes.Key.TheVariants as keys
use Rattle.synth_text.specs.declared.fault.Flaw.{Flaw}
use Rattle.synth_text.specs.declared.fault.Flaw.TheVariants as flaws
use Rattle.synth_text.specs.declared.fault.Unread.{Unread}
use Rattle.synth_text.specs.declared.fault.Unread.TheVariants as unread
use Rattle.synth_text.specs.Kinds.{is_cache}
use Rattle.byte_text.specs.Classes.{is_white}
use Rattle.byte_text.specs.Cuts.{cut}
use Rattle.synth_text.specs.Flaws.{◌>>=◌}
use Rattle.synth_text.specs.Sizes.{size_of}
use Rattle.synth_text.specs.IndexTexts.{indexes_of}

-- the keys, which are read as written
unfoldable pub key_of : List ℕ → Option Key
key_of word =
    if bytes_eq word (codes "size") then Some keys.Size
    else if bytes_eq word (codes "memory") then Some keys.Memory
    else if bytes_eq word (codes "indexes") then Some keys.Indexes
    else None

-- Caches have `size`, a NUMANode `memory`, a PU and a NUMANode `indexes`.
abbrev pub takes : Kind → Key → Bool
takes kind keys.Size = is_cache kind
takes NumaNode keys.Memory = true
takes kind keys.Memory = false
takes Pu keys.Indexes = true
takes NumaNode keys.Indexes = true
takes kind keys.Indexes = false

-- ---- the words

-- whether a list has no element
abbrev pub is_empty : {X : Type 0} → List X → Bool
is_empty [] = true
is_empty (x ∷ xs) = false

-- The words are the pieces between white bytes. A piece without a byte that has others on both sides lies in a gap of several
-- white bytes and is no word; at either end it is one, and a wrong one.
abbrev pub words_behind : List (List ℕ) → List (List ℕ)
words_behind [] = []
words_behind (piece ∷ pieces) = if is_empty piece && not (is_empty pieces) then words_behind pieces else piece ∷ words_behind pieces

abbrev pub words_of : List (List ℕ) → List (List ℕ)
words_of [] = []
words_of (piece ∷ pieces) = piece ∷ words_behind pieces

-- the key and the value of a word `key=value`
abbrev pub entry_at : Option (List ℕ × List ℕ) → Option (Key × List ℕ)
entry_at None = None
entry_at (Some parts) = option_map (λ key. (key, parts.1)) (key_of parts.0)

unfoldable pub entry_in : List ℕ → Option (Key × List ℕ)
entry_in word = entry_at (cut (λ byte. byte == 61) word)

abbrev pub same_key : Key → Key → Bool
same_key keys.Size keys.Size = true
same_key keys.Memory keys.Memory = true
same_key keys.Indexes keys.Indexes = true
same_key _ _ = false

-- the value of a key among words, where one of them has it
abbrev pub value_if : Key → Option (Key × List ℕ) → Option (List ℕ) → Option (List ℕ)
value_if key None others = others
value_if key (Some entry) others = if same_key entry.0 key then Some entry.1 else others

abbrev pub value_of : Key → List (List ℕ) → Option (List ℕ)
value_of key [] = None
value_of key (word ∷ words) = value_if key (entry_in word) (value_of key words)

-- ---- what words say

abbrev pub indexes_or_none : Option Indexes → Indexes
indexes_or_none None = indexes.Ordered
indexes_or_none (Some given) = given

-- the attributes that words give: for each key what its value says
abbrev pub said_by : List (List ℕ) → Attributes
said_by words =
    record {
      size = option_and_then size_of (value_of keys.Size words);
      memory = option_and_then size_of (value_of keys.Memory words);
      indexes = indexes_or_none (option_and_then indexes_of (value_of keys.Indexes words));
    }

-- ---- what is wrong with words

abbrev pub flaw_unless : {X : Type 0} → Flaw → Option X → Option Flaw
flaw_unless flaw None = Some flaw
flaw_unless flaw (Some x) = None

-- a value that is no size, or neither a list nor loops
abbrev pub flaw_in_value : Key → List ℕ → Option Flaw
flaw_in_value keys.Size value = flaw_unless flaws.Attribute (size_of value)
flaw_in_value keys.Memory value = flaw_unless flaws.Attribute (size_of value)
flaw_in_value keys.Indexes value = flaw_unless flaws.Indexes (indexes_of value)

-- A word is `key=value` with a key that the kind takes and that no word before it has; then its value can be wrong.
abbrev pub flaw_in_word : Kind → List (List ℕ) → Option (Key × List ℕ) → Option Flaw
flaw_in_word kind before None = Some flaws.Attribute
flaw_in_word kind before (Some entry) =
    if takes kind entry.0 && not (is_some (value_of entry.0 before)) then flaw_in_value entry.0 entry.1 else Some flaws.Attribute

-- the flaw of the first wrong word behind others
abbrev pub first_flaw : Kind → List (List ℕ) → List (List ℕ) → Option Flaw
first_flaw kind before [] = None
first_flaw kind before (word ∷ words) = option_or (flaw_in_word kind before (entry_in word)) (first_flaw kind (before ++ word ∷ []) words)

abbrev pub unless_flawed : Option Flaw → Attributes → Result Attributes Flaw
unless_flawed None attributes = Ok attributes
unless_flawed (Some flaw) attributes = Err flaw

-- what stands in parentheses: the attributes that its words give, or the flaw of the first wrong word
unfoldable pub attributes_in : Kind → List ℕ → Result Attributes Flaw
attributes_in kind text =
    unless_flawed (first_flaw kind [] (words_of (slice_split is_white text))) (said_by (words_of (slice_split is_white text)))

-- ---- words, one behind the other

-- whether indexes are given
abbrev pub are_given : Indexes → Bool
are_given indexes.Ordered = false
are_given (indexes.List numbers) = true
are_given (indexes.Loops loops) = true

-- whether a key is among attributes
abbrev pub has : Attributes → Key → Bool
has attributes keys.Size = is_some attributes.size
has attributes keys.Memory = is_some attributes.memory
has attributes keys.Indexes = are_given attributes.indexes

-- words give these attributes, which have the words' keys
pub record AreSaidBy (attributes : Attributes) (words : List (List ℕ)) : Type 0 where
  pub said : said_by words ≡ attributes
  pub keyed : (key : Key) → is_some (value_of key words) ≡ has attributes key

-- With one more word the words give the new attributes, unless the word has a flaw or memory was refused.
abbrev pub Adds : List (List ℕ) → List ℕ → Option Flaw → Result Attributes (Unread Flaw) → Type 0
Adds before word flaw (Ok attributes) = (flaw ≡ None) × AreSaidBy attributes (before ++ word ∷ [])
Adds before word flaw (Err (unread.Fault found)) = flaw ≡ Some found
Adds before word flaw (Err unread.OutOfMemory) = Unit {0}

-- ---- the parentheses

-- what stands up to the first `)`, which has at most white space behind it
abbrev pub closed : Option (List ℕ × List ℕ) → Result (List ℕ) Flaw
closed None = Err flaws.Attribute
closed (Some parts) = if list_all is_white parts.1 then Ok parts.0 else Err flaws.Attribute

unfoldable pub enclosed : List ℕ → Result (List ℕ) Flaw
enclosed text = closed (cut (λ byte. byte == 41) text)

-- no attribute
abbrev pub no_attributes : Attributes
no_attributes = record { size = None; memory = None; indexes = indexes.Ordered }

-- the attributes behind a `(`, if there is one
abbrev pub attributes_of : Kind → Option (List ℕ) → Result Attributes Flaw
attributes_of kind None = Ok no_attributes
attributes_of kind (Some text) = enclosed text >>= λ inner. attributes_in kind inner
