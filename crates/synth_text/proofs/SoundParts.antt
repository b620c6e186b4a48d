-- What an item says is sound.
use Rattle.std.proofs.Common.{
  ◌≡◌,
  ◌≢◌,
  ℕ,
  zero,
  suc,
  ◌*◌,
  ◌-◌,
  ◌^◌,
  ◌<◌,
  ◌≤◌,
  Bool,
  true,
  ◌&&◌,
  cond,
  List,
  [],
  ◌∷◌,
  length,
  drop,
  Option,
  Some,
  None,
  Result,
  Ok,
  Err,
  refl,
  sym,
  ap,
  subst,
  ◌∙◌,
  arith,
  inl,
  inr,
}
use Rattle.std.specs.Prelude.{IfSome, IsSome, ◌==◌, nat_le, nat_lt, not, option_map}
use Rattle.std.specs.Char.{is_ascii_digit, is_ascii_alphanumeric}
use Rattle.std.specs.Str.Parse.{digits_value}
use Rattle.std.specs.Option.{option_and_then}
use Rattle.std.specs.List.{AllByRecursion, slice_split, list_any, take_while}
use Rattle.std.proofs.lemmas.Bool.{and_parts, leb-true, ltb-true, cases_Bool}
use Rattle.synth_text.specs.declared.kind.Kind.{Kind}
use Rattle.synth_text.specs.declared.kind.Kind.TheVariants.{Machine, Package, Die, Group, L5, L4, L3, L2, L1d, L1i, Core, Pu, NumaNode}
use Rattle.synth_text.specs.declared.name.Name.{Name}
use Rattle.synth_text.specs.declared.name.Name.TheVariants as names
use Rattle.synth_text.specs.declared.description.Loop.{Loop}
use Rattle.synth_text.specs.declared.description.Indexes.{Indexes}
use Rattle.synth_text.specs.declared.description.Indexes.TheVariants as indexes
use Rattle.synth_text.specs.declared.attributes.Attributes.{Attributes}
use Rattle.synth_text.specs.declared.attributes.Key.{Key}
use Rattle.synth_text.specs.declared.attributes.Key.TheVariants as keys
use Rattle.synth_text.specs.declared.parts.Nodes.{Nodes}
use Rattle.synth_text.specs.declared.parts.Part.{Part}
use Rattle.synth_text.specs.declared.fault.Flaw.{Flaw}
use Rattle.synth_text.specs.declared.fault.Flaw.TheVariants as flaws
use Rattle.synth_text.specs.Kinds.{is_cache}
use Rattle.byte_text.specs.Classes.{is_white}
use Rattle.synth_text.specs.Names.{name_of}
use Rattle.byte_text.specs.Numerals.{is_decimal, number_in}
use Rattle.byte_text.specs.Cuts.{cut, first_piece, without_front}
use Rattle.synth_text.specs.Flaws.{◌>>=◌, or_flaw}
use Rattle.synth_text.specs.Sizes.{small_size, size_of}
use Rattle.synth_text.specs.IndexTexts.{index_of, loop_of, entries_of, indexes_of}
use Rattle.synth_text.specs.Attributes.{key_of, takes, has, no_attributes, is_empty, attributes_in, enclosed, attributes_of}
use Rattle.synth_text.proofs.AttributeSteps.{with_value, with_word, with_next, with_words, with_first}
use Rattle.synth_text.specs.Parts.{
  untyped_kind,
  level_name,
  head_kind,
  head_arity,
  with_arity,
  head_of,
  level_part,
  level_of,
  node_name,
  opened,
  memory_part,
  named_memory,
  memory_in_brackets,
  cut_memory,
  memory_of,
}
use Rattle.synth_text.specs.Sound.{IsSoundLoop, AreSoundIndexes, IsSoundLevel}
use Rattle.synth_text.proofs.Bound.{ok_is, some_is, bind_ok, or_flaw-ok, guard_ok, guard_some, and_then_some, option_map_some}
use Rattle.byte_text.proofs.CutLaws.{slice_split-first_piece}
use Rattle.synth_text.proofs.AttributeFold.{attributes_read}

-- ---- numbers and sizes

pub number_in-bounds : (low high : ℕ) (text : List ℕ) (n : ℕ) → number_in low high text ≡ Some n → (low ≤ n) × (n ≤ high)
unfolding number_in
number_in-bounds low high text n e =
    let g = guard_some _ _ n e in
    let tests = (and_parts (is_decimal text) _ g.0).1 in
    let bounds = and_parts (nat_le low (digits_value 10 text)) (nat_le (digits_value 10 text) high) tests in
    (rw (← g.1) (leb-true _ _ bounds.0), rw (← g.1) (leb-true _ _ bounds.1))

pub size_of-bound : (text : List ℕ) (size : ℕ) → size_of text ≡ Some size → size < 2 ^ 64
unfolding size_of
size_of-bound text size e =
    let unit = and_then_some (λ unit. option_and_then (λ number. small_size (number * unit))
    (number_in 0 (2 ^ 64 - 1) (take_while is_ascii_digit text))) _ size e in
    let number = and_then_some (λ number. small_size (number * unit.0))
    (number_in 0 (2 ^ 64 - 1) (take_while is_ascii_digit text)) size unit.2 in
    let small = guard_some (nat_lt (number.0 * unit.0) (2 ^ 64)) (number.0 * unit.0) size number.2 in
    rw (← small.1) (ltb-true _ _ small.0)

-- ---- indexes

entries_all : {X : Type 0} (P : X → Type 0) (reading : List ℕ → Option X) → ((piece : List ℕ) (x : X) → reading piece ≡ Some x → P x)
    → (texts : List (List ℕ)) (entries : List X) → entries_of reading texts ≡ Some entries → AllByRecursion P entries
    × (length entries ≡ length texts)
entries_all P reading each [] entries e = rw (← some_is [] entries e) (tt, refl)
entries_all P reading each (piece ∷ texts) entries e =
    let first = and_then_some (λ entry. option_map (λ others. entry ∷ others) (entries_of reading texts)) (reading piece) entries e in
    let rest = option_map_some (λ others. first.0 ∷ others) (entries_of reading texts) entries first.2 in
    let others = entries_all P reading each texts rest.0 rest.1 in
    rw (← rest.2) ((each piece first.0 first.1, others.0), ap suc others.1)

index_small : (piece : List ℕ) (n : ℕ) → index_of piece ≡ Some n → n < 2 ^ 32
unfolding index_of
index_small piece n e = let b = number_in-bounds 0 (2 ^ 32 - 1) piece n e in omega arith

abbrev made : ℕ → ℕ → Loop
made step count = record { step = step; count = count }

loop_sound : (piece : List ℕ) (given : Loop) → loop_of piece ≡ Some given → IsSoundLoop given
unfolding loop_of
loop_sound piece given e =
    let parts = and_then_some (λ (parts : List ℕ × List ℕ). option_and_then
    (λ step. option_map (λ count. made step count) (number_in 1 (2 ^ 32 - 1) parts.1)) (number_in 1 (2 ^ 32 - 1) parts.0)) _ given e in
    let step = and_then_some (λ step. option_map (λ count. made step count) (number_in 1 (2 ^ 32 - 1) parts.0.1))
    (number_in 1 (2 ^ 32 - 1) parts.0.0) given parts.2 in
    let count = option_map_some (λ count. made step.0 count) (number_in 1 (2 ^ 32 - 1) parts.0.1) given step.2 in
    let s = number_in-bounds 1 (2 ^ 32 - 1) parts.0.0 step.0 step.1 in
    let n = number_in-bounds 1 (2 ^ 32 - 1) parts.0.1 count.0 count.1 in
    rw (← count.2) (record { step = (s.0, omega arith); count = (n.0, omega arith) })

pieces_some : (test : ℕ → Bool) (text : List ℕ) → 0 < length (slice_split test text)
pieces_some test text = rw (slice_split-first_piece test text) (omega arith)

pub indexes_sound : (text : List ℕ) (given : Indexes) → indexes_of text ≡ Some given → AreSoundIndexes given
unfolding indexes_of
indexes_sound text given e =
    elim (cases_Bool (list_any (λ byte. byte == 42) text)) [
      | inl star ↦ of_loops (rw star at e)
      | inr none ↦ of_list (rw none at e)
    ]
  where
    of_loops : option_map indexes.Loops (entries_of loop_of (slice_split (λ byte. byte == 58) text)) ≡ Some given → AreSoundIndexes given
    of_loops h =
        let m = option_map_some indexes.Loops _ given h in
        let all = entries_all IsSoundLoop loop_of loop_sound (slice_split (λ byte. byte == 58) text) m.0 m.1 in
        let some = pieces_some (λ byte. byte == 58) text in
        rw (← m.2) (omega (arith, all.1), all.0)

    of_list : option_map indexes.List (entries_of index_of (slice_split (λ byte. byte == 44) text)) ≡ Some given → AreSoundIndexes given
    of_list h =
        let m = option_map_some indexes.List _ given h in
        let all = entries_all (λ n. n < 2 ^ 32) index_of index_small (slice_split (λ byte. byte == 44) text) m.0 m.1 in
        let some = pieces_some (λ byte. byte == 44) text in
        rw (← m.2) (omega (arith, all.1), all.0)

-- ---- attributes

pub record SoundAttributes (kind : Kind) (attributes : Attributes) : Type 0 where
  pub size : IfSome attributes.size (λ size. (is_cache kind ≡ true) × (size < 2 ^ 64))
  pub memory : IfSome attributes.memory (λ size. size < 2 ^ 64)
  pub given : AreSoundIndexes attributes.indexes
  pub indexed : kind ≢ Pu → kind ≢ NumaNode → attributes.indexes ≡ indexes.Ordered

takes_indexes : (kind : Kind) → takes kind keys.Indexes ≡ true → kind ≢ Pu → kind ≢ NumaNode → ⊥
takes_indexes Pu h pu node = pu refl
takes_indexes NumaNode h pu node = node refl
takes_indexes Machine h pu node = absurd cc
takes_indexes Package h pu node = absurd cc
takes_indexes Die h pu node = absurd cc
takes_indexes Group h pu node = absurd cc
takes_indexes L5 h pu node = absurd cc
takes_indexes L4 h pu node = absurd cc
takes_indexes L3 h pu node = absurd cc
takes_indexes L2 h pu node = absurd cc
takes_indexes L1d h pu node = absurd cc
takes_indexes L1i h pu node = absurd cc
takes_indexes Core h pu node = absurd cc

none_sound : (kind : Kind) → SoundAttributes kind no_attributes
none_sound kind = record { size = tt; memory = tt; given = tt; indexed = λ pu node. refl }

value_sound : (kind : Kind) (a : Attributes) (key : Key) (value : List ℕ) (b : Attributes) → takes kind key ≡ true → SoundAttributes kind a
    → with_value a key value ≡ Ok b → SoundAttributes kind b
value_sound kind a keys.Size value b taken h e =
    let read = bind_ok (or_flaw flaws.Attribute (size_of value)) (λ size. Ok (record a { size = Some size })) b e in
    let bound = size_of-bound value read.0 (or_flaw-ok flaws.Attribute _ read.0 read.1) in
    subst (SoundAttributes kind) (ok_is (record a { size = Some read.0 }) b read.2)
    (record { size = (taken, bound); memory = h.memory; given = h.given; indexed = h.indexed })
value_sound kind a keys.Memory value b taken h e =
    let read = bind_ok (or_flaw flaws.Attribute (size_of value)) (λ size. Ok (record a { memory = Some size })) b e in
    let bound = size_of-bound value read.0 (or_flaw-ok flaws.Attribute _ read.0 read.1) in
    subst (SoundAttributes kind) (ok_is (record a { memory = Some read.0 }) b read.2)
    (record { size = h.size; memory = bound; given = h.given; indexed = h.indexed })
value_sound kind a keys.Indexes value b taken h e =
    let read = bind_ok (or_flaw flaws.Indexes (indexes_of value)) (λ given. Ok (record a { indexes = given })) b e in
    let sound = indexes_sound value read.0 (or_flaw-ok flaws.Indexes _ read.0 read.1) in
    subst (SoundAttributes kind) (ok_is (record a { indexes = read.0 }) b read.2)
    (record { size = h.size; memory = h.memory; given = sound; indexed = λ pu node. absurd (takes_indexes kind taken pu node) })

abbrev keyed : Kind → Attributes → Key → List ℕ → Result Attributes Flaw
keyed kind a key value = cond (takes kind key && not (has a key)) (with_value a key value) (Err flaws.Attribute)

word_sound : (kind : Kind) (a : Attributes) (word : List ℕ) (b : Attributes) → SoundAttributes kind a → with_word kind a word ≡ Ok b
    → SoundAttributes kind b
unfolding with_word
word_sound kind a word b h e =
    let parts = bind_ok (or_flaw flaws.Attribute (cut (λ byte. byte == 61) word))
    (λ (parts : List ℕ × List ℕ). or_flaw flaws.Attribute (key_of parts.0) >>= λ key. keyed kind a key parts.1) b e in
    let key = bind_ok (or_flaw flaws.Attribute (key_of parts.0.0)) (λ key. keyed kind a key parts.0.1) b parts.2 in
    let g = guard_ok _ (with_value a key.0 parts.0.1) flaws.Attribute b key.2 in
    value_sound kind a key.0 parts.0.1 b (and_parts (takes kind key.0) (not (has a key.0)) g.0).0 h g.1

next_sound : (kind : Kind) (a : Attributes) (word : List ℕ) (is_more : Bool) (b : Attributes) → SoundAttributes kind a
    → with_next kind a word is_more ≡ Ok b → SoundAttributes kind b
unfolding with_next
next_sound kind a word is_more b h e =
    elim (cases_Bool (is_empty word && is_more)) [
      | inl gap ↦ subst (SoundAttributes kind) (ok_is a b (rw gap at e)) h
      | inr fails ↦ word_sound kind a word b h (rw fails at e)
    ]

words_sound : (kind : Kind) (a : Attributes) (words : List (List ℕ)) (b : Attributes) → SoundAttributes kind a
    → with_words kind a words ≡ Ok b → SoundAttributes kind b
words_sound kind a [] b h e = subst (SoundAttributes kind) (ok_is a b e) h
words_sound kind a (word ∷ words) b h e =
    let first = bind_ok (with_next kind a word (not (is_empty words))) (λ next. with_words kind next words) b e in
    words_sound kind first.0 words b (next_sound kind a word _ first.0 h first.1) first.2

first_sound : (kind : Kind) (words : List (List ℕ)) (b : Attributes) → with_first kind words ≡ Ok b → SoundAttributes kind b
first_sound kind [] b e = subst (SoundAttributes kind) (ok_is no_attributes b e) (none_sound kind)
first_sound kind (word ∷ words) b e =
    let first = bind_ok (with_word kind no_attributes word) (λ next. with_words kind next words) b e in
    words_sound kind first.0 words b (word_sound kind no_attributes word first.0 (none_sound kind) first.1) first.2

pub attributes_sound : (kind : Kind) (text : Option (List ℕ)) (b : Attributes) → attributes_of kind text ≡ Ok b → SoundAttributes kind b
attributes_sound kind None b e = subst (SoundAttributes kind) (ok_is no_attributes b e) (none_sound kind)
attributes_sound kind (Some text) b e =
    let inner = bind_ok (enclosed text) (λ inner. attributes_in kind inner) b e in
    first_sound kind (slice_split is_white inner.0) b (sym (attributes_read kind inner.0) ∙ inner.2)

-- ---- items

pub record SoundNodes (nodes : Nodes) : Type 0 where
  pub size : IfSome nodes.size (λ size. size < 2 ^ 64)
  pub given : AreSoundIndexes nodes.indexes

pub record SoundPart (part : Part) : Type 0 where
  pub level : IfSome part.level IsSoundLevel
  pub nodes : IfSome part.nodes SoundNodes
  pub grouped : IfSome part.level (λ level. IsSome part.nodes → level.kind ≡ Group)

record SoundArity (arity : ℕ) : Type 0 where
  some : 1 ≤ arity
  small : arity < 2 ^ 32

abbrev ordinary : Kind → ℕ → Attributes → Part
ordinary kind arity a = record { level = Some (record { kind = kind; arity = arity; size = a.size; indexes = a.indexes }); nodes = None }

abbrev none : Option Nodes
none = None

no_nodes : IsSome none → ⊥
no_nodes some = absurd cc

ordinary_sound : (kind : Kind) (arity : ℕ) (a : Attributes) → kind ≢ Machine → kind ≢ NumaNode → SoundArity arity → SoundAttributes kind a
    → SoundPart (ordinary kind arity a)
ordinary_sound kind arity a no_machine no_node bounds h = record {
  level = record {
    no_machine = no_machine;
    no_node = no_node;
    arity = (bounds.some, bounds.small);
    size = h.size;
    given = h.given;
    indexed = λ pu. h.indexed pu no_node;
  };
  nodes = tt;
  grouped = λ some. absurd (no_nodes some);
}

level_part_sound : (kind : Kind) (arity : ℕ) (a : Attributes) → kind ≢ Machine → SoundArity arity → SoundAttributes kind a
    → SoundPart (level_part kind arity a)
level_part_sound Machine arity a m b h = absurd (m refl)
level_part_sound NumaNode arity a m b h = record {
  level =
      record {
        no_machine = λ e. absurd cc;
        no_node = λ e. absurd cc;
        arity = (b.some, b.small);
        size = tt;
        given = tt;
        indexed =
            λ pu. refl;
      };
  nodes = record { size = h.memory; given = h.given };
  grouped = λ some. refl;
}
level_part_sound Package arity a m b h = ordinary_sound Package arity a m (λ e. absurd cc) b h
level_part_sound Die arity a m b h = ordinary_sound Die arity a m (λ e. absurd cc) b h
level_part_sound Group arity a m b h = ordinary_sound Group arity a m (λ e. absurd cc) b h
level_part_sound L5 arity a m b h = ordinary_sound L5 arity a m (λ e. absurd cc) b h
level_part_sound L4 arity a m b h = ordinary_sound L4 arity a m (λ e. absurd cc) b h
level_part_sound L3 arity a m b h = ordinary_sound L3 arity a m (λ e. absurd cc) b h
level_part_sound L2 arity a m b h = ordinary_sound L2 arity a m (λ e. absurd cc) b h
level_part_sound L1d arity a m b h = ordinary_sound L1d arity a m (λ e. absurd cc) b h
level_part_sound L1i arity a m b h = ordinary_sound L1i arity a m (λ e. absurd cc) b h
level_part_sound Core arity a m b h = ordinary_sound Core arity a m (λ e. absurd cc) b h
level_part_sound Pu arity a m b h = ordinary_sound Pu arity a m (λ e. absurd cc) b h

level_kind : (name : Option Name) (kind : Kind) → level_name name ≡ Ok kind → kind ≢ Machine
level_kind None kind e = absurd cc
level_kind (Some (names.Group number)) kind e = let is : Group ≡ kind = ok_is Group kind e in λ m. absurd cc
level_kind (Some (names.Kind Machine)) kind e = absurd cc
level_kind (Some (names.Kind Package)) kind e = let is : Package ≡ kind = ok_is Package kind e in λ m. absurd cc
level_kind (Some (names.Kind Die)) kind e = let is : Die ≡ kind = ok_is Die kind e in λ m. absurd cc
level_kind (Some (names.Kind Group)) kind e = let is : Group ≡ kind = ok_is Group kind e in λ m. absurd cc
level_kind (Some (names.Kind L5)) kind e = let is : L5 ≡ kind = ok_is L5 kind e in λ m. absurd cc
level_kind (Some (names.Kind L4)) kind e = let is : L4 ≡ kind = ok_is L4 kind e in λ m. absurd cc
level_kind (Some (names.Kind L3)) kind e = let is : L3 ≡ kind = ok_is L3 kind e in λ m. absurd cc
level_kind (Some (names.Kind L2)) kind e = let is : L2 ≡ kind = ok_is L2 kind e in λ m. absurd cc
level_kind (Some (names.Kind L1d)) kind e = let is : L1d ≡ kind = ok_is L1d kind e in λ m. absurd cc
level_kind (Some (names.Kind L1i)) kind e = let is : L1i ≡ kind = ok_is L1i kind e in λ m. absurd cc
level_kind (Some (names.Kind Core)) kind e = let is : Core ≡ kind = ok_is Core kind e in λ m. absurd cc
level_kind (Some (names.Kind Pu)) kind e = let is : Pu ≡ kind = ok_is Pu kind e in λ m. absurd cc
level_kind (Some (names.Kind NumaNode)) kind e = let is : NumaNode ≡ kind = ok_is NumaNode kind e in λ m. absurd cc

head_kind_sound : (untyped : Kind) (name : List ℕ) (arity : Option (List ℕ)) (kind : Kind) → untyped ≢ Machine
    → head_kind untyped name arity ≡ Ok kind → kind ≢ Machine
head_kind_sound untyped name None kind h e = subst (λ k. k ≢ Machine) (ok_is untyped kind e) h
head_kind_sound untyped name (Some arity) kind h e = level_kind (name_of name) kind e

record SoundHead (head : Kind × ℕ) : Type 0 where
  no_machine : head.0 ≢ Machine
  arity : SoundArity head.1

head_sound : (untyped : Kind) (text : List ℕ) (head : Kind × ℕ) → untyped ≢ Machine → head_of untyped text ≡ Ok head → SoundHead head
unfolding head_of
head_sound untyped text head h e =
    let parts = first_piece (λ byte. byte == 58) text in
    let kind = bind_ok (head_kind untyped parts.0 parts.1) (λ kind. with_arity kind (head_arity parts.0 parts.1)) head e in
    let arity = bind_ok (or_flaw flaws.Arity (number_in 1 (2 ^ 32 - 1) (head_arity parts.0 parts.1)))
    (λ (n : ℕ). Ok (kind.0, n)) head kind.2 in
    let bounds = number_in-bounds 1 (2 ^ 32 - 1) (head_arity parts.0 parts.1) arity.0 (or_flaw-ok flaws.Arity _ arity.0 arity.1) in
    let no_machine = head_kind_sound untyped parts.0 parts.1 kind.0 h kind.1 in
    subst SoundHead (ok_is (kind.0, arity.0) head arity.2)
    (record { no_machine = no_machine; arity = record { some = bounds.0; small = omega arith } })

pub level_sound : (untyped : Kind) (text : List ℕ) (part : Part) → untyped ≢ Machine → level_of untyped text ≡ Ok part → SoundPart part
unfolding level_of
level_sound untyped text part h e =
    let parts = first_piece (λ byte. byte == 40) text in
    let head = bind_ok (head_of untyped parts.0)
    (λ (head : Kind × ℕ). attributes_of head.0 parts.1 >>= λ a. Ok (level_part head.0 head.1 a)) part e in
    let a = bind_ok (attributes_of head.0.0 parts.1) (λ a. Ok (level_part head.0.0 head.0.1 a)) part head.2 in
    let sound = head_sound untyped parts.0 head.0 h head.1 in
    subst SoundPart (ok_is (level_part head.0.0 head.0.1 a.0) part a.2)
    (level_part_sound head.0.0 head.0.1 a.0 sound.no_machine sound.arity (attributes_sound head.0.0 parts.1 a.0 a.1))

memory_part_sound : (kind : Kind) (a : Attributes) → SoundAttributes kind a → SoundPart (memory_part a)
memory_part_sound kind a h = record { level = tt; nodes = record { size = h.memory; given = h.given }; grouped = tt }

named_sound : (name behind : List ℕ) (part : Part) → named_memory name behind ≡ Ok part → SoundPart part
named_sound name behind part e =
    let kind = bind_ok (node_name (name_of name))
    (λ kind. opened behind >>= λ given. attributes_of kind given >>= λ a. Ok (memory_part a)) part e in
    let given = bind_ok (opened behind) (λ given. attributes_of kind.0 given >>= λ a. Ok (memory_part a)) part kind.2 in
    let a = bind_ok (attributes_of kind.0 given.0) (λ a. Ok (memory_part a)) part given.2 in
    subst SoundPart (ok_is (memory_part a.0) part a.2) (memory_part_sound kind.0 a.0 (attributes_sound kind.0 given.0 a.0 a.1))

cut_memory_sound : (parts : List ℕ × Option (List ℕ)) (part : Part) → cut_memory parts ≡ Ok part → SoundPart part
unfolding memory_in_brackets
cut_memory_sound (text, None) part e = absurd cc
cut_memory_sound (text, Some behind) part e =
    named_sound (take_while is_ascii_alphanumeric (without_front is_white text))
    (without_front is_ascii_alphanumeric (without_front is_white text)) part e

pub memory_sound : (text : List ℕ) (part : Part) → memory_of text ≡ Ok part → SoundPart part
unfolding memory_of
memory_sound text part e = cut_memory_sound (first_piece (λ byte. byte == 93) (drop 1 text)) part e

pub untyped_no_machine : (behind : ℕ) → untyped_kind behind ≢ Machine
untyped_no_machine zero = λ e. absurd cc
untyped_no_machine (suc zero) = λ e. absurd cc
untyped_no_machine (suc (suc behind)) = λ e. absurd cc
