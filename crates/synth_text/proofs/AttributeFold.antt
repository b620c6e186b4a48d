-- Reading the words one after the other comes to what they say.
use Rattle.std.proofs.Common.{
  ◌≡◌,
  ℕ,
  Bool,
  true,
  false,
  ◌&&◌,
  cond,
  List,
  [],
  ◌∷◌,
  ◌++◌,
  Option,
  Some,
  None,
  Result,
  Ok,
  Err,
  refl,
  sym,
  ap,
  ◌∙◌,
  inl,
  inr,
}
use Rattle.std.specs.Prelude.{◌==◌, is_some, not, option_map}
use Rattle.std.specs.Option.{option_or}
use Rattle.std.specs.List.{slice_split}
use Rattle.std.proofs.lemmas.Bool.{cases_Bool}
use Rattle.std.proofs.lemmas.List.{append-nil, append_assoc}
use Rattle.synth_text.specs.declared.kind.Kind.{Kind}
use Rattle.synth_text.specs.declared.description.Loop.{Loop}
use Rattle.synth_text.specs.declared.description.Indexes.{Indexes}
use Rattle.synth_text.specs.declared.description.Indexes.TheVariants as indexes
use Rattle.synth_text.specs.declared.attributes.Attributes.{Attributes}
use Rattle.synth_text.specs.declared.attributes.Key.{Key}
use Rattle.synth_text.specs.declared.attributes.Key.TheVariants as keys
use Rattle.synth_text.specs.declared.fault.Flaw.{Flaw}
use Rattle.synth_text.specs.declared.fault.Flaw.TheVariants as flaws
use Rattle.byte_text.specs.Classes.{is_white}
use Rattle.byte_text.specs.Cuts.{cut}
use Rattle.synth_text.specs.Flaws.{◌>>=◌, or_flaw}
use Rattle.synth_text.specs.Sizes.{size_of}
use Rattle.synth_text.specs.IndexTexts.{indexes_of}
use Rattle.synth_text.specs.Attributes.{
  key_of,
  takes,
  is_empty,
  words_behind,
  words_of,
  entry_at,
  entry_in,
  same_key,
  value_if,
  value_of,
  said_by,
  flaw_unless,
  flaw_in_value,
  flaw_in_word,
  first_flaw,
  unless_flawed,
  attributes_in,
  no_attributes,
  are_given,
  has,
  AreSaidBy,
}
use Rattle.synth_text.proofs.AttributeSteps.{with_value, with_word, with_next, with_words, with_first}
use Rattle.synth_text.proofs.Bound.{some_is}

-- ---- the value of a key, with one more word

value_if-or : (key : Key) (entry : Option (Key × List ℕ)) (a b : Option (List ℕ))
    → value_if key entry (option_or a b) ≡ option_or (value_if key entry a) b
value_if-or key None a b = refl
value_if-or key (Some entry) a b = by (same_key entry.0 key)
  where
    by : (test : Bool) → cond test (Some entry.1) (option_or a b) ≡ option_or (cond test (Some entry.1) a) b
    by true = refl
    by false = refl

value_of-one_more : (key : Key) (words : List (List ℕ)) (word : List ℕ)
    → value_of key (words ++ word ∷ []) ≡ option_or (value_of key words) (value_if key (entry_in word) None)
value_of-one_more key [] word = refl
value_of-one_more key (first ∷ words) word =
    rw (value_of-one_more key words word) (value_if-or key (entry_in first) (value_of key words) (value_if key (entry_in word) None))

or-none : {X : Type 0} (o : Option X) → option_or o None ≡ o
or-none None = refl
or-none (Some x) = refl

is_none : {X : Type 0} (o : Option X) → is_some o ≡ false → o ≡ None
is_none None e = refl
is_none (Some x) e = absurd cc

value_old : (key other : Key) (words : List (List ℕ)) (word value : List ℕ) → entry_in word ≡ Some (key, value) → same_key key other ≡ false
    → value_of other (words ++ word ∷ []) ≡ value_of other words
value_old key other words word value e differ = rw (value_of-one_more other words word, e, differ) (or-none (value_of other words))

same_key-refl : (key : Key) → same_key key key ≡ true
same_key-refl keys.Size = refl
same_key-refl keys.Memory = refl
same_key-refl keys.Indexes = refl

value_new : (key : Key) (words : List (List ℕ)) (word value : List ℕ) → entry_in word ≡ Some (key, value)
    → is_some (value_of key words) ≡ false → value_of key (words ++ word ∷ []) ≡ Some value
value_new key words word value e new = rw (value_of-one_more key words word, is_none (value_of key words) new, e, same_key-refl key) refl

-- ---- the attributes of one more word

given_of : (test : Bool) (loops : Option (List Loop)) (numbers : Option (List ℕ)) (given : Indexes)
    → cond test (option_map indexes.Loops loops) (option_map indexes.List numbers) ≡ Some given → are_given given ≡ true
given_of true None numbers given e = absurd cc
given_of true (Some loops) numbers given e = rw (← some_is (indexes.Loops loops) given e) refl
given_of false loops None given e = absurd cc
given_of false loops (Some numbers) given e = rw (← some_is (indexes.List numbers) given e) refl

indexes_given : (value : List ℕ) (given : Indexes) → indexes_of value ≡ Some given → are_given given ≡ true
unfolding indexes_of
indexes_given value given e = given_of _ _ _ given e

size_holds : (a : Attributes) (words : List (List ℕ)) (word value : List ℕ) (size : ℕ) → AreSaidBy a words
    → entry_in word ≡ Some (keys.Size, value) → has a keys.Size ≡ false → size_of value ≡ Some size
    → AreSaidBy (record a { size = Some size }) (words ++ word ∷ [])
size_holds a words word value size h e new read =
    let mine = value_new keys.Size words word value e (h.keyed keys.Size ∙ new) in
    let memory = value_old keys.Size keys.Memory words word value e refl in
    let indexes = value_old keys.Size keys.Indexes words word value e refl in
    record {
      said = rw (mine, memory, indexes, read) (ap (λ (a : Attributes). added a) h.said);
      keyed = λ key. keyed_by mine memory indexes key;
    }
  where
    added : Attributes → Attributes
    added a = record a { size = Some size }

    keyed_by : value_of keys.Size (words ++ word ∷ []) ≡ Some value → value_of keys.Memory (words ++ word ∷ []) ≡ value_of keys.Memory words
        → value_of keys.Indexes (words ++ word ∷ []) ≡ value_of keys.Indexes words
        → (key : Key) → is_some (value_of key (words ++ word ∷ [])) ≡ has (record a { size = Some size }) key
    keyed_by mine memory indexes keys.Size = rw mine refl
    keyed_by mine memory indexes keys.Memory = rw memory (h.keyed keys.Memory)
    keyed_by mine memory indexes keys.Indexes = rw indexes (h.keyed keys.Indexes)

memory_holds : (a : Attributes) (words : List (List ℕ)) (word value : List ℕ) (size : ℕ) → AreSaidBy a words
    → entry_in word ≡ Some (keys.Memory, value) → has a keys.Memory ≡ false → size_of value ≡ Some size
    → AreSaidBy (record a { memory = Some size }) (words ++ word ∷ [])
memory_holds a words word value size h e new read =
    let mine = value_new keys.Memory words word value e (h.keyed keys.Memory ∙ new) in
    let sizes = value_old keys.Memory keys.Size words word value e refl in
    let indexes = value_old keys.Memory keys.Indexes words word value e refl in
    record {
      said = rw (mine, sizes, indexes, read) (ap (λ (a : Attributes). added a) h.said);
      keyed = λ key. keyed_by mine sizes indexes key;
    }
  where
    added : Attributes → Attributes
    added a = record a { memory = Some size }

    keyed_by : value_of keys.Memory (words ++ word ∷ []) ≡ Some value → value_of keys.Size (words ++ word ∷ []) ≡ value_of keys.Size words
        → value_of keys.Indexes (words ++ word ∷ []) ≡ value_of keys.Indexes words
        → (key : Key) → is_some (value_of key (words ++ word ∷ [])) ≡ has (record a { memory = Some size }) key
    keyed_by mine sizes indexes keys.Size = rw sizes (h.keyed keys.Size)
    keyed_by mine sizes indexes keys.Memory = rw mine refl
    keyed_by mine sizes indexes keys.Indexes = rw indexes (h.keyed keys.Indexes)

indexes_hold : (a : Attributes) (words : List (List ℕ)) (word value : List ℕ) (given : Indexes) → AreSaidBy a words
    → entry_in word ≡ Some (keys.Indexes, value) → has a keys.Indexes ≡ false → indexes_of value ≡ Some given
    → AreSaidBy (record a { indexes = given }) (words ++ word ∷ [])
indexes_hold a words word value given h e new read =
    let mine = value_new keys.Indexes words word value e (h.keyed keys.Indexes ∙ new) in
    let sizes = value_old keys.Indexes keys.Size words word value e refl in
    let memory = value_old keys.Indexes keys.Memory words word value e refl in
    record {
      said = rw (mine, sizes, memory, read) (ap (λ (a : Attributes). added a) h.said);
      keyed = λ key. keyed_by mine sizes memory key;
    }
  where
    added : Attributes → Attributes
    added a = record a { indexes = given }

    keyed_by : value_of keys.Indexes (words ++ word ∷ []) ≡ Some value → value_of keys.Size (words ++ word ∷ []) ≡ value_of keys.Size words
        → value_of keys.Memory (words ++ word ∷ []) ≡ value_of keys.Memory words
        → (key : Key) → is_some (value_of key (words ++ word ∷ [])) ≡ has (record a { indexes = given }) key
    keyed_by mine sizes memory keys.Size = rw sizes (h.keyed keys.Size)
    keyed_by mine sizes memory keys.Memory = rw memory (h.keyed keys.Memory)
    keyed_by mine sizes memory keys.Indexes = rw mine (sym (indexes_given value given read))

-- ---- a value that is read, and has no flaw

abbrev Added : Key → List ℕ → List (List ℕ) → List ℕ → Attributes → Type 0
Added key value words word a = (flaw_in_value key value ≡ None) × AreSaidBy a (words ++ word ∷ [])

pub size_added : (a : Attributes) (words : List (List ℕ)) (word value : List ℕ) (key : Key) (size : ℕ) → key ≡ keys.Size → AreSaidBy a words
    → entry_in word ≡ Some (key, value) → has a key ≡ false → size_of value ≡ Some size
    → Added key value words word (record a { size = Some size })
size_added a words word value keys.Size size is h e new read = (rw read refl, size_holds a words word value size h e new read)
size_added a words word value keys.Memory size is h e new read = absurd cc
size_added a words word value keys.Indexes size is h e new read = absurd cc

pub memory_added : (a : Attributes) (words : List (List ℕ)) (word value : List ℕ) (key : Key) (size : ℕ) → key ≡ keys.Memory
    → AreSaidBy a words → entry_in word ≡ Some (key, value) → has a key ≡ false → size_of value ≡ Some size
    → Added key value words word (record a { memory = Some size })
memory_added a words word value keys.Memory size is h e new read = (rw read refl, memory_holds a words word value size h e new read)
memory_added a words word value keys.Size size is h e new read = absurd cc
memory_added a words word value keys.Indexes size is h e new read = absurd cc

pub indexes_added : (a : Attributes) (words : List (List ℕ)) (word value : List ℕ) (key : Key) (given : Indexes) → key ≡ keys.Indexes
    → AreSaidBy a words → entry_in word ≡ Some (key, value) → has a key ≡ false → indexes_of value ≡ Some given
    → Added key value words word (record a { indexes = given })
indexes_added a words word value keys.Indexes given is h e new read = (rw read refl, indexes_hold a words word value given h e new read)
indexes_added a words word value keys.Size given is h e new read = absurd cc
indexes_added a words word value keys.Memory given is h e new read = absurd cc

-- ---- reading one word

-- A step fails with a flaw where there is one, else it gives attributes of which something holds.
abbrev Steps : Result Attributes Flaw → Option Flaw → (Attributes → Type 0) → Type 0
Steps step None next = (a : Attributes) × (step ≡ Ok a) × next a
Steps step (Some flaw) next = step ≡ Err flaw

abbrev HoldWith : List (List ℕ) → List ℕ → Attributes → Type 0
HoldWith words word a = AreSaidBy a (words ++ word ∷ [])

value_steps : (a : Attributes) (words : List (List ℕ)) (word value : List ℕ) (key : Key) → AreSaidBy a words
    → entry_in word ≡ Some (key, value) → has a key ≡ false
    → Steps (with_value a key value) (flaw_in_value key value) (HoldWith words word)
value_steps a words word value keys.Size h e new = by (size_of value) refl
  where
    by : (o : Option ℕ) → size_of value ≡ o
        → Steps (or_flaw flaws.Attribute o >>= λ size. Ok (record a { size = Some size })) (flaw_unless flaws.Attribute o)
        (HoldWith words word)
    by None read = refl
    by (Some size) read = (record a { size = Some size }, refl, size_holds a words word value size h e new read)
value_steps a words word value keys.Memory h e new = by (size_of value) refl
  where
    by : (o : Option ℕ) → size_of value ≡ o
        → Steps (or_flaw flaws.Attribute o >>= λ size. Ok (record a { memory = Some size })) (flaw_unless flaws.Attribute o)
        (HoldWith words word)
    by None read = refl
    by (Some size) read = (record a { memory = Some size }, refl, memory_holds a words word value size h e new read)
value_steps a words word value keys.Indexes h e new = by (indexes_of value) refl
  where
    by : (o : Option Indexes) → indexes_of value ≡ o
        → Steps (or_flaw flaws.Indexes o >>= λ given. Ok (record a { indexes = given })) (flaw_unless flaws.Indexes o) (HoldWith words word)
    by None read = refl
    by (Some given) read = (record a { indexes = given }, refl, indexes_hold a words word value given h e new read)

-- a key that the kind takes and that isn't there yet
guarded : (taken there : Bool) (a : Attributes) (words : List (List ℕ)) (word value : List ℕ) (key : Key) → AreSaidBy a words
    → entry_in word ≡ Some (key, value) → has a key ≡ there
    → Steps (cond (taken && not there) (with_value a key value) (Err flaws.Attribute))
    (cond (taken && not there) (flaw_in_value key value) (Some flaws.Attribute)) (HoldWith words word)
guarded true false a words word value key h e new = value_steps a words word value key h e new
guarded true true a words word value key h e new = refl
guarded false there a words word value key h e new = refl

word_steps : (kind : Kind) (a : Attributes) (words : List (List ℕ)) (word : List ℕ) → AreSaidBy a words
    → Steps (with_word kind a word) (flaw_in_word kind words (entry_in word)) (HoldWith words word)
unfolding with_word entry_in
word_steps kind a words word h = cuts (cut (λ byte. byte == 61) word) refl
  where
    keyed : (parts : List ℕ × List ℕ) (k : Option Key) → cut (λ byte. byte == 61) word ≡ Some parts → key_of parts.0 ≡ k
        → Steps (or_flaw flaws.Attribute k >>= λ key. cond (takes kind key && not (has a key)) (with_value a key parts.1)
        (Err flaws.Attribute)) (flaw_in_word kind words (option_map (λ key. (key, parts.1)) k)) (HoldWith words word)
    keyed parts None cuts named = refl
    keyed parts (Some key) cuts named =
        rw (h.keyed key) (guarded (takes kind key) (has a key) a words word parts.1 key h (rw (cuts, named) refl) refl)

    cuts : (o : Option (List ℕ × List ℕ)) → cut (λ byte. byte == 61) word ≡ o
        → Steps (or_flaw flaws.Attribute o >>= λ (parts : List ℕ × List ℕ). or_flaw flaws.Attribute (key_of parts.0) >>= λ key. cond
        (takes kind key && not (has a key)) (with_value a key parts.1) (Err flaws.Attribute))
        (flaw_in_word kind words (entry_at o)) (HoldWith words word)
    cuts None e = refl
    cuts (Some parts) e = keyed parts (key_of parts.0) e refl

-- ---- reading all words

abbrev Reads : Kind → List (List ℕ) → List (List ℕ) → Result Attributes Flaw → Type 0
Reads kind before words reading = reading ≡ unless_flawed (first_flaw kind before words) (said_by (before ++ words))

then_reads : (kind : Kind) (before : List (List ℕ)) (word : List ℕ) (words pieces : List (List ℕ)) (step : Result Attributes Flaw)
    (o : Option Flaw) → Steps step o (HoldWith before word)
    → ((b : Attributes) → HoldWith before word b → Reads kind (before ++ word ∷ []) words (with_words kind b pieces))
    → (step >>= λ next. with_words kind next pieces) ≡ unless_flawed (option_or o (first_flaw kind (before ++ word ∷ []) words))
    (said_by (before ++ word ∷ words))
then_reads kind before word words pieces step (Some flaw) s k = rw s refl
then_reads kind before word words pieces step None s k =
    rw s.1 (k s.0 s.2 ∙ ap (λ (all : List (List ℕ)). unless_flawed (first_flaw kind (before ++ word ∷ []) words) (said_by all))
    (append_assoc before (word ∷ []) words))

words_read : (kind : Kind) (a : Attributes) (before pieces : List (List ℕ)) → AreSaidBy a before
    → Reads kind before (words_behind pieces) (with_words kind a pieces)
unfolding with_next
words_read kind a before [] h = rw append-nil (ap Ok (sym h.said))
words_read kind a before (piece ∷ pieces) h =
    elim (cases_Bool (is_empty piece && not (is_empty pieces))) [
      | inl gap ↦ rw gap (words_read kind a before pieces h)
      | inr word ↦ rw word
          (then_reads kind before piece (words_behind pieces) pieces (with_word kind a piece) (flaw_in_word kind before (entry_in piece))
          (word_steps kind a before piece h)
          (λ b k. words_read kind b (before ++ piece ∷ []) pieces k))
    ]

pub none_hold : AreSaidBy no_attributes []
none_hold = record { said = refl; keyed = λ key. none key }
  where
    none : (key : Key) → is_some (value_of key []) ≡ has no_attributes key
    none keys.Size = refl
    none keys.Memory = refl
    none keys.Indexes = refl

first_reads : (kind : Kind) (pieces : List (List ℕ))
    → with_first kind pieces ≡ unless_flawed (first_flaw kind [] (words_of pieces)) (said_by (words_of pieces))
first_reads kind [] = refl
first_reads kind (piece ∷ pieces) =
    then_reads kind [] piece (words_behind pieces) pieces (with_word kind no_attributes piece) (flaw_in_word kind [] (entry_in piece))
    (word_steps kind no_attributes [] piece none_hold)
    (λ b k. words_read kind b (piece ∷ []) pieces k)

-- what stands in parentheses is read from the left
pub attributes_read : (kind : Kind) (text : List ℕ) → attributes_in kind text ≡ with_first kind (slice_split is_white text)
unfolding attributes_in
attributes_read kind text = sym (first_reads kind (slice_split is_white text))
