-- The attributes that words give are what the words say, and the words are those that the reading lets pass.
use Rattle.std.proofs.Common.{◌≡◌, ◌⊎◌, ℕ, zero, suc, Bool, true, false, cond, ◌&&◌, List, [], ◌∷◌, ◌++◌, Option, Some}
use Rattle.std.proofs.Common.{None, Ok, refl, sym, ap, subst, ◌∙◌, inl, inr, arith}
use Rattle.std.specs.Prelude.{◌==◌, not, is_some, Contains, codes}
use Rattle.std.specs.List.{slice_split}
use Rattle.std.specs.Option.{option_and_then, option_or}
use Rattle.std.specs.Str.{bytes_eq}
use Rattle.std.proofs.lemmas.Bool.{cases_Bool, and_parts, both_ways}
use Rattle.std.proofs.lemmas.List.Elements.{Contains-append_left, Contains-append_right}
use Rattle.std.proofs.lemmas.Slice.Eq.{bytes_eq-Decides}
use Rattle.byte_text.specs.Classes.{is_white}
use Rattle.byte_text.specs.Cuts.{cut}
use Rattle.byte_text.proofs.CutLaws.{CutsAt, cuts_of}
use Rattle.synth_text.specs.declared.kind.Kind.{Kind}
use Rattle.synth_text.specs.declared.description.Indexes.{Indexes}
use Rattle.synth_text.specs.declared.description.Indexes.TheVariants as indexes
use Rattle.synth_text.specs.declared.attributes.Attributes.{Attributes}
use Rattle.synth_text.specs.declared.attributes.Key.{Key}
use Rattle.synth_text.specs.declared.attributes.Key.TheVariants as keys
use Rattle.synth_text.specs.declared.fault.Flaw.{Flaw}
use Rattle.synth_text.specs.declared.fault.Flaw.TheVariants as flaws
use Rattle.synth_text.specs.Sizes.{size_of}
use Rattle.synth_text.specs.IndexTexts.{indexes_of}
use Rattle.synth_text.specs.Attributes.{
  key_of,
  takes,
  entry_at,
  entry_in,
  same_key,
  value_if,
  value_of,
  indexes_or_none,
  said_by,
  words_of,
  flaw_unless,
  flaw_in_value,
  flaw_in_word,
  first_flaw,
  unless_flawed,
  attributes_in,
}
use Rattle.synth_text.proofs.Bound.{ok_is, some_is, option_map_some}
use Rattle.synth_spelling.specs.Spelling.{
  SpellsSize,
  SpellsIndexes,
  key_text,
  IsValue,
  word_of,
  HaveNo,
  IsWord,
  AreWords,
  SaysSize,
  SaysIndexes,
  SayAttributes,
  SpellsWords,
}
use Rattle.synth_spelling.proofs.Values.{size_spelled, size_read, indexes_spelled, indexes_read}

-- ---- elements

pub first : {X : Type 0} (x : X) (xs : List X) (y : X) → x ≡ y → Contains (x ∷ xs) y
first x xs y is = (zero, omega arith, is)

pub later : {X : Type 0} (x : X) (xs : List X) (y : X) → Contains xs y → Contains (x ∷ xs) y
later x xs y (place, within, is) = (suc place, omega (arith, within), is)

pub split : {X : Type 0} (x : X) (xs : List X) (y : X) → Contains (x ∷ xs) y → (x ≡ y) ⊎ Contains xs y
split x xs y (zero, within, is) = inl is
split x xs y (suc place, within, is) = inr (place, omega (arith, within), is)

-- ---- a word

key_spelled : (word : List ℕ) (key : Key) → key_of word ≡ Some key → word ≡ key_text key
unfolding key_of
key_spelled word key e =
    elim (cases_Bool (bytes_eq word (codes "size"))) [
      | inl size ↦ let is = rw size at e in (bytes_eq-Decides word (codes "size")).0 size ∙ ap key_text (some_is keys.Size key is)
      | inr other ↦ let rest = rw other at e in
          elim (cases_Bool (bytes_eq word (codes "memory"))) [
            | inl memory ↦ let is = rw memory at rest in
                (bytes_eq-Decides word (codes "memory")).0 memory ∙ ap key_text (some_is keys.Memory key is)
            | inr another ↦ let last = rw another at rest in
                elim (cases_Bool (bytes_eq word (codes "indexes"))) [
                  | inl given ↦ let is = rw given at last in
                      (bytes_eq-Decides word (codes "indexes")).0 given ∙ ap key_text (some_is keys.Indexes key is)
                  | inr none ↦ let nothing = rw none at last in absurd cc
                ]
          ]
    ]

pub entry_spelled : (word : List ℕ) (entry : Key × List ℕ) → entry_in word ≡ Some entry → word ≡ word_of entry.0 entry.1
unfolding entry_in
entry_spelled word entry e = by (cut (λ b. b == 61) word) (cuts_of 61 word) e
  where
    by : (o : Option (List ℕ × List ℕ)) → CutsAt 61 word o → entry_at o ≡ Some entry → word ≡ word_of entry.0 entry.1
    by None lacks h = absurd cc
    by (Some parts) cuts h =
        let m = option_map_some (λ (key : Key). (key, parts.1)) (key_of parts.0) entry h in
        let same : (m.0, parts.1) ≡ entry = m.2 in
        cuts.parts ∙ ap (λ front. front ++ 61 ∷ parts.1) (key_spelled parts.0 m.0 m.1)
        ∙ ap (λ (p : Key × List ℕ). key_text p.0 ++ 61 ∷ p.1) same

pub entry_read : (key : Key) (value : List ℕ) → entry_in (key_text key ++ 61 ∷ value) ≡ Some (key, value)
unfolding entry_in key_of
entry_read keys.Size value = refl
entry_read keys.Memory value = refl
entry_read keys.Indexes value = refl

-- ---- keys

same_key-refl : (key : Key) → same_key key key ≡ true
same_key-refl keys.Size = refl
same_key-refl keys.Memory = refl
same_key-refl keys.Indexes = refl

same_key-equal : (one other : Key) → same_key one other ≡ true → one ≡ other
same_key-equal keys.Size keys.Size e = refl
same_key-equal keys.Memory keys.Memory e = refl
same_key-equal keys.Indexes keys.Indexes e = refl
same_key-equal keys.Size keys.Memory e = absurd cc
same_key-equal keys.Size keys.Indexes e = absurd cc
same_key-equal keys.Memory keys.Size e = absurd cc
same_key-equal keys.Memory keys.Indexes e = absurd cc
same_key-equal keys.Indexes keys.Size e = absurd cc
same_key-equal keys.Indexes keys.Memory e = absurd cc

-- the first word, when it has the key, and when it hasn't
value_here : (key : Key) (value word : List ℕ) (words : List (List ℕ)) → word ≡ word_of key value → value_of key (word ∷ words) ≡ Some value
value_here key value word words is =
    ap (λ o. value_if key o (value_of key words)) (ap entry_in is ∙ entry_read key value)
    ∙ ap (λ b. cond b (Some value) (value_of key words)) (same_key-refl key)

value_later : (key : Key) (word : List ℕ) (words : List (List ℕ)) → ((value : List ℕ) → ¬ (word ≡ word_of key value))
    → value_of key (word ∷ words) ≡ value_of key words
value_later key word words other = by (entry_in word) refl
  where
    by : (o : Option (Key × List ℕ)) → entry_in word ≡ o → value_if key (entry_in word) (value_of key words) ≡ value_of key words
    by None is = ap (λ o. value_if key o (value_of key words)) is
    by (Some entry) is =
        elim (cases_Bool (same_key entry.0 key)) [
          | inl same ↦ absurd (other entry.1 (entry_spelled word entry is
              ∙ ap (λ (k : Key). word_of k entry.1) (same_key-equal entry.0 key same)))
          | inr apart ↦ ap (λ o. value_if key o (value_of key words)) is ∙ ap (λ b. cond b (Some entry.1) (value_of key words)) apart
        ]

-- whether a word has the key
has_key : (key : Key) (word : List ℕ) → ((value : List ℕ) × (word ≡ word_of key value)) ⊎ ((value : List ℕ) → ¬ (word ≡ word_of key value))
has_key key word = by (entry_in word) refl
  where
    by : (o : Option (Key × List ℕ)) → entry_in word ≡ o
        → ((value : List ℕ) × (word ≡ word_of key value)) ⊎ ((value : List ℕ) → ¬ (word ≡ word_of key value))
    by None is = inr (λ value e. let found = sym is ∙ ap entry_in e ∙ entry_read key value in absurd cc)
    by (Some entry) is =
        elim (cases_Bool (same_key entry.0 key)) [
          | inl same ↦ inl (entry.1, entry_spelled word entry is ∙ ap (λ (k : Key). word_of k entry.1) (same_key-equal entry.0 key same))
          | inr apart ↦ inr (λ value e.
              let found : Some entry ≡ Some (key, value) = sym is ∙ ap entry_in e ∙ entry_read key value in
              let same : same_key entry.0 key ≡ true =
              ap (λ (p : Key × List ℕ). same_key p.0 key) (some_is entry (key, value) found) ∙ same_key-refl key in
              absurd (both_ways (same_key entry.0 key) apart same))
        ]

-- ---- the value of a key

pub value_found : (key : Key) (words : List (List ℕ)) (value : List ℕ) → value_of key words ≡ Some value
    → Contains words (word_of key value)
value_found key [] value e = absurd cc
value_found key (word ∷ words) value e =
    elim (has_key key word) [
      | inl here ↦
          let same : here.0 ≡ value = some_is here.0 value (sym (value_here key here.0 word words here.1) ∙ e) in
          first word words (word_of key value) (here.1 ∙ ap (word_of key) same)
      | inr other ↦ later word words (word_of key value) (value_found key words value (sym (value_later key word words other) ∙ e))
    ]

pub value_lacks : (key : Key) (words : List (List ℕ)) → value_of key words ≡ None → HaveNo key words
value_lacks key [] e value found = absurd (omega (arith, found.1))
value_lacks key (word ∷ words) e value found =
    elim (has_key key word) [
      | inl here ↦ let some = sym (value_here key here.0 word words here.1) ∙ e in absurd cc
      | inr other ↦
          elim (split word words (word_of key value) found) [
            | inl is ↦ other value is
            | inr behind ↦ value_lacks key words (sym (value_later key word words other) ∙ e) value behind
          ]
    ]

pub value_none : (key : Key) (words : List (List ℕ)) → HaveNo key words → value_of key words ≡ None
value_none key [] none = refl
value_none key (word ∷ words) none =
    value_later key word words (λ value is. none value (first word words (word_of key value) is))
    ∙ value_none key words (λ value found. none value (later word words (word_of key value) found))

-- the words behind have none of the keys before
keys_apart : (kind : Kind) (key : Key) (before words : List (List ℕ)) (value : List ℕ) → AreWords kind before words
    → Contains words (word_of key value) → HaveNo key before
keys_apart kind key before [] value are found = absurd (omega (arith, found.1))
keys_apart kind key before (word ∷ words) value are found =
    elim (split word words (word_of key value) found) [
      | inl is ↦ subst (λ (k : Key). HaveNo k before) (one_key are.0 is) are.0.new
      | inr behind ↦ λ other seen. keys_apart kind key (before ++ word ∷ []) words value are.1 behind other
          (Contains-append_left before (word ∷ []) (word_of key other) seen)
    ]
  where
    one_key : (h : IsWord kind before word) → word ≡ word_of key value → h.key ≡ key
    one_key h is =
        let found : Some (h.key, h.value) ≡ Some (key, value) =
        sym (ap entry_in h.parts ∙ entry_read h.key h.value) ∙ ap entry_in is ∙ entry_read key value in
        ap (λ (p : Key × List ℕ). p.0) (some_is (h.key, h.value) (key, value) found)

-- each key's word is the one that the reading finds
pub value_is : (kind : Kind) (key : Key) (before words : List (List ℕ)) (value : List ℕ) → AreWords kind before words
    → Contains words (word_of key value) → value_of key words ≡ Some value
value_is kind key before [] value are found = absurd (omega (arith, found.1))
value_is kind key before (word ∷ words) value are found =
    elim (split word words (word_of key value) found) [
      | inl is ↦ value_here key value word words is
      | inr behind ↦
          value_later key word words (λ other is.
          keys_apart kind key (before ++ word ∷ []) words value are.1 behind other
          (Contains-append_right before (word ∷ []) (word_of key other) (first word [] (word_of key other) is)))
          ∙ value_is kind key (before ++ word ∷ []) words value are.1 behind
    ]

-- its value is one of the key
pub value_good : (kind : Kind) (key : Key) (before words : List (List ℕ)) (value : List ℕ) → AreWords kind before words
    → Contains words (word_of key value) → IsValue key value
value_good kind key before [] value are found = absurd (omega (arith, found.1))
value_good kind key before (word ∷ words) value are found =
    elim (split word words (word_of key value) found) [
      | inl is ↦ good are.0 is
      | inr behind ↦ value_good kind key (before ++ word ∷ []) words value are.1 behind
    ]
  where
    good : (h : IsWord kind before word) → word ≡ word_of key value → IsValue key value
    good h is =
        let found : Some (h.key, h.value) ≡ Some (key, value) =
        sym (ap entry_in h.parts ∙ entry_read h.key h.value) ∙ ap entry_in is ∙ entry_read key value in
        subst (λ (p : Key × List ℕ). IsValue p.0 p.1) (some_is (h.key, h.value) (key, value) found) h.valued

-- ---- which words pass

some_bytes : (value : List ℕ) (o : Option ℕ) → size_of value ≡ o → flaw_unless flaws.Attribute o ≡ None
    → (bytes : ℕ) × SpellsSize value bytes
some_bytes value None is e = absurd cc
some_bytes value (Some bytes) is e = (bytes, size_spelled value bytes is)

some_given : (value : List ℕ) (o : Option Indexes) → indexes_of value ≡ o → flaw_unless flaws.Indexes o ≡ None
    → (given : Indexes) × SpellsIndexes value given
some_given value None is e = absurd cc
some_given value (Some given) is e = (given, indexes_spelled value given is)

pub value_spelled : (key : Key) (value : List ℕ) → flaw_in_value key value ≡ None → IsValue key value
value_spelled keys.Size value e = some_bytes value (size_of value) refl e
value_spelled keys.Memory value e = some_bytes value (size_of value) refl e
value_spelled keys.Indexes value e = some_given value (indexes_of value) refl e

pub value_read : (key : Key) (value : List ℕ) → IsValue key value → flaw_in_value key value ≡ None
value_read keys.Size value h = ap (flaw_unless flaws.Attribute) (size_read value h.0 h.1)
value_read keys.Memory value h = ap (flaw_unless flaws.Attribute) (size_read value h.0 h.1)
value_read keys.Indexes value h = ap (flaw_unless flaws.Indexes) (indexes_read value h.0 h.1)

-- a test that let a flaw through, or another
unflawed : (test : Bool) (o : Option Flaw) (flaw : Flaw) → cond test o (Some flaw) ≡ None → (test ≡ true) × (o ≡ None)
unflawed true o flaw e = (refl, e)
unflawed false o flaw e = absurd cc

pub nothing_of : {X : Type 0} (o : Option X) → not (is_some o) ≡ true → o ≡ None
nothing_of None e = refl
nothing_of (Some x) e = absurd cc

pub word_spelled : (kind : Kind) (before : List (List ℕ)) (word : List ℕ) → flaw_in_word kind before (entry_in word) ≡ None
    → IsWord kind before word
word_spelled kind before word e = by (entry_in word) refl e
  where
    by : (o : Option (Key × List ℕ)) → entry_in word ≡ o → flaw_in_word kind before o ≡ None → IsWord kind before word
    by None is h = absurd cc
    by (Some entry) is h =
        let u = unflawed (takes kind entry.0 && not (is_some (value_of entry.0 before))) (flaw_in_value entry.0 entry.1) flaws.Attribute h
        in
        let tests = and_parts (takes kind entry.0) (not (is_some (value_of entry.0 before))) u.0 in
        record {
          key = entry.0;
          value = entry.1;
          parts = entry_spelled word entry is;
          taken = tests.0;
          new = value_lacks entry.0 before (nothing_of (value_of entry.0 before) tests.1);
          valued = value_spelled entry.0 entry.1 u.1;
        }

pub word_read : (kind : Kind) (before : List (List ℕ)) (word : List ℕ) → IsWord kind before word
    → flaw_in_word kind before (entry_in word) ≡ None
word_read kind before word h =
    let is : entry_in word ≡ Some (h.key, h.value) = ap entry_in h.parts ∙ entry_read h.key h.value in
    rw (is, h.taken, value_none h.key before h.new) (value_read h.key h.value h.valued)

both_none : {X : Type 0} (a b : Option X) → option_or a b ≡ None → (a ≡ None) × (b ≡ None)
both_none None b e = (refl, e)
both_none (Some x) b e = absurd cc

words_spelled : (kind : Kind) (before words : List (List ℕ)) → first_flaw kind before words ≡ None → AreWords kind before words
words_spelled kind before [] e = tt
words_spelled kind before (word ∷ words) e =
    let two = both_none (flaw_in_word kind before (entry_in word)) (first_flaw kind (before ++ word ∷ []) words) e in
    (word_spelled kind before word two.0, words_spelled kind (before ++ word ∷ []) words two.1)

words_read : (kind : Kind) (before words : List (List ℕ)) → AreWords kind before words → first_flaw kind before words ≡ None
words_read kind before [] h = refl
words_read kind before (word ∷ words) h = rw (word_read kind before word h.0) (words_read kind (before ++ word ∷ []) words h.1)

-- ---- what words say

size_said : (key : Key) (words : List (List ℕ))
    → ((value : List ℕ) → Contains words (word_of key value) → (bytes : ℕ) × SpellsSize value bytes)
    → SaysSize key words (option_and_then size_of (value_of key words))
size_said key words good = by (value_of key words) refl
  where
    by : (o : Option (List ℕ)) → value_of key words ≡ o → SaysSize key words (option_and_then size_of o)
    by None is = value_lacks key words is
    by (Some value) is =
        let found = value_found key words value is in
        let spelled = good value found in
        subst (SaysSize key words) (sym (size_read value spelled.0 spelled.1)) (value, found, spelled.1)

indexes_said : (words : List (List ℕ))
    → ((value : List ℕ) → Contains words (word_of keys.Indexes value) → (given : Indexes) × SpellsIndexes value given)
    → SaysIndexes words (indexes_or_none (option_and_then indexes_of (value_of keys.Indexes words)))
indexes_said words good = by (value_of keys.Indexes words) refl
  where
    says : (value : List ℕ) (given : Indexes) → Contains words (word_of keys.Indexes value) → SpellsIndexes value given
        → SaysIndexes words given
    says value indexes.Ordered found spelled = absurd spelled
    says value (indexes.List numbers) found spelled = (value, found, spelled)
    says value (indexes.Loops loops) found spelled = (value, found, spelled)

    by : (o : Option (List ℕ)) → value_of keys.Indexes words ≡ o → SaysIndexes words (indexes_or_none (option_and_then indexes_of o))
    by None is = value_lacks keys.Indexes words is
    by (Some value) is =
        let found = value_found keys.Indexes words value is in
        let spelled = good value found in
        subst (λ o. SaysIndexes words (indexes_or_none o)) (sym (indexes_read value spelled.0 spelled.1))
        (says value spelled.0 found spelled.1)

say_said : (kind : Kind) (words : List (List ℕ)) → AreWords kind [] words → SayAttributes words (said_by words)
say_said kind words are = record {
  size = size_said keys.Size words (λ value found. value_good kind keys.Size [] words value are found);
  memory = size_said keys.Memory words (λ value found. value_good kind keys.Memory [] words value are found);
  indexes = indexes_said words (λ value found. value_good kind keys.Indexes [] words value are found);
}

size_was : (kind : Kind) (key : Key) (words : List (List ℕ)) (o : Option ℕ) → AreWords kind [] words → SaysSize key words o
    → option_and_then size_of (value_of key words) ≡ o
size_was kind key words None are says = ap (option_and_then size_of) (value_none key words says)
size_was kind key words (Some bytes) are says =
    ap (option_and_then size_of) (value_is kind key [] words says.0 are says.1) ∙ size_read says.0 bytes says.2

indexes_were : (kind : Kind) (words : List (List ℕ)) (given : Indexes) → AreWords kind [] words → SaysIndexes words given
    → indexes_or_none (option_and_then indexes_of (value_of keys.Indexes words)) ≡ given
indexes_were kind words indexes.Ordered are says =
    ap (λ o. indexes_or_none (option_and_then indexes_of o)) (value_none keys.Indexes words says)
indexes_were kind words (indexes.List numbers) are says =
    ap (λ o. indexes_or_none (option_and_then indexes_of o)) (value_is kind keys.Indexes [] words says.0 are says.1)
    ∙ ap indexes_or_none (indexes_read says.0 (indexes.List numbers) says.2)
indexes_were kind words (indexes.Loops loops) are says =
    ap (λ o. indexes_or_none (option_and_then indexes_of o)) (value_is kind keys.Indexes [] words says.0 are says.1)
    ∙ ap indexes_or_none (indexes_read says.0 (indexes.Loops loops) says.2)

said_say : (kind : Kind) (words : List (List ℕ)) (a : Attributes) → AreWords kind [] words → SayAttributes words a → said_by words ≡ a
said_say kind words a are says =
    rw (
      size_was kind keys.Size words a.size are says.size,
      size_was kind keys.Memory words a.memory are says.memory,
      indexes_were kind words a.indexes are says.indexes,
    ) refl

-- ---- attributes

pub attributes_spelled : (kind : Kind) (text : List ℕ) (a : Attributes) → attributes_in kind text ≡ Ok a → SpellsWords kind text a
unfolding attributes_in
attributes_spelled kind text a e = by (first_flaw kind [] (words_of (slice_split is_white text))) refl e
  where
    by : (o : Option Flaw) → first_flaw kind [] (words_of (slice_split is_white text)) ≡ o
        → unless_flawed o (said_by (words_of (slice_split is_white text))) ≡ Ok a → SpellsWords kind text a
    by None is h =
        let words = words_of (slice_split is_white text) in
        let are = words_spelled kind [] words is in
        record { words = are; say = subst (SayAttributes words) (ok_is (said_by words) a h) (say_said kind words are) }
    by (Some flaw) is h = absurd cc

pub attributes_read_of : (kind : Kind) (text : List ℕ) (a : Attributes) → SpellsWords kind text a → attributes_in kind text ≡ Ok a
unfolding attributes_in
attributes_read_of kind text a h =
    let words = words_of (slice_split is_white text) in
    rw (words_read kind [] words h.words) (ap Ok (said_say kind words a h.words h.say))
