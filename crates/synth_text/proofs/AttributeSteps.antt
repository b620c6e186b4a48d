-- Reading the words of attributes one after the other, which comes to what they say.
use Rattle.std.specs.Prelude.{ℕ, Bool, ◌&&◌, not, ◌==◌, List, [], ◌∷◌, Some, Result, Ok, Err, if◌then◌else◌}
use Rattle.synth_text.specs.declared.kind.Kind.{Kind}
use Rattle.synth_text.specs.declared.attributes.Attributes.{Attributes}
use Rattle.synth_text.specs.declared.attributes.Key.{Key}
use Rattle.synth_text.specs.declared.attributes.Key.TheVariants as keys
use Rattle.synth_text.specs.declared.fault.Flaw.{Flaw}
use Rattle.synth_text.specs.declared.fault.Flaw.TheVariants as flaws
use Rattle.byte_text.specs.Cuts.{cut}
use Rattle.synth_text.specs.Flaws.{◌>>=◌, or_flaw}
use Rattle.synth_text.specs.Sizes.{size_of}
use Rattle.synth_text.specs.IndexTexts.{indexes_of}
use Rattle.synth_text.specs.Attributes.{key_of, takes, has, is_empty, no_attributes}

-- the attributes with the value of a key
abbrev pub with_value : Attributes → Key → List ℕ → Result Attributes Flaw
with_value attributes keys.Size value = or_flaw flaws.Attribute (size_of value) >>= λ size. Ok (record attributes { size = Some size })
with_value attributes keys.Memory value = or_flaw flaws.Attribute (size_of value) >>= λ size. Ok (record attributes { memory = Some size })
with_value attributes keys.Indexes value = or_flaw flaws.Indexes (indexes_of value) >>= λ given. Ok (record attributes { indexes = given })

-- the attributes with one more word of a kind's item, whose key isn't among them yet
unfoldable pub with_word : Kind → Attributes → List ℕ → Result Attributes Flaw
with_word kind attributes word = do
  parts ← or_flaw flaws.Attribute (cut (λ byte. byte == 61) word)
  key ← or_flaw flaws.Attribute (key_of parts.0)
  if takes kind key && not (has attributes key) then with_value attributes key parts.1 else Err flaws.Attribute

-- the attributes with a word behind the first; an empty one with more behind it lies in a gap of several white bytes
unfoldable pub with_next : Kind → Attributes → List ℕ → Bool → Result Attributes Flaw
with_next kind attributes word is_more = if is_empty word && is_more then Ok attributes else with_word kind attributes word

-- the pieces behind the first, from the left
abbrev pub with_words : Kind → Attributes → List (List ℕ) → Result Attributes Flaw
with_words kind attributes [] = Ok attributes
with_words kind attributes (word ∷ words) = with_next kind attributes word (not (is_empty words)) >>= λ next. with_words kind next words

-- the pieces from the left
abbrev pub with_first : Kind → List (List ℕ) → Result Attributes Flaw
with_first kind [] = Ok no_attributes
with_first kind (word ∷ words) = with_word kind no_attributes word >>= λ attributes. with_words kind attributes words
