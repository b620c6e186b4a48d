-- The flaw that the reading of attributes finds is the one of the leftmost wrong word.
use Rattle.std.proofs.Common.{◌≡◌, ◌⊎◌, ℕ, Bool, true, false, cond, List, [], ◌∷◌, ◌++◌, Option, Some, None, Ok, Err, refl, sym, ap}
use Rattle.std.proofs.Common.{◌∙◌, inl, inr}
use Rattle.std.specs.Prelude.{◌==◌, ◌&&◌, not, is_some}
use Rattle.std.specs.List.{list_all, slice_split}
use Rattle.std.specs.Option.{option_or}
use Rattle.std.proofs.lemmas.Bool.{cases_Bool, and_parts, and_from, both_ways}
use Rattle.byte_text.specs.Classes.{is_white}
use Rattle.byte_text.specs.Cuts.{cut}
use Rattle.byte_text.proofs.CutLaws.{CutsAt, cuts_of, cut-from_IsCutAt}
use Rattle.synth_text.specs.declared.kind.Kind.{Kind}
use Rattle.synth_text.specs.declared.attributes.Attributes.{Attributes}
use Rattle.synth_text.specs.declared.attributes.Key.{Key}
use Rattle.synth_text.specs.declared.attributes.Key.TheVariants as keys
use Rattle.synth_text.specs.declared.fault.Flaw.{Flaw}
use Rattle.synth_text.specs.declared.fault.Flaw.TheVariants as flaws
use Rattle.synth_text.specs.Sizes.{size_of}
use Rattle.synth_text.specs.IndexTexts.{indexes_of}
use Rattle.synth_text.specs.Flaws.{◌>>=◌}
use Rattle.synth_text.specs.Attributes.{
  takes,
  entry_in,
  value_of,
  words_of,
  said_by,
  flaw_unless,
  flaw_in_value,
  flaw_in_word,
  first_flaw,
  unless_flawed,
  attributes_in,
  closed,
  enclosed,
  attributes_of,
}
use Rattle.synth_text.proofs.Bound.{ok_is, some_is, guard_ok}
use Rattle.synth_spelling.specs.Spelling.{IsValue}
use Rattle.synth_spelling.specs.Refused.{HasKey, value_flaw, WordFlaw, WordsFlaw, IsOpen, EnclosesFlaw, AttributesFlaw}
use Rattle.synth_spelling.proofs.Failing.{err_is, bind_err, guard_err, one_cut, no_cut}
use Rattle.synth_spelling.proofs.Words.{
  entry_spelled,
  entry_read,
  value_lacks,
  value_none,
  value_spelled,
  value_read,
  nothing_of,
  word_spelled,
  word_read,
}

-- ---- values

unless_is : {X : Type 0} (flaw found : Flaw) (o : Option X) → flaw_unless flaw o ≡ Some found → found ≡ flaw
unless_is flaw found None e = sym (some_is flaw found e)
unless_is flaw found (Some x) e = absurd cc

value_told : (key : Key) (value : List ℕ) (flaw : Flaw) → flaw_in_value key value ≡ Some flaw → flaw ≡ value_flaw key
value_told keys.Size value flaw e = unless_is flaws.Attribute flaw (size_of value) e
value_told keys.Memory value flaw e = unless_is flaws.Attribute flaw (size_of value) e
value_told keys.Indexes value flaw e = unless_is flaws.Indexes flaw (indexes_of value) e

value_wrong : (key : Key) (value : List ℕ) (flaw : Flaw) → flaw_in_value key value ≡ Some flaw → ¬ (IsValue key value)
value_wrong key value flaw e h = let wrong = sym (value_read key value h) ∙ e in absurd cc

wrong_value : (key : Key) (value : List ℕ) → ¬ (IsValue key value) → flaw_in_value key value ≡ Some (value_flaw key)
wrong_value key value wrong = by (flaw_in_value key value) refl
  where
    by : (o : Option Flaw) → flaw_in_value key value ≡ o → o ≡ Some (value_flaw key)
    by None is = absurd (wrong (value_spelled key value is))
    by (Some flaw) is = ap Some (value_told key value flaw is)

-- ---- words

-- the test of a word's key
abbrev may_have : Kind → List (List ℕ) → Key → Bool
may_have kind before key = takes kind key && not (is_some (value_of key before))

has_key : (kind : Kind) (before : List (List ℕ)) (word : List ℕ) (entry : Key × List ℕ) → entry_in word ≡ Some entry
    → may_have kind before entry.0 ≡ true → HasKey kind before word entry.0 entry.1
has_key kind before word entry is may =
    let tests = and_parts (takes kind entry.0) (not (is_some (value_of entry.0 before))) may in
    record {
      parts = entry_spelled word entry is;
      taken = tests.0;
      new = value_lacks entry.0 before (nothing_of (value_of entry.0 before) tests.1);
    }

key_found : (kind : Kind) (before : List (List ℕ)) (word : List ℕ) (key : Key) (value : List ℕ) → HasKey kind before word key value
    → entry_in word ≡ Some (key, value)
key_found kind before word key value h = ap entry_in h.parts ∙ entry_read key value

key_may : (kind : Kind) (before : List (List ℕ)) (word : List ℕ) (key : Key) (value : List ℕ) → HasKey kind before word key value
    → may_have kind before key ≡ true
key_may kind before word key value h =
    and_from (takes kind key) (not (is_some (value_of key before))) h.taken
    (ap (λ (o : Option (List ℕ)). not (is_some o)) (value_none key before h.new))

-- a test that let a flaw through, or another
guarded : (test : Bool) (o : Option Flaw) (flaw found : Flaw) → cond test o (Some flaw) ≡ Some found
    → ((test ≡ true) × (o ≡ Some found)) ⊎ ((test ≡ false) × (flaw ≡ found))
guarded true o flaw found e = inl (refl, e)
guarded false o flaw found e = inr (refl, some_is flaw found e)

word_flawed : (kind : Kind) (before : List (List ℕ)) (word : List ℕ) (flaw : Flaw) → flaw_in_word kind before (entry_in word) ≡ Some flaw
    → WordFlaw kind before word flaw
word_flawed kind before word flaw e = by (entry_in word) refl e
  where
    by : (o : Option (Key × List ℕ)) → entry_in word ≡ o → flaw_in_word kind before o ≡ Some flaw → WordFlaw kind before word flaw
    by None is h = inl (record {
      none = λ key value has. let wrong = sym is ∙ key_found kind before word key value has in absurd cc;
      told = sym (some_is flaws.Attribute flaw h);
    })
    by (Some entry) is h =
        elim (guarded (may_have kind before entry.0) (flaw_in_value entry.0 entry.1) flaws.Attribute flaw h) [
          | inl value ↦ inr (record {
            key = entry.0;
            value = entry.1;
            keyed = has_key kind before word entry is value.0;
            wrong = value_wrong entry.0 entry.1 flaw value.1;
            told = value_told entry.0 entry.1 flaw value.1;
          })
          | inr other ↦ inl (record {
            none = λ key value has.
                let same : entry ≡ (key, value) = some_is entry (key, value) (sym is ∙ key_found kind before word key value has) in
                both_ways (may_have kind before entry.0) other.0
                (ap (λ (p : Key × List ℕ). may_have kind before p.0) same ∙ key_may kind before word key value has);
            told = sym other.1;
          })
        ]

flawed_word : (kind : Kind) (before : List (List ℕ)) (word : List ℕ) (flaw : Flaw) → WordFlaw kind before word flaw
    → flaw_in_word kind before (entry_in word) ≡ Some flaw
flawed_word kind before word flaw (inl h) = by (entry_in word) refl
  where
    by : (o : Option (Key × List ℕ)) → entry_in word ≡ o → flaw_in_word kind before o ≡ Some flaw
    by None is = ap Some (sym h.told)
    by (Some entry) is =
        elim (cases_Bool (may_have kind before entry.0)) [
          | inl may ↦ absurd (h.none entry.0 entry.1 (has_key kind before word entry is may))
          | inr other ↦
              ap (λ (b : Bool). cond b (flaw_in_value entry.0 entry.1) (Some flaws.Attribute)) other ∙ ap Some (sym h.told)
        ]
flawed_word kind before word flaw (inr h) =
    ap (flaw_in_word kind before) (key_found kind before word h.key h.value h.keyed)
    ∙ ap (λ (b : Bool). cond b (flaw_in_value h.key h.value) (Some flaws.Attribute)) (key_may kind before word h.key h.value h.keyed)
    ∙ wrong_value h.key h.value h.wrong
    ∙ ap Some (sym h.told)

either_some : {X : Type 0} (a b : Option X) (x : X) → option_or a b ≡ Some x → (a ≡ Some x) ⊎ ((a ≡ None) × (b ≡ Some x))
either_some None b x e = inr (refl, e)
either_some (Some y) b x e = inl e

words_flawed : (kind : Kind) (before words : List (List ℕ)) (flaw : Flaw) → first_flaw kind before words ≡ Some flaw
    → WordsFlaw kind before words flaw
words_flawed kind before [] flaw e = absurd cc
words_flawed kind before (word ∷ words) flaw e =
    elim (either_some (flaw_in_word kind before (entry_in word)) (first_flaw kind (before ++ word ∷ []) words) flaw e) [
      | inl here ↦ inl (word_flawed kind before word flaw here)
      | inr behind ↦
          inr (word_spelled kind before word behind.0, words_flawed kind (before ++ word ∷ []) words flaw behind.1)
    ]

flawed_words : (kind : Kind) (before words : List (List ℕ)) (flaw : Flaw) → WordsFlaw kind before words flaw
    → first_flaw kind before words ≡ Some flaw
flawed_words kind before [] flaw h = absurd h
flawed_words kind before (word ∷ words) flaw (inl h) = rw (flawed_word kind before word flaw h) refl
flawed_words kind before (word ∷ words) flaw (inr h) =
    rw (word_read kind before word h.0) (flawed_words kind (before ++ word ∷ []) words flaw h.1)

-- ---- parentheses

attributes_flawed : (kind : Kind) (text : List ℕ) (flaw : Flaw) → attributes_in kind text ≡ Err flaw
    → WordsFlaw kind [] (words_of (slice_split is_white text)) flaw
unfolding attributes_in
attributes_flawed kind text flaw e = by (first_flaw kind [] (words_of (slice_split is_white text))) refl e
  where
    by : (o : Option Flaw) → first_flaw kind [] (words_of (slice_split is_white text)) ≡ o
        → unless_flawed o (said_by (words_of (slice_split is_white text))) ≡ Err flaw
        → WordsFlaw kind [] (words_of (slice_split is_white text)) flaw
    by None is h = absurd cc
    by (Some found) is h =
        words_flawed kind [] (words_of (slice_split is_white text)) flaw (is ∙ ap Some (err_is {A = Attributes} found flaw h))

flawed_attributes : (kind : Kind) (text : List ℕ) (flaw : Flaw) → WordsFlaw kind [] (words_of (slice_split is_white text)) flaw
    → attributes_in kind text ≡ Err flaw
unfolding attributes_in
flawed_attributes kind text flaw h = rw (flawed_words kind [] (words_of (slice_split is_white text)) flaw h) refl

enclosed_flawed : (kind : Kind) (text : List ℕ) (flaw : Flaw) → (enclosed text >>= λ inner. attributes_in kind inner) ≡ Err flaw
    → IsOpen text flaw ⊎ EnclosesFlaw kind text flaw
unfolding enclosed
enclosed_flawed kind text flaw e = by (cut (λ b. b == 41) text) (cuts_of 41 text) e
  where
    by : (o : Option (List ℕ × List ℕ)) → CutsAt 41 text o → (closed o >>= λ inner. attributes_in kind inner) ≡ Err flaw
        → IsOpen text flaw ⊎ EnclosesFlaw kind text flaw
    by None lacks h = inl (record {
      none = λ inner shut. no_cut 41 text inner shut.behind lacks shut.cut;
      told = sym (err_is {A = Attributes} flaws.Attribute flaw h);
    })
    by (Some parts) cuts h =
        elim (bind_err (closed (Some parts)) (λ inner. attributes_in kind inner) flaw h) [
          | inl unclosed ↦
              elim (guard_err (list_all is_white parts.1) (Ok parts.0) flaws.Attribute flaw unclosed) [
                | inl wrong ↦ absurd cc
                | inr stray ↦ inl (record {
                  none = λ inner shut.
                      let same = one_cut 41 text parts.0 parts.1 inner shut.behind cuts shut.cut in
                      both_ways (list_all is_white parts.1) stray.0 (ap (list_all is_white) same.1 ∙ shut.blank);
                  told = sym stray.1;
                })
              ]
          | inr read ↦
              let g = guard_ok (list_all is_white parts.1) (Ok parts.0) flaws.Attribute read.0 read.1 in
              let same : parts.0 ≡ read.0 = ok_is parts.0 read.0 g.1 in
              inr (record {
                inner = parts.0;
                closed = record { behind = parts.1; cut = cuts; blank = g.0 };
                wrong = attributes_flawed kind parts.0 flaw (ap (λ inner. attributes_in kind inner) same ∙ read.2);
              })
        ]

flawed_enclosed : (kind : Kind) (text : List ℕ) (flaw : Flaw) → IsOpen text flaw ⊎ EnclosesFlaw kind text flaw
    → (enclosed text >>= λ inner. attributes_in kind inner) ≡ Err flaw
unfolding enclosed
flawed_enclosed kind text flaw (inl h) = by (cut (λ b. b == 41) text) (cuts_of 41 text)
  where
    by : (o : Option (List ℕ × List ℕ)) → CutsAt 41 text o → (closed o >>= λ inner. attributes_in kind inner) ≡ Err flaw
    by None lacks = ap Err (sym h.told)
    by (Some parts) cuts =
        elim (cases_Bool (list_all is_white parts.1)) [
          | inl blank ↦ absurd (h.none parts.0 (record { behind = parts.1; cut = cuts; blank = blank }))
          | inr stray ↦ rw stray (ap Err (sym h.told))
        ]
flawed_enclosed kind text flaw (inr h) =
    rw (cut-from_IsCutAt 41 text h.inner h.closed.behind h.closed.cut, h.closed.blank) (flawed_attributes kind h.inner flaw h.wrong)

pub given_flawed : (kind : Kind) (given : Option (List ℕ)) (flaw : Flaw) → attributes_of kind given ≡ Err flaw
    → AttributesFlaw kind given flaw
given_flawed kind None flaw e = absurd cc
given_flawed kind (Some text) flaw e = enclosed_flawed kind text flaw e

pub flawed_given : (kind : Kind) (given : Option (List ℕ)) (flaw : Flaw) → AttributesFlaw kind given flaw
    → attributes_of kind given ≡ Err flaw
flawed_given kind None flaw h = absurd h
flawed_given kind (Some text) flaw h = flawed_enclosed kind text flaw h
