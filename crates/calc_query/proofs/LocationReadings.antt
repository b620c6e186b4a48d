-- Locations and terms, by what their parts say.
use Rattle.std.proofs.Common.{◌≡◌, ℕ, suc, ◌-◌, ◌<◌, ◌≤◌, true, false, cond, ◌==◌, List, [], ◌∷◌, length, drop, get_or, Ok, Err}
use Rattle.std.proofs.Common.{refl, sym, ap, ◌∙◌, arith, inl, inr}
use Rattle.std.specs.Prelude.{Result}
use Rattle.std.specs.Char.{is_ascii_digit}
use Rattle.std.specs.List.{slice_split}
use Rattle.std.proofs.lemmas.List.{length-drop}
use Rattle.cpu_set.specs.Readings.{hex_fault}
use Rattle.synth_text.specs.declared.description.Description.{Description}
use Rattle.synth_text.specs.Flaws.{◌>>=◌}
use Rattle.calc_query.specs.declared.fault.CalcFault.{CalcFault}
use Rattle.calc_query.specs.declared.fault.CalcFault.TheVariants as faults
use Rattle.calc_query.specs.declared.query.Op.{Op}
use Rattle.calc_query.specs.declared.query.Op.TheVariants as ops
use Rattle.calc_query.specs.declared.query.Location.{Location}
use Rattle.calc_query.specs.declared.query.Location.TheVariants as locations
use Rattle.calc_query.specs.Readings.{parts_from, numbers_location, set_or_parts, is_whole, location_of, op_of, op_len, term_of, FailsWith}

-- what fails still fails where more was to be read
pub fails_after : {A B : Type 0} (fault : CalcFault) (reading : Result A CalcFault) (next : A → Result B CalcFault)
    → FailsWith fault reading → FailsWith fault (reading >>= next)
fails_after fault reading next fails = elim fails [ inl is ↦ inl (ap (λ r. r >>= next) is) | inr memory ↦ inr memory ]

-- a word is as long as its operator
pub op_fits : (text : List ℕ) → op_len (op_of text) ≤ length text
op_fits [] = omega arith
op_fits (first ∷ bytes) = short (op_of (first ∷ bytes)) (length bytes)
  where
    short : (op : Op) (more : ℕ) → op_len op ≤ suc more
    short ops.Join more = omega arith
    short ops.Remove more = omega arith
    short ops.Meet more = omega arith
    short ops.Differ more = omega arith

module _ (described : Description) (word at : ℕ) where
  pub location-whole : (text : List ℕ) → is_whole text ≡ true → location_of described word at text ≡ Ok locations.All
  unfolding location_of
  location-whole text whole = ap (λ b. cond b (Ok locations.All) (set_or_parts described word at text)) whole

  pub location-other : (text : List ℕ) → is_whole text ≡ false → location_of described word at text ≡ set_or_parts described word at text
  unfolding location_of
  location-other text other = ap (λ b. cond b (Ok locations.All) (set_or_parts described word at text)) other

  pub location-empty : (text : List ℕ) → length text ≡ 0 → set_or_parts described word at text ≡ Err (faults.Location word at)
  location-empty [] none = refl
  location-empty (byte ∷ bytes) none = absurd (omega arith)

  abbrev in_parts : List ℕ → Result Location CalcFault
  in_parts text = parts_from described word at (slice_split (λ byte. byte == 46) text) >>= λ parts. Ok (locations.Parts parts)

  pub location-set : (text : List ℕ) → 0 < length text → is_ascii_digit (get_or text 0 0) ≡ true
      → set_or_parts described word at text ≡ numbers_location word at text (hex_fault text)
  location-set [] some digit = absurd (omega arith)
  location-set (byte ∷ bytes) some digit = ap
      (λ b. cond b (numbers_location word at (byte ∷ bytes) (hex_fault (byte ∷ bytes))) (in_parts (byte ∷ bytes))) digit

  pub location-parts : (text : List ℕ) → 0 < length text → is_ascii_digit (get_or text 0 0) ≡ false
      → set_or_parts described word at text ≡ in_parts text
  location-parts [] some other = absurd (omega arith)
  location-parts (byte ∷ bytes) some other =
      ap (λ b. cond b (numbers_location word at (byte ∷ bytes) (hex_fault (byte ∷ bytes))) (in_parts (byte ∷ bytes))) other

-- a term is its operator and the location behind it
pub term_reading : (described : Description) (number : ℕ) (word : List ℕ) (op : Op) (len : ℕ) → op ≡ op_of word → len ≡ op_len op
    → term_of described number word ≡ (location_of described number (length word - length (drop len word)) (drop len word) >>=
    λ location. Ok (record { op = op; location = location }))
unfolding term_of
term_reading described number word op len is long =
    let same : len ≡ op_len (op_of word) = long ∙ ap op_len is in
    let at : len ≡ length word - length (drop len word) = omega (arith, same, op_fits word, length-drop len word) in
    sym (ap (λ n. location_of described number n (drop len word) >>= λ location. Ok (record { op = op; location = location })) (sym at)
    ∙ ap (λ n. location_of described number n (drop n word) >>= λ location. Ok (record { op = op; location = location })) same
    ∙ ap (λ o. location_of described number (op_len (op_of word)) (drop (op_len (op_of word)) word) >>=
    λ location. Ok (record { op = o; location = location })) is)

pub term_behind : (described : Description) (number : ℕ) (word : List ℕ) (op : Op) (len : ℕ) (behind : List ℕ) → op ≡ op_of word
    → len ≡ op_len op → behind ≡ drop len word
    → term_of described number word ≡ (location_of described number (length word - length behind) behind >>=
    λ location. Ok (record { op = op; location = location }))
term_behind described number word op len behind is long back =
    term_reading described number word op len is long
    ∙ ap (λ text. location_of described number (length word - length text) text >>=
    λ location. Ok (record { op = op; location = location })) (sym back)
