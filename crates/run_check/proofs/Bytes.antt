-- Texts that lack a byte, and their cuts.
use Rattle.std.proofs.Common.{◌≡◌, ℕ, zero, suc, ◌+◌, ◌/◌, ◌%◌, ◌<◌, Bool, true, false, List, [], ◌∷◌, ◌++◌, Some, inl, inr, refl, ap}
use Rattle.std.proofs.Common.{arith}
use Rattle.std.specs.Prelude.{decimal, option_map, ◌==◌, if◌then◌else◌}
use Rattle.std.specs.Fmt.{digit_glyph, digits, digits_onto}
use Rattle.std.specs.List.{flat_map}
use Rattle.std.proofs.lemmas.Bool.{cases_Bool, cases_lt, eq-eqb, ne_eqb, lt-ltb, le-ltb}
use Rattle.byte_text.specs.Cuts.{cut, with_byte}
use Rattle.byte_text.specs.Numerals.{lower_hex_digit}

-- no byte of a text is this one
abbrev pub lacks : ℕ → List ℕ → Bool
lacks byte [] = true
lacks byte (first ∷ rest) = if first == byte then false else lacks byte rest

-- so is neither its first one
pub lacks_first : (byte first : ℕ) (rest : List ℕ) → lacks byte (first ∷ rest) ≡ true → (first == byte) ≡ false
lacks_first byte first rest h =
    elim (cases_Bool (first == byte)) [
      | inl same ↦ let none = h in absurd (cc (rw same at none))
      | inr other ↦ other
    ]

pub lacks_rest : (byte first : ℕ) (rest : List ℕ) → lacks byte (first ∷ rest) ≡ true → lacks byte rest ≡ true
lacks_rest byte first rest h = let other = lacks_first byte first rest h in rw other at h

pub lacks_more : (byte first : ℕ) (rest : List ℕ) → (first == byte) ≡ false → lacks byte rest ≡ true → lacks byte (first ∷ rest) ≡ true
lacks_more byte first rest other h = rw other h

pub lacks_both : (byte : ℕ) (xs ys : List ℕ) → lacks byte xs ≡ true → lacks byte ys ≡ true → lacks byte (xs ++ ys) ≡ true
lacks_both byte [] ys xs_lack ys_lack = ys_lack
lacks_both byte (x ∷ xs) ys xs_lack ys_lack =
    lacks_more byte x (xs ++ ys) (lacks_first byte x xs xs_lack) (lacks_both byte xs ys (lacks_rest byte x xs xs_lack) ys_lack)

pub lacks_each : {A : Type 0} (byte : ℕ) (f : A → List ℕ) (xs : List A) → ((x : A) → lacks byte (f x) ≡ true)
    → lacks byte (flat_map f xs) ≡ true
lacks_each byte f [] each = refl
lacks_each byte f (x ∷ xs) each = lacks_both byte (f x) (flat_map f xs) (each x) (lacks_each byte f xs each)

-- a byte below the digits stands in no number
glyph_other : (byte digit : ℕ) → byte < 48 → (digit_glyph false digit == byte) ≡ false
glyph_other byte digit low =
    elim (cases_lt digit 10) [
      | inl small ↦ rw (lt-ltb digit 10 small) (ne_eqb (48 + digit) byte (λ e. omega arith))
      | inr large ↦ rw (le-ltb digit 10 large) (ne_eqb (87 + digit) byte (λ e. omega arith))
    ]

digits_lack : (byte : ℕ) → byte < 48 → (k n : ℕ) (acc : List ℕ) → lacks byte acc ≡ true → lacks byte (digits_onto k 10 false n acc) ≡ true
digits_lack byte low zero n acc h = h
digits_lack byte low (suc k) n acc h =
    let one : lacks byte (digit_glyph false (n % 10) ∷ acc) ≡ true =
    lacks_more byte (digit_glyph false (n % 10)) acc (glyph_other byte (n % 10) low) h in
    elim (cases_Bool (n / 10 == 0)) [
      | inl last ↦ rw last one
      | inr more ↦ rw more (digits_lack byte low k (n / 10) (digit_glyph false (n % 10) ∷ acc) one)
    ]

pub number_lacks : (byte n : ℕ) → byte < 48 → lacks byte (decimal n) ≡ true
unfolding digits
number_lacks byte n low = digits_lack byte low 64 n [] refl

pub hex_other : (byte n : ℕ) → byte < 48 → (lower_hex_digit n == byte) ≡ false
hex_other byte n low =
    elim (cases_lt n 10) [
      | inl small ↦ rw (lt-ltb n 10 small) (ne_eqb (48 + n) byte (λ e. omega arith))
      | inr large ↦ rw (le-ltb n 10 large) (ne_eqb (87 + n) byte (λ e. omega arith))
    ]

-- a text is cut behind a front that lacks the byte
pub cut_there : (byte : ℕ) (front behind : List ℕ) → lacks byte front ≡ true
    → cut (λ other. other == byte) (front ++ byte ∷ behind) ≡ Some (front, behind)
cut_there byte [] behind h = rw (eq-eqb byte byte refl) refl
cut_there byte (first ∷ front) behind h =
    rw (lacks_first byte first front h) (ap (option_map (with_byte first)) (cut_there byte front behind (lacks_rest byte first front h)))
