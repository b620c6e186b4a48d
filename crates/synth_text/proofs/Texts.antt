-- Bytes of canonical texts.
use Rattle.std.proofs.Common.{
  ◌≡◌,
  ◌≢◌,
  ℕ,
  zero,
  suc,
  ◌^◌,
  ◌<◌,
  ◌≤◌,
  Bool,
  true,
  false,
  ◌&&◌,
  leb,
  eqb,
  List,
  [],
  ◌∷◌,
  ◌++◌,
  length,
  get_or,
  refl,
  ap,
  ◌∙◌,
  arith,
}
use Rattle.std.specs.Prelude.{not, decimal}
use Rattle.std.specs.Str.Parse.{AllDigits}
use Rattle.std.specs.List.{AllByRecursion, list_all, join_with_byte, slice_split}
use Rattle.std.proofs.lemmas.Bool.{and_parts, leb-true, eqb-false, ne_eqb, not-true, or_from}
use Rattle.std.proofs.lemmas.Fmt.{decimal_is_IsNumeral}
use Rattle.std.proofs.lemmas.Str.Parse.{digit_from_value}
use Rattle.byte_text.specs.Classes.{is_white}

-- ---- bytes of one kind

pub each_append : {X : Type 0} (P : X → Type 0) (xs ys : List X) → AllByRecursion P xs → AllByRecursion P ys → AllByRecursion P (xs ++ ys)
each_append P [] ys h k = k
each_append P (x ∷ xs) ys h k = (h.0, each_append P xs ys h.1 k)

pub each_weaker : {X : Type 0} (P Q : X → Type 0) → ((x : X) → P x → Q x) → (xs : List X) → AllByRecursion P xs → AllByRecursion Q xs
each_weaker P Q weaker [] h = tt
each_weaker P Q weaker (x ∷ xs) h = (weaker x h.0, each_weaker P Q weaker xs h.1)

pub each_at : (P : ℕ → Type 0) (xs : List ℕ) → AllByRecursion P xs → (k : ℕ) → k < length xs → P (get_or xs k 0)
each_at P [] h k lt = absurd (omega arith)
each_at P (x ∷ xs) h zero lt = h.0
each_at P (x ∷ xs) h (suc k) lt = each_at P xs h.1 k (omega arith)

-- a byte that is neither white space nor a bracket nor a parenthesis
abbrev pub IsSolid : ℕ → Type 0
IsSolid b = (42 ≤ b) × (b ≢ 91) × (b ≢ 93)

abbrev pub is_solid : ℕ → Bool
is_solid b = leb 42 b && (not (eqb b 91) && not (eqb b 93))

-- a byte that may stand in parentheses
abbrev pub IsInner : ℕ → Type 0
IsInner b = (b ≢ 41) × (b ≢ 93)

-- a decimal digit
abbrev pub IsDigit : ℕ → Type 0
IsDigit b = (48 ≤ b) × (b ≤ 57)

pub solid_test : (xs : List ℕ) → list_all is_solid xs ≡ true → AllByRecursion IsSolid xs
solid_test [] h = tt
solid_test (x ∷ xs) h =
    let p = and_parts (is_solid x) (list_all is_solid xs) h in
    let q = and_parts (leb 42 x) (not (eqb x 91) && not (eqb x 93)) p.0 in
    let r = and_parts (not (eqb x 91)) (not (eqb x 93)) q.1 in
    ((leb-true 42 x q.0, eqb-false x 91 (not-true _ r.0), eqb-false x 93 (not-true _ r.1)), solid_test xs p.1)

pub solid_not_white : (b : ℕ) → IsSolid b → is_white b ≡ false
solid_not_white b h =
    or_from _ _ (or_from _ _ (or_from _ _ (ne_eqb b 32 (λ e. absurd (omega (arith, h.0)))) (ne_eqb b 9 (λ e. absurd (omega (arith, h.0)))))
    (ne_eqb b 13 (λ e. absurd (omega (arith, h.0))))) (ne_eqb b 10 (λ e. absurd (omega (arith, h.0))))

pub solid_is_inner : (b : ℕ) → IsSolid b → IsInner b
solid_is_inner b h = (λ e. absurd (omega (arith, h.0)), h.2)

pub digit_is_solid : (b : ℕ) → IsDigit b → IsSolid b
digit_is_solid b h = (omega (arith, h.0), λ e. absurd (omega (arith, h.1)), λ e. absurd (omega (arith, h.1)))

each_digit : (ds : List ℕ) → AllDigits 10 ds → AllByRecursion IsDigit ds
each_digit [] h = tt
each_digit (d ∷ ds) h = let r = digit_from_value d h.0 in ((r.0, r.1), each_digit ds h.1)

pub decimal_digits : (n : ℕ) → n < 2 ^ 64 → AllByRecursion IsDigit (decimal n)
decimal_digits n small = each_digit (decimal n) (decimal_is_IsNumeral n small).0.1

pub decimal_some : (n : ℕ) → n < 2 ^ 64 → 0 < length (decimal n)
decimal_some n small = (decimal_is_IsNumeral n small).0.0

-- no byte of a text is this one
pub lacks : (P : ℕ → Type 0) (byte : ℕ) → ((b : ℕ) → P b → b ≢ byte) → (xs : List ℕ) → AllByRecursion P xs → (k : ℕ) → k < length xs
    → eqb (get_or xs k 0) byte ≡ false
lacks P byte apart xs h k lt = ne_eqb (get_or xs k 0) byte (apart (get_or xs k 0) (each_at P xs h k lt))

-- ---- texts with a byte between them

-- no byte of a text passes a test
abbrev pub Lacks : (ℕ → Bool) → List ℕ → Type 0
Lacks test text = AllByRecursion (λ b. test b ≡ false) text

split_alone : (test : ℕ → Bool) (text : List ℕ) → Lacks test text → slice_split test text ≡ text ∷ []
split_alone test [] h = refl
split_alone test (b ∷ bs) h = rw (h.0, split_alone test bs h.1) refl

split_front : (test : ℕ → Bool) (text : List ℕ) (byte : ℕ) (rest : List ℕ) → Lacks test text → test byte ≡ true
    → slice_split test (text ++ byte ∷ rest) ≡ text ∷ slice_split test rest
split_front test [] byte rest h here = rw here refl
split_front test (b ∷ bs) byte rest h here = rw (h.0, split_front test bs byte rest h.1 here) refl

-- the pieces of joined texts are these texts
pub split_joined : (test : ℕ → Bool) (byte : ℕ) (first : List ℕ) (texts : List (List ℕ)) → test byte ≡ true
    → AllByRecursion (Lacks test) (first ∷ texts)
    → slice_split test (join_with_byte byte (first ∷ texts)) ≡ first ∷ texts
split_joined test byte first [] here h = split_alone test first h.0
split_joined test byte first (second ∷ texts) here h =
    split_front test first byte (join_with_byte byte (second ∷ texts)) h.0 here
    ∙ ap (λ (pieces : List (List ℕ)). first ∷ pieces) (split_joined test byte second texts here h.1)

-- what each text keeps, the joined texts keep where the byte between does
pub each_joined : (P : ℕ → Type 0) (byte : ℕ) (texts : List (List ℕ)) → P byte → AllByRecursion (AllByRecursion P) texts
    → AllByRecursion P (join_with_byte byte texts)
each_joined P byte [] here h = tt
each_joined P byte (text ∷ []) here h = h.0
each_joined P byte (text ∷ next ∷ texts) here h =
    each_append P text (byte ∷ join_with_byte byte (next ∷ texts)) h.0 (here, each_joined P byte (next ∷ texts) here h.1)
