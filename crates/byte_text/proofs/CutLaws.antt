-- Laws of cuts.
use Rattle.std.proofs.Common.{
  ◌≡◌,
  ℕ,
  zero,
  suc,
  ◌+◌,
  ◌<◌,
  ◌≤◌,
  Bool,
  true,
  false,
  List,
  [],
  ◌∷◌,
  ◌++◌,
  length,
  get_or,
  take,
  drop,
  Option,
  Some,
  None,
  refl,
  sym,
  ap,
  subst,
  ◌∙◌,
  add-one,
  arith,
  inl,
  inr,
}
use Rattle.std.specs.Borrow.{Bor}
use Rattle.std.specs.Prelude.{Contains, option_map, MatchOption, ◌==◌, IfSome}
use Rattle.std.specs.List.{slice_split, onto_first, prefix_len}
use Rattle.std.proofs.Math.Seq.{drop-cons}
use Rattle.std.proofs.lemmas.Bool.{cases_Bool, cases_order, both_ways, ne_eqb, eq-eqb, eqb-true, eqb-false}
use Rattle.std.proofs.lemmas.List.{take-append-drop, length-take, get_or-take}
use Rattle.std.proofs.lemmas.List.Elements.{Contains-get_or}
use Rattle.std.proofs.lemmas.List.Sums.{prefix_len-le-length, prefix_len_passes, prefix_len_stops}
use Rattle.byte_text.specs.Cuts.{IsCutAt, cut, with_byte, piece_or, first_piece, pieces}
use Rattle.byte_text.specs.Views.{texts}

-- a text whose bytes all fail the test isn't cut
pub cut-none : (test : ℕ → Bool) (text : List ℕ) → ((k : ℕ) → k < length text → test (get_or text k 0) ≡ false) → cut test text ≡ None
cut-none test [] h = refl
cut-none test (b ∷ bs) h = rw (h 0 (omega arith), cut-none test bs (λ k lt. h (suc k) (omega arith))) refl

-- a text is cut at its first byte that passes
pub cut-at : (test : ℕ → Bool) (front : List ℕ) (b : ℕ) (behind : List ℕ)
    → ((k : ℕ) → k < length front → test (get_or front k 0) ≡ false) → test b ≡ true → cut test (front ++ b ∷ behind) ≡ Some (front, behind)
cut-at test [] b behind h here = rw here refl
cut-at test (a ∷ front) b behind h here =
    rw (h 0 (omega arith), cut-at test front b behind (λ k lt. h (suc k) (omega arith)) here) refl

-- the pieces of a text are its first piece and the pieces behind it
pub slice_split-first_piece : (test : ℕ → Bool) (text : List ℕ)
    → slice_split test text ≡ (first_piece test text).0 ∷ pieces test (first_piece test text).1
unfolding first_piece
slice_split-first_piece test [] = refl
slice_split-first_piece test (b ∷ bs) =
    elim (cases_Bool (test b)) [
      | inl passes ↦ rw passes refl
      | inr fails ↦ rw (fails, slice_split-first_piece test bs) (onto b (cut test bs))
    ]
  where
    onto : (b : ℕ) (o : Option (List ℕ × List ℕ))
        → onto_first b ((piece_or bs o).0 ∷ pieces test (piece_or bs o).1) ≡ (piece_or (b ∷ bs) (option_map (with_byte b) o)).0 ∷ pieces
        test (piece_or (b ∷ bs) (option_map (with_byte b) o)).1
    onto b None = refl
    onto b (Some parts) = refl

-- so many bytes pass in front of a text
pub prefix_len-is : (test : ℕ → Bool) (text : List ℕ) (n : ℕ) → n ≤ length text → ((k : ℕ) → k < n → test (get_or text k 0) ≡ true)
    → (n < length text → test (get_or text n 0) ≡ false) → prefix_len test text ≡ n
prefix_len-is test text n within passes stops =
    elim (cases_order (prefix_len test text) n) [
      | inl same ↦ same
      | inr other ↦ elim other [
        | inl less ↦ absurd (both_ways _ (prefix_len_stops test text 0 (omega arith)) (passes (prefix_len test text) less))
        | inr more ↦
            let bound = prefix_len-le-length test text in
            absurd (both_ways _ (stops (omega arith)) (prefix_len_passes test text n 0 more))
      ]
    ]

-- ---- a cut at a byte, by the relation and by the list function

pub cut-from_IsCutAt : (byte : ℕ) (text front behind : List ℕ) → IsCutAt byte text front behind
    → cut (λ other. other == byte) text ≡ Some (front, behind)
cut-from_IsCutAt byte text front behind h =
    rw h.parts (cut-at (λ other. other == byte) front byte behind
    (λ k lt. ne_eqb _ _ (λ e. h.first (subst (Contains front) e (Contains-get_or front k 0 lt)))) (eq-eqb byte byte refl))

pub cut-from_lacks : (byte : ℕ) (text : List ℕ) → ¬ (Contains text byte) → cut (λ other. other == byte) text ≡ None
cut-from_lacks byte text h =
    cut-none (λ other. other == byte) text (λ k lt. ne_eqb _ _ (λ e. h (subst (Contains text) e (Contains-get_or text k 0 lt))))

-- no place of a list has the byte, where neither its head nor a place of its rest has
pub lacking : (byte first : ℕ) (more : List ℕ) → (first ≡ byte → ⊥) → ¬ (Contains more byte) → (k : ℕ) → k < length (first ∷ more)
    → get_or (first ∷ more) k byte ≡ byte → ⊥
lacking byte first more other lacks zero within is = other is
lacking byte first more other lacks (suc k) within is = lacks (k, omega arith, is)

-- a list lacks the byte, where its head and its rest do
pub more_lacks : (byte first : ℕ) (more : List ℕ) → (first ≡ byte → ⊥) → ¬ (Contains more byte) → ¬ (Contains (first ∷ more) byte)
more_lacks byte first more other lacks has = lacking byte first more other lacks has.0 has.1 has.2

-- the parts of a cut at a byte, or that the text lacks it
abbrev pub CutsAt : ℕ → List ℕ → Option (List ℕ × List ℕ) → Type 0
CutsAt byte text None = ¬ (Contains text byte)
CutsAt byte text (Some parts) = IsCutAt byte text parts.0 parts.1

cuts_more : (byte first : ℕ) (more : List ℕ) (o : Option (List ℕ × List ℕ)) → (first ≡ byte → ⊥) → CutsAt byte more o
    → CutsAt byte (first ∷ more) (option_map (with_byte first) o)
cuts_more byte first more None other lacks = more_lacks byte first more other lacks
cuts_more byte first more (Some parts) other cuts =
    record { parts = ap (λ (rest : List ℕ). first ∷ rest) cuts.parts; first = more_lacks byte first parts.0 other cuts.first }

-- the cut of a text at a byte is one, and a text that isn't cut lacks the byte
pub cuts_of : (byte : ℕ) (text : List ℕ) → CutsAt byte text (cut (λ other. other == byte) text)
cuts_of byte [] = λ has. absurd (omega (arith, has.1))
cuts_of byte (first ∷ more) =
    elim (cases_Bool (first == byte)) [
      | inl passes ↦ rw passes (record {
        parts = ap (λ b. b ∷ more) (eqb-true first byte passes);
        first =
            λ has. absurd (omega (arith, has.1));
      })
      | inr fails ↦ rw fails (cuts_more byte first more (cut (λ other. other == byte) more) (eqb-false first byte fails)
          (cuts_of byte more))
    ]

pub cuts_at : (byte : ℕ) (text : List ℕ) (r : Option (Bor (List ℕ) × Bor (List ℕ))) → texts r ≡ cut (λ other. other == byte) text
    → MatchOption r (¬ (Contains text byte)) (λ parts. IsCutAt byte text parts.0.now parts.1.now)
cuts_at byte text None is = subst (CutsAt byte text) (sym is) (cuts_of byte text)
cuts_at byte text (Some parts) is = subst (CutsAt byte text) (sym is) (cuts_of byte text)

-- ---- places

-- a text is its front, an element and what stands behind that
pub split_element : (text : List ℕ) (n : ℕ) → n < length text → text ≡ take n text ++ get_or text n 0 ∷ drop (n + 1) text
split_element text n lt = sym (take-append-drop n text) ∙ ap (λ (xs : List ℕ). take n text ++ xs) (rw add-one (drop-cons text n 0 lt))

-- a text is cut at the first place whose byte passes
pub cut-place : (test : ℕ → Bool) (text : List ℕ) (n : ℕ) → n < length text
    → ((k : ℕ) → k < n → test (get_or text k 0) ≡ false) → test (get_or text n 0) ≡ true
    → cut test text ≡ Some (take n text, drop (n + 1) text)
cut-place test text n lt before here =
    ap (cut test) (split_element text n lt)
    ∙ cut-at test (take n text) (get_or text n 0) (drop (n + 1) text)
    (λ k below. let small : k < n = omega (arith, length-take n text) in rw (get_or-take n text k 0 small) (before k small)) here

pub first_piece-none : (test : ℕ → Bool) (text : List ℕ) → ((k : ℕ) → k < length text → test (get_or text k 0) ≡ false)
    → first_piece test text ≡ (text, None)
unfolding first_piece
first_piece-none test text h = ap (piece_or text) (cut-none test text h)

-- the pieces that are left are the first of them and those behind it
pub pieces-next : (test : ℕ → Bool) (rest : Option (List ℕ)) (text : List ℕ) (parts : List ℕ × Option (List ℕ)) → rest ≡ Some text
    → parts ≡ first_piece test text → pieces test rest ≡ parts.0 ∷ pieces test parts.1
pieces-next test rest text parts is cuts = rw (is, cuts) (slice_split-first_piece test text)

-- how many bytes are left, counting the end of a text
abbrev pub left : Option (List ℕ) → ℕ
left None = 0
left (Some text) = length text + 1

shorter_more : (bytes b : ℕ) (o : Option (List ℕ × List ℕ)) → IfSome o (λ parts. length parts.1 < bytes)
    → IfSome (option_map (with_byte b) o) (λ parts. length parts.1 < bytes + 1)
shorter_more bytes b None h = tt
shorter_more bytes b (Some parts) h = omega arith

cut_shorter : (test : ℕ → Bool) (text : List ℕ) → IfSome (cut test text) (λ parts. length parts.1 < length text)
cut_shorter test [] = tt
cut_shorter test (b ∷ bs) =
    elim (cases_Bool (test b)) [
      | inl passes ↦ rw passes (omega arith)
      | inr fails ↦ rw (fails, ← add-one) (shorter_more (length bs) b (cut test bs) (cut_shorter test bs))
    ]

pub left-falls : (test : ℕ → Bool) (rest : Option (List ℕ)) (text : List ℕ) (parts : List ℕ × Option (List ℕ)) → rest ≡ Some text
    → parts ≡ first_piece test text → left parts.1 < left rest
unfolding first_piece
left-falls test rest text parts is cuts = rw (is, cuts) (left_shorter (cut test text) (cut_shorter test text))
  where
    left_shorter : (o : Option (List ℕ × List ℕ)) → IfSome o (λ p. length p.1 < length text) → left (piece_or text o).1 < length text + 1
    left_shorter None h = omega arith
    left_shorter (Some p) h = omega arith
