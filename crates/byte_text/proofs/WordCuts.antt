-- The words of a text that is cut at its first space.
use Rattle.std.proofs.Common.{cond, suc, ◌≡◌, ℕ, ◌<◌, List, [], ◌∷◌, length, get_or, eqb, ltb, true, false, subst, ap, ◌∙◌, refl, arith}
use Rattle.std.specs.List.{All, Contains, slice_split, filter}
use Rattle.std.proofs.lemmas.List.Elements.{Contains-get_or}
use Rattle.std.proofs.lemmas.List.Splits.{slice_split_at, slice_split_none}
use Rattle.std.proofs.lemmas.Bool.Decides.{nat_tests}
use Rattle.byte_text.specs.Cuts.{IsCutAt}
use Rattle.byte_text.specs.Words.{words}

-- where a text lacks a byte, each of its bytes fails the test for it
pub fails_each : (byte : ℕ) (text : List ℕ) → ¬ (Contains text byte) → All (λ x. eqb x byte ≡ false) text
fails_each byte text lacks = λ k d within.
    let other : get_or text k d ≡ byte → ⊥ = λ same. lacks (subst (λ x. Contains text x) same (Contains-get_or text k d within)) in
    grind (arith, nat_tests)

-- a word that isn't empty passes the test for it
kept : {X : Type 0} (n : ℕ) (x y : X) → cond (ltb 0 (suc n)) x y ≡ x
kept n x y =
    let passes : ltb 0 (suc n) ≡ true = grind (arith, nat_tests) in
    ap (λ b. cond b x y) passes

split_cut : (text before behind : List ℕ) → IsCutAt 32 text before behind
    → slice_split (λ x. eqb x 32) text ≡ before ∷ slice_split (λ x. eqb x 32) behind
split_cut text before behind cut =
    rw cut.parts (slice_split_at (λ x. eqb x 32) before 32 behind (fails_each 32 before cut.first) refl)

-- behind a space that begins the text, the words are those behind it
pub words_behind : (text behind : List ℕ) → IsCutAt 32 text [] behind → words text ≡ words behind
words_behind text behind cut = ap (filter (λ word. ltb 0 (length word))) (split_cut text [] behind cut)

-- the bytes before the first space are the first word, where there are some
pub words_cut : (text before behind : List ℕ) → IsCutAt 32 text before behind → 0 < length before → words text ≡ before ∷ words behind
words_cut text [] behind cut some = absurd (omega arith)
words_cut text (byte ∷ before) behind cut some = ap (filter (λ word. ltb 0 (length word))) (split_cut text (byte ∷ before) behind cut)
    ∙ kept (length before) ((byte ∷ before) ∷ words behind) (words behind)

-- a text without a space is one word, where it isn't empty
pub words_whole : (text : List ℕ) → ¬ (Contains text 32) → 0 < length text → words text ≡ text ∷ []
words_whole [] lacks some = absurd (omega arith)
words_whole (byte ∷ text) lacks some =
    ap (filter (λ word. ltb 0 (length word))) (slice_split_none (λ x. eqb x 32) (byte ∷ text) (fails_each 32 (byte ∷ text) lacks))
    ∙ kept (length text) ((byte ∷ text) ∷ []) []
