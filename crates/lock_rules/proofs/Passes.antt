-- A list of all passes that grows and shrinks at its end.
use Rattle.std.proofs.Common.{◌≡◌, ◌⊎◌, ℕ, zero, suc, ◌+◌, List, [], ◌∷◌, ◌++◌, length, slice_get, refl, ap, sym, ◌∙◌, inl, inr}
use Rattle.std.proofs.Common.{⊎_elim, arith, Some, length-append}
use Rattle.lock_rules.specs.Tag.{Tag}
use Rattle.lock_rules.specs.Meanings.{Place}
use Rattle.lock_rules.specs.Passes.{AreAll}

module _ {P : Type 0} where
  get_end : (l : List P) (a b : P) (i : ℕ) → slice_get (l ++ a ∷ []) i ≡ Some b → (slice_get l i ≡ Some b) ⊎ ((i ≡ length l) × (a ≡ b))
  get_end [] a b zero e = inr (refl, cc)
  get_end [] a b (suc i) e = absurd (cc)
  get_end (x ∷ xs) a b zero e = inl e
  get_end (x ∷ xs) a b (suc i) e = ⊎_elim (λ t. inl t) (λ (t : (i ≡ length xs) × (a ≡ b)). inr (ap suc t.0, t.1)) (get_end xs a b i e)

  get_longer : (l m : List P) (a : P) (i : ℕ) → slice_get l i ≡ Some a → slice_get (l ++ m) i ≡ Some a
  get_longer [] m a i e = absurd (cc)
  get_longer (x ∷ xs) m a zero e = e
  get_longer (x ∷ xs) m a (suc i) e = get_longer xs m a i e

  get_last : (l : List P) (a : P) → slice_get (l ++ a ∷ []) (length l) ≡ Some a
  get_last [] a = refl
  get_last (x ∷ xs) a = get_last xs a

  module _ (place : P → Place) (lock tag : Tag) where
    pub no_passes : AreAll place lock tag 0 []
    no_passes = record { all = refl; each = λ k p e. absurd (cc) }

    pub one_more : (count total : ℕ) (passes : List P) (p : P) → count + 1 ≡ total → AreAll place lock tag count passes
        → place p ≡ record { lock = lock; tag = tag; number = count } → AreAll place lock tag total (passes ++ p ∷ [])
    one_more count total passes p e are is = record {
      all = omega (arith, length-append passes (p ∷ []), are.all);
      each = λ k q at. ⊎_elim (λ (t : slice_get passes k ≡ Some q). are.each k q t)
          (λ (t : (k ≡ length passes) × (p ≡ q)). ap place (sym t.1) ∙ is
          ∙ (λ i. record { lock = lock; tag = tag; number = sym (t.0 ∙ are.all) i })) (get_end passes p q k at);
    }

    -- the last one leaves
    pub one_less : (count : ℕ) (passes rest : List P) (p : P) → passes ≡ rest ++ p ∷ [] → AreAll place lock tag count passes
        → AreAll place lock tag (length rest) rest × (place p ≡ record { lock = lock; tag = tag; number = length rest })
        × (count ≡ length rest + 1)
    one_less count passes rest p cut are = (
      record { all = refl; each = λ k q e. are.each k q (ap (λ (l : List P). slice_get l k) cut ∙ get_longer rest (p ∷ []) q k e) },
      are.each (length rest) p (ap (λ (l : List P). slice_get l (length rest)) cut ∙ get_last rest p),
      omega (arith, length-append rest (p ∷ []), ap length cut, are.all),
    )
