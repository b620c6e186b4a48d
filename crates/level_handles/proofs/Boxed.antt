-- Boxes that are taken from the last one on, and the handles that get them.
use Rattle.std.proofs.Common.{◌≡◌, ℕ, zero, suc, ◌+◌, ◌<◌, List, [], ◌∷◌, ◌++◌, length, map, set, reverse, ap, ◌∙◌, subst, arith, Some}
use Rattle.std.specs.Prelude.{slice_get}
use Rattle.std.proofs.lemmas.List.{reverse-append}
use Rattle.std.specs.declared.alloc.Global.{Global}
use Rattle.std_alloc.specs.declared.boxed.Box.{Box}
use Rattle.lock_rules.specs.Tag.{Tag}
use Rattle.clof_compose.proofs.Lists.{length_more, one_before}
use Rattle.own_payload.proofs.Items.{at_end}
use Rattle.level_callers.specs.Seen.{AreFresh, IsFresh, Seen}
use Rattle.level_handles.specs.Calls.{levels_of, seen_of}
use Rattle.level_handles.specs.Making.{IsNew}
use Rattle.level_handles.specs.declared.any_depth.AnyDepth.{AnyDepth}

-- the last one is the first of those that are turned round, and the others stand behind it
pub front_of : {A : Type 0} (Q : ℕ → A → Type 0) (first : ℕ) (xs rest : List A) (x : A) → xs ≡ rest ++ x ∷ []
    → ((k : ℕ) (a : A) → slice_get (reverse xs) k ≡ Some a → Q (first + k) a)
    → Q first x × ((k : ℕ) (a : A) → slice_get (reverse rest) k ≡ Some a → Q (first + 1 + k) a)
front_of {A} Q first xs rest x cut are =
    let turned : reverse xs ≡ x ∷ reverse rest = ap reverse cut ∙ reverse-append rest (x ∷ []) in (
      subst (λ (n : ℕ). Q n x) (omega arith) (are 0 x (ap (λ (l : List A). slice_get l 0) turned)),
      λ k a e. subst (λ (n : ℕ). Q n a) (omega arith) (are (suc k) a (ap (λ (l : List A). slice_get l (suc k)) turned ∙ e)),
    )

-- what holds of the items before one holds of it too, once that is put in its place
pub filled_more : {X Z : Type 0} (f : X → Z) (W : ℕ → Z → Type 0) (xs : List X) (i : ℕ) (x : X) → W i (f x)
    → ((k : ℕ) (h : Z) → k < i → slice_get (map f xs) k ≡ Some h → W k h) → (k : ℕ) (h : Z) → k < i + 1
    → slice_get (map f (set xs i x)) k ≡ Some h → W k h
filled_more f W [] i x new old k h lt e = absurd (cc)
filled_more {X} {Z} f W (z ∷ zs) zero x new old zero h lt e = let same : f x ≡ h = cc in subst (λ (y : Z). W zero y) same new
filled_more f W (z ∷ zs) zero x new old (suc k) h lt e = absurd (omega (arith, lt))
filled_more f W (z ∷ zs) (suc i) x new old zero h lt e = old zero h (omega arith) e
filled_more f W (z ∷ zs) (suc i) x new old (suc k) h lt e =
    filled_more f (λ n. W (suc n)) zs i x new (λ j a l d. old (suc j) a (omega (arith, l)) d) k h (omega (arith, lt)) e

-- the last of some callers goes into a box behind the others
pub boxed_more : (levels : ℕ) (lock : Tag) (before after : List Seen) (one : Seen) (boxes more : List (Box AnyDepth Global))
    (b : Box AnyDepth Global) → before ≡ after ++ one ∷ [] → more ≡ boxes ++ b ∷ [] → seen_of b.value ≡ one
    → levels_of b.value ≡ levels → AreFresh lock before
    → ((k : ℕ) (x : Box AnyDepth Global) → slice_get (reverse boxes) k ≡ Some x → IsNew lock levels (length before + k) x.value)
    → (k : ℕ) (x : Box AnyDepth Global) → slice_get (reverse more) k ≡ Some x → IsNew lock levels (length after + k) x.value
boxed_more levels lock before after one boxes more b cut pushed seen many fresh behind =
    one_before (λ k x. IsNew lock levels k x.value) (length after) (length before) boxes more b (length_more after before one cut) pushed
    (record { fresh = seen ∙ at_end (IsFresh lock) before after one cut fresh; levels_are = many }) behind
