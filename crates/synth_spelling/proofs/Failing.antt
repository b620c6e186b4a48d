-- Where a reading that failed has failed.
use Rattle.std.proofs.Common.{◌≡◌, ◌⊎◌, ℕ, Bool, true, false, cond, List, Option, Some, None, Result, Ok, Err, refl, sym, ap, ◌∙◌, inl, inr}
use Rattle.byte_text.specs.Cuts.{IsCutAt}
use Rattle.byte_text.proofs.CutLaws.{cut-from_IsCutAt, cut-from_lacks}
use Rattle.std.specs.Prelude.{Contains}
use Rattle.synth_text.specs.declared.fault.Flaw.{Flaw}
use Rattle.synth_text.specs.Flaws.{◌>>=◌, or_flaw}
use Rattle.synth_text.proofs.Bound.{some_is}

abbrev failed : {A E : Type 0} → E → Result A E
failed e = Err e

pub err_is : {A E : Type 0} (x y : E) → failed {A = A} x ≡ Err y → x ≡ y
err_is x y e = cc

pub ok_not_err : {A E : Type 0} (r : Result A E) (x : A) (e : E) → r ≡ Ok x → r ≡ Err e → ⊥
ok_not_err r x e ok err = let wrong = sym ok ∙ err in absurd cc

-- the first step failed, or the next on what it gave
pub bind_err : {A B E : Type 0} (one : Result A E) (next : A → Result B E) (e : E) → (one >>= next) ≡ Err e
    → (one ≡ Err e) ⊎ ((x : A) × (one ≡ Ok x) × (next x ≡ Err e))
bind_err (Ok x) next e h = inr (x, refl, h)
bind_err (Err d) next e h = inl (ap Err (err_is d e h))

-- a test that let a reading pass that failed, or let none pass
pub guard_err : {A E : Type 0} (b : Bool) (r : Result A E) (d e : E) → cond b r (Err d) ≡ Err e
    → ((b ≡ true) × (r ≡ Err e)) ⊎ ((b ≡ false) × (d ≡ e))
guard_err true r d e h = inl (refl, h)
guard_err false r d e h = inr (refl, err_is d e h)

pub or_flaw_err : {A : Type 0} (flaw found : Flaw) (o : Option A) → or_flaw flaw o ≡ Err found → flaw ≡ found
or_flaw_err flaw found None h = err_is flaw found h
or_flaw_err flaw found (Some x) h = absurd cc

-- a text has one cut at a byte
pub one_cut : (byte : ℕ) (text front behind other rest : List ℕ) → IsCutAt byte text front behind → IsCutAt byte text other rest
    → (front ≡ other) × (behind ≡ rest)
one_cut byte text front behind other rest one second =
    let same : (front, behind) ≡ (other, rest) =
    some_is (front, behind) (other, rest)
    (sym (cut-from_IsCutAt byte text front behind one) ∙ cut-from_IsCutAt byte text other rest second) in
    (ap (λ (p : List ℕ × List ℕ). p.0) same, ap (λ (p : List ℕ × List ℕ). p.1) same)

-- and none where it lacks the byte
pub no_cut : (byte : ℕ) (text front behind : List ℕ) → ¬ (Contains text byte) → IsCutAt byte text front behind → ⊥
no_cut byte text front behind lacks cuts =
    let wrong = sym (cut-from_lacks byte text lacks) ∙ cut-from_IsCutAt byte text front behind cuts in absurd cc
