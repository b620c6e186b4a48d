-- What a reading that succeeded has read on its way.
use Rattle.std.proofs.Common.{◌≡◌, ℕ, Bool, true, false, cond, Option, Some, None, Result, Ok, Err, refl}
use Rattle.std.specs.Prelude.{option_map}
use Rattle.std.specs.Option.{option_and_then, ok_or}
use Rattle.synth_text.specs.declared.fault.Flaw.{Flaw}
use Rattle.synth_text.specs.Flaws.{◌>>=◌, or_flaw, placed}

abbrev done : {A E : Type 0} → A → Result A E
done x = Ok x

pub ok_is : {A E : Type 0} (x y : A) → done {E = E} x ≡ Ok y → x ≡ y
ok_is x y e = cc

abbrev some : {A : Type 0} → A → Option A
some x = Some x

pub some_is : {A : Type 0} (x y : A) → some x ≡ Some y → x ≡ y
some_is x y e = cc

-- the value of a first step, and what the next made of it
pub bind_ok : {A B E : Type 0} (first : Result A E) (next : A → Result B E) (y : B) → (first >>= next) ≡ Ok y → (x : A) × (first ≡ Ok x)
    × (next x ≡ Ok y)
bind_ok (Ok x) next y e = (x, refl, e)
bind_ok (Err d) next y e = absurd cc

pub or_flaw-ok : {A : Type 0} (flaw : Flaw) (o : Option A) (x : A) → or_flaw flaw o ≡ Ok x → o ≡ Some x
or_flaw-ok flaw None x e = absurd cc
or_flaw-ok flaw (Some y) x e = cc

-- the value of an option that is there, behind `ok_or`
pub ok_or-ok : {A E : Type 0} (o : Option A) (e : E) (x : A) → done x ≡ ok_or o e → o ≡ Some x
ok_or-ok None e x is = absurd cc
ok_or-ok (Some y) e x is = cc

pub placed-ok : {A : Type 0} (at : ℕ) (r : Result A Flaw) (x : A) → placed at r ≡ Ok x → r ≡ Ok x
placed-ok at (Ok y) x e = cc
placed-ok at (Err flaw) x e = absurd cc

-- a test that let a value pass
pub guard_ok : {A E : Type 0} (b : Bool) (r : Result A E) (d : E) (y : A) → cond b r (Err d) ≡ Ok y → (b ≡ true) × (r ≡ Ok y)
guard_ok true r d y e = (refl, e)
guard_ok false r d y e = absurd cc

pub guard_some : {A : Type 0} (b : Bool) (x y : A) → cond b (Some x) None ≡ Some y → (b ≡ true) × (x ≡ y)
guard_some true x y e = (refl, cc)
guard_some false x y e = absurd cc

pub and_then_some : {A B : Type 0} (next : A → Option B) (o : Option A) (y : B) → option_and_then next o ≡ Some y → (x : A) × (o ≡ Some x)
    × (next x ≡ Some y)
and_then_some next None y e = absurd cc
and_then_some next (Some x) y e = (x, refl, e)

pub option_map_some : {A B : Type 0} (f : A → B) (o : Option A) (y : B) → option_map f o ≡ Some y → (x : A) × (o ≡ Some x) × (f x ≡ y)
option_map_some f None y e = absurd cc
option_map_some f (Some x) y e = (x, refl, some_is (f x) y e)
