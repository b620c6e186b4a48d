-- Reading the pieces of a value one after the other.
use Rattle.std.proofs.Common.{◌≡◌, ℕ, List, [], ◌∷◌, ◌++◌, Option, Some, None, Ok, Err, refl, sym, ap, ◌∙◌, append_assoc}
use Rattle.std.specs.Prelude.{option_map}
use Rattle.std.specs.Option.{ok_or}
use Rattle.synth_text.specs.declared.fault.Flaw.{Flaw}
use Rattle.std.proofs.lemmas.List.{append-nil}
use Rattle.synth_text.specs.IndexTexts.{entries_of}

-- the entries so far before those that are left
abbrev pub after : {X : Type 0} → List X → Option (List X) → Option (List X)
after entries rest = option_map (λ others. entries ++ others) rest

after-cons : {X : Type 0} (entries : List X) (entry : X) (rest : Option (List X))
    → after entries (option_map (λ others. entry ∷ others) rest) ≡ after (entries ++ entry ∷ []) rest
after-cons entries entry None = refl
after-cons entries entry (Some others) = ap Some (simp append_assoc)

pub goes_on : {X : Type 0} (says : List ℕ → Option X) (entries : List X) (piece : List ℕ) (entry : X) (rest : List (List ℕ))
    (total : Option (List X))
    → says piece ≡ Some entry → after entries (entries_of says (piece ∷ rest)) ≡ total
    → after (entries ++ entry ∷ []) (entries_of says rest) ≡ total
goes_on says entries piece entry rest total said so_far =
    let one : after entries (entries_of says (piece ∷ rest)) ≡ after (entries ++ entry ∷ []) (entries_of says rest) =
    rw said (after-cons entries entry (entries_of says rest)) in
    sym one ∙ so_far

pub ends : {X : Type 0} (says : List ℕ → Option X) (entries : List X) (piece : List ℕ) (rest : List (List ℕ)) (total : Option (List X))
    → says piece ≡ None → after entries (entries_of says (piece ∷ rest)) ≡ total → total ≡ None
ends says entries piece rest total said so_far =
    let one : after entries (entries_of says (piece ∷ rest)) ≡ None = rw said refl in
    sym so_far ∙ one

pub is_done : {X : Type 0} (entries : List X) (total : Option (List X)) → after entries (Some []) ≡ total → total ≡ Some entries
is_done entries total so_far = sym so_far ∙ ap Some (append-nil entries)

-- what `ok_or` refused
pub ok_or_err : {X : Type 0} (o : Option X) (flaw e : Flaw) → ok_or o flaw ≡ Err e → (o ≡ None) × (flaw ≡ e)
ok_or_err None flaw e h = (refl, cc)
ok_or_err (Some x) flaw e h = absurd cc

pub ok_or_ok : {X : Type 0} (o : Option X) (flaw : Flaw) (x : X) → ok_or o flaw ≡ Ok x → o ≡ Some x
ok_or_ok None flaw x h = absurd cc
ok_or_ok (Some y) flaw x h = cc
