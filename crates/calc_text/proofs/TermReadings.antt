-- Terms, read one after another.
use Rattle.std.proofs.Common.{◌≡◌, ℕ, ◌+◌, List, [], ◌∷◌, ◌++◌, Ok, Err, refl, sym, ap, ◌∙◌, append_assoc, inl, inr}
use Rattle.std.specs.Prelude.{Result}
use Rattle.std.proofs.lemmas.List.{append-nil}
use Rattle.synth_text.specs.declared.description.Description.{Description}
use Rattle.synth_text.specs.Flaws.{◌>>=◌}
use Rattle.calc_query.specs.declared.fault.CalcFault.{CalcFault}
use Rattle.calc_query.specs.declared.query.Term.{Term}
use Rattle.calc_query.specs.Readings.{term_of, FailsWith}
use Rattle.calc_text.specs.Reading.{terms_from}

-- what was read, before what is left
abbrev pub after : List Term → Result (List Term) CalcFault → Result (List Term) CalcFault
after terms reading = reading >>= λ more. Ok (terms ++ more)

pub after-nil : (reading : Result (List Term) CalcFault) → after [] reading ≡ reading
after-nil (Ok more) = refl
after-nil (Err fault) = refl

after-cons : (terms : List Term) (term : Term) (reading : Result (List Term) CalcFault)
    → after terms (reading >>= λ more. Ok (term ∷ more)) ≡ after (terms ++ term ∷ []) reading
after-cons terms term (Ok more) = ap Ok (sym (append_assoc terms (term ∷ []) more))
after-cons terms term (Err fault) = refl

module _ (described : Description) (number : ℕ) (terms : List Term) (word : List ℕ) (words : List (List ℕ)) where
  -- one term more
  pub next_term : (term : Term) → term_of described number word ≡ Ok term
      → after terms (terms_from described number (word ∷ words)) ≡ after (terms ++ term ∷ []) (terms_from described (number + 1) words)
  next_term term says =
      ap (λ first. after terms (first >>= λ t. terms_from described (number + 1) words >>= λ more. Ok (t ∷ more))) says
      ∙ after-cons terms term (terms_from described (number + 1) words)

  stops : (fault : CalcFault) → term_of described number word ≡ Err fault
      → after terms (terms_from described number (word ∷ words)) ≡ Err fault
  stops fault says = ap (λ first. after terms (first >>= λ t. terms_from described (number + 1) words >>= λ more. Ok (t ∷ more))) says

  -- the first bad term
  pub term_fails : (fault : CalcFault) → FailsWith fault (term_of described number word)
      → FailsWith fault (after terms (terms_from described number (word ∷ words)))
  term_fails fault fails = elim fails [ inl says ↦ inl (stops fault says) | inr memory ↦ inr memory ]

pub all_read : (terms : List Term) (described : Description) (number : ℕ) → after terms (terms_from described number []) ≡ Ok terms
all_read terms described number = ap Ok (append-nil terms)
