-- One more key of a retrieval command.
use Rattle.std.proofs.Common.{◌≡◌, ℕ, List, ◌∷◌, ◌++◌, ◌∙◌, sym, ap, append_assoc}
use Rattle.std.specs.List.{flat_map}

pub given_more : (f : List ℕ → List ℕ) (part more all key : List ℕ) (keys left : List (List ℕ)) → left ≡ key ∷ keys → more ≡ f key
    → part ++ flat_map f left ≡ all → (part ++ more) ++ flat_map f keys ≡ all
given_more f part more all key keys left left_is more_is whole =
    append_assoc part more (flat_map f keys)
    ∙ ap (λ xs. part ++ (xs ++ flat_map f keys)) more_is
    ∙ ap (λ rest. part ++ flat_map f rest) (sym left_is)
    ∙ whole
