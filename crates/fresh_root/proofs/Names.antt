-- The tag of a Fresh tells which one it is.
use Rattle.std.proofs.Common.{◌≡◌, ℕ, List, ◌∷◌, ap, sym, ◌∙◌}
use Rattle.atomic_table.specs.Seated.{TableId}
use Rattle.lock_rules.specs.Trees.{list_in}
use Rattle.lock_rules.specs.Views.{tree_of}
use Rattle.lock_rules.proofs.Trees.{list_in-tree_of}
use Rattle.fresh_root.specs.States.{FreshState, fresh_tag}

abbrev numbers_of : TableId → List ℕ
numbers_of z = z.words ∷ z.slots ∷ z.views_name ∷ z.atom ∷ z.block ∷ z.offset ∷ z.slot_names

same_name : (y z : TableId) → numbers_of y ≡ numbers_of z → y ≡ z
same_name y z e =
    let w : y.words ≡ z.words = cc in
    let s : y.slots ≡ z.slots = cc in
    let v : y.views_name ≡ z.views_name = cc in
    let a : y.atom ≡ z.atom = cc in
    let b : y.block ≡ z.block = cc in
    let o : y.offset ≡ z.offset = cc in
    let n : y.slot_names ≡ z.slot_names = cc in
    λ i. record { words = w i; slots = s i; views_name = v i; atom = a i; block = b i; offset = o i; slot_names = n i }

pub tags_tell_lem : {P : Type 0} (f g : FreshState P) → fresh_tag f ≡ fresh_tag g
    → (f.name ≡ g.name) × (f.tokens ≡ g.tokens) × (f.tag ≡ g.tag)
tags_tell_lem f g e =
    let name : tree_of (numbers_of f.name) ≡ tree_of (numbers_of g.name) = cc in
    let tokens : f.tokens ≡ g.tokens = cc in
    let payload : f.tag ≡ g.tag = cc in
    let numbers : numbers_of f.name ≡ numbers_of g.name = sym (list_in-tree_of (numbers_of f.name)) ∙ ap list_in name
    ∙ list_in-tree_of (numbers_of g.name) in
    (same_name f.name g.name numbers, tokens, payload)
