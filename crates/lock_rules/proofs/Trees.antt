-- A list, and a list of lists, is told by its tree.
use Rattle.std.proofs.Common.{◌≡◌, ℕ, List, [], ◌∷◌, refl, ap, sym, ◌∙◌}
use Rattle.lock_rules.specs.Views.{tree_of}
use Rattle.lock_rules.specs.Trees.{list_in, lists_in, tree_of_lists}

pub list_in-tree_of : (xs : List ℕ) → list_in (tree_of xs) ≡ xs
list_in-tree_of [] = refl
list_in-tree_of (x ∷ xs) = λ i. x ∷ list_in-tree_of xs i

pub lists_in-tree_of_lists : (xss : List (List ℕ)) → lists_in (tree_of_lists xss) ≡ xss
lists_in-tree_of_lists [] = refl
lists_in-tree_of_lists (xs ∷ xss) = λ i. list_in-tree_of xs i ∷ lists_in-tree_of_lists xss i

-- two lists of lists with one tree are one
pub tree_of_lists-tells : (xss yss : List (List ℕ)) → tree_of_lists xss ≡ tree_of_lists yss → xss ≡ yss
tree_of_lists-tells xss yss same = sym (lists_in-tree_of_lists xss) ∙ ap lists_in same ∙ lists_in-tree_of_lists yss
