-- Lists of numbers, and lists of such lists, written as trees, and what a tree tells of them.
use Rattle.std.specs.Prelude.{ℕ, List, [], ◌∷◌}
use Rattle.lock_rules.specs.Tag.{Tag, leaf, fork}
use Rattle.lock_rules.specs.Views.{tree_of}

abbrev pub number_in : Tag → ℕ
number_in (leaf n) = n
number_in (fork a b) = 0

abbrev pub list_in : Tag → List ℕ
list_in (leaf n) = []
list_in (fork a b) = number_in a ∷ list_in b

abbrev pub tree_of_lists : List (List ℕ) → Tag
tree_of_lists [] = leaf 0
tree_of_lists (xs ∷ xss) = fork (tree_of xs) (tree_of_lists xss)

abbrev pub lists_in : Tag → List (List ℕ)
lists_in (leaf n) = []
lists_in (fork a b) = list_in a ∷ lists_in b
