-- What the tag of a root tells.
use Rattle.std.specs.Prelude.{ℕ, Bool, cond, ◌==◌, List, [], ◌∷◌}
use Rattle.atomic_table.specs.Seated.{TableId}
use Rattle.lock_rules.specs.Tag.{Tag, leaf, fork}
use Rattle.lock_rules.specs.Trees.{list_in, lists_in, tree_of_lists}
use Rattle.lock_rules.specs.Views.{tree_of}
use Rattle.keep_local.specs.declared.shape.Shape.{Shape}

-- what names a trail, its table and that of its receipts, whether it keeps its turns in memory, its shape and its quotas, and the payload's
-- tag
pub record Course : Type 0 where
  pub name : TableId
  pub receipts : TableId
  pub recorded : Bool
  pub shape : Shape
  pub quotas : List ℕ
  pub payload : Tag

abbrev pub left_of : Tag → Tag
left_of (leaf n) = leaf 0
left_of (fork a b) = a

abbrev pub right_of : Tag → Tag
right_of (leaf n) = leaf 0
right_of (fork a b) = b

abbrev pub tail_of : List ℕ → List ℕ
tail_of [] = []
tail_of (x ∷ xs) = xs

abbrev pub head_of : List ℕ → ℕ
head_of [] = 0
head_of (x ∷ xs) = x

abbrev pub tree_of_name : TableId → Tag
tree_of_name z = tree_of (z.words ∷ z.slots ∷ z.views_name ∷ z.atom ∷ z.block ∷ z.offset ∷ z.slot_names)

abbrev pub name_from : List ℕ → TableId
name_from l0 = let l1 = tail_of l0 in let l2 = tail_of l1 in let l3 = tail_of l2 in let l4 = tail_of l3 in let l5 = tail_of l4 in
    record {
      words = head_of l0;
      slots = head_of l1;
      views_name = head_of l2;
      atom = head_of l3;
      block = head_of l4;
      offset = head_of l5;
      slot_names = tail_of l5;
    }

-- a yes or no written as a tag
abbrev pub tag_of_bool : Bool → Tag
tag_of_bool b = leaf (cond b 1 0)

abbrev pub bool_of : Tag → Bool
bool_of (leaf n) = n == 1
bool_of (fork a b) = 0 == 1

-- a course written as a tag
unfoldable pub course_tag : Course → Tag
course_tag c = fork (tree_of_name c.name) (fork (tree_of_name c.receipts) (fork (tree_of_lists c.shape.paths) (fork (tree_of c.shape.keeps)
    (fork (tree_of c.quotas) (fork (tag_of_bool c.recorded) c.payload)))))

-- the course that a tag names
unfoldable pub course_of : Tag → Course
course_of t = record {
  name = name_from (list_in (left_of t));
  receipts = name_from (list_in (left_of (right_of t)));
  shape = record {
    paths = lists_in (left_of (right_of (right_of t)));
    keeps = list_in (left_of (right_of (right_of (right_of t))));
  };
  quotas = list_in (left_of (right_of (right_of (right_of (right_of t)))));
  recorded = bool_of (left_of (right_of (right_of (right_of (right_of (right_of t))))));
  payload = right_of (right_of (right_of (right_of (right_of (right_of t)))));
}
