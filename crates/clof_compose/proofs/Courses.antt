-- A course is told by its tag.
use Rattle.std.proofs.Common.{◌≡◌, Bool, true, false, refl, ap, sym, ◌∙◌}
use Rattle.lock_rules.specs.Tag.{Tag}
use Rattle.lock_rules.proofs.Trees.{list_in-tree_of, lists_in-tree_of_lists}
use Rattle.clof_compose.specs.Courses.{Course, bool_of, course_of, course_tag, tag_of_bool}

bool_of-tag_of_bool : (b : Bool) → bool_of (tag_of_bool b) ≡ b
bool_of-tag_of_bool true = refl
bool_of-tag_of_bool false = refl

pub course_of-course_tag : (c : Course) → course_of (course_tag c) ≡ c
unfolding course_of course_tag
course_of-course_tag c =
    let names = list_in-tree_of c.name.slot_names in
    let others = list_in-tree_of c.receipts.slot_names in λ i. record {
      name = record c.name { slot_names = names i };
      receipts = record c.receipts { slot_names = others i };
      shape = record { paths = lists_in-tree_of_lists c.shape.paths i; keeps = list_in-tree_of c.shape.keeps i };
      quotas = list_in-tree_of c.quotas i;
      recorded = bool_of-tag_of_bool c.recorded i;
      payload = c.payload;
    }

-- two courses with one tag are one
pub course_tag-tells : (t : Tag) (c : Course) → course_tag c ≡ t → course_of t ≡ c
course_tag-tells t c e = sym (ap course_of e) ∙ course_of-course_tag c
