use Rattle.std.proofs.Common.{◌≡◌, ◌++◌, take}
use Rattle.std.specs.List.{join_by}
use Rattle.calc_text.specs.Texts.{object_text}
use Rattle.calc_text.proofs.items.push_objects.Given as goal

abbrev pub invariant-loop-place : goal.invariant-loop-place
invariant-loop-place l =
    l.out.items ≡ l.fn.out.items ++ join_by (object_text l.tree l.numbering) l.separator (take l.place l.objects)
