use Rattle.std.proofs.Common.{◌≡◌, ◌++◌, take}
use Rattle.std.specs.List.{join_by}
use Rattle.calc_text.specs.Texts.{index_text}
use Rattle.calc_text.proofs.items.push_numbers.Given as goal

abbrev pub invariant-loop-place : goal.invariant-loop-place
invariant-loop-place l =
    l.out.items ≡ l.fn.out.items ++ join_by (index_text l.tree l.numbering l.layer) l.separator (take l.place l.indexes)
