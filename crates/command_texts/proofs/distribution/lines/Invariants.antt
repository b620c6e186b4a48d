use Rattle.std.proofs.Common.{◌≡◌, take}
use Rattle.command_texts.specs.DistribText.{mask_lines}
use Rattle.command_texts.proofs.distribution.lines.Given as goal

-- the lines so far have been appended
abbrev pub invariant-loop-mask : goal.invariant-loop-mask
invariant-loop-mask l = l.text.items ≡ mask_lines l.fn.single l.fn.taskset (take l.mask-index l.masks)
