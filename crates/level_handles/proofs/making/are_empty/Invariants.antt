use Rattle.std.proofs.Common.{◌≡◌, map}
use Rattle.std.specs.List.{AllWithin}
use Rattle.std.specs.declared.option.Option.TheVariants.{None}
use Rattle.level_handles.proofs.making.are_empty.Given as goal

-- each handle has what it had, and those behind us have nothing
abbrev pub invariant-loop-index : goal.invariant-loop-index
invariant-loop-index l = record {
  same : map (λ h. h.held) l.handles ≡ map (λ h. h.held) l.initial.handles;
  none : AllWithin (λ h. h.held ≡ None) l.handles 0 l.index;
}
