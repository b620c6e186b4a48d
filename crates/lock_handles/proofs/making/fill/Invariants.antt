use Rattle.std.proofs.Common.{◌≡◌, ◌+◌, length}
use Rattle.std.specs.List.{All, AllWithin}
use Rattle.std.specs.declared.option.Option.TheVariants.{Some}
use Rattle.lock_handles.specs.declared.any.AnyCaller.{AnyCaller}
use Rattle.lock_handles.proofs.making.fill.Given as goal

-- a box is left for each handle before us, and where all callers are seen alike, those behind us have such a caller
abbrev pub invariant-loop-index : goal.invariant-loop-index
invariant-loop-index l = record {
  left : length l.boxes.items + l.index ≡ length l.handles;
  alike : (x : AnyCaller) → All (λ b. b.value ≡ x) l.fn.boxes.items → All (λ b. b.value ≡ x) l.boxes.items;
  filled : (x : AnyCaller) → All (λ b. b.value ≡ x) l.fn.boxes.items → AllWithin (λ h. h.held ≡ Some x) l.handles 0 l.index;
}
