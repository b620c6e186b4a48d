use Rattle.std.proofs.Common.{◌≡◌, map, take}
use Rattle.placed_runner.specs.Sections.{anywhere}
use Rattle.placed_runner.specs.Views.{written_view}
use Rattle.placed_runner.proofs.spreading.on_any.Given as goal

-- the sections so far
abbrev pub invariant-loop-bytes : goal.invariant-loop-bytes
invariant-loop-bytes l = map written_view l.written.items ≡ map (λ one. anywhere one.items) (take l.bytes-index l.sections)
