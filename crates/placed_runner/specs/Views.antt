-- What the crate's own types say, without where it lies in memory.
use Rattle.placed_runner.specs.declared.heads.Head.{Head}
use Rattle.placed_runner.specs.declared.sections.Written.{Written}
use Rattle.placed_runner.specs.Heads as heads
use Rattle.placed_runner.specs.Sections as sections

abbrev pub head_view : Head → heads.Head
head_view head = record { place = head.place.now; size = head.size }

abbrev pub written_view : Written → sections.Written
written_view section = record { place = section.place; bytes = section.bytes.now }
