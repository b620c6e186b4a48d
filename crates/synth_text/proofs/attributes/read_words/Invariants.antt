use Rattle.byte_text.specs.Views.{text_at}
use Rattle.byte_text.proofs.CutLaws.{left}
use Rattle.synth_text.specs.Attributes.{attributes_in}
use Rattle.synth_text.proofs.AttributeLaws.{IsSoFar}
use Rattle.synth_text.proofs.attributes.read_words.Given as goal

-- the words so far give the attributes, and the rest adds to them what the whole text says
abbrev pub invariant-loop-rest : goal.invariant-loop-rest
invariant-loop-rest l = IsSoFar l.kind l.attributes (text_at l.rest) (attributes_in l.kind l.fn.text)

abbrev pub decreases-loop-rest : goal.decreases-loop-rest
decreases-loop-rest l = left (text_at l.rest)
