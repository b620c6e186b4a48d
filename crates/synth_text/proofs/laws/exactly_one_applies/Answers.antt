use Rattle.std.proofs.Common.{refl, sym, ap, ◌∙◌}
use Rattle.synth_text.specs.Descriptions.{meaning}
use Rattle.synth_text.proofs.ItemLaws.{same_items, some_items}
use Rattle.synth_text.proofs.laws.exactly_one_applies.Goals as goal

pub returns-clause-some : goal.returns-clause-some
returns-clause-some c =
    λ text. let found = some_items text in (meaning text found.items, record { items = found.items; cut = found.are; said = refl })

pub returns-clause-only : goal.returns-clause-only
returns-clause-only c = λ text one other h k.
    let same = same_items text 0 h.items k.items h.cut k.cut in
    sym h.said ∙ ap (meaning text) same ∙ k.said
