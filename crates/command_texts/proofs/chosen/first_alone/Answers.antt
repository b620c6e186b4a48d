use Rattle.std.proofs.Common.{ap, sym, ◌∙◌, [], ◌∷◌}
use Rattle.cpu_set.specs.Sets.{union}
use Rattle.command_texts.proofs.Masks.{first_below, alone, first_taken}
use Rattle.command_texts.proofs.chosen.first_alone.Goals as goal

pub returns-in-Some : goal.returns-in-Some
returns-in-Some c =
    let below = first_below c.args.set.now c.in-Some.number c.in-Some.ensures.set c.in-Some.ensures.lowest in
    c.with.ensures ∙ ap (λ set. union set (c.in-Some.number ∷ [])) c.empty-alone.ensures ∙ alone c.in-Some.number below
    ∙ sym (first_taken c.args.set.now c.in-Some.number c.in-Some.ensures.lowest)
