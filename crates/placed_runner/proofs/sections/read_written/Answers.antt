use Rattle.std.proofs.Common.{◌∷◌, [], length, map, sym, subst, ap, ◌∙◌, arith}
use Rattle.std.proofs.lemmas.List.{map-append, length-append}
use Rattle.placed_runner.specs.Sections.{ReadsTo}
use Rattle.placed_runner.specs.Views.{written_view}
use Rattle.placed_runner.proofs.Walks.{reads_more, begins_longer}
use Rattle.placed_runner.proofs.sections.read_written.Goals as goal

pub loop-rest-preserved : goal.loop-rest-preserved
loop-rest-preserved c =
    let described = c.args.tree.now in
    let before = c.loop-rest.sections.items in
    let section = written_view c.in_ok-section.section in
    let behind = c.in_ok-section.behind.now in
    let items = c.in_ok-push.ensures.items in
    let more = reads_more described (map written_view before) c.args.input.now c.loop-rest.rest.now behind section
    c.loop-rest.invariant.reads c.in_ok-section.ensures.begins in
    let longer = begins_longer described c.loop-rest.rest.now section behind c.in_ok-section.ensures.begins in
    record {
      reads = subst (λ sections. ReadsTo described c.args.input.now sections behind)
          (sym (ap (map written_view) items ∙ map-append written_view before (c.in_ok-section.section ∷ []))) more;
      few = omega (arith, ap length items, length-append before (c.in_ok-section.section ∷ []));
      within = omega (arith, longer, c.loop-rest.invariant.within);
    }
