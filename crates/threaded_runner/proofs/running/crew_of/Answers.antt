use Rattle.std.proofs.Common.{◌≡◌, map, ap, ◌∙◌}
use Rattle.std.specs.List.{list_any}
use Rattle.threaded_runner.proofs.Crews.{all_made, passes_back, shares_back, shares_many, stopped_many}
use Rattle.threaded_runner.proofs.running.crew_of.Goals as goal

pub returns : goal.returns
returns g c =
    let jobs = c.args.jobs.items in
    let stops : c.stops-stopped.result.items ≡ map (λ j. j.stopped) jobs = c.stops-stopped.ensures ∙ ap (map (λ j. j.stopped))
    c.deref.ensures.value in
    record {
      passes = passes_back _ _ _ _ _ jobs c.requires.each c.requires.many _ c.take_apart-passes.ensures.passes;
      many = shares_many _ _ _ _ _ jobs c.requires.each c.requires.many _ c.take_apart-passes.ensures.shares;
      shares = shares_back _ _ _ _ _ jobs c.requires.each c.requires.many _ c.take_apart-passes.ensures.shares;
      not_started = λ e. absurd (cc);
      each = λ _. stopped_many _ _ _ _ _ jobs c.requires.each c.requires.many _ stops;
      made = all_made _ _ _ _ _ jobs c.requires.each c.requires.many _ _ stops c.take_apart-passes.ensures.shares;
      refused = c.any_stopped-refused.ensures ∙ ap (list_any (λ one. one)) c.deref-2.ensures.value;
    }
