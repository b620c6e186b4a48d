use Rattle.std.proofs.Common.{Bool, List, ◌++◌, ◌∷◌, [], map, take, ap, sym, ◌∙◌}
use Rattle.std.proofs.lemmas.List.{map_push, take_more}
use Rattle.fresh_runner.specs.declared.job.FreshJob.{FreshJob}
use Rattle.fresh_runner.proofs.dealing.stops.Goals as goal

pub loop-job-preserved : goal.loop-job-preserved
loop-job-preserved g c =
    let seen = take c.loop-job.job-index c.args.jobs.now in
    let job = c.job-item.result in
    let more = take_more c.args.jobs.now c.loop-job.job-index job c.loop-job-test.true ∙ ap (λ j. seen ++ j ∷ []) (sym c.job-item.is) in
    record {
      so_far = c.push_reserved.ensures.items ∙ ap (λ (b : List Bool). b ++ job.stopped ∷ []) c.loop-job.invariant.so_far
          ∙ sym (map_push (λ (j : FreshJob _). j.stopped) seen job) ∙ ap (map (λ (j : FreshJob _). j.stopped)) (sym more);
      room = c.push_reserved.ensures.capacity ∙ c.loop-job.invariant.room;
    }
