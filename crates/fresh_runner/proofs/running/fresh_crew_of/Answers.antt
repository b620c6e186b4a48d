use Rattle.std.proofs.Common.{◌≡◌, map, ap, ◌∙◌}
use Rattle.std.specs.List.{list_any}
use Rattle.threaded_runner.proofs.Crews.{all_made, passes_back, shares_back, shares_many, stopped_many}
use Rattle.threaded_runner.specs.declared.job.Job.{Job}
use Rattle.fresh_runner.proofs.Crews.{as_many_back, in_jobs, job_in, many_in, marked_back, marks_many, seens_back, served_in}
use Rattle.fresh_runner.proofs.running.fresh_crew_of.Goals as goal

pub returns : goal.returns
returns g c =
    let jobs = c.args.jobs.items in
    let each = served_in _ _ _ _ _ jobs c.requires.each c.requires.many in
    let many = many_in _ _ _ _ _ jobs c.requires.each c.requires.many in
    let stops : c.stops-stopped.result.items ≡ map (λ j. j.stopped) jobs = c.stops-stopped.ensures ∙ ap (map (λ j. j.stopped))
    c.deref.ensures.value in
    let stops_in = stops ∙ in_jobs (λ (j : Job _). j.stopped) jobs in
    let passes = c.take_apart-passes.ensures.passes ∙ in_jobs (λ (j : Job _). j.pass) jobs in
    let shares = c.take_apart-passes.ensures.shares ∙ in_jobs (λ (j : Job _). j.share) jobs in
    let marks = c.take_apart-passes.ensures.marks in
    record {
      crew_is = record {
        passes = passes_back _ _ _ _ _ (map job_in jobs) each many _ passes;
        many = shares_many _ _ _ _ _ (map job_in jobs) each many _ shares;
        shares = shares_back _ _ _ _ _ (map job_in jobs) each many _ shares;
        not_started = λ e. absurd (cc);
        each = λ _. stopped_many _ _ _ _ _ (map job_in jobs) each many _ stops_in;
        made = all_made _ _ _ _ _ (map job_in jobs) each many _ _ stops_in shares;
        refused = c.any_stopped-refused.ensures ∙ ap (list_any (λ one. one)) c.deref-2.ensures.value;
      };
      seens_are = seens_back _ _ _ _ _ jobs c.requires.each c.requires.many _ c.take_apart-passes.ensures.seens;
      unmarked = λ e. absurd (cc);
      many = λ _. marks_many _ _ _ _ _ jobs c.requires.each c.requires.many _ marks;
      marked = marked_back _ _ _ _ _ jobs c.requires.each c.requires.many _ marks _ c.take_apart-passes.ensures.seens;
      as_many = as_many_back _ _ _ _ _ jobs c.requires.each c.requires.many _ marks _ c.take_apart-passes.ensures.shares;
    }
