use Rattle.std.proofs.Common.{List, ℕ, length, map, ap, sym, ◌∙◌}
use Rattle.std.proofs.lemmas.Result.{IfOk-weaker}
use Rattle.keep_local.specs.States.{TrailState}
use Rattle.clof_compose.specs.Courses.{Course}
use Rattle.clof_compose.proofs.Tops.{course_is}
use Rattle.mc_text.specs.Reading.{commands_of}
use Rattle.kv_history.specs.Log.{Log}
use Rattle.threaded_runner.proofs.Done.{done_after}
use Rattle.threaded_runner.specs.Books.{book_calls, book_tag}
use Rattle.threaded_runner.proofs.Turns.{sections_told}
use Rattle.threaded_runner.proofs.finishing.close_run.Goals as goal

pub finish-requires-clause-quotas : goal.finish-requires-clause-quotas
finish-requires-clause-quotas g c =
    let course = course_is book_calls book_tag _ c.close.result c.close.ensures.tagged in
    sym (ap (λ (k : Course). k.quotas) course) ∙ c.requires.quotas
    ∙ ap (map (λ (one : List ℕ). length (commands_of one))) (sections_told _ c.close.result course)

pub finish-requires-clause-recorded : goal.finish-requires-clause-recorded
finish-requires-clause-recorded g c =
    let course = course_is book_calls book_tag _ c.close.result c.close.ensures.tagged in
    sym (ap (λ (k : Course). k.recorded) course) ∙ c.requires.recorded

pub finish-requires-clause-shares : goal.finish-requires-clause-shares
finish-requires-clause-shares g c =
    let course = course_is book_calls book_tag _ c.close.result c.close.ensures.tagged in
    done_after _ _ _ _ _ c.args.crew c.requires.crew c.if-refused.false c.close.result.trail.name
    c.close.result.trail.quotas (ap (λ (k : Course). k.name) course) (ap (λ (k : Course). k.quotas) course)

pub finish-requires-clause-many : goal.finish-requires-clause-many
finish-requires-clause-many g c =
    let course = course_is book_calls book_tag _ c.close.result c.close.ensures.tagged in
    c.requires.crew.many ∙ c.requires.count ∙ ap length (sections_told _ c.close.result course)

pub returns : goal.returns
returns g c =
    let course = course_is book_calls book_tag _ c.close.result c.close.ensures.tagged in
    record {
      finished = c.finish.ensures.finished;
      shape = IfOk-weaker c.finish.result _ _ (λ left is. ap (λ (s : TrailState). s.shape) is ∙ sym (ap (λ (k : Course). k.shape) course))
          c.finish.ensures.trail;
      sections = IfOk-weaker c.finish.result _ _ (λ left is. ap (λ (l : Log). l.sections) is ∙ sym (sections_told _ c.close.result course))
          c.finish.ensures.journal;
    }
