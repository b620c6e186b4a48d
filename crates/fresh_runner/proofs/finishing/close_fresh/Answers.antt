use Rattle.std.proofs.Common.{List, ℕ, length, map, ap, sym, ◌∙◌, subst}
use Rattle.std.proofs.lemmas.Result.{IfOk-weaker}
use Rattle.lock_rules.specs.Trees.{lists_in}
use Rattle.keep_local.specs.States.{TrailState, callers_in}
use Rattle.clof_compose.specs.Courses.{Course, course_of}
use Rattle.fresh_root.specs.States.{AreAll}
use Rattle.mc_text.specs.Reading.{commands_of}
use Rattle.threaded_runner.proofs.Done.{done_after}
use Rattle.fresh_runner.specs.Books.{fresh_in}
use Rattle.fresh_runner.specs.Crews.{crew_in}
use Rattle.fresh_runner.specs.Marked.{AreMarked}
use Rattle.fresh_runner.proofs.Settled.{has_started}
use Rattle.fresh_runner.proofs.Tags.{book_is, course, fresh_is, tokens_are}
use Rattle.fresh_runner.proofs.finishing.close_fresh.Goals as goal

pub finish_fresh-requires : goal.finish_fresh-requires
finish_fresh-requires g c =
    let root = c.close.result in
    let told = course _ root c.close.ensures.tagged in
    let book = ap lists_in (book_is _ root c.close.ensures.tagged) in
    let tokens = tokens_are _ root c.close.ensures.tagged in
    let crew = c.requires.crew in
    let started = has_started _ _ _ crew.crew_is.refused c.if-refused.false in
    let counted = c.requires.tokens ∙ tokens in
    record {
      fit = c.close.ensures.fit;
      quotas = sym (ap (λ (k : Course). k.quotas) told) ∙ c.requires.quotas ∙ ap (map (λ (one : List ℕ). length (commands_of one))) book;
      recorded = sym (ap (λ (k : Course). k.recorded) told) ∙ c.requires.recorded;
      shares = done_after _ _ _ _ _ (crew_in c.args.crew) crew.crew_is c.if-refused.false root.trail.name root.trail.quotas
          (ap (λ (k : Course). k.name) told) (ap (λ (k : Course). k.quotas) told);
      many = crew.crew_is.many ∙ c.requires.count ∙ ap length book;
      seens = subst (λ n. AreAll n root.payload.fresh.tokens c.args.crew.seens.items) (fresh_is _ root c.close.ensures.tagged)
          (subst (λ n. AreAll (fresh_in (course_of (g.C.Composed.tag c.args.lock)).payload) n c.args.crew.seens.items) counted
          crew.seens_are);
      tokens = sym counted ∙ sym crew.crew_is.many;
      many_marks = crew.many started ∙ sym crew.crew_is.many;
      marked = crew.marked;
      as_many = crew.as_many;
    }

pub returns : goal.returns
returns g c =
    let root = c.close.result in
    let told = course _ root c.close.ensures.tagged in
    let book = ap lists_in (book_is _ root c.close.ensures.tagged) in
    record {
      finished = c.finish_fresh.ensures.finished;
      shape = IfOk-weaker c.finish_fresh.result _ _ (λ made is. ap (λ (s : TrailState). s.shape) is
          ∙ sym (ap (λ (k : Course). k.shape) told)) c.finish_fresh.ensures.trail;
      sections = IfOk-weaker c.finish_fresh.result _ _ (λ made is. is ∙ sym book) c.finish_fresh.ensures.sections;
      marks = IfOk-weaker c.finish_fresh.result _ _ (λ made is. subst (λ n. AreMarked (callers_in made.left.trail.closed) n
          made.marks.items) c.requires.crew.crew_is.many is) c.finish_fresh.ensures.marks;
    }
