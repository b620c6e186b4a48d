use Rattle.std.proofs.Common.{◌≡◌, refl, ap, sym, ◌∙◌, subst}
use Rattle.std.specs.Prelude.{All, slice_get}
use Rattle.std.specs.List.{enumerate_from}
use Rattle.keep_local.specs.States.{ShareState}
use Rattle.clof_compose.specs.Courses.{course_of}
use Rattle.clof_compose.proofs.Shares.{as_many_shares, new_share_in}
use Rattle.threaded_runner.proofs.Crews.{none_made}
use Rattle.threaded_runner.proofs.Dealt.{callers_known, quotas_known}
use Rattle.threaded_runner.proofs.running.not_started.Goals as goal

pub returns : goal.returns
returns g c =
    let course = course_of (g.C.Composed.tag c.args._lock.now) in
    let dealt = c.requires.dealt in
    let known = quotas_known course _ c.args.shares.items dealt in
    record {
      passes = c.requires.passes;
      many = as_many_shares course.name course.quotas c.args.shares.items dealt.dealt ∙ known
          ∙ callers_known course c.args._sections.now c.args.shares.items dealt ∙ sym c.requires.count;
      shares = new_share_in course c.args.shares.items known dealt.dealt;
      not_started = λ _. (
        c.new.ensures.items,
        subst (λ l. All (λ (s : ShareState). s.made ≡ 0) l) (sym dealt.dealt) (none_made course.name (enumerate_from 0 course.quotas)),
      );
      each = λ e. absurd (cc);
      made = λ k s going e. let none = ap (λ l. slice_get l k) (sym c.new.ensures.items) ∙ going in absurd (cc);
      refused = refl;
    }
