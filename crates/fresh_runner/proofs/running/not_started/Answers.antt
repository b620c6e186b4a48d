use Rattle.std.proofs.Common.{◌≡◌, ap, refl, sym, ◌∙◌, subst}
use Rattle.std.specs.Prelude.{slice_get}
use Rattle.keep_local.specs.States.{ShareState}
use Rattle.clof_compose.specs.Courses.{course_of}
use Rattle.clof_compose.proofs.Lists.{all_each}
use Rattle.run_texts.specs.declared.section.Section.{Section}
use Rattle.std.proofs.lemmas.List.{length-map}
use Rattle.fresh_root.specs.States.{AreAll}
use Rattle.fresh_runner.specs.Books.{fresh_in}
use Rattle.fresh_runner.proofs.Brought.{many_shares, shares_in, shares_new}
use Rattle.fresh_runner.proofs.running.not_started.Goals as goal

pub returns : goal.returns
returns g c =
    let course = course_of (g.C.Composed.tag c.args._lock.now) in
    let dealt = c.requires.dealt in
    let shares = c.args.shares.items in
    let seens = c.args.seens.items in
    let as_sections = length-map c.args._sections.now (λ (section : Section). section.bytes.now) in
    let count = as_sections ∙ sym c.requires.count in
    record {
      crew_is = record {
        passes = c.requires.passes;
        many = many_shares course _ shares seens dealt ∙ count;
        shares = shares_in course _ shares seens dealt;
        not_started = λ _. (
          c.new-2.ensures.items,
          all_each (λ (s : ShareState). s.made ≡ 0) shares
              (shares_new course _ shares seens dealt),
        );
        each = λ e. absurd (cc);
        made = λ k s going e. let none = ap (λ l. slice_get l k) (sym c.new-2.ensures.items) ∙ going in absurd (cc);
        refused = refl;
      };
      seens_are = subst (λ n. AreAll (fresh_in course.payload) n seens) count dealt.seens_are;
      unmarked = λ _. c.new.ensures.items;
      many = λ e. absurd (cc);
      marked = λ k s m here there. let none = ap (λ l. slice_get l k) (sym c.new.ensures.items) ∙ there in absurd (cc);
      as_many = λ k s m here there. let none = ap (λ l. slice_get l k) (sym c.new.ensures.items) ∙ there in absurd (cc);
    }
