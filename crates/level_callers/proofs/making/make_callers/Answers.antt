use Rattle.std.proofs.Common.{◌≡◌, List, ap, sym, subst, ◌∙◌, Some}
use Rattle.std.specs.Prelude.{IfSome, length, slice_get}
use Rattle.std.specs.Arc.{arc_value}
use Rattle.std.specs.List.{enumerate_from}
use Rattle.keep_local.specs.States.{ShareState}
use Rattle.clof_compose.specs.Courses.{course_of}
use Rattle.clof_compose.proofs.Shares.{as_many_shares, new_share_in}
use Rattle.own_payload.specs.Ready.{IsReady}
use Rattle.level_callers.specs.Seen.{AreFresh}
use Rattle.level_callers.proofs.Dealt.{unused}
use Rattle.level_callers.proofs.making.make_callers.Goals as goal

pub callers_of-requires : goal.callers_of-requires
callers_of-requires g c =
    let same : arc_value c.in_ok-lock.lock ≡ c.args.lock = c.in_ok-lock.ensures in
    let ready = subst (λ lock. IsReady g.C.Pass.Resting.rest (g.C.Composed.has lock) (g.C.Composed.sound lock) (g.C.Composed.level lock)
    (g.C.Composed.count lock) (g.C.Composed.tag lock) c.args.passes.items c.args.shares.items) (sym same) c.requires.ready in record {
      sound = ready.sound_is;
      lowest = ready.lowest;
      passes = ready.all.each;
      shares = new_share_in _ c.args.shares.items ready.quotas ready.dealt;
      unused = λ k s e.
          unused (course_of (g.C.Composed.tag (arc_value c.in_ok-lock.lock))).name
          (enumerate_from 0 (course_of (g.C.Composed.tag (arc_value c.in_ok-lock.lock))).quotas) k s
          (ap (λ (l : List ShareState). slice_get l k) (sym ready.dealt) ∙ e);
      many = as_many_shares _ _ c.args.shares.items ready.dealt ∙ ready.quotas ∙ sym (ready.all.all ∙ ready.many);
    }

pub returns-clause-count : goal.returns-clause-count
returns-clause-count g c =
    subst (λ (n : _). IfSome c.callers_of.result (λ made. length made.items ≡ n)) c.requires.ready.all.all c.callers_of.ensures.count

pub returns-clause-callers : goal.returns-clause-callers
returns-clause-callers g c =
    subst (λ tag. IfSome c.callers_of.result (λ made. AreFresh tag made.items)) (ap g.C.Composed.tag c.in_ok-lock.ensures)
    c.callers_of.ensures.callers
