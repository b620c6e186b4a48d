use Rattle.std.proofs.Common.{◌<◌, ℕ, subst, sym}
use Rattle.cohort_queue.specs.Numbers.{IsIn}
use Rattle.cohort_queue.specs.States.{outs_of}
use Rattle.cohort_desks.specs.Slots.{AreOwn, IsFull}
use Rattle.cohort_desks.proofs.Leaving.{both_there}
use Rattle.cohort_desks.proofs.closing.close_last.Goals as goal

pub drain-slots-requires-clause-within : goal.drain-slots-requires-clause-within
drain-slots-requires-clause-within g c = λ x is. subst (λ n. x < n) (sym c.rise-desks.ensures.slots_many)
    (c.requires.cohort.within x (subst (IsIn x) c.close-rest.ensures.numbers is))

pub drain-slots-requires-clause-own : goal.drain-slots-requires-clause-own
drain-slots-requires-clause-own g c = subst (λ t. AreOwn g.J.Numbered.number g.J.Numbered.tag t c.rise-desks.result.2.items)
    (sym c.close-rest.ensures.tag) c.rise-desks.ensures.own

pub returns-clause-own : goal.returns-clause-own
returns-clause-own g c = subst (λ t. AreOwn g.J.Numbered.number g.J.Numbered.tag t c.drain-slots.result.items) c.close-rest.ensures.tag
    c.drain-slots.ensures.own

pub returns-clause-there : goal.returns-clause-there
returns-clause-there g c =
    both_there _ _ c.args.cohort.tag c.args.slots.items c.rise-desks.result.2.items c.drain-slots.result.items (outs_of
    c.rise-desks.result.1.items)
    c.args.cohort.numbers c.rise-desks.ensures.there
    (subst (λ t. (x : ℕ) → IsFull g.J.Numbered.number g.J.Numbered.tag t c.rise-desks.result.2.items x
    → IsFull g.J.Numbered.number g.J.Numbered.tag t c.drain-slots.result.items x) c.close-rest.ensures.tag c.drain-slots.ensures.kept)
    (subst (λ l. (x : ℕ) → IsIn x l → IsFull g.J.Numbered.number g.J.Numbered.tag c.args.cohort.tag c.drain-slots.result.items x)
    c.close-rest.ensures.numbers
    (subst (λ t. (x : ℕ) → IsIn x c.close-rest.result.numbers → IsFull g.J.Numbered.number g.J.Numbered.tag t c.drain-slots.result.items x)
    c.close-rest.ensures.tag c.drain-slots.ensures.all))
