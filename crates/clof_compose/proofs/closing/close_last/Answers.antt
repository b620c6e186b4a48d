use Rattle.std.proofs.Common.{[], ◌∷◌, length, slice_get, ap, sym, ◌∙◌}
use Rattle.clof_compose.specs.Owns.{own_tag_of}
use Rattle.clof_compose.proofs.Lists.{front_locks, get_last, get_longer, lock_here, told_number}
use Rattle.clof_compose.proofs.closing.close_last.Goals as goal

pub close-high-requires : goal.close-high-requires
close-high-requires g c =
    record {
      all = c.requires.full (length c.pop.new.self.items) c.in-Some.node (ap (λ l. slice_get l (length c.pop.new.self.items))
          c.in-Some.ensures.items ∙ get_last c.pop.new.self.items c.in-Some.node);
    }

pub returns-clause-number : goal.returns-clause-number
returns-clause-number g c =
    let here = ap (λ l. slice_get l (length c.pop.new.self.items)) c.in-Some.ensures.items
    ∙ get_last c.pop.new.self.items c.in-Some.node in
    let told = sym (ap (own_tag_of g.H.Pass.Resting.rest g.H.Held.Standing.stand c.close-high.result.node) (sym c.into_inner.ensures
    ∙ c.in-Idle.is))
    ∙ c.close-high.ensures.tagged in
    told_number _ _ _ _ _ _ _ _ _ c.requires.locks (lock_here c.args.nodes.now.items (length c.pop.new.self.items)
    c.in-Some.node here) told

pub returns-clause-locks : goal.returns-clause-locks
returns-clause-locks g c = front_locks _ _ _ _ c.args.nodes.now.items c.pop.new.self.items c.in-Some.node c.in-Some.ensures.items
    c.requires.locks

pub returns-clause-full : goal.returns-clause-full
returns-clause-full g c = λ n node e.
    c.requires.full n node (ap (λ l. slice_get l n) c.in-Some.ensures.items ∙ get_longer c.pop.new.self.items (c.in-Some.node ∷ []) n node
    e)
