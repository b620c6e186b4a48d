use Rattle.std.proofs.Common.{ℕ, sym, ◌∙◌, subst}
use Rattle.clof_compose.specs.Courses.{course_of}
use Rattle.own_payload.specs.Jobs.{AreEmpty, EachEnded}
use Rattle.own_payload.proofs.Made.{name_of, quotas_of}
use Rattle.own_payload.proofs.Worked.{each_ended, passes_back, shares_back, shares_made, shares_many}
use Rattle.own_payload.proofs.runs.close_ended.Goals as goal

pub gather-passes-requires : goal.gather-passes-requires
gather-passes-requires g c = record {
  emptied = subst (λ (n : ℕ). AreEmpty n c.args.lists) (sym c.requires.many) c.requires.emptied;
}

pub close-root-requires-clause-all : goal.close-root-requires-clause-all
close-root-requires-clause-all g c =
    passes_back _ _ _ _ (g.S.Serves.stops c.args._server.now) c.args.jobs.items _ c.requires.many c.requires.each
    c.gather-passes.result.passes.items c.gather-passes.ensures.passes

pub agreed-requires : goal.agreed-requires
agreed-requires g c = record {
  own = λ k s e.
      (shares_back _ _ _ _ (g.S.Serves.stops c.args._server.now) c.args.jobs.items _ c.requires.many c.requires.each
      c.gather-passes.result.shares.items c.gather-passes.ensures.shares k s e).own
      ∙ name_of c.close-root.result _ (sym c.close-root.ensures.tagged);
}

pub returns-clause-ended : goal.returns-clause-ended
returns-clause-ended g c =
    let tagged = sym c.close-root.ensures.tagged in
    let stops = g.S.Serves.stops c.args._server.now in
    let shares = c.gather-passes.result.shares.items in
    let are = c.gather-passes.ensures.shares in
    let back = shares_back _ _ _ _ stops c.args.jobs.items _ c.requires.many c.requires.each shares are in
    let made = shares_made _ _ _ _ stops c.args.jobs.items _ c.requires.many c.requires.each shares are in
    let as_many = shares_many _ _ _ _ stops c.args.jobs.items _ c.requires.many c.requires.each shares are in
    subst (EachEnded stops) (sym c.agreed.ensures.trail)
    (each_ended c.close-root.result.trail stops (course_of (g.C.Composed.tag c.args.lock)).quotas shares
    c.close-root.ensures.fit.settled.closed c.agreed.ensures.counted (sym (quotas_of c.close-root.result _ tagged))
    (as_many ∙ c.requires.quotas)
    (λ k one e. ((back k one e).caller_is, λ on. made k one e on ∙ (back k one e).quota)))
