use Rattle.std.proofs.Common.{ap, ◌∙◌, subst}
use Rattle.std.specs.Prelude.{All}
use Rattle.keep_local.specs.States.{IsShareOf}
use Rattle.kv_history.specs.Log.{EachOwnFirst, NoneVoid}
use Rattle.threaded_runner.specs.declared.book.Book.{Book}
use Rattle.threaded_runner.proofs.Done.{finished, finished_parts}
use Rattle.threaded_runner.proofs.finishing.finish.Goals as goal

pub returns-clause-finished : goal.returns-clause-finished
returns-clause-finished c =
    let root = c.args.root in
    let trail = c.into_parts-trail.ensures.trail in
    let log = ap (λ (b : Book). b.journal) c.into_parts-trail.ensures.payload in
    let counted = subst (λ s. All (IsShareOf s) c.args.shares.items) trail c.agree.ensures.counted in
    let whole = subst (λ l. NoneVoid l.entries) log (c.whole.ensures.0 c.if-not-whole.false) in
    let first = subst (λ l. EachOwnFirst l) log c.facts.ensures.own_first in
    finished_parts root.trail c.agree.new.trail root.payload.journal c.into_parts-trail.result.1.journal (c.agree.ensures.trail ∙ trail) log
    (finished root c.args.shares.items c.requires.fit c.requires.quotas counted c.requires.shares c.requires.many first whole
    c.requires.recorded)
