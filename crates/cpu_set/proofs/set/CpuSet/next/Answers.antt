use Rattle.std.proofs.Common.{refl, arith}
use Rattle.cpu_set.proofs.SetSteps.{IsSet-view}
use Rattle.cpu_set.proofs.Searches.{none_past, numbers_from-Found, found_first, none_first, found_later, none_later, none_at_all}
use Rattle.cpu_set.proofs.set.CpuSet.next.Goals as goal

pub returns-then-from-ge-LIMIT-clause-none : goal.returns-then-from-ge-LIMIT-clause-none
returns-then-from-ge-LIMIT-clause-none c =
    none_past c.args.self.now c.args.from (IsSet-view c.self.inside.words c.args.self.now c.self.view_is) c.if-from-ge-LIMIT.true

pub returns-then-from-ge-LIMIT-clause-set : goal.returns-then-from-ge-LIMIT-clause-set
returns-then-from-ge-LIMIT-clause-set c = IsSet-view c.self.inside.words c.args.self.now c.self.view_is

pub words-init : goal.words-init
words-init c =
    none_first c.self.inside.words c.args.self.now c.self.view_is c.self.invariant c.args.from c.if-from-ge-LIMIT.false _ refl
    c.if-word-ne0.false

pub returns-then-word-ne0-clause-found : goal.returns-then-word-ne0-clause-found
returns-then-word-ne0-clause-found c =
    numbers_from-Found c.args.self.now c.args.from _ (IsSet-view c.self.inside.words c.args.self.now c.self.view_is)
    (found_first c.self.inside.words c.args.self.now c.self.view_is c.self.invariant c.args.from c.if-from-ge-LIMIT.false _ refl
    c.if-word-ne0.true)

pub returns-then-word-ne0-clause-from : goal.returns-then-word-ne0-clause-from
returns-then-word-ne0-clause-from c =
    (found_first c.self.inside.words c.args.self.now c.self.view_is c.self.invariant c.args.from c.if-from-ge-LIMIT.false _ refl
    c.if-word-ne0.true).from_on

pub returns-then-word-ne0-clause-set : goal.returns-then-word-ne0-clause-set
returns-then-word-ne0-clause-set c = IsSet-view c.self.inside.words c.args.self.now c.self.view_is

pub words-preserved : goal.words-preserved
words-preserved c =
    none_later c.self.inside.words c.args.self.now c.self.view_is c.self.invariant c.args.from c.if-from-ge-LIMIT.false c.words.place
    c.words.invariant c.if-word-ne0-2.false

pub returns-then-word-ne0-2-clause-found : goal.returns-then-word-ne0-2-clause-found
returns-then-word-ne0-2-clause-found c =
    numbers_from-Found c.args.self.now c.args.from _ (IsSet-view c.self.inside.words c.args.self.now c.self.view_is)
    (found_later c.self.inside.words c.args.self.now c.self.view_is c.self.invariant c.args.from c.if-from-ge-LIMIT.false c.words.place
    (omega arith) c.words-test.true c.words.invariant c.if-word-ne0-2.true)

pub returns-then-word-ne0-2-clause-set : goal.returns-then-word-ne0-2-clause-set
returns-then-word-ne0-2-clause-set c = IsSet-view c.self.inside.words c.args.self.now c.self.view_is

pub returns-clause-none : goal.returns-clause-none
returns-clause-none c =
    none_at_all c.self.inside.words c.args.self.now c.self.view_is c.self.invariant c.args.from c.if-from-ge-LIMIT.false c.words.place
    c.words-test.false c.words.invariant

pub returns-clause-set : goal.returns-clause-set
returns-clause-set c = IsSet-view c.self.inside.words c.args.self.now c.self.view_is
