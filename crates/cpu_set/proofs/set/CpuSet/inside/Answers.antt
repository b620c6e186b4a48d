use Rattle.std.proofs.Common.{refl, sym}
use Rattle.std.proofs.lemmas.Bool.{false≢true}
use Rattle.cpu_set.proofs.Searches.{inside_none, inside_more, inside_all, not_inside, is_inside-yes, is_inside-no}
use Rattle.cpu_set.proofs.set.CpuSet.inside.Goals as goal

pub words-init : goal.words-init
words-init c = inside_none c.self.inside.words c.other.inside.words

pub words-preserved : goal.words-preserved
words-preserved c = inside_more c.self.inside.words c.other.inside.words c.words.place c.words.invariant c.if-self-place-ne0.false

pub returns : goal.returns
returns c =
    let all = inside_all c.self.inside.words c.other.inside.words c.args.self.now c.args.other.now c.self.view_is c.other.view_is
    c.self.invariant c.other.invariant c.words.place c.words-test.false c.words.invariant in
    record { all = (λ _. all, λ _. refl); test = sym (is_inside-yes c.args.self.now c.args.other.now all) }

pub returns-then-self-place-ne0 : goal.returns-then-self-place-ne0
returns-then-self-place-ne0 c =
    let out = not_inside c.self.inside.words c.other.inside.words c.args.self.now c.args.other.now c.self.view_is c.other.view_is
    c.self.invariant c.other.invariant c.words.place c.words-test.true c.if-self-place-ne0.true in
    record { all = (λ h. absurd (false≢true h), λ all. absurd (out all)); test = sym (is_inside-no c.args.self.now c.args.other.now out) }
