use Rattle.std.proofs.Common.{◌≡◌, ◌+◌, ◌≤◌, ◌∷◌, [], ap, subst, ◌∙◌, arith}
use Rattle.std.specs.Prelude.{IfSome, IfNone}
use Rattle.cpu_set.specs.Sets.{has}
use Rattle.cpu_set.specs.Texts.{numbers_from}
use Rattle.calc_query.proofs.Members.{none_found, one_found, none_before}
use Rattle.calc_query.proofs.selecting.next_index.Goals as goal

pub returns-in-Some-clause-found : goal.returns-in-Some-clause-found
returns-in-Some-clause-found c = λ low.
    let indexes = c.args.indexes.now in
    let from = c.args.from in
    let index = c.in-Some.index in
    let is = subst (λ o. IfSome o (λ n. numbers_from from indexes ≡ n ∷ numbers_from (n + 1) indexes)) c.in-Some.is c.next.ensures.found in
    let on = subst (λ o. IfSome o (λ n. from ≤ n)) c.in-Some.is c.next.ensures.from in
    let same : c.min.result ≡ index = omega (arith, c.min.ensures, low) in
    ap (has indexes) same ∙ one_found from index indexes is on

pub returns-in-Some-clause-none : goal.returns-in-Some-clause-none
returns-in-Some-clause-none c = λ place on low.
    let indexes = c.args.indexes.now in
    let from = c.args.from in
    let index = c.in-Some.index in
    let is = subst (λ o. IfSome o (λ n. numbers_from from indexes ≡ n ∷ numbers_from (n + 1) indexes)) c.in-Some.is c.next.ensures.found in
    none_before from index indexes place is on (omega (arith, c.min.ensures, low))

pub returns-in-Some-clause-from : goal.returns-in-Some-clause-from
returns-in-Some-clause-from c =
    let on = subst (λ o. IfSome o (λ n. c.args.from ≤ n)) c.in-Some.is c.next.ensures.from in
    omega (arith, c.min.ensures, on, c.requires)

pub returns-in-None-clause-none : goal.returns-in-None-clause-none
returns-in-None-clause-none c = λ place on low.
    let indexes = c.args.indexes.now in
    let from = c.args.from in
    none_found from indexes place (subst (λ o. IfNone o (numbers_from from indexes ≡ [])) c.in-None.is c.next.ensures.none) on
