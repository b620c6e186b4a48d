use Rattle.std.proofs.Common.{sym, arith, inl, inr}
use Rattle.std.proofs.lemmas.Bool.{cases_lt}
use Rattle.std.proofs.lemmas.Grind.{get_or_default_zero}
use Rattle.std.proofs.lemmas.List.Sorted.{searched}
use Rattle.lock_plan.proofs.Ranks.{place_is, place_low, never_falls}
use Rattle.lock_plan.proofs.nodes.rank.Goals as goal

pub returns-in-Ok : goal.returns-in-Ok
returns-in-Ok c =
    let numbers = c.args.numbers.now in
    let rising = c.requires.rising in
    let found = searched numbers c.args.number c.binary_search.result c.binary_search.ensures.position (never_falls numbers rising) in
    let here = rw c.in-Ok.is at found in
    sym (place_is numbers rising c.in-Ok.place c.args.number here.0 here.1)

pub overflow_cast-result : goal.overflow_cast-result
overflow_cast-result c =
    let numbers = c.args.numbers.now in
    let rising = c.requires.rising in
    let found = searched numbers c.args.number c.binary_search.result c.binary_search.ensures.position (never_falls numbers rising) in
    let here = rw c.in-Ok.is at found in
    let low = place_low numbers rising c.in-Ok.place here.0 in
    let is = here.1 in
    omega (arith, low, is)

pub returns-in-Err : goal.returns-in-Err
returns-in-Err c =
    let numbers = c.args.numbers.now in
    let rising = c.requires.rising in
    let found = searched numbers c.args.number c.binary_search.result c.binary_search.ensures.position (never_falls numbers rising) in
    let apart = rw c.in-Err.is at found in
    let place = c.requires.has.0 in
    let within = c.requires.has.1 in
    let is = c.requires.has.2 in
    let here = get_or_default_zero numbers place c.args.number within in
    absurd (elim (cases_lt place c.in-Err.place) [
      | inl before ↦ let less = apart.1 place before in omega (arith, less, here, is)
      | inr after ↦ let more = apart.2 place (omega arith) within in omega (arith, more, here, is)
    ])

pub overflow_cast-result-in-Err : goal.overflow_cast-result-in-Err
overflow_cast-result-in-Err c =
    let numbers = c.args.numbers.now in
    let rising = c.requires.rising in
    let found = searched numbers c.args.number c.binary_search.result c.binary_search.ensures.position (never_falls numbers rising) in
    let apart = rw c.in-Err.is at found in
    let place = c.requires.has.0 in
    let within = c.requires.has.1 in
    let is = c.requires.has.2 in
    let here = get_or_default_zero numbers place c.args.number within in
    absurd (elim (cases_lt place c.in-Err.place) [
      | inl before ↦ let less = apart.1 place before in omega (arith, less, here, is)
      | inr after ↦ let more = apart.2 place (omega arith) within in omega (arith, more, here, is)
    ])
