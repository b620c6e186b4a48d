use Rattle.std.proofs.Common.{◌≡◌, ◌∙◌, ap, length, rules, arith}
use Rattle.std.proofs.lemmas.List.{length-map}
use Rattle.cohort_desks.proofs.making.Making.new.Goals as goal

pub returns-in-Ok-clause-made : goal.returns-in-Ok-clause-made
returns-in-Ok-clause-made g c =
    let long : length c.in-Ok.cohort.numbers ≡ length c.args.jobs.items =
    ap length c.in-Ok.ensures.numbers ∙ length-map c.args.jobs.items g.J.Numbered.number in
    let many : c.len.result ≡ length c.args.jobs.items = search rules in
    record {
      count_is = c.in-Ok.ensures.count;
      all = c.in-Ok.ensures.seats;
      none_out = c.in-Ok.ensures.none_out;
      lists_many = c.in-Some.ensures.count;
      lists_are = λ i v e.
          let is = c.in-Some.ensures.each i v e in
          let room = is.1 in (is.0, omega (arith, room, long, many));
    }
