use Rattle.std.proofs.Common.{◌==◌, length, sym, ap, ◌∙◌, arith}
use Rattle.std.specs.List.{position}
use Rattle.std.proofs.lemmas.List.Quantifiers.{position-Some}
use Rattle.topo_tree.proofs.Lookups.{length-pu_numbers}
use Rattle.topo_tree.proofs.tree.Tree.leaf_of.Goals as goal

pub overflow_cast-result : goal.overflow_cast-result
overflow_cast-result c =
    let found = position-Some (λ number. number == c.args.physical) c.pus.result.now c.in-Some.place 0
    (sym c.place_of.ensures ∙ c.in-Some.is) in
    omega (
      arith,
      found.0,
      ap length c.pus.ensures.numbers,
      length-pu_numbers c.args.self.now,
      c.pus.ensures.built.sound.pus,
    )

pub returns-in-None : goal.returns-in-None
returns-in-None c =
    sym c.in-None.is ∙ c.place_of.ensures ∙ ap (position (λ number. number == c.args.physical)) c.pus.ensures.numbers

pub returns-in-Some : goal.returns-in-Some
returns-in-Some c =
    sym c.in-Some.is ∙ c.place_of.ensures ∙ ap (position (λ number. number == c.args.physical)) c.pus.ensures.numbers
