use Rattle.std.proofs.Common.{sym, ap, ◌∙◌, subst, arith}
use Rattle.std.proofs.lemmas.Result.{err_from_is_err_and}
use Rattle.synth_text.specs.Rules.{arities, product}
use Rattle.topo_tree.specs.TableLists.{depth_counts}
use Rattle.topo_tree.proofs.CountLaws.{HaveArities, have_arities}
use Rattle.topo_tree.proofs.Lookups.{first_refused, next_refused, none_refused}
use Rattle.topo_tree.proofs.tree.Tree.build.Goals as goal

pub returns-in_err-nodes-clause-refused : goal.returns-in_err-nodes-clause-refused
returns-in_err-nodes-clause-refused c =
    let fault = err_from_is_err_and c.from_residual.result c.from_residual.ensures.1 in
    rw (fault.1, fault.2) (first_refused c.args.description c.in_err-nodes.field-0.0 c.in_err-nodes.ensures.fault)

pub returns-in_err-numbers-clause-refused : goal.returns-in_err-numbers-clause-refused
returns-in_err-numbers-clause-refused c =
    let fault = err_from_is_err_and c.from_residual-in_err-numbers.result c.from_residual-in_err-numbers.ensures.1 in
    rw (fault.1, fault.2) (next_refused c.args.description c.in_err-numbers.field-0.0 c.in_ok-nodes.ensures.good
    c.in_err-numbers.ensures.fault)

pub depth_counts-requires-clause-some_each : goal.depth_counts-requires-clause-some_each
depth_counts-requires-clause-some_each c = subst HaveArities (sym c.as_slice.ensures) (have_arities c.args.description c.requires)

pub depth_counts-requires-clause-pus : goal.depth_counts-requires-clause-pus
depth_counts-requires-clause-pus c = omega (arith, c.requires.pus, ap (λ levels. product (arities levels)) c.as_slice.ensures)

pub returns-clause-accepted : goal.returns-clause-accepted
returns-clause-accepted c = none_refused c.args.description c.in_ok-nodes.ensures.good c.in_ok-numbers.ensures.good

pub invariant_of-result : goal.invariant_of-result
invariant_of-result c =
    let described = c.args.description in
    record {
      built = record { sound = c.requires; numbered = none_refused described c.in_ok-nodes.ensures.good c.in_ok-numbers.ensures.good };
      counts = c.in_ok-counts.ensures ∙ ap depth_counts c.as_slice.ensures;
      numbers = c.in_ok-numbers.ensures.numbers;
      nodes = c.in_ok-nodes.ensures.numbers;
    }
