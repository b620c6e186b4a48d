use Rattle.std.proofs.Common.{◌≡◌, ℕ, Some, subst, length, arith}
use Rattle.std.proofs.lemmas.Result.{err_from_is_err_and}
use Rattle.out_of_memory.specs.Memory.{UnlessMemory}
use Rattle.byte_text.specs.Views.{text_at}
use Rattle.synth_text.specs.declared.description.Description.{Description}
use Rattle.synth_text.specs.IndexTexts.{entries_of}
use Rattle.topo_tree.specs.Naming.{depth_named}
use Rattle.lock_select.specs.Nodes.{AreLevels}
use Rattle.run_faults.specs.declared.plan.PlanFault.TheVariants.{OutOfMemory}
use Rattle.lock_plan.specs.declared.plan.Plan.{Plan}
use Rattle.lock_plan.specs.Lists.{comma_list}
use Rattle.lock_plan.specs.Plans.{AreKinds, AreKeeps, level_fault, lock_fault, keep_fault}
use Rattle.lock_plan.proofs.Plans.{levels_refuse, locks_refuse, keeps_refuse, plan_is_for}
use Rattle.lock_plan.proofs.plan.Plan.read.Goals as goal

pub returns-in_err-depths-clause-refused : goal.returns-in_err-depths-clause-refused
returns-in_err-depths-clause-refused g c =
    let described = g.T.AsTree.described c.args.topology.now in
    let fault = c.in_err-depths.field-0.0 in
    let refused = subst (λ (d : Description). UnlessMemory OutOfMemory fault (level_fault d (comma_list c.args.levels.now) ≡ Some fault))
    c.as_tree.ensures c.in_err-depths.ensures.refused in
    let p = err_from_is_err_and c.from_residual.result c.from_residual.ensures.1 in
    rw (p.1, p.2) (levels_refuse described c.args.levels.now (text_at c.args.locks) c.args.keeps.now fault refused)

pub returns-in_err-kinds-clause-refused : goal.returns-in_err-kinds-clause-refused
returns-in_err-kinds-clause-refused g c =
    let described = g.T.AsTree.described c.args.topology.now in
    let depths = c.in_ok-depths.depths.items in
    let fault = c.in_err-kinds.field-0.0 in
    let long : c.len.result ≡ length depths = omega arith in
    let named = subst (λ (d : Description). entries_of (depth_named d) (comma_list c.args.levels.now) ≡ Some depths) c.as_tree.ensures
    c.in_ok-depths.ensures.named in
    let levels = subst (λ (d : Description). AreLevels d depths) c.as_tree.ensures c.in_ok-depths.ensures.levels in
    let refused = subst (λ (n : ℕ). UnlessMemory OutOfMemory fault (lock_fault n (text_at c.args.locks) ≡ Some fault)) long
    c.in_err-kinds.ensures.refused in
    let p = err_from_is_err_and c.from_residual-in_err-kinds.result c.from_residual-in_err-kinds.ensures.1 in
    rw (p.1, p.2)
    (locks_refuse described c.args.levels.now (text_at c.args.locks) c.args.keeps.now fault depths named levels refused)

pub returns-in_err-keeps-clause-refused : goal.returns-in_err-keeps-clause-refused
returns-in_err-keeps-clause-refused g c =
    let described = g.T.AsTree.described c.args.topology.now in
    let depths = c.in_ok-depths.depths.items in
    let kinds = c.in_ok-kinds.kinds.items in
    let fault = c.in_err-keeps.field-0.0 in
    let long : c.len.result ≡ length depths = omega arith in
    let again : c.len-2.result ≡ length depths = omega arith in
    let named = subst (λ (d : Description). entries_of (depth_named d) (comma_list c.args.levels.now) ≡ Some depths) c.as_tree.ensures
    c.in_ok-depths.ensures.named in
    let levels = subst (λ (d : Description). AreLevels d depths) c.as_tree.ensures c.in_ok-depths.ensures.levels in
    let kinds_are = subst (λ (n : ℕ). AreKinds n (text_at c.args.locks) kinds) long c.in_ok-kinds.ensures.kinds in
    let refused = subst (λ (n : ℕ). UnlessMemory OutOfMemory fault (keep_fault n (comma_list c.args.keeps.now) ≡ Some fault)) again
    c.in_err-keeps.ensures.refused in
    let p = err_from_is_err_and c.from_residual-in_err-keeps.result c.from_residual-in_err-keeps.ensures.1 in
    rw (p.1, p.2)
    (keeps_refuse described c.args.levels.now (text_at c.args.locks) c.args.keeps.now fault depths named levels kinds kinds_are refused)

pub returns-clause-usable : goal.returns-clause-usable
returns-clause-usable g c =
    let described = g.T.AsTree.described c.args.topology.now in
    let depths = c.in_ok-depths.depths.items in
    let kinds = c.in_ok-kinds.kinds.items in
    let keeps = c.in_ok-keeps.keeps.items in
    let long : c.len.result ≡ length depths = omega arith in
    let again : c.len-2.result ≡ length depths = omega arith in
    let plan : Plan = record { depths = depths; kinds = kinds; keeps = keeps } in
    let levels = subst (λ (d : Description). AreLevels d depths) c.as_tree.ensures c.in_ok-depths.ensures.levels in
    let kinds_are = subst (λ (n : ℕ). AreKinds n (text_at c.args.locks) kinds) long c.in_ok-kinds.ensures.kinds in
    let keeps_are = subst (λ (n : ℕ). AreKeeps n c.args.keeps.now keeps) again c.in_ok-keeps.ensures.keeps in
    rw (c.from_vec.ensures, c.from_vec-2.ensures, c.from_vec-3.ensures)
    (plan_is_for described (text_at c.args.locks) c.args.keeps.now plan levels kinds_are keeps_are)
