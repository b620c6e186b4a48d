use Rattle.std.proofs.Common.{◌≡◌, [], ◌∷◌, ◌++◌, map, Some, sym, ap, ◌∙◌, arith, inl}
use Rattle.std.proofs.lemmas.List.FromFn.{map-range_with_len_more}
use Rattle.std.specs.List.{range_with_len}
use Rattle.cpu_set.specs.Sets.{has, numbers_where, union}
use Rattle.topo_tree.specs.declared.fault.BuildFault.TheVariants as faults
use Rattle.topo_tree.specs.Numbers.{number_of, numbers_of, index_count}
use Rattle.topo_tree.proofs.SetSteps.{empty_set, set_more}
use Rattle.topo_tree.proofs.Faults.{fault_of_count, uncapped, range_fault, twice_fault, good_more, no_fault, seen_before}
use Rattle.topo_tree.proofs.numbers.physical_numbers.Goals as goal

pub returns-then-found-count-clause-fault : goal.returns-then-found-count-clause-fault
returns-then-found-count-clause-fault c =
    let counted = c.capped_count-found.ensures in
    inl (fault_of_count c.args.indexes.now c.args.count c.requires.few (λ same. c.if-found-count.true (counted ∙ same))
    ∙ ap (λ found. Some (faults.IndexCount found c.args.count)) (sym counted))

pub loop-object-init : goal.loop-object-init
loop-object-init c =
    let none = c.new-numbers.ensures.items in
    record {
      numbers = none;
      seen = c.empty-seen.ensures ∙ sym empty_set ∙ ap (λ numbers. numbers_where (has numbers)) (sym none);
      good = λ place below. absurd (omega arith);
    }

pub returns-then-number-ge-LIMIT-clause-fault : goal.returns-then-number-ge-LIMIT-clause-fault
returns-then-number-ge-LIMIT-clause-fault c =
    let same = uncapped (index_count c.args.indexes.now c.args.count) c.args.count c.requires.few
    (sym c.capped_count-found.ensures ∙ c.if-found-count.false) in
    inl (range_fault c.args.indexes.now c.args.count c.loop-object.object same c.loop-object-test.true c.loop-object.invariant.good
    (omega (arith, c.if-number-ge-LIMIT.true, c.number_of-number.ensures))
    ∙ ap (λ number. Some (faults.IndexRange number)) (sym c.number_of-number.ensures))

pub returns-then-has-clause-fault : goal.returns-then-has-clause-fault
returns-then-has-clause-fault c =
    let given = c.args.indexes.now in
    let so_far = c.loop-object.invariant in
    let same = uncapped (index_count given c.args.count) c.args.count c.requires.few
    (sym c.capped_count-found.ensures ∙ c.if-found-count.false) in
    let before = seen_before c.has.result c.loop-object.seen c.loop-object.numbers.items c.number_of-number.result c.has.ensures.found
    so_far.seen (omega arith) in
    inl (twice_fault given c.args.count c.loop-object.object same c.loop-object-test.true so_far.good
    (omega (arith, c.if-number-ge-LIMIT.false, c.number_of-number.ensures))
    (ap (λ n. has (map (number_of given) (range_with_len 0 c.loop-object.object)) n) (sym c.number_of-number.ensures)
    ∙ ap (λ numbers. has numbers c.number_of-number.result) (sym so_far.numbers) ∙ before ∙ c.if-has.true)
    ∙ ap (λ number. Some (faults.IndexTwice number)) (sym c.number_of-number.ensures))

pub loop-object-preserved : goal.loop-object-preserved
loop-object-preserved c =
    let given = c.args.indexes.now in
    let object = c.loop-object.object in
    let number = c.number_of-number.result in
    let so_far = c.loop-object.invariant in
    let before = seen_before c.has.result c.loop-object.seen c.loop-object.numbers.items number c.has.ensures.found so_far.seen
    (omega arith) in
    record {
      numbers =
          c.in_ok-push.ensures.items ∙ ap (λ numbers. numbers ++ number ∷ []) so_far.numbers
          ∙ ap (λ n. map (number_of given) (range_with_len 0 object) ++ n ∷ []) c.number_of-number.ensures
          ∙ sym (map-range_with_len_more (number_of given) 0 object object (omega arith));
      seen =
          c.with.ensures ∙ ap (λ seen. union seen (number ∷ [])) so_far.seen ∙ set_more c.loop-object.numbers.items number
          ∙ ap (λ numbers. numbers_where (has numbers)) (sym c.in_ok-push.ensures.items);
      good =
          good_more given c.args.count object c.loop-object-test.true so_far.good
          (omega (arith, c.if-number-ge-LIMIT.false, c.number_of-number.ensures))
          (ap (λ n. has (map (number_of given) (range_with_len 0 object)) n) (sym c.number_of-number.ensures)
          ∙ ap (λ numbers. has numbers number) (sym so_far.numbers) ∙ before ∙ c.if-has.false);
    }

pub returns-clause-numbers : goal.returns-clause-numbers
unfolding numbers_of
returns-clause-numbers c =
    let all : c.loop-object.object ≡ c.args.count = omega arith in
    c.loop-object.invariant.numbers ∙ ap (λ count. map (number_of c.args.indexes.now) (range_with_len 0 count)) all

pub returns-clause-good : goal.returns-clause-good
returns-clause-good c =
    let same = uncapped (index_count c.args.indexes.now c.args.count) c.args.count c.requires.few
    (sym c.capped_count-found.ensures ∙ c.if-found-count.false) in
    no_fault c.args.indexes.now c.args.count same (λ place within. c.loop-object.invariant.good place (omega arith))
