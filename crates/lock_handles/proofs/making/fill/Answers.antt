use Rattle.std.proofs.Common.{◌≡◌, ◌<◌, length, ap, subst, ◌∙◌, arith}
use Rattle.std.proofs.lemmas.Grind.{common_steps}
use Rattle.std.proofs.lemmas.List.Elements.{All-map, All-pop, AllWithin-more_set, AllWithin-upto, All-from_all_within}
use Rattle.std.specs.Option.{IfSome}
use Rattle.std.specs.declared.option.Option.{Option}
use Rattle.std.specs.declared.option.Option.TheVariants.{Some}
use Rattle.lock_handles.specs.declared.any.AnyCaller.{AnyCaller}
use Rattle.lock_handles.specs.declared.handle.ClofCaller.{ClofCaller}
use Rattle.lock_handles.proofs.making.fill.Goals as goal

abbrev Has : AnyCaller → ClofCaller → Type 0
Has x h = h.held ≡ Some x

pub loop-index-preserved : goal.loop-index-preserved
loop-index-preserved c =
    let here : c.loop-index.index < length c.loop-index.handles = omega arith in record {
      left = grind (arith, common_steps);
      alike = λ x h. (All-pop (λ b. b.value ≡ x) _ _ _ c.pop.ensures.items (c.loop-index.invariant.alike x h)).0;
      filled = λ x h.
          let popped = All-pop (λ b. b.value ≡ x) _ _ _ c.pop.ensures.items (c.loop-index.invariant.alike x h) in
          let told : c.in-Some.caller.value ≡ x = subst (λ r. IfSome r (λ b. b.value ≡ x)) c.in-Some.is popped.1 in
          AllWithin-more_set c.loop-index.handles c.loop-index.index c.put.new.self here (Has x) (c.loop-index.invariant.filled x h)
          (c.put.ensures.put ∙ ap Some told);
    }

pub returns : goal.returns
returns c = record {
  filled = λ x h. All-map (λ (o : Option AnyCaller). o ≡ Some x) (λ (k : ClofCaller). k.held) c.loop-index.handles
      (All-from_all_within (Has x) c.loop-index.handles (AllWithin-upto (Has x) c.loop-index.handles 0 c.loop-index.index
      (length c.loop-index.handles) (omega arith) (c.loop-index.invariant.filled x h)));
}
