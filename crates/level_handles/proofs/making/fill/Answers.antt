use Rattle.std.proofs.Common.{◌≡◌, ◌+◌, map, sym, subst, arith}
use Rattle.std.proofs.lemmas.Grind.{common_steps}
use Rattle.std.proofs.lemmas.List.{length-map}
use Rattle.std.proofs.lemmas.Option.{slice_get_within}
use Rattle.std.specs.declared.option.Option.{Option}
use Rattle.lock_handles.specs.Calls.{IsSomeThat}
use Rattle.level_handles.specs.Making.{IsNew}
use Rattle.level_handles.specs.declared.any_depth.AnyDepth.{AnyDepth}
use Rattle.level_handles.specs.declared.handle.ClofComposedCaller.{ClofComposedCaller}
use Rattle.level_handles.proofs.Boxed.{filled_more, front_of}
use Rattle.level_handles.proofs.making.fill.Goals as goal

abbrev held : ClofComposedCaller → Option AnyDepth
held h = h.held

pub loop-index-init : goal.loop-index-init
loop-index-init c = record {
  left = omega (arith, c.requires.enough);
  behind = λ lock levels are k b e. let same : k ≡ 0 + k = omega arith in subst (λ n. IsNew lock levels n b.value) same (are k b e);
  filled = λ lock levels are k h lt e. absurd (omega (arith, lt));
}

pub loop-index-preserved : goal.loop-index-preserved
loop-index-preserved c = record {
  left = grind (arith, common_steps);
  behind = λ lock levels are.
      (front_of (λ n b. IsNew lock levels n b.value) c.loop-index.index c.loop-index.boxes.items c.pop.new.self.items c.in-Some.caller
      c.in-Some.ensures.items (c.loop-index.invariant.behind lock levels are)).1;
  filled = λ lock levels are.
      let next = (front_of (λ n b. IsNew lock levels n b.value) c.loop-index.index c.loop-index.boxes.items c.pop.new.self.items
      c.in-Some.caller c.in-Some.ensures.items (c.loop-index.invariant.behind lock levels are)).0 in
      filled_more held (λ k h. IsSomeThat h (IsNew lock levels k)) c.loop-index.handles c.loop-index.index c.put.new.self
      (subst (λ h. IsSomeThat h (IsNew lock levels c.loop-index.index)) (sym c.put.ensures.put) next)
      (c.loop-index.invariant.filled lock levels are);
}

pub returns : goal.returns
returns c = record {
  filled = λ lock levels are k h e.
      let within = slice_get_within (map held c.loop-index.handles) k h e in
      let many = length-map c.loop-index.handles held in
      c.loop-index.invariant.filled lock levels are k h (omega (arith, within, many)) e;
}
