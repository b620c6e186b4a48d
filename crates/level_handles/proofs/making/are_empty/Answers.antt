use Rattle.std.proofs.Common.{◌≡◌, ◌<◌, length, refl, sym, subst, ◌∙◌, arith}
use Rattle.std.proofs.Math.Seq.{map-set_same}
use Rattle.std.proofs.lemmas.Bool.{false≢true}
use Rattle.std.proofs.lemmas.List.Elements.{All-map, AllWithin-more_set, AllWithin-upto, All-from_all_within}
use Rattle.std.specs.declared.option.Option.{Option}
use Rattle.std.specs.declared.option.Option.TheVariants.{None}
use Rattle.level_handles.specs.Making.{AreEmpty}
use Rattle.level_handles.specs.declared.any_depth.AnyDepth.{AnyDepth}
use Rattle.level_handles.specs.declared.handle.ClofComposedCaller.{ClofComposedCaller}
use Rattle.lock_handles.proofs.Held.{none_told, not_all_none}
use Rattle.level_handles.proofs.making.are_empty.Goals as goal

abbrev held : ClofComposedCaller → Option AnyDepth
held h = h.held

abbrev IsNone : ClofComposedCaller → Type 0
IsNone h = h.held ≡ None

pub returns-then-not-is_empty-clause-same : goal.returns-then-not-is_empty-clause-same
returns-then-not-is_empty-clause-same c =
    map-set_same held c.loop-index.handles c.loop-index.index c.is_empty.new.self c.index-handles-index.result c.is_empty.ensures.same
    ∙ c.loop-index.invariant.same

pub returns-then-not-is_empty-clause-empty : goal.returns-then-not-is_empty-clause-empty
returns-then-not-is_empty-clause-empty c =
    let here : c.loop-index.index < length c.loop-index.handles = omega arith in (
      λ t. absurd (false≢true t),
      λ all. absurd (not_all_none held c.loop-index.handles c.loop-index.index c.index-handles-index.result here
          (sym c.is_empty.ensures.empty ∙ c.if-not-is_empty.true) (subst AreEmpty (sym c.loop-index.invariant.same) all)),
    )

pub loop-index-preserved : goal.loop-index-preserved
loop-index-preserved c =
    let here : c.loop-index.index < length c.loop-index.handles = omega arith in record {
      same = map-set_same held c.loop-index.handles c.loop-index.index c.is_empty.new.self c.index-handles-index.result
          c.is_empty.ensures.same ∙ c.loop-index.invariant.same;
      none = AllWithin-more_set c.loop-index.handles c.loop-index.index c.is_empty.new.self here IsNone c.loop-index.invariant.none
          (c.is_empty.ensures.same ∙ none_told _ (sym c.is_empty.ensures.empty ∙ c.if-not-is_empty.false));
    }

pub returns-clause-empty : goal.returns-clause-empty
returns-clause-empty c =
    let all = All-from_all_within IsNone c.loop-index.handles (AllWithin-upto IsNone c.loop-index.handles 0 c.loop-index.index
    (length c.loop-index.handles) (omega arith) c.loop-index.invariant.none) in (
      λ _. subst AreEmpty c.loop-index.invariant.same (All-map (λ (o : Option AnyDepth). o ≡ None) held c.loop-index.handles all),
      λ _. refl,
    )
