use Rattle.std.proofs.Common.{◌++◌, ◌∷◌, [], ap, sym, ◌∙◌, subst, append_assoc}
use Rattle.std.proofs.lemmas.List.Elements.{All-push}
use Rattle.fresh_root.specs.Prefixes.{IsPrefixOf}
use Rattle.fresh_root.proofs.fresh.take_all_back.Goals as goal

pub loop-seen-preserved : goal.loop-seen-preserved
loop-seen-preserved c = let had = c.loop-seen.invariant in record {
  all = had.all ∙ ap (λ l. c.loop-seen.yielded ++ l) c.in-Some.ensures.steps.0
      ∙ sym (append_assoc c.loop-seen.yielded (c.in-Some.seen ∷ []) c.next.new.self.rest.items);
  history = c.take_back.ensures.same ∙ had.history;
  shown = All-push (λ s. IsPrefixOf s.list c.args.history.list) c.loop-seen.yielded c.in-Some.seen had.shown
      (subst (λ h. IsPrefixOf c.in-Some.seen.list h.list) had.history c.take_back.ensures.prefix);
}
