use Rattle.std.proofs.Common.{◌≡◌, refl, ap, sym, ◌∙◌, subst, Some}
use Rattle.lock_rules.specs.Holders.{holder_of, with_value}
use Rattle.clof_compose.specs.Levels.{level_context, kept_stand, loads_from, high_with_root, own_with_root, IsStanding}
use Rattle.clof_compose.specs.Roots.{IsKept}
use Rattle.clof_compose.proofs.Owned.{holding_stays}
use Rattle.clof_compose.proofs.level_tokens.LevelHeldStanding.root.Goals as goal

pub returns : goal.returns
returns g c =
    let v = c.value_mut-own.ensures.value in
    let found = ap (λ o. (kept_stand g.Held.Standing.stand o.high).root) (sym v) ∙ c.kept_root.ensures.value in (
      (refl, λ w. ap (λ o. record c.args.self.now { low = with_value c.args.self.now.low (own_with_root g.Held.Standing.put_root o w) }) v),
      record {
        writes_back = tt;
        value = found;
        others = λ r. ap (λ s. record {
          context = level_context c.args.self.now.id.level c.args.self.now.id.node c.args.self.now.id.number
              (holder_of c.args.self.now.low).place;
          loads = loads_from c.args.self.now.id.level (holder_of c.args.self.now.low).loads s.loads;
          root = s.root;
        })
            (subst (λ o. kept_stand g.Held.Standing.stand (high_with_root g.Held.Standing.put_root o.high r) ≡ record (kept_stand
            g.Held.Standing.stand o.high) { root = Some r }) v (c.kept_root.ensures.others r));
        stays = λ r k. (
          holding_stays g.P.Payload.calls _ _ _ _ _ _ (kept_stand g.Held.Standing.stand c.args.self.now.low.value.high) _ _ r
              c.requires.stands.0 found
              (subst (λ o. kept_stand g.Held.Standing.stand (high_with_root g.Held.Standing.put_root o.high r) ≡ record (kept_stand
              g.Held.Standing.stand o.high) { root = Some r }) v (c.kept_root.ensures.others r))
              k
              (subst (λ o. IsKept g.P.Payload.calls (kept_stand g.Held.Standing.stand o.high).context.level c.kept_root.result.now r
              → IsStanding g.Held.Standing.stands (high_with_root g.Held.Standing.put_root o.high r)) v (c.kept_root.ensures.stays
              r)),
          c.requires.stands.1,
        );
      },
    )
