use Rattle.std.proofs.Common.{◌+◌, ◌≤◌, [], refl, ap, sym, ◌∙◌, rules}
use Rattle.keep_local.specs.declared.view.Tally.{Tally}
use Rattle.keep_local.proofs.Tied.{splits, joins, appends}
use Rattle.keep_local.proofs.Seated.{view_is, at_table, joined_is, tally_is}
use Rattle.keep_local.proofs.tie.Tie.append.Goals as goal

pub join_seat-requires : goal.join_seat-requires
join_seat-requires c =
    let view = view_is _ _ _ _ c.replace-badge.ensures.value c.share.invariant.seated c.into_seat.ensures.2 in (
      c.self.invariant.own,
      at_table _ _ _ _ _ _ _ c.into_seat.ensures.0 c.replace-badge.ensures.value refl c.share.view_is c.requires.own c.self.view_is,
      c.into_seat.ensures.3,
      search rules,
      joins _ _ _ _ _ (ap (λ v. v.home) view),
    )

pub fetch_add-requires : goal.fetch_add-requires
fetch_add-requires c =
    let t : Tally = record { caller = c.share.inside.caller; made = c.share.inside.made; quota = c.share.inside.quota } in
    let view = view_is _ _ _ _ c.replace-badge.ensures.value c.share.invariant.seated c.into_seat.ensures.2 in
    let me = joined_is c.self.inside.home.me c.join_seat.new.seat.me _ _ _ t c.join_seat.ensures.2 c.self.invariant.seated view in
    let room : t.made + c.args.turns ≤ t.quota = search rules in (
      c.join_seat.ensures.0 ∙ c.self.invariant.own,
      search rules,
      appends _ _ _ _ _ t [] (ap (λ m. m.0.home) me) (ap (λ m. m.0.tallies) me) room,
    )

pub split_seat-requires : goal.split_seat-requires
split_seat-requires c = (c.fetch_add.ensures.0 ∙ c.join_seat.ensures.0 ∙ c.self.invariant.own, search rules, splits _ _ _)

pub returns-clause-told : goal.returns-clause-told
returns-clause-told c =
    let t : Tally = record { caller = c.share.inside.caller; made = c.share.inside.made; quota = c.share.inside.quota } in
    let view = view_is _ _ _ _ c.replace-badge.ensures.value c.share.invariant.seated c.into_seat.ensures.2 in
    let me = joined_is c.self.inside.home.me c.join_seat.new.seat.me _ _ _ t c.join_seat.ensures.2 c.self.invariant.seated view in
    let tally = tally_is _ _ _ _ t me c.fetch_add.ensures.2.told in
    rw (← c.self.view_is, ← c.share.view_is)
    (record {
      own = ap (λ s. s.name) c.share.view_is ∙ c.requires.own ∙ sym (ap (λ s. s.name) c.self.view_is);
      known = tally.known;
      quota = tally.quota;
      made = tally.made;
    })
