use Rattle.std.proofs.Common.{rules, ap, ◌∙◌}
use Rattle.fresh_root.proofs.Kept.{copies, joins_home, joins_away, looks}
use Rattle.fresh_root.proofs.Shown.{view_is, copy_view, home_shown, still_home}
use Rattle.fresh_root.proofs.history.History.show.Goals as goal

pub split_seat-copy-requires : goal.split_seat-copy-requires
split_seat-copy-requires c = (search rules, search rules, copies _ _)

pub join_seat-requires : goal.join_seat-requires
join_seat-requires c =
    let token = view_is _ _ _ c.replace-badge.ensures.value c.into_seat-seat.ensures.2 in
    let copy = copy_view c.into_seat-seat.result.me.0 c.split_seat-copy.result.me c.split_seat-copy.ensures.4 in (
      search rules,
      search rules,
      search rules,
      search rules,
      joins_home _ _ _ _ (search rules) copy.0 (copy.1 ∙ ap (λ v. v.spent) token ∙ c.seen.invariant.unspent),
    )

pub load-count-requires : goal.load-count-requires
load-count-requires c =
    let home = home_shown c.self.inside.home.me c.join_seat.new.seat.me c.split_seat-copy.result.me.0 c.self.invariant.home
    c.join_seat.ensures.2 in
    let at_home = still_home c.self.inside.home.me c.join_seat.new.seat.me c.split_seat-copy.result.me.0 c.self.invariant.home home in
    (search rules, search rules, looks _ _ _ at_home)

pub split_seat-copy-requires-2 : goal.split_seat-copy-requires-2
split_seat-copy-requires-2 c = (search rules, search rules, copies _ _)

pub join_seat-requires-2 : goal.join_seat-requires-2
join_seat-requires-2 c =
    let token = view_is _ _ _ c.replace-badge.ensures.value c.into_seat-seat.ensures.2 in
    let same = ap (λ m. m.0) c.split_seat-copy.ensures.2 ∙ token in
    let home = home_shown c.self.inside.home.me c.join_seat.new.seat.me c.split_seat-copy.result.me.0 c.self.invariant.home
    c.join_seat.ensures.2 in
    let at_home = still_home c.self.inside.home.me c.join_seat.new.seat.me c.split_seat-copy.result.me.0 c.self.invariant.home home in
    let copy = copy_view c.load-count.new.seat.me.0 c.split_seat-copy-2.result.me c.split_seat-copy-2.ensures.4 in (
      search rules,
      search rules,
      search rules,
      search rules,
      joins_away _ _ _ _ (ap (λ v. v.home) same ∙ c.seen.invariant.away) copy.0
          (copy.1 ∙ ap (λ m. m.0.spent) c.load-count.ensures.2.view ∙ at_home.unspent),
    )
