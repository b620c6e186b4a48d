use Rattle.std.proofs.Common.{◌≡◌, ℕ, ◌+◌, ◌-◌, ◌*◌, ◌<◌, ◌≤◌, Bool, if◌then◌else◌, List, length, get_or, sym, ap, subst, ◌∙◌, arith}
use Rattle.std.specs.List.{range_with_len}
use Rattle.topo_tree.specs.Objects.{count_at, arity_at}
use Rattle.topo_tree.proofs.CountLaws.{few_objects, arity_some, children_within}
use Rattle.distrib_rules.specs.Shares.{Pair, rounded_up, shared, in_order}
use Rattle.distrib_rules.specs.Expansion.{Way, expansion}
use Rattle.distrib_rules.proofs.SharedLaws.{are_objects, length-in_order, in_order-at, length-shared, shared-at}
use Rattle.distrib_rules.proofs.ExpansionLaws.{masks-none, masks-given, masks-handed, masks-all, above_last}
use Rattle.distrib_rules.specs.Masks.{with_share, with_pairs}
use Rattle.distrib_rules.proofs.sharing.Distribution.+share_out.Goals as goal
use Rattle.distrib_rules.proofs.sharing.Distribution.+share_out.Goals.{then-is_final+in_ok-push_share, else-is_final+in_ok-share_out}

pub loop-place-init : goal.loop-place-init
loop-place-init t c =
    sym (masks-none c.args.self.now.tree.now (record { to = c.args.self.now.to; backwards = c.args.self.now.reverse })
    c.args.masks.now.items
    (shared c.args.self.now.tree.now c.args.n c.args.depth
    (in_order c.args.self.now.reverse (range_with_len c.args.objects.first c.args.objects.count))))

pub index_at-requires-clause-few : goal.index_at-requires-clause-few
index_at-requires-clause-few t c = omega (
  arith,
  c.requires.objects,
  few_objects c.args.self.now.tree.now c.args.depth
      c.requires.built.sound,
)

pub share_at-share-requires-clause-few : goal.share_at-share-requires-clause-few
share_at-share-requires-clause-few t c = omega
    (arith, c.requires.objects, few_objects c.args.self.now.tree.now c.args.depth c.requires.built.sound)

abbrev pair_of : ℕ → ℕ → ℕ → Pair
pair_of depth index share = record { depth = depth; index = index; share = share }

pub share_out-requires : goal.share_out-requires
share_out-requires t c =
    let now = c.args.self.now.tree.now in
    let depth = c.args.depth in
    let handed = sym (c.is_final.ensures c.index_at.result) ∙ c.if-is_final.false in
    let within : depth < length now.levels = above_last now (record { to = c.args.self.now.to; backwards = c.args.self.now.reverse })
    (pair_of depth c.index_at.result c.share_at-share.result) handed in
    let below : c.index_at.result < count_at now depth = omega (arith, c.index_at.ensures.within, c.requires.objects) in
    let children = c.children-first.ensures in
    let first = ap (λ run. run.0) children in
    let count = ap (λ run. run.1) children in
    let some = arity_some now depth c.requires.built.sound within in
    let inside = children_within now depth c.index_at.result within below in (
      omega (arith, c.decreases, within),
      (
        c.requires.built,
        (
          c.requires.last,
          (
            omega (arith, within),
            (
              omega (arith, count, some),
              (
                omega (arith, first, count, inside),
                omega
                    (arith, c.share_at-share.ensures.masks, c.requires.masks),
              ),
            ),
          ),
        ),
      ),
    )

pub loop-place-preserved : goal.loop-place-preserved
loop-place-preserved t c =
    let now = c.args.self.now.tree.now in
    let depth = c.args.depth in
    let way : Way = record { to = c.args.self.now.to; backwards = c.args.self.now.reverse } in
    let backwards = c.args.self.now.reverse in
    let first = c.args.objects.first in
    let count = c.args.objects.count in
    let place = c.loop-place.place in
    let indexes = in_order backwards (range_with_len first count) in
    let pairs = shared now c.args.n depth indexes in
    let index = c.index_at.result in
    let share = c.share_at-share.result in
    let pair : Pair = pair_of depth index share in
    let many = length-in_order backwards first count in
    let objects = are_objects now depth first count backwards c.requires.objects in
    let long = length-shared now c.requires.built depth c.args.n indexes in
    let within : place < length pairs = omega (arith, long, many, c.loop-place-test.true) in
    let here : get_or pairs place pair ≡ pair =
    shared-at now c.requires.built depth c.args.n indexes place pair objects (omega (arith, many, c.loop-place-test.true))
    ∙ ap (λ m. pair_of depth (get_or indexes place 0) (rounded_up ((place + 1) * c.args.n) m - rounded_up (place * c.args.n) m)) many
    ∙ ap (λ s. pair_of depth (get_or indexes place 0) s) (sym c.share_at-share.ensures.share)
    ∙ ap (λ i. pair_of depth i share) (in_order-at backwards first count place c.loop-place-test.true ∙ sym c.index_at.ensures.index) in
    elim c.if-is_final.branch [
      | then-is_final+in_ok-push_share w ↦
          ap (λ v. v.items) w.masks-is ∙ w.in_ok-push_share.ensures
          ∙ ap (λ set. with_share c.loop-place.masks.items set share) w.set_of.ensures
          ∙ masks-given now way c.args.masks.now.items c.loop-place.masks.items pairs place pair within here
          (sym (c.is_final.ensures index) ∙ w.if-is_final.true) c.loop-place.invariant
      | else-is_final+in_ok-share_out w ↦
          ap (λ v. v.items) w.masks-is ∙ w.in_ok-share_out.ensures
          ∙ ap (λ run. with_pairs now c.loop-place.masks.items
          (expansion now way (shared now share (depth + 1) (in_order backwards (range_with_len run.0 run.1))))) w.children-first.ensures
          ∙ masks-handed now way c.args.masks.now.items c.loop-place.masks.items pairs place pair within here
          (sym (c.is_final.ensures index) ∙ w.if-is_final.false) c.loop-place.invariant
    ]

pub returns : goal.returns
returns t c =
    let now = c.args.self.now.tree.now in
    let way : Way = record { to = c.args.self.now.to; backwards = c.args.self.now.reverse } in
    let indexes = in_order c.args.self.now.reverse (range_with_len c.args.objects.first c.args.objects.count) in
    c.loop-place.invariant
    ∙ masks-all now way c.args.masks.now.items (shared now c.args.n c.args.depth indexes) c.loop-place.place
    (omega (
      arith,
      c.loop-place-test.false,
      length-shared now c.requires.built c.args.depth c.args.n indexes,
      length-in_order
          c.args.self.now.reverse c.args.objects.first c.args.objects.count,
    ))
