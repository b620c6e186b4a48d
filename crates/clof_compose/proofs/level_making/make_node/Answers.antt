use Rattle.std.proofs.Common.{◌-◌, ap, sym, ◌∙◌, subst, arith}
use Rattle.std.specs.Int.{bit_at}
use Rattle.std.proofs.lemmas.Nat.Bits.{bit_at-zero}
use Rattle.clof_compose.specs.Owns.{IsOwnFit, bit_of}
use Rattle.clof_compose.proofs.level_making.make_node.Goals as goal

pub make-requires-clause-fit : goal.make-requires-clause-fit
make-requires-clause-fit g c =
    let above = c.requires.above in
    let own = c.in_ok-own.own in
    let made = c.in_ok-own.ensures in
    let level = (g.Pass.Resting.rest c.args.pass).context.level - 1 in
    subst (IsOwnFit g.Pass.Resting.rest g.Held.Standing.stand g.P.Payload.calls g.P.Payload.tag g.Held.Standing.stands own.node own.kept
    own.said) (sym made.idle) (record {
      level = level;
      above = omega (arith, above);
      number_is = c.requires.number ∙ sym made.node;
      said_is = ap (λ n. bit_at n level) c.requires.fresh ∙ bit_at-zero level ∙ ap bit_of (sym made.unsaid);
    })
