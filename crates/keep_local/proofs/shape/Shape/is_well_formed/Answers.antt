use Rattle.std.proofs.Common.{◌≡◌, true, false, length, refl, ap, arith}
use Rattle.keep_local.proofs.shape.Shape.is_well_formed.Goals as goal

never : {A : Type 0} → false ≡ true → A
never e = absurd (cc)

pub returns-then-not-has_whole_paths : goal.returns-then-not-has_whole_paths
returns-then-not-has_whole_paths c = ((λ e. never e), (λ is. c.if-not-has_whole_paths.ensures.1 is.whole))

pub returns-then-not-has_one_top : goal.returns-then-not-has_one_top
returns-then-not-has_one_top c = ((λ e. never e), (λ is. c.if-not-has_one_top.ensures.1 is.one_top))

pub returns-then-not-has_no_gaps : goal.returns-then-not-has_no_gaps
returns-then-not-has_no_gaps c = ((λ e. never e), (λ is. c.if-not-has_no_gaps.ensures.1 is.no_gaps))

pub returns : goal.returns
returns c = (
  (λ e. record {
    levels = let same = ap length c.as_slice.ensures in let few = c.if-as_slice-gt32.false in omega (arith, same, few);
    whole = c.if-not-has_whole_paths.ensures.0 refl;
    no_gaps = c.if-not-has_no_gaps.ensures.0 refl;
    one_top = c.if-not-has_one_top.ensures.0 refl;
    nested = c.is_nested.ensures.0 e;
  }),
  (λ is. c.is_nested.ensures.1 is.nested),
)
