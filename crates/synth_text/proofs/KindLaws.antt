-- Kinds are told apart by their numbers.
use Rattle.std.proofs.Common.{◌≡◌, ℕ, zero, suc, true, false, refl, sym, ap, ◌∙◌}
use Rattle.std.proofs.lemmas.Bool.{eqb-true, eq-eqb, false_from_ne_true}
use Rattle.synth_text.specs.declared.kind.Kind.{Kind}
use Rattle.synth_text.specs.declared.kind.Kind.TheVariants.{Machine, Package, Die, Group, L5, L4, L3, L2, L1d, L1i, Core, Pu, NumaNode}
use Rattle.synth_text.specs.Kinds.{kind_number, same_kind}

-- the kind with a number
abbrev kind_at : ℕ → Kind
kind_at zero = Machine
kind_at (suc zero) = Package
kind_at (suc (suc zero)) = Die
kind_at (suc (suc (suc zero))) = Group
kind_at (suc (suc (suc (suc zero)))) = L5
kind_at (suc (suc (suc (suc (suc zero))))) = L4
kind_at (suc (suc (suc (suc (suc (suc zero)))))) = L3
kind_at (suc (suc (suc (suc (suc (suc (suc zero))))))) = L2
kind_at (suc (suc (suc (suc (suc (suc (suc (suc zero)))))))) = L1d
kind_at (suc (suc (suc (suc (suc (suc (suc (suc (suc zero))))))))) = L1i
kind_at (suc (suc (suc (suc (suc (suc (suc (suc (suc (suc zero)))))))))) = Core
kind_at (suc (suc (suc (suc (suc (suc (suc (suc (suc (suc (suc zero))))))))))) = Pu
kind_at (suc (suc (suc (suc (suc (suc (suc (suc (suc (suc (suc (suc n)))))))))))) = NumaNode

kind_back : (kind : Kind) → kind_at (kind_number kind) ≡ kind
kind_back Machine = refl
kind_back Package = refl
kind_back Die = refl
kind_back Group = refl
kind_back L5 = refl
kind_back L4 = refl
kind_back L3 = refl
kind_back L2 = refl
kind_back L1d = refl
kind_back L1i = refl
kind_back Core = refl
kind_back Pu = refl
kind_back NumaNode = refl

pub same_kind-true : (kind other : Kind) → same_kind kind other ≡ true → kind ≡ other
unfolding same_kind
same_kind-true kind other h = sym (kind_back kind) ∙ ap kind_at (eqb-true (kind_number kind) (kind_number other) h) ∙ kind_back other

pub same_kind-refl : (kind : Kind) → same_kind kind kind ≡ true
unfolding same_kind
same_kind-refl kind = eq-eqb (kind_number kind) (kind_number kind) refl

pub same_kind-equal : (kind other : Kind) → kind ≡ other → same_kind kind other ≡ true
same_kind-equal kind other e = ap (same_kind kind) (sym e) ∙ same_kind-refl kind

pub same_kind-false : (kind other : Kind) → (kind ≡ other → ⊥) → same_kind kind other ≡ false
same_kind-false kind other h = false_from_ne_true (same_kind kind other) (λ e. h (same_kind-true kind other e))
