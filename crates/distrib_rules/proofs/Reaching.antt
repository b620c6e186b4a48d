-- That pairs come to their expansion: some order of replacing ends there.
use Rattle.std.proofs.Common.{◌≡◌, ℕ, zero, suc, ◌+◌, ◌-◌, ◌≤◌, true, ◌||◌, nat_le, List, [], ◌∷◌, ◌++◌, length, sym, ap, subst, ◌∙◌}
use Rattle.std.proofs.Common.{refl, arith, append_assoc, inl, inr}
use Rattle.std.specs.List.{flat_map, sum_by, All}
use Rattle.std.proofs.lemmas.Bool.{cases_Bool, le-leb}
use Rattle.std.proofs.lemmas.List.{append-nil}
use Rattle.std.proofs.lemmas.List.Elements.{All-nil, All-cons, All-head, All-tail, All-append}
use Rattle.synth_text.specs.declared.description.Description.{Description}
use Rattle.distrib_rules.specs.Shares.{Pair, share_of, weight_of, shared_behind, shared}
use Rattle.distrib_rules.specs.Expansion.{Way, is_final, children_sharing, expanded, expansion, ExpandTo}
use Rattle.distrib_rules.proofs.ExpansionLaws.{expanded-final, expanded-handed, children_in_order}

-- what holds of each pair of a depth holds of those that share
behind-all : (described : Description) (P : Pair → Type 0) (n total depth before : ℕ) (indexes : List ℕ)
    → ((pair : Pair) → pair.depth ≡ depth → P pair) → All P (shared_behind described n total depth before indexes)
behind-all described P n total depth before [] given = All-nil P
behind-all described P n total depth before (index ∷ indexes) given =
    All-cons P (record { depth = depth; index = index; share = share_of n total before (weight_of described depth index) })
    (shared_behind described n total depth (before + weight_of described depth index) indexes) (given _ refl)
    (behind-all described P n total depth (before + weight_of described depth index) indexes given)

shared-all : (described : Description) (P : Pair → Type 0) (n depth : ℕ) (indexes : List ℕ)
    → ((pair : Pair) → pair.depth ≡ depth → P pair) → All P (shared described n depth indexes)
unfolding shared
shared-all described P n depth indexes given =
    behind-all described P n (sum_by (weight_of described depth) indexes) depth 0 indexes given

all_of : (P : Pair → Type 0) (pairs : List Pair) → ((pair : Pair) → P pair) → All P pairs
all_of P [] given = All-nil P
all_of P (pair ∷ pairs) given = All-cons P pair pairs (given pair) (all_of P pairs given)

module _ (described : Description) (way : Way) where
  abbrev IsFinal : Pair → Type 0
  IsFinal pair = is_final described way pair ≡ true

  abbrev handed_to : Pair → List Pair
  handed_to pair = children_sharing described way pair

  -- pairs that are final stay in front of others
  behind_final : (front pairs others : List Pair) → All IsFinal front → ExpandTo described way pairs others
      → ExpandTo described way (front ++ pairs) (front ++ others)
  behind_final front _ _ final (ExpandTo.done pairs all) = ExpandTo.done (front ++ pairs) (All-append IsFinal front pairs final all)
  behind_final front _ _ final (ExpandTo.replaced before pair behind others handed later) =
      let moved = append_assoc (front ++ before) (handed_to pair) behind
      ∙ append_assoc front before (handed_to pair ++ behind)
      ∙ ap (λ ps. front ++ ps) (sym (append_assoc before (handed_to pair) behind)) in
      subst (λ ps. ExpandTo described way ps (front ++ others)) (append_assoc front before (pair ∷ behind))
      (ExpandTo.replaced (front ++ before) pair behind (front ++ others) handed
      (subst (λ ps. ExpandTo described way ps (front ++ others)) (sym moved)
      (behind_final front (before ++ handed_to pair ++ behind) others final later)))

  -- what two lists come to, one behind the other
  followed : (pairs others rest ends : List Pair) → ExpandTo described way pairs others → ExpandTo described way rest ends
      → ExpandTo described way (pairs ++ rest) (others ++ ends)
  followed _ _ rest ends (ExpandTo.done pairs all) second = behind_final pairs rest ends all second
  followed _ _ rest ends (ExpandTo.replaced before pair behind others handed later) second =
      subst (λ ps. ExpandTo described way ps (others ++ ends)) (sym (append_assoc before (pair ∷ behind) rest))
      (ExpandTo.replaced before pair (behind ++ rest) (others ++ ends) handed
      (subst (λ ps. ExpandTo described way ps (others ++ ends)) (append_assoc (before ++ handed_to pair) behind rest)
      (followed (before ++ handed_to pair ++ behind) others rest ends later second)))

  each : (f : Pair → List Pair) (pairs : List Pair) → All (λ pair. ExpandTo described way (pair ∷ []) (f pair)) pairs
      → ExpandTo described way pairs (flat_map f pairs)
  each f [] come = ExpandTo.done [] (All-nil IsFinal)
  each f (pair ∷ pairs) come =
      followed (pair ∷ []) (f pair) pairs (flat_map f pairs)
      (All-head (λ p. ExpandTo described way (p ∷ []) (f p)) pair pairs come)
      (each f pairs (All-tail (λ p. ExpandTo described way (p ∷ []) (f p)) pair pairs come))

  stays : (pair : Pair) → IsFinal pair → ExpandTo described way (pair ∷ []) (pair ∷ [])
  stays pair final = ExpandTo.done (pair ∷ []) (All-cons IsFinal pair [] final (All-nil IsFinal))

  -- a pair comes to what it is expanded to over all levels below it
  alone : (levels : ℕ) (pair : Pair) → length described.levels ≤ pair.depth + levels
      → ExpandTo described way (pair ∷ []) (expanded described way levels pair)
  alone zero pair low =
      stays pair (ap (λ b. b || (nat_le pair.share 1 || nat_le way.to pair.depth))
      (le-leb (length described.levels) pair.depth (omega arith)))
  alone (suc levels) pair low =
      elim (cases_Bool (is_final described way pair)) [
        | inl final ↦
            subst (ExpandTo described way (pair ∷ [])) (sym (expanded-final described way (suc levels) pair final)) (stays pair final)
        | inr handed ↦
            let come = each (expanded described way levels) (handed_to pair)
            (shared-all described (λ p. ExpandTo described way (p ∷ []) (expanded described way levels p)) pair.share (pair.depth + 1)
            (children_in_order described way pair) (λ p down. alone levels p (omega (arith, down, low)))) in
            subst (ExpandTo described way (pair ∷ [])) (sym (expanded-handed described way levels pair handed))
            (ExpandTo.replaced [] pair [] (flat_map (expanded described way levels) (handed_to pair)) handed
            (subst (λ ps. ExpandTo described way ps (flat_map (expanded described way levels) (handed_to pair)))
            (sym (append-nil (handed_to pair))) come))
      ]

  pub reached : (pairs : List Pair) → ExpandTo described way pairs (expansion described way pairs)
  unfolding expansion
  reached pairs =
      each (λ pair. expanded described way (length described.levels - pair.depth) pair) pairs
      (all_of (λ pair. ExpandTo described way (pair ∷ []) (expanded described way (length described.levels - pair.depth) pair)) pairs
      (λ pair. alone (length described.levels - pair.depth) pair (omega arith)))
