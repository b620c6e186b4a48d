-- Pairs, expanded one after another.
use Rattle.std.proofs.Common.{◌≡◌, ℕ, zero, suc, ◌+◌, ◌-◌, ◌<◌, ◌≤◌, Bool, true, false, cond, ◌||◌, ◌==◌, nat_le, List, [], ◌∷◌, ◌++◌}
use Rattle.std.proofs.Common.{length, take, get_or, refl, sym, ap, subst, ◌∙◌, arith, append_assoc}
use Rattle.std.specs.List.{range_with_len, flat_map, fold, sum_by, All}
use Rattle.std.proofs.lemmas.Bool.{leb-true, leb-false, or_parts, le-leb, or_left}
use Rattle.std.proofs.lemmas.List.{take_more, take_all, append-nil}
use Rattle.std.proofs.lemmas.List.Concat.{flat_map-append}
use Rattle.std.proofs.lemmas.List.Elements.{All-head, All-tail}
use Rattle.synth_text.specs.declared.description.Description.{Description}
use Rattle.topo_tree.specs.declared.layer.Layer.TheVariants as layers
use Rattle.topo_tree.specs.Objects.{children_of}
use Rattle.topo_tree.specs.Coverage.{set_at}
use Rattle.distrib_rules.specs.Shares.{share_of, Pair, weight_of, shared_behind, shared, in_order}
use Rattle.distrib_rules.specs.Expansion.{Way, is_final, children_sharing, expanded, expansion, ExpandTo}
use Rattle.distrib_rules.specs.Masks.{with_share, with_pair, with_pairs}

-- ---- masks of pairs one after another

pub fold-append : {A B : Type 0} (f : B → A → B) (a : B) (xs ys : List A) → fold f a (xs ++ ys) ≡ fold f (fold f a xs) ys
fold-append f a [] ys = refl
fold-append f a (x ∷ xs) ys = fold-append f (f a x) xs ys

pub with_pairs-append : (described : Description) (masks : List (List ℕ)) (pairs others : List Pair)
    → with_pairs described masks (pairs ++ others) ≡ with_pairs described (with_pairs described masks pairs) others
unfolding with_pairs
with_pairs-append described masks pairs others = fold-append (with_pair described) masks pairs others

pub with_pairs-none : (described : Description) (masks : List (List ℕ)) → with_pairs described masks [] ≡ masks
unfolding with_pairs
with_pairs-none described masks = refl

pub with_pairs-one : (described : Description) (masks : List (List ℕ)) (pair : Pair)
    → with_pairs described masks (pair ∷ []) ≡ with_share masks (set_at described pair.depth pair.index) pair.share
unfolding with_pairs
with_pairs-one described masks pair = refl

module _ (described : Description) (way : Way) where
  abbrev below : ℕ → ℕ
  below depth = length described.levels - depth

  -- ---- what a pair comes to

  pub expanded-final : (levels : ℕ) (pair : Pair) → is_final described way pair ≡ true → expanded described way levels pair ≡ pair ∷ []
  expanded-final zero pair final = refl
  expanded-final (suc levels) pair final = ap
      (λ b. cond b (pair ∷ []) (flat_map (expanded described way levels) (children_sharing described way pair))) final

  pub expanded-handed : (levels : ℕ) (pair : Pair) → is_final described way pair ≡ false
      → expanded described way (suc levels) pair ≡ flat_map (expanded described way levels) (children_sharing described way pair)
  expanded-handed levels pair handed = ap (λ b. cond b (pair ∷ [])
      (flat_map (expanded described way levels) (children_sharing described way pair))) handed

  pub above_last : (pair : Pair) → is_final described way pair ≡ false → pair.depth < length described.levels
  above_last pair handed = leb-false (length described.levels) pair.depth
      (or_parts (nat_le (length described.levels) pair.depth) (nat_le pair.share 1 || nat_le way.to pair.depth) handed).0

  -- pairs of one depth have as many levels below them
  behind-expanded : (n total depth before : ℕ) (indexes : List ℕ)
      → flat_map (λ pair. expanded described way (below pair.depth) pair) (shared_behind described n total depth before indexes)
      ≡ flat_map (expanded described way (below depth)) (shared_behind described n total depth before indexes)
  behind-expanded n total depth before [] = refl
  behind-expanded n total depth before (index ∷ indexes) =
      ap (λ ps. expanded described way (below depth)
      (record { depth = depth; index = index; share = share_of n total before (weight_of described depth index) }) ++ ps)
      (behind-expanded n total depth (before + weight_of described depth index) indexes)

  pub shared-expanded : (n depth : ℕ) (indexes : List ℕ)
      → expansion described way (shared described n depth indexes)
      ≡ flat_map (expanded described way (below depth)) (shared described n depth indexes)
  unfolding expansion shared
  shared-expanded n depth indexes = behind-expanded n (sum_by (weight_of described depth) indexes) depth 0 indexes

  abbrev pub children_in_order : Pair → List ℕ
  children_in_order pair = in_order way.backwards
      (range_with_len (children_of described (layers.Depth pair.depth) pair.index).0
      (children_of described (layers.Depth pair.depth) pair.index).1)

  -- a pair that isn't final comes to what its object's children come to
  pub handed_on : (pair : Pair) → is_final described way pair ≡ false
      → expanded described way (below pair.depth) pair ≡ expansion described way (children_sharing described way pair)
  handed_on pair handed =
      let within = above_last pair handed in
      let more : below pair.depth ≡ suc (below (pair.depth + 1)) = omega arith in
      ap (λ levels. expanded described way levels pair) more ∙ expanded-handed (below (pair.depth + 1)) pair handed
      ∙ sym (shared-expanded pair.share (pair.depth + 1) (children_in_order pair))

  -- ---- one pair more

  pub expansion-more : (pairs : List Pair) (place : ℕ) (d : Pair) → place < length pairs
      → expansion described way (take (place + 1) pairs) ≡ expansion described way (take place pairs)
      ++ expanded described way (below (get_or pairs place d).depth) (get_or pairs place d)
  unfolding expansion
  expansion-more pairs place d within =
      let each = λ (pair : Pair). expanded described way (below pair.depth) pair in
      ap (flat_map each) (take_more pairs place d within) ∙ flat_map-append each (take place pairs) (get_or pairs place d ∷ [])
      ∙ ap (λ ps. flat_map each (take place pairs) ++ ps) (append-nil (each (get_or pairs place d)))

  -- ---- any order

  expansion-parts : (before behind : List Pair) → expansion described way (before ++ behind) ≡ expansion described way before
      ++ expansion described way behind
  unfolding expansion
  expansion-parts before behind = flat_map-append (λ pair. expanded described way (below pair.depth) pair) before behind

  expansion-first : (pair : Pair) (behind : List Pair)
      → expansion described way (pair ∷ behind) ≡ expanded described way (below pair.depth) pair ++ expansion described way behind
  unfolding expansion
  expansion-first pair behind = refl

  expansion-final : (pairs : List Pair) → All (λ pair. is_final described way pair ≡ true) pairs → expansion described way pairs ≡ pairs
  unfolding expansion
  expansion-final [] final = refl
  expansion-final (pair ∷ pairs) final =
      ap (λ ps. ps ++ flat_map (λ p. expanded described way (below p.depth) p) pairs)
      (expanded-final (below pair.depth) pair (All-head (λ p. is_final described way p ≡ true) pair pairs final))
      ∙ ap (λ ps. pair ∷ ps) (expansion-final pairs (All-tail (λ p. is_final described way p ≡ true) pair pairs final))

  pub comes_to : (pairs others : List Pair) → ExpandTo described way pairs others → others ≡ expansion described way pairs
  comes_to _ _ (ExpandTo.done pairs final) = sym (expansion-final pairs final)
  comes_to _ _ (ExpandTo.replaced before pair behind others handed later) =
      comes_to (before ++ children_sharing described way pair ++ behind) others later
      ∙ ap (expansion described way) (append_assoc before (children_sharing described way pair) behind)
      ∙ expansion-parts before (children_sharing described way pair ++ behind)
      ∙ ap (λ ps. expansion described way before ++ ps)
      (expansion-parts (children_sharing described way pair) behind
      ∙ ap (λ ps. ps ++ expansion described way behind) (sym (handed_on pair handed)) ∙ sym (expansion-first pair behind))
      ∙ sym (expansion-parts before (pair ∷ behind))

  -- ---- the masks of one pair more

  pub masks-none : (masks : List (List ℕ)) (pairs : List Pair) → with_pairs described masks (expansion described way (take 0 pairs)) ≡ masks
  unfolding expansion with_pairs
  masks-none masks pairs = refl

  masks-more : (masks : List (List ℕ)) (pairs : List Pair) (place : ℕ) (pair : Pair) → place < length pairs → get_or pairs place pair ≡ pair
      → with_pairs described masks (expansion described way (take (place + 1) pairs))
      ≡ with_pairs described (with_pairs described masks (expansion described way (take place pairs)))
      (expanded described way (below pair.depth) pair)
  masks-more masks pairs place pair within here =
      ap (with_pairs described masks) (expansion-more pairs place pair within
      ∙ ap (λ p. expansion described way (take place pairs) ++ expanded described way (below p.depth) p) here)
      ∙ with_pairs-append described masks (expansion described way (take place pairs)) (expanded described way (below pair.depth) pair)

  pub masks-given : (masks now : List (List ℕ)) (pairs : List Pair) (place : ℕ) (pair : Pair) → place < length pairs
      → get_or pairs place pair ≡ pair → is_final described way pair ≡ true
      → now ≡ with_pairs described masks (expansion described way (take place pairs))
      → with_share now (set_at described pair.depth pair.index) pair.share
      ≡ with_pairs described masks (expansion described way (take (place + 1) pairs))
  masks-given masks now pairs place pair within here final so_far =
      ap (λ ms. with_share ms (set_at described pair.depth pair.index) pair.share) so_far
      ∙ sym (masks-more masks pairs place pair within here
      ∙ ap (with_pairs described (with_pairs described masks (expansion described way (take place pairs))))
      (expanded-final (below pair.depth) pair final)
      ∙ with_pairs-one described (with_pairs described masks (expansion described way (take place pairs))) pair)

  pub masks-handed : (masks now : List (List ℕ)) (pairs : List Pair) (place : ℕ) (pair : Pair) → place < length pairs
      → get_or pairs place pair ≡ pair → is_final described way pair ≡ false
      → now ≡ with_pairs described masks (expansion described way (take place pairs))
      → with_pairs described now (expansion described way (children_sharing described way pair))
      ≡ with_pairs described masks (expansion described way (take (place + 1) pairs))
  masks-handed masks now pairs place pair within here handed so_far =
      ap (λ ms. with_pairs described ms (expansion described way (children_sharing described way pair))) so_far
      ∙ sym (masks-more masks pairs place pair within here
      ∙ ap (with_pairs described (with_pairs described masks (expansion described way (take place pairs)))) (handed_on pair handed))

  pub masks-all : (masks : List (List ℕ)) (pairs : List Pair) (place : ℕ) → length pairs ≤ place
      → with_pairs described masks (expansion described way (take place pairs)) ≡ with_pairs described masks (expansion described way pairs)
  masks-all masks pairs place all = ap (λ ps. with_pairs described masks (expansion described way ps)) (take_all place pairs all)
