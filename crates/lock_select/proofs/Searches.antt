-- The search through all lists of levels finds the cheapest.
use Rattle.std.proofs.Common.{◌≡◌, ℕ, zero, suc, ◌+◌, ◌<◌, ◌≤◌, ◌⊎◌, List, [], ◌∷◌, ◌++◌, length, take, get_or, refl, ap, sym, ◌∙◌, subst}
use Rattle.std.proofs.Common.{arith}
use Rattle.std.proofs.Common.{inl, inr, length-append, append_assoc}
use Rattle.std.specs.Prelude.{All}
use Rattle.std.specs.List.{AllPairs}
use Rattle.std.proofs.Math.Seq.{get_or-append_seam, take-append_seam}
use Rattle.std.proofs.lemmas.Bool.{cases_lt}
use Rattle.std.proofs.lemmas.List.Elements.{All-nil, All-cons, All-head, All-push, All-weaker, All-get_or, All-from_get_or}
use Rattle.std.proofs.lemmas.List.Quantifiers.{all_pairs_push}
use Rattle.synth_text.specs.declared.description.Description.{Description}
use Rattle.topo_tree.specs.Objects.{depth_count}
use Rattle.lock_select.specs.declared.choice.Choice.{Choice}
use Rattle.lock_select.specs.Nodes.{AreLevels, level_limit}
use Rattle.lock_select.specs.Costs.{cost_of, IsLess, ComesBefore, IsCheapest}
use Rattle.lock_select.specs.Search.{CanGoOn, IsEnding, GoesOn, IsBestOf}

-- ---- one behind another

module _ (cost : List ℕ → ℕ) where
  -- nothing was tried
  pub best_of_none : (Tried : List ℕ → Type 0) (best : Choice) → ((others : List ℕ) → Tried others → ⊥) → IsBestOf cost Tried best best
  best_of_none Tried best none = record {
    improves = record { no_more = omega arith; stays = λ h. refl; tried = λ h. absurd (omega arith) };
    least = λ others is. absurd (none others is);
    first = λ others is same less. absurd (none others is);
  }

  -- one list was tried, which is no cheaper
  pub best_stays : (depths : List ℕ) (best : Choice) → best.cost ≤ cost depths → IsBestOf cost (λ others. others ≡ depths) best best
  best_stays depths best dear = record {
    improves = record { no_more = omega arith; stays = λ h. refl; tried = λ h. absurd (omega arith) };
    least = λ others is. let same = ap cost is in omega (arith, dear, same);
    first = λ others is same less. absurd (omega arith);
  }

  -- or which is cheaper
  pub best_gives_way : (depths : List ℕ) (old new : Choice) → cost depths < old.cost → new.depths ≡ depths → new.cost ≡ cost depths
      → IsBestOf cost (λ others. others ≡ depths) old new
  best_gives_way depths old new cheap depths_are cost_is = record {
    improves = record {
      no_more = omega (arith, cheap, cost_is);
      stays = λ h. absurd (omega (arith, cheap, cost_is, h));
      tried = λ h. (depths_are, cost_is ∙ ap cost (sym depths_are));
    };
    least = λ others is. let same = ap cost is in omega (arith, cost_is, same);
    first = λ others is same less. inl (is ∙ sym depths_are);
  }

  -- the same lists in other words
  pub best_for : (P Q : List ℕ → Type 0) (old new : Choice) → ((others : List ℕ) → P others → Q others)
      → ((others : List ℕ) → Q others → P others) → IsBestOf cost P old new → IsBestOf cost Q old new
  best_for P Q old new to from best = record {
    improves = record {
      no_more = best.improves.no_more;
      stays = best.improves.stays;
      tried = λ h. let tried = best.improves.tried h in (to new.depths tried.0, tried.1);
    };
    least = λ others is. best.least others (from others is);
    first = λ others is same less. best.first others (from others is) same less;
  }

  -- the lists of one search, and then those of another, each of which comes behind them
  module _ (A B C : List ℕ → Type 0) (old mid new : Choice) (parts : (others : List ℕ) → C others → A others ⊎ B others)
      (of_first : (others : List ℕ) → A others → C others) (of_second : (others : List ℕ) → B others → C others)
      (in_order : (first second : List ℕ) → A first → B second → IsLess first second) (front : IsBestOf cost A old mid)
      (behind : IsBestOf cost B mid new) where
    unchanged : new.cost ≡ mid.cost → new.depths ≡ mid.depths
    unchanged same = behind.improves.stays same

    tried_either : new.cost < old.cost → C new.depths × (new.cost ≡ cost new.depths)
    tried_either less = elim (cases_lt new.cost mid.cost) [
      | inl fell ↦ let tried = behind.improves.tried fell in (of_second new.depths tried.0, tried.1)
      | inr stayed ↦
          let no_more = behind.improves.no_more in
          let same : new.cost ≡ mid.cost = omega arith in
          let tried = front.improves.tried (omega (arith, same, less)) in
          let depths = unchanged same in
          (subst C (sym depths) (of_first mid.depths tried.0), same ∙ tried.1 ∙ ap cost (sym depths))
    ]

    least_either : (others : List ℕ) → A others ⊎ B others → new.cost ≤ cost others
    least_either others (inl is) =
        let no_more = behind.improves.no_more in
        let least = front.least others is in
        omega (arith, no_more, least)
    least_either others (inr is) = behind.least others is

    first_of_front : (others : List ℕ) → A others → cost others ≡ new.cost → new.cost < old.cost
        → (others ≡ new.depths) ⊎ IsLess new.depths others
    first_of_front others is same less =
        let no_more = behind.improves.no_more in
        let least = front.least others is in
        let equal : new.cost ≡ mid.cost = omega (arith, no_more, least, same) in
        let depths = unchanged equal in
        subst (λ (ds : List ℕ). (others ≡ ds) ⊎ IsLess ds others) (sym depths)
        (front.first others is (same ∙ equal) (omega (arith, equal, less)))

    first_of_behind : (others : List ℕ) → B others → cost others ≡ new.cost → new.cost < old.cost
        → (others ≡ new.depths) ⊎ IsLess new.depths others
    first_of_behind others is same less = elim (cases_lt new.cost mid.cost) [
      | inl fell ↦ behind.first others is same fell
      | inr stayed ↦
          let no_more = behind.improves.no_more in
          let equal : new.cost ≡ mid.cost = omega arith in
          let depths = unchanged equal in
          let tried = front.improves.tried (omega (arith, equal, less)) in
          inr (subst (λ (ds : List ℕ). IsLess ds others) (sym depths) (in_order mid.depths others tried.0 is))
    ]

    first_either : (others : List ℕ) → A others ⊎ B others → cost others ≡ new.cost → new.cost < old.cost
        → (others ≡ new.depths) ⊎ IsLess new.depths others
    first_either others (inl is) same less = first_of_front others is same less
    first_either others (inr is) same less = first_of_behind others is same less

    pub best_of_both : IsBestOf cost C old new
    best_of_both =
        let no_more = behind.improves.no_more in
        let no_more_before = front.improves.no_more in
        record {
          improves = record {
            no_more = omega (arith, no_more, no_more_before);
            stays = λ same.
                let mid_same : mid.cost ≡ old.cost = omega (arith, no_more, no_more_before, same) in
                unchanged (same ∙ sym mid_same) ∙ front.improves.stays mid_same;
            tried = tried_either;
          };
          least = λ others is. least_either others (parts others is);
          first = λ others is same less. first_either others (parts others is) same less;
        }

-- ---- the lists that go on behind a front

-- with no more depths there is one
pub goes_on_one : (front : List ℕ) (below : ℕ) (others : List ℕ) → others ≡ front ++ 0 ∷ [] → GoesOn front 0 below others
goes_on_one front below others is = (0 ∷ [], is, (refl, refl))

ending_one : (below : ℕ) (ending : List ℕ) → IsEnding 0 below ending → ending ≡ 0 ∷ []
ending_one below [] is = absurd is
ending_one below (d ∷ ds) is = λ i. is.0 i ∷ is.1 i

pub one_goes_on : (front : List ℕ) (below : ℕ) (others : List ℕ) → GoesOn front 0 below others → others ≡ front ++ 0 ∷ []
one_goes_on front below others is = is.1 ∙ ap (λ (ds : List ℕ). front ++ ds) (ending_one below is.0 is.2)

-- above depth 1 there is none
ending_none : (more : ℕ) (ending : List ℕ) → IsEnding (suc more) 1 ending → ⊥
ending_none more [] is = is
ending_none more (d ∷ ds) is = let low = is.0 in let high = is.1 in absurd (omega (arith, low, high))

pub none_goes_on : (front : List ℕ) (more : ℕ) (others : List ℕ) → GoesOn front (suc more) 1 others → ⊥
none_goes_on front more others is = ending_none more is.0 is.2

-- one depth more may be the next
ending_parts : (more depth : ℕ) (ending : List ℕ) → IsEnding (suc more) (depth + 1) ending
    → IsEnding (suc more) depth ending ⊎ ((rest : List ℕ) × (ending ≡ depth ∷ rest) × IsEnding more depth rest)
ending_parts more depth [] is = absurd is
ending_parts more depth (d ∷ ds) is = elim (cases_lt d depth) [
  | inl lower ↦ inl (is.0, lower, is.2)
  | inr past ↦
      let bound = is.1 in
      let same : d ≡ depth = omega arith in
      inr (ds, ap (λ (n : ℕ). n ∷ ds) same, subst (λ (n : ℕ). IsEnding more n ds) same is.2)
]

module _ (front : List ℕ) (more depth : ℕ) where
  onto : (rest : List ℕ) → front ++ (depth ∷ rest) ≡ (front ++ depth ∷ []) ++ rest
  onto rest = sym (append_assoc front (depth ∷ []) rest)

  pub goes_on_parts : (others : List ℕ) → GoesOn front (suc more) (depth + 1) others
      → GoesOn front (suc more) depth others ⊎ GoesOn (front ++ depth ∷ []) more depth others
  goes_on_parts others is = elim (ending_parts more depth is.0 is.2) [
    | inl lower ↦ inl (is.0, is.1, lower)
    | inr here ↦ inr (here.0, is.1 ∙ ap (λ (ds : List ℕ). front ++ ds) here.1 ∙ onto here.0, here.2)
  ]

  ending_wider : (ending : List ℕ) → IsEnding (suc more) depth ending → IsEnding (suc more) (depth + 1) ending
  ending_wider [] is = is
  ending_wider (d ∷ ds) is = let high = is.1 in (is.0, omega (arith, high), is.2)

  pub goes_on_first : (others : List ℕ) → GoesOn front (suc more) depth others → GoesOn front (suc more) (depth + 1) others
  goes_on_first others is = (is.0, is.1, ending_wider is.0 is.2)

  pub goes_on_second : 1 ≤ depth → (others : List ℕ) → GoesOn (front ++ depth ∷ []) more depth others
      → GoesOn front (suc more) (depth + 1) others
  goes_on_second some others is = (depth ∷ is.0, is.1 ∙ sym (onto is.0), (some, omega arith, is.2))

  -- those with a lesser depth there come before
  ending_less : (ending rest first second : List ℕ) → IsEnding (suc more) depth ending → first ≡ front ++ ending
      → second ≡ front ++ (depth ∷ rest) → IsLess first second
  ending_less [] rest first second is first_is second_is = absurd is
  ending_less (d ∷ ds) rest first second is first_is second_is =
      let high = is.1 in
      record {
        place = length front;
        within = omega (arith, ap length first_is, length-append front (d ∷ ds));
        same = ap (take (length front)) first_is ∙ take-append_seam front (d ∷ ds) ∙ sym (take-append_seam front (depth ∷ rest))
            ∙ ap (take (length front)) (sym second_is);
        less =
            let a = ap (λ (xs : List ℕ). get_or xs (length front) 0) first_is ∙ get_or-append_seam front d ds 0 in
            let b = ap (λ (xs : List ℕ). get_or xs (length front) 0) second_is ∙ get_or-append_seam front depth rest 0 in
            omega (arith, a, b, high);
      }

  pub goes_on_less : (first second : List ℕ) → GoesOn front (suc more) depth first → GoesOn (front ++ depth ∷ []) more depth second
      → IsLess first second
  goes_on_less first second is later = ending_less is.0 later.0 first second is.2 is.1 (later.1 ∙ sym (onto later.0))

-- one depth more was tried
pub best_one_more : (cost : List ℕ → ℕ) (front : List ℕ) (more depth : ℕ) (old mid new : Choice) → 1 ≤ depth
    → IsBestOf cost (GoesOn front (suc more) depth) old mid → IsBestOf cost (GoesOn (front ++ depth ∷ []) more depth) mid new
    → IsBestOf cost (GoesOn front (suc more) (depth + 1)) old new
best_one_more cost front more depth old mid new some so_far next =
    best_of_both cost (GoesOn front (suc more) depth) (GoesOn (front ++ depth ∷ []) more depth) (GoesOn front (suc more) (depth + 1))
    old mid new (goes_on_parts front more depth) (goes_on_first front more depth) (goes_on_second front more depth some)
    (goes_on_less front more depth) so_far next

-- ---- levels

pairs_tail : (x : ℕ) (xs : List ℕ) → AllPairs (λ lower upper. upper < lower) (x ∷ xs) → AllPairs (λ lower upper. upper < lower) xs
pairs_tail x xs all = λ i j d less within. all (suc i) (suc j) d (omega arith) (omega arith)

pairs_head : (x : ℕ) (xs : List ℕ) → AllPairs (λ lower upper. upper < lower) (x ∷ xs) → All (λ upper. upper < x) xs
pairs_head x xs all = All-from_get_or (λ (upper : ℕ). upper < x) xs 0 (λ i h. all 0 (suc i) 0 (omega arith) (omega arith))

pair_at : (x : ℕ) (xs : List ℕ) → All (λ upper. upper < x) xs → AllPairs (λ lower upper. upper < lower) xs → (i j d : ℕ) → i < j
    → j < suc (length xs) → get_or (x ∷ xs) j d < get_or (x ∷ xs) i d
pair_at x xs head tail i zero d less within = absurd (omega arith)
pair_at x xs head tail zero (suc j) d less within = All-get_or (λ (upper : ℕ). upper < x) xs j d (omega arith) head
pair_at x xs head tail (suc i) (suc j) d less within = tail i j d (omega arith) (omega arith)

pairs_cons : (x : ℕ) (xs : List ℕ) → All (λ upper. upper < x) xs → AllPairs (λ lower upper. upper < lower) xs
    → AllPairs (λ lower upper. upper < lower) (x ∷ xs)
pairs_cons x xs head tail = λ i j d less within. pair_at x xs head tail i j d less within

-- a list of levels is an ending
ending_of : (lower : List ℕ) (below : ℕ) → AllPairs (λ lower upper. upper < lower) (lower ++ 0 ∷ []) → All (λ depth. depth < below) (lower
    ++ 0 ∷ []) → IsEnding (length lower) below (lower ++ 0 ∷ [])
ending_of [] below falling within = (refl, refl)
ending_of (d ∷ ds) below falling within =
    let last = falling 0 (length (d ∷ ds)) 0 (omega arith) (omega (arith, length-append ds (0 ∷ []))) in
    let is_zero : get_or (ds ++ 0 ∷ []) (length ds) 0 ≡ 0 = get_or-append_seam ds 0 [] 0 in (
      omega (arith, last, is_zero),
      All-head (λ (depth : ℕ). depth < below) d (ds ++ 0 ∷ []) within,
      ending_of ds d (pairs_tail d (ds ++ 0 ∷ []) falling) (pairs_head d (ds ++ 0 ∷ []) falling),
    )

pub levels_go_on : (described : Description) (more : ℕ) (depths : List ℕ) → AreLevels described depths → length depths ≡ more + 1
    → GoesOn [] more (depth_count described) depths
levels_go_on described more depths levels long =
    let size = ap length levels.ends in
    let same : length levels.lower ≡ more = omega (arith, size, length-append levels.lower (0 ∷ []), long) in (
      depths,
      refl,
      subst (λ (n : ℕ). IsEnding n (depth_count described) depths) same
          (subst (IsEnding (length levels.lower) (depth_count described)) (sym levels.ends)
          (ending_of levels.lower (depth_count described)
          (subst (AllPairs (λ lower upper. upper < lower)) levels.ends levels.falling)
          (subst (All (λ depth. depth < depth_count described)) levels.ends levels.within))),
    )

-- and an ending is a list of levels
record Ending (more below : ℕ) (depths : List ℕ) : Type 0 where
  long : length depths ≡ more + 1
  within : All (λ depth. depth < below) depths
  falling : AllPairs (λ lower upper. upper < lower) depths
  lower : List ℕ
  ends : depths ≡ lower ++ 0 ∷ []

ending_single : (below : ℕ) (depths : List ℕ) → 1 ≤ below → depths ≡ 0 ∷ [] → Ending 0 below depths
ending_single below depths some is = subst (Ending 0 below) (sym is) (record {
  long = refl;
  within = All-cons (λ (depth : ℕ). depth < below) 0 [] (omega arith) (All-nil (λ (depth : ℕ). depth < below));
  falling = λ i j d less within. absurd (omega arith);
  lower = [];
  ends = refl;
})

ending_is : (more below : ℕ) (depths : List ℕ) → 1 ≤ below → IsEnding more below depths → Ending more below depths
ending_is zero below depths some is = ending_single below depths some (ending_one below depths is)
ending_is (suc more) below [] some is = absurd is
ending_is (suc more) below (d ∷ ds) some is =
    let rest = ending_is more d ds is.0 is.2 in
    let high : d < below = is.1 in
    let size = rest.long in
    record {
      long = omega (arith, size);
      within = All-cons (λ (depth : ℕ). depth < below) d ds high
          (All-weaker (λ (depth : ℕ). depth < d) (λ (depth : ℕ). depth < below) (λ x h. omega arith) ds rest.within);
      falling = pairs_cons d ds rest.within rest.falling;
      lower = d ∷ rest.lower;
      ends = ap (λ (xs : List ℕ). d ∷ xs) rest.ends;
    }

pub goes_on_levels : (described : Description) (more : ℕ) (depths : List ℕ) → more + 1 ≤ level_limit
    → GoesOn [] more (depth_count described) depths → AreLevels described depths
goes_on_levels described more depths few is =
    let ending = ending_is more (depth_count described) is.0 (omega arith) is.2 in
    let size = ending.long in
    let same = is.1 in
    record {
      few = omega (arith, few, size, ap length same);
      within = subst (All (λ depth. depth < depth_count described)) (sym same) ending.within;
      falling = subst (AllPairs (λ lower upper. upper < lower)) (sym same) ending.falling;
      lower = ending.lower;
      ends = same ∙ ending.ends;
    }

pub goes_on_long : (described : Description) (more : ℕ) (depths : List ℕ) → GoesOn [] more (depth_count described) depths
    → length depths ≡ more + 1
goes_on_long described more depths is =
    ap length is.1 ∙ (ending_is more (depth_count described) is.0 (omega arith) is.2).long

module _ (described : Description) (front : List ℕ) where
  -- the last level
  pub front_ends : (below : ℕ) → CanGoOn described front 0 below → AreLevels described (front ++ 0 ∷ [])
  front_ends below can =
      let few = can.few in
      let some = can.some in
      record {
        few = omega (arith, few, length-append front (0 ∷ []));
        within = All-push (λ (depth : ℕ). depth < depth_count described) front 0 can.within (omega arith);
        falling = all_pairs_push (λ (lower upper : ℕ). upper < lower) front 0 can.falling (λ k d h.
            let high = All-get_or (λ (depth : ℕ). below ≤ depth) front k d h can.above in omega (arith, some, high));
        lower = front;
        ends = refl;
      }

  -- one level more
  pub front_grows : (more below depth : ℕ) → 1 ≤ depth → depth < below → CanGoOn described front (suc more) below
      → CanGoOn described (front ++ depth ∷ []) more depth
  front_grows more below depth some less can =
      let few = can.few in
      let bound = can.bound in
      record {
        few = omega (arith, few, length-append front (depth ∷ []));
        within = All-push (λ (d : ℕ). d < depth_count described) front depth can.within (omega (arith, less, bound));
        falling = all_pairs_push (λ (lower upper : ℕ). upper < lower) front depth can.falling (λ k d h.
            let high = All-get_or (λ (x : ℕ). below ≤ x) front k d h can.above in omega (arith, less, high));
        above = All-push (λ (d : ℕ). depth ≤ d) front depth
            (All-weaker (λ (d : ℕ). below ≤ d) (λ (d : ℕ). depth ≤ d) (λ x h. omega arith) front can.above) (omega arith);
        some = some;
        bound = omega (arith, less, bound);
      }

pub front_starts : (described : Description) (more : ℕ) → more + 1 ≤ level_limit → CanGoOn described [] more (depth_count described)
front_starts described more few = record {
  few = omega (arith, few);
  within = All-nil (λ (depth : ℕ). depth < depth_count described);
  falling = λ i j d less within. absurd (omega arith);
  above = All-nil (λ (depth : ℕ). depth_count described ≤ depth);
  some = omega arith;
  bound = omega arith;
}

pub machine_levels : (described : Description) → AreLevels described (0 ∷ [])
machine_levels described = goes_on_levels described 0 (0 ∷ []) (omega arith) (0 ∷ [], refl, (refl, refl))

-- ---- the cheapest list of so many levels at most

module _ (described : Description) (weights : List ℕ) (keep : ℕ) (trace : List ℕ) where
  abbrev cost : List ℕ → ℕ
  cost depths = cost_of described weights depths keep trace

  pub record CheapestUpTo (most : ℕ) (choice : Choice) : Type 0 where
    pub levels : AreLevels described choice.depths
    pub cost : choice.cost ≡ cost_of described weights choice.depths keep trace
    pub short : length choice.depths ≤ most
    pub least : (others : List ℕ) → AreLevels described others → length others ≤ most
        → choice.cost ≤ cost_of described weights others keep trace
    pub first : (others : List ℕ) → AreLevels described others → length others ≤ most → cost_of described weights others keep trace
        ≡ choice.cost → (others ≡ choice.depths) ⊎ ComesBefore choice.depths others

  only_machine : (others : List ℕ) → AreLevels described others → length others ≤ 1 → others ≡ 0 ∷ []
  only_machine others levels short =
      let size = ap length levels.ends in
      one_goes_on [] (depth_count described) others
      (levels_go_on described 0 others levels (omega (arith, size, length-append levels.lower (0 ∷ []), short)))

  pub cheapest_of_one : (choice : Choice) → choice.depths ≡ 0 ∷ [] → choice.cost ≡ cost choice.depths → CheapestUpTo 1 choice
  cheapest_of_one choice depths cost_is = record {
    levels = subst (AreLevels described) (sym depths) (machine_levels described);
    cost = cost_is;
    short = omega (arith, ap length depths);
    least = λ others levels short. let same = ap cost (only_machine others levels short ∙ sym depths) in omega (arith, cost_is, same);
    first = λ others levels short same. inl (only_machine others levels short ∙ sym depths);
  }

  module _ (most : ℕ) (old new : Choice) (few : most + 1 ≤ level_limit) (cheapest : CheapestUpTo most old)
      (best : IsBestOf cost (GoesOn [] most (depth_count described)) old new) where
    still_levels : (AreLevels described new.depths) × (new.cost ≡ cost new.depths) × (length new.depths ≤ most + 1)
    still_levels = elim (cases_lt new.cost old.cost) [
      | inl fell ↦
          let tried = best.improves.tried fell in
          let size = goes_on_long described most new.depths tried.0 in
          (goes_on_levels described most new.depths few tried.0, tried.1, omega (arith, size))
      | inr stayed ↦
          let no_more = best.improves.no_more in
          let same : new.cost ≡ old.cost = omega arith in
          let depths = best.improves.stays same in
          let short = cheapest.short in (
            subst (AreLevels described) (sym depths) cheapest.levels,
            same ∙ cheapest.cost ∙ ap cost (sym depths),
            omega (arith, short, ap length depths),
          )
    ]

    longest : (others : List ℕ) → length others ≤ most + 1 → most < length others → length others ≡ most + 1
    longest others short long = omega arith

    least_more : (others : List ℕ) → AreLevels described others → length others ≤ most + 1 → new.cost ≤ cost others
    least_more others levels short = elim (cases_lt most (length others)) [
      | inl long ↦ best.least others (levels_go_on described most others levels (omega arith))
      | inr shorter ↦
          let no_more = best.improves.no_more in
          let least = cheapest.least others levels shorter in
          omega (arith, no_more, least)
    ]

    -- where an old choice stays, a longer list comes behind it
    first_long : (others : List ℕ) → AreLevels described others → length others ≡ most + 1 → cost others ≡ new.cost
        → (others ≡ new.depths) ⊎ ComesBefore new.depths others
    first_long others levels long same = elim (cases_lt new.cost old.cost) [
      | inl fell ↦
          let tried = best.improves.tried fell in
          let size = goes_on_long described most new.depths tried.0 in
          behind (omega (arith, size, long)) (best.first others (levels_go_on described most others levels long) same fell)
      | inr stayed ↦
          let no_more = best.improves.no_more in
          let equal : new.cost ≡ old.cost = omega arith in
          let depths = best.improves.stays equal in
          let short = cheapest.short in
          inr (inl (omega (arith, short, long, ap length depths)))
    ]
      where
        behind : length new.depths ≡ length others → (others ≡ new.depths) ⊎ IsLess new.depths others
            → (others ≡ new.depths) ⊎ ComesBefore new.depths others
        behind size (inl is) = inl is
        behind size (inr less) = inr (inr (size, less))

    first_more : (others : List ℕ) → AreLevels described others → length others ≤ most + 1 → cost others ≡ new.cost
        → (others ≡ new.depths) ⊎ ComesBefore new.depths others
    first_more others levels short same = elim (cases_lt most (length others)) [
      | inl long ↦ first_long others levels (omega arith) same
      | inr shorter ↦
          let no_more = best.improves.no_more in
          let least = cheapest.least others levels shorter in
          let equal : new.cost ≡ old.cost = omega (arith, no_more, least, same) in
          let depths = best.improves.stays equal in
          subst (λ (ds : List ℕ). (others ≡ ds) ⊎ ComesBefore ds others) (sym depths) (cheapest.first others levels shorter (same ∙ equal))
    ]

    pub cheapest_of_more : CheapestUpTo (most + 1) new
    cheapest_of_more = record {
      levels = still_levels.0;
      cost = still_levels.1;
      short = still_levels.2;
      least = least_more;
      first = first_more;
    }

  pub cheapest_of_all : (choice : Choice) → CheapestUpTo 5 choice → IsCheapest described weights keep trace choice
  cheapest_of_all choice cheapest = record {
    levels = cheapest.levels;
    cost = cheapest.cost;
    least = λ others levels. cheapest.least others levels levels.few;
    first = λ others levels same. cheapest.first others levels levels.few same;
  }
