-- What the words of a choice say: the weights of the depths, and how often a level keeps the lock.
use Rattle.std.specs.Prelude.{◌≡◌, ℕ, ◌+◌, ◌-◌, ◌^◌, ◌≤◌, ◌==◌, List, length, map, All, Option, Some, None}
use Rattle.std.specs.List.{range_with_len, slice_split}
use Rattle.byte_text.specs.Numerals.{number_below, number_in}
use Rattle.synth_text.specs.declared.description.Description.{Description}
use Rattle.synth_text.specs.IndexTexts.{entries_of}
use Rattle.topo_tree.specs.Objects.{depth_count}

-- the greatest weight
abbrev pub weight_limit : ℕ
weight_limit = 1000000

-- the most turns in a row that a level keeps the lock for
abbrev pub keep_limit : ℕ
keep_limit = 65535

-- a weight: a decimal number from 1 to the limit
unfoldable pub weight_of : List ℕ → Option ℕ
weight_of text = number_in 1 weight_limit text

-- the numbers of a comma list, where each is a weight
abbrev pub listed_weights : List ℕ → Option (List ℕ)
listed_weights text = entries_of weight_of (slice_split (λ byte. byte == 44) text)

-- where none are given, taking a lock one depth further up weighs twice as much
unfoldable pub default_weights : ℕ → List ℕ
default_weights depths = map (λ depth. 2 ^ (depths - 1 - depth)) (range_with_len 0 depths)

-- the weights of the depths, Machine first: as many as there are depths
abbrev pub AreWeights : Description → Option (List ℕ) → List ℕ → Type 0
AreWeights described None weights = weights ≡ default_weights (depth_count described)
AreWeights described (Some text) weights = (listed_weights text ≡ Some weights) × (length weights ≡ depth_count described)

-- weights that a choice can use: one for each depth, each at most the limit
pub record Weighs (described : Description) (weights : List ℕ) : Type 0 where
  pub count : length weights ≡ depth_count described
  pub few : All (λ weight. weight ≤ weight_limit) weights

-- how often a level keeps the lock
unfoldable pub keep_of : List ℕ → Option ℕ
keep_of text = number_below (keep_limit + 1) text
