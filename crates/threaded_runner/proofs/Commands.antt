-- The commands that a caller has left.
use Rattle.std.proofs.Common.{◌≡◌, ℕ, zero, suc, ◌+◌, ◌<◌, List, [], ◌∷◌, length, drop, ap, sym, ◌∙◌, arith, Some}
use Rattle.std.specs.Prelude.{slice_get}
use Rattle.lock_rules.specs.Tag.{Tag}
use Rattle.keep_local.specs.States.{ShareState}
use Rattle.mc_text.specs.Request.{WholeCommand}
use Rattle.mc_text.specs.Reading.{commands_of}
use Rattle.threaded_runner.specs.Jobs.{HasLeft, IsCommandAt}

-- what a list begins with behind a place stands there, and the others stand behind it
next_at : {A : Type 0} (xs : List A) (k : ℕ) (x : A) (rest : List A) → drop k xs ≡ x ∷ rest → (slice_get xs k ≡ Some x)
    × (drop (k + 1) xs ≡ rest) × (k < length xs)
next_at [] zero x rest e = absurd (cc)
next_at [] (suc k) x rest e = absurd (cc)
next_at (y ∷ ys) zero x rest e = ((let same : y ≡ x = cc in ap Some same), cc, omega arith)
next_at (y ∷ ys) (suc k) x rest e =
    let tail = next_at ys k x rest e in
    let one : suc k + 1 ≡ suc (k + 1) = omega arith in
    let within = tail.2 in
    (tail.0, ap (λ n. drop n (y ∷ ys)) one ∙ tail.1, omega (arith, within))

-- behind a place at which something stands, something is left
some_left : {A : Type 0} (xs : List A) (k : ℕ) → k < length xs → drop k xs ≡ [] → ⊥
some_left [] k within none = omega (arith, within)
some_left (x ∷ xs) zero within none = cc
some_left (x ∷ xs) (suc k) within none = some_left xs k (omega (arith, within)) none

module _ (payload : Tag) (share : ShareState) (commands : List WholeCommand) (left : HasLeft payload share commands) where
  -- a caller that may hold once more has a command left
  pub not_empty : share.made < share.quota → commands ≡ [] → ⊥
  not_empty below none =
      let quota = left.quota in some_left (commands_of left.section) share.made (omega (arith, below, quota)) (sym left.left ∙ none)

  -- the next one is the command at the place of the turns made
  pub next_command : (command : WholeCommand) (behind : List WholeCommand) → commands ≡ command ∷ behind
      → IsCommandAt payload share.caller share.made command
  next_command command behind cut = record {
    section = left.section;
    is_section = left.is_section;
    is_command = (next_at (commands_of left.section) share.made command behind (sym left.left ∙ cut)).0;
  }

  -- and the others are left behind it
  pub left_behind : (command : WholeCommand) (behind : List WholeCommand) → commands ≡ command ∷ behind
      → HasLeft payload (record share { made = share.made + 1 }) behind
  left_behind command behind cut =
      let next = next_at (commands_of left.section) share.made command behind (sym left.left ∙ cut) in
      let within = next.2 in
      let quota = left.quota in record {
        section = left.section;
        is_section = left.is_section;
        quota = left.quota;
        within = omega (arith, within, quota);
        left = sym next.1;
      }
