-- What callers have left, one command after another.
use Rattle.std.proofs.Common.{◌≡◌, ℕ, zero, suc, ◌+◌, cond, List, [], ◌∷◌, ◌++◌, length, drop, Some, refl, sym, ap, ◌∙◌, subst, arith}
use Rattle.std.specs.Prelude.{slice_get, slice_set, ◌==◌}
use Rattle.std.specs.List.{count_by}
use Rattle.std.proofs.lemmas.Bool.{eq-eqb, ne_eqb}
use Rattle.std.proofs.lemmas.List.Sums.{sum_by_push}
use mathlib.Core.Logic.{dite}
use native.Mathlib.Decide.{ℕ_discrete}
use Rattle.mc_text.specs.Request.{WholeCommand}
use Rattle.mc_text.specs.Reading.{commands_of}
use Rattle.mc_text.specs.Commands.{commands_left}
use Rattle.mc_text.specs.declared.commands.Commands.{Commands}
use Rattle.kv_history.specs.Log.{Log, IsNext, calls}
use Rattle.run_check.specs.Replays.{EachHasLeft, HasLeft}

module _ {A : Type 0} where
  -- an element that was written is there
  here : (xs : List A) (i : ℕ) (y z : A) → slice_get (slice_set xs i y) i ≡ Some z → z ≡ y
  here [] i y z is = cc
  here (x ∷ xs) zero y z is = cc
  here (x ∷ xs) (suc i) y z is = here xs i y z is

  -- and the others stay
  elsewhere : (xs : List A) (i j : ℕ) (y : A) → (j ≡ i → ⊥) → slice_get (slice_set xs i y) j ≡ slice_get xs j
  elsewhere [] i j y other = refl
  elsewhere (x ∷ xs) zero zero y other = absurd (other refl)
  elsewhere (x ∷ xs) zero (suc j) y other = refl
  elsewhere (x ∷ xs) (suc i) zero y other = refl
  elsewhere (x ∷ xs) (suc i) (suc j) y other = elsewhere xs i j y (λ e. other (ap suc e))

  as_many : (xs : List A) (i : ℕ) (y : A) → length (slice_set xs i y) ≡ length xs
  as_many [] i y = refl
  as_many (x ∷ xs) zero y = refl
  as_many (x ∷ xs) (suc i) y = ap suc (as_many xs i y)

  -- what a list has behind a place begins with what stands there
  next_at : (xs : List A) (k : ℕ) (x : A) (rest : List A) → drop k xs ≡ x ∷ rest → (slice_get xs k ≡ Some x) × (drop (k + 1) xs ≡ rest)
  next_at [] zero x rest e = absurd (cc)
  next_at [] (suc k) x rest e = absurd (cc)
  next_at (y ∷ ys) zero x rest e = ((let same : y ≡ x = cc in ap Some same), cc)
  next_at (y ∷ ys) (suc k) x rest e =
      let tail = next_at ys k x rest e in
      let one : suc k + 1 ≡ suc (k + 1) = omega arith in
      (tail.0, ap (λ n. drop n (y ∷ ys)) one ∙ tail.1)

  none_at : (xs : List A) (k : ℕ) (x : A) → drop k xs ≡ [] → slice_get xs k ≡ Some x → ⊥
  none_at [] k x none is = cc
  none_at (y ∷ ys) zero x none is = cc
  none_at (y ∷ ys) (suc k) x none is = none_at ys k x none is

-- how often a caller stands in a list, with one more
pub count_push : (caller other : ℕ) (xs : List ℕ)
    → count_by (λ one. one == caller) (xs ++ other ∷ []) ≡ count_by (λ one. one == caller) xs + cond (other == caller) 1 0
count_push caller other xs = sum_by_push (λ (one : ℕ). cond (one == caller) 1 0) xs other

module _ (sections : List (List ℕ)) (before : List ℕ) (caller : ℕ) (left : List WholeCommand) (has : HasLeft sections before caller left)
  where
    -- the first of the commands left is the caller's next
    pub next_is : (command : WholeCommand) (more : List WholeCommand) → left ≡ command ∷ more → IsNext sections before caller command
    next_is command more is = record {
      section = has.section;
      place = has.place;
      next = (next_at (commands_of has.section) (count_by (λ other. other == caller) before) command more (sym has.left_is ∙ is)).0;
    }

    -- without one there is none
    pub no_next : left ≡ [] → (command : WholeCommand) → IsNext sections before caller command → ⊥
    no_next none command next =
        let one = has.place in
        let two = next.place in
        let same : next.section ≡ has.section = cc in
        none_at (commands_of has.section) (count_by (λ other. other == caller) before) command (sym has.left_is ∙ none)
        (ap (λ (section : List ℕ). slice_get (commands_of section) (count_by (λ other. other == caller) before)) (sym same) ∙ next.next)

    -- the others are left behind it
    pub left_behind : (command : WholeCommand) (more : List WholeCommand) → left ≡ command ∷ more
        → HasLeft sections (before ++ caller ∷ []) caller more
    left_behind command more is =
        let k = count_by (λ other. other == caller) before in
        let raised : count_by (λ other. other == caller) (before ++ caller ∷ []) ≡ k + 1 =
        count_push caller caller before ∙ ap (λ b. k + cond b 1 0) (eq-eqb caller caller refl) in
        record {
          section = has.section;
          place = has.place;
          left_is = sym (next_at (commands_of has.section) k command more (sym has.left_is ∙ is)).1
              ∙ ap (λ n. drop n (commands_of has.section)) (sym raised);
        }

    -- where another caller gives one, they stay
    pub left_stays : (other : ℕ) → (caller ≡ other → ⊥) → HasLeft sections (before ++ other ∷ []) caller left
    left_stays other differs =
        let k = count_by (λ one. one == caller) before in
        let same : count_by (λ one. one == caller) (before ++ other ∷ []) ≡ k =
        count_push caller other before ∙ ap (λ b. k + cond b 1 0) (ne_eqb other caller (λ e. differs (sym e))) ∙ (omega arith) in
        record {
          section = has.section;
          place = has.place;
          left_is = has.left_is ∙ ap (λ n. drop n (commands_of has.section)) (sym same);
        }

-- a caller has given its next command
pub one_given : (log after : Log) (left : List Commands) (caller : ℕ) (old new : Commands) (command : WholeCommand) → EachHasLeft log left
    → slice_get left caller ≡ Some old → commands_left old ≡ command ∷ commands_left new → after.sections ≡ log.sections
    → calls after ≡ calls log ++ caller ∷ [] → EachHasLeft after (slice_set left caller new)
one_given log after left caller old new command has place cut sections called = record {
  many = as_many left caller new ∙ has.many ∙ ap length (sym sections);
  each = λ w commands is. subst (λ (at : List (List ℕ) × List ℕ). HasLeft at.0 at.1 w (commands_left commands))
      (λ i. (sym sections i, sym called i))
      (dite (ℕ_discrete w caller)
      (λ same. let is_there : slice_get (slice_set left caller new) caller ≡ Some commands =
      ap (slice_get (slice_set left caller new)) (sym same) ∙ is in
      let new_is : commands ≡ new = here left caller new commands is_there in
      subst (λ (v : ℕ). HasLeft log.sections (calls log ++ caller ∷ []) v (commands_left commands)) (sym same)
      (subst (λ (c : Commands). HasLeft log.sections (calls log ++ caller ∷ []) caller (commands_left c)) (sym new_is)
      (left_behind log.sections (calls log) caller (commands_left old) (has.each caller old place) command (commands_left new) cut)))
      (λ other. left_stays log.sections (calls log) w (commands_left commands)
      (has.each w commands (sym (elsewhere left caller w new other) ∙ is)) caller other));
}
