-- What callers have left at the start, and at the end.
use Rattle.std.proofs.Common.{◌≡◌, ℕ, zero, suc, ◌≤◌, List, [], ◌∷◌, length, drop, map, Some, refl, sym, ap, ◌∙◌, subst, arith}
use Rattle.std.specs.Prelude.{slice_get, ◌==◌}
use Rattle.std.specs.Borrow.{Bor}
use Rattle.std.specs.List.{count_by, sum_by}
use Rattle.std.proofs.lemmas.List.{length-append, length-drop, length-map}
use Rattle.std.proofs.lemmas.List.Sums.{sum_by-cons}
use Rattle.mc_text.specs.Request.{WholeCommand}
use Rattle.mc_text.specs.Reading.{commands_of}
use Rattle.mc_text.specs.Commands.{commands_left}
use Rattle.mc_text.specs.declared.commands.Commands.{Commands}
use Rattle.kv_history.specs.Log.{Log, EachOwnFirst, calls, own}
use Rattle.kv_history.proofs.Next.{count-own}
use Rattle.run_texts.specs.declared.section.Section.{Section}
use Rattle.run_check.specs.Replays.{AllGiven, EachHasLeft, HasLeft}

-- the bytes of lent sections
pub sum_lent : (texts : List (Bor (List ℕ)))
    → sum_by (λ (one : Bor (List ℕ)). length one.now) texts ≡ sum_by (λ (one : List ℕ). length one) (map (λ one. one.now) texts)
sum_lent [] = refl
sum_lent (text ∷ texts) =
    omega (
      arith,
      sum_lent texts,
      sum_by-cons (λ (one : Bor (List ℕ)). length one.now) text texts,
      sum_by-cons (λ (one : List ℕ). length one) text.now (map (λ one. one.now) texts),
    )

pub sum_sections : (sections : List Section)
    → sum_by (λ (section : Section). length section.bytes.now) sections
    ≡ sum_by (λ (one : List ℕ). length one) (map (λ section. section.bytes.now) sections)
sum_sections [] = refl
sum_sections (section ∷ sections) =
    omega (
      arith,
      sum_sections sections,
      sum_by-cons (λ (one : Section). length one.bytes.now) section sections,
      sum_by-cons (λ (one : List ℕ). length one) section.bytes.now (map (λ one. one.bytes.now) sections),
    )

pub commands_by : (sections : List Section)
    → map (λ section. commands_of section.bytes.now) sections ≡ map commands_of (map (λ section. section.bytes.now) sections)
commands_by [] = refl
commands_by (section ∷ sections) = ap (λ rest. commands_of section.bytes.now ∷ rest) (commands_by sections)

-- an element of two lists that are read alike
alike : {A B C : Type 0} (f : A → C) (g : B → C) (xs : List A) (ys : List B) (k : ℕ) (x : A) → map f xs ≡ map g ys
    → slice_get xs k ≡ Some x → (y : B) × (slice_get ys k ≡ Some y) × (f x ≡ g y)
alike f g [] ys k x same is = cc
alike f g (a ∷ xs) [] k x same is = cc
alike f g (a ∷ xs) (b ∷ ys) zero x same is =
    let one : a ≡ x = cc in
    let both : f a ≡ g b = cc in
    (b, refl, ap f (sym one) ∙ both)
alike f g (a ∷ xs) (b ∷ ys) (suc k) x same is = let rest : map f xs ≡ map g ys = cc in alike f g xs ys k x rest is

-- before any call, each caller has all commands of its section left
pub all_left : (log : Log) (left : List Commands) → map commands_left left ≡ map commands_of log.sections → log.entries ≡ []
    → EachHasLeft log left
all_left log left same none = record {
  many = sym (length-map left commands_left) ∙ ap length same ∙ length-map log.sections commands_of;
  each = λ caller commands is.
      let found = alike commands_left commands_of left log.sections caller commands same is in
      let no_calls : calls log ≡ [] = ap (map (λ entry. entry.caller)) none in
      record {
        section = found.0;
        place = found.1;
        left_is = found.2
            ∙ ap (λ (before : List ℕ). drop (count_by (λ other. other == caller) before) (commands_of found.0)) (sym no_calls);
      };
}

-- nothing is left behind a place that is no longer within a list
drop_none : {A : Type 0} (xs : List A) (k : ℕ) → drop k xs ≡ [] → length xs ≤ k
drop_none xs k none = omega (arith, length-drop k xs, ap length none)

-- a caller gives no more commands than its section has
within_own : (log : Log) (caller : ℕ) (section : List ℕ) → EachOwnFirst log → slice_get log.sections caller ≡ Some section
    → count_by (λ other. other == caller) (calls log) ≤ length (commands_of section)
within_own log caller section own_first place =
    let first = own_first caller section place in
    omega (arith, ap length first.1, length-append (own log.entries caller) first.0, count-own log.entries caller)

-- where a caller has nothing left, it has given all
pub none_left : (log : Log) (caller : ℕ) (section : List ℕ) (left : List WholeCommand) → EachOwnFirst log
    → HasLeft log.sections (calls log) caller left → left ≡ [] → slice_get log.sections caller ≡ Some section
    → count_by (λ other. other == caller) (calls log) ≡ length (commands_of section)
none_left log caller section left own_first has none place =
    let one = has.place in
    let same : has.section ≡ section = cc in
    let over = drop_none (commands_of has.section) (count_by (λ other. other == caller) (calls log)) (sym has.left_is ∙ none) in
    let enough : length (commands_of section) ≤ count_by (λ other. other == caller) (calls log) =
    subst (λ (s : List ℕ). length (commands_of s) ≤ count_by (λ other. other == caller) (calls log)) same over in
    omega (arith, enough, within_own log caller section own_first place)

-- where it has a command left, it hasn't
pub some_left : (log : Log) (caller : ℕ) (command : WholeCommand) (more left : List WholeCommand)
    → HasLeft log.sections (calls log) caller left → left ≡ command ∷ more → AllGiven log → ⊥
some_left log caller command more left has is all =
    let given = all caller has.section has.place in
    omega (
      arith,
      given,
      length-drop (count_by (λ other. other == caller) (calls log)) (commands_of has.section),
      ap length (sym has.left_is ∙ is),
    )
