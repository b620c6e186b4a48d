-- Texts that are written part by part.
use Rattle.std.proofs.Common.{
  ◌≡◌,
  ℕ,
  ◌<◌,
  ◌+◌,
  List,
  [],
  ◌∷◌,
  ◌++◌,
  codes,
  refl,
  sym,
  ap,
  ◌∙◌,
  append_assoc,
  None,
  Some,
  Option,
  option_map,
}
use Rattle.std.specs.Prelude.{decimal, flat_map, is_ok, Err, Ok, OnOk, Result, if◌then◌else◌}
use Rattle.std.specs.List.{AllByRecursion}
use Rattle.std.specs.Option.{option_map_or}
use Rattle.std.specs.FinMap.{get}
use Rattle.std.proofs.lemmas.List.{flat_map_more}
use Rattle.kv_history.specs.Contents.{Contents, Item}
use Rattle.drill_text.specs.Drill.{below, drill_text, heading, key_line, key_name, keys, opening, drill_sum}
use Rattle.drill_text.specs.Sums.{HoldsSums, line_in}
use Rattle.drill_text.proofs.Numbers.{below_more, below_within}

-- what is written where there is memory
pub if_ok : {T E : Type 0} (result : Result T E) (new written kept : List ℕ) → new ≡ (if is_ok result then written else kept)
    → OnOk result (new ≡ written)
if_ok (Ok value) new written kept is = is
if_ok (Err fault) new written kept is = tt

-- two parts around the digits of a number
in_parts : (before front digits behind : List ℕ) → ((before ++ front) ++ digits) ++ behind ≡ before ++ (front ++ (digits ++ behind))
in_parts before front digits behind = simp append_assoc

pub opening_is : (key n : ℕ) (before a b c : List ℕ) → n ≡ key → a ≡ before ++ codes "add k" → b ≡ a ++ decimal n
    → c ≡ b ++ codes " 0 0 1 noreply\r\n0\r\n" → c ≡ before ++ opening key
unfolding opening
opening_is key n before a b c same first second third =
    third
    ∙ ap (λ (front : List ℕ). front ++ codes " 0 0 1 noreply\r\n0\r\n")
    (second ∙ ap (λ (front : List ℕ). front ++ decimal n) first ∙ ap (λ (k : ℕ). (before ++ codes "add k") ++ decimal k) same)
    ∙ in_parts before (codes "add k") (decimal key) (codes " 0 0 1 noreply\r\n0\r\n")

pub heading_is : (drill n : ℕ) (before a b c : List ℕ) → n ≡ drill → a ≡ before ++ codes "drill " → b ≡ a ++ decimal n
    → c ≡ b ++ codes " callers 64 commands 20512\n" → c ≡ before ++ heading drill
unfolding heading
heading_is drill n before a b c same first second third =
    third
    ∙ ap (λ (front : List ℕ). front ++ codes " callers 64 commands 20512\n")
    (second ∙ ap (λ (front : List ℕ). front ++ decimal n) first ∙ ap (λ (k : ℕ). (before ++ codes "drill ") ++ decimal k) same)
    ∙ in_parts before (codes "drill ") (decimal drill) (codes " callers 64 commands 20512\n")

-- the part of one number more
pub one_more : (f : ℕ → List ℕ) (before now after : List ℕ) (n : ℕ) → now ≡ before ++ flat_map f (below n) → after ≡ now ++ f n
    → after ≡ before ++ flat_map f (below (n + 1))
one_more f before now after n is pushed =
    pushed ∙ ap (λ (front : List ℕ). front ++ f n) is ∙ flat_map_more f before (below n) n
    ∙ ap (λ (all : List ℕ). before ++ flat_map f all) (sym (below_more n))

-- ---- the lines of the keys

line_is : (drill : ℕ) (store : Contents) (key : ℕ)
    → option_map (λ (item : Item). item.block) (get store.items (key_name key)) ≡ Some (decimal (drill_sum drill key))
    → line_in store key ≡ key_line drill key
unfolding line_in key_line
line_is drill store key is =
    ap (λ (block : List ℕ). key_name key ++ (codes " " ++ (block ++ codes "\n"))) (chosen (get store.items (key_name key)) is)
  where
    chosen : (found : Option Item) → option_map (λ (item : Item). item.block) found ≡ Some (decimal (drill_sum drill key))
        → option_map_or (λ (item : Item). item.block) found [] ≡ decimal (drill_sum drill key)
    chosen None is = absurd (cc)
    chosen (Some item) is = cc

lines_are : (drill : ℕ) (store : Contents) (some : List ℕ) → HoldsSums drill store → AllByRecursion (λ key. key < keys) some
    → flat_map (line_in store) some ≡ flat_map (key_line drill) some
lines_are drill store [] holds within = refl
lines_are drill store (key ∷ more) holds within =
    ap (λ (line : List ℕ). line ++ flat_map (line_in store) more) (line_is drill store key (holds key within.0))
    ∙ ap (λ (rest : List ℕ). key_line drill key ++ rest) (lines_are drill store more holds within.1)

pub text_is : (drill : ℕ) (store : Contents) (a b c : List ℕ) → HoldsSums drill store → a ≡ [] → b ≡ a ++ heading drill
    → c ≡ b ++ flat_map (line_in store) (below keys) → c ≡ drill_text drill
unfolding drill_text
text_is drill store a b c holds first second third =
    third
    ∙ ap (λ (front : List ℕ). front ++ flat_map (line_in store) (below keys))
    (second ∙ ap (λ (front : List ℕ). front ++ heading drill) first)
    ∙ ap (λ (lines : List ℕ). heading drill ++ lines) (lines_are drill store (below keys) holds (below_within keys))
