-- What is printed is the text of a run.
use Rattle.std.proofs.Common.{◌≡◌, ℕ, zero, suc, ◌+◌, ◌-◌, ◌*◌, ◌/◌, ◌%◌, ◌^◌, ◌<◌, ◌≤◌, inl, inr, cond, List, [], ◌∷◌, ◌++◌}
use Rattle.std.proofs.Common.{length, map, Some, refl, sym, ap, ◌∙◌, subst, append_assoc, arith}
use Rattle.std.specs.Prelude.{slice_get, IfSome, ◌==◌}
use Rattle.std.specs.Int.{bit_at}
use Rattle.std.specs.List.{All, AllByRecursion, count_by}
use Rattle.std.proofs.lemmas.List.{length-map}
use Rattle.std.proofs.lemmas.List.Elements.{All-cons, All-head, All-map, All-nil, All-tail, recursion_from_All}
use Rattle.std.proofs.lemmas.List.Sums.{sum_by-append, sum_by-cons}
use Rattle.std.proofs.lemmas.Bool.{cases_lt, eq-eqb}
use Rattle.std.proofs.lemmas.Nat.{div-mul-add}
use Rattle.std.proofs.Math.Nat.{pow-suc}
use Rattle.std.proofs.Math.Pow.{pow_mono}
use Rattle.keep_local.specs.declared.shape.Shape.{Shape}
use Rattle.keep_local.specs.declared.turn.Turn.{Turn}
use Rattle.keep_local.specs.Shapes.{top_of}
use Rattle.keep_local.specs.States.{callers_in}
use Rattle.keep_local.specs.Turns.{FollowEachOther, IsLawful, last_turn, turns_of}
use Rattle.keep_local.specs.Laws.{turn_after}
use Rattle.keep_local.proofs.Lawful.{turn_is_fixed_lem}
use Rattle.mc_text.specs.Request.{WholeCommand}
use Rattle.mc_text.specs.Reading.{commands_of}
use Rattle.kv_history.specs.Log.{Log, EachHasSection, calls}
use Rattle.run_texts.specs.Callers.{Placed}
use Rattle.run_texts.specs.Text.{Hold, commands_behind, next_command, run_text, text_of, turns_behind, turns_text}
use Rattle.run_texts.specs.Printed.{IsRun}
use Rattle.run_texts.proofs.Histories.{CanBeHeld, IsSmall, holds_once}
use Rattle.run_texts.proofs.Texts.{there}

-- the hold of a turn
abbrev pub hold_of : Turn → Hold
hold_of turn = record { caller = turn.caller; tests = turn.tests }

-- turns that follow each other are those behind their holds
pub turns_are : (shape : Shape) (before turns : List Turn) → FollowEachOther shape before turns
    → turns_behind shape before (map hold_of turns) ≡ turns
turns_are shape before [] follow = refl
turns_are shape before (turn ∷ turns) follow =
    let is : turn ≡ turn_after shape before turn.caller turn.tests = turn_is_fixed_lem shape before turn follow.0 in
    (λ i. sym is i ∷ turns_behind shape (before ++ sym is i ∷ []) (map hold_of turns))
    ∙ ap (λ (rest : List Turn). turn ∷ rest) (turns_are shape (before ++ turn ∷ []) turns follow.1)

callers_held : (turns : List Turn) → map (λ (hold : Hold). hold.caller) (map hold_of turns) ≡ callers_in turns
callers_held [] = refl
callers_held (turn ∷ turns) = ap (λ rest. turn.caller ∷ rest) (callers_held turns)

-- so their text is that of a run
text_of_run : (sections : List Placed) (shape : Shape) (turns : List Turn) → IsLawful shape turns
    → turns_text sections turns ≡ run_text sections shape (map hold_of turns)
unfolding turns_text run_text
text_of_run sections shape turns lawful =
    λ i. text_of sections (sym (turns_are shape [] turns lawful) i) (commands_behind sections [] (sym (callers_held turns) i))

pub count-held : (caller : ℕ) (turns : List Turn)
    → count_by (λ (hold : Hold). hold.caller == caller) (map hold_of turns) ≡ turns_of caller turns
count-held caller [] = refl
count-held caller (turn ∷ turns) =
    sum_by-cons (λ (hold : Hold). cond (hold.caller == caller) 1 0) (hold_of turn) (map hold_of turns)
    ∙ ap (λ n. cond (turn.caller == caller) 1 0 + n) (count-held caller turns)
    ∙ sym (sum_by-cons (λ (t : Turn). cond (t.caller == caller) 1 0) turn turns)

All-unmap : {A B : Type 0} (P : B → Type 0) (f : A → B) (xs : List A) → All P (map f xs) → All (λ x. P (f x)) xs
All-unmap P f [] all = All-nil (λ x. P (f x))
All-unmap P f (x ∷ xs) all =
    All-cons (λ x. P (f x)) x xs (All-head P (f x) (map f xs) all) (All-unmap P f xs (All-tail P (f x) (map f xs) all))

-- Lawful turns of a journal's callers, the last of which leaves at the top, are a run where each caller has as many turns as its section
-- has commands
pub is_run : (sections : List Placed) (shape : Shape) (turns : List Turn) (log : Log)
    → log.sections ≡ map (λ section. section.bytes) sections → EachHasSection log → callers_in turns ≡ calls log → IsLawful shape turns
    → IfSome (last_turn turns) (λ t. t.left ≡ top_of shape)
    → ((caller : ℕ) (section : Placed) → slice_get sections caller ≡ Some section
    → turns_of caller turns ≡ length (commands_of section.bytes))
    → IsRun sections shape (turns_text sections turns)
is_run sections shape turns log same callers called lawful ends each =
    let n = length sections in
    let size : length log.sections ≡ n = ap length same ∙ length-map sections (λ (section : Placed). section.bytes) in
    let within : All (λ (caller : ℕ). caller < n) (calls log) =
    All-map (λ (caller : ℕ). caller < n) (λ entry. entry.caller) log.entries
    (subst (λ (k : ℕ). All (λ entry. entry.caller < k) log.entries) size callers) in
    let those : All (λ (turn : Turn). turn.caller < n) turns =
    All-unmap (λ (caller : ℕ). caller < n) (λ (turn : Turn). turn.caller) turns
    (subst (λ (all : List ℕ). All (λ (caller : ℕ). caller < n) all) (sym called) within) in
    let are = turns_are shape [] turns lawful in
    record {
      holds = map hold_of turns;
      callers = All-map (λ (hold : Hold). hold.caller < n) hold_of turns those;
      each_own = λ caller section place. count-held caller turns ∙ each caller section place;
      printed_is = text_of_run sections shape turns lawful;
      lawful = subst (IsLawful shape) (sym are) lawful;
      ends = subst (λ (all : List Turn). IfSome (last_turn all) (λ t. t.left ≡ top_of shape)) (sym are) ends;
    }

-- ---- the holds of a run are those of its text alone

-- a place within a list
element : {A : Type 0} (xs : List A) (place : ℕ) → place < length xs → (x : A) × (slice_get xs place ≡ Some x)
element [] place within = absurd (omega arith)
element (x ∷ xs) zero within = (x, refl)
element (x ∷ xs) (suc place) within = element xs place (omega arith)

-- callers that don't come more often than their sections have commands can give them
given : (sections : List Placed) (before callers : List ℕ) → AllByRecursion (λ caller. caller < length sections) callers
    → ((caller : ℕ) (section : Placed) → slice_get sections caller ≡ Some section
    → count_by (λ other. other == caller) (before ++ callers) ≤ length (commands_of section.bytes))
    → (commands : List WholeCommand) × (commands_behind sections before callers ≡ Some commands)
given sections before [] within few = ([], refl)
given sections before (caller ∷ callers) within few =
    let found = there sections caller within.0 in
    let is_caller = λ (other : ℕ). other == caller in
    let one : count_by is_caller (caller ∷ callers) ≡ 1 + count_by is_caller callers =
    sum_by-cons (λ (other : ℕ). cond (other == caller) 1 0) caller callers
    ∙ ap (λ b. cond b 1 0 + count_by is_caller callers) (eq-eqb caller caller refl) in
    let both : count_by is_caller (before ++ caller ∷ callers) ≡ count_by is_caller before + count_by is_caller (caller ∷ callers) =
    sum_by-append (λ (other : ℕ). cond (other == caller) 1 0) before (caller ∷ callers) in
    let enough : count_by is_caller before < length (commands_of found.0.bytes) =
    omega (arith, one, both, few caller found.0 found.1) in
    let next = element (commands_of found.0.bytes) (count_by is_caller before) enough in
    let later = given sections (before ++ caller ∷ []) callers within.1
    (λ other section place. subst (λ (all : List ℕ). count_by (λ one. one == other) all ≤ length (commands_of section.bytes))
    (sym (append_assoc before (caller ∷ []) callers)) (few other section place)) in
    let next_is : next_command sections before caller ≡ Some next.0 = rw found.1 next.1 in
    (next.0 ∷ later.0, rw (next_is, later.1) refl)

-- a number whose bits stand below a place is small
pub below_power : (k m n : ℕ) → ((level : ℕ) → bit_at n level ≡ 1 → level < k) → n < 2 ^ m → n < 2 ^ k
below_power k zero n bits small = omega (arith, small, pow_mono {i = 0} {j = k} (omega arith))
below_power k (suc m) n bits small =
    elim (cases_lt n (2 ^ m)) [
      | inl low ↦ below_power k m n bits low
      | inr high ↦
          let one : n / 2 ^ m ≡ 1 = quotient_one n (2 ^ m) high (omega (arith, small, pow-suc 2 m)) in
          let within = bits m (ap (λ (q : ℕ). q % 2) one) in
          omega (arith, small, pow_mono {i = suc m} {j = k} (omega (arith, within)))
    ]
  where
    quotient_one : (n w : ℕ) → w ≤ n → n < w + w → n / w ≡ 1
    quotient_one n w low high =
        let is : n ≡ 1 * w + (n - w) = omega arith in
        ap (λ (k : ℕ). k / w) is ∙ div-mul-add 1 w (n - w) (omega arith)

-- a number is below as high a power of two
pub below_own_power : (n : ℕ) → n < 2 ^ n
below_own_power zero = omega arith
below_own_power (suc n) = omega (arith, below_own_power n, pow-suc 2 n)

small_holds : (shape : Shape) (before : List Turn) (holds : List Hold) (callers : ℕ) → callers ≤ 2 ^ 32 → top_of shape ≤ 32
    → AllByRecursion (λ hold. hold.caller < callers) holds → FollowEachOther shape before (turns_behind shape before holds)
    → AllByRecursion IsSmall holds
small_holds shape before [] callers few low within follow = tt
small_holds shape before (hold ∷ holds) callers few low within follow = (
  record {
    caller = omega (arith, within.0);
    tests = below_power 32 hold.tests hold.tests (λ level set. omega (arith, (follow.0.ends.tests level set).1, low))
        (below_own_power hold.tests);
  },
  small_holds shape (before ++ turn_after shape before hold.caller hold.tests ∷ []) holds callers few low within.1 follow.1,
)

pub count-callers : (caller : ℕ) (holds : List Hold)
    → count_by (λ other. other == caller) (map (λ (hold : Hold). hold.caller) holds)
    ≡ count_by (λ (hold : Hold). hold.caller == caller) holds
count-callers caller [] = refl
count-callers caller (hold ∷ holds) =
    sum_by-cons (λ (other : ℕ). cond (other == caller) 1 0) hold.caller (map (λ (hold : Hold). hold.caller) holds)
    ∙ ap (λ n. cond (hold.caller == caller) 1 0 + n) (count-callers caller holds)
    ∙ sym (sum_by-cons (λ (h : Hold). cond (h.caller == caller) 1 0) hold holds)

pub can_be_held : (sections : List Placed) (shape : Shape) (printed : List ℕ) → length sections ≤ 2 ^ 32 → top_of shape ≤ 32
    → (run : IsRun sections shape printed) → CanBeHeld sections run.holds
can_be_held sections shape printed few low run =
    let n = length sections in
    let within = recursion_from_All (λ (hold : Hold). hold.caller < n) run.holds run.callers in
    let callers = recursion_from_All (λ (caller : ℕ). caller < n) (map (λ (hold : Hold). hold.caller) run.holds)
    (All-map (λ (caller : ℕ). caller < n) (λ (hold : Hold). hold.caller) run.holds run.callers) in
    let all = given sections [] (map (λ (hold : Hold). hold.caller) run.holds) callers
    (λ caller section place. omega (arith, count-callers caller run.holds, run.each_own caller section place)) in
    record {
      commands = all.0;
      are = all.1;
      small = small_holds shape [] run.holds n few low within run.lawful;
    }

pub one_history_lem : (sections : List Placed) (shape : Shape) (printed : List ℕ) → length sections ≤ 2 ^ 32 → top_of shape ≤ 32
    → (one other : IsRun sections shape printed) → one.holds ≡ other.holds
one_history_lem sections shape printed few low one other =
    holds_once sections shape one.holds other.holds (can_be_held sections shape printed few low one)
    (can_be_held sections shape printed few low other) (sym one.printed_is ∙ other.printed_is)
