-- Whether a turn may follow others, and whether a hold makes a line, is settled.
use Rattle.std.proofs.Common.{◌≡◌, ℕ, zero, suc, ◌+◌, ◌^◌, ◌<◌, ◌≤◌, true, false, ◌⊎◌, List, [], length, slice_index, Option, Some, None}
use Rattle.std.proofs.Common.{inl, inr, refl, sym, ap, ◌∙◌, subst, arith}
use Rattle.std.specs.Prelude.{nat_eq, IfSome}
use Rattle.std.specs.Cmp.Lexicographic.{pointwise}
use Rattle.std.specs.Int.{bit_at}
use Rattle.std.proofs.lemmas.Bool.{cases_Bool, cases_lt}
use Rattle.std.proofs.lemmas.Bool.Decides.{Decides-eqb}
use Rattle.std.proofs.lemmas.List.{append-nil}
use Rattle.std.proofs.lemmas.Nat.Bits.{bit_at_above}
use Rattle.std.proofs.lemmas.Slice.Eq.{slice_eq-Decides}
use mathlib.Core.Logic.{dite}
use native.Mathlib.Decide.{ℕ_discrete}
use Rattle.keep_local.specs.declared.shape.Shape.{Shape}
use Rattle.keep_local.specs.declared.turn.Turn.{Turn}
use Rattle.keep_local.specs.Laws.{left_of, turn_after}
use Rattle.keep_local.specs.Shapes.{node_of, top_of}
use Rattle.keep_local.specs.Turns.{AreUnderOneNode, Follows, IsDue, IsLeft, last_turn, run}
use Rattle.keep_local.proofs.Lawful.{left_is}
use Rattle.mc_text.specs.Request.{WholeCommand}
use Rattle.kv_history.specs.Answer.{reply_of, store_of}
use Rattle.run_texts.specs.Callers.{Placed}
use Rattle.run_texts.specs.Text.{Hold, Told, commands_behind, next_command, turn_line}
use Rattle.run_texts.proofs.Printed.{below_own_power}
use Rattle.run_check.specs.Made.{MakesLine, callers_of, next_turn, turns_of}
use Rattle.run_check.specs.Readings.{told_hold}
use Rattle.run_check.proofs.Makings.{made_told}

-- a fact holds, or it doesn't
abbrev pub Settled : Type 0 → Type 0
Settled Fact = Fact ⊎ (Fact → ⊥)

pub equal : (m n : ℕ) → Settled (m ≡ n)
equal m n = dite (ℕ_discrete m n) (λ same. inl same) (λ other. inr other)

pub same_text : (xs ys : List ℕ) → Settled (xs ≡ ys)
same_text xs ys =
    elim (cases_Bool (pointwise nat_eq xs ys)) [
      | inl same ↦ inl ((slice_eq-Decides Decides-eqb xs ys true (sym same)).0 refl)
      | inr other ↦ inr (λ is. let also : false ≡ true = (slice_eq-Decides Decides-eqb xs ys false (sym other)).1 is in cc)
    ]

-- ---- turns

due_settled : (shape : Shape) (before : List Turn) (tests level : ℕ) → Settled (IsDue shape before tests level)
due_settled shape before tests level =
    elim (equal (bit_at tests level) 1) [
      | inr clear ↦ inr (λ due. clear due.queued)
      | inl set ↦ elim (cases_lt (run level before) (slice_index shape.keeps level)) [
        | inl below ↦ inl (record { queued = set; below = below })
        | inr kept ↦ inr (λ due. omega (arith, due.below, kept))
      ]
    ]

-- a level to leave at
left_from : (shape : Shape) (before : List Turn) (tests more level : ℕ) → more + level ≡ top_of shape
    → ((k : ℕ) → k < level → ¬ IsDue shape before tests k) → (left : ℕ) × IsLeft shape before tests left
left_from shape before tests zero level all least = (
  level,
  record {
    within = omega (arith, all);
    due = λ below. absurd (omega (arith, all, below));
    least = least;
  },
)
left_from shape before tests (suc more) level all least =
    elim (due_settled shape before tests level) [
      | inl due ↦ (level, record { within = omega (arith, all); due = λ below. due; least = least })
      | inr none ↦ left_from shape before tests more (suc level) (omega (arith, all)) (λ k below.
          elim (cases_lt k level) [
            | inl earlier ↦ least k earlier
            | inr last ↦
                let same : level ≡ k = omega (arith, below, last) in
                subst (λ (j : ℕ). ¬ IsDue shape before tests j) same none
          ])
    ]

left_there : (shape : Shape) (before : List Turn) (tests : ℕ) → IsLeft shape before tests (left_of shape before tests)
left_there shape before tests =
    let found = left_from shape before tests (top_of shape) 0 (omega arith) (λ k below. absurd (omega (arith, below))) in
    subst (IsLeft shape before tests) (sym (left_is shape before tests found.0 found.1)) found.1

abbrev Fitting : ℕ → ℕ → ℕ → ℕ → Type 0
Fitting tests left top level = bit_at tests level ≡ 1 → (level ≤ left) × (level < top)

one_fits : (tests left top level : ℕ) → Settled (Fitting tests left top level)
one_fits tests left top level =
    elim (equal (bit_at tests level) 1) [
      | inr clear ↦ inl (λ set. absurd (clear set))
      | inl set ↦ elim (cases_lt left level) [
        | inl over ↦ inr (λ fits. let within = (fits set).0 in omega (arith, within, over))
        | inr within ↦ elim (cases_lt level top) [
          | inl below ↦ inl (λ _. (within, below))
          | inr high ↦ inr (λ fits. let below = (fits set).1 in omega (arith, below, high))
        ]
      ]
    ]

fits_below : (tests left top n : ℕ) → Settled ((level : ℕ) → level < n → Fitting tests left top level)
fits_below tests left top zero = inl (λ level below. absurd (omega (arith, below)))
fits_below tests left top (suc n) =
    elim (fits_below tests left top n) [
      | inr none ↦ inr (λ all. none (λ level below. all level (omega (arith, below))))
      | inl lower ↦ elim (one_fits tests left top n) [
        | inr none ↦ inr (λ all. none (all n (omega arith)))
        | inl last ↦ inl (λ level below. elim (cases_lt level n) [
          | inl less ↦ lower level less
          | inr here ↦
              let same : n ≡ level = omega (arith, below, here) in subst (Fitting tests left top) same last
        ])
      ]
    ]

fits_settled : (tests left top : ℕ) → Settled ((level : ℕ) → Fitting tests left top level)
fits_settled tests left top =
    elim (fits_below tests left top tests) [
      | inr none ↦ inr (λ all. none (λ level below. all level))
      | inl lower ↦ inl (λ level. elim (cases_lt level tests) [
        | inl below ↦ lower level below
        | inr high ↦ λ set. absurd (let clear = bit_at_above tests tests level (below_own_power tests) high in omega (arith, set, clear))
      ])
    ]

near_settled : (shape : Shape) (level : ℕ) (turn : Turn) (last : Option Turn)
    → Settled (IfSome last (λ l. AreUnderOneNode shape level turn l))
near_settled shape level turn None = inl tt
near_settled shape level turn (Some last) = equal (node_of shape turn.caller level) (node_of shape last.caller level)

follows_settled : (shape : Shape) (before : List Turn) (caller tests : ℕ)
    → Settled (Follows shape before (turn_after shape before caller tests))
follows_settled shape before caller tests =
    let turn = turn_after shape before caller tests in
    elim (near_settled shape turn.climb turn (last_turn before)) [
      | inr apart ↦ inr (λ follows. apart follows.begins.near)
      | inl near ↦ elim (fits_settled tests turn.left (top_of shape)) [
        | inr other ↦ inr (λ follows. other follows.ends.tests)
        | inl fits ↦ inl (record {
          begins = record { climb = refl; near = near };
          ends = record { left = left_there shape before tests; tests = fits };
        })
      ]
    ]

-- ---- lines

module _ (sections : List Placed) (shape : Shape) (few : length sections < 2 ^ 32) (low : top_of shape ≤ 32) (before : List Hold)
    (given : List WholeCommand) (given_are : commands_behind sections [] (callers_of before) ≡ Some given) (line : List ℕ) where
  abbrev Makes : Hold → Type 0
  Makes hold = MakesLine sections shape before hold line

  -- whether the hold with this next command does
  by_command : (hold : Hold) (next : Option WholeCommand) → next_command sections (callers_of before) hold.caller ≡ next
      → Settled (Makes hold)
  by_command hold None is = inr (λ made. let also = made.next in cc)
  by_command hold (Some command) is =
      let one : Told = record {
        turn = next_turn shape before hold;
        command = command.spelling;
        reply = reply_of (store_of given) command.request;
      } in
      elim (follows_settled shape (turns_of shape before) hold.caller hold.tests) [
        | inr unlawful ↦ inr (λ made. unlawful made.lawful)
        | inl lawful ↦ elim (same_text line (turn_line sections (length before) one)) [
          | inl same ↦ inl (record {
            given = given;
            given_are = given_are;
            command = command;
            next = is;
            lawful = lawful;
            line_is = same;
          })
          | inr other ↦ inr (λ made.
              let a = made.given_are in
              let b = made.next in
              let given_same : made.given ≡ given = cc in
              let command_same : made.command ≡ command = cc in
              other (made.line_is ∙ (λ i. turn_line sections (length before) (record {
                turn = next_turn shape before hold;
                command = (command_same i).spelling;
                reply = reply_of (store_of (given_same i)) (command_same i).request;
              }))))
        ]
      ]

  abbrev Found : Type 0
  Found = ((hold : Hold) × Makes hold) ⊎ ((hold : Hold) → Makes hold → ⊥)

  made_by : (hold : Hold) → Makes hold → told_hold line ≡ Some hold
  made_by hold made = ap told_hold (sym (append-nil line)) ∙ made_told sections shape before hold line [] made few low

  by_told : (told : Option Hold) → told_hold line ≡ told → Found
  by_told None is = inr (λ hold made. let there = made_by hold made in cc)
  by_told (Some hold) is =
      elim (by_command hold (next_command sections (callers_of before) hold.caller) refl) [
        | inl made ↦ inl (hold, made)
        | inr none ↦ inr (λ other made.
            let there = made_by other made in
            let same : other ≡ hold = cc in
            none (subst (λ (h : Hold). MakesLine sections shape before h line) same made))
      ]

  -- some hold makes the line, or none does
  pub line_settled : Found
  line_settled = by_told (told_hold line) refl
