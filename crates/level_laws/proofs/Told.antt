-- Where the turn of a receipt stands.
use Rattle.std.proofs.Common.{◌≡◌, ℕ, List, [], ◌∷◌, ◌++◌, refl, ◌∙◌, ap}
use Rattle.keep_local.specs.ReceiptRule.{AreFirst}
use Rattle.keep_local.specs.States.{all_tests}
use Rattle.keep_local.specs.declared.turn.Turn.{Turn}
use Rattle.clof_compose.specs.Calls.{ClosesWith}
use Rattle.clof_compose.specs.declared.report.Report.{Report}
use Rattle.clof_compose.specs.declared.root.Root.{Root}
use Rattle.level_laws.specs.Laws.{HasTestsBehind}

cons_tail : (a b : ℕ) (xs ys : List ℕ) → a ∷ xs ≡ b ∷ ys → (a ≡ b) × (xs ≡ ys)
cons_tail a b xs ys e = (cc, cc)

nil_cons : {A : Type 0} (b : ℕ) (ys : List ℕ) → [] ≡ b ∷ ys → A
nil_cons b ys e = absurd (cc)

-- the turn whose tests stand behind those of some turns
tests_behind : (before turns : List Turn) (tests : ℕ) (behind : List ℕ) → all_tests turns ≡ (all_tests before ++ tests ∷ []) ++ behind
    → HasTestsBehind before tests turns
tests_behind [] [] tests behind e = nil_cons tests behind e
tests_behind [] (u ∷ us) tests behind e = record { turn = u; is = refl; tests_are = (cons_tail u.tests tests (all_tests us) behind e).0 }
tests_behind (t ∷ ts) [] tests behind e = nil_cons t.tests ((all_tests ts ++ tests ∷ []) ++ behind) e
tests_behind (t ∷ ts) (u ∷ us) tests behind e =
    let found = tests_behind ts us tests behind (cons_tail u.tests t.tests (all_tests us) ((all_tests ts ++ tests ∷ []) ++ behind) e).1 in
    record { turn = found.turn; is = found.is; tests_are = found.tests_are }

pub stands_there : {P : Type 0} (turns : List Turn) (level : ℕ) (report : Report) (before : Root P)
    → AreFirst report.receipt.tests (all_tests turns) → ClosesWith level report before
    → HasTestsBehind before.trail.closed report.tests turns
stands_there turns level report before first closes =
    tests_behind before.trail.closed turns report.tests first.behind (first.all_are ∙ ap (λ (ts : List ℕ). ts ++ first.behind) closes.told)
