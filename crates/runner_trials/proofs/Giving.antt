-- One command more.
use Rattle.std.proofs.Common.{◌≡◌, ◌≢◌, ℕ, ◌+◌, Bool, cond, List, [], ◌∷◌, ◌++◌, length, Some, refl, sym, ap, ◌∙◌}
use Rattle.std.proofs.Common.{append_assoc, length-append, arith}
use Rattle.std.specs.Prelude.{slice_get, ◌==◌}
use Rattle.std.specs.List.{count_by}
use Rattle.std.proofs.lemmas.Bool.{eq-eqb, ne_eqb}
use Rattle.std.proofs.lemmas.List.Sums.{sum_by-append, sum_by-cons}
use Rattle.mc_text.specs.Request.{WholeCommand}
use Rattle.keep_local.specs.declared.turn.Turn.{Turn}
use Rattle.keep_local.specs.States.{callers_in}
use Rattle.kv_history.specs.Log.{IsNext, Log, calls}
use Rattle.runner_trials.specs.Giving.{HasLeft}

seam : (before : List WholeCommand) (one : WholeCommand) (behind : List WholeCommand)
    → slice_get (before ++ one ∷ behind) (length before) ≡ Some one
seam [] one behind = refl
seam (first ∷ before) one behind = seam before one behind

-- the first command that is left is the next one
pub is_next : (sections : List (List ℕ)) (calls : List ℕ) (caller : ℕ) (command : WholeCommand) (left all : List WholeCommand)
    → HasLeft sections calls caller all → all ≡ command ∷ left → IsNext sections calls caller command
is_next sections calls caller command left all has is = record {
  section = has.section;
  place = has.place;
  next = (λ i. slice_get (has.commands_are i) (sym has.count i))
      ∙ ap (λ (rest : List WholeCommand). slice_get (has.given ++ rest) (length has.given)) is
      ∙ seam has.given command left;
}

count-push : (caller other : ℕ) (calls : List ℕ) → count_by (λ one. one == caller) (calls ++ other ∷ [])
    ≡ count_by (λ one. one == caller) calls + cond (other == caller) 1 0
count-push caller other calls =
    let both = sum_by-append (λ (one : ℕ). cond (one == caller) 1 0) calls (other ∷ []) in
    let last = sum_by-cons (λ (one : ℕ). cond (one == caller) 1 0) other [] in
    omega (arith, both, last)

-- the caller has given it
pub given_more : (sections now : List (List ℕ)) (calls after : List ℕ) (caller : ℕ) (command : WholeCommand)
    (left all : List WholeCommand) → HasLeft sections calls caller all → all ≡ command ∷ left → now ≡ sections
    → after ≡ calls ++ caller ∷ [] → HasLeft now after caller left
given_more sections now calls after caller command left all has is same called =
    let before = count_by (λ one. one == caller) calls in
    let one : before + cond (caller == caller) 1 0 ≡ before + 1 =
    ap (λ (b : Bool). before + cond b 1 0) (eq-eqb caller caller refl) in
    record {
      section = has.section;
      given = has.given ++ command ∷ [];
      place = ap (λ (all : List (List ℕ)). slice_get all caller) same ∙ has.place;
      commands_are = has.commands_are ∙ ap (λ (rest : List WholeCommand). has.given ++ rest) is
          ∙ sym (append_assoc has.given (command ∷ []) left);
      count = omega (
        arith,
        length-append has.given (command ∷ []),
        has.count,
        count-push caller caller calls,
        one,
        ap (count_by (λ one. one == caller)) called,
      );
    }

-- another caller has given a command
pub left_same : (sections now : List (List ℕ)) (calls after : List ℕ) (caller other : ℕ) (left : List WholeCommand)
    → HasLeft sections calls caller left → now ≡ sections → after ≡ calls ++ other ∷ [] → other ≢ caller
    → HasLeft now after caller left
left_same sections now calls after caller other left has same called differs =
    let before = count_by (λ one. one == caller) calls in
    let none : before + cond (other == caller) 1 0 ≡ before + 0 =
    ap (λ (b : Bool). before + cond b 1 0) (ne_eqb other caller differs) in
    record {
      section = has.section;
      given = has.given;
      place = ap (λ (all : List (List ℕ)). slice_get all caller) same ∙ has.place;
      commands_are = has.commands_are;
      count = omega (arith, has.count, count-push caller other calls, none, ap (count_by (λ one. one == caller)) called);
    }

-- two callers have given commands in the order of some turns
pub record HavePlayed (first second : List ℕ) (turns : List Turn) (log : Log) (firsts seconds : List WholeCommand) : Type 0 where
  pub same : log.sections ≡ first ∷ second ∷ []
  pub called : calls log ≡ callers_in turns
  pub first_left : HasLeft log.sections (calls log) 0 firsts
  pub second_left : HasLeft log.sections (calls log) 1 seconds

-- a call more
pub record OneCall (log now : Log) (caller : ℕ) (left : List WholeCommand) : Type 0 where
  pub sections : now.sections ≡ log.sections
  pub called : calls now ≡ calls log ++ caller ∷ []
  pub rest : HasLeft now.sections (calls now) caller left

called_more : (turns more : List Turn) (log now : Log) (caller : ℕ) (left : List WholeCommand) → calls log ≡ callers_in turns
    → callers_in more ≡ callers_in turns ++ caller ∷ [] → OneCall log now caller left → calls now ≡ callers_in more
called_more turns more log now caller left called is one = one.called ∙ ap (λ before. before ++ caller ∷ []) called ∙ sym is

pub first_plays : (first second : List ℕ) (turns more : List Turn) (log now : Log) (firsts seconds left : List WholeCommand)
    → HavePlayed first second turns log firsts seconds → callers_in more ≡ callers_in turns ++ 0 ∷ [] → OneCall log now 0 left
    → HavePlayed first second more now left seconds
first_plays first second turns more log now firsts seconds left played is one = record {
  same = one.sections ∙ played.same;
  called = called_more turns more log now 0 left played.called is one;
  first_left = one.rest;
  second_left = left_same log.sections now.sections (calls log) (calls now) 1 0 seconds played.second_left one.sections one.called
      (λ same. omega (arith, same));
}

pub second_plays : (first second : List ℕ) (turns more : List Turn) (log now : Log) (firsts seconds left : List WholeCommand)
    → HavePlayed first second turns log firsts seconds → callers_in more ≡ callers_in turns ++ 1 ∷ [] → OneCall log now 1 left
    → HavePlayed first second more now firsts left
second_plays first second turns more log now firsts seconds left played is one = record {
  same = one.sections ∙ played.same;
  called = called_more turns more log now 1 left played.called is one;
  first_left = left_same log.sections now.sections (calls log) (calls now) 0 1 firsts played.first_left one.sections one.called
      (λ same. omega (arith, same));
  second_left = one.rest;
}
