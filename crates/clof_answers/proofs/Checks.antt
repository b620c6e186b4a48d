-- Bytes have one answer of `check` or one refusal, and the answer is `yes` exactly where they hold the text of a run.
use Rattle.std.proofs.Common.{◌≡◌, ◌≤◌, ℕ, false, List, [], ◌∷◌, length, map, inl, inr, refl, sym, ap, ◌∙◌, subst, arith}
use Rattle.synth_text.specs.declared.description.Description.{Description}
use Rattle.keep_local.specs.declared.shape.Shape.{Shape}
use Rattle.lock_plan.specs.declared.plan.Plan.{Plan}
use Rattle.lock_plan.specs.Plans.{IsPlanFor}
use Rattle.lock_plan.proofs.Plans.{plan_is_for}
use Rattle.run_texts.specs.Callers.{Placed}
use Rattle.run_check.specs.declared.verdict.Verdict.{Verdict}
use Rattle.run_check.specs.declared.verdict.Verdict.TheVariants.{Yes, No}
use Rattle.run_check.specs.Broken.{IsFirstBroken}
use Rattle.run_check.specs.Pairs.{ArePair}
use Rattle.run_check.proofs.Once.{broken_once}
use Rattle.run_check.proofs.RunLines.{no_broken}
use Rattle.command_words.specs.Asked.{Checking, as_run}
use Rattle.command_texts.specs.declared.status.Status.{Status}
use Rattle.plan_texts.specs.RunPlan.{PlanOf}
use Rattle.clof_answers.specs.Checking.{pair_limit, verdict_text, BreaksRun, BreaksUnder, Judges, RefusesPair, RefusesWhole}
use Rattle.clof_answers.specs.Checking.{TellsChecked, TellsVerdict}
use Rattle.clof_answers.specs.Laws.{OneCheckRefusal, OneText, TextOrRefusal, YesWhereRun}
use Rattle.clof_answers.specs.Run.{PrintsSections, PrintsUnder, RefusesSections}
use Rattle.clof_answers.proofs.Judgements.{form_only, parts_only, sections_refused_once}
use Rattle.clof_answers.proofs.Pairs.{input_within, one_pair}
use Rattle.clof_answers.proofs.Plans.{few_levels, plan_same, shape_same}
use Rattle.clof_answers.proofs.SectionRuns.{described_once, few_sections, sections_not, sections_same}

module _ (described : Description) (plan : Plan) (planned : IsPlanFor described plan) (input printed : List ℕ) where
  -- the lines of a run are not broken
  run_whole : (line : ℕ) → PrintsUnder false described plan input printed → BreaksUnder described plan input printed line → ⊥
  run_whole line prints breaks =
      let sections = prints.sections in
      let pus = map (λ (section : Placed). section.pu) sections in
      let runs = prints.runs in
      let same : breaks.sections ≡ sections =
      sections_same described input breaks.sections sections breaks.are prints.are in
      let broken : BreaksRun described plan sections printed line =
      subst (λ (s : List Placed). BreaksRun described plan s printed line) same breaks.breaks in
      let shapes : broken.shape ≡ runs.shape = shape_same described plan pus broken.shape runs.shape broken.shape_is runs.shape_is in
      no_broken sections runs.shape printed (omega (arith, few_sections described input sections prints.are))
      (few_levels described plan pus runs.shape planned runs.shape_is) runs.run line
      (subst (λ (s : Shape). IsFirstBroken sections s printed line) shapes broken.broken)

  -- one line is the first broken one
  line_once : (line other : ℕ) → BreaksUnder described plan input printed line → BreaksUnder described plan input printed other
      → line ≡ other
  line_once line other first second =
      let sections = first.sections in
      let pus = map (λ (section : Placed). section.pu) sections in
      let one = first.breaks in
      let same : second.sections ≡ sections =
      sections_same described input second.sections sections second.are first.are in
      let two : BreaksRun described plan sections printed other =
      subst (λ (s : List Placed). BreaksRun described plan s printed other) same second.breaks in
      let shapes : two.shape ≡ one.shape = shape_same described plan pus two.shape one.shape two.shape_is one.shape_is in
      broken_once sections one.shape printed line other (omega (arith, few_sections described input sections first.are))
      (few_levels described plan pus one.shape planned one.shape_is) one.broken
      (subst (λ (s : Shape). IsFirstBroken sections s printed other) shapes two.broken)

  -- so there is one verdict
  verdict_once : (one other : Verdict) → Judges described plan input printed one → Judges described plan input printed other
      → one ≡ other
  verdict_once Yes Yes first second = refl
  verdict_once Yes (No line) first second = absurd (run_whole line first second)
  verdict_once (No line) Yes first second = absurd (run_whole line second first)
  verdict_once (No line) (No other) first second = ap No (line_once line other first second)

-- a plan that is asked for is one for its topology
asked_plan_for : (described : Description) (asked : Checking) (plan : Plan) → PlanOf described (as_run asked) plan
    → IsPlanFor described plan
asked_plan_for described asked plan is =
    plan_is_for described (as_run asked).locks asked.keep plan is.levels_are is.kinds_are is.keeps_are

-- what is said of the parts of a pair is said of those of another one of the same bytes
moved : (described : Description) (plan : Plan) (bytes input printed other after : List ℕ) (verdict : Verdict)
    → ArePair bytes input printed → ArePair bytes other after → Judges described plan input printed verdict
    → Judges described plan other after verdict
moved described plan bytes input printed other after verdict first second judges =
    let same = one_pair bytes input printed other after first second in
    subst (λ (p : List ℕ). Judges described plan other p verdict) same.1
    (subst (λ (i : List ℕ). Judges described plan i printed verdict) same.0 judges)

-- bytes have one text under the lock of a plan
told_once : (described : Description) (plan : Plan) (bytes text other : List ℕ) → IsPlanFor described plan
    → TellsVerdict described plan bytes text → TellsVerdict described plan bytes other → text ≡ other
told_once described plan bytes text other planned first second =
    let same = verdict_once described plan planned second.input second.printed first.verdict second.verdict
    (moved described plan bytes first.input first.printed second.input second.printed first.verdict first.pair second.pair first.judges)
    second.judges in
    first.text_is ∙ ap verdict_text same ∙ sym second.text_is

-- and one for what is asked for
checked_once : (described : Description) (asked : Checking) (bytes text other : List ℕ) → TellsChecked described asked bytes text
    → TellsChecked described asked bytes other → text ≡ other
checked_once described asked bytes text other first second =
    let same : second.plan ≡ first.plan =
    plan_same described (as_run asked) second.plan first.plan second.plan_is first.plan_is in
    told_once described first.plan bytes text other (asked_plan_for described asked first.plan first.plan_is) first.tells
    (subst (λ (p : Plan). TellsVerdict described p bytes other) same second.tells)

pub one_text : OneText
one_text asked bytes text other first second =
    let same = described_once asked.description second.1.described first.1.described second.1.built.describes first.1.built.describes in
    checked_once first.1.described asked bytes text other first.1.holds
    (subst (λ (d : Description). TellsChecked d asked bytes other) same second.1.holds)

-- ---- yes

abbrev first_byte : List ℕ → ℕ
first_byte [] = 0
first_byte (byte ∷ bytes) = byte

-- only one verdict is told as yes
yes_alone : (verdict : Verdict) → verdict_text verdict ≡ verdict_text Yes → verdict ≡ Yes
yes_alone Yes is = refl
yes_alone (No line) is = let one : 110 ≡ 121 = ap first_byte is in absurd (omega (arith, one))

-- where yes is told, the text is one that a run prints
yes_runs : (described : Description) (asked : Checking) (bytes input printed text : List ℕ) → ArePair bytes input printed
    → TellsChecked described asked bytes text → text ≡ verdict_text Yes → PrintsSections described (as_run asked) input printed
yes_runs described asked bytes input printed text pair told says =
    let tells = told.tells in
    let verdict : tells.verdict ≡ Yes = yes_alone tells.verdict (sym tells.text_is ∙ says) in
    let judges = moved described told.plan bytes tells.input tells.printed input printed tells.verdict tells.pair pair tells.judges in
    record { plan = told.plan; plan_is = told.plan_is; prints = subst (Judges described told.plan input printed) verdict judges }

-- where a run prints the text, yes is told
runs_yes : (described : Description) (asked : Checking) (bytes input printed text : List ℕ) → ArePair bytes input printed
    → TellsChecked described asked bytes text → PrintsSections described (as_run asked) input printed → text ≡ verdict_text Yes
runs_yes described asked bytes input printed text pair told prints =
    let tells = told.tells in
    let plans : prints.plan ≡ told.plan = plan_same described (as_run asked) prints.plan told.plan prints.plan_is told.plan_is in
    let runs : PrintsUnder false described told.plan input printed =
    subst (λ (p : Plan). PrintsUnder false described p input printed) plans prints.prints in
    let judges = moved described told.plan bytes tells.input tells.printed input printed tells.verdict tells.pair pair tells.judges in
    let same = verdict_once described told.plan (asked_plan_for described asked told.plan told.plan_is) input printed tells.verdict Yes
    judges runs in
    tells.text_is ∙ ap verdict_text same

pub yes_where_run : YesWhereRun
yes_where_run asked bytes input printed text pair told = (
  λ says. (
    input_within bytes input printed pair,
    record {
      described = told.1.described;
      built = told.1.built;
      holds = yes_runs told.1.described asked bytes input printed text pair told.1.holds says;
    },
  ),
  λ prints.
      let same = described_once asked.description prints.1.described told.1.described prints.1.built.describes told.1.built.describes in
      runs_yes told.1.described asked bytes input printed text pair told.1.holds
      (subst (λ (d : Description). PrintsSections d (as_run asked) input printed) same prints.1.holds),
)

-- ---- refusals

refused_once : (described : Description) (bytes : List ℕ) (status other : Status) → RefusesPair described bytes status
    → RefusesPair described bytes other → status ≡ other
refused_once described bytes status other (inl form) second =
    form.status_is ∙ form_only described bytes form.fault other form.refused second
refused_once described bytes status other (inr parts) second =
    sections_refused_once described parts.input status other parts.refused
    (parts_only described bytes parts.input parts.printed other parts.pair second)

whole_once : (described : Description) (bytes : List ℕ) (status other : Status) → RefusesWhole described bytes status
    → RefusesWhole described bytes other → status ≡ other
whole_once described bytes status other (inl long) (inl also) = long.1 ∙ sym also.1
whole_once described bytes status other (inl long) (inr short) = absurd (omega (arith, long.0, short.0))
whole_once described bytes status other (inr short) (inl long) = absurd (omega (arith, long.0, short.0))
whole_once described bytes status other (inr first) (inr second) = refused_once described bytes status other first.1 second.1

not_refused : (described : Description) (asked : Checking) (bytes text : List ℕ) (status : Status)
    → length bytes ≤ pair_limit → TellsChecked described asked bytes text → RefusesWhole described bytes status → ⊥
not_refused described asked bytes text status short told (inl long) = omega (arith, short, long.0)
not_refused described asked bytes text status short told (inr broken) =
    let tells = told.tells in
    are_sections tells.verdict tells.judges
    (parts_only described bytes tells.input tells.printed status tells.pair broken.1)
  where
    are_sections : (verdict : Verdict) → Judges described told.plan told.tells.input told.tells.printed verdict
        → RefusesSections described told.tells.input status → ⊥
    are_sections Yes prints refuses = sections_not described told.tells.input prints.sections status prints.are refuses
    are_sections (No line) breaks refuses = sections_not described told.tells.input breaks.sections status breaks.are refuses

pub one_check_refusal : OneCheckRefusal
one_check_refusal asked bytes status other first second =
    let same = described_once asked.description second.described first.described second.built.describes first.built.describes in
    whole_once first.described bytes status other first.holds.1
    (subst (λ (d : Description). RefusesWhole d bytes other) same second.holds.1)

pub check_or_refusal : TextOrRefusal
check_or_refusal asked bytes text status told refuses =
    let same = described_once asked.description refuses.described told.1.described refuses.built.describes told.1.built.describes in
    not_refused told.1.described asked bytes text status told.0 told.1.holds
    (subst (λ (d : Description). RefusesWhole d bytes status) same refuses.holds.1)
